-- In the core form no driver and no reset is left.
use Rattle.std.proofs.Common.{◌≡◌, Bool, true, false, not, ◌||◌, ℕ, List, [], ◌∷◌, ◌++◌, map, refl, ap, subst, ◌∙◌}
use Rattle.std.specs.Prelude.{flat_map}
use Rattle.tl_ast.specs.declared.tree.DriverKind.{DriverKind}
use Rattle.tl_ast.specs.declared.tree.DriverKind.TheVariants.{Enqueue, EnqueueNow, EnqueueSeq, ExpectDequeue, ExpectDequeueNow, ExpectDequeueSeq, ExpectInvalid}
use Rattle.tl_ast.specs.declared.tree.TestExpr.{TestExpr}
use Rattle.tl_ast.specs.declared.tree.TestStmt.{TestStmt}
use Rattle.tl_ast.specs.declared.tree.TestStmt.TheFolds.{fold-roll-TestStmt, ind-TestStmt, map-TestStmt}
use Rattle.tl_ast.specs.declared.tree.TestStmt.TheViews.{roll-TestStmt}
use Rattle.tl_ast.specs.declared.tree.TestStmt.TheOpen as S
use Rattle.tl_ast.specs.declared.tree.TestStmt.TheOpen.{TestStmt-F}
use Rattle.tl_ast.specs.declared.tree.TestText.{TestText}
use Rattle.tl_check.specs.CoreTests.{some_true, drives, is_core}
use Rattle.tl_check.proofs.Unrolled.{unrolled}
use Rattle.tl_drivers.specs.Rows.{enqueue, enqueue_now, expect_dequeue, expect_dequeue_now, driver, reset}
use Rattle.tl_drivers.specs.Core.{core_level, core, core_body, core_of}
use Rattle.tl_drivers.proofs.Lists.{some_both, either_false}

abbrev IsFree : List TestStmt → Type 0
IsFree ss = some_true (map drives ss) ≡ false

free_both : (xs ys : List TestStmt) → IsFree xs → IsFree ys → IsFree (xs ++ ys)
free_both xs ys p q = some_both drives xs ys ∙ either_false (some_true (map drives xs)) (some_true (map drives ys)) p q

each_free : (row : TestExpr → List TestStmt) → ((e : TestExpr) → IsFree (row e)) → (values : List TestExpr) → IsFree (flat_map row values)
each_free row h [] = refl
each_free row h (v ∷ vs) = free_both (row v) (flat_map row vs) (h v) (each_free row h vs)

driver_free : (l : ℕ) (kind : DriverKind) (p : List ℕ) (values : List TestExpr) → IsFree (driver l kind p values)
driver_free l Enqueue p values = each_free (enqueue l p) (λ e. simp unrolled refl) values
driver_free l EnqueueNow p values = each_free (enqueue_now l p) (λ e. simp unrolled refl) values
driver_free l EnqueueSeq p values = each_free (enqueue l p) (λ e. simp unrolled refl) values
driver_free l ExpectDequeue p values = each_free (expect_dequeue l p) (λ e. simp unrolled refl) values
driver_free l ExpectDequeueNow p values = each_free (expect_dequeue_now l p) (λ e. simp unrolled refl) values
driver_free l ExpectDequeueSeq p values = each_free (expect_dequeue l p) (λ e. simp unrolled refl) values
driver_free l ExpectInvalid p values = simp unrolled refl

reset_free : (l n : ℕ) → IsFree (reset l n)
reset_free l n = simp unrolled refl

abbrev With : Type 0
With = (s : TestStmt) × IsFree (core s)

abbrev stmts_of : List With → List TestStmt
stmts_of ts = map (λ t. t.0) ts

body_free : (ts : List With) → IsFree (core_body (stmts_of ts))
body_free [] = refl
body_free (t ∷ ts) = free_both (core t.0) (core_body (stmts_of ts)) t.1 (body_free ts)

abbrev cores_at : TestStmt-F With → TestStmt-F (List TestStmt)
cores_at y = map-TestStmt TestStmt (List TestStmt) core (map-TestStmt With TestStmt (λ t. t.0) y)

-- a block round a body that is free
block_free : (b : Bool) → b ≡ false → (b || false) ≡ false
block_free b e = ap (λ c. c || false) e

level_free : (y : TestStmt-F With) → IsFree (core_level (cores_at y))
level_free (S.Poke l p e) = simp unrolled refl
level_free (S.Peek l p into) = simp unrolled refl
level_free (S.Expect l p e) = simp unrolled refl
level_free (S.Step l count) = simp unrolled refl
level_free (S.Let l x e) = simp unrolled refl
level_free (S.Set l x e) = simp unrolled refl
level_free (S.Join l x) = simp unrolled refl
level_free (S.JoinStep l x) = simp unrolled refl
level_free (S.Driver l kind p values) = driver_free l kind p values
level_free (S.ResetFor l count) = reset_free l count
level_free (S.If l e ts os) =
    simp unrolled (block_free (some_true (map drives (core_body (stmts_of ts))) || some_true (map drives (core_body (stmts_of os))))
    (either_false (some_true (map drives (core_body (stmts_of ts)))) (some_true (map drives (core_body (stmts_of os)))) (body_free ts) (body_free os)))
level_free (S.While l e ts) = simp unrolled (block_free (some_true (map drives (core_body (stmts_of ts)))) (body_free ts))
level_free (S.Repeat l e ts) = simp unrolled (block_free (some_true (map drives (core_body (stmts_of ts)))) (body_free ts))
level_free (S.Fork l w x ts) = simp unrolled (block_free (some_true (map drives (core_body (stmts_of ts)))) (body_free ts))

core_free : (s : TestStmt) → IsFree (core s)
core_free = ind-TestStmt (λ s. IsFree (core s)) (λ x y is. subst (λ z. IsFree (core (roll-TestStmt z))) is
    (ap (λ ss. some_true (map drives ss)) (fold-roll-TestStmt (List TestStmt) core_level (map-TestStmt With TestStmt (λ t. t.0) y)) ∙ level_free y))

all_free : (ss : List TestStmt) → IsFree (core_body ss)
all_free [] = refl
all_free (s ∷ ss) = free_both (core s) (core_body ss) (core_free s) (all_free ss)

-- THE CORE FORM is a core test
pub core_is_core : (test : TestText) → is_core (core_of test) ≡ true
core_is_core test = ap not (all_free test.body)
