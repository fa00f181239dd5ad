-- How large core statements are.
use Rattle.std.proofs.Common.{◌≡◌, ℕ, ◌+◌, ◌*◌, ◌≤◌, max, List, [], ◌∷◌, ◌++◌, map, length, refl, sym, ap, subst, arith}
use Rattle.std.specs.Prelude.{sum, flat_map}
use Rattle.tl_ast.specs.declared.tree.DriverKind.{DriverKind}
use Rattle.tl_ast.specs.declared.tree.DriverKind.TheVariants.{Enqueue, EnqueueNow, EnqueueSeq, ExpectDequeue, ExpectDequeueNow, ExpectDequeueSeq, ExpectInvalid}
use Rattle.tl_ast.specs.declared.tree.TestExpr.{TestExpr}
use Rattle.tl_ast.specs.declared.tree.TestStmt.{TestStmt}
use Rattle.tl_ast.specs.declared.tree.TestStmt.TheFolds.{fold-roll-TestStmt, ind-TestStmt, map-TestStmt}
use Rattle.tl_ast.specs.declared.tree.TestStmt.TheViews.{roll-TestStmt}
use Rattle.tl_ast.specs.declared.tree.TestStmt.TheOpen as S
use Rattle.tl_ast.specs.declared.tree.TestStmt.TheOpen.{TestStmt-F}
use Rattle.tl_ast.specs.declared.tree.TestText.{TestText}
use Rattle.tl_check.specs.Bounds.{greatest, statements_level, statements, values_level, driver_values, blocks_level, nested_blocks, forks_level, nested_forks, TestBounds, CoreBounds}
use Rattle.tl_check.proofs.Unrolled.{unrolled}
use Rattle.tl_drivers.specs.Rows.{enqueue, enqueue_now, expect_dequeue, expect_dequeue_now, expect_invalid, driver, reset}
use Rattle.tl_drivers.specs.Core.{core_level, core, core_body, core_of}
use Rattle.tl_drivers.proofs.Lists.{sum_first, sum_both, greatest_both}

-- statements that are so many at most, nested at most so deep
pub record Small (most deep forked : ℕ) (ss : List TestStmt) : Type 0 where
  pub count : sum (map statements ss) ≤ most
  pub blocks : greatest (map nested_blocks ss) ≤ deep
  pub forks : greatest (map nested_forks ss) ≤ forked

small_none : (b f : ℕ) → Small 0 b f []
small_none b f = record { count = omega arith; blocks = omega arith; forks = omega arith }

small_both : (m n b f : ℕ) (xs ys : List TestStmt) → Small m b f xs → Small n b f ys → Small (m + n) b f (xs ++ ys)
small_both m n b f xs ys p q =
    let c1 = p.count in let c2 = q.count in let b1 = p.blocks in let b2 = q.blocks in let f1 = p.forks in let f2 = q.forks in
    let c = sum_both statements xs ys in let d = greatest_both nested_blocks xs ys in let e = greatest_both nested_forks xs ys in
    record { count = omega (arith, c, c1, c2); blocks = omega (arith, d, b1, b2); forks = omega (arith, e, f1, f2) }

small_more : (m n b c f g : ℕ) (ss : List TestStmt) → m ≤ n → b ≤ c → f ≤ g → Small m b f ss → Small n c g ss
small_more m n b c f g ss i j k p =
    let c1 = p.count in let b1 = p.blocks in let f1 = p.forks in
    record { count = omega (arith, c1, i); blocks = omega (arith, b1, j); forks = omega (arith, f1, k) }

-- ---- rows

enqueue_small : (l : ℕ) (p : List ℕ) (e : TestExpr) → Small 10 3 1 (enqueue l p e)
enqueue_small l p e = record { count = simp unrolled (omega arith); blocks = simp unrolled (omega arith); forks = simp unrolled (omega arith) }

enqueue_now_small : (l : ℕ) (p : List ℕ) (e : TestExpr) → Small 10 3 1 (enqueue_now l p e)
enqueue_now_small l p e = record { count = simp unrolled (omega arith); blocks = simp unrolled (omega arith); forks = simp unrolled (omega arith) }

expect_dequeue_small : (l : ℕ) (p : List ℕ) (e : TestExpr) → Small 10 3 1 (expect_dequeue l p e)
expect_dequeue_small l p e = record { count = simp unrolled (omega arith); blocks = simp unrolled (omega arith); forks = simp unrolled (omega arith) }

expect_dequeue_now_small : (l : ℕ) (p : List ℕ) (e : TestExpr) → Small 10 3 1 (expect_dequeue_now l p e)
expect_dequeue_now_small l p e = record { count = simp unrolled (omega arith); blocks = simp unrolled (omega arith); forks = simp unrolled (omega arith) }

expect_invalid_small : (l : ℕ) (p : List ℕ) → Small 10 3 1 (expect_invalid l p)
expect_invalid_small l p = record { count = simp unrolled (omega arith); blocks = simp unrolled (omega arith); forks = simp unrolled (omega arith) }

reset_small : (l n : ℕ) → Small 10 3 0 (reset l n)
reset_small l n = record { count = simp unrolled (omega arith); blocks = simp unrolled (omega arith); forks = simp unrolled (omega arith) }

each_small : (row : TestExpr → List TestStmt) → ((e : TestExpr) → Small 10 3 1 (row e)) → (values : List TestExpr) → Small (10 * length values) 3 1 (flat_map row values)
each_small row h [] = small_none 3 1
each_small row h (v ∷ vs) =
    small_more (10 + 10 * length vs) (10 * length (v ∷ vs)) 3 3 1 1 (row v ++ flat_map row vs) (omega arith) (omega arith) (omega arith)
    (small_both 10 (10 * length vs) 3 1 (row v) (flat_map row vs) (h v) (each_small row h vs))

driver_some : (n : ℕ) (ss : List TestStmt) → Small (10 * n) 3 1 ss → Small (10 * (1 + n)) 3 1 ss
driver_some n ss h = small_more (10 * n) (10 * (1 + n)) 3 3 1 1 ss (omega arith) (omega arith) (omega arith) h

driver_small : (l : ℕ) (kind : DriverKind) (p : List ℕ) (values : List TestExpr) → Small (10 * (1 + length values)) 3 1 (driver l kind p values)
driver_small l Enqueue p values = driver_some _ _ (each_small (enqueue l p) (enqueue_small l p) values)
driver_small l EnqueueNow p values = driver_some _ _ (each_small (enqueue_now l p) (enqueue_now_small l p) values)
driver_small l EnqueueSeq p values = driver_some _ _ (each_small (enqueue l p) (enqueue_small l p) values)
driver_small l ExpectDequeue p values = driver_some _ _ (each_small (expect_dequeue l p) (expect_dequeue_small l p) values)
driver_small l ExpectDequeueNow p values = driver_some _ _ (each_small (expect_dequeue_now l p) (expect_dequeue_now_small l p) values)
driver_small l ExpectDequeueSeq p values = driver_some _ _ (each_small (expect_dequeue l p) (expect_dequeue_small l p) values)
driver_small l ExpectInvalid p values =
    small_more 10 (10 * (1 + length values)) 3 3 1 1 (expect_invalid l p) (omega arith) (omega arith) (omega arith) (expect_invalid_small l p)

-- ---- statements

abbrev StaysSmall : TestStmt → Type 0
StaysSmall s = Small (10 * (statements s + driver_values s)) (nested_blocks s + 3) (nested_forks s) (core s)

abbrev With : Type 0
With = (s : TestStmt) × StaysSmall s

abbrev stmts_of : List With → List TestStmt
stmts_of ts = map (λ t. t.0) ts

-- the measures of a body
abbrev BodyStaysSmall : List TestStmt → Type 0
BodyStaysSmall ss =
    Small (10 * (sum (map statements ss) + sum (map driver_values ss))) (greatest (map nested_blocks ss) + 3) (greatest (map nested_forks ss)) (core_body ss)

body_small : (ts : List With) → BodyStaysSmall (stmts_of ts)
body_small [] = small_more 0 _ 3 _ 0 _ [] (omega arith) (omega arith) (omega arith) (small_none 3 0)
body_small (t ∷ ts) =
    let c = sum_first statements t.0 (stmts_of ts) in
    let d = sum_first driver_values t.0 (stmts_of ts) in
    let b = max (nested_blocks t.0) (greatest (map nested_blocks (stmts_of ts))) in
    let f = max (nested_forks t.0) (greatest (map nested_forks (stmts_of ts))) in
    small_more (10 * (statements t.0 + driver_values t.0) + 10 * (sum (map statements (stmts_of ts)) + sum (map driver_values (stmts_of ts)))) _ (b + 3) _ f _
    (core t.0 ++ core_body (stmts_of ts)) (omega (arith, c, d)) (omega arith) (omega arith)
    (small_both _ _ (b + 3) f (core t.0) (core_body (stmts_of ts))
    (small_more _ _ (nested_blocks t.0 + 3) (b + 3) (nested_forks t.0) f (core t.0) (omega arith) (omega arith) (omega arith) t.1)
    (small_more _ _ (greatest (map nested_blocks (stmts_of ts)) + 3) (b + 3) (greatest (map nested_forks (stmts_of ts))) f (core_body (stmts_of ts)) (omega arith) (omega arith) (omega arith) (body_small ts)))

abbrev plain_at : TestStmt-F With → TestStmt-F TestStmt
plain_at y = map-TestStmt With TestStmt (λ t. t.0) y

abbrev numbers_at : (TestStmt → ℕ) → TestStmt-F With → TestStmt-F ℕ
numbers_at measure y = map-TestStmt TestStmt ℕ measure (plain_at y)

abbrev LevelSmall : TestStmt-F With → Type 0
LevelSmall y =
    Small (10 * (statements_level (numbers_at statements y) + values_level (numbers_at driver_values y)))
    (blocks_level (numbers_at nested_blocks y) + 3)
    (forks_level (numbers_at nested_forks y))
    (core_level (map-TestStmt TestStmt (List TestStmt) core (plain_at y)))

level_small : (y : TestStmt-F With) → LevelSmall y
level_small (S.Poke l p e) = record { count = simp unrolled (omega arith); blocks = simp unrolled (omega arith); forks = simp unrolled (omega arith) }
level_small (S.Peek l p into) = record { count = simp unrolled (omega arith); blocks = simp unrolled (omega arith); forks = simp unrolled (omega arith) }
level_small (S.Expect l p e) = record { count = simp unrolled (omega arith); blocks = simp unrolled (omega arith); forks = simp unrolled (omega arith) }
level_small (S.Step l count) = record { count = simp unrolled (omega arith); blocks = simp unrolled (omega arith); forks = simp unrolled (omega arith) }
level_small (S.Let l x e) = record { count = simp unrolled (omega arith); blocks = simp unrolled (omega arith); forks = simp unrolled (omega arith) }
level_small (S.Set l x e) = record { count = simp unrolled (omega arith); blocks = simp unrolled (omega arith); forks = simp unrolled (omega arith) }
level_small (S.Join l x) = record { count = simp unrolled (omega arith); blocks = simp unrolled (omega arith); forks = simp unrolled (omega arith) }
level_small (S.JoinStep l x) = record { count = simp unrolled (omega arith); blocks = simp unrolled (omega arith); forks = simp unrolled (omega arith) }
level_small (S.Driver l kind p values) = driver_small l kind p values
level_small (S.ResetFor l count) = reset_small l count
level_small (S.If l e ts os) =
    let p = body_small ts in let q = body_small os in
    let c1 = p.count in let c2 = q.count in let b1 = p.blocks in let b2 = q.blocks in let f1 = p.forks in let f2 = q.forks in
    record { count = simp unrolled (omega (arith, c1, c2)); blocks = simp unrolled (omega (arith, b1, b2)); forks = simp unrolled (omega (arith, f1, f2)) }
level_small (S.While l e ts) =
    let p = body_small ts in
    let c1 = p.count in let b1 = p.blocks in let f1 = p.forks in
    record { count = simp unrolled (omega (arith, c1)); blocks = simp unrolled (omega (arith, b1)); forks = simp unrolled (omega (arith, f1)) }
level_small (S.Repeat l e ts) =
    let p = body_small ts in
    let c1 = p.count in let b1 = p.blocks in let f1 = p.forks in
    record { count = simp unrolled (omega (arith, c1)); blocks = simp unrolled (omega (arith, b1)); forks = simp unrolled (omega (arith, f1)) }
level_small (S.Fork l w x ts) =
    let p = body_small ts in
    let c1 = p.count in let b1 = p.blocks in let f1 = p.forks in
    record { count = simp unrolled (omega (arith, c1)); blocks = simp unrolled (omega (arith, b1)); forks = simp unrolled (omega (arith, f1)) }

stays_small : (s : TestStmt) → StaysSmall s
stays_small = ind-TestStmt StaysSmall (λ x y is. subst (λ z. StaysSmall (roll-TestStmt z)) is (
    let m : TestStmt-F TestStmt = plain_at y in
    let c : statements (roll-TestStmt m) ≡ statements_level (numbers_at statements y) = fold-roll-TestStmt ℕ statements_level m in
    let d : driver_values (roll-TestStmt m) ≡ values_level (numbers_at driver_values y) = fold-roll-TestStmt ℕ values_level m in
    let b : nested_blocks (roll-TestStmt m) ≡ blocks_level (numbers_at nested_blocks y) = fold-roll-TestStmt ℕ blocks_level m in
    let f : nested_forks (roll-TestStmt m) ≡ forks_level (numbers_at nested_forks y) = fold-roll-TestStmt ℕ forks_level m in
    let r : core (roll-TestStmt m) ≡ core_level (map-TestStmt TestStmt (List TestStmt) core m) = fold-roll-TestStmt (List TestStmt) core_level m in
    subst (λ ss. Small (10 * (statements (roll-TestStmt m) + driver_values (roll-TestStmt m))) (nested_blocks (roll-TestStmt m) + 3) (nested_forks (roll-TestStmt m)) ss) (sym r)
    (small_more _ _ _ _ _ _ (core_level (map-TestStmt TestStmt (List TestStmt) core m)) (omega (arith, c, d)) (omega (arith, b)) (omega (arith, f)) (level_small y))))

with_all : (ss : List TestStmt) → (ts : List With) × (stmts_of ts ≡ ss)
with_all [] = ([], refl)
with_all (s ∷ ss) = let r = with_all ss in ((s, stays_small s) ∷ r.0, ap (λ t. s ∷ t) r.1)

-- THE CORE FORM of a test keeps the bounds of core tests
pub core_bounds : (test : TestText) → TestBounds test → CoreBounds (core_of test)
core_bounds test h =
    let r = with_all test.body in
    let p = subst BodyStaysSmall r.1 (body_small r.0) in
    let c1 = p.count in let b1 = p.blocks in let f1 = p.forks in
    let size = h.size in let blocks = h.blocks in let forks = h.forks in
    record { blocks = omega (arith, b1, blocks); forks = omega (arith, f1, forks); size = omega (arith, c1, size) }
