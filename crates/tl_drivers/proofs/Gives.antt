-- The core form gives the same handles to Monitor threads, but for that of drivers.
use Rattle.std.proofs.Common.{◌≡◌, ℕ, Bool, false, ◌||◌, ◌&&◌, List, [], ◌∷◌, ◌++◌, map, refl, sym, ap, ap₂, subst, ◌∙◌}
use Rattle.std.specs.Str.{bytes_eq}
use Rattle.std.specs.Prelude.{flat_map}
use Rattle.tb_base.specs.declared.path.Region.{Region}
use Rattle.tl_ast.specs.declared.tree.DriverKind.{DriverKind}
use Rattle.tl_ast.specs.declared.tree.DriverKind.TheVariants.{Enqueue, EnqueueNow, EnqueueSeq, ExpectDequeue, ExpectDequeueNow, ExpectDequeueSeq, ExpectInvalid}
use Rattle.tl_ast.specs.declared.tree.TestExpr.{TestExpr}
use Rattle.tl_ast.specs.declared.tree.TestStmt.{TestStmt}
use Rattle.tl_ast.specs.declared.tree.TestStmt.TheFolds.{fold-roll-TestStmt, ind-TestStmt, map-TestStmt}
use Rattle.tl_ast.specs.declared.tree.TestStmt.TheViews.{roll-TestStmt}
use Rattle.tl_ast.specs.declared.tree.TestStmt.TheOpen as S
use Rattle.tl_ast.specs.declared.tree.TestStmt.TheOpen.{TestStmt-F}
use Rattle.tl_check.specs.Scopes.{drivers_handle, is_monitor, child_region}
use Rattle.tl_check.specs.Walk.{Part, some_gives, gives_level, part_level, part}
use Rattle.tl_check.proofs.Unrolled.{unrolled}
use Rattle.tl_drivers.specs.Rows.{enqueue, enqueue_now, expect_dequeue, expect_dequeue_now, driver}
use Rattle.tl_drivers.specs.Core.{core_level, core, core_body}
use Rattle.tl_drivers.proofs.Lists.{map_both, any_both, either_false}
use Rattle.tl_drivers.proofs.Names.{or_no}

module _ (g : Region) (x : List ℕ) (other : bytes_eq x drivers_handle ≡ false) where
  -- whether one of these statements gives the handle
  abbrev gives_in : List TestStmt → Bool
  gives_in ss = some_gives (map part ss) g x

  gives_both : (xs ys : List TestStmt) → gives_in (xs ++ ys) ≡ (gives_in xs || gives_in ys)
  gives_both xs ys = ap (λ ps. some_gives ps g x) (map_both part xs ys) ∙ any_both (λ p. p.gives g x) (map part xs) (map part ys)

  each_gives : (row : TestExpr → List TestStmt) → ((e : TestExpr) → gives_in (row e) ≡ false) → (values : List TestExpr) → gives_in (flat_map row values) ≡ false
  each_gives row h [] = refl
  each_gives row h (v ∷ vs) = gives_both (row v) (flat_map row vs) ∙ either_false (gives_in (row v)) (gives_in (flat_map row vs)) (h v) (each_gives row h vs)

  driver_gives : (l : ℕ) (kind : DriverKind) (p : List ℕ) (values : List TestExpr) → gives_in (driver l kind p values) ≡ false
  driver_gives l Enqueue p values = each_gives (enqueue l p) (λ e. simp unrolled (ap (λ b. b || false) other)) values
  driver_gives l EnqueueNow p values = each_gives (enqueue_now l p) (λ e. simp unrolled (ap (λ b. b || false) other)) values
  driver_gives l EnqueueSeq p values = each_gives (enqueue l p) (λ e. simp unrolled (ap (λ b. b || false) other)) values
  driver_gives l ExpectDequeue p values = each_gives (expect_dequeue l p) (λ e. simp unrolled (ap (λ b. b || false) other)) values
  driver_gives l ExpectDequeueNow p values = each_gives (expect_dequeue_now l p) (λ e. simp unrolled (ap (λ b. b || false) other)) values
  driver_gives l ExpectDequeueSeq p values = each_gives (expect_dequeue l p) (λ e. simp unrolled (ap (λ b. b || false) other)) values
  driver_gives l ExpectInvalid p values = simp unrolled (ap (λ b. b || false) other)

  abbrev GivesSame : TestStmt → Type 0
  GivesSame s = gives_in (core s) ≡ (part s).gives g x

  abbrev With : Type 0
  With = (s : TestStmt) × GivesSame s

  abbrev stmts_of : List With → List TestStmt
  stmts_of ts = map (λ t. t.0) ts

  body_gives : (ts : List With) → gives_in (core_body (stmts_of ts)) ≡ gives_in (stmts_of ts)
  body_gives [] = refl
  body_gives (t ∷ ts) = gives_both (core t.0) (core_body (stmts_of ts)) ∙ ap₂ (λ a b. a || b) t.1 (body_gives ts)

  abbrev plain_at : TestStmt-F With → TestStmt-F TestStmt
  plain_at y = map-TestStmt With TestStmt (λ t. t.0) y

  abbrev LevelGives : TestStmt-F With → Type 0
  LevelGives y = gives_in (core_level (map-TestStmt TestStmt (List TestStmt) core (plain_at y))) ≡ gives_level (map-TestStmt TestStmt Part part (plain_at y)) g x

  level_gives : (y : TestStmt-F With) → LevelGives y
  level_gives (S.Poke l p e) = simp unrolled refl
  level_gives (S.Peek l p into) = simp unrolled refl
  level_gives (S.Expect l p e) = simp unrolled refl
  level_gives (S.Step l count) = simp unrolled refl
  level_gives (S.Let l n e) = simp unrolled refl
  level_gives (S.Set l n e) = simp unrolled refl
  level_gives (S.Join l n) = simp unrolled refl
  level_gives (S.JoinStep l n) = simp unrolled refl
  level_gives (S.Driver l kind p values) = driver_gives l kind p values
  level_gives (S.ResetFor l count) = simp unrolled refl
  level_gives (S.If l e ts os) =
      simp unrolled (or_no (gives_in (core_body (stmts_of ts)) || gives_in (core_body (stmts_of os))) ∙ ap₂ (λ a b. a || b) (body_gives ts) (body_gives os))
  level_gives (S.While l e ts) = simp unrolled (or_no (gives_in (core_body (stmts_of ts))) ∙ body_gives ts)
  level_gives (S.Repeat l e ts) = simp unrolled (or_no (gives_in (core_body (stmts_of ts))) ∙ body_gives ts)
  level_gives (S.Fork l w n ts) = simp unrolled (or_no (is_monitor (child_region g w) && bytes_eq x n))

  gives_same : (s : TestStmt) → GivesSame s
  gives_same = ind-TestStmt GivesSame (λ z y is. subst (λ w. GivesSame (roll-TestStmt w)) is
      (ap (λ ss. gives_in ss) (fold-roll-TestStmt (List TestStmt) core_level (plain_at y)) ∙ level_gives y
      ∙ ap (λ p. p.gives g x) (sym (fold-roll-TestStmt Part part_level (plain_at y)))))

  pub all_give_same : (ss : List TestStmt) → some_gives (map part (core_body ss)) g x ≡ some_gives (map part ss) g x
  all_give_same [] = refl
  all_give_same (s ∷ ss) = gives_both (core s) (core_body ss) ∙ ap₂ (λ a b. a || b) (gives_same s) (all_give_same ss)
