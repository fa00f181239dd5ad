-- The walk over a test, one statement after another.
use Rattle.std.proofs.Common.{ℕ, ◌≡◌, Bool, true, false, cond, Option, None, Ok, List, [], ◌∷◌, ◌++◌, map, drop, refl, sym, ap, ◌∙◌, subst, append-nil}
use Rattle.tb_base.specs.declared.path.Region.{Region}
use Rattle.tl_ast.specs.declared.tree.TestExpr.{TestExpr}
use Rattle.tl_ast.specs.declared.tree.TestStmt.{TestStmt, map-TestStmt}
use Rattle.tl_ast.specs.declared.tree.TestStmt.TheVariants as stmt
use Rattle.tl_ast.specs.declared.tree.TestStmt.TheViews.{out-TestStmt, roll-out-TestStmt}
use Rattle.tl_ast.specs.declared.tree.TestStmt.TheFolds.{fold-roll-TestStmt}
use Rattle.tl_ast.specs.declared.tree.TestStmt.TheVariants.{rolls-If, rolls-While, rolls-Repeat, rolls-Fork, rolls-Let}
use Rattle.tl_ast.specs.declared.tree.TestStmt.TheOpen.{TestStmt-F, Poke, Peek, Expect, Step, Let, Set, If, While, Repeat, Fork, Join, JoinStep, Driver, ResetFor}
use Rattle.tl_check.specs.declared.rule.Rule.{Rule}
use Rattle.tl_check.specs.Scopes.{Known, is_among}
use Rattle.tl_check.specs.Rules.{Here, first_broken}
use Rattle.tl_check.specs.Walk.{Ports, Part, line_of, in_turn, behind_let, behind, unless_broken, here, part_level, part}
use Rattle.tl_check.specs.Following.{Longer, Extends}
use Rattle.tl_check.proofs.Unrolled.{out-Let}

abbrev pub Inner : TestStmt → TestStmt-F Part
Inner s = map-TestStmt TestStmt Part part (out-TestStmt s)

pub unfold_part : (s : TestStmt) → part s ≡ part_level (Inner s)
unfold_part s = ap part (sym (roll-out-TestStmt s)) ∙ fold-roll-TestStmt Part part_level (out-TestStmt s)

-- no rule looks at what stands in a statement's blocks
first_whatever : (h : Here) (f : TestStmt → Part) (x : TestStmt-F TestStmt) → first_broken h (map-TestStmt TestStmt Part f x) ≡ first_broken h x
first_whatever h f (Poke l port value) = refl
first_whatever h f (Peek l port into) = refl
first_whatever h f (Expect l port value) = refl
first_whatever h f (Step l count) = refl
first_whatever h f (Let l name value) = refl
first_whatever h f (Set l name value) = refl
first_whatever h f (If l c taken other) = refl
first_whatever h f (While l c body) = refl
first_whatever h f (Repeat l count body) = refl
first_whatever h f (Fork l region handle body) = refl
first_whatever h f (Join l handle) = refl
first_whatever h f (JoinStep l handle) = refl
first_whatever h f (Driver l kind port values) = refl
first_whatever h f (ResetFor l count) = refl

line_whatever : (f : TestStmt → Part) (x : TestStmt-F TestStmt) → line_of (map-TestStmt TestStmt Part f x) ≡ line_of x
line_whatever f (Poke l port value) = refl
line_whatever f (Peek l port into) = refl
line_whatever f (Expect l port value) = refl
line_whatever f (Step l count) = refl
line_whatever f (Let l name value) = refl
line_whatever f (Set l name value) = refl
line_whatever f (If l c taken other) = refl
line_whatever f (While l c body) = refl
line_whatever f (Repeat l count body) = refl
line_whatever f (Fork l region handle body) = refl
line_whatever f (Join l handle) = refl
line_whatever f (JoinStep l handle) = refl
line_whatever f (Driver l kind port values) = refl
line_whatever f (ResetFor l count) = refl

-- a statement

abbrev pub judged_at : Ports → Region → Known → TestStmt → Option Rule
judged_at ports region known s = first_broken (here ports region known) (out-TestStmt s)

pub goes_on_by : (s : TestStmt) (ports : Ports) (region : Region) (rest : List ℕ → Bool) (known : Known)
    → (part s).goes_on ports region rest known ≡ unless_broken (judged_at ports region known s) (line_of (out-TestStmt s)) (behind (Inner s) ports region rest known)
goes_on_by s ports region rest known =
    ap (λ p. p.goes_on ports region rest known) (unfold_part s)
    ∙ ap (λ b. unless_broken b (line_of (Inner s)) (behind (Inner s) ports region rest known)) (first_whatever (here ports region known) part (out-TestStmt s))
    ∙ ap (λ l. unless_broken (judged_at ports region known s) l (behind (Inner s) ports region rest known)) (line_whatever part (out-TestStmt s))

pub passed : (s : TestStmt) (x : TestStmt-F TestStmt) (ports : Ports) (region : Region) (rest : List ℕ → Bool) (known : Known) → judged_at ports region known s ≡ None → out-TestStmt s ≡ x
    → (part s).goes_on ports region rest known ≡ behind (map-TestStmt TestStmt Part part x) ports region rest known
passed s x ports region rest known h e =
    goes_on_by s ports region rest known ∙ ap (λ b. unless_broken b (line_of (out-TestStmt s)) (behind (Inner s) ports region rest known)) h
    ∙ ap (λ y. behind (map-TestStmt TestStmt Part part y) ports region rest known) e

-- names

pub longer_same : {X : Type 0} (xs : List X) → Longer xs xs
longer_same xs = ([], sym (append-nil xs))

pub let_extends : (name : List ℕ) (k : Known) → Extends k (behind_let name k)
let_extends name k = record { variables = by (is_among name k.variables); handles = longer_same k.handles }
  where
    by : (b : Bool) → Longer k.variables (cond b k.variables (k.variables ++ name ∷ []))
    by true = longer_same k.variables
    by false = (name ∷ [], refl)

-- what is left of a list of statements, from the i-th on
pub record TurnLeft (body : List TestStmt) (ports : Ports) (region : Region) (i : ℕ) (known start : Known) : Type 0 where
  pub whole : in_turn (map part body) ports region start ≡ in_turn (map part (drop i body)) ports region known
  pub grown : Extends start known

-- statements that go on

pub let_ends : (s : TestStmt) (l : ℕ) (n : List ℕ) (v : TestExpr) (ports : Ports) (region : Region) (rest : List ℕ → Bool) (known new : Known) → s ≡ stmt.Let l n v → judged_at ports region known s ≡ None → new ≡ behind_let n known
    → ((part s).goes_on ports region rest known ≡ Ok new) × Extends known new
let_ends s l n v ports region rest known new e j q =
    (passed s _ ports region rest known j (ap out-TestStmt e ∙ out-Let l n v) ∙ ap (λ x. Ok x) (sym q), subst (λ (x : Known). Extends known x) (sym q) (let_extends n known))
