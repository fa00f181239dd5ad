-- A statement that was noted, or was passed over since an earlier line is known to break a rule.
use Rattle.std.proofs.Common.{ℕ, ◌≡◌, ◌+◌, ◌*◌, min, Bool, true, false, Option, Some, None, List, [], ◌∷◌, map, refl, sym, ap, ◌∙◌, arith, Result, Ok, Err, OnOk}
use Rattle.fir_ast.specs.declared.tree.Module.{Module}
use Rattle.fir_ast.specs.declared.tree.Expr.{Expr}
use Rattle.fir_ast.specs.declared.tree.Stmt.{Stmt}
use Rattle.fir_ast.specs.declared.tree.Stmt.TheVariants as stmt
use Rattle.fir_ast.specs.declared.tree.Stmt.TheOpen.{Stmt-F}
use Rattle.fir_check.specs.declared.best.Rule.{Rule}
use Rattle.fir_check.specs.declared.best.Rule.TheVariants.{NoMain}
use Rattle.fir_check.specs.declared.broken.Broken.{Broken}
use Rattle.fir_check.specs.Names.{kept}
use Rattle.fir_check.specs.Rules.{double_at, unknown_at, wrong_at, flow_at, clock_at, all_rules}
use Rattle.fir_check.specs.Scopes.{Known, Walk, in_block, line_of, stmt_found}
use Rattle.fir_check.specs.Places.{lowered, lower, least, least_over, place}
use Rattle.fir_check.specs.Walking.{stmt_rule, stmt_breaks, broken_lines_of, Walked, Told, head_of, names_behind}
use Rattle.fir_check.proofs.Least.{lowered-same}
use Rattle.fir_check.proofs.Walked.{told_rule, walked_when, walked_leaf}

pub noted_told : (modules : List Module) (m : Module) (k : List Known) (s : Stmt-F Walk) (told : Broken) (line : ℕ) (a b : Option ℕ) → Told modules m k s told → line ≡ line_of s
    → b ≡ lowered a (broken_lines_of told line) → b ≡ lowered a (stmt_breaks modules m k s)
noted_told modules m k s told line a b t n e =
    lowered-same a b (broken_lines_of told line) (stmt_breaks modules m k s) e
    (λ r. ap (λ y. kept y line []) (told_rule modules m k s told r t) ∙ ap (λ y. kept (stmt_rule modules m r k s) y []) n)

-- a place that is no lower than what was found changes nothing

later_place : (r : Rule) (line : ℕ) (o : Option ℕ) → lower (place NoMain line) o ≡ o → lower (place r line) o ≡ o
later_place r line None e = cc
later_place r line (Some q) e = let p : min (8 * line + 0) q ≡ q = cc in ap Some (omega arith)

later_kept : (r : Rule) (b : Bool) (line : ℕ) (o : Option ℕ) → lower (place NoMain line) o ≡ o → least o (map (place r) (kept b line [])) ≡ o
later_kept r true line o e = later_place r line o e
later_kept r false line o e = refl

later_rules : (line : ℕ) (o : Option ℕ) (test : Rule → Bool) (rules : List Rule) → lower (place NoMain line) o ≡ o → least_over o (λ r. kept (test r) line []) rules ≡ o
later_rules line o test [] e = refl
later_rules line o test (r ∷ rules) e = ap (λ x. least x (map (place r) (kept (test r) line []))) (later_rules line o test rules e) ∙ later_kept r (test r) line o e

pub no_news : (modules : List Module) (m : Module) (k : List Known) (s : Stmt-F Walk) (line : ℕ) (a : Option ℕ) → line ≡ line_of s → lower (place NoMain line) a ≡ a
    → a ≡ lowered a (stmt_breaks modules m k s)
no_news modules m k s line a n e =
    sym (later_rules (line_of s) a (λ r. stmt_rule modules m r k s) all_rules (ap (λ x. lower (place NoMain x) a) (sym n) ∙ e))

pub on_ok : {T E : Type 0} (r : Result T E) (P : Type 0) → P → OnOk r P
on_ok (Ok x) P p = p
on_ok (Err x) P p = tt

-- what there is to tell of a statement

abbrev told_of : List Module → Module → List Known → Stmt-F Walk → Broken
told_of modules m k s = record { double = double_at k s; unknown = unknown_at modules k s; wrong = wrong_at modules k s; flow = flow_at k s; clock = clock_at modules m k s }

is_told : (modules : List Module) (m : Module) (k : List Known) (s : Stmt-F Walk) → Told modules m k s (told_of modules m k s)
is_told modules m k s = record { double = refl; unknown = refl; wrong = refl; flow = refl; clock = refl }

as_told : (modules : List Module) (m : Module) (k : List Known) (s : Stmt-F Walk) (a b : Option ℕ) → b ≡ lowered a (stmt_breaks modules m k s) → b ≡ lowered a (broken_lines_of (told_of modules m k s) (line_of s))
as_told modules m k s a b e =
    lowered-same a b (stmt_breaks modules m k s) (broken_lines_of (told_of modules m k s) (line_of s)) e
    (λ r. ap (λ y. kept y (line_of s) []) (sym (told_rule modules m k s (told_of modules m k s) r (is_told modules m k s))))

pub noted_when : (modules : List Module) (m : Module) (s : Stmt) (l : ℕ) (c : Expr) (xs ys us vs : List Stmt) (j k p q : List Known) (a b d e : Option ℕ)
    → s ≡ stmt.When l c xs ys → us ≡ xs → vs ≡ ys
    → b ≡ lowered a (stmt_breaks modules m j (head_of s)) → k ≡ names_behind modules j (head_of s)
    → Walked modules m (λ rule. in_block (map (stmt_found modules rule) us)) k b p d → Walked modules m (λ rule. in_block (map (stmt_found modules rule) vs)) p d q e
    → Walked modules m (λ rule. stmt_found modules rule s) j a q e
noted_when modules m s l c xs ys us vs j k p q a b d e is u v o names w z =
    walked_when modules m s l c xs ys us vs (told_of modules m j (head_of s)) (line_of (head_of s)) j k p q a b d e is u v
    (is_told modules m j (head_of s)) refl (as_told modules m j (head_of s) a b o) names w z

pub noted_leaf : (modules : List Module) (m : Module) (s : Stmt) (j k : List Known) (a b : Option ℕ) → ((l : ℕ) (c : Expr) (xs ys : List Stmt) → s ≡ stmt.When l c xs ys → ⊥)
    → b ≡ lowered a (stmt_breaks modules m j (head_of s)) → k ≡ names_behind modules j (head_of s)
    → Walked modules m (λ rule. stmt_found modules rule s) j a k b
noted_leaf modules m s j k a b none e names =
    walked_leaf modules m s (told_of modules m j (head_of s)) (line_of (head_of s)) j k a b none (is_told modules m j (head_of s)) refl (as_told modules m j (head_of s) a b e) names
