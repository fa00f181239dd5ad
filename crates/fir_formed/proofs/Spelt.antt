-- What a text can write is spelt as typing asks.
use Rattle.std.proofs.Common.{◌≡◌, ◌∙◌, sym, ap, subst, ℕ, ◌==◌, Bool, true, false, not, ◌&&◌, ◌||◌, List, [], ◌∷◌, Option, Some, None, nat_lt, refl, map, length}
use Rattle.std.specs.List.{list_all, AllByRecursion as Each}
use Rattle.tb_base.specs.Row.{operand_count, number_count}
use Rattle.fir_ast.specs.declared.tree.Expr.{Expr}
use Rattle.fir_ast.specs.declared.tree.Expr.TheFolds.{fold-roll-Expr, ind-Expr, map-Expr}
use Rattle.fir_ast.specs.declared.tree.Expr.TheOpen.{Expr-F, Ident, Part, At, Index, Lit, Apply}
use Rattle.fir_ast.specs.declared.tree.Expr.TheViews.{roll-Expr}
use Rattle.fir_ast.specs.declared.tree.ResetPair.{ResetPair}
use Rattle.fir_ast.specs.declared.tree.Stmt.{Stmt, map-Stmt}
use Rattle.fir_ast.specs.declared.tree.Stmt.TheFolds.{fold-roll-Stmt, ind-Stmt}
use Rattle.fir_ast.specs.declared.tree.Stmt.TheOpen.{Stmt-F, Wire, Node, Reg, Inst, Connect, Invalid, When, Skip, Verif}
use Rattle.fir_ast.specs.declared.tree.Module.{Module}
use Rattle.fir_ast.specs.declared.tree.Circuit.{Circuit}
use Rattle.net_core.specs.Formed.{width_fits}
use Rattle.fir_print_laws.specs.Printable.{is_number}
use Rattle.fir_written.specs.Written.{Spelling, spelling, expr_level, is_written_width, is_written_number, is_written_expr, is_written_sink, is_written_reset, is_written_stmt, stmt_level, is_written_module, is_written, IsWritten, all_written, goes_on}
use Rattle.fir_formed.proofs.Tests.{and_left, and_right, and_both, all_true}
use Rattle.fir_formed.proofs.Typing.{spelt, spelt_level}
use Rattle.fir_formed.proofs.Steps.{spelt_reset, spelt_stmt, spelt_stmt_level, spelt_all}
use Rattle.fir_print_laws.specs.Printable.{all_true as all_tests}
use Rattle.std.proofs.Common.{suc}

-- literals

width_same : (w : Option ℕ) → is_written_width w ≡ true → width_fits w ≡ true
width_same None e = refl
width_same (Some w) e = e

sign_same : (signed negative : Bool) (n : ℕ) → is_written_number signed negative n ≡ true → (signed || not negative) ≡ true
sign_same signed negative n e = step signed negative (and_right (is_number n) (not negative || (signed && nat_lt 0 n)) e)
  where
    step : (s g : Bool) → (not g || (s && nat_lt 0 n)) ≡ true → (s || not g) ≡ true
    step true g k = refl
    step false true k = cc
    step false false k = refl

-- expressions

abbrev Goes : Expr → Type 0
Goes e = (spelling e).written ≡ true → spelt e ≡ true

abbrev With : Type 0
With = (e : Expr) × Goes e

all_go : (es : List With) → all_written (map spelling (map (λ e. e.0) es)) ≡ true → all_true (map spelt (map (λ e. e.0) es)) ≡ true
all_go [] h = refl
all_go (e ∷ es) h = and_both (spelt e.0) _ (e.1 (and_left (spelling e.0).written _ h)) (all_go es (and_right (spelling e.0).written _ h))

lengths : {X Y Z : Type 0} (f : X → Y) (g : X → Z) (xs : List X) → length (map f xs) ≡ length (map g xs)
lengths f g [] = refl
lengths f g (x ∷ xs) = ap (λ n. suc n) (lengths f g xs)

level_goes : (x : Expr-F With) → (expr_level (map-Expr Expr Spelling spelling (map-Expr With Expr (λ e. e.0) x))).written ≡ true
    → spelt_level (map-Expr Expr Bool spelt (map-Expr With Expr (λ e. e.0) x)) ≡ true
level_goes (Ident name) h = refl
level_goes (Part e name) h = e.1 (and_left (spelling e.0).written _ h)
level_goes (At e n) h = e.1 (and_left (spelling e.0).written _ h)
level_goes (Index e index) h =
    let i : ((spelling index.0).written && goes_on (spelling e.0).suffixes) ≡ true = and_right (spelling e.0).written _ h in
    and_both (spelt e.0) (spelt index.0) (e.1 (and_left (spelling e.0).written _ h)) (index.1 (and_left (spelling index.0).written _ i))
level_goes (Lit signed width negative n) h =
    and_both (width_fits width) (signed || not negative) (width_same width (and_left (is_written_width width) _ h)) (sign_same signed negative n (and_right (is_written_width width) _ h))
level_goes (Apply op args nums) h =
    let es : List Expr = map (λ e. e.0) args in
    let counts = and_right (all_written (map spelling es)) _ h in
    let n : (length (map spelling es) == operand_count op) ≡ true = and_left _ _ counts in
    let m : (length nums == number_count op) ≡ true = and_right (list_all is_number nums) _ (and_right (length (map spelling es) == operand_count op) _ counts) in
    and_both (all_true (map spelt es)) _ (all_go args (and_left (all_written (map spelling es)) _ h))
    (and_both (length (map spelt es) == operand_count op) (length nums == number_count op) (ap (λ k. k == operand_count op) (lengths spelt spelling es) ∙ n) m)

pub spelt_expr : (e : Expr) → is_written_expr e ≡ true → spelt e ≡ true
spelt_expr = ind-Expr Goes (λ x y is. subst (λ z. Goes (roll-Expr z)) is (λ h.
    let z : Expr-F Expr = map-Expr With Expr (λ e. e.0) y in
    fold-roll-Expr Bool spelt_level z ∙ level_goes y (sym (ap (λ (s : Spelling). s.written) (fold-roll-Expr Spelling expr_level z)) ∙ h)))

-- statements

reset_goes : (r : Option ResetPair) → is_written_reset r ≡ true → spelt_reset r ≡ true
reset_goes None h = refl
reset_goes (Some r) h =
    and_both (spelt r.signal) (spelt r.init) (spelt_expr r.signal (and_left (is_written_expr r.signal) _ h)) (spelt_expr r.init (and_right (is_written_expr r.signal) _ h))

abbrev GoesStmt : Stmt → Type 0
GoesStmt s = is_written_stmt s ≡ true → spelt_stmt s ≡ true

list_goes : (A : Type 0) (to : A → Stmt) → ((x : A) → GoesStmt (to x)) → (xs : List A)
    → all_tests (map is_written_stmt (map to xs)) ≡ true → spelt_all (map to xs) ≡ true
list_goes A to h [] e = refl
list_goes A to h (x ∷ xs) e =
    and_both (spelt_stmt (to x)) (spelt_all (map to xs)) (h x (and_left (is_written_stmt (to x)) _ e)) (list_goes A to h xs (and_right (is_written_stmt (to x)) _ e))

stmt_level_goes : (A : Type 0) (to : A → Stmt) → ((x : A) → GoesStmt (to x)) → (y : Stmt-F A) → stmt_level (map-Stmt Stmt Bool is_written_stmt (map-Stmt A Stmt to y)) ≡ true
    → spelt_stmt_level (map-Stmt Stmt Bool spelt_stmt (map-Stmt A Stmt to y)) ≡ true
stmt_level_goes A to h (Wire l n t) e = refl
stmt_level_goes A to h (Node l n v) e = spelt_expr v (and_right _ (is_written_expr v) e)
stmt_level_goes A to h (Reg l n t c r) e = reset_goes r (and_right (is_written_expr c) _ (and_right _ _ (and_right _ _ e)))
stmt_level_goes A to h (Inst l n t) e = refl
stmt_level_goes A to h (Connect l s v) e =
    and_both (spelt s) (spelt v) (spelt_expr s (and_left (is_written_expr s) _ (and_left (is_written_sink s) _ e))) (spelt_expr v (and_right (is_written_sink s) _ e))
stmt_level_goes A to h (Invalid l s) e = spelt_expr s (and_left (is_written_expr s) _ e)
stmt_level_goes A to h (Skip l) e = refl
stmt_level_goes A to h (Verif l k a c t n) e = refl
stmt_level_goes A to h (When l c xs ys) e =
    let b = and_right (is_written_expr c) _ e in
    and_both (spelt c) _ (spelt_expr c (and_left (is_written_expr c) _ e))
    (and_both (spelt_all (map to xs)) (spelt_all (map to ys)) (list_goes A to h xs (and_left _ _ b)) (list_goes A to h ys (and_right _ _ b)))

pub spelt_statement : (s : Stmt) → GoesStmt s
spelt_statement s = ind-Stmt GoesStmt (λ x y e h.
    fold-roll-Stmt Bool spelt_stmt_level x
    ∙ subst (λ z. stmt_level (map-Stmt Stmt Bool is_written_stmt z) ≡ true → spelt_stmt_level (map-Stmt Stmt Bool spelt_stmt z) ≡ true) e
    (stmt_level_goes _ (λ z. z.0) (λ z. z.1) y) (sym (fold-roll-Stmt Bool stmt_level x) ∙ h)) s

body_spelt : (ss : List Stmt) → list_all is_written_stmt ss ≡ true → spelt_all ss ≡ true
body_spelt [] e = refl
body_spelt (s ∷ ss) e = and_both (spelt_stmt s) (spelt_all ss) (spelt_statement s (and_left (is_written_stmt s) _ e)) (body_spelt ss (and_right (is_written_stmt s) _ e))

modules_spelt : (ms : List Module) → list_all is_written_module ms ≡ true → Each (λ m. spelt_all m.body ≡ true) ms
modules_spelt [] e = tt
modules_spelt (m ∷ ms) e =
    let here = and_right _ _ (and_right _ _ (and_left (is_written_module m) _ e)) in
    (body_spelt m.body (and_left (list_all is_written_stmt m.body) _ here), modules_spelt ms (and_right (is_written_module m) _ e))

pub circuit_spelt : (c : Circuit) → IsWritten c → Each (λ m. spelt_all m.body ≡ true) c.modules
unfolding is_written
circuit_spelt c e = modules_spelt c.modules (and_right _ _ (and_right _ _ e))
