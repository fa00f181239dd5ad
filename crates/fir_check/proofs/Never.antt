-- A rule that no statement breaks has no lines.
use Rattle.std.proofs.Common.{◌≡◌, false, List, [], ◌∷◌, ◌++◌, map, refl, sym, ap, ◌∙◌}
use Rattle.fir_ast.specs.declared.tree.Stmt.{Stmt, map-Stmt}
use Rattle.fir_ast.specs.declared.tree.Stmt.TheFolds.{fold-roll-Stmt, ind-Stmt}
use Rattle.fir_ast.specs.declared.tree.Stmt.TheOpen.{Stmt-F, Wire, Node, Reg, Inst, Connect, Invalid, When, Skip, Verif}
use Rattle.fir_ast.specs.declared.tree.Module.{Module}
use Rattle.fir_check.specs.Scopes.{Known, Walk, StmtRule, stmt_found, stmt_level, in_turn, in_block, body_lines, ports_known}

abbrev never : StmtRule
never known s = false

abbrev found : List Module → Stmt → Walk
found modules = stmt_found modules never

turn-lines : {S : Type 0} (modules : List Module) (to : S → Stmt) (xs : List S) → ((e : S) (known : List Known) → (found modules (to e) known).lines ≡ []) → (known : List Known)
    → (in_turn (map (found modules) (map to xs)) known).lines ≡ []
turn-lines modules to [] h known = refl
turn-lines modules to (x ∷ xs) h known =
    ap (λ t. t ++ (in_turn (map (found modules) (map to xs)) (found modules (to x) known).known).lines) (h x known)
    ∙ turn-lines modules to xs h (found modules (to x) known).known

lines-level : (modules : List Module) (S : Type 0) (to : S → Stmt) → ((e : S) (known : List Known) → (found modules (to e) known).lines ≡ []) → (y : Stmt-F S) (known : List Known)
    → (stmt_level modules never (map-Stmt Stmt Walk (found modules) (map-Stmt S Stmt to y)) known).lines ≡ []
lines-level modules S to h (Wire l n t) known = refl
lines-level modules S to h (Node l n v) known = refl
lines-level modules S to h (Reg l n t c r) known = refl
lines-level modules S to h (Inst l n t) known = refl
lines-level modules S to h (Connect l s v) known = refl
lines-level modules S to h (Invalid l s) known = refl
lines-level modules S to h (Skip l) known = refl
lines-level modules S to h (Verif l k a c t n) known = refl
lines-level modules S to h (When l c a b) known =
    let k : List Known = (in_block (map (found modules) (map to a)) known).known in
    ap (λ t. t ++ (in_turn (map (found modules) (map to b)) k).lines) (turn-lines modules to a h known)
    ∙ turn-lines modules to b h k

stmt-lines : (modules : List Module) (s : Stmt) (known : List Known) → (found modules s known).lines ≡ []
stmt-lines modules s = ind-Stmt (λ x. (known : List Known) → (found modules x known).lines ≡ []) (λ x y e known.
    ap (λ f. (f known).lines) (fold-roll-Stmt Walk (stmt_level modules never) x)
    ∙ ap (λ z. (stmt_level modules never (map-Stmt Stmt Walk (found modules) z) known).lines) (sym e)
    ∙ lines-level modules _ (λ z. z.0) (λ z. z.1) y known) s

body-turn : (modules : List Module) (body : List Stmt) (known : List Known) → (in_turn (map (found modules) body) known).lines ≡ []
body-turn modules [] known = refl
body-turn modules (s ∷ body) known =
    ap (λ t. t ++ (in_turn (map (found modules) body) (found modules s known).known).lines) (stmt-lines modules s known)
    ∙ body-turn modules body (found modules s known).known

pub never_body : (modules : List Module) (m : Module) → body_lines modules (λ known s. false) m ≡ []
never_body modules m = body-turn modules m.body (ports_known m)
