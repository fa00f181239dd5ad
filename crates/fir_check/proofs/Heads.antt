-- Statements without what stands in them, one after another by their kinds.
use Rattle.std.proofs.Common.{ℕ, ◌≡◌, Option, List, sym, ap, ◌∙◌, map}
use Rattle.fir_ast.specs.declared.tree.Ty.{Ty}
use Rattle.fir_ast.specs.declared.tree.Expr.{Expr}
use Rattle.fir_ast.specs.declared.tree.ResetPair.{ResetPair}
use Rattle.fir_ast.specs.declared.tree.VerifKind.{VerifKind}
use Rattle.fir_ast.specs.declared.tree.Stmt.{Stmt, map-Stmt}
use Rattle.fir_ast.specs.declared.tree.Stmt.TheVariants as stmt
use Rattle.fir_ast.specs.declared.tree.Stmt.TheVariants.{rolls-Wire, rolls-Node, rolls-Reg, rolls-Inst, rolls-Connect, rolls-Invalid, rolls-When, rolls-Skip, rolls-Verif}
use Rattle.fir_ast.specs.declared.tree.Stmt.TheViews.{out-roll-Stmt, roll-Stmt}
use Rattle.fir_ast.specs.declared.tree.Stmt.TheOpen.{Stmt-F, Wire, Node, Reg, Inst, Connect, Invalid, When, Skip, Verif}
use Rattle.fir_check.specs.Scopes.{Walk}
use Rattle.fir_check.specs.Walking.{idle, head_of}

head_roll : (x : Stmt-F Stmt) → head_of (roll-Stmt x) ≡ map-Stmt Stmt Walk (λ _. idle) x
head_roll x = ap (map-Stmt Stmt Walk (λ _. idle)) (out-roll-Stmt x)

pub head-Wire : (l : ℕ) (n : List ℕ) (t : Ty) → head_of (stmt.Wire l n t) ≡ Wire l n t
head-Wire l n t = ap head_of (sym (rolls-Wire l n t)) ∙ head_roll (Wire l n t)

pub head-Node : (l : ℕ) (n : List ℕ) (e : Expr) → head_of (stmt.Node l n e) ≡ Node l n e
head-Node l n e = ap head_of (sym (rolls-Node l n e)) ∙ head_roll (Node l n e)

pub head-Reg : (l : ℕ) (n : List ℕ) (t : Ty) (c : Expr) (r : Option ResetPair) → head_of (stmt.Reg l n t c r) ≡ Reg l n t c r
head-Reg l n t c r = ap head_of (sym (rolls-Reg l n t c r)) ∙ head_roll (Reg l n t c r)

pub head-Inst : (l : ℕ) (n m : List ℕ) → head_of (stmt.Inst l n m) ≡ Inst l n m
head-Inst l n m = ap head_of (sym (rolls-Inst l n m)) ∙ head_roll (Inst l n m)

pub head-Connect : (l : ℕ) (s e : Expr) → head_of (stmt.Connect l s e) ≡ Connect l s e
head-Connect l s e = ap head_of (sym (rolls-Connect l s e)) ∙ head_roll (Connect l s e)

pub head-Invalid : (l : ℕ) (s : Expr) → head_of (stmt.Invalid l s) ≡ Invalid l s
head-Invalid l s = ap head_of (sym (rolls-Invalid l s)) ∙ head_roll (Invalid l s)

pub head-When : (l : ℕ) (c : Expr) (a b : List Stmt) → head_of (stmt.When l c a b) ≡ When l c (map (λ _. idle) a) (map (λ _. idle) b)
head-When l c a b = ap head_of (sym (rolls-When l c a b)) ∙ head_roll (When l c a b)

pub head-Skip : (l : ℕ) → head_of (stmt.Skip l) ≡ Skip l
head-Skip l = ap head_of (sym (rolls-Skip l)) ∙ head_roll (Skip l)

pub head-Verif : (l : ℕ) (k : VerifKind) (args : List Expr) (code : ℕ) (text : List ℕ) (label : Option (List ℕ)) → head_of (stmt.Verif l k args code text label) ≡ Verif l k args code text label
head-Verif l k args code text label = ap head_of (sym (rolls-Verif l k args code text label)) ∙ head_roll (Verif l k args code text label)
