-- One level of a fold over a type, a statement or an expression, at each variant.
use Rattle.std.proofs.Common.{ℕ, Bool, Option, List, ◌≡◌, sym, ap, ◌∙◌, map}
use Rattle.fir_ast.specs.declared.tree.Ty.{Ty}
use Rattle.fir_ast.specs.declared.tree.Ty.TheVariants as ty
use Rattle.fir_ast.specs.declared.tree.Ty.TheVariants.{rolls-UInt, rolls-SInt, rolls-Clock, rolls-Reset, rolls-Bundle, rolls-Vector}
use Rattle.fir_ast.specs.declared.tree.Ty.TheFolds.{fold-Ty, fold-Field, fold-roll-Ty, fold-roll-Field}
use Rattle.fir_ast.specs.declared.tree.Ty.TheOpen.{Ty-F, Field-F, UInt, SInt, Clock, Reset, Bundle, Vector}
use Rattle.fir_ast.specs.declared.tree.Field.{Field}
use Rattle.fir_ast.specs.declared.tree.Ty.TheViews.{out-Ty, out-roll-Ty}
use Rattle.tb_base.specs.declared.op.Op.{Op}
use Rattle.fir_ast.specs.declared.tree.Expr.{Expr}
use Rattle.fir_ast.specs.declared.tree.Expr.TheVariants as expr
use Rattle.fir_ast.specs.declared.tree.Expr.TheVariants.{rolls-Ident, rolls-Part, rolls-At, rolls-Index, rolls-Lit, rolls-Apply}
use Rattle.fir_ast.specs.declared.tree.Expr.TheFolds.{fold-Expr, fold-roll-Expr}
use Rattle.fir_ast.specs.declared.tree.Expr.TheOpen.{Expr-F, Ident, Part, At, Index, Lit, Apply}
use Rattle.fir_ast.specs.declared.tree.ResetPair.{ResetPair}
use Rattle.fir_ast.specs.declared.tree.Stmt.{Stmt}
use Rattle.fir_ast.specs.declared.tree.Stmt.TheVariants as stmt
use Rattle.fir_ast.specs.declared.tree.Stmt.TheVariants.{rolls-Wire, rolls-Node, rolls-Reg, rolls-Inst, rolls-Connect, rolls-Invalid, rolls-When, rolls-Skip}
use Rattle.fir_ast.specs.declared.tree.Stmt.TheFolds.{fold-Stmt, fold-roll-Stmt}
use Rattle.fir_ast.specs.declared.tree.Stmt.TheOpen.{Stmt-F, Wire, Node, Reg, Inst, Connect, Invalid, When, Skip}

pub fold-UInt : (A B : Type 0) (f : Ty-F A B → A) (g : Field-F A B → B) (w : Option ℕ) → fold-Ty A B f g (ty.UInt w) ≡ f (UInt w)
fold-UInt A B f g w = ap (fold-Ty A B f g) (sym (rolls-UInt w)) ∙ fold-roll-Ty A B f g (UInt w)

pub fold-SInt : (A B : Type 0) (f : Ty-F A B → A) (g : Field-F A B → B) (w : Option ℕ) → fold-Ty A B f g (ty.SInt w) ≡ f (SInt w)
fold-SInt A B f g w = ap (fold-Ty A B f g) (sym (rolls-SInt w)) ∙ fold-roll-Ty A B f g (SInt w)

pub fold-Clock : (A B : Type 0) (f : Ty-F A B → A) (g : Field-F A B → B) → fold-Ty A B f g ty.Clock ≡ f Clock
fold-Clock A B f g = ap (fold-Ty A B f g) (sym rolls-Clock) ∙ fold-roll-Ty A B f g Clock

pub fold-Reset : (A B : Type 0) (f : Ty-F A B → A) (g : Field-F A B → B) → fold-Ty A B f g ty.Reset ≡ f Reset
fold-Reset A B f g = ap (fold-Ty A B f g) (sym rolls-Reset) ∙ fold-roll-Ty A B f g Reset

pub fold-Vector : (A B : Type 0) (f : Ty-F A B → A) (g : Field-F A B → B) (t : Ty) (n : ℕ) → fold-Ty A B f g (ty.Vector t n) ≡ f (Vector (fold-Ty A B f g t) n)
fold-Vector A B f g t n = ap (fold-Ty A B f g) (sym (rolls-Vector t n)) ∙ fold-roll-Ty A B f g (Vector t n)

pub fold-Bundle : (A B : Type 0) (f : Ty-F A B → A) (g : Field-F A B → B) (fields : List Field) → fold-Ty A B f g (ty.Bundle fields) ≡ f (Bundle (map (fold-Field A B f g) fields))
fold-Bundle A B f g fields = ap (fold-Ty A B f g) (sym (rolls-Bundle fields)) ∙ fold-roll-Ty A B f g (Bundle fields)

pub at-UInt : (C D B : Type 0) (f : Ty-F (C → D) B → C → D) (g : Field-F (C → D) B → B) (w : Option ℕ) (x : C) → fold-Ty (C → D) B f g (ty.UInt w) x ≡ f (UInt w) x
at-UInt C D B f g w x = ap (λ h. h x) (fold-UInt (C → D) B f g w)

pub out-UInt : (w : Option ℕ) → out-Ty (ty.UInt w) ≡ UInt w
out-UInt w = ap out-Ty (sym (rolls-UInt w)) ∙ out-roll-Ty (UInt w)

pub at-SInt : (C D B : Type 0) (f : Ty-F (C → D) B → C → D) (g : Field-F (C → D) B → B) (w : Option ℕ) (x : C) → fold-Ty (C → D) B f g (ty.SInt w) x ≡ f (SInt w) x
at-SInt C D B f g w x = ap (λ h. h x) (fold-SInt (C → D) B f g w)

pub out-SInt : (w : Option ℕ) → out-Ty (ty.SInt w) ≡ SInt w
out-SInt w = ap out-Ty (sym (rolls-SInt w)) ∙ out-roll-Ty (SInt w)

pub at-Clock : (C D B : Type 0) (f : Ty-F (C → D) B → C → D) (g : Field-F (C → D) B → B) (x : C) → fold-Ty (C → D) B f g ty.Clock x ≡ f Clock x
at-Clock C D B f g x = ap (λ h. h x) (fold-Clock (C → D) B f g)

pub out-Clock : out-Ty ty.Clock ≡ Clock
out-Clock = ap out-Ty (sym rolls-Clock) ∙ out-roll-Ty Clock

pub at-Reset : (C D B : Type 0) (f : Ty-F (C → D) B → C → D) (g : Field-F (C → D) B → B) (x : C) → fold-Ty (C → D) B f g ty.Reset x ≡ f Reset x
at-Reset C D B f g x = ap (λ h. h x) (fold-Reset (C → D) B f g)

pub out-Reset : out-Ty ty.Reset ≡ Reset
out-Reset = ap out-Ty (sym rolls-Reset) ∙ out-roll-Ty Reset

pub at-Vector : (C D B : Type 0) (f : Ty-F (C → D) B → C → D) (g : Field-F (C → D) B → B) (t : Ty) (n : ℕ) (x : C) → fold-Ty (C → D) B f g (ty.Vector t n) x ≡ f (Vector (fold-Ty (C → D) B f g t) n) x
at-Vector C D B f g t n x = ap (λ h. h x) (fold-Vector (C → D) B f g t n)

pub out-Vector : (t : Ty) (n : ℕ) → out-Ty (ty.Vector t n) ≡ Vector t n
out-Vector t n = ap out-Ty (sym (rolls-Vector t n)) ∙ out-roll-Ty (Vector t n)

pub at-Bundle : (C D B : Type 0) (f : Ty-F (C → D) B → C → D) (g : Field-F (C → D) B → B) (fields : List Field) (x : C) → fold-Ty (C → D) B f g (ty.Bundle fields) x ≡ f (Bundle (map (fold-Field (C → D) B f g) fields)) x
at-Bundle C D B f g fields x = ap (λ h. h x) (fold-Bundle (C → D) B f g fields)

pub out-Bundle : (fields : List Field) → out-Ty (ty.Bundle fields) ≡ Bundle fields
out-Bundle fields = ap out-Ty (sym (rolls-Bundle fields)) ∙ out-roll-Ty (Bundle fields)

pub expr-Ident : (A : Type 0) (f : Expr-F A → A) (name : List ℕ) → fold-Expr A f (expr.Ident name) ≡ f (Ident name)
expr-Ident A f name = ap (fold-Expr A f) (sym (rolls-Ident name)) ∙ fold-roll-Expr A f (Ident name)

pub expr-Part : (A : Type 0) (f : Expr-F A → A) (e : Expr) (name : List ℕ) → fold-Expr A f (expr.Part e name) ≡ f (Part (fold-Expr A f e) name)
expr-Part A f e name = ap (fold-Expr A f) (sym (rolls-Part e name)) ∙ fold-roll-Expr A f (Part e name)

pub expr-At : (A : Type 0) (f : Expr-F A → A) (e : Expr) (n : ℕ) → fold-Expr A f (expr.At e n) ≡ f (At (fold-Expr A f e) n)
expr-At A f e n = ap (fold-Expr A f) (sym (rolls-At e n)) ∙ fold-roll-Expr A f (At e n)

pub expr-Index : (A : Type 0) (f : Expr-F A → A) (of at : Expr) → fold-Expr A f (expr.Index of at) ≡ f (Index (fold-Expr A f of) (fold-Expr A f at))
expr-Index A f of at = ap (fold-Expr A f) (sym (rolls-Index of at)) ∙ fold-roll-Expr A f (Index of at)

pub expr-Lit : (A : Type 0) (f : Expr-F A → A) (signed : Bool) (width : Option ℕ) (negative : Bool) (n : ℕ) → fold-Expr A f (expr.Lit signed width negative n) ≡ f (Lit signed width negative n)
expr-Lit A f signed width negative n = ap (fold-Expr A f) (sym (rolls-Lit signed width negative n)) ∙ fold-roll-Expr A f (Lit signed width negative n)

pub expr-Apply : (A : Type 0) (f : Expr-F A → A) (op : Op) (args : List Expr) (nums : List ℕ) → fold-Expr A f (expr.Apply op args nums) ≡ f (Apply op (map (fold-Expr A f) args) nums)
expr-Apply A f op args nums = ap (fold-Expr A f) (sym (rolls-Apply op args nums)) ∙ fold-roll-Expr A f (Apply op args nums)

pub stmt-Wire : (C D : Type 0) (f : Stmt-F (C → D) → C → D) (l : ℕ) (n : List ℕ) (t : Ty) (x : C) → fold-Stmt (C → D) f (stmt.Wire l n t) x ≡ f (Wire l n t) x
stmt-Wire C D f l n t x = ap (λ s. fold-Stmt (C → D) f s x) (sym (rolls-Wire l n t)) ∙ ap (λ h. h x) (fold-roll-Stmt (C → D) f (Wire l n t))

pub stmt-Node : (C D : Type 0) (f : Stmt-F (C → D) → C → D) (l : ℕ) (n : List ℕ) (e : Expr) (x : C) → fold-Stmt (C → D) f (stmt.Node l n e) x ≡ f (Node l n e) x
stmt-Node C D f l n e x = ap (λ s. fold-Stmt (C → D) f s x) (sym (rolls-Node l n e)) ∙ ap (λ h. h x) (fold-roll-Stmt (C → D) f (Node l n e))

pub stmt-Reg : (C D : Type 0) (f : Stmt-F (C → D) → C → D) (l : ℕ) (n : List ℕ) (t : Ty) (c : Expr) (r : Option ResetPair) (x : C) → fold-Stmt (C → D) f (stmt.Reg l n t c r) x ≡ f (Reg l n t c r) x
stmt-Reg C D f l n t c r x = ap (λ s. fold-Stmt (C → D) f s x) (sym (rolls-Reg l n t c r)) ∙ ap (λ h. h x) (fold-roll-Stmt (C → D) f (Reg l n t c r))

pub stmt-Inst : (C D : Type 0) (f : Stmt-F (C → D) → C → D) (l : ℕ) (n m : List ℕ) (x : C) → fold-Stmt (C → D) f (stmt.Inst l n m) x ≡ f (Inst l n m) x
stmt-Inst C D f l n m x = ap (λ s. fold-Stmt (C → D) f s x) (sym (rolls-Inst l n m)) ∙ ap (λ h. h x) (fold-roll-Stmt (C → D) f (Inst l n m))

pub stmt-Connect : (C D : Type 0) (f : Stmt-F (C → D) → C → D) (l : ℕ) (s e : Expr) (x : C) → fold-Stmt (C → D) f (stmt.Connect l s e) x ≡ f (Connect l s e) x
stmt-Connect C D f l s e x = ap (λ s. fold-Stmt (C → D) f s x) (sym (rolls-Connect l s e)) ∙ ap (λ h. h x) (fold-roll-Stmt (C → D) f (Connect l s e))

pub stmt-Invalid : (C D : Type 0) (f : Stmt-F (C → D) → C → D) (l : ℕ) (s : Expr) (x : C) → fold-Stmt (C → D) f (stmt.Invalid l s) x ≡ f (Invalid l s) x
stmt-Invalid C D f l s x = ap (λ s. fold-Stmt (C → D) f s x) (sym (rolls-Invalid l s)) ∙ ap (λ h. h x) (fold-roll-Stmt (C → D) f (Invalid l s))

pub stmt-Skip : (C D : Type 0) (f : Stmt-F (C → D) → C → D) (l : ℕ) (x : C) → fold-Stmt (C → D) f (stmt.Skip l) x ≡ f (Skip l) x
stmt-Skip C D f l x = ap (λ s. fold-Stmt (C → D) f s x) (sym (rolls-Skip l)) ∙ ap (λ h. h x) (fold-roll-Stmt (C → D) f (Skip l))

pub stmt-When : (C D : Type 0) (f : Stmt-F (C → D) → C → D) (l : ℕ) (c : Expr) (a b : List Stmt) (x : C) → fold-Stmt (C → D) f (stmt.When l c a b) x ≡ f (When l c (map (fold-Stmt (C → D) f) a) (map (fold-Stmt (C → D) f) b)) x
stmt-When C D f l c a b x = ap (λ s. fold-Stmt (C → D) f s x) (sym (rolls-When l c a b)) ∙ ap (λ h. h x) (fold-roll-Stmt (C → D) f (When l c a b))

pub plain-Inst : (A : Type 0) (f : Stmt-F A → A) (l : ℕ) (n m : List ℕ) → fold-Stmt A f (stmt.Inst l n m) ≡ f (Inst l n m)
plain-Inst A f l n m = ap (fold-Stmt A f) (sym (rolls-Inst l n m)) ∙ fold-roll-Stmt A f (Inst l n m)

-- each of them
pub ruleset unrolled = (fold-UInt, fold-SInt, fold-Clock, fold-Reset, fold-Vector, fold-Bundle, at-UInt, at-SInt, at-Clock, at-Reset, at-Vector, at-Bundle, out-UInt, out-SInt, out-Clock, out-Reset, out-Vector, out-Bundle, expr-Ident, expr-Lit, expr-Apply, stmt-Wire, stmt-When, stmt-Skip, stmt-Inst, plain-Inst, fold-roll-Field)
