-- The printed form of the tree, an equation for each variant.
use Rattle.std.proofs.Common.{◌≡◌, ℕ, Bool, List, ◌++◌, sym, ap, ◌∙◌, map}
use Rattle.std.specs.Prelude.{Option, codes}
use Rattle.std.specs.Fmt.{decimal}
use Rattle.tb_base.specs.Names.{op_name}
use Rattle.tb_base.specs.declared.op.Op.{Op}
use Rattle.fir_ast.specs.declared.tree.Ty.{Ty}
use Rattle.fir_ast.specs.declared.tree.Ty.TheFolds.{fold-roll-Ty, fold-roll-Field}
use Rattle.fir_ast.specs.declared.tree.Ty.TheViews.{roll-Field}
use Rattle.fir_ast.specs.declared.tree.Ty.TheOpen as F
use Rattle.fir_ast.specs.declared.tree.Ty.TheVariants.{UInt, SInt, Clock, Reset, Bundle, Vector, rolls-UInt, rolls-SInt, rolls-Clock, rolls-Reset, rolls-Bundle, rolls-Vector}
use Rattle.fir_ast.specs.declared.tree.Field.{Field}
use Rattle.fir_ast.specs.declared.tree.Expr.{Expr}
use Rattle.fir_ast.specs.declared.tree.Expr.TheFolds.{fold-roll-Expr}
use Rattle.fir_ast.specs.declared.tree.Expr.TheOpen as E
use Rattle.fir_ast.specs.declared.tree.Expr.TheVariants.{Ident, Part, At, Index, Lit, Apply, rolls-Ident, rolls-Part, rolls-At, rolls-Index, rolls-Lit, rolls-Apply}
use Rattle.fir_ast.specs.declared.tree.ResetPair.{ResetPair}
use Rattle.fir_ast.specs.declared.tree.VerifKind.{VerifKind}
use Rattle.fir_ast.specs.declared.tree.Stmt.{Stmt}
use Rattle.fir_ast.specs.declared.tree.Stmt.TheFolds.{fold-roll-Stmt}
use Rattle.fir_ast.specs.declared.tree.Stmt.TheOpen as S
use Rattle.fir_ast.specs.declared.tree.Stmt.TheVariants.{Wire, Node, Reg, Inst, Connect, Invalid, When, Skip, Verif, rolls-Wire, rolls-Node, rolls-Reg, rolls-Inst, rolls-Connect, rolls-Invalid, rolls-When, rolls-Skip, rolls-Verif}
use Rattle.fir_ast.specs.Printed.{type_text, field_text, type_level, field_level, width_text, bundle_text, flip_text, expr_text, expr_level, literal_text, listed, stmt_text, stmt_level, line_text, deeper, block_text, else_text, wire_words, node_words, reg_words, inst_words, connect_words, invalid_words, when_words, verif_words}

-- types

pub uint_text : (w : Option ℕ) → type_text (UInt w) ≡ codes "UInt" ++ width_text w
uint_text w = ap type_text (sym (rolls-UInt w)) ∙ fold-roll-Ty (List ℕ) (List ℕ) type_level field_level (F.UInt w)

pub sint_text : (w : Option ℕ) → type_text (SInt w) ≡ codes "SInt" ++ width_text w
sint_text w = ap type_text (sym (rolls-SInt w)) ∙ fold-roll-Ty (List ℕ) (List ℕ) type_level field_level (F.SInt w)

pub vector_text : (of : Ty) (n : ℕ) → type_text (Vector of n) ≡ type_text of ++ (codes "[" ++ (decimal n ++ codes "]"))
vector_text of n = ap type_text (sym (rolls-Vector of n)) ∙ fold-roll-Ty (List ℕ) (List ℕ) type_level field_level (F.Vector of n)

pub bundle_of_text : (fields : List Field) → type_text (Bundle fields) ≡ bundle_text (map field_text fields)
bundle_of_text fields = ap type_text (sym (rolls-Bundle fields)) ∙ fold-roll-Ty (List ℕ) (List ℕ) type_level field_level (F.Bundle fields)

pub clock_text : type_text Clock ≡ codes "Clock"
clock_text = ap type_text (sym rolls-Clock) ∙ fold-roll-Ty (List ℕ) (List ℕ) type_level field_level F.Clock

pub reset_text : type_text Reset ≡ codes "Reset"
reset_text = ap type_text (sym rolls-Reset) ∙ fold-roll-Ty (List ℕ) (List ℕ) type_level field_level F.Reset

pub field_of_text : (flip : Bool) (name : List ℕ) (ty : Ty) → field_text (roll-Field (record { flip = flip; name = name; ty = ty })) ≡ flip_text flip ++ (name ++ (codes " : " ++ type_text ty))
field_of_text flip name ty = fold-roll-Field (List ℕ) (List ℕ) type_level field_level (record { flip = flip; name = name; ty = ty })

-- expressions

pub ident_text : (name : List ℕ) → expr_text (Ident name) ≡ name
ident_text name = ap expr_text (sym (rolls-Ident name)) ∙ fold-roll-Expr (List ℕ) expr_level (E.Ident name)

pub part_text : (e : Expr) (name : List ℕ) → expr_text (Part e name) ≡ expr_text e ++ (codes "." ++ name)
part_text e name = ap expr_text (sym (rolls-Part e name)) ∙ fold-roll-Expr (List ℕ) expr_level (E.Part e name)

pub at_text : (e : Expr) (n : ℕ) → expr_text (At e n) ≡ expr_text e ++ (codes "[" ++ (decimal n ++ codes "]"))
at_text e n = ap expr_text (sym (rolls-At e n)) ∙ fold-roll-Expr (List ℕ) expr_level (E.At e n)

pub index_text : (e index : Expr) → expr_text (Index e index) ≡ expr_text e ++ (codes "[" ++ (expr_text index ++ codes "]"))
index_text e index = ap expr_text (sym (rolls-Index e index)) ∙ fold-roll-Expr (List ℕ) expr_level (E.Index e index)

pub lit_text : (s : Bool) (w : Option ℕ) (negative : Bool) (n : ℕ) → expr_text (Lit s w negative n) ≡ literal_text s w negative n
lit_text s w negative n = ap expr_text (sym (rolls-Lit s w negative n)) ∙ fold-roll-Expr (List ℕ) expr_level (E.Lit s w negative n)

pub apply_text : (op : Op) (args : List Expr) (nums : List ℕ) → expr_text (Apply op args nums) ≡ op_name op ++ (codes "(" ++ (listed (map expr_text args ++ map decimal nums) ++ codes ")"))
apply_text op args nums = ap expr_text (sym (rolls-Apply op args nums)) ∙ fold-roll-Expr (List ℕ) expr_level (E.Apply op args nums)

-- statements, at the indentation i

pub wire_text : (l : ℕ) (name : List ℕ) (ty : Ty) (i : List ℕ) → stmt_text (Wire l name ty) i ≡ line_text i (wire_words name ty)
wire_text l name ty i = ap (λ s. stmt_text s i) (sym (rolls-Wire l name ty)) ∙ ap (λ f. f i) (fold-roll-Stmt (List ℕ → List ℕ) stmt_level (S.Wire l name ty))

pub node_text : (l : ℕ) (name : List ℕ) (value : Expr) (i : List ℕ) → stmt_text (Node l name value) i ≡ line_text i (node_words name value)
node_text l name value i = ap (λ s. stmt_text s i) (sym (rolls-Node l name value)) ∙ ap (λ f. f i) (fold-roll-Stmt (List ℕ → List ℕ) stmt_level (S.Node l name value))

pub reg_text : (l : ℕ) (name : List ℕ) (ty : Ty) (clock : Expr) (reset : Option ResetPair) (i : List ℕ) → stmt_text (Reg l name ty clock reset) i ≡ line_text i (reg_words name ty clock reset)
reg_text l name ty clock reset i = ap (λ s. stmt_text s i) (sym (rolls-Reg l name ty clock reset)) ∙ ap (λ f. f i) (fold-roll-Stmt (List ℕ → List ℕ) stmt_level (S.Reg l name ty clock reset))

pub inst_text : (l : ℕ) (name target i : List ℕ) → stmt_text (Inst l name target) i ≡ line_text i (inst_words name target)
inst_text l name target i = ap (λ s. stmt_text s i) (sym (rolls-Inst l name target)) ∙ ap (λ f. f i) (fold-roll-Stmt (List ℕ → List ℕ) stmt_level (S.Inst l name target))

pub connect_text : (l : ℕ) (sink value : Expr) (i : List ℕ) → stmt_text (Connect l sink value) i ≡ line_text i (connect_words sink value)
connect_text l sink value i = ap (λ s. stmt_text s i) (sym (rolls-Connect l sink value)) ∙ ap (λ f. f i) (fold-roll-Stmt (List ℕ → List ℕ) stmt_level (S.Connect l sink value))

pub invalid_text : (l : ℕ) (sink : Expr) (i : List ℕ) → stmt_text (Invalid l sink) i ≡ line_text i (invalid_words sink)
invalid_text l sink i = ap (λ s. stmt_text s i) (sym (rolls-Invalid l sink)) ∙ ap (λ f. f i) (fold-roll-Stmt (List ℕ → List ℕ) stmt_level (S.Invalid l sink))

pub when_text : (l : ℕ) (cond : Expr) (taken other : List Stmt) (i : List ℕ) → stmt_text (When l cond taken other) i ≡ line_text i (when_words cond) ++ (block_text (map stmt_text taken) (deeper i) ++ else_text (map stmt_text other) i)
when_text l cond taken other i = ap (λ s. stmt_text s i) (sym (rolls-When l cond taken other)) ∙ ap (λ f. f i) (fold-roll-Stmt (List ℕ → List ℕ) stmt_level (S.When l cond taken other))

pub skip_text : (l : ℕ) (i : List ℕ) → stmt_text (Skip l) i ≡ line_text i (codes "skip")
skip_text l i = ap (λ s. stmt_text s i) (sym (rolls-Skip l)) ∙ ap (λ f. f i) (fold-roll-Stmt (List ℕ → List ℕ) stmt_level (S.Skip l))

pub verif_text : (l : ℕ) (kind : VerifKind) (args : List Expr) (code : ℕ) (text : List ℕ) (label : Option (List ℕ)) (i : List ℕ) → stmt_text (Verif l kind args code text label) i ≡ line_text i (verif_words kind args code text label)
verif_text l kind args code text label i = ap (λ s. stmt_text s i) (sym (rolls-Verif l kind args code text label)) ∙ ap (λ f. f i) (fold-roll-Stmt (List ℕ → List ℕ) stmt_level (S.Verif l kind args code text label))
