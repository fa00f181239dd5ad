-- The tests of the tree and its pieces, an equation for each variant that an example needs.
use Rattle.std.proofs.Common.{◌≡◌, ℕ, Bool, max, suc, List, [], ◌∷◌, ◌++◌, sym, ap, ◌∙◌, map}
use Rattle.std.specs.Prelude.{◌&&◌, Option, codes}
use Rattle.std.specs.List.{list_all}
use Rattle.text_grammar.specs.declared.item.Symbol.TheVariants as s
use Rattle.fir_ast.specs.declared.tree.Ty.{Ty}
use Rattle.fir_ast.specs.declared.tree.Ty.TheFolds.{fold-Field, fold-roll-Ty, fold-roll-Field}
use Rattle.fir_ast.specs.declared.tree.Ty.TheViews.{roll-Field}
use Rattle.fir_ast.specs.declared.tree.Ty.TheOpen as F
use Rattle.fir_ast.specs.declared.tree.Ty.TheVariants.{UInt, Bundle, Vector, rolls-UInt, rolls-Bundle, rolls-Vector}
use Rattle.fir_ast.specs.declared.tree.Field.{Field}
use Rattle.fir_ast.specs.declared.tree.Expr.{Expr}
use Rattle.fir_ast.specs.declared.tree.Expr.TheFolds.{fold-roll-Expr}
use Rattle.fir_ast.specs.declared.tree.Expr.TheOpen as E
use Rattle.fir_ast.specs.declared.tree.Expr.TheVariants.{Ident, Lit, rolls-Ident, rolls-Lit}
use Rattle.fir_ast.specs.declared.tree.VerifKind.{VerifKind}
use Rattle.fir_ast.specs.declared.tree.Stmt.TheFolds.{fold-roll-Stmt}
use Rattle.fir_ast.specs.declared.tree.Stmt.TheOpen as S
use Rattle.fir_ast.specs.declared.tree.Stmt.TheVariants.{Wire, Node, Skip, Verif, rolls-Wire, rolls-Node, rolls-Skip, rolls-Verif}
use Rattle.fir_print_laws.specs.Atoms.{Atom, Line, word, mark, space, literal_atoms, expr_level, expr_atoms, stmt_level, stmt_lines}
use Rattle.fir_print_laws.specs.Standing.{is_word_text, is_closed, no_feed}
use Rattle.fir_print_laws.specs.Printable.{is_number, is_width, all_true, greatest, type_test, field_test, type_words, type_nesting, field_nesting, type_depth, type_fits, expr_test, expr_words, expr_nesting, expr_depth, operand_fits, label_fits, stmt_test, stmt_fits}

pub lit_atoms : (signed : Bool) (w : Option ℕ) (negative : Bool) (n : ℕ) → expr_atoms (Lit signed w negative n) ≡ literal_atoms signed w negative n
lit_atoms signed w negative n = ap expr_atoms (sym (rolls-Lit signed w negative n)) ∙ fold-roll-Expr (List Atom) expr_level (E.Lit signed w negative n)

pub node_lines : (l : ℕ) (name : List ℕ) (value : Expr) (i : List Atom) → stmt_lines (Node l name value) i ≡ (i ++ (word (codes "node") ∷ space ∷ word name ∷ space ∷ mark s.Equal ∷ space ∷ expr_atoms value)) ∷ []
node_lines l name value i = ap (λ t. stmt_lines t i) (sym (rolls-Node l name value)) ∙ ap (λ f. f i) (fold-roll-Stmt (List Atom → List Line) stmt_level (S.Node l name value))

pub uint_words : (w : Option ℕ) → type_words (UInt w) ≡ is_width w
uint_words w = ap type_words (sym (rolls-UInt w)) ∙ fold-roll-Ty Bool Bool type_test field_test (F.UInt w)

pub vector_words : (of : Ty) (n : ℕ) → type_words (Vector of n) ≡ (type_words of && is_number n)
vector_words of n = ap type_words (sym (rolls-Vector of n)) ∙ fold-roll-Ty Bool Bool type_test field_test (F.Vector of n)

pub bundle_words : (fields : List Field) → type_words (Bundle fields) ≡ all_true (map (fold-Field Bool Bool type_test field_test) fields)
bundle_words fields = ap type_words (sym (rolls-Bundle fields)) ∙ fold-roll-Ty Bool Bool type_test field_test (F.Bundle fields)

pub field_words : (flip : Bool) (name : List ℕ) (ty : Ty) → fold-Field Bool Bool type_test field_test (roll-Field (record { flip = flip; name = name; ty = ty })) ≡ (is_word_text name && type_words ty)
field_words flip name ty = fold-roll-Field Bool Bool type_test field_test (record { flip = flip; name = name; ty = ty })

pub uint_depth : (w : Option ℕ) → type_depth (UInt w) ≡ 0
uint_depth w = ap type_depth (sym (rolls-UInt w)) ∙ fold-roll-Ty ℕ ℕ type_nesting field_nesting (F.UInt w)

pub vector_depth : (of : Ty) (n : ℕ) → type_depth (Vector of n) ≡ max (type_depth of) 1
vector_depth of n = ap type_depth (sym (rolls-Vector of n)) ∙ fold-roll-Ty ℕ ℕ type_nesting field_nesting (F.Vector of n)

pub bundle_depth : (fields : List Field) → type_depth (Bundle fields) ≡ suc (greatest (map (fold-Field ℕ ℕ type_nesting field_nesting) fields))
bundle_depth fields = ap type_depth (sym (rolls-Bundle fields)) ∙ fold-roll-Ty ℕ ℕ type_nesting field_nesting (F.Bundle fields)

pub field_depth : (flip : Bool) (name : List ℕ) (ty : Ty) → fold-Field ℕ ℕ type_nesting field_nesting (roll-Field (record { flip = flip; name = name; ty = ty })) ≡ type_depth ty
field_depth flip name ty = fold-roll-Field ℕ ℕ type_nesting field_nesting (record { flip = flip; name = name; ty = ty })

pub ident_words : (name : List ℕ) → expr_words (Ident name) ≡ is_word_text name
ident_words name = ap expr_words (sym (rolls-Ident name)) ∙ fold-roll-Expr Bool expr_test (E.Ident name)

pub ident_depth : (name : List ℕ) → expr_depth (Ident name) ≡ 0
ident_depth name = ap expr_depth (sym (rolls-Ident name)) ∙ fold-roll-Expr ℕ expr_nesting (E.Ident name)

pub wire_fits : (l : ℕ) (name : List ℕ) (ty : Ty) → stmt_fits (Wire l name ty) ≡ (is_word_text name && type_fits ty)
wire_fits l name ty = ap stmt_fits (sym (rolls-Wire l name ty)) ∙ fold-roll-Stmt Bool stmt_test (S.Wire l name ty)

pub skip_fits : (l : ℕ) → stmt_fits (Skip l) ≡ stmt_test (S.Skip l)
skip_fits l = ap stmt_fits (sym (rolls-Skip l)) ∙ fold-roll-Stmt Bool stmt_test (S.Skip l)

pub verif_fits : (l : ℕ) (kind : VerifKind) (args : List Expr) (code : ℕ) (t : List ℕ) (label : Option (List ℕ))
    → stmt_fits (Verif l kind args code t label) ≡ (list_all operand_fits args && (is_number code && ((is_closed 34 t && no_feed t) && label_fits label)))
verif_fits l kind args code t label = ap stmt_fits (sym (rolls-Verif l kind args code t label)) ∙ fold-roll-Stmt Bool stmt_test (S.Verif l kind args code t label)
