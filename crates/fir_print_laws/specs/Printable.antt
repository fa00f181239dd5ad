-- Circuits whose printed form can be cut into its tokens again: names are words, strings are closed on their line, numbers are
-- below 2^128, and at most 64 brackets are open at once on a line.
use Rattle.std.specs.Prelude.{ℕ, suc, max, ◌^◌, ◌&&◌, nat_lt, nat_le, Bool, true, Option, Some, None, List, [], ◌∷◌}
use Rattle.std.specs.List.{list_all}
use Rattle.fir_ast.specs.declared.tree.Ty.{Ty}
use Rattle.fir_ast.specs.declared.tree.Ty.TheFolds.{fold-Ty}
use Rattle.fir_ast.specs.declared.tree.Ty.TheOpen.{Ty-F, Field-F, UInt, SInt, Clock, Reset, Bundle, Vector}
use Rattle.fir_ast.specs.declared.tree.Expr.{Expr}
use Rattle.fir_ast.specs.declared.tree.Expr.TheFolds.{fold-Expr}
use Rattle.fir_ast.specs.declared.tree.Expr.TheOpen.{Expr-F, Ident, Part, At, Index, Lit, Apply}
use Rattle.fir_ast.specs.declared.tree.ResetPair.{ResetPair}
use Rattle.fir_ast.specs.declared.tree.Stmt.{Stmt}
use Rattle.fir_ast.specs.declared.tree.Stmt.TheFolds.{fold-Stmt}
use Rattle.fir_ast.specs.declared.tree.Stmt.TheOpen.{Stmt-F, Wire, Node, Reg, Inst, Connect, Invalid, When, Skip, Verif}
use Rattle.fir_ast.specs.declared.tree.Port.{Port}
use Rattle.fir_ast.specs.declared.tree.Module.{Module}
use Rattle.fir_ast.specs.declared.tree.Circuit.{Circuit}
use Rattle.fir_print_laws.specs.Standing.{is_word_text, is_closed, no_feed}

abbrev pub is_number : ℕ → Bool
is_number n = nat_lt n (2 ^ 128)

abbrev pub is_width : Option ℕ → Bool
is_width None = true
is_width (Some w) = is_number w

abbrev pub all_true : List Bool → Bool
all_true [] = true
all_true (b ∷ bs) = b && all_true bs

abbrev pub greatest : List ℕ → ℕ
greatest [] = 0
greatest (n ∷ ns) = max n (greatest ns)

-- ---- types

abbrev pub type_test : Ty-F Bool Bool → Bool
type_test (UInt w) = is_width w
type_test (SInt w) = is_width w
type_test Clock = true
type_test Reset = true
type_test (Bundle fields) = all_true fields
type_test (Vector of n) = of && is_number n

abbrev pub field_test : Field-F Bool Bool → Bool
field_test f = is_word_text f.name && f.ty

abbrev pub type_words : Ty → Bool
type_words = fold-Ty Bool Bool type_test field_test

-- how deep brackets are nested
abbrev pub type_nesting : Ty-F ℕ ℕ → ℕ
type_nesting (UInt w) = 0
type_nesting (SInt w) = 0
type_nesting Clock = 0
type_nesting Reset = 0
type_nesting (Bundle fields) = suc (greatest fields)
type_nesting (Vector of n) = max of 1

abbrev pub field_nesting : Field-F ℕ ℕ → ℕ
field_nesting f = f.ty

abbrev pub type_depth : Ty → ℕ
type_depth = fold-Ty ℕ ℕ type_nesting field_nesting

-- ---- expressions

abbrev pub expr_test : Expr-F Bool → Bool
expr_test (Ident name) = is_word_text name
expr_test (Part e name) = e && is_word_text name
expr_test (At e n) = e && is_number n
expr_test (Index e index) = e && index
expr_test (Lit signed width negative n) = is_width width && is_number n
expr_test (Apply op args nums) = all_true args && list_all is_number nums

abbrev pub expr_words : Expr → Bool
expr_words = fold-Expr Bool expr_test

abbrev pub expr_nesting : Expr-F ℕ → ℕ
expr_nesting (Ident name) = 0
expr_nesting (Part e name) = e
expr_nesting (At e n) = max e 1
expr_nesting (Index e index) = max e (suc index)
expr_nesting (Lit signed width negative n) = 1
expr_nesting (Apply op args nums) = suc (greatest args)

abbrev pub expr_depth : Expr → ℕ
expr_depth = fold-Expr ℕ expr_nesting

-- ---- lines

abbrev pub type_fits : Ty → Bool
type_fits t = type_words t && nat_le (type_depth t) 64

abbrev pub expr_fits : Expr → Bool
expr_fits e = expr_words e && nat_le (expr_depth e) 64

-- within one more bracket
abbrev pub operand_fits : Expr → Bool
operand_fits e = expr_words e && nat_le (expr_depth e) 63

abbrev pub reset_fits : Option ResetPair → Bool
reset_fits None = true
reset_fits (Some r) = expr_fits r.signal && expr_fits r.init

abbrev pub label_fits : Option (List ℕ) → Bool
label_fits None = true
label_fits (Some name) = is_word_text name

abbrev pub stmt_test : Stmt-F Bool → Bool
stmt_test (Wire _ name ty) = is_word_text name && type_fits ty
stmt_test (Node _ name value) = is_word_text name && expr_fits value
stmt_test (Reg _ name ty clock reset) = is_word_text name && (type_fits ty && (expr_fits clock && reset_fits reset))
stmt_test (Inst _ name target) = is_word_text name && is_word_text target
stmt_test (Connect _ sink value) = expr_fits sink && expr_fits value
stmt_test (Invalid _ sink) = expr_fits sink
stmt_test (When _ cond taken other) = expr_fits cond && (all_true taken && all_true other)
stmt_test (Skip _) = true
stmt_test (Verif _ kind args code text label) = list_all operand_fits args && (is_number code && ((is_closed 34 text && no_feed text) && label_fits label))

abbrev pub stmt_fits : Stmt → Bool
stmt_fits = fold-Stmt Bool stmt_test

abbrev pub port_fits : Port → Bool
port_fits p = is_word_text p.name && type_fits p.ty

abbrev pub module_fits : Module → Bool
module_fits m = is_word_text m.name && (list_all port_fits m.ports && list_all stmt_fits m.body)

unfoldable pub is_printable : Circuit → Bool
is_printable c = is_word_text c.name && list_all module_fits c.modules
