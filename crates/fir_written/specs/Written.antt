-- What a circuit text can write. Each test is passed by every circuit that a text spells.
use Rattle.std.specs.Prelude.{◌≡◌, ℕ, suc, max, ◌&&◌, ◌||◌, ◌==◌, not, nat_lt, nat_le, Bool, true, false, Option, Some, None, List, [], ◌∷◌, length, map}
use Rattle.std.specs.List.{list_all}
use Rattle.tb_base.specs.Row.{operand_count, number_count}
use Rattle.fir_ast.specs.declared.tree.Ty.{Ty}
use Rattle.fir_ast.specs.declared.tree.Ty.TheFolds.{fold-Ty, fold-Field}
use Rattle.fir_ast.specs.declared.tree.Ty.TheOpen.{Ty-F, Field-F, UInt, SInt, Clock, Reset, Bundle, Vector}
use Rattle.fir_ast.specs.declared.tree.Field.{Field}
use Rattle.fir_ast.specs.declared.tree.Expr.{Expr}
use Rattle.fir_ast.specs.declared.tree.Expr.TheFolds.{fold-Expr}
use Rattle.fir_ast.specs.declared.tree.Expr.TheOpen.{Expr-F, Ident, Part, At, Index, Lit, Apply}
use Rattle.fir_ast.specs.declared.tree.ResetPair.{ResetPair}
use Rattle.fir_ast.specs.declared.tree.Stmt.{Stmt}
use Rattle.fir_ast.specs.declared.tree.Stmt.TheFolds.{fold-Stmt}
use Rattle.fir_ast.specs.declared.tree.Stmt.TheOpen.{Stmt-F, Wire, Node, Reg, Inst, Connect, Invalid, When, Skip, Verif}
use Rattle.fir_ast.specs.declared.tree.Port.{Port}
use Rattle.fir_ast.specs.declared.tree.Module.{Module}
use Rattle.fir_ast.specs.declared.tree.Circuit.{Circuit}
use Rattle.fir_ast.specs.Limits.{limits, greatest_width, greatest_length}
use Rattle.fir_ast.specs.CircuitGrammar.{block_limit}
use Rattle.fir_ast.specs.Printed.{operands_before}
use Rattle.fir_print_laws.specs.Standing.{is_word_text}
use Rattle.fir_print_laws.specs.Printable.{is_number, all_true, greatest}

-- a width in bits, where one is written: at most 128
abbrev pub is_written_width : Option ℕ → Bool
is_written_width None = true
is_written_width (Some w) = nat_le w greatest_width

-- ---- types: names of fields are words, a vector has at most 65,536 elements

abbrev pub type_level : Ty-F Bool Bool → Bool
type_level (UInt w) = is_written_width w
type_level (SInt w) = is_written_width w
type_level Clock = true
type_level Reset = true
type_level (Bundle fields) = all_true fields
type_level (Vector of n) = of && nat_le n greatest_length

abbrev pub field_level : Field-F Bool Bool → Bool
field_level f = is_word_text f.name && f.ty

abbrev pub is_written_type : Ty → Bool
is_written_type = fold-Ty Bool Bool type_level field_level

abbrev pub is_written_field : Field → Bool
is_written_field = fold-Field Bool Bool type_level field_level

-- ---- expressions

-- Whether a text can write an expression, and how many suffixes it has if it is a reference.
pub record Spelling : Type 0 where
  pub written : Bool
  pub suffixes : Option ℕ

-- one more suffix stands behind a reference, of at most 32
abbrev pub goes_on : Option ℕ → Bool
goes_on None = false
goes_on (Some n) = nat_lt n limits.suffixes

abbrev pub one_more : Option ℕ → Option ℕ
one_more None = None
one_more (Some n) = Some (suc n)

-- a suffix behind e, whose own test is the second
abbrev pub behind : Spelling → Bool → Spelling
behind e test = record { written = e.written && (test && goes_on e.suffixes); suffixes = one_more e.suffixes }

abbrev pub no_reference : Bool → Spelling
no_reference test = record { written = test; suffixes = None }

-- only a signed literal is negative, and zero has no minus
abbrev pub is_written_number : Bool → Bool → ℕ → Bool
is_written_number signed negative n = is_number n && (not negative || (signed && nat_lt 0 n))

abbrev pub all_written : List Spelling → Bool
all_written [] = true
all_written (e ∷ es) = e.written && all_written es

abbrev pub expr_level : Expr-F Spelling → Spelling
expr_level (Ident name) = record { written = is_word_text name; suffixes = Some 0 }
expr_level (Part e name) = behind e (is_word_text name)
expr_level (At e n) = behind e (is_number n)
expr_level (Index e index) = behind e index.written
expr_level (Lit signed width negative n) = no_reference (is_written_width width && is_written_number signed negative n)
expr_level (Apply op args nums) =
    no_reference (all_written args && (length args == operand_count op && (list_all is_number nums && length nums == number_count op)))

abbrev pub spelling : Expr → Spelling
spelling = fold-Expr Spelling expr_level

abbrev pub is_written_expr : Expr → Bool
is_written_expr e = (spelling e).written

-- how many suffixes `.w`, `[n]` and `[E]` a reference has; none of a literal and of an operation, which are no references
abbrev pub suffixes : Expr → Option ℕ
suffixes e = (spelling e).suffixes

abbrev pub is_some : Option ℕ → Bool
is_some None = false
is_some (Some n) = true

-- what a statement drives is a reference
abbrev pub is_written_sink : Expr → Bool
is_written_sink e = is_written_expr e && is_some (suffixes e)

-- how many computed indices `[E]` stand on the way down one reference
abbrev pub index_level : Expr-F ℕ → ℕ
index_level (Ident name) = 0
index_level (Part e name) = e
index_level (At e n) = e
index_level (Index e index) = suc e
index_level (Lit signed width negative n) = 0
index_level (Apply op args nums) = 0

abbrev pub index_depth : Expr → ℕ
index_depth = fold-Expr ℕ index_level

-- ---- statements

abbrev pub is_written_reset : Option ResetPair → Bool
is_written_reset None = true
is_written_reset (Some r) = is_written_expr r.signal && is_written_expr r.init

abbrev pub is_written_label : Option (List ℕ) → Bool
is_written_label None = true
is_written_label (Some name) = is_word_text name

abbrev pub stmt_level : Stmt-F Bool → Bool
stmt_level (Wire _ name ty) = is_word_text name && is_written_type ty
stmt_level (Node _ name value) = is_word_text name && is_written_expr value
stmt_level (Reg _ name ty clock reset) = is_word_text name && (is_written_type ty && (is_written_expr clock && is_written_reset reset))
stmt_level (Inst _ name target) = is_word_text name && is_word_text target
stmt_level (Connect _ sink value) = is_written_sink sink && is_written_expr value
stmt_level (Invalid _ sink) = is_written_sink sink
stmt_level (When _ cond taken other) = is_written_expr cond && (all_true taken && all_true other)
stmt_level (Skip _) = true
stmt_level (Verif _ kind args code text label) =
    list_all is_written_expr args && (nat_le (operands_before kind) (length args) && (is_number code && is_written_label label))

abbrev pub is_written_stmt : Stmt → Bool
is_written_stmt = fold-Stmt Bool stmt_level

-- how many blocks of `when` and `else` are nested, one in another
abbrev pub nesting_level : Stmt-F ℕ → ℕ
nesting_level (When _ cond taken other) = suc (max (greatest taken) (greatest other))
nesting_level _ = 0

abbrev pub block_depth : Stmt → ℕ
block_depth = fold-Stmt ℕ nesting_level

-- of statements one behind the other
abbrev pub depth_of_all : List Stmt → ℕ
depth_of_all body = greatest (map block_depth body)

-- ---- modules: names are words, and at most 256 blocks are nested

abbrev pub is_written_port : Port → Bool
is_written_port p = is_word_text p.name && is_written_type p.ty

abbrev pub is_written_module : Module → Bool
is_written_module m =
    is_word_text m.name && (list_all is_written_port m.ports && (list_all is_written_stmt m.body && nat_le (depth_of_all m.body) block_limit))

-- a circuit has a module
unfoldable pub is_written : Circuit → Bool
is_written c = is_word_text c.name && (nat_lt 0 (length c.modules) && list_all is_written_module c.modules)

abbrev pub IsWritten : Circuit → Type 0
IsWritten c = is_written c ≡ true
