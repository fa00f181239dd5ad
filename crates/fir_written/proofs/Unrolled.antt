-- What each test of a written circuit is at each variant of a type, an expression and a statement.
use Rattle.std.proofs.Common.{◌≡◌, ℕ, suc, Bool, true, List, [], ◌∷◌, refl, sym, ap, ◌∙◌, map, length}
use Rattle.std.specs.Prelude.{max, ◌&&◌, ◌==◌, nat_le, Option, Some, None}
use Rattle.std.specs.List.{list_all}
use Rattle.std.proofs.lemmas.List.{length-map}
use Rattle.tb_base.specs.declared.op.Op.{Op}
use Rattle.tb_base.specs.Row.{operand_count, number_count}
use Rattle.fir_ast.specs.declared.tree.Ty.{Ty}
use Rattle.fir_ast.specs.declared.tree.Ty.TheVariants as ty
use Rattle.fir_ast.specs.declared.tree.Ty.TheViews.{roll-Field, out-Field, roll-out-Field}
use Rattle.fir_ast.specs.declared.tree.Field.{Field}
use Rattle.fir_ast.specs.declared.tree.Expr.{Expr}
use Rattle.fir_ast.specs.declared.tree.Expr.TheVariants as e
use Rattle.fir_ast.specs.declared.tree.ResetPair.{ResetPair}
use Rattle.fir_ast.specs.declared.tree.VerifKind.{VerifKind}
use Rattle.fir_ast.specs.declared.tree.Stmt.{Stmt}
use Rattle.fir_ast.specs.declared.tree.Stmt.TheVariants as stmt
use Rattle.fir_ast.specs.declared.tree.Stmt.TheVariants.{rolls-Wire, rolls-Node, rolls-Reg, rolls-Inst, rolls-Connect, rolls-Invalid, rolls-When, rolls-Skip, rolls-Verif}
use Rattle.fir_ast.specs.declared.tree.Stmt.TheOpen as F
use Rattle.fir_ast.specs.declared.tree.Stmt.TheOpen.{Stmt-F}
use Rattle.fir_ast.specs.declared.tree.Stmt.TheFolds.{fold-roll-Stmt}
use Rattle.fir_ast.specs.Limits.{greatest_length}
use Rattle.fir_ast.specs.Printed.{operands_before}
use Rattle.fir_print_laws.specs.Standing.{is_word_text}
use Rattle.fir_print_laws.specs.Printable.{is_number, all_true}
use Rattle.fir_round.proofs.Folds.{of_uint, of_sint, of_clock, of_reset, of_bundle, of_vector, of_field, of_ident, of_part, of_at, of_index, of_lit, of_apply}
use Rattle.fir_written.specs.Written.{is_written_width, type_level, field_level, is_written_type, is_written_field, Spelling, goes_on, one_more, is_written_number, all_written, expr_level, spelling, is_written_expr, suffixes, is_written_sink, index_level, index_depth, is_written_reset, is_written_label, stmt_level, is_written_stmt, nesting_level, block_depth, depth_of_all}

pub all_passed : {A : Type 0} (p : A → Bool) (xs : List A) → all_true (map p xs) ≡ list_all p xs
all_passed p [] = refl
all_passed p (x ∷ xs) = ap (λ b. p x && b) (all_passed p xs)

-- ---- types

pub written_uint : (w : Option ℕ) → is_written_type (ty.UInt w) ≡ is_written_width w
written_uint w = of_uint Bool Bool type_level field_level w

pub written_sint : (w : Option ℕ) → is_written_type (ty.SInt w) ≡ is_written_width w
written_sint w = of_sint Bool Bool type_level field_level w

pub written_clock : is_written_type ty.Clock ≡ true
written_clock = of_clock Bool Bool type_level field_level

pub written_reset : is_written_type ty.Reset ≡ true
written_reset = of_reset Bool Bool type_level field_level

pub written_bundle : (fields : List Field) → is_written_type (ty.Bundle fields) ≡ list_all is_written_field fields
written_bundle fields = of_bundle Bool Bool type_level field_level fields ∙ all_passed is_written_field fields

pub written_vector : (of : Ty) (n : ℕ) → is_written_type (ty.Vector of n) ≡ (is_written_type of && nat_le n greatest_length)
written_vector of n = of_vector Bool Bool type_level field_level of n

pub written_field : (flip : Bool) (name : List ℕ) (t : Ty) → is_written_field (roll-Field (record { flip = flip; name = name; ty = t })) ≡ (is_word_text name && is_written_type t)
written_field flip name t = of_field Bool Bool type_level field_level flip name t

-- a field is its flip, its name and its type
pub written_out_field : (f : Field) → is_written_field f ≡ (is_word_text (out-Field f).name && is_written_type (out-Field f).ty)
written_out_field f = ap is_written_field (sym (roll-out-Field f)) ∙ written_field (out-Field f).flip (out-Field f).name (out-Field f).ty

-- ---- expressions

pub all_spelled : (args : List Expr) → all_written (map spelling args) ≡ list_all is_written_expr args
all_spelled [] = refl
all_spelled (x ∷ xs) = ap (λ b. is_written_expr x && b) (all_spelled xs)

pub written_ident : (name : List ℕ) → is_written_expr (e.Ident name) ≡ is_word_text name
written_ident name = ap (λ (s : Spelling). s.written) (of_ident Spelling expr_level name)

pub written_part : (x : Expr) (name : List ℕ) → is_written_expr (e.Part x name) ≡ (is_written_expr x && (is_word_text name && goes_on (suffixes x)))
written_part x name = ap (λ (s : Spelling). s.written) (of_part Spelling expr_level x name)

pub written_at : (x : Expr) (n : ℕ) → is_written_expr (e.At x n) ≡ (is_written_expr x && (is_number n && goes_on (suffixes x)))
written_at x n = ap (λ (s : Spelling). s.written) (of_at Spelling expr_level x n)

pub written_index : (x i : Expr) → is_written_expr (e.Index x i) ≡ (is_written_expr x && (is_written_expr i && goes_on (suffixes x)))
written_index x i = ap (λ (s : Spelling). s.written) (of_index Spelling expr_level x i)

pub written_lit : (signed : Bool) (w : Option ℕ) (negative : Bool) (n : ℕ) → is_written_expr (e.Lit signed w negative n) ≡ (is_written_width w && is_written_number signed negative n)
written_lit signed w negative n = ap (λ (s : Spelling). s.written) (of_lit Spelling expr_level signed w negative n)

pub written_apply : (op : Op) (args : List Expr) (nums : List ℕ)
    → is_written_expr (e.Apply op args nums) ≡ (list_all is_written_expr args && (length args == operand_count op && (list_all is_number nums && length nums == number_count op)))
written_apply op args nums =
    ap (λ (s : Spelling). s.written) (of_apply Spelling expr_level op args nums)
    ∙ ap (λ b. b && (length (map spelling args) == operand_count op && (list_all is_number nums && length nums == number_count op))) (all_spelled args)
    ∙ ap (λ n. list_all is_written_expr args && (n == operand_count op && (list_all is_number nums && length nums == number_count op))) (length-map args spelling)

pub suffixes_ident : (name : List ℕ) → suffixes (e.Ident name) ≡ Some 0
suffixes_ident name = ap (λ (s : Spelling). s.suffixes) (of_ident Spelling expr_level name)

pub suffixes_part : (x : Expr) (name : List ℕ) → suffixes (e.Part x name) ≡ one_more (suffixes x)
suffixes_part x name = ap (λ (s : Spelling). s.suffixes) (of_part Spelling expr_level x name)

pub suffixes_at : (x : Expr) (n : ℕ) → suffixes (e.At x n) ≡ one_more (suffixes x)
suffixes_at x n = ap (λ (s : Spelling). s.suffixes) (of_at Spelling expr_level x n)

pub suffixes_index : (x i : Expr) → suffixes (e.Index x i) ≡ one_more (suffixes x)
suffixes_index x i = ap (λ (s : Spelling). s.suffixes) (of_index Spelling expr_level x i)

pub suffixes_lit : (signed : Bool) (w : Option ℕ) (negative : Bool) (n : ℕ) → suffixes (e.Lit signed w negative n) ≡ None
suffixes_lit signed w negative n = ap (λ (s : Spelling). s.suffixes) (of_lit Spelling expr_level signed w negative n)

pub suffixes_apply : (op : Op) (args : List Expr) (nums : List ℕ) → suffixes (e.Apply op args nums) ≡ None
suffixes_apply op args nums = ap (λ (s : Spelling). s.suffixes) (of_apply Spelling expr_level op args nums)

pub index_ident : (name : List ℕ) → index_depth (e.Ident name) ≡ 0
index_ident name = of_ident ℕ index_level name

pub index_part : (x : Expr) (name : List ℕ) → index_depth (e.Part x name) ≡ index_depth x
index_part x name = of_part ℕ index_level x name

pub index_at : (x : Expr) (n : ℕ) → index_depth (e.At x n) ≡ index_depth x
index_at x n = of_at ℕ index_level x n

pub index_index : (x i : Expr) → index_depth (e.Index x i) ≡ suc (index_depth x)
index_index x i = of_index ℕ index_level x i

pub index_lit : (signed : Bool) (w : Option ℕ) (negative : Bool) (n : ℕ) → index_depth (e.Lit signed w negative n) ≡ 0
index_lit signed w negative n = of_lit ℕ index_level signed w negative n

pub index_apply : (op : Op) (args : List Expr) (nums : List ℕ) → index_depth (e.Apply op args nums) ≡ 0
index_apply op args nums = of_apply ℕ index_level op args nums

-- ---- statements

pub written_wire : (line : ℕ) (name : List ℕ) (t : Ty) → is_written_stmt (stmt.Wire line name t) ≡ (is_word_text name && is_written_type t)
written_wire line name t = ap is_written_stmt (sym (rolls-Wire line name t)) ∙ fold-roll-Stmt Bool stmt_level (F.Wire line name t)

pub written_node : (line : ℕ) (name : List ℕ) (value : Expr) → is_written_stmt (stmt.Node line name value) ≡ (is_word_text name && is_written_expr value)
written_node line name value = ap is_written_stmt (sym (rolls-Node line name value)) ∙ fold-roll-Stmt Bool stmt_level (F.Node line name value)

pub written_reg : (line : ℕ) (name : List ℕ) (t : Ty) (clock : Expr) (reset : Option ResetPair)
    → is_written_stmt (stmt.Reg line name t clock reset) ≡ (is_word_text name && (is_written_type t && (is_written_expr clock && is_written_reset reset)))
written_reg line name t clock reset = ap is_written_stmt (sym (rolls-Reg line name t clock reset)) ∙ fold-roll-Stmt Bool stmt_level (F.Reg line name t clock reset)

pub written_inst : (line : ℕ) (name target : List ℕ) → is_written_stmt (stmt.Inst line name target) ≡ (is_word_text name && is_word_text target)
written_inst line name target = ap is_written_stmt (sym (rolls-Inst line name target)) ∙ fold-roll-Stmt Bool stmt_level (F.Inst line name target)

pub written_connect : (line : ℕ) (sink value : Expr) → is_written_stmt (stmt.Connect line sink value) ≡ (is_written_sink sink && is_written_expr value)
written_connect line sink value = ap is_written_stmt (sym (rolls-Connect line sink value)) ∙ fold-roll-Stmt Bool stmt_level (F.Connect line sink value)

pub written_invalid : (line : ℕ) (sink : Expr) → is_written_stmt (stmt.Invalid line sink) ≡ is_written_sink sink
written_invalid line sink = ap is_written_stmt (sym (rolls-Invalid line sink)) ∙ fold-roll-Stmt Bool stmt_level (F.Invalid line sink)

pub written_when : (line : ℕ) (cond : Expr) (taken other : List Stmt)
    → is_written_stmt (stmt.When line cond taken other) ≡ (is_written_expr cond && (list_all is_written_stmt taken && list_all is_written_stmt other))
written_when line cond taken other =
    ap is_written_stmt (sym (rolls-When line cond taken other)) ∙ fold-roll-Stmt Bool stmt_level (F.When line cond taken other)
    ∙ ap (λ b. is_written_expr cond && (b && all_true (map is_written_stmt other))) (all_passed is_written_stmt taken)
    ∙ ap (λ b. is_written_expr cond && (list_all is_written_stmt taken && b)) (all_passed is_written_stmt other)

pub written_skip : (line : ℕ) → is_written_stmt (stmt.Skip line) ≡ true
written_skip line = ap is_written_stmt (sym (rolls-Skip line)) ∙ fold-roll-Stmt Bool stmt_level (F.Skip line)

pub written_verif : (line : ℕ) (kind : VerifKind) (args : List Expr) (code : ℕ) (text : List ℕ) (label : Option (List ℕ))
    → is_written_stmt (stmt.Verif line kind args code text label) ≡ (list_all is_written_expr args && (nat_le (operands_before kind) (length args) && (is_number code && is_written_label label)))
written_verif line kind args code text label = ap is_written_stmt (sym (rolls-Verif line kind args code text label)) ∙ fold-roll-Stmt Bool stmt_level (F.Verif line kind args code text label)

pub depth_wire : (line : ℕ) (name : List ℕ) (t : Ty) → block_depth (stmt.Wire line name t) ≡ 0
depth_wire line name t = ap block_depth (sym (rolls-Wire line name t)) ∙ fold-roll-Stmt ℕ nesting_level (F.Wire line name t)

pub depth_node : (line : ℕ) (name : List ℕ) (value : Expr) → block_depth (stmt.Node line name value) ≡ 0
depth_node line name value = ap block_depth (sym (rolls-Node line name value)) ∙ fold-roll-Stmt ℕ nesting_level (F.Node line name value)

pub depth_reg : (line : ℕ) (name : List ℕ) (t : Ty) (clock : Expr) (reset : Option ResetPair) → block_depth (stmt.Reg line name t clock reset) ≡ 0
depth_reg line name t clock reset = ap block_depth (sym (rolls-Reg line name t clock reset)) ∙ fold-roll-Stmt ℕ nesting_level (F.Reg line name t clock reset)

pub depth_inst : (line : ℕ) (name target : List ℕ) → block_depth (stmt.Inst line name target) ≡ 0
depth_inst line name target = ap block_depth (sym (rolls-Inst line name target)) ∙ fold-roll-Stmt ℕ nesting_level (F.Inst line name target)

pub depth_connect : (line : ℕ) (sink value : Expr) → block_depth (stmt.Connect line sink value) ≡ 0
depth_connect line sink value = ap block_depth (sym (rolls-Connect line sink value)) ∙ fold-roll-Stmt ℕ nesting_level (F.Connect line sink value)

pub depth_invalid : (line : ℕ) (sink : Expr) → block_depth (stmt.Invalid line sink) ≡ 0
depth_invalid line sink = ap block_depth (sym (rolls-Invalid line sink)) ∙ fold-roll-Stmt ℕ nesting_level (F.Invalid line sink)

pub depth_when : (line : ℕ) (cond : Expr) (taken other : List Stmt) → block_depth (stmt.When line cond taken other) ≡ suc (max (depth_of_all taken) (depth_of_all other))
depth_when line cond taken other = ap block_depth (sym (rolls-When line cond taken other)) ∙ fold-roll-Stmt ℕ nesting_level (F.When line cond taken other)

pub depth_skip : (line : ℕ) → block_depth (stmt.Skip line) ≡ 0
depth_skip line = ap block_depth (sym (rolls-Skip line)) ∙ fold-roll-Stmt ℕ nesting_level (F.Skip line)

pub depth_verif : (line : ℕ) (kind : VerifKind) (args : List Expr) (code : ℕ) (text : List ℕ) (label : Option (List ℕ)) → block_depth (stmt.Verif line kind args code text label) ≡ 0
depth_verif line kind args code text label = ap block_depth (sym (rolls-Verif line kind args code text label)) ∙ fold-roll-Stmt ℕ nesting_level (F.Verif line kind args code text label)

-- each of them
pub ruleset written_types = (written_uint, written_sint, written_clock, written_reset, written_bundle, written_vector, written_field)

pub ruleset written_exprs = (written_ident, written_part, written_at, written_index, written_lit, written_apply, suffixes_ident, suffixes_part, suffixes_at, suffixes_index, suffixes_lit, suffixes_apply)

pub ruleset index_depths = (index_ident, index_part, index_at, index_index, index_lit, index_apply)

pub ruleset written_stmts = (written_wire, written_node, written_reg, written_inst, written_connect, written_invalid, written_when, written_skip, written_verif)

pub ruleset block_depths = (depth_wire, depth_node, depth_reg, depth_inst, depth_connect, depth_invalid, depth_when, depth_skip, depth_verif)
