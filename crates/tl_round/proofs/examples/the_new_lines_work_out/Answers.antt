use Rattle.std.proofs.Common.{◌≡◌, ℕ, ◌+◌, List, [], ◌∷◌, refl, sym, ap, ◌∙◌, subst}
use Rattle.std.specs.Prelude.{Option, Some, true, false, ◌++◌, map, codes}
use Rattle.std.specs.Str.{bytes_eq}
use Rattle.tb_base.specs.declared.path.Region.{Region}
use Rattle.std.specs.Fmt.{digits}
use Rattle.text_grammar.specs.Part.{one_by, nothing, unless, stop, both, after, either, many, many_at, whole}
use Rattle.text_grammar.specs.Terminals.{name, number}
use Rattle.tl_lex.specs.Lex.{items_of, items_from}
use Rattle.tl_lex.specs.Pieces.{piece}
use Rattle.tl_ast.specs.Limits.{grow, grow_at, room}
use Rattle.tl_ast.specs.ExprGrammar.{operator, literal, variable, plain, atom, minus, minuses, behind_signs, signed, other_operand, operand, one_more, behind, level, compared, expr_behind, expr_in, parens, uncounted, expr, expr_from_number, other_expr}
use Rattle.tl_ast.specs.TestGrammar.{field, index, suffix, port, further, furthers, no_values, numbered_values, other_values, values, bracket, fields, listed_from, listed_further, listed_behind, listed, first_word, ended, poke, expect, assigned, let_row, set_row, into, peek, step, reset, join, join_step, list_driver, bare_driver, value_driver, driver, else_block, if_row, while_row, repeat_row, forked, fork_in, fork_row, row, fork_block, stmt_in, stmts_in, no_brace, block_within, test_within}
use Rattle.tl_ast.specs.Tests.{test_of}
use Rattle.tl_ast.specs.Printed.{printed_test}
use Rattle.tl_ast.proofs.Rows.{num_text, fork_text, join_text, driver_text, reset_text, step_text}
use Rattle.tl_ast.specs.declared.tree.DriverKind.{DriverKind}
use Rattle.tl_ast.specs.declared.tree.TestExpr.{TestExpr}
use Rattle.tl_ast.specs.declared.tree.TestStmt.{TestStmt}
use Rattle.tl_ast.specs.declared.tree.TestStmt.TheVariants as stmt
use Rattle.tl_check.proofs.Unrolled.{fold-Step, fold-If, fold-Fork, fold-Join, fold-Driver, fold-ResetFor}
use Rattle.tl_round.specs.Examples.{queue_text, queue, printed_queue, relined_queue}
use Rattle.tl_round.specs.Relined.{in_turn, braced_at, if_at, behind_else, Placed, placed_level, stmt_placed, relined, SameButLines}
use Rattle.tl_round.proofs.Unlined.{only_lines, same_printed}
use Rattle.tl_round.proofs.Whole.{read_again}
use Rattle.tl_round.proofs.examples.the_new_lines_work_out.Goals as goal

written : test_of queue_text ≡ Some queue
unfolding digits one_by nothing unless stop both after either many many_at whole name number items_of items_from piece grow grow_at room operator literal variable plain atom minus minuses behind_signs signed other_operand operand one_more behind level compared expr_behind expr_in parens uncounted expr expr_from_number other_expr field index suffix port further furthers no_values numbered_values other_values values bracket fields listed_from listed_further listed_behind listed first_word ended poke expect assigned let_row set_row into peek step reset join join_step list_driver bare_driver value_driver driver else_block if_row while_row repeat_row forked fork_in fork_row row fork_block stmt_in stmts_in no_brace block_within test_within test_of
written = refl

printed : printed_test queue ≡ printed_queue
unfolding digits printed_test
printed = simp (num_text, fork_text, join_text, driver_text, reset_text) refl

step_placed : (old count line : ℕ) → stmt_placed (stmt.Step old count) line ≡ (stmt.Step line count, line + 1)
step_placed old count line = ap (λ f. f line) (fold-Step (Placed TestStmt) placed_level old count)

reset_placed : (old count line : ℕ) → stmt_placed (stmt.ResetFor old count) line ≡ (stmt.ResetFor line count, line + 1)
reset_placed old count line = ap (λ f. f line) (fold-ResetFor (Placed TestStmt) placed_level old count)

join_placed : (old : ℕ) (handle : List ℕ) (line : ℕ) → stmt_placed (stmt.Join old handle) line ≡ (stmt.Join line handle, line + 1)
join_placed old handle line = ap (λ f. f line) (fold-Join (Placed TestStmt) placed_level old handle)

driver_placed : (old : ℕ) (kind : DriverKind) (p : List ℕ) (values : List TestExpr) (line : ℕ)
    → stmt_placed (stmt.Driver old kind p values) line ≡ (stmt.Driver line kind p values, line + 1)
driver_placed old kind p values line = ap (λ f. f line) (fold-Driver (Placed TestStmt) placed_level old kind p values)

fork_placed : (old : ℕ) (region : Option Region) (handle : List ℕ) (body : List TestStmt) (line : ℕ)
    → stmt_placed (stmt.Fork old region handle body) line ≡ braced_at line (stmt.Fork line region handle) (in_turn (map stmt_placed body))
fork_placed old region handle body line = ap (λ f. f line) (fold-Fork (Placed TestStmt) placed_level old region handle body)

if_placed : (old : ℕ) (c : TestExpr) (taken other : List TestStmt) (line : ℕ)
    → stmt_placed (stmt.If old c taken other) line ≡ if_at (stmt.If line c) (in_turn (map stmt_placed taken) (line + 1))
    (behind_else (map stmt_placed other))
if_placed old c taken other line = ap (λ f. f line) (fold-If (Placed TestStmt) placed_level old c taken other)

new_lines : relined queue ≡ relined_queue
unfolding relined
new_lines = simp (reset_placed, fork_placed, join_placed, driver_placed) refl

read_back : test_of printed_queue ≡ Some relined_queue
read_back = subst (λ (z : List ℕ). test_of z ≡ Some relined_queue) printed (read_again queue_text queue written ∙ ap Some new_lines)

pub returns : goal.returns
unfolding relined SameButLines digits printed_test
returns c = record {
  written = written;
  printed = printed;
  new_lines = new_lines;
  read_back = read_back;
  again = simp (reset_placed, fork_placed, join_placed, driver_placed) refl;
  with_else = simp (if_placed, step_placed) refl;
  no_else = simp (if_placed, step_placed) refl;
  same = subst (λ t. SameButLines queue t) new_lines (only_lines queue);
  others = λ e.
      let one : printed_test (record { body = stmt.Step 1 1 ∷ [] }) ≡ codes "step 1;" ++ 10 ∷ [] = simp step_text refl in
      let two : printed_test (record { body = stmt.Step 1 2 ∷ [] }) ≡ codes "step 2;" ++ 10 ∷ [] = simp step_text refl in
      absurd (let bad : true ≡ false = ap (λ z. bytes_eq z (codes "step 1;" ++ 10 ∷ []))
      (sym one ∙ same_printed (record { body = stmt.Step 1 1 ∷ [] }) (record { body = stmt.Step 1 2 ∷ [] }) e ∙ two) in cc);
}
