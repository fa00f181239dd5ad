use Rattle.std.proofs.Common.{refl}
use Rattle.std.specs.Fmt.{digits}
use Rattle.text_grammar.specs.Part.{one_by, nothing, unless, stop, both, after, either, many, many_at, whole}
use Rattle.text_grammar.specs.Terminals.{name, number}
use Rattle.tl_lex.specs.Lex.{items_of, items_from}
use Rattle.tl_lex.specs.Pieces.{piece}
use Rattle.tl_ast.specs.Limits.{grow, grow_at, room}
use Rattle.tl_ast.specs.ExprGrammar.{operator, literal, variable, plain, atom, minus, minuses, behind_signs, signed, other_operand, operand, one_more, behind, level, compared, expr_behind, expr_in, parens, uncounted, expr, expr_from_number, other_expr}
use Rattle.tl_ast.specs.TestGrammar.{field, index, suffix, port, further, furthers, no_values, numbered_values, other_values, values, bracket, fields, listed_from, listed_further, listed_behind, listed, first_word, ended, poke, expect, assigned, let_row, set_row, into, peek, step, reset, join, join_step, list_driver, bare_driver, value_driver, driver, else_block, if_row, while_row, repeat_row, forked, fork_in, fork_row, row, fork_block, stmt_in, stmts_in, no_brace, block_within, test_within}
use Rattle.tl_ast.specs.Tests.{test_of, test_fault}
use Rattle.tl_ast.proofs.examples.spelled_texts_work_out.Goals as goal

pub returns : goal.returns
unfolding digits one_by nothing unless stop both after either many many_at whole name number items_of items_from piece grow grow_at room operator literal variable plain atom minus minuses behind_signs signed other_operand operand one_more behind level compared expr_behind expr_in parens uncounted expr expr_from_number other_expr field index suffix port further furthers no_values numbered_values other_values values bracket fields listed_from listed_further listed_behind listed first_word ended poke expect assigned let_row set_row into peek step reset join join_step list_driver bare_driver value_driver driver else_block if_row while_row repeat_row forked fork_in fork_row row fork_block stmt_in stmts_in no_brace block_within test_within test_of test_fault
returns c = record { none = refl; poke = refl; peek = refl; left = refl; tighter = refl; signs = refl; expect = refl; branches = refl; regions = refl; value = refl; numbers = refl; one_number = refl; one_list = refl; empty_list = refl; nothing = refl }
