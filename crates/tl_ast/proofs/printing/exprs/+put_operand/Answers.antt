use Rattle.std.proofs.Common.{sym, ap, ◌∙◌, ◌++◌, nat_lt}
use Rattle.std.specs.Prelude.{codes}
use Rattle.tl_ast.specs.Printed.{op_text, tightness, left_asks, right_asks, opening, closing, operand_text}
use Rattle.tl_ast.proofs.Rows.{two_text}
use Rattle.tl_ast.proofs.Written.{seven_written}
use Rattle.tl_ast.proofs.printing.exprs.+put_operand.Goals as goal

pub returns-in_ok-put-in-Two-5 : goal.returns-in_ok-put-in-Two-5
returns-in_ok-put-in-Two-5 t c =
    let start = c.args.out.now.items in
    let asked = c.args.asked in
    let op = c.in-Two.op in
    let left = c.in-Two.left in
    let right = c.in-Two.right in
    let one = c.put-in-Two.new.out.items in
    let two = c.put_operand-in-Two.new.out.items in
    let three = c.put-in-Two-2.new.out.items in
    let four = c.put-in-Two-3.new.out.items in
    let five = c.put-in-Two-4.new.out.items in
    let six = c.put_operand-in-Two-2.new.out.items in
    seven_written start (opening (nat_lt (tightness op) asked)) (operand_text left (left_asks op)) (codes " ") (op_text op) (codes " ")
    (operand_text right (right_asks op)) (closing (nat_lt (tightness op) asked)) one two three four five six c.put-in-Two-5.new.out.items
    (c.in_ok-put-in-Two.ensures.ok ∙ ap (λ w. start ++ w) (c.opening_word.ensures ∙ ap (λ n. opening (nat_lt n asked)) c.tightness_of.ensures.is))
    (c.in_ok-put_operand-in-Two.ensures ∙ ap (λ e. one ++ operand_text e c.asked_on_left.result) c.get-in-Two.ensures
    ∙ ap (λ n. one ++ operand_text left n) c.asked_on_left.ensures)
    c.in_ok-put-in-Two-2.ensures.ok
    (c.in_ok-put-in-Two-3.ensures.ok ∙ ap (λ w. three ++ w) (c.as_bytes.ensures.value ∙ c.op_word.ensures))
    c.in_ok-put-in-Two-4.ensures.ok
    (c.in_ok-put_operand-in-Two-2.ensures ∙ ap (λ e. five ++ operand_text e c.asked_on_right.result) c.get-in-Two-2.ensures
    ∙ ap (λ n. five ++ operand_text right n) c.asked_on_right.ensures)
    (c.in_ok-put-in-Two-5.ensures.ok ∙ ap (λ w. six ++ w) (c.closing_word.ensures ∙ ap (λ n. closing (nat_lt n asked)) c.tightness_of.ensures.is))
    ∙ ap (λ text. start ++ text) (sym (two_text op left right asked) ∙ ap (λ e. operand_text e asked) (sym c.in-Two.is))
