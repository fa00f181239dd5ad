use Rattle.std.proofs.Common.{List, [], arith, sym, subst, OnOk}
use Rattle.fir_ast.specs.declared.tree.Ty.{Ty}
use Rattle.fir_check.specs.Numbers.{Gains, types_of}
use Rattle.fir_check.proofs.Numbering.{gains_none, gains_start, gains_next, gains_end, gains_when, gains_as, types_wire, types_reg, types_none}
use Rattle.fir_check.proofs.declared_types.+number.Goals as goal

pub number_stmt-returns-in-Wire : goal.number_stmt-returns-in-Wire
number_stmt-returns-in-Wire t c =
    subst (λ (ts : List Ty). OnOk c.number_type.result (Gains c.args.table.now c.number_type.new.table ts c.args.numbers.now.items c.number_type.new.numbers.items))
    (sym (types_wire c.args.stmt.now c.in-Wire.line c.in-Wire.name c.in-Wire.ty c.in-Wire.is)) c.number_type.ensures

pub number_stmt-returns-in-Reg : goal.number_stmt-returns-in-Reg
number_stmt-returns-in-Reg t c =
    subst (λ (ts : List Ty). OnOk c.number_type-in-Reg.result (Gains c.args.table.now c.number_type-in-Reg.new.table ts c.args.numbers.now.items c.number_type-in-Reg.new.numbers.items))
    (sym (types_reg c.args.stmt.now c.in-Reg.line c.in-Reg.name c.in-Reg.ty c.in-Reg.clock c.in-Reg.reset c.in-Reg.is)) c.number_type-in-Reg.ensures

pub number_stmt-returns-in_ok-number_body-in-When-2 : goal.number_stmt-returns-in_ok-number_body-in-When-2
number_stmt-returns-in_ok-number_body-in-When-2 t c =
    gains_when c.args.stmt.now c.in-When.line c.in-When.cond c.in-When.taken c.in-When.other _ _ c.args.table.now c.number_body.new.table c.number_body-in-When.new.table
    c.args.numbers.now.items c.number_body.new.numbers.items c.number_body-in-When.new.numbers.items
    c.in-When.is c.as_slice.ensures c.as_slice-in-When.ensures c.in_ok-number_body-in-When.ensures c.in_ok-number_body-in-When-2.ensures

pub number_stmt-returns-in_default : goal.number_stmt-returns-in_default
number_stmt-returns-in_default t c =
    gains_as c.args.table.now c.args.table.now [] (types_of c.args.stmt.now) c.args.numbers.now.items c.args.numbers.now.items
    (sym (types_none c.args.stmt.now c.in_default.not-Wire c.in_default.not-Reg c.in_default.not-When)) (gains_none c.args.table.now c.args.numbers.now.items)

pub number_body-loop-stmt-init : goal.number_body-loop-stmt-init
number_body-loop-stmt-init t c = gains_start types_of c.args.body.now c.args.table.now c.args.numbers.now.items

pub number_body-loop-stmt-preserved : goal.number_body-loop-stmt-preserved
number_body-loop-stmt-preserved t c =
    gains_next types_of c.args.body.now c.loop-stmt.stmt-index c.stmt-item.result c.args.table.now c.loop-stmt.table c.number_stmt.new.table c.args.numbers.now.items c.loop-stmt.numbers.items c.number_stmt.new.numbers.items
    c.loop-stmt-test.true c.stmt-item.is c.in_ok-number_stmt.ensures c.loop-stmt.invariant

pub number_body-returns : goal.number_body-returns
number_body-returns t c = gains_end types_of c.args.body.now c.loop-stmt.stmt-index c.args.table.now c.loop-stmt.table c.args.numbers.now.items c.loop-stmt.numbers.items (omega arith) c.loop-stmt.invariant
