use Rattle.std.proofs.Common.{◌<◌, length, arith}
use Rattle.fir_check.proofs.Numbering.{comes_low, comes_is}
use Rattle.fir_check.proofs.statements.take_number.Goals as goal

pub offset_bounds-around-next : goal.offset_bounds-around-next
offset_bounds-around-next c =
    let l : c.args.next.now < length c.args.around.declared.now = comes_low c.args.around.types.now c.args.around.declared.now c.args.next.now c.args.ty.now c.requires in omega arith

pub overflow_add-next : goal.overflow_add-next
overflow_add-next c =
    let l : c.args.next.now < length c.args.around.declared.now = comes_low c.args.around.types.now c.args.around.declared.now c.args.next.now c.args.ty.now c.requires in omega arith

pub bounds-around-next : goal.bounds-around-next
bounds-around-next c = comes_low c.args.around.types.now c.args.around.declared.now c.args.next.now c.args.ty.now c.requires

pub returns-clause-is : goal.returns-clause-is
returns-clause-is c = comes_is c.args.around.types.now c.args.around.declared.now c.args.next.now 0 c.args.ty.now c.requires
