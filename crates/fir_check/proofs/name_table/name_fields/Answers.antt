use Rattle.std.proofs.Common.{arith}
use Rattle.fir_check.proofs.Tables.{fields_start, fields_next, fields_end}
use Rattle.fir_check.proofs.name_table.name_fields.Goals as goal

pub loop-k-init : goal.loop-k-init
loop-k-init c = fields_start _ _ c.new-table.ensures

pub loop-k-preserved : goal.loop-k-preserved
loop-k-preserved c =
    fields_next c.args.fields.now c.loop-k.k c.index-fields-k.result c.loop-k.table c.add.new.self _ c.loop-k-test.true c.index-fields-k.is c.bytes.ensures c.in_ok-add.ensures.table c.loop-k.invariant

pub returns : goal.returns
returns c = fields_end c.args.fields.now c.loop-k.k c.loop-k.table (omega arith) c.loop-k.invariant
