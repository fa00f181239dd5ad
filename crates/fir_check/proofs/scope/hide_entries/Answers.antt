use Rattle.std.proofs.Common.{◌∙◌, sym, arith}
use Rattle.fir_check.proofs.Scoping.{past_all, past_step, past_end}
use Rattle.fir_check.proofs.scope.hide_entries.Goals as goal

pub loop-k-init : goal.loop-k-init
loop-k-init c = record { hidden = sym (past_all c.args.names.now.entries c.len-k.result (omega arith)); floor = omega arith }

pub loop-k-preserved : goal.loop-k-preserved
loop-k-preserved c = record {
  hidden = past_step c.args.names.now.entries c.loop-k.names.entries _ c.loop-k.k _ c.loop-k.invariant.hidden (omega arith) c.close.ensures;
  floor = let h = c.loop-k.invariant.floor in omega (arith, h);
}

pub returns : goal.returns
returns c = c.loop-k.invariant.hidden ∙ past_end c.args.names.now.entries c.loop-k.k c.args.from (omega arith) c.loop-k.invariant.floor
