use Rattle.fir_check.proofs.CycleLoops.{flat_heights}
use Rattle.fir_check.proofs.cycles.checked_heights.Goals as goal

pub returns : goal.returns
returns c = flat_heights c.new.result.items _ c.new.ensures.items
