use Rattle.fir_read.proofs.Texts.{front_goes_on, begins_front}
use Rattle.fir_read.proofs.reading.fronts_go_on.Goals as goal

pub returns : goal.returns
returns c = λ items. (front_goes_on items, begins_front items)
