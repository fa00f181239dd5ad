use Rattle.tl_text.proofs.Texts.{front_goes_on, begins_front}
use Rattle.tl_text.proofs.laws.fronts_go_on.Goals as goal

pub returns : goal.returns
returns c = λ items. (front_goes_on items, begins_front items)
