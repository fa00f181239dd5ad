use Rattle.tl_text.proofs.Texts.{spelled_found, found_spelled}
use Rattle.tl_text.proofs.laws.texts_spell_once.Goals as goal

pub returns : goal.returns
returns c = λ text x. (spelled_found text x, found_spelled text x)
