use Rattle.std.proofs.Common.{◌∙◌, refl, ap}
use Rattle.tb_base.specs.Word.{cut}
use Rattle.tb_base.proofs.Words.{cut_word}
use Rattle.net_core.specs.Values.{literal_value}
use Rattle.sim_plain.specs.Words.{within}
use Rattle.sim_plain.proofs.words.literal.Goals as goal

pub returns : goal.returns
returns c =
    c.new.ensures.value ∙ cut_word _ _ _ _ _ c.new.ensures.bound refl c.literal_word.ensures
    ∙ ap (λ w. cut w c.args.signed (literal_value c.args.negative c.args.magnitude))
    (c.width_within-width.ensures ∙ ap (λ w. within w) (c.unwrap_or.ensures ∙ ap (λ n. Rattle.std.specs.Prelude.unwrap_or c.args.width n) c.bits_for.ensures))
