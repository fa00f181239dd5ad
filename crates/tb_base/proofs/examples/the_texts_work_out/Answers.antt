use Rattle.std.proofs.Common.{refl}
use Rattle.std.specs.Fmt.{digits}
use Rattle.tb_base.proofs.examples.the_texts_work_out.Goals as goal

pub returns : goal.returns
unfolding digits
returns c = record { plain = refl; binary = refl; octal = refl; hexadecimal = refl; named = refl; unnamed = refl; root = refl; grandchild = refl }
