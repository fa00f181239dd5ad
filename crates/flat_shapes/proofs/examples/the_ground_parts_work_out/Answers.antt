use Rattle.std.proofs.Common.{refl}
use Rattle.std.specs.Fmt.{digits}
use Rattle.flat_shapes.proofs.examples.the_ground_parts_work_out.Goals as goal

pub returns : goal.returns
unfolding digits
returns c = record {
  names = refl;
  against = refl;
  counterparts = refl;
  second = refl;
  none = refl;
  apart = refl;
  twice = refl;
  bracket = refl;
  clash = refl;
  wide = refl;
}
