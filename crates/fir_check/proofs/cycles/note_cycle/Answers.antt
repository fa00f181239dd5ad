use Rattle.std.proofs.Common.{◌<◌, slice_index, arith}
use Rattle.fir_check.specs.Instances.{kids_seen}
use Rattle.fir_check.proofs.Returning.{falls-parts, parts-note}
use Rattle.fir_check.proofs.cycles.note_cycle.Goals as goal

pub returns-then-height_at : goal.returns-then-height_at
returns-then-height_at c =
    let l : slice_index c.args.heights.now c.args.instance.target < slice_index c.args.heights.now c.args.home = omega arith in
    parts-note (kids_seen c.args.kids.now) c.args.instance.target c.args.home c.args.best.now c.args.instance.line
    (falls-parts c.args.heights.now (kids_seen c.args.kids.now) c.args.instance.target c.args.home c.requires.falls l)
