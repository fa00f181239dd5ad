use Rattle.std.proofs.Common.{◌*◌}
use Rattle.fir_flat.specs.Kinds.{seen}
use Rattle.fir_flat.specs.Measures.{measure, reached, driven}
use Rattle.fir_flat.proofs.Cutting.{cut_over, cut_added}
use Rattle.fir_flat.proofs.own.count_invalid.Goals as goal

pub returns-then-is_over : goal.returns-then-is_over
returns-then-is_over c = record {
  signals = c.add.ensures.signals;
  parts = cut_over c.args.tally.now.parts _ c.add.new.self.parts (c.is_over.ensures c.if-is_over.true) c.add.ensures.parts;
  instances = c.add.ensures.instances;
}

pub returns : goal.returns
returns c = record {
  signals = c.add-2.ensures.signals;
  parts =
      cut_added c.args.tally.now.parts c.invalid_weight.result
      (reached (measure (seen c.args.known.now) c.args.sink.now) * driven (measure (seen c.args.known.now) c.args.sink.now) 0) c.add-2.new.self.parts
      c.add-2.ensures.parts
      (c.invalid_weight.ensures (measure (seen c.args.known.now) c.args.sink.now) c.weigh-sink.ensures);
  instances = c.add-2.ensures.instances;
}
