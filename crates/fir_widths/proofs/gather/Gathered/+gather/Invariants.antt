use Rattle.std.proofs.Common.{◌≡◌, ◌++◌, drop}
use Rattle.net_core.specs.Body.{body_of}
use Rattle.net_core.specs.Widths.{sources}
use Rattle.net_core.specs.WidthRules.{uses}
use Rattle.fir_widths.specs.Gathering.{asked_seen, uses_seen}
use Rattle.fir_widths.proofs.gather.Gathered.+gather.Given as goal

abbrev pub invariant-add_body-loop-ground : goal.invariant-add_body-loop-ground
invariant-add_body-loop-ground l = record {
  uses : uses_seen l.self.uses.items ++ uses (body_of (drop l.ground-index l.body)) ≡ uses_seen l.initial.self.uses.items ++ uses (body_of l.body);
  asked : asked_seen l.self.asked.items ++ sources (body_of (drop l.ground-index l.body)) ≡ asked_seen l.initial.self.asked.items ++ sources (body_of l.body);
}
