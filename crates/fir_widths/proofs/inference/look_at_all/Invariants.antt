use Rattle.std.proofs.Common.{◌≡◌, drop}
use Rattle.net_core.specs.WidthRules.{use_lines, is_wide, is_bad, least_line}
use Rattle.fir_widths.specs.Gathering.{uses_seen}
use Rattle.fir_widths.specs.Inferring.{lesser_of}
use Rattle.fir_widths.proofs.inference.look_at_all.Given as goal

abbrev pub invariant-loop-one : goal.invariant-loop-one
invariant-loop-one l = record {
  wide : lesser_of l.found.wide (least_line (use_lines (is_wide l.signals l.widths) (uses_seen (drop l.one-index l.all)))) ≡ lesser_of l.initial.found.wide (least_line (use_lines (is_wide l.signals l.widths) (uses_seen l.all)));
  bad : lesser_of l.found.bad (least_line (use_lines (is_bad l.signals l.widths) (uses_seen (drop l.one-index l.all)))) ≡ lesser_of l.initial.found.bad (least_line (use_lines (is_bad l.signals l.widths) (uses_seen l.all)));
}
