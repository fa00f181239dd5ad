use Rattle.std.proofs.Common.{◌≡◌, take, map}
use Rattle.net_core.specs.WidthRules.{judged}
use Rattle.fir_widths.specs.Judging.{summary}
use Rattle.fir_widths.proofs.judge.+judge.Given as goal

abbrev pub invariant-judge_all-loop-k : goal.invariant-judge_all-loop-k
invariant-judge_all-loop-k l = l.parts ≡ summary (map (judged l.signals l.widths) (take l.k l.exprs))
