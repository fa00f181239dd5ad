-- What the code has gathered, as the definitions see it.
use Rattle.std.specs.Prelude.{List, map}
use Rattle.net_core.specs.Widths as Widths
use Rattle.net_core.specs.WidthRules as Rules
use Rattle.fir_widths.specs.declared.gather.Asked.{Asked}
use Rattle.fir_widths.specs.declared.gather.Use.{Use}

abbrev pub asked_seen : List Asked → List Widths.Asked
asked_seen rs = map (λ r. record { sink = r.sink; source = r.source.now }) rs

abbrev pub uses_seen : List Use → List Rules.Use
uses_seen us = map (λ u. record { line = u.line; expr = u.expr.now; condition = u.condition }) us
