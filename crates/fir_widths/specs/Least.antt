-- The least widths of a circuit, found by rounds over its connects.
use Rattle.std.specs.Prelude.{ℕ, zero, suc, ◌*◌, max, List, [], ◌∷◌, map, length, slice_index, slice_set, if◌then◌else◌}
use Rattle.net_core.specs.declared.tree.SignalInfo.{SignalInfo}
use Rattle.net_core.specs.declared.tree.Elab.{Elab}
use Rattle.net_core.specs.Signals.{info, given_width}
use Rattle.net_core.specs.Shapes.{shape}
use Rattle.net_core.specs.Body.{body_of}
use Rattle.net_core.specs.Widths.{Asked, sources, is_free}

-- a signal whose width isn't written begins with 0
abbrev pub first_width : SignalInfo → ℕ
first_width i = if is_free i then 0 else given_width i

-- the sink becomes as wide as the source, if it wasn't and its width isn't written
abbrev pub raised : List SignalInfo → Asked → List ℕ → List ℕ
raised signals a w =
    if is_free (info signals a.sink) then slice_set w a.sink (max (slice_index w a.sink) (shape signals w a.source).width) else w

-- one round over the connects, the nodes and the initial values
abbrev pub round : List SignalInfo → List Asked → List ℕ → List ℕ
round signals [] w = w
round signals (a ∷ rest) w = round signals rest (raised signals a w)

abbrev pub rounds : ℕ → Elab → List ℕ → List ℕ
rounds zero e w = w
rounds (suc n) e w = rounds n e (round e.signals (sources (body_of e.body)) w)

-- a width rises at most 129 times, so after so many rounds none rises any more
abbrev pub least_widths : Elab → List ℕ
least_widths e = rounds (129 * length e.signals) e (map first_width e.signals)
