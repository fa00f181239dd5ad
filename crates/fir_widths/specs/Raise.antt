-- The widths that a list of connects asks for.
use Rattle.std.specs.Prelude.{ℕ, Bool, true, false, ◌≡◌, ◌+◌, ◌-◌, ◌≤◌, ◌&&◌, List, [], ◌∷◌, length, slice_index, slice_set, nat_lt, if◌then◌else◌}
use Rattle.std.specs.List.{All}
use Rattle.net_core.specs.declared.tree.SignalInfo.{SignalInfo}
use Rattle.net_core.specs.Signals.{info}
use Rattle.net_core.specs.Shapes.{shape}
use Rattle.net_core.specs.Widths.{is_free, Below}
use Rattle.fir_widths.specs.declared.gather.Asked.{Asked}

-- the width of the source
abbrev pub need : List SignalInfo → Asked → List ℕ → ℕ
need signals r w = (shape signals w r.source.now).width

abbrev pub rises : List SignalInfo → Asked → List ℕ → Bool
rises signals r w =
    is_free (info signals r.sink) && (nat_lt r.sink (length w) && nat_lt (slice_index w r.sink) (need signals r w))

abbrev pub raised : List SignalInfo → Asked → List ℕ → List ℕ
raised signals r w = if rises signals r w then slice_set w r.sink (need signals r w) else w

abbrev pub Met : List SignalInfo → List ℕ → Asked → Type 0
Met signals w r = is_free (info signals r.sink) ≡ true → need signals r w ≤ slice_index w r.sink

abbrev pub MeetsAll : List SignalInfo → List ℕ → List Asked → Type 0
MeetsAll signals w rules = All (Met signals w) rules

-- by how much all widths together may still rise
abbrev pub slack : List ℕ → ℕ
slack [] = 0
slack (w ∷ ws) = (129 - w) + slack ws

-- w is v with some free widths raised, none above what every solution over v has
pub record Grows (signals : List SignalInfo) (rules : List Asked) (v w : List ℕ) : Type 0 where
  pub long : length w ≡ length v
  pub higher : Below v w
  pub lower : (u : List ℕ) → MeetsAll signals u rules → Below v u → Below w u
  pub kept : (x : ℕ) → is_free (info signals x) ≡ false → slice_index w x ≡ slice_index v x
  pub slack : slack w ≤ slack v
