-- Which expressions have values that bits can hold, and what the engine computes of any expression.
use Rattle.std.specs.Prelude.{ℕ, pos, ◌<◌, ◌^◌, Bool, true, false, ◌&&◌, ◌==◌, nat_le, if◌then◌else◌, List, length, map, slice_index, unwrap_or, Option, Some, None}
use Rattle.std.specs.List.{list_all}
use Rattle.tb_base.specs.Word.{Word, cut, value_of}
use Rattle.tb_base.specs.Row.{no_word, operand_count, number_count, row_fits, applied, flag}
use Rattle.net_core.specs.declared.tree.SignalInfo.{SignalInfo}
use Rattle.net_core.specs.declared.tree.GroundExpr.{GroundExpr}
use Rattle.net_core.specs.declared.tree.GroundExpr.TheFolds.{fold-GroundExpr, map-GroundExpr}
use Rattle.net_core.specs.declared.tree.GroundExpr.TheOpen.{GroundExpr-F}
use Rattle.net_core.specs.Signals.{info, given_width}
use Rattle.net_core.specs.Shapes.{literal_width, greatest}
use Rattle.net_core.specs.WidthRules.{parts}
use Rattle.net_core.specs.Values.{level_value, word_at, literal_value}
use Rattle.net_core.specs.Nets.{Choices, nothing, take, branch}

-- a list of numbers as a valuation
abbrev pub at : List ℕ → ℕ → ℕ
at vs k = slice_index vs k

-- each signal's bits are no more than its width says
abbrev pub InWidths : List SignalInfo → (ℕ → ℕ) → Type 0
InWidths signals V = (x : ℕ) → V x < 2 ^ given_width (info signals x)

-- an expression's value, and whether it and the values of all its parts fit
pub record Held : Type 0 where
  pub word : Word
  pub fits : Bool

-- at most 128 bits are read or written; an operation has operands and numbers as its row asks
abbrev pub level_fits : List SignalInfo → GroundExpr-F Word → Bool
level_fits signals (GroundExpr-F.Read s) = nat_le (given_width (info signals s.0)) 128
level_fits signals (GroundExpr-F.Lit signed width negative n) = nat_le (unwrap_or width (literal_width signed negative n)) 128
level_fits signals (GroundExpr-F.Apply op args nums) =
    ((length args == operand_count op) && (length nums == number_count op))
    && row_fits op (word_at args 0) (word_at args 1) (word_at args 2) (slice_index nums 0) (slice_index nums 1)
level_fits signals (GroundExpr-F.Select index items) = true
level_fits signals (GroundExpr-F.IndexIs index place) = true

abbrev pub level_held : List SignalInfo → (ℕ → ℕ) → GroundExpr-F Held → Held
level_held signals V x = record {
  word = level_value signals V (map-GroundExpr Held Word (λ h. h.word) x);
  fits = level_fits signals (map-GroundExpr Held Word (λ h. h.word) x) && list_all (λ h. h.fits) (parts x);
}

abbrev pub held : List SignalInfo → (ℕ → ℕ) → GroundExpr → Held
held signals V = fold-GroundExpr Held (level_held signals V)

abbrev pub source_fits : List SignalInfo → (ℕ → ℕ) → Option GroundExpr → Bool
source_fits signals V None = true
source_fits signals V (Some e) = (held signals V e).fits

-- each expression of the choices fits
abbrev pub choices_fit : List SignalInfo → (ℕ → ℕ) → Choices → Bool
choices_fit signals V nothing = true
choices_fit signals V (take e rest) = source_fits signals V e && choices_fit signals V rest
choices_fit signals V (branch k taken other rest) =
    (choices_fit signals V taken && choices_fit signals V other) && choices_fit signals V rest

-- the item at a place, in the width of the widest
abbrev pub picked_word : List Word → ℕ → Word
picked_word words place = cut (greatest (map (λ w. w.width) words)) (word_at words 0).signed (value_of (word_at words place))

-- what is computed: a width above 128 is taken as 0, and where a row doesn't fit it gives no bits

abbrev pub within : ℕ → ℕ
within w = if nat_le w 128 then w else 0

abbrev pub level_computed : List SignalInfo → (ℕ → ℕ) → GroundExpr-F Word → Word
level_computed signals V (GroundExpr-F.Read s) =
    cut (within (given_width (info signals s.0))) (info signals s.0).signed (pos (V s.0))
level_computed signals V (GroundExpr-F.Lit signed width negative n) =
    cut (within (unwrap_or width (literal_width signed negative n))) signed (literal_value negative n)
level_computed signals V (GroundExpr-F.Apply op args nums) = unwrap_or (applied op args nums) no_word
level_computed signals V (GroundExpr-F.Select index items) = picked_word items index.raw
level_computed signals V (GroundExpr-F.IndexIs index place) = cut 1 false (flag (index.raw == place))

abbrev pub computed : List SignalInfo → (ℕ → ℕ) → GroundExpr → Word
computed signals V = fold-GroundExpr Word (level_computed signals V)
