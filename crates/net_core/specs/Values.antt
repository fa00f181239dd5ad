-- What an expression is worth, and what it mentions.
use Rattle.std.specs.Prelude.{ℕ, ℤ, pos, ◌-ℤ◌, Bool, false, List, [], ◌∷◌, ◌||◌, ◌==◌, nat_eq, slice_index, slice_index_or, unwrap_or, map, if◌then◌else◌}
use Rattle.tb_base.specs.Word.{Word, cut, value_of}
use Rattle.tb_base.specs.Row.{row_word, no_word, flag}
use Rattle.net_core.specs.declared.tree.SignalInfo.{SignalInfo}
use Rattle.net_core.specs.declared.tree.GroundExpr.{GroundExpr}
use Rattle.net_core.specs.declared.tree.GroundExpr.TheFolds.{fold-GroundExpr}
use Rattle.net_core.specs.declared.tree.GroundExpr.TheOpen.{GroundExpr-F}
use Rattle.net_core.specs.Signals.{info, given_width}
use Rattle.net_core.specs.Shapes.{literal_width, greatest}

-- the bits n as a value of the signal
abbrev pub word_of : SignalInfo → ℕ → Word
word_of i n = record { width = given_width i; signed = i.signed; raw = n }

abbrev pub word_at : List Word → ℕ → Word
word_at words k = slice_index_or words k no_word

abbrev pub literal_value : (negative : Bool) → ℕ → ℤ
literal_value negative n = if negative then pos 0 -ℤ pos n else pos n

-- an expression of one level, under the valuation V: a number for each signal, its bits
abbrev pub level_value : List SignalInfo → (ℕ → ℕ) → GroundExpr-F Word → Word
level_value signals V (GroundExpr-F.Read s) = word_of (info signals s.0) (V s.0)
level_value signals V (GroundExpr-F.Lit signed width negative n) =
    cut (unwrap_or width (literal_width signed negative n)) signed (literal_value negative n)
level_value signals V (GroundExpr-F.Apply op args nums) =
    row_word op (word_at args 0) (word_at args 1) (word_at args 2) (slice_index nums 0) (slice_index nums 1)
level_value signals V (GroundExpr-F.Select index items) =
    cut (greatest (map (λ i. i.width) items)) (word_at items 0).signed (value_of (word_at items index.raw))
level_value signals V (GroundExpr-F.IndexIs index place) = cut 1 false (flag (index.raw == place))

abbrev pub value : List SignalInfo → GroundExpr → (ℕ → ℕ) → Word
value signals e V = fold-GroundExpr Word (level_value signals V) e

abbrev pub any : List Bool → Bool
any [] = false
any (b ∷ bs) = b || any bs

abbrev pub level_mentions : ℕ → GroundExpr-F Bool → Bool
level_mentions y (GroundExpr-F.Read s) = nat_eq y s.0
level_mentions y (GroundExpr-F.Lit signed width negative n) = false
level_mentions y (GroundExpr-F.Apply op args nums) = any args
level_mentions y (GroundExpr-F.Select index items) = index || any items
level_mentions y (GroundExpr-F.IndexIs index place) = index

-- whether the signal y stands in it
abbrev pub mentions : GroundExpr → ℕ → Bool
mentions e y = fold-GroundExpr Bool (level_mentions y) e
