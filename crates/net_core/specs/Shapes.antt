-- Signedness and width of expressions.
use Rattle.std.specs.Prelude.{ℕ, ◌+◌, ◌-◌, max, min, Bool, true, false, List, [], ◌∷◌, map, slice_index, slice_index_or, unwrap_or}
use Rattle.std.specs.Int.Count.{count_leading_zeros}
use Rattle.tb_base.specs.Row.{row_signed, leading, width_of}
use Rattle.net_core.specs.declared.tree.SignalInfo.{SignalInfo}
use Rattle.net_core.specs.declared.tree.GroundExpr.{GroundExpr}
use Rattle.net_core.specs.declared.tree.GroundExpr.TheFolds.{fold-GroundExpr}
use Rattle.net_core.specs.declared.tree.GroundExpr.TheOpen.{GroundExpr-F}
use Rattle.net_core.specs.Signals.{info}

pub record Shape : Type 0 where
  pub signed : Bool
  pub width : ℕ

-- of an operand that is not there
abbrev pub no_shape : Shape
no_shape = record { signed = false; width = 0 }

-- how many binary digits a number below 2 ^ 128 has; none for 0
abbrev pub digit_count : ℕ → ℕ
digit_count n = 128 - count_leading_zeros 128 n

-- the least width of at least 1 that holds the literal
abbrev pub literal_width : (signed negative : Bool) → ℕ → ℕ
literal_width false negative n = max 1 (digit_count n)
literal_width true false n = digit_count n + 1
literal_width true true n = digit_count (n - 1) + 1

abbrev pub greatest : List ℕ → ℕ
greatest [] = 0
greatest (n ∷ ns) = max n (greatest ns)

abbrev pub shape_at : List Shape → ℕ → Shape
shape_at shapes k = slice_index_or shapes k no_shape

abbrev pub widths : List Shape → List ℕ
widths shapes = map (λ s. s.width) shapes

-- an expression of one level, where `w` has the signals' widths. Each width is cut to 129
abbrev pub level_shape : List SignalInfo → List ℕ → GroundExpr-F Shape → Shape
level_shape signals w (GroundExpr-F.Read s) = record { signed = (info signals s.0).signed; width = min 129 (slice_index w s.0) }
level_shape signals w (GroundExpr-F.Lit signed width negative n) =
    record { signed = signed; width = min 129 (unwrap_or width (literal_width signed negative n)) }
level_shape signals w (GroundExpr-F.Apply op args nums) = record {
  signed = row_signed op (leading op (shape_at args 0).signed (shape_at args 1).signed);
  width = width_of op (shape_at args 0).signed (widths args) nums;
}
level_shape signals w (GroundExpr-F.Select index items) =
    record { signed = (shape_at items 0).signed; width = min 129 (greatest (widths items)) }
level_shape signals w (GroundExpr-F.IndexIs index place) = record { signed = false; width = 1 }

-- where `w` has the signals' widths. Widths go up to 129, which stands for all above 128
abbrev pub shape : List SignalInfo → List ℕ → GroundExpr → Shape
shape signals w = fold-GroundExpr Shape (level_shape signals w)
