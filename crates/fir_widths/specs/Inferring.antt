-- The steps of the inference.
use Rattle.std.specs.Prelude.{ℕ, Option, Some, None}
use Rattle.net_core.specs.WidthRules.{lesser, WidthRule, too_wide, bad_range}
use Rattle.fir_widths.specs.declared.inference.WidthFault.{WidthFault}
use Rattle.fir_widths.specs.declared.inference.WidthFault.TheVariants.{TooWide, BadRange}

-- the lesser of what may be there
abbrev pub lesser_of : Option ℕ → Option ℕ → Option ℕ
lesser_of None o = o
lesser_of (Some n) o = lesser n o

-- the fault that tells of a broken rule
abbrev pub fault_of : WidthRule → WidthFault
fault_of (too_wide line) = TooWide line
fault_of (bad_range line) = BadRange line
