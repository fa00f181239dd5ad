-- Counts that end at one past the greatest limit.
use Rattle.std.specs.Prelude.{ℕ, min}

abbrev pub cut : ℕ → ℕ
cut n = min n 4194305
