-- Marks of numbers.
use Rattle.std.proofs.Common.{◌≡◌, ℕ, zero, suc, true, false, replicate}
use Rattle.net_graph.specs.Marks.{is_marked}

pub no_mark : (n x : ℕ) → is_marked (replicate n false) x ≡ true → ⊥
no_mark zero x m = cc
no_mark (suc n) zero m = cc
no_mark (suc n) (suc x) m = no_mark n x m
