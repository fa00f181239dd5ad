-- Numbers below a power of two.
use Rattle.std.proofs.Common.{ℕ, ◌≡◌, ◌<◌, ◌≤◌, ◌^◌, true, nat_lt}
use Rattle.std.proofs.Math.Nat.{pow-le-pow_right, lt_of_lt_of_le, zero-lt-suc}
use Rattle.std.proofs.lemmas.Bool.{lt-ltb}

pub wide : (n w : ℕ) → n < 2 ^ 128 → 128 ≤ w → nat_lt n (2 ^ w) ≡ true
wide n w h k = lt-ltb n (2 ^ w) (lt_of_lt_of_le h (pow-le-pow_right {n = 2} (zero-lt-suc 1) k))
