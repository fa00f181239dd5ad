use Rattle.std.proofs.Common.{ℕ, ◌≡◌, vec_len, get_or}
use Rattle.fir_flat.proofs.homes.zeros.Given as goal

abbrev pub invariant-loop : goal.invariant-loop
invariant-loop l = record { long : vec_len l.v ≡ l.counter; zero : (k : ℕ) → get_or l.v.items k 0 ≡ 0 }
