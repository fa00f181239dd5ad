use Rattle.std.proofs.Common.{ℕ, List, ◌<◌, length, slice_index, subst}
use Rattle.fir_flat.proofs.resolve.partners_within.Goals as goal

pub returns : goal.returns
returns c = record {
  counterparts = c.in_ok-places.ensures;
  low =
      subst (λ (xs : List ℕ). (k : ℕ) → k < length xs → slice_index xs k < c.args.second.now.size) c.deref.ensures.value
      c.in_ok-check_places.ensures;
}
