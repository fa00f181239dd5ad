use Rattle.std.proofs.Common.{refl, sym, subst, ◌∙◌}
use Rattle.fir_flat.specs.Modules.{own_signals}
use Rattle.fir_flat.specs.Homes.{AreHomes}
use Rattle.fir_flat.proofs.HomeFacts.{ranked_homes, count_homes}
use Rattle.fir_flat.proofs.homes.signal_counts.Goals as goal

pub capped_counts-requires : goal.capped_counts-requires
capped_counts-requires c = (
  c.requires.0,
  ranked_homes (own_signals c.args.modules.now) c.requires.0 c.args.modules.now c.deref.result.now
      (subst (λ hs. AreHomes (own_signals c.args.modules.now) c.args.modules.now c.args.modules.now hs) (sym c.deref.ensures.value) c.in_ok-homes.ensures) c.requires.1,
)

pub returns : goal.returns
returns c = record {
  each = λ place.
      c.in_ok-counts.ensures place
      ∙ count_homes (own_signals c.args.modules.now) c.args.modules.now c.deref.result.now
      (subst (λ hs. AreHomes (own_signals c.args.modules.now) c.args.modules.now c.args.modules.now hs) (sym c.deref.ensures.value) c.in_ok-homes.ensures) refl place;
}
