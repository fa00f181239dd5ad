use Rattle.std.proofs.Common.{refl, sym, subst, ◌∙◌}
use Rattle.fir_flat.specs.Modules.{own_signals}
use Rattle.fir_flat.specs.Homes.{AreHomes}
use Rattle.fir_flat.proofs.HomeFacts.{ranked_homes, count_homes}
use Rattle.fir_flat.proofs.limits.signals_of.Goals as goal

pub count_with_instances-requires-clause-ranked : goal.count_with_instances-requires-clause-ranked
count_with_instances-requires-clause-ranked c = (
  c.requires.ranked.0,
  ranked_homes (own_signals c.args.modules.now) c.requires.ranked.0 c.args.modules.now c.deref.result.now
      (subst (λ hs. AreHomes (own_signals c.args.modules.now) c.args.modules.now c.args.modules.now hs) (sym c.deref.ensures.value) c.in_ok-homes.ensures) c.requires.ranked.1,
)

pub returns : goal.returns
returns c =
    c.in_ok-signals.ensures ∙ count_homes (own_signals c.args.modules.now) c.args.modules.now c.deref.result.now
    (subst (λ hs. AreHomes (own_signals c.args.modules.now) c.args.modules.now c.args.modules.now hs) (sym c.deref.ensures.value) c.in_ok-homes.ensures) refl c.args.place
