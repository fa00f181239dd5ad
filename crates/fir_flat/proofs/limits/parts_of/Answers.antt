use Rattle.std.proofs.Common.{refl, sym, subst, ◌∙◌}
use Rattle.fir_flat.specs.Measures.{own_weight}
use Rattle.fir_flat.specs.Homes.{AreHomes}
use Rattle.fir_flat.proofs.HomeFacts.{ranked_homes, count_homes}
use Rattle.fir_flat.proofs.limits.parts_of.Goals as goal

pub count_with_instances-requires-clause-ranked : goal.count_with_instances-requires-clause-ranked
count_with_instances-requires-clause-ranked c = (
  c.requires.ranked.0,
  ranked_homes (own_weight c.args.modules.now) c.requires.ranked.0 c.args.modules.now c.deref.result.now
      (subst (λ hs. AreHomes (own_weight c.args.modules.now) c.args.modules.now c.args.modules.now hs) (sym c.deref.ensures.value) c.in_ok-homes.ensures) c.requires.ranked.1,
)

pub returns : goal.returns
returns c =
    c.in_ok-parts.ensures ∙ count_homes (own_weight c.args.modules.now) c.args.modules.now c.deref.result.now
    (subst (λ hs. AreHomes (own_weight c.args.modules.now) c.args.modules.now c.args.modules.now hs) (sym c.deref.ensures.value) c.in_ok-homes.ensures) refl c.args.place
