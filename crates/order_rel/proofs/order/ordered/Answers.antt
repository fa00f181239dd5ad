use Rattle.std.proofs.Common.{◌≡◌, refl, rules}
use Rattle.order_rel.proofs.OrderedFacts.{by_regions, by_climbing}
use Rattle.order_rel.proofs.order.ordered.Goals as goal

pub returns-then-ne : goal.returns-then-ne
returns-then-ne c =
    let ne : c.index-log-i.result.region ≡ c.index-log-j.result.region → ⊥ = search rules in (
      λ _. by_regions c.args.log.now c.requires.formed c.args.i c.args.j c.index-log-i.result c.index-log-j.result c.requires.earlier c.requires.within
          c.index-log-i.is c.index-log-j.is ne,
      λ _. refl,
    )

pub returns : goal.returns
returns c =
    let same : c.index-log-i.result.region ≡ c.index-log-j.result.region = search rules in
    let climb = by_climbing c.args.log.now c.requires.formed c.args.i c.args.j c.index-log-i.result c.index-log-j.result c.requires.earlier c.requires.within
    c.index-log-i.is c.index-log-j.is same c.numbers.result.now c.numbers-2.result.now c.numbers.ensures.value c.numbers-2.ensures.value in
    (λ r. climb.0 (c.climbs.ensures.0 r), λ b. c.climbs.ensures.1 (climb.1 b))
