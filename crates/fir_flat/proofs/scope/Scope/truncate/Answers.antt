use Rattle.std.proofs.Common.{List, sym, subst}
use Rattle.fir_flat.specs.declared.kinds.Known.{Known}
use Rattle.fir_flat.specs.KnownNames.{IsScope}
use Rattle.fir_flat.proofs.ScopeFacts.{first_cut, offered_fewer}
use Rattle.fir_flat.proofs.scope.Scope.truncate.Goals as goal

pub invariant_of-self : goal.invariant_of-self
invariant_of-self c =
    subst (λ (ks : List Known). IsScope ks c.self.inside.kinds.items c.self.inside.places) (sym c.truncate.ensures.items)
    (record {
      given = first_cut c.self.inside.known.items c.args.count c.self.inside.places c.self.invariant.given;
      kinds = offered_fewer c.self.inside.known.items c.self.inside.kinds.items c.args.count c.self.invariant.kinds;
    })
