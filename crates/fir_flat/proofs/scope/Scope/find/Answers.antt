use Rattle.std.proofs.Common.{◌≡◌, ◌∙◌, ◌<◌, ◌≤◌, ap, sym, length, vec_len, Some, None, arith, rules}
use Rattle.fir_flat.specs.Values.{bound_named}
use Rattle.fir_flat.specs.Kinds.{bound_of, kind_shape, seen}
use Rattle.fir_flat.specs.Scopes.{first_place}
use Rattle.fir_flat.proofs.ScopeFacts.{first_found, unknown_means, offered, offered_enough, with_kind}
use Rattle.fir_flat.proofs.scope.Scope.find.Goals as goal

pub index-known-requires : goal.index-known-requires
index-known-requires c =
    let at : first_place c.args.name.now c.self.inside.known.items ≡ Some c.in-Some.place
    = ap (first_place c.args.name.now) c.self.view_is ∙ sym c.place.ensures ∙ c.in-Some.is in
    let within : c.in-Some.place < length c.self.inside.known.items = (first_found c.args.name.now c.self.inside.known.items c.in-Some.place at).within in
    let count : length c.self.inside.known.items ≡ vec_len c.self.inside.known = search rules in
    omega (arith, within, count)

pub index-kind-requires : goal.index-kind-requires
index-kind-requires c =
    let at : first_place c.args.name.now c.self.inside.known.items ≡ Some c.in-Some.place
    = ap (first_place c.args.name.now) c.self.view_is ∙ sym c.place.ensures ∙ c.in-Some.is in
    let within : c.in-Some.place < length c.self.inside.known.items = (first_found c.args.name.now c.self.inside.known.items c.in-Some.place at).within in
    let enough : length c.self.inside.known.items ≤ length c.self.inside.kinds.items = offered_enough c.self.inside.known.items c.self.inside.kinds.items c.self.invariant.kinds in
    let count : length c.self.inside.kinds.items ≡ vec_len c.self.inside.kinds = search rules in
    omega (arith, within, enough, count)

pub returns-in-Some : goal.returns-in-Some
returns-in-Some c =
    let at : first_place c.args.name.now c.self.inside.known.items ≡ Some c.in-Some.place
    = ap (first_place c.args.name.now) c.self.view_is ∙ sym c.place.ensures ∙ c.in-Some.is in
    let bound : bound_of c.index-known.result.now ≡ bound_named c.args.name.now (seen c.self.inside.known.items)
    = ap bound_of c.index-known.ensures ∙ (first_found c.args.name.now c.self.inside.known.items c.in-Some.place at).means c.index-known.result.now in
    let kind : kind_shape c.index-kind.result.now ≡ (bound_named c.args.name.now (seen c.self.inside.known.items)).ty
    = ap kind_shape c.index-kind.ensures ∙ offered c.args.name.now c.self.inside.known.items c.self.inside.kinds.items c.in-Some.place c.index-kind.result.now c.self.invariant.kinds at in
    with_kind c.index-known.result.now c.index-kind.result.now _ bound kind ∙ ap (λ ks. bound_named c.args.name.now (seen ks)) c.self.view_is

pub returns-in-None : goal.returns-in-None
returns-in-None c =
    let at : first_place c.args.name.now c.self.inside.known.items ≡ None
    = ap (first_place c.args.name.now) c.self.view_is ∙ sym c.place.ensures ∙ c.in-None.is in
    sym (unknown_means c.args.name.now c.self.inside.known.items at) ∙ ap (λ ks. bound_named c.args.name.now (seen ks)) c.self.view_is
