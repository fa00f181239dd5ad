use Rattle.std.proofs.Common.{◌≡◌, ◌∙◌, ap, sym, true, false}
use Rattle.fir_flat.specs.Scopes.{first_place, is_at}
use Rattle.fir_flat.proofs.ScopeFacts.{none_given, right_given, stale_given}
use Rattle.fir_flat.proofs.scope.Scope.place.Goals as goal

pub returns-in-None : goal.returns-in-None
returns-in-None c =
    sym (none_given c.args.name.now c.self.inside.known.items c.self.inside.places c.self.invariant.given (sym c.find.ensures ∙ c.in-None.is))
    ∙ ap (first_place c.args.name.now) c.self.view_is

pub returns-then-stands_at : goal.returns-then-stands_at
returns-then-stands_at c =
    let at : is_at c.args.name.now c.self.inside.known.items c.in-Some.place ≡ true
    = sym (c.stands_at.ensures ∙ ap (λ ks. is_at c.args.name.now ks c.in-Some.place) c.deref.ensures.value) ∙ c.if-stands_at.true in
    sym (right_given c.args.name.now c.self.inside.known.items c.self.inside.places c.in-Some.place c.self.invariant.given (sym c.find.ensures ∙ c.in-Some.is) at)
    ∙ ap (first_place c.args.name.now) c.self.view_is

pub returns-else-stands_at : goal.returns-else-stands_at
returns-else-stands_at c =
    let at : is_at c.args.name.now c.self.inside.known.items c.in-Some.place ≡ false
    = sym (c.stands_at.ensures ∙ ap (λ ks. is_at c.args.name.now ks c.in-Some.place) c.deref.ensures.value) ∙ c.if-stands_at.false in
    sym (stale_given c.args.name.now c.self.inside.known.items c.self.inside.places c.in-Some.place c.self.invariant.given (sym c.find.ensures ∙ c.in-Some.is) at)
    ∙ ap (first_place c.args.name.now) c.self.view_is
