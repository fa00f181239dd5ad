use Rattle.std.proofs.Common.{List, [], ◌∷◌, ◌++◌, ◌≡◌, ◌∙◌, ap, sym, subst, take, length, is_none, rules}
use Rattle.fir_flat.specs.declared.kinds.Known.{Known}
use Rattle.fir_flat.specs.declared.kinds.Kind.{Kind}
use Rattle.fir_flat.specs.KnownNames.{IsScope, KindsOf}
use Rattle.fir_flat.specs.Scopes.{Gives, first_place}
use Rattle.fir_flat.proofs.ScopeFacts.{first_more, first_kept, first_same, none_said, offered_more, offered_still}
use Rattle.fir_flat.proofs.scope.Scope.push.Goals as goal

pub invariant_of-self-in_err-give : goal.invariant_of-self-in_err-give
invariant_of-self-in_err-give c =
    let ks : List Known = c.self.inside.known.items in
    let fs : List Kind = c.self.inside.kinds.items in
    let short : c.len.result ≡ length ks = search rules in
    let more : c.push.new.self.items ≡ take (length ks) fs ++ c.numbered-kind.result ∷ []
    = c.in_ok-push.ensures.items ∙ ap (λ (xs : List Kind). xs ++ c.numbered-kind.result ∷ []) (c.truncate.ensures.items ∙ ap (λ n. take n fs) short) in
    record {
      given = first_same ks c.self.inside.places c.give.new.self c.in_err-give.ensures.err c.self.invariant.given;
      kinds = subst (λ (xs : List Kind). KindsOf ks xs) (sym more) (offered_still ks fs c.numbered-kind.result c.self.invariant.kinds);
    }

pub invariant_of-self-in_err-push-2 : goal.invariant_of-self-in_err-push-2
invariant_of-self-in_err-push-2 c =
    let ks : List Known = c.self.inside.known.items in
    let fs : List Kind = c.self.inside.kinds.items in
    let short : c.len.result ≡ length ks = search rules in
    let more : c.push.new.self.items ≡ take (length ks) fs ++ c.numbered-kind.result ∷ []
    = c.in_ok-push.ensures.items ∙ ap (λ (xs : List Kind). xs ++ c.numbered-kind.result ∷ []) (c.truncate.ensures.items ∙ ap (λ n. take n fs) short) in
    let first : c.is_none-is_first.result ≡ is_none (first_place c.args.known.name.now ks)
    = none_said c.is_none-is_first.result c.place.result (sym c.is_none-is_first.ensures) ∙ ap is_none (c.place.ensures ∙ ap (first_place c.args.known.name.now) (sym c.self.view_is)) in
    let count : c.len-2.result ≡ length ks = search rules in
    let gives : Gives c.is_none-is_first.result c.args.known.name.now (length ks) c.self.inside.places c.give.new.self
    = subst (λ n. Gives c.is_none-is_first.result c.args.known.name.now n c.self.inside.places c.give.new.self) count c.in_ok-give.ensures.ok in
    subst (λ (xs : List Known). IsScope xs c.push.new.self.items c.give.new.self) (sym c.in_err-push-2.ensures.items)
    (record {
      given = first_kept ks c.args.known.name.now c.is_none-is_first.result c.self.inside.places c.give.new.self first gives c.self.invariant.given;
      kinds = subst (λ (xs : List Kind). KindsOf ks xs) (sym more) (offered_still ks fs c.numbered-kind.result c.self.invariant.kinds);
    })

pub invariant_of-self-2 : goal.invariant_of-self-2
invariant_of-self-2 c =
    let ks : List Known = c.self.inside.known.items in
    let fs : List Kind = c.self.inside.kinds.items in
    let short : c.len.result ≡ length ks = search rules in
    let more : c.push.new.self.items ≡ take (length ks) fs ++ c.numbered-kind.result ∷ []
    = c.in_ok-push.ensures.items ∙ ap (λ (xs : List Kind). xs ++ c.numbered-kind.result ∷ []) (c.truncate.ensures.items ∙ ap (λ n. take n fs) short) in
    let first : c.is_none-is_first.result ≡ is_none (first_place c.args.known.name.now ks)
    = none_said c.is_none-is_first.result c.place.result (sym c.is_none-is_first.ensures) ∙ ap is_none (c.place.ensures ∙ ap (first_place c.args.known.name.now) (sym c.self.view_is)) in
    let count : c.len-2.result ≡ length ks = search rules in
    let gives : Gives c.is_none-is_first.result c.args.known.name.now (length ks) c.self.inside.places c.give.new.self
    = subst (λ n. Gives c.is_none-is_first.result c.args.known.name.now n c.self.inside.places c.give.new.self) count c.in_ok-give.ensures.ok in
    subst (λ (xs : List Known). IsScope xs c.push.new.self.items c.give.new.self) (sym c.in_ok-push-2.ensures.items)
    (record {
      given = first_more ks c.args.known c.is_none-is_first.result c.self.inside.places c.give.new.self first gives c.self.invariant.given;
      kinds =
          subst (λ (xs : List Kind). KindsOf (ks ++ c.args.known ∷ []) xs) (sym more)
          (offered_more ks fs c.args.known c.numbered-kind.result c.self.invariant.kinds c.numbered-kind.ensures);
    })
