-- The worked examples.
use Rattle.std.proofs.Common.{◌≡◌, ℕ, ◌≤◌, List, [], ◌∷◌, ◌++◌, Some, None, refl, subst, arith, get_or}
use Rattle.bench_model.specs.Paths.{is_path, child}
use Rattle.bench_model.specs.Conflict.{IsBefore}
use Rattle.bench_model.specs.Formed.{Formed}
use Rattle.order_rel.specs.declared.event.Event.{Event}
use Rattle.order_rel.specs.declared.event.Kind.TheVariants.{End}
use Rattle.order_rel.specs.Logs.{log_of, fork_place, join_place}
use Rattle.order_rel.specs.Climbing.{Climbs, arrived, down, up}
use Rattle.order_rel.specs.Examples.{acted, family, joined_earlier}
use Rattle.order_rel.proofs.OrderedFacts.{by_regions, by_climbing}
use Rattle.order_rel.proofs.ClimbCases.{upwards, not_joined}
use Rattle.order_rel.proofs.FormedTests.{formed_by}

pub family_formed : Formed (log_of family)
unfolding is_path
family_formed = formed_by (log_of family) refl

pub earlier_formed : Formed (log_of joined_earlier)
unfolding is_path
earlier_formed = formed_by (log_of joined_earlier) refl

-- the event of the family at a place
abbrev kin : ℕ → Event
kin i = get_or family i (acted [] 0 End)

abbrev other : ℕ → Event
other i = get_or joined_earlier i (acted [] 0 End)

-- ---- where things stand
pub nested_forked : fork_place family (0 ∷ 0 ∷ []) ≡ Some 1
unfolding is_path
nested_forked = refl

pub first_forked : fork_place family (0 ∷ []) ≡ Some 0
unfolding is_path
first_forked = refl

pub second_forked : fork_place family (1 ∷ []) ≡ Some 6
unfolding is_path
second_forked = refl

pub not_forked : fork_place joined_earlier (1 ∷ []) ≡ None
unfolding is_path
not_forked = refl

pub first_joined : join_place family (0 ∷ []) ≡ Some 5
unfolding is_path
first_joined = refl

pub nested_not_joined : join_place family (0 ∷ 0 ∷ []) ≡ None
unfolding is_path
nested_not_joined = refl

-- ---- the order
apart : (a : ℕ) (p r : List ℕ) → [] ≡ (a ∷ p) ++ r → ⊥
apart a p r e = absurd (cc)

pub forks_lead : IsBefore (log_of family) 0 2
unfolding child
forks_lead =
    (by_climbing family family_formed 0 2 (kin 0) (kin 2) (omega arith) (omega arith) refl refl refl [] (0 ∷ 0 ∷ []) refl refl).0
    (down 0 [] 0 (0 ∷ []) 0 refl first_forked (omega arith))

pub join_leads : IsBefore (log_of family) 1 5
unfolding child
join_leads =
    (by_climbing family family_formed 1 5 (kin 1) (kin 5) (omega arith) (omega arith) refl refl refl (0 ∷ []) [] refl refl).0
    (up 1 (0 ∷ []) 0 [] 5 (apart 0 []) refl first_joined (omega arith) (arrived 5 [] refl))

pub join_and_fork_lead : IsBefore (log_of family) 1 7
unfolding child
join_and_fork_lead =
    (by_climbing family family_formed 1 7 (kin 1) (kin 7) (omega arith) (omega arith) refl refl refl (0 ∷ []) (1 ∷ []) refl refl).0
    (up 1 (0 ∷ []) 0 [] 5 beside refl first_joined (omega arith) (down 5 [] 1 [] 6 refl second_forked (omega arith)))
  where
    beside : (r : List ℕ) → 1 ∷ [] ≡ (0 ∷ []) ++ r → ⊥
    beside r e = absurd (cc)

pub regions_lead : IsBefore (log_of family) 2 8
regions_lead = by_regions family family_formed 2 8 (kin 2) (kin 8) (omega arith) (omega arith) refl refl (λ e. absurd (cc))

pub join_itself : IsBefore (log_of family) 1 4 → ⊥
join_itself b =
    let c = (by_climbing family family_formed 1 4 (kin 1) (kin 4) (omega arith) (omega arith) refl refl refl (0 ∷ []) [] refl refl).1 b in
    let u = upwards (fork_place family) (join_place family) 4 [] 1 (0 ∷ []) (apart 0 []) [] 0 5 refl first_joined c in
    let n : 5 ≤ 4 = u.0 in
    absurd (omega arith)

pub nested_free : IsBefore (log_of family) 2 5 → ⊥
nested_free b =
    not_joined (fork_place family) (join_place family) 5 [] 2 (0 ∷ 0 ∷ []) (apart 0 (0 ∷ [])) nested_not_joined
    ((by_climbing family family_formed 2 5 (kin 2) (kin 5) (omega arith) (omega arith) refl refl refl (0 ∷ 0 ∷ []) [] refl refl).1 b)

pub siblings_free : IsBefore (log_of joined_earlier) 0 1 → ⊥
unfolding child
siblings_free b = none ((by_climbing joined_earlier earlier_formed 0 1 (other 0) (other 1) (omega arith) (omega arith) refl refl refl [] (1 ∷ []) refl refl).1 b)
  where
    none : Climbs (fork_place joined_earlier) (join_place joined_earlier) 1 (1 ∷ []) 0 [] → ⊥
    none (arrived _ _ s) = absurd (cc)
    none (down _ _ k q f g fk le) =
        let s : k ≡ 1 = cc in
        let n : fork_place joined_earlier (1 ∷ []) ≡ Some f = subst (λ z. fork_place joined_earlier (z ∷ []) ≡ Some f) s fk in
        absurd (let m = not_forked in cc)
    none (up _ _ k q y away s j le c) = away (1 ∷ []) refl
