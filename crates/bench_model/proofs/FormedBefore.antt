-- On formed logs each link leads from an earlier event to a later one, so "before" is the same with links in any direction.
use Rattle.std.proofs.Common.{◌≡◌, ◌⊎◌, ⊎_elim, inl, inr, ℕ, ◌<◌, ◌≤◌, List, [], ◌∷◌, length, Bool, true, false, ◌&&◌, nat_lt, Option, Some, None, refl, sym, ap, subst, arith, ltb-true, ◌↔◌}
use Rattle.std.proofs.lemmas.Bool.{or_cases}
use Rattle.bench_model.specs.Paths.{Path, is_path}
use Rattle.bench_model.specs.Log.{Kind, Event, link, is_fork_of, is_end, names_joined}
use Rattle.bench_model.specs.Log.Kind.{forks, ends}
use Rattle.bench_model.specs.Conflict.{HasAt, IsBefore}
use Rattle.bench_model.specs.Formed.{HasEnd, Formed, LinkAnywhere, Chain, one, more, IsBeforeAnywhere}
use Rattle.bench_model.proofs.PathFacts.{is_path_same}
use Rattle.bench_model.proofs.ScanFacts.{place_below}
use Rattle.bench_model.proofs.ConflictFacts.{place_one, before_rises}

-- ---- what the tests of a link say
fork_is : (k : Kind) (p : Path) → is_fork_of k p ≡ true → k ≡ forks p
fork_is (forks c) p h = ap forks (is_path_same c p h)
fork_is _ p h = absurd (cc)

end_is : (k : Kind) → is_end k ≡ true → k ≡ ends
end_is ends h = refl
end_is _ h = absurd (cc)

joined_is : (o : Option Path) (p : Path) → names_joined o p ≡ true → o ≡ Some p
joined_is None p h = absurd (cc)
joined_is (Some c) p h = ap Some (is_path_same c p h)

both_of : (x y : Bool) → (x && y) ≡ true → (x ≡ true) × (y ≡ true)
both_of true y e = (refl, e)
both_of false y e = absurd (cc)

by_order : (i j : ℕ) → (j < i → ⊥) → (i ≡ j → ⊥) → i < j
by_order i j h k = grind arith

module _ (log : List Event) (F : Formed log) where
  after_end : (i j : ℕ) (d e : Event) → HasAt log i d → HasAt log j e → d.kind ≡ ends → HasEnd log d.path j → i < j
  after_end i j d e a b k f = let n : i ≤ f.spot = F.end_last f.spot i f.event d f.stands a f.of_thread f.is_end in let m : f.spot < j = f.below in omega arith

  after_region : (i j : ℕ) (d e : Event) → HasAt log i d → HasAt log j e → d.region < e.region → i < j
  after_region i j d e a b n = by_order i j
      (λ m. let r : e.region ≤ d.region = F.regions_rise j i e d b a m in absurd (omega arith))
      (λ s. let r : d.region ≡ e.region = ap (λ (x : Event). x.region) (place_one log j d e (subst (λ z. HasAt log z d) s a) b) in absurd (omega arith))

  -- EACH LINK leads to a later event
  pub link_rises : (i j : ℕ) → LinkAnywhere log i j → i < j
  link_rises i j (d, e, a, b, l, way) =
      ⊎_elim (λ h. way (is_path_same d.path e.path h))
      (λ h. ⊎_elim (λ f. F.fork_first i j d e a b (fork_is d.kind e.path f))
      (λ g. ⊎_elim
      (λ k. let x = both_of (is_end d.kind) (names_joined e.joined d.path) k in
      after_end i j d e a b (end_is d.kind x.0) (F.join_after i j d e a b (joined_is e.joined d.path x.1)))
      (λ k. after_region i j d e a b (ltb-true d.region e.region k))
      (or_cases (is_end d.kind && names_joined e.joined d.path) (nat_lt d.region e.region) g))
      (or_cases (is_fork_of d.kind e.path) _ h))
      (or_cases (is_path d.path e.path) _ l)

-- a link from an earlier event to a later one is "before"
pub link_before : (log : List Event) (i j : ℕ) (d e : Event) → HasAt log i d → HasAt log j e → i < j → link d e ≡ true → IsBefore log i j
link_before [] i j d e a b n l = absurd a
link_before (f ∷ log) i j d e (inl (s, x)) (inl (t, y)) n l = absurd (omega arith)
link_before (f ∷ log) i j d e (inl (s, x)) (inr b) n l = let m : j < length log = place_below log j e b in absurd (omega arith)
link_before (f ∷ log) i j d e (inr a) (inl (t, y)) n l = inl (t, (i, d, a, subst (λ z. link d z ≡ true) y l, inl refl))
link_before (f ∷ log) i j d e (inr a) (inr b) n l = inr (link_before log i j d e a b n l)

before_within : (f : Event) (log : List Event) (i j : ℕ) → j < length log → IsBefore (f ∷ log) i j → IsBefore log i j
before_within f log i j n (inl (s, l)) = absurd (omega arith)
before_within f log i j n (inr h) = h

pub before_trans : (log : List Event) (i j k : ℕ) → IsBefore log i j → IsBefore log j k → IsBefore log i k
before_trans [] i j k h g = absurd h
before_trans (f ∷ log) i j k h (inl (s, (x, d, a, l, inl t))) =
    inl (s, (x, d, a, l, inr (before_within f log i x (place_below log x d a) (subst (λ z. IsBefore (f ∷ log) i z) t h))))
before_trans (f ∷ log) i j k h (inl (s, (x, d, a, l, inr w))) =
    let n : x < length log = place_below log x d a in
    let m : j < x = (before_rises log j x w).0 in
    inl (s, (x, d, a, l, inr (before_trans log i j x (before_within f log i j (omega arith) h) w)))
before_trans (f ∷ log) i j k h (inr g) =
    let m = before_rises log j k g in
    let n : j < k = m.0 in
    let b : k < length log = m.1 in
    inr (before_trans log i j k (before_within f log i j (omega arith) h) g)

chain_before : (log : List Event) → Formed log → (i j : ℕ) → Chain log i j → IsBefore log i j
chain_before log F i j (one _ _ (d, e, a, b, l, way)) = link_before log i j d e a b (link_rises log F i j (d, e, a, b, l, way)) l
chain_before log F i k (more _ j _ (d, e, a, b, l, way) c) =
    before_trans log i j k (link_before log i j d e a b (link_rises log F i j (d, e, a, b, l, way)) l) (chain_before log F j k c)

-- ---- and back
link_more : (f : Event) (log : List Event) (i j : ℕ) → LinkAnywhere log i j → LinkAnywhere (f ∷ log) i j
link_more f log i j (d, e, a, b, l, way) = (d, e, inr a, inr b, l, way)

chain_more : (f : Event) (log : List Event) (i j : ℕ) → Chain log i j → Chain (f ∷ log) i j
chain_more f log i j (one _ _ l) = one i j (link_more f log i j l)
chain_more f log i k (more _ j _ l c) = more i j k (link_more f log i j l) (chain_more f log j k c)

chain_then : (log : List Event) (i j k : ℕ) → Chain log i j → LinkAnywhere log j k → Chain log i k
chain_then log i j k (one _ _ l) m = more i j k l (one j k m)
chain_then log i j k (more _ x _ l c) m = more i x k l (chain_then log x j k c m)

before_chain : (log : List Event) (i j : ℕ) → IsBefore log i j → Chain log i j
before_chain [] i j h = absurd h
before_chain (e ∷ log) i j (inl (s, (x, d, a, l, way))) = go way (λ w. chain_more e log i x (before_chain log i x w))
  where
    last : LinkAnywhere (e ∷ log) x j
    last = (d, e, inr a, inl (s, refl), l, λ p. let n : x < length log = place_below log x d a in omega arith)

    go : ((i ≡ x) ⊎ IsBefore log i x) → (IsBefore log i x → Chain (e ∷ log) i x) → Chain (e ∷ log) i j
    go (inl t) so_far = subst (λ z. Chain (e ∷ log) z j) (sym t) (one x j last)
    go (inr w) so_far = chain_then (e ∷ log) i x j (so_far w) last
before_chain (e ∷ log) i j (inr h) = chain_more e log i j (before_chain log i j h)

-- "BEFORE" IS THE SAME with links in any direction, on formed logs
pub before_anywhere : (log : List Event) → Formed log → (i j : ℕ) → IsBeforeAnywhere log i j ↔ IsBefore log i j
before_anywhere log F i j = (λ h. chain_before log F i j h.1, λ h. ((before_rises log i j h).0, before_chain log i j h))
