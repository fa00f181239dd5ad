-- A formed log stays formed with one event more that fits it.
use Rattle.std.proofs.Common.{◌≡◌, inl, inr, ℕ, ◌<◌, ◌≤◌, List, [], ◌∷◌, ◌++◌, length, Option, Some, refl, sym, ap, subst, ◌∙◌, arith}
use Rattle.bench_model.specs.Paths.{Path, child}
use Rattle.bench_model.specs.Log.{Kind, Event}
use Rattle.bench_model.specs.Log.Kind.{forks, ends}
use Rattle.bench_model.specs.Conflict.{HasAt}
use Rattle.bench_model.specs.Formed.{HasFork, HasEnd, Formed}
use Rattle.bench_model.proofs.PathFacts.{below_child, not_own_child}
use Rattle.bench_model.proofs.ScanFacts.{place_below}

-- the end of the thread c stands in the log
pub record Ended (log : List Event) (c : Path) : Type 0 where
  pub event : Event
  pub spot : ℕ
  pub stands : HasAt log spot event
  pub of_thread : event.path ≡ c
  pub is_end : event.kind ≡ ends

-- what the new event e has to have, over the log before it
pub record Fits (log : List Event) (e : Event) : Type 0 where
  pub forks_child : (c : Path) → e.kind ≡ forks c → (k : ℕ) × (c ≡ child e.path k)
  -- what it forks is new
  pub fork_new : (i : ℕ) (d : Event) (c : Path) → HasAt log i d → e.kind ≡ forks c → d.kind ≡ forks c → ⊥
  pub path_new : (i : ℕ) (d : Event) (c : Path) → HasAt log i d → e.kind ≡ forks c → d.path ≡ c → ⊥
  pub below_new : (i : ℕ) (d : Event) (c : Path) (k : ℕ) (q : Path) → HasAt log i d → e.kind ≡ forks c → d.path ≡ c ++ k ∷ q → ⊥
  -- its thread has not ended
  pub alive : (i : ℕ) (d : Event) → HasAt log i d → d.path ≡ e.path → d.kind ≡ ends → ⊥
  -- what it names as joined has ended, and nobody has named its thread as joined
  pub joins_child : (c : Path) → e.joined ≡ Some c → (k : ℕ) × (c ≡ child e.path k)
  pub joined_ended : (i : ℕ) (d : Event) → HasAt log i d → e.joined ≡ Some d.path → Ended log d.path
  pub not_joined : (i : ℕ) (d : Event) → HasAt log i d → d.joined ≡ Some e.path → ⊥
  -- its thread was forked after a fork above it
  pub forked : (i : ℕ) (d : Event) (c : Path) (k : ℕ) (q : Path) → HasAt log i d → d.kind ≡ forks c → e.path ≡ c ++ k ∷ q → HasFork log e.path
  pub one_region : (i : ℕ) (d : Event) → HasAt log i d → d.path ≡ e.path → d.region ≡ e.region
  pub rises : (i : ℕ) (d : Event) → HasAt log i d → d.region ≤ e.region

pub more_fork : (e : Event) (log : List Event) (c : Path) → HasFork log c → HasFork (e ∷ log) c
more_fork e log c f = record { event = f.event; spot = f.spot; stands = inr f.stands; is_fork = f.is_fork }

more_end : (e : Event) (log : List Event) (c : Path) (j : ℕ) → HasEnd log c j → HasEnd (e ∷ log) c j
more_end e log c j f = record { event = f.event; spot = f.spot; stands = inr f.stands; of_thread = f.of_thread; is_end = f.is_end; below = f.below }

end_before : (e : Event) (log : List Event) (c : Path) (j : ℕ) → j ≡ length log → Ended log c → HasEnd (e ∷ log) c j
end_before e log c j s f = record { event = f.event; spot = f.spot; stands = inr f.stands; of_thread = f.of_thread; is_end = f.is_end; below = subst (λ z. f.spot < z) (sym s) (place_below log f.spot f.event f.stands) }

pub same_kind : (d e : Event) (k : Kind) → d ≡ e → d.kind ≡ k → e.kind ≡ k
same_kind d e k s h = ap (λ (x : Event). x.kind) (sym s) ∙ h

pub same_thread : (d e : Event) (c : Path) → d ≡ e → d.path ≡ c → e.path ≡ c
same_thread d e c s h = ap (λ (x : Event). x.path) (sym s) ∙ h

pub same_join : (d e : Event) (o : Option Path) → d ≡ e → d.joined ≡ o → e.joined ≡ o
same_join d e o s h = ap (λ (x : Event). x.joined) (sym s) ∙ h

module _ (log : List Event) (e : Event) (F : Formed log) (N : Fits log e) where
  -- the thread of the new event is none that it forks
  not_own : (c : Path) → e.kind ≡ forks c → e.path ≡ c → ⊥
  not_own c h s = let f = N.forks_child c h in not_own_child e.path f.0 (sym f.1 ∙ sym s)

  forks_child : (i : ℕ) (d : Event) (c : Path) → HasAt (e ∷ log) i d → d.kind ≡ forks c → (k : ℕ) × (c ≡ child d.path k)
  forks_child i d c (inl (_, s)) h = subst (λ (x : Event). (k : ℕ) × (c ≡ child x.path k)) (sym s) (N.forks_child c (same_kind d e (forks c) s h))
  forks_child i d c (inr a) h = F.forks_child i d c a h

  one_fork : (i j : ℕ) (d f : Event) (c : Path) → HasAt (e ∷ log) i d → HasAt (e ∷ log) j f → d.kind ≡ forks c → f.kind ≡ forks c → i ≡ j
  one_fork i j d f c (inl (s, _)) (inl (t, _)) h k = s ∙ sym t
  one_fork i j d f c (inl (_, s)) (inr b) h k = absurd (N.fork_new j f c b (same_kind d e (forks c) s h) k)
  one_fork i j d f c (inr a) (inl (_, t)) h k = absurd (N.fork_new i d c a (same_kind f e (forks c) t k) h)
  one_fork i j d f c (inr a) (inr b) h k = F.one_fork i j d f c a b h k

  fork_first : (i j : ℕ) (d f : Event) → HasAt (e ∷ log) i d → HasAt (e ∷ log) j f → d.kind ≡ forks f.path → i < j
  fork_first i j d f (inl (_, s)) (inl (_, t)) h = absurd (not_own f.path (same_kind d e (forks f.path) s h) (same_thread f e f.path t refl))
  fork_first i j d f (inl (_, s)) (inr b) h = absurd (N.path_new j f f.path b (same_kind d e (forks f.path) s h) refl)
  fork_first i j d f (inr a) (inl (t, _)) h = let n : i < length log = place_below log i d a in omega arith
  fork_first i j d f (inr a) (inr b) h = F.fork_first i j d f a b h

  end_last : (i j : ℕ) (d f : Event) → HasAt (e ∷ log) i d → HasAt (e ∷ log) j f → d.path ≡ f.path → d.kind ≡ ends → j ≤ i
  end_last i j d f (inl (s, _)) (inl (t, _)) p h = omega arith
  end_last i j d f (inl (s, _)) (inr b) p h = let n : j < length log = place_below log j f b in omega arith
  end_last i j d f (inr a) (inl (_, t)) p h = absurd (N.alive i d a (p ∙ ap (λ (x : Event). x.path) t) h)
  end_last i j d f (inr a) (inr b) p h = F.end_last i j d f a b p h

  joins_child : (j : ℕ) (f : Event) (c : Path) → HasAt (e ∷ log) j f → f.joined ≡ Some c → (k : ℕ) × (c ≡ child f.path k)
  joins_child j f c (inl (_, s)) h = subst (λ (x : Event). (k : ℕ) × (c ≡ child x.path k)) (sym s) (N.joins_child c (same_join f e (Some c) s h))
  joins_child j f c (inr a) h = F.joins_child j f c a h

  join_after : (i j : ℕ) (d f : Event) → HasAt (e ∷ log) i d → HasAt (e ∷ log) j f → f.joined ≡ Some d.path → HasEnd (e ∷ log) d.path j
  join_after i j d f (inl (_, s)) (inl (_, t)) h =
      let c = N.joins_child d.path (same_join f e (Some d.path) t h) in
      absurd (not_own_child e.path c.0 (sym c.1 ∙ ap (λ (x : Event). x.path) s))
  join_after i j d f (inl (_, s)) (inr b) h = absurd (N.not_joined j f b (h ∙ ap (λ (x : Event). Some x.path) s))
  join_after i j d f (inr a) (inl (t, u)) h = end_before e log d.path j t (N.joined_ended i d a (same_join f e (Some d.path) u h))
  join_after i j d f (inr a) (inr b) h = more_end e log d.path j (F.join_after i j d f a b h)

  fork_below : (i j : ℕ) (d f : Event) (c : Path) (k : ℕ) (q : Path) → HasAt (e ∷ log) i d → HasAt (e ∷ log) j f → d.kind ≡ forks c → f.path ≡ c ++ k ∷ q → HasFork (e ∷ log) f.path
  fork_below i j d f c k q (inl (_, s)) (inl (_, t)) h p =
      let g = N.forks_child c (same_kind d e (forks c) s h) in
      absurd (below_child e.path q g.0 k (ap (λ z. z ++ k ∷ q) (sym g.1) ∙ sym p ∙ ap (λ (x : Event). x.path) t))
  fork_below i j d f c k q (inl (_, s)) (inr b) h p = absurd (N.below_new j f c k q b (same_kind d e (forks c) s h) p)
  fork_below i j d f c k q (inr a) (inl (_, t)) h p =
      subst (λ (x : Event). HasFork (e ∷ log) x.path) (sym t) (more_fork e log e.path (N.forked i d c k q a h (same_thread f e (c ++ k ∷ q) t p)))
  fork_below i j d f c k q (inr a) (inr b) h p = more_fork e log f.path (F.fork_below i j d f c k q a b h p)

  one_region : (i j : ℕ) (d f : Event) → HasAt (e ∷ log) i d → HasAt (e ∷ log) j f → d.path ≡ f.path → d.region ≡ f.region
  one_region i j d f (inl (_, s)) (inl (_, t)) p = ap (λ (x : Event). x.region) (s ∙ sym t)
  one_region i j d f (inl (_, s)) (inr b) p = ap (λ (x : Event). x.region) s ∙ sym (N.one_region j f b (sym p ∙ ap (λ (x : Event). x.path) s))
  one_region i j d f (inr a) (inl (_, t)) p = N.one_region i d a (p ∙ ap (λ (x : Event). x.path) t) ∙ ap (λ (x : Event). x.region) (sym t)
  one_region i j d f (inr a) (inr b) p = F.one_region i j d f a b p

  regions_rise : (i j : ℕ) (d f : Event) → HasAt (e ∷ log) i d → HasAt (e ∷ log) j f → i < j → d.region ≤ f.region
  regions_rise i j d f (inl (s, _)) (inl (t, _)) n = absurd (omega arith)
  regions_rise i j d f (inl (s, _)) (inr b) n = let m : j < length log = place_below log j f b in absurd (omega arith)
  regions_rise i j d f (inr a) (inl (_, t)) n = subst (λ (x : Event). d.region ≤ x.region) (sym t) (N.rises i d a)
  regions_rise i j d f (inr a) (inr b) n = F.regions_rise i j d f a b n

  -- A FORMED LOG stays formed
  pub formed_more : Formed (e ∷ log)
  formed_more = record {
    forks_child = forks_child;
    one_fork = one_fork;
    fork_first = fork_first;
    end_last = end_last;
    joins_child = joins_child;
    join_after = join_after;
    fork_below = fork_below;
    one_region = one_region;
    regions_rise = regions_rise;
  }

pub formed_empty : Formed []
formed_empty = record {
  forks_child = λ i d c a h. absurd a;
  one_fork = λ i j d f c a b h k. absurd a;
  fork_first = λ i j d f a b h. absurd a;
  end_last = λ i j d f a b p h. absurd a;
  joins_child = λ j f c a h. absurd a;
  join_after = λ i j d f a b h. absurd a;
  fork_below = λ i j d f c k q a b h p. absurd a;
  one_region = λ i j d f a b p. absurd a;
  regions_rise = λ i j d f a b n. absurd a;
}
