-- The log of each permitted order is formed: what ties the log of a world to its threads.
use Rattle.std.proofs.Common.{◌≡◌, ◌⊎◌, ⊎_elim, inl, inr, ℕ, ◌<◌, ◌≤◌, [], ◌∷◌, ◌++◌, length, length-append, Bool, true, false, cond, Option, Some, None, option_map, is_some, refl, sym, ap, subst, ◌∙◌, arith, le_refl}
use Rattle.std.specs.FinMap as map
use Rattle.bench_model.specs.Paths.{Path, is_path, child}
use Rattle.bench_model.specs.Log.{Event}
use Rattle.bench_model.specs.Log.Kind.{forks, ends}
use Rattle.bench_model.specs.Conflict.{HasAt}
use Rattle.bench_model.specs.Formed.{HasFork, Formed}
use Rattle.bench_model.specs.World.{Model, ModelLaws, Move, Thread, World, Enabled, IsRunning, Possible, act, act_of, answer, wakes, newborn, self_after, is_there, woken, event_of, kind_of}
use Rattle.bench_model.specs.World.Move.{poke, peek, expect, fork, join, arrive, joinstep, spend, end}
use Rattle.bench_model.proofs.PathFacts.{is_path_refl, is_path_apart, same_path, below_itself, below_child, not_own_child, child_below, child_is, child_same, BelowChild, first, deeper, below_a_child}
use Rattle.bench_model.proofs.ThreadsFacts.{born_at, woken_at, get_after}
use Rattle.bench_model.proofs.Origins.{origin, self_region}
use Rattle.bench_model.proofs.StaysPossible.{no_lesser}
use Rattle.bench_model.proofs.PossibleActs.{Past, own, new, old, past_of, birth_of, self_grows}
use Rattle.bench_model.proofs.FormedFacts.{Ended, Fits, formed_more, formed_empty, more_fork, same_kind, same_join}

-- the event speaks of the path c: it is its thread's, or what it forks, or what it names as joined
pub data Speaks (d : Event) (c : Path) : Type 0 where
  by_thread : d.path ≡ c → Speaks d c
  by_fork : d.kind ≡ forks c → Speaks d c
  by_join : d.joined ≡ Some c → Speaks d c

module _ (M : Model) (L : ModelLaws M) where
  -- what ties the log to the threads
  pub record Tied (w : World M.Inner) : Type 0 where
    pub formed : Formed w.log
    -- a path that the log speaks of, below a thread that is there, has a number that this thread has used
    pub used : (i : ℕ) (d : Event) (c p : Path) (k : ℕ) (q : Path) (t : Thread M.Inner) → HasAt w.log i d → Speaks d c → c ≡ p ++ k ∷ q → map.get w.threads p ≡ Some t → k < length t.forked
    -- a joined child that is named is gone, and so is a thread whose end stands in the log
    pub gone : (i : ℕ) (d : Event) (c : Path) (t : Thread M.Inner) → HasAt w.log i d → d.joined ≡ Some c → map.get w.threads c ≡ Some t → ⊥
    pub ended : (i : ℕ) (d : Event) (t : Thread M.Inner) → HasAt w.log i d → d.kind ≡ ends → map.get w.threads d.path ≡ Some t → ⊥
    -- a thread of which the log has an event is there, or has its end in the log
    pub alive : (i : ℕ) (d : Event) → HasAt w.log i d → (is_some (map.get w.threads d.path) ≡ true) ⊎ Ended w.log d.path
    -- below a fork of the log each thread that is there was forked in the log
    pub forked : (i : ℕ) (d : Event) (c : Path) (k : ℕ) (q : Path) (t : Thread M.Inner) → HasAt w.log i d → d.kind ≡ forks c → map.get w.threads (c ++ k ∷ q) ≡ Some t → HasFork w.log (c ++ k ∷ q)
    -- an event has the region of its thread, and no greater one than a running thread
    pub region : (i : ℕ) (d : Event) (t : Thread M.Inner) → HasAt w.log i d → map.get w.threads d.path ≡ Some t → d.region ≡ t.region
    pub rises : (i : ℕ) (d : Event) (q : Path) (t : Thread M.Inner) → HasAt w.log i d → map.get w.threads q ≡ Some t → IsRunning t → d.region ≤ t.region

  pub tied_empty : (w : World M.Inner) → w.log ≡ [] → Tied w
  tied_empty w e = record {
    formed = subst Formed (sym e) formed_empty;
    used = λ i d c p k q t a s f g. absurd (none i d a);
    gone = λ i d c t a j g. none i d a;
    ended = λ i d t a k g. none i d a;
    alive = λ i d a. absurd (none i d a);
    forked = λ i d c k q t a f g. absurd (none i d a);
    region = λ i d t a g. absurd (none i d a);
    rises = λ i d q t a g r. absurd (none i d a);
  }
    where
      none : (i : ℕ) (d : Event) → HasAt w.log i d → ⊥
      none i d a = subst (λ l. HasAt l i d) e a

  -- ---- the new event
  forks_only : (a : Path) (t : Thread M.Inner) (m : Move M.Inner) (c : Path) → kind_of a t m ≡ forks c → c ≡ child a (length t.forked)
  forks_only a t (fork l r b i) c e = cc
  forks_only a t _ c e = absurd (cc)

  ends_only : (a : Path) (t : Thread M.Inner) (m : Move M.Inner) → kind_of a t m ≡ ends → m ≡ end
  ends_only a t end e = refl
  ends_only a t _ e = absurd (cc)

  module _ (w : World M.Inner) (P : Possible M w) (T : Tied w) (a : Path) (ta : Thread M.Inner) (ha : map.get w.threads a ≡ Some ta) (ra : IsRunning ta)
      (least : (q : Path) (u : Thread M.Inner) → map.get w.threads q ≡ Some u → IsRunning u → ta.region ≤ u.region) where
    e : Event
    e = event_of a ta (M.next ta.inner)

    -- no event of the log speaks of the child that comes next
    next_unspoken : (i : ℕ) (d : Event) (c : Path) (q : Path) → HasAt w.log i d → Speaks d c → c ≡ a ++ length ta.forked ∷ q → ⊥
    next_unspoken i d c q h s f = let n : length ta.forked < length ta.forked = T.used i d c a (length ta.forked) q ta h s f ha in absurd (omega arith)

    forked_is : (c : Path) → e.kind ≡ forks c → c ≡ a ++ length ta.forked ∷ []
    unfolding e
    forked_is c f = forks_only a ta (M.next ta.inner) c f ∙ child_is a (length ta.forked)

    joined_number : (o : Option ℕ) (c : Path) → option_map (λ k. child a k) o ≡ Some c → (k : ℕ) × (o ≡ Some k) × (c ≡ child a k)
    joined_number None c f = absurd (cc)
    joined_number (Some k) c f = (k, refl, cc)

    joined_child : (c : Path) → e.joined ≡ Some c → (k : ℕ) × (ta.joined ≡ Some k) × (c ≡ child a k)
    unfolding e
    joined_child c f = joined_number ta.joined c f

    ended_or : (d : Event) → map.get w.threads d.path ≡ None → (is_some (map.get w.threads d.path) ≡ true) ⊎ Ended w.log d.path → Ended w.log d.path
    ended_or d g (inl s) = absurd (let f : false ≡ true = ap is_some (sym g) ∙ s in cc)
    ended_or d g (inr f) = f

    fits : Fits w.log e
    unfolding e
    fits = record {
      forks_child = λ c f. (length ta.forked, forks_only a ta (M.next ta.inner) c f);
      fork_new = λ i d c h f g. next_unspoken i d c [] h (by_fork g) (forked_is c f);
      path_new = λ i d c h f g. next_unspoken i d c [] h (by_thread g) (forked_is c f);
      below_new = λ i d c k q h f g. next_unspoken i d d.path (k ∷ q) h (by_thread refl) (g ∙ ap (λ z. z ++ k ∷ q) (forks_only a ta (M.next ta.inner) c f) ∙ child_below a q (length ta.forked) k);
      alive = λ i d h p k. T.ended i d ta h k (ap (map.get w.threads) p ∙ ha);
      joins_child = λ c f. let j = joined_child c f in (j.0, j.2);
      joined_ended = λ i d h f. let j = joined_child d.path f in ended_or d (ap (map.get w.threads) j.2 ∙ P.joined a ta j.0 ha ra j.1) (T.alive i d h);
      not_joined = λ i d h f. T.gone i d a ta h f ha;
      forked = λ i d c k q h f p. subst (HasFork w.log) (sym p) (T.forked i d c k q ta h f (ap (map.get w.threads) (sym p) ∙ ha));
      one_region = λ i d h p. T.region i d ta h (ap (map.get w.threads) p ∙ ha);
      rises = λ i d h. T.rises i d a ta h ha ra;
    }

    -- ---- after the act
    Was : Path → Thread M.Inner → Type 0
    Was q u = Past M L w.threads a ta (M.next ta.inner) (answer M w.inputs w.registers (M.next ta.inner)) q u

    was : (q : Path) (u : Thread M.Inner) → map.get (act_of M w a (Some ta)).threads q ≡ Some u → Was q u
    unfolding Was
    was q u h = past_of M L w.threads a ta (M.next ta.inner) (answer M w.inputs w.registers (M.next ta.inner)) q u (origin M.Inner w.threads a ta (M.next ta.inner) (answer M w.inputs w.registers (M.next ta.inner)) q u h)

    longer : (t : Thread M.Inner) → self_after ta (M.next ta.inner) (answer M w.inputs w.registers (M.next ta.inner)) (is_there w.threads a (M.next ta.inner)) ≡ Some t → length ta.forked ≤ length t.forked
    longer t g = (self_grows M L ta t (M.next ta.inner) (answer M w.inputs w.registers (M.next ta.inner)) (is_there w.threads a (M.next ta.inner)) g).longer

    born_place : (q : Path) (u : Thread M.Inner) → newborn a ta (M.next ta.inner) ≡ Some (q, u) → q ≡ child a (length ta.forked)
    born_place q u g = (birth_of M L a q ta u (M.next ta.inner) g).place

    -- a fork adds one child
    fork_longer : (y : Move M.Inner) (c : Path) (t : Thread M.Inner) (n : ℕ) (b : Bool) → kind_of a ta y ≡ forks c → self_after ta y n b ≡ Some t → length ta.forked < length t.forked
    fork_longer (fork l r d i) c t n b f g =
        let s : t.forked ≡ ta.forked ++ r ∷ [] = ap (λ (o : Option (Thread M.Inner)). elim o [ None ↦ t.forked | Some z ↦ z.forked ]) (sym g) in
        omega (arith, ap length s, length-append ta.forked (r ∷ []))
    fork_longer _ c t n b f g = absurd (cc)

    -- p is above the thread that acts
    above : (p : Path) (k : ℕ) (q : Path) (t : Thread M.Inner) → Was p t → a ≡ p ++ k ∷ q → k < length t.forked
    unfolding Was
    above p k q t (own f g) s = absurd (below_itself a q k (ap (λ z. z ++ k ∷ q) (sym f) ∙ sym s))
    above p k q t (new g) s = absurd (below_child a q (length ta.forked) k (ap (λ z. z ++ k ∷ q) (sym (born_place p t g)) ∙ sym s))
    above p k q t (old n v g l o) s = let r : k < length v.forked = P.fresh p v k q ta g (ap (map.get w.threads) (sym s) ∙ ha) in omega (arith, ap length l.forked)

    -- p is above a child of the thread that acts
    above_child : (j : ℕ) (p : Path) (k : ℕ) (q : Path) (t : Thread M.Inner) → Was p t → (self_after ta (M.next ta.inner) (answer M w.inputs w.registers (M.next ta.inner)) (is_there w.threads a (M.next ta.inner)) ≡ Some t → j < length t.forked) →
        BelowChild p a q k j → k < length t.forked
    unfolding Was
    above_child j p k q t (own f g) h (first z y s) = subst (λ i. i < length t.forked) (sym s) (h g)
    above_child j p k q t (new g) h (first z y s) = absurd (not_own_child a (length ta.forked) (sym (born_place p t g) ∙ y))
    above_child j p k q t (old n v g l o) h (first z y s) = absurd (n y)
    above_child j p k q t f h (deeper r s) = above p k r t f s

    used_old : (i : ℕ) (d : Event) (c p : Path) (k : ℕ) (q : Path) (t : Thread M.Inner) → HasAt w.log i d → Speaks d c → c ≡ p ++ k ∷ q → Was p t → k < length t.forked
    unfolding Was
    used_old i d c p k q t h s f (own g r) =
        let n : k < length ta.forked = T.used i d c p k q ta h s f (ap (map.get w.threads) g ∙ ha) in
        let le : length ta.forked ≤ length t.forked = longer t r in omega arith
    used_old i d c p k q t h s f (new g) = absurd (next_unspoken i d c (k ∷ q) h s (f ∙ ap (λ z. z ++ k ∷ q) (born_place p t g) ∙ child_below a q (length ta.forked) k))
    used_old i d c p k q t h s f (old n v g l o) = let r : k < length v.forked = T.used i d c p k q v h s f g in omega (arith, ap length l.forked)

    used_new : (c p : Path) (k : ℕ) (q : Path) (t : Thread M.Inner) → Speaks e c → c ≡ p ++ k ∷ q → Was p t → k < length t.forked
    unfolding e
    used_new c p k q t (by_thread s) f g = above p k q t g (s ∙ f)
    used_new c p k q t (by_fork s) f g =
        above_child (length ta.forked) p k q t g (fork_longer (M.next ta.inner) c t (answer M w.inputs w.registers (M.next ta.inner)) (is_there w.threads a (M.next ta.inner)) s)
        (below_a_child p a q k (length ta.forked) (sym f ∙ forks_only a ta (M.next ta.inner) c s))
    used_new c p k q t (by_join s) f g =
        let j = joined_child c s in
        let n : j.0 < length ta.forked = P.used a ta j.0 ha j.1 in
        above_child j.0 p k q t g (λ r. let le : length ta.forked ≤ length t.forked = longer t r in omega arith) (below_a_child p a q k j.0 (sym f ∙ j.2))

    used_after : (i : ℕ) (d : Event) (c p : Path) (k : ℕ) (q : Path) (t : Thread M.Inner) → HasAt (e ∷ w.log) i d → Speaks d c → c ≡ p ++ k ∷ q → Was p t → k < length t.forked
    used_after i d c p k q t (inl (_, y)) s f g = used_new c p k q t (subst (λ z. Speaks z c) y s) f g
    used_after i d c p k q t (inr h) s f g = used_old i d c p k q t h s f g

    gone_after : (i : ℕ) (d : Event) (c : Path) (t : Thread M.Inner) → HasAt (e ∷ w.log) i d → d.joined ≡ Some c → Was c t → ⊥
    unfolding Was
    gone_after i d c t (inr h) f (own g r) = T.gone i d c ta h f (ap (map.get w.threads) g ∙ ha)
    gone_after i d c t (inr h) f (new g) = next_unspoken i d c [] h (by_join f) (born_place c t g ∙ child_is a (length ta.forked))
    gone_after i d c t (inr h) f (old n v g l o) = T.gone i d c v h f g
    gone_after i d c t (inl (_, y)) f (own g r) = let j = joined_child c (same_join d e (Some c) y f) in not_own_child a j.0 (sym j.2 ∙ g)
    gone_after i d c t (inl (_, y)) f (new g) =
        let j = joined_child c (same_join d e (Some c) y f) in
        let n : j.0 < length ta.forked = P.used a ta j.0 ha j.1 in
        let s : j.0 ≡ length ta.forked = (child_same a a j.0 (length ta.forked) (sym j.2 ∙ born_place c t g)).1 in
        absurd (omega arith)
    gone_after i d c t (inl (_, y)) f (old n v g l o) =
        let j = joined_child c (same_join d e (Some c) y f) in
        let s : None ≡ Some v = sym (P.joined a ta j.0 ha ra j.1) ∙ ap (map.get w.threads) (sym j.2) ∙ g in absurd (cc)

    no_self : (t : Thread M.Inner) → M.next ta.inner ≡ end → self_after ta (M.next ta.inner) (answer M w.inputs w.registers (M.next ta.inner)) (is_there w.threads a (M.next ta.inner)) ≡ Some t → ⊥
    no_self t f g = absurd (let h : None ≡ Some t = subst (λ y. self_after ta y (answer M w.inputs w.registers y) (is_there w.threads a y) ≡ Some t) f g in cc)

    no_birth : (q : Path) (t : Thread M.Inner) → M.next ta.inner ≡ end → newborn a ta (M.next ta.inner) ≡ Some (q, t) → ⊥
    no_birth q t f g = absurd (let h : None ≡ Some (q, t) = subst (λ y. newborn a ta y ≡ Some (q, t)) f g in cc)

    ended_after : (i : ℕ) (d : Event) (t : Thread M.Inner) → HasAt (e ∷ w.log) i d → d.kind ≡ ends → Was d.path t → ⊥
    unfolding Was e
    ended_after i d t (inr h) f (own g r) = T.ended i d ta h f (ap (map.get w.threads) g ∙ ha)
    ended_after i d t (inr h) f (new g) = next_unspoken i d d.path [] h (by_thread refl) (born_place d.path t g ∙ child_is a (length ta.forked))
    ended_after i d t (inr h) f (old n v g l o) = T.ended i d v h f g
    ended_after i d t (inl (_, y)) f (own g r) = no_self t (ends_only a ta (M.next ta.inner) (same_kind d (event_of a ta (M.next ta.inner)) ends y f)) r
    ended_after i d t (inl (_, y)) f (new g) = no_birth d.path t (ends_only a ta (M.next ta.inner) (same_kind d (event_of a ta (M.next ta.inner)) ends y f)) g
    ended_after i d t (inl (_, y)) f (old n v g l o) = n (ap (λ (z : Event). z.path) y)

    some_woken : (k : ℕ) (o : Option (Thread M.Inner)) → is_some (option_map (woken k) o) ≡ is_some o
    some_woken k None = refl
    some_woken k (Some t) = refl

    -- another thread that is there stays there
    some_at : (n : Option (Path × Thread M.Inner)) (z : Option (Path × ℕ)) (r : Path) (o : Option (Thread M.Inner)) → is_some o ≡ true → is_some (born_at n r (woken_at z r o)) ≡ true
    some_at n z r o h = in_born n (woken_at z r o) (in_woken z)
      where
        in_woken : (z : Option (Path × ℕ)) → is_some (woken_at z r o) ≡ true
        in_woken None = h
        in_woken (Some (q, k)) = go (is_path r q)
          where
            go : (b : Bool) → is_some (cond b (option_map (woken k) o) o) ≡ true
            go true = some_woken k o ∙ h
            go false = h

        in_born : (n : Option (Path × Thread M.Inner)) (v : Option (Thread M.Inner)) → is_some v ≡ true → is_some (born_at n r v) ≡ true
        in_born None v k = k
        in_born (Some (c, u)) v k = go (is_path r c)
          where
            go : (b : Bool) → is_some (cond b (Some u) v) ≡ true
            go true = refl
            go false = k

    stays_there : (q : Path) → (q ≡ a → ⊥) → is_some (map.get w.threads q) ≡ true → is_some (map.get (act_of M w a (Some ta)).threads q) ≡ true
    stays_there q n h =
        ap is_some (get_after M.Inner w.threads a ta (M.next ta.inner) (answer M w.inputs w.registers (M.next ta.inner)) q
        ∙ ap (λ b. cond b (self_after ta (M.next ta.inner) (answer M w.inputs w.registers (M.next ta.inner)) (is_there w.threads a (M.next ta.inner))) (born_at (newborn a ta (M.next ta.inner)) q (woken_at (wakes a (M.next ta.inner)) q (map.get w.threads q)))) (is_path_apart q a n))
        ∙ some_at (newborn a ta (M.next ta.inner)) (wakes a (M.next ta.inner)) q (map.get w.threads q) h

    -- the thread that acts stays there, or its event is its end
    self_or_end : (y : Move M.Inner) (n : ℕ) (b : Bool) → (is_some (self_after ta y n b) ≡ true) ⊎ (kind_of a ta y ≡ ends)
    self_or_end end n b = inr refl
    self_or_end (poke l p v i) n b = inl refl
    self_or_end (peek l s c i) n b = inl refl
    self_or_end (expect l s v i) n b = inl refl
    self_or_end (fork l r c i) n b = inl refl
    self_or_end (join l k i) n b = inl refl
    self_or_end (arrive l k i) n b = inl refl
    self_or_end (joinstep l k i) n b = inl refl
    self_or_end (spend l) n b = inl refl

    self_alive : (q : Path) → q ≡ a → (is_some (map.get (act_of M w a (Some ta)).threads q) ≡ true) ⊎ Ended (e ∷ w.log) q
    unfolding e
    self_alive q s =
        ⊎_elim
        (λ h. inl (ap is_some (get_after M.Inner w.threads a ta (M.next ta.inner) (answer M w.inputs w.registers (M.next ta.inner)) q
        ∙ ap (λ b. cond b (self_after ta (M.next ta.inner) (answer M w.inputs w.registers (M.next ta.inner)) (is_there w.threads a (M.next ta.inner))) (born_at (newborn a ta (M.next ta.inner)) q (woken_at (wakes a (M.next ta.inner)) q (map.get w.threads q)))) (ap (λ z. is_path z a) s ∙ is_path_refl a)) ∙ h))
        (λ h. inr (record { event = event_of a ta (M.next ta.inner); spot = length w.log; stands = inl (refl, refl); of_thread = sym s; is_end = h }))
        (self_or_end (M.next ta.inner) (answer M w.inputs w.registers (M.next ta.inner)) (is_there w.threads a (M.next ta.inner)))

    more_ended : (c : Path) → Ended w.log c → Ended (e ∷ w.log) c
    more_ended c f = record { event = f.event; spot = f.spot; stands = inr f.stands; of_thread = f.of_thread; is_end = f.is_end }

    alive_after : (i : ℕ) (d : Event) → HasAt (e ∷ w.log) i d → (is_some (map.get (act_of M w a (Some ta)).threads d.path) ≡ true) ⊎ Ended (e ∷ w.log) d.path
    unfolding e
    alive_after i d (inl (_, y)) = self_alive d.path (ap (λ (z : Event). z.path) y)
    alive_after i d (inr h) =
        ⊎_elim
        (λ s. self_alive d.path s)
        (λ n. ⊎_elim (λ s. inl (stays_there d.path n s)) (λ f. inr (more_ended d.path f)) (T.alive i d h))
        (same_path d.path a)

    birth_forks : (y : Move M.Inner) (q : Path) (t : Thread M.Inner) → newborn a ta y ≡ Some (q, t) → kind_of a ta y ≡ forks q
    birth_forks (fork l r c i) q t f = ap (λ (o : Option (Path × Thread M.Inner)). elim o [ None ↦ forks q | Some z ↦ forks z.0 ]) f
    birth_forks _ q t f = absurd (cc)

    forked_after : (i : ℕ) (d : Event) (c : Path) (k : ℕ) (q : Path) (t : Thread M.Inner) → HasAt (e ∷ w.log) i d → d.kind ≡ forks c → Was (c ++ k ∷ q) t → HasFork (e ∷ w.log) (c ++ k ∷ q)
    unfolding Was e
    forked_after i d c k q t (inr h) f (own g r) = more_fork (event_of a ta (M.next ta.inner)) w.log (c ++ k ∷ q) (T.forked i d c k q ta h f (ap (map.get w.threads) g ∙ ha))
    forked_after i d c k q t (inr h) f (new g) = record { event = event_of a ta (M.next ta.inner); spot = length w.log; stands = inl (refl, refl); is_fork = birth_forks (M.next ta.inner) (c ++ k ∷ q) t g }
    forked_after i d c k q t (inr h) f (old n v g l o) = more_fork (event_of a ta (M.next ta.inner)) w.log (c ++ k ∷ q) (T.forked i d c k q v h f g)
    forked_after i d c k q t (inl (_, y)) f past = absurd (go past (forks_only a ta (M.next ta.inner) c (same_kind d (event_of a ta (M.next ta.inner)) (forks c) y f)))
      where
        go : Past M L w.threads a ta (M.next ta.inner) (answer M w.inputs w.registers (M.next ta.inner)) (c ++ k ∷ q) t → c ≡ child a (length ta.forked) → ⊥
        go (own g r) s = below_child a q (length ta.forked) k (ap (λ z. z ++ k ∷ q) (sym s) ∙ g)
        go (new g) s = below_itself c q k (born_place (c ++ k ∷ q) t g ∙ sym s)
        go (old n v g l o) s =
            let r : length ta.forked < length ta.forked = P.fresh a ta (length ta.forked) (k ∷ q) v ha (ap (map.get w.threads) (sym (child_below a q (length ta.forked) k) ∙ ap (λ z. z ++ k ∷ q) (sym s)) ∙ g) in
            absurd (omega arith)

    self_same : (t : Thread M.Inner) → self_after ta (M.next ta.inner) (answer M w.inputs w.registers (M.next ta.inner)) (is_there w.threads a (M.next ta.inner)) ≡ Some t → t.region ≡ ta.region
    self_same t r = self_region M.Inner ta t (M.next ta.inner) (answer M w.inputs w.registers (M.next ta.inner)) (is_there w.threads a (M.next ta.inner)) r

    region_after : (i : ℕ) (d : Event) (t : Thread M.Inner) → HasAt (e ∷ w.log) i d → Was d.path t → d.region ≡ t.region
    unfolding Was e
    region_after i d t (inr h) (own g r) = T.region i d ta h (ap (map.get w.threads) g ∙ ha) ∙ sym (self_same t r)
    region_after i d t (inr h) (new g) = absurd (next_unspoken i d d.path [] h (by_thread refl) (born_place d.path t g ∙ child_is a (length ta.forked)))
    region_after i d t (inr h) (old n v g l o) = T.region i d v h g ∙ sym l.region
    region_after i d t (inl (_, y)) (own g r) = ap (λ (z : Event). z.region) y ∙ sym (self_same t r)
    region_after i d t (inl (_, y)) (new g) = absurd (not_own_child a (length ta.forked) (sym (born_place d.path t g) ∙ ap (λ (z : Event). z.path) y))
    region_after i d t (inl (_, y)) (old n v g l o) = absurd (n (ap (λ (z : Event). z.path) y))

    rises_after : (i : ℕ) (d : Event) (q : Path) (t : Thread M.Inner) → HasAt (e ∷ w.log) i d → map.get (act_of M w a (Some ta)).threads q ≡ Some t → IsRunning t → d.region ≤ t.region
    unfolding e
    rises_after i d q t (inr h) g r =
        no_lesser M L w P a ta ha d.region (T.rises i d a ta h ha ra) (λ p u f s. T.rises i d p u h f s) (answer M w.inputs w.registers (M.next ta.inner)) q t
        (origin M.Inner w.threads a ta (M.next ta.inner) (answer M w.inputs w.registers (M.next ta.inner)) q t g) r
    rises_after i d q t (inl (_, y)) g r =
        subst (λ (z : Event). z.region ≤ t.region) (sym y)
        (no_lesser M L w P a ta ha ta.region (le_refl ta.region) least (answer M w.inputs w.registers (M.next ta.inner)) q t
        (origin M.Inner w.threads a ta (M.next ta.inner) (answer M w.inputs w.registers (M.next ta.inner)) q t g) r)

    -- THE LOG STAYS TIED to the threads
    tied_after : Tied (act_of M w a (Some ta))
    unfolding e
    tied_after = record {
      formed = formed_more w.log (event_of a ta (M.next ta.inner)) T.formed fits;
      used = λ i d c p k q t h s f g. used_after i d c p k q t h s f (was p t g);
      gone = λ i d c t h f g. gone_after i d c t h f (was c t g);
      ended = λ i d t h f g. ended_after i d t h f (was d.path t g);
      alive = λ i d h. alive_after i d h;
      forked = λ i d c k q t h f g. forked_after i d c k q t h f (was (c ++ k ∷ q) t g);
      region = λ i d t h g. region_after i d t h (was d.path t g);
      rises = λ i d q t h g r. rises_after i d q t h g r;
    }

  pub tied_act : (w : World M.Inner) (p : Path) → Possible M w → Tied w → Enabled w p → Tied (act M w p)
  tied_act w p P T e = subst Tied (sym (ap (act_of M w p) e.here)) (tied_after w P T p e.thread e.here e.runs e.least)
