-- A climb leads from one event to another exactly where a chain of links does.
use Rattle.std.proofs.Common.{◌≡◌, ◌⊎◌, ⊎_elim, inl, inr, ℕ, zero, suc, ◌<◌, ◌≤◌, List, [], ◌∷◌, ◌++◌, length, true, Option, Some, refl, sym, ap, subst, ◌∙◌, arith, ◌↔◌, append_assoc, length-append}
use Rattle.std.proofs.lemmas.List.{append-nil}
use Rattle.bench_model.specs.Paths.{Path, child}
use Rattle.bench_model.specs.Log.{Event, link}
use Rattle.bench_model.specs.Log.Kind.{forks}
use Rattle.bench_model.specs.Conflict.{HasAt, IsBefore}
use Rattle.bench_model.specs.Formed.{HasFork, HasEnd, Formed, Chain, one, more}
use Rattle.bench_model.proofs.PathFacts.{child_is, child_same, below_child, not_own_child, BelowChild, first, deeper, below_a_child}
use Rattle.bench_model.proofs.ConflictFacts.{place_one}
use Rattle.bench_model.proofs.FormedBefore.{link_rises, link_before, before_trans, before_anywhere}
use Rattle.order_rel.specs.Climbing.{PlacesOf, Climbs, arrived, down, up}
use Rattle.order_rel.proofs.LinkFacts.{Linked, same_thread, by_fork, by_end, by_region, linked, link_thread, link_fork, link_end, link_region}

-- ---- paths
longer : (p s r : Path) (n : ℕ) → r ≡ p ++ s → child r n ≡ p ++ (s ++ n ∷ [])
longer p s r n e = child_is r n ∙ ap (λ z. z ++ n ∷ []) e ∙ append_assoc p s (n ∷ [])

child_longer : (p q : Path) (k : ℕ) → child p k ++ q ≡ p ++ k ∷ q
child_longer p q k = ap (λ z. z ++ q) (child_is p k) ∙ append_assoc p (k ∷ []) q

child_length : (p : Path) (k : ℕ) → length (child p k) ≡ suc (length p)
child_length p k = ap length (child_is p k) ∙ length-append p (k ∷ []) ∙ omega arith

not_above_parent : (q t : Path) (n : ℕ) → q ≡ child q n ++ t → ⊥
not_above_parent q [] n e = not_own_child q n (sym (append-nil (child q n)) ∙ sym e)
not_above_parent q (m ∷ t) n e = below_child q t n m (sym e)

-- what is above a child is the child, or is above its parent
not_above_child : (p r : Path) (n : ℕ) → (p ≡ child r n → ⊥) → ((s : Path) → r ≡ p ++ s → ⊥) → (s : Path) → child r n ≡ p ++ s → ⊥
not_above_child p r n other apart [] e = other (sym (append-nil p) ∙ sym e)
not_above_child p r n other apart (m ∷ s) e = go (below_a_child p r s m n (sym e))
  where
    go : BelowChild p r s m n → ⊥
    go (first _ t _) = apart [] (sym t ∙ sym (append-nil p))
    go (deeper u t) = apart (m ∷ u) t

up_to : (x j : ℕ) → x ≤ j → (x ≡ j) ⊎ (x < j)
up_to x j n = grind arith

module _ (log : List Event) (F : Formed log) where
  -- x is j, or before it
  abbrev pub Leads : ℕ → ℕ → Type 0
  Leads x j = (x ≡ j) ⊎ IsBefore log x j

  then_before : (x y j : ℕ) → Leads x y → IsBefore log y j → IsBefore log x j
  then_before x y j (inl t) b = subst (λ z. IsBefore log z j) (sym t) b
  then_before x y j (inr a) b = before_trans log x y j a b

  before_then : (x y j : ℕ) → IsBefore log x y → Leads y j → IsBefore log x j
  before_then x y j a (inl t) = subst (λ z. IsBefore log x z) t a
  before_then x y j a (inr b) = before_trans log x y j a b

  thread_leads : (x j : ℕ) (a e : Event) → HasAt log x a → HasAt log j e → a.path ≡ e.path → x ≤ j → Leads x j
  thread_leads x j a e ha he s n = ⊎_elim (λ t. inl t) (λ m. inr (link_before log x j a e ha he m (link_thread a e s))) (up_to x j n)

  fork_before : (f j : ℕ) (d e : Event) → HasAt log f d → HasAt log j e → d.kind ≡ forks e.path → IsBefore log f j
  fork_before f j d e hd he h = link_before log f j d e hd he (F.fork_first f j d e hd he h) (link_fork d e h)

  -- the fork of a thread leads to all events of the thread and of those below it
  fork_leads : (n f j : ℕ) (d e : Event) (c s : Path) → length e.path ≤ n → HasAt log f d → HasAt log j e → d.kind ≡ forks c → e.path ≡ c ++ s → IsBefore log f j
  fork_leads n f j d e c [] le hd he h p = fork_before f j d e hd he (h ∙ ap forks (sym (append-nil c) ∙ sym p))
  fork_leads zero f j d e c (k ∷ q) le hd he h p = absurd (let m : length e.path ≡ length (c ++ k ∷ q) = ap length p in omega (arith, m, length-append c (k ∷ q)))
  fork_leads (suc n) f j d e c (k ∷ q) le hd he h p = go (F.fork_below f j d e c k q hd he h p) (λ g t b r hg s. fork_leads n f t d g c r b hd hg h s)
    where
      go : HasFork log e.path → ((g : Event) (t : ℕ) → length g.path ≤ n → (r : Path) → HasAt log t g → g.path ≡ c ++ r → IsBefore log f t) → IsBefore log f j
      go g ih = before_trans log f g.spot j (way (below_a_child c g.event.path q k m.0 (sym p ∙ m.1))) (fork_before g.spot j g.event e g.stands he g.is_fork)
        where
          m : (m : ℕ) × (e.path ≡ child g.event.path m)
          m = F.forks_child g.spot g.event e.path g.stands g.is_fork

          shorter : length g.event.path ≤ n
          shorter = let l : length e.path ≡ length (child g.event.path m.0) = ap length m.1 in omega (arith, l, child_length g.event.path m.0)

          way : BelowChild c g.event.path q k m.0 → IsBefore log f g.spot
          way (first _ s _) = ih g.event g.spot shorter [] g.stands (sym s ∙ sym (append-nil c))
          way (deeper r s) = ih g.event g.spot shorter (k ∷ r) g.stands s

  -- what is of a thread leads to each event that names the thread as joined
  join_leads : (x y : ℕ) (a b : Event) → HasAt log x a → HasAt log y b → b.joined ≡ Some a.path → IsBefore log x y
  join_leads x y a b ha hb j =
      let g : HasEnd log a.path y = F.join_after x y a b ha hb j in
      let m : x ≤ g.spot = F.end_last g.spot x g.event a g.stands ha g.of_thread g.is_end in
      then_before x g.spot y
      (thread_leads x g.spot a g.event ha g.stands (sym g.of_thread) m)
      (link_before log g.spot y g.event b g.stands hb g.below (link_end g.event b g.is_end (j ∙ ap Some (sym g.of_thread))))

  -- events of different regions are ordered as they stand
  pub region_leads : (i j : ℕ) (d e : Event) → HasAt log i d → HasAt log j e → i < j → (d.region ≡ e.region → ⊥) → IsBefore log i j
  region_leads i j d e hd he n ne = link_before log i j d e hd he n (link_region d e (below d.region e.region (F.regions_rise i j d e hd he n) ne))
    where
      below : (a b : ℕ) → a ≤ b → (a ≡ b → ⊥) → a < b
      below a b n ne = grind arith

  module _ (fork join : Path → Option ℕ) (P : PlacesOf log fork join) where
    -- ---- a climb is a chain
    climb_leads : (last : ℕ) (goal : Path) (e : Event) → HasAt log last e → e.path ≡ goal → (x : ℕ) (p : Path) → Climbs fork join last goal x p
        → (a : Event) → HasAt log x a → a.path ≡ p → x ≤ last → Leads x last
    climb_leads last goal e he ge x p (arrived _ _ s) a ha sa n = thread_leads x last a e ha he (sa ∙ s ∙ sym ge) n
    climb_leads last goal e he ge x p (down _ _ k q f g fk le) a ha sa n =
        let d = P.fork_there (child p k) f fk in
        let c = F.forks_child f d.0 (child p k) d.1 d.2 in
        let same : p ≡ d.0.path = (child_same p d.0.path k c.0 c.1).0 in
        inr (then_before x f last
        (thread_leads x f a d.0 ha d.1 (sa ∙ same) le)
        (fork_leads (length e.path) f last d.0 e (child p k) q (omega arith) d.1 he d.2 (ge ∙ g ∙ sym (child_longer p q k))))
    climb_leads last goal e he ge x p (up _ _ k q y apart s jn le c) a ha sa n =
        let b = P.join_there p y jn in
        let m = F.joins_child y b.0 p b.1 b.2 in
        let same : q ≡ b.0.path = (child_same q b.0.path k m.0 (sym s ∙ m.1)).0 in
        inr (before_then x y last (join_leads x y a b.0 ha b.1 (b.2 ∙ ap Some (sym sa))) (climb_leads last goal e he ge y q c b.0 b.1 (sym same) le))

    -- ---- a climb goes on along each link
    later : (k j : ℕ) (goal : Path) → k ≤ j → (x : ℕ) (p : Path) → Climbs fork join k goal x p → Climbs fork join j goal x p
    later k j goal n x p (arrived _ _ s) = arrived x p s
    later k j goal n x p (down _ _ m q f g fk le) = down x p m q f g fk le
    later k j goal n x p (up _ _ m q y apart s jn le c) = up x p m q y apart s jn (omega arith) (later k j goal n y q c)

    on_by_fork : (k j : ℕ) (r : Path) (n : ℕ) (d : Event) → HasAt log k d → d.kind ≡ forks (child r n) → k ≤ j → (x : ℕ) (p : Path) → Climbs fork join k r x p
        → (a : Event) → HasAt log x a → a.path ≡ p → x ≤ k → Climbs fork join j (child r n) x p
    on_by_fork k j r n d hd h kj x p (arrived _ _ s) a ha sa le =
        down x p n [] k (ap (λ z. child z n) (sym s) ∙ child_is p n) (ap (λ z. fork (child z n)) s ∙ P.fork_known k d (child r n) hd h) le
    on_by_fork k j r n d hd h kj x p (down _ _ m q f g fk fl) a ha sa le = down x p m (q ++ n ∷ []) f (longer p (m ∷ q) r n g) fk fl
    on_by_fork k j r n d hd h kj x p (up _ _ m q y apart s jn yl c) a ha sa le =
        let b = P.join_there p y jn in
        let w = F.joins_child y b.0 p b.1 b.2 in
        let same : q ≡ b.0.path = (child_same q b.0.path m w.0 (sym s ∙ w.1)).0 in
        up x p m q y (not_above_child p r n own apart) s jn (omega arith) (on_by_fork k j r n d hd h kj y q c b.0 b.1 (sym same) yl)
      where
        own : p ≡ child r n → ⊥
        own t = let z : k < x = F.fork_first k x d a hd ha (h ∙ ap forks (sym t ∙ sym sa)) in absurd (omega arith)

    on_by_end : (k j : ℕ) (q : Path) (n : ℕ) (e : Event) → HasAt log j e → e.joined ≡ Some (child q n) → k ≤ j → (x : ℕ) (p : Path) → Climbs fork join k (child q n) x p
        → Climbs fork join j q x p
    on_by_end k j q n e he h kj x p (arrived _ _ s) =
        let f = P.join_first j e (child q n) he h in
        up x p n q f.0 (λ t g. not_above_parent q t n (g ∙ ap (λ z. z ++ t) s)) s (ap join s ∙ f.1) f.2 (arrived f.0 q refl)
    on_by_end k j q n e he h kj x p (down _ _ m t f g fk fl) = go (below_a_child p q t m n (sym g))
      where
        go : BelowChild p q t m n → Climbs fork join j q x p
        go (first _ s _) = arrived x p s
        go (deeper u s) = down x p m u f s fk fl
    on_by_end k j q n e he h kj x p (up _ _ m u y apart s jn yl c) =
        up x p m u y (λ t g. apart (t ++ n ∷ []) (longer p t q n g)) s jn (omega arith) (on_by_end k j q n e he h kj y u c)

    on : (k j : ℕ) (d e : Event) → HasAt log k d → HasAt log j e → k < j → link d e ≡ true → d.region ≡ e.region
        → (x : ℕ) (a : Event) → HasAt log x a → x ≤ k → Climbs fork join k d.path x a.path → Climbs fork join j e.path x a.path
    on k j d e hd he n l same x a ha le c = go (linked d e l)
      where
        go : Linked d e → Climbs fork join j e.path x a.path
        go (same_thread s) = subst (λ z. Climbs fork join j z x a.path) s (later k j d.path (omega arith) x a.path c)
        go (by_fork h) =
            let m = F.forks_child k d e.path hd h in
            subst (λ z. Climbs fork join j z x a.path) (sym m.1) (on_by_fork k j d.path m.0 d hd (h ∙ ap forks m.1) (omega arith) x a.path c a ha refl le)
        go (by_end h s) =
            let m = F.joins_child j e d.path he s in
            on_by_end k j e.path m.0 e he (s ∙ ap Some m.1) (omega arith) x a.path (subst (λ z. Climbs fork join k z x a.path) m.1 c)
        go (by_region r) = absurd (omega arith)

    -- ---- a chain is a climb
    chain_rises : (i j : ℕ) → Chain log i j → i < j
    chain_rises i j (one _ _ l) = link_rises log F i j l
    chain_rises i k (more _ j _ l c) = let n : i < j = link_rises log F i j l in let m : j < k = chain_rises j k c in omega arith

    regions_to : (i j : ℕ) (d e : Event) → HasAt log i d → HasAt log j e → i ≤ j → d.region ≤ e.region
    regions_to i j d e hd he n =
        ⊎_elim
        (λ t. let s : d.region ≡ e.region = ap (λ (z : Event). z.region) (place_one log j d e (subst (λ z. HasAt log z d) t hd) he) in omega arith)
        (λ m. F.regions_rise i j d e hd he m)
        (up_to i j n)

    chain_climbs : (x : ℕ) (a : Event) → HasAt log x a → (k last : ℕ) → Chain log k last → (d z : Event) → HasAt log k d → HasAt log last z → a.region ≡ z.region
        → x ≤ k → Climbs fork join k d.path x a.path → Climbs fork join last z.path x a.path
    chain_climbs x a ha k last (one _ _ (f, e, hf, he, l, way)) d z hd hz r n c =
        let s : d ≡ f = place_one log k d f hd hf in
        let t : e ≡ z = place_one log last e z he hz in
        let u : k < last = link_rises log F k last (f, e, hf, he, l, way) in
        let low : a.region ≤ f.region = regions_to x k a f ha hf n in
        let high : f.region ≤ e.region = regions_to k last f e hf he (omega arith) in
        let end : e.region ≡ z.region = ap (λ (v : Event). v.region) t in
        subst (λ (v : Event). Climbs fork join last v.path x a.path) t
        (on k last f e hf he u l (omega arith) x a ha n (subst (λ (v : Event). Climbs fork join k v.path x a.path) s c))
    chain_climbs x a ha k last (more _ j _ (f, e, hf, he, l, way) rest) d z hd hz r n c =
        let s : d ≡ f = place_one log k d f hd hf in
        let u : k < j = link_rises log F k j (f, e, hf, he, l, way) in
        let v : j < last = chain_rises j last rest in
        let low : a.region ≤ f.region = regions_to x k a f ha hf n in
        let mid : f.region ≤ e.region = regions_to k j f e hf he (omega arith) in
        let high : e.region ≤ z.region = regions_to j last e z he hz (omega arith) in
        chain_climbs x a ha j last rest e z he hz r (omega arith)
        (on k j f e hf he u l (omega arith) x a ha n (subst (λ (w : Event). Climbs fork join k w.path x a.path) s c))

    -- A CLIMB LEADS FROM AN EVENT TO A LATER ONE of its region exactly where it is before it
    pub climbing : (i j : ℕ) (d e : Event) → HasAt log i d → HasAt log j e → i < j → d.region ≡ e.region
        → Climbs fork join j e.path i d.path ↔ IsBefore log i j
    climbing i j d e hd he n r = (sound, whole)
      where
        sound : Climbs fork join j e.path i d.path → IsBefore log i j
        sound c = ⊎_elim (λ t. absurd (omega arith)) (λ b. b) (climb_leads j e.path e he refl i d.path c d hd refl (omega arith))

        whole : IsBefore log i j → Climbs fork join j e.path i d.path
        whole b = chain_climbs i d hd i j ((before_anywhere log F i j).1 b).1 d e hd he r (omega arith) (arrived i d.path refl)
