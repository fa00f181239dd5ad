-- What is possible stays so.
use Rattle.std.proofs.Common.{◌≡◌, ℕ, [], ◌∷◌, ◌++◌, Bool, true, false, Option, Some, None, refl, sym, ap, subst, ◌∙◌, arith, inl, inr, ◌⊎◌, ⊎_elim, ◌<◌, ◌≤◌, length, length-append, cond, is_some, slice_index, nat_eq, le_of_eq}
use Rattle.std.specs.FinMap as map
use Rattle.std.proofs.lemmas.List.{get_or_append_left, get_or_push}
use Rattle.bench_model.specs.Paths.{Path, child}
use Rattle.bench_model.specs.World.{Model, ModelLaws, Move, Thread, Threads, World, Mode, Possible, FitsMove, act_of, answer, threads_after, wakes, newborn, self_after, is_there, woken_mode}
use Rattle.bench_model.specs.World.Move.{poke, peek, expect, fork, join, arrive, joinstep, spend, end}
use Rattle.bench_model.specs.World.Mode.{running, at_join, at_edges, at_joinstep, spent}
use Rattle.bench_model.proofs.PathFacts.{below_itself, below_child, not_own_child, child_below, child_is, child_same, BelowChild, first, deeper, below_a_child}
use Rattle.bench_model.proofs.Origins.{Origin, itself, born, roused, kept, origin, self_region}
use Rattle.bench_model.proofs.StaysPossible.{waker, woken_region}

-- the field of what is there
abbrev field : {I B : Type 0} → B → (Thread I → B) → Option (Thread I) → B
field d f None = d
field d f (Some t) = f t

abbrev held : {I : Type 0} → (Thread I → Type 0) → Option (Thread I) → Type 0
held P None = Unit {0}
held P (Some t) = P t

module _ (M : Model) (L : ModelLaws M) where
  -- a thread keeps the list of its children's regions, or adds one
  pub record Grows (t u : Thread M.Inner) : Type 0 where
    pub longer : length t.forked ≤ length u.forked
    pub same : (k : ℕ) → k < length t.forked → slice_index u.forked k ≡ slice_index t.forked k

  grows_same : (t u : Thread M.Inner) → u.forked ≡ t.forked → Grows t u
  grows_same t u e = record { longer = le_of_eq (ap length (sym e)); same = λ k h. ap (λ xs. slice_index xs k) e }

  pub self_grows : (t u : Thread M.Inner) (m : Move M.Inner) (x : ℕ) (b : Bool) → self_after t m x b ≡ Some u → Grows t u
  self_grows t u (poke l q v i) x b e = grows_same t u (ap (field t.forked (λ y. y.forked)) (sym e))
  self_grows t u (peek l s f i) x b e = grows_same t u (ap (field t.forked (λ y. y.forked)) (sym e))
  self_grows t u (expect l s f i) x b e = grows_same t u (ap (field t.forked (λ y. y.forked)) (sym e))
  self_grows t u (fork l r c i) x b e =
      let f : u.forked ≡ t.forked ++ r ∷ [] = ap (field t.forked (λ y. y.forked)) (sym e) in
      record { longer = omega (arith, ap length f, length-append t.forked (r ∷ [])); same = λ k h. ap (λ xs. slice_index xs k) f ∙ get_or_append_left t.forked (r ∷ []) 0 k h }
  self_grows t u (join l k i) x b e = grows_same t u (ap (field t.forked (λ y. y.forked)) (sym e))
  self_grows t u (arrive l n i) x b e = grows_same t u (ap (field t.forked (λ y. y.forked)) (sym e))
  self_grows t u (joinstep l k i) x b e = grows_same t u (ap (field t.forked (λ y. y.forked)) (sym e))
  self_grows t u (spend l) x b e = grows_same t u (ap (field t.forked (λ y. y.forked)) (sym e))
  self_grows t u end x b e = absurd (cc)

  pub record Like (v u : Thread M.Inner) : Type 0 where
    pub forked : u.forked ≡ v.forked
    pub region : u.region ≡ v.region
    pub inner : u.inner ≡ v.inner
    pub joined : u.joined ≡ v.joined

  -- the thread u at q after the act of a, by what it was before
  pub data Past (ts : Threads M.Inner) (a : Path) (ta : Thread M.Inner) (m : Move M.Inner) (x : ℕ) (q : Path) (u : Thread M.Inner) : Type 0 where
    own : q ≡ a → self_after ta m x (is_there ts a m) ≡ Some u → Past ts a ta m x q u
    new : newborn a ta m ≡ Some (q, u) → Past ts a ta m x q u
    old : (q ≡ a → ⊥) → (v : Thread M.Inner) → map.get ts q ≡ Some v → Like v u →
        (u.mode ≡ v.mode) ⊎ ((k : ℕ) × (a ≡ child q k) × (u.mode ≡ woken_mode k v.mode) × (m ≡ end)) → Past ts a ta m x q u

  rouses_end : (a : Path) (m : Move M.Inner) (z : Path × ℕ) → wakes a m ≡ Some z → m ≡ end
  rouses_end a end z e = refl
  rouses_end a _ z e = absurd (cc)

  pub past_of : (ts : Threads M.Inner) (a : Path) (ta : Thread M.Inner) (m : Move M.Inner) (x : ℕ) (q : Path) (u : Thread M.Inner) → Origin ts a ta m x q u → Past ts a ta m x q u
  past_of ts a ta m x q u (itself e f) = own e f
  past_of ts a ta m x q u (born e) = new e
  past_of ts a ta m x q u (roused k v e g s) =
      let c : a ≡ child q k = waker M L a q k m e in
      old (λ h. not_own_child a k (sym (c ∙ ap (λ y. child y k) h))) v g
      (record { forked = ap (λ (y : Thread M.Inner). y.forked) (sym s); region = ap (λ (y : Thread M.Inner). y.region) (sym s); inner = ap (λ (y : Thread M.Inner). y.inner) (sym s); joined = ap (λ (y : Thread M.Inner). y.joined) (sym s) })
      (inr (k, c, ap (λ (y : Thread M.Inner). y.mode) (sym s), rouses_end a m (q, k) e))
  past_of ts a ta m x q u (kept n g) = old n u g (record { forked = refl; region = refl; inner = refl; joined = refl }) (inl refl)

  -- what is born: where, and as what
  pub record Birth (a q : Path) (ta u : Thread M.Inner) (m : Move M.Inner) : Type 0 where
    pub place : q ≡ child a (length ta.forked)
    pub none : u.forked ≡ []
    pub runs : u.mode ≡ running
    pub fresh_joined : u.joined ≡ None
    pub grown : (x : ℕ) (b : Bool) (t : Thread M.Inner) → self_after ta m x b ≡ Some t → t.forked ≡ ta.forked ++ u.region ∷ []
    pub fits : FitsMove M ta.region ta.forked m → M.Fits u.region u.forked u.inner

  pub birth_of : (a q : Path) (ta u : Thread M.Inner) (m : Move M.Inner) → newborn a ta m ≡ Some (q, u) → Birth a q ta u m
  birth_of a q ta u (fork l r c i) e =
      let z : Thread M.Inner = record { region = r; mode = running; inner = c; forked = []; acts = 0; joined = None } in
      let g : z ≡ u = ap (λ (y : Option (Path × Thread M.Inner)). elim y [ None ↦ z | Some w ↦ w.1 ]) e in
      record {
        place = ap (λ (y : Option (Path × Thread M.Inner)). elim y [ None ↦ q | Some w ↦ w.0 ]) (sym e);
        none = ap (λ (y : Thread M.Inner). y.forked) (sym g);
        runs = ap (λ (y : Thread M.Inner). y.mode) (sym g);
        fresh_joined = ap (λ (y : Thread M.Inner). y.joined) (sym g);
        grown = λ x b t h. ap (field ta.forked (λ y. y.forked)) (sym h) ∙ ap (λ (y : Thread M.Inner). ta.forked ++ y.region ∷ []) g;
        fits = λ f. subst (λ (y : Thread M.Inner). M.Fits y.region y.forked y.inner) g f.1;
      }
  birth_of a q ta u _ e = absurd (cc)

  -- what the thread itself keeps
  self_fits : (t u : Thread M.Inner) (m : Move M.Inner) (x : ℕ) (b : Bool) → M.Fits t.region t.forked t.inner → FitsMove M t.region t.forked m → self_after t m x b ≡ Some u → M.Fits u.region u.forked u.inner
  self_fits t u (poke l q v i) x b o f e = subst (λ y. held (λ z. M.Fits z.region z.forked z.inner) y) e (f x)
  self_fits t u (peek l s g i) x b o f e = subst (λ y. held (λ z. M.Fits z.region z.forked z.inner) y) e (f x)
  self_fits t u (expect l s g i) x b o f e = subst (λ y. held (λ z. M.Fits z.region z.forked z.inner) y) e f
  self_fits t u (fork l r c i) x b o f e = subst (λ y. held (λ z. M.Fits z.region z.forked z.inner) y) e f.2
  self_fits t u (join l k i) x b o f e = subst (λ y. held (λ z. M.Fits z.region z.forked z.inner) y) e f.2
  self_fits t u (arrive l n i) x b o f e = subst (λ y. held (λ z. M.Fits z.region z.forked z.inner) y) e f
  self_fits t u (joinstep l k i) x b o f e = subst (λ y. held (λ z. M.Fits z.region z.forked z.inner) y) e f
  self_fits t u (spend l) x b o f e = subst (λ y. held (λ z. M.Fits z.region z.forked z.inner) y) e o
  self_fits t u end x b o f e = absurd (cc)

  self_waits : (t u : Thread M.Inner) (m : Move M.Inner) (x : ℕ) (b : Bool) (k : ℕ) → FitsMove M t.region t.forked m → self_after t m x b ≡ Some u → u.mode ≡ at_join k → (slice_index u.forked k ≤ u.region) × (u.joined ≡ Some k)
  self_waits t u (poke l q v i) x b k f e h = absurd (let g : running ≡ at_join k = ap (field running (λ y. y.mode)) e ∙ h in cc)
  self_waits t u (peek l s g i) x b k f e h = absurd (let g : running ≡ at_join k = ap (field running (λ y. y.mode)) e ∙ h in cc)
  self_waits t u (expect l s g i) x b k f e h = absurd (let g : running ≡ at_join k = ap (field running (λ y. y.mode)) e ∙ h in cc)
  self_waits t u (fork l r c i) x b k f e h = absurd (let g : running ≡ at_join k = ap (field running (λ y. y.mode)) e ∙ h in cc)
  self_waits t u (join l j i) x false k f e h = absurd (let g : running ≡ at_join k = ap (field running (λ y. y.mode)) e ∙ h in cc)
  self_waits t u (join l j i) x true k f e h =
      let g : at_join j ≡ at_join k = ap (field running (λ y. y.mode)) e ∙ h in
      let n : j ≡ k = cc in
      subst (λ y. held (λ z. (slice_index z.forked k ≤ z.region) × (z.joined ≡ Some k)) y) e (subst (λ z. slice_index t.forked z ≤ t.region) n f.1, ap Some n)
  self_waits t u (arrive l n i) x b k f e h = absurd (let g : at_edges n ≡ at_join k = ap (field running (λ y. y.mode)) e ∙ h in cc)
  self_waits t u (joinstep l j i) x b k f e h = absurd (let g : at_joinstep j ≡ at_join k = ap (field running (λ y. y.mode)) e ∙ h in cc)
  self_waits t u (spend l) x b k f e h = absurd (let g : spent l ≡ at_join k = ap (field running (λ y. y.mode)) e ∙ h in cc)
  self_waits t u end x b k f e h = absurd (cc)

  woken_join : (j k : ℕ) (y : Mode) → woken_mode j y ≡ at_join k → y ≡ at_join k
  woken_join j k running e = absurd (cc)
  woken_join j k (at_join n) e = go (nat_eq n j) e
    where
      go : (z : Bool) → cond z running (at_join n) ≡ at_join k → at_join n ≡ at_join k
      go true h = absurd (cc)
      go false h = h
  woken_join j k (at_edges n) e = absurd (cc)
  woken_join j k (at_joinstep n) e = absurd (cc)
  woken_join j k (spent l) e = absurd (cc)

  -- a thread that runs on after a join found the child gone
  record Joins (m : Move M.Inner) (k : ℕ) (b : Bool) : Type 0 where
    line : ℕ
    rest : M.Inner
    is_join : m ≡ join line k rest
    gone : b ≡ false

  self_joined : (t u : Thread M.Inner) (m : Move M.Inner) (x : ℕ) (b : Bool) (k : ℕ) → self_after t m x b ≡ Some u → u.mode ≡ running → u.joined ≡ Some k → Joins m k b
  self_joined t u (poke l q v i) x b k e r h = absurd (let g : None ≡ Some k = ap (field None (λ y. y.joined)) e ∙ h in cc)
  self_joined t u (peek l s g i) x b k e r h = absurd (let g : None ≡ Some k = ap (field None (λ y. y.joined)) e ∙ h in cc)
  self_joined t u (expect l s g i) x b k e r h = absurd (let g : None ≡ Some k = ap (field None (λ y. y.joined)) e ∙ h in cc)
  self_joined t u (fork l q c i) x b k e r h = absurd (let g : None ≡ Some k = ap (field None (λ y. y.joined)) e ∙ h in cc)
  self_joined t u (join l j i) x true k e r h = absurd (let g : at_join j ≡ running = ap (field running (λ y. y.mode)) e ∙ r in cc)
  self_joined t u (join l j i) x false k e r h =
      let g : Some j ≡ Some k = ap (field None (λ y. y.joined)) e ∙ h in
      let n : j ≡ k = cc in
      record { line = l; rest = i; is_join = ap (λ z. join l z i) n; gone = refl }
  self_joined t u (arrive l n i) x b k e r h = absurd (let g : None ≡ Some k = ap (field None (λ y. y.joined)) e ∙ h in cc)
  self_joined t u (joinstep l j i) x b k e r h = absurd (let g : None ≡ Some k = ap (field None (λ y. y.joined)) e ∙ h in cc)
  self_joined t u (spend l) x b k e r h = absurd (let g : None ≡ Some k = ap (field None (λ y. y.joined)) e ∙ h in cc)
  self_joined t u end x b k e r h = absurd (cc)

  module _ (w : World M.Inner) (P : Possible M w) (a : Path) (ta : Thread M.Inner) (ha : map.get w.threads a ≡ Some ta) (x : ℕ) where
    at_a : (q : Path) → q ≡ a → map.get w.threads q ≡ Some ta
    at_a q e = ap (map.get w.threads) e ∙ ha

    fresh_after : (p : Path) (t : Thread M.Inner) (k : ℕ) (q : Path) (u : Thread M.Inner) → Past w.threads a ta (M.next ta.inner) x p t → Past w.threads a ta (M.next ta.inner) x (p ++ k ∷ q) u → k < length t.forked
    fresh_after p t k q u (own e f) (own g h) = absurd (below_itself a q k (subst (λ y. y ++ k ∷ q ≡ a) e g))
    fresh_after p t k q u (new e) (own g h) = absurd (below_child a q (length ta.forked) k (subst (λ y. y ++ k ∷ q ≡ a) (birth_of a p ta t (M.next ta.inner) e).place g))
    fresh_after p t k q u (old n v e l s) (own g h) = let r : k < length v.forked = P.fresh p v k q ta e (at_a (p ++ k ∷ q) g) in omega (arith, ap length l.forked)
    fresh_after p t k q u past (new e) = go past (below_a_child p a q k (length ta.forked) b.place)
      where
        b : Birth a (p ++ k ∷ q) ta u (M.next ta.inner)
        b = birth_of a (p ++ k ∷ q) ta u (M.next ta.inner) e

        go : Past w.threads a ta (M.next ta.inner) x p t → BelowChild p a q k (length ta.forked) → k < length t.forked
        go (own f h) (first z y s) = let g : t.forked ≡ ta.forked ++ u.region ∷ [] = b.grown x (is_there w.threads a (M.next ta.inner)) t h in omega (arith, ap length g, length-append ta.forked (u.region ∷ []))
        go (new f) (first z y s) = absurd (not_own_child a (length ta.forked) (sym (birth_of a p ta t (M.next ta.inner) f).place ∙ y))
        go (old n v f l m) (first z y s) = absurd (n y)
        go (own f h) (deeper r y) = absurd (below_itself a r k (ap (λ z. z ++ k ∷ r) (sym f) ∙ sym y))
        go (new f) (deeper r y) = absurd (below_child a r (length ta.forked) k (ap (λ z. z ++ k ∷ r) (sym (birth_of a p ta t (M.next ta.inner) f).place) ∙ sym y))
        go (old n v f l m) (deeper r y) = let h : k < length v.forked = P.fresh p v k r ta f (at_a (p ++ k ∷ r) (sym y)) in omega (arith, ap length l.forked)
    fresh_after p t k q u (own e f) (old n v g l s) =
        let r : k < length ta.forked = P.fresh a ta k q v ha (ap (λ z. map.get w.threads (z ++ k ∷ q)) (sym e) ∙ g) in
        let y : Grows ta t = self_grows ta t (M.next ta.inner) x (is_there w.threads a (M.next ta.inner)) f in
        omega (arith, y.longer)
    fresh_after p t k q u (new e) (old n v g l s) =
        let r : length ta.forked < length ta.forked = P.fresh a ta (length ta.forked) (k ∷ q) v ha
        (ap (map.get w.threads) (sym (child_below a q (length ta.forked) k) ∙ ap (λ z. z ++ k ∷ q) (sym (birth_of a p ta t (M.next ta.inner) e).place)) ∙ g) in
        absurd (omega arith)
    fresh_after p t k q u (old n v e l s) (old n' v' g l' s') = let r : k < length v.forked = P.fresh p v k q v' e g in omega (arith, ap length l.forked)

    fits_after : (p : Path) (t : Thread M.Inner) → Past w.threads a ta (M.next ta.inner) x p t → M.Fits t.region t.forked t.inner
    fits_after p t (own e f) = self_fits ta t (M.next ta.inner) x (is_there w.threads a (M.next ta.inner)) (P.fits a ta ha) (L.fits_next ta.region ta.forked ta.inner (P.fits a ta ha)) f
    fits_after p t (new e) = (birth_of a p ta t (M.next ta.inner) e).fits (L.fits_next ta.region ta.forked ta.inner (P.fits a ta ha))
    fits_after p t (old n v e l s) =
        subst (λ r. M.Fits r t.forked t.inner) (sym l.region) (subst (λ f. M.Fits v.region f t.inner) (sym l.forked) (subst (λ i. M.Fits v.region v.forked i) (sym l.inner) (P.fits p v e)))

    no_grandchild : (p : Path) (k : ℕ) → p ≡ child a (length ta.forked) → child p k ≡ a → ⊥
    no_grandchild p k e f = below_child a [] (length ta.forked) k (sym (child_is (child a (length ta.forked)) k) ∙ ap (λ z. child z k) (sym e) ∙ f)

    not_below_birth : (p : Path) (k : ℕ) (v : Thread M.Inner) → p ≡ child a (length ta.forked) → map.get w.threads (child p k) ≡ Some v → ⊥
    not_below_birth p k v e g =
        let r : length ta.forked < length ta.forked = P.fresh a ta (length ta.forked) (k ∷ []) v ha
        (ap (map.get w.threads) (sym (child_below a [] (length ta.forked) k) ∙ sym (child_is (child a (length ta.forked)) k) ∙ ap (λ z. child z k) (sym e)) ∙ g) in
        absurd (omega arith)

    regions_after : (p : Path) (t : Thread M.Inner) (k : ℕ) (u : Thread M.Inner) → Past w.threads a ta (M.next ta.inner) x p t → Past w.threads a ta (M.next ta.inner) x (child p k) u → u.region ≡ slice_index t.forked k
    regions_after p t k u (own e f) (own g h) = absurd (not_own_child a k (ap (λ z. child z k) (sym e) ∙ g))
    regions_after p t k u (new e) (own g h) = absurd (no_grandchild p k (birth_of a p ta t (M.next ta.inner) e).place g)
    regions_after p t k u (old n v e l s) (own g h) =
        self_region M.Inner ta u (M.next ta.inner) x (is_there w.threads a (M.next ta.inner)) h ∙ P.regions p v k ta e (at_a (child p k) g) ∙ ap (λ z. slice_index z k) (sym l.forked)
    regions_after p t k u past (new e) = go past
      where
        b : Birth a (child p k) ta u (M.next ta.inner)
        b = birth_of a (child p k) ta u (M.next ta.inner) e

        go : Past w.threads a ta (M.next ta.inner) x p t → u.region ≡ slice_index t.forked k
        go (own f h) = sym (ap (λ z. slice_index z k) (b.grown x (is_there w.threads a (M.next ta.inner)) t h) ∙ get_or_push ta.forked u.region 0 k (sym (child_same p a k (length ta.forked) b.place).1))
        go (new f) = absurd (not_own_child a (length ta.forked) (sym (birth_of a p ta t (M.next ta.inner) f).place ∙ (child_same p a k (length ta.forked) b.place).0))
        go (old n v f l m) = absurd (n (child_same p a k (length ta.forked) b.place).0)
    regions_after p t k u (own e f) (old n v g l s) =
        let here : map.get w.threads (child a k) ≡ Some v = ap (λ z. map.get w.threads (child z k)) (sym e) ∙ g in
        let r : k < length ta.forked = P.fresh a ta k [] v ha (ap (map.get w.threads) (sym (child_is a k)) ∙ here) in
        l.region ∙ P.regions a ta k v ha here ∙ sym ((self_grows ta t (M.next ta.inner) x (is_there w.threads a (M.next ta.inner)) f).same k r)
    regions_after p t k u (new e) (old n v g l s) = absurd (not_below_birth p k v (birth_of a p ta t (M.next ta.inner) e).place g)
    regions_after p t k u (old n v e l s) (old n' v' g l' s') = l'.region ∙ P.regions p v k v' e g ∙ ap (λ z. slice_index z k) (sym l.forked)

    waits_old : (v t : Thread M.Inner) (k : ℕ) → Like v t → (slice_index v.forked k ≤ v.region) × (v.joined ≡ Some k) → (slice_index t.forked k ≤ t.region) × (t.joined ≡ Some k)
    waits_old v t k l h = (subst (λ f. slice_index f k ≤ t.region) (sym l.forked) (subst (λ r. slice_index v.forked k ≤ r) (sym l.region) h.0), l.joined ∙ h.1)

    waits_after : (p : Path) (t : Thread M.Inner) (k : ℕ) → Past w.threads a ta (M.next ta.inner) x p t → t.mode ≡ at_join k → (slice_index t.forked k ≤ t.region) × (t.joined ≡ Some k)
    waits_after p t k (own e f) h = self_waits ta t (M.next ta.inner) x (is_there w.threads a (M.next ta.inner)) k (L.fits_next ta.region ta.forked ta.inner (P.fits a ta ha)) f h
    waits_after p t k (new e) h = absurd (let g : running ≡ at_join k = sym (birth_of a p ta t (M.next ta.inner) e).runs ∙ h in cc)
    waits_after p t k (old n v e l (inl s)) h = waits_old v t k l (P.waits p v k e (sym s ∙ h))
    waits_after p t k (old n v e l (inr (j, c, s, m))) h = waits_old v t k l (P.waits p v k e (woken_join j k v.mode (sym s ∙ h)))

    -- the child of a thread of before that is gone stays so
    stays_gone : (p : Path) (k : ℕ) (u : Thread M.Inner) → (p ≡ a → ⊥) → map.get w.threads (child p k) ≡ None → Past w.threads a ta (M.next ta.inner) x (child p k) u → ⊥
    stays_gone p k u n g (own e f) = let h : map.get w.threads (child p k) ≡ Some ta = at_a (child p k) e in absurd (cc)
    stays_gone p k u n g (new e) = n (child_same p a k (length ta.forked) (birth_of a (child p k) ta u (M.next ta.inner) e).place).0
    stays_gone p k u n g (old n' v e l s) = absurd (cc)

    -- a thread that has ended is gone
    ended : (q : Path) (u : Thread M.Inner) → q ≡ a → M.next ta.inner ≡ end → Past w.threads a ta (M.next ta.inner) x q u → ⊥
    ended q u e m (own f h) = absurd (let g : None ≡ Some u = subst (λ y. self_after ta y x (is_there w.threads a y) ≡ Some u) m h in cc)
    ended q u e m (new f) = absurd (let g : None ≡ Some (q, u) = subst (λ y. newborn a ta y ≡ Some (q, u)) m f in cc)
    ended q u e m (old n v f l s) = n e

    joined_after : (p : Path) (t : Thread M.Inner) (k : ℕ) → Past w.threads a ta (M.next ta.inner) x p t → t.mode ≡ running → t.joined ≡ Some k → (u : Thread M.Inner) → Past w.threads a ta (M.next ta.inner) x (child p k) u → ⊥
    joined_after p t k (own e f) r j u q = go q
      where
        m : Joins (M.next ta.inner) k (is_there w.threads a (M.next ta.inner))
        m = self_joined ta t (M.next ta.inner) x (is_there w.threads a (M.next ta.inner)) k f r j

        gone : is_some (map.get w.threads (child p k)) ≡ false
        gone = ap (λ z. is_some (map.get w.threads (child z k))) e ∙ subst (λ y. is_there w.threads a y ≡ false) m.is_join m.gone

        go : Past w.threads a ta (M.next ta.inner) x (child p k) u → ⊥
        go (own g h) = not_own_child a k (ap (λ z. child z k) (sym e) ∙ g)
        go (new g) = absurd (let h : None ≡ Some (child p k, u) = subst (λ y. newborn a ta y ≡ Some (child p k, u)) m.is_join g in cc)
        go (old n v g l s) = absurd (let h : true ≡ false = ap is_some (sym g) ∙ gone in cc)
    joined_after p t k (new e) r j u q = absurd (let g : None ≡ Some k = sym (birth_of a p ta t (M.next ta.inner) e).fresh_joined ∙ j in cc)
    joined_after p t k (old n v e l (inl s)) r j u q = stays_gone p k u n (P.joined p v k e (sym s ∙ r) (sym l.joined ∙ j)) q
    joined_after p t k (old n v e l (inr (i, c, s, m))) r j u q =
        ⊎_elim
        (λ f. stays_gone p k u n (P.joined p v k e f (sym l.joined ∙ j)) q)
        (λ f.
        let g : Some i ≡ Some k = sym (P.waits p v i e f).1 ∙ sym l.joined ∙ j in
        let h : i ≡ k = cc in
        ended (child p k) u (ap (child p) (sym h) ∙ sym c) m q)
        (woken_region M L i v (sym s ∙ r))

  -- a child that the thread joins was forked
  self_used : (t u : Thread M.Inner) (m : Move M.Inner) (x : ℕ) (b : Bool) (k : ℕ) → FitsMove M t.region t.forked m → self_after t m x b ≡ Some u → u.joined ≡ Some k → k < length u.forked
  self_used t u (join l j i) x b k f e h =
      let g : Some j ≡ Some k = ap (field None (λ y. y.joined)) e ∙ h in
      let n : j ≡ k = cc in
      subst (λ y. held (λ z. k < length z.forked) y) e (subst (λ z. z < length t.forked) n f.0)
  self_used t u end x b k f e h = absurd (cc)
  self_used t u _ x b k f e h = absurd (let g : None ≡ Some k = ap (field None (λ y. y.joined)) e ∙ h in cc)

  used_after : (w : World M.Inner) → Possible M w → (a : Path) (ta : Thread M.Inner) → map.get w.threads a ≡ Some ta → (x : ℕ) (p : Path) (t : Thread M.Inner) (k : ℕ) →
      Past w.threads a ta (M.next ta.inner) x p t → t.joined ≡ Some k → k < length t.forked
  used_after w P a ta ha x p t k (own e f) h = self_used ta t (M.next ta.inner) x (is_there w.threads a (M.next ta.inner)) k (L.fits_next ta.region ta.forked ta.inner (P.fits a ta ha)) f h
  used_after w P a ta ha x p t k (new e) h = absurd (let g : None ≡ Some k = sym (birth_of a p ta t (M.next ta.inner) e).fresh_joined ∙ h in cc)
  used_after w P a ta ha x p t k (old n v e l s) h = let r : k < length v.forked = P.used p v k e (sym l.joined ∙ h) in omega (arith, ap length l.forked)

  none_of : {A : Type 0} (o : Option A) → ((y : A) → o ≡ Some y → ⊥) → o ≡ None
  none_of None f = refl
  none_of (Some y) f = absurd (f y refl)

  -- WHAT IS POSSIBLE STAYS SO
  pub possible_act : (w : World M.Inner) → Possible M w → (a : Path) (ta : Thread M.Inner) → map.get w.threads a ≡ Some ta → Possible M (act_of M w a (Some ta))
  possible_act w P a ta ha =
      let x : ℕ = answer M w.inputs w.registers (M.next ta.inner) in
      let past : (q : Path) (u : Thread M.Inner) → map.get (threads_after w.threads a ta (M.next ta.inner) x) q ≡ Some u → Past w.threads a ta (M.next ta.inner) x q u =
      λ q u h. past_of w.threads a ta (M.next ta.inner) x q u (origin M.Inner w.threads a ta (M.next ta.inner) x q u h) in
      record {
        fresh = λ p t k q u g h. fresh_after w P a ta ha x p t k q u (past p t g) (past (p ++ k ∷ q) u h);
        joined = λ p t k g r j. none_of (map.get (threads_after w.threads a ta (M.next ta.inner) x) (child p k)) (λ u h. joined_after w P a ta ha x p t k (past p t g) r j u (past (child p k) u h));
        fits = λ p t g. fits_after w P a ta ha x p t (past p t g);
        regions = λ p t k u g h. regions_after w P a ta ha x p t k u (past p t g) (past (child p k) u h);
        waits = λ p t k g h. waits_after w P a ta ha x p t k (past p t g) h;
        used = λ p t k g h. used_after w P a ta ha x p t k (past p t g) h;
      }
