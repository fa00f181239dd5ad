-- The threads after two acts, in either order.
use Rattle.std.proofs.Common.{◌≡◌, ℕ, [], ◌∷◌, ◌++◌, Bool, true, false, Option, Some, None, refl, sym, ap, ap₂, subst, ◌∙◌, length, cond, option_map, is_some, nat_eq}
use Rattle.std.specs.FinMap as map
use Rattle.bench_model.specs.Paths.{Path, is_path, child, parent}
use Rattle.bench_model.specs.World.{Move, Thread, Threads, Mode, woken, woken_mode, wakes, newborn, self_after, is_there, threads_after, went}
use Rattle.bench_model.specs.World.Move.{poke, peek, expect, fork, join, arrive, joinstep, spend, end}
use Rattle.bench_model.specs.World.Mode.{running, at_join, at_edges, at_joinstep, spent}
use Rattle.bench_model.proofs.PathFacts.{path_order, path_exact, is_path_refl, is_path_same, is_path_apart, parent_child, child_of_parent, child_same}
use Rattle.std.proofs.lemmas.Bool.{eq-eqb, ne_eqb}
use Rattle.bench_model.proofs.ThreadsFacts.{born_at, woken_at, get_after}

module _ (I : Type 0) where
  -- two threads are woken in either order
  woken_mode_swap : (k j : ℕ) (m : Mode) → woken_mode k (woken_mode j m) ≡ woken_mode j (woken_mode k m)
  woken_mode_swap k j running = refl
  woken_mode_swap k j (at_join i) = go (nat_eq i k) (nat_eq i j) refl refl
    where
      go : (x y : Bool) → nat_eq i k ≡ x → nat_eq i j ≡ y → woken_mode k (woken_mode j (at_join i)) ≡ woken_mode j (woken_mode k (at_join i))
      go true true e f = simp (e, f)
      go true false e f = simp (e, f)
      go false true e f = simp (e, f)
      go false false e f = simp (e, f)
  woken_mode_swap k j (at_edges n) = refl
  woken_mode_swap k j (at_joinstep i) = refl
  woken_mode_swap k j (spent l) = refl

  woken_swap : (k j : ℕ) (o : Option (Thread I)) → option_map (woken k) (option_map (woken j) o) ≡ option_map (woken j) (option_map (woken k) o)
  woken_swap k j None = refl
  woken_swap k j (Some t) = ap (λ m. Some (record t { mode = m })) (woken_mode_swap k j t.mode)

  -- ---- at a path that neither thread has
  born_apart : (c d r : Path) (u v : Thread I) (o : Option (Thread I)) → is_path d c ≡ false → cond (is_path r c) (Some u) (cond (is_path r d) (Some v) o) ≡ cond (is_path r d) (Some v) (cond (is_path r c) (Some u) o)
  born_apart c d r u v o ne = go (is_path r c) (is_path r d) refl refl
    where
      go : (x y : Bool) → is_path r c ≡ x → is_path r d ≡ y → cond x (Some u) (cond y (Some v) o) ≡ cond y (Some v) (cond x (Some u) o)
      go true true e f = absurd (let g : is_path d c ≡ true = subst (λ z. is_path z c ≡ true) (is_path_same r d f) e in cc)
      go true false e f = refl
      go false true e f = refl
      go false false e f = refl

  -- a thread that is woken is none that is born, which is running
  born_woken : (x y : Bool) (k : ℕ) (u : Thread I) (o : Option (Thread I)) → u.mode ≡ running → cond x (Some u) (cond y (option_map (woken k) o) o) ≡ cond y (option_map (woken k) (cond x (Some u) o)) (cond x (Some u) o)
  born_woken true true k u o e = ap (λ m. Some (record u { mode = m })) (e ∙ ap (woken_mode k) (sym e))
  born_woken true false k u o e = refl
  born_woken false true k u o e = refl
  born_woken false false k u o e = refl

-- what a move does to other paths: nothing, a birth, or a waking
pub data Side (I : Type 0) : Option (Path × Thread I) → Option (Path × ℕ) → Type 0 where
  plain : Side I None None
  birth_of : (c : Path) (u : Thread I) → u.mode ≡ running → Side I (Some (c, u)) None
  waking : (q : Path) (k : ℕ) → Side I None (Some (q, k))

-- no birth is at r
abbrev pub Away : {I : Type 0} → Option (Path × Thread I) → Path → Type 0
Away None r = Unit {0}
Away (Some (c, u)) r = is_path r c ≡ false

-- two births are at different paths
abbrev pub Apart : {I : Type 0} → Option (Path × Thread I) → Option (Path × Thread I) → Type 0
Apart None n = Unit {0}
Apart (Some (c, u)) n = Away n c

module _ (I : Type 0) where
  side_of_wake : (o : Option (Path × ℕ)) → Side I None o
  side_of_wake None = plain
  side_of_wake (Some (q, k)) = waking q k

  pub side_of : (p : Path) (t : Thread I) (m : Move I) → Side I (newborn p t m) (wakes p m)
  side_of p t (fork l r c i) = birth_of (child p (length t.forked)) (record { region = r; mode = running; inner = c; forked = []; acts = 0; joined = None }) refl
  side_of p t end = side_of_wake (parent p)
  side_of p t _ = plain

  woken_both : (q q' : Path) (k j : ℕ) (x y : Bool) (o : Option (Thread I)) →
      cond y (option_map (woken j) (cond x (option_map (woken k) o) o)) (cond x (option_map (woken k) o) o) ≡ cond x (option_map (woken k) (cond y (option_map (woken j) o) o)) (cond y (option_map (woken j) o) o)
  woken_both q q' k j true true o = woken_swap I j k o
  woken_both q q' k j true false o = refl
  woken_both q q' k j false true o = refl
  woken_both q q' k j false false o = refl

  -- AT A PATH OF NEITHER
  away_from_both : {na nb : Option (Path × Thread I)} {wa wb : Option (Path × ℕ)} → Side I na wa → Side I nb wb → Apart na nb → (r : Path) (o : Option (Thread I)) →
      born_at nb r (woken_at wb r (born_at na r (woken_at wa r o))) ≡ born_at na r (woken_at wa r (born_at nb r (woken_at wb r o)))
  away_from_both plain plain e r o = refl
  away_from_both plain (birth_of d v f) e r o = refl
  away_from_both plain (waking q k) e r o = refl
  away_from_both (birth_of c u g) plain e r o = refl
  away_from_both (birth_of c u g) (birth_of d v f) e r o = born_apart I d c r v u o e
  away_from_both (birth_of c u g) (waking q k) e r o = sym (born_woken I (is_path r c) (is_path r q) k u o g)
  away_from_both (waking q k) plain e r o = refl
  away_from_both (waking q k) (birth_of d v f) e r o = born_woken I (is_path r d) (is_path r q) k v o f
  away_from_both (waking q k) (waking q' j) e r o = woken_both q q' k j (is_path r q) (is_path r q') o

  -- a waking leaves a thread that doesn't wait for a child
  pub cond_same : {A : Type 0} (x : Bool) (a b : A) → a ≡ b → cond x a b ≡ b
  cond_same true a b e = e
  cond_same false a b e = refl

  pub untouched : {nb : Option (Path × Thread I)} {wb : Option (Path × ℕ)} → Side I nb wb → (r : Path) → Away nb r → (s : Option (Thread I)) → ((k : ℕ) → option_map (woken k) s ≡ s) →
      born_at nb r (woken_at wb r s) ≡ s
  untouched plain r e s h = refl
  untouched (birth_of d v f) r e s h = ap (λ b. cond b (Some v) s) e
  untouched (waking q k) r e s h = cond_same (is_path r q) (option_map (woken k) s) s (h k)

-- ---- AT THE PATH OF ONE OF THEM, where the other acts before or after
module _ (I : Type 0) (ts : Threads I) (a b : Path) (tb : Thread I) (ne : a ≡ b → ⊥) (hb : map.get ts b ≡ Some tb) where
  is_some_woken : (k : ℕ) (o : Option (Thread I)) → is_some (option_map (woken k) o) ≡ is_some o
  is_some_woken k None = refl
  is_some_woken k (Some t) = refl

  is_some_at : (w : Option (Path × ℕ)) (r : Path) (o : Option (Thread I)) → is_some (woken_at w r o) ≡ is_some o
  is_some_at None r o = refl
  is_some_at (Some (q, k)) r o = go (is_path r q)
    where
      go : (x : Bool) → is_some (cond x (option_map (woken k) o) o) ≡ is_some o
      go true = is_some_woken k o
      go false = refl

  not_born : (k : ℕ) (m : Move I) → Away (newborn b tb m) (child a k)
  not_born k (fork l r c i) = is_path_apart (child a k) (child b (length tb.forked)) (λ e. ne (child_same a b k (length tb.forked) e).0)
  not_born k _ = tt

  born_away : (n : Option (Path × Thread I)) (r : Path) (o : Option (Thread I)) → Away n r → born_at n r o ≡ o
  born_away None r o e = refl
  born_away (Some (c, u)) r o e = ap (λ x. cond x (Some u) o) e

  -- whether a child of a is there after b's act
  there_after : (mb : Move I) (xb : ℕ) (k : ℕ) (x : Bool) → is_path (child a k) b ≡ x →
      is_some (map.get (threads_after ts b tb mb xb) (child a k)) ≡ cond x (is_some (self_after tb mb xb (is_there ts b mb))) (is_some (map.get ts (child a k)))
  there_after mb xb k true e = ap is_some (get_after I ts b tb mb xb (child a k) ∙ ap (λ x. cond x (self_after tb mb xb (is_there ts b mb)) (born_at (newborn b tb mb) (child a k) (woken_at (wakes b mb) (child a k) (map.get ts (child a k))))) e)
  there_after mb xb k false e =
      ap is_some (get_after I ts b tb mb xb (child a k) ∙ ap (λ x. cond x (self_after tb mb xb (is_there ts b mb)) (born_at (newborn b tb mb) (child a k) (woken_at (wakes b mb) (child a k) (map.get ts (child a k))))) e
      ∙ born_away (newborn b tb mb) (child a k) (woken_at (wakes b mb) (child a k) (map.get ts (child a k))) (not_born k mb))
      ∙ is_some_at (wakes b mb) (child a k) (map.get ts (child a k))

  there_before : (k : ℕ) → is_path (child a k) b ≡ true → is_some (map.get ts (child a k)) ≡ true
  there_before k e = ap is_some (ap (map.get ts) (is_path_same (child a k) b e) ∙ hb)

  -- a joins, b doesn't end: nothing that a sees has changed
  join_plain : (mb : Move I) (xb : ℕ) (k : ℕ) → is_some (self_after tb mb xb (is_there ts b mb)) ≡ true →
      is_some (map.get (threads_after ts b tb mb xb) (child a k)) ≡ is_some (map.get ts (child a k))
  join_plain mb xb k s = go (is_path (child a k) b) refl
    where
      go : (x : Bool) → is_path (child a k) b ≡ x → is_some (map.get (threads_after ts b tb mb xb) (child a k)) ≡ is_some (map.get ts (child a k))
      go true e = there_after mb xb k true e ∙ s ∙ sym (there_before k e)
      go false e = there_after mb xb k false e

  -- a joins, b ends
  module _ (ta : Thread I) (i : I) (k : ℕ) (xb : ℕ) where
    joined_with : Bool → Option (Thread I)
    joined_with there = Some (went ta i (cond there (at_join k) running) (Some k) ta.forked)

    parent_of_child : is_path (child a k) b ≡ true → parent b ≡ Some (a, k)
    parent_of_child e = ap parent (sym (is_path_same (child a k) b e)) ∙ parent_child a k

    woken_to : (w : Option (Path × ℕ)) → w ≡ Some (a, k) → woken_at w a (joined_with true) ≡ joined_with false
    unfolding joined_with
    woken_to w e = subst (λ v. woken_at v a (joined_with true) ≡ joined_with false) (sym e) (rw (is_path_refl a, eq-eqb k k refl) refl)

    apart_of : (q : Path) (j : ℕ) → parent b ≡ Some (q, j) → is_path (child a k) b ≡ false → a ≡ q → k ≡ j → ⊥
    apart_of q j e f h s =
        let same : child a k ≡ b = ap₂ child h s ∙ sym (child_of_parent b q j e) in
        let wrong : is_path (child a k) b ≡ true = subst (λ z. is_path (child a k) z ≡ true) same (is_path_refl (child a k)) in
        absurd (cc)

    not_woken : (w : Option (Path × ℕ)) → parent b ≡ w → is_path (child a k) b ≡ false → (there : Bool) → woken_at w a (joined_with there) ≡ joined_with there
    unfolding joined_with
    not_woken None e f there = refl
    not_woken (Some (q, j)) e f there = go (is_path a q) refl there
      where
        go : (x : Bool) → is_path a q ≡ x → (there : Bool) → cond x (option_map (woken j) (joined_with there)) (joined_with there) ≡ joined_with there
        go false h there = refl
        go true h false = refl
        go true h true = ap (λ m. Some (went ta i m (Some k) ta.forked)) (ap (λ y. cond y running (at_join k)) (ne_eqb k j (λ s. apart_of q j e f (is_path_same a q h) s)))

    ends_while_joining :
        woken_at (parent b) a (joined_with (is_some (map.get ts (child a k)))) ≡ joined_with (is_some (map.get (threads_after ts b tb end xb) (child a k)))
    ends_while_joining = go (is_path (child a k) b) refl
      where
        go : (x : Bool) → is_path (child a k) b ≡ x → woken_at (parent b) a (joined_with (is_some (map.get ts (child a k)))) ≡ joined_with (is_some (map.get (threads_after ts b tb end xb) (child a k)))
        go true e = ap (λ y. woken_at (parent b) a (joined_with y)) (there_before k e) ∙ woken_to (parent b) (parent_of_child e) ∙ ap joined_with (sym (there_after end xb k true e))
        go false e = not_woken (parent b) refl e (is_some (map.get ts (child a k))) ∙ ap joined_with (sym (there_after end xb k false e))

  -- THE THREAD THAT ACTS is the same, whether the other acted before or after
  module _ (ta : Thread I) (mb : Move I) (xa xb : ℕ) (away : Away (newborn b tb mb) a) where
    stays_self : (s : Option (Thread I)) → ((k : ℕ) → option_map (woken k) s ≡ s) → born_at (newborn b tb mb) a (woken_at (wakes b mb) a s) ≡ s
    stays_self s h = untouched I (side_of I b tb mb) a away s h

  own_join : (ta : Thread I) (mb : Move I) (xa xb : ℕ) → Away (newborn b tb mb) a → (l k : ℕ) (i : I) →
      born_at (newborn b tb mb) a (woken_at (wakes b mb) a (self_after ta (join l k i) xa (is_some (map.get ts (child a k))))) ≡ self_after ta (join l k i) xa (is_some (map.get (threads_after ts b tb mb xb) (child a k)))
  unfolding joined_with
  own_join ta (poke l' q v j) xa xb w l k i = ap (λ y. self_after ta (join l k i) xa y) (sym (join_plain (poke l' q v j) xb k refl))
  own_join ta (peek l' s f j) xa xb w l k i = ap (λ y. self_after ta (join l k i) xa y) (sym (join_plain (peek l' s f j) xb k refl))
  own_join ta (expect l' s f j) xa xb w l k i = ap (λ y. self_after ta (join l k i) xa y) (sym (join_plain (expect l' s f j) xb k refl))
  own_join ta (fork l' r c j) xa xb w l k i =
      ap (λ y. cond y (Some (record { region = r; mode = running; inner = c; forked = []; acts = 0; joined = None })) (self_after ta (join l k i) xa (is_some (map.get ts (child a k))))) w
      ∙ ap (λ y. self_after ta (join l k i) xa y) (sym (join_plain (fork l' r c j) xb k refl))
  own_join ta (join l' n j) xa xb w l k i = ap (λ y. self_after ta (join l k i) xa y) (sym (join_plain (join l' n j) xb k refl))
  own_join ta (arrive l' n j) xa xb w l k i = ap (λ y. self_after ta (join l k i) xa y) (sym (join_plain (arrive l' n j) xb k refl))
  own_join ta (joinstep l' n j) xa xb w l k i = ap (λ y. self_after ta (join l k i) xa y) (sym (join_plain (joinstep l' n j) xb k refl))
  own_join ta (spend l') xa xb w l k i = ap (λ y. self_after ta (join l k i) xa y) (sym (join_plain (spend l') xb k refl))
  own_join ta end xa xb w l k i = ends_while_joining ta i k xb

  pub own : (ta : Thread I) (ma mb : Move I) (xa xb : ℕ) → Away (newborn b tb mb) a →
      born_at (newborn b tb mb) a (woken_at (wakes b mb) a (self_after ta ma xa (is_there ts a ma))) ≡ self_after ta ma xa (is_there (threads_after ts b tb mb xb) a ma)
  own ta (poke l q v i) mb xa xb w = stays_self ta mb xa xb w (Some (went ta (i xa) running None ta.forked)) (λ k. refl)
  own ta (peek l s f i) mb xa xb w = stays_self ta mb xa xb w (Some (went ta (i xa) running None ta.forked)) (λ k. refl)
  own ta (expect l s f i) mb xa xb w = stays_self ta mb xa xb w (Some (went ta i running None ta.forked)) (λ k. refl)
  own ta (fork l r c i) mb xa xb w = stays_self ta mb xa xb w (Some (went ta i running None (ta.forked ++ r ∷ []))) (λ k. refl)
  own ta (join l k i) mb xa xb w = own_join ta mb xa xb w l k i
  own ta (arrive l n i) mb xa xb w = stays_self ta mb xa xb w (Some (went ta i (at_edges n) None ta.forked)) (λ k. refl)
  own ta (joinstep l k i) mb xa xb w = stays_self ta mb xa xb w (Some (went ta i (at_joinstep k) None ta.forked)) (λ k. refl)
  own ta (spend l) mb xa xb w = stays_self ta mb xa xb w (Some (went ta ta.inner (spent l) None ta.forked)) (λ k. refl)
  own ta end mb xa xb w = stays_self ta mb xa xb w None (λ k. refl)

-- two births are apart
births_apart : {I : Type 0} (a b : Path) (ta tb : Thread I) (ne : a ≡ b → ⊥) (ma mb : Move I) → Apart (newborn a ta ma) (newborn b tb mb)
births_apart {I} a b ta tb ne (fork l r c i) mb = not_born_of mb
  where
    not_born_of : (m : Move I) → Away (newborn b tb m) (child a (length ta.forked))
    not_born_of (fork l' r' c' j) = is_path_apart (child a (length ta.forked)) (child b (length tb.forked)) (λ e. ne (child_same a b (length ta.forked) (length tb.forked) e).0)
    not_born_of _ = tt
births_apart a b ta tb ne _ mb = tt

-- ---- THE EXCHANGE OF THREADS
module _ (I : Type 0) (ts : Threads I) (a b : Path) (ta tb : Thread I) (ne : a ≡ b → ⊥) (ha : map.get ts a ≡ Some ta) (hb : map.get ts b ≡ Some tb)
    (ma mb : Move I) (xa xb : ℕ) (awa : Away (newborn a ta ma) b) (awb : Away (newborn b tb mb) a) where
  at_each : (r : Path) (o sa sa' sb sb' : Option (Thread I)) →
      born_at (newborn b tb mb) a (woken_at (wakes b mb) a sa) ≡ sa' → born_at (newborn a ta ma) b (woken_at (wakes a ma) b sb) ≡ sb' →
      (x y : Bool) → is_path r a ≡ x → is_path r b ≡ y →
      cond y sb' (born_at (newborn b tb mb) r (woken_at (wakes b mb) r (cond x sa (born_at (newborn a ta ma) r (woken_at (wakes a ma) r o)))))
      ≡ cond x sa' (born_at (newborn a ta ma) r (woken_at (wakes a ma) r (cond y sb (born_at (newborn b tb mb) r (woken_at (wakes b mb) r o)))))
  at_each r o sa sa' sb sb' ea eb true true p q = absurd (ne (sym (is_path_same r a p) ∙ is_path_same r b q))
  at_each r o sa sa' sb sb' ea eb true false p q = subst (λ z. born_at (newborn b tb mb) z (woken_at (wakes b mb) z sa) ≡ sa') (sym (is_path_same r a p)) ea
  at_each r o sa sa' sb sb' ea eb false true p q = sym (subst (λ z. born_at (newborn a ta ma) z (woken_at (wakes a ma) z sb) ≡ sb') (sym (is_path_same r b q)) eb)
  at_each r o sa sa' sb sb' ea eb false false p q = away_from_both I (side_of I a ta ma) (side_of I b tb mb) (births_apart a b ta tb ne ma mb) r o

  get_both : (p q : Path) (tp tq : Thread I) (mp mq : Move I) (xp xq : ℕ) (r : Path) →
      map.get (threads_after (threads_after ts p tp mp xp) q tq mq xq) r
      ≡ cond (is_path r q) (self_after tq mq xq (is_there (threads_after ts p tp mp xp) q mq)) (born_at (newborn q tq mq) r (woken_at (wakes q mq) r
      (cond (is_path r p) (self_after tp mp xp (is_there ts p mp)) (born_at (newborn p tp mp) r (woken_at (wakes p mp) r (map.get ts r))))))
  get_both p q tp tq mp mq xp xq r =
      get_after I (threads_after ts p tp mp xp) q tq mq xq r
      ∙ ap (λ o. cond (is_path r q) (self_after tq mq xq (is_there (threads_after ts p tp mp xp) q mq)) (born_at (newborn q tq mq) r (woken_at (wakes q mq) r o))) (get_after I ts p tp mp xp r)

  pub threads_exchange : threads_after (threads_after ts a ta ma xa) b tb mb xb ≡ threads_after (threads_after ts b tb mb xb) a ta ma xa
  threads_exchange = map.same_map path_order path_exact _ _
      (λ r. get_both a b ta tb ma mb xa xb r
      ∙ at_each r (map.get ts r) (self_after ta ma xa (is_there ts a ma)) (self_after ta ma xa (is_there (threads_after ts b tb mb xb) a ma))
      (self_after tb mb xb (is_there ts b mb)) (self_after tb mb xb (is_there (threads_after ts a ta ma xa) b mb))
      (own I ts a b tb ne hb ta ma mb xa xb awb) (own I ts b a ta (λ e. ne (sym e)) ha tb mb ma xb xa awa) (is_path r a) (is_path r b) refl refl
      ∙ sym (get_both b a tb ta mb ma xb xa r))
