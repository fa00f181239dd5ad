-- A test that a log is formed, which computes: for worked examples.
use Rattle.std.proofs.Common.{◌≡◌, ⊎_elim, inl, inr, ℕ, List, [], ◌∷◌, ◌++◌, length, Bool, true, false, not, ◌&&◌, ◌||◌, nat_eq, nat_le, Option, Some, None, refl, sym, ap, subst, ◌∙◌, eqb-true, leb-true, eq-eqb}
use Rattle.std.proofs.lemmas.List.{append-nil}
use Rattle.std.proofs.lemmas.Bool.{and_parts, and_from, or_cases, or_left, or_right}
use Rattle.bench_model.specs.Paths.{Path, is_path, child, parent}
use Rattle.bench_model.specs.Log.{Kind, Event, is_fork_of, is_end, names_joined}
use Rattle.bench_model.specs.Log.Kind.{forks}
use Rattle.bench_model.specs.Conflict.{HasAt}
use Rattle.bench_model.specs.Formed.{HasFork, Formed}
use Rattle.bench_model.proofs.PathFacts.{is_path_refl, is_path_same, child_of_parent}
use Rattle.bench_model.proofs.FormedFacts.{Ended, Fits, formed_more, formed_empty}
use Rattle.order_rel.proofs.LinkFacts.{is_fork, fork_is, is_joined, end_is}

-- ---- tests
abbrev every : (Event → Bool) → List Event → Bool
every test [] = true
every test (d ∷ log) = test d && every test log

abbrev some : (Event → Bool) → List Event → Bool
some test [] = false
some test (d ∷ log) = test d || some test log

abbrev implies : Bool → Bool → Bool
implies a b = not a || b

-- p begins with c
abbrev begins : Path → Path → Bool
begins [] p = true
begins (j ∷ c) [] = false
begins (j ∷ c) (k ∷ p) = nat_eq j k && begins c p

abbrev is_child : Option (Path × ℕ) → Path → Bool
is_child None p = false
is_child (Some (q, k)) p = is_path q p

abbrev forks_own : Path → Kind → Bool
forks_own p (forks c) = is_child (parent c) p
forks_own p _ = true

abbrev joins_own : Path → Option Path → Bool
joins_own p None = true
joins_own p (Some c) = is_child (parent c) p

-- what is forked is new
abbrev forks_new : Kind → Event → Bool
forks_new (forks c) d = not (is_fork_of d.kind c) && not (begins c d.path)
forks_new _ d = true

abbrev forks_above : Kind → Path → Bool
forks_above (forks c) p = begins c p
forks_above _ p = false

abbrev is_ended : List Event → Option Path → Bool
is_ended log None = true
is_ended log (Some c) = implies (some (λ d. is_path d.path c) log) (some (λ d. is_path d.path c && is_end d.kind) log)

-- the new event beside an earlier one
abbrev fits_beside : Event → Event → Bool
fits_beside e d =
    forks_new e.kind d && (not (is_path d.path e.path && is_end d.kind) && (not (names_joined d.joined e.path)
    && (implies (is_path d.path e.path) (nat_eq d.region e.region) && nat_le d.region e.region)))

abbrev fits_after : List Event → Event → Bool
fits_after log e =
    forks_own e.path e.kind && (joins_own e.path e.joined && (is_ended log e.joined
    && (implies (some (λ d. forks_above d.kind e.path) log) (some (λ d. is_fork_of d.kind e.path) log) && every (fits_beside e) log)))

abbrev pub is_formed : List Event → Bool
is_formed [] = true
is_formed (e ∷ log) = fits_after log e && is_formed log

-- ---- what they say
every_at : (test : Event → Bool) (log : List Event) (i : ℕ) (d : Event) → every test log ≡ true → HasAt log i d → test d ≡ true
every_at test [] i d h a = absurd a
every_at test (e ∷ log) i d h (inl (_, s)) = ap test s ∙ (and_parts (test e) (every test log) h).0
every_at test (e ∷ log) i d h (inr a) = every_at test log i d (and_parts (test e) (every test log) h).1 a

some_at : (test : Event → Bool) (log : List Event) (i : ℕ) (d : Event) → HasAt log i d → test d ≡ true → some test log ≡ true
some_at test [] i d a h = absurd a
some_at test (e ∷ log) i d (inl (_, s)) h = or_left (test e) (some test log) (ap test (sym s) ∙ h)
some_at test (e ∷ log) i d (inr a) h = or_right (test e) (some test log) (some_at test log i d a h)

at_some : (test : Event → Bool) (log : List Event) → some test log ≡ true → (i : ℕ) × (d : Event) × HasAt log i d × (test d ≡ true)
at_some test [] h = absurd (cc)
at_some test (e ∷ log) h =
    ⊎_elim (λ t. (length log, e, inl (refl, refl), t)) (λ t. let f = at_some test log t in (f.0, f.1, inr f.2, f.3)) (or_cases (test e) (some test log) h)

implied : (a b : Bool) → implies a b ≡ true → a ≡ true → b ≡ true
implied true b h e = h
implied false b h e = absurd (cc)

not_both : (b : Bool) → not b ≡ true → b ≡ true → ⊥
not_both true h e = absurd (cc)
not_both false h e = absurd (cc)

begins_of : (c p s : Path) → p ≡ c ++ s → begins c p ≡ true
begins_of c p s e = subst (λ z. begins c z ≡ true) (sym e) (go c)
  where
    go : (c : Path) → begins c (c ++ s) ≡ true
    go [] = refl
    go (j ∷ c) = and_from (nat_eq j j) (begins c (c ++ s)) (eq-eqb j j refl) (go c)

child_is : (c p : Path) (o : Option (Path × ℕ)) → parent c ≡ o → is_child o p ≡ true → (k : ℕ) × (c ≡ child p k)
child_is c p None e h = absurd (cc)
child_is c p (Some (q, k)) e h = (k, child_of_parent c q k e ∙ ap (λ z. child z k) (is_path_same q p h))

record Beside (e d : Event) : Type 0 where
  pub new : forks_new e.kind d ≡ true
  pub alive : not (is_path d.path e.path && is_end d.kind) ≡ true
  pub not_joined : not (names_joined d.joined e.path) ≡ true
  pub one_region : implies (is_path d.path e.path) (nat_eq d.region e.region) ≡ true
  pub rises : nat_le d.region e.region ≡ true

beside_of : (e d : Event) → fits_beside e d ≡ true → Beside e d
beside_of e d h =
    let a = and_parts (forks_new e.kind d) _ h in
    let b = and_parts (not (is_path d.path e.path && is_end d.kind)) _ a.1 in
    let c = and_parts (not (names_joined d.joined e.path)) _ b.1 in
    let f = and_parts (implies (is_path d.path e.path) (nat_eq d.region e.region)) _ c.1 in
    record { new = a.0; alive = b.0; not_joined = c.0; one_region = f.0; rises = f.1 }

record After (log : List Event) (e : Event) : Type 0 where
  pub own_fork : forks_own e.path e.kind ≡ true
  pub own_join : joins_own e.path e.joined ≡ true
  pub ended : is_ended log e.joined ≡ true
  pub forked : implies (some (λ d. forks_above d.kind e.path) log) (some (λ d. is_fork_of d.kind e.path) log) ≡ true
  pub beside : every (fits_beside e) log ≡ true

after_of : (log : List Event) (e : Event) → fits_after log e ≡ true → After log e
after_of log e h =
    let a = and_parts (forks_own e.path e.kind) _ h in
    let b = and_parts (joins_own e.path e.joined) _ a.1 in
    let c = and_parts (is_ended log e.joined) _ b.1 in
    let f = and_parts (implies (some (λ d. forks_above d.kind e.path) log) (some (λ d. is_fork_of d.kind e.path) log)) _ c.1 in
    record { own_fork = a.0; own_join = b.0; ended = c.0; forked = f.0; beside = f.1 }

module _ (log : List Event) (e : Event) (t : After log e) where
  beside : (i : ℕ) (d : Event) → HasAt log i d → Beside e d
  beside i d h = beside_of e d (every_at (fits_beside e) log i d t.beside h)

  new_of : (d : Event) (c : Path) → forks_new e.kind d ≡ true → e.kind ≡ forks c → (not (is_fork_of d.kind c) ≡ true) × (not (begins c d.path) ≡ true)
  new_of d c h k = and_parts (not (is_fork_of d.kind c)) _ (subst (λ z. forks_new z d ≡ true) k h)

  below_new : (i : ℕ) (d : Event) (c s : Path) → HasAt log i d → e.kind ≡ forks c → d.path ≡ c ++ s → ⊥
  below_new i d c s h k p = not_both (begins c d.path) (new_of d c (beside i d h).new k).1 (begins_of c d.path s p)

  ended : (o : Option Path) → e.joined ≡ o → is_ended log o ≡ true → (i : ℕ) (d : Event) → HasAt log i d → o ≡ Some d.path → Ended log d.path
  ended None j h i d a s = absurd (cc)
  ended (Some c) j h i d a s =
      let same : c ≡ d.path = cc in
      let f = at_some (λ d. is_path d.path c && is_end d.kind) log
      (implied (some (λ d. is_path d.path c) log) _ h (some_at (λ d. is_path d.path c) log i d a (subst (λ z. is_path d.path z ≡ true) (sym same) (is_path_refl d.path)))) in
      let b = and_parts (is_path f.1.path c) (is_end f.1.kind) f.3 in
      record { event = f.1; spot = f.0; stands = f.2; of_thread = is_path_same f.1.path c b.0 ∙ same; is_end = end_is f.1.kind b.1 }

  fits : Fits log e
  fits = record {
    forks_child = λ c k. child_is c e.path (parent c) refl (subst (λ z. forks_own e.path z ≡ true) k t.own_fork);
    fork_new = λ i d c h k l. not_both (is_fork_of d.kind c) (new_of d c (beside i d h).new k).0 (is_fork d.kind c l);
    path_new = λ i d c h k p. below_new i d c [] h k (p ∙ sym (append-nil c));
    below_new = λ i d c k q h l p. below_new i d c (k ∷ q) h l p;
    alive = λ i d h p l. not_both (is_path d.path e.path && is_end d.kind) (beside i d h).alive
        (and_from (is_path d.path e.path) (is_end d.kind) (subst (λ z. is_path d.path z ≡ true) p (is_path_refl d.path)) (ap is_end l));
    joins_child = λ c j. child_is c e.path (parent c) refl (subst (λ z. joins_own e.path z ≡ true) j t.own_join);
    joined_ended = λ i d h j. ended e.joined refl t.ended i d h j;
    not_joined = λ i d h j. not_both (names_joined d.joined e.path) (beside i d h).not_joined (is_joined d.joined e.path j);
    forked = λ i d c k q h l p. forked i d c (k ∷ q) h l p;
    one_region = λ i d h p. eqb-true d.region e.region
        (implied (is_path d.path e.path) (nat_eq d.region e.region) (beside i d h).one_region (subst (λ z. is_path d.path z ≡ true) p (is_path_refl d.path)));
    rises = λ i d h. leb-true d.region e.region (beside i d h).rises;
  }
    where
      forked : (i : ℕ) (d : Event) (c s : Path) → HasAt log i d → d.kind ≡ forks c → e.path ≡ c ++ s → HasFork log e.path
      forked i d c s h l p =
          let above : forks_above d.kind e.path ≡ true = subst (λ z. forks_above z e.path ≡ true) (sym l) (begins_of c e.path s p) in
          let f = at_some (λ d. is_fork_of d.kind e.path) log
          (implied (some (λ d. forks_above d.kind e.path) log) _ t.forked (some_at (λ d. forks_above d.kind e.path) log i d h above)) in
          record { event = f.1; spot = f.0; stands = f.2; is_fork = fork_is f.1.kind e.path f.3 }

-- A LOG THAT PASSES THE TEST is formed
pub formed_by : (log : List Event) → is_formed log ≡ true → Formed log
formed_by [] h = formed_empty
formed_by (e ∷ log) h =
    let a = and_parts (fits_after log e) (is_formed log) h in
    formed_more log e (formed_by log a.1) (fits log e (after_of log e a.0))
