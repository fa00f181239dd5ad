-- The theorem on every order of whole runs.
use Rattle.std.proofs.Common.{◌≡◌, ◌⊎◌, ⊎_elim, inl, inr, ℕ, zero, suc, ◌≤◌, List, [], ◌∷◌, ◌++◌, length, refl, sym, subst, arith, Bool, true, false, nat_le, nat_eq, Option, Some, None, count_by, le_refl, le_trans}
use Rattle.std.proofs.lemmas.Grind.{common_steps}
use Rattle.order_laws.specs.System.{System, Quiet, Permitted, AllClean, after, Left}
use Rattle.order_laws.specs.Runs.{Steps, going, settled, conflicted, bounded, settle_to, look, judge, run_act, Fine, RunAlike, RunPossible, RunEnabled, runs, StepLaws}
use Rattle.order_laws.specs.EveryOrder.{Settled, times_of, actions_at, Follows, chosen_by, chosen}
use Rattle.order_laws.proofs.EveryOrder.{Every, every_order, Rest, rest_of, left_of, whole_order}
use Rattle.order_laws.proofs.RunLaws.{run_laws}

-- ---- orders that go on
module _ (S : System) where
  pub permitted_append : (o p : List S.Actor) (s : S.State) → Permitted S s o → Permitted S (after S s o) p → Permitted S s (o ++ p)
  permitted_append [] p s h k = k
  permitted_append (a ∷ o) p s (e, h) k = (e, permitted_append o p (S.act s a) h k)

  pub after_append : (o p : List S.Actor) (s : S.State) → after S s (o ++ p) ≡ after S (after S s o) p
  after_append [] p s = refl
  after_append (a ∷ o) p s = after_append o p (S.act s a)

  -- the order that a choice gives is permitted
  pub chosen_permitted : (choose : S.State → Option S.Actor) → ((s : S.State) (a : S.Actor) → choose s ≡ Some a → S.Enabled s a) → (n : ℕ) (s : S.State) → Permitted S s (chosen S choose n s)
  chosen_permitted choose h zero s = tt
  chosen_permitted choose h (suc n) s = go (choose s) refl (λ x. chosen_permitted choose h n x)
    where
      go : (o : Option S.Actor) → choose s ≡ o → ((x : S.State) → Permitted S x (chosen S choose n x)) → Permitted S s (chosen_by S (λ x. chosen S choose n x) s o)
      go None e ih = tt
      go (Some a) e ih = (h s a e, ih (S.act s a))

-- ---- whole runs
module _ (S : Steps) (L : StepLaws S) where
  fine_after : (o : List S.world.Actor) (r : (runs S).State) → Fine r → AllClean (runs S) r o → Fine (after (runs S) r o)
  fine_after [] r f c = f
  fine_after (a ∷ o) r f (c, cs) = fine_after o (run_act S r a) c cs

  settled_fine : (r : (runs S).State) → Settled r → Fine r
  settled_fine (going t w) h = tt
  settled_fine (settled t e) h = tt
  settled_fine (conflicted tw w) h = absurd h
  settled_fine (bounded tw w) h = absurd h

  settled_quiet : (r : (runs S).State) → Settled r → Quiet (runs S) r
  settled_quiet (going t w) h = absurd h
  settled_quiet (settled t e) h = λ a k. k
  settled_quiet (conflicted tw w) h = absurd h
  settled_quiet (bounded tw w) h = absurd h

  settled_alike : (r s : (runs S).State) → RunAlike S r s → Settled s → Settled r
  settled_alike (going t w) (going t' v) h k = absurd k
  settled_alike (settled t w) (settled t' v) h k = tt
  settled_alike (conflicted tw w) (conflicted tv v) h k = absurd k
  settled_alike (bounded tw w) (bounded tv v) h k = absurd k
  settled_alike _ _ h k = absurd h

  -- a fine end shows that each act before it was clean
  not_fine_stays : (o : List S.world.Actor) (r : (runs S).State) → (Fine r → ⊥) → Fine (after (runs S) r o) → ⊥
  not_fine_stays [] r n f = n f
  not_fine_stays (a ∷ o) (going t w) n f = n tt
  not_fine_stays (a ∷ o) (settled t e) n f = n tt
  not_fine_stays (a ∷ o) (conflicted tw w) n f = not_fine_stays o (conflicted tw w) (λ k. k) f
  not_fine_stays (a ∷ o) (bounded tw w) n f = not_fine_stays o (bounded tw w) (λ k. k) f

  fine_or_not : (r : (runs S).State) → Fine r ⊎ (Fine r → ⊥)
  fine_or_not (going t w) = inl tt
  fine_or_not (settled t e) = inl tt
  fine_or_not (conflicted tw w) = inr (λ k. k)
  fine_or_not (bounded tw w) = inr (λ k. k)

  clean_before : (o : List S.world.Actor) (r : (runs S).State) → Fine (after (runs S) r o) → AllClean (runs S) r o
  clean_before [] r f = tt
  clean_before (a ∷ o) r f = (⊎_elim (λ h. h) (λ n. absurd (not_fine_stays o (run_act S r a) n f)) (fine_or_not (run_act S r a)), clean_before o (run_act S r a) f)

  -- ---- actions of each time step
  times_settle : (t : List ℕ) (x : S.world.State ⊎ S.Finish) → times_of (settle_to S t x) ≡ t
  times_settle t (inl w) = refl
  times_settle t (inr e) = refl

  times_look : (t : List ℕ) (w : S.world.State) (q f : Bool) → Fine (look S t w q f) → times_of (look S t w q f) ≡ t
  times_look t w true f h = times_settle t (S.settle w)
  times_look t w false true h = absurd h
  times_look t w false false h = refl

  times_judge : (t : List ℕ) (w : S.world.State) (c : Bool) → Fine (judge S t w c) → times_of (judge S t w c) ≡ t
  times_judge t w true h = absurd h
  times_judge t w false h = times_look t w (S.quiet w) (nat_le S.bound (S.size w)) h

  count_more : (time x : ℕ) (t : List ℕ) → count_by (nat_eq time) t ≤ count_by (nat_eq time) (x ∷ t)
  count_more time x t = grind (arith, common_steps)

  times_alike : (r s : (runs S).State) → RunAlike S r s → times_of r ≡ times_of s
  times_alike (going t w) (going t' v) h = h.0
  times_alike (settled t w) (settled t' v) h = h.0
  times_alike (conflicted tw w) (conflicted tv v) h = h
  times_alike (bounded tw w) (bounded tv v) h = h
  times_alike _ _ h = absurd h

  one_more : (time : ℕ) (r : (runs S).State) (a : S.world.Actor) → RunEnabled S r a → Fine (run_act S r a) → actions_at time r ≤ actions_at time (run_act S r a)
  one_more time (going t w) a h f = subst (λ x. count_by (nat_eq time) t ≤ count_by (nat_eq time) x) (sym (times_judge (S.time w ∷ t) (S.world.act w a) (S.conflict w a) f)) (count_more time (S.time w) t)
  one_more time (settled t e) a h f = absurd h
  one_more time (conflicted tw w) a h f = absurd h
  one_more time (bounded tw w) a h f = absurd h

  no_more_than : (time n : ℕ) (r t : (runs S).State) → Left (runs S) n r t → actions_at time r ≤ actions_at time t
  no_more_than time zero r t (quiet, same) = subst (λ x. count_by (nat_eq time) (times_of r) ≤ count_by (nat_eq time) x) (times_alike r t same) (le_refl (count_by (nat_eq time) (times_of r)))
  no_more_than time (suc n) r t (a, h, c, left) = le_trans (one_more time r a h c) (no_more_than time n (run_act S r a) t left)

  -- THE THEOREM: where one order settles, each permitted order follows it
  pub follows : (r : (runs S).State) → RunPossible S r → Fine r → (o : List S.world.Actor) → Permitted (runs S) r o → Settled (after (runs S) r o) →
      (o' : List S.world.Actor) → Permitted (runs S) r o' → Follows S r (after (runs S) r o) o'
  follows r p f o ok done o' ok' =
      let t : (runs S).State = after (runs S) r o in
      let left : Left (runs S) (length o) r t = left_of (runs S) (run_laws S L) o r ok (clean_before o r (settled_fine t done)) (settled_quiet t done) in
      let every : Every (runs S) (run_laws S L) (length o) r t o' = every_order (runs S) (run_laws S L) o' (length o) r t p left ok' in
      let rest : Rest (runs S) (run_laws S L) every.less (after (runs S) r o') t = rest_of (runs S) (run_laws S L) every.less (after (runs S) r o') t every.left in
      let end : after (runs S) r (o' ++ rest.order) ≡ after (runs S) (after (runs S) r o') rest.order = after_append (runs S) o' rest.order r in
      record {
        fine = fine_after o' r f every.clean;
        fewer = λ time. no_more_than time every.less (after (runs S) r o') t every.left;
        more = rest.order;
        permitted = permitted_append (runs S) o' rest.order r ok' rest.permitted;
        settles = subst Settled (sym end) (settled_alike (after (runs S) (after (runs S) r o') rest.order) t rest.same done);
        same = λ h. (whole_order (runs S) (run_laws S L) o' (length o) r t p left ok' (settled_quiet (after (runs S) r o') h)).1;
      }
