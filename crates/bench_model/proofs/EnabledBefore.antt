-- A thread that is enabled after an act, to whose next event that act has no link, was enabled before it.
use Rattle.std.proofs.Common.{◌≡◌, ℕ, true, false, Option, Some, None, refl, sym, ap, ap₂, subst, ◌∙◌, inl, inr, ◌⊎◌, ⊎_elim, ◌≤◌, length, option_map, ◌&&◌, nat_lt, ltb-false}
use Rattle.std.specs.FinMap as map
use Rattle.std.proofs.lemmas.Bool.{or_parts}
use Rattle.bench_model.specs.Paths.{Path, is_path, child}
use Rattle.bench_model.specs.Log.{link, is_fork_of, is_end, names_joined}
use Rattle.bench_model.specs.World.{Model, ModelLaws, Move, Thread, World, Enabled, IsRunning, Possible, act_of, answer, wakes, newborn, woken_mode, event_of, kind_of}
use Rattle.bench_model.specs.World.Move.{fork, end}
use Rattle.bench_model.proofs.PathFacts.{is_path_refl, same_path}
use Rattle.bench_model.proofs.Origins.{Origin, itself, born, roused, kept, origin}
use Rattle.bench_model.proofs.StaysPossible.{waker, woken_region}
use Rattle.bench_model.proofs.WorldExchange.{rests}

module _ (M : Model) (L : ModelLaws M) where
  -- a birth is a fork of its path, a waking an end
  birth_forks : (a q : Path) (t u : Thread M.Inner) (m : Move M.Inner) → newborn a t m ≡ Some (q, u) → is_fork_of (kind_of a t m) q ≡ true
  birth_forks a q t u (fork l z c i) e =
      let f : child a (length t.forked) ≡ q = ap (λ (y : Option (Path × Thread M.Inner)). elim y [ None ↦ q | Some w ↦ w.0 ]) e in
      ap (λ z. is_path z q) f ∙ is_path_refl q
  birth_forks a q t u _ e = absurd (cc)

  wakes_ends : (a : Path) (t : Thread M.Inner) (m : Move M.Inner) (z : Path × ℕ) → wakes a m ≡ Some z → is_end (kind_of a t m) ≡ true
  wakes_ends a t end z e = refl
  wakes_ends a t _ z e = absurd (cc)

  -- the four links that are not there
  record Unlinked (a b : Path) (ta tb : Thread M.Inner) : Type 0 where
    no_fork : is_fork_of (kind_of a ta (M.next ta.inner)) b ≡ false
    no_end : (is_end (kind_of a ta (M.next ta.inner)) && names_joined (option_map (λ k. child b k) tb.joined) a) ≡ false
    no_region : nat_lt ta.region tb.region ≡ false

  unlinked : (a b : Path) (ta tb : Thread M.Inner) → link (event_of a ta (M.next ta.inner)) (event_of b tb (M.next tb.inner)) ≡ false → Unlinked a b ta tb
  unlinked a b ta tb f =
      let p = or_parts (is_path a b) _ f in
      let q = or_parts (is_fork_of (kind_of a ta (M.next ta.inner)) b) _ p.1 in
      let r = or_parts (is_end (kind_of a ta (M.next ta.inner)) && names_joined (option_map (λ k. child b k) tb.joined) a) _ q.1 in
      record { no_fork = q.0; no_end = r.0; no_region = r.1 }

  module _ (w : World M.Inner) (P : Possible M w) (a b : Path) (ne : a ≡ b → ⊥) (ea : Enabled w a) (x : ℕ) (tb : Thread M.Inner) (rb : IsRunning tb) (u : Unlinked a b ea.thread tb) where
    -- the thread was there, and running
    was_there : Origin w.threads a ea.thread (M.next ea.thread.inner) x b tb → map.get w.threads b ≡ Some tb
    was_there (itself e f) = absurd (ne (sym e))
    was_there (born e) = absurd (let t = birth_forks a b ea.thread tb (M.next ea.thread.inner) e in let f = u.no_fork in cc)
    was_there (roused k v e g s) =
        ⊎_elim
        (λ f. g ∙ ap Some (ap (λ m. record v { mode = m }) (f ∙ ap (woken_mode k) (sym f)) ∙ s))
        (λ f.
        let c : a ≡ child b k = waker M L a b k (M.next ea.thread.inner) e in
        let j : tb.joined ≡ Some k = ap (λ (y : Thread M.Inner). y.joined) (sym s) ∙ (P.waits b v k g f).1 in
        let n : names_joined (option_map (λ k. child b k) tb.joined) a ≡ true = ap (λ o. names_joined (option_map (λ k. child b k) o) a) j ∙ ap (λ z. is_path z a) (sym c) ∙ is_path_refl a in
        let t : (is_end (kind_of a ea.thread (M.next ea.thread.inner)) && names_joined (option_map (λ k. child b k) tb.joined) a) ≡ true = ap₂ (λ y z. y && z) (wakes_ends a ea.thread (M.next ea.thread.inner) (b, k) e) n in
        let h = u.no_end in
        absurd (cc))
        (woken_region M L k v (ap (λ (y : Thread M.Inner). y.mode) s ∙ rb))
    was_there (kept n g) = g

  -- ENABLED AFTER AN ACT THAT IS NOT BEFORE IT, enabled before it, as the same thread
  pub enabled_before : (w : World M.Inner) → Possible M w → (a b : Path) → (a ≡ b → ⊥) → (ea : Enabled w a) → (eb : Enabled (act_of M w a (Some ea.thread)) b) →
      link (event_of a ea.thread (M.next ea.thread.inner)) (event_of b eb.thread (M.next eb.thread.inner)) ≡ false → Enabled w b × (map.get w.threads b ≡ Some eb.thread)
  enabled_before w P a b ne ea eb f =
      let x : ℕ = answer M w.inputs w.registers (M.next ea.thread.inner) in
      let u : Unlinked a b ea.thread eb.thread = unlinked a b ea.thread eb.thread f in
      let here : map.get w.threads b ≡ Some eb.thread = was_there w P a b ne ea x eb.thread eb.runs u (origin M.Inner w.threads a ea.thread (M.next ea.thread.inner) x b eb.thread eb.here) in (
        record {
          thread = eb.thread;
          here = here;
          runs = eb.runs;
          least = λ q v h r. go q v h r (ltb-false ea.thread.region eb.thread.region u.no_region) (same_path a q);
        },
        here,
      )
    where
      go : (q : Path) (v : Thread M.Inner) → map.get w.threads q ≡ Some v → IsRunning v → eb.thread.region ≤ ea.thread.region → (a ≡ q) ⊎ (a ≡ q → ⊥) → eb.thread.region ≤ v.region
      go q v h r le (inl e) = let s : Some ea.thread ≡ Some v = sym ea.here ∙ ap (map.get w.threads) e ∙ h in let t : ea.thread ≡ v = cc in subst (λ (y : Thread M.Inner). eb.thread.region ≤ y.region) t le
      go q v h r le (inr n) = eb.least q v (rests M L w P a q ea.thread v n ea.here h r (M.next ea.thread.inner) (answer M w.inputs w.registers (M.next ea.thread.inner))) r
