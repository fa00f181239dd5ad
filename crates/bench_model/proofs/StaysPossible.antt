-- An enabled thread stays enabled, and what is possible stays so.
use Rattle.std.proofs.Common.{◌≡◌, ℕ, List, Bool, true, false, Option, Some, None, refl, sym, ap, subst, ◌∙◌, arith, inl, inr, ◌⊎◌, ⊎_elim, ◌≤◌, cond, slice_index, nat_eq, eqb-true}
use Rattle.std.specs.FinMap as map
use Rattle.bench_model.specs.Paths.{Path, child}
use Rattle.bench_model.specs.World.{Model, ModelLaws, Move, Thread, World, Mode, Enabled, IsRunning, Possible, FitsMove, act_of, answer, wakes, newborn, is_there, woken_mode}
use Rattle.bench_model.specs.World.Move.{fork, end}
use Rattle.bench_model.specs.World.Mode.{running, at_join, at_edges, at_joinstep, spent}
use Rattle.bench_model.proofs.PathFacts.{child_of_parent}
use Rattle.bench_model.proofs.Origins.{Origin, itself, born, roused, kept, origin, self_region}
use Rattle.bench_model.proofs.WorldExchange.{rests}

module _ (M : Model) (L : ModelLaws M) where
  -- a child is born into no lesser region than its parent's
  pub born_region : (r : ℕ) (forked : List ℕ) (a q : Path) (t u : Thread M.Inner) (m : Move M.Inner) → FitsMove M r forked m → newborn a t m ≡ Some (q, u) → r ≤ u.region
  born_region r forked a q t u (fork l z c i) (h, _, _) e = subst (λ n. r ≤ n) (ap (λ (y : Option (Path × Thread M.Inner)). elim y [ None ↦ z | Some w ↦ w.1.region ]) e) h
  born_region r forked a q t u _ f e = absurd (cc)

  pub woken_region : (k : ℕ) (v : Thread M.Inner) → woken_mode k v.mode ≡ running → (v.mode ≡ running) ⊎ (v.mode ≡ at_join k)
  woken_region k v e = go v.mode refl e
    where
      at : (j : ℕ) (b : Bool) → nat_eq j k ≡ b → v.mode ≡ at_join j → cond b running (at_join j) ≡ running → (v.mode ≡ running) ⊎ (v.mode ≡ at_join k)
      at j true f g h = inr (g ∙ ap at_join (eqb-true j k f))
      at j false f g h = absurd (cc)

      go : (y : Mode) → v.mode ≡ y → woken_mode k y ≡ running → (v.mode ≡ running) ⊎ (v.mode ≡ at_join k)
      go running f h = inl f
      go (at_join j) f h = at j (nat_eq j k) refl f h
      go (at_edges n) f h = absurd (cc)
      go (at_joinstep j) f h = absurd (cc)
      go (spent l) f h = absurd (cc)

  pub waker : (a q : Path) (k : ℕ) (m : Move M.Inner) → wakes a m ≡ Some (q, k) → a ≡ child q k
  waker a q k end e = child_of_parent a q k e
  waker a q k _ e = absurd (cc)

  module _ (w : World M.Inner) (P : Possible M w) (a : Path) (ta : Thread M.Inner) (ha : map.get w.threads a ≡ Some ta) where
    -- no act makes a thread of a lesser region running
    pub no_lesser : (n : ℕ) → n ≤ ta.region → ((q : Path) (u : Thread M.Inner) → map.get w.threads q ≡ Some u → IsRunning u → n ≤ u.region) →
        (x : ℕ) (q : Path) (u : Thread M.Inner) → Origin w.threads a ta (M.next ta.inner) x q u → IsRunning u → n ≤ u.region
    no_lesser n h least x q u (itself _ e) r = subst (λ y. n ≤ y) (sym (self_region M.Inner ta u (M.next ta.inner) x (is_there w.threads a (M.next ta.inner)) e)) h
    no_lesser n h least x q u (born e) r =
        let g : ta.region ≤ u.region = born_region ta.region ta.forked a q ta u (M.next ta.inner) (L.fits_next ta.region ta.forked ta.inner (P.fits a ta ha)) e in omega arith
    no_lesser n h least x q u (roused k v e g s) r =
        ⊎_elim
        (λ f. subst (λ (y : Thread M.Inner). n ≤ y.region) s (least q v g f))
        (λ f.
        let c : a ≡ child q k = waker a q k (M.next ta.inner) e in
        let one : ta.region ≡ slice_index v.forked k = P.regions q v k ta g (ap (map.get w.threads) (sym c) ∙ ha) in
        let two : slice_index v.forked k ≤ v.region = (P.waits q v k g f).0 in
        let three : n ≤ v.region = omega arith in
        subst (λ (y : Thread M.Inner). n ≤ y.region) s three)
        (woken_region k v (ap (λ (y : Thread M.Inner). y.mode) s ∙ r))
    no_lesser n h least x q u (kept _ g) r = least q u g r

  -- AN ENABLED THREAD STAYS ENABLED, as the same thread
  pub stays_known : (w : World M.Inner) → Possible M w → (a b : Path) → (a ≡ b → ⊥) → (ea : Enabled w a) → (eb : Enabled w b) → Enabled (act_of M w a (Some ea.thread)) b
  stays_known w P a b ne ea eb = record {
    thread = eb.thread;
    here = rests M L w P a b ea.thread eb.thread ne ea.here eb.here eb.runs (M.next ea.thread.inner) (answer M w.inputs w.registers (M.next ea.thread.inner));
    runs = eb.runs;
    least = λ q u h r. no_lesser w P a ea.thread ea.here eb.thread.region (eb.least a ea.thread ea.here ea.runs) eb.least
        (answer M w.inputs w.registers (M.next ea.thread.inner)) q u
        (origin M.Inner w.threads a ea.thread (M.next ea.thread.inner) (answer M w.inputs w.registers (M.next ea.thread.inner)) q u h) r;
  }
