-- Where the threads of a world come from, and how many there are.
use Rattle.std.proofs.Common.{◌≡◌, ℕ, suc, ◌+◌, ◌-◌, ◌≤◌, [], ◌++◌, ◌∷◌, map, length, Bool, true, false, cond, T, Option, Some, None, is_some, nat_le, option_map, refl, sym, ap, subst, ◌∙◌, arith, le_of_eq}
use Rattle.std.specs.FinMap as map
use Rattle.std.specs.Ordering.{eq_by_cmp}
use Rattle.std.proofs.lemmas.List.{length-map}
use Rattle.bench_model.specs.Paths.{Path, path_cmp, is_path, child, parent}
use Rattle.bench_model.specs.World.{Move, Thread, Threads, Mode, newborn, self_after, is_there, went, threads_after, write, wake, woken}
use Rattle.bench_model.specs.World.Move.{poke, peek, expect, fork, join, arrive, joinstep, spend, end}
use Rattle.bench_model.specs.World.Mode.{running, at_join, at_edges, at_joinstep, spent}
use Rattle.bench_model.specs.Settle.{Setting, released, tick_mode, tick}
use Rattle.bench_model.specs.Orders.{root_thread, first_world}
use Rattle.bench_model.proofs.PathFacts.{path_order, is_path_same}
use Rattle.bench_model.proofs.Origins.{Origin, itself, born, roused, kept, origin}
use Rattle.bench_model.proofs.SettleFacts.{get_map_values, sorted_changed}

-- the thread is as it was, but for what it waits for
pub record Core {I : Type 0} (v u : Thread I) : Type 0 where
  pub inner : u.inner ≡ v.inner
  pub forked : u.forked ≡ v.forked
  pub acts : u.acts ≡ v.acts

-- the thread u that is at q after the act of a
pub data Came {I : Type 0} (ts : Threads I) (a : Path) (ta : Thread I) (m : Move I) (x : ℕ) (q : Path) (u : Thread I) : Type 0 where
  acted : self_after ta m x (is_there ts a m) ≡ Some u → Came ts a ta m x q u
  begun : newborn a ta m ≡ Some (q, u) → Came ts a ta m x q u
  stayed : (v : Thread I) → map.get ts q ≡ Some v → Core v u → Came ts a ta m x q u

-- the thread before an edge
pub record Before {I : Type 0} (ts : Threads I) (q : Path) (u : Thread I) : Type 0 where
  pub old : Thread I
  pub here : map.get ts q ≡ Some old
  pub core : Core old u

path_is : (x y : Path) → eq_by_cmp path_cmp x y ≡ true → x ≡ y
unfolding is_path
path_is x y e = is_path_same x y e

module _ (I : Type 0) where
  core_same : (t : Thread I) → Core t t
  core_same t = record { inner = refl; forked = refl; acts = refl }

  core_woken : (k : ℕ) (t : Thread I) → Core t (woken k t)
  core_woken k t = record { inner = refl; forked = refl; acts = refl }

  -- AFTER AN ACT a thread has acted, was born, or is as it was
  pub came : (ts : Threads I) (a : Path) (ta : Thread I) (m : Move I) (x : ℕ) (q : Path) (u : Thread I) → map.get (threads_after ts a ta m x) q ≡ Some u → Came ts a ta m x q u
  came ts a ta m x q u h = go (origin I ts a ta m x q u h)
    where
      go : Origin ts a ta m x q u → Came ts a ta m x q u
      go (itself e f) = acted f
      go (born e) = begun e
      go (roused k v e g s) = stayed v g (subst (λ z. Core v z) s (core_woken k v))
      go (kept n g) = stayed u g (core_same u)

  core_tick : (ts : Threads I) (q : Path) (t : Thread I) (m : Mode) → Core t (tick_mode ts q t m)
  core_tick ts q t running = core_same t
  core_tick ts q t (at_join k) = core_same t
  core_tick ts q t (at_edges n) = go (nat_le n 1)
    where
      go : (b : Bool) → Core t (cond b (released t) (record t { mode = at_edges (n - 1) }))
      go true = record { inner = refl; forked = refl; acts = refl }
      go false = record { inner = refl; forked = refl; acts = refl }
  core_tick ts q t (at_joinstep k) = go (is_some (map.get ts (child q k)))
    where
      go : (b : Bool) → Core t (cond b t (released t))
      go true = core_same t
      go false = record { inner = refl; forked = refl; acts = refl }
  core_tick ts q t (spent l) = core_same t

  get_tick : (ts : Threads I) (q : Path) → map.get (tick ts) q ≡ option_map (λ t. tick_mode ts q t t.mode) (map.get ts q)
  get_tick ts q = get_map_values path_cmp (λ (p : Path) (t : Thread I). tick_mode ts p t t.mode) path_is ts q

  -- AFTER AN EDGE a thread is as it was
  pub before_edge : (ts : Threads I) (q : Path) (u : Thread I) → map.get (tick ts) q ≡ Some u → Before ts q u
  before_edge ts q u h = go (map.get ts q) refl (sym (get_tick ts q) ∙ h)
    where
      go : (o : Option (Thread I)) → map.get ts q ≡ o → option_map (λ t. tick_mode ts q t t.mode) o ≡ Some u → Before ts q u
      go None e f = absurd (cc)
      go (Some t) e f = let g : tick_mode ts q t t.mode ≡ u = cc in record { old = t; here = e; core = subst (λ z. Core t z) g (core_tick ts q t t.mode) }

  -- ---- how many there are
  put_len : (ts : Threads I) (q : Path) (u : Thread I) → map.len (map.insert ts q u) ≤ suc (map.len ts)
  put_len ts q u = subst (λ n. n ≤ suc (map.len ts)) (sym (map.len-insert path_order ts q u)) (go (map.contains_key ts q))
    where
      go : (b : Bool) → cond b (map.len ts) (map.len ts + 1) ≤ suc (map.len ts)
      go true = omega arith
      go false = omega arith

  put_again : (ts : Threads I) (q : Path) (u : Thread I) → is_some (map.get ts q) ≡ true → map.len (map.insert ts q u) ≡ map.len ts
  put_again ts q u h = map.len-insert path_order ts q u ∙ ap (λ b. cond b (map.len ts) (map.len ts + 1)) h

  drop_len : (ts : Threads I) (q : Path) → map.len (map.remove ts q) ≤ map.len ts
  drop_len ts q = subst (λ n. n ≤ map.len ts) (sym (map.len-remove path_order ts q)) (go (map.contains_key ts q))
    where
      go : (b : Bool) → cond b (map.len ts - 1) (map.len ts) ≤ map.len ts
      go true = omega arith
      go false = omega arith

  wake_len : (ts : Threads I) (o : Option (Path × ℕ)) → map.len (wake ts o) ≤ map.len ts
  wake_len ts None = le_of_eq refl
  wake_len ts (Some (q, k)) = go (map.get ts q) refl
    where
      go : (o : Option (Thread I)) → map.get ts q ≡ o → map.len (write ts q (option_map (woken k) o)) ≤ map.len ts
      go None e = drop_len ts q
      go (Some t) e = le_of_eq (put_again ts q (woken k t) (ap is_some e))

  stays_there : (ts : Threads I) (c a : Path) (u ta : Thread I) → map.get ts a ≡ Some ta → is_some (map.get (map.insert ts c u) a) ≡ true
  unfolding is_path
  stays_there ts c a u ta h = ap is_some (map.get-insert path_order ts c u a) ∙ go (is_path a c)
    where
      go : (b : Bool) → is_some (cond b (Some u) (map.get ts a)) ≡ true
      go true = refl
      go false = ap is_some h

  fork_len : (ts : Threads I) (c a : Path) (u ta t : Thread I) → map.get ts a ≡ Some ta → map.len (map.insert (map.insert ts c u) a t) ≤ suc (map.len ts)
  fork_len ts c a u ta t h = subst (λ n. n ≤ suc (map.len ts)) (sym (put_again (map.insert ts c u) a t (stays_there ts c a u ta h))) (put_len ts c u)

  end_len : (ts : Threads I) (o : Option (Path × ℕ)) (a : Path) → map.len (map.remove (wake ts o) a) ≤ suc (map.len ts)
  end_len ts o a =
      let d : map.len (map.remove (wake ts o) a) ≤ map.len (wake ts o) = drop_len (wake ts o) a in
      let e : map.len (wake ts o) ≤ map.len ts = wake_len ts o in omega arith

  -- AN ACT makes at most one thread more
  pub after_len : (ts : Threads I) (a : Path) (ta : Thread I) (m : Move I) (x : ℕ) → map.get ts a ≡ Some ta → map.len (threads_after ts a ta m x) ≤ suc (map.len ts)
  after_len ts a ta (poke l p v i) x h = put_len ts a (went ta (i x) running None ta.forked)
  after_len ts a ta (peek l s b i) x h = put_len ts a (went ta (i x) running None ta.forked)
  after_len ts a ta (expect l s v i) x h = put_len ts a (went ta i running None ta.forked)
  after_len ts a ta (fork l r c i) x h =
      fork_len ts (child a (length ta.forked)) a (record { region = r; mode = running; inner = c; forked = []; acts = 0; joined = None }) ta (went ta i running None (ta.forked ++ r ∷ [])) h
  after_len ts a ta (join l k i) x h = put_len ts a (went ta i (cond (is_some (map.get ts (child a k))) (at_join k) running) (Some k) ta.forked)
  after_len ts a ta (arrive l n i) x h = put_len ts a (went ta i (at_edges n) None ta.forked)
  after_len ts a ta (joinstep l k i) x h = put_len ts a (went ta i (at_joinstep k) None ta.forked)
  after_len ts a ta (spend l) x h = put_len ts a (went ta ta.inner (spent l) None ta.forked)
  after_len ts a ta end x h = end_len ts (parent a) a

  -- AN EDGE makes none
  pub edge_len : (ts : Threads I) → map.len (tick ts) ≡ map.len ts
  edge_len ts =
      map.len-entries (tick ts)
      ∙ ap length (map.entries-from_sorted path_cmp (map {B = Path × Thread I} (λ (e : Path × Thread I). (e.0, tick_mode ts e.0 e.1 e.1.mode)) (map.entries ts))
      (subst T (sym (sorted_changed path_cmp (λ (p : Path) (t : Thread I). tick_mode ts p t t.mode) (map.entries ts))) (map.entries_sorted ts)))
      ∙ length-map (map.entries ts) (λ (e : Path × Thread I). (e.0, tick_mode ts e.0 e.1 e.1.mode))
      ∙ sym (map.len-entries ts)

-- ---- the first world
module _ (S : Setting) where
  -- ONLY THE ROOT THREAD is in it
  pub only_root : (q : Path) (t : Thread S.model.Inner) → map.get (first_world S).threads q ≡ Some t → t ≡ root_thread S.root
  unfolding is_path
  only_root q t e = go (is_path q []) (sym (map.get-insert path_order map.empty [] (root_thread S.root) q ∙ ap (cond (is_path q []) (Some (root_thread S.root))) (map.get-empty path_cmp q)) ∙ e)
    where
      go : (b : Bool) → cond b (Some (root_thread S.root)) None ≡ Some t → t ≡ root_thread S.root
      go true g = cc
      go false g = absurd (cc)

  pub first_len : map.len (first_world S).threads ≤ 1
  first_len = subst (λ n. map.len (first_world S).threads ≤ suc n) (map.len-empty path_cmp (Thread S.model.Inner)) (put_len S.model.Inner map.empty [] (root_thread S.root))
