-- What an act leaves at each path.
use Rattle.std.proofs.Common.{◌≡◌, ℕ, Bool, true, false, Option, Some, None, refl, sym, ap, ◌∙◌, cond, option_map}
use Rattle.std.specs.FinMap as map
use Rattle.bench_model.specs.Paths.{Path, is_path}
use Rattle.bench_model.specs.World.{Move, Thread, Threads, write, wake, birth, woken, wakes, newborn, self_after, is_there, threads_after}
use Rattle.bench_model.proofs.PathFacts.{path_order, is_path_same}

abbrev pub born_at : {I : Type 0} → Option (Path × Thread I) → Path → Option (Thread I) → Option (Thread I)
born_at None r o = o
born_at (Some (c, u)) r o = cond (is_path r c) (Some u) o

abbrev pub woken_at : {I : Type 0} → Option (Path × ℕ) → Path → Option (Thread I) → Option (Thread I)
woken_at None r o = o
woken_at (Some (q, k)) r o = cond (is_path r q) (option_map (woken k) o) o

module _ (I : Type 0) where
  get_write : (ts : Threads I) (p : Path) (o : Option (Thread I)) (r : Path) → map.get (write ts p o) r ≡ cond (is_path r p) o (map.get ts r)
  unfolding is_path
  get_write ts p None r = map.get-remove path_order ts p r
  get_write ts p (Some t) r = map.get-insert path_order ts p t r

  woken_here : (ts : Threads I) (q r : Path) (k : ℕ) (b : Bool) → is_path r q ≡ b → cond b (option_map (woken k) (map.get ts q)) (map.get ts r) ≡ cond b (option_map (woken k) (map.get ts r)) (map.get ts r)
  woken_here ts q r k true e = ap (λ x. option_map (woken k) (map.get ts x)) (sym (is_path_same r q e))
  woken_here ts q r k false e = refl

  get_wake : (ts : Threads I) (o : Option (Path × ℕ)) (r : Path) → map.get (wake ts o) r ≡ woken_at o r (map.get ts r)
  get_wake ts None r = refl
  get_wake ts (Some (q, k)) r = get_write ts q (option_map (woken k) (map.get ts q)) r ∙ woken_here ts q r k (is_path r q) refl

  get_birth : (ts : Threads I) (o : Option (Path × Thread I)) (r : Path) → map.get (birth ts o) r ≡ born_at o r (map.get ts r)
  get_birth ts None r = refl
  get_birth ts (Some (c, u)) r = get_write ts c (Some u) r

  -- WHAT AN ACT LEAVES at each path
  pub get_after : (ts : Threads I) (p : Path) (t : Thread I) (m : Move I) (a : ℕ) (r : Path) →
      map.get (threads_after ts p t m a) r ≡ cond (is_path r p) (self_after t m a (is_there ts p m)) (born_at (newborn p t m) r (woken_at (wakes p m) r (map.get ts r)))
  get_after ts p t m a r =
      get_write (birth (wake ts (wakes p m)) (newborn p t m)) p (self_after t m a (is_there ts p m)) r
      ∙ ap (cond (is_path r p) (self_after t m a (is_there ts p m))) (get_birth (wake ts (wakes p m)) (newborn p t m) r ∙ ap (born_at (newborn p t m) r) (get_wake ts (wakes p m) r))
