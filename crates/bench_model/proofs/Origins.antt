-- Where each thread after an act comes from.
use Rattle.std.proofs.Common.{◌≡◌, ℕ, Bool, true, false, Option, Some, None, refl, sym, ap, ap₂, subst, ◌∙◌, cond, option_map}
use Rattle.std.specs.FinMap as map
use Rattle.bench_model.specs.Paths.{Path, is_path}
use Rattle.bench_model.specs.World.{Move, Thread, Threads, wakes, newborn, self_after, is_there, threads_after, woken}
use Rattle.bench_model.specs.World.Move.{poke, peek, expect, fork, join, arrive, joinstep, spend, end}
use Rattle.bench_model.proofs.PathFacts.{is_path_refl, is_path_same}
use Rattle.bench_model.proofs.ThreadsFacts.{born_at, woken_at, get_after}

-- the thread u that is at q after the act of a
pub data Origin {I : Type 0} (ts : Threads I) (a : Path) (ta : Thread I) (m : Move I) (x : ℕ) (q : Path) (u : Thread I) : Type 0 where
  itself : q ≡ a → self_after ta m x (is_there ts a m) ≡ Some u → Origin ts a ta m x q u
  born : newborn a ta m ≡ Some (q, u) → Origin ts a ta m x q u
  roused : (k : ℕ) (v : Thread I) → wakes a m ≡ Some (q, k) → map.get ts q ≡ Some v → woken k v ≡ u → Origin ts a ta m x q u
  kept : (q ≡ a → ⊥) → map.get ts q ≡ Some u → Origin ts a ta m x q u

module _ (I : Type 0) (ts : Threads I) (a : Path) (ta : Thread I) (m : Move I) (x : ℕ) (q : Path) (u : Thread I) where
  some_same : {A : Type 0} (y z : A) → Some y ≡ Some z → y ≡ z
  some_same y z e = cc

  from_rouse : (p : Path) (k : ℕ) → wakes a m ≡ Some (p, k) → q ≡ p → (o : Option (Thread I)) → map.get ts q ≡ o → option_map (woken k) o ≡ Some u → Origin ts a ta m x q u
  from_rouse p k w e None g h = absurd (cc)
  from_rouse p k w e (Some v) g h = roused k v (w ∙ ap (λ z. Some (z, k)) (sym e)) g (some_same (woken k v) u h)

  from_wake : (q ≡ a → ⊥) → (w : Option (Path × ℕ)) → wakes a m ≡ w → woken_at w q (map.get ts q) ≡ Some u → Origin ts a ta m x q u
  from_wake ne None e h = kept ne h
  from_wake ne (Some (p, k)) e h = go (is_path q p) refl h
    where
      go : (y : Bool) → is_path q p ≡ y → cond y (option_map (woken k) (map.get ts q)) (map.get ts q) ≡ Some u → Origin ts a ta m x q u
      go true f h = from_rouse p k e (is_path_same q p f) (map.get ts q) refl h
      go false f h = kept ne h

  from_birth : (q ≡ a → ⊥) → (n : Option (Path × Thread I)) → newborn a ta m ≡ n → born_at n q (woken_at (wakes a m) q (map.get ts q)) ≡ Some u → Origin ts a ta m x q u
  from_birth ne None e h = from_wake ne (wakes a m) refl h
  from_birth ne (Some (c, v)) e h = go (is_path q c) refl h
    where
      go : (y : Bool) → is_path q c ≡ y → cond y (Some v) (woken_at (wakes a m) q (map.get ts q)) ≡ Some u → Origin ts a ta m x q u
      go true f h = born (e ∙ ap₂ (λ (z : Path) (t : Thread I). Some (z, t)) (sym (is_path_same q c f)) (some_same v u h))
      go false f h = from_wake ne (wakes a m) refl h

  not_same : is_path q a ≡ false → q ≡ a → ⊥
  not_same f e = let t : is_path q a ≡ true = subst (λ z. is_path q z ≡ true) e (is_path_refl q) in absurd (cc)

  pub origin : map.get (threads_after ts a ta m x) q ≡ Some u → Origin ts a ta m x q u
  origin h = go (is_path q a) refl (sym (get_after I ts a ta m x q) ∙ h)
    where
      go : (y : Bool) → is_path q a ≡ y → cond y (self_after ta m x (is_there ts a m)) (born_at (newborn a ta m) q (woken_at (wakes a m) q (map.get ts q))) ≡ Some u → Origin ts a ta m x q u
      go true f h = itself (is_path_same q a f) h
      go false f h = from_birth (not_same f) (newborn a ta m) refl h

-- ---- what each origin keeps
module _ (I : Type 0) where
  pub self_region : (t u : Thread I) (m : Move I) (x : ℕ) (b : Bool) → self_after t m x b ≡ Some u → u.region ≡ t.region
  self_region t u (poke l q v i) x b e = ap (λ (y : Option (Thread I)). elim y [ None ↦ t.region | Some z ↦ z.region ]) (sym e)
  self_region t u (peek l s f i) x b e = ap (λ (y : Option (Thread I)). elim y [ None ↦ t.region | Some z ↦ z.region ]) (sym e)
  self_region t u (expect l s f i) x b e = ap (λ (y : Option (Thread I)). elim y [ None ↦ t.region | Some z ↦ z.region ]) (sym e)
  self_region t u (fork l r c i) x b e = ap (λ (y : Option (Thread I)). elim y [ None ↦ t.region | Some z ↦ z.region ]) (sym e)
  self_region t u (join l k i) x b e = ap (λ (y : Option (Thread I)). elim y [ None ↦ t.region | Some z ↦ z.region ]) (sym e)
  self_region t u (arrive l n i) x b e = ap (λ (y : Option (Thread I)). elim y [ None ↦ t.region | Some z ↦ z.region ]) (sym e)
  self_region t u (joinstep l k i) x b e = ap (λ (y : Option (Thread I)). elim y [ None ↦ t.region | Some z ↦ z.region ]) (sym e)
  self_region t u (spend l) x b e = ap (λ (y : Option (Thread I)). elim y [ None ↦ t.region | Some z ↦ z.region ]) (sym e)
  self_region t u end x b e = absurd (cc)
