-- The order of a choice ends, after at most `bound` (at least 1) actions in each of at most `steps` time steps.
use Rattle.std.proofs.Common.{◌≡◌, ◌⊎◌, inl, inr, ℕ, zero, suc, ◌+◌, ◌*◌, ◌-◌, ◌≤◌, ◌<◌, max, List, ◌∷◌, length, refl, sym, subst, arith, Bool, true, false, nat_le, Option, Some, None, leb-false, mul-le-mul_right}
use Rattle.order_laws.specs.System.{System, after}
use Rattle.order_laws.specs.Runs.{Steps, going, settled, conflicted, bounded, settle_to, look, judge, run_act, runs}
use Rattle.order_laws.specs.EveryOrder.{IsOver, chosen_by, chosen}

-- what a settling that goes on gives: a later time step, below the limit, with no action yet and somebody who may act
abbrev pub GoesOn : (S : Steps) → ℕ → ℕ → S.world.State ⊎ S.Finish → Type 0
GoesOn S limit time (inl w) = (time < S.time w) × (S.time w < limit) × (S.size w ≡ 0) × (S.quiet w ≡ false)
GoesOn S limit time (inr e) = Unit {0}

-- the order of a choice has at most as many acts as it is given
pub chosen_length : (S : System) (choose : S.State → Option S.Actor) (n : ℕ) (s : S.State) → length (chosen S choose n s) ≤ n
chosen_length S choose zero s = omega arith
chosen_length S choose (suc n) s = go (choose s) (λ x. chosen_length S choose n x)
  where
    go : (o : Option S.Actor) → ((x : S.State) → length (chosen S choose n x) ≤ n) → length (chosen_by S (λ x. chosen S choose n x) s o) ≤ suc n
    go None ih = omega arith
    go (Some a) ih = let h : length (chosen S choose n (S.act s a)) ≤ n = ih (S.act s a) in omega arith

less_left : (limit t u b : ℕ) → t < u → u < limit → (limit - u) * b + b ≤ (limit - t) * b
less_left limit t u b h k = let x : suc (limit - u) ≤ limit - t = omega arith in let y : suc (limit - u) * b ≤ (limit - t) * b = mul-le-mul_right b x in omega (arith, y)

at_least : (x b : ℕ) → 1 ≤ x → b ≤ x * b
at_least x b h = let y : 1 * b ≤ x * b = mul-le-mul_right b h in omega (arith, y)

module _ (S : Steps) (limit : ℕ) (choose : (runs S).State → Option S.world.Actor)
    (act_size : (t : List ℕ) (s : S.world.State) (a : S.world.Actor) → choose (going t s) ≡ Some a → S.size (S.world.act s a) ≡ suc (S.size s))
    (act_time : (s : S.world.State) (a : S.world.Actor) → S.time (S.world.act s a) ≡ S.time s)
    (settles : (s : S.world.State) → S.time s < limit → GoesOn S limit (S.time s) (S.settle s))
    (some : (t : List ℕ) (w : S.world.State) → S.quiet w ≡ false → choose (going t w) ≡ None → ⊥) where
  -- a run has at most n acts to go
  abbrev pub Within : ℕ → (runs S).State → Type 0
  Within n (going t w) = (S.time w < limit) × (S.size w < max 1 S.bound) × (S.quiet w ≡ false) × ((limit - S.time w) * max 1 S.bound ≤ n + S.size w)
  Within n (settled t e) = Unit {0}
  Within n (conflicted tw w) = Unit {0}
  Within n (bounded tw w) = Unit {0}

  within_settled : (n : ℕ) (t : List ℕ) (time : ℕ) (x : S.world.State ⊎ S.Finish) → GoesOn S limit time x → (limit - time) * max 1 S.bound ≤ n + max 1 S.bound → Within n (settle_to S t x)
  within_settled n t time (inl w) (later, below, none, awake) h =
      (below, omega (arith, none), awake, (let k : (limit - S.time w) * max 1 S.bound + max 1 S.bound ≤ (limit - time) * max 1 S.bound = less_left limit time (S.time w) (max 1 S.bound) later below in omega (arith, none)))
  within_settled n t time (inr e) g h = tt

  within_look : (n : ℕ) (t : List ℕ) (w : S.world.State) (q f : Bool) → S.quiet w ≡ q → nat_le S.bound (S.size w) ≡ f → S.time w < limit → S.size w ≤ max 1 S.bound → (limit - S.time w) * max 1 S.bound ≤ n + S.size w → Within n (look S t w q f)
  within_look n t w true f a b time size h = within_settled n t (S.time w) (S.settle w) (settles w time) (omega arith)
  within_look n t w false true a b time size h = tt
  within_look n t w false false a b time size h = (time, (let k : S.size w < S.bound = leb-false S.bound (S.size w) b in omega arith), a, h)

  within_judge : (n : ℕ) (t : List ℕ) (w : S.world.State) (c : Bool) → S.time w < limit → S.size w ≤ max 1 S.bound → (limit - S.time w) * max 1 S.bound ≤ n + S.size w → Within n (judge S t w c)
  within_judge n t w true time size h = tt
  within_judge n t w false time size h = within_look n t w (S.quiet w) (nat_le S.bound (S.size w)) refl refl time size h

  over_same : (r : (runs S).State) (a : S.world.Actor) → IsOver r → run_act S r a ≡ r
  over_same (going t w) a h = absurd h
  over_same (settled t e) a h = refl
  over_same (conflicted tw w) a h = refl
  over_same (bounded tw w) a h = refl

  over_stays : (n : ℕ) (r : (runs S).State) → IsOver r → IsOver (after (runs S) r (chosen (runs S) choose n r))
  over_stays zero r h = h
  over_stays (suc n) r h = go (choose r) (over_stays n r h)
    where
      go : (o : Option S.world.Actor) → IsOver (after (runs S) r (chosen (runs S) choose n r)) → IsOver (after (runs S) r (chosen_by (runs S) (λ x. chosen (runs S) choose n x) r o))
      go None k = h
      go (Some a) k = subst (λ x. IsOver (after (runs S) x (chosen (runs S) choose n x))) (sym (over_same r a h)) k

  -- THE CHOSEN ORDER ENDS
  pub ends : (n : ℕ) (r : (runs S).State) → Within n r → IsOver (after (runs S) r (chosen (runs S) choose n r))
  ends zero (going t w) (time, size, awake, h) = let k : max 1 S.bound ≤ (limit - S.time w) * max 1 S.bound = at_least (limit - S.time w) (max 1 S.bound) (omega arith) in absurd (omega arith)
  ends (suc n) (going t w) (time, size, awake, h) = go (choose (going t w)) refl (λ x k. ends n x k)
    where
      go : (o : Option S.world.Actor) → choose (going t w) ≡ o → ((x : (runs S).State) → Within n x → IsOver (after (runs S) x (chosen (runs S) choose n x))) →
          IsOver (after (runs S) (going t w) (chosen_by (runs S) (λ x. chosen (runs S) choose n x) (going t w) o))
      go None e ih = absurd (some t w awake e)
      go (Some a) e ih =
          let sz : S.size (S.world.act w a) ≡ suc (S.size w) = act_size t w a e in
          let tm : S.time (S.world.act w a) ≡ S.time w = act_time w a in
          ih (judge S (S.time w ∷ t) (S.world.act w a) (S.conflict w a))
          (within_judge n (S.time w ∷ t) (S.world.act w a) (S.conflict w a) (omega (arith, tm)) (omega (arith, sz))
          (subst (λ x. (limit - x) * max 1 S.bound ≤ n + S.size (S.world.act w a)) (sym tm) (omega (arith, sz))))
  ends n (settled t e) h = over_stays n (settled t e) tt
  ends n (conflicted tw w) h = over_stays n (conflicted tw w) tt
  ends n (bounded tw w) h = over_stays n (bounded tw w) tt
