-- Widths set one after the other.
use Rattle.std.proofs.Common.{◌≡◌, ◌∙◌, sym, ap, ℕ, zero, suc, ◌+◌, ◌<◌, List, [], ◌∷◌, length, get_or, set, drop, refl, arith}
use Rattle.std.specs.Prelude.{slice_index}
use Rattle.net_core.specs.declared.tree.SignalInfo.{SignalInfo}
use Rattle.net_core.specs.Formed.{with_width, set_widths}

-- the first k signals have their widths
abbrev pub mixed : ℕ → List SignalInfo → List ℕ → List SignalInfo
mixed zero is w = is
mixed (suc k) [] w = []
mixed (suc k) (i ∷ is) w = with_width i (slice_index w 0) ∷ mixed k is (drop 1 w)

pub behind : (w : List ℕ) (k : ℕ) → slice_index (drop 1 w) k ≡ slice_index w (suc k)
behind [] k = refl
behind (n ∷ w) k = refl

pub length-mixed : (k : ℕ) (is : List SignalInfo) (w : List ℕ) → length (mixed k is w) ≡ length is
length-mixed zero is w = refl
length-mixed (suc k) [] w = refl
length-mixed (suc k) (i ∷ is) w = ap suc (length-mixed k is (drop 1 w))

mixed_step : (k : ℕ) (is : List SignalInfo) (w : List ℕ) (d : SignalInfo) → k < length is
    → set (mixed k is w) k (with_width (get_or (mixed k is w) k d) (slice_index w k)) ≡ mixed (suc k) is w
mixed_step zero [] w d h = absurd (omega (arith, h))
mixed_step zero (i ∷ is) w d h = refl
mixed_step (suc k) [] w d h = absurd (omega (arith, h))
mixed_step (suc k) (i ∷ is) w d h =
    ap (λ (r : List SignalInfo). with_width i (slice_index w 0) ∷ r)
    (ap (λ n. set (mixed k is (drop 1 w)) k (with_width (get_or (mixed k is (drop 1 w)) k d) n)) (sym (behind w k)) ∙ mixed_step k is (drop 1 w) d (less h))
  where
    less : suc k < suc (length is) → k < length is
    less p = omega (arith, p)

pub mixed_next : (k : ℕ) (is now new : List SignalInfo) (w : List ℕ) (i : SignalInfo) (n : ℕ) → k < length is → now ≡ mixed k is w
    → i ≡ get_or now k i → n ≡ slice_index w k → new ≡ set now k (with_width i n) → new ≡ mixed (k + 1) is w
mixed_next k is now new w i n h e g q r =
    r ∙ ap (λ m. set now k (with_width i m)) q ∙ ap (λ (j : SignalInfo). set now k (with_width j (slice_index w k))) g
    ∙ ap (λ (xs : List SignalInfo). set xs k (with_width (get_or xs k i) (slice_index w k))) e
    ∙ mixed_step k is w i h ∙ ap (λ m. mixed m is w) (one k)
  where
    one : (m : ℕ) → suc m ≡ m + 1
    one m = omega arith

pub mixed_all : (is : List SignalInfo) (w : List ℕ) → mixed (length is) is w ≡ set_widths is w
mixed_all [] w = refl
mixed_all (i ∷ is) w = ap (λ (r : List SignalInfo). with_width i (slice_index w 0) ∷ r) (mixed_all is (drop 1 w))

pub mixed_end : (k : ℕ) (is : List SignalInfo) (w : List ℕ) → k ≡ length is → mixed k is w ≡ set_widths is w
mixed_end k is w e = ap (λ m. mixed m is w) e ∙ mixed_all is w
