-- The recursion over instances: enough depth changes nothing.
use Rattle.std.proofs.Common.{ℕ, zero, suc, ◌≡◌, ◌<◌, List, [], ◌∷◌, map, refl, ap, arith}
use Rattle.std.specs.List.{All}
use Rattle.fir_flat.specs.Modules.{over, Ranked}

pub map_same : {X A : Type 0} (P : X → Type 0) (f g : X → A) (xs : List X) → All P xs → ((x : X) → P x → f x ≡ g x) → map f xs ≡ map g xs
map_same P f g [] a h = refl
map_same P f g (x ∷ xs) a h =
    let e : f x ≡ g x = h x (a 0 x (omega arith)) in
    let t : map f xs ≡ map g xs = map_same P f g xs (λ k d p. a (suc k) d (omega arith)) h in
    cc

-- more depth than the rank changes nothing
pub over-stable : {X A : Type 0} (inside : X → List X) (step : X → List A → A) (base : A) (rank : X → ℕ)
    → ((x : X) → All (λ c. rank c < rank x) (inside x))
    → (f g : ℕ) (x : X) → rank x < f → rank x < g → over inside step base f x ≡ over inside step base g x
unfolding over
over-stable inside step base rank r zero g x p q = absurd (omega arith)
over-stable inside step base rank r (suc f) zero x p q = absurd (omega arith)
over-stable inside step base rank r (suc f) (suc g) x p q =
    ap (step x) (map_same (λ c. rank c < rank x) (over inside step base f) (over inside step base g) (inside x) (r x)
    (λ c h. over-stable inside step base rank r f g c (omega arith) (omega arith)))

-- the equation of the recursion, where every rank is below the depth
pub over-equation : {X A : Type 0} (inside : X → List X) (step : X → List A → A) (base : A) (rank : X → ℕ) (depth : ℕ)
    → ((x : X) → All (λ c. rank c < rank x) (inside x)) → ((x : X) → rank x < depth) → (x : X)
    → over inside step base depth x ≡ step x (map (over inside step base depth) (inside x))
unfolding over
over-equation inside step base rank depth falls low x =
    over-stable inside step base rank falls depth (suc depth) x (low x) (let h = low x in omega arith)

-- the equation of the recursion over instances
pub over-step : {A : Type 0} (inside : ℕ → List ℕ) (step : ℕ → List A → A) (base : A) (rank : ℕ → ℕ) (depth : ℕ) → Ranked rank inside depth → (m : ℕ)
    → over inside step base depth m ≡ step m (map (over inside step base depth) (inside m))
over-step inside step base rank depth r m = over-equation inside step base rank depth r.falls r.low m
