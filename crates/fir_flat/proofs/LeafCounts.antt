-- A type has as many ground parts as its size says, and each has a counterpart.
use Rattle.std.proofs.Common.{ℕ, zero, suc, ◌≡◌, ◌+◌, ◌*◌, ◌∙◌, List, ◌++◌, length, map, refl, arith, length-append}
use Rattle.std.proofs.lemmas.List.{length-map}
use Rattle.std.specs.List.{range_with_len, flat_map}
use Rattle.fir_flat.specs.Shapes.{Shape, ground, clock, empty, field, vector, size, leaves, in_field, in_element, field_named, element, partners, LeavesCounted}

-- n lists of s items each
pub copies : {A : Type 0} (g : ℕ → List A) (s : ℕ) → ((k : ℕ) → length (g k) ≡ s) → (n a : ℕ) → length (flat_map g (range_with_len a n)) ≡ n * s
copies g s h zero a = omega arith
copies g s h (suc n) a =
    let e : length (g a ++ flat_map g (range_with_len (a + 1) n)) ≡ length (g a) + length (flat_map g (range_with_len (a + 1) n))
    = length-append (g a) (flat_map g (range_with_len (a + 1) n)) in
    let f : length (g a) ≡ s = h a in
    let t : length (flat_map g (range_with_len (a + 1) n)) ≡ n * s = copies g s h n (a + 1) in
    let m : suc n * s ≡ s + n * s = omega arith in
    omega (arith, e, f, t, m)

pub leaves_counted : (t : Shape) → length (leaves t) ≡ size t
leaves_counted (ground signed width) = refl
leaves_counted clock = refl
leaves_counted empty = refl
leaves_counted (field flip name of rest) =
    let e : length (map (in_field flip name) (leaves of) ++ leaves rest) ≡ length (map (in_field flip name) (leaves of)) + length (leaves rest)
    = length-append (map (in_field flip name) (leaves of)) (leaves rest) in
    let m : length (map (in_field flip name) (leaves of)) ≡ length (leaves of) = length-map (leaves of) (in_field flip name) in
    let a : length (leaves of) ≡ size of = leaves_counted of in
    let b : length (leaves rest) ≡ size rest = leaves_counted rest in
    omega (arith, e, m, a, b)
leaves_counted (vector of n) =
    copies (λ k. map (in_element k) (leaves of)) (size of) (λ k. length-map (leaves of) (in_element k) ∙ leaves_counted of) n 0

pub partners_counted : (t u : Shape) → length (partners t u) ≡ size t
partners_counted (ground signed width) u = refl
partners_counted clock u = refl
partners_counted empty u = refl
partners_counted (field flip name of rest) u =
    let e : length (map (λ k. (field_named name u).before + k) (partners of (field_named name u).of) ++ partners rest u)
    ≡ length (map (λ k. (field_named name u).before + k) (partners of (field_named name u).of)) + length (partners rest u)
    = length-append (map (λ k. (field_named name u).before + k) (partners of (field_named name u).of)) (partners rest u) in
    let m : length (map (λ k. (field_named name u).before + k) (partners of (field_named name u).of)) ≡ length (partners of (field_named name u).of)
    = length-map (partners of (field_named name u).of) (λ k. (field_named name u).before + k) in
    let a : length (partners of (field_named name u).of) ≡ size of = partners_counted of (field_named name u).of in
    let b : length (partners rest u) ≡ size rest = partners_counted rest u in
    omega (arith, e, m, a, b)
partners_counted (vector of n) u =
    copies (λ i. map (λ k. i * size (element u) + k) (partners of (element u))) (size of)
    (λ i. length-map (partners of (element u)) (λ k. i * size (element u) + k) ∙ partners_counted of (element u)) n 0

pub counted : LeavesCounted
counted = record { leaves = leaves_counted; partners = partners_counted }
