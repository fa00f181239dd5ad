-- Where the ground parts of a field or an element stand in their type.
use Rattle.std.proofs.Common.{ℕ, zero, suc, ◌≡◌, ◌+◌, ◌*◌, ◌<◌, ◌≤◌, ◌∙◌, Bool, true, false, List, ◌++◌, length, map, get_or, None, refl, ap, arith, bytes_eq, if◌then◌else◌}
use Rattle.std.proofs.lemmas.List.{length-map, get_or_append_left, get_or-append-add, get_or-map}
use Rattle.std.specs.List.{range_with_len, flat_map}
use Rattle.fir_flat.specs.Shapes.{Shape, ground, clock, empty, field, vector, size, Leaf, whole, leaves, in_field, in_element, FieldPlace, field_named, behind, element, elements}
use Rattle.fir_flat.specs.Values.{leaf_signed}
use Rattle.fir_flat.specs.Resolving.{LiesIn}
use Rattle.fir_flat.proofs.LeafCounts.{leaves_counted}

abbrev plain : Leaf
plain = whole false None

-- the sign of a ground part, where those of a part of the type stand in front
mapped_first : (f : Leaf → Leaf) → ((l : Leaf) → (f l).signed ≡ l.signed) → (ls rest : List Leaf) (k : ℕ) → k < length ls
    → (get_or (map f ls ++ rest) k plain).signed ≡ (get_or ls k plain).signed
mapped_first f s ls rest k h =
    let m : length (map f ls) ≡ length ls = length-map ls f in
    ap (λ (l : Leaf). l.signed) (get_or_append_left (map f ls) rest plain k (omega (arith, m, h)) ∙ get_or-map f ls k plain plain h)
    ∙ s (get_or ls k plain)

-- the sign of a ground part behind others
mapped_behind : (f : Leaf → Leaf) (ls rest : List Leaf) (n k : ℕ) → length ls ≡ n
    → (get_or (map f ls ++ rest) (n + k) plain).signed ≡ (get_or rest k plain).signed
mapped_behind f ls rest n k e =
    let m : n ≡ length (map f ls) = let l : length (map f ls) ≡ length ls = length-map ls f in omega (arith, l, e) in
    ap (λ j. (get_or (map f ls ++ rest) (j + k) plain).signed) m
    ∙ ap (λ (l : Leaf). l.signed) (get_or-append-add (map f ls) rest k plain)

-- an empty bundle lies anywhere
empty_lies : (t : Shape) → LiesIn t 0 empty
empty_lies t = record { low = λ k h. absurd (omega (arith, h)); signed = λ k h. absurd (omega (arith, h)) }

abbrev placed : Bool → Bool → Shape → FieldPlace → FieldPlace
placed b flip of later = if b then record { before = 0; flip = flip; of = of } else behind (size of) later

pub field_lies : (name : List ℕ) (t : Shape) → LiesIn t (field_named name t).before (field_named name t).of
field_lies name (ground signed width) = empty_lies (ground signed width)
field_lies name clock = empty_lies clock
field_lies name empty = empty_lies empty
field_lies name (field flip other of rest) = by (bytes_eq other name) (field_lies name rest)
  where
    long : length (leaves of) ≡ size of
    long = leaves_counted of

    by : (b : Bool) → LiesIn rest (field_named name rest).before (field_named name rest).of
        → LiesIn (field flip other of rest) (placed b flip of (field_named name rest)).before (placed b flip of (field_named name rest)).of
    by true l = record {
      low = λ k h. omega (arith, h);
      signed = λ k h.
          let z : 0 + k ≡ k = omega arith in
          ap (leaf_signed (field flip other of rest)) z
          ∙ mapped_first (in_field flip other) (λ m. refl) (leaves of) (leaves rest) k (omega (arith, h, long));
    }
    by false l = record {
      low = λ k h. let r : (field_named name rest).before + k < size rest = l.low k h in omega (arith, r);
      signed = λ k h.
          let z : size of + (field_named name rest).before + k ≡ size of + ((field_named name rest).before + k) = omega arith in
          ap (leaf_signed (field flip other of rest)) z
          ∙ mapped_behind (in_field flip other) (leaves of) (leaves rest) (size of) ((field_named name rest).before + k) long
          ∙ l.signed k h;
    }
field_lies name (vector of n) = empty_lies (vector of n)

room : (i n s : ℕ) → i < n → i * s + s ≤ n * s
room i zero s h = absurd (omega (arith, h))
room zero (suc n) s h = omega arith
room (suc i) (suc n) s h = let r : i * s + s ≤ n * s = room i n s (omega (arith, h)) in omega (arith, r)

rows : (ls : List Leaf) (s a n i k : ℕ) → length ls ≡ s → i < n → k < s
    → (get_or (flat_map (λ j. map (in_element j) ls) (range_with_len a n)) (i * s + k) plain).signed ≡ (get_or ls k plain).signed
rows ls s a zero i k e h l = absurd (omega (arith, h))
rows ls s a (suc n) zero k e h l =
    let z : 0 * s + k ≡ k = omega arith in
    ap (λ j. (get_or (map (in_element a) ls ++ flat_map (λ j. map (in_element j) ls) (range_with_len (a + 1) n)) j plain).signed) z
    ∙ mapped_first (in_element a) (λ m. refl) ls (flat_map (λ j. map (in_element j) ls) (range_with_len (a + 1) n)) k (omega (arith, e, l))
rows ls s a (suc n) (suc i) k e h l =
    let z : suc i * s + k ≡ s + (i * s + k) = omega arith in
    ap (λ j. (get_or (map (in_element a) ls ++ flat_map (λ j. map (in_element j) ls) (range_with_len (a + 1) n)) j plain).signed) z
    ∙ mapped_behind (in_element a) ls (flat_map (λ j. map (in_element j) ls) (range_with_len (a + 1) n)) s (i * s + k) e
    ∙ rows ls s (a + 1) n i k e (omega (arith, h)) l

pub element_lies : (t : Shape) (i : ℕ) → i < elements t → LiesIn t (i * size (element t)) (element t)
element_lies (ground signed width) i h = absurd (omega (arith, h))
element_lies clock i h = absurd (omega (arith, h))
element_lies empty i h = absurd (omega (arith, h))
element_lies (field flip name of rest) i h = absurd (omega (arith, h))
element_lies (vector of n) i h = record {
  low = λ k l. let r : i * size of + size of ≤ n * size of = room i n (size of) h in omega (arith, r, l);
  signed = λ k l. rows (leaves of) (size of) 0 n i k (leaves_counted of) h l;
}
