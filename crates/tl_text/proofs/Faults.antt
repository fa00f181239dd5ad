-- The first fault of a text, where no text goes on within the limits from where they stop.
use Rattle.std.proofs.Common.{◌≡◌, ℕ, Bool, List, [], ◌∷◌, ◌++◌, length, Ok, Err, length-append, refl, sym, ap, subst, ◌∙◌, arith, inl, inr}
use Rattle.std.specs.Prelude.{◌⊎◌}
use Rattle.std.proofs.lemmas.List.{append-nil}
use Rattle.text_grammar.specs.declared.item.Item.{Item}
use Rattle.text_grammar.specs.declared.fault.Kind.{Kind}
use Rattle.text_grammar.specs.declared.fault.Kind.TheVariants.{Syntax}
use Rattle.text_grammar.specs.Part.{Outcome, Part, kind_at, ends, whole}
use Rattle.text_grammar.specs.Fronts.{SameNext, SameUpTo, IsFault}
use Rattle.text_grammar.proofs.Laws.{Stuck, Step, IsRead, All, Same, Good, Bad, bind_err, ok_parts, err_parts, same_next_of}
use Rattle.text_grammar.proofs.Whole.{Family, whole_reads, whole_spells, same_so_far}

-- what a spelling begins with is a front
pub record Starts {A : Type 0} (P : Part A) : Type 0 where
  pub begins : (ts ends : List Item) (a : A) → P.spells (ts ++ ends) a → P.fronts ts

same_refl : (r : List Item) → SameNext r r
same_refl [] = tt
same_refl (x ∷ r) = refl

ends_again : {A : Type 0} (mid r' : List Item) (a : A) (k : Kind) (n : ℕ) → SameNext mid r' → ends a mid ≡ Bad (k, n) → (ends a r' ≡ Bad (k, length r')) × (k ≡ kind_at mid) × (length mid ≡ n)
ends_again [] r' a k n same e = absurd cc
ends_again (x ∷ mid) [] a k n same e = absurd same
ends_again {A = A} (x ∷ mid) (y ∷ r') a k n same e = let h = err_parts {A = A} (kind_at (x ∷ mid)) k (length (x ∷ mid)) n e in (rw (← same) (ap (λ (z : Kind). Bad (z, length (x ∷ r'))) h.0), sym h.0, h.1)

module _ {A : Type 0} {E : Kind → Type 0} {L : Type 0} (P Q : Part A) (s : Step E L P Q) where
  pub text_fails : Starts P → (ts : List Item) (n : ℕ) (k : Kind) → (whole P).reads ts ≡ Bad (k, n) → Stuck E L (whole P) (whole Q) ts n k
  unfolding whole
  text_fails f ts n k e = elim (bind_err (P.reads ts) (λ x. ends x.0 x.1) (k, n) e) [
    | inl first ↦
        let t = s.fails ts n k first in
        record {
          front = t.front;
          rest = t.rest;
          parts = t.parts;
          left = t.left;
          fronts = t.fronts;
          why = t.why;
          goes = λ y. (let g = t.goes y in record { ends = g.ends; value = g.value; spelled = g.spelled });
          shown = t.shown;
          at_once = t.at_once;
          again = λ is r' same. rw (t.again is r' same) refl;
        }
    | inr later ↦
        let t = s.done ts later.0.1 later.0.0 later.1 in
        let h = ends_again later.0.1 later.0.1 later.0.0 k n (same_refl later.0.1) later.2 in
        record {
          front = t.front;
          rest = later.0.1;
          parts = t.parts;
          left = h.2;
          fronts = f.begins t.front [] later.0.0 (subst (λ (z : List Item). P.spells z later.0.0) (sym (append-nil t.front)) t.spelled);
          why = inl h.1;
          goes = λ y. record { ends = []; value = later.0.0; spelled = subst (λ (z : List Item). Q.spells z later.0.0) (sym (append-nil t.front)) t.wider };
          shown = 0;
          at_once = λ _. refl;
          again = λ is r' same. rw (t.again r' same) ((ends_again later.0.1 r' later.0.0 k n same later.2).0);
        }
  ]

err_is_no_ok : {A : Type 0} (o : Outcome A) (a : A × List Item) (f : Kind × ℕ) → o ≡ Good a → o ≡ Bad f → ⊥
err_is_no_ok o a f g h = let q : Good a ≡ Bad f = sym g ∙ h in absurd cc

same_split : (f1 r1 f2 r2 : List Item) → f1 ++ r1 ≡ f2 ++ r2 → length r1 ≡ length r2 → (f1 ≡ f2) × (r1 ≡ r2)
same_split [] r1 [] r2 e len = (refl, e)
same_split [] r1 (y ∷ f2) r2 e len = absurd (omega (arith, ap length e, length-append (y ∷ f2) r2))
same_split (x ∷ f1) r1 [] r2 e len = absurd (omega (arith, ap length e, length-append (x ∷ f1) r1))
same_split (x ∷ f1) r1 (y ∷ f2) r2 e len =
    let head : x ≡ y = cc in
    let tail : f1 ++ r1 ≡ f2 ++ r2 = cc in
    let h = same_split f1 r1 f2 r2 tail len in
    (rw (head, h.0) refl, h.1)

module _ {A : Type 0} (P : Part A) (m : Item → Bool) (i : IsRead P m) (same : Same P) (f : Starts P) (free : List Item → A → Type 0) (family : Family P free) where
  -- a fault of the limits themselves: nothing within them goes on so
  none_goes : (items : List Item) (k : Kind) (n : ℕ) (t : Stuck All ⊥ (whole P) (whole P) items n k) (rest' : List Item) → SameUpTo t.shown t.rest rest' → (x : A) → P.spells (t.front ++ rest') x → ⊥
  none_goes items k n t rest' alike x sp = err_is_no_ok ((whole P).reads (t.front ++ rest')) (x, []) (k, length rest') (whole_reads P m i (t.front ++ rest') x sp) (t.again tt rest' alike)

  is_dead : (items : List Item) (n : ℕ) → (whole P).reads items ≡ Bad (Syntax, n) → (front rest : List Item) → items ≡ front ++ rest → length rest ≡ n → (rest' : List Item) → SameNext rest rest' → (x : A) → free (front ++ rest') x → ⊥
  is_dead items n e front rest parts place rest' alike x fr =
      let up = family.above (front ++ rest') x fr in
      let t = text_fails P up.0 up.2 f items n Syntax e in
      let h = same_split t.front t.rest front rest (sym t.parts ∙ parts) (t.left ∙ sym place) in
      let near : SameUpTo t.shown t.rest rest' = subst (λ (z : ℕ). SameUpTo z t.rest rest') (sym (t.at_once refl)) (subst (λ (z : List Item). SameNext z rest') (sym h.1) alike) in
      let bad = t.again refl rest' near in
      err_is_no_ok ((whole up.0).reads (front ++ rest')) (x, []) (Syntax, length rest') (whole_reads up.0 up.1 up.3 (front ++ rest') x up.5) (subst (λ (z : List Item). (whole up.0).reads (z ++ rest') ≡ Bad (Syntax, length rest')) h.0 bad)

  dead_at : (items : List Item) (n : ℕ) (k : Kind) → (whole P).reads items ≡ Bad (k, n) → (t : Stuck All ⊥ (whole P) (whole P) items n k) → k ≡ Syntax → (rest' : List Item) → SameUpTo t.shown t.rest rest' → (x : A) → free (t.front ++ rest') x → ⊥
  dead_at items n k e t is rest' alike x fr = is_dead items n (subst (λ (z : Kind). (whole P).reads items ≡ Bad (z, n)) is e) t.front t.rest t.parts t.left rest' (same_next_of t.shown t.rest rest' alike) x fr

  begins_at : (items : List Item) (n : ℕ) (k : Kind) → (whole P).reads items ≡ Bad (k, n) → (front rest : List Item) → items ≡ front ++ rest → length rest ≡ n → (ends : List Item) × (x : A) × free (front ++ ends) x
  unfolding whole
  begins_at items n k e front rest parts place =
      let w = family.some in
      let t = text_fails P w.0 w.1 f items n k e in
      let h = same_split t.front t.rest front rest (sym t.parts ∙ parts) (t.left ∙ sym place) in
      let g = t.goes tt in
      (g.ends, g.value, w.3 (front ++ g.ends) g.value (subst (λ (z : List Item). (w.0).spells (z ++ g.ends) g.value) h.0 g.spelled))

  fault_of : (items : List Item) (k : Kind) (n : ℕ) → (whole P).reads items ≡ Bad (k, n) → (t : Stuck All ⊥ (whole P) (whole P) items n k) → IsFault (whole P) free items k n
  unfolding whole
  fault_of items k n e t = record {
    front = t.front;
    rest = t.rest;
    parts = t.parts;
    place = t.left;
    fronts = t.fronts;
    why = t.why;
    begins = begins_at items n k e t.front t.rest t.parts t.left;
    shown = t.shown;
    at_once = t.at_once;
    none = none_goes items k n t;
    dead = dead_at items n k e t;
  }

  -- the fault that reading answers is the first one
  pub fault_found : (items : List Item) (k : Kind) (n : ℕ) → (whole P).reads items ≡ Bad (k, n) → IsFault (whole P) free items k n
  fault_found items k n e = fault_of items k n e (text_fails P P same f items n k e)

  -- a text that spells nothing has a fault
  pub spells_or_fault : (items : List Item) (o : Outcome A) → (whole P).reads items ≡ o → ((x : A) × P.spells items x) ⊎ ((k : Kind) × (n : ℕ) × IsFault (whole P) free items k n)
  spells_or_fault items (Ok a) e = inl (a.0, (whole_spells P P same items a.0 a.1 e).0)
  spells_or_fault items (Err g) e = inr (g.0, g.1, fault_found items g.0 g.1 e)

  -- a text that spells something has none, of any kind
  pub spelled_no_fault : (items : List Item) (x : A) → P.spells items x → (k : Kind) (n : ℕ) → IsFault (whole P) free items k n → ⊥
  unfolding whole
  spelled_no_fault items x sp k n t = t.none t.rest (same_so_far t.shown t.rest) x (subst (λ (z : List Item). P.spells z x) t.parts sp)

  -- a text spells at most one value
  pub spells_once : (items : List Item) (x y : A) → P.spells items x → P.spells items y → x ≡ y
  spells_once items x y sx sy = (ok_parts x y [] [] (sym (whole_reads P m i items x sx) ∙ whole_reads P m i items y sy)).0
