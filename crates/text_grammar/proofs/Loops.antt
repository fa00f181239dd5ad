-- A loop over a part that is repeated at most so often.
use Rattle.std.proofs.Common.{◌≡◌, ℕ, zero, suc, ◌+◌, ◌-◌, ◌<◌, Bool, true, false, List, [], ◌∷◌, ◌++◌, length, Ok, Err, refl, sym, ap, ◌∙◌, append_assoc, arith}
use Rattle.std.proofs.lemmas.List.{append-nil}
use Rattle.text_grammar.specs.declared.item.Item.{Item}
use Rattle.text_grammar.specs.declared.fault.Kind.TheVariants.{TooDeep}
use Rattle.text_grammar.specs.declared.fault.ReadError.{ReadError}
use Rattle.text_grammar.specs.declared.fault.ReadError.TheVariants as errors
use Rattle.text_grammar.proofs.Reading.{gathered, gathered_none}
use Rattle.text_grammar.specs.Part.{Outcome, ◌>>=◌, Part, Fails, starts, either, both, nothing, stop, cons, many_up_to}

regroup : {A : Type 0} (front : List A) (a : A) (o : Outcome (List A)) → gathered front (o >>= λ y. Ok (cons a y.0, y.1)) ≡ gathered (front ++ a ∷ []) o
regroup front a (Ok x) = ap (λ (z : List _). Ok (z, x.1)) (sym (append_assoc front (a ∷ []) x.0))
regroup front a (Err f) = refl

module _ {A : Type 0} (b : Item → Bool) (P : Part A) where
  turn_is : (n i : ℕ) (ts : List Item) → i < n → starts b ts ≡ true → (many_up_to (n - i) b P).reads ts ≡ (P.reads ts >>= λ x. (many_up_to (n - (i + 1)) b P).reads x.1 >>= λ y. Ok (cons x.0 y.0, y.1))
  unfolding many_up_to either both
  turn_is n i ts lt h = let k : n - i ≡ suc (n - (i + 1)) = omega arith in rw (k, h) refl

  stops_at : (k : ℕ) (ts : List Item) → starts b ts ≡ false → (many_up_to k b P).reads ts ≡ Ok ([], ts)
  unfolding many_up_to either nothing
  stops_at zero ts h = rw h refl
  stops_at (suc k) ts h = rw h refl

  pub upto_begun : (front : List A) (n : ℕ) (ts : List Item) → front ≡ [] → gathered front ((many_up_to (n - 0) b P).reads ts) ≡ (many_up_to n b P).reads ts
  upto_begun front n ts none = let k : n - 0 ≡ n = omega arith in rw (k, none) (gathered_none ((many_up_to n b P).reads ts))

  pub upto_goes_on : (front after' : List A) (a : A) (n i : ℕ) (ts after : List Item) (total : Outcome (List A)) → after' ≡ front ++ a ∷ [] → i < n → starts b ts ≡ true → P.reads ts ≡ Ok (a, after)
      → gathered front ((many_up_to (n - i) b P).reads ts) ≡ total → gathered after' ((many_up_to (n - (i + 1)) b P).reads after) ≡ total
  upto_goes_on front after' a n i ts after total h lt begins e so_far =
      let one : gathered front ((many_up_to (n - i) b P).reads ts) ≡ gathered (front ++ a ∷ []) ((many_up_to (n - (i + 1)) b P).reads after) = rw (turn_is n i ts lt begins, e) (regroup front a ((many_up_to (n - (i + 1)) b P).reads after)) in
      rw h (sym one ∙ so_far)

  pub upto_breaks_off : (front : List A) (n i : ℕ) (ts : List Item) (total : Outcome (List A)) (e : ReadError) → i < n → starts b ts ≡ true → Fails (P.reads ts) e → gathered front ((many_up_to (n - i) b P).reads ts) ≡ total → Fails total e
  upto_breaks_off front n i ts total errors.Memory lt begins e so_far = tt
  upto_breaks_off front n i ts total (errors.At kind left) lt begins e so_far =
      let one : gathered front ((many_up_to (n - i) b P).reads ts) ≡ Err (kind, left) = rw (turn_is n i ts lt begins, e) refl in
      sym so_far ∙ one

  pub upto_done : (front : List A) (k : ℕ) (ts : List Item) (total : Outcome (List A)) → starts b ts ≡ false → gathered front ((many_up_to k b P).reads ts) ≡ total → total ≡ Ok (front, ts)
  upto_done front k ts total h so_far =
      let one : gathered front ((many_up_to k b P).reads ts) ≡ Ok (front ++ [], ts) = rw (stops_at k ts h) refl in
      sym so_far ∙ one ∙ ap (λ (z : List A). Ok (z, ts)) (append-nil front)

  pub upto_full : (front : List A) (k : ℕ) (ts : List Item) (total : Outcome (List A)) → k ≡ 0 → starts b ts ≡ true → gathered front ((many_up_to k b P).reads ts) ≡ total → total ≡ Err (TooDeep, length ts)
  unfolding many_up_to either stop
  upto_full front k ts total z h so_far =
      let one : gathered front ((many_up_to k b P).reads ts) ≡ Err (TooDeep, length ts) = rw (z, h) refl in
      sym so_far ∙ one
