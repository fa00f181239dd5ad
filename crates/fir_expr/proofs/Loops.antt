-- Loops over a value that grows, and over parts that stand after commas.
use Rattle.std.proofs.Common.{◌≡◌, ℕ, zero, suc, ◌+◌, ◌-◌, ◌<◌, ◌≤◌, Bool, true, false, List, [], ◌∷◌, ◌++◌, length, Ok, Err, refl, sym, ap, ◌∙◌, append_assoc, arith}
use Rattle.std.proofs.lemmas.List.{append-nil}
use Rattle.text_grammar.specs.declared.item.Item.{Item}
use Rattle.text_grammar.specs.declared.item.Symbol.TheVariants as s
use Rattle.text_grammar.specs.declared.fault.Kind.TheVariants.{TooDeep}
use Rattle.text_grammar.specs.declared.fault.ReadError.{ReadError}
use Rattle.text_grammar.specs.declared.fault.ReadError.TheVariants as errors
use Rattle.text_grammar.specs.Part.{Outcome, ◌>>=◌, Part, Fails, starts, either, both, after, second, nothing, stop, cons, carried, many, many_at}
use Rattle.text_grammar.specs.Terminals.{mark}
use Rattle.text_grammar.proofs.Reading.{gathered, gathered_none}
use Rattle.fir_ast.specs.Limits.{grow_up_to}
use Rattle.fir_ast.specs.ExprGrammar.{after_commas}

-- ---- a value that grows

module _ {A : Type 0} (b : Item → Bool) (P : A → Part A) where
  grow_turn : (n i : ℕ) (a : A) (ts : List Item) → i < n → starts b ts ≡ true → (grow_up_to (n - i) b P a).reads ts ≡ ((P a).reads ts >>= λ x. (grow_up_to (n - (i + 1)) b P x.0).reads x.1)
  unfolding grow_up_to either after
  grow_turn n i a ts lt h = let k : n - i ≡ suc (n - (i + 1)) = omega arith in rw (k, h) refl

  grow_stops : (k : ℕ) (a : A) (ts : List Item) → starts b ts ≡ false → (grow_up_to k b P a).reads ts ≡ Ok (a, ts)
  unfolding grow_up_to either nothing
  grow_stops zero a ts h = rw h refl
  grow_stops (suc k) a ts h = rw h refl

  pub grow_begun : (n : ℕ) (a : A) (ts : List Item) → (grow_up_to (n - 0) b P a).reads ts ≡ (grow_up_to n b P a).reads ts
  grow_begun n a ts = let k : n - 0 ≡ n = omega arith in rw k refl

  pub grow_goes_on : (n i : ℕ) (a c : A) (ts later : List Item) (total : Outcome A) → i < n → starts b ts ≡ true → (P a).reads ts ≡ Ok (c, later) → (grow_up_to (n - i) b P a).reads ts ≡ total → (grow_up_to (n - (i + 1)) b P c).reads later ≡ total
  grow_goes_on n i a c ts later total lt begins e so_far =
      let one : (grow_up_to (n - i) b P a).reads ts ≡ (grow_up_to (n - (i + 1)) b P c).reads later = rw (grow_turn n i a ts lt begins, e) refl in
      sym one ∙ so_far

  pub grow_breaks_off : (n i : ℕ) (a : A) (ts : List Item) (total : Outcome A) (e : ReadError) → i < n → starts b ts ≡ true → Fails ((P a).reads ts) e → (grow_up_to (n - i) b P a).reads ts ≡ total → Fails total e
  grow_breaks_off n i a ts total errors.Memory lt begins e so_far = tt
  grow_breaks_off n i a ts total (errors.At kind left) lt begins e so_far =
      let one : (grow_up_to (n - i) b P a).reads ts ≡ Err (kind, left) = rw (grow_turn n i a ts lt begins, e) refl in
      sym so_far ∙ one

  pub grow_done : (k : ℕ) (a : A) (ts : List Item) (total : Outcome A) → starts b ts ≡ false → (grow_up_to k b P a).reads ts ≡ total → total ≡ Ok (a, ts)
  grow_done k a ts total h so_far = sym so_far ∙ grow_stops k a ts h

  pub grow_full : (k : ℕ) (a : A) (ts : List Item) (total : Outcome A) → k ≡ 0 → starts b ts ≡ true → (grow_up_to k b P a).reads ts ≡ total → total ≡ Err (TooDeep, length ts)
  unfolding grow_up_to either stop
  grow_full k a ts total z h so_far =
      let one : (grow_up_to k b P a).reads ts ≡ Err (TooDeep, length ts) = rw (z, h) refl in
      sym so_far ∙ one

-- ---- so many, each after a comma

regroup : {A : Type 0} (front : List A) (a : A) (o : Outcome (List A)) → gathered front (o >>= λ y. Ok (cons a y.0, y.1)) ≡ gathered (front ++ a ∷ []) o
regroup front a (Ok x) = ap (λ (z : List _). Ok (z, x.1)) (sym (append_assoc front (a ∷ []) x.0))
regroup front a (Err f) = refl

module _ {A : Type 0} (P : Part A) where
  commas_turn : (n i : ℕ) (ts : List Item) → i < n → (after_commas (n - i) P).reads ts ≡ ((both second (mark s.Comma) P).reads ts >>= λ x. (after_commas (n - (i + 1)) P).reads x.1 >>= λ y. Ok (cons x.0 y.0, y.1))
  unfolding after_commas both
  commas_turn n i ts lt = let k : n - i ≡ suc (n - (i + 1)) = omega arith in rw k refl

  pub commas_begun : (front : List A) (n : ℕ) (ts : List Item) → front ≡ [] → gathered front ((after_commas (n - 0) P).reads ts) ≡ (after_commas n P).reads ts
  commas_begun front n ts none = let k : n - 0 ≡ n = omega arith in rw (k, none) (gathered_none ((after_commas n P).reads ts))

  -- after a first one
  pub commas_follow : (front : List A) (a : A) (n : ℕ) (ts : List Item) → front ≡ a ∷ [] → gathered front ((after_commas (n - 0) P).reads ts) ≡ carried cons a ((after_commas n P).reads ts)
  commas_follow front a n ts one = let k : n - 0 ≡ n = omega arith in rw (k, one) refl

  pub commas_go_on : (front longer : List A) (a : A) (n i : ℕ) (ts later : List Item) (total : Outcome (List A)) → longer ≡ front ++ a ∷ [] → i < n → (both second (mark s.Comma) P).reads ts ≡ Ok (a, later)
      → gathered front ((after_commas (n - i) P).reads ts) ≡ total → gathered longer ((after_commas (n - (i + 1)) P).reads later) ≡ total
  commas_go_on front longer a n i ts later total h lt e so_far =
      let one : gathered front ((after_commas (n - i) P).reads ts) ≡ gathered (front ++ a ∷ []) ((after_commas (n - (i + 1)) P).reads later) = rw (commas_turn n i ts lt, e) (regroup front a ((after_commas (n - (i + 1)) P).reads later)) in
      rw h (sym one ∙ so_far)

  pub commas_break_off : (front : List A) (n i : ℕ) (ts : List Item) (total : Outcome (List A)) (e : ReadError) → i < n → Fails ((both second (mark s.Comma) P).reads ts) e → gathered front ((after_commas (n - i) P).reads ts) ≡ total → Fails total e
  commas_break_off front n i ts total errors.Memory lt e so_far = tt
  commas_break_off front n i ts total (errors.At kind left) lt e so_far =
      let one : gathered front ((after_commas (n - i) P).reads ts) ≡ Err (kind, left) = rw (commas_turn n i ts lt, e) refl in
      sym so_far ∙ one

  pub commas_done : (front : List A) (n i : ℕ) (ts : List Item) (total : Outcome (List A)) → n ≤ i → gathered front ((after_commas (n - i) P).reads ts) ≡ total → total ≡ Ok (front, ts)
  unfolding after_commas nothing
  commas_done front n i ts total le so_far =
      let k : n - i ≡ 0 = omega (arith, le) in
      let one : gathered front ((after_commas (n - i) P).reads ts) ≡ Ok (front ++ [], ts) = rw k refl in
      sym so_far ∙ one ∙ ap (λ (z : List A). Ok (z, ts)) (append-nil front)

-- ---- any number, after a first one

pub many_follow : {A : Type 0} (b : Item → Bool) (P : Part A) (front : List A) (a : A) (n : ℕ) (ts : List Item) → front ≡ a ∷ [] → n ≡ length ts → gathered front (many_at b P.reads (n - 0) ts) ≡ carried cons a ((many b P).reads ts)
unfolding many
many_follow b P front a n ts one h = let k : n - 0 ≡ length ts = omega (arith, h) in rw (k, one) refl
