-- How the code reads one item, and how it goes on.
use Rattle.std.proofs.Common.{◌≡◌, ℕ, zero, suc, ◌+◌, ◌-◌, ◌<◌, ◌≤◌, Bool, true, false, List, [], ◌∷◌, length, drop, Option, Some, None, Ok, Err, refl, sym, ap, subst, ◌∙◌, arith}
use Rattle.std.specs.Prelude.{slice_get, ◌&&◌, ◌||◌}
use Rattle.std.proofs.lemmas.Bool.Decides.{nat_tests}
use Rattle.text_grammar.specs.declared.item.Item.{Item}
use Rattle.text_grammar.specs.declared.fault.ReadError.{ReadError}
use Rattle.text_grammar.specs.declared.fault.ReadError.TheVariants as errors
use Rattle.text_grammar.specs.Part.{Outcome, ◌>>=◌, Part, Fails, kind_at, one_by, starts}
use Rattle.text_grammar.specs.Part.{many, many_at, carried, cons}
use Rattle.text_grammar.proofs.Reading.{gathered}
use Rattle.tl_ast.specs.declared.listed.Listed.{Listed}
use Rattle.tl_ast.specs.TestGrammar.{is_suffix, may_be_index, further, furthers, listed_further, listed_behind}
use Rattle.tl_ast.specs.declared.tree.TestOp.{TestOp}
use Rattle.tl_ast.specs.Limits.{grow, grow_at, always, is_full}
use Rattle.text_grammar.specs.Part.{both, after, first, second, nothing}
use Rattle.text_grammar.specs.Terminals.{is_symbol, mark}
use Rattle.text_grammar.specs.declared.item.Symbol.TheVariants as s
use Rattle.tl_ast.specs.declared.tree.TestExpr.{TestExpr}
use Rattle.tl_ast.specs.declared.tree.TestExpr.TheVariants as e
use Rattle.tl_ast.specs.ExprGrammar.{ExprLimits, Counted, token_operator, is_operator, operator, minus, minuses, negated, one_more, behind, level, parens, expr_in}

pub starts_some : (f : Item → Bool) (ts : List Item) (x : Item) → Some x ≡ slice_get ts 0 → f x ≡ starts f ts
starts_some f [] x h = absurd cc
starts_some f (y ∷ rest) x h = let same : x ≡ y = cc in ap f same

pub starts_none : (f : Item → Bool) (ts : List Item) → None ≡ slice_get ts 0 → false ≡ starts f ts
starts_none f [] h = refl
starts_none f (y ∷ rest) h = absurd cc

pub operator_taken : (n : ℕ) (ts : List Item) (x : Item) (o : TestOp) → Some x ≡ slice_get ts 0 → Some o ≡ token_operator n x.token → (operator n).reads ts ≡ Ok (o, drop 1 ts)
unfolding operator one_by
operator_taken n [] x o h e = absurd cc
operator_taken n (y ∷ rest) x o h e = let same : x ≡ y = cc in rw (← same, ← e) refl

pub operator_refused : (n : ℕ) (ts : List Item) (x : Item) → Some x ≡ slice_get ts 0 → None ≡ token_operator n x.token → (operator n).reads ts ≡ Err (kind_at ts, length ts)
unfolding operator one_by
operator_refused n [] x h e = absurd cc
operator_refused n (y ∷ rest) x h e = let same : x ≡ y = cc in rw (← same, ← e) refl

pub operator_none : (n : ℕ) (ts : List Item) → None ≡ slice_get ts 0 → (operator n).reads ts ≡ Err (kind_at ts, length ts)
unfolding operator one_by
operator_none n [] h = refl
operator_none n (y ∷ rest) h = absurd cc

pub room_is : (n : ℕ) → n < 64 → is_full (Some 64) n ≡ false
room_is n h = grind (arith, nat_tests)

pub full_is : (n : ℕ) → (n < 64 → ⊥) → is_full (Some 64) n ≡ true
full_is n h = grind (arith, nat_tests)

-- ---- a loop over a value that grows

module _ {A : Type 0} (may : A → Bool) (b : Item → Bool) (P : A → Part A) where
  grow_turn : (n i : ℕ) (a : A) (ts : List Item) → i < n → (may a && starts b ts) ≡ true
      → grow_at may b (λ c. (P c).reads) (n - i) a ts ≡ ((P a).reads ts >>= λ x. grow_at may b (λ c. (P c).reads) (n - (i + 1)) x.0 x.1)
  unfolding grow_at
  grow_turn n i a ts lt h = let k : n - i ≡ suc (n - (i + 1)) = omega (arith, lt) in rw (k, h) refl

  grow_stops : (k : ℕ) (a : A) (ts : List Item) → (may a && starts b ts) ≡ false → grow_at may b (λ c. (P c).reads) k a ts ≡ Ok (a, ts)
  unfolding grow_at
  grow_stops zero a ts h = refl
  grow_stops (suc k) a ts h = rw h refl

  grow_ends : (k : ℕ) (a : A) (ts : List Item) → k ≡ 0 → grow_at may b (λ c. (P c).reads) k a ts ≡ Ok (a, ts)
  unfolding grow_at
  grow_ends k a ts h = rw h refl

  pub grow_begun : (n : ℕ) (a : A) (ts : List Item) → n ≡ length ts → grow_at may b (λ c. (P c).reads) (n - 0) a ts ≡ (grow may b P a).reads ts
  unfolding grow
  grow_begun n a ts h = let k : n - 0 ≡ length ts = omega (arith, h) in rw k refl

  pub grow_goes_on : (n i : ℕ) (a c : A) (ts later : List Item) (total : Outcome A) → i < n → (may a && starts b ts) ≡ true → (P a).reads ts ≡ Ok (c, later)
      → grow_at may b (λ d. (P d).reads) (n - i) a ts ≡ total → grow_at may b (λ d. (P d).reads) (n - (i + 1)) c later ≡ total
  grow_goes_on n i a c ts later total lt begins e so_far =
      let one : grow_at may b (λ d. (P d).reads) (n - i) a ts ≡ grow_at may b (λ d. (P d).reads) (n - (i + 1)) c later = rw (grow_turn n i a ts lt begins, e) refl in
      sym one ∙ so_far

  pub grow_breaks_off : (n i : ℕ) (a : A) (ts : List Item) (total : Outcome A) (e : ReadError) → i < n → (may a && starts b ts) ≡ true → Fails ((P a).reads ts) e
      → grow_at may b (λ d. (P d).reads) (n - i) a ts ≡ total → Fails total e
  grow_breaks_off n i a ts total errors.Memory lt begins e so_far = tt
  grow_breaks_off n i a ts total (errors.At kind left) lt begins e so_far =
      let one : grow_at may b (λ d. (P d).reads) (n - i) a ts ≡ Err (kind, left) = rw (grow_turn n i a ts lt begins, e) refl in
      sym so_far ∙ one

  pub grow_done : (k : ℕ) (a : A) (ts : List Item) (total : Outcome A) → (may a && starts b ts) ≡ false → grow_at may b (λ d. (P d).reads) k a ts ≡ total → total ≡ Ok (a, ts)
  grow_done k a ts total h so_far = sym so_far ∙ grow_stops k a ts h

  pub grow_out : (n i : ℕ) (a : A) (ts : List Item) (total : Outcome A) → n ≤ i → grow_at may b (λ d. (P d).reads) (n - i) a ts ≡ total → total ≡ Ok (a, ts)
  grow_out n i a ts total le so_far = sym so_far ∙ grow_ends (n - i) a ts (omega (arith, le))

-- ---- parts that are read by recursion on their limits

pub negated_more : (n : ℕ) (x : TestExpr) → negated (n + 1) x ≡ e.Neg (negated n x)
negated_more n x = let k : n + 1 ≡ suc n = omega arith in rw k refl

pub minuses_is : (most : Option ℕ) (n : ℕ) (ts : List Item) → (grow always (is_symbol s.Minus) (minus most) n).reads ts ≡ (minuses most n).reads ts
unfolding minuses
minuses_is most n ts = refl

pub behind_none : (most : Option ℕ) (P : ℕ → Part Counted) (n : ℕ) (v : Counted) (ts : List Item) → n ≡ 0 → (behind most P n v).reads ts ≡ Ok (v, ts)
unfolding behind nothing
behind_none most P n v ts h = rw h refl

pub behind_looser : (most : Option ℕ) (P : ℕ → Part Counted) (n : ℕ) (v w : Counted) (ts later : List Item) → 0 < n → (behind most P (n - 1) v).reads ts ≡ Ok (w, later)
    → (behind most P n v).reads ts ≡ (grow always (is_operator (n - 1)) (one_more most (n - 1) (level most P (n - 1))) w).reads later
unfolding behind after level
behind_looser most P zero v w ts later h e = absurd (omega (arith, h))
behind_looser most P (suc n) v w ts later h e = let k : suc n - 1 ≡ n = omega arith in rw (k, subst (λ (z : ℕ). (behind most P z v).reads ts ≡ Ok (w, later)) k e) refl

pub behind_fails : (most : Option ℕ) (P : ℕ → Part Counted) (n : ℕ) (v : Counted) (ts : List Item) (f : ReadError) → 0 < n → Fails ((behind most P (n - 1) v).reads ts) f → Fails ((behind most P n v).reads ts) f
unfolding behind after
behind_fails most P zero v ts f h e = absurd (omega (arith, h))
behind_fails most P (suc n) v ts errors.Memory h e = tt
behind_fails most P (suc n) v ts (errors.At kind left) h e = let k : suc n - 1 ≡ n = omega arith in rw (subst (λ (z : ℕ). (behind most P z v).reads ts ≡ Err (kind, left)) k e) refl

pub parens_deeper : (most : Option ℕ) (d n : ℕ) (ts : List Item) → 0 < d → (parens most d n).reads ts ≡ (both second (mark s.OpenParen) (both first (expr_in most (parens most (d - 1)) n) (mark s.CloseParen))).reads ts
unfolding parens
parens_deeper most zero n ts h = absurd (omega (arith, h))
parens_deeper most (suc d) n ts h = let k : suc d - 1 ≡ d = omega arith in rw k refl

pub either_starts : (f g : Item → Bool) (ts : List Item) → (starts f ts || starts g ts) ≡ starts (λ x. f x || g x) ts
either_starts f g [] = refl
either_starts f g (x ∷ rest) = refl

pub listed_behind_is : (l : ExprLimits) (v : Listed) (ts : List Item) → (grow may_be_index is_suffix (listed_further l) v).reads ts ≡ (listed_behind l v).reads ts
unfolding listed_behind
listed_behind_is l v ts = refl

-- a list that was begun
pub furthers_follow : (l : ExprLimits) (front : List TestExpr) (a : TestExpr) (n : ℕ) (ts : List Item) → front ≡ a ∷ [] → n ≡ length ts
    → gathered front (many_at (is_symbol s.Comma) (further l).reads (n - 0) ts) ≡ carried cons a ((furthers l).reads ts)
unfolding furthers many
furthers_follow l front a n ts one h = let k : n - 0 ≡ length ts = omega (arith, h) in rw (k, one) refl
