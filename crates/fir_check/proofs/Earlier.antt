-- Whether a name stands in front of a place in a list, by the place of the first item that has it.
use Rattle.std.proofs.Common.{ℕ, zero, suc, Bool, true, false, cond, ◌||◌, ◌≡◌, ◌+◌, ◌≤◌, nat_lt, Some, List, [], ◌∷◌, map, take, refl, sym, ap, ◌∙◌, arith}
use Rattle.std.proofs.lemmas.Bool.Decides.{nat_tests}
use Rattle.std.specs.Prelude.{bytes_eq}
use Rattle.std.specs.List.{list_any, position_from}
use Rattle.fir_ast.specs.declared.tree.Field.{Field}
use Rattle.fir_check.specs.Names.{is_among}
use Rattle.fir_check.specs.Fields.{field_name}
use Rattle.fir_check.specs.Tables.{number_named, is_below, NamesFields}

at_least : (i e : ℕ) → e ≤ i → nat_lt i e ≡ false
at_least i e h = grind (arith, nat_tests)

less : (i k : ℕ) → nat_lt i (i + suc k) ≡ true
less i k = grind (arith, nat_tests)

-- no place from an end on is below it
none_below : {X : Type 0} (p : X → Bool) (i e : ℕ) (xs : List X) → e ≤ i → is_below e (position_from p i xs) ≡ false
none_below p i e [] h = refl
none_below p i e (x ∷ xs) h = step (p x) (none_below p (i + 1) e xs (omega arith))
  where
    step : (b : Bool) → is_below e (position_from p (i + 1) xs) ≡ false → is_below e (cond b (Some i) (position_from p (i + 1) xs)) ≡ false
    step true q = at_least i e h
    step false q = q

pub any_before : {X : Type 0} (p : X → Bool) (i k : ℕ) (xs : List X) → list_any p (take k xs) ≡ is_below (i + k) (position_from p i xs)
any_before p i zero [] = refl
any_before p i (suc k) [] = refl
any_before p i zero (x ∷ xs) = sym (none_below p i (i + zero) (x ∷ xs) (omega arith))
any_before p i (suc k) (x ∷ xs) = step (p x) (any_before p (i + 1) k xs)
  where
    step : (b : Bool) → list_any p (take k xs) ≡ is_below (i + 1 + k) (position_from p (i + 1) xs)
        → b || list_any p (take k xs) ≡ is_below (i + suc k) (cond b (Some i) (position_from p (i + 1) xs))
    step true q = sym (less i k)
    step false q = q ∙ ap (λ n. is_below n (position_from p (i + 1) xs)) (turn i k)
      where
        turn : (i k : ℕ) → i + 1 + k ≡ i + suc k
        turn i k = omega arith

any_names : {X : Type 0} (name_of : X → List ℕ) (n : List ℕ) (xs : List X) → is_among n (map name_of xs) ≡ list_any (λ x. bytes_eq (name_of x) n) xs
any_names name_of n [] = refl
any_names name_of n (x ∷ xs) = ap (λ b. bytes_eq (name_of x) n || b) (any_names name_of n xs)

-- a name is one of the first fields' where the table of the names gives a place among these
pub named_before : (fields : List Field) (table : List (List ℕ × ℕ)) (n : List ℕ) (k : ℕ) → NamesFields fields table
    → is_below k (number_named n table) ≡ is_among n (map field_name (take k fields))
named_before fields table n k t =
    ap (is_below k) (t.each n)
    ∙ sym (any_before (λ f. bytes_eq (field_name f) n) 0 k fields ∙ ap (λ e. is_below e (position_from (λ f. bytes_eq (field_name f) n) 0 fields)) (plain k))
    ∙ sym (any_names field_name n (take k fields))
  where
    plain : (k : ℕ) → 0 + k ≡ k
    plain k = omega arith
