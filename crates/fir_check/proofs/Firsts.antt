-- The first items of each name, from some place in a list on.
use Rattle.std.proofs.Common.{ℕ, zero, suc, Bool, true, false, not, ◌&&◌, ◌||◌, ◌≡◌, ◌+◌, ◌<◌, ◌≤◌, List, [], ◌∷◌, length, map, take, get_or, refl, sym, ap, ◌∙◌, arith, add-one}
use Rattle.std.specs.Prelude.{bytes_eq}
use Rattle.std.specs.List.{list_any, list_all}
use Rattle.fir_check.specs.Names.{is_among, kept, first_ones}

or_assoc : (a b c : Bool) → a || (b || c) ≡ (a || b) || c
or_assoc true b c = refl
or_assoc false b c = refl

or_swap : (a b : Bool) → a || b ≡ b || a
or_swap true true = refl
or_swap true false = refl
or_swap false true = refl
or_swap false false = refl

module _ {X : Type 0} (name_of : X → List ℕ) where
  -- the first items behind the first k, where these names come before the list
  abbrev pub from : List (List ℕ) → List X → ℕ → List X
  from earlier xs zero = first_ones name_of earlier xs
  from earlier [] (suc k) = []
  from earlier (x ∷ xs) (suc k) = from (name_of x ∷ earlier) xs k

  -- the names in front of the place k
  abbrev pub before : List (List ℕ) → List X → ℕ → List (List ℕ)
  before earlier xs zero = earlier
  before earlier [] (suc k) = earlier
  before earlier (x ∷ xs) (suc k) = before (name_of x ∷ earlier) xs k

  pub from_next : (earlier : List (List ℕ)) (xs : List X) (k : ℕ) (x : X) → k < length xs → x ≡ get_or xs k x
      → from earlier xs k ≡ kept (not (is_among (name_of x) (before earlier xs k))) x (from earlier xs (suc k))
  from_next earlier [] k x h e = absurd (omega arith)
  from_next earlier (y ∷ ys) zero x h e = rw e refl
  from_next earlier (y ∷ ys) (suc k) x h e = from_next (name_of y ∷ earlier) ys k x (omega arith) e

  pub from_end : (earlier : List (List ℕ)) (xs : List X) (k : ℕ) → length xs ≤ k → from earlier xs k ≡ []
  from_end earlier [] zero h = refl
  from_end earlier [] (suc k) h = refl
  from_end earlier (x ∷ xs) zero h = absurd (omega arith)
  from_end earlier (x ∷ xs) (suc k) h = from_end (name_of x ∷ earlier) xs k (omega arith)

  pub before_among : (n : List ℕ) (earlier : List (List ℕ)) (xs : List X) (k : ℕ)
      → is_among n (before earlier xs k) ≡ is_among n (map name_of (take k xs)) || is_among n earlier
  before_among n earlier [] zero = refl
  before_among n earlier [] (suc k) = refl
  before_among n earlier (x ∷ xs) zero = refl
  before_among n earlier (x ∷ xs) (suc k) =
      before_among n (name_of x ∷ earlier) xs k
      ∙ or_assoc (is_among n (map name_of (take k xs))) (bytes_eq (name_of x) n) (is_among n earlier)
      ∙ ap (λ b. b || is_among n earlier) (or_swap (is_among n (map name_of (take k xs))) (bytes_eq (name_of x) n))

  -- what counts at a place: a test holds there, and no earlier item has the name
  pub record At (xs : List X) (k : ℕ) (x : X) (test result : Bool) : Type 0 where
    pub within : k < length xs
    pub is : x ≡ get_or xs k x
    pub counts : result ≡ (test && not (is_among (name_of x) (map name_of (take k xs))))

  pub placed : (xs : List X) (k : ℕ) (x : X) (test hit r b : Bool) (n : List ℕ) → k < length xs → x ≡ get_or xs k x → hit ≡ test → n ≡ name_of x
      → r ≡ (hit && not (is_among n (map name_of (take k xs)))) → r ≡ b → At xs k x test b
  placed xs k x test hit r b n w i h e c q = record {
    within = w;
    is = i;
    counts = sym q ∙ c ∙ ap (λ t. t && not (is_among n (map name_of (take k xs)))) h ∙ ap (λ m. test && not (is_among m (map name_of (take k xs)))) e;
  }

  -- the same, where the names are looked at first
  pub placed_past : (xs : List X) (k : ℕ) (x : X) (test old r b : Bool) (n : List ℕ) → k < length xs → x ≡ get_or xs k x → n ≡ name_of x
      → old ≡ is_among n (map name_of (take k xs)) → r ≡ (not old && test) → r ≡ b → At xs k x test b
  placed_past xs k x test old r b n w i e o c q = record {
    within = w;
    is = i;
    counts = sym q ∙ c ∙ turn (not old) test ∙ ap (λ a. test && not a) o ∙ ap (λ m. test && not (is_among m (map name_of (take k xs)))) e;
  }
    where
      turn : (a b : Bool) → (a && b) ≡ (b && a)
      turn true true = refl
      turn true false = refl
      turn false true = refl
      turn false false = refl

  is_first : (xs : List X) (k : ℕ) (x : X) → is_among (name_of x) (before [] xs k) ≡ is_among (name_of x) (map name_of (take k xs))
  is_first xs k x = before_among (name_of x) [] xs k ∙ or_swap (is_among (name_of x) (map name_of (take k xs))) false

  any_kept : (P : X → Bool) (x : X) (b : Bool) (rest : List X) → list_any P (kept (not b) x rest) ≡ (P x && not b) || list_any P rest
  any_kept P x true rest = ap (λ c. c || list_any P rest) (and_none (P x))
    where
      and_none : (a : Bool) → false ≡ (a && false)
      and_none true = refl
      and_none false = refl
  any_kept P x false rest = ap (λ c. c || list_any P rest) (and_all (P x))
    where
      and_all : (a : Bool) → a ≡ (a && true)
      and_all true = refl
      and_all false = refl

  pub any_next : (P : X → Bool) (xs : List X) (k : ℕ) (x : X) (b : Bool) → At xs k x (P x) b → list_any P (from [] xs k) ≡ b || list_any P (from [] xs (k + 1))
  any_next P xs k x b a =
      ap (list_any P) (from_next [] xs k x a.within a.is)
      ∙ any_kept P x (is_among (name_of x) (before [] xs k)) (from [] xs (suc k))
      ∙ ap (λ t. (P x && not t) || list_any P (from [] xs (suc k))) (is_first xs k x)
      ∙ ap (λ t. t || list_any P (from [] xs (suc k))) (sym a.counts)
      ∙ ap (λ n. b || list_any P (from [] xs n)) (sym (add-one k))

  all_kept : (P : X → Bool) (x : X) (b : Bool) (rest : List X) → list_all P (kept (not b) x rest) ≡ not (not (P x) && not b) && list_all P rest
  all_kept P x true rest = ap (λ c. c && list_all P rest) (and_none (P x))
    where
      and_none : (a : Bool) → true ≡ not (not a && false)
      and_none true = refl
      and_none false = refl
  all_kept P x false rest = ap (λ c. c && list_all P rest) (and_all (P x))
    where
      and_all : (a : Bool) → a ≡ not (not a && true)
      and_all true = refl
      and_all false = refl

  pub all_next : (P : X → Bool) (xs : List X) (k : ℕ) (x : X) (b : Bool) → At xs k x (not (P x)) b → list_all P (from [] xs k) ≡ not b && list_all P (from [] xs (k + 1))
  all_next P xs k x b a =
      ap (list_all P) (from_next [] xs k x a.within a.is)
      ∙ all_kept P x (is_among (name_of x) (before [] xs k)) (from [] xs (suc k))
      ∙ ap (λ t. not (not (P x) && not t) && list_all P (from [] xs (suc k))) (is_first xs k x)
      ∙ ap (λ t. not t && list_all P (from [] xs (suc k))) (sym a.counts)
      ∙ ap (λ n. not b && list_all P (from [] xs n)) (sym (add-one k))

  -- one more turn of a loop that looks for an item
  pub any_step : (P : X → Bool) (xs : List X) (k : ℕ) (x : X) (whole : Bool)
      → At xs k x (P x) false → list_any P (from [] xs k) ≡ whole → list_any P (from [] xs (k + 1)) ≡ whole
  any_step P xs k x whole a e = sym (any_next P xs k x false a) ∙ e

  pub any_found : (P : X → Bool) (xs : List X) (k : ℕ) (x : X) (whole : Bool)
      → At xs k x (P x) true → list_any P (from [] xs k) ≡ whole → true ≡ whole
  any_found P xs k x whole a e = sym (any_next P xs k x true a) ∙ e

  pub any_none : (P : X → Bool) (xs : List X) (k : ℕ) (whole : Bool) → length xs ≤ k → list_any P (from [] xs k) ≡ whole → false ≡ whole
  any_none P xs k whole h e = ap (list_any P) (sym (from_end [] xs k h)) ∙ e

  -- of one that looks for an item that fails
  pub all_step : (P : X → Bool) (xs : List X) (k : ℕ) (x : X) (whole : Bool)
      → At xs k x (not (P x)) false → list_all P (from [] xs k) ≡ whole → list_all P (from [] xs (k + 1)) ≡ whole
  all_step P xs k x whole a e = sym (all_next P xs k x false a) ∙ e

  pub all_failed : (P : X → Bool) (xs : List X) (k : ℕ) (x : X) (whole : Bool)
      → At xs k x (not (P x)) true → list_all P (from [] xs k) ≡ whole → false ≡ whole
  all_failed P xs k x whole a e = sym (all_next P xs k x true a) ∙ e

  pub all_done : (P : X → Bool) (xs : List X) (k : ℕ) (whole : Bool) → length xs ≤ k → list_all P (from [] xs k) ≡ whole → true ≡ whole
  all_done P xs k whole h e = ap (list_all P) (sym (from_end [] xs k h)) ∙ e
