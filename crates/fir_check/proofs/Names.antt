-- Names among names, and look-ups among the first items of each name.
use Rattle.std.proofs.Common.{ℕ, zero, suc, Bool, true, false, not, ◌&&◌, ◌||◌, ◌≡◌, ◌+◌, ◌<◌, cond, List, [], ◌∷◌, length, map, take, drop, get_or, refl, sym, ap, ◌∙◌, arith, Option, None, Some, true≢false, is_some, option_map, add-one, drop-cons}
use Rattle.std.specs.Prelude.{find, bytes_eq}
use Rattle.std.specs.Bool.{one_answer}
use Rattle.std.specs.List.{list_any, list_all}
use Rattle.std.proofs.lemmas.Slice.Eq.{bytes_eq-Decides}
use Rattle.fir_check.specs.Names.{is_among, kept, first_ones, firsts}

pub bytes_same : (a b : List ℕ) → bytes_eq a b ≡ true → a ≡ b
bytes_same a b e = (bytes_eq-Decides a b).0 e

pub bytes_self : (a : List ℕ) → bytes_eq a a ≡ true
bytes_self a = (bytes_eq-Decides a a).1 refl

pub bytes_turned : (a b : List ℕ) → bytes_eq a b ≡ bytes_eq b a
bytes_turned a b =
    one_answer (bytes_eq a b) (bytes_eq b a) (bytes_eq-Decides a b)
    ((λ e. sym ((bytes_eq-Decides b a).0 e)), (λ e. (bytes_eq-Decides b a).1 (sym e)))

pub or_true : (a : Bool) → a || true ≡ true
or_true true = refl
or_true false = refl

pub or_false : (a : Bool) → a || false ≡ a
or_false true = refl
or_false false = refl

pub and_true : (a : Bool) → (a && true) ≡ a
and_true true = refl
and_true false = refl

pub or_left : (a b : Bool) → a || b ≡ false → a ≡ false
or_left true b e = absurd (true≢false e)
or_left false b e = refl

pub or_right : (a b : Bool) → a || b ≡ false → b ≡ false
or_right true b e = absurd (true≢false e)
or_right false b e = e

-- two names, one of which stands there
pub differ_among : (n m : List ℕ) (e : List (List ℕ)) → is_among n e ≡ true → is_among m e ≡ false → bytes_eq n m ≡ false
differ_among n m e h r = by (bytes_eq n m) refl
  where
    by : (b : Bool) → bytes_eq n m ≡ b → bytes_eq n m ≡ false
    by true q = absurd (true≢false (sym h ∙ ap (λ k. is_among k e) (bytes_same n m q) ∙ r))
    by false q = q

-- two equal names stand there, or neither does
clash : (n m : List ℕ) (e : List (List ℕ)) → is_among n e ≡ false → bytes_eq m n ≡ true → is_among m e ≡ false
clash n m e h q = ap (λ k. is_among k e) (bytes_same m n q) ∙ h

-- of what is found, whether a test holds
abbrev pub found_is : {X : Type 0} → (X → Bool) → Option X → Bool
found_is Q None = false
found_is Q (Some x) = Q x

pub any_is_found : {X : Type 0} (P : X → Bool) (xs : List X) → list_any P xs ≡ is_some (find P xs)
any_is_found P [] = refl
any_is_found P (x ∷ xs) = by (P x) (any_is_found P xs)
  where
    by : (b : Bool) → list_any P xs ≡ is_some (find P xs) → b || list_any P xs ≡ is_some (cond b (Some x) (find P xs))
    by true r = refl
    by false r = r

pub find_map : {X Y : Type 0} (P : Y → Bool) (g : X → Y) (xs : List X) → find P (map g xs) ≡ option_map g (find (λ x. P (g x)) xs)
find_map P g [] = refl
find_map P g (x ∷ xs) = by (P (g x)) (find_map P g xs)
  where
    by : (b : Bool) → find P (map g xs) ≡ option_map g (find (λ y. P (g y)) xs) → cond b (Some (g x)) (find P (map g xs)) ≡ option_map g (cond b (Some x) (find (λ y. P (g y)) xs))
    by true r = refl
    by false r = r

module _ {X : Type 0} (nm : X → List ℕ) where
  pub none_named : (n : List ℕ) (P : X → Bool) (e : List (List ℕ)) (xs : List X) → is_among n e ≡ true
      → list_any (λ g. bytes_eq n (nm g) && P g) (first_ones nm e xs) ≡ false
  none_named n P e [] h = refl
  none_named n P e (x ∷ xs) h =
      by (is_among (nm x) e) refl (none_named n P (nm x ∷ e) xs (ap (λ b. bytes_eq (nm x) n || b) h ∙ or_true (bytes_eq (nm x) n)))
    where
      by : (b : Bool) → is_among (nm x) e ≡ b → list_any (λ g. bytes_eq n (nm g) && P g) (first_ones nm (nm x ∷ e) xs) ≡ false
          → list_any (λ g. bytes_eq n (nm g) && P g) (kept (not b) x (first_ones nm (nm x ∷ e) xs)) ≡ false
      by true q r = r
      by false q r =
          ap (λ b. (b && P x) || list_any (λ g. bytes_eq n (nm g) && P g) (first_ones nm (nm x ∷ e) xs)) (differ_among n (nm x) e h q) ∙ r

  -- the one of a name among the first ones
  pub any_named : (n : List ℕ) (P : X → Bool) (e : List (List ℕ)) (xs : List X) → is_among n e ≡ false
      → list_any (λ g. bytes_eq n (nm g) && P g) (first_ones nm e xs) ≡ found_is P (find (λ g. bytes_eq (nm g) n) xs)
  any_named n P e [] h = refl
  any_named n P e (x ∷ xs) h = by (bytes_eq (nm x) n) (is_among (nm x) e) (λ q. any_named n P (nm x ∷ e) xs (ap (λ b. b || is_among n e) q ∙ h)) (bytes_turned n (nm x)) refl refl
    where
      by : (b c : Bool) → (bytes_eq (nm x) n ≡ false → list_any (λ g. bytes_eq n (nm g) && P g) (first_ones nm (nm x ∷ e) xs) ≡ found_is P (find (λ g. bytes_eq (nm g) n) xs))
          → bytes_eq n (nm x) ≡ b → bytes_eq (nm x) n ≡ b → is_among (nm x) e ≡ c
          → list_any (λ g. bytes_eq n (nm g) && P g) (kept (not c) x (first_ones nm (nm x ∷ e) xs)) ≡ found_is P (cond b (Some x) (find (λ g. bytes_eq (nm g) n) xs))
      by true true i t q r = absurd (true≢false (sym r ∙ clash n (nm x) e h q))
      by true false i t q r =
          ap (λ b. (b && P x) || list_any (λ g. bytes_eq n (nm g) && P g) (first_ones nm (nm x ∷ e) xs)) t
          ∙ ap (λ b. P x || b) (none_named n P (nm x ∷ e) xs (ap (λ b. b || is_among n e) q))
          ∙ or_false (P x)
      by false true i t q r = i q
      by false false i t q r = ap (λ b. (b && P x) || list_any (λ g. bytes_eq n (nm g) && P g) (first_ones nm (nm x ∷ e) xs)) t ∙ i q

  -- the first of a name is found at its place
  pub find_at : (n : List ℕ) (ys : List X) (k : ℕ) (y : X) → is_among n (map nm (take k ys)) ≡ false → k < length ys → y ≡ get_or ys k y → nm y ≡ n
      → find (λ g. bytes_eq (nm g) n) ys ≡ Some y
  find_at n [] k y h w e p = absurd (omega arith)
  find_at n (z ∷ zs) zero y h w e p =
      ap (λ b. cond b (Some z) (find (λ g. bytes_eq (nm g) n) zs)) (ap (λ v. bytes_eq (nm v) n) (sym e) ∙ ap (λ m. bytes_eq m n) p ∙ bytes_self n)
      ∙ ap (λ v. Some v) (sym e)
  find_at n (z ∷ zs) (suc k) y h w e p =
      ap (λ b. cond b (Some z) (find (λ g. bytes_eq (nm g) n) zs)) (or_left (bytes_eq (nm z) n) (is_among n (map nm (take k zs))) h)
      ∙ find_at n zs k y (or_right (bytes_eq (nm z) n) (is_among n (map nm (take k zs))) h) (omega arith) e p

  -- the first ones have all names
  pub find_first : (n : List ℕ) (e : List (List ℕ)) (xs : List X) → is_among n e ≡ false
      → find (λ g. bytes_eq (nm g) n) (first_ones nm e xs) ≡ find (λ g. bytes_eq (nm g) n) xs
  find_first n e [] h = refl
  find_first n e (x ∷ xs) h =
      by (bytes_eq (nm x) n) (is_among (nm x) e) (λ q. find_first n (nm x ∷ e) xs (ap (λ b. b || is_among n e) q ∙ h)) refl refl
    where
      by : (b c : Bool) → (bytes_eq (nm x) n ≡ false → find (λ g. bytes_eq (nm g) n) (first_ones nm (nm x ∷ e) xs) ≡ find (λ g. bytes_eq (nm g) n) xs)
          → bytes_eq (nm x) n ≡ b → is_among (nm x) e ≡ c
          → find (λ g. bytes_eq (nm g) n) (kept (not c) x (first_ones nm (nm x ∷ e) xs)) ≡ cond b (Some x) (find (λ g. bytes_eq (nm g) n) xs)
      by true true i q r = absurd (true≢false (sym r ∙ clash n (nm x) e h q))
      by true false i q r =
          ap (λ b. cond b (Some x) (find (λ g. bytes_eq (nm g) n) (first_ones nm (nm x ∷ e) xs))) q
      by false true i q r = i q
      by false false i q r = ap (λ b. cond b (Some x) (find (λ g. bytes_eq (nm g) n) (first_ones nm (nm x ∷ e) xs))) q ∙ i q

  pub any_first : (n : List ℕ) (xs : List X) → list_any (λ g. bytes_eq (nm g) n) (firsts nm xs) ≡ list_any (λ g. bytes_eq (nm g) n) xs
  any_first n xs =
      any_is_found (λ g. bytes_eq (nm g) n) (firsts nm xs) ∙ ap is_some (find_first n [] xs refl) ∙ sym (any_is_found (λ g. bytes_eq (nm g) n) xs)

  more : (q : List ℕ → Bool) (m : List ℕ) (e : List (List ℕ)) → q m ≡ true → ((n : List ℕ) → is_among n e ≡ true → q n ≡ true)
      → (n : List ℕ) → is_among n (m ∷ e) ≡ true → q n ≡ true
  more q m e p h n r = by (bytes_eq m n) refl
    where
      by : (b : Bool) → bytes_eq m n ≡ b → q n ≡ true
      by true s = ap q (sym (bytes_same m n s)) ∙ p
      by false s = h n (sym (ap (λ b. b || is_among n e) s) ∙ r)

  -- what is asked of names alone
  all_named : (q : List ℕ → Bool) (e : List (List ℕ)) (xs : List X) → ((n : List ℕ) → is_among n e ≡ true → q n ≡ true)
      → list_all (λ g. q (nm g)) (first_ones nm e xs) ≡ list_all (λ g. q (nm g)) xs
  all_named q e [] h = refl
  all_named q e (x ∷ xs) h = by (is_among (nm x) e) (q (nm x)) (λ p. all_named q (nm x ∷ e) xs (more q (nm x) e p h)) refl refl
    where
      by : (c d : Bool) → (q (nm x) ≡ true → list_all (λ g. q (nm g)) (first_ones nm (nm x ∷ e) xs) ≡ list_all (λ g. q (nm g)) xs) → is_among (nm x) e ≡ c → q (nm x) ≡ d
          → list_all (λ g. q (nm g)) (kept (not c) x (first_ones nm (nm x ∷ e) xs)) ≡ q (nm x) && list_all (λ g. q (nm g)) xs
      by true d i r p = i (h (nm x) r) ∙ sym (ap (λ b. b && list_all (λ g. q (nm g)) xs) (h (nm x) r))
      by false true i r p = ap (λ b. q (nm x) && b) (i p)
      by false false i r p =
          ap (λ b. b && list_all (λ g. q (nm g)) (first_ones nm (nm x ∷ e) xs)) p ∙ sym (ap (λ b. b && list_all (λ g. q (nm g)) xs) p)

  pub all_first : (q : List ℕ → Bool) (xs : List X) → list_all (λ g. q (nm g)) (firsts nm xs) ≡ list_all (λ g. q (nm g)) xs
  all_first q xs = all_named q [] xs (λ n r. absurd (true≢false (sym r)))

-- the rest of a list behind its k-th item
pub all_drop : {X : Type 0} (P : X → Bool) (xs : List X) (k : ℕ) (x : X) → k < length xs → x ≡ get_or xs k x
    → list_all P (drop k xs) ≡ P x && list_all P (drop (k + 1) xs)
all_drop P xs k x w e =
    ap (list_all P) (drop-cons xs k x w) ∙ ap (λ y. P y && list_all P (drop (suc k) xs)) (sym e)
    ∙ ap (λ n. P x && list_all P (drop n xs)) (sym (add-one k))

pub map_take : {X Y : Type 0} (g : X → Y) (k : ℕ) (xs : List X) → map g (take k xs) ≡ take k (map g xs)
map_take g zero [] = refl
map_take g zero (x ∷ xs) = refl
map_take g (suc k) [] = refl
map_take g (suc k) (x ∷ xs) = ap (λ ys. g x ∷ ys) (map_take g k xs)

pub map_at : {X Y : Type 0} (g : X → Y) (xs : List X) (k : ℕ) (x : X) (d : Y) → k < length xs → x ≡ get_or xs k x → get_or (map g xs) k d ≡ g x
map_at g [] k x d w e = absurd (omega arith)
map_at g (y ∷ ys) zero x d w e = ap g (sym e)
map_at g (y ∷ ys) (suc k) x d w e = map_at g ys k x d (omega arith) e

pub map_length : {X Y : Type 0} (g : X → Y) (xs : List X) → length (map g xs) ≡ length xs
map_length g [] = refl
map_length g (x ∷ xs) = ap suc (map_length g xs)

-- each of these names is among those
pub all_among : (xs ys : List (List ℕ)) → ((n : List ℕ) → is_among n ys ≡ true → is_among n xs ≡ true) → list_all (λ n. is_among n xs) ys ≡ true
all_among xs [] h = refl
all_among xs (y ∷ ys) h =
    ap (λ b. b && list_all (λ n. is_among n xs) ys) (h y (ap (λ b. b || is_among y ys) (bytes_self y)))
    ∙ all_among xs ys (λ n r. h n (ap (λ b. bytes_eq y n || b) r ∙ or_true (bytes_eq y n)))
