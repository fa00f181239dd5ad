-- Lists of names none of which stands twice, and names of which what stands behind is known.
use Rattle.std.proofs.Common.{ℕ, zero, suc, ◌≡◌, ◌+◌, ◌<◌, ◌^◌, ◌%◌, ◌∙◌, ◌==◌, Bool, true, not, ◌&&◌, List, [], ◌∷◌, ◌++◌, length, map, get_or, drop, refl, sym, ap, ap₂, arith, decimal}
use Rattle.std.specs.List.{flat_map, list_all}
use Rattle.std.proofs.lemmas.List.Folds.{list_all-append}
use Rattle.std.proofs.lemmas.Bool.{ne_eqb}
use Rattle.std.proofs.lemmas.Fmt.{decimal_by_steps, decimal_injective}
use Rattle.flat_shapes.specs.Apart.{AllDiffer}
use Rattle.flat_shapes.proofs.Tests.{never, and_left, and_right}

abbrev pub Every : {X : Type 0} → (X → Type 0) → List X → Type 0
Every P [] = Unit {0}
Every P (x ∷ xs) = P x × Every P xs

pub every_append : {X : Type 0} (P : X → Type 0) (xs ys : List X) → Every P xs → Every P ys → Every P (xs ++ ys)
every_append P [] ys h k = k
every_append P (x ∷ xs) ys h k = (h.0, every_append P xs ys h.1 k)

pub every_map : {X Y : Type 0} (P : X → Type 0) (Q : Y → Type 0) (f : X → Y) → ((x : X) → P x → Q (f x)) → (xs : List X) → Every P xs → Every Q (map f xs)
every_map P Q f h [] e = tt
every_map P Q f h (x ∷ xs) e = (h x e.0, every_map P Q f h xs e.1)

pub every_at : {X : Type 0} (P : X → Type 0) (xs : List X) (k : ℕ) (d : X) → Every P xs → k < length xs → P (get_or xs k d)
every_at P [] k d e h = absurd (omega (arith, h))
every_at P (x ∷ xs) zero d e h = e.0
every_at P (x ∷ xs) (suc k) d e h = every_at P xs k d e.1 (omega (arith, h))

pub every_weaker : {X : Type 0} (P Q : X → Type 0) → ((x : X) → P x → Q x) → (xs : List X) → Every P xs → Every Q xs
every_weaker P Q h [] e = tt
every_weaker P Q h (x ∷ xs) e = (h x e.0, every_weaker P Q h xs e.1)

pub every_flat : {X Y : Type 0} (P : Y → Type 0) (g : X → List Y) → ((x : X) → Every P (g x)) → (xs : List X) → Every P (flat_map g xs)
every_flat P g h [] = tt
every_flat P g h (x ∷ xs) = every_append P (g x) (flat_map g xs) (h x) (every_flat P g h xs)

pub always : {X : Type 0} (P : X → Type 0) → ((x : X) → P x) → (xs : List X) → Every P xs
always P h [] = tt
always P h (x ∷ xs) = (h x, always P h xs)

abbrev pub IsNot : List ℕ → List ℕ → Type 0
IsNot x y = x ≡ y → ⊥

-- each differs from those behind it
abbrev pub Apart : List (List ℕ) → Type 0
Apart [] = Unit {0}
Apart (x ∷ xs) = Every (IsNot x) xs × Apart xs

pub apart_append : (xs ys : List (List ℕ)) → Apart xs → Apart ys → Every (λ x. Every (IsNot x) ys) xs → Apart (xs ++ ys)
apart_append [] ys h k e = k
apart_append (x ∷ xs) ys h k e = (every_append (IsNot x) xs ys h.0 e.0, apart_append xs ys h.1 k e.1)

pub apart_map : (f : List ℕ → List ℕ) → ((x y : List ℕ) → f x ≡ f y → x ≡ y) → (xs : List (List ℕ)) → Apart xs → Apart (map f xs)
apart_map f i [] h = tt
apart_map f i (x ∷ xs) h = (every_map (IsNot x) (IsNot (f x)) f (λ y n e. n (i x y e)) xs h.0, apart_map f i xs h.1)

pub apart_from_map : (f : List ℕ → List ℕ) (xs : List (List ℕ)) → Apart (map f xs) → Apart xs
apart_from_map f [] h = tt
apart_from_map f (x ∷ xs) h = (back xs h.0, apart_from_map f xs h.1)
  where
    back : (ys : List (List ℕ)) → Every (IsNot (f x)) (map f ys) → Every (IsNot x) ys
    back [] e = tt
    back (y ∷ ys) e = ((λ q. e.0 (ap f q)), back ys e.1)

-- two properties that no two equal lists have
pub cross : (P Q : List ℕ → Type 0) → ((x y : List ℕ) → P x → Q y → IsNot x y) → (xs ys : List (List ℕ)) → Every P xs → Every Q ys → Every (λ x. Every (IsNot x) ys) xs
cross P Q h xs ys p q = every_weaker P (λ x. Every (IsNot x) ys) (λ x a. every_weaker Q (IsNot x) (λ y b. h x y a b) ys q) xs p

pub differ : (xs : List (List ℕ)) → Apart xs → AllDiffer xs
differ [] a j k d h l e = absurd (omega (arith, h))
differ (x ∷ xs) a zero zero d h l e = refl
differ (x ∷ xs) a zero (suc k) d h l e = absurd (every_at (IsNot x) xs k d a.0 (omega (arith, l)) e)
differ (x ∷ xs) a (suc j) zero d h l e = absurd (every_at (IsNot x) xs j d a.0 (omega (arith, h)) (sym e))
differ (x ∷ xs) a (suc j) (suc k) d h l e = ap suc (differ xs a.1 j k d (omega (arith, h)) (omega (arith, l)) e)

-- a name and what stands behind it

module _ (stop : ℕ → Bool) where
  abbrev pub Plain : List ℕ → Bool
  Plain name = list_all (λ b. not (stop b)) name

  abbrev pub Ended : List ℕ → Bool
  Ended [] = true
  Ended (b ∷ bs) = stop b

  unlike : (b : ℕ) (bs : List ℕ) → Plain (b ∷ bs) ≡ true → stop b ≡ true → ⊥
  unlike b bs p s = never (sym (ap not s) ∙ and_left (not (stop b)) (Plain bs) p)

  pub cut : (xs ys us vs : List ℕ) → Plain xs ≡ true → Plain ys ≡ true → Ended us ≡ true → Ended vs ≡ true → xs ++ us ≡ ys ++ vs → (xs ≡ ys) × (us ≡ vs)
  cut [] [] us vs p q e f h = (refl, h)
  cut [] (y ∷ ys) us vs p q e f h = absurd (unlike y ys q (sym (ap Ended h) ∙ e))
  cut (x ∷ xs) [] us vs p q e f h = absurd (unlike x xs p (ap Ended h ∙ f))
  cut (x ∷ xs) (y ∷ ys) us vs p q e f h =
      let i : (xs ≡ ys) × (us ≡ vs) =
      cut xs ys us vs (and_right (not (stop x)) (Plain xs) p) (and_right (not (stop y)) (Plain ys) q) e f (ap (drop 1) h) in
      (ap₂ (λ a zs. a ∷ zs) (ap (λ zs. get_or zs 0 0) h) i.0, i.1)

-- bytes behind the first
pub rest_same : (a b : ℕ) (xs ys : List ℕ) → a ∷ xs ≡ b ∷ ys → xs ≡ ys
rest_same a b xs ys h = ap (drop 1) h

-- numbers of elements, between brackets

abbrev pub behind_number : ℕ → List ℕ → List ℕ
behind_number k e = 91 ∷ (decimal k ++ (93 ∷ e))

no_close : (n : ℕ) → n < 2 ^ 64 → Plain (λ b. b == 93) (decimal n) ≡ true
no_close = decimal_by_steps (λ n ds. Plain (λ b. b == 93) ds ≡ true)
    (λ n h. ap (λ b. not b && true) (ne_eqb (48 + n) 93 (λ e. omega (arith, h, e))))
    (λ n ds h p.
    list_all-append (λ b. not (b == 93)) ds ((48 + n % 10) ∷ [])
    ∙ ap₂ (λ a b. a && b) p (ap (λ b. not b && true) (ne_eqb (48 + n % 10) 93 (λ e. omega (arith, e)))))

pub same_number : (j k : ℕ) (e f : List ℕ) → j < 2 ^ 64 → k < 2 ^ 64 → behind_number j e ≡ behind_number k f → (j ≡ k) × (e ≡ f)
same_number j k e f l m h =
    let c : (decimal j ≡ decimal k) × (93 ∷ e ≡ 93 ∷ f) =
    cut (λ b. b == 93) (decimal j) (decimal k) (93 ∷ e) (93 ∷ f) (no_close j l) (no_close k m) refl refl
    (rest_same 91 91 (decimal j ++ (93 ∷ e)) (decimal k ++ (93 ∷ f)) h) in
    (decimal_injective j k l m c.0, rest_same 93 93 e f c.1)
