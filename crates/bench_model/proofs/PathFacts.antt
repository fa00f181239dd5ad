-- Facts on paths.
use Rattle.std.proofs.Common.{◌≡◌, ℕ, [], ◌∷◌, ◌++◌, Bool, true, false, Option, Some, None, refl, sym, ap, subst, ◌∙◌, arith, inl, inr, ◌⊎◌, length, length-append, append_assoc}
use Rattle.std.specs.Cmp.{IsTotalOrder, eq_by_cmp_equiv}
use Rattle.std.specs.Cmp.Lexicographic.{nat_list_cmp_total}
use Rattle.std.specs.FinMap.{IsAntisymmetric, slice_cmp-IsAntisymmetric, nat_cmp-IsAntisymmetric}
use Rattle.std.specs.Ordering.{is_eq}
use Rattle.std.specs.declared.cmp.Ordering.{Ordering}
use Rattle.std.specs.declared.cmp.Ordering.TheVariants.{Less, Equal, Greater}
use Rattle.bench_model.specs.Paths.{Path, path_cmp, is_path, child, parent, grown}

pub path_order : IsTotalOrder path_cmp
path_order = nat_list_cmp_total

pub path_exact : IsAntisymmetric path_cmp
path_exact = slice_cmp-IsAntisymmetric nat_cmp-IsAntisymmetric

pub is_path_refl : (p : Path) → is_path p p ≡ true
unfolding is_path
is_path_refl p = (eq_by_cmp_equiv path_order).refl p

pub is_path_sym : (p q : Path) → is_path p q ≡ is_path q p
unfolding is_path
is_path_sym p q = (eq_by_cmp_equiv path_order).symm p q

equal_of : (r : Ordering) → is_eq r ≡ true → r ≡ Equal
equal_of Less e = absurd (cc)
equal_of Equal e = refl
equal_of Greater e = absurd (cc)

pub is_path_same : (p q : Path) → is_path p q ≡ true → p ≡ q
unfolding is_path
is_path_same p q e = path_exact p q (equal_of (path_cmp p q) e)

pub is_path_apart : (p q : Path) → (p ≡ q → ⊥) → is_path p q ≡ false
is_path_apart p q ne = go (is_path p q) refl
  where
    go : (b : Bool) → is_path p q ≡ b → b ≡ false
    go true e = absurd (ne (is_path_same p q e))
    go false e = refl

pub same_path : (p q : Path) → (p ≡ q) ⊎ (p ≡ q → ⊥)
same_path p q = go (is_path p q) refl
  where
    go : (b : Bool) → is_path p q ≡ b → (p ≡ q) ⊎ (p ≡ q → ⊥)
    go true e = inl (is_path_same p q e)
    go false e = inr (λ h. let t : is_path p q ≡ true = subst (λ x. is_path p x ≡ true) h (is_path_refl p) in cc)

-- ---- children and parents
pub parent_child : (p : Path) (k : ℕ) → parent (child p k) ≡ Some (p, k)
unfolding child
parent_child [] k = refl
parent_child (j ∷ p) k = ap (λ o. Some (grown j o)) (parent_child p k)

abbrev rebuilt : Option (Path × ℕ) → Path
rebuilt None = []
rebuilt (Some (q, k)) = child q k

rebuilt_grown : (k : ℕ) (o : Option (Path × ℕ)) → rebuilt (Some (grown k o)) ≡ k ∷ rebuilt o
unfolding child
rebuilt_grown k None = refl
rebuilt_grown k (Some (q, j)) = refl

rebuilt_parent : (p : Path) → rebuilt (parent p) ≡ p
rebuilt_parent [] = refl
rebuilt_parent (k ∷ p) = rebuilt_grown k (parent p) ∙ ap (λ x. k ∷ x) (rebuilt_parent p)

pub child_of_parent : (p q : Path) (k : ℕ) → parent p ≡ Some (q, k) → p ≡ child q k
child_of_parent p q k e = sym (rebuilt_parent p) ∙ ap rebuilt e

abbrev who : Option (Path × ℕ) → Path × ℕ
who None = ([], 0)
who (Some x) = x

pub child_same : (p q : Path) (k j : ℕ) → child p k ≡ child q j → (p ≡ q) × (k ≡ j)
child_same p q k j e =
    let f : ◌≡◌ {A = Path × ℕ} (p, k) (q, j) = ap who (sym (parent_child p k) ∙ ap parent e ∙ parent_child q j) in
    (ap (λ x. x.0) f, ap (λ x. x.1) f)

-- ---- what stands below a path
pub below_itself : (a q : Path) (k : ℕ) → a ++ k ∷ q ≡ a → ⊥
below_itself a q k e = let n : length (a ++ k ∷ q) ≡ length a = ap length e in absurd (omega (arith, n, length-append a (k ∷ q)))

pub below_child : (a q : Path) (n k : ℕ) → child a n ++ k ∷ q ≡ a → ⊥
unfolding child
below_child a q n k e = let m : length ((a ++ n ∷ []) ++ k ∷ q) ≡ length a = ap length e in absurd (omega (arith, m, length-append (a ++ n ∷ []) (k ∷ q), length-append a (n ∷ [])))

pub not_own_child : (a : Path) (n : ℕ) → child a n ≡ a → ⊥
unfolding child
not_own_child a n e = below_itself a [] n e

pub child_below : (a q : Path) (n k : ℕ) → child a n ++ k ∷ q ≡ a ++ n ∷ (k ∷ q)
unfolding child
child_below a q n k = append_assoc a (n ∷ []) (k ∷ q)

pub child_is : (p : Path) (k : ℕ) → child p k ≡ p ++ k ∷ []
unfolding child
child_is p k = refl

-- what is below p and a child of a is that child of p = a, or a is below p
pub data BelowChild (p a q : Path) (k n : ℕ) : Type 0 where
  first : q ≡ [] → p ≡ a → k ≡ n → BelowChild p a q k n
  deeper : (r : Path) → a ≡ p ++ k ∷ r → BelowChild p a q k n

pub below_a_child : (p a q : Path) (k n : ℕ) → p ++ k ∷ q ≡ child a n → BelowChild p a q k n
below_a_child p a q k n e = go (parent q) refl
  where
    go : (o : Option (Path × ℕ)) → parent q ≡ o → BelowChild p a q k n
    go None f =
        let z : q ≡ [] = sym (rebuilt_parent q) ∙ ap rebuilt f in
        let s = child_same p a k n (child_is p k ∙ ap (λ y. p ++ k ∷ y) (sym z) ∙ e) in
        first z s.0 s.1
    go (Some (r, l)) f =
        let z : q ≡ child r l = child_of_parent q r l f in
        let y : child (p ++ k ∷ r) l ≡ p ++ k ∷ child r l = child_is (p ++ k ∷ r) l ∙ append_assoc p (k ∷ r) (l ∷ []) ∙ ap (λ v. p ++ k ∷ v) (sym (child_is r l)) in
        deeper r (sym (child_same (p ++ k ∷ r) a l n (y ∙ ap (λ v. p ++ k ∷ v) (sym z) ∙ e)).0)
