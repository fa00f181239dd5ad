-- Code that is laid out with places that are filled in later.
use Rattle.std.proofs.Common.{◌≡◌, ℕ, suc, ◌+◌, List, [], ◌∷◌, ◌++◌, length, length-append, append_assoc, refl, sym, ap, ◌∙◌, arith, slice_set}
use Rattle.std.proofs.Math.Seq.{set-append_seam}
use Rattle.tl_threads.specs.declared.code.Placed.{Placed}
use Rattle.tl_threads.specs.declared.code.Instr.TheVariants.{Goto}
use Rattle.tl_threads.specs.Code.{Scope, at, second_side, choice, framed}

-- one instruction behind others
pub behind_one : (c0 : List Placed) (x : Placed) (k : ℕ → List Placed) → c0 ++ x ∷ k (suc (length c0)) ≡ (c0 ++ x ∷ []) ++ k (length (c0 ++ x ∷ []))
behind_one c0 x k =
    sym (append_assoc c0 (x ∷ []) (k (suc (length c0)))) ∙ ap (λ n. (c0 ++ x ∷ []) ++ k n) (sym (length-append c0 (x ∷ []) ∙ one_more (length c0)))
  where
    one_more : (n : ℕ) → n + 1 ≡ suc n
    one_more n = omega arith

-- a choice, with the first side as a list and the place of the second as a number
choice_at : (c : Scope) (head : ℕ → Placed) (xs : List Placed) (b k : ℕ → List Placed) (c0 c2 c3 c4 c5 : List Placed) (x y : Placed) (n0 n2 n3 n4 : ℕ)
    → n0 ≡ length c0 → c2 ≡ c0 ++ x ∷ xs → n2 ≡ length c2 → c3 ≡ c2 ++ y ∷ [] → c3 ++ b n3 ≡ c4 → n4 ≡ length c4
    → c5 ≡ slice_set (slice_set c4 n0 (head n3)) n2 (at c (Goto n4)) → n3 ≡ suc (suc (length c0) + length xs)
    → c0 ++ head (suc (suc (length c0) + length xs)) ∷ (xs ++ second_side c b k (suc (suc (length c0) + length xs))) ≡ c5 ++ k (length c5)
choice_at c head xs b k c0 c2 c3 c4 c5 x y n0 n2 n3 n4 m0 f2 m2 e3 e4 m4 e5 s3 =
    let f4 : c4 ≡ c0 ++ x ∷ (xs ++ y ∷ b n3) = sym e4 ∙ ap (λ l. l ++ b n3) e3 ∙ ap (λ l. (l ++ y ∷ []) ++ b n3) f2 ∙ append_assoc (c0 ++ x ∷ xs) (y ∷ []) (b n3) ∙ append_assoc c0 (x ∷ xs) (y ∷ b n3) in
    let l2 : n2 ≡ length (c0 ++ head n3 ∷ xs) = omega (arith, m2 ∙ ap length f2 ∙ length-append c0 (x ∷ xs), length-append c0 (head n3 ∷ xs)) in
    let q : n4 ≡ n3 + length (b n3) = omega (arith, m4 ∙ ap length f4 ∙ length-append c0 (x ∷ (xs ++ y ∷ b n3)), length-append xs (y ∷ b n3)) in
    let f5 : c5 ≡ c0 ++ head n3 ∷ (xs ++ at c (Goto n4) ∷ b n3) =
    e5 ∙ ap (λ l. slice_set (slice_set l n0 (head n3)) n2 (at c (Goto n4))) f4
    ∙ ap (λ n. slice_set (slice_set (c0 ++ x ∷ (xs ++ y ∷ b n3)) n (head n3)) n2 (at c (Goto n4))) m0
    ∙ ap (λ l. slice_set l n2 (at c (Goto n4))) (set-append_seam c0 x (xs ++ y ∷ b n3) (head n3) ∙ sym (append_assoc c0 (head n3 ∷ xs) (y ∷ b n3)))
    ∙ ap (λ n. slice_set ((c0 ++ head n3 ∷ xs) ++ y ∷ b n3) n (at c (Goto n4))) l2
    ∙ set-append_seam (c0 ++ head n3 ∷ xs) y (b n3) (at c (Goto n4))
    ∙ append_assoc c0 (head n3 ∷ xs) (at c (Goto n4) ∷ b n3) in
    let l5 : length c5 ≡ n4 = omega (arith, ap length f5 ∙ length-append c0 (head n3 ∷ (xs ++ at c (Goto n4) ∷ b n3)), length-append xs (at c (Goto n4) ∷ b n3)) in
    ap (λ n. c0 ++ head n ∷ (xs ++ second_side c b k n)) (sym s3)
    ∙ ap (λ n. c0 ++ head n3 ∷ (xs ++ (at c (Goto n) ∷ (b n3 ++ k n)))) (sym q)
    ∙ sym (ap (λ n. c5 ++ k n) l5 ∙ ap (λ l. l ++ k n4) f5 ∙ append_assoc c0 (head n3 ∷ (xs ++ at c (Goto n4) ∷ b n3)) (k n4) ∙ ap (λ l. c0 ++ head n3 ∷ l) (append_assoc xs (at c (Goto n4) ∷ b n3) (k n4)))

-- a choice is laid out
pub laid_choice : (c : Scope) (head : ℕ → Placed) (a b k : ℕ → List Placed) (c0 c1 c2 c3 c4 c5 : List Placed) (x y : Placed) (n0 n2 n3 n4 : ℕ)
    → n0 ≡ length c0 → c1 ≡ c0 ++ x ∷ [] → c1 ++ a (length c1) ≡ c2 → n2 ≡ length c2 → c3 ≡ c2 ++ y ∷ [] → n3 ≡ length c3
    → c3 ++ b (length c3) ≡ c4 → n4 ≡ length c4 → c5 ≡ slice_set (slice_set c4 n0 (head n3)) n2 (at c (Goto n4))
    → c0 ++ choice c head a b k (length c0) ≡ c5 ++ k (length c5)
laid_choice c head a b k c0 c1 c2 c3 c4 c5 x y n0 n2 n3 n4 m0 e1 e2 m2 e3 m3 e4 m4 e5 =
    let l1 : length c1 ≡ suc (length c0) = omega (arith, ap length e1 ∙ length-append c0 (x ∷ [])) in
    let f2 : c2 ≡ c0 ++ x ∷ a (suc (length c0)) = sym e2 ∙ ap (λ n. c1 ++ a n) l1 ∙ ap (λ l. l ++ a (suc (length c0))) e1 ∙ append_assoc c0 (x ∷ []) (a (suc (length c0))) in
    let l2 : length c2 ≡ suc (length c0) + length (a (suc (length c0))) = omega (arith, ap length f2 ∙ length-append c0 (x ∷ a (suc (length c0)))) in
    let l3 : length c3 ≡ suc (length c2) = omega (arith, ap length e3 ∙ length-append c2 (y ∷ [])) in
    let s3 : n3 ≡ suc (suc (length c0) + length (a (suc (length c0)))) = omega arith in
    choice_at c head (a (suc (length c0))) b k c0 c2 c3 c4 c5 x y n0 n2 n3 n4 m0 f2 m2 e3 (ap (λ n. c3 ++ b n) m3 ∙ e4) m4 e5 s3

-- a body with its head and foot is laid out
pub laid_framed : (head : ℕ → Placed) (body : ℕ → List Placed) (foot : ℕ → Placed) (k : ℕ → List Placed) (c0 c1 c2 c3 c4 : List Placed) (x : Placed) (n0 n3 : ℕ)
    → n0 ≡ length c0 → c1 ≡ c0 ++ x ∷ [] → c1 ++ body (length c1) ≡ c2 → c3 ≡ c2 ++ foot (suc n0) ∷ [] → n3 ≡ length c3 → c4 ≡ slice_set c3 n0 (head n3)
    → c0 ++ framed head body foot k (length c0) ≡ c4 ++ k (length c4)
laid_framed head body foot k c0 c1 c2 c3 c4 x n0 n3 m0 e1 e2 e3 m3 e4 =
    let l1 : length c1 ≡ suc (length c0) = omega (arith, ap length e1 ∙ length-append c0 (x ∷ [])) in
    let f2 : c2 ≡ c0 ++ x ∷ body (suc (length c0)) = sym e2 ∙ ap (λ n. c1 ++ body n) l1 ∙ ap (λ l. l ++ body (suc (length c0))) e1 ∙ append_assoc c0 (x ∷ []) (body (suc (length c0))) in
    let f3 : c3 ≡ c0 ++ x ∷ (body (suc (length c0)) ++ foot (suc (length c0)) ∷ []) =
    e3 ∙ ap (λ n. c2 ++ foot (suc n) ∷ []) m0 ∙ ap (λ l. l ++ foot (suc (length c0)) ∷ []) f2 ∙ append_assoc c0 (x ∷ body (suc (length c0))) (foot (suc (length c0)) ∷ []) in
    let out : n3 ≡ suc (suc (length c0) + length (body (suc (length c0)))) =
    omega (arith, m3 ∙ ap length f3 ∙ length-append c0 (x ∷ (body (suc (length c0)) ++ foot (suc (length c0)) ∷ [])), length-append (body (suc (length c0))) (foot (suc (length c0)) ∷ [])) in
    let f4 : c4 ≡ c0 ++ head n3 ∷ (body (suc (length c0)) ++ foot (suc (length c0)) ∷ []) =
    e4 ∙ ap (λ l. slice_set l n0 (head n3)) f3 ∙ ap (λ n. slice_set (c0 ++ x ∷ (body (suc (length c0)) ++ foot (suc (length c0)) ∷ [])) n (head n3)) m0
    ∙ set-append_seam c0 x (body (suc (length c0)) ++ foot (suc (length c0)) ∷ []) (head n3) in
    let l4 : length c4 ≡ n3 = omega (arith, ap length f4 ∙ length-append c0 (head n3 ∷ (body (suc (length c0)) ++ foot (suc (length c0)) ∷ [])), length-append (body (suc (length c0))) (foot (suc (length c0)) ∷ [])) in
    ap (λ n. c0 ++ head n ∷ (body (suc (length c0)) ++ foot (suc (length c0)) ∷ k n)) (sym out)
    ∙ sym (ap (λ n. c4 ++ k n) l4 ∙ ap (λ l. l ++ k n3) f4 ∙ append_assoc c0 (head n3 ∷ (body (suc (length c0)) ++ foot (suc (length c0)) ∷ [])) (k n3) ∙ ap (λ l. c0 ++ head n3 ∷ l) (append_assoc (body (suc (length c0))) (foot (suc (length c0)) ∷ []) (k n3)))
