-- The operands of an operation, one after another.
use Rattle.std.proofs.Common.{ℕ, ◌≡◌, ◌+◌, ◌<◌, List, [], ◌∷◌, ◌++◌, length, get_or, map, take, refl, sym, ap, ◌∙◌, subst, arith, sum, Bool, true, false, ◌==◌, if◌then◌else◌, add-one}
use Rattle.std.proofs.Math.Seq.{take-suc}
use Rattle.std.proofs.lemmas.List.{map-append}
use Rattle.std.proofs.lemmas.List.Sums.{sum_by-append, sum_by-cons}
use Rattle.std.proofs.lemmas.Bool.Decides.{nat_tests}
use Rattle.std.proofs.lemmas.Grind.{common_steps}
use Rattle.fir_flat.specs.declared.weights.Weight.{Weight}
use Rattle.fir_flat.specs.declared.weights.Operands.{Operands}
use Rattle.fir_flat.specs.Counts.{cut}
use Rattle.fir_flat.specs.Measures.{Measure, measure_at}
use Rattle.fir_flat.specs.Kinds.{Weighs, Gathers, with_operand}

weighs_if : (b : Bool) (m x : Measure) (w y : Weight) → Weighs m w → Weighs x y → Weighs (if b then m else x) (if b then w else y)
weighs_if true m x w y p q = p
weighs_if false m x w y p q = q

first_next : (done : List Measure) (m : Measure) (k : ℕ) → k ≡ length done → measure_at 0 (done ++ m ∷ []) ≡ (if k == 0 then m else measure_at 0 done)
first_next [] m k e = rw e refl
first_next (a ∷ done) m k e = let f : (k == 0) ≡ false = grind (arith, nat_tests) in rw f refl

second_next : (done : List Measure) (m : Measure) (k : ℕ) → k ≡ length done → measure_at 1 (done ++ m ∷ []) ≡ (if k == 1 then m else measure_at 1 done)
second_next [] m k e = rw e refl
second_next (a ∷ []) m k e = let f : (k == 1) ≡ true = grind (arith, nat_tests) in rw f refl
second_next (a ∷ b ∷ done) m k e = let f : (k == 1) ≡ false = grind (arith, nat_tests) in rw f refl

third_next : (done : List Measure) (m : Measure) (k : ℕ) → k ≡ length done → measure_at 2 (done ++ m ∷ []) ≡ (if k == 2 then m else measure_at 2 done)
third_next [] m k e = rw e refl
third_next (a ∷ []) m k e = let f : (k == 2) ≡ false = grind (arith, nat_tests) in rw f refl
third_next (a ∷ b ∷ []) m k e = let f : (k == 2) ≡ true = grind (arith, nat_tests) in rw f refl
third_next (a ∷ b ∷ c ∷ done) m k e = let f : (k == 2) ≡ false = grind (arith, nat_tests) in rw f refl

total_next : (done : List Measure) (m : Measure) (t n : ℕ) → t ≡ cut (sum (map (λ m. m.nodes) done)) → n ≡ cut m.nodes
    → cut (t + n) ≡ cut (sum (map (λ m. m.nodes) (done ++ m ∷ [])))
total_next done m t n p q =
    let e : sum (map (λ (m : Measure). m.nodes) (done ++ m ∷ [])) ≡ sum (map (λ (m : Measure). m.nodes) done) + sum (m.nodes ∷ [])
    = ap sum (map-append (λ (m : Measure). m.nodes) done (m ∷ [])) ∙ sum_by-append (λ x. x) (map (λ (m : Measure). m.nodes) done) (m.nodes ∷ []) in
    let l : sum (m.nodes ∷ []) ≡ m.nodes + sum [] = sum_by-cons (λ x. x) m.nodes [] in
    omega (arith, e, l, p, q)

next : (done : List Measure) (m : Measure) (k : ℕ) (o : Operands) (w : Weight) → k ≡ length done → Weighs m w → Gathers done o
    → Gathers (done ++ m ∷ []) (with_operand k o w)
next done m k o w e p g = record {
  first = subst (λ x. Weighs x (if k == 0 then w else o.first)) (sym (first_next done m k e)) (weighs_if (k == 0) m (measure_at 0 done) w o.first p g.first);
  second = subst (λ x. Weighs x (if k == 1 then w else o.second)) (sym (second_next done m k e)) (weighs_if (k == 1) m (measure_at 1 done) w o.second p g.second);
  third = subst (λ x. Weighs x (if k == 2 then w else o.third)) (sym (third_next done m k e)) (weighs_if (k == 2) m (measure_at 2 done) w o.third p g.third);
  total = total_next done m o.total w.nodes g.total p.nodes;
}

pub gathers_next : {X : Type 0} (f : X → Measure) (xs : List X) (k : ℕ) (x : X) (o new : Operands) (w : Weight)
    → k < length xs → x ≡ get_or xs k x → Weighs (f x) w → new ≡ with_operand k o w
    → Gathers (take k (map f xs)) o → Gathers (take (k + 1) (map f xs)) new
gathers_next f xs k x o new w l e p n g =
    let le : k < length (map f xs) = grind (arith, common_steps) in
    let ln : k ≡ length (take k (map f xs)) = grind (arith, common_steps) in
    let at : get_or (map f xs) k (f x) ≡ f x = grind (arith, common_steps) in
    let t : take (k + 1) (map f xs) ≡ take k (map f xs) ++ f x ∷ []
    = ap (λ j. take j (map f xs)) (add-one k) ∙ take-suc (map f xs) k (f x) le ∙ ap (λ y. take k (map f xs) ++ y ∷ []) at in
    subst (λ ys. Gathers ys new) (sym t) (subst (λ y. Gathers (take k (map f xs) ++ f x ∷ []) y) (sym n) (next (take k (map f xs)) (f x) k o w ln p g))
