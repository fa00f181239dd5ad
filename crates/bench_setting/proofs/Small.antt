-- The numbers, the edges and the cones of the circuits of the examples.
use Rattle.std.proofs.Common.{◌≡◌, ◌∙◌, ℕ, zero, suc, pos, ◌+ℤ◌, Bool, true, false, nat_eq, if◌then◌else◌, List, [], ◌∷◌, refl, ap}
use Rattle.std.specs.Prelude.{slice_index}
use Rattle.std.proofs.lemmas.Bool.{eqb-true}
use Rattle.tb_base.specs.Word.{low_bits}
use Rattle.net_core.specs.Settled.{rule, edge}
use Rattle.net_core.specs.Examples.{delay}
use Rattle.net_core.proofs.Trees.{of_declare, of_set, at_read, at_lit, at_apply}
use Rattle.net_design.specs.Naming.{in_cone}
use Rattle.net_design.specs.Settling.{rounds, settled_at, number_at, registers_after}
use Rattle.bench_setting.specs.Settings.{Circuit}
use Rattle.bench_setting.specs.Examples.{sum}
use Rattle.bench_setting.proofs.Computed.{Known}

-- ---- the adder

sum_rule : (ins regs V : ℕ → ℕ) → rule sum ins regs 2 V ≡ low_bits 9 (pos (low_bits 9 (pos (V 0) +ℤ pos (V 1))))
sum_rule ins regs V = simp (of_declare, of_set, at_read, at_apply) refl

abbrev sum_number : List ℕ → ℕ
sum_number ins = low_bits 128 (pos (low_bits 9 (pos (low_bits 9 (pos (slice_index ins 0) +ℤ pos (slice_index ins 1))))))

sum_at : (ins regs : List ℕ) → number_at sum ins regs 2 ≡ sum_number ins
sum_at ins regs =
    ap (λ (n : ℕ). low_bits 128 (pos n))
    (sum_rule (λ x. slice_index ins x) (λ x. slice_index regs x) (rounds sum (λ x. slice_index ins x) (λ x. slice_index regs x) 2))

number_by : (ins regs : List ℕ) (x : ℕ) (t : Bool) → nat_eq x 2 ≡ t
    → number_at sum ins regs x ≡ (if t then sum_number ins else number_at sum ins regs x)
number_by ins regs x true e = ap (λ y. number_at sum ins regs y) (eqb-true x 2 e) ∙ sum_at ins regs
number_by ins regs x false e = refl

-- one of the two inputs
abbrev is_operand : ℕ → Bool
is_operand zero = true
is_operand (suc zero) = true
is_operand (suc (suc p)) = false

sum_cone : (p : ℕ) → in_cone sum 2 p ≡ is_operand p
sum_cone zero = simp (of_declare, of_set, at_read, at_apply) refl
sum_cone (suc zero) = simp (of_declare, of_set, at_read, at_apply) refl
sum_cone (suc (suc zero)) = refl
sum_cone (suc (suc (suc p))) = refl

cone_by : (x p : ℕ) (t : Bool) → nat_eq x 2 ≡ t → in_cone sum x p ≡ (if t then is_operand p else in_cone sum x p)
cone_by x p true e = ap (λ y. in_cone sum y p) (eqb-true x 2 e) ∙ sum_cone p
cone_by x p false e = refl

abbrev pub sum_circuit : Circuit
sum_circuit = record {
  number = λ ins regs x. if nat_eq x 2 then sum_number ins else number_at sum ins regs x;
  edge = registers_after sum;
  cone = λ x p. if nat_eq x 2 then is_operand p else in_cone sum x p;
}

pub of_sum : Known sum sum_circuit
of_sum = record {
  number_is = λ ins regs x. number_by ins regs x (nat_eq x 2) refl;
  edge_is = λ ins regs. refl;
  cone_is = λ x p. cone_by x p (nat_eq x 2) refl;
}

-- ---- the delay

out_rule : (ins regs V : ℕ → ℕ) → rule delay ins regs 2 V ≡ low_bits 8 (pos (V 3))
out_rule ins regs V = simp (of_declare, of_set, at_read) refl

taken_edge : (V : ℕ → ℕ) (old : ℕ) → edge delay V 3 old ≡ (if nat_eq (V 1) 1 then 5 else low_bits 8 (pos (V 0)))
taken_edge V old = simp (of_declare, of_set, at_read, at_lit) refl

abbrev out_number : List ℕ → ℕ
out_number regs = low_bits 128 (pos (low_bits 8 (pos (slice_index regs 3))))

out_at : (ins regs : List ℕ) → number_at delay ins regs 2 ≡ out_number regs
out_at ins regs =
    ap (λ (n : ℕ). low_bits 128 (pos n))
    (out_rule (λ x. slice_index ins x) (λ x. slice_index regs x) (rounds delay (λ x. slice_index ins x) (λ x. slice_index regs x) 3))

out_by : (ins regs : List ℕ) (x : ℕ) (t : Bool) → nat_eq x 2 ≡ t
    → number_at delay ins regs x ≡ (if t then out_number regs else number_at delay ins regs x)
out_by ins regs x true e = ap (λ y. number_at delay ins regs y) (eqb-true x 2 e) ∙ out_at ins regs
out_by ins regs x false e = refl

out_cone : (p : ℕ) → in_cone delay 2 p ≡ false
out_cone zero = simp (of_declare, of_set, at_read) refl
out_cone (suc zero) = simp (of_declare, of_set, at_read) refl
out_cone (suc (suc zero)) = refl
out_cone (suc (suc (suc zero))) = refl
out_cone (suc (suc (suc (suc p)))) = refl

delay_cone : (x p : ℕ) (t : Bool) → nat_eq x 2 ≡ t → in_cone delay x p ≡ (if t then false else in_cone delay x p)
delay_cone x p true e = ap (λ y. in_cone delay y p) (eqb-true x 2 e) ∙ out_cone p
delay_cone x p false e = refl

abbrev delay_after : List ℕ → List ℕ → List ℕ
delay_after ins (a ∷ b ∷ c ∷ r ∷ []) = a ∷ b ∷ c ∷ (if nat_eq (slice_index ins 1) 1 then 5 else low_bits 8 (pos (slice_index ins 0))) ∷ []
delay_after ins regs = registers_after delay ins regs

after_by : (ins regs : List ℕ) → registers_after delay ins regs ≡ delay_after ins regs
after_by ins [] = refl
after_by ins (a ∷ []) = refl
after_by ins (a ∷ b ∷ []) = refl
after_by ins (a ∷ b ∷ c ∷ []) = refl
after_by ins (a ∷ b ∷ c ∷ r ∷ []) = ap (λ (n : ℕ). a ∷ b ∷ c ∷ n ∷ []) (taken_edge (settled_at delay ins (a ∷ b ∷ c ∷ r ∷ [])) r)
after_by ins (a ∷ b ∷ c ∷ r ∷ s ∷ rest) = refl

abbrev pub delay_circuit : Circuit
delay_circuit = record {
  number = λ ins regs x. if nat_eq x 2 then out_number regs else number_at delay ins regs x;
  edge = delay_after;
  cone = λ x p. if nat_eq x 2 then false else in_cone delay x p;
}

pub of_delay : Known delay delay_circuit
of_delay = record {
  number_is = λ ins regs x. out_by ins regs x (nat_eq x 2) refl;
  edge_is = after_by;
  cone_is = λ x p. delay_cone x p (nat_eq x 2) refl;
}
