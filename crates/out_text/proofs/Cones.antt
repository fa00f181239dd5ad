-- The cones of the circuits of the examples.
use Rattle.std.proofs.Common.{◌≡◌, ℕ, zero, suc, Bool, true, false, ◌&&◌, ◌||◌, nat_eq, if◌then◌else◌, List, [], ◌∷◌, length, map, refl, ap, ◌∙◌}
use Rattle.std.specs.Prelude.{codes, Some}
use Rattle.std.specs.List.{range_with_len, list_any}
use Rattle.std.proofs.lemmas.Bool.{eqb-true}
use Rattle.net_core.specs.declared.ports.PortInfo.{PortInfo}
use Rattle.net_core.specs.declared.tree.Elab.{Elab}
use Rattle.net_core.specs.declared.tree.Role.TheVariants.{Input}
use Rattle.net_core.specs.Examples.{uint}
use Rattle.net_core.specs.Ports.{port_entry}
use Rattle.net_core.specs.Depends.{reads_of}
use Rattle.net_core.proofs.Trees.{of_declare, of_set, at_read, at_apply}
use Rattle.net_design.specs.Naming.{leads_within}
use Rattle.out_text.specs.Examples.{adder, delay}
use Rattle.out_text.specs.Summary.{cone_names}

any_same : {X : Type 0} (f g : X → Bool) (xs : List X) → ((x : X) → f x ≡ g x) → list_any f xs ≡ list_any g xs
any_same f g [] h = refl
any_same f g (x ∷ xs) h = ap (λ (b : Bool). b || list_any f xs) (h x) ∙ ap (λ (b : Bool). g x || b) (any_same f g xs h)

abbrev leads_by : (ℕ → ℕ → Bool) → ℕ → ℕ → ℕ → ℕ → Bool
leads_by r m zero x p = nat_eq x p
leads_by r m (suc n) x p = nat_eq x p || list_any (λ y. r x y && leads_by r m n y p) (range_with_len 0 m)

leads_same : (e : Elab) (r : ℕ → ℕ → Bool) → ((x y : ℕ) → reads_of e x y ≡ r x y) → (n x p : ℕ) → leads_within e n x p ≡ leads_by r (length e.signals) n x p
leads_same e r h zero x p = refl
leads_same e r h (suc n) x p =
    ap (λ (b : Bool). nat_eq x p || b)
    (any_same (λ y. reads_of e x y && leads_within e n y p) (λ y. r x y && leads_by r (length e.signals) n y p) (range_with_len 0 (length e.signals))
    (λ y. ap (λ (b : Bool). b && leads_within e n y p) (h x y) ∙ ap (λ (b : Bool). r x y && b) (leads_same e r h n y p)))

-- the adder

sum_reads : (y : ℕ) → reads_of adder 2 y ≡ (nat_eq y 0 || (nat_eq y 1 || false))
sum_reads y = simp (of_declare, of_set, at_read, at_apply) refl

abbrev adder_reads : ℕ → ℕ → Bool
adder_reads x y = if nat_eq x 2 then nat_eq y 0 || (nat_eq y 1 || false) else reads_of adder x y

adder_reads_by : (x y : ℕ) (t : Bool) → nat_eq x 2 ≡ t → reads_of adder x y ≡ (if t then nat_eq y 0 || (nat_eq y 1 || false) else reads_of adder x y)
adder_reads_by x y true e = ap (λ z. reads_of adder z y) (eqb-true x 2 e) ∙ sum_reads y
adder_reads_by x y false e = refl

leads_in_adder : (p : ℕ) → leads_within adder 3 2 p ≡ leads_by adder_reads 3 3 2 p
leads_in_adder p = leads_same adder adder_reads (λ x y. adder_reads_by x y (nat_eq x 2) refl) 3 2 p

abbrev a_port : List ℕ × PortInfo
a_port = port_entry 0 (uint (codes "a") Input (Some 8) 3)

abbrev b_port : List ℕ × PortInfo
b_port = port_entry 1 (uint (codes "b") Input (Some 8) 4)

abbrev adder_names : Bool → Bool → List (List ℕ)
adder_names a b = map (λ p. p.0) (if a then a_port ∷ (if b then b_port ∷ [] else []) else (if b then b_port ∷ [] else []))

pub names_of_sum : cone_names adder 2 ≡ codes "a" ∷ codes "b" ∷ []
names_of_sum =
    let a : leads_within adder 3 2 0 ≡ true = leads_in_adder 0 in
    let b : leads_within adder 3 2 1 ≡ true = leads_in_adder 1 in
    ap (λ (t : Bool). adder_names t (leads_within adder 3 2 1)) a ∙ ap (λ (t : Bool). adder_names true t) b

-- the delay

out_reads : (y : ℕ) → reads_of delay 1 y ≡ nat_eq y 2
out_reads y = simp (of_declare, of_set, at_read) refl

abbrev delay_reads : ℕ → ℕ → Bool
delay_reads x y = if nat_eq x 1 then nat_eq y 2 else reads_of delay x y

delay_reads_by : (x y : ℕ) (t : Bool) → nat_eq x 1 ≡ t → reads_of delay x y ≡ (if t then nat_eq y 2 else reads_of delay x y)
delay_reads_by x y true e = ap (λ z. reads_of delay z y) (eqb-true x 1 e) ∙ out_reads y
delay_reads_by x y false e = refl

abbrev delay_names : Bool → List (List ℕ)
delay_names a = map (λ p. p.0) (if a then port_entry 0 (uint (codes "a") Input (Some 8) 4) ∷ [] else [])

pub names_of_out : cone_names delay 1 ≡ []
names_of_out =
    let a : leads_within delay 3 1 0 ≡ false = leads_same delay delay_reads (λ x y. delay_reads_by x y (nat_eq x 1) refl) 3 1 0 in
    ap (λ (t : Bool). delay_names t) a
