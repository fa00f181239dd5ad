-- Code that is made of a test.
use Rattle.std.proofs.Common.{◌≡◌, ℕ, zero, suc, ◌<◌, ◌≤◌, List, [], length, map, replicate, Bool, Option, Some, None, slice_get, refl, sym, ap, subst, ◌∙◌, arith}
use Rattle.std.proofs.lemmas.List.{length-replicate}
use Rattle.std.specs.Bool.{Decides}
use Rattle.tb_base.specs.declared.path.Region.TheVariants.{Main}
use Rattle.tl_check.specs.Bounds.{greatest, nested_forks}
use Rattle.tl_check.specs.Checked.{TestFor}
use Rattle.tl_check.specs.Walk.{test_rule}
use Rattle.tl_threads.specs.declared.code.Placed.{Placed}
use Rattle.tl_threads.specs.Bodies.{test_body}
use Rattle.tl_threads.specs.Code.{test_code}
use Rattle.tl_code.specs.Slots.{variable_slots, handle_slots}
use Rattle.tl_threads.specs.Code.{first_scope, at}
use Rattle.tl_code.specs.declared.state.ThreadState.{ThreadState}
use Rattle.tl_code.specs.Compiled.{Compiled}
use Rattle.tl_code.specs.Codes.{IsCode, FitsAt, Fits, body_of_code, root_state}
use Rattle.tl_code.proofs.First.{first_placed}
use Rattle.tl_code.proofs.Depths.{within_at, test_within}
use Rattle.tl_code.proofs.Needed.{test_variables, test_handles}

pub made : (t u : TestFor) (code xs ys : List Placed) (v h : ℕ) → u ≡ t → test_rule t.test t.ports ≡ None → greatest (map nested_forks t.test.body) ≤ 8 → code ≡ test_code (test_body t.ports t.test) → length code ≤ 5242881
    → xs ≡ code → v ≡ variable_slots xs → ys ≡ code → h ≡ handle_slots ys → IsCode (record { test = u; placed = code; variables = v; handles = h })
made t u code xs ys v h e rule deep laid few ex ev ey eh =
    subst (λ (u : TestFor). IsCode (record { test = u; placed = code; variables = v; handles = h })) (sym e)
    (record {
      rule = rule;
      laid = laid;
      variables = ev ∙ ap variable_slots (ex ∙ laid) ∙ test_variables (test_body t.ports t.test);
      handles = eh ∙ ap handle_slots (ey ∙ laid) ∙ test_handles (test_body t.ports t.test);
      few = few;
      shallow = λ k x g. within_at 8 (test_code (test_body t.ports t.test)) (test_within t.ports t.test 8 deep) k x (sym (ap (λ c. slice_get c k) laid) ∙ g);
    })

-- an equal copy
pub copied : (t u : TestFor) (p q r : List Placed) (v h : ℕ) → u ≡ t → r ≡ q → q ≡ p → IsCode (record { test = t; placed = p; variables = v; handles = h })
    → IsCode (record { test = u; placed = r; variables = v; handles = h })
copied t u p q r v h e1 e2 e3 is =
    subst (λ (u : TestFor). IsCode (record { test = u; placed = r; variables = v; handles = h })) (sym e1)
    (subst (λ (r : List Placed). IsCode (record { test = t; placed = r; variables = v; handles = h })) (sym (e2 ∙ e3)) is)

-- what stands at a place decides it
one_placed : (x y : Placed) → ◌≡◌ {A = Option Placed} (Some x) (Some y) → x ≡ y
one_placed x y e = cc

pub fits_decided : (c : Compiled) (s : ThreadState) (x : Placed) (r : Bool) → slice_get c.placed s.pc ≡ Some x → Decides r (FitsAt x c s) → Decides r (Fits c s)
fits_decided c s x r e d = ((λ t. (x, e, d.0 t)), (λ f. d.1 (subst (λ (y : Placed). FitsAt y c s) (one_placed f.0 x (sym f.1 ∙ e)) f.2)))

pub root_fits : (c : Compiled) (path : List ℕ) (locals : List ℕ) (handles : List (Option (List ℕ))) (loops : List ℕ) → IsCode c
    → path ≡ [] → locals ≡ replicate c.variables 0 → handles ≡ replicate c.handles None → loops ≡ []
    → Fits c (record { path = path; region = Main; pc = 0; locals = locals; handles = handles; loops = loops; forks = 0; acts = 0; joined = None })
root_fits c path locals handles loops is ep el eh eo =
    let f = first_placed (body_of_code c) first_scope 0 in (
      at first_scope f.0,
      ap (λ p. slice_get p 0) is.laid ∙ f.1,
      record {
        path = ap length ep;
        region = refl;
        locals = ap length el ∙ length-replicate c.variables 0;
        slots = ap length eh ∙ length-replicate c.handles None;
        children = λ k lt. absurd (omega arith);
        joined = tt;
        loops = ap length eo;
        acts = omega arith;
        forks = omega arith;
      },
    )
