use Rattle.std.proofs.Common.{◌≡◌, subst, Bool, true, false, ℕ, Option, Some, None, [], ◌∷◌, refl, arith}
use Rattle.std.specs.List.{All}
use Rattle.std.specs.Int.Count.{count_leading_zeros}
use Rattle.std.specs.Prelude.{slice_index}
use Rattle.tb_base.specs.declared.op.Op.TheVariants.{Add}
use Rattle.net_core.specs.declared.tree.GroundExpr.TheVariants.{Apply}
use Rattle.net_core.specs.Body.{body_of}
use Rattle.net_core.specs.Signals.{info, is_input, is_node, no_info}
use Rattle.net_core.specs.Shapes.{shape}
use Rattle.net_core.specs.Widths.{Asked, sources}
use Rattle.net_core.specs.WidthRules.{WidthRule, is_wide, width_rule, too_wide}
use Rattle.net_core.specs.Formed.{Formed, Sized, set_signals, given_widths, nodes_follow, in_scope}
use Rattle.net_core.specs.Examples.{r, adder, delay, later_wins, overridden, left_open, ring, grower}
use Rattle.net_core.specs.FormedExamples.{with_node, sum_of_inputs, out_is_node, into_input, early}
use Rattle.net_core.proofs.Trees.{of_declare, of_set, of_when, at_read, at_lit, at_apply}
use Rattle.net_core.proofs.Decided.{formed_by, sized_by}
use Rattle.net_core.proofs.examples.the_forms_work_out.Goals as goal

differ : (b : Bool) → b ≡ false → b ≡ true → ⊥
differ true f t = cc
differ false f t = cc

sum : Sized (adder 8 9)
sum = sized_by (adder 8 9) (body_of (adder 8 9).body) refl
    (formed_by (adder 8 9) (body_of (adder 8 9).body) refl (simp (of_declare, of_set, at_read, at_apply) refl))
    refl (simp (of_declare, of_set) refl) (simp (of_declare, of_set, is_wide, at_read, at_apply) refl)

register : Sized delay
unfolding count_leading_zeros
register = sized_by delay (body_of delay.body) refl
    (formed_by delay (body_of delay.body) refl (simp (of_declare, of_set, at_read, at_lit) refl))
    refl (simp (of_declare, of_set) refl) (simp (of_declare, of_set, is_wide, at_read, at_lit) refl)

choice : Sized later_wins
choice = sized_by later_wins (body_of later_wins.body) refl
    (formed_by later_wins (body_of later_wins.body) refl (simp (of_declare, of_set, of_when, at_read) refl))
    refl (simp (of_declare, of_set, of_when) refl) (simp (of_declare, of_set, of_when, is_wide, at_read) refl)

on_each_branch : Sized overridden
on_each_branch = sized_by overridden (body_of overridden.body) refl
    (formed_by overridden (body_of overridden.body) refl (simp (of_declare, of_set, of_when, at_read) refl))
    refl (simp (of_declare, of_set, of_when) refl) (simp (of_declare, of_set, of_when, is_wide, at_read) refl)

open_branch : Sized left_open
open_branch = sized_by left_open (body_of left_open.body) refl
    (formed_by left_open (body_of left_open.body) refl (simp (of_declare, of_set, of_when, at_read) refl))
    refl (simp (of_declare, of_set, of_when) refl) (simp (of_declare, of_set, of_when, is_wide, at_read) refl)

loop : Sized ring
loop = sized_by ring (body_of ring.body) refl
    (formed_by ring (body_of ring.body) refl (simp (of_declare, of_set, at_read) refl))
    refl (simp (of_declare, of_set) refl) (simp (of_declare, of_set, is_wide, at_read) refl)

-- a node behind its declaration, or not

node : Formed (with_node None (sum_of_inputs ∷ out_is_node ∷ []))
node = formed_by (with_node None (sum_of_inputs ∷ out_is_node ∷ [])) (body_of (with_node None (sum_of_inputs ∷ out_is_node ∷ [])).body) refl
    (simp (of_declare, of_set, at_read, at_apply) refl)

late_node : Formed (with_node None (out_is_node ∷ sum_of_inputs ∷ [])) → ⊥
late_node f = differ (nodes_follow (with_node None []).signals (body_of (with_node None (out_is_node ∷ sum_of_inputs ∷ [])).body)) (simp (of_declare, of_set) refl) f.nodes_set

bare_node : Formed (with_node None (out_is_node ∷ [])) → ⊥
bare_node f = differ (nodes_follow (with_node None []).signals (body_of (with_node None (out_is_node ∷ [])).body)) (simp (of_declare, of_set) refl) f.nodes_set

sets : set_signals (body_of into_input.body) ≡ 3 ∷ 0 ∷ []
sets = simp (of_declare, of_set) refl

input_set : Formed into_input → ⊥
input_set f =
    let kept = subst (λ xs. All (λ x. is_input (info into_input.signals x).role ≡ false) xs) sets f.inputs_kept in
    differ true (kept 1 0 (omega arith)) refl

set_early : Formed early → ⊥
set_early f = differ (in_scope [] (body_of early.body)) (simp (of_declare, of_set) refl) f.scoped

-- widths

sized_node : Sized (with_node (Some 9) (sum_of_inputs ∷ out_is_node ∷ []))
sized_node = sized_by (with_node (Some 9) (sum_of_inputs ∷ out_is_node ∷ [])) (body_of (with_node (Some 9) (sum_of_inputs ∷ out_is_node ∷ [])).body) refl
    (formed_by (with_node (Some 9) (sum_of_inputs ∷ out_is_node ∷ [])) (body_of (with_node (Some 9) (sum_of_inputs ∷ out_is_node ∷ [])).body) refl
    (simp (of_declare, of_set, at_read, at_apply) refl))
    refl (simp (of_declare, of_set, at_read, at_apply) refl) (simp (of_declare, of_set, is_wide, at_read, at_apply) refl)

node_sources : sources (body_of (with_node (Some 8) (sum_of_inputs ∷ out_is_node ∷ [])).body)
    ≡ record { sink = 3; source = Apply Add (r 0 ∷ r 1 ∷ []) [] } ∷ record { sink = 2; source = r 3 } ∷ []
node_sources = simp (of_declare, of_set) refl

nine_bits : (shape (with_node (Some 8) []).signals (8 ∷ 8 ∷ 9 ∷ 8 ∷ []) (Apply Add (r 0 ∷ r 1 ∷ []) [])).width ≡ 9
nine_bits = simp (at_read, at_apply) refl

abbrev IsWide : Asked → Type 0
IsWide a = is_node (info (with_node (Some 8) []).signals a.sink).role ≡ true
    → slice_index (8 ∷ 8 ∷ 9 ∷ 8 ∷ []) a.sink ≡ (shape (with_node (Some 8) []).signals (8 ∷ 8 ∷ 9 ∷ 8 ∷ []) a.source).width

eight : (n : ℕ) → 8 ≡ n → n ≡ 9 → ⊥
eight n e f = omega arith

other_width : Sized (with_node (Some 8) (sum_of_inputs ∷ out_is_node ∷ [])) → ⊥
other_width z = eight _ (subst (All IsWide) node_sources z.nodes 0 (record { sink = 0; source = r 0 }) (omega arith) refl) nine_bits

without_width : Formed grower
without_width = formed_by grower (body_of grower.body) refl (simp (of_declare, of_set, at_read, at_lit, at_apply) refl)

unsized : Sized grower → ⊥
unsized z = differ false refl (z.given 1 no_info (omega arith))

wide : Formed (adder 128 128)
wide = formed_by (adder 128 128) (body_of (adder 128 128).body) refl (simp (of_declare, of_set, at_read, at_apply) refl)

too_wide_sum : width_rule (adder 128 128) (given_widths (adder 128 128)) ≡ Some (too_wide 6)
too_wide_sum = simp (of_declare, of_set, is_wide, at_read, at_apply) refl

apart : (o : Option WidthRule) (k : WidthRule) → o ≡ Some k → o ≡ None → ⊥
apart None k s n = cc
apart (Some w) k s n = cc

pub returns : goal.returns
returns c = record {
  sum = sum;
  register = register;
  choice = choice;
  on_each_branch = on_each_branch;
  open_branch = open_branch;
  loop = loop;
  node = node;
  late_node = late_node;
  bare_node = bare_node;
  input_set = input_set;
  set_early = set_early;
  node_width = sized_node;
  other_width = other_width;
  without_width = without_width;
  unsized = unsized;
  wide = wide;
  too_wide_sum = too_wide_sum;
  unruled = λ z. apart _ (too_wide 6) too_wide_sum z.ruled;
}
