use Rattle.std.proofs.Common.{◌≡◌, ℕ, true, nat_eq, refl, [], ◌∷◌, length, arith}
use Rattle.std.proofs.lemmas.Bool.{eqb-true}
use Rattle.std.specs.Int.Count.{count_leading_zeros}
use Rattle.net_core.specs.declared.tree.Elab.{Elab}
use Rattle.net_core.specs.WidthRules.{is_wide}
use Rattle.net_core.specs.Formed.{Sized}
use Rattle.net_core.specs.Body.{body_of}
use Rattle.net_core.specs.Settled.{Settled, rule}
use Rattle.net_core.specs.Examples.{valued, delay}
use Rattle.net_core.specs.DelayExamples.{enabled, inside}
use Rattle.net_core.proofs.Decided.{formed_by, sized_by, up_to, below}
use Rattle.net_core.proofs.Trees.{of_declare, of_set, of_when, at_read, at_lit}
use Rattle.net_core.proofs.examples.the_delays_work_out.Goals as goal

settled_by : (e : Elab) (ins regs V : ℕ → ℕ) → up_to (length e.signals) (λ x. nat_eq (V x) (rule e ins regs x V)) ≡ true → Settled e ins regs V
settled_by e ins regs V t x l = eqb-true _ _ (below (length e.signals) (λ y. nat_eq (V y) (rule e ins regs y V)) t x l)

out_rule : rule delay (valued (9 ∷ 0 ∷ [])) (valued (0 ∷ 0 ∷ 0 ∷ 4 ∷ [])) 2 (valued (9 ∷ 0 ∷ 9 ∷ 4 ∷ [])) ≡ 4
out_rule = simp (of_declare, of_set, at_read) refl

nine : (n : ℕ) → 9 ≡ n → n ≡ 4 → ⊥
nine n e f = omega arith

enabled_sized : Sized enabled
unfolding count_leading_zeros
enabled_sized = sized_by enabled (body_of enabled.body) refl
    (formed_by enabled (body_of enabled.body) refl (simp (of_declare, of_set, of_when, at_read, at_lit) refl))
    refl (simp (of_declare, of_set, of_when) refl) (simp (of_declare, of_set, of_when, is_wide, at_read, at_lit) refl)

inside_sized : Sized inside
unfolding count_leading_zeros
inside_sized = sized_by inside (body_of inside.body) refl
    (formed_by inside (body_of inside.body) refl (simp (of_declare, of_set, of_when, at_read, at_lit) refl))
    refl (simp (of_declare, of_set, of_when) refl) (simp (of_declare, of_set, of_when, is_wide, at_read, at_lit) refl)

pub returns : goal.returns
returns c = record {
  enabled_sized = enabled_sized;
  inside_sized = inside_sized;
  out_is_register = settled_by delay _ _ _ (simp (of_declare, of_set, at_read) refl);
  in_reset = settled_by delay _ _ _ (simp (of_declare, of_set, at_read) refl);
  not_input = λ s. nine _ (s 2 (omega arith)) out_rule;
  takes = simp (of_declare, of_set, of_when, at_read) refl;
  stays = simp (of_declare, of_set, of_when, at_read) refl;
  reset_wins = simp (of_declare, of_when, at_read, at_lit) refl;
  reset_alone = simp (of_declare, of_when, at_read, at_lit) refl;
  takes_inside = simp (of_declare, of_set, of_when, at_read) refl;
  reset_inside = simp (of_declare, of_set, of_when, at_read, at_lit) refl;
  out_inside = settled_by inside _ _ _ (simp (of_declare, of_set, of_when, at_read) refl);
  out_outside = settled_by inside _ _ _ (simp (of_declare, of_set, of_when, at_read) refl);
}
