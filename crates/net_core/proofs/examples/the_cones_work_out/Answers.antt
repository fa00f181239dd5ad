use Rattle.std.proofs.Common.{◌≡◌, ◌∙◌, sym, ap, ℕ, true, nat_eq, refl, [], ◌∷◌}
use Rattle.std.proofs.Math.Bool.{or-false}
use Rattle.std.proofs.lemmas.Bool.{eqb-true}
use Rattle.net_core.specs.WidthRules.{is_wide}
use Rattle.net_core.specs.Formed.{Sized}
use Rattle.net_core.specs.Body.{body_of}
use Rattle.net_core.specs.Rules.{has}
use Rattle.net_core.specs.Depends.{reads_of, itself, by, InCone}
use Rattle.net_core.specs.PathExamples.{second_wins, open_wire}
use Rattle.net_core.proofs.Decided.{formed_by, sized_by}
use Rattle.net_core.proofs.Trees.{of_declare, of_set, of_when, at_read}
use Rattle.net_core.proofs.ReadLists.{reads_from, reads_listed}
use Rattle.net_core.proofs.Walks.{cone_by}
use Rattle.net_core.proofs.examples.the_cones_work_out.Goals as goal

the_one : (x y : ℕ) → has (x ∷ []) y ≡ true → y ≡ x
the_one x y h = eqb-true y x (sym (or-false (nat_eq y x)) ∙ h)

reads_b : reads_from second_wins.signals (body_of second_wins.body) 3 ≡ 1 ∷ []
reads_b = simp (of_declare, of_set, at_read) refl

alone : (y : ℕ) → reads_of second_wins 3 y ≡ true → y ≡ 1
alone y m = the_one 1 y (sym (ap (λ xs. has xs y) reads_b) ∙ sym (reads_listed second_wins (body_of second_wins.body) refl 3 y) ∙ m)

cone_is_b : (p : ℕ) → InCone second_wins 3 p → p ≡ 1
cone_is_b p c = the_one 1 p
    (cone_by second_wins (body_of second_wins.body) refl 3 (3 ∷ 1 ∷ []) (1 ∷ []) (simp (of_declare, of_set, at_read) refl) refl refl p c)

sized : Sized second_wins
sized = sized_by second_wins (body_of second_wins.body) refl
    (formed_by second_wins (body_of second_wins.body) refl (simp (of_declare, of_set, at_read) refl))
    refl (simp (of_declare, of_set) refl) (simp (of_declare, of_set, is_wide, at_read) refl)

open_sized : Sized (open_wire [])
open_sized = sized_by (open_wire []) (body_of (open_wire []).body) refl
    (formed_by (open_wire []) (body_of (open_wire []).body) refl (simp (of_declare, of_set, of_when, at_read) refl))
    refl (simp (of_declare, of_set, of_when) refl) (simp (of_declare, of_set, of_when, is_wide, at_read) refl)

pub returns : goal.returns
returns c = record {
  sized = sized;
  open_sized = open_sized;
  replaced = simp (of_declare, of_set, at_read) refl;
  reads_b = simp (of_declare, of_set, at_read) refl;
  reads_b_alone = alone;
  cone_has_b = record { input = refl; reached = by 3 1 (simp (of_declare, of_set, at_read) refl) itself };
  cone_is_b = cone_is_b;
  cone_has_condition = record { input = refl; reached = by 3 2 (simp (of_declare, of_set, of_when, at_read) refl) itself };
  cone_of_input = record { input = refl; reached = itself };
  one_branch = simp (of_declare, of_set, of_when) refl;
  other_sink = simp (of_declare, of_set, of_when) refl;
  invalidated = simp (of_declare, of_set, of_when) refl;
}
