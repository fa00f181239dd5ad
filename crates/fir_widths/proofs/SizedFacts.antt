-- A formed circuit with its least widths is sized, unless a line breaks a rule on widths.
use Rattle.std.proofs.Common.{◌≡◌, ◌∙◌, sym, ap, subst, ℕ, List, get_or, None}
use Rattle.std.specs.Prelude.{slice_index}
use Rattle.net_core.specs.declared.tree.Elab.{Elab}
use Rattle.net_core.specs.declared.tree.GroundExpr.{GroundExpr}
use Rattle.net_core.specs.Signals.{is_node}
use Rattle.net_core.specs.Shapes.{Shape, shape}
use Rattle.net_core.specs.Body.{body_of}
use Rattle.net_core.specs.Widths.{Asked, sources, IsLeast}
use Rattle.net_core.specs.WidthRules.{width_rule}
use Rattle.net_core.specs.Formed.{Formed, Sized, given_widths, set_widths, with_widths}
use Rattle.fir_widths.proofs.Kept.{formed_set, all_given, given_set, role_set, shape_set, rule_set}
use Rattle.fir_widths.proofs.NodeFacts.{least_fits, node_width}

pub sized : (e : Elab) (w : List ℕ) → IsLeast e w → width_rule e w ≡ None → Formed e → Sized (with_widths e w)
sized e w i r f = record {
  formed = formed_set e w (least_fits e w f i r) f;
  given = all_given e.signals w;
  nodes = λ k d l n.
      let a : Asked = get_or (sources (body_of e.body)) k d in
      subst (λ (v : List ℕ). slice_index v a.sink ≡ (shape (set_widths e.signals w) v a.source).width) (sym same)
      (node_width e w f i k d l (sym (ap is_node (role_set e.signals w a.sink)) ∙ n)
      ∙ sym (ap (λ (g : GroundExpr → Shape). (g a.source).width) (shape_set e.signals w w)));
  ruled = subst (λ (v : List ℕ). width_rule (with_widths e w) v ≡ None) (sym same) (rule_set e w w ∙ r);
}
  where
    same : given_widths (with_widths e w) ≡ w
    same = given_set e.signals w i.long
