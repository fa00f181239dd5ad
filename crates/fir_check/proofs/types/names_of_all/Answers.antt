use Rattle.std.proofs.Common.{◌∙◌, ◌+◌, ◌&&◌, ap, sym, not, drop}
use Rattle.std.specs.List.{list_all}
use Rattle.fir_check.specs.Fields.{has_name_in}
use Rattle.fir_check.proofs.Names.{all_drop}
use Rattle.fir_check.proofs.Shapes.{name_lacks}
use Rattle.fir_check.proofs.types.names_of_all.Goals as goal

pub returns-then-is_none : goal.returns-then-is_none
returns-then-is_none c =
    sym (ap (λ b. b && list_all (has_name_in c.args.fields.now) (drop (c.loop-k.k + 1) c.args.others.now)) (name_lacks c.args.fields.now c.index-others-k.result _ _ _ c.bytes.ensures c.look_up.ensures c.is_none.ensures ∙ ap not c.if-is_none.true))
    ∙ sym (all_drop (has_name_in c.args.fields.now) c.args.others.now c.loop-k.k c.index-others-k.result c.loop-k-test.true c.index-others-k.is)
    ∙ c.loop-k.invariant

pub loop-k-preserved : goal.loop-k-preserved
loop-k-preserved c =
    sym (ap (λ b. b && list_all (has_name_in c.args.fields.now) (drop (c.loop-k.k + 1) c.args.others.now)) (name_lacks c.args.fields.now c.index-others-k.result _ _ _ c.bytes.ensures c.look_up.ensures c.is_none.ensures ∙ ap not c.if-is_none.false))
    ∙ sym (all_drop (has_name_in c.args.fields.now) c.args.others.now c.loop-k.k c.index-others-k.result c.loop-k-test.true c.index-others-k.is)
    ∙ c.loop-k.invariant
