use Rattle.std.proofs.Common.{rules}
use Rattle.fir_lex.proofs.Marking.{form_goes, forms_end}
use Rattle.fir_lex.proofs.mark.mark_forms.Goals as goal

pub loop-at-preserved : goal.loop-at-preserved
loop-at-preserved c = (
  form_goes c.loop-at.at c.loop-at.items _ c.form_of-form.result c.index-items-at.result c.index-items-at-in-loop-at.result c.mark_form.new.item c.index-items-at-in-loop-at-2.result (search rules) c.index-items-at.is c.index-items-at-in-loop-at.is c.form_of-form.ensures c.mark_form.ensures c.loop-at.invariant.0,
  search rules,
)

pub returns : goal.returns
returns c = forms_end c.loop-at.at c.loop-at.items _ (search rules) c.loop-at.invariant.0
