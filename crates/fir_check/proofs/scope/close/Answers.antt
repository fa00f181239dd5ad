use Rattle.std.proofs.Common.{◌∙◌, ap, sym}
use Rattle.std.specs.Option.{option_copied_mut}
use Rattle.fir_check.proofs.Scoping.{closed_value, closed_none}
use Rattle.fir_check.proofs.scope.close.Goals as goal

pub returns-in-Some : goal.returns-in-Some
returns-in-Some c = closed_value c.args.names.now.entries c.args.k c.in-Some.fact.now (sym c.get_index_mut.ensures.value ∙ ap option_copied_mut c.in-Some.is)

pub returns-in_default : goal.returns-in_default
returns-in_default c = closed_none c.args.names.now.entries c.args.k (sym c.get_index_mut.ensures.value ∙ ap option_copied_mut c.in_default.is)
