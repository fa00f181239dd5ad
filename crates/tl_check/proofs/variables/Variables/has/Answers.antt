use Rattle.std.proofs.Common.{◌∙◌, ap}
use Rattle.tl_check.specs.Scopes.{is_among}
use Rattle.tl_check.proofs.Tables.{contained}
use Rattle.tl_check.proofs.variables.Variables.has.Goals as goal

pub returns : goal.returns
returns c = c.contains.ensures ∙ contained c.args.name.now c.self.inside.names.keys ∙ ap (is_among c.args.name.now) c.self.view_is
