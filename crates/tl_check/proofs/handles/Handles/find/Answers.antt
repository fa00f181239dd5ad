use Rattle.std.proofs.Common.{◌∙◌, ap}
use Rattle.tl_check.specs.Scopes.{handle_named}
use Rattle.tl_check.proofs.Tables.{looked_up}
use Rattle.tl_check.proofs.handles.Handles.find.Goals as goal

pub returns : goal.returns
returns c =
    c.copied.ensures ∙ c.get.ensures.value ∙ looked_up c.args.name.now c.self.inside.watches.entries
    ∙ ap (handle_named c.args.name.now) c.self.view_is
