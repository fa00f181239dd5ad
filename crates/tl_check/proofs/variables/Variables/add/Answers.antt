use Rattle.std.proofs.Common.{◌∙◌, ap, map}
use Rattle.tl_check.proofs.Tables.{variable_added}
use Rattle.tl_check.proofs.variables.Variables.add.Goals as goal

pub returns : goal.returns
returns c =
    ap (map (λ k. k.items)) c.in_ok-insert.ensures.keys
    ∙ variable_added c.in_ok-own.own c.self.inside.names.keys c.args.name.now c.args.self.now c.in_ok-own.ensures.items c.self.view_is
