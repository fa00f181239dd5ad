use Rattle.std.proofs.Common.{◌∙◌, ap, sym, is_some}
use Rattle.tl_code.proofs.Known.{added, is_new, shown}
use Rattle.tl_code.proofs.names.Names.add.Goals as goal

pub returns-clause-known : goal.returns-clause-known
returns-clause-known c =
    ap shown c.in_ok-insert.ensures.keys
    ∙ added c.in_ok-own.own c.self.inside.names.keys c.args.name.now c.args.self.now c.in_ok-own.ensures.items c.self.view_is
    (sym c.find.ensures.slot ∙ is_new c.find.result (sym c.is_some.ensures ∙ c.if-is_some.false))
