use Rattle.std.proofs.Common.{◌≡◌, ◌∙◌, ap, subst, rules}
use Rattle.tl_code.specs.Codes.{IsCode}
use Rattle.tl_code.proofs.Made.{root_fits}
use Rattle.tl_code.proofs.code.Code.root.Goals as goal

pub returns-clause-fits : goal.returns-clause-fits
returns-clause-fits c =
    root_fits c.args.self.now c.root.result c.of.result c.in_ok-handles.handles c.of-2.result (subst IsCode c.self.view_is c.self.invariant)
    (search rules) (search rules) (search rules) (search rules)
