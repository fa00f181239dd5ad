use Rattle.std.proofs.Common.{◌≡◌, ◌∙◌, sym, ap, subst, ◌<◌, length}
use Rattle.net_design.specs.Designs.{DesignValue, IsInput}
use Rattle.net_design.specs.Naming.{in_cone}
use Rattle.net_design.proofs.Dependence.{told}
use Rattle.net_design.proofs.design.Design.depends.Goals as goal

pub returns : goal.returns
returns c =
    let v = c.self.view_is in
    let q = c.self.invariant in
    c.has.ensures
    ∙ told c.self.inside.elab c.self.inside.net c.self.inside.cones q.runs q.cones c.args.signal.0 c.args.input.0
    (subst (λ (d : DesignValue). c.args.signal.0 < length d.elab.signals) (sym v) c.requires.signal)
    (subst (λ (d : DesignValue). IsInput d.elab c.args.input.0) (sym v) c.requires.input)
    ∙ ap (λ (d : DesignValue). in_cone d.elab c.args.signal.0 c.args.input.0) v
