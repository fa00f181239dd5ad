use Rattle.std.proofs.Common.{◌≡◌, ◌∙◌, sym, ap, subst, ◌<◌, length, true}
use Rattle.std.specs.Prelude.{IfOk}
use Rattle.net_graph.specs.Reaching.{DependsOn}
use Rattle.net_graph.specs.NetGraphs.{numbers}
use Rattle.net_core.specs.Depends.{IsChain}
use Rattle.net_design.specs.Designs.{DesignValue, IsInput}
use Rattle.net_design.specs.Naming.{in_cone}
use Rattle.net_design.proofs.Dependence.{depends_on, chain_is, ok_to}
use Rattle.net_design.proofs.design.Design.chain.Goals as goal

there : (c : goal.After-self) → DependsOn c.self.inside.net c.self.inside.cones c.args.signal.0 c.args.input.0
there c =
    let v = c.self.view_is in
    let q = c.self.invariant in
    depends_on c.self.inside.elab c.self.inside.net c.self.inside.cones q.runs q.cones c.args.signal.0 c.args.input.0
    (subst (λ (d : DesignValue). c.args.signal.0 < length d.elab.signals) (sym v) c.requires.signal)
    (subst (λ (d : DesignValue). IsInput d.elab c.args.input.0) (sym v) c.requires.input)
    (subst (λ (d : DesignValue). in_cone d.elab c.args.signal.0 c.args.input.0 ≡ true) (sym v) c.requires.depends)

pub chain-requires : goal.chain-requires
chain-requires c = (c.self.inside.net, there c)

pub returns : goal.returns
returns c =
    let v = c.self.view_is in
    let q = c.self.invariant in
    subst (λ (d : DesignValue). IfOk c.chain.result (λ chain. IsChain d.elab c.args.signal.0 c.args.input.0 (numbers chain))) v
    (ok_to _ _ (λ xs l. chain_is c.self.inside.elab c.self.inside.net q.runs c.args.signal.0 c.args.input.0 (numbers xs) l) c.chain.result
    (c.chain.ensures c.self.inside.net (depends_on c.self.inside.elab c.self.inside.net c.self.inside.cones q.runs q.cones c.args.signal.0 c.args.input.0
    (subst (λ (d : DesignValue). c.args.signal.0 < length d.elab.signals) (sym v) c.requires.signal)
    (subst (λ (d : DesignValue). IsInput d.elab c.args.input.0) (sym v) c.requires.input)
    (subst (λ (d : DesignValue). in_cone d.elab c.args.signal.0 c.args.input.0 ≡ true) (sym v) c.requires.depends))))
