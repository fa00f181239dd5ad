use Rattle.std.proofs.Common.{◌∙◌}
use Rattle.fir_check.proofs.Pairs.{key_pairs}
use Rattle.fir_check.proofs.sinks.PortSinks.has.Goals as goal

pub returns : goal.returns
returns c =
    c.contains.ensures ∙ key_pairs (record { instance = c.in_ok-instance.instance; port = c.in_ok-port.port }) c.self.inside.ports.keys c.args.instance.now c.args.port.now c.args.self.now
    c.in_ok-instance.ensures.items c.in_ok-port.ensures.items c.self.view_is
