use Rattle.fir_check.proofs.Pairs.{pair_added}
use Rattle.fir_check.proofs.sinks.PortSinks.add.Goals as goal

pub returns : goal.returns
returns c =
    pair_added (record { instance = c.in_ok-instance.instance; port = c.in_ok-port.port }) c.self.inside.ports.keys c.insert.new.self.keys c.args.instance.now c.args.port.now c.args.self.now
    c.in_ok-instance.ensures.items c.in_ok-port.ensures.items c.self.view_is c.in_ok-insert.ensures.keys
