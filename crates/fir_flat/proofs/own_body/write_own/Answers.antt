use Rattle.std.proofs.Common.{◌≡◌, ◌++◌, rules}
use Rattle.fir_flat.proofs.WritingFacts.{own_written}
use Rattle.fir_flat.proofs.own_body.write_own.Goals as goal

pub returns : goal.returns
returns c =
    let e : c.append.new.self.items ≡ c.put_ports.new.out.items ++ c.in_ok-written.written.body.items = search rules in
    own_written c.args.modules.now c.args.place c.args.first c.args.top c.ports_at-ports.result.now c.body_at-body.result.now c.in_ok-names.names.known
    c.in_ok-names.names.next c.args.out.now.items c.put_ports.new.out.items c.in_ok-written.written.body.items c.append.new.self.items
    c.ports_at-ports.ensures c.body_at-body.ensures c.in_ok-put_ports.ensures c.in_ok-names.ensures.known c.in_ok-names.ensures.next
    c.in_ok-written.ensures.written.body e
