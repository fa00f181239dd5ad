use Rattle.std.proofs.Common.{List, ℕ, ◌++◌, ◌∙◌, ap}
use Rattle.fir_flat.specs.declared.signals.Entry.{Entry}
use Rattle.fir_flat.specs.Bodies.{body_of}
use Rattle.fir_flat.specs.Elaboration.{port_entries, entries}
use Rattle.fir_flat.specs.Kinds.{seen}
use Rattle.fir_flat.specs.Signals.{seen_entries, seen_opening}
use Rattle.fir_flat.proofs.PortEntries.{own_listed}
use Rattle.fir_flat.proofs.own_entries.list_own.Goals as goal

pub returns : goal.returns
returns c =
    own_listed c.args.modules.now (seen_opening c.args.opening.now) c.ports_at-ports.result.now c.body_at-body.result.now (seen c.in_ok-names.names.known)
    c.in_ok-names.names.next (seen_entries c.list_ports.new.out.items) (seen_entries c.list_block.new.listed.entries.items)
    c.ports_at-ports.ensures c.body_at-body.ensures
    (c.in_ok-list_ports.ensures
    ∙ ap (λ (es : List Entry). seen_entries es ++ port_entries (seen_opening c.args.opening.now) c.ports_at-ports.result.now) c.new-entries.ensures.items)
    c.in_ok-names.ensures.known c.in_ok-names.ensures.next
    (c.in_ok-list_block.ensures.listed.entries
    ∙ ap (λ (x : List ℕ). seen_entries c.list_ports.new.out.items
    ++ entries c.args.modules.now x (seen c.in_ok-names.names.known) c.in_ok-names.names.next (body_of c.body_at-body.result.now)) c.bytes-prefix.ensures)
