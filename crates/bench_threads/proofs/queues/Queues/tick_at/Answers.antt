use Rattle.std.proofs.Common.{ap, sym, ◌∙◌}
use Rattle.std.specs.FinMap as map
use Rattle.bench_threads.specs.declared.entry.Entry.{Entry}
use Rattle.bench_threads.specs.Houses.{all}
use Rattle.bench_threads.specs.Threads.{released}
use Rattle.bench_threads.proofs.Houses.{get_removed}
use Rattle.bench_threads.proofs.Ticking.{at_each, stays_same, counted, counted_is, counted_front, gone, gone_room, let_go_is, let_go_front, within_waiting}
use Rattle.bench_threads.proofs.queues.Queues.tick_at.Goals as goal

pub at-requires : goal.at-requires
at-requires c = within_waiting c.self.inside.drivers c.self.inside.monitors c.self.inside.waiting c.args.self.now c.self.view_is c.self.invariant c.args.index c.requires

pub set_mode_at-requires : goal.set_mode_at-requires
set_mode_at-requires c = within_waiting c.self.inside.drivers c.self.inside.monitors c.self.inside.waiting c.args.self.now c.self.view_is c.self.invariant c.args.index c.requires

pub take_at-seat-requires : goal.take_at-seat-requires
take_at-seat-requires c = within_waiting c.self.inside.drivers c.self.inside.monitors c.self.inside.waiting c.args.self.now c.self.view_is c.self.invariant c.args.index c.requires

pub returns-in-Stays-clause-threads : goal.returns-in-Stays-clause-threads
returns-in-Stays-clause-threads c = at_each c.self.inside.drivers c.self.inside.monitors c.self.inside.waiting c.args.self.now c.self.view_is c.self.invariant c.args.index c.at.result.now c.at.ensures.there c.args.self.now.threads c.at.ensures.item (stays_same c.self.inside.drivers c.self.inside.monitors c.self.inside.waiting c.args.self.now c.self.view_is c.self.invariant c.args.index c.at.result.now c.at.ensures.there c.in-Stays.ensures)

pub invariant_of-self : goal.invariant_of-self
invariant_of-self c = (counted c.self.inside.drivers c.self.inside.monitors c.self.inside.waiting c.args.self.now c.self.view_is c.self.invariant c.args.index c.at.result.now c.at.ensures.there c.set_mode_at.new.self c.in-Counts.left c.at.ensures.item c.set_mode_at.ensures.threads c.set_mode_at.ensures.room).shared

pub returns-in-Counts-clause-threads : goal.returns-in-Counts-clause-threads
returns-in-Counts-clause-threads c =
    let new = counted c.self.inside.drivers c.self.inside.monitors c.self.inside.waiting c.args.self.now c.self.view_is c.self.invariant c.args.index c.at.result.now c.at.ensures.there c.set_mode_at.new.self c.in-Counts.left c.at.ensures.item c.set_mode_at.ensures.threads c.set_mode_at.ensures.room in
    at_each c.self.inside.drivers c.self.inside.monitors c.self.inside.waiting c.args.self.now c.self.view_is c.self.invariant c.args.index c.at.result.now c.at.ensures.there _ c.at.ensures.item (counted_is c.self.inside.drivers c.self.inside.monitors c.self.inside.waiting c.args.self.now c.self.view_is c.self.invariant c.args.index c.at.result.now c.at.ensures.there c.in-Counts.left _ c.in-Counts.ensures new.is)

pub returns-in-Counts-clause-front : goal.returns-in-Counts-clause-front
returns-in-Counts-clause-front c =
    counted_front c.self.inside.drivers c.self.inside.monitors c.self.inside.waiting c.args.self.now c.self.view_is c.self.invariant c.args.index c.at.result.now c.at.ensures.there c.set_mode_at.new.self c.in-Counts.left _ (invariant_of-self c) (c.set_mode_at.ensures.values c.at.result.now)

pub invariant_of-self-in-LetGo : goal.invariant_of-self-in-LetGo
invariant_of-self-in-LetGo c = (gone c.self.inside.drivers c.self.inside.monitors c.self.inside.waiting c.args.self.now c.self.view_is c.self.invariant c.args.index c.at.result.now c.at.ensures.there c.take_at-seat.new.self (c.take_at-seat.ensures.threads ∙ ap (λ (e : Entry). map.remove c.self.inside.waiting.threads e.state.path) (c.take_at-seat.ensures.item c.at.result.now ∙ sym (c.at.ensures.item c.at.result.now))) c.take_at-seat.ensures.room).shared

pub insert-requires-clause-absent : goal.insert-requires-clause-absent
insert-requires-clause-absent c =
    ap (λ (e : Entry). map.get (all c.self.inside.drivers.threads c.self.inside.monitors.threads c.take_at-seat.new.self.threads) e.state.path) (c.let_go.ensures ∙ ap released (c.take_at-seat.ensures.item c.at.result.now ∙ sym (c.at.ensures.item c.at.result.now)))
    ∙ ap (λ t. map.get t c.at.result.now.state.path) (gone c.self.inside.drivers c.self.inside.monitors c.self.inside.waiting c.args.self.now c.self.view_is c.self.invariant c.args.index c.at.result.now c.at.ensures.there c.take_at-seat.new.self (c.take_at-seat.ensures.threads ∙ ap (λ (e : Entry). map.remove c.self.inside.waiting.threads e.state.path) (c.take_at-seat.ensures.item c.at.result.now ∙ sym (c.at.ensures.item c.at.result.now))) c.take_at-seat.ensures.room).is
    ∙ get_removed c.args.self.now.threads c.at.result.now.state.path

pub insert-requires-clause-room : goal.insert-requires-clause-room
insert-requires-clause-room c = gone_room c.self.inside.drivers c.self.inside.monitors c.self.inside.waiting c.args.self.now c.self.view_is c.self.invariant c.args.index c.at.result.now c.at.ensures.there c.take_at-seat.new.self (c.take_at-seat.ensures.threads ∙ ap (λ (e : Entry). map.remove c.self.inside.waiting.threads e.state.path) (c.take_at-seat.ensures.item c.at.result.now ∙ sym (c.at.ensures.item c.at.result.now))) c.take_at-seat.ensures.room

pub returns-in-LetGo-clause-threads : goal.returns-in-LetGo-clause-threads
returns-in-LetGo-clause-threads c =
    at_each c.self.inside.drivers c.self.inside.monitors c.self.inside.waiting c.args.self.now c.self.view_is c.self.invariant c.args.index c.at.result.now c.at.ensures.there c.insert.new.self.threads c.at.ensures.item (let_go_is c.self.inside.drivers c.self.inside.monitors c.self.inside.waiting c.args.self.now c.self.view_is c.self.invariant c.args.index c.at.result.now c.at.ensures.there c.take_at-seat.new.self c.insert.new.self.threads c.in-LetGo.ensures (c.take_at-seat.ensures.threads ∙ ap (λ (e : Entry). map.remove c.self.inside.waiting.threads e.state.path) (c.take_at-seat.ensures.item c.at.result.now ∙ sym (c.at.ensures.item c.at.result.now))) c.take_at-seat.ensures.room
    (c.insert.ensures.threads ∙ ap (λ (e : Entry). map.insert (all c.self.inside.drivers.threads c.self.inside.monitors.threads c.take_at-seat.new.self.threads) e.state.path e) (c.let_go.ensures ∙ ap released (c.take_at-seat.ensures.item c.at.result.now ∙ sym (c.at.ensures.item c.at.result.now)))))

pub returns-in-LetGo-clause-front : goal.returns-in-LetGo-clause-front
returns-in-LetGo-clause-front c =
    let_go_front c.self.inside.drivers c.self.inside.monitors c.self.inside.waiting c.args.self.now c.self.view_is c.self.invariant c.args.index c.at.result.now c.at.ensures.there c.take_at-seat.new.self c.insert.new.self.threads (within_waiting c.self.inside.drivers c.self.inside.monitors c.self.inside.waiting c.args.self.now c.self.view_is c.self.invariant c.args.index c.requires) (c.take_at-seat.ensures.threads ∙ ap (λ (e : Entry). map.remove c.self.inside.waiting.threads e.state.path) (c.take_at-seat.ensures.item c.at.result.now ∙ sym (c.at.ensures.item c.at.result.now))) c.take_at-seat.ensures.room c.take_at-seat.ensures.values
    (c.insert.ensures.threads ∙ ap (λ (e : Entry). map.insert (all c.self.inside.drivers.threads c.self.inside.monitors.threads c.take_at-seat.new.self.threads) e.state.path e) (c.let_go.ensures ∙ ap released (c.take_at-seat.ensures.item c.at.result.now ∙ sym (c.at.ensures.item c.at.result.now))))
