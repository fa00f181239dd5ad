use Rattle.std.proofs.Common.{◌≡◌, ap, ◌∙◌, arith, get_or, length, Some, None}
use Rattle.std.specs.FinMap as map
use Rattle.bench_threads.proofs.Shelved.{found_in, inserted, len_seen}
use Rattle.bench_threads.proofs.shelf.Shelf.insert.Goals as goal

pub unreachable-requires : goal.unreachable-requires
unreachable-requires c =
    let found : Some (get_or c.self.inside.seats.items c.in-Ok.field-0 c.args.seat) ≡ None =
    found_in c.self.inside.seats.items c.deref.result.now c.args.self.now.threads c.deref.ensures.value c.self.invariant (ap (λ s. s.threads) c.self.view_is)
    c.path.result.now c.in-Ok.field-0 c.args.seat c.in-Ok.ensures.found ∙ ap (map.get c.args.self.now.threads) c.path.ensures ∙ c.requires.absent in
    cc

pub invariant_of-self : goal.invariant_of-self
invariant_of-self c = (inserted c.self.inside.seats.items c.deref.result.now c.args.self.now.threads c.deref.ensures.value c.self.invariant (ap (λ s. s.threads) c.self.view_is)
    c.path.result.now c.args.seat c.in-Err.at c.insert.new.self.items c.path.ensures c.in-Err.ensures.absent c.in-Ok-insert.ensures.items).sorted

pub returns-clause-threads : goal.returns-clause-threads
returns-clause-threads c = (inserted c.self.inside.seats.items c.deref.result.now c.args.self.now.threads c.deref.ensures.value c.self.invariant (ap (λ s. s.threads) c.self.view_is)
    c.path.result.now c.args.seat c.in-Err.at c.insert.new.self.items c.path.ensures c.in-Err.ensures.absent c.in-Ok-insert.ensures.items).is

pub returns-clause-room : goal.returns-clause-room
returns-clause-room c =
    let e : map.len c.args.self.now.threads ≡ length c.self.inside.seats.items = len_seen c.self.inside.seats.items c.deref.result.now c.args.self.now.threads c.deref.ensures.value c.self.invariant (ap (λ s. s.threads) c.self.view_is) in
    let ok = c.self.inside.seats.ok in
    let room = ap (λ s. s.room) c.self.view_is in
    (c.in-Ok-insert.ensures.in_place (omega arith)).1.0 ∙ room

pub unreachable-requires-in-Err-insert : goal.unreachable-requires-in-Err-insert
unreachable-requires-in-Err-insert c =
    let e : map.len c.args.self.now.threads ≡ length c.self.inside.seats.items = len_seen c.self.inside.seats.items c.deref.result.now c.args.self.now.threads c.deref.ensures.value c.self.invariant (ap (λ s. s.threads) c.self.view_is) in
    let ok = c.self.inside.seats.ok in
    let room = ap (λ s. s.room) c.self.view_is in
    let full = c.in-Err-insert.ensures.full in
    omega arith
