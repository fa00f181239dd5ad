use Rattle.std.proofs.Common.{ap, sym, ◌∙◌, refl, arith, List, length}
use Rattle.bench_threads.proofs.Shelved.{len_seen, values_seen, listed_seen}
use Rattle.bench_threads.specs.declared.entry.Entry.{Entry}
use Rattle.bench_threads.proofs.shelf.Shelf.len.Goals as goal

pub returns-clause-is : goal.returns-clause-is
returns-clause-is c = c.len.ensures ∙ c.self.inside.seats.ok.0 ∙ sym (len_seen c.self.inside.seats.items _ _ refl c.self.invariant (ap (λ s. s.threads) c.self.view_is))

pub returns-clause-room : goal.returns-clause-room
returns-clause-room c =
    let e = len_seen c.self.inside.seats.items c.self.inside.seats.items c.args.self.now.threads refl c.self.invariant (ap (λ s. s.threads) c.self.view_is) in
    let n = c.self.inside.seats.ok in
    let room = ap (λ s. s.room) c.self.view_is in omega arith

pub returns-clause-values : goal.returns-clause-values
returns-clause-values c = c.len.ensures ∙ c.self.inside.seats.ok.0 ∙ ap (λ (l : List Entry). length l) (sym (values_seen c.self.inside.seats.items c.self.inside.seats.items c.args.self.now.threads refl c.self.invariant (ap (λ s. s.threads) c.self.view_is)))

pub returns-clause-listed : goal.returns-clause-listed
returns-clause-listed c = listed_seen c.self.inside.seats.items c.self.inside.seats.items c.args.self.now.threads refl c.self.invariant (ap (λ s. s.threads) c.self.view_is)
