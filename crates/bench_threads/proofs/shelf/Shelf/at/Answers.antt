use Rattle.std.proofs.Common.{◌≡◌, ap, refl, sym, subst, arith, get_or}
use Rattle.bench_threads.specs.declared.entry.Entry.{Entry}
use Rattle.bench_threads.proofs.Shelved.{within_seen, item_seen, there_seen}
use Rattle.bench_threads.proofs.shelf.Shelf.at.Goals as goal

pub index-requires : goal.index-requires
index-requires c = let lt = within_seen c.self.inside.seats.items c.self.inside.seats.items c.args.self.now.threads refl c.self.invariant (ap (λ s. s.threads) c.self.view_is) c.args.index c.requires in let ok = c.self.inside.seats.ok in omega arith

pub returns-clause-item : goal.returns-clause-item
returns-clause-item c = λ d.
    item_seen c.self.inside.seats.items c.self.inside.seats.items c.args.self.now.threads refl c.self.invariant (ap (λ s. s.threads) c.self.view_is) c.args.index c.entry.result.now (within_seen c.self.inside.seats.items c.self.inside.seats.items c.args.self.now.threads refl c.self.invariant (ap (λ s. s.threads) c.self.view_is) c.args.index c.requires)
    (subst (λ (x : Entry). x ≡ get_or c.self.inside.seats.items c.args.index x) (sym c.entry.ensures) c.index.ensures) d

pub returns-clause-there : goal.returns-clause-there
returns-clause-there c =
    let lt = within_seen c.self.inside.seats.items c.self.inside.seats.items c.args.self.now.threads refl c.self.invariant (ap (λ s. s.threads) c.self.view_is) c.args.index c.requires in
    let item : c.entry.result.now ≡ get_or c.self.inside.seats.items c.args.index c.entry.result.now = subst (λ (x : Entry). x ≡ get_or c.self.inside.seats.items c.args.index x) (sym c.entry.ensures) c.index.ensures in
    there_seen c.self.inside.seats.items c.self.inside.seats.items c.args.self.now.threads refl c.self.invariant (ap (λ s. s.threads) c.self.view_is) c.args.index c.entry.result.now lt item
