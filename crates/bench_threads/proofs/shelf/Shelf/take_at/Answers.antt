use Rattle.std.proofs.Common.{ap, refl, arith}
use Rattle.bench_threads.proofs.Shelved.{within_seen, item_seen, removed_at, values_removed}
use Rattle.bench_threads.proofs.shelf.Shelf.take_at.Goals as goal

pub remove-requires : goal.remove-requires
remove-requires c = let lt = within_seen c.self.inside.seats.items c.self.inside.seats.items c.args.self.now.threads refl c.self.invariant (ap (λ s. s.threads) c.self.view_is) c.args.index c.requires in let ok = c.self.inside.seats.ok in omega arith

pub invariant_of-self : goal.invariant_of-self
invariant_of-self c = (removed_at c.self.inside.seats.items c.self.inside.seats.items c.args.self.now.threads refl c.self.invariant (ap (λ s. s.threads) c.self.view_is) c.args.index c.remove.result c.remove.new.self.items (within_seen c.self.inside.seats.items c.self.inside.seats.items c.args.self.now.threads refl c.self.invariant (ap (λ s. s.threads) c.self.view_is) c.args.index c.requires) c.remove.ensures.value c.remove.ensures.items).sorted

pub returns-clause-item : goal.returns-clause-item
returns-clause-item c = item_seen c.self.inside.seats.items c.self.inside.seats.items c.args.self.now.threads refl c.self.invariant (ap (λ s. s.threads) c.self.view_is) c.args.index c.remove.result (within_seen c.self.inside.seats.items c.self.inside.seats.items c.args.self.now.threads refl c.self.invariant (ap (λ s. s.threads) c.self.view_is) c.args.index c.requires) c.remove.ensures.value

pub returns-clause-threads : goal.returns-clause-threads
returns-clause-threads c = (removed_at c.self.inside.seats.items c.self.inside.seats.items c.args.self.now.threads refl c.self.invariant (ap (λ s. s.threads) c.self.view_is) c.args.index c.remove.result c.remove.new.self.items (within_seen c.self.inside.seats.items c.self.inside.seats.items c.args.self.now.threads refl c.self.invariant (ap (λ s. s.threads) c.self.view_is) c.args.index c.requires) c.remove.ensures.value c.remove.ensures.items).is

pub returns-clause-values : goal.returns-clause-values
returns-clause-values c = values_removed c.self.inside.seats.items c.self.inside.seats.items c.args.self.now.threads refl c.self.invariant (ap (λ s. s.threads) c.self.view_is) c.args.index c.remove.new.self.items (invariant_of-self c) c.remove.ensures.items
