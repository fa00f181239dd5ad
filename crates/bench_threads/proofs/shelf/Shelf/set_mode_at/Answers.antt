use Rattle.std.proofs.Common.{ap, refl, arith, set}
use Rattle.bench_threads.specs.declared.entry.Entry.{Entry}
use Rattle.bench_threads.proofs.Shelved.{within_seen, set_at, values_set}
use Rattle.bench_threads.proofs.shelf.Shelf.set_mode_at.Goals as goal

pub index_mut-requires : goal.index_mut-requires
index_mut-requires c = let lt = within_seen c.self.inside.seats.items c.self.inside.seats.items c.args.self.now.threads refl c.self.invariant (ap (λ s. s.threads) c.self.view_is) c.args.index c.requires in let ok = c.self.inside.seats.ok in omega arith

pub invariant_of-self : goal.invariant_of-self
invariant_of-self c = (set_at c.self.inside.seats.items c.self.inside.seats.items c.args.self.now.threads refl c.self.invariant (ap (λ s. s.threads) c.self.view_is) (λ (e : Entry). record e { mode = c.args.mode }) (λ e. refl) c.args.index c.index_mut.result.now (set c.self.inside.seats.items c.args.index c.set_mode.new.self) (within_seen c.self.inside.seats.items c.self.inside.seats.items c.args.self.now.threads refl c.self.invariant (ap (λ s. s.threads) c.self.view_is) c.args.index c.requires) c.index_mut.ensures.value (ap (set c.self.inside.seats.items c.args.index) c.set_mode.ensures) c.index_mut.result.now).sorted

pub returns-clause-threads : goal.returns-clause-threads
returns-clause-threads c = λ d. (set_at c.self.inside.seats.items c.self.inside.seats.items c.args.self.now.threads refl c.self.invariant (ap (λ s. s.threads) c.self.view_is) (λ (e : Entry). record e { mode = c.args.mode }) (λ e. refl) c.args.index c.index_mut.result.now (set c.self.inside.seats.items c.args.index c.set_mode.new.self) (within_seen c.self.inside.seats.items c.self.inside.seats.items c.args.self.now.threads refl c.self.invariant (ap (λ s. s.threads) c.self.view_is) c.args.index c.requires) c.index_mut.ensures.value (ap (set c.self.inside.seats.items c.args.index) c.set_mode.ensures) d).is

pub returns-clause-values : goal.returns-clause-values
returns-clause-values c = values_set c.self.inside.seats.items c.self.inside.seats.items c.args.self.now.threads refl c.self.invariant (ap (λ s. s.threads) c.self.view_is) (λ (e : Entry). record e { mode = c.args.mode }) c.args.index c.index_mut.result.now (set c.self.inside.seats.items c.args.index c.set_mode.new.self) (invariant_of-self c) (within_seen c.self.inside.seats.items c.self.inside.seats.items c.args.self.now.threads refl c.self.invariant (ap (λ s. s.threads) c.self.view_is) c.args.index c.requires) c.index_mut.ensures.value (ap (set c.self.inside.seats.items c.args.index) c.set_mode.ensures)
