use Rattle.std.proofs.Common.{ap, refl, sym, ◌∙◌, nat_eq}
use Rattle.bench_threads.proofs.Shelved.{nil_seen}
use Rattle.bench_threads.proofs.shelf.Shelf.is_empty.Goals as goal

pub returns : goal.returns
returns c = c.is_empty.ensures ∙ ap (λ n. nat_eq n 0) c.self.inside.seats.ok.0 ∙ sym (nil_seen c.self.inside.seats.items c.self.inside.seats.items c.args.self.now.threads refl c.self.invariant (ap (λ s. s.threads) c.self.view_is))
