-- What is prepared is the next move.
use Rattle.std.proofs.Common.{length, subst}
use Rattle.tl_threads.specs.Laws.{CodeRefines, OneAction}
use Rattle.tl_threads.specs.Machine.{Did}
use Rattle.tl_threads.specs.Stands.{Fulfils}
use Rattle.tl_threads.specs.Threads.{next}
use Rattle.tl_code.specs.Codes.{places, core_of}
use Rattle.tl_prepare.specs.Runs.{code_at}
use Rattle.tl_prepare.specs.Given.{most_local}
use Rattle.tl_prepare.proofs.Holding.{held_all}
use Rattle.tl_prepare.specs.Laws.{PreparedIsNext}

pub prepared_is_next : CodeRefines → OneAction → PreparedIsNext
prepared_is_next refines one c w i p stands held =
    let d = refines c.variables c.handles (places c) most_local (length w.from.path) w.from.region (core_of w.from) i stands in
    subst (λ (x : Did). Fulfils c.variables c.handles (places c) (length w.from.path) w.from.region x (next most_local i))
    (one (code_at c.placed) most_local d.count p.count 0 (core_of w.from) d.done p.done d.ran (p.under (code_at c.placed) (held_all (code_at c.placed) w.fetched held))) d.fulfils
