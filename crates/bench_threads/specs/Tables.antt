-- What contracts see of the table of a bench's threads.
use Rattle.std.specs.Prelude.{Bool, false, refl}
use Rattle.std.specs.Coded.{Coded, code_by, coded×, coded_ℕ, coded_list, coded_bool}
use Rattle.std.specs.FinMap as map
use Rattle.tl_code.specs.declared.state.ThreadState.{ThreadState}
use Rattle.bench_threads.specs.declared.entry.Entry.{Entry}
use Rattle.bench_threads.specs.declared.entry.Mode.{Mode}
use Rattle.bench_threads.specs.declared.entry.Mode.TheVariants.{Running}
use Rattle.bench_threads.specs.Shelves.{Threads}

-- the threads that are there, and whether there is room for one more
pub record Table : Type 0 where
  pub threads : Threads
  pub ready : Bool

-- it is stored as the pair of both
abbrev pub table_code : Coded Entry → Coded Table
table_code entry = code_by (Threads × Bool) (coded× (map.code (coded_list coded_ℕ) entry) coded_bool) (λ t. (t.threads, t.ready)) (λ p. record { threads = p.0; ready = p.1 }) (λ _. refl)

-- a thread without a mark
abbrev pub standing : ThreadState → Mode → Entry
standing s k = record { state = s; mode = k; marked = false }

-- a thread that begins
abbrev pub started : ThreadState → Entry
started s = standing s Running
