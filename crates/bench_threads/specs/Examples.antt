-- Small threads, for worked examples.
use Rattle.std.specs.Prelude.{[], false, None}
use Rattle.tb_base.specs.declared.path.Region.{Region}
use Rattle.bench_model.specs.Paths.{Path}
use Rattle.bench_threads.specs.declared.entry.Entry.{Entry}
use Rattle.bench_threads.specs.declared.entry.Mode.{Mode}

-- a thread of this path and region that waits so
abbrev pub thread : Path → Region → Mode → Entry
thread p r k = record {
  state = record { path = p; region = r; pc = 0; locals = []; handles = []; loops = []; forks = 0; acts = 0; joined = None };
  mode = k;
  marked = false;
}

-- the same with its path
abbrev pub at_path : Path → Region → Mode → Path × Entry
at_path p r k = (p, thread p r k)
