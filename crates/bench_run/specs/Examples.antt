-- Observations and outcomes that a reader can follow.
use Rattle.std.specs.Prelude.{ℕ, List, [], ◌∷◌, None, Some}
use Rattle.tb_base.specs.declared.path.Region.{Region}
use Rattle.tb_base.specs.declared.path.Region.TheVariants.{Main, Monitor}
use Rattle.bench_model.specs.Paths.{Path}
use Rattle.bench_run.specs.declared.observation.Observation.{Observation}

-- a peek at the port of this number
abbrev pub seen : (time : ℕ) → Region → Path → (place line port value : ℕ) → Observation
seen t r p n l q v = record { time = t; region = r; path = p; place = n; line = l; port = record { 0 = q }; value = v; wanted = None }

-- an expect of another number
abbrev pub missed : (time : ℕ) → Region → Path → (place line port value wanted : ℕ) → Observation
missed t r p n l q v w = record { time = t; region = r; path = p; place = n; line = l; port = record { 0 = q }; value = v; wanted = Some w }

-- What the root, its child /1, that one's child /1/0 and the monitors /0 and /2 saw, as it came; the number of the line says where it belongs.
abbrev pub as_seen : List Observation
as_seen =
    seen 3 Monitor (0 ∷ []) 1 6 2 9
    ∷ seen 3 Main (1 ∷ 0 ∷ []) 0 5 2 9
    ∷ missed 3 Main (1 ∷ []) 7 4 2 9 8
    ∷ seen 3 Main (1 ∷ []) 2 3 2 9
    ∷ seen 3 Main [] 9 2 2 9
    ∷ seen 2 Monitor (2 ∷ []) 9 1 2 9
    ∷ []

-- the same in order
abbrev pub in_order : List Observation
in_order =
    seen 2 Monitor (2 ∷ []) 9 1 2 9
    ∷ seen 3 Main [] 9 2 2 9
    ∷ seen 3 Main (1 ∷ []) 2 3 2 9
    ∷ missed 3 Main (1 ∷ []) 7 4 2 9 8
    ∷ seen 3 Main (1 ∷ 0 ∷ []) 0 5 2 9
    ∷ seen 3 Monitor (0 ∷ []) 1 6 2 9
    ∷ []
