-- The limits of an elaboration.
use Rattle.std.specs.Prelude.{◌≡◌, ℕ, ◌≤◌, ◌<◌, length}
use Rattle.fir_ast.specs.declared.tree.Circuit.{Circuit}
use Rattle.fir_flat.specs.declared.limits.FlatFault.{FlatFault}
use Rattle.fir_flat.specs.declared.limits.FlatFault.TheVariants.{TooManyPorts, TooManySignals, TooManyParts, Memory}
use Rattle.fir_flat.specs.Modules.{place_of, targets_of, signals_in, Ranked}
use Rattle.fir_flat.specs.Measures.{weight_in}
use Rattle.fir_flat.specs.Elaboration.{ports, signals, parts}

-- no module of the circuit contains itself
abbrev pub IsRanked : (ℕ → ℕ) → Circuit → Type 0
IsRanked rank c = Ranked rank (targets_of c.modules) (length c.modules)

-- the elaboration's signals and parts, counted without building it
abbrev pub signal_count : Circuit → ℕ
signal_count c = signals_in c.modules (place_of c.modules c.name)

abbrev pub part_count : Circuit → ℕ
part_count c = weight_in c.modules (place_of c.modules c.name)

pub record Fits (c : Circuit) : Type 0 where
  pub few_ports : ports c ≤ 256
  pub few_signals : signals c ≤ 65536
  pub few_parts : parts c ≤ 4194304

-- a fault: the first limit that the circuit passes
abbrev pub Passes : Circuit → FlatFault → Type 0
Passes c TooManyPorts = 256 < ports c
Passes c TooManySignals = (ports c ≤ 256) × (65536 < signals c)
Passes c TooManyParts = (ports c ≤ 256) × (signals c ≤ 65536) × (4194304 < parts c)
Passes c (Memory m) = Unit {0}

-- what is counted is what the elaboration has
pub record CountsElaboration (c : Circuit) : Type 0 where
  pub signals : signal_count c ≡ signals c
  pub parts : part_count c ≡ parts c
