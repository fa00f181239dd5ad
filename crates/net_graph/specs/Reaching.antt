-- What is reached by reads, and tables of what each number reaches.
use Rattle.std.specs.Prelude.{◌≡◌, ◌↔◌, ℕ, ◌<◌, ◌-◌, Bool, true, List, ◌&&◌, length, if◌then◌else◌, nat_lt, nat_eq, slice_index_or}
use Rattle.std.specs.Int.{bit_at}
use Rattle.net_core.specs.declared.tree.Net.{Net}
use Rattle.net_core.specs.Signals.{info, is_input}
use Rattle.net_core.specs.Nets.{net_reads}
use Rattle.net_graph.specs.declared.inputs.InputSet.{InputSet}
use Rattle.net_graph.specs.declared.cones.Cones.{Cones}
use Rattle.net_graph.specs.Graphs.{reads_in}
use Rattle.net_graph.specs.NetGraphs.{IsNumbered}

-- p is x, or x reads something from which p is reached
pub data Reached (reads : ℕ → ℕ → Bool) (p : ℕ) : ℕ → Type 0 where
  itself : Reached reads p p
  by : (x y : ℕ) → reads x y ≡ true → Reached reads p y → Reached reads p x

-- whether the input of the number p is in the set
abbrev pub in_set : InputSet → ℕ → Bool
in_set s p = if nat_lt p 128 then nat_eq (bit_at s.low p) 1 else (nat_lt p 256 && nat_eq (bit_at s.high (p - 128)) 1)

abbrev pub no_inputs : InputSet
no_inputs = record { low = 0; high = 0 }

abbrev pub input_at : Net → ℕ → Bool
input_at net p = is_input (info net.signals p).role

-- whether the table has the input p in the set of x
abbrev pub in_row_of : List InputSet → ℕ → ℕ → Bool
in_row_of sets x p = in_set (slice_index_or sets x no_inputs) p

-- the sets of the numbers for which the test holds are what these reach of the inputs
abbrev pub RightAt : (ℕ → ℕ → Bool) → (ℕ → Bool) → List InputSet → ℕ → Type 0
RightAt reads inputs sets x = (p : ℕ) → inputs p ≡ true → (in_row_of sets x p ≡ true) ↔ Reached reads p x

-- the cones of a net: for each signal the inputs that it reaches, and what it reads
pub record ConesOf (net : Net) (table : Cones) : Type 0 where
  pub cones : (x p : ℕ) → x < length net.signals → input_at net p ≡ true → (in_row_of table.sets x p ≡ true) ↔ Reached (net_reads net) p x
  pub places : length table.sets ≡ length net.signals
  pub reads : (x y : ℕ) → reads_in table.lists x y ≡ net_reads net x y
  pub lists : length table.lists ≡ length net.signals
  pub own : table.own ≡ net.own

-- the table is the net's, x is a signal of the circuit, and depends on its input p
pub record DependsOn (net : Net) (table : Cones) (x p : ℕ) : Type 0 where
  pub numbered : IsNumbered net
  pub of_net : ConesOf net table
  pub signal : x < net.own
  pub own_input : p < net.own
  pub input : input_at net p ≡ true
  pub has : in_row_of table.sets x p ≡ true
