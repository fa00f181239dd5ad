-- The ports of instances that a module connects.
use Rattle.std.specs.Prelude.{ℕ, ◌≡◌, Bool, ◌&&◌, not, List, map, filter, bytes_eq, ◌||◌}
use Rattle.std.specs.List.{list_any}
use Rattle.std.specs.declared.vec.Vec.{Vec}
use Rattle.std.specs.declared.alloc.Global.{Global}
use Rattle.fir_ast.specs.declared.tree.Expr.{Expr}
use Rattle.fir_ast.specs.declared.tree.Expr.TheViews.{out-Expr}
use Rattle.fir_ast.specs.declared.tree.Stmt.{Stmt}
use Rattle.fir_ast.specs.declared.tree.Stmt.TheFolds.{fold-Stmt}
use Rattle.fir_ast.specs.declared.tree.Module.{Module}
use Rattle.fir_ast.specs.declared.tree.Port.{Port}
use Rattle.fir_check.specs.KnownSeen.{key_name}
use Rattle.fir_check.specs.Names.{firsts}
use Rattle.fir_check.specs.Scopes.{port_name}
use Rattle.fir_check.specs.Rules.{is_clock_input, is_port_of, sink_level, sinks_in}

-- the sinks of the connects in a statement
abbrev pub sinks_of : Stmt → List Expr
sinks_of = fold-Stmt (List Expr) sink_level

-- an instance's name with a port's
abbrev pub is_pair : List ℕ → List ℕ → List ℕ × List ℕ → Bool
is_pair instance port p = bytes_eq instance p.0 && bytes_eq port p.1

abbrev pub has_pair : List ℕ → List ℕ → List (List ℕ × List ℕ) → Bool
has_pair instance port ps = list_any (is_pair instance port) ps

-- the port of the instance is one of these expressions
abbrev pub is_sunk : List ℕ → List ℕ → List Expr → Bool
is_sunk instance port sinks = list_any (λ sink. is_port_of instance port (out-Expr sink)) sinks

-- the pairs behind are those in front and the ports of instances among these expressions
pub record GainsPorts (sinks : List Expr) (front behind : List (List ℕ × List ℕ)) : Type 0 where
  pub each : (instance port : List ℕ) → has_pair instance port behind ≡ has_pair instance port front || is_sunk instance port sinks

-- the pairs are the ports of instances that are sinks of the module's connects
pub record DrivenBy (m : Module) (ps : List (List ℕ × List ℕ)) : Type 0 where
  pub each : (instance port : List ℕ) → has_pair instance port ps ≡ is_sunk instance port (sinks_in m)

-- the pairs behind are those in front and this one
pub record GainsPair (instance port : List ℕ) (front behind : List (List ℕ × List ℕ)) : Type 0 where
  pub each : (i p : List ℕ) → has_pair i p behind ≡ has_pair i p front || (bytes_eq instance i && bytes_eq port p)

-- a Clock input of the instance is none of these
abbrev pub misses : List (List ℕ × List ℕ) → List ℕ → Port → Bool
misses ps instance p = is_clock_input p && not (has_pair instance p.name ps)

-- the names of the Clock inputs among ports
abbrev pub clock_names : List Port → List (List ℕ)
clock_names ports = map port_name (filter is_clock_input ports)

-- those of a module, without the ports whose name an earlier one has
abbrev pub clock_inputs : Module → List (List ℕ)
clock_inputs m = clock_names (firsts port_name m.ports)

-- what a contract sees of names that are kept
abbrev pub names_seen : Vec (Vec ℕ Global) Global → List (List ℕ)
names_seen names = map key_name names.items

abbrev pub all_seen : List (Vec (Vec ℕ Global) Global) → List (List (List ℕ))
all_seen all = map names_seen all

-- one of the names is that of a port of the instance that isn't among these
abbrev pub misses_one : List (List ℕ × List ℕ) → List ℕ → List (List ℕ) → Bool
misses_one ps instance names = list_any (λ name. not (has_pair instance name ps)) names
