-- The rules on the ports of one module.
use Rattle.std.specs.Prelude.{ℕ, Option, List, [], ◌++◌, map, flat_map, drop, option_to_list}
use Rattle.fir_ast.specs.declared.tree.Port.{Port}
use Rattle.fir_ast.specs.declared.tree.Module.{Module}
use Rattle.fir_check.specs.declared.best.Rule.{Rule}
use Rattle.fir_check.specs.declared.best.Rule.TheVariants.{DoubleName, WrongKind, ClockUse}
use Rattle.fir_check.specs.Names.{seconds}
use Rattle.fir_check.specs.Types.{repeats_field}
use Rattle.fir_check.specs.Scopes.{port_name}
use Rattle.fir_check.specs.Rules.{port_lines, misplaces_clock, is_clock_input, has_unsized_input}

-- the lines of the ports of any module that break a rule
abbrev pub port_breaks : List Port → Rule → List ℕ
port_breaks ports DoubleName = map (λ p. p.line) (seconds port_name ports) ++ port_lines (λ p. repeats_field p.ty) ports
port_breaks ports ClockUse = port_lines misplaces_clock ports
port_breaks ports _ = []

-- those of the main module that break a rule besides
abbrev pub main_breaks : List Port → Rule → List ℕ
main_breaks ports WrongKind = port_lines has_unsized_input ports
main_breaks ports ClockUse = drop 1 (port_lines is_clock_input ports)
main_breaks ports _ = []

-- the lines of the ports of all modules that break a rule of any module's
abbrev pub all_port_breaks : List Module → Rule → List ℕ
all_port_breaks modules rule = flat_map (λ m. port_breaks m.ports rule) modules

-- those of the main module, if there is one
abbrev pub named_breaks : Option Module → Rule → List ℕ
named_breaks main rule = flat_map (λ m. main_breaks m.ports rule) (option_to_list main)
