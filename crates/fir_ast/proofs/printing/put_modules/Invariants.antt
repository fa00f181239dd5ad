use Rattle.std.proofs.Common.{◌≡◌, ◌++◌, take}
use Rattle.std.specs.List.{flat_map}
use Rattle.fir_ast.specs.Printed.{module_text}
use Rattle.fir_ast.proofs.printing.put_modules.Given as goal

abbrev pub invariant-loop-module : goal.invariant-loop-module
invariant-loop-module l = l.out.items ≡ l.initial.out.items ++ flat_map module_text (take l.module-index l.modules)
