-- A test with the ports for which it was checked.
use Rattle.std.specs.Prelude.{ℕ, List}
use Rattle.net_core.specs.declared.ports.PortInfo.{PortInfo}
use Rattle.tl_ast.specs.declared.tree.TestText.{TestText}

pub record TestFor : Type 0 where
  pub test : TestText
  pub ports : List (List ℕ × PortInfo)
