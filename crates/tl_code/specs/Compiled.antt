-- What contracts see of code: its test with the ports, the instructions, and the numbers of slots for variables and for handles.
use Rattle.std.specs.Prelude.{ℕ, List}
use Rattle.tl_check.specs.Checked.{TestFor}
use Rattle.tl_threads.specs.declared.code.Placed.{Placed}

pub record Compiled : Type 0 where
  pub test : TestFor
  pub placed : List Placed
  pub variables : ℕ
  pub handles : ℕ
