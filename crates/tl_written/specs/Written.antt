-- What a test text can write.
use Rattle.std.specs.Prelude.{ℕ, ◌+◌, ◌≤◌, List, map, sum, length}
use Rattle.tl_ast.specs.declared.tree.TestText.{TestText}
use Rattle.tl_check.specs.Bounds.{greatest, statements, driver_values, nested_blocks, nested_forks, longest_expr}

-- how many bytes a test text may have
abbrev pub text_limit : ℕ
text_limit = 262144

-- A text is read within limits of depth, and each statement and each value of a driver takes a byte of it at least.
pub record WrittenBy (text : List ℕ) (test : TestText) : Type 0 where
  pub blocks : greatest (map nested_blocks test.body) ≤ 32
  pub forks : greatest (map nested_forks test.body) ≤ 8
  pub operators : greatest (map longest_expr test.body) ≤ 64
  pub size : sum (map statements test.body) + sum (map driver_values test.body) ≤ length text
