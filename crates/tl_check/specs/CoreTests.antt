-- Core tests: those without drivers and resets.
use Rattle.std.specs.Prelude.{Bool, true, false, not, ◌||◌, List, map}
use Rattle.std.specs.List.{list_any}
use Rattle.tl_ast.specs.declared.tree.TestStmt.{TestStmt}
use Rattle.tl_ast.specs.declared.tree.TestStmt.TheFolds.{fold-TestStmt}
use Rattle.tl_ast.specs.declared.tree.TestStmt.TheOpen.{TestStmt-F, If, While, Repeat, Fork, Driver, ResetFor}
use Rattle.tl_ast.specs.declared.tree.TestText.{TestText}

-- whether one of these is true
abbrev pub some_true : List Bool → Bool
some_true bs = list_any (λ b. b) bs

abbrev pub drives_level : TestStmt-F Bool → Bool
drives_level (Driver _ _ _ _) = true
drives_level (ResetFor _ _) = true
drives_level (If _ _ taken other) = some_true taken || some_true other
drives_level (While _ _ body) = some_true body
drives_level (Repeat _ _ body) = some_true body
drives_level (Fork _ _ _ body) = some_true body
drives_level _ = false

-- whether it is a driver or a reset, or one stands in it
abbrev pub drives : TestStmt → Bool
drives = fold-TestStmt Bool drives_level

-- whether none stands in the test
abbrev pub is_core : TestText → Bool
is_core test = not (some_true (map drives test.body))
