-- Tests that leave the drivers' handle to drivers, as each does that a text spells: no word begins with `$`.
use Rattle.std.specs.Prelude.{Bool, false, not, ◌||◌, map, bytes_eq}
use Rattle.tl_ast.specs.declared.tree.TestStmt.{TestStmt}
use Rattle.tl_ast.specs.declared.tree.TestStmt.TheFolds.{fold-TestStmt}
use Rattle.tl_ast.specs.declared.tree.TestStmt.TheOpen.{TestStmt-F, If, While, Repeat, Fork, Join, JoinStep}
use Rattle.tl_ast.specs.declared.tree.TestText.{TestText}
use Rattle.tl_check.specs.Scopes.{drivers_handle}
use Rattle.tl_check.specs.CoreTests.{some_true}

abbrev pub takes_level : TestStmt-F Bool → Bool
takes_level (Fork _ _ handle body) = bytes_eq handle drivers_handle || some_true body
takes_level (Join _ handle) = bytes_eq handle drivers_handle
takes_level (JoinStep _ handle) = bytes_eq handle drivers_handle
takes_level (If _ _ taken other) = some_true taken || some_true other
takes_level (While _ _ body) = some_true body
takes_level (Repeat _ _ body) = some_true body
takes_level _ = false

-- whether a fork or a join in the statement, or the statement itself, has the drivers' handle
abbrev pub takes_drivers_handle : TestStmt → Bool
takes_drivers_handle = fold-TestStmt Bool takes_level

-- whether none in the test does
abbrev pub leaves_drivers_handle : TestText → Bool
leaves_drivers_handle test = not (some_true (map takes_drivers_handle test.body))
