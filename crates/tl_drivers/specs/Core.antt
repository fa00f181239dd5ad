-- The core form of a test: each driver and each reset gives way to its row, in the blocks too, and everything else stays.
use Rattle.std.specs.Prelude.{List, [], ◌∷◌, map, flat_map}
use Rattle.tl_ast.specs.declared.tree.TestStmt.{TestStmt}
use Rattle.tl_ast.specs.declared.tree.TestStmt.TheFolds.{fold-TestStmt}
use Rattle.tl_ast.specs.declared.tree.TestStmt.TheVariants.{Poke, Peek, Expect, Step, Let, Set, If, While, Repeat, Fork, Join, JoinStep}
use Rattle.tl_ast.specs.declared.tree.TestStmt.TheOpen as at
use Rattle.tl_ast.specs.declared.tree.TestStmt.TheOpen.{TestStmt-F}
use Rattle.tl_ast.specs.declared.tree.TestText.{TestText}
use Rattle.tl_drivers.specs.Rows.{driver, reset}

-- one list behind another
abbrev pub joined : List (List TestStmt) → List TestStmt
joined lists = flat_map (λ ss. ss) lists

-- one level of a statement, from the core statements of those in its blocks
abbrev pub core_level : TestStmt-F (List TestStmt) → List TestStmt
core_level (at.Driver line kind port values) = driver line kind port values
core_level (at.ResetFor line count) = reset line count
core_level (at.If line cond taken other) = If line cond (joined taken) (joined other) ∷ []
core_level (at.While line cond body) = While line cond (joined body) ∷ []
core_level (at.Repeat line count body) = Repeat line count (joined body) ∷ []
core_level (at.Fork line region handle body) = Fork line region handle (joined body) ∷ []
core_level (at.Poke line port value) = Poke line port value ∷ []
core_level (at.Peek line port into) = Peek line port into ∷ []
core_level (at.Expect line port value) = Expect line port value ∷ []
core_level (at.Step line count) = Step line count ∷ []
core_level (at.Let line name value) = Let line name value ∷ []
core_level (at.Set line name value) = Set line name value ∷ []
core_level (at.Join line handle) = Join line handle ∷ []
core_level (at.JoinStep line handle) = JoinStep line handle ∷ []

-- the core statements of a statement
abbrev pub core : TestStmt → List TestStmt
core = fold-TestStmt (List TestStmt) core_level

-- those of statements, one after another
abbrev pub core_body : List TestStmt → List TestStmt
core_body body = joined (map core body)

-- a test with each driver and each reset replaced
abbrev pub core_of : TestText → TestText
core_of test = record { body = core_body test.body }
