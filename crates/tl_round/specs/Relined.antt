-- A test with the lines of its printed form, and tests that are equal but for their lines.
use Rattle.std.specs.Prelude.{◌≡◌, ℕ, ◌+◌, List, [], ◌∷◌, map}
use Rattle.tl_ast.specs.declared.tree.TestStmt.{TestStmt}
use Rattle.tl_ast.specs.declared.tree.TestStmt.TheVariants as stmt
use Rattle.tl_ast.specs.declared.tree.TestStmt.TheFolds.{fold-TestStmt}
use Rattle.tl_ast.specs.declared.tree.TestStmt.TheOpen.{TestStmt-F, Poke, Peek, Expect, Step, Let, Set, If, While, Repeat, Fork, Join, JoinStep, Driver, ResetFor}
use Rattle.tl_ast.specs.declared.tree.TestText.{TestText}

-- what stands from a line on, with its lines, and the line behind it
abbrev pub Placed : Type 0 → Type 0
Placed A = ℕ → A × ℕ

abbrev pub one_line : {A : Type 0} → A → ℕ → A × ℕ
one_line a line = (a, line + 1)

-- one behind the other
abbrev pub in_turn : {A : Type 0} → List (Placed A) → Placed (List A)
in_turn [] line = ([], line)
in_turn (f ∷ fs) line = ((f line).0 ∷ (in_turn fs (f line).1).0, (in_turn fs (f line).1).1)

-- a statement with a block, which begins on the next line, and the line of the block's `}`
abbrev pub braced_at : ℕ → (List TestStmt → TestStmt) → Placed (List TestStmt) → TestStmt × ℕ
braced_at line make body = (make (body (line + 1)).0, (body (line + 1)).1 + 1)

-- the block of an `else`, from the line of the `}` before it on; without a block there is no `else`
abbrev pub behind_else : List (Placed TestStmt) → Placed (List TestStmt)
behind_else [] line = ([], line)
behind_else (f ∷ fs) line = in_turn (f ∷ fs) (line + 1)

abbrev pub if_at : (List TestStmt → List TestStmt → TestStmt) → List TestStmt × ℕ → Placed (List TestStmt) → TestStmt × ℕ
if_at make taken other = (make taken.0 (other taken.1).0, (other taken.1).1 + 1)

abbrev pub placed_level : TestStmt-F (Placed TestStmt) → Placed TestStmt
placed_level (Poke _ port value) line = one_line (stmt.Poke line port value) line
placed_level (Peek _ port into) line = one_line (stmt.Peek line port into) line
placed_level (Expect _ port value) line = one_line (stmt.Expect line port value) line
placed_level (Step _ count) line = one_line (stmt.Step line count) line
placed_level (Let _ name value) line = one_line (stmt.Let line name value) line
placed_level (Set _ name value) line = one_line (stmt.Set line name value) line
placed_level (If _ cond taken other) line = if_at (stmt.If line cond) (in_turn taken (line + 1)) (behind_else other)
placed_level (While _ cond body) line = braced_at line (stmt.While line cond) (in_turn body)
placed_level (Repeat _ count body) line = braced_at line (stmt.Repeat line count) (in_turn body)
placed_level (Fork _ region handle body) line = braced_at line (stmt.Fork line region handle) (in_turn body)
placed_level (Join _ handle) line = one_line (stmt.Join line handle) line
placed_level (JoinStep _ handle) line = one_line (stmt.JoinStep line handle) line
placed_level (Driver _ kind port values) line = one_line (stmt.Driver line kind port values) line
placed_level (ResetFor _ count) line = one_line (stmt.ResetFor line count) line

abbrev pub stmt_placed : TestStmt → Placed TestStmt
stmt_placed = fold-TestStmt (Placed TestStmt) placed_level

-- the test with the lines of its printed form
unfoldable pub relined : TestText → TestText
relined test = record { body = (in_turn (map stmt_placed test.body) 1).0 }

-- ---- tests without their lines

abbrev pub unlined_level : TestStmt-F TestStmt → TestStmt
unlined_level (Poke _ port value) = stmt.Poke 0 port value
unlined_level (Peek _ port into) = stmt.Peek 0 port into
unlined_level (Expect _ port value) = stmt.Expect 0 port value
unlined_level (Step _ count) = stmt.Step 0 count
unlined_level (Let _ name value) = stmt.Let 0 name value
unlined_level (Set _ name value) = stmt.Set 0 name value
unlined_level (If _ cond taken other) = stmt.If 0 cond taken other
unlined_level (While _ cond body) = stmt.While 0 cond body
unlined_level (Repeat _ count body) = stmt.Repeat 0 count body
unlined_level (Fork _ region handle body) = stmt.Fork 0 region handle body
unlined_level (Join _ handle) = stmt.Join 0 handle
unlined_level (JoinStep _ handle) = stmt.JoinStep 0 handle
unlined_level (Driver _ kind port values) = stmt.Driver 0 kind port values
unlined_level (ResetFor _ count) = stmt.ResetFor 0 count

abbrev pub stmt_unlined : TestStmt → TestStmt
stmt_unlined = fold-TestStmt TestStmt unlined_level

abbrev pub unlined : TestText → TestText
unlined test = record { body = map stmt_unlined test.body }

-- equal but for their lines
unfoldable pub SameButLines : TestText → TestText → Type 0
SameButLines s t = unlined s ≡ unlined t
