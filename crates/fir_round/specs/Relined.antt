-- A circuit with the lines of its printed form, and circuits that are equal but for their lines.
use Rattle.std.specs.Prelude.{◌≡◌, ℕ, suc, List, [], ◌∷◌, map}
use Rattle.fir_ast.specs.declared.tree.Stmt.{Stmt}
use Rattle.fir_ast.specs.declared.tree.Stmt.TheVariants as stmt
use Rattle.fir_ast.specs.declared.tree.Stmt.TheFolds.{fold-Stmt}
use Rattle.fir_ast.specs.declared.tree.Stmt.TheOpen.{Stmt-F, Wire, Node, Reg, Inst, Connect, Invalid, When, Skip, Verif}
use Rattle.fir_ast.specs.declared.tree.Port.{Port}
use Rattle.fir_ast.specs.declared.tree.Module.{Module}
use Rattle.fir_ast.specs.declared.tree.Circuit.{Circuit}

-- what stands from a line on, with its lines, and the line behind it
abbrev pub Placed : Type 0 → Type 0
Placed A = ℕ → A × ℕ

abbrev pub one_line : {A : Type 0} → A → ℕ → A × ℕ
one_line a line = (a, suc line)

-- one behind the other
abbrev pub in_turn : {A : Type 0} → List (Placed A) → Placed (List A)
in_turn [] line = ([], line)
in_turn (f ∷ fs) line = ((f line).0 ∷ (in_turn fs (f line).1).0, (in_turn fs (f line).1).1)

-- the block of an `else`, which has a line of its own; without a block there is no such line
abbrev pub behind_else : List (Placed Stmt) → Placed (List Stmt)
behind_else [] line = ([], line)
behind_else (f ∷ fs) line = in_turn (f ∷ fs) (suc line)

-- a `when`, its block and that of its `else`, where these are placed
abbrev pub when_at : ℕ → (List Stmt → List Stmt → Stmt) → List Stmt × ℕ → Placed (List Stmt) → Stmt × ℕ
when_at line make taken other = (make taken.0 (other taken.1).0, (other taken.1).1)

abbrev pub placed_level : Stmt-F (Placed Stmt) → Placed Stmt
placed_level (Wire _ name ty) line = one_line (stmt.Wire line name ty) line
placed_level (Node _ name value) line = one_line (stmt.Node line name value) line
placed_level (Reg _ name ty clock reset) line = one_line (stmt.Reg line name ty clock reset) line
placed_level (Inst _ name target) line = one_line (stmt.Inst line name target) line
placed_level (Connect _ sink value) line = one_line (stmt.Connect line sink value) line
placed_level (Invalid _ sink) line = one_line (stmt.Invalid line sink) line
placed_level (When _ cond taken other) line = when_at line (stmt.When line cond) (in_turn taken (suc line)) (behind_else other)
placed_level (Skip _) line = one_line (stmt.Skip line) line
placed_level (Verif _ kind args code text label) line = one_line (stmt.Verif line kind args code text label) line

abbrev pub stmt_placed : Stmt → Placed Stmt
stmt_placed = fold-Stmt (Placed Stmt) placed_level

abbrev pub port_placed : Port → Placed Port
port_placed p line = one_line (record { line = line; output = p.output; name = p.name; ty = p.ty }) line

abbrev pub module_with : ℕ → Module → List Port × ℕ → Placed (List Stmt) → Module × ℕ
module_with line m ports body = (record { line = line; name = m.name; ports = ports.0; body = (body ports.1).0 }, (body ports.1).1)

abbrev pub module_placed : Module → Placed Module
module_placed m line = module_with line m (in_turn (map port_placed m.ports) (suc line)) (in_turn (map stmt_placed m.body))

-- the circuit with the lines of its printed form
unfoldable pub relined : Circuit → Circuit
relined c = record { line = 1; name = c.name; modules = (in_turn (map module_placed c.modules) 2).0 }

-- ---- circuits without their lines

abbrev pub unlined_level : Stmt-F Stmt → Stmt
unlined_level (Wire _ name ty) = stmt.Wire 0 name ty
unlined_level (Node _ name value) = stmt.Node 0 name value
unlined_level (Reg _ name ty clock reset) = stmt.Reg 0 name ty clock reset
unlined_level (Inst _ name target) = stmt.Inst 0 name target
unlined_level (Connect _ sink value) = stmt.Connect 0 sink value
unlined_level (Invalid _ sink) = stmt.Invalid 0 sink
unlined_level (When _ cond taken other) = stmt.When 0 cond taken other
unlined_level (Skip _) = stmt.Skip 0
unlined_level (Verif _ kind args code text label) = stmt.Verif 0 kind args code text label

abbrev pub stmt_unlined : Stmt → Stmt
stmt_unlined = fold-Stmt Stmt unlined_level

abbrev pub port_unlined : Port → Port
port_unlined p = record { line = 0; output = p.output; name = p.name; ty = p.ty }

abbrev pub module_unlined : Module → Module
module_unlined m = record { line = 0; name = m.name; ports = map port_unlined m.ports; body = map stmt_unlined m.body }

abbrev pub unlined : Circuit → Circuit
unlined c = record { line = 0; name = c.name; modules = map module_unlined c.modules }

-- equal but for their lines
unfoldable pub SameButLines : Circuit → Circuit → Type 0
SameButLines c d = unlined c ≡ unlined d
