-- Worked examples: shapes of types, and circuits and statements that break rules, most of them one alone.
use Rattle.std.specs.Prelude.{ℕ, ◌≡◌, false, true, Option, Some, None, List, [], ◌∷◌, codes}
use Rattle.fir_ast.specs.declared.tree.Ty.{Ty}
use Rattle.fir_ast.specs.declared.tree.Ty.TheVariants.{UInt, SInt, Clock, Reset, Bundle, Vector}
use Rattle.fir_ast.specs.declared.tree.Ty.TheViews.{roll-Field}
use Rattle.fir_ast.specs.declared.tree.Field.{Field}
use Rattle.fir_ast.specs.declared.tree.Expr.{Expr}
use Rattle.fir_ast.specs.declared.tree.Expr.TheVariants.{Ident, Lit}
use Rattle.fir_ast.specs.declared.tree.Expr.TheOpen as level
use Rattle.tb_base.specs.declared.op.Op.TheVariants.{Add, Not, Dshl, Mux}
use Rattle.fir_ast.specs.declared.tree.VerifKind.TheVariants.{Printf, Assert}
use Rattle.fir_ast.specs.declared.tree.Stmt.{Stmt}
use Rattle.fir_ast.specs.declared.tree.Stmt.TheVariants.{Wire, Node, Inst, Connect, Invalid, When, Skip}
use Rattle.fir_ast.specs.declared.tree.Stmt.TheOpen as at
use Rattle.fir_ast.specs.declared.tree.Port.{Port}
use Rattle.fir_ast.specs.declared.tree.Module.{Module}
use Rattle.fir_ast.specs.declared.tree.Circuit.{Circuit}
use Rattle.fir_check.specs.declared.thing.Flow.TheVariants.{Source}
use Rattle.fir_check.specs.Scopes.{Known, Thing, thing, fresh, hidden, free_known}
use Rattle.fir_check.specs.declared.best.Rule.TheVariants.{NoMain, DoubleName, UnknownName, WrongKind, ClockUse}
use Rattle.fir_check.specs.Rules.{double_name_lines, unknown_name_lines, instance_cycle_lines, wrong_kind_lines, wrong_flow_lines, clock_use_lines, unknown_at, wrong_at, flow_at, clock_at, unknown_level, wrong_level, clock_level, fails, wrong_pair, wrong_verif, circuit_rule}
use Rattle.fir_check.specs.Types.{is_clock, same_shape, has_flip, holds_clock, repeats_field}

abbrev plain : List ℕ → Ty → Field
plain name ty = roll-Field (record { flip = false; name = name; ty = ty })

abbrev flipped : List ℕ → Ty → Field
flipped name ty = roll-Field (record { flip = true; name = name; ty = ty })

abbrev a_b : Ty
a_b = Bundle (plain (codes "a") (UInt (Some 8)) ∷ flipped (codes "b") (SInt None) ∷ [])

abbrev b_a : Ty
b_a = Bundle (flipped (codes "b") (SInt (Some 3)) ∷ plain (codes "a") Reset ∷ [])

pub record ShapeExamples : Type 0 where
  -- fields in another order, other widths, a Reset for a UInt
  pub any_order : same_shape a_b b_a ≡ true
  pub fewer_fields : same_shape a_b (Bundle (plain (codes "a") (UInt None) ∷ [])) ≡ false
  pub other_flip : same_shape (Bundle (plain (codes "a") Reset ∷ [])) (Bundle (flipped (codes "a") Reset ∷ [])) ≡ false
  pub other_sign : same_shape (UInt (Some 1)) (SInt (Some 1)) ≡ false
  pub other_length : same_shape (Vector (UInt None) 3) (Vector (UInt None) 4) ≡ false
  pub empty_vectors : same_shape (Vector (UInt None) 0) (Vector (SInt None) 0) ≡ false
  pub flip_inside : has_flip (Vector a_b 2) ≡ true
  pub clock_inside : holds_clock (Vector (Bundle (plain (codes "c") Clock ∷ [])) 2) ≡ true
  pub twice : repeats_field (Bundle (plain (codes "a") Reset ∷ plain (codes "a") Reset ∷ [])) ≡ true

-- circuits: names are single letters, the main module is M, and lines are as in a text

abbrev a : Expr
a = Ident (codes "a")

abbrev c : Expr
c = Ident (codes "c")

abbrev w : Expr
w = Ident (codes "w")

abbrev u8 : Ty
u8 = UInt (Some 8)

abbrev bit : Ty
bit = UInt (Some 1)

abbrev input : ℕ → List ℕ → Ty → Port
input line name ty = record { line = line; output = false; name = name; ty = ty }

abbrev output : ℕ → List ℕ → Ty → Port
output line name ty = record { line = line; output = true; name = name; ty = ty }

abbrev module_at : ℕ → List ℕ → List Port → List Stmt → Module
module_at line name ports body = record { line = line; name = name; ports = ports; body = body }

abbrev circuit : List Module → Circuit
circuit modules = record { line = 1; name = codes "M"; modules = modules }

-- a main module with a clock `c` in line 3, an input `a` of one bit in line 4, and a body that begins in line 5
abbrev alone : List Stmt → Circuit
alone body = circuit (module_at 2 (codes "M") (input 3 (codes "c") Clock ∷ input 4 (codes "a") bit ∷ []) body ∷ [])

-- a main module that has these ports and does nothing
abbrev of_ports : List Port → Circuit
of_ports ports = circuit (module_at 2 (codes "M") ports [] ∷ [])

abbrev empty : Module
empty = module_at 2 (codes "M") [] []

-- a second module `N` with a clock in line 21, and a body
abbrev beside : List Stmt → List Stmt → Circuit
beside body inner =
    circuit (module_at 2 (codes "M") (input 3 (codes "c") Clock ∷ input 4 (codes "a") bit ∷ []) body
    ∷ module_at 20 (codes "N") (input 21 (codes "c") Clock ∷ []) inner ∷ [])

-- what a statement sees: an input `a`, a clock `c`, a wire `w`, and a wire `v` whose block has ended
abbrev here : List Known
here =
    fresh (codes "a") (Some (thing bit Source)) ∷ fresh (codes "c") (Some (thing Clock Source)) ∷ free_known (codes "w") (SInt None)
    ∷ hidden (free_known (codes "v") u8) ∷ []

pub record CircuitExamples : Type 0 where
  pub no_main : circuit_rule (circuit (module_at 2 (codes "N") [] [] ∷ [])) ≡ Some (NoMain, 1)
  pub module_twice : circuit_rule (circuit (module_at 2 (codes "M") [] [] ∷ module_at 3 (codes "M") [] [] ∷ [])) ≡ Some (DoubleName, 3)
  pub port_twice : circuit_rule (of_ports (input 3 (codes "a") bit ∷ input 4 (codes "a") bit ∷ [])) ≡ Some (DoubleName, 4)
  pub unsized_input : circuit_rule (of_ports (output 3 (codes "y") (UInt None) ∷ input 4 (codes "x") (UInt None) ∷ [])) ≡ Some (WrongKind, 4)
  pub two_clocks : circuit_rule (of_ports (input 3 (codes "c") Clock ∷ input 4 (codes "d") Clock ∷ [])) ≡ Some (ClockUse, 4)
  pub output_clock : circuit_rule (of_ports (input 3 (codes "c") Clock ∷ output 4 (codes "d") Clock ∷ [])) ≡ Some (ClockUse, 4)
  -- the least line is answered, whatever the rule; on one line the first rule
  pub least_line : circuit_rule (of_ports (output 3 (codes "a") Clock ∷ input 4 (codes "a") bit ∷ [])) ≡ Some (ClockUse, 3)
  pub first_rule : circuit_rule (of_ports (input 3 (codes "c") Clock ∷ input 4 (codes "c") Clock ∷ [])) ≡ Some (DoubleName, 4)
  -- a name of a block that has ended is taken all the same
  pub name_twice : double_name_lines (alone (When 5 a (Wire 6 (codes "w") u8 ∷ []) [] ∷ Wire 7 (codes "w") u8 ∷ [])) ≡ 7 ∷ []
  pub no_module : unknown_name_lines (alone (Skip 5 ∷ Inst 6 (codes "q") (codes "N") ∷ [])) ≡ 6 ∷ []
  -- the instance in line 5 leads to the cycle and lies on none
  pub cycle : instance_cycle_lines (beside (Inst 5 (codes "q") (codes "N") ∷ []) (Inst 22 (codes "q") (codes "N") ∷ [])) ≡ 22 ∷ []

pub record StatementExamples : Type 0 where
  pub name_seen : unknown_at [] here (at.Invalid 7 w) ≡ false
  pub behind_its_block : unknown_at [] here (at.Invalid 7 (Ident (codes "v"))) ≡ true
  pub signed_condition : wrong_at [] here (at.When 6 w [] []) ≡ true
  pub other_shape : wrong_at [] here (at.Connect 6 w a) ≡ true
  pub input_driven : flow_at here (at.Connect 6 a (Lit false None false 1)) ≡ true
  pub wire_driven : flow_at here (at.Connect 6 w (Lit true None false 1)) ≡ false
  pub clock_copied : clock_at [] empty here (at.Node 6 (codes "n") c) ≡ true

pub record LineExamples : Type 0 where
  pub all_kept : circuit_rule (alone []) ≡ None
  pub field_twice : circuit_rule (of_ports (input 3 (codes "c") Clock ∷ input 4 (codes "b") (Bundle (plain (codes "x") u8 ∷ plain (codes "x") u8 ∷ [])) ∷ [])) ≡ Some (DoubleName, 4)
  -- a name isn't known behind its block
  pub hidden_name : unknown_name_lines (alone (When 5 a (Wire 6 (codes "w") u8 ∷ []) [] ∷ Invalid 7 w ∷ [])) ≡ 7 ∷ []
  pub signed_condition : wrong_kind_lines (alone (Wire 5 (codes "w") (SInt (Some 1)) ∷ When 6 w [] [] ∷ [])) ≡ 6 ∷ []
  pub input_driven : wrong_flow_lines (alone (Skip 5 ∷ Connect 6 a (Lit false None false 1) ∷ [])) ≡ 6 ∷ []
  pub clock_copied : clock_use_lines (alone (Skip 5 ∷ Node 6 (codes "n") c ∷ [])) ≡ 6 ∷ []
  -- the flipped part of an output goes in, so a connect from the output must not drive it
  pub source_driven :
      wrong_flow_lines (circuit (module_at 2 (codes "M") (output 3 (codes "y") b_a ∷ []) (Wire 4 (codes "w") b_a ∷ Connect 5 w (Ident (codes "y")) ∷ []) ∷ []))
      ≡ 5 ∷ []
  pub clock_missing : clock_use_lines (beside (Inst 6 (codes "q") (codes "N") ∷ []) []) ≡ 6 ∷ []
  -- on one line an unknown name is answered before a wrong flow
  pub unknown_first : circuit_rule (alone (Skip 5 ∷ Connect 6 a (Ident (codes "y")) ∷ [])) ≡ Some (UnknownName, 6)

-- what stands for an operand: a UInt, an SInt, a Clock, and a bundle with a flip
abbrev unsigned_one : Option Thing
unsigned_one = Some (thing bit Source)

abbrev signed_one : Option Thing
signed_one = Some (thing (SInt None) Source)

abbrev clock_one : Option Thing
clock_one = Some (thing Clock Source)

abbrev flip_one : Option Thing
flip_one = Some (thing a_b Source)

pub record OperandExamples : Type 0 where
  pub mixed_signs : wrong_level here (level.Apply Add (unsigned_one ∷ signed_one ∷ []) []) ≡ true
  pub one_sign : wrong_level here (level.Apply Add (signed_one ∷ signed_one ∷ []) []) ≡ false
  pub one_unknown : wrong_level here (level.Apply Add (signed_one ∷ None ∷ []) []) ≡ false
  pub clock_operand : wrong_level here (level.Apply Not (clock_one ∷ []) []) ≡ true
  pub signed_amount : wrong_level here (level.Apply Dshl (unsigned_one ∷ signed_one ∷ []) []) ≡ true
  pub signed_shifted : wrong_level here (level.Apply Dshl (signed_one ∷ unsigned_one ∷ []) []) ≡ false
  pub other_branches : wrong_level here (level.Apply Mux (unsigned_one ∷ unsigned_one ∷ signed_one ∷ []) []) ≡ true
  pub same_branches : wrong_level here (level.Apply Mux (unsigned_one ∷ signed_one ∷ signed_one ∷ []) []) ≡ false
  pub signed_choice : wrong_level here (level.Apply Mux (signed_one ∷ unsigned_one ∷ unsigned_one ∷ []) []) ≡ true
  pub flipped_branches : wrong_level here (level.Apply Mux (unsigned_one ∷ flip_one ∷ flip_one ∷ []) []) ≡ true
  pub clock_branches : clock_level here (level.Apply Mux (unsigned_one ∷ clock_one ∷ clock_one ∷ []) []) ≡ true
  pub clock_choice : clock_level here (level.Apply Mux (clock_one ∷ unsigned_one ∷ unsigned_one ∷ []) []) ≡ false
  pub index_within : wrong_level here (level.At (Some (thing (Vector bit 3) Source)) 2) ≡ false
  pub index_past : wrong_level here (level.At (Some (thing (Vector bit 3) Source)) 3) ≡ true
  pub field_of_none : wrong_level here (level.Part unsigned_one (codes "f")) ≡ true
  pub field_missing : unknown_level here (level.Part flip_one (codes "f")) ≡ true
  pub field_there : unknown_level here (level.Part flip_one (codes "b")) ≡ false
  pub reset_index : wrong_level here (level.Index (Some (thing (Vector bit 3) Source)) (Some (thing Reset Source))) ≡ true

pub record RegisterExamples : Type 0 where
  -- a register's clock is a Clock
  pub unsigned_clock : fails (λ t. is_clock t.ty) unsigned_one ≡ true
  pub clock_kept : fails (λ t. is_clock t.ty) clock_one ≡ false
  -- a reset's signal, then its initial value
  pub signed_reset : wrong_pair bit signed_one unsigned_one ≡ true
  pub other_init : wrong_pair bit unsigned_one signed_one ≡ true
  pub reset_kept : wrong_pair bit (Some (thing Reset Source)) unsigned_one ≡ false
  -- what is printed may be signed, a condition may not
  pub printed : wrong_verif Printf (clock_one ∷ unsigned_one ∷ signed_one ∷ []) ≡ false
  pub signed_enable : wrong_verif Assert (clock_one ∷ unsigned_one ∷ signed_one ∷ []) ≡ true
  pub bundle_printed : wrong_verif Printf (clock_one ∷ unsigned_one ∷ flip_one ∷ []) ≡ true
