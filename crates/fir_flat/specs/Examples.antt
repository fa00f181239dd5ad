-- Worked examples: ground parts of types, and elaborations that a reader can follow.
use Rattle.std.specs.Prelude.{ℕ, ◌≡◌, Bool, false, true, Some, None, Option, List, [], ◌∷◌, codes, count_by}
use Rattle.tb_base.specs.declared.op.Op.{Op}
use Rattle.tb_base.specs.declared.op.Op.TheVariants.{Add, Eq, And, Sub, Tail}
use Rattle.net_core.specs.Signals.{is_register}
use Rattle.fir_ast.specs.declared.tree.Ty.{Ty}
use Rattle.fir_ast.specs.declared.tree.Ty.TheVariants.{UInt, SInt, Clock, Reset, Bundle, Vector}
use Rattle.fir_ast.specs.declared.tree.Ty.TheViews.{roll-Field}
use Rattle.fir_ast.specs.declared.tree.Field.{Field}
use Rattle.fir_ast.specs.declared.tree.Expr.{Expr}
use Rattle.fir_ast.specs.declared.tree.Expr.TheVariants.{Ident, Part, At, Index, Lit, Apply}
use Rattle.fir_ast.specs.declared.tree.Stmt.{Stmt}
use Rattle.fir_ast.specs.declared.tree.Stmt.TheVariants.{Wire, Node, Reg, Inst, Connect, Invalid, When, Skip}
use Rattle.fir_ast.specs.declared.tree.Port.{Port}
use Rattle.fir_ast.specs.declared.tree.Module.{Module}
use Rattle.fir_ast.specs.declared.tree.Circuit.{Circuit}
use Rattle.net_core.specs.declared.tree.Role.{Role}
use Rattle.net_core.specs.declared.tree.Role.TheVariants as role
use Rattle.net_core.specs.declared.tree.SignalInfo.{SignalInfo}
use Rattle.net_core.specs.declared.tree.GroundExpr.{GroundExpr}
use Rattle.net_core.specs.declared.tree.GroundExpr.TheVariants as to
use Rattle.net_core.specs.declared.tree.Ground.{Ground}
use Rattle.net_core.specs.declared.tree.Ground.TheVariants as out
use Rattle.fir_flat.specs.Shapes.{Leaf, shape_of, size, leaves, partners}
use Rattle.fir_flat.specs.Values.{signal}
use Rattle.fir_flat.specs.Limits.{signal_count, part_count}
use Rattle.fir_flat.specs.Elaboration.{elab, ports, signals, parts, declare}

abbrev plain : List ℕ → Ty → Field
plain name t = roll-Field (record { flip = false; name = name; ty = t })

abbrev flipped : List ℕ → Ty → Field
flipped name t = roll-Field (record { flip = true; name = name; ty = t })

abbrev pub u8 : Ty
u8 = UInt (Some 8)

abbrev pub bit : Ty
bit = UInt (Some 1)

-- `{ a : UInt<8>, flip b : SInt[2] }` and the same fields in the other order
abbrev pub a_b : Ty
a_b = Bundle (plain (codes "a") u8 ∷ flipped (codes "b") (Vector (SInt None) 2) ∷ [])

abbrev pub b_a : Ty
b_a = Bundle (flipped (codes "b") (Vector (SInt None) 2) ∷ plain (codes "a") Reset ∷ [])

abbrev leaf : List ℕ → Bool → Bool → Option ℕ → Leaf
leaf suffix against signed width = record { suffix = suffix; against = against; signed = signed; width = width }

pub record LeafExamples : Type 0 where
  pub of_bundle : leaves (shape_of a_b)
      ≡ leaf (codes ".a") false false (Some 8) ∷ leaf (codes ".b[0]") true true None ∷ leaf (codes ".b[1]") true true None ∷ []
  -- a flip in a flip goes along again; a Reset has one bit, a Clock no part
  pub flipped_twice : leaves (shape_of (Bundle (plain (codes "c") Clock ∷ flipped (codes "x") b_a ∷ [])))
      ≡ leaf (codes ".x.b[0]") false true None ∷ leaf (codes ".x.b[1]") false true None ∷ leaf (codes ".x.a") true false (Some 1) ∷ []
  pub of_vector : size (shape_of (Vector (Vector a_b 2) 3)) ≡ 18
  -- the counterparts of a, b[0], b[1] where b comes first
  pub other_order : partners (shape_of a_b) (shape_of b_a) ≡ 2 ∷ 0 ∷ 1 ∷ []

abbrev pub a : Expr
a = Ident (codes "a")

abbrev pub b : Expr
b = Ident (codes "b")

abbrev input : ℕ → List ℕ → Ty → Port
input line name t = record { line = line; output = false; name = name; ty = t }

abbrev output : ℕ → List ℕ → Ty → Port
output line name t = record { line = line; output = true; name = name; ty = t }

abbrev module_at : ℕ → List ℕ → List Port → List Stmt → Module
module_at line name ports body = record { line = line; name = name; ports = ports; body = body }

abbrev circuit : List Module → Circuit
circuit modules = record { line = 1; name = codes "M"; modules = modules }

-- a main module with ports in lines 3, 4, .. and a body
abbrev alone : List Port → List Stmt → Circuit
alone ports body = circuit (module_at 2 (codes "M") ports body ∷ [])

abbrev info : ℕ → List ℕ → Role → Bool → Option ℕ → SignalInfo
info line name kind signed width = record { name = name; role = kind; signed = signed; width = width; line = line }

abbrev plain_info : ℕ → List ℕ → Role → SignalInfo
plain_info line name kind = info line name kind false (Some 8)

abbrev pub declared : ℕ → ℕ → Ground
declared number line = declare number line None

abbrev pub read : ℕ → GroundExpr
read n = to.Read (signal n)

abbrev pub set : ℕ → ℕ → GroundExpr → Ground
set line n e = out.Set line (signal n) (Some e)

-- the sum of two inputs
abbrev adder : Circuit
adder =
    alone (input 3 (codes "a") u8 ∷ input 4 (codes "b") u8 ∷ output 5 (codes "sum") (UInt (Some 9)) ∷ [])
    (Connect 6 (Ident (codes "sum")) (Apply Add (a ∷ b ∷ []) []) ∷ [])

pub record AdderExamples : Type 0 where
  pub elaborated : elab adder ≡ record {
    name = codes "M";
    signals = plain_info 3 (codes "a") role.Input ∷ plain_info 4 (codes "b") role.Input
        ∷ info 5 (codes "sum") role.Output false (Some 9) ∷ [];
    body = declared 0 3 ∷ declared 1 4 ∷ declared 2 5 ∷ set 6 2 (to.Apply Add (read 0 ∷ read 1 ∷ []) []) ∷ [];
  }
  pub its_ports : ports adder ≡ 3
  pub its_signals : signals adder ≡ 3
  -- three declarations, a connect, a sum and its operands
  pub its_parts : parts adder ≡ 7
  -- the same, counted without building
  pub counted : signal_count adder ≡ 3
  pub weighed : part_count adder ≡ 7

-- a connect of bundles, whose flipped part is driven the other way round
abbrev turned_round : Circuit
turned_round = alone (output 3 (codes "x") a_b ∷ []) (Wire 4 (codes "w") b_a ∷ Connect 5 (Ident (codes "x")) (Ident (codes "w")) ∷ Invalid 6 (Ident (codes "x")) ∷ [])

pub record BundleExamples : Type 0 where
  pub names : (elab turned_round).signals
      ≡ plain_info 3 (codes "x.a") role.Output ∷ info 3 (codes "x.b[0]") role.Input true None ∷ info 3 (codes "x.b[1]") role.Input true None
      ∷ info 4 (codes "w.b[0]") role.Inner true None ∷ info 4 (codes "w.b[1]") role.Inner true None
      ∷ info 4 (codes "w.a") role.Inner false (Some 1) ∷ []
  -- an invalidation reaches the output part alone
  pub statements : (elab turned_round).body
      ≡ declared 0 3 ∷ declared 1 3 ∷ declared 2 3 ∷ declared 3 4 ∷ declared 4 4 ∷ declared 5 4
      ∷ set 5 0 (read 5) ∷ set 5 3 (read 1) ∷ set 5 4 (read 2) ∷ out.Set 6 (signal 0) None ∷ []

-- an instance inside a When, of a module with a wire
abbrev pub outer_body : List Stmt
outer_body =
    When 6 (Ident (codes "s"))
    (Inst 7 (codes "q") (codes "N") ∷ Connect 8 (Part (Ident (codes "q")) (codes "x")) a ∷ Connect 9 (Ident (codes "z")) (Part (Ident (codes "q")) (codes "y")) ∷ [])
    [] ∷ Node 10 (codes "n") a ∷ []

abbrev pub inner_body : List Stmt
inner_body = Wire 23 (codes "w") u8 ∷ Skip 24 ∷ Connect 25 (Ident (codes "w")) (Ident (codes "x")) ∷ Connect 26 (Ident (codes "y")) (Ident (codes "w")) ∷ []

abbrev pub nested : Circuit
nested =
    circuit (module_at 2 (codes "M") (input 3 (codes "a") u8 ∷ input 4 (codes "s") bit ∷ output 5 (codes "z") u8 ∷ []) outer_body
    ∷ module_at 20 (codes "N") (input 21 (codes "x") u8 ∷ output 22 (codes "y") u8 ∷ []) inner_body ∷ [])

-- the instance's input is declared at its place, its output and its body stand behind, outside of the When
abbrev pub nested_statements : List Ground
nested_statements =
    declared 0 3 ∷ declared 1 4 ∷ declared 2 5 ∷ out.When 6 (read 1) (declared 3 21 ∷ set 8 3 (read 0) ∷ set 9 2 (read 4) ∷ []) []
    ∷ declared 6 10 ∷ set 10 6 (read 0) ∷ declared 4 22 ∷ declared 5 23 ∷ set 25 5 (read 3) ∷ set 26 4 (read 5) ∷ []

pub record InstanceExamples : Type 0 where
  -- the instance's signals stand at its place
  pub names : (elab nested).signals
      ≡ plain_info 3 (codes "a") role.Input ∷ info 4 (codes "s") role.Input false (Some 1) ∷ plain_info 5 (codes "z") role.Output
      ∷ plain_info 21 (codes "q.x") role.Inner ∷ plain_info 22 (codes "q.y") role.Inner ∷ plain_info 23 (codes "q.w") role.Inner
      ∷ info 10 (codes "n") role.Node false None ∷ []
  pub statements : (elab nested).body ≡ nested_statements
  -- seven declarations, the instance, the When and its condition, five values and what they read
  pub its_parts : parts nested ≡ 20
  pub counted : signal_count nested ≡ 7
  pub weighed : part_count nested ≡ 20

abbrev pub two : Ty
two = Vector u8 2

abbrev pub i : Expr
i = Ident (codes "i")

abbrev pub y : Expr
y = Ident (codes "y")

abbrev pub either_input : GroundExpr
either_input = to.Select (read 2) (read 0 ∷ read 1 ∷ [])

-- computed indices: in a sink and its source, and into a vector of no elements
abbrev pub index_body : List Stmt
index_body =
    Connect 7 (Index (Ident (codes "w")) i) (Index (Ident (codes "v")) i) ∷ Wire 8 (codes "e") (Vector u8 0)
    ∷ Connect 9 y (Index (Ident (codes "e")) i) ∷ Connect 10 y (At (Ident (codes "v")) 1) ∷ []

abbrev pub with_index : Circuit
with_index = alone (input 3 (codes "v") two ∷ input 4 (codes "i") bit ∷ output 5 (codes "w") two ∷ output 6 (codes "y") u8 ∷ []) index_body

abbrev pub index_statements : List Ground
index_statements =
    declared 0 3 ∷ declared 1 3 ∷ declared 2 4 ∷ declared 3 5 ∷ declared 4 5 ∷ declared 5 6
    ∷ out.When 7 (to.IndexIs (read 2) 0) (set 7 3 either_input ∷ []) []
    ∷ out.When 7 (to.IndexIs (read 2) 1) (set 7 4 either_input ∷ []) []
    ∷ set 9 5 (to.Lit false (Some 0) false 0) ∷ set 10 5 (read 1) ∷ []

pub record IndexExamples : Type 0 where
  pub statements : (elab with_index).body ≡ index_statements
  -- copies of the value and of the index count
  pub its_parts : parts with_index ≡ 26
  pub weighed : part_count with_index ≡ 26

-- the ports of a queue's two sides, as a bundle
abbrev pub ready_valid : Ty
ready_valid = Bundle (flipped (codes "ready") bit ∷ plain (codes "valid") bit ∷ plain (codes "bits") u8 ∷ [])

abbrev pub two_bits : Ty
two_bits = UInt (Some 2)

abbrev pub clock : Expr
clock = Ident (codes "clock")

abbrev pub word : List ℕ → Expr
word name = Ident name

abbrev pub side : List ℕ → List ℕ → Expr
side name part = Part (Part (Ident (codes "io")) name) part

abbrev pub both : Op → Expr → Expr → Expr
both op x y = Apply op (x ∷ y ∷ []) []

abbrev pub count_of : ℕ → Expr
count_of n = Lit false (Some 2) false n

-- a queue of two places
abbrev pub queue_ports : List Port
queue_ports =
    input 4 (codes "clock") Clock ∷ input 5 (codes "reset") bit
    ∷ output 6 (codes "io") (Bundle (flipped (codes "enq") ready_valid ∷ plain (codes "deq") ready_valid ∷ [])) ∷ []

abbrev pub queue_body : List Stmt
queue_body =
    Reg 8 (codes "count") two_bits clock (Some (record { signal = word (codes "reset"); init = count_of 0 }))
    ∷ Reg 9 (codes "r0") u8 clock None ∷ Reg 10 (codes "r1") u8 clock None
    ∷ Node 11 (codes "full") (both Eq (word (codes "count")) (count_of 2))
    ∷ Node 12 (codes "empty") (both Eq (word (codes "count")) (count_of 0))
    ∷ Node 13 (codes "do_enq") (both And (side (codes "enq") (codes "ready")) (side (codes "enq") (codes "valid")))
    ∷ Node 14 (codes "do_deq") (both And (side (codes "deq") (codes "ready")) (side (codes "deq") (codes "valid")))
    ∷ Connect 15 (side (codes "enq") (codes "ready")) (both Eq (word (codes "full")) (count_of 0))
    ∷ Connect 16 (side (codes "deq") (codes "valid")) (both Eq (word (codes "empty")) (count_of 0))
    ∷ Connect 17 (side (codes "deq") (codes "bits")) (word (codes "r0"))
    ∷ When 18 (word (codes "do_deq")) (Connect 19 (word (codes "r0")) (word (codes "r1")) ∷ []) []
    ∷ When 20 (word (codes "do_enq"))
    (Node 21 (codes "here") (both Eq (word (codes "count")) (word (codes "do_deq")))
    ∷ When 22 (word (codes "here"))
    (Connect 23 (word (codes "r0")) (side (codes "enq") (codes "bits")) ∷ [])
    (Connect 25 (word (codes "r1")) (side (codes "enq") (codes "bits")) ∷ []) ∷ []) []
    ∷ Node 26 (codes "_up_T") (both Add (word (codes "count")) (word (codes "do_enq")))
    ∷ Node 27 (codes "up") (Apply Tail (word (codes "_up_T") ∷ []) (1 ∷ []))
    ∷ Node 28 (codes "_next_T") (both Sub (word (codes "up")) (word (codes "do_deq")))
    ∷ Node 29 (codes "next") (Apply Tail (word (codes "_next_T") ∷ []) (1 ∷ []))
    ∷ Connect 30 (word (codes "count")) (word (codes "next")) ∷ []

abbrev pub queue : Circuit
queue = alone queue_ports queue_body

pub record QueueExamples : Type 0 where
  pub its_ports : ports queue ≡ 7
  pub its_signals : signals queue ≡ 19
  pub its_registers : count_by (λ i. is_register i.role) (elab queue).signals ≡ 3
