-- Worked examples: a queue of two places, elaborated.
use Rattle.std.specs.Prelude.{ℕ, ◌≡◌, false, None, Some, List, [], ◌∷◌, codes, length, count_by}
use Rattle.tb_base.specs.declared.op.Op.{Op}
use Rattle.tb_base.specs.declared.op.Op.TheVariants.{Add, Eq, And, Sub, Tail}
use Rattle.net_core.specs.declared.tree.Role.{Role}
use Rattle.net_core.specs.declared.tree.Role.TheVariants.{Input, Output, Node, Reg}
use Rattle.net_core.specs.declared.tree.SignalInfo.{SignalInfo}
use Rattle.net_core.specs.declared.tree.GroundExpr.{GroundExpr}
use Rattle.net_core.specs.declared.tree.GroundExpr.TheVariants.{Lit, Apply}
use Rattle.net_core.specs.declared.tree.Ground.{Ground}
use Rattle.net_core.specs.declared.tree.Ground.TheVariants.{Declare, Set, When}
use Rattle.net_core.specs.declared.tree.Elab.{Elab}
use Rattle.net_core.specs.Signals.{is_port, is_register}
use Rattle.net_core.specs.Formed.{Formed, Sized, with_widths}
use Rattle.net_core.specs.Depends.{NoLoop}
use Rattle.net_core.specs.Examples.{s, r, uint}

abbrev pub two_bits : ℕ → GroundExpr
two_bits n = Lit false (Some 2) false n

abbrev pub of_two : Op → GroundExpr → GroundExpr → GroundExpr
of_two op x y = Apply op (x ∷ y ∷ []) []

abbrev pub drop_carry : ℕ → GroundExpr
drop_carry x = Apply Tail (r x ∷ []) (1 ∷ [])

abbrev pub gets : ℕ → ℕ → GroundExpr → Ground
gets line x e = Set line (s x) (Some e)

abbrev pub port : List ℕ → Role → ℕ → ℕ → SignalInfo
port name role width line = uint name role (Some width) line

abbrev pub node : List ℕ → ℕ → SignalInfo
node name line = uint name Node None line

-- a reset, and the ground parts of two sides with `ready`, `valid` and `bits`
abbrev pub queue_ports : List SignalInfo → List SignalInfo
queue_ports rest =
    port (codes "reset") Input 1 5
    ∷ port (codes "io.enq.ready") Output 1 6 ∷ port (codes "io.enq.valid") Input 1 6 ∷ port (codes "io.enq.bits") Input 8 6
    ∷ port (codes "io.deq.ready") Input 1 6 ∷ port (codes "io.deq.valid") Output 1 6 ∷ port (codes "io.deq.bits") Output 8 6 ∷ rest

abbrev pub queue_signals : List SignalInfo
queue_signals =
    queue_ports (port (codes "count") Reg 2 8 ∷ port (codes "r0") Reg 8 9 ∷ port (codes "r1") Reg 8 10
    ∷ node (codes "full") 11 ∷ node (codes "empty") 12 ∷ node (codes "do_enq") 13 ∷ node (codes "do_deq") 14 ∷ node (codes "here") 21
    ∷ node (codes "_up_T") 26 ∷ node (codes "up") 27 ∷ node (codes "_next_T") 28 ∷ node (codes "next") 29 ∷ [])

-- a node and its expression
abbrev pub named : ℕ → ℕ → GroundExpr → List Ground → List Ground
named line x e rest = Declare (s x) line None ∷ gets line x e ∷ rest

-- the places of an element that comes in: in front, or behind the other one
abbrev pub takes_in : List Ground
takes_in = named 21 14 (of_two Eq (r 7) (r 13)) (When 22 (r 14) (gets 23 8 (r 3) ∷ []) (gets 25 9 (r 3) ∷ []) ∷ [])

-- what counts the elements
abbrev pub counts : List Ground
counts = named 26 15 (of_two Add (r 7) (r 12)) (named 27 16 (drop_carry 15)
    (named 28 17 (of_two Sub (r 16) (r 13)) (named 29 18 (drop_carry 17) (gets 30 7 (r 18) ∷ []))))

abbrev pub queue_rest : List Ground
queue_rest =
    Declare (s 7) 8 (Some (record { signal = r 0; init = two_bits 0 })) ∷ Declare (s 8) 9 None ∷ Declare (s 9) 10 None
    ∷ named 11 10 (of_two Eq (r 7) (two_bits 2)) (named 12 11 (of_two Eq (r 7) (two_bits 0))
    (named 13 12 (of_two And (r 1) (r 2)) (named 14 13 (of_two And (r 4) (r 5))
    (gets 15 1 (of_two Eq (r 10) (two_bits 0)) ∷ gets 16 5 (of_two Eq (r 11) (two_bits 0)) ∷ gets 17 6 (r 8)
    ∷ When 18 (r 13) (gets 19 8 (r 9) ∷ []) [] ∷ When 20 (r 12) takes_in [] ∷ counts))))

abbrev pub queue : Elab
queue = record {
  name = codes "M";
  signals = queue_signals;
  body = Declare (s 0) 5 None ∷ Declare (s 1) 6 None ∷ Declare (s 2) 6 None ∷ Declare (s 3) 6 None ∷ Declare (s 4) 6 None
      ∷ Declare (s 5) 6 None ∷ Declare (s 6) 6 None ∷ queue_rest;
}

-- a comparison or an `and` has one bit, a sum or a difference one more than the count, which drops it again
abbrev pub queue_widths : List ℕ
queue_widths = 1 ∷ 1 ∷ 1 ∷ 8 ∷ 1 ∷ 1 ∷ 8 ∷ 2 ∷ 8 ∷ 8 ∷ 1 ∷ 1 ∷ 1 ∷ 1 ∷ 1 ∷ 3 ∷ 2 ∷ 3 ∷ 2 ∷ []

pub record QueueExamples : Type 0 where
  pub its_ports : count_by (λ i. is_port i.role) queue.signals ≡ 7
  pub its_signals : length queue.signals ≡ 19
  pub its_registers : count_by (λ i. is_register i.role) queue.signals ≡ 3
  pub formed : Formed queue
  -- with its nodes' widths it is sized
  pub sized : Sized (with_widths queue queue_widths)
  pub no_loop : NoLoop queue
