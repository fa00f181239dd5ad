-- The parts of statements and the nodes of expressions, a variant at a time.
use Rattle.std.proofs.Common.{ℕ, Bool, Option, List, ◌+◌, ◌≡◌, sym, ap, ◌∙◌, map, sum}
use Rattle.tb_base.specs.declared.op.Op.{Op}
use Rattle.net_core.specs.declared.ports.Signal.{Signal}
use Rattle.net_core.specs.declared.tree.GroundReset.{GroundReset}
use Rattle.net_core.specs.declared.tree.GroundExpr.{GroundExpr}
use Rattle.net_core.specs.declared.tree.GroundExpr.TheVariants as to
use Rattle.net_core.specs.declared.tree.GroundExpr.TheVariants.{rolls-Read, rolls-Lit, rolls-Apply, rolls-Select, rolls-IndexIs}
use Rattle.net_core.specs.declared.tree.GroundExpr.TheFolds.{fold-roll-GroundExpr}
use Rattle.net_core.specs.declared.tree.GroundExpr.TheOpen.{GroundExpr-F}
use Rattle.net_core.specs.declared.tree.Ground.{Ground}
use Rattle.net_core.specs.declared.tree.Ground.TheVariants as out
use Rattle.net_core.specs.declared.tree.Ground.TheVariants.{rolls-Declare, rolls-Set, rolls-When}
use Rattle.net_core.specs.declared.tree.Ground.TheFolds.{fold-roll-Ground}
use Rattle.net_core.specs.declared.tree.Ground.TheOpen.{Ground-F}
use Rattle.fir_flat.specs.Elaboration.{node_level, nodes, part_level, statement_parts, reset_nodes, value_nodes}

pub nodes-Read : (s : Signal) → nodes (to.Read s) ≡ 1
nodes-Read s = ap nodes (sym (rolls-Read s)) ∙ fold-roll-GroundExpr ℕ node_level (GroundExpr-F.Read s)

pub nodes-Lit : (signed : Bool) (width : Option ℕ) (negative : Bool) (n : ℕ) → nodes (to.Lit signed width negative n) ≡ 1
nodes-Lit signed width negative n = ap nodes (sym (rolls-Lit signed width negative n)) ∙ fold-roll-GroundExpr ℕ node_level (GroundExpr-F.Lit signed width negative n)

pub nodes-Apply : (op : Op) (args : List GroundExpr) (nums : List ℕ) → nodes (to.Apply op args nums) ≡ 1 + sum (map nodes args)
nodes-Apply op args nums = ap nodes (sym (rolls-Apply op args nums)) ∙ fold-roll-GroundExpr ℕ node_level (GroundExpr-F.Apply op args nums)

pub nodes-Select : (index : GroundExpr) (items : List GroundExpr) → nodes (to.Select index items) ≡ 1 + nodes index + sum (map nodes items)
nodes-Select index items = ap nodes (sym (rolls-Select index items)) ∙ fold-roll-GroundExpr ℕ node_level (GroundExpr-F.Select index items)

pub nodes-IndexIs : (index : GroundExpr) (place : ℕ) → nodes (to.IndexIs index place) ≡ 1 + nodes index
nodes-IndexIs index place = ap nodes (sym (rolls-IndexIs index place)) ∙ fold-roll-GroundExpr ℕ node_level (GroundExpr-F.IndexIs index place)

pub parts-Declare : (s : Signal) (line : ℕ) (reset : Option GroundReset) → statement_parts (out.Declare s line reset) ≡ 1 + reset_nodes reset
parts-Declare s line reset = ap statement_parts (sym (rolls-Declare s line reset)) ∙ fold-roll-Ground ℕ part_level (Ground-F.Declare s line reset)

pub parts-Set : (line : ℕ) (s : Signal) (e : Option GroundExpr) → statement_parts (out.Set line s e) ≡ 1 + value_nodes e
parts-Set line s e = ap statement_parts (sym (rolls-Set line s e)) ∙ fold-roll-Ground ℕ part_level (Ground-F.Set line s e)

pub parts-When : (line : ℕ) (cond : GroundExpr) (taken other : List Ground)
    → statement_parts (out.When line cond taken other) ≡ 1 + nodes cond + sum (map statement_parts taken) + sum (map statement_parts other)
parts-When line cond taken other = ap statement_parts (sym (rolls-When line cond taken other)) ∙ fold-roll-Ground ℕ part_level (Ground-F.When line cond taken other)

pub ruleset weights = (nodes-Read, nodes-Lit, nodes-Apply, nodes-Select, nodes-IndexIs, parts-Declare, parts-Set, parts-When)
