-- What is counted of a module's body, statement by statement.
use Rattle.std.specs.Prelude.{ℕ, ◌≡◌, ◌+◌, List, ◌++◌, length, take}
use Rattle.fir_ast.specs.declared.tree.Module.{Module}
use Rattle.fir_flat.specs.declared.kinds.Known.{Known}
use Rattle.fir_flat.specs.declared.own.Tally.{Tally}
use Rattle.fir_flat.specs.Bodies.{Body}
use Rattle.fir_flat.specs.Values.{Bound}
use Rattle.fir_flat.specs.Modules.{taken_up, targets}
use Rattle.fir_flat.specs.Measures.{body_weight}
use Rattle.fir_flat.specs.Counts.{cut}
use Rattle.fir_flat.specs.Kinds.{seen}

-- the signals that a body itself declares
abbrev pub declared_in : List Module → List Bound → Body → ℕ
declared_in = taken_up (λ target. 0)

-- one statement in front of a rest: what is counted so far and what is still to be counted stay the same in sum
pub record Moves (modules : List Module) (statement : Body → Body) (known after : List Known) (t u : Tally) : Type 0 where
  pub signals : (rest : Body) → cut (t.signals + declared_in modules (seen known) (statement rest)) ≡ cut (u.signals + declared_in modules (seen after) rest)
  pub parts : (rest : Body) → cut (t.parts + body_weight modules (seen known) (statement rest)) ≡ cut (u.parts + body_weight modules (seen after) rest)
  pub targets : (rest : Body) → t.instances.items ++ targets modules (statement rest) ≡ u.instances.items ++ targets modules rest
  pub kept : take (length known) after ≡ known

-- a whole block
pub record Tallies (modules : List Module) (body : Body) (known : List Known) (t u : Tally) : Type 0 where
  pub signals : cut (t.signals + declared_in modules (seen known) body) ≡ cut u.signals
  pub parts : cut (t.parts + body_weight modules (seen known) body) ≡ cut u.parts
  pub targets : t.instances.items ++ targets modules body ≡ u.instances.items

-- what the loop of a block keeps: the rest counts as much as is left
pub record Counts (modules : List Module) (whole left : Body) (known now : List Known) (t u : Tally) : Type 0 where
  pub signals : cut (t.signals + declared_in modules (seen known) whole) ≡ cut (u.signals + declared_in modules (seen now) left)
  pub parts : cut (t.parts + body_weight modules (seen known) whole) ≡ cut (u.parts + body_weight modules (seen now) left)
  pub targets : t.instances.items ++ targets modules whole ≡ u.instances.items ++ targets modules left
  pub kept : take (length known) now ≡ known
