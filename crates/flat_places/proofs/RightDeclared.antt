-- What is right of each declaration.
use Rattle.std.specs.Prelude.{◌≡◌, ◌<◌, true, List, length, is_some}
use Rattle.std.specs.List.{All}
use Rattle.net_core.specs.declared.tree.SignalInfo.{SignalInfo}
use Rattle.net_core.specs.declared.tree.Ground.{Ground}
use Rattle.net_core.specs.Signals.{info, is_register}
use Rattle.net_core.specs.Body.{body_of}
use Rattle.net_core.specs.Formed.{Declared, declares, nodes_follow}

-- the signal is there, the declaration has its line, and only a register has a reset
pub record IsRight (signals : List SignalInfo) (d : Declared) : Type 0 where
  pub below : d.signal < length signals
  pub line : d.line ≡ (info signals d.signal).line
  pub reset : is_some d.reset ≡ true → is_register (info signals d.signal).role ≡ true

-- statements whose declarations are right, each node's with its expression behind it
pub record Declares (signals : List SignalInfo) (gs : List Ground) : Type 0 where
  pub right : All (IsRight signals) (declares (body_of gs))
  pub nodes : nodes_follow signals (body_of gs) ≡ true
