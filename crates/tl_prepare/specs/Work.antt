-- What contracts see of a prepared action.
use Rattle.std.specs.Prelude.{List, Option}
use Rattle.tl_code.specs.declared.state.ThreadState.{ThreadState}
use Rattle.tl_code.specs.declared.state.Fetched.{Fetched}
use Rattle.tl_prepare.specs.declared.act.Act.{Act}

pub record Work : Type 0 where
  pub from : ThreadState
  pub act : Act
  pub next : ThreadState
  pub child : Option ThreadState
  pub fetched : List Fetched
