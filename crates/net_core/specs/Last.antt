-- Connects: the last one that holds, what a sink reads, and whether each branch has one.
use Rattle.std.specs.Prelude.{ℕ, Bool, false, Option, Some, None, List, ◌||◌, ◌&&◌, nat_eq, if◌then◌else◌}
use Rattle.tb_base.specs.Word.{Word}
use Rattle.tb_base.specs.Row.{no_word}
use Rattle.net_core.specs.declared.tree.SignalInfo.{SignalInfo}
use Rattle.net_core.specs.declared.tree.GroundExpr.{GroundExpr}
use Rattle.net_core.specs.declared.tree.GroundReset.{GroundReset}
use Rattle.net_core.specs.Values.{value, mentions}
use Rattle.net_core.specs.Body.{Body, done, declare, set, when}

abbrev pub or_else : {A : Type 0} → Option A → Option A → Option A
or_else None b = b
or_else (Some a) b = Some a

-- the statements behind the declaration of x, in its block: there the conditions of x's connects begin
abbrev pub home : ℕ → Body → Option Body
home x done = None
home x (declare y line reset rest) = if nat_eq x y then Some rest else home x rest
home x (set line y e rest) = home x rest
home x (when line c taken other rest) = or_else (home x taken) (or_else (home x other) (home x rest))

abbrev pub own : ℕ → Body → Body
own x b = elim (home x b) [ None ↦ done | Some r ↦ r ]

-- the reset of the register x
abbrev pub reset_of : ℕ → Body → Option GroundReset
reset_of x done = None
reset_of x (declare y line reset rest) = if nat_eq x y then reset else reset_of x rest
reset_of x (set line y e rest) = reset_of x rest
reset_of x (when line c taken other rest) = or_else (reset_of x taken) (or_else (reset_of x other) (reset_of x rest))

-- an invalidation gives 0
abbrev pub source : List SignalInfo → Option GroundExpr → (ℕ → ℕ) → Word
source signals None V = no_word
source signals (Some e) V = value signals e V

abbrev pub source_mentions : Option GroundExpr → ℕ → Bool
source_mentions None y = false
source_mentions (Some e) y = mentions e y

abbrev pub holds : List SignalInfo → GroundExpr → (ℕ → ℕ) → Bool
holds signals c V = nat_eq (value signals c V).raw 1

-- the value of the last connect to x whose conditions hold under V, or what was before
abbrev pub last : List SignalInfo → (ℕ → ℕ) → ℕ → Body → Option Word → Option Word
last signals V x done before = before
last signals V x (declare y line reset rest) before = last signals V x rest before
last signals V x (set line y e rest) before =
    last signals V x rest (if nat_eq x y then Some (source signals e V) else before)
last signals V x (when line c taken other rest) before =
    last signals V x rest (if holds signals c V then last signals V x taken before else last signals V x other before)

-- a connect to x, or an invalidation of it, at any depth
abbrev pub sinks : ℕ → Body → Bool
sinks x done = false
sinks x (declare y line reset rest) = sinks x rest
sinks x (set line y e rest) = nat_eq x y || sinks x rest
sinks x (when line c taken other rest) = sinks x taken || sinks x other || sinks x rest

-- does x read y, where `before` says whether it read it so far
abbrev pub reads : ℕ → ℕ → Body → Bool → Bool
reads x y done before = before
reads x y (declare z line reset rest) before = reads x y rest before
reads x y (set line z e rest) before = reads x y rest (if nat_eq x z then source_mentions e y else before)
reads x y (when line c taken other rest) before =
    reads x y rest (if sinks x taken || sinks x other
    then mentions c y || (reads x y taken before || reads x y other before)
    else before)

-- each branch connects or invalidates x
abbrev pub initialised : ℕ → Body → Bool → Bool
initialised x done before = before
initialised x (declare y line reset rest) before = initialised x rest before
initialised x (set line y e rest) before = initialised x rest (nat_eq x y || before)
initialised x (when line c taken other rest) before =
    initialised x rest (initialised x taken before && initialised x other before)
