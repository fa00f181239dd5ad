-- The rules of a test, each as what a statement breaks it by.
use Rattle.std.specs.Prelude.{ℕ, Bool, true, false, not, ◌&&◌, ◌||◌, nat_eq, Option, Some, None, List, [], ◌∷◌, find, codes}
use Rattle.std.specs.List.{list_any}
use Rattle.tb_base.specs.declared.path.Region.{Region}
use Rattle.net_core.specs.declared.ports.PortInfo.{PortInfo}
use Rattle.net_core.specs.Ports.{port_named}
use Rattle.tl_ast.specs.declared.tree.TestExpr.{TestExpr}
use Rattle.tl_ast.specs.declared.tree.TestStmt.TheOpen.{TestStmt-F, Poke, Peek, Expect, Step, Let, Set, If, While, Repeat, Fork, Join, JoinStep, Driver, ResetFor}
use Rattle.tl_check.specs.declared.rule.Rule.{Rule}
use Rattle.tl_check.specs.declared.rule.Rule.TheVariants.{UnknownPort, PokeOutput, LiteralTooWide, UnknownVariable, UnknownHandle, TooManyNames, JoinLaterRegion, ForkEarlierRegion, NotReadyValid, StepZero}
use Rattle.tl_check.specs.Scopes.{Known, handle_named, is_handle, one_variable_more, one_handle_more, is_monitor}
use Rattle.tl_check.specs.Values.{some_too_wide, uses_unknown, sets_unknown, is_missing, is_bit, goes, bits_port, is_ready_valid}

-- where a statement stands: the ports, the region of its thread, and what is known in front of it
pub record Here : Type 0 where
  pub ports : List (List ℕ × PortInfo)
  pub region : Region
  pub known : Known

abbrev pub port_here : Here → List ℕ → Option PortInfo
port_here h name = port_named name h.ports

-- the port isn't in the table; or a reset has no 1-bit UInt input `reset`
abbrev pub unknown_port : {A : Type 0} → Here → TestStmt-F A → Bool
unknown_port h (Poke _ port _) = is_missing (port_here h port)
unknown_port h (Peek _ port _) = is_missing (port_here h port)
unknown_port h (Expect _ port _) = is_missing (port_here h port)
unknown_port h (ResetFor _ _) = not (is_bit true (port_here h (codes "reset")))
unknown_port h _ = false

-- a poke of a port that isn't an input
abbrev pub poke_output : {A : Type 0} → Here → TestStmt-F A → Bool
poke_output h (Poke _ port _) = goes false (port_here h port)
poke_output h _ = false

-- a value that the port can't hold
abbrev pub too_wide : {A : Type 0} → Here → TestStmt-F A → Bool
too_wide h (Poke _ port value) = some_too_wide (port_here h port) (value ∷ [])
too_wide h (Expect _ port value) = some_too_wide (port_here h port) (value ∷ [])
too_wide h (Driver _ _ port values) = some_too_wide (port_here h (bits_port port)) values
too_wide h _ = false

-- the expressions of a statement
abbrev pub exprs_of : {A : Type 0} → TestStmt-F A → List TestExpr
exprs_of (Poke _ _ value) = value ∷ []
exprs_of (Expect _ _ value) = value ∷ []
exprs_of (Let _ _ value) = value ∷ []
exprs_of (Set _ _ value) = value ∷ []
exprs_of (If _ cond _ _) = cond ∷ []
exprs_of (While _ cond _) = cond ∷ []
exprs_of (Repeat _ count _) = count ∷ []
exprs_of (Driver _ _ _ values) = values
exprs_of _ = []

-- the variable that a statement sets, which has to be known
abbrev pub set_by : {A : Type 0} → TestStmt-F A → Option (List ℕ)
set_by (Set _ name _) = Some name
set_by (Peek _ _ into) = into
set_by _ = None

-- a variable that isn't known
abbrev pub unknown_variable : {A : Type 0} → Here → TestStmt-F A → Bool
unknown_variable h s = list_any (uses_unknown h.known.variables) (exprs_of s) || sets_unknown h.known.variables (set_by s)

-- a join of a handle that isn't known
abbrev pub unknown_handle : {A : Type 0} → Here → TestStmt-F A → Bool
unknown_handle h (Join _ handle) = not (is_handle handle h.known.handles)
unknown_handle h (JoinStep _ handle) = not (is_handle handle h.known.handles)
unknown_handle h _ = false

-- one name too many becomes known
abbrev pub too_many_names : {A : Type 0} → Here → TestStmt-F A → Bool
too_many_names h (Let _ name _) = one_variable_more name h.known.variables
too_many_names h (Fork _ _ handle _) = one_handle_more handle h.known.handles
too_many_names h _ = false

-- whether the handle was given to a Monitor thread in its scope
abbrev pub watches : Option Bool → Bool
watches None = false
watches (Some gave) = gave

-- A Main thread joins a handle that some fork in its scope gave to a Monitor thread. A joinstep waits for an edge, and may.
abbrev pub join_later : {A : Type 0} → Here → TestStmt-F A → Bool
join_later h (Join _ handle) = not (is_monitor h.region) && watches (handle_named handle h.known.handles)
join_later h _ = false

abbrev pub writes_main : Option Region → Bool
writes_main None = false
writes_main (Some region) = not (is_monitor region)

-- `fork main` in a Monitor thread
abbrev pub fork_earlier : {A : Type 0} → Here → TestStmt-F A → Bool
fork_earlier h (Fork _ written _ _) = writes_main written && is_monitor h.region
fork_earlier h _ = false

-- a driver of a port that isn't ready-valid
abbrev pub not_ready_valid : {A : Type 0} → Here → TestStmt-F A → Bool
not_ready_valid h (Driver _ kind port _) = not (is_ready_valid kind port h.ports)
not_ready_valid h _ = false

-- `step 0` or `reset 0`
abbrev pub step_zero : {A : Type 0} → Here → TestStmt-F A → Bool
step_zero h (Step _ count) = nat_eq count 0
step_zero h (ResetFor _ count) = nat_eq count 0
step_zero h _ = false

-- whether a statement breaks a rule
abbrev pub breaks : {A : Type 0} → Here → TestStmt-F A → Rule → Bool
breaks h s UnknownPort = unknown_port h s
breaks h s PokeOutput = poke_output h s
breaks h s LiteralTooWide = too_wide h s
breaks h s UnknownVariable = unknown_variable h s
breaks h s UnknownHandle = unknown_handle h s
breaks h s TooManyNames = too_many_names h s
breaks h s JoinLaterRegion = join_later h s
breaks h s ForkEarlierRegion = fork_earlier h s
breaks h s NotReadyValid = not_ready_valid h s
breaks h s StepZero = step_zero h s

-- the rules, in the order in which they are answered
abbrev pub all_rules : List Rule
all_rules =
    UnknownPort ∷ PokeOutput ∷ LiteralTooWide ∷ UnknownVariable ∷ UnknownHandle ∷ TooManyNames ∷ JoinLaterRegion ∷ ForkEarlierRegion
    ∷ NotReadyValid ∷ StepZero ∷ []

-- the first rule that a statement breaks, if it breaks one
abbrev pub first_broken : {A : Type 0} → Here → TestStmt-F A → Option Rule
first_broken h s = find (breaks h s) all_rules
