-- The code of a test, and the states of threads that run it.
use Rattle.std.specs.Prelude.{◌≡◌, ℕ, ◌+◌, ◌*◌, ◌<◌, ◌≤◌, List, [], ◌∷◌, ◌++◌, length, map, reverse, Option, Some, None, option_map, slice_get, All, replicate}
use Rattle.tb_base.specs.declared.path.Region.TheVariants.{Main}
use Rattle.tl_check.specs.Checked.{TestFor}
use Rattle.tl_check.specs.Walk.{test_rule}
use Rattle.tl_threads.specs.declared.code.Placed.{Placed}
use Rattle.tl_threads.specs.Allowed.{most_vars, most_handles}
use Rattle.tl_threads.specs.Bodies.{Body, test_body}
use Rattle.tl_threads.specs.Code.{test_code}
use Rattle.tl_threads.specs.Machine.{Core}
use Rattle.tl_threads.specs.Stands.{Places, code_of}
use Rattle.tl_code.specs.declared.state.ThreadState.{ThreadState}
use Rattle.tl_code.specs.declared.state.Fetched.{Fetched}
use Rattle.tl_code.specs.Compiled.{Compiled}

-- the body of a code's test
abbrev pub body_of_code : Compiled → Body
body_of_code c = test_body c.test.ports c.test.test

-- what is placed where
abbrev pub places : Compiled → Places
places c pc = slice_get c.placed pc

-- IT IS THE CODE OF ITS TEST: the test keeps the rules for its ports, and there are as many slots as names are known at one place at most.
pub record IsCode (c : Compiled) : Type 0 where
  pub rule : test_rule c.test.test c.test.ports ≡ None
  pub laid : c.placed ≡ test_code (body_of_code c)
  pub variables : c.variables ≡ most_vars (body_of_code c) []
  pub handles : c.handles ≡ most_handles (body_of_code c) []
  pub few : length c.placed ≤ 5242881
  -- no place stands in more than eight forks
  pub shallow : (k : ℕ) (x : Placed) → slice_get c.placed k ≡ Some x → x.depth ≤ 8

-- ---- the state of a thread

-- a child of the thread, by its path
abbrev pub IsChild : ThreadState → List ℕ → Type 0
IsChild s child = (j : ℕ) × (j < s.forks) × (child ≡ s.path ++ j ∷ [])

abbrev pub IsJoined : ThreadState → Option (List ℕ) → Type 0
IsJoined s None = Unit {0}
IsJoined s (Some child) = IsChild s child

-- the handle's slot names a child
abbrev pub NamesChild : ThreadState → ℕ → Type 0
NamesChild s k = (child : List ℕ) × (slice_get s.handles k ≡ Some (Some child)) × IsChild s child

-- each child that a slot names is one of the thread's own
abbrev pub OwnChildren : ThreadState → Type 0
OwnChildren s = (k : ℕ) (child : List ℕ) → slice_get s.handles k ≡ Some (Some child) → IsChild s child

-- WHAT FITS what is placed at its place, in code with so many slots
pub record FitsAt (x : Placed) (c : Compiled) (s : ThreadState) : Type 0 where
  -- as many numbers as there are forks round the place
  pub path : length s.path ≡ x.depth
  pub region : s.region ≡ x.region
  pub locals : length s.locals ≡ c.variables
  pub slots : length s.handles ≡ c.handles
  -- each handle that is known at the place names a child
  pub children : (k : ℕ) → k < x.handles → NamesChild s k
  pub joined : IsJoined s s.joined
  -- a count for each `repeat` that is open at the place
  pub loops : length s.loops ≡ x.loops
  pub acts : s.acts < 4294967295
  pub forks : s.forks < 4294967295

-- THE STATE FITS THE CODE
abbrev pub Fits : Compiled → ThreadState → Type 0
Fits c s = (x : Placed) × (slice_get c.placed s.pc ≡ Some x) × FitsAt x c s

-- each of these instructions is the code's at its place
abbrev pub Holds : Compiled → List Fetched → Type 0
Holds c fetched = All (λ f. code_of (places c) f.pc ≡ Some f.instr) fetched

-- ---- a state as the machine has it

abbrev pub last_of : ℕ → List ℕ → ℕ
last_of n [] = n
last_of n (m ∷ ms) = last_of m ms

-- the number of a child: the last of its path
abbrev pub child_number : List ℕ → ℕ
child_number [] = 0
child_number (n ∷ ns) = last_of n ns

-- The innermost count stands last in a state, and first in the machine. A handle's slot has a child's path in a state, and its number
-- in the machine.
abbrev pub core_of : ThreadState → Core
core_of s = record { pc = s.pc; locals = s.locals; handles = map (option_map child_number) s.handles; loops = reverse s.loops; forks = s.forks }

-- where the root thread begins
abbrev pub root_state : Compiled → ThreadState
root_state c = record {
  path = [];
  region = Main;
  pc = 0;
  locals = replicate c.variables 0;
  handles = replicate c.handles None;
  loops = [];
  forks = 0;
  acts = 0;
  joined = None;
}
