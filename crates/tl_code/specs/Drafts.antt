-- Code as it is written: what a draft holds, and what each part of a test adds to it.
use Rattle.std.specs.Prelude.{◌≡◌, ℕ, suc, ◌+◌, ◌*◌, ◌<◌, ◌≤◌, List, [], ◌∷◌, ◌++◌, length, take, map, sum, slice_set}
use Rattle.tl_ast.specs.declared.tree.TestStmt.{TestStmt}
use Rattle.tl_check.specs.Bounds.{statements}
use Rattle.tl_check.specs.Walk.{Ports}
use Rattle.tl_threads.specs.declared.code.Placed.{Placed}
use Rattle.tl_threads.specs.declared.code.Instr.{Instr}
use Rattle.tl_threads.specs.declared.code.Instr.TheVariants.{End, Unless, Goto, Store}
use Rattle.tl_threads.specs.declared.code.Item.{Item}
use Rattle.tl_threads.specs.Values.{Name}
use Rattle.tl_threads.specs.Bodies.{Body, body_of}
use Rattle.tl_threads.specs.Code.{Scope, slot, with_name, at, block_code}
use Rattle.tl_code.specs.declared.level.Level.{Level}

-- the code so far, and the names that are known behind it
pub record Drafted : Type 0 where
  pub placed : List Placed
  pub variables : List Name
  pub handles : List Name

-- what is known behind the code, at this level
abbrev pub scope_of : Level → Drafted → Scope
scope_of level d = record { depth = level.depth; region = level.region; loops = level.loops; vars = d.variables; handles = d.handles }

-- with one more instruction
abbrev pub behind : Level → Instr → Drafted → Drafted
behind level instr d = record d { placed = d.placed ++ at (scope_of level d) instr ∷ [] }

-- the code with that of what is left
abbrev pub with_rest : Level → Drafted → Body → List Placed
with_rest level d rest = d.placed ++ block_code rest (scope_of level d) (length d.placed)

-- A part of a block is written, in at most so many instructions: what follows it comes behind it.
pub record Adds (level : Level) (part : Body → Body) (most : ℕ) (old new : Drafted) : Type 0 where
  pub code_is : (rest : Body) → with_rest level old (part rest) ≡ with_rest level new rest
  pub variables : take (length old.variables) new.variables ≡ old.variables
  pub handles : take (length old.handles) new.handles ≡ old.handles
  pub grows : length old.placed ≤ length new.placed
  pub within : length new.placed ≤ length old.placed + most

-- A block is written; behind it what was known in front is known.
pub record AddsBlock (ports : Ports) (level : Level) (block : List TestStmt) (old new : Drafted) : Type 0 where
  pub new_is : new ≡ record old { placed = with_rest level old (body_of ports level.region block) }
  pub grows : length old.placed ≤ length new.placed
  pub within : length new.placed ≤ length old.placed + 2 * sum (map statements block)

-- An instruction, which is to be replaced, and a block behind it are written.
pub record AddsSide (ports : Ports) (level : Level) (block : List TestStmt) (old : Drafted) (head : ℕ) (new : Drafted) : Type 0 where
  pub head_is : head ≡ length old.placed
  pub new_is : new ≡ record old { placed = with_rest level (behind level End old) (body_of ports level.region block) }
  pub grows : length old.placed < length new.placed
  pub within : length new.placed ≤ length old.placed + 1 + 2 * sum (map statements block)

-- an instruction over that of a place
abbrev pub replaced : Level → (place : ℕ) → Instr → Drafted → Drafted
replaced level place instr d = record d { placed = slice_set d.placed place (at (scope_of level d) instr) }

-- an `if` is complete, whose sides begin with the instructions at these places
abbrev pub if_closed : Level → (line : ℕ) → List Item → (head middle : ℕ) → Drafted → Drafted
if_closed level line cond head middle d =
    replaced level middle (Goto (length d.placed)) (replaced level head (Unless line cond (suc middle)) d)

-- A number goes into a variable, which is known from then on.
abbrev pub stored : Level → (line : ℕ) → Name → List Item → Drafted → Drafted
stored level line name value d = record {
  placed = d.placed ++ at (scope_of level d) (Store line (slot name (with_name d.variables name)) value) ∷ [];
  variables = with_name d.variables name;
  handles = d.handles;
}
