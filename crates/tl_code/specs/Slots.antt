-- The slots that instructions write.
use Rattle.std.specs.Prelude.{ℕ, suc, List, [], ◌∷◌, max}
use Rattle.tl_threads.specs.declared.code.Placed.{Placed}
use Rattle.tl_threads.specs.declared.code.Instr.{Instr}
use Rattle.tl_threads.specs.declared.code.Instr.TheVariants.{Store, Fork}

-- how many slots for variables an instruction needs that sets one
abbrev pub set_slots : Instr → ℕ
set_slots (Store line slot value) = suc slot
set_slots _ = 0

-- how many slots for handles an instruction needs that sets one
abbrev pub fork_slots : Instr → ℕ
fork_slots (Fork line region slot after) = suc slot
fork_slots _ = 0

abbrev pub variable_slots : List Placed → ℕ
variable_slots [] = 0
variable_slots (x ∷ xs) = max (set_slots x.instr) (variable_slots xs)

abbrev pub handle_slots : List Placed → ℕ
handle_slots [] = 0
handle_slots (x ∷ xs) = max (fork_slots x.instr) (handle_slots xs)
