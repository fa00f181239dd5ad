-- Instructions that code has, as two definitions say it.
use Rattle.std.proofs.Common.{◌≡◌, List, [], ◌∷◌, Some, All, Result, Ok, Err, IfOk, subst, sym}
use Rattle.std.proofs.lemmas.List.Elements.{All-nil, All-cons, All-head, All-tail}
use Rattle.tl_threads.specs.Machine.{Code}
use Rattle.tl_code.specs.declared.state.Fetched.{Fetched}
use Rattle.tl_threads.specs.declared.code.Placed.{Placed}
use Rattle.tl_code.specs.Compiled.{Compiled}
use Rattle.tl_code.specs.Codes.{Holds}
use Rattle.tl_prepare.specs.Work.{Work}
use Rattle.tl_prepare.specs.Runs.{code_at, HoldsAll}

abbrev pub Held : Code → Fetched → Type 0
Held f x = f x.pc ≡ Some x.instr

pub held_all : (f : Code) (fetched : List Fetched) → All (λ x. f x.pc ≡ Some x.instr) fetched → HoldsAll f fetched
held_all f [] a = tt
held_all f (x ∷ xs) a = (All-head (Held f) x xs a, held_all f xs (All-tail (Held f) x xs a))

pub all_held : (f : Code) (fetched : List Fetched) → HoldsAll f fetched → All (λ x. f x.pc ≡ Some x.instr) fetched
all_held f [] h = All-nil (Held f)
all_held f (x ∷ xs) h = All-cons (Held f) x xs h.0 (all_held f xs h.1)

pub all_held_as : (f : Code) (old new : List Fetched) → new ≡ old → HoldsAll f old → All (λ x. f x.pc ≡ Some x.instr) new
all_held_as f old new e h = subst (λ (xs : List Fetched). All (λ x. f x.pc ≡ Some x.instr) xs) (sym e) (all_held f old h)

-- what was read stands in the code, where it went well
pub fetched_held : {E : Type 0} (r : Result Work E) (c : Compiled) (code : List Placed) (fetched : List Fetched) → code ≡ c.placed → HoldsAll (code_at code) fetched
    → IfOk r (λ p. p.fetched ≡ fetched) → IfOk r (λ p. Holds c p.fetched)
fetched_held (Ok p) c code fetched e h i = all_held_as (code_at c.placed) fetched p.fetched i (subst (λ (k : List Placed). HoldsAll (code_at k) fetched) e h)
fetched_held (Err x) c code fetched e h i = tt
