-- A fork, as the machine has it.
use Rattle.std.proofs.Common.{◌≡◌, ℕ, zero, suc, ◌+◌, List, [], ◌∷◌, ◌++◌, map, Option, Some, option_map, slice_set, Bool, refl, sym, ap, ◌∙◌, arith}
use Rattle.std.specs.Prelude.{reverse}
use Rattle.tb_base.specs.declared.path.Region.{Region}
use Rattle.tl_threads.specs.declared.code.Instr.TheVariants as instr
use Rattle.tl_threads.specs.Machine.{Did}
use Rattle.tl_threads.specs.Machine.Doing.{forks}
use Rattle.tl_code.specs.Codes.{last_of, child_number}
use Rattle.tl_prepare.specs.declared.runner.Runner.{Runner}
use Rattle.tl_prepare.specs.declared.step.Stepped.TheVariants.{Forks}
use Rattle.tl_prepare.specs.Steps.{IsStep}

last_last : (n : ℕ) (ms : List ℕ) (j : ℕ) → last_of n (ms ++ j ∷ []) ≡ j
last_last n [] j = refl
last_last n (m ∷ ms) j = last_last m ms j

-- the number of a child
pub number_of_child : (path : List ℕ) (j : ℕ) → child_number (path ++ j ∷ []) ≡ j
number_of_child [] j = refl
number_of_child (n ∷ ns) j = last_last n ns j

-- a slot names a child by its path, and in the machine by its number
pub named_child : (handles new : List (Option (List ℕ))) (slot : ℕ) (path : List ℕ) (j : ℕ) → new ≡ slice_set handles slot (Some (path ++ j ∷ []))
    → map (option_map child_number) new ≡ slice_set (map (option_map child_number) handles) slot (Some j)
named_child handles new slot path j e =
    ap (map (option_map child_number)) e ∙ set_named handles slot ∙ ap (λ n. slice_set (map (option_map child_number) handles) slot (Some n)) (number_of_child path j)
  where
    set_named : (hs : List (Option (List ℕ))) (k : ℕ) → map (option_map child_number) (slice_set hs k (Some (path ++ j ∷ []))) ≡ slice_set (map (option_map child_number) hs) k (Some (child_number (path ++ j ∷ [])))
    set_named [] k = refl
    set_named (h ∷ hs) zero = refl
    set_named (h ∷ hs) (suc k) = ap (λ l. option_map child_number h ∷ l) (set_named hs k)

-- a fork is the machine's
pub fork_is_step : (full : Bool) (old new : Runner) (l slot to : ℕ) (g : Region) (child : List ℕ) → child ≡ old.path ++ old.forks ∷ [] → new.path ≡ old.path → new.pc ≡ to → new.locals ≡ old.locals → new.loops ≡ old.loops → new.forks ≡ old.forks + 1
    → new.handles.items ≡ slice_set old.handles.items slot (Some (old.path ++ old.forks ∷ [])) → IsStep full old (instr.Fork l g slot to) (Forks l g (old.pc + 1) child) new
fork_is_step full old new l slot to g child ec ep epc el eo ef eh = record {
  same = λ jump go.
      ap (λ hs. did to old.locals.items hs (reverse old.loops.items) (suc old.forks) (suc old.pc)) (sym (named_child old.handles.items new.handles.items slot old.path old.forks eh))
      ∙ ap (λ n. did n old.locals.items (map (option_map child_number) new.handles.items) (reverse old.loops.items) (suc old.forks) (suc old.pc)) (sym epc)
      ∙ ap (λ v. did new.pc v.items (map (option_map child_number) new.handles.items) (reverse old.loops.items) (suc old.forks) (suc old.pc)) (sym el)
      ∙ ap (λ v. did new.pc new.locals.items (map (option_map child_number) new.handles.items) (reverse v.items) (suc old.forks) (suc old.pc)) (sym eo)
      ∙ ap (λ n. did new.pc new.locals.items (map (option_map child_number) new.handles.items) (reverse new.loops.items) n (suc old.pc)) more
      ∙ ap (λ n. did new.pc new.locals.items (map (option_map child_number) new.handles.items) (reverse new.loops.items) new.forks n) one;
  forward = λ e. absurd (cc);
  counted = λ e. absurd (cc);
  children = record { slot = slot; path = ep; handles = eh; forks = sym more; named = ec };
  child = tt;
  slot = (old.pc, slot, to, (refl, refl), sym one, eh ∙ ap (λ c. slice_set old.handles.items slot (Some c)) (sym ec));
}
  where
    did : (pc : ℕ) → List ℕ → List (Option ℕ) → List ℕ → (forks begin : ℕ) → Option Did
    did pc ls hs lo n begin = Some (record { doing = forks l g; core = record { pc = pc; locals = ls; handles = hs; loops = lo; forks = n }; child = Some begin })

    more : suc old.forks ≡ new.forks
    more = omega (arith, ef)

    one : suc old.pc ≡ old.pc + 1
    one = omega arith
