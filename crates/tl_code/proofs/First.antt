-- Where code begins.
use Rattle.std.proofs.Common.{◌≡◌, ℕ, zero, suc, ◌+◌, ◌<◌, ◌≤◌, List, [], ◌∷◌, ◌++◌, length, length-append, append_assoc, Option, Some, None, slice_get, refl, sym, ap, subst, ◌∙◌, arith}
use Rattle.tl_threads.specs.declared.code.Placed.{Placed}
use Rattle.tl_threads.specs.declared.code.Instr.{Instr}
use Rattle.tl_threads.specs.declared.code.Instr.TheVariants as instr
use Rattle.tl_threads.specs.Bodies.{Body}
use Rattle.tl_threads.specs.Bodies.Body.{nil, poke_port, peek_port, expect_port, step_by, let_var, if_true, while_true, repeat_by, fork_as, join_of, joinstep_of}
use Rattle.tl_threads.specs.Code.{Scope, at, block_code, first_scope, test_code}
use Rattle.tl_threads.specs.Stands.{Places, HasAt}

-- the first instruction stands in the scope of the block
pub first_placed : (b : Body) (c : Scope) (pc : ℕ) → (i : Instr) × (slice_get (block_code b c pc ++ at c instr.End ∷ []) 0 ≡ Some (at c i))
first_placed nil c pc = (_, refl)
first_placed (poke_port l p e k) c pc = (_, refl)
first_placed (peek_port l p into k) c pc = (_, refl)
first_placed (expect_port l p e k) c pc = (_, refl)
first_placed (step_by l n k) c pc = (_, refl)
first_placed (let_var l x e k) c pc = (_, refl)
first_placed (if_true l e a b k) c pc = (_, refl)
first_placed (while_true l e a k) c pc = (_, refl)
first_placed (repeat_by l e a k) c pc = (_, refl)
first_placed (fork_as l g h a k) c pc = (_, refl)
first_placed (join_of l h k) c pc = (_, refl)
first_placed (joinstep_of l h k) c pc = (_, refl)

get_behind : (pre xs : List Placed) (x : Placed) → slice_get (pre ++ x ∷ xs) (length pre) ≡ Some x
get_behind [] xs x = refl
get_behind (p ∷ pre) xs x = get_behind pre xs x

-- a list of instructions has those that stand in it
pub has_behind : (pre xs all : List Placed) (pc : ℕ) → pc ≡ length pre → all ≡ pre ++ xs → HasAt (slice_get all) pc xs
has_behind pre [] all pc n e = tt
has_behind pre (x ∷ xs) all pc n e = (
  ap (λ l. slice_get l pc) e ∙ ap (slice_get (pre ++ x ∷ xs)) n ∙ get_behind pre xs x,
  has_behind (pre ++ x ∷ []) xs all (suc pc) (omega (arith, n, length-append pre (x ∷ []))) (e ∙ sym (append_assoc pre (x ∷ []) xs)),
)

pub some_within : (xs : List Placed) (k : ℕ) (x : Placed) → slice_get xs k ≡ Some x → k < length xs
some_within [] k x e = absurd (cc)
some_within (y ∷ ys) zero x e = omega arith
some_within (y ∷ ys) (suc k) x e = omega (arith, some_within ys k x e)
