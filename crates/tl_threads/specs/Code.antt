-- The code of a body.
use Rattle.std.specs.Prelude.{ℕ, zero, suc, ◌+◌, List, [], ◌∷◌, ◌++◌, length, cond, Option, Some, None, option_map, unwrap_or}
use Rattle.std.specs.Str.{bytes_eq}
use Rattle.tb_base.specs.declared.path.Region.{Region}
use Rattle.tb_base.specs.declared.path.Region.TheVariants.{Main}
use Rattle.tl_threads.specs.declared.code.Item.{Item}
use Rattle.tl_threads.specs.declared.code.Item.TheVariants.{Number, Slot, Negate, Apply}
use Rattle.tl_threads.specs.declared.code.Placed.{Placed}
use Rattle.tl_threads.specs.declared.code.Instr.{Instr}
use Rattle.tl_threads.specs.declared.code.Instr.TheVariants.{Poke, Peek, Expect, Step, Store, Unless, Goto, Enter, Turn, Count, Again, Fork, Join, JoinStep, End}
use Rattle.tl_threads.specs.Values.{Name, Expr}
use Rattle.tl_threads.specs.Values.Expr.{number, variable, minus, two}
use Rattle.tl_threads.specs.Bodies.{Body}
use Rattle.tl_threads.specs.Bodies.Body.{nil, poke_port, peek_port, expect_port, step_by, let_var, if_true, while_true, repeat_by, fork_as, join_of, joinstep_of}

-- What is known at a place: the number of forks round it, the region, the number of `repeat`s round it within the innermost fork, and
-- the names in scope, the oldest first, so that a name's slot is its place in the list.
pub record Scope : Type 0 where
  pub depth : ℕ
  pub region : Region
  pub loops : ℕ
  pub vars : List Name
  pub handles : List Name

-- ---- names and their slots

abbrev pub slot_found : Name → List Name → Option ℕ
slot_found name [] = None
slot_found name (x ∷ xs) = cond (bytes_eq name x) (Some zero) (option_map (λ k. suc k) (slot_found name xs))

-- the slot of a name, and slot 0 of a name that isn't known
abbrev pub slot : Name → List Name → ℕ
slot name names = unwrap_or (slot_found name names) 0

abbrev pub grown : List Name → Name → Option ℕ → List Name
grown names name None = names ++ name ∷ []
grown names name (Some k) = names

-- one more name behind the others, unless it is known
abbrev pub with_name : List Name → Name → List Name
with_name names name = grown names name (slot_found name names)

-- ---- scopes

-- where a test begins
abbrev pub first_scope : Scope
first_scope = record { depth = 0; region = Main; loops = 0; vars = []; handles = [] }

abbrev pub with_var : Name → Scope → Scope
with_var name c = record c { vars = with_name c.vars name }

abbrev pub with_handle : Name → Scope → Scope
with_handle name c = record c { handles = with_name c.handles name }

-- inside a `repeat`
abbrev pub deeper : Scope → Scope
deeper c = record c { loops = suc c.loops }

-- inside a fork
abbrev pub child_scope : Region → Scope → Scope
child_scope region c = record { depth = suc c.depth; region = region; loops = 0; vars = c.vars; handles = [] }

-- ---- code

-- the postfix form of an expression
abbrev pub operand : List Name → Expr → List Item
operand vars (number n) = Number n ∷ []
operand vars (variable x) = Slot (slot x vars) ∷ []
operand vars (minus e) = operand vars e ++ Negate ∷ []
operand vars (two op a b) = operand vars a ++ (operand vars b ++ Apply op ∷ [])

-- an instruction in a scope
abbrev pub at : Scope → Instr → Placed
at c i = record { instr = i; depth = c.depth; region = c.region; handles = length c.handles; loops = c.loops }

-- code by the place where it begins
abbrev pub Layout : Type 0
Layout = ℕ → List Placed

-- a head, which is told the place behind the foot; a body; a foot, which is told the place of the body; and what follows
abbrev pub framed : (head : ℕ → Placed) → (body : Layout) → (foot : ℕ → Placed) → (rest : Layout) → Layout
framed head body foot rest pc =
    head (suc (suc pc + length (body (suc pc)))) ∷ (body (suc pc) ++ (foot (suc pc) ∷ rest (suc (suc pc + length (body (suc pc))))))

-- a head, which is told the place of the second side; the first side; a jump past the second side; that side; and what follows
abbrev pub second_side : Scope → (other rest : Layout) → (place : ℕ) → List Placed
second_side c other rest place = at c (Goto (place + length (other place))) ∷ (other place ++ rest (place + length (other place)))

abbrev pub choice : Scope → (head : ℕ → Placed) → (taken other rest : Layout) → Layout
choice c head taken other rest pc =
    head (suc (suc pc + length (taken (suc pc)))) ∷ (taken (suc pc) ++ second_side c other rest (suc (suc pc + length (taken (suc pc)))))

-- THE CODE OF A BODY in a scope, from a place on
abbrev pub block_code : Body → Scope → Layout
block_code nil c pc = []
block_code (poke_port l p e k) c pc = at c (Poke l p (operand c.vars e)) ∷ block_code k c (suc pc)
block_code (peek_port l p into k) c pc = at c (Peek l p (option_map (λ x. slot x c.vars) into)) ∷ block_code k c (suc pc)
block_code (expect_port l p e k) c pc = at c (Expect l p (operand c.vars e)) ∷ block_code k c (suc pc)
block_code (step_by l n k) c pc = at c (Step l n) ∷ block_code k c (suc pc)
block_code (let_var l x e k) c pc = at c (Store l (slot x (with_name c.vars x)) (operand c.vars e)) ∷ block_code k (with_var x c) (suc pc)
block_code (if_true l e a b k) c pc =
    choice c (λ to. at c (Unless l (operand c.vars e) to)) (λ p. block_code a c p) (λ p. block_code b c p) (λ p. block_code k c p) pc
block_code (while_true l e a k) c pc =
    framed (λ to. at c (Enter l (operand c.vars e) to)) (λ p. block_code a c p)
    (λ back. at c (Turn l (operand c.vars e) back)) (λ p. block_code k c p) pc
block_code (repeat_by l e a k) c pc =
    framed (λ to. at c (Count l (operand c.vars e) to)) (λ p. block_code a (deeper c) p)
    (λ back. at (deeper c) (Again l back)) (λ p. block_code k c p) pc
block_code (fork_as l r h a k) c pc =
    framed (λ to. at c (Fork l r (slot h (with_name c.handles h)) to)) (λ p. block_code a (child_scope r c) p)
    (λ back. at (child_scope r c) End) (λ p. block_code k (with_handle h c) p) pc
block_code (join_of l h k) c pc = at c (Join l (slot h c.handles)) ∷ block_code k c (suc pc)
block_code (joinstep_of l h k) c pc = at c (JoinStep l (slot h c.handles)) ∷ block_code k c (suc pc)

-- THE CODE OF A TEST
abbrev pub test_code : Body → List Placed
test_code body = block_code body first_scope 0 ++ at first_scope End ∷ []
