-- What flat code does, one instruction after another, over whatever gives the instructions.
use Rattle.std.specs.Prelude.{ℕ, zero, suc, List, [], ◌∷◌, Bool, true, false, cond, nat_lt, nat_le, Option, Some, None, slice_index, slice_get, slice_set}
use Rattle.tb_base.specs.declared.path.Region.{Region}
use Rattle.tl_ast.specs.declared.tree.TestOp.{TestOp}
use Rattle.tl_threads.specs.declared.code.Item.{Item}
use Rattle.tl_threads.specs.declared.code.Item.TheVariants.{Number, Slot, Negate, Apply}
use Rattle.tl_threads.specs.declared.code.Instr.{Instr}
use Rattle.tl_threads.specs.declared.code.Instr.TheVariants.{Poke, Peek, Expect, Step, Store, Unless, Goto, Enter, Turn, Count, Again, Fork, Join, JoinStep, End}
use Rattle.tl_threads.specs.Values.{operated, negated}
use Rattle.tl_threads.specs.Threads.{is_zero}

-- ---- operands

abbrev pub negate_top : List ℕ → List ℕ
negate_top [] = []
negate_top (x ∷ stack) = negated x ∷ stack

abbrev pub apply_tops : TestOp → List ℕ → List ℕ
apply_tops op (y ∷ x ∷ stack) = operated op x y ∷ stack
apply_tops op stack = stack

-- the stack behind an item, the topmost number first
abbrev pub stacked : (locals stack : List ℕ) → Item → List ℕ
stacked locals stack (Number n) = n ∷ stack
stacked locals stack (Slot k) = slice_index locals k ∷ stack
stacked locals stack Negate = negate_top stack
stacked locals stack (Apply op) = apply_tops op stack

-- the stack behind some items
abbrev pub worked : (locals : List ℕ) → List Item → (stack : List ℕ) → List ℕ
worked locals [] stack = stack
worked locals (i ∷ is) stack = worked locals is (stacked locals stack i)

-- THE NUMBER OF AN OPERAND over these slots: the topmost number behind its items
abbrev pub taken : (locals : List ℕ) → List Item → ℕ
taken locals items = slice_index (worked locals items []) 0

-- ---- instructions

-- what an action is
pub data Doing : Type 0 where
  pokes : (line port raw : ℕ) → Doing
  peeks : (line port : ℕ) → (into : Option ℕ) → Doing
  expects : (line port wanted : ℕ) → Doing
  arrives : (line count : ℕ) → Doing
  forks : (line : ℕ) → (region : Region) → Doing
  joins : (line child : ℕ) → Doing
  joinsteps : (line child : ℕ) → Doing
  spends : (line : ℕ) → Doing
  ends : Doing

-- Where a thread stands: its place, its slots, the counts that are kept, the innermost first, and the number of its forks. A handle's
-- slot has the number of a child.
pub record Core : Type 0 where
  pub pc : ℕ
  pub locals : List ℕ
  pub handles : List (Option ℕ)
  pub loops : List ℕ
  pub forks : ℕ

-- the action, where the thread stands behind it, and the place where its child begins
pub record Did : Type 0 where
  pub doing : Doing
  pub core : Core
  pub child : Option ℕ

abbrev pub Code : Type 0
Code = ℕ → Option Instr

abbrev pub did : Doing → Core → Option Did
did d s = Some (record { doing = d; core = s; child = None })

-- how it goes on
abbrev pub Go : Type 0
Go = Core → Option Did

-- a local instruction, which is the last where the count of local statements is used up
abbrev pub locally : (is_full : Bool) → (line : ℕ) → Core → Option Did → Option Did
locally true line s o = did (spends line) s
locally false line s o = o

-- the head of a `repeat`
abbrev pub counted : (count pc out : ℕ) → Core → Core
counted zero pc out s = record s { pc = out }
counted (suc n) pc out s = record s { pc = suc pc; loops = n ∷ s.loops }

-- the foot of a `repeat`
abbrev pub counted_on : (pc back : ℕ) → Core → (loops : List ℕ) → Option Core
counted_on pc back s [] = None
counted_on pc back s (zero ∷ ns) = Some (record s { pc = suc pc; loops = ns })
counted_on pc back s (suc n ∷ ns) = Some (record s { pc = back; loops = n ∷ ns })

abbrev pub go_if : Go → Option Core → Option Did
go_if go None = None
go_if go (Some s) = go s

-- an action on the child in a handle's slot
abbrev pub with_child : (ℕ → Doing) → Core → Option (Option ℕ) → Option Did
with_child doing s None = None
with_child doing s (Some None) = None
with_child doing s (Some (Some k)) = did (doing k) (record s { pc = suc s.pc })

-- a fork into a handle's slot
abbrev pub forked : (line : ℕ) → Region → (slot after : ℕ) → Core → Did
forked line region slot after s = record {
  doing = forks line region;
  core = record s { pc = after; handles = slice_set s.handles slot (Some s.forks); forks = suc s.forks };
  child = Some (suc s.pc);
}

-- ONE INSTRUCTION. `is_full` says that the count of local statements is used up; `jump` is how it goes on behind a jump, `go` behind one
-- more local statement
abbrev pub step : (is_full : Bool) → (jump go : Go) → Core → Option Instr → Option Did
step is_full jump go s None = None
step is_full jump go s (Some (Poke l p o)) = did (pokes l p.0 (taken s.locals o)) (record s { pc = suc s.pc })
step is_full jump go s (Some (Peek l p into)) = did (peeks l p.0 into) (record s { pc = suc s.pc })
step is_full jump go s (Some (Expect l p o)) = did (expects l p.0 (taken s.locals o)) (record s { pc = suc s.pc })
step is_full jump go s (Some (Step l n)) = did (arrives l n) (record s { pc = suc s.pc })
step is_full jump go s (Some (Store l k o)) =
    locally is_full l s (go (record s { pc = suc s.pc; locals = slice_set s.locals k (taken s.locals o) }))
step is_full jump go s (Some (Unless l o to)) = locally is_full l s (go (record s { pc = cond (is_zero (taken s.locals o)) to (suc s.pc) }))
step is_full jump go s (Some (Goto to)) = cond (nat_lt s.pc to) (jump (record s { pc = to })) None
step is_full jump go s (Some (Enter l o to)) = locally is_full l s (go (record s { pc = cond (is_zero (taken s.locals o)) to (suc s.pc) }))
step is_full jump go s (Some (Turn l o back)) =
    locally is_full l s (go (record s { pc = cond (is_zero (taken s.locals o)) (suc s.pc) back }))
step is_full jump go s (Some (Count l o to)) = locally is_full l s (go (counted (taken s.locals o) s.pc to s))
step is_full jump go s (Some (Again l back)) = locally is_full l s (go_if go (counted_on s.pc back s s.loops))
step is_full jump go s (Some (Fork l r k after)) = Some (forked l r k after s)
step is_full jump go s (Some (Join l k)) = with_child (joins l) s (slice_get s.handles k)
step is_full jump go s (Some (JoinStep l k)) = with_child (joinsteps l) s (slice_get s.handles k)
step is_full jump go s (Some End) = did ends s

-- THE NEXT ACTION OF CODE: at most so many instructions, where `used` of `limit` local statements were executed; `None` where the
-- instructions don't suffice or the code is stuck
abbrev pub run : Code → (limit : ℕ) → (instructions : ℕ) → (used : ℕ) → Go
run f limit zero used s = None
run f limit (suc n) used s = step (nat_le limit used) (λ t. run f limit n used t) (λ t. run f limit n (suc used) t) s (f s.pc)

-- Where the thread stands behind the action that it took from `from`: as the machine says, but for a thread that is spent and one that
-- ends. These stay where they were.
abbrev pub stays : Doing → Bool
stays (spends line) = true
stays ends = true
stays _ = false

abbrev pub core_after : (from : Core) → Did → Core
core_after from d = cond (stays d.doing) from d.core
