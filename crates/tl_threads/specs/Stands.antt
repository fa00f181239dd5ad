-- When a place of code, with slots and counts, stands for a thread.
--
-- It is a relation: names of blocks that were left stay in a thread's maps, and have no slots. `v` and `h` are the numbers of slots for
-- variables and for handles, `f` gives what is placed where: any function, so that what is said holds of any code.
use Rattle.std.specs.Prelude.{◌≡◌, ◌⊎◌, ℕ, suc, ◌+◌, ◌<◌, ◌≤◌, List, [], ◌∷◌, length, Bool, Option, Some, None, is_none, slice_index, slice_index_or, slice_get, slice_set, replicate}
use Rattle.std.specs.FinMap as map
use Rattle.tb_base.specs.declared.path.Region.{Region}
use Rattle.bench_model.specs.World.{Move}
use Rattle.bench_model.specs.World.Move.{poke, peek, expect, fork, join, arrive, joinstep, spend, end}
use Rattle.tl_threads.specs.declared.code.Placed.{Placed}
use Rattle.tl_threads.specs.declared.code.Instr.{Instr}
use Rattle.tl_threads.specs.declared.code.Instr.TheVariants.{Goto, Turn, Again, End}
use Rattle.tl_threads.specs.Values.{Name, Numbers, Expr}
use Rattle.tl_threads.specs.Values.Expr.{number, variable, minus, two}
use Rattle.tl_threads.specs.Bodies.{Body}
use Rattle.tl_threads.specs.Bodies.Body.{nil, poke_port, peek_port, expect_port, step_by, let_var, if_true, while_true, repeat_by, fork_as, join_of, joinstep_of}
use Rattle.tl_threads.specs.Threads.{Frame, Inner, region_number}
use Rattle.tl_threads.specs.Threads.Frame.{block, turn, again}
use Rattle.tl_threads.specs.Machine.{Core, Did, Doing, Code, run}
use Rattle.tl_threads.specs.Machine.Doing.{pokes, peeks, expects, arrives, forks, joins, joinsteps, spends, ends}
use Rattle.tl_threads.specs.Code.{Scope, slot_found, slot, with_name, operand, at, deeper, block_code}

abbrev pub Places : Type 0
Places = ℕ → Option Placed

abbrev pub instr_of : Option Placed → Option Instr
instr_of None = None
instr_of (Some x) = Some x.instr

-- the instructions alone
abbrev pub code_of : Places → Code
code_of f pc = instr_of (f pc)

-- ---- what the code rests on: each name that is used is known, and there are slots enough

abbrev pub Known : List Name → Name → Type 0
Known names name = (k : ℕ) × (slot_found name names ≡ Some k)

abbrev pub KnownIn : List Name → Expr → Type 0
KnownIn vars (number n) = Unit {0}
KnownIn vars (variable x) = Known vars x
KnownIn vars (minus e) = KnownIn vars e
KnownIn vars (two op a b) = KnownIn vars a × KnownIn vars b

-- a known variable, where one is named, with a slot
abbrev pub Settable : (v : ℕ) → List Name → Option Name → Type 0
Settable v vars None = Unit {0}
Settable v vars (Some x) = Known vars x × (slot x vars < v)

abbrev pub Checked : (v h : ℕ) → Body → (vars handles : List Name) → Type 0
Checked v h nil vs hs = Unit {0}
Checked v h (poke_port l p e k) vs hs = KnownIn vs e × Checked v h k vs hs
Checked v h (peek_port l p into k) vs hs = Settable v vs into × Checked v h k vs hs
Checked v h (expect_port l p e k) vs hs = KnownIn vs e × Checked v h k vs hs
Checked v h (step_by l n k) vs hs = Checked v h k vs hs
Checked v h (let_var l x e k) vs hs = KnownIn vs e × (length (with_name vs x) ≤ v) × Checked v h k (with_name vs x) hs
Checked v h (if_true l e a b k) vs hs = KnownIn vs e × Checked v h a vs hs × Checked v h b vs hs × Checked v h k vs hs
Checked v h (while_true l e a k) vs hs = KnownIn vs e × Checked v h a vs hs × Checked v h k vs hs
Checked v h (repeat_by l e a k) vs hs = KnownIn vs e × Checked v h a vs hs × Checked v h k vs hs
Checked v h (fork_as l r x a k) vs hs = Checked v h a vs [] × (length (with_name hs x) ≤ h) × Checked v h k vs (with_name hs x)
Checked v h (join_of l x k) vs hs = Known hs x × Checked v h k vs hs
Checked v h (joinstep_of l x k) vs hs = Known hs x × Checked v h k vs hs

-- ---- the code goes on as the frames say

-- these stand from a place on
abbrev pub HasAt : Places → ℕ → List Placed → Type 0
HasAt f pc [] = Unit {0}
HasAt f pc (x ∷ xs) = (f pc ≡ Some x) × HasAt f (suc pc) xs

abbrev pub Within : (outer inner : List Name) → Type 0
Within outer inner = (name : Name) (k : ℕ) → slot_found name outer ≡ Some k → slot_found name inner ≡ Some k

-- what the outer scope knows, the inner one knows at the same slots; both are of one thread
pub record Outer (o c : Scope) : Type 0 where
  pub vars : Within o.vars c.vars
  pub handles : Within o.handles c.handles
  pub depth : o.depth ≡ c.depth
  pub region : o.region ≡ c.region

-- the name in a slot
abbrev pub name_at : List Name → ℕ → Name
name_at names k = slice_index_or names k []

-- no name stands twice
abbrev pub Once : List Name → Type 0
Once names = (k : ℕ) → k < length names → slot_found (name_at names k) names ≡ Some k

-- q is r, or a jump leads from q to r, which is later
abbrev pub Jumps : Places → Scope → (q r : ℕ) → Type 0
Jumps f o q r = (q ≡ r) ⊎ ((f q ≡ Some (at o (Goto r))) × (q < r))

-- the code of b stands at r, in a scope with as many `repeat`s as counts are kept
pub record Laid (v h : ℕ) (f : Places) (o : Scope) (r : ℕ) (b : Body) (loops : List ℕ) : Type 0 where
  pub code : HasAt f r (block_code b o r)
  pub checked : Checked v h b o.vars o.handles
  pub once : Once o.handles
  pub counts : o.loops ≡ length loops

-- q is the foot of a `while`, whose body begins at `back`
pub record Turned (v h : ℕ) (f : Places) (c o : Scope) (q back line : ℕ) (e : Expr) (a : Body) (loops : List ℕ) : Type 0 where
  pub outer : Outer o c
  pub here : f q ≡ Some (at o (Turn line (operand o.vars e) back))
  pub known : KnownIn o.vars e
  pub body : Laid v h f o back a loops
  pub foot : q ≡ back + length (block_code a o back)

-- q is the foot of a `repeat`, whose body begins at `back`, and the innermost count that is kept is `left`
pub record Counted (v h : ℕ) (f : Places) (c o : Scope) (q back line left : ℕ) (a : Body) (rest loops : List ℕ) : Type 0 where
  pub outer : Outer o c
  pub counts : loops ≡ left ∷ rest
  pub here : f q ≡ Some (at (deeper o) (Again line back))
  pub body : Laid v h f (deeper o) back a loops
  pub foot : q ≡ back + length (block_code a (deeper o) back)

-- q is the end of a thread
pub record Ended (f : Places) (c o : Scope) (q : ℕ) (loops : List ℕ) : Type 0 where
  pub outer : Outer o c
  pub here : f q ≡ Some (at o End)
  pub once : Once o.handles
  pub open_loops : loops ≡ []
  pub counts : o.loops ≡ length loops

-- AT q, WITH THESE COUNTS, THE CODE GOES ON AS THE FRAMES SAY; c is a scope that knows no less than the code at q does
abbrev pub Continues : (v h : ℕ) → Places → (c : Scope) → (q : ℕ) → List Frame → (loops : List ℕ) → Type 0
Continues v h f c q [] loops = (o : Scope) × Ended f c o q loops
Continues v h f c q (block b ∷ fs) loops =
    (r : ℕ) × (o : Scope) × Jumps f o q r × Outer o c × Laid v h f o r b loops × Continues v h f o (r + length (block_code b o r)) fs loops
Continues v h f c q (turn l e a ∷ fs) loops =
    (back : ℕ) × (o : Scope) × Turned v h f c o q back l e a loops × Continues v h f o (suc q) fs loops
Continues v h f c q (again l n a ∷ fs) loops =
    (back : ℕ) × (o : Scope) × (rest : List ℕ) × Counted v h f c o q back l n a rest loops × Continues v h f o (suc q) fs rest

-- ---- slots

-- each known variable has the number in its slot
abbrev pub Agrees : List Name → Numbers → (locals : List ℕ) → Type 0
Agrees names vars locals = (x : Name) (k : ℕ) → slot_found x names ≡ Some k → map.get vars x ≡ Some (slice_index locals k)

-- each known handle names the child in its slot
abbrev pub Names : List Name → (handles : Numbers) → (slots : List (Option ℕ)) → Type 0
Names names handles slots = (x : Name) (k : ℕ) → slot_found x names ≡ Some k
    → (j : ℕ) × (map.get handles x ≡ Some j) × (slice_get slots k ≡ Some (Some j))

-- the slots are those of a thread of this depth and region
pub record Slots (v h depth : ℕ) (region : Region) (c : Scope) (s : Core) (numbers children : Numbers) (forked : ℕ) : Type 0 where
  pub vars : Agrees c.vars numbers s.locals
  pub handles : Names c.handles children s.handles
  pub locals_len : length s.locals ≡ v
  pub handles_len : length s.handles ≡ h
  pub forks : s.forks ≡ forked
  pub depth_is : c.depth ≡ depth
  pub region_is : c.region ≡ region

-- A PLACE WITH ITS SLOTS AND COUNTS STANDS FOR A THREAD, in so many forks, and of this region
pub record Stands (v h : ℕ) (f : Places) (depth : ℕ) (region : Region) (s : Core) (i : Inner) : Type 0 where
  pub scope : Scope
  pub goes_on : Continues v h f scope s.pc i.rest s.loops
  pub slots : Slots v h depth region scope s i.vars i.handles i.forks

-- ---- what was done is the move

-- where a child stands that begins at a place
abbrev pub born : (h pc : ℕ) → (parent : Core) → Core
born h pc s = record { pc = pc; locals = s.locals; handles = replicate h None; loops = []; forks = 0 }

-- a number that was read goes into a slot, where one is named
abbrev pub put : Option ℕ → ℕ → Core → Core
put None x s = s
put (Some k) x s = record s { locals = slice_set s.locals k x }

-- this was done, and there is no child
abbrev pub Only : Did → Doing → Type 0
Only d doing = (d.doing ≡ doing) × (d.child ≡ None)

pub record Peeks (v h : ℕ) (f : Places) (depth : ℕ) (region : Region) (d : Did) (line port : ℕ) (shown : Bool)
    (i : ℕ → Inner) : Type 0 where
  pub into : Option ℕ
  pub only : Only d (peeks line port into)
  pub shows : shown ≡ is_none into
  pub then : (x : ℕ) → Stands v h f depth region (put into x d.core) (i x)

pub record Forks (v h : ℕ) (f : Places) (depth : ℕ) (region : Region) (d : Did) (line into : ℕ) (c i : Inner) : Type 0 where
  pub child_region : Region
  pub number : into ≡ region_number child_region
  pub doing : d.doing ≡ forks line child_region
  pub pc : ℕ
  pub child : d.child ≡ Some pc
  pub newborn : Stands v h f (suc depth) child_region (born h pc d.core) c
  pub then : Stands v h f depth region d.core i

-- WHAT THE MACHINE DID IS THE MOVE, and it stands behind it for the thread after the move, whatever a read gives
abbrev pub Fulfils : (v h : ℕ) → Places → (depth : ℕ) → Region → Did → Move Inner → Type 0
Fulfils v h f depth region d (poke l p x i) = Only d (pokes l p x) × ((a : ℕ) → Stands v h f depth region d.core (i a))
Fulfils v h f depth region d (peek l p shown i) = Peeks v h f depth region d l p shown i
Fulfils v h f depth region d (expect l p x i) = Only d (expects l p x) × Stands v h f depth region d.core i
Fulfils v h f depth region d (fork l r c i) = Forks v h f depth region d l r c i
Fulfils v h f depth region d (join l k i) = Only d (joins l k) × Stands v h f depth region d.core i
Fulfils v h f depth region d (arrive l n i) = Only d (arrives l n) × Stands v h f depth region d.core i
Fulfils v h f depth region d (joinstep l k i) = Only d (joinsteps l k) × Stands v h f depth region d.core i
Fulfils v h f depth region d (spend l) = Only d (spends l)
Fulfils v h f depth region d end = Only d ends

-- the machine gives what the move is, where so many local statements were executed
pub record Does (v h : ℕ) (f : Places) (limit depth : ℕ) (region : Region) (used : ℕ) (s : Core) (m : Move Inner) : Type 0 where
  pub count : ℕ
  pub done : Did
  pub ran : run (code_of f) limit count used s ≡ Some done
  pub fulfils : Fulfils v h f depth region done m
