-- What a thread does next.
--
-- `let`, `set`, `if`, `while` and `repeat` are local: they act on nothing but the thread itself. One local statement is counted each
-- time a `let`, `set` or `if` is executed, each time the condition of a `while` is tested, and each time the remaining count of a
-- `repeat` is tested; the count of a `repeat` is computed at its first test. To leave a block isn't counted.
use Rattle.std.specs.Prelude.{ℕ, zero, suc, List, [], ◌∷◌, Bool, true, false, cond, Option, Some, None, is_none}
use Rattle.std.specs.FinMap as map
use Rattle.tb_base.specs.declared.path.Region.{Region}
use Rattle.tb_base.specs.declared.path.Region.TheVariants.{Main, Monitor}
use Rattle.bench_model.specs.World.{Move}
use Rattle.bench_model.specs.World.Move.{poke, peek, expect, fork, join, arrive, joinstep, spend, end}
use Rattle.tl_threads.specs.Values.{Name, Numbers, Expr, number_of, value}
use Rattle.tl_threads.specs.Bodies.{Body}
use Rattle.tl_threads.specs.Bodies.Body.{nil, poke_port, peek_port, expect_port, step_by, let_var, if_true, while_true, repeat_by, fork_as, join_of, joinstep_of}

-- What remains of a thread, the innermost part first: what is left of a block, or a loop that was entered. The loop is tested again
-- when its body is used up; of a `repeat` the remaining count stands there.
pub data Frame : Type 0 where
  block : Body → Frame
  turn : (line : ℕ) → Expr → (body : Body) → Frame
  again : (line left : ℕ) → (body : Body) → Frame

-- What a thread keeps between two acts: what remains, its variables, its handles and the number of its forks. A handle names a child
-- by its number, in the order of the forks.
pub record Inner : Type 0 where
  pub rest : List Frame
  pub vars : Numbers
  pub handles : Numbers
  pub forks : ℕ

-- Main comes before Monitor
abbrev pub region_number : Region → ℕ
region_number Main = 0
region_number Monitor = 1

abbrev pub is_zero : ℕ → Bool
is_zero zero = true
is_zero (suc n) = false

-- a variable with a number, where one is named
abbrev pub set_if : Option Name → ℕ → Numbers → Numbers
set_if None n vars = vars
set_if (Some x) n vars = map.insert vars x n

-- a `while` that is tested: where the number is 0 what follows it remains, else its body and the loop
abbrev pub turns : (line : ℕ) → Expr → ℕ → (body : Body) → List Frame → List Frame
turns line e n body rest = cond (is_zero n) rest (block body ∷ turn line e body ∷ rest)

-- a `repeat` that is tested: where the count is 0 what follows it remains, else its body and the loop with one less
abbrev pub repeats : (line count : ℕ) → (body : Body) → List Frame → List Frame
repeats line zero body rest = rest
repeats line (suc n) body rest = block body ∷ again line n body ∷ rest

-- the thread with other parts that remain
abbrev pub keeps : Numbers → Numbers → ℕ → List Frame → Inner
keeps vars handles forks rest = record { rest = rest; vars = vars; handles = handles; forks = forks }

-- a thread that begins with a body: it has no handles
abbrev pub begins : Body → Numbers → Inner
begins body vars = record { rest = block body ∷ []; vars = vars; handles = map.empty; forks = 0 }

-- how it goes on behind a local statement of this line, with what remains then and the variables then
abbrev pub Goes : Type 0
Goes = (line : ℕ) → List Frame → Numbers → Move Inner

-- the first statement of a block, in front of the other parts; `done` is what comes where the block is used up
abbrev pub move_of : Goes → (vars handles : Numbers) (forks : ℕ) → Body → List Frame → (done : Move Inner) → Move Inner
move_of go vs hs n nil fs done = done
move_of go vs hs n (poke_port l p e k) fs done = poke l p.0 (value vs e) (λ old. keeps vs hs n (block k ∷ fs))
move_of go vs hs n (peek_port l p into k) fs done = peek l p.0 (is_none into) (λ x. keeps (set_if into x vs) hs n (block k ∷ fs))
move_of go vs hs n (expect_port l p e k) fs done = expect l p.0 (value vs e) (keeps vs hs n (block k ∷ fs))
move_of go vs hs n (step_by l count k) fs done = arrive l count (keeps vs hs n (block k ∷ fs))
move_of go vs hs n (let_var l x e k) fs done = go l (block k ∷ fs) (map.insert vs x (value vs e))
move_of go vs hs n (if_true l e a b k) fs done = go l (block (cond (is_zero (value vs e)) b a) ∷ block k ∷ fs) vs
move_of go vs hs n (while_true l e a k) fs done = go l (turns l e (value vs e) a (block k ∷ fs)) vs
move_of go vs hs n (repeat_by l e a k) fs done = go l (repeats l (value vs e) a (block k ∷ fs)) vs
move_of go vs hs n (fork_as l r h a k) fs done =
    fork l (region_number r) (begins a vs) (keeps vs (map.insert hs h n) (suc n) (block k ∷ fs))
move_of go vs hs n (join_of l h k) fs done = join l (number_of hs h) (keeps vs hs n (block k ∷ fs))
move_of go vs hs n (joinstep_of l h k) fs done = joinstep l (number_of hs h) (keeps vs hs n (block k ∷ fs))

-- the first statement that remains; parts that are used up are left
abbrev pub over : Goes → (vars handles : Numbers) (forks : ℕ) → List Frame → Move Inner
over go vs hs n [] = end
over go vs hs n (block b ∷ fs) = move_of go vs hs n b fs (over go vs hs n fs)
over go vs hs n (turn l e a ∷ fs) = go l (turns l e (value vs e) a fs) vs
over go vs hs n (again l count a ∷ fs) = go l (repeats l count a fs) vs

-- with so many local statements left: where none is and a local one comes, the thread is spent at its line
abbrev pub next_within : (left : ℕ) → (handles : Numbers) (forks : ℕ) → List Frame → (vars : Numbers) → Move Inner
next_within zero hs n fs vs = over (λ l gs ws. spend l) vs hs n fs
next_within (suc m) hs n fs vs = over (λ l gs ws. next_within m hs n gs ws) vs hs n fs

-- THE NEXT MOVE of a thread, with at most so many local statements before it
abbrev pub next : (limit : ℕ) → Inner → Move Inner
next limit i = next_within limit i.handles i.forks i.rest i.vars

-- the most local statements between two acts
abbrev pub most_local : ℕ
most_local = 65536

-- the root thread of a body
abbrev pub root_of : Body → Inner
root_of body = begins body map.empty
