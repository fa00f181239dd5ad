-- Each move of a thread that names ports names ports, and so does what comes behind it.
use Rattle.std.proofs.Common.{ℕ, zero, suc, List, [], ◌∷◌, Bool, true, false, cond}
use Rattle.std.specs.FinMap as map
use Rattle.net_core.specs.declared.tree.Elab.{Elab}
use Rattle.bench_model.specs.World.{Move}
use Rattle.bench_model.specs.World.Move.{poke, peek, expect, fork, join, arrive, joinstep, spend, end}
use Rattle.tl_threads.specs.Values.{Numbers, Expr, value}
use Rattle.tl_threads.specs.Bodies.{Body}
use Rattle.tl_threads.specs.Bodies.Body.{nil, poke_port, peek_port, expect_port, step_by, let_var, if_true, while_true, repeat_by, fork_as, join_of, joinstep_of}
use Rattle.tl_threads.specs.Threads.{Frame, Inner, Goes, is_zero, turns, repeats, move_of, over, next_within, next}
use Rattle.tl_threads.specs.Threads.Frame.{block, turn, again}
use Rattle.bench_reach.specs.Naming.{BodyNames, MoveNames}

-- what remains of a thread names ports
abbrev pub FramesName : Elab → List Frame → Type 0
FramesName e [] = Unit {0}
FramesName e (block b ∷ fs) = BodyNames e b × FramesName e fs
FramesName e (turn l x a ∷ fs) = BodyNames e a × FramesName e fs
FramesName e (again l count a ∷ fs) = BodyNames e a × FramesName e fs

-- what comes behind a move names ports
abbrev pub GoesOn : Elab → Move Inner → Type 0
GoesOn e (poke l p v i) = (a : ℕ) → FramesName e (i a).rest
GoesOn e (peek l s shown i) = (a : ℕ) → FramesName e (i a).rest
GoesOn e (expect l s v i) = FramesName e i.rest
GoesOn e (fork l r c i) = FramesName e c.rest × FramesName e i.rest
GoesOn e (join l k i) = FramesName e i.rest
GoesOn e (arrive l n i) = FramesName e i.rest
GoesOn e (joinstep l k i) = FramesName e i.rest
GoesOn e (spend l) = Unit {0}
GoesOn e end = Unit {0}

-- the move names ports, and so does what comes behind it
pub record Naming (e : Elab) (m : Move Inner) : Type 0 where
  pub now : MoveNames e m
  pub behind : GoesOn e m

module _ (e : Elab) (hm : Numbers) (n : ℕ) where
  -- how a local statement goes on
  GoNames : Goes → Type 0
  GoNames go = (l : ℕ) (fs : List Frame) (vs : Numbers) → FramesName e fs → Naming e (go l fs vs)

  side : (a b : Body) (z : Bool) → BodyNames e a → BodyNames e b → BodyNames e (cond z b a)
  side a b true s t = t
  side a b false s t = s

  turned : (l : ℕ) (x : Expr) (a : Body) (fs : List Frame) (z : Bool) → BodyNames e a → FramesName e fs → FramesName e (cond z fs (block a ∷ turn l x a ∷ fs))
  turned l x a fs true s t = t
  turned l x a fs false s t = (s, (s, t))

  repeated : (l count : ℕ) (a : Body) (fs : List Frame) → BodyNames e a → FramesName e fs → FramesName e (repeats l count a fs)
  repeated l zero a fs s t = t
  repeated l (suc c) a fs s t = (s, (s, t))

  body_names : (go : Goes) → GoNames go → (vs : Numbers) (b : Body) (fs : List Frame) (done : Move Inner) → BodyNames e b → FramesName e fs → Naming e done → Naming e (move_of go vs hm n b fs done)
  unfolding GoNames
  body_names go G vs nil fs done a t d = d
  body_names go G vs (poke_port l p x k) fs done a t d = record { now = a.0; behind = λ z. (a.1, t) }
  body_names go G vs (peek_port l p into k) fs done a t d = record { now = a.0; behind = λ z. (a.1, t) }
  body_names go G vs (expect_port l p x k) fs done a t d = record { now = a.0; behind = (a.1, t) }
  body_names go G vs (step_by l c k) fs done a t d = record { now = tt; behind = (a, t) }
  body_names go G vs (let_var l x v k) fs done a t d = G l (block k ∷ fs) (map.insert vs x (value vs v)) (a, t)
  body_names go G vs (if_true l x s r k) fs done a t d = G l (block (cond (is_zero (value vs x)) r s) ∷ block k ∷ fs) vs (side s r (is_zero (value vs x)) a.0 a.1, (a.2, t))
  body_names go G vs (while_true l x s k) fs done a t d = G l (turns l x (value vs x) s (block k ∷ fs)) vs (turned l x s (block k ∷ fs) (is_zero (value vs x)) a.0 (a.1, t))
  body_names go G vs (repeat_by l x s k) fs done a t d = G l (repeats l (value vs x) s (block k ∷ fs)) vs (repeated l (value vs x) s (block k ∷ fs) a.0 (a.1, t))
  body_names go G vs (fork_as l r h s k) fs done a t d = record { now = tt; behind = ((a.0, tt), (a.1, t)) }
  body_names go G vs (join_of l h k) fs done a t d = record { now = tt; behind = (a, t) }
  body_names go G vs (joinstep_of l h k) fs done a t d = record { now = tt; behind = (a, t) }

  over_names : (go : Goes) → GoNames go → (vs : Numbers) (fs : List Frame) → FramesName e fs → Naming e (over go vs hm n fs)
  unfolding GoNames
  over_names go G vs [] t = record { now = tt; behind = tt }
  over_names go G vs (block b ∷ fs) (a, t) = body_names go G vs b fs (over go vs hm n fs) a t (over_names go G vs fs t)
  over_names go G vs (turn l x s ∷ fs) (a, t) = G l (turns l x (value vs x) s fs) vs (turned l x s fs (is_zero (value vs x)) a t)
  over_names go G vs (again l c s ∷ fs) (a, t) = G l (repeats l c s fs) vs (repeated l c s fs a t)

  go_spends : GoNames (λ l gs ws. spend l)
  unfolding GoNames
  go_spends l fs vs t = record { now = tt; behind = tt }

  go_on : (m : ℕ) → ((vs : Numbers) (fs : List Frame) → FramesName e fs → Naming e (next_within m hm n fs vs)) → GoNames (λ l gs ws. next_within m hm n gs ws)
  unfolding GoNames
  go_on m r l fs vs t = r vs fs t

  within_names : (m : ℕ) (vs : Numbers) (fs : List Frame) → FramesName e fs → Naming e (next_within m hm n fs vs)
  within_names zero vs fs t = over_names (λ l gs ws. spend l) go_spends vs fs t
  within_names (suc m) vs fs t = over_names (λ l gs ws. next_within m hm n gs ws) (go_on m (λ vs fs t. within_names m vs fs t)) vs fs t

-- EACH MOVE NAMES PORTS, with any limit of local statements
pub moves_name : (e : Elab) (limit : ℕ) (i : Inner) → FramesName e i.rest → Naming e (next limit i)
moves_name e limit i t = within_names e i.handles i.forks limit i.vars i.rest t
