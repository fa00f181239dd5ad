-- What was done, as a move.
use Rattle.std.proofs.Common.{◌≡◌, ℕ, zero, suc, List, [], ◌∷◌, cond, is_none, refl, sym, ap, ◌∙◌}
use Rattle.std.specs.FinMap as map
use Rattle.tb_base.specs.declared.path.Region.{Region}
use Rattle.bench_model.specs.World.{Move}
use Rattle.bench_model.specs.World.Move.{poke, peek, expect, fork, join, arrive, joinstep, spend, end}
use Rattle.tl_threads.specs.Values.{Numbers, value}
use Rattle.tl_threads.specs.Bodies.{Body}
use Rattle.tl_threads.specs.Bodies.Body.{nil, poke_port, peek_port, expect_port, step_by, let_var, if_true, while_true, repeat_by, fork_as, join_of, joinstep_of}
use Rattle.tl_threads.specs.Threads.{Frame, Inner, Goes, region_number, is_zero, turns, repeats, move_of, over, next_within, next}
use Rattle.tl_threads.specs.Threads.Frame.{block, turn, again}
use Rattle.tl_threads.specs.Machine.{Did, Doing}
use Rattle.tl_threads.specs.Machine.Doing.{pokes, peeks, expects, arrives, forks, joins, joinsteps, spends, ends}
use Rattle.tl_threads.specs.Stands.{Places, Fulfils}

-- the move that this is, where a thread goes on so, and its child so
abbrev pub as_move : Doing → (ℕ → Inner) → Inner → Move Inner
as_move (pokes l p raw) i b = poke l p raw i
as_move (peeks l p into) i b = peek l p (is_none into) i
as_move (expects l p wanted) i b = expect l p wanted (i 0)
as_move (arrives l n) i b = arrive l n (i 0)
as_move (forks l g) i b = fork l (region_number g) b (i 0)
as_move (joins l k) i b = join l k (i 0)
as_move (joinsteps l k) i b = joinstep l k (i 0)
as_move (spends l) i b = spend l
as_move ends i b = end

-- how a thread goes on behind a move
abbrev pub goes_on : Inner → Move Inner → ℕ → Inner
goes_on d (poke l p v i) = i
goes_on d (peek l s b i) = i
goes_on d (expect l s v i) = λ a. i
goes_on d (fork l r c i) = λ a. i
goes_on d (join l k i) = λ a. i
goes_on d (arrive l n i) = λ a. i
goes_on d (joinstep l k i) = λ a. i
goes_on d (spend l) = λ a. d
goes_on d end = λ a. d

-- how its child begins
abbrev pub begins_as : Inner → Move Inner → Inner
begins_as d (fork l r c i) = c
begins_as d _ = d

-- WHAT WAS DONE IS THE MOVE
pub done_is_move : (v h : ℕ) (f : Places) (depth : ℕ) (g : Region) (d : Did) (i : Inner) (m : Move Inner) → Fulfils v h f depth g d m → m ≡ as_move d.doing (goes_on i m) (begins_as i m)
done_is_move v h f depth g d i (poke l p x k) is = ap (λ q. as_move q k i) (sym is.0.0)
done_is_move v h f depth g d i (peek l p shown k) is = ap (λ b. peek l p b k) is.shows ∙ ap (λ q. as_move q k i) (sym is.only.0)
done_is_move v h f depth g d i (expect l p x k) is = ap (λ q. as_move q (λ a. k) i) (sym is.0.0)
done_is_move v h f depth g d i (fork l r c k) is = ap (λ r. fork l r c k) is.number ∙ ap (λ q. as_move q (λ a. k) c) (sym is.doing)
done_is_move v h f depth g d i (join l j k) is = ap (λ q. as_move q (λ a. k) i) (sym is.0.0)
done_is_move v h f depth g d i (arrive l n k) is = ap (λ q. as_move q (λ a. k) i) (sym is.0.0)
done_is_move v h f depth g d i (joinstep l j k) is = ap (λ q. as_move q (λ a. k) i) (sym is.0.0)
done_is_move v h f depth g d i (spend l) is = ap (λ q. as_move q (λ a. i) i) (sym is.0)
done_is_move v h f depth g d i end is = ap (λ q. as_move q (λ a. i) i) (sym is.0)

-- ---- forks

-- a move of a thread with so many forks adds one to them where it is a fork, and none otherwise
abbrev pub CountsForks : ℕ → Move Inner → Type 0
CountsForks n (poke l p v i) = (a : ℕ) → (i a).forks ≡ n
CountsForks n (peek l s b i) = (a : ℕ) → (i a).forks ≡ n
CountsForks n (expect l s v i) = i.forks ≡ n
CountsForks n (fork l r c i) = i.forks ≡ suc n
CountsForks n (join l k i) = i.forks ≡ n
CountsForks n (arrive l k i) = i.forks ≡ n
CountsForks n (joinstep l k i) = i.forks ≡ n
CountsForks n (spend l) = Unit {0}
CountsForks n end = Unit {0}

GoCounts : ℕ → Goes → Type 0
GoCounts n go = (l : ℕ) (fs : List Frame) (vs : Numbers) → CountsForks n (go l fs vs)

body_counts : (go : Goes) (vs hs : Numbers) (n : ℕ) → GoCounts n go → (b : Body) (fs : List Frame) (done : Move Inner) → CountsForks n done → CountsForks n (move_of go vs hs n b fs done)
unfolding GoCounts
body_counts go vs hs n G nil fs done d = d
body_counts go vs hs n G (poke_port l p e k) fs done d = λ a. refl
body_counts go vs hs n G (peek_port l p into k) fs done d = λ a. refl
body_counts go vs hs n G (expect_port l p e k) fs done d = refl
body_counts go vs hs n G (step_by l c k) fs done d = refl
body_counts go vs hs n G (let_var l x e k) fs done d = G l (block k ∷ fs) (map.insert vs x (value vs e))
body_counts go vs hs n G (if_true l e a b k) fs done d = G l (block (cond (is_zero (value vs e)) b a) ∷ block k ∷ fs) vs
body_counts go vs hs n G (while_true l e a k) fs done d = G l (turns l e (value vs e) a (block k ∷ fs)) vs
body_counts go vs hs n G (repeat_by l e a k) fs done d = G l (repeats l (value vs e) a (block k ∷ fs)) vs
body_counts go vs hs n G (fork_as l r h a k) fs done d = refl
body_counts go vs hs n G (join_of l h k) fs done d = refl
body_counts go vs hs n G (joinstep_of l h k) fs done d = refl

over_counts : (go : Goes) (vs hs : Numbers) (n : ℕ) → GoCounts n go → (fs : List Frame) → CountsForks n (over go vs hs n fs)
unfolding GoCounts
over_counts go vs hs n G [] = tt
over_counts go vs hs n G (block b ∷ fs) = body_counts go vs hs n G b fs (over go vs hs n fs) (over_counts go vs hs n G fs)
over_counts go vs hs n G (turn l e a ∷ fs) = G l (turns l e (value vs e) a fs) vs
over_counts go vs hs n G (again l c a ∷ fs) = G l (repeats l c a fs) vs

spend_counts : (n : ℕ) → GoCounts n (λ l gs ws. spend l)
unfolding GoCounts
spend_counts n l fs vs = tt

on_counts : (m : ℕ) (hs : Numbers) (n : ℕ) → ((fs : List Frame) (vs : Numbers) → CountsForks n (next_within m hs n fs vs)) → GoCounts n (λ l gs ws. next_within m hs n gs ws)
unfolding GoCounts
on_counts m hs n r l fs vs = r fs vs

within_counts : (m : ℕ) (hs : Numbers) (n : ℕ) (fs : List Frame) (vs : Numbers) → CountsForks n (next_within m hs n fs vs)
within_counts zero hs n fs vs = over_counts (λ l gs ws. spend l) vs hs n (spend_counts n) fs
within_counts (suc m) hs n fs vs = over_counts (λ l gs ws. next_within m hs n gs ws) vs hs n (on_counts m hs n (λ gs ws. within_counts m hs n gs ws)) fs

pub next_counts : (limit : ℕ) (i : Inner) → CountsForks i.forks (next limit i)
next_counts limit i = within_counts limit i.handles i.forks i.rest i.vars
