-- The machine gives one action, however many instructions it may execute.
use Rattle.std.proofs.Common.{◌≡◌, ℕ, zero, suc, ◌+◌, ◌≤◌, Bool, true, false, cond, nat_le, nat_lt, Option, Some, None, sym, ◌∙◌, arith}
use Rattle.tb_base.specs.declared.path.Region.{Region}
use Rattle.tl_threads.specs.declared.code.Instr.{Instr}
use Rattle.tl_threads.specs.declared.code.Instr.TheVariants as instr
use Rattle.tl_threads.specs.Threads.{Inner}
use Rattle.tl_threads.specs.Machine.{Core, Did, Code, Go, step, run, locally, counted_on, go_if}
use Rattle.tl_threads.specs.Stands.{Places, code_of, Stands}
use Rattle.tl_threads.specs.Laws.{Works}
use Rattle.tl_threads.proofs.Refines.{refines}

-- one way of going on gives all that another gives
AtLeast : Go → Go → Type 0
AtLeast g h = (s : Core) (d : Did) → g s ≡ Some d → h s ≡ Some d

locally_more : (full : Bool) (l : ℕ) (s : Core) (r q : Option Did) (d : Did) → ((d : Did) → r ≡ Some d → q ≡ Some d) → locally full l s r ≡ Some d → locally full l s q ≡ Some d
locally_more true l s r q d f e = e
locally_more false l s r q d f e = f d e

cond_more : (b : Bool) (r q : Option Did) (d : Did) → (r ≡ Some d → q ≡ Some d) → cond b r None ≡ Some d → cond b q None ≡ Some d
cond_more true r q d f e = f e
cond_more false r q d f e = e

if_more : (g h : Go) → AtLeast g h → (o : Option Core) (d : Did) → go_if g o ≡ Some d → go_if h o ≡ Some d
unfolding AtLeast
if_more g h a None d e = e
if_more g h a (Some s) d e = a s d e

step_more : (full : Bool) (j g j' g' : Go) → AtLeast j j' → AtLeast g g' → (s : Core) (o : Option Instr) (d : Did) → step full j g s o ≡ Some d → step full j' g' s o ≡ Some d
unfolding AtLeast
step_more full j g j' g' a b s None d e = e
step_more full j g j' g' a b s (Some (instr.Poke l p o)) d e = e
step_more full j g j' g' a b s (Some (instr.Peek l p o)) d e = e
step_more full j g j' g' a b s (Some (instr.Expect l p o)) d e = e
step_more full j g j' g' a b s (Some (instr.Step l n)) d e = e
step_more full j g j' g' a b s (Some (instr.Store l k o)) d e = locally_more full l s _ _ d (λ d. b _ d) e
step_more full j g j' g' a b s (Some (instr.Unless l o to)) d e = locally_more full l s _ _ d (λ d. b _ d) e
step_more full j g j' g' a b s (Some (instr.Goto to)) d e = cond_more (nat_lt s.pc to) _ _ d (a _ d) e
step_more full j g j' g' a b s (Some (instr.Enter l o to)) d e = locally_more full l s _ _ d (λ d. b _ d) e
step_more full j g j' g' a b s (Some (instr.Turn l o to)) d e = locally_more full l s _ _ d (λ d. b _ d) e
step_more full j g j' g' a b s (Some (instr.Count l o to)) d e = locally_more full l s _ _ d (λ d. b _ d) e
step_more full j g j' g' a b s (Some (instr.Again l back)) d e = locally_more full l s _ _ d (λ d. if_more g g' b (counted_on s.pc back s s.loops) d) e
step_more full j g j' g' a b s (Some (instr.Fork l r k to)) d e = e
step_more full j g j' g' a b s (Some (instr.Join l k)) d e = e
step_more full j g j' g' a b s (Some (instr.JoinStep l k)) d e = e
step_more full j g j' g' a b s (Some instr.End) d e = e

-- more instructions don't change what the machine gives
pub run_more : (f : Code) (limit n m used : ℕ) (s : Core) (d : Did) → n ≤ m → run f limit n used s ≡ Some d → run f limit m used s ≡ Some d
unfolding AtLeast
run_more f limit zero m used s d le e = absurd (cc)
run_more f limit (suc n) zero used s d le e = absurd (omega arith)
run_more f limit (suc n) (suc m) used s d le e =
    step_more (nat_le limit used) (λ t. run f limit n used t) (λ t. run f limit n (suc used) t) (λ t. run f limit m used t) (λ t. run f limit m (suc used) t)
    (λ t d. run_more f limit n m used t d (omega arith)) (λ t d. run_more f limit n m (suc used) t d (omega arith)) s (f s.pc) d e

-- THE MACHINE GIVES ONE ACTION
pub one_action : (f : Code) (limit n m used : ℕ) (s : Core) (d e : Did) → run f limit n used s ≡ Some d → run f limit m used s ≡ Some e → d ≡ e
one_action f limit n m used s d e x y =
    let a : run f limit (n + m) used s ≡ Some d = run_more f limit n (n + m) used s d (omega arith) x in
    let b : run f limit (n + m) used s ≡ Some e = run_more f limit m (n + m) used s e (omega arith) y in
    let c : Some d ≡ Some e = sym a ∙ b in
    cc

-- a place that stands for a thread isn't stuck
pub stands_works : (v h : ℕ) (f : Places) (limit d : ℕ) (g : Region) (s : Core) (i : Inner) → Stands v h f d g s i → Works limit (code_of f) s
stands_works v h f limit d g s i st = let r = refines v h f limit d g s i st in (r.count, r.done, r.ran)
