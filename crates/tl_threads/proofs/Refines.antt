-- The code does what the definitions say.
use Rattle.std.proofs.Common.{◌≡◌, ℕ, zero, suc, ◌+◌, ◌<◌, ◌≤◌, List, [], ◌∷◌, length, Bool, true, false, cond, nat_le, Option, Some, None, is_none, refl, sym, ap, subst, ◌∙◌, inl, inr, arith, slice_get, slice_set, unwrap_or}
use Rattle.std.specs.FinMap as map
use Rattle.std.proofs.lemmas.Bool.{le-leb, leb-true, lt-ltb}
use Rattle.std.proofs.lemmas.List.{length-replicate, length-set}
use Rattle.tb_base.specs.declared.path.Region.{Region}
use Rattle.net_core.specs.declared.ports.Signal.{Signal}
use Rattle.bench_model.specs.World.{Move}
use Rattle.bench_model.specs.World.Move.{peek, fork, join, joinstep, spend, end}
use Rattle.tl_threads.specs.declared.code.Placed.{Placed}
use Rattle.tl_threads.specs.declared.code.Instr.TheVariants as instr
use Rattle.tl_threads.specs.Values.{Name, Numbers, Expr, number_of, value}
use Rattle.tl_threads.specs.Bodies.{Body}
use Rattle.tl_threads.specs.Bodies.Body.{nil, poke_port, peek_port, expect_port, step_by, let_var, if_true, while_true, repeat_by, fork_as, join_of, joinstep_of}
use Rattle.tl_threads.specs.Threads.{Frame, Inner, Goes, region_number, is_zero, set_if, turns, repeats, keeps, begins, move_of, over, next_within, next}
use Rattle.tl_threads.specs.Threads.Frame.{block, turn, again}
use Rattle.tl_threads.specs.Machine.{Core, Did, Doing, Go, taken, step, run, counted, counted_on, locally, go_if, with_child, forked}
use Rattle.tl_threads.specs.Machine.Doing.{pokes, peeks, expects, arrives, joins, joinsteps, spends, ends}
use Rattle.tl_threads.specs.Code.{Scope, slot, with_name, operand, at, with_var, with_handle, deeper, child_scope, block_code}
use Rattle.tl_threads.specs.Stands.{Places, instr_of, code_of, Known, KnownIn, Checked, HasAt, Outer, Once, Jumps, Laid, Turned, Counted, Continues, Agrees, Names, Slots, Stands, born, Only, Fulfils, Does}
use Rattle.tl_threads.proofs.NameFacts.{within_refl, with_within, agrees_set, agrees_known, names_set, once_with, once_empty}
use Rattle.tl_threads.proofs.Operands.{operand_value}
use Rattle.tl_threads.proofs.Layouts.{outer_refl, Framed, framed_parts, Choice, choice_parts, then_block, past}

-- ---- slots, in each scope and each region

slots_outer : (v h d : ℕ) (g : Region) (o c : Scope) (s : Core) (m hm : Numbers) (n : ℕ) → Outer o c → Slots v h d g c s m hm n → Slots v h d g o s m hm n
slots_outer v h d g o c s m hm n w sl = record {
  vars = λ x k e. sl.vars x k (w.vars x k e);
  handles = λ x k e. sl.handles x k (w.handles x k e);
  locals_len = sl.locals_len;
  handles_len = sl.handles_len;
  forks = sl.forks;
  depth_is = w.depth ∙ sl.depth_is;
  region_is = w.region ∙ sl.region_is;
}

-- the same slots at another place
slots_at : (v h d : ℕ) (g : Region) (c : Scope) (s : Core) (pc : ℕ) (loops : List ℕ) (m hm : Numbers) (n : ℕ) → Slots v h d g c s m hm n → Slots v h d g c (record s { pc = pc; loops = loops }) m hm n
slots_at v h d g c s pc loops m hm n sl = record { vars = sl.vars; handles = sl.handles; locals_len = sl.locals_len; handles_len = sl.handles_len; forks = sl.forks; depth_is = sl.depth_is; region_is = sl.region_is }

slots_deeper : (v h d : ℕ) (g : Region) (c : Scope) (s : Core) (pc : ℕ) (loops : List ℕ) (m hm : Numbers) (n : ℕ) → Slots v h d g c s m hm n → Slots v h d g (deeper c) (record s { pc = pc; loops = loops }) m hm n
slots_deeper v h d g c s pc loops m hm n sl = record { vars = sl.vars; handles = sl.handles; locals_len = sl.locals_len; handles_len = sl.handles_len; forks = sl.forks; depth_is = sl.depth_is; region_is = sl.region_is }

-- a write to a variable
slots_set : (v h d : ℕ) (g : Region) (c : Scope) (s : Core) (pc : ℕ) (x : Name) (y z : ℕ) (m hm : Numbers) (n : ℕ) → length (with_name c.vars x) ≤ v → y ≡ z → Slots v h d g c s m hm n
    → Slots v h d g (with_var x c) (record s { pc = pc; locals = slice_set s.locals (slot x (with_name c.vars x)) y }) (map.insert m x z) hm n
slots_set v h d g c s pc x y z m hm n le e sl = record {
  vars = subst (λ w. Agrees (with_name c.vars x) (map.insert m x w) (slice_set s.locals (slot x (with_name c.vars x)) y)) e (agrees_set c.vars m s.locals x y (subst (λ w. length (with_name c.vars x) ≤ w) (sym sl.locals_len) le) sl.vars);
  handles = sl.handles;
  locals_len = length-set s.locals (slot x (with_name c.vars x)) y ∙ sl.locals_len;
  handles_len = sl.handles_len;
  forks = sl.forks;
  depth_is = sl.depth_is;
  region_is = sl.region_is;
}

-- a write to a known variable
known_set : (v h d : ℕ) (g : Region) (c : Scope) (s : Core) (pc : ℕ) (x : Name) (y : ℕ) (m hm : Numbers) (n : ℕ) → Known c.vars x → slot x c.vars < v → Slots v h d g c s m hm n
    → Slots v h d g c (record s { pc = pc; locals = slice_set s.locals (slot x c.vars) y }) (map.insert m x y) hm n
known_set v h d g c s pc x y m hm n kn lt sl = record {
  vars = agrees_known c.vars m s.locals x y kn (subst (λ w. slot x c.vars < w) (sym sl.locals_len) lt) sl.vars;
  handles = sl.handles;
  locals_len = length-set s.locals (slot x c.vars) y ∙ sl.locals_len;
  handles_len = sl.handles_len;
  forks = sl.forks;
  depth_is = sl.depth_is;
  region_is = sl.region_is;
}

-- a child goes into the slot of a handle
handle_set : (v h d : ℕ) (g : Region) (c : Scope) (s : Core) (pc : ℕ) (x : Name) (m hm : Numbers) (n : ℕ) → length (with_name c.handles x) ≤ h → Slots v h d g c s m hm n
    → Slots v h d g (with_handle x c) (record s { pc = pc; handles = slice_set s.handles (slot x (with_name c.handles x)) (Some s.forks); forks = suc s.forks }) m (map.insert hm x n) (suc n)
handle_set v h d g c s pc x m hm n le sl = record {
  vars = sl.vars;
  handles = subst (λ z. Names (with_name c.handles x) (map.insert hm x z) (slice_set s.handles (slot x (with_name c.handles x)) (Some s.forks))) sl.forks (names_set c.handles hm s.handles x s.forks (subst (λ z. length (with_name c.handles x) ≤ z) (sym sl.handles_len) le) sl.handles);
  locals_len = sl.locals_len;
  handles_len = length-set s.handles (slot x (with_name c.handles x)) (Some s.forks) ∙ sl.handles_len;
  forks = ap (λ z. suc z) sl.forks;
  depth_is = sl.depth_is;
  region_is = sl.region_is;
}

-- a newborn child has no handles
slots_born : (v h d : ℕ) (g into : Region) (c : Scope) (s : Core) (pc : ℕ) (m hm : Numbers) (n : ℕ) → Slots v h d g c s m hm n → Slots v h (suc d) into (child_scope into c) (born h pc s) m map.empty 0
slots_born v h d g into c s pc m hm n sl = record {
  vars = sl.vars;
  handles = λ x i e. absurd (let f : None ≡ Some i = e in cc);
  locals_len = sl.locals_len;
  handles_len = length-replicate h None;
  forks = refl;
  depth_is = ap (λ z. suc z) sl.depth_is;
  region_is = refl;
}

-- ---- the module's code, and a thread's depth and region

module _ (v h : ℕ) (f : Places) (limit d : ℕ) (g : Region) where
  -- one instruction
  one_step : (n used : ℕ) (s : Core) (x : Placed) → f s.pc ≡ Some x → run (code_of f) limit (suc n) used s ≡ step (nat_le limit used) (λ t. run (code_of f) limit n used t) (λ t. run (code_of f) limit n (suc used) t) s (Some x.instr)
  one_step n used s x e = ap (λ o. step (nat_le limit used) (λ t. run (code_of f) limit n used t) (λ t. run (code_of f) limit n (suc used) t) s (instr_of o)) e

  -- a jump isn't counted
  jumped : (used : ℕ) (s : Core) (o : Scope) (r : ℕ) (m : Move Inner) → Jumps f o s.pc r → Does v h f limit d g used (record s { pc = r }) m → Does v h f limit d g used s m
  jumped used s o r m (inl e) t = subst (λ p. Does v h f limit d g used (record s { pc = p }) m) (sym e) t
  jumped used s o r m (inr e) t = record {
    count = suc t.count;
    done = t.done;
    ran = one_step t.count used s (at o (instr.Goto r)) e.0 ∙ ap (λ b. cond b (run (code_of f) limit t.count used (record s { pc = r })) None) (lt-ltb s.pc r e.1) ∙ t.ran;
    fulfils = t.fulfils;
  }

  -- an action ends the run
  acts : (used : ℕ) (s : Core) (x : Placed) (r : Did) (m : Move Inner) → f s.pc ≡ Some x → ((full : Bool) (jump go : Go) → step full jump go s (Some x.instr) ≡ Some r) → Fulfils v h f d g r m → Does v h f limit d g used s m
  acts used s x r m e st ful = record { count = 1; done = r; ran = one_step 0 used s x e ∙ st (nat_le limit used) (λ t. run (code_of f) limit 0 used t) (λ t. run (code_of f) limit 0 (suc used) t); fulfils = ful }

  -- how a local statement goes on
  Resumes : (used : ℕ) (hm : Numbers) (n : ℕ) → Goes → Type 0
  Resumes used hm n go = (l : ℕ) (fs : List Frame) (m : Numbers) (s t : Core) (x : Placed) (c : Scope) → f s.pc ≡ Some x
      → ((full : Bool) (jump to : Go) → step full jump to s (Some x.instr) ≡ locally full l s (to t)) → Continues v h f c t.pc fs t.loops → Slots v h d g c t m hm n → Does v h f limit d g used s (go l fs m)

  -- ---- the loops

  turned_on : (o : Scope) (q back l : ℕ) (e : Expr) (a : Body) (fs : List Frame) (loops : List ℕ) → Turned v h f o o q back l e a loops → Continues v h f o (suc q) fs loops → (b : Bool) → Continues v h f o (cond b (suc q) back) (cond b fs (block a ∷ turn l e a ∷ fs)) loops
  turned_on o q back l e a fs loops t k true = k
  turned_on o q back l e a fs loops t k false = (back, o, inl refl, outer_refl o, t.body, subst (λ p. Continues v h f o p (turn l e a ∷ fs) loops) t.foot (back, o, t, k))

  over_turn : (used : ℕ) (hm : Numbers) (n : ℕ) (go : Goes) → Resumes used hm n go → (l : ℕ) (e : Expr) (a : Body) (fs : List Frame) (m : Numbers) (s : Core) (o : Scope) (back : ℕ) → Turned v h f o o s.pc back l e a s.loops → Continues v h f o (suc s.pc) fs s.loops → Slots v h d g o s m hm n → Does v h f limit d g used s (go l (turns l e (value m e) a fs) m)
  unfolding Resumes
  over_turn used hm n go R l e a fs m s o back t k sl =
      R l (turns l e (value m e) a fs) m s (record s { pc = cond (is_zero (value m e)) (suc s.pc) back }) (at o (instr.Turn l (operand o.vars e) back)) o t.here
      (λ full jump to. ap (λ x. locally full l s (to (record s { pc = cond (is_zero x) (suc s.pc) back }))) (operand_value o.vars m s.locals e sl.vars t.known))
      (turned_on o s.pc back l e a fs s.loops t k (is_zero (value m e)))
      (slots_at v h d g o s (cond (is_zero (value m e)) (suc s.pc) back) s.loops m hm n sl)

  over_again : (used : ℕ) (hm : Numbers) (n : ℕ) (go : Goes) → Resumes used hm n go → (l left : ℕ) (a : Body) (fs : List Frame) (m : Numbers) (s : Core) (o : Scope) (back : ℕ) (rest : List ℕ) → Counted v h f o o s.pc back l left a rest s.loops → Continues v h f o (suc s.pc) fs rest → Slots v h d g o s m hm n → Does v h f limit d g used s (go l (repeats l left a fs) m)
  unfolding Resumes
  over_again used hm n go R l zero a fs m s o back rest t k sl =
      R l fs m s (record s { pc = suc s.pc; loops = rest }) (at (deeper o) (instr.Again l back)) o t.here
      (λ full jump to. ap (λ x. locally full l s (go_if to (counted_on s.pc back s x))) t.counts)
      k
      (slots_at v h d g o s (suc s.pc) rest m hm n sl)
  over_again used hm n go R l (suc left) a fs m s o back rest t k sl =
      R l (block a ∷ again l left a ∷ fs) m s (record s { pc = back; loops = left ∷ rest }) (at (deeper o) (instr.Again l back)) (deeper o) t.here
      (λ full jump to. ap (λ x. locally full l s (go_if to (counted_on s.pc back s x))) t.counts) (
        back,
        deeper o,
        inl refl,
        outer_refl (deeper o),
        laid,
        subst (λ p. Continues v h f (deeper o) p (again l left a ∷ fs) (left ∷ rest)) t.foot
            (back, o, rest, record { outer = record { vars = within_refl o.vars; handles = within_refl o.handles; depth = refl; region = refl }; counts = refl; here = t.here; body = laid; foot = t.foot }, k),
      )
      (slots_deeper v h d g o s back (left ∷ rest) m hm n sl)
    where
      laid : Laid v h f (deeper o) back a (left ∷ rest)
      laid = record { code = t.body.code; checked = t.body.checked; once = t.body.once; counts = t.body.counts ∙ ap length t.counts }

  -- entering a `repeat`
  enter_counted : (used : ℕ) (hm : Numbers) (n : ℕ) (go : Goes) → Resumes used hm n go → (l x : ℕ) (e : Expr) (a k : Body) (fs : List Frame) (m : Numbers) (s : Core) (o : Scope) → value m e ≡ x → KnownIn o.vars e → Checked v h a o.vars o.handles → Checked v h k o.vars o.handles → Once o.handles → o.loops ≡ length s.loops →
      (p : Framed f s.pc (λ to. at o (instr.Count l (operand o.vars e) to)) (λ p. block_code a (deeper o) p) (λ back. at (deeper o) (instr.Again l back)) (λ p. block_code k o p)) → Continues v h f o (p.out + length (block_code k o p.out)) fs s.loops → Slots v h d g o s m hm n → Does v h f limit d g used s (go l (repeats l x a (block k ∷ fs)) m)
  unfolding Resumes
  enter_counted used hm n go R l zero e a k fs m s o ex kn ca ck once cn p c sl =
      R l (block k ∷ fs) m s (record s { pc = p.out }) (at o (instr.Count l (operand o.vars e) p.out)) o p.at_head
      (λ full jump to. ap (λ x. locally full l s (to (counted x s.pc p.out s))) (operand_value o.vars m s.locals e sl.vars kn ∙ ex))
      (then_block v h f o o p.out _ k fs s.loops (record { code = p.at_rest; checked = ck; once = once; counts = cn }) (outer_refl o) refl c)
      (slots_at v h d g o s p.out s.loops m hm n sl)
  enter_counted used hm n go R l (suc x) e a k fs m s o ex kn ca ck once cn p c sl =
      R l (block a ∷ again l x a ∷ block k ∷ fs) m s (record s { pc = suc s.pc; loops = x ∷ s.loops }) (at o (instr.Count l (operand o.vars e) p.out)) (deeper o) p.at_head
      (λ full jump to. ap (λ x. locally full l s (to (counted x s.pc p.out s))) (operand_value o.vars m s.locals e sl.vars kn ∙ ex)) (
        suc s.pc,
        deeper o,
        inl refl,
        outer_refl (deeper o),
        laid,
        subst (λ q. Continues v h f (deeper o) q (again l x a ∷ block k ∷ fs) (x ∷ s.loops)) p.foot_is (
          suc s.pc,
          o,
          s.loops,
          record { outer = record { vars = within_refl o.vars; handles = within_refl o.handles; depth = refl; region = refl }; counts = refl; here = p.at_foot; body = laid; foot = p.foot_is },
          subst (λ q. Continues v h f o q (block k ∷ fs) s.loops) p.out_is (then_block v h f o o p.out _ k fs s.loops (record { code = p.at_rest; checked = ck; once = once; counts = cn }) (outer_refl o) refl c),
        ),
      )
      (slots_deeper v h d g o s (suc s.pc) (x ∷ s.loops) m hm n sl)
    where
      laid : Laid v h f (deeper o) (suc s.pc) a (x ∷ s.loops)
      laid = record { code = p.at_body; checked = ca; once = once; counts = ap (λ z. suc z) cn }

  -- the sides of an `if`, and the body of a `while`
  choice_on : (o : Scope) (pc l : ℕ) (e : Expr) (a b k : Body) (fs : List Frame) (loops : List ℕ) → Checked v h a o.vars o.handles → Checked v h b o.vars o.handles → Checked v h k o.vars o.handles → Once o.handles → o.loops ≡ length loops →
      (p : Choice f pc o (λ to. at o (instr.Unless l (operand o.vars e) to)) (λ p. block_code a o p) (λ p. block_code b o p) (λ p. block_code k o p)) → Continues v h f o (p.out + length (block_code k o p.out)) fs loops → (z : Bool) → Continues v h f o (cond z p.other (suc pc)) (block (cond z b a) ∷ block k ∷ fs) loops
  choice_on o pc l e a b k fs loops ca cb ck once cn p c true =
      (p.other, o, inl refl, outer_refl o, record { code = p.at_second; checked = cb; once = once; counts = cn }, (p.out, o, inl (sym p.out_is), outer_refl o, record { code = p.at_rest; checked = ck; once = once; counts = cn }, c))
  choice_on o pc l e a b k fs loops ca cb ck once cn p c false =
      (suc pc, o, inl refl, outer_refl o, record { code = p.at_first; checked = ca; once = once; counts = cn }, (p.out, o, inr (ap f (sym p.goto_is) ∙ p.at_goto, (let a : _ ≡ _ = p.goto_is in let b : _ ≡ _ = p.other_is in let d : _ ≡ _ = p.out_is in omega arith)), outer_refl o, record { code = p.at_rest; checked = ck; once = once; counts = cn }, c))

  while_on : (o : Scope) (pc l : ℕ) (e : Expr) (a k : Body) (fs : List Frame) (loops : List ℕ) → KnownIn o.vars e → Checked v h a o.vars o.handles → Checked v h k o.vars o.handles → Once o.handles → o.loops ≡ length loops →
      (p : Framed f pc (λ to. at o (instr.Enter l (operand o.vars e) to)) (λ p. block_code a o p) (λ back. at o (instr.Turn l (operand o.vars e) back)) (λ p. block_code k o p)) → Continues v h f o (p.out + length (block_code k o p.out)) fs loops → (z : Bool) → Continues v h f o (cond z p.out (suc pc)) (cond z (block k ∷ fs) (block a ∷ turn l e a ∷ block k ∷ fs)) loops
  while_on o pc l e a k fs loops kn ca ck once cn p c true = (p.out, o, inl refl, outer_refl o, record { code = p.at_rest; checked = ck; once = once; counts = cn }, c)
  while_on o pc l e a k fs loops kn ca ck once cn p c false = (
    suc pc,
    o,
    inl refl,
    outer_refl o,
    record { code = p.at_body; checked = ca; once = once; counts = cn },
    subst (λ q. Continues v h f o q (turn l e a ∷ block k ∷ fs) loops) p.foot_is (
      suc pc,
      o,
      record { outer = outer_refl o; here = p.at_foot; known = kn; body = record { code = p.at_body; checked = ca; once = once; counts = cn }; foot = p.foot_is },
      subst (λ q. Continues v h f o q (block k ∷ fs) loops) p.out_is (p.out, o, inl refl, outer_refl o, record { code = p.at_rest; checked = ck; once = once; counts = cn }, c),
    ),
  )

  -- ---- actions

  -- what follows one instruction in the same scope
  rest_on : (o : Scope) (pc : ℕ) (x : Placed) (k : Body) (fs : List Frame) (loops : List ℕ) → HasAt f (suc pc) (block_code k o (suc pc)) → Checked v h k o.vars o.handles → Once o.handles → o.loops ≡ length loops → Continues v h f o (pc + length (x ∷ block_code k o (suc pc))) fs loops → Continues v h f o (suc pc) (block k ∷ fs) loops
  rest_on o pc x k fs loops code ck once cn c = then_block v h f o o (suc pc) _ k fs loops (record { code = code; checked = ck; once = once; counts = cn }) (outer_refl o) (past pc (block_code k o (suc pc)) x) c

  peek_does : (used : ℕ) (hm : Numbers) (n l : ℕ) (sig : Signal) (into : Option Name) (k : Body) (fs : List Frame) (m : Numbers) (s : Core) (o : Scope) → Laid v h f o s.pc (peek_port l sig into k) s.loops → Continues v h f o (s.pc + length (block_code (peek_port l sig into k) o s.pc)) fs s.loops → Slots v h d g o s m hm n →
      Does v h f limit d g used s (peek l sig.0 (is_none into) (λ x. keeps (set_if into x m) hm n (block k ∷ fs)))
  peek_does used hm n l sig None k fs m s o la c sl =
      acts used s (at o (instr.Peek l sig None)) (record { doing = peeks l sig.0 None; core = record s { pc = suc s.pc }; child = None }) _ la.code.0 (λ full jump go. refl)
      (record { into = None; only = (refl, refl); shows = refl; then = λ x. record { scope = o; goes_on = rest_on o s.pc (at o (instr.Peek l sig None)) k fs s.loops la.code.1 la.checked.1 la.once la.counts c; slots = slots_at v h d g o s (suc s.pc) s.loops m hm n sl } })
  peek_does used hm n l sig (Some y) k fs m s o la c sl =
      acts used s (at o (instr.Peek l sig (Some (slot y o.vars)))) (record { doing = peeks l sig.0 (Some (slot y o.vars)); core = record s { pc = suc s.pc }; child = None }) _ la.code.0 (λ full jump go. refl)
      (record { into = Some (slot y o.vars); only = (refl, refl); shows = refl; then = λ x. record { scope = o; goes_on = rest_on o s.pc (at o (instr.Peek l sig (Some (slot y o.vars)))) k fs s.loops la.code.1 la.checked.1 la.once la.counts c; slots = known_set v h d g o s (suc s.pc) y x m hm n la.checked.0.0 la.checked.0.1 sl } })

  fork_does : (used : ℕ) (hm : Numbers) (n l : ℕ) (r : Region) (y : Name) (a k : Body) (fs : List Frame) (m : Numbers) (s : Core) (o : Scope) → Laid v h f o s.pc (fork_as l r y a k) s.loops → Continues v h f o (s.pc + length (block_code (fork_as l r y a k) o s.pc)) fs s.loops → Slots v h d g o s m hm n →
      Does v h f limit d g used s (fork l (region_number r) (begins a m) (keeps m (map.insert hm y n) (suc n) (block k ∷ fs)))
  fork_does used hm n l r y a k fs m s o la c sl =
      let p = framed_parts f s.pc (λ to. at o (instr.Fork l r (slot y (with_name o.handles y)) to)) (λ p. block_code a (child_scope r o) p) (λ back. at (child_scope r o) instr.End) (λ p. block_code k (with_handle y o) p) la.code in
      acts used s (at o (instr.Fork l r (slot y (with_name o.handles y)) p.out)) (forked l r (slot y (with_name o.handles y)) p.out s) _ p.at_head (λ full jump go. refl)
      (record {
        child_region = r;
        number = refl;
        doing = refl;
        pc = suc s.pc;
        child = refl;
        newborn = record {
          scope = child_scope r o;
          goes_on = (
            suc s.pc,
            child_scope r o,
            inl refl,
            outer_refl (child_scope r o),
            record { code = p.at_body; checked = la.checked.0; once = once_empty; counts = refl },
            (child_scope r o, record { outer = outer_refl (child_scope r o); here = ap f (sym p.foot_is) ∙ p.at_foot; once = once_empty; open_loops = refl; counts = refl }),
          );
          slots = slots_born v h d g r o s (suc s.pc) m hm n sl;
        };
        then = record {
          scope = with_handle y o;
          goes_on = then_block v h f o (with_handle y o) p.out _ k fs s.loops (record { code = p.at_rest; checked = la.checked.2; once = once_with o.handles y la.once; counts = la.counts }) (record { vars = within_refl o.vars; handles = with_within o.handles y; depth = refl; region = refl }) p.ends c;
          slots = handle_set v h d g o s p.out y m hm n la.checked.1 sl;
        };
      })

  -- an action on the child that a known handle names
  child_does : (used : ℕ) (hm : Numbers) (n : ℕ) (y : Name) (k : Body) (fs : List Frame) (m : Numbers) (s : Core) (o : Scope) (x : Placed) (doing : ℕ → Doing) (move : ℕ → Inner → Move Inner)
      → f s.pc ≡ Some x → ((full : Bool) (jump go : Go) → step full jump go s (Some x.instr) ≡ with_child doing s (slice_get s.handles (slot y o.handles)))
      → ((j : ℕ) (i : Inner) (t : Did) → Only t (doing j) → Stands v h f d g t.core i → Fulfils v h f d g t (move j i))
      → HasAt f (suc s.pc) (block_code k o (suc s.pc)) → Known o.handles y → Checked v h k o.vars o.handles → Once o.handles → o.loops ≡ length s.loops
      → Continues v h f o (s.pc + length (x ∷ block_code k o (suc s.pc))) fs s.loops → Slots v h d g o s m hm n
      → Does v h f limit d g used s (move (number_of hm y) (keeps m hm n (block k ∷ fs)))
  child_does used hm n y k fs m s o x doing move here st ful code kn ck once cn c sl =
      let j = sl.handles y kn.0 kn.1 in
      acts used s x (record { doing = doing j.0; core = record s { pc = suc s.pc }; child = None }) _ here
      (λ full jump go. st full jump go ∙ ap (λ o. with_child doing s (slice_get s.handles (unwrap_or o 0))) kn.1 ∙ ap (λ o. with_child doing s o) j.2)
      (ful (number_of hm y) (keeps m hm n (block k ∷ fs)) (record { doing = doing j.0; core = record s { pc = suc s.pc }; child = None })
      (ap (λ o. doing (unwrap_or o 0)) (sym j.1), refl)
      (record { scope = o; goes_on = rest_on o s.pc x k fs s.loops code ck once cn c; slots = slots_at v h d g o s (suc s.pc) s.loops m hm n sl }))

  -- ---- the statements

  body_does : (used : ℕ) (hm : Numbers) (n : ℕ) (go : Goes) → Resumes used hm n go → (b : Body) (fs : List Frame) (m : Numbers) (done : Move Inner) (s : Core) (o : Scope) → Laid v h f o s.pc b s.loops → Continues v h f o (s.pc + length (block_code b o s.pc)) fs s.loops → Slots v h d g o s m hm n → (Continues v h f o s.pc fs s.loops → Does v h f limit d g used s done) → Does v h f limit d g used s (move_of go m hm n b fs done)
  unfolding Resumes
  body_does used hm n go R nil fs m done s o la c sl t = let e : s.pc + 0 ≡ s.pc = omega arith in t (subst (λ p. Continues v h f o p fs s.loops) e c)
  body_does used hm n go R (poke_port l p e k) fs m done s o la c sl t =
      acts used s (at o (instr.Poke l p (operand o.vars e))) (record { doing = pokes l p.0 (taken s.locals (operand o.vars e)); core = record s { pc = suc s.pc }; child = None }) _ la.code.0 (λ full jump to. refl) (
        (ap (λ x. pokes l p.0 x) (operand_value o.vars m s.locals e sl.vars la.checked.0), refl),
        λ a. record { scope = o; goes_on = rest_on o s.pc (at o (instr.Poke l p (operand o.vars e))) k fs s.loops la.code.1 la.checked.1 la.once la.counts c; slots = slots_at v h d g o s (suc s.pc) s.loops m hm n sl },
      )
  body_does used hm n go R (peek_port l sig into k) fs m done s o la c sl t = peek_does used hm n l sig into k fs m s o la c sl
  body_does used hm n go R (expect_port l sig e k) fs m done s o la c sl t =
      acts used s (at o (instr.Expect l sig (operand o.vars e))) (record { doing = expects l sig.0 (taken s.locals (operand o.vars e)); core = record s { pc = suc s.pc }; child = None }) _ la.code.0 (λ full jump to. refl) (
        (ap (λ x. expects l sig.0 x) (operand_value o.vars m s.locals e sl.vars la.checked.0), refl),
        record { scope = o; goes_on = rest_on o s.pc (at o (instr.Expect l sig (operand o.vars e))) k fs s.loops la.code.1 la.checked.1 la.once la.counts c; slots = slots_at v h d g o s (suc s.pc) s.loops m hm n sl },
      )
  body_does used hm n go R (step_by l x k) fs m done s o la c sl t =
      acts used s (at o (instr.Step l x)) (record { doing = arrives l x; core = record s { pc = suc s.pc }; child = None }) _ la.code.0 (λ full jump to. refl)
      ((refl, refl), record { scope = o; goes_on = rest_on o s.pc (at o (instr.Step l x)) k fs s.loops la.code.1 la.checked la.once la.counts c; slots = slots_at v h d g o s (suc s.pc) s.loops m hm n sl })
  body_does used hm n go R (let_var l y e k) fs m done s o la c sl t =
      R l (block k ∷ fs) (map.insert m y (value m e)) s (record s { pc = suc s.pc; locals = slice_set s.locals (slot y (with_name o.vars y)) (taken s.locals (operand o.vars e)) }) (at o (instr.Store l (slot y (with_name o.vars y)) (operand o.vars e))) (with_var y o) la.code.0 (λ full jump to. refl)
      (then_block v h f o (with_var y o) (suc s.pc) _ k fs s.loops (record { code = la.code.1; checked = la.checked.2; once = la.once; counts = la.counts }) (record { vars = with_within o.vars y; handles = within_refl o.handles; depth = refl; region = refl })
      (past s.pc (block_code k (with_var y o) (suc s.pc)) (at o (instr.Store l (slot y (with_name o.vars y)) (operand o.vars e)))) c)
      (slots_set v h d g o s (suc s.pc) y (taken s.locals (operand o.vars e)) (value m e) m hm n la.checked.1 (operand_value o.vars m s.locals e sl.vars la.checked.0) sl)
  body_does used hm n go R (if_true l e a b k) fs m done s o la c sl t =
      let p = choice_parts f s.pc o (λ to. at o (instr.Unless l (operand o.vars e) to)) (λ p. block_code a o p) (λ p. block_code b o p) (λ p. block_code k o p) la.code in
      R l (block (cond (is_zero (value m e)) b a) ∷ block k ∷ fs) m s (record s { pc = cond (is_zero (value m e)) p.other (suc s.pc) }) (at o (instr.Unless l (operand o.vars e) p.other)) o p.at_head
      (λ full jump to. ap (λ x. locally full l s (to (record s { pc = cond (is_zero x) p.other (suc s.pc) }))) (operand_value o.vars m s.locals e sl.vars la.checked.0))
      (choice_on o s.pc l e a b k fs s.loops la.checked.1 la.checked.2 la.checked.3 la.once la.counts p (subst (λ q. Continues v h f o q fs s.loops) (sym p.ends) c) (is_zero (value m e)))
      (slots_at v h d g o s (cond (is_zero (value m e)) p.other (suc s.pc)) s.loops m hm n sl)
  body_does used hm n go R (while_true l e a k) fs m done s o la c sl t =
      let p = framed_parts f s.pc (λ to. at o (instr.Enter l (operand o.vars e) to)) (λ p. block_code a o p) (λ back. at o (instr.Turn l (operand o.vars e) back)) (λ p. block_code k o p) la.code in
      R l (turns l e (value m e) a (block k ∷ fs)) m s (record s { pc = cond (is_zero (value m e)) p.out (suc s.pc) }) (at o (instr.Enter l (operand o.vars e) p.out)) o p.at_head
      (λ full jump to. ap (λ x. locally full l s (to (record s { pc = cond (is_zero x) p.out (suc s.pc) }))) (operand_value o.vars m s.locals e sl.vars la.checked.0))
      (while_on o s.pc l e a k fs s.loops la.checked.0 la.checked.1 la.checked.2 la.once la.counts p (subst (λ q. Continues v h f o q fs s.loops) (sym p.ends) c) (is_zero (value m e)))
      (slots_at v h d g o s (cond (is_zero (value m e)) p.out (suc s.pc)) s.loops m hm n sl)
  body_does used hm n go R (repeat_by l e a k) fs m done s o la c sl t =
      let p = framed_parts f s.pc (λ to. at o (instr.Count l (operand o.vars e) to)) (λ p. block_code a (deeper o) p) (λ back. at (deeper o) (instr.Again l back)) (λ p. block_code k o p) la.code in
      enter_counted used hm n go R l (value m e) e a k fs m s o refl la.checked.0 la.checked.1 la.checked.2 la.once la.counts p (subst (λ q. Continues v h f o q fs s.loops) (sym p.ends) c) sl
  body_does used hm n go R (fork_as l r y a k) fs m done s o la c sl t = fork_does used hm n l r y a k fs m s o la c sl
  body_does used hm n go R (join_of l y k) fs m done s o la c sl t =
      child_does used hm n y k fs m s o (at o (instr.Join l (slot y o.handles))) (joins l) (λ j i. join l j i) la.code.0 (λ full jump to. refl) (λ j i t only st. (only, st)) la.code.1 la.checked.0 la.checked.1 la.once la.counts c sl
  body_does used hm n go R (joinstep_of l y k) fs m done s o la c sl t =
      child_does used hm n y k fs m s o (at o (instr.JoinStep l (slot y o.handles))) (joinsteps l) (λ j i. joinstep l j i) la.code.0 (λ full jump to. refl) (λ j i t only st. (only, st)) la.code.1 la.checked.0 la.checked.1 la.once la.counts c sl

  over_does : (used : ℕ) (hm : Numbers) (n : ℕ) (go : Goes) → Resumes used hm n go → (fs : List Frame) (m : Numbers) (s : Core) (c : Scope) → Continues v h f c s.pc fs s.loops → Slots v h d g c s m hm n → Does v h f limit d g used s (over go m hm n fs)
  over_does used hm n go R [] m s c (o, e) sl = acts used s (at o instr.End) (record { doing = ends; core = s; child = None }) end e.here (λ full jump to. refl) (refl, refl)
  over_does used hm n go R (block b ∷ fs) m s c (r, o, j, w, l, k) sl =
      let so = slots_at v h d g o s r s.loops m hm n (slots_outer v h d g o c s m hm n w sl) in
      jumped used s o r _ j (body_does used hm n go R b fs m (over go m hm n fs) (record s { pc = r }) o l k so (λ k'. over_does used hm n go R fs m (record s { pc = r }) o k' so))
  over_does used hm n go R (turn l e a ∷ fs) m s c (back, o, t, k) sl =
      over_turn used hm n go R l e a fs m s o back (record { outer = outer_refl o; here = t.here; known = t.known; body = t.body; foot = t.foot }) k (slots_outer v h d g o c s m hm n t.outer sl)
  over_does used hm n go R (again l left a ∷ fs) m s c (back, o, rest, t, k) sl =
      over_again used hm n go R l left a fs m s o back rest (record { outer = outer_refl o; counts = t.counts; here = t.here; body = t.body; foot = t.foot }) k (slots_outer v h d g o c s m hm n t.outer sl)

  -- ---- the count of local statements

  full_at : (used : ℕ) → used + 0 ≡ limit → nat_le limit used ≡ true
  full_at used e = le-leb limit used (omega arith)

  not_full : (used m : ℕ) → used + suc m ≡ limit → nat_le limit used ≡ false
  not_full used m e = go (nat_le limit used) refl
    where
      go : (b : Bool) → nat_le limit used ≡ b → b ≡ false
      go true t = absurd (let le : limit ≤ used = leb-true limit used t in omega arith)
      go false t = refl

  resumes_zero : (used : ℕ) → used + 0 ≡ limit → (hm : Numbers) (n : ℕ) → Resumes used hm n (λ l gs ws. spend l)
  unfolding Resumes
  resumes_zero used e hm n l fs m s t x c at_x st k sl = record {
    count = 1;
    done = record { doing = spends l; core = s; child = None };
    ran = one_step 0 used s x at_x ∙ st (nat_le limit used) (λ t. None) (λ t. None) ∙ ap (λ b. locally b l s None) (full_at used e);
    fulfils = (refl, refl);
  }

  resumes_suc : (used i : ℕ) → used + suc i ≡ limit → (hm : Numbers) (n : ℕ) → ((fs : List Frame) (m : Numbers) (s : Core) (c : Scope) → Continues v h f c s.pc fs s.loops → Slots v h d g c s m hm n → Does v h f limit d g (suc used) s (next_within i hm n fs m)) → Resumes used hm n (λ l gs ws. next_within i hm n gs ws)
  unfolding Resumes
  resumes_suc used i e hm n again_does l fs m s t x c at_x st k sl =
      let r = again_does fs m t c k sl in
      record {
        count = suc r.count;
        done = r.done;
        ran = one_step r.count used s x at_x ∙ st (nat_le limit used) (λ t. run (code_of f) limit r.count used t) (λ t. run (code_of f) limit r.count (suc used) t) ∙ ap (λ b. locally b l s (run (code_of f) limit r.count (suc used) t)) (not_full used i e) ∙ r.ran;
        fulfils = r.fulfils;
      }

  pub next_does : (i used : ℕ) → used + i ≡ limit → (hm : Numbers) (n : ℕ) (fs : List Frame) (m : Numbers) (s : Core) (c : Scope) → Continues v h f c s.pc fs s.loops → Slots v h d g c s m hm n → Does v h f limit d g used s (next_within i hm n fs m)
  next_does zero used e hm n fs m s c k sl = over_does used hm n (λ l gs ws. spend l) (resumes_zero used e hm n) fs m s c k sl
  next_does (suc i) used e hm n fs m s c k sl = over_does used hm n (λ l gs ws. next_within i hm n gs ws) (resumes_suc used i e hm n (λ fs m s c. next_does i (suc used) (omega arith) hm n fs m s c)) fs m s c k sl

-- THE CODE DOES WHAT THE DEFINITIONS SAY: where a place stands for a thread, the machine gives the thread's next move from there
pub refines : (v h : ℕ) (f : Places) (limit d : ℕ) (g : Region) (s : Core) (i : Inner) → Stands v h f d g s i → Does v h f limit d g 0 s (next limit i)
refines v h f limit d g s i st = next_does v h f limit d g limit 0 (omega arith) i.handles i.forks i.rest i.vars s st.scope st.goes_on st.slots
