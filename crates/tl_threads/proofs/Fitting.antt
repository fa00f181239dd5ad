-- Each place of a test's code stands for some thread, and what stands for a thread fits its place.
use Rattle.std.proofs.Common.{◌≡◌, ◌⊎◌, ℕ, zero, suc, ◌+◌, ◌<◌, List, [], ◌∷◌, ◌++◌, length, Option, Some, None, option_map, refl, sym, ap, subst, ◌∙◌, inl, inr, ⊎_elim, arith, slice_index, slice_get}
use Rattle.std.specs.FinMap as map
use Rattle.std.proofs.lemmas.List.{length-replicate}
use Rattle.tb_base.specs.declared.path.Region.{Region}
use Rattle.tb_base.specs.declared.path.Region.TheVariants.{Main}
use Rattle.tl_threads.specs.declared.code.Placed.{Placed}
use Rattle.tl_threads.specs.declared.code.Instr.{Instr}
use Rattle.tl_threads.specs.declared.code.Instr.TheVariants as instr
use Rattle.tl_threads.specs.Values.{Name, Numbers, Expr}
use Rattle.tl_threads.specs.Bodies.{Body}
use Rattle.tl_threads.specs.Bodies.Body.{nil, poke_port, peek_port, expect_port, step_by, let_var, if_true, while_true, repeat_by, fork_as, join_of, joinstep_of}
use Rattle.tl_threads.specs.Threads.{Frame, Inner, root_of}
use Rattle.tl_threads.specs.Threads.Frame.{block, turn, again}
use Rattle.tl_threads.specs.Machine.{Core}
use Rattle.tl_threads.specs.Code.{Scope, slot_found, slot, with_name, operand, at, first_scope, with_var, with_handle, deeper, child_scope, block_code, test_code}
use Rattle.tl_threads.specs.Stands.{Places, KnownIn, Checked, HasAt, Outer, Once, Jumps, Laid, Continues, Stands, name_at}
use Rattle.tl_threads.specs.Fits.{FitsPlace, FitsCode, CodeOf, root_core}
use Rattle.tl_threads.proofs.NameFacts.{within_refl, with_within, once_with, once_empty, find_below, find_cases, get_same, get_other, differ}
use Rattle.tl_threads.proofs.Layouts.{outer_refl, outer_trans, has_front, has_back, choice_ends, framed_ends, continues_in, past}

-- ---- maps of slots

-- the names with numbers by their slots
abbrev pub numbered : List Name → (ℕ → ℕ) → Numbers
numbered [] g = map.empty
numbered (x ∷ xs) g = map.insert (numbered xs (λ k. g (suc k))) x (g 0)

pub numbered_at : (xs : List Name) (g : ℕ → ℕ) (x : Name) (k : ℕ) → slot_found x xs ≡ Some k → map.get (numbered xs g) x ≡ Some (g k)
numbered_at [] g x k e = absurd (cc)
numbered_at (y ∷ xs) g x k e =
    ⊎_elim
    (λ f. ap (map.get (numbered (y ∷ xs) g)) f.same ∙ get_same (numbered xs (λ k. g (suc k))) y (g 0) ∙ ap (λ n. Some (g n)) (sym f.zero_is))
    (λ f. get_other (numbered xs (λ k. g (suc k))) y (g 0) x (differ x y f.other) ∙ numbered_at xs (λ k. g (suc k)) x f.less f.found ∙ ap (λ n. Some (g n)) (sym f.suc_is))
    (find_cases x y xs k e)

-- the child in a slot
abbrev child_in : Option (Option ℕ) → ℕ
child_in None = 0
child_in (Some None) = 0
child_in (Some (Some j)) = j

-- ---- what stands at a place

pub record Here (f : Places) (c : Scope) (q : ℕ) (loops : List ℕ) : Type 0 where
  pub scope : Scope
  pub instr : Instr
  pub here : f q ≡ Some (at scope instr)
  pub outer : Outer scope c
  pub once : Once scope.handles
  pub counts : scope.loops ≡ length loops

first_of : (v h : ℕ) (f : Places) (b : Body) (o : Scope) (r : ℕ) → HasAt f r (block_code b o r) → (b ≡ nil) ⊎ ((i : Instr) × (f r ≡ Some (at o i)))
first_of v h f nil o r code = inl refl
first_of v h f (poke_port l p e k) o r code = inr (_, code.0)
first_of v h f (peek_port l p into k) o r code = inr (_, code.0)
first_of v h f (expect_port l p e k) o r code = inr (_, code.0)
first_of v h f (step_by l n k) o r code = inr (_, code.0)
first_of v h f (let_var l x e k) o r code = inr (_, code.0)
first_of v h f (if_true l e a b k) o r code = inr (_, code.0)
first_of v h f (while_true l e a k) o r code = inr (_, code.0)
first_of v h f (repeat_by l e a k) o r code = inr (_, code.0)
first_of v h f (fork_as l g x a k) o r code = inr (_, code.0)
first_of v h f (join_of l x k) o r code = inr (_, code.0)
first_of v h f (joinstep_of l x k) o r code = inr (_, code.0)

here_in : (f : Places) (o c : Scope) (q : ℕ) (loops : List ℕ) → Outer o c → Here f o q loops → Here f c q loops
here_in f o c q loops w t = record { scope = t.scope; instr = t.instr; here = t.here; outer = outer_trans t.scope o c t.outer w; once = t.once; counts = t.counts }

block_here : (v h : ℕ) (f : Places) (c o : Scope) (q r : ℕ) (b : Body) (loops : List ℕ) → Jumps f o q r → Outer o c → Laid v h f o r b loops → Here f o (r + length (block_code b o r)) loops → Here f c q loops
block_here v h f c o q r b loops j w l behind = ⊎_elim same jump j
  where
    at_r : Here f c r loops
    at_r =
        ⊎_elim
        (λ z. let e : r + length (block_code b o r) ≡ r = ap (λ x. r + length (block_code x o r)) z ∙ (omega arith) in here_in f o c r loops w (subst (λ p. Here f o p loops) e behind))
        (λ x. record { scope = o; instr = x.0; here = x.1; outer = w; once = l.once; counts = l.counts })
        (first_of v h f b o r l.code)

    same : q ≡ r → Here f c q loops
    same e = subst (λ p. Here f c p loops) (sym e) at_r

    jump : (f q ≡ Some (at o (instr.Goto r))) × (q < r) → Here f c q loops
    jump e = record { scope = o; instr = instr.Goto r; here = e.0; outer = w; once = l.once; counts = l.counts }

pub here_of : (v h : ℕ) (f : Places) (c : Scope) (q : ℕ) (fs : List Frame) (loops : List ℕ) → Continues v h f c q fs loops → Here f c q loops
here_of v h f c q [] loops (o, e) = record { scope = o; instr = instr.End; here = e.here; outer = e.outer; once = e.once; counts = e.counts }
here_of v h f c q (block b ∷ fs) loops (r, o, j, w, l, k) = block_here v h f c o q r b loops j w l (here_of v h f o (r + length (block_code b o r)) fs loops k)
here_of v h f c q (turn l e a ∷ fs) loops (back, o, t, k) = record { scope = o; instr = instr.Turn l (operand o.vars e) back; here = t.here; outer = t.outer; once = t.body.once; counts = t.body.counts }
here_of v h f c q (again l n a ∷ fs) loops (back, o, rest, t, k) =
    record { scope = deeper o; instr = instr.Again l back; here = t.here; outer = record { vars = t.outer.vars; handles = t.outer.handles; depth = t.outer.depth; region = t.outer.region }; once = t.body.once; counts = t.body.counts }

-- WHAT STANDS FOR A THREAD FITS
pub stands_fits : (v h : ℕ) (f : Places) (d : ℕ) (g : Region) (s : Core) (i : Inner) → Stands v h f d g s i → FitsCode v h f d g s
stands_fits v h f d g s i st =
    let t = here_of v h f st.scope s.pc i.rest s.loops st.goes_on in (
      at t.scope t.instr,
      t.here,
      record {
        same_depth = sym (t.outer.depth ∙ st.slots.depth_is);
        same_region = sym (t.outer.region ∙ st.slots.region_is);
        locals_len = st.slots.locals_len;
        handles_len = st.slots.handles_len;
        children = λ k lt. let r = st.slots.handles (name_at t.scope.handles k) k (t.outer.handles (name_at t.scope.handles k) k (t.once k lt)) in (r.0, r.2);
        counts = sym t.counts;
      },
    )

-- ---- each place

module _ (v h : ℕ) (f : Places) where
  -- whatever counts are kept, as many as there are `repeat`s, the code goes on at q as some frames say
  After : Scope → ℕ → Type 0
  After c q = (loops : List ℕ) → length loops ≡ c.loops → (fs : List Frame) × Continues v h f c q fs loops

  pub record PlaceStands (q : ℕ) (x : Placed) : Type 0 where
    pub scope : Scope
    pub instr : Instr
    pub is : x ≡ at scope instr
    pub after : (loops : List ℕ) → length loops ≡ scope.loops → (fs : List Frame) × Continues v h f scope q fs loops

  abbrev pub EachStands : ℕ → List Placed → Type 0
  EachStands q [] = Unit {0}
  EachStands q (x ∷ xs) = PlaceStands q x × EachStands (suc q) xs

  each_append : (q : ℕ) (a b : List Placed) → EachStands q a → EachStands (q + length a) b → EachStands q (a ++ b)
  each_append q [] b x y = let e : q + 0 ≡ q = omega arith in subst (λ n. EachStands n b) e y
  each_append q (i ∷ a) b x y = let e : q + length (i ∷ a) ≡ suc q + length a = omega arith in (x.0, each_append (suc q) a b x.1 (subst (λ n. EachStands n b) e y))

  placed : (c : Scope) (i : Instr) (q : ℕ) → After c q → PlaceStands q (at c i)
  unfolding After
  placed c i q a = record { scope = c; instr = i; is = refl; after = a }

  after_in : (o c : Scope) (q : ℕ) → Outer o c → o.loops ≡ c.loops → After o q → After c q
  unfolding After
  after_in o c q w e a loops n = let r = a loops (n ∙ sym e) in (r.0, continues_in v h f o c q r.0 loops w r.1)

  -- a block in front of what comes after it
  front : (b : Body) (c : Scope) (q : ℕ) → HasAt f q (block_code b c q) → Checked v h b c.vars c.handles → Once c.handles → After c (q + length (block_code b c q)) → After c q
  unfolding After
  front b c q code ck once a loops n =
      let r = a loops n in
      (block b ∷ r.0, (q, c, inl refl, outer_refl c, record { code = code; checked = ck; once = once; counts = sym n }, r.1))

  -- a jump to a block
  jump_front : (b : Body) (c : Scope) (p q : ℕ) → f p ≡ Some (at c (instr.Goto q)) → p < q → HasAt f q (block_code b c q) → Checked v h b c.vars c.handles → Once c.handles → After c (q + length (block_code b c q)) → After c p
  unfolding After
  jump_front b c p q here lt code ck once a loops n =
      let r = a loops n in
      (block b ∷ r.0, (q, c, inr (here, lt), outer_refl c, record { code = code; checked = ck; once = once; counts = sym n }, r.1))

  -- the feet of loops
  while_foot : (l : ℕ) (e : Expr) (a : Body) (c : Scope) (back q : ℕ) → q ≡ back + length (block_code a c back) → f q ≡ Some (at c (instr.Turn l (operand c.vars e) back)) → HasAt f back (block_code a c back)
      → Checked v h a c.vars c.handles → Once c.handles → KnownIn c.vars e → After c (suc q) → After c q
  unfolding After
  while_foot l e a c back q foot here code ck once kn b loops n =
      let r = b loops n in
      (turn l e a ∷ r.0, (back, c, record { outer = outer_refl c; here = here; known = kn; body = record { code = code; checked = ck; once = once; counts = sym n }; foot = foot }, r.1))

  repeat_foot : (l : ℕ) (a : Body) (c : Scope) (back q : ℕ) → q ≡ back + length (block_code a (deeper c) back) → f q ≡ Some (at (deeper c) (instr.Again l back)) → HasAt f back (block_code a (deeper c) back)
      → Checked v h a c.vars c.handles → Once c.handles → After c (suc q) → After (deeper c) q
  unfolding After
  repeat_foot l a c back q foot here code ck once b [] n = absurd (omega arith)
  repeat_foot l a c back q foot here code ck once b (x ∷ loops) n =
      let r = b loops (omega arith) in
      (again l x a ∷ r.0, (back, c, loops, record { outer = record { vars = within_refl c.vars; handles = within_refl c.handles; depth = refl; region = refl }; counts = refl; here = here; body = record { code = code; checked = ck; once = once; counts = sym n }; foot = foot }, r.1))

  end_foot : (c : Scope) (q : ℕ) → f q ≡ Some (at c instr.End) → c.loops ≡ 0 → Once c.handles → After c q
  unfolding After
  end_foot c q here z once [] n = ([], (c, record { outer = outer_refl c; here = here; once = once; open_loops = refl; counts = sym n }))
  end_foot c q here z once (x ∷ loops) n = absurd (omega arith)

  -- EACH PLACE of a body's code stands for something, where what comes behind it does
  each_place : (b : Body) (c : Scope) (q : ℕ) → HasAt f q (block_code b c q) → Checked v h b c.vars c.handles → Once c.handles → After c (q + length (block_code b c q)) → EachStands q (block_code b c q)
  each_place nil c q code ck once a = tt
  each_place (poke_port l p e k) c q code ck once a = (
    placed c (instr.Poke l p (operand c.vars e)) q (front (poke_port l p e k) c q code ck once a),
    each_place k c (suc q) code.1 ck.1 once (subst (After c) (sym (past q (block_code k c (suc q)) (at c (instr.Poke l p (operand c.vars e))))) a),
  )
  each_place (peek_port l p into k) c q code ck once a = (
    placed c (instr.Peek l p (option_map (λ x. slot x c.vars) into)) q (front (peek_port l p into k) c q code ck once a),
    each_place k c (suc q) code.1 ck.1 once (subst (After c) (sym (past q (block_code k c (suc q)) (at c (instr.Peek l p (option_map (λ x. slot x c.vars) into))))) a),
  )
  each_place (expect_port l p e k) c q code ck once a = (
    placed c (instr.Expect l p (operand c.vars e)) q (front (expect_port l p e k) c q code ck once a),
    each_place k c (suc q) code.1 ck.1 once (subst (After c) (sym (past q (block_code k c (suc q)) (at c (instr.Expect l p (operand c.vars e))))) a),
  )
  each_place (step_by l n k) c q code ck once a = (
    placed c (instr.Step l n) q (front (step_by l n k) c q code ck once a),
    each_place k c (suc q) code.1 ck once (subst (After c) (sym (past q (block_code k c (suc q)) (at c (instr.Step l n)))) a),
  )
  each_place (join_of l x k) c q code ck once a = (
    placed c (instr.Join l (slot x c.handles)) q (front (join_of l x k) c q code ck once a),
    each_place k c (suc q) code.1 ck.1 once (subst (After c) (sym (past q (block_code k c (suc q)) (at c (instr.Join l (slot x c.handles))))) a),
  )
  each_place (joinstep_of l x k) c q code ck once a = (
    placed c (instr.JoinStep l (slot x c.handles)) q (front (joinstep_of l x k) c q code ck once a),
    each_place k c (suc q) code.1 ck.1 once (subst (After c) (sym (past q (block_code k c (suc q)) (at c (instr.JoinStep l (slot x c.handles))))) a),
  )
  each_place (let_var l x e k) c q code ck once a = (
    placed c (instr.Store l (slot x (with_name c.vars x)) (operand c.vars e)) q (front (let_var l x e k) c q code ck once a),
    each_place k (with_var x c) (suc q) code.1 ck.2 once
        (subst (After (with_var x c)) (sym (past q (block_code k (with_var x c) (suc q)) (at c (instr.Store l (slot x (with_name c.vars x)) (operand c.vars e)))))
        (after_in c (with_var x c) _ (record { vars = with_within c.vars x; handles = within_refl c.handles; depth = refl; region = refl }) refl a)),
  )
  each_place (if_true l e a b k) c q code ck once behind =
      let A : List Placed = block_code a c (suc q) in
      let o : ℕ = suc (suc q + length A) in
      let B : List Placed = block_code b c o in
      let out : ℕ = o + length B in
      let K : List Placed = block_code k c out in
      let rest : List Placed = at c (instr.Goto out) ∷ (B ++ K) in
      let tail = has_back f (suc q) A rest code.1 in
      let at_k = has_back f o B K tail.1 in
      let ends : After c (out + length K) = subst (After c) (sym (choice_ends q A B K (at c (instr.Goto out)))) behind in
      let jump : After c (suc q + length A) = jump_front k c (suc q + length A) out tail.0 (omega arith) at_k ck.3 once ends in (
        placed c (instr.Unless l (operand c.vars e) o) q (front (if_true l e a b k) c q code ck once behind),
        each_append (suc q) A rest (each_place a c (suc q) (has_front f (suc q) A rest code.1) ck.1 once jump) (
          placed c (instr.Goto out) (suc q + length A) jump,
          each_append o B K (each_place b c o (has_front f o B K tail.1) ck.2 once (front k c out at_k ck.3 once ends)) (each_place k c out at_k ck.3 once ends),
        ),
      )
  each_place (while_true l e a k) c q code ck once behind =
      let A : List Placed = block_code a c (suc q) in
      let foot : ℕ = suc q + length A in
      let K : List Placed = block_code k c (suc foot) in
      let rest : List Placed = at c (instr.Turn l (operand c.vars e) (suc q)) ∷ K in
      let at_a = has_front f (suc q) A rest code.1 in
      let tail = has_back f (suc q) A rest code.1 in
      let ends : After c (suc foot + length K) = subst (After c) (sym (framed_ends q A K (at c (instr.Turn l (operand c.vars e) (suc q))))) behind in
      let turned : After c foot = while_foot l e a c (suc q) foot refl tail.0 at_a ck.1 once ck.0 (front k c (suc foot) tail.1 ck.2 once ends) in (
        placed c (instr.Enter l (operand c.vars e) (suc foot)) q (front (while_true l e a k) c q code ck once behind),
        each_append (suc q) A rest (each_place a c (suc q) at_a ck.1 once turned) (placed c (instr.Turn l (operand c.vars e) (suc q)) foot turned, each_place k c (suc foot) tail.1 ck.2 once ends),
      )
  each_place (repeat_by l e a k) c q code ck once behind =
      let A : List Placed = block_code a (deeper c) (suc q) in
      let foot : ℕ = suc q + length A in
      let K : List Placed = block_code k c (suc foot) in
      let rest : List Placed = at (deeper c) (instr.Again l (suc q)) ∷ K in
      let at_a = has_front f (suc q) A rest code.1 in
      let tail = has_back f (suc q) A rest code.1 in
      let ends : After c (suc foot + length K) = subst (After c) (sym (framed_ends q A K (at (deeper c) (instr.Again l (suc q))))) behind in
      let again_on : After (deeper c) foot = repeat_foot l a c (suc q) foot refl tail.0 at_a ck.1 once (front k c (suc foot) tail.1 ck.2 once ends) in (
        placed c (instr.Count l (operand c.vars e) (suc foot)) q (front (repeat_by l e a k) c q code ck once behind),
        each_append (suc q) A rest (each_place a (deeper c) (suc q) at_a ck.1 once again_on) (placed (deeper c) (instr.Again l (suc q)) foot again_on, each_place k c (suc foot) tail.1 ck.2 once ends),
      )
  each_place (fork_as l g x a k) c q code ck once behind =
      let A : List Placed = block_code a (child_scope g c) (suc q) in
      let foot : ℕ = suc q + length A in
      let K : List Placed = block_code k (with_handle x c) (suc foot) in
      let rest : List Placed = at (child_scope g c) instr.End ∷ K in
      let at_a = has_front f (suc q) A rest code.1 in
      let tail = has_back f (suc q) A rest code.1 in
      let ends : After (with_handle x c) (suc foot + length K) =
      subst (After (with_handle x c)) (sym (framed_ends q A K (at (child_scope g c) instr.End)))
      (after_in c (with_handle x c) _ (record { vars = within_refl c.vars; handles = with_within c.handles x; depth = refl; region = refl }) refl behind) in
      let ended : After (child_scope g c) foot = end_foot (child_scope g c) foot tail.0 refl once_empty in (
        placed c (instr.Fork l g (slot x (with_name c.handles x)) (suc foot)) q (front (fork_as l g x a k) c q code ck once behind),
        each_append (suc q) A rest (each_place a (child_scope g c) (suc q) at_a ck.0 once_empty ended) (placed (child_scope g c) instr.End foot ended, each_place k (with_handle x c) (suc foot) tail.1 ck.2 (once_with c.handles x once) ends),
      )

  -- ---- the code of a test

  test_places : (b : Body) → CodeOf v h f b → EachStands 0 (test_code b)
  test_places b t =
      let C : List Placed = block_code b first_scope 0 in
      let tail = has_back f 0 C (at first_scope instr.End ∷ []) t.code in
      let ended : After first_scope (0 + length C) = end_foot first_scope (0 + length C) tail.0 refl once_empty in
      each_append 0 C (at first_scope instr.End ∷ []) (each_place b first_scope 0 (has_front f 0 C (at first_scope instr.End ∷ []) t.code) t.checked once_empty ended)
      (placed first_scope instr.End (0 + length C) ended, tt)

  pub record Stood (q : ℕ) : Type 0 where
    pub placed : Placed
    pub here : f q ≡ Some placed
    pub stands : PlaceStands q placed

  one_of : (q k : ℕ) (xs : List Placed) → HasAt f q xs → EachStands q xs → k < length xs → Stood (q + k)
  one_of q k [] code e lt = absurd (omega arith)
  one_of q zero (x ∷ xs) code e lt = let z : q ≡ q + 0 = omega arith in subst (λ n. Stood n) z (record { placed = x; here = code.0; stands = e.0 })
  one_of q (suc k) (x ∷ xs) code e lt = let z : suc q + k ≡ q + suc k = omega arith in subst (λ n. Stood n) z (one_of (suc q) k xs code.1 e.1 (omega arith))

  -- a place stands for a thread by what is in its slots
  stood : (q d : ℕ) (g : Region) (s : Core) (x : Placed) (p : PlaceStands q x) → s.pc ≡ q → FitsPlace v h x d g s → (i : Inner) × Stands v h f d g s i
  stood q d g s x p e fit =
      let n : length s.loops ≡ p.scope.loops = fit.counts ∙ ap (λ y. y.loops) p.is in
      let r = p.after s.loops n in (
        record { rest = r.0; vars = numbered p.scope.vars (slice_index s.locals); handles = numbered p.scope.handles (λ k. child_in (slice_get s.handles k)); forks = s.forks },
        record {
          scope = p.scope;
          goes_on = subst (λ y. Continues v h f p.scope y r.0 s.loops) (sym e) r.1;
          slots = record {
            vars = λ y k z. numbered_at p.scope.vars (slice_index s.locals) y k z;
            handles = λ y k z.
                let c = fit.children k (subst (λ m. k < m) (sym (ap (λ y. y.handles) p.is)) (find_below y p.scope.handles k z)) in
                (c.0, numbered_at p.scope.handles (λ k. child_in (slice_get s.handles k)) y k z ∙ ap (λ o. Some (child_in o)) c.1, c.1);
            locals_len = fit.locals_len;
            handles_len = fit.handles_len;
            forks = refl;
            depth_is = sym (fit.same_depth ∙ ap (λ y. y.depth) p.is);
            region_is = sym (fit.same_region ∙ ap (λ y. y.region) p.is);
          };
        },
      )

  -- WHAT FITS A PLACE of a test's code stands for a thread
  pub fits_stands : (b : Body) → CodeOf v h f b → (d : ℕ) (g : Region) (s : Core) → s.pc < length (test_code b) → FitsCode v h f d g s → (i : Inner) × Stands v h f d g s i
  fits_stands b t d g s lt (x, here, fit) =
      let r = one_of 0 s.pc (test_code b) t.code (test_places b t) lt in
      let z : 0 + s.pc ≡ s.pc = omega arith in
      let w : Some r.placed ≡ Some x = sym r.here ∙ ap f z ∙ here in
      let same : r.placed ≡ x = cc in
      stood (0 + s.pc) d g s r.placed r.stands (sym z) (subst (λ y. FitsPlace v h y d g s) (sym same) fit)

  -- THE BEGINNING stands for the root thread
  pub root_stands : (b : Body) → CodeOf v h f b → Stands v h f 0 Main (root_core v h) (root_of b)
  root_stands b t =
      let C : List Placed = block_code b first_scope 0 in
      let tail = has_back f 0 C (at first_scope instr.End ∷ []) t.code in
      record {
        scope = first_scope;
        goes_on = (
          0,
          first_scope,
          inl refl,
          outer_refl first_scope,
          record { code = has_front f 0 C (at first_scope instr.End ∷ []) t.code; checked = t.checked; once = once_empty; counts = refl },
          (first_scope, record { outer = outer_refl first_scope; here = tail.0; once = once_empty; open_loops = refl; counts = refl }),
        );
        slots = record {
          vars = λ x k e. absurd (let z : None ≡ Some k = e in cc);
          handles = λ x k e. absurd (let z : None ≡ Some k = e in cc);
          locals_len = length-replicate v 0;
          handles_len = length-replicate h None;
          forks = refl;
          depth_is = refl;
          region_is = refl;
        };
      }
