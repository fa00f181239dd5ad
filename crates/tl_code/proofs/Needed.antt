-- The slots that code needs: as many as names are known at one place at most.
use Rattle.std.proofs.Common.{◌≡◌, ℕ, zero, suc, ◌+◌, ◌<◌, ◌≤◌, max, List, [], ◌∷◌, ◌++◌, length, length-append, take, Option, Some, None, unwrap_or, refl, sym, ap, subst, ◌∙◌, arith}
use Rattle.std.specs.Ordering.{ord_max, nat_cmp}
use Rattle.std.proofs.lemmas.Bool.Decides.{nat_tests}
use Rattle.tb_base.specs.declared.path.Region.{Region}
use Rattle.tl_threads.specs.declared.code.Placed.{Placed}
use Rattle.tl_threads.specs.declared.code.Instr.TheVariants as instr
use Rattle.tl_threads.specs.Values.{Name, Expr}
use Rattle.tl_threads.specs.Bodies.{Body}
use Rattle.tl_threads.specs.Bodies.Body.{nil, poke_port, peek_port, expect_port, step_by, let_var, if_true, while_true, repeat_by, fork_as, join_of, joinstep_of}
use Rattle.tl_threads.specs.Code.{Scope, slot_found, slot, grown, with_name, at, with_var, with_handle, deeper, child_scope, first_scope, operand, block_code, test_code}
use Rattle.tl_threads.specs.Allowed.{most_vars, most_handles}
use Rattle.tl_code.specs.Slots.{set_slots, fork_slots, variable_slots, handle_slots}
use Rattle.tl_code.proofs.Known.{last, find_below}

-- lists

pub variables_append : (xs ys : List Placed) → variable_slots (xs ++ ys) ≡ max (variable_slots xs) (variable_slots ys)
variables_append [] ys = omega arith
variables_append (x ∷ xs) ys = omega (arith, variables_append xs ys)

pub handles_append : (xs ys : List Placed) → handle_slots (xs ++ ys) ≡ max (handle_slots xs) (handle_slots ys)
handles_append [] ys = omega arith
handles_append (x ∷ xs) ys = omega (arith, handles_append xs ys)

-- names

-- how long the names are with one more
grown_length : (xs : List Name) (n : Name) (o : Option ℕ) → slot_found n xs ≡ o → max (length xs) (suc (slot n (grown xs n o))) ≡ length (grown xs n o)
grown_length xs n None e =
    let s : slot n (xs ++ n ∷ []) ≡ length xs = ap (λ o. unwrap_or o 0) (last n xs e) in
    omega (arith, length-append xs (n ∷ []))
grown_length xs n (Some k) e =
    let s : slot n xs ≡ k = ap (λ o. unwrap_or o 0) e in
    omega (arith, find_below n xs k e)

with_length : (xs : List Name) (n : Name) → max (length xs) (suc (slot n (with_name xs n))) ≡ length (with_name xs n)
with_length xs n = grown_length xs n (slot_found n xs) refl

-- a block

pub variables_needed : (b : Body) (c : Scope) (pc : ℕ) → max (length c.vars) (variable_slots (block_code b c pc)) ≡ most_vars b c.vars
variables_needed nil c pc = omega arith
variables_needed (poke_port l p e k) c pc = omega (arith, variables_needed k c (suc pc))
variables_needed (peek_port l p into k) c pc = omega (arith, variables_needed k c (suc pc))
variables_needed (expect_port l p e k) c pc = omega (arith, variables_needed k c (suc pc))
variables_needed (step_by l n k) c pc = omega (arith, variables_needed k c (suc pc))
variables_needed (let_var l x e k) c pc = omega (arith, variables_needed k (with_var x c) (suc pc), with_length c.vars x)
variables_needed (if_true l e a b k) c pc =
    let p = suc pc in
    let q = suc (suc pc + length (block_code a c (suc pc))) in
    let r = suc (suc pc + length (block_code a c (suc pc))) + length (block_code b c (suc (suc pc + length (block_code a c (suc pc))))) in
    let h1 : max (length c.vars) (variable_slots (block_code a c (suc pc))) ≡ most_vars a c.vars = variables_needed a c (suc pc) in
    let h2 : max (length c.vars) (variable_slots (block_code b c q)) ≡ most_vars b c.vars = variables_needed b c q in
    let h3 : max (length c.vars) (variable_slots (block_code k c r)) ≡ most_vars k c.vars = variables_needed k c r in
    omega (arith, h1, h2, h3, variables_append (block_code a c (suc pc)) (at c (instr.Goto r) ∷ (block_code b c q ++ block_code k c r)), variables_append (block_code b c q) (block_code k c r))
variables_needed (while_true l e a k) c pc =
    let r = suc (suc pc + length (block_code a c (suc pc))) in
    omega (arith, variables_needed a c (suc pc), variables_needed k c r, variables_append (block_code a c (suc pc)) (at c (instr.Turn l (operand c.vars e) (suc pc)) ∷ block_code k c r))
variables_needed (repeat_by l e a k) c pc =
    let r = suc (suc pc + length (block_code a (deeper c) (suc pc))) in
    omega (arith, variables_needed a (deeper c) (suc pc), variables_needed k c r, variables_append (block_code a (deeper c) (suc pc)) (at (deeper c) (instr.Again l (suc pc)) ∷ block_code k c r))
variables_needed (fork_as l g h a k) c pc =
    let r = suc (suc pc + length (block_code a (child_scope g c) (suc pc))) in
    omega (
      arith,
      variables_needed a (child_scope g c) (suc pc),
      variables_needed k (with_handle h c) r,
      variables_append (block_code a (child_scope g c) (suc pc)) (at (child_scope g c) instr.End ∷ block_code k (with_handle h c) r),
    )
variables_needed (join_of l h k) c pc = omega (arith, variables_needed k c (suc pc))
variables_needed (joinstep_of l h k) c pc = omega (arith, variables_needed k c (suc pc))

pub handles_needed : (b : Body) (c : Scope) (pc : ℕ) → max (length c.handles) (handle_slots (block_code b c pc)) ≡ most_handles b c.handles
handles_needed nil c pc = omega arith
handles_needed (poke_port l p e k) c pc = omega (arith, handles_needed k c (suc pc))
handles_needed (peek_port l p into k) c pc = omega (arith, handles_needed k c (suc pc))
handles_needed (expect_port l p e k) c pc = omega (arith, handles_needed k c (suc pc))
handles_needed (step_by l n k) c pc = omega (arith, handles_needed k c (suc pc))
handles_needed (let_var l x e k) c pc = omega (arith, handles_needed k (with_var x c) (suc pc))
handles_needed (if_true l e a b k) c pc =
    let p = suc pc in
    let q = suc (suc pc + length (block_code a c (suc pc))) in
    let r = suc (suc pc + length (block_code a c (suc pc))) + length (block_code b c (suc (suc pc + length (block_code a c (suc pc))))) in
    let h1 : max (length c.handles) (handle_slots (block_code a c (suc pc))) ≡ most_handles a c.handles = handles_needed a c (suc pc) in
    let h2 : max (length c.handles) (handle_slots (block_code b c q)) ≡ most_handles b c.handles = handles_needed b c q in
    let h3 : max (length c.handles) (handle_slots (block_code k c r)) ≡ most_handles k c.handles = handles_needed k c r in
    omega (arith, h1, h2, h3, handles_append (block_code a c (suc pc)) (at c (instr.Goto r) ∷ (block_code b c q ++ block_code k c r)), handles_append (block_code b c q) (block_code k c r))
handles_needed (while_true l e a k) c pc =
    let r = suc (suc pc + length (block_code a c (suc pc))) in
    omega (arith, handles_needed a c (suc pc), handles_needed k c r, handles_append (block_code a c (suc pc)) (at c (instr.Turn l (operand c.vars e) (suc pc)) ∷ block_code k c r))
handles_needed (repeat_by l e a k) c pc =
    let r = suc (suc pc + length (block_code a (deeper c) (suc pc))) in
    omega (arith, handles_needed a (deeper c) (suc pc), handles_needed k c r, handles_append (block_code a (deeper c) (suc pc)) (at (deeper c) (instr.Again l (suc pc)) ∷ block_code k c r))
handles_needed (fork_as l g h a k) c pc =
    let r = suc (suc pc + length (block_code a (child_scope g c) (suc pc))) in
    omega (
      arith,
      handles_needed a (child_scope g c) (suc pc),
      handles_needed k (with_handle h c) r,
      with_length c.handles h,
      handles_append (block_code a (child_scope g c) (suc pc)) (at (child_scope g c) instr.End ∷ block_code k (with_handle h c) r),
    )
handles_needed (join_of l h k) c pc = omega (arith, handles_needed k c (suc pc))
handles_needed (joinstep_of l h k) c pc = omega (arith, handles_needed k c (suc pc))

-- a test

pub test_variables : (b : Body) → variable_slots (test_code b) ≡ most_vars b []
test_variables b = omega (arith, variables_append (block_code b first_scope 0) (at first_scope instr.End ∷ []), variables_needed b first_scope 0)

pub test_handles : (b : Body) → handle_slots (test_code b) ≡ most_handles b []
test_handles b = omega (arith, handles_append (block_code b first_scope 0) (at first_scope instr.End ∷ []), handles_needed b first_scope 0)

-- instructions gone through one by one

pub greater : (m n : ℕ) → ord_max nat_cmp m n ≡ max m n
greater m n = grind (arith, nat_tests)

pub first_variables : (n : ℕ) (code : List Placed) (i : ℕ) (x : Placed) → take (i + 1) code ≡ take i code ++ x ∷ [] → n ≡ variable_slots (take i code) → max n (set_slots x.instr) ≡ variable_slots (take (i + 1) code)
first_variables n code i x e m = sym (ap variable_slots e ∙ variables_append (take i code) (x ∷ []) ∙ same)
  where
    same : max (variable_slots (take i code)) (variable_slots (x ∷ [])) ≡ max n (set_slots x.instr)
    same = omega (arith, m)

pub first_handles : (n : ℕ) (code : List Placed) (i : ℕ) (x : Placed) → take (i + 1) code ≡ take i code ++ x ∷ [] → n ≡ handle_slots (take i code) → max n (fork_slots x.instr) ≡ handle_slots (take (i + 1) code)
first_handles n code i x e m = sym (ap handle_slots e ∙ handles_append (take i code) (x ∷ []) ∙ same)
  where
    same : max (handle_slots (take i code)) (handle_slots (x ∷ [])) ≡ max n (fork_slots x.instr)
    same = omega (arith, m)
