-- What each part of a test adds to a draft.
use Rattle.std.proofs.Common.{◌≡◌, ℕ, zero, suc, ◌+◌, ◌*◌, ◌<◌, ◌≤◌, List, [], ◌∷◌, ◌++◌, length, length-append, append_assoc, append-nil, Option, Some, None, option_map, refl, sym, ap, subst, ◌∙◌, arith, take, drop, map, sum, slice_set, Result, Ok, Err, OnOk}
use Rattle.tb_base.specs.declared.path.Region.{Region}
use Rattle.net_core.specs.declared.ports.Signal.{Signal}
use Rattle.tl_ast.specs.declared.tree.TestExpr.{TestExpr}
use Rattle.tl_ast.specs.declared.tree.DriverKind.{DriverKind}
use Rattle.tl_ast.specs.declared.tree.TestStmt.{TestStmt}
use Rattle.tl_ast.specs.declared.tree.TestStmt.TheVariants as stmt
use Rattle.tl_check.specs.Bounds.{statements_level, statements}
use Rattle.tl_check.specs.Scopes.{child_region}
use Rattle.tl_check.specs.Walk.{Ports}
use Rattle.tl_check.proofs.Unrolled.{fold-Poke, fold-Peek, fold-Expect, fold-Step, fold-Let, fold-Set, fold-If, fold-While, fold-Repeat, fold-Fork, fold-Join, fold-JoinStep, fold-Driver, fold-ResetFor}
use Rattle.tl_threads.specs.declared.code.Item.{Item}
use Rattle.tl_threads.specs.declared.code.Placed.{Placed}
use Rattle.tl_threads.specs.declared.code.Instr.{Instr}
use Rattle.tl_threads.specs.declared.code.Instr.TheVariants as instr
use Rattle.tl_threads.specs.Values.{Name, Expr, expr_of}
use Rattle.tl_threads.specs.Bodies.{Body, Piece, signal_of, piece, body_of}
use Rattle.tl_threads.specs.Bodies.Body.{nil, poke_port, peek_port, expect_port, step_by, let_var, if_true, while_true, repeat_by, fork_as, join_of, joinstep_of}
use Rattle.tl_threads.specs.Code.{Scope, slot_found, slot, grown, with_name, operand, at, with_var, with_handle, deeper, child_scope, block_code}
use Rattle.tl_threads.proofs.Pieces.{piece-Poke, piece-Peek, piece-Expect, piece-Step, piece-Let, piece-Set, piece-If, piece-While, piece-Repeat, piece-Fork, piece-Join, piece-JoinStep, piece-Driver, piece-ResetFor}
use Rattle.tl_code.specs.declared.level.Level.{Level}
use Rattle.tl_code.specs.Drafts.{Drafted, scope_of, behind, with_rest, replaced, stored, if_closed, Adds, AddsBlock, AddsSide}
use Rattle.std.proofs.Math.ListN.{length-set}
use Rattle.std.proofs.lemmas.List.Sums.{sum-map, sum_by-cons}
use Rattle.tl_code.proofs.Laying.{behind_one, laid_choice, laid_framed}

-- ---- names

pub take_same : (xs : List Name) → take (length xs) xs ≡ xs
take_same [] = refl
take_same (x ∷ xs) = ap (λ l. x ∷ l) (take_same xs)

take_append : (xs ys : List Name) → take (length xs) (xs ++ ys) ≡ xs
take_append [] ys = refl
take_append (x ∷ xs) ys = ap (λ l. x ∷ l) (take_append xs ys)

take_grown : (xs : List Name) (n : Name) (o : Option ℕ) → take (length xs) (grown xs n o) ≡ xs
take_grown xs n None = take_append xs (n ∷ [])
take_grown xs n (Some k) = take_same xs

take_with_name : (xs : List Name) (n : Name) → take (length xs) (with_name xs n) ≡ xs
take_with_name xs n = take_grown xs n (slot_found n xs)

take_through : (xs ys zs : List Name) → take (length xs) ys ≡ xs → take (length ys) zs ≡ ys → take (length xs) zs ≡ xs
take_through [] ys zs e d = refl
take_through (x ∷ xs) [] zs e d = absurd (cc)
take_through (x ∷ xs) (y ∷ ys) [] e d = absurd (cc)
take_through (x ∷ xs) (y ∷ ys) (z ∷ zs) e d =
    let a : z ≡ y = cc in let b : y ≡ x = cc in let e' : take (length xs) ys ≡ xs = cc in let d' : take (length ys) zs ≡ ys = cc in
    ap (λ w. w ∷ take (length xs) zs) (a ∙ b) ∙ ap (λ w. x ∷ w) (take_through xs ys zs e' d')

-- ---- parts that are the same

pub adds_as : (level : Level) (p q : Body → Body) (m n : ℕ) (old new : Drafted) → ((rest : Body) → q rest ≡ p rest) → m ≡ n → Adds level p m old new → Adds level q n old new
adds_as level p q m n old new e d a = record {
  code_is = λ rest. ap (with_rest level old) (e rest) ∙ a.code_is rest;
  variables = a.variables;
  handles = a.handles;
  grows = a.grows;
  within = subst (λ (k : ℕ). length new.placed ≤ length old.placed + k) d a.within;
}

-- nothing is written
pub adds_none : (level : Level) (part : Body → Body) (most : ℕ) (old : Drafted) → ((rest : Body) → part rest ≡ rest) → Adds level part most old old
adds_none level part most old e = record {
  code_is = λ rest. ap (with_rest level old) (e rest);
  variables = take_same old.variables;
  handles = take_same old.handles;
  grows = omega arith;
  within = omega arith;
}

-- ---- sizes

behind_length : (level : Level) (i : Instr) (old new : Drafted) → new ≡ behind level i old → length new.placed ≡ length old.placed + 1
behind_length level i old new e = ap (λ d. length d.placed) e ∙ length-append old.placed (at (scope_of level old) i ∷ [])

-- the same block
pub same_side : (ports : Ports) (level : Level) (xs ys : List TestStmt) (old : Drafted) (head : ℕ) (new : Drafted) → xs ≡ ys → AddsSide ports level xs old head new → AddsSide ports level ys old head new
same_side ports level xs ys old head new e s = subst (λ (zs : List TestStmt). AddsSide ports level zs old head new) e s

-- what holds where it went well
pub on_ok : {A E : Type 0} (r : Result A E) (P Q : Type 0) → (P → Q) → OnOk r P → OnOk r Q
on_ok (Ok x) P Q f p = f p
on_ok (Err e) P Q f p = tt

-- ---- one instruction

adds_one_at : (level : Level) (part : Body → Body) (most : ℕ) (i : Instr) (old : Drafted) → 1 ≤ most
    → ((rest : Body) → block_code (part rest) (scope_of level old) (length old.placed) ≡ at (scope_of level old) i ∷ block_code rest (scope_of level old) (suc (length old.placed)))
    → Adds level part most old (behind level i old)
adds_one_at level part most i old m e = record {
  code_is = λ rest.
      ap (λ code. old.placed ++ code) (e rest) ∙ behind_one old.placed (at (scope_of level old) i) (λ p. block_code rest (scope_of level old) p);
  variables = take_same old.variables;
  handles = take_same old.handles;
  grows = omega (arith, length-append old.placed (at (scope_of level old) i ∷ []));
  within = omega (arith, length-append old.placed (at (scope_of level old) i ∷ []));
}

pub adds_one : (level : Level) (part : Body → Body) (most : ℕ) (i : Instr) (old new : Drafted) → new ≡ behind level i old → 1 ≤ most
    → ((rest : Body) → block_code (part rest) (scope_of level old) (length old.placed) ≡ at (scope_of level old) i ∷ block_code rest (scope_of level old) (suc (length old.placed)))
    → Adds level part most old new
adds_one level part most i old new n m e = subst (λ (d : Drafted). Adds level part most old d) (sym n) (adds_one_at level part most i old m e)

module _ (ports : Ports) (level : Level) where
  abbrev part : TestStmt → Body → Body
  part s = piece ports s level.region

  -- the code of a statement, over what is known in a draft
  abbrev coded : Drafted → Body → List Placed
  coded old b = block_code b (scope_of level old) (length old.placed)

  pub poke_adds : (s : TestStmt) (l : ℕ) (p : Name) (a : TestExpr) (port : Signal) (o : List Item) (old new : Drafted) → s ≡ stmt.Poke l p a
      → port ≡ signal_of ports p → o ≡ operand old.variables (expr_of a) → new ≡ behind level (instr.Poke l port o) old → Adds level (piece ports s level.region) (2 * statements s) old new
  poke_adds s l p a port o old new e ep eo n =
      let m : statements s ≡ 1 = ap statements e ∙ fold-Poke ℕ statements_level l p a in
      adds_one level (part s) (2 * statements s) (instr.Poke l port o) old new n (omega arith)
      (λ rest. ap (λ s. coded old (part s rest)) e ∙ ap (coded old) (piece-Poke ports l p a level.region rest)
      ∙ ap (λ q. at (scope_of level old) (instr.Poke l q (operand old.variables (expr_of a))) ∷ block_code rest (scope_of level old) (suc (length old.placed))) (sym ep)
      ∙ ap (λ q. at (scope_of level old) (instr.Poke l port q) ∷ block_code rest (scope_of level old) (suc (length old.placed))) (sym eo))

  pub peek_adds : (s : TestStmt) (l : ℕ) (p : Name) (into : Option Name) (port : Signal) (k : Option ℕ) (old new : Drafted) → s ≡ stmt.Peek l p into
      → port ≡ signal_of ports p → k ≡ option_map (λ x. slot x old.variables) into → new ≡ behind level (instr.Peek l port k) old → Adds level (piece ports s level.region) (2 * statements s) old new
  peek_adds s l p into port k old new e ep ek n =
      let m : statements s ≡ 1 = ap statements e ∙ fold-Peek ℕ statements_level l p into in
      adds_one level (part s) (2 * statements s) (instr.Peek l port k) old new n (omega arith)
      (λ rest. ap (λ s. coded old (part s rest)) e ∙ ap (coded old) (piece-Peek ports l p into level.region rest)
      ∙ ap (λ q. at (scope_of level old) (instr.Peek l q (option_map (λ x. slot x old.variables) into)) ∷ block_code rest (scope_of level old) (suc (length old.placed))) (sym ep)
      ∙ ap (λ q. at (scope_of level old) (instr.Peek l port q) ∷ block_code rest (scope_of level old) (suc (length old.placed))) (sym ek))

  pub expect_adds : (s : TestStmt) (l : ℕ) (p : Name) (a : TestExpr) (port : Signal) (o : List Item) (old new : Drafted) → s ≡ stmt.Expect l p a
      → port ≡ signal_of ports p → o ≡ operand old.variables (expr_of a) → new ≡ behind level (instr.Expect l port o) old → Adds level (piece ports s level.region) (2 * statements s) old new
  expect_adds s l p a port o old new e ep eo n =
      let m : statements s ≡ 1 = ap statements e ∙ fold-Expect ℕ statements_level l p a in
      adds_one level (part s) (2 * statements s) (instr.Expect l port o) old new n (omega arith)
      (λ rest. ap (λ s. coded old (part s rest)) e ∙ ap (coded old) (piece-Expect ports l p a level.region rest)
      ∙ ap (λ q. at (scope_of level old) (instr.Expect l q (operand old.variables (expr_of a))) ∷ block_code rest (scope_of level old) (suc (length old.placed))) (sym ep)
      ∙ ap (λ q. at (scope_of level old) (instr.Expect l port q) ∷ block_code rest (scope_of level old) (suc (length old.placed))) (sym eo))

  pub step_adds : (s : TestStmt) (l c : ℕ) (old new : Drafted) → s ≡ stmt.Step l c → new ≡ behind level (instr.Step l c) old → Adds level (piece ports s level.region) (2 * statements s) old new
  step_adds s l c old new e n =
      let m : statements s ≡ 1 = ap statements e ∙ fold-Step ℕ statements_level l c in
      adds_one level (part s) (2 * statements s) (instr.Step l c) old new n (omega arith)
      (λ rest. ap (λ s. coded old (part s rest)) e ∙ ap (coded old) (piece-Step ports l c level.region rest))

  pub join_adds : (s : TestStmt) (l : ℕ) (h : Name) (k : ℕ) (old new : Drafted) → s ≡ stmt.Join l h → k ≡ slot h old.handles → new ≡ behind level (instr.Join l k) old → Adds level (piece ports s level.region) (2 * statements s) old new
  join_adds s l h k old new e ek n =
      let m : statements s ≡ 1 = ap statements e ∙ fold-Join ℕ statements_level l h in
      adds_one level (part s) (2 * statements s) (instr.Join l k) old new n (omega arith)
      (λ rest. ap (λ s. coded old (part s rest)) e ∙ ap (coded old) (piece-Join ports l h level.region rest)
      ∙ ap (λ q. at (scope_of level old) (instr.Join l q) ∷ block_code rest (scope_of level old) (suc (length old.placed))) (sym ek))

  pub joinstep_adds : (s : TestStmt) (l : ℕ) (h : Name) (k : ℕ) (old new : Drafted) → s ≡ stmt.JoinStep l h → k ≡ slot h old.handles → new ≡ behind level (instr.JoinStep l k) old → Adds level (piece ports s level.region) (2 * statements s) old new
  joinstep_adds s l h k old new e ek n =
      let m : statements s ≡ 1 = ap statements e ∙ fold-JoinStep ℕ statements_level l h in
      adds_one level (part s) (2 * statements s) (instr.JoinStep l k) old new n (omega arith)
      (λ rest. ap (λ s. coded old (part s rest)) e ∙ ap (coded old) (piece-JoinStep ports l h level.region rest)
      ∙ ap (λ q. at (scope_of level old) (instr.JoinStep l q) ∷ block_code rest (scope_of level old) (suc (length old.placed))) (sym ek))

  pub driver_adds : (s : TestStmt) (l : ℕ) (kind : DriverKind) (p : Name) (xs : List TestExpr) (old : Drafted) → s ≡ stmt.Driver l kind p xs → Adds level (piece ports s level.region) (2 * statements s) old old
  driver_adds s l kind p xs old e = adds_none level (part s) (2 * statements s) old (λ rest. ap (λ s. part s rest) e ∙ piece-Driver ports l kind p xs level.region rest)

  pub reset_adds : (s : TestStmt) (l c : ℕ) (old : Drafted) → s ≡ stmt.ResetFor l c → Adds level (piece ports s level.region) (2 * statements s) old old
  reset_adds s l c old e = adds_none level (part s) (2 * statements s) old (λ rest. ap (λ s. part s rest) e ∙ piece-ResetFor ports l c level.region rest)

  -- ---- a variable becomes known

  store_adds_at : (l : ℕ) (x : Name) (a : Expr) (o : List Item) (old : Drafted) → o ≡ operand old.variables a → Adds level (let_var l x a) 2 old (stored level l x o old)
  store_adds_at l x a o old eo = record {
    code_is = λ rest.
        ap (λ q. old.placed ++ at (scope_of level old) (instr.Store l (slot x (with_name old.variables x)) q) ∷ block_code rest (with_var x (scope_of level old)) (suc (length old.placed))) (sym eo)
        ∙ behind_one old.placed (at (scope_of level old) (instr.Store l (slot x (with_name old.variables x)) o)) (λ p. block_code rest (with_var x (scope_of level old)) p);
    variables = take_with_name old.variables x;
    handles = take_same old.handles;
    grows = omega (arith, length-append old.placed (at (scope_of level old) (instr.Store l (slot x (with_name old.variables x)) o) ∷ []));
    within = omega (arith, length-append old.placed (at (scope_of level old) (instr.Store l (slot x (with_name old.variables x)) o) ∷ []));
  }

  store_adds : (l : ℕ) (x y : Name) (a : Expr) (o : List Item) (old new : Drafted) → y ≡ x → o ≡ operand old.variables a → new ≡ stored level l y o old → Adds level (let_var l x a) 2 old new
  store_adds l x y a o old new ex eo n =
      subst (λ (d : Drafted). Adds level (let_var l x a) 2 old d) (sym (n ∙ ap (λ x. stored level l x o old) ex)) (store_adds_at l x a o old eo)

  pub let_adds : (s : TestStmt) (l : ℕ) (x y : Name) (a : TestExpr) (o : List Item) (old new : Drafted) → s ≡ stmt.Let l x a → y ≡ x → o ≡ operand old.variables (expr_of a)
      → new ≡ stored level l y o old → Adds level (piece ports s level.region) (2 * statements s) old new
  let_adds s l x y a o old new e ex eo n =
      let m : statements s ≡ 1 = ap statements e ∙ fold-Let ℕ statements_level l x a in
      adds_as level (let_var l x (expr_of a)) (part s) 2 (2 * statements s) old new (λ rest. ap (λ s. part s rest) e ∙ piece-Let ports l x a level.region rest) (omega arith)
      (store_adds l x y (expr_of a) o old new ex eo n)

  pub set_adds : (s : TestStmt) (l : ℕ) (x y : Name) (a : TestExpr) (o : List Item) (old new : Drafted) → s ≡ stmt.Set l x a → y ≡ x → o ≡ operand old.variables (expr_of a)
      → new ≡ stored level l y o old → Adds level (piece ports s level.region) (2 * statements s) old new
  set_adds s l x y a o old new e ex eo n =
      let m : statements s ≡ 1 = ap statements e ∙ fold-Set ℕ statements_level l x a in
      adds_as level (let_var l x (expr_of a)) (part s) 2 (2 * statements s) old new (λ rest. ap (λ s. part s rest) e ∙ piece-Set ports l x a level.region rest) (omega arith)
      (store_adds l x y (expr_of a) o old new ex eo n)

  -- ---- blocks

  pub while_part : (s : TestStmt) (l : ℕ) (a : TestExpr) (xs : List TestStmt) (old new : Drafted) → s ≡ stmt.While l a xs
      → Adds level (while_true l (expr_of a) (body_of ports level.region xs)) (2 + 2 * sum (map statements xs)) old new → Adds level (piece ports s level.region) (2 * statements s) old new
  while_part s l a xs old new e d =
      let m : statements s ≡ suc (sum (map statements xs)) = ap statements e ∙ fold-While ℕ statements_level l a xs in
      adds_as level (while_true l (expr_of a) (body_of ports level.region xs)) (part s) (2 + 2 * sum (map statements xs)) (2 * statements s) old new (λ rest. ap (λ s. part s rest) e ∙ piece-While ports l a xs level.region rest) (omega arith) d

  pub repeat_part : (s : TestStmt) (l : ℕ) (a : TestExpr) (xs : List TestStmt) (old new : Drafted) → s ≡ stmt.Repeat l a xs
      → Adds level (repeat_by l (expr_of a) (body_of ports level.region xs)) (2 + 2 * sum (map statements xs)) old new → Adds level (piece ports s level.region) (2 * statements s) old new
  repeat_part s l a xs old new e d =
      let m : statements s ≡ suc (sum (map statements xs)) = ap statements e ∙ fold-Repeat ℕ statements_level l a xs in
      adds_as level (repeat_by l (expr_of a) (body_of ports level.region xs)) (part s) (2 + 2 * sum (map statements xs)) (2 * statements s) old new (λ rest. ap (λ s. part s rest) e ∙ piece-Repeat ports l a xs level.region rest) (omega arith) d

  pub fork_part : (s : TestStmt) (l : ℕ) (w : Option Region) (g : Region) (h : Name) (xs : List TestStmt) (old new : Drafted) → s ≡ stmt.Fork l w h xs → g ≡ child_region level.region w
      → Adds level (fork_as l g h (body_of ports g xs)) (2 + 2 * sum (map statements xs)) old new → Adds level (piece ports s level.region) (2 * statements s) old new
  fork_part s l w g h xs old new e eg d =
      let m : statements s ≡ suc (sum (map statements xs)) = ap statements e ∙ fold-Fork ℕ statements_level l w h xs in
      adds_as level (fork_as l g h (body_of ports g xs)) (part s) (2 + 2 * sum (map statements xs)) (2 * statements s) old new
      (λ rest. ap (λ s. part s rest) e ∙ piece-Fork ports l w h xs level.region rest ∙ ap (λ g. fork_as l g h (body_of ports g xs) rest) (sym eg)) (omega arith) d

  -- ---- an `if`

  if_adds : (l : ℕ) (a : Expr) (o : List Item) (xs ys : List TestStmt) (d0 d1 d2 d3 : Drafted) (head middle : ℕ) → o ≡ operand d0.variables a
      → AddsSide ports level xs d0 head d1 → AddsSide ports level ys d1 middle d2 → d3 ≡ if_closed level l o head middle d2
      → (rest : Body) → with_rest level d0 (if_true l a (body_of ports level.region xs) (body_of ports level.region ys) rest) ≡ with_rest level d3 rest
  if_adds l a o xs ys d0 d1 d2 d3 head middle eo s1 s2 e3 rest =
      let c : Scope = scope_of level d0 in
      let k1 : scope_of level d1 ≡ scope_of level d0 = ap (scope_of level) s1.new_is in
      let k2 : scope_of level d2 ≡ scope_of level d0 = ap (scope_of level) s2.new_is ∙ k1 in
      let k3 : scope_of level d3 ≡ scope_of level d0 = ap (scope_of level) e3 ∙ k2 in
      let c3 : List Placed = d1.placed ++ at (scope_of level d1) instr.End ∷ [] in
      let m3 : suc middle ≡ length (d1.placed ++ at (scope_of level d1) instr.End ∷ []) = omega (arith, s2.head_is, length-append d1.placed (at (scope_of level d1) instr.End ∷ [])) in
      laid_choice (scope_of level d0) (λ to. at (scope_of level d0) (instr.Unless l (operand d0.variables a) to)) (λ p. block_code (body_of ports level.region xs) (scope_of level d0) p)
      (λ p. block_code (body_of ports level.region ys) (scope_of level d0) p) (λ p. block_code rest (scope_of level d0) p)
      d0.placed (d0.placed ++ at (scope_of level d0) instr.End ∷ []) d1.placed (d1.placed ++ at (scope_of level d1) instr.End ∷ []) d2.placed d3.placed
      (at (scope_of level d0) instr.End) (at (scope_of level d1) instr.End) head middle (suc middle) (length d2.placed)
      s1.head_is refl (sym (ap (λ d. d.placed) s1.new_is)) s2.head_is refl m3
      (ap (λ c. (d1.placed ++ at (scope_of level d1) instr.End ∷ []) ++ block_code (body_of ports level.region ys) c (length (d1.placed ++ at (scope_of level d1) instr.End ∷ []))) (sym k1) ∙ sym (ap (λ d. d.placed) s2.new_is))
      refl
      (ap (λ d. d.placed) e3
      ∙ ap (λ c. slice_set (slice_set d2.placed head (at c (instr.Unless l o (suc middle)))) middle (at c (instr.Goto (length d2.placed)))) k2
      ∙ ap (λ o. slice_set (slice_set d2.placed head (at (scope_of level d0) (instr.Unless l o (suc middle)))) middle (at (scope_of level d0) (instr.Goto (length d2.placed)))) eo)
      ∙ ap (λ c. d3.placed ++ block_code rest c (length d3.placed)) (sym k3)

  pub if_part : (s : TestStmt) (l : ℕ) (a : TestExpr) (o : List Item) (xs ys : List TestStmt) (d0 d1 d2 d3 : Drafted) (head middle : ℕ) → s ≡ stmt.If l a xs ys → o ≡ operand d0.variables (expr_of a)
      → AddsSide ports level xs d0 head d1 → AddsSide ports level ys d1 middle d2 → d3 ≡ if_closed level l o head middle d2 → Adds level (piece ports s level.region) (2 * statements s) d0 d3
  if_part s l a o xs ys d0 d1 d2 d3 head middle e eo s1 s2 e3 =
      let m : statements s ≡ suc (sum (map statements xs) + sum (map statements ys)) = ap statements e ∙ fold-If ℕ statements_level l a xs ys in
      let v : d3.variables ≡ d0.variables = ap (λ d. d.variables) e3 ∙ ap (λ d. d.variables) s2.new_is ∙ ap (λ d. d.variables) s1.new_is in
      let h : d3.handles ≡ d0.handles = ap (λ d. d.handles) e3 ∙ ap (λ d. d.handles) s2.new_is ∙ ap (λ d. d.handles) s1.new_is in
      let n : length d3.placed ≡ length d2.placed = ap (λ d. length d.placed) e3 ∙ simp length-set in
      record {
        code_is = λ rest.
            ap (λ s. with_rest level d0 (part s rest)) e ∙ ap (with_rest level d0) (piece-If ports l a xs ys level.region rest)
            ∙ if_adds l (expr_of a) o xs ys d0 d1 d2 d3 head middle eo s1 s2 e3 rest;
        variables = ap (take (length d0.variables)) v ∙ take_same d0.variables;
        handles = ap (take (length d0.handles)) h ∙ take_same d0.handles;
        grows = omega (arith, s1.grows, s2.grows);
        within = omega (arith, s1.within, s2.within);
      }

  -- ---- a body with a head and a foot: of a `while`

  pub while_adds : (l : ℕ) (a : Expr) (o p : List Item) (xs : List TestStmt) (d0 d1 d2 d3 : Drafted) (head : ℕ) → o ≡ operand d0.variables a → p ≡ o
      → AddsSide ports level xs d0 head d1 → d2 ≡ behind level (instr.Turn l p (suc head)) d1 → d3 ≡ replaced level head (instr.Enter l o (length d2.placed)) d2
      → Adds level (while_true l a (body_of ports level.region xs)) (2 + 2 * sum (map statements xs)) d0 d3
  while_adds l a o p xs d0 d1 d2 d3 head eo ep s1 e2 e3 =
      let k1 : scope_of level d1 ≡ scope_of level d0 = ap (scope_of level) s1.new_is in
      let k2 : scope_of level d2 ≡ scope_of level d0 = ap (scope_of level) e2 ∙ k1 in
      let k3 : scope_of level d3 ≡ scope_of level d0 = ap (scope_of level) e3 ∙ k2 in
      let n2 : length d2.placed ≡ length d1.placed + 1 = ap (λ d. length d.placed) e2 ∙ length-append d1.placed (at (scope_of level d1) (instr.Turn l p (suc head)) ∷ []) in
      let n3 : length d3.placed ≡ length d2.placed = ap (λ d. length d.placed) e3 ∙ simp length-set in
      record {
        code_is = λ rest.
            laid_framed (λ to. at (scope_of level d0) (instr.Enter l (operand d0.variables a) to)) (λ p. block_code (body_of ports level.region xs) (scope_of level d0) p)
            (λ back. at (scope_of level d0) (instr.Turn l (operand d0.variables a) back)) (λ p. block_code rest (scope_of level d0) p)
            d0.placed (d0.placed ++ at (scope_of level d0) instr.End ∷ []) d1.placed d2.placed d3.placed (at (scope_of level d0) instr.End) head (length d2.placed)
            s1.head_is refl (sym (ap (λ d. d.placed) s1.new_is))
            (ap (λ d. d.placed) e2 ∙ ap (λ c. d1.placed ++ at c (instr.Turn l p (suc head)) ∷ []) k1 ∙ ap (λ o. d1.placed ++ at (scope_of level d0) (instr.Turn l o (suc head)) ∷ []) (ep ∙ eo))
            refl
            (ap (λ d. d.placed) e3 ∙ ap (λ c. slice_set d2.placed head (at c (instr.Enter l o (length d2.placed)))) k2
            ∙ ap (λ o. slice_set d2.placed head (at (scope_of level d0) (instr.Enter l o (length d2.placed)))) eo)
            ∙ ap (λ c. d3.placed ++ block_code rest c (length d3.placed)) (sym k3);
        variables = ap (λ c. take (length d0.variables) c.vars) k3 ∙ take_same d0.variables;
        handles = ap (λ c. take (length d0.handles) c.handles) k3 ∙ take_same d0.handles;
        grows = omega (arith, s1.grows);
        within = omega (arith, s1.within);
      }

  -- of a `repeat`

  pub repeat_adds : (l : ℕ) (a : Expr) (o : List Item) (xs : List TestStmt) (inner : Level) (d0 d1 d2 d3 d4 : Drafted) (head : ℕ) → o ≡ operand d0.variables a
      → head ≡ length d0.placed → inner ≡ record level { loops = suc level.loops } → d1 ≡ behind level instr.End d0 → AddsBlock ports inner xs d1 d2
      → d3 ≡ behind inner (instr.Again l (suc head)) d2 → d4 ≡ replaced level head (instr.Count l o (length d3.placed)) d3
      → Adds level (repeat_by l a (body_of ports level.region xs)) (2 + 2 * sum (map statements xs)) d0 d4
  repeat_adds l a o xs inner d0 d1 d2 d3 d4 head eo eh ei e1 b e3 e4 =
      let k1 : scope_of level d1 ≡ scope_of level d0 = ap (scope_of level) e1 in
      let k2 : scope_of level d2 ≡ scope_of level d0 = ap (scope_of level) b.new_is ∙ k1 in
      let k3 : scope_of level d3 ≡ scope_of level d0 = ap (scope_of level) e3 ∙ k2 in
      let k4 : scope_of level d4 ≡ scope_of level d0 = ap (scope_of level) e4 ∙ k3 in
      let i1 : scope_of inner d1 ≡ deeper (scope_of level d0) = ap (λ i. scope_of i d1) ei ∙ ap deeper k1 in
      let i2 : scope_of inner d2 ≡ deeper (scope_of level d0) = ap (scope_of inner) b.new_is ∙ i1 in
      let n1 : length d1.placed ≡ length d0.placed + 1 = ap (λ d. length d.placed) e1 ∙ length-append d0.placed (at (scope_of level d0) instr.End ∷ []) in
      let n3 : length d3.placed ≡ length d2.placed + 1 = ap (λ d. length d.placed) e3 ∙ length-append d2.placed (at (scope_of inner d2) (instr.Again l (suc head)) ∷ []) in
      let n4 : length d4.placed ≡ length d3.placed = ap (λ d. length d.placed) e4 ∙ simp length-set in
      record {
        code_is = λ rest.
            laid_framed (λ to. at (scope_of level d0) (instr.Count l (operand d0.variables a) to)) (λ p. block_code (body_of ports level.region xs) (deeper (scope_of level d0)) p)
            (λ back. at (deeper (scope_of level d0)) (instr.Again l back)) (λ p. block_code rest (scope_of level d0) p)
            d0.placed d1.placed d2.placed d3.placed d4.placed (at (scope_of level d0) instr.End) head (length d3.placed)
            eh (ap (λ d. d.placed) e1)
            (ap (λ c. d1.placed ++ block_code (body_of ports level.region xs) c (length d1.placed)) (sym i1)
            ∙ ap (λ g. d1.placed ++ block_code (body_of ports g xs) (scope_of inner d1) (length d1.placed)) (sym (ap (λ i. i.region) ei)) ∙ sym (ap (λ d. d.placed) b.new_is))
            (ap (λ d. d.placed) e3 ∙ ap (λ c. d2.placed ++ at c (instr.Again l (suc head)) ∷ []) i2)
            refl
            (ap (λ d. d.placed) e4 ∙ ap (λ c. slice_set d3.placed head (at c (instr.Count l o (length d3.placed)))) k3
            ∙ ap (λ o. slice_set d3.placed head (at (scope_of level d0) (instr.Count l o (length d3.placed)))) eo)
            ∙ ap (λ c. d4.placed ++ block_code rest c (length d4.placed)) (sym k4);
        variables = ap (λ c. take (length d0.variables) c.vars) k4 ∙ take_same d0.variables;
        handles = ap (λ c. take (length d0.handles) c.handles) k4 ∙ take_same d0.handles;
        grows = omega (arith, b.grows);
        within = omega (arith, b.within);
      }

  -- of a fork

  pub fork_adds : (l : ℕ) (g : Region) (h : Name) (xs : List TestStmt) (inner : Level) (d0 d1 d2 d3 d4 d5 d6 d7 : Drafted) (head k : ℕ)
      → head ≡ length d0.placed → inner ≡ record { depth = suc level.depth; region = g; loops = 0 } → d1 ≡ behind level instr.End d0 → d2 ≡ record d1 { handles = [] } → AddsBlock ports inner xs d2 d3
      → d4 ≡ behind inner instr.End d3 → d5 ≡ record d4 { handles = d1.handles } → k ≡ slot h (with_name d5.handles h) → d6 ≡ replaced level head (instr.Fork l g k (length d5.placed)) d5
      → d7 ≡ record d6 { handles = with_name d6.handles h }
      → Adds level (fork_as l g h (body_of ports g xs)) (2 + 2 * sum (map statements xs)) d0 d7
  fork_adds l g h xs inner d0 d1 d2 d3 d4 d5 d6 d7 head k eh ei e1 e2 b e4 e5 ek e6 e7 =
      let i2 : scope_of inner d2 ≡ child_scope g (scope_of level d0) = ap (λ i. scope_of i d2) ei ∙ ap (λ d. scope_of (record { depth = suc level.depth; region = g; loops = 0 }) d) e2 ∙ ap (λ d. child_scope g (scope_of level d)) e1 in
      let i3 : scope_of inner d3 ≡ child_scope g (scope_of level d0) = ap (scope_of inner) b.new_is ∙ i2 in
      let p2 : d2.placed ≡ d0.placed ++ at (scope_of level d0) instr.End ∷ [] = ap (λ d. d.placed) e2 ∙ ap (λ d. d.placed) e1 in
      let v5 : d5.variables ≡ d0.variables = ap (λ d. d.variables) e5 ∙ ap (λ d. d.variables) e4 ∙ ap (λ d. d.variables) b.new_is ∙ ap (λ d. d.variables) e2 ∙ ap (λ d. d.variables) e1 in
      let h5 : d5.handles ≡ d0.handles = ap (λ d. d.handles) e5 ∙ ap (λ d. d.handles) e1 in
      let k5 : scope_of level d5 ≡ scope_of level d0 =
      ap (λ v. record { depth = level.depth; region = level.region; loops = level.loops; vars = v; handles = d5.handles }) v5
      ∙ ap (λ h. record { depth = level.depth; region = level.region; loops = level.loops; vars = d0.variables; handles = h }) h5 in
      let k7 : scope_of level d7 ≡ with_handle h (scope_of level d0) = ap (scope_of level) e7 ∙ ap (λ d. with_handle h (scope_of level d)) e6 ∙ ap (with_handle h) k5 in
      let p5 : d5.placed ≡ d4.placed = ap (λ d. d.placed) e5 in
      let p7 : d7.placed ≡ d6.placed = ap (λ d. d.placed) e7 in
      let n2 : length d2.placed ≡ length d0.placed + 1 = ap length p2 ∙ length-append d0.placed (at (scope_of level d0) instr.End ∷ []) in
      let n4 : length d4.placed ≡ length d3.placed + 1 = ap (λ d. length d.placed) e4 ∙ length-append d3.placed (at (scope_of inner d3) instr.End ∷ []) in
      let n5 : length d5.placed ≡ length d4.placed = ap length p5 in
      let n7 : length d7.placed ≡ length d5.placed = ap length p7 ∙ ap (λ d. length d.placed) e6 ∙ simp length-set in
      record {
        code_is = λ rest.
            laid_framed (λ to. at (scope_of level d0) (instr.Fork l g (slot h (with_name d0.handles h)) to)) (λ p. block_code (body_of ports g xs) (child_scope g (scope_of level d0)) p)
            (λ back. at (child_scope g (scope_of level d0)) instr.End) (λ p. block_code rest (with_handle h (scope_of level d0)) p)
            d0.placed d2.placed d3.placed d5.placed d7.placed (at (scope_of level d0) instr.End) head (length d5.placed)
            eh p2
            (ap (λ c. d2.placed ++ block_code (body_of ports g xs) c (length d2.placed)) (sym i2)
            ∙ ap (λ g. d2.placed ++ block_code (body_of ports g xs) (scope_of inner d2) (length d2.placed)) (sym (ap (λ i. i.region) ei)) ∙ sym (ap (λ d. d.placed) b.new_is))
            (p5 ∙ ap (λ d. d.placed) e4 ∙ ap (λ c. d3.placed ++ at c instr.End ∷ []) i3)
            refl
            (p7 ∙ ap (λ d. d.placed) e6 ∙ ap (λ c. slice_set d5.placed head (at c (instr.Fork l g k (length d5.placed)))) k5
            ∙ ap (λ k. slice_set d5.placed head (at (scope_of level d0) (instr.Fork l g k (length d5.placed)))) (ek ∙ ap (λ hs. slot h (with_name hs h)) h5))
            ∙ ap (λ c. d7.placed ++ block_code rest c (length d7.placed)) (sym k7);
        variables = ap (λ c. take (length d0.variables) c.vars) k7 ∙ take_same d0.variables;
        handles = ap (λ c. take (length d0.handles) c.handles) k7 ∙ take_with_name d0.handles h;
        grows = omega (arith, b.grows);
        within = omega (arith, b.within);
      }

-- ---- a block, one statement after another

-- what the loop over a block keeps
pub record Written (ports : Ports) (level : Level) (block : List TestStmt) (i : ℕ) (old new : Drafted) : Type 0 where
  pub whole : with_rest level old (body_of ports level.region block) ≡ with_rest level new (body_of ports level.region (drop i block))
  pub variables : take (length old.variables) new.variables ≡ old.variables
  pub handles : take (length old.handles) new.handles ≡ old.handles
  pub grows : length old.placed ≤ length new.placed
  pub within : length new.placed + 2 * sum (map statements (drop i block)) ≤ length old.placed + 2 * sum (map statements block)

pub written_start : (ports : Ports) (level : Level) (block : List TestStmt) (d : Drafted) → Written ports level block 0 d d
written_start ports level block d = record { whole = refl; variables = take_same d.variables; handles = take_same d.handles; grows = omega arith; within = omega arith }

-- one statement and others
sum_first : (x : TestStmt) (more : List TestStmt) → sum (map statements (x ∷ more)) ≡ statements x + sum (map statements more)
sum_first x more =
    sum-map statements (x ∷ more) ∙ sum_by-cons statements x more ∙ ap (λ n. statements x + n) (sym (sum-map statements more))

pub written_next : (ports : Ports) (level : Level) (block : List TestStmt) (i : ℕ) (x : TestStmt) (d0 d1 d2 : Drafted) → drop i block ≡ x ∷ drop (i + 1) block
    → Written ports level block i d0 d1 → Adds level (piece ports x level.region) (2 * statements x) d1 d2 → Written ports level block (i + 1) d0 d2
written_next ports level block i x d0 d1 d2 e w a =
    let s : sum (map statements (drop i block)) ≡ statements x + sum (map statements (drop (i + 1) block)) =
    ap (λ xs. sum (map statements xs)) e ∙ sum_first x (drop (i + 1) block) in
    record {
      whole = w.whole ∙ ap (λ xs. with_rest level d1 (body_of ports level.region xs)) e ∙ a.code_is (body_of ports level.region (drop (i + 1) block));
      variables = take_through d0.variables d1.variables d2.variables w.variables a.variables;
      handles = take_through d0.handles d1.handles d2.handles w.handles a.handles;
      grows = omega (arith, w.grows, a.grows);
      within = omega (arith, w.within, a.within);
    }

-- behind the last statement the names of the block are forgotten
pub written_end : (ports : Ports) (level : Level) (block : List TestStmt) (i v h : ℕ) (d0 d1 d2 : Drafted) → drop i block ≡ [] → v ≡ length d0.variables → h ≡ length d0.handles
    → Written ports level block i d0 d1 → d2 ≡ record d1 { variables = take v d1.variables; handles = take h d1.handles } → AddsBlock ports level block d0 d2
written_end ports level block i v h d0 d1 d2 e ev eh w e2 =
    let p : d1.placed ≡ with_rest level d0 (body_of ports level.region block) =
    sym (append-nil d1.placed) ∙ sym (ap (λ xs. with_rest level d1 (body_of ports level.region xs)) e) ∙ sym w.whole in
    let s : sum (map statements (drop i block)) ≡ 0 = ap (λ xs. sum (map statements xs)) e in
    let n : length d2.placed ≡ length d1.placed = ap (λ d. length d.placed) e2 in
    record {
      new_is =
          e2 ∙ ap (λ vs. record d1 { variables = vs; handles = take h d1.handles }) (ap (λ n. take n d1.variables) ev ∙ w.variables)
          ∙ ap (λ hs. record d1 { variables = d0.variables; handles = hs }) (ap (λ n. take n d1.handles) eh ∙ w.handles)
          ∙ ap (λ code. record d0 { placed = code }) p;
      grows = omega (arith, w.grows);
      within = omega (arith, w.within);
    }
