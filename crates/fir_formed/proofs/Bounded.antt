-- How deep what a text can write nests, and how wide its types are.
use Rattle.std.proofs.Common.{◌&&◌, nat_le, ◌≡◌, ◌∙◌, sym, ap, subst, ℕ, suc, ◌+◌, ◌<◌, ◌≤◌, max, Bool, true, List, [], ◌∷◌, Option, Some, None, refl, map, arith}
use Rattle.std.specs.List.{All, list_all}
use Rattle.std.proofs.lemmas.Bool.{ltb-true, leb-true}
use Rattle.std.proofs.lemmas.List.Elements.{All-nil, All-cons}
use Rattle.fir_ast.specs.declared.tree.Ty.{Ty}
use Rattle.fir_ast.specs.declared.tree.Expr.{Expr}
use Rattle.fir_ast.specs.declared.tree.Expr.TheFolds.{fold-roll-Expr, ind-Expr, map-Expr}
use Rattle.fir_ast.specs.declared.tree.Expr.TheOpen.{Expr-F, Ident, Part, At, Index, Lit, Apply}
use Rattle.fir_ast.specs.declared.tree.Expr.TheViews.{roll-Expr}
use Rattle.fir_ast.specs.declared.tree.Port.{Port}
use Rattle.fir_ast.specs.declared.tree.Stmt.{Stmt, map-Stmt}
use Rattle.fir_ast.specs.declared.tree.Stmt.TheFolds.{fold-roll-Stmt, ind-Stmt}
use Rattle.fir_ast.specs.declared.tree.Stmt.TheOpen.{Stmt-F, Wire, Node, Reg, Inst, Connect, Invalid, When, Skip, Verif}
use Rattle.fir_ast.specs.declared.tree.Stmt.TheViews.{roll-Stmt}
use Rattle.fir_ast.specs.declared.tree.Module.{Module}
use Rattle.fir_ast.specs.declared.tree.Circuit.{Circuit}
use Rattle.fir_flat.specs.Shapes.{shape_of}
use Rattle.fir_flat.specs.Bodies.{Body, done, block, level_body, statement, body_of}
use Rattle.fir_print_laws.specs.Standing.{is_word_text}
use Rattle.fir_print_laws.specs.Printable.{all_true}
use Rattle.fir_written.specs.Written.{Spelling, spelling, expr_level, is_written_type, is_written_expr, is_written_sink, is_written_stmt, stmt_level, is_written_port, is_written_module, is_written, IsWritten, goes_on, one_more, block_depth, nesting_level, depth_of_all}
use Rattle.flat_shapes.proofs.Leaves.{all_narrow}
use Rattle.flat_shapes.proofs.Written.{narrow_written}
use Rattle.fir_formed.proofs.Tests.{and_left, and_right}
use Rattle.flat_places.specs.Nesting.{indices, level_indices, nesting, NestBelow}
use Rattle.flat_places.specs.Widths.{IsNarrow, DeclaresNarrow, NarrowModule}

-- computed indices of a reference

abbrev Within : Option ℕ → ℕ → Type 0
Within None k = k ≡ 0
Within (Some n) k = (k ≤ n) × (n ≤ 32)

abbrev Few : Expr → Type 0
Few e = (spelling e).written ≡ true → Within (spelling e).suffixes (indices e)

abbrev With : Type 0
With = (e : Expr) × Few e

-- one suffix more
one_suffix : (o : Option ℕ) (k l : ℕ) → goes_on o ≡ true → Within o k → l ≤ 1 + k → Within (one_more o) l
one_suffix None k l g w h = cc
one_suffix (Some n) k l g w h = let m : n < 32 = ltb-true _ _ g in (omega (arith, w.0, h), omega (arith, m))

level_few : (x : Expr-F With) → (expr_level (map-Expr Expr Spelling spelling (map-Expr With Expr (λ e. e.0) x))).written ≡ true
    → Within (expr_level (map-Expr Expr Spelling spelling (map-Expr With Expr (λ e. e.0) x))).suffixes (level_indices (map-Expr Expr ℕ indices (map-Expr With Expr (λ e. e.0) x)))
level_few (Ident name) h = (omega arith, omega arith)
level_few (Part e name) h =
    one_suffix (spelling e.0).suffixes (indices e.0) (indices e.0) (and_right _ (goes_on (spelling e.0).suffixes) (and_right (spelling e.0).written _ h)) (e.1 (and_left (spelling e.0).written _ h)) (omega arith)
level_few (At e n) h =
    one_suffix (spelling e.0).suffixes (indices e.0) (indices e.0) (and_right _ (goes_on (spelling e.0).suffixes) (and_right (spelling e.0).written _ h)) (e.1 (and_left (spelling e.0).written _ h)) (omega arith)
level_few (Index e index) h =
    one_suffix (spelling e.0).suffixes (indices e.0) (suc (indices e.0)) (and_right _ (goes_on (spelling e.0).suffixes) (and_right (spelling e.0).written _ h)) (e.1 (and_left (spelling e.0).written _ h)) (omega arith)
level_few (Lit signed width negative n) h = refl
level_few (Apply op args nums) h = refl

few : (e : Expr) → Few e
few = ind-Expr Few (λ x y is. subst (λ z. Few (roll-Expr z)) is (λ h.
    let z : Expr-F Expr = map-Expr With Expr (λ e. e.0) y in
    let s : spelling (roll-Expr z) ≡ expr_level (map-Expr Expr Spelling spelling z) = fold-roll-Expr Spelling expr_level z in
    let i : indices (roll-Expr z) ≡ level_indices (map-Expr Expr ℕ indices z) = fold-roll-Expr ℕ level_indices z in
    subst (λ k. Within (spelling (roll-Expr z)).suffixes k) (sym i) (subst (λ (t : Spelling). Within t.suffixes (level_indices (map-Expr Expr ℕ indices z))) (sym s) (level_few y (sym (ap (λ (t : Spelling). t.written) s) ∙ h)))))

few_indices : (e : Expr) → is_written_expr e ≡ true → indices e ≤ 32
few_indices e h = step (spelling e).suffixes (few e h)
  where
    step : (o : Option ℕ) → Within o (indices e) → indices e ≤ 32
    step None w = omega (arith, w)
    step (Some n) w = omega (arith, w.0, w.1)

-- blocks

abbrev Nests : Stmt → Type 0
Nests s = is_written_stmt s ≡ true → (rest : Body) → nesting (statement s rest) ≤ max (block_depth s + 32) (nesting rest)

list_nests : (A : Type 0) (to : A → Stmt) → ((x : A) → Nests (to x)) → (xs : List A) → all_true (map is_written_stmt (map to xs)) ≡ true → (rest : Body)
    → nesting (block (map statement (map to xs)) rest) ≤ max (depth_of_all (map to xs) + 32) (nesting rest)
list_nests A to h [] e rest = omega arith
list_nests A to h (x ∷ xs) e rest =
    let a : nesting (statement (to x) (block (map statement (map to xs)) rest)) ≤ max (block_depth (to x) + 32) (nesting (block (map statement (map to xs)) rest))
    = h x (and_left (is_written_stmt (to x)) _ e) (block (map statement (map to xs)) rest) in
    let b : nesting (block (map statement (map to xs)) rest) ≤ max (depth_of_all (map to xs) + 32) (nesting rest) = list_nests A to h xs (and_right (is_written_stmt (to x)) _ e) rest in
    omega (arith, a, b)

level_nests : (A : Type 0) (to : A → Stmt) → ((x : A) → Nests (to x)) → (y : Stmt-F A) → stmt_level (map-Stmt Stmt Bool is_written_stmt (map-Stmt A Stmt to y)) ≡ true → (rest : Body)
    → nesting (level_body (map-Stmt Stmt (Body → Body) statement (map-Stmt A Stmt to y)) rest) ≤ max (nesting_level (map-Stmt Stmt ℕ block_depth (map-Stmt A Stmt to y)) + 32) (nesting rest)
level_nests A to h (Wire l n t) e rest = omega arith
level_nests A to h (Node l n v) e rest = omega arith
level_nests A to h (Reg l n t c r) e rest = omega arith
level_nests A to h (Inst l n t) e rest = omega arith
level_nests A to h (Connect l s v) e rest =
    let a : indices s ≤ 32 = few_indices s (and_left (is_written_expr s) _ (and_left (is_written_sink s) _ e)) in
    let b : indices v ≤ 32 = few_indices v (and_right (is_written_sink s) _ e) in
    omega (arith, a, b)
level_nests A to h (Invalid l s) e rest =
    let a : indices s ≤ 32 = few_indices s (and_left (is_written_expr s) _ e) in
    omega (arith, a)
level_nests A to h (Skip l) e rest = omega arith
level_nests A to h (Verif l k a c t n) e rest = omega arith
level_nests A to h (When l c xs ys) e rest =
    let b : (all_true (map is_written_stmt (map to xs)) && all_true (map is_written_stmt (map to ys))) ≡ true = and_right (is_written_expr c) _ e in
    let p : nesting (block (map statement (map to xs)) done) ≤ max (depth_of_all (map to xs) + 32) 0 = list_nests A to h xs (and_left (all_true (map is_written_stmt (map to xs))) (all_true (map is_written_stmt (map to ys))) b) done in
    let q : nesting (block (map statement (map to ys)) done) ≤ max (depth_of_all (map to ys) + 32) 0 = list_nests A to h ys (and_right (all_true (map is_written_stmt (map to xs))) (all_true (map is_written_stmt (map to ys))) b) done in
    omega (arith, p, q)

nests : (s : Stmt) → Nests s
nests s = ind-Stmt Nests (λ x y e h rest.
    let a = subst (λ z. stmt_level (map-Stmt Stmt Bool is_written_stmt z) ≡ true → nesting (level_body (map-Stmt Stmt (Body → Body) statement z) rest) ≤ max (nesting_level (map-Stmt Stmt ℕ block_depth z) + 32) (nesting rest)) e
    (λ k. level_nests _ (λ z. z.0) (λ z. z.1) y k rest) (sym (fold-roll-Stmt Bool stmt_level x) ∙ h) in
    subst (λ n. nesting (statement (roll-Stmt x) rest) ≤ max (n + 32) (nesting rest)) (sym (fold-roll-Stmt ℕ nesting_level x))
    (subst (λ (f : Body → Body). nesting (f rest) ≤ max (nesting_level (map-Stmt Stmt ℕ block_depth x) + 32) (nesting rest)) (sym (fold-roll-Stmt (Body → Body) level_body x)) a)) s

body_nests : (ss : List Stmt) → list_all is_written_stmt ss ≡ true → nesting (body_of ss) ≤ depth_of_all ss + 32
body_nests [] e = omega arith
body_nests (s ∷ ss) e =
    let a : nesting (statement s (body_of ss)) ≤ max (block_depth s + 32) (nesting (body_of ss)) = nests s (and_left (is_written_stmt s) _ e) (body_of ss) in
    let b : nesting (body_of ss) ≤ depth_of_all ss + 32 = body_nests ss (and_right (is_written_stmt s) _ e) in
    omega (arith, a, b)

-- types

pub narrow_type : (t : Ty) → is_written_type t ≡ true → IsNarrow (shape_of t)
narrow_type t e = all_narrow (shape_of t) (narrow_written t e)

abbrev Declares : Stmt → Type 0
Declares s = is_written_stmt s ≡ true → (rest : Body) → DeclaresNarrow rest → DeclaresNarrow (statement s rest)

list_declares : (A : Type 0) (to : A → Stmt) → ((x : A) → Declares (to x)) → (xs : List A) → all_true (map is_written_stmt (map to xs)) ≡ true → (rest : Body)
    → DeclaresNarrow rest → DeclaresNarrow (block (map statement (map to xs)) rest)
list_declares A to h [] e rest d = d
list_declares A to h (x ∷ xs) e rest d =
    h x (and_left (is_written_stmt (to x)) _ e) (block (map statement (map to xs)) rest) (list_declares A to h xs (and_right (is_written_stmt (to x)) _ e) rest d)

level_declares : (A : Type 0) (to : A → Stmt) → ((x : A) → Declares (to x)) → (y : Stmt-F A) → stmt_level (map-Stmt Stmt Bool is_written_stmt (map-Stmt A Stmt to y)) ≡ true → (rest : Body)
    → DeclaresNarrow rest → DeclaresNarrow (level_body (map-Stmt Stmt (Body → Body) statement (map-Stmt A Stmt to y)) rest)
level_declares A to h (Wire l n t) e rest d = (narrow_type t (and_right _ (is_written_type t) e), d)
level_declares A to h (Node l n v) e rest d = d
level_declares A to h (Reg l n t c r) e rest d = (narrow_type t (and_left (is_written_type t) _ (and_right _ _ e)), d)
level_declares A to h (Inst l n t) e rest d = d
level_declares A to h (Connect l s v) e rest d = d
level_declares A to h (Invalid l s) e rest d = d
level_declares A to h (Skip l) e rest d = d
level_declares A to h (Verif l k a c t n) e rest d = d
level_declares A to h (When l c xs ys) e rest d =
    let b = and_right (is_written_expr c) _ e in
    (list_declares A to h xs (and_left _ _ b) done tt, (list_declares A to h ys (and_right _ _ b) done tt, d))

declares : (s : Stmt) → Declares s
declares s = ind-Stmt Declares (λ x y e h rest d.
    let a = subst (λ z. stmt_level (map-Stmt Stmt Bool is_written_stmt z) ≡ true → DeclaresNarrow (level_body (map-Stmt Stmt (Body → Body) statement z) rest)) e
    (λ k. level_declares _ (λ z. z.0) (λ z. z.1) y k rest d) (sym (fold-roll-Stmt Bool stmt_level x) ∙ h) in
    subst (λ (f : Body → Body). DeclaresNarrow (f rest)) (sym (fold-roll-Stmt (Body → Body) level_body x)) a) s

body_declares : (ss : List Stmt) → list_all is_written_stmt ss ≡ true → DeclaresNarrow (body_of ss)
body_declares [] e = tt
body_declares (s ∷ ss) e = declares s (and_left (is_written_stmt s) _ e) (body_of ss) (body_declares ss (and_right (is_written_stmt s) _ e))

-- modules

narrow_ports : (ps : List Port) → list_all is_written_port ps ≡ true → All (λ (p : Port). IsNarrow (shape_of p.ty)) ps
narrow_ports [] e = All-nil (λ (p : Port). IsNarrow (shape_of p.ty))
narrow_ports (p ∷ ps) e =
    All-cons (λ (p : Port). IsNarrow (shape_of p.ty)) p ps (narrow_type p.ty (and_right _ (is_written_type p.ty) (and_left (is_written_port p) _ e))) (narrow_ports ps (and_right (is_written_port p) _ e))

narrow_modules : (ms : List Module) → list_all is_written_module ms ≡ true → All NarrowModule ms
narrow_modules [] e = All-nil NarrowModule
narrow_modules (m ∷ ms) e =
    let here = and_right _ _ (and_left (is_written_module m) _ e) in
    let inner = and_right (list_all is_written_port m.ports) _ here in
    All-cons NarrowModule m ms
    (record { ports = narrow_ports m.ports (and_left (list_all is_written_port m.ports) _ here); body = body_declares m.body (and_left (list_all is_written_stmt m.body) _ inner) })
    (narrow_modules ms (and_right (is_written_module m) _ e))

nest_modules : (ms : List Module) → list_all is_written_module ms ≡ true → NestBelow 320 ms
nest_modules [] e = All-nil (λ (m : Module). nesting (body_of m.body) ≤ 320)
nest_modules (m ∷ ms) e =
    let inner : (list_all is_written_stmt m.body && nat_le (depth_of_all m.body) 256) ≡ true = and_right (list_all is_written_port m.ports) _ (and_right (is_word_text m.name) _ (and_left (is_written_module m) _ e)) in
    let a : nesting (body_of m.body) ≤ depth_of_all m.body + 32 = body_nests m.body (and_left (list_all is_written_stmt m.body) _ inner) in
    let b : depth_of_all m.body ≤ 256 = leb-true _ _ (and_right (list_all is_written_stmt m.body) _ inner) in
    All-cons (λ (n : Module). nesting (body_of n.body) ≤ 320) m ms (omega (arith, a, b)) (nest_modules ms (and_right (is_written_module m) _ e))

pub circuit_narrow : (c : Circuit) → IsWritten c → All NarrowModule c.modules
unfolding is_written
circuit_narrow c e = narrow_modules c.modules (and_right _ _ (and_right _ _ e))

pub circuit_nests : (c : Circuit) → IsWritten c → NestBelow 320 c.modules
unfolding is_written
circuit_nests c e = nest_modules c.modules (and_right _ _ (and_right _ _ e))
