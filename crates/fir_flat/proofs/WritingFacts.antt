-- One statement written, in front of any rest.
use Rattle.std.proofs.lemmas.List.{map-append, take_at}
use Rattle.std.proofs.Common.{Bool, true, false, ◌≡◌, ◌+◌, ◌∙◌, sym, ap, ap₂, ℕ, Option, List, [], ◌∷◌, ◌++◌, length, take, subst, refl, arith, append_assoc, OnOk, Result, Ok, Err}
use Rattle.std.proofs.Math.Path.{fun_ext}
use Rattle.tb_base.specs.declared.memory.Memory.{Memory}
use Rattle.fir_ast.specs.declared.tree.Expr.{Expr}
use Rattle.fir_ast.specs.declared.tree.Ty.{Ty}
use Rattle.fir_ast.specs.declared.tree.ResetPair.{ResetPair}
use Rattle.fir_ast.specs.declared.tree.Module.{Module}
use Rattle.fir_ast.specs.declared.tree.Port.{Port}
use Rattle.fir_ast.specs.declared.tree.Stmt.{Stmt}
use Rattle.fir_ast.specs.declared.tree.Stmt.TheVariants as stmt
use Rattle.net_core.specs.declared.tree.GroundExpr.{GroundExpr}
use Rattle.net_core.specs.declared.tree.Ground.{Ground}
use Rattle.net_core.specs.declared.tree.Ground.TheVariants as out
use Rattle.fir_check.proofs.Unrolled.{stmt-Wire, stmt-Reg}
use Rattle.fir_flat.specs.declared.kinds.Flow.TheVariants.{Free, Fixed}
use Rattle.fir_flat.specs.declared.kinds.Known.{Known}
use Rattle.fir_flat.specs.declared.writing.Written.{Written}
use Rattle.fir_flat.specs.Shapes.{Shape, shape_of, ports_shape, size}
use Rattle.fir_flat.specs.Bodies.{Body, done, wire, node, reg, inst, connect, invalid, when, level_body, statement, body_of}
use Rattle.fir_flat.specs.Values.{Bound, bound, value}
use Rattle.fir_flat.specs.Modules.{module_at, ports_known, taken_up, signals_in, place_of, instance}
use Rattle.fir_flat.specs.Elaboration.{grounds, declare_ports, declared_inside, port_leaves}
use Rattle.fir_flat.specs.Kinds.{bound_of, seen}
use Rattle.fir_flat.specs.Statements.{connect_grounds, invalid_grounds}
use Rattle.fir_flat.specs.Ports.{takes}
use Rattle.fir_flat.specs.Writing.{taken_by, Adds, AddsWire, AddsNode, AddsRegister, AddsInstance, Puts, Writes, WritesBlock, own_grounds}
use Rattle.fir_flat.proofs.Unnumbered.{unnumbered, Alike, type-alike, more-alike}
use Rattle.fir_flat.proofs.Moved.{whole, body-Node, body-Inst, body-Connect, body-Invalid, body-When}

pub on_ok : (P Q : Type 0) (r : Result (Unit {0}) Memory) → (P → Q) → OnOk r P → OnOk r Q
on_ok P Q (Ok x) f h = f h
on_ok P Q (Err e) f h = h

pub on_both : (P Q R : Type 0) (r : Result (Unit {0}) Memory) → (P → Q → R) → OnOk r P → OnOk r Q → OnOk r R
on_both P Q R (Ok x) f h g = f h g
on_both P Q R (Err e) f h g = h

pub body-Wire : (l : ℕ) (n : List ℕ) (t : Ty) (rest : Body) → statement (stmt.Wire l n t) rest ≡ wire l n (shape_of t) rest
body-Wire l n t rest = stmt-Wire Body Body level_body l n t rest

pub body-Reg : (l : ℕ) (n : List ℕ) (t : Ty) (c : Expr) (r : Option ResetPair) (rest : Body) → statement (stmt.Reg l n t c r) rest ≡ reg l n (shape_of t) r rest
body-Reg l n t c r rest = stmt-Reg Body Body level_body l n t c r rest

-- how many signals a body takes up doesn't depend on their numbers
pub taken-alike : (inner : ℕ → ℕ) (modules : List Module) (k l : List Bound) → Alike k l → (body : Body) → taken_up inner modules k body ≡ taken_up inner modules l body
taken-alike inner modules k l a done = refl
taken-alike inner modules k l a (wire line name t rest) =
    ap (λ n. size t + n) (taken-alike inner modules (k ++ bound name t Free 0 ∷ []) (l ++ bound name t Free 0 ∷ [])
    (more-alike k l (bound name t Free 0) (bound name t Free 0) a refl) rest)
taken-alike inner modules k l a (node line name e rest) =
    ap₂ (λ m n. m + n) (ap size (type-alike k l a e))
    (taken-alike inner modules (k ++ bound name (value k e).ty Fixed 0 ∷ []) (l ++ bound name (value l e).ty Fixed 0 ∷ [])
    (more-alike k l (bound name (value k e).ty Fixed 0) (bound name (value l e).ty Fixed 0) a (ap (λ (t : Shape). bound name t Fixed 0) (type-alike k l a e))) rest)
taken-alike inner modules k l a (reg line name t reset rest) =
    ap (λ n. size t + n) (taken-alike inner modules (k ++ bound name t Free 0 ∷ []) (l ++ bound name t Free 0 ∷ [])
    (more-alike k l (bound name t Free 0) (bound name t Free 0) a refl) rest)
taken-alike inner modules k l a (inst line name target rest) =
    ap (λ n. inner (place_of modules target) + n) (taken-alike inner modules (k ++ instance modules name target 0 ∷ []) (l ++ instance modules name target 0 ∷ [])
    (more-alike k l (instance modules name target 0) (instance modules name target 0) a refl) rest)
taken-alike inner modules k l a (connect line sink e rest) = taken-alike inner modules k l a rest
taken-alike inner modules k l a (invalid line sink rest) = taken-alike inner modules k l a rest
taken-alike inner modules k l a (when line cond taken other rest) =
    ap₂ (λ x y. x + y) (taken-alike inner modules k l a taken)
    (ap₂ (λ x y. x + y) (taken-alike inner modules k l a other) (taken-alike inner modules k l a rest))

-- a statement that is `g` in front of any rest, and declares a name
writes_adds : (modules : List Module) (s g : Body → Body) (known after : List Known) (t u : Written) (b : Bound) (new : List Ground) (n : ℕ)
    → Adds known after t u b new n
    → ((rest : Body) → s rest ≡ g rest)
    → ((rest : Body) → grounds modules (seen known) t.next (g rest) ≡ new ++ grounds modules (seen known ++ b ∷ []) (t.next + n) rest)
    → ((rest : Body) → taken_by modules (seen known) (g rest) ≡ n + taken_by modules (seen known ++ unnumbered b ∷ []) rest)
    → Writes modules s known after t u
writes_adds modules s g known after t u b new n a is gr tk = record {
  body = λ rest.
      ap (λ z. t.body.items ++ grounds modules (seen known) t.next z) (is rest) ∙ ap (λ x. t.body.items ++ x) (gr rest)
      ∙ sym (append_assoc t.body.items new (grounds modules (seen known ++ b ∷ []) (t.next + n) rest))
      ∙ ap (λ x. x ++ grounds modules (seen known ++ b ∷ []) (t.next + n) rest) (sym a.body)
      ∙ ap₂ (λ (ks : List Bound) (m : ℕ). u.body.items ++ grounds modules ks m rest) (sym a.names) (sym a.next);
  next = λ rest.
      let x : taken_by modules (seen known) (s rest) ≡ n + taken_by modules (seen known ++ unnumbered b ∷ []) rest
      = ap (taken_by modules (seen known)) (is rest) ∙ tk rest in
      let y : taken_by modules (seen known ++ unnumbered b ∷ []) rest ≡ taken_by modules (seen known ++ b ∷ []) rest
      = taken-alike (signals_in modules) modules (seen known ++ unnumbered b ∷ []) (seen known ++ b ∷ []) (more-alike (seen known) (seen known) (unnumbered b) b refl refl) rest in
      let z : taken_by modules (seen known ++ b ∷ []) rest ≡ taken_by modules (seen after) rest = ap (λ (ks : List Bound). taken_by modules ks rest) (sym a.names) in
      let e : u.next ≡ t.next + n = a.next in
      omega (arith, x, y, z, e);
  kept = a.kept;
}

pub writes_wire : (modules : List Module) (s : Stmt) (l : ℕ) (name : List ℕ) (ty : Ty) (known after : List Known) (t u : Written) → s ≡ stmt.Wire l name ty
    → AddsWire l name (shape_of ty) known after t u → Writes modules (statement s) known after t u
writes_wire modules s l name ty known after t u is a =
    writes_adds modules (statement s) (wire l name (shape_of ty)) known after t u _ _ _ a (λ rest. ap (λ x. statement x rest) is ∙ body-Wire l name ty rest)
    (λ rest. refl) (λ rest. refl)

pub writes_node : (modules : List Module) (s : Stmt) (l : ℕ) (name : List ℕ) (e : Expr) (known after : List Known) (t u : Written) → s ≡ stmt.Node l name e
    → AddsNode l name (value (seen known) e) known after t u → Writes modules (statement s) known after t u
writes_node modules s l name e known after t u is a =
    writes_adds modules (statement s) (node l name e) known after t u _ _ _ a (λ rest. ap (λ x. statement x rest) is ∙ body-Node l name e rest)
    (λ rest. refl) (λ rest. refl)

pub writes_register : (modules : List Module) (s : Stmt) (l : ℕ) (name : List ℕ) (ty : Ty) (c : Expr) (r : Option ResetPair) (known after : List Known) (t u : Written)
    → s ≡ stmt.Reg l name ty c r → AddsRegister l name (shape_of ty) r known after t u → Writes modules (statement s) known after t u
writes_register modules s l name ty c r known after t u is a =
    writes_adds modules (statement s) (reg l name (shape_of ty) r) known after t u _ _ _ a (λ rest. ap (λ x. statement x rest) is ∙ body-Reg l name ty c r rest)
    (λ rest. refl) (λ rest. refl)

pub writes_instance : (modules : List Module) (s : Stmt) (l : ℕ) (name target : List ℕ) (known after : List Known) (t u : Written)
    → s ≡ stmt.Inst l name target → AddsInstance modules name target known after t u → Writes modules (statement s) known after t u
writes_instance modules s l name target known after t u is a =
    writes_adds modules (statement s) (inst l name target) known after t u _ _ _ a (λ rest. ap (λ x. statement x rest) is ∙ body-Inst l name target rest)
    (λ rest. refl) (λ rest. refl)

-- a statement that declares nothing
writes_puts : (modules : List Module) (s g : Body → Body) (known : List Known) (t u : Written) (new : List Ground) → Puts t u new
    → ((rest : Body) → s rest ≡ g rest)
    → ((rest : Body) → grounds modules (seen known) t.next (g rest) ≡ new ++ grounds modules (seen known) t.next rest)
    → ((rest : Body) → taken_by modules (seen known) (g rest) ≡ taken_by modules (seen known) rest)
    → Writes modules s known known t u
writes_puts modules s g known t u new p is gr tk = record {
  body = λ rest.
      ap (λ z. t.body.items ++ grounds modules (seen known) t.next z) (is rest) ∙ ap (λ x. t.body.items ++ x) (gr rest)
      ∙ sym (append_assoc t.body.items new (grounds modules (seen known) t.next rest))
      ∙ ap₂ (λ (xs : List Ground) (m : ℕ). xs ++ grounds modules (seen known) m rest) (sym p.body) (sym p.next);
  next = λ rest. ap₂ (λ m n. m + n) (sym p.next) (ap (taken_by modules (seen known)) (is rest) ∙ tk rest);
  kept = whole known;
}

pub writes_connect : (modules : List Module) (s : Stmt) (l : ℕ) (sink e : Expr) (known : List Known) (t u : Written) → s ≡ stmt.Connect l sink e
    → Puts t u (connect_grounds l (value (seen known) sink) (value (seen known) e)) → Writes modules (statement s) known known t u
writes_connect modules s l sink e known t u is p =
    writes_puts modules (statement s) (connect l sink e) known t u _ p (λ rest. ap (λ x. statement x rest) is ∙ body-Connect l sink e rest) (λ rest. refl) (λ rest. refl)

pub writes_invalid : (modules : List Module) (s : Stmt) (l : ℕ) (sink : Expr) (known : List Known) (t u : Written) → s ≡ stmt.Invalid l sink
    → Puts t u (invalid_grounds l (value (seen known) sink)) → Writes modules (statement s) known known t u
writes_invalid modules s l sink known t u is p =
    writes_puts modules (statement s) (invalid l sink) known t u _ p (λ rest. ap (λ x. statement x rest) is ∙ body-Invalid l sink rest) (λ rest. refl) (λ rest. refl)

pub writes_nothing : (modules : List Module) (s : Stmt) (known : List Known) (t : Written) → ((rest : Body) → statement s rest ≡ rest)
    → Writes modules (statement s) known known t t
writes_nothing modules s known t is = record {
  body = λ rest. ap (λ z. t.body.items ++ grounds modules (seen known) t.next z) (is rest);
  next = λ rest. ap (λ z. t.next + taken_by modules (seen known) z) (is rest);
  kept = whole known;
}

pub writes_when : (modules : List Module) (s : Stmt) (l : ℕ) (e : Expr) (a b : List Stmt) (known mid after : List Known) (t v w u : Written) (cond : GroundExpr)
    → s ≡ stmt.When l e a b → cond ≡ (value (seen known) e).part 0 → WritesBlock modules (body_of a) known t.next v → mid ≡ known
    → WritesBlock modules (body_of b) mid v.next w → after ≡ mid
    → u.body.items ≡ t.body.items ++ out.When l cond v.body.items w.body.items ∷ [] → u.next ≡ w.next
    → Writes modules (statement s) known after t u
writes_when modules s l e a b known mid after t v w u cond is ec first m second f eb en =
    let same : WritesBlock modules (body_of b) known v.next w = subst (λ k. WritesBlock modules (body_of b) k v.next w) m second in
    let g : after ≡ known = f ∙ m in
    let eq : (rest : Body) → statement s rest ≡ when l e (body_of a) (body_of b) rest = λ rest. ap (λ x. statement x rest) is ∙ body-When l e a b rest in
    let other_is : w.body.items ≡ grounds modules (seen known) (t.next + taken_by modules (seen known) (body_of a)) (body_of b)
    = same.body ∙ ap (λ n. grounds modules (seen known) n (body_of b)) first.next in
    let next_is : u.next ≡ t.next + taken_by modules (seen known) (body_of a) + taken_by modules (seen known) (body_of b)
    = en ∙ same.next ∙ ap (λ n. n + taken_by modules (seen known) (body_of b)) first.next in
    let when_is : out.When l cond v.body.items w.body.items
    ≡ out.When l ((value (seen known) e).part 0) (grounds modules (seen known) t.next (body_of a)) (grounds modules (seen known) (t.next + taken_by modules (seen known) (body_of a)) (body_of b))
    = ap₂ (λ (x : GroundExpr) (xs : List Ground). out.When l x xs w.body.items) ec first.body
    ∙ ap (λ (xs : List Ground). out.When l ((value (seen known) e).part 0) (grounds modules (seen known) t.next (body_of a)) xs) other_is in
    record {
      body = λ rest.
          ap (λ z. t.body.items ++ grounds modules (seen known) t.next z) (eq rest)
          ∙ ap₂ (λ (x : Ground) (n : ℕ). t.body.items ++ (x ∷ grounds modules (seen known) n rest)) (sym when_is) (sym next_is)
          ∙ sym (append_assoc t.body.items (out.When l cond v.body.items w.body.items ∷ []) (grounds modules (seen known) u.next rest))
          ∙ ap₂ (λ (xs : List Ground) (k : List Known). xs ++ grounds modules (seen k) u.next rest) (sym eb) (sym g);
      next = λ rest.
          let x : taken_by modules (seen known) (statement s rest)
          ≡ taken_by modules (seen known) (body_of a) + (taken_by modules (seen known) (body_of b) + taken_by modules (seen known) rest)
          = ap (taken_by modules (seen known)) (eq rest) in
          let y : taken_by modules (seen after) rest ≡ taken_by modules (seen known) rest = ap (λ k. taken_by modules (seen k) rest) g in
          omega (arith, x, y, next_is);
      kept = ap (take (length known)) g ∙ whole known;
    }

-- the inputs alone
pub takes_inputs : takes true false ≡ (λ (input : Bool). input)
takes_inputs = fun_ext at where
  at : (b : Bool) → takes true false b ≡ b
  at true = refl
  at false = refl

-- one name more
pub names_more : (known after : List Known) (k : Known) → after ≡ known ++ k ∷ [] → seen after ≡ seen known ++ bound_of k ∷ []
names_more known after k e = ap seen e ∙ map-append bound_of known (k ∷ [])

pub kept_more : (known after : List Known) (k : Known) → after ≡ known ++ k ∷ [] → take (length known) after ≡ known
kept_more known after k e = ap (take (length known)) e ∙ take_at known (k ∷ []) (length known) refl

-- the statements of an instance itself

takes_own : (top : Bool) → takes top true ≡ declared_inside top
takes_own top = fun_ext (at top) where
  at : (t b : Bool) → takes t true b ≡ declared_inside t b
  at true true = refl
  at true false = refl
  at false true = refl
  at false false = refl

pub own_written : (modules : List Module) (place first : ℕ) (top : Bool) (ps : List Port) (stmts : List Stmt) (known : List Known) (next : ℕ) (old middle body new : List Ground)
    → ps ≡ (module_at modules place).ports → stmts ≡ (module_at modules place).body
    → middle ≡ old ++ declare_ports (takes top true) first (port_leaves ps)
    → seen known ≡ ports_known first ps → next ≡ first + size (ports_shape ps)
    → body ≡ grounds modules (seen known) next (body_of stmts) → new ≡ middle ++ body
    → new ≡ old ++ own_grounds modules place first top
own_written modules place first top ps stmts known next old middle body new ep es em ek en eb e =
    e ∙ ap₂ (λ (xs ys : List Ground). xs ++ ys) em eb
    ∙ append_assoc old (declare_ports (takes top true) first (port_leaves ps)) (grounds modules (seen known) next (body_of stmts))
    ∙ ap₂ (λ (ks : List Bound) (n : ℕ). old ++ (declare_ports (takes top true) first (port_leaves ps) ++ grounds modules ks n (body_of stmts))) ek en
    ∙ ap₂ (λ (qs : List Port) (ss : List Stmt). old ++ (declare_ports (takes top true) first (port_leaves qs) ++ grounds modules (ports_known first qs) (first + size (ports_shape qs)) (body_of ss))) ep es
    ∙ ap (λ (test : Bool → Bool). old ++ (declare_ports test first (port_leaves (module_at modules place).ports)
    ++ grounds modules (ports_known first (module_at modules place).ports) (first + size (ports_shape (module_at modules place).ports)) (body_of (module_at modules place).body))) (takes_own top)
