-- The roles and widths of all signals.
use Rattle.std.proofs.Common.{◌≡◌, ◌+◌, sym, subst, ℕ, Bool, true, false, Option, is_some, List, [], ◌∷◌, ◌++◌, refl, map}
use Rattle.std.specs.List.{All}
use Rattle.std.proofs.lemmas.List.Elements.{All-nil, All-cons, All-append, All-head, All-tail, All-map}
use Rattle.fir_ast.specs.declared.tree.Port.{Port}
use Rattle.fir_ast.specs.declared.tree.Module.{Module}
use Rattle.net_core.specs.declared.tree.Role.{Role}
use Rattle.net_core.specs.declared.tree.Role.TheVariants as role
use Rattle.net_core.specs.declared.tree.SignalInfo.{SignalInfo}
use Rattle.net_core.specs.Signals.{is_input, is_port}
use Rattle.net_core.specs.Formed.{width_fits}
use Rattle.fir_check.specs.Types.{same}
use Rattle.flat_places.proofs.Flows.{Free, Fixed}
use Rattle.fir_flat.specs.Shapes.{Shape, shape_of, size, Leaf, leaves}
use Rattle.fir_flat.specs.Bodies.{Body, done, wire, node, reg, inst, connect, invalid, when, body_of}
use Rattle.fir_flat.specs.Values.{Bound, bound, value}
use Rattle.fir_flat.specs.Modules.{module_at, place_of, ports_known, instance, signals_in, taken_up}
use Rattle.fir_flat.specs.Elaboration.{Entry, made, opened, Opened, opened_at, unwritten, port_role, port_entry, port_entries, behind_ports, entries, entries_of, instances_of, infos_of}
use Rattle.fir_flat.specs.Flattening.{infos_in}
use Rattle.flat_places.specs.Places.{leaf_info, port_info, port_infos}
use Rattle.flat_places.specs.Widths.{IsNarrow, DeclaresNarrow, NarrowModule, InputsGiven}
use Rattle.flat_places.proofs.Infos.{AreRanked, OnMade, each_info, each_info_in}
use Rattle.flat_places.proofs.Placed.{infos_own, inner_not_top, body_instances}
use Rattle.flat_places.proofs.Nesting.{at_module}

-- of what a body declares itself

module _ (modules : List Module) (Q : SignalInfo → Type 0) (T : Body → Type 0)
    (at_wire : (line : ℕ) (name : List ℕ) (t : Shape) (rest : Body) → T (wire line name t rest)
    → ((own : List ℕ) → All (λ l. Q (leaf_info own role.Inner line l)) (leaves t)) × T rest)
    (at_node : (line : ℕ) (name : List ℕ) (e : Rattle.fir_ast.specs.declared.tree.Expr.Expr) (rest : Body) → T (node line name e rest)
    → ((own : List ℕ) (t : Shape) → All (λ l. Q (leaf_info own role.Node line (unwritten l))) (leaves t)) × T rest)
    (at_reg : (line : ℕ) (name : List ℕ) (t : Shape) (reset : Option Rattle.fir_ast.specs.declared.tree.ResetPair.ResetPair) (rest : Body) → T (reg line name t reset rest)
    → ((own : List ℕ) → All (λ l. Q (leaf_info own role.Reg line l)) (leaves t)) × T rest)
    (at_inst : (line : ℕ) (name target : List ℕ) (rest : Body) → T (inst line name target rest) → T rest)
    (at_connect : (line : ℕ) (sink e : Rattle.fir_ast.specs.declared.tree.Expr.Expr) (rest : Body) → T (connect line sink e rest) → T rest)
    (at_invalid : (line : ℕ) (sink : Rattle.fir_ast.specs.declared.tree.Expr.Expr) (rest : Body) → T (invalid line sink rest) → T rest)
    (at_when : (line : ℕ) (c : Rattle.fir_ast.specs.declared.tree.Expr.Expr) (taken other rest : Body) → T (when line c taken other rest) → T taken × (T other × T rest)) where
  leaves_have : (f : Leaf → SignalInfo) (ls : List Leaf) (es : List Entry) → All (λ l. Q (f l)) ls → All (OnMade Q) es → All (OnMade Q) (map (λ l. made (f l)) ls ++ es)
  leaves_have f [] es a h = h
  leaves_have f (l ∷ ls) es a h =
      All-cons (OnMade Q) (made (f l)) (map (λ l. made (f l)) ls ++ es) (All-head (λ l. Q (f l)) l ls a) (leaves_have f ls es (All-tail (λ l. Q (f l)) l ls a) h)

  pub body_entries : (prefix : List ℕ) (k : List Bound) (next : ℕ) (body : Body) → T body → All (OnMade Q) (entries modules prefix k next body)
  body_entries prefix k next done h = All-nil (OnMade Q)
  body_entries prefix k next (wire line name t rest) h =
      let p = at_wire line name t rest h in
      leaves_have (leaf_info (prefix ++ name) role.Inner line) (leaves t) _ (p.0 (prefix ++ name)) (body_entries prefix (k ++ bound name t Free next ∷ []) (next + size t) rest p.1)
  body_entries prefix k next (node line name e rest) h =
      let p = at_node line name e rest h in
      leaves_have (λ l. leaf_info (prefix ++ name) role.Node line (unwritten l)) (leaves (value k e).ty) _ (p.0 (prefix ++ name) (value k e).ty)
      (body_entries prefix (k ++ bound name (value k e).ty Fixed next ∷ []) (next + size (value k e).ty) rest p.1)
  body_entries prefix k next (reg line name t reset rest) h =
      let p = at_reg line name t reset rest h in
      leaves_have (leaf_info (prefix ++ name) role.Reg line) (leaves t) _ (p.0 (prefix ++ name)) (body_entries prefix (k ++ bound name t Free next ∷ []) (next + size t) rest p.1)
  body_entries prefix k next (inst line name target rest) h =
      All-cons (OnMade Q) (opened (opened_at name (place_of modules target) next prefix)) _ tt
      (body_entries prefix (k ++ instance modules name target next ∷ []) (next + signals_in modules (place_of modules target)) rest (at_inst line name target rest h))
  body_entries prefix k next (connect line sink e rest) h = body_entries prefix k next rest (at_connect line sink e rest h)
  body_entries prefix k next (invalid line sink rest) h = body_entries prefix k next rest (at_invalid line sink rest h)
  body_entries prefix k next (when line cond taken other rest) h =
      let p = at_when line cond taken other rest h in
      All-append (OnMade Q) (entries modules prefix k next taken) _ (body_entries prefix k next taken p.0)
      (All-append (OnMade Q) (entries modules prefix k (next + taken_up (signals_in modules) modules k taken) other) _
      (body_entries prefix k (next + taken_up (signals_in modules) modules k taken) other p.1.0)
      (body_entries prefix k (next + taken_up (signals_in modules) modules k taken + taken_up (signals_in modules) modules k other) rest p.1.1))

  pub port_entries_have : (o : Opened) (ports : List Port) (es : List Entry) → All (λ p. All (λ l. Q (port_info o p l)) (leaves (shape_of p.ty))) ports → All (OnMade Q) es
      → All (OnMade Q) (port_entries o ports ++ es)
  port_entries_have o [] es a h = h
  port_entries_have o (p ∷ ps) es a h =
      subst (All (OnMade Q)) (sym (Rattle.std.proofs.Common.append_assoc (map (port_entry o p) (leaves (shape_of p.ty))) (port_entries o ps) es))
      (leaves_have (port_info o p) (leaves (shape_of p.ty)) (port_entries o ps ++ es)
      (All-head (λ p. All (λ l. Q (port_info o p l)) (leaves (shape_of p.ty))) p ps a)
      (port_entries_have o ps es (All-tail (λ p. All (λ l. Q (port_info o p l)) (leaves (shape_of p.ty))) p ps a) h))

-- of all of a list, by nothing that the items have

pub all_of : {X : Type 0} (P : X → Type 0) → ((x : X) → P x) → (xs : List X) → All P xs
all_of P h [] = All-nil P
all_of P h (x ∷ xs) = All-cons P x xs (h x) (all_of P h xs)

pub all_more : {X : Type 0} (P Q : X → Type 0) → ((x : X) → P x → Q x) → (xs : List X) → All P xs → All Q xs
all_more P Q f [] a = All-nil Q
all_more P Q f (x ∷ xs) a = All-cons Q x xs (f x (All-head P x xs a)) (all_more P Q f xs (All-tail P x xs a))

-- the ports of the main module

pub port_infos_have : (Q : SignalInfo → Type 0) (o : Opened) (ports : List Port) → All (λ p. All (λ l. Q (port_info o p l)) (leaves (shape_of p.ty))) ports → All Q (port_infos o ports)
port_infos_have Q o [] a = All-nil Q
port_infos_have Q o (p ∷ ps) a =
    All-append Q (map (port_info o p) (leaves (shape_of p.ty))) (port_infos o ps)
    (All-map Q (port_info o p) (leaves (shape_of p.ty)) (All-head (λ p. All (λ l. Q (port_info o p l)) (leaves (shape_of p.ty))) p ps a))
    (port_infos_have Q o ps (All-tail (λ p. All (λ l. Q (port_info o p l)) (leaves (shape_of p.ty))) p ps a))

-- roles

abbrev pub NoPort : SignalInfo → Type 0
NoPort i = is_port i.role ≡ false

not_top_port : (top input : Bool) → top ≡ false → is_port (port_role top input) ≡ false
not_top_port true input e = cc
not_top_port false input e = refl

top_port : (top input : Bool) → top ≡ true → is_port (port_role top input) ≡ true
top_port true true e = refl
top_port true false e = refl
top_port false input e = cc

module _ (modules : List Module) (rank : ℕ → ℕ) (r : AreRanked rank modules) where
  no_port_entries : (prefix : List ℕ) (k : List Bound) (next : ℕ) (body : Body) → All (OnMade NoPort) (entries modules prefix k next body)
  no_port_entries prefix k next body =
      body_entries modules NoPort (λ b. Unit {0})
      (λ line name t rest h. (λ own. all_of (λ l. NoPort (leaf_info own role.Inner line l)) (λ l. refl) (leaves t), tt))
      (λ line name e rest h. (λ own t. all_of (λ l. NoPort (leaf_info own role.Node line (unwritten l))) (λ l. refl) (leaves t), tt))
      (λ line name t reset rest h. (λ own. all_of (λ l. NoPort (leaf_info own role.Reg line l)) (λ l. refl) (leaves t), tt))
      (λ line name target rest h. tt) (λ line sink e rest h. tt) (λ line sink rest h. tt) (λ line c taken other rest h. (tt, (tt, tt)))
      prefix k next body tt

  no_port_own : (o : Opened) → o.top ≡ false → All (OnMade NoPort) (entries_of modules o)
  no_port_own o e =
      port_entries_have modules NoPort (λ b. Unit {0})
      (λ line name t rest h. (λ own. all_of (λ l. NoPort (leaf_info own role.Inner line l)) (λ l. refl) (leaves t), tt))
      (λ line name e rest h. (λ own t. all_of (λ l. NoPort (leaf_info own role.Node line (unwritten l))) (λ l. refl) (leaves t), tt))
      (λ line name t reset rest h. (λ own. all_of (λ l. NoPort (leaf_info own role.Reg line l)) (λ l. refl) (leaves t), tt))
      (λ line name target rest h. tt) (λ line sink e rest h. tt) (λ line sink rest h. tt) (λ line c taken other rest h. (tt, (tt, tt)))
      o (module_at modules o.target).ports _
      (all_of (λ p. All (λ l. NoPort (port_info o p l)) (leaves (shape_of p.ty)))
      (λ p. all_of (λ l. NoPort (port_info o p l)) (λ l. not_top_port o.top (same p.output l.against) e) (leaves (shape_of p.ty))) (module_at modules o.target).ports)
      (no_port_entries o.prefix (ports_known o.first (module_at modules o.target).ports) (behind_ports o (module_at modules o.target).ports) (body_of (module_at modules o.target).body))

  -- no signal behind the ports of the main module is a port
  pub no_port_in_body : (prefix : List ℕ) (k : List Bound) (next : ℕ) (body : Body) → All NoPort (infos_in modules (entries modules prefix k next body))
  no_port_in_body prefix k next body =
      each_info_in modules rank r (λ p. p.top ≡ false) (λ p h. inner_not_top modules p) NoPort no_port_own (entries modules prefix k next body)
      (body_instances modules (λ p. p.top ≡ false) (λ name target first prefix. refl) prefix k next body)
      (no_port_entries prefix k next body)

  -- widths

  abbrev Narrow : SignalInfo → Type 0
  Narrow i = width_fits i.width ≡ true

  units : (os : List Opened) → All (λ p. Unit {0}) os
  units os k d l = tt

  narrow_own : All NarrowModule modules → (o : Opened) → Unit {0} → All (OnMade Narrow) (entries_of modules o)
  narrow_own h o u =
      let m : Module = module_at modules o.target in
      let n : NarrowModule m = at_module NarrowModule (record { ports = All-nil (λ p. IsNarrow (shape_of p.ty)); body = tt }) modules h o.target in
      port_entries_have modules Narrow DeclaresNarrow
      (λ line name t rest p. (λ own. p.0, p.1)) (λ line name e rest p. (λ own t. all_of (λ l. Narrow (leaf_info own role.Node line (unwritten l))) (λ l. refl) (leaves t), p))
      (λ line name t reset rest p. (λ own. p.0, p.1)) (λ line name target rest p. p) (λ line sink e rest p. p) (λ line sink rest p. p) (λ line c taken other rest p. p)
      o m.ports (entries modules o.prefix (ports_known o.first m.ports) (behind_ports o m.ports) (body_of m.body)) n.ports
      (body_entries modules Narrow DeclaresNarrow
      (λ line name t rest p. (λ own. p.0, p.1)) (λ line name e rest p. (λ own t. all_of (λ l. Narrow (leaf_info own role.Node line (unwritten l))) (λ l. refl) (leaves t), p))
      (λ line name t reset rest p. (λ own. p.0, p.1)) (λ line name target rest p. p) (λ line sink e rest p. p) (λ line sink rest p. p) (λ line c taken other rest p. p)
      o.prefix (ports_known o.first m.ports) (behind_ports o m.ports) (body_of m.body) n.body)

  pub all_narrow : All NarrowModule modules → (o : Opened) → All Narrow (infos_of modules (opened o))
  all_narrow h o = each_info modules rank r (λ p. Unit {0}) (λ p u. units (instances_of modules p)) Narrow (narrow_own h) o tt

-- the main module

module _ (modules : List Module) (rank : ℕ → ℕ) (r : AreRanked rank modules) (o : Opened) where
  pub top_ports : o.top ≡ true → (ports : List Port) → All (λ i. is_port i.role ≡ true) (port_infos o ports)
  top_ports e ports =
      port_infos_have (λ i. is_port i.role ≡ true) o ports
      (all_of (λ p. All (λ l. is_port (port_info o p l).role ≡ true) (leaves (shape_of p.ty)))
      (λ p. all_of (λ l. is_port (port_info o p l).role ≡ true) (λ l. top_port o.top (same p.output l.against) e) (leaves (shape_of p.ty))) ports)

  abbrev Given : SignalInfo → Type 0
  Given i = is_input i.role ≡ true → is_some i.width ≡ true

  input_port : (top input : Bool) → is_input (port_role top input) ≡ true → input ≡ true
  input_port true true e = refl
  input_port true false e = cc
  input_port false input e = cc

  input_is_port : (k : Role) → is_port k ≡ false → is_input k ≡ true → ⊥
  input_is_port role.Input p e = cc
  input_is_port role.Output p e = cc
  input_is_port role.Inner p e = cc
  input_is_port role.Node p e = cc
  input_is_port role.Reg p e = cc

  pub all_given : InputsGiven (module_at modules o.target).ports → All Given (infos_of modules (opened o))
  all_given h =
      let m : Module = module_at modules o.target in
      let es : List Entry = entries modules o.prefix (ports_known o.first m.ports) (behind_ports o m.ports) (body_of m.body) in
      subst (All Given) (sym (infos_own modules rank r o))
      (All-append Given (port_infos o m.ports) (infos_in modules es)
      (port_infos_have Given o m.ports
      (all_more (λ p. All (λ l. same p.output l.against ≡ true → is_some l.width ≡ true) (leaves (shape_of p.ty))) (λ p. All (λ l. Given (port_info o p l)) (leaves (shape_of p.ty)))
      (λ p a. all_more (λ l. same p.output l.against ≡ true → is_some l.width ≡ true) (λ l. Given (port_info o p l)) (λ l f e. f (input_port o.top (same p.output l.against) e))
      (leaves (shape_of p.ty)) a) m.ports h))
      (all_more NoPort Given (λ i p e. absurd (input_is_port i.role p e)) (infos_in modules es)
      (no_port_in_body modules rank r o.prefix (ports_known o.first m.ports) (behind_ports o m.ports) (body_of m.body))))
