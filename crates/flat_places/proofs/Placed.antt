-- Which signals stand where: what a body declares, a statement at a time.
use Rattle.std.proofs.Common.{◌≡◌, ◌∙◌, ◌+◌, sym, ap, ap₂, ℕ, false, Option, List, [], ◌∷◌, ◌++◌, refl, map, length, arith, append_assoc, length-append, subst, All}
use Rattle.std.proofs.lemmas.List.{length-map}
use Rattle.std.proofs.lemmas.List.Elements.{All-nil, All-cons, All-append}
use Rattle.fir_ast.specs.declared.tree.Expr.{Expr}
use Rattle.fir_ast.specs.declared.tree.ResetPair.{ResetPair}
use Rattle.fir_ast.specs.declared.tree.Module.{Module}
use Rattle.fir_ast.specs.declared.tree.Port.{Port}
use Rattle.net_core.specs.declared.tree.Role.TheVariants as role
use Rattle.net_core.specs.declared.tree.SignalInfo.{SignalInfo}
use Rattle.flat_places.proofs.Flows.{Free, Fixed}
use Rattle.fir_flat.specs.Shapes.{Shape, shape_of, ports_shape, size, Leaf, leaves}
use Rattle.fir_flat.specs.Bodies.{Body, done, wire, node, reg, inst, connect, invalid, when, body_of}
use Rattle.fir_flat.specs.Values.{Bound, bound, value}
use Rattle.fir_flat.specs.Modules.{module_at, place_of, ports_known, instance, signals_in, taken_up}
use Rattle.fir_flat.specs.Elaboration.{Entry, made, opened, Opened, opened_at, unwritten, port_entries, port_entry, behind_ports, entries, infos_of, instances, instances_of, PortLeaf, port_leaves}
use Rattle.fir_check.specs.Types.{same}
use Rattle.fir_flat.specs.Flattening.{infos_in}
use Rattle.fir_flat.proofs.LeafCounts.{leaves_counted}
use Rattle.fir_flat.proofs.Unnumbered.{Alike, more-alike, type-alike}
use Rattle.fir_flat.proofs.BodyCounts.{instances-append, ports_open_nothing}
use Rattle.flat_places.specs.Places.{Stands, InPlace, InstancesHaveRows, leaf_info, port_info, port_infos}
use Rattle.flat_places.proofs.Spans.{stands_front, stands_back}
use Rattle.flat_places.proofs.Infos.{AreRanked, infos_append, infos_leaves, infos_length, infos_opened}

-- in turn

stands_same : (signals : List SignalInfo) (first : ℕ) (xs ys : List SignalInfo) → xs ≡ ys → Stands signals first xs → Stands signals first ys
stands_same signals first xs ys e s = subst (Stands signals first) e s

pub stands_parts : (signals : List SignalInfo) (first n : ℕ) (xs ys zs : List SignalInfo) → zs ≡ xs ++ ys → length xs ≡ n → Stands signals first zs
    → Stands signals first xs × Stands signals (first + n) ys
stands_parts signals first n xs ys zs e l s =
    let t : Stands signals first (xs ++ ys) = stands_same signals first zs (xs ++ ys) e s in
    (stands_front signals first xs ys t, subst (λ m. Stands signals (first + m) ys) l (stands_back signals first xs ys t))

mapped_leaves : (f : Leaf → SignalInfo) (t : Shape) → length (map f (leaves t)) ≡ size t
mapped_leaves f t = length-map (leaves t) f ∙ leaves_counted t

-- the signals of a declared name, and then the others
pub placed_leaves : (signals : List SignalInfo) (modules : List Module) (next : ℕ) (f : Leaf → SignalInfo) (t : Shape) (es : List Entry)
    → Stands signals next (infos_in modules (map (λ l. made (f l)) (leaves t) ++ es))
    → Stands signals next (map f (leaves t)) × Stands signals (next + size t) (infos_in modules es)
placed_leaves signals modules next f t es s =
    stands_parts signals next (size t) (map f (leaves t)) (infos_in modules es) _ (infos_leaves modules f (leaves t) es) (mapped_leaves f t) s

-- ports

pub infos_ports : (modules : List Module) (o : Opened) (ports : List Port) (es : List Entry)
    → infos_in modules (port_entries o ports ++ es) ≡ port_infos o ports ++ infos_in modules es
infos_ports modules o [] es = refl
infos_ports modules o (p ∷ ps) es =
    ap (infos_in modules) (append_assoc (map (port_entry o p) (leaves (shape_of p.ty))) (port_entries o ps) es)
    ∙ infos_leaves modules (port_info o p) (leaves (shape_of p.ty)) (port_entries o ps ++ es)
    ∙ ap (λ (t : List SignalInfo). map (port_info o p) (leaves (shape_of p.ty)) ++ t) (infos_ports modules o ps es)
    ∙ sym (append_assoc (map (port_info o p) (leaves (shape_of p.ty))) (port_infos o ps) (infos_in modules es))

pub ports_length : (o : Opened) (ports : List Port) → length (port_infos o ports) ≡ size (ports_shape ports)
ports_length o [] = refl
ports_length o (p ∷ ps) =
    let a : length (map (port_info o p) (leaves (shape_of p.ty)) ++ port_infos o ps) ≡ length (map (port_info o p) (leaves (shape_of p.ty))) + length (port_infos o ps)
    = length-append (map (port_info o p) (leaves (shape_of p.ty))) (port_infos o ps) in
    let e : length (map (port_info o p) (leaves (shape_of p.ty))) ≡ size (shape_of p.ty) = mapped_leaves (port_info o p) (shape_of p.ty) in
    let t : length (port_infos o ps) ≡ size (ports_shape ps) = ports_length o ps in
    omega (arith, a, e, t)

-- the signals of an instance are those of its ports, and those of its body
pub infos_own : (modules : List Module) (rank : ℕ → ℕ) → AreRanked rank modules → (o : Opened)
    → infos_of modules (opened o)
    ≡ port_infos o (module_at modules o.target).ports
    ++ infos_in modules (entries modules o.prefix (ports_known o.first (module_at modules o.target).ports) (behind_ports o (module_at modules o.target).ports)
    (body_of (module_at modules o.target).body))
infos_own modules rank r o =
    infos_opened modules rank r o
    ∙ infos_ports modules o (module_at modules o.target).ports
    (entries modules o.prefix (ports_known o.first (module_at modules o.target).ports) (behind_ports o (module_at modules o.target).ports) (body_of (module_at modules o.target).body))

pub placed_own : (signals : List SignalInfo) (modules : List Module) (rank : ℕ → ℕ) → AreRanked rank modules → (o : Opened) → InPlace signals modules o
    → Stands signals o.first (port_infos o (module_at modules o.target).ports)
    × Stands signals (behind_ports o (module_at modules o.target).ports)
    (infos_in modules (entries modules o.prefix (ports_known o.first (module_at modules o.target).ports) (behind_ports o (module_at modules o.target).ports)
    (body_of (module_at modules o.target).body)))
placed_own signals modules rank r o s =
    stands_parts signals o.first (size (ports_shape (module_at modules o.target).ports)) (port_infos o (module_at modules o.target).ports) _ _
    (infos_own modules rank r o) (ports_length o (module_at modules o.target).ports) s

-- statements of a body

module _ (modules : List Module) (rank : ℕ → ℕ) (r : AreRanked rank modules) where
  leaves_length : (f : Leaf → SignalInfo) (t : Shape) (es : List Entry) (n : ℕ) → length (infos_in modules es) ≡ n
      → length (infos_in modules (map (λ l. made (f l)) (leaves t) ++ es)) ≡ size t + n
  leaves_length f t es n e =
      let a : length (infos_in modules (map (λ l. made (f l)) (leaves t) ++ es)) ≡ length (map f (leaves t)) + length (infos_in modules es)
      = ap length (infos_leaves modules f (leaves t) es) ∙ length-append (map f (leaves t)) (infos_in modules es) in
      let m : length (map f (leaves t)) ≡ size t = mapped_leaves f t in
      omega (arith, a, m, e)

  -- a body's signals are as many as it takes up
  pub body_length : (prefix : List ℕ) (k l : List Bound) → Alike k l → (next : ℕ) (body : Body)
      → length (infos_in modules (entries modules prefix k next body)) ≡ taken_up (signals_in modules) modules l body
  body_length prefix k l a next done = refl
  body_length prefix k l a next (wire line name t rest) =
      leaves_length (leaf_info (prefix ++ name) role.Inner line) t _ _
      (body_length prefix (k ++ bound name t Free next ∷ []) (l ++ bound name t Free 0 ∷ [])
      (more-alike k l (bound name t Free next) (bound name t Free 0) a refl) (next + size t) rest)
  body_length prefix k l a next (node line name e rest) =
      leaves_length (λ x. leaf_info (prefix ++ name) role.Node line (unwritten x)) (value k e).ty _ _
      (body_length prefix (k ++ bound name (value k e).ty Fixed next ∷ []) (l ++ bound name (value l e).ty Fixed 0 ∷ [])
      (more-alike k l (bound name (value k e).ty Fixed next) (bound name (value l e).ty Fixed 0) a (ap (λ (t : Shape). bound name t Fixed 0) (type-alike k l a e)))
      (next + size (value k e).ty) rest)
      ∙ ap (λ (t : Shape). size t + taken_up (signals_in modules) modules (l ++ bound name (value l e).ty Fixed 0 ∷ []) rest) (type-alike k l a e)
  body_length prefix k l a next (reg line name t reset rest) =
      leaves_length (leaf_info (prefix ++ name) role.Reg line) t _ _
      (body_length prefix (k ++ bound name t Free next ∷ []) (l ++ bound name t Free 0 ∷ [])
      (more-alike k l (bound name t Free next) (bound name t Free 0) a refl) (next + size t) rest)
  body_length prefix k l a next (inst line name target rest) =
      let o : Opened = opened_at name (place_of modules target) next prefix in
      let es : List Entry = entries modules prefix (k ++ instance modules name target next ∷ []) (next + signals_in modules (place_of modules target)) rest in
      length-append (infos_of modules (opened o)) (infos_in modules es)
      ∙ ap₂ (λ m n. m + n) (infos_length modules rank r o)
      (body_length prefix (k ++ instance modules name target next ∷ []) (l ++ instance modules name target 0 ∷ [])
      (more-alike k l (instance modules name target next) (instance modules name target 0) a refl) (next + signals_in modules (place_of modules target)) rest)
  body_length prefix k l a next (connect line sink e rest) = body_length prefix k l a next rest
  body_length prefix k l a next (invalid line sink rest) = body_length prefix k l a next rest
  body_length prefix k l a next (when line cond taken other rest) =
      let second : ℕ = next + taken_up (signals_in modules) modules k taken in
      let third : ℕ = next + taken_up (signals_in modules) modules k taken + taken_up (signals_in modules) modules k other in
      let x : length (infos_in modules (entries modules prefix k next taken)) ≡ taken_up (signals_in modules) modules l taken = body_length prefix k l a next taken in
      let y : length (infos_in modules (entries modules prefix k second other)) ≡ taken_up (signals_in modules) modules l other = body_length prefix k l a second other in
      let z : length (infos_in modules (entries modules prefix k third rest)) ≡ taken_up (signals_in modules) modules l rest = body_length prefix k l a third rest in
      ap length (infos_append modules (entries modules prefix k next taken) (entries modules prefix k second other ++ entries modules prefix k third rest)
      ∙ ap (λ (t : List SignalInfo). infos_in modules (entries modules prefix k next taken) ++ t)
      (infos_append modules (entries modules prefix k second other) (entries modules prefix k third rest)))
      ∙ length-append (infos_in modules (entries modules prefix k next taken)) _
      ∙ ap₂ (λ m n. m + n) x (length-append (infos_in modules (entries modules prefix k second other)) _ ∙ ap₂ (λ m n. m + n) y z)

  module _ (signals : List SignalInfo) (prefix : List ℕ) (known : List Bound) (next : ℕ) where
    pub placed_wire : (line : ℕ) (name : List ℕ) (t : Shape) (rest : Body) → Stands signals next (infos_in modules (entries modules prefix known next (wire line name t rest)))
        → Stands signals next (map (leaf_info (prefix ++ name) role.Inner line) (leaves t))
        × Stands signals (next + size t) (infos_in modules (entries modules prefix (known ++ bound name t Free next ∷ []) (next + size t) rest))
    placed_wire line name t rest s = placed_leaves signals modules next (leaf_info (prefix ++ name) role.Inner line) t _ s

    pub placed_node : (line : ℕ) (name : List ℕ) (e : Expr) (rest : Body) → Stands signals next (infos_in modules (entries modules prefix known next (node line name e rest)))
        → Stands signals next (map (λ l. leaf_info (prefix ++ name) role.Node line (unwritten l)) (leaves (value known e).ty))
        × Stands signals (next + size (value known e).ty)
        (infos_in modules (entries modules prefix (known ++ bound name (value known e).ty Fixed next ∷ []) (next + size (value known e).ty) rest))
    placed_node line name e rest s = placed_leaves signals modules next (λ l. leaf_info (prefix ++ name) role.Node line (unwritten l)) (value known e).ty _ s

    pub placed_reg : (line : ℕ) (name : List ℕ) (t : Shape) (reset : Option ResetPair) (rest : Body)
        → Stands signals next (infos_in modules (entries modules prefix known next (reg line name t reset rest)))
        → Stands signals next (map (leaf_info (prefix ++ name) role.Reg line) (leaves t))
        × Stands signals (next + size t) (infos_in modules (entries modules prefix (known ++ bound name t Free next ∷ []) (next + size t) rest))
    placed_reg line name t reset rest s = placed_leaves signals modules next (leaf_info (prefix ++ name) role.Reg line) t _ s

    pub placed_inst : (line : ℕ) (name target : List ℕ) (rest : Body) → Stands signals next (infos_in modules (entries modules prefix known next (inst line name target rest)))
        → InPlace signals modules (opened_at name (place_of modules target) next prefix)
        × Stands signals (next + signals_in modules (place_of modules target))
        (infos_in modules (entries modules prefix (known ++ instance modules name target next ∷ []) (next + signals_in modules (place_of modules target)) rest))
    placed_inst line name target rest s =
        stands_parts signals next (signals_in modules (place_of modules target)) (infos_of modules (opened (opened_at name (place_of modules target) next prefix))) _ _ refl
        (infos_length modules rank r (opened_at name (place_of modules target) next prefix)) s

    pub placed_when : (line : ℕ) (cond : Expr) (taken other rest : Body) → Stands signals next (infos_in modules (entries modules prefix known next (when line cond taken other rest)))
        → Stands signals next (infos_in modules (entries modules prefix known next taken))
        × (Stands signals (next + taken_up (signals_in modules) modules known taken)
        (infos_in modules (entries modules prefix known (next + taken_up (signals_in modules) modules known taken) other))
        × Stands signals (next + taken_up (signals_in modules) modules known taken + taken_up (signals_in modules) modules known other)
        (infos_in modules (entries modules prefix known (next + taken_up (signals_in modules) modules known taken + taken_up (signals_in modules) modules known other) rest)))
    placed_when line cond taken other rest s =
        let second : ℕ = next + taken_up (signals_in modules) modules known taken in
        let third : ℕ = next + taken_up (signals_in modules) modules known taken + taken_up (signals_in modules) modules known other in
        let p = stands_parts signals next (taken_up (signals_in modules) modules known taken) (infos_in modules (entries modules prefix known next taken)) _ _
        (infos_append modules (entries modules prefix known next taken) (entries modules prefix known second other ++ entries modules prefix known third rest))
        (body_length prefix known known refl next taken) s in
        let q = stands_parts signals second (taken_up (signals_in modules) modules known other) (infos_in modules (entries modules prefix known second other)) _ _
        (infos_append modules (entries modules prefix known second other) (entries modules prefix known third rest))
        (body_length prefix known known refl second other) p.1 in
        (p.0, q)

-- ground ports

abbrev port_leaf : Port → Leaf → PortLeaf
port_leaf p l = record { line = p.line; input = same p.output l.against }

pub leaves_of_ports : (ports : List Port) → length (port_leaves ports) ≡ size (ports_shape ports)
leaves_of_ports [] = refl
leaves_of_ports (p ∷ ps) =
    let own : List PortLeaf = map (port_leaf p) (leaves (shape_of p.ty)) in
    let a : length (own ++ port_leaves ps) ≡ length own + length (port_leaves ps) = length-append own (port_leaves ps) in
    let e : length own ≡ length (leaves (shape_of p.ty)) = length-map (leaves (shape_of p.ty)) (port_leaf p) in
    let f : length (leaves (shape_of p.ty)) ≡ size (shape_of p.ty) = leaves_counted (shape_of p.ty) in
    let t : length (port_leaves ps) ≡ size (ports_shape ps) = leaves_of_ports ps in
    omega (arith, a, e, f, t)

-- the signals of an instance are its ports' and its body's
pub own_length : (modules : List Module) (rank : ℕ → ℕ) → AreRanked rank modules → (o : Opened)
    → signals_in modules o.target
    ≡ size (ports_shape (module_at modules o.target).ports)
    + taken_up (signals_in modules) modules (ports_known o.first (module_at modules o.target).ports) (body_of (module_at modules o.target).body)
own_length modules rank r o =
    let m : Module = module_at modules o.target in
    let es : List Entry = entries modules o.prefix (ports_known o.first m.ports) (behind_ports o m.ports) (body_of m.body) in
    sym (infos_length modules rank r o) ∙ ap length (infos_own modules rank r o) ∙ length-append (port_infos o m.ports) (infos_in modules es)
    ∙ ap₂ (λ x y. x + y) (ports_length o m.ports)
    (body_length modules rank r o.prefix (ports_known o.first m.ports) (ports_known o.first m.ports) refl (behind_ports o m.ports) (body_of m.body))

-- the instances in a body

pub instances_leaves : (f : Leaf → SignalInfo) (ls : List Leaf) (es : List Entry) → instances (map (λ l. made (f l)) ls ++ es) ≡ instances es
instances_leaves f [] es = refl
instances_leaves f (l ∷ ls) es = instances_leaves f ls es

-- what holds of each instance in a body, of each in the module
module _ (modules : List Module) (S : Opened → Type 0) where
  past_leaves : (f : Leaf → SignalInfo) (t : Shape) (es : List Entry) → All S (instances es) → All S (instances (map (λ l. made (f l)) (leaves t) ++ es))
  past_leaves f t es a = subst (All S) (sym (instances_leaves f (leaves t) es)) a

  three_lists : (xs ys zs : List Entry) → All S (instances xs) → All S (instances ys) → All S (instances zs) → All S (instances (xs ++ (ys ++ zs)))
  three_lists xs ys zs a b c =
      subst (All S) (sym (instances-append xs (ys ++ zs)))
      (All-append S (instances xs) (instances (ys ++ zs)) a (subst (All S) (sym (instances-append ys zs)) (All-append S (instances ys) (instances zs) b c)))

  -- of instances wherever they are
  pub body_instances : ((name : List ℕ) (target first : ℕ) (prefix : List ℕ) → S (opened_at name target first prefix)) → (prefix : List ℕ) (k : List Bound) (next : ℕ) (body : Body)
      → All S (instances (entries modules prefix k next body))
  body_instances h prefix k next done = All-nil S
  body_instances h prefix k next (wire line name t rest) =
      past_leaves (leaf_info (prefix ++ name) role.Inner line) t _ (body_instances h prefix (k ++ bound name t Free next ∷ []) (next + size t) rest)
  body_instances h prefix k next (node line name e rest) =
      past_leaves (λ x. leaf_info (prefix ++ name) role.Node line (unwritten x)) (value k e).ty _
      (body_instances h prefix (k ++ bound name (value k e).ty Fixed next ∷ []) (next + size (value k e).ty) rest)
  body_instances h prefix k next (reg line name t reset rest) =
      past_leaves (leaf_info (prefix ++ name) role.Reg line) t _ (body_instances h prefix (k ++ bound name t Free next ∷ []) (next + size t) rest)
  body_instances h prefix k next (inst line name target rest) =
      All-cons S (opened_at name (place_of modules target) next prefix) _ (h name (place_of modules target) next prefix)
      (body_instances h prefix (k ++ instance modules name target next ∷ []) (next + signals_in modules (place_of modules target)) rest)
  body_instances h prefix k next (connect line sink e rest) = body_instances h prefix k next rest
  body_instances h prefix k next (invalid line sink rest) = body_instances h prefix k next rest
  body_instances h prefix k next (when line cond taken other rest) =
      three_lists (entries modules prefix k next taken) (entries modules prefix k (next + taken_up (signals_in modules) modules k taken) other)
      (entries modules prefix k (next + taken_up (signals_in modules) modules k taken + taken_up (signals_in modules) modules k other) rest)
      (body_instances h prefix k next taken) (body_instances h prefix k (next + taken_up (signals_in modules) modules k taken) other)
      (body_instances h prefix k (next + taken_up (signals_in modules) modules k taken + taken_up (signals_in modules) modules k other) rest)

  behind_own_ports : (o : Opened)
      → All S (instances (entries modules o.prefix (ports_known o.first (module_at modules o.target).ports) (behind_ports o (module_at modules o.target).ports)
      (body_of (module_at modules o.target).body))) → All S (instances_of modules o)
  behind_own_ports o a =
      subst (All S) (sym (ports_open_nothing o (module_at modules o.target).ports
      (entries modules o.prefix (ports_known o.first (module_at modules o.target).ports) (behind_ports o (module_at modules o.target).ports) (body_of (module_at modules o.target).body)))) a

  pub inner_each : ((name : List ℕ) (target first : ℕ) (prefix : List ℕ) → S (opened_at name target first prefix)) → (o : Opened) → All S (instances_of modules o)
  inner_each h o =
      behind_own_ports o (body_instances h o.prefix (ports_known o.first (module_at modules o.target).ports) (behind_ports o (module_at modules o.target).ports)
      (body_of (module_at modules o.target).body))

pub inner_not_top : (modules : List Module) (o : Opened) → All (λ p. p.top ≡ false) (instances_of modules o)
inner_not_top modules o = inner_each modules (λ p. p.top ≡ false) (λ name target first prefix. refl) o

-- each instance in a body whose signals are in place is in place
module _ (modules : List Module) (rank : ℕ → ℕ) (r : AreRanked rank modules) (signals : List SignalInfo) where
  pub body_in_place : (prefix : List ℕ) (k : List Bound) (next : ℕ) (body : Body) → Stands signals next (infos_in modules (entries modules prefix k next body))
      → All (InPlace signals modules) (instances (entries modules prefix k next body))
  body_in_place prefix k next done s = All-nil (InPlace signals modules)
  body_in_place prefix k next (wire line name t rest) s =
      past_leaves modules (InPlace signals modules) (leaf_info (prefix ++ name) role.Inner line) t _
      (body_in_place prefix (k ++ bound name t Free next ∷ []) (next + size t) rest (placed_wire modules rank r signals prefix k next line name t rest s).1)
  body_in_place prefix k next (node line name e rest) s =
      past_leaves modules (InPlace signals modules) (λ x. leaf_info (prefix ++ name) role.Node line (unwritten x)) (value k e).ty _
      (body_in_place prefix (k ++ bound name (value k e).ty Fixed next ∷ []) (next + size (value k e).ty) rest (placed_node modules rank r signals prefix k next line name e rest s).1)
  body_in_place prefix k next (reg line name t reset rest) s =
      past_leaves modules (InPlace signals modules) (leaf_info (prefix ++ name) role.Reg line) t _
      (body_in_place prefix (k ++ bound name t Free next ∷ []) (next + size t) rest (placed_reg modules rank r signals prefix k next line name t reset rest s).1)
  body_in_place prefix k next (inst line name target rest) s =
      let p = placed_inst modules rank r signals prefix k next line name target rest s in
      All-cons (InPlace signals modules) (opened_at name (place_of modules target) next prefix) _ p.0
      (body_in_place prefix (k ++ instance modules name target next ∷ []) (next + signals_in modules (place_of modules target)) rest p.1)
  body_in_place prefix k next (connect line sink e rest) s = body_in_place prefix k next rest s
  body_in_place prefix k next (invalid line sink rest) s = body_in_place prefix k next rest s
  body_in_place prefix k next (when line cond taken other rest) s =
      let p = placed_when modules rank r signals prefix k next line cond taken other rest s in
      three_lists modules (InPlace signals modules) (entries modules prefix k next taken) (entries modules prefix k (next + taken_up (signals_in modules) modules k taken) other)
      (entries modules prefix k (next + taken_up (signals_in modules) modules k taken + taken_up (signals_in modules) modules k other) rest)
      (body_in_place prefix k next taken p.0) (body_in_place prefix k (next + taken_up (signals_in modules) modules k taken) other p.1.0)
      (body_in_place prefix k (next + taken_up (signals_in modules) modules k taken + taken_up (signals_in modules) modules k other) rest p.1.1)

  pub inner_in_place : (o : Opened) → InPlace signals modules o → All (InPlace signals modules) (instances_of modules o)
  inner_in_place o s =
      behind_own_ports modules (InPlace signals modules) o
      (body_in_place o.prefix (ports_known o.first (module_at modules o.target).ports) (behind_ports o (module_at modules o.target).ports)
      (body_of (module_at modules o.target).body) (placed_own signals modules rank r o s).1)

pub instances_have_rows : InstancesHaveRows
instances_have_rows rank modules signals o r s = record {
  counted = infos_length modules rank r o;
  ports = (placed_own signals modules rank r o s).0;
  inner = inner_in_place modules rank r signals o s;
}
