-- The signals and parts of a body are those that are counted of it.
use Rattle.std.proofs.Common.{◌≡◌, ◌∙◌, ◌+◌, ◌*◌, sym, ap, ap₂, ℕ, suc, Bool, true, false, if◌then◌else◌, Option, Some, None, List, [], ◌∷◌, ◌++◌, refl, map, sum, length, arith, append_assoc, length-append, slice_index}
use Rattle.std.specs.List.{range_with_len, flat_map}
use Rattle.std.proofs.lemmas.List.{map-append}
use Rattle.fir_ast.specs.declared.tree.ResetPair.{ResetPair}
use Rattle.fir_ast.specs.declared.tree.Module.{Module}
use Rattle.fir_ast.specs.declared.tree.Port.{Port}
use Rattle.net_core.specs.declared.tree.Role.TheVariants as role
use Rattle.net_core.specs.declared.tree.Ground.{Ground}
use Rattle.net_core.specs.declared.tree.Ground.TheVariants as out
use Rattle.fir_check.specs.Names.{kept}
use Rattle.fir_flat.specs.declared.kinds.Flow.{Flow}
use Rattle.fir_flat.specs.declared.kinds.Flow.TheVariants.{Free, Fixed}
use Rattle.fir_flat.specs.Shapes.{Shape, shape_of, ports_shape, size, Leaf, leaves, partners}
use Rattle.fir_flat.specs.Bodies.{Body, done, wire, node, reg, inst, connect, invalid, when}
use Rattle.fir_flat.specs.Values.{Bound, bound, Value, value, signal, may_be_driven, turned}
use Rattle.fir_flat.specs.Modules.{module_at, place_of, instance, targets, taken_up, signals_in}
use Rattle.fir_flat.specs.Measures.{Measure, measure, driven, facing, connect_weight, reached, reset_weight, body_weight}
use Rattle.fir_flat.specs.Elaboration.{Entry, made, opened, Opened, leaf_entry, unwritten, port_entry, port_entries, opened_at, entries, instances, nodes, statement_parts, declare, PortLeaf, port_leaves, declare_ports, declare_all, node_part, ground_reset, reg_part, connect_parts, invalid_parts, grounds}
use Rattle.fir_flat.proofs.LeafCounts.{leaves_counted, partners_counted}
use Rattle.fir_flat.proofs.Weighed.{parts-Declare, parts-Set, parts-When}
use Rattle.fir_flat.proofs.Totals.{total, sum_total, total-append, total-map, total-range, total-ranges}
use Rattle.fir_flat.proofs.Unnumbered.{Alike, measure-alike, type-alike, more-alike}
use Rattle.fir_flat.proofs.ValueCounts.{Measures, measures_value}
use Rattle.fir_flat.proofs.LeafFacing.{one_if, faces, facing_leaves, connect_total, invalid_total}

-- what is declared

-- an entry that is a signal
abbrev pub is_made : Entry → ℕ
is_made (made info) = 1
is_made (opened o) = 0

abbrev pub signals_made : List Entry → ℕ
signals_made = total is_made

leaves_made : (f : Leaf → Entry) → ((l : Leaf) → is_made (f l) ≡ 1) → (t : Shape) → signals_made (map f (leaves t)) ≡ size t
leaves_made f h t =
    let e : signals_made (map f (leaves t)) ≡ length (leaves t) * 1 = total-map is_made f 1 h (leaves t) in
    let n : length (leaves t) ≡ size t = leaves_counted t in
    omega (arith, e, n)

pub ports_made : (o : Opened) (ports : List Port) → signals_made (port_entries o ports) ≡ size (ports_shape ports)
ports_made o [] = refl
ports_made o (p ∷ ps) =
    let a : signals_made (map (port_entry o p) (leaves (shape_of p.ty)) ++ port_entries o ps)
    ≡ signals_made (map (port_entry o p) (leaves (shape_of p.ty))) + signals_made (port_entries o ps)
    = total-append is_made (map (port_entry o p) (leaves (shape_of p.ty))) (port_entries o ps) in
    let e : signals_made (map (port_entry o p) (leaves (shape_of p.ty))) ≡ size (shape_of p.ty) = leaves_made (port_entry o p) (λ l. refl) (shape_of p.ty) in
    let t : signals_made (port_entries o ps) ≡ size (ports_shape ps) = ports_made o ps in
    omega (arith, a, e, t)

-- signals in front of what else is declared
made_first : (f : Leaf → Entry) → ((l : Leaf) → is_made (f l) ≡ 1) → (t : Shape) (es : List Entry) (n : ℕ) → signals_made es ≡ n
    → signals_made (map f (leaves t) ++ es) ≡ size t + n
made_first f h t es n e =
    let a : signals_made (map f (leaves t) ++ es) ≡ signals_made (map f (leaves t)) + signals_made es = total-append is_made (map f (leaves t)) es in
    let m : signals_made (map f (leaves t)) ≡ size t = leaves_made f h t in
    omega (arith, a, m, e)

pub body_made : (modules : List Module) (prefix : List ℕ) (k l : List Bound) → Alike k l → (next : ℕ) (body : Body)
    → signals_made (entries modules prefix k next body) ≡ taken_up (λ target. 0) modules l body
body_made modules prefix k l a next done = refl
body_made modules prefix k l a next (wire line name t rest) =
    made_first (leaf_entry (prefix ++ name) role.Inner line) (λ x. refl) t _ _
    (body_made modules prefix (k ++ bound name t Free next ∷ []) (l ++ bound name t Free 0 ∷ [])
    (more-alike k l (bound name t Free next) (bound name t Free 0) a refl) (next + size t) rest)
body_made modules prefix k l a next (node line name e rest) =
    made_first (λ x. leaf_entry (prefix ++ name) role.Node line (unwritten x)) (λ x. refl) (value k e).ty _ _
    (body_made modules prefix (k ++ bound name (value k e).ty Fixed next ∷ []) (l ++ bound name (value l e).ty Fixed 0 ∷ [])
    (more-alike k l (bound name (value k e).ty Fixed next) (bound name (value l e).ty Fixed 0) a (ap (λ (t : Shape). bound name t Fixed 0) (type-alike k l a e)))
    (next + size (value k e).ty) rest)
    ∙ ap (λ (t : Shape). size t + taken_up (λ target. 0) modules (l ++ bound name (value l e).ty Fixed 0 ∷ []) rest) (type-alike k l a e)
body_made modules prefix k l a next (reg line name t reset rest) =
    made_first (leaf_entry (prefix ++ name) role.Reg line) (λ x. refl) t _ _
    (body_made modules prefix (k ++ bound name t Free next ∷ []) (l ++ bound name t Free 0 ∷ [])
    (more-alike k l (bound name t Free next) (bound name t Free 0) a refl) (next + size t) rest)
body_made modules prefix k l a next (inst line name target rest) =
    let t : signals_made (entries modules prefix (k ++ instance modules name target next ∷ []) (next + signals_in modules (place_of modules target)) rest)
    ≡ taken_up (λ target. 0) modules (l ++ instance modules name target 0 ∷ []) rest
    = body_made modules prefix (k ++ instance modules name target next ∷ []) (l ++ instance modules name target 0 ∷ [])
    (more-alike k l (instance modules name target next) (instance modules name target 0) a refl) (next + signals_in modules (place_of modules target)) rest in
    omega (arith, t)
body_made modules prefix k l a next (connect line sink e rest) = body_made modules prefix k l a next rest
body_made modules prefix k l a next (invalid line sink rest) = body_made modules prefix k l a next rest
body_made modules prefix k l a next (when line cond taken other rest) =
    let second : ℕ = next + taken_up (signals_in modules) modules k taken in
    let third : ℕ = next + taken_up (signals_in modules) modules k taken + taken_up (signals_in modules) modules k other in
    let x : signals_made (entries modules prefix k next taken) ≡ taken_up (λ target. 0) modules l taken = body_made modules prefix k l a next taken in
    let y : signals_made (entries modules prefix k second other) ≡ taken_up (λ target. 0) modules l other = body_made modules prefix k l a second other in
    let z : signals_made (entries modules prefix k third rest) ≡ taken_up (λ target. 0) modules l rest = body_made modules prefix k l a third rest in
    let u = total-append is_made (entries modules prefix k next taken) (entries modules prefix k second other ++ entries modules prefix k third rest) in
    let v = total-append is_made (entries modules prefix k second other) (entries modules prefix k third rest) in
    u ∙ ap₂ (λ m n. m + n) x (v ∙ ap₂ (λ m n. m + n) y z)

-- the instances among what is declared

no_instances : (f : Leaf → Entry) → ((l : Leaf) (es : List Entry) → instances (f l ∷ es) ≡ instances es) → (ls : List Leaf) (es : List Entry)
    → instances (map f ls ++ es) ≡ instances es
no_instances f h [] es = refl
no_instances f h (l ∷ ls) es = h l (map f ls ++ es) ∙ no_instances f h ls es

pub instances-append : (xs ys : List Entry) → instances (xs ++ ys) ≡ instances xs ++ instances ys
instances-append [] ys = refl
instances-append (made info ∷ xs) ys = instances-append xs ys
instances-append (opened o ∷ xs) ys = ap (λ os. o ∷ os) (instances-append xs ys)

each-append : {A : Type 0} (f : Opened → A) (xs ys : List Entry) → map f (instances (xs ++ ys)) ≡ map f (instances xs) ++ map f (instances ys)
each-append f xs ys = ap (map f) (instances-append xs ys) ∙ map-append f (instances xs) (instances ys)

pub ports_open_nothing : (o : Opened) (ports : List Port) (es : List Entry) → instances (port_entries o ports ++ es) ≡ instances es
ports_open_nothing o [] es = refl
ports_open_nothing o (p ∷ ps) es =
    ap instances (append_assoc (map (port_entry o p) (leaves (shape_of p.ty))) (port_entries o ps) es)
    ∙ no_instances (port_entry o p) (λ l xs. refl) (leaves (shape_of p.ty)) (port_entries o ps ++ es)
    ∙ ports_open_nothing o ps es

-- what is the same of all instances of a module
module _ (A : Type 0) (f : Opened → A) (g : ℕ → A) (h : (name : List ℕ) (target first : ℕ) (prefix : List ℕ) → f (opened_at name target first prefix) ≡ g target) (modules : List Module) where
  pub body_opened : (prefix : List ℕ) (k : List Bound) (next : ℕ) (body : Body) → map f (instances (entries modules prefix k next body)) ≡ map g (targets modules body)
  body_opened prefix k next done = refl
  body_opened prefix k next (wire line name t rest) =
      ap (map f) (no_instances (leaf_entry (prefix ++ name) role.Inner line) (λ l xs. refl) (leaves t)
      (entries modules prefix (k ++ bound name t Free next ∷ []) (next + size t) rest))
      ∙ body_opened prefix (k ++ bound name t Free next ∷ []) (next + size t) rest
  body_opened prefix k next (node line name e rest) =
      ap (map f) (no_instances (λ x. leaf_entry (prefix ++ name) role.Node line (unwritten x)) (λ l xs. refl) (leaves (value k e).ty)
      (entries modules prefix (k ++ bound name (value k e).ty Fixed next ∷ []) (next + size (value k e).ty) rest))
      ∙ body_opened prefix (k ++ bound name (value k e).ty Fixed next ∷ []) (next + size (value k e).ty) rest
  body_opened prefix k next (reg line name t reset rest) =
      ap (map f) (no_instances (leaf_entry (prefix ++ name) role.Reg line) (λ l xs. refl) (leaves t)
      (entries modules prefix (k ++ bound name t Free next ∷ []) (next + size t) rest))
      ∙ body_opened prefix (k ++ bound name t Free next ∷ []) (next + size t) rest
  body_opened prefix k next (inst line name target rest) =
      ap₂ (λ x xs. x ∷ xs) (h name (place_of modules target) next prefix)
      (body_opened prefix (k ++ instance modules name target next ∷ []) (next + signals_in modules (place_of modules target)) rest)
  body_opened prefix k next (connect line sink e rest) = body_opened prefix k next rest
  body_opened prefix k next (invalid line sink rest) = body_opened prefix k next rest
  body_opened prefix k next (when line cond taken other rest) =
      let second : ℕ = next + taken_up (signals_in modules) modules k taken in
      let third : ℕ = next + taken_up (signals_in modules) modules k taken + taken_up (signals_in modules) modules k other in
      let x : map f (instances (entries modules prefix k next taken)) ≡ map g (targets modules taken) = body_opened prefix k next taken in
      let y : map f (instances (entries modules prefix k second other)) ≡ map g (targets modules other) = body_opened prefix k second other in
      let z : map f (instances (entries modules prefix k third rest)) ≡ map g (targets modules rest) = body_opened prefix k third rest in
      let u = each-append f (entries modules prefix k next taken) (entries modules prefix k second other ++ entries modules prefix k third rest) in
      let v = each-append f (entries modules prefix k second other) (entries modules prefix k third rest) in
      let p = map-append g (targets modules taken) (targets modules other ++ targets modules rest) in
      let q = map-append g (targets modules other) (targets modules rest) in
      u ∙ ap₂ (λ m n. m ++ n) x (v ∙ ap₂ (λ m n. m ++ n) y z ∙ sym q) ∙ sym p

-- statements

abbrev pub parts_in : List Ground → ℕ
parts_in = total statement_parts

-- the ports that a test takes
abbrev pub taken_ports : (Bool → Bool) → List PortLeaf → ℕ
taken_ports test = total (λ p. one_if (test p.input))

kept_parts : (b : Bool) (number line : ℕ) (gs : List Ground) → parts_in (kept b (declare number line None) gs) ≡ one_if b + parts_in gs
kept_parts true number line gs = let e : statement_parts (declare number line None) ≡ 1 = parts-Declare (signal number) line None in omega (arith, e)
kept_parts false number line gs = omega arith

pub declared_parts : (test : Bool → Bool) (number : ℕ) (ps : List PortLeaf) → parts_in (declare_ports test number ps) ≡ taken_ports test ps
declared_parts test number [] = refl
declared_parts test number (p ∷ ps) =
    let e : parts_in (kept (test p.input) (declare number p.line None) (declare_ports test (suc number) ps))
    ≡ one_if (test p.input) + parts_in (declare_ports test (suc number) ps)
    = kept_parts (test p.input) number p.line (declare_ports test (suc number) ps) in
    let t : parts_in (declare_ports test (suc number) ps) ≡ taken_ports test ps = declared_parts test (suc number) ps in
    omega (arith, e, t)

-- the ground inputs of a module
abbrev pub inputs_at : List Module → ℕ → ℕ
inputs_at modules place = taken_ports (λ input. input) (port_leaves (module_at modules place).ports)

node_part_total : (line next : ℕ) (v : Value) (m : Measure) → Measures v m → (k : ℕ) → parts_in (node_part line next v k) ≡ 2 + m.nodes
node_part_total line next v m h k =
    let d : statement_parts (declare (next + k) line None) ≡ 1 = parts-Declare (signal (next + k)) line None in
    let s : statement_parts (out.Set line (signal (next + k)) (Some (v.part k))) ≡ 1 + nodes (v.part k) = parts-Set line (signal (next + k)) (Some (v.part k)) in
    let n : nodes (v.part k) ≡ m.nodes = h.nodes k in
    omega (arith, d, s, n)

reg_part_total : (line next : ℕ) (known other : List Bound) → Alike known other → (t : Shape) (reset : Option ResetPair) (k : ℕ)
    → statement_parts (reg_part line next known t reset k) ≡ 1 + reset_weight other reset
reg_part_total line next known other a t None k = parts-Declare (signal (next + k)) line None
reg_part_total line next known other a t (Some r) k =
    let s : Value = value known r.signal in
    let i : Value = value known r.init in
    let e : statement_parts (reg_part line next known t (Some r) k) ≡ 1 + (nodes (s.part 0) + nodes (i.part (slice_index (partners t i.ty) k)))
    = parts-Declare (signal (next + k)) line (Some (ground_reset t s i k)) in
    let x : nodes (s.part 0) ≡ (measure known r.signal).nodes = (measures_value known r.signal).nodes 0 in
    let y : nodes (i.part (slice_index (partners t i.ty) k)) ≡ (measure known r.init).nodes = (measures_value known r.init).nodes (slice_index (partners t i.ty) k) in
    let u : (measure known r.signal).nodes ≡ (measure other r.signal).nodes = ap (λ (m : Measure). m.nodes) (measure-alike known other a r.signal) in
    let v : (measure known r.init).nodes ≡ (measure other r.init).nodes = ap (λ (m : Measure). m.nodes) (measure-alike known other a r.init) in
    omega (arith, e, x, y, u, v)

connect_parts_total : (line : ℕ) (sink v : Value) (m e : Measure) → Measures sink m → Measures v e
    → parts_in (connect_parts line sink v 0 (leaves sink.ty) (partners sink.ty v.ty)) ≡ connect_weight m e
connect_parts_total line sink v m e h g =
    let c : parts_in (connect_parts line sink v 0 (leaves sink.ty) (partners sink.ty v.ty))
    ≡ total (faces false) (leaves sink.ty) * driven m e.nodes + total (faces true) (leaves sink.ty) * driven e m.nodes
    = connect_total line sink v m e h g 0 (leaves sink.ty) (partners sink.ty v.ty) (leaves_counted sink.ty ∙ sym (partners_counted sink.ty v.ty)) in
    c ∙ ap₂ (λ x y. x * driven m e.nodes + y * driven e m.nodes) (facing_leaves false sink.ty ∙ ap (facing false) h.ty) (facing_leaves true sink.ty ∙ ap (facing true) h.ty)

abbrev reached_at : Flow → Shape → ℕ
reached_at flow t = (if may_be_driven flow then facing false t else 0) + (if may_be_driven (turned flow) then facing true t else 0)

invalid_parts_total : (line : ℕ) (sink : Value) (m : Measure) → Measures sink m
    → parts_in (invalid_parts line sink 0 (leaves sink.ty)) ≡ reached m * driven m 0
invalid_parts_total line sink m h =
    invalid_total line sink m h 0 (leaves sink.ty)
    ∙ ap₂ (λ x y. ((if may_be_driven sink.flow then x else 0) + (if may_be_driven (turned sink.flow) then y else 0)) * driven m 0)
    (facing_leaves false sink.ty) (facing_leaves true sink.ty)
    ∙ ap₂ (λ (f : Flow) (t : Shape). reached_at f t * driven m 0) h.flow h.ty

-- so many parts in front of a body's
parts_first : (xs gs : List Ground) (n m w i : ℕ) → parts_in xs ≡ n → parts_in gs + m ≡ w + i → parts_in (xs ++ gs) + m ≡ (n + w) + i
parts_first xs gs n m w i e f =
    let a : parts_in (xs ++ gs) ≡ parts_in xs + parts_in gs = total-append statement_parts xs gs in
    omega (arith, a, e, f)

-- the parts of a body, and the instances in it, are those that are counted, but for the inputs of the instances, which count in
-- their modules
pub body_parts : (modules : List Module) (k l : List Bound) → Alike k l → (next : ℕ) (body : Body)
    → parts_in (grounds modules k next body) + length (targets modules body) ≡ body_weight modules l body + total (inputs_at modules) (targets modules body)
body_parts modules k l a next done = refl
body_parts modules k l a next (wire line name t rest) =
    parts_first (declare_all line next (size t)) _ (size t) _ _ _
    (total-range statement_parts (λ j. declare j line None) 1 (λ j. parts-Declare (signal j) line None) next (size t) ∙ one_times (size t))
    (body_parts modules (k ++ bound name t Free next ∷ []) (l ++ bound name t Free 0 ∷ [])
    (more-alike k l (bound name t Free next) (bound name t Free 0) a refl) (next + size t) rest)
  where
    one_times : (n : ℕ) → n * 1 ≡ n
    one_times n = omega arith
body_parts modules k l a next (node line name e rest) =
    let same_type : (value k e).ty ≡ (measure l e).ty = (measures_value k e).ty ∙ ap (λ (m : Measure). m.ty) (measure-alike k l a e) in
    let nodes_are : (measure k e).nodes ≡ (measure l e).nodes = ap (λ (m : Measure). m.nodes) (measure-alike k l a e) in
    parts_first (flat_map (node_part line next (value k e)) (range_with_len 0 (size (value k e).ty))) _ (size (measure l e).ty * (2 + (measure l e).nodes)) _ _ _
    (total-ranges statement_parts (node_part line next (value k e)) (2 + (measure k e).nodes)
    (λ j. node_part_total line next (value k e) (measure k e) (measures_value k e) j) 0 (size (value k e).ty)
    ∙ ap₂ (λ (t : Shape) n. size t * (2 + n)) same_type nodes_are)
    (body_parts modules (k ++ bound name (value k e).ty Fixed next ∷ []) (l ++ bound name (measure l e).ty Fixed 0 ∷ [])
    (more-alike k l (bound name (value k e).ty Fixed next) (bound name (measure l e).ty Fixed 0) a (ap (λ (t : Shape). bound name t Fixed 0) same_type))
    (next + size (value k e).ty) rest)
body_parts modules k l a next (reg line name t reset rest) =
    parts_first (map (reg_part line next (k ++ bound name t Free next ∷ []) t reset) (range_with_len 0 (size t))) _
    (size t * (1 + reset_weight (l ++ bound name t Free 0 ∷ []) reset)) _ _ _
    (total-range statement_parts (reg_part line next (k ++ bound name t Free next ∷ []) t reset) (1 + reset_weight (l ++ bound name t Free 0 ∷ []) reset)
    (reg_part_total line next (k ++ bound name t Free next ∷ []) (l ++ bound name t Free 0 ∷ [])
    (more-alike k l (bound name t Free next) (bound name t Free 0) a refl) t reset) 0 (size t))
    (body_parts modules (k ++ bound name t Free next ∷ []) (l ++ bound name t Free 0 ∷ [])
    (more-alike k l (bound name t Free next) (bound name t Free 0) a refl) (next + size t) rest)
body_parts modules k l a next (inst line name target rest) =
    let d : parts_in (declare_ports (λ input. input) next (port_leaves (module_at modules (place_of modules target)).ports)) ≡ inputs_at modules (place_of modules target)
    = declared_parts (λ input. input) next (port_leaves (module_at modules (place_of modules target)).ports) in
    let t = body_parts modules (k ++ instance modules name target next ∷ []) (l ++ instance modules name target 0 ∷ [])
    (more-alike k l (instance modules name target next) (instance modules name target 0) a refl) (next + signals_in modules (place_of modules target)) rest in
    opens _ _ _ _ _ _ d t
  where
    opens : (xs gs : List Ground) (i m w j : ℕ) → parts_in xs ≡ i → parts_in gs + m ≡ w + j → parts_in (xs ++ gs) + suc m ≡ (1 + w) + (i + j)
    opens xs gs i m w j e f =
        let b : parts_in (xs ++ gs) ≡ parts_in xs + parts_in gs = total-append statement_parts xs gs in
        omega (arith, b, e, f)
body_parts modules k l a next (connect line sink e rest) =
    parts_first (connect_parts line (value k sink) (value k e) 0 (leaves (value k sink).ty) (partners (value k sink).ty (value k e).ty)) _
    (connect_weight (measure l sink) (measure l e)) _ _ _
    (connect_parts_total line (value k sink) (value k e) (measure k sink) (measure k e) (measures_value k sink) (measures_value k e)
    ∙ ap₂ connect_weight (measure-alike k l a sink) (measure-alike k l a e))
    (body_parts modules k l a next rest)
body_parts modules k l a next (invalid line sink rest) =
    parts_first (invalid_parts line (value k sink) 0 (leaves (value k sink).ty)) _ (reached (measure l sink) * driven (measure l sink) 0) _ _ _
    (invalid_parts_total line (value k sink) (measure k sink) (measures_value k sink)
    ∙ ap (λ (m : Measure). reached m * driven m 0) (measure-alike k l a sink))
    (body_parts modules k l a next rest)
body_parts modules k l a next (when line cond taken other rest) =
    let second : ℕ = next + taken_up (signals_in modules) modules k taken in
    let third : ℕ = next + taken_up (signals_in modules) modules k taken + taken_up (signals_in modules) modules k other in
    let w : statement_parts (out.When line ((value k cond).part 0) (grounds modules k next taken) (grounds modules k second other))
    ≡ 1 + nodes ((value k cond).part 0) + sum (map statement_parts (grounds modules k next taken)) + sum (map statement_parts (grounds modules k second other))
    = parts-When line ((value k cond).part 0) (grounds modules k next taken) (grounds modules k second other) in
    let s : sum (map statement_parts (grounds modules k next taken)) ≡ parts_in (grounds modules k next taken) = sum_total statement_parts (grounds modules k next taken) in
    let r : sum (map statement_parts (grounds modules k second other)) ≡ parts_in (grounds modules k second other) = sum_total statement_parts (grounds modules k second other) in
    let n : nodes ((value k cond).part 0) ≡ (measure k cond).nodes = (measures_value k cond).nodes 0 in
    let m : (measure k cond).nodes ≡ (measure l cond).nodes = ap (λ (x : Measure). x.nodes) (measure-alike k l a cond) in
    let x : parts_in (grounds modules k next taken) + length (targets modules taken) ≡ body_weight modules l taken + total (inputs_at modules) (targets modules taken)
    = body_parts modules k l a next taken in
    let y : parts_in (grounds modules k second other) + length (targets modules other) ≡ body_weight modules l other + total (inputs_at modules) (targets modules other)
    = body_parts modules k l a second other in
    let z : parts_in (grounds modules k third rest) + length (targets modules rest) ≡ body_weight modules l rest + total (inputs_at modules) (targets modules rest)
    = body_parts modules k l a third rest in
    let e : length (targets modules taken ++ (targets modules other ++ targets modules rest))
    ≡ length (targets modules taken) + length (targets modules other ++ targets modules rest)
    = length-append (targets modules taken) (targets modules other ++ targets modules rest) in
    let f : length (targets modules other ++ targets modules rest) ≡ length (targets modules other) + length (targets modules rest)
    = length-append (targets modules other) (targets modules rest) in
    let g : total (inputs_at modules) (targets modules taken ++ (targets modules other ++ targets modules rest))
    ≡ total (inputs_at modules) (targets modules taken) + total (inputs_at modules) (targets modules other ++ targets modules rest)
    = total-append (inputs_at modules) (targets modules taken) (targets modules other ++ targets modules rest) in
    let h : total (inputs_at modules) (targets modules other ++ targets modules rest)
    ≡ total (inputs_at modules) (targets modules other) + total (inputs_at modules) (targets modules rest)
    = total-append (inputs_at modules) (targets modules other) (targets modules rest) in
    omega (arith, w, s, r, n, m, x, y, z, e, f, g, h)
