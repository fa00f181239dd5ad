-- How deep the Whens of a body nest.
use Rattle.std.proofs.Common.{◌+◌, ◌≤◌, max, sym, subst, ℕ, zero, suc, Bool, true, false, Option, Some, None, List, [], ◌∷◌, ◌++◌, map, flat_map, arith}
use Rattle.std.specs.List.{All, range_with_len}
use Rattle.std.proofs.lemmas.List.Elements.{All-head, All-tail}
use Rattle.std.proofs.lemmas.List.{get_or_past}
use Rattle.fir_ast.specs.declared.tree.Expr.{Expr}
use Rattle.fir_ast.specs.declared.tree.Module.{Module}
use Rattle.net_core.specs.declared.ports.Signal.{Signal}
use Rattle.net_core.specs.declared.tree.GroundExpr.{GroundExpr}
use Rattle.net_core.specs.declared.tree.GroundReset.{GroundReset}
use Rattle.net_core.specs.declared.tree.Ground.{Ground}
use Rattle.net_core.specs.declared.tree.Ground.TheVariants as out
use Rattle.net_core.specs.Body.{Body as GroundBody, depth, body_of as ground_body_of}
use Rattle.net_core.proofs.Trees.{of_declare, of_set, of_when}
use Rattle.fir_check.specs.Names.{kept}
use Rattle.flat_places.proofs.Flows.{Free, Fixed}
use Rattle.fir_flat.specs.Shapes.{size, leaves, partners}
use Rattle.fir_flat.specs.Bodies.{Body, done, wire, node, reg, inst, connect, invalid, when, body_of}
use Rattle.fir_flat.specs.Values.{Bound, bound, Value, value, signal}
use Rattle.fir_flat.specs.Modules.{no_module, module_at, place_of, ports_known, instance, signals_in, taken_up}
use Rattle.fir_flat.specs.Elaboration.{Opened, instances_of, behind_ports, PortLeaf, port_leaves, declare, declare_ports, declared_inside, declare_all, node_part, reg_part, connect_parts, invalid_parts, grounds, own_body, list_of}
use Rattle.flat_places.specs.Nesting.{indices, nesting, NestBelow}
use Rattle.flat_places.proofs.Blocks.{depth_append}
use Rattle.flat_places.proofs.Infos.{AreRanked, each_instance}
use Rattle.flat_places.proofs.Pieces.{each_joined, each_mapped, each_connect, each_invalid, each_drive}

-- a module is one of the modules, or none
pub at_module : (Q : Module → Type 0) → Q no_module → (modules : List Module) → All Q modules → (place : ℕ) → Q (module_at modules place)
at_module Q n [] a place = subst Q (sym (get_or_past [] place no_module (omega arith))) n
at_module Q n (m ∷ ms) a zero = All-head Q m ms a
at_module Q n (m ∷ ms) a (suc k) = at_module Q n ms (All-tail Q m ms a) k

abbrev Below : ℕ → List Ground → Type 0
Below n gs = depth (ground_body_of gs) ≤ n

none_below : (n : ℕ) → Below n []
none_below n = omega arith

declare_below : (n k line : ℕ) (reset : Option GroundReset) → Below n (declare k line reset ∷ [])
declare_below n k line reset = subst (λ (b : GroundBody). depth b ≤ n) (sym (of_declare (signal k) line reset [])) (omega arith)

set_below : (n line : ℕ) (s : Signal) (given : Option GroundExpr) → Below n (out.Set line s given ∷ [])
set_below n line s given = subst (λ (b : GroundBody). depth b ≤ n) (sym (of_set line s given [])) (omega arith)

when_below : (n line : ℕ) (c : GroundExpr) (taken other : List Ground) → 1 + max (depth (ground_body_of taken)) (depth (ground_body_of other)) ≤ n
    → Below n (out.When line c taken other ∷ [])
when_below n line c taken other h = subst (λ (b : GroundBody). depth b ≤ n) (sym (of_when line c taken other [])) (omega (arith, h))

drive_below : (known : List Bound) (e : Expr) (line k : ℕ) (given : Option GroundExpr) → Below (indices e) ((value known e).drive line k given)
drive_below = each_drive Below none_below depth_append (set_below 0) (λ n line c gs h. when_below (suc n) line c gs [] (omega (arith, h)))

ports_below : (n : ℕ) (test : Bool → Bool) (number : ℕ) (ps : List PortLeaf) → Below n (declare_ports test number ps)
ports_below n test number [] = none_below n
ports_below n test number (p ∷ ps) = one (test p.input) (ports_below n test (suc number) ps) where
  one : (b : Bool) → Below n (declare_ports test (suc number) ps) → Below n (kept b (declare number p.line None) (declare_ports test (suc number) ps))
  one true h = depth_append n (declare number p.line None ∷ []) (declare_ports test (suc number) ps) (declare_below n number p.line None) h
  one false h = h

node_below : (n line next : ℕ) (v : Value) (k : ℕ) → Below n (node_part line next v k)
node_below n line next v k =
    depth_append n (declare (next + k) line None ∷ []) (out.Set line (signal (next + k)) (Some (v.part k)) ∷ []) (declare_below n (next + k) line None)
    (set_below n line (signal (next + k)) (Some (v.part k)))

pub body_below : (modules : List Module) (known : List Bound) (next : ℕ) (body : Body) (n : ℕ) → nesting body ≤ n → depth (ground_body_of (grounds modules known next body)) ≤ n
body_below modules known next done n h = omega arith
body_below modules known next (wire line name t rest) n h =
    depth_append n (declare_all line next (size t)) _
    (each_mapped (Below n) (none_below n) (depth_append n) (λ k. declare k line None) next (size t) (λ i l. declare_below n (next + i) line None))
    (body_below modules (known ++ bound name t Free next ∷ []) (next + size t) rest n h)
body_below modules known next (node line name e rest) n h =
    depth_append n (flat_map (node_part line next (value known e)) (range_with_len 0 (size (value known e).ty))) _
    (each_joined (Below n) (none_below n) (depth_append n) (node_part line next (value known e)) 0 (size (value known e).ty) (λ i l. node_below n line next (value known e) (0 + i)))
    (body_below modules (known ++ bound name (value known e).ty Fixed next ∷ []) (next + size (value known e).ty) rest n h)
body_below modules known next (reg line name t reset rest) n h =
    depth_append n (map (reg_part line next (known ++ bound name t Free next ∷ []) t reset) (range_with_len 0 (size t))) _
    (each_mapped (Below n) (none_below n) (depth_append n) (reg_part line next (known ++ bound name t Free next ∷ []) t reset) 0 (size t)
    (λ i l. declare_below n (next + (0 + i)) line _))
    (body_below modules (known ++ bound name t Free next ∷ []) (next + size t) rest n h)
body_below modules known next (inst line name target rest) n h =
    depth_append n (declare_ports (λ input. input) next (port_leaves (module_at modules (place_of modules target)).ports)) _
    (ports_below n (λ input. input) next (port_leaves (module_at modules (place_of modules target)).ports))
    (body_below modules (known ++ instance modules name target next ∷ []) (next + signals_in modules (place_of modules target)) rest n h)
body_below modules known next (connect line sink e rest) n h =
    depth_append n (connect_parts line (value known sink) (value known e) 0 (leaves (value known sink).ty) (partners (value known sink).ty (value known e).ty)) _
    (each_connect (Below n) (none_below n) (depth_append n) line (value known sink) (value known e)
    (λ k given. let d = drive_below known sink line k given in omega (arith, h, d)) (λ k given. let d = drive_below known e line k given in omega (arith, h, d)) 0
    (leaves (value known sink).ty) (partners (value known sink).ty (value known e).ty))
    (body_below modules known next rest n (omega (arith, h)))
body_below modules known next (invalid line sink rest) n h =
    depth_append n (invalid_parts line (value known sink) 0 (leaves (value known sink).ty)) _
    (each_invalid (Below n) (none_below n) (depth_append n) line (value known sink)
    (λ k given. let d = drive_below known sink line k given in omega (arith, h, d)) 0 (leaves (value known sink).ty))
    (body_below modules known next rest n (omega (arith, h)))
body_below modules known next (when line cond taken other rest) n h =
    let second : ℕ = next + taken_up (signals_in modules) modules known taken in
    let third : ℕ = next + taken_up (signals_in modules) modules known taken + taken_up (signals_in modules) modules known other in
    let t : depth (ground_body_of (grounds modules known next taken)) ≤ nesting taken = body_below modules known next taken (nesting taken) (omega arith) in
    let o : depth (ground_body_of (grounds modules known second other)) ≤ nesting other = body_below modules known second other (nesting other) (omega arith) in
    depth_append n (out.When line ((value known cond).part 0) (grounds modules known next taken) (grounds modules known second other) ∷ []) (grounds modules known third rest)
    (when_below n line ((value known cond).part 0) (grounds modules known next taken) (grounds modules known second other) (omega (arith, h, t, o)))
    (body_below modules known third rest n (omega (arith, h)))

pub list_below : (modules : List Module) (rank : ℕ → ℕ) → AreRanked rank modules → (n : ℕ) → NestBelow n modules → (o : Opened) → depth (ground_body_of (list_of modules o)) ≤ n
list_below modules rank r n h o =
    each_instance modules rank r (λ p. Unit {0}) (λ p u. units (instances_of modules p)) (Below n) own (none_below n) (depth_append n) o tt
  where
    units : (os : List Opened) → All (λ p. Unit {0}) os
    units os k d l = tt

    own : (p : Opened) → Unit {0} → Below n (own_body modules p (module_at modules p.target))
    own p u =
        let m : Module = module_at modules p.target in
        depth_append n (declare_ports (declared_inside p.top) p.first (port_leaves m.ports)) (grounds modules (ports_known p.first m.ports) (behind_ports p m.ports) (body_of m.body))
        (ports_below n (declared_inside p.top) p.first (port_leaves m.ports))
        (body_below modules (ports_known p.first m.ports) (behind_ports p m.ports) (body_of m.body) n (at_module (λ x. nesting (body_of x.body) ≤ n) (omega arith) modules h p.target))
