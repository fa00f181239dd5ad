-- The declarations of a whole body, and of all instances.
use Rattle.std.proofs.Common.{◌≡◌, ◌∙◌, ◌+◌, ℕ, Bool, List, [], ◌∷◌, ◌++◌, refl, map, flat_map, length}
use Rattle.std.specs.List.{range_with_len}
use Rattle.std.proofs.lemmas.List.{length-map}
use Rattle.fir_ast.specs.declared.tree.Module.{Module}
use Rattle.net_core.specs.declared.tree.Role.TheVariants as role
use Rattle.net_core.specs.declared.tree.SignalInfo.{SignalInfo}
use Rattle.net_core.specs.declared.tree.Ground.TheVariants as out
use Rattle.flat_places.proofs.Flows.{Free, Fixed}
use Rattle.fir_flat.specs.Shapes.{Shape, size, Leaf, leaves, partners}
use Rattle.fir_flat.specs.Bodies.{Body, done, wire, node, reg, inst, connect, invalid, when, body_of}
use Rattle.fir_flat.specs.Values.{Bound, bound, value}
use Rattle.fir_flat.specs.Modules.{module_at, place_of, ports_known, instance, signals_in, taken_up}
use Rattle.fir_flat.specs.Elaboration.{Opened, opened_at, unwritten, behind_ports, entries, port_leaves, declare_ports, declared_inside, declare_all, node_part, reg_part, connect_parts, invalid_parts, grounds, own_body, list_of}
use Rattle.fir_flat.specs.Flattening.{infos_in}
use Rattle.fir_flat.proofs.LeafCounts.{leaves_counted}
use Rattle.flat_places.specs.Places.{Stands, InPlace, leaf_info}
use Rattle.flat_places.proofs.RightDeclared.{Declares}
use Rattle.flat_places.proofs.Infos.{AreRanked, each_instance}
use Rattle.flat_places.proofs.Placed.{placed_own, placed_wire, placed_node, placed_reg, placed_inst, placed_when, inner_in_place}
use Rattle.flat_places.proofs.Pieces.{each_connect, each_invalid}
use Rattle.flat_places.proofs.Declaring.{Plain, mapped_each, declares_none, declares_both, declares_when, declares_drive, declares_ports, row_declares, nodes_declare, registers_declare}

leaf_count : (f : Leaf → SignalInfo) (t : Shape) → length (map f (leaves t)) ≡ size t
leaf_count f t = length-map (leaves t) f ∙ leaves_counted t

module _ (modules : List Module) (rank : ℕ → ℕ) (r : AreRanked rank modules) (signals : List SignalInfo) where
  -- the ports of an instance, which stand first among its signals
  inner_ports : (o : Opened) (test : Bool → Bool) → InPlace signals modules o
      → Declares signals (declare_ports test o.first (port_leaves (module_at modules o.target).ports))
  inner_ports o test s = declares_ports signals o (module_at modules o.target).ports test (placed_own signals modules rank r o s).0

  pub body_declares : (prefix : List ℕ) (known : List Bound) (next : ℕ) (body : Body) → Stands signals next (infos_in modules (entries modules prefix known next body))
      → Declares signals (grounds modules known next body)
  body_declares prefix known next done s = declares_none signals
  body_declares prefix known next (wire line name t rest) s =
      let p = placed_wire modules rank r signals prefix known next line name t rest s in
      declares_both signals (declare_all line next (size t)) _
      (row_declares signals line next (size t) (map (leaf_info (prefix ++ name) role.Inner line) (leaves t)) (leaf_count (leaf_info (prefix ++ name) role.Inner line) t) p.0
      (mapped_each (Plain line) (leaf_info (prefix ++ name) role.Inner line) (λ l. (refl, refl)) (leaves t)))
      (body_declares prefix (known ++ bound name t Free next ∷ []) (next + size t) rest p.1)
  body_declares prefix known next (node line name e rest) s =
      let p = placed_node modules rank r signals prefix known next line name e rest s in
      declares_both signals (flat_map (node_part line next (value known e)) (range_with_len 0 (size (value known e).ty))) _
      (nodes_declare signals line next (size (value known e).ty) (value known e) (map (λ l. leaf_info (prefix ++ name) role.Node line (unwritten l)) (leaves (value known e).ty))
      (leaf_count (λ l. leaf_info (prefix ++ name) role.Node line (unwritten l)) (value known e).ty) p.0
      (mapped_each (λ i. i.line ≡ line) (λ l. leaf_info (prefix ++ name) role.Node line (unwritten l)) (λ l. refl) (leaves (value known e).ty)))
      (body_declares prefix (known ++ bound name (value known e).ty Fixed next ∷ []) (next + size (value known e).ty) rest p.1)
  body_declares prefix known next (reg line name t reset rest) s =
      let p = placed_reg modules rank r signals prefix known next line name t reset rest s in
      declares_both signals (map (reg_part line next (known ++ bound name t Free next ∷ []) t reset) (range_with_len 0 (size t))) _
      (registers_declare signals line next (size t) (known ++ bound name t Free next ∷ []) t reset (map (leaf_info (prefix ++ name) role.Reg line) (leaves t))
      (leaf_count (leaf_info (prefix ++ name) role.Reg line) t) p.0
      (mapped_each (λ i. (i.line ≡ line) × (i.role ≡ role.Reg)) (leaf_info (prefix ++ name) role.Reg line) (λ l. (refl, refl)) (leaves t)))
      (body_declares prefix (known ++ bound name t Free next ∷ []) (next + size t) rest p.1)
  body_declares prefix known next (inst line name target rest) s =
      let p = placed_inst modules rank r signals prefix known next line name target rest s in
      declares_both signals (declare_ports (λ input. input) next (port_leaves (module_at modules (place_of modules target)).ports)) _
      (inner_ports (opened_at name (place_of modules target) next prefix) (λ input. input) p.0)
      (body_declares prefix (known ++ instance modules name target next ∷ []) (next + signals_in modules (place_of modules target)) rest p.1)
  body_declares prefix known next (connect line sink e rest) s =
      declares_both signals (connect_parts line (value known sink) (value known e) 0 (leaves (value known sink).ty) (partners (value known sink).ty (value known e).ty)) _
      (each_connect (Declares signals) (declares_none signals) (declares_both signals) line (value known sink) (value known e)
      (λ k given. declares_drive signals known sink line k given) (λ k given. declares_drive signals known e line k given) 0
      (leaves (value known sink).ty) (partners (value known sink).ty (value known e).ty))
      (body_declares prefix known next rest s)
  body_declares prefix known next (invalid line sink rest) s =
      declares_both signals (invalid_parts line (value known sink) 0 (leaves (value known sink).ty)) _
      (each_invalid (Declares signals) (declares_none signals) (declares_both signals) line (value known sink)
      (λ k given. declares_drive signals known sink line k given) 0 (leaves (value known sink).ty))
      (body_declares prefix known next rest s)
  body_declares prefix known next (when line cond taken other rest) s =
      let second : ℕ = next + taken_up (signals_in modules) modules known taken in
      let third : ℕ = next + taken_up (signals_in modules) modules known taken + taken_up (signals_in modules) modules known other in
      let p = placed_when modules rank r signals prefix known next line cond taken other rest s in
      declares_both signals (out.When line ((value known cond).part 0) (grounds modules known next taken) (grounds modules known second other) ∷ []) (grounds modules known third rest)
      (declares_when signals line ((value known cond).part 0) (grounds modules known next taken) (grounds modules known second other)
      (body_declares prefix known next taken p.0) (body_declares prefix known second other p.1.0))
      (body_declares prefix known third rest p.1.1)

  own_declares : (o : Opened) → InPlace signals modules o → Declares signals (own_body modules o (module_at modules o.target))
  own_declares o s =
      let p = placed_own signals modules rank r o s in
      declares_both signals (declare_ports (declared_inside o.top) o.first (port_leaves (module_at modules o.target).ports)) _
      (declares_ports signals o (module_at modules o.target).ports (declared_inside o.top) p.0)
      (body_declares o.prefix (ports_known o.first (module_at modules o.target).ports) (behind_ports o (module_at modules o.target).ports) (body_of (module_at modules o.target).body) p.1)

  pub list_declares : (o : Opened) → InPlace signals modules o → Declares signals (list_of modules o)
  list_declares =
      each_instance modules rank r (InPlace signals modules) (inner_in_place modules rank r signals) (Declares signals) own_declares (declares_none signals) (declares_both signals)
