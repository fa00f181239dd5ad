-- The signals of a body that stand in a row are those that it declares.
use Rattle.std.proofs.Common.{◌≡◌, ◌∙◌, ap, subst, ℕ, ◌+◌, ◌<◌, ◌≤◌, false, None, List, [], ◌∷◌, ◌++◌, refl, length, arith, map, slice_index_or}
use Rattle.std.proofs.lemmas.List.{length-map}
use Rattle.fir_ast.specs.declared.tree.Port.{Port}
use Rattle.fir_ast.specs.declared.tree.Module.{Module}
use Rattle.net_core.specs.declared.tree.SignalInfo.{SignalInfo}
use Rattle.net_core.specs.declared.tree.Role.{Role}
use Rattle.net_core.specs.declared.tree.Role.TheVariants as role
use Rattle.net_core.specs.Signals.{info, no_info}
use Rattle.fir_formed.proofs.Flows.{Free, Fixed}
use Rattle.fir_flat.specs.Shapes.{Shape, shape_of, size, Leaf, leaves, whole}
use Rattle.fir_flat.specs.Bodies.{Body, done, wire, node, reg, inst, connect, invalid, when, body_of}
use Rattle.fir_flat.specs.Values.{Bound, bound, value}
use Rattle.fir_flat.specs.Modules.{module_at, place_of, ports_known, instance, taken_up, signals_in}
use Rattle.fir_flat.specs.Elaboration.{Opened, opened_at, behind_ports, entries, unwritten}
use Rattle.fir_flat.specs.Flattening.{infos_in}
use Rattle.fir_flat.proofs.LeafCounts.{leaves_counted}
use Rattle.flat_places.specs.Places.{Stands, InPlace, leaf_info, port_info, port_infos}
use Rattle.flat_places.proofs.Spans.{stands_front, stands_back, stands_below, stands_info}
use Rattle.flat_places.proofs.Infos.{AreRanked}
use Rattle.flat_places.proofs.Placed.{placed_own, placed_wire, placed_node, placed_reg, placed_inst, placed_when}
use Rattle.fir_formed.proofs.Laid.{Holds, PortsLaid, Laid, LaidAt}
use Rattle.fir_formed.proofs.Porting.{at_mapped}

abbrev leaf_of : Shape → ℕ → Leaf
leaf_of t k = slice_index_or (leaves t) k (whole false None)

info_there : (S : List SignalInfo) (first : ℕ) (f : Leaf → SignalInfo) (t : Shape) → Stands S first (map f (leaves t)) → (k : ℕ) → k < size t → info S (first + k) ≡ f (leaf_of t k)
info_there S first f t s k l =
    let m : length (map f (leaves t)) ≡ length (leaves t) = length-map (leaves t) f in
    let c : length (leaves t) ≡ size t = leaves_counted t in
    stands_info S first (map f (leaves t)) k s (omega (arith, m, c)) ∙ at_mapped f (leaves t) k (whole false None) no_info (omega (arith, c))

below_there : (S : List SignalInfo) (first : ℕ) (f : Leaf → SignalInfo) (t : Shape) → Stands S first (map f (leaves t)) → (k : ℕ) → k < size t → first + k < length S
below_there S first f t s k l =
    let m : length (map f (leaves t)) ≡ length (leaves t) = length-map (leaves t) f in
    let c : length (leaves t) ≡ size t = leaves_counted t in
    let b : first + length (map f (leaves t)) ≤ length S = stands_below S first (map f (leaves t)) s in
    omega (arith, m, c, b)

holds : (S : List SignalInfo) (first : ℕ) (f : Leaf → SignalInfo) (t : Shape) (kind : Role) → ((l : Leaf) → (f l).role ≡ kind) → ((l : Leaf) → (f l).signed ≡ l.signed)
    → Stands S first (map f (leaves t)) → Holds S t kind first
holds S first f t kind r g s k l = record {
  below = below_there S first f t s k l;
  role = ap (λ (i : SignalInfo). i.role) (info_there S first f t s k l) ∙ r (leaf_of t k);
  signed = ap (λ (i : SignalInfo). i.signed) (info_there S first f t s k l) ∙ g (leaf_of t k);
}

ports_laid : (S : List SignalInfo) (o : Opened) (next : ℕ) (ps : List Port) → Stands S next (port_infos o ps) → PortsLaid S o.top next ps
ports_laid S o next [] s = tt
ports_laid S o next (p ∷ ps) s =
    let t : Shape = shape_of p.ty in
    let m : length (map (port_info o p) (leaves (shape_of p.ty))) ≡ length (leaves (shape_of p.ty)) = length-map (leaves (shape_of p.ty)) (port_info o p) in
    let own : Stands S next (map (port_info o p) (leaves (shape_of p.ty))) = stands_front S next (map (port_info o p) (leaves (shape_of p.ty))) (port_infos o ps) s in
    let rest : Stands S (next + length (map (port_info o p) (leaves (shape_of p.ty)))) (port_infos o ps) = stands_back S next (map (port_info o p) (leaves (shape_of p.ty))) (port_infos o ps) s in (
      (λ k l. record {
        below = below_there S next (port_info o p) (shape_of p.ty) own k l;
        role = ap (λ (i : SignalInfo). i.role) (info_there S next (port_info o p) (shape_of p.ty) own k l);
        signed = ap (λ (i : SignalInfo). i.signed) (info_there S next (port_info o p) (shape_of p.ty) own k l);
      }),
      ports_laid S o (next + size (shape_of p.ty)) ps (subst (λ n. Stands S (next + n) (port_infos o ps)) (m ∙ leaves_counted (shape_of p.ty)) rest),
    )

module _ (modules : List Module) (rank : ℕ → ℕ) (r : AreRanked rank modules) (S : List SignalInfo) where
  body_laid : (prefix : List ℕ) (known : List Bound) (next : ℕ) (body : Body) → Stands S next (infos_in modules (entries modules prefix known next body)) → Laid S modules known next body
  body_laid prefix known next done s = tt
  body_laid prefix known next (wire line name t rest) s =
      let p = placed_wire modules rank r S prefix known next line name t rest s in (
        holds S next (leaf_info (prefix ++ name) role.Inner line) t role.Inner (λ l. refl) (λ l. refl) p.0,
        body_laid prefix (known ++ bound name t Free next ∷ []) (next + size t) rest p.1,
      )
  body_laid prefix known next (node line name e rest) s =
      let p = placed_node modules rank r S prefix known next line name e rest s in (
        holds S next (λ l. leaf_info (prefix ++ name) role.Node line (unwritten l)) (value known e).ty role.Node (λ l. refl) (λ l. refl) p.0,
        body_laid prefix (known ++ bound name (value known e).ty Fixed next ∷ []) (next + size (value known e).ty) rest p.1,
      )
  body_laid prefix known next (reg line name t reset rest) s =
      let p = placed_reg modules rank r S prefix known next line name t reset rest s in (
        holds S next (leaf_info (prefix ++ name) role.Reg line) t role.Reg (λ l. refl) (λ l. refl) p.0,
        body_laid prefix (known ++ bound name t Free next ∷ []) (next + size t) rest p.1,
      )
  body_laid prefix known next (inst line name target rest) s =
      let p = placed_inst modules rank r S prefix known next line name target rest s in
      let o : Opened = opened_at name (place_of modules target) next prefix in (
        ports_laid S o next (module_at modules (place_of modules target)).ports (placed_own S modules rank r (opened_at name (place_of modules target) next prefix) p.0).0,
        body_laid prefix (known ++ instance modules name target next ∷ []) (next + signals_in modules (place_of modules target)) rest p.1,
      )
  body_laid prefix known next (connect line sink e rest) s = body_laid prefix known next rest s
  body_laid prefix known next (invalid line sink rest) s = body_laid prefix known next rest s
  body_laid prefix known next (when line cond taken other rest) s =
      let p = placed_when modules rank r S prefix known next line cond taken other rest s in (
        body_laid prefix known next taken p.0,
        (
          body_laid prefix known (next + taken_up (signals_in modules) modules known taken) other p.1.0,
          body_laid prefix known (next + taken_up (signals_in modules) modules known taken + taken_up (signals_in modules) modules known other) rest p.1.1,
        ),
      )

  pub laid_at : (o : Opened) → InPlace S modules o → LaidAt S modules o
  laid_at o s =
      let p = placed_own S modules rank r o s in
      record {
        ports = ports_laid S o o.first (module_at modules o.target).ports p.0;
        body = body_laid o.prefix (ports_known o.first (module_at modules o.target).ports) (behind_ports o (module_at modules o.target).ports) (body_of (module_at modules o.target).body) p.1;
      }
