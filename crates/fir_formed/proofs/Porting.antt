-- Ports: their signals, seen from inside and from outside.
use Rattle.std.proofs.Common.{◌≡◌, ◌∙◌, sym, ap, subst, ℕ, zero, suc, ◌+◌, ◌-◌, ◌<◌, ◌≤◌, Bool, true, false, not, List, [], ◌∷◌, ◌++◌, None, refl, length, arith, map, nat_lt, slice_index_or, if◌then◌else◌, length-append}
use Rattle.std.proofs.lemmas.Bool.{ltb-true, ltb-false}
use Rattle.std.proofs.lemmas.List.{length-map}
use Rattle.fir_ast.specs.declared.tree.Port.{Port}
use Rattle.net_core.specs.declared.tree.SignalInfo.{SignalInfo}
use Rattle.net_core.specs.Signals.{info, is_input, is_node}
use Rattle.net_core.specs.Formed.{holds_number}
use Rattle.fir_check.specs.Types.{same}
use Rattle.fir_formed.proofs.Flows.{Sink, Source}
use Rattle.fir_flat.specs.Shapes.{Shape, shape_of, ports_shape, field, size, Leaf, leaves, whole, in_field}
use Rattle.fir_flat.specs.Values.{leaf_signed, may_be_driven}
use Rattle.fir_flat.specs.Elaboration.{port_role, PortLeaf, port_leaves, declared_inside}
use Rattle.fir_flat.proofs.LeafCounts.{leaves_counted}
use Rattle.fir_formed.proofs.Good.{leaf_against, facing, leaf_flow, OpenPart}
use Rattle.fir_formed.proofs.Laid.{InfoAt, PortLaid, PortsLaid}
use Rattle.fir_formed.proofs.Declaring.{after_ports, holds_ports}
use Rattle.std.proofs.Common.{append_assoc, append-nil}

-- items of one list behind another

at_left : {X : Type 0} (xs ys : List X) (i : ℕ) (d : X) → i < length xs → slice_index_or (xs ++ ys) i d ≡ slice_index_or xs i d
at_left [] ys i d l = absurd (omega arith)
at_left (x ∷ xs) ys zero d l = refl
at_left (x ∷ xs) ys (suc i) d l = at_left xs ys i d (omega arith)

at_right : {X : Type 0} (xs ys : List X) (i j : ℕ) (d : X) → i ≡ length xs + j → slice_index_or (xs ++ ys) i d ≡ slice_index_or ys j d
at_right [] ys i j d e = let q : i ≡ j = omega arith in ap (λ n. slice_index_or ys n d) q
at_right (x ∷ xs) ys zero j d e = absurd (omega arith)
at_right (x ∷ xs) ys (suc i) j d e = at_right xs ys i j d (omega arith)

pub at_mapped : {X Y : Type 0} (f : X → Y) (xs : List X) (i : ℕ) (d : X) (c : Y) → i < length xs → slice_index_or (map f xs) i c ≡ f (slice_index_or xs i d)
at_mapped f [] i d c l = absurd (omega arith)
at_mapped f (x ∷ xs) zero d c l = refl
at_mapped f (x ∷ xs) (suc i) d c l = at_mapped f xs i d c (omega arith)

-- leaves of the first field, and of the others

abbrev leaf_of : Shape → ℕ → Leaf
leaf_of t k = slice_index_or (leaves t) k (whole false None)

leaf_first : (flip : Bool) (name : List ℕ) (t rest : Shape) (k : ℕ) → k < size t → leaf_of (field flip name t rest) k ≡ in_field flip name (leaf_of t k)
leaf_first flip name t rest k l =
    let c : length (leaves t) ≡ size t = leaves_counted t in
    let m : length (map (in_field flip name) (leaves t)) ≡ length (leaves t) = length-map (leaves t) (in_field flip name) in
    at_left (map (in_field flip name) (leaves t)) (leaves rest) k (whole false None) (omega arith)
    ∙ at_mapped (in_field flip name) (leaves t) k (whole false None) (whole false None) (omega arith)

leaf_rest : (flip : Bool) (name : List ℕ) (t rest : Shape) (i k : ℕ) → i ≡ size t + k → leaf_of (field flip name t rest) i ≡ leaf_of rest k
leaf_rest flip name t rest i k e =
    let c : length (leaves t) ≡ size t = leaves_counted t in
    let m : length (map (in_field flip name) (leaves t)) ≡ length (leaves t) = length-map (leaves t) (in_field flip name) in
    at_right (map (in_field flip name) (leaves t)) (leaves rest) i k (whole false None) (omega arith)

-- which ports may be driven

-- a part of a port: whether it is an input, by the port's direction and whether it goes against that
inside_driven : (output against : Bool) → may_be_driven (facing against (if output then Sink else Source)) ≡ not (same output against)
inside_driven true true = refl
inside_driven true false = refl
inside_driven false true = refl
inside_driven false false = refl

outside_driven : (output against : Bool) → may_be_driven (facing (not (same (not output) against)) Source) ≡ same output against
outside_driven true true = refl
outside_driven true false = refl
outside_driven false true = refl
outside_driven false false = refl

-- no port is a node, and what is driven inside is no input

port_plain : (top input : Bool) → is_node (port_role top input) ≡ false
port_plain true true = refl
port_plain true false = refl
port_plain false input = refl

output_kept : (top input : Bool) → input ≡ false → is_input (port_role top input) ≡ false
output_kept true true e = cc
output_kept true false e = refl
output_kept false input e = refl

inner_kept : (input : Bool) → is_input (port_role false input) ≡ false
inner_kept input = refl

output_inside : (top input : Bool) → input ≡ false → declared_inside top input ≡ true
output_inside true input e = refl
output_inside false input e = ap not e

-- the ports that a test takes are declared

abbrev pub PortOpen : List ℕ → (Bool → Bool) → ℕ → Port → Type 0
PortOpen scope test next p = (k : ℕ) → k < size (shape_of p.ty) → test (same p.output (leaf_against (shape_of p.ty) k)) ≡ true → holds_number scope (next + k) ≡ true

abbrev pub PortsOpen : List ℕ → (Bool → Bool) → ℕ → List Port → Type 0
PortsOpen scope test next [] = Unit {0}
PortsOpen scope test next (p ∷ ps) = PortOpen scope test next p × PortsOpen scope test (next + size (shape_of p.ty)) ps

no_leaf : PortLeaf
no_leaf = record { line = 0; input = false }

-- the leaves of all ports from some of them on: whatever stands in front
ports_open_from : (before : List PortLeaf) (scope : List ℕ) (test : Bool → Bool) (first next : ℕ) (ps : List Port) → next ≡ first + length before
    → ((i x : ℕ) → x ≡ first + i → i < length (before ++ port_leaves ps) → test (slice_index_or (before ++ port_leaves ps) i no_leaf).input ≡ true → holds_number scope x ≡ true)
    → PortsOpen scope test next ps
ports_open_from before scope test first next [] e h = tt
ports_open_from before scope test first next (p ∷ ps) e h =
    let own : List PortLeaf = map (λ l. record { line = p.line; input = same p.output l.against }) (leaves (shape_of p.ty)) in
    let c : length (leaves (shape_of p.ty)) ≡ size (shape_of p.ty) = leaves_counted (shape_of p.ty) in
    let m : length own ≡ length (leaves (shape_of p.ty)) = length-map (leaves (shape_of p.ty)) (λ l. record { line = p.line; input = same p.output l.against }) in
    let a : length (before ++ (own ++ port_leaves ps)) ≡ length before + length (own ++ port_leaves ps) = length-append before (own ++ port_leaves ps) in
    let b : length (own ++ port_leaves ps) ≡ length own + length (port_leaves ps) = length-append own (port_leaves ps) in
    let d : length (before ++ own) ≡ length before + length own = length-append before own in
    let s : (before ++ own) ++ port_leaves ps ≡ before ++ (own ++ port_leaves ps) = append_assoc before own (port_leaves ps) in (
      (λ k l t.
          let at : slice_index_or (before ++ (own ++ port_leaves ps)) (length before + k) no_leaf ≡ record { line = p.line; input = same p.output (leaf_against (shape_of p.ty) k) } =
          at_right before (own ++ port_leaves ps) (length before + k) k no_leaf refl ∙ at_left own (port_leaves ps) k no_leaf (omega arith)
          ∙ at_mapped (λ (l : Leaf). record { line = p.line; input = same p.output l.against }) (leaves (shape_of p.ty)) k (whole false None) no_leaf (omega arith) in
          h (length before + k) (next + k) (omega arith) (omega arith) (ap (λ (q : PortLeaf). test q.input) at ∙ t)),
      ports_open_from (before ++ own) scope test first (next + size (shape_of p.ty)) ps (omega arith)
          (subst (λ (zs : List PortLeaf). (i x : ℕ) → x ≡ first + i → i < length zs → test (slice_index_or zs i no_leaf).input ≡ true → holds_number scope x ≡ true) (sym s) h),
    )

pub ports_open : (test : Bool → Bool) (number : ℕ) (ps : List Port) (s : List ℕ) → PortsOpen (after_ports test number (port_leaves ps) s) test number ps
ports_open test number ps s =
    ports_open_from [] (after_ports test number (port_leaves ps) s) test number number ps (omega arith) (λ i x e l t. holds_ports test number (port_leaves ps) s i x no_leaf e l t)

-- no port is a node
abbrev own_leaves : Port → List PortLeaf
own_leaves p = map (λ (l : Leaf). record { line = p.line; input = same p.output l.against }) (leaves (shape_of p.ty))

own_length : (p : Port) → length (own_leaves p) ≡ length (leaves (shape_of p.ty))
own_length p = length-map (leaves (shape_of p.ty)) (λ (l : Leaf). record { line = p.line; input = same p.output l.against })

ports_plain_from : (S : List SignalInfo) (top : Bool) (first next : ℕ) (before : List PortLeaf) (ps : List Port) → next ≡ first + length before → PortsLaid S top next ps
    → ((i x : ℕ) → x ≡ first + i → i < length before → is_node (info S x).role ≡ false)
    → (i x : ℕ) → x ≡ first + i → i < length (before ++ port_leaves ps) → is_node (info S x).role ≡ false
ports_plain_from S top first next before [] e laid h i x q l =
    h i x q (subst (λ (zs : List PortLeaf). i < length zs) (append-nil before) l)
ports_plain_from S top first next before (p ∷ ps) e laid h i x q l =
    let own : List PortLeaf = own_leaves p in
    let c : length (leaves (shape_of p.ty)) ≡ size (shape_of p.ty) = leaves_counted (shape_of p.ty) in
    let m : length own ≡ length (leaves (shape_of p.ty)) = own_length p in
    let d : length (before ++ own) ≡ length before + length own = length-append before own in
    let s : (before ++ own) ++ port_leaves ps ≡ before ++ (own ++ port_leaves ps) = append_assoc before own (port_leaves ps) in
    ports_plain_from S top first (next + size (shape_of p.ty)) (before ++ own) ps (omega arith) laid.1
    own_plain
    i x q (subst (λ (zs : List PortLeaf). i < length zs) (sym s) l)
  where
    own_plain : (j y : ℕ) → y ≡ first + j → j < length (before ++ own_leaves p) → is_node (info S y).role ≡ false
    own_plain j y r n = at (nat_lt j (length before)) refl
      where
        c : length (leaves (shape_of p.ty)) ≡ size (shape_of p.ty)
        c = leaves_counted (shape_of p.ty)

        at : (t : Bool) → nat_lt j (length before) ≡ t → is_node (info S y).role ≡ false
        at true w = h j y r (ltb-true _ _ w)
        at false w =
            let g : length before ≤ j = ltb-false _ _ w in
            let m : length (own_leaves p) ≡ length (leaves (shape_of p.ty)) = own_length p in
            let d : length (before ++ own_leaves p) ≡ length before + length (own_leaves p) = length-append before (own_leaves p) in
            let k : j - length before < size (shape_of p.ty) = omega (arith, c, m, d, g, n) in
            let u : next + (j - length before) ≡ y = omega (arith, g, e, r) in
            let i2 = laid.0 (j - length before) k in
            subst (λ v. is_node (info S v).role ≡ false) u (ap is_node i2.role ∙ port_plain top (same p.output (leaf_against (shape_of p.ty) (j - length before))))

pub ports_plain : (S : List SignalInfo) (top : Bool) (first : ℕ) (ps : List Port) → PortsLaid S top first ps → (i x : ℕ) → x ≡ first + i → i < length (port_leaves ps) → is_node (info S x).role ≡ false
ports_plain S top first ps laid = ports_plain_from S top first first [] ps (omega arith) laid (λ i x q l. absurd (omega arith))

-- a port, seen from inside
pub port_sound : (S : List SignalInfo) (top : Bool) (scope : List ℕ) (next : ℕ) (p : Port) → PortLaid S top next p → PortOpen scope (declared_inside top) next p → (k : ℕ) → k < size (shape_of p.ty)
    → OpenPart S scope (leaf_signed (shape_of p.ty) k) (leaf_flow (shape_of p.ty) (if p.output then Sink else Source) k) (next + k)
port_sound S top scope next p laid shown k l =
    let i : InfoAt S (next + k) (port_role top (same p.output (leaf_against (shape_of p.ty) k))) (leaf_signed (shape_of p.ty) k) = laid k l in
    record {
      below = i.below;
      signed = i.signed;
      settable = λ d.
          let n : same p.output (leaf_against (shape_of p.ty) k) ≡ false = not_true (same p.output (leaf_against (shape_of p.ty) k)) (sym (inside_driven p.output (leaf_against (shape_of p.ty) k)) ∙ d) in
          record {
            kept = ap is_input i.role ∙ output_kept top (same p.output (leaf_against (shape_of p.ty) k)) n;
            plain = ap is_node i.role ∙ port_plain top (same p.output (leaf_against (shape_of p.ty) k));
            there = shown k l (output_inside top (same p.output (leaf_against (shape_of p.ty) k)) n);
          };
    }
  where
    not_true : (b : Bool) → not b ≡ true → b ≡ false
    not_true true e = cc
    not_true false e = refl

-- all ports of an instance, seen from outside
pub instance_sound : (S : List SignalInfo) (scope : List ℕ) (next : ℕ) (ps : List Port) → PortsLaid S false next ps → PortsOpen scope (λ input. input) next ps
    → (i x : ℕ) → x ≡ next + i → i < size (ports_shape ps) → OpenPart S scope (leaf_signed (ports_shape ps) i) (leaf_flow (ports_shape ps) Source i) x
instance_sound S scope next [] laid shown i x e l = absurd (omega arith)
instance_sound S scope next (p ∷ ps) laid shown i x e l =
    step (nat_lt i (size (shape_of p.ty))) refl (λ j q m. instance_sound S scope (next + size (shape_of p.ty)) ps laid.1 shown.1 j x q m)
  where
    here : i < size (shape_of p.ty) → OpenPart S scope (leaf_signed (ports_shape (p ∷ ps)) i) (leaf_flow (ports_shape (p ∷ ps)) Source i) x
    here m =
        let f : leaf_of (ports_shape (p ∷ ps)) i ≡ in_field (not p.output) p.name (leaf_of (shape_of p.ty) i) = leaf_first (not p.output) p.name (shape_of p.ty) (ports_shape ps) i m in
        let g : InfoAt S (next + i) (port_role false (same p.output (leaf_against (shape_of p.ty) i))) (leaf_signed (shape_of p.ty) i) = laid.0 i m in
        let q : OpenPart S scope (leaf_signed (shape_of p.ty) i) (facing (not (same (not p.output) (leaf_against (shape_of p.ty) i))) Source) (next + i) = record {
          below = g.below;
          signed = g.signed;
          settable = λ d. record {
            kept = ap is_input g.role;
            plain = ap is_node g.role;
            there = shown.0 i m (sym (outside_driven p.output (leaf_against (shape_of p.ty) i)) ∙ d);
          };
        } in
        subst (λ y. OpenPart S scope (leaf_signed (ports_shape (p ∷ ps)) i) (leaf_flow (ports_shape (p ∷ ps)) Source i) y) (sym e)
        (subst (λ (z : Leaf). OpenPart S scope z.signed (facing z.against Source) (next + i)) (sym f) q)

    there : size (shape_of p.ty) ≤ i → ((j : ℕ) → x ≡ next + size (shape_of p.ty) + j → j < size (ports_shape ps) → OpenPart S scope (leaf_signed (ports_shape ps) j) (leaf_flow (ports_shape ps) Source j) x) → OpenPart S scope (leaf_signed (ports_shape (p ∷ ps)) i) (leaf_flow (ports_shape (p ∷ ps)) Source i) x
    there m others =
        let f : leaf_of (ports_shape (p ∷ ps)) i ≡ leaf_of (ports_shape ps) (i - size (shape_of p.ty)) = leaf_rest (not p.output) p.name (shape_of p.ty) (ports_shape ps) i (i - size (shape_of p.ty)) (omega arith) in
        let q : OpenPart S scope (leaf_signed (ports_shape ps) (i - size (shape_of p.ty))) (leaf_flow (ports_shape ps) Source (i - size (shape_of p.ty))) x
        = others (i - size (shape_of p.ty)) (omega arith) (omega arith) in
        subst (λ (z : Leaf). OpenPart S scope z.signed (facing z.against Source) x) (sym f) q

    step : (b : Bool) → nat_lt i (size (shape_of p.ty)) ≡ b
        → ((j : ℕ) → x ≡ next + size (shape_of p.ty) + j → j < size (ports_shape ps) → OpenPart S scope (leaf_signed (ports_shape ps) j) (leaf_flow (ports_shape ps) Source j) x)
        → OpenPart S scope (leaf_signed (ports_shape (p ∷ ps)) i) (leaf_flow (ports_shape (p ∷ ps)) Source i) x
    step true w others = here (ltb-true _ _ w)
    step false w others = there (ltb-false _ _ w) others
