-- Each declaration is that of a signal that stands there, with its line.
use Rattle.std.proofs.Common.{◌≡◌, ◌∙◌, ◌+◌, ◌<◌, ◌≤◌, sym, ap, subst, ℕ, suc, Bool, true, false, not, ◌&&◌, ◌||◌, Option, Some, None, List, [], ◌∷◌, ◌++◌, refl, map, flat_map, arith, length, nat_eq, is_some}
use Rattle.std.specs.List.{All, range_with_len}
use Rattle.std.proofs.lemmas.List.Elements.{All-nil, All-cons, All-append, All-get_or}
use Rattle.std.proofs.lemmas.Bool.{eq-eqb}
use Rattle.fir_ast.specs.declared.tree.Expr.{Expr}
use Rattle.fir_ast.specs.declared.tree.ResetPair.{ResetPair}
use Rattle.fir_ast.specs.declared.tree.Port.{Port}
use Rattle.net_core.specs.declared.ports.Signal.{Signal}
use Rattle.net_core.specs.declared.tree.Role.TheVariants as role
use Rattle.net_core.specs.declared.tree.SignalInfo.{SignalInfo}
use Rattle.net_core.specs.declared.tree.GroundExpr.{GroundExpr}
use Rattle.net_core.specs.declared.tree.GroundReset.{GroundReset}
use Rattle.net_core.specs.declared.tree.Ground.{Ground}
use Rattle.net_core.specs.declared.tree.Ground.TheVariants as out
use Rattle.net_core.specs.Signals.{info, no_info, is_node, is_register}
use Rattle.net_core.specs.Body.{Body, done, body_of}
use Rattle.net_core.specs.Body as body
use Rattle.net_core.specs.Formed.{declares, nodes_follow}
use Rattle.net_core.proofs.Trees.{of_declare, of_set, of_when}
use Rattle.fir_check.specs.Names.{kept}
use Rattle.fir_check.specs.Types.{same}
use Rattle.fir_flat.specs.Shapes.{Shape, shape_of, Leaf, leaves}
use Rattle.fir_flat.specs.Values.{Bound, Value, value, signal}
use Rattle.fir_flat.specs.Elaboration.{Opened, PortLeaf, port_leaves, port_role, declare, declare_ports, declare_all, node_part, reg_part}
use Rattle.flat_places.specs.Places.{Stands, port_info, port_infos}
use Rattle.flat_places.proofs.RightDeclared.{IsRight, Declares}
use Rattle.flat_places.proofs.Blocks.{declares_append, nodes_append}
use Rattle.flat_places.proofs.Spans.{stands_back, stands_below, stands_info}
use Rattle.flat_places.proofs.Pieces.{each_joined_first, each_mapped, each_mapped_first, each_drive}

-- what holds of signals holds of the signals in their places
pub stands_each : (Q : SignalInfo → Type 0) (signals : List SignalInfo) (first : ℕ) (part : List SignalInfo) → Stands signals first part → All Q part
    → (k : ℕ) → k < length part → Q (info signals (first + k))
stands_each Q signals first part s a k l = subst Q (sym (stands_info signals first part k s l)) (All-get_or Q part k no_info l a)

pub mapped_each : {X : Type 0} (Q : SignalInfo → Type 0) (f : X → SignalInfo) → ((x : X) → Q (f x)) → (xs : List X) → All Q (map f xs)
mapped_each Q f h [] = All-nil Q
mapped_each Q f h (x ∷ xs) = All-cons Q (f x) (map f xs) (h x) (mapped_each Q f h xs)

-- the k-th signal is there
there : (signals : List SignalInfo) (first : ℕ) (part : List SignalInfo) (k : ℕ) → Stands signals first part → k < length part → first + k < length signals
there signals first part k s l = let h : first + length part ≤ length signals = stands_below signals first part s in omega (arith, h, l)

or_true : (a b : Bool) → b ≡ true → (a || b) ≡ true
or_true true b e = refl
or_true false b e = e

both_true : (a b : Bool) → a ≡ true → b ≡ true → (a && b) ≡ true
both_true a b p q = rw (p, q) refl

-- no node
abbrev pub Plain : ℕ → SignalInfo → Type 0
Plain line i = (i.line ≡ line) × (is_node i.role ≡ false)

module _ (signals : List SignalInfo) where
  -- statements one behind another

  pub declares_none : Declares signals []
  declares_none = record { right = All-nil (IsRight signals); nodes = refl }

  pub declares_both : (xs ys : List Ground) → Declares signals xs → Declares signals ys → Declares signals (xs ++ ys)
  declares_both xs ys h k = record {
    right = subst (All (IsRight signals)) (sym (declares_append xs ys)) (All-append (IsRight signals) (declares (body_of xs)) (declares (body_of ys)) h.right k.right);
    nodes = nodes_append signals xs ys h.nodes k.nodes;
  }

  declares_set : (line : ℕ) (s : Signal) (given : Option GroundExpr) → Declares signals (out.Set line s given ∷ [])
  declares_set line s given = record {
    right = subst (λ (b : Body). All (IsRight signals) (declares b)) (sym (of_set line s given [])) (All-nil (IsRight signals));
    nodes = ap (nodes_follow signals) (of_set line s given []);
  }

  pub declares_when : (line : ℕ) (c : GroundExpr) (taken other : List Ground) → Declares signals taken → Declares signals other → Declares signals (out.When line c taken other ∷ [])
  declares_when line c taken other h k = record {
    right = subst (λ (b : Body). All (IsRight signals) (declares b)) (sym (of_when line c taken other []))
        (All-append (IsRight signals) (declares (body_of taken)) (declares (body_of other) ++ []) h.right
        (All-append (IsRight signals) (declares (body_of other)) [] k.right (All-nil (IsRight signals))));
    nodes = ap (nodes_follow signals) (of_when line c taken other [])
        ∙ both_true (nodes_follow signals (body_of taken)) (nodes_follow signals (body_of other) && true) h.nodes
        (both_true (nodes_follow signals (body_of other)) true k.nodes refl);
  }

  declares_one : (k line : ℕ) (reset : Option GroundReset) → k < length signals → Plain line (info signals k)
      → (is_some reset ≡ true → is_register (info signals k).role ≡ true) → Declares signals (declare k line reset ∷ [])
  declares_one k line reset l p h = record {
    right = subst (λ (b : Body). All (IsRight signals) (declares b)) (sym (of_declare (signal k) line reset []))
        (All-cons (IsRight signals) _ [] (record { below = l; line = sym p.0; reset = h }) (All-nil (IsRight signals)));
    nodes = ap (nodes_follow signals) (of_declare (signal k) line reset []) ∙ plain (is_node (info signals k).role) p.1;
  } where
    plain : (b : Bool) → b ≡ false → ((not b || false) && true) ≡ true
    plain true e = cc
    plain false e = refl

  declares_node : (line next : ℕ) (v : Value) (k : ℕ) → next + k < length signals → (info signals (next + k)).line ≡ line → Declares signals (node_part line next v k)
  declares_node line next v k l p = record {
    right = subst (λ (b : Body). All (IsRight signals) (declares b)) (sym whole)
        (All-cons (IsRight signals) _ [] (record { below = l; line = sym p; reset = λ e. cc }) (All-nil (IsRight signals)));
    nodes = ap (nodes_follow signals) whole
        ∙ both_true (not (is_node (info signals (next + k)).role) || nat_eq (next + k) (next + k)) true
        (or_true (not (is_node (info signals (next + k)).role)) (nat_eq (next + k) (next + k)) (eq-eqb (next + k) (next + k) refl)) refl;
  } where
    whole : body_of (node_part line next v k) ≡ body.declare (next + k) line None (body.set line (next + k) (Some (v.part k)) done)
    whole = of_declare (signal (next + k)) line None (out.Set line (signal (next + k)) (Some (v.part k)) ∷ [])
        ∙ ap (body.declare (next + k) line None) (of_set line (signal (next + k)) (Some (v.part k)) [])

  -- what drives a ground part declares nothing
  pub declares_drive : (known : List Bound) (e : Expr) (line k : ℕ) (given : Option GroundExpr) → Declares signals ((value known e).drive line k given)
  declares_drive = each_drive (λ n gs. Declares signals gs) (λ n. declares_none) (λ n. declares_both) declares_set
      (λ n line c gs h. declares_when line c gs [] h declares_none)

  -- ports

  -- the signals of ground ports
  abbrev Lined : List SignalInfo → List PortLeaf → Type 0
  Lined [] [] = Unit {0}
  Lined [] (p ∷ ps) = ⊥
  Lined (i ∷ is) [] = ⊥
  Lined (i ∷ is) (p ∷ ps) = Plain p.line i × Lined is ps

  kept_declares : (b : Bool) (number line : ℕ) (gs : List Ground) → Declares signals (declare number line None ∷ []) → Declares signals gs
      → Declares signals (kept b (declare number line None) gs)
  kept_declares true number line gs h k = declares_both (declare number line None ∷ []) gs h k
  kept_declares false number line gs h k = k

  lined_declares : (test : Bool → Bool) (number : ℕ) (is : List SignalInfo) (ps : List PortLeaf) → Lined is ps → Stands signals number is
      → Declares signals (declare_ports test number ps)
  lined_declares test number [] [] h s = declares_none
  lined_declares test number [] (p ∷ ps) h s = absurd h
  lined_declares test number (i ∷ is) [] h s = absurd h
  lined_declares test number (i ∷ is) (p ∷ ps) h s =
      kept_declares (test p.input) number p.line (declare_ports test (suc number) ps)
      (declares_one number p.line None (subst (λ n. n < length signals) (plain number) (there signals number (i ∷ is) 0 s (omega arith)))
      (subst (Plain p.line) (sym (ap (info signals) (sym (plain number)) ∙ stands_info signals number (i ∷ is) 0 s (omega arith))) h.0) (λ e. cc))
      (lined_declares test (suc number) is ps h.1 (subst (λ n. Stands signals n is) (next number) (stands_back signals number (i ∷ []) is s)))
    where
      plain : (n : ℕ) → n + 0 ≡ n
      plain n = omega arith

      next : (n : ℕ) → n + 1 ≡ suc n
      next n = omega arith

  plain_port : (top input : Bool) → is_node (port_role top input) ≡ false
  plain_port true true = refl
  plain_port true false = refl
  plain_port false input = refl

  lined_leaves : (o : Opened) (p : Port) (ls : List Leaf) (is : List SignalInfo) (ps : List PortLeaf) → Lined is ps
      → Lined (map (port_info o p) ls ++ is) (map (λ l. record { line = p.line; input = same p.output l.against }) ls ++ ps)
  lined_leaves o p [] is ps h = h
  lined_leaves o p (l ∷ ls) is ps h = ((refl, plain_port o.top (same p.output l.against)), lined_leaves o p ls is ps h)

  lined_ports : (o : Opened) (ports : List Port) → Lined (port_infos o ports) (port_leaves ports)
  lined_ports o [] = tt
  lined_ports o (p ∷ ps) = lined_leaves o p (leaves (shape_of p.ty)) (port_infos o ps) (port_leaves ps) (lined_ports o ps)

  pub declares_ports : (o : Opened) (ports : List Port) (test : Bool → Bool) → Stands signals o.first (port_infos o ports)
      → Declares signals (declare_ports test o.first (port_leaves ports))
  declares_ports o ports test s = lined_declares test o.first (port_infos o ports) (port_leaves ports) (lined_ports o ports) s

  -- declarations in a row

  pub row_declares : (line next n : ℕ) (is : List SignalInfo) → length is ≡ n → Stands signals next is → All (Plain line) is → Declares signals (declare_all line next n)
  row_declares line next n is e s a =
      each_mapped (Declares signals) declares_none declares_both (λ k. declare k line None) next n
      (λ i l. declares_one (next + i) line None (there signals next is i s (omega (arith, l, e))) (stands_each (Plain line) signals next is s a i (omega (arith, l, e))) (λ h. cc))

  pub nodes_declare : (line next n : ℕ) (v : Value) (is : List SignalInfo) → length is ≡ n → Stands signals next is → All (λ i. i.line ≡ line) is
      → Declares signals (flat_map (node_part line next v) (range_with_len 0 n))
  nodes_declare line next n v is e s a =
      each_joined_first (Declares signals) declares_none declares_both (node_part line next v) n
      (λ i l. declares_node line next v i (there signals next is i s (omega (arith, l, e))) (stands_each (λ i. i.line ≡ line) signals next is s a i (omega (arith, l, e))))

  pub registers_declare : (line next n : ℕ) (known : List Bound) (t : Shape) (reset : Option ResetPair) (is : List SignalInfo) → length is ≡ n → Stands signals next is
      → All (λ i. (i.line ≡ line) × (i.role ≡ role.Reg)) is → Declares signals (map (reg_part line next known t reset) (range_with_len 0 n))
  registers_declare line next n known t reset is e s a =
      each_mapped_first (Declares signals) declares_none declares_both (reg_part line next known t reset) n
      (λ i l. let q = stands_each (λ i. (i.line ≡ line) × (i.role ≡ role.Reg)) signals next is s a i (omega (arith, l, e)) in
      declares_one (next + i) line _ (there signals next is i s (omega (arith, l, e))) (q.0, ap is_node q.1) (λ h. ap is_register q.1))
