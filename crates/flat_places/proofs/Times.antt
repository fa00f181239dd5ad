-- Each signal is declared once: how often a signal is declared in a list of statements.
use Rattle.std.proofs.Common.{◌≡◌, ◌⊎◌, inl, inr, ◌∙◌, ◌+◌, ◌<◌, ◌≤◌, sym, ap, ap₂, subst, ℕ, zero, suc, Bool, true, false, if◌then◌else◌, Option, Some, None, List, [], ◌∷◌, ◌++◌, refl, map, flat_map, arith, length, length-append, nat_eq}
use Rattle.std.specs.List.{All, range_with_len}
use Rattle.std.proofs.lemmas.List.Elements.{All-nil, All-cons, All-head, All-tail}
use Rattle.std.proofs.lemmas.Bool.{eq-eqb, eqb-true, cases_lt}
use Rattle.fir_ast.specs.declared.tree.Expr.{Expr}
use Rattle.fir_ast.specs.declared.tree.Module.{Module}
use Rattle.net_core.specs.declared.tree.Role.TheVariants as role
use Rattle.net_core.specs.declared.tree.SignalInfo.{SignalInfo}
use Rattle.net_core.specs.declared.tree.GroundExpr.{GroundExpr}
use Rattle.net_core.specs.declared.tree.GroundReset.{GroundReset}
use Rattle.net_core.specs.declared.tree.Ground.{Ground}
use Rattle.net_core.specs.declared.tree.Ground.TheVariants as out
use Rattle.net_core.specs.Body.{Body as GroundBody, body_of as ground_body_of}
use Rattle.net_core.specs.Formed.{Declared, declares, lines_of}
use Rattle.net_core.proofs.Trees.{of_declare, of_set, of_when}
use Rattle.fir_check.specs.Names.{kept}
use Rattle.flat_places.proofs.Flows.{Free, Fixed}
use Rattle.fir_flat.specs.Shapes.{Shape, ports_shape, size, Leaf, leaves, partners}
use Rattle.fir_flat.specs.Bodies.{Body, done, wire, node, reg, inst, connect, invalid, when, body_of}
use Rattle.fir_flat.specs.Values.{Bound, bound, Value, value, signal}
use Rattle.fir_flat.specs.Modules.{module_at, place_of, ports_known, instance, signals_in, taken_up}
use Rattle.fir_flat.specs.Elaboration.{Entry, made, Opened, opened_at, unwritten, behind_ports, entries, PortLeaf, port_leaves, declare, declare_ports, declared_inside, declare_all, node_part, reg_part, connect_parts, invalid_parts, grounds, list_of, instances, instances_of}
use Rattle.fir_flat.proofs.Totals.{total, total-append}
use Rattle.fir_flat.proofs.BodyCounts.{instances-append, ports_open_nothing}
use Rattle.fir_flat.proofs.TreeCounts.{target}
use Rattle.fir_flat.proofs.Unnumbered.{Alike, more-alike, type-alike}
use Rattle.fir_flat.proofs.WritingFacts.{taken-alike}
use Rattle.net_core.proofs.FormedFacts.{All-left, All-right}
use Rattle.flat_places.specs.Places.{leaf_info}
use Rattle.flat_places.proofs.Blocks.{declares_append, lines_append}
use Rattle.flat_places.proofs.Infos.{AreRanked, list_opened, targets_below}
use Rattle.flat_places.proofs.Placed.{instances_leaves, leaves_of_ports, own_length}
use Rattle.flat_places.proofs.Pieces.{each_connect, each_invalid, each_drive}

-- whether x is the number, and whether it is one of n numbers from one on

abbrev pub bit : Bool → ℕ
bit b = if b then 1 else 0

abbrev pub hit : ℕ → ℕ → ℕ
hit x k = bit (nat_eq x k)

abbrev pub among : ℕ → ℕ → ℕ → ℕ
among first zero x = 0
among first (suc n) x = hit x first + among (suc first) n x

among_append : (first m n x : ℕ) → among first (m + n) x ≡ among first m x + among (first + m) n x
among_append first zero n x =
    let e : among first n x ≡ among (first + 0) n x = ap (λ a. among a n x) (plain first) in
    let f : among first (0 + n) x ≡ among first n x = ap (λ m. among first m x) (less n) in
    omega (arith, e, f)
  where
    plain : (a : ℕ) → a ≡ a + 0
    plain a = omega arith

    less : (a : ℕ) → 0 + a ≡ a
    less a = omega arith
among_append first (suc m) n x =
    let t : among (suc first) (m + n) x ≡ among (suc first) m x + among (suc first + m) n x = among_append (suc first) m n x in
    let e : among (suc first + m) n x ≡ among (first + suc m) n x = ap (λ a. among a n x) (shifted first m) in
    let f : among first (suc m + n) x ≡ among first (suc (m + n)) x = ap (λ k. among first k x) (longer m n) in
    omega (arith, t, e, f)
  where
    shifted : (a m : ℕ) → suc a + m ≡ a + suc m
    shifted a m = omega arith

    longer : (a b : ℕ) → suc a + b ≡ suc (a + b)
    longer a b = omega arith

among_past : (first n x : ℕ) → x < first → among first n x ≡ 0
among_past first zero x h = refl
among_past first (suc n) x h =
    let t : among (suc first) n x ≡ 0 = among_past (suc first) n x (omega (arith, h)) in
    let e : hit x first ≡ 0 = missed (nat_eq x first) (eqb-true x first) in
    omega (arith, t, e)
  where
    missed : (b : Bool) → (b ≡ true → x ≡ first) → bit b ≡ 0
    missed true f = let e : x ≡ first = f refl in absurd (omega (arith, e, h))
    missed false f = refl

pub among_once : (first n x : ℕ) → first ≤ x → x < first + n → among first n x ≡ 1
among_once first zero x h l = absurd (omega (arith, h, l))
among_once first (suc n) x h l = step (nat_eq x first) (eqb-true x first) (eq-eqb x first) (λ k. among_once (suc first) n x k (omega (arith, l))) where
  step : (b : Bool) → (b ≡ true → x ≡ first) → (x ≡ first → b ≡ true) → (suc first ≤ x → among (suc first) n x ≡ 1) → bit b + among (suc first) n x ≡ 1
  step true f g k = let e : x ≡ first = f refl in let t : among (suc first) n x ≡ 0 = among_past (suc first) n x (omega (arith, e)) in omega (arith, t)
  step false f g k = let t : among (suc first) n x ≡ 1 = k (apart (λ e. false_true (g e))) in omega (arith, t) where
    false_true : false ≡ true → ⊥
    false_true e = cc

    later : (first < x) ⊎ (x ≤ first) → (x ≡ first → ⊥) → suc first ≤ x
    later (inl a) d = omega (arith, a)
    later (inr a) d = absurd (d (omega (arith, a, h)))

    apart : (x ≡ first → ⊥) → suc first ≤ x
    apart d = later (cases_lt first x) d

-- how often x is declared

module _ (x : ℕ) where
  abbrev pub times : List Ground → ℕ
  times gs = length (lines_of x (declares (ground_body_of gs)))

  pub times_append : (gs hs : List Ground) → times (gs ++ hs) ≡ times gs + times hs
  times_append gs hs =
      ap (λ (ds : List Declared). length (lines_of x ds)) (declares_append gs hs)
      ∙ ap length (lines_append x (declares (ground_body_of gs)) (declares (ground_body_of hs)))
      ∙ length-append (lines_of x (declares (ground_body_of gs))) (lines_of x (declares (ground_body_of hs)))

  one_line : (b : Bool) (line : ℕ) → length (if b then line ∷ [] else []) ≡ bit b
  one_line true line = refl
  one_line false line = refl

  times_declare : (k line : ℕ) (reset : Option GroundReset) → times (declare k line reset ∷ []) ≡ hit x k
  times_declare k line reset =
      ap (λ (b : GroundBody). length (lines_of x (declares b))) (of_declare (signal k) line reset []) ∙ one_line (nat_eq x k) line

  times_node : (line next : ℕ) (v : Value) (k : ℕ) → times (node_part line next v k) ≡ hit x (next + k)
  times_node line next v k =
      ap (λ (b : GroundBody). length (lines_of x (declares b))) (of_declare (signal (next + k)) line None (out.Set line (signal (next + k)) (Some (v.part k)) ∷ []))
      ∙ ap (λ (ds : List Declared). length (lines_of x (record { signal = next + k; line = line; reset = None } ∷ ds))) (ap declares (of_set line (signal (next + k)) (Some (v.part k)) []))
      ∙ one_line (nat_eq x (next + k)) line

  -- declarations in a row
  times_joined : (f : ℕ → List Ground) (first : ℕ) → ((k : ℕ) → times (f k) ≡ hit x (first + k)) → (j n : ℕ) → times (flat_map f (range_with_len j n)) ≡ among (first + j) n x
  times_joined f first h j zero = refl
  times_joined f first h j (suc n) =
      let a : times (f j ++ flat_map f (range_with_len (j + 1) n)) ≡ times (f j) + times (flat_map f (range_with_len (j + 1) n)) = times_append (f j) (flat_map f (range_with_len (j + 1) n)) in
      let t : times (flat_map f (range_with_len (j + 1) n)) ≡ among (first + (j + 1)) n x = times_joined f first h (j + 1) n in
      let e : among (first + (j + 1)) n x ≡ among (suc (first + j)) n x = ap (λ m. among m n x) (shifted first j) in
      let d : times (f j) ≡ hit x (first + j) = h j in
      omega (arith, a, t, e, d)
    where
      shifted : (a m : ℕ) → a + (m + 1) ≡ suc (a + m)
      shifted a m = omega arith

  times_mapped : (f : ℕ → Ground) (first : ℕ) → ((k : ℕ) → times (f k ∷ []) ≡ hit x (first + k)) → (j n : ℕ) → times (map f (range_with_len j n)) ≡ among (first + j) n x
  times_mapped f first h j zero = refl
  times_mapped f first h j (suc n) =
      let a : times ((f j ∷ []) ++ map f (range_with_len (j + 1) n)) ≡ times (f j ∷ []) + times (map f (range_with_len (j + 1) n)) = times_append (f j ∷ []) (map f (range_with_len (j + 1) n)) in
      let t : times (map f (range_with_len (j + 1) n)) ≡ among (first + (j + 1)) n x = times_mapped f first h (j + 1) n in
      let e : among (first + (j + 1)) n x ≡ among (suc (first + j)) n x = ap (λ m. among m n x) (shifted first j) in
      let d : times (f j ∷ []) ≡ hit x (first + j) = h j in
      omega (arith, a, t, e, d)
    where
      shifted : (a m : ℕ) → a + (m + 1) ≡ suc (a + m)
      shifted a m = omega arith

  times_row : (line next n : ℕ) → times (declare_all line next n) ≡ among next n x
  times_row line next n =
      times_mapped (λ k. declare k line None) 0 (λ k. times_declare k line None ∙ ap (hit x) (more k)) next n ∙ ap (λ a. among a n x) (sym (more next))
    where
      more : (a : ℕ) → a ≡ 0 + a
      more a = omega arith

  -- what drives declares nothing

  abbrev Never : List Ground → Type 0
  Never gs = times gs ≡ 0

  never_both : (gs hs : List Ground) → Never gs → Never hs → Never (gs ++ hs)
  never_both gs hs g h = let a : times (gs ++ hs) ≡ times gs + times hs = times_append gs hs in omega (arith, a, g, h)

  times_when : (line : ℕ) (c : GroundExpr) (taken other : List Ground) → times (out.When line c taken other ∷ []) ≡ times taken + times other
  times_when line c taken other =
      let ds : List Declared = declares (ground_body_of taken) in
      let es : List Declared = declares (ground_body_of other) in
      let a : length (lines_of x (ds ++ (es ++ []))) ≡ length (lines_of x ds) + length (lines_of x (es ++ []))
      = ap length (lines_append x ds (es ++ [])) ∙ length-append (lines_of x ds) (lines_of x (es ++ [])) in
      let b : length (lines_of x (es ++ [])) ≡ length (lines_of x es) + 0 = ap length (lines_append x es []) ∙ length-append (lines_of x es) [] in
      ap (λ (t : GroundBody). length (lines_of x (declares t))) (of_when line c taken other []) ∙ omega (arith, a, b)

  never_drive : (known : List Bound) (e : Expr) (line k : ℕ) (given : Option GroundExpr) → Never ((value known e).drive line k given)
  never_drive = each_drive (λ n gs. Never gs) (λ n. refl) (λ n. never_both)
      (λ line s given. ap (λ (t : GroundBody). length (lines_of x (declares t))) (of_set line s given []))
      (λ n line c gs h. let e : times (out.When line c gs [] ∷ []) ≡ times gs + 0 = times_when line c gs [] in omega (arith, e, h))

  -- ports: each is declared inside or outside

  times_kept : (b : Bool) (number line : ℕ) (gs : List Ground) → times (kept b (declare number line None) gs) ≡ (if b then hit x number else 0) + times gs
  times_kept true number line gs =
      let a : times ((declare number line None ∷ []) ++ gs) ≡ times (declare number line None ∷ []) + times gs = times_append (declare number line None ∷ []) gs in
      let d : times (declare number line None ∷ []) ≡ hit x number = times_declare number line None in
      omega (arith, a, d)
  times_kept false number line gs = omega arith

  times_ports : (test other : Bool → Bool) → ((b : Bool) (n : ℕ) → (if test b then n else 0) + (if other b then n else 0) ≡ n) → (number : ℕ) (ps : List PortLeaf)
      → times (declare_ports test number ps) + times (declare_ports other number ps) ≡ among number (length ps) x
  times_ports test other h number [] = refl
  times_ports test other h number (p ∷ ps) =
      let a = times_kept (test p.input) number p.line (declare_ports test (suc number) ps) in
      let b = times_kept (other p.input) number p.line (declare_ports other (suc number) ps) in
      let t : times (declare_ports test (suc number) ps) + times (declare_ports other (suc number) ps) ≡ among (suc number) (length ps) x = times_ports test other h (suc number) ps in
      let e : (if test p.input then hit x number else 0) + (if other p.input then hit x number else 0) ≡ hit x number = h p.input (hit x number) in
      omega (arith, a, b, t, e)

-- the ports that an instance's parent declares
abbrev pub declared_outside : Bool → Bool → Bool
declared_outside true input = false
declared_outside false input = input

once : (top b : Bool) (n : ℕ) → (if declared_inside top b then n else 0) + (if declared_outside top b then n else 0) ≡ n
once true true n = omega arith
once true false n = omega arith
once false true n = omega arith
once false false n = omega arith

module _ (modules : List Module) (rank : ℕ → ℕ) (r : AreRanked rank modules) (x : ℕ) where
  abbrev pub outside : Opened → ℕ
  outside o = times x (declare_ports (declared_outside o.top) o.first (port_leaves (module_at modules o.target).ports))

  -- all signals of an instance are declared once, in its list of statements or, if they are its inputs, in its parent's
  abbrev pub Exact : Opened → Type 0
  Exact o = times x (list_of modules o) + outside o ≡ among o.first (signals_in modules o.target) x

  abbrev inner_times : List Opened → ℕ
  inner_times = total (λ o. times x (list_of modules o))

  times_lists : (os : List Opened) → times x (flat_map (list_of modules) os) ≡ inner_times os
  times_lists [] = refl
  times_lists (o ∷ os) =
      let a : times x (list_of modules o ++ flat_map (list_of modules) os) ≡ times x (list_of modules o) + times x (flat_map (list_of modules) os)
      = times_append x (list_of modules o) (flat_map (list_of modules) os) in
      let t : times x (flat_map (list_of modules) os) ≡ inner_times os = times_lists os in
      omega (arith, a, t)

  -- declarations in front of the others
  in_front : (gs rest : List Ground) (next n m t : ℕ) → times x gs ≡ among next n x → times x rest + t ≡ among (next + n) m x → times x (gs ++ rest) + t ≡ among next (n + m) x
  in_front gs rest next n m t g h =
      let a : times x (gs ++ rest) ≡ times x gs + times x rest = times_append x gs rest in
      let b : among next (n + m) x ≡ among next n x + among (next + n) m x = among_append next n m x in
      omega (arith, a, b, g, h)

  -- nothing in front of the others
  none_in_front : (gs rest : List Ground) (n t : ℕ) → times x gs ≡ 0 → times x rest + t ≡ n → times x (gs ++ rest) + t ≡ n
  none_in_front gs rest n t g h = let a : times x (gs ++ rest) ≡ times x gs + times x rest = times_append x gs rest in omega (arith, a, g, h)

  past_leaves : (f : Leaf → SignalInfo) (t : Shape) (es : List Entry) (n m : ℕ) → n + inner_times (instances es) ≡ m
      → n + inner_times (instances (map (λ l. made (f l)) (leaves t) ++ es)) ≡ m
  past_leaves f t es n m e = ap (λ os. n + inner_times os) (instances_leaves f (leaves t) es) ∙ e

  exact_rest : (f : Leaf → SignalInfo) (t : Shape) (es : List Entry) → All Exact (instances (map (λ l. made (f l)) (leaves t) ++ es)) → All Exact (instances es)
  exact_rest f t es a = subst (All Exact) (instances_leaves f (leaves t) es) a

  pub body_times : (prefix : List ℕ) (k l : List Bound) → Alike k l → (next : ℕ) (body : Body) → All Exact (instances (entries modules prefix k next body))
      → times x (grounds modules k next body) + inner_times (instances (entries modules prefix k next body)) ≡ among next (taken_up (signals_in modules) modules l body) x
  body_times prefix k l a next done h = refl
  body_times prefix k l a next (wire line name t rest) h =
      past_leaves (leaf_info (prefix ++ name) role.Inner line) t _ _ _
      (in_front (declare_all line next (size t)) _ next (size t) _ _ (times_row x line next (size t))
      (body_times prefix (k ++ bound name t Free next ∷ []) (l ++ bound name t Free 0 ∷ []) (more-alike k l (bound name t Free next) (bound name t Free 0) a refl)
      (next + size t) rest (exact_rest (leaf_info (prefix ++ name) role.Inner line) t _ h)))
  body_times prefix k l a next (node line name e rest) h =
      past_leaves (λ x. leaf_info (prefix ++ name) role.Node line (unwritten x)) (value k e).ty _ _ _
      (in_front (flat_map (node_part line next (value k e)) (range_with_len 0 (size (value k e).ty))) _ next (size (value k e).ty) _ _
      (times_joined x (node_part line next (value k e)) next (times_node x line next (value k e)) 0 (size (value k e).ty) ∙ ap (λ m. among m (size (value k e).ty) x) (plain next))
      (body_times prefix (k ++ bound name (value k e).ty Fixed next ∷ []) (l ++ bound name (value l e).ty Fixed 0 ∷ [])
      (more-alike k l (bound name (value k e).ty Fixed next) (bound name (value l e).ty Fixed 0) a (ap (λ (t : Shape). bound name t Fixed 0) (type-alike k l a e)))
      (next + size (value k e).ty) rest (exact_rest (λ x. leaf_info (prefix ++ name) role.Node line (unwritten x)) (value k e).ty _ h)))
      ∙ ap (λ (t : Shape). among next (size t + taken_up (signals_in modules) modules (l ++ bound name (value l e).ty Fixed 0 ∷ []) rest) x) (type-alike k l a e)
    where
      plain : (m : ℕ) → m + 0 ≡ m
      plain m = omega arith
  body_times prefix k l a next (reg line name t reset rest) h =
      past_leaves (leaf_info (prefix ++ name) role.Reg line) t _ _ _
      (in_front (map (reg_part line next (k ++ bound name t Free next ∷ []) t reset) (range_with_len 0 (size t))) _ next (size t) _ _
      (times_mapped x (reg_part line next (k ++ bound name t Free next ∷ []) t reset) next (λ j. times_declare x (next + j) line _) 0 (size t) ∙ ap (λ m. among m (size t) x) (plain next))
      (body_times prefix (k ++ bound name t Free next ∷ []) (l ++ bound name t Free 0 ∷ []) (more-alike k l (bound name t Free next) (bound name t Free 0) a refl)
      (next + size t) rest (exact_rest (leaf_info (prefix ++ name) role.Reg line) t _ h)))
    where
      plain : (m : ℕ) → m + 0 ≡ m
      plain m = omega arith
  body_times prefix k l a next (inst line name home rest) h =
      let o : Opened = opened_at name (place_of modules home) next prefix in
      let es : List Entry = entries modules prefix (k ++ instance modules name home next ∷ []) (next + signals_in modules (place_of modules home)) rest in
      with_instance (declare_ports (λ input. input) next (port_leaves (module_at modules (place_of modules home)).ports)) _ next (signals_in modules (place_of modules home)) _
      (times x (list_of modules o)) (inner_times (instances es)) (All-head Exact o (instances es) h)
      (body_times prefix (k ++ instance modules name home next ∷ []) (l ++ instance modules name home 0 ∷ [])
      (more-alike k l (instance modules name home next) (instance modules name home 0) a refl) (next + signals_in modules (place_of modules home)) rest (All-tail Exact o (instances es) h))
    where
      with_instance : (gs rest : List Ground) (next n m i t : ℕ) → i + times x gs ≡ among next n x → times x rest + t ≡ among (next + n) m x → times x (gs ++ rest) + (i + t) ≡ among next (n + m) x
      with_instance gs rest next n m i t g h =
          let a : times x (gs ++ rest) ≡ times x gs + times x rest = times_append x gs rest in
          let b : among next (n + m) x ≡ among next n x + among (next + n) m x = among_append next n m x in
          omega (arith, a, b, g, h)
  body_times prefix k l a next (connect line sink e rest) h =
      none_in_front (connect_parts line (value k sink) (value k e) 0 (leaves (value k sink).ty) (partners (value k sink).ty (value k e).ty)) (grounds modules k next rest) _ _
      (each_connect (λ gs. times x gs ≡ 0) refl (never_both x) line (value k sink) (value k e) (λ j given. never_drive x k sink line j given) (λ j given. never_drive x k e line j given) 0
      (leaves (value k sink).ty) (partners (value k sink).ty (value k e).ty))
      (body_times prefix k l a next rest h)
  body_times prefix k l a next (invalid line sink rest) h =
      none_in_front (invalid_parts line (value k sink) 0 (leaves (value k sink).ty)) (grounds modules k next rest) _ _
      (each_invalid (λ gs. times x gs ≡ 0) refl (never_both x) line (value k sink) (λ j given. never_drive x k sink line j given) 0 (leaves (value k sink).ty))
      (body_times prefix k l a next rest h)
  body_times prefix k l a next (when line cond taken other rest) h =
      let second : ℕ = next + taken_up (signals_in modules) modules k taken in
      let third : ℕ = next + taken_up (signals_in modules) modules k taken + taken_up (signals_in modules) modules k other in
      let n : ℕ = taken_up (signals_in modules) modules k taken in
      let m : ℕ = taken_up (signals_in modules) modules k other in
      let es : List Entry = entries modules prefix k next taken in
      let fs : List Entry = entries modules prefix k second other in
      let gs : List Entry = entries modules prefix k third rest in
      let p : instances (es ++ (fs ++ gs)) ≡ instances es ++ (instances fs ++ instances gs)
      = instances-append es (fs ++ gs) ∙ ap (λ os. instances es ++ os) (instances-append fs gs) in
      let all : All Exact (instances es ++ (instances fs ++ instances gs)) = subst (All Exact) p h in
      let q : All Exact (instances fs ++ instances gs) = All-right Exact (instances es) (instances fs ++ instances gs) all in
      let u : times x (grounds modules k next taken) + inner_times (instances es) ≡ among next (taken_up (signals_in modules) modules l taken) x
      = body_times prefix k l a next taken (All-left Exact (instances es) (instances fs ++ instances gs) all) in
      let v : times x (grounds modules k second other) + inner_times (instances fs) ≡ among second (taken_up (signals_in modules) modules l other) x
      = body_times prefix k l a second other (All-left Exact (instances fs) (instances gs) q) in
      let w : times x (grounds modules k third rest) + inner_times (instances gs) ≡ among third (taken_up (signals_in modules) modules l rest) x
      = body_times prefix k l a third rest (All-right Exact (instances fs) (instances gs) q) in
      let t : inner_times (instances (es ++ (fs ++ gs))) ≡ inner_times (instances es) + (inner_times (instances fs) + inner_times (instances gs))
      = ap inner_times p ∙ total-append (λ o. times x (list_of modules o)) (instances es) (instances fs ++ instances gs)
      ∙ ap (λ z. inner_times (instances es) + z) (total-append (λ o. times x (list_of modules o)) (instances fs) (instances gs)) in
      let whole : times x ((out.When line ((value k cond).part 0) (grounds modules k next taken) (grounds modules k second other) ∷ []) ++ grounds modules k third rest)
      ≡ times x (out.When line ((value k cond).part 0) (grounds modules k next taken) (grounds modules k second other) ∷ []) + times x (grounds modules k third rest)
      = times_append x (out.When line ((value k cond).part 0) (grounds modules k next taken) (grounds modules k second other) ∷ []) (grounds modules k third rest) in
      let one = times_when x line ((value k cond).part 0) (grounds modules k next taken) (grounds modules k second other) in
      let e : n ≡ taken_up (signals_in modules) modules l taken = taken-alike (signals_in modules) modules k l a taken in
      let f : m ≡ taken_up (signals_in modules) modules l other = taken-alike (signals_in modules) modules k l a other in
      three next _ _ _ _ _ _ _ _ _ _ _ _ _ _ e f u v w t whole one
    where
      three : (next n m n' m' o' c d g i j t bb hh oo : ℕ) → n ≡ n' → m ≡ m' → c + i ≡ among next n' x → d + j ≡ among (next + n) m' x
          → g + t ≡ among (next + n + m) o' x → bb ≡ i + (j + t) → hh ≡ oo + g → oo ≡ c + d → hh + bb ≡ among next (n' + (m' + o')) x
      three next n m n' m' o' c d g i j t bb hh oo e f u v w b h o =
          let p : among next (n' + (m' + o')) x ≡ among next n' x + among (next + n') (m' + o') x = among_append next n' (m' + o') x in
          let q : among (next + n') (m' + o') x ≡ among (next + n') m' x + among (next + n' + m') o' x = among_append (next + n') m' o' x in
          let y : among (next + n) m' x ≡ among (next + n') m' x = ap (λ z. among (next + z) m' x) e in
          let z : among (next + n + m) o' x ≡ among (next + n' + m') o' x = ap₂ (λ a b. among (next + a + b) o' x) e f in
          omega (arith, p, q, y, z, u, v, w, b, h, o)

  -- an instance whose instances are exact
  exact_own : (o : Opened) → All Exact (instances_of modules o) → Exact o
  exact_own o h =
      let m : Module = module_at modules o.target in
      let es : List Entry = entries modules o.prefix (ports_known o.first m.ports) (behind_ports o m.ports) (body_of m.body) in
      let ds : List Ground = declare_ports (declared_inside o.top) o.first (port_leaves m.ports) in
      let gs : List Ground = grounds modules (ports_known o.first m.ports) (behind_ports o m.ports) (body_of m.body) in
      let is : instances_of modules o ≡ instances es = ports_open_nothing o m.ports es in
      let whole : times x (list_of modules o) ≡ times x ((ds ++ gs) ++ flat_map (list_of modules) (instances_of modules o)) = ap (times x) (list_opened modules rank r o) in
      let a : times x ((ds ++ gs) ++ flat_map (list_of modules) (instances_of modules o)) ≡ times x (ds ++ gs) + times x (flat_map (list_of modules) (instances_of modules o))
      = times_append x (ds ++ gs) (flat_map (list_of modules) (instances_of modules o)) in
      let b : times x (ds ++ gs) ≡ times x ds + times x gs = times_append x ds gs in
      let c : times x (flat_map (list_of modules) (instances_of modules o)) ≡ inner_times (instances es) = times_lists (instances_of modules o) ∙ ap inner_times is in
      let d : times x ds + outside o ≡ among o.first (length (port_leaves m.ports)) x
      = times_ports x (declared_inside o.top) (declared_outside o.top) (once o.top) o.first (port_leaves m.ports) in
      let n : among o.first (length (port_leaves m.ports)) x ≡ among o.first (size (ports_shape m.ports)) x = ap (λ z. among o.first z x) (leaves_of_ports m.ports) in
      let t : times x gs + inner_times (instances es) ≡ among (behind_ports o m.ports) (taken_up (signals_in modules) modules (ports_known o.first m.ports) (body_of m.body)) x
      = body_times o.prefix (ports_known o.first m.ports) (ports_known o.first m.ports) refl (behind_ports o m.ports) (body_of m.body) (subst (All Exact) is h) in
      let p : among o.first (size (ports_shape m.ports) + taken_up (signals_in modules) modules (ports_known o.first m.ports) (body_of m.body)) x
      ≡ among o.first (size (ports_shape m.ports)) x + among (behind_ports o m.ports) (taken_up (signals_in modules) modules (ports_known o.first m.ports) (body_of m.body)) x
      = among_append o.first (size (ports_shape m.ports)) (taken_up (signals_in modules) modules (ports_known o.first m.ports) (body_of m.body)) x in
      let q : among o.first (signals_in modules o.target) x
      ≡ among o.first (size (ports_shape m.ports) + taken_up (signals_in modules) modules (ports_known o.first m.ports) (body_of m.body)) x
      = ap (λ z. among o.first z x) (own_length modules rank r o) in
      omega (arith, whole, a, b, c, d, n, t, p, q)

  exact_each : (n : ℕ) → ((o : Opened) → rank o.target < n → Exact o) → (os : List Opened) → All (λ t. rank t < n) (map target os) → All Exact os
  exact_each n h [] low = All-nil Exact
  exact_each n h (o ∷ os) low =
      All-cons Exact o os (h o (All-head (λ t. rank t < n) o.target (map target os) low)) (exact_each n h os (All-tail (λ t. rank t < n) o.target (map target os) low))

  exact_below : (n : ℕ) (o : Opened) → rank o.target < n → Exact o
  exact_below zero o low = absurd (omega arith)
  exact_below (suc n) o low =
      exact_own o (exact_each (rank o.target) (λ p l. exact_below n p (omega (arith, low, l))) (instances_of modules o) (targets_below modules rank r o))

  pub exact : (o : Opened) → Exact o
  exact o = exact_below (suc (rank o.target)) o (omega arith)

  none_outside : (number : ℕ) (ps : List PortLeaf) → times x (declare_ports (declared_outside true) number ps) ≡ 0
  none_outside number [] = refl
  none_outside number (p ∷ ps) = none_outside (suc number) ps

  -- the main module
  pub exact_top : (o : Opened) → o.top ≡ true → times x (list_of modules o) ≡ among o.first (signals_in modules o.target) x
  exact_top o e =
      let h : times x (list_of modules o) + outside o ≡ among o.first (signals_in modules o.target) x = exact o in
      let n : outside o ≡ 0 = ap (λ t. times x (declare_ports (declared_outside t) o.first (port_leaves (module_at modules o.target).ports))) e
      ∙ none_outside o.first (port_leaves (module_at modules o.target).ports) in
      omega (arith, h, n)
