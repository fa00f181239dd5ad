-- The elaboration of a circuit: each signal is declared once, and the ports come first.
use Rattle.std.proofs.Common.{◌≡◌, ◌∙◌, ◌+◌, ◌-◌, ◌<◌, ◌≤◌, sym, ap, ℕ, suc, Bool, true, false, if◌then◌else◌, Some, None, is_some, List, [], ◌∷◌, ◌++◌, refl, map, flat_map, arith, length, length-append, nat_eq, ⊎_elim, append_assoc, slice_get}
use Rattle.std.specs.List.{All, range_with_len}
use Rattle.std.proofs.lemmas.Bool.{cases_lt, eqb-true}
use Rattle.std.proofs.lemmas.List.{get_or_append_left, get_or-append_right}
use Rattle.std.proofs.lemmas.Option.{slice_get-get_or}
use Rattle.std.proofs.lemmas.List.FromFn.{length-range_with_len, get_or-range_with_len}
use Rattle.std.proofs.lemmas.List.Elements.{All-nil, All-cons, All-head, All-tail, All-get_or}
use Rattle.fir_ast.specs.declared.tree.Circuit.{Circuit}
use Rattle.fir_ast.specs.declared.tree.Module.{Module}
use Rattle.net_core.specs.declared.tree.SignalInfo.{SignalInfo}
use Rattle.net_core.specs.declared.tree.Ground.{Ground}
use Rattle.net_core.specs.Signals.{info, no_info, is_input, is_port, is_register}
use Rattle.net_core.specs.Body.{body_of as ground_body_of, whens}
use Rattle.net_core.specs.Formed.{Declared, declares, lines_of, first_declared}
use Rattle.net_core.proofs.Trees.{of_declare}
use Rattle.fir_flat.specs.Bodies.{body_of}
use Rattle.fir_flat.specs.Modules.{module_at, place_of, ports_known, signals_in}
use Rattle.fir_flat.specs.Elaboration.{Opened, PortLeaf, port_leaves, declare_ports, declared_inside, behind_ports, entries, grounds, list_of, instances_of, main_place, elab, ports, signals, parts, statement_parts}
use Rattle.fir_flat.specs.Flattening.{infos_in}
use Rattle.fir_flat.specs.Limits.{IsRanked, Fits}
use Rattle.flat_places.specs.Places.{port_infos}
use Rattle.flat_places.proofs.RightDeclared.{IsRight, Declares}
use Rattle.flat_places.specs.Laws.{SignalsDeclared, SignalsAreDeclared, WidthsAreNarrow, InputsHaveWidths, NestingStays}
use Rattle.flat_places.proofs.Spans.{stands_whole}
use Rattle.flat_places.proofs.Infos.{infos_length, list_opened}
use Rattle.flat_places.proofs.Placed.{infos_own, ports_length, leaves_of_ports}
use Rattle.flat_places.proofs.BodyDeclares.{list_declares}
use Rattle.flat_places.proofs.Times.{among_once, exact_top}
use Rattle.flat_places.proofs.Nesting.{list_below}
use Rattle.flat_places.proofs.Whens.{whens_parts}
use Rattle.flat_places.proofs.Roles.{NoPort, all_more, no_port_in_body, all_narrow, top_ports, all_given}

-- one line

lines_right : (signals : List SignalInfo) (x : ℕ) (ds : List Declared) → All (IsRight signals) ds → All (λ l. l ≡ (info signals x).line) (lines_of x ds)
lines_right signals x [] a = All-nil (λ l. l ≡ (info signals x).line)
lines_right signals x (d ∷ ds) a =
    step (nat_eq x d.signal) (eqb-true x d.signal) (lines_right signals x ds (All-tail (IsRight signals) d ds a))
  where
    step : (b : Bool) → (b ≡ true → x ≡ d.signal) → All (λ l. l ≡ (info signals x).line) (lines_of x ds)
        → All (λ l. l ≡ (info signals x).line) (if b then d.line ∷ lines_of x ds else lines_of x ds)
    step true f h =
        All-cons (λ l. l ≡ (info signals x).line) d.line (lines_of x ds)
        ((All-head (IsRight signals) d ds a).line ∙ ap (λ y. (info signals y).line) (sym (f refl))) h
    step false f h = h

one_item : (n : ℕ) (xs : List ℕ) → length xs ≡ 1 → All (λ x. x ≡ n) xs → xs ≡ n ∷ []
one_item n [] l a = absurd (omega (arith, l))
one_item n (x ∷ []) l a = ap (λ y. y ∷ []) (All-head (λ x. x ≡ n) x [] a)
one_item n (x ∷ (y ∷ ys)) l a = absurd (omega (arith, l))

-- the ports at the head of the body

first_ports : (number : ℕ) (ps : List PortLeaf) (gs : List Ground)
    → first_declared (ground_body_of (declare_ports (declared_inside true) number ps ++ gs)) ≡ range_with_len number (length ps) ++ first_declared (ground_body_of gs)
first_ports number [] gs = refl
first_ports number (p ∷ ps) gs =
    ap first_declared (of_declare (record { 0 = number }) p.line None (declare_ports (declared_inside true) (suc number) ps ++ gs))
    ∙ ap (λ (ns : List ℕ). number ∷ ns) (first_ports (suc number) ps gs ∙ ap (λ n. range_with_len n (length ps) ++ first_declared (ground_body_of gs)) (next number))
  where
    next : (n : ℕ) → suc n ≡ n + 1
    next n = omega arith

-- the main module's ports, and what stands behind them

module _ (rank : ℕ → ℕ) (c : Circuit) (r : IsRanked rank c) where
  abbrev main : Opened
  main = main_place c

  abbrev home : Module
  home = module_at c.modules (place_of c.modules c.name)

  abbrev all : List SignalInfo
  all = (elab c).signals

  abbrev behind : List SignalInfo
  behind = infos_in c.modules (entries c.modules [] (ports_known 0 home.ports) (behind_ports main home.ports) (body_of home.body))

  pub whole : all ≡ port_infos main home.ports ++ behind
  whole = infos_own c.modules rank r main

  pub is_a_port : (x : ℕ) → x < ports c → is_port (info all x).role ≡ true
  is_a_port x h =
      let l : length (port_infos main home.ports) ≡ ports c = ports_length main home.ports in
      let e : info all x ≡ info (port_infos main home.ports) x
      = ap (λ (is : List SignalInfo). info is x) whole ∙ get_or_append_left (port_infos main home.ports) behind no_info x (omega (arith, h, l)) in
      ap (λ (i : SignalInfo). is_port i.role) e
      ∙ All-get_or (λ i. is_port i.role ≡ true) (port_infos main home.ports) x no_info (omega (arith, h, l)) (top_ports c.modules rank r main refl home.ports)

  pub is_no_port : (x : ℕ) → x < length all → ports c ≤ x → is_port (info all x).role ≡ false
  is_no_port x h g =
      let l : length (port_infos main home.ports) ≡ ports c = ports_length main home.ports in
      let n : length all ≡ length (port_infos main home.ports) + length behind = ap length whole ∙ length-append (port_infos main home.ports) behind in
      let e : info all x ≡ info behind (x - ports c)
      = ap (λ (is : List SignalInfo). info is x) whole ∙ get_or-append_right (port_infos main home.ports) behind (ports c) x no_info l g in
      ap (λ (i : SignalInfo). is_port i.role) e
      ∙ All-get_or NoPort behind (x - ports c) no_info (omega (arith, h, g, l, n))
      (no_port_in_body c.modules rank r [] (ports_known 0 home.ports) (behind_ports main home.ports) (body_of home.body))

  pub port_below : (x : ℕ) → x < length all → is_port (info all x).role ≡ true → x < ports c
  port_below x h p = ⊎_elim (λ l. l) (λ g. absurd (no_both (is_port (info all x).role) p (is_no_port x h g))) (cases_lt x (ports c)) where
    no_both : (b : Bool) → b ≡ true → b ≡ false → ⊥
    no_both true p q = cc
    no_both false p q = cc

  declared : Declares all (elab c).body
  declared = list_declares c.modules rank r all main (stands_whole all)

  once : (x : ℕ) → x < length all → lines_of x (declares (ground_body_of (elab c).body)) ≡ (info all x).line ∷ []
  once x h =
      let n : length all ≡ signals_in c.modules (place_of c.modules c.name) = infos_length c.modules rank r main in
      let t : length (lines_of x (declares (ground_body_of (elab c).body))) ≡ 1
      = exact_top c.modules rank r x main refl ∙ among_once 0 (signals_in c.modules (place_of c.modules c.name)) x (omega arith) (omega (arith, h, n)) in
      one_item (info all x).line (lines_of x (declares (ground_body_of (elab c).body))) t
      (lines_right all x (declares (ground_body_of (elab c).body)) declared.right)

  abbrev heads : List Ground
  heads = declare_ports (declared_inside true) 0 (port_leaves home.ports)

  abbrev others : List Ground
  others = grounds c.modules (ports_known 0 home.ports) (behind_ports main home.ports) (body_of home.body) ++ flat_map (list_of c.modules) (instances_of c.modules main)

  port_is_declared : (x : ℕ) → x < ports c → slice_get (first_declared (ground_body_of (elab c).body)) x ≡ Some x
  port_is_declared x h =
      let ns : List ℕ = range_with_len 0 (length (port_leaves home.ports)) in
      let rest : List ℕ = first_declared (ground_body_of others) in
      let e : (elab c).body ≡ heads ++ others
      = list_opened c.modules rank r main ∙ append_assoc heads (grounds c.modules (ports_known 0 home.ports) (behind_ports main home.ports) (body_of home.body)) (flat_map (list_of c.modules) (instances_of c.modules main)) in
      let f : first_declared (ground_body_of (elab c).body) ≡ ns ++ rest
      = ap (λ (gs : List Ground). first_declared (ground_body_of gs)) e ∙ first_ports 0 (port_leaves home.ports) others in
      let l : length (port_leaves home.ports) ≡ ports c = leaves_of_ports home.ports in
      let m : length ns ≡ length (port_leaves home.ports) = length-range_with_len 0 (length (port_leaves home.ports)) in
      let n : length (ns ++ rest) ≡ length ns + length rest = length-append ns rest in
      ap (λ (ks : List ℕ). slice_get ks x) f
      ∙ slice_get-get_or (ns ++ rest) x 0 (omega (arith, h, l, m, n))
      ∙ ap Some (get_or_append_left ns rest 0 x (omega (arith, h, l, m)) ∙ get_or-range_with_len 0 (length (port_leaves home.ports)) x 0 (omega (arith, h, l)) ∙ plain x)
    where
      plain : (n : ℕ) → 0 + n ≡ n
      plain n = omega arith

  pub signals_declared : Fits c → SignalsDeclared (elab c)
  signals_declared f = record {
    few = f.few_signals;
    declared_below = all_more (IsRight all) (λ d. d.signal < length all) (λ d i. i.below) (declares (ground_body_of (elab c).body)) declared.right;
    declared_once = once;
    ports_first = λ x y l h p. is_a_port x (let q : y < ports c = port_below y h p in omega (arith, l, q));
    few_ports = λ x h p. let q : x < ports c = port_below x h p in let g : ports c ≤ 256 = f.few_ports in omega (arith, q, g);
    ports_declared = λ x h p. port_is_declared x (port_below x h p);
    nodes_set = declared.nodes;
    resets = all_more (IsRight all) (λ d. is_some d.reset ≡ true → is_register (info all d.signal).role ≡ true) (λ d i. i.reset)
        (declares (ground_body_of (elab c).body)) declared.right;
    few_whens = let w : whens (ground_body_of (elab c).body) ≤ Rattle.std.proofs.Common.sum (map statement_parts (elab c).body) = whens_parts (elab c).body in
        let g : parts c ≤ 4194304 = f.few_parts in
        omega (arith, w, g);
  }

pub signals_are_declared : SignalsAreDeclared
signals_are_declared rank c r f = signals_declared rank c r f

pub widths_are_narrow : WidthsAreNarrow
widths_are_narrow rank c r h = all_narrow c.modules rank r h (main_place c)

pub inputs_have_widths : InputsHaveWidths
inputs_have_widths rank c r h x l e =
    All-get_or (λ i. is_input i.role ≡ true → is_some i.width ≡ true) (elab c).signals x no_info l (all_given c.modules rank r (main_place c) h) e

pub nesting_stays : NestingStays
nesting_stays rank c n r h = list_below c.modules rank r n h (main_place c)
