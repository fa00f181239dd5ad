-- The elaboration of a circuit that breaks no rule is formed.
use Rattle.std.proofs.Common.{◌≡◌, ◌∙◌, sym, ap, subst, ℕ, ◌+◌, ◌<◌, Bool, true, false, cond, List, [], ◌∷◌, Option, Some, None, is_none, is_some, refl, map, filter, flat_map, length, arith, slice_index_or}
use Rattle.std.specs.Prelude.{option_to_list}
use Rattle.std.specs.List.{All, list_all, AllByRecursion as Each}
use Rattle.std.proofs.lemmas.List.Elements.{All-nil, All-cons}
use Rattle.fir_ast.specs.declared.tree.Port.{Port}
use Rattle.fir_ast.specs.declared.tree.Module.{Module}
use Rattle.fir_ast.specs.declared.tree.Circuit.{Circuit}
use Rattle.net_core.specs.declared.tree.SignalInfo.{SignalInfo}
use Rattle.net_core.specs.Signals.{info, no_info}
use Rattle.net_core.specs.Formed.{Formed}
use Rattle.fir_check.specs.Types.{same}
use Rattle.fir_check.specs.Rules.{circuit_rule, port_lines, has_unsized_input, main_of, stmt_lines, wrong_at}
use Rattle.fir_check.proofs.Ranks.{ranked as checked_ranks}
use Rattle.fir_flat.specs.Shapes.{shape_of, ports_shape, leaves}
use Rattle.fir_flat.specs.Modules.{module_at, place_of}
use Rattle.fir_flat.specs.Elaboration.{Opened, main_place, elab, ports}
use Rattle.fir_flat.specs.Limits.{Fits}
use Rattle.fir_written.specs.Written.{IsWritten, is_written, is_written_port, is_written_module}
use Rattle.flat_shapes.specs.Apart.{AllDiffer}
use Rattle.flat_shapes.specs.Names.{is_told_apart, port_names}
use Rattle.flat_shapes.proofs.Leaves.{leaves_agree}
use Rattle.flat_shapes.proofs.Names.{names_differ}
use Rattle.flat_shapes.proofs.Written.{written_types_fit}
use Rattle.flat_places.specs.Places.{Stands, InPlace, port_infos}
use Rattle.flat_places.specs.Laws.{SignalsDeclared}
use Rattle.flat_places.specs.Widths.{InputsGiven}
use Rattle.flat_places.proofs.Spans.{stands_whole, stands_info}
use Rattle.flat_places.proofs.Infos.{AreRanked, each_instance}
use Rattle.flat_places.proofs.Placed.{placed_own, inner_in_place, ports_length}
use Rattle.flat_places.proofs.Whole.{signals_declared, port_below, widths_are_narrow, inputs_have_widths, nesting_stays}
use Rattle.fir_formed.proofs.Tests.{and_left, and_right, both_empty, named_place}
use Rattle.fir_formed.specs.Typed.{Typed}
use Rattle.fir_formed.proofs.Needed.{PlainPorts, ShapeLaws}
use Rattle.fir_formed.proofs.Given.{shape_laws}
use Rattle.fir_formed.proofs.Turned.{turned}
use Rattle.fir_formed.proofs.Porting.{at_mapped}
use Rattle.fir_formed.proofs.Own.{Tidy, tidy_nothing, each_at, Joins, own_joins}
use Rattle.fir_formed.proofs.Kept.{Keeps, keeps, tidy}
use Rattle.fir_formed.proofs.Lying.{laid_at}
use Rattle.fir_formed.proofs.Whole.{joins_nothing, joins_append, typed}
use Rattle.fir_formed.proofs.Ranking.{ranked}
use Rattle.fir_formed.proofs.Spelt.{circuit_spelt}
use Rattle.fir_formed.proofs.Bounded.{circuit_narrow, circuit_nests}

laws : ShapeLaws
laws = shape_laws turned

-- names, flow and types

all_joins : (c : Circuit) (rank : ℕ → ℕ) → AreRanked rank c.modules → Each (Tidy c.modules) c.modules → Joins (elab c).signals (elab c).body
all_joins c rank r t =
    each_instance c.modules rank r (InPlace (elab c).signals c.modules) (inner_in_place c.modules rank r (elab c).signals) (Joins (elab c).signals)
    (λ o s. own_joins laws c.modules (elab c).signals t o (laid_at c.modules rank r (elab c).signals o s))
    (joins_nothing (elab c).signals) (joins_append (elab c).signals) (main_place c) (stands_whole (elab c).signals)

-- the main module's ports

abbrev home : Circuit → Module
home c = module_at c.modules (place_of c.modules c.name)

same_map : {X : Type 0} (xs : List X) → map (λ x. x) xs ≡ xs
same_map [] = refl
same_map (x ∷ xs) = ap (λ t. x ∷ t) (same_map xs)

named : (c : Circuit) (rank : ℕ → ℕ) → AreRanked rank c.modules → (x : ℕ) → x < ports c → (info (elab c).signals x).name ≡ slice_index_or (port_names (home c).ports) x []
named c rank r x l =
    let o : Opened = main_place c in
    let s : Stands (elab c).signals 0 (port_infos (main_place c) (home c).ports) = (placed_own (elab c).signals c.modules rank r (main_place c) (stands_whole (elab c).signals)).0 in
    let n : length (port_infos (main_place c) (home c).ports) ≡ ports c = ports_length (main_place c) (home c).ports in
    let z : 0 + x ≡ x = omega arith in
    let i : info (elab c).signals x ≡ info (port_infos (main_place c) (home c).ports) x =
    subst (λ k. info (elab c).signals k ≡ info (port_infos (main_place c) (home c).ports) x) z (stands_info (elab c).signals 0 (port_infos (main_place c) (home c).ports) x s (omega (arith, n, l))) in
    ap (λ (j : SignalInfo). j.name) i
    ∙ sym (at_mapped (λ (j : SignalInfo). j.name) (port_infos (main_place c) (home c).ports) x no_info [] (omega (arith, n, l)))
    ∙ ap (λ xs. slice_index_or xs x []) (names_differ.infos (main_place c) (home c).ports ∙ same_map (port_names (home c).ports))

-- inputs

all_sized : (ps : List Port) → PlainPorts ps → port_lines has_unsized_input ps ≡ [] → InputsGiven ps
all_sized [] h e = All-nil (λ (p : Port). All (λ l. same p.output l.against ≡ true → is_some l.width ≡ true) (leaves (shape_of p.ty)))
all_sized (p ∷ ps) h e = step (has_unsized_input p) refl e (all_sized ps h.1)
  where
    step : (b : Bool) → has_unsized_input p ≡ b → map (λ (q : Port). q.line) (cond b (p ∷ filter has_unsized_input ps) (filter has_unsized_input ps)) ≡ [] → (port_lines has_unsized_input ps ≡ [] → InputsGiven ps) → InputsGiven (p ∷ ps)
    step true q k r = cc
    step false q k r =
        All-cons (λ (p : Port). All (λ l. same p.output l.against ≡ true → is_some l.width ≡ true) (leaves (shape_of p.ty))) p ps
        (leaves_agree.sized p.ty p.output h.0 q) (r k)

main_lines : (c : Circuit) → Keeps c → (m : Module) → main_of c ≡ Some m → port_lines has_unsized_input m.ports ≡ []
main_lines c k m e =
    let a : flat_map (λ (n : Module). port_lines has_unsized_input n.ports) (option_to_list (main_of c)) ≡ [] = (both_empty (flat_map (λ (n : Module). port_lines has_unsized_input n.ports) (option_to_list (main_of c))) (stmt_lines (λ n. wrong_at c.modules) c) k.wrong).left in
    (both_empty (port_lines has_unsized_input m.ports) [] (sym (ap (λ (o : Option Module). flat_map (λ (n : Module). port_lines has_unsized_input n.ports) (option_to_list o)) e) ∙ a)).left

main_is : (c : Circuit) → Keeps c → (m : Module) × (main_of c ≡ Some m)
main_is c k = step (main_of c) refl k.main
  where
    step : (o : Option Module) → main_of c ≡ o → cond (is_none o) (c.line ∷ []) [] ≡ [] → (m : Module) × (main_of c ≡ Some m)
    step None q e = cc
    step (Some m) q e = (m, q)

-- what is written of the main module

written_each : (ms : List Module) → list_all is_written_module ms ≡ true → Each (λ m. list_all is_written_port m.ports ≡ true) ms
written_each [] e = tt
written_each (m ∷ ms) e =
    (and_left (list_all is_written_port m.ports) _ (and_right _ _ (and_left (is_written_module m) _ e)), written_each ms (and_right (is_written_module m) _ e))

written_ports : (c : Circuit) → IsWritten c → list_all is_written_port (home c).ports ≡ true
unfolding is_written
written_ports c e = each_at (λ m. list_all is_written_port m.ports ≡ true) c.modules (place_of c.modules c.name) refl (written_each c.modules (and_right _ _ (and_right _ _ e)))

pub typed_elab : (c : Circuit) → circuit_rule c ≡ None → IsWritten c → Fits c → Typed (elab c)
typed_elab c e w f =
    let r = ranked c (checked_ranks c e) in
    let t : Each (Tidy c.modules) c.modules = tidy c (keeps c e) (circuit_spelt c w) in
    typed (elab c) (all_joins c r.0 r.1 t) (signals_declared r.0 c r.1 f).declared_once

pub formed : (c : Circuit) → circuit_rule c ≡ None → IsWritten c → Fits c → Formed (elab c)
formed c e w f =
    let k : Keeps c = keeps c e in
    let r = ranked c (checked_ranks c e) in
    let t : Each (Tidy c.modules) c.modules = tidy c k (circuit_spelt c w) in
    let h : Tidy c.modules (home c) = each_at (Tidy c.modules) c.modules (place_of c.modules c.name) (tidy_nothing c.modules) t in
    let d : SignalsDeclared (elab c) = signals_declared r.0 c r.1 f in
    let y : Typed (elab c) = typed_elab c e w f in
    let m : (m : Module) × (main_of c ≡ Some m) = main_is c k in
    let lines : port_lines has_unsized_input (home c).ports ≡ [] = ap (λ (n : Module). port_lines has_unsized_input n.ports) (named_place c.modules c.name m.0 m.1) ∙ main_lines c k m.0 m.1 in
    let told : is_told_apart (ports_shape (home c).ports) ≡ true = written_types_fit.ports (home c) (written_ports c w) (laws.plain_ports (home c) h.twice h.plain) in
    let differ : AllDiffer (port_names (home c).ports) = names_differ.ports (home c).ports told in
    let count : length (port_names (home c).ports) ≡ ports c = names_differ.count (home c).ports in
    record {
      few = d.few;
      read = y.read;
      set_below = y.set_below;
      declared_below = d.declared_below;
      declared_once = d.declared_once;
      ports_first = d.ports_first;
      few_ports = d.few_ports;
      distinct = λ x z l n p q s.
          let a : x < ports c = port_below r.0 c r.1 x l p in
          let b : z < ports c = port_below r.0 c r.1 z n q in
          differ x z [] (omega (arith, a, count)) (omega (arith, b, count)) (sym (named c r.0 r.1 x a) ∙ s ∙ named c r.0 r.1 z b);
      ports_declared = d.ports_declared;
      inputs_given = inputs_have_widths r.0 c r.1 (all_sized (home c).ports h.plain lines);
      nodes_set = d.nodes_set;
      nodes_once = y.nodes_once;
      resets = d.resets;
      inputs_kept = y.inputs_kept;
      scoped = y.scoped;
      right = y.right;
      one_sign = y.one_sign;
      conditions = y.conditions;
      narrow = widths_are_narrow r.0 c r.1 (circuit_narrow c w);
      nested = nesting_stays r.0 c 320 r.1 (circuit_nests c w);
      few_whens = d.few_whens;
    }
