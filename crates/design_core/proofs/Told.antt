-- What each stage tells, in the words of what a text is built to.
use Rattle.std.proofs.Common.{◌≡◌, ◌∙◌, sym, ap, subst, ℕ, ◌<◌, ◌≤◌, ◌^◌, List, map, Option, Some, None, Ok, Err, refl, nat_lt, arith, length, true, false, [], ◌∷◌}
use Rattle.std.proofs.lemmas.Grind.{common_steps}
use Rattle.std.specs.Prelude.{Result, IfOk, IfErr}
use Rattle.tb_base.specs.declared.place.Place.{Place}
use Rattle.text_grammar.specs.declared.fault.Kind.{Kind}
use Rattle.text_grammar.specs.declared.fault.Kind.TheVariants as kind
use Rattle.text_grammar.specs.Part.{Outcome, whole}
use Rattle.fir_lex.specs.Lex.{items_of}
use Rattle.fir_ast.specs.CircuitGrammar.{circuit}
use Rattle.fir_ast.specs.declared.tree.Circuit.{Circuit}
use Rattle.fir_ast.specs.Circuits.{circuit_of, circuit_fault, found, fault_of, place_left}
use Rattle.fir_check.specs.declared.best.Rule.{Rule}
use Rattle.fir_check.specs.Rules.{circuit_rule}
use Rattle.fir_flat.specs.Elaboration.{elab, ports, signals, parts}
use Rattle.fir_flat.specs.Limits.{Fits}
use Rattle.net_core.specs.declared.tree.Elab.{Elab}
use Rattle.net_core.specs.WidthRules.{WidthRule, width_rule}
use Rattle.net_core.specs.Depends.{uninitialised}
use Rattle.net_core.specs.Formed.{Formed, with_widths}
use Rattle.net_core.specs.Widths.{IsLeast}
use Rattle.net_design.specs.Naming.{loop_of}
use Rattle.net_core.specs.declared.ports.Signal.{Signal}
use Rattle.net_graph.specs.NetGraphs.{numbers}
use Rattle.design_core.specs.declared.stages.BuildFault.{BuildFault}
use Rattle.design_core.specs.Refused.{Tells}
use Rattle.design_core.specs.Built.{BuildRefusal, Faulty, Breaks, TooManyPorts, TooManySignals, TooManyParts, NotInitialised, Looped, read_as, spelled, built, built_of, ruled, ruled_by, laid_out, measured, measured_with, initialised, unlooped, width_refusal, name_of}

found_is : (text : List ℕ) (o : Outcome Circuit) (c : Circuit) → found o ≡ Some c → read_as text o ≡ Ok c
found_is text (Ok x) c h = let e : x.0 ≡ c = cc in ap (λ (z : Circuit). Ok z) e
found_is text (Err f) c h = absurd cc

pub found_spelled : (text : List ℕ) (c : Circuit) → circuit_of text ≡ Some c → spelled text ≡ Ok c
unfolding circuit_of spelled
found_spelled text c h = found_is text ((whole circuit).reads (items_of text)) c h

fault_is : (text : List ℕ) (o : Outcome Circuit) (kind : Kind) (place : Place) → fault_of text o ≡ Some (kind, place) → read_as text o ≡ Err (Faulty kind place)
fault_is text (Ok x) kind place h = absurd cc
fault_is text (Err f) kind place h =
    let e : (f.0, place_left text f.1) ≡ (kind, place) = cc in
    ap (λ (z : Kind × Place). Err (Faulty z.0 z.1)) e

fault_spelled : (text : List ℕ) (kind : Kind) (place : Place) → circuit_fault text ≡ Some (kind, place) → spelled text ≡ Err (Faulty kind place)
unfolding circuit_fault spelled
fault_spelled text kind place h = fault_is text ((whole circuit).reads (items_of text)) kind place h

-- a text that spells no circuit is refused at its first faulty place
pub fault_built : (text : List ℕ) (kind : Kind) (place : Place) → circuit_fault text ≡ Some (kind, place) → built text ≡ Err (Faulty kind place)
unfolding built
fault_built text kind place h = ap (λ (r : Result Circuit BuildRefusal). built_of r) (fault_spelled text kind place h)

-- and else is built to what its circuit is
pub circuit_built : (text : List ℕ) (c : Circuit) → spelled text ≡ Ok c → built text ≡ ruled c
unfolding built
circuit_built text c h = ap (λ (r : Result Circuit BuildRefusal). built_of r) h

pub break_ruled : (c : Circuit) (r : Rule) (line : ℕ) → circuit_rule c ≡ Some (r, line) → ruled c ≡ Err (Breaks r line)
break_ruled c r line h = ap (λ (o : Option (Rule × ℕ)). ruled_by o c) h

pub kept_ruled : (c : Circuit) → circuit_rule c ≡ None → ruled c ≡ laid_out c
kept_ruled c h = ap (λ (o : Option (Rule × ℕ)). ruled_by o c) h

pub ports_laid : (c : Circuit) → 256 < ports c → laid_out c ≡ Err TooManyPorts
ports_laid c h = grind (arith, common_steps)

pub signals_laid : (c : Circuit) → ports c ≤ 256 → 65536 < signals c → laid_out c ≡ Err TooManySignals
signals_laid c h k = grind (arith, common_steps)

pub parts_laid : (c : Circuit) → ports c ≤ 256 → signals c ≤ 65536 → 4194304 < parts c → laid_out c ≡ Err TooManyParts
parts_laid c h k l = grind (arith, common_steps)

pub fits_laid : (c : Circuit) → Fits c → laid_out c ≡ measured (elab c)
fits_laid c f = let h = f.few_ports in let k = f.few_signals in let l = f.few_parts in grind (arith, common_steps)

pub ruled_measured : (e : Elab) (w : List ℕ) (r : WidthRule) → width_rule e w ≡ Some r → measured_with e w ≡ Err (width_refusal r)
ruled_measured e w r h = ap (λ (o : Option WidthRule). elim o [ None ↦ initialised (with_widths e w) | Some q ↦ Err (width_refusal q) ]) h

pub kept_measured : (e : Elab) (w : List ℕ) → width_rule e w ≡ None → measured_with e w ≡ initialised (with_widths e w)
kept_measured e w h = ap (λ (o : Option WidthRule). elim o [ None ↦ initialised (with_widths e w) | Some q ↦ Err (width_refusal q) ]) h

pub open_initialised : (e : Elab) (x : ℕ) → uninitialised e ≡ Some x → initialised e ≡ Err (NotInitialised (name_of e x))
open_initialised e x h = ap (λ (o : Option ℕ). elim o [ None ↦ unlooped e | Some y ↦ Err (NotInitialised (name_of e y)) ]) h

pub closed_initialised : (e : Elab) → uninitialised e ≡ None → initialised e ≡ unlooped e
closed_initialised e h = ap (λ (o : Option ℕ). elim o [ None ↦ unlooped e | Some y ↦ Err (NotInitialised (name_of e y)) ]) h

pub looped : (e : Elab) (xs : List ℕ) → loop_of e ≡ Some xs → unlooped e ≡ Err (Looped (map (name_of e) xs))
looped e xs h = ap (λ (o : Option (List ℕ)). elim o [ None ↦ Ok e | Some ys ↦ Err (Looped (map (name_of e) ys)) ]) h

pub not_looped : (e : Elab) → loop_of e ≡ None → unlooped e ≡ Ok e
not_looped e h = ap (λ (o : Option (List ℕ)). elim o [ None ↦ Ok e | Some ys ↦ Err (Looped (map (name_of e) ys)) ]) h

-- the names of signals, once their numbers are taken
pub names_twice : (e : Elab) (signals : List Signal) → map (λ s. name_of e s.0) signals ≡ map (name_of e) (numbers signals)
names_twice e [] = refl
names_twice e (s ∷ rest) = ap (λ (o : List (List ℕ)). name_of e s.0 ∷ o) (names_twice e rest)

-- ---- a fault of one stage is one of the whole
pub told_ruled : (text : List ℕ) (c : Circuit) (f : BuildFault) → spelled text ≡ Ok c → Tells (ruled c) f → Tells (built text) f
told_ruled text c f h t = subst (λ (r : Result Elab BuildRefusal). Tells r f) (sym (circuit_built text c h)) t

pub told_laid : (text : List ℕ) (c : Circuit) (f : BuildFault) → spelled text ≡ Ok c → circuit_rule c ≡ None → Tells (laid_out c) f → Tells (built text) f
told_laid text c f h k t = told_ruled text c f h (subst (λ (r : Result Elab BuildRefusal). Tells r f) (sym (kept_ruled c k)) t)

pub told_measured : (text : List ℕ) (c : Circuit) (e : Elab) (f : BuildFault) → spelled text ≡ Ok c → circuit_rule c ≡ None → laid_out c ≡ measured e
    → Tells (measured e) f → Tells (built text) f
told_measured text c e f h k l t = told_laid text c f h k (subst (λ (r : Result Elab BuildRefusal). Tells r f) (sym l) t)

pub told_initialised : (text : List ℕ) (c : Circuit) (e g : Elab) (f : BuildFault) → spelled text ≡ Ok c → circuit_rule c ≡ None → laid_out c ≡ measured e
    → measured e ≡ initialised g → Tells (initialised g) f → Tells (built text) f
told_initialised text c e g f h k l m t = told_measured text c e f h k l (subst (λ (r : Result Elab BuildRefusal). Tells r f) (sym m) t)

pub is_built : (text : List ℕ) (c : Circuit) (e g : Elab) → spelled text ≡ Ok c → circuit_rule c ≡ None → laid_out c ≡ measured e
    → measured e ≡ initialised g → built text ≡ initialised g
is_built text c e g h k l m = circuit_built text c h ∙ kept_ruled c k ∙ l ∙ m

-- what holds of each success, or of each failure, of a call
pub ok_through : {V E : Type 0} (o : Result V E) (P Q : V → Type 0) → ((v : V) → P v → Q v) → IfOk o P → IfOk o Q
ok_through (Ok v) P Q g h = g v h
ok_through (Err e) P Q g h = h

pub err_through : {V E : Type 0} (o : Result V E) (P Q : E → Type 0) → ((e : E) → P e → Q e) → IfErr o P → IfErr o Q
err_through (Ok v) P Q g h = h
err_through (Err e) P Q g h = g e h
