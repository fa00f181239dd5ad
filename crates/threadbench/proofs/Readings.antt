-- What reading a text comes to is told by the circuit that is found, or by the fault.
use Rattle.std.proofs.Common.{◌≡◌, ℕ, List, Option, Some, None, Ok, Err, refl, ap, subst}
use Rattle.std.specs.Prelude.{IsErrAnd}
use Rattle.tb_base.specs.declared.place.Place.{Place}
use Rattle.text_grammar.specs.declared.fault.Kind.{Kind}
use Rattle.text_grammar.specs.Part.{Outcome, whole}
use Rattle.fir_lex.specs.Lex.{items_of}
use Rattle.fir_ast.specs.CircuitGrammar.{circuit}
use Rattle.fir_ast.specs.declared.tree.Circuit.{Circuit}
use Rattle.fir_read.specs.declared.fault.ReadFault.{ReadFault}
use Rattle.fir_read.specs.declared.fault.ReadFault.TheVariants as read
use Rattle.text_grammar.specs.declared.fault.Kind.TheVariants as kind
use Rattle.fir_ast.specs.Circuits.{circuit_of, circuit_fault, found, fault_of, place_left}
use Rattle.fir_read.specs.Faults.{FaultFound}
use Rattle.design_core.specs.Built.{BuildRefusal, Faulty, read_as, spelled}
use Rattle.threadbench.specs.Forms.{Unbuilt, told}
use Rattle.threadbench.specs.Refusals.{refusal_text}
use Rattle.threadbench.specs.Answers.{LineOfRead}
use Rattle.threadbench.proofs.Stages.{refused_by}

found_is : (text : List ℕ) (o : Outcome Circuit) (c : Circuit) → found o ≡ Some c → read_as text o ≡ Ok c
found_is text (Ok x) c h = let e : x.0 ≡ c = cc in ap (λ (z : Circuit). Ok z) e
found_is text (Err f) c h = absurd cc

spelled_is : (text : List ℕ) (c : Circuit) → circuit_of text ≡ Some c → spelled text ≡ Ok c
unfolding circuit_of spelled
spelled_is text c h = found_is text ((whole circuit).reads (items_of text)) c h

pub found_spelled : (text : List ℕ) (c : Circuit) → circuit_of text ≡ Some c → told (spelled text) ≡ Ok c
found_spelled text c h = ap told (spelled_is text c h)

fault_is : (text : List ℕ) (o : Outcome Circuit) (kind : Kind) (place : Place) → fault_of text o ≡ Some (kind, place) → read_as text o ≡ Err (Faulty kind place)
fault_is text (Ok x) kind place h = absurd cc
fault_is text (Err f) kind place h =
    let e : (f.0, place_left text f.1) ≡ (kind, place) = cc in
    ap (λ (z : Kind × Place). Err (Faulty z.0 z.1)) e

fault_spelled : (text : List ℕ) (kind : Kind) (place : Place) → circuit_fault text ≡ Some (kind, place) → spelled text ≡ Err (Faulty kind place)
unfolding circuit_fault spelled
fault_spelled text kind place h = fault_is text ((whole circuit).reads (items_of text)) kind place h

one_answers : (text : List ℕ) (kind : Kind) (place : Place) (line : List ℕ) → circuit_fault text ≡ Some (kind, place) → line ≡ refusal_text (Unbuilt (Faulty kind place)) → IsErrAnd (told (spelled text)) (λ r. line ≡ refusal_text r)
one_answers text kind place line h is = refused_by (spelled text) (Faulty kind place) line (fault_spelled text kind place h) is

pub fault_answers : (text : List ℕ) (fault : ReadFault) (line : List ℕ) → FaultFound text fault → LineOfRead fault line → IsErrAnd (told (spelled text)) (λ r. line ≡ refusal_text r)
fault_answers text (read.Syntax place) line h is = one_answers text kind.Syntax place line h is
fault_answers text (read.Unsupported place form) line h is = one_answers text (kind.Unsupported form) place line h is
fault_answers text (read.NumberTooWide place) line h is = one_answers text kind.NumberTooWide place line h is
fault_answers text (read.TooDeep place) line h is = one_answers text kind.TooDeep place line h is
fault_answers text (read.Memory m) line h is = absurd is
