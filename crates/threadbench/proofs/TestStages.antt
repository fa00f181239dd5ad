-- What a test's text comes to is told by the core test, or by the fault.
use Rattle.std.proofs.Common.{◌≡◌, ℕ, Bool, true, false, not, List, Option, Some, None, Ok, Err, refl, sym, ap, subst, ◌∙◌}
use Rattle.std.specs.Prelude.{Result, IsErrAnd}
use Rattle.tb_base.specs.declared.place.Place.{Place}
use Rattle.text_grammar.specs.declared.fault.Kind.{Kind}
use Rattle.text_grammar.specs.declared.fault.Kind.TheVariants as kind
use Rattle.text_grammar.specs.Part.{Outcome, whole}
use Rattle.net_core.specs.declared.ports.PortInfo.{PortInfo}
use Rattle.tl_lex.specs.Lex.{items_of}
use Rattle.tl_ast.specs.TestGrammar.{test}
use Rattle.tl_ast.specs.Tests.{test_of, test_fault, found, fault_of, place_left}
use Rattle.tl_ast.specs.declared.tree.TestText.{TestText}
use Rattle.tl_text.specs.Faults.{FaultFound}
use Rattle.tl_text.specs.declared.fault.TestReadFault.{TestReadFault}
use Rattle.tl_text.specs.declared.fault.TestReadFault.TheVariants as read
use Rattle.tl_check.specs.declared.rule.Rule.{Rule}
use Rattle.tl_check.specs.declared.rule.Rule.TheVariants as rule
use Rattle.tl_check.specs.declared.fault.TestFault.{TestFault}
use Rattle.tl_check.specs.declared.fault.TestFault.TheVariants as check
use Rattle.tl_check.specs.Checked.{TestFor}
use Rattle.tl_check.specs.CoreTests.{is_core}
use Rattle.tl_check.specs.Faults.{Tells}
use Rattle.tl_check.specs.Walk.{test_rule}
use Rattle.threadbench.specs.TestForms.{TestRefusal, Faulty, Breaks, NotFirst, read_as, test_in, in_form, unless_broken, for_ports, ruled, ruled_as}
use Rattle.threadbench.specs.TestRefusals.{test_refusal_text}
use Rattle.threadbench.specs.TestAnswers.{TestAnswers, LineOfTestRead, LineOfTestFault}
use Rattle.threadbench.specs.declared.layers.TextFault.{TextFault}
use Rattle.threadbench.specs.declared.layers.TextFault.TheVariants as fault

-- ---- reading

found_is : (text : List ℕ) (o : Outcome TestText) (x : TestText) → found o ≡ Some x → read_as text o ≡ Ok x
found_is text (Ok x) y h = let e : x.0 ≡ y = cc in ap (λ (z : TestText). Ok z) e
found_is text (Err f) y h = absurd cc

pub found_test : (text : List ℕ) (x : TestText) → test_of text ≡ Some x → test_in text ≡ Ok x
unfolding test_of test_in
found_test text x h = found_is text ((whole test).reads (items_of text)) x h

fault_is : (text : List ℕ) (o : Outcome TestText) (kind : Kind) (place : Place) → fault_of text o ≡ Some (kind, place)
    → read_as text o ≡ Err (Faulty kind place)
fault_is text (Ok x) kind place h = absurd cc
fault_is text (Err f) kind place h =
    let e : (f.0, place_left text f.1) ≡ (kind, place) = cc in
    ap (λ (z : Kind × Place). Err (Faulty z.0 z.1)) e

faulty_test : (text : List ℕ) (kind : Kind) (place : Place) → test_fault text ≡ Some (kind, place)
    → test_in text ≡ Err (Faulty kind place)
unfolding test_fault test_in
faulty_test text kind place h = fault_is text ((whole test).reads (items_of text)) kind place h

refused_by : {A : Type 0} (r : Result A TestRefusal) (why : TestRefusal) (line : List ℕ) → r ≡ Err why → line ≡ test_refusal_text why
    → IsErrAnd r (λ w. line ≡ test_refusal_text w)
refused_by r why line h is = rw h is

pub read_answers : (text : List ℕ) (fault : TestReadFault) (line : List ℕ) → FaultFound text fault → LineOfTestRead fault line
    → IsErrAnd (test_in text) (λ r. line ≡ test_refusal_text r)
read_answers text (read.Syntax place) line h is =
    refused_by (test_in text) (Faulty kind.Syntax place) line (faulty_test text kind.Syntax place h) is
read_answers text (read.NumberTooWide place) line h is =
    refused_by (test_in text) (Faulty kind.NumberTooWide place) line (faulty_test text kind.NumberTooWide place h) is
read_answers text (read.TooDeep place) line h is =
    refused_by (test_in text) (Faulty kind.TooDeep place) line (faulty_test text kind.TooDeep place h) is
read_answers text (read.Memory m) line h is = absurd is

-- ---- the rules

broken : (test : TestText) (ports : List (List ℕ × PortInfo)) (r : Rule) (n : ℕ) → test_rule test ports ≡ Some (r, n)
    → ruled ports test ≡ Err (Breaks r n)
unfolding ruled
broken test ports r n h = ap (λ (b : Option (Rule × ℕ)). unless_broken b (for_ports ports test)) h

break_answers : (test : TestText) (ports : List (List ℕ × PortInfo)) (r : Rule) (n : ℕ) (line : List ℕ)
    → test_rule test ports ≡ Some (r, n) → line ≡ test_refusal_text (Breaks r n)
    → IsErrAnd (ruled ports test) (λ w. line ≡ test_refusal_text w)
break_answers test ports r n line h is = refused_by (ruled ports test) (Breaks r n) line (broken test ports r n h) is

pub rule_answers : (test : TestText) (ports : List (List ℕ × PortInfo)) (fault : TestFault) (line : List ℕ)
    → Tells (test_rule test ports) fault → LineOfTestFault fault line
    → IsErrAnd (ruled ports test) (λ w. line ≡ test_refusal_text w)
rule_answers test ports (check.UnknownPort n) line h is = break_answers test ports rule.UnknownPort n line h is
rule_answers test ports (check.PokeOutput n) line h is = break_answers test ports rule.PokeOutput n line h is
rule_answers test ports (check.LiteralTooWide n) line h is = break_answers test ports rule.LiteralTooWide n line h is
rule_answers test ports (check.UnknownVariable n) line h is = break_answers test ports rule.UnknownVariable n line h is
rule_answers test ports (check.UnknownHandle n) line h is = break_answers test ports rule.UnknownHandle n line h is
rule_answers test ports (check.TooManyNames n) line h is = break_answers test ports rule.TooManyNames n line h is
rule_answers test ports (check.JoinLaterRegion n) line h is = break_answers test ports rule.JoinLaterRegion n line h is
rule_answers test ports (check.ForkEarlierRegion n) line h is = break_answers test ports rule.ForkEarlierRegion n line h is
rule_answers test ports (check.NotReadyValid n) line h is = break_answers test ports rule.NotReadyValid n line h is
rule_answers test ports (check.StepZero n) line h is = break_answers test ports rule.StepZero n line h is
rule_answers test ports (check.Memory m) line h is = absurd is

-- ---- the first form

pub formed : (core : Bool) (k c : TestFor) → false ≡ not core → c ≡ k → in_form core k ≡ Ok c
unfolding in_form
formed true k c h is = ap (λ (x : TestFor). Ok x) (sym is)
formed false k c h is = absurd cc

pub not_formed : (core : Bool) (k : TestFor) (line : List ℕ) → true ≡ not core → line ≡ test_refusal_text NotFirst
    → IsErrAnd (in_form core k) (λ w. line ≡ test_refusal_text w)
unfolding in_form
not_formed true k line h is = absurd cc
not_formed false k line h is = is

ruled_form : (test : TestText) (ports : List (List ℕ × PortInfo)) → test_rule test ports ≡ None
    → ruled ports test ≡ in_form (is_core test) (for_ports ports test)
unfolding ruled
ruled_form test ports h = ap (λ (b : Option (Rule × ℕ)). unless_broken b (for_ports ports test)) h

pub form_found : (test : TestText) (ports : List (List ℕ × PortInfo)) (k : TestFor) → test_rule test ports ≡ None
    → in_form (is_core test) (for_ports ports test) ≡ Ok k → ruled ports test ≡ Ok k
form_found test ports k h is = ruled_form test ports h ∙ is

pub form_answers : (test : TestText) (ports : List (List ℕ × PortInfo)) (e : TextFault) → test_rule test ports ≡ None
    → TestAnswers (in_form (is_core test) (for_ports ports test)) e → TestAnswers (ruled ports test) e
form_answers test ports e h is = subst (λ (r : Result TestFor TestRefusal). TestAnswers r e) (sym (ruled_form test ports h)) is

-- ---- whole texts

pub text_unread : (ports : List (List ℕ × PortInfo)) (r : Result TestText TestRefusal) (e : TextFault) → TestAnswers r e
    → TestAnswers (ruled_as ports r) e
text_unread ports r fault.Memory is = tt
text_unread ports (Ok x) (fault.Refused line) is = absurd is
text_unread ports (Err why) (fault.Refused line) is = is

pub text_read : (ports : List (List ℕ × PortInfo)) (r : Result TestText TestRefusal) (x : TestText) (e : TextFault) → r ≡ Ok x
    → TestAnswers (ruled ports x) e → TestAnswers (ruled_as ports r) e
text_read ports r x e h is = subst (λ (o : Result TestText TestRefusal). TestAnswers (ruled_as ports o) e) (sym h) is

pub text_found : (ports : List (List ℕ × PortInfo)) (r : Result TestText TestRefusal) (x : TestText) (k : TestFor) → r ≡ Ok x
    → ruled ports x ≡ Ok k → ruled_as ports r ≡ Ok k
text_found ports r x k h is = ap (ruled_as ports) h ∙ is

pub ruleset whole_texts = (text_found, text_read, text_unread)
