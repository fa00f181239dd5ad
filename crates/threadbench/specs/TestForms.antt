-- What the text of a test is to a circuit: a test without drivers and resets for the circuit's ports, or why it is refused.
use Rattle.std.specs.Prelude.{ℕ, Bool, true, false, List, length, nat_lt, if◌then◌else◌, Some, None, Result, Ok, Err}
use Rattle.std.specs.declared.option.Option.{Option}
use Rattle.tb_base.specs.declared.place.Place.{Place}
use Rattle.text_grammar.specs.declared.fault.Kind.{Kind}
use Rattle.text_grammar.specs.Part.{Outcome, whole}
use Rattle.net_core.specs.declared.ports.PortInfo.{PortInfo}
use Rattle.net_core.specs.declared.tree.Elab.{Elab}
use Rattle.net_design.specs.Designs.{ports_of}
use Rattle.tl_lex.specs.Lex.{items_of}
use Rattle.tl_ast.specs.TestGrammar.{test}
use Rattle.tl_ast.specs.Tests.{place_left}
use Rattle.tl_ast.specs.declared.tree.TestText.{TestText}
use Rattle.tl_check.specs.declared.rule.Rule.{Rule}
use Rattle.tl_check.specs.Checked.{TestFor}
use Rattle.tl_check.specs.CoreTests.{is_core}
use Rattle.tl_check.specs.Walk.{test_rule}

-- why the text of a test is refused: it has too many bytes, it spells no test, a line breaks a rule, or a driver or a reset stands in
-- it, so that it isn't in the first form
pub data TestRefusal : Type 0 where
  TooLong : TestRefusal
  Faulty : Kind → Place → TestRefusal
  Breaks : Rule → ℕ → TestRefusal
  NotFirst : TestRefusal

-- the most bytes that the text of a test has
abbrev pub test_limit : ℕ
test_limit = 262144

-- what reading a text comes to: its test, or its first faulty place
abbrev pub read_as : List ℕ → Outcome TestText → Result TestText TestRefusal
read_as text (Ok x) = Ok x.0
read_as text (Err f) = Err (Faulty f.0 (place_left text f.1))

-- the test that a text spells
unfoldable pub test_in : List ℕ → Result TestText TestRefusal
test_in text = read_as text ((whole test).reads (items_of text))

-- a test that is in the first form
unfoldable pub in_form : Bool → TestFor → Result TestFor TestRefusal
in_form false k = Err NotFirst
in_form true k = Ok k

abbrev pub unless_broken : Option (Rule × ℕ) → TestFor → Result TestFor TestRefusal
unless_broken (Some b) k = Err (Breaks b.0 b.1)
unless_broken None k = in_form (is_core k.test) k

-- a test with ports
abbrev pub for_ports : List (List ℕ × PortInfo) → TestText → TestFor
for_ports ports test = record { test = test; ports = ports }

-- a test that breaks no rule for the ports
unfoldable pub ruled : List (List ℕ × PortInfo) → TestText → Result TestFor TestRefusal
ruled ports test = unless_broken (test_rule test ports) (for_ports ports test)

abbrev pub ruled_as : List (List ℕ × PortInfo) → Result TestText TestRefusal → Result TestFor TestRefusal
ruled_as ports (Ok test) = ruled ports test
ruled_as ports (Err r) = Err r

-- the test of a text that isn't too long, for the circuit's ports
unfoldable pub test_for : Elab → List ℕ → Result TestFor TestRefusal
test_for e text = ruled_as (ports_of e) (test_in text)

-- the test of a text on the circuit
unfoldable pub test_in_core : Elab → List ℕ → Result TestFor TestRefusal
test_in_core e text = if nat_lt test_limit (length text) then Err TooLong else test_for e text
