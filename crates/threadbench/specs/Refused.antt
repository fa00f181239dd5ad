-- Which commands are refused for their circuit, and which for their test.
use Rattle.std.specs.Prelude.{ℕ, Bool, false, not, List, Some, None, Ok, Err, is_ok}
use Rattle.std.specs.declared.option.Option.{Option}
use Rattle.bench_desk.specs.declared.desk.DeskFile.{DeskFile}
use Rattle.bench_desk.specs.Meaning.{content}
use Rattle.net_core.specs.declared.tree.Elab.{Elab}
use Rattle.threadbench.specs.Answer.{RunLine, CommandLine, Run, Check, Fmt}
use Rattle.threadbench.specs.Forms.{circuit_in, design_in}
use Rattle.threadbench.specs.TestForms.{test_in_core}

-- the text is that of a circuit within its limit that runs
abbrev pub is_circuit : List ℕ → Bool
is_circuit text = is_ok (design_in text)

-- the text spells a circuit within its limit
abbrev pub is_spelled : List ℕ → Bool
is_spelled text = is_ok (circuit_in text)

-- the text is that of a test within its limit that breaks no rule for the circuit and has no driver and no reset
abbrev pub is_test : Elab → List ℕ → Bool
is_test e text = is_ok (test_in_core e text)

-- the line's test is held, and is none for the circuit
abbrev pub refuses_test_of : Elab → RunLine → List DeskFile → Bool
refuses_test_of e line files = elim (content files line.test) [ None ↦ false | Some test ↦ not (is_test e test) ]

-- a file of that name is held, and its text doesn't pass the test
abbrev pub fails : (List ℕ → Bool) → List ℕ → List DeskFile → Bool
fails test name files = elim (content files name) [ None ↦ false | Some text ↦ not (test text) ]

-- the line's circuit is held, and is none
abbrev pub refuses_circuit : Option CommandLine → List DeskFile → Bool
refuses_circuit None files = false
refuses_circuit (Some (Run line)) files = fails is_circuit line.circuit files
refuses_circuit (Some (Check name)) files = fails is_circuit name files
refuses_circuit (Some (Fmt name)) files = fails is_spelled name files

-- the test is refused for the circuit of that text, where it is one
abbrev pub refuses_test_for : RunLine → List DeskFile → List ℕ → Bool
refuses_test_for line files text = elim (design_in text) [ Err r ↦ false | Ok e ↦ refuses_test_of e line files ]

-- the line's circuit is one, and its test is held and is none for it
abbrev pub refuses_test : Option CommandLine → List DeskFile → Bool
refuses_test None files = false
refuses_test (Some (Run line)) files = elim (content files line.circuit) [ None ↦ false | Some text ↦ refuses_test_for line files text ]
refuses_test (Some (Check name)) files = false
refuses_test (Some (Fmt name)) files = false
