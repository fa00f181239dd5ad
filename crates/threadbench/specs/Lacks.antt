-- Which commands lack a file that they need.
use Rattle.std.specs.Prelude.{ℕ, Bool, true, false, ◌&&◌, List, Some, None, is_none}
use Rattle.std.specs.declared.option.Option.{Option}
use Rattle.bench_desk.specs.declared.desk.DeskFile.{DeskFile}
use Rattle.bench_desk.specs.Meaning.{content}
use Rattle.threadbench.specs.Answer.{RunLine, CommandLine, Run, Check, Fmt}
use Rattle.threadbench.specs.Refused.{is_circuit}

-- the text is a circuit's, and the line's test isn't held
abbrev pub lacks_test : RunLine → List DeskFile → List ℕ → Bool
lacks_test line files text = is_circuit text && is_none (content files line.test)

-- the line's circuit isn't held; or it is one, and the line's test isn't held
abbrev pub lacks_file : Option CommandLine → List DeskFile → Bool
lacks_file None files = false
lacks_file (Some (Run line)) files = elim (content files line.circuit) [ None ↦ true | Some text ↦ lacks_test line files text ]
lacks_file (Some (Check name)) files = is_none (content files name)
lacks_file (Some (Fmt name)) files = is_none (content files name)
