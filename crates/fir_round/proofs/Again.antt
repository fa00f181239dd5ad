-- What is printed is read again.
use Rattle.std.specs.Prelude.{◌≡◌, ℕ, List, Some}
use Rattle.fir_ast.specs.Circuits.{circuit_of, spells_circuit}
use Rattle.fir_ast.specs.Printed.{printed}
use Rattle.fir_ast.specs.declared.tree.Circuit.{Circuit}
use Rattle.fir_read.proofs.Texts.{spelled_found, found_spelled}
use Rattle.fir_round.specs.Relined.{relined, SameButLines}
use Rattle.fir_round.proofs.ItemSound.{items_sound}
use Rattle.fir_round.proofs.TypesAgain.{types_again}
use Rattle.fir_round.proofs.ExprsAgain.{exprs_again}
use Rattle.fir_round.proofs.RowsAgain.{rows_again}
use Rattle.fir_round.proofs.Whole.{round}

pub spelled_again : (text : List ℕ) (c : Circuit) → spells_circuit text c → spells_circuit (printed c) (relined c) × SameButLines c (relined c)
spelled_again = round items_sound exprs_again (rows_again types_again exprs_again)

pub read_again : (text : List ℕ) (c : Circuit) → circuit_of text ≡ Some c → circuit_of (printed c) ≡ Some (relined c)
read_again text c h = spelled_found (printed c) (relined c) (spelled_again text c (found_spelled text c h)).0
