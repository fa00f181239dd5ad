-- Worked examples: circuits with the lines of their printed forms, and circuits that are the same but for their lines or are not.
use Rattle.std.specs.Prelude.{ℕ, ◌≡◌, false, Some, List, [], ◌∷◌, length, codes}
use Rattle.fir_ast.specs.declared.tree.Ty.TheVariants.{UInt}
use Rattle.fir_ast.specs.declared.tree.Expr.TheVariants.{Ident}
use Rattle.fir_ast.specs.declared.tree.Port.{Port}
use Rattle.fir_ast.specs.declared.tree.Module.{Module}
use Rattle.fir_ast.specs.declared.tree.Stmt.{Stmt}
use Rattle.fir_ast.specs.declared.tree.Stmt.TheVariants.{Node, When, Skip}
use Rattle.fir_ast.specs.declared.tree.Circuit.{Circuit}
use Rattle.fir_print_laws.specs.Atoms.{circuit_lines}
use Rattle.fir_round.specs.Relined.{relined, SameButLines}

-- `input c : UInt<1>`, on a line
abbrev input : ℕ → Port
input line = record { line = line; output = false; name = codes "c"; ty = UInt (Some 1) }

abbrev module_of : ℕ → List ℕ → List Port → List Stmt → Module
module_of line name ports body = record { line = line; name = name; ports = ports; body = body }

abbrev circuit : ℕ → List Module → Circuit
circuit line modules = record { line = line; name = codes "M"; modules = modules }

-- `when c :`, a `skip`, and the block of its `else`
abbrev when : ℕ → ℕ → List Stmt → Stmt
when line taken other = When line (Ident (codes "c")) (Skip taken ∷ []) other

-- As it is written, from line 3 on: `else when` is one line, and an empty line stands before the second module.
--
--     circuit M :
--       module M :
--         input c : UInt<1>
--         when c :
--           skip
--         else when c :
--           skip
--         node n = c
--
--       public module N :
abbrev pub written : Circuit
written = circuit 3 (module_of 4 (codes "M") (input 5 ∷ []) (when 6 7 (when 8 9 [] ∷ []) ∷ Node 10 (codes "n") (Ident (codes "c")) ∷ []) ∷ module_of 12 (codes "N") [] [] ∷ [])

-- Its printed form has these lines, the `else` one of its own:
--
--     circuit M :
--       module M :
--         input c : UInt<1>
--         when c :
--           skip
--         else :
--           when c :
--             skip
--         node n = c
--       module N :
abbrev pub printed : Circuit
printed = circuit 1 (module_of 2 (codes "M") (input 3 ∷ []) (when 4 5 (when 7 8 [] ∷ []) ∷ Node 9 (codes "n") (Ident (codes "c")) ∷ []) ∷ module_of 10 (codes "N") [] [] ∷ [])

pub record NewLines : Type 0 where
  pub new_lines : relined written ≡ printed
  pub again : relined printed ≡ printed
  pub as_many : length (circuit_lines written) ≡ 10
  -- no block, no line of an `else`
  pub no_else : relined (circuit 1 (module_of 2 (codes "M") [] (when 9 9 [] ∷ Skip 9 ∷ []) ∷ [])) ≡ circuit 1 (module_of 2 (codes "M") [] (when 3 4 [] ∷ Skip 5 ∷ []) ∷ [])
  pub same : SameButLines written printed
  -- another name is another circuit
  pub others : SameButLines (circuit 1 (module_of 2 (codes "M") [] [] ∷ [])) (circuit 1 (module_of 2 (codes "N") [] [] ∷ [])) → ⊥
