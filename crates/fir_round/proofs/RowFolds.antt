-- A statement's printed lines, its test and its lines in a printed text, from one level of it.
use Rattle.std.proofs.Common.{◌≡◌, ℕ, ◌+◌, Bool, true, false, List, [], ◌∷◌, ◌++◌, sym, ap, ◌∙◌, subst}
use Rattle.fir_ast.specs.Limits.{Limits}
use Rattle.fir_ast.specs.RowGrammar.{row_from}
use Rattle.fir_ast.specs.declared.tree.Stmt.{Stmt}
use Rattle.fir_ast.specs.declared.tree.Stmt.TheOpen.{Stmt-F}
use Rattle.fir_ast.specs.declared.tree.Stmt.TheViews.{roll-Stmt}
use Rattle.fir_ast.specs.declared.tree.Stmt.TheFolds.{fold-roll-Stmt, map-Stmt}
use Rattle.fir_print_laws.specs.Atoms.{Atom, Line, word, stmt_level, stmt_lines}
use Rattle.fir_print_laws.specs.Printable.{stmt_test, stmt_fits}
use Rattle.fir_round.specs.Relined.{Placed, placed_level, stmt_placed}
use Rattle.fir_round.specs.Again.{RowAgain, row_items, leads_block}

-- one level of each, where those of the statements inside are known
abbrev pub level_lines : Stmt-F Stmt → List Atom → List Line
level_lines y = stmt_level (map-Stmt Stmt (List Atom → List Line) stmt_lines y)

abbrev pub level_fits : Stmt-F Stmt → Bool
level_fits y = stmt_test (map-Stmt Stmt Bool stmt_fits y)

abbrev pub level_placed : Stmt-F Stmt → Placed Stmt
level_placed y = placed_level (map-Stmt Stmt (Placed Stmt) stmt_placed y)

pub lines_rolled : (y : Stmt-F Stmt) (x : Stmt) → roll-Stmt y ≡ x → stmt_lines x ≡ level_lines y
lines_rolled y x e = ap stmt_lines (sym e) ∙ fold-roll-Stmt (List Atom → List Line) stmt_level y

pub fits_rolled : (y : Stmt-F Stmt) (x : Stmt) → roll-Stmt y ≡ x → stmt_fits x ≡ level_fits y
fits_rolled y x e = ap stmt_fits (sym e) ∙ fold-roll-Stmt Bool stmt_test y

pub placed_rolled : (y : Stmt-F Stmt) (x : Stmt) → roll-Stmt y ≡ x → stmt_placed x ≡ level_placed y
placed_rolled y x e = ap stmt_placed (sym e) ∙ fold-roll-Stmt (Placed Stmt) placed_level y

-- a row, where each of its facts is known of the level
pub row_again : (l : Limits) (y : Stmt-F Stmt) (x : Stmt) (first : List ℕ) (behind : List Atom) → roll-Stmt y ≡ x
    → ((i : List Atom) → level_lines y i ≡ (i ++ (word first ∷ behind)) ∷ [])
    → level_fits y ≡ true
    → leads_block first ≡ false
    → ((line column at end : ℕ) → (row_from l column line first).spells (row_items line at behind end) (level_placed y line).0)
    → ((line : ℕ) → (level_placed y line).1 ≡ 1 + line)
    → RowAgain l x
row_again l y x first behind e lines fits plain again one = record {
  first = first;
  behind = behind;
  printed = λ i. ap (λ (f : List Atom → List Line). f i) (lines_rolled y x e) ∙ lines i;
  fits = fits_rolled y x e ∙ fits;
  plain = plain;
  again = λ line column at end. subst (λ (f : Placed Stmt). (row_from l column line first).spells (row_items line at behind end) (f line).0) (sym (placed_rolled y x e)) (again line column at end);
  one = λ line. ap (λ (f : Placed Stmt). (f line).1) (placed_rolled y x e) ∙ one line;
}
