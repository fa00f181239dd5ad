use Rattle.std.proofs.Common.{◌≡◌, ℕ, suc, List, [], ◌∷◌, ◌++◌, refl, sym, ap, ◌∙◌, subst}
use Rattle.std.specs.Prelude.{true, false, codes}
use Rattle.std.specs.Str.{bytes_eq}
use Rattle.fir_ast.specs.declared.tree.Expr.{Expr}
use Rattle.fir_ast.specs.declared.tree.Stmt.{Stmt}
use Rattle.fir_ast.specs.declared.tree.Stmt.TheOpen as F
use Rattle.fir_ast.specs.declared.tree.Stmt.TheVariants.{Node, Skip, rolls-Node, rolls-Skip}
use Rattle.fir_ast.specs.declared.tree.Stmt.TheFolds.{fold-roll-Stmt}
use Rattle.fir_ast.specs.declared.tree.Module.{Module}
use Rattle.fir_print_laws.specs.Atoms.{Atom, Line, word, stmt_level, stmt_lines, circuit_lines}
use Rattle.fir_print_laws.proofs.Rows.{node_lines}
use Rattle.fir_round.specs.Examples.{written, printed}
use Rattle.fir_round.specs.Relined.{Placed, placed_level, stmt_placed, relined, SameButLines}
use Rattle.fir_round.proofs.Blocks.{when_placed, when_lines}
use Rattle.fir_round.proofs.Unlined.{only_lines}
use Rattle.fir_round.proofs.examples.the_new_lines_work_out.Goals as goal

node_placed : (old line : ℕ) (name : List ℕ) (value : Expr) → stmt_placed (Node old name value) line ≡ (Node line name value, suc line)
node_placed old line name value = ap (λ x. stmt_placed x line) (sym (rolls-Node old name value)) ∙ ap (λ f. f line) (fold-roll-Stmt (Placed Stmt) placed_level (F.Node old name value))

skip_placed : (old line : ℕ) → stmt_placed (Skip old) line ≡ (Skip line, suc line)
skip_placed old line = ap (λ x. stmt_placed x line) (sym (rolls-Skip old)) ∙ ap (λ f. f line) (fold-roll-Stmt (Placed Stmt) placed_level (F.Skip old))

skip_lines : (line : ℕ) (i : List Atom) → stmt_lines (Skip line) i ≡ (i ++ (word (codes "skip") ∷ [])) ∷ []
skip_lines line i = ap (λ x. stmt_lines x i) (sym (rolls-Skip line)) ∙ ap (λ f. f i) (fold-roll-Stmt (List Atom → List Line) stmt_level (F.Skip line))

new_lines : relined written ≡ printed
unfolding relined
new_lines = simp (when_placed, node_placed, skip_placed) refl

first_name : List Module → List ℕ
first_name [] = []
first_name (m ∷ more) = m.name

pub returns : goal.returns
unfolding relined circuit_lines SameButLines first_name
returns c = record {
  new_lines = new_lines;
  again = simp (when_placed, node_placed, skip_placed) refl;
  as_many = simp (when_lines, node_lines, skip_lines) refl;
  no_else = simp (when_placed, skip_placed) refl;
  same = subst (λ d. SameButLines written d) new_lines (only_lines written);
  others = λ e. absurd (let bad : true ≡ false = ap (λ d. bytes_eq (first_name d.modules) (codes "M")) e in cc);
}
