-- Printed lines: their items from a line on, and the line behind them.
use Rattle.std.proofs.Common.{◌≡◌, ℕ, zero, suc, ◌+◌, List, [], ◌∷◌, ◌++◌, length, refl, sym, ap, ◌∙◌, append_assoc, append-nil, arith}
use Rattle.std.specs.Prelude.{Some, None}
use Rattle.text_grammar.specs.declared.item.Item.{Item}
use Rattle.text_grammar.specs.declared.item.Symbol.TheVariants as s
use Rattle.text_grammar.specs.declared.item.Token.TheVariants as token
use Rattle.fir_lex.specs.Lines.{placed}
use Rattle.fir_print_laws.specs.Atoms.{Atom, Line, atom_text, text, space, word, deeper}
use Rattle.fir_print_laws.specs.Items.{items_at, lines_items}
use Rattle.fir_round.specs.Again.{row_items}

-- so many spaces
abbrev pub spaces : ℕ → List Atom
spaces zero = []
spaces (suc n) = space ∷ spaces n

-- the spaces of a block within lines of so many
pub spaces_deeper : (n : ℕ) → deeper (spaces n) ≡ spaces (suc (suc n))
spaces_deeper zero = refl
spaces_deeper (suc n) = ap (λ z. space ∷ z) (spaces_deeper n)

spaced : (n line column : ℕ) (xs : List Atom) → items_at line column (spaces n ++ xs) ≡ items_at line (column + n) xs
spaced zero line column xs = let e : column + 0 ≡ column = omega arith in rw e refl
spaced (suc n) line column xs = let e : column + 1 + n ≡ column + suc n = omega arith in spaced n line (column + 1) xs ∙ ap (λ c. items_at line c xs) e

-- the items of one list of atoms behind another, wherever these stand
pub items_both : (line column : ℕ) (xs ys : List Atom) → (c : ℕ) × (items_at line column (xs ++ ys) ≡ items_at line column xs ++ items_at line c ys)
items_both line column [] ys = (column, refl)
items_both line column (None ∷ xs) ys = items_both line (column + 1) xs ys
items_both line column (Some t ∷ xs) ys = let r = items_both line (column + length (atom_text (Some t))) xs ys in (r.0, ap (λ z. placed line column t ∷ z) r.1)

-- ---- lines

-- the lines have these items from a line on, and what is printed behind them stands on the line next
pub record Printed (line : ℕ) (lines : List Line) (items : List Item) (next : ℕ) : Type 0 where
  pub printed : (more : List Line) → lines_items line (lines ++ more) ≡ items ++ lines_items next more

pub printed_none : (line : ℕ) → Printed line [] [] line
printed_none line = record { printed = λ more. refl }

pub printed_both : (line mid next : ℕ) (xs ys : List Line) (us vs : List Item) → Printed line xs us mid → Printed mid ys vs next → Printed line (xs ++ ys) (us ++ vs) next
printed_both line mid next xs ys us vs a b = record {
  printed = λ more.
      ap (lines_items line) (append_assoc xs ys more) ∙ a.printed (ys ++ more) ∙ ap (λ z. us ++ z) (b.printed more) ∙ sym (append_assoc us vs (lines_items next more));
}

-- a line that begins with a word behind so many spaces
abbrev pub at_behind : ℕ → List ℕ → ℕ
at_behind n w = suc n + length w

abbrev pub end_of : ℕ → List ℕ → List Atom → ℕ
end_of n w rest = 1 + length (text (spaces n ++ (word w ∷ rest)))

pub printed_line : (line n : ℕ) (w : List ℕ) (rest : List Atom)
    → Printed line ((spaces n ++ (word w ∷ rest)) ∷ []) (placed line (suc n) (token.Word w) ∷ row_items line (at_behind n w) rest (end_of n w rest)) (suc line)
printed_line line n w rest = record { printed = λ more. (let e : 1 + n ≡ suc n = omega arith in ap (λ z. (z ++ placed line (end_of n w rest) (token.Symbol s.LineEnd) ∷ []) ++ lines_items (suc line) more) (spaced n line 1 (word w ∷ rest) ∙ ap (λ c. items_at line c (word w ∷ rest)) e)) }

-- all lines of a text
pub printed_all : (line next : ℕ) (lines : List Line) (items : List Item) → Printed line lines items next → lines_items line lines ≡ items
printed_all line next lines items a = ap (lines_items line) (sym (append-nil lines)) ∙ a.printed [] ∙ append-nil items
