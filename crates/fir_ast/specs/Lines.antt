-- Lines in blocks, by their indentation. A row takes the end of its line, so the next item is always the first token of
-- a logical line, and that token's column is the line's indentation and one.
use Rattle.std.specs.Prelude.{◌≡◌, ◌<◌, ◌⊎◌, ℕ, zero, suc, Bool, true, false, not, ◌&&◌, if◌then◌else◌, List, [], ◌∷◌, ◌++◌, length, Option, Some, None, Ok, Err, codes}
use Rattle.text_grammar.specs.declared.item.Item.{Item}
use Rattle.text_grammar.specs.declared.item.Token.{Token}
use Rattle.text_grammar.specs.declared.item.Token.TheVariants as token
use Rattle.text_grammar.specs.declared.fault.Kind.{Kind}
use Rattle.text_grammar.specs.Part.{Part, Outcome, ◌>>=◌, kind_at, starts, one}
use Rattle.text_grammar.specs.Terminals.{at, deeper, column_of, line_if, is_word, is_name}

-- ---- the first words of lines

-- a line at this column that begins with this word
abbrev pub begins_line : ℕ → List ℕ → Item → Bool
begins_line column text x = at column x && is_word text x

abbrev pub is_else : ℕ → Item → Bool
is_else column x = begins_line column (codes "else") x

-- a line at this column that begins with another word than `else`
abbrev pub is_line : ℕ → Item → Bool
is_line column x = at column x && (is_name x && not (is_word (codes "else") x))

-- such a word; its value is the number of the line
unfoldable pub line_word : ℕ → List ℕ → Part ℕ
line_word column text = one (λ x. line_if (begins_line column text x) x.place.line)

abbrev pub head_if : Bool → ℕ → Token → Option (ℕ × List ℕ)
head_if true line (token.Word w) = Some (line, w)
head_if true line _ = None
head_if false line _ = None

-- the first word of a line; its value is the number of the line, and the word
unfoldable pub leading_word : (Item → Bool) → Part (ℕ × List ℕ)
leading_word test = one (λ x. head_if (test x) x.place.line x.token)

abbrev pub first_word : ℕ → Part (ℕ × List ℕ)
first_word column = leading_word (is_line column)

abbrev pub else_word : ℕ → Part (ℕ × List ℕ)
else_word column = leading_word (is_else column)

-- ---- blocks

-- The lines of a block are deeper than its head, which stands at this column, and the first of them sets the column of all.
unfoldable pub indented : {A : Type 0} → ℕ → (ℕ → Part A) → Part A
indented column p = record {
  spells = λ ts a. (inner : ℕ) × (starts (deeper column) ts ≡ true) × (column_of ts ≡ inner) × (p inner).spells ts a;
  fronts = λ ts. (ts ≡ []) ⊎ ((inner : ℕ) × (starts (deeper column) ts ≡ true) × (column_of ts ≡ inner) × (p inner).fronts ts);
  passes = λ k front rest. (inner : ℕ) × (starts (deeper column) (front ++ rest) ≡ true) × (column_of (front ++ rest) ≡ inner) × (p inner).passes k front rest;
  reads = λ ts. if starts (deeper column) ts then (p (column_of ts)).reads ts else Err (kind_at ts, length ts);
}

-- ---- lines that tell which lines may follow

-- In the state s, the part (p s) may stand next, and its value a leads to the state (next s a).
abbrev pub SpellsFrom : {S A : Type 0} → (S → List Item → A → Type 0) → (S → A → S) → S → List Item → List A → Type 0
SpellsFrom spells next s ts [] = ts ≡ []
SpellsFrom spells next s ts (a ∷ more) = (xs ys : List Item) × (ts ≡ xs ++ ys) × spells s xs a × SpellsFrom spells next (next s a) ys more

abbrev pub state_after : {S A : Type 0} → (S → A → S) → S → List A → S
state_after next s [] = s
state_after next s (a ∷ more) = state_after next (next s a) more

-- the number bounds the turns; each turn takes an item, so the count of items is enough
unfoldable pub from_at : {S A : Type 0} → (Item → Bool) → (S → List Item → Outcome A) → (S → A → S) → ℕ → S → List Item → Outcome (List A)
from_at begins reads next zero s ts = Ok ([], ts)
from_at begins reads next (suc n) s ts = if starts begins ts then (reads s ts >>= λ x. from_at begins reads next n (next s x.0) x.1 >>= λ y. Ok (x.0 ∷ y.0, y.1)) else Ok ([], ts)

unfoldable pub many_from : {S A : Type 0} → (Item → Bool) → (S → Part A) → (S → A → S) → S → Part (List A)
many_from {S = S} {A = A} begins p next s = record {
  spells = SpellsFrom (λ z. (p z).spells) next s;
  fronts = λ ts. (xs ys : List Item) × (before : List A) × (ts ≡ xs ++ ys) × SpellsFrom (λ z. (p z).spells) next s xs before × ((ys ≡ []) ⊎ (p (state_after next s before)).fronts ys);
  passes = λ k front rest. (xs ys : List Item) × (before : List A) × (front ≡ xs ++ ys) × SpellsFrom (λ z. (p z).spells) next s xs before × (p (state_after next s before)).passes k ys rest;
  reads = λ ts. from_at begins (λ z. (p z).reads) next (length ts) s ts;
}
