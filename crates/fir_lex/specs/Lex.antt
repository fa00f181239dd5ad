-- The items of a circuit text, and the place of its end.
use Rattle.std.specs.Prelude.{ℕ, suc, ◌+◌, ◌-◌, if◌then◌else◌, ◌==◌, not, Bool, List, [], ◌∷◌, ◌++◌, length, take, slice_index}
use Rattle.std.specs.List.{slice_split, count_by, suffix_len}
use Rattle.tb_base.specs.declared.place.Place.{Place}
use Rattle.text_grammar.specs.declared.item.Item.{Item}
use Rattle.fir_lex.specs.Lines.{unmarked}
use Rattle.fir_lex.specs.Marks.{marked}

abbrev pub is_feed : ℕ → Bool
is_feed b = b == 10

-- the items of a line
abbrev pub line_items : ℕ → List ℕ → List Item
line_items line bytes = marked (unmarked line bytes)

-- a line without the carriage return (13) at its end, if one is there
abbrev pub without_return : List ℕ → List ℕ
without_return bytes = if slice_index bytes (length bytes - 1) == 13 then take (length bytes - 1) bytes else bytes

-- the items of lines, the first of which has this number; a line feed stands behind each but the last
abbrev pub lines_items : ℕ → List (List ℕ) → List Item
lines_items n [] = []
lines_items n (line ∷ []) = line_items n line
lines_items n (line ∷ next ∷ more) = line_items n (without_return line) ++ lines_items (suc n) (next ∷ more)

-- the items of a text
unfoldable pub items_of : List ℕ → List Item
items_of text = lines_items 1 (slice_split is_feed text)

-- the place behind a text's last byte
abbrev pub end_of : List ℕ → Place
end_of text = record { line = 1 + count_by is_feed text; column = 1 + suffix_len (λ b. not (is_feed b)) text }
