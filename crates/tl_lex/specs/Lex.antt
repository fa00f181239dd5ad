-- The items of a test text, and the place of its end.
use Rattle.std.specs.Prelude.{ℕ, zero, suc, ◌+◌, ◌-◌, not, if◌then◌else◌, List, [], ◌∷◌, Option, Some, None}
use Rattle.std.specs.List.{count_by, suffix_len}
use Rattle.tb_base.specs.declared.place.Place.{Place}
use Rattle.text_grammar.specs.declared.item.Item.{Item}
use Rattle.text_grammar.specs.declared.item.Token.{Token}
use Rattle.text_grammar.specs.Lex.{text_start}
use Rattle.tl_lex.specs.Pieces.{is_feed, piece}

-- ---- places

-- the place of the byte after b, which stands at p: a line feed ends its line
abbrev pub place_after : Place → ℕ → Place
place_after p b = if is_feed b then record { line = p.line + 1; column = 1 } else record { line = p.line; column = p.column + 1 }

-- the place behind bytes, the first of which stands at p
abbrev pub place_behind : Place → List ℕ → Place
place_behind p [] = p
place_behind p (b ∷ rest) = place_behind (place_after p b) rest

-- the place behind a text's last byte
abbrev pub end_of : List ℕ → Place
end_of text = record { line = 1 + count_by is_feed text; column = 1 + suffix_len (λ b. not (is_feed b)) text }

-- ---- items

-- a token's item comes before the items after it
abbrev pub placed : Option Token → Place → List Item → List Item
placed None p more = more
placed (Some t) p more = record { place = p; token = t } ∷ more

-- The items from a place on. The number counts the bytes that are left of a piece which began before.
unfoldable pub items_from : ℕ → Place → List ℕ → List Item
items_from left p [] = []
items_from (suc left) p (b ∷ rest) = items_from left (place_after p b) rest
items_from zero p (b ∷ rest) = let c = piece (b ∷ rest) in placed c.token p (items_from (c.len - 1) (place_after p b) rest)

-- the items of a text
unfoldable pub items_of : List ℕ → List Item
items_of text = items_from 0 text_start text
