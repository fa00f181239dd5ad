-- The items of a line, before any of them is marked: its tokens, its end, and its faulty bytes.
use Rattle.std.specs.Prelude.{ℕ, ◌+◌, if◌then◌else◌, ◌&&◌, ◌||◌, not, Bool, true, false, List, [], ◌∷◌, ◌++◌}
use Rattle.text_grammar.specs.declared.item.Item.{Item}
use Rattle.text_grammar.specs.declared.item.Symbol.TheVariants as s
use Rattle.text_grammar.specs.declared.item.Token.{Token}
use Rattle.text_grammar.specs.declared.item.Token.TheVariants as token
use Rattle.fir_lex.specs.declared.piece.Class.{Class}
use Rattle.fir_lex.specs.declared.piece.Class.TheVariants as class
use Rattle.fir_lex.specs.Pieces.{Piece, pieces, is_token, is_locator, token_of}

-- a locator hides what stands behind it, where not anywhere is looked
abbrev pub is_looked_past : Bool → Class → Bool
is_looked_past anywhere c = anywhere || not (is_locator c)

-- whether a token is among the pieces: anywhere, or in front of a locator
abbrev pub sees_token : Bool → List Piece → Bool
sees_token anywhere [] = false
sees_token anywhere (p ∷ rest) = is_token p.cut.class || (is_looked_past anywhere p.cut.class && sees_token anywhere rest)

-- Whether a piece is faulty. At front the line's first token is still to come, and a tab is; where a locator stands before it, a
-- token is, and another locator.
abbrev pub is_faulty : Bool → Bool → Class → Bool
is_faulty at_front located class.Blank = false
is_faulty at_front located class.Comment = false
is_faulty at_front located class.Stray = true
is_faulty at_front located class.Tab = at_front
is_faulty at_front located _ = located

abbrev pub placed : ℕ → ℕ → Token → Item
placed line column t = record { place = record { line = line; column = column }; token = t }

-- the end of a line stands right behind its last token, if no token follows
abbrev pub line_end : ℕ → ℕ → Bool → List Item
line_end line column true = []
line_end line column false = placed line column (token.Symbol s.LineEnd) ∷ []

-- the items of a piece, before these pieces
abbrev pub piece_items : ℕ → ℕ → Bool → Bool → Piece → List Piece → List Item
piece_items line column at_front located p rest =
    if is_faulty at_front located p.cut.class then placed line column token.Other ∷ []
    else (if is_token p.cut.class then placed line column (token_of p.cut.class p.bytes) ∷ line_end line (column + p.cut.len) (sees_token false rest) else [])

-- the items of pieces, from a column on
abbrev pub items_from : ℕ → ℕ → Bool → Bool → List Piece → List Item
items_from line column at_front located [] = []
items_from line column at_front located (p ∷ rest) =
    piece_items line column at_front located p rest
    ++ items_from line (column + p.cut.len) (at_front && not (is_token p.cut.class)) (located || is_locator p.cut.class) rest

-- the items of a line, in front of whose first token a tab is faulty
unfoldable pub unmarked : ℕ → List ℕ → List Item
unmarked line bytes = items_from line 1 (sees_token true (pieces bytes)) false (pieces bytes)
