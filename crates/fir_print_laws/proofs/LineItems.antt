-- A printed line is cut into its tokens, and none of them is marked.
use Rattle.std.proofs.Common.{◌≡◌, ℕ, ◌+◌, Bool, true, false, List, [], ◌∷◌, ◌++◌, length, drop, refl, sym, ap, ◌∙◌, append_assoc, append-nil, arith, length-append}
use Rattle.std.specs.Prelude.{◌&&◌, Some, None, codes}
use Rattle.std.proofs.Math.Seq.{take-append_seam, drop-append_seam}
use Rattle.text_grammar.specs.declared.item.Item.{Item}
use Rattle.text_grammar.specs.declared.item.Symbol.TheVariants as s
use Rattle.text_grammar.specs.declared.item.Token.{Token}
use Rattle.text_grammar.specs.declared.item.Token.TheVariants as token
use Rattle.fir_lex.specs.declared.piece.Class.TheVariants as class
use Rattle.fir_lex.specs.Pieces.{pieces, cut, cut_as, is_token}
use Rattle.fir_lex.specs.Lines.{sees_token, items_from, line_end, placed, unmarked}
use Rattle.fir_lex.proofs.Going.{first_and_rest}
use Rattle.fir_print_laws.specs.Atoms.{Atom, text, token_text}
use Rattle.fir_print_laws.specs.Items.{items_at, line_items}
use Rattle.fir_print_laws.specs.Standing.{Stops, Stands, Ends}
use Rattle.fir_print_laws.proofs.Tokens.{Cuts, word_cuts, number_cuts, mark_cuts, text_cuts}

pub stops_cuts : (t : Token) (rest : List ℕ) → Stops t rest → Cuts t rest
stops_cuts (token.Word w) rest h = word_cuts w rest h.0 h.1
stops_cuts (token.Number n) rest h = number_cuts n rest h.0 h.1
stops_cuts (token.Text t) rest h = text_cuts t rest h.0
stops_cuts (token.Symbol symbol) rest h = mark_cuts symbol rest h
stops_cuts _ rest h = absurd h

first_piece : (t : Token) (rest : List ℕ) (c : Cuts t rest) → pieces (token_text t ++ rest) ≡ record { cut = cut_as c.class (length (token_text t)); bytes = token_text t } ∷ pieces rest
first_piece t rest c =
    let size = length-append (token_text t) rest in
    first_and_rest (token_text t ++ rest) (cut_as c.class (length (token_text t))) (sym c.is) c.some (omega (arith, size))
    ∙ ap (λ xs. record { cut = cut_as c.class (length (token_text t)); bytes = xs } ∷ pieces (drop (length (token_text t)) (token_text t ++ rest))) (take-append_seam (token_text t) rest)
    ∙ ap (λ xs. record { cut = cut_as c.class (length (token_text t)); bytes = token_text t } ∷ pieces xs) (drop-append_seam (token_text t) rest)

space_piece : (rest : List ℕ) → pieces (codes " " ++ rest) ≡ record { cut = cut_as class.Blank 1; bytes = codes " " } ∷ pieces rest
unfolding cut
space_piece rest = refl

any_token : List Atom → Bool
any_token [] = false
any_token (None ∷ xs) = any_token xs
any_token (Some t ∷ xs) = true

-- the items of a line, with its end behind the last token
ended : ℕ → ℕ → List Atom → List Item
ended line column [] = []
ended line column (None ∷ xs) = ended line (column + 1) xs
ended line column (Some t ∷ xs) = placed line column t ∷ (line_end line (column + length (token_text t)) (any_token xs) ++ ended line (column + length (token_text t)) xs)

behind : Atom → List Atom → List ℕ
behind x xs = text xs ++ []

sees_is : (xs : List Atom) → Stands xs [] → sees_token false (pieces (text xs ++ [])) ≡ any_token xs
unfolding any_token
sees_is [] h = refl
sees_is (None ∷ xs) h = ap (λ z. sees_token false (pieces z)) (append_assoc (codes " ") (text xs) []) ∙ ap (sees_token false) (space_piece (text xs ++ [])) ∙ sees_is xs h
sees_is (Some t ∷ xs) h =
    let c = stops_cuts t (text xs ++ []) h.0 in
    let one : is_token c.class ≡ true = c.yes in
    ap (λ z. sees_token false (pieces z)) (append_assoc (token_text t) (text xs) []) ∙ ap (sees_token false) (first_piece t (text xs ++ []) c) ∙ rw one refl

items_are : (xs : List Atom) (line column : ℕ) (front : Bool) → Stands xs [] → items_from line column front false (pieces (text xs ++ [])) ≡ ended line column xs
unfolding ended
items_are [] line column front h = refl
items_are (None ∷ xs) line column front h =
    ap (λ z. items_from line column front false (pieces z)) (append_assoc (codes " ") (text xs) []) ∙ ap (items_from line column front false) (space_piece (text xs ++ []))
    ∙ items_are xs line (column + 1) (front && true) h
items_are (Some t ∷ xs) line column front h =
    let c = stops_cuts t (text xs ++ []) h.0 in
    let seen = sees_is xs h.1 in
    let a = c.free front in
    let b = c.yes in
    let d = c.token in
    let e = c.here in
    ap (λ z. items_from line column front false (pieces z)) (append_assoc (token_text t) (text xs) []) ∙ ap (items_from line column front false) (first_piece t (text xs ++ []) c)
    ∙ rw (a, b, d, e, seen) (ap (λ z. placed line column t ∷ (line_end line (column + length (token_text t)) (any_token xs) ++ z)) (items_are xs line (column + length (token_text t)) (front && false) h.1))

-- ---- a line that ends with a token

any_ends : (xs : List Atom) → Ends xs → any_token xs ≡ true
unfolding any_token
any_ends [] h = absurd h
any_ends (None ∷ []) h = absurd h
any_ends (Some t ∷ rest) h = refl
any_ends (None ∷ y ∷ rest) h = any_ends (y ∷ rest) h

end_item : ℕ → ℕ → Item
end_item line column = placed line column (token.Symbol s.LineEnd)

ended_is : (xs : List Atom) (line column : ℕ) → Ends xs → ended line column xs ≡ items_at line column xs ++ placed line (column + length (text xs)) (token.Symbol s.LineEnd) ∷ []
unfolding ended any_token
ended_is [] line column h = absurd h
ended_is (None ∷ []) line column h = absurd h
ended_is (Some t ∷ []) line column h = ap (λ z. placed line column t ∷ placed line (column + length z) (token.Symbol s.LineEnd) ∷ []) (sym (append-nil (token_text t)))
ended_is (None ∷ y ∷ rest) line column h =
    let size = length-append (codes " ") (text (y ∷ rest)) in
    let e : column + 1 + length (text (y ∷ rest)) ≡ column + length (text (None ∷ y ∷ rest)) = omega (arith, size) in
    ended_is (y ∷ rest) line (column + 1) h ∙ ap (λ n. items_at line (column + 1) (y ∷ rest) ++ placed line n (token.Symbol s.LineEnd) ∷ []) e
ended_is (Some t ∷ y ∷ rest) line column h =
    let size = length-append (token_text t) (text (y ∷ rest)) in
    let e : column + length (token_text t) + length (text (y ∷ rest)) ≡ column + length (text (Some t ∷ y ∷ rest)) = omega (arith, size) in
    let some = any_ends (y ∷ rest) h in
    ap (λ b. placed line column t ∷ (line_end line (column + length (token_text t)) b ++ ended line (column + length (token_text t)) (y ∷ rest))) some
    ∙ ap (λ z. placed line column t ∷ z) (ended_is (y ∷ rest) line (column + length (token_text t)) h ∙ ap (λ n. items_at line (column + length (token_text t)) (y ∷ rest) ++ placed line n (token.Symbol s.LineEnd) ∷ []) e)

pub unmarked_is : (xs : List Atom) (line : ℕ) → Stands xs [] → Ends xs → unmarked line (text xs) ≡ line_items line xs
unfolding unmarked
unmarked_is xs line h k =
    ap (λ z. items_from line 1 (sees_token true (pieces z)) false (pieces z)) (sym (append-nil (text xs)))
    ∙ items_are xs line 1 (sees_token true (pieces (text xs ++ []))) h ∙ ended_is xs line 1 k
