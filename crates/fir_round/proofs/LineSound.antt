-- The items of a line are sound, and its end closes the brackets that are open on it.
use Rattle.std.proofs.Common.{◌≡◌, ℕ, ◌+◌, ◌≤◌, Bool, true, false, List, [], ◌∷◌, ◌++◌, refl, ap, ◌∙◌, inl, inr, arith}
use Rattle.std.specs.Prelude.{◌⊎◌, ◌&&◌, ◌||◌, not, nat_lt, if◌then◌else◌, Option, Some, None, codes}
use Rattle.std.proofs.lemmas.Bool.{or_parts}
use Rattle.std.proofs.lemmas.Bool.Decides.{nat_tests}
use Rattle.text_grammar.specs.Terminals.{is_word, is_symbol, is_name}
use Rattle.text_grammar.specs.declared.item.Item.{Item}
use Rattle.text_grammar.specs.declared.item.Symbol.{Symbol}
use Rattle.text_grammar.specs.declared.item.Symbol.TheVariants as s
use Rattle.text_grammar.specs.declared.item.Token.{Token}
use Rattle.text_grammar.specs.declared.item.Token.TheVariants as token
use Rattle.text_grammar.specs.declared.fault.Form.{Form}
use Rattle.fir_lex.specs.declared.mark.Bracket.{Bracket}
use Rattle.fir_lex.specs.declared.mark.Bracket.TheVariants.{Open, Close}
use Rattle.fir_lex.specs.declared.piece.Class.{Class}
use Rattle.fir_lex.specs.declared.piece.Class.TheVariants as class
use Rattle.fir_lex.specs.Pieces.{Piece, pieces, is_token, is_locator, token_of}
use Rattle.fir_lex.specs.Lines.{sees_token, is_faulty, placed, line_end, piece_items, items_from, unmarked}
use Rattle.fir_lex.specs.Marks.{limit, form_of, operation, attach, declared, memory_port, or_else, unsupported, forms_marked, symbol_bracket, bracket_step, token_step, brackets_marked, marked}
use Rattle.fir_lex.specs.Lex.{line_items}
use Rattle.fir_print_laws.specs.Standing.{no_feed}
use Rattle.fir_round.specs.Sound.{Sound, SoundToken, Room, bracket_after, symbol_after, token_after, open_after}
use Rattle.fir_round.proofs.TokenSound.{SoundPieces, pieces_sound}

-- ---- what is said of each token

abbrev Each : (Token → Type 0) → List Item → Type 0
Each P [] = Unit {0}
Each P (x ∷ rest) = P x.token × Each P rest

each_both : (P : Token → Type 0) (xs ys : List Item) → Each P xs → Each P ys → Each P (xs ++ ys)
each_both P [] ys h k = k
each_both P (x ∷ xs) ys h k = (h.0, each_both P xs ys h.1 k)

-- no symbol
abbrev IsBare : Token → Type 0
IsBare (token.Symbol symbol) = ⊥
IsBare _ = Unit {0}

-- a line's end stands behind the last token that is another symbol
abbrev Ended : List Item → Type 0
Ended [] = ⊥
Ended (x ∷ rest) = Ended rest ⊎ ((x.token ≡ token.Symbol s.LineEnd) × Each IsBare rest)

ended_behind : (xs ys : List Item) → Ended ys → Ended (xs ++ ys)
ended_behind [] ys h = h
ended_behind (x ∷ xs) ys h = inl (ended_behind xs ys h)

-- ---- items before they are marked

piece_sound : (line column : ℕ) (at_front located : Bool) (p : Piece) (rest : List Piece) → SoundToken (token_of p.cut.class p.bytes) → Each SoundToken (piece_items line column at_front located p rest)
piece_sound line column at_front located p rest h = go (is_faulty at_front located p.cut.class) (is_token p.cut.class) (sees_token false rest)
  where
    go : (x y z : Bool) → Each SoundToken (if x then placed line column token.Other ∷ [] else (if y then placed line column (token_of p.cut.class p.bytes) ∷ line_end line (column + p.cut.len) z else []))
    go true y z = (tt, tt)
    go false true true = (h, tt)
    go false true false = (h, (tt, tt))
    go false false z = tt

items_sound : (line column : ℕ) (at_front located : Bool) (ps : List Piece) → SoundPieces ps → Each SoundToken (items_from line column at_front located ps)
items_sound line column at_front located [] h = tt
items_sound line column at_front located (p ∷ rest) h =
    each_both SoundToken (piece_items line column at_front located p rest) (items_from line (column + p.cut.len) (at_front && not (is_token p.cut.class)) (located || is_locator p.cut.class) rest)
    (piece_sound line column at_front located p rest h.0)
    (items_sound line (column + p.cut.len) (at_front && not (is_token p.cut.class)) (located || is_locator p.cut.class) rest h.1)

-- a piece that a locator hides
located_piece : (at_front : Bool) (c : Class) (other : Item) (xs : List Item) → IsBare other.token → Each IsBare (if is_faulty at_front true c then other ∷ [] else (if is_token c then xs else []))
located_piece at_front class.Blank other xs h = tt
located_piece at_front class.Comment other xs h = tt
located_piece true class.Tab other xs h = (h, tt)
located_piece false class.Tab other xs h = tt
located_piece at_front _ other xs h = (h, tt)

located_bare : (line column : ℕ) (at_front : Bool) (ps : List Piece) → Each IsBare (items_from line column at_front true ps)
located_bare line column at_front [] = tt
located_bare line column at_front (p ∷ rest) =
    each_both IsBare (piece_items line column at_front true p rest) (items_from line (column + p.cut.len) (at_front && not (is_token p.cut.class)) true rest)
    (located_piece at_front p.cut.class (placed line column token.Other) (placed line column (token_of p.cut.class p.bytes) ∷ line_end line (column + p.cut.len) (sees_token false rest)) tt)
    (located_bare line (column + p.cut.len) (at_front && not (is_token p.cut.class)) rest)

-- where no token is seen
unseen_piece : (line column : ℕ) (at_front : Bool) (p : Piece) (rest : List Piece) → is_token p.cut.class ≡ false → Each IsBare (piece_items line column at_front false p rest)
unseen_piece line column at_front p rest h = go (is_faulty at_front false p.cut.class) (is_token p.cut.class) h
  where
    go : (x y : Bool) → y ≡ false → Each IsBare (if x then placed line column token.Other ∷ [] else (if y then placed line column (token_of p.cut.class p.bytes) ∷ line_end line (column + p.cut.len) (sees_token false rest) else []))
    go true y e = (tt, tt)
    go false true e = absurd cc
    go false false e = tt

behind_bare : (line column : ℕ) (at_front located : Bool) (rest : List Piece) → (not located && sees_token false rest) ≡ false → (sees_token false rest ≡ false → Each IsBare (items_from line column at_front false rest)) → Each IsBare (items_from line column at_front located rest)
behind_bare line column at_front true rest h later = located_bare line column at_front rest
behind_bare line column at_front false rest h later = later h

unseen_bare : (line column : ℕ) (at_front : Bool) (ps : List Piece) → sees_token false ps ≡ false → Each IsBare (items_from line column at_front false ps)
unseen_bare line column at_front [] h = tt
unseen_bare line column at_front (p ∷ rest) h =
    let parts = or_parts (is_token p.cut.class) (not (is_locator p.cut.class) && sees_token false rest) h in
    each_both IsBare (piece_items line column at_front false p rest) (items_from line (column + p.cut.len) (at_front && not (is_token p.cut.class)) (is_locator p.cut.class) rest)
    (unseen_piece line column at_front p rest parts.0)
    (behind_bare line (column + p.cut.len) (at_front && not (is_token p.cut.class)) (is_locator p.cut.class) rest parts.1 (λ k. unseen_bare line (column + p.cut.len) (at_front && not (is_token p.cut.class)) rest k))

token_fair : (at_front : Bool) (c : Class) → is_token c ≡ true → (is_faulty at_front false c ≡ false) × (is_locator c ≡ false)
token_fair at_front class.Word h = (refl, refl)
token_fair at_front (class.Number n) h = (refl, refl)
token_fair at_front class.Text h = (refl, refl)
token_fair at_front (class.Mark symbol) h = (refl, refl)
token_fair at_front class.BackQuote h = (refl, refl)
token_fair at_front _ h = absurd cc

-- a token, and the line's end behind it if it is the last one
token_ended : (line column behind : ℕ) (t : Token) (seen : Bool) (rest : List Item) → (seen ≡ true → Ended rest) → (seen ≡ false → Each IsBare rest) → Ended (placed line column t ∷ (line_end line behind seen ++ rest))
token_ended line column behind t true rest later bare = inl (later refl)
token_ended line column behind t false rest later bare = inl (inr (refl, bare refl))

seen_ended : (line column : ℕ) (at_front : Bool) (ps : List Piece) → sees_token false ps ≡ true → Ended (items_from line column at_front false ps)
seen_ended line column at_front [] h = absurd cc
seen_ended line column at_front (p ∷ rest) h = go (is_token p.cut.class) (is_locator p.cut.class) refl refl h (λ f k. seen_ended line (column + p.cut.len) f rest k)
  where
    go : (x y : Bool) → is_token p.cut.class ≡ x → is_locator p.cut.class ≡ y → (x || (not y && sees_token false rest)) ≡ true
        → ((front : Bool) → sees_token false rest ≡ true → Ended (items_from line (column + p.cut.len) front false rest)) → Ended (items_from line column at_front false (p ∷ rest))
    go true y e f k later =
        let fair = (token_fair at_front p.cut.class e).0 in
        let here = (token_fair at_front p.cut.class e).1 in
        rw (fair, here, e) (token_ended line column (column + p.cut.len) (token_of p.cut.class p.bytes) (sees_token false rest) (items_from line (column + p.cut.len) (at_front && false) false rest) (later (at_front && false))
        (λ q. unseen_bare line (column + p.cut.len) (at_front && false) rest q))
    go false true e f k later = absurd cc
    go false false e f k later = ended_behind (piece_items line column at_front false p rest) (items_from line (column + p.cut.len) (at_front && not (is_token p.cut.class)) (is_locator p.cut.class) rest) (rw f (later (at_front && not (is_token p.cut.class)) k))

-- a line has no symbol, or an end behind its last token
abbrev IsLevel : List Item → Type 0
IsLevel xs = Each IsBare xs ⊎ Ended xs

unmarked_level : (line : ℕ) (bytes : List ℕ) → IsLevel (unmarked line bytes)
unfolding unmarked
unmarked_level line bytes = go (sees_token false (pieces bytes)) refl
  where
    go : (x : Bool) → sees_token false (pieces bytes) ≡ x → IsLevel (items_from line 1 (sees_token true (pieces bytes)) false (pieces bytes))
    go true e = inr (seen_ended line 1 (sees_token true (pieces bytes)) (pieces bytes) e)
    go false e = inl (unseen_bare line 1 (sees_token true (pieces bytes)) (pieces bytes) e)

-- ---- forms

unsupported_has : (P : Token → Type 0) (o : Option Form) (x : Item) → ((f : Form) → P (token.Unsupported f)) → P x.token → P (unsupported o x).token
unsupported_has P None x u h = h
unsupported_has P (Some f) x u h = u f

forms_each : (P : Token → Type 0) (first : Bool) (xs : List Item) → ((f : Form) → P (token.Unsupported f)) → Each P xs → Each P (forms_marked first xs)
forms_each P first [] u h = tt
forms_each P first (x ∷ []) u h = h
forms_each P first (x ∷ y ∷ rest) u h = (unsupported_has P (form_of first x y) x u h.0, forms_each P false (y ∷ rest) u h.1)

-- no form begins with a symbol
record NoForm (x : Item) : Type 0 where
  pub operations : operation x ≡ None
  pub attaches : attach x ≡ None
  pub declares : declared x ≡ None
  pub ports : memory_port x ≡ None

symbol_formless : (x : Item) (symbol : Symbol) → x.token ≡ token.Symbol symbol → NoForm x
symbol_formless x symbol e = record { operations = rw e refl; attaches = rw e refl; declares = rw e refl; ports = rw e refl }

form_none : (first : Bool) (x y : Item) → NoForm x → form_of first x y ≡ None
form_none first x y h =
    let o = h.operations in
    let a = h.attaches in
    let d = h.declares in
    let p = h.ports in
    rw (o, a, p, d) (go first (is_symbol s.OpenParen y) (is_word (codes "is") y) (is_word (codes "mport") y) (is_name y))
  where
    nothing : Option Form
    nothing = None

    go : (b1 b2 b3 b4 b5 : Bool) → or_else (if b2 then nothing else None) (if b1 then (if b2 then None else (if b3 then None else (if b4 then None else (if b5 then None else None)))) else None) ≡ None
    go false true b3 b4 b5 = refl
    go false false b3 b4 b5 = refl
    go true true b3 b4 b5 = refl
    go true false true b4 b5 = refl
    go true false false true b5 = refl
    go true false false false true = refl
    go true false false false false = refl

forms_ended : (first : Bool) (xs : List Item) → Ended xs → Ended (forms_marked first xs)
forms_ended first [] h = absurd h
forms_ended first (x ∷ []) h = h
forms_ended first (x ∷ y ∷ rest) h = elim h [
  | inl k ↦ inl (forms_ended false (y ∷ rest) k)
  | inr k ↦ inr (ap (λ o. (unsupported o x).token) (form_none first x y (symbol_formless x s.LineEnd k.0)) ∙ k.0, forms_each IsBare false (y ∷ rest) (λ f. tt) k.1)
]

forms_level : (first : Bool) (xs : List Item) → IsLevel xs → IsLevel (forms_marked first xs)
forms_level first xs h = elim h [ inl k ↦ inl (forms_each IsBare first xs (λ f. tt) k) | inr k ↦ inr (forms_ended first xs k) ]

-- ---- brackets

step_bare : (depth : ℕ) (t : Token) → IsBare t → IsBare (token_step depth t).1
step_bare depth (token.Symbol symbol) h = absurd h
step_bare depth _ h = tt

brackets_bare : (depth : ℕ) (xs : List Item) → Each IsBare xs → Each IsBare (brackets_marked depth xs)
brackets_bare depth [] h = tt
brackets_bare depth (x ∷ rest) h = (step_bare depth x.token h.0, brackets_bare (token_step depth x.token).0 rest h.1)

brackets_ended : (depth : ℕ) (xs : List Item) → Ended xs → Ended (brackets_marked depth xs)
brackets_ended depth [] h = absurd h
brackets_ended depth (x ∷ rest) h = elim h [
  | inl k ↦ inl (brackets_ended (token_step depth x.token).0 rest k)
  | inr k ↦ inr (ap (λ t. (token_step depth t).1) k.0, brackets_bare (token_step depth x.token).0 rest k.1)
]

bare_after : (depth : ℕ) (t : Token) → IsBare t → token_after depth t ≡ depth
bare_after depth (token.Symbol symbol) h = absurd h
bare_after depth _ h = refl

bare_level : (depth : ℕ) (xs : List Item) → Each IsBare xs → open_after depth xs ≡ depth
bare_level depth [] h = refl
bare_level depth (x ∷ rest) h = ap (λ d. open_after d rest) (bare_after depth x.token h.0) ∙ bare_level depth rest h.1

ended_level : (depth : ℕ) (xs : List Item) → Ended xs → open_after depth xs ≡ 0
ended_level depth [] h = absurd h
ended_level depth (x ∷ rest) h = elim h [
  | inl k ↦ ended_level (token_after depth x.token) rest k
  | inr k ↦ ap (λ t. open_after (token_after depth t) rest) k.0 ∙ bare_level 0 rest k.1
]

brackets_level : (xs : List Item) → IsLevel xs → open_after 0 (brackets_marked 0 xs) ≡ 0
brackets_level xs h = elim h [ inl k ↦ bare_level 0 (brackets_marked 0 xs) (brackets_bare 0 xs k) | inr k ↦ ended_level 0 (brackets_marked 0 xs) (brackets_ended 0 xs k) ]

-- a line's end leaves no more brackets open than another symbol
after_symbol : (depth : ℕ) (symbol : Symbol) → symbol_after depth symbol ≤ bracket_after depth (symbol_bracket symbol)
after_symbol depth s.LineEnd = omega arith
after_symbol depth _ = omega arith

-- a token of which so many brackets are open, where these are counted as open
record StepFits (depth : ℕ) (step : ℕ × Token) : Type 0 where
  pub room : Room depth step.1
  pub sound : SoundToken step.1
  pub after : token_after depth step.1 ≤ step.0

bracket_fits : (depth counted : ℕ) (symbol : Symbol) (o : Option Bracket) → symbol_bracket symbol ≡ o → depth ≤ counted → StepFits depth (bracket_step counted symbol o)
bracket_fits depth counted symbol (Some Open) e h = go (nat_lt counted limit) refl
  where
    go : (x : Bool) → nat_lt counted limit ≡ x → StepFits depth (if x then (counted + 1, token.Symbol symbol) else (counted, token.TooDeep symbol))
    go true f =
        let after = after_symbol depth symbol in
        let grown = rw e at after in
        record { room = rw e (grind (arith, nat_tests)); sound = tt; after = omega (arith, grown, h) }
    go false f = record { room = tt; sound = tt; after = h }
bracket_fits depth counted symbol (Some Close) e h =
    let after = after_symbol depth symbol in
    let shrunk = rw e at after in
    record { room = rw e tt; sound = tt; after = omega (arith, shrunk, h) }
bracket_fits depth counted symbol None e h =
    let after = after_symbol depth symbol in
    let same = rw e at after in
    record { room = rw e tt; sound = tt; after = omega (arith, same, h) }

step_fits : (depth counted : ℕ) (t : Token) → depth ≤ counted → SoundToken t → StepFits depth (token_step counted t)
step_fits depth counted (token.Symbol symbol) h k = bracket_fits depth counted symbol (symbol_bracket symbol) refl h
step_fits depth counted (token.Word w) h k = record { room = tt; sound = k; after = h }
step_fits depth counted (token.Number n) h k = record { room = tt; sound = k; after = h }
step_fits depth counted (token.Text t) h k = record { room = tt; sound = k; after = h }
step_fits depth counted _ h k = record { room = tt; sound = tt; after = h }

brackets_sound : (depth counted : ℕ) (xs : List Item) → depth ≤ counted → Each SoundToken xs → Sound depth (brackets_marked counted xs)
brackets_sound depth counted [] h k = tt
brackets_sound depth counted (x ∷ rest) h k =
    let step = step_fits depth counted x.token h k.0 in
    (step.room, step.sound, brackets_sound (token_after depth (token_step counted x.token).1) (token_step counted x.token).0 rest step.after k.1)

-- ---- a line

unmarked_sound : (line : ℕ) (bytes : List ℕ) → no_feed bytes ≡ true → Each SoundToken (unmarked line bytes)
unfolding unmarked
unmarked_sound line bytes h = items_sound line 1 (sees_token true (pieces bytes)) false (pieces bytes) (pieces_sound 0 bytes h)

pub line_sound : (line : ℕ) (bytes : List ℕ) → no_feed bytes ≡ true → Sound 0 (line_items line bytes)
unfolding marked
line_sound line bytes h = brackets_sound 0 0 (forms_marked true (unmarked line bytes)) (omega arith) (forms_each SoundToken true (unmarked line bytes) (λ f. tt) (unmarked_sound line bytes h))

pub line_level : (line : ℕ) (bytes : List ℕ) → open_after 0 (line_items line bytes) ≡ 0
unfolding marked
line_level line bytes = brackets_level (forms_marked true (unmarked line bytes)) (forms_level true (unmarked line bytes) (unmarked_level line bytes))
