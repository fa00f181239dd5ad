-- How the loops of the lexer go over the pieces of a line.
use Rattle.std.proofs.Common.{◌≡◌, ℕ, zero, suc, ◌+◌, ◌-◌, ◌≤◌, Bool, true, false, List, [], ◌∷◌, ◌++◌, length, take, drop, refl, sym, ap, ◌∙◌, append_assoc, arith}
use Rattle.std.specs.Prelude.{◌&&◌, ◌||◌, not}
use Rattle.text_grammar.specs.declared.item.Item.{Item}
use Rattle.fir_lex.specs.declared.piece.Cut.{Cut}
use Rattle.fir_lex.specs.Pieces.{Piece, pieces, pieces_behind, cut, is_token, is_locator}
use Rattle.fir_lex.specs.Lines.{is_looked_past, sees_token, piece_items, items_from}

-- the bytes of a piece are gone over
left_is : (n : ℕ) (bytes : List ℕ) → n ≤ length bytes → pieces_behind n bytes ≡ pieces (drop n bytes)
left_is zero bytes h = refl
left_is (suc n) [] h = absurd (omega (arith, h))
left_is (suc n) (b ∷ rest) h = left_is n rest (omega (arith, h))

-- the first piece, and those behind it
pub first_and_rest : (bytes : List ℕ) (c : Cut) → c ≡ cut bytes → 1 ≤ c.len → c.len ≤ length bytes → pieces bytes ≡ record { cut = c; bytes = take c.len bytes } ∷ pieces (drop c.len bytes)
first_and_rest [] c is low high = absurd (omega (arith, low, high))
first_and_rest (b ∷ rest) c is low high = go c.len refl
  where
    go : (n : ℕ) → c.len ≡ n → pieces (b ∷ rest) ≡ record { cut = c; bytes = take c.len (b ∷ rest) } ∷ pieces (drop c.len (b ∷ rest))
    go zero e = absurd (omega (arith, low, e))
    go (suc n) e =
        let m : c.len - 1 ≡ n = omega (arith, e) in
        let left = left_is n rest (omega (arith, high, e)) in
        rw (← is, m, left, e) refl

-- whether a token is seen at a piece, or behind it
sees_next : (anywhere : Bool) (bytes : List ℕ) (c : Cut) → c ≡ cut bytes → 1 ≤ c.len → c.len ≤ length bytes
    → sees_token anywhere (pieces bytes) ≡ is_token c.class || (is_looked_past anywhere c.class && sees_token anywhere (pieces (drop c.len bytes)))
sees_next anywhere bytes c is low high = ap (sees_token anywhere) (first_and_rest bytes c is low high)

pub sees_here : (anywhere total : Bool) (bytes : List ℕ) (c : Cut) → c ≡ cut bytes → 1 ≤ c.len → c.len ≤ length bytes → is_token c.class ≡ true
    → sees_token anywhere (pieces bytes) ≡ total → true ≡ total
sees_here anywhere total bytes c is low high found so_far = let next = sees_next anywhere bytes c is low high in let here = rw found at next in sym here ∙ so_far

pub sees_none : (anywhere total : Bool) (bytes : List ℕ) (c : Cut) → c ≡ cut bytes → 1 ≤ c.len → c.len ≤ length bytes → is_token c.class ≡ false → is_looked_past anywhere c.class ≡ false
    → sees_token anywhere (pieces bytes) ≡ total → false ≡ total
sees_none anywhere total bytes c is low high other hidden so_far = let next = sees_next anywhere bytes c is low high in let here = rw (other, hidden) at next in sym here ∙ so_far

pub sees_behind : (anywhere total : Bool) (bytes : List ℕ) (c : Cut) → c ≡ cut bytes → 1 ≤ c.len → c.len ≤ length bytes → is_token c.class ≡ false → is_looked_past anywhere c.class ≡ true
    → sees_token anywhere (pieces bytes) ≡ total → sees_token anywhere (pieces (drop c.len bytes)) ≡ total
sees_behind anywhere total bytes c is low high other past so_far = let next = sees_next anywhere bytes c is low high in let here = rw (other, past) at next in sym here ∙ so_far

-- a piece at the front
pub piece_goes : (front after : List Item) (line column : ℕ) (at_front located : Bool) (bytes : List ℕ) (c : Cut) (total : List Item) → c ≡ cut bytes → 1 ≤ c.len → c.len ≤ length bytes
    → after ≡ front ++ piece_items line column at_front located (record { cut = c; bytes = take c.len bytes }) (pieces (drop c.len bytes))
    → front ++ items_from line column at_front located (pieces bytes) ≡ total
    → after ++ items_from line (column + c.len) (at_front && not (is_token c.class)) (located || is_locator c.class) (pieces (drop c.len bytes)) ≡ total
piece_goes front after line column at_front located bytes c total is low high grown so_far =
    let one = ap (items_from line column at_front located) (first_and_rest bytes c is low high) in
    let p : Piece = record { cut = c; bytes = take c.len bytes } in
    let rest = pieces (drop c.len bytes) in
    let behind = items_from line (column + c.len) (at_front && not (is_token c.class)) (located || is_locator c.class) rest in
    rw grown (append_assoc front (piece_items line column at_front located p rest) behind ∙ ap (λ (z : List Item). front ++ z) (sym one) ∙ so_far)

-- the same, with what stands before the next piece by other names
pub step_goes : (front after : List Item) (line column : ℕ) (at_front located first second : Bool) (bytes : List ℕ) (c : Cut) (total : List Item) → c ≡ cut bytes → 1 ≤ c.len → c.len ≤ length bytes
    → after ≡ front ++ piece_items line column at_front located (record { cut = c; bytes = take c.len bytes }) (pieces (drop c.len bytes))
    → first ≡ (at_front && not (is_token c.class)) → second ≡ (located || is_locator c.class)
    → front ++ items_from line column at_front located (pieces bytes) ≡ total
    → after ++ items_from line (column + c.len) first second (pieces (drop c.len bytes)) ≡ total
step_goes front after line column at_front located first second bytes c total is low high grown e f so_far = rw (e, f) (piece_goes front after line column at_front located bytes c total is low high grown so_far)
