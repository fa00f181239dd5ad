-- How the loop of the lexer goes over the lines of a text.
use Rattle.std.proofs.Common.{◌≡◌, ℕ, suc, ◌+◌, ◌<◌, ◌≤◌, Bool, true, false, ◌==◌, List, [], ◌∷◌, ◌++◌, length, take, drop, refl, sym, ap, ◌∙◌, append_assoc, arith}
use Rattle.std.specs.List.{slice_split, position_or_len}
use Rattle.std.proofs.lemmas.List.Splits.{slice_split_first}
use Rattle.text_grammar.specs.declared.item.Item.{Item}
use Rattle.fir_lex.specs.Lex.{is_feed, line_items, without_return, lines_items}

-- there is a line in each text
pub record Lines (lines : List (List ℕ)) : Type 0 where
  pub line : List ℕ
  pub more : List (List ℕ)
  pub are : lines ≡ line ∷ more

pub some_line : (text : List ℕ) → Lines (slice_split is_feed text)
some_line [] = record { line = []; more = []; are = refl }
some_line (b ∷ rest) = go (b == 10) refl (some_line rest)
  where
    go : (c : Bool) → (b == 10) ≡ c → Lines (slice_split is_feed rest) → Lines (slice_split is_feed (b ∷ rest))
    go true e later = record { line = []; more = slice_split is_feed rest; are = rw e refl }
    go false e later = record { line = b ∷ later.line; more = later.more; are = rw (e, later.are) refl }

-- the items of a line that a line feed ends
pub ended_line : (n : ℕ) (line text : List ℕ) → lines_items n (line ∷ slice_split is_feed text) ≡ line_items n (without_return line) ++ lines_items (suc n) (slice_split is_feed text)
ended_line n line text = let some = some_line text in rw (some.are) refl

-- a line before a line feed
pub line_goes : (front after : List Item) (line end : ℕ) (bytes rest : List ℕ) (total : List Item) → end ≡ position_or_len is_feed rest → end < length rest → bytes ≡ without_return (take end rest) → after ≡ front ++ line_items line bytes
    → front ++ lines_items line (slice_split is_feed rest) ≡ total → after ++ lines_items (line + 1) (slice_split is_feed (drop (end + 1) rest)) ≡ total
line_goes front after line end bytes rest total is lt returned grown so_far =
    let one : slice_split is_feed rest ≡ take end rest ∷ slice_split is_feed (drop (end + 1) rest) = rw is (slice_split_first is_feed rest 0 (rw (← is) lt)) in
    let next : line + 1 ≡ suc line = omega arith in
    let split : lines_items line (slice_split is_feed rest) ≡ line_items line bytes ++ lines_items (line + 1) (slice_split is_feed (drop (end + 1) rest)) =
    rw (one, next, returned) (ended_line line (take end rest) (drop (end + 1) rest)) in
    rw grown (append_assoc front (line_items line bytes) (lines_items (line + 1) (slice_split is_feed (drop (end + 1) rest))) ∙ ap (λ (z : List Item). front ++ z) (sym split) ∙ so_far)

-- the last line has no line feed
last_line : (rest : List ℕ) → length rest ≤ position_or_len is_feed rest → slice_split is_feed rest ≡ rest ∷ []
last_line [] h = refl
last_line (b ∷ rest) h = go (b == 10) refl (last_line rest)
  where
    go : (c : Bool) → (b == 10) ≡ c → (length rest ≤ position_or_len is_feed rest → slice_split is_feed rest ≡ rest ∷ []) → slice_split is_feed (b ∷ rest) ≡ (b ∷ rest) ∷ []
    go true e later = let none : position_or_len is_feed (b ∷ rest) ≡ 0 = rw e refl in absurd (omega (arith, h, none))
    go false e later =
        let more : position_or_len is_feed (b ∷ rest) ≡ 1 + position_or_len is_feed rest = rw e refl in
        rw (e, later (omega (arith, h, more))) refl

pub text_ends : (front after : List Item) (line end : ℕ) (rest : List ℕ) (total : List Item) → end ≡ position_or_len is_feed rest → length rest ≤ end → after ≡ front ++ line_items line rest
    → front ++ lines_items line (slice_split is_feed rest) ≡ total → after ≡ total
text_ends front after line end rest total is le grown so_far =
    let one : lines_items line (slice_split is_feed rest) ≡ line_items line rest = rw (last_line rest (rw (← is) le)) refl in
    grown ∙ ap (λ (z : List Item). front ++ z) (sym one) ∙ so_far
