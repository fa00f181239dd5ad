-- The items of every text are sound.
use Rattle.std.proofs.Common.{◌≡◌, ℕ, suc, ◌-◌, Bool, true, false, ◌==◌, List, [], ◌∷◌, ◌++◌, length, take, get_or, refl}
use Rattle.std.specs.Prelude.{not, if◌then◌else◌}
use Rattle.std.specs.List.{slice_split}
use Rattle.std.proofs.lemmas.Bool.{and_from}
use Rattle.text_grammar.specs.declared.item.Item.{Item}
use Rattle.fir_lex.specs.Lex.{is_feed, line_items, without_return, lines_items, items_of}
use Rattle.fir_print_laws.specs.Standing.{no_feed}
use Rattle.fir_round.specs.Sound.{Sound, open_after, token_after}
use Rattle.fir_round.specs.Again.{ItemsAreSound}
use Rattle.fir_round.proofs.TokenSound.{all_taken}
use Rattle.fir_round.proofs.LineSound.{line_sound, line_level}

pub sound_both : (depth : ℕ) (xs ys : List Item) → Sound depth xs → Sound (open_after depth xs) ys → Sound depth (xs ++ ys)
sound_both depth [] ys h k = k
sound_both depth (x ∷ xs) ys h k = (h.0, h.1, sound_both (token_after depth x.token) xs ys h.2 k)

-- ---- lines

-- no line feed stands on them
abbrev Feedless : List (List ℕ) → Type 0
Feedless [] = Unit {0}
Feedless (line ∷ more) = (no_feed line ≡ true) × Feedless more

record Split (lines : List (List ℕ)) : Type 0 where
  pub line : List ℕ
  pub more : List (List ℕ)
  pub are : lines ≡ line ∷ more
  pub free : no_feed line ≡ true
  pub rest : Feedless more

split_feedless : (text : List ℕ) → Split (slice_split is_feed text)
split_feedless [] = record { line = []; more = []; are = refl; free = refl; rest = tt }
split_feedless (b ∷ rest) = go (b == 10) refl (split_feedless rest)
  where
    go : (c : Bool) → (b == 10) ≡ c → Split (slice_split is_feed rest) → Split (slice_split is_feed (b ∷ rest))
    go true e later = record { line = []; more = later.line ∷ later.more; are = rw (e, later.are) refl; free = refl; rest = (later.free, later.rest) }
    go false e later = record { line = b ∷ later.line; more = later.more; are = rw (e, later.are) refl; free = and_from (not (b == 10)) (no_feed later.line) (rw e refl) later.free; rest = later.rest }

return_feedless : (bytes : List ℕ) → no_feed bytes ≡ true → no_feed (without_return bytes) ≡ true
return_feedless bytes h = go (get_or bytes (length bytes - 1) 0 == 13)
  where
    go : (c : Bool) → no_feed (if c then take (length bytes - 1) bytes else bytes) ≡ true
    go true = all_taken (λ b. not (b == 10)) (length bytes - 1) bytes h
    go false = h

lines_sound : (n : ℕ) (lines : List (List ℕ)) → Feedless lines → Sound 0 (lines_items n lines)
lines_sound n [] h = tt
lines_sound n (line ∷ []) h = line_sound n line h.0
lines_sound n (line ∷ next ∷ more) h =
    let level = line_level n (without_return line) in
    sound_both 0 (line_items n (without_return line)) (lines_items (suc n) (next ∷ more)) (line_sound n (without_return line) (return_feedless line h.0)) (rw level (lines_sound (suc n) (next ∷ more) h.1))

pub items_sound : ItemsAreSound
unfolding items_of
items_sound text = let split = split_feedless text in rw (split.are) (lines_sound 1 (split.line ∷ split.more) (split.free, split.rest))
