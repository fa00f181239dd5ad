-- A place counts the line feeds before it, and the bytes after the last of them.
use Rattle.std.proofs.Common.{◌≡◌, ℕ, zero, suc, ◌+◌, ◌-◌, ◌<◌, ◌≤◌, Bool, true, false, List, [], ◌∷◌, length, take, get_or, refl, sym, ap, ◌∙◌, arith}
use Rattle.std.specs.Prelude.{not}
use Rattle.std.specs.List.{count_by, suffix_len}
use Rattle.std.proofs.Math.Seq.{take-length}
use Rattle.std.proofs.lemmas.List.Sums.{count_by_more_yes, count_by_more_no, suffix_len-take_yes, suffix_len-take_no}
use Rattle.tb_base.specs.declared.place.Place.{Place}
use Rattle.text_grammar.specs.Lex.{text_start}
use Rattle.tl_lex.specs.Pieces.{is_feed}
use Rattle.tl_lex.specs.Lex.{place_after, place_behind, end_of}

-- one byte more
behind_more : (n : ℕ) (p : Place) (z : List ℕ) → n < length z → place_behind p (take (suc n) z) ≡ place_after (place_behind p (take n z)) (get_or z n 0)
behind_more n p [] h = absurd (omega (arith, h))
behind_more zero p (b ∷ rest) h = refl
behind_more (suc n) p (b ∷ rest) h = behind_more n (place_after p b) rest (omega (arith, h))

end_more : (n : ℕ) (z : List ℕ) (c : Bool) → is_feed (get_or z n 0) ≡ c → n < length z → end_of (take (suc n) z) ≡ place_after (end_of (take n z)) (get_or z n 0)
end_more n z true e h =
    let k : suc n ≡ n + 1 = omega arith in
    let m : n + 1 - 1 ≡ n = omega arith in
    let lines = count_by_more_yes is_feed z n 0 h e in
    let columns = suffix_len-take_no (λ b. not (is_feed b)) z (n + 1) 0 (omega arith) (omega (arith, h)) (rw (m, e) refl) in
    let one : 1 + (count_by is_feed (take n z) + 1) ≡ 1 + count_by is_feed (take n z) + 1 = omega arith in
    rw (k, e, lines, columns, one) refl
end_more n z false e h =
    let k : suc n ≡ n + 1 = omega arith in
    let m : n + 1 - 1 ≡ n = omega arith in
    let lines = count_by_more_no is_feed z n 0 h e in
    let columns = suffix_len-take_yes (λ b. not (is_feed b)) z (n + 1) 0 (omega arith) (omega (arith, h)) (rw (m, e) refl) in
    let one : 1 + (1 + suffix_len (λ b. not (is_feed b)) (take n z)) ≡ 1 + suffix_len (λ b. not (is_feed b)) (take n z) + 1 = omega arith in
    rw (k, e, lines, columns, m, one) refl

counted_up_to : (n : ℕ) (z : List ℕ) → n ≤ length z → place_behind text_start (take n z) ≡ end_of (take n z)
counted_up_to zero z h = refl
counted_up_to (suc n) z h =
    behind_more n text_start z (omega (arith, h)) ∙ ap (λ (p : Place). place_after p (get_or z n 0)) (counted_up_to n z (omega (arith, h))) ∙ sym (end_more n z (is_feed (get_or z n 0)) refl (omega (arith, h)))

pub behind_start : (text : List ℕ) → place_behind text_start text ≡ end_of text
behind_start text = let h = counted_up_to (length text) text (omega arith) in rw (take-length text) at h
