-- How the loop that marks forms goes over the items of a line.
use Rattle.std.proofs.Common.{◌≡◌, ℕ, suc, ◌+◌, ◌-◌, ◌<◌, ◌≤◌, Bool, false, List, [], ◌∷◌, ◌++◌, length, take, drop, get_or, set, refl, sym, ap, ◌∙◌, append_assoc, drop-cons, arith}
use Rattle.std.specs.Prelude.{◌==◌, Option}
use Rattle.text_grammar.specs.declared.fault.Form.{Form}
use Rattle.std.proofs.lemmas.List.{drop-set-lt, take_more_set, length-drop, take-append-drop, get_or_default}
use Rattle.std.proofs.lemmas.Bool.{ne_eqb}
use Rattle.text_grammar.specs.declared.item.Item.{Item}
use Rattle.fir_lex.specs.Marks.{forms_marked, form_of, unsupported}

-- an item that another one follows
pub form_goes : (i : ℕ) (xs total : List Item) (f : Option Form) (x y z w : Item) → i + 1 < length xs → x ≡ get_or xs i x → y ≡ get_or xs (i + 1) y → f ≡ form_of (i == 0) x y → z ≡ unsupported f (get_or xs i w)
    → take i xs ++ forms_marked (i == 0) (drop i xs) ≡ total → take (i + 1) (set xs i z) ++ forms_marked ((i + 1) == 0) (drop (i + 1) (set xs i z)) ≡ total
form_goes i xs total f x y z w h at_x at_y formed is so_far =
    let s : suc i ≡ i + 1 = omega arith in
    let lt : i < length xs = omega (arith, h) in
    let one : drop (i + 1) xs ≡ y ∷ drop (suc (i + 1)) xs = drop-cons xs (i + 1) y h ∙ ap (λ v. v ∷ drop (suc (i + 1)) xs) (sym at_y) in
    let two : drop i xs ≡ x ∷ y ∷ drop (suc (i + 1)) xs = drop-cons xs i x lt ∙ ap (λ v. v ∷ drop (suc i) xs) (sym at_x) ∙ ap (λ n. x ∷ drop n xs) s ∙ ap (λ v. x ∷ v) one in
    let same_x : get_or xs i w ≡ x = get_or_default xs i w x lt ∙ sym at_x in
    let later : ((i + 1) == 0) ≡ false = ne_eqb (i + 1) 0 (λ e. absurd (omega (arith, e))) in
    let same = drop-set-lt (i + 1) xs i z (omega arith) in
    let front = take_more_set xs i z lt in
    let before = rw two at so_far in
    rw (later, same, front, one, is, same_x, formed) (append_assoc (take i xs) (unsupported (form_of (i == 0) x y) x ∷ []) (forms_marked false (y ∷ drop (suc (i + 1)) xs)) ∙ before)

-- the last item
one_left : (first : Bool) (xs : List Item) → length xs ≤ 1 → forms_marked first xs ≡ xs
one_left first [] h = refl
one_left first (x ∷ []) h = refl
one_left first (x ∷ y ∷ rest) h = absurd (omega (arith, h))

pub forms_end : (i : ℕ) (xs total : List Item) → length xs - 1 ≤ i → take i xs ++ forms_marked (i == 0) (drop i xs) ≡ total → xs ≡ total
forms_end i xs total h so_far =
    let few : length (drop i xs) ≤ 1 = let e = length-drop i xs in omega (arith, e, h) in
    sym (take-append-drop i xs) ∙ ap (λ w. take i xs ++ w) (sym (one_left (i == 0) (drop i xs) few)) ∙ so_far
