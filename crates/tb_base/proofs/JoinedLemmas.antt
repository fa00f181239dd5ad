-- Texts in a row, as a loop writes them.
-- The invariant of a loop over `items` that writes each as `item_text`, with the separator between each two, is
-- `Wrote sep true l.initial.out.items l.out.items l.is_first (map item_text (take l.item-index l.items))`. It holds at
-- the start and gives `joined` at the end without an answer; the step is one `wrote_next`.
use Rattle.std.proofs.Common.{◌≡◌, ℕ, ◌+◌, ◌<◌, ◌≤◌, Bool, true, false, List, [], ◌∷◌, ◌++◌, refl, sym, ap, ◌∙◌, append_assoc, append-nil, length, take, map, get_or, subst, arith}
use Rattle.std.specs.Prelude.{◌&&◌, ◌==◌}
use Rattle.std.proofs.lemmas.Bool.{ne_eqb}
use Rattle.std.proofs.lemmas.List.{take_more, take_all, map-append}
use Rattle.tb_base.specs.Joined.{led, joined, joined_after, gap}

abbrev pub is_none : List (List ℕ) → Bool
is_none [] = true
is_none (x ∷ xs) = false

-- one text more behind those that are led
pub led_push : (sep : List ℕ) (xs : List (List ℕ)) (y : List ℕ) → led sep (xs ++ y ∷ []) ≡ led sep xs ++ (sep ++ y)
led_push sep [] y = ap (λ t. sep ++ t) (append-nil _)
led_push sep (x ∷ xs) y =
    ap (λ t. sep ++ t) (ap (λ t. x ++ t) (led_push sep xs y) ∙ sym (append_assoc x (led sep xs) (sep ++ y)))
    ∙ sym (append_assoc sep (x ++ led sep xs) (sep ++ y))

pub joined_push : (sep : List ℕ) (b : Bool) (xs : List (List ℕ)) (y : List ℕ) → joined_after sep b (xs ++ y ∷ []) ≡ joined_after sep b xs ++ (gap sep (b && is_none xs) ++ y)
joined_push sep true [] y = append-nil _
joined_push sep true (x ∷ xs) y = ap (λ t. x ++ t) (led_push sep xs y) ∙ sym (append_assoc x (led sep xs) (sep ++ y))
joined_push sep false xs y = led_push sep xs y

pub led-append : (sep : List ℕ) (xs ys : List (List ℕ)) → led sep (xs ++ ys) ≡ led sep xs ++ led sep ys
led-append sep [] ys = refl
led-append sep (x ∷ xs) ys =
    ap (λ t. sep ++ t) (ap (λ t. x ++ t) (led-append sep xs ys) ∙ sym (append_assoc x (led sep xs) (led sep ys)))
    ∙ sym (append_assoc sep (x ++ led sep xs) (led sep ys))

-- two lists in a row are the first, and then the second as it follows the first
pub joined-append : (sep : List ℕ) (xs ys : List (List ℕ)) → joined sep (xs ++ ys) ≡ joined sep xs ++ joined_after sep (is_none xs) ys
joined-append sep [] ys = refl
joined-append sep (x ∷ xs) ys = ap (λ t. x ++ t) (led-append sep xs ys) ∙ sym (append_assoc x (led sep xs) (led sep ys))

-- what a loop has written behind `start` once it has done the texts `done`; `b` says whether nothing stood
-- in front of them, and `is_first` whether the next one is the first
pub record Wrote (sep : List ℕ) (b : Bool) (start out : List ℕ) (is_first : Bool) (done : List (List ℕ)) : Type 0 where
  pub text : out ≡ start ++ joined_after sep b done
  pub first : is_first ≡ (b && is_none done)

pub wrote_more : (sep : List ℕ) (b f : Bool) (start out mid new y : List ℕ) (done : List (List ℕ)) → Wrote sep b start out f done → mid ≡ out ++ gap sep f → new ≡ mid ++ y → Wrote sep b start new false (done ++ y ∷ [])
wrote_more sep b f start out mid new y done w e g = record {
  text =
      g ∙ ap (λ t. t ++ y) (e ∙ ap (λ t. t ++ gap sep f) w.text) ∙ append_assoc (start ++ joined_after sep b done) (gap sep f) y ∙ append_assoc start (joined_after sep b done) (gap sep f ++ y)
      ∙ ap (λ t. start ++ t) (ap (λ c. joined_after sep b done ++ (gap sep c ++ y)) w.first ∙ sym (joined_push sep b done y));
  first = later b done y;
}
  where
    later : (b : Bool) (done : List (List ℕ)) (y : List ℕ) → false ≡ (b && is_none (done ++ y ∷ []))
    later true [] y = refl
    later true (x ∷ xs) y = refl
    later false done y = refl

-- the step of a loop over the list `xs`, whose item x at i has the text `f x`: `put_gap`, then the item
pub wrote_next : {X : Type 0} (sep : List ℕ) (f : X → List ℕ) (xs : List X) (i : ℕ) (d x : X) (b g : Bool) (start out mid new : List ℕ) → i < length xs → x ≡ get_or xs i d → Wrote sep b start out g (map f (take i xs)) → mid ≡ out ++ gap sep g → new ≡ mid ++ f x → Wrote sep b start new false (map f (take (i + 1) xs))
wrote_next sep f xs i d x b g start out mid new h at w e k =
    let more : map f (take (i + 1) xs) ≡ map f (take i xs) ++ f x ∷ [] = ap (map f) (take_more xs i d h) ∙ map-append f (take i xs) (get_or xs i d ∷ []) ∙ ap (λ y. map f (take i xs) ++ f y ∷ []) (sym at) in
    subst (Wrote sep b start new false) (sym more) (wrote_more sep b g start out mid new (f x) (map f (take i xs)) w e k)

-- the same in a loop that writes the separator in front of each item
pub led_next : {X : Type 0} (sep : List ℕ) (f : X → List ℕ) (xs : List X) (i : ℕ) (d x : X) (start out mid new : List ℕ) → i < length xs → x ≡ get_or xs i d → out ≡ start ++ led sep (map f (take i xs)) → mid ≡ out ++ sep → new ≡ mid ++ f x → new ≡ start ++ led sep (map f (take (i + 1) xs))
led_next sep f xs i d x start out mid new h at w e k =
    let before : Wrote sep false start out false (map f (take i xs)) = record { text = w; first = refl } in
    (wrote_next sep f xs i d x false false start out mid new h at before e k).text

-- the loop's beginning
pub wrote_none : (sep : List ℕ) (b : Bool) (start : List ℕ) → Wrote sep b start start b []
wrote_none sep true start = record { text = sym (append-nil _); first = refl }
wrote_none sep false start = record { text = sym (append-nil _); first = refl }

-- the loop's end
pub wrote_all : {X : Type 0} (sep : List ℕ) (f : X → List ℕ) (xs : List X) (i : ℕ) (b g : Bool) (start out : List ℕ) → length xs ≤ i → Wrote sep b start out g (map f (take i xs)) → out ≡ start ++ joined_after sep b (map f xs)
wrote_all sep f xs i b g start out h w = w.text ∙ ap (λ t. start ++ joined_after sep b (map f t)) (take_all i xs h)

is_none-map : {X : Type 0} (f : X → List ℕ) (xs : List X) → (length xs == 0) ≡ is_none (map f xs)
is_none-map f [] = refl
is_none-map f (x ∷ xs) = ne_eqb _ 0 (λ e. absurd (omega arith))

-- a list of texts, written in two parts, where `b` says that the first is empty
pub two_parts : {X : Type 0} (sep : List ℕ) (f : X → List ℕ) (xs : List X) (ys : List (List ℕ)) (b : Bool) (start mid end : List ℕ) → mid ≡ start ++ joined sep (map f xs) → end ≡ mid ++ joined_after sep b ys → b ≡ (length xs == 0) → end ≡ start ++ joined sep (map f xs ++ ys)
two_parts sep f xs ys b start mid end e g h =
    g ∙ ap (λ t. t ++ joined_after sep b ys) e ∙ append_assoc start (joined sep (map f xs)) (joined_after sep b ys)
    ∙ ap (λ t. start ++ t) (ap (λ b. joined sep (map f xs) ++ joined_after sep b ys) (h ∙ is_none-map f xs) ∙ sym (joined-append sep (map f xs) ys))
