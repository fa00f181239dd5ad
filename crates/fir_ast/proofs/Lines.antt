-- Lines one after the other, and a text among others.
use Rattle.std.proofs.Common.{◌≡◌, ℕ, ◌+◌, ◌<◌, Bool, true, false, List, [], ◌∷◌, ◌++◌, refl, sym, ap, ◌∙◌, append_assoc, append-nil, length, take, map, get_or, arith}
use Rattle.std.specs.Prelude.{◌==◌}
use Rattle.std.specs.List.{flat_map}
use Rattle.std.proofs.lemmas.Bool.{ne_eqb}
use Rattle.std.proofs.lemmas.List.{take_more, map-append}
use Rattle.std.proofs.lemmas.List.Concat.{flat_map-append}
use Rattle.tb_base.specs.Joined.{led, joined, joined_after, gap}
use Rattle.tb_base.proofs.JoinedLemmas.{is_none, joined-append}
use Rattle.fir_ast.specs.Printed.{line_text}

-- a line, written in three steps
pub line_written : (start indent words one two end : List ℕ) → one ≡ start ++ indent → two ≡ one ++ words → end ≡ two ++ 10 ∷ [] → end ≡ start ++ line_text indent words
line_written start indent words one two end p q r =
    r ∙ ap (λ t. t ++ 10 ∷ []) (q ∙ ap (λ t. t ++ words) p)
    ∙ append_assoc (start ++ indent) words (10 ∷ []) ∙ append_assoc start indent (words ++ 10 ∷ [])

-- a line, then two blocks behind it
pub blocks_written : (start line first second one two end : List ℕ) → one ≡ start ++ line → two ≡ one ++ first → end ≡ two ++ second → end ≡ start ++ (line ++ (first ++ second))
blocks_written start line first second one two end p q r =
    r ∙ ap (λ t. t ++ second) (q ∙ ap (λ t. t ++ first) p)
    ∙ append_assoc (start ++ line) first second ∙ append_assoc start line (first ++ second)

-- the step of a loop that writes the text `f x` of each item x
pub lines_next : {X : Type 0} (f : X → List ℕ) (xs : List X) (i : ℕ) (d x : X) (start out new : List ℕ) → i < length xs → x ≡ get_or xs i d → out ≡ start ++ flat_map f (take i xs) → new ≡ out ++ f x → new ≡ start ++ flat_map f (take (i + 1) xs)
lines_next f xs i d x start out new h at w e =
    let more : flat_map f (take (i + 1) xs) ≡ flat_map f (take i xs) ++ f x =
    ap (flat_map f) (take_more xs i d h) ∙ flat_map-append f (take i xs) (get_or xs i d ∷ [])
    ∙ ap (λ t. flat_map f (take i xs) ++ t) (append-nil (f (get_or xs i d)) ∙ ap f (sym at)) in
    e ∙ ap (λ t. t ++ f x) w ∙ append_assoc start (flat_map f (take i xs)) (f x) ∙ ap (λ t. start ++ t) (sym more)

-- the same where each item has its lines as a function g of what f gives
pub block_next : {X Y : Type 0} (g : Y → List ℕ) (f : X → Y) (xs : List X) (i : ℕ) (d x : X) (start out new : List ℕ) → i < length xs → x ≡ get_or xs i d → out ≡ start ++ flat_map g (map f (take i xs)) → new ≡ out ++ g (f x) → new ≡ start ++ flat_map g (map f (take (i + 1) xs))
block_next g f xs i d x start out new h at w e =
    let more : flat_map g (map f (take (i + 1) xs)) ≡ flat_map g (map f (take i xs)) ++ g (f x) =
    ap (λ ys. flat_map g (map f ys)) (take_more xs i d h)
    ∙ ap (flat_map g) (map-append f (take i xs) (get_or xs i d ∷ []))
    ∙ flat_map-append g (map f (take i xs)) (f (get_or xs i d) ∷ [])
    ∙ ap (λ t. flat_map g (map f (take i xs)) ++ t) (append-nil (g (f (get_or xs i d))) ∙ ap (λ y. g (f y)) (sym at)) in
    e ∙ ap (λ t. t ++ g (f x)) w ∙ append_assoc start (flat_map g (map f (take i xs))) (g (f x)) ∙ ap (λ t. start ++ t) (sym more)

is_none-map : {X : Type 0} (f : X → List ℕ) (xs : List X) → (length xs == 0) ≡ is_none (map f xs)
is_none-map f [] = refl
is_none-map f (x ∷ xs) = ne_eqb _ 0 (λ e. absurd (omega arith))

after_gap : (sep : List ℕ) (b : Bool) (m : List ℕ) (ys : List (List ℕ)) → joined_after sep b (m ∷ ys) ≡ gap sep b ++ (m ++ led sep ys)
after_gap sep true m ys = refl
after_gap sep false m ys = refl

-- a text m among others: those before it, a gap, the text, those behind it
pub among : {X : Type 0} (sep : List ℕ) (f : X → List ℕ) (xs : List X) (ys : List (List ℕ)) (m start one two three end : List ℕ) (b : Bool) → one ≡ start ++ joined sep (map f xs) → two ≡ one ++ gap sep b → three ≡ two ++ m → end ≡ three ++ led sep ys → b ≡ (length xs == 0) → end ≡ start ++ joined sep (map f xs ++ m ∷ ys)
among sep f xs ys m start one two three end b p q r s h =
    s ∙ ap (λ t. t ++ led sep ys) (r ∙ ap (λ t. t ++ m) (q ∙ ap (λ t. t ++ gap sep b) p))
    ∙ append_assoc ((start ++ joined sep (map f xs)) ++ gap sep b) m (led sep ys)
    ∙ append_assoc (start ++ joined sep (map f xs)) (gap sep b) (m ++ led sep ys)
    ∙ append_assoc start (joined sep (map f xs)) (gap sep b ++ (m ++ led sep ys))
    ∙ ap (λ t. start ++ t)
    (ap (λ t. joined sep (map f xs) ++ t) (sym (after_gap sep b m ys) ∙ ap (λ c. joined_after sep c (m ∷ ys)) (h ∙ is_none-map f xs))
    ∙ sym (joined-append sep (map f xs) (m ∷ ys)))
