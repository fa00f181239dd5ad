-- What the definitions over types give at a bundle, as a statement about the list of its fields.
use Rattle.std.proofs.Common.{ℕ, Bool, true, false, not, ◌&&◌, ◌||◌, ◌≡◌, List, [], ◌∷◌, map, refl, ap, ◌∙◌}
use Rattle.std.specs.List.{list_any, list_all}
use Rattle.fir_ast.specs.declared.tree.Ty.{Ty}
use Rattle.fir_ast.specs.declared.tree.Ty.TheVariants as ty
use Rattle.fir_ast.specs.declared.tree.Ty.TheFolds.{fold-Ty, fold-Field, fold-roll-Field}
use Rattle.fir_ast.specs.declared.tree.Ty.TheOpen.{Ty-F, Bundle}
use Rattle.fir_ast.specs.declared.tree.Ty.TheViews.{out-Field}
use Rattle.fir_ast.specs.declared.tree.Field.{Field}
use Rattle.fir_check.specs.Names.{is_among, kept, first_ones, firsts}
use Rattle.fir_check.specs.Types.{Slot, slot, slot_name, over_type, with_firsts, flip_level, has_flip, clock_level, holds_clock}
use Rattle.fir_check.specs.Fields.{field_flip, field_name, field_type, first_fields, flips}
use Rattle.fir_check.proofs.Unrolled.{fold-Bundle}

-- a field whose type is folded
abbrev pub folded : {A : Type 0} → (Ty → A) → Field → Slot A
folded h f = record { flip = field_flip f; name = field_name f; of = h (field_type f) }

pub fold_field : (A : Type 0) (f : Ty-F A (Slot A) → A) (x : Field) → fold-Field A (Slot A) f slot x ≡ folded (fold-Ty A (Slot A) f slot) x
fold_field A f x = fold-roll-Field A (Slot A) f slot (out-Field x)

pub map_same : {X Y : Type 0} (g h : X → Y) (e : (x : X) → g x ≡ h x) (xs : List X) → map g xs ≡ map h xs
map_same g h e [] = refl
map_same g h e (x ∷ xs) = ap (λ y. y ∷ map g xs) (e x) ∙ ap (λ ys. h x ∷ ys) (map_same g h e xs)

kept_map : {X Y : Type 0} (g : X → Y) (b : Bool) (x : X) (xs : List X) → kept b (g x) (map g xs) ≡ map g (kept b x xs)
kept_map g true x xs = refl
kept_map g false x xs = refl

pub firsts_map : {X Y : Type 0} (g : X → Y) (nx : X → List ℕ) (ny : Y → List ℕ) (e : (x : X) → ny (g x) ≡ nx x) (earlier : List (List ℕ)) (xs : List X)
    → first_ones ny earlier (map g xs) ≡ map g (first_ones nx earlier xs)
firsts_map g nx ny e earlier [] = refl
firsts_map g nx ny e earlier (x ∷ xs) =
    ap (λ n. kept (not (is_among n earlier)) (g x) (first_ones ny (n ∷ earlier) (map g xs))) (e x)
    ∙ ap (kept (not (is_among (nx x) earlier)) (g x)) (firsts_map g nx ny e (nx x ∷ earlier) xs)
    ∙ kept_map g (not (is_among (nx x) earlier)) x (first_ones nx (nx x ∷ earlier) xs)

pub over_bundle : (A : Type 0) (level : Ty-F A (Slot A) → A) (fields : List Field)
    → over_type A level (ty.Bundle fields) ≡ level (Bundle (map (folded (over_type A level)) (first_fields fields)))
over_bundle A level fields =
    let f : Ty-F A (Slot A) → A = λ (t : Ty-F A (Slot A)). level (with_firsts t) in
    fold-Bundle A (Slot A) f slot fields
    ∙ ap (λ xs. level (Bundle (firsts slot_name xs))) (map_same (fold-Field A (Slot A) f slot) (folded (fold-Ty A (Slot A) f slot)) (fold_field A f) fields)
    ∙ ap (λ xs. level (Bundle xs)) (firsts_map (folded (fold-Ty A (Slot A) f slot)) field_name slot_name (λ x. refl) [] fields)

pub any_map : {X Y : Type 0} (P : Y → Bool) (g : X → Y) (xs : List X) → list_any P (map g xs) ≡ list_any (λ x. P (g x)) xs
any_map P g [] = refl
any_map P g (x ∷ xs) = ap (λ b. P (g x) || b) (any_map P g xs)

pub all_map : {X Y : Type 0} (P : Y → Bool) (g : X → Y) (xs : List X) → list_all P (map g xs) ≡ list_all (λ x. P (g x)) xs
all_map P g [] = refl
all_map P g (x ∷ xs) = ap (λ b. P (g x) && b) (all_map P g xs)

pub any_same : {X : Type 0} (P Q : X → Bool) (e : (x : X) → P x ≡ Q x) (xs : List X) → list_any P xs ≡ list_any Q xs
any_same P Q e [] = refl
any_same P Q e (x ∷ xs) = ap (λ b. b || list_any P xs) (e x) ∙ ap (λ b. Q x || b) (any_same P Q e xs)

pub all_same : {X : Type 0} (P Q : X → Bool) (e : (x : X) → P x ≡ Q x) (xs : List X) → list_all P xs ≡ list_all Q xs
all_same P Q e [] = refl
all_same P Q e (x ∷ xs) = ap (λ b. b && list_all P xs) (e x) ∙ ap (λ b. Q x && b) (all_same P Q e xs)

pub bundle_flips : (fields : List Field) → has_flip (ty.Bundle fields) ≡ list_any flips (first_fields fields)
bundle_flips fields = over_bundle Bool flip_level fields ∙ any_map (λ (f : Slot Bool). f.flip || f.of) (folded has_flip) (first_fields fields)

pub bundle_clocks : (fields : List Field) → holds_clock (ty.Bundle fields) ≡ list_any (λ f. holds_clock (field_type f)) (first_fields fields)
bundle_clocks fields = over_bundle Bool clock_level fields ∙ any_map (λ (f : Slot Bool). f.of) (folded holds_clock) (first_fields fields)
