-- The ground parts of a bundle that are looked for.
use Rattle.std.proofs.Common.{Bool, true, false, not, ◌&&◌, ◌||◌, ◌≡◌, List, [], ◌∷◌, ◌++◌, map, refl, sym, ap, ◌∙◌}
use Rattle.std.specs.List.{list_any, flat_map}
use mathlib.Core.Bool.{beq}
use Rattle.fir_ast.specs.declared.tree.Ty.TheVariants as ty
use Rattle.fir_ast.specs.declared.tree.Field.{Field}
use Rattle.fir_check.specs.Types.{Slot, Leaf, leaves, leaf_level, turned_leaf, same}
use Rattle.fir_check.specs.Fields.{field_flip, field_type, first_fields, is_wanted, has_wanted}
use Rattle.fir_check.proofs.Bundles.{folded, over_bundle, any_map, any_same}

or_assoc : (a b c : Bool) → (a || b) || c ≡ a || (b || c)
or_assoc true b c = refl
or_assoc false b c = refl

any_append : {X : Type 0} (P : X → Bool) (xs ys : List X) → list_any P (xs ++ ys) ≡ list_any P xs || list_any P ys
any_append P [] ys = refl
any_append P (x ∷ xs) ys = ap (λ b. P x || b) (any_append P xs ys) ∙ sym (or_assoc (P x) (list_any P xs) (list_any P ys))

any_flat : {X Y : Type 0} (P : Y → Bool) (g : X → List Y) (xs : List X) → list_any P (flat_map g xs) ≡ list_any (λ x. list_any P (g x)) xs
any_flat P g [] = refl
any_flat P g (x ∷ xs) = any_append P (g x) (flat_map g xs) ∙ ap (λ b. list_any P (g x) || b) (any_flat P g xs)

-- a part that is turned is wanted where the part is in the other direction
turned_wanted : (turned flip against : Bool) → not (same turned (not (same flip against))) ≡ not (same (not (same turned flip)) against)
turned_wanted true true true = refl
turned_wanted true true false = refl
turned_wanted true false true = refl
turned_wanted true false false = refl
turned_wanted false true true = refl
turned_wanted false true false = refl
turned_wanted false false true = refl
turned_wanted false false false = refl

slot_wanted : (turned unsized_only : Bool) (f : Field)
    → list_any (is_wanted turned unsized_only) (map (turned_leaf (field_flip f)) (leaves (field_type f))) ≡ has_wanted turned unsized_only f
slot_wanted turned unsized_only f =
    any_map (is_wanted turned unsized_only) (turned_leaf (field_flip f)) (leaves (field_type f))
    ∙ any_same (λ (l : Leaf). is_wanted turned unsized_only (turned_leaf (field_flip f) l)) (is_wanted (not (same turned (field_flip f))) unsized_only)
    (λ l. ap (λ b. b && (not unsized_only || l.unsized)) (turned_wanted turned (field_flip f) l.against)) (leaves (field_type f))

pub bundle_leaves : (turned unsized_only : Bool) (fields : List Field)
    → list_any (is_wanted turned unsized_only) (leaves (ty.Bundle fields)) ≡ list_any (has_wanted turned unsized_only) (first_fields fields)
bundle_leaves turned unsized_only fields =
    ap (list_any (is_wanted turned unsized_only)) (over_bundle (List Leaf) leaf_level fields)
    ∙ any_flat (is_wanted turned unsized_only) (λ (f : Slot (List Leaf)). map (turned_leaf f.flip) f.of) (map (folded leaves) (first_fields fields))
    ∙ any_map (λ (f : Slot (List Leaf)). list_any (is_wanted turned unsized_only) (map (turned_leaf f.flip) f.of)) (folded leaves) (first_fields fields)
    ∙ any_same (λ f. list_any (is_wanted turned unsized_only) (map (turned_leaf (field_flip f)) (leaves (field_type f)))) (has_wanted turned unsized_only) (slot_wanted turned unsized_only) (first_fields fields)

-- as the code compares two booleans
pub wanted_here : (turned flip unsized_only : Bool) (ls : List Leaf) → list_any (is_wanted (not (beq turned flip)) unsized_only) ls ≡ list_any (is_wanted (not (same turned flip)) unsized_only) ls
wanted_here true true u ls = refl
wanted_here true false u ls = refl
wanted_here false true u ls = refl
wanted_here false false u ls = refl
