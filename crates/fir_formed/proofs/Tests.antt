-- Tests that hold, lists without items, and modules at the places of their names.
use Rattle.std.proofs.Common.{◌≡◌, ◌∙◌, ap, ℕ, suc, Bool, true, false, not, ◌&&◌, cond, Some, List, [], ◌∷◌, ◌++◌, refl, map, bytes_eq}
use Rattle.fir_ast.specs.declared.tree.Module.{Module}
use Rattle.fir_check.specs.Scopes.{module_named}
use Rattle.fir_flat.specs.Modules.{module_at, place_of}

pub and_left : (a b : Bool) → (a && b) ≡ true → a ≡ true
and_left true b e = refl
and_left false b e = cc

pub and_right : (a b : Bool) → (a && b) ≡ true → b ≡ true
and_right true b e = e
and_right false b e = cc

pub and_both : (a b : Bool) → a ≡ true → b ≡ true → (a && b) ≡ true
and_both a b p q = ap (λ x. x && b) p ∙ q

pub not_false : (b : Bool) → not b ≡ false → b ≡ true
not_false true e = refl
not_false false e = cc

abbrev pub all_true : List Bool → Bool
all_true [] = true
all_true (b ∷ bs) = b && all_true bs

pub record Empties {X : Type 0} (xs ys : List X) : Type 0 where
  pub left : xs ≡ []
  pub right : ys ≡ []

pub both_empty : {X : Type 0} (xs ys : List X) → xs ++ ys ≡ [] → Empties xs ys
both_empty [] ys e = record { left = refl; right = e }
both_empty (x ∷ xs) ys e = cc

pub map_empty : {X Y : Type 0} (f : X → Y) (xs : List X) → map f xs ≡ [] → xs ≡ []
map_empty f [] e = refl
map_empty f (x ∷ xs) e = cc

pub named_place : (ms : List Module) (name : List ℕ) (m : Module) → module_named name ms ≡ Some m → module_at ms (place_of ms name) ≡ m
named_place [] name m e = cc
named_place (x ∷ ms) name m e = step (bytes_eq x.name name) (named_place ms name m) e
  where
    step : (b : Bool) → (module_named name ms ≡ Some m → module_at ms (place_of ms name) ≡ m) → cond b (Some x) (module_named name ms) ≡ Some m → module_at (x ∷ ms) (cond b 0 (suc (place_of ms name))) ≡ m
    step true r k = cc
    step false r k = r k
