-- The order of paths.
use Rattle.std.proofs.Common.{◌≡◌, ℕ, ◌<◌, List, [], ◌∷◌, ◌++◌, refl, sym, ap, ◌∙◌}
use Rattle.std.specs.declared.cmp.Ordering.{Ordering}
use Rattle.std.specs.declared.cmp.Ordering.TheVariants.{Less, Equal}
use Rattle.std.specs.Ordering.{nat_cmp, ordering_then}
use Rattle.std.specs.Cmp.{nat_cmp_is}
use Rattle.tb_base.specs.Paths.{path_cmp}

-- a common number leaves the order to what follows
same_head : (x : ℕ) (o : Ordering) → ordering_then (nat_cmp x x) o ≡ o
same_head x o = ap (λ c. ordering_then c o) (sym (nat_cmp_is x x Equal refl))

pub prefix_less : (p q : List ℕ) (k : ℕ) → path_cmp p (p ++ k ∷ q) ≡ Less
prefix_less [] q k = refl
prefix_less (x ∷ p) q k = same_head x (path_cmp p (p ++ k ∷ q)) ∙ prefix_less p q k

pub number_less : (p q r : List ℕ) (j k : ℕ) → j < k → path_cmp (p ++ j ∷ q) (p ++ k ∷ r) ≡ Less
number_less [] q r j k h = ap (λ c. ordering_then c (path_cmp q r)) (sym (nat_cmp_is j k Less h))
number_less (x ∷ p) q r j k h = same_head x (path_cmp (p ++ j ∷ q) (p ++ k ∷ r)) ∙ number_less p q r j k h
