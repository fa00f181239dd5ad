-- The parent of a path.
use Rattle.std.proofs.Common.{◌≡◌, ℕ, [], ◌∷◌, ◌++◌, Some, option_map, sym, ap, ◌∙◌}
use Rattle.bench_model.specs.Paths.{Path}
use Rattle.bench_model.proofs.PathFacts.{child_is, parent_child}
use Rattle.bench_acts.specs.Behind.{parent_of}

pub parent_behind : (p front : Path) (last : ℕ) → p ≡ front ++ last ∷ [] → parent_of p ≡ Some front
parent_behind p front last e = ap parent_of (e ∙ sym (child_is front last)) ∙ ap (option_map (λ q. q.0)) (parent_child front last)
