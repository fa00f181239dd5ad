-- What a contract sees of the names that a module has declared.
use Rattle.std.specs.Prelude.{◌≡◌, ℕ, zero, suc, false, List, [], ◌∷◌, map, option_map}
use Rattle.std.specs.declared.vec.Vec.{Vec}
use Rattle.std.specs.declared.alloc.Global.{Global}
use Rattle.fir_ast.specs.declared.tree.Ty.{Ty}
use Rattle.fir_check.specs.declared.scope.Declared.{Declared}
use Rattle.fir_check.specs.Names.{seconds}
use Rattle.fir_check.specs.Scopes.{Known}
use Rattle.fir_check.specs.Seen.{meant}

abbrev pub key_name : Vec ℕ Global → List ℕ
key_name k = k.items

-- each name with its fact
abbrev pub facts_seen : List (Vec ℕ Global × Declared) → List (List ℕ × Declared)
facts_seen es = map (λ e. (e.0.items, e.1)) es

abbrev pub known_at : List Ty → List ℕ × Declared → Known
known_at types e = record { name = e.0; open_here = e.1.open_here; meaning = option_map (meant types) e.1.meaning }

-- what is known, where these are the types of the numbers
abbrev pub seen : List Ty → List (List ℕ × Declared) → List Known
seen types es = map (known_at types) es

-- no name stands there twice
abbrev pub IsDistinctNames : List (Vec ℕ Global × Declared) → Type 0
IsDistinctNames es = seconds (λ e. e.0.items) es ≡ []

abbrev pub closed : Declared → Declared
closed d = record { open_here = false; meaning = d.meaning }

-- the entries, with the mark of the n-th cleared
abbrev pub closed_at : ℕ → List (Vec ℕ Global × Declared) → List (Vec ℕ Global × Declared)
closed_at n [] = []
closed_at zero (e ∷ es) = (e.0, closed e.1) ∷ es
closed_at (suc n) (e ∷ es) = e ∷ closed_at n es

-- the entries, with the marks from the n-th on cleared
abbrev pub closed_past : ℕ → List (Vec ℕ Global × Declared) → List (Vec ℕ Global × Declared)
closed_past n [] = []
closed_past zero (e ∷ es) = (e.0, closed e.1) ∷ closed_past zero es
closed_past (suc n) (e ∷ es) = e ∷ closed_past n es
