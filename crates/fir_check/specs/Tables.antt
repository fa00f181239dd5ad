-- Tables of names: each name with the number that it was given first.
use Rattle.std.specs.Prelude.{ℕ, ◌≡◌, Bool, false, nat_eq, nat_lt, Option, Some, None, is_some, if◌then◌else◌, List, [], ◌∷◌, ◌++◌, map, bytes_eq}
use Rattle.std.specs.List.{position_from}
use Rattle.std.specs.declared.vec.Vec.{Vec}
use Rattle.std.specs.declared.alloc.Global.{Global}
use Rattle.fir_ast.specs.declared.tree.Module.{Module}
use Rattle.fir_ast.specs.declared.tree.Field.{Field}
use Rattle.fir_check.specs.Fields.{field_name}

-- what a contract sees of a map's entries
abbrev pub entries_seen : List (Vec ℕ Global × ℕ) → List (List ℕ × ℕ)
entries_seen es = map (λ e. (e.0.items, e.1)) es

-- the number of a name, if it has one
abbrev pub number_named : List ℕ → List (List ℕ × ℕ) → Option ℕ
number_named name [] = None
number_named name (e ∷ es) = if bytes_eq name e.0 then Some e.1 else number_named name es

-- a further name; nothing changes where it is there already
abbrev pub with_name : List ℕ → ℕ → List (List ℕ × ℕ) → List (List ℕ × ℕ)
with_name name number table = if is_some (number_named name table) then table else table ++ (name, number) ∷ []

-- the table gives for each name the place of the first module that has it
pub record NamesModules (modules : List Module) (table : List (List ℕ × ℕ)) : Type 0 where
  pub each : (name : List ℕ) → number_named name table ≡ position_from (λ m. bytes_eq m.name name) 0 modules

-- the table gives for each name the place of the first field that has it
pub record NamesFields (fields : List Field) (table : List (List ℕ × ℕ)) : Type 0 where
  pub each : (name : List ℕ) → number_named name table ≡ position_from (λ f. bytes_eq (field_name f) name) 0 fields

-- whether this is the number
abbrev pub is_number : ℕ → Option ℕ → Bool
is_number n None = false
is_number n (Some m) = nat_eq m n

-- whether there is a number, and it is below this end
abbrev pub is_below : ℕ → Option ℕ → Bool
is_below end None = false
is_below end (Some n) = nat_lt n end
