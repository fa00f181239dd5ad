-- The types that are declared, in the order in which a walk meets them, and their numbers.
use Rattle.std.specs.Prelude.{ℕ, ◌≡◌, ◌<◌, All, List, [], ◌∷◌, ◌++◌, map, flat_map, drop, length, option_to_list}
use Rattle.fir_ast.specs.declared.tree.Ty.{Ty}
use Rattle.fir_ast.specs.declared.tree.Stmt.{Stmt}
use Rattle.fir_ast.specs.declared.tree.Stmt.TheFolds.{fold-Stmt}
use Rattle.fir_ast.specs.declared.tree.Stmt.TheOpen.{Stmt-F, When}
use Rattle.fir_ast.specs.declared.tree.Port.{Port}
use Rattle.fir_ast.specs.declared.tree.Module.{Module}
use Rattle.fir_check.specs.Rules.{type_in}
use Rattle.fir_check.specs.Seen.{type_at}

-- the type that is written in a statement itself
abbrev pub own_types : {A : Type 0} → Stmt-F A → List Ty
own_types s = option_to_list (type_in s)

abbrev pub types_level : Stmt-F (List Ty) → List Ty
types_level (When _ _ taken other) = flat_map (λ ts. ts) taken ++ flat_map (λ ts. ts) other
types_level s = own_types s

-- the types that are written in a statement, at any depth
abbrev pub types_of : Stmt → List Ty
types_of = fold-Stmt (List Ty) types_level

abbrev pub port_types : Port → List Ty
port_types p = p.ty ∷ []

-- the types of a module's ports, and those that are written in its statements
abbrev pub types_in : Module → List Ty
types_in m = flat_map port_types m.ports ++ flat_map types_of m.body

-- from the place `next` on, the numbers are those of these types, and of others
pub record ComesNext (types : List Ty) (numbers : List ℕ) (next : ℕ) (declared : List Ty) : Type 0 where
  pub others : List Ty
  pub is : map (type_at types) (drop next numbers) ≡ declared ++ others

-- these types were added, and these are their numbers
pub record Added (types more : List Ty) (declared : List Ty) (numbers : List ℕ) : Type 0 where
  pub new : List Ty
  pub grown : more ≡ types ++ new
  pub low : All (λ n. n < length more) numbers
  pub is : map (type_at more) numbers ≡ declared

-- the same, where the numbers were put behind others
pub record Gains (types more : List Ty) (declared : List Ty) (numbers after : List ℕ) : Type 0 where
  pub last : List ℕ
  pub list : after ≡ numbers ++ last
  pub added : Added types more declared last
