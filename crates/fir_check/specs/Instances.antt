-- Instances as numbers: a module is its place among the modules, an instance a line with the place of its module.
use Rattle.std.specs.Prelude.{ℕ, zero, suc, ◌≡◌, Bool, true, false, nat_eq, nat_lt, nat_le, ◌||◌, if◌then◌else◌, Option, option_map, List, [], ◌∷◌, ◌++◌, map, flat_map, filter, filter_map, slice_index, slice_index_or, slice_set}
use Rattle.std.specs.List.{list_any, list_all}
use Rattle.std.specs.declared.vec.Vec.{Vec}
use Rattle.std.specs.declared.alloc.Global.{Global}
use Rattle.fir_ast.specs.declared.tree.Stmt.{Stmt}
use Rattle.fir_ast.specs.declared.tree.Stmt.TheFolds.{fold-Stmt}
use Rattle.fir_ast.specs.declared.tree.Stmt.TheOpen.{Stmt-F, Inst, When}
use Rattle.fir_ast.specs.declared.tree.Module.{Module}
use Rattle.fir_check.specs.declared.instances.Instance.{Instance}
use Rattle.fir_check.specs.declared.best.Rule.TheVariants.{InstanceCycle}
use Rattle.fir_check.specs.Places.{least, place}
use Rattle.fir_check.specs.Tables.{number_named}

-- the instances in a statement, each a line with the name of its module
abbrev pub inst_level : Stmt-F (List (ℕ × List ℕ)) → List (ℕ × List ℕ)
inst_level (Inst line _ target) = (line, target) ∷ []
inst_level (When _ _ taken other) = flat_map (λ is. is) taken ++ flat_map (λ is. is) other
inst_level _ = []

abbrev pub insts_of : Stmt → List (ℕ × List ℕ)
insts_of = fold-Stmt (List (ℕ × List ℕ)) inst_level

-- the instances of a module, at any depth
abbrev pub insts_in : Module → List (ℕ × List ℕ)
insts_in m = flat_map insts_of m.body

-- those whose module has a number
abbrev pub numbered : List (List ℕ × ℕ) → List (ℕ × List ℕ) → List Instance
numbered table insts = filter_map (λ i. option_map (λ n. record { line = i.0; target = n }) (number_named i.1 table)) insts

-- the instances of all modules
abbrev pub kids_seen : List (Vec Instance Global) → List (List Instance)
kids_seen kids = map (λ v. v.items) kids

abbrev pub graph : List (List ℕ × ℕ) → List Module → List (List Instance)
graph table modules = map (λ m. numbered table (insts_in m)) modules

-- the instances of a module; none past the last module
abbrev pub kids_at : List (List Instance) → ℕ → List Instance
kids_at kids a = slice_index_or kids a []

-- a way of at most n instances leads from one module to the other
abbrev pub reaches : ℕ → List (List Instance) → ℕ → ℕ → Bool
reaches zero kids a b = nat_eq a b
reaches (suc n) kids a b = nat_eq a b || list_any (λ i. reaches n kids i.target b) (kids_at kids a)

-- a way leads from one module to the other
pub record Leads (kids : List (List Instance)) (a b : ℕ) : Type 0 where
  pub steps : ℕ
  pub way : reaches steps kids a b ≡ true

-- no way does
pub record Parts (kids : List (List Instance)) (a b : ℕ) : Type 0 where
  pub none : (n : ℕ) → reaches n kids a b ≡ false

abbrev pub leads_so : Bool → List (List Instance) → ℕ → ℕ → Type 0
leads_so true kids a b = Leads kids a b
leads_so false kids a b = Parts kids a b

-- each instance's module is a number below n
pub record Within (n : ℕ) (kids : List (List Instance)) : Type 0 where
  pub each : (a : ℕ) → list_all (λ i. nat_lt i.target n) (kids_at kids a) ≡ true

-- along no instance of the module at place a the height rises
abbrev pub rises_nowhere : List ℕ → ℕ → List Instance → Bool
rises_nowhere heights a insts = list_all (λ i. nat_le (slice_index heights i.target) (slice_index heights a)) insts

-- along no instance the height rises
pub record NeverRises (heights : List ℕ) (kids : List (List Instance)) : Type 0 where
  pub each : (a : ℕ) → rises_nowhere heights a (kids_at kids a) ≡ true

-- the marks of the modules that were found, and the modules in the order in which they were found
abbrev pub Trail : Type 0
Trail = List Bool × List ℕ

-- a module that is found now, unless it has its mark
abbrev pub visit : ℕ → Trail → Trail
visit a t = if slice_index_or t.0 a false then t else (slice_set t.0 a true, t.1 ++ a ∷ [])

-- the modules of these instances, found one after another
abbrev pub spread : List Instance → Trail → Trail
spread [] t = t
spread (i ∷ insts) t = spread insts (visit i.target t)

-- the test tells of each of these instances whether a way leads from its module to the other
abbrev pub EachTold : (Instance → Bool) → List (List Instance) → ℕ → List Instance → Type 0
EachTold returns kids home [] = Unit {0}
EachTold returns kids home (i ∷ insts) = leads_so (returns i) kids i.target home × EachTold returns kids home insts

-- the instances of a module are noted from which a way leads back to it, by whatever test tells them
pub record NotesReturning (kids : List (List Instance)) (home : ℕ) (before behind : Option ℕ) : Type 0 where
  pub by : (returns : Instance → Bool) → EachTold returns kids home (kids_at kids home)
      → behind ≡ least before (map (place InstanceCycle) (map (λ i. i.line) (filter returns (kids_at kids home))))
