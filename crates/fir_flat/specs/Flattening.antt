-- An elaboration under way: what is written, and what is still to come.
use Rattle.std.specs.Prelude.{◌≡◌, ℕ, suc, List, [], ◌∷◌, ◌++◌, map, flat_map, sum, length, reverse}
use Rattle.fir_ast.specs.declared.tree.Module.{Module}
use Rattle.net_core.specs.declared.tree.SignalInfo.{SignalInfo}
use Rattle.net_core.specs.declared.tree.Ground.{Ground}
use Rattle.fir_flat.specs.declared.signals.Entry.{Entry as OwnEntry}
use Rattle.fir_flat.specs.declared.flattening.Course.{Course}
use Rattle.fir_flat.specs.Modules.{over}
use Rattle.fir_flat.specs.Elaboration.{Entry, opened, entries_in, infos_of, instances, list_of, Opened}
use Rattle.fir_flat.specs.Signals.{seen_entries}

-- what is still to come: the code keeps the next last
abbrev pub coming : List OwnEntry → List Entry
coming es = reverse (seen_entries es)

-- the signals of entries, and the statements of the instances among them
abbrev pub infos_in : List Module → List Entry → List SignalInfo
infos_in modules es = flat_map (infos_of modules) es

abbrev pub lists_in : List Module → List Entry → List Ground
lists_in modules es = flat_map (list_of modules) (instances es)

-- an entry, and all that lie in it, at any depth
abbrev pub entry_count : List Module → Entry → ℕ
entry_count modules = over (entries_in modules) (λ e counts. suc (sum counts)) 0 (suc (length modules))

abbrev pub counted_in : List Module → List Entry → ℕ
counted_in modules es = sum (map (entry_count modules) es)

-- one entry is expanded: what is written and what is to come stay the same together, and it doesn't come again
pub record Expands (modules : List Module) (e : Entry) (t u : Course) : Type 0 where
  pub signals : u.signals.items ++ infos_in modules (coming u.to_come.items) ≡ t.signals.items ++ infos_in modules (e ∷ coming t.to_come.items)
  pub body : u.body.items ++ lists_in modules (coming u.to_come.items) ≡ t.body.items ++ lists_in modules (e ∷ coming t.to_come.items)
  pub fewer : suc (counted_in modules (coming u.to_come.items)) ≡ counted_in modules (e ∷ coming t.to_come.items)

-- what is written and what is to come are the whole of an instance
pub record Runs (modules : List Module) (o : Opened) (t : Course) : Type 0 where
  pub signals : t.signals.items ++ infos_in modules (coming t.to_come.items) ≡ infos_in modules (opened o ∷ [])
  pub body : t.body.items ++ lists_in modules (coming t.to_come.items) ≡ lists_in modules (opened o ∷ [])

-- all of an instance is written
pub record IsWhole (modules : List Module) (o : Opened) (t : Course) : Type 0 where
  pub signals : t.signals.items ≡ infos_of modules (opened o)
  pub body : t.body.items ≡ list_of modules o
