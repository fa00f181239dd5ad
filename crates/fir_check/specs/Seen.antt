-- What contracts see of the code's own things.
use Rattle.std.specs.Prelude.{ℕ, None, List, get_or}
use Rattle.fir_ast.specs.declared.tree.Ty.{Ty}
use Rattle.fir_ast.specs.declared.tree.Ty.TheVariants as ty
use Rattle.fir_check.specs.declared.thing.Thing.{Thing as NumberedThing}
use Rattle.fir_check.specs.Scopes.{Thing}

-- the type of a number; a number past the last stands for a UInt
abbrev pub type_at : List Ty → ℕ → Ty
type_at types n = get_or types n (ty.UInt None)

-- a thing, with its type in place of the type's number
abbrev pub meant : List Ty → NumberedThing → Thing
meant types t = record { ty = type_at types t.number; flow = t.flow; whole = t.whole }
