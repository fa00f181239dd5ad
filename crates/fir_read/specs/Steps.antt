-- What steps of the reader do to a fault.
use Rattle.std.specs.Prelude.{ℕ, List, [], ◌∷◌, Option, Some, None}
use Rattle.fir_ast.specs.declared.tree.Port.{Port}
use Rattle.text_grammar.specs.declared.fault.Kind.TheVariants.{Syntax, TooDeep, NumberTooWide, Unsupported, HeadTooDeep}
use Rattle.text_grammar.specs.declared.fault.ReadError.{ReadError}
use Rattle.text_grammar.specs.declared.fault.ReadError.TheVariants as errors

-- a head that is too deep is answered where its part began
abbrev pub blamed : ℕ → ReadError → ReadError
blamed left errors.Memory = errors.Memory
blamed left (errors.At HeadTooDeep at) = errors.At TooDeep left
blamed left (errors.At Syntax at) = errors.At Syntax at
blamed left (errors.At TooDeep at) = errors.At TooDeep at
blamed left (errors.At NumberTooWide at) = errors.At NumberTooWide at
blamed left (errors.At (Unsupported form) at) = errors.At (Unsupported form) at

-- the port of a line, if it has one
abbrev pub port_list : Option Port → List Port
port_list (Some p) = p ∷ []
port_list None = []
