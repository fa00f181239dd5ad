-- Which answers of the reader say a text's first fault.
use Rattle.std.specs.Prelude.{◌≡◌, ℕ, List, Some}
use Rattle.tb_base.specs.declared.place.Place.{Place}
use Rattle.text_grammar.specs.declared.fault.Kind.{Kind}
use Rattle.text_grammar.specs.declared.fault.Kind.TheVariants as kind
use Rattle.tl_ast.specs.Tests.{test_fault, IsFirstFault}
use Rattle.tl_text.specs.declared.fault.TestReadFault.{TestReadFault}
use Rattle.tl_text.specs.declared.fault.TestReadFault.TheVariants as fault

-- the fault of a kind, at a place; a test text has no unsupported forms, and no heads that are too deep
abbrev pub fault_as : Kind → Place → TestReadFault
fault_as kind.Syntax place = fault.Syntax place
fault_as (kind.Unsupported form) place = fault.Syntax place
fault_as kind.NumberTooWide place = fault.NumberTooWide place
fault_as kind.TooDeep place = fault.TooDeep place
fault_as kind.HeadTooDeep place = fault.TooDeep place

-- a fault that is answered is the first one; want of memory says nothing of the text
abbrev pub Faulty : List ℕ → TestReadFault → Type 0
Faulty text (fault.Syntax place) = IsFirstFault text kind.Syntax place
Faulty text (fault.NumberTooWide place) = IsFirstFault text kind.NumberTooWide place
Faulty text (fault.TooDeep place) = IsFirstFault text kind.TooDeep place
Faulty text (fault.Memory m) = Unit {0}

-- and it is the one that the definition finds
abbrev pub FaultFound : List ℕ → TestReadFault → Type 0
FaultFound text (fault.Syntax place) = test_fault text ≡ Some (kind.Syntax, place)
FaultFound text (fault.NumberTooWide place) = test_fault text ≡ Some (kind.NumberTooWide, place)
FaultFound text (fault.TooDeep place) = test_fault text ≡ Some (kind.TooDeep, place)
FaultFound text (fault.Memory m) = Unit {0}
