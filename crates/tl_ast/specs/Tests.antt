-- Which test a text spells, and the first faulty place of a text.
use Rattle.std.specs.Prelude.{◌≡◌, ◌↔◌, ◌⊎◌, ◌-◌, ℕ, List, [], ◌∷◌, ◌++◌, length, drop, Option, Some, None, Ok, Err}
use Rattle.tb_base.specs.declared.place.Place.{Place}
use Rattle.text_grammar.specs.declared.item.Item.{Item}
use Rattle.text_grammar.specs.declared.fault.Kind.{Kind}
use Rattle.text_grammar.specs.Part.{Outcome, whole}
use Rattle.text_grammar.specs.Fronts.{IsFault}
use Rattle.tl_lex.specs.Lex.{items_of, end_of}
use Rattle.tl_ast.specs.TestGrammar.{TestLimits, test_within, test}
use Rattle.tl_ast.specs.declared.tree.TestText.{TestText}

-- the text's items are those of the test, by the rows of the grammar and within its limits
unfoldable pub spells_test : List ℕ → TestText → Type 0
spells_test text x = test.spells (items_of text) x

-- the same by items, whatever the limits of depth
abbrev pub spells_freely : List Item → TestText → Type 0
spells_freely items x = (l : TestLimits) × (test_within l).spells items x

-- a front of tests, whatever the limits of depth
abbrev pub is_front : List Item → Type 0
is_front items = (l : TestLimits) × (test_within l).fronts items

-- ---- the test of a text, or its fault

abbrev pub found : {A : Type 0} → Outcome A → Option A
found (Ok x) = Some x.0
found (Err f) = None

-- the test that the text spells, if it spells one
unfoldable pub test_of : List ℕ → Option TestText
test_of text = found ((whole test).reads (items_of text))

abbrev pub first_place : Place → List Item → Place
first_place end [] = end
first_place end (x ∷ rest) = x.place

-- the place of the item from which so many are left; behind the last item it is the text's end
abbrev pub place_left : List ℕ → ℕ → Place
place_left text left = first_place (end_of text) (drop (length (items_of text) - left) (items_of text))

abbrev pub fault_of : {A : Type 0} → List ℕ → Outcome A → Option (Kind × Place)
fault_of text (Ok x) = None
fault_of text (Err f) = Some (f.0, place_left text f.1)

-- the first faulty place and its kind, if the text has one
unfoldable pub test_fault : List ℕ → Option (Kind × Place)
test_fault text = fault_of text ((whole test).reads (items_of text))

-- ---- what it is to be the first faulty place

pub record IsFirstFault (text : List ℕ) (kind : Kind) (place : Place) : Type 0 where
  pub left : ℕ
  pub fault : IsFault (whole test) spells_freely (items_of text) kind left
  pub there : place ≡ place_left text left

-- ---- laws

-- a text spells at most one test, the one that is found
abbrev pub SpelledOnce : Type 0
SpelledOnce = (text : List ℕ) (x : TestText) → spells_test text x ↔ (test_of text ≡ Some x)

-- a text spells a test or has a fault, and not both; the one that is found is a first one
pub record FaultWhereNone (text : List ℕ) : Type 0 where
  pub one : ((x : TestText) × spells_test text x) ⊎ ((kind : Kind) × (place : Place) × IsFirstFault text kind place)
  pub not_both : (x : TestText) → spells_test text x → (kind : Kind) (place : Place) → IsFirstFault text kind place → ⊥
  pub found : (kind : Kind) (place : Place) → test_fault text ≡ Some (kind, place) → IsFirstFault text kind place

abbrev pub FaultsWhereNone : Type 0
FaultsWhereNone = (text : List ℕ) → FaultWhereNone text

-- a front is exactly what some text of the grammar begins with
abbrev pub FrontsGoOn : Type 0
FrontsGoOn = (items : List Item) → is_front items ↔ ((ends : List Item) × (x : TestText) × spells_freely (items ++ ends) x)
