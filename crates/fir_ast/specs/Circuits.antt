-- Which circuit a text spells, and the first faulty place of a text.
use Rattle.std.specs.Prelude.{◌≡◌, ◌↔◌, ◌⊎◌, ◌-◌, ℕ, List, [], ◌∷◌, ◌++◌, length, drop, Option, Some, None, Ok, Err}
use Rattle.tb_base.specs.declared.place.Place.{Place}
use Rattle.text_grammar.specs.declared.item.Item.{Item}
use Rattle.text_grammar.specs.declared.fault.Kind.{Kind}
use Rattle.text_grammar.specs.Part.{Outcome, whole}
use Rattle.text_grammar.specs.Fronts.{IsFault}
use Rattle.fir_lex.specs.Lex.{items_of, end_of}
use Rattle.fir_ast.specs.Limits.{Limits}
use Rattle.fir_ast.specs.CircuitGrammar.{circuit_within, circuit}
use Rattle.fir_ast.specs.declared.tree.Circuit.{Circuit}

-- the text's items are those of the circuit, by the rows of the grammar and within its limits
unfoldable pub spells_circuit : List ℕ → Circuit → Type 0
spells_circuit text c = circuit.spells (items_of text) c

-- the same by items, whatever the limits of depth
abbrev pub spells_freely : List Item → Circuit → Type 0
spells_freely items c = (l : Limits) × (depth : ℕ) × (circuit_within l depth).spells items c

-- a front of circuits, whatever the limits of depth
abbrev pub is_front : List Item → Type 0
is_front items = (l : Limits) × (depth : ℕ) × (circuit_within l depth).fronts items

-- ---- the circuit of a text, or its fault

abbrev pub found : {A : Type 0} → Outcome A → Option A
found (Ok x) = Some x.0
found (Err f) = None

-- the circuit that the text spells, if it spells one
unfoldable pub circuit_of : List ℕ → Option Circuit
circuit_of text = found ((whole circuit).reads (items_of text))

abbrev pub first_place : Place → List Item → Place
first_place end [] = end
first_place end (x ∷ rest) = x.place

-- the place of the item from which so many are left; behind the last item it is the text's end
abbrev pub place_left : List ℕ → ℕ → Place
place_left text left = first_place (end_of text) (drop (length (items_of text) - left) (items_of text))

abbrev pub fault_of : {A : Type 0} → List ℕ → Outcome A → Option (Kind × Place)
fault_of text (Ok x) = None
fault_of text (Err f) = Some (f.0, place_left text f.1)

-- the first faulty place and its kind, if the text has one
unfoldable pub circuit_fault : List ℕ → Option (Kind × Place)
circuit_fault text = fault_of text ((whole circuit).reads (items_of text))

-- ---- what it is to be the first faulty place

pub record IsFirstFault (text : List ℕ) (kind : Kind) (place : Place) : Type 0 where
  pub left : ℕ
  pub fault : IsFault (whole circuit) spells_freely (items_of text) kind left
  pub there : place ≡ place_left text left

-- ---- laws

-- a text spells at most one circuit, the one that is found
abbrev pub SpelledOnce : Type 0
SpelledOnce = (text : List ℕ) (c : Circuit) → spells_circuit text c ↔ (circuit_of text ≡ Some c)

-- a text spells a circuit or has a fault, and not both; the one that is found is a first one
pub record FaultWhereNone (text : List ℕ) : Type 0 where
  pub one : ((c : Circuit) × spells_circuit text c) ⊎ ((kind : Kind) × (place : Place) × IsFirstFault text kind place)
  pub not_both : (c : Circuit) → spells_circuit text c → (kind : Kind) (place : Place) → IsFirstFault text kind place → ⊥
  pub found : (kind : Kind) (place : Place) → circuit_fault text ≡ Some (kind, place) → IsFirstFault text kind place

abbrev pub FaultsWhereNone : Type 0
FaultsWhereNone = (text : List ℕ) → FaultWhereNone text

-- a front is exactly what some text of the grammar begins with
abbrev pub FrontsGoOn : Type 0
FrontsGoOn = (items : List Item) → is_front items ↔ ((ends : List Item) × (c : Circuit) × spells_freely (items ++ ends) c)
