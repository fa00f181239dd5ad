-- The laws of whole circuit texts.
use Rattle.std.proofs.Common.{◌≡◌, ℕ, ◌+◌, ◌<◌, List, [], ◌∷◌, ◌++◌, length, Some, Ok, Err, refl, sym, ap, subst, ◌∙◌, arith, inl, inr}
use Rattle.tb_base.specs.declared.place.Place.{Place}
use Rattle.text_grammar.specs.declared.item.Item.{Item}
use Rattle.text_grammar.specs.declared.fault.Kind.{Kind}
use Rattle.text_grammar.specs.declared.item.Token.{Token}
use Rattle.text_grammar.specs.declared.item.Token.TheVariants as token
use Rattle.text_grammar.specs.declared.fault.Kind.TheVariants.{Syntax, TooDeep, NumberTooWide, Unsupported, HeadTooDeep}
use Rattle.text_grammar.specs.declared.fault.ReadError.{ReadError}
use Rattle.text_grammar.specs.declared.fault.ReadError.TheVariants as errors
use Rattle.text_grammar.specs.Part.{Outcome, ◌>>=◌, Fails, kind_of_token, ends, whole, blame, blames_head}
use Rattle.text_grammar.specs.Fronts.{IsFault}
use Rattle.text_grammar.proofs.Laws.{Bad, err_parts}
use Rattle.text_grammar.proofs.Whole.{Family, whole_reads, whole_spells}
use Rattle.fir_lex.specs.Lex.{items_of}
use Rattle.fir_ast.specs.Limits.{Limits, limits}
use Rattle.fir_ast.specs.CircuitGrammar.{nested_within, circuit_text, circuit_within, circuit, block_limit}
use Rattle.fir_ast.specs.declared.tree.Circuit.{Circuit}
use Rattle.fir_ast.specs.Circuits.{spells_circuit, spells_freely, is_front, found, circuit_of, place_left, fault_of, circuit_fault, IsFirstFault, FaultWhereNone}
use Rattle.fir_read.specs.Faults.{Faulty, FaultFound, fault_as}
use Rattle.fir_read.specs.declared.fault.ReadFault.{ReadFault}
use Rattle.fir_read.proofs.Faults.{Starts, fault_found, spells_or_fault, spelled_no_fault}
use Rattle.fir_read.proofs.Readings.{anything}
use Rattle.fir_read.proofs.Instances.{Below, same, wider, read, fronted}

-- limits above two others
above_both : Limits → Limits → Limits
above_both l m = record { brackets = l.brackets + m.brackets + 1; suffixes = l.suffixes + m.suffixes + 1 }

left_below : (l m : Limits) → Below l (above_both l m)
unfolding above_both
left_below l m = record { brackets = omega arith; suffixes = omega arith }

right_below : (l m : Limits) → Below m (above_both l m)
unfolding above_both
right_below l m = record { brackets = omega arith; suffixes = omega arith }

starts_of : (l m : Limits) (d d' : ℕ) → Below l m → d < d' → Starts (circuit_within l d)
starts_of l m d d' b lt = record { begins = (fronted l m d d' b lt).begins }

family : (l : Limits) (d : ℕ) → Family (circuit_within l d) spells_freely
family l d = record {
  above = λ ts x h.
      (let m = above_both l h.0 in
      let e = d + h.1 + 1 in
      (circuit_within m e, anything, wider l m d e (left_below l h.0) (omega arith), read m e, fronted l m d e (left_below l h.0) (omega arith), (fronted h.0 m h.1 e (right_below l h.0) (omega arith)).wider ts x h.2));
  some = (let m = above_both l l in (circuit_within m (d + 1), wider l m d (d + 1) (left_below l l) (omega arith), fronted l m d (d + 1) (left_below l l) (omega arith), λ ts x q. (m, d + 1, q)));
}

here : Starts circuit
here = starts_of limits (above_both limits limits) block_limit (block_limit + 1) (left_below limits limits) (omega arith)

some_is : {A : Type 0} (a b : A) → Some a ≡ Some b → a ≡ b
some_is a b h = cc

pub spelled_found : (text : List ℕ) (c : Circuit) → spells_circuit text c → circuit_of text ≡ Some c
unfolding spells_circuit circuit_of
spelled_found text c sp = rw (whole_reads circuit anything (read limits block_limit) (items_of text) c sp) refl

pub found_spelled : (text : List ℕ) (c : Circuit) → circuit_of text ≡ Some c → spells_circuit text c
unfolding spells_circuit circuit_of
found_spelled text c h = go ((whole circuit).reads (items_of text)) refl h
  where
    go : (o : Outcome Circuit) → (whole circuit).reads (items_of text) ≡ o → found o ≡ Some c → circuit.spells (items_of text) c
    go (Ok x) e h = subst (λ (z : Circuit). circuit.spells (items_of text) z) (some_is x.0 c h) (whole_spells circuit circuit (same limits block_limit) (items_of text) x.0 x.1 e).0
    go (Err f) e h = absurd cc

spell_in : (text : List ℕ) (c : Circuit) → circuit.spells (items_of text) c → spells_circuit text c
unfolding spells_circuit
spell_in text c h = h

spell_out : (text : List ℕ) (c : Circuit) → spells_circuit text c → circuit.spells (items_of text) c
unfolding spells_circuit
spell_out text c h = h

found_by : (text : List ℕ) (kind : Kind) (place : Place) → circuit_fault text ≡ Some (kind, place) → fault_of text ((whole circuit).reads (items_of text)) ≡ Some (kind, place)
unfolding circuit_fault
found_by text kind place h = h

-- the fault that reading answers is the first one
pub first_fault : (text : List ℕ) (kind : Kind) (left : ℕ) → (whole circuit).reads (items_of text) ≡ Err (kind, left) → IsFirstFault text kind (place_left text left)
first_fault text kind left e = record { left = left; fault = fault_found circuit anything (read limits block_limit) (same limits block_limit) here spells_freely (family limits block_limit) (items_of text) kind left e; there = refl }

pub fault_is : (text : List ℕ) (kind : Kind) (left : ℕ) → (whole circuit).reads (items_of text) ≡ Err (kind, left) → circuit_fault text ≡ Some (kind, place_left text left)
unfolding circuit_fault
fault_is text kind left e = rw e refl

pub laws_of_faults : (text : List ℕ) → FaultWhereNone text
laws_of_faults text = record {
  one = elim (spells_or_fault circuit anything (read limits block_limit) (same limits block_limit) here spells_freely (family limits block_limit) (items_of text) ((whole circuit).reads (items_of text)) refl) [
    | inl h ↦ inl (h.0, spelled text h.0 h.1)
    | inr h ↦ inr (h.0, place_left text h.1, record { left = h.1; fault = h.2; there = refl })
  ];
  not_both = λ c sp kind place t. spelled_no_fault circuit anything (read limits block_limit) (same limits block_limit) here spells_freely (family limits block_limit) (items_of text) c (by_items text c sp) kind t.left t.fault;
  found = λ kind place h. by_reads text kind place ((whole circuit).reads (items_of text)) refl (found_by text kind place h);
}
  where
    spelled : (text : List ℕ) (c : Circuit) → circuit.spells (items_of text) c → spells_circuit text c
    spelled text c h = spell_in text c h

    by_items : (text : List ℕ) (c : Circuit) → spells_circuit text c → circuit.spells (items_of text) c
    by_items text c h = spell_out text c h

    by_reads : (text : List ℕ) (kind : Kind) (place : Place) (o : Outcome Circuit) → (whole circuit).reads (items_of text) ≡ o → fault_of text o ≡ Some (kind, place) → IsFirstFault text kind place
    by_reads text kind place (Ok x) e h = absurd cc
    by_reads text kind place (Err f) e h =
        let p : (f.0, place_left text f.1) ≡ (kind, place) = some_is (f.0, place_left text f.1) (kind, place) h in
        let k : f.0 ≡ kind = ap (λ (z : Kind × Place). z.0) p in
        let q : place_left text f.1 ≡ place = ap (λ (z : Kind × Place). z.1) p in
        let t = first_fault text f.0 f.1 e in
        record { left = t.left; fault = subst (λ (z : Kind). IsFault (whole circuit) spells_freely (items_of text) z t.left) k t.fault; there = sym q ∙ t.there }

-- a front is what some text of the grammar begins with
pub front_goes_on : (items : List Item) → is_front items → (ends : List Item) × (c : Circuit) × spells_freely (items ++ ends) c
front_goes_on items h =
    let m = above_both h.0 h.0 in
    let g = (fronted h.0 m h.1 (h.1 + 1) (left_below h.0 h.0) (omega arith)).completes items h.2 in
    (g.ends, g.value, (m, h.1 + 1, g.spelled))

pub begins_front : (items : List Item) → ((ends : List Item) × (c : Circuit) × spells_freely (items ++ ends) c) → is_front items
begins_front items h =
    let t = h.2 in
    let m = above_both t.0 t.0 in
    (t.0, t.1, (fronted t.0 m t.1 (t.1 + 1) (left_below t.0 t.0) (omega arith)).begins items h.0 h.1 t.2)

-- ---- the head of a block that is too deep is answered as too deep

token_never : (t : Token) → HeadTooDeep ≡ kind_of_token t → ⊥
token_never (token.Word w) h = absurd cc
token_never (token.Number w) h = absurd cc
token_never (token.Symbol w) h = absurd cc
token_never (token.Text w) h = absurd cc
token_never (token.Unsupported f) h = absurd cc
token_never (token.TooDeep f) h = absurd cc
token_never token.TooWide h = absurd cc
token_never token.Other h = absurd cc

ends_never : {A : Type 0} (a : A) (r : List Item) (m : ℕ) → ends a r ≡ Bad (HeadTooDeep, m) → ⊥
ends_never a [] m e = absurd cc
ends_never {A = A} a (x ∷ r) m e = let h = err_parts {A = A} (kind_of_token x.token) HeadTooDeep (length (x ∷ r)) m e in token_never x.token (sym h.0)

blame_never : {A : Type 0} (n : ℕ) (o : Outcome A) (m : ℕ) → (blame n o >>= λ x. ends x.0 x.1) ≡ Bad (HeadTooDeep, m) → ⊥
blame_never n (Ok x) m e = ends_never x.0 x.1 m e
blame_never {A = A} n (Err (HeadTooDeep, k)) m e = let h = err_parts {A = A} TooDeep HeadTooDeep n m e in let z : TooDeep ≡ HeadTooDeep = h.0 in absurd cc
blame_never {A = A} n (Err (Syntax, k)) m e = let h = err_parts {A = A} Syntax HeadTooDeep k m e in let z : Syntax ≡ HeadTooDeep = h.0 in absurd cc
blame_never {A = A} n (Err (TooDeep, k)) m e = let h = err_parts {A = A} TooDeep HeadTooDeep k m e in let z : TooDeep ≡ HeadTooDeep = h.0 in absurd cc
blame_never {A = A} n (Err (NumberTooWide, k)) m e = let h = err_parts {A = A} NumberTooWide HeadTooDeep k m e in let z : NumberTooWide ≡ HeadTooDeep = h.0 in absurd cc
blame_never {A = A} n (Err (Unsupported form, k)) m e = let h = err_parts {A = A} (Unsupported form) HeadTooDeep k m e in let z : Unsupported form ≡ HeadTooDeep = h.0 in absurd cc

never_head : (ts : List Item) (m : ℕ) → (whole circuit).reads ts ≡ Err (HeadTooDeep, m) → ⊥
unfolding whole circuit_within blames_head
never_head ts m e = blame_never (length ts) ((circuit_text limits (nested_within limits block_limit)).reads ts) m e

pub faulty : (text : List ℕ) (kind : Kind) (left : ℕ) → (whole circuit).reads (items_of text) ≡ Err (kind, left) → Faulty text (fault_as kind (place_left text left))
faulty text Syntax left e = first_fault text Syntax left e
faulty text TooDeep left e = first_fault text TooDeep left e
faulty text NumberTooWide left e = first_fault text NumberTooWide left e
faulty text (Unsupported form) left e = first_fault text (Unsupported form) left e
faulty text HeadTooDeep left e = absurd (never_head (items_of text) left e)

pub fault_found_there : (text : List ℕ) (kind : Kind) (left : ℕ) → (whole circuit).reads (items_of text) ≡ Err (kind, left) → FaultFound text (fault_as kind (place_left text left))
fault_found_there text Syntax left e = fault_is text Syntax left e
fault_found_there text TooDeep left e = fault_is text TooDeep left e
fault_found_there text NumberTooWide left e = fault_is text NumberTooWide left e
fault_found_there text (Unsupported form) left e = fault_is text (Unsupported form) left e
fault_found_there text HeadTooDeep left e = absurd (never_head (items_of text) left e)

-- ---- what the public call answers

pub read_found : (text : List ℕ) (items r : List Item) (c : Circuit) → items ≡ items_of text → (whole circuit).reads items ≡ Ok (c, r) → circuit_of text ≡ Some c
unfolding circuit_of
read_found text items r c is e = let one : (whole circuit).reads (items_of text) ≡ Ok (c, r) = rw (← is) e in rw one refl

failed : (text : List ℕ) (items : List Item) (e : ReadError) (kind : Kind) (left : ℕ) → items ≡ items_of text → e ≡ errors.At kind left → Fails ((whole circuit).reads items) e → (whole circuit).reads (items_of text) ≡ Err (kind, left)
failed text items e kind left is at fails =
    let here : (whole circuit).reads items ≡ Err (kind, left) = subst (λ (z : ReadError). Fails ((whole circuit).reads items) z) at fails in
    rw (← is) here

pub read_faulty : (text : List ℕ) (items : List Item) (e : ReadError) (kind : Kind) (left : ℕ) (f : ReadFault) → items ≡ items_of text → e ≡ errors.At kind left → Fails ((whole circuit).reads items) e → f ≡ fault_as kind (place_left text left) → Faulty text f
read_faulty text items e kind left f is at fails h = rw h (faulty text kind left (failed text items e kind left is at fails))

pub read_fault_found : (text : List ℕ) (items : List Item) (e : ReadError) (kind : Kind) (left : ℕ) (f : ReadFault) → items ≡ items_of text → e ≡ errors.At kind left → Fails ((whole circuit).reads items) e → f ≡ fault_as kind (place_left text left) → FaultFound text f
read_fault_found text items e kind left f is at fails h = rw h (fault_found_there text kind left (failed text items e kind left is at fails))
