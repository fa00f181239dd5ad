-- The laws of whole test texts.
use Rattle.std.proofs.Common.{◌≡◌, ℕ, Bool, ◌+◌, List, ◌++◌, Some, Ok, Err, refl, sym, ap, subst, ◌∙◌, arith, inl, inr}
use Rattle.tb_base.specs.declared.place.Place.{Place}
use Rattle.text_grammar.specs.declared.item.Item.{Item}
use Rattle.text_grammar.specs.declared.fault.Kind.{Kind}
use Rattle.text_grammar.specs.declared.fault.Form.{Form}
use Rattle.text_grammar.specs.declared.fault.Kind.TheVariants.{Syntax, TooDeep, NumberTooWide, Unsupported, HeadTooDeep}
use Rattle.text_grammar.specs.declared.fault.ReadError.{ReadError}
use Rattle.text_grammar.specs.declared.fault.ReadError.TheVariants as errors
use Rattle.text_grammar.specs.Part.{Outcome, Fails, whole}
use Rattle.text_grammar.specs.Fronts.{IsFault}
use Rattle.text_grammar.proofs.Laws.{Wider, IsRead}
use Rattle.text_grammar.proofs.Completions.{Fronted}
use Rattle.text_grammar.proofs.Whole.{Family, whole_reads, whole_spells}
use Rattle.tl_lex.specs.Lex.{items_of}
use Rattle.tl_ast.specs.TestGrammar.{TestLimits, test_within, test, test_limits}
use Rattle.tl_ast.specs.declared.tree.TestText.{TestText}
use Rattle.tl_ast.specs.Tests.{spells_test, spells_freely, is_front, found, test_of, place_left, fault_of, test_fault, IsFirstFault, FaultWhereNone}
use Rattle.tl_text.specs.Faults.{Faulty, FaultFound, fault_as}
use Rattle.tl_text.specs.declared.fault.TestReadFault.{TestReadFault}
use Rattle.tl_text.proofs.Faults.{Starts, fault_found, spells_or_fault, spelled_no_fault}
use Rattle.tl_text.proofs.Ordinary.{never_unsupported, never_head_item}
use Rattle.tl_text.proofs.TestSteps.{Below, wide, test_same, test_wider}
use Rattle.tl_text.proofs.TestReads.{stmts_more, test_read}
use Rattle.tl_text.proofs.TestFits.{test_fits}
use Rattle.tl_text.proofs.Fits.{Usual}

-- limits above two others
abbrev above_both : TestLimits → TestLimits → TestLimits
above_both l m = wide (l.exprs.parens + m.exprs.parens + 1) (l.blocks + m.blocks + 1) (l.forks + m.forks + 1)

left_below : (l m : TestLimits) → Below l (l.exprs.parens + m.exprs.parens + 1) (l.blocks + m.blocks + 1) (l.forks + m.forks + 1)
left_below l m = record { parens = omega arith; blocks = omega arith; forks = omega arith }

right_below : (l m : TestLimits) → Below m (l.exprs.parens + m.exprs.parens + 1) (l.blocks + m.blocks + 1) (l.forks + m.forks + 1)
right_below l m = record { parens = omega arith; blocks = omega arith; forks = omega arith }

left_wider : (l m : TestLimits) → Wider (test_within l) (test_within (above_both l m))
left_wider l m = test_wider l _ _ _ (left_below l m)

left_fronted : (l m : TestLimits) → Fronted (test_within l) (test_within (above_both l m))
left_fronted l m = (test_fits l _ _ _ (left_below l m)).fronted

right_fronted : (l m : TestLimits) → Fronted (test_within m) (test_within (above_both l m))
right_fronted l m = (test_fits m _ _ _ (right_below l m)).fronted

-- nothing goes on with a whole test but what goes on with a statement
anything : Item → Bool
anything = stmts_more test_limits.exprs

family : (l : TestLimits) → Family (test_within l) spells_freely
family l = record {
  above = λ ts x h. (test_within (above_both l h.0), stmts_more (above_both l h.0).exprs, left_wider l h.0, test_read (above_both l h.0), left_fronted l h.0, (right_fronted l h.0).wider ts x h.1);
  some = (test_within (above_both l l), left_wider l l, left_fronted l l, λ ts x q. (above_both l l, q));
}

here : Starts test
here = record { begins = (left_fronted test_limits test_limits).begins }

test_is_read : IsRead test anything
unfolding anything
test_is_read = test_read test_limits

some_is : {A : Type 0} (a b : A) → Some a ≡ Some b → a ≡ b
some_is a b h = cc

pub spelled_found : (text : List ℕ) (c : TestText) → spells_test text c → test_of text ≡ Some c
unfolding spells_test test_of
spelled_found text c sp = rw (whole_reads test anything test_is_read (items_of text) c sp) refl

pub found_spelled : (text : List ℕ) (c : TestText) → test_of text ≡ Some c → spells_test text c
unfolding spells_test test_of
found_spelled text c h = go ((whole test).reads (items_of text)) refl h
  where
    go : (o : Outcome TestText) → (whole test).reads (items_of text) ≡ o → found o ≡ Some c → test.spells (items_of text) c
    go (Ok x) e h = subst (λ (z : TestText). test.spells (items_of text) z) (some_is x.0 c h) (whole_spells test test (test_same test_limits) (items_of text) x.0 x.1 e).0
    go (Err f) e h = absurd cc

spell_in : (text : List ℕ) (c : TestText) → test.spells (items_of text) c → spells_test text c
unfolding spells_test
spell_in text c h = h

spell_out : (text : List ℕ) (c : TestText) → spells_test text c → test.spells (items_of text) c
unfolding spells_test
spell_out text c h = h

found_by : (text : List ℕ) (kind : Kind) (place : Place) → test_fault text ≡ Some (kind, place) → fault_of text ((whole test).reads (items_of text)) ≡ Some (kind, place)
unfolding test_fault
found_by text kind place h = h

-- the fault that reading answers is the first one
pub first_fault : (text : List ℕ) (kind : Kind) (left : ℕ) → (whole test).reads (items_of text) ≡ Err (kind, left) → IsFirstFault text kind (place_left text left)
first_fault text kind left e = record { left = left; fault = fault_found test anything test_is_read (test_same test_limits) here spells_freely (family test_limits) (items_of text) kind left e; there = refl }

pub fault_is : (text : List ℕ) (kind : Kind) (left : ℕ) → (whole test).reads (items_of text) ≡ Err (kind, left) → test_fault text ≡ Some (kind, place_left text left)
unfolding test_fault
fault_is text kind left e = rw e refl

pub laws_of_faults : (text : List ℕ) → FaultWhereNone text
laws_of_faults text = record {
  one = elim (spells_or_fault test anything test_is_read (test_same test_limits) here spells_freely (family test_limits) (items_of text) ((whole test).reads (items_of text)) refl) [
    | inl h ↦ inl (h.0, spelled text h.0 h.1)
    | inr h ↦ inr (h.0, place_left text h.1, record { left = h.1; fault = h.2; there = refl })
  ];
  not_both = λ c sp kind place t. spelled_no_fault test anything test_is_read (test_same test_limits) here spells_freely (family test_limits) (items_of text) c (by_items text c sp) kind t.left t.fault;
  found = λ kind place h. by_reads text kind place ((whole test).reads (items_of text)) refl (found_by text kind place h);
}
  where
    spelled : (text : List ℕ) (c : TestText) → test.spells (items_of text) c → spells_test text c
    spelled text c h = spell_in text c h

    by_items : (text : List ℕ) (c : TestText) → spells_test text c → test.spells (items_of text) c
    by_items text c h = spell_out text c h

    by_reads : (text : List ℕ) (kind : Kind) (place : Place) (o : Outcome TestText) → (whole test).reads (items_of text) ≡ o → fault_of text o ≡ Some (kind, place) → IsFirstFault text kind place
    by_reads text kind place (Ok x) e h = absurd cc
    by_reads text kind place (Err f) e h =
        let p : (f.0, place_left text f.1) ≡ (kind, place) = some_is (f.0, place_left text f.1) (kind, place) h in
        let k : f.0 ≡ kind = ap (λ (z : Kind × Place). z.0) p in
        let q : place_left text f.1 ≡ place = ap (λ (z : Kind × Place). z.1) p in
        let t = first_fault text f.0 f.1 e in
        record { left = t.left; fault = subst (λ (z : Kind). IsFault (whole test) spells_freely (items_of text) z t.left) k t.fault; there = sym q ∙ t.there }

-- a front is what some text of the grammar begins with
pub front_goes_on : (items : List Item) → is_front items → (ends : List Item) × (x : TestText) × spells_freely (items ++ ends) x
front_goes_on items h =
    let g = (left_fronted h.0 h.0).completes items h.1 in
    (g.ends, g.value, (above_both h.0 h.0, g.spelled))

pub begins_front : (items : List Item) → ((ends : List Item) × (x : TestText) × spells_freely (items ++ ends) x) → is_front items
begins_front items h =
    let t = h.2 in
    (t.0, (left_fronted t.0 t.0).begins items h.0 h.1 t.1)

-- ---- the kinds of faults that a test text has

usual_fault : (text : List ℕ) (kind : Kind) (left : ℕ) → (whole test).reads (items_of text) ≡ Err (kind, left) → (rest front : List Item) × (items_of text ≡ front ++ rest) × Usual kind rest
unfolding whole
usual_fault text kind left e =
    let t = (first_fault text kind left e).fault in
    (t.rest, t.front, t.parts, elim t.why [ inl q ↦ inr q | inr q ↦ (test_fits test_limits _ _ _ (left_below test_limits test_limits)).usual kind t.front t.rest q ])

pub no_form : (text : List ℕ) (form : Form) (left : ℕ) → (whole test).reads (items_of text) ≡ Err (Unsupported form, left) → ⊥
no_form text form left e =
    let u = usual_fault text (Unsupported form) left e in
    elim u.3 [ inl q ↦ absurd (let z : Unsupported form ≡ TooDeep = q in cc) | inr q ↦ never_unsupported text u.1 u.0 form u.2 q ]

pub no_head : (text : List ℕ) (left : ℕ) → (whole test).reads (items_of text) ≡ Err (HeadTooDeep, left) → ⊥
no_head text left e =
    let u = usual_fault text HeadTooDeep left e in
    elim u.3 [ inl q ↦ absurd (let z : HeadTooDeep ≡ TooDeep = q in cc) | inr q ↦ never_head_item u.0 q ]

pub faulty : (text : List ℕ) (kind : Kind) (left : ℕ) → (whole test).reads (items_of text) ≡ Err (kind, left) → Faulty text (fault_as kind (place_left text left))
faulty text Syntax left e = first_fault text Syntax left e
faulty text TooDeep left e = first_fault text TooDeep left e
faulty text NumberTooWide left e = first_fault text NumberTooWide left e
faulty text (Unsupported form) left e = absurd (no_form text form left e)
faulty text HeadTooDeep left e = absurd (no_head text left e)

pub fault_found_there : (text : List ℕ) (kind : Kind) (left : ℕ) → (whole test).reads (items_of text) ≡ Err (kind, left) → FaultFound text (fault_as kind (place_left text left))
fault_found_there text Syntax left e = fault_is text Syntax left e
fault_found_there text TooDeep left e = fault_is text TooDeep left e
fault_found_there text NumberTooWide left e = fault_is text NumberTooWide left e
fault_found_there text (Unsupported form) left e = absurd (no_form text form left e)
fault_found_there text HeadTooDeep left e = absurd (no_head text left e)

-- ---- what the public call answers

pub read_found : (text : List ℕ) (items r : List Item) (c : TestText) → items ≡ items_of text → (whole test).reads items ≡ Ok (c, r) → test_of text ≡ Some c
unfolding test_of
read_found text items r c is e = let one : (whole test).reads (items_of text) ≡ Ok (c, r) = rw (← is) e in rw one refl

failed : (text : List ℕ) (items : List Item) (e : ReadError) (kind : Kind) (left : ℕ) → items ≡ items_of text → e ≡ errors.At kind left → Fails ((whole test).reads items) e → (whole test).reads (items_of text) ≡ Err (kind, left)
failed text items e kind left is at fails =
    let here : (whole test).reads items ≡ Err (kind, left) = subst (λ (z : ReadError). Fails ((whole test).reads items) z) at fails in
    rw (← is) here

pub read_faulty : (text : List ℕ) (items : List Item) (e : ReadError) (kind : Kind) (left : ℕ) (f : TestReadFault) → items ≡ items_of text → e ≡ errors.At kind left → Fails ((whole test).reads items) e → f ≡ fault_as kind (place_left text left) → Faulty text f
read_faulty text items e kind left f is at fails h = rw h (faulty text kind left (failed text items e kind left is at fails))

pub read_fault_found : (text : List ℕ) (items : List Item) (e : ReadError) (kind : Kind) (left : ℕ) (f : TestReadFault) → items ≡ items_of text → e ≡ errors.At kind left → Fails ((whole test).reads items) e → f ≡ fault_as kind (place_left text left) → FaultFound text f
read_fault_found text items e kind left f is at fails h = rw h (fault_found_there text kind left (failed text items e kind left is at fails))
