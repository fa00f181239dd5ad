use Rattle.std.proofs.Common.{◌≤◌, length, ◌∙◌, ap, sym, subst, List}
use Rattle.tb_base.specs.declared.place.Place.{Place}
use Rattle.text_grammar.specs.declared.item.Item.{Item}
use Rattle.tl_lex.specs.Lex.{items_of}
use Rattle.tl_text.specs.Faults.{fault_as}
use Rattle.tl_text.proofs.Texts.{read_found, found_spelled, read_faulty, read_fault_found}
use Rattle.tl_text.proofs.Lengths.{found_short}
use Rattle.tl_text.proofs.reading.read_test.Goals as goal

pub returns-in-Ok-clause-found : goal.returns-in-Ok-clause-found
returns-in-Ok-clause-found c = read_found c.args.text.now c.new-tokens.result c.whole_test.new.tokens c.in-Ok.test (c.new-tokens.ensures ∙ c.deref.ensures.value ∙ c.in_ok-items.ensures.value) c.in-Ok.ensures

pub returns-in-Ok-clause-spelled : goal.returns-in-Ok-clause-spelled
returns-in-Ok-clause-spelled c = found_spelled c.args.text.now c.in-Ok.test (read_found c.args.text.now c.new-tokens.result c.whole_test.new.tokens c.in-Ok.test (c.new-tokens.ensures ∙ c.deref.ensures.value ∙ c.in_ok-items.ensures.value) c.in-Ok.ensures)

pub returns-in-Ok-clause-short : goal.returns-in-Ok-clause-short
returns-in-Ok-clause-short c =
    let few : length (items_of c.args.text.now) ≤ length c.args.text.now = subst (λ (ts : List Item). length ts ≤ length c.args.text.now) c.in_ok-items.ensures.value c.in_ok-items.ensures.few in
    found_short c.args.text.now c.in-Ok.test (length c.args.text.now) (returns-in-Ok-clause-found c) few

pub returns-clause-first : goal.returns-clause-first
returns-clause-first c = read_faulty c.args.text.now c.new-tokens.result c.in-Err-At.field-0 c.in-Err-At.kind c.in-Err-At.left c.fault.result (c.new-tokens.ensures ∙ c.deref.ensures.value ∙ c.in_ok-items.ensures.value) c.in-Err-At.field-0-is c.in-Err-At.ensures (c.fault.ensures ∙ ap (λ (z : Place). fault_as c.in-Err-At.kind z) c.place_left.ensures)

pub returns-clause-fault : goal.returns-clause-fault
returns-clause-fault c = read_fault_found c.args.text.now c.new-tokens.result c.in-Err-At.field-0 c.in-Err-At.kind c.in-Err-At.left c.fault.result (c.new-tokens.ensures ∙ c.deref.ensures.value ∙ c.in_ok-items.ensures.value) c.in-Err-At.field-0-is c.in-Err-At.ensures (c.fault.ensures ∙ ap (λ (z : Place). fault_as c.in-Err-At.kind z) c.place_left.ensures)
