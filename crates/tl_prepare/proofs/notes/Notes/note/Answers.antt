use Rattle.std.proofs.Common.{◌≡◌, ◌∙◌, List, [], ◌∷◌, ◌++◌, length, take, ap, subst, arith}
use Rattle.tl_code.specs.declared.state.Fetched.{Fetched}
use Rattle.tl_prepare.specs.Listed.{IsAt, IsGap}
use Rattle.tl_prepare.proofs.Noting.{notes_there, notes_push, notes_same, held_more, at_front, front_grows}
use Rattle.tl_prepare.proofs.notes.Notes.note.Goals as goal

pub returns-in-Ok : goal.returns-in-Ok
returns-in-Ok c =
    let found : IsAt (take c.self.inside.settled c.self.inside.fetched.items) c.args.pc c.in-Ok.field-0 =
    subst (λ (xs : List Fetched). IsAt (take c.self.inside.settled xs) c.args.pc c.in-Ok.field-0) c.as_slice.ensures.value c.in-Ok.ensures.found in
    let there : IsAt c.args.self.now c.args.pc c.in-Ok.field-0 =
    subst (λ (xs : List Fetched). IsAt xs c.args.pc c.in-Ok.field-0) c.self.view_is (at_front c.self.inside.fetched.items c.self.inside.settled c.self.invariant.0 c.args.pc c.in-Ok.field-0 found) in
    notes_there c.args.self.now c.args.pc c.in-Ok.field-0 c.args.instr.now there c.requires

pub invariant_of-self-then-is_last : goal.invariant_of-self-then-is_last
invariant_of-self-then-is_last c =
    let gap : IsGap (take c.self.inside.settled c.self.inside.fetched.items) c.args.pc c.in-Err.gap =
    subst (λ (xs : List Fetched). IsGap (take c.self.inside.settled xs) c.args.pc c.in-Err.gap) c.as_slice.ensures.value c.in-Err.ensures.absent in
    let whole : c.in-Err.gap ≡ length c.self.inside.fetched.items = omega arith in
    front_grows c.self.inside.fetched.items c.self.inside.settled c.self.invariant.0 c.push.new.self.items (record { pc = c.args.pc; instr = c.in_ok-instr.instr }) c.in-Err.gap c.in_ok-push.ensures.items c.self.invariant.1
    gap whole

pub settle-requires : goal.settle-requires
settle-requires c =
    held_more c.args.self.now c.push.new.self.items c.args.pc c.args.instr.now c.requires
    (notes_push c.args.self.now c.push.new.self.items c.args.pc c.args.instr.now c.in_ok-instr.instr (c.in_ok-push.ensures.items ∙ ap (λ xs. xs ++ record { pc = c.args.pc; instr = c.in_ok-instr.instr } ∷ []) c.self.view_is) c.in_ok-instr.ensures)

pub returns-then-is_last : goal.returns-then-is_last
returns-then-is_last c =
    notes_push c.args.self.now c.push.new.self.items c.args.pc c.args.instr.now c.in_ok-instr.instr (c.in_ok-push.ensures.items ∙ ap (λ xs. xs ++ record { pc = c.args.pc; instr = c.in_ok-instr.instr } ∷ []) c.self.view_is) c.in_ok-instr.ensures

pub returns-then-len-self : goal.returns-then-len-self
returns-then-len-self c =
    notes_same c.args.self.now c.push.new.self.items c.settle.new.fetched.items c.args.pc c.args.instr.now
    (notes_push c.args.self.now c.push.new.self.items c.args.pc c.args.instr.now c.in_ok-instr.instr (c.in_ok-push.ensures.items ∙ ap (λ xs. xs ++ record { pc = c.args.pc; instr = c.in_ok-instr.instr } ∷ []) c.self.view_is) c.in_ok-instr.ensures)
    c.settle.ensures.same

pub returns-else-len-self : goal.returns-else-len-self
returns-else-len-self c =
    notes_push c.args.self.now c.push.new.self.items c.args.pc c.args.instr.now c.in_ok-instr.instr (c.in_ok-push.ensures.items ∙ ap (λ xs. xs ++ record { pc = c.args.pc; instr = c.in_ok-instr.instr } ∷ []) c.self.view_is) c.in_ok-instr.ensures
