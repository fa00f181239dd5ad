use Rattle.tl_code.proofs.Made.{made}
use Rattle.tl_code.proofs.code.compile.Goals as goal

pub invariant_of-result : goal.invariant_of-result
invariant_of-result c =
    made c.args.test.now c.in_ok-test.test c.in_ok-placed.placed.items c.as_slice.result.now c.as_slice-2.result.now c.variable_slots-variables.result c.handle_slots-handles.result
    c.in_ok-test.ensures c.in_ok-placed.ensures.rule c.in_ok-placed.ensures.forks c.in_ok-placed.ensures.code c.in_ok-placed.ensures.few
    c.as_slice.ensures.value c.variable_slots-variables.ensures c.as_slice-2.ensures.value c.handle_slots-handles.ensures

pub returns-clause-code : goal.returns-clause-code
returns-clause-code c =
    made c.args.test.now c.in_ok-test.test c.in_ok-placed.placed.items c.as_slice.result.now c.as_slice-2.result.now c.variable_slots-variables.result c.handle_slots-handles.result
    c.in_ok-test.ensures c.in_ok-placed.ensures.rule c.in_ok-placed.ensures.forks c.in_ok-placed.ensures.code c.in_ok-placed.ensures.few
    c.as_slice.ensures.value c.variable_slots-variables.ensures c.as_slice-2.ensures.value c.handle_slots-handles.ensures
