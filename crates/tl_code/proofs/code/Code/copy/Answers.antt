use Rattle.tl_code.proofs.Made.{copied}
use Rattle.tl_code.proofs.code.Code.copy.Goals as goal

pub invariant_of-result : goal.invariant_of-result
invariant_of-result c =
    copied c.self.inside.test c.in_ok-test.test c.self.inside.placed.items c.as_slice.result.now c.in_ok-placed.placed.items c.self.inside.variables c.self.inside.handles
    c.in_ok-test.ensures c.in_ok-placed.ensures c.as_slice.ensures.value c.self.invariant
