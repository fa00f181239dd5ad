use Rattle.tl_ast.proofs.Tight.{on_left, on_right, tightness_small, alone}
use Rattle.tl_ast.proofs.examples.parentheses_stand_by_tightness.Goals as goal

pub returns : goal.returns
returns c = record { on_left = on_left; on_right = on_right; under_minus = tightness_small; alone = alone }
