use Rattle.std.proofs.Common.{ap, ◌∙◌}
use Rattle.tl_drivers.specs.Core.{core_body}
use Rattle.tl_drivers.proofs.Ending.{ends_kept, ends_core, ends_bounded}
use Rattle.tl_drivers.proofs.expansion.expand.Goals as goal

pub new-requires-clause-rule : goal.new-requires-clause-rule
new-requires-clause-rule c =
    ends_kept c.args.test.test c.into_parts-test.result.0 c.into_parts-test.result.1 c.of.result c.into_parts-test.ensures.test
    (c.of.ensures ∙ c.in_ok-body.ensures ∙ ap core_body (c.from_vec.ensures ∙ c.into_vec.ensures)) c.requires.names c.into_parts-test.ensures.rule

pub new-requires-clause-core : goal.new-requires-clause-core
new-requires-clause-core c =
    ends_core c.args.test.test c.into_parts-test.result.0 c.into_parts-test.result.1 c.of.result c.into_parts-test.ensures.test
    (c.of.ensures ∙ c.in_ok-body.ensures ∙ ap core_body (c.from_vec.ensures ∙ c.into_vec.ensures))

pub new-requires-clause-bounds : goal.new-requires-clause-bounds
new-requires-clause-bounds c =
    ends_bounded c.args.test.test c.into_parts-test.result.0 c.into_parts-test.result.1 c.of.result c.into_parts-test.ensures.test
    (c.of.ensures ∙ c.in_ok-body.ensures ∙ ap core_body (c.from_vec.ensures ∙ c.into_vec.ensures)) c.into_parts-test.ensures.bounds
