use Rattle.std.proofs.Common.{ap, ◌∙◌, map}
use Rattle.tb_base.specs.Row.{row_signed}
use Rattle.fir_flat.specs.declared.kinds.Kind.TheVariants.{Number}
use Rattle.fir_flat.specs.declared.worth.Worth.{Worth}
use Rattle.fir_flat.specs.Values.{number}
use Rattle.fir_flat.specs.Worths.{ends_of}
use Rattle.fir_flat.proofs.ResolveFacts.{refers_plain}
use Rattle.fir_flat.proofs.resolve.resolve_operation.Goals as goal

pub returns : goal.returns
returns c vs g =
    refers_plain c.args.op vs (Number c.has_sign.result) c.from_vec.result c.args.nums
    (ap number (c.has_sign.ensures ∙ ap (row_signed c.args.op) g.signed))
    (ap (map (λ (w : Worth). (ends_of w).part 0)) c.from_vec.ensures ∙ g.parts)
