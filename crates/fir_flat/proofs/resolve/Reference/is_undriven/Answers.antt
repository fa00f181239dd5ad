use Rattle.std.proofs.Common.{◌≡◌, ◌∙◌, sym, true, false}
use Rattle.fir_flat.proofs.ResolveFacts.{undriven_missing}
use Rattle.fir_flat.proofs.resolve.Reference.is_undriven.Goals as goal

pub returns-in-Missing : goal.returns-in-Missing
returns-in-Missing c v h t = undriven_missing v c.args.self.now h c.if-self.true c.in-Missing.is

pub returns-in_default : goal.returns-in_default
returns-in_default c v h t = absurd (let q : false ≡ true = t in cc)

pub returns-else-self : goal.returns-else-self
returns-else-self c v h t = absurd (let q : true ≡ false = sym t ∙ c.if-self.false in cc)
