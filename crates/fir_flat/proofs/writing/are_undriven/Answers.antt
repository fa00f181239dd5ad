use Rattle.fir_flat.proofs.writing.are_undriven.Goals as goal

pub returns-then-is_undriven : goal.returns-then-is_undriven
returns-then-is_undriven c = record {
  sink = λ e v h. c.is_undriven.ensures v h c.if-is_undriven.true;
  source = c.in_ok-undriven.ensures;
}
