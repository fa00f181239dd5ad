use Rattle.std.proofs.Common.{subst, IfOk, refl}
use Rattle.fir_flat.specs.Values.{Value, value}
use Rattle.fir_flat.specs.Kinds.{seen}
use Rattle.fir_flat.specs.Resolving.{Resolves}
use Rattle.fir_flat.proofs.StatementFacts.{invalid_undriven}
use Rattle.fir_flat.proofs.WritingFacts.{on_ok}
use Rattle.fir_flat.proofs.writing.write_invalid.Goals as goal

pub returns-then-is_undriven : goal.returns-then-is_undriven
returns-then-is_undriven c =
    let s : Value = value (seen c.args.known.now) c.args.sink.now in
    record {
      body = invalid_undriven c.args.line s c.args.written.now.body.items (c.is_undriven.ensures s c.in_ok-sink.ensures c.if-is_undriven.true);
      next = refl;
    }

pub returns : goal.returns
returns c =
    let s : Value = value (seen c.args.known.now) c.args.sink.now in
    let sink : Resolves s c.in_ok-sink-2.sink = subst (λ r. IfOk r (Resolves s)) c.in_ok-sink-2.was (c.settled.ensures s c.in_ok-sink.ensures) in
    on_ok _ _ c.put_invalid.result (λ e. record { body = e; next = refl }) (c.put_invalid.ensures s sink)
