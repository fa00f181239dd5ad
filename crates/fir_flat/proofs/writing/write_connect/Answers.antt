use Rattle.std.proofs.Common.{subst, IfOk, refl}
use Rattle.fir_flat.specs.Values.{Value, value}
use Rattle.fir_flat.specs.Kinds.{seen}
use Rattle.fir_flat.specs.Resolving.{Resolves}
use Rattle.fir_flat.proofs.StatementFacts.{connect_undriven}
use Rattle.fir_flat.proofs.WritingFacts.{on_ok}
use Rattle.fir_flat.proofs.writing.write_connect.Goals as goal

pub returns-then-undriven : goal.returns-then-undriven
returns-then-undriven c =
    let s : Value = value (seen c.args.known.now) c.args.sink.now in
    let v : Value = value (seen c.args.known.now) c.args.source.now in
    record {
      body = connect_undriven c.args.line s v c.args.written.now.body.items
          (c.in_ok-undriven.ensures.sink c.if-undriven.true s c.in_ok-sink.ensures) (c.in_ok-undriven.ensures.source c.if-undriven.true);
      next = refl;
    }

pub returns : goal.returns
returns c =
    let s : Value = value (seen c.args.known.now) c.args.sink.now in
    let v : Value = value (seen c.args.known.now) c.args.source.now in
    let sink : Resolves s c.in_ok-sink-2.sink = subst (λ r. IfOk r (Resolves s)) c.in_ok-sink-2.was (c.settled.ensures s c.in_ok-sink.ensures) in
    on_ok _ _ c.put_connect.result (λ e. record { body = e; next = refl }) (c.put_connect.ensures s v sink c.in_ok-source.ensures)
