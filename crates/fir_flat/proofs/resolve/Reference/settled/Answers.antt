use Rattle.std.proofs.Common.{List, Bool, ◌≡◌, ℕ, sym, subst, false, slice_index_or}
use Rattle.fir_flat.specs.Values.{leaf_signed}
use Rattle.fir_flat.specs.Kinds.{kind_shape}
use Rattle.fir_flat.proofs.ResolveFacts.{settled_there, settled_absent}
use Rattle.fir_flat.proofs.resolve.Reference.settled.Goals as goal

pub returns-then-not-absent : goal.returns-then-not-absent
returns-then-not-absent c v h = settled_there v c.args.self c.size-size.result h c.if-not-absent.true c.size-size.ensures

pub returns : goal.returns
returns c v h =
    settled_absent v c.args.self c.size-size.result c.in_ok-of.of c.of.result h c.if-not-absent.false c.size-size.ensures c.in_ok-of.ensures
    (subst (λ (bs : List Bool). (k : ℕ) → slice_index_or bs k false ≡ leaf_signed (kind_shape c.args.self.kind) k) (sym c.of.ensures) c.in_ok-signs.ensures)
