use Rattle.std.proofs.Common.{◌∙◌, ap, sym, not, map}
use Rattle.std.proofs.lemmas.List.{drop_all}
use Rattle.fir_check.specs.KnownSeen.{key_name}
use Rattle.fir_check.proofs.Repeats.{repeats_past, repeats_found, repeats_next, key_among}
use Rattle.fir_check.proofs.types.repeats_name.Goals as goal

pub loop-k-init : goal.loop-k-init
loop-k-init c = ap (λ ks. repeats_past (map key_name ks) c.args.fields.now) c.new-names.ensures.empty

pub returns-then-not-is_new : goal.returns-then-not-is_new
returns-then-not-is_new c =
    repeats_found c.loop-k.names.keys c.args.fields.now c.loop-k.k c.index-fields-k.result _ c.loop-k-test.true c.index-fields-k.is
    (key_among _ c.in_ok-name.name c.loop-k.names.keys c.in_ok-is_new.is_new (c.in_ok-name.ensures.items ∙ c.bytes.ensures) c.in_ok-is_new.ensures.added ∙ ap not c.if-not-is_new.true) c.loop-k.invariant

pub loop-k-preserved : goal.loop-k-preserved
loop-k-preserved c =
    repeats_next c.loop-k.names.keys c.insert.new.self.keys c.args.fields.now c.loop-k.k c.index-fields-k.result c.in_ok-name.name c.in_ok-is_new.is_new _ c.loop-k-test.true c.index-fields-k.is
    (c.in_ok-name.ensures.items ∙ c.bytes.ensures) c.in_ok-is_new.ensures.added c.if-not-is_new.false c.in_ok-is_new.ensures.keys c.loop-k.invariant

pub returns : goal.returns
returns c = sym (ap (repeats_past (map key_name c.loop-k.names.keys)) (drop_all c.loop-k.k c.args.fields.now c.loop-k-test.false)) ∙ c.loop-k.invariant
