use Rattle.std.proofs.Common.{◌+◌, rules, arith}
use Rattle.std.proofs.lemmas.List.{take_rest}
use Rattle.fir_lex.specs.Lex.{items_of}
use Rattle.fir_lex.proofs.Texts.{line_goes, text_ends}
use Rattle.fir_lex.proofs.text.items.Goals as goal

pub loop-end-preserved : goal.loop-end-preserved
loop-end-preserved c =
    let z = c.loop-end.rest.now in
    let end = c.loop-end.end in
    (rw (take_rest z (end + 1)) (line_goes c.loop-end.found.items c.add_line.new.items.items c.loop-end.line end c.without_return.result.now z _ c.loop-end.invariant.1 c.loop-end-test.true c.without_return.ensures.value c.in_ok-add_line.ensures c.loop-end.invariant.0), search rules, search rules, search rules)

pub returns : goal.returns
unfolding items_of
returns c = text_ends c.loop-end.found.items c.add_line-2.new.items.items c.loop-end.line c.loop-end.end c.loop-end.rest.now _ c.loop-end.invariant.1 (omega (arith, c.loop-end-test.false)) c.in_ok-add_line-2.ensures c.loop-end.invariant.0
