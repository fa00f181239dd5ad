use Rattle.std.proofs.Common.{◌≡◌, ◌++◌, [], refl, rules, arith}
use Rattle.std.proofs.lemmas.List.{take_rest}
use Rattle.tl_lex.specs.Lex.{placed, items_of}
use Rattle.tl_lex.proofs.Going.{piece_goes, none_left, items_count}
use Rattle.tl_lex.proofs.text.items.Goals as goal

pub loop-rest-init : goal.loop-rest-init
unfolding items_of
loop-rest-init c = record { so_far = rw c.new-found.ensures.items refl; line = omega arith; column = omega arith }

pub loop-rest-preserved : goal.loop-rest-preserved
loop-rest-preserved c =
    let z = c.loop-rest.rest.now in
    let k = c.in_ok-token.field-0 in
    let within = c.in_ok-token.ensures.within in
    let behind = c.place_behind-place.ensures in
    let put : c.put.new.items.items ≡ c.loop-rest.found.items ++ placed k.token c.loop-rest.place [] = (let e = c.in_ok-put.ensures in let t = c.in_ok-token.token-is in cc) in
    record {
      so_far = rw (take_rest z k.len) (piece_goes c.loop-rest.found.items c.put.new.items.items _ c.loop-rest.place c.place_behind-place.result z k c.in_ok-token.ensures.value within.0 within.1 put behind.value c.loop-rest.invariant.so_far);
      line = search rules;
      column = search rules;
    }

pub returns : goal.returns
returns c =
    let all = none_left c.loop-rest.found.items _ c.loop-rest.place c.loop-rest.rest.now (search rules) c.loop-rest.invariant.so_far in
    record { value = all; few = rw all (items_count c.args.text.now) }
