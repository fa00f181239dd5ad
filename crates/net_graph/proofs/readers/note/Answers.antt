use Rattle.std.proofs.Common.{◌∙◌, get_or, arith}
use Rattle.std.proofs.lemmas.Grind.{common_steps}
use Rattle.net_graph.specs.Readers.{PutIn}
use Rattle.net_graph.proofs.ReaderFacts.{noted_more}
use Rattle.net_graph.proofs.readers.note.Goals as goal

pub loop-y-preserved : goal.loop-y-preserved
loop-y-preserved c =
    let p : PutIn c.args.x (get_or c.args.list.now c.loop-y.y-index 0) c.loop-y.readers.items c.put_in.new.readers.items = grind (arith, common_steps) in
    record {
      rows = c.put_in.ensures.rows ∙ c.loop-y.invariant.rows;
      noted = noted_more c.args.x c.args.list.now c.loop-y.y-index c.args.readers.now.items c.loop-y.readers.items c.put_in.new.readers.items
          c.loop-y-test.true c.loop-y.invariant.rows c.loop-y.invariant.noted p;
    }
