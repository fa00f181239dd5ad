use Rattle.std.proofs.Common.{◌≡◌, arith, get_or, ◌++◌, ◌∷◌, [], ◌<◌, length}
use Rattle.std.proofs.lemmas.Grind.{common_steps}
use Rattle.net_graph.proofs.ReaderFacts.{put_at}
use Rattle.net_graph.proofs.readers.put_in.Goals as goal

pub returns-in_ok-push-clause-put : goal.returns-in_ok-push-clause-put
returns-in_ok-push-clause-put c =
    let h : c.args.y < length c.args.readers.now.items = grind (arith, common_steps) in
    let e : c.push.new.self.items ≡ (get_or c.args.readers.now.items c.args.y c.index_mut.result.now).items ++ c.args.x ∷ [] = grind (arith, common_steps) in
    put_at c.args.x c.args.y c.args.readers.now.items c.push.new.self c.index_mut.result.now h e
