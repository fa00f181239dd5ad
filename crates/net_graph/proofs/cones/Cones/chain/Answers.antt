use Rattle.std.proofs.Common.{◌≡◌, ◌<◌, ◌≤◌, ◌^◌, sym, subst, ℕ, List, length}
use Rattle.std.proofs.lemmas.Grind.{common_steps}
use Rattle.std.proofs.Common.{arith}
use Rattle.net_graph.specs.Graphs.{reads_in}
use Rattle.net_graph.specs.Loops.{Leads, IsNamedChain}
use Rattle.net_graph.specs.NetGraphs.{numbers, OwnReads, ReadsOver}
use Rattle.net_graph.proofs.ConeFacts.{ChainTable, chain_table, chain_of}
use Rattle.net_graph.proofs.cones.Cones.chain.Goals as goal

pub least_chain-requires : goal.least_chain-requires
least_chain-requires c =
    let t : ChainTable c.args.self.now c.args.signal.0 c.args.input.0 = chain_table c.requires.0 c.args.self.now c.args.signal.0 c.args.input.0 c.requires.1 in
    let l : c.items.result.now ≡ c.args.self.now.lists = grind (arith, common_steps) in
    record {
      few = subst (λ (q : List (List ℕ)). length q < 2 ^ 32) (sym l) t.few;
      own = subst (λ (q : List (List ℕ)). c.args.self.now.own ≤ length q) (sym l) t.own;
      to = t.input;
      leads = subst (λ (q : List (List ℕ)). (xs : List ℕ) × Leads (ReadsOver (reads_in q) c.args.self.now.own) c.args.signal.0 xs c.args.input.0) (sym l) t.leads;
    }

pub returns : goal.returns
returns c net t =
    let l : c.items.result.now ≡ c.args.self.now.lists = grind (arith, common_steps) in
    let o : numbers c.in_ok-chain.chain ≡ c.in_ok-path.path.items = grind (arith, common_steps) in
    subst (λ (q : List ℕ). IsNamedChain (OwnReads net) c.args.signal.0 c.args.input.0 q) (sym o)
    (chain_of net c.args.self.now c.args.signal.0 c.args.input.0 t c.in_ok-path.path.items
    (subst (λ (q : List (List ℕ)). IsNamedChain (ReadsOver (reads_in q) c.args.self.now.own) c.args.signal.0 c.args.input.0 c.in_ok-path.path.items) l c.in_ok-path.ensures))
