use Rattle.std.proofs.Common.{drop, map}
use Rattle.net_core.specs.Values.{any, mentions}
use Rattle.net_graph.proofs.MentionFacts.{WillHave}
use Rattle.net_graph.proofs.mention.+mention.Given as goal

abbrev pub invariant-add_exprs-loop-expr : goal.invariant-add_exprs-loop-expr
invariant-add_exprs-loop-expr l =
    WillHave l.found.items (λ y. any (map (λ c. mentions c y) (drop l.expr-index l.exprs))) l.fn.found.items (λ y. any (map (λ c. mentions c y) l.exprs))
