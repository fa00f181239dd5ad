use Rattle.std.proofs.Common.{drop}
use Rattle.net_core.specs.Nets.{choices_of, choices_read}
use Rattle.net_graph.proofs.MentionFacts.{WillHave}
use Rattle.net_graph.proofs.mention.+choose.Given as goal

abbrev pub invariant-add_choices-loop-choice : goal.invariant-add_choices-loop-choice
invariant-add_choices-loop-choice l = WillHave l.found.items (choices_read (choices_of (drop l.choice-index l.choices))) l.fn.found.items (choices_read (choices_of l.choices))
