use Rattle.std.proofs.Common.{◌≡◌, ◌≤◌, true, refl, inl, inr, arith}
use Rattle.net_core.specs.Nets.{net_reads}
use Rattle.net_core.proofs.Trees.{at_read}
use Rattle.net_graph.specs.Examples.{gated, ring}
use Rattle.net_graph.specs.Falling.{EntryReads}
use Rattle.net_graph.specs.Reaching.{by, itself}
use Rattle.net_graph.proofs.MentionFacts.{one_take, one_when}
use Rattle.net_graph.proofs.examples.the_graphs_work_out.Goals as goal

condition : net_reads gated 2 4 ≡ true
condition = simp (one_take, one_when, at_read) refl

under : net_reads gated 4 1 ≡ true
under = simp (one_take, at_read) refl

own_alone : EntryReads ring 2 1 0 → ⊥
own_alone (inl e) = omega (arith, e)
own_alone (inr h) = let o : 2 ≤ 1 = h.0 in omega (arith, o)

pub returns : goal.returns
returns c = record {
  condition_is_read = condition;
  its_signal_is_not_read_directly = simp (one_take, one_when, at_read) refl;
  but_over_the_condition = record { reader = omega arith; read = omega arith; way = inr (4, omega arith, condition, under) };
  condition_reads = under;
  register_reads_nothing = refl;
  cone_has_both = by 2 4 condition (by 4 1 under itself);
  condition_stands_for_what_it_reads = inr (omega arith, refl);
  own_stands_for_itself_alone = own_alone;
  loop = record { some = omega arith; leads = (refl, 1, refl, (refl, 0, refl, refl)) };
  second_bit = refl;
  no_lowest_bit = refl;
  high_bit = refl;
  past_all = refl;
}
