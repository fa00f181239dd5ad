use Rattle.std.proofs.Common.{refl}
use Rattle.order_rel.proofs.ExampleFacts.{family_formed, earlier_formed, nested_forked, not_forked, first_joined, nested_not_joined, forks_lead, join_leads, join_and_fork_lead, regions_lead, join_itself, nested_free, siblings_free}
use Rattle.order_rel.proofs.examples.the_orders_work_out.Goals as goal

pub returns : goal.returns
returns c = record {
  family_is_formed = family_formed;
  other_is_formed = earlier_formed;
  newest_comes_first = refl;
  fork_is_found = nested_forked;
  no_fork = not_forked;
  join_is_found = first_joined;
  no_join = nested_not_joined;
  by_forks = forks_lead;
  by_join = join_leads;
  by_join_and_fork = join_and_fork_lead;
  by_region = regions_lead;
  not_by_join_itself = join_itself;
  nested_is_not_joined = nested_free;
  siblings = siblings_free;
}
