use Rattle.std.proofs.Common.{rules}
use Rattle.std.specs.Ordering.{nat_cmp}
use Rattle.std.specs.Option.{option_cmp}
use Rattle.order_rel.specs.Logs.{region_number}
use Rattle.bench_model.specs.Paths.{path_cmp}
use Rattle.bench_run.proofs.Compared.{decided, chained}
use Rattle.bench_run.proofs.sorting.compare.Goals as goal

pub returns : goal.returns
returns c =
    let one = c.args.first.now in
    let two = c.args.second.now in
    chained
    (nat_cmp one.time two.time)
    (nat_cmp (region_number one.region) (region_number two.region))
    (path_cmp one.path two.path)
    (nat_cmp one.place two.place)
    (nat_cmp one.line two.line)
    (nat_cmp one.port.0 two.port.0)
    (nat_cmp one.value two.value)
    (option_cmp nat_cmp one.wanted two.wanted)
    c.cmp.result
    c.then_with.result
    c.then_with-2.result
    c.then_with-3.result
    c.then_with-4.result
    c.then_with-5.result
    c.then_with-6.result
    c.then_with-7.result
    (search rules)
    (decided _ c.cmp.result (nat_cmp (region_number one.region) (region_number two.region)) c.then_with.result c.then_with.ensures (λ h. search rules))
    (decided _ c.then_with.result (path_cmp one.path two.path) c.then_with-2.result c.then_with-2.ensures (λ h. search rules))
    (decided _ c.then_with-2.result (nat_cmp one.place two.place) c.then_with-3.result c.then_with-3.ensures (λ h. search rules))
    (decided _ c.then_with-3.result (nat_cmp one.line two.line) c.then_with-4.result c.then_with-4.ensures (λ h. search rules))
    (decided _ c.then_with-4.result (nat_cmp one.port.0 two.port.0) c.then_with-5.result c.then_with-5.ensures (λ h. search rules))
    (decided _ c.then_with-5.result (nat_cmp one.value two.value) c.then_with-6.result c.then_with-6.ensures (λ h. search rules))
    (decided _ c.then_with-6.result (option_cmp nat_cmp one.wanted two.wanted) c.then_with-7.result c.then_with-7.ensures (λ h. search rules))
