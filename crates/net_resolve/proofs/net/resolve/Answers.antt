use Rattle.std.proofs.Common.{◌≡◌, ◌∙◌, sym, ap, ℕ, None, length, refl}
use Rattle.std.specs.Ordering.{nat_cmp}
use Rattle.std.specs.BTreeMap.{get}
use Rattle.net_core.specs.Body.{body_of}
use Rattle.net_core.specs.Depends.{uninitialised}
use Rattle.net_resolve.proofs.Resolving.{table_of}
use Rattle.net_resolve.proofs.NetFacts.{table_is, resets_are, conds_are, opened, assembled, net_of, under_ok, at_ok}
use Rattle.net_resolve.proofs.net.resolve.Goals as goal

pub returns-clause-fault : goal.returns-clause-fault
returns-clause-fault c = λ f x h.
    let e = c.args.elab.now in
    let first : c.in_ok-own.own ≡ length e.signals = c.in_ok-own.ensures ∙ ap length c.items-signals.ensures in
    let none : (q : ℕ) → get nat_cmp c.new-table.result q ≡ None = λ q. rw c.new-table.ensures.empty refl in
    let t : (q : ℕ) → get nat_cmp c.walk_block.new.table q ≡ table_of (length e.signals) (body_of e.body) q
    = table_is e c.in_ok-own.own c.new-conds.result.items c.items.result.now (λ q. get nat_cmp c.new-table.result q) (λ q. get nat_cmp c.walk_block.new.table q)
    first c.new-conds.ensures.items c.items.ensures none c.in_ok-_outside.ensures.table in
    sym (opened e f c.items-signals.result.now (λ q. get nat_cmp c.walk_block.new.table q) c.items-signals.ensures t) ∙ c.net_of.ensures.left x h

pub returns-clause-initialised : goal.returns-clause-initialised
returns-clause-initialised c = λ f.
    let e = c.args.elab.now in
    let first : c.in_ok-own.own ≡ length e.signals = c.in_ok-own.ensures ∙ ap length c.items-signals.ensures in
    let none : (q : ℕ) → get nat_cmp c.new-table.result q ≡ None = λ q. rw c.new-table.ensures.empty refl in
    let t : (q : ℕ) → get nat_cmp c.walk_block.new.table q ≡ table_of (length e.signals) (body_of e.body) q
    = table_is e c.in_ok-own.own c.new-conds.result.items c.items.result.now (λ q. get nat_cmp c.new-table.result q) (λ q. get nat_cmp c.walk_block.new.table q)
    first c.new-conds.ensures.items c.items.ensures none c.in_ok-_outside.ensures.table in
    at_ok c.net_of.result _ (uninitialised e ≡ None)
    (λ g. sym (opened e f c.items-signals.result.now (λ q. get nat_cmp c.walk_block.new.table q) c.items-signals.ensures t) ∙ g) c.net_of.ensures.full

pub returns-clause-net : goal.returns-clause-net
returns-clause-net c = λ s.
    let e = c.args.elab.now in
    let first : c.in_ok-own.own ≡ length e.signals = c.in_ok-own.ensures ∙ ap length c.items-signals.ensures in
    let none : (q : ℕ) → get nat_cmp c.new-table.result q ≡ None = λ q. rw c.new-table.ensures.empty refl in
    let t : (q : ℕ) → get nat_cmp c.walk_block.new.table q ≡ table_of (length e.signals) (body_of e.body) q
    = table_is e c.in_ok-own.own c.new-conds.result.items c.items.result.now (λ q. get nat_cmp c.new-table.result q) (λ q. get nat_cmp c.walk_block.new.table q)
    first c.new-conds.ensures.items c.items.ensures none c.in_ok-_outside.ensures.table in
    let no_resets : (q : ℕ) → get nat_cmp c.new-resets.result q ≡ None = λ q. rw c.new-resets.ensures.empty refl in
    let r = resets_are e c.items-2.result.now (λ q. get nat_cmp c.new-resets.result q) (λ q. get nat_cmp c.collect_resets.new.map q)
    c.items-2.ensures no_resets c.in_ok-collect_resets.ensures in
    let conds = conds_are e c.items.result.now c.new-conds.result.items c.walk_block.new.conds.items c.items.ensures c.new-conds.ensures.items c.in_ok-_outside.ensures.conds in
    under_ok c.net_of.result _ _ _ _
    (λ net o g q. net_of e net (assembled e s.formed net c.in_ok-own.own c.items-signals.result.now (λ z. get nat_cmp c.walk_block.new.table z) (λ z. get nat_cmp c.collect_resets.new.map z)
    c.walk_block.new.conds.items first c.items-signals.ensures t r conds o g q) s)
    c.net_of.ensures.own c.net_of.ensures.signals c.net_of.ensures.equations
