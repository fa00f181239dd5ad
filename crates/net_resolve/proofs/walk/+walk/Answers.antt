use Rattle.std.proofs.Common.{◌≡◌, ℕ, ◌+◌, ◌++◌, ◌∷◌, [], None, Some, cond, length, nat_eq, true}
use Rattle.std.specs.Ordering.{nat_cmp}
use Rattle.std.specs.BTreeMap.{get}
use Rattle.net_core.specs.declared.tree.Choice.TheVariants.{Take}
use Rattle.net_core.specs.Body.{body_of, conditions}
use Rattle.net_resolve.specs.Walk.{found, inner, kept, leaving}
use Rattle.net_resolve.proofs.Steps.{at_number, after_declare, after_set, after_when, left_declare, left_set, left_when}
use Rattle.net_resolve.proofs.walk.+walk.Goals.{walk_items-in-Declare, walk_items-in-Set+in_ok-found-in-Set+in_ok-put-in-Set, walk_items-in-When+in_ok-k-in-When+in_ok-yes-in-When+in_ok-no-in-When+in_ok-join-in-When}
use Rattle.net_resolve.proofs.walk.+walk.Goals as goal

pub walk_items-loop-item-preserved : goal.walk_items-loop-item-preserved
walk_items-loop-item-preserved t c =
    elim c.match-item.branch [
      | walk_items-in-Declare w ↦
          rw (w.map-is, w.table-is, w.conds-is)
          (after_declare c.loop-item.invariant (left_declare c.args.items.now c.loop-item.item-index c.item-item.result _ _ _ c.loop-item-test.true c.item-item.is w.in-Declare.is))
      | walk_items-in-Set+in_ok-found-in-Set+in_ok-put-in-Set w ↦
          let b = w.in_ok-put-in-Set.ensures in
          let h : (q : ℕ) → get nat_cmp w.put.new.map q ≡ cond (nat_eq q w.in-Set.sink.0) (Some (record { full = true; choices = Take w.in-Set.value ∷ [] })) (get nat_cmp c.loop-item.map q) =
          λ q. rw (← at_number w.in-Set.sink.0 q, ← w.in_ok-found-in-Set.ensures) (b.0 q) in
          rw (w.map-is, w.table-is, w.conds-is)
          (after_set (λ q. get nat_cmp w.put.new.map q) c.loop-item.invariant
          (left_set c.args.items.now c.loop-item.item-index c.item-item.result _ w.in-Set.sink w.in-Set.value c.loop-item-test.true c.item-item.is w.in-Set.is) h)
      | walk_items-in-When+in_ok-k-in-When+in_ok-yes-in-When+in_ok-no-in-When+in_ok-join-in-When w ↦
          let T = body_of w.in-When.taken in
          let O = body_of w.in-When.other in
          let n1 = c.args.first + length w.ask.new.conds.items in
          let n2 = c.args.first + length w.walk_block.new.conds.items in
          let ke : w.in_ok-k-in-When.k ≡ c.args.first + length c.loop-item.conds.items = w.in_ok-k-in-When.ensures.number in
          let e1 : w.ask.new.conds.items ≡ c.loop-item.conds.items ++ w.in-When.cond ∷ [] = w.in_ok-k-in-When.ensures.conds in
          let e2 : w.walk_block.new.conds.items ≡ w.ask.new.conds.items ++ conditions T = rw (← w.as_slice.ensures) w.in_ok-yes-in-When.ensures.conds in
          let e3 : w.walk_block-in-When.new.conds.items ≡ w.walk_block.new.conds.items ++ conditions O = rw (← w.as_slice-in-When.ensures) w.in_ok-no-in-When.ensures.conds in
          let hy : (q : ℕ) → get nat_cmp w.in_ok-yes-in-When.yes q ≡ kept q T (found q n1 T None) = rw (← w.as_slice.ensures) w.in_ok-yes-in-When.ensures.map in
          let h1 : (q : ℕ) → get nat_cmp w.walk_block.new.table q ≡ leaving q T (found q n1 T None) (inner q n1 T (get nat_cmp c.loop-item.table q)) = rw (← w.as_slice.ensures) w.in_ok-yes-in-When.ensures.table in
          let hn : (q : ℕ) → get nat_cmp w.in_ok-no-in-When.no q ≡ kept q O (found q n2 O None) = rw (← w.as_slice-in-When.ensures) w.in_ok-no-in-When.ensures.map in
          let h2 : (q : ℕ) → get nat_cmp w.walk_block-in-When.new.table q ≡ leaving q O (found q n2 O None) (inner q n2 O (get nat_cmp w.walk_block.new.table q)) = rw (← w.as_slice-in-When.ensures) w.in_ok-no-in-When.ensures.table in
          rw (w.map-is, w.table-is, w.conds-is)
          (after_when (λ q. get nat_cmp w.in_ok-yes-in-When.yes q) (λ q. get nat_cmp w.in_ok-no-in-When.no q) (λ q. get nat_cmp w.walk_block.new.table q) (λ q. get nat_cmp w.walk_block-in-When.new.table q) (λ q. get nat_cmp w.join.new.out q)
          c.loop-item.invariant
          (left_when c.args.items.now c.loop-item.item-index c.item-item.result _ w.in-When.cond w.in-When.taken w.in-When.other c.loop-item-test.true c.item-item.is w.in-When.is)
          ke e1 e2 e3 hy h1 hn h2 w.in_ok-join-in-When.ensures)
    ]
