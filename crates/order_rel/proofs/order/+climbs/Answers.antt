use Rattle.std.proofs.Common.{◌≡◌, ℕ, ◌++◌, List, Bool, true, false, length, take, drop, sym, ◌∙◌, arith, eqb, eq-eqb}
use Rattle.std.specs.Cmp.Lexicographic.{pointwise}
use Rattle.std.proofs.lemmas.Bool.{lt-leb}
use Rattle.std.proofs.lemmas.Bool.Decides.{Decides-eqb}
use Rattle.std.proofs.lemmas.Slice.Eq.{starts_is}
use Rattle.order_rel.specs.Logs.{fork_place, join_place}
use Rattle.order_rel.proofs.ClimbCases.{at_goal, above_goal, upwards, go_up, not_joined}
use Rattle.order_rel.proofs.order.+climbs.Goals as goal

pub returns-then-path-goal : goal.returns-then-path-goal
returns-then-path-goal t c =
    let s = starts_is Decides-eqb c.args.goal.now c.args.path.now c.starts_with.result c.starts_with.ensures.value in (
      λ _. at_goal (fork_place c.args.log.now) (join_place c.args.log.now) c.args.last c.args.goal.now c.args.place c.args.path.now
          (drop (length c.args.path.now) c.args.goal.now) (s.0 c.if-starts_with.true) c.if-path-goal.true,
      λ _. eq-eqb (length c.args.path.now) (length c.args.goal.now) c.if-path-goal.true,
    )

pub returns-else-path-goal : goal.returns-else-path-goal
returns-else-path-goal t c =
    let s = starts_is Decides-eqb c.args.goal.now c.args.path.now c.starts_with.result c.starts_with.ensures.value in
    let a = above_goal (fork_place c.args.log.now) (join_place c.args.log.now) c.args.last c.args.goal.now c.args.place c.args.path.now
    (drop (length c.args.path.now) c.args.goal.now) (s.0 c.if-starts_with.true) c.if-path-goal.false in
    (λ r. a.1 (c.leads_down.ensures.0 r), λ h. c.leads_down.ensures.1 (a.0 h))

-- the goal does not begin with the path
apart_of : (goal path : List ℕ) (r : Bool) → r ≡ pointwise eqb path (take (length path) goal) → r ≡ false → (s : List ℕ) → goal ≡ path ++ s → ⊥
apart_of goal path r e off s g = absurd (let on : r ≡ true = (starts_is Decides-eqb goal path r e).1 s g in cc)

pub returns-then-next-last : goal.returns-then-next-last
returns-then-next-last t c =
    let apart = apart_of c.args.goal.now c.args.path.now c.starts_with.result c.starts_with.ensures.value c.if-starts_with.false in
    let split = c.in-Some.ensures.cases.0 in
    let joined = sym c.place_of_join.ensures ∙ c.in-Some-place_of_join.is in (
      λ r. go_up (fork_place c.args.log.now) (join_place c.args.log.now) c.args.last c.args.goal.now c.args.place c.args.path.now apart
          c.in-Some.parent.now c.in-Some.field-0-0.now c.in-Some-place_of_join.next split joined c.if-next-last.true (c.climbs.ensures.0 r),
      λ h. c.climbs.ensures.1 (upwards (fork_place c.args.log.now) (join_place c.args.log.now) c.args.last c.args.goal.now c.args.place c.args.path.now apart
          c.in-Some.parent.now c.in-Some.field-0-0.now c.in-Some-place_of_join.next split joined h).1,
    )

pub returns-else-next-last : goal.returns-else-next-last
returns-else-next-last t c =
    let apart = apart_of c.args.goal.now c.args.path.now c.starts_with.result c.starts_with.ensures.value c.if-starts_with.false in
    let split = c.in-Some.ensures.cases.0 in
    let joined = sym c.place_of_join.ensures ∙ c.in-Some-place_of_join.is in
    let past = c.if-next-last.false in (
      λ r. absurd (let off = lt-leb c.in-Some-place_of_join.next c.args.last past in cc),
      λ h. absurd (
          let up = upwards (fork_place c.args.log.now) (join_place c.args.log.now) c.args.last c.args.goal.now c.args.place c.args.path.now apart
          c.in-Some.parent.now c.in-Some.field-0-0.now c.in-Some-place_of_join.next split joined h in
          omega (arith, up.0, past)),
    )

pub returns-in-None : goal.returns-in-None
returns-in-None t c =
    let apart = apart_of c.args.goal.now c.args.path.now c.starts_with.result c.starts_with.ensures.value c.if-starts_with.false in (
      λ r. absurd (cc),
      λ h. absurd (not_joined (fork_place c.args.log.now) (join_place c.args.log.now) c.args.last c.args.goal.now c.args.place c.args.path.now apart
          (sym c.place_of_join.ensures ∙ c.in-None.is) h),
    )
