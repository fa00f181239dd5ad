-- What the loop over time steps keeps, and what it gives where it ends.
use Rattle.std.proofs.Common.{◌≡◌, ℕ, zero, suc, ◌+◌, ◌^◌, ◌<◌, ◌≤◌, max, Bool, true, false, length, Option, Some, None, option_map, refl, sym, ap, ap₂, subst, ◌∙◌, arith}
use Rattle.std.specs.FinMap as map
use Rattle.bench_model.specs.Settle.{Limits, Ending}
use Rattle.bench_model.specs.Orders.{Outcome, settles}
use Rattle.bench_threads.specs.declared.entry.Entry.{Entry}
use Rattle.bench_threads.specs.Threads.{quiet, tick_mode, tick}
use Rattle.bench_threads.proofs.Houses.{len_all_changed}
use Rattle.bench_course.specs.Course.{CourseValue, Room, SameButRoom}
use Rattle.bench_course.specs.Ending.{verdict_of, sampled, stepped, stepped_unless, time_ended}
use Rattle.bench_ahead.specs.Needed.{samples_needed}
use Rattle.bench_settle.specs.Settling.{Settled, settled_on, settled_by, settled_from, settled}
use Rattle.bench_settle.proofs.Need.{time_left, need_falls}

-- ---- room makes no difference

abbrev pub roomed : Room → CourseValue → CourseValue
roomed r o = record o { room = r }

abbrev pub settled_roomed : Room → Settled → Settled
settled_roomed r s = record { course = roomed r s.course; ending = s.ending }

module _ (l : Limits) (r : Room) (n : ℕ) (o : CourseValue)
    (again : (p : CourseValue) → settled_from l n (roomed r p) ≡ settled_roomed r (settled_from l n p)) where
  on_unseen : (q : Bool)
      → settled_on (λ v. settled_from l n v) (roomed r (stepped (sampled o))) q ≡ settled_roomed r (settled_on (λ v. settled_from l n v) (stepped (sampled o)) q)
  on_unseen true = again (stepped (sampled o))
  on_unseen false = refl

  by_unseen : (v : Option Ending) → settled_by (λ v. settled_from l n v) (roomed r o) v ≡ settled_roomed r (settled_by (λ v. settled_from l n v) o v)
  by_unseen (Some e) = refl
  by_unseen None = on_unseen (quiet (stepped (sampled o)).threads)

room_unseen : (l : Limits) (r : Room) (n : ℕ) (o : CourseValue) → settled_from l n (roomed r o) ≡ settled_roomed r (settled_from l n o)
room_unseen l r zero o = refl
room_unseen l r (suc n) o = by_unseen l r n o (λ p. room_unseen l r n p) (verdict_of l o)

-- ---- what the loop keeps

-- from the course n it settles as from the course o, with enough time steps left
pub record Left (l : Limits) (o n : CourseValue) : Type 0 where
  pub steps : ℕ
  pub enough : l.time_steps ≤ steps + n.time
  pub same : settled_from l (suc steps) n ≡ settled_roomed n.room (settled l o)

-- and each call that ends a time step may be made
pub record Settles (l : Limits) (o n : CourseValue) : Type 0 where
  pub quiet : quiet n.threads ≡ true
  pub samples : samples_needed l n ≤ n.room.samples
  pub time : n.time < max 1 l.time_steps
  pub threads : map.len n.threads < 2 ^ 32
  pub observations : length n.observations < 2 ^ 32
  pub left : Left l o n

pub left_first : (l : Limits) (o : CourseValue) → Left l o o
left_first l o = record { steps = l.time_steps; enough = omega arith; same = room_unseen l o.room (suc l.time_steps) o }

-- ---- the end of a time step

no_verdict : (time : ℕ) (v : Option Ending) → None ≡ option_map (settles time) v → v ≡ None
no_verdict time None h = refl
no_verdict time (Some x) h = absurd cc

module _ (l : Limits) (o n m : CourseValue) (left : Left l o n) (step : SameButRoom (time_ended l n) m) where
  -- what the settled course is, by the verdict of this time step
  by_verdict : (v : Option Ending) → verdict_of l n ≡ v → settled_roomed n.room (settled l o) ≡ settled_by (λ p. settled_from l left.steps p) n v
  by_verdict v i = sym left.same ∙ ap (settled_by (λ p. settled_from l left.steps p) n) i

  -- and the course after the time step
  after : (v : Option Ending) → verdict_of l n ≡ v → m ≡ roomed m.room (stepped_unless v (sampled n))
  after v i = step ∙ ap (λ (v : Option Ending). roomed m.room (stepped_unless v (sampled n))) i

  -- THE RUN ENDS with this time step, and so does settling
  pub over : (x : Outcome) → Some x ≡ option_map (settles n.time) (verdict_of l n) → Some x ≡ option_map (settles m.time) (settled l o).ending
  over x told = go (verdict_of l n) refl
    where
      go : (v : Option Ending) → verdict_of l n ≡ v → Some x ≡ option_map (settles m.time) (settled l o).ending
      go None i = let none : Some x ≡ None = told ∙ ap (option_map (settles n.time)) i in absurd cc
      go (Some e) i =
          told ∙ ap (option_map (settles n.time)) i
          ∙ ap₂ (λ (t : ℕ) (v : Option Ending). option_map (settles t) v) (sym (ap (λ (c : CourseValue). c.time) (after (Some e) i)))
          (sym (ap (λ (s : Settled). s.ending) (by_verdict (Some e) i)))

  module _ (none : None ≡ option_map (settles n.time) (verdict_of l n)) where
    on : verdict_of l n ≡ None
    on = no_verdict n.time (verdict_of l n) none

    same_threads : m.threads ≡ tick n.threads
    same_threads = ap (λ (c : CourseValue). c.threads) (after None on)

    next_is : quiet m.threads ≡ true → settled_roomed n.room (settled l o) ≡ settled_from l left.steps (stepped (sampled n))
    next_is q = by_verdict None on ∙ ap (settled_on (λ p. settled_from l left.steps p) (stepped (sampled n))) (sym (ap quiet same_threads) ∙ q)

    -- NOBODY MAY ACT in the new time step, and it settles from there
    further : quiet m.threads ≡ true → Left l o m
    further q = go left.steps refl
      where
        go : (k : ℕ) → left.steps ≡ k → Left l o m
        go zero i = let far : suc n.time < l.time_steps = time_left l n on in let most = left.enough in absurd (omega (arith, far, most, i))
        go (suc k) i =
            let most = left.enough in
            let now : m.time ≡ suc n.time = ap (λ (c : CourseValue). c.time) (after None on) in
            record {
              steps = k;
              enough = omega (arith, most, i, now);
              same =
                  ap (settled_from l (suc k)) (after None on) ∙ room_unseen l m.room (suc k) (stepped (sampled n))
                  ∙ ap (λ (k : ℕ). settled_roomed m.room (settled_from l k (stepped (sampled n)))) (sym i)
                  ∙ ap (settled_roomed m.room) (sym (next_is q));
            }

    pub goes_on : Settles l o n → quiet m.threads ≡ true → m.room.samples + 1 ≡ n.room.samples → Settles l o m
    goes_on is q taken =
        let far : suc n.time < l.time_steps = time_left l n on in
        let now : m.time ≡ suc n.time = ap (λ (c : CourseValue). c.time) (after None on) in
        let need = need_falls l n is.quiet on (sym (ap quiet same_threads) ∙ q) in
        let room = is.samples in
        let as_many : samples_needed l m ≡ samples_needed l (stepped (sampled n)) = ap (samples_needed l) (after None on) in
        let length_kept : map.len m.threads ≡ map.len n.threads = ap (λ ts. map.len ts) same_threads ∙ len_all_changed (λ (e : Entry). tick_mode n.threads e e.mode) n.threads in
        let few = is.threads in
        record {
          quiet = q;
          samples = omega (arith, need, room, as_many, taken);
          time = omega (arith, far, now);
          threads = omega (arith, few, length_kept);
          observations = subst (λ (c : CourseValue). length c.observations < 2 ^ 32) (sym (after None on)) is.observations;
          left = further q;
        }
