-- Room makes no difference to an act and to judging it.
use Rattle.std.proofs.Common.{◌≡◌, ℕ, zero, suc, ◌^◌, ◌≤◌, ◌<◌, max, Bool, true, false, nat_le, length, Option, Some, None, refl, sym, ap, subst, ◌∙◌}
use Rattle.net_design.specs.Naming.{in_cone}
use Rattle.tl_prepare.specs.Work.{Work}
use Rattle.order_rel.specs.Logs.{log_of}
use Rattle.bench_model.specs.Log.{Event}
use Rattle.bench_model.specs.Formed.{Formed}
use Rattle.bench_device.specs.Ports.{NamesPorts}
use Rattle.std.specs.FinMap as fin
use Rattle.bench_model.specs.Settle.{Limits, Ending}
use Rattle.bench_model.specs.Orders.{named_pair}
use Rattle.bench_threads.specs.Threads.{quiet}
use Rattle.bench_course.specs.Course.{Room, CourseValue, SameButRoom}
use Rattle.bench_course.specs.Taking.{taken}
use Rattle.bench_course.specs.Ending.{verdict_of, sampled, stepped}
use Rattle.bench_ahead.specs.Needed.{samples_needed}
use Rattle.bench_settle.specs.Settling.{Settled, settled_on, settled_by, settled_from}
use Rattle.bench_judge.specs.Judging.{Judged, judged, judged_by, judged_settled, looked}
use Rattle.bench_core.specs.Committing.{MayGoOn}

-- ---- with another room

abbrev in_room : Room → CourseValue → CourseValue
in_room r o = record o { room = r }

abbrev settled_in : Room → Settled → Settled
settled_in r s = record { course = in_room r s.course; ending = s.ending }

abbrev judged_in : Room → Judged → Judged
judged_in r j = record { course = in_room r j.course; outcome = j.outcome }

module _ (l : Limits) (r : Room) where
  on_room : (n : ℕ) → ((o : CourseValue) → settled_from l n (in_room r o) ≡ settled_in r (settled_from l n o)) → (o : CourseValue) (b : Bool)
      → settled_on (λ v. settled_from l n v) (in_room r o) b ≡ settled_in r (settled_on (λ v. settled_from l n v) o b)
  on_room n h o true = h o
  on_room n h o false = refl

  by_room : (n : ℕ) → ((o : CourseValue) → settled_from l n (in_room r o) ≡ settled_in r (settled_from l n o)) → (o : CourseValue) (e : Option Ending)
      → settled_by (λ v. settled_from l n v) (in_room r o) e ≡ settled_in r (settled_by (λ v. settled_from l n v) o e)
  by_room n h o (Some e) = refl
  by_room n h o None = on_room n h (stepped (sampled o)) (quiet (stepped (sampled o)).threads)

  from_room : (n : ℕ) (o : CourseValue) → settled_from l n (in_room r o) ≡ settled_in r (settled_from l n o)
  from_room zero o = refl
  from_room (suc n) o = by_room n (λ v. from_room n v) o (verdict_of l o)

  looked_room : (o : CourseValue) (q f : Bool) → looked l (in_room r o) q f ≡ judged_in r (looked l o q f)
  looked_room o true f = ap judged_settled (from_room (suc l.time_steps) o)
  looked_room o false true = refl
  looked_room o false false = refl

  by_pair_room : (o : CourseValue) (x : Option (Event × Event)) → judged_by l (in_room r o) x ≡ judged_in r (judged_by l o x)
  by_pair_room o (Some pair) = refl
  by_pair_room o None = looked_room o (quiet o.threads) (nat_le l.step_actions (length o.log))

  judged_room : (o : CourseValue) → judged l (in_room r o) ≡ judged_in r (judged l o)
  judged_room o = by_pair_room o (named_pair (in_cone o.elab) (log_of o.log))

-- ---- two courses that are equal but for the room

pub same_taken : (o n : CourseValue) (work : Work) → SameButRoom o n → SameButRoom (taken o work) (taken n work)
same_taken o n work same = subst (λ (v : CourseValue). SameButRoom (taken o work) (taken v work)) (sym same) refl

judged_same : (l : Limits) (o n : CourseValue) → SameButRoom o n → judged l n ≡ judged_in n.room (judged l o)
judged_same l o n same = ap (judged l) same ∙ judged_room l n.room o

pub same_judged : (l : Limits) (o n m : CourseValue) → SameButRoom o n → SameButRoom (judged l n).course m → SameButRoom (judged l o).course m
same_judged l o n m same is = is ∙ ap (λ (j : Judged). in_room m.room j.course) (judged_same l o n same)

pub same_outcome : (l : Limits) (o n : CourseValue) → SameButRoom o n → (judged l n).outcome ≡ (judged l o).outcome
same_outcome l o n same = ap (λ (j : Judged). j.outcome) (judged_same l o n same)

pub may_in_room : (l : Limits) (o n : CourseValue) (work : Work) → SameButRoom o n → MayGoOn l o work → MayGoOn l n work
may_in_room l o n work same may =
    subst (λ (v : CourseValue). MayGoOn l v work) (sym same)
    (record {
      there = may.there;
      absent = may.absent;
      of_circuit = may.of_circuit;
      actions = may.actions;
      formed = may.formed;
      named = may.named;
      time = may.time;
      threads = may.threads;
      observations = may.observations;
      log = may.log;
    })

-- what judging asks for of the course behind the act
pub record MayJudge (l : Limits) (n : CourseValue) : Type 0 where
  pub formed : Formed (log_of n.log)
  pub named : NamesPorts n.elab (log_of n.log)
  pub time : n.time < max 1 l.time_steps
  pub threads : fin.len n.threads < 2 ^ 32
  pub observations : length n.observations < 2 ^ 32
  pub log : length n.log < 2 ^ 32

pub may_judge : (l : Limits) (o n : CourseValue) (work : Work) → MayGoOn l o work → SameButRoom (taken o work) n → MayJudge l n
may_judge l o n work may same =
    subst (λ (v : CourseValue). MayJudge l v) (sym same)
    (record { formed = may.formed; named = may.named; time = may.time; threads = may.threads; observations = may.observations; log = may.log })

-- enough samples, before an act and behind it
abbrev pub Enough : Limits → CourseValue → (room : ℕ) → Type 0
Enough l v room = quiet v.threads ≡ true → samples_needed l v ≤ room

pub enough_in_room : (l : Limits) (v n : CourseValue) (room : ℕ) → SameButRoom v n → Enough l v room → Enough l n room
enough_in_room l v n room same enough = subst (λ (x : CourseValue). Enough l x room) (sym same) enough
