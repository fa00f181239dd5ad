-- Benches that are made or changed part by part.
use Rattle.std.proofs.Common.{◌≡◌, List, [], ◌∷◌, ◌++◌, Bool, true, false, is_err, OnOk, Decides, Option, None, Result, Ok, Err, option_map, refl, sym, ap, subst, ◌∙◌}
use Rattle.net_design.specs.Designs.{DesignValue}
use Rattle.tl_code.specs.declared.state.ThreadState.{ThreadState}
use Rattle.tl_code.specs.Compiled.{Compiled}
use Rattle.tl_code.specs.Codes.{root_state}
use Rattle.tl_prepare.specs.Work.{Work}
use Rattle.tl_prepare.specs.Given.{IsPrepared}
use Rattle.bench_model.specs.Paths.{Path}
use Rattle.bench_setting.specs.declared.limits.Limits.{Limits}
use Rattle.bench_setting.specs.Limited.{limits_told}
use Rattle.bench_setting.specs.Settings.{zeros}
use Rattle.bench_device.specs.Device.{DeviceValue}
use Rattle.bench_run.specs.declared.outcome.Outcome.{Outcome}
use Rattle.bench_run.specs.Told.{outcome_told}
use Rattle.bench_course.specs.Course.{CourseValue, SameButRoom, first_course}
use Rattle.bench_course.specs.Taking.{taken}
use Rattle.bench_judge.specs.Judging.{judged}
use Rattle.bench_core.specs.Bench.{BenchValue, IsBench, EqualButRoom, NothingMarked, first_bench}
use Rattle.bench_core.specs.Committing.{Fresh, HasTaken, Acted}
use Rattle.bench_core.specs.Laws.{MayBegin, FirstIsBench, CommitsLeaveBenches}
use Rattle.bench_core.proofs.Rooms.{same_taken, same_judged, same_outcome}

-- the device of a design at first
abbrev zero_device : DesignValue → DeviceValue
zero_device d = record { elab = d.elab; net = d.net; inputs = zeros d.elab; registers = zeros d.elab }

-- the first bench, made of copies
module _ (d e : DesignValue) (v : DeviceValue) (c k : Compiled) (l : Limits) (root : ThreadState) (o : CourseValue) (order : List Path) (design : e ≡ d) (device : v ≡ zero_device e)
    (code : k ≡ c) (state : root ≡ root_state k) (course : SameButRoom (first_course v root) o) (empty : order ≡ []) where
  made : BenchValue
  made = record { limits = l; code = k; course = o; order = order; outcome = None }

  same_course : o ≡ record (first_course (zero_device d) (root_state c)) { room = o.room }
  same_course =
      course
      ∙ ap (λ (x : DeviceValue). record (first_course x root) { room = o.room }) (device ∙ ap zero_device design)
      ∙ ap (λ (x : ThreadState). record (first_course (zero_device d) x) { room = o.room }) (state ∙ ap root_state code)

  same_made : EqualButRoom (first_bench d c l) made
  unfolding made
  same_made =
      ap (λ (x : Compiled). record { limits = l; code = x; course = o; order = order; outcome = None }) code
      ∙ ap (λ (x : CourseValue). record { limits = l; code = c; course = x; order = order; outcome = None }) same_course
      ∙ ap (λ (x : List Path). record { limits = l; code = c; course = record (first_course (zero_device d) (root_state c)) { room = o.room }; order = x; outcome = None }) empty

  pub begun : FirstIsBench → MayBegin d c l → IsBench (record { limits = l; code = k; course = o; order = order; outcome = None }) × NothingMarked (record { limits = l; code = k; course = o; order = order; outcome = None })
  unfolding made
  begun first may = first d c l made may same_made

-- a bench with another course
pub with_course : (b : BenchValue) (o n : CourseValue) → n ≡ o → IsBench (record b { course = o }) → IsBench (record b { course = n })
with_course b o n same is = subst (λ (v : CourseValue). IsBench (record b { course = v })) (sym same) is

-- a bench with another room
pub with_room : (b : BenchValue) (o : CourseValue) (order : List Path) → SameButRoom b.course o → order ≡ b.order → EqualButRoom b (record b { course = o; order = order })
with_room b o order same e =
    ap (λ (x : CourseValue). record b { course = x; order = order }) same ∙ ap (λ (x : List Path). record b { course = record b.course { room = o.room }; order = x }) e

-- a bench in which room was taken for an act, and then the act
module _ (b : BenchValue) (work : Work) (o m : CourseValue) (mid order : List Path) (path : Path) (x : Option Outcome) (room : SameButRoom b.course o) (same : mid ≡ b.order)
    (of : path ≡ work.from.path) (more : order ≡ mid ++ path ∷ []) (course : SameButRoom (judged (limits_told b.limits) (taken o work)).course m)
    (outcome : option_map outcome_told x ≡ (judged (limits_told b.limits) (taken o work)).outcome) where
  acted : Acted b work (record b { course = m; order = order; outcome = x })
  acted = record {
    limits = refl;
    code = refl;
    course = same_judged (limits_told b.limits) (taken b.course work) (taken o work) m (same_taken b.course o work room) course;
    order = more ∙ ap (λ (ps : List Path). ps ++ path ∷ []) same ∙ ap (λ (p : Path). b.order ++ p ∷ []) of;
    outcome = outcome ∙ same_outcome (limits_told b.limits) (taken b.course work) (taken o work) (same_taken b.course o work room);
  }

  pub committed : CommitsLeaveBenches → (now : BenchValue) → b ≡ now → IsBench b → IsPrepared work → Fresh now work
      → IsBench (record b { course = m; order = order; outcome = x }) × HasTaken now work (record b { course = m; order = order; outcome = x })
  committed commits now view is prepared fresh =
      let both = commits b work (record b { course = m; order = order; outcome = x }) is prepared (subst (λ (v : BenchValue). Fresh v work) (sym view) fresh) acted in
      (both.0, subst (λ (v : BenchValue). HasTaken v work (record b { course = m; order = order; outcome = x })) view both.1)

-- ---- answers of calls

pub on_ok : {T E : Type 0} (r : Result T E) (P : Type 0) → is_err r ≡ false → OnOk r P → P
on_ok (Ok x) P e h = h
on_ok (Err x) P e h = absurd (cc)

pub not_decided : (r : Bool) (P : Type 0) → r ≡ false → Decides r P → P → ⊥
not_decided true P e d p = absurd (cc)
not_decided false P e d p = let x : false ≡ true = d.1 p in absurd (cc)
