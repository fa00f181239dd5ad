-- What `ordered` answers, over the events of the code.
use Rattle.std.proofs.Common.{◌≡◌, ℕ, ◌<◌, List, length, refl, sym, ap, subst, arith, ◌↔◌, get_or}
use Rattle.tb_base.specs.declared.path.Region.{Region}
use Rattle.tb_base.specs.declared.path.Region.TheVariants.{Main, Monitor}
use Rattle.bench_model.specs.Paths.{Path}
use Rattle.bench_model.specs.Conflict.{HasAt, IsBefore}
use Rattle.bench_model.specs.Formed.{Formed}
use Rattle.order_rel.specs.declared.event.Event.{Event}
use Rattle.order_rel.specs.Logs.{region_number, event_told, log_of, fork_place, join_place}
use Rattle.order_rel.specs.Climbing.{Climbs}
use Rattle.order_rel.proofs.ClimbFacts.{climbing, region_leads}
use Rattle.order_rel.proofs.ToldFacts.{told_at, places}

one_number : (r s : Region) → region_number r ≡ region_number s → r ≡ s
one_number Main Main e = refl
one_number Main Monitor e = absurd (omega (arith, e))
one_number Monitor Main e = absurd (omega (arith, e))
one_number Monitor Monitor e = refl

-- the event of the code at a place
pub stands : (log : List Event) (i : ℕ) (d : Event) → i < length log → d ≡ get_or log i d → HasAt (log_of log) i (event_told d)
stands log i d n s = subst (λ z. HasAt (log_of log) i (event_told z)) (sym s) (told_at d log i n)

module _ (log : List Event) (F : Formed (log_of log)) (i j : ℕ) (d e : Event) (n : i < j) (l : j < length log) (di : d ≡ get_or log i d) (ej : e ≡ get_or log j e) where
  below : i < length log
  below = omega arith

  pub by_regions : (d.region ≡ e.region → ⊥) → IsBefore (log_of log) i j
  by_regions ne = region_leads (log_of log) F i j (event_told d) (event_told e) (stands log i d below di) (stands log j e l ej) n (λ s. ne (one_number d.region e.region s))

  pub by_climbing : d.region ≡ e.region → (p q : Path) → p ≡ d.path → q ≡ e.path → Climbs (fork_place log) (join_place log) j q i p ↔ IsBefore (log_of log) i j
  by_climbing s p q ps qs =
      let climb =
      climbing (log_of log) F (fork_place log) (join_place log) (places d log F) i j (event_told d) (event_told e) (stands log i d below di) (stands log j e l ej) n
      (ap region_number s) in (
        λ c. climb.0 (subst (λ z. Climbs (fork_place log) (join_place log) j e.path i z) ps (subst (λ z. Climbs (fork_place log) (join_place log) j z i p) qs c)),
        λ b. subst (λ z. Climbs (fork_place log) (join_place log) j z i p) (sym qs) (subst (λ z. Climbs (fork_place log) (join_place log) j e.path i z) (sym ps) (climb.1 b)),
      )
