-- The worked examples.
use Rattle.std.proofs.Common.{◌≡◌, ℕ, List, ◌∷◌, length, Bool, Some, None, refl, subst}
use Rattle.bench_model.specs.Paths.{is_path}
use Rattle.bench_model.specs.Log as m
use Rattle.bench_model.specs.Log.{least_place}
use Rattle.bench_model.specs.Conflict.{IsFirstPair, IsFree}
use Rattle.bench_model.specs.Formed.{Formed}
use Rattle.bench_model.proofs.ConflictFacts.{AllFree, free_of, conflict_less, pair_more}
use Rattle.order_rel.specs.Logs.{log_of}
use Rattle.order_rel.proofs.FormedTests.{formed_by}
use Rattle.conflict_core.specs.Conflicts.{cone_of, Earliest, least_with_newest}
use Rattle.conflict_core.specs.Examples.{wire_cones, race, joined, two_pokes, apart}
use Rattle.conflict_core.proofs.PlaceFacts.{least_earliest}
use Rattle.conflict_core.proofs.FirstFacts.{first_of}

-- the first pair, where the events before the newest one are free of conflicts
first_pair : (cone : ℕ → ℕ → Bool) (e : m.Event) (log : List m.Event) (i : ℕ) → AllFree cone log → least_place cone log e ≡ Some i → IsFirstPair cone (e ∷ log) i (length log)
first_pair cone e log i f s =
    first_of cone (e ∷ log) i (length log) (λ k l n o c. free_of cone log f k l n (conflict_less cone e log k l n o c))
    (subst (λ o. Earliest cone (e ∷ log) (length log) o) s (least_earliest cone e log))

pub race_formed : Formed (log_of race)
unfolding is_path
race_formed = formed_by (log_of race) refl

pub joined_formed : Formed (log_of joined)
unfolding is_path
joined_formed = formed_by (log_of joined) refl

pub two_pokes_formed : Formed (log_of two_pokes)
unfolding is_path
two_pokes_formed = formed_by (log_of two_pokes) refl

pub apart_formed : Formed (log_of apart)
unfolding is_path
apart_formed = formed_by (log_of apart) refl

pub race_least : least_with_newest (cone_of wire_cones) (log_of race) ≡ Some 2
unfolding is_path
race_least = refl

pub joined_least : least_with_newest (cone_of wire_cones) (log_of joined) ≡ None
unfolding is_path
joined_least = refl

pub two_pokes_least : least_with_newest (cone_of wire_cones) (log_of two_pokes) ≡ Some 0
unfolding is_path
two_pokes_least = refl

pub apart_least : least_with_newest (cone_of wire_cones) (log_of apart) ≡ None
unfolding is_path
apart_least = refl

pub race_pair : IsFirstPair (cone_of wire_cones) (log_of race) 2 3
unfolding is_path
race_pair = first_pair (cone_of wire_cones) _ _ 2 (refl, (refl, (refl, tt))) race_least

pub two_pokes_pair : IsFirstPair (cone_of wire_cones) (log_of two_pokes) 0 1
unfolding is_path
two_pokes_pair = pair_more (cone_of wire_cones) _ _ 0 1 (first_pair (cone_of wire_cones) _ _ 0 (refl, tt) refl)

pub joined_free : IsFree (cone_of wire_cones) (log_of joined)
unfolding is_path
joined_free = free_of (cone_of wire_cones) (log_of joined) (refl, (refl, (refl, (refl, (refl, tt)))))

pub apart_free : IsFree (cone_of wire_cones) (log_of apart)
unfolding is_path
apart_free = free_of (cone_of wire_cones) (log_of apart) (refl, (refl, (refl, tt)))
