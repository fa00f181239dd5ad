-- The pair that a log names: the earliest event that the newest one conflicts with, and the newest one.
use Rattle.std.proofs.Common.{◌≡◌, ℕ, ◌<◌, List, [], ◌∷◌, length, Bool, true, false, ◌||◌, Option, Some, None, option_map, is_some, cond, refl, sym, ap, ap₂, subst, ◌∙◌, arith, eq-eqb, ne_eqb, inl, inr}
use Rattle.std.proofs.lemmas.Bool.{or_right}
use Rattle.bench_model.specs.Log.{Event, clash, leads_to_any, scan, conflicts, or_here, least_scan, least_place, event_at}
use Rattle.bench_model.specs.Paths.{Path}
use Rattle.bench_model.specs.Conflict.{HasAt}
use Rattle.bench_model.specs.Orders.{event_found, named_pair}
use Rattle.bench_model.specs.World.{Model, Thread, World, act_of, event_of}
use Rattle.bench_model.specs.Settle.{conflict_of}
use Rattle.bench_model.proofs.ScanFacts.{LeastIs, least_is, place_below}
use Rattle.bench_model.proofs.ConflictFacts.{place_one, at_newest}

-- an event that was found, with the newest one
abbrev paired : Event → Option Event → Option (Event × Event)
paired e o = option_map (λ d. (d, e)) o

event_found_at : (log : List Event) (i : ℕ) (d : Event) → HasAt log i d → event_at log i ≡ Some d
event_found_at [] i d h = absurd h
event_found_at (e ∷ log) i d (inl (s, x)) = ap (λ b. cond b (Some e) (event_at log i)) (eq-eqb i (length log) s) ∙ ap Some (sym x)
event_found_at (e ∷ log) i d (inr h) =
    let n : i < length log = place_below log i d h in
    ap (λ b. cond b (Some e) (event_at log i)) (ne_eqb i (length log) (λ s. absurd (omega arith))) ∙ event_found_at log i d h

here_is : (o : Option ℕ) (c : Bool) (n : ℕ) → is_some (or_here o c n) ≡ (c || is_some o)
here_is (Some i) c n = sym (or_right c true refl)
here_is None true n = refl
here_is None false n = refl

module _ (cone : ℕ → ℕ → Bool) (e : Event) where
  -- there is a least place exactly where the test finds a conflict
  least_found : (log past : List Event) → is_some (least_scan cone e log past) ≡ scan cone e log past
  least_found [] past = refl
  least_found (d ∷ log) past = go (leads_to_any d past) (least_found log (d ∷ past)) (least_found log past)
    where
      go : (b : Bool) → is_some (least_scan cone e log (d ∷ past)) ≡ scan cone e log (d ∷ past) → is_some (least_scan cone e log past) ≡ scan cone e log past →
          is_some (elim b [ true ↦ least_scan cone e log (d ∷ past) | false ↦ or_here (least_scan cone e log past) (clash cone d.kind e.kind) (length log) ])
          ≡ (elim b [ true ↦ scan cone e log (d ∷ past) | false ↦ clash cone d.kind e.kind || scan cone e log past ])
      go true h k = h
      go false h k = here_is (least_scan cone e log past) (clash cone d.kind e.kind) (length log) ∙ ap (λ b. clash cone d.kind e.kind || b) k

  -- the log with the event in front names a pair exactly where the test finds a conflict
  pair_found : (log : List Event) → is_some (named_pair cone (e ∷ log)) ≡ conflicts cone log e
  pair_found log = go (least_place cone log e) (least_is cone e log (e ∷ [])) ∙ least_found log (e ∷ [])
    where
      go : (o : Option ℕ) → LeastIs cone e log (e ∷ []) o → is_some (paired e (event_found log o)) ≡ is_some o
      go None h = refl
      go (Some i) (h, least) = ap (λ o. is_some (paired e o)) (event_found_at log i h.event h.at)

-- after the act of a thread that is there, the log names a pair exactly where the run meets a conflict
pub conflict_found : (M : Model) (w : World M.Inner) (p : Path) (there : Option (Thread M.Inner)) → is_some there ≡ true
    → is_some (named_pair M.cone (act_of M w p there).log) ≡ conflict_of M w p there
conflict_found M w p None h = absurd (cc)
conflict_found M w p (Some t) h = pair_found M.cone (event_of p t (M.next t.inner)) w.log

-- ---- the pair by places
module _ (cone : ℕ → ℕ → Bool) (f : Event) (log : List Event) where
  -- the least place is that of an event before the newest one
  pub place_earlier : (i : ℕ) → Some i ≡ least_place cone log f → i < length log
  place_earlier i s = go (subst (LeastIs cone f log (f ∷ [])) (sym s) (least_is cone f log (f ∷ [])))
    where
      go : LeastIs cone f log (f ∷ []) (Some i) → i < length log
      go (h, least) = place_below log i h.event h.at

  pub pair_at : (i : ℕ) (d e : Event) → Some i ≡ least_place cone log f → HasAt (f ∷ log) i d → HasAt (f ∷ log) (length log) e → named_pair cone (f ∷ log) ≡ Some (d, e)
  pair_at i d e s first second = go (subst (LeastIs cone f log (f ∷ [])) (sym s) (least_is cone f log (f ∷ [])))
    where
      go : LeastIs cone f log (f ∷ []) (Some i) → named_pair cone (f ∷ log) ≡ Some (d, e)
      go (h, least) =
          ap (λ o. paired f (event_found log o)) (sym s)
          ∙ ap (paired f) (event_found_at log i h.event h.at)
          ∙ ap₂ (λ (x y : Event). paired y (Some x)) (place_one (f ∷ log) i h.event d (inr h.at) first) (sym (at_newest f log e second))
