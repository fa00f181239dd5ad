-- Two ways to tell cones that agree at all that a log names find the same conflicts.
use Rattle.std.proofs.Common.{◌≡◌, ◌∙◌, refl, sym, ap, ap₂, subst, ℕ, ◌<◌, List, [], ◌∷◌, length, Bool, true, false, ◌||◌, Option}
use Rattle.std.proofs.lemmas.List.Elements.{All-head, All-tail}
use Rattle.net_core.specs.declared.tree.Elab.{Elab}
use Rattle.net_core.specs.declared.tree.Net.{Net}
use Rattle.net_graph.specs.declared.cones.Cones.{Cones}
use Rattle.net_graph.specs.Reaching.{ConesOf}
use Rattle.net_design.specs.Designs.{DesignValue, Runs, IsInput}
use Rattle.net_design.specs.Naming.{in_cone}
use Rattle.net_design.proofs.Dependence.{told}
use Rattle.bench_model.specs.Log.{Kind, Event, hits, clash, leads_to_any, or_here, least_scan}
use Rattle.bench_model.specs.Log.Kind.{pokes, peeks, expects, forks, joins, arrives, joinsteps, spends, ends}
use Rattle.conflict_core.specs.Conflicts.{cone_of, least_with_newest}
use Rattle.bench_device.specs.Device.{DeviceValue, EngineValue, IsDevice, device_of}
use Rattle.bench_device.specs.Ports.{NamesPort, NamesPorts}

module _ (e : Elab) (c d : ℕ → ℕ → Bool) (agree : (s p : ℕ) → s < length e.signals → IsInput e p → c s p ≡ d s p) where
  hits_same : (k j : Kind) → NamesPort e k → NamesPort e j → hits c k j ≡ hits d k j
  hits_same (pokes p) (pokes q) h g = refl
  hits_same (pokes p) (peeks s) h g = agree s p g h
  hits_same (pokes p) (expects s) h g = agree s p g h
  hits_same (pokes p) (forks x) h g = refl
  hits_same (pokes p) (joins x) h g = refl
  hits_same (pokes p) arrives h g = refl
  hits_same (pokes p) (joinsteps x) h g = refl
  hits_same (pokes p) spends h g = refl
  hits_same (pokes p) ends h g = refl
  hits_same (peeks s) j h g = refl
  hits_same (expects s) j h g = refl
  hits_same (forks x) j h g = refl
  hits_same (joins x) j h g = refl
  hits_same arrives j h g = refl
  hits_same (joinsteps x) j h g = refl
  hits_same spends j h g = refl
  hits_same ends j h g = refl

  clash_same : (k j : Kind) → NamesPort e k → NamesPort e j → clash c k j ≡ clash d k j
  clash_same k j h g = ap₂ (λ a b. a || b) (hits_same k j h g) (hits_same j k g h)

  -- the two ways to go on past an event
  step_same : (leads : Bool) (a a' b b' : Option ℕ) (t t' : Bool) (n : ℕ) → a ≡ a' → b ≡ b' → t ≡ t'
      → ◌≡◌ {A = Option ℕ} (elim leads [ true ↦ a | false ↦ or_here b t n ]) (elim leads [ true ↦ a' | false ↦ or_here b' t' n ])
  step_same true a a' b b' t t' n p q r = p
  step_same false a a' b b' t t' n p q r = ap₂ (λ x y. or_here x y n) q r

  scan_same : (x : Event) (log past : List Event) → NamesPort e x.kind → NamesPorts e log → least_scan c x log past ≡ least_scan d x log past
  scan_same x [] past h g = refl
  scan_same x (y ∷ log) past h g =
      let rest : NamesPorts e log = All-tail (λ (z : Event). NamesPort e z.kind) y log g in
      let here : NamesPort e y.kind = All-head (λ (z : Event). NamesPort e z.kind) y log g in
      step_same (leads_to_any y past) (least_scan c x log (y ∷ past)) (least_scan d x log (y ∷ past)) (least_scan c x log past) (least_scan d x log past)
      (clash c y.kind x.kind) (clash d y.kind x.kind) (length log)
      (scan_same x log (y ∷ past) h rest) (scan_same x log past h rest) (clash_same y.kind x.kind here h)

  pub least_same : (log : List Event) → NamesPorts e log → least_with_newest c log ≡ least_with_newest d log
  least_same [] h = refl
  least_same (x ∷ log) h =
      scan_same x log (x ∷ []) (All-head (λ (z : Event). NamesPort e z.kind) x log h) (All-tail (λ (z : Event). NamesPort e z.kind) x log h)

-- the table of a circuit's net finds what the circuit's own cones find
of_table : (e : Elab) (m : Net) (t : Cones) → Runs e m → ConesOf m t → (log : List Event) → NamesPorts e log
    → least_with_newest (cone_of t) log ≡ least_with_newest (in_cone e) log
of_table e m t r c log h = least_same e (cone_of t) (in_cone e) (λ s p l i. told e m t r c s p l i) log h

pub of_device : (d : DesignValue) (r : EngineValue) (v : DeviceValue) (t : Cones) → IsDevice d r → device_of d r ≡ v → ConesOf d.net t
    → (log : List Event) → NamesPorts v.elab log → least_with_newest (cone_of t) log ≡ least_with_newest (in_cone v.elab) log
of_device d r v t h e c log n =
    of_table d.elab d.net t h.runs c log (subst (λ (u : DeviceValue). NamesPorts u.elab log) (sym e) n)
    ∙ ap (λ (u : DeviceValue). least_with_newest (in_cone u.elab) log) e
