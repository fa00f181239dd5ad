-- The signals of an instance: its entries one after another, and as many as are counted.
use Rattle.std.proofs.Common.{◌≡◌, ◌∙◌, ◌+◌, ◌<◌, sym, ap, ap₂, ℕ, zero, suc, List, [], ◌∷◌, ◌++◌, refl, map, sum, length, arith, length-append, subst, All, flat_map}
use Rattle.std.proofs.lemmas.List.Elements.{All-nil, All-cons, All-head, All-tail, All-append}
use Rattle.fir_ast.specs.declared.tree.Module.{Module}
use Rattle.net_core.specs.declared.tree.SignalInfo.{SignalInfo}
use Rattle.net_core.specs.declared.tree.Ground.{Ground}
use Rattle.fir_check.proofs.Gathered.{flat-map-id, flat-map-append}
use Rattle.fir_flat.specs.Shapes.{Leaf}
use Rattle.fir_flat.specs.Bodies.{body_of}
use Rattle.fir_flat.specs.Modules.{over, module_at, targets_of, Ranked, ports_known, unplaced, own_signals, signals_in}
use Rattle.fir_flat.specs.Elaboration.{Entry, made, opened, Opened, port_entries, behind_ports, entries, entries_of, entries_in, all_infos, infos_of, own_body, instances, instances_of, list_of}
use Rattle.fir_flat.specs.Flattening.{infos_in}
use Rattle.fir_flat.proofs.Over.{over-equation, over-step}
use Rattle.fir_flat.proofs.Totals.{total, sum_total, total-append, total-same}
use Rattle.fir_flat.proofs.Unnumbered.{ports-alike}
use Rattle.fir_flat.proofs.BodyCounts.{is_made, signals_made, ports_made, body_made}
use Rattle.fir_flat.proofs.TreeCounts.{target, targets_are}

-- no module lies on a cycle of instances
abbrev pub AreRanked : (ℕ → ℕ) → List Module → Type 0
AreRanked rank modules = Ranked rank (targets_of modules) (length modules)

-- ranks of entries: a signal lies below all instances

abbrev entry_rank : (ℕ → ℕ) → Entry → ℕ
entry_rank rank (made info) = 0
entry_rank rank (opened o) = suc (rank o.target)

below : (rank : ℕ → ℕ) (n : ℕ) (es : List Entry) → All (λ t. rank t < n) (map target (instances es)) → All (λ e. entry_rank rank e < suc n) es
below rank n [] a k d p = absurd (omega arith)
below rank n (made info ∷ es) a zero d p = omega arith
below rank n (made info ∷ es) a (suc k) d p = below rank n es a k d (omega arith)
below rank n (opened o ∷ es) a zero d p = let h = a 0 0 (omega arith) in omega (arith, h)
below rank n (opened o ∷ es) a (suc k) d p = below rank n es (λ j e q. a (suc j) e (omega arith)) k d (omega arith)

pub targets_below : (modules : List Module) (rank : ℕ → ℕ) → AreRanked rank modules → (o : Opened)
    → All (λ t. rank t < rank o.target) (map target (instances_of modules o))
targets_below modules rank r o = subst (All (λ t. rank t < rank o.target)) (sym (targets_are modules o)) (r.falls o.target)

entries_below : (modules : List Module) (rank : ℕ → ℕ) → AreRanked rank modules → (e : Entry)
    → All (λ x. entry_rank rank x < entry_rank rank e) (entries_in modules e)
entries_below modules rank r (made info) = λ k d p. absurd (omega arith)
entries_below modules rank r (opened o) = below rank (rank o.target) (entries_of modules o) (targets_below modules rank r o)

entry_low : (modules : List Module) (rank : ℕ → ℕ) → AreRanked rank modules → (e : Entry) → entry_rank rank e < suc (length modules)
entry_low modules rank r (made info) = omega arith
entry_low modules rank r (opened o) = let h = r.low o.target in omega (arith, h)

unmapped : (P : ℕ → Type 0) (os : List Opened) → All P (map target os) → All (λ o. P o.target) os
unmapped P [] a k d p = absurd (omega arith)
unmapped P (o ∷ os) a zero d p = a 0 0 (omega arith)
unmapped P (o ∷ os) a (suc k) d p = unmapped P os (λ j e q. a (suc j) e (omega arith)) k d (omega arith)

-- an instance is what its entries are

pub infos_opened : (modules : List Module) (rank : ℕ → ℕ) → AreRanked rank modules → (o : Opened)
    → infos_of modules (opened o) ≡ infos_in modules (entries_of modules o)
infos_opened modules rank r o =
    over-equation (entries_in modules) all_infos [] (entry_rank rank) (suc (length modules)) (entries_below modules rank r) (entry_low modules rank r) (opened o)
    ∙ flat-map-id (infos_of modules) (entries_of modules o)

pub list_opened : (modules : List Module) (rank : ℕ → ℕ) → AreRanked rank modules → (o : Opened)
    → list_of modules o ≡ own_body modules o (module_at modules o.target) ++ flat_map (list_of modules) (instances_of modules o)
list_opened modules rank r o =
    over-equation (instances_of modules) (λ o lists. own_body modules o (module_at modules o.target) ++ flat_map (λ gs. gs) lists) [] (λ p. rank p.target) (length modules)
    (λ p. unmapped (λ t. rank t < rank p.target) (instances_of modules p) (targets_below modules rank r p)) (λ p. r.low p.target) o
    ∙ ap (λ (gs : List Ground). own_body modules o (module_at modules o.target) ++ gs) (flat-map-id (list_of modules) (instances_of modules o))

pub infos_made : (modules : List Module) (info : SignalInfo) → infos_of modules (made info) ≡ info ∷ []
unfolding over
infos_made modules info = refl

pub infos_append : (modules : List Module) (xs ys : List Entry) → infos_in modules (xs ++ ys) ≡ infos_in modules xs ++ infos_in modules ys
infos_append modules xs ys = flat-map-append (infos_of modules) xs ys

-- signals in front of what else is declared
pub infos_leaves : (modules : List Module) (f : Leaf → SignalInfo) (ls : List Leaf) (es : List Entry)
    → infos_in modules (map (λ l. made (f l)) ls ++ es) ≡ map f ls ++ infos_in modules es
infos_leaves modules f [] es = refl
infos_leaves modules f (l ∷ ls) es = ap₂ (λ (x y : List SignalInfo). x ++ y) (infos_made modules (f l)) (infos_leaves modules f ls es)

-- an instance in front of what else is declared
pub infos_instance : (modules : List Module) (o : Opened) (es : List Entry) → infos_in modules (opened o ∷ es) ≡ infos_of modules (opened o) ++ infos_in modules es
infos_instance modules o es = refl

-- as many as are counted

own_made : (modules : List Module) (o : Opened) → signals_made (entries_of modules o) ≡ own_signals modules (module_at modules o.target)
own_made modules o =
    let m : Module = module_at modules o.target in
    let es : List Entry = entries modules o.prefix (ports_known o.first m.ports) (behind_ports o m.ports) (body_of m.body) in
    let a : signals_made (port_entries o m.ports ++ es) ≡ signals_made (port_entries o m.ports) + signals_made es = total-append is_made (port_entries o m.ports) es in
    a ∙ ap₂ (λ x y. x + y) (ports_made o m.ports)
    (body_made modules o.prefix (ports_known o.first m.ports) (map unplaced m.ports) (ports-alike o.first m.ports) (behind_ports o m.ports) (body_of m.body))

entries_length : (modules : List Module) (es : List Entry)
    → length (infos_in modules es) ≡ signals_made es + total (λ o. length (infos_of modules (opened o))) (instances es)
entries_length modules [] = refl
entries_length modules (made info ∷ es) =
    let a : length (infos_of modules (made info) ++ infos_in modules es) ≡ length (infos_of modules (made info)) + length (infos_in modules es)
    = length-append (infos_of modules (made info)) (infos_in modules es) in
    let e : length (infos_of modules (made info)) ≡ 1 = ap length (infos_made modules info) in
    let t : length (infos_in modules es) ≡ signals_made es + total (λ o. length (infos_of modules (opened o))) (instances es) = entries_length modules es in
    omega (arith, a, e, t)
entries_length modules (opened o ∷ es) =
    let a : length (infos_of modules (opened o) ++ infos_in modules es) ≡ length (infos_of modules (opened o)) + length (infos_in modules es)
    = length-append (infos_of modules (opened o)) (infos_in modules es) in
    let t : length (infos_in modules es) ≡ signals_made es + total (λ o. length (infos_of modules (opened o))) (instances es) = entries_length modules es in
    omega (arith, a, t)

length_below : (modules : List Module) (rank : ℕ → ℕ) → AreRanked rank modules → (n : ℕ) (o : Opened) → rank o.target < n
    → length (infos_of modules (opened o)) ≡ signals_in modules o.target
length_below modules rank r zero o low = absurd (omega arith)
length_below modules rank r (suc n) o low =
    let es : List Entry = entries_of modules o in
    let own : ℕ → ℕ = λ place. own_signals modules (module_at modules place) in
    let b : length (infos_in modules es) ≡ signals_made es + total (λ p. length (infos_of modules (opened p))) (instances es) = entries_length modules es in
    let c : total (λ p. length (infos_of modules (opened p))) (instances es) ≡ total (signals_in modules) (map target (instances es))
    = total-same (λ t. rank t < rank o.target) target (λ p. length (infos_of modules (opened p))) (signals_in modules)
    (λ p h. length_below modules rank r n p (omega (arith, low, h))) (instances es) (targets_below modules rank r o) in
    let d : total (signals_in modules) (map target (instances es)) ≡ sum (map (signals_in modules) (targets_of modules o.target))
    = ap (total (signals_in modules)) (targets_are modules o) ∙ sym (sum_total (signals_in modules) (targets_of modules o.target)) in
    let s : signals_in modules o.target ≡ own o.target + sum (map (signals_in modules) (targets_of modules o.target))
    = over-step (targets_of modules) (λ place counts. own place + sum counts) 0 rank (length modules) r o.target in
    ap length (infos_opened modules rank r o) ∙ b ∙ ap₂ (λ x y. x + y) (own_made modules o) (c ∙ d) ∙ sym s

-- an instance takes up as many signals as are counted of its module
pub infos_length : (modules : List Module) (rank : ℕ → ℕ) → AreRanked rank modules → (o : Opened) → length (infos_of modules (opened o)) ≡ signals_in modules o.target
infos_length modules rank r o = length_below modules rank r (suc (rank o.target)) o (omega arith)

-- of an own signal
abbrev pub OnMade : (SignalInfo → Type 0) → Entry → Type 0
OnMade Q (made info) = Q info
OnMade Q (opened o) = Unit {0}

-- induction over instances

module _ (modules : List Module) (rank : ℕ → ℕ) (r : AreRanked rank modules) (R : Opened → Type 0) (inner : (o : Opened) → R o → All R (instances_of modules o)) where
  -- statements
  module _ (P : List Ground → Type 0) (own : (o : Opened) → R o → P (own_body modules o (module_at modules o.target))) (none : P [])
      (both : (xs ys : List Ground) → P xs → P ys → P (xs ++ ys)) where
    lists_have : (n : ℕ) → ((o : Opened) → rank o.target < n → R o → P (list_of modules o)) → (os : List Opened) → All (λ t. rank t < n) (map target os) → All R os
        → P (flat_map (list_of modules) os)
    lists_have n h [] low a = none
    lists_have n h (o ∷ os) low a =
        both (list_of modules o) (flat_map (list_of modules) os)
        (h o (All-head (λ t. rank t < n) o.target (map target os) low) (All-head R o os a))
        (lists_have n h os (All-tail (λ t. rank t < n) o.target (map target os) low) (All-tail R o os a))

    list_has : (n : ℕ) (o : Opened) → rank o.target < n → R o → P (list_of modules o)
    list_has zero o low h = absurd (omega arith)
    list_has (suc n) o low h =
        subst P (sym (list_opened modules rank r o))
        (both (own_body modules o (module_at modules o.target)) (flat_map (list_of modules) (instances_of modules o)) (own o h)
        (lists_have (rank o.target) (λ p l. list_has n p (omega (arith, low, l))) (instances_of modules o) (targets_below modules rank r o) (inner o h)))

    pub each_instance : (o : Opened) → R o → P (list_of modules o)
    each_instance o h = list_has (suc (rank o.target)) o (omega arith) h

  -- signals
  module _ (Q : SignalInfo → Type 0) where
    infos_have : (n : ℕ) → ((o : Opened) → rank o.target < n → R o → All Q (infos_of modules (opened o))) → (es : List Entry)
        → All (λ t. rank t < n) (map target (instances es)) → All R (instances es) → All (OnMade Q) es → All Q (infos_in modules es)
    infos_have n h [] low a own = All-nil Q
    infos_have n h (made info ∷ es) low a own =
        All-append Q (infos_of modules (made info)) (infos_in modules es)
        (subst (All Q) (sym (infos_made modules info)) (All-cons Q info [] (All-head (OnMade Q) (made info) es own) (All-nil Q)))
        (infos_have n h es low a (All-tail (OnMade Q) (made info) es own))
    infos_have n h (opened o ∷ es) low a own =
        All-append Q (infos_of modules (opened o)) (infos_in modules es)
        (h o (All-head (λ t. rank t < n) o.target (map target (instances es)) low) (All-head R o (instances es) a))
        (infos_have n h es (All-tail (λ t. rank t < n) o.target (map target (instances es)) low) (All-tail R o (instances es) a) (All-tail (OnMade Q) (opened o) es own))

    module _ (own : (o : Opened) → R o → All (OnMade Q) (entries_of modules o)) where
      info_has : (n : ℕ) (o : Opened) → rank o.target < n → R o → All Q (infos_of modules (opened o))
      info_has zero o low h = absurd (omega arith)
      info_has (suc n) o low h =
          subst (All Q) (sym (infos_opened modules rank r o))
          (infos_have (rank o.target) (λ p l. info_has n p (omega (arith, low, l))) (entries_of modules o) (targets_below modules rank r o) (inner o h) (own o h))

      pub each_info : (o : Opened) → R o → All Q (infos_of modules (opened o))
      each_info o h = info_has (suc (rank o.target)) o (omega arith) h

      pub each_info_in : (es : List Entry) → All R (instances es) → All (OnMade Q) es → All Q (infos_in modules es)
      each_info_in [] a h = All-nil Q
      each_info_in (made info ∷ es) a h =
          All-append Q (infos_of modules (made info)) (infos_in modules es)
          (subst (All Q) (sym (infos_made modules info)) (All-cons Q info [] (All-head (OnMade Q) (made info) es h) (All-nil Q)))
          (each_info_in es a (All-tail (OnMade Q) (made info) es h))
      each_info_in (opened o ∷ es) a h =
          All-append Q (infos_of modules (opened o)) (infos_in modules es) (each_info o (All-head R o (instances es) a))
          (each_info_in es (All-tail R o (instances es) a) (All-tail (OnMade Q) (opened o) es h))
