-- What is written of an elaboration, and what is still to come, are the whole.
use Rattle.std.proofs.Common.{◌≡◌, ◌∙◌, ◌+◌, ◌<◌, sym, ap, ap₂, ℕ, zero, suc, List, [], ◌∷◌, ◌++◌, refl, map, sum, length, arith, append_assoc, subst, All, reverse, flat_map}
use Rattle.std.proofs.lemmas.List.{map-append, reverse-append, reverse-reverse}
use Rattle.fir_ast.specs.declared.tree.Module.{Module}
use Rattle.net_core.specs.declared.tree.SignalInfo.{SignalInfo}
use Rattle.net_core.specs.declared.tree.Ground.{Ground}
use Rattle.fir_check.proofs.Gathered.{flat-map-id, flat-map-append}
use Rattle.fir_flat.specs.declared.signals.Entry.{Entry as OwnEntry}
use Rattle.fir_flat.specs.declared.flattening.Course.{Course}
use Rattle.fir_flat.specs.Modules.{over, module_at, targets_of, Ranked}
use Rattle.fir_flat.specs.Elaboration.{Entry, made, opened, Opened, entries_of, entries_in, all_infos, infos_of, own_body, instances, instances_of, list_of}
use Rattle.fir_flat.specs.Signals.{seen_entry, seen_entries}
use Rattle.fir_flat.specs.Writing.{own_grounds}
use Rattle.fir_flat.specs.Flattening.{coming, infos_in, lists_in, entry_count, counted_in, Expands}
use Rattle.fir_flat.proofs.Over.{over-equation}
use Rattle.fir_flat.proofs.Totals.{total, sum_total, total-append}
use Rattle.fir_flat.proofs.BodyCounts.{instances-append}
use Rattle.fir_flat.proofs.TreeCounts.{target, targets_are}

-- the rank of an entry: a signal lies below all instances

abbrev entry_rank : (ℕ → ℕ) → Entry → ℕ
entry_rank rank (made info) = 0
entry_rank rank (opened o) = suc (rank o.target)

below : (rank : ℕ → ℕ) (n : ℕ) (es : List Entry) → All (λ t. rank t < n) (map target (instances es)) → All (λ e. entry_rank rank e < suc n) es
below rank n [] a k d p = absurd (omega arith)
below rank n (made info ∷ es) a zero d p = omega arith
below rank n (made info ∷ es) a (suc k) d p = below rank n es a k d (omega arith)
below rank n (opened o ∷ es) a zero d p = let h = a 0 0 (omega arith) in omega (arith, h)
below rank n (opened o ∷ es) a (suc k) d p = below rank n es (λ j e q. a (suc j) e (omega arith)) k d (omega arith)

targets_below : (modules : List Module) (rank : ℕ → ℕ) → Ranked rank (targets_of modules) (length modules) → (o : Opened)
    → All (λ t. rank t < rank o.target) (map target (instances_of modules o))
targets_below modules rank r o = subst (All (λ t. rank t < rank o.target)) (sym (targets_are modules o)) (r.falls o.target)

entries_below : (modules : List Module) (rank : ℕ → ℕ) → Ranked rank (targets_of modules) (length modules) → (e : Entry)
    → All (λ x. entry_rank rank x < entry_rank rank e) (entries_in modules e)
entries_below modules rank r (made info) = λ k d p. absurd (omega arith)
entries_below modules rank r (opened o) = below rank (rank o.target) (entries_of modules o) (targets_below modules rank r o)

entry_low : (modules : List Module) (rank : ℕ → ℕ) → Ranked rank (targets_of modules) (length modules) → (e : Entry) → entry_rank rank e < suc (length modules)
entry_low modules rank r (made info) = omega arith
entry_low modules rank r (opened o) = let h = r.low o.target in omega (arith, h)

unmapped : (P : ℕ → Type 0) (os : List Opened) → All P (map target os) → All (λ o. P o.target) os
unmapped P [] a k d p = absurd (omega arith)
unmapped P (o ∷ os) a zero d p = a 0 0 (omega arith)
unmapped P (o ∷ os) a (suc k) d p = unmapped P os (λ j e q. a (suc j) e (omega arith)) k d (omega arith)

-- an instance is what its entries are

infos_opened : (modules : List Module) (rank : ℕ → ℕ) → Ranked rank (targets_of modules) (length modules) → (o : Opened)
    → infos_of modules (opened o) ≡ infos_in modules (entries_of modules o)
infos_opened modules rank r o =
    over-equation (entries_in modules) all_infos [] (entry_rank rank) (suc (length modules)) (entries_below modules rank r) (entry_low modules rank r) (opened o)
    ∙ flat-map-id (infos_of modules) (entries_of modules o)

count_opened : (modules : List Module) (rank : ℕ → ℕ) → Ranked rank (targets_of modules) (length modules) → (o : Opened)
    → entry_count modules (opened o) ≡ suc (counted_in modules (entries_of modules o))
count_opened modules rank r o =
    over-equation (entries_in modules) (λ e counts. suc (sum counts)) 0 (entry_rank rank) (suc (length modules))
    (entries_below modules rank r) (entry_low modules rank r) (opened o)

list_opened : (modules : List Module) (rank : ℕ → ℕ) → Ranked rank (targets_of modules) (length modules) → (o : Opened)
    → list_of modules o ≡ own_grounds modules o.target o.first o.top ++ lists_in modules (entries_of modules o)
list_opened modules rank r o =
    let own : List Ground = own_body modules o (module_at modules o.target) in
    over-equation (instances_of modules) (λ o lists. own_body modules o (module_at modules o.target) ++ flat_map (λ gs. gs) lists) [] (λ p. rank p.target) (length modules)
    (λ p. unmapped (λ t. rank t < rank p.target) (instances_of modules p) (targets_below modules rank r p)) (λ p. r.low p.target) o
    ∙ ap (λ (gs : List Ground). own ++ gs) (flat-map-id (list_of modules) (instances_of modules o))

-- a signal is itself

infos_made : (modules : List Module) (info : SignalInfo) → infos_of modules (made info) ≡ info ∷ []
unfolding over
infos_made modules info = refl

count_made : (modules : List Module) (info : SignalInfo) → entry_count modules (made info) ≡ 1
unfolding over
count_made modules info = refl

-- entries, one list behind another

infos-append : (modules : List Module) (xs ys : List Entry) → infos_in modules (xs ++ ys) ≡ infos_in modules xs ++ infos_in modules ys
infos-append modules xs ys = flat-map-append (infos_of modules) xs ys

lists-append : (modules : List Module) (xs ys : List Entry) → lists_in modules (xs ++ ys) ≡ lists_in modules xs ++ lists_in modules ys
lists-append modules xs ys = ap (flat_map (list_of modules)) (instances-append xs ys) ∙ flat-map-append (list_of modules) (instances xs) (instances ys)

counted-append : (modules : List Module) (xs ys : List Entry) → counted_in modules (xs ++ ys) ≡ counted_in modules xs + counted_in modules ys
counted-append modules xs ys =
    let a : counted_in modules (xs ++ ys) ≡ total (entry_count modules) (xs ++ ys) = sum_total (entry_count modules) (xs ++ ys) in
    let b : total (entry_count modules) (xs ++ ys) ≡ total (entry_count modules) xs + total (entry_count modules) ys = total-append (entry_count modules) xs ys in
    let p : counted_in modules xs ≡ total (entry_count modules) xs = sum_total (entry_count modules) xs in
    let q : counted_in modules ys ≡ total (entry_count modules) ys = sum_total (entry_count modules) ys in
    omega (arith, a, b, p, q)

counted-cons : (modules : List Module) (e : Entry) (es : List Entry) → counted_in modules (e ∷ es) ≡ entry_count modules e + counted_in modules es
counted-cons modules e es =
    let a : counted_in modules (e ∷ es) ≡ entry_count modules e + total (entry_count modules) es = sum_total (entry_count modules) (e ∷ es) in
    let q : counted_in modules es ≡ total (entry_count modules) es = sum_total (entry_count modules) es in
    omega (arith, a, q)

-- the list that the code keeps

map-reversed : {X Y : Type 0} (f : X → Y) (xs : List X) → map f (reverse xs) ≡ reverse (map f xs)
map-reversed f [] = refl
map-reversed f (x ∷ xs) =
    ap (map f) (reverse-append (x ∷ []) xs) ∙ map-append f (reverse xs) (x ∷ []) ∙ ap (λ ys. ys ++ f x ∷ []) (map-reversed f xs)
    ∙ sym (reverse-append (f x ∷ []) (map f xs))

coming_more : (es own : List OwnEntry) → coming (es ++ reverse own) ≡ seen_entries own ++ coming es
coming_more es own =
    ap reverse (map-append seen_entry es (reverse own)) ∙ reverse-append (seen_entries es) (seen_entries (reverse own))
    ∙ ap (λ ys. ys ++ coming es) (ap reverse (map-reversed seen_entry own) ∙ reverse-reverse (seen_entries own))

-- one step

signal_expands : (modules : List Module) (info : SignalInfo) (t u : Course) → u.signals.items ≡ t.signals.items ++ info ∷ [] → u.body.items ≡ t.body.items
    → u.to_come.items ≡ t.to_come.items → Expands modules (made info) t u
signal_expands modules info t u s b c =
    let es : List Entry = coming t.to_come.items in
    let e : coming u.to_come.items ≡ es = ap coming c in
    let n : counted_in modules (made info ∷ es) ≡ entry_count modules (made info) + counted_in modules es = counted-cons modules (made info) es in
    let m : entry_count modules (made info) ≡ 1 = count_made modules info in
    let w : counted_in modules (coming u.to_come.items) ≡ counted_in modules es = ap (counted_in modules) e in
    record {
      signals = ap₂ (λ (x : List SignalInfo) (y : List Entry). x ++ infos_in modules y) s e
          ∙ append_assoc t.signals.items (info ∷ []) (infos_in modules es)
          ∙ ap (λ (x : List SignalInfo). t.signals.items ++ (x ++ infos_in modules es)) (sym (infos_made modules info));
      body = ap₂ (λ (x : List Ground) (y : List Entry). x ++ lists_in modules y) b e;
      fewer = omega (arith, n, m, w);
    }

pub made_expands : (modules : List Module) (e : Entry) (info : SignalInfo) (t u : Course) → e ≡ made info → u.signals.items ≡ t.signals.items ++ info ∷ []
    → u.body.items ≡ t.body.items → u.to_come.items ≡ t.to_come.items → Expands modules e t u
made_expands modules e info t u h s b c = subst (λ (x : Entry). Expands modules x t u) (sym h) (signal_expands modules info t u s b c)

pub opened_expands : (modules : List Module) (rank : ℕ → ℕ) → Ranked rank (targets_of modules) (length modules) → (o : Opened) (own : List OwnEntry) (t u : Course)
    → seen_entries own ≡ entries_of modules o → u.signals.items ≡ t.signals.items
    → u.body.items ≡ t.body.items ++ own_grounds modules o.target o.first o.top
    → u.to_come.items ≡ t.to_come.items ++ reverse own → Expands modules (opened o) t u
opened_expands modules rank r o own t u h s b c =
    let es : List Entry = coming t.to_come.items in
    let new : List Entry = entries_of modules o in
    let gs : List Ground = own_grounds modules o.target o.first o.top in
    let e : coming u.to_come.items ≡ new ++ es = ap coming c ∙ coming_more t.to_come.items own ∙ ap (λ (x : List Entry). x ++ es) h in
    let n : counted_in modules (opened o ∷ es) ≡ entry_count modules (opened o) + counted_in modules es = counted-cons modules (opened o) es in
    let m : entry_count modules (opened o) ≡ suc (counted_in modules new) = count_opened modules rank r o in
    let w : counted_in modules (coming u.to_come.items) ≡ counted_in modules new + counted_in modules es
    = ap (counted_in modules) e ∙ counted-append modules new es in
    record {
      signals = ap₂ (λ (x : List SignalInfo) (y : List Entry). x ++ infos_in modules y) s e
          ∙ ap (λ (x : List SignalInfo). t.signals.items ++ x)
          (infos-append modules new es ∙ ap (λ (x : List SignalInfo). x ++ infos_in modules es) (sym (infos_opened modules rank r o)));
      body = ap₂ (λ (x : List Ground) (y : List Entry). x ++ lists_in modules y) b e
          ∙ append_assoc t.body.items gs (lists_in modules (new ++ es))
          ∙ ap (λ (x : List Ground). t.body.items ++ x)
          (ap (λ (x : List Ground). gs ++ x) (lists-append modules new es) ∙ sym (append_assoc gs (lists_in modules new) (lists_in modules es))
          ∙ ap (λ (x : List Ground). x ++ lists_in modules es) (sym (list_opened modules rank r o)));
      fewer = omega (arith, n, m, w);
    }
