-- What a walk over a body keeps for one signal, and that it means the same.
use Rattle.std.proofs.Common.{List, ◌≡◌, ◌∙◌, sym, ap, ℕ, ◌+◌, Bool, true, false, ◌||◌, ◌&&◌, nat_eq, refl, Option, Some, cond}
use Rattle.std.proofs.lemmas.Bool.{or_parts}
use Rattle.tb_base.specs.Word.{Word}
use Rattle.net_core.specs.declared.tree.SignalInfo.{SignalInfo}
use Rattle.net_core.specs.Values.{mentions}
use Rattle.net_core.specs.Body.{Body, done, declare, set, when, whens}
use Rattle.net_core.specs.Last.{source, source_mentions, holds, last, sinks, reads, initialised}
use Rattle.net_core.specs.Nets.{Choices, nothing, take, branch, chosen, full}
use Rattle.net_core.proofs.BodyFacts.{last_untouched}
use Rattle.net_resolve.proofs.Numbering.{Numbered, Worth}

abbrev pub append : Choices → Choices → Choices
append nothing more = more
append (take e rest) more = take e (append rest more)
append (branch k taken other rest) more = branch k taken other (append rest more)

abbrev pub joined : Choices → ℕ → Choices → Choices → Choices
joined acc k t o = cond (full t && full o) (branch k t o nothing) (append acc (branch k t o nothing))

-- the choices of x behind `acc`, where n is the number of the next condition
abbrev pub seen : ℕ → ℕ → Body → Choices → Choices
seen x n done acc = acc
seen x n (declare y line reset rest) acc = seen x n rest acc
seen x n (set line y e rest) acc = seen x n rest (cond (nat_eq x y) (take e nothing) acc)
seen x n (when line c taken other rest) acc =
    seen x (n + 1 + whens taken + whens other) rest
    (cond (sinks x taken || sinks x other) (joined acc n (seen x (n + 1) taken nothing) (seen x (n + 1 + whens taken) other nothing)) acc)

pub chosen-append : (signals : List SignalInfo) (V : ℕ → ℕ) (a b : Choices) (d : Option Word) → chosen signals V (append a b) d ≡ chosen signals V b (chosen signals V a d)
chosen-append signals V nothing b d = refl
chosen-append signals V (take e rest) b d = chosen-append signals V rest b (Some (source signals e V))
chosen-append signals V (branch k t o rest) b d = chosen-append signals V rest b (cond (nat_eq (V k) 1) (chosen signals V t d) (chosen signals V o d))

and_both : (x y : Bool) → (x && y) ≡ true → (x ≡ true) × (y ≡ true)
and_both true y h = (refl, h)
and_both false y h = cc

pub full_chosen : (signals : List SignalInfo) (V : ℕ → ℕ) (a : Choices) (d e : Option Word) → full a ≡ true → chosen signals V a d ≡ chosen signals V a e
full_chosen signals V nothing d e h = cc
full_chosen signals V (take s rest) d e h = refl
full_chosen signals V (branch k t o rest) d e h = step (full t && full o) refl (full_chosen signals V t d e) (full_chosen signals V o d e) (λ a b. full_chosen signals V rest a b) h
  where
    either : (c : Bool) → (chosen signals V t d ≡ chosen signals V t e) → (chosen signals V o d ≡ chosen signals V o e)
        → cond c (chosen signals V t d) (chosen signals V o d) ≡ cond c (chosen signals V t e) (chosen signals V o e)
    either true p q = p
    either false p q = q

    step : (b : Bool) → (full t && full o) ≡ b → (full t ≡ true → chosen signals V t d ≡ chosen signals V t e) → (full o ≡ true → chosen signals V o d ≡ chosen signals V o e) → ((a b : Option Word) → full rest ≡ true → chosen signals V rest a ≡ chosen signals V rest b) → (b || full rest) ≡ true
        → chosen signals V rest (cond (nat_eq (V k) 1) (chosen signals V t d) (chosen signals V o d)) ≡ chosen signals V rest (cond (nat_eq (V k) 1) (chosen signals V t e) (chosen signals V o e))
    step true s p q r g = ap (chosen signals V rest) (either (nat_eq (V k) 1) (p (and_both (full t) (full o) s).0) (q (and_both (full t) (full o) s).1))
    step false s p q r g = r _ _ g

-- the choices give what the last connect gives
pub seen_chosen : (signals : List SignalInfo) (V : ℕ → ℕ) (x n : ℕ) (b : Body) (acc : Choices) (d : Option Word) → Numbered (Worth signals V) n b
    → chosen signals V (seen x n b acc) d ≡ last signals V x b (chosen signals V acc d)
seen_chosen signals V x n done acc d h = refl
seen_chosen signals V x n (declare y line reset rest) acc d h = seen_chosen signals V x n rest acc d h
seen_chosen signals V x n (set line y e rest) acc d h =
    seen_chosen signals V x n rest (cond (nat_eq x y) (take e nothing) acc) d h ∙ ap (last signals V x rest) (step (nat_eq x y))
  where
    step : (t : Bool) → chosen signals V (cond t (take e nothing) acc) d ≡ cond t (Some (source signals e V)) (chosen signals V acc d)
    step true = refl
    step false = refl
seen_chosen signals V x n (when line c taken other rest) acc d h =
    seen_chosen signals V x (n + 1 + whens taken + whens other) rest _ d h.3
    ∙ ap (last signals V x rest) (step (sinks x taken || sinks x other) refl
    (λ e. seen_chosen signals V x (n + 1) taken nothing e h.1)
    (λ e. seen_chosen signals V x (n + 1 + whens taken) other nothing e h.2))
  where
    either : (t : Bool) (p q r s : Option Word) → p ≡ r → q ≡ s → cond t p q ≡ cond t r s
    either true p q r s a b = a
    either false p q r s a b = b

    same : (t : Bool) (p : Option Word) → cond t p p ≡ p
    same true p = refl
    same false p = refl

    join : (f : Bool) → (full (seen x (n + 1) taken nothing) && full (seen x (n + 1 + whens taken) other nothing)) ≡ f
        → ((e : Option Word) → chosen signals V (seen x (n + 1) taken nothing) e ≡ last signals V x taken e)
        → ((e : Option Word) → chosen signals V (seen x (n + 1 + whens taken) other nothing) e ≡ last signals V x other e)
        → chosen signals V (cond f (branch n (seen x (n + 1) taken nothing) (seen x (n + 1 + whens taken) other nothing) nothing)
        (append acc (branch n (seen x (n + 1) taken nothing) (seen x (n + 1 + whens taken) other nothing) nothing))) d
        ≡ cond (holds signals c V) (last signals V x taken (chosen signals V acc d)) (last signals V x other (chosen signals V acc d))
    join true s p q =
        let f = and_both (full (seen x (n + 1) taken nothing)) (full (seen x (n + 1 + whens taken) other nothing)) s in
        rw h.0 (either (holds signals c V) _ _ _ _
        (full_chosen signals V (seen x (n + 1) taken nothing) d (chosen signals V acc d) f.0 ∙ p (chosen signals V acc d))
        (full_chosen signals V (seen x (n + 1 + whens taken) other nothing) d (chosen signals V acc d) f.1 ∙ q (chosen signals V acc d)))
    join false s p q =
        chosen-append signals V acc (branch n (seen x (n + 1) taken nothing) (seen x (n + 1 + whens taken) other nothing) nothing) d
        ∙ rw h.0 (either (holds signals c V) _ _ _ _ (p (chosen signals V acc d)) (q (chosen signals V acc d)))

    step : (t : Bool) → (sinks x taken || sinks x other) ≡ t
        → ((e : Option Word) → chosen signals V (seen x (n + 1) taken nothing) e ≡ last signals V x taken e)
        → ((e : Option Word) → chosen signals V (seen x (n + 1 + whens taken) other nothing) e ≡ last signals V x other e)
        → chosen signals V (cond t (joined acc n (seen x (n + 1) taken nothing) (seen x (n + 1 + whens taken) other nothing)) acc) d
        ≡ cond (holds signals c V) (last signals V x taken (chosen signals V acc d)) (last signals V x other (chosen signals V acc d))
    step true s p q = join (full (seen x (n + 1) taken nothing) && full (seen x (n + 1 + whens taken) other nothing)) refl p q
    step false s p q =
        let u = or_parts (sinks x taken) (sinks x other) s in
        rw (last_untouched signals V x taken (chosen signals V acc d) u.0, last_untouched signals V x other (chosen signals V acc d) u.1) (sym (same (holds signals c V) (chosen signals V acc d)))

pub full-append : (a b : Choices) → full (append a b) ≡ (full a || full b)
full-append nothing b = refl
full-append (take e rest) b = refl
full-append (branch k t o rest) b = rw (full-append rest b) (or_or (full t && full o) (full rest) (full b))
  where
    or_or : (x y z : Bool) → (x || (y || z)) ≡ ((x || y) || z)
    or_or true y z = refl
    or_or false y z = refl

-- what was initialised before stays so, and else it is what the body alone initialises
pub initialised_from : (x : ℕ) (b : Body) (a : Bool) → initialised x b a ≡ (initialised x b false || a)
initialised_from x done a = refl
initialised_from x (declare y line reset rest) a = initialised_from x rest a
initialised_from x (set line y e rest) a = step (nat_eq x y) (initialised_from x rest)
  where
    step : (t : Bool) → ((c : Bool) → initialised x rest c ≡ (initialised x rest false || c)) → initialised x rest (t || a) ≡ (initialised x rest (t || false) || a)
    step true r = rw (r true) (last_true (initialised x rest false))
      where
        last_true : (i : Bool) → (i || true) ≡ ((i || true) || a)
        last_true true = refl
        last_true false = refl
    step false r = r a
initialised_from x (when line c t o rest) a =
    rw (initialised_from x t a, initialised_from x o a) (step (initialised x t false) (initialised x o false) (initialised_from x rest))
  where
    both : (p q r : Bool) → (r || ((p || a) && (q || a))) ≡ ((r || (p && q)) || a)
    both true true true = refl
    both true true false = refl
    both true false true = refl
    both true false false = refl
    both false q true = refl
    both false true false = and_self a
      where
        and_self : (z : Bool) → (z && true) ≡ z
        and_self true = refl
        and_self false = refl
    both false false false = and_same a
      where
        and_same : (z : Bool) → (z && z) ≡ z
        and_same true = refl
        and_same false = refl

    step : (p q : Bool) → ((k : Bool) → initialised x rest k ≡ (initialised x rest false || k)) → initialised x rest ((p || a) && (q || a)) ≡ (initialised x rest (p && q) || a)
    step p q r = rw (r ((p || a) && (q || a)), r (p && q)) (both p q (initialised x rest false))

pub initialised_untouched : (x : ℕ) (b : Body) (a : Bool) → sinks x b ≡ false → initialised x b a ≡ a
initialised_untouched x done a h = refl
initialised_untouched x (declare y line reset rest) a h = initialised_untouched x rest a h
initialised_untouched x (set line y e rest) a h =
    let p = or_parts (nat_eq x y) (sinks x rest) h in
    rw p.0 (initialised_untouched x rest a p.1)
initialised_untouched x (when line c t o rest) a h =
    let p = or_parts (sinks x t || sinks x o) (sinks x rest) h in
    let q = or_parts (sinks x t) (sinks x o) p.0 in
    rw (initialised_untouched x t a q.0, initialised_untouched x o a q.1) (and_same a ∙ initialised_untouched x rest a p.1)
  where
    and_same : (z : Bool) → initialised x rest (z && z) ≡ initialised x rest z
    and_same true = refl
    and_same false = refl

-- the choices are full exactly where the body initialises
pub seen_full : (x n : ℕ) (b : Body) (acc : Choices) → full (seen x n b acc) ≡ initialised x b (full acc)
seen_full x n done acc = refl
seen_full x n (declare y line reset rest) acc = seen_full x n rest acc
seen_full x n (set line y e rest) acc =
    seen_full x n rest (cond (nat_eq x y) (take e nothing) acc) ∙ ap (initialised x rest) (step (nat_eq x y))
  where
    step : (t : Bool) → full (cond t (take e nothing) acc) ≡ (t || full acc)
    step true = refl
    step false = refl
seen_full x n (when line c t o rest) acc =
    seen_full x (n + 1 + whens t + whens o) rest _
    ∙ ap (initialised x rest) (step (sinks x t || sinks x o) refl (seen_full x (n + 1) t nothing) (seen_full x (n + 1 + whens t) o nothing))
  where
    joins : (f : Bool) (k : ℕ) (p q : Choices) → (full p && full q) ≡ f → full (cond f (branch k p q nothing) (append acc (branch k p q nothing))) ≡ ((full p && full q) || full acc)
    joins true k p q s = rw s refl
    joins false k p q s = full-append acc (branch k p q nothing) ∙ rw s (turn (full acc))
      where
        turn : (a : Bool) → (a || (false || false)) ≡ (false || a)
        turn true = refl
        turn false = refl

    both : (p q a : Bool) → ((p && q) || a) ≡ ((p || a) && (q || a))
    both true true a = refl
    both true false true = refl
    both true false false = refl
    both false true true = refl
    both false true false = refl
    both false false true = refl
    both false false false = refl

    step : (u : Bool) → (sinks x t || sinks x o) ≡ u
        → full (seen x (n + 1) t nothing) ≡ initialised x t false → full (seen x (n + 1 + whens t) o nothing) ≡ initialised x o false
        → full (cond u (joined acc n (seen x (n + 1) t nothing) (seen x (n + 1 + whens t) o nothing)) acc) ≡ (initialised x t (full acc) && initialised x o (full acc))
    step true s p q =
        joins (full (seen x (n + 1) t nothing) && full (seen x (n + 1 + whens t) o nothing)) n (seen x (n + 1) t nothing) (seen x (n + 1 + whens t) o nothing) refl
        ∙ rw (p, q) (both (initialised x t false) (initialised x o false) (full acc) ∙ rw (initialised_from x t (full acc), initialised_from x o (full acc)) refl)
    step false s p q =
        let v = or_parts (sinks x t) (sinks x o) s in
        rw (initialised_untouched x t (full acc) v.0, initialised_untouched x o (full acc) v.1) (same (full acc))
      where
        same : (z : Bool) → z ≡ (z && z)
        same true = refl
        same false = refl

-- what a body reads behind what was read
pub reads_untouched : (x y : ℕ) (b : Body) (a : Bool) → sinks x b ≡ false → reads x y b a ≡ a
reads_untouched x y done a h = refl
reads_untouched x y (declare z line reset rest) a h = reads_untouched x y rest a h
reads_untouched x y (set line z e rest) a h =
    let p = or_parts (nat_eq x z) (sinks x rest) h in
    rw p.0 (reads_untouched x y rest a p.1)
reads_untouched x y (when line c t o rest) a h =
    let p = or_parts (sinks x t || sinks x o) (sinks x rest) h in
    rw p.0 (reads_untouched x y rest a p.1)

-- the last write of all branches hides what was before
abbrev pub behind : Bool → Bool → Bool → Bool
behind full own a = cond full own (a || own)

pub reads_from : (x y : ℕ) (b : Body) (a : Bool) → reads x y b a ≡ behind (initialised x b false) (reads x y b false) a
reads_from x y done a = or_false a
  where
    or_false : (z : Bool) → z ≡ (z || false)
    or_false true = refl
    or_false false = refl
reads_from x y (declare z line reset rest) a = reads_from x y rest a
reads_from x y (set line z e rest) a = step (nat_eq x z) (reads_from x y rest)
  where
    true_full : (i : Bool) (p q : Bool) → (i ≡ (initialised x rest false || true)) → p ≡ behind i p q
    true_full true p q h = refl
    true_full false p q h = absurd (no_way (initialised x rest false) h)
      where
        no_way : (j : Bool) → false ≡ (j || true) → ⊥
        no_way true g = cc
        no_way false g = cc

    step : (t : Bool) → ((k : Bool) → reads x y rest k ≡ behind (initialised x rest false) (reads x y rest false) k)
        → reads x y rest (cond t (source_mentions e y) a) ≡ behind (initialised x rest (t || false)) (reads x y rest (cond t (source_mentions e y) false)) a
    step true r = true_full (initialised x rest true) (reads x y rest (source_mentions e y)) a (initialised_from x rest true)
    step false r = r a
reads_from x y (when line c t o rest) a =
    step (sinks x t || sinks x o) refl (reads_from x y t a) (reads_from x y o a) (reads_from x y rest)
  where
    algebra : (ir it io rr rt ro m : Bool) (b : Bool) → behind ir rr (m || (behind it rt b || behind io ro b)) ≡ behind (ir || (it && io)) (behind ir rr (m || (rt || ro))) b
    algebra true it io rr rt ro m b = refl
    algebra false true true rr rt ro m b = refl
    algebra false it io rr rt ro true true = four it io
      where
        four : (p q : Bool) → true ≡ behind (p && q) true true
        four true true = refl
        four true false = refl
        four false q = refl
    algebra false it io rr rt ro true false = four it io
      where
        four : (p q : Bool) → true ≡ behind (p && q) true false
        four true true = refl
        four true false = refl
        four false q = refl
    algebra false true false rr true ro false b = last b
      where
        last : (z : Bool) → true ≡ (z || true)
        last true = refl
        last false = refl
    algebra false true false rr false ro false true = refl
    algebra false true false rr false ro false false = refl
    algebra false false io rr rt ro false true = refl
    algebra false false true rr rt ro false false = refl
    algebra false false false rr rt ro false false = refl

    step : (u : Bool) → (sinks x t || sinks x o) ≡ u
        → reads x y t a ≡ behind (initialised x t false) (reads x y t false) a
        → reads x y o a ≡ behind (initialised x o false) (reads x y o false) a
        → ((k : Bool) → reads x y rest k ≡ behind (initialised x rest false) (reads x y rest false) k)
        → reads x y rest (cond u (mentions c y || (reads x y t a || reads x y o a)) a)
        ≡ behind (initialised x rest (initialised x t false && initialised x o false)) (reads x y rest (cond u (mentions c y || (reads x y t false || reads x y o false)) false)) a
    step true s p q r =
        rw (r (mentions c y || (reads x y t a || reads x y o a)), r (mentions c y || (reads x y t false || reads x y o false)), initialised_from x rest (initialised x t false && initialised x o false), p, q)
        (algebra (initialised x rest false) (initialised x t false) (initialised x o false) (reads x y rest false) (reads x y t false) (reads x y o false) (mentions c y) a)
    step false s p q r =
        let v = or_parts (sinks x t) (sinks x o) s in
        rw (initialised_untouched x t false v.0) (r a)
