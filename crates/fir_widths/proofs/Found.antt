-- The rounds find the least widths, and there are no others.
use Rattle.std.proofs.Common.{◌≡◌, ◌∙◌, sym, ap, subst, ℕ, zero, suc, ◌*◌, ◌<◌, ◌≤◌, max, Bool, true, false, List, [], ◌∷◌, map, length, get_or, set, refl, arith, if◌then◌else◌, ◌⊎◌, inl, inr}
use Rattle.std.specs.Prelude.{slice_index}
use Rattle.std.specs.List.{All}
use Rattle.std.proofs.lemmas.List.{length-set, length-map, set-get_or}
use Rattle.std.proofs.lemmas.List.Elements.{All-nil, All-cons, All-head, All-tail}
use Rattle.std.proofs.lemmas.Bool.{both_ways, cases_lt}
use Rattle.net_core.specs.declared.tree.SignalInfo.{SignalInfo}
use Rattle.net_core.specs.declared.tree.Elab.{Elab}
use Rattle.net_core.specs.Signals.{info}
use Rattle.net_core.specs.Shapes.{shape}
use Rattle.net_core.specs.Body.{body_of}
use Rattle.net_core.specs.Widths.{Asked, sources, is_free, Below, IsLeast}
use Rattle.fir_widths.specs.Raise.{slack}
use Rattle.fir_widths.specs.Least.{first_width, raised, round, rounds, least_widths}
use Rattle.fir_widths.proofs.ShapeFacts.{shape_rises, shape_cut}
use Rattle.fir_widths.proofs.Rises.{slack-set, set-Below, kept-set, free_in}
use Rattle.fir_widths.proofs.LeastFacts.{start_at, fixed, below_start}

-- the width of the source
abbrev source_width : List SignalInfo → Asked → List ℕ → ℕ
source_width is a w = (shape is w a.source).width

abbrev Met : List SignalInfo → List ℕ → Asked → Type 0
Met is w a = is_free (info is a.sink) ≡ true → source_width is a w ≤ slice_index w a.sink

abbrev MetAll : List SignalInfo → List ℕ → List Asked → Type 0
MetAll is w rs = All (Met is w) rs

-- w is v with some free widths raised, none above what each solution over v has
record Risen (is : List SignalInfo) (rs : List Asked) (v w : List ℕ) : Type 0 where
  pub long : length w ≡ length v
  pub lower : (u : List ℕ) → MetAll is u rs → Below v u → Below w u
  pub kept : (x : ℕ) → is_free (info is x) ≡ false → slice_index w x ≡ slice_index v x

Risen-refl : (is : List SignalInfo) (rs : List Asked) (v : List ℕ) → Risen is rs v v
Risen-refl is rs v = record { long = refl; lower = λ u m b. b; kept = λ x f. refl }

Risen-trans : (is : List SignalInfo) (rs : List Asked) (u v w : List ℕ) → Risen is rs u v → Risen is rs v w → Risen is rs u w
Risen-trans is rs u v w p q = record {
  long = q.long ∙ p.long;
  lower = λ x m b. q.lower x m (p.lower x m b);
  kept = λ x f. q.kept x f ∙ p.kept x f;
}

-- nothing moves and this holds, or a width rises
abbrev Moves : List ℕ → List ℕ → Type 0 → Type 0
Moves v w P = ((w ≡ v) × P) ⊎ (slack w < slack v)

-- a width at a place, at least n
abbrev up_to : List ℕ → ℕ → ℕ → List ℕ
up_to w i n = set w i (max (get_or w i 0) n)

place_below : (is : List SignalInfo) (w : List ℕ) (x : ℕ) → length w ≡ length is → is_free (info is x) ≡ true → x < length w
place_below is w x l t = subst (λ n. x < n) (sym l) (free_in is x t)

larger : (a n : ℕ) → n ≤ a → max a n ≡ a
larger a n h = omega (arith, h)

other : (a n : ℕ) → a < n → max a n ≡ n
other a n h = omega (arith, h)

both_low : (a n m b : ℕ) → a ≤ b → n ≤ m → m ≤ b → max a n ≤ b
both_low a n m b p q r = omega (arith, p, q, r)

-- ---- one connect
up_risen : (is : List SignalInfo) (all : List Asked) (a : Asked) (w : List ℕ) → length w ≡ length is → ((u : List ℕ) → MetAll is u all → Met is u a)
    → is_free (info is a.sink) ≡ true → Risen is all w (up_to w a.sink (source_width is a w))
up_risen is all a w l h t = record {
  long = length-set w a.sink _;
  lower = λ u m b. set-Below w u a.sink _ (place_below is w a.sink l t) b
      (both_low (get_or w a.sink 0) (source_width is a w) (source_width is a u) (get_or u a.sink 0) (b.each a.sink) (shape_rises is w u b a.source).width (h u m t));
  kept = λ x f. kept-set w a.sink _ x (place_below is w a.sink l t)
      (λ e. both_ways (is_free (info is x)) f (subst (λ y. is_free (info is y) ≡ true) (sym e) t));
}

raised_risen : (is : List SignalInfo) (all : List Asked) (a : Asked) (w : List ℕ) → length w ≡ length is → ((u : List ℕ) → MetAll is u all → Met is u a)
    → Risen is all w (raised is a w)
raised_risen is all a w l h = by_test (is_free (info is a.sink)) refl
  where
    by_test : (b : Bool) → is_free (info is a.sink) ≡ b → Risen is all w (if b then up_to w a.sink (source_width is a w) else w)
    by_test true t = up_risen is all a w l h t
    by_test false t = Risen-refl is all w

up_moves : (w : List ℕ) (i n : ℕ) → i < length w → n ≤ 129 → Moves w (up_to w i n) (n ≤ get_or w i 0)
up_moves w i n h c = step (cases_lt (get_or w i 0) n)
  where
    step : (get_or w i 0 < n) ⊎ (n ≤ get_or w i 0) → Moves w (up_to w i n) (n ≤ get_or w i 0)
    step (inl p) = inr (subst (λ m. slack (set w i m) < slack w) (sym (other (get_or w i 0) n p)) (slack-set w i n h p c))
    step (inr p) = inl (ap (λ m. set w i m) (larger (get_or w i 0) n p) ∙ set-get_or w i 0, p)

raised_moves : (is : List SignalInfo) (a : Asked) (w : List ℕ) → length w ≡ length is → Moves w (raised is a w) (Met is w a)
raised_moves is a w l = by_test (is_free (info is a.sink)) refl
  where
    met : Moves w (up_to w a.sink (source_width is a w)) (source_width is a w ≤ get_or w a.sink 0)
        → Moves w (up_to w a.sink (source_width is a w)) (Met is w a)
    met (inl p) = inl (p.0, λ t. p.1)
    met (inr p) = inr p

    by_test : (b : Bool) → is_free (info is a.sink) ≡ b → Moves w (if b then up_to w a.sink (source_width is a w) else w) (Met is w a)
    by_test true t = met (up_moves w a.sink (source_width is a w) (place_below is w a.sink l t) (shape_cut is w a.source))
    by_test false t = inl (refl, λ k. absurd (both_ways (is_free (info is a.sink)) t k))

-- ---- a round
round_risen : (is : List SignalInfo) (all rs : List Asked) (w : List ℕ) → length w ≡ length is → ((u : List ℕ) → MetAll is u all → MetAll is u rs)
    → Risen is all w (round is rs w)
round_risen is all [] w l h = Risen-refl is all w
round_risen is all (a ∷ rs) w l h =
    let g : Risen is all w (raised is a w) = raised_risen is all a w l (λ u m. All-head (Met is u) a rs (h u m)) in
    Risen-trans is all w (raised is a w) (round is rs (raised is a w)) g
    (round_risen is all rs (raised is a w) (g.long ∙ l) (λ u m. All-tail (Met is u) a rs (h u m)))

round_moves : (is : List SignalInfo) (rs : List Asked) (w : List ℕ) → length w ≡ length is → Moves w (round is rs w) (MetAll is w rs)
round_moves is [] w l = inl (refl, All-nil (Met is w))
round_moves is (a ∷ rs) w l = step (raised is a w) (raised_moves is a w l) (round_moves is rs (raised is a w) long)
  where
    long : length (raised is a w) ≡ length is
    long = (raised_risen is (a ∷ []) a w l (λ u m. All-head (Met is u) a [] m)).long ∙ l

    less : (x y z : ℕ) → x < y → y < z → x < z
    less x y z p q = omega (arith, p, q)

    same : Met is w a → Moves w (round is rs w) (MetAll is w rs) → Moves w (round is rs w) (MetAll is w (a ∷ rs))
    same m (inl p) = inl (p.0, All-cons (Met is w) a rs m p.1)
    same m (inr p) = inr p

    fell : (v : List ℕ) → slack v < slack w → Moves v (round is rs v) (MetAll is v rs) → Moves w (round is rs v) (MetAll is w (a ∷ rs))
    fell v f (inl p) = inr (subst (λ (x : List ℕ). slack x < slack w) (sym p.0) f)
    fell v f (inr p) = inr (less (slack (round is rs v)) (slack v) (slack w) p f)

    step : (v : List ℕ) → Moves w v (Met is w a) → Moves v (round is rs v) (MetAll is v rs) → Moves w (round is rs v) (MetAll is w (a ∷ rs))
    step v (inl p) q = subst (λ (x : List ℕ). Moves w (round is rs x) (MetAll is w (a ∷ rs))) (sym p.0)
        (same p.1 (subst (λ (x : List ℕ). Moves x (round is rs x) (MetAll is x rs)) p.0 q))
    step v (inr p) q = fell v p q

-- ---- rounds
abbrev asks : Elab → List Asked
asks e = sources (body_of e.body)

abbrev once : Elab → List ℕ → List ℕ
once e w = round e.signals (asks e) w

once_risen : (e : Elab) (w : List ℕ) → length w ≡ length e.signals → Risen e.signals (asks e) w (once e w)
once_risen e w l = round_risen e.signals (asks e) (asks e) w l (λ u m. m)

rounds_risen : (n : ℕ) (e : Elab) (w : List ℕ) → length w ≡ length e.signals → Risen e.signals (asks e) w (rounds n e w)
rounds_risen zero e w l = Risen-refl e.signals (asks e) w
rounds_risen (suc n) e w l =
    let g : Risen e.signals (asks e) w (once e w) = once_risen e w l in
    Risen-trans e.signals (asks e) w (once e w) (rounds n e (once e w)) g (rounds_risen n e (once e w) (g.long ∙ l))

rounds_still : (n : ℕ) (e : Elab) (w : List ℕ) → once e w ≡ w → rounds n e w ≡ w
rounds_still zero e w h = refl
rounds_still (suc n) e w h = ap (λ (x : List ℕ). rounds n e x) h ∙ rounds_still n e w h

rounds_met : (n : ℕ) (e : Elab) (w : List ℕ) → length w ≡ length e.signals → slack w ≤ n → MetAll e.signals (rounds n e w) (asks e)
rounds_met zero e w l h = step (round_moves e.signals (asks e) w l)
  where
    step : Moves w (once e w) (MetAll e.signals w (asks e)) → MetAll e.signals w (asks e)
    step (inl p) = p.1
    step (inr p) = absurd (omega (arith, p, h))
rounds_met (suc n) e w l h =
    step (round_moves e.signals (asks e) w l) (λ k. rounds_met n e (once e w) ((once_risen e w l).long ∙ l) (less (slack (once e w)) (slack w) k h))
  where
    less : (a b : ℕ) → a < b → b ≤ suc n → a ≤ n
    less a b p q = omega (arith, p, q)

    step : Moves w (once e w) (MetAll e.signals w (asks e)) → (slack (once e w) < slack w → MetAll e.signals (rounds n e (once e w)) (asks e))
        → MetAll e.signals (rounds n e (once e w)) (asks e)
    step (inl p) go = subst (λ (x : List ℕ). MetAll e.signals x (asks e)) (sym (ap (λ (x : List ℕ). rounds n e x) p.0 ∙ rounds_still n e w p.0)) p.1
    step (inr p) go = go p

slack_most : (w : List ℕ) → slack w ≤ 129 * length w
slack_most [] = omega arith
slack_most (n ∷ w) = let h : slack w ≤ 129 * length w = slack_most w in omega (arith, h)

-- ---- the least widths
pub least_found : (e : Elab) → IsLeast e (least_widths e)
least_found e = record {
  long = g.long ∙ long;
  meets = record {
    written = λ x h f. g.kept x f ∙ start_at e.signals x h ∙ fixed (info e.signals x) f;
    wide = rounds_met (129 * length e.signals) e start long (subst (λ n. slack start ≤ 129 * n) long (slack_most start));
  };
  least = λ v l m. g.lower v m.wide (below_start e v m);
}
  where
    start : List ℕ
    start = map first_width e.signals

    long : length start ≡ length e.signals
    long = length-map e.signals first_width

    g : Risen e.signals (asks e) start (least_widths e)
    g = rounds_risen (129 * length e.signals) e start long

same_lists : (v w : List ℕ) → length v ≡ length w → ((x : ℕ) → slice_index v x ≡ slice_index w x) → v ≡ w
same_lists [] [] l h = refl
same_lists [] (n ∷ w) l h = absurd (omega (arith, l))
same_lists (m ∷ v) [] l h = absurd (omega (arith, l))
same_lists (m ∷ v) (n ∷ w) l h =
    ap (λ a. a ∷ v) (h 0) ∙ ap (λ (r : List ℕ). n ∷ r) (same_lists v w (less l) (λ x. h (suc x)))
  where
    less : suc (length v) ≡ suc (length w) → length v ≡ length w
    less p = omega (arith, p)

pub least_one : (e : Elab) (w : List ℕ) → IsLeast e w → w ≡ least_widths e
least_one e w i = one (least_widths e) (least_found e)
  where
    level : (a b : ℕ) → a ≤ b → b ≤ a → a ≡ b
    level a b p q = omega (arith, p, q)

    one : (v : List ℕ) → IsLeast e v → w ≡ v
    one v j = same_lists w v (i.long ∙ sym j.long)
        (λ x. level (slice_index w x) (slice_index v x) ((i.least v j.long j.meets).each x) ((j.least w i.long i.meets).each x))
