-- What the solver finds is the least.
use Rattle.std.proofs.Common.{◌≡◌, ◌∙◌, sym, ap, subst, ℕ, zero, suc, ◌<◌, ◌≤◌, true, false, List, [], ◌∷◌, ◌++◌, map, length, refl, arith, Option, Some, None, ⊎_elim, cond, option_map, Err}
use Rattle.std.specs.Prelude.{slice_index, IsErrOf}
use Rattle.std.specs.List.{All}
use Rattle.std.proofs.lemmas.List.{length-map}
use Rattle.std.proofs.lemmas.List.Elements.{All-nil, All-cons, All-head, All-tail, All-map}
use Rattle.std.proofs.lemmas.Bool.{cases_lt, cases_Bool}
use Rattle.net_core.specs.declared.tree.Elab.{Elab}
use Rattle.net_core.specs.declared.tree.SignalInfo.{SignalInfo}
use Rattle.net_core.specs.Signals.{info, given_width}
use Rattle.net_core.specs.Shapes.{shape}
use Rattle.net_core.specs.Body.{body_of}
use Rattle.net_core.specs.Widths.{Asked, sources, is_free, Meets, Below, IsLeast}
use Rattle.net_core.specs.WidthRules.{Use, uses, wide_signals, use_lines, is_wide, is_bad, least_line, lesser, first_rule, width_rule, WidthRule, too_wide, bad_range}
use Rattle.fir_widths.specs.declared.gather.Asked.{Asked as CodeAsked}
use Rattle.fir_widths.specs.Gathering.{asked_seen}
use Rattle.fir_widths.specs.Raise.{MeetsAll, Grows}
use Rattle.fir_widths.specs.Inferring.{lesser_of, fault_of}
use Rattle.fir_widths.specs.Least.{first_width}
use Rattle.fir_widths.specs.declared.inference.WidthFault.{WidthFault}
use Rattle.fir_widths.specs.declared.inference.WidthFault.TheVariants.{TooWide, BadRange}
use Rattle.fir_widths.proofs.Lines.{lesser_assoc}

-- from what is seen back to the code's list
unseen : (P : Asked → Type 0) (rs : List CodeAsked) → All P (asked_seen rs) → All (λ r. P (record { sink = r.sink; source = r.source.now })) rs
unseen P [] h = All-nil (λ r. P (record { sink = r.sink; source = r.source.now }))
unseen P (r ∷ rs) h = All-cons (λ r. P (record { sink = r.sink; source = r.source.now })) r rs (All-head P _ (asked_seen rs) h) (unseen P rs (All-tail P _ (asked_seen rs) h))

-- where a width starts
pub start_at : (is : List SignalInfo) (x : ℕ) → x < length is → slice_index (map first_width is) x ≡ first_width (info is x)
start_at [] x h = absurd (omega (arith, h))
start_at (i ∷ is) zero h = refl
start_at (i ∷ is) (suc x) h = start_at is x (less h)
  where
    less : suc x < suc (length is) → x < length is
    less p = omega (arith, p)

start_past : (is : List SignalInfo) (x : ℕ) → length is ≤ x → slice_index (map first_width is) x ≡ 0
start_past [] x h = refl
start_past (i ∷ is) zero h = absurd (omega (arith, h))
start_past (i ∷ is) (suc x) h = start_past is x (less h)
  where
    less : suc (length is) ≤ suc x → length is ≤ x
    less p = omega (arith, p)

pub fixed : (i : SignalInfo) → is_free i ≡ false → first_width i ≡ given_width i
fixed i h = ap (λ b. cond b 0 (given_width i)) h

loose : (i : SignalInfo) → is_free i ≡ true → first_width i ≡ 0
loose i h = ap (λ b. cond b 0 (given_width i)) h

pub below_start : (e : Elab) (v : List ℕ) → Meets e v → Below (map first_width e.signals) v
below_start e v m = record { each = λ x. ⊎_elim (inside x) (outside x) (cases_lt x (length e.signals)) }
  where
    low : (a b : ℕ) → a ≡ 0 → a ≤ b
    low a b h = omega (arith, h)

    same : (a b c : ℕ) → a ≡ b → c ≡ b → a ≤ c
    same a b c h k = omega (arith, h, k)

    outside : (x : ℕ) → length e.signals ≤ x → slice_index (map first_width e.signals) x ≤ slice_index v x
    outside x h = low _ _ (start_past e.signals x h)

    inside : (x : ℕ) → x < length e.signals → slice_index (map first_width e.signals) x ≤ slice_index v x
    inside x h = ⊎_elim
        (λ t. low _ _ (start_at e.signals x h ∙ loose (info e.signals x) t))
        (λ t. same _ _ _ (start_at e.signals x h ∙ fixed (info e.signals x) t) (m.written x h t))
        (cases_Bool (is_free (info e.signals x)))

-- the solver's result
pub is_least : (e : Elab) (rs : List CodeAsked) → asked_seen rs ≡ sources (body_of e.body) → (start w : List ℕ) → start ≡ map first_width e.signals
    → Grows e.signals rs start w → MeetsAll e.signals w rs → IsLeast e w
is_least e rs q start w s g m = record {
  long = g.long ∙ ap (λ (l : List ℕ). length l) s ∙ length-map e.signals first_width;
  meets = record {
    written = λ x h f. g.kept x f ∙ ap (λ (l : List ℕ). slice_index l x) s ∙ start_at e.signals x h ∙ fixed (info e.signals x) f;
    wide = subst (λ (l : List Asked). All (P w) l) q (All-map (P w) (λ r. record { sink = r.sink; source = r.source.now }) rs m);
  };
  least = λ v l n. g.lower v (unseen (P v) rs (subst (λ (t : List Asked). All (P v) t) (sym q) n.wide))
      (subst (λ (t : List ℕ). Below t v) (sym s) (below_start e v n));
}
  where
    P : List ℕ → Asked → Type 0
    P u a = is_free (info e.signals a.sink) ≡ true → (shape e.signals u a.source).width ≤ slice_index u a.sink

-- the rule, from the lines that were found
pub lines_append : (xs ys : List ℕ) → least_line (xs ++ ys) ≡ lesser_of (least_line xs) (least_line ys)
lines_append [] ys = refl
lines_append (x ∷ xs) ys = ap (λ (o : Option ℕ). lesser x o) (lines_append xs ys) ∙ sym (step (least_line xs))
  where
    step : (o : Option ℕ) → lesser_of (lesser x o) (least_line ys) ≡ lesser x (lesser_of o (least_line ys))
    step None = refl
    step (Some n) = lesser_assoc (Some x) n (least_line ys)

pub rule_found : (e : Elab) (w : List ℕ) (us : List Use) (start wide bad : Option ℕ) → us ≡ uses (body_of e.body)
    → start ≡ least_line (wide_signals e.signals w)
    → wide ≡ lesser_of start (least_line (use_lines (is_wide e.signals w) us)) → bad ≡ least_line (use_lines (is_bad e.signals w) us)
    → first_rule wide bad ≡ width_rule e w
rule_found e w us start wide bad q s h k =
    ap (λ o. first_rule o bad) (h ∙ ap (λ o. lesser_of o (least_line (use_lines (is_wide e.signals w) us))) s
    ∙ ap (λ (l : List Use). lesser_of (least_line (wide_signals e.signals w)) (least_line (use_lines (is_wide e.signals w) l))) q
    ∙ sym (lines_append (wide_signals e.signals w) (use_lines (is_wide e.signals w) (uses (body_of e.body)))))
    ∙ ap (λ o. first_rule (least_line (wide_signals e.signals w ++ use_lines (is_wide e.signals w) (uses (body_of e.body)))) o)
    (k ∙ ap (λ (l : List Use). least_line (use_lines (is_bad e.signals w) l)) q)

-- a fault tells of the rule
pub no_rule : (o : Option WidthRule) (f : Option WidthFault) → f ≡ option_map fault_of o → f ≡ None → o ≡ None
no_rule None f h k = refl
no_rule (Some r) f h k = cc

pub ruled_wide : (o : Option WidthRule) (f : Option WidthFault) (line : ℕ) → f ≡ option_map fault_of o → f ≡ Some (TooWide line) → o ≡ Some (too_wide line)
ruled_wide None f line h k = cc
ruled_wide (Some (too_wide n)) f line h k = cc
ruled_wide (Some (bad_range n)) f line h k = cc

pub ruled_bad : (o : Option WidthRule) (f : Option WidthFault) (line : ℕ) → f ≡ option_map fault_of o → f ≡ Some (BadRange line) → o ≡ Some (bad_range line)
ruled_bad None f line h k = cc
ruled_bad (Some (too_wide n)) f line h k = cc
ruled_bad (Some (bad_range n)) f line h k = cc

pub told : {T : Type 0} (x y : WidthFault) → IsErrOf {T = T} {E = WidthFault} (Err x) y → Some x ≡ Some y
told x y h = cc
