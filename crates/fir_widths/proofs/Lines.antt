-- The least of lines, found one after the other.
use Rattle.std.proofs.Common.{◌≡◌, ◌∙◌, sym, ap, ℕ, ◌+◌, ◌<◌, min, Bool, true, false, List, [], ◌∷◌, length, get_or, drop, drop-cons, add-one, refl, arith, cond, Option, Some, None, ◌==◌}
use Rattle.net_core.specs.declared.tree.SignalInfo.{SignalInfo}
use Rattle.net_core.specs.WidthRules.{Use, wide_signals, least_line, lesser, use_lines}
use Rattle.fir_widths.specs.declared.gather.Use.{Use as CodeUse}
use Rattle.fir_widths.specs.Gathering.{uses_seen}
use Rattle.fir_widths.specs.Inferring.{lesser_of}

pub lesser_assoc : (f : Option ℕ) (n : ℕ) (o : Option ℕ) → lesser_of (lesser_of f (Some n)) o ≡ lesser_of f (lesser n o)
lesser_assoc None n o = refl
lesser_assoc (Some m) n None = refl
lesser_assoc (Some m) n (Some k) = ap Some (assoc m n k)
  where
    assoc : (a b c : ℕ) → min (min a b) c ≡ min a (min b c)
    assoc a b c = omega arith

pub lesser_none : (o : Option ℕ) → lesser_of o None ≡ o
lesser_none None = refl
lesser_none (Some n) = refl

-- one line more, where a test says so
test_next : (b : Bool) (f g o : Option ℕ) (line : ℕ) → g ≡ cond b (lesser_of f (Some line)) f
    → lesser_of g o ≡ lesser_of f (cond b (lesser line o) o)
test_next true f g o line e = ap (λ (x : Option ℕ). lesser_of x o) e ∙ lesser_assoc f line o
test_next false f g o line e = ap (λ (x : Option ℕ). lesser_of x o) e

-- signals
pub wide_next : (is : List SignalInfo) (ws : List ℕ) (k n : ℕ) (i : SignalInfo) (f g w : Option ℕ) → k < length is → length ws ≡ length is
    → i ≡ get_or is k i → n ≡ get_or ws k n → g ≡ cond (n == 129) (lesser_of f (Some i.line)) f
    → lesser_of f (least_line (wide_signals (drop k is) (drop k ws))) ≡ w
    → lesser_of g (least_line (wide_signals (drop (k + 1) is) (drop (k + 1) ws))) ≡ w
wide_next is ws k n i f g w h l ei en eg ew =
    test_next (n == 129) f g (least_line (wide_signals (drop (k + 1) is) (drop (k + 1) ws))) i.line eg
    ∙ ap (λ (o : Option ℕ). lesser_of f o) (sym (split (n == 129) refl))
    ∙ ap (λ (xs : List SignalInfo). lesser_of f (least_line (wide_signals xs (n ∷ drop (k + 1) ws)))) (sym first_signal)
    ∙ ap (λ (ns : List ℕ). lesser_of f (least_line (wide_signals (drop k is) ns))) (sym first_width) ∙ ew
  where
    within : k < length ws
    within = omega (arith, h, l)

    first_signal : drop k is ≡ i ∷ drop (k + 1) is
    first_signal = rw (drop-cons is k i, ← ei, add-one k) refl

    first_width : drop k ws ≡ n ∷ drop (k + 1) ws
    first_width = rw (drop-cons ws k n within, ← en, add-one k) refl

    split : (b : Bool) → (n == 129) ≡ b
        → least_line (wide_signals (i ∷ drop (k + 1) is) (n ∷ drop (k + 1) ws)) ≡ cond b (lesser i.line (least_line (wide_signals (drop (k + 1) is) (drop (k + 1) ws)))) (least_line (wide_signals (drop (k + 1) is) (drop (k + 1) ws)))
    split true e = rw e refl
    split false e = rw e refl

-- uses
pub use_next : (test : Use → Bool) (us : List CodeUse) (k : ℕ) (u : CodeUse) (f g w : Option ℕ) → k < length us → u ≡ get_or us k u
    → g ≡ lesser_of f (least_line (use_lines test (uses_seen (u ∷ []))))
    → lesser_of f (least_line (use_lines test (uses_seen (drop k us)))) ≡ w
    → lesser_of g (least_line (use_lines test (uses_seen (drop (k + 1) us)))) ≡ w
use_next test us k u f g w h e eg ew =
    test_next (test (seen_one u)) f g _ u.line (eg ∙ one (test (seen_one u)) refl)
    ∙ ap (λ (o : Option ℕ). lesser_of f o) (sym (split (test (seen_one u)) refl))
    ∙ ap (λ (xs : List CodeUse). lesser_of f (least_line (use_lines test (uses_seen xs)))) (sym first) ∙ ew
  where
    seen_one : CodeUse → Use
    seen_one v = record { line = v.line; expr = v.expr.now; condition = v.condition }

    first : drop k us ≡ u ∷ drop (k + 1) us
    first = rw (drop-cons us k u, ← e, add-one k) refl

    one : (b : Bool) → test (seen_one u) ≡ b → lesser_of f (least_line (use_lines test (uses_seen (u ∷ [])))) ≡ cond b (lesser_of f (Some u.line)) f
    one true q = rw q refl
    one false q = rw q (lesser_none f)

    split : (b : Bool) → test (seen_one u) ≡ b
        → least_line (use_lines test (uses_seen (u ∷ drop (k + 1) us))) ≡ cond b (lesser u.line (least_line (use_lines test (uses_seen (drop (k + 1) us))))) (least_line (use_lines test (uses_seen (drop (k + 1) us))))
    split true q = rw q refl
    split false q = rw q refl
