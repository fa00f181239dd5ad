-- Signals in a row among all signals.
use Rattle.std.proofs.Common.{◌≡◌, ◌∙◌, ◌+◌, ◌<◌, ◌≤◌, sym, ap, ℕ, List, [], ◌++◌, length, refl, arith, append_assoc, length-append}
use Rattle.std.proofs.lemmas.List.{get_or_append_left, get_or-append-add}
use Rattle.net_core.specs.declared.tree.SignalInfo.{SignalInfo}
use Rattle.net_core.specs.Signals.{info, no_info}
use Rattle.flat_places.specs.Places.{Stands, SpansAppend}

pub stands_front : (signals : List SignalInfo) (first : ℕ) (xs ys : List SignalInfo) → Stands signals first (xs ++ ys) → Stands signals first xs
stands_front signals first xs ys s = record {
  before = s.before;
  behind = ys ++ s.behind;
  place = s.place;
  whole = s.whole ∙ ap (λ (t : List SignalInfo). s.before ++ t) (append_assoc xs ys s.behind);
}

pub stands_back : (signals : List SignalInfo) (first : ℕ) (xs ys : List SignalInfo) → Stands signals first (xs ++ ys) → Stands signals (first + length xs) ys
stands_back signals first xs ys s = record {
  before = s.before ++ xs;
  behind = s.behind;
  place = length-append s.before xs ∙ ap (λ n. n + length xs) s.place;
  whole = s.whole ∙ ap (λ (t : List SignalInfo). s.before ++ t) (append_assoc xs ys s.behind) ∙ sym (append_assoc s.before xs (ys ++ s.behind));
}

pub stands_twice : SpansAppend
stands_twice signals first xs ys s = (stands_front signals first xs ys s, stands_back signals first xs ys s)

pub stands_below : (signals : List SignalInfo) (first : ℕ) (part : List SignalInfo) → Stands signals first part → first + length part ≤ length signals
stands_below signals first part s =
    let a : length signals ≡ length (s.before ++ (part ++ s.behind)) = ap length s.whole in
    let b : length (s.before ++ (part ++ s.behind)) ≡ length s.before + length (part ++ s.behind) = length-append s.before (part ++ s.behind) in
    let c : length (part ++ s.behind) ≡ length part + length s.behind = length-append part s.behind in
    let p : length s.before ≡ first = s.place in
    omega (arith, a, b, c, p)

-- the k-th of them
pub stands_info : (signals : List SignalInfo) (first : ℕ) (part : List SignalInfo) (k : ℕ) → Stands signals first part → k < length part
    → info signals (first + k) ≡ info part k
stands_info signals first part k s h =
    ap (λ n. info signals (n + k)) (sym s.place)
    ∙ ap (λ (t : List SignalInfo). info t (length s.before + k)) s.whole
    ∙ get_or-append-add s.before (part ++ s.behind) k no_info
    ∙ get_or_append_left part s.behind no_info k h

pub stands_whole : (signals : List SignalInfo) → Stands signals 0 signals
stands_whole signals = record { before = []; behind = []; place = refl; whole = sym (Rattle.std.proofs.lemmas.List.append-nil signals) }
