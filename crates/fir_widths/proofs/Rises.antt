-- Widths that rise.
use Rattle.std.proofs.Common.{ℕ, Bool, true, false, ◌≡◌, ◌+◌, ◌<◌, ◌≤◌, ◌&&◌, List, [], ◌∷◌, length, get_or, set, refl, arith, if◌then◌else◌, subst, sym, take, ap, ◌∙◌, zero, suc, nat_lt}
use Rattle.std.proofs.lemmas.List.{take_all, length-set, get_or_default}
use Rattle.std.proofs.lemmas.Grind.{common_steps}
use Rattle.std.proofs.lemmas.List.Elements.{All-more}
use borrow.Author.Tests.{ltb-true}
use Rattle.std.proofs.lemmas.Bool.Decides.{nat_tests}
use Rattle.std.proofs.lemmas.Bool.{both_ways}
use Rattle.net_core.specs.declared.tree.SignalInfo.{SignalInfo}
use Rattle.net_core.specs.Signals.{info}
use Rattle.net_core.specs.Widths.{is_free, Below}
use Rattle.fir_widths.specs.declared.gather.Asked.{Asked}
use Rattle.fir_widths.specs.Raise.{need, rises, raised, slack, Grows, Met, MeetsAll}
use Rattle.fir_widths.proofs.ShapeFacts.{shape_rises, shape_cut}

pub need_rises : (signals : List SignalInfo) (r : Asked) (v w : List ℕ) → Below v w → need signals r v ≤ need signals r w
need_rises signals r v w b = (shape_rises signals v w b r.source.now).width

pub need_cut : (signals : List SignalInfo) (r : Asked) (w : List ℕ) → need signals r w ≤ 129
need_cut signals r w = shape_cut signals w r.source.now

pub slack-set : (w : List ℕ) (i v : ℕ) → i < length w → get_or w i 0 < v → v ≤ 129 → slack (set w i v) < slack w
slack-set [] i v p q r = omega arith
slack-set (x ∷ xs) zero v p q r = omega arith
slack-set (x ∷ xs) (suc i) v p q r = let h : slack (set xs i v) < slack xs = slack-set xs i v (omega arith) q r in omega arith

pub Below-refl : (v : List ℕ) → Below v v
Below-refl v = record { each = λ k. omega arith }

pub Below-trans : (u v w : List ℕ) → Below u v → Below v w → Below u w
Below-trans u v w p q = record { each = λ k. let a = p.each k in let b = q.each k in omega arith }

pub Grows-refl : (signals : List SignalInfo) (rules : List Asked) (v : List ℕ) → Grows signals rules v v
Grows-refl signals rules v = record { long = refl; higher = Below-refl v; lower = λ u m h. h; kept = λ x f. refl; slack = omega arith }

pub Grows-trans : (signals : List SignalInfo) (rules : List Asked) (u v w : List ℕ) → Grows signals rules u v → Grows signals rules v w → Grows signals rules u w
Grows-trans signals rules u v w p q = record {
  long = q.long ∙ p.long;
  higher = Below-trans u v w p.higher q.higher;
  lower = λ x m h. q.lower x m (p.lower x m h);
  kept = λ x f. q.kept x f ∙ p.kept x f;
  slack = omega (arith, p.slack, q.slack);
}

-- a write at one place
pub Below-set : (w : List ℕ) (i y : ℕ) → i < length w → get_or w i 0 ≤ y → Below w (set w i y)
Below-set w i y p q = record { each = λ k. grind (arith, common_steps, nat_tests) }

pub set-Below : (w u : List ℕ) (i y : ℕ) → i < length w → Below w u → y ≤ get_or u i 0 → Below (set w i y) u
set-Below w u i y p h q = record { each = λ k. let a = h.each k in grind (arith, common_steps, nat_tests) }

pub kept-set : (w : List ℕ) (i y k : ℕ) → i < length w → (k ≡ i → ⊥) → get_or (set w i y) k 0 ≡ get_or w k 0
kept-set w i y k p n = grind (arith, common_steps, nat_tests)

pub raised_by : (signals : List SignalInfo) (rules : List Asked) (r : Asked) (w : List ℕ) → r.sink < length w
    → ((u : List ℕ) → MeetsAll signals u rules → Met signals u r)
    → is_free (info signals r.sink) ≡ true → get_or w r.sink 0 < need signals r w → Grows signals rules w (set w r.sink (need signals r w))
raised_by signals rules r w f h t p = record {
  long = length-set w r.sink (need signals r w);
  higher = Below-set w r.sink (need signals r w) f (omega arith);
  lower = λ u m b.
      let e : need signals r w ≤ need signals r u = need_rises signals r w u b in
      let g : need signals r u ≤ get_or u r.sink 0 = h u m t in
      set-Below w u r.sink (need signals r w) f b (omega (arith, e, g));
  kept = λ x k. kept-set w r.sink (need signals r w) x f (λ e. both_ways (is_free (info signals x)) k (subst (λ y. is_free (info signals y) ≡ true) (sym e) t));
  slack = let s : slack (set w r.sink (need signals r w)) < slack w = slack-set w r.sink (need signals r w) f p (need_cut signals r w) in omega (arith, s);
}

-- the parts of the test
and_first : (a b : Bool) → (a && b) ≡ true → a ≡ true
and_first true b k = refl
and_first false b k = k

and_second : (a b : Bool) → (a && b) ≡ true → b ≡ true
and_second true b k = k
and_second false b k = cc

pub rises_free : (signals : List SignalInfo) (r : Asked) (w : List ℕ) → rises signals r w ≡ true → is_free (info signals r.sink) ≡ true
rises_free signals r w e = and_first (is_free (info signals r.sink)) _ e

pub rises_in : (signals : List SignalInfo) (r : Asked) (w : List ℕ) → rises signals r w ≡ true → r.sink < length w
rises_in signals r w e = ltb-true _ _ (and_first (nat_lt r.sink (length w)) _ (and_second (is_free (info signals r.sink)) _ e))

pub rises_low : (signals : List SignalInfo) (r : Asked) (w : List ℕ) → rises signals r w ≡ true → get_or w r.sink 0 < need signals r w
rises_low signals r w e = ltb-true _ _ (and_second (nat_lt r.sink (length w)) _ (and_second (is_free (info signals r.sink)) _ e))

pub slack-raised : (signals : List SignalInfo) (r : Asked) (w : List ℕ) → rises signals r w ≡ true → slack (raised signals r w) < slack w
slack-raised signals r w e = rw e (slack-set w r.sink (need signals r w) (rises_in signals r w e) (rises_low signals r w e) (need_cut signals r w))

pub Grows-raised : (signals : List SignalInfo) (rules : List Asked) (r : Asked) (w : List ℕ)
    → ((u : List ℕ) → MeetsAll signals u rules → Met signals u r) → Grows signals rules w (raised signals r w)
Grows-raised signals rules r w h = by_test (rises signals r w) refl where
  by_test : (b : Bool) → rises signals r w ≡ b → Grows signals rules w (if b then set w r.sink (need signals r w) else w)
  by_test true e = raised_by signals rules r w (rises_in signals r w e) h (rises_free signals r w e) (rises_low signals r w e)
  by_test false e = Grows-refl signals rules w

-- a free width is a signal's
pub free_in : (is : List SignalInfo) (x : ℕ) → is_free (info is x) ≡ true → x < length is
free_in [] x h = cc
free_in (i ∷ is) zero h = omega arith
free_in (i ∷ is) (suc x) h = let l : x < length is = free_in is x h in omega (arith, l)

pub met_unless : (signals : List SignalInfo) (r : Asked) (w : List ℕ) → length w ≡ length signals → rises signals r w ≡ false → Met signals w r
met_unless signals r w l e f =
    not_less (get_or w r.sink 0) (need signals r w)
    (second (nat_lt r.sink (length w)) _ (inside r.sink (length w) (subst (λ n. r.sink < n) (sym l) (free_in signals r.sink f)))
    (second (is_free (info signals r.sink)) _ f e))
  where
    second : (a b : Bool) → a ≡ true → (a && b) ≡ false → b ≡ false
    second true b h k = k
    second false b h k = cc

    inside : (a b : ℕ) → a < b → nat_lt a b ≡ true
    inside a b k = grind (arith, nat_tests)

    not_less : (a b : ℕ) → nat_lt a b ≡ false → b ≤ a
    not_less a b k = grind (arith, nat_tests)

pub met_at : (signals : List SignalInfo) (rules : List Asked) (i : ℕ) (r : Asked) (w : List ℕ) → length w ≡ length signals → i < length rules
    → r ≡ get_or rules i r → rises signals r w ≡ false → (d : Asked) → Met signals w (get_or rules i d)
met_at signals rules i r w l h e f d =
    subst (λ (s : Asked). Met signals w s) (e ∙ get_or_default rules i r d h) (met_unless signals r w l f)

-- the rule at a place, raised
pub grows_at : (signals : List SignalInfo) (rules : List Asked) (i : ℕ) (r : Asked) (w x : List ℕ) → i < length rules
    → r ≡ get_or rules i r → x ≡ raised signals r w → Grows signals rules w x
grows_at signals rules i r w x h e q =
    let g : Grows signals rules w (raised signals (get_or rules i r) w) = Grows-raised signals rules (get_or rules i r) w (λ u m. m i r h) in
    let P : List ℕ → Type 0 = λ y. Grows signals rules w y in subst P (sym (q ∙ ap (λ (t : Asked). raised signals t w) e)) g

pub slack_at : (signals : List SignalInfo) (r : Asked) (w x : List ℕ) → x ≡ raised signals r w → rises signals r w ≡ true → slack x < slack w
slack_at signals r w x q t =
    let g : slack (raised signals r w) < slack w = slack-raised signals r w t in
    let P : List ℕ → Type 0 = λ y. slack y < slack w in subst P (sym q) g

pub same_at : (signals : List SignalInfo) (r : Asked) (w x : List ℕ) → x ≡ raised signals r w → rises signals r w ≡ false → x ≡ w
same_at signals r w x q t = q ∙ ap (λ b. if b then set w r.sink (need signals r w) else w) t

pub met_more : (signals : List SignalInfo) (rules : List Asked) (w : List ℕ) (i : ℕ) → i < length rules → MeetsAll signals w (take i rules)
    → ((d : Asked) → Met signals w (get_or rules i d)) → MeetsAll signals w (take (i + 1) rules)
met_more signals rules w i h m here = λ k d p. All-more (Met signals w) rules i d h m (here d) k d p

pub met_next : (signals : List SignalInfo) (rules : List Asked) (w x : List ℕ) (i : ℕ) → i < length rules → x ≡ w → MeetsAll signals w (take i rules)
    → ((d : Asked) → Met signals w (get_or rules i d)) → MeetsAll signals x (take (i + 1) rules)
met_next signals rules w x i h e m here = let P : List ℕ → Type 0 = λ y. MeetsAll signals y (take (i + 1) rules) in subst P (sym e) (met_more signals rules w i h m here)

pub met_all : (signals : List SignalInfo) (rules : List Asked) (w : List ℕ) (n : ℕ) → length rules ≤ n → MeetsAll signals w (take n rules) → MeetsAll signals w rules
met_all signals rules w n h m = let P : List Asked → Type 0 = λ rs. MeetsAll signals w rs in subst P (take_all n rules h) m
