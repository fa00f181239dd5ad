-- The least place of the lines of all rules.
use Rattle.std.proofs.Common.{ℕ, zero, suc, ◌≡◌, ◌<◌, ◌≤◌, true, false, cond, nat_le, Option, Some, None, option_map, List, [], ◌∷◌, ◌++◌, map, refl, sym, ap, ◌∙◌, arith}
use Rattle.std.specs.Prelude.{flat_map}
use Rattle.std.proofs.lemmas.Bool.Decides.{nat_tests}
use Rattle.fir_check.specs.declared.best.Rule.{Rule}
use Rattle.fir_check.specs.declared.best.Rule.TheVariants.{NoMain, DoubleName, UnknownName, WrongKind, WrongFlow, ClockUse, InstanceCycle}
use Rattle.fir_check.specs.declared.best.Break.{Break}
use Rattle.fir_check.specs.Rules.{earlier, first_break, all_rules}
use Rattle.fir_check.specs.Places.{rank, place, place_of, place_seen, break_seen, lower, least, least_over, lowered}

-- lists of places

pub lower-swap : (p q : ℕ) (o : Option ℕ) → lower p (lower q o) ≡ lower q (lower p o)
lower-swap p q None = ap Some (omega arith)
lower-swap p q (Some r) = ap Some (omega arith)

pub lower-least : (p : ℕ) (o : Option ℕ) (xs : List ℕ) → lower p (least o xs) ≡ least (lower p o) xs
lower-least p o [] = refl
lower-least p o (x ∷ xs) = lower-swap p x (least o xs) ∙ ap (lower x) (lower-least p o xs)

pub least-append : (o : Option ℕ) (xs ys : List ℕ) → least o (xs ++ ys) ≡ least (least o xs) ys
least-append o [] ys = refl
least-append o (x ∷ xs) ys = ap (lower x) (least-append o xs ys) ∙ lower-least x (least o xs) ys

pub least-swap : (o : Option ℕ) (xs ys : List ℕ) → least (least o xs) ys ≡ least (least o ys) xs
least-swap o xs [] = refl
least-swap o xs (y ∷ ys) = ap (lower y) (least-swap o xs ys) ∙ lower-least y (least o ys) xs

-- lines of rules

pub map-append : (f : ℕ → ℕ) (xs ys : List ℕ) → map f (xs ++ ys) ≡ map f xs ++ map f ys
map-append f [] ys = refl
map-append f (x ∷ xs) ys = ap (λ t. f x ∷ t) (map-append f xs ys)

pub over-least : (o : Option ℕ) (ps : List ℕ) (f : Rule → List ℕ) (rs : List Rule) → least_over (least o ps) f rs ≡ least (least_over o f rs) ps
over-least o ps f [] = refl
over-least o ps f (r ∷ rs) = ap (λ b. least b (map (place r) (f r))) (over-least o ps f rs) ∙ least-swap (least_over o f rs) ps (map (place r) (f r))

pub over-both : (o : Option ℕ) (f g : Rule → List ℕ) (rs : List Rule) → least_over (least_over o f rs) g rs ≡ least_over o (λ r. f r ++ g r) rs
over-both o f g [] = refl
over-both o f g (r ∷ rs) =
    ap (λ b. least b (map (place r) (g r))) (over-least (least_over o f rs) (map (place r) (f r)) g rs ∙ ap (λ b. least b (map (place r) (f r))) (over-both o f g rs))
    ∙ sym (least-append (least_over o (λ x. f x ++ g x) rs) (map (place r) (f r)) (map (place r) (g r)))
    ∙ ap (least (least_over o (λ x. f x ++ g x) rs)) (sym (map-append (place r) (f r) (g r)))

pub over-same : (o : Option ℕ) (f g : Rule → List ℕ) (rs : List Rule) → ((r : Rule) → f r ≡ g r) → least_over o f rs ≡ least_over o g rs
over-same o f g [] e = refl
over-same o f g (r ∷ rs) e = ap (λ b. least b (map (place r) (f r))) (over-same o f g rs e) ∙ ap (λ ls. least (least_over o g rs) (map (place r) ls)) (e r)

-- one part after another
pub lowered-both : (o m n : Option ℕ) (f g : Rule → List ℕ) → m ≡ lowered o f → n ≡ lowered m g → n ≡ lowered o (λ r. f r ++ g r)
lowered-both o m n f g p q = q ∙ ap (λ b. lowered b g) p ∙ over-both o f g all_rules

pub lowered-same : (o n : Option ℕ) (f g : Rule → List ℕ) → n ≡ lowered o f → ((r : Rule) → f r ≡ g r) → n ≡ lowered o g
lowered-same o n f g p e = p ∙ over-same o f g all_rules e

-- a rule's place says which it is

unfoldable pub rule_at : ℕ → Rule
rule_at zero = NoMain
rule_at (suc zero) = DoubleName
rule_at (suc (suc zero)) = UnknownName
rule_at (suc (suc (suc zero))) = WrongKind
rule_at (suc (suc (suc (suc zero)))) = WrongFlow
rule_at (suc (suc (suc (suc (suc zero))))) = ClockUse
rule_at (suc (suc (suc (suc (suc (suc n)))))) = InstanceCycle

pub rule-ranked : (r : Rule) → rule_at (rank r) ≡ r
unfolding rule_at
rule-ranked NoMain = refl
rule-ranked DoubleName = refl
rule-ranked UnknownName = refl
rule-ranked WrongKind = refl
rule-ranked WrongFlow = refl
rule-ranked ClockUse = refl
rule-ranked InstanceCycle = refl

pub rank-low : (r : Rule) → rank r < 8
rank-low NoMain = omega arith
rank-low DoubleName = omega arith
rank-low UnknownName = omega arith
rank-low WrongKind = omega arith
rank-low WrongFlow = omega arith
rank-low ClockUse = omega arith
rank-low InstanceCycle = omega arith

pub place-same : (a b : Rule × ℕ) → place_of a ≡ place_of b → a ≡ b
place-same a b e =
    let p : rank a.0 < 8 = rank-low a.0 in
    let q : rank b.0 < 8 = rank-low b.0 in
    let l : a.1 ≡ b.1 = omega arith in
    let k : rank a.0 ≡ rank b.0 = omega arith in
    let r : a.0 ≡ b.0 = sym (rule-ranked a.0) ∙ ap rule_at k ∙ rule-ranked b.0 in
    ap (λ x. (x, a.1)) r ∙ ap (λ x. (b.0, x)) l

pub places-same : (a b : Option (Rule × ℕ)) → option_map place_of a ≡ option_map place_of b → a ≡ b
places-same None None e = refl
places-same None (Some b) e = cc
places-same (Some a) None e = cc
places-same (Some a) (Some b) e = let k : place_of a ≡ place_of b = cc in ap Some (place-same a b k)

-- the first break has the least place, where the rules come in their order

From : ℕ → Option (Rule × ℕ) → Type 0
From n None = Unit {0}
From n (Some b) = n ≤ rank b.0

from-weaker : (n m : ℕ) (o : Option (Rule × ℕ)) → m ≤ n → From n o → From m o
unfolding From
from-weaker n m None h p = tt
from-weaker n m (Some b) h p = omega arith

earlier-place : (r : Rule) (l : ℕ) (o : Option (Rule × ℕ)) → From (rank r) o → option_map place_of (earlier (r, l) o) ≡ lower (place r l) (option_map place_of o)
unfolding From
earlier-place r l None h = refl
earlier-place r l (Some o) h =
    let p : rank r < 8 = rank-low r in
    let q : rank o.0 < 8 = rank-low o.0 in
    grind (arith, nat_tests)

earlier-from : (r : Rule) (l : ℕ) (o : Option (Rule × ℕ)) → From (rank r) o → From (rank r) (earlier (r, l) o)
unfolding From
earlier-from r l None h = omega arith
earlier-from r l (Some o) h = elim (nat_le l o.1) as (λ b. From (rank r) (cond b (Some (r, l)) (Some o))) [ true ↦ omega arith | false ↦ h ]

record First (n : ℕ) (places : Option ℕ) (bs : List (Rule × ℕ)) : Type 0 where
  from : From n (first_break bs)
  is : option_map place_of (first_break bs) ≡ places

chunk : (r : Rule) (n : ℕ) (places : Option ℕ) (ls : List ℕ) (bs : List (Rule × ℕ)) → rank r ≤ n → First n places bs → First (rank r) (least places (map (place r) ls)) (map (λ line. (r, line)) ls ++ bs)
chunk r n places [] bs h f = record { from = from-weaker n (rank r) (first_break bs) h f.from; is = f.is }
chunk r n places (l ∷ ls) bs h f =
    let k : First (rank r) (least places (map (place r) ls)) (map (λ line. (r, line)) ls ++ bs) = chunk r n places ls bs h f in
    record {
      from = earlier-from r l _ k.from;
      is = earlier-place r l _ k.from ∙ ap (lower (place r l)) k.is;
    }

abbrev breaks : (Rule → List ℕ) → List Rule → List (Rule × ℕ)
breaks lines rules = flat_map (λ rule. map (λ line. (rule, line)) (lines rule)) rules

all_first : (lines : Rule → List ℕ) → First 0 (lowered None lines) (breaks lines all_rules)
unfolding From
all_first lines =
    chunk NoMain _ _ (lines NoMain) _ (omega arith) (
    chunk DoubleName _ _ (lines DoubleName) _ (omega arith) (
    chunk UnknownName _ _ (lines UnknownName) _ (omega arith) (
    chunk WrongKind _ _ (lines WrongKind) _ (omega arith) (
    chunk WrongFlow _ _ (lines WrongFlow) _ (omega arith) (
    chunk ClockUse _ _ (lines ClockUse) _ (omega arith) (
    chunk InstanceCycle 6 _ (lines InstanceCycle) _ (omega arith) (record { from = tt; is = refl })))))))

-- the least place of all lines that break a rule is that of the first break
pub least_first : (lines : Rule → List ℕ) → option_map place_of (first_break (breaks lines all_rules)) ≡ lowered None lines
least_first lines = (all_first lines).is

seen-map : (o : Option Break) → option_map place_of (option_map break_seen o) ≡ option_map place_seen o
seen-map None = refl
seen-map (Some b) = refl

pub decided : (lines : Rule → List ℕ) (found : Option Break) → option_map place_seen found ≡ lowered None lines → option_map break_seen found ≡ first_break (breaks lines all_rules)
decided lines found e = places-same (option_map break_seen found) (first_break (breaks lines all_rules)) (seen-map found ∙ e ∙ sym (least_first lines))
