-- The invariants of the walk: what is left of the block gives what the whole block gives.
use Rattle.std.proofs.Common.{◌≡◌, ◌∙◌, sym, ap, subst, ℕ, ◌+◌, ◌<◌, ◌≤◌, ◌++◌, List, [], ◌∷◌, Option, Some, None, true, cond, nat_eq, length, arith, length-append, append_assoc, refl, drop, get_or, drop-cons, add-one, ⊎_elim}
use Rattle.std.proofs.lemmas.Bool.{cases_order, le-ltb, lt-ltb, eq-eqb, ne_eqb}
use Rattle.std.specs.Ordering.{nat_cmp}
use Rattle.std.specs.BTreeMap.{is_at}
use Rattle.net_core.specs.declared.tree.GroundExpr.{GroundExpr}
use Rattle.net_core.specs.declared.tree.Choice.TheVariants.{Take}
use Rattle.net_core.specs.Body.{body_of, Body, declare, set, when, whens, conditions}
use Rattle.net_core.proofs.Trees.{of_declare, of_set, of_when}
use Rattle.net_resolve.proofs.BodyCounts.{length-conditions}
use Rattle.net_core.specs.declared.ports.Signal.{Signal}
use Rattle.net_core.specs.declared.tree.Ground.{Ground}
use Rattle.net_core.specs.declared.tree.GroundReset.{GroundReset}
use Rattle.net_core.specs.declared.tree.Ground.TheVariants.{Declare, Set, When}
use Rattle.net_resolve.specs.declared.join.Found.{Found}
use Rattle.net_resolve.specs.Joint.{joint_at}
use Rattle.net_resolve.specs.Walk.{kept, found, leaving, inner}

pub record Leaves (q : ℕ) (whole left : Body) (map table map-now table-now : Option Found) : Type 0 where
  pub in_map : kept q left map-now ≡ kept q whole map
  pub in_table : leaving q left map-now table-now ≡ leaving q whole map table

pub record Walks (first : ℕ) (whole left : Body) (conds conds-now : List GroundExpr) (map-now table table-now : ℕ → Option Found) : Type 0 where
  pub asked : conds-now ++ conditions left ≡ conds ++ conditions whole
  pub in_map : (q : ℕ) → found q (first + length conds-now) left (map-now q) ≡ found q (first + length conds) whole None
  pub in_table : (q : ℕ) → inner q (first + length conds-now) left (table-now q) ≡ inner q (first + length conds) whole (table q)
  pub room : length conds-now + whens left ≡ length conds + whens whole

pub after_declare : {first y line : ℕ} {reset : Option GroundReset} {whole rest left : Body} {conds now : List GroundExpr} {m t tn : ℕ → Option Found}
    → Walks first whole left conds now m t tn → left ≡ declare y line reset rest → Walks first whole rest conds now m t tn
after_declare {first} {y} {line} {reset} {whole} {rest} {left} {conds} {now} {m} {t} {tn} w e =
    let v = subst (λ l. Walks first whole l conds now m t tn) e w in
    record { asked = v.asked; in_map = v.in_map; in_table = v.in_table; room = v.room }

pub after_set : {first y line : ℕ} {whole rest left : Body} {e : Option GroundExpr} {conds now : List GroundExpr} {m t tn : ℕ → Option Found} (m' : ℕ → Option Found)
    → Walks first whole left conds now m t tn → left ≡ set line y e rest
    → ((q : ℕ) → m' q ≡ cond (nat_eq q y) (Some (record { full = true; choices = Take e ∷ [] })) (m q))
    → Walks first whole rest conds now m' t tn
after_set {first} {y} {line} {whole} {rest} {left} {e = x} {conds} {now} {m} {t} {tn} m' w e h =
    let v = subst (λ l. Walks first whole l conds now m t tn) e w in
    record { asked = v.asked; in_map = λ q. ap (found q (first + length now) rest) (h q) ∙ v.in_map q; in_table = v.in_table; room = v.room }

pub after_when : {first k line : ℕ} {whole T O rest left : Body} {c : GroundExpr} {conds now now-1 now-2 now-3 : List GroundExpr} {m t tn : ℕ → Option Found} (found-yes found-no t-1 t-2 m' : ℕ → Option Found)
    → Walks first whole left conds now m t tn → left ≡ when line c T O rest
    → k ≡ first + length now
    → now-1 ≡ now ++ c ∷ [] → now-2 ≡ now-1 ++ conditions T → now-3 ≡ now-2 ++ conditions O
    → ((q : ℕ) → found-yes q ≡ kept q T (found q (first + length now-1) T None))
    → ((q : ℕ) → t-1 q ≡ leaving q T (found q (first + length now-1) T None) (inner q (first + length now-1) T (tn q)))
    → ((q : ℕ) → found-no q ≡ kept q O (found q (first + length now-2) O None))
    → ((q : ℕ) → t-2 q ≡ leaving q O (found q (first + length now-2) O None) (inner q (first + length now-2) O (t-1 q)))
    → ((q : ℕ) → m' q ≡ joint_at k (found-yes q) (found-no q) (m q))
    → Walks first whole rest conds now-3 m' t t-2
after_when {first} {k} {line} {whole} {T} {O} {rest} {left} {c} {conds} {now} {now-1} {now-2} {now-3} {m} {t} {tn} found-yes found-no t-1 t-2 m' w e ke e1 e2 e3 hy h1 hn h2 hm =
    let v = subst (λ l. Walks first whole l conds now m t tn) e w in
    let n1 : first + length now-1 ≡ first + length now + 1 = omega (arith, ap length e1, length-append now (c ∷ [])) in
    let n2 : first + length now-2 ≡ first + length now + 1 + whens T = omega (arith, n1, ap length e2, length-append now-1 (conditions T), length-conditions T) in
    let n3 : first + length now-3 ≡ first + length now + 1 + whens T + whens O = omega (arith, n2, ap length e3, length-append now-2 (conditions O), length-conditions O) in
    record {
      asked = rw (e3, e2, e1) (simp append_assoc v.asked);
      in_map = λ q. rw (n3, hm q, ke, hy q, hn q, n1, n2) (v.in_map q);
      in_table = λ q. rw (n3, h2 q, h1 q, n1, n2) (v.in_table q);
      room = let r : length now + (1 + whens T + whens O + whens rest) ≡ length conds + whens whole = v.room in omega (arith, r, n3);
    }

lt_apart : (a b : ℕ) → a < b → b ≡ a → ⊥
lt_apart a b h e = absurd (omega arith)

lt_apart_back : (a b : ℕ) → a < b → a ≡ b → ⊥
lt_apart_back a b h e = absurd (omega arith)

lt_le : (a b : ℕ) → a < b → a ≤ b
lt_le a b h = omega arith

at_less : (y q : ℕ) → y < q → is_at (nat_cmp y) q ≡ nat_eq q y
at_less y q h = rw (lt-ltb y q h, ne_eqb q y (lt_apart y q h)) refl

at_greater : (y q : ℕ) → q < y → is_at (nat_cmp y) q ≡ nat_eq q y
at_greater y q h = rw (le-ltb y q (lt_le q y h), ne_eqb y q (lt_apart q y h), ne_eqb q y (lt_apart_back q y h)) refl

at_equal : (q : ℕ) → is_at (nat_cmp q) q ≡ nat_eq q q
at_equal q = let l : q ≤ q = omega arith in rw (le-ltb q q l, eq-eqb q q refl) refl

-- the test of a map's key is the test of numbers
pub at_number : (y q : ℕ) → is_at (nat_cmp y) q ≡ nat_eq q y
at_number y q = ⊎_elim
    (λ e. subst (λ t. is_at (nat_cmp t) q ≡ nat_eq q t) (sym e) (at_equal q))
    (λ r. ⊎_elim (at_less y q) (at_greater y q) r)
    (cases_order y q)

-- the item at hand, and what is left behind it
pub next_item : (items : List Ground) (i : ℕ) (item : Ground) → i < length items → item ≡ get_or items i item → drop i items ≡ item ∷ drop (i + 1) items
next_item items i item h e = rw (drop-cons items i item h, ← e, add-one i) refl

pub left_declare : (items : List Ground) (i : ℕ) (item : Ground) (y : Signal) (line : ℕ) (r : Option GroundReset) → i < length items → item ≡ get_or items i item → item ≡ Declare y line r
    → body_of (drop i items) ≡ declare y.0 line r (body_of (drop (i + 1) items))
left_declare items i item y line r h e k = ap body_of (next_item items i item h e) ∙ ap (λ (g : Ground). body_of (g ∷ drop (i + 1) items)) k ∙ of_declare y line r (drop (i + 1) items)

pub left_set : (items : List Ground) (i : ℕ) (item : Ground) (line : ℕ) (y : Signal) (r : Option GroundExpr) → i < length items → item ≡ get_or items i item → item ≡ Set line y r
    → body_of (drop i items) ≡ set line y.0 r (body_of (drop (i + 1) items))
left_set items i item line y r h e k = ap body_of (next_item items i item h e) ∙ ap (λ (g : Ground). body_of (g ∷ drop (i + 1) items)) k ∙ of_set line y r (drop (i + 1) items)

pub left_when : (items : List Ground) (i : ℕ) (item : Ground) (line : ℕ) (c : GroundExpr) (t o : List Ground) → i < length items → item ≡ get_or items i item → item ≡ When line c t o
    → body_of (drop i items) ≡ when line c (body_of t) (body_of o) (body_of (drop (i + 1) items))
left_when items i item line c t o h e k = ap body_of (next_item items i item h e) ∙ ap (λ (g : Ground). body_of (g ∷ drop (i + 1) items)) k ∙ of_when line c t o (drop (i + 1) items)
