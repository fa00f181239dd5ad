-- Walks to the least of the nearest, over conditions, and where they begin.
use Rattle.std.proofs.Common.{◌≡◌, ◌∙◌, sym, ap, subst, ℕ, zero, suc, ◌+◌, ◌<◌, ◌≤◌, Bool, true, false, List, [], ◌∷◌, ◌++◌, ◌⊎◌, inl, inr, refl, arith, ⊎_elim, length, take, get_or}
use Rattle.std.proofs.lemmas.Bool.{both_ways, cases_Bool}
use Rattle.std.proofs.lemmas.List.{get_or_past}
use Rattle.std.specs.declared.vec.Vec.{Vec}
use Rattle.std.specs.declared.alloc.Global.{Global}
use Rattle.net_core.specs.Rules.{has}
use Rattle.net_graph.specs.Graphs.{reads_in}
use Rattle.net_graph.specs.Marks.{is_marked}
use Rattle.net_graph.specs.NetGraphs.{ReadsOver}
use Rattle.net_graph.specs.Readers.{in_row, Turned}
use Rattle.net_graph.specs.Distances.{distance_of, RowReads, Measures}
use Rattle.net_graph.specs.Loops.{Leads, IsLoopFrom}
use Rattle.net_graph.specs.Falling.{Reads, Falls, NearerOf, NearestAmong, EntryReads, ListReads, UnpassedEntry, UnpassedReads, AllBehind}
use Rattle.net_graph.proofs.HasFacts.{has_take, has_wider, has_newest}
use Rattle.net_graph.proofs.LoopFacts.{Nearest}

pub before_or_past : (x n : ℕ) → (x < n) ⊎ (n ≤ x)
before_or_past x zero = inr (omega arith)
before_or_past zero (suc n) = inl (omega arith)
before_or_past (suc x) (suc n) = ⊎_elim (λ h. inl (omega (arith, h))) (λ h. inr (omega (arith, h))) (before_or_past x n)

pub distance_inside : (D : List ℕ) (far x : ℕ) → distance_of D far x < far → x < length D
distance_inside [] far x h = absurd (omega (arith, h))
distance_inside (d ∷ ds) far zero h = omega arith
distance_inside (d ∷ ds) far (suc x) h = let r : x < length ds = distance_inside ds far x h in omega (arith, r)

listed : (ls : List (List ℕ)) (x z : ℕ) → reads_in ls x z ≡ true → x < length ls
listed [] x z r = absurd cc
listed (a ∷ rest) zero z r = omega arith
listed (a ∷ rest) (suc x) z r = let q : x < length rest = listed rest x z r in omega (arith, q)

-- ---- the nearest of more and more
pub among_none : (P : ℕ → Type 0) (D : ℕ → ℕ) (v : ℕ) → ((w : ℕ) → P w → ⊥) → NearestAmong P D v v
among_none P D v none = record { nearest_first = omega arith; least_first = λ e. omega arith; nearest = λ w p. absurd (none w p); least = λ w p e. absurd (none w p) }

pub among_nearer : (D : ℕ → ℕ) (v w z : ℕ) → NearerOf D v w z → NearestAmong (λ k. k ≡ w) D v z
among_nearer D v w z n = record {
  nearest_first = n.nearest_v;
  least_first = n.least_v;
  nearest = λ k e. subst (λ q. D z ≤ D q) (sym e) n.nearest_w;
  least = λ k e d. subst (λ q. z ≤ q) (sym e) (n.least_w (subst (λ q. D q ≡ D z) e d));
}

pub among_on : (P Q R : ℕ → Type 0) (D : ℕ → ℕ) (v m z : ℕ) → ((w : ℕ) → R w → P w ⊎ Q w) → NearestAmong P D v m → NearestAmong Q D m z → NearestAmong R D v z
among_on P Q R D v m z r s t = record {
  nearest_first = let a : D m ≤ D v = s.nearest_first in let b : D z ≤ D m = t.nearest_first in omega (arith, a, b);
  least_first = λ e. lesser v s.nearest_first s.least_first e;
  nearest = λ w p. ⊎_elim (λ a. nearer w (s.nearest w a)) (λ b. t.nearest w b) (r w p);
  least = λ w p e. ⊎_elim (λ a. lesser w (s.nearest w a) (s.least w a) e) (λ b. t.least w b e) (r w p);
}
  where
    nearer : (w : ℕ) → D m ≤ D w → D z ≤ D w
    nearer w a = let b : D z ≤ D m = t.nearest_first in omega (arith, a, b)

    lesser : (w : ℕ) → D m ≤ D w → (D w ≡ D m → m ≤ w) → D w ≡ D z → z ≤ w
    lesser w a f e =
        let b : D z ≤ D m = t.nearest_first in
        let d : D m ≡ D z = omega (arith, a, b, e) in
        let g : z ≤ m = t.least_first d in
        let h : m ≤ w = f (e ∙ sym d) in
        omega (arith, g, h)

pub list_more : (list : List ℕ) (i : ℕ) (D : ℕ → ℕ) (v m z : ℕ) → i < length list → NearestAmong (λ w. has (take i list) w ≡ true) D v m → NearerOf D m (get_or list i 0) z
    → NearestAmong (λ w. has (take (i + 1) list) w ≡ true) D v z
list_more list i D v m z h s n = among_on (λ w. has (take i list) w ≡ true) (λ w. w ≡ get_or list i 0) (λ w. has (take (i + 1) list) w ≡ true) D v m z
    (λ w k. has_take list i 0 w h k) s (among_nearer D m (get_or list i 0) z n)

-- what the entries of a part of a list stand for
abbrev pub TakenReads : List (List ℕ) → ℕ → List Bool → List ℕ → ℕ → Type 0
TakenReads lists own passed list w = (y : ℕ) × (has list y ≡ true) × UnpassedEntry lists own passed y w

abbrev pub MarksOf : ℕ → (before now : List Bool) → List ℕ → Type 0
MarksOf own before now list = (c : ℕ) → is_marked now c ≡ true → (is_marked before c ≡ true) ⊎ ((own ≤ c) × (has list c ≡ true))

pub taken_more : (lists : List (List ℕ)) (own : ℕ) (before now : List Bool) (list : List ℕ) (i : ℕ) (D : ℕ → ℕ) (v m z : ℕ) → i < length list → MarksOf own before now (take i list)
    → NearestAmong (TakenReads lists own before (take i list)) D v m → NearestAmong (UnpassedEntry lists own now (get_or list i 0)) D m z
    → NearestAmong (TakenReads lists own before (take (i + 1) list)) D v z
taken_more lists own before now list i D v m z h k s t =
    among_on (TakenReads lists own before (take i list)) (UnpassedEntry lists own now (get_or list i 0)) (TakenReads lists own before (take (i + 1) list)) D v m z (λ w r. at w r) s t
  where
    entered : (w y : ℕ) → (own ≤ y) × (is_marked before y ≡ false) × (reads_in lists y w ≡ true) → (is_marked now y ≡ true) ⊎ (is_marked now y ≡ false)
        → TakenReads lists own before (take i list) w ⊎ UnpassedEntry lists own now y w
    entered w y u (inr f) = inr (inr (u.0, f, u.2))
    entered w y u (inl t) = ⊎_elim (λ a. absurd (both_ways (is_marked before y) u.1 a)) (λ a. inl (y, a.1, inr u)) (k y t)

    newest : (w y : ℕ) → UnpassedEntry lists own before y w → TakenReads lists own before (take i list) w ⊎ UnpassedEntry lists own now y w
    newest w y (inl e) = inr (inl e)
    newest w y (inr u) = entered w y u (cases_Bool (is_marked now y))

    at : (w : ℕ) → TakenReads lists own before (take (i + 1) list) w → TakenReads lists own before (take i list) w ⊎ UnpassedEntry lists own now (get_or list i 0) w
    at w r = ⊎_elim (λ a. inl (r.0, a, r.2)) (λ e. newest w (get_or list i 0) (subst (λ q. UnpassedEntry lists own before q w) e r.2)) (has_take list i 0 r.0 h r.1)

pub marks_more : (own : ℕ) (before now after : List Bool) (list : List ℕ) (i : ℕ) → i < length list → MarksOf own before now (take i list)
    → ((c : ℕ) → is_marked after c ≡ true → (is_marked now c ≡ true) ⊎ ((c ≡ get_or list i 0) × (own ≤ get_or list i 0))) → MarksOf own before after (take (i + 1) list)
marks_more own before now after list i h k m c t = ⊎_elim
    (λ a. ⊎_elim (λ b. inl b) (λ b. inr (b.0, has_wider list i c b.1)) (k c a))
    (λ a. inr (subst (λ q. own ≤ q) (sym a.0) a.1, subst (λ q. has (take (i + 1) list) q ≡ true) (sym a.0) (has_newest list i 0 h)))
    (m c t)

-- ---- reads over conditions
pub over_list : (lists : List (List ℕ)) (own x w : ℕ) → ReadsOver (reads_in lists) own x w → ListReads lists own x w
over_list lists own x w r = ⊎_elim (λ d. (w, d, inl refl)) (λ c. (c.0, c.2, inr (c.1, c.3))) r.way

pub list_over : (lists : List (List ℕ)) (own x w : ℕ) → x < own → w < own → ListReads lists own x w → ReadsOver (reads_in lists) own x w
list_over lists own x w h k r = record { reader = h; read = k; way = at r.2 }
  where
    at : EntryReads lists own r.0 w → (reads_in lists x w ≡ true) ⊎ ((c : ℕ) × (own ≤ c) × (reads_in lists x c ≡ true) × (reads_in lists c w ≡ true))
    at (inl e) = inl (subst (λ q. reads_in lists x q ≡ true) (sym e) r.1)
    at (inr c) = inr (r.0, c.0, r.1, c.1)

-- what is read is looked at, or stands behind
looked_at : (lists : List (List ℕ)) (own : ℕ) (passed : List Bool) (D : ℕ → ℕ) (x w : ℕ) → AllBehind lists passed D x → ReadsOver (reads_in lists) own x w → UnpassedReads lists own passed x w ⊎ (D x ≤ D w)
looked_at lists own passed D x w b g = at (over_list lists own x w g)
  where
    marked : (y : ℕ) → reads_in lists x y ≡ true → (own ≤ y) × (reads_in lists y w ≡ true) → (is_marked passed y ≡ true) ⊎ (is_marked passed y ≡ false) → UnpassedReads lists own passed x w ⊎ (D x ≤ D w)
    marked y r c (inl t) = inr (b y w t c.1)
    marked y r c (inr f) = inl (y, r, inr (c.0, f, c.1))

    entry : (y : ℕ) → reads_in lists x y ≡ true → EntryReads lists own y w → UnpassedReads lists own passed x w ⊎ (D x ≤ D w)
    entry y r (inl e) = inl (y, r, inl e)
    entry y r (inr c) = marked y r c (cases_Bool (is_marked passed y))

    at : ListReads lists own x w → UnpassedReads lists own passed x w ⊎ (D x ≤ D w)
    at l = entry l.0 l.1 l.2

-- what was found is read, where something leads from it
found_read : (lists : List (List ℕ)) (own : ℕ) (D : List ℕ) (x z : ℕ) → length D ≡ own → x < own → (z ≡ own) ⊎ ListReads lists own x z → distance_of D own z < own → ReadsOver (reads_in lists) own x z
found_read lists own D x z l h (inr r) d = list_over lists own x z h (subst (λ n. z < n) l (distance_inside D own z d)) r
found_read lists own D x z l h (inl e) d = absurd (let i : z < length D = distance_inside D own z d in omega (arith, i, l, e))

positive : (d : ℕ) → (d ≡ 0 → ⊥) → 0 < d
positive d k = omega (arith, k)

-- a step of a walk: to the least of the nearest, which is nearer by one
pub record StepsTo (G : ℕ → ℕ → Type 0) (D : ℕ → ℕ) (x z : ℕ) : Type 0 where
  pub nearest : Nearest G D x z
  pub nearer : D x ≡ suc (D z)

pub steps_to : (lists : List (List ℕ)) (own : ℕ) (passed : List Bool) (D : List ℕ) (target x z : ℕ) → length D ≡ own → Measures (ReadsOver (reads_in lists) own) target own (distance_of D own)
    → distance_of D own x < own → (x ≡ target → ⊥) → AllBehind lists passed (distance_of D own) x → (z ≡ own) ⊎ ListReads lists own x z
    → NearestAmong (UnpassedReads lists own passed x) (distance_of D own) own z → StepsTo (ReadsOver (reads_in lists) own) (distance_of D own) x z
steps_to lists own passed D target x z l m near other b one n = record {
  nearest = record {
    read = read;
    nearest = λ w g. ⊎_elim (λ u. n.nearest w u) (λ h. behind w h) (looked_at lists own passed E x w b g);
    least = λ w g e. ⊎_elim (λ u. n.least w u e) (λ h. absurd (ahead w h e)) (looked_at lists own passed E x w b g);
  };
  nearer = step;
}
  where
    E : ℕ → ℕ
    E = distance_of D own

    x_below : x < own
    x_below = subst (λ q. x < q) l (distance_inside D own x near)

    some : (w : ℕ) × ReadsOver (reads_in lists) own x w × (E x ≡ E w + 1)
    some = m.next x (positive (E x) (λ q. other (m.only x q))) near

    as_near : E z ≤ E some.0
    as_near = ⊎_elim (λ u. n.nearest some.0 u) (λ h. absurd (let e : E x ≡ E some.0 + 1 = some.2 in omega (arith, h, e))) (looked_at lists own passed E x some.0 b some.1)

    z_near : E z < own
    z_near = let a : E z ≤ E some.0 = as_near in let e : E x ≡ E some.0 + 1 = some.2 in let h : E x < own = near in omega (arith, a, e, h)

    read : ReadsOver (reads_in lists) own x z
    read = found_read lists own D x z l x_below one z_near

    step : E x ≡ suc (E z)
    step = let a : E z ≤ E some.0 = as_near in let e : E x ≡ E some.0 + 1 = some.2 in let r : E x ≤ E z + 1 = (m.near x z read z_near).1 in omega (arith, a, e, r)

    behind : (w : ℕ) → E x ≤ E w → E z ≤ E w
    behind w h = let e : E x ≡ suc (E z) = step in omega (arith, h, e)

    ahead : (w : ℕ) → E x ≤ E w → E w ≡ E z → ⊥
    ahead w h q = let e : E x ≡ suc (E z) = step in omega (arith, h, e, q)

-- what was passed stands behind the next of the walk
pub behind_next : (lists : List (List ℕ)) (own : ℕ) (passed after : List Bool) (D : List ℕ) (x z : ℕ) → length D ≡ own → x < own → distance_of D own z < own → AllBehind lists passed (distance_of D own) z
    → Nearest (ReadsOver (reads_in lists) own) (distance_of D own) x z
    → ((c : ℕ) → is_marked after c ≡ true → (is_marked passed c ≡ true) ⊎ ((own ≤ c) × (reads_in lists x c ≡ true))) → AllBehind lists after (distance_of D own) z
behind_next lists own passed after D x z l h d b n k c w m r = ⊎_elim (λ a. b c w a r) (λ a. new a.0 a.1 (before_or_past w own)) (k c m)
  where
    new : own ≤ c → reads_in lists x c ≡ true → (w < own) ⊎ (own ≤ w) → distance_of D own z ≤ distance_of D own w
    new o q (inl i) = n.nearest w (record { reader = h; read = i; way = inr (c, o, q, r) })
    new o q (inr i) = let e : distance_of D own w ≡ own = get_or_past D w own (subst (λ t. t ≤ w) (sym l) i) in omega (arith, e, d)

pub nearer_behind : (lists : List (List ℕ)) (passed : List Bool) (D : ℕ → ℕ) (x z : ℕ) → AllBehind lists passed D x → D x ≡ suc (D z) → AllBehind lists passed D z
nearer_behind lists passed D x z b e c w m r = let a : D x ≤ D w = b c w m r in omega (arith, a, e)

-- ---- before anything was passed
pub none_behind : (lists : List (List ℕ)) (passed : List Bool) (D : ℕ → ℕ) (x : ℕ) → ((c : ℕ) → is_marked passed c ≡ true → ⊥) → AllBehind lists passed D x
none_behind lists passed D x none c w m = absurd (none c m)

first_looked : (lists : List (List ℕ)) (own : ℕ) (passed : List Bool) (x w : ℕ) → ((c : ℕ) → is_marked passed c ≡ true → ⊥) → ReadsOver (reads_in lists) own x w → UnpassedReads lists own passed x w
first_looked lists own passed x w none g = at (over_list lists own x w g)
  where
    entry : (y : ℕ) → reads_in lists x y ≡ true → EntryReads lists own y w → UnpassedReads lists own passed x w
    entry y r (inl e) = (y, r, inl e)
    entry y r (inr c) = (y, r, inr (c.0, ⊎_elim (λ t. absurd (none y t)) (λ f. f) (cases_Bool (is_marked passed y)), c.1))

    at : ListReads lists own x w → UnpassedReads lists own passed x w
    at l = entry l.0 l.1 l.2

pub first_nearest : (lists : List (List ℕ)) (own : ℕ) (passed : List Bool) (D : List ℕ) (x z : ℕ) → ((c : ℕ) → is_marked passed c ≡ true → ⊥) → length D ≡ own → x < own
    → (z ≡ own) ⊎ ListReads lists own x z → NearestAmong (UnpassedReads lists own passed x) (distance_of D own) own z → distance_of D own z < own
    → Nearest (ReadsOver (reads_in lists) own) (distance_of D own) x z
first_nearest lists own passed D x z none l h one a d = record {
  read = found_read lists own D x z l h one d;
  nearest = λ w g. a.nearest w (first_looked lists own passed x w none g);
  least = λ w g e. a.least w (first_looked lists own passed x w none g) e;
}

pub first_far : (lists : List (List ℕ)) (own : ℕ) (passed : List Bool) (D : ℕ → ℕ) (x z : ℕ) → ((c : ℕ) → is_marked passed c ≡ true → ⊥) → NearestAmong (UnpassedReads lists own passed x) D own z
    → own ≤ D z → (w : ℕ) → ReadsOver (reads_in lists) own x w → own ≤ D w
first_far lists own passed D x z none a d w g = let n : D z ≤ D w = a.nearest w (first_looked lists own passed x w none g) in omega (arith, n, d)

-- ---- the walk goes on
pub record Descends (G : ℕ → ℕ → Type 0) (D : ℕ → ℕ) (target far from x : ℕ) (first path : List ℕ) : Type 0 where
  pub near : D x < far
  pub so_far : (ys : List ℕ) → Falls G D x ys target → (way : List ℕ) × Falls G D from way target × (path ++ ys ≡ first ++ way)

behind_none : (xs : List ℕ) → xs ++ [] ≡ xs
behind_none [] = refl
behind_none (x ∷ xs) = ap (λ (o : List ℕ). x ∷ o) (behind_none xs)

append_assoc : (xs ys zs : List ℕ) → (xs ++ ys) ++ zs ≡ xs ++ (ys ++ zs)
append_assoc [] ys zs = refl
append_assoc (x ∷ xs) ys zs = ap (λ (o : List ℕ). x ∷ o) (append_assoc xs ys zs)

pub descends_next : (G : ℕ → ℕ → Type 0) (D : ℕ → ℕ) (target far from x z : ℕ) (first path path2 : List ℕ) → Descends G D target far from x first path → StepsTo G D x z → path2 ≡ path ++ x ∷ []
    → Descends G D target far from z first path2
descends_next G D target far from x z first path path2 d s e = record {
  near = let a : D x ≡ suc (D z) = s.nearer in let b : D x < far = d.near in omega (arith, a, b);
  so_far = λ ys f.
      let w = d.so_far (x ∷ ys) (refl, z, s.nearest.read, s.nearer, s.nearest.least, f) in
      (w.0, w.1, ap (λ (o : List ℕ). o ++ ys) e ∙ append_assoc path (x ∷ []) ys ∙ w.2);
}

pub descends_last : (G : ℕ → ℕ → Type 0) (D : ℕ → ℕ) (target far from x : ℕ) (first path : List ℕ) → Descends G D target far from x first path → x ≡ target
    → (way : List ℕ) × Falls G D from way target × (path ≡ first ++ way)
descends_last G D target far from x first path d e = let w = d.so_far [] e in (w.0, w.1, sym (behind_none path) ∙ w.2)

-- ---- the rows measure the reads over conditions
over_row : (lists : List (List ℕ)) (rows : List (Vec ℕ Global)) (own x z : ℕ) → Turned lists rows → own ≤ length lists → ReadsOver (reads_in lists) own x z → RowReads rows own x z
over_row lists rows own x z t o r = ⊎_elim
    (λ d. (x, t.all z x x_listed z_listed d, (r.reader, inl refl)))
    (λ c.
    let k : c.0 < length lists = listed lists c.0 z c.3 in
    (c.0, t.all z c.0 k z_listed c.3, (r.reader, inr (c.1, t.all c.0 x x_listed k c.2))))
    r.way
  where
    x_listed : x < length lists
    x_listed = let h : x < own = r.reader in omega (arith, h, o)

    z_listed : z < length lists
    z_listed = let h : z < own = r.read in omega (arith, h, o)

row_over : (lists : List (List ℕ)) (rows : List (Vec ℕ Global)) (own x z : ℕ) → Turned lists rows → z < own → RowReads rows own x z → ReadsOver (reads_in lists) own x z
row_over lists rows own x z t h g = record { reader = g.2.0; read = h; way = at g.2.1 }
  where
    at : (x ≡ g.0) ⊎ ((own ≤ g.0) × (in_row rows g.0 x ≡ true)) → (reads_in lists x z ≡ true) ⊎ ((c : ℕ) × (own ≤ c) × (reads_in lists x c ≡ true) × (reads_in lists c z ≡ true))
    at (inl e) = inl (subst (λ q. reads_in lists q z ≡ true) (sym e) (t.right z g.0 g.1).1)
    at (inr c) = inr (g.0, c.0, (t.right g.0 x c.1).1, (t.right z g.0 g.1).1)

pub measures_over : (lists : List (List ℕ)) (rows : List (Vec ℕ Global)) (target own : ℕ) (D : List ℕ) → Turned lists rows → own ≤ length lists → length D ≡ own
    → Measures (RowReads rows own) target own (distance_of D own) → Measures (ReadsOver (reads_in lists) own) target own (distance_of D own)
measures_over lists rows target own D t o l m = record {
  start = m.start;
  only = m.only;
  near = λ x z r b. m.near x z (over_row lists rows own x z t o r) b;
  next = λ x p b.
      let n = m.next x p b in
      let e : distance_of D own x ≡ distance_of D own n.0 + 1 = n.2 in
      let i : n.0 < length D = distance_inside D own n.0 (omega (arith, e, b)) in
      (n.0, row_over lists rows own x n.0 t (omega (arith, i, l)) n.1, n.2);
}

-- ---- loops over conditions are loops
leads_all : (lists : List (List ℕ)) (own x : ℕ) (xs : List ℕ) (p : ℕ) → Leads (ReadsOver (reads_in lists) own) x xs p → (ys : List ℕ) × Leads (Reads lists) x ys p × (length xs ≤ length ys)
leads_all lists own x [] p l = ([], l, omega arith)
leads_all lists own x (y ∷ ys) p l =
    let r = leads_all lists own l.1 ys p l.3 in
    let n : length ys ≤ length r.0 = r.2 in
    ⊎_elim
    (λ d. (x ∷ r.0, (refl, l.1, d, r.1), omega (arith, n)))
    (λ c. (x ∷ (c.0 ∷ r.0), (refl, c.0, c.2, (refl, l.1, c.3, r.1)), omega (arith, n)))
    l.2.way

pub no_loop_over : (lists : List (List ℕ)) (own x : ℕ) → ((other : List ℕ) → IsLoopFrom (Reads lists) x other → ⊥) → (other : List ℕ) → IsLoopFrom (ReadsOver (reads_in lists) own) x other → ⊥
no_loop_over lists own x none other l =
    let r = leads_all lists own x other x l.leads in
    let s : 0 < length other = l.some in
    let n : length other ≤ length r.0 = r.2 in
    none r.0 (record { some = omega (arith, s, n); leads = r.1 })

pub begins_below : (lists : List (List ℕ)) (own x : ℕ) (other : List ℕ) → IsLoopFrom (ReadsOver (reads_in lists) own) x other → x < own
begins_below lists own x other l = at other l.some l.leads
  where
    at : (ys : List ℕ) → 0 < length ys → Leads (ReadsOver (reads_in lists) own) x ys x → x < own
    at [] s k = absurd (omega (arith, s))
    at (y ∷ ys) s k = k.2.reader
