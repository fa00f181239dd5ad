-- Reads between the signals of the circuit.
use Rattle.std.proofs.Common.{◌≡◌, ◌∙◌, sym, ap, subst, ℕ, suc, ◌+◌, ◌<◌, ◌≤◌, Bool, true, false, List, [], ◌∷◌, nat_eq, nat_lt, ◌⊎◌, inl, inr, refl, arith, ⊎_elim, length, if◌then◌else◌}
use Rattle.std.proofs.lemmas.Bool.{or_cases, or_left, or_right, eq-eqb, eqb-true, cases_eq, cases_Bool}
use Rattle.std.specs.Prelude.{IfSome, IfNone, Option, None, Some}
use Rattle.std.proofs.lemmas.Grind.{common_steps}
use Rattle.std.specs.List.{IsDistinct}
use Rattle.net_core.specs.Rules.{Rules, has}
use Rattle.net_core.proofs.Acyclic.{Path, last, more, extend, NoCycle, chase}
use Rattle.net_graph.specs.Graphs.{reads_in, Within, Follows, IsOrder}
use Rattle.net_graph.specs.Loops.{Leads, IsLoopFrom, NoLoops, IsNamedLoop, IsNamedChain}
use Rattle.net_graph.specs.Taking.{Furthest}
use Rattle.net_graph.specs.NetGraphs.{ReadsOver}
use Rattle.net_graph.proofs.SearchFacts.{before_or_past}

-- a number is below another by the test, or not
pub lt_true : (x n : ℕ) → x < n → nat_lt x n ≡ true
lt_true x n h = grind (arith, common_steps)

pub lt_false : (x n : ℕ) → n ≤ x → nat_lt x n ≡ false
lt_false x n h = grind (arith, common_steps)

-- ---- loops of graphs that are the same
pub leads_map : (G H : ℕ → ℕ → Type 0) → ((x y : ℕ) → G x y → H x y) → (x : ℕ) (xs : List ℕ) (p : ℕ) → Leads G x xs p → Leads H x xs p
leads_map G H f x [] p l = l
leads_map G H f x (y ∷ ys) p l = (l.0, l.1, f x l.1 l.2, leads_map G H f l.1 ys p l.3)

pub loop_map : (G H : ℕ → ℕ → Type 0) → ((x y : ℕ) → G x y → H x y) → (x : ℕ) (xs : List ℕ) → IsLoopFrom G x xs → IsLoopFrom H x xs
loop_map G H f x xs l = record { some = l.some; leads = leads_map G H f x xs x l.leads }

pub named_map : (G H : ℕ → ℕ → Type 0) → ((x y : ℕ) → G x y → H x y) → ((x y : ℕ) → H x y → G x y) → (x : ℕ) (xs : List ℕ) → IsNamedLoop G x xs → IsNamedLoop H x xs
named_map G H f g x xs n = record {
  is_loop = loop_map G H f x xs n.is_loop;
  first = λ y other l. n.first y other (loop_map H G g y other l);
  shortest = λ other l. n.shortest other (loop_map H G g x other l);
  least = λ other l e. n.least other (loop_map H G g x other l) e;
}

-- ---- an order leaves no loop
abbrev pub rank : List ℕ → ℕ → ℕ
rank [] x = 0
rank (a ∷ rest) x = if nat_eq x a then 0 else suc (rank rest x)

earlier : (reads : ℕ → ℕ → Bool) (seen xs : List ℕ) → Follows reads seen xs → (x y : ℕ) → has xs x ≡ true → reads x y ≡ true → (has seen y ≡ true) ⊎ ((has xs y ≡ true) × (rank xs y < rank xs x))
earlier reads seen [] f x y h r = absurd cc
earlier reads seen (a ∷ rest) f x y h r = first (cases_eq x a) (or_cases (nat_eq x a) (has rest x) h) (λ m. earlier reads (a ∷ seen) rest f.2 x y m r)
  where
    rank_other : (z : ℕ) → (z ≡ a → ⊥) → rank (a ∷ rest) z ≡ suc (rank rest z)
    rank_other z n = ap (λ b. if b then 0 else suc (rank rest z)) (no_eq z n)
      where
        no_eq : (z : ℕ) → (z ≡ a → ⊥) → nat_eq z a ≡ false
        no_eq z n = ⊎_elim (λ t. absurd (n (eqb-true z a t))) (λ f. f) (cases_Bool (nat_eq z a))

    rank_first : (z : ℕ) → z ≡ a → rank (a ∷ rest) z ≡ 0
    rank_first z e = ap (λ b. if b then 0 else suc (rank rest z)) (eq-eqb z a e)

    later : (x ≡ a → ⊥) → (has (a ∷ seen) y ≡ true) ⊎ ((has rest y ≡ true) × (rank rest y < rank rest x)) → (has seen y ≡ true) ⊎ ((has (a ∷ rest) y ≡ true) × (rank (a ∷ rest) y < rank (a ∷ rest) x))
    later n (inl m) = ⊎_elim
        (λ e. let q : y ≡ a = eqb-true y a e in
        let s : rank (a ∷ rest) y ≡ 0 = rank_first y q in
        let t : rank (a ∷ rest) x ≡ suc (rank rest x) = rank_other x n in
        inr (or_left (nat_eq y a) (has rest y) e, omega (arith, s, t)))
        (λ k. inl k)
        (or_cases (nat_eq y a) (has seen y) m)
    later n (inr p) = below (cases_eq y a)
      where
        below : (y ≡ a) ⊎ (y ≡ a → ⊥) → (has seen y ≡ true) ⊎ ((has (a ∷ rest) y ≡ true) × (rank (a ∷ rest) y < rank (a ∷ rest) x))
        below (inl q) =
            let s : rank (a ∷ rest) y ≡ 0 = rank_first y q in
            let t : rank (a ∷ rest) x ≡ suc (rank rest x) = rank_other x n in
            inr (or_right (nat_eq y a) (has rest y) p.0, omega (arith, s, t))
        below (inr m) =
            let s : rank (a ∷ rest) y ≡ suc (rank rest y) = rank_other y m in
            let t : rank (a ∷ rest) x ≡ suc (rank rest x) = rank_other x n in
            let u : rank rest y < rank rest x = p.1 in
            inr (or_right (nat_eq y a) (has rest y) p.0, omega (arith, s, t, u))

    first : (x ≡ a) ⊎ (x ≡ a → ⊥) → (nat_eq x a ≡ true) ⊎ (has rest x ≡ true) → (has rest x ≡ true → (has (a ∷ seen) y ≡ true) ⊎ ((has rest y ≡ true) × (rank rest y < rank rest x)))
        → (has seen y ≡ true) ⊎ ((has (a ∷ rest) y ≡ true) × (rank (a ∷ rest) y < rank (a ∷ rest) x))
    first (inl e) m go = inl (f.1 y (subst (λ q. reads q y ≡ true) e r))
    first (inr n) (inl t) go = absurd (n (eqb-true x a t))
    first (inr n) (inr m) go = later n (go m)

-- what is read by one in the order is in it, and earlier
ranked : (reads : ℕ → ℕ → Bool) (order : List ℕ) → Follows reads [] order → (x y : ℕ) → has order x ≡ true → reads x y ≡ true → (has order y ≡ true) × (rank order y < rank order x)
ranked reads order f x y h r = ⊎_elim (λ a. absurd (none y a)) (λ b. b) (earlier reads [] order f x y h r)
  where
    none : (y : ℕ) → has [] y ≡ true → ⊥
    none y h = cc

ranked_over : (reads : ℕ → ℕ → Bool) (own : ℕ) (order : List ℕ) → Follows reads [] order → (x y : ℕ) → has order x ≡ true → ReadsOver reads own x y → (has order y ≡ true) × (rank order y < rank order x)
ranked_over reads own order f x y h r = ⊎_elim
    (λ d. ranked reads order f x y h d)
    (λ c. let a = ranked reads order f x c.0 h c.2 in let b = ranked reads order f c.0 y a.0 c.3 in
    let p : rank order c.0 < rank order x = a.1 in let q : rank order y < rank order c.0 = b.1 in (b.0, omega (arith, p, q)))
    r.way

falls_along : (reads : ℕ → ℕ → Bool) (own : ℕ) (order : List ℕ) → Follows reads [] order → (x : ℕ) (xs : List ℕ) (p : ℕ) → has order x ≡ true → Leads (ReadsOver reads own) x xs p → rank order p + length xs ≤ rank order x
falls_along reads own order f x [] p h l = subst (λ q. rank order q + 0 ≤ rank order x) l (same (rank order x))
  where
    same : (n : ℕ) → n + 0 ≤ n
    same n = omega arith
falls_along reads own order f x (y ∷ ys) p h l =
    let a = ranked_over reads own order f x l.1 h l.2 in
    let b : rank order p + length ys ≤ rank order l.1 = falls_along reads own order f l.1 ys p a.0 l.3 in
    let c : rank order l.1 < rank order x = a.1 in
    omega (arith, b, c)

pub ordered_no_loop : (reads : ℕ → ℕ → Bool) (own : ℕ) (order : List ℕ) → Follows reads [] order → (x : ℕ) (other : List ℕ) → has order x ≡ true → IsLoopFrom (ReadsOver reads own) x other → ⊥
ordered_no_loop reads own order f x other h l =
    let a : rank order x + length other ≤ rank order x = falls_along reads own order f x other x h l.leads in
    let b : 0 < length other = l.some in
    absurd (omega (arith, a, b))

-- ---- without a loop there is an order
abbrev rules_of : (ℕ → ℕ → Bool) → Rules
rules_of reads = record { value = λ x V. 0; reads = reads; local = λ x V W h. refl }

-- a way from x to p
abbrev Way : (ℕ → ℕ → Bool) → ℕ → ℕ → ℕ → Type 0
Way reads own x p = (xs : List ℕ) × (0 < length xs) × Leads (ReadsOver reads own) x xs p

one_step : (reads : ℕ → ℕ → Bool) (own x p : ℕ) → ReadsOver reads own x p → Way reads own x p
one_step reads own x p r = (x ∷ [], omega arith, (refl, p, r, refl))

more_steps : (reads : ℕ → ℕ → Bool) (own x y p : ℕ) → ReadsOver reads own x y → Way reads own y p → Way reads own x p
more_steps reads own x y p r w = (x ∷ w.0, omega arith, (refl, y, r, w.2))

path_way : (reads : ℕ → ℕ → Bool) (own : ℕ) → ((c y : ℕ) → own ≤ c → reads c y ≡ true → y < own) → (p : ℕ) → p < own
    → (x : ℕ) → Path (rules_of reads) p x → (x < own → Way reads own x p) × (own ≤ x → (z : ℕ) → z < own → reads z x ≡ true → Way reads own z p)
path_way reads own cond p hp x (last _ r) = (
  (λ h. one_step reads own x p (record { reader = h; read = hp; way = inl r })),
  (λ o z h q. one_step reads own z p (record { reader = h; read = hp; way = inr (x, o, q, r) })),
)
path_way reads own cond p hp x (more _ y r t) = go (path_way reads own cond p hp y t) (before_or_past y own)
  where
    go : (y < own → Way reads own y p) × (own ≤ y → (z : ℕ) → z < own → reads z y ≡ true → Way reads own z p) → (y < own) ⊎ (own ≤ y)
        → (x < own → Way reads own x p) × (own ≤ x → (z : ℕ) → z < own → reads z x ≡ true → Way reads own z p)
    go w (inl b) = (
      (λ h. more_steps reads own x y p (record { reader = h; read = b; way = inl r }) (w.0 b)),
      (λ o z h q. more_steps reads own z y p (record { reader = h; read = b; way = inr (x, o, q, r) }) (w.0 b)),
    )
    go w (inr b) = (
      (λ h. w.1 b x h r),
      (λ o z h q. absurd (let k : y < own = cond x y o r in omega (arith, b, k))),
    )

loop_of_path : (reads : ℕ → ℕ → Bool) (own : ℕ) → ((c y : ℕ) → own ≤ c → reads c y ≡ true → y < own) → NoLoops (ReadsOver reads own) → NoCycle (rules_of reads)
loop_of_path reads own cond none x t = at x t (before_or_past x own)
  where
    below : (z : ℕ) → z < own → Path (rules_of reads) z z → ⊥
    below z h s = let w = (path_way reads own cond z h z s).0 h in none z w.0 (record { some = w.1; leads = w.2 })

    at : (z : ℕ) → Path (rules_of reads) z z → (z < own) ⊎ (own ≤ z) → ⊥
    at z s (inl h) = below z h s
    at z (last _ r) (inr o) = absurd (let k : z < own = cond z z o r in omega (arith, o, k))
    at z (more _ y r s) (inr o) = below y (cond z y o r) (extend (rules_of reads) z y y s r)

zero_plus : (n : ℕ) → 0 + n ≡ n
zero_plus n = omega arith

pub no_loop_full : (lists : List (List ℕ)) (own : ℕ) (order : List ℕ) → ((c y : ℕ) → own ≤ c → reads_in lists c y ≡ true → y < own) → Within lists → Furthest lists order
    → NoLoops (ReadsOver (reads_in lists) own) → length order < length lists → ⊥
unfolding IsDistinct
no_loop_full lists own order cond within f none short =
    let s = f.short short in
    chase (rules_of (reads_in lists)) (length lists) (λ z. (z < length lists) × (has order z ≡ false)) (loop_of_path (reads_in lists) own cond none) (λ z l. l.0)
    (λ z l. let w = f.stuck z l.0 l.1 in (w.0, w.1, (within z w.0 w.1, w.2)))
    (length lists) s.0 [] (s.1, s.2) refl tt (λ z k. cc) (λ z k. cc) (zero_plus (length lists))

-- ---- the results
pub over_same : (R S : ℕ → ℕ → Bool) (own : ℕ) → ((x y : ℕ) → R x y ≡ S x y) → (x y : ℕ) → ReadsOver R own x y → ReadsOver S own x y
over_same R S own e x y r = record {
  reader = r.reader;
  read = r.read;
  way = ⊎_elim (λ d. inl (sym (e x y) ∙ d)) (λ c. inr (c.0, c.1, sym (e x c.0) ∙ c.2, sym (e c.0 y) ∙ c.3)) r.way;
}

follows_same : (R S : ℕ → ℕ → Bool) → ((x y : ℕ) → R x y ≡ S x y) → (seen xs : List ℕ) → Follows R seen xs → Follows S seen xs
follows_same R S e seen [] f = tt
follows_same R S e seen (x ∷ xs) f = (f.0, (λ y r. f.1 y (e x y ∙ r)), follows_same R S e (x ∷ seen) xs f.2)

pub all_in : (lists : List (List ℕ)) (own : ℕ) (order : List ℕ) → ((c y : ℕ) → own ≤ c → reads_in lists c y ≡ true → y < own) → Within lists → Furthest lists order
    → (length order < length lists → NoLoops (ReadsOver (reads_in lists) own)) → (x : ℕ) → x < length lists → has order x ≡ true
all_in lists own order cond within f none x h = ⊎_elim
    (λ k. absurd (no_loop_full lists own order cond within f (none k) k))
    (λ k. f.full k x h)
    (before_or_past (length order) (length lists))

-- the order of a net, whose reads the lists are
pub order_of_net : (lists : List (List ℕ)) (R : ℕ → ℕ → Bool) (own n : ℕ) (order : List ℕ) → ((x y : ℕ) → reads_in lists x y ≡ R x y) → length lists ≡ n
    → ((c y : ℕ) → own ≤ c → R c y ≡ true → y < own) → ((x y : ℕ) → R x y ≡ true → y < n) → Furthest lists order
    → (length order < length lists → NoLoops (ReadsOver (reads_in lists) own)) → IsOrder R n order
order_of_net lists R own n order e l cond within f none = record {
  follows = follows_same (reads_in lists) R e [] order f.follows;
  all = λ x h. all_in lists own order (λ c y o r. cond c y o (sym (e c y) ∙ r)) (λ x y r. subst (λ q. y < q) (sym l) (within x y (sym (e x y) ∙ r))) f none x (subst (λ q. x < q) (sym l) h);
  own = λ x h. subst (λ q. x < q) l (f.own x h);
}

pub no_loops_of_order : (R : ℕ → ℕ → Bool) (own n : ℕ) (order : List ℕ) → own ≤ n → IsOrder R n order → NoLoops (ReadsOver R own)
no_loops_of_order R own n order h o x other l = ordered_no_loop R own order o.follows x other (o.all x (let q : x < own = reader other l.some l.leads in omega (arith, q, h))) l
  where
    reader : (xs : List ℕ) → 0 < length xs → Leads (ReadsOver R own) x xs x → x < own
    reader [] s k = absurd (omega (arith, s))
    reader (y ∷ ys) s k = k.2.reader

pub named_same : (R S : ℕ → ℕ → Bool) (own : ℕ) → ((x y : ℕ) → R x y ≡ S x y) → (x : ℕ) (xs : List ℕ) → IsNamedLoop (ReadsOver R own) x xs → IsNamedLoop (ReadsOver S own) x xs
named_same R S own e x xs n = named_map (ReadsOver R own) (ReadsOver S own) (over_same R S own e) (over_same S R own (λ a b. sym (e a b))) x xs n

pub none_holds : {V : Type 0} (P : Type 0) (o : Option V) → o ≡ None → IfNone o P → P
none_holds P o e h = subst (λ q. IfNone q P) e h

pub some_holds : {V : Type 0} (P : V → Type 0) (o : Option V) (v : V) → o ≡ Some v → IfSome o P → P v
some_holds P o v e h = subst (λ q. IfSome q P) e h

pub chain_map : (G H : ℕ → ℕ → Type 0) → ((x y : ℕ) → G x y → H x y) → ((x y : ℕ) → H x y → G x y) → (x p : ℕ) (xs : List ℕ) → IsNamedChain G x p xs → IsNamedChain H x p xs
chain_map G H f g x p xs n = record {
  is_chain = (n.is_chain.0, leads_map G H f x n.is_chain.0 p n.is_chain.1, n.is_chain.2);
  shortest = λ other l. n.shortest other (l.0, leads_map H G g x l.0 p l.1, l.2);
  least = λ other l e. n.least other (l.0, leads_map H G g x l.0 p l.1, l.2) e;
}
