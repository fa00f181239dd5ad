-- Sets of inputs.
use Rattle.std.proofs.Common.{◌≡◌, ◌∙◌, sym, ap, subst, ℕ, zero, suc, ◌+◌, ◌-◌, ◌^◌, ◌<◌, ◌≤◌, Bool, true, false, List, [], ◌∷◌, ◌||◌, ◌&&◌, nat_eq, nat_lt, ◌⊎◌, inl, inr, refl, arith, ⊎_elim, length, take, drop, drop-cons, add-one, get_or, set, max, if◌then◌else◌}
use Rattle.std.proofs.lemmas.Bool.{eq-eqb, eqb-true, cases_eq, ne_eqb, or_cases, or_left, or_right}
use Rattle.std.proofs.lemmas.Nat.Bits.{bit_at_or, bit_at-zero, bit_at-pow_same, bit_at-pow_other, bit_at-lt}
use Rattle.std.specs.Int.{bit_at}
use Rattle.std.specs.Int.Bits.{bit_or}
use Rattle.net_graph.specs.declared.inputs.InputSet.{InputSet}
use Rattle.net_graph.specs.Reaching.{in_set, in_row_of, RightAt, Reached, itself, by, DependsOn}
use Rattle.net_core.specs.Rules.{has}
use Rattle.net_core.specs.declared.ports.Signal.{Signal}
use Rattle.net_graph.specs.Graphs.{reads_in, Follows, IsOrder}
use Rattle.net_graph.specs.NetGraphs.{numbers, ReadsOver, OwnReads}
use Rattle.net_graph.specs.Loops.{Leads, IsNamedChain}
use Rattle.net_core.specs.declared.tree.Net.{Net}
use Rattle.net_core.specs.Nets.{net_reads}
use Rattle.net_graph.specs.declared.cones.Cones.{Cones}
use Rattle.std.specs.Prelude.{◌↔◌}
use Rattle.net_graph.proofs.HasFacts.{has_head, has_take}
use Rattle.net_graph.specs.Uniting.{in_one_of}
use Rattle.net_graph.proofs.SearchFacts.{before_or_past}
use Rattle.net_graph.proofs.OwnFacts.{lt_true, lt_false, over_same, leads_map, chain_map}

-- a bit of a union
either_bit : (m n : ℕ) → m < 2 → n < 2 → nat_eq (max m n) 1 ≡ (nat_eq m 1 || nat_eq n 1)
either_bit zero zero h k = refl
either_bit zero (suc zero) h k = refl
either_bit (suc zero) zero h k = refl
either_bit (suc zero) (suc zero) h k = refl
either_bit zero (suc (suc n)) h k = absurd (omega (arith, k))
either_bit (suc (suc m)) n h k = absurd (omega (arith, h))
either_bit (suc zero) (suc (suc n)) h k = absurd (omega (arith, k))

bit_of_or : (a b i : ℕ) → nat_eq (bit_at (bit_or a b) i) 1 ≡ (nat_eq (bit_at a i) 1 || nat_eq (bit_at b i) 1)
bit_of_or a b i = ap (λ n. nat_eq n 1) (bit_at_or a b i) ∙ either_bit (bit_at a i) (bit_at b i) (bit_at-lt a i) (bit_at-lt b i)

and_or : (c a b : Bool) → (c && (a || b)) ≡ ((c && a) || (c && b))
and_or true a b = refl
and_or false a b = refl

choose_or : (c a b x y : Bool) → (if c then (a || b) else (x || y)) ≡ ((if c then a else x) || (if c then b else y))
choose_or true a b x y = refl
choose_or false a b x y = refl

pub union_has : (s t u : InputSet) → u.low ≡ bit_or s.low t.low → u.high ≡ bit_or s.high t.high → (p : ℕ) → in_set u p ≡ (in_set s p || in_set t p)
union_has s t u l h p =
    ap (λ n. if nat_lt p 128 then nat_eq (bit_at n p) 1 else (nat_lt p 256 && nat_eq (bit_at u.high (p - 128)) 1)) l
    ∙ ap (λ n. if nat_lt p 128 then nat_eq (bit_at (bit_or s.low t.low) p) 1 else (nat_lt p 256 && nat_eq (bit_at n (p - 128)) 1)) h
    ∙ ap (λ b. if nat_lt p 128 then b else (nat_lt p 256 && nat_eq (bit_at (bit_or s.high t.high) (p - 128)) 1)) (bit_of_or s.low t.low p)
    ∙ ap (λ b. if nat_lt p 128 then (nat_eq (bit_at s.low p) 1 || nat_eq (bit_at t.low p) 1) else (nat_lt p 256 && b)) (bit_of_or s.high t.high (p - 128))
    ∙ ap (λ b. if nat_lt p 128 then (nat_eq (bit_at s.low p) 1 || nat_eq (bit_at t.low p) 1) else b) (and_or (nat_lt p 256) (nat_eq (bit_at s.high (p - 128)) 1) (nat_eq (bit_at t.high (p - 128)) 1))
    ∙ choose_or (nat_lt p 128) (nat_eq (bit_at s.low p) 1) (nat_eq (bit_at t.low p) 1) (nat_lt p 256 && nat_eq (bit_at s.high (p - 128)) 1) (nat_lt p 256 && nat_eq (bit_at t.high (p - 128)) 1)

or_assoc : (a b c : Bool) → ((a || b) || c) ≡ (a || (b || c))
or_assoc true b c = refl
or_assoc false b c = refl

pub union_next : (list : List ℕ) (sets : List InputSet) (i : ℕ) (now s u : InputSet) (whole : ℕ → Bool) → i < length list → ((p : ℕ) → in_set s p ≡ in_row_of sets (get_or list i 0) p)
    → ((p : ℕ) → in_set u p ≡ (in_set now p || in_set s p)) → ((p : ℕ) → (in_set now p || in_one_of (drop i list) sets p) ≡ whole p)
    → (p : ℕ) → (in_set u p || in_one_of (drop (i + 1) list) sets p) ≡ whole p
union_next list sets i now s u whole h e g w p =
    let n : drop i list ≡ get_or list i 0 ∷ drop (i + 1) list = rw (drop-cons list i 0, add-one i) refl in
    ap (λ b. b || in_one_of (drop (i + 1) list) sets p) (g p ∙ ap (λ b. in_set now p || b) (e p))
    ∙ or_assoc (in_set now p) (in_row_of sets (get_or list i 0) p) (in_one_of (drop (i + 1) list) sets p)
    ∙ ap (λ b. in_set now p || b) (sym (ap (λ (t : List ℕ). in_one_of t sets p) n))
    ∙ w p

abbrev pub set_of : ℕ → ℕ → InputSet
set_of l h = record { low = l; high = h }

no_bit : (i : ℕ) → nat_eq (bit_at 0 i) 1 ≡ false
no_bit i = ap (λ n. nat_eq n 1) (bit_at-zero i)

one_bit : (k i : ℕ) → i ≡ k → nat_eq (bit_at (2 ^ k) i) 1 ≡ true
one_bit k i e = ap (λ n. nat_eq n 1) (ap (λ j. bit_at (2 ^ k) j) e ∙ bit_at-pow_same k)

other_bit : (k i : ℕ) → (i ≡ k → ⊥) → nat_eq (bit_at (2 ^ k) i) 1 ≡ false
other_bit k i n = ap (λ m. nat_eq m 1) (bit_at-pow_other k i n)

and_false : (a : Bool) → (a && false) ≡ false
and_false true = refl
and_false false = refl

same_bit : (k p : ℕ) → nat_eq (bit_at (2 ^ k) p) 1 ≡ nat_eq p k
same_bit k p = ⊎_elim (λ e. one_bit k p e ∙ sym (eq-eqb p k e)) (λ n. other_bit k p n ∙ sym (ne_eqb p k n)) (cases_eq p k)

below : (l h p : ℕ) → p < 128 → in_set (set_of l h) p ≡ nat_eq (bit_at l p) 1
below l h p b = ap (λ c. if c then nat_eq (bit_at l p) 1 else (nat_lt p 256 && nat_eq (bit_at h (p - 128)) 1)) (lt_true p 128 b)

above : (l h p : ℕ) → 128 ≤ p → in_set (set_of l h) p ≡ (nat_lt p 256 && nat_eq (bit_at h (p - 128)) 1)
above l h p b = ap (λ c. if c then nat_eq (bit_at l p) 1 else (nat_lt p 256 && nat_eq (bit_at h (p - 128)) 1)) (lt_false p 128 b)

pub one_low : (k p : ℕ) → k < 128 → in_set (set_of (2 ^ k) 0) p ≡ nat_eq p k
one_low k p h = ⊎_elim
    (λ b. below (2 ^ k) 0 p b ∙ same_bit k p)
    (λ b. above (2 ^ k) 0 p b ∙ ap (λ q. nat_lt p 256 && q) (no_bit (p - 128)) ∙ and_false (nat_lt p 256) ∙ sym (ne_eqb p k (λ e. absurd (omega (arith, b, h, e)))))
    (before_or_past p 128)

pub one_high : (k p : ℕ) → 128 ≤ k → k < 256 → in_set (set_of 0 (2 ^ (k - 128))) p ≡ nat_eq p k
one_high k p h t = ⊎_elim
    (λ b. below 0 (2 ^ (k - 128)) p b ∙ no_bit p ∙ sym (ne_eqb p k (λ e. absurd (omega (arith, b, h, e)))))
    (λ b. above 0 (2 ^ (k - 128)) p b ∙ far (before_or_past p 256) b)
    (before_or_past p 128)
  where
    shifted : (p ≡ k) ⊎ (p ≡ k → ⊥) → 128 ≤ p → nat_eq (bit_at (2 ^ (k - 128)) (p - 128)) 1 ≡ nat_eq p k
    shifted (inl e) b = one_bit (k - 128) (p - 128) (ap (λ q. q - 128) e) ∙ sym (eq-eqb p k e)
    shifted (inr n) b = other_bit (k - 128) (p - 128) (λ e. n (omega (arith, e, b, h))) ∙ sym (ne_eqb p k n)

    far : (p < 256) ⊎ (256 ≤ p) → 128 ≤ p → (nat_lt p 256 && nat_eq (bit_at (2 ^ (k - 128)) (p - 128)) 1) ≡ nat_eq p k
    far (inl a) b = ap (λ c. c && nat_eq (bit_at (2 ^ (k - 128)) (p - 128)) 1) (lt_true p 256 a) ∙ shifted (cases_eq p k) b
    far (inr a) b = ap (λ c. c && nat_eq (bit_at (2 ^ (k - 128)) (p - 128)) 1) (lt_false p 256 a) ∙ sym (ne_eqb p k (λ e. absurd (omega (arith, a, t, e))))

-- ---- sets of all numbers, in an order
and_right : (a b : Bool) → (a && b) ≡ true → b ≡ true
and_right true b h = h
and_right false b h = absurd cc

and_both : (a b : Bool) → a ≡ true → b ≡ true → (a && b) ≡ true
and_both true b h k = k
and_both false b h k = absurd cc

pub number_at : (xs : List Signal) (i : ℕ) → get_or (numbers xs) i 0 ≡ (get_or xs i (record { 0 = 0 })).0
number_at [] i = refl
number_at (x ∷ xs) zero = refl
number_at (x ∷ xs) (suc i) = number_at xs i

pub numbers_length : (xs : List Signal) → length (numbers xs) ≡ length xs
numbers_length [] = refl
numbers_length (x ∷ xs) = ap suc (numbers_length xs)

earlier_at : (reads : ℕ → ℕ → Bool) (seen xs : List ℕ) (i y : ℕ) → Follows reads seen xs → i < length xs → reads (get_or xs i 0) y ≡ true → (has seen y ≡ true) ⊎ (has (take i xs) y ≡ true)
earlier_at reads seen [] i y f h r = absurd (omega (arith, h))
earlier_at reads seen (x ∷ xs) zero y f h r = inl (f.1 y r)
earlier_at reads seen (x ∷ xs) (suc i) y f h r = ⊎_elim
    (λ a. ⊎_elim (λ e. inr (or_left (nat_eq y x) (has (take i xs) y) e)) (λ m. inl m) (or_cases (nat_eq y x) (has seen y) a))
    (λ b. inr (or_right (nat_eq y x) (has (take i xs) y) b))
    (earlier_at reads (x ∷ seen) xs i y f.2 (omega (arith, h)) r)

pub reads_earlier : (reads : ℕ → ℕ → Bool) (xs : List ℕ) (i y : ℕ) → Follows reads [] xs → i < length xs → reads (get_or xs i 0) y ≡ true → has (take i xs) y ≡ true
reads_earlier reads xs i y f h r = ⊎_elim (λ a. absurd (none y a)) (λ b. b) (earlier_at reads [] xs i y f h r)
  where
    none : (y : ℕ) → has [] y ≡ true → ⊥
    none y m = cc

set_same : (sets : List InputSet) (x p : ℕ) (s : InputSet) → x < length sets → in_row_of (set sets x s) x p ≡ in_set s p
set_same [] x p s h = absurd (omega (arith, h))
set_same (a ∷ rest) zero p s h = refl
set_same (a ∷ rest) (suc x) p s h = set_same rest x p s (omega (arith, h))

set_other : (sets : List InputSet) (x y p : ℕ) (s : InputSet) → (y ≡ x → ⊥) → in_row_of (set sets x s) y p ≡ in_row_of sets y p
set_other [] x y p s n = refl
set_other (a ∷ rest) zero zero p s n = absurd (n refl)
set_other (a ∷ rest) zero (suc y) p s n = refl
set_other (a ∷ rest) (suc x) zero p s n = refl
set_other (a ∷ rest) (suc x) (suc y) p s n = set_other rest x y p s (λ e. n (ap suc e))

one_of_some : (ys : List ℕ) (sets : List InputSet) (p : ℕ) → in_one_of ys sets p ≡ true → (y : ℕ) × (has ys y ≡ true) × (in_row_of sets y p ≡ true)
one_of_some [] sets p h = absurd cc
one_of_some (y ∷ ys) sets p h = ⊎_elim
    (λ a. (y, has_head y ys, a))
    (λ b. let r = one_of_some ys sets p b in (r.0, or_right (nat_eq r.0 y) (has ys r.0) r.1, r.2))
    (or_cases (in_row_of sets y p) (in_one_of ys sets p) h)

some_one_of : (ys : List ℕ) (sets : List InputSet) (p y : ℕ) → has ys y ≡ true → in_row_of sets y p ≡ true → in_one_of ys sets p ≡ true
some_one_of [] sets p y h r = absurd cc
some_one_of (a ∷ rest) sets p y h r = ⊎_elim
    (λ e. or_left (in_row_of sets a p) (in_one_of rest sets p) (subst (λ q. in_row_of sets q p ≡ true) (eqb-true y a e) r))
    (λ m. or_right (in_row_of sets a p) (in_one_of rest sets p) (some_one_of rest sets p y m r))
    (or_cases (nat_eq y a) (has rest y) h)

pub set_right : (lists : List (List ℕ)) (inputs : ℕ → Bool) (order : List ℕ) (i : ℕ) (sets : List InputSet) (s : InputSet) → Follows (reads_in lists) [] order → i < length order → get_or order i 0 < length sets
    → ((p : ℕ) → in_set s p ≡ ((inputs (get_or order i 0) && nat_eq p (get_or order i 0)) || in_one_of (get_or lists (get_or order i 0) []) sets p))
    → ((x : ℕ) → has (take i order) x ≡ true → RightAt (reads_in lists) inputs sets x)
    → (x : ℕ) → has (take (i + 1) order) x ≡ true → RightAt (reads_in lists) inputs (set sets (get_or order i 0) s) x
set_right lists inputs order i sets s f h b e done x m = at (cases_eq x (get_or order i 0))
  where
    sound_at : (z p : ℕ) → inputs p ≡ true → ((inputs z && nat_eq p z) || in_one_of (get_or lists z []) sets p) ≡ true
        → ((y : ℕ) → reads_in lists z y ≡ true → has (take i order) y ≡ true) → Reached (reads_in lists) p z
    sound_at z p ip t before = ⊎_elim
        (λ c. subst (λ q. Reached (reads_in lists) p q) (eqb-true p z (and_right (inputs z) (nat_eq p z) c)) itself)
        (λ c. let y = one_of_some (get_or lists z []) sets p c in by z y.0 y.1 ((done y.0 (before y.0 y.1) p ip).0 y.2))
        (or_cases (inputs z && nat_eq p z) (in_one_of (get_or lists z []) sets p) t)

    whole_at : (z p : ℕ) → inputs p ≡ true → Reached (reads_in lists) p z → ((y : ℕ) → reads_in lists z y ≡ true → has (take i order) y ≡ true)
        → ((inputs z && nat_eq p z) || in_one_of (get_or lists z []) sets p) ≡ true
    whole_at z p ip itself before = or_left (inputs p && nat_eq p p) (in_one_of (get_or lists p []) sets p) (and_both (inputs p) (nat_eq p p) ip (eq-eqb p p refl))
    whole_at z p ip (by _ y r t) before =
        or_right (inputs z && nat_eq p z) (in_one_of (get_or lists z []) sets p) (some_one_of (get_or lists z []) sets p y r ((done y (before y r) p ip).1 t))

    at : (x ≡ get_or order i 0) ⊎ (x ≡ get_or order i 0 → ⊥) → RightAt (reads_in lists) inputs (set sets (get_or order i 0) s) x
    at (inl q) = subst (λ z. RightAt (reads_in lists) inputs (set sets (get_or order i 0) s) z) (sym q) (λ p ip. (
      (λ k. sound_at (get_or order i 0) p ip (sym (e p) ∙ sym (set_same sets (get_or order i 0) p s b) ∙ k) (λ y r. reads_earlier (reads_in lists) order i y f h r)),
      (λ k. set_same sets (get_or order i 0) p s b ∙ e p ∙ whole_at (get_or order i 0) p ip k (λ y r. reads_earlier (reads_in lists) order i y f h r)),
    ))
    at (inr n) = λ p ip.
        let d = done x (⊎_elim (λ k. k) (λ q. absurd (n q)) (has_take order i 0 x h m)) p ip in
        ((λ k. d.0 (sym (set_other sets (get_or order i 0) x p s n) ∙ k)), (λ k. set_other sets (get_or order i 0) x p s n ∙ d.1 k))

pub reached_same : (R S : ℕ → ℕ → Bool) → ((x y : ℕ) → R x y ≡ S x y) → (p x : ℕ) → Reached R p x → Reached S p x
reached_same R S e p x itself = itself
reached_same R S e p x (by _ y r t) = by x y (sym (e x y) ∙ r) (reached_same R S e p y t)

order_same : (R S : ℕ → ℕ → Bool) → ((x y : ℕ) → R x y ≡ S x y) → (seen xs : List ℕ) → Follows R seen xs → Follows S seen xs
order_same R S e seen [] f = tt
order_same R S e seen (x ∷ xs) f = (f.0, (λ y r. f.1 y (e x y ∙ r)), order_same R S e (x ∷ seen) xs f.2)

pub order_to : (R S : ℕ → ℕ → Bool) → ((x y : ℕ) → R x y ≡ S x y) → (n m : ℕ) → n ≡ m → (order : List ℕ) → IsOrder R n order → IsOrder S m order
order_to R S e n m q order o = record {
  follows = order_same R S e [] order o.follows;
  all = λ x h. o.all x (subst (λ t. x < t) (sym q) h);
  own = λ x h. subst (λ t. x < t) q (o.own x h);
}

pub right_same : (R S : ℕ → ℕ → Bool) → ((x y : ℕ) → R x y ≡ S x y) → (b : Bool) (p x : ℕ) → (b ≡ true) ↔ Reached R p x → (b ≡ true) ↔ Reached S p x
right_same R S e b p x r = ((λ k. reached_same R S e p x (r.0 k)), (λ k. r.1 (reached_same S R (λ y z. sym (e y z)) p x k)))

-- what is reached is led to by signals of the circuit
reached_way : (reads : ℕ → ℕ → Bool) (own : ℕ) → ((c y : ℕ) → own ≤ c → reads c y ≡ true → y < own) → (p : ℕ) → p < own → (x : ℕ) → Reached reads p x
    → (x < own → (xs : List ℕ) × Leads (ReadsOver reads own) x xs p) × (own ≤ x → (z : ℕ) → z < own → reads z x ≡ true → (xs : List ℕ) × Leads (ReadsOver reads own) z xs p)
reached_way reads own cond p hp x itself = ((λ h. ([], refl)), (λ o z h q. absurd (omega (arith, o, hp))))
reached_way reads own cond p hp x (by _ y r t) = go (reached_way reads own cond p hp y t) (before_or_past y own)
  where
    go : (y < own → (xs : List ℕ) × Leads (ReadsOver reads own) y xs p) × (own ≤ y → (z : ℕ) → z < own → reads z y ≡ true → (xs : List ℕ) × Leads (ReadsOver reads own) z xs p) → (y < own) ⊎ (own ≤ y)
        → (x < own → (xs : List ℕ) × Leads (ReadsOver reads own) x xs p) × (own ≤ x → (z : ℕ) → z < own → reads z x ≡ true → (xs : List ℕ) × Leads (ReadsOver reads own) z xs p)
    go w (inl b) = (
      (λ h. let v = w.0 b in (x ∷ v.0, (refl, y, record { reader = h; read = b; way = inl r }, v.1))),
      (λ o z h q. let v = w.0 b in (z ∷ v.0, (refl, y, record { reader = h; read = b; way = inr (x, o, q, r) }, v.1))),
    )
    go w (inr b) = ((λ h. w.1 b x h r), (λ o z h q. absurd (let k : y < own = cond x y o r in omega (arith, b, k))))

pub reached_leads : (reads : ℕ → ℕ → Bool) (own : ℕ) → ((c y : ℕ) → own ≤ c → reads c y ≡ true → y < own) → (p x : ℕ) → p < own → x < own → Reached reads p x
    → (xs : List ℕ) × Leads (ReadsOver reads own) x xs p
reached_leads reads own cond p x hp hx t = (reached_way reads own cond p hp x t).0 hx

-- ---- chains
own_to : (net : Net) (table : Cones) (x p : ℕ) → DependsOn net table x p → (a b : ℕ) → ReadsOver (reads_in table.lists) table.own a b → OwnReads net a b
own_to net table x p d a b r = subst (λ o. ReadsOver (net_reads net) o a b) d.of_net.own (over_same (reads_in table.lists) (net_reads net) table.own d.of_net.reads a b r)

own_from : (net : Net) (table : Cones) (x p : ℕ) → DependsOn net table x p → (a b : ℕ) → OwnReads net a b → ReadsOver (reads_in table.lists) table.own a b
own_from net table x p d a b r = over_same (net_reads net) (reads_in table.lists) table.own (λ u v. sym (d.of_net.reads u v)) a b
    (subst (λ o. ReadsOver (net_reads net) o a b) (sym d.of_net.own) r)

-- what a search for a chain asks of the table
pub record ChainTable (table : Cones) (x p : ℕ) : Type 0 where
  pub few : length table.lists < 2 ^ 32
  pub own : table.own ≤ length table.lists
  pub input : p < table.own
  pub leads : (xs : List ℕ) × Leads (ReadsOver (reads_in table.lists) table.own) x xs p

pub chain_table : (net : Net) (table : Cones) (x p : ℕ) → DependsOn net table x p → ChainTable table x p
chain_table net table x p d = record {
  few = subst (λ n. n < 2 ^ 32) (sym d.of_net.lists) d.numbered.few;
  own = subst (λ n. table.own ≤ n) (sym d.of_net.lists) (subst (λ n. n ≤ length net.signals) (sym d.of_net.own) d.numbered.own);
  input = subst (λ n. p < n) (sym d.of_net.own) d.own_input;
  leads =
      let s : x < net.own = d.signal in
      let o : net.own ≤ length net.signals = d.numbered.own in
      let w = reached_leads (net_reads net) net.own d.numbered.conditions p x d.own_input d.signal ((d.of_net.cones x p (omega (arith, s, o)) d.input).0 d.has) in
      (w.0, leads_map (OwnReads net) (ReadsOver (reads_in table.lists) table.own) (own_from net table x p d) x w.0 p w.1);
}

pub chain_of : (net : Net) (table : Cones) (x p : ℕ) → DependsOn net table x p → (xs : List ℕ) → IsNamedChain (ReadsOver (reads_in table.lists) table.own) x p xs → IsNamedChain (OwnReads net) x p xs
chain_of net table x p d xs n = chain_map (ReadsOver (reads_in table.lists) table.own) (OwnReads net) (own_to net table x p d) (own_from net table x p d) x p xs n
