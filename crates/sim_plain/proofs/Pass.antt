-- A pass in the order meets the equations.
use Rattle.std.proofs.Common.{◌≡◌, ◌∙◌, sym, ap, subst, ℕ, zero, suc, ◌+◌, ◌<◌, ◌≤◌, ◌^◌, true, false, List, [], ◌∷◌, ◌++◌, Option, Some, None, refl, nat_eq, drop, get_or, length, ◌⊎◌, inl, inr, ⊎_elim, arith, take, replicate}
use Rattle.std.specs.Prelude.{slice_index, slice_set, unwrap_or}
use Rattle.std.proofs.lemmas.Bool.{or_cases, or_left, or_right, eq-eqb, ne_eqb, cases_eq}
use Rattle.std.proofs.lemmas.List.{get_or-set_same, get_or-set_other, take_more, length-take, length-set, drop_more}
use Rattle.std.proofs.Math.ListN.{drop_of_length-le}
use Rattle.std.proofs.lemmas.Nat.{pow_pos}
use Rattle.tb_base.specs.Word.{Word, value_of}
use Rattle.tb_base.specs.Row.{no_word}
use Rattle.tb_base.proofs.Words.{low_bits-lt}
use Rattle.net_core.specs.declared.ports.Signal.{Signal}
use Rattle.net_core.specs.declared.tree.SignalInfo.{SignalInfo}
use Rattle.net_core.specs.declared.tree.Net.{Net}
use Rattle.net_core.specs.declared.tree.Equation.{Equation}
use Rattle.net_core.specs.declared.tree.Equation.TheVariants.{Input, Comb, Reg}
use Rattle.net_core.specs.Signals.{info, given_width}
use Rattle.net_core.specs.Settled.{fitted, connected}
use Rattle.net_core.specs.Nets.{equation, by_equation, equation_reads, net_reads, next_by, next_value, chosen, choices_of}
use Rattle.net_core.specs.Engines.{SettledNet, next_values}
use Rattle.net_core.specs.Rules.{Rules, has, put}
use Rattle.net_core.proofs.RulesFacts.{Good, step_good, put_same, put_other}
use Rattle.sim_plain.specs.Words.{at}
use Rattle.sim_plain.specs.Ready.{Kept, Follows, InOrder, numbers}
use Rattle.sim_plain.proofs.Choosing.{chosen_local}

-- the equations as rules

pub equation_local : (q : Equation) (signals : List SignalInfo) (x : ℕ) (ins regs V W : ℕ → ℕ) → ((y : ℕ) → equation_reads q y ≡ true → V y ≡ W y)
    → by_equation q signals x ins regs V ≡ by_equation q signals x ins regs W
equation_local Input signals x ins regs V W h = refl
equation_local (Comb choices) signals x ins regs V W h =
    ap (λ (o : Option Word). fitted (info signals x) (unwrap_or o no_word)) (chosen_local signals V W (choices_of choices) None None h refl)
equation_local (Reg next) signals x ins regs V W h = refl

abbrev pub net_rules : Net → (ins regs : List ℕ) → Rules
net_rules net ins regs = record {
  value = λ x V. by_equation (equation net x) net.signals x (at ins) (at regs) V;
  reads = net_reads net;
  local = λ x V W h. equation_local (equation net x) net.signals x (at ins) (at regs) V W h;
}

-- what stays within the widths

pub kept_set : (net : Net) (xs : List ℕ) (x v : ℕ) → Kept net xs → x < length xs → v < 2 ^ given_width (info net.signals x) → Kept net (slice_set xs x v)
kept_set net xs x v k h b = record {
  places = same ∙ k.places;
  widths = λ y. ⊎_elim
      (λ e. subst (λ t. at (slice_set xs x v) t < 2 ^ given_width (info net.signals t)) (sym e) (subst (λ n. n < 2 ^ given_width (info net.signals x)) (sym (get_or-set_same xs x v 0 h)) b))
      (λ ne. subst (λ n. n < 2 ^ given_width (info net.signals y)) (sym (get_or-set_other xs x y v 0 ne)) (k.widths y))
      (cases_eq y x);
}
  where
    same : length (slice_set xs x v) ≡ length xs
    same = length-set xs x v

equation_within : (q : Equation) (signals : List SignalInfo) (x : ℕ) (ins regs V : ℕ → ℕ) → ins x < 2 ^ given_width (info signals x) → regs x < 2 ^ given_width (info signals x)
    → by_equation q signals x ins regs V < 2 ^ given_width (info signals x)
equation_within Input signals x ins regs V h k = h
equation_within (Comb choices) signals x ins regs V h k = low_bits-lt (given_width (info signals x)) (value_of (unwrap_or (chosen signals V (choices_of choices) None) no_word))
equation_within (Reg next) signals x ins regs V h k = k

next_within : (q : Equation) (signals : List SignalInfo) (x : ℕ) (V : ℕ → ℕ) (old : ℕ) → old < 2 ^ given_width (info signals x) → next_by q signals x V old < 2 ^ given_width (info signals x)
next_within Input signals x V old h = h
next_within (Comb choices) signals x V old h = h
next_within (Reg next) signals x V old h = step (chosen signals V (choices_of next) None)
  where
    step : (o : Option Word) → connected (info signals x) o old < 2 ^ given_width (info signals x)
    step None = h
    step (Some w) = low_bits-lt (given_width (info signals x)) (value_of w)

-- the pass

pub record Pass (net : Net) (ins regs left values : List ℕ) : Type 0 where
  pub seen : List ℕ
  pub good : Good (net_rules net ins regs) seen (at values)
  pub ordered : Follows net seen left
  pub all : (x : ℕ) → x < length net.signals → (has seen x ≡ true) ⊎ (has left x ≡ true)
  pub own : (x : ℕ) → has left x ≡ true → x < length net.signals
  pub kept : Kept net values

pub begins : (net : Net) (ins regs order values : List ℕ) → InOrder net order → Kept net values → Pass net ins regs order values
begins net ins regs order values o k = record {
  seen = [];
  good = record { closed = λ y z h r. cc; meets = λ y h. cc };
  ordered = o.follows;
  all = λ x h. inr (o.all x h);
  own = o.own;
  kept = k;
}

good_same : (R : Rules) (seen : List ℕ) (V W : ℕ → ℕ) → ((y : ℕ) → V y ≡ W y) → Good R seen V → Good R seen W
good_same R seen V W e g = record { closed = g.closed; meets = λ y h. sym (e y) ∙ g.meets y h ∙ R.local y V W (λ z r. e z) }

at_set : (vs : List ℕ) (x v y : ℕ) → x < length vs → put x v (at vs) y ≡ at (slice_set vs x v) y
at_set vs x v y h = ⊎_elim
    (λ e. subst (λ t. put x v (at vs) t ≡ at (slice_set vs x v) t) (sym e) (put_same x v (at vs) ∙ sym (get_or-set_same vs x v 0 h)))
    (λ ne. put_other x v y (at vs) (ne_eqb y x ne) ∙ sym (get_or-set_other vs x y v 0 ne))
    (cases_eq y x)

one_more : (net : Net) (ins regs : List ℕ) (x : ℕ) (left values : List ℕ) → Kept net ins → Kept net regs → Pass net ins regs (x ∷ left) values
    → Pass net ins regs left (slice_set values x (by_equation (equation net x) net.signals x (at ins) (at regs) (at values)))
one_more net ins regs x left values ki kr p = record {
  seen = x ∷ p.seen;
  good = good_same (net_rules net ins regs) (x ∷ p.seen) (put x v (at values)) (at (slice_set values x v)) (λ y. at_set values x v y placed)
      (step_good (net_rules net ins regs) p.seen x (at values) p.ordered.0 p.ordered.1 p.good);
  ordered = p.ordered.2;
  all = λ y h. ⊎_elim
      (λ s. inl (or_right (nat_eq y x) (has p.seen y) s))
      (λ l. ⊎_elim (λ e. inl (or_left (nat_eq y x) (has p.seen y) e)) (λ m. inr m) (or_cases (nat_eq y x) (has left y) l))
      (p.all y h);
  own = λ y h. p.own y (or_right (nat_eq y x) (has left y) h);
  kept = kept_set net values x v p.kept placed (equation_within (equation net x) net.signals x (at ins) (at regs) (at values) (ki.widths x) (kr.widths x));
}
  where
    v : ℕ
    v = by_equation (equation net x) net.signals x (at ins) (at regs) (at values)

    placed : x < length values
    placed = subst (λ n. x < n) (sym p.kept.places) (p.own x (or_left (nat_eq x x) (has left x) (eq-eqb x x refl)))

head_of : (order : List Signal) (i : ℕ) (s d : Signal) → i < length order → s ≡ get_or order i d → numbers (drop i order) ≡ s.0 ∷ numbers (drop (i + 1) order)
head_of order i s d h e = ap numbers n
  where
    n : drop i order ≡ s ∷ drop (i + 1) order
    n = drop_more order i d h ∙ ap (λ (t : Signal). t ∷ drop (i + 1) order) (sym e)

pub pass_next : (net : Net) (ins regs : List ℕ) (order : List Signal) (i : ℕ) (s d : Signal) (values now : List ℕ) → i < length order → s ≡ get_or order i d → Kept net ins → Kept net regs
    → now ≡ slice_set values s.0 (by_equation (equation net s.0) net.signals s.0 (at ins) (at regs) (at values))
    → Pass net ins regs (numbers (drop i order)) values → Pass net ins regs (numbers (drop (i + 1) order)) now
pass_next net ins regs order i s d values now h e ki kr w p =
    subst (λ (vs : List ℕ). Pass net ins regs (numbers (drop (i + 1) order)) vs) (sym w)
    (one_more net ins regs s.0 (numbers (drop (i + 1) order)) values ki kr (subst (λ (xs : List ℕ). Pass net ins regs xs values) (head_of order i s d h e) p))

pub pass_below : (net : Net) (ins regs : List ℕ) (order : List Signal) (i : ℕ) (s d : Signal) (values : List ℕ) → i < length order → s ≡ get_or order i d
    → Pass net ins regs (numbers (drop i order)) values → s.0 < length net.signals
pass_below net ins regs order i s d values h e p =
    p.own s.0 (ap (λ (xs : List ℕ). has xs s.0) (head_of order i s d h e) ∙ or_left (nat_eq s.0 s.0) (has (numbers (drop (i + 1) order)) s.0) (eq-eqb s.0 s.0 refl))

pub passed : (net : Net) (ins regs left values : List ℕ) → left ≡ [] → Pass net ins regs left values → SettledNet net ins regs (at values)
passed net ins regs left values e p = λ x h. ⊎_elim
    (λ s. p.good.meets x s)
    (λ l. absurd (none (ap (λ (xs : List ℕ). has xs x) (sym e) ∙ l)))
    (p.all x h)
  where
    none : false ≡ true → ⊥
    none q = cc

pub passed_all : (net : Net) (ins regs : List ℕ) (order : List Signal) (i : ℕ) (values : List ℕ) → length order ≤ i → Pass net ins regs (numbers (drop i order)) values → SettledNet net ins regs (at values)
passed_all net ins regs order i values h p = passed net ins regs (numbers (drop i order)) values (ap numbers gone) p
  where
    gone : drop i order ≡ []
    gone = drop_of_length-le order h

-- the edge

next-append : (net : Net) (V : ℕ → ℕ) (n : ℕ) (rs : List ℕ) (r : ℕ) → next_values net V n (rs ++ r ∷ []) ≡ next_values net V n rs ++ next_value net (n + length rs) V r ∷ []
next-append net V n [] r = ap (λ m. next_value net m V r ∷ []) (plain n)
  where
    plain : (m : ℕ) → m ≡ m + 0
    plain m = omega arith
next-append net V n (q ∷ rs) r = ap (λ t. next_value net n V q ∷ t) (next-append net V (n + 1) rs r ∙ ap (λ m. next_values net V (n + 1) rs ++ next_value net m V r ∷ []) (shift n (length rs)))
  where
    shift : (a b : ℕ) → a + 1 + b ≡ a + suc b
    shift a b = omega arith

next_length : (net : Net) (V : ℕ → ℕ) (n : ℕ) (rs : List ℕ) → length (next_values net V n rs) ≡ length rs
next_length net V n [] = refl
next_length net V n (r ∷ rs) = ap suc (next_length net V (n + 1) rs)

set_behind : (ps rest : List ℕ) (r v k : ℕ) → length ps ≡ k → slice_set (ps ++ r ∷ rest) k v ≡ ps ++ v ∷ rest
set_behind [] rest r v zero e = refl
set_behind [] rest r v (suc k) e = cc
set_behind (p ∷ ps) rest r v zero e = cc
set_behind (p ∷ ps) rest r v (suc k) e = ap (λ t. p ∷ t) (set_behind ps rest r v k (less e))
  where
    less : suc (length ps) ≡ suc k → length ps ≡ k
    less q = omega (arith, q)

at_behind : (ps rest : List ℕ) (r k : ℕ) → length ps ≡ k → slice_index (ps ++ r ∷ rest) k ≡ r
at_behind [] rest r zero e = refl
at_behind [] rest r (suc k) e = cc
at_behind (p ∷ ps) rest r zero e = cc
at_behind (p ∷ ps) rest r (suc k) e = at_behind ps rest r k (less e)
  where
    less : suc (length ps) ≡ suc k → length ps ≡ k
    less q = omega (arith, q)

-- the first registers have their next values, and the others their old ones
pub record Edge (net : Net) (V : ℕ → ℕ) (old : List ℕ) (k : ℕ) (now : List ℕ) : Type 0 where
  pub split : now ≡ next_values net V 0 (take k old) ++ drop k old
  pub kept : Kept net now

pub edge_next : (net : Net) (V : ℕ → ℕ) (old : List ℕ) (k r v : ℕ) (now after : List ℕ) → k < length now → r ≡ slice_index now k
    → v ≡ next_value net k V r → after ≡ slice_set now k v → length now ≡ length old → Edge net V old k now → Edge net V old (k + 1) after
edge_next net V old k r v now after h er ev ea same g = record {
  split = ea ∙ ap (λ (xs : List ℕ). slice_set xs k v) (g.split ∙ ap (λ (t : List ℕ). next_values net V 0 (take k old) ++ t) behind)
      ∙ set_behind (next_values net V 0 (take k old)) (drop (k + 1) old) (get_or old k 0) v k front
      ∙ ap (λ n. next_values net V 0 (take k old) ++ n ∷ drop (k + 1) old) (ev ∙ ap (λ n. next_value net k V n) is_old)
      ∙ joined;
  kept = subst (λ (xs : List ℕ). Kept net xs) (sym ea) (kept_set net now k v g.kept h
      (subst (λ n. n < 2 ^ given_width (info net.signals k)) (sym ev) (next_within (equation net k) net.signals k V r (subst (λ n. n < 2 ^ given_width (info net.signals k)) (sym er) (g.kept.widths k)))));
}
  where
    within : k < length old
    within = omega (arith, h, same)

    behind : drop k old ≡ get_or old k 0 ∷ drop (k + 1) old
    behind = drop_more old k 0 within

    taken : length (take k old) ≡ k
    taken = omega (arith, length-take k old, within)

    front : length (next_values net V 0 (take k old)) ≡ k
    front = next_length net V 0 (take k old) ∙ taken

    is_old : r ≡ get_or old k 0
    is_old = er ∙ ap (λ (xs : List ℕ). slice_index xs k) (g.split ∙ ap (λ (t : List ℕ). next_values net V 0 (take k old) ++ t) behind)
        ∙ at_behind (next_values net V 0 (take k old)) (drop (k + 1) old) (get_or old k 0) k front

    plus : 0 + length (take k old) ≡ k
    plus = omega (arith, taken)

    pushed : (ps : List ℕ) (p : ℕ) (qs : List ℕ) → ps ++ p ∷ qs ≡ (ps ++ p ∷ []) ++ qs
    pushed [] p qs = refl
    pushed (x ∷ ps) p qs = ap (λ t. x ∷ t) (pushed ps p qs)

    joined : next_values net V 0 (take k old) ++ next_value net k V (get_or old k 0) ∷ drop (k + 1) old ≡ next_values net V 0 (take (k + 1) old) ++ drop (k + 1) old
    joined = pushed (next_values net V 0 (take k old)) (next_value net k V (get_or old k 0)) (drop (k + 1) old)
        ∙ ap (λ (t : List ℕ). t ++ drop (k + 1) old)
        (ap (λ m. next_values net V 0 (take k old) ++ next_value net m V (get_or old k 0) ∷ []) (sym plus)
        ∙ sym (next-append net V 0 (take k old) (get_or old k 0))
        ∙ ap (λ (ys : List ℕ). next_values net V 0 ys) (sym (take_more old k 0 within)))

pub edge_begins : (net : Net) (V : ℕ → ℕ) (old : List ℕ) → Kept net old → Edge net V old 0 old
edge_begins net V old k = record { split = refl; kept = k }

pub kept_zeros : (net : Net) (xs : List ℕ) → xs ≡ replicate (length net.signals) 0 → Kept net xs
kept_zeros net xs e = subst (λ (ys : List ℕ). Kept net ys) (sym e) (record { places = long (length net.signals); widths = λ y. small (length net.signals) y (given_width (info net.signals y)) })
  where
    long : (n : ℕ) → length {A = ℕ} (replicate n 0) ≡ n
    long zero = refl
    long (suc n) = ap suc (long n)

    small : (n y w : ℕ) → slice_index (replicate n 0) y < 2 ^ w
    small zero y w = pow_pos w
    small (suc n) zero w = pow_pos w
    small (suc n) (suc y) w = small n y w
