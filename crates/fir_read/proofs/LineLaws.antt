-- The laws of blocks by indentation, and of lines that tell which lines may follow.
use Rattle.std.proofs.Common.{◌≡◌, ℕ, zero, suc, ◌≤◌, Bool, true, false, cond, List, [], ◌∷◌, ◌++◌, length, Ok, Err, refl, sym, ap, subst, ◌∙◌, append_assoc, arith, inl, inr, length-append}
use Rattle.std.specs.Prelude.{◌⊎◌, ◌||◌, not, nat_lt}
use Rattle.std.proofs.lemmas.List.{append-nil}
use Rattle.std.proofs.lemmas.Bool.{eqb-true, lt-ltb}
use Rattle.text_grammar.specs.declared.item.Item.{Item}
use Rattle.text_grammar.specs.declared.fault.Kind.{Kind}
use Rattle.text_grammar.specs.declared.fault.Kind.TheVariants.{Syntax}
use Rattle.text_grammar.specs.Part.{Outcome, Part, ◌>>=◌, kind_at, starts}
use Rattle.text_grammar.specs.Fronts.{SameNext, SameUpTo}
use Rattle.text_grammar.specs.Terminals.{at, deeper, column_of}
use Rattle.text_grammar.proofs.Laws.{Took, Stuck, Step, IsRead, Begins, Avoids, Lives, Goes, Good, Bad, bind_ok, bind_err, ok_parts, err_parts, same_append, same_next_of, starts_front, starts_again, starts_same, or_more}
use Rattle.text_grammar.proofs.Completions.{Fronted}
use Rattle.fir_ast.specs.Lines.{indented, SpellsFrom, state_after, from_at, many_from}

-- ---- the column of the next item

pub at_column : (c : ℕ) (ts : List Item) → starts (at c) ts ≡ true → column_of ts ≡ c
at_column c [] h = absurd cc
at_column c (x ∷ ts) h = eqb-true x.place.column c h

starts_cut : (b c : Item → Bool) (front r : List Item) → starts c front ≡ true → starts b (front ++ r) ≡ starts b front
starts_cut b c [] r h = absurd cc
starts_cut b c (x ∷ front) r h = refl

column_cut : (c : Item → Bool) (front r : List Item) → starts c front ≡ true → column_of (front ++ r) ≡ column_of front
column_cut c [] r h = absurd cc
column_cut c (x ∷ front) r h = refl

column_same : (r r' : List Item) → SameNext r r' → column_of r ≡ column_of r'
column_same [] [] h = refl
column_same [] (y ∷ ys) h = absurd h
column_same (x ∷ xs) [] h = absurd h
column_same (x ∷ xs) (y ∷ ys) h = ap (λ (z : Item). z.place.column) h

kind_same : (r r' : List Item) → SameNext r r' → kind_at r ≡ kind_at r'
kind_same [] [] h = refl
kind_same [] (y ∷ ys) h = absurd h
kind_same (x ∷ xs) [] h = absurd h
kind_same (x ∷ xs) (y ∷ ys) h = ap (λ (z : Item). kind_at (z ∷ [])) h

pub deeper_than : (column : ℕ) (ts : List Item) → starts (deeper column) ts ≡ true → nat_lt column (column_of ts) ≡ true
deeper_than column [] h = absurd cc
deeper_than column (x ∷ ts) h = h

-- what begins at a column that is deeper
deeper_at : (column c : ℕ) (ts : List Item) → nat_lt column c ≡ true → starts (at c) ts ≡ true → starts (deeper column) ts ≡ true
deeper_at column c [] lt h = absurd cc
deeper_at column c (x ∷ ts) lt h = ap (nat_lt column) (eqb-true x.place.column c h) ∙ lt

next_column : (column : ℕ) → nat_lt column (suc column) ≡ true
next_column column = lt-ltb column (suc column) (omega arith)

-- ---- blocks

module _ {A : Type 0} {E : Kind → Type 0} {L : Type 0} (column : ℕ) (P Q : ℕ → Part A) (s : (c : ℕ) → Step E L (P c) (Q c)) (gp : (c : ℕ) → Begins (P c) (at c)) (gq : (c : ℕ) → Begins (Q c) (at c)) where
  spelled_at : (c : ℕ) (ts : List Item) (a : A) → nat_lt column c ≡ true → (Q c).spells ts a → (indented column Q).spells ts a
  unfolding indented
  spelled_at c ts a lt sp = let h = (gq c).begins ts a sp in (c, deeper_at column c ts lt h, at_column c ts h, sp)

  front_at : (front rest : List Item) (c : ℕ) → starts (deeper column) (front ++ rest) ≡ true → column_of (front ++ rest) ≡ c → (P c).fronts front → (indented column P).fronts front
  unfolding indented
  front_at [] rest c h e f = inl refl
  front_at (x ∷ front) rest c h e f = inr (c, h, e, f)

  indented_done : (c : Bool) (ts r : List Item) (a : A) → starts (deeper column) ts ≡ c → cond c ((P (column_of ts)).reads ts) (Err (kind_at ts, length ts)) ≡ Good (a, r) → Took (indented column P) (indented column Q) ts r a
  unfolding indented
  indented_done true ts r a h e =
      let t = (s (column_of ts)).done ts r a e in
      let b = (gp (column_of ts)).begins t.front a t.spelled in
      let deep : starts (deeper column) t.front ≡ true = sym (starts_cut (deeper column) (at (column_of ts)) t.front r b) ∙ ap (starts (deeper column)) (sym t.parts) ∙ h in
      let col : column_of t.front ≡ column_of ts = at_column (column_of ts) t.front b in
      record {
        front = t.front;
        parts = t.parts;
        spelled = (column_of ts, deep, col, t.spelled);
        wider = (column_of ts, deep, col, t.wider);
        again = λ r' same.
            (let d : starts (deeper column) (t.front ++ r') ≡ true = starts_front (deeper column) t.front r' deep in
            let c : column_of (t.front ++ r') ≡ column_of ts = column_cut (at (column_of ts)) t.front r' b ∙ col in
            rw (d, c) (t.again r' same));
      }
  indented_done false ts r a h e = absurd cc

  indented_fails : (c : Bool) (ts : List Item) (n : ℕ) (k : Kind) → starts (deeper column) ts ≡ c → cond c ((P (column_of ts)).reads ts) (Err (kind_at ts, length ts)) ≡ Bad (k, n) → Stuck E L (indented column P) (indented column Q) ts n k
  unfolding indented
  indented_fails true ts n k h e =
      let t = (s (column_of ts)).fails ts n k e in
      let deep : starts (deeper column) (t.front ++ t.rest) ≡ true = ap (starts (deeper column)) (sym t.parts) ∙ h in
      let col : column_of (t.front ++ t.rest) ≡ column_of ts = ap column_of (sym t.parts) in
      record {
        front = t.front;
        rest = t.rest;
        parts = t.parts;
        left = t.left;
        fronts = front_at t.front t.rest (column_of ts) deep col t.fronts;
        why = elim t.why [ inl q ↦ inl q | inr q ↦ inr (column_of ts, deep, col, q) ];
        goes = λ y. (let g = t.goes y in record { ends = g.ends; value = g.value; spelled = spelled_at (column_of ts) (t.front ++ g.ends) g.value (deeper_than column ts h) g.spelled });
        shown = t.shown;
        at_once = t.at_once;
        again = λ y r' same.
            (let near = same_next_of t.shown t.rest r' same in
            let d : starts (deeper column) (t.front ++ r') ≡ true = starts_again (deeper column) true ts t.front t.rest r' t.parts near h in
            let c : column_of (t.front ++ r') ≡ column_of ts = sym (column_same (t.front ++ t.rest) (t.front ++ r') (same_append t.front t.rest r' near)) ∙ col in
            rw (d, c) (t.again y r' same));
      }
  indented_fails false ts n k h e =
      let p = err_parts {A = A} (kind_at ts) k (length ts) n e in
      record {
        front = [];
        rest = ts;
        parts = refl;
        left = p.1;
        fronts = inl refl;
        why = inl (sym p.0);
        goes = λ y. (let l = (s (suc column)).lives y in record { ends = l.text; value = l.value; spelled = spelled_at (suc column) l.text l.value (next_column column) l.spelled });
        shown = 0;
        at_once = λ _. refl;
        again = λ y r' same. (let d : starts (deeper column) r' ≡ false = sym (starts_same (deeper column) ts r' same) ∙ h in let q : kind_at r' ≡ k = sym (kind_same ts r' same) ∙ p.0 in rw (d, q) refl);
      }

  pub indented_step : Step E L (indented column P) (indented column Q)
  unfolding indented
  indented_step = record {
    done = λ ts r a e. indented_done (starts (deeper column) ts) ts r a refl e;
    fails = λ ts n k e. indented_fails (starts (deeper column) ts) ts n k refl e;
    lives = λ y. (let l = (s (suc column)).lives y in record { text = l.text; value = l.value; spelled = spelled_at (suc column) l.text l.value (next_column column) l.spelled });
  }

pub indented_read : {A : Type 0} (column : ℕ) (P : ℕ → Part A) (m : Item → Bool) → ((c : ℕ) → nat_lt column c ≡ true → IsRead (P c) m) → IsRead (indented column P) m
unfolding indented
indented_read column P m i = record {
  read = λ ts r a q stops.
      (let d : starts (deeper column) (ts ++ r) ≡ true = starts_front (deeper column) ts r q.1 in
      let c : column_of (ts ++ r) ≡ q.0 = column_cut (deeper column) ts r q.1 ∙ q.2 in
      let lt : nat_lt column q.0 ≡ true = subst (λ (z : ℕ). nat_lt column z ≡ true) q.2 (deeper_than column ts q.1) in
      rw (d, c) ((i q.0 lt).read ts r a q.3 stops));
}

pub indented_begins : {A : Type 0} (column : ℕ) (P : ℕ → Part A) → Begins (indented column P) (deeper column)
unfolding indented
indented_begins column P = record { begins = λ ts a q. q.1 }

pub indented_lives : {A : Type 0} (column : ℕ) (P : ℕ → Part A) → Lives (P (suc column)) → Begins (P (suc column)) (at (suc column)) → Lives (indented column P)
unfolding indented
indented_lives column P l g =
    let b = g.begins l.text l.value l.spelled in
    record { text = l.text; value = l.value; spelled = (suc column, deeper_at column (suc column) l.text (next_column column) b, at_column (suc column) l.text b, l.spelled) }

module _ {A : Type 0} (column : ℕ) (P Q : ℕ → Part A) (f : (c : ℕ) → Fronted (P c) (Q c)) (g : (c : ℕ) → Begins (Q c) (at c)) (l : (c : ℕ) → Lives (Q c)) where
  begun_front : (front rest : List Item) (c : ℕ) → starts (deeper column) (front ++ rest) ≡ true → column_of (front ++ rest) ≡ c → (P c).fronts front → (indented column P).fronts front
  unfolding indented
  begun_front [] rest c h e q = inl refl
  begun_front (x ∷ front) rest c h e q = inr (c, h, e, q)

  pub indented_fronted : Fronted (indented column P) (indented column Q)
  unfolding indented
  indented_fronted = record {
    completes = λ ts h. elim h [
      | inl e ↦
          let t = l (suc column) in
          let b = (g (suc column)).begins t.text t.value t.spelled in
          record { ends = t.text; value = t.value; spelled = rw e (suc column, deeper_at column (suc column) t.text (next_column column) b, at_column (suc column) t.text b, t.spelled) }
      | inr e ↦
          let t = (f e.0).completes ts e.3 in
          record { ends = t.ends; value = t.value; spelled = (e.0, starts_front (deeper column) ts t.ends e.1, column_cut (deeper column) ts t.ends e.1 ∙ e.2, t.spelled) }
    ];
    begins = λ ts ends a q. begun_front ts ends q.0 q.1 q.2 ((f q.0).begins ts ends a q.3);
    wider = λ ts a q. (q.0, q.1, q.2, (f q.0).wider ts a q.3);
  }

-- ---- lines that tell which lines may follow

from_stops : {S A : Type 0} (b : Item → Bool) (reads : S → List Item → Outcome A) (next : S → A → S) (m : ℕ) (s : S) (ts : List Item) → starts b ts ≡ false → from_at b reads next m s ts ≡ Ok ([], ts)
unfolding from_at
from_stops b reads next zero s ts h = refl
from_stops b reads next (suc m) s ts h = rw h refl

from_goes : {S A : Type 0} (b : Item → Bool) (reads : S → List Item → Outcome A) (next : S → A → S) (m : ℕ) (s : S) (ts : List Item) → starts b ts ≡ true → length ts ≤ m
    → (m' : ℕ) × (m ≡ suc m') × (from_at b reads next m s ts ≡ (reads s ts >>= λ x. from_at b reads next m' (next s x.0) x.1 >>= λ y. Ok (x.0 ∷ y.0, y.1)))
unfolding from_at
from_goes b reads next m s [] h le = absurd cc
from_goes b reads next zero s (x ∷ ts) h le = absurd (omega arith)
from_goes b reads next (suc m) s (x ∷ ts) h le = (m, refl, rw h refl)

shorter : (b : Item → Bool) (front r : List Item) (n : ℕ) → starts b front ≡ true → length (front ++ r) ≤ suc n → length r ≤ n
shorter b [] r n h le = absurd cc
shorter b (x ∷ front) r n h le = omega (arith, length-append front r)

module _ {S A : Type 0} {E : Kind → Type 0} {L : Type 0} (b : Item → Bool) (P Q : S → Part A) (next : S → A → S) (step : (s : S) → Step E L (P s) (Q s)) (gp : (s : S) → Begins (P s) b) where
  Ps : S → List Item → List A → Type 0
  Ps s ts all = SpellsFrom (λ z. (P z).spells) next s ts all

  Qs : S → List Item → List A → Type 0
  Qs s ts all = SpellsFrom (λ z. (Q z).spells) next s ts all

  again_at : ℕ → S → List Item → Outcome (List A)
  again_at m s ts = from_at b (λ z. (Q z).reads) next m s ts

  record FromTook (s : S) (ts r : List Item) (all : List A) : Type 0 where
    pub front : List Item
    pub parts : ts ≡ front ++ r
    pub spelled : SpellsFrom (λ z. (P z).spells) next s front all
    pub wider : SpellsFrom (λ z. (Q z).spells) next s front all
    pub again : (m : ℕ) (r' : List Item) → length (front ++ r') ≤ m → SameNext r r' → from_at b (λ z. (Q z).reads) next m s (front ++ r') ≡ Ok (all, r')

  record FromStuck (s : S) (ts : List Item) (left' : ℕ) (k : Kind) : Type 0 where
    pub front : List Item
    pub rest : List Item
    pub parts : ts ≡ front ++ rest
    pub left : length rest ≡ left'
    pub fronts : (xs ys : List Item) × (before : List A) × (front ≡ xs ++ ys) × SpellsFrom (λ z. (P z).spells) next s xs before × ((ys ≡ []) ⊎ (P (state_after next s before)).fronts ys)
    pub why : (k ≡ kind_at rest) ⊎ ((xs ys : List Item) × (before : List A) × (front ≡ xs ++ ys) × SpellsFrom (λ z. (P z).spells) next s xs before × (P (state_after next s before)).passes k ys rest)
    pub goes : L → (ends : List Item) × (value : List A) × SpellsFrom (λ z. (Q z).spells) next s (front ++ ends) value
    pub shown : ℕ
    pub at_once : k ≡ Syntax → shown ≡ 0
    pub again : E k → (m : ℕ) (r' : List Item) → length (front ++ r') ≤ m → SameUpTo shown rest r' → from_at b (λ z. (Q z).reads) next m s (front ++ r') ≡ Err (k, length r')

  one_more : (s : S) (ts mid r : List Item) (a : A) (more all : List A) → Took (P s) (Q s) ts mid a → FromTook (next s a) mid r more → a ∷ more ≡ all → FromTook s ts r all
  one_more s ts mid r a more all t u is = record {
    front = t.front ++ u.front;
    parts = t.parts ∙ ap (λ (z : List Item). t.front ++ z) u.parts ∙ sym (append_assoc t.front u.front r);
    spelled = subst (λ (z : List A). SpellsFrom (λ y. (P y).spells) next s (t.front ++ u.front) z) is (t.front, u.front, refl, t.spelled, u.spelled);
    wider = subst (λ (z : List A). SpellsFrom (λ y. (Q y).spells) next s (t.front ++ u.front) z) is (t.front, u.front, refl, t.wider, u.wider);
    again = λ m r' le same. more_again m r' (subst (λ (z : List Item). length z ≤ m) (append_assoc t.front u.front r') le) same;
  }
    where
      more_again : (m : ℕ) (r' : List Item) → length (t.front ++ (u.front ++ r')) ≤ m → SameNext r r' → from_at b (λ z. (Q z).reads) next m s ((t.front ++ u.front) ++ r') ≡ Ok (all, r')
      more_again m r' le same =
          let far : SameNext mid (u.front ++ r') = subst (λ (z : List Item). SameNext z (u.front ++ r')) (sym u.parts) (same_append u.front r r' same) in
          let begins = (gp s).begins t.front a t.spelled in
          let g = from_goes b (λ z. (Q z).reads) next m s (t.front ++ (u.front ++ r')) (starts_front b t.front (u.front ++ r') begins) le in
          let le' : length (u.front ++ r') ≤ g.0 = shorter b t.front (u.front ++ r') g.0 begins (subst (λ (z : ℕ). length (t.front ++ (u.front ++ r')) ≤ z) g.1 le) in
          rw (append_assoc t.front u.front r', g.2, t.again (u.front ++ r') far, u.again g.0 r' le' same, is) refl

  from_turn : (n : ℕ) → ((s : S) (ts r : List Item) (all : List A) → length ts ≤ n → from_at b (λ z. (P z).reads) next n s ts ≡ Good (all, r) → FromTook s ts r all)
      → (c : Bool) (s : S) (ts r : List Item) (all : List A) → starts b ts ≡ c → length ts ≤ suc n → cond c ((P s).reads ts >>= λ x. from_at b (λ z. (P z).reads) next n (next s x.0) x.1 >>= λ y. Ok (x.0 ∷ y.0, y.1)) (Ok ([], ts)) ≡ Good (all, r) → FromTook s ts r all
  from_turn n rec true s ts r all h le e =
      let one = bind_ok ((P s).reads ts) (λ x. from_at b (λ z. (P z).reads) next n (next s x.0) x.1 >>= λ y. Ok (x.0 ∷ y.0, y.1)) (all, r) e in
      let two = bind_ok (from_at b (λ z. (P z).reads) next n (next s one.0.0) one.0.1) (λ y. Ok (one.0.0 ∷ y.0, y.1)) (all, r) one.2 in
      let is = ok_parts (one.0.0 ∷ two.0.0) all two.0.1 r two.2 in
      let t = (step s).done ts one.0.1 one.0.0 one.1 in
      let le' : length one.0.1 ≤ n = shorter b t.front one.0.1 n ((gp s).begins t.front one.0.0 t.spelled) (subst (λ (z : List Item). length z ≤ suc n) t.parts le) in
      let u = rec (next s one.0.0) one.0.1 two.0.1 two.0.0 le' two.1 in
      subst (λ (z : List Item). FromTook s ts z all) is.1 (one_more s ts one.0.1 two.0.1 one.0.0 two.0.0 all t u is.0)
  from_turn n rec false s ts r all h le e =
      let is = ok_parts [] all ts r e in
      subst (λ (z : List A). FromTook s ts r z) is.0 (record {
        front = [];
        parts = is.1;
        spelled = refl;
        wider = refl;
        again = λ m r' le' same. from_stops b (λ z. (Q z).reads) next m s r' (sym (starts_same b r r' same) ∙ ap (starts b) (sym is.1) ∙ h);
      })

  from_done : (n : ℕ) (s : S) (ts r : List Item) (all : List A) → length ts ≤ n → from_at b (λ z. (P z).reads) next n s ts ≡ Good (all, r) → FromTook s ts r all
  unfolding from_at
  from_done zero s [] r all le e =
      let is = ok_parts [] all [] r e in
      subst (λ (z : List A). FromTook s [] r z) is.0 (record {
        front = [];
        parts = is.1;
        spelled = refl;
        wider = refl;
        again = λ m r' le' same. from_stops b (λ z. (Q z).reads) next m s r' (sym (starts_same b r r' same) ∙ ap (starts b) (sym is.1));
      })
  from_done zero s (x ∷ ts) r all le e = absurd (omega arith)
  from_done (suc n) s ts r all le e = from_turn n (from_done n) (starts b ts) s ts r all refl le e

  stuck_now : (s : S) (ts : List Item) (n : ℕ) (k : Kind) → starts b ts ≡ true → Stuck E L (P s) (Q s) ts n k → FromStuck s ts n k
  stuck_now s ts n k h t = record {
    front = t.front;
    rest = t.rest;
    left = t.left;
    parts = t.parts;
    goes = λ y. (let g = t.goes y in (g.ends, g.value ∷ [], (t.front ++ g.ends, [], sym (append-nil (t.front ++ g.ends)), g.spelled, refl)));
    shown = t.shown;
    at_once = t.at_once;
    fronts = ([], t.front, [], refl, refl, inr t.fronts);
    why = elim t.why [ inl q ↦ inl q | inr q ↦ inr ([], t.front, [], refl, refl, q) ];
    again = λ not m r' le same.
        (let g = from_goes b (λ z. (Q z).reads) next m s (t.front ++ r') (sym (starts_same b (t.front ++ t.rest) (t.front ++ r') (same_append t.front t.rest r' (same_next_of t.shown t.rest r' same))) ∙ ap (starts b) (sym t.parts) ∙ h) le in
        rw (g.2, t.again not r' same) refl);
  }

  stuck_later : (s : S) (ts mid : List Item) (n : ℕ) (a : A) (k : Kind) → Took (P s) (Q s) ts mid a → FromStuck (next s a) mid n k → FromStuck s ts n k
  stuck_later s ts mid n a k t u = record {
    front = t.front ++ u.front;
    rest = u.rest;
    left = u.left;
    fronts = (let q = u.fronts in (t.front ++ q.0, q.1, a ∷ q.2, ap (λ (z : List Item). t.front ++ z) q.3 ∙ sym (append_assoc t.front q.0 q.1), (t.front, q.0, refl, t.spelled, q.4), q.5));
    why = elim u.why [ inl q ↦ inl q | inr q ↦ inr (t.front ++ q.0, q.1, a ∷ q.2, ap (λ (z : List Item). t.front ++ z) q.3 ∙ sym (append_assoc t.front q.0 q.1), (t.front, q.0, refl, t.spelled, q.4), q.5) ];
    parts = t.parts ∙ ap (λ (z : List Item). t.front ++ z) u.parts ∙ sym (append_assoc t.front u.front u.rest);
    goes = λ y. (let g = u.goes y in (g.0, a ∷ g.1, (t.front, u.front ++ g.0, append_assoc t.front u.front g.0, t.wider, g.2)));
    shown = u.shown;
    at_once = u.at_once;
    again = λ not m r' le same. later_again not m r' (subst (λ (z : List Item). length z ≤ m) (append_assoc t.front u.front r') le) same;
  }
    where
      later_again : E k → (m : ℕ) (r' : List Item) → length (t.front ++ (u.front ++ r')) ≤ m → SameUpTo u.shown u.rest r' → from_at b (λ z. (Q z).reads) next m s ((t.front ++ u.front) ++ r') ≡ Err (k, length r')
      later_again not m r' le same =
          let far : SameNext mid (u.front ++ r') = subst (λ (z : List Item). SameNext z (u.front ++ r')) (sym u.parts) (same_append u.front u.rest r' (same_next_of u.shown u.rest r' same)) in
          let begins = (gp s).begins t.front a t.spelled in
          let g = from_goes b (λ z. (Q z).reads) next m s (t.front ++ (u.front ++ r')) (starts_front b t.front (u.front ++ r') begins) le in
          let le' : length (u.front ++ r') ≤ g.0 = shorter b t.front (u.front ++ r') g.0 begins (subst (λ (z : ℕ). length (t.front ++ (u.front ++ r')) ≤ z) g.1 le) in
          rw (append_assoc t.front u.front r', g.2, t.again (u.front ++ r') far, u.again not g.0 r' le' same) refl

  from_turn_fails : (n : ℕ) → ((s : S) (ts : List Item) (l : ℕ) (k : Kind) → length ts ≤ n → from_at b (λ z. (P z).reads) next n s ts ≡ Bad (k, l) → FromStuck s ts l k)
      → (c : Bool) (s : S) (ts : List Item) (l : ℕ) (k : Kind) → starts b ts ≡ c → length ts ≤ suc n → cond c ((P s).reads ts >>= λ x. from_at b (λ z. (P z).reads) next n (next s x.0) x.1 >>= λ y. Ok (x.0 ∷ y.0, y.1)) (Ok ([], ts)) ≡ Bad (k, l) → FromStuck s ts l k
  from_turn_fails n rec true s ts l k h le e = elim (bind_err ((P s).reads ts) (λ x. from_at b (λ z. (P z).reads) next n (next s x.0) x.1 >>= λ y. Ok (x.0 ∷ y.0, y.1)) (k, l) e) [
    | inl first ↦ stuck_now s ts l k h ((step s).fails ts l k first)
    | inr later ↦ elim (bind_err (from_at b (λ z. (P z).reads) next n (next s later.0.0) later.0.1) (λ y. Ok (later.0.0 ∷ y.0, y.1)) (k, l) later.2) [
      | inl second ↦
          let t = (step s).done ts later.0.1 later.0.0 later.1 in
          let le' : length later.0.1 ≤ n = shorter b t.front later.0.1 n ((gp s).begins t.front later.0.0 t.spelled) (subst (λ (z : List Item). length z ≤ suc n) t.parts le) in
          stuck_later s ts later.0.1 l later.0.0 k t (rec (next s later.0.0) later.0.1 l k le' second)
      | inr last ↦ absurd (let w = last.2 in cc)
    ]
  ]
  from_turn_fails n rec false s ts l k h le e = absurd cc

  from_fails : (n : ℕ) (s : S) (ts : List Item) (l : ℕ) (k : Kind) → length ts ≤ n → from_at b (λ z. (P z).reads) next n s ts ≡ Bad (k, l) → FromStuck s ts l k
  unfolding from_at
  from_fails zero s ts l k le e = absurd cc
  from_fails (suc n) s ts l k le e = from_turn_fails n (from_fails n) (starts b ts) s ts l k refl le e

  whole_done : (s : S) (ts r : List Item) (all : List A) → FromTook s ts r all → Took (many_from b P next s) (many_from b Q next s) ts r all
  unfolding many_from
  whole_done s ts r all t = record { front = t.front; parts = t.parts; spelled = t.spelled; wider = t.wider; again = λ r' same. t.again (length (t.front ++ r')) r' (omega arith) same }

  whole_fails : (s : S) (ts : List Item) (n : ℕ) (k : Kind) → FromStuck s ts n k → Stuck E L (many_from b P next s) (many_from b Q next s) ts n k
  unfolding many_from
  whole_fails s ts n k t = record { front = t.front; rest = t.rest; left = t.left; fronts = t.fronts; why = t.why; parts = t.parts; goes = λ y. (let g = t.goes y in record { ends = g.0; value = g.1; spelled = g.2 }); shown = t.shown; at_once = t.at_once; again = λ not r' same. t.again not (length (t.front ++ r')) r' (omega arith) same }

  pub from_step : (s : S) → Step E L (many_from b P next s) (many_from b Q next s)
  unfolding many_from
  from_step s = record {
    done = λ ts r all e. whole_done s ts r all (from_done (length ts) s ts r all (omega arith) e);
    fails = λ ts n k e. whole_fails s ts n k (from_fails (length ts) s ts n k (omega arith) e);
    lives = λ _. record { text = []; value = []; spelled = refl };
  }

-- ---- what is spelled so is read

module _ {S A : Type 0} (b m : Item → Bool) (P : S → Part A) (next : S → A → S) (i : (s : S) → IsRead (P s) m) (g : (s : S) → Begins (P s) b) (apart : (x : Item) → b x ≡ true → m x ≡ false) where
  from_stays : (s : S) (ys r : List Item) (all : List A) → SpellsFrom (λ z. (P z).spells) next s ys all → starts m r ≡ false → starts m (ys ++ r) ≡ false
  from_stays s ys r [] q stops = rw q stops
  from_stays s ys r (a ∷ more) q stops = go (q.0 ++ q.1) (starts_front b q.0 q.1 ((g s).begins q.0 a q.3)) q.2
    where
      go : (front : List Item) → starts b front ≡ true → ys ≡ front → starts m (ys ++ r) ≡ false
      go [] h e = absurd cc
      go (x ∷ front) h e = rw e (apart x h)

  from_reads : (all : List A) (n : ℕ) (s : S) (ts r : List Item) → length (ts ++ r) ≤ n → SpellsFrom (λ z. (P z).spells) next s ts all → starts b r ≡ false → starts m r ≡ false → from_at b (λ z. (P z).reads) next n s (ts ++ r) ≡ Ok (all, r)
  from_reads [] n s ts r le q sb sm = rw q (from_stops b (λ z. (P z).reads) next n s r sb)
  from_reads (a ∷ more) n s ts r le q sb sm =
      let xs = q.0 in
      let ys = q.1 in
      let whole : ts ++ r ≡ xs ++ (ys ++ r) = ap (λ (z : List Item). z ++ r) q.2 ∙ append_assoc xs ys r in
      let begins = (g s).begins xs a q.3 in
      let le2 : length (xs ++ (ys ++ r)) ≤ n = subst (λ (z : List Item). length z ≤ n) whole le in
      let t = from_goes b (λ z. (P z).reads) next n s (xs ++ (ys ++ r)) (starts_front b xs (ys ++ r) begins) le2 in
      let le3 : length (ys ++ r) ≤ t.0 = shorter b xs (ys ++ r) t.0 begins (subst (λ (z : ℕ). length (xs ++ (ys ++ r)) ≤ z) t.1 le2) in
      rw (whole, t.2, (i s).read xs (ys ++ r) a q.3 (from_stays (next s a) ys r more q.4 sm), from_reads more t.0 (next s a) ys r le3 q.4 sb sm) refl

  pub from_avoids : (s : S) → Avoids (many_from b P next s) m m
  unfolding many_from
  from_avoids s = record { avoids = λ ts r all q stops. from_stays s ts r all q stops }

  pub from_read : (s : S) → IsRead (many_from b P next s) (or_more b m)
  unfolding many_from or_more
  from_read s = record { read = λ ts r all q stops. (let h = neither r stops in from_reads all (length (ts ++ r)) s ts r (omega arith) q h.0 h.1) }
    where
      or_false : (p q : Bool) → (p || q) ≡ false → (p ≡ false) × (q ≡ false)
      or_false true q h = absurd cc
      or_false false q h = (refl, h)

      neither : (r : List Item) → starts (λ x. b x || m x) r ≡ false → (starts b r ≡ false) × (starts m r ≡ false)
      neither [] h = (refl, refl)
      neither (x ∷ r) h = or_false (b x) (m x) h

-- ---- fronts

module _ {S A : Type 0} (b : Item → Bool) (P Q : S → Part A) (next : S → A → S) (f : (s : S) → Fronted (P s) (Q s)) where
  from_wider : (all : List A) (s : S) (ts : List Item) → SpellsFrom (λ z. (P z).spells) next s ts all → SpellsFrom (λ z. (Q z).spells) next s ts all
  from_wider [] s ts q = q
  from_wider (a ∷ more) s ts q = (q.0, q.1, q.2, (f s).wider q.0 a q.3, from_wider more (next s a) q.1 q.4)

  from_ends : (before last : List A) (s : S) (xs ys : List Item) → SpellsFrom (λ z. (Q z).spells) next s xs before → SpellsFrom (λ z. (Q z).spells) next (state_after next s before) ys last → (all : List A) × SpellsFrom (λ z. (Q z).spells) next s (xs ++ ys) all
  from_ends [] last s xs ys q t = (last, rw q t)
  from_ends (a ∷ more) last s xs ys q t =
      let r = from_ends more last (next s a) q.1 ys q.4 t in
      (a ∷ r.0, (q.0, q.1 ++ ys, ap (λ (z : List Item). z ++ ys) q.2 ∙ append_assoc q.0 q.1 ys, q.3, r.1))

  FromFront : S → List Item → Type 0
  FromFront s ts = (xs ys : List Item) × (before : List A) × (ts ≡ xs ++ ys) × SpellsFrom (λ z. (P z).spells) next s xs before × ((ys ≡ []) ⊎ (P (state_after next s before)).fronts ys)

  split_two : (ts ends xs ys : List Item) → ts ++ ends ≡ xs ++ ys → ((zs : List Item) × (xs ≡ ts ++ zs)) ⊎ ((zs : List Item) × (ts ≡ xs ++ zs) × (ys ≡ zs ++ ends))
  split_two [] ends xs ys e = inl (xs, refl)
  split_two (t ∷ ts) ends [] ys e = inr (t ∷ ts, refl, sym e)
  split_two (t ∷ ts) ends (x ∷ xs) ys e =
      let head : t ≡ x = cc in
      let tail : ts ++ ends ≡ xs ++ ys = cc in
      elim (split_two ts ends xs ys tail) [
        | inl h ↦ inl (h.0, ap (λ (z : Item). z ∷ xs) (sym head) ∙ ap (λ (z : List Item). t ∷ z) h.1)
        | inr h ↦ inr (h.0, ap (λ (z : Item). z ∷ ts) head ∙ ap (λ (z : List Item). x ∷ z) h.1, h.2)
      ]

  no_front : (ts ends : List Item) → ts ++ ends ≡ [] → ts ≡ []
  no_front [] ends e = refl
  no_front (t ∷ ts) ends e = absurd cc

  from_begins : (all : List A) (s : S) (ts ends : List Item) → SpellsFrom (λ z. (P z).spells) next s (ts ++ ends) all → FromFront s ts
  unfolding FromFront
  from_begins [] s ts ends q = ([], ts, [], refl, refl, inl (no_front ts ends q))
  from_begins (a ∷ more) s ts ends q = elim (split_two ts ends q.0 q.1 q.2) [
    | inl e ↦ ([], ts, [], refl, refl, inr ((f s).begins ts e.0 a (subst (λ (z : List Item). (P s).spells z a) e.1 q.3)))
    | inr e ↦
        let r = from_begins more (next s a) e.0 ends (subst (λ (z : List Item). SpellsFrom (λ y. (P y).spells) next (next s a) z more) e.2 q.4) in
        (q.0 ++ r.0, r.1, a ∷ r.2, e.1 ∙ ap (λ (z : List Item). q.0 ++ z) r.3 ∙ sym (append_assoc q.0 r.0 r.1), (q.0, r.0, refl, q.3, r.4), r.5)
  ]

  from_completes : (s : S) (ts : List Item) → FromFront s ts → Goes (many_from b Q next s) ts
  unfolding FromFront many_from
  from_completes s ts h = elim h.5 [
    | inl e ↦ record { ends = []; value = h.2; spelled = subst (λ (z : List Item). SpellsFrom (λ y. (Q y).spells) next s z h.2) (sym (append-nil ts ∙ h.3 ∙ ap (λ (z : List Item). h.0 ++ z) e ∙ append-nil h.0)) (from_wider h.2 s h.0 h.4) }
    | inr e ↦
        let g = (f (state_after next s h.2)).completes h.1 e in
        let r = from_ends h.2 (g.value ∷ []) s h.0 (h.1 ++ g.ends) (from_wider h.2 s h.0 h.4) (h.1 ++ g.ends, [], sym (append-nil (h.1 ++ g.ends)), g.spelled, refl) in
        record { ends = g.ends; value = r.0; spelled = subst (λ (z : List Item). SpellsFrom (λ y. (Q y).spells) next s z r.0) (sym (ap (λ (z : List Item). z ++ g.ends) h.3 ∙ append_assoc h.0 h.1 g.ends)) r.1 }
  ]

  pub from_fronted : (s : S) → Fronted (many_from b P next s) (many_from b Q next s)
  unfolding many_from FromFront
  from_fronted s = record { completes = λ ts q. from_completes s ts q; begins = λ ts ends a q. from_begins a s ts ends q; wider = λ ts a q. from_wider a s ts q }
