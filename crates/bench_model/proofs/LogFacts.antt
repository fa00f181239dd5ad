-- Facts on logs.
use Rattle.std.proofs.Common.{◌≡◌, ℕ, suc, List, [], ◌∷◌, Bool, true, false, refl, sym, ap, subst, ◌∙◌, arith, inl, inr, ⊎_elim, ◌<◌, cond}
use Rattle.bench_model.specs.Paths.{is_path}
use Rattle.bench_model.specs.Log.{Event, count, Name, name, At, link, Before, Leads, clash, NoConflict, LogAlike}
use Rattle.bench_model.proofs.PathFacts.{is_path_refl, is_path_apart}

count_rises : (b : Bool) (n k : ℕ) → k < n → k < cond b (suc n) n
count_rises true n k h = omega arith
count_rises false n k h = h

count_same : (log : List Event) (e : Event) → count e.path log < count e.path (e ∷ log)
count_same log e = subst (λ b. count e.path log < cond b (suc (count e.path log)) (count e.path log)) (sym (is_path_refl e.path)) (omega arith)

-- a name in the log is below the count
pub at_below : (log : List Event) (x : Name) (d : Event) → At log x d → x.1 < count x.0 log
at_below [] x d h = absurd h
at_below (e ∷ log) x d (inl (n, _)) = subst (λ (y : Name). y.1 < count y.0 (e ∷ log)) (sym n) (count_same log e)
at_below (e ∷ log) x d (inr h) = count_rises (is_path x.0 e.path) (count x.0 log) x.1 (at_below log x d h)

-- so the name of a new event is not in the log
pub name_new : (log : List Event) (e : Event) (d : Event) → At log (name log e) d → ⊥
name_new log e d h = let k : count e.path log < count e.path log = at_below log (name log e) d h in omega arith

-- ---- alike logs
pub log_refl : (log : List Event) → LogAlike log log
log_refl log = record { counts = λ p. refl; events = λ x d. (λ h. h, λ h. h); before = λ n m. (λ h. h, λ h. h); size = refl }

pub log_sym : (log log' : List Event) → LogAlike log log' → LogAlike log' log
log_sym log log' a = record {
  counts = λ p. sym (a.counts p);
  events = λ x d. ((a.events x d).1, (a.events x d).0);
  before = λ n m. ((a.before n m).1, (a.before n m).0);
  size = sym a.size;
}

pub log_trans : (l m n : List Event) → LogAlike l m → LogAlike m n → LogAlike l n
log_trans l m n a b = record {
  counts = λ p. a.counts p ∙ b.counts p;
  events = λ x d. (λ h. (b.events x d).0 ((a.events x d).0 h), λ h. (a.events x d).1 ((b.events x d).1 h));
  before = λ x y. (λ h. (b.before x y).0 ((a.before x y).0 h), λ h. (a.before x y).1 ((b.before x y).1 h));
  size = a.size ∙ b.size;
}

-- what leads to a new event depends on the events and on "before" alone
leads_map : (log log' : List Event) (n : Name) (e : Event) → LogAlike log log' → Leads log n e → Leads log' n e
leads_map log log' n e a (x, d, h, l, way) =
    (x, d, (a.events x d).0 h, l, ⊎_elim (λ s. inl s) (λ b. inr ((a.before n x).0 b)) way)

same_name : (log log' : List Event) (e : Event) → LogAlike log log' → name log e ≡ name log' e
same_name log log' e a = λ i. (e.path, a.counts e.path i)

push_at : (log log' : List Event) (e : Event) → LogAlike log log' → (x : Name) (d : Event) → At (e ∷ log) x d → At (e ∷ log') x d
push_at log log' e a x d (inl (n, s)) = inl (n ∙ same_name log log' e a, s)
push_at log log' e a x d (inr h) = inr ((a.events x d).0 h)

push_before : (log log' : List Event) (e : Event) → LogAlike log log' → (n m : Name) → Before (e ∷ log) n m → Before (e ∷ log') n m
push_before log log' e a n m (inl (s, l)) = inl (s ∙ same_name log log' e a, leads_map log log' n e a l)
push_before log log' e a n m (inr h) = inr ((a.before n m).0 h)

-- ALIKE LOGS STAY ALIKE with one more event
pub log_push : (log log' : List Event) (e : Event) → LogAlike log log' → LogAlike (e ∷ log) (e ∷ log')
log_push log log' e a =
    let b : LogAlike log' log = log_sym log log' a in
    record {
      counts = λ p. ap (λ k. cond (is_path p e.path) (suc k) k) (a.counts p);
      events = λ x d. (push_at log log' e a x d, push_at log' log e b x d);
      before = λ n m. (push_before log log' e a n m, push_before log' log e b n m);
      size = ap suc a.size;
    }

-- ALIKE LOGS have the same conflicts
pub no_conflict_alike : (cone : ℕ → ℕ → Bool) (log log' : List Event) (e : Event) → LogAlike log log' → NoConflict cone log e → NoConflict cone log' e
no_conflict_alike cone log log' e a clean x d h c = leads_map log log' x e a (clean x d ((a.events x d).1 h) c)

-- ---- two events that no link joins
-- an event that has no link to b doesn't help to lead to b
pub leads_less : (log : List Event) (a b : Event) (n : Name) → link a b ≡ false → Leads (a ∷ log) n b → Leads log n b
leads_less log a b n off (x, d, inl (_, s), l, way) = absurd (let k : link a b ≡ true = subst (λ y. link y b ≡ true) s l in cc)
leads_less log a b n off (x, d, inr h, l, inl s) = (x, d, h, l, inl s)
leads_less log a b n off (x, d, inr h, l, inr (inl (s, _))) = absurd (name_new log a d (subst (λ y. At log y d) s h))
leads_less log a b n off (x, d, inr h, l, inr (inr w)) = (x, d, h, l, inr w)

pub leads_more : (log : List Event) (a b : Event) (n : Name) → Leads log n b → Leads (a ∷ log) n b
leads_more log a b n (x, d, h, l, inl s) = (x, d, inr h, l, inl s)
leads_more log a b n (x, d, h, l, inr w) = (x, d, inr h, l, inr (inr w))

-- what is before an event of the log is in the log
pub before_from : (log : List Event) (n m : Name) → Before log n m → (d : Event) × At log n d
before_from [] n m h = absurd h
before_from (e ∷ log) n m (inl (_, (x, d, h, l, inl s))) = (d, inr (subst (λ y. At log y d) (sym s) h))
before_from (e ∷ log) n m (inl (_, (x, d, h, l, inr w))) = let f = before_from log n x w in (f.0, inr f.1)
before_from (e ∷ log) n m (inr h) = let f = before_from log n m h in (f.0, inr f.1)

-- an event with no link to b leads to it by no chain
pub leads_new : (log : List Event) (a b : Event) → link a b ≡ false → Leads (a ∷ log) (name log a) b → ⊥
leads_new log a b off l = go (leads_less log a b (name log a) off l)
  where
    go : Leads log (name log a) b → ⊥
    go (x, d, h, l, inl s) = name_new log a d (subst (λ y. At log y d) (sym s) h)
    go (x, d, h, l, inr w) = let f = before_from log (name log a) x w in name_new log a f.0 f.1

-- THE NEW EVENT'S CONFLICTS are the same after an event that has no link to it
pub no_conflict_less : (cone : ℕ → ℕ → Bool) (log : List Event) (a b : Event) → link a b ≡ false → NoConflict cone (a ∷ log) b → NoConflict cone log b
no_conflict_less cone log a b off clean x d h c = leads_less log a b x off (clean x d (inr h) c)

-- and it doesn't clash with that event
pub no_clash : (cone : ℕ → ℕ → Bool) (log : List Event) (a b : Event) → link a b ≡ false → NoConflict cone (a ∷ log) b → clash cone a.kind b.kind ≡ false
no_clash cone log a b off clean = go (clash cone a.kind b.kind) refl
  where
    go : (c : Bool) → clash cone a.kind b.kind ≡ c → c ≡ false
    go true c = absurd (leads_new log a b off (clean (name log a) a (inl (refl, refl)) c))
    go false c = refl

pub no_conflict_more : (cone : ℕ → ℕ → Bool) (log : List Event) (a b : Event) → clash cone a.kind b.kind ≡ false → NoConflict cone log b → NoConflict cone (a ∷ log) b
no_conflict_more cone log a b off clean x d (inl (_, s)) c = absurd (let k : clash cone a.kind b.kind ≡ true = subst (λ (y : Event). clash cone y.kind b.kind ≡ true) s c in cc)
no_conflict_more cone log a b off clean x d (inr h) c = leads_more log a b x (clean x d h c)

-- TWO NEIGHBOURS that no link joins may change places
swap_count : (x y : Bool) (k : ℕ) → cond x (suc (cond y (suc k) k)) (cond y (suc k) k) ≡ cond y (suc (cond x (suc k) k)) (cond x (suc k) k)
swap_count true true k = refl
swap_count true false k = refl
swap_count false true k = refl
swap_count false false k = refl

module _ (log : List Event) where
  name_after : (a b : Event) → is_path b.path a.path ≡ false → name (a ∷ log) b ≡ name log b
  name_after a b e = λ i. (b.path, cond (e i) (suc (count b.path log)) (count b.path log))

  swap_at : (a b : Event) → is_path b.path a.path ≡ false → is_path a.path b.path ≡ false → (x : Name) (d : Event) → At (b ∷ a ∷ log) x d → At (a ∷ b ∷ log) x d
  swap_at a b e f x d (inl (n, s)) = inr (inl (n ∙ name_after a b e, s))
  swap_at a b e f x d (inr (inl (n, s))) = inl (n ∙ sym (name_after b a f), s)
  swap_at a b e f x d (inr (inr h)) = inr (inr h)

  swap_before : (a b : Event) → is_path b.path a.path ≡ false → is_path a.path b.path ≡ false → link a b ≡ false → link b a ≡ false →
      (n m : Name) → Before (b ∷ a ∷ log) n m → Before (a ∷ b ∷ log) n m
  swap_before a b e f lab lba n m (inl (s, l)) = inr (inl (s ∙ name_after a b e, leads_less log a b n lab l))
  swap_before a b e f lab lba n m (inr (inl (s, l))) = inl (s ∙ sym (name_after b a f), leads_more log b a n l)
  swap_before a b e f lab lba n m (inr (inr h)) = inr (inr h)

  pub log_swap : (a b : Event) → (a.path ≡ b.path → ⊥) → link a b ≡ false → link b a ≡ false → LogAlike (b ∷ a ∷ log) (a ∷ b ∷ log)
  log_swap a b ne lab lba =
      let f : is_path a.path b.path ≡ false = is_path_apart a.path b.path ne in
      let e : is_path b.path a.path ≡ false = is_path_apart b.path a.path (λ h. ne (sym h)) in
      record {
        counts = λ p. swap_count (is_path p b.path) (is_path p a.path) (count p log);
        events = λ x d. (swap_at a b e f x d, swap_at b a f e x d);
        before = λ n m. (swap_before a b e f lab lba n m, swap_before b a f e lba lab n m);
        size = refl;
      }
