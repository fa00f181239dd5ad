-- Threads in the order of their paths: what a search finds, and what an edit at its place does.
use Rattle.std.proofs.Common.{◌≡◌, ℕ, zero, suc, ◌+◌, ◌<◌, ◌≤◌, List, [], ◌∷◌, length, get_or, set, Bool, true, false, cond, not, ◌&&◌, T, Some, None, Result, Ok, Err, IfOk, IfErr, refl, sym, ap, subst, ◌∙◌, arith, ⊎_elim}
use Rattle.std.specs.List.{insert, remove}
use Rattle.std.specs.List.Sorted.{IsSearchInRange, IsBinarySearchResult, IsNonDecreasingBy}
use Rattle.std.specs.declared.cmp.Ordering.{Ordering}
use Rattle.std.specs.declared.cmp.Ordering.TheVariants.{Less, Equal, Greater}
use Rattle.std.specs.Ordering.{eq_by_cmp, is_eq, is_lt, ordering_reverse, ordering_index}
use Rattle.std.specs.Cmp.{IsTotalOrder, tied_itself, eq_by_cmp_equiv}
use Rattle.std.specs.Cmp.Lexicographic.{nat_list_cmp_total}
use Rattle.std.specs.FinMap as map
use Rattle.std.specs.FinMap.{find, put, is_sorted, slice_cmp-IsAntisymmetric, nat_cmp-IsAntisymmetric}
use Rattle.std.specs.FinMap.Entries.{below_all, where_key, is_sorted-put, is_sorted-where_key, find-where_key}
use Rattle.std.proofs.lemmas.List.Sorted.{searchable_from_sorted}
use Rattle.std.proofs.lemmas.Bool.{cases_lt}
use Rattle.bench_model.specs.Paths.{Path, path_cmp}
use Rattle.bench_threads.specs.declared.entry.Entry.{Entry}
use Rattle.bench_threads.specs.Shelves.{Threads, keyed, shelved, IsAt, IsGap}

pub path_total : IsTotalOrder path_cmp
path_total = nat_list_cmp_total

pub path_exact : (p q : Path) → path_cmp p q ≡ Equal → p ≡ q
path_exact p q e = slice_cmp-IsAntisymmetric nat_cmp-IsAntisymmetric p q e

pub same_threads : (s t : Threads) → ((q : Path) → map.get s q ≡ map.get t q) → s ≡ t
same_threads s t is = map.same_map path_total (slice_cmp-IsAntisymmetric nat_cmp-IsAntisymmetric) s t is

pub T_both : (a b : Bool) → T a → T b → T (a && b)
T_both true b p q = q
T_both false b p q = p

pub T_left : (a b : Bool) → T (a && b) → T a
T_left true b p = tt
T_left false b p = p

pub T_right : (a b : Bool) → T (a && b) → T b
T_right true b p = p
T_right false b p = absurd p

pub is_less : (r : Ordering) → T (is_lt r) → r ≡ Less
is_less Less p = refl
is_less Equal p = absurd p
is_less Greater p = absurd p

-- a path after another, the other way round
pub after : (p q : Path) → path_cmp p q ≡ Less → path_cmp q p ≡ Greater
after p q e = path_total.antisymm q p ∙ ap ordering_reverse e

pub before : (p q : Path) → path_cmp p q ≡ Greater → path_cmp q p ≡ Less
before p q e = path_total.antisymm q p ∙ ap ordering_reverse e

pub below_at : (p : Path) (es : List Entry) → T (below_all path_cmp p (keyed es)) → (j : ℕ) (d : Entry) → j < length es → path_cmp p (get_or es j d).state.path ≡ Less
below_at p [] h j d lt = absurd (omega arith)
below_at p (e ∷ es) h zero d lt = is_less _ (T_left _ _ h)
below_at p (e ∷ es) h (suc j) d lt = below_at p es (T_right _ _ h) j d (omega arith)

pub rises : (es : List Entry) → T (is_sorted path_cmp (keyed es)) → (i j : ℕ) (d : Entry) → i < j → j < length es → path_cmp (get_or es i d).state.path (get_or es j d).state.path ≡ Less
rises [] h i j d lt within = absurd (omega arith)
rises (e ∷ es) h i zero d lt within = absurd (omega arith)
rises (e ∷ es) h zero (suc j) d lt within = below_at e.state.path es (T_left _ _ h) j d (omega arith)
rises (e ∷ es) h (suc i) (suc j) d lt within = rises es (T_right _ _ h) i j d (omega arith) (omega arith)

searchable : (es : List Entry) → T (is_sorted path_cmp (keyed es)) → (p : Path) → IsNonDecreasingBy (λ (e : Entry). ordering_index (path_cmp e.state.path p)) es
searchable es h p = searchable_from_sorted path_total (λ (e : Entry). e.state.path) es p
    (λ k d low lt. ap is_lt (after (get_or es k d).state.path (get_or es (k + 1) d).state.path (rises es h k (k + 1) d (omega arith) lt)))

-- a binary search ends at the path, or at the gap for it
pub searched : (es : List Entry) → T (is_sorted path_cmp (keyed es)) → (p : Path) (r : Result ℕ ℕ) → IsSearchInRange r (length es) → IsBinarySearchResult (λ (e : Entry). path_cmp e.state.path p) es r
    → record { found : IfOk r (λ i. IsAt es p i); absent : IfErr r (λ i. IsGap es p i) }
searched es h p (Ok i) within equal = record { found = record { in_range = within; here = λ d. path_exact (get_or es i d).state.path p (equal d) }; absent = tt }
searched es h p (Err i) within parted = record {
  found = tt;
  absent = record {
    in_range = within;
    before = λ j d lt. after (get_or es j d).state.path p ((parted (searchable es h p)).0 j d (omega arith) lt);
    after = λ j d le lt. before (get_or es j d).state.path p ((parted (searchable es h p)).1 j d le lt);
  };
}

-- ---- look-ups

-- the thread at a place is found by its path
pub find_at : (es : List Entry) → T (is_sorted path_cmp (keyed es)) → (i : ℕ) (d : Entry) → i < length es → find path_cmp (get_or es i d).state.path (keyed es) ≡ Some (get_or es i d)
find_at [] h i d lt = absurd (omega arith)
find_at (e ∷ es) h zero d lt = ap (λ r. cond (is_eq r) (Some e) (find path_cmp e.state.path (keyed es))) (tied_itself path_total e.state.path)
find_at (e ∷ es) h (suc i) d lt =
    ap (λ r. cond (is_eq r) (Some e) (find path_cmp (get_or es i d).state.path (keyed es))) (after e.state.path (get_or es i d).state.path (below_at e.state.path es (T_left _ _ h) i d (omega arith)))
    ∙ find_at es (T_right _ _ h) i d (omega arith)

-- a path that no thread has isn't found
pub find_none : (es : List Entry) (p : Path) → ((j : ℕ) (d : Entry) → j < length es → is_eq (path_cmp p (get_or es j d).state.path) ≡ false) → find path_cmp p (keyed es) ≡ None
find_none [] p apart = refl
find_none (e ∷ es) p apart =
    ap (λ b. cond b (Some e) (find path_cmp p (keyed es))) (apart 0 e (omega arith))
    ∙ find_none es p (λ j d lt. apart (suc j) d (omega arith))

-- ---- edits

-- a thread in its gap
put_gap : (es : List Entry) (x : Entry) (i : ℕ) → i ≤ length es
    → ((j : ℕ) (d : Entry) → j < i → path_cmp x.state.path (get_or es j d).state.path ≡ Greater)
    → ((j : ℕ) (d : Entry) → i ≤ j → j < length es → path_cmp x.state.path (get_or es j d).state.path ≡ Less)
    → put path_cmp x.state.path x (keyed es) ≡ keyed (insert es i x)
put_gap [] x zero le less more = refl
put_gap [] x (suc i) le less more = absurd (omega arith)
put_gap (e ∷ es) x zero le less more = rw (more 0 e (omega arith) (omega arith)) refl
put_gap (e ∷ es) x (suc i) le less more =
    rw (less 0 e (omega arith)) (ap (λ l. (e.state.path, e) ∷ l) (put_gap es x i (omega arith) (λ j d lt. less (suc j) d (omega arith)) (λ j d ge lt. more (suc j) d (omega arith) (omega arith))))

-- a thread in the place of the one with its path
put_at : (es : List Entry) (x : Entry) (i : ℕ) → T (is_sorted path_cmp (keyed es)) → i < length es → ((d : Entry) → (get_or es i d).state.path ≡ x.state.path)
    → put path_cmp x.state.path x (keyed es) ≡ keyed (set es i x)
put_at [] x i h lt here = absurd (omega arith)
put_at (e ∷ es) x zero h lt here =
    let tied : path_cmp x.state.path e.state.path ≡ Equal = ap (path_cmp x.state.path) (here e) ∙ tied_itself path_total x.state.path in
    rw tied (ap (λ p. (p, x) ∷ keyed es) (here e))
put_at (e ∷ es) x (suc i) h lt here =
    let above : path_cmp x.state.path e.state.path ≡ Greater = ap (λ p. path_cmp p e.state.path) (sym (here e)) ∙ after e.state.path (get_or es i e).state.path (below_at e.state.path es (T_left _ _ h) i e (omega arith)) in
    rw above (ap (λ l. (e.state.path, e) ∷ l) (put_at es x i (T_right _ _ h) (omega arith) here))

-- without the thread at a place
others : Path → Path → Bool
others p q = not (eq_by_cmp path_cmp p q)

kept : (p : Path) (es : List Entry) → T (below_all path_cmp p (keyed es)) → where_key path_cmp (others p) (keyed es) ≡ keyed es
unfolding others
kept p [] h = refl
kept p (e ∷ es) h = let lower : path_cmp p e.state.path ≡ Less = is_less (path_cmp p e.state.path) (T_left _ _ h) in rw lower (ap (λ l. (e.state.path, e) ∷ l) (kept p es (T_right _ _ h)))

dropped : (es : List Entry) (p : Path) (i : ℕ) → T (is_sorted path_cmp (keyed es)) → i < length es → ((d : Entry) → (get_or es i d).state.path ≡ p)
    → where_key path_cmp (others p) (keyed es) ≡ keyed (remove es i)
unfolding others
dropped [] p i h lt here = absurd (omega arith)
dropped (e ∷ es) p zero h lt here =
    let tied : path_cmp p e.state.path ≡ Equal = ap (path_cmp p) (here e) ∙ tied_itself path_total p in
    rw tied (kept p es (subst (λ q. T (below_all path_cmp q (keyed es))) (here e) (T_left _ _ h)))
dropped (e ∷ es) p (suc i) h lt here =
    let above : path_cmp p e.state.path ≡ Greater = ap (λ q. path_cmp q e.state.path) (sym (here e)) ∙ after e.state.path (get_or es i e).state.path (below_at e.state.path es (T_left _ _ h) i e (omega arith)) in
    rw above (ap (λ l. (e.state.path, e) ∷ l) (dropped es p i (T_right _ _ h) (omega arith) here))

-- ---- the same as maps

pub get_shelved : (es : List Entry) → T (is_sorted path_cmp (keyed es)) → (q : Path) → map.get (shelved es) q ≡ find path_cmp q (keyed es)
get_shelved es h q = map.get-from_sorted path_cmp (keyed es) q h

-- a list in order, and the map that it stands for
pub record StandsFor (es : List Entry) (m : Threads) : Type 0 where
  pub sorted : T (is_sorted path_cmp (keyed es))
  pub is : shelved es ≡ m

put_edited : (es fs : List Entry) (x : Entry) → T (is_sorted path_cmp (keyed es)) → put path_cmp x.state.path x (keyed es) ≡ keyed fs → StandsFor fs (map.insert (shelved es) x.state.path x)
put_edited es fs x h e =
    let up = subst (λ l. T (is_sorted path_cmp l)) e (is_sorted-put path_cmp path_total x.state.path x (keyed es) h) in
    record {
      sorted = up;
      is = map.same_entries_map _ _ (map.entries-from_sorted path_cmp (keyed fs) up ∙ sym e ∙ ap (put path_cmp x.state.path x) (sym (map.entries-from_sorted path_cmp (keyed es) h)) ∙ sym (map.entries-insert path_total (shelved es) x.state.path x));
    }

turned : {A : Type 0} (b : Bool) (x y : A) → cond (not b) x y ≡ cond b y x
turned true x y = refl
turned false x y = refl

drop_edited : (es fs : List Entry) (p : Path) → T (is_sorted path_cmp (keyed es)) → where_key path_cmp (others p) (keyed es) ≡ keyed fs → StandsFor fs (map.remove (shelved es) p)
unfolding others
drop_edited es fs p h e =
    let up = subst (λ l. T (is_sorted path_cmp l)) e (is_sorted-where_key path_cmp (others p) (keyed es) h) in
    record {
      sorted = up;
      is = same_threads _ _ (λ q.
          get_shelved fs up q ∙ ap (find path_cmp q) (sym e)
          ∙ find-where_key path_cmp (others p) q (λ x t. ap (λ (y : Path). others p y) (sym (path_exact q x t))) (keyed es)
          ∙ turned (eq_by_cmp path_cmp p q) _ _
          ∙ ap (λ b. cond b None (find path_cmp q (keyed es))) ((eq_by_cmp_equiv path_total).symm p q)
          ∙ sym (map.get-remove path_total (shelved es) p q ∙ ap (cond (eq_by_cmp path_cmp q p) None) (get_shelved es h q)));
    }

pub insert_edited : (es : List Entry) (x : Entry) (i : ℕ) → T (is_sorted path_cmp (keyed es)) → IsGap es x.state.path i → StandsFor (insert es i x) (map.insert (shelved es) x.state.path x)
insert_edited es x i h gap = put_edited es _ x h (put_gap es x i gap.in_range gap.before gap.after)

pub set_edited : (es : List Entry) (x : Entry) (i : ℕ) → T (is_sorted path_cmp (keyed es)) → IsAt es x.state.path i → StandsFor (set es i x) (map.insert (shelved es) x.state.path x)
set_edited es x i h at = put_edited es _ x h (put_at es x i h at.in_range at.here)

pub remove_edited : (es : List Entry) (p : Path) (i : ℕ) → T (is_sorted path_cmp (keyed es)) → IsAt es p i → StandsFor (remove es i) (map.remove (shelved es) p)
remove_edited es p i h at = drop_edited es _ p h (dropped es p i h at.in_range at.here)

-- what is found at a place, and in a gap
pub get_at : (es : List Entry) (p : Path) (i : ℕ) (d : Entry) → T (is_sorted path_cmp (keyed es)) → IsAt es p i → map.get (shelved es) p ≡ Some (get_or es i d)
get_at es p i d h at = get_shelved es h p ∙ subst (λ q. find path_cmp q (keyed es) ≡ Some (get_or es i d)) (at.here d) (find_at es h i d at.in_range)

pub get_gap : (es : List Entry) (p : Path) (i : ℕ) → T (is_sorted path_cmp (keyed es)) → IsGap es p i → map.get (shelved es) p ≡ None
get_gap es p i h gap = get_shelved es h p ∙ find_none es p (λ j d lt. apart j d lt)
  where
    apart : (j : ℕ) (d : Entry) → j < length es → is_eq (path_cmp p (get_or es j d).state.path) ≡ false
    apart j d lt = ⊎_elim (λ below. ap is_eq (gap.before j d below)) (λ above. ap is_eq (gap.after j d above lt)) (cases_lt j i)

-- ---- maps of threads

-- paths that tie are found alike
pub get_alike : (m : Threads) (p q : Path) → eq_by_cmp path_cmp q p ≡ true → map.get m q ≡ map.get m p
get_alike m p q e = ap (map.get m) (path_exact q p (tied (path_cmp q p) e))
  where
    tied : (r : Ordering) → is_eq r ≡ true → r ≡ Equal
    tied Less h = absurd (subst T (sym h) tt)
    tied Equal h = refl
    tied Greater h = absurd (subst T (sym h) tt)

-- to remove what isn't there changes nothing
pub remove_absent : (m : Threads) (p : Path) → map.get m p ≡ None → map.remove m p ≡ m
remove_absent m p none = same_threads _ _ (λ q. map.get-remove path_total m p q ∙ go q (eq_by_cmp path_cmp q p) refl)
  where
    go : (q : Path) (b : Bool) → eq_by_cmp path_cmp q p ≡ b → cond b None (map.get m q) ≡ map.get m q
    go q true e = sym (get_alike m p q e ∙ none)
    go q false e = refl
