-- What the places that a search finds on a shelf say of the map that contracts see.
use Rattle.std.proofs.Common.{◌≡◌, ℕ, suc, nat_eq, arith, true, option_map, ◌++◌, ◌+◌, ◌<◌, ◌≤◌, List, [], ◌∷◌, length, get_or, set, T, Bool, false, ◌&&◌, cond, take, drop, drop-cons, drop_of_length-le, Some, None, refl, sym, ap, subst, ◌∙◌}
use Rattle.std.specs.List.{insert, remove}
use Rattle.std.specs.Prelude as list
use Rattle.std.proofs.lemmas.Bool.Decides.{nat_tests}
use Rattle.std.specs.FinMap as map
use Rattle.std.specs.FinMap.{is_sorted, find}
use Rattle.std.specs.FinMap.Entries.{below_all}
use Rattle.bench_model.specs.Paths.{Path, path_cmp}
use Rattle.bench_threads.specs.declared.entry.Entry.{Entry}
use Rattle.bench_threads.specs.Shelves.{Threads, keyed, shelved, is_nil, first_unmarked, IsAt, IsGap, Listed}
use Rattle.bench_threads.proofs.Keyed.{StandsFor, get_at, get_gap, insert_edited, set_edited, remove_edited, remove_absent, get_shelved, path_exact}
use Rattle.tb_base.specs.declared.path.Region.{Region}
use Rattle.bench_model.specs.Settle.{map_values}
use Rattle.std.specs.Ordering.{eq_by_cmp, is_eq, is_lt}
use Rattle.std.specs.declared.cmp.Ordering.{Ordering}
use Rattle.std.specs.declared.cmp.Ordering.TheVariants.{Less, Equal, Greater}
use Rattle.std.proofs.lemmas.List.{get_or_default}
use Rattle.std.proofs.lemmas.List.Edits.{map_over_more}
use Rattle.bench_threads.specs.Threads.{write, change, line_in, spent_in, or_line}

pub length_keyed : (es : List Entry) → length (keyed es) ≡ length es
length_keyed [] = refl
length_keyed (e ∷ es) = ap suc (length_keyed es)

values_keyed : (es : List Entry) → list.map (λ (e : Path × Entry). e.1) (keyed es) ≡ es
values_keyed [] = refl
values_keyed (e ∷ es) = ap (λ l. e ∷ l) (values_keyed es)

nil_keyed : (es : List Entry) → is_nil (keyed es) ≡ nat_eq (length es) 0
nil_keyed [] = refl
nil_keyed (e ∷ es) = grind (arith, nat_tests)

pub len_shelved : (es : List Entry) → T (is_sorted path_cmp (keyed es)) → map.len (shelved es) ≡ length es
len_shelved es h = map.len-entries (shelved es) ∙ ap length (map.entries-from_sorted path_cmp (keyed es) h) ∙ length_keyed es

pub values_shelved : (es : List Entry) → T (is_sorted path_cmp (keyed es)) → map.values (shelved es) ≡ es
values_shelved es h = ap (list.map (λ (e : Path × Entry). e.1)) (map.entries-from_sorted path_cmp (keyed es) h) ∙ values_keyed es

-- a thread that is found stands at a place
pub record Placed (es : List Entry) (q : Path) (e : Entry) : Type 0 where
  pub place : ℕ
  pub within : place < length es
  pub is : (d : Entry) → get_or es place d ≡ e
  pub path : e.state.path ≡ q

tied : (r : Ordering) → is_eq r ≡ true → r ≡ Equal
tied Less e = cc
tied Equal e = refl
tied Greater e = cc

find_place : (es : List Entry) (q : Path) (e : Entry) → find path_cmp q (keyed es) ≡ Some e → Placed es q e
find_place [] q e h = absurd cc
find_place (x ∷ es) q e h = go (eq_by_cmp path_cmp q x.state.path) refl h (find_place es q e)
  where
    go : (b : Bool) → eq_by_cmp path_cmp q x.state.path ≡ b → cond b (Some x) (find path_cmp q (keyed es)) ≡ Some e → (find path_cmp q (keyed es) ≡ Some e → Placed es q e) → Placed (x ∷ es) q e
    go true i g rest =
        let same : x ≡ e = cc in
        record { place = 0; within = omega arith; is = λ d. same; path = sym (ap (λ (y : Entry). y.state.path) same) ∙ sym (path_exact q x.state.path (tied (path_cmp q x.state.path) i)) }
    go false i g rest = let r = rest g in record { place = suc r.place; within = let w = r.within in omega arith; is = r.is; path = r.path }

-- es: the threads of the shelf; fs: the same as a search saw them; m: the map that contracts see
module _ (es fs : List Entry) (m : Threads) (same : fs ≡ es) (h : T (is_sorted path_cmp (keyed es))) (view : shelved es ≡ m) where
  pub found_at : (p : Path) (i : ℕ) (x : Entry) → IsAt fs p i → x ≡ get_or es i x → Some x ≡ map.get m p
  found_at p i x at is = ap Some is ∙ sym (get_at es p i x h (subst (λ l. IsAt l p i) same at)) ∙ ap (λ n. map.get n p) view

  pub found_in : (p : Path) (i : ℕ) (d : Entry) → IsAt fs p i → Some (get_or es i d) ≡ map.get m p
  found_in p i d at = sym (get_at es p i d h (subst (λ l. IsAt l p i) same at)) ∙ ap (λ n. map.get n p) view

  pub found_none : (p : Path) (i : ℕ) → IsGap fs p i → None ≡ map.get m p
  found_none p i gap = sym (get_gap es p i h (subst (λ l. IsGap l p i) same gap)) ∙ ap (λ n. map.get n p) view

  pub removed : (p : Path) (i : ℕ) (gs : List Entry) → IsAt fs p i → gs ≡ remove es i → StandsFor gs (map.remove m p)
  removed p i gs at is =
      subst (λ l. StandsFor l (map.remove m p)) (sym is) (subst (λ n. StandsFor (remove es i) (map.remove n p)) view (remove_edited es p i h (subst (λ l. IsAt l p i) same at)))

  pub inserted : (p : Path) (x : Entry) (i : ℕ) (gs : List Entry) → p ≡ x.state.path → IsGap fs p i → gs ≡ insert es i x → StandsFor gs (map.insert m x.state.path x)
  inserted p x i gs e gap is =
      subst (λ l. StandsFor l (map.insert m x.state.path x)) (sym is) (subst (λ n. StandsFor (insert es i x) (map.insert n x.state.path x)) view
      (insert_edited es x i h (subst (λ q. IsGap es q i) e (subst (λ l. IsGap l p i) same gap))))

  pub replaced : (p : Path) (x : Entry) (i : ℕ) (gs : List Entry) → p ≡ x.state.path → IsAt fs p i → gs ≡ set es i x → StandsFor gs (map.insert m x.state.path x)
  replaced p x i gs e at is =
      subst (λ l. StandsFor l (map.insert m x.state.path x)) (sym is) (subst (λ n. StandsFor (set es i x) (map.insert n x.state.path x)) view
      (set_edited es x i h (subst (λ q. IsAt es q i) e (subst (λ l. IsAt l p i) same at))))

  -- the thread at a place changed, with its path kept
  pub changed : (f : Entry → Entry) (p : Path) (i : ℕ) (y : Entry) (gs : List Entry) → ((e : Entry) → (f e).state.path ≡ e.state.path) → IsAt fs p i → y ≡ get_or es i y → gs ≡ set es i (f y)
      → StandsFor gs (change f m p)
  changed f p i y gs kept at item is =
      let there : map.get m p ≡ Some y = sym (found_at p i y at item) in
      let path : p ≡ (f y).state.path = sym ((subst (λ l. IsAt l p i) same at).here y) ∙ ap (λ (e : Entry). e.state.path) (sym item) ∙ sym (kept y) in
      let made : change f m p ≡ map.insert m (f y).state.path (f y) = ap (λ o. write m p (option_map f o)) there ∙ ap (λ q. map.insert m q (f y)) path in
      subst (StandsFor gs) (sym made) (replaced p (f y) i gs path at is)

  pub unchanged : (f : Entry → Entry) (p : Path) (i : ℕ) → IsGap fs p i → m ≡ change f m p
  unchanged f p i gap =
      let none : map.get m p ≡ None = sym (found_none p i gap) in
      sym (ap (λ o. write m p (option_map f o)) none ∙ remove_absent m p none)

  pub values_seen : map.values m ≡ es
  values_seen = ap map.values (sym view) ∙ ap (list.map (λ (e : Path × Entry). e.1)) (map.entries-from_sorted path_cmp (keyed es) h) ∙ values_keyed es

  pub within_seen : (i : ℕ) → i < length (map.values m) → i < length es
  within_seen i lt = subst (λ (l : List Entry). i < length l) values_seen lt

  pub item_seen : (i : ℕ) (x : Entry) → i < length es → x ≡ get_or es i x → (d : Entry) → x ≡ get_or (map.values m) i d
  item_seen i x lt is d = is ∙ get_or_default es i x d lt ∙ ap (λ (l : List Entry). get_or l i d) (sym values_seen)

  at_place : (i : ℕ) (x : Entry) → i < length es → x ≡ get_or es i x → IsAt es x.state.path i
  at_place i x lt is = record { in_range = lt; here = λ d. ap (λ (e : Entry). e.state.path) (get_or_default es i d x lt ∙ sym is) }

  pub there_seen : (i : ℕ) (x : Entry) → i < length es → x ≡ get_or es i x → map.get m x.state.path ≡ Some x
  there_seen i x lt is = ap (λ n. map.get n x.state.path) (sym view) ∙ get_at es x.state.path i x h (at_place i x lt is) ∙ ap Some (sym is)

  pub removed_at : (i : ℕ) (x : Entry) (gs : List Entry) → i < length es → x ≡ get_or es i x → gs ≡ remove es i → StandsFor gs (map.remove m x.state.path)
  removed_at i x gs lt is e = subst (λ l. StandsFor l (map.remove m x.state.path)) (sym e) (subst (λ n. StandsFor (remove es i) (map.remove n x.state.path)) view (remove_edited es x.state.path i h (at_place i x lt is)))

  pub set_at : (f : Entry → Entry) → ((e : Entry) → (f e).state.path ≡ e.state.path) → (i : ℕ) (x : Entry) (gs : List Entry) → i < length es → x ≡ get_or es i x → gs ≡ set es i (f x)
      → (d : Entry) → StandsFor gs (map.insert m (get_or (map.values m) i d).state.path (f (get_or (map.values m) i d)))
  set_at f kept i x gs lt is e d =
      let at : IsAt es (f x).state.path i = subst (λ q. IsAt es q i) (sym (kept x)) (at_place i x lt is) in
      let made : StandsFor gs (map.insert m (f x).state.path (f x)) =
      subst (λ l. StandsFor l (map.insert m (f x).state.path (f x))) (sym e) (subst (λ n. StandsFor (set es i (f x)) (map.insert n (f x).state.path (f x))) view (set_edited es (f x) i h at)) in
      subst (λ (y : Entry). StandsFor gs (map.insert m y.state.path (f y))) (item_seen i x lt is d) (subst (λ q. StandsFor gs (map.insert m q (f x))) (kept x) made)

  pub values_set : (f : Entry → Entry) (i : ℕ) (x : Entry) (gs : List Entry) → T (is_sorted path_cmp (keyed gs)) → i < length es → x ≡ get_or es i x → gs ≡ set es i (f x)
      → (d : Entry) → map.values (shelved gs) ≡ set (map.values m) i (f (get_or (map.values m) i d))
  values_set f i x gs up lt is e d = values_shelved gs up ∙ e ∙ ap (λ (l : List Entry). set l i (f x)) (sym values_seen) ∙ ap (λ (y : Entry). set (map.values m) i (f y)) (item_seen i x lt is d)

  pub values_removed : (i : ℕ) (gs : List Entry) → T (is_sorted path_cmp (keyed gs)) → gs ≡ remove es i → map.values (shelved gs) ≡ remove (map.values m) i
  values_removed i gs up e = values_shelved gs up ∙ e ∙ ap (λ (l : List Entry). remove l i) (sym values_seen)

  pub listed_seen : Listed m
  listed_seen = record {
    there = subst (λ (l : List Entry). (i : ℕ) (d : Entry) → i < length l → map.get m (get_or l i d).state.path ≡ Some (get_or l i d)) (sym values_seen)
        (λ i d lt. ap (λ n. map.get n (get_or es i d).state.path) (sym view) ∙ get_at es (get_or es i d).state.path i d h (record { in_range = lt; here = λ e. ap (λ (y : Entry). y.state.path) (get_or_default es i e d lt) }));
    found = λ q e is.
        let p = find_place es q e (sym (get_shelved es h q) ∙ ap (λ n. map.get n q) view ∙ is) in
        record {
          place = p.place;
          within = subst (λ (l : List Entry). p.place < length l) (sym values_seen) p.within;
          is = λ d. ap (λ (l : List Entry). get_or l p.place d) values_seen ∙ p.is d;
          path = p.path;
        };
  }

  pub nil_seen : is_nil (map.entries m) ≡ nat_eq (length es) 0
  nil_seen = ap (λ (n : Threads). is_nil (map.entries n)) (sym view) ∙ ap is_nil (map.entries-from_sorted path_cmp (keyed es) h) ∙ nil_keyed es

  pub len_seen : map.len m ≡ length es
  len_seen = ap map.len (sym view) ∙ len_shelved es h

pub shelved_nothing : shelved [] ≡ map.empty
shelved_nothing = map.empty_of_len (shelved []) (len_shelved [] tt)

-- the first without a mark is at the first place whose thread has none
pub first_at : (es : List Entry) (i : ℕ) (x : Entry) → i < length es → x ≡ get_or es i x → x.marked ≡ false → first_unmarked (drop i es) ≡ Some x
first_at es i x lt is clear =
    ap first_unmarked (drop-cons es i x lt) ∙ ap (λ y. first_unmarked (y ∷ drop (suc i) es)) (sym is) ∙ ap (λ b. cond b (first_unmarked (drop (suc i) es)) (Some x)) clear

pub first_past : (es : List Entry) (i : ℕ) → length es ≤ i → first_unmarked (drop i es) ≡ None
first_past es i le = ap first_unmarked (drop_of_length-le es le)

all_written : (f : Entry → Entry) (es : List Entry) → take (length es) (list.map f es ++ drop (length (list.map f es)) es) ≡ list.map f es
all_written f [] = refl
all_written f (e ∷ es) = ap (λ l. f e ∷ l) (all_written f es)

-- ---- spent threads, and marks that are taken away

pub spent_at : (r : Region) (es : List Entry) (i l : ℕ) (x : Entry) → i < length es → x ≡ get_or es i x → line_in r x ≡ Some l → spent_in r (drop i es) ≡ Some (x.state.path, l)
spent_at r es i l x lt is line =
    ap (spent_in r) (drop-cons es i x lt) ∙ ap (λ (y : Entry). spent_in r (y ∷ drop (suc i) es)) (sym is) ∙ ap (λ o. or_line x.state.path o (spent_in r (drop (suc i) es))) line

module _ (f : Entry → Entry) (kept : (e : Entry) → (f e).state.path ≡ e.state.path) where
  keyed_map : (es : List Entry) → keyed (list.map f es) ≡ list.map (λ (e : Path × Entry). (e.0, f e.1)) (keyed es)
  keyed_map [] = refl
  keyed_map (e ∷ es) = ap (λ q. (q, f e) ∷ keyed (list.map f es)) (kept e) ∙ ap (λ l. (e.state.path, f e) ∷ l) (keyed_map es)

  below_map : (p : Path) (es : List (Path × Entry)) → below_all path_cmp p (list.map (λ (e : Path × Entry). (e.0, f e.1)) es) ≡ below_all path_cmp p es
  below_map p [] = refl
  below_map p (e ∷ es) = ap (λ b. is_lt (path_cmp p e.0) && b) (below_map p es)

  sorted_map : (es : List (Path × Entry)) → is_sorted path_cmp (list.map (λ (e : Path × Entry). (e.0, f e.1)) es) ≡ is_sorted path_cmp es
  sorted_map [] = refl
  sorted_map (e ∷ es) = ap (λ b. b && is_sorted path_cmp (list.map (λ (e : Path × Entry). (e.0, f e.1)) es)) (below_map e.0 es) ∙ ap (λ b. below_all path_cmp e.0 es && b) (sorted_map es)

  -- all threads changed, with their paths kept
  pub all_changed : (es gs : List Entry) (m : Threads) → T (is_sorted path_cmp (keyed es)) → shelved es ≡ m → gs ≡ list.map f es → StandsFor gs (map_values path_cmp (λ p e. f e) m)
  all_changed es gs m h view is = subst (λ l. StandsFor l (map_values path_cmp (λ p e. f e) m)) (sym is) (record {
    sorted = subst T (sym (ap (is_sorted path_cmp) (keyed_map es) ∙ sorted_map (keyed es))) h;
    is = ap map.from_sorted (keyed_map es ∙ ap (list.map (λ (e : Path × Entry). (e.0, f e.1))) (sym (map.entries-from_sorted path_cmp (keyed es) h)))
        ∙ ap (map_values path_cmp (λ (p : Path) (e : Entry). f e)) view;
  })

-- a whole slice written over
pub written : (f : Entry → Entry) (es gs : List Entry) (n : ℕ) → n ≡ length es → gs ≡ list.map f es → take n (gs ++ drop (length gs) es) ≡ list.map f es
written f es gs n e is =
    ap (λ k. take k (gs ++ drop (length gs) es)) e ∙ ap (λ l. take (length es) (l ++ drop (length l) es)) is ∙ all_written f es

pub mapped : (f : Entry → Entry) (xs ys : List Entry) (i : ℕ) (x y : Entry) → i < length xs → ys ≡ list.map f (take i xs) ++ drop i xs → x ≡ get_or ys i x → y ≡ f x → set ys i y ≡ list.map f (take (i + 1) xs) ++ drop (i + 1) xs
mapped f xs ys i x y lt is item e = ap (set ys i) e ∙ map_over_more f xs ys i x lt is item
