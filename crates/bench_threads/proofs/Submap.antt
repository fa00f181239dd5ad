-- The part of a map whose values pass a test.
use Rattle.std.proofs.Common.{◌≡◌, List, [], ◌∷◌, Bool, true, false, cond, T, Some, None, Option, refl, sym, ap, subst, ◌∙◌}
use Rattle.std.specs.declared.cmp.Ordering.{Ordering}
use Rattle.std.specs.declared.cmp.Ordering.TheVariants.{Less, Equal, Greater}
use Rattle.std.specs.Ordering.{eq_by_cmp, is_eq}
use Rattle.std.specs.FinMap as map
use Rattle.std.specs.FinMap.{find, is_sorted}
use Rattle.std.specs.FinMap.Entries.{below_all, same_entries}
use Rattle.bench_model.specs.Paths.{Path, path_cmp}
use Rattle.bench_threads.specs.declared.entry.Entry.{Entry}
use Rattle.bench_threads.specs.Shelves.{Threads}
use Rattle.bench_threads.proofs.Keyed.{path_total, path_exact, T_both, T_left, T_right, is_less}

-- the value, where it passes
abbrev pub passing : (Entry → Bool) → Option Entry → Option Entry
passing f None = None
passing f (Some e) = cond (f e) (Some e) None

-- the entries whose values pass
abbrev pub passed : (Entry → Bool) → List (Path × Entry) → List (Path × Entry)
passed f [] = []
passed f (e ∷ es) = cond (f e.1) (e ∷ passed f es) (passed f es)

below_passed : (f : Entry → Bool) (p : Path) (es : List (Path × Entry)) → T (below_all path_cmp p es) → T (below_all path_cmp p (passed f es))
below_passed f p [] h = tt
below_passed f p (e ∷ es) h =
    let rest = below_passed f p es (T_right _ _ h) in
    elim (f e.1) as (λ b. T (below_all path_cmp p (cond b (e ∷ passed f es) (passed f es)))) [ true ↦ T_both _ _ (T_left _ _ h) rest | false ↦ rest ]

sorted_passed : (f : Entry → Bool) (es : List (Path × Entry)) → T (is_sorted path_cmp es) → T (is_sorted path_cmp (passed f es))
sorted_passed f [] h = tt
sorted_passed f (e ∷ es) h =
    let rest = sorted_passed f es (T_right _ _ h) in
    elim (f e.1) as (λ b. T (is_sorted path_cmp (cond b (e ∷ passed f es) (passed f es)))) [ true ↦ T_both _ _ (below_passed f e.0 es (T_left _ _ h)) rest | false ↦ rest ]

pub find_below : (q : Path) (es : List (Path × Entry)) → T (below_all path_cmp q es) → find path_cmp q es ≡ None
find_below q [] h = refl
find_below q (e ∷ es) h = ap (λ r. cond (is_eq r) (Some e.1) (find path_cmp q es)) (is_less (path_cmp q e.0) (T_left _ _ h)) ∙ find_below q es (T_right _ _ h)

pub equal : (r : Ordering) → is_eq r ≡ true → r ≡ Equal
equal Less h = absurd (subst T (sym h) tt)
equal Equal h = refl
equal Greater h = absurd (subst T (sym h) tt)

find_passed : (f : Entry → Bool) (q : Path) (es : List (Path × Entry)) → T (is_sorted path_cmp es) → find path_cmp q (passed f es) ≡ passing f (find path_cmp q es)
find_passed f q [] h = refl
find_passed f q (e ∷ es) h = go (eq_by_cmp path_cmp q e.0) (f e.1) refl refl (find_passed f q es (T_right _ _ h))
  where
    go : (b t : Bool) → eq_by_cmp path_cmp q e.0 ≡ b → f e.1 ≡ t → find path_cmp q (passed f es) ≡ passing f (find path_cmp q es)
        → find path_cmp q (cond t (e ∷ passed f es) (passed f es)) ≡ passing f (cond b (Some e.1) (find path_cmp q es))
    go true true i j rest = ap (λ b. cond b (Some e.1) (find path_cmp q (passed f es))) i ∙ sym (ap (λ b. cond b (Some e.1) None) j)
    go true false i j rest =
        let below : T (below_all path_cmp q es) = subst (λ k. T (below_all path_cmp k es)) (sym (path_exact q e.0 (equal (path_cmp q e.0) i))) (T_left _ _ h) in
        rest ∙ ap (passing f) (find_below q es below) ∙ sym (ap (λ b. cond b (Some e.1) None) j)
    go false true i j rest = ap (λ b. cond b (Some e.1) (find path_cmp q (passed f es))) i ∙ rest
    go false false i j rest = rest

-- a map that has what passes of another has the entries that pass
pub entries_passed : (f : Entry → Bool) (s t : Threads) → ((q : Path) → map.get s q ≡ passing f (map.get t q)) → map.entries s ≡ passed f (map.entries t)
entries_passed f s t is = same_entries path_cmp path_total path_exact (map.entries s) (passed f (map.entries t)) (map.entries_sorted s) (sorted_passed f (map.entries t) (map.entries_sorted t))
    (λ q. sym (map.get-entries s q) ∙ is q ∙ ap (passing f) (map.get-entries t q) ∙ sym (find_passed f q (map.entries t) (map.entries_sorted t)))
