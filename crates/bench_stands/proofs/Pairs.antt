-- A table and the threads for which it stands, entry by entry.
use Rattle.std.proofs.Common.{◌≡◌, List, [], ◌∷◌, Bool, true, false, cond, ◌||◌, T, Option, Some, None, refl, sym, ap, ap₂, subst, ◌∙◌}
use Rattle.std.specs.List.{list_any}
use Rattle.std.specs.FinMap as map
use Rattle.std.specs.FinMap.{find, is_sorted}
use Rattle.std.specs.FinMap.Entries.{below_all}
use Rattle.std.specs.Ordering.{eq_by_cmp, is_eq, is_lt, ordering_reverse}
use Rattle.std.specs.Cmp.{tied_itself}
use Rattle.std.specs.declared.cmp.Ordering.{Ordering}
use Rattle.std.specs.declared.cmp.Ordering.TheVariants.{Less, Equal, Greater}
use Rattle.bench_model.specs.Paths.{Path, path_cmp, is_path}
use Rattle.bench_model.specs.World as m
use Rattle.bench_model.proofs.PathFacts.{is_path_same}
use Rattle.tl_threads.specs.Threads.{Inner}
use Rattle.tl_code.specs.Compiled.{Compiled}
use Rattle.bench_threads.specs.declared.entry.Entry.{Entry}
use Rattle.bench_threads.specs.Shelves.{Threads}
use Rattle.bench_threads.proofs.Keyed.{path_total, path_exact, T_both, T_left, T_right, is_less}
use Rattle.bench_stands.specs.Standing.{EntryStands, StandsAt, TableStands}

pub same_path : (p q : Path) → eq_by_cmp path_cmp p q ≡ true → p ≡ q
unfolding is_path
same_path p q e = is_path_same p q e

-- ---- entries in the order of their paths
module _ {X : Type 0} where
  find_below : (q : Path) (es : List (Path × X)) → T (below_all path_cmp q es) → find path_cmp q es ≡ None
  find_below q [] h = refl
  find_below q (e ∷ es) h = ap (λ r. cond (is_eq r) (Some e.1) (find path_cmp q es)) (is_less (path_cmp q e.0) (T_left _ _ h)) ∙ find_below q es (T_right _ _ h)

  below_less : (p q : Path) (es : List (Path × X)) → path_cmp p q ≡ Less → T (below_all path_cmp q es) → T (below_all path_cmp p es)
  below_less p q [] l h = tt
  below_less p q (e ∷ es) l h =
      T_both (is_lt (path_cmp p e.0)) (below_all path_cmp p es)
      (subst (λ r. T (is_lt r)) (sym (path_total.trans p q e.0 l (is_less (path_cmp q e.0) (T_left _ _ h)))) tt)
      (below_less p q es l (T_right _ _ h))

  -- the first is found, and what is below it isn't
  pub find_first : (e : Path × X) (es : List (Path × X)) → find path_cmp e.0 (e ∷ es) ≡ Some e.1
  find_first e es = ap (λ r. cond (is_eq r) (Some e.1) (find path_cmp e.0 es)) (tied_itself path_total e.0)

  missed : (q : Path) (e : Path × X) (es : List (Path × X)) → path_cmp q e.0 ≡ Less → T (below_all path_cmp e.0 es) → find path_cmp q (e ∷ es) ≡ None
  missed q e es l h = ap (λ r. cond (is_eq r) (Some e.1) (find path_cmp q es)) l ∙ find_below q es (below_less q e.0 es l h)

  -- what is found behind the first is found
  pub found_behind : (e : Path × X) (es : List (Path × X)) → T (below_all path_cmp e.0 es) → (q : Path) (x : X) → find path_cmp q es ≡ Some x → find path_cmp q (e ∷ es) ≡ Some x
  found_behind e es h q x is = go (eq_by_cmp path_cmp q e.0) refl
    where
      go : (b : Bool) → eq_by_cmp path_cmp q e.0 ≡ b → cond b (Some e.1) (find path_cmp q es) ≡ Some x
      go true i = absurd (let none : find path_cmp q es ≡ None = find_below q es (subst (λ (y : Path). T (below_all path_cmp y es)) (sym (same_path q e.0 i)) h) in cc)
      go false i = is

-- ---- the pairs

-- an entry of the table and one of the threads, at one path
pub record Pair (c : Compiled) (ts : Threads) (ws : m.Threads Inner) (e : Path × Entry) (t : Path × m.Thread Inner) : Type 0 where
  pub same : e.0 ≡ t.0
  pub stands : EntryStands c e.0 e.1 t.1
  pub found : map.get ts e.0 ≡ Some e.1
  pub in_world : map.get ws t.0 ≡ Some t.1

-- these entries and those, one by one
abbrev pub Paired : Compiled → Threads → m.Threads Inner → List (Path × Entry) → List (Path × m.Thread Inner) → Type 0
Paired c ts ws [] [] = Unit {0}
Paired c ts ws (e ∷ es) (t ∷ us) = Pair c ts ws e t × Paired c ts ws es us
Paired c ts ws _ _ = ⊥

-- the same of what is there, by equations
pub moved : (c : Compiled) (p : Path) (a a' : Option Entry) (b b' : Option (m.Thread Inner)) → a ≡ a' → b ≡ b' → StandsAt c p a b → StandsAt c p a' b'
moved c p a a' b b' i j s = subst (λ o. StandsAt c p o b') i (subst (λ o. StandsAt c p a o) j s)

module _ (c : Compiled) where
  -- behind entries of one path
  behind : (e : Path × Entry) (es : List (Path × Entry)) (t : Path × m.Thread Inner) (us : List (Path × m.Thread Inner)) → e.0 ≡ t.0
      → T (below_all path_cmp e.0 es) → T (below_all path_cmp t.0 us) → (q : Path) → StandsAt c q (find path_cmp q (e ∷ es)) (find path_cmp q (t ∷ us))
      → StandsAt c q (find path_cmp q es) (find path_cmp q us)
  behind e es t us k g h q s = go (eq_by_cmp path_cmp q e.0) refl
    where
      go : (b : Bool) → eq_by_cmp path_cmp q e.0 ≡ b → StandsAt c q (find path_cmp q es) (find path_cmp q us)
      go true i =
          let same : q ≡ e.0 = same_path q e.0 i in
          moved c q None (find path_cmp q es) None (find path_cmp q us)
          (sym (find_below q es (subst (λ (y : Path). T (below_all path_cmp y es)) (sym same) g)))
          (sym (find_below q us (subst (λ (y : Path). T (below_all path_cmp y us)) (sym (same ∙ k)) h))) tt
      go false i =
          moved c q (find path_cmp q (e ∷ es)) (find path_cmp q es) (find path_cmp q (t ∷ us)) (find path_cmp q us)
          (ap (λ b. cond b (Some e.1) (find path_cmp q es)) i)
          (ap (λ b. cond b (Some t.1) (find path_cmp q us)) (ap (eq_by_cmp path_cmp q) (sym k) ∙ i)) s

  module _ (ts : Threads) (ws : m.Threads Inner) where
    pair_up : (es : List (Path × Entry)) (us : List (Path × m.Thread Inner)) → T (is_sorted path_cmp es) → T (is_sorted path_cmp us)
        → ((q : Path) (x : Entry) → find path_cmp q es ≡ Some x → map.get ts q ≡ Some x)
        → ((q : Path) (u : m.Thread Inner) → find path_cmp q us ≡ Some u → map.get ws q ≡ Some u)
        → ((q : Path) → StandsAt c q (find path_cmp q es) (find path_cmp q us)) → Paired c ts ws es us
    pair_up [] [] g h up on is = tt
    pair_up [] (t ∷ us) g h up on is = moved c t.0 None None (find path_cmp t.0 (t ∷ us)) (Some t.1) refl (find_first t us) (is t.0)
    pair_up (e ∷ es) [] g h up on is = moved c e.0 (find path_cmp e.0 (e ∷ es)) (Some e.1) None None (find_first e es) refl (is e.0)
    pair_up (e ∷ es) (t ∷ us) g h up on is = go (path_cmp e.0 t.0) refl
        (λ k. pair_up es us (T_right _ _ g) (T_right _ _ h)
        (λ q x f. up q x (found_behind e es (T_left _ _ g) q x f))
        (λ q u f. on q u (found_behind t us (T_left _ _ h) q u f))
        (λ q. behind e es t us k (T_left _ _ g) (T_left _ _ h) q (is q)))
      where
        go : (r : Ordering) → path_cmp e.0 t.0 ≡ r → (e.0 ≡ t.0 → Paired c ts ws es us) → Pair c ts ws e t × Paired c ts ws es us
        go Less l rest = absurd (moved c e.0 (find path_cmp e.0 (e ∷ es)) (Some e.1) (find path_cmp e.0 (t ∷ us)) None (find_first e es) (missed e.0 t us l (T_left _ _ h)) (is e.0))
        go Greater l rest = absurd (moved c t.0 (find path_cmp t.0 (e ∷ es)) None (find path_cmp t.0 (t ∷ us)) (Some t.1)
            (missed t.0 e es (path_total.antisymm t.0 e.0 ∙ ap ordering_reverse l) (T_left _ _ g)) (find_first t us) (is t.0))
        go Equal l rest =
            let same : e.0 ≡ t.0 = path_exact e.0 t.0 l in (
              record {
                same = same;
                stands = moved c e.0 (find path_cmp e.0 (e ∷ es)) (Some e.1) (find path_cmp e.0 (t ∷ us)) (Some t.1) (find_first e es)
                    (ap (λ r. cond (is_eq r) (Some t.1) (find path_cmp e.0 us)) l) (is e.0);
                found = up e.0 e.1 (find_first e es);
                in_world = on t.0 t.1 (find_first t us);
              },
              rest same,
            )

    -- WHERE A TABLE STANDS FOR THREADS, its entries are theirs, one by one
    pub paired : TableStands c ts ws → Paired c ts ws (map.entries ts) (map.entries ws)
    paired s = pair_up (map.entries ts) (map.entries ws) (map.entries_sorted ts) (map.entries_sorted ws)
        (λ q x f. map.get-entries ts q ∙ f) (λ q u f. map.get-entries ws q ∙ f)
        (λ q. moved c q (map.get ts q) (find path_cmp q (map.entries ts)) (map.get ws q) (find path_cmp q (map.entries ws)) (map.get-entries ts q) (map.get-entries ws q) (s q))

    -- tests that agree on each pair find the same
    pub any_told : (f : Entry → Bool) (g : m.Thread Inner → Bool) → ((p : Path) (e : Entry) (t : m.Thread Inner) → EntryStands c p e t → f e ≡ g t)
        → (es : List (Path × Entry)) (us : List (Path × m.Thread Inner)) → Paired c ts ws es us
        → list_any (λ (e : Path × Entry). f e.1) es ≡ list_any (λ (t : Path × m.Thread Inner). g t.1) us
    any_told f g agree [] [] h = refl
    any_told f g agree [] (t ∷ us) h = absurd h
    any_told f g agree (e ∷ es) [] h = absurd h
    any_told f g agree (e ∷ es) (t ∷ us) h = ap₂ (λ a b. a || b) (agree e.0 e.1 t.1 h.0.stands) (any_told f g agree es us h.1)
