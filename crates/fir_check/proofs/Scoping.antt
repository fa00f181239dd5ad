-- The names of a module in a map, and as contracts see them.
use Rattle.std.proofs.Common.{ℕ, zero, suc, Bool, true, false, ◌&&◌, ◌||◌, ◌≡◌, ◌+◌, ◌≤◌, min, cond, List, [], ◌∷◌, ◌++◌, length, map, refl, sym, ap, ◌∙◌, arith, add-one, Option, None, Some, is_some, option_map, nat_eq, slice_get, if◌then◌else◌}
use Rattle.std.specs.Prelude.{bytes_eq, option_copied}
use Rattle.std.specs.Borrow.{Bor}
use Rattle.std.specs.Map.{lookup}
use Rattle.std.specs.Cmp.Lexicographic.{pointwise}
use Rattle.std.specs.declared.vec.Vec.{Vec}
use Rattle.std.specs.declared.alloc.Global.{Global}
use Rattle.indexmap.specs.IndexMap.{insert_entry}
use Rattle.indexmap.specs.Layout.{set_value_at}
use Rattle.fir_check.specs.declared.scope.Declared.{Declared}
use Rattle.fir_check.specs.Names.{is_among, kept, repeated, seconds}
use Rattle.fir_check.specs.Seen.{meant}
use Rattle.fir_check.specs.Scopes.{Thing, Known, known_name, is_declared, visible, added, fresh, hide, hidden}
use Rattle.fir_ast.specs.declared.tree.Ty.{Ty}
use Rattle.fir_check.specs.KnownSeen.{facts_seen, known_at, seen, closed, closed_at, closed_past}
use Rattle.fir_check.proofs.Names.{bytes_turned, differ_among, or_true, or_left, or_right}

abbrev pub Entry : Type 0
Entry = Vec ℕ Global × Declared

abbrev pub entry_name : Entry → List ℕ
entry_name e = e.0.items

-- what is known, where these are the types of the numbers
abbrev pub known_seen : List Ty → List Entry → List Known
known_seen T es = seen T (facts_seen es)

-- no name stands twice, nor is one of these
abbrev pub Distinct : List (List ℕ) → List Entry → Type 0
Distinct earlier es = repeated entry_name earlier es ≡ []

known_names : (T : List Ty) → (es : List Entry) → map known_name (known_seen T es) ≡ map entry_name es
known_names T [] = refl
known_names T (e ∷ es) = ap (λ ns. e.0.items ∷ ns) (known_names T es)

looked : (n : List ℕ) (es : List Entry) → is_some (lookup (λ k. pointwise nat_eq n k.items) es) ≡ is_among n (map entry_name es)
looked n [] = refl
looked n (e ∷ es) = by (pointwise nat_eq n e.0.items) (looked n es) ∙ ap (λ b. b || is_among n (map entry_name es)) (bytes_turned n e.0.items)
  where
    by : (b : Bool) → is_some (lookup (λ k. pointwise nat_eq n k.items) es) ≡ is_among n (map entry_name es)
        → is_some (cond b (Some e.1) (lookup (λ k. pointwise nat_eq n k.items) es)) ≡ b || is_among n (map entry_name es)
    by true i = refl
    by false i = i

pub declared_is : (T : List Ty) → (n : List ℕ) (es : List Entry) (known : List Known) → known_seen T es ≡ known
    → is_some (lookup (λ k. pointwise nat_eq n k.items) es) ≡ is_declared n known
declared_is T n es known e = looked n es ∙ ap (is_among n) (sym (known_names T es)) ∙ ap (is_declared n) e

-- a name that isn't there
absent : (n : List ℕ) (earlier : List (List ℕ)) (es : List Entry) → Distinct earlier es → is_among n earlier ≡ true → is_among n (map entry_name es) ≡ false
absent n earlier [] d h = refl
absent n earlier (e ∷ es) d h =
    by (is_among e.0.items earlier) refl d (λ r. absent n (e.0.items ∷ earlier) es r (ap (λ b. bytes_eq e.0.items n || b) h ∙ or_true (bytes_eq e.0.items n)))
  where
    by : (b : Bool) → is_among e.0.items earlier ≡ b → kept b e (repeated entry_name (e.0.items ∷ earlier) es) ≡ []
        → (Distinct (e.0.items ∷ earlier) es → is_among n (map entry_name es) ≡ false) → (bytes_eq e.0.items n || is_among n (map entry_name es)) ≡ false
    by true q r i = cc
    by false q r i = ap (λ b. b || is_among n (map entry_name es)) (bytes_turned e.0.items n ∙ differ_among n e.0.items earlier h q) ∙ i r

none_visible : (T : List Ty) → (n : List ℕ) (es : List Entry) → is_among n (map entry_name es) ≡ false → visible n (known_seen T es) ≡ None
none_visible T n [] h = refl
none_visible T n (e ∷ es) h =
    ap (λ b. cond (b && e.1.open_here) (Some (known_at T (e.0.items, e.1))) (visible n (known_seen T es))) (or_left (bytes_eq e.0.items n) (is_among n (map entry_name es)) h)
    ∙ none_visible T n es (or_right (bytes_eq e.0.items n) (is_among n (map entry_name es)) h)

-- what is shown of a fact that a look-up finds
abbrev pub shown : (T : List Ty) → Option Declared → Option (Option Thing)
shown T None = None
shown T (Some d) = if d.open_here then Some (option_map (meant T) d.meaning) else None

abbrev pub meaning_shown : List ℕ → List Known → Option (Option Thing)
meaning_shown n known = option_map (λ k. k.meaning) (visible n known)

tail_distinct : (earlier : List (List ℕ)) (e : Entry) (es : List Entry) → Distinct earlier (e ∷ es) → Distinct (e.0.items ∷ earlier) es
tail_distinct earlier e es d = by (is_among e.0.items earlier) d
  where
    by : (b : Bool) → kept b e (repeated entry_name (e.0.items ∷ earlier) es) ≡ [] → Distinct (e.0.items ∷ earlier) es
    by true r = cc
    by false r = r

visible_entry : (T : List Ty) → (n : List ℕ) (earlier : List (List ℕ)) (es : List Entry) → Distinct earlier es
    → meaning_shown n (known_seen T es) ≡ shown T (lookup (λ k. pointwise nat_eq n k.items) es)
visible_entry T n earlier [] d = refl
visible_entry T n earlier (e ∷ es) d =
    by (bytes_eq e.0.items n) e.1.open_here refl refl
    (λ q. none_visible T n es (absent n (e.0.items ∷ earlier) es (tail_distinct earlier e es d) (ap (λ b. b || is_among n earlier) q)))
    (visible_entry T n (e.0.items ∷ earlier) es (tail_distinct earlier e es d))
    ∙ ap (λ b. shown T (cond b (Some e.1) (lookup (λ k. pointwise nat_eq n k.items) es))) (bytes_turned e.0.items n)
  where
    by : (b o : Bool) → bytes_eq e.0.items n ≡ b → e.1.open_here ≡ o → (bytes_eq e.0.items n ≡ true → visible n (known_seen T es) ≡ None)
        → meaning_shown n (known_seen T es) ≡ shown T (lookup (λ k. pointwise nat_eq n k.items) es)
        → option_map (λ k. k.meaning) (cond (bytes_eq e.0.items n && e.1.open_here) (Some (known_at T (e.0.items, e.1))) (visible n (known_seen T es)))
        ≡ shown T (cond (bytes_eq e.0.items n) (Some e.1) (lookup (λ k. pointwise nat_eq n k.items) es))
    by true true q p z i =
        ap (λ b. option_map (λ k. k.meaning) (cond (b && e.1.open_here) (Some (known_at T (e.0.items, e.1))) (visible n (known_seen T es)))) q
        ∙ ap (λ b. option_map (λ k. k.meaning) (cond b (Some (known_at T (e.0.items, e.1))) (visible n (known_seen T es)))) p
        ∙ sym (ap (λ b. shown T (cond b (Some e.1) (lookup (λ k. pointwise nat_eq n k.items) es))) q
        ∙ ap (λ b. if b then Some (option_map (meant T) e.1.meaning) else None) p)
    by true false q p z i =
        ap (λ b. option_map (λ k. k.meaning) (cond (b && e.1.open_here) (Some (known_at T (e.0.items, e.1))) (visible n (known_seen T es)))) q
        ∙ ap (λ b. option_map (λ k. k.meaning) (cond b (Some (known_at T (e.0.items, e.1))) (visible n (known_seen T es)))) p
        ∙ ap (option_map (λ k. k.meaning)) (z q)
        ∙ sym (ap (λ b. shown T (cond b (Some e.1) (lookup (λ k. pointwise nat_eq n k.items) es))) q
        ∙ ap (λ b. if b then Some (option_map (meant T) e.1.meaning) else None) p)
    by false o q p z i =
        ap (λ b. option_map (λ k. k.meaning) (cond (b && e.1.open_here) (Some (known_at T (e.0.items, e.1))) (visible n (known_seen T es)))) q
        ∙ i
        ∙ sym (ap (λ b. shown T (cond b (Some e.1) (lookup (λ k. pointwise nat_eq n k.items) es))) q)

pub visible_is : (T : List Ty) → (n : List ℕ) (es : List Entry) (known : List Known) (r : Option (Bor Declared)) (d : Option Declared) → known_seen T es ≡ known → seconds entry_name es ≡ []
    → option_copied r ≡ lookup (λ k. pointwise nat_eq n k.items) es → option_copied r ≡ d → shown T d ≡ meaning_shown n known
visible_is T n es known r d e u g p = ap (shown T) (sym p ∙ g) ∙ sym (visible_entry T n [] es u) ∙ ap (meaning_shown n) e

-- a further name

pub not_declared : (n : List ℕ) (es : List Entry) (b : Bool) → b ≡ is_some (lookup (λ k. pointwise nat_eq n k.items) es) → b ≡ false → is_among n (map entry_name es) ≡ false
not_declared n es b p q = sym (looked n es) ∙ sym p ∙ q

inserted : (k : Vec ℕ Global) (d : Declared) (es : List Entry) → is_among k.items (map entry_name es) ≡ false
    → insert_entry (λ a b. pointwise nat_eq a.items b.items) es k d ≡ es ++ (k, d) ∷ []
inserted k d [] h = refl
inserted k d (e ∷ es) h =
    ap (λ b. cond b ((e.0, d) ∷ es) (e ∷ insert_entry (λ a b. pointwise nat_eq a.items b.items) es k d))
    (bytes_turned k.items e.0.items ∙ or_left (bytes_eq e.0.items k.items) (is_among k.items (map entry_name es)) h)
    ∙ ap (λ t. e ∷ t) (inserted k d es (or_right (bytes_eq e.0.items k.items) (is_among k.items (map entry_name es)) h))

seen_last : (T : List Ty) → (es : List Entry) (k : Vec ℕ Global) (d : Declared) → known_seen T (es ++ (k, d) ∷ []) ≡ known_seen T es ++ known_at T (k.items, d) ∷ []
seen_last T [] k d = refl
seen_last T (e ∷ es) k d = ap (λ t. known_at T (e.0.items, e.1) ∷ t) (seen_last T es k d)

distinct_last : (earlier : List (List ℕ)) (es : List Entry) (x : Entry) → Distinct earlier es → is_among x.0.items earlier ≡ false
    → is_among x.0.items (map entry_name es) ≡ false → Distinct earlier (es ++ x ∷ [])
distinct_last earlier [] x d h a = ap (λ b. kept b x []) h
distinct_last earlier (e ∷ es) x d h a =
    by (is_among e.0.items earlier) d
    (λ r. distinct_last (e.0.items ∷ earlier) es x r (ap (λ b. b || is_among x.0.items earlier) (or_left (bytes_eq e.0.items x.0.items) (is_among x.0.items (map entry_name es)) a) ∙ h)
    (or_right (bytes_eq e.0.items x.0.items) (is_among x.0.items (map entry_name es)) a))
  where
    by : (b : Bool) → kept b e (repeated entry_name (e.0.items ∷ earlier) es) ≡ []
        → (Distinct (e.0.items ∷ earlier) es → repeated entry_name (e.0.items ∷ earlier) (es ++ x ∷ []) ≡ [])
        → kept b e (repeated entry_name (e.0.items ∷ earlier) (es ++ x ∷ [])) ≡ []
    by true r i = cc
    by false r i = i r

-- the entries after a new name came
pub record Came (es fs : List Entry) (n : List ℕ) (k : Vec ℕ Global) (d : Declared) : Type 0 where
  pub key : k.items ≡ n
  pub entries : fs ≡ insert_entry (λ a b. pointwise nat_eq a.items b.items) es k d
  pub new : is_among n (map entry_name es) ≡ false

came_last : (es fs : List Entry) (n : List ℕ) (k : Vec ℕ Global) (d : Declared) → Came es fs n k d → fs ≡ es ++ (k, d) ∷ []
came_last es fs n k d c = c.entries ∙ inserted k d es (ap (λ m. is_among m (map entry_name es)) c.key ∙ c.new)

pub came_distinct : (es fs : List Entry) (n : List ℕ) (k : Vec ℕ Global) (d : Declared) → Came es fs n k d → seconds entry_name es ≡ [] → seconds entry_name fs ≡ []
came_distinct es fs n k d c u =
    ap (seconds entry_name) (came_last es fs n k d c) ∙ distinct_last [] es (k, d) u refl (ap (λ m. is_among m (map entry_name es)) c.key ∙ c.new)

pub came_added : (T : List Ty) → (es fs : List Entry) (n : List ℕ) (k : Vec ℕ Global) (d : Declared) (known : List Known) → Came es fs n k d → known_seen T es ≡ known → d.open_here ≡ true
    → known_seen T fs ≡ added (fresh n (option_map (meant T) d.meaning)) known
came_added T es fs n k d known c e o =
    ap (known_seen T) (came_last es fs n k d c) ∙ seen_last T es k d
    ∙ ap (λ t. t ++ known_at T (k.items, d) ∷ []) e
    ∙ ap (λ m. known ++ record { name = m; open_here = d.open_here; meaning = option_map (meant T) d.meaning } ∷ []) c.key
    ∙ ap (λ b. known ++ record { name = n; open_here = b; meaning = option_map (meant T) d.meaning } ∷ []) o
    ∙ sym (ap (λ b. if b then known else known ++ fresh n (option_map (meant T) d.meaning) ∷ []) (sym (ap (is_declared n) e) ∙ ap (is_among n) (known_names T es) ∙ c.new))

pub taken_added : (T : List Ty) → (n : List ℕ) (m : Option Thing) (es : List Entry) (known : List Known) (b : Bool) → known_seen T es ≡ known
    → b ≡ is_some (lookup (λ k. pointwise nat_eq n k.items) es) → b ≡ true → known ≡ added (fresh n m) known
taken_added T n m es known b e p q = sym (ap (λ t. if t then known else known ++ fresh n m ∷ []) (sym (declared_is T n es known e) ∙ sym p ∙ q))

-- marks

pub closed_value : (es : List Entry) (k : ℕ) (d : Declared) → slice_get (map (λ e. e.1) es) k ≡ Some d → set_value_at es k (closed d) ≡ closed_at k es
closed_value [] zero d h = refl
closed_value [] (suc k) d h = refl
closed_value (e ∷ es) zero d h = ap (λ w. (e.0, closed w) ∷ es) (sym (some_same e.1 d h))
  where
    some_same : (a b : Declared) → Some a ≡ Some b → a ≡ b
    some_same a b q = cc
closed_value (e ∷ es) (suc k) d h = ap (λ t. e ∷ t) (closed_value es k d h)

pub closed_none : (es : List Entry) (k : ℕ) → slice_get (map (λ e. e.1) es) k ≡ None → es ≡ closed_at k es
closed_none [] zero h = refl
closed_none [] (suc k) h = refl
closed_none (e ∷ es) zero h = cc
closed_none (e ∷ es) (suc k) h = ap (λ t. e ∷ t) (closed_none es k h)

pub past_all : (es : List Entry) (n : ℕ) → length es ≤ n → closed_past n es ≡ es
past_all [] zero h = refl
past_all [] (suc n) h = refl
past_all (e ∷ es) zero h = absurd (omega arith)
past_all (e ∷ es) (suc n) h = ap (λ t. e ∷ t) (past_all es n (omega arith))

past_more : (es : List Entry) (n : ℕ) → closed_at n (closed_past (suc n) es) ≡ closed_past n es
past_more [] zero = refl
past_more [] (suc n) = refl
past_more (e ∷ es) zero = refl
past_more (e ∷ es) (suc n) = ap (λ t. e ∷ t) (past_more es n)

pub past_step : (es fs gs : List Entry) (k j : ℕ) → fs ≡ closed_past k es → j + 1 ≡ k → gs ≡ closed_at j fs → gs ≡ closed_past j es
past_step es fs gs k j e q g = g ∙ ap (closed_at j) (e ∙ ap (λ n. closed_past n es) (sym q ∙ add-one j)) ∙ past_more es j

pub past_end : (es : List Entry) (k n : ℕ) → k ≤ n → min n (length es) ≤ k → closed_past k es ≡ closed_past n es
past_end [] zero zero p q = refl
past_end [] zero (suc n) p q = refl
past_end [] (suc k) zero p q = refl
past_end [] (suc k) (suc n) p q = refl
past_end (x ∷ xs) zero zero p q = refl
past_end (x ∷ xs) zero (suc n) p q = absurd (omega arith)
past_end (x ∷ xs) (suc k) zero p q = absurd (omega arith)
past_end (x ∷ xs) (suc k) (suc n) p q = ap (λ t. x ∷ t) (past_end xs k n (omega arith) (omega arith))

pub past_distinct : (earlier : List (List ℕ)) (es : List Entry) (n : ℕ) → Distinct earlier es → Distinct earlier (closed_past n es)
past_distinct earlier [] n d = refl
past_distinct earlier (e ∷ es) zero d = by (is_among e.0.items earlier) d (λ r. past_distinct (e.0.items ∷ earlier) es zero r)
  where
    by : (b : Bool) → kept b e (repeated entry_name (e.0.items ∷ earlier) es) ≡ [] → (Distinct (e.0.items ∷ earlier) es → Distinct (e.0.items ∷ earlier) (closed_past zero es))
        → kept b (e.0, closed e.1) (repeated entry_name (e.0.items ∷ earlier) (closed_past zero es)) ≡ []
    by true r i = cc
    by false r i = i r
past_distinct earlier (e ∷ es) (suc n) d = by (is_among e.0.items earlier) d (λ r. past_distinct (e.0.items ∷ earlier) es n r)
  where
    by : (b : Bool) → kept b e (repeated entry_name (e.0.items ∷ earlier) es) ≡ [] → (Distinct (e.0.items ∷ earlier) es → Distinct (e.0.items ∷ earlier) (closed_past n es))
        → kept b e (repeated entry_name (e.0.items ∷ earlier) (closed_past n es)) ≡ []
    by true r i = cc
    by false r i = i r

pub past_hidden : (T : List Ty) → (es : List Entry) (n : ℕ) → known_seen T (closed_past n es) ≡ hide n (known_seen T es)
past_hidden T [] n = refl
past_hidden T (e ∷ es) zero = ap (λ t. hidden (known_at T (e.0.items, e.1)) ∷ t) (past_hidden T es zero)
past_hidden T (e ∷ es) (suc n) = ap (λ t. known_at T (e.0.items, e.1) ∷ t) (past_hidden T es n)

pub facts_length : (es : List Entry) → length es ≡ length (facts_seen es)
facts_length [] = refl
facts_length (e ∷ es) = ap suc (facts_length es)
