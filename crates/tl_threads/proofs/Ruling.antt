-- A test that keeps the rules has an allowed body.
use Rattle.std.proofs.Common.{◌≡◌, ◌⊎◌, ℕ, ◌≤◌, List, [], ◌∷◌, ◌++◌, map, Bool, true, false, not, cond, ◌||◌, ◌&&◌, Option, Some, None, is_some, Ok, Err, find, refl, sym, ap, ap₂, subst, ◌∙◌, inl, inr, ⊎_elim, arith}
use Rattle.std.specs.Str.{bytes_eq}
use Rattle.std.specs.List.{list_any}
use Rattle.std.proofs.lemmas.Bool.{or_parts}
use Rattle.tb_base.specs.declared.path.Region.{Region}
use Rattle.tb_base.specs.declared.path.Region.TheVariants.{Main, Monitor}
use Rattle.tl_ast.specs.declared.tree.TestExpr.{TestExpr}
use Rattle.tl_ast.specs.declared.tree.TestStmt.{TestStmt}
use Rattle.tl_ast.specs.declared.tree.TestStmt.TheFolds.{fold-roll-TestStmt, ind-TestStmt, map-TestStmt}
use Rattle.tl_ast.specs.declared.tree.TestStmt.TheViews.{roll-TestStmt}
use Rattle.tl_ast.specs.declared.tree.TestStmt.TheOpen as S
use Rattle.tl_ast.specs.declared.tree.TestStmt.TheOpen.{TestStmt-F}
use Rattle.tl_ast.specs.declared.tree.TestText.{TestText}
use Rattle.tl_check.specs.declared.rule.Rule.{Rule}
use Rattle.tl_check.specs.declared.rule.Rule.TheVariants.{UnknownPort, PokeOutput, LiteralTooWide, UnknownVariable, UnknownHandle, TooManyNames, JoinLaterRegion, ForkEarlierRegion, NotReadyValid, StepZero}
use Rattle.tl_check.specs.Scopes.{Known as KnownNames, nothing_known, inside_fork, is_among, handle_named, is_handle, with_handle, is_monitor, child_region}
use Rattle.tl_check.specs.Values.{uses_unknown, sets_unknown}
use Rattle.tl_check.specs.Rules.{Here, first_broken, breaks, unknown_variable, unknown_handle, too_many_names, join_later, fork_earlier, watches, writes_main}
use Rattle.tl_check.specs.Walk.{Ports, Outcome, Part, some_gives, after, in_turn, leave, in_block, gives_level, behind_let, behind_fork, behind, unless_broken, here, part_level, part, line_of, broken_in, test_rule}
use Rattle.tl_threads.specs.Values.{Name, expr_of}
use Rattle.tl_threads.specs.Bodies.{Body, Piece, chain, level_piece, piece, test_body}
use Rattle.tl_threads.specs.Bodies.Body.{nil}
use Rattle.tl_threads.specs.Threads.{region_number}
use Rattle.tl_threads.specs.Stands.{KnownIn}
use Rattle.tl_threads.specs.Allowed.{Handles, Takes, MayJoin, KnownInto, Allowed}
use Rattle.tl_threads.proofs.NameFacts.{same_name, name_self}
use Rattle.tl_threads.proofs.Allowing.{among_known, not_false, expr_known}

-- ---- outcomes

pub ok_same : (n m : KnownNames) → ◌≡◌ {A = Outcome} (Ok n) (Ok m) → n ≡ m
ok_same n m e = cc

passes : (o : Option Rule) (l : ℕ) (out : Outcome) (m : KnownNames) → unless_broken o l out ≡ Ok m → (o ≡ None) × (out ≡ Ok m)
passes None l out m e = (refl, e)
passes (Some r) l out m e = absurd (cc)

pub left_ok : (n m : KnownNames) (o : Outcome) → leave n o ≡ Ok m → (i : KnownNames) × (o ≡ Ok i) × (n ≡ m)
left_ok n m (Ok i) e = (i, refl, ok_same n m e)
left_ok n m (Err x) e = absurd (cc)

pub after_ok : (f : KnownNames → Outcome) (m : KnownNames) (o : Outcome) → after o f ≡ Ok m → (i : KnownNames) × (o ≡ Ok i) × (f i ≡ Ok m)
after_ok f m (Ok i) e = (i, refl, e)
after_ok f m (Err x) e = absurd (cc)

-- ---- rules

none_head : (f : Rule → Bool) (x : Rule) (xs : List Rule) → find f (x ∷ xs) ≡ None → (f x ≡ false) × (find f xs ≡ None)
none_head f x xs e = go (f x) refl
  where
    go : (b : Bool) → f x ≡ b → (f x ≡ false) × (find f xs ≡ None)
    go true t = absurd (let i : Some x ≡ None = sym (ap (λ b. cond b (Some x) (find f xs)) t) ∙ e in cc)
    go false t = (t, sym (ap (λ b. cond b (Some x) (find f xs)) t) ∙ e)

pub record Unbroken (A : Type 0) (h : Here) (s : TestStmt-F A) : Type 0 where
  pub variable : unknown_variable h s ≡ false
  pub handle : unknown_handle h s ≡ false
  pub names : too_many_names h s ≡ false
  pub join : join_later h s ≡ false
  pub fork : fork_earlier h s ≡ false

unbroken : (A : Type 0) (h : Here) (s : TestStmt-F A) → first_broken h s ≡ None → Unbroken A h s
unbroken A h s e =
    let a = none_head (breaks h s) UnknownPort (PokeOutput ∷ LiteralTooWide ∷ UnknownVariable ∷ UnknownHandle ∷ TooManyNames ∷ JoinLaterRegion ∷ ForkEarlierRegion ∷ NotReadyValid ∷ StepZero ∷ []) e in
    let b = none_head (breaks h s) PokeOutput (LiteralTooWide ∷ UnknownVariable ∷ UnknownHandle ∷ TooManyNames ∷ JoinLaterRegion ∷ ForkEarlierRegion ∷ NotReadyValid ∷ StepZero ∷ []) a.1 in
    let c = none_head (breaks h s) LiteralTooWide (UnknownVariable ∷ UnknownHandle ∷ TooManyNames ∷ JoinLaterRegion ∷ ForkEarlierRegion ∷ NotReadyValid ∷ StepZero ∷ []) b.1 in
    let d = none_head (breaks h s) UnknownVariable (UnknownHandle ∷ TooManyNames ∷ JoinLaterRegion ∷ ForkEarlierRegion ∷ NotReadyValid ∷ StepZero ∷ []) c.1 in
    let i = none_head (breaks h s) UnknownHandle (TooManyNames ∷ JoinLaterRegion ∷ ForkEarlierRegion ∷ NotReadyValid ∷ StepZero ∷ []) d.1 in
    let j = none_head (breaks h s) TooManyNames (JoinLaterRegion ∷ ForkEarlierRegion ∷ NotReadyValid ∷ StepZero ∷ []) i.1 in
    let k = none_head (breaks h s) JoinLaterRegion (ForkEarlierRegion ∷ NotReadyValid ∷ StepZero ∷ []) j.1 in
    let l = none_head (breaks h s) ForkEarlierRegion (NotReadyValid ∷ StepZero ∷ []) k.1 in
    record { variable = d.0; handle = i.0; names = j.0; join = k.0; fork = l.0 }

-- the variables of one expression, and the one that is set
used : (vars : List Name) (e : TestExpr) (into : Option Name) → (list_any (uses_unknown vars) (e ∷ []) || sets_unknown vars into) ≡ false → KnownIn vars (expr_of e)
used vars e into h = expr_known vars e (or_parts (uses_unknown vars e) false (or_parts (list_any (uses_unknown vars) (e ∷ [])) (sets_unknown vars into) h).0).0

into_known : (vars : List Name) (into : Option Name) → sets_unknown vars into ≡ false → KnownInto vars into
into_known vars None h = tt
into_known vars (Some x) h = among_known x vars (not_false (is_among x vars) h)

-- a known variable is known already
let_there : (x : Name) (n : KnownNames) → is_among x n.variables ≡ true → behind_let x n ≡ n
let_there x n h = ap (λ b. record n { variables = cond b n.variables (n.variables ++ x ∷ []) }) h

-- ---- regions

forks_up : (g : Region) (w : Option Region) → (writes_main w && is_monitor g) ≡ false → region_number g ≤ region_number (child_region g w)
forks_up Main w e = omega arith
forks_up Monitor None e = omega arith
forks_up Monitor (Some Monitor) e = omega arith
forks_up Monitor (Some Main) e = absurd (cc)

-- what gives handles to Monitor threads gives none that isn't told to be one of those
Covers : Handles → (Name → Bool) → Type 0
Covers hs gives = (x : Name) (b : Bool) → handle_named x hs ≡ Some b → gives x ≡ true → b ≡ true

or_left : (a b : Bool) → a ≡ true → (a || b) ≡ true
or_left a b e = ap (λ c. c || b) e

or_right : (a b : Bool) → b ≡ true → (a || b) ≡ true
or_right true b e = refl
or_right false b e = e

covers_left : (hs : Handles) (f g : Name → Bool) → Covers hs (λ x. f x || g x) → Covers hs f
unfolding Covers
covers_left hs f g c x b e t = c x b e (or_left (f x) (g x) t)

covers_right : (hs : Handles) (f g : Name → Bool) → Covers hs (λ x. f x || g x) → Covers hs g
unfolding Covers
covers_right hs f g c x b e t = c x b e (or_right (f x) (g x) t)

covers_none : (gives : Name → Bool) → Covers [] gives
unfolding Covers
covers_none gives x b e t = absurd (let i : None ≡ Some b = e in cc)

named_last : (x : Name) (w : Bool) (hs : Handles) → handle_named x hs ≡ None → handle_named x (hs ++ (x, w) ∷ []) ≡ Some w
named_last x w [] e = ap (λ b. cond b (Some w) None) (name_self x)
named_last x w (h ∷ hs) e = go (bytes_eq x h.0) e (named_last x w hs)
  where
    go : (b : Bool) → cond b (Some h.1) (handle_named x hs) ≡ None → (handle_named x hs ≡ None → handle_named x (hs ++ (x, w) ∷ []) ≡ Some w) → cond b (Some h.1) (handle_named x (hs ++ (x, w) ∷ [])) ≡ Some w
    go true i f = absurd (cc)
    go false i f = f i

pub named_before : (y x : Name) (w b : Bool) (hs : Handles) → handle_named y hs ≡ Some b → handle_named y (hs ++ (x, w) ∷ []) ≡ Some b
named_before y x w b [] e = absurd (let i : None ≡ Some b = e in cc)
named_before y x w b (h ∷ hs) e = go (bytes_eq y h.0) e (named_before y x w b hs)
  where
    go : (c : Bool) → cond c (Some h.1) (handle_named y hs) ≡ Some b → (handle_named y hs ≡ Some b → handle_named y (hs ++ (x, w) ∷ []) ≡ Some b) → cond c (Some h.1) (handle_named y (hs ++ (x, w) ∷ [])) ≡ Some b
    go true i f = i
    go false i f = f i

pub named_behind : (y x : Name) (w b : Bool) (hs : Handles) → handle_named y (hs ++ (x, w) ∷ []) ≡ Some b → (handle_named y hs ≡ Some b) ⊎ ((y ≡ x) × (w ≡ b))
named_behind y x w b [] e = go (bytes_eq y x) refl e
  where
    go : (c : Bool) → bytes_eq y x ≡ c → cond c (Some w) None ≡ Some b → (None ≡ Some b) ⊎ ((y ≡ x) × (w ≡ b))
    go true t i = inr (same_name y x t, cc)
    go false t i = inl i
named_behind y x w b (h ∷ hs) e = go (bytes_eq y h.0) e (named_behind y x w b hs)
  where
    go : (c : Bool) → cond c (Some h.1) (handle_named y (hs ++ (x, w) ∷ [])) ≡ Some b → (handle_named y (hs ++ (x, w) ∷ []) ≡ Some b → (handle_named y hs ≡ Some b) ⊎ ((y ≡ x) × (w ≡ b))) → (cond c (Some h.1) (handle_named y hs) ≡ Some b) ⊎ ((y ≡ x) × (w ≡ b))
    go true i f = inl i
    go false i f = f i

-- the handle of a fork behind it
taken_by : (hs : Handles) (x : Name) (w : Bool) (r : Region) (gives : Name → Bool) → (is_monitor r ≡ true → gives x ≡ true) → (is_monitor r ≡ true → w ≡ true) → Covers hs gives → Takes (with_handle x w hs) x r
unfolding Covers
taken_by hs x w r gives p q c = go (handle_named x hs) refl
  where
    go : (o : Option Bool) → handle_named x hs ≡ o → Takes (cond (is_some o) hs (hs ++ (x, w) ∷ [])) x r
    go (Some b) e = (b, e, λ m. c x b e (p m))
    go None e = (w, named_last x w hs e, q)

covers_fork : (hs : Handles) (x : Name) (w : Bool) (rest : Name → Bool) → (rest x ≡ true → w ≡ true) → Covers hs rest → Covers (with_handle x w hs) rest
unfolding Covers
covers_fork hs x w rest p c = go (handle_named x hs) refl
  where
    go : (o : Option Bool) → handle_named x hs ≡ o → (y : Name) (b : Bool) → handle_named y (cond (is_some o) hs (hs ++ (x, w) ∷ [])) ≡ Some b → rest y ≡ true → b ≡ true
    go (Some d) e y b i t = c y b i t
    go None e y b i t = ⊎_elim (λ j. c y b j t) (λ j. sym j.1 ∙ p (ap rest (sym j.0) ∙ t)) (named_behind y x w b hs i)

-- a join
handle_there : (x : Name) (hs : Handles) → not (is_handle x hs) ≡ false → (b : Bool) × (handle_named x hs ≡ Some b)
handle_there x hs e = go (handle_named x hs) (not_false (is_handle x hs) e)
  where
    go : (o : Option Bool) → is_some o ≡ true → (b : Bool) × (o ≡ Some b)
    go None i = absurd (cc)
    go (Some b) i = (b, refl)

may_join : (x : Name) (hs : Handles) (g : Region) → not (is_handle x hs) ≡ false → (not (is_monitor g) && watches (handle_named x hs)) ≡ false → MayJoin hs x g
may_join x hs g e j =
    let t = handle_there x hs e in
    (t.0, t.1, λ w. up g t.0 (ap (λ o. not (is_monitor g) && watches o) (sym t.1) ∙ j) w)
  where
    up : (g : Region) (b : Bool) → (not (is_monitor g) && b) ≡ false → b ≡ true → is_monitor g ≡ true
    up Monitor b i w = refl
    up Main b i w = absurd (let z : true ≡ false = sym w ∙ i in cc)

-- ---- statements

module _ (ports : Ports) where
  -- where a part ends well and what gives handles is covered, what gives the others is covered behind it, and its piece is allowed in
  -- front of what is allowed behind it
  Allows : Part → Piece → Type 0
  Allows p q = (g : Region) (rest : Name → Bool) (n m : KnownNames) → p.goes_on ports g rest n ≡ Ok m → Covers n.handles (p.gives g) → Covers n.handles rest
      → Covers m.handles rest × ((k : Body) → Allowed g m k → Allowed g n (q g k))

  abbrev StmtAllows : TestStmt → Type 0
  StmtAllows s = Allows (part s) (piece ports s)

  abbrev With : Type 0
  With = (s : TestStmt) × StmtAllows s

  abbrev stmts_of : List With → List TestStmt
  stmts_of ts = map (λ t. t.0) ts

  -- one statement in front of others
  turn_step : (p : Part) (q : Piece) (ps : List Part) (qs : List Piece) (g : Region) (n m : KnownNames) (k : Body) → Allows p q
      → ((i : KnownNames) → in_turn ps ports g i ≡ Ok m → Covers i.handles (some_gives ps g) → Allowed g i (chain qs g k))
      → in_turn (p ∷ ps) ports g n ≡ Ok m → Covers n.handles (some_gives (p ∷ ps) g) → Allowed g n (chain (q ∷ qs) g k)
  unfolding Allows
  turn_step p q ps qs g n m k allows others e c =
      let t = after_ok (in_turn ps ports g) m (p.goes_on ports g (some_gives ps g) n) e in
      let r = allows g (some_gives ps g) n t.0 t.1 (covers_left n.handles (p.gives g) (some_gives ps g) c) (covers_right n.handles (p.gives g) (some_gives ps g) c) in
      r.1 (chain qs g k) (others t.0 t.2 r.0)

  turns_allowed : (ts : List With) (g : Region) (n m : KnownNames) (k : Body) → Allowed g m k → in_turn (map part (stmts_of ts)) ports g n ≡ Ok m → Covers n.handles (some_gives (map part (stmts_of ts)) g)
      → Allowed g n (chain (map (piece ports) (stmts_of ts)) g k)
  turns_allowed [] g n m k a e c = subst (λ z. Allowed g z k) (sym (ok_same n m e)) a
  turns_allowed (t ∷ ts) g n m k a e c =
      turn_step (part t.0) (piece ports t.0) (map part (stmts_of ts)) (map (piece ports) (stmts_of ts)) g n m k t.1 (λ i e c. turns_allowed ts g i m k a e c) e c

  -- a block
  block_allowed : (ts : List With) (g : Region) (n i : KnownNames) → in_turn (map part (stmts_of ts)) ports g n ≡ Ok i → Covers n.handles (some_gives (map part (stmts_of ts)) g)
      → Allowed g n (chain (map (piece ports) (stmts_of ts)) g nil)
  block_allowed ts g n i e c = turns_allowed ts g n i nil tt e c

  abbrev parts_at : TestStmt-F With → TestStmt-F Part
  parts_at y = map-TestStmt TestStmt Part part (map-TestStmt With TestStmt (λ t. t.0) y)

  abbrev pieces_at : TestStmt-F With → TestStmt-F Piece
  pieces_at y = map-TestStmt TestStmt Piece (piece ports) (map-TestStmt With TestStmt (λ t. t.0) y)

  -- a statement that leaves the names as they are
  stays : (g : Region) (rest : Name → Bool) (n m : KnownNames) (y : TestStmt-F With) → ((k : Body) → Allowed g n k → Allowed g n (level_piece ports (pieces_at y) g k)) → n ≡ m → Covers n.handles rest
      → Covers m.handles rest × ((k : Body) → Allowed g m k → Allowed g n (level_piece ports (pieces_at y) g k))
  stays g rest n m y f e c = (subst (λ (z : KnownNames). Covers z.handles rest) e c, λ k a. f k (subst (λ z. Allowed g z k) (sym e) a))

  -- at each variant: what the rules say, and the rest of the outcome
  abbrev pub Judged : Region → (Name → Bool) → KnownNames → KnownNames → TestStmt-F Part → Type 0
  Judged g rest n m x = Unbroken Part (here ports g n) x × (behind x ports g rest n ≡ Ok m)

  pub judged : (g : Region) (rest : Name → Bool) (n m : KnownNames) (x : TestStmt-F Part) → (part_level x).goes_on ports g rest n ≡ Ok m → Judged g rest n m x
  judged g rest n m x e = let u = passes (first_broken (here ports g n) x) (line_of x) (behind x ports g rest n) m e in (unbroken Part (here ports g n) x u.0, u.1)

  level_allows : (y : TestStmt-F With) (g : Region) (rest : Name → Bool) (n m : KnownNames) → Judged g rest n m (parts_at y) → Covers n.handles (gives_level (parts_at y) g) → Covers n.handles rest
      → Covers m.handles rest × ((k : Body) → Allowed g m k → Allowed g n (level_piece ports (pieces_at y) g k))
  level_allows (S.Poke l p e) g rest n m j c d = stays g rest n m (S.Poke l p e) (λ k a. (used n.variables e None j.0.variable, a)) (ok_same n m j.1) d
  level_allows (S.Peek l p into) g rest n m j c d = stays g rest n m (S.Peek l p into) (λ k a. (into_known n.variables into j.0.variable, a)) (ok_same n m j.1) d
  level_allows (S.Expect l p e) g rest n m j c d = stays g rest n m (S.Expect l p e) (λ k a. (used n.variables e None j.0.variable, a)) (ok_same n m j.1) d
  level_allows (S.Step l count) g rest n m j c d = stays g rest n m (S.Step l count) (λ k a. a) (ok_same n m j.1) d
  level_allows (S.Let l x e) g rest n m j c d =
      let same = ok_same (behind_let x n) m j.1 in
      (subst (λ (z : KnownNames). Covers z.handles rest) same d, λ k a. (used n.variables e None j.0.variable, subst (λ z. Allowed g z k) (sym same) a))
  level_allows (S.Set l x e) g rest n m j c d =
      let there : is_among x n.variables ≡ true = not_false (is_among x n.variables) (or_parts (list_any (uses_unknown n.variables) (e ∷ [])) (sets_unknown n.variables (Some x)) j.0.variable).1 in
      stays g rest n m (S.Set l x e) (λ k a. (used n.variables e (Some x) j.0.variable, subst (λ z. Allowed g z k) (sym (let_there x n there)) a)) (ok_same n m j.1) d
  level_allows (S.If l e ts os) g rest n m j c d =
      let f = after_ok (in_block (map part (stmts_of os)) ports g) m (in_block (map part (stmts_of ts)) ports g n) j.1 in
      let t = left_ok n f.0 (in_turn (map part (stmts_of ts)) ports g n) f.1 in
      let o = left_ok n m (in_turn (map part (stmts_of os)) ports g n) (ap (in_block (map part (stmts_of os)) ports g) t.2 ∙ f.2) in
      stays g rest n m (S.If l e ts os)
      (λ k a. (
        used n.variables e None j.0.variable,
        block_allowed ts g n t.0 t.1 (covers_left n.handles (some_gives (map part (stmts_of ts)) g) (some_gives (map part (stmts_of os)) g) c),
        block_allowed os g n o.0 o.1 (covers_right n.handles (some_gives (map part (stmts_of ts)) g) (some_gives (map part (stmts_of os)) g) c),
        a,
      ))
      o.2 d
  level_allows (S.While l e ts) g rest n m j c d =
      let t = left_ok n m (in_turn (map part (stmts_of ts)) ports g n) j.1 in
      stays g rest n m (S.While l e ts) (λ k a. (used n.variables e None j.0.variable, block_allowed ts g n t.0 t.1 c, a)) t.2 d
  level_allows (S.Repeat l e ts) g rest n m j c d =
      let t = left_ok n m (in_turn (map part (stmts_of ts)) ports g n) j.1 in
      stays g rest n m (S.Repeat l e ts) (λ k a. (used n.variables e None j.0.variable, block_allowed ts g n t.0 t.1 c, a)) t.2 d
  level_allows (S.Fork l written x ts) g rest n m j c d =
      let r : Region = child_region g written in
      let w : Bool = is_monitor r || rest x in
      let t = left_ok (behind_fork x w n) m (in_turn (map part (stmts_of ts)) ports r (inside_fork n)) j.1 in (
        subst (λ (z : KnownNames). Covers z.handles rest) t.2 (covers_fork n.handles x w rest (or_right (is_monitor r) (rest x)) d),
        λ k a. (
          w,
          forks_up g written j.0.fork,
          block_allowed ts r (inside_fork n) t.0 t.1 (covers_none (some_gives (map part (stmts_of ts)) r)),
          taken_by n.handles x w r (λ y. is_monitor r && bytes_eq y x) (λ h. ap₂ (λ a b. a && b) h (name_self x)) (or_left (is_monitor r) (rest x)) c,
          subst (λ z. Allowed g z k) (sym t.2) a,
        ),
      )
  level_allows (S.Join l x) g rest n m j c d = stays g rest n m (S.Join l x) (λ k a. (may_join x n.handles g j.0.handle j.0.join, a)) (ok_same n m j.1) d
  level_allows (S.JoinStep l x) g rest n m j c d = stays g rest n m (S.JoinStep l x) (λ k a. (handle_there x n.handles j.0.handle, a)) (ok_same n m j.1) d
  level_allows (S.Driver l kind p values) g rest n m j c d = stays g rest n m (S.Driver l kind p values) (λ k a. a) (ok_same n m j.1) d
  level_allows (S.ResetFor l count) g rest n m j c d = stays g rest n m (S.ResetFor l count) (λ k a. a) (ok_same n m j.1) d

  stmt_allows : (s : TestStmt) → StmtAllows s
  unfolding Allows
  stmt_allows = ind-TestStmt StmtAllows (λ x y is. subst (λ z. StmtAllows (roll-TestStmt z)) is (λ g rest n m e c d.
      let p : part (roll-TestStmt (map-TestStmt With TestStmt (λ t. t.0) y)) ≡ part_level (parts_at y) = fold-roll-TestStmt Part part_level (map-TestStmt With TestStmt (λ t. t.0) y) in
      let q : piece ports (roll-TestStmt (map-TestStmt With TestStmt (λ t. t.0) y)) ≡ level_piece ports (pieces_at y) = fold-roll-TestStmt Piece (level_piece ports) (map-TestStmt With TestStmt (λ t. t.0) y) in
      let r = level_allows y g rest n m (judged g rest n m (parts_at y) (sym (ap (λ z. z.goes_on ports g rest n) p) ∙ e)) (subst (λ z. Covers n.handles (z.gives g)) p c) d in
      (r.0, λ k a. subst (λ z. Allowed g n (z g k)) (sym q) (r.1 k a))))

  with_all : (ss : List TestStmt) → (ts : List With) × (stmts_of ts ≡ ss)
  with_all [] = ([], refl)
  with_all (s ∷ ss) = let r = with_all ss in ((s, stmt_allows s) ∷ r.0, ap (λ t. s ∷ t) r.1)

  pub ok_of : (o : Outcome) → broken_in o ≡ None → (m : KnownNames) × (o ≡ Ok m)
  ok_of (Ok m) e = (m, refl)
  ok_of (Err x) e = absurd (cc)

  -- A TEST THAT KEEPS THE RULES has an allowed body
  pub rules_allow : (test : TestText) → test_rule test ports ≡ None → Allowed Main nothing_known (test_body ports test)
  rules_allow test e =
      let o = ok_of (in_turn (map part test.body) ports Main nothing_known) e in
      let r = with_all test.body in
      subst (λ ss. Allowed Main nothing_known (chain (map (piece ports) ss) Main nil)) r.1
      (block_allowed r.0 Main nothing_known o.0 (ap (λ ss. in_turn (map part ss) ports Main nothing_known) r.1 ∙ o.1) (covers_none (some_gives (map part (stmts_of r.0)) Main)))
