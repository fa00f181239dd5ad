-- The body of a test that keeps the rules for the ports of a circuit names ports of the circuit.
use Rattle.std.proofs.Common.{◌≡◌, ℕ, List, [], ◌∷◌, map, Bool, true, false, cond, ◌||◌, Option, Some, None, Ok, find, refl, sym, ap, subst, ◌∙◌}
use Rattle.tb_base.specs.declared.path.Region.{Region}
use Rattle.tb_base.specs.declared.path.Region.TheVariants.{Main}
use Rattle.net_core.specs.declared.tree.Elab.{Elab}
use Rattle.net_design.specs.Designs.{ports_of}
use Rattle.tl_ast.specs.declared.tree.TestStmt.{TestStmt}
use Rattle.tl_ast.specs.declared.tree.TestStmt.TheFolds.{fold-roll-TestStmt, ind-TestStmt, map-TestStmt}
use Rattle.tl_ast.specs.declared.tree.TestStmt.TheViews.{roll-TestStmt}
use Rattle.tl_ast.specs.declared.tree.TestStmt.TheOpen as S
use Rattle.tl_ast.specs.declared.tree.TestStmt.TheOpen.{TestStmt-F}
use Rattle.tl_ast.specs.declared.tree.TestText.{TestText}
use Rattle.tl_check.specs.declared.rule.Rule.{Rule}
use Rattle.tl_check.specs.declared.rule.Rule.TheVariants.{UnknownPort, PokeOutput, LiteralTooWide, UnknownVariable, UnknownHandle, TooManyNames, JoinLaterRegion, ForkEarlierRegion, NotReadyValid, StepZero}
use Rattle.tl_check.specs.Scopes.{Known as KnownNames, nothing_known, inside_fork, is_monitor, child_region}
use Rattle.tl_check.specs.Rules.{Here, first_broken, breaks, unknown_port, poke_output}
use Rattle.tl_check.specs.Walk.{Ports, Outcome, Part, some_gives, in_turn, in_block, behind_fork, behind, unless_broken, here, part_level, part, line_of, test_rule}
use Rattle.tl_threads.specs.Values.{Name}
use Rattle.tl_threads.specs.Bodies.{Body, Piece, chain, level_piece, piece, test_body}
use Rattle.tl_threads.specs.Bodies.Body.{nil}
use Rattle.tl_threads.proofs.Ruling.{left_ok, after_ok, ok_of}
use Rattle.bench_reach.specs.Naming.{BodyNames, BodiesNamePorts}
use Rattle.bench_reach.proofs.Tables.{names_port, names_input}

-- ---- the rules of ports

passes : (o : Option Rule) (l : ℕ) (out : Outcome) (m : KnownNames) → unless_broken o l out ≡ Ok m → (o ≡ None) × (out ≡ Ok m)
passes None l out m e = (refl, e)
passes (Some r) l out m e = absurd (cc)

none_head : (f : Rule → Bool) (x : Rule) (xs : List Rule) → find f (x ∷ xs) ≡ None → (f x ≡ false) × (find f xs ≡ None)
none_head f x xs e = go (f x) refl
  where
    go : (b : Bool) → f x ≡ b → (f x ≡ false) × (find f xs ≡ None)
    go true t = absurd (let i : Some x ≡ None = sym (ap (λ b. cond b (Some x) (find f xs)) t) ∙ e in cc)
    go false t = (t, sym (ap (λ b. cond b (Some x) (find f xs)) t) ∙ e)

record Unbroken (A : Type 0) (h : Here) (s : TestStmt-F A) : Type 0 where
  known : unknown_port h s ≡ false
  input : poke_output h s ≡ false

unbroken : (A : Type 0) (h : Here) (s : TestStmt-F A) → first_broken h s ≡ None → Unbroken A h s
unbroken A h s e =
    let a = none_head (breaks h s) UnknownPort (PokeOutput ∷ LiteralTooWide ∷ UnknownVariable ∷ UnknownHandle ∷ TooManyNames ∷ JoinLaterRegion ∷ ForkEarlierRegion ∷ NotReadyValid ∷ StepZero ∷ []) e in
    let b = none_head (breaks h s) PokeOutput (LiteralTooWide ∷ UnknownVariable ∷ UnknownHandle ∷ TooManyNames ∷ JoinLaterRegion ∷ ForkEarlierRegion ∷ NotReadyValid ∷ StepZero ∷ []) a.1 in
    record { known = a.0; input = b.0 }

-- ---- statements

module _ (e : Elab) where
  abbrev table : Ports
  table = ports_of e

  -- where a part ends well, its piece names ports in front of what names ports
  Names : Part → Piece → Type 0
  Names p q = (g : Region) (rest : Name → Bool) (n m : KnownNames) → p.goes_on table g rest n ≡ Ok m → (k : Body) → BodyNames e k → BodyNames e (q g k)

  abbrev StmtNames : TestStmt → Type 0
  StmtNames s = Names (part s) (piece table s)

  abbrev With : Type 0
  With = (s : TestStmt) × StmtNames s

  abbrev stmts_of : List With → List TestStmt
  stmts_of ts = map (λ t. t.0) ts

  turn_step : (p : Part) (q : Piece) (ps : List Part) (qs : List Piece) (g : Region) (n m : KnownNames) (k : Body) → Names p q
      → ((i : KnownNames) → in_turn ps table g i ≡ Ok m → BodyNames e (chain qs g k)) → in_turn (p ∷ ps) table g n ≡ Ok m → BodyNames e (chain (q ∷ qs) g k)
  unfolding Names
  turn_step p q ps qs g n m k names others h =
      let t = after_ok (in_turn ps table g) m (p.goes_on table g (some_gives ps g) n) h in
      names g (some_gives ps g) n t.0 t.1 (chain qs g k) (others t.0 t.2)

  turns_name : (ts : List With) (g : Region) (n m : KnownNames) (k : Body) → BodyNames e k → in_turn (map part (stmts_of ts)) table g n ≡ Ok m → BodyNames e (chain (map (piece table) (stmts_of ts)) g k)
  turns_name [] g n m k a h = a
  turns_name (t ∷ ts) g n m k a h =
      turn_step (part t.0) (piece table t.0) (map part (stmts_of ts)) (map (piece table) (stmts_of ts)) g n m k t.1 (λ i h. turns_name ts g i m k a h) h

  block_names : (ts : List With) (g : Region) (n m : KnownNames) → in_turn (map part (stmts_of ts)) table g n ≡ Ok m → BodyNames e (chain (map (piece table) (stmts_of ts)) g nil)
  block_names ts g n m h = turns_name ts g n m nil tt h

  abbrev parts_at : TestStmt-F With → TestStmt-F Part
  parts_at y = map-TestStmt TestStmt Part part (map-TestStmt With TestStmt (λ t. t.0) y)

  abbrev pieces_at : TestStmt-F With → TestStmt-F Piece
  pieces_at y = map-TestStmt TestStmt Piece (piece table) (map-TestStmt With TestStmt (λ t. t.0) y)

  abbrev Judged : Region → (Name → Bool) → KnownNames → KnownNames → TestStmt-F Part → Type 0
  Judged g rest n m x = Unbroken Part (here table g n) x × (behind x table g rest n ≡ Ok m)

  judged : (g : Region) (rest : Name → Bool) (n m : KnownNames) (x : TestStmt-F Part) → (part_level x).goes_on table g rest n ≡ Ok m → Judged g rest n m x
  judged g rest n m x h = let u = passes (first_broken (here table g n) x) (line_of x) (behind x table g rest n) m h in (unbroken Part (here table g n) x u.0, u.1)

  level_names : (y : TestStmt-F With) (g : Region) (rest : Name → Bool) (n m : KnownNames) → Judged g rest n m (parts_at y) → (k : Body) → BodyNames e k → BodyNames e (level_piece table (pieces_at y) g k)
  level_names (S.Poke l p x) g rest n m j k a = (names_input e p j.0.known j.0.input, a)
  level_names (S.Peek l p into) g rest n m j k a = (names_port e p j.0.known, a)
  level_names (S.Expect l p x) g rest n m j k a = (names_port e p j.0.known, a)
  level_names (S.Step l count) g rest n m j k a = a
  level_names (S.Let l x v) g rest n m j k a = a
  level_names (S.Set l x v) g rest n m j k a = a
  level_names (S.If l x ts os) g rest n m j k a =
      let f = after_ok (in_block (map part (stmts_of os)) table g) m (in_block (map part (stmts_of ts)) table g n) j.1 in
      let t = left_ok n f.0 (in_turn (map part (stmts_of ts)) table g n) f.1 in
      let o = left_ok f.0 m (in_turn (map part (stmts_of os)) table g f.0) f.2 in
      (block_names ts g n t.0 t.1, block_names os g f.0 o.0 o.1, a)
  level_names (S.While l x ts) g rest n m j k a = let t = left_ok n m (in_turn (map part (stmts_of ts)) table g n) j.1 in (block_names ts g n t.0 t.1, a)
  level_names (S.Repeat l x ts) g rest n m j k a = let t = left_ok n m (in_turn (map part (stmts_of ts)) table g n) j.1 in (block_names ts g n t.0 t.1, a)
  level_names (S.Fork l written x ts) g rest n m j k a =
      let r : Region = child_region g written in
      let t = left_ok (behind_fork x (is_monitor r || rest x) n) m (in_turn (map part (stmts_of ts)) table r (inside_fork n)) j.1 in (block_names ts r (inside_fork n) t.0 t.1, a)
  level_names (S.Join l x) g rest n m j k a = a
  level_names (S.JoinStep l x) g rest n m j k a = a
  level_names (S.Driver l kind p values) g rest n m j k a = a
  level_names (S.ResetFor l count) g rest n m j k a = a

  stmt_names : (s : TestStmt) → StmtNames s
  unfolding Names
  stmt_names = ind-TestStmt StmtNames (λ x y is. subst (λ z. StmtNames (roll-TestStmt z)) is (λ g rest n m h k a.
      let p : part (roll-TestStmt (map-TestStmt With TestStmt (λ t. t.0) y)) ≡ part_level (parts_at y) = fold-roll-TestStmt Part part_level (map-TestStmt With TestStmt (λ t. t.0) y) in
      let q : piece table (roll-TestStmt (map-TestStmt With TestStmt (λ t. t.0) y)) ≡ level_piece table (pieces_at y) = fold-roll-TestStmt Piece (level_piece table) (map-TestStmt With TestStmt (λ t. t.0) y) in
      subst (λ z. BodyNames e (z g k)) (sym q) (level_names y g rest n m (judged g rest n m (parts_at y) (sym (ap (λ z. z.goes_on table g rest n) p) ∙ h)) k a)))

  with_all : (ss : List TestStmt) → (ts : List With) × (stmts_of ts ≡ ss)
  with_all [] = ([], refl)
  with_all (s ∷ ss) = let r = with_all ss in ((s, stmt_names s) ∷ r.0, ap (λ t. s ∷ t) r.1)

  body_names : (test : TestText) → test_rule test table ≡ None → BodyNames e (test_body table test)
  body_names test h =
      let o = ok_of table (in_turn (map part test.body) table Main nothing_known) h in
      let r = with_all test.body in
      subst (λ ss. BodyNames e (chain (map (piece table) ss) Main nil)) r.1
      (block_names r.0 Main nothing_known o.0 (ap (λ ss. in_turn (map part ss) table Main nothing_known) r.1 ∙ o.1))

-- THE BODY OF A TEST that keeps the rules names ports
pub bodies_name_ports : BodiesNamePorts
bodies_name_ports e k t =
    subst (λ ps. BodyNames e (test_body ps k.test)) (sym t.ports) (body_names e k.test (subst (λ ps. test_rule k.test ps ≡ None) t.ports t.rules))
