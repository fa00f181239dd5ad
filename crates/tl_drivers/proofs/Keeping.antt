-- The core form of a test that keeps the rules keeps them.
use Rattle.std.proofs.Common.{◌≡◌, ℕ, List, [], ◌∷◌, map, Bool, true, false, not, ◌||◌, ◌&&◌, Option, Some, None, is_some, Ok, Err, refl, sym, ap, subst, ◌∙◌}
use Rattle.std.specs.Str.{bytes_eq}
use Rattle.tb_base.specs.declared.path.Region.{Region}
use Rattle.tb_base.specs.declared.path.Region.TheVariants.{Main}
use Rattle.tl_ast.specs.declared.tree.TestStmt.{TestStmt}
use Rattle.tl_ast.specs.declared.tree.TestStmt.TheFolds.{fold-roll-TestStmt, ind-TestStmt, map-TestStmt}
use Rattle.tl_ast.specs.declared.tree.TestStmt.TheViews.{roll-TestStmt}
use Rattle.tl_ast.specs.declared.tree.TestStmt.TheVariants as stmt
use Rattle.tl_ast.specs.declared.tree.TestStmt.TheOpen as S
use Rattle.tl_ast.specs.declared.tree.TestStmt.TheOpen.{TestStmt-F}
use Rattle.tl_ast.specs.declared.tree.TestText.{TestText}
use Rattle.tl_check.specs.declared.rule.Rule.{Rule}
use Rattle.tl_check.specs.Scopes.{Known, nothing_known, inside_fork, with_variable, handle_named, with_handle, is_monitor, child_region, drivers_handle}
use Rattle.tl_check.specs.CoreTests.{some_true}
use Rattle.tl_check.specs.Rules.{first_broken, watches}
use Rattle.tl_check.specs.Walk.{Ports, Outcome, Part, line_of, some_gives, after, in_turn, leave, in_block, behind_fork, behind, unless_broken, here, part_level, part, broken_in, test_rule}
use Rattle.tl_check.proofs.Unrolled.{fold-Poke, fold-Peek, fold-Expect, fold-Step, fold-Let, fold-Set, fold-If, fold-While, fold-Repeat, fold-Fork, fold-Join, fold-JoinStep}
use Rattle.tl_drivers.specs.Core.{core_level, core, core_body, core_of}
use Rattle.tl_drivers.specs.OwnNames.{takes_level, takes_drivers_handle, leaves_drivers_handle}
use Rattle.tl_drivers.proofs.Lists.{map_both}
use Rattle.tl_drivers.proofs.Names.{Name, Handles, known, Alike, alike_none, alike_fork, alike_more, or_left, or_right}
use Rattle.tl_drivers.proofs.Gives.{all_give_same}
use Rattle.tl_drivers.proofs.Judging.{keeps, unbroken}
use Rattle.tl_drivers.proofs.Going.{Goes, goes_by, and_then}
use Rattle.tl_drivers.proofs.RowsGo.{Reaches, driver_goes, reset_goes}

-- ---- outcomes

ok_same : (n m : Known) → ◌≡◌ {A = Outcome} (Ok n) (Ok m) → n ≡ m
ok_same n m e = cc

passes : (o : Option Rule) (l : ℕ) (out : Outcome) (m : Known) → unless_broken o l out ≡ Ok m → (o ≡ None) × (out ≡ Ok m)
passes None l out m e = (refl, e)
passes (Some r) l out m e = absurd cc

left_ok : (n m : Known) (o : Outcome) → leave n o ≡ Ok m → (i : Known) × (o ≡ Ok i) × (n ≡ m)
left_ok n m (Ok i) e = (i, refl, ok_same n m e)
left_ok n m (Err x) e = absurd cc

after_ok : (f : Known → Outcome) (m : Known) (o : Outcome) → after o f ≡ Ok m → (i : Known) × (o ≡ Ok i) × (f i ≡ Ok m)
after_ok f m (Ok i) e = (i, refl, e)
after_ok f m (Err x) e = absurd cc

-- two blocks, one behind the other
if_ok : (n m : Known) (taken : Outcome) (other : Known → Outcome) → after (leave n taken) (λ k. leave k (other k)) ≡ Ok m
    → (i : Known) × (j : Known) × (taken ≡ Ok i) × (other n ≡ Ok j) × (n ≡ m)
if_ok n m (Ok i) other e = let r = left_ok n m (other n) e in (i, r.0, refl, r.1, r.2)
if_ok n m (Err x) other e = absurd cc

module _ (ports : Ports) where
  -- the others of a block give the same handles, but for that of drivers
  abbrev SameRest : (Name → Bool) → Region → List Part → Type 0
  SameRest rest g ps = (x : Name) → bytes_eq x drivers_handle ≡ false → some_gives ps g x ≡ rest x

  abbrev StaysKept : TestStmt → Type 0
  StaysKept s = (g : Region) (rest : Name → Bool) (vs : List Name) (hs : Handles) (m : Known) → takes_drivers_handle s ≡ false → Goes ports s g rest (known vs hs) m
      → (ks : Handles) → Alike hs ks → (ps : List Part) → SameRest rest g ps → Reaches ports g vs ks (core s) ps m

  abbrev With : Type 0
  With = (s : TestStmt) × StaysKept s

  abbrev stmts_of : List With → List TestStmt
  stmts_of ts = map (λ t. t.0) ts

  -- a block ends well, whatever is known behind it
  abbrev BlockKept : Region → List Name → Handles → List TestStmt → Type 0
  BlockKept g vs ks ss = (i : Known) × (in_turn (map part (core_body ss)) ports g (known vs ks) ≡ Ok i)

  block_kept : (ts : List With) (g : Region) (vs : List Name) (hs : Handles) (m : Known) → some_true (map takes_drivers_handle (stmts_of ts)) ≡ false
      → in_turn (map part (stmts_of ts)) ports g (known vs hs) ≡ Ok m → (ks : Handles) → Alike hs ks → BlockKept g vs ks (stmts_of ts)
  block_kept [] g vs hs m own e ks a = (known vs ks, refl)
  block_kept (t ∷ ts) g vs hs m own e ks a =
      let more : List TestStmt = core_body (stmts_of ts) in
      let first : Bool = takes_drivers_handle t.0 in
      let others : Bool = some_true (map takes_drivers_handle (stmts_of ts)) in
      let q = after_ok (in_turn (map part (stmts_of ts)) ports g) m ((part t.0).goes_on ports g (some_gives (map part (stmts_of ts)) g) (known vs hs)) e in
      let r = t.1 g (some_gives (map part (stmts_of ts)) g) vs hs q.0 (or_left first others own) q.1 ks a (map part more) (λ x i. all_give_same g x i (stmts_of ts)) in
      let b = block_kept ts g q.0.variables q.0.handles m (or_right first others own) q.2 r.handles r.alike in
      (b.0, ap (λ ps. in_turn ps ports g (known vs ks)) (map_both part (core t.0) more) ∙ r.goes ∙ b.1)

  abbrev plain_at : TestStmt-F With → TestStmt-F TestStmt
  plain_at y = map-TestStmt With TestStmt (λ t. t.0) y

  abbrev parts_at : TestStmt-F With → TestStmt-F Part
  parts_at y = map-TestStmt TestStmt Part part (plain_at y)

  abbrev cores_at : TestStmt-F With → TestStmt-F (List TestStmt)
  cores_at y = map-TestStmt TestStmt (List TestStmt) core (plain_at y)

  abbrev takes_at : TestStmt-F With → TestStmt-F Bool
  takes_at y = map-TestStmt TestStmt Bool takes_drivers_handle (plain_at y)

  -- one statement that stands for itself
  stays : (s : TestStmt) (x : TestStmt-F Part) (g : Region) (vs : List Name) (ks : Handles) (ps : List Part) (m : Known) (js : Handles) → part s ≡ part_level x
      → first_broken (here ports g (known vs ks)) x ≡ None → behind x ports g (some_gives ps g) (known vs ks) ≡ Ok (known m.variables js) → Alike m.handles js
      → Reaches ports g vs ks (s ∷ []) ps m
  stays s x g vs ks ps m js p b o a = record {
    handles = js;
    alike = a;
    goes = and_then ports s ps g (known vs ks) (known m.variables js) (in_turn ps ports g (known m.variables js))
        (goes_by ports s x g (some_gives ps g) (known vs ks) (known m.variables js) p b o) refl;
  }

  -- behind which the same is known as in front
  same_known : (g : Region) (vs : List Name) (hs ks : Handles) (ss : List TestStmt) (ps : List Part) (m : Known) → ◌≡◌ {A = Outcome} (Ok (known vs hs)) (Ok m)
      → Reaches ports g vs ks ss ps (known vs hs) → Reaches ports g vs ks ss ps m
  same_known g vs hs ks ss ps m e r = subst (λ n. Reaches ports g vs ks ss ps n) (ok_same (known vs hs) m e) r

  level_kept : (y : TestStmt-F With) (g : Region) (rest : Name → Bool) (vs : List Name) (hs : Handles) (m : Known) → takes_level (takes_at y) ≡ false
      → first_broken (here ports g (known vs hs)) (parts_at y) ≡ None → behind (parts_at y) ports g rest (known vs hs) ≡ Ok m
      → (ks : Handles) → Alike hs ks → (ps : List Part) → SameRest rest g ps → Reaches ports g vs ks (core_level (cores_at y)) ps m
  level_kept (S.Poke l p e) g rest vs hs m own b o ks a ps same =
      same_known g vs hs ks (stmt.Poke l p e ∷ []) ps m o (stays (stmt.Poke l p e) (S.Poke l p e) g vs ks ps (known vs hs) ks (fold-Poke Part part_level l p e) b refl a)
  level_kept (S.Peek l p into) g rest vs hs m own b o ks a ps same =
      same_known g vs hs ks (stmt.Peek l p into ∷ []) ps m o (stays (stmt.Peek l p into) (S.Peek l p into) g vs ks ps (known vs hs) ks (fold-Peek Part part_level l p into) b refl a)
  level_kept (S.Expect l p e) g rest vs hs m own b o ks a ps same =
      same_known g vs hs ks (stmt.Expect l p e ∷ []) ps m o (stays (stmt.Expect l p e) (S.Expect l p e) g vs ks ps (known vs hs) ks (fold-Expect Part part_level l p e) b refl a)
  level_kept (S.Step l count) g rest vs hs m own b o ks a ps same =
      same_known g vs hs ks (stmt.Step l count ∷ []) ps m o (stays (stmt.Step l count) (S.Step l count) g vs ks ps (known vs hs) ks (fold-Step Part part_level l count) b refl a)
  level_kept (S.Let l x e) g rest vs hs m own b o ks a ps same =
      subst (λ n. Reaches ports g vs ks (stmt.Let l x e ∷ []) ps n) (ok_same (known (with_variable x vs) hs) m o)
      (stays (stmt.Let l x e) (S.Let l x e) g vs ks ps (known (with_variable x vs) hs) ks (fold-Let Part part_level l x e) b refl a)
  level_kept (S.Set l x e) g rest vs hs m own b o ks a ps same =
      same_known g vs hs ks (stmt.Set l x e ∷ []) ps m o (stays (stmt.Set l x e) (S.Set l x e) g vs ks ps (known vs hs) ks (fold-Set Part part_level l x e) b refl a)
  level_kept (S.If l e ts os) g rest vs hs m own b o ks a ps same =
      let n : Known = known vs hs in
      let k : Known = known vs ks in
      let takes_taken : Bool = some_true (map takes_drivers_handle (stmts_of ts)) in
      let takes_other : Bool = some_true (map takes_drivers_handle (stmts_of os)) in
      let taken : List TestStmt = core_body (stmts_of ts) in
      let other : List TestStmt = core_body (stmts_of os) in
      let t = if_ok n m (in_turn (map part (stmts_of ts)) ports g n) (in_turn (map part (stmts_of os)) ports g) o in
      let c = block_kept ts g vs hs t.0 (or_left takes_taken takes_other own) t.2 ks a in
      let d = block_kept os g vs hs t.1 (or_right takes_taken takes_other own) t.3 ks a in
      subst (λ i. Reaches ports g vs ks (stmt.If l e taken other ∷ []) ps i) t.4
      (stays (stmt.If l e taken other) (S.If l e (map part taken) (map part other)) g vs ks ps n ks (fold-If Part part_level l e taken other) b
      (ap (λ i. after (leave k i) (in_block (map part other) ports g)) c.1 ∙ ap (leave k) d.1) a)
  level_kept (S.While l e ts) g rest vs hs m own b o ks a ps same =
      let n : Known = known vs hs in
      let k : Known = known vs ks in
      let body : List TestStmt = core_body (stmts_of ts) in
      let t = left_ok n m (in_turn (map part (stmts_of ts)) ports g n) o in
      let c = block_kept ts g vs hs t.0 own t.1 ks a in
      subst (λ i. Reaches ports g vs ks (stmt.While l e body ∷ []) ps i) t.2
      (stays (stmt.While l e body) (S.While l e (map part body)) g vs ks ps n ks (fold-While Part part_level l e body) b (ap (leave k) c.1) a)
  level_kept (S.Repeat l e ts) g rest vs hs m own b o ks a ps same =
      let n : Known = known vs hs in
      let k : Known = known vs ks in
      let body : List TestStmt = core_body (stmts_of ts) in
      let t = left_ok n m (in_turn (map part (stmts_of ts)) ports g n) o in
      let c = block_kept ts g vs hs t.0 own t.1 ks a in
      subst (λ i. Reaches ports g vs ks (stmt.Repeat l e body ∷ []) ps i) t.2
      (stays (stmt.Repeat l e body) (S.Repeat l e (map part body)) g vs ks ps n ks (fold-Repeat Part part_level l e body) b (ap (leave k) c.1) a)
  level_kept (S.Fork l written x ts) g rest vs hs m own b o ks a ps same =
      let n : Known = known vs hs in
      let k : Known = known vs ks in
      let r : Region = child_region g written in
      let body : List TestStmt = core_body (stmts_of ts) in
      let takes_inside : Bool = some_true (map takes_drivers_handle (stmts_of ts)) in
      let other : bytes_eq x drivers_handle ≡ false = or_left (bytes_eq x drivers_handle) takes_inside own in
      let w : Bool = is_monitor r || rest x in
      let v : Bool = is_monitor r || some_gives ps g x in
      let is : w ≡ v = ap (λ c. is_monitor r || c) (sym (same x other)) in
      let j = keeps Part (here ports g n) (S.Fork l written x (map part (stmts_of ts))) b in
      let t = left_ok (behind_fork x w n) m (in_turn (map part (stmts_of ts)) ports r (inside_fork n)) o in
      let c = block_kept ts r vs [] t.0 (or_right (bytes_eq x drivers_handle) takes_inside own) t.1 [] alike_none in
      subst (λ i. Reaches ports g vs ks (stmt.Fork l written x body ∷ []) ps i) t.2
      (stays (stmt.Fork l written x body) (S.Fork l written x (map part body)) g vs ks ps (behind_fork x w n) (with_handle x v ks) (fold-Fork Part part_level l written x body)
      (unbroken Part (here ports g k) (S.Fork l written x (map part body)) (record {
        port = refl;
        way = refl;
        width = refl;
        variable = refl;
        handle = refl;
        names = alike_more x hs ks other a ∙ j.names;
        join = refl;
        fork = j.fork;
        ready_valid = refl;
        step = refl;
      }))
      (ap (leave (behind_fork x v k)) c.1)
      (subst (λ z. Alike (with_handle x z hs) (with_handle x v ks)) (sym is) (alike_fork x v hs ks other a)))
  level_kept (S.Join l x) g rest vs hs m own b o ks a ps same =
      let j = keeps Part (here ports g (known vs hs)) (S.Join l x) b in
      let is : handle_named x ks ≡ handle_named x hs = a.named x own in
      same_known g vs hs ks (stmt.Join l x ∷ []) ps m o
      (stays (stmt.Join l x) (S.Join l x) g vs ks ps (known vs hs) ks (fold-Join Part part_level l x)
      (unbroken Part (here ports g (known vs ks)) (S.Join l x) (record {
        port = refl;
        way = refl;
        width = refl;
        variable = refl;
        handle = ap (λ h. not (is_some h)) is ∙ j.handle;
        names = refl;
        join = ap (λ h. not (is_monitor g) && watches h) is ∙ j.join;
        fork = refl;
        ready_valid = refl;
        step = refl;
      }))
      refl a)
  level_kept (S.JoinStep l x) g rest vs hs m own b o ks a ps same =
      let j = keeps Part (here ports g (known vs hs)) (S.JoinStep l x) b in
      same_known g vs hs ks (stmt.JoinStep l x ∷ []) ps m o
      (stays (stmt.JoinStep l x) (S.JoinStep l x) g vs ks ps (known vs hs) ks (fold-JoinStep Part part_level l x)
      (unbroken Part (here ports g (known vs ks)) (S.JoinStep l x) (record {
        port = refl;
        way = refl;
        width = refl;
        variable = refl;
        handle = ap (λ h. not (is_some h)) (a.named x own) ∙ j.handle;
        names = refl;
        join = refl;
        fork = refl;
        ready_valid = refl;
        step = refl;
      }))
      refl a)
  level_kept (S.Driver l kind p values) g rest vs hs m own b o ks a ps same =
      same_known g vs hs ks (core_level (S.Driver l kind p values)) ps m o
      (driver_goes ports l kind p values g vs hs ks ps (keeps Part (here ports g (known vs hs)) (S.Driver l kind p values) b) a)
  level_kept (S.ResetFor l count) g rest vs hs m own b o ks a ps same =
      same_known g vs hs ks (core_level (S.ResetFor l count)) ps m o
      (reset_goes ports l count g vs hs ks ps (keeps Part (here ports g (known vs hs)) (S.ResetFor l count) b) a)

  stmt_kept : (s : TestStmt) → StaysKept s
  stmt_kept = ind-TestStmt StaysKept (λ x y is. subst (λ z. StaysKept (roll-TestStmt z)) is (λ g rest vs hs m own e ks a ps same.
      let plain : TestStmt-F TestStmt = plain_at y in
      let p : part (roll-TestStmt plain) ≡ part_level (parts_at y) = fold-roll-TestStmt Part part_level plain in
      let c : core (roll-TestStmt plain) ≡ core_level (cores_at y) = fold-roll-TestStmt (List TestStmt) core_level plain in
      let t : takes_drivers_handle (roll-TestStmt plain) ≡ takes_level (takes_at y) = fold-roll-TestStmt Bool takes_level plain in
      let u = passes (first_broken (here ports g (known vs hs)) (parts_at y)) (line_of (parts_at y)) (behind (parts_at y) ports g rest (known vs hs)) m
      (sym (ap (λ (q : Part). q.goes_on ports g rest (known vs hs)) p) ∙ e) in
      subst (λ ss. Reaches ports g vs ks ss ps m) (sym c) (level_kept y g rest vs hs m (sym t ∙ own) u.0 u.1 ks a ps same)))

  with_all : (ss : List TestStmt) → (ts : List With) × (stmts_of ts ≡ ss)
  with_all [] = ([], refl)
  with_all (s ∷ ss) = let r = with_all ss in ((s, stmt_kept s) ∷ r.0, ap (λ t. s ∷ t) r.1)

  ok_of : (o : Outcome) → broken_in o ≡ None → (m : Known) × (o ≡ Ok m)
  ok_of (Ok m) e = (m, refl)
  ok_of (Err x) e = absurd cc

  -- THE CORE FORM keeps the rules where its test keeps them, and leaves the drivers' handle to drivers
  pub core_keeps : (test : TestText) → leaves_drivers_handle test ≡ true → test_rule test ports ≡ None → test_rule (core_of test) ports ≡ None
  core_keeps test own e =
      let o = ok_of (in_turn (map part test.body) ports Main nothing_known) e in
      let r = with_all test.body in
      let free : some_true (map takes_drivers_handle test.body) ≡ false = none (some_true (map takes_drivers_handle test.body)) own in
      let b = block_kept r.0 Main [] [] o.0 (ap (λ ss. some_true (map takes_drivers_handle ss)) r.1 ∙ free) (ap (λ ss. in_turn (map part ss) ports Main nothing_known) r.1 ∙ o.1) [] alike_none in
      ap broken_in (ap (λ ss. in_turn (map part (core_body ss)) ports Main nothing_known) (sym r.1) ∙ b.1)
    where
      none : (b : Bool) → not b ≡ true → b ≡ false
      none false h = refl
      none true h = absurd cc
