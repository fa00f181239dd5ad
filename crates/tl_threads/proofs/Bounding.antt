-- A test that keeps the rules takes few slots.
use Rattle.std.proofs.Common.{◌≡◌, ℕ, suc, ◌+◌, ◌-◌, ◌≤◌, List, [], ◌∷◌, ◌++◌, map, length, length-append, Bool, true, false, not, cond, ◌||◌, ◌&&◌, nat_le, Some, None, is_some, Ok, refl, sym, ap, subst, ◌∙◌, arith}
use Rattle.std.specs.Str.{bytes_eq}
use Rattle.std.specs.List.{list_any}
use Rattle.std.proofs.lemmas.Bool.{leb-false, or_parts}
use Rattle.tb_base.specs.declared.path.Region.{Region}
use Rattle.tb_base.specs.declared.path.Region.TheVariants.{Main}
use Rattle.tl_ast.specs.declared.tree.TestStmt.{TestStmt}
use Rattle.tl_ast.specs.declared.tree.TestStmt.TheFolds.{fold-roll-TestStmt, ind-TestStmt, map-TestStmt}
use Rattle.tl_ast.specs.declared.tree.TestStmt.TheViews.{roll-TestStmt}
use Rattle.tl_ast.specs.declared.tree.TestStmt.TheOpen as S
use Rattle.tl_ast.specs.declared.tree.TestStmt.TheOpen.{TestStmt-F}
use Rattle.tl_ast.specs.declared.tree.TestText.{TestText}
use Rattle.tl_check.specs.Scopes.{Known as KnownNames, nothing_known, inside_fork, is_among, with_variable, handle_named, is_handle, with_handle, is_monitor, child_region, drivers_variable, drivers_handle, one_variable_more, one_handle_more, most_variables, most_handles as handles_known}
use Rattle.tl_check.specs.Values.{uses_unknown, sets_unknown}
use Rattle.tl_check.specs.Walk.{Ports, Part, some_gives, in_turn, in_block, behind_let, behind_fork, part_level, part, test_rule}
use Rattle.tl_threads.specs.Values.{Name, bit}
use Rattle.tl_threads.specs.Bodies.{Body, Piece, chain, level_piece, piece, test_body}
use Rattle.tl_threads.specs.Bodies.Body.{nil}
use Rattle.tl_threads.specs.Code.{with_name}
use Rattle.tl_threads.specs.Allowed.{Handles, names_of, most_vars, most_handles, FewSlots}
use Rattle.tl_threads.proofs.NameFacts.{same_name, name_self}
use Rattle.tl_threads.proofs.Allowing.{not_false, with_same, names_with}
use Rattle.tl_threads.proofs.Ruling.{ok_same, left_ok, after_ok, ok_of, Judged, judged}

-- ---- one name more

few_step : (limit n : ℕ) (has is_own : Bool) → (not is_own && nat_le limit (cond has (n - 1) n)) ≡ false → (is_own ≡ true → has ≡ false) → n ≤ limit + bit has → suc n ≤ limit + bit (has || is_own)
few_step limit n true true e p le = absurd (let i : true ≡ false = p refl in cc)
few_step limit n true false e p le = let lt = leb-false limit (n - 1) e in omega arith
few_step limit n false true e p le = omega arith
few_step limit n false false e p le = let lt = leb-false limit n e in omega arith

among_behind : (d x : Name) (vs : List Name) → is_among d (vs ++ x ∷ []) ≡ (is_among d vs || bytes_eq d x)
among_behind d x [] = or_false (bytes_eq d x)
  where
    or_false : (b : Bool) → (b || false) ≡ b
    or_false true = refl
    or_false false = refl
among_behind d x (v ∷ vs) = go (bytes_eq d v) (among_behind d x vs)
  where
    go : (b : Bool) → is_among d (vs ++ x ∷ []) ≡ (is_among d vs || bytes_eq d x) → (b || is_among d (vs ++ x ∷ [])) ≡ ((b || is_among d vs) || bytes_eq d x)
    go true e = refl
    go false e = e

handle_behind : (d x : Name) (w : Bool) (hs : Handles) → is_handle d (hs ++ (x, w) ∷ []) ≡ (is_handle d hs || bytes_eq d x)
handle_behind d x w [] = go (bytes_eq d x)
  where
    go : (b : Bool) → is_some (cond b (Some w) None) ≡ b
    go true = refl
    go false = refl
handle_behind d x w (h ∷ hs) = go (bytes_eq d h.0) (handle_behind d x w hs)
  where
    go : (b : Bool) → is_handle d (hs ++ (x, w) ∷ []) ≡ (is_handle d hs || bytes_eq d x) → is_some (cond b (Some h.1) (handle_named d (hs ++ (x, w) ∷ []))) ≡ (is_some (cond b (Some h.1) (handle_named d hs)) || bytes_eq d x)
    go true e = refl
    go false e = e

same_both : (a b : Name) → bytes_eq a b ≡ bytes_eq b a
same_both a b = go (bytes_eq a b) refl (bytes_eq b a) refl
  where
    go : (x : Bool) → bytes_eq a b ≡ x → (y : Bool) → bytes_eq b a ≡ y → bytes_eq a b ≡ bytes_eq b a
    go true e y f = e ∙ sym (ap (λ z. bytes_eq z a) (sym (same_name a b e)) ∙ name_self a)
    go false e false f = e ∙ sym f
    go false e true f = absurd (let t : bytes_eq a b ≡ true = ap (λ z. bytes_eq a z) (same_name b a f) ∙ name_self a in let u : true ≡ false = sym t ∙ e in cc)

-- no more than may be known, and a driver's own name besides
FewVars : List Name → Type 0
FewVars vs = length vs ≤ most_variables + bit (is_among drivers_variable vs)

FewHandles : Handles → Type 0
FewHandles hs = length hs ≤ handles_known + bit (is_handle drivers_handle hs)

few_let : (x : Name) (vs : List Name) → one_variable_more x vs ≡ false → FewVars vs → FewVars (with_variable x vs)
unfolding FewVars
few_let x vs e few = go (is_among x vs) refl e
  where
    go : (b : Bool) → is_among x vs ≡ b → (not b && (not (bytes_eq x drivers_variable) && nat_le most_variables (cond (is_among drivers_variable vs) (length vs - 1) (length vs)))) ≡ false
        → length (cond b vs (vs ++ x ∷ [])) ≤ most_variables + bit (is_among drivers_variable (cond b vs (vs ++ x ∷ [])))
    go true t i = few
    go false t i =
        let own : bytes_eq x drivers_variable ≡ true → is_among drivers_variable vs ≡ false = λ s. ap (λ z. is_among z vs) (sym (same_name x drivers_variable s)) ∙ t in
        let r = few_step most_variables (length vs) (is_among drivers_variable vs) (bytes_eq x drivers_variable) i own few in
        let s = among_behind drivers_variable x vs ∙ ap (λ b. is_among drivers_variable vs || b) (same_both drivers_variable x) in
        let n : length (vs ++ x ∷ []) ≡ suc (length vs) = omega (arith, length-append vs (x ∷ [])) in
        subst (λ m. m ≤ most_variables + bit (is_among drivers_variable (vs ++ x ∷ []))) (sym n) (subst (λ b. suc (length vs) ≤ most_variables + bit b) (sym s) r)

few_fork : (x : Name) (w : Bool) (hs : Handles) → one_handle_more x hs ≡ false → FewHandles hs → FewHandles (with_handle x w hs)
unfolding FewHandles
few_fork x w hs e few = go (is_handle x hs) refl e
  where
    go : (b : Bool) → is_handle x hs ≡ b → (not b && (not (bytes_eq x drivers_handle) && nat_le handles_known (cond (is_handle drivers_handle hs) (length hs - 1) (length hs)))) ≡ false
        → length (cond b hs (hs ++ (x, w) ∷ [])) ≤ handles_known + bit (is_handle drivers_handle (cond b hs (hs ++ (x, w) ∷ [])))
    go true t i = few
    go false t i =
        let own : bytes_eq x drivers_handle ≡ true → is_handle drivers_handle hs ≡ false = λ s. ap (λ z. is_handle z hs) (sym (same_name x drivers_handle s)) ∙ t in
        let r = few_step handles_known (length hs) (is_handle drivers_handle hs) (bytes_eq x drivers_handle) i own few in
        let s = handle_behind drivers_handle x w hs ∙ ap (λ b. is_handle drivers_handle hs || b) (same_both drivers_handle x) in
        let n : length (hs ++ (x, w) ∷ []) ≡ suc (length hs) = omega (arith, length-append hs ((x, w) ∷ [])) in
        subst (λ m. m ≤ handles_known + bit (is_handle drivers_handle (hs ++ (x, w) ∷ []))) (sym n) (subst (λ b. suc (length hs) ≤ handles_known + bit b) (sym s) r)

bit_below : (b : Bool) → bit b ≤ 1
bit_below true = omega arith
bit_below false = omega arith

-- ---- statements

record Few (n : KnownNames) : Type 0 where
  vars : FewVars n.variables
  handles : FewHandles n.handles

-- the slots of a body where these names are known
record Enough (n : KnownNames) (b : Body) : Type 0 where
  vars : most_vars b n.variables ≤ suc most_variables
  handles : most_handles b (names_of n.handles) ≤ suc handles_known

names_length : (hs : Handles) → length (names_of hs) ≡ length hs
names_length [] = refl
names_length (h ∷ hs) = ap (λ k. suc k) (names_length hs)

enough_nil : (n : KnownNames) → Few n → Enough n nil
unfolding FewVars FewHandles
enough_nil n f =
    let v = f.vars in
    let h = f.handles in
    let a = bit_below (is_among drivers_variable n.variables) in
    let b = bit_below (is_handle drivers_handle n.handles) in
    let c = names_length n.handles in
    record { vars = omega arith; handles = omega arith }

few_none : FewHandles []
unfolding FewHandles
few_none = omega arith

module _ (ports : Ports) where
  -- where a part ends well, few names are known behind it, and its piece takes few slots in front of what does
  Bounds : Part → Piece → Type 0
  Bounds p q = (g : Region) (rest : Name → Bool) (n m : KnownNames) → p.goes_on ports g rest n ≡ Ok m → Few n → Few m × ((k : Body) → Enough m k → Enough n (q g k))

  abbrev StmtBounds : TestStmt → Type 0
  StmtBounds s = Bounds (part s) (piece ports s)

  abbrev With : Type 0
  With = (s : TestStmt) × StmtBounds s

  abbrev stmts_of : List With → List TestStmt
  stmts_of ts = map (λ t. t.0) ts

  turn_step : (p : Part) (q : Piece) (ps : List Part) (qs : List Piece) (g : Region) (n m : KnownNames) → Bounds p q
      → ((i : KnownNames) → in_turn ps ports g i ≡ Ok m → Few i → Few m × Enough i (chain qs g nil))
      → in_turn (p ∷ ps) ports g n ≡ Ok m → Few n → Few m × Enough n (chain (q ∷ qs) g nil)
  unfolding Bounds
  turn_step p q ps qs g n m bounds others e f =
      let t = after_ok (in_turn ps ports g) m (p.goes_on ports g (some_gives ps g) n) e in
      let r = bounds g (some_gives ps g) n t.0 t.1 f in
      let o = others t.0 t.2 r.0 in
      (o.0, r.1 (chain qs g nil) o.1)

  turns_bound : (ts : List With) (g : Region) (n m : KnownNames) → in_turn (map part (stmts_of ts)) ports g n ≡ Ok m → Few n → Few m × Enough n (chain (map (piece ports) (stmts_of ts)) g nil)
  turns_bound [] g n m e f = (subst Few (ok_same n m e) f, enough_nil n f)
  turns_bound (t ∷ ts) g n m e f =
      turn_step (part t.0) (piece ports t.0) (map part (stmts_of ts)) (map (piece ports) (stmts_of ts)) g n m t.1 (λ i e f. turns_bound ts g i m e f) e f

  abbrev parts_at : TestStmt-F With → TestStmt-F Part
  parts_at y = map-TestStmt TestStmt Part part (map-TestStmt With TestStmt (λ t. t.0) y)

  abbrev pieces_at : TestStmt-F With → TestStmt-F Piece
  pieces_at y = map-TestStmt TestStmt Piece (piece ports) (map-TestStmt With TestStmt (λ t. t.0) y)

  stays : (g : Region) (n m : KnownNames) (y : TestStmt-F With) → ((k : Body) → Enough n k → Enough n (level_piece ports (pieces_at y) g k)) → n ≡ m → Few n
      → Few m × ((k : Body) → Enough m k → Enough n (level_piece ports (pieces_at y) g k))
  stays g n m y f e few = (subst Few e few, λ k a. f k (subst (λ z. Enough z k) (sym e) a))

  level_bounds : (y : TestStmt-F With) (g : Region) (rest : Name → Bool) (n m : KnownNames) → Judged ports g rest n m (parts_at y) → Few n
      → Few m × ((k : Body) → Enough m k → Enough n (level_piece ports (pieces_at y) g k))
  level_bounds (S.Poke l p e) g rest n m j f = stays g n m (S.Poke l p e) (λ k a. record { vars = a.vars; handles = a.handles }) (ok_same n m j.1) f
  level_bounds (S.Peek l p into) g rest n m j f = stays g n m (S.Peek l p into) (λ k a. record { vars = a.vars; handles = a.handles }) (ok_same n m j.1) f
  level_bounds (S.Expect l p e) g rest n m j f = stays g n m (S.Expect l p e) (λ k a. record { vars = a.vars; handles = a.handles }) (ok_same n m j.1) f
  level_bounds (S.Step l count) g rest n m j f = stays g n m (S.Step l count) (λ k a. record { vars = a.vars; handles = a.handles }) (ok_same n m j.1) f
  level_bounds (S.Join l x) g rest n m j f = stays g n m (S.Join l x) (λ k a. record { vars = a.vars; handles = a.handles }) (ok_same n m j.1) f
  level_bounds (S.JoinStep l x) g rest n m j f = stays g n m (S.JoinStep l x) (λ k a. record { vars = a.vars; handles = a.handles }) (ok_same n m j.1) f
  level_bounds (S.Driver l kind p values) g rest n m j f = stays g n m (S.Driver l kind p values) (λ k a. a) (ok_same n m j.1) f
  level_bounds (S.ResetFor l count) g rest n m j f = stays g n m (S.ResetFor l count) (λ k a. a) (ok_same n m j.1) f
  level_bounds (S.Let l x e) g rest n m j f =
      let same = ok_same (behind_let x n) m j.1 in (
        subst Few same (record { vars = few_let x n.variables j.0.names f.vars; handles = f.handles }),
        λ k a. let b : Enough (behind_let x n) k = subst (λ z. Enough z k) (sym same) a in
            record { vars = subst (λ vs. most_vars k vs ≤ suc most_variables) (with_same x n.variables) b.vars; handles = b.handles },
      )
  level_bounds (S.Set l x e) g rest n m j f =
      let there : is_among x n.variables ≡ true = not_false (is_among x n.variables) (or_parts (list_any (uses_unknown n.variables) (e ∷ [])) (sets_unknown n.variables (Some x)) j.0.variable).1 in
      let same : with_name n.variables x ≡ n.variables = sym (with_same x n.variables) ∙ ap (λ b. cond b n.variables (n.variables ++ x ∷ [])) there in
      stays g n m (S.Set l x e) (λ k a. record { vars = subst (λ vs. most_vars k vs ≤ suc most_variables) (sym same) a.vars; handles = a.handles }) (ok_same n m j.1) f
  level_bounds (S.If l e ts os) g rest n m j f =
      let u = after_ok (in_block (map part (stmts_of os)) ports g) m (in_block (map part (stmts_of ts)) ports g n) j.1 in
      let t = left_ok n u.0 (in_turn (map part (stmts_of ts)) ports g n) u.1 in
      let o = left_ok n m (in_turn (map part (stmts_of os)) ports g n) (ap (in_block (map part (stmts_of os)) ports g) t.2 ∙ u.2) in
      let a = (turns_bound ts g n t.0 t.1 f).1 in
      let b = (turns_bound os g n o.0 o.1 f).1 in
      stays g n m (S.If l e ts os) (λ k c. record { vars = (let x = a.vars in let y = b.vars in let z = c.vars in omega arith); handles = (let x = a.handles in let y = b.handles in let z = c.handles in omega arith) }) o.2 f
  level_bounds (S.While l e ts) g rest n m j f =
      let t = left_ok n m (in_turn (map part (stmts_of ts)) ports g n) j.1 in
      let a = (turns_bound ts g n t.0 t.1 f).1 in
      stays g n m (S.While l e ts) (λ k c. record { vars = (let x = a.vars in let z = c.vars in omega arith); handles = (let x = a.handles in let z = c.handles in omega arith) }) t.2 f
  level_bounds (S.Repeat l e ts) g rest n m j f =
      let t = left_ok n m (in_turn (map part (stmts_of ts)) ports g n) j.1 in
      let a = (turns_bound ts g n t.0 t.1 f).1 in
      stays g n m (S.Repeat l e ts) (λ k c. record { vars = (let x = a.vars in let z = c.vars in omega arith); handles = (let x = a.handles in let z = c.handles in omega arith) }) t.2 f
  level_bounds (S.Fork l written x ts) g rest n m j f =
      let r : Region = child_region g written in
      let w : Bool = is_monitor r || rest x in
      let t = left_ok (behind_fork x w n) m (in_turn (map part (stmts_of ts)) ports r (inside_fork n)) j.1 in
      let a = (turns_bound ts r (inside_fork n) t.0 t.1 (record { vars = f.vars; handles = few_none })).1 in (
        subst Few t.2 (record { vars = f.vars; handles = few_fork x w n.handles j.0.names f.handles }),
        λ k c.
            let b : Enough (behind_fork x w n) k = subst (λ z. Enough z k) (sym t.2) c in
            let hs : most_handles k (with_name (names_of n.handles) x) ≤ suc handles_known = subst (λ hs. most_handles k hs ≤ suc handles_known) (names_with x w n.handles) b.handles in
            record { vars = (let y = a.vars in let z = b.vars in omega arith); handles = (let y = a.handles in omega arith) },
      )

  stmt_bounds : (s : TestStmt) → StmtBounds s
  unfolding Bounds
  stmt_bounds = ind-TestStmt StmtBounds (λ x y is. subst (λ z. StmtBounds (roll-TestStmt z)) is (λ g rest n m e f.
      let p : part (roll-TestStmt (map-TestStmt With TestStmt (λ t. t.0) y)) ≡ part_level (parts_at y) = fold-roll-TestStmt Part part_level (map-TestStmt With TestStmt (λ t. t.0) y) in
      let q : piece ports (roll-TestStmt (map-TestStmt With TestStmt (λ t. t.0) y)) ≡ level_piece ports (pieces_at y) = fold-roll-TestStmt Piece (level_piece ports) (map-TestStmt With TestStmt (λ t. t.0) y) in
      let r = level_bounds y g rest n m (judged ports g rest n m (parts_at y) (sym (ap (λ z. z.goes_on ports g rest n) p) ∙ e)) f in
      (r.0, λ k a. subst (λ z. Enough n (z g k)) (sym q) (r.1 k a))))

  with_all : (ss : List TestStmt) → (ts : List With) × (stmts_of ts ≡ ss)
  with_all [] = ([], refl)
  with_all (s ∷ ss) = let r = with_all ss in ((s, stmt_bounds s) ∷ r.0, ap (λ t. s ∷ t) r.1)

  few_first : Few nothing_known
  unfolding FewVars FewHandles
  few_first = record { vars = omega arith; handles = omega arith }

  -- A TEST THAT KEEPS THE RULES takes few slots
  pub rules_bound : (test : TestText) → test_rule test ports ≡ None → FewSlots (test_body ports test)
  rules_bound test e =
      let o = ok_of ports (in_turn (map part test.body) ports Main nothing_known) e in
      let r = with_all test.body in
      let t = (turns_bound r.0 Main nothing_known o.0 (ap (λ ss. in_turn (map part ss) ports Main nothing_known) r.1 ∙ o.1) few_first).1 in
      let u : Enough nothing_known (test_body ports test) = subst (λ ss. Enough nothing_known (chain (map (piece ports) ss) Main nil)) r.1 t in
      record { vars = u.vars; handles = u.handles }
