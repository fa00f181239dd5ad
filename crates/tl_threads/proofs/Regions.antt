-- Each move of a thread respects regions.
use Rattle.std.proofs.Common.{◌≡◌, ℕ, zero, suc, ◌<◌, ◌≤◌, List, [], ◌∷◌, ◌++◌, length, length-append, Bool, true, false, cond, Some, None, is_some, refl, sym, ap, subst, ◌∙◌, ⊎_elim, arith, slice_index, unwrap_or, slice_set}
use Rattle.std.specs.FinMap as map
use Rattle.std.specs.Str.{bytes_eq}
use Rattle.tb_base.specs.declared.path.Region.{Region}
use Rattle.tb_base.specs.declared.path.Region.TheVariants.{Main, Monitor}
use Rattle.tl_ast.specs.declared.tree.TestText.{TestText}
use Rattle.tl_check.specs.Scopes.{Known as KnownNames, nothing_known, inside_fork, handle_named, with_handle, is_monitor}
use Rattle.tl_check.specs.Walk.{Ports, behind_let, behind_fork, test_rule}
use Rattle.bench_model.specs.World.{Move, FitsMove, ModelLaws}
use Rattle.bench_model.specs.World.Move.{spend}
use Rattle.tl_threads.specs.Values.{Name, Numbers, Expr, number_of, value}
use Rattle.tl_threads.specs.Bodies.{Body, test_body}
use Rattle.tl_threads.specs.Bodies.Body.{nil, poke_port, peek_port, expect_port, step_by, let_var, if_true, while_true, repeat_by, fork_as, join_of, joinstep_of}
use Rattle.tl_threads.specs.Threads.{Frame, Inner, Goes, region_number, is_zero, turns, repeats, keeps, begins, move_of, over, next_within, next, root_of}
use Rattle.tl_threads.specs.Threads.Frame.{block, turn, again}
use Rattle.tl_threads.specs.Allowed.{Handles, Takes, Allowed}
use Rattle.tl_threads.specs.Regions.{bound_of, HandlesWithin, FramesFit, HandlesFit, RespectsRegions, threads_over}
use Rattle.tl_threads.proofs.NameFacts.{same_name, differ, get_same, get_other}
use Rattle.tl_threads.proofs.Ruling.{named_behind, named_before, rules_allow}

-- ---- handles

hs_same : (hs : Handles) → HandlesWithin hs hs
hs_same hs x b e = e

frames_in : (g : Region) (o i : Handles) (fs : List Frame) → HandlesWithin o i → FramesFit g o fs → FramesFit g i fs
frames_in g o i [] w t = tt
frames_in g o i (block b ∷ fs) w (n, v, a, t) = (n, (λ x b e. w x b (v x b e)), a, t)
frames_in g o i (turn l e a ∷ fs) w (n, v, b, t) = (n, (λ x b e. w x b (v x b e)), b, t)
frames_in g o i (again l c a ∷ fs) w (n, v, b, t) = (n, (λ x b e. w x b (v x b e)), b, t)

handles_in : (o i : Handles) (hm : Numbers) (forked : List ℕ) → HandlesWithin o i → HandlesFit i hm forked → HandlesFit o hm forked
handles_in o i hm forked w f x b e = f x b (w x b e)

-- what was known stays known behind a fork
fork_within : (x : Name) (w : Bool) (hs : Handles) → HandlesWithin hs (with_handle x w hs)
fork_within x w hs y b e = go (is_some (handle_named x hs))
  where
    go : (c : Bool) → handle_named y (cond c hs (hs ++ (x, w) ∷ [])) ≡ Some b
    go true = e
    go false = named_before y x w b hs e

-- and of other handles nothing else is known
fork_others : (x : Name) (w : Bool) (hs : Handles) (y : Name) (b : Bool) → (y ≡ x → ⊥) → handle_named y (with_handle x w hs) ≡ Some b → handle_named y hs ≡ Some b
fork_others x w hs y b ne e = go (is_some (handle_named x hs)) e
  where
    go : (c : Bool) → handle_named y (cond c hs (hs ++ (x, w) ∷ [])) ≡ Some b → handle_named y hs ≡ Some b
    go true i = i
    go false i = ⊎_elim (λ j. j) (λ j. absurd (ne j.0)) (named_behind y x w b hs i)

at_front : (xs : List ℕ) (y k : ℕ) → k < length xs → slice_index (xs ++ y ∷ []) k ≡ slice_index xs k
at_front [] y k lt = absurd (omega arith)
at_front (x ∷ xs) y zero lt = refl
at_front (x ∷ xs) y (suc k) lt = at_front xs y k (omega arith)

at_last : (xs : List ℕ) (y : ℕ) → slice_index (xs ++ y ∷ []) (length xs) ≡ y
at_last [] y = refl
at_last (x ∷ xs) y = at_last xs y

takes_bound : (r : Region) (b : Bool) → (is_monitor r ≡ true → b ≡ true) → region_number r ≤ bound_of b
takes_bound Main b f = omega arith
takes_bound Monitor b f = subst (λ c. 1 ≤ bound_of c) (sym (f refl)) (omega arith)

joins_bound : (g : Region) (b : Bool) → (b ≡ true → is_monitor g ≡ true) → bound_of b ≤ region_number g
joins_bound Monitor true f = omega arith
joins_bound Monitor false f = omega arith
joins_bound Main true f = absurd (let i : false ≡ true = f refl in cc)
joins_bound Main false f = omega arith

-- a new child is in the region that its handle may have
fork_fits : (x : Name) (w : Bool) (r : Region) (hs : Handles) (hm : Numbers) (n : ℕ) (forked : List ℕ) → Takes (with_handle x w hs) x r → n ≡ length forked → HandlesFit hs hm forked
    → HandlesFit (with_handle x w hs) (map.insert hm x n) (forked ++ region_number r ∷ [])
fork_fits x w r hs hm n forked t e f y b i = go (bytes_eq y x) refl
  where
    there : n < length (forked ++ region_number r ∷ [])
    there = omega (arith, length-append forked (region_number r ∷ []))

    go : (c : Bool) → bytes_eq y x ≡ c → (j : ℕ) × (map.get (map.insert hm x n) y ≡ Some j) × (j < length (forked ++ region_number r ∷ [])) × (slice_index (forked ++ region_number r ∷ []) j ≤ bound_of b)
    go true s =
        let same : y ≡ x = same_name y x s in
        let z : Some t.0 ≡ Some b = sym t.1 ∙ ap (λ v. handle_named v (with_handle x w hs)) (sym same) ∙ i in
        let u : t.0 ≡ b = cc in
        let last : slice_index (forked ++ region_number r ∷ []) n ≡ region_number r = ap (slice_index (forked ++ region_number r ∷ [])) e ∙ at_last forked (region_number r) in (
          n,
          ap (map.get (map.insert hm x n)) same ∙ get_same hm x n,
          there,
          subst (λ m. m ≤ bound_of b) (sym last) (subst (λ c. region_number r ≤ bound_of c) u (takes_bound r t.0 t.2)),
        )
    go false s =
        let ne = differ y x s in
        let o = f y b (fork_others x w hs y b ne i) in
        (o.0, get_other hm x n y ne ∙ o.1, (omega (arith, length-append forked (region_number r ∷ []))), subst (λ m. m ≤ bound_of b) (sym (at_front forked (region_number r) o.0 o.2)) o.3)

-- ---- moves

module _ (limit : ℕ) (fitted : (port raw : ℕ) → ℕ) (reads : (inputs registers : List ℕ) (signal : ℕ) → ℕ) (cone : (signal port : ℕ) → Bool) (g : Region) (forked : List ℕ) (hm : Numbers) (n : ℕ) (count : n ≡ length forked) where
  abbrev Fitting : Move Inner → Type 0
  Fitting m = FitsMove (threads_over limit fitted reads cone) (region_number g) forked m

  -- how a local statement goes on
  GoFits : Goes → Type 0
  GoFits go = (l : ℕ) (fs : List Frame) (vs : Numbers) (hs : Handles) → FramesFit g hs fs → HandlesFit hs hm forked → Fitting (go l fs vs)

  kept : (vs : Numbers) (fs : List Frame) (hs : Handles) → FramesFit g hs fs → HandlesFit hs hm forked → RespectsRegions (region_number g) forked (keeps vs hm n fs)
  kept vs fs hs t f = record { region = g; number = refl; known = hs; rest = t; handles = f; forks = count }

  begun : (vs : Numbers) (r : Region) (o : KnownNames) (a : Body) → Allowed r (inside_fork o) a → RespectsRegions (region_number r) [] (begins a vs)
  begun vs r o a t = record { region = r; number = refl; known = []; rest = (inside_fork o, hs_same [], t, tt); handles = λ x b e. absurd (let i : None ≡ Some b = e in cc); forks = refl }

  forked_on : (vs : Numbers) (x : Name) (w : Bool) (r : Region) (o : KnownNames) (k : Body) (fs : List Frame) → Takes (with_handle x w o.handles) x r → Allowed g (behind_fork x w o) k → FramesFit g o.handles fs → HandlesFit o.handles hm forked
      → RespectsRegions (region_number g) (forked ++ region_number r ∷ []) (keeps vs (map.insert hm x n) (suc n) (block k ∷ fs))
  forked_on vs x w r o k fs t a ff f = record {
    region = g;
    number = refl;
    known = with_handle x w o.handles;
    rest = (behind_fork x w o, hs_same (with_handle x w o.handles), a, frames_in g o.handles (with_handle x w o.handles) fs (fork_within x w o.handles) ff);
    handles = fork_fits x w r o.handles hm n forked t count f;
    forks = omega (arith, length-append forked (region_number r ∷ []));
  }

  side : (o : KnownNames) (a b : Body) (z : Bool) → Allowed g o a → Allowed g o b → Allowed g o (cond z b a)
  side o a b true s t = t
  side o a b false s t = s

  turned : (l : ℕ) (e : Expr) (a : Body) (fs : List Frame) (o : KnownNames) (z : Bool) → Allowed g o a → FramesFit g o.handles fs → FramesFit g o.handles (cond z fs (block a ∷ turn l e a ∷ fs))
  turned l e a fs o true s t = t
  turned l e a fs o false s t = (o, hs_same o.handles, s, (o, hs_same o.handles, s, t))

  repeated : (l x : ℕ) (a : Body) (fs : List Frame) (o : KnownNames) → Allowed g o a → FramesFit g o.handles fs → FramesFit g o.handles (repeats l x a fs)
  repeated l zero a fs o s t = t
  repeated l (suc x) a fs o s t = (o, hs_same o.handles, s, (o, hs_same o.handles, s, t))

  body_fits : (go : Goes) → GoFits go → (vs : Numbers) (b : Body) (fs : List Frame) (done : Move Inner) (o : KnownNames) → Allowed g o b → FramesFit g o.handles fs → HandlesFit o.handles hm forked → Fitting done → Fitting (move_of go vs hm n b fs done)
  unfolding GoFits
  body_fits go G vs nil fs done o a t f d = d
  body_fits go G vs (poke_port l p e k) fs done o a t f d = λ z. kept vs (block k ∷ fs) o.handles (o, hs_same o.handles, a.1, t) f
  body_fits go G vs (peek_port l p into k) fs done o a t f d = λ z. kept _ (block k ∷ fs) o.handles (o, hs_same o.handles, a.1, t) f
  body_fits go G vs (expect_port l p e k) fs done o a t f d = kept vs (block k ∷ fs) o.handles (o, hs_same o.handles, a.1, t) f
  body_fits go G vs (step_by l c k) fs done o a t f d = kept vs (block k ∷ fs) o.handles (o, hs_same o.handles, a, t) f
  body_fits go G vs (let_var l x e k) fs done o a t f d = G l (block k ∷ fs) (map.insert vs x (value vs e)) o.handles (behind_let x o, hs_same o.handles, a.1, t) f
  body_fits go G vs (if_true l e s r k) fs done o a t f d =
      G l (block (cond (is_zero (value vs e)) r s) ∷ block k ∷ fs) vs o.handles (o, hs_same o.handles, side o s r (is_zero (value vs e)) a.1 a.2, (o, hs_same o.handles, a.3, t)) f
  body_fits go G vs (while_true l e s k) fs done o a t f d =
      G l (turns l e (value vs e) s (block k ∷ fs)) vs o.handles (turned l e s (block k ∷ fs) o (is_zero (value vs e)) a.1 (o, hs_same o.handles, a.2, t)) f
  body_fits go G vs (repeat_by l e s k) fs done o a t f d =
      G l (repeats l (value vs e) s (block k ∷ fs)) vs o.handles (repeated l (value vs e) s (block k ∷ fs) o a.1 (o, hs_same o.handles, a.2, t)) f
  body_fits go G vs (fork_as l r x s k) fs done o a t f d = (a.1, begun vs r o s a.2, forked_on vs x a.0 r o k fs a.3 a.4 t f)
  body_fits go G vs (join_of l x k) fs done o a t f d =
      let j = f x a.0.0 a.0.1 in
      let same : number_of hm x ≡ j.0 = ap (λ z. unwrap_or z 0) j.1 in
      let up = joins_bound g a.0.0 a.0.2 in
      (subst (λ z. z < length forked) (sym same) j.2, subst (λ z. slice_index forked z ≤ region_number g) (sym same) (omega (arith, j.3)), kept vs (block k ∷ fs) o.handles (o, hs_same o.handles, a.1, t) f)
  body_fits go G vs (joinstep_of l x k) fs done o a t f d = kept vs (block k ∷ fs) o.handles (o, hs_same o.handles, a.1, t) f

  over_fits : (go : Goes) → GoFits go → (vs : Numbers) (fs : List Frame) (hs : Handles) → FramesFit g hs fs → HandlesFit hs hm forked → Fitting (over go vs hm n fs)
  unfolding GoFits
  over_fits go G vs [] hs t f = tt
  over_fits go G vs (block b ∷ fs) hs (o, w, a, t) f =
      let i = handles_in o.handles hs hm forked w f in
      body_fits go G vs b fs (over go vs hm n fs) o a t i (over_fits go G vs fs o.handles t i)
  over_fits go G vs (turn l e s ∷ fs) hs (o, w, a, t) f = G l (turns l e (value vs e) s fs) vs o.handles (turned l e s fs o (is_zero (value vs e)) a t) (handles_in o.handles hs hm forked w f)
  over_fits go G vs (again l c s ∷ fs) hs (o, w, a, t) f = G l (repeats l c s fs) vs o.handles (repeated l c s fs o a t) (handles_in o.handles hs hm forked w f)

  go_spends : GoFits (λ l gs ws. spend l)
  unfolding GoFits
  go_spends l fs vs hs t f = tt

  go_on : (m : ℕ) → ((vs : Numbers) (fs : List Frame) (hs : Handles) → FramesFit g hs fs → HandlesFit hs hm forked → Fitting (next_within m hm n fs vs)) → GoFits (λ l gs ws. next_within m hm n gs ws)
  unfolding GoFits
  go_on m r l fs vs hs t f = r vs fs hs t f

  within_fits : (m : ℕ) (vs : Numbers) (fs : List Frame) (hs : Handles) → FramesFit g hs fs → HandlesFit hs hm forked → Fitting (next_within m hm n fs vs)
  within_fits zero vs fs hs t f = over_fits (λ l gs ws. spend l) go_spends vs fs hs t f
  within_fits (suc m) vs fs hs t f = over_fits (λ l gs ws. next_within m hm n gs ws) (go_on m (λ vs fs hs t f. within_fits m vs fs hs t f)) vs fs hs t f

-- EACH MOVE RESPECTS REGIONS
pub moves_fit : (limit : ℕ) (fitted : (port raw : ℕ) → ℕ) (reads : (inputs registers : List ℕ) (signal : ℕ) → ℕ) (cone : (signal port : ℕ) → Bool) (r : ℕ) (forked : List ℕ) (i : Inner) → RespectsRegions r forked i → FitsMove (threads_over limit fitted reads cone) r forked (next limit i)
moves_fit limit fitted reads cone r forked i t =
    subst (λ q. FitsMove (threads_over limit fitted reads cone) q forked (next limit i)) t.number
    (within_fits limit fitted reads cone t.region forked i.handles i.forks t.forks limit i.vars i.rest t.known t.rest t.handles)

-- THREADS OVER A CIRCUIT meet the laws of orders where the circuit does
pub threads_meet_laws : (limit : ℕ) (fitted : (port raw : ℕ) → ℕ) (reads : (inputs registers : List ℕ) (signal : ℕ) → ℕ) (cone : (signal port : ℕ) → Bool)
    → ((ins regs : List ℕ) (s p n : ℕ) → cone s p ≡ false → reads (slice_set ins p n) regs s ≡ reads ins regs s) → ModelLaws (threads_over limit fitted reads cone)
threads_meet_laws limit fitted reads cone apart = record { value_apart = apart; fits_next = moves_fit limit fitted reads cone }

-- THE ROOT THREAD respects regions
pub root_fits : (ports : Ports) (test : TestText) → test_rule test ports ≡ None → RespectsRegions 0 [] (root_of (test_body ports test))
root_fits ports test e = record {
  region = Main;
  number = refl;
  known = [];
  rest = (nothing_known, hs_same [], rules_allow ports test e, tt);
  handles = λ x b i. absurd (let z : None ≡ Some b = i in cc);
  forks = refl;
}
