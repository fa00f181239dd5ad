-- What the code finds is what is seen.
use Rattle.std.proofs.Common.{◌≡◌, ◌∙◌, sym, ap, ℕ, ◌+◌, ◌++◌, Bool, true, false, ◌||◌, ◌&&◌, nat_eq, refl, Option, Some, None, cond, List, [], ◌∷◌, map, subst}
use Rattle.net_core.specs.declared.tree.GroundExpr.{GroundExpr}
use Rattle.net_core.specs.declared.tree.Choice.{Choice}
use Rattle.net_core.specs.declared.tree.Choice.TheVariants.{Take, When, rolls-Take, rolls-When}
use Rattle.net_core.specs.declared.tree.Choice.TheFolds.{fold-roll-Choice, ind-Choice, map-Choice}
use Rattle.net_core.specs.declared.tree.Choice.TheOpen.{Choice-F}
use Rattle.net_core.specs.Body.{Body, done, declare, set, when, whens}
use Rattle.net_core.specs.Last.{sinks}
use Rattle.net_core.specs.Nets.{Choices, nothing, take, branch, full, choices_of, one_choice, level_choice, chain}
use Rattle.net_core.specs.declared.ports.Signal.{Signal}
use Rattle.net_resolve.proofs.Seen.{seen, joined, append, full-append}
use Rattle.net_resolve.specs.declared.join.Found.{Found}
use Rattle.net_resolve.specs.Joint.{or_none, joint, joint_at}
use Rattle.net_resolve.specs.Walk.{declares, found}

pub first_take : (e : Option GroundExpr) (r : Choices) → one_choice (Take e) r ≡ take e r
first_take e r = ap (λ (f : Choices → Choices). f r) (ap one_choice (sym (rolls-Take e)) ∙ fold-roll-Choice (Choices → Choices) level_choice (Choice-F.Take e))

pub one_take : (e : Option GroundExpr) → choices_of (Take e ∷ []) ≡ take e nothing
one_take e = first_take e nothing

pub one_when : (k : Signal) (t o : List Choice) (r : Choices) → one_choice (When k t o) r ≡ branch k.0 (choices_of t) (choices_of o) r
one_when k t o r = ap (λ (f : Choices → Choices). f r) (ap one_choice (sym (rolls-When k t o)) ∙ fold-roll-Choice (Choices → Choices) level_choice (Choice-F.When k t o))

level_append : (x : Choice-F (Choices → Choices)) (r s : Choices) → level_choice x (append r s) ≡ append (level_choice x r) s
level_append (Choice-F.Take e) r s = refl
level_append (Choice-F.When k t o) r s = refl

abbrev Behind : Choice → Type 0
Behind c = (r s : Choices) → one_choice c (append r s) ≡ append (one_choice c r) s

one_behind : (c : Choice) → Behind c
one_behind = ind-Choice Behind (λ x y is. λ r s.
    subst (λ (f : Choices → Choices). f (append r s) ≡ append (f r) s) (sym (fold-roll-Choice (Choices → Choices) level_choice x))
    (level_append (map-Choice Choice (Choices → Choices) one_choice x) r s))

chain_behind : (cs : List Choice) (s : Choices) → chain (map one_choice cs) s ≡ append (choices_of cs) s
chain_behind [] s = refl
chain_behind (c ∷ cs) s = ap (one_choice c) (chain_behind cs s) ∙ one_behind c (choices_of cs) s

chain_push : (cs : List Choice) (c : Choice) → choices_of (cs ++ c ∷ []) ≡ chain (map one_choice cs) (one_choice c nothing)
chain_push [] c = refl
chain_push (d ∷ cs) c = ap (one_choice d) (chain_push cs c)

pub push_when : (cs : List Choice) (k : Signal) (t o : List Choice) → choices_of (cs ++ When k t o ∷ []) ≡ append (choices_of cs) (branch k.0 (choices_of t) (choices_of o) nothing)
push_when cs k t o = chain_push cs (When k t o) ∙ ap (chain (map one_choice cs)) (one_when k t o nothing) ∙ chain_behind cs _

pub record Fits (f : Option Found) (c : Choices) : Type 0 where
  pub list : choices_of (or_none f).choices ≡ c
  pub flag : (or_none f).full ≡ full c

-- no Declare of q at any depth
abbrev pub Undeclared : ℕ → Body → Type 0
Undeclared q done = Unit {0}
Undeclared q (declare y line reset rest) = (nat_eq q y ≡ false) × Undeclared q rest
Undeclared q (set line y e rest) = Undeclared q rest
Undeclared q (when line c t o rest) = Undeclared q t × Undeclared q o × Undeclared q rest

pub undeclared_here : (q : ℕ) (b : Body) → Undeclared q b → declares q b ≡ false
undeclared_here q done u = refl
undeclared_here q (declare y line reset rest) u = rw u.0 (undeclared_here q rest u.1)
undeclared_here q (set line y e rest) u = undeclared_here q rest u
undeclared_here q (when line c t o rest) u = undeclared_here q rest u.2

abbrev pub some : Option Found → Bool
some None = false
some (Some f) = true

some_joint : (k : ℕ) (t o a : Option Found) → some (joint_at k t o a) ≡ ((some t || some o) || some a)
some_joint k None None a = refl
some_joint k None (Some o) a = refl
some_joint k (Some t) o a = refl

-- something is found exactly where the body sinks q, or something was there
pub found_some : (q n : ℕ) (b : Body) (a : Option Found) → Undeclared q b → some (found q n b a) ≡ (sinks q b || some a)
found_some q n done a u = refl
found_some q n (declare y line reset rest) a u = found_some q n rest a u.1
found_some q n (set line y e rest) a u = found_some q n rest _ u ∙ step (nat_eq q y) (sinks q rest)
  where
    step : (t r : Bool) → (r || some (cond t (Some (record { full = true; choices = Take e ∷ [] })) a)) ≡ ((t || r) || some a)
    step true true = refl
    step true false = refl
    step false r = refl
found_some q n (when line c t o rest) a u =
    found_some q (n + 1 + whens t + whens o) rest _ u.2
    ∙ rw (
      undeclared_here q t u.0,
      undeclared_here q o u.1,
      some_joint n (found q (n + 1) t None) (found q (n + 1 + whens t) o None) a,
      found_some q (n + 1) t None u.0,
      found_some q (n + 1 + whens t) o None u.1,
    )
    (turn (sinks q t) (sinks q o) (sinks q rest) (some a))
  where
    turn : (p r s z : Bool) → (s || (((p || false) || (r || false)) || z)) ≡ (((p || r) || s) || z)
    turn true r true z = refl
    turn true r false z = refl
    turn false true true z = refl
    turn false true false z = refl
    turn false false s z = refl

joint_fits : (k : ℕ) (t o a : Found) (st so acc : Choices) → choices_of t.choices ≡ st → t.full ≡ full st → choices_of o.choices ≡ so → o.full ≡ full so
    → choices_of a.choices ≡ acc → a.full ≡ full acc → Fits (Some (joint k t o a)) (joined acc k st so)
joint_fits k t o a st so acc ct ft co fo ca fa =
    rw (← ft, ← fo) (step (t.full && o.full) refl)
  where
    step : (f : Bool) → (t.full && o.full) ≡ f
        → Fits (Some (cond f (record { full = true; choices = When (record { 0 = k }) t.choices o.choices ∷ [] }) (record { full = a.full; choices = a.choices ++ When (record { 0 = k }) t.choices o.choices ∷ [] })))
        (cond f (branch k st so nothing) (append acc (branch k st so nothing)))
    step true e = record {
      list = one_when (record { 0 = k }) t.choices o.choices nothing ∙ rw (ct, co) refl;
      flag = rw (← ft, ← fo, e) refl;
    }
    step false e = record {
      list = push_when a.choices (record { 0 = k }) t.choices o.choices ∙ rw (ct, co, ca) refl;
      flag = sym (full-append acc (branch k st so nothing) ∙ rw (← ft, ← fo, e) (or_false (full acc)) ∙ sym fa);
    }
      where
        or_false : (z : Bool) → (z || (false || false)) ≡ z
        or_false true = refl
        or_false false = refl

fits_joint : (k : ℕ) (t o a : Option Found) (st so acc : Choices) (u : Bool) → (some t || some o) ≡ u → Fits t st → Fits o so → Fits a acc
    → Fits (joint_at k t o a) (cond u (joined acc k st so) acc)
fits_joint k None None a st so acc u e ht ho ha = rw (← e) ha
fits_joint k None (Some o) a st so acc u e ht ho ha = rw (← e) (joint_fits k (or_none None) o (or_none a) st so acc ht.list ht.flag ho.list ho.flag ha.list ha.flag)
fits_joint k (Some t) o a st so acc u e ht ho ha = rw (← e) (joint_fits k t (or_none o) (or_none a) st so acc ht.list ht.flag ho.list ho.flag ha.list ha.flag)

-- what the walk finds is what is seen
pub found_seen : (q n : ℕ) (b : Body) (a : Option Found) (acc : Choices) → Undeclared q b → Fits a acc → Fits (found q n b a) (seen q n b acc)
found_seen q n done a acc u f = f
found_seen q n (declare y line reset rest) a acc u f = found_seen q n rest a acc u.1 f
found_seen q n (set line y e rest) a acc u f = found_seen q n rest _ _ u (step (nat_eq q y))
  where
    step : (t : Bool) → Fits (cond t (Some (record { full = true; choices = Take e ∷ [] })) a) (cond t (take e nothing) acc)
    step true = record { list = one_take e; flag = refl }
    step false = f
found_seen q n (when line c t o rest) a acc u f =
    found_seen q (n + 1 + whens t + whens o) rest _ _ u.2
    (rw (undeclared_here q t u.0, undeclared_here q o u.1)
    (fits_joint n (found q (n + 1) t None) (found q (n + 1 + whens t) o None) a (seen q (n + 1) t nothing) (seen q (n + 1 + whens t) o nothing) acc (sinks q t || sinks q o)
    (rw (found_some q (n + 1) t None u.0, found_some q (n + 1 + whens t) o None u.1) (both (sinks q t) (sinks q o)))
    (found_seen q (n + 1) t None nothing u.0 (record { list = refl; flag = refl }))
    (found_seen q (n + 1 + whens t) o None nothing u.1 (record { list = refl; flag = refl }))
    f))
  where
    both : (p r : Bool) → ((p || false) || (r || false)) ≡ (p || r)
    both true r = refl
    both false true = refl
    both false false = refl
