-- The children that states name.
use Rattle.std.proofs.Common.{◌≡◌, ◌⊎◌, ℕ, zero, suc, ◌≤◌, List, [], ◌∷◌, ◌++◌, length, Option, Some, None, sym, ap, subst, ◌∙◌, inl, inr, ⊎_elim, arith, slice_get, slice_set}
use Rattle.std.specs.Prelude.{replicate}
use Rattle.tl_code.specs.declared.state.ThreadState.{ThreadState}
use Rattle.tl_code.specs.Codes.{IsChild, IsJoined, OwnChildren}
use Rattle.tl_prepare.specs.declared.act.Act.{Act}
use Rattle.tl_prepare.specs.declared.act.Act.TheVariants as act
use Rattle.tl_prepare.specs.Given.{joined_by, newborn, next_child, OfChild, ChildrenAfter, IsBorn}
use Rattle.tl_prepare.specs.Laws.{ChildrenStayOwn}

-- a slot that was written has what it had or what was written
pub set_or : (hs : List (Option (List ℕ))) (slot k : ℕ) (x : Option (List ℕ)) (child : List ℕ) → slice_get (slice_set hs slot x) k ≡ Some (Some child)
    → (slice_get hs k ≡ Some (Some child)) ⊎ (x ≡ Some child)
set_or [] slot k x child e = absurd (cc)
set_or (h ∷ hs) zero zero x child e = inr (let d : x ≡ Some child = cc in d)
set_or (h ∷ hs) zero (suc k) x child e = inl e
set_or (h ∷ hs) (suc slot) zero x child e = inl e
set_or (h ∷ hs) (suc slot) (suc k) x child e = set_or hs slot k x child e

-- a child stays one
pub stays_child : (s t : ThreadState) (child : List ℕ) → t.path ≡ s.path → s.forks ≤ t.forks → IsChild s child → IsChild t child
stays_child s t child ep le c = (c.0, omega (arith, c.1), c.2 ∙ ap (λ p. p ++ c.0 ∷ []) (sym ep))

pub more_forks : (s t : ThreadState) → ChildrenAfter s t → s.forks ≤ t.forks
more_forks s t c = ⊎_elim (λ n. omega (arith, n.1)) (λ o. omega (arith, o.2)) c

next_owns : (s t : ThreadState) → t.path ≡ s.path → ChildrenAfter s t → OwnChildren s → OwnChildren t
next_owns s t ep c own k child e =
    ⊎_elim
    (λ n. stays_child s t child ep (more_forks s t c) (own k child (sym (ap (λ hs. slice_get hs k) n.0) ∙ e)))
    (λ o. ⊎_elim
    (λ d. stays_child s t child ep (more_forks s t c) (own k child d))
    (λ d. let x : next_child s ≡ child = cc in (s.forks, omega (arith, o.2), sym x ∙ ap (λ p. p ++ s.forks ∷ []) (sym ep)))
    (set_or s.handles o.0 k (Some (next_child s)) child (sym (ap (λ hs. slice_get hs k) o.1) ∙ e)))
    c

joined_own : (s t : ThreadState) (a : Act) → t.path ≡ s.path → s.forks ≤ t.forks → OwnChildren s → OfChild s a → IsJoined t (joined_by a)
joined_own s t (act.Poke l p raw) ep le own n = tt
joined_own s t (act.Peek l p into) ep le own n = tt
joined_own s t (act.Expect l p wanted) ep le own n = tt
joined_own s t (act.Fork l child) ep le own n = tt
joined_own s t (act.Join l child) ep le own n = stays_child s t child ep le (own n.0 child n.1)
joined_own s t (act.Arrive l m) ep le own n = tt
joined_own s t (act.JoinStep l child) ep le own n = tt
joined_own s t (act.Spend l) ep le own n = tt
joined_own s t act.End ep le own n = tt

none_there : (n k : ℕ) (child : List ℕ) → slice_get (replicate n None) k ≡ Some (Some child) → ⊥
none_there zero k child e = absurd (cc)
none_there (suc n) zero child e = absurd (cc)
none_there (suc n) (suc k) child e = none_there n k child e

newborn_owns : (s next child : ThreadState) (begin : Option ℕ) (o : Option ThreadState) → IsBorn s next begin o → o ≡ Some child → OwnChildren child × IsJoined child child.joined
newborn_owns s next child begin None b e = absurd (cc)
newborn_owns s next child begin (Some c) b e =
    let d : c ≡ child = cc in
    let i : child ≡ newborn next (next_child s) c.region b.0 = sym d ∙ b.2 in
    subst (λ (x : ThreadState). OwnChildren x × IsJoined x x.joined) (sym i) ((λ k ch g. absurd (none_there (length next.handles) k ch g)), tt)

pub children_own : ChildrenStayOwn
children_own w p own =
    let n = p.next in (
      next_owns w.from w.next n.path n.children own,
      subst (λ (o : Option (List ℕ)). IsJoined w.next o) (sym n.joined) (joined_own w.from w.next w.act n.path (more_forks w.from w.next n.children) own p.of_child),
      λ child e. newborn_owns w.from w.next child p.done.child w.child p.child e,
    )
