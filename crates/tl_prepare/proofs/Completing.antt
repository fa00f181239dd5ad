-- What was executed, put together.
use Rattle.std.proofs.Common.{◌≡◌, ℕ, suc, List, [], ◌∷◌, ◌++◌, Option, Some, None, refl, sym, ap, subst, ◌∙◌, inl, inr, slice_get, slice_set}
use Rattle.tb_base.specs.declared.path.Region.{Region}
use Rattle.tb_base.specs.declared.path.Region.TheVariants.{Main}
use Rattle.tl_threads.specs.Machine.{Did, Go, run}
use Rattle.tl_threads.specs.Machine.Doing.{forks}
use Rattle.tl_code.specs.declared.state.ThreadState.{ThreadState}
use Rattle.tl_code.specs.declared.state.Fetched.{Fetched}
use Rattle.tl_prepare.specs.declared.act.Act.{Act}
use Rattle.tl_prepare.specs.declared.act.Act.TheVariants as act
use Rattle.tl_prepare.specs.declared.runner.Runner.{Runner}
use Rattle.tl_prepare.specs.declared.execute.Executed.{Executed}
use Rattle.tl_prepare.specs.declared.step.Stepped.{Stepped}
use Rattle.tl_prepare.specs.declared.step.Stepped.TheVariants.{Jumped, Went, Acts, Forks, Stuck}
use Rattle.tl_prepare.specs.Steps.{core_of_runner, doing_of, after, Same, OneMore, Children, Named, NamesChild, InSlot}
use Rattle.tl_prepare.specs.Runs.{Read}
use Rattle.tl_prepare.specs.Given.{moved, state_after, newborn, next_child, OfChild, OfSlot, IsNext, most_local, Ran, IsPrepared}

nothing : Go
nothing s = None

one_did : (d e : Did) → ◌≡◌ {A = Option Did} (Some d) (Some e) → d ≡ e
one_did d e i = cc

did_act : Act → Runner → Did
did_act a r = record { doing = doing_of Main a; core = core_of_runner r; child = None }

did_fork : (line begin : ℕ) → Region → Runner → Did
did_fork l begin g r = record { doing = forks l g; core = core_of_runner r; child = Some begin }

next_of_act : (a : Act) (s : ThreadState) (r : Runner) → r.path ≡ s.path → r.handles.items ≡ s.handles → r.forks ≡ s.forks → IsNext s (did_act a r) a (state_after s r a)
unfolding did_act
next_of_act (act.Poke l p raw) s r p1 h1 f1 = record { core = refl; path = p1; region = refl; acts = refl; joined = refl; children = inl (h1, f1) }
next_of_act (act.Peek l p into) s r p1 h1 f1 = record { core = refl; path = p1; region = refl; acts = refl; joined = refl; children = inl (h1, f1) }
next_of_act (act.Expect l p wanted) s r p1 h1 f1 = record { core = refl; path = p1; region = refl; acts = refl; joined = refl; children = inl (h1, f1) }
next_of_act (act.Fork l child) s r p1 h1 f1 = record { core = refl; path = p1; region = refl; acts = refl; joined = refl; children = inl (h1, f1) }
next_of_act (act.Join l child) s r p1 h1 f1 = record { core = refl; path = p1; region = refl; acts = refl; joined = refl; children = inl (h1, f1) }
next_of_act (act.Arrive l n) s r p1 h1 f1 = record { core = refl; path = p1; region = refl; acts = refl; joined = refl; children = inl (h1, f1) }
next_of_act (act.JoinStep l child) s r p1 h1 f1 = record { core = refl; path = p1; region = refl; acts = refl; joined = refl; children = inl (h1, f1) }
next_of_act (act.Spend l) s r p1 h1 f1 = record { core = refl; path = refl; region = refl; acts = refl; joined = refl; children = inl (refl, refl) }
next_of_act act.End s r p1 h1 f1 = record { core = refl; path = refl; region = refl; acts = refl; joined = refl; children = inl (refl, refl) }

child_of_act : (a : Act) (s : ThreadState) (handles : List (Option (List ℕ))) → handles ≡ s.handles → NamesChild handles (Acts a) → OfChild s a
child_of_act (act.Poke l p raw) s hs e n = tt
child_of_act (act.Peek l p into) s hs e n = tt
child_of_act (act.Expect l p wanted) s hs e n = tt
child_of_act (act.Fork l child) s hs e n = absurd n
child_of_act (act.Join l child) s hs e n = subst (λ (hs : List (Option (List ℕ))). Named hs child) e n
child_of_act (act.Arrive l m) s hs e n = tt
child_of_act (act.JoinStep l child) s hs e n = subst (λ (hs : List (Option (List ℕ))). Named hs child) e n
child_of_act (act.Spend l) s hs e n = tt
child_of_act act.End s hs e n = tt

slot_of_act : (a : Act) (s t : ThreadState) (start r : Runner) (fetched : List Fetched) (done : Did) → start.handles.items ≡ s.handles → done ≡ did_act a r → NamesChild start.handles.items (Acts a)
    → InSlot (Read fetched) (Acts a) start r → OfSlot fetched s t done a
unfolding did_act
slot_of_act (act.Poke l p raw) s t start r fetched done eh ed n i = tt
slot_of_act (act.Peek l p into) s t start r fetched done eh ed n i = tt
slot_of_act (act.Expect l p wanted) s t start r fetched done eh ed n i = tt
slot_of_act (act.Fork l child) s t start r fetched done eh ed n i = absurd n
slot_of_act (act.Join l child) s t start r fetched done eh ed n (pc, slot, o, b, e) = (pc, slot, o, ap (λ d. d.core.pc) ed ∙ b, ap (λ hs. slice_get hs slot) (sym eh) ∙ e)
slot_of_act (act.Arrive l m) s t start r fetched done eh ed n i = tt
slot_of_act (act.JoinStep l child) s t start r fetched done eh ed n (pc, slot, o, b, e) = (pc, slot, o, ap (λ d. d.core.pc) ed ∙ b, ap (λ hs. slice_get hs slot) (sym eh) ∙ e)
slot_of_act (act.Spend l) s t start r fetched done eh ed n i = tt
slot_of_act act.End s t start r fetched done eh ed n i = tt

-- an act that is no fork
act_given : (s : ThreadState) (a : Act) (e : Executed) → e.step ≡ Acts a → Ran s e → IsPrepared (record { from = s; act = a; next = state_after s e.run a; child = None; fetched = e.fetched.items })
unfolding did_act
act_given s a e es ran =
    let g = ran.gives in
    let d : g.done ≡ did_act a e.run = sym (one_did (did_act a e.run) g.done (ap (λ q. after q nothing nothing (core_of_runner e.run)) (sym es) ∙ g.stepped nothing nothing)) in
    let m : Same ran.start e.run = subst (λ (q : Stepped). Children q ran.start e.run) es g.children in
    record {
      count = g.count;
      done = g.done;
      once = ran.once;
      under = λ f h. ap (λ c. run f most_local g.count 0 c) (sym ran.core) ∙ g.under f h;
      act = ap (λ d. d.doing) d;
      of_child = child_of_act a s ran.start.handles.items ran.handles (subst (λ (q : Stepped). NamesChild ran.start.handles.items q) es g.child);
      slot = slot_of_act a s (state_after s e.run a) ran.start e.run e.fetched.items g.done ran.handles d (subst (λ (q : Stepped). NamesChild ran.start.handles.items q) es g.child)
          (subst (λ (q : Stepped). InSlot (Read e.fetched.items) q ran.start e.run) es g.slot);
      next = subst (λ (d : Did). IsNext s d a (state_after s e.run a)) (sym d) (next_of_act a s e.run (m.path ∙ ran.path) (m.handles ∙ ran.handles) (m.forks ∙ ran.forks));
      child = ap (λ d. d.child) d;
    }

pub act_prepared : (s from next : ThreadState) (a : Act) (e : Executed) → from ≡ s → e.step ≡ Acts a → next ≡ state_after s e.run a → Ran s e
    → IsPrepared (record { from = from; act = a; next = next; child = None; fetched = e.fetched.items })
act_prepared s from next a e ef es en ran =
    subst (λ (t : ThreadState). IsPrepared (record { from = t; act = a; next = next; child = None; fetched = e.fetched.items })) (sym ef)
    (subst (λ (t : ThreadState). IsPrepared (record { from = s; act = a; next = t; child = None; fetched = e.fetched.items })) (sym en) (act_given s a e es ran))

-- a fork
fork_given : (s : ThreadState) (l begin : ℕ) (g : Region) (child : List ℕ) (e : Executed) → e.step ≡ Forks l g begin child → Ran s e
    → IsPrepared (record { from = s; act = act.Fork l child; next = moved s e.run None; child = Some (newborn (moved s e.run None) child g begin); fetched = e.fetched.items })
unfolding did_fork
fork_given s l begin g child e es ran =
    let v = ran.gives in
    let d : v.done ≡ did_fork l begin g e.run = sym (one_did (did_fork l begin g e.run) v.done (ap (λ q. after q nothing nothing (core_of_runner e.run)) (sym es) ∙ v.stepped nothing nothing)) in
    let m : OneMore child ran.start e.run = subst (λ (q : Stepped). Children q ran.start e.run) es v.children in
    let q : InSlot (Read e.fetched.items) (Forks l g begin child) ran.start e.run = subst (λ (q : Stepped). InSlot (Read e.fetched.items) q ran.start e.run) es v.slot in
    let c : child ≡ next_child s = m.named ∙ ap (λ p. p ++ ran.start.forks ∷ []) ran.path ∙ ap (λ n. s.path ++ n ∷ []) ran.forks in
    let h : e.run.handles.items ≡ slice_set s.handles m.slot (Some (next_child s)) =
    m.handles ∙ ap (λ hs. slice_set hs m.slot (Some (ran.start.path ++ ran.start.forks ∷ []))) ran.handles ∙ ap (λ p. slice_set s.handles m.slot (Some (p ++ ran.start.forks ∷ []))) ran.path
    ∙ ap (λ n. slice_set s.handles m.slot (Some (s.path ++ n ∷ []))) ran.forks in
    record {
      count = v.count;
      done = v.done;
      once = ran.once;
      under = λ f h. ap (λ c. run f most_local v.count 0 c) (sym ran.core) ∙ v.under f h;
      act = ap (λ d. d.doing) d;
      of_child = c;
      slot = (q.0, q.1, g, q.2, q.3, ap (λ d. d.child) d ∙ ap Some q.4, q.5 ∙ ap (λ hs. slice_set hs q.1 (Some child)) ran.handles);
      next = subst (λ (d : Did). IsNext s d (act.Fork l child) (moved s e.run None)) (sym d)
          (record { core = refl; path = m.path ∙ ran.path; region = refl; acts = refl; joined = refl; children = inr (m.slot, h, m.forks ∙ ap (λ n. suc n) ran.forks) });
      child = (begin, ap (λ d. d.child) d, ap (λ p. newborn (moved s e.run None) p g begin) c);
    }

pub fork_prepared : (s from next begins : ThreadState) (l begin : ℕ) (g : Region) (child : List ℕ) (e : Executed) → from ≡ s → e.step ≡ Forks l g begin child → next ≡ moved s e.run None
    → begins ≡ newborn next child g begin → Ran s e
    → IsPrepared (record { from = from; act = act.Fork l child; next = next; child = Some begins; fetched = e.fetched.items })
fork_prepared s from next begins l begin g child e ef es en eb ran =
    subst (λ (t : ThreadState). IsPrepared (record { from = t; act = act.Fork l child; next = next; child = Some begins; fetched = e.fetched.items })) (sym ef)
    (subst (λ (t : ThreadState). IsPrepared (record { from = s; act = act.Fork l child; next = next; child = Some t; fetched = e.fetched.items })) (sym eb)
    (subst (λ (t : ThreadState). IsPrepared (record { from = s; act = act.Fork l child; next = t; child = Some (newborn t child g begin); fetched = e.fetched.items })) (sym en) (fork_given s l begin g child e es ran)))

-- something was done
pub no_jump : (s : ThreadState) (e : Executed) → e.step ≡ Jumped → Ran s e → ⊥
unfolding nothing
no_jump s e es ran = let x : None ≡ Some ran.gives.done = ap (λ q. after q nothing nothing (core_of_runner e.run)) (sym es) ∙ ran.gives.stepped nothing nothing in absurd (cc)

pub no_local : (s : ThreadState) (e : Executed) → e.step ≡ Went → Ran s e → ⊥
unfolding nothing
no_local s e es ran = let x : None ≡ Some ran.gives.done = ap (λ q. after q nothing nothing (core_of_runner e.run)) (sym es) ∙ ran.gives.stepped nothing nothing in absurd (cc)

pub no_end : (s : ThreadState) (e : Executed) → e.step ≡ Stuck → Ran s e → ⊥
no_end s e es ran = let x : None ≡ Some ran.gives.done = ap (λ q. after q nothing nothing (core_of_runner e.run)) (sym es) ∙ ran.gives.stepped nothing nothing in absurd (cc)
