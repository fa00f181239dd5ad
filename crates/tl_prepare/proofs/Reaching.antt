-- How far the machine has come.
use Rattle.std.proofs.Common.{◌≡◌, ℕ, zero, suc, ◌+◌, ◌<◌, ◌≤◌, List, [], ◌∷◌, ◌++◌, length, Bool, nat_le, Option, Some, None, refl, sym, ap, subst, ◌∙◌, arith, slice_get, slice_set}
use Rattle.std.proofs.lemmas.Bool.{leb-false}
use Rattle.tb_base.specs.declared.path.Region.{Region}
use Rattle.tb_base.specs.declared.path.Region.TheVariants.{Main}
use Rattle.tl_threads.specs.Machine.Doing.{forks}
use Rattle.tl_threads.specs.declared.code.Instr.{Instr}
use Rattle.tl_threads.specs.declared.code.Instr.TheVariants as instr
use Rattle.tl_threads.specs.declared.code.Placed.{Placed}
use Rattle.tl_threads.specs.Machine.{Core, Did, Code, Go, step, run}
use Rattle.tl_threads.specs.Stands.{instr_of}
use Rattle.tl_code.specs.declared.state.Fetched.{Fetched}
use Rattle.tl_prepare.specs.declared.act.Act.{Act}
use Rattle.tl_prepare.specs.declared.act.Act.TheVariants as act
use Rattle.tl_prepare.specs.declared.runner.Runner.{Runner}
use Rattle.tl_prepare.specs.declared.execute.Executed.{Executed}
use Rattle.tl_prepare.specs.declared.step.Stepped.{Stepped}
use Rattle.tl_prepare.specs.declared.step.Stepped.TheVariants.{Jumped, Went, Acts, Forks, Stuck}
use Rattle.tl_prepare.specs.Steps.{core_of_runner, doing_of, after, Same, OneMore, Children, NamesChild, InSlot, IsAt, IsStep, IsFork}
use Rattle.tl_prepare.specs.Runs.{code_at, HoldsAll, Read, NotesMore, Works, Gives}

-- what the loop keeps
pub record Reaches (limit : ℕ) (code : List Placed) (start : Runner) (used : ℕ) (at : Runner) (fetched : List Fetched) : Type 0 where
  pub count : ℕ
  pub same : (f : Code) → HoldsAll f fetched → (n : ℕ) → run f limit (count + n) 0 (core_of_runner start) ≡ run f limit n used (core_of_runner at)
  pub bound : used ≤ limit
  pub held : HoldsAll (code_at code) fetched
  pub children : Same start at
  pub works : Works limit (code_at code) used start.path (core_of_runner at)

same_self : (r : Runner) → Same r r
same_self r = record { path = refl; handles = refl; forks = refl }

same_trans : (a b c : Runner) → Same a b → Same b c → Same a c
same_trans a b c x y = record { path = y.path ∙ x.path; handles = y.handles ∙ x.handles; forks = y.forks ∙ x.forks }

pub reaches_start : (limit : ℕ) (code : List Placed) (start : Runner) (fetched : List Fetched) → fetched ≡ [] → Works limit (code_at code) 0 start.path (core_of_runner start)
    → Reaches limit code start 0 start fetched
reaches_start limit code start fetched e w = subst (λ (l : List Fetched). Reaches limit code start 0 start l) (sym e) (record {
  count = 0;
  same = λ f h n. let z : 0 + n ≡ n = omega arith in ap (λ m. run f limit m 0 (core_of_runner start)) z;
  bound = omega arith;
  held = tt;
  children = same_self start;
  works = w;
})

-- one instruction on
next_same : (limit : ℕ) (start : Runner) (used used' : ℕ) (at at' : Runner) (old new : List Fetched) (i : Instr) (count : ℕ)
    → ((f : Code) → HoldsAll f old → (n : ℕ) → run f limit (count + n) 0 (core_of_runner start) ≡ run f limit n used (core_of_runner at)) → NotesMore old new at.pc i
    → ((f : Code) (n : ℕ) → step (nat_le limit used) (λ t. run f limit n used t) (λ t. run f limit n (suc used) t) (core_of_runner at) (Some i) ≡ run f limit n used' (core_of_runner at'))
    → (f : Code) → HoldsAll f new → (n : ℕ) → run f limit (suc count + n) 0 (core_of_runner start) ≡ run f limit n used' (core_of_runner at')
next_same limit start used used' at at' old new i count same notes st f h n =
    let both = (notes f).0 h in
    let m : suc count + n ≡ count + suc n = omega arith in
    ap (λ k. run f limit k 0 (core_of_runner start)) m ∙ same f both.0 (suc n)
    ∙ ap (λ o. step (nat_le limit used) (λ t. run f limit n used t) (λ t. run f limit n (suc used) t) (core_of_runner at) o) both.1
    ∙ st f n

-- it isn't stuck where it has come
pub no_place : (f : Code) (limit n used : ℕ) (at : Runner) (d : Did) → run f limit n used (core_of_runner at) ≡ Some d → f at.pc ≡ None → ⊥
no_place f limit zero used at d e o = absurd (cc)
no_place f limit (suc n) used at d e o =
    let x : None ≡ Some d = sym (ap (λ o. step (nat_le limit used) (λ t. run f limit n used t) (λ t. run f limit n (suc used) t) (core_of_runner at) o) o) ∙ e in
    absurd (cc)

works_on : (f : Code) (limit n used used' : ℕ) (path : List ℕ) (at at' : Runner) (i : Instr) (d : Did) → run f limit n used (core_of_runner at) ≡ Some d
    → ((begin : ℕ) → d.child ≡ Some begin → length path < 8) → f at.pc ≡ Some i
    → ((n : ℕ) → step (nat_le limit used) (λ t. run f limit n used t) (λ t. run f limit n (suc used) t) (core_of_runner at) (Some i) ≡ run f limit n used' (core_of_runner at'))
    → Works limit f used' path (core_of_runner at')
works_on f limit zero used used' path at at' i d e r h st = absurd (cc)
works_on f limit (suc n) used used' path at at' i d e r h st = record {
  count = n;
  done = d;
  ran = sym (st n) ∙ sym (ap (λ o. step (nat_le limit used) (λ t. run f limit n used t) (λ t. run f limit n (suc used) t) (core_of_runner at) o) h) ∙ e;
  room = r;
}

not_stuck : (f : Code) (limit n used : ℕ) (at : Runner) (i : Instr) (d : Did) → run f limit n used (core_of_runner at) ≡ Some d → f at.pc ≡ Some i
    → ((j g : Go) → step (nat_le limit used) j g (core_of_runner at) (Some i) ≡ None) → ⊥
not_stuck f limit zero used at i d e h st = absurd (cc)
not_stuck f limit (suc n) used at i d e h st =
    let x : None ≡ Some d = sym (st (λ t. run f limit n used t) (λ t. run f limit n (suc used) t)) ∙ sym (ap (λ o. step (nat_le limit used) (λ t. run f limit n used t) (λ t. run f limit n (suc used) t) (core_of_runner at) o) h) ∙ e in
    absurd (cc)

-- a fork has room for its child's number
one_did : (d e : Did) → ◌≡◌ {A = Option Did} (Some d) (Some e) → d ≡ e
one_did d e i = cc

forks_step : (full : Bool) (j g : Go) (s : Core) (i : Instr) (d : Did) → IsFork i → step full j g s (Some i) ≡ Some d → d.child ≡ Some (suc s.pc)
forks_step full j g s (instr.Fork l r slot to) d k e = ap (λ d. d.child) (sym (one_did _ d e))
forks_step full j g s (instr.Poke l p o) d k e = absurd k
forks_step full j g s (instr.Peek l p o) d k e = absurd k
forks_step full j g s (instr.Expect l p o) d k e = absurd k
forks_step full j g s (instr.Step l n) d k e = absurd k
forks_step full j g s (instr.Store l n o) d k e = absurd k
forks_step full j g s (instr.Unless l o to) d k e = absurd k
forks_step full j g s (instr.Goto to) d k e = absurd k
forks_step full j g s (instr.Enter l o to) d k e = absurd k
forks_step full j g s (instr.Turn l o to) d k e = absurd k
forks_step full j g s (instr.Count l o to) d k e = absurd k
forks_step full j g s (instr.Again l to) d k e = absurd k
forks_step full j g s (instr.Join l n) d k e = absurd k
forks_step full j g s (instr.JoinStep l n) d k e = absurd k
forks_step full j g s instr.End d k e = absurd k

forks_room : (f : Code) (limit n used : ℕ) (path : List ℕ) (at : Runner) (i : Instr) (d : Did) → run f limit n used (core_of_runner at) ≡ Some d
    → ((begin : ℕ) → d.child ≡ Some begin → length path < 8) → f at.pc ≡ Some i → IsFork i → length path < 8
forks_room f limit zero used path at i d e r h k = absurd (cc)
forks_room f limit (suc n) used path at i d e r h k =
    r (suc at.pc) (forks_step (nat_le limit used) (λ t. run f limit n used t) (λ t. run f limit n (suc used) t) (core_of_runner at) i d k
    (sym (ap (λ o. step (nat_le limit used) (λ t. run f limit n used t) (λ t. run f limit n (suc used) t) (core_of_runner at) o) h) ∙ e))

pub room_here : (limit : ℕ) (code : List Placed) (start : Runner) (used : ℕ) (at : Runner) (fetched : List Fetched) (i : Instr) → Reaches limit code start used at fetched → code_at code at.pc ≡ Some i
    → IsFork i → length at.path < 8
room_here limit code start used at fetched i w h k =
    subst (λ (p : List ℕ). length p < 8) (sym w.children.path) (forks_room (code_at code) limit w.works.count used start.path at i w.works.done w.works.ran w.works.room h k)

-- ---- each way in which an instruction goes on
module _ (limit : ℕ) (code : List Placed) (start : Runner) (used : ℕ) (at at' : Runner) (old new : List Fetched) (x : Instr) (r : Stepped) (w : Reaches limit code start used at old) (placed_here : code_at code at.pc ≡ Some x) (notes : NotesMore old new at.pc x) (st : IsStep (nat_le limit used) at x r at') where
  pub noted : HoldsAll (code_at code) new
  noted = (notes (code_at code)).1 (w.held, placed_here)

  pub reaches_jump : r ≡ Jumped → Reaches limit code start used at' new
  reaches_jump e =
      let s : (f : Code) (n : ℕ) → step (nat_le limit used) (λ t. run f limit n used t) (λ t. run f limit n (suc used) t) (core_of_runner at) (Some x) ≡ run f limit n used (core_of_runner at') =
      λ f n. st.same (λ t. run f limit n used t) (λ t. run f limit n (suc used) t) ∙ ap (λ q. after q (λ t. run f limit n used t) (λ t. run f limit n (suc used) t) (core_of_runner at')) e in
      record {
        count = suc w.count;
        same = next_same limit start used used at at' old new x w.count w.same notes s;
        bound = w.bound;
        held = noted;
        children = same_trans start at at' w.children (subst (λ (q : Stepped). Children q at at') e st.children);
        works = works_on (code_at code) limit w.works.count used used start.path at at' x w.works.done w.works.ran w.works.room placed_here (s (code_at code));
      }

  pub reaches_went : r ≡ Went → Reaches limit code start (used + 1) at' new
  reaches_went e =
      let s : (f : Code) (n : ℕ) → step (nat_le limit used) (λ t. run f limit n used t) (λ t. run f limit n (suc used) t) (core_of_runner at) (Some x) ≡ run f limit n (suc used) (core_of_runner at') =
      λ f n. st.same (λ t. run f limit n used t) (λ t. run f limit n (suc used) t) ∙ ap (λ q. after q (λ t. run f limit n used t) (λ t. run f limit n (suc used) t) (core_of_runner at')) e in
      let lt : used < limit = leb-false limit used (st.counted e) in
      let one : suc used ≡ used + 1 = omega arith in
      subst (λ u. Reaches limit code start u at' new) one (record {
        count = suc w.count;
        same = next_same limit start used (suc used) at at' old new x w.count w.same notes s;
        bound = lt;
        held = noted;
        children = same_trans start at at' w.children (subst (λ (q : Stepped). Children q at at') e st.children);
        works = works_on (code_at code) limit w.works.count used (suc used) start.path at at' x w.works.done w.works.ran w.works.room placed_here (s (code_at code));
      })

  pub never_stuck : r ≡ Stuck → ⊥
  never_stuck e = not_stuck (code_at code) limit w.works.count used at x w.works.done w.works.ran placed_here (λ j g. st.same j g ∙ ap (λ q. after q j g (core_of_runner at')) e)

  did_under : (q : Stepped) (d : Did) → r ≡ q → ((jump go : Go) → after q jump go (core_of_runner at') ≡ Some d) → (f : Code) → HoldsAll f new → run f limit (w.count + 1) 0 (core_of_runner start) ≡ Some d
  did_under q d e a f h =
      let both = (notes f).0 h in
      w.same f both.0 1
      ∙ ap (λ o. step (nat_le limit used) (λ t. run f limit 0 used t) (λ t. run f limit 0 (suc used) t) (core_of_runner at) o) both.1
      ∙ st.same (λ t. run f limit 0 used t) (λ t. run f limit 0 (suc used) t)
      ∙ ap (λ q. after q (λ t. run f limit 0 used t) (λ t. run f limit 0 (suc used) t) (core_of_runner at')) e
      ∙ a (λ t. run f limit 0 used t) (λ t. run f limit 0 (suc used) t)

  act_same : (a : Act) → r ≡ Acts a → Same start at'
  act_same a e = same_trans start at at' w.children (subst (λ (q : Stepped). Children q at at') e st.children)

  act_child : (q : Stepped) → r ≡ q → NamesChild start.handles.items q
  act_child q e = subst (λ (q : Stepped). NamesChild start.handles.items q) e (subst (λ (hs : List (Option (List ℕ))). NamesChild hs r) w.children.handles st.child)

  read_here : (q : ℕ) (j : Instr) → IsAt at.pc x q j → Read new q j
  read_here q j o f h = ap f o.0 ∙ ((notes f).0 h).1 ∙ ap Some (sym o.1)

  slot_there : (slot : ℕ) (child : List ℕ) → slice_get at.handles.items slot ≡ Some (Some child) → slice_get start.handles.items slot ≡ Some (Some child)
  slot_there slot child e = ap (λ hs. slice_get hs slot) (sym w.children.handles) ∙ e

  in_start : (q : Stepped) → InSlot (IsAt at.pc x) q at at' → InSlot (Read new) q start at'
  in_start (Forks l g begin child) (pc, slot, to, o, b, hs) = (pc, slot, to, read_here pc (instr.Fork l g slot to) o, b, hs ∙ ap (λ hs. slice_set hs slot (Some child)) w.children.handles)
  in_start (Acts (act.Join l child)) (pc, slot, o, b, e) = (pc, slot, read_here pc (instr.Join l slot) o, b, slot_there slot child e)
  in_start (Acts (act.JoinStep l child)) (pc, slot, o, b, e) = (pc, slot, read_here pc (instr.JoinStep l slot) o, b, slot_there slot child e)
  in_start (Acts (act.Poke l p raw)) i = tt
  in_start (Acts (act.Peek l p into)) i = tt
  in_start (Acts (act.Expect l p wanted)) i = tt
  in_start (Acts (act.Fork l child)) i = tt
  in_start (Acts (act.Arrive l m)) i = tt
  in_start (Acts (act.Spend l)) i = tt
  in_start (Acts act.End) i = tt
  in_start Jumped i = tt
  in_start Went i = tt
  in_start Stuck i = tt

  gives_slot : (q : Stepped) (e : Executed) → r ≡ q → e.run ≡ at' → e.step ≡ q → e.fetched.items ≡ new → InSlot (Read e.fetched.items) e.step start e.run
  gives_slot q e ea er es ef =
      subst (λ (l : List Fetched). InSlot (Read l) e.step start e.run) (sym ef)
      (subst (λ (v : Runner). InSlot (Read new) e.step start v) (sym er)
      (subst (λ (p : Stepped). InSlot (Read new) p start at') (sym es)
      (in_start q (subst (λ (p : Stepped). InSlot (IsAt at.pc x) p at at') ea st.slot))))

  pub gives_act : (a : Act) (e : Executed) → r ≡ Acts a → e.run ≡ at' → e.step ≡ Acts a → e.fetched.items ≡ new → Gives limit start e
  gives_act a e ea er es ef =
      record {
        count = w.count + 1;
        done = record { doing = doing_of Main a; core = core_of_runner at'; child = None };
        under = λ f h. did_under (Acts a) (record { doing = doing_of Main a; core = core_of_runner at'; child = None }) ea (λ jump go. refl) f (subst (λ (l : List Fetched). HoldsAll f l) ef h);
        stepped = λ jump go. ap (λ q. after q jump go (core_of_runner e.run)) es ∙ ap (λ v. after (Acts a) jump go (core_of_runner v)) er;
        children = subst (λ (q : Stepped). Children q start e.run) (sym es) (subst (λ (v : Runner). Same start v) (sym er) (act_same a ea));
        child = subst (λ (q : Stepped). NamesChild start.handles.items q) (sym es) (act_child (Acts a) ea);
        slot = gives_slot (Acts a) e ea er es ef;
      }

  fork_more : (l begin : ℕ) (g : Region) (child : List ℕ) → r ≡ Forks l g begin child → OneMore child start at'
  fork_more l begin g child e =
      let m : OneMore child at at' = subst (λ (q : Stepped). Children q at at') e st.children in
      record {
        slot = m.slot;
        path = m.path ∙ w.children.path;
        handles = m.handles ∙ ap (λ hs. slice_set hs m.slot (Some (at.path ++ at.forks ∷ []))) w.children.handles ∙ ap (λ p. slice_set start.handles.items m.slot (Some (p ++ at.forks ∷ []))) w.children.path
            ∙ ap (λ n. slice_set start.handles.items m.slot (Some (start.path ++ n ∷ []))) w.children.forks;
        forks = m.forks ∙ ap (λ n. suc n) w.children.forks;
        named = m.named ∙ ap (λ p. p ++ at.forks ∷ []) w.children.path ∙ ap (λ n. start.path ++ n ∷ []) w.children.forks;
      }

  pub gives_fork : (l begin : ℕ) (g : Region) (child : List ℕ) (e : Executed) → r ≡ Forks l g begin child → e.run ≡ at' → e.step ≡ Forks l g begin child → e.fetched.items ≡ new → Gives limit start e
  gives_fork l begin g child e ea er es ef = record {
    count = w.count + 1;
    done = record { doing = forks l g; core = core_of_runner at'; child = Some begin };
    under = λ f h. did_under (Forks l g begin child) (record { doing = forks l g; core = core_of_runner at'; child = Some begin }) ea (λ jump go. refl) f (subst (λ (l : List Fetched). HoldsAll f l) ef h);
    stepped = λ jump go. ap (λ q. after q jump go (core_of_runner e.run)) es ∙ ap (λ v. after (Forks l g begin child) jump go (core_of_runner v)) er;
    children = subst (λ (q : Stepped). Children q start e.run) (sym es) (subst (λ (v : Runner). OneMore child start v) (sym er) (fork_more l begin g child ea));
    child = subst (λ (q : Stepped). NamesChild start.handles.items q) (sym es) (act_child (Forks l g begin child) ea);
    slot = gives_slot (Forks l g begin child) e ea er es ef;
  }

-- what is placed where the thread stands
pub placed_is : (code : List Placed) (pc : ℕ) (x : Placed) → Some x ≡ slice_get code pc → code_at code pc ≡ Some x.instr
placed_is code pc x e = ap instr_of (sym e)

pub nothing_placed : (code : List Placed) (pc : ℕ) → None ≡ slice_get code pc → code_at code pc ≡ None
nothing_placed code pc e = ap instr_of (sym e)
