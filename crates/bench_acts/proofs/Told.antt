-- What an act shows, and what is observed.
use Rattle.std.proofs.Common.{◌≡◌, ℕ, [], ◌∷◌, length, map, Bool, true, false, cond, nat_eq, Option, Some, None, option_map, refl, sym, ap, ◌∙◌}
use Rattle.std.specs.Option.{option_to_list}
use Rattle.tb_base.specs.declared.path.Region.{Region}
use Rattle.tb_base.specs.declared.path.Region.TheVariants.{Main, Monitor}
use Rattle.net_core.specs.declared.ports.Signal.{Signal}
use Rattle.bench_model.specs.Paths.{Path, child}
use Rattle.bench_model.specs.Log as log
use Rattle.bench_model.specs.World as m
use Rattle.tl_threads.specs.Threads.{Inner, region_number}
use Rattle.tl_threads.specs.Machine.{Did}
use Rattle.tl_threads.specs.Stands.{Fulfils}
use Rattle.tl_code.specs.declared.state.ThreadState.{ThreadState}
use Rattle.tl_code.specs.Compiled.{Compiled}
use Rattle.tl_code.specs.Codes.{places, child_number}
use Rattle.tl_prepare.specs.declared.act.Act.{Act}
use Rattle.tl_prepare.specs.declared.act.Act.TheVariants as act
use Rattle.tl_prepare.specs.Steps.{doing_of}
use Rattle.tl_prepare.specs.Given.{next_child, region_of, OfChild, IsBorn}
use Rattle.order_rel.specs.Logs as told
use Rattle.order_rel.specs.Logs.{event_told, kind_told}
use Rattle.bench_acts.specs.Events.{event_of, line_of, kind_of}
use Rattle.bench_run.specs.Told.{record_told}
use Rattle.bench_acts.specs.Observations.{seen, observed}
use Rattle.bench_acts.specs.Laws.{ActTold}
use Rattle.bench_acts.proofs.Moves.{as_move}
use Rattle.bench_acts.proofs.Entries.{Before, own_child, next_path}

-- the two numberings of regions are one
one_number : (r : Region) → told.region_number r ≡ region_number r
one_number Main = refl
one_number Monitor = refl

module _ (c : Compiled) (s n : ThreadState) (d : Did) (t : m.Thread Inner) (b : Before c s t) (go : ℕ → Inner) (bi : Inner) where
  -- ---- the event

  event_with : (region : ℕ) (joined : Option Path) (line : ℕ) → log.Kind → log.Event
  event_with region joined line kind = record { path = s.path; region = region; joined = joined; line = line; kind = kind }

  line_same : (g : Region) (a : Act) → line_of a ≡ m.line_of (as_move (doing_of g a) go bi)
  line_same g (act.Poke l p raw) = refl
  line_same g (act.Peek l p into) = refl
  line_same g (act.Expect l p wanted) = refl
  line_same g (act.Fork l ch) = refl
  line_same g (act.Join l ch) = refl
  line_same g (act.Arrive l edges) = refl
  line_same g (act.JoinStep l ch) = refl
  line_same g (act.Spend l) = refl
  line_same g act.End = refl

  kind_same : (g : Region) (a : Act) → OfChild s a → kind_told (kind_of a) ≡ m.kind_of s.path t (as_move (doing_of g a) go bi)
  kind_same g (act.Poke l p raw) of = refl
  kind_same g (act.Peek l p into) of = refl
  kind_same g (act.Expect l p wanted) of = refl
  kind_same g (act.Fork l ch) of = ap log.Kind.forks (of ∙ next_path c s n d t b)
  kind_same g (act.Join l ch) of = ap log.Kind.joins (own_child s ch (b.children of.0 ch of.1))
  kind_same g (act.Arrive l edges) of = refl
  kind_same g (act.JoinStep l ch) of = ap log.Kind.joinsteps (own_child s ch (b.children of.0 ch of.1))
  kind_same g (act.Spend l) of = refl
  kind_same g act.End of = refl

  pub event_same : (g : Region) (a : Act) → OfChild s a → event_told (event_of s a) ≡ m.event_of s.path t (as_move (doing_of g a) go bi)
  unfolding event_with
  event_same g a of =
      ap (λ r. event_with r s.joined (line_of a) (kind_told (kind_of a))) (one_number s.region ∙ b.region)
      ∙ ap (λ j. event_with t.region j (line_of a) (kind_told (kind_of a))) b.joined
      ∙ ap (λ l. event_with t.region (option_map (λ k. child s.path k) t.joined) l (kind_told (kind_of a))) (line_same g a)
      ∙ ap (event_with t.region (option_map (λ k. child s.path k) t.joined) (m.line_of (as_move (doing_of g a) go bi))) (kind_same g a of)

  -- ---- what is observed

  record_with : (time line signal x : ℕ) → Option ℕ → (region place : ℕ) → m.Record
  record_with time line signal x wanted region place =
      record { time = time; region = region; path = s.path; place = place; line = line; signal = signal; value = x; wanted = wanted }

  seen_told : (time l : ℕ) (p : Signal) (x : ℕ) (wanted : Option ℕ) → record_told (seen time s l p x wanted) ≡ m.record_of time s.path t l p.0 x wanted
  unfolding record_with
  seen_told time l p x wanted =
      ap (λ r. record_with time l p.0 x wanted r s.acts) (one_number s.region ∙ b.region) ∙ ap (record_with time l p.0 x wanted t.region) b.acts

  fails_told : (time l : ℕ) (p : Signal) (x wanted : ℕ) (same : Bool)
      → map record_told (option_to_list (cond same None (Some (seen time s l p x (Some wanted))))) ≡ cond same [] (m.record_of time s.path t l p.0 x (Some wanted) ∷ [])
  fails_told time l p x wanted true = refl
  fails_told time l p x wanted false = ap (λ r. r ∷ []) (seen_told time l p x (Some wanted))

  pub observed_told : (g : Region) (a : Act) (time x : ℕ) → map record_told (option_to_list (observed time s a x)) ≡ m.recorded time s.path t (as_move (doing_of g a) go bi) x
  observed_told g (act.Poke l p raw) time x = refl
  observed_told g (act.Peek l p None) time x = ap (λ r. r ∷ []) (seen_told time l p x None)
  observed_told g (act.Peek l p (Some slot)) time x = refl
  observed_told g (act.Expect l p wanted) time x = fails_told time l p x wanted (nat_eq x wanted)
  observed_told g (act.Fork l ch) time x = refl
  observed_told g (act.Join l ch) time x = refl
  observed_told g (act.Arrive l edges) time x = refl
  observed_told g (act.JoinStep l ch) time x = refl
  observed_told g (act.Spend l) time x = refl
  observed_told g act.End time x = refl

  -- ---- the act

  -- where the machine begins no child, none begins
  none_begins : (o : Option ThreadState) → d.child ≡ None → IsBorn s n d.child o → o ≡ None
  none_begins None e is = refl
  none_begins (Some cs) e is = let z : None ≡ Some is.0 = sym e ∙ is.1 in absurd (cc)

  fork_told : (l : ℕ) (ch : Path) (o : Option ThreadState) → OfChild s (act.Fork l ch) → IsBorn s n d.child o
      → Fulfils c.variables c.handles (places c) (length s.path) s.region d (as_move (doing_of (region_of o) (act.Fork l ch)) go bi)
      → ActTold s.path (length t.forked) (act.Fork l ch) o (as_move (doing_of (region_of o) (act.Fork l ch)) go bi)
  fork_told l ch None of is f = let z : None ≡ Some f.pc = sym is ∙ f.child in absurd (cc)
  fork_told l ch (Some cs) of is f =
      let path : cs.path ≡ next_child s = ap (λ (u : ThreadState). u.path) is.2 in
      (cs, refl, of ∙ next_path c s n d t b, path ∙ next_path c s n d t b, bi, go 0, refl)

  pub act_told : (a : Act) (o : Option ThreadState) → OfChild s a → IsBorn s n d.child o
      → Fulfils c.variables c.handles (places c) (length s.path) s.region d (as_move (doing_of (region_of o) a) go bi)
      → ActTold s.path (length t.forked) a o (as_move (doing_of (region_of o) a) go bi)
  act_told (act.Poke l p raw) o of is f = (none_begins o f.0.1 is, go, refl)
  act_told (act.Peek l p into) o of is f = (none_begins o f.only.1 is, go, refl)
  act_told (act.Expect l p wanted) o of is f = (none_begins o f.0.1 is, go 0, refl)
  act_told (act.Fork l ch) o of is f = fork_told l ch o of is f
  act_told (act.Join l ch) o of is f = (none_begins o f.0.1 is, child_number ch, own_child s ch (b.children of.0 ch of.1), go 0, refl)
  act_told (act.Arrive l edges) o of is f = (none_begins o f.0.1 is, go 0, refl)
  act_told (act.JoinStep l ch) o of is f = (none_begins o f.0.1 is, child_number ch, own_child s ch (b.children of.0 ch of.1), go 0, refl)
  act_told (act.Spend l) o of is f = (none_begins o f.1 is, refl)
  act_told act.End o of is f = (none_begins o f.1 is, refl)
