-- Worlds meet the laws of a machine.
use Rattle.std.proofs.Common.{◌≡◌, ◌∷◌, false, Some, sym, ap, subst, ◌∙◌, le_antisymm}
use Rattle.std.specs.FinMap as map
use Rattle.std.proofs.lemmas.Bool.{or_parts, or_from}
use Rattle.order_laws.specs.System.{Laws}
use Rattle.bench_model.specs.Paths.{Path}
use Rattle.bench_model.specs.Log.{Kind, NoConflict, link, clash, hits}
use Rattle.bench_model.specs.World.{Model, ModelLaws, Thread, World, Enabled, CleanAct, WorldAlike, Possible, act, act_of, answer, threads_after, event_of, kind_of, worlds}
use Rattle.bench_model.proofs.PathFacts.{same_path}
use Rattle.bench_model.proofs.LogFacts.{no_conflict_less, no_conflict_more, no_clash}
use Rattle.bench_model.proofs.WorldAlikeFacts.{world_refl, world_sym, world_trans, enabled_alike, clean_alike, act_alike}
use Rattle.bench_model.proofs.WorldExchange.{rests, exchange_known, no_link}
use Rattle.bench_model.proofs.StaysPossible.{stays_known}
use Rattle.bench_model.proofs.PossibleActs.{possible_act}

module _ (M : Model) (L : ModelLaws M) where
  pub known : (w : World M.Inner) (a : Path) (t : Thread M.Inner) → map.get w.threads a ≡ Some t → act M w a ≡ act_of M w a (Some t)
  known w a t h = ap (act_of M w a) h

  pub stays_enabled : (w : World M.Inner) (a b : Path) → Possible M w → (a ≡ b → ⊥) → Enabled w a → Enabled w b → Enabled (act M w a) b
  stays_enabled w a b P ne ea eb = subst (λ v. Enabled v b) (sym (known w a ea.thread ea.here)) (stays_known M L w P a b ne ea eb)

  -- two enabled threads have one region
  pub one_region : (w : World M.Inner) (a b : Path) (ea : Enabled w a) (eb : Enabled w b) → ea.thread.region ≡ eb.thread.region
  one_region w a b ea eb = le_antisymm (ea.least b eb.thread eb.here eb.runs) (eb.least a ea.thread ea.here ea.runs)

  pub free_of_link : (w : World M.Inner) (a b : Path) → Possible M w → (a ≡ b → ⊥) → (ea : Enabled w a) (eb : Enabled w b) → link (event_of a ea.thread (M.next ea.thread.inner)) (event_of b eb.thread (M.next eb.thread.inner)) ≡ false
  free_of_link w a b P ne ea eb = no_link M L w P a b ea.thread eb.thread ne ea.here eb.here eb.runs (eb.least a ea.thread ea.here ea.runs) (M.next ea.thread.inner) (M.next eb.thread.inner)

  -- the second act is clean over the longer log
  clean_longer : (w : World M.Inner) (a b : Path) → Possible M w → (a ≡ b → ⊥) → (ea : Enabled w a) (eb : Enabled w b) → CleanAct M (act M w a) b →
      NoConflict M.cone (event_of a ea.thread (M.next ea.thread.inner) ∷ w.log) (event_of b eb.thread (M.next eb.thread.inner))
  clean_longer w a b P ne ea eb c =
      let d : CleanAct M (act_of M w a (Some ea.thread)) b = subst (λ v. CleanAct M v b) (known w a ea.thread ea.here) c in
      d eb.thread (rests M L w P a b ea.thread eb.thread ne ea.here eb.here eb.runs (M.next ea.thread.inner) (answer M w.inputs w.registers (M.next ea.thread.inner)))

  the_thread : (w : World M.Inner) (a : Path) (ea : Enabled w a) (t : Thread M.Inner) → map.get w.threads a ≡ Some t → ea.thread ≡ t
  the_thread w a ea t h = let e : Some ea.thread ≡ Some t = sym ea.here ∙ h in cc

  exchange_now : (w : World M.Inner) (a b : Path) → Possible M w → (a ≡ b → ⊥) → Enabled w a → Enabled w b → CleanAct M w a → CleanAct M (act M w a) b → CleanAct M w b
  exchange_now w a b P ne ea eb ca cb t h =
      subst (λ (u : Thread M.Inner). NoConflict M.cone w.log (event_of b u (M.next u.inner))) (the_thread w b eb t h)
      (no_conflict_less M.cone w.log (event_of a ea.thread (M.next ea.thread.inner)) (event_of b eb.thread (M.next eb.thread.inner)) (free_of_link w a b P ne ea eb) (clean_longer w a b P ne ea eb cb))

  free_of_clash : (w : World M.Inner) (a b : Path) → Possible M w → (a ≡ b → ⊥) → (ea : Enabled w a) (eb : Enabled w b) → CleanAct M (act M w a) b →
      clash M.cone (kind_of a ea.thread (M.next ea.thread.inner)) (kind_of b eb.thread (M.next eb.thread.inner)) ≡ false
  free_of_clash w a b P ne ea eb cb =
      no_clash M.cone w.log (event_of a ea.thread (M.next ea.thread.inner)) (event_of b eb.thread (M.next eb.thread.inner)) (free_of_link w a b P ne ea eb) (clean_longer w a b P ne ea eb cb)

  clash_back : (d e : Kind) → clash M.cone d e ≡ false → clash M.cone e d ≡ false
  clash_back d e h = let p = or_parts (hits M.cone d e) (hits M.cone e d) h in or_from (hits M.cone e d) (hits M.cone d e) p.1 p.0

  exchange_then : (w : World M.Inner) (a b : Path) → Possible M w → (a ≡ b → ⊥) → Enabled w a → Enabled w b → CleanAct M w a → CleanAct M (act M w a) b → CleanAct M (act M w b) a
  exchange_then w a b P ne ea eb ca cb =
      subst (λ v. CleanAct M v a) (sym (known w b eb.thread eb.here)) (λ t h.
      let stay : map.get (threads_after w.threads b eb.thread (M.next eb.thread.inner) (answer M w.inputs w.registers (M.next eb.thread.inner))) a ≡ Some ea.thread =
      rests M L w P b a eb.thread ea.thread (λ e. ne (sym e)) eb.here ea.here ea.runs (M.next eb.thread.inner) (answer M w.inputs w.registers (M.next eb.thread.inner)) in
      let same : Some ea.thread ≡ Some t = sym stay ∙ h in
      let is : ea.thread ≡ t = cc in
      subst (λ (u : Thread M.Inner). NoConflict M.cone (event_of b eb.thread (M.next eb.thread.inner) ∷ w.log) (event_of a u (M.next u.inner))) is
      (no_conflict_more M.cone w.log (event_of b eb.thread (M.next eb.thread.inner)) (event_of a ea.thread (M.next ea.thread.inner))
      (clash_back (kind_of a ea.thread (M.next ea.thread.inner)) (kind_of b eb.thread (M.next eb.thread.inner)) (free_of_clash w a b P ne ea eb cb)) (ca ea.thread ea.here)))

  pub act_second : (w : World M.Inner) (a b : Path) → Possible M w → (a ≡ b → ⊥) → (ea : Enabled w a) (eb : Enabled w b) → act M (act M w a) b ≡ act_of M (act_of M w a (Some ea.thread)) b (Some eb.thread)
  act_second w a b P ne ea eb =
      ap (λ v. act M v b) (known w a ea.thread ea.here)
      ∙ known (act_of M w a (Some ea.thread)) b eb.thread
      (rests M L w P a b ea.thread eb.thread ne ea.here eb.here eb.runs (M.next ea.thread.inner) (answer M w.inputs w.registers (M.next ea.thread.inner)))

  exchange_alike : (w : World M.Inner) (a b : Path) → Possible M w → (a ≡ b → ⊥) → Enabled w a → Enabled w b → CleanAct M w a → CleanAct M (act M w a) b → WorldAlike (act M (act M w a) b) (act M (act M w b) a)
  exchange_alike w a b P ne ea eb ca cb =
      subst (λ v. WorldAlike v (act M (act M w b) a)) (sym (act_second w a b P ne ea eb))
      (subst (λ v. WorldAlike (act_of M (act_of M w a (Some ea.thread)) b (Some eb.thread)) v) (sym (act_second w b a P (λ e. ne (sym e)) eb ea))
      (exchange_known M L w P a b ea.thread eb.thread ne ea.here eb.here ea.runs eb.runs (one_region w a b ea eb) (free_of_clash w a b P ne ea eb cb)))

  -- WORLDS MEET THE LAWS
  pub world_laws : Laws (worlds M)
  world_laws = record {
    same = same_path;
    alike_refl = world_refl M.Inner;
    alike_sym = world_sym M.Inner;
    alike_trans = world_trans M.Inner;
    alike_enabled = λ w v p a e. enabled_alike M.Inner w v p a e;
    alike_clean = λ w v p a e c. clean_alike M w v p a c;
    alike_act = λ w v p a e c. act_alike M w v p a;
    possible_act = λ w p P e. subst (λ v. Possible M v) (sym (known w p e.thread e.here)) (possible_act M L w P p e.thread e.here);
    stays = λ w a b P ne ea eb c. stays_enabled w a b P ne ea eb;
    exchange_now = exchange_now;
    exchange_then = exchange_then;
    exchange_alike = exchange_alike;
  }

  -- the exchange, where the next events don't clash
  pub exchange_free : (w : World M.Inner) (a b : Path) → Possible M w → (a ≡ b → ⊥) → (ea : Enabled w a) (eb : Enabled w b) →
      clash M.cone (kind_of a ea.thread (M.next ea.thread.inner)) (kind_of b eb.thread (M.next eb.thread.inner)) ≡ false → WorldAlike (act M (act M w a) b) (act M (act M w b) a)
  exchange_free w a b P ne ea eb free =
      subst (λ v. WorldAlike v (act M (act M w b) a)) (sym (act_second w a b P ne ea eb))
      (subst (λ v. WorldAlike (act_of M (act_of M w a (Some ea.thread)) b (Some eb.thread)) v) (sym (act_second w b a P (λ e. ne (sym e)) eb ea))
      (exchange_known M L w P a b ea.thread eb.thread ne ea.here eb.here ea.runs eb.runs (one_region w a b ea eb) free))
