-- Whole runs meet the laws of a machine, if their time steps do.
use Rattle.std.proofs.Common.{◌≡◌, ◌⊎◌, inl, inr, ℕ, List, ◌∷◌, refl, sym, ap, ap₂, subst, ◌∙◌, Bool, true, false, nat_le}
use Rattle.order_laws.specs.System.{Laws}
use Rattle.order_laws.specs.Runs.{Steps, going, settled, conflicted, bounded, settle_to, look, judge, run_act, Fine, RunAlike, RunPossible, RunEnabled, runs, SettleAlike, SettlePossible, StepLaws}

module _ (S : Steps) (L : StepLaws S) where
  refl_run : (r : (runs S).State) → RunAlike S r r
  refl_run (going times w) = (refl, L.world.alike_refl w)
  refl_run (settled times e) = (refl, L.finish_refl e)
  refl_run (conflicted tw w) = refl
  refl_run (bounded tw w) = refl

  sym_run : (r s : (runs S).State) → RunAlike S r s → RunAlike S s r
  sym_run (going times w) (going times' w') (e, h) = (sym e, L.world.alike_sym w w' h)
  sym_run (settled times w) (settled times' w') (e, h) = (sym e, L.finish_sym w w' h)
  sym_run (conflicted tw w) (conflicted tw' w') h = sym h
  sym_run (bounded tw w) (bounded tw' w') h = sym h
  sym_run _ _ h = absurd h

  trans_run : (r s t : (runs S).State) → RunAlike S r s → RunAlike S s t → RunAlike S r t
  trans_run (going a w) (going b v) (going c u) (e, h) (f, k) = (e ∙ f, L.world.alike_trans w v u h k)
  trans_run (going a w) (going b v) _ h k = absurd k
  trans_run (settled a w) (settled b v) (settled c u) (e, h) (f, k) = (e ∙ f, L.finish_trans w v u h k)
  trans_run (settled a w) (settled b v) _ h k = absurd k
  trans_run (conflicted tw w) (conflicted tv v) (conflicted tu u) h k = h ∙ k
  trans_run (conflicted tw w) (conflicted tv v) _ h k = absurd k
  trans_run (bounded tw w) (bounded tv v) (bounded tu u) h k = h ∙ k
  trans_run (bounded tw w) (bounded tv v) _ h k = absurd k
  trans_run _ _ _ h k = absurd h

  fine_alike : (r s : (runs S).State) → RunAlike S r s → Fine r → Fine s
  fine_alike (going a w) (going b v) h f = tt
  fine_alike (settled a w) (settled b v) h f = tt
  fine_alike (conflicted tw w) (conflicted tv v) h f = absurd f
  fine_alike (bounded tw w) (bounded tv v) h f = absurd f
  fine_alike _ _ h f = absurd h

  enabled_alike : (r s : (runs S).State) (a : S.world.Actor) → RunAlike S r s → RunEnabled S r a → RunEnabled S s a
  enabled_alike (going t w) (going t' v) a (e, h) k = L.world.alike_enabled w v a h k
  enabled_alike (settled t w) (settled t' v) a h k = absurd k
  enabled_alike (conflicted tw w) (conflicted tv v) a h k = absurd k
  enabled_alike (bounded tw w) (bounded tv v) a h k = absurd k
  enabled_alike _ _ a h k = absurd h

  -- a fine entry met no conflict
  no_conflict : (times : List ℕ) (w : S.world.State) (c : Bool) → Fine (judge S times w c) → c ≡ false
  no_conflict times w true f = absurd f
  no_conflict times w false f = refl

  settle_to_alike : (t t' : List ℕ) (x y : S.world.State ⊎ S.Finish) → t ≡ t' → SettleAlike S x y → RunAlike S (settle_to S t x) (settle_to S t' y)
  settle_to_alike t t' (inl w) (inl v) e h = (e, h)
  settle_to_alike t t' (inr w) (inr v) e h = (e, h)
  settle_to_alike t t' _ _ e h = absurd h

  look_alike : (t t' : List ℕ) (w v : S.world.State) (quiet full : Bool) → t ≡ t' → S.world.Alike w v → S.quiet w ≡ quiet →
      RunAlike S (look S t w quiet full) (look S t' v quiet full)
  look_alike t t' w v true full e h q = settle_to_alike t t' (S.settle w) (S.settle v) e (L.settle_alike w v h q)
  look_alike t t' w v false true e h q = e
  look_alike t t' w v false false e h q = (e, h)

  judge_alike : (t t' : List ℕ) (w v : S.world.State) (c d : Bool) → t ≡ t' → S.world.Alike w v → c ≡ false → d ≡ false →
      RunAlike S (judge S t w c) (judge S t' v d)
  judge_alike t t' w v true d e h p q = absurd (cc)
  judge_alike t t' w v false true e h p q = absurd (cc)
  judge_alike t t' w v false false e h p q =
      subst (λ b. RunAlike S (look S t w (S.quiet w) (nat_le S.bound (S.size w))) (look S t' v b (nat_le S.bound (S.size v)))) (L.alike_quiet w v h)
      (subst (λ n. RunAlike S (look S t w (S.quiet w) (nat_le S.bound (S.size w))) (look S t' v (S.quiet w) (nat_le S.bound n))) (L.alike_size w v h)
      (look_alike t t' w v (S.quiet w) (nat_le S.bound (S.size w)) e h refl))

  act_alike : (r s : (runs S).State) (a : S.world.Actor) → RunAlike S r s → RunEnabled S r a → Fine (run_act S r a) → RunAlike S (run_act S r a) (run_act S s a)
  act_alike (going t w) (going t' v) a (e, h) k f =
      let c : S.conflict w a ≡ false = no_conflict (S.time w ∷ t) (S.world.act w a) (S.conflict w a) f in
      let cw : S.world.Clean w a = L.clean w a c in
      let cv : S.world.Clean v a = L.world.alike_clean w v a h k cw in
      judge_alike (S.time w ∷ t) (S.time v ∷ t') (S.world.act w a) (S.world.act v a) (S.conflict w a) (S.conflict v a)
      (ap₂ (λ x y. x ∷ y) (L.alike_time w v h) e) (L.world.alike_act w v a h k cw) c (L.clean_test v a cv)
  act_alike (settled t w) (settled t' v) a h k f = absurd k
  act_alike (conflicted tw w) (conflicted tv v) a h k f = absurd k
  act_alike (bounded tw w) (bounded tv v) a h k f = absurd k
  act_alike _ _ a h k f = absurd h

  settle_to_possible : (t : List ℕ) (x : S.world.State ⊎ S.Finish) → SettlePossible S x → RunPossible S (settle_to S t x)
  settle_to_possible t (inl w) p = p
  settle_to_possible t (inr e) p = tt

  look_possible : (t : List ℕ) (w : S.world.State) (quiet full : Bool) → S.quiet w ≡ quiet → S.world.Possible w → RunPossible S (look S t w quiet full)
  look_possible t w true full q p = settle_to_possible t (S.settle w) (L.settle_possible w p q)
  look_possible t w false true q p = tt
  look_possible t w false false q p = p

  judge_possible : (t : List ℕ) (w : S.world.State) (c : Bool) → S.world.Possible w → RunPossible S (judge S t w c)
  judge_possible t w true p = tt
  judge_possible t w false p = look_possible t w (S.quiet w) (nat_le S.bound (S.size w)) refl p

  pub run_possible : (r : (runs S).State) (a : S.world.Actor) → RunPossible S r → RunEnabled S r a → RunPossible S (run_act S r a)
  run_possible (going t w) a p h = judge_possible (S.time w ∷ t) (S.world.act w a) (S.conflict w a) (L.world.possible_act w a p h)
  run_possible (settled t e) a p h = tt
  run_possible (conflicted tw w) a p h = tt
  run_possible (bounded tw w) a p h = tt

  look_going : (t : List ℕ) (w : S.world.State) (quiet full : Bool) → quiet ≡ false → Fine (look S t w quiet full) → (full ≡ false) × (look S t w quiet full ≡ going t w)
  look_going t w true full q f = absurd (cc)
  look_going t w false true q f = absurd f
  look_going t w false false q f = (refl, refl)

  judge_going : (t : List ℕ) (w : S.world.State) (c : Bool) → S.quiet w ≡ false → Fine (judge S t w c) → (nat_le S.bound (S.size w) ≡ false) × (judge S t w c ≡ going t w)
  judge_going t w true q f = absurd f
  judge_going t w false q f = look_going t w (S.quiet w) (nat_le S.bound (S.size w)) q f

  judge_goes : (t : List ℕ) (w : S.world.State) (c : Bool) → c ≡ false → S.quiet w ≡ false → nat_le S.bound (S.size w) ≡ false → judge S t w c ≡ going t w
  judge_goes t w c p q f = rw (p, q, f)

  -- what two enabled actors know of each other's acts at w
  record Two (t : List ℕ) (w : S.world.State) (a b : S.world.Actor) : Type 0 where
    first : run_act S (going t w) a ≡ going (S.time w ∷ t) (S.world.act w a)
    second : run_act S (going t w) b ≡ going (S.time w ∷ t) (S.world.act w b)
    then : RunAlike S (run_act S (going (S.time w ∷ t) (S.world.act w a)) b) (run_act S (going (S.time w ∷ t) (S.world.act w b)) a)
    fine : Fine (run_act S (going (S.time w ∷ t) (S.world.act w a)) b)

  two : (t : List ℕ) (w : S.world.State) (a b : S.world.Actor) → S.world.Possible w → (a ≡ b → ⊥) → S.world.Enabled w a → S.world.Enabled w b →
      Fine (run_act S (going t w) a) → Fine (run_act S (run_act S (going t w) a) b) → Two t w a b
  two t w a b p ne ha hb f g =
      let ts = S.time w ∷ t in
      let ca : S.conflict w a ≡ false = no_conflict ts (S.world.act w a) (S.conflict w a) f in
      let cla : S.world.Clean w a = L.clean w a ca in
      let qa : S.quiet (S.world.act w a) ≡ false = L.not_quiet (S.world.act w a) b (L.world.stays w a b p ne ha hb cla) in
      let goes = judge_going ts (S.world.act w a) (S.conflict w a) qa f in
      let g' : Fine (run_act S (going ts (S.world.act w a)) b) = subst (λ r. Fine (run_act S r b)) goes.1 g in
      let cb : S.conflict (S.world.act w a) b ≡ false = no_conflict (S.time (S.world.act w a) ∷ ts) (S.world.act (S.world.act w a) b) (S.conflict (S.world.act w a) b) g' in
      let clb : S.world.Clean (S.world.act w a) b = L.clean (S.world.act w a) b cb in
      let clb0 : S.world.Clean w b = L.world.exchange_now w a b p ne ha hb cla clb in
      let cla1 : S.world.Clean (S.world.act w b) a = L.world.exchange_then w a b p ne ha hb cla clb in
      let qb : S.quiet (S.world.act w b) ≡ false = L.not_quiet (S.world.act w b) a (L.world.stays w b a p (λ e. ne (sym e)) hb ha clb0) in
      let full : nat_le S.bound (S.size (S.world.act w b)) ≡ false = ap (nat_le S.bound) (L.act_size w b hb ∙ sym (L.act_size w a ha)) ∙ goes.0 in
      record {
        first = goes.1;
        second = judge_goes ts (S.world.act w b) (S.conflict w b) (L.clean_test w b clb0) qb full;
        then = judge_alike (S.time (S.world.act w a) ∷ ts) (S.time (S.world.act w b) ∷ ts) (S.world.act (S.world.act w a) b) (S.world.act (S.world.act w b) a)
            (S.conflict (S.world.act w a) b) (S.conflict (S.world.act w b) a)
            (ap (λ x. x ∷ ts) (L.act_time w a ∙ sym (L.act_time w b))) (L.world.exchange_alike w a b p ne ha hb cla clb) cb (L.clean_test (S.world.act w b) a cla1);
        fine = g';
      }

  stays_run : (s : (runs S).State) (a b : S.world.Actor) → RunPossible S s → (a ≡ b → ⊥) → RunEnabled S s a → RunEnabled S s b → Fine (run_act S s a) → RunEnabled S (run_act S s a) b
  stays_run (going t w) a b p ne ha hb f =
      let c : S.conflict w a ≡ false = no_conflict (S.time w ∷ t) (S.world.act w a) (S.conflict w a) f in
      let e : S.world.Enabled (S.world.act w a) b = L.world.stays w a b p ne ha hb (L.clean w a c) in
      let goes = judge_going (S.time w ∷ t) (S.world.act w a) (S.conflict w a) (L.not_quiet (S.world.act w a) b e) f in
      subst (λ r. RunEnabled S r b) (sym goes.1) e
  stays_run (settled t e) a b p ne ha hb f = absurd ha
  stays_run (conflicted tw w) a b p ne ha hb f = absurd ha
  stays_run (bounded tw w) a b p ne ha hb f = absurd ha

  -- what an exchange gives at a run that goes on
  record Exchanged (r : (runs S).State) (a b : S.world.Actor) : Type 0 where
    now : Fine (run_act S r b)
    then : Fine (run_act S (run_act S r b) a)
    alike : RunAlike S (run_act S (run_act S r a) b) (run_act S (run_act S r b) a)

  exchanged : (s : (runs S).State) (a b : S.world.Actor) → RunPossible S s → (a ≡ b → ⊥) → RunEnabled S s a → RunEnabled S s b →
      Fine (run_act S s a) → Fine (run_act S (run_act S s a) b) → Exchanged s a b
  exchanged (going t w) a b p ne ha hb f g =
      let x : Two t w a b = two t w a b p ne ha hb f g in
      let y : RunAlike S (run_act S (run_act S (going t w) a) b) (run_act S (run_act S (going t w) b) a) =
      subst (λ r. RunAlike S (run_act S r b) (run_act S (run_act S (going t w) b) a)) (sym x.first)
      (subst (λ r. RunAlike S (run_act S (going (S.time w ∷ t) (S.world.act w a)) b) (run_act S r a)) (sym x.second) x.then) in
      record {
        now = subst Fine (sym x.second) tt;
        then = fine_alike (run_act S (run_act S (going t w) a) b) (run_act S (run_act S (going t w) b) a) y g;
        alike = y;
      }
  exchanged (settled t e) a b p ne ha hb f g = absurd ha
  exchanged (conflicted tw w) a b p ne ha hb f g = absurd ha
  exchanged (bounded tw w) a b p ne ha hb f g = absurd ha

  pub run_laws : Laws (runs S)
  run_laws = record {
    same = L.world.same;
    alike_refl = refl_run;
    alike_sym = sym_run;
    alike_trans = trans_run;
    alike_enabled = enabled_alike;
    alike_clean = λ r s a h k f. fine_alike (run_act S r a) (run_act S s a) (act_alike r s a h k f) f;
    alike_act = act_alike;
    possible_act = run_possible;
    stays = stays_run;
    exchange_now = λ s a b p ne ha hb f g. (exchanged s a b p ne ha hb f g).now;
    exchange_then = λ s a b p ne ha hb f g. (exchanged s a b p ne ha hb f g).then;
    exchange_alike = λ s a b p ne ha hb f g. (exchanged s a b p ne ha hb f g).alike;
  }
