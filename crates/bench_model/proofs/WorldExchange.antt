-- Two acts that don't clash may be exchanged.
use Rattle.std.proofs.Common.{◌≡◌, ℕ, List, [], ◌++◌, Bool, true, false, Option, Some, None, refl, sym, ap, subst, ◌∙◌, arith, ◌<◌, ◌≤◌, length, cond, option_map, nat_eq, eq-eqb, le_of_eq, le-ltb, append_assoc, IsPermutation, ◌&&◌, get_or-set_other}
use Rattle.std.specs.FinMap as map
use Rattle.std.proofs.lemmas.List.{set_comm}
use Rattle.std.proofs.lemmas.Bool.{or_parts, or_from}
use Rattle.std.proofs.lemmas.List.Sorted.{IsPermutation-append_left, IsPermutation-append_comm}
use Rattle.bench_model.specs.Paths.{Path, is_path, child}
use Rattle.bench_model.specs.Log.{link, clash, hits, is_fork_of, is_end, names_joined}
use Rattle.bench_model.specs.World.{Model, ModelLaws, Move, Thread, World, Record, IsRunning, WorldAlike, Possible, act_of, answer, threads_after, inputs_after, recorded, event_of, kind_of, newborn, wakes, woken_mode, self_after, is_there}
use Rattle.bench_model.specs.World.Move.{poke, peek, expect, fork}
use Rattle.bench_model.proofs.PathFacts.{is_path_sym, is_path_same, is_path_apart}
use Rattle.bench_model.proofs.LogFacts.{log_swap}
use Rattle.bench_model.proofs.ThreadsFacts.{born_at, woken_at, get_after}
use Rattle.bench_model.proofs.ThreadsExchange.{Away, side_of, untouched, threads_exchange}

module _ (M : Model) (L : ModelLaws M) where
  apart_numbers : (p q : ℕ) → nat_eq q p ≡ false → (q ≡ p → ⊥)
  apart_numbers p q e h = let t : nat_eq q p ≡ true = eq-eqb q p h in cc

  -- two pokes that don't clash, in either order
  inputs_swap : (ins : List ℕ) (p q : Path) (t u : Thread M.Inner) (m n : Move M.Inner) → hits M.cone (kind_of p t m) (kind_of q u n) ≡ false →
      inputs_after M (inputs_after M ins m) n ≡ inputs_after M (inputs_after M ins n) m
  inputs_swap ins p q t u (poke l x v i) (poke k y z j) e = set_comm ins x y (M.fitted x v) (M.fitted y z) (λ h. apart_numbers x y e (sym h))
  inputs_swap ins p q t u (poke l x v i) _ e = refl
  inputs_swap ins p q t u _ n e = refl

  -- what a thread learns from the circuit is the same after an act that doesn't clash with its own
  answer_same : (ins regs : List ℕ) (p q : Path) (t u : Thread M.Inner) (m n : Move M.Inner) → hits M.cone (kind_of p t m) (kind_of q u n) ≡ false →
      answer M (inputs_after M ins m) regs n ≡ answer M ins regs n
  answer_same ins regs p q t u (poke l x v i) (poke k y z j) e = get_or-set_other ins x y (M.fitted x v) 0 (apart_numbers x y e)
  answer_same ins regs p q t u (poke l x v i) (peek k s f j) e = L.value_apart ins regs s x (M.fitted x v) e
  answer_same ins regs p q t u (poke l x v i) (expect k s f j) e = L.value_apart ins regs s x (M.fitted x v) e
  answer_same ins regs p q t u (poke l x v i) _ e = refl
  answer_same ins regs p q t u _ n e = refl

  -- two records, in either order
  records_swap : (xs ys rs : List Record) → IsPermutation (ys ++ (xs ++ rs)) (xs ++ (ys ++ rs))
  records_swap xs ys rs = subst (λ zs. IsPermutation zs (xs ++ (ys ++ rs))) (append_assoc ys xs rs)
      (subst (λ zs. IsPermutation ((ys ++ xs) ++ rs) zs) (append_assoc xs ys rs) (IsPermutation-append_left rs (ys ++ xs) (xs ++ ys) (IsPermutation-append_comm ys xs)))

  -- no birth is where a thread is
  pub not_born : (w : World M.Inner) → Possible M w → (a b : Path) (ta tb : Thread M.Inner) → map.get w.threads a ≡ Some ta → map.get w.threads b ≡ Some tb → (m : Move M.Inner) → Away (newborn a ta m) b
  unfolding child
  not_born w P a b ta tb ha hb (fork l r c i) =
      is_path_apart b (child a (length ta.forked))
      (λ e. let k : length ta.forked < length ta.forked = P.fresh a ta (length ta.forked) [] tb ha (ap (map.get w.threads) (sym e) ∙ hb) in absurd (omega arith))
  not_born w P a b ta tb ha hb _ = tt

  and_false : (x y : Bool) → y ≡ false → (x && y) ≡ false
  and_false true y e = e
  and_false false y e = refl

  false_of : (b : Bool) → (b ≡ true → ⊥) → b ≡ false
  false_of true f = absurd (f refl)
  false_of false f = refl

  not_fork : (a b : Path) (ta : Thread M.Inner) (m : Move M.Inner) → Away (newborn a ta m) b → is_fork_of (kind_of a ta m) b ≡ false
  not_fork a b ta (fork l r c i) w = is_path_sym (child a (length ta.forked)) b ∙ w
  not_fork a b ta _ w = refl

  not_joined : (w : World M.Inner) → Possible M w → (a b : Path) (ta tb : Thread M.Inner) → map.get w.threads a ≡ Some ta → map.get w.threads b ≡ Some tb → IsRunning tb →
      (o : Option ℕ) → tb.joined ≡ o → names_joined (option_map (λ k. child b k) o) a ≡ false
  not_joined w P a b ta tb ha hb rb None e = refl
  not_joined w P a b ta tb ha hb rb (Some k) e =
      false_of (is_path (child b k) a) (λ h.
      let gone : map.get w.threads (child b k) ≡ None = P.joined b tb k hb rb e in
      let here : map.get w.threads (child b k) ≡ Some ta = ap (map.get w.threads) (is_path_same (child b k) a h) ∙ ha in
      absurd (cc))

  -- NO LINK leads from the next event of one enabled thread to that of another
  pub no_link : (w : World M.Inner) → Possible M w → (a b : Path) (ta tb : Thread M.Inner) → (a ≡ b → ⊥) → map.get w.threads a ≡ Some ta → map.get w.threads b ≡ Some tb → IsRunning tb → tb.region ≤ ta.region →
      (ma mb : Move M.Inner) → link (event_of a ta ma) (event_of b tb mb) ≡ false
  no_link w P a b ta tb ne ha hb rb r ma mb =
      or_from (is_path a b) _ (is_path_apart a b ne)
      (or_from (is_fork_of (kind_of a ta ma) b) _ (not_fork a b ta ma (not_born w P a b ta tb ha hb ma))
      (or_from (is_end (kind_of a ta ma) && names_joined (option_map (λ k. child b k) tb.joined) a) _ (and_false (is_end (kind_of a ta ma)) _ (not_joined w P a b ta tb ha hb rb tb.joined refl))
      (le-ltb _ _ r)))

  -- the entry of a running thread stays when another acts
  pub rests : (w : World M.Inner) → Possible M w → (a b : Path) (ta tb : Thread M.Inner) → (a ≡ b → ⊥) → map.get w.threads a ≡ Some ta → map.get w.threads b ≡ Some tb → IsRunning tb →
      (m : Move M.Inner) (x : ℕ) → map.get (threads_after w.threads a ta m x) b ≡ Some tb
  rests w P a b ta tb ne ha hb rb m x =
      get_after M.Inner w.threads a ta m x b
      ∙ ap (λ y. cond y (self_after ta m x (is_there w.threads a m)) (born_at (newborn a ta m) b (woken_at (wakes a m) b (map.get w.threads b)))) (is_path_apart b a (λ e. ne (sym e)))
      ∙ ap (λ o. born_at (newborn a ta m) b (woken_at (wakes a m) b o)) hb
      ∙ untouched M.Inner (side_of M.Inner a ta m) b (not_born w P a b ta tb ha hb m) (Some tb) (λ k. ap (λ y. Some (record tb { mode = y })) (ap (woken_mode k) rb ∙ sym rb))

  -- THE EXCHANGE, of two threads that are known
  pub exchange_known : (w : World M.Inner) → Possible M w → (a b : Path) (ta tb : Thread M.Inner) → (a ≡ b → ⊥) → map.get w.threads a ≡ Some ta → map.get w.threads b ≡ Some tb → IsRunning ta → IsRunning tb → ta.region ≡ tb.region →
      clash M.cone (kind_of a ta (M.next ta.inner)) (kind_of b tb (M.next tb.inner)) ≡ false →
      WorldAlike (act_of M (act_of M w a (Some ta)) b (Some tb)) (act_of M (act_of M w b (Some tb)) a (Some ta))
  exchange_known w P a b ta tb ne ha hb ra rb same free =
      let ma : Move M.Inner = M.next ta.inner in
      let mb : Move M.Inner = M.next tb.inner in
      let h = or_parts (hits M.cone (kind_of a ta ma) (kind_of b tb mb)) (hits M.cone (kind_of b tb mb) (kind_of a ta ma)) free in
      let xa : ℕ = answer M w.inputs w.registers ma in
      let xb : ℕ = answer M w.inputs w.registers mb in
      let eb : answer M (inputs_after M w.inputs ma) w.registers mb ≡ xb = answer_same w.inputs w.registers a b ta tb ma mb h.0 in
      let ea : answer M (inputs_after M w.inputs mb) w.registers ma ≡ xa = answer_same w.inputs w.registers b a tb ta mb ma h.1 in
      record {
        inputs = inputs_swap w.inputs a b ta tb ma mb h.0;
        registers = refl;
        threads =
            ap (λ x. threads_after (threads_after w.threads a ta ma xa) b tb mb x) eb
            ∙ threads_exchange M.Inner w.threads a b ta tb ne ha hb ma mb xa xb (not_born w P a b ta tb ha hb ma) (not_born w P b a tb ta hb ha mb)
            ∙ ap (λ x. threads_after (threads_after w.threads b tb mb xb) a ta ma x) (sym ea);
        log = log_swap w.log (event_of a ta ma) (event_of b tb mb) ne
            (no_link w P a b ta tb ne ha hb rb (le_of_eq (sym same)) ma mb) (no_link w P b a tb ta (λ e. ne (sym e)) hb ha ra (le_of_eq same) mb ma);
        records =
            subst (λ x. IsPermutation (recorded w.time b tb mb x ++ (recorded w.time a ta ma xa ++ w.records)) (recorded w.time a ta ma (answer M (inputs_after M w.inputs mb) w.registers ma) ++ (recorded w.time b tb mb xb ++ w.records))) (sym eb)
            (subst (λ x. IsPermutation (recorded w.time b tb mb xb ++ (recorded w.time a ta ma xa ++ w.records)) (recorded w.time a ta ma x ++ (recorded w.time b tb mb xb ++ w.records))) (sym ea)
            (records_swap (recorded w.time a ta ma xa) (recorded w.time b tb mb xb) w.records));
        samples = refl;
        time = refl;
        actions = refl;
      }
