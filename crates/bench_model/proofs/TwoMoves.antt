-- The laws of two moves, at any bench.
use Rattle.std.proofs.Common.{◌≡◌, suc, Some, sym, ap, ◌∙◌}
use Rattle.std.specs.FinMap as map
use Rattle.bench_model.specs.World.{World, Possible, act, act_of, answer}
use Rattle.bench_model.specs.Settle.{Setting, SettingLaws}
use Rattle.bench_model.specs.TwoMoves.{Reached, next_event, AlikeWorlds, StaysEnabled, Exchanges, EnabledBefore}
use Rattle.bench_model.proofs.LogFacts.{leads_less, leads_more, leads_new}
use Rattle.bench_model.proofs.WorldAlikeFacts.{enabled_alike, act_alike, world_sym}
use Rattle.bench_model.proofs.WorldExchange.{rests}
use Rattle.bench_model.proofs.WorldLaws.{known, stays_enabled, free_of_link, exchange_free}
use Rattle.bench_model.proofs.SettleFacts.{settle_alike}
use Rattle.bench_model.proofs.EnabledBefore.{enabled_before}
use Rattle.bench_model.proofs.Theorem.{reached_possible}

module _ (S : Setting) (L : SettingLaws S) where
  possible : (w : World S.model.Inner) → Reached S w → Possible S.model w
  possible w (order, times, ok, at) = reached_possible S L order times w ok at

  pub alike_worlds : AlikeWorlds S
  alike_worlds w v a = record {
    enabled = λ p. (enabled_alike S.model.Inner w v p a, enabled_alike S.model.Inner v w p (world_sym S.model.Inner w v a));
    acts = λ p. act_alike S.model w v p a;
    settles = settle_alike S L.model (suc S.limits.time_steps) w v a;
  }

  pub stays : StaysEnabled S
  stays w r a b ne ea eb = (
    stays_enabled S.model L.model w a b (possible w r) ne ea eb,
    ap (λ (v : World S.model.Inner). map.get v.threads b) (known S.model L.model w a ea.thread ea.here)
        ∙ rests S.model L.model w (possible w r) a b ea.thread eb.thread ne ea.here eb.here eb.runs (S.model.next ea.thread.inner) (answer S.model w.inputs w.registers (S.model.next ea.thread.inner)) ∙ sym eb.here,
  )

  pub exchanges : Exchanges S
  exchanges w r a b ne ea eb =
      let free = free_of_link S.model L.model w a b (possible w r) ne ea eb in
      record {
        apart = leads_new w.log (next_event S a ea.thread) (next_event S b eb.thread) free;
        same_before = λ n. (leads_more w.log (next_event S a ea.thread) (next_event S b eb.thread) n, leads_less w.log (next_event S a ea.thread) (next_event S b eb.thread) n free);
        alike = exchange_free S.model L.model w a b (possible w r) ne ea eb;
      }

  pub was_enabled : EnabledBefore S
  was_enabled w r a b ne ea eb free =
      let same : act S.model w a ≡ act_of S.model w a (Some ea.thread) = known S.model L.model w a ea.thread ea.here in
      enabled_before S.model L.model w (possible w r) a b ne ea
      (record {
        thread = eb.thread;
        here = ap (λ (v : World S.model.Inner). map.get v.threads b) (sym same) ∙ eb.here;
        runs = eb.runs;
        least = λ q u h k. eb.least q u (ap (λ (v : World S.model.Inner). map.get v.threads q) same ∙ h) k;
      })
      free
