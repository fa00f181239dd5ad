-- The whole body of an elaboration, of its instances' own statements.
use Rattle.std.proofs.Common.{◌≡◌, ◌∙◌, sym, ap, ℕ, ◌<◌, List, [], ◌∷◌, ◌++◌, refl, length, map, subst}
use Rattle.std.specs.List.{All}
use Rattle.net_core.specs.declared.tree.Elab.{Elab}
use Rattle.net_core.specs.declared.tree.SignalInfo.{SignalInfo}
use Rattle.net_core.specs.declared.tree.Ground.{Ground}
use Rattle.net_core.specs.Signals.{info}
use Rattle.net_core.specs.Body.{Body, done, block, statement, body_of}
use Rattle.net_core.specs.WidthRules.{uses}
use Rattle.net_core.specs.Formed.{declares, lines_of, set_signals}
use Rattle.fir_formed.specs.Typed.{Typed}
use Rattle.fir_formed.proofs.Fair.{Fair, Even, FairUse, FairSet, fair_uses, fair_sources, fair_sets, fair_scope, block-append}
use Rattle.fir_formed.proofs.Own.{Joins}

pub joins_nothing : (S : List SignalInfo) → Joins S []
joins_nothing S = record { fair = λ rest f. f; even = λ rest f. f }

pub joins_append : (S : List SignalInfo) (xs ys : List Ground) → Joins S xs → Joins S ys → Joins S (xs ++ ys)
joins_append S xs ys a b = record {
  fair = λ rest f. subst (Fair S []) (sym (block-append xs ys rest)) (a.fair (block (map statement ys) rest) (b.fair rest f));
  even = λ rest f. subst (Even S) (sym (block-append xs ys rest)) (a.even (block (map statement ys) rest) (b.even rest f));
}

pub typed : (e : Elab) → Joins e.signals e.body
    → ((x : ℕ) → x < length e.signals → lines_of x (declares (body_of e.body)) ≡ (info e.signals x).line ∷ []) → Typed e
typed e j once =
    let b : Body = body_of e.body in
    let f : Fair e.signals [] (body_of e.body) = j.fair done tt in
    let n : Even e.signals (body_of e.body) = j.even done (λ x k. refl) in
    let u : All (FairUse e.signals) (uses (body_of e.body)) = fair_uses e.signals [] (body_of e.body) f in
    let s : All (FairSet e.signals) (set_signals (body_of e.body)) = fair_sets e.signals [] (body_of e.body) f in
    record {
      read = λ k d l. (u k d l).below;
      set_below = λ k d l. (s k d l).below;
      nodes_once = λ x l k. n x k ∙ ap length (once x l);
      inputs_kept = λ k d l. (s k d l).kept;
      scoped = fair_scope e.signals [] (body_of e.body) f;
      right = λ k d l. (u k d l).right;
      one_sign = fair_sources e.signals [] (body_of e.body) f;
      conditions = λ k d l. (u k d l).condition;
    }
