-- What is printed of a chain that a design tells.
use Rattle.std.proofs.Common.{◌≡◌, ◌∙◌, sym, ap, subst, ℕ, ◌<◌, true, nat_lt, List, [], ◌∷◌, ◌++◌, length, map, Option, Some, refl}
use Rattle.std.specs.Prelude.{codes}
use Rattle.std.proofs.lemmas.Bool.{lt-ltb}
use Rattle.std.proofs.lemmas.List.{length-map}
use Rattle.tb_base.specs.Joined.{joined}
use Rattle.net_core.specs.declared.ports.Signal.{Signal}
use Rattle.net_core.specs.declared.tree.Elab.{Elab}
use Rattle.net_core.specs.declared.tree.SignalInfo.{SignalInfo}
use Rattle.net_core.specs.Signals.{info}
use Rattle.net_core.specs.Formed.{Formed}
use Rattle.net_core.specs.Depends.{IsChain}
use Rattle.net_graph.specs.NetGraphs.{numbers}
use Rattle.bench_model.specs.Log.{Kind}
use Rattle.bench_model.specs.Log.Kind.{pokes, peeks, expects, forks, joins, arrives, joinsteps, spends, ends}
use Rattle.run_text.specs.Report.{poked_input, through_text, reason_text}
use Rattle.run_text.specs.Runs.{IsAccess}
use Rattle.run_text.specs.Steps.{name_of}
use Rattle.run_text.proofs.Chains.{chain_found}

same_names : (signals : List SignalInfo) (chain : List Signal) → map (λ x. (info signals x).name) (numbers chain) ≡ map (name_of signals) chain
same_names signals [] = refl
same_names signals (s ∷ chain) = ap (λ (l : List (List ℕ)). (info signals s.0).name ∷ l) (same_names signals chain)

pub through_more : (signals : List SignalInfo) (chain : List Signal) → 1 < length chain
    → through_text signals (numbers chain) ≡ codes " through " ++ joined (codes " > ") (map (name_of signals) chain)
through_more signals chain h =
    let long : nat_lt 1 (length (numbers chain)) ≡ true = ap (λ n. nat_lt 1 n) (length-map chain (λ (s : Signal). s.0)) ∙ lt-ltb 1 (length chain) h in
    rw long (ap (λ (l : List (List ℕ)). codes " through " ++ joined (codes " > ") l) (same_names signals chain))

-- the input that is poked is a signal
pub input_below : (e : Elab) (k : Kind) (p : ℕ) → IsAccess e k → Some p ≡ poked_input k → p < length e.signals
input_below e (pokes q) p i h = let same : q ≡ p = cc in subst (λ o. o < length e.signals) same i.signal
input_below e (peeks s) p i h = cc
input_below e (expects s) p i h = cc
input_below e (forks c) p i h = cc
input_below e (joins c) p i h = cc
input_below e arrives p i h = cc
input_below e (joinsteps c) p i h = cc
input_below e spends p i h = cc
input_below e ends p i h = cc

pub reason_is : (e : Elab) → Formed e → (s p : ℕ) (read poked : Option ℕ) (xs : List ℕ) → Some s ≡ read → Some p ≡ poked
    → p < length e.signals → IsChain e s p xs → reason_text e read poked ≡ through_text e.signals xs
reason_is e f s p read poked xs g h l c =
    ap (λ (o : Option ℕ). reason_text e o poked) (sym g) ∙ ap (λ (o : Option ℕ). reason_text e (Some s) o) (sym h)
    ∙ ap (λ (zs : List ℕ). through_text e.signals zs) (chain_found e f s p xs l c)
