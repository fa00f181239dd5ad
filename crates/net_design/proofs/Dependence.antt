-- The table of cones tells the circuit's own cones and chains.
use Rattle.std.proofs.Common.{◌≡◌, ◌∙◌, sym, ap, subst, ℕ, ◌<◌, Bool, true, false, ◌&&◌, List, refl, arith, length}
use Rattle.std.specs.Prelude.{IfOk, Result, Ok, Err}
use Rattle.std.proofs.lemmas.Bool.{and_parts}
use Rattle.net_core.specs.declared.tree.Elab.{Elab}
use Rattle.net_core.specs.declared.tree.Net.{Net}
use Rattle.net_core.specs.declared.tree.SignalInfo.{SignalInfo}
use Rattle.net_core.specs.Signals.{info, is_input}
use Rattle.net_core.specs.Depends.{IsChain}
use Rattle.net_graph.specs.declared.cones.Cones.{Cones}
use Rattle.net_graph.specs.NetGraphs.{OwnReads}
use Rattle.net_graph.specs.Loops.{IsNamedChain}
use Rattle.net_graph.specs.Reaching.{ConesOf, DependsOn, in_row_of, input_at}
use Rattle.net_design.specs.Designs.{Runs, IsInput}
use Rattle.net_design.specs.Naming.{in_cone, leads_within}
use Rattle.net_design.proofs.Numbered.{numbered, same_info, signal_of_net}
use Rattle.net_design.proofs.Ways.{reached_to, reached_from, chain_to}
use Rattle.net_design.proofs.Rounds.{led, leads}

input_too : (e : Elab) (m : Net) → Runs e m → (p : ℕ) → IsInput e p → input_at m p ≡ true
input_too e m r p i = ap (λ (s : SignalInfo). is_input s.role) (same_info e m r.net p i.signal) ∙ i.input

both : (c d : Bool) → c ≡ true → d ≡ true → (c && d) ≡ true
both c d g k = rw g (rw k refl)

same_bool : (a b : Bool) → (a ≡ true → b ≡ true) → (b ≡ true → a ≡ true) → a ≡ b
same_bool true b f g = sym (f refl)
same_bool false true f g = g refl
same_bool false false f g = refl

pub told : (e : Elab) (m : Net) (t : Cones) → Runs e m → ConesOf m t → (x p : ℕ) → x < length e.signals → IsInput e p → in_row_of t.sets x p ≡ in_cone e x p
told e m t r c x p h i =
    let w = c.cones x p (signal_of_net e m r.net x h) (input_too e m r p i) in
    same_bool (in_row_of t.sets x p) (in_cone e x p)
    (λ g. both (is_input (info e.signals p).role) (leads_within e (length e.signals) x p) i.input
    (leads e r.sized.formed r.no_loop p x h (reached_to e m r.sized.formed r.net x p h i.signal (w.0 g))))
    (λ g. w.1 (reached_from e m r.sized.formed r.net p x (led e p (length e.signals) x
    (and_parts (is_input (info e.signals p).role) (leads_within e (length e.signals) x p) g).1)))

pub depends_on : (e : Elab) (m : Net) (t : Cones) → Runs e m → ConesOf m t → (x p : ℕ) → x < length e.signals → IsInput e p → in_cone e x p ≡ true → DependsOn m t x p
depends_on e m t r c x p h i d = record {
  numbered = numbered e m r.sized.formed r.net;
  of_net = c;
  signal = subst (λ q. x < q) (sym r.net.own) h;
  own_input = subst (λ q. p < q) (sym r.net.own) i.signal;
  input = input_too e m r p i;
  has = told e m t r c x p h i ∙ d;
}

pub chain_is : (e : Elab) (m : Net) → Runs e m → (x p : ℕ) (xs : List ℕ) → IsNamedChain (OwnReads m) x p xs → IsChain e x p xs
chain_is e m r x p xs l = chain_to e m r.sized.formed r.net x p xs l

pub ok_to : {V E : Type 0} (P Q : V → Type 0) → ((v : V) → P v → Q v) → (o : Result V E) → IfOk o P → IfOk o Q
ok_to P Q f (Ok v) h = f v h
ok_to P Q f (Err e) h = h
