-- Exactly one valuation is settled, and a signal's value depends on its cone and the registers.
use Rattle.std.proofs.Common.{◌≡◌, sym, ap, subst, ℕ, ◌<◌, length, true, false, List, [], ◌∷◌, Option, None, refl, cond, nat_eq, ◌⊎◌, inl, inr, ⊎_elim}
use Rattle.std.proofs.lemmas.Bool.{or_cases, or_left, or_right}
use Rattle.std.specs.Prelude.{unwrap_or}
use Rattle.tb_base.specs.Word.{Word}
use Rattle.tb_base.specs.Row.{no_word}
use Rattle.net_core.specs.Body.{body_of}
use Rattle.net_core.specs.Last.{own, reads}
use Rattle.net_core.proofs.BodyFacts.{last_local}
use Rattle.net_core.specs.Rules.{Rules, has, put, Ordered, run, Reach, here, step}
use Rattle.net_core.proofs.RulesFacts.{run_meets, unique, agree, onto, onto_has}
use Rattle.net_core.proofs.Acyclic.{Path, last as ends_at, more, order_exists}
use Rattle.net_core.specs.declared.tree.Elab.{Elab}
use Rattle.net_core.specs.declared.tree.Role.{Role}
use Rattle.net_core.specs.declared.tree.Role.TheVariants.{Input, Output, Inner, Node, Reg}
use Rattle.net_core.specs.Signals.{info, is_kept}
use Rattle.net_core.specs.Settled.{rule, by_role, fitted, last_connect, Settled}
use Rattle.net_core.specs.Depends.{reads_of, Reaches, itself, by, Loops, ends, goes, NoLoop, Within}
use Rattle.net_core.specs.Evaluation.{Follows, InOrder, evaluate}

role_local : (r : Role) (i g v w : ℕ) → (is_kept r ≡ false → v ≡ w) → by_role r i g v ≡ by_role r i g w
role_local Input i g v w h = refl
role_local Reg i g v w h = refl
role_local Output i g v w h = h refl
role_local Inner i g v w h = h refl
role_local Node i g v w h = h refl

pub rule_local : (e : Elab) (ins regs : ℕ → ℕ) (x : ℕ) (V W : ℕ → ℕ) → ((y : ℕ) → reads_of e x y ≡ true → V y ≡ W y) → rule e ins regs x V ≡ rule e ins regs x W
rule_local e ins regs x V W h = role_local (info e.signals x).role (ins x) (regs x) _ _ (λ k.
    ap (λ (o : Option Word). fitted (info e.signals x) (unwrap_or o no_word))
    (last_local e.signals V W x (own x (body_of e.body)) None None (λ y. false) (λ z. refl)
    (λ y m. h y (subst (λ b. cond b false (reads x y (own x (body_of e.body)) false) ≡ true) (sym k) m))))

abbrev pub rules_of : Elab → (ℕ → ℕ) → (ℕ → ℕ) → Rules
rules_of e ins regs = record { value = rule e ins regs; reads = reads_of e; local = rule_local e ins regs }

ordered : (e : Elab) (ins regs : ℕ → ℕ) (seen xs : List ℕ) → Follows e seen xs → Ordered (rules_of e ins regs) seen xs
ordered e ins regs seen [] f = tt
ordered e ins regs seen (x ∷ xs) f = (f.0, f.1, ordered e ins regs (x ∷ seen) xs f.2)

runs : (e : Elab) (ins regs : ℕ → ℕ) (xs : List ℕ) (V : ℕ → ℕ) → run (rules_of e ins regs) xs V ≡ evaluate e ins regs xs V
runs e ins regs [] V = refl
runs e ins regs (x ∷ xs) V = runs e ins regs xs (put x (rule e ins regs x V) V)

-- plain evaluation in any such order, from any valuation, gives a settled valuation
pub settles : (e : Elab) (ins regs : ℕ → ℕ) (order : List ℕ) (V : ℕ → ℕ) → InOrder e order → Settled e ins regs (evaluate e ins regs order V)
settles e ins regs order V o = λ x h.
    subst (λ W. W x ≡ rule e ins regs x W) (runs e ins regs order V)
    (run_meets (rules_of e ins regs) order V (ordered e ins regs [] order o.follows) x (o.all x h))

-- and no other is settled
pub only_one : (e : Elab) (ins regs : ℕ → ℕ) (order : List ℕ) (V W : ℕ → ℕ) → InOrder e order → Settled e ins regs V → Settled e ins regs W
    → (x : ℕ) → x < length e.signals → V x ≡ W x
only_one e ins regs order V W o v w x h =
    unique (rules_of e ins regs) order V W (ordered e ins regs [] order o.follows) (λ z k. v z (o.own z k)) (λ z k. w z (o.own z k)) x (o.all x h)

reaches : (e : Elab) (ins regs : ℕ → ℕ) (p x : ℕ) → Reach (rules_of e ins regs) p x → Reaches e p x
reaches e ins regs p x here = itself
reaches e ins regs p x (step z y r t) = by z y r (reaches e ins regs p y t)

kept_rule : (r : Role) (i j g v : ℕ) → (r ≡ Input → i ≡ j) → by_role r i g v ≡ by_role r j g v
kept_rule Input i j g v h = h refl
kept_rule Reg i j g v h = refl
kept_rule Output i j g v h = refl
kept_rule Inner i j g v h = refl
kept_rule Node i j g v h = refl

-- the value of x depends on the inputs that x reaches, and on the registers
pub value_apart : (e : Elab) (ins jns regs : ℕ → ℕ) (order : List ℕ) (V W : ℕ → ℕ) → InOrder e order → Settled e ins regs V → Settled e jns regs W
    → (x : ℕ) → x < length e.signals → ((p : ℕ) → Reaches e p x → (info e.signals p).role ≡ Input → ins p ≡ jns p) → V x ≡ W x
value_apart e ins jns regs order V W o v w x h same =
    agree (rules_of e ins regs) (rules_of e jns regs) (λ a b. refl) order [] V W (ordered e ins regs [] order o.follows)
    (λ z k. v z (o.own z k)) (λ z k. w z (o.own z k)) (λ z k s. cc) x (onto_has order [] x (o.all x h))
    (λ p t U. kept_rule (info e.signals p).role (ins p) (jns p) (regs p) (fitted (info e.signals p) (unwrap_or (last_connect e U p) no_word)) (same p (reaches e ins regs p x t)))

-- an order of the circuit
pub record Found (e : Elab) : Type 0 where
  pub order : List ℕ
  pub fits : InOrder e order

loops : (e : Elab) (p x : ℕ) → Path (rules_of e (λ k. 0) (λ k. 0)) p x → Loops e p x
loops e p x (ends_at z r) = ends z r
loops e p x (more z y r t) = goes z y r (loops e p y t)

follows : (e : Elab) (seen xs : List ℕ) → Ordered (rules_of e (λ k. 0) (λ k. 0)) seen xs → Follows e seen xs
follows e seen [] f = tt
follows e seen (x ∷ xs) f = (f.0, f.1, follows e (x ∷ seen) xs f.2)

onto_of : (xs seen : List ℕ) (x : ℕ) → has (onto xs seen) x ≡ true → (has xs x ≡ true) ⊎ (has seen x ≡ true)
onto_of [] seen x h = inr h
onto_of (y ∷ ys) seen x h = ⊎_elim
    (λ k. inl (or_right (nat_eq x y) (has ys x) k))
    (λ k. ⊎_elim (λ i. inl (or_left (nat_eq x y) (has ys x) i)) (λ i. inr i) (or_cases (nat_eq x y) (has seen x) k))
    (onto_of ys (y ∷ seen) x h)

from_empty : (xs : List ℕ) (x : ℕ) → (has xs x ≡ true) ⊎ (has [] x ≡ true) → has xs x ≡ true
from_empty xs x (inl h) = h
from_empty xs x (inr h) = cc

pub in_order : (e : Elab) → Within e → NoLoop e → Found e
in_order e w l =
    let r = order_exists (rules_of e (λ k. 0) (λ k. 0)) (length e.signals) (λ x t. l x (loops e x x t)) w in
    record { order = r.order; fits = record { follows = follows e [] r.order r.ordered; all = λ x h. from_empty r.order x (onto_of r.order [] x (r.all x h)); own = r.own } }
