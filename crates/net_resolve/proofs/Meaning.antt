-- The net's equations mean what the elaboration means.
use Rattle.std.proofs.Common.{◌≡◌, ◌∙◌, sym, ap, subst, ℕ, ◌+◌, ◌-◌, ◌<◌, ◌≤◌, ◌++◌, List, [], ◌∷◌, Option, Some, None, Bool, true, false, cond, length, arith, refl, nat_eq, ⊎_elim}
use Rattle.std.specs.Prelude.{unwrap_or}
use Rattle.std.proofs.lemmas.List.Elements.{All-head, All-tail}
use Rattle.std.proofs.lemmas.Bool.{cases_order}
use Rattle.tb_base.specs.Word.{Word}
use Rattle.tb_base.specs.Row.{no_word}
use Rattle.net_core.specs.declared.tree.SignalInfo.{SignalInfo}
use Rattle.net_core.specs.declared.tree.GroundExpr.{GroundExpr}
use Rattle.net_core.specs.declared.tree.GroundReset.{GroundReset}
use Rattle.net_core.specs.declared.tree.Choice.{Choice}
use Rattle.net_core.specs.declared.tree.Choice.TheVariants.{Take, When}
use Rattle.net_core.specs.declared.tree.Elab.{Elab}
use Rattle.net_core.specs.declared.tree.Net.{Net}
use Rattle.net_core.specs.declared.tree.Role.{Role}
use Rattle.net_core.specs.declared.tree.Role.TheVariants.{Input, Output, Inner, Node, Reg}
use Rattle.net_core.specs.Signals.{info}
use Rattle.net_core.specs.Values.{value, mentions}
use Rattle.net_core.specs.Body.{body_of, conditions}
use Rattle.net_core.specs.Last.{own, holds, reset_of}
use Rattle.net_core.specs.Settled.{Settled, rule, by_role, fitted, last_connect, edge, connected, reset_to}
use Rattle.net_core.specs.Nets.{MeetsNet, by_equation, next_by, next_value, Choices, nothing, take, branch, chosen, choices_of}
use Rattle.net_core.specs.Nets as nets
use Rattle.net_core.specs.Formed.{Formed}
use Rattle.net_core.proofs.FormedFacts.{own_uses}
use Rattle.net_resolve.specs.declared.join.Found.{Found}
use Rattle.net_resolve.specs.Joint.{or_none}
use Rattle.net_resolve.specs.Resolved.{Each, asked, condition_signal, resets_from, Conditions}
use Rattle.net_resolve.specs.Pass.{equation_of, with_reset}
use Rattle.net_resolve.proofs.Numbering.{Numbered, Worth, each-left, each-right, numbered}
use Rattle.net_resolve.proofs.Homes.{place, place_from}
use Rattle.net_resolve.proofs.Fits.{one_take, push_when}
use Rattle.net_resolve.proofs.Seen.{append, chosen-append, seen_chosen}
use Rattle.net_resolve.proofs.Bounds.{Over, Bounded, seen_bounded}
use Rattle.net_resolve.proofs.Alike.{alike, chosen_alike}
use Rattle.net_resolve.proofs.Sound.{OneBits, is_one_bit}
use Rattle.net_resolve.proofs.AskedFacts.{OnReset, reset_uses_of}
use Rattle.net_resolve.proofs.Resolving.{table_of, reset_at, reset_is, seen_of, table_fits, numbered_own, number_at, resets_alike, each_reset}
use Rattle.net_resolve.proofs.Built.{Built, Cond, conds_of, first_reset, info_own, equation_own, length-net, each_to, each_and, each_get}

pub own_bounded : (e : Elab) → Formed e → (x : ℕ) → Bounded (length e.signals) (seen_of e x)
own_bounded e f x =
    seen_bounded (length e.signals) x (place x (length e.signals) (body_of e.body)) (own x (body_of e.body)) nothing
    (place_from x (length e.signals) (body_of e.body)) (own_uses (Over (length e.signals)) x (body_of e.body) f.read) tt

-- the conditions behind the declaration of x, from those of the whole
pub behind_own : (P : ℕ → GroundExpr → Type 0) (e : Elab) (x : ℕ) → Each P (length e.signals) (asked e)
    → Numbered P (place x (length e.signals) (body_of e.body)) (own x (body_of e.body))
behind_own P e x h =
    numbered_own P x (length e.signals) (body_of e.body)
    (numbered P (length e.signals) (body_of e.body) (each-left P (length e.signals) (conditions (body_of e.body)) (resets_from (λ q. reset_of q (body_of e.body)) 0 e.signals) h))

-- the choices give the last connect
pub own_chosen : (e : Elab) (net : Net) → Built e net → Formed e → (V : ℕ → ℕ) → Conditions e V → (x : ℕ) → x < length e.signals
    → chosen net.signals V (choices_of (or_none (table_of (length e.signals) (body_of e.body) x)).choices) None ≡ last_connect e V x
own_chosen e net b f V h x l =
    ap (λ c. chosen net.signals V c None) (table_fits e f x l).list
    ∙ chosen_alike net.signals e.signals V (length e.signals) (seen_of e x) None (info_own e net b) (own_bounded e f x)
    ∙ seen_chosen e.signals V x (place x (length e.signals) (body_of e.body)) (own x (body_of e.body)) nothing None (behind_own (Worth e.signals V) e x h)

by_kind : (role : Role) (found : Found) (r : Option GroundReset) (k : ℕ) (signals : List SignalInfo) (x : ℕ) (ins regs V : ℕ → ℕ) (v : ℕ)
    → fitted (info signals x) (unwrap_or (chosen signals V (choices_of found.choices) None) no_word) ≡ v
    → by_equation (equation_of role found r k) signals x ins regs V ≡ by_role role (ins x) (regs x) v
by_kind Input found r k signals x ins regs V v h = refl
by_kind Reg found r k signals x ins regs V v h = refl
by_kind Output found r k signals x ins regs V v h = h
by_kind Inner found r k signals x ins regs V v h = h
by_kind Node found r k signals x ins regs V v h = h

-- a signal's equation is its rule
same_rule : (e : Elab) (net : Net) → Built e net → Formed e → (ins regs V : ℕ → ℕ) → Conditions e V → (x : ℕ) → x < length e.signals
    → by_equation (nets.equation net x) net.signals x ins regs V ≡ rule e ins regs x V
same_rule e net b f ins regs V h x l =
    ap (λ q. by_equation q net.signals x ins regs V) (equation_own e net b x l)
    ∙ by_kind (info e.signals x).role (or_none (table_of (length e.signals) (body_of e.body) x)) (reset_at (body_of e.body) x)
    (number_at (reset_at (body_of e.body)) 0 (first_reset e) e.signals x) net.signals x ins regs V
    (fitted (info e.signals x) (unwrap_or (last_connect e V x) no_word))
    (ap (λ i. fitted i (unwrap_or (chosen net.signals V (choices_of (or_none (table_of (length e.signals) (body_of e.body) x)).choices) None) no_word)) (info_own e net b x l)
    ∙ ap (λ (o : Option Word). fitted (info e.signals x) (unwrap_or o no_word)) (own_chosen e net b f V h x l))

-- a condition's signal has its condition's value
cond_worth : (e : Elab) (net : Net) → Built e net → (ins regs V : ℕ → ℕ) (k : ℕ) (c : GroundExpr) → Cond e net k c
    → is_one_bit (value e.signals c V) → by_equation (nets.equation net k) net.signals k ins regs V ≡ (value e.signals c V).raw
cond_worth e net b ins regs V k c d h =
    ap (λ q. by_equation q net.signals k ins regs V) d.made
    ∙ ap (λ t. fitted (info net.signals k) (unwrap_or (chosen net.signals V t None) no_word)) (one_take (Some c))
    ∙ ap (λ i. fitted i (value net.signals c V)) d.known
    ∙ ap (λ (w : Word). fitted condition_signal w) (alike net.signals e.signals V c (λ y m. info_own e net b y (d.over y m)))
    ∙ h

abbrev All-of : (e : Elab) (net : Net) (V : ℕ → ℕ) → ℕ → GroundExpr → Type 0
All-of e net V k c = Cond e net k c × is_one_bit (value e.signals c V)

with_bits : (e : Elab) (net : Net) → Built e net → Formed e → (V : ℕ → ℕ) → OneBits e V → Each (All-of e net V) (length e.signals) (asked e)
with_bits e net b f V o = each_and (Cond e net) (λ k c. is_one_bit (value e.signals c V)) (length e.signals) (asked e) (conds_of e net b f) o

less_net : (e : Elab) (net : Net) → Built e net → (x : ℕ) → x < length e.signals → x < length net.signals
less_net e net b x l = omega (arith, l, length-net e net b)

pub met : (e : Elab) (net : Net) → Built e net → Formed e → (ins regs V : ℕ → ℕ) → OneBits e V → MeetsNet net ins regs V → Settled e ins regs V × Conditions e V
met e net b f ins regs V o m =
    let h : Conditions e V = each_to (All-of e net V) (Worth e.signals V) (length e.signals) (asked e)
    (λ k c p. m k p.0.below ∙ cond_worth e net b ins regs V k c p.0 p.1) (with_bits e net b f V o) in
    ((λ x l. m x (less_net e net b x l) ∙ same_rule e net b f ins regs V h x l), h)

pub meets : (e : Elab) (net : Net) → Built e net → Formed e → (ins regs V : ℕ → ℕ) → OneBits e V → Settled e ins regs V → Conditions e V → MeetsNet net ins regs V
meets e net b f ins regs V o s h x l = ⊎_elim
    (λ q. behind (above q))
    (λ r. ⊎_elim (λ q. s x q ∙ sym (same_rule e net b f ins regs V h x q)) (λ q. behind (more q)) r)
    (cases_order x (length e.signals))
  where
    above : x ≡ length e.signals → length e.signals ≤ x
    above q = omega (arith, q)

    more : length e.signals < x → length e.signals ≤ x
    more q = omega (arith, q)

    split : length e.signals ≤ x → length e.signals + (x - length e.signals) ≡ x
    split q = omega (arith, q)

    there : length e.signals ≤ x → x - length e.signals < length (asked e)
    there q = omega (arith, q, l, length-net e net b)

    behind : length e.signals ≤ x → V x ≡ by_equation (nets.equation net x) net.signals x ins regs V
    behind q =
        let g = each_get (λ k c. (V k ≡ (value e.signals c V).raw) × All-of e net V k c) (length e.signals) (asked e) (x - length e.signals)
        (each_and (Worth e.signals V) (All-of e net V) (length e.signals) (asked e) h (with_bits e net b f V o)) (there q) in
        subst (λ k. V k ≡ by_equation (nets.equation net k) net.signals k ins regs V) (split q)
        (g.1.0 ∙ sym (cond_worth e net b ins regs V (length e.signals + (x - length e.signals)) g.0 g.1.1.0 g.1.1.1))

-- the edge

-- the reset's signal has the reset's value
reset_worth : (e : Elab) → Formed e → (V : ℕ → ℕ) → Conditions e V → (x : ℕ) → x < length e.signals → (info e.signals x).role ≡ Reg
    → (r : GroundReset) → reset_at (body_of e.body) x ≡ Some r
    → V (number_at (reset_at (body_of e.body)) 0 (first_reset e) e.signals x) ≡ (value e.signals r.signal V).raw
reset_worth e f V h x l g r q =
    let b = body_of e.body in
    let c = each-right (Worth e.signals V) (length e.signals) (conditions b) (resets_from (λ z. reset_of z b) 0 e.signals) h in
    let a : resets_from (reset_at b) 0 e.signals ≡ resets_from (λ z. reset_of z b) 0 e.signals
    = resets_alike (reset_at b) (λ z. reset_of z b) 0 e.signals (λ i k. subst (λ z. reset_at b z ≡ reset_of z b) (plain i) (reset_is e f i k)) in
    each_reset (Worth e.signals V) (reset_at b) 0 (first_reset e) e.signals x r (subst (λ s. Each (Worth e.signals V) (first_reset e) s) (sym a) c) l g
    (subst (λ z. reset_at b z ≡ Some r) (plain x) q)
  where
    plain : (i : ℕ) → i ≡ 0 + i
    plain i = omega arith

-- the reset's initial value is over the circuit's signals
init_over : (e : Elab) → Formed e → (x : ℕ) (r : GroundReset) → reset_of x (body_of e.body) ≡ Some r → (y : ℕ) → mentions r.init y ≡ true → y < length e.signals
init_over e f x r q =
    let p : OnReset (Over (length e.signals)) (Some r) = subst (OnReset (Over (length e.signals))) q (reset_uses_of (Over (length e.signals)) x (body_of e.body) f.read) in
    let t = All-tail (Over (length e.signals)) (record { line = p.0; expr = r.signal; condition = true }) (record { line = p.0; expr = r.init; condition = false } ∷ []) p.1 in
    All-head (Over (length e.signals)) (record { line = p.0; expr = r.init; condition = false }) [] t

with_reset_is : (e : Elab) (net : Net) (V : ℕ → ℕ) (x k : ℕ) (r : Option GroundReset) (choices : List Choice) (l : Option Word) (old : ℕ)
    → info net.signals x ≡ info e.signals x
    → chosen net.signals V (choices_of choices) None ≡ l
    → ((s : GroundReset) → r ≡ Some s → (V k ≡ (value e.signals s.signal V).raw) × (value net.signals s.init V ≡ value e.signals s.init V))
    → connected (info net.signals x) (chosen net.signals V (choices_of (with_reset r k choices)) None) old
    ≡ reset_to e V x r (connected (info e.signals x) l old)
with_reset_is e net V x k None choices l old i h g = rw (i, h) refl
with_reset_is e net V x k (Some s) choices l old i h g =
    let w = g s refl in
    let c : choices_of (choices ++ When (record { 0 = k }) (Take (Some s.init) ∷ []) [] ∷ []) ≡ append (choices_of choices) (branch k (take (Some s.init) nothing) nothing nothing)
    = push_when choices (record { 0 = k }) (Take (Some s.init) ∷ []) [] ∙ ap (λ t. append (choices_of choices) (branch k t nothing nothing)) (one_take (Some s.init)) in
    let d : chosen net.signals V (choices_of (choices ++ When (record { 0 = k }) (Take (Some s.init) ∷ []) [] ∷ [])) None ≡ cond (nat_eq (V k) 1) (Some (value net.signals s.init V)) l
    = ap (λ t. chosen net.signals V t None) c
    ∙ chosen-append net.signals V (choices_of choices) (branch k (take (Some s.init) nothing) nothing nothing) None
    ∙ ap (λ o. cond (nat_eq (V k) 1) (Some (value net.signals s.init V)) o) h in
    ap (λ z. connected z (chosen net.signals V (choices_of (choices ++ When (record { 0 = k }) (Take (Some s.init) ∷ []) [] ∷ [])) None) old) i
    ∙ ap (λ z. connected (info e.signals x) z old) d
    ∙ ap (λ n. connected (info e.signals x) (cond (nat_eq n 1) (Some (value net.signals s.init V)) l) old) w.0
    ∙ ap (λ (z : Word). connected (info e.signals x) (cond (holds e.signals s.signal V) (Some z) l) old) w.1
    ∙ turn (holds e.signals s.signal V)
  where
    turn : (t : Bool) → connected (info e.signals x) (cond t (Some (value e.signals s.init V)) l) old
        ≡ cond t (fitted (info e.signals x) (value e.signals s.init V)) (connected (info e.signals x) l old)
    turn true = refl
    turn false = refl

pub next : (e : Elab) (net : Net) → Built e net → Formed e → (V : ℕ → ℕ) → Conditions e V → (x old : ℕ) → x < length e.signals
    → (info e.signals x).role ≡ Reg → next_value net x V old ≡ edge e V x old
next e net b f V h x old l g =
    let body = body_of e.body in
    let found = or_none (table_of (length e.signals) body x) in
    let k = number_at (reset_at body) 0 (first_reset e) e.signals x in
    ap (λ q. next_by q net.signals x V old) (equation_own e net b x l)
    ∙ ap (λ role. next_by (equation_of role found (reset_at body x) k) net.signals x V old) g
    ∙ with_reset_is e net V x k (reset_at body x) found.choices (last_connect e V x) old (info_own e net b x l) (own_chosen e net b f V h x l)
    (λ s q. (
      reset_worth e f V h x l g s q,
      alike net.signals e.signals V s.init (λ y m. info_own e net b y (init_over e f x s (sym (reset_is e f x l) ∙ q) y m)),
    ))
    ∙ ap (λ r. reset_to e V x r (connected (info e.signals x) (last_connect e V x) old)) (reset_is e f x l)
