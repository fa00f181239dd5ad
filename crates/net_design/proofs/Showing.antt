-- What an engine of the circuit's net shows, in the circuit's own words.
use Rattle.std.proofs.Common.{◌≡◌, ◌∙◌, sym, ap, subst, ℕ, zero, suc, ◌+◌, ◌<◌, ◌≤◌, ◌^◌, Bool, true, false, Option, None, Some, List, [], ◌∷◌, refl, arith, length, cond, nat_eq, if◌then◌else◌}
use Rattle.std.specs.Prelude.{slice_index}
use Rattle.std.specs.List.{All}
use Rattle.std.proofs.lemmas.List.Elements.{All-head, All-tail}
use Rattle.tb_base.specs.Word.{Word, low_bits, value_of}
use Rattle.tb_base.proofs.Words.{low_bits-lt}
use Rattle.net_core.specs.declared.tree.SignalInfo.{SignalInfo}
use Rattle.net_core.specs.declared.tree.GroundReset.{GroundReset}
use Rattle.net_core.specs.declared.tree.GroundExpr.{GroundExpr}
use Rattle.net_core.specs.declared.tree.Role.{Role}
use Rattle.net_core.specs.declared.tree.Role.TheVariants.{Input, Output, Inner, Node, Reg}
use Rattle.net_core.specs.declared.tree.Equation.{Equation}
use Rattle.net_core.specs.declared.tree.Elab.{Elab}
use Rattle.net_core.specs.declared.tree.Net.{Net}
use Rattle.net_core.specs.Signals.{info, given_width, is_input, is_register}
use Rattle.net_core.specs.Body.{body_of}
use Rattle.net_core.specs.Last.{own, reset_of, last, holds}
use Rattle.net_core.specs.Values.{value, word_of}
use Rattle.net_core.specs.WidthRules.{Use, reset_uses}
use Rattle.net_core.specs.Settled.{Settled, rule, by_role, edge, reset_to, connected, fitted, last_connect}
use Rattle.net_core.specs.Depends.{NoLoop}
use Rattle.net_core.specs.Formed.{Formed, Sized}
use Rattle.net_core.specs.Nets.{equation, next_value, next_by}
use Rattle.net_core.specs.Engines.{SettledNet, ShowsSettled, AfterEdge, next_values}
use Rattle.net_core.proofs.BodyFacts.{last_local}
use Rattle.net_core.proofs.ExprFacts.{local}
use Rattle.net_core.proofs.FormedFacts.{Says, reads_says, own_uses}
use Rattle.net_resolve.specs.Resolved.{NetOf, InWidth, HasKind, Conditions}
use Rattle.net_resolve.proofs.AskedFacts.{OnReset, reset_uses_of}
use Rattle.net_design.specs.Designs.{Runs}
use Rattle.net_design.specs.Settling.{settled_value, kept_after}
use Rattle.net_design.proofs.Numbered.{same_info, signal_of_net}
use Rattle.net_design.proofs.Rounds.{settled_is}

-- ---- an edge depends on the values of the circuit's signals alone
abbrev SameBelow : Elab → (V W : ℕ → ℕ) → Type 0
SameBelow e V W = (y : ℕ) → y < length e.signals → V y ≡ W y

last_same : (e : Elab) → Formed e → (V W : ℕ → ℕ) → SameBelow e V W → (x : ℕ) → last_connect e V x ≡ last_connect e W x
last_same e f V W s x =
    last_local e.signals V W x (own x (body_of e.body)) None None (λ y. false) (λ g. refl)
    (λ y r. s y (reads_says y (y < length e.signals) x (own x (body_of e.body)) false (own_uses (Says y (y < length e.signals)) x (body_of e.body) (λ k d l. f.read k d l y)) (λ n. cc) r))

abbrev ResetBelow : Elab → Option GroundReset → Type 0
ResetBelow e r = (y : ℕ) → OnReset (Says y (y < length e.signals)) r

reset_below : (e : Elab) → Formed e → (x : ℕ) → ResetBelow e (reset_of x (body_of e.body))
reset_below e f x y = reset_uses_of (Says y (y < length e.signals)) x (body_of e.body) (λ k d l. f.read k d l y)

abbrev use_of : ℕ → GroundExpr → Bool → Use
use_of line x c = record { line = line; expr = x; condition = c }

reset_same : (e : Elab) (V W : ℕ → ℕ) → SameBelow e V W → (x v w : ℕ) → v ≡ w → (r : Option GroundReset) → ResetBelow e r → reset_to e V x r v ≡ reset_to e W x r w
reset_same e V W s x v w h None b = h
reset_same e V W s x v w h (Some r) b =
    let c : holds e.signals r.signal V ≡ holds e.signals r.signal W
    = ap (λ (q : Word). nat_eq q.raw 1) (local e.signals r.signal V W (λ y m. s y (All-head (Says y (y < length e.signals)) (use_of (b y).0 r.signal true) (use_of (b y).0 r.init false ∷ []) (b y).1 m))) in
    let i : value e.signals r.init V ≡ value e.signals r.init W
    = local e.signals r.init V W (λ y m. s y (All-head (Says y (y < length e.signals)) (use_of (b y).0 r.init false) []
    (All-tail (Says y (y < length e.signals)) (use_of (b y).0 r.signal true) (use_of (b y).0 r.init false ∷ []) (b y).1) m)) in
    rw (c, i, h) refl

pub edge_same : (e : Elab) → Formed e → (V W : ℕ → ℕ) → SameBelow e V W → (x old : ℕ) → edge e V x old ≡ edge e W x old
edge_same e f V W s x old =
    reset_same e V W s x (connected (info e.signals x) (last_connect e V x) old) (connected (info e.signals x) (last_connect e W x) old)
    (ap (λ (o : Option Word). connected (info e.signals x) o old) (last_same e f V W s x)) (reset_of x (body_of e.body)) (reset_below e f x)

-- ---- inputs and registers at the places of two lists
pub record At (e : Elab) (inputs registers : List ℕ) (ins regs : ℕ → ℕ) : Type 0 where
  pub inputs_at : (x : ℕ) → x < length e.signals → slice_index inputs x ≡ ins x
  pub registers_at : (x : ℕ) → x < length e.signals → slice_index registers x ≡ regs x

rule_same : (role : Role) (i j g k v : ℕ) → i ≡ j → g ≡ k → by_role role i g v ≡ by_role role j k v
rule_same Input i j g k v h q = h
rule_same Reg i j g k v h q = q
rule_same Output i j g k v h q = refl
rule_same Inner i j g k v h q = refl
rule_same Node i j g k v h q = refl

settled_too : (e : Elab) (inputs registers : List ℕ) (ins regs V : ℕ → ℕ) → At e inputs registers ins regs
    → Settled e (λ x. slice_index inputs x) (λ x. slice_index registers x) V → Settled e ins regs V
settled_too e inputs registers ins regs V a s x h =
    s x h ∙ rule_same (info e.signals x).role (slice_index inputs x) (ins x) (slice_index registers x) (regs x) _ (a.inputs_at x h) (a.registers_at x h)

width_too : (e : Elab) (inputs registers : List ℕ) (ins regs : ℕ → ℕ) → At e inputs registers ins regs
    → InWidth e ins regs → InWidth e (λ x. slice_index inputs x) (λ x. slice_index registers x)
width_too e inputs registers ins regs a w x h = (
  λ i. subst (λ q. q < 2 ^ given_width (info e.signals x)) (sym (a.inputs_at x h)) ((w x h).0 i),
  λ i. subst (λ q. q < 2 ^ given_width (info e.signals x)) (sym (a.registers_at x h)) ((w x h).1 i),
)

-- a valuation that meets the net's equations is the settled one, and gives each condition its value
met : (e : Elab) (m : Net) → Runs e m → (inputs registers : List ℕ) (ins regs V : ℕ → ℕ) → At e inputs registers ins regs → InWidth e ins regs
    → SettledNet m inputs registers V → SameBelow e V (settled_value e ins regs) × Conditions e V
met e m r inputs registers ins regs V a w s =
    let b = (r.net.meets (λ x. slice_index inputs x) (λ x. slice_index registers x) V (width_too e inputs registers ins regs a w)).0 s in
    (settled_is e r.sized.formed r.no_loop ins regs V (settled_too e inputs registers ins regs V a b.0), b.1)

-- the word of a signal
pub shown_value : (e : Elab) (m : Net) → Runs e m → (inputs registers : List ℕ) (ins regs : ℕ → ℕ) → At e inputs registers ins regs → InWidth e ins regs
    → (x : ℕ) (word : Word) → x < length e.signals → ShowsSettled m inputs registers x word → word ≡ word_of (info e.signals x) (settled_value e ins regs x)
shown_value e m r inputs registers ins regs a w x word h s =
    let b = met e m r inputs registers ins regs s.0 a w s.1 in
    s.2 ∙ ap (λ (i : SignalInfo). word_of i (s.0 x)) (same_info e m r.net x h) ∙ ap (λ v. word_of (info e.signals x) v) (b.0 x h)

-- ---- the registers after an edge
next_at : (m : Net) (V : ℕ → ℕ) (k : ℕ) (regs : List ℕ) (x : ℕ) → x < length regs → slice_index (next_values m V k regs) x ≡ next_value m (k + x) V (slice_index regs x)
next_at m V k (r ∷ rs) zero h = ap (λ q. next_value m q V r) (plain k)
  where
    plain : (q : ℕ) → q ≡ q + 0
    plain q = omega arith
next_at m V k (r ∷ rs) (suc x) h = next_at m V (k + 1) rs x (omega (arith, h)) ∙ ap (λ q. next_value m q V (slice_index rs x)) (one_more k x)
  where
    one_more : (q j : ℕ) → (q + 1) + j ≡ q + suc j
    one_more q j = omega arith
next_at m V k [] x h = absurd (omega (arith, h))

pub kept_at : (e : Elab) (V : ℕ → ℕ) (k : ℕ) (regs : List ℕ) (x : ℕ) → x < length regs
    → slice_index (kept_after e V k regs) x ≡ (if is_register (info e.signals (k + x)).role then edge e V (k + x) (slice_index regs x) else slice_index regs x)
kept_at e V k (r ∷ rs) zero h = ap (λ q. if is_register (info e.signals q).role then edge e V q r else r) (plain k)
  where
    plain : (q : ℕ) → q ≡ q + 0
    plain q = omega arith
kept_at e V k (r ∷ rs) (suc x) h =
    kept_at e V (k + 1) rs x (omega (arith, h)) ∙ ap (λ q. if is_register (info e.signals q).role then edge e V q (slice_index rs x) else slice_index rs x) (one_more k x)
  where
    one_more : (q j : ℕ) → (q + 1) + j ≡ q + suc j
    one_more q j = omega arith
kept_at e V k [] x h = absurd (omega (arith, h))

pub kept_length : (e : Elab) (V : ℕ → ℕ) (k : ℕ) (regs : List ℕ) → length (kept_after e V k regs) ≡ length regs
kept_length e V k [] = refl
kept_length e V k (r ∷ rs) = ap suc (kept_length e V (k + 1) rs)

others_keep : (role : Role) (q : Equation) (signals : List SignalInfo) (x : ℕ) (V : ℕ → ℕ) (old : ℕ) → HasKind role q → is_register role ≡ false → next_by q signals x V old ≡ old
others_keep Input q signals x V old k h = ap (λ (s : Equation). next_by s signals x V old) k
others_keep Output q signals x V old k h = ap (λ (s : Equation). next_by s signals x V old) k.1
others_keep Inner q signals x V old k h = ap (λ (s : Equation). next_by s signals x V old) k.1
others_keep Node q signals x V old k h = ap (λ (s : Equation). next_by s signals x V old) k.1
others_keep Reg q signals x V old k h = cc

pub shown_edge : (e : Elab) (m : Net) → Runs e m → (inputs registers after : List ℕ) (ins regs : ℕ → ℕ) → At e inputs registers ins regs → InWidth e ins regs
    → length registers ≡ length m.signals → AfterEdge m inputs registers after → (x : ℕ) → x < length e.signals
    → slice_index after x ≡ (if is_register (info e.signals x).role then edge e (settled_value e ins regs) x (regs x) else regs x)
shown_edge e m r inputs registers after ins regs a w l s x h =
    ap (λ (o : List ℕ). slice_index o x) s.2
    ∙ next_at m s.0 0 registers x (subst (λ q. x < q) (sym l) (signal_of_net e m r.net x h))
    ∙ ap (λ q. next_value m q s.0 (slice_index registers x)) (plain x)
    ∙ ap (λ q. next_value m x s.0 q) (a.registers_at x h)
    ∙ step (is_register (info e.signals x).role) refl
  where
    plain : (q : ℕ) → 0 + q ≡ q
    plain q = omega arith

    b : SameBelow e s.0 (settled_value e ins regs) × Conditions e s.0
    b = met e m r inputs registers ins regs s.0 a w s.1

    step : (t : Bool) → is_register (info e.signals x).role ≡ t → next_value m x s.0 (regs x) ≡ cond t (edge e (settled_value e ins regs) x (regs x)) (regs x)
    step true q = r.net.next s.0 b.1 x (regs x) h q ∙ edge_same e r.sized.formed s.0 (settled_value e ins regs) b.0 x (regs x)
    step false q =
        others_keep (info m.signals x).role (equation m x) m.signals x s.0 (regs x) (r.net.kinds x (signal_of_net e m r.net x h))
        (ap (λ (i : SignalInfo). is_register i.role) (same_info e m r.net x h) ∙ q)

-- ---- widths
fitted_below : (i : SignalInfo) (word : Word) → fitted i word < 2 ^ given_width i
fitted_below i word = low_bits-lt (given_width i) (value_of word)

connected_below : (i : SignalInfo) (o : Option Word) (old : ℕ) → old < 2 ^ given_width i → connected i o old < 2 ^ given_width i
connected_below i None old h = h
connected_below i (Some word) old h = fitted_below i word

pub edge_below : (e : Elab) (V : ℕ → ℕ) (x old : ℕ) → old < 2 ^ given_width (info e.signals x) → edge e V x old < 2 ^ given_width (info e.signals x)
edge_below e V x old h = step (reset_of x (body_of e.body))
  where
    choose : (c : Bool) (v w : ℕ) → v < 2 ^ given_width (info e.signals x) → w < 2 ^ given_width (info e.signals x) → cond c v w < 2 ^ given_width (info e.signals x)
    choose true v w g k = g
    choose false v w g k = k

    step : (r : Option GroundReset) → reset_to e V x r (connected (info e.signals x) (last_connect e V x) old) < 2 ^ given_width (info e.signals x)
    step None = connected_below (info e.signals x) (last_connect e V x) old h
    step (Some r) = choose (holds e.signals r.signal V) _ _ (fitted_below (info e.signals x) (value e.signals r.init V)) (connected_below (info e.signals x) (last_connect e V x) old h)
