-- What the code builds is the net.
use Rattle.std.proofs.Common.{◌≡◌, ◌∙◌, sym, ap, subst, ℕ, ◌+◌, ◌-◌, ◌<◌, ◌≤◌, ◌^◌, ◌++◌, List, [], ◌∷◌, Option, Some, None, is_some, Bool, true, false, cond, length, map, arith, refl, ⊎_elim, Result, Ok, Err}
use Rattle.std.specs.Prelude.{IfOk, OnOk}
use Rattle.std.specs.List.{All, Contains}
use Rattle.std.proofs.lemmas.Bool.{cases_order}
use Rattle.std.proofs.lemmas.List.Elements.{All-head, All-tail, All-nil, All-cons}
use Rattle.tb_base.proofs.Words.{low_bits-lt}
use Rattle.net_core.specs.declared.tree.SignalInfo.{SignalInfo}
use Rattle.net_core.specs.declared.tree.GroundExpr.{GroundExpr}
use Rattle.net_core.specs.declared.tree.GroundReset.{GroundReset}
use Rattle.net_core.specs.declared.tree.Ground.{Ground}
use Rattle.net_core.specs.declared.tree.Elab.{Elab}
use Rattle.net_core.specs.declared.tree.Net.{Net}
use Rattle.net_core.specs.declared.tree.Role.{Role}
use Rattle.net_core.specs.declared.tree.Role.TheVariants.{Input, Output, Inner, Node, Reg}
use Rattle.net_core.specs.Signals.{info, given_width, is_input, is_register, is_kept}
use Rattle.net_core.specs.Values.{value}
use Rattle.net_core.specs.Body.{body_of, conditions}
use Rattle.net_core.specs.Last.{own, reset_of}
use Rattle.net_core.specs.Settled.{Settled, by_role}
use Rattle.net_core.specs.Depends.{uninitialised}
use Rattle.net_core.specs.Nets.{MeetsNet, by_equation, chosen, choices_of, choices_read, equation_reads, net_reads}
use Rattle.net_core.specs.Nets as nets
use Rattle.net_core.specs.Formed.{Formed, Sized}
use Rattle.net_core.proofs.FormedFacts.{own_uses}
use Rattle.net_resolve.specs.declared.join.Found.{Found}
use Rattle.net_resolve.specs.Joint.{or_none}
use Rattle.net_resolve.specs.Walk.{found, leaving, inner}
use Rattle.net_resolve.specs.Resets.{resets}
use Rattle.net_resolve.specs.Resolved.{asked, condition_signal, reset_signal, resets_from, InWidth, HasKind, NetOf}
use Rattle.net_resolve.specs.Sources.{circuit_expressions, choice_expressions, equation_expressions}
use Rattle.net_resolve.specs.Pass.{equation_of, equations_from, is_open, first_open, condition_equation}
use Rattle.net_resolve.proofs.Homes.{place}
use Rattle.net_resolve.proofs.Bounds.{Over}
use Rattle.net_resolve.proofs.Tops.{Topped, seen_topped, read_under}
use Rattle.net_resolve.proofs.Sound.{OneBits, is_one_bit, uses_fit}
use Rattle.net_resolve.proofs.AskedFacts.{OnReset, reset_uses_of, asked_each}
use Rattle.net_resolve.proofs.SourceFacts.{Of, uses_stand, seen_holds, kind_holds}
use Rattle.net_resolve.proofs.Fits.{one_take}
use Rattle.net_resolve.proofs.Resolving.{table_of, reset_at, reset_is, seen_of, table_fits, open_first, number_at, resets_alike}
use Rattle.net_resolve.proofs.Built.{Built, Cond, conds_of, first_reset, info_own, equation_own, length-net, length-made, each_to, each_get}
use Rattle.net_resolve.proofs.Meaning.{behind_own, met, meets, next}
use Rattle.net_resolve.proofs.ReadsFacts.{own_reads, cond_reads, reads_no_more, reads_no_less}

-- what the code's maps and lists are

pub table_is : (e : Elab) (first : ℕ) (conds : List GroundExpr) (items : List Ground) (old new : ℕ → Option Found)
    → first ≡ length e.signals → conds ≡ [] → items ≡ e.body → ((q : ℕ) → old q ≡ None)
    → ((q : ℕ) → new q ≡ leaving q (body_of items) (found q (first + length conds) (body_of items) None) (inner q (first + length conds) (body_of items) (old q)))
    → (q : ℕ) → new q ≡ table_of (length e.signals) (body_of e.body) q
table_is e first conds items old new f c i o h q =
    h q ∙ ap (λ z. leaving q (body_of items) (found q (first + length conds) (body_of items) None) (inner q (first + length conds) (body_of items) z)) (o q)
    ∙ ap (λ n. leaving q (body_of items) (found q n (body_of items) None) (inner q n (body_of items) None)) same
    ∙ ap (λ gs. table_of (length e.signals) (body_of gs) q) i
  where
    same : first + length conds ≡ length e.signals
    same = omega (arith, f, ap length c)

pub resets_are : (e : Elab) (items : List Ground) (old new : ℕ → Option GroundReset) → items ≡ e.body → ((q : ℕ) → old q ≡ None)
    → ((q : ℕ) → new q ≡ resets q (body_of items) (old q)) → (q : ℕ) → new q ≡ reset_at (body_of e.body) q
resets_are e items old new i o h q =
    h q ∙ ap (resets q (body_of items)) (o q) ∙ ap (λ gs. reset_at (body_of gs) q) i

pub conds_are : (e : Elab) (items : List Ground) (old new : List GroundExpr) → items ≡ e.body → old ≡ [] → new ≡ old ++ conditions (body_of items) → new ≡ conditions (body_of e.body)
conds_are e items old new i o h = h ∙ ap (λ l. l ++ conditions (body_of items)) o ∙ ap (λ gs. conditions (body_of gs)) i

first_alike : (T U : ℕ → Option Found) (x : ℕ) (ss : List SignalInfo) → ((q : ℕ) → T q ≡ U q) → first_open T x ss ≡ first_open U x ss
first_alike T U x [] h = refl
first_alike T U x (s ∷ ss) h =
    ap (λ f. cond (is_open s.role (or_none f)) (Some x) (first_open T (x + 1) ss)) (h x)
    ∙ ap (λ r. cond (is_open s.role (or_none (U x))) (Some x) r) (first_alike T U (x + 1) ss h)

pub opened : (e : Elab) → Formed e → (signals : List SignalInfo) (T : ℕ → Option Found) → signals ≡ e.signals
    → ((q : ℕ) → T q ≡ table_of (length e.signals) (body_of e.body) q) → first_open T 0 signals ≡ uninitialised e
opened e f signals T s h =
    ap (first_open T 0) s ∙ first_alike T (table_of (length e.signals) (body_of e.body)) 0 e.signals h ∙ open_first e f

equations_alike : (T U : ℕ → Option Found) (R S : ℕ → Option GroundReset) (x k : ℕ) (ss : List SignalInfo) → ((q : ℕ) → T q ≡ U q) → ((q : ℕ) → R q ≡ S q)
    → equations_from T R x k ss ≡ equations_from U S x k ss
equations_alike T U R S x k [] h g = refl
equations_alike T U R S x k (s ∷ ss) h g =
    ap (λ f. equation_of s.role (or_none f) (R x) k ∷ equations_from T R (x + 1) (k + length (reset_signal s.role (R x))) ss) (h x)
    ∙ ap (λ r. equation_of s.role (or_none (U x)) r k ∷ equations_from T R (x + 1) (k + length (reset_signal s.role r)) ss) (g x)
    ∙ ap (λ qs. equation_of s.role (or_none (U x)) (S x) k ∷ qs) (equations_alike T U R S (x + 1) (k + length (reset_signal s.role (S x))) ss h g)

-- what a result has, where three things hold of it
pub under_ok : {T E : Type 0} (r : Result T E) (P Q R S : T → Type 0) → ((t : T) → P t → Q t → R t → S t) → IfOk r P → IfOk r Q → IfOk r R → IfOk r S
under_ok (Ok t) P Q R S f p q r = f t p q r
under_ok (Err e) P Q R S f p q r = p

pub at_ok : {T E : Type 0} (r : Result T E) (P Q : Type 0) → (P → Q) → OnOk r P → OnOk r Q
at_ok (Ok t) P Q f p = f p
at_ok (Err e) P Q f p = p

pub assembled : (e : Elab) → Formed e → (net : Net) (first : ℕ) (signals : List SignalInfo) (T : ℕ → Option Found) (R : ℕ → Option GroundReset) (conds : List GroundExpr)
    → first ≡ length e.signals → signals ≡ e.signals
    → ((q : ℕ) → T q ≡ table_of (length e.signals) (body_of e.body) q) → ((q : ℕ) → R q ≡ reset_at (body_of e.body) q)
    → conds ≡ conditions (body_of e.body) → net.own ≡ first
    → net.signals ≡ signals ++ map (λ c. condition_signal) (conds ++ resets_from R 0 signals)
    → net.equations ≡ equations_from T R 0 (first + length conds) signals ++ map condition_equation (conds ++ resets_from R 0 signals)
    → Built e net
assembled e f net first signals T R conds ef es eT eR ec en el em =
    let b = body_of e.body in
    let r : resets_from R 0 signals ≡ resets_from (λ x. reset_of x b) 0 e.signals
    = ap (resets_from R 0) es ∙ resets_alike R (λ x. reset_of x b) 0 e.signals (λ i l. eR (0 + i) ∙ subst (λ z. reset_at b z ≡ reset_of z b) (plain i) (reset_is e f i l)) in
    let a : conds ++ resets_from R 0 signals ≡ asked e = ap (λ c. c ++ resets_from R 0 signals) ec ∙ ap (λ s. conditions b ++ s) r in
    let o : equations_from T R 0 (first + length conds) signals ≡ equations_from (table_of (length e.signals) b) (reset_at b) 0 (first_reset e) e.signals
    = ap (λ s. equations_from T R 0 (first + length conds) s) es ∙ ap (λ n. equations_from T R 0 n e.signals) sums
    ∙ equations_alike T (table_of (length e.signals) b) R (reset_at b) 0 (first_reset e) e.signals eT eR in
    record {
      own = en ∙ ef;
      signals = el ∙ ap (λ s. s ++ map (λ c. condition_signal) (conds ++ resets_from R 0 signals)) es ∙ ap (λ c. e.signals ++ map (λ c. condition_signal) c) a;
      equations = em ∙ ap (λ q. q ++ map condition_equation (conds ++ resets_from R 0 signals)) o
          ∙ ap (λ c. equations_from (table_of (length e.signals) b) (reset_at b) 0 (first_reset e) e.signals ++ map condition_equation c) a;
    }
  where
    plain : (i : ℕ) → i ≡ 0 + i
    plain i = omega arith

    sums : first + length conds ≡ first_reset e
    sums = ap (λ n. n + length conds) ef ∙ ap (λ c. length e.signals + length c) ec

-- what it is

own_kind : (role : Role) (found : Found) (r : Option GroundReset) (k : ℕ) → HasKind role (equation_of role found r k)
own_kind Input found r k = refl
own_kind Reg found r k = (_, refl)
own_kind Output found r k = (_, refl)
own_kind Inner found r k = (_, refl)
own_kind Node found r k = (_, refl)

-- of a number of a signal of the net: it is one of the circuit, or a condition's
pub by_side : (e : Elab) (net : Net) → Built e net → Formed e → (P : ℕ → Type 0) → ((x : ℕ) → x < length e.signals → P x) → ((k : ℕ) (c : GroundExpr) → Cond e net k c → P k)
    → (x : ℕ) → x < length net.signals → P x
by_side e net b f P p q x l = ⊎_elim (λ r. behind (above r)) (λ r. ⊎_elim (p x) (λ s. behind (more s)) r) (cases_order x (length e.signals))
  where
    above : x ≡ length e.signals → length e.signals ≤ x
    above r = omega (arith, r)

    more : length e.signals < x → length e.signals ≤ x
    more r = omega (arith, r)

    split : length e.signals ≤ x → length e.signals + (x - length e.signals) ≡ x
    split r = omega (arith, r)

    there : length e.signals ≤ x → x - length e.signals < length (asked e)
    there r = omega (arith, r, l, length-net e net b)

    behind : length e.signals ≤ x → P x
    behind r =
        let g = each_get (Cond e net) (length e.signals) (asked e) (x - length e.signals) (conds_of e net b f) (there r) in
        subst P (split r) (q (length e.signals + (x - length e.signals)) g.0 g.1)

kinds : (e : Elab) (net : Net) → Built e net → Formed e → (x : ℕ) → x < length net.signals → HasKind (info net.signals x).role (nets.equation net x)
kinds e net b f = by_side e net b f (λ x. HasKind (info net.signals x).role (nets.equation net x))
    (λ x l. subst (λ (i : SignalInfo). HasKind i.role (nets.equation net x)) (sym (info_own e net b x l))
    (subst (HasKind (info e.signals x).role) (sym (equation_own e net b x l))
    (own_kind (info e.signals x).role (or_none (table_of (length e.signals) (body_of e.body) x)) (reset_at (body_of e.body) x) (number_at (reset_at (body_of e.body)) 0 (first_reset e) e.signals x))))
    (λ k c d. subst (λ (i : SignalInfo). HasKind i.role (nets.equation net k)) (sym d.known) (_, d.made))

within : (e : Elab) (net : Net) → Built e net → Formed e → (x y : ℕ) → x < length net.signals → net_reads net x y ≡ true → y < length net.signals
within e net b f x y = by_side e net b f (λ z. net_reads net z y ≡ true → y < length net.signals)
    (λ z l h. step z (is_kept (info e.signals z).role) (sym (own_reads e net b f z l y) ∙ h))
    (λ k c d h. far (d.over y (sym (cond_reads e net y k c d) ∙ h))) x
  where
    far : {z : ℕ} → z < length e.signals → z < length net.signals
    far {z} h = omega (arith, h, length-net e net b)

    top : (z : ℕ) → Topped (length net.signals) (seen_of e z)
    top z = seen_topped (length net.signals) z (place z (length e.signals) (body_of e.body)) (own z (body_of e.body)) Rattle.net_core.specs.Nets.nothing
        (behind_own (λ k c. k < length net.signals) e z (each_to (Cond e net) (λ k c. k < length net.signals) (length e.signals) (asked e) (λ k c d. d.below) (conds_of e net b f)))
        (own_uses (Over (length net.signals)) z (body_of e.body) (λ k d l y m. far (f.read k d l y m))) tt

    step : (z : ℕ) (t : Bool) → cond t false (choices_read (seen_of e z) y) ≡ true → y < length net.signals
    step z true h = cc
    step z false h = read_under (length net.signals) y (seen_of e z) (top z) h

-- whatever stands in an equation stands in the circuit
own_sources : (e : Elab) (net : Net) → Built e net → Formed e → (x : ℕ) → x < length e.signals → All (Contains (circuit_expressions e)) (equation_expressions (nets.equation net x))
own_sources e net b f x l =
    let P = Contains (circuit_expressions e) in
    let body = body_of e.body in
    let n = length e.signals in
    let s : All P (choice_expressions (seen_of e x)) = seen_holds P x (place x n body) (own x body) Rattle.net_core.specs.Nets.nothing (own_uses (Of P) x body (uses_stand e)) (All-nil P) in
    let r : OnReset (Of P) (reset_at body x) = subst (OnReset (Of P)) (sym (reset_is e f x l)) (reset_uses_of (Of P) x body (uses_stand e)) in
    subst (λ q. All P (equation_expressions q)) (sym (equation_own e net b x l))
    (kind_holds P (info e.signals x).role (or_none (table_of n body x)) (reset_at body x) (number_at (reset_at body) 0 (first_reset e) e.signals x)
    (subst (λ c. All P (choice_expressions c)) (sym (table_fits e f x l).list) s) r)

cond_sources : (e : Elab) (net : Net) (k : ℕ) (c : GroundExpr) → Cond e net k c → All (Contains (circuit_expressions e)) (equation_expressions (nets.equation net k))
cond_sources e net k c d =
    let P = Contains (circuit_expressions e) in
    subst (λ q. All P (equation_expressions q)) (sym d.made)
    (subst (λ t. All P (choice_expressions t)) (sym (one_take (Some c))) (All-cons P c [] d.stands (All-nil P)))

sources : (e : Elab) (net : Net) → Built e net → Formed e → (x : ℕ) → x < length net.signals → All (Contains (circuit_expressions e)) (equation_expressions (nets.equation net x))
sources e net b f = by_side e net b f (λ x. All (Contains (circuit_expressions e)) (equation_expressions (nets.equation net x))) (own_sources e net b f) (cond_sources e net)

-- values within the signals' widths

role_within : (role : Role) (i r v top : ℕ) → (is_input role ≡ true → i < top) → (is_register role ≡ true → r < top) → v < top → by_role role i r v < top
role_within Input i r v top a b c = a refl
role_within Reg i r v top a b c = b refl
role_within Output i r v top a b c = c
role_within Inner i r v top a b c = c
role_within Node i r v top a b c = c

kind_within : (role : Role) (found : Found) (s : Option GroundReset) (k : ℕ) (signals : List SignalInfo) (x : ℕ) (ins regs V : ℕ → ℕ)
    → (is_input role ≡ true → ins x < 2 ^ given_width (info signals x)) → (is_register role ≡ true → regs x < 2 ^ given_width (info signals x))
    → by_equation (equation_of role found s k) signals x ins regs V < 2 ^ given_width (info signals x)
kind_within Input found s k signals x ins regs V a b = a refl
kind_within Reg found s k signals x ins regs V a b = b refl
kind_within Output found s k signals x ins regs V a b = low_bits-lt _ _
kind_within Inner found s k signals x ins regs V a b = low_bits-lt _ _
kind_within Node found s k signals x ins regs V a b = low_bits-lt _ _

abbrev Narrow : Elab → (ℕ → ℕ) → Type 0
Narrow e V = (x : ℕ) → x < length e.signals → V x < 2 ^ given_width (info e.signals x)

settled_narrow : (e : Elab) (ins regs V : ℕ → ℕ) → InWidth e ins regs → Settled e ins regs V → Narrow e V
settled_narrow e ins regs V w s x l =
    subst (λ n. n < 2 ^ given_width (info e.signals x)) (sym (s x l))
    (role_within (info e.signals x).role (ins x) (regs x) _ _ (w x l).0 (w x l).1 (low_bits-lt _ _))

met_narrow : (e : Elab) (net : Net) → Built e net → (ins regs V : ℕ → ℕ) → InWidth e ins regs → MeetsNet net ins regs V → Narrow e V
met_narrow e net b ins regs V w m x l =
    let i = info_own e net b x l in
    subst (λ n. n < 2 ^ given_width (info e.signals x)) (sym (m x (far x l) ∙ ap (λ q. by_equation q net.signals x ins regs V) (equation_own e net b x l)))
    (subst (λ (z : SignalInfo). by_equation (equation_of (info e.signals x).role (or_none (table_of (length e.signals) (body_of e.body) x)) (reset_at (body_of e.body) x) (number_at (reset_at (body_of e.body)) 0 (first_reset e) e.signals x)) net.signals x ins regs V < 2 ^ given_width z) i
    (kind_within (info e.signals x).role (or_none (table_of (length e.signals) (body_of e.body) x)) (reset_at (body_of e.body) x) (number_at (reset_at (body_of e.body)) 0 (first_reset e) e.signals x) net.signals x ins regs V
    (λ k. subst (λ (z : SignalInfo). ins x < 2 ^ given_width z) (sym i) ((w x l).0 k))
    (λ k. subst (λ (z : SignalInfo). regs x < 2 ^ given_width z) (sym i) ((w x l).1 k))))
  where
    far : (z : ℕ) → z < length e.signals → z < length net.signals
    far z h = omega (arith, h, length-net e net b)

one_bits : (e : Elab) → Sized e → (V : ℕ → ℕ) → Narrow e V → OneBits e V
one_bits e s V h =
    asked_each (λ c. is_one_bit (value e.signals c V)) e (length e.signals)
    (uses_fit e s V (λ k d l y m. h y (s.formed.read k d l y m)))

conditions_read : (e : Elab) (net : Net) → Built e net → Formed e → (k y : ℕ) → k < length net.signals → length e.signals ≤ k → net_reads net k y ≡ true → y < length e.signals
conditions_read e net b f k y = by_side e net b f (λ z. length e.signals ≤ z → net_reads net z y ≡ true → y < length e.signals)
    (λ z l m h. absurd (apart z l m))
    (λ j c d m h. d.over y (sym (cond_reads e net y j c d) ∙ h)) k
  where
    apart : (z : ℕ) → z < length e.signals → length e.signals ≤ z → ⊥
    apart z l m = absurd (omega (arith, l, m))

append_all : (P : SignalInfo → Type 0) (cs : List GroundExpr) (is : List SignalInfo) → P condition_signal → All P is → All P (is ++ map (λ c. condition_signal) cs)
append_all P [] [] p h = All-nil P
append_all P (c ∷ cs) [] p h = All-cons P condition_signal (map (λ c. condition_signal) cs) p (append_all P cs [] p h)
append_all P cs (i ∷ is) p h =
    All-cons P i (is ++ map (λ c. condition_signal) cs) (All-head P i is h) (append_all P cs is p (All-tail P i is h))

all_given : (e : Elab) (net : Net) → Built e net → Sized e → All (λ i. is_some i.width ≡ true) net.signals
all_given e net b s = subst (All (λ i. is_some i.width ≡ true)) (sym b.signals) (append_all (λ i. is_some i.width ≡ true) (asked e) e.signals refl s.given)

is_reg : (r : Role) → is_register r ≡ true → r ≡ Reg
is_reg Reg h = refl
is_reg Input h = cc
is_reg Output h = cc
is_reg Inner h = cc
is_reg Node h = cc

pub net_of : (e : Elab) (net : Net) → Built e net → Sized e → NetOf e net
net_of e net b s = record {
  own = b.own;
  signals = b.signals;
  given = all_given e net b s;
  equations = length-made e net b;
  kinds = kinds e net b s.formed;
  sources = sources e net b s.formed;
  meets = λ ins regs V w. (
    (λ m. met e net b s.formed ins regs V (one_bits e s V (met_narrow e net b ins regs V w m)) m),
    (λ p. meets e net b s.formed ins regs V (one_bits e s V (settled_narrow e ins regs V w p.0)) p.0 p.1),
  );
  next = λ V h x old l g. next e net b s.formed V h x old l (is_reg (info e.signals x).role g);
  reads = λ x y l m. (reads_no_more e net b s.formed x y l m, reads_no_less e net b s.formed x y l);
  conditions_read = λ k y l m. conditions_read e net b s.formed k y m l;
  within = within e net b s.formed;
}
