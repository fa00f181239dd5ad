-- The net reads what the elaboration reads.
use Rattle.std.proofs.Common.{◌≡◌, ◌∙◌, sym, ap, subst, ℕ, ◌<◌, ◌≤◌, ◌||◌, Bool, true, false, cond, length, refl, Option, Some}
use Rattle.net_core.specs.declared.tree.GroundExpr.{GroundExpr}
use Rattle.net_core.specs.declared.tree.GroundReset.{GroundReset}
use Rattle.net_core.specs.declared.tree.Elab.{Elab}
use Rattle.net_core.specs.declared.tree.Net.{Net}
use Rattle.net_core.specs.declared.tree.Role.{Role}
use Rattle.net_core.specs.declared.tree.Role.TheVariants.{Input, Output, Inner, Node, Reg}
use Rattle.net_core.specs.Signals.{info, is_kept}
use Rattle.net_core.specs.Values.{mentions}
use Rattle.net_core.specs.Body.{body_of}
use Rattle.net_core.specs.Last.{own, reads}
use Rattle.net_core.specs.Depends.{reads_of}
use Rattle.net_core.specs.Nets.{choices_of, choices_read, equation_reads, net_reads, nothing}
use Rattle.net_core.specs.Formed.{Formed}
use Rattle.net_resolve.specs.declared.join.Found.{Found}
use Rattle.net_resolve.specs.Joint.{or_none}
use Rattle.net_resolve.specs.Resolved.{asked, ReadsOver, directly, over}
use Rattle.net_resolve.specs.Pass.{equation_of}
use Rattle.net_resolve.proofs.Numbering.{Mentions}
use Rattle.net_resolve.proofs.Homes.{place}
use Rattle.net_resolve.proofs.Fits.{one_take}
use Rattle.net_resolve.proofs.Reading.{through, seen_through}
use Rattle.net_resolve.proofs.Bounds.{read_directly, read_over, Ways, stands, asks, ways}
use Rattle.net_resolve.proofs.Resolving.{table_of, reset_at, seen_of, table_fits, number_at}
use Rattle.net_resolve.proofs.Built.{Built, Cond, conds_of, first_reset, equation_own, each_to}
use Rattle.net_resolve.proofs.Meaning.{own_bounded, behind_own}

or_false : (a : Bool) → (a || false) ≡ a
or_false true = refl
or_false false = refl

-- a condition's signal reads what the condition mentions
pub cond_reads : (e : Elab) (net : Net) (y k : ℕ) (c : GroundExpr) → Cond e net k c → net_reads net k y ≡ mentions c y
cond_reads e net y k c d = ap (λ q. equation_reads q y) d.made ∙ ap (λ t. choices_read t y) (one_take (Some c)) ∙ or_false (mentions c y)

kept_reads : (role : Role) (found : Found) (r : Option GroundReset) (k y : ℕ)
    → equation_reads (equation_of role found r k) y ≡ cond (is_kept role) false (choices_read (choices_of found.choices) y)
kept_reads Input found r k y = refl
kept_reads Reg found r k y = refl
kept_reads Output found r k y = refl
kept_reads Inner found r k y = refl
kept_reads Node found r k y = refl

-- what a signal of the circuit reads in the net
pub own_reads : (e : Elab) (net : Net) → Built e net → Formed e → (x : ℕ) → x < length e.signals → (y : ℕ)
    → net_reads net x y ≡ cond (is_kept (info e.signals x).role) false (choices_read (seen_of e x) y)
own_reads e net b f x l y =
    ap (λ q. equation_reads q y) (equation_own e net b x l)
    ∙ kept_reads (info e.signals x).role (or_none (table_of (length e.signals) (body_of e.body) x)) (reset_at (body_of e.body) x)
    (number_at (reset_at (body_of e.body)) 0 (first_reset e) e.signals x) y
    ∙ ap (λ c. cond (is_kept (info e.signals x).role) false (choices_read c y)) (table_fits e f x l).list

-- the choices and their conditions read what the body reads
through_is : (e : Elab) (net : Net) → Built e net → Formed e → (x y : ℕ) → through (net_reads net) y (seen_of e x) ≡ reads x y (own x (body_of e.body)) false
through_is e net b f x y =
    seen_through (net_reads net) x y (place x (length e.signals) (body_of e.body)) (own x (body_of e.body)) nothing
    (behind_own (Mentions (net_reads net) y) e x
    (each_to (Cond e net) (Mentions (net_reads net) y) (length e.signals) (asked e) (cond_reads e net y) (conds_of e net b f)))

pub reads_no_more : (e : Elab) (net : Net) → Built e net → Formed e → (x y : ℕ) → x < length e.signals → y < length e.signals → ReadsOver net x y → reads_of e x y ≡ true
reads_no_more e net b f x y l m w = step (is_kept (info e.signals x).role) (own_reads e net b f x l) w
  where
    step : (t : Bool) → ((z : ℕ) → net_reads net x z ≡ cond t false (choices_read (seen_of e x) z)) → ReadsOver net x y
        → cond t false (reads x y (own x (body_of e.body)) false) ≡ true
    step true g (directly h) = sym (g y) ∙ h
    step true g (over k i h j) = sym (g k) ∙ h
    step false g (directly h) = sym (through_is e net b f x y)
        ∙ read_directly (net_reads net) (length e.signals) y (seen_of e x) m (own_bounded e f x) (sym (g y) ∙ h)
    step false g (over k i h j) = sym (through_is e net b f x y)
        ∙ read_over (net_reads net) (length e.signals) y k (seen_of e x) (subst (λ n. n ≤ k) b.own i) j (own_bounded e f x) (sym (g k) ∙ h)

pub reads_no_less : (e : Elab) (net : Net) → Built e net → Formed e → (x y : ℕ) → x < length e.signals → reads_of e x y ≡ true → ReadsOver net x y
reads_no_less e net b f x y l h = step (is_kept (info e.signals x).role) (own_reads e net b f x l) h
  where
    of_ways : ((z : ℕ) → net_reads net x z ≡ choices_read (seen_of e x) z) → Ways (net_reads net) (length e.signals) y (seen_of e x) → ReadsOver net x y
    of_ways g (stands i) = directly (g y ∙ i)
    of_ways g (asks k i j w) = over k (subst (λ n. n ≤ k) (sym b.own) i) (g k ∙ j) w

    step : (t : Bool) → ((z : ℕ) → net_reads net x z ≡ cond t false (choices_read (seen_of e x) z))
        → cond t false (reads x y (own x (body_of e.body)) false) ≡ true → ReadsOver net x y
    step true g i = cc
    step false g i = of_ways g (ways (net_reads net) (length e.signals) y (seen_of e x) (own_bounded e f x) (through_is e net b f x y ∙ i))
