-- What the engine shows.
use Rattle.std.proofs.Common.{◌≡◌, ◌∙◌, sym, ap, subst, ℕ, Bool, true, false, List, ◌++◌, drop, take, length, pos, replicate}
use Rattle.std.specs.Prelude.{slice_index}
use Rattle.std.proofs.Math.Seq.{take-append_seam}
use Rattle.std.proofs.lemmas.Bool.{le-leb}
use Rattle.tb_base.specs.Word.{Word, cut}
use Rattle.tb_base.proofs.Words.{low_bits-value_of}
use Rattle.net_core.specs.declared.tree.SignalInfo.{SignalInfo}
use Rattle.net_core.specs.declared.tree.Net.{Net}
use Rattle.net_core.specs.Signals.{info, given_width}
use Rattle.net_core.specs.Values.{word_of}
use Rattle.net_core.specs.Engines.{SettledNet, ShowsSettled, AfterEdge, next_values}
use Rattle.sim_plain.specs.Words.{at, within}
use Rattle.sim_plain.specs.Ready.{Fits, Kept, InOrder, Runs, Run}
use Rattle.sim_plain.proofs.Exact.{within_is}
use Rattle.sim_plain.proofs.Pass.{kept_zeros}

-- a vector whose slice was written
pub written : {A : Type 0} (n : ℕ) (now before : List A) → n ≡ length now → take n (now ++ drop (length now) before) ≡ now
written n now before e = rw e (take-append_seam now (drop (length now) before))

pub read_is : (net : Net) (signals : List SignalInfo) (list values : List ℕ) (x : ℕ) (r : Word) → Fits net → Kept net values → signals ≡ net.signals → list ≡ values
    → r ≡ cut (within (given_width (info signals x))) (info signals x).signed (pos (at list x))
    → r ≡ word_of (info net.signals x) (slice_index values x)
read_is net signals list values x r f k a b c =
    c ∙ ap (λ (is : List SignalInfo). cut (within (given_width (info is x))) (info is x).signed (pos (at list x))) a
    ∙ ap (λ (vs : List ℕ). cut (within (given_width (info net.signals x))) (info net.signals x).signed (pos (at vs x))) b
    ∙ ap (λ w. cut w (info net.signals x).signed (pos (at values x))) (within_is (given_width (info net.signals x)) (le-leb (given_width (info net.signals x)) 128 (f.narrow x)))
    ∙ ap (λ n. record { width = given_width (info net.signals x); signed = (info net.signals x).signed; raw = n })
    (low_bits-value_of (record { width = given_width (info net.signals x); signed = false; raw = at values x }) (k.widths x))

-- the same values in other lists
pub runs_same : (net : Net) (order order2 ins ins2 regs regs2 values values2 : List ℕ) (stale : Bool) → order2 ≡ order → ins2 ≡ ins → regs2 ≡ regs → values2 ≡ values
    → Runs net order ins regs values stale → Runs net order2 ins2 regs2 values2 stale
runs_same net order order2 ins ins2 regs regs2 values values2 stale a b c d h = rw (a, b, c, d) h

pub shows : (net : Net) (ins regs values : List ℕ) (run : Run) (signals : List SignalInfo) (list : List ℕ) (x : ℕ) (r : Word)
    → record { net = net; inputs = ins; registers = regs } ≡ run → Fits net → Kept net values → SettledNet net ins regs (at values)
    → signals ≡ net.signals → list ≡ values
    → r ≡ cut (within (given_width (info signals x))) (info signals x).signed (pos (at list x))
    → ShowsSettled run.net run.inputs run.registers x r
shows net ins regs values run signals list x r e f k s a b c =
    subst (λ (t : Run). ShowsSettled t.net t.inputs t.registers x r) e (at values, s, read_is net signals list values x r f k a b c)

pub advances : (net : Net) (ins regs values after list : List ℕ) (run : Run)
    → record { net = net; inputs = ins; registers = regs } ≡ run → SettledNet net ins regs (at values) → list ≡ next_values net (at values) 0 regs → after ≡ list
    → AfterEdge run.net run.inputs run.registers after
advances net ins regs values after list run e s c a =
    subst (λ (t : Run). AfterEdge t.net t.inputs t.registers after) e (at values, s, a ∙ c)

pub starts : (net given : Net) (order order2 : List ℕ) (ins regs values : List ℕ) → given ≡ net → order2 ≡ order → Fits net → InOrder net order
    → ins ≡ replicate (length given.signals) 0 → regs ≡ replicate (length given.signals) 0 → values ≡ replicate (length given.signals) 0
    → Runs given order2 ins regs values true
starts net given order order2 ins regs values g o f i a b c = record {
  fits = subst (λ (n : Net). Fits n) (sym g) f;
  ordered = rw (g, o) i;
  inputs = kept_zeros given ins a;
  registers = kept_zeros given regs b;
  kept = kept_zeros given values c;
  settled = λ e. cc;
}

pub settled_same : (net : Net) (ins ins2 regs regs2 values : List ℕ) → ins2 ≡ ins → regs2 ≡ regs → SettledNet net ins2 regs2 (at values) → SettledNet net ins regs (at values)
settled_same net ins ins2 regs regs2 values a b h =
    subst (λ (t : List ℕ). SettledNet net t regs (at values)) a (subst (λ (t : List ℕ). SettledNet net ins2 t (at values)) b h)

pub shows_state : (net : Net) (ins regs : List ℕ) (run : Run) (signals : List SignalInfo) (list : List ℕ) (x : ℕ) (r : Word)
    → record { net = net; inputs = ins; registers = regs } ≡ run → Fits net → Kept net regs → signals ≡ net.signals → list ≡ regs
    → r ≡ cut (within (given_width (info signals x))) (info signals x).signed (pos (at list x))
    → r ≡ word_of (info run.net.signals x) (slice_index run.registers x)
shows_state net ins regs run signals list x r e f k a b c =
    subst (λ (t : Run). r ≡ word_of (info t.net.signals x) (slice_index t.registers x)) e (read_is net signals list regs x r f k a b c)

pub zeros : (net given : Net) (signals : List SignalInfo) (xs : List ℕ) → given ≡ net → xs ≡ replicate (length signals) 0 → signals ≡ net.signals → xs ≡ replicate (length given.signals) 0
zeros net given signals xs g h e = h ∙ ap (λ (is : List SignalInfo). replicate (length is) 0) (e ∙ ap (λ (n : Net). n.signals) (sym g))
