-- An input outside the cone of a signal doesn't change the signal's number.
use Rattle.std.proofs.Common.{◌≡◌, ◌∙◌, sym, ap, subst, ℕ, zero, suc, ◌<◌, ◌≤◌, Bool, true, false, ◌&&◌, List, length, ⊎_elim, refl, arith, slice_set, get_or-set_other}
use Rattle.std.specs.Prelude.{slice_index, unwrap_or}
use Rattle.std.proofs.lemmas.Bool.{both_ways, cases_lt}
use Rattle.std.proofs.lemmas.List.{get_or_past}
use Rattle.tb_base.specs.Word.{Word, low_bits, value_of}
use Rattle.tb_base.specs.Row.{no_word}
use Rattle.tb_base.proofs.Words.{low_bits-lt}
use Rattle.net_core.specs.declared.tree.Elab.{Elab}
use Rattle.net_core.specs.declared.tree.Net.{Net}
use Rattle.net_core.specs.declared.tree.SignalInfo.{SignalInfo}
use Rattle.net_core.specs.declared.tree.Role.TheVariants.{Input}
use Rattle.net_core.specs.Signals.{info, no_info, is_input}
use Rattle.net_core.specs.Values.{word_of}
use Rattle.net_core.specs.Settled.{by_role, fitted, last_connect}
use Rattle.net_core.specs.Depends.{Reaches}
use Rattle.net_core.proofs.FormedFacts.{within}
use Rattle.net_core.proofs.SettledFacts.{value_apart, in_order}
use Rattle.net_design.specs.Designs.{Runs}
use Rattle.net_design.specs.Naming.{in_cone, leads_within}
use Rattle.net_design.specs.Settling.{rounds, settled_at, number_at}
use Rattle.net_design.proofs.Rounds.{settled_rounds, leads}

both : (c d : Bool) → c ≡ true → d ≡ true → (c && d) ≡ true
both c d g k = rw g (rw k refl)

-- an input that a signal reaches is in its cone
reached_in_cone : (e : Elab) (m : Net) → Runs e m → (x p : ℕ) → x < length e.signals → Reaches e p x
    → (info e.signals p).role ≡ Input → in_cone e x p ≡ true
reached_in_cone e m r x p h t i =
    both (is_input (info e.signals p).role) (leads_within e (length e.signals) x p) (ap is_input i) (leads e r.sized.formed r.no_loop p x h t)

settled_apart : (e : Elab) (m : Net) → Runs e m → (ins regs : List ℕ) (s p v : ℕ) → s < length e.signals → in_cone e s p ≡ false
    → settled_at e (slice_set ins p v) regs s ≡ settled_at e ins regs s
settled_apart e m r ins regs s p v h out =
    let o = in_order e (within e r.sized.formed) r.no_loop in
    value_apart e (λ x. slice_index (slice_set ins p v) x) (λ x. slice_index ins x) (λ x. slice_index regs x) o.order
    (settled_at e (slice_set ins p v) regs) (settled_at e ins regs) o.fits
    (settled_rounds e r.sized.formed r.no_loop (λ x. slice_index (slice_set ins p v) x) (λ x. slice_index regs x))
    (settled_rounds e r.sized.formed r.no_loop (λ x. slice_index ins x) (λ x. slice_index regs x)) s h
    (λ q t i. get_or-set_other ins p q v 0
    (λ same. both_ways (in_cone e s p) out (subst (λ z. in_cone e s z ≡ true) same (reached_in_cone e m r s q h t i))))

-- what is no signal has 0
nothing : (word : Word) → fitted no_info word ≡ 0
nothing word = let l = low_bits-lt 0 (value_of word) in omega (arith, l)

past_signals : (e : Elab) (ins regs : ℕ → ℕ) (n s : ℕ) → length e.signals ≤ s → rounds e ins regs n s ≡ 0
past_signals e ins regs zero s h = refl
past_signals e ins regs (suc n) s h =
    ap (λ (i : SignalInfo). by_role i.role (ins s) (regs s) (fitted i (unwrap_or (last_connect e (rounds e ins regs n) s) no_word)))
    (get_or_past e.signals s no_info h)
    ∙ nothing (unwrap_or (last_connect e (rounds e ins regs n) s) no_word)

settled_same : (e : Elab) (m : Net) → Runs e m → (ins regs : List ℕ) (s p v : ℕ) → in_cone e s p ≡ false
    → settled_at e (slice_set ins p v) regs s ≡ settled_at e ins regs s
settled_same e m r ins regs s p v out =
    ⊎_elim (λ h. settled_apart e m r ins regs s p v h out)
    (λ h.
    past_signals e (λ x. slice_index (slice_set ins p v) x) (λ x. slice_index regs x) (length e.signals) s h
    ∙ sym (past_signals e (λ x. slice_index ins x) (λ x. slice_index regs x) (length e.signals) s h))
    (cases_lt s (length e.signals))

pub number_apart : (e : Elab) (m : Net) → Runs e m → (ins regs : List ℕ) (s p v : ℕ) → in_cone e s p ≡ false
    → number_at e (slice_set ins p v) regs s ≡ number_at e ins regs s
number_apart e m r ins regs s p v out =
    ap (λ (n : ℕ). low_bits 128 (value_of (word_of (info e.signals s) n))) (settled_same e m r ins regs s p v out)
