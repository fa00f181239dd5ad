-- What the code finds of an equation.
use Rattle.std.proofs.Common.{◌≡◌, ◌∙◌, sym, ap, subst, ℕ, ◌<◌, true, List, Option, Some, None, length, get_or}
use Rattle.std.specs.Prelude.{unwrap_or}
use Rattle.std.proofs.lemmas.List.{get_or_default}
use Rattle.tb_base.specs.Word.{Word}
use Rattle.tb_base.specs.Row.{no_word}
use Rattle.net_core.specs.declared.tree.SignalInfo.{SignalInfo}
use Rattle.net_core.specs.declared.tree.Choice.{Choice}
use Rattle.net_core.specs.declared.tree.Net.{Net}
use Rattle.net_core.specs.declared.tree.Equation.{Equation}
use Rattle.net_core.specs.declared.tree.Equation.TheVariants.{Comb, Reg}
use Rattle.net_core.specs.Signals.{info, no_info}
use Rattle.net_core.specs.Settled.{fitted, connected}
use Rattle.net_core.specs.Nets.{equation, no_equation, by_equation, next_by, next_value, chosen, choices_of}
use Rattle.sim_plain.specs.Words.{InWidths, choices_fit}
use Rattle.sim_plain.specs.Ready.{Fits, equation_fits}

pub equation_is : (net : Net) (x : ℕ) (items : List Equation) (q r : Equation) → Fits net → x < length net.signals → items ≡ net.equations → q ≡ get_or items x q → q ≡ r → equation net x ≡ r
equation_is net x items q r f h e i g =
    sym (i ∙ ap (λ (es : List Equation). get_or es x q) e ∙ get_or_default net.equations x q no_equation (subst (λ n. x < n) (sym f.equations) h)) ∙ g

pub info_is : (net : Net) (x : ℕ) (items : List SignalInfo) (s : SignalInfo) → x < length net.signals → items ≡ net.signals → s ≡ get_or items x s → s ≡ info net.signals x
info_is net x items s h e i = i ∙ ap (λ (is : List SignalInfo). get_or is x s) e ∙ get_or_default net.signals x s no_info h

chosen_is : (net : Net) (V : ℕ → ℕ) (signals : List SignalInfo) (list cs : List Choice) (o : Option Word) → signals ≡ net.signals → list ≡ cs
    → InWidths net.signals V → choices_fit net.signals V (choices_of cs) ≡ true
    → (InWidths signals V → choices_fit signals V (choices_of list) ≡ true → o ≡ chosen signals V (choices_of list) None)
    → o ≡ chosen net.signals V (choices_of cs) None
chosen_is net V signals list cs o a b i h k =
    subst (λ (l : List Choice). choices_fit net.signals V (choices_of l) ≡ true → o ≡ chosen net.signals V (choices_of l) None) b
    (subst (λ (s : List SignalInfo). InWidths s V → choices_fit s V (choices_of list) ≡ true → o ≡ chosen s V (choices_of list) None) a k i) h

pub comb_done : (net : Net) (x : ℕ) (ins regs V : ℕ → ℕ) (cs list : List Choice) (signals : List SignalInfo) (s : SignalInfo) (o : Option Word) (w z : Word) (r : ℕ)
    → Fits net → x < length net.signals → InWidths net.signals V → equation net x ≡ Comb cs → list ≡ cs → signals ≡ net.signals → s ≡ get_or signals x s
    → (InWidths signals V → choices_fit signals V (choices_of list) ≡ true → o ≡ chosen signals V (choices_of list) None)
    → w ≡ unwrap_or o z → z ≡ no_word → r ≡ fitted s w → r ≡ by_equation (equation net x) net.signals x ins regs V
comb_done net x ins regs V cs list signals s o w z r f h i e l a g k u n c =
    c ∙ ap (λ (t : SignalInfo). fitted t w) (info_is net x signals s h a g)
    ∙ ap (λ (t : Word). fitted (info net.signals x) t) (u ∙ ap (λ (t : Word). unwrap_or o t) n
    ∙ ap (λ (t : Option Word). unwrap_or t no_word) (chosen_is net V signals list cs o a l i (ap (λ (q : Equation). equation_fits net.signals V q) (sym e) ∙ f.held V i x h) k))
    ∙ ap (λ (q : Equation). by_equation q net.signals x ins regs V) (sym e)

next_is : (net : Net) (x : ℕ) (V : ℕ → ℕ) (next list : List Choice) (signals : List SignalInfo) (o : Option Word) (old : ℕ)
    → Fits net → x < length net.signals → InWidths net.signals V → equation net x ≡ Reg next → list ≡ next → signals ≡ net.signals
    → (InWidths signals V → choices_fit signals V (choices_of list) ≡ true → o ≡ chosen signals V (choices_of list) None)
    → connected (info net.signals x) o old ≡ next_value net x V old
next_is net x V next list signals o old f h i e l a k =
    ap (λ (t : Option Word). connected (info net.signals x) t old) (chosen_is net V signals list next o a l i (ap (λ (q : Equation). equation_fits net.signals V q) (sym e) ∙ f.held V i x h) k)
    ∙ ap (λ (q : Equation). next_by q net.signals x V old) (sym e)

pub next_none : (net : Net) (x : ℕ) (V : ℕ → ℕ) (next list : List Choice) (signals : List SignalInfo) (o : Option Word) (old : ℕ)
    → Fits net → x < length net.signals → InWidths net.signals V → equation net x ≡ Reg next → list ≡ next → signals ≡ net.signals
    → (InWidths signals V → choices_fit signals V (choices_of list) ≡ true → o ≡ chosen signals V (choices_of list) None)
    → o ≡ None → old ≡ next_value net x V old
next_none net x V next list signals o old f h i e l a k n =
    ap (λ (t : Option Word). connected (info net.signals x) t old) (sym n) ∙ next_is net x V next list signals o old f h i e l a k

pub next_some : (net : Net) (x : ℕ) (V : ℕ → ℕ) (next list : List Choice) (signals : List SignalInfo) (o : Option Word) (old : ℕ) (s : SignalInfo) (w : Word) (r : ℕ)
    → Fits net → x < length net.signals → InWidths net.signals V → equation net x ≡ Reg next → list ≡ next → signals ≡ net.signals
    → (InWidths signals V → choices_fit signals V (choices_of list) ≡ true → o ≡ chosen signals V (choices_of list) None)
    → o ≡ Some w → s ≡ get_or signals x s → r ≡ fitted s w → r ≡ next_value net x V old
next_some net x V next list signals o old s w r f h i e l a k n g c =
    c ∙ ap (λ (t : SignalInfo). fitted t w) (info_is net x signals s h a g)
    ∙ ap (λ (t : Option Word). connected (info net.signals x) t old) (sym n) ∙ next_is net x V next list signals o old f h i e l a k
