-- A statement keeps the rules where it breaks none of them.
use Rattle.std.proofs.Common.{◌≡◌, Bool, true, false, cond, List, [], ◌∷◌, Some, None, find, refl, sym, ap, ◌∙◌}
use Rattle.tl_ast.specs.declared.tree.TestStmt.TheOpen.{TestStmt-F}
use Rattle.tl_check.specs.declared.rule.Rule.{Rule}
use Rattle.tl_check.specs.declared.rule.Rule.TheVariants.{UnknownPort, PokeOutput, LiteralTooWide, UnknownVariable, UnknownHandle, TooManyNames, JoinLaterRegion, ForkEarlierRegion, NotReadyValid, StepZero}
use Rattle.tl_check.specs.Rules.{Here, first_broken, breaks, unknown_port, poke_output, too_wide, unknown_variable, unknown_handle, too_many_names, join_later, fork_earlier, not_ready_valid, step_zero}

pub record Keeps (A : Type 0) (h : Here) (s : TestStmt-F A) : Type 0 where
  pub port : unknown_port h s ≡ false
  pub way : poke_output h s ≡ false
  pub width : too_wide h s ≡ false
  pub variable : unknown_variable h s ≡ false
  pub handle : unknown_handle h s ≡ false
  pub names : too_many_names h s ≡ false
  pub join : join_later h s ≡ false
  pub fork : fork_earlier h s ≡ false
  pub ready_valid : not_ready_valid h s ≡ false
  pub step : step_zero h s ≡ false

none_head : (f : Rule → Bool) (x : Rule) (xs : List Rule) → find f (x ∷ xs) ≡ None → (f x ≡ false) × (find f xs ≡ None)
none_head f x xs e = go (f x) refl
  where
    go : (b : Bool) → f x ≡ b → (f x ≡ false) × (find f xs ≡ None)
    go true t = absurd (let i : Some x ≡ None = sym (ap (λ b. cond b (Some x) (find f xs)) t) ∙ e in cc)
    go false t = (t, sym (ap (λ b. cond b (Some x) (find f xs)) t) ∙ e)

none_more : (f : Rule → Bool) (x : Rule) (xs : List Rule) → f x ≡ false → find f xs ≡ None → find f (x ∷ xs) ≡ None
none_more f x xs e r = ap (λ b. cond b (Some x) (find f xs)) e ∙ r

abbrev rules_9 : List Rule
rules_9 = StepZero ∷ []

abbrev rules_8 : List Rule
rules_8 = NotReadyValid ∷ rules_9

abbrev rules_7 : List Rule
rules_7 = ForkEarlierRegion ∷ rules_8

abbrev rules_6 : List Rule
rules_6 = JoinLaterRegion ∷ rules_7

abbrev rules_5 : List Rule
rules_5 = TooManyNames ∷ rules_6

abbrev rules_4 : List Rule
rules_4 = UnknownHandle ∷ rules_5

abbrev rules_3 : List Rule
rules_3 = UnknownVariable ∷ rules_4

abbrev rules_2 : List Rule
rules_2 = LiteralTooWide ∷ rules_3

abbrev rules_1 : List Rule
rules_1 = PokeOutput ∷ rules_2

pub keeps : (A : Type 0) (h : Here) (s : TestStmt-F A) → first_broken h s ≡ None → Keeps A h s
keeps A h s e =
    let a = none_head (breaks h s) UnknownPort rules_1 e in
    let b = none_head (breaks h s) PokeOutput rules_2 a.1 in
    let c = none_head (breaks h s) LiteralTooWide rules_3 b.1 in
    let d = none_head (breaks h s) UnknownVariable rules_4 c.1 in
    let i = none_head (breaks h s) UnknownHandle rules_5 d.1 in
    let j = none_head (breaks h s) TooManyNames rules_6 i.1 in
    let k = none_head (breaks h s) JoinLaterRegion rules_7 j.1 in
    let l = none_head (breaks h s) ForkEarlierRegion rules_8 k.1 in
    let m = none_head (breaks h s) NotReadyValid rules_9 l.1 in
    let n = none_head (breaks h s) StepZero [] m.1 in
    record { port = a.0; way = b.0; width = c.0; variable = d.0; handle = i.0; names = j.0; join = k.0; fork = l.0; ready_valid = m.0; step = n.0 }

pub unbroken : (A : Type 0) (h : Here) (s : TestStmt-F A) → Keeps A h s → first_broken h s ≡ None
unbroken A h s k =
    none_more (breaks h s) UnknownPort rules_1 k.port
    (none_more (breaks h s) PokeOutput rules_2 k.way
    (none_more (breaks h s) LiteralTooWide rules_3 k.width
    (none_more (breaks h s) UnknownVariable rules_4 k.variable
    (none_more (breaks h s) UnknownHandle rules_5 k.handle
    (none_more (breaks h s) TooManyNames rules_6 k.names
    (none_more (breaks h s) JoinLaterRegion rules_7 k.join
    (none_more (breaks h s) ForkEarlierRegion rules_8 k.fork
    (none_more (breaks h s) NotReadyValid rules_9 k.ready_valid
    (none_more (breaks h s) StepZero [] k.step refl)))))))))
