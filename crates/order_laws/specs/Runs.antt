-- Whole runs: time steps, each of which ends where no actor may act, with outcomes.
use Rattle.std.specs.Prelude.{◌≡◌, ◌⊎◌, ℕ, suc, List, ◌∷◌, Bool, true, false, nat_le}
use mathlib.Core.Logic.{inl, inr}
use Rattle.order_laws.specs.System.{System, Laws}

-- What a run knows of its time steps beside the acts: who may still act, which act conflicts, the number of actions of this
-- time step, its number, the bound on its actions, and what settling gives: the next time step with an actor, or the end.
pub record Steps : Type 1 where
  pub world : System
  pub Finish : Type 0
  pub FinishAlike : Finish → Finish → Type 0
  pub quiet : world.State → Bool
  pub conflict : world.State → world.Actor → Bool
  pub size : world.State → ℕ
  pub time : world.State → ℕ
  pub bound : ℕ
  pub settle : world.State → world.State ⊎ Finish

-- Where a run stands, with the time of each action so far, the newest first.
pub data Run (W E : Type 0) : Type 0 where
  going : List ℕ → W → Run W E
  settled : List ℕ → E → Run W E
  conflicted : List ℕ → W → Run W E
  bounded : List ℕ → W → Run W E

-- where a run stands after settling
abbrev pub settle_to : (S : Steps) → List ℕ → S.world.State ⊎ S.Finish → Run S.world.State S.Finish
settle_to S times (inl w) = going times w
settle_to S times (inr e) = settled times e

-- after an act that meets no conflict: settle where nobody may act, else look at the bound
abbrev pub look : (S : Steps) → List ℕ → S.world.State → (quiet full : Bool) → Run S.world.State S.Finish
look S times w true full = settle_to S times (S.settle w)
look S times w false true = bounded times w
look S times w false false = going times w

-- after an act: a conflict comes first
abbrev pub judge : (S : Steps) → List ℕ → S.world.State → (conflict : Bool) → Run S.world.State S.Finish
judge S times w true = conflicted times w
judge S times w false = look S times w (S.quiet w) (nat_le S.bound (S.size w))

-- one entry of an order
abbrev pub run_act : (S : Steps) → Run S.world.State S.Finish → S.world.Actor → Run S.world.State S.Finish
run_act S (going times w) a = judge S (S.time w ∷ times) (S.world.act w a) (S.conflict w a)
run_act S (settled times e) a = settled times e
run_act S (conflicted times w) a = conflicted times w
run_act S (bounded times w) a = bounded times w

-- neither a conflict nor the bound
abbrev pub Fine : {W E : Type 0} → Run W E → Type 0
Fine (going times w) = Unit {0}
Fine (settled times e) = Unit {0}
Fine (conflicted times w) = ⊥
Fine (bounded times w) = ⊥

-- two runs are alike where they stand alike, with the same times of their actions
abbrev pub RunAlike : (S : Steps) → Run S.world.State S.Finish → Run S.world.State S.Finish → Type 0
RunAlike S (going times w) (going times' w') = (times ≡ times') × S.world.Alike w w'
RunAlike S (settled times e) (settled times' e') = (times ≡ times') × S.FinishAlike e e'
RunAlike S (conflicted times w) (conflicted times' w') = times ≡ times'
RunAlike S (bounded times w) (bounded times' w') = times ≡ times'
RunAlike S (going _ _) (settled _ _) = ⊥
RunAlike S (going _ _) (conflicted _ _) = ⊥
RunAlike S (going _ _) (bounded _ _) = ⊥
RunAlike S (settled _ _) (going _ _) = ⊥
RunAlike S (settled _ _) (conflicted _ _) = ⊥
RunAlike S (settled _ _) (bounded _ _) = ⊥
RunAlike S (conflicted _ _) (going _ _) = ⊥
RunAlike S (conflicted _ _) (settled _ _) = ⊥
RunAlike S (conflicted _ _) (bounded _ _) = ⊥
RunAlike S (bounded _ _) (going _ _) = ⊥
RunAlike S (bounded _ _) (settled _ _) = ⊥
RunAlike S (bounded _ _) (conflicted _ _) = ⊥

-- the world of a run that goes on is possible
abbrev pub RunPossible : (S : Steps) → Run S.world.State S.Finish → Type 0
RunPossible S (going times w) = S.world.Possible w
RunPossible S (settled times e) = Unit {0}
RunPossible S (conflicted times w) = Unit {0}
RunPossible S (bounded times w) = Unit {0}

-- somebody may act only in a run that goes on
abbrev pub RunEnabled : (S : Steps) → Run S.world.State S.Finish → S.world.Actor → Type 0
RunEnabled S (going times w) a = S.world.Enabled w a
RunEnabled S (settled times e) a = ⊥
RunEnabled S (conflicted times w) a = ⊥
RunEnabled S (bounded times w) a = ⊥

-- whole runs are a machine of the same kind
abbrev pub runs : Steps → System
runs S = record {
  State = Run S.world.State S.Finish;
  Actor = S.world.Actor;
  Alike = RunAlike S;
  Possible = RunPossible S;
  Enabled = RunEnabled S;
  Clean = λ r a. Fine (run_act S r a);
  act = run_act S;
}

-- settling gives alike worlds or alike ends
abbrev pub SettleAlike : (S : Steps) → S.world.State ⊎ S.Finish → S.world.State ⊎ S.Finish → Type 0
SettleAlike S (inl w) (inl w') = S.world.Alike w w'
SettleAlike S (inr e) (inr e') = S.FinishAlike e e'
SettleAlike S (inl w) (inr e) = ⊥
SettleAlike S (inr e) (inl w) = ⊥

-- settling gives a possible world or an end
abbrev pub SettlePossible : (S : Steps) → S.world.State ⊎ S.Finish → Type 0
SettlePossible S (inl w) = S.world.Possible w
SettlePossible S (inr e) = Unit {0}

-- what the time steps of a run have to meet, for whole runs to be a machine that meets the laws
pub record StepLaws (S : Steps) : Type 0 where
  pub world : Laws S.world
  pub finish_refl : (e : S.Finish) → S.FinishAlike e e
  pub finish_sym : (e f : S.Finish) → S.FinishAlike e f → S.FinishAlike f e
  pub finish_trans : (e f g : S.Finish) → S.FinishAlike e f → S.FinishAlike f g → S.FinishAlike e g
  pub not_quiet : (s : S.world.State) (a : S.world.Actor) → S.world.Enabled s a → S.quiet s ≡ false
  pub clean : (s : S.world.State) (a : S.world.Actor) → S.conflict s a ≡ false → S.world.Clean s a
  pub clean_test : (s : S.world.State) (a : S.world.Actor) → S.world.Clean s a → S.conflict s a ≡ false
  pub alike_quiet : (s t : S.world.State) → S.world.Alike s t → S.quiet s ≡ S.quiet t
  pub alike_size : (s t : S.world.State) → S.world.Alike s t → S.size s ≡ S.size t
  pub alike_time : (s t : S.world.State) → S.world.Alike s t → S.time s ≡ S.time t
  pub act_size : (s : S.world.State) (a : S.world.Actor) → S.world.Enabled s a → S.size (S.world.act s a) ≡ suc (S.size s)
  pub act_time : (s : S.world.State) (a : S.world.Actor) → S.time (S.world.act s a) ≡ S.time s
  pub settle_alike : (s t : S.world.State) → S.world.Alike s t → S.quiet s ≡ true → SettleAlike S (S.settle s) (S.settle t)
  pub settle_possible : (s : S.world.State) → S.world.Possible s → S.quiet s ≡ true → SettlePossible S (S.settle s)
