-- One machine that does what another does, seen through a map of their states.
use Rattle.std.specs.Prelude.{◌≡◌, ◌⊎◌}
use mathlib.Core.Logic.{inl, inr}
use Rattle.order_laws.specs.Runs.{Steps, Run, going, settled, conflicted, bounded}

-- a map of states and one of ends, at what settling gives
abbrev pub map_settle : {W V E F : Type 0} → (W → V) → (E → F) → W ⊎ E → V ⊎ F
map_settle f g (inl w) = inl (f w)
map_settle f g (inr e) = inr (g e)

-- the same at where a run stands
abbrev pub map_run : {W V E F : Type 0} → (W → V) → (E → F) → Run W E → Run V F
map_run f g (going times w) = going times (f w)
map_run f g (settled times e) = settled times (g e)
map_run f g (conflicted times w) = conflicted times (f w)
map_run f g (bounded times w) = bounded times (f w)

-- T does what S does: f maps states, g ends, h actors
pub record Mirrors (S T : Steps) (f : S.world.State → T.world.State) (g : S.Finish → T.Finish) (h : S.world.Actor → T.world.Actor) : Type 0 where
  pub act : (s : S.world.State) (a : S.world.Actor) → f (S.world.act s a) ≡ T.world.act (f s) (h a)
  pub quiet : (s : S.world.State) → S.quiet s ≡ T.quiet (f s)
  pub conflict : (s : S.world.State) (a : S.world.Actor) → S.conflict s a ≡ T.conflict (f s) (h a)
  pub size : (s : S.world.State) → S.size s ≡ T.size (f s)
  pub time : (s : S.world.State) → S.time s ≡ T.time (f s)
  pub bound : S.bound ≡ T.bound
  pub settle : (s : S.world.State) → map_settle f g (S.settle s) ≡ T.settle (f s)
