-- What a When gives for one signal.
use Rattle.std.specs.Prelude.{ℕ, true, false, [], ◌∷◌, ◌++◌, Option, Some, None, ◌&&◌, if◌then◌else◌}
use Rattle.net_core.specs.declared.tree.Choice.TheVariants.{When}
use Rattle.net_resolve.specs.declared.join.Found.{Found}

abbrev pub or_none : Option Found → Found
or_none None = record { full = false; choices = [] }
or_none (Some f) = f

-- a When on k behind what was there, which it replaces where both sides are full
abbrev pub joint : ℕ → Found → Found → Found → Found
joint k t o a =
    if t.full && o.full
    then record { full = true; choices = When (record { 0 = k }) t.choices o.choices ∷ [] }
    else record { full = a.full; choices = a.choices ++ When (record { 0 = k }) t.choices o.choices ∷ [] }

abbrev pub joint_at : ℕ → Option Found → Option Found → Option Found → Option Found
joint_at k None None a = a
joint_at k None (Some o) a = Some (joint k (or_none None) o (or_none a))
joint_at k (Some t) o a = Some (joint k t (or_none o) (or_none a))
