-- What the walk leaves for one signal.
use Rattle.std.specs.Prelude.{ℕ, ◌+◌, Bool, true, false, [], ◌∷◌, Option, Some, None, ◌||◌, nat_eq, if◌then◌else◌}
use Rattle.net_core.specs.declared.tree.Choice.TheVariants.{Take}
use Rattle.net_core.specs.Body.{Body, done, declare, set, when, whens}
use Rattle.net_resolve.specs.declared.join.Found.{Found}
use Rattle.net_resolve.specs.Joint.{joint_at}

-- a Declare in the block itself
abbrev pub declares : ℕ → Body → Bool
declares q done = false
declares q (declare y line reset rest) = nat_eq q y || declares q rest
declares q (set line y e rest) = declares q rest
declares q (when line c taken other rest) = declares q rest

abbrev pub kept : ℕ → Body → Option Found → Option Found
kept q b f = if declares q b then None else f

-- what is found for q behind `before`, where n is the number of the next condition
abbrev pub found : ℕ → ℕ → Body → Option Found → Option Found
found q n done before = before
found q n (declare y line reset rest) before = found q n rest before
found q n (set line y e rest) before = found q n rest (if nat_eq q y then Some (record { full = true; choices = Take e ∷ [] }) else before)
found q n (when line c taken other rest) before =
    found q (n + 1 + whens taken + whens other) rest
    (joint_at n (kept q taken (found q (n + 1) taken None)) (kept q other (found q (n + 1 + whens taken) other None)) before)

abbrev pub or_old : Option Found → Option Found → Option Found
or_old None old = old
or_old (Some f) old = Some f

-- at a block's end the signals that it declares go to the table
abbrev pub leaving : ℕ → Body → Option Found → Option Found → Option Found
leaving q b f old = if declares q b then or_old f old else old

-- what the blocks inside leave in the table
abbrev pub inner : ℕ → ℕ → Body → Option Found → Option Found
inner q n done old = old
inner q n (declare y line reset rest) old = inner q n rest old
inner q n (set line y e rest) old = inner q n rest old
inner q n (when line c taken other rest) old =
    inner q (n + 1 + whens taken + whens other) rest
    (leaving q other (found q (n + 1 + whens taken) other None)
    (inner q (n + 1 + whens taken) other
    (leaving q taken (found q (n + 1) taken None) (inner q (n + 1) taken old))))
