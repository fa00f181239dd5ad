-- The resets that a body's declarations give.
use Rattle.std.specs.Prelude.{ℕ, Option, Some, None, nat_eq, if◌then◌else◌}
use Rattle.net_core.specs.declared.tree.GroundReset.{GroundReset}
use Rattle.net_core.specs.Body.{Body, done, declare, set, when}

-- the reset of q behind the one before
abbrev pub resets : ℕ → Body → Option GroundReset → Option GroundReset
resets q done before = before
resets q (declare y line None rest) before = resets q rest before
resets q (declare y line (Some r) rest) before = resets q rest (if nat_eq q y then Some r else before)
resets q (set line y e rest) before = resets q rest before
resets q (when line c taken other rest) before = resets q rest (resets q other (resets q taken before))
