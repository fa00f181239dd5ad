-- How many conditions a body has.
use Rattle.std.proofs.Common.{◌≡◌, ◌++◌, length, refl, arith, length-append}
use Rattle.net_core.specs.Body.{Body, done, declare, set, when, whens, conditions}

pub length-conditions : (b : Body) → length (conditions b) ≡ whens b
length-conditions done = refl
length-conditions (declare y line reset rest) = length-conditions rest
length-conditions (set line y e rest) = length-conditions rest
length-conditions (when line c t o rest) =
    omega (arith, length-append (conditions t) (conditions o ++ conditions rest), length-append (conditions o) (conditions rest), length-conditions t, length-conditions o, length-conditions rest)
