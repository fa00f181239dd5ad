-- Lists that grow by what is mentioned.
use Rattle.std.specs.Prelude.{◌≡◌, ℕ, Bool, List, ◌||◌}
use Rattle.net_core.specs.Rules.{has}

-- the list has what it had, and what the test holds of
abbrev pub Grown : List ℕ → List ℕ → (ℕ → Bool) → Type 0
Grown before after more = (y : ℕ) → has after y ≡ (has before y || more y)
