-- What is known at a statement.
--
-- A variable is known behind its `let`, in the rest of the block and in the blocks and forks inside. A handle is known behind its fork,
-- in the rest of the block and in the blocks inside, and not inside forks.
use Rattle.std.specs.Prelude.{ℕ, ◌-◌, Bool, true, false, not, ◌&&◌, if◌then◌else◌, nat_le, Option, Some, None, is_some, List, [], ◌∷◌, ◌++◌, length, bytes_eq, codes}
use Rattle.std.specs.List.{list_any}
use Rattle.tb_base.specs.declared.path.Region.{Region}
use Rattle.tb_base.specs.declared.path.Region.TheVariants.{Main, Monitor}

-- whether the name is one of these
abbrev pub is_among : List ℕ → List (List ℕ) → Bool
is_among name names = list_any (λ other. bytes_eq name other) names

-- known names; each handle with whether some fork in its scope gave it to a Monitor thread
pub record Known : Type 0 where
  pub variables : List (List ℕ)
  pub handles : List (List ℕ × Bool)

abbrev pub nothing_known : Known
nothing_known = record { variables = []; handles = [] }

-- inside a fork
abbrev pub inside_fork : Known → Known
inside_fork known = record { variables = known.variables; handles = [] }

-- of a known handle, whether some fork in its scope gave it to a Monitor thread
abbrev pub handle_named : List ℕ → List (List ℕ × Bool) → Option Bool
handle_named name [] = None
handle_named name (h ∷ hs) = if bytes_eq name h.0 then Some h.1 else handle_named name hs

abbrev pub is_handle : List ℕ → List (List ℕ × Bool) → Bool
is_handle name handles = is_some (handle_named name handles)

-- behind a `let`; that of a known variable makes no other known
abbrev pub with_variable : List ℕ → List (List ℕ) → List (List ℕ)
with_variable name names = if is_among name names then names else names ++ name ∷ []

-- behind a fork; that of a known handle makes no other known
abbrev pub with_handle : List ℕ → Bool → List (List ℕ × Bool) → List (List ℕ × Bool)
with_handle name watches handles = if is_handle name handles then handles else handles ++ (name, watches) ∷ []

-- the names that a driver's own statements use, which no text can write

abbrev pub drivers_variable : List ℕ
drivers_variable = codes "$r"

abbrev pub drivers_handle : List ℕ
drivers_handle = codes "$d"

-- whether one more name is one too many where so many are known; a driver's own name isn't counted
abbrev pub is_full : ℕ → ℕ → Bool → Bool
is_full limit count has_drivers = nat_le limit (if has_drivers then count - 1 else count)

-- at most so many variables, and so many handles, are known at one place

abbrev pub most_variables : ℕ
most_variables = 256

abbrev pub most_handles : ℕ
most_handles = 64

-- whether a `let` makes one variable too many known
abbrev pub one_variable_more : List ℕ → List (List ℕ) → Bool
one_variable_more name names =
    not (is_among name names) && (not (bytes_eq name drivers_variable) && is_full most_variables (length names) (is_among drivers_variable names))

-- whether a fork makes one handle too many known
abbrev pub one_handle_more : List ℕ → List (List ℕ × Bool) → Bool
one_handle_more name handles =
    not (is_handle name handles) && (not (bytes_eq name drivers_handle) && is_full most_handles (length handles) (is_handle drivers_handle handles))

-- regions

abbrev pub is_monitor : Region → Bool
is_monitor Main = false
is_monitor Monitor = true

-- the region of a forked thread: the one that is written, else that of the thread that forks it
abbrev pub child_region : Region → Option Region → Region
child_region region None = region
child_region region (Some written) = written
