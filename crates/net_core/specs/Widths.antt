-- Least widths: what the connects of a circuit ask for.
use Rattle.std.specs.Prelude.{ℕ, ◌≡◌, ◌<◌, ◌≤◌, Bool, true, false, ◌||◌, is_none, List, [], ◌∷◌, ◌++◌, Option, Some, None, length, slice_index}
use Rattle.std.specs.List.{All}
use Rattle.net_core.specs.declared.tree.SignalInfo.{SignalInfo}
use Rattle.net_core.specs.declared.tree.GroundExpr.{GroundExpr}
use Rattle.net_core.specs.declared.tree.GroundReset.{GroundReset}
use Rattle.net_core.specs.declared.tree.Elab.{Elab}
use Rattle.net_core.specs.Signals.{info, is_node, given_width}
use Rattle.net_core.specs.Shapes.{shape}
use Rattle.net_core.specs.Body.{Body, done, declare, set, when, body_of}

-- an expression whose value a signal gets
pub record Asked : Type 0 where
  pub sink : ℕ
  pub source : GroundExpr

abbrev pub initial : ℕ → Option GroundReset → List Asked
initial x None = []
initial x (Some reset) = record { sink = x; source = reset.init } ∷ []

abbrev pub connected : ℕ → Option GroundExpr → List Asked
connected x None = []
connected x (Some e) = record { sink = x; source = e } ∷ []

-- connects, expressions of nodes, and initial values of registers, in the order of the body
abbrev pub sources : Body → List Asked
sources done = []
sources (declare x line reset rest) = initial x reset ++ sources rest
sources (set line x e rest) = connected x e ++ sources rest
sources (when line c taken other rest) = sources taken ++ (sources other ++ sources rest)

-- its width isn't written: it is chosen
abbrev pub is_free : SignalInfo → Bool
is_free i = is_node i.role || is_none i.width

-- `w` has a width for each signal. A written width stays, and a width that isn't written is at least that of each source
pub record Meets (e : Elab) (w : List ℕ) : Type 0 where
  pub written : (x : ℕ) → x < length e.signals → is_free (info e.signals x) ≡ false → slice_index w x ≡ given_width (info e.signals x)
  pub wide : All (λ a. is_free (info e.signals a.sink) ≡ true → (shape e.signals w a.source).width ≤ slice_index w a.sink) (sources (body_of e.body))

-- no width of v is above that of w
pub record Below (v w : List ℕ) : Type 0 where
  pub each : (x : ℕ) → slice_index v x ≤ slice_index w x

-- the least widths
pub record IsLeast (e : Elab) (w : List ℕ) : Type 0 where
  pub long : length w ≡ length e.signals
  pub meets : Meets e w
  pub least : (v : List ℕ) → length v ≡ length e.signals → Meets e v → Below w v
