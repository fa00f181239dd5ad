-- The ports that a test names, in its body and in the worlds that a permitted order reaches.
use Rattle.std.specs.Prelude.{◌≡◌, ℕ, ◌<◌, List, length, Some, None, slice_get}
use Rattle.std.specs.List.{All}
use Rattle.std.specs.FinMap as map
use Rattle.net_core.specs.declared.tree.Elab.{Elab}
use Rattle.net_core.specs.declared.ports.PortInfo.{PortInfo}
use Rattle.net_design.specs.Designs.{IsInput, ports_of}
use Rattle.tl_check.specs.Checked.{TestFor}
use Rattle.tl_check.specs.Walk.{test_rule}
use Rattle.tl_threads.specs.Bodies.{Body, test_body}
use Rattle.tl_threads.specs.Bodies.Body.{nil, poke_port, peek_port, expect_port, step_by, let_var, if_true, while_true, repeat_by, fork_as, join_of, joinstep_of}
use Rattle.tl_threads.specs.Threads.{Inner, next, most_local}
use Rattle.bench_model.specs.Paths.{Path}
use Rattle.bench_model.specs.Log.{Kind}
use Rattle.bench_model.specs.Log.Kind.{pokes, peeks, expects}
use Rattle.bench_model.specs.World.{Move, Thread, World}
use Rattle.bench_model.specs.World.Move.{poke, peek, expect}
use Rattle.bench_model.specs.Settle.{Limits}
use Rattle.bench_model.specs.TwoMoves.{Reached}
use Rattle.bench_setting.specs.Settings.{setting_of}

-- a signal of the circuit that is a port: it stands in the table of ports
pub record IsPort (e : Elab) (s : ℕ) : Type 0 where
  pub signal : s < length e.signals
  pub place : ℕ
  pub entry : List ℕ × PortInfo
  pub listed : slice_get (ports_of e) place ≡ Some entry
  pub number : entry.1.signal.0 ≡ s

-- A BODY NAMES PORTS of the circuit: it pokes inputs, and peeks and expects ports
abbrev pub BodyNames : Elab → Body → Type 0
BodyNames e nil = Unit {0}
BodyNames e (poke_port l p x k) = IsInput e p.0 × BodyNames e k
BodyNames e (peek_port l p into k) = IsPort e p.0 × BodyNames e k
BodyNames e (expect_port l p x k) = IsPort e p.0 × BodyNames e k
BodyNames e (step_by l count k) = BodyNames e k
BodyNames e (let_var l x v k) = BodyNames e k
BodyNames e (if_true l x a b k) = BodyNames e a × BodyNames e b × BodyNames e k
BodyNames e (while_true l x a k) = BodyNames e a × BodyNames e k
BodyNames e (repeat_by l x a k) = BodyNames e a × BodyNames e k
BodyNames e (fork_as l r h a k) = BodyNames e a × BodyNames e k
BodyNames e (join_of l h k) = BodyNames e k
BodyNames e (joinstep_of l h k) = BodyNames e k

-- a move does so
abbrev pub MoveNames : {I : Type 0} → Elab → Move I → Type 0
MoveNames e (poke l port v i) = IsInput e port
MoveNames e (peek l s shown i) = IsPort e s
MoveNames e (expect l s v i) = IsPort e s
MoveNames e _ = Unit {0}

-- and so does what an act shows to others
abbrev pub KindNames : Elab → Kind → Type 0
KindNames e (pokes port) = IsInput e port
KindNames e (peeks s) = IsPort e s
KindNames e (expects s) = IsPort e s
KindNames e _ = Unit {0}

-- A WORLD NAMES PORTS of the circuit: in the next move of each thread, in each event and in each record
pub record WorldNames (e : Elab) (w : World Inner) : Type 0 where
  pub moves : (p : Path) (t : Thread Inner) → map.get w.threads p ≡ Some t → MoveNames e (next most_local t.inner)
  pub events : All (λ d. KindNames e d.kind) w.log
  pub records : All (λ r. IsPort e r.signal) w.records

-- a test that keeps the rules for the ports of the circuit
pub record IsTestOf (e : Elab) (k : TestFor) : Type 0 where
  pub ports : k.ports ≡ ports_of e
  pub rules : test_rule k.test k.ports ≡ None

-- THE BODY OF SUCH A TEST names ports of the circuit
abbrev pub BodiesNamePorts : Type 0
BodiesNamePorts = (e : Elab) (k : TestFor) → IsTestOf e k → BodyNames e (test_body k.ports k.test)

-- AND SO DOES EACH WORLD that a permitted order of it reaches
abbrev pub WorldsNamePorts : Type 0
WorldsNamePorts = (e : Elab) (k : TestFor) (limits : Limits) → IsTestOf e k
    → (w : World Inner) → Reached (setting_of e k limits) w → WorldNames e w
