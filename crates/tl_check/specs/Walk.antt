-- `test_rule`: the first statement in text order that breaks a rule, and the first rule that it breaks.
--
-- The scope of a handle begins at the fork that makes it known and ends with the block of that fork. A fork of the same handle in this
-- scope, in a block inside too but not in the body of a fork, belongs to the scope.
use Rattle.std.specs.Prelude.{ℕ, Bool, false, ◌&&◌, ◌||◌, Option, Some, None, Result, Ok, Err, List, [], ◌∷◌, map, bytes_eq}
use Rattle.std.specs.List.{list_any}
use Rattle.tb_base.specs.declared.path.Region.{Region}
use Rattle.tb_base.specs.declared.path.Region.TheVariants.{Main}
use Rattle.net_core.specs.declared.ports.PortInfo.{PortInfo}
use Rattle.tl_ast.specs.declared.tree.TestStmt.{TestStmt}
use Rattle.tl_ast.specs.declared.tree.TestStmt.TheFolds.{fold-TestStmt}
use Rattle.tl_ast.specs.declared.tree.TestStmt.TheOpen.{TestStmt-F, Poke, Peek, Expect, Step, Let, Set, If, While, Repeat, Fork, Join, JoinStep, Driver, ResetFor}
use Rattle.tl_ast.specs.declared.tree.TestText.{TestText}
use Rattle.tl_check.specs.declared.rule.Rule.{Rule}
use Rattle.tl_check.specs.Scopes.{Known, nothing_known, inside_fork, with_variable, with_handle, is_monitor, child_region}
use Rattle.tl_check.specs.Rules.{Here, first_broken}

abbrev pub Ports : Type 0
Ports = List (List ℕ × PortInfo)

abbrev pub line_of : {A : Type 0} → TestStmt-F A → ℕ
line_of (Poke line _ _) = line
line_of (Peek line _ _) = line
line_of (Expect line _ _) = line
line_of (Step line _) = line
line_of (Let line _ _) = line
line_of (Set line _ _) = line
line_of (If line _ _ _) = line
line_of (While line _ _) = line
line_of (Repeat line _ _) = line
line_of (Fork line _ _ _) = line
line_of (Join line _) = line
line_of (JoinStep line _) = line
line_of (Driver line _ _ _) = line
line_of (ResetFor line _) = line

-- what is known behind a part, or the first rule that is broken in it, with the line
abbrev pub Outcome : Type 0
Outcome = Result Known (Rule × ℕ)

-- a statement in its block
pub record Part : Type 0 where
  -- whether a fork in it, but for those in bodies of forks, gives the handle to a Monitor thread; it stands in a thread of this region
  pub gives : Region → List ℕ → Bool
  -- what comes of it, with these ports, in a thread of this region, where this says which handles the rest of its block gives to Monitor threads
  pub goes_on : Ports → Region → (List ℕ → Bool) → Known → Outcome

-- whether one of these gives the handle to a Monitor thread
abbrev pub some_gives : List Part → Region → List ℕ → Bool
some_gives parts region name = list_any (λ p. p.gives region name) parts

abbrev pub after : Outcome → (Known → Outcome) → Outcome
after (Ok known) f = f known
after (Err broken) f = Err broken

-- one statement after another
abbrev pub in_turn : List Part → Ports → Region → Known → Outcome
in_turn [] ports region known = Ok known
in_turn (p ∷ ps) ports region known = after (p.goes_on ports region (some_gives ps region) known) (in_turn ps ports region)

-- behind a block other names are known than in it
abbrev pub leave : Known → Outcome → Outcome
leave known (Ok inside) = Ok known
leave known (Err broken) = Err broken

abbrev pub in_block : List Part → Ports → Region → Known → Outcome
in_block parts ports region known = leave known (in_turn parts ports region known)

abbrev pub gives_level : TestStmt-F Part → Region → List ℕ → Bool
gives_level (If _ _ taken other) region name = some_gives taken region name || some_gives other region name
gives_level (While _ _ body) region name = some_gives body region name
gives_level (Repeat _ _ body) region name = some_gives body region name
gives_level (Fork _ written handle _) region name = is_monitor (child_region region written) && bytes_eq name handle
gives_level _ region name = false

-- what is known behind a `let`
abbrev pub behind_let : List ℕ → Known → Known
behind_let name known = record { variables = with_variable name known.variables; handles = known.handles }

-- what is known behind a fork: its handle is a Monitor one where it, or the rest of its block, gives it to a Monitor thread
abbrev pub behind_fork : List ℕ → Bool → Known → Known
behind_fork handle watches known = record { variables = known.variables; handles = with_handle handle watches known.handles }

-- the blocks of a statement, and what it makes known
abbrev pub behind : TestStmt-F Part → Ports → Region → (List ℕ → Bool) → Known → Outcome
behind (Let _ name _) ports region rest known = Ok (behind_let name known)
behind (If _ _ taken other) ports region rest known = after (in_block taken ports region known) (in_block other ports region)
behind (While _ _ body) ports region rest known = in_block body ports region known
behind (Repeat _ _ body) ports region rest known = in_block body ports region known
behind (Fork _ written handle body) ports region rest known =
    leave (behind_fork handle (is_monitor (child_region region written) || rest handle) known)
    (in_turn body ports (child_region region written) (inside_fork known))
behind _ ports region rest known = Ok known

-- a broken rule ends it
abbrev pub unless_broken : Option Rule → ℕ → Outcome → Outcome
unless_broken None line outcome = outcome
unless_broken (Some rule) line outcome = Err (rule, line)

abbrev pub here : Ports → Region → Known → Here
here ports region known = record { ports = ports; region = region; known = known }

abbrev pub part_level : TestStmt-F Part → Part
part_level s = record {
  gives = gives_level s;
  goes_on = λ ports region rest known. unless_broken (first_broken (here ports region known) s) (line_of s) (behind s ports region rest known);
}

abbrev pub part : TestStmt → Part
part = fold-TestStmt Part part_level

abbrev pub broken_in : Outcome → Option (Rule × ℕ)
broken_in (Ok known) = None
broken_in (Err broken) = Some broken

-- the first statement in text order that breaks a rule: the first rule that it breaks, and its line
abbrev pub test_rule : TestText → Ports → Option (Rule × ℕ)
test_rule test ports = broken_in (in_turn (map part test.body) ports Main nothing_known)
