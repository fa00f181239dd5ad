-- What is declared in a body, statement by statement.
use Rattle.std.specs.Prelude.{◌≡◌, ℕ, Bool, ◌+◌, List, ◌∷◌, [], ◌++◌, length, take}
use Rattle.fir_ast.specs.declared.tree.Module.{Module}
use Rattle.fir_flat.specs.declared.kinds.Known.{Known}
use Rattle.net_core.specs.declared.tree.Role.{Role}
use Rattle.fir_flat.specs.declared.signals.Declared.{Declared}
use Rattle.fir_flat.specs.declared.listing.Listed.{Listed}
use Rattle.fir_flat.specs.Bodies.{Body}
use Rattle.fir_flat.specs.Values.{Bound}
use Rattle.fir_flat.specs.Elaboration.{Entry, entries}
use Rattle.fir_flat.specs.Kinds.{seen}
use Rattle.fir_flat.specs.Signals.{seen_entries}
use Rattle.fir_flat.specs.Writing.{taken_by}

-- entries are added, and a name with so many signals
pub record Declares (known after : List Known) (t u : Listed) (b : Bound) (new : List Entry) (n : ℕ) : Type 0 where
  pub entries : seen_entries u.entries.items ≡ seen_entries t.entries.items ++ new
  pub next : u.next ≡ t.next + n
  pub names : seen after ≡ seen known ++ b ∷ []
  pub kept : take (length known) after ≡ known

-- one statement in front of any rest: what is listed and what is still to be listed stay the same
pub record Lists (modules : List Module) (prefix : List ℕ) (statement : Body → Body) (known after : List Known) (t u : Listed) : Type 0 where
  pub entries : (rest : Body) → seen_entries t.entries.items ++ entries modules prefix (seen known) t.next (statement rest)
      ≡ seen_entries u.entries.items ++ entries modules prefix (seen after) u.next rest
  pub next : (rest : Body) → t.next + taken_by modules (seen known) (statement rest) ≡ u.next + taken_by modules (seen after) rest
  pub kept : take (length known) after ≡ known

-- a whole block
pub record ListsBlock (modules : List Module) (prefix : List ℕ) (block : Body) (known : List Known) (t u : Listed) : Type 0 where
  pub entries : seen_entries u.entries.items ≡ seen_entries t.entries.items ++ entries modules prefix (seen known) t.next block
  pub next : u.next ≡ t.next + taken_by modules (seen known) block

-- what the loop of a block keeps
pub record ListsRest (modules : List Module) (prefix : List ℕ) (whole left : Body) (known now : List Known) (t u : Listed) : Type 0 where
  pub entries : seen_entries t.entries.items ++ entries modules prefix (seen known) t.next whole
      ≡ seen_entries u.entries.items ++ entries modules prefix (seen now) u.next left
  pub next : t.next + taken_by modules (seen known) whole ≡ u.next + taken_by modules (seen now) left
  pub kept : take (length known) now ≡ known

-- signals of one role
abbrev pub one_role : ℕ → Role → Bool → Declared
one_role line role written = record { line = line; along = role; against = role; written = written }
