-- What the rules of tests say of a body: each name that is used is known, no child is forked into a lesser region, and no child is joined
-- that may be of a greater region.
use Rattle.std.specs.Prelude.{◌≡◌, ℕ, suc, ◌≤◌, max, Bool, true, List, [], map, length, Option, Some, None}
use Rattle.tb_base.specs.declared.path.Region.{Region}
use Rattle.tb_base.specs.declared.path.Region.TheVariants.{Main}
use Rattle.tl_ast.specs.declared.tree.TestText.{TestText}
use Rattle.tl_check.specs.Scopes.{Known as KnownNames, nothing_known, inside_fork, handle_named, with_handle, is_monitor, most_variables, most_handles as handles_known}
use Rattle.tl_check.specs.Walk.{Ports, behind_let, behind_fork, test_rule}
use Rattle.tl_threads.specs.Values.{Name}
use Rattle.tl_threads.specs.Bodies.{Body, test_body}
use Rattle.tl_threads.specs.Bodies.Body.{nil, poke_port, peek_port, expect_port, step_by, let_var, if_true, while_true, repeat_by, fork_as, join_of, joinstep_of}
use Rattle.tl_threads.specs.Threads.{region_number}
use Rattle.tl_threads.specs.Code.{with_name, test_code}
use Rattle.tl_threads.specs.Stands.{Places, HasAt, Known, KnownIn, Checked}
use Rattle.tl_threads.specs.Fits.{CodeOf}

-- handles with whether some fork in their scope gives them to a Monitor thread
abbrev pub Handles : Type 0
Handles = List (Name × Bool)

abbrev pub names_of : Handles → List Name
names_of handles = map (λ h. h.0) handles

-- the handle is known, and where the region is Monitor it is one of those that some fork gives to a Monitor thread
abbrev pub Takes : Handles → Name → Region → Type 0
Takes handles name region = (watches : Bool) × (handle_named name handles ≡ Some watches) × (is_monitor region ≡ true → watches ≡ true)

-- a thread of this region may join the handle: where some fork gives it to a Monitor thread, the region is Monitor
abbrev pub MayJoin : Handles → Name → Region → Type 0
MayJoin handles name region = (watches : Bool) × (handle_named name handles ≡ Some watches) × (watches ≡ true → is_monitor region ≡ true)

abbrev pub KnownInto : List Name → Option Name → Type 0
KnownInto vars None = Unit {0}
KnownInto vars (Some x) = Known vars x

-- A BODY IS ALLOWED in a thread of a region, where these names are known
abbrev pub Allowed : Region → KnownNames → Body → Type 0
Allowed g n nil = Unit {0}
Allowed g n (poke_port l p e k) = KnownIn n.variables e × Allowed g n k
Allowed g n (peek_port l p into k) = KnownInto n.variables into × Allowed g n k
Allowed g n (expect_port l p e k) = KnownIn n.variables e × Allowed g n k
Allowed g n (step_by l count k) = Allowed g n k
Allowed g n (let_var l x e k) = KnownIn n.variables e × Allowed g (behind_let x n) k
Allowed g n (if_true l e a b k) = KnownIn n.variables e × Allowed g n a × Allowed g n b × Allowed g n k
Allowed g n (while_true l e a k) = KnownIn n.variables e × Allowed g n a × Allowed g n k
Allowed g n (repeat_by l e a k) = KnownIn n.variables e × Allowed g n a × Allowed g n k
Allowed g n (fork_as l r h a k) =
    (watches : Bool) × (region_number g ≤ region_number r) × Allowed r (inside_fork n) a
    × Takes (with_handle h watches n.handles) h r × Allowed g (behind_fork h watches n) k
Allowed g n (join_of l h k) = MayJoin n.handles h g × Allowed g n k
Allowed g n (joinstep_of l h k) = ((watches : Bool) × (handle_named h n.handles ≡ Some watches)) × Allowed g n k

-- A TEST THAT KEEPS THE RULES has an allowed body
abbrev pub RulesAllow : Type 0
RulesAllow = (ports : Ports) (test : TestText) → test_rule test ports ≡ None → Allowed Main nothing_known (test_body ports test)

-- ---- how many slots it takes

-- the greatest number of variables that are known at one place
abbrev pub most_vars : Body → List Name → ℕ
most_vars nil vs = length vs
most_vars (poke_port l p e k) vs = most_vars k vs
most_vars (peek_port l p into k) vs = most_vars k vs
most_vars (expect_port l p e k) vs = most_vars k vs
most_vars (step_by l count k) vs = most_vars k vs
most_vars (let_var l x e k) vs = most_vars k (with_name vs x)
most_vars (if_true l e a b k) vs = max (max (most_vars a vs) (most_vars b vs)) (most_vars k vs)
most_vars (while_true l e a k) vs = max (most_vars a vs) (most_vars k vs)
most_vars (repeat_by l e a k) vs = max (most_vars a vs) (most_vars k vs)
most_vars (fork_as l r h a k) vs = max (most_vars a vs) (most_vars k vs)
most_vars (join_of l h k) vs = most_vars k vs
most_vars (joinstep_of l h k) vs = most_vars k vs

-- the greatest number of handles that are known at one place
abbrev pub most_handles : Body → List Name → ℕ
most_handles nil hs = length hs
most_handles (poke_port l p e k) hs = most_handles k hs
most_handles (peek_port l p into k) hs = most_handles k hs
most_handles (expect_port l p e k) hs = most_handles k hs
most_handles (step_by l count k) hs = most_handles k hs
most_handles (let_var l x e k) hs = most_handles k hs
most_handles (if_true l e a b k) hs = max (max (most_handles a hs) (most_handles b hs)) (most_handles k hs)
most_handles (while_true l e a k) hs = max (most_handles a hs) (most_handles k hs)
most_handles (repeat_by l e a k) hs = max (most_handles a hs) (most_handles k hs)
most_handles (fork_as l r h a k) hs = max (most_handles a []) (most_handles k (with_name hs h))
most_handles (join_of l h k) hs = most_handles k hs
most_handles (joinstep_of l h k) hs = most_handles k hs

-- an allowed body is checked, with so many slots and with more
abbrev pub AllowedIsChecked : Type 0
AllowedIsChecked = (v h : ℕ) (body : Body) → Allowed Main nothing_known body
    → most_vars body [] ≤ v → most_handles body [] ≤ h → Checked v h body [] []

-- A TEST THAT KEEPS THE RULES takes few slots: as many as names may be known at one place, and one for a driver's own name
pub record FewSlots (body : Body) : Type 0 where
  pub vars : most_vars body [] ≤ suc most_variables
  pub handles : most_handles body [] ≤ suc handles_known

abbrev pub RulesBound : Type 0
RulesBound = (ports : Ports) (test : TestText) → test_rule test ports ≡ None → FewSlots (test_body ports test)

-- the code of a test that keeps the rules, with slots enough, is one whose places stand for threads
abbrev pub RulesStand : Type 0
RulesStand = (ports : Ports) (test : TestText) → test_rule test ports ≡ None → (v h : ℕ) (f : Places)
    → most_vars (test_body ports test) [] ≤ v → most_handles (test_body ports test) [] ≤ h → HasAt f 0 (test_code (test_body ports test))
    → CodeOf v h f (test_body ports test)
