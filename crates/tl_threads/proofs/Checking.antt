-- An allowed body is checked, with slots enough.
use Rattle.std.proofs.Common.{◌≡◌, ℕ, ◌≤◌, List, [], length, Option, Some, None, sym, subst, arith}
use Rattle.tb_base.specs.declared.path.Region.{Region}
use Rattle.tb_base.specs.declared.path.Region.TheVariants.{Main}
use Rattle.tl_ast.specs.declared.tree.TestText.{TestText}
use Rattle.tl_check.specs.Scopes.{Known as KnownNames, nothing_known, inside_fork, with_variable, with_handle}
use Rattle.tl_check.specs.Walk.{Ports, behind_let, behind_fork, test_rule}
use Rattle.tl_threads.specs.Values.{Name}
use Rattle.tl_threads.specs.Bodies.{Body, test_body}
use Rattle.tl_threads.specs.Bodies.Body.{nil, poke_port, peek_port, expect_port, step_by, let_var, if_true, while_true, repeat_by, fork_as, join_of, joinstep_of}
use Rattle.tl_threads.specs.Code.{slot, with_name, test_code}
use Rattle.tl_threads.specs.Stands.{Places, HasAt, Settable, Checked}
use Rattle.tl_threads.specs.Fits.{CodeOf}
use Rattle.tl_threads.specs.Allowed.{names_of, KnownInto, Allowed, most_vars, most_handles}
use Rattle.tl_threads.proofs.NameFacts.{find_below, known_slot, with_length}
use Rattle.tl_threads.proofs.Ruling.{rules_allow}
use Rattle.tl_threads.proofs.Allowing.{with_same, names_with, handle_known}

-- ---- no fewer slots than names

vars_below : (b : Body) (vs : List Name) → length vs ≤ most_vars b vs
vars_below nil vs = omega arith
vars_below (poke_port l p e k) vs = vars_below k vs
vars_below (peek_port l p into k) vs = vars_below k vs
vars_below (expect_port l p e k) vs = vars_below k vs
vars_below (step_by l count k) vs = vars_below k vs
vars_below (let_var l x e k) vs = let a = with_length vs x in let b = vars_below k (with_name vs x) in omega arith
vars_below (if_true l e a b k) vs = let r = vars_below k vs in omega arith
vars_below (while_true l e a k) vs = let r = vars_below k vs in omega arith
vars_below (repeat_by l e a k) vs = let r = vars_below k vs in omega arith
vars_below (fork_as l r h a k) vs = let r = vars_below k vs in omega arith
vars_below (join_of l h k) vs = vars_below k vs
vars_below (joinstep_of l h k) vs = vars_below k vs

handles_below : (b : Body) (hs : List Name) → length hs ≤ most_handles b hs
handles_below nil hs = omega arith
handles_below (poke_port l p e k) hs = handles_below k hs
handles_below (peek_port l p into k) hs = handles_below k hs
handles_below (expect_port l p e k) hs = handles_below k hs
handles_below (step_by l count k) hs = handles_below k hs
handles_below (let_var l x e k) hs = handles_below k hs
handles_below (if_true l e a b k) hs = let r = handles_below k hs in omega arith
handles_below (while_true l e a k) hs = let r = handles_below k hs in omega arith
handles_below (repeat_by l e a k) hs = let r = handles_below k hs in omega arith
handles_below (fork_as l r h a k) hs = let c = with_length hs h in let b = handles_below k (with_name hs h) in omega arith
handles_below (join_of l h k) hs = handles_below k hs
handles_below (joinstep_of l h k) hs = handles_below k hs

settable : (v : ℕ) (vs : List Name) (into : Option Name) → length vs ≤ v → KnownInto vs into → Settable v vs into
settable v vs None le k = tt
settable v vs (Some x) le k = let b = find_below x vs (slot x vs) (known_slot vs x k) in (k, (omega arith))

-- ---- what is allowed is checked

checked_of : (v h : ℕ) (b : Body) (g : Region) (n : KnownNames) → Allowed g n b → most_vars b n.variables ≤ v → most_handles b (names_of n.handles) ≤ h → Checked v h b n.variables (names_of n.handles)
checked_of v h nil g n a m j = tt
checked_of v h (poke_port l p e k) g n a m j = (a.0, checked_of v h k g n a.1 m j)
checked_of v h (peek_port l p into k) g n a m j = let b = vars_below k n.variables in (settable v n.variables into (omega arith) a.0, checked_of v h k g n a.1 m j)
checked_of v h (expect_port l p e k) g n a m j = (a.0, checked_of v h k g n a.1 m j)
checked_of v h (step_by l count k) g n a m j = checked_of v h k g n a m j
checked_of v h (let_var l x e k) g n a m j =
    let s : with_variable x n.variables ≡ with_name n.variables x = with_same x n.variables in
    let b = vars_below k (with_name n.variables x) in
    (a.0, (omega arith), subst (λ vs. Checked v h k vs (names_of n.handles)) s (checked_of v h k g (behind_let x n) a.1 (subst (λ vs. most_vars k vs ≤ v) (sym s) m) j))
checked_of v h (if_true l e a b k) g n t m j =
    (t.0, checked_of v h a g n t.1 (omega arith) (omega arith), checked_of v h b g n t.2 (omega arith) (omega arith), checked_of v h k g n t.3 (omega arith) (omega arith))
checked_of v h (while_true l e a k) g n t m j = (t.0, checked_of v h a g n t.1 (omega arith) (omega arith), checked_of v h k g n t.2 (omega arith) (omega arith))
checked_of v h (repeat_by l e a k) g n t m j = (t.0, checked_of v h a g n t.1 (omega arith) (omega arith), checked_of v h k g n t.2 (omega arith) (omega arith))
checked_of v h (fork_as l r x a k) g n t m j =
    let s : names_of (with_handle x t.0 n.handles) ≡ with_name (names_of n.handles) x = names_with x t.0 n.handles in
    let b = handles_below k (with_name (names_of n.handles) x) in
    let j' : most_handles k (with_name (names_of n.handles) x) ≤ h = omega arith in
    (checked_of v h a r (inside_fork n) t.2 (omega arith) (omega arith), (omega arith), subst (λ hs. Checked v h k n.variables hs) s (checked_of v h k g (behind_fork x t.0 n) t.4 (omega arith) (subst (λ hs. most_handles k hs ≤ h) (sym s) j')))
checked_of v h (join_of l x k) g n t m j = (handle_known x n.handles t.0.0 t.0.1, checked_of v h k g n t.1 m j)
checked_of v h (joinstep_of l x k) g n t m j = (handle_known x n.handles t.0.0 t.0.1, checked_of v h k g n t.1 m j)

pub allowed_is_checked : (v h : ℕ) (b : Body) → Allowed Main nothing_known b → most_vars b [] ≤ v → most_handles b [] ≤ h → Checked v h b [] []
allowed_is_checked v h b a m j = checked_of v h b Main nothing_known a m j

-- THE CODE OF A TEST that keeps the rules
pub rules_stand : (ports : Ports) (test : TestText) → test_rule test ports ≡ None → (v h : ℕ) (f : Places) → most_vars (test_body ports test) [] ≤ v → most_handles (test_body ports test) [] ≤ h → HasAt f 0 (test_code (test_body ports test)) → CodeOf v h f (test_body ports test)
rules_stand ports test e v h f m j c = record { checked = allowed_is_checked v h (test_body ports test) (rules_allow ports test e) m j; code = c }
