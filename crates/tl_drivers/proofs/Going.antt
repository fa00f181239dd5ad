-- Statements that keep the rules, one at a time, and what is known behind them.
use Rattle.std.proofs.Common.{◌≡◌, ℕ, ◌-◌, ◌^◌, List, [], ◌∷◌, map, Bool, true, false, not, cond, ◌||◌, ◌&&◌, nat_lt, nat_eq, Option, Some, None, Ok, refl, ap, ◌∙◌, eqb-true}
use Rattle.tb_base.specs.declared.path.Region.{Region}
use Rattle.tb_base.specs.declared.path.Region.TheVariants.{Monitor}
use Rattle.net_core.specs.declared.ports.PortInfo.{PortInfo}
use Rattle.net_core.specs.Ports.{port_named}
use Rattle.tl_ast.specs.declared.tree.TestExpr.{TestExpr}
use Rattle.tl_ast.specs.declared.tree.TestExpr.TheVariants.{Num}
use Rattle.tl_ast.specs.declared.tree.TestStmt.{TestStmt}
use Rattle.tl_ast.specs.declared.tree.TestStmt.TheVariants as stmt
use Rattle.tl_ast.specs.declared.tree.TestStmt.TheOpen as S
use Rattle.tl_ast.specs.declared.tree.TestStmt.TheOpen.{TestStmt-F}
use Rattle.tl_check.specs.Scopes.{Known, inside_fork, is_among, is_handle, drivers_variable, drivers_handle}
use Rattle.tl_check.specs.Values.{uses_unknown, is_missing, goes, is_bit, is_too_wide, literal_too_wide, some_too_wide}
use Rattle.tl_check.specs.Rules.{first_broken}
use Rattle.tl_check.specs.Walk.{Ports, Outcome, Part, line_of, some_gives, after, in_turn, leave, in_block, behind_let, behind_fork, behind, unless_broken, here, part_level, part}
use Rattle.tl_check.proofs.Unrolled.{fold-Poke, fold-Peek, fold-Expect, fold-Step, fold-Let, fold-If, fold-While, fold-Fork, fold-JoinStep, out-Num, unrolled}
use Rattle.tl_drivers.specs.Rows.{still_zero, watch}
use Rattle.tl_drivers.proofs.Names.{Name, and_no}
use Rattle.tl_drivers.proofs.Judging.{unbroken}

-- ---- ports

-- a port that is there, a UInt of one bit that goes this way
pub record Bit (input : Bool) (o : Option PortInfo) : Type 0 where
  pub info : PortInfo
  pub found : o ≡ Some info
  pub way : goes input (Some info) ≡ true
  pub unsigned : info.signed ≡ false
  pub width : info.width ≡ 1

-- a port that is there and goes this way
pub record There (input : Bool) (o : Option PortInfo) : Type 0 where
  pub info : PortInfo
  pub found : o ≡ Some info
  pub way : goes input (Some info) ≡ true

and_left : (a b : Bool) → (a && b) ≡ true → a ≡ true
and_left true b e = refl
and_left false b e = e

and_right : (a b : Bool) → (a && b) ≡ true → b ≡ true
and_right true b e = e
and_right false b e = absurd cc

pub not_true : (b : Bool) → not b ≡ true → b ≡ false
not_true false e = refl
not_true true e = absurd cc

one_wide : (n : ℕ) → nat_eq n 1 ≡ true → n ≡ 1
one_wide n e = eqb-true n 1 e

pub bit_there : (input : Bool) (o : Option PortInfo) → is_bit input o ≡ true → Bit input o
bit_there input None e = absurd cc
bit_there input (Some p) e =
    let a = and_left (goes input (Some p)) (not p.signed && nat_eq p.width 1) e in
    let b = and_right (goes input (Some p)) (not p.signed && nat_eq p.width 1) e in
    record { info = p; found = refl; way = a; unsigned = not_true p.signed (and_left (not p.signed) (nat_eq p.width 1) b); width = one_wide p.width (and_right (not p.signed) (nat_eq p.width 1) b) }

pub port_there : (input : Bool) (o : Option PortInfo) → goes input o ≡ true → There input o
port_there input None e = absurd cc
port_there input (Some p) e = record { info = p; found = refl; way = e }

-- a bit holds 0 and 1
one_held : (p : PortInfo) (n : ℕ) → p.signed ≡ false → p.width ≡ 1 → not (nat_lt n (2 ^ 1)) ≡ false → is_too_wide p (Num n) ≡ false
one_held p n s w e =
    ap (literal_too_wide p) (out-Num n) ∙ ap (λ b. not (nat_lt n (cond b (2 ^ (p.width - 1)) (2 ^ p.width)))) s ∙ ap (λ k. not (nat_lt n (2 ^ k))) w ∙ e

pub zero_fits : (input : Bool) (o : Option PortInfo) → Bit input o → some_too_wide o (Num 0 ∷ []) ≡ false
zero_fits input o b = ap (λ q. some_too_wide q (Num 0 ∷ [])) b.found ∙ ap (λ c. c || false) (one_held b.info 0 b.unsigned b.width refl)

pub one_fits : (input : Bool) (o : Option PortInfo) → Bit input o → some_too_wide o (Num 1 ∷ []) ≡ false
one_fits input o b = ap (λ q. some_too_wide q (Num 1 ∷ [])) b.found ∙ ap (λ c. c || false) (one_held b.info 1 b.unsigned b.width refl)

pub bit_found : (input : Bool) (o : Option PortInfo) → Bit input o → is_missing o ≡ false
bit_found input o b = ap is_missing b.found

pub bit_in : (o : Option PortInfo) → Bit true o → goes false o ≡ false
bit_in o b = ap (λ q. goes false q) b.found ∙ ap not b.way

pub there_found : (input : Bool) (o : Option PortInfo) → There input o → is_missing o ≡ false
there_found input o b = ap is_missing b.found

pub there_in : (o : Option PortInfo) → There true o → goes false o ≡ false
there_in o b = ap (λ q. goes false q) b.found ∙ ap not b.way

-- ---- expressions

pub num_known : (vs : List Name) (n : ℕ) → uses_unknown vs (Num n) ≡ false
num_known vs n = simp unrolled refl

pub zero_known : (vs : List Name) → is_among drivers_variable vs ≡ true → uses_unknown vs still_zero ≡ false
zero_known vs e = simp unrolled (ap (λ b. not b || false) e)

-- ---- statements

module _ (ports : Ports) where
  -- behind a statement this is known, where this says what the rest of its block gives
  abbrev pub Goes : TestStmt → Region → (Name → Bool) → Known → Known → Type 0
  Goes s g rest n m = (part s).goes_on ports g rest n ≡ Ok m

  pub goes_by : (s : TestStmt) (x : TestStmt-F Part) (g : Region) (rest : Name → Bool) (n m : Known) → part s ≡ part_level x
      → first_broken (here ports g n) x ≡ None → behind x ports g rest n ≡ Ok m → Goes s g rest n m
  goes_by s x g rest n m p b o =
      ap (λ (q : Part). q.goes_on ports g rest n) p ∙ ap (λ r. unless_broken r (line_of x) (behind x ports g rest n)) b ∙ o

  -- one statement, and then others
  pub and_then : (s : TestStmt) (ps : List Part) (g : Region) (n m : Known) (o : Outcome) → Goes s g (some_gives ps g) n m → in_turn ps ports g m ≡ o
      → in_turn (part s ∷ ps) ports g n ≡ o
  and_then s ps g n m o e f = ap (λ i. after i (in_turn ps ports g)) e ∙ f

  pub poke_goes : (l : ℕ) (p : Name) (e : TestExpr) (g : Region) (rest : Name → Bool) (n : Known) → is_missing (port_named p ports) ≡ false
      → goes false (port_named p ports) ≡ false → some_too_wide (port_named p ports) (e ∷ []) ≡ false → uses_unknown n.variables e ≡ false
      → Goes (stmt.Poke l p e) g rest n n
  poke_goes l p e g rest n found way width used =
      goes_by (stmt.Poke l p e) (S.Poke l p e) g rest n n (fold-Poke Part part_level l p e)
      (unbroken Part (here ports g n) (S.Poke l p e) (record {
        port = found;
        way = way;
        width = width;
        variable = ap (λ b. (b || false) || false) used;
        handle = refl;
        names = refl;
        join = refl;
        fork = refl;
        ready_valid = refl;
        step = refl;
      }))
      refl

  pub expect_goes : (l : ℕ) (p : Name) (e : TestExpr) (g : Region) (rest : Name → Bool) (n : Known) → is_missing (port_named p ports) ≡ false
      → some_too_wide (port_named p ports) (e ∷ []) ≡ false → uses_unknown n.variables e ≡ false → Goes (stmt.Expect l p e) g rest n n
  expect_goes l p e g rest n found width used =
      goes_by (stmt.Expect l p e) (S.Expect l p e) g rest n n (fold-Expect Part part_level l p e)
      (unbroken Part (here ports g n) (S.Expect l p e) (record {
        port = found;
        way = refl;
        width = width;
        variable = ap (λ b. (b || false) || false) used;
        handle = refl;
        names = refl;
        join = refl;
        fork = refl;
        ready_valid = refl;
        step = refl;
      }))
      refl

  pub peek_goes : (l : ℕ) (p x : Name) (g : Region) (rest : Name → Bool) (n : Known) → is_missing (port_named p ports) ≡ false → is_among x n.variables ≡ true
      → Goes (stmt.Peek l p (Some x)) g rest n n
  peek_goes l p x g rest n found set =
      goes_by (stmt.Peek l p (Some x)) (S.Peek l p (Some x)) g rest n n (fold-Peek Part part_level l p (Some x))
      (unbroken Part (here ports g n) (S.Peek l p (Some x)) (record {
        port = found;
        way = refl;
        width = refl;
        variable = ap not set;
        handle = refl;
        names = refl;
        join = refl;
        fork = refl;
        ready_valid = refl;
        step = refl;
      }))
      refl

  pub step_goes : (l count : ℕ) (g : Region) (rest : Name → Bool) (n : Known) → nat_eq count 0 ≡ false → Goes (stmt.Step l count) g rest n n
  step_goes l count g rest n some =
      goes_by (stmt.Step l count) (S.Step l count) g rest n n (fold-Step Part part_level l count)
      (unbroken Part (here ports g n) (S.Step l count) (record {
        port = refl;
        way = refl;
        width = refl;
        variable = refl;
        handle = refl;
        names = refl;
        join = refl;
        fork = refl;
        ready_valid = refl;
        step = some;
      }))
      refl

  -- a driver's own variable is never one too many
  pub let_goes : (l : ℕ) (e : TestExpr) (g : Region) (rest : Name → Bool) (n : Known) → uses_unknown n.variables e ≡ false
      → Goes (stmt.Let l drivers_variable e) g rest n (behind_let drivers_variable n)
  let_goes l e g rest n used =
      goes_by (stmt.Let l drivers_variable e) (S.Let l drivers_variable e) g rest n (behind_let drivers_variable n) (fold-Let Part part_level l drivers_variable e)
      (unbroken Part (here ports g n) (S.Let l drivers_variable e) (record {
        port = refl;
        way = refl;
        width = refl;
        variable = ap (λ b. (b || false) || false) used;
        handle = refl;
        names = and_no (not (is_among drivers_variable n.variables));
        join = refl;
        fork = refl;
        ready_valid = refl;
        step = refl;
      }))
      refl

  pub while_goes : (l : ℕ) (e : TestExpr) (body : List TestStmt) (g : Region) (rest : Name → Bool) (n i : Known) → uses_unknown n.variables e ≡ false
      → in_turn (map part body) ports g n ≡ Ok i → Goes (stmt.While l e body) g rest n n
  while_goes l e body g rest n i used inside =
      goes_by (stmt.While l e body) (S.While l e (map part body)) g rest n n (fold-While Part part_level l e body)
      (unbroken Part (here ports g n) (S.While l e (map part body)) (record {
        port = refl;
        way = refl;
        width = refl;
        variable = ap (λ b. (b || false) || false) used;
        handle = refl;
        names = refl;
        join = refl;
        fork = refl;
        ready_valid = refl;
        step = refl;
      }))
      (ap (leave n) inside)

  pub if_goes : (l : ℕ) (e : TestExpr) (taken : List TestStmt) (g : Region) (rest : Name → Bool) (n i : Known) → uses_unknown n.variables e ≡ false
      → in_turn (map part taken) ports g n ≡ Ok i → Goes (stmt.If l e taken []) g rest n n
  if_goes l e taken g rest n i used inside =
      goes_by (stmt.If l e taken []) (S.If l e (map part taken) []) g rest n n (fold-If Part part_level l e taken [])
      (unbroken Part (here ports g n) (S.If l e (map part taken) []) (record {
        port = refl;
        way = refl;
        width = refl;
        variable = ap (λ b. (b || false) || false) used;
        handle = refl;
        names = refl;
        join = refl;
        fork = refl;
        ready_valid = refl;
        step = refl;
      }))
      (ap (λ o. after (leave n o) (in_block [] ports g)) inside)

  -- nor is a driver's own handle
  pub watch_goes : (l : ℕ) (body : List TestStmt) (g : Region) (rest : Name → Bool) (n i : Known) → in_turn (map part body) ports Monitor (inside_fork n) ≡ Ok i
      → Goes (watch l body) g rest n (behind_fork drivers_handle true n)
  watch_goes l body g rest n i inside =
      goes_by (watch l body) (S.Fork l (Some Monitor) drivers_handle (map part body)) g rest n (behind_fork drivers_handle true n)
      (fold-Fork Part part_level l (Some Monitor) drivers_handle body)
      (unbroken Part (here ports g n) (S.Fork l (Some Monitor) drivers_handle (map part body)) (record {
        port = refl;
        way = refl;
        width = refl;
        variable = refl;
        handle = refl;
        names = and_no (not (is_handle drivers_handle n.handles));
        join = refl;
        fork = refl;
        ready_valid = refl;
        step = refl;
      }))
      (ap (leave (behind_fork drivers_handle true n)) inside)

  pub joinstep_goes : (l : ℕ) (x : Name) (g : Region) (rest : Name → Bool) (n : Known) → is_handle x n.handles ≡ true → Goes (stmt.JoinStep l x) g rest n n
  joinstep_goes l x g rest n there =
      goes_by (stmt.JoinStep l x) (S.JoinStep l x) g rest n n (fold-JoinStep Part part_level l x)
      (unbroken Part (here ports g n) (S.JoinStep l x) (record {
        port = refl;
        way = refl;
        width = refl;
        variable = refl;
        handle = ap not there;
        names = refl;
        join = refl;
        fork = refl;
        ready_valid = refl;
        step = refl;
      }))
      refl
