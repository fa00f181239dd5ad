-- Worked examples: texts, and the tests that they spell, or their first faults.
use Rattle.std.specs.Prelude.{ℕ, ◌≡◌, Some, None, [], ◌∷◌, codes}
use Rattle.tb_base.specs.declared.path.Region.TheVariants.{Main, Monitor}
use Rattle.tb_base.specs.declared.place.Place.{Place}
use Rattle.text_grammar.specs.declared.fault.Kind.TheVariants.{Syntax, NumberTooWide, TooDeep}
use Rattle.tl_ast.specs.declared.tree.TestExpr.{TestExpr}
use Rattle.tl_ast.specs.declared.tree.TestExpr.TheVariants.{Num, Var, Neg, Two}
use Rattle.tl_ast.specs.declared.tree.TestOp.TheVariants.{Add, Sub, Mul, Shl, Eq, Lt}
use Rattle.tl_ast.specs.declared.tree.DriverKind.TheVariants.{Enqueue, EnqueueSeq, ExpectDequeueSeq, ExpectInvalid}
use Rattle.tl_ast.specs.declared.tree.TestStmt.{TestStmt}
use Rattle.tl_ast.specs.declared.tree.TestStmt.TheVariants.{Poke, Peek, Expect, Let, Set, If, Fork, Join, Driver}
use Rattle.tl_ast.specs.declared.tree.TestText.{TestText}
use Rattle.tl_ast.specs.Tests.{test_of, test_fault}

abbrev a : TestExpr
a = Var (codes "a")

abbrev b : TestExpr
b = Var (codes "b")

abbrev c : TestExpr
c = Var (codes "c")

abbrev only : TestStmt → TestText
only s = record { body = s ∷ [] }

-- a place on the first line
abbrev here : ℕ → Place
here column = record { line = 1; column = column }

pub record SpelledExamples : Type 0 where
  pub none : test_of [] ≡ Some (record { body = [] })
  pub poke : test_of (codes "poke io.v[0x2] = a;") ≡ Some (only (Poke 1 (codes "io.v[2]") a))
  pub peek : test_of (codes "peek into into into;") ≡ Some (only (Peek 1 (codes "into") (Some (codes "into"))))
  -- all but comparisons group to the left, and a sum is tighter than a comparison
  pub left : test_of (codes "let a = a - b - c;") ≡ Some (only (Let 1 (codes "a") (Two Sub (Two Sub a b) c)))
  pub tighter : test_of (codes "set a = a + b * c < c << b;") ≡ Some (only (Set 1 (codes "a") (Two Lt (Two Add a (Two Mul b c)) (Two Shl c b))))
  pub signs : test_of (codes "set a = - - a * (b + c);") ≡ Some (only (Set 1 (codes "a") (Two Mul (Neg (Neg a)) (Two Add b c))))
  pub expect : test_of (codes "expect p == (a == b);") ≡ Some (only (Expect 1 (codes "p") (Two Eq a b)))
  -- an `else` goes with the `if` in front of it
  pub branches : test_of (codes "if a { if b { } else { join w; } }") ≡ Some (only (If 1 a (If 1 b [] (Join 1 (codes "w") ∷ []) ∷ []) []))
  -- a handle may be called as a region is
  pub regions : test_of (codes "fork main { } fork main main { } fork monitor w { }")
      ≡ Some (record { body = Fork 1 None (codes "main") [] ∷ Fork 1 (Some Main) (codes "main") [] ∷ Fork 1 (Some Monitor) (codes "w") [] ∷ [] })
  -- drivers: of a value, of a list, of none
  pub value : test_of (codes "enqueue q[1] -a;") ≡ Some (only (Driver 1 Enqueue (codes "q[1]") (Neg a ∷ [])))
  pub numbers : test_of (codes "enqueueSeq q[1].e[2][3, 4];") ≡ Some (only (Driver 1 EnqueueSeq (codes "q[1].e[2]") (Num 3 ∷ Num 4 ∷ [])))
  pub one_number : test_of (codes "enqueueSeq q[1][2];") ≡ Some (only (Driver 1 EnqueueSeq (codes "q[1]") (Num 2 ∷ [])))
  pub one_list : test_of (codes "expectDequeueSeq q[1];") ≡ Some (only (Driver 1 ExpectDequeueSeq (codes "q") (Num 1 ∷ [])))
  pub empty_list : test_of (codes "expectDequeueSeq q[];") ≡ Some (only (Driver 1 ExpectDequeueSeq (codes "q") []))
  pub nothing : test_of (codes "expectInvalid q;") ≡ Some (only (Driver 1 ExpectInvalid (codes "q") []))

pub record FaultyExamples : Type 0 where
  pub two_comparisons : test_fault (codes "let a = a == b == c;") ≡ Some (Syntax, here 16)
  pub no_statement : test_fault (codes "stop;") ≡ Some (Syntax, here 1)
  pub lone_else : test_fault (codes "while a { } else { }") ≡ Some (Syntax, here 13)
  pub unfinished : test_fault (codes "step 3") ≡ Some (Syntax, here 7)
  pub wide : test_fault (codes "step 0x100000000000000000000000000000000;") ≡ Some (NumberTooWide, here 6)
  -- behind a list that is no number alone, nothing but `;` stands
  pub no_index : test_fault (codes "enqueueSeq q[(1)].e[2];") ≡ Some (Syntax, here 18)
  pub no_list : test_fault (codes "enqueueSeq q.e;") ≡ Some (Syntax, here 15)
  pub no_number : test_fault (codes "enqueue q[a] b;") ≡ Some (Syntax, here 11)
  -- the ninth fork, at its first word
  pub forks : test_fault (codes "fork a{fork a{fork a{fork a{fork a{fork a{fork a{fork a{join a;expectInvalid") ≡ Some (TooDeep, here 64)
  -- the 33rd `{`
  pub blocks : test_fault (codes "while a{while a{while a{while a{while a{while a{while a{while a{while a{while a{while a{while a{while a{while a{while a{while a{while a{while a{while a{while a{while a{while a{while a{while a{while a{while a{while a{while a{while a{while a{while a{while a{while a{")
      ≡ Some (TooDeep, here 264)
  -- the 33rd `(`
  pub parens : test_fault (codes "set a = (((((((((((((((((((((((((((((((((") ≡ Some (TooDeep, here 41)
  -- the 65th operator
  pub operators : test_fault (codes "set a = -----------------------------------------------------------------") ≡ Some (TooDeep, here 73)
  pub sums : test_fault (codes "set a = 1+1+1+1+1+1+1+1+1+1+1+1+1+1+1+1+1+1+1+1+1+1+1+1+1+1+1+1+1+1+1+1+1+1+1+1+1+1+1+1+1+1+1+1+1+1+1+1+1+1+1+1+1+1+1+1+1+1+1+1+1+1+1+1+1+1") ≡ Some (TooDeep, here 138)
