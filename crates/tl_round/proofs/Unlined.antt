-- A test with the lines of its printed form is the same test but for its lines, and printing does not ask for these.
use Rattle.std.proofs.Common.{◌≡◌, ℕ, ◌+◌, List, [], ◌∷◌, ◌++◌, map, refl, sym, ap, ◌∙◌, subst}
use Rattle.std.specs.Prelude.{codes}
use Rattle.tl_ast.specs.Printed as printed
use Rattle.tl_ast.specs.Printed.{block_text, deeper, expr_text, stmt_level, stmt_text, printed_test}
use Rattle.tl_ast.specs.declared.tree.TestStmt.{TestStmt}
use Rattle.tl_ast.specs.declared.tree.TestStmt.TheOpen.{TestStmt-F, Poke, Peek, Expect, Step, Let, Set, If, While, Repeat, Fork, Join, JoinStep, Driver, ResetFor}
use Rattle.tl_ast.specs.declared.tree.TestStmt.TheVariants as stmt
use Rattle.tl_ast.specs.declared.tree.TestStmt.TheVariants.{rolls-Poke, rolls-Peek, rolls-Expect, rolls-Step, rolls-Let, rolls-Set, rolls-If, rolls-While, rolls-Repeat, rolls-Fork, rolls-Join, rolls-JoinStep, rolls-Driver, rolls-ResetFor}
use Rattle.tl_ast.specs.declared.tree.TestStmt.TheViews.{roll-TestStmt}
use Rattle.tl_ast.specs.declared.tree.TestStmt.TheFolds.{fold-roll-TestStmt, ind-TestStmt, map-TestStmt}
use Rattle.tl_ast.specs.declared.tree.TestText.{TestText}
use Rattle.tl_round.specs.Relined.{Placed, in_turn, behind_else, placed_level, stmt_placed, relined, unlined_level, stmt_unlined, unlined, SameButLines}

-- ---- only lines change

-- the statement without its line
unlined_roll : (x : TestStmt-F TestStmt) → stmt_unlined (roll-TestStmt x) ≡ unlined_level (map-TestStmt TestStmt TestStmt stmt_unlined x)
unlined_roll x = fold-roll-TestStmt TestStmt unlined_level x

abbrev IsSame : TestStmt → Type 0
IsSame x = (line : ℕ) → stmt_unlined (stmt_placed x line).0 ≡ stmt_unlined x

module _ (B : Type 0) (to : B → TestStmt) (same : (b : B) → IsSame (to b)) where
  turn_same : (bs : List B) (line : ℕ) → map stmt_unlined (in_turn (map stmt_placed (map to bs)) line).0 ≡ map stmt_unlined (map to bs)
  turn_same [] line = refl
  turn_same (b ∷ bs) line =
      ap (λ z. z ∷ map stmt_unlined (in_turn (map stmt_placed (map to bs)) (stmt_placed (to b) line).1).0) (same b line)
      ∙ ap (λ z. stmt_unlined (to b) ∷ z) (turn_same bs (stmt_placed (to b) line).1)

  else_same : (bs : List B) (line : ℕ) → map stmt_unlined (behind_else (map stmt_placed (map to bs)) line).0 ≡ map stmt_unlined (map to bs)
  else_same [] line = refl
  else_same (b ∷ bs) line = turn_same (b ∷ bs) (line + 1)

abbrev With : Type 0
With = (x : TestStmt) × IsSame x

abbrev given : With → TestStmt
given w = w.0

rolled_same : (x : TestStmt-F TestStmt) (y : TestStmt) → y ≡ roll-TestStmt x → stmt_unlined y ≡ unlined_level
    (map-TestStmt TestStmt TestStmt stmt_unlined x)
rolled_same x y e = ap stmt_unlined e ∙ unlined_roll x

level_same : (x : TestStmt-F With) (line : ℕ)
    → stmt_unlined (placed_level (map-TestStmt TestStmt (Placed TestStmt) stmt_placed (map-TestStmt With TestStmt given x)) line).0
    ≡ unlined_level (map-TestStmt TestStmt TestStmt stmt_unlined (map-TestStmt With TestStmt given x))
level_same (Poke old port value) line = rolled_same (Poke line port value) _ (sym (rolls-Poke line port value))
level_same (Peek old port into) line = rolled_same (Peek line port into) _ (sym (rolls-Peek line port into))
level_same (Expect old port value) line = rolled_same (Expect line port value) _ (sym (rolls-Expect line port value))
level_same (Step old count) line = rolled_same (Step line count) _ (sym (rolls-Step line count))
level_same (Let old name value) line = rolled_same (Let line name value) _ (sym (rolls-Let line name value))
level_same (Set old name value) line = rolled_same (Set line name value) _ (sym (rolls-Set line name value))
level_same (If old cond taken other) line =
    let one = in_turn (map stmt_placed (map given taken)) (line + 1) in
    let two = behind_else (map stmt_placed (map given other)) one.1 in
    rolled_same (If line cond one.0 two.0) _ (sym (rolls-If line cond one.0 two.0))
    ∙ ap (λ z. stmt.If 0 cond z (map stmt_unlined two.0)) (turn_same With given (λ b. b.1) taken (line + 1))
    ∙ ap (λ z. stmt.If 0 cond (map stmt_unlined (map given taken)) z) (else_same With given (λ b. b.1) other one.1)
level_same (While old cond body) line =
    let one = in_turn (map stmt_placed (map given body)) (line + 1) in
    rolled_same (While line cond one.0) _ (sym (rolls-While line cond one.0)) ∙ ap (stmt.While 0 cond)
    (turn_same With given (λ b. b.1) body (line + 1))
level_same (Repeat old count body) line =
    let one = in_turn (map stmt_placed (map given body)) (line + 1) in
    rolled_same (Repeat line count one.0) _ (sym (rolls-Repeat line count one.0)) ∙ ap (stmt.Repeat 0 count)
    (turn_same With given (λ b. b.1) body (line + 1))
level_same (Fork old region handle body) line =
    let one = in_turn (map stmt_placed (map given body)) (line + 1) in
    rolled_same (Fork line region handle one.0) _ (sym (rolls-Fork line region handle one.0)) ∙ ap (stmt.Fork 0 region handle)
    (turn_same With given (λ b. b.1) body (line + 1))
level_same (Join old handle) line = rolled_same (Join line handle) _ (sym (rolls-Join line handle))
level_same (JoinStep old handle) line = rolled_same (JoinStep line handle) _ (sym (rolls-JoinStep line handle))
level_same (Driver old kind port values) line = rolled_same (Driver line kind port values) _ (sym (rolls-Driver line kind port values))
level_same (ResetFor old count) line = rolled_same (ResetFor line count) _ (sym (rolls-ResetFor line count))

stmt_same : (x : TestStmt) (line : ℕ) → stmt_unlined (stmt_placed x line).0 ≡ stmt_unlined x
stmt_same = ind-TestStmt IsSame (λ x y is. subst (λ z. IsSame (roll-TestStmt z)) is (λ line.
    let z = map-TestStmt With TestStmt given y in
    ap (λ f. stmt_unlined (f line).0) (fold-roll-TestStmt (Placed TestStmt) placed_level z) ∙ level_same y line ∙ sym (unlined_roll z)))

body_same : (body : List TestStmt) (line : ℕ) → map stmt_unlined (in_turn (map stmt_placed body) line).0 ≡ map stmt_unlined body
body_same [] line = refl
body_same (x ∷ more) line =
    ap (λ z. z ∷ map stmt_unlined (in_turn (map stmt_placed more) (stmt_placed x line).1).0) (stmt_same x line)
    ∙ ap (λ z. stmt_unlined x ∷ z) (body_same more (stmt_placed x line).1)

pub only_lines : (t : TestText) → SameButLines t (relined t)
unfolding SameButLines relined
only_lines t = ap (λ (z : List TestStmt). record { body = z }) (sym (body_same t.body 1))

-- ---- printing does not ask for lines

abbrev IsPrinted : TestStmt → Type 0
IsPrinted x = (i : List ℕ) → stmt_text (stmt_unlined x) i ≡ stmt_text x i

module _ (B : Type 0) (to : B → TestStmt) (same : (b : B) → IsPrinted (to b)) where
  same_block : (bs : List B) (i : List ℕ) → block_text (map stmt_text (map stmt_unlined (map to bs))) i ≡ block_text
      (map stmt_text (map to bs)) i
  same_block [] i = refl
  same_block (b ∷ bs) i = ap (λ z. z ++ block_text (map stmt_text (map stmt_unlined (map to bs))) i) (same b i)
      ∙ ap (λ z. stmt_text (to b) i ++ z) (same_block bs i)

  same_else : (bs : List B) (i : List ℕ) → printed.else_text (map stmt_text (map stmt_unlined (map to bs))) i ≡ printed.else_text
      (map stmt_text (map to bs)) i
  same_else [] i = refl
  same_else (b ∷ bs) i = ap (λ z. printed.turns i ++ z) (same_block (b ∷ bs) (deeper i))

  same_braced : (words : List ℕ) (bs : List B) (i : List ℕ) → printed.braced i words (map stmt_text (map stmt_unlined (map to bs)))
      ≡ printed.braced i words (map stmt_text (map to bs))
  same_braced words bs i = ap (λ z. printed.opens i words ++ (z ++ printed.closes i)) (same_block bs (deeper i))

abbrev WithPrinted : Type 0
WithPrinted = (x : TestStmt) × IsPrinted x

abbrev told : WithPrinted → TestStmt
told w = w.0

rolled_text : (x : TestStmt-F TestStmt) (y : TestStmt) (i : List ℕ) → y ≡ roll-TestStmt x → stmt_text y i ≡ stmt_level
    (map-TestStmt TestStmt (List ℕ → List ℕ) stmt_text x) i
rolled_text x y i e = ap (λ z. stmt_text z i) e ∙ ap (λ f. f i) (fold-roll-TestStmt (List ℕ → List ℕ) stmt_level x)

level_printed : (x : TestStmt-F WithPrinted) (i : List ℕ)
    → stmt_text (unlined_level (map-TestStmt TestStmt TestStmt stmt_unlined (map-TestStmt WithPrinted TestStmt told x))) i
    ≡ stmt_level (map-TestStmt TestStmt (List ℕ → List ℕ) stmt_text (map-TestStmt WithPrinted TestStmt told x)) i
level_printed (Poke old port value) i = rolled_text (Poke 0 port value) _ i (sym (rolls-Poke 0 port value))
level_printed (Peek old port into) i = rolled_text (Peek 0 port into) _ i (sym (rolls-Peek 0 port into))
level_printed (Expect old port value) i = rolled_text (Expect 0 port value) _ i (sym (rolls-Expect 0 port value))
level_printed (Step old count) i = rolled_text (Step 0 count) _ i (sym (rolls-Step 0 count))
level_printed (Let old name value) i = rolled_text (Let 0 name value) _ i (sym (rolls-Let 0 name value))
level_printed (Set old name value) i = rolled_text (Set 0 name value) _ i (sym (rolls-Set 0 name value))
level_printed (If old cond taken other) i =
    let one = map stmt_unlined (map told taken) in
    let two = map stmt_unlined (map told other) in
    let head = printed.opens i (codes "if " ++ expr_text cond) in
    rolled_text (If 0 cond one two) _ i (sym (rolls-If 0 cond one two))
    ∙ ap (λ z. head ++ (z ++ (printed.else_text (map stmt_text two) i ++ printed.closes i)))
    (same_block WithPrinted told (λ b. b.1) taken (deeper i))
    ∙ ap (λ z. head ++ (block_text (map stmt_text (map told taken)) (deeper i) ++ (z ++ printed.closes i)))
    (same_else WithPrinted told (λ b. b.1) other i)
level_printed (While old cond body) i =
    let one = map stmt_unlined (map told body) in
    rolled_text (While 0 cond one) _ i (sym (rolls-While 0 cond one)) ∙ same_braced WithPrinted told (λ b. b.1)
    (codes "while " ++ expr_text cond) body i
level_printed (Repeat old count body) i =
    let one = map stmt_unlined (map told body) in
    rolled_text (Repeat 0 count one) _ i (sym (rolls-Repeat 0 count one)) ∙ same_braced WithPrinted told (λ b. b.1)
    (codes "repeat " ++ expr_text count) body i
level_printed (Fork old region handle body) i =
    let one = map stmt_unlined (map told body) in
    rolled_text (Fork 0 region handle one) _ i (sym (rolls-Fork 0 region handle one)) ∙ same_braced WithPrinted told (λ b. b.1)
    (printed.fork_words region handle) body i
level_printed (Join old handle) i = rolled_text (Join 0 handle) _ i (sym (rolls-Join 0 handle))
level_printed (JoinStep old handle) i = rolled_text (JoinStep 0 handle) _ i (sym (rolls-JoinStep 0 handle))
level_printed (Driver old kind port values) i = rolled_text (Driver 0 kind port values) _ i (sym (rolls-Driver 0 kind port values))
level_printed (ResetFor old count) i = rolled_text (ResetFor 0 count) _ i (sym (rolls-ResetFor 0 count))

stmt_printed : (x : TestStmt) (i : List ℕ) → stmt_text (stmt_unlined x) i ≡ stmt_text x i
stmt_printed = ind-TestStmt IsPrinted (λ x y is. subst (λ z. IsPrinted (roll-TestStmt z)) is (λ i.
    let z = map-TestStmt WithPrinted TestStmt told y in
    ap (λ t. stmt_text t i) (unlined_roll z) ∙ level_printed y i ∙ sym (ap (λ f. f i) (fold-roll-TestStmt (List ℕ → List ℕ) stmt_level z))))

body_printed : (xs : List TestStmt) (i : List ℕ) → block_text (map stmt_text (map stmt_unlined xs)) i ≡ block_text (map stmt_text xs) i
body_printed [] i = refl
body_printed (x ∷ xs) i = ap (λ z. z ++ block_text (map stmt_text (map stmt_unlined xs)) i) (stmt_printed x i)
    ∙ ap (λ z. stmt_text x i ++ z) (body_printed xs i)

unlined_printed : (t : TestText) → printed_test (unlined t) ≡ printed_test t
unfolding printed_test
unlined_printed t = body_printed t.body []

pub same_printed : (s t : TestText) → SameButLines s t → printed_test s ≡ printed_test t
unfolding SameButLines
same_printed s t e = sym (unlined_printed s) ∙ ap printed_test e ∙ unlined_printed t

pub relined_printed : (t : TestText) → printed_test (relined t) ≡ printed_test t
relined_printed t = sym (same_printed t (relined t) (only_lines t))
