-- The expressions of a verification statement, one after another.
use Rattle.std.proofs.Common.{ℕ, zero, suc, ◌≡◌, ◌+◌, ◌<◌, ◌≤◌, ◌==◌, nat_lt, nat_le, Bool, true, false, not, ◌&&◌, ◌||◌, Option, None, option_map, List, [], ◌∷◌, ◌++◌, length, map, take, drop, get_or, refl, sym, ap, ◌∙◌, arith, add-one, subst}
use Rattle.std.specs.List.{list_any}
use Rattle.std.proofs.Math.Seq.{take-suc}
use Rattle.std.proofs.lemmas.Bool.Decides.{nat_tests}
use Rattle.std.proofs.Math.Dec.{eqb-suc-zero}
use Rattle.fir_ast.specs.declared.tree.Ty.{Ty}
use Rattle.fir_ast.specs.declared.tree.Expr.{Expr}
use Rattle.fir_ast.specs.declared.tree.VerifKind.{VerifKind}
use Rattle.fir_ast.specs.declared.tree.VerifKind.TheVariants.{Printf, Stop, Assert, Assume, Cover}
use Rattle.fir_ast.specs.Printed.{operands_before}
use Rattle.fir_check.specs.declared.exprs.Judgement.{Judgement}
use Rattle.fir_ast.specs.declared.tree.Module.{Module}
use Rattle.fir_ast.specs.declared.tree.Stmt.TheOpen.{Verif}
use Rattle.fir_check.specs.declared.broken.Broken.{Broken}
use Rattle.fir_check.specs.declared.judged.Args.{Args}
use Rattle.fir_check.specs.Seen.{meant}
use Rattle.fir_check.specs.Types.{is_ground}
use Rattle.fir_check.specs.Scopes.{Thing, Known, LevelRule, meaning_of, somewhere}
use Rattle.fir_check.specs.Rules.{fails, is_value, is_condition, has_no_clock, wrong_verif, unknown_level, wrong_level, clock_level, use_at}
use Rattle.fir_check.specs.Walking.{Told, ArgsTold, with_arg, misplaced}
use Rattle.fir_check.proofs.Names.{or_false, or_true, map_length}
use Rattle.fir_check.proofs.Bundles.{any_map}

or_assoc : (a b c : Bool) → (a || b) || c ≡ a || (b || c)
or_assoc true b c = refl
or_assoc false b c = refl

-- an item more
any_last : {X : Type 0} (p : X → Bool) (xs : List X) (x : X) → list_any p (xs ++ x ∷ []) ≡ list_any p xs || p x
any_last p [] x = or_false (p x)
any_last p (y ∷ ys) x = ap (λ b. p y || b) (any_last p ys x) ∙ sym (or_assoc (p y) (list_any p ys) (p x))

lt_suc : (a b : ℕ) → nat_lt a b ≡ nat_lt (suc a) (suc b)
lt_suc a b = grind (arith, nat_tests)

lt_zero : (a : ℕ) → false ≡ nat_lt a 0
lt_zero a = grind (arith, nat_tests)

zero_lt : (b : ℕ) → true ≡ nat_lt 0 (suc b)
zero_lt b = grind (arith, nat_tests)

le_suc : (a b : ℕ) → nat_le a b ≡ nat_le (suc a) (suc b)
le_suc a b = grind (arith, nat_tests)

zero_le : (b : ℕ) → true ≡ nat_le 0 b
zero_le b = grind (arith, nat_tests)

suc_le : (a : ℕ) → false ≡ nat_le (suc a) 0
suc_le a = grind (arith, nat_tests)

first_place : (k : ℕ) → nat_lt k 1 ≡ (k == 0)
first_place k = grind (arith, nat_tests)

any_take : {X : Type 0} (p : X → Bool) (n : ℕ) (xs : List X) (x : X) → list_any p (take n (xs ++ x ∷ [])) ≡ list_any p (take n xs) || (nat_lt (length xs) n && p x)
any_take p zero [] x = ap (λ b. b && p x) (lt_zero 0)
any_take p zero (y ∷ ys) x = ap (λ b. b && p x) (lt_zero (length (y ∷ ys)))
any_take p (suc n) [] x = take_one n ∙ ap (λ b. b && p x) (zero_lt n)
  where
    take_one : (k : ℕ) → list_any p (x ∷ take k []) ≡ p x
    take_one zero = or_false (p x)
    take_one (suc k) = or_false (p x)
any_take p (suc n) (y ∷ ys) x =
    ap (λ b. p y || b) (any_take p n ys x) ∙ sym (or_assoc (p y) (list_any p (take n ys)) (nat_lt (length ys) n && p x))
    ∙ ap (λ b. (p y || list_any p (take n ys)) || (b && p x)) (lt_suc (length ys) n)

any_drop : {X : Type 0} (p : X → Bool) (n : ℕ) (xs : List X) (x : X) → list_any p (drop n (xs ++ x ∷ [])) ≡ list_any p (drop n xs) || (nat_le n (length xs) && p x)
any_drop p zero xs x = any_last p xs x ∙ ap (λ b. list_any p xs || (b && p x)) (zero_le (length xs))
any_drop p (suc n) [] x = drop_one n ∙ ap (λ b. b && p x) (suc_le n)
  where
    drop_one : (k : ℕ) → list_any p (drop k []) ≡ false
    drop_one zero = refl
    drop_one (suc k) = refl
any_drop p (suc n) (y ∷ ys) x = any_drop p n ys x ∙ ap (λ b. list_any p (drop n ys) || (b && p x)) (le_suc n (length ys))

map_last : {X Y : Type 0} (f : X → Y) (xs : List X) (x : X) → map f (xs ++ x ∷ []) ≡ map f xs ++ f x ∷ []
map_last f [] x = refl
map_last f (y ∷ ys) x = ap (λ t. f y ∷ t) (map_last f ys x)

-- behind the first, up to the n-th
any_middle : {X : Type 0} (p : X → Bool) (n : ℕ) (xs : List X) (x : X) → list_any p (drop 1 (take n (xs ++ x ∷ []))) ≡ list_any p (drop 1 (take n xs)) || (not (length xs == 0) && (nat_lt (length xs) n && p x))
any_middle p zero [] x = refl
any_middle p zero (y ∷ ys) x = never (not (length (y ∷ ys) == 0)) (p x) ∙ ap (λ b. not (length (y ∷ ys) == 0) && (b && p x)) (lt_zero (length (y ∷ ys)))
  where
    never : (a b : Bool) → false ≡ (a && (false && b))
    never true b = refl
    never false b = refl
any_middle p (suc n) [] x = take_none n
  where
    take_none : (k : ℕ) → list_any p (take k []) ≡ false
    take_none zero = refl
    take_none (suc k) = refl
any_middle p (suc n) (y ∷ ys) x =
    any_take p n ys x ∙ ap (λ b. list_any p (take n ys) || (b && p x)) (lt_suc (length ys) n)
    ∙ ap (λ b. list_any p (take n ys) || (b && (nat_lt (suc (length ys)) (suc n) && p x))) (is_later (length ys))
  where
    is_later : (k : ℕ) → true ≡ not (suc k == 0)
    is_later k = ap not (sym (eqb-suc-zero k))

three : (a b c x y z : Bool) → (a || x) || ((b || y) || (c || z)) ≡ (a || (b || c)) || (x || (y || z))
three true b c x y z = refl
three false b c true y z = sym (or_true (b || c))
three false true c false y z = refl
three false false c false true z = sym (or_true c)
three false false c false false z = refl

wrong_last : (kind : VerifKind) (ms : List (Option Thing)) (m : Option Thing) (k : ℕ) → length ms ≡ k → wrong_verif kind (ms ++ m ∷ []) ≡ wrong_verif kind ms || misplaced k (operands_before kind) m
wrong_last kind ms m k l =
    let n : ℕ = operands_before kind in
    let v : Option Thing → Bool = fails is_value in
    let w : Option Thing → Bool = fails is_condition in
    let g : Option Thing → Bool = fails (λ t. is_ground t.ty) in
    ap (λ b. b || (list_any w (drop 1 (take n (ms ++ m ∷ []))) || list_any g (drop n (ms ++ m ∷ [])))) (any_take v 1 ms m ∙ ap (λ b. list_any v (take 1 ms) || (b && v m)) (first_place (length ms)))
    ∙ ap (λ b. (list_any v (take 1 ms) || ((length ms == 0) && v m)) || (b || list_any g (drop n (ms ++ m ∷ [])))) (any_middle w n ms m)
    ∙ ap (λ b. (list_any v (take 1 ms) || ((length ms == 0) && v m)) || ((list_any w (drop 1 (take n ms)) || (not (length ms == 0) && (nat_lt (length ms) n && w m))) || b)) (any_drop g n ms m)
    ∙ three (list_any v (take 1 ms)) (list_any w (drop 1 (take n ms))) (list_any g (drop n ms)) ((length ms == 0) && v m) (not (length ms == 0) && (nat_lt (length ms) n && w m)) (nat_le n (length ms) && g m)
    ∙ ap (λ j. wrong_verif kind ms || misplaced j n m) l

-- what a judgement says of an expression, where something in front of it may be of the wrong kind already
pub record ArgTold (T : List Ty) (known : List Known) (before : Bool) (e : Expr) (j : Judgement) : Type 0 where
  pub meaning : option_map (meant T) j.meaning ≡ meaning_of known e
  pub unknown : j.unknown ≡ somewhere unknown_level known e
  pub wrong : j.wrong ≡ somewhere wrong_level known e || before
  pub clock : j.clock ≡ somewhere clock_level known e

wrong_behind : (a b : Bool) → a || (b || a) ≡ a || b
wrong_behind true b = refl
wrong_behind false true = refl
wrong_behind false false = refl

args_last : (T : List Ty) → (kind : VerifKind) (known : List Known) (xs : List Expr) (k : ℕ) (e : Expr) (a : Args) (j : Judgement) → length xs ≡ k → ArgsTold kind known xs a → ArgTold T known a.wrong e j
    → ArgsTold kind known (xs ++ e ∷ []) (with_arg T k (operands_before kind) a j)
args_last T kind known xs k e a j l g h =
    let n : ℕ = operands_before kind in
    record {
      unknown = ap (λ b. b || j.unknown) g.unknown ∙ ap (λ b. list_any (somewhere unknown_level known) xs || b) h.unknown ∙ sym (any_last (somewhere unknown_level known) xs e);
      wrong = ap (λ b. a.wrong || b) h.wrong ∙ wrong_behind a.wrong (somewhere wrong_level known e) ∙ ap (λ b. b || somewhere wrong_level known e) g.wrong ∙ sym (any_last (somewhere wrong_level known) xs e);
      clock = ap (λ b. b || j.clock) g.clock ∙ ap (λ b. list_any (somewhere clock_level known) xs || b) h.clock ∙ sym (any_last (somewhere clock_level known) xs e);
      unfit = ap (λ b. b || misplaced k n (option_map (meant T) j.meaning)) g.unfit ∙ ap (λ m. wrong_verif kind (map (meaning_of known) xs) || misplaced k n m) h.meaning
          ∙ sym (wrong_last kind (map (meaning_of known) xs) (meaning_of known e) k (map_length (meaning_of known) xs ∙ l)) ∙ ap (wrong_verif kind) (sym (map_last (meaning_of known) xs e));
      clocked = ap (λ b. b || (nat_le n k && fails has_no_clock (option_map (meant T) j.meaning))) g.clocked
          ∙ ap (λ m. list_any (λ x. fails has_no_clock (meaning_of known x)) (drop n xs) || (nat_le n k && fails has_no_clock m)) h.meaning
          ∙ ap (λ i. list_any (λ x. fails has_no_clock (meaning_of known x)) (drop n xs) || (nat_le n i && fails has_no_clock (meaning_of known e))) (sym l)
          ∙ sym (any_drop (λ x. fails has_no_clock (meaning_of known x)) n xs e);
    }

take_length : {X : Type 0} (xs : List X) (k : ℕ) → k < length xs → length (take k xs) ≡ k
take_length [] k h = absurd (omega arith)
take_length (x ∷ xs) zero h = refl
take_length (x ∷ xs) (suc k) h = ap suc (take_length xs k (omega arith))

pub args_none : (kind : VerifKind) (known : List Known) (a : Args) → a ≡ record { unknown = false; wrong = false; clock = false; unfit = false; clocked = false } → ArgsTold kind known [] a
args_none Printf known a e = rw e (record { unknown = refl; wrong = refl; clock = refl; unfit = refl; clocked = refl })
args_none Stop known a e = rw e (record { unknown = refl; wrong = refl; clock = refl; unfit = refl; clocked = refl })
args_none Assert known a e = rw e (record { unknown = refl; wrong = refl; clock = refl; unfit = refl; clocked = refl })
args_none Assume known a e = rw e (record { unknown = refl; wrong = refl; clock = refl; unfit = refl; clocked = refl })
args_none Cover known a e = rw e (record { unknown = refl; wrong = refl; clock = refl; unfit = refl; clocked = refl })

pub args_next : (T : List Ty) → (kind : VerifKind) (known : List Known) (es : List Expr) (k n : ℕ) (e : Expr) (a b : Args) (j : Judgement) → k < length es → e ≡ get_or es k e → n ≡ operands_before kind
    → ArgsTold kind known (take k es) a → ArgTold T known a.wrong e j → b ≡ with_arg T k n a j → ArgsTold kind known (take (k + 1) es) b
args_next T kind known es k n e a b j w i o g h q =
    let t : take (k + 1) es ≡ take k es ++ e ∷ [] = ap (λ x. take x es) (add-one k) ∙ take-suc es k e w ∙ ap (λ x. take k es ++ x ∷ []) (sym i) in
    subst (λ (x : Args). ArgsTold kind known (take (k + 1) es) x) (sym (q ∙ ap (λ x. with_arg T k x a j) o))
    (subst (λ (xs : List Expr). ArgsTold kind known xs (with_arg T k (operands_before kind) a j)) (sym t) (args_last T kind known (take k es) k e a j (take_length es k w) g h))

take_all : {X : Type 0} (xs : List X) (k : ℕ) → length xs ≤ k → take k xs ≡ xs
take_all [] zero h = refl
take_all [] (suc k) h = refl
take_all (x ∷ xs) zero h = absurd (omega arith)
take_all (x ∷ xs) (suc k) h = ap (λ t. x ∷ t) (take_all xs k (omega arith))

pub args_end : (kind : VerifKind) (known : List Known) (es : List Expr) (k : ℕ) (a : Args) → length es ≤ k → ArgsTold kind known (take k es) a → ArgsTold kind known es a
args_end kind known es k a h g = subst (λ (xs : List Expr). ArgsTold kind known xs a) (take_all es k h) g

-- the uses of these expressions
pub uses_any : (rule : LevelRule) (known : List Known) (es : List Expr) → list_any (λ u. somewhere rule u.known u.expr) (map (use_at known) es) ≡ list_any (somewhere rule known) es
uses_any rule known es = any_map (λ u. somewhere rule u.known u.expr) (use_at known) es

pub told_verif : (modules : List Module) (m : Module) (known : List Known) (kind : VerifKind) (args : List Expr) (a : Args) (b : Broken) → ArgsTold kind known args a
    → b ≡ record { double = false; unknown = a.unknown; wrong = a.wrong || a.unfit; flow = false; clock = a.clock || a.clocked } → Told modules m known (Verif 0 kind args 0 [] None) b
told_verif modules m known kind args a b g e = record {
  double = ap (λ x. x.double) e;
  unknown = ap (λ x. x.unknown) e ∙ g.unknown ∙ sym (uses_any unknown_level known args) ∙ sym (or_false (list_any (λ u. somewhere unknown_level u.known u.expr) (map (use_at known) args)));
  wrong = ap (λ x. x.wrong) e ∙ ap (λ x. x || a.unfit) (g.wrong ∙ sym (uses_any wrong_level known args)) ∙ ap (λ x. list_any (λ u. somewhere wrong_level u.known u.expr) (map (use_at known) args) || x) g.unfit;
  flow = ap (λ x. x.flow) e;
  clock = ap (λ x. x.clock) e ∙ ap (λ x. x || a.clocked) (g.clock ∙ sym (uses_any clock_level known args)) ∙ ap (λ x. list_any (λ u. somewhere clock_level u.known u.expr) (map (use_at known) args) || x) g.clocked;
}
