-- What the fold over an expression gives at each variant, as the code gathers it.
use Rattle.std.proofs.Common.{ℕ, zero, suc, Bool, true, false, not, ◌&&◌, ◌||◌, ◌≡◌, ◌+◌, ◌<◌, ◌==◌, List, [], ◌∷◌, ◌++◌, length, map, take, drop, get_or, refl, sym, ap, ◌∙◌, subst, arith, add-one, Option, None, Some, is_some, option_map, option_and_then, if◌then◌else◌}
use Rattle.std.specs.List.{list_any, list_all}
use Rattle.std.proofs.Math.Seq.{take-suc}
use Rattle.std.proofs.Math.Dec.{eqb-suc-zero, eqb-zero-suc, eqb-suc-suc}
use Rattle.tb_base.specs.declared.op.Op.{Op}
use Rattle.tb_base.specs.declared.op.Op.TheVariants.{Add, Sub, Mul, Div, Rem, Lt, Leq, Gt, Geq, Eq, Neq, Pad, AsUInt, AsSInt, Shl, Shr, Dshl, Dshr, Cvt, Neg, Not, And, Or, Xor, Andr, Orr, Xorr, Cat, Bits, Head, Tail, Mux}
use Rattle.fir_ast.specs.declared.tree.Ty.{Ty}
use Rattle.fir_ast.specs.declared.tree.Expr.{Expr}
use Rattle.fir_ast.specs.declared.tree.Expr.TheVariants as expr
use Rattle.fir_ast.specs.declared.tree.Expr.TheOpen.{Index, Apply}
use Rattle.fir_check.specs.declared.exprs.Judgement.{Judgement}
use Rattle.fir_check.specs.declared.exprs.Operands.{Operands}
use Rattle.fir_check.specs.declared.thing.Thing.{Thing as LentThing}
use Rattle.fir_check.specs.Seen.{meant}
use Rattle.fir_check.specs.Scopes.{Thing, Known, LevelRule, Judged, judged, judged_level, element_thing, operand, meaning_of, applied_thing}
use Rattle.fir_check.specs.Rules.{fails, is_operand, has_no_clock, wrong_index, wrong_operands, unknown_level, wrong_level, clock_level}
use Rattle.fir_check.specs.Judging.{no_rule, verdict, meaning_seen, Judges, Gathers, is_broken, meaning_under, with_operand, applied_given, wrong_given, wrong_mux, misfit, clock_given}
use Rattle.fir_check.proofs.Unrolled.{expr-Apply, expr-Index}
use Rattle.fir_check.proofs.Names.{or_false}
use Rattle.fir_check.proofs.Bundles.{any_map}

-- what a judgement holds
pub record Holds (T : List Ty) (j : Judgement) (meaning : Option Thing) (unknown wrong clock : Bool) : Type 0 where
  pub meaning_is : meaning_seen T j ≡ meaning
  pub unknown_is : j.unknown ≡ unknown
  pub wrong_is : j.wrong ≡ wrong
  pub clock_is : j.clock ≡ clock

verdict_same : (m n : Option Thing) (a b : Bool) → n ≡ m → b ≡ a → verdict m a ≡ verdict n b
verdict_same m n a b p q = ap (λ x. verdict x a) (sym p) ∙ ap (verdict n) (sym q)

-- operations

applied_is : (op : Op) (ms : List (Option Thing)) → applied_thing op ms ≡ applied_given op (operand 0 ms) (operand 1 ms)
applied_is Add ms = refl
applied_is Sub ms = refl
applied_is Mul ms = refl
applied_is Div ms = refl
applied_is Rem ms = refl
applied_is Lt ms = refl
applied_is Leq ms = refl
applied_is Gt ms = refl
applied_is Geq ms = refl
applied_is Eq ms = refl
applied_is Neq ms = refl
applied_is Pad ms = refl
applied_is AsUInt ms = refl
applied_is AsSInt ms = refl
applied_is Shl ms = refl
applied_is Shr ms = refl
applied_is Dshl ms = refl
applied_is Dshr ms = refl
applied_is Cvt ms = refl
applied_is Neg ms = refl
applied_is Not ms = refl
applied_is And ms = refl
applied_is Or ms = refl
applied_is Xor ms = refl
applied_is Andr ms = refl
applied_is Orr ms = refl
applied_is Xorr ms = refl
applied_is Cat ms = refl
applied_is Bits ms = refl
applied_is Head ms = refl
applied_is Tail ms = refl
applied_is Mux ms = refl

clock_is : (op : Op) (known : List Known) (ms : List (Option Thing)) (nums : List ℕ) → clock_level known (Apply op ms nums) ≡ clock_given op (list_any (fails has_no_clock) (drop 1 ms))
clock_is Add known ms nums = refl
clock_is Sub known ms nums = refl
clock_is Mul known ms nums = refl
clock_is Div known ms nums = refl
clock_is Rem known ms nums = refl
clock_is Lt known ms nums = refl
clock_is Leq known ms nums = refl
clock_is Gt known ms nums = refl
clock_is Geq known ms nums = refl
clock_is Eq known ms nums = refl
clock_is Neq known ms nums = refl
clock_is Pad known ms nums = refl
clock_is AsUInt known ms nums = refl
clock_is AsSInt known ms nums = refl
clock_is Shl known ms nums = refl
clock_is Shr known ms nums = refl
clock_is Dshl known ms nums = refl
clock_is Dshr known ms nums = refl
clock_is Cvt known ms nums = refl
clock_is Neg known ms nums = refl
clock_is Not known ms nums = refl
clock_is And known ms nums = refl
clock_is Or known ms nums = refl
clock_is Xor known ms nums = refl
clock_is Andr known ms nums = refl
clock_is Orr known ms nums = refl
clock_is Xorr known ms nums = refl
clock_is Cat known ms nums = refl
clock_is Bits known ms nums = refl
clock_is Head known ms nums = refl
clock_is Tail known ms nums = refl
clock_is Mux known ms nums = refl

-- what is gathered of what the operands stand for
pub record Given (T : List Ty) (ms : List (Option Thing)) (o : Operands) : Type 0 where
  pub first : option_map (meant T) o.first ≡ operand 0 ms
  pub second : option_map (meant T) o.second ≡ operand 1 ms
  pub third : option_map (meant T) o.third ≡ operand 2 ms
  pub all_known : o.all_known ≡ list_all is_some ms
  pub unfit : o.unfit ≡ list_any (fails is_operand) ms

mux_wrong : (T : List Ty) → (ms : List (Option Thing)) (o : Operands) → Given T ms o
    → wrong_mux (operand 0 ms) (operand 1 ms) (operand 2 ms) ≡ wrong_mux (option_map (meant T) o.first) (option_map (meant T) o.second) (option_map (meant T) o.third)
mux_wrong T ms o g =
    ap (λ a. wrong_mux a (operand 1 ms) (operand 2 ms)) (sym g.first)
    ∙ ap (λ b. wrong_mux (option_map (meant T) o.first) b (operand 2 ms)) (sym g.second)
    ∙ ap (λ c. wrong_mux (option_map (meant T) o.first) (option_map (meant T) o.second) c) (sym g.third)

other_wrong : (T : List Ty) → (op : Op) (ms : List (Option Thing)) (o : Operands) → Given T ms o
    → (list_any (fails is_operand) ms || (list_all is_some ms && misfit op (operand 0 ms) (operand 1 ms) (operand 2 ms)))
    ≡ (o.unfit || (o.all_known && misfit op (option_map (meant T) o.first) (option_map (meant T) o.second) (option_map (meant T) o.third)))
other_wrong T op ms o g =
    ap (λ b. b || (list_all is_some ms && misfit op (operand 0 ms) (operand 1 ms) (operand 2 ms))) (sym g.unfit)
    ∙ ap (λ b. o.unfit || (b && misfit op (operand 0 ms) (operand 1 ms) (operand 2 ms))) (sym g.all_known)
    ∙ ap (λ a. o.unfit || (o.all_known && misfit op a (operand 1 ms) (operand 2 ms))) (sym g.first)
    ∙ ap (λ a. o.unfit || (o.all_known && misfit op (option_map (meant T) o.first) a (operand 2 ms))) (sym g.second)
    ∙ ap (λ a. o.unfit || (o.all_known && misfit op (option_map (meant T) o.first) (option_map (meant T) o.second) a)) (sym g.third)

wrong_is : (T : List Ty) → (op : Op) (ms : List (Option Thing)) (o : Operands) → Given T ms o → wrong_operands op ms ≡ wrong_given T op o
wrong_is T Mux ms o g = mux_wrong T ms o g
wrong_is T Add ms o g = other_wrong T Add ms o g
wrong_is T Sub ms o g = other_wrong T Sub ms o g
wrong_is T Mul ms o g = other_wrong T Mul ms o g
wrong_is T Div ms o g = other_wrong T Div ms o g
wrong_is T Rem ms o g = other_wrong T Rem ms o g
wrong_is T Lt ms o g = other_wrong T Lt ms o g
wrong_is T Leq ms o g = other_wrong T Leq ms o g
wrong_is T Gt ms o g = other_wrong T Gt ms o g
wrong_is T Geq ms o g = other_wrong T Geq ms o g
wrong_is T Eq ms o g = other_wrong T Eq ms o g
wrong_is T Neq ms o g = other_wrong T Neq ms o g
wrong_is T Pad ms o g = other_wrong T Pad ms o g
wrong_is T AsUInt ms o g = other_wrong T AsUInt ms o g
wrong_is T AsSInt ms o g = other_wrong T AsSInt ms o g
wrong_is T Shl ms o g = other_wrong T Shl ms o g
wrong_is T Shr ms o g = other_wrong T Shr ms o g
wrong_is T Dshl ms o g = other_wrong T Dshl ms o g
wrong_is T Dshr ms o g = other_wrong T Dshr ms o g
wrong_is T Cvt ms o g = other_wrong T Cvt ms o g
wrong_is T Neg ms o g = other_wrong T Neg ms o g
wrong_is T Not ms o g = other_wrong T Not ms o g
wrong_is T And ms o g = other_wrong T And ms o g
wrong_is T Or ms o g = other_wrong T Or ms o g
wrong_is T Xor ms o g = other_wrong T Xor ms o g
wrong_is T Andr ms o g = other_wrong T Andr ms o g
wrong_is T Orr ms o g = other_wrong T Orr ms o g
wrong_is T Xorr ms o g = other_wrong T Xorr ms o g
wrong_is T Cat ms o g = other_wrong T Cat ms o g
wrong_is T Bits ms o g = other_wrong T Bits ms o g
wrong_is T Head ms o g = other_wrong T Head ms o g
wrong_is T Tail ms o g = other_wrong T Tail ms o g

map_twice : {X Y Z : Type 0} (f : Y → Z) (g : X → Y) (xs : List X) → map f (map g xs) ≡ map (λ x. f (g x)) xs
map_twice f g [] = refl
map_twice f g (x ∷ xs) = ap (λ t. f (g x) ∷ t) (map_twice f g xs)

-- an operation under one rule
apply_under : (rule : LevelRule) (known : List Known) (op : Op) (es : List Expr) (nums : List ℕ) → map (meaning_under rule known) es ≡ map (meaning_of known) es
    → judged rule known (expr.Apply op es nums)
    ≡ verdict (applied_thing op (map (meaning_of known) es)) (rule known (Apply op (map (meaning_of known) es) nums) || list_any (is_broken rule known) es)
apply_under rule known op es nums e =
    expr-Apply Judged (judged_level rule known) op es nums
    ∙ ap (λ ms. verdict (applied_thing op ms) (rule known (Apply op ms nums) || list_any (λ (a : Judged). a.broken) (map (judged rule known) es)))
    (map_twice (λ (a : Judged). a.meaning) (judged rule known) es ∙ e)
    ∙ ap (λ b. verdict (applied_thing op (map (meaning_of known) es)) (rule known (Apply op (map (meaning_of known) es) nums) || b))
    (any_map (λ (a : Judged). a.broken) (judged rule known) es)

-- one that is wrong besides, in front of what was wrong before
one_besides : (list before w : Bool) → (list || before) || w ≡ (w || list) || before
one_besides true before true = refl
one_besides true before false = refl
one_besides false true true = refl
one_besides false true false = refl
one_besides false false true = refl
one_besides false false false = refl

pub judges_apply : (T : List Ty) → (known : List Known) (before : Bool) (op : Op) (es : List Expr) (nums : List ℕ) (o : Operands) (j : Judgement) → Gathers T known before es o
    → Holds T j (applied_given op (option_map (meant T) o.first) (option_map (meant T) o.second)) o.unknown (o.wrong || wrong_given T op o) (clock_given op o.clocked || o.clock)
    → Judges T known before (expr.Apply op es nums) j
judges_apply T known before op es nums o j g s =
    let ms : List (Option Thing) = map (meaning_of known) es in
    let m : meaning_seen T j ≡ applied_thing op ms =
    s.meaning_is ∙ ap (λ a. applied_given op a (option_map (meant T) o.second)) g.first ∙ ap (applied_given op (operand 0 ms)) g.second ∙ sym (applied_is op ms) in
    record {
      meaning = apply_under no_rule known op es nums refl ∙ verdict_same _ _ _ _ m (sym g.sound);
      unknown = apply_under unknown_level known op es nums g.under_unknown ∙ verdict_same _ _ _ _ m (s.unknown_is ∙ g.unknown);
      wrong = s.wrong_is
          ∙ ap (λ b. o.wrong || b) (sym (wrong_is T op ms o (record { first = g.first; second = g.second; third = g.third; all_known = g.all_known; unfit = g.unfit })))
          ∙ ap (λ b. b || wrong_operands op ms) g.wrong
          ∙ one_besides (list_any (is_broken wrong_level known) es) before (wrong_operands op ms)
          ∙ ap (λ b. b || before) (sym (ap (λ (v : Judged). v.broken) (apply_under wrong_level known op es nums g.under_wrong)));
      under_wrong = ap (λ (v : Judged). v.meaning) (apply_under wrong_level known op es nums g.under_wrong) ∙ sym m;
      clock = apply_under clock_level known op es nums g.under_clock
          ∙ verdict_same _ _ _ _ m
          (s.clock_is
          ∙ ap (λ b. clock_given op b || o.clock) g.clocked
          ∙ ap (λ b. b || o.clock) (sym (clock_is op known ms nums))
          ∙ ap (λ b. clock_level known (Apply op ms nums) || b) g.clock);
    }

-- one more operand

map_last : {X Y : Type 0} (f : X → Y) (xs : List X) (x : X) → map f (xs ++ x ∷ []) ≡ map f xs ++ f x ∷ []
map_last f [] x = refl
map_last f (y ∷ ys) x = ap (λ t. f y ∷ t) (map_last f ys x)

any_last : {X : Type 0} (P : X → Bool) (xs : List X) (x : X) → list_any P (xs ++ x ∷ []) ≡ list_any P xs || P x
any_last P [] x = or_false (P x)
any_last P (y ∷ ys) x = ap (λ b. P y || b) (any_last P ys x) ∙ assoc (P y) (list_any P ys) (P x)
  where
    assoc : (a b c : Bool) → a || (b || c) ≡ (a || b) || c
    assoc true b c = refl
    assoc false b c = refl

all_last : {X : Type 0} (P : X → Bool) (xs : List X) (x : X) → list_all P (xs ++ x ∷ []) ≡ list_all P xs && P x
all_last P [] x = unit (P x)
  where
    unit : (a : Bool) → (a && true) ≡ a
    unit true = refl
    unit false = refl
all_last P (y ∷ ys) x = ap (λ b. P y && b) (all_last P ys x) ∙ assoc (P y) (list_all P ys) (P x)
  where
    assoc : (a b c : Bool) → a && (b && c) ≡ (a && b) && c
    assoc true b c = refl
    assoc false b c = refl

operand_last : (n : ℕ) (ms : List (Option Thing)) (m : Option Thing) → operand n (ms ++ m ∷ []) ≡ (if length ms == n then m else operand n ms)
operand_last zero [] m = refl
operand_last (suc n) [] m = sym (ap (λ b. if b then m else None) (eqb-zero-suc n))
operand_last zero (x ∷ ms) m = sym (ap (λ b. if b then m else x) (eqb-suc-zero (length ms)))
operand_last (suc n) (x ∷ ms) m = operand_last n ms m ∙ sym (ap (λ b. if b then m else operand n ms) (eqb-suc-suc (length ms) n))

seen_choice : (T : List Ty) → (b : Bool) (x y : Option LentThing) → option_map (meant T) (if b then x else y) ≡ (if b then option_map (meant T) x else option_map (meant T) y)
seen_choice T true x y = refl
seen_choice T false x y = refl

map_length : {X Y : Type 0} (f : X → Y) (xs : List X) → length (map f xs) ≡ length xs
map_length f [] = refl
map_length f (x ∷ xs) = ap suc (map_length f xs)

-- the n-th operand after one more
chosen_last : (T : List Ty) → (n k : ℕ) (ms : List (Option Thing)) (m : Option Thing) (x y : Option LentThing) → length ms ≡ k → m ≡ option_map (meant T) x → option_map (meant T) y ≡ operand n ms
    → option_map (meant T) (if k == n then x else y) ≡ operand n (ms ++ m ∷ [])
chosen_last T n k ms m x y l p q =
    seen_choice T (k == n) x y
    ∙ ap (λ c. if k == n then c else option_map (meant T) y) (sym p)
    ∙ ap (λ c. if k == n then m else c) q
    ∙ ap (λ i. if i == n then m else operand n ms) (sym l)
    ∙ sym (operand_last n ms m)

clocked_last : (k : ℕ) (ms : List (Option Thing)) (m : Option Thing) (c : Bool) → length ms ≡ k → c ≡ list_any (fails has_no_clock) (drop 1 ms)
    → (c || (not (k == 0) && fails has_no_clock m)) ≡ list_any (fails has_no_clock) (drop 1 (ms ++ m ∷ []))
clocked_last k [] m c l p = ap (λ i. c || (not (i == 0) && fails has_no_clock m)) (sym l) ∙ ap (λ b. b || false) p
clocked_last k (x ∷ ms) m c l p =
    ap (λ i. c || (not (i == 0) && fails has_no_clock m)) (sym l)
    ∙ ap (λ b. c || (not b && fails has_no_clock m)) (eqb-suc-zero (length ms))
    ∙ ap (λ b. b || fails has_no_clock m) p
    ∙ sym (any_last (fails has_no_clock) ms m)

is_some_seen : (T : List Ty) → (x : Option LentThing) → is_some x ≡ is_some (option_map (meant T) x)
is_some_seen T None = refl
is_some_seen T (Some x) = refl

under_last : (rule : LevelRule) (known : List Known) (xs : List Expr) (e : Expr) → map (meaning_under rule known) xs ≡ map (meaning_of known) xs
    → meaning_under rule known e ≡ meaning_of known e → map (meaning_under rule known) (xs ++ e ∷ []) ≡ map (meaning_of known) (xs ++ e ∷ [])
under_last rule known xs e p q =
    map_last (meaning_under rule known) xs e
    ∙ ap (λ t. t ++ meaning_under rule known e ∷ []) p
    ∙ ap (λ m. map (meaning_of known) xs ++ m ∷ []) q
    ∙ sym (map_last (meaning_of known) xs e)

-- an operand that is judged behind the others
wrong_last : (list before own : Bool) → (list || before) || (own || (list || before)) ≡ (list || own) || before
wrong_last true before own = refl
wrong_last false true true = refl
wrong_last false true false = refl
wrong_last false false true = refl
wrong_last false false false = refl

pub gathers_last : (T : List Ty) → (known : List Known) (before : Bool) (xs : List Expr) (k : ℕ) (e : Expr) (o : Operands) (j : Judgement) → length xs ≡ k → Gathers T known before xs o
    → Judges T known o.wrong e j → Gathers T known before (xs ++ e ∷ []) (with_operand T k o j)
gathers_last T known before xs k e o j l g h =
    let ms : List (Option Thing) = map (meaning_of known) xs in
    let m : Option Thing = meaning_of known e in
    let z : map (meaning_of known) (xs ++ e ∷ []) ≡ ms ++ m ∷ [] = map_last (meaning_of known) xs e in
    let n : length ms ≡ k = map_length (meaning_of known) xs ∙ l in
    let s : m ≡ meaning_seen T j = ap (λ (v : Judged). v.meaning) h.meaning in
    record {
      first = chosen_last T 0 k ms m j.meaning o.first n s g.first ∙ ap (operand 0) (sym z);
      second = chosen_last T 1 k ms m j.meaning o.second n s g.second ∙ ap (operand 1) (sym z);
      third = chosen_last T 2 k ms m j.meaning o.third n s g.third ∙ ap (operand 2) (sym z);
      all_known = ap (λ b. b && is_some j.meaning) g.all_known ∙ ap (λ b. list_all is_some ms && b) (is_some_seen T j.meaning ∙ ap is_some (sym s))
          ∙ sym (all_last is_some ms m) ∙ ap (list_all is_some) (sym z);
      unfit = ap (λ b. b || fails is_operand (meaning_seen T j)) g.unfit ∙ ap (λ x. list_any (fails is_operand) ms || fails is_operand x) (sym s)
          ∙ sym (any_last (fails is_operand) ms m) ∙ ap (list_any (fails is_operand)) (sym z);
      clocked = ap (λ x. o.clocked || (not (k == 0) && fails has_no_clock x)) (sym s)
          ∙ clocked_last k ms m o.clocked n g.clocked ∙ ap (λ t. list_any (fails has_no_clock) (drop 1 t)) (sym z);
      unknown = ap (λ b. b || j.unknown) g.unknown ∙ ap (λ b. list_any (is_broken unknown_level known) xs || b) (sym (ap (λ (v : Judged). v.broken) h.unknown))
          ∙ sym (any_last (is_broken unknown_level known) xs e);
      wrong = ap (λ b. o.wrong || b) h.wrong
          ∙ ap (λ b. b || (is_broken wrong_level known e || b)) g.wrong
          ∙ wrong_last (list_any (is_broken wrong_level known) xs) before (is_broken wrong_level known e)
          ∙ ap (λ b. b || before) (sym (any_last (is_broken wrong_level known) xs e));
      clock = ap (λ b. b || j.clock) g.clock ∙ ap (λ b. list_any (is_broken clock_level known) xs || b) (sym (ap (λ (v : Judged). v.broken) h.clock))
          ∙ sym (any_last (is_broken clock_level known) xs e);
      under_unknown = under_last unknown_level known xs e g.under_unknown (ap (λ (v : Judged). v.meaning) h.unknown ∙ sym s);
      under_wrong = under_last wrong_level known xs e g.under_wrong (h.under_wrong ∙ sym s);
      under_clock = under_last clock_level known xs e g.under_clock (ap (λ (v : Judged). v.meaning) h.clock ∙ sym s);
      sound = any_last (is_broken no_rule known) xs e ∙ ap (λ b. b || is_broken no_rule known e) g.sound ∙ ap (λ (v : Judged). v.broken) h.meaning;
    }

take_length : {X : Type 0} (xs : List X) (k : ℕ) → k < length xs → length (take k xs) ≡ k
take_length [] k h = absurd (omega arith)
take_length (x ∷ xs) zero h = refl
take_length (x ∷ xs) (suc k) h = ap suc (take_length xs k (omega arith))

pub gathers_next : (T : List Ty) → (known : List Known) (before : Bool) (es : List Expr) (k : ℕ) (e : Expr) (o p : Operands) (j : Judgement) → k < length es → e ≡ get_or es k e
    → Gathers T known before (take k es) o → Judges T known o.wrong e j → p ≡ with_operand T k o j → Gathers T known before (take (k + 1) es) p
gathers_next T known before es k e o p j w i g h q =
    let t : take (k + 1) es ≡ take k es ++ e ∷ [] = ap (λ n. take n es) (add-one k) ∙ take-suc es k e w ∙ ap (λ x. take k es ++ x ∷ []) (sym i) in
    subst (λ (x : Operands). Gathers T known before (take (k + 1) es) x) (sym q)
    (subst (λ (xs : List Expr). Gathers T known before xs (with_operand T k o j)) (sym t) (gathers_last T known before (take k es) k e o j (take_length es k w) g h))

-- an index, judged behind what it is an index of

index_broken : (known : List Known) (of at : Expr) → is_broken wrong_level known (expr.Index of at)
    ≡ wrong_index (meaning_under wrong_level known of) (meaning_under wrong_level known at) || (is_broken wrong_level known of || is_broken wrong_level known at)
index_broken known of at = ap (λ (v : Judged). v.broken) (expr-Index Judged (judged_level wrong_level known) of at)

wrong_above : (here below at before : Bool) → here || (at || (below || before)) ≡ (here || (below || at)) || before
wrong_above true below at before = refl
wrong_above false true true before = refl
wrong_above false true false before = refl
wrong_above false false at before = refl

index_wrong : (T : List Ty) (known : List Known) (before : Bool) (e of at : Expr) (a b j : Judgement) → e ≡ expr.Index of at → Judges T known before of a → Judges T known a.wrong at b
    → j.wrong ≡ wrong_index (meaning_seen T a) (meaning_seen T b) || b.wrong → j.wrong ≡ is_broken wrong_level known e || before
index_wrong T known before e of at a b j i g h w =
    w
    ∙ ap (λ x. wrong_index (meaning_seen T a) (meaning_seen T b) || x) h.wrong
    ∙ ap (λ x. wrong_index (meaning_seen T a) (meaning_seen T b) || (is_broken wrong_level known at || x)) g.wrong
    ∙ wrong_above (wrong_index (meaning_seen T a) (meaning_seen T b)) (is_broken wrong_level known of) (is_broken wrong_level known at) before
    ∙ ap (λ m. (wrong_index m (meaning_seen T b) || (is_broken wrong_level known of || is_broken wrong_level known at)) || before) (sym g.under_wrong)
    ∙ ap (λ m. (wrong_index (meaning_under wrong_level known of) m || (is_broken wrong_level known of || is_broken wrong_level known at)) || before) (sym h.under_wrong)
    ∙ ap (λ x. x || before) (sym (index_broken known of at))
    ∙ ap (λ x. is_broken wrong_level known x || before) (sym i)

-- an index under one rule
index_under : (rule : LevelRule) (known : List Known) (of at : Expr) (m n : Option Thing) (b d : Bool) → judged rule known of ≡ verdict m b → judged rule known at ≡ verdict n d
    → judged rule known (expr.Index of at) ≡ verdict (option_and_then element_thing m) (rule known (Index m n) || (b || d))
index_under rule known of at m n b d p q =
    expr-Index Judged (judged_level rule known) of at
    ∙ ap (λ x. judged_level rule known (Index x (judged rule known at))) p
    ∙ ap (λ x. judged_level rule known (Index (verdict m b) x)) q

pub judges_index : (T : List Ty) (known : List Known) (before : Bool) (e of at : Expr) (a b j : Judgement) → e ≡ expr.Index of at → Judges T known before of a → Judges T known a.wrong at b
    → Holds T j (option_and_then element_thing (meaning_seen T a)) (a.unknown || b.unknown) (wrong_index (meaning_seen T a) (meaning_seen T b) || b.wrong) (a.clock || b.clock)
    → Judges T known before e j
judges_index T known before e of at a b j i g h s = record {
  meaning = ap (judged no_rule known) i ∙ index_under no_rule known of at _ _ _ _ g.meaning h.meaning ∙ verdict_same _ _ _ _ s.meaning_is refl;
  unknown = ap (judged unknown_level known) i ∙ index_under unknown_level known of at _ _ _ _ g.unknown h.unknown ∙ verdict_same _ _ _ _ s.meaning_is s.unknown_is;
  wrong = index_wrong T known before e of at a b j i g h s.wrong_is;
  clock = ap (judged clock_level known) i ∙ index_under clock_level known of at _ _ _ _ g.clock h.clock ∙ verdict_same _ _ _ _ s.meaning_is s.clock_is;
  under_wrong = ap (meaning_under wrong_level known) i
      ∙ ap (λ (v : Judged). v.meaning) (expr-Index Judged (judged_level wrong_level known) of at)
      ∙ ap (option_and_then element_thing) g.under_wrong
      ∙ sym s.meaning_is;
}
