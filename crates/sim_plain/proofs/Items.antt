-- Operands by place, and the items of a Select one at a time.
use Rattle.std.proofs.Common.{◌≡◌, ◌∙◌, sym, ap, subst, ℕ, zero, suc, ◌+◌, ◌<◌, ◌≤◌, Bool, false, ◌==◌, nat_eq, List, [], ◌∷◌, ◌++◌, map, length, get_or, take, max, cond, refl, arith, pos, ◌&&◌, Option, None}
use Rattle.std.proofs.Math.Dec.{eqb-zero-suc, eqb-suc-zero, eqb-suc-suc}
use Rattle.std.proofs.lemmas.Bool.{ne_eqb}
use Rattle.std.proofs.lemmas.List.{take_more, take_all, length-take, length-map}
use Rattle.std.specs.Prelude.{unwrap_or}
use Rattle.tb_base.specs.Word.{Word, cut, value_of, low_bits}
use Rattle.tb_base.specs.Row.{no_word, applied, operand_count, number_count}
use Rattle.tb_base.specs.declared.op.Op.{Op}
use Rattle.tb_base.specs.declared.op.Op.TheVariants.{Add, Sub, Mul, Div, Rem, Lt, Leq, Gt, Geq, Eq, Neq, Pad, AsUInt, AsSInt, Shl, Shr, Dshl, Dshr, Cvt, Neg, Not, And, Or, Xor, Andr, Orr, Xorr, Cat, Bits, Head, Tail, Mux}
use Rattle.tb_base.proofs.Words.{cut_word}
use Rattle.net_core.specs.declared.tree.SignalInfo.{SignalInfo}
use Rattle.net_core.specs.declared.tree.GroundExpr.{GroundExpr}
use Rattle.net_core.specs.declared.tree.GroundExpr.TheVariants.{Apply, Select}
use Rattle.net_core.specs.Shapes.{greatest}
use Rattle.net_core.specs.Values.{word_at}
use Rattle.net_core.proofs.Trees.{at_apply, at_select}
use Rattle.sim_plain.specs.Words.{computed, level_computed, picked_word}

-- a row has at most three operands
few : (op : Op) → operand_count op ≤ 3
few Add = omega arith
few Sub = omega arith
few Mul = omega arith
few Div = omega arith
few Rem = omega arith
few Lt = omega arith
few Leq = omega arith
few Gt = omega arith
few Geq = omega arith
few Eq = omega arith
few Neq = omega arith
few Pad = omega arith
few AsUInt = omega arith
few AsSInt = omega arith
few Shl = omega arith
few Shr = omega arith
few Dshl = omega arith
few Dshr = omega arith
few Cvt = omega arith
few Neg = omega arith
few Not = omega arith
few And = omega arith
few Or = omega arith
few Xor = omega arith
few Andr = omega arith
few Orr = omega arith
few Xorr = omega arith
few Cat = omega arith
few Bits = omega arith
few Head = omega arith
few Tail = omega arith
few Mux = omega arith

-- the row by the first three operands
row_done : (op : Op) (ws : List Word) (nums : List ℕ) (r : Word)
    → (length ws ≤ 3 → r ≡ unwrap_or (applied op (take (length ws) (word_at ws 0 ∷ word_at ws 1 ∷ word_at ws 2 ∷ [])) nums) no_word)
    → (3 < length ws → r ≡ no_word)
    → r ≡ unwrap_or (applied op ws nums) no_word
row_done op [] nums r h k = h (omega arith)
row_done op (a ∷ []) nums r h k = h (omega arith)
row_done op (a ∷ b ∷ []) nums r h k = h (omega arith)
row_done op (a ∷ b ∷ c ∷ []) nums r h k = h (omega arith)
row_done op (a ∷ b ∷ c ∷ d ∷ ws) nums r h k =
    k (long ws) ∙ sym (misfit (length (a ∷ b ∷ c ∷ d ∷ ws) == operand_count op) (length nums == number_count op) _ (differ (length (a ∷ b ∷ c ∷ d ∷ ws)) (operand_count op) (long ws) (few op)))
  where
    long : (ys : List Word) → 3 < length (a ∷ b ∷ c ∷ d ∷ ys)
    long ys = omega arith

    differ : (m n : ℕ) → 3 < m → n ≤ 3 → nat_eq m n ≡ false
    differ m n g l = ne_eqb m n (λ e. absurd (omega (arith, g, l, e)))

    misfit : (t u : Bool) (o : Option Word) → t ≡ false → unwrap_or (cond (t && u) o None) no_word ≡ no_word
    misfit t u o e = rw e refl

-- one item more
at_push : (ws : List Word) (w : Word) (k : ℕ) → word_at (ws ++ w ∷ []) k ≡ cond (nat_eq (length ws) k) w (word_at ws k)
at_push [] w zero = refl
at_push [] w (suc k) = rw (eqb-zero-suc k) refl
at_push (x ∷ ws) w zero = rw (eqb-suc-zero (length ws)) refl
at_push (x ∷ ws) w (suc k) = at_push ws w k ∙ ap (λ b. cond b w (word_at ws k)) (sym (eqb-suc-suc (length ws) k))

greatest_push : (ws : List Word) (w : Word) → greatest (map (λ (v : Word). v.width) (ws ++ w ∷ [])) ≡ max (greatest (map (λ (v : Word). v.width) ws)) w.width
greatest_push [] w = omega arith
greatest_push (x ∷ ws) w = let h = greatest_push ws w in omega (arith, h)

-- what is known of the first items
pub record Noted (ws : List Word) (place : ℕ) (first wanted : Word) (widest : ℕ) : Type 0 where
  pub first_is : first ≡ word_at ws 0
  pub wanted_is : wanted ≡ word_at ws place
  pub widest_is : widest ≡ greatest (map (λ (v : Word). v.width) ws)

noted_push : (ws : List Word) (w : Word) (k place : ℕ) (f g p q : Word) (m n : ℕ) → length ws ≡ k → Noted ws place f p m
    → g ≡ cond (nat_eq k 0) w f → q ≡ cond (nat_eq k place) w p → n ≡ max m w.width → Noted (ws ++ w ∷ []) place g q n
noted_push ws w k place f g p q m n l h a b c = record {
  first_is = a ∙ ap (λ j. cond (nat_eq j 0) w f) (sym l) ∙ ap (λ v. cond (nat_eq (length ws) 0) w v) h.first_is ∙ sym (at_push ws w 0);
  wanted_is = b ∙ ap (λ j. cond (nat_eq j place) w p) (sym l) ∙ ap (λ v. cond (nat_eq (length ws) place) w v) h.wanted_is ∙ sym (at_push ws w place);
  widest_is = c ∙ ap (λ j. max j w.width) h.widest_is ∙ sym (greatest_push ws w);
}

pub note_next : {X : Type 0} (e : X → Word) (xs : List X) (k place : ℕ) (x : X) (w f g p q : Word) (m n : ℕ) → k < length xs → x ≡ get_or xs k x
    → Noted (map e (take k xs)) place f p m → w ≡ e x
    → g ≡ cond (nat_eq k 0) w f → q ≡ cond (nat_eq k place) w p → n ≡ max m w.width
    → Noted (map e (take (k + 1) xs)) place g q n
note_next {X = X} e xs k place x w f g p q m n h i s d a b c =
    subst (λ (ys : List Word). Noted ys place g q n)
    (ap (λ v. map e (take k xs) ++ v ∷ []) d ∙ sym (map_push e (take k xs) x) ∙ ap (λ (ys : List X). map e ys) (ap (λ y. take k xs ++ y ∷ []) i ∙ sym (take_more xs k x h)))
    (noted_push (map e (take k xs)) w k place f g p q m n long s a b c)
  where
    map_push : {Y : Type 0} (g : Y → Word) (ys : List Y) (y : Y) → map g (ys ++ y ∷ []) ≡ map g ys ++ g y ∷ []
    map_push g [] y = refl
    map_push g (z ∷ ys) y = ap (λ r. g z ∷ r) (map_push g ys y)

    long : length (map e (take k xs)) ≡ k
    long = length-map (take k xs) e ∙ shorter
      where
        shorter : length (take k xs) ≡ k
        shorter = omega (arith, length-take k xs, h)

pub picked_is : (ws : List Word) (place : ℕ) (f p : Word) (m n : ℕ) (s : Bool) (r : Word) → Noted ws place f p m → m ≤ 128 → s ≡ f.signed → n ≡ low_bits 128 (value_of p)
    → r ≡ cut m s (pos n) → r ≡ picked_word ws place
picked_is ws place f p m n s r h b e l c =
    c ∙ cut_word m n s f.signed (value_of p) b e l
    ∙ ap (λ j. cut j f.signed (value_of p)) h.widest_is
    ∙ ap (λ (v : Word). cut (greatest (map (λ (v : Word). v.width) ws)) v.signed (value_of p)) h.first_is
    ∙ ap (λ (v : Word). cut (greatest (map (λ (v : Word). v.width) ws)) (word_at ws 0).signed (value_of v)) h.wanted_is

pub apply_done : (signals : List SignalInfo) (V : ℕ → ℕ) (e : GroundExpr) (op : Op) (args : List GroundExpr) (nums given : List ℕ) (count : ℕ) (a b c r : Word)
    → e ≡ Apply op args nums → given ≡ nums → count ≡ length args → a ≡ word_at (map (computed signals V) args) 0 → b ≡ word_at (map (computed signals V) args) 1 → c ≡ word_at (map (computed signals V) args) 2
    → (count ≤ 3 → r ≡ unwrap_or (applied op (take count (a ∷ b ∷ c ∷ [])) given) no_word) → (3 < count → r ≡ no_word)
    → r ≡ computed signals V e
apply_done signals V e op args nums given count a b c r he hg hn ha hb hc h k =
    let l : count ≡ length (map (computed signals V) args) = hn ∙ sym (length-map args (computed signals V)) in
    row_done op (map (computed signals V) args) nums r
    (λ g. h (subst (λ j. j ≤ 3) (sym l) g) ∙ ap (λ (ns : List ℕ). unwrap_or (applied op (take count (a ∷ b ∷ c ∷ [])) ns) no_word) hg ∙ ap (λ j. unwrap_or (applied op (take j (a ∷ b ∷ c ∷ [])) nums) no_word) l
    ∙ ap (λ (v : Word). unwrap_or (applied op (take (length (map (computed signals V) args)) (v ∷ b ∷ c ∷ [])) nums) no_word) ha
    ∙ ap (λ (v : Word). unwrap_or (applied op (take (length (map (computed signals V) args)) (word_at (map (computed signals V) args) 0 ∷ v ∷ c ∷ [])) nums) no_word) hb
    ∙ ap (λ (v : Word). unwrap_or (applied op (take (length (map (computed signals V) args)) (word_at (map (computed signals V) args) 0 ∷ word_at (map (computed signals V) args) 1 ∷ v ∷ [])) nums) no_word) hc)
    (λ g. k (subst (λ j. 3 < j) (sym l) g))
    ∙ sym (at_apply (level_computed signals V) op args nums) ∙ sym (ap (computed signals V) he)

pub select_done : (signals : List SignalInfo) (V : ℕ → ℕ) (e index : GroundExpr) (items : List GroundExpr) (place : ℕ) (r : Word)
    → e ≡ Select index items → place ≡ (computed signals V index).raw → r ≡ picked_word (map (computed signals V) items) place → r ≡ computed signals V e
select_done signals V e index items place r he hp h =
    h ∙ ap (λ k. picked_word (map (computed signals V) items) k) hp
    ∙ sym (at_select (level_computed signals V) index items) ∙ sym (ap (computed signals V) he)

pub pick_done : {X : Type 0} (e : X → Word) (xs : List X) (k place : ℕ) (f p : Word) (m n : ℕ) (s : Bool) (r : Word) → length xs ≤ k → Noted (map e (take k xs)) place f p m
    → m ≤ 128 → s ≡ f.signed → n ≡ low_bits 128 (value_of p) → r ≡ cut m s (pos n) → r ≡ picked_word (map e xs) place
pick_done {X = X} e xs k place f p m n s r h w b i l c =
    picked_is (map e xs) place f p m n s r (subst (λ (ys : List X). Noted (map e ys) place f p m) (take_all k xs h) w) b i l c
