-- What a spelling tells of the types, expressions and sinks in a row.
use Rattle.std.proofs.Common.{◌≡◌, ℕ, zero, suc, ◌+◌, ◌≤◌, ◌<◌, Bool, true, false, List, [], ◌∷◌, ◌++◌, refl, arith, inr}
use Rattle.std.specs.Prelude.{◌&&◌, ◌^◌, nat_le}
use Rattle.std.proofs.lemmas.Bool.{le-leb, lt-ltb}
use Rattle.text_grammar.specs.declared.item.Item.{Item}
use Rattle.text_grammar.specs.declared.item.Symbol.TheVariants as s
use Rattle.text_grammar.specs.Part.{Part, first, second, both, either, nothing, unless}
use Rattle.text_grammar.specs.Terminals as part
use Rattle.fir_lex.specs.Marks.{limit}
use Rattle.fir_ast.specs.Limits.{Limits, grow_up_to}
use Rattle.fir_ast.specs.TypeGrammar.{ty}
use Rattle.fir_ast.specs.ExprGrammar.{expr, reference_in, reference_from}
use Rattle.fir_ast.specs.RowGrammar.{typed, typed_operand, operand, last}
use Rattle.fir_ast.specs.declared.tree.Ty.{Ty}
use Rattle.fir_ast.specs.declared.tree.Expr.{Expr}
use Rattle.fir_ast.specs.declared.tree.Expr.TheVariants as e
use Rattle.fir_print_laws.specs.Atoms.{Atom, colon, word, space, mark, type_atoms, expr_atoms}
use Rattle.fir_print_laws.specs.Standing.{is_word_text}
use Rattle.fir_print_laws.specs.Printable.{is_number, type_words, type_depth, type_fits, expr_words, expr_depth, expr_fits, operand_fits}
use Rattle.fir_round.specs.Again.{TypesAgain, ExprsAgain}
use Rattle.fir_round.proofs.RowSpelling.{Tells, Any, mark_tells, end_tells, both_tells, Spelled, SpelledRow, spelled_mark, spelled_space, spelled_both, row_end, row_last}

-- ---- truth

pub true_both : (a b : Bool) → a ≡ true → b ≡ true → (a && b) ≡ true
true_both true b h k = k
true_both false b h k = absurd cc

pub is_small : (n : ℕ) → n < 2 ^ 128 → is_number n ≡ true
is_small n h = lt-ltb n (2 ^ 128) h

-- ---- a type and an expression, behind d open brackets

pub record GoodType (l : Limits) (t : Ty) : Type 0 where
  pub fits : type_fits t ≡ true
  pub again : (line : ℕ) → Spelled line (ty l) (type_atoms t) t

pub record GoodExpr (l : Limits) (d : ℕ) (x : Expr) : Type 0 where
  pub words : expr_words x ≡ true
  pub depth : d + expr_depth x ≤ limit
  pub again : (line : ℕ) → Spelled line (expr l) (expr_atoms x) x

-- a sink that begins with the word w
pub record GoodSink (l : Limits) (w : List ℕ) (x : Expr) : Type 0 where
  pub fits : expr_fits x ≡ true
  pub behind : List Atom
  pub printed : expr_atoms x ≡ word w ∷ behind
  pub again : (line : ℕ) → Spelled line (reference_from l w) behind x

pub expr_good_fits : (l : Limits) (d : ℕ) (x : Expr) → GoodExpr l d x → expr_fits x ≡ true
expr_good_fits l d x g = let deep = g.depth in true_both (expr_words x) (nat_le (expr_depth x) 64) g.words (le-leb (expr_depth x) 64 (omega (arith, deep)))

-- within one bracket
pub operand_good_fits : (l : Limits) (x : Expr) → GoodExpr l 1 x → operand_fits x ≡ true
operand_good_fits l x g = let deep = g.depth in true_both (expr_words x) (nat_le (expr_depth x) 63) g.words (le-leb (expr_depth x) 63 (omega (arith, deep)))

-- ---- what their spellings tell

pub ty_tells : TypesAgain → (l : Limits) → Tells 0 0 (ty l) (GoodType l)
ty_tells types l = record {
  tells = λ ts t so sp.
      let r = types l 0 ts t (omega arith) so sp in
      let deep = r.fits in (
        record {
          fits = true_both (type_words t) (nat_le (type_depth t) 64) r.words (le-leb (type_depth t) 64 (omega (arith, deep)));
          again = λ line. record { spelled = λ column. r.again line column };
        },
        r.level,
      );
}

pub expr_tells : ExprsAgain → (l : Limits) (d : ℕ) → d ≤ limit → Tells d d (expr l) (GoodExpr l d)
expr_tells again l d le = record {
  tells = λ ts x so sp.
      let r = again.exprs l d ts x le so sp in
      (record { words = r.words; depth = r.fits; again = λ line. record { spelled = λ column. r.again line column } }, r.level);
}

pub sink_tells : ExprsAgain → (l : Limits) (w : List ℕ) → is_word_text w ≡ true → Tells 0 0 (reference_from l w) (GoodSink l w)
sink_tells again l w h = record {
  tells = λ ts x so sp.
      let r = again.references l w 0 ts x (omega arith) h so sp in
      let deep = r.fits in (
        record {
          fits = true_both (expr_words x) (nat_le (expr_depth x) 64) r.words (le-leb (expr_depth x) 64 (omega (arith, deep)));
          behind = r.behind;
          printed = r.printed;
          again = λ line. record { spelled = λ column. r.again line column };
        },
        r.level,
      );
}

-- a word alone is a reference
grown_none : {A : Type 0} (n : ℕ) (begins : Item → Bool) (grow : A → Part A) (a : A) → (grow_up_to n begins grow a).spells [] a
unfolding grow_up_to either nothing
grown_none zero begins grow a = inr (refl, refl)
grown_none (suc n) begins grow a = inr (refl, refl)

word_spelled : (l : Limits) (w : List ℕ) → (reference_from l w).spells [] (e.Ident w)
unfolding reference_from reference_in both unless
word_spelled l w = ([], [], e.Ident w, tt, refl, grown_none l.suffixes _ _ (e.Ident w), refl, refl)

pub word_sink : ExprsAgain → (l : Limits) (w : List ℕ) → is_word_text w ≡ true → GoodSink l w (e.Ident w)
word_sink again l w h = ((sink_tells again l w h).tells [] (e.Ident w) tt (word_spelled l w)).0

-- ---- with the marks round them

pub typed_tells : TypesAgain → (l : Limits) → Tells 0 0 (typed l) (GoodType l)
unfolding typed
typed_tells types l = both_tells 0 0 0 second (part.mark s.Colon) (ty l) Any (GoodType l) (GoodType l) (mark_tells 0 s.Colon) (ty_tells types l) (λ u t h g. g)

pub typed_operand_tells : TypesAgain → (l : Limits) → Tells 0 0 (typed_operand l) (GoodType l)
unfolding typed_operand
typed_operand_tells types l = both_tells 0 0 0 first (typed l) (part.mark s.Comma) (GoodType l) Any (GoodType l) (typed_tells types l) (mark_tells 0 s.Comma) (λ t u g h. g)

pub operand_tells : ExprsAgain → (l : Limits) (d : ℕ) → d ≤ limit → Tells d d (operand l) (GoodExpr l d)
unfolding operand
operand_tells again l d le = both_tells d d d first (expr l) (part.mark s.Comma) (GoodExpr l d) Any (GoodExpr l d) (expr_tells again l d le) (mark_tells d s.Comma) (λ x u g h. g)

pub last_tells : ExprsAgain → (l : Limits) → Tells 0 0 (last l) (GoodExpr l 0)
unfolding last
last_tells again l = both_tells 0 0 0 first (expr l) (part.mark s.LineEnd) (GoodExpr l 0) Any (GoodExpr l 0) (expr_tells again l 0 (omega arith)) (end_tells 0) (λ x u g h. g)

-- ` : T`
pub typed_spelled : (l : Limits) (line : ℕ) (t : Ty) → GoodType l t → Spelled line (typed l) (colon ++ type_atoms t) t
unfolding typed
typed_spelled l line t g =
    let behind = spelled_space line (ty l) (type_atoms t) t (g.again line) in
    let marked = spelled_both line second (part.mark s.Colon) (ty l) (mark s.Colon ∷ []) (space ∷ type_atoms t) tt t (spelled_mark line s.Colon) behind in
    spelled_space line _ (mark s.Colon ∷ space ∷ type_atoms t) t marked

pub last_row : (l : Limits) (line d : ℕ) (x : Expr) → GoodExpr l d x → SpelledRow line (last l) (expr_atoms x) x
unfolding last
last_row l line d x g = row_last line first (expr l) (part.mark s.LineEnd) (expr_atoms x) x tt (g.again line) (row_end line)
