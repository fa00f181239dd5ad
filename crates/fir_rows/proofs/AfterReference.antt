-- What follows a reference: how a row goes on behind its sink.
use Rattle.std.proofs.Common.{◌≡◌, ℕ, zero, suc, Bool, true, false, ◌||◌, ◌&&◌, List, [], ◌∷◌, ◌++◌, refl, ap, subst, ◌∙◌, inl, inr}
use Rattle.std.specs.Prelude.{◌⊎◌, ◌==◌}
use Rattle.text_grammar.specs.declared.item.Item.{Item}
use Rattle.text_grammar.specs.declared.item.Symbol.{Symbol}
use Rattle.text_grammar.specs.declared.item.Symbol.TheVariants as s
use Rattle.text_grammar.specs.Part.{Part, both, after, either, nothing, unless, stop, starts}
use Rattle.text_grammar.specs.Terminals.{code, is_word, is_symbol, is_name, mark, name}
use Rattle.text_grammar.proofs.Laws.{Begins, starts_front, both_begins, after_begins, either_begins, stop_begins}
use Rattle.text_grammar.proofs.Items.{flag_begins, symbol_apart, word_no_symbol, symbol_no_word, symbol_no_name}
use Rattle.fir_ast.specs.Limits.{Limits, opened, grow_up_to}
use Rattle.fir_ast.specs.ExprGrammar.{is_suffix, dotted, index, suffix, reference_in, reference_from}
use Rattle.fir_ast.specs.declared.tree.Expr.{Expr}
use Rattle.fir_ast.specs.declared.tree.Expr.TheVariants as e

-- ---- truth of two

pub or_left : (p q : Bool) → p ≡ true → (p || q) ≡ true
or_left true q h = refl
or_left false q h = absurd cc

pub or_right : (p q : Bool) → q ≡ true → (p || q) ≡ true
or_right true q h = refl
or_right false q h = h

pub or_none : (p q : Bool) → p ≡ false → q ≡ false → (p || q) ≡ false
or_none true q h k = absurd cc
or_none false q h k = k

pub or_off : (p q c : Bool) → (p ≡ true → c ≡ false) → (q ≡ true → c ≡ false) → (p || q) ≡ true → c ≡ false
or_off true q c h k i = h refl
or_off false q c h k i = k i

pub and_right : (p q : Bool) → (p && q) ≡ true → q ≡ true
and_right true q h = h
and_right false q h = absurd cc

pub and_none : (p q : Bool) → q ≡ false → (p && q) ≡ false
and_none true q h = h
and_none false q h = refl

-- ---- the items that a type, a reference or an expression may go on with

abbrev pub goes_on : Item → Bool
goes_on x = (is_suffix x || is_symbol s.LeftArrow x) || (is_symbol s.OpenParen x || is_symbol s.Less x)

-- a symbol that is none of them
pub symbol_ends : (a : Symbol) → (code a == code s.Dot) ≡ false → (code a == code s.OpenBracket) ≡ false → (code a == code s.LeftArrow) ≡ false → (code a == code s.OpenParen) ≡ false → (code a == code s.Less) ≡ false
    → (x : Item) → is_symbol a x ≡ true → goes_on x ≡ false
symbol_ends a d b l p n x h =
    or_none _ _ (or_none _ _ (or_none _ _ (symbol_apart a s.Dot x d h) (symbol_apart a s.OpenBracket x b h)) (symbol_apart a s.LeftArrow x l h)) (or_none _ _ (symbol_apart a s.OpenParen x p h) (symbol_apart a s.Less x n h))

pub word_ends : (text : List ℕ) (x : Item) → is_word text x ≡ true → goes_on x ≡ false
word_ends text x h =
    or_none _ _ (or_none _ _ (or_none _ _ (word_no_symbol s.Dot text x h) (word_no_symbol s.OpenBracket text x h)) (word_no_symbol s.LeftArrow text x h)) (or_none _ _ (word_no_symbol s.OpenParen text x h) (word_no_symbol s.Less text x h))

-- a suffix is no other symbol
pub suffix_no_symbol : (a : Symbol) → (code s.Dot == code a) ≡ false → (code s.OpenBracket == code a) ≡ false → (x : Item) → is_suffix x ≡ true → is_symbol a x ≡ false
suffix_no_symbol a d b x h = or_off _ _ _ (λ i. symbol_apart s.Dot a x d i) (λ i. symbol_apart s.OpenBracket a x b i) h

pub suffix_no_word : (text : List ℕ) (x : Item) → is_suffix x ≡ true → is_word text x ≡ false
suffix_no_word text x h = or_off _ _ _ (λ i. symbol_no_word s.Dot text x i) (λ i. symbol_no_word s.OpenBracket text x i) h

pub suffix_no_name : (x : Item) → is_suffix x ≡ true → is_name x ≡ false
suffix_no_name x h = or_off _ _ _ (λ i. symbol_no_name s.Dot x i) (λ i. symbol_no_name s.OpenBracket x i) h

-- ---- what begins with a reference whose first word was taken

starts_more : (b m : Item → Bool) → ((x : Item) → b x ≡ true → m x ≡ true) → (ts : List Item) → starts b ts ≡ true → starts m ts ≡ true
starts_more b m h [] i = absurd cc
starts_more b m h (x ∷ ts) i = h x i

opened_begins : (d : ℕ) (P : Part Expr) (b : Item → Bool) → Begins P b → Begins (opened d P) b
unfolding opened
opened_begins zero P b g = stop_begins _ b
opened_begins (suc d) P b g = g

suffix_begins : (d : ℕ) (inside : Part Expr) (of : Expr) → Begins (suffix d inside of) is_suffix
unfolding suffix dotted index
suffix_begins d inside of = either_begins (is_symbol s.Dot) is_suffix (dotted of) (opened d (index inside of))
    (both_begins _ (mark s.Dot) name is_suffix (record { begins = λ ts a h. starts_more (is_symbol s.Dot) is_suffix (λ x i. or_left _ _ i) ts ((flag_begins (is_symbol s.Dot)).begins ts a h) }))
    (opened_begins d (index inside of) is_suffix
    (both_begins _ (mark s.OpenBracket) _ is_suffix (record { begins = λ ts a h. starts_more (is_symbol s.OpenBracket) is_suffix (λ x i. or_right _ _ i) ts ((flag_begins (is_symbol s.OpenBracket)).begins ts a h) })))

-- a value that did not grow is the one that it began with
grown : (n : ℕ) (b : Item → Bool) (P : Expr → Part Expr) → ((a : Expr) → Begins (P a) b) → (a : Expr) (ts : List Item) (c : Expr) → (grow_up_to n b P a).spells ts c → (starts b ts ≡ true) ⊎ ((ts ≡ []) × (c ≡ a))
unfolding grow_up_to either stop nothing
grown zero b P g a ts c h = elim h [ inl i ↦ absurd i | inr i ↦ inr i ]
grown (suc n) b P g a ts c h = elim h [ inl i ↦ inl ((after_begins (P a) (λ d. grow_up_to n b P d) b (g a)).begins ts c i) | inr i ↦ inr i ]

-- a reference begins with a suffix, or it is the word alone
pub bare_or_suffix : (l : Limits) (w : List ℕ) (ts : List Item) (a : Expr) → (reference_from l w).spells ts a → (starts is_suffix ts ≡ true) ⊎ ((ts ≡ []) × (a ≡ e.Ident w))
unfolding reference_from reference_in both unless
bare_or_suffix l w ts a h = elim (grown l.suffixes is_suffix _ (λ of. suffix_begins l.brackets _ of) (e.Ident w) h.0 h.2 h.5) [
  | inl i ↦ inl (ap (starts is_suffix) h.4 ∙ starts_front is_suffix h.0 h.1 i)
  | inr i ↦ inr (h.4 ∙ ap (λ (z : List Item). z ++ h.1) i.0 ∙ h.6, h.7 ∙ i.1)
]

pub reference_begins : {A : Type 0} (l : Limits) (w : List ℕ) (Q : Expr → Part A) (b : Item → Bool) → ((x : Item) → is_suffix x ≡ true → b x ≡ true) → Begins (Q (e.Ident w)) b → Begins (after (reference_from l w) Q) b
unfolding after
reference_begins l w Q b h g = record {
  begins = λ ts c p. elim (bare_or_suffix l w p.0 p.2 p.4) [
    | inl i ↦ ap (starts b) p.3 ∙ starts_front b p.0 p.1 (starts_more is_suffix b h p.0 i)
    | inr i ↦ ap (starts b) (p.3 ∙ ap (λ (z : List Item). z ++ p.1) i.0) ∙ g.begins p.1 c (subst (λ (z : Expr). (Q z).spells p.1 c) i.1 p.5)
  ];
}
