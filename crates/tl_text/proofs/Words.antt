-- How the code reads the first word of a statement, and the `{` of a block.
use Rattle.std.proofs.Common.{◌≡◌, ℕ, zero, suc, Bool, true, false, List, [], ◌∷◌, length, drop, Some, None, Ok, Err, refl, sym, ap, ◌∙◌, arith}
use Rattle.std.specs.Prelude.{slice_get, ◌==◌, ◌&&◌, if◌then◌else◌}
use Rattle.std.proofs.lemmas.Bool.Decides.{nat_tests}
use Rattle.text_grammar.specs.declared.item.Item.{Item}
use Rattle.text_grammar.specs.declared.item.Symbol.TheVariants as s
use Rattle.text_grammar.specs.declared.fault.Kind.TheVariants.{TooDeep}
use Rattle.text_grammar.specs.declared.fault.ReadError.{ReadError}
use Rattle.text_grammar.specs.declared.fault.ReadError.TheVariants as errors
use Rattle.text_grammar.specs.Part.{Part, Fails, kind_of, kind_at, one_by, both, many, many_at, starts}
use Rattle.text_grammar.specs.Terminals.{is_symbol}
use Rattle.tl_ast.specs.declared.words.StmtWord.{StmtWord}
use Rattle.tl_ast.specs.declared.tree.TestStmt.{TestStmt}
use Rattle.tl_ast.specs.ExprGrammar.{ExprLimits}
use Rattle.tl_ast.specs.TestGrammar.{token_stmt_word, some_forking, is_forking, too_many_forks, first_word, begins_stmt, stmt_in, stmts_in, no_brace, block_within}

suc_not_zero : (n : ℕ) → (suc n == 0) ≡ false
suc_not_zero n = grind (arith, nat_tests)

too_many_is : (forks : ℕ) (x : Item) (word : StmtWord) → Some word ≡ token_stmt_word x.token → too_many_forks forks x ≡ (forks == 0 && is_forking word)
too_many_is zero x word h = ap some_forking (sym h)
too_many_is (suc forks) x word h = sym (ap (λ (b : Bool). b && is_forking word) (suc_not_zero forks))

pub word_taken : (forks : ℕ) (ts : List Item) (x : Item) (word : StmtWord) → Some x ≡ slice_get ts 0 → Some word ≡ token_stmt_word x.token → (forks == 0 && is_forking word) ≡ false
    → (first_word forks).reads ts ≡ Ok ((x.place.line, word), drop 1 ts)
unfolding first_word one_by
word_taken forks [] x word h e few = absurd cc
word_taken forks (y ∷ rest) x word h e few =
    let same : x ≡ y = cc in
    let ok : too_many_forks forks x ≡ false = too_many_is forks x word e ∙ few in
    rw (← same, ok, ← e) refl

pub word_too_deep : (forks : ℕ) (ts : List Item) (x : Item) (word : StmtWord) → Some x ≡ slice_get ts 0 → Some word ≡ token_stmt_word x.token → (forks == 0 && is_forking word) ≡ true
    → (first_word forks).reads ts ≡ Err (TooDeep, length ts)
unfolding first_word one_by
word_too_deep forks [] x word h e many = absurd cc
word_too_deep forks (y ∷ rest) x word h e many =
    let same : x ≡ y = cc in
    let bad : too_many_forks forks x ≡ true = too_many_is forks x word e ∙ many in
    rw (← same, bad, ← e) (ap (λ (c : Bool). Err (if c then TooDeep else kind_of x, length (x ∷ rest))) bad)

none_too_many : (forks : ℕ) (x : Item) → None ≡ token_stmt_word x.token → too_many_forks forks x ≡ false
none_too_many zero x h = ap some_forking (sym h)
none_too_many (suc forks) x h = refl

pub word_refused : (forks : ℕ) (ts : List Item) (x : Item) → Some x ≡ slice_get ts 0 → None ≡ token_stmt_word x.token → (first_word forks).reads ts ≡ Err (kind_at ts, length ts)
unfolding first_word one_by
word_refused forks [] x h e = absurd cc
word_refused forks (y ∷ rest) x h e =
    let same : x ≡ y = cc in
    let ok : too_many_forks forks x ≡ false = none_too_many forks x e in
    rw (← same, ok, ← e) (ap (λ (c : Bool). Err (if c then TooDeep else kind_of x, length (x ∷ rest))) ok)

pub word_none : (forks : ℕ) (ts : List Item) → None ≡ slice_get ts 0 → (first_word forks).reads ts ≡ Err (kind_at ts, length ts)
unfolding first_word one_by
word_none forks [] h = refl
word_none forks (y ∷ rest) h = absurd cc

-- ---- the `{` of a block that is too deep

pub brace_too_deep : (ts : List Item) → starts (is_symbol s.OpenBrace) ts ≡ true → no_brace.reads ts ≡ Err (TooDeep, length ts)
unfolding no_brace one_by
brace_too_deep [] h = absurd cc
brace_too_deep (x ∷ rest) h = rw h refl

pub brace_refused : (ts : List Item) → starts (is_symbol s.OpenBrace) ts ≡ false → no_brace.reads ts ≡ Err (kind_at ts, length ts)
unfolding no_brace one_by
brace_refused [] h = refl
brace_refused (x ∷ rest) h = rw h refl

pub block_none : (l : ExprLimits) (n f : ℕ) (ts : List Item) (e : ReadError) → n ≡ 0 → Fails (no_brace.reads ts) e → Fails ((block_within l n f).reads ts) e
unfolding block_within both
block_none l n f ts errors.Memory h e = tt
block_none l n f ts (errors.At kind left) h e = rw (h, e) refl

-- ---- statements

pub stmts_are : (l : ExprLimits) (B : ℕ → Part (List TestStmt)) (f : ℕ) (ts : List Item) → (stmts_in l B f).reads ts ≡ many_at begins_stmt (stmt_in l B f).reads (length ts) ts
unfolding stmts_in many
stmts_are l B f ts = refl
