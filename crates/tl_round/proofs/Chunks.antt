-- Parts of a printed text: they fall into items, whatever follows them, and these spell a part of the grammar.
use Rattle.std.proofs.Common.{◌≡◌, ℕ, ◌+◌, Bool, true, false, List, [], ◌∷◌, ◌++◌, refl, sym, ap, ◌∙◌, append_assoc, append-nil, subst, inl, inr}
use Rattle.std.specs.Prelude.{◌==◌, ◌||◌, slice_index}
use Rattle.tb_base.specs.declared.place.Place.{Place}
use Rattle.text_grammar.specs.declared.item.Item.{Item}
use Rattle.text_grammar.specs.Part.{Part, both, after, either, nothing, many}
use Rattle.tl_lex.specs.Pieces.{piece}
use Rattle.tl_lex.specs.Lex.{place_after, items_from}

-- a byte that no token goes on with: line feed, space, `.`, `;`, `[`, `]`
abbrev pub stops : ℕ → Bool
stops b = b == 10 || b == 32 || b == 46 || b == 59 || b == 91 || b == 93

-- what stands behind a part that may need such a byte
abbrev pub Before : Bool → List ℕ → Type 0
Before true rest = stops (slice_index rest 0) ≡ true
Before false rest = Unit {0}

-- a text that begins at p and falls into these items; behind it is this line
pub record Chunk (need : Bool) (t : List ℕ) (p : Place) (ts : List Item) (line : ℕ) : Type 0 where
  pub end : Place
  pub on : end.line ≡ line
  pub cut : (rest : List ℕ) → Before need rest → items_from 0 p (t ++ rest) ≡ ts ++ items_from 0 end rest

-- and these items spell a value
pub record Says {A : Type 0} (P : Part A) (need : Bool) (t : List ℕ) (a : A) (p : Place) (line : ℕ) : Type 0 where
  pub items : List Item
  pub chunk : Chunk need t p items line
  pub spelled : P.spells items a

-- the same on one line, wherever it stands
abbrev pub Line : {A : Type 0} → Part A → Bool → List ℕ → A → Type 0
Line P need t a = (p : Place) → Says P need t a p p.line

-- bytes without items
abbrev pub Blank : List ℕ → Type 0
Blank t = (p : Place) → Chunk false t p [] p.line

pub chunk_both : (a b : Bool) (t u : List ℕ) (p : Place) (ts us : List Item) (l m : ℕ) (h : Chunk a t p ts l) → Chunk b u h.end us m
    → ((rest : List ℕ) → Before b rest → Before a (u ++ rest)) → Chunk b (t ++ u) p (ts ++ us) m
chunk_both a b t u p ts us l m h k seam = record {
  end = k.end;
  on = k.on;
  cut = λ rest e. ap (items_from 0 p) (append_assoc t u rest) ∙ h.cut (u ++ rest) (seam rest e) ∙ ap (λ (z : List Item). ts ++ z)
      (k.cut rest e) ∙ sym (append_assoc ts us _);
}

pub chunk_more : (b : Bool) (t : List ℕ) (p : Place) (ts : List Item) (l : ℕ) → Chunk b t p ts l → Chunk true t p ts l
chunk_more true t p ts l h = h
chunk_more false t p ts l h = record { end = h.end; on = h.on; cut = λ rest e. h.cut rest tt }

pub chunk_on : {b : Bool} {t : List ℕ} {p : Place} {ts : List Item} {l m : ℕ} → Chunk b t p ts l → l ≡ m → Chunk b t p ts m
chunk_on h e = record { end = h.end; on = h.on ∙ e; cut = h.cut }

pub nothing_chunk : (p : Place) → Chunk false [] p [] p.line
nothing_chunk p = record { end = p; on = refl; cut = λ rest e. refl }

pub space_chunk : (p : Place) → Chunk false (32 ∷ []) p [] p.line
unfolding items_from piece
space_chunk p = record { end = place_after p 32; on = refl; cut = λ rest e. refl }

pub feed_chunk : (p : Place) → Chunk false (10 ∷ []) p [] (p.line + 1)
unfolding items_from piece
feed_chunk p = record { end = place_after p 10; on = refl; cut = λ rest e. refl }

-- ---- says

pub says_more : {A : Type 0} {P : Part A} {b : Bool} {t : List ℕ} {a : A} {p : Place} {l : ℕ} → Says P b t a p l → Says P true t a p l
says_more {b = b} {t = t} {p = p} {l = l} h = record { items = h.items; chunk = chunk_more b t p h.items l h.chunk; spelled = h.spelled }

pub says_on : {A : Type 0} {P : Part A} {b : Bool} {t : List ℕ} {a : A} {p : Place} {l m : ℕ} → Says P b t a p l → l ≡ m → Says P b t a p m
says_on h e = record { items = h.items; chunk = chunk_on h.chunk e; spelled = h.spelled }

-- the same items spell another part
pub says_as : {A B : Type 0} {P : Part A} {Q : Part B} {n : Bool} {t : List ℕ} {a : A} {b : B} {p : Place} {l : ℕ}
    → ((ts : List Item) → P.spells ts a → Q.spells ts b) → Says P n t a p l → Says Q n t b p l
says_as go h = record { items = h.items; chunk = h.chunk; spelled = go h.items h.spelled }

pub says_text : {A : Type 0} {P : Part A} {b : Bool} {t u : List ℕ} {a : A} {p : Place} {l : ℕ} → t ≡ u → Says P b t a p l
    → Says P b u a p l
says_text {P = P} {b = b} {a = a} {p = p} {l = l} e h = subst (λ (z : List ℕ). Says P b z a p l) e h

module _ {A B : Type 0} {P : Part A} {x y : Bool} {t u : List ℕ} {a : A} {b : B} {p : Place} {l m : ℕ} where
  pub says_join : {C : Type 0} {Q : Part B} (f : A → B → C) (h : Says P x t a p l) → Says Q y u b h.chunk.end m
      → ((rest : List ℕ) → Before y rest → Before x (u ++ rest)) → Says (both f P Q) y (t ++ u) (f a b) p m
  unfolding both
  says_join f h g seam = record {
    items = h.items ++ g.items;
    chunk = chunk_both x y t u p h.items g.items l m h.chunk g.chunk seam;
    spelled = (h.items, g.items, a, b, refl, h.spelled, g.spelled, refl);
  }

  pub after_join : (Q : A → Part B) (h : Says P x t a p l) → Says (Q a) y u b h.chunk.end m
      → ((rest : List ℕ) → Before y rest → Before x (u ++ rest)) → Says (after P Q) y (t ++ u) b p m
  unfolding after
  after_join Q h g seam = record {
    items = h.items ++ g.items;
    chunk = chunk_both x y t u p h.items g.items l m h.chunk g.chunk seam;
    spelled = (h.items, g.items, a, refl, h.spelled, g.spelled);
  }

  pub says_both : {C : Type 0} {Q : Part B} (f : A → B → C) → Says P x t a p l → ((q : Place) → q.line ≡ l → Says Q y u b q m)
      → ((rest : List ℕ) → Before y rest → Before x (u ++ rest)) → Says (both f P Q) y (t ++ u) (f a b) p m
  says_both f h k seam = says_join f h (k h.chunk.end h.chunk.on) seam

  pub says_after : (Q : A → Part B) → Says P x t a p l → ((q : Place) → q.line ≡ l → Says (Q a) y u b q m)
      → ((rest : List ℕ) → Before y rest → Before x (u ++ rest)) → Says (after P Q) y (t ++ u) b p m
  says_after Q h k seam = after_join Q h (k h.chunk.end h.chunk.on) seam

-- one more of many
pub says_cons : {A : Type 0} {P : Part A} {x y : Bool} {t u : List ℕ} {a : A} {all : List A} {p : Place} {l m : ℕ} (begins : Item → Bool)
    → Says P x t a p l
    → ((q : Place) → q.line ≡ l → Says (many begins P) y u all q m) → ((rest : List ℕ) → Before y rest → Before x (u ++ rest))
    → Says (many begins P) y (t ++ u) (a ∷ all) p m
unfolding many
says_cons {x = x} {y = y} {t = t} {u = u} {p = p} {l = l} {m = m} begins h k seam =
    let g = k h.chunk.end h.chunk.on in
    record {
      items = h.items ++ g.items;
      chunk = chunk_both x y t u p h.items g.items l m h.chunk g.chunk seam;
      spelled = (h.items, g.items, refl, h.spelled, g.spelled);
    }

pub says_none : {A : Type 0} (P : Part A) (begins : Item → Bool) (p : Place) → Says (many begins P) false [] [] p p.line
unfolding many
says_none P begins p = record { items = []; chunk = nothing_chunk p; spelled = refl }

-- with blanks behind
pub says_then : {A : Type 0} {P : Part A} {x : Bool} {t u : List ℕ} {a : A} {p : Place} {l m : ℕ} → Says P x t a p l
    → ((q : Place) → q.line ≡ l → Chunk false u q [] m)
    → ((rest : List ℕ) → Before x (u ++ rest)) → Says P false (t ++ u) a p m
says_then {P = P} {x = x} {t = t} {u = u} {a = a} {p = p} {l = l} {m = m} h k seam =
    let g : Chunk false u h.chunk.end [] m = k h.chunk.end h.chunk.on in
    record {
      items = h.items ++ [];
      chunk = chunk_both x false t u p h.items [] l m h.chunk g (λ rest e. seam rest);
      spelled = subst
          (λ (z : List Item). P.spells z a) (sym (append-nil h.items)) h.spelled;
    }

-- behind blanks
pub says_behind : {A : Type 0} {P : Part A} {y : Bool} {t u : List ℕ} {a : A} {p : Place} {l m : ℕ} → Chunk false t p [] l
    → ((q : Place) → q.line ≡ l → Says P y u a q m) → Says P y (t ++ u) a p m
says_behind {P = P} {y = y} {t = t} {u = u} {a = a} {p = p} {l = l} {m = m} h k =
    let g : Says P y u a h.end m = k h.end h.on in
    record { items = g.items; chunk = chunk_both false y t u p [] g.items l m h g.chunk (λ rest e. tt); spelled = g.spelled }

pub behind_join : {A : Type 0} {P : Part A} {y : Bool} {t u : List ℕ} {a : A} {p : Place} {l m : ℕ} (h : Chunk false t p [] l)
    → Says P y u a h.end m → Says P y (t ++ u) a p m
behind_join {y = y} {t = t} {u = u} {p = p} {l = l} {m = m} h g =
    record { items = g.items; chunk = chunk_both false y t u p [] g.items l m h g.chunk (λ rest e. tt); spelled = g.spelled }

-- two parts one behind the other, which spell a third
pub join_as : {A B C : Type 0} {P : Part A} {Q : Part B} (R : Part C) {x y : Bool} {t u : List ℕ} {a : A} {b : B}
    (c : C) {p : Place} {l m : ℕ} (h : Says P x t a p l) → Says Q y u b h.chunk.end m
    → ((rest : List ℕ) → Before y rest → Before x (u ++ rest)) → ((ts us : List Item) → P.spells ts a → Q.spells us b
    → R.spells (ts ++ us) c) → Says R y (t ++ u) c p m
join_as R {x = x} {y = y} {t = t} {u = u} c {p = p} {l = l} {m = m} h g seam go =
    record {
      items = h.items ++ g.items;
      chunk = chunk_both x y t u p h.items g.items l m h.chunk g.chunk seam;
      spelled = go h.items g.items h.spelled g.spelled;
    }

pub says_left : {A : Type 0} {P : Part A} {n : Bool} {t : List ℕ} {a : A} {p : Place} {l : ℕ} (test : Item → Bool) (Q : Part A)
    → Says P n t a p l → Says (either test P Q) n t a p l
unfolding either
says_left test Q h = record { items = h.items; chunk = h.chunk; spelled = inl h.spelled }

pub says_right : {A : Type 0} {Q : Part A} {n : Bool} {t : List ℕ} {a : A} {p : Place} {l : ℕ} (test : Item → Bool) (P : Part A)
    → Says Q n t a p l → Says (either test P Q) n t a p l
unfolding either
says_right test P h = record { items = h.items; chunk = h.chunk; spelled = inr h.spelled }

pub says_nothing : {A : Type 0} (a : A) (p : Place) → Says (nothing a) false [] a p p.line
unfolding nothing
says_nothing a p = record { items = []; chunk = nothing_chunk p; spelled = (refl, refl) }

-- ---- on one line

pub line_both : {A B C : Type 0} {P : Part A} {Q : Part B} {x y : Bool} {t u : List ℕ} {a : A} {b : B} (f : A → B → C) → Line P x t a
    → Line Q y u b
    → ((rest : List ℕ) → Before y rest → Before x (u ++ rest)) → Line (both f P Q) y (t ++ u) (f a b)
line_both f h k seam p = says_both f (h p) (λ q e. says_on (k q) e) seam

pub line_after : {A B : Type 0} {P : Part A} (Q : A → Part B) {x y : Bool} {t u : List ℕ} {a : A} {b : B} → Line P x t a → Line (Q a) y u b
    → ((rest : List ℕ) → Before y rest → Before x (u ++ rest)) → Line (after P Q) y (t ++ u) b
line_after Q h k seam p = says_after Q (h p) (λ q e. says_on (k q) e) seam

pub line_behind : {A : Type 0} {P : Part A} {y : Bool} {t u : List ℕ} {a : A} → Blank t → Line P y u a → Line P y (t ++ u) a
line_behind h k p = says_behind (h p) (λ q e. says_on (k q) e)

pub line_spaced : {A : Type 0} {P : Part A} {y : Bool} {u : List ℕ} {a : A} → Line P y u a → Line P y (32 ∷ u) a
line_spaced k = line_behind space_chunk k

pub line_more : {A : Type 0} {P : Part A} {b : Bool} {t : List ℕ} {a : A} → Line P b t a → Line P true t a
line_more h p = says_more (h p)

pub line_text : {A : Type 0} {P : Part A} {b : Bool} {t u : List ℕ} {a : A} → t ≡ u → Line P b t a → Line P b u a
line_text e h p = says_text e (h p)

pub line_end : {A B C : Type 0} {P : Part A} {b : B} {x : Bool} {t : List ℕ} {a : A} (f : A → B → C) → Line P x t a
    → Line (both f P (nothing b)) x t (f a b)
unfolding both nothing
line_end {b = b} {a = a} f h p =
    let g = h p in
    record { items = g.items; chunk = g.chunk; spelled = (g.items, [], a, b, sym (append-nil g.items), g.spelled, (refl, refl), refl) }
