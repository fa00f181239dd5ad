-- Comparing by one part after the other is comparing by all of them.
use Rattle.std.proofs.Common.{◌≡◌, ap, ◌∙◌}
use Rattle.std.specs.Ordering.{ordering_then, MatchOrdering}
use Rattle.std.specs.declared.cmp.Ordering.{Ordering}
use Rattle.std.specs.declared.cmp.Ordering.TheVariants.{Less, Equal, Greater}

-- the next part is looked at where those before tie
pub decided : (P : Type 0) (before part answer : Ordering) → MatchOrdering before (answer ≡ Less) P (answer ≡ Greater) → (P → answer ≡ part) → answer ≡ ordering_then before part
decided P Less part answer h f = h
decided P Equal part answer h f = f h
decided P Greater part answer h f = h

-- what decides after these parts decides after one part and the other
with_part : (before part answer rest : Ordering) → answer ≡ ordering_then before part → ordering_then answer rest ≡ ordering_then before (ordering_then part rest)
with_part Less part answer rest e = ap (λ o. ordering_then o rest) e
with_part Equal part answer rest e = ap (λ o. ordering_then o rest) e
with_part Greater part answer rest e = ap (λ o. ordering_then o rest) e

-- eight parts, and the answers after the first, after the first two, and so on
pub chained : (a b c d e f g h r s t u v w x y : Ordering) → r ≡ a → s ≡ ordering_then r b → t ≡ ordering_then s c → u ≡ ordering_then t d → v ≡ ordering_then u e
    → w ≡ ordering_then v f → x ≡ ordering_then w g → y ≡ ordering_then x h
    → y ≡ ordering_then a (ordering_then b (ordering_then c (ordering_then d (ordering_then e (ordering_then f (ordering_then g h))))))
chained a b c d e f g h r s t u v w x y i j k l m n o p =
    p
    ∙ with_part w g x h o
    ∙ with_part v f w (ordering_then g h) n
    ∙ with_part u e v (ordering_then f (ordering_then g h)) m
    ∙ with_part t d u (ordering_then e (ordering_then f (ordering_then g h))) l
    ∙ with_part s c t (ordering_then d (ordering_then e (ordering_then f (ordering_then g h)))) k
    ∙ with_part r b s (ordering_then c (ordering_then d (ordering_then e (ordering_then f (ordering_then g h))))) j
    ∙ ap (λ z. ordering_then z (ordering_then b (ordering_then c (ordering_then d (ordering_then e (ordering_then f (ordering_then g h))))))) i
