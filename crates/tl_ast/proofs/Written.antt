-- Texts that are written in steps.
use Rattle.std.proofs.Common.{◌≡◌, ℕ, List, ◌++◌, ap, ◌∙◌, append_assoc}

-- seven parts, one behind the other
pub seven_written : (start p a q o r b z one two three four five six end : List ℕ) → one ≡ start ++ p → two ≡ one ++ a → three ≡ two ++ q → four ≡ three ++ o → five ≡ four ++ r → six ≡ five ++ b → end ≡ six ++ z → end ≡ start ++ (p ++ (a ++ (q ++ (o ++ (r ++ (b ++ z))))))
seven_written start p a q o r b z one two three four five six end e1 e2 e3 e4 e5 e6 e7 =
    e7 ∙ ap (λ t. t ++ z) (e6 ∙ ap (λ t. t ++ b) (e5 ∙ ap (λ t. t ++ r) (e4 ∙ ap (λ t. t ++ o) (e3 ∙ ap (λ t. t ++ q) (e2 ∙ ap (λ t. t ++ a) e1)))))
    ∙ append_assoc (((((start ++ p) ++ a) ++ q) ++ o) ++ r) b z
    ∙ append_assoc ((((start ++ p) ++ a) ++ q) ++ o) r (b ++ z)
    ∙ append_assoc (((start ++ p) ++ a) ++ q) o (r ++ (b ++ z))
    ∙ append_assoc ((start ++ p) ++ a) q (o ++ (r ++ (b ++ z)))
    ∙ append_assoc (start ++ p) a (q ++ (o ++ (r ++ (b ++ z))))
    ∙ append_assoc start p (a ++ (q ++ (o ++ (r ++ (b ++ z)))))
