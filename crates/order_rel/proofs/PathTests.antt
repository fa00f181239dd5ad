-- The equality of paths in the code is the definitions' one.
use Rattle.std.proofs.Common.{◌≡◌, ℕ, List, Bool, sym, ◌∙◌, bytes_eq}
use Rattle.std.proofs.lemmas.Map.Text.{is_eq-slice_cmp}
use Rattle.bench_model.specs.Paths.{is_path}

pub same_is : (p q : List ℕ) (r : Bool) → r ≡ bytes_eq p q → r ≡ is_path p q
unfolding is_path
same_is p q r e = e ∙ sym (is_eq-slice_cmp p q)
