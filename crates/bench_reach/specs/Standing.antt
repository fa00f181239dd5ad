-- Which worlds a permitted order reaches: possible ones, where each next child is new.
use Rattle.std.specs.Prelude.{◌≡◌, length, Some, None}
use Rattle.std.specs.FinMap as map
use Rattle.bench_model.specs.Paths.{Path, child}
use Rattle.bench_model.specs.World.{Thread, World, Possible}
use Rattle.bench_model.specs.Settle.{Setting}
use Rattle.bench_model.specs.TwoMoves.{Reached}

-- WORLDS ARE POSSIBLE: each one that a permitted order reaches
abbrev pub WorldsPossible : Setting → Type 0
WorldsPossible S = (w : World S.model.Inner) → Reached S w → Possible S.model w

-- NEXT CHILDREN ARE NEW: nobody is there under the number that the next fork of a thread takes
abbrev pub NextChildrenNew : Setting → Type 0
NextChildrenNew S = (w : World S.model.Inner) → Reached S w
    → (p : Path) (t : Thread S.model.Inner) → map.get w.threads p ≡ Some t → map.get w.threads (child p (length t.forked)) ≡ None
