-- What a contract sees of a map's entries.
use Rattle.std.specs.Prelude.{ℕ, Bool, List, map}
use Rattle.std.specs.declared.vec.Vec.{Vec}
use Rattle.std.specs.declared.alloc.Global.{Global}

abbrev pub entries_seen : List (Vec ℕ Global × Bool) → List (List ℕ × Bool)
entries_seen es = map (λ e. (e.0.items, e.1)) es
