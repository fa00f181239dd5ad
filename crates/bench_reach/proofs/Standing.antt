-- Worlds that are reached are possible, and next children are new.
use Rattle.std.proofs.Common.{◌≡◌, ◌<◌, [], length, Option, Some, None, refl, sym, ap, ◌∙◌, arith}
use Rattle.std.specs.FinMap as map
use Rattle.bench_model.specs.Paths.{Path, child}
use Rattle.bench_model.specs.World.{Model, Thread, World, Possible}
use Rattle.bench_model.proofs.PathFacts.{child_is}
use Rattle.bench_model.proofs.Theorem.{reached_possible}
use Rattle.bench_setting.specs.Settings.{AtEachTest, setting_of}
use Rattle.bench_setting.proofs.SettingFacts.{setting_laws}
use Rattle.bench_reach.specs.Standing.{WorldsPossible, NextChildrenNew}

pub worlds_possible : AtEachTest WorldsPossible
worlds_possible e net k limits runs rule w (order, times, ok, at) = reached_possible (setting_of e k limits) (setting_laws e net k limits runs rule) order times w ok at

new_child : (M : Model) (w : World M.Inner) → Possible M w → (p : Path) (t : Thread M.Inner) → map.get w.threads p ≡ Some t → map.get w.threads (child p (length t.forked)) ≡ None
new_child M w P p t h = go (map.get w.threads (child p (length t.forked))) refl
  where
    go : (o : Option (Thread M.Inner)) → map.get w.threads (child p (length t.forked)) ≡ o → o ≡ None
    go None e = refl
    go (Some u) e =
        let less : length t.forked < length t.forked = P.fresh p t (length t.forked) [] u h (ap (map.get w.threads) (sym (child_is p (length t.forked))) ∙ e) in
        absurd (omega arith)

pub next_children_new : AtEachTest NextChildrenNew
next_children_new e net k limits runs rule w r p t h = new_child (setting_of e k limits).model w (worlds_possible e net k limits runs rule w r) p t h
