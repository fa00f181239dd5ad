use Rattle.std.proofs.Common.{◌≡◌, ◌<◌, ◌∙◌, ap, sym, length, arith, rules, subst, replicate, false, get_or, []}
use Rattle.fir_check.specs.Instances.{kids_seen, visit, spread, Within}
use Rattle.fir_check.proofs.Trails.{search_start, search_next, search_end, kids_found, kids_long, found_inside, inside_all, other_module, written, read_here}
use Rattle.fir_check.proofs.ways.leads.Goals as goal

pub loop-next-init : goal.loop-next-init
loop-next-init c =
    let l : length (kids_seen c.args.kids.now) ≡ length c.args.kids.now = kids_long c.args.kids.now in
    let z : c.in_ok-marks.marks.items ≡ replicate (length c.args.kids.now) false = search rules in
    let m : c.deref_mut.result.now ≡ replicate (length (kids_seen c.args.kids.now)) false = c.deref_mut.ensures.value ∙ z ∙ ap (λ n. replicate n false) (sym l) in
    let f : c.new-found.result.items ≡ [] = c.new-found.ensures.items in
    search_start (kids_seen c.args.kids.now) c.args.from c.args.to _ _ (let s = c.requires.start in omega arith)
    (written c.in_ok-marks.marks.len c.visit.new.marks c.in_ok-marks.marks.items (search rules) ∙ c.in_ok-visit.ensures.marks ∙ ap (λ x. (visit c.args.from (x, c.new-found.result.items)).0) m ∙ ap (λ x. (visit c.args.from (replicate (length (kids_seen c.args.kids.now)) false, x)).0) f)
    (c.in_ok-visit.ensures.found ∙ ap (λ x. (visit c.args.from (x, c.new-found.result.items)).1) m ∙ ap (λ x. (visit c.args.from (replicate (length (kids_seen c.args.kids.now)) false, x)).1) f)

pub loop-next-preserved : goal.loop-next-preserved
loop-next-preserved c =
    let l : length (kids_seen c.args.kids.now) ≡ length c.args.kids.now = kids_long c.args.kids.now in
    let t : c.loop-next.next < length c.loop-next.found.items = search rules in
    let h : c.index-here.result.now ≡ get_or c.loop-next.found.items c.loop-next.next 0 = read_here c.loop-next.found.items c.loop-next.next c.index-here.result.now t (search rules) in
    let b : c.index-here.result.now < length (kids_seen c.args.kids.now) = found_inside (kids_seen c.args.kids.now) c.args.from c.args.to c.loop-next.next c.index-here.result.now (c.loop-next.marks.items, c.loop-next.found.items) t h c.loop-next.invariant in
    let k : c.index-here.result.now < length c.args.kids.now = omega arith in
    search_next (kids_seen c.args.kids.now) c.args.from c.args.to c.loop-next.next c.index-here.result.now c.deref.result.now (c.loop-next.marks.items, c.loop-next.found.items) _
    (subst (λ n. Within n (kids_seen c.args.kids.now)) (sym l) c.requires.within) t h (other_module _ _ c.if-here-to.false)
    (c.deref.ensures.value ∙ kids_found c.args.kids.now c.index-here.result.now c.index-kids-here.result k c.index-kids-here.is)
    (written c.loop-next.marks.len c.visit_all.new.marks c.loop-next.marks.items (search rules) ∙ c.in_ok-visit_all.ensures.marks ∙ ap (λ x. (spread c.deref.result.now (x, c.loop-next.found.items)).0) c.deref_mut-in-loop-next.ensures.value)
    (c.in_ok-visit_all.ensures.found ∙ ap (λ x. (spread c.deref.result.now (x, c.loop-next.found.items)).1) c.deref_mut-in-loop-next.ensures.value)
    c.loop-next.invariant

pub visit_all-requires : goal.visit_all-requires
visit_all-requires c =
    let l : length (kids_seen c.args.kids.now) ≡ length c.args.kids.now = kids_long c.args.kids.now in
    let t : c.loop-next.next < length c.loop-next.found.items = search rules in
    let h : c.index-here.result.now ≡ get_or c.loop-next.found.items c.loop-next.next 0 = read_here c.loop-next.found.items c.loop-next.next c.index-here.result.now t (search rules) in
    let b : c.index-here.result.now < length (kids_seen c.args.kids.now) = found_inside (kids_seen c.args.kids.now) c.args.from c.args.to c.loop-next.next c.index-here.result.now (c.loop-next.marks.items, c.loop-next.found.items) t h c.loop-next.invariant in
    let k : c.index-here.result.now < length c.args.kids.now = omega arith in
    let n : length c.deref_mut-in-loop-next.result.now ≡ length c.args.kids.now = ap length c.deref_mut-in-loop-next.ensures.value ∙ c.loop-next.invariant.state.long ∙ l in
    inside_all (kids_seen c.args.kids.now) _ c.index-here.result.now c.deref.result.now
    (subst (λ x. Within x (kids_seen c.args.kids.now)) (sym n) c.requires.within)
    (c.deref.ensures.value ∙ kids_found c.args.kids.now c.index-here.result.now c.index-kids-here.result k c.index-kids-here.is)

pub bounds-kids-here : goal.bounds-kids-here
bounds-kids-here c =
    let t : c.loop-next.next < length c.loop-next.found.items = search rules in
    let h : c.index-here.result.now ≡ get_or c.loop-next.found.items c.loop-next.next 0 = read_here c.loop-next.found.items c.loop-next.next c.index-here.result.now t (search rules) in
    let b : c.index-here.result.now < length (kids_seen c.args.kids.now) = found_inside (kids_seen c.args.kids.now) c.args.from c.args.to c.loop-next.next c.index-here.result.now (c.loop-next.marks.items, c.loop-next.found.items) t h c.loop-next.invariant in
    let l : length (kids_seen c.args.kids.now) ≡ length c.args.kids.now = kids_long c.args.kids.now in omega arith

pub offset_bounds-kids-here : goal.offset_bounds-kids-here
offset_bounds-kids-here c =
    let t : c.loop-next.next < length c.loop-next.found.items = search rules in
    let h : c.index-here.result.now ≡ get_or c.loop-next.found.items c.loop-next.next 0 = read_here c.loop-next.found.items c.loop-next.next c.index-here.result.now t (search rules) in
    let b : c.index-here.result.now < length (kids_seen c.args.kids.now) = found_inside (kids_seen c.args.kids.now) c.args.from c.args.to c.loop-next.next c.index-here.result.now (c.loop-next.marks.items, c.loop-next.found.items) t h c.loop-next.invariant in
    let l : length (kids_seen c.args.kids.now) ≡ length c.args.kids.now = kids_long c.args.kids.now in omega arith

pub returns : goal.returns
returns c = search_end (kids_seen c.args.kids.now) c.args.from c.args.to c.loop-next.next (c.loop-next.marks.items, c.loop-next.found.items) (search rules) c.loop-next.invariant
