-- The log of a time step, the newest event first: what an event is, which event is before which, and which of them conflict.
use Rattle.std.specs.Prelude.{◌≡◌, ◌⊎◌, ◌↔◌, ℕ, suc, List, [], ◌∷◌, length, Bool, true, false, ◌&&◌, ◌||◌, nat_lt, nat_eq, cond, Option, Some, None}
use Rattle.bench_model.specs.Paths.{Path, is_path}

-- What an act does, as far as others may see it: inputs and signals by number, threads by path.
pub data Kind : Type 0 where
  pokes : (port : ℕ) → Kind
  peeks : (signal : ℕ) → Kind
  expects : (signal : ℕ) → Kind
  forks : (child : Path) → Kind
  joins : (child : Path) → Kind
  arrives : Kind
  joinsteps : (child : Path) → Kind
  spends : Kind
  ends : Kind

-- One act of the thread `path`. `joined` is the child that its act before this one joined, if that was a join.
pub record Event : Type 0 where
  pub path : Path
  pub region : ℕ
  pub joined : Option Path
  pub line : ℕ
  pub kind : Kind

-- ---- names of events

-- A name is given to the event that comes next after a log. Two ways are used: the number of events before it, and its path
-- with the number of that path's events before it. The first says where it stands; the second is the same in alike logs.
abbrev pub Label : Type 0 → Type 0
Label B = List Event → Event → B

-- the place of the event that comes after a log
abbrev pub place : Label ℕ
place log e = length log

-- how many events of the log have the path p
abbrev pub count : Path → List Event → ℕ
count p [] = 0
count p (e ∷ log) = cond (is_path p e.path) (suc (count p log)) (count p log)

-- a path, and a number of one of its events
abbrev pub Name : Type 0
Name = Path × ℕ

-- the path of the event that comes after a log, and its number among the events of that path
abbrev pub name : Label Name
name log e = (e.path, count e.path log)

-- the log has the event d under the name x
abbrev pub AtBy : {B : Type 0} → Label B → List Event → B → Event → Type 0
AtBy label [] x d = ⊥
AtBy label (e ∷ log) x d = ((x ≡ label log e) × (d ≡ e)) ⊎ AtBy label log x d

-- ---- before

-- the event forks the thread p
abbrev pub is_fork_of : Kind → Path → Bool
is_fork_of (forks c) p = is_path c p
is_fork_of _ p = false

-- the event is the end of its thread
abbrev pub is_end : Kind → Bool
is_end ends = true
is_end _ = false

-- the joined child is the thread p
abbrev pub names_joined : Option Path → Path → Bool
names_joined None p = false
names_joined (Some c) p = is_path c p

-- THE FOUR LINKS from an earlier event d to a later event e: both are of one thread; d forks the thread of e; d is the end of
-- the child that e names as joined; d is of a lesser region.
abbrev pub link : Event → Event → Bool
link d e = is_path d.path e.path || (is_fork_of d.kind e.path || ((is_end d.kind && names_joined e.joined d.path) || nat_lt d.region e.region))

-- an event x of the log has a link to the event e that comes after it, and n is x or before it
abbrev pub LeadsBy : {B : Type 0} → Label B → List Event → (B → B → Type 0) → B → Event → Type 0
LeadsBy {B} label log before n e = (x : B) × (d : Event) × AtBy label log x d × (link d e ≡ true) × ((n ≡ x) ⊎ before n x)

-- BEFORE: a chain of links, each from an earlier event to a later one, leads from the event n to the event m
abbrev pub BeforeBy : {B : Type 0} → Label B → List Event → B → B → Type 0
BeforeBy label [] n m = ⊥
BeforeBy label (e ∷ log) n m = ((m ≡ label log e) × LeadsBy label log (λ a b. BeforeBy label log a b) n e) ⊎ BeforeBy label log n m

-- a chain of links leads from the event n of the log to the event e that comes after it
abbrev pub LeadsTo : {B : Type 0} → Label B → List Event → B → Event → Type 0
LeadsTo label log n e = LeadsBy label log (λ a b. BeforeBy label log a b) n e

-- ---- conflicts

-- the value of the input p matters to what the event does, or is set by it. `cone s p`: the signal s depends on the input p
abbrev pub touches : (cone : ℕ → ℕ → Bool) → Kind → ℕ → Bool
touches cone (pokes q) p = nat_eq q p
touches cone (peeks s) p = cone s p
touches cone (expects s) p = cone s p
touches cone _ p = false

-- the first pokes an input that the second touches
abbrev pub hits : (cone : ℕ → ℕ → Bool) → Kind → Kind → Bool
hits cone (pokes p) e = touches cone e p
hits cone _ e = false

-- CLASH: one of the two pokes an input that the other pokes or depends on
abbrev pub clash : (cone : ℕ → ℕ → Bool) → Kind → Kind → Bool
clash cone d e = hits cone d e || hits cone e d

-- THE NEW EVENT e MEETS NO CONFLICT with the log: each event that clashes with it leads to it
abbrev pub NoConflictBy : {B : Type 0} → Label B → (cone : ℕ → ℕ → Bool) → List Event → Event → Type 0
NoConflictBy {B} label cone log e = (x : B) (d : Event) → AtBy label log x d → clash cone d.kind e.kind ≡ true → LeadsTo label log x e

-- ---- the same by path and number

-- the log has the event d under the name x
abbrev pub At : List Event → Name → Event → Type 0
At log x d = AtBy name log x d

-- the event n is before the event m
abbrev pub Before : List Event → Name → Name → Type 0
Before log n m = BeforeBy name log n m

-- the event n leads to the event e that comes after the log
abbrev pub Leads : List Event → Name → Event → Type 0
Leads log n e = LeadsTo name log n e

-- the new event meets no conflict
abbrev pub NoConflict : (cone : ℕ → ℕ → Bool) → List Event → Event → Type 0
NoConflict cone log e = NoConflictBy name cone log e

-- TWO LOGS ARE ALIKE where they have the same events with the same "before"
pub record LogAlike (log log' : List Event) : Type 0 where
  pub counts : (p : Path) → count p log ≡ count p log'
  pub events : (x : Name) (d : Event) → At log x d ↔ At log' x d
  pub before : (n m : Name) → Before log n m ↔ Before log' n m
  pub size : length log ≡ length log'

-- ---- the tests that compute it

-- They walk from the newest event to the oldest. `past` has the new event, and the events met so far that lead to it.
abbrev pub leads_to_any : Event → List Event → Bool
leads_to_any d [] = false
leads_to_any d (x ∷ past) = link d x || leads_to_any d past

-- whether an event that does not lead to e clashes with it
abbrev pub scan : (cone : ℕ → ℕ → Bool) → Event → List Event → List Event → Bool
scan cone e [] past = false
scan cone e (d ∷ log) past = elim (leads_to_any d past) [ true ↦ scan cone e log (d ∷ past) | false ↦ clash cone d.kind e.kind || scan cone e log past ]

-- the new event conflicts with an event of the log
abbrev pub conflicts : (cone : ℕ → ℕ → Bool) → List Event → Event → Bool
conflicts cone log e = scan cone e log (e ∷ [])

-- an earlier place, or this one where its event conflicts
abbrev pub or_here : Option ℕ → Bool → ℕ → Option ℕ
or_here (Some i) c n = Some i
or_here None true n = Some n
or_here None false n = None

-- the least place of such an event
abbrev pub least_scan : (cone : ℕ → ℕ → Bool) → Event → List Event → List Event → Option ℕ
least_scan cone e [] past = None
least_scan cone e (d ∷ log) past = elim (leads_to_any d past) [ true ↦ least_scan cone e log (d ∷ past) | false ↦ or_here (least_scan cone e log past) (clash cone d.kind e.kind) (length log) ]

-- THE LEAST PLACE of an event of the log that conflicts with the new event, or none
abbrev pub least_place : (cone : ℕ → ℕ → Bool) → List Event → Event → Option ℕ
least_place cone log e = least_scan cone e log (e ∷ [])

-- the event at a place
abbrev pub event_at : List Event → ℕ → Option Event
event_at [] i = None
event_at (e ∷ log) i = cond (nat_eq i (length log)) (Some e) (event_at log i)
