-- Flows, as the rules and the elaboration have them: each is told by what it gives.
use Rattle.std.proofs.Common.{◌≡◌, ◌∙◌, sym, ap, Bool, true, false, [], ◌∷◌, Option, Some, None, refl, if◌then◌else◌}
use Rattle.fir_ast.specs.declared.tree.Ty.TheVariants as ty
use Rattle.fir_ast.specs.declared.tree.Expr.TheOpen.{Lit}
use Rattle.fir_check.specs.Scopes.{Thing, free_known, instance_thing, level_thing, turned as turned_way, may_be_driven as may_drive}
use Rattle.fir_check.specs.Ranks.{no_module}
use Rattle.fir_flat.specs.Shapes.{empty}
use Rattle.fir_flat.specs.Bodies.{Body, wire}
use Rattle.fir_flat.specs.Values.{Bound, no_value, turned, may_be_driven}
use Rattle.fir_flat.specs.Modules.{unplaced, instance}
use Rattle.fir_flat.specs.Elaboration.{grounds}

abbrev type_of : {A : Type 0} → A → Type 0
type_of {A = A} x = A

-- in the elaboration

abbrev pub Flow : Type 0
Flow = type_of no_value.flow

-- the bound of which this holds
abbrev the_bound : (b : Bound) → ((rest : Body) → grounds [] [] 0 (wire 0 [] empty rest) ≡ grounds [] (b ∷ []) 0 rest) → Bound
the_bound b h = b

abbrev pub Free : Flow
Free = (the_bound _ (λ rest. refl)).flow

abbrev pub Sink : Flow
Sink = (unplaced (record { line = 0; output = true; name = []; ty = ty.Clock })).flow

abbrev pub Source : Flow
Source = (instance [] [] [] 0).flow

abbrev pub Fixed : Flow
Fixed = no_value.flow

-- in the rules

abbrev pub Way : Type 0
Way = type_of (instance_thing no_module).flow

abbrev flow_in : Option Thing → Way
flow_in None = (instance_thing no_module).flow
flow_in (Some t) = t.flow

abbrev pub free_way : Way
free_way = flow_in (free_known [] ty.Clock).meaning

abbrev pub fixed_way : Way
fixed_way = flow_in (level_thing [] (Lit false None false 0))

abbrev pub source_way : Way
source_way = (instance_thing no_module).flow

-- both give the same
pub record Like (w : Way) (f : Flow) : Type 0 where
  pub along : may_be_driven f ≡ may_drive w
  pub against : may_be_driven (turned f) ≡ may_drive (turned_way w)
  pub twice : turned (turned f) ≡ f
  pub way_twice : turned_way (turned_way w) ≡ w

pub free_like : Like free_way Free
free_like = record { along = refl; against = refl; twice = refl; way_twice = refl }

pub fixed_like : Like fixed_way Fixed
fixed_like = record { along = refl; against = refl; twice = refl; way_twice = refl }

pub source_like : Like source_way Source
source_like = record { along = refl; against = refl; twice = refl; way_twice = refl }

pub sink_like : Like (turned_way source_way) Sink
sink_like = record { along = refl; against = refl; twice = refl; way_twice = refl }

pub turned_like : (w : Way) (f : Flow) → Like w f → Like (turned_way w) (turned f)
turned_like w f l = record {
  along = l.against;
  against = ap may_be_driven l.twice ∙ l.along ∙ ap may_drive (sym l.way_twice);
  twice = ap turned l.twice;
  way_twice = ap turned_way l.way_twice;
}

pub flipped_like : (b : Bool) (w : Way) (f : Flow) → Like w f → Like (if b then turned_way w else w) (if b then turned f else f)
flipped_like true w f l = turned_like w f l
flipped_like false w f l = l
