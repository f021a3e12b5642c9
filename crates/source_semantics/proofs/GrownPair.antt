-- Two meanings of one project, of which the right one goes on from the left one.
use Rattle.std.proofs.Common.{ℕ, suc, List, refl}
use Rattle.std.specs.Prelude.{Bool, true, false, cond, Result, Ok, Err}
use Rattle.gd_model.specs.Datum.{Datum}
use Rattle.gd_model.specs.Store as thing
use Rattle.gd_model.specs.Store.{Thing}
use Rattle.gd_model.specs.declared.fault.RunFault.{RunFault}
use Rattle.gd_model.specs.declared.fault.RunFault.TheVariants.{TooManyThings}
use Rattle.gd_model.specs.declared.ty.Ty.{Ty}
use Rattle.gd_syntax.specs.declared.pos.Pos.{Pos}
use Rattle.value_semantics.specs.Made.{Made}
use Rattle.value_semantics.specs.Made as m
use Rattle.store_semantics.specs.World.{World, is_full, made_as, make, put, with_thing}
use Rattle.source_semantics.specs.Expressions.{Context}
use Rattle.source_semantics.specs.Meaning.{Entry, Frame, Making, Meaning}
use Rattle.source_semantics.specs.Project.{Project}
use Rattle.source_semantics.specs.State.{at_place}
use Rattle.source_semantics.specs.Types.{start_made, start_value}
use Rattle.source_semantics.proofs.Grown.{Adds, Bound, Goes, extends_same, extends_self, goes_at_place}

-- with at most so many turns left
pub record Pair : Type 0 where
  pub bound : Bound
  pub project : Project
  pub left : Meaning
  pub right : Meaning
  pub enters : (e : Entry) (hand : List Datum) → Goes bound (left.enter e hand) (right.enter e hand)
  pub makes : (x : Making) (hand : List Datum) → Goes bound (left.make x hand) (right.make x hand)

abbrev pub left_of : Pair → Frame → Context
left_of q frame = record { project = q.project; meaning = q.left; frame = frame }

abbrev pub right_of : Pair → Frame → Context
right_of q frame = record { project = q.project; meaning = q.right; frame = frame }

-- ---- new things

make_adds_by : (w : World) (t : Thing) (full : Bool)
    → Adds w (cond full (Err TooManyThings) (Ok (suc w.made, with_thing w t)))
make_adds_by w t true = tt
make_adds_by w t false = extends_same w (with_thing w t) refl

pub make_adds : (w : World) (t : Thing) → Adds w (make w t)
make_adds w t = make_adds_by w t (is_full w)

made_as_adds : (form : ℕ → Datum) (w : World) (x : Result (ℕ × World) RunFault) → Adds w x → Adds w (made_as form x)
made_as_adds form w (Ok p) e = e
made_as_adds form w (Err f) e = tt

pub put_adds : (w : World) (x : Made) → Adds w (put w x)
put_adds w (m.value v) = extends_self w
put_adds w (m.array a) = made_as_adds _ w (make w (thing.array a)) (make_adds w (thing.array a))
put_adds w (m.dict a) = made_as_adds _ w (make w (thing.dict a)) (make_adds w (thing.dict a))

pub goes_put : {n : Bound} (pos : Pos) (x : Made) → Goes n (λ r. at_place pos r (put r.world x))
    (λ r. at_place pos r (put r.world x))
goes_put pos x = goes_at_place pos (λ w. put w x) (λ w. put_adds w x)

pub goes_make : {n : Bound} (pos : Pos) (t : Thing) → Goes n (λ r. at_place pos r (make r.world t))
    (λ r. at_place pos r (make r.world t))
goes_make pos t = goes_at_place pos (λ w. make w t) (λ w. make_adds w t)

pub goes_start : {n : Bound} (pos : Pos) (t : Ty) → Goes n (λ r. at_place pos r (start_value r.world t))
    (λ r. at_place pos r (start_value r.world t))
goes_start pos t = goes_put pos (start_made t)
