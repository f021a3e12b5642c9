-- What is behind a handle is what the store has by its serial number.
use Rattle.std.proofs.Common.{◌≡◌, List, eqb, Option, Some, None, ap}
use Rattle.std.specs.Prelude.{find, option_map}
use Rattle.std.proofs.lemmas.Bool.{cond_both}
use Rattle.slot_arena.specs.declared.handle.Handle.{Handle}
use Rattle.gd_model.specs.Meant.{thing_of}
use Rattle.gd_model.specs.View.{ThingView}
use Rattle.counted_heap.specs.declared.thing.Thing.{Thing}
use Rattle.rooted_heap.specs.Rooted.{has_serial, lying_at, thing_view, seen, store_of}

pub seen_is_stored : (things : List (Handle × Thing)) (h : Handle) (thing : ThingView) → seen things h ≡ Some thing → store_of things h.serial ≡ Some (thing_of thing)
seen_is_stored things h thing is = of_found (find (has_serial h.serial) things) is
  where
    of_found : (o : Option (Handle × Thing)) → option_map thing_view (lying_at h.index o) ≡ Some thing → option_map (λ (t : Handle × Thing). thing_of (thing_view t.1)) o ≡ Some (thing_of thing)
    of_found None found = absurd (cc)
    of_found (Some t) found =
        cond_both (eqb t.0.index h.index) (Some t.1) None
        (λ o. option_map thing_view o ≡ Some thing → Some (thing_of (thing_view t.1)) ≡ Some (thing_of thing))
        (λ here same. ap (option_map thing_of) same)
        (λ other same. absurd (cc))
        found
