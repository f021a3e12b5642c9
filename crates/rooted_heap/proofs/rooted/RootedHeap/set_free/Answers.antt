use Rattle.std.proofs.Common.{◌≡◌, ap, ◌∙◌, sym, map, get_or, subst, take}
use Rattle.std.proofs.Math.ListN.{set}
use Rattle.std.proofs.Math.Seq.{take-set-lt}
use Rattle.std.proofs.lemmas.List.{length-set}
use Rattle.gd_model.specs.declared.value.Value.{Value}
use Rattle.gd_holding.specs.Handles.{value_handle}
use Rattle.rooted_heap.specs.Rooted.{bare, handles, IsSound}
use Rattle.rooted_heap.proofs.Counting.{bare-dropped}
use Rattle.rooted_heap.proofs.Holding.{apart_held}
use Rattle.rooted_heap.proofs.Values.{set_apart, sound_set, place_of, next_view}
use Rattle.rooted_heap.proofs.rooted.RootedHeap.set_free.Goals as goal

pub give_up-requires : goal.give_up-requires
give_up-requires c =
    let slots = c.self.inside.slots.items in
    let lt = place_of slots c.args.self.now.values c.args.i (ap (λ w. w.values) c.self.view_is) c.self.invariant.within c.requires.there in
    let old : c.replace-old.result ≡ get_or slots c.args.i c.replace-old.result = subst (λ (y : Value). y ≡ get_or slots c.args.i y) (sym c.replace-old.ensures.value) c.index_mut.ensures.value in
    record { held = apart_held c.replace-old.result (set (take c.self.inside.top slots) c.args.i c.args.value) (set_apart c.self.invariant c.args.i lt c.replace-old.result c.args.value old c.requires.free) }

pub invariant_of-self : goal.invariant_of-self
invariant_of-self c =
    let slots = c.self.inside.slots.items in
    let lt = place_of slots c.args.self.now.values c.args.i (ap (λ w. w.values) c.self.view_is) c.self.invariant.within c.requires.there in
    let old : c.replace-old.result ≡ get_or slots c.args.i c.replace-old.result = subst (λ (y : Value). y ≡ get_or slots c.args.i y) (sym c.replace-old.ensures.value) c.index_mut.ensures.value in
    subst (λ (z : Value). IsSound c.give_up.new.heap.things c.self.inside.names (set slots c.args.i z) c.self.inside.top) (sym c.replace-old.ensures.after)
    (sound_set c.self.invariant c.args.i lt c.replace-old.result c.args.value old c.requires.free
    (ap (λ h. map bare h.things) c.give_up.ensures.counted ∙ bare-dropped c.self.inside.heap.things (value_handle c.replace-old.result))
    (c.give_up.ensures.holders (handles (set (take c.self.inside.top slots) c.args.i c.args.value)) (set_apart c.self.invariant c.args.i lt c.replace-old.result c.args.value old c.requires.free)))

pub returns : goal.returns
returns c =
    let slots = c.self.inside.slots.items in
    let lt = place_of slots c.args.self.now.values c.args.i (ap (λ w. w.values) c.self.view_is) c.self.invariant.within c.requires.there in
    let old : c.replace-old.result ≡ get_or slots c.args.i c.replace-old.result = subst (λ (y : Value). y ≡ get_or slots c.args.i y) (sym c.replace-old.ensures.value) c.index_mut.ensures.value in
    next_view c.self.inside.heap c.give_up.new.heap c.self.inside.names slots _ c.self.inside.top c.self.inside.top c.args.self.now c.self.view_is
    (ap (λ h. map bare h.things) c.give_up.ensures.counted ∙ bare-dropped c.self.inside.heap.things (value_handle c.replace-old.result))
    (ap (λ h. h.round) c.give_up.ensures.counted)
    (ap (λ h. h.made) c.give_up.ensures.counted)
    (length-set slots c.args.i c.replace-old.new.dest)
    _
    (ap (λ (z : Value). take c.self.inside.top (set slots c.args.i z)) c.replace-old.ensures.after
    ∙ take-set-lt c.self.inside.top slots c.args.i c.args.value lt
    ∙ ap (λ l. set l c.args.i c.args.value) (ap (λ w. w.values) c.self.view_is))
