use Rattle.std.proofs.Common.{◌≡◌, ◌+◌, ◌-◌, ◌<◌, ap, ◌∙◌, sym, arith, map, get_or, subst, take}
use Rattle.std.proofs.Math.ListN.{set}
use Rattle.std.proofs.lemmas.List.{length-set}
use Rattle.gd_model.specs.declared.value.Value.{Value}
use Rattle.gd_holding.specs.Handles.{value_handle}
use Rattle.rooted_heap.specs.Rooted.{bare, handles, IsSound}
use Rattle.rooted_heap.proofs.Counting.{bare-dropped}
use Rattle.rooted_heap.proofs.Holding.{apart_held}
use Rattle.rooted_heap.proofs.Values.{stored_apart, sound_stored, place_of, next_view, stored_values}
use Rattle.rooted_heap.proofs.rooted.RootedHeap.store.Goals as goal

pub give_up-requires : goal.give_up-requires
give_up-requires c =
    let some = place_of c.self.inside.slots.items c.args.self.now.values (c.args.i + 1) (ap (λ w. w.values) c.self.view_is) c.self.invariant.within c.requires in
    let j = c.self.inside.top - 1 in
    let slots = c.self.inside.slots.items in
    let top : c.self.inside.top ≡ j + 1 = omega arith in
    let lt : c.args.i < j = omega arith in
    let x : c.replace-last.result ≡ get_or slots j c.replace-last.result = subst (λ (y : Value). y ≡ get_or slots j y) (sym c.replace-last.ensures.value) c.index_mut.ensures.value in
    let old : c.replace-old.result ≡ get_or (set slots j c.replace-last.new.dest) c.args.i c.replace-old.result = subst (λ (y : Value). y ≡ get_or (set slots j c.replace-last.new.dest) c.args.i y) (sym c.replace-old.ensures.value) c.index_mut-2.ensures.value in
    record { held = apart_held c.replace-old.result (set (take j slots) c.args.i c.replace-last.result) (stored_apart c.self.invariant c.args.i j top lt c.replace-last.result c.replace-old.result c.replace-last.new.dest x old) }

pub invariant_of-self : goal.invariant_of-self
invariant_of-self c =
    let some = place_of c.self.inside.slots.items c.args.self.now.values (c.args.i + 1) (ap (λ w. w.values) c.self.view_is) c.self.invariant.within c.requires in
    let j = c.self.inside.top - 1 in
    let slots = c.self.inside.slots.items in
    let top : c.self.inside.top ≡ j + 1 = omega arith in
    let lt : c.args.i < j = omega arith in
    let x : c.replace-last.result ≡ get_or slots j c.replace-last.result = subst (λ (y : Value). y ≡ get_or slots j y) (sym c.replace-last.ensures.value) c.index_mut.ensures.value in
    let old : c.replace-old.result ≡ get_or (set slots j c.replace-last.new.dest) c.args.i c.replace-old.result = subst (λ (y : Value). y ≡ get_or (set slots j c.replace-last.new.dest) c.args.i y) (sym c.replace-old.ensures.value) c.index_mut-2.ensures.value in
    subst (λ (z : Value). IsSound c.give_up.new.heap.things c.self.inside.names (set (set slots j c.replace-last.new.dest) c.args.i z) j) (sym c.replace-old.ensures.after)
    (sound_stored c.self.invariant c.args.i j top lt c.replace-last.result c.replace-old.result c.replace-last.new.dest x old
    (ap (λ h. map bare h.things) c.give_up.ensures.counted ∙ bare-dropped c.self.inside.heap.things (value_handle c.replace-old.result))
    (c.give_up.ensures.holders (handles (set (take j slots) c.args.i c.replace-last.result)) (stored_apart c.self.invariant c.args.i j top lt c.replace-last.result c.replace-old.result c.replace-last.new.dest x old)))

pub returns : goal.returns
returns c =
    let some = place_of c.self.inside.slots.items c.args.self.now.values (c.args.i + 1) (ap (λ w. w.values) c.self.view_is) c.self.invariant.within c.requires in
    let j = c.self.inside.top - 1 in
    let slots = c.self.inside.slots.items in
    let top : c.self.inside.top ≡ j + 1 = omega arith in
    let lt : c.args.i < j = omega arith in
    let x : c.replace-last.result ≡ get_or slots j c.replace-last.result = subst (λ (y : Value). y ≡ get_or slots j y) (sym c.replace-last.ensures.value) c.index_mut.ensures.value in
    let old : c.replace-old.result ≡ get_or (set slots j c.replace-last.new.dest) c.args.i c.replace-old.result = subst (λ (y : Value). y ≡ get_or (set slots j c.replace-last.new.dest) c.args.i y) (sym c.replace-old.ensures.value) c.index_mut-2.ensures.value in
    let values = ap (λ w. w.values) c.self.view_is in
    next_view c.self.inside.heap c.give_up.new.heap c.self.inside.names slots _ c.self.inside.top j c.args.self.now c.self.view_is
    (ap (λ h. map bare h.things) c.give_up.ensures.counted ∙ bare-dropped c.self.inside.heap.things (value_handle c.replace-old.result))
    (ap (λ h. h.round) c.give_up.ensures.counted)
    (ap (λ h. h.made) c.give_up.ensures.counted)
    (length-set (set slots j c.replace-last.new.dest) c.args.i c.replace-old.new.dest ∙ length-set slots j c.replace-last.new.dest)
    _
    (ap (λ (z : Value). take j (set (set slots j c.replace-last.new.dest) c.args.i z)) c.replace-old.ensures.after
    ∙ stored_values slots c.self.inside.top c.args.self.now.values c.args.i c.replace-last.result c.replace-last.new.dest values c.self.invariant.within lt x)
