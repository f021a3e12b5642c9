use Rattle.std.proofs.Common.{◌≡◌, ◌+◌, List, [], ◌∷◌, ◌++◌, length, map, take, ap, ◌∙◌, sym, subst, arith}
use Rattle.std.proofs.Math.ListN.{set}
use Rattle.std.proofs.lemmas.List.{length-set}
use Rattle.slot_arena.specs.Slots.{Entry, value_at, written_at}
use Rattle.gd_model.specs.declared.fault.RunFault.TheVariants.{TooManyThings}
use Rattle.gd_model.specs.declared.value.Value.{Value}
use Rattle.gd_holding.specs.Holding.{AreCounted}
use Rattle.counted_heap.specs.declared.thing.Thing.{Thing}
use Rattle.counted_heap.specs.Thing.{thing_places}
use Rattle.counted_heap.specs.Heap.{RisesFrom, serials}
use Rattle.rooted_heap.specs.declared.making.ThingKind.{ThingKind}
use Rattle.rooted_heap.specs.Making.{kind_in, value_named}
use Rattle.rooted_heap.specs.Rooted.{bare, contents, handles, IsSound}
use Rattle.rooted_heap.specs.Keeping.{kept_all, CanKeep}
use Rattle.rooted_heap.proofs.Filled.{Filling, can_fill, counted_empty, is_found, fill_kept, found_new, sound_filled, filled_things}
use Rattle.rooted_heap.proofs.Made.{room_for_thing}
use Rattle.rooted_heap.proofs.Values.{room_left, new_view, pushed_values}
use Rattle.rooted_heap.proofs.rooted.RootedHeap.push_filled.Goals as goal

pub keep_contents-requires : goal.keep_contents-requires
keep_contents-requires c =
    let es = c.self.inside.heap.things in
    let names = c.self.inside.names in
    let slots = c.self.inside.slots.items in
    let top = c.self.inside.top in
    let h = c.in_ok-h.h in
    let full = c.args.full in
    let e : Entry Thing = record { index = h.index; serial = h.serial; count = 1; value = c.args.empty } in
    let hand = handles (take top slots) in
    let room = room_left slots c.args.self.now.values c.args.self.now.slots (ap (λ w. w.values) c.self.view_is) (ap (λ w. w.slots) c.self.view_is) c.self.invariant.within c.requires.room in
    let filling : Filling es names slots top e full = record {
      sound = c.self.invariant;
      room = room;
      short = omega arith;
      rises = c.rising_law.ensures;
      rises_made = subst (λ (l : List (Entry Thing)). RisesFrom 0 (serials l)) c.in_ok-h.ensures.things c.rising_law-2.ensures;
      few = room_for_thing (length es) c.self.inside.heap.made TooManyThings c.in_ok-h.ensures.faults;
      free = c.requires.free;
      kind = c.requires.kind;
      container = c.requires.container;
      counted = subst (λ (l : List (Entry Thing)). AreCounted thing_places l (h ∷ hand)) c.in_ok-h.ensures.things
          (c.in_ok-h.ensures.holders hand (counted_empty es c.args.empty hand c.requires.free c.self.invariant.held.counted));
      can = can_fill c.self.inside.heap names slots top c.args.self.now c.self.view_is (contents full) c.requires.held c.requires.few;
    } in
    subst (λ (l : List (Entry Thing)). CanKeep l (contents full)) (sym c.in_ok-h.ensures.things) (fill_kept e full filling)

pub thing_mut-requires : goal.thing_mut-requires
thing_mut-requires c =
    let es = c.self.inside.heap.things in
    let names = c.self.inside.names in
    let slots = c.self.inside.slots.items in
    let top = c.self.inside.top in
    let h = c.in_ok-h.h in
    let full = c.args.full in
    let e : Entry Thing = record { index = h.index; serial = h.serial; count = 1; value = c.args.empty } in
    let hand = handles (take top slots) in
    let room = room_left slots c.args.self.now.values c.args.self.now.slots (ap (λ w. w.values) c.self.view_is) (ap (λ w. w.slots) c.self.view_is) c.self.invariant.within c.requires.room in
    let filling : Filling es names slots top e full = record {
      sound = c.self.invariant;
      room = room;
      short = omega arith;
      rises = c.rising_law.ensures;
      rises_made = subst (λ (l : List (Entry Thing)). RisesFrom 0 (serials l)) c.in_ok-h.ensures.things c.rising_law-2.ensures;
      few = room_for_thing (length es) c.self.inside.heap.made TooManyThings c.in_ok-h.ensures.faults;
      free = c.requires.free;
      kind = c.requires.kind;
      container = c.requires.container;
      counted = subst (λ (l : List (Entry Thing)). AreCounted thing_places l (h ∷ hand)) c.in_ok-h.ensures.things
          (c.in_ok-h.ensures.holders hand (counted_empty es c.args.empty hand c.requires.free c.self.invariant.held.counted));
      can = can_fill c.self.inside.heap names slots top c.args.self.now c.self.view_is (contents full) c.requires.held c.requires.few;
    } in
    let all = es ++ e ∷ [] in
    let new : c.keep_contents.new.heap.things ≡ kept_all all (contents full) =
    ap (λ w. w.things) c.keep_contents.ensures ∙ ap (λ (l : List (Entry Thing)). kept_all l (contents full)) c.in_ok-h.ensures.things in
    let rises2 = subst (λ (l : List (Entry Thing)). RisesFrom 0 (serials l)) new c.rising_law-3.ensures in
    is_found c.keep_contents.new.heap.things h c.args.empty (ap (λ (l : List (Entry Thing)). value_at l h) new ∙ found_new e full filling rises2)

pub invariant_of-self-2 : goal.invariant_of-self-2
invariant_of-self-2 c =
    let es = c.self.inside.heap.things in
    let names = c.self.inside.names in
    let slots = c.self.inside.slots.items in
    let top = c.self.inside.top in
    let h = c.in_ok-h.h in
    let full = c.args.full in
    let e : Entry Thing = record { index = h.index; serial = h.serial; count = 1; value = c.args.empty } in
    let hand = handles (take top slots) in
    let room = room_left slots c.args.self.now.values c.args.self.now.slots (ap (λ w. w.values) c.self.view_is) (ap (λ w. w.slots) c.self.view_is) c.self.invariant.within c.requires.room in
    let filling : Filling es names slots top e full = record {
      sound = c.self.invariant;
      room = room;
      short = omega arith;
      rises = c.rising_law.ensures;
      rises_made = subst (λ (l : List (Entry Thing)). RisesFrom 0 (serials l)) c.in_ok-h.ensures.things c.rising_law-2.ensures;
      few = room_for_thing (length es) c.self.inside.heap.made TooManyThings c.in_ok-h.ensures.faults;
      free = c.requires.free;
      kind = c.requires.kind;
      container = c.requires.container;
      counted = subst (λ (l : List (Entry Thing)). AreCounted thing_places l (h ∷ hand)) c.in_ok-h.ensures.things
          (c.in_ok-h.ensures.holders hand (counted_empty es c.args.empty hand c.requires.free c.self.invariant.held.counted));
      can = can_fill c.self.inside.heap names slots top c.args.self.now c.self.view_is (contents full) c.requires.held c.requires.few;
    } in
    let all = es ++ e ∷ [] in
    let new : c.keep_contents.new.heap.things ≡ kept_all all (contents full) =
    ap (λ w. w.things) c.keep_contents.ensures ∙ ap (λ (l : List (Entry Thing)). kept_all l (contents full)) c.in_ok-h.ensures.things in
    let rises2 = subst (λ (l : List (Entry Thing)). RisesFrom 0 (serials l)) new c.rising_law-3.ensures in
    let value : c.value_of.result ≡ value_named (kind_in c.args.empty) h = c.value_of.ensures ∙ ap (λ (k : ThingKind). value_named k h) c.kind_of-kind.ensures in
    subst (λ (l : List (Entry Thing)). IsSound (written_at l h full) names (set slots top c.value_of.result) (top + 1)) (sym new)
    (subst (λ (x : Value). IsSound (written_at (kept_all all (contents full)) h full) names (set slots top x) (top + 1)) (sym value)
    (sound_filled e full filling rises2 (subst (λ (l : List (Entry Thing)). RisesFrom 0 (serials (written_at l h full))) new c.rising_law-4.ensures)))

pub returns-clause-ok : goal.returns-clause-ok
returns-clause-ok c =
    let es = c.self.inside.heap.things in
    let names = c.self.inside.names in
    let slots = c.self.inside.slots.items in
    let top = c.self.inside.top in
    let h = c.in_ok-h.h in
    let full = c.args.full in
    let e : Entry Thing = record { index = h.index; serial = h.serial; count = 1; value = c.args.empty } in
    let hand = handles (take top slots) in
    let room = room_left slots c.args.self.now.values c.args.self.now.slots (ap (λ w. w.values) c.self.view_is) (ap (λ w. w.slots) c.self.view_is) c.self.invariant.within c.requires.room in
    let filling : Filling es names slots top e full = record {
      sound = c.self.invariant;
      room = room;
      short = omega arith;
      rises = c.rising_law.ensures;
      rises_made = subst (λ (l : List (Entry Thing)). RisesFrom 0 (serials l)) c.in_ok-h.ensures.things c.rising_law-2.ensures;
      few = room_for_thing (length es) c.self.inside.heap.made TooManyThings c.in_ok-h.ensures.faults;
      free = c.requires.free;
      kind = c.requires.kind;
      container = c.requires.container;
      counted = subst (λ (l : List (Entry Thing)). AreCounted thing_places l (h ∷ hand)) c.in_ok-h.ensures.things
          (c.in_ok-h.ensures.holders hand (counted_empty es c.args.empty hand c.requires.free c.self.invariant.held.counted));
      can = can_fill c.self.inside.heap names slots top c.args.self.now c.self.view_is (contents full) c.requires.held c.requires.few;
    } in
    let all = es ++ e ∷ [] in
    let new : c.keep_contents.new.heap.things ≡ kept_all all (contents full) =
    ap (λ w. w.things) c.keep_contents.ensures ∙ ap (λ (l : List (Entry Thing)). kept_all l (contents full)) c.in_ok-h.ensures.things in
    let rises2 = subst (λ (l : List (Entry Thing)). RisesFrom 0 (serials l)) new c.rising_law-3.ensures in
    let value : c.value_of.result ≡ value_named (kind_in full) h = c.value_of.ensures ∙ ap (λ (k : ThingKind). value_named k h) (c.kind_of-kind.ensures ∙ sym c.requires.kind) in
    record {
      handle = h;
      serial_is = c.in_ok-h.ensures.handle ∙ ap (λ w. w.made + 1) c.self.view_is;
      new_is = new_view c.self.inside.heap (record c.keep_contents.new.heap { things = written_at c.keep_contents.new.heap.things h full }) names slots _ top (top + 1) c.args.self.now c.self.view_is
          (c.args.self.now.things ++ (h, full) ∷ []) (c.args.self.now.made + 1) (c.args.self.now.values ++ value_named (kind_in full) h ∷ [])
          (ap (λ (l : List (Entry Thing)). map bare (written_at l h full)) new ∙ filled_things e full filling ∙ ap (λ w. w.things ++ (h, full) ∷ []) c.self.view_is)
          (ap (λ w. w.round) c.keep_contents.ensures ∙ c.in_ok-h.ensures.round)
          (ap (λ w. w.made) c.keep_contents.ensures ∙ c.in_ok-h.ensures.made ∙ ap (λ w. w.made + 1) c.self.view_is)
          (length-set slots top c.value_of.result)
          (pushed_values slots top c.args.self.now.values c.value_of.result (value_named (kind_in full) h) (ap (λ w. w.values) c.self.view_is) room value);
    }
