use Rattle.std.proofs.Common.{◌≡◌, ◌+◌, ◌-◌, ◌<◌, Bool, false, IsTrue, length, get_or, ap, ◌∙◌, sym, arith}
use Rattle.std.proofs.Math.ListN.{set}
use Rattle.slot_arena.specs.Slots.{written_at}
use Rattle.gd_model.specs.declared.value.Value.{Value}
use Rattle.gd_model.specs.declared.value.Value.TheVariants as v
use Rattle.gd_holding.specs.Handles.{value_handle}
use Rattle.rooted_heap.specs.Rooted.{RootedView}
use Rattle.rooted_heap.specs.Writing.{Exchanges, SwapsValue, plain_part}
use Rattle.rooted_heap.proofs.Read.{array_named, alive_at}
use Rattle.rooted_heap.proofs.Swapped.{sound_tried, unswapped, swaps, last_changed, x_last, where_ok, where_err, both_ok, both_err}
use Rattle.rooted_heap.proofs.Values.{place_of, value_is, view_of}
use Rattle.rooted_heap.proofs.rooted.RootedHeap.swap_element.Goals as goal

pub thing_mut-requires : goal.thing_mut-requires
thing_mut-requires c =
    let slots = c.self.inside.slots.items in
    let some = place_of slots c.args.self.now.values (c.args.i + 1) (ap (λ w. w.values) c.self.view_is) c.self.invariant.within c.requires in
    let lt : c.args.i < c.self.inside.top = omega arith in
    let any : 0 < c.self.inside.top = omega arith in
    alive_at c.self.invariant c.args.i lt c.index.result.now c.index.ensures c.in-Some.h (array_named c.index.result.now c.in-Some.h (sym c.in-Some.ensures))

pub invariant_of-self : goal.invariant_of-self
invariant_of-self c =
    let slots = c.self.inside.slots.items in
    let some = place_of slots c.args.self.now.values (c.args.i + 1) (ap (λ w. w.values) c.self.view_is) c.self.invariant.within c.requires in
    let lt : c.args.i < c.self.inside.top = omega arith in
    let any : 0 < c.self.inside.top = omega arith in
    sound_tried c.self.invariant c.in-Some.h c.thing_mut.result.now c.exchange_element-done.new.thing (c.self.inside.top - 1) (omega arith) c.index_mut-last.result.now c.exchange_element-done.new.value c.index_mut-last.ensures.value
    c.rising_law.ensures c.rising_law-2.ensures c.thing_mut.ensures.value c.args.k c.exchange_element-done.result
    c.exchange_element-done.ensures.exchanged c.exchange_element-done.ensures.few c.exchange_element-done.ensures.same_thing c.exchange_element-done.ensures.same_value c.exchange_element-done.ensures.err_thing c.exchange_element-done.ensures.err_value

pub returns-clause-swapped : goal.returns-clause-swapped
returns-clause-swapped c =
    let slots = c.self.inside.slots.items in
    let some = place_of slots c.args.self.now.values (c.args.i + 1) (ap (λ w. w.values) c.self.view_is) c.self.invariant.within c.requires in
    let lt : c.args.i < c.self.inside.top = omega arith in
    let any : 0 < c.self.inside.top = omega arith in
    let at = value_is slots c.self.inside.top c.args.self.now.values c.args.i c.index.result.now v.Nil (ap (λ w. w.values) c.self.view_is) c.self.invariant.within lt c.index.ensures in
    let new : RootedView = view_of (record c.self.inside.heap { things = written_at c.self.inside.heap.things c.in-Some.h c.exchange_element-done.new.thing }) c.self.inside.names (set slots (c.self.inside.top - 1) c.exchange_element-done.new.value) c.self.inside.top in
    where_ok (λ (done : Bool). IsTrue done → Exchanges c.args.k c.thing_mut.result.now c.index_mut-last.result.now c.exchange_element-done.new.thing c.exchange_element-done.new.value) (λ (done : Bool). IsTrue done → SwapsValue c.args.self.now c.args.i c.args.k new) c.exchange_element-done.result
    (λ done exchanged yes. swaps c.self.inside.heap c.self.inside.names c.self.inside.slots.items c.self.inside.top c.args.self.now c.self.view_is c.self.invariant.within any c.in-Some.h c.thing_mut.result.now c.exchange_element-done.new.thing c.rising_law.ensures c.thing_mut.ensures.value c.index_mut-last.result.now c.exchange_element-done.new.value c.index_mut-last.ensures.value c.args.i c.args.k (ap value_handle (sym at) ∙ array_named c.index.result.now c.in-Some.h (sym c.in-Some.ensures)) (exchanged yes))
    c.exchange_element-done.ensures.exchanged

pub returns-clause-same : goal.returns-clause-same
returns-clause-same c =
    let slots = c.self.inside.slots.items in
    let some = place_of slots c.args.self.now.values (c.args.i + 1) (ap (λ w. w.values) c.self.view_is) c.self.invariant.within c.requires in
    let lt : c.args.i < c.self.inside.top = omega arith in
    let any : 0 < c.self.inside.top = omega arith in
    let new : RootedView = view_of (record c.self.inside.heap { things = written_at c.self.inside.heap.things c.in-Some.h c.exchange_element-done.new.thing }) c.self.inside.names (set slots (c.self.inside.top - 1) c.exchange_element-done.new.value) c.self.inside.top in
    where_ok (λ (done : Bool). (done ≡ false → c.exchange_element-done.new.thing ≡ c.thing_mut.result.now) × (done ≡ false → c.exchange_element-done.new.value ≡ c.index_mut-last.result.now)) (λ (done : Bool). done ≡ false → new ≡ c.args.self.now) c.exchange_element-done.result
    (λ done both no. unswapped c.self.inside.heap c.self.inside.names c.self.inside.slots.items c.self.inside.top c.args.self.now c.self.view_is c.self.invariant.within any c.in-Some.h c.thing_mut.result.now c.exchange_element-done.new.thing c.rising_law.ensures c.thing_mut.ensures.value c.index_mut-last.result.now c.exchange_element-done.new.value c.index_mut-last.ensures.value (both.0 no) (both.1 no))
    (both_ok (λ (done : Bool). done ≡ false → c.exchange_element-done.new.thing ≡ c.thing_mut.result.now) (λ (done : Bool). done ≡ false → c.exchange_element-done.new.value ≡ c.index_mut-last.result.now) c.exchange_element-done.result c.exchange_element-done.ensures.same_thing c.exchange_element-done.ensures.same_value)

pub returns-clause-err : goal.returns-clause-err
returns-clause-err c =
    let slots = c.self.inside.slots.items in
    let some = place_of slots c.args.self.now.values (c.args.i + 1) (ap (λ w. w.values) c.self.view_is) c.self.invariant.within c.requires in
    let lt : c.args.i < c.self.inside.top = omega arith in
    let any : 0 < c.self.inside.top = omega arith in
    let n = c.args.self.now.values in
    let new : RootedView = view_of (record c.self.inside.heap { things = written_at c.self.inside.heap.things c.in-Some.h c.exchange_element-done.new.thing }) c.self.inside.names (set slots (c.self.inside.top - 1) c.exchange_element-done.new.value) c.self.inside.top in
    let last = x_last c.self.inside.heap c.self.inside.names c.self.inside.slots.items c.self.inside.top c.args.self.now c.self.view_is c.self.invariant.within any c.in-Some.h c.thing_mut.result.now c.exchange_element-done.new.thing c.rising_law.ensures c.thing_mut.ensures.value c.index_mut-last.result.now c.exchange_element-done.new.value c.index_mut-last.ensures.value in
    where_err ((c.exchange_element-done.new.thing ≡ c.thing_mut.result.now) × (c.exchange_element-done.new.value ≡ plain_part c.index_mut-last.result.now)) (new ≡ record c.args.self.now { values = set n (length n - 1) (plain_part (get_or n (length n - 1) v.Nil)) }) c.exchange_element-done.result
    (λ both. last_changed c.self.inside.heap c.self.inside.names c.self.inside.slots.items c.self.inside.top c.args.self.now c.self.view_is c.self.invariant.within any c.in-Some.h c.thing_mut.result.now c.exchange_element-done.new.thing c.rising_law.ensures c.thing_mut.ensures.value c.index_mut-last.result.now c.exchange_element-done.new.value c.index_mut-last.ensures.value both.0 ∙ ap (λ (y : Value). record c.args.self.now { values = set n (length n - 1) y }) (both.1 ∙ ap plain_part last))
    (both_err (c.exchange_element-done.new.thing ≡ c.thing_mut.result.now) (c.exchange_element-done.new.value ≡ plain_part c.index_mut-last.result.now) c.exchange_element-done.result c.exchange_element-done.ensures.err_thing c.exchange_element-done.ensures.err_value)
