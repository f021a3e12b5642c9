use Rattle.std.proofs.Common.{ap, ◌∙◌, sym, is_some}
use Rattle.gd_model.specs.declared.value.Value.TheVariants as v
use Rattle.rooted_heap.specs.Reading.{dict_handle, entry_in, with_found}
use Rattle.rooted_heap.proofs.Read.{dict_named, alive_at, entry_held, read_is}
use Rattle.rooted_heap.proofs.Values.{place_of, value_is}
use Rattle.rooted_heap.proofs.rooted.RootedHeap.push_entry.Goals as goal

pub thing-requires : goal.thing-requires
thing-requires c =
    let slots = c.self.inside.slots.items in
    let lt = place_of slots c.args.self.now.values c.args.i (ap (λ w. w.values) c.self.view_is) c.self.invariant.within c.requires.there in
    alive_at c.self.invariant c.args.i lt c.index.result.now c.index.ensures c.in-Some.h (dict_named c.index.result.now c.in-Some.h (sym c.in-Some.ensures))

pub push_found-requires-clause-held : goal.push_found-requires-clause-held
push_found-requires-clause-held c = entry_held c.self.inside.heap c.self.inside.names c.self.inside.slots.items c.self.inside.top c.args.self.now c.self.view_is c.self.invariant.held c.in-Some.h c.thing.result.now c.thing.ensures c.args.key.now c.in_ok-copy.copy c.in_ok-copy.ensures

pub returns-clause-ok : goal.returns-clause-ok
returns-clause-ok c =
    let slots = c.self.inside.slots.items in
    let lt = place_of slots c.args.self.now.values c.args.i (ap (λ w. w.values) c.self.view_is) c.self.invariant.within c.requires.there in
    let at = value_is slots c.self.inside.top c.args.self.now.values c.args.i c.index.result.now v.Nil (ap (λ w. w.values) c.self.view_is) c.self.invariant.within lt c.index.ensures in
    let named = ap dict_handle (sym at) ∙ sym c.in-Some.ensures in
    let same = c.in_ok-copy.ensures ∙ sym (read_is c.self.inside.heap c.self.inside.names c.self.inside.slots.items c.self.inside.top c.args.self.now c.self.view_is c.self.invariant.held c.in-Some.h c.thing.result.now c.thing.ensures (entry_in c.args.key.now) c.rising_law.ensures (dict_handle _) named) in
    c.push_found.ensures.done ∙ ap is_some same

pub returns-clause-pushed : goal.returns-clause-pushed
returns-clause-pushed c =
    let slots = c.self.inside.slots.items in
    let lt = place_of slots c.args.self.now.values c.args.i (ap (λ w. w.values) c.self.view_is) c.self.invariant.within c.requires.there in
    let at = value_is slots c.self.inside.top c.args.self.now.values c.args.i c.index.result.now v.Nil (ap (λ w. w.values) c.self.view_is) c.self.invariant.within lt c.index.ensures in
    let named = ap dict_handle (sym at) ∙ sym c.in-Some.ensures in
    let same = c.in_ok-copy.ensures ∙ sym (read_is c.self.inside.heap c.self.inside.names c.self.inside.slots.items c.self.inside.top c.args.self.now c.self.view_is c.self.invariant.held c.in-Some.h c.thing.result.now c.thing.ensures (entry_in c.args.key.now) c.rising_law.ensures (dict_handle _) named) in
    c.push_found.ensures.after ∙ ap (with_found c.args.self.now) same
