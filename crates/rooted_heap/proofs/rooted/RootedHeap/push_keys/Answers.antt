use Rattle.std.proofs.Common.{◌≡◌, ◌<◌, length, take, get_or, ap, ◌∙◌, sym, arith, length-append}
use Rattle.std.proofs.lemmas.List.{length-take-le}
use Rattle.gd_model.specs.declared.value.Value.TheVariants as v
use Rattle.rooted_heap.specs.Reading.{dict_handle, keys_at}
use Rattle.rooted_heap.specs.Rooted.{RootedView}
use Rattle.rooted_heap.proofs.Read.{key_pushed, keys_begun, keys_counted}
use Rattle.rooted_heap.proofs.rooted.RootedHeap.push_keys.Goals as goal

pub loop-j-init : goal.loop-j-init
loop-j-init c = keys_begun c.args.self.now (keys_at c.args.self.now.things (dict_handle (get_or c.args.self.now.values c.args.i v.Nil)))

pub push_key-requires-clause-there : goal.push_key-requires-clause-there
push_key-requires-clause-there c =
    let old = c.args.self.now in
    let keys = keys_at old.things (dict_handle (get_or old.values c.args.i v.Nil)) in
    omega (arith, ap (λ (w : RootedView). length w.values) c.loop-j.invariant, length-append old.values (take c.loop-j.j keys), c.requires.there)

pub push_key-requires-clause-room : goal.push_key-requires-clause-room
push_key-requires-clause-room c =
    let old = c.args.self.now in
    let keys = keys_at old.things (dict_handle (get_or old.values c.args.i v.Nil)) in
    let all : length keys ≡ length c.in-Some.dict.now.pairs = keys_counted old.things (dict_handle (get_or old.values c.args.i v.Nil)) c.in-Some.dict.now (sym c.in-Some.ensures.value) in
    let below : c.loop-j.j < length keys = omega (arith, all, c.loop-j-test.true, c.size-size.ensures.value) in
    omega (
      arith,
      ap (λ (w : RootedView). length w.values) c.loop-j.invariant,
      ap (λ (w : RootedView). w.slots) c.loop-j.invariant,
      length-append old.values (take c.loop-j.j keys),
      length-take-le c.loop-j.j keys (omega arith),
      c.requires.room,
      below,
    )

pub loop-j-preserved : goal.loop-j-preserved
loop-j-preserved c =
    let old = c.args.self.now in
    let keys = keys_at old.things (dict_handle (get_or old.values c.args.i v.Nil)) in
    let all : length keys ≡ length c.in-Some.dict.now.pairs = keys_counted old.things (dict_handle (get_or old.values c.args.i v.Nil)) c.in-Some.dict.now (sym c.in-Some.ensures.value) in
    let below : c.loop-j.j < length keys = omega (arith, all, c.loop-j-test.true, c.size-size.ensures.value) in
    c.in_ok-push_key.ensures.ok ∙ key_pushed old c.args.i c.loop-j.j c.requires.there below c.loop-j.self c.loop-j.invariant
