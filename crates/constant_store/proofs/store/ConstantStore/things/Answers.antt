use Rattle.std.proofs.Common.{◌≡◌, ◌<◌, length, get_or, refl, ap, ◌∙◌, arith}
use Rattle.std.proofs.lemmas.Option.{slice_get_read}
use Rattle.constant_store.proofs.Kept.{thing_inside}
use Rattle.constant_store.proofs.store.ConstantStore.things.Goals as goal

pub fixed_thing-requires : goal.fixed_thing-requires
fixed_thing-requires c =
    let things = c.args.self.now in
    let within : c.loop-i.i < length things = omega (arith, ap length c.list-things.ensures, c.loop-i-test.true) in
    let at : c.index-things-i.result ≡ get_or things c.loop-i.i c.index-things-i.result = c.index-things-i.is ∙ (λ j. get_or (c.list-things.ensures j) c.loop-i.i c.index-things-i.result) in
    thing_inside things c.allocator-alloc.ensures.closed c.loop-i.i c.index-things-i.result (slice_get_read things (length things) c.loop-i.i c.index-things-i.result refl within at)
