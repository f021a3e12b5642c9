use Rattle.std.proofs.Common.{refl}
use Rattle.rooted_heap.proofs.Wholes.{all_lent_whole}
use Rattle.gd_vm.proofs.container_calls.decided_array.Goals as goal

pub decide_array-requires-clause-elements : goal.decide_array-requires-clause-elements
decide_array-requires-clause-elements c =
    let heap = c.args.machine.now.heap in
    let lent = c.last_values in
    let array = c.in-Some.array.now in
    all_lent_whole lent.result.1 heap.things heap.names array.items lent.ensures.things lent.ensures.names
    (c.in-Some.ensures.whole array refl)
