use Rattle.store_semantics.specs.Writes.{is_text}
use Rattle.container_methods.proofs.Listed.{no_text}
use Rattle.container_methods.proofs.Sorted.{fails_at}
use Rattle.container_methods.proofs.sorting.words.Goals as goal

pub returns-in-None-clause-none : goal.returns-in-None-clause-none
returns-in-None-clause-none c =
    fails_at is_text c.args.items.now c.loop-item.item-index c.item-item.result c.item-item.is c.loop-item-test.true (no_text c.item-item.result c.in-None.ensures)
