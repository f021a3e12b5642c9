use Rattle.std.proofs.Common.{◌≡◌, ◌-◌, true, arith, drop, is_none, sym, ◌∙◌}
use Rattle.std.proofs.lemmas.Bool.{true≢false}
use Rattle.std.proofs.lemmas.List.{take_rest}
use Rattle.gd_outside.specs.Files.{bytes_at}
use Rattle.gd_outside.specs.MemoryShelf.{files_of}
use Rattle.gd_outside.proofs.Distinct.{before-end, distinct-absent, distinct-drop, distinct-end, distinct-more, past-end}
use Rattle.gd_outside.proofs.memory_shelf.are_distinct.Goals as goal

pub loop-from-init : goal.loop-from-init
loop-from-init c = (omega arith, distinct-end c.args.files.now)

pub returns-then-place_in-later : goal.returns-then-place_in-later
returns-then-place_in-later c = (
  λ no. absurd (true≢false (sym no)),
  λ distinct.
      let none = distinct-absent c.args.files.now (c.loop-from.from - 1) c.loop-from.from c.index-files-from.result (omega arith) (omega arith) c.index-files-from.is (distinct-drop c.args.files.now (c.loop-from.from - 1) distinct) in
      let some = before-end _ (drop c.loop-from.from c.args.files.now) c.index-files-from.result _ c.place_in.result c.index-files-from.is (take_rest c.args.files.now c.loop-from.from) c.place_in.ensures.missing c.if-place_in-later.true in
      absurd (true≢false (sym none ∙ some)),
)

pub loop-from-preserved : goal.loop-from-preserved
loop-from-preserved c =
    let file = c.index-files-from.result in
    let later = drop c.loop-from.from c.args.files.now in
    let none : is_none (bytes_at (files_of later) file.0) ≡ true = past-end _ later file _ c.place_in.result c.index-files-from.is (take_rest c.args.files.now c.loop-from.from) c.place_in.ensures.missing c.place_in.ensures.bound c.if-place_in-later.false in
    (omega arith, distinct-more c.args.files.now (c.loop-from.from - 1) c.loop-from.from file (omega arith) (omega arith) c.index-files-from.is none c.loop-from.invariant.1)
