use Rattle.std.proofs.Common.{rules, tests, bytes_eq}
use Rattle.std.proofs.lemmas.Iterator.{YieldsList-from_slice}
use Rattle.std.proofs.lemmas.Iterator.Search.{position_from_yields_List}
use Rattle.gd_outside.specs.MemoryShelf.{files_of}
use Rattle.gd_outside.proofs.Places.{length-files_of, place_of-position, place_of-bound, bytes_at-missing, bytes_at-found, slice_get-files_of}
use Rattle.gd_outside.proofs.memory_shelf.place_in.Goals as goal

pub returns : goal.returns
returns c =
    let at = position_from_yields_List (λ file. bytes_eq file.0 c.args.path.now) _ _ c.position-place.result c.position-place.ensures.ran (YieldsList-from_slice c.args.files.now c.iter.ensures.rest) (λ x b q k. search (rules, tests)) in
    let value = place_of-position c.args.files.now c.args.path.now _ c.unwrap_or.result at c.unwrap_or.ensures in
    let count = length-files_of c.args.files.now in
    record {
      value = value;
      bound = rw (value, ← count) (place_of-bound (files_of c.args.files.now) c.args.path.now);
      missing = rw (value, ← count) (bytes_at-missing (files_of c.args.files.now) c.args.path.now);
      found = λ file e. bytes_at-found (files_of c.args.files.now) c.args.path.now (file.0, file.1.items) (slice_get-files_of c.args.files.now _ file (rw (← value) e));
    }
