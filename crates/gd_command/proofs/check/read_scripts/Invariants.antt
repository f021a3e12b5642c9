use Rattle.std.proofs.Common.{◌≡◌, ◌≤◌, ◌*◌, All, length}
use Rattle.gd_command.specs.Check.{IsShortSource}
use Rattle.gd_command.proofs.CheckLemmas.{Counted}
use Rattle.gd_command.proofs.check.read_scripts.Given as goal

abbrev pub invariant-loop-path : goal.invariant-loop-path
invariant-loop-path g l = record {
  files : g.H.Shelf.files l.shelf ≡ g.H.Shelf.files l.initial.shelf;
  faults : g.H.Shelf.faults l.initial.shelf ≤ g.H.Shelf.faults l.shelf;
  bound : l.total ≤ 1048576 * l.path-index;
  told : Counted (g.H.Shelf.files l.initial.shelf) l.paths l.path-index l.total l.sources.items;
  count : l.total ≤ 4194304 → length l.sources.items ≡ l.path-index;
  short : All IsShortSource l.sources.items;
}
