use Rattle.std.proofs.Common.{◌≡◌, ◌≤◌, All, length}
use Rattle.gd_command.specs.Check.{IsShortSource}
use Rattle.gd_command.proofs.sample.make_sample.Given as goal

abbrev pub invariant-loop-path : goal.invariant-loop-path
invariant-loop-path l = record {
  count : length l.sources.items ≡ length l.paths.items;
  few : length l.sources.items ≤ 1024;
  short : All IsShortSource l.sources.items;
}
