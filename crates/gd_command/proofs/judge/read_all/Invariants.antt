use Rattle.std.proofs.Common.{◌≡◌, ◌<◌, ◌+◌, All, length, take}
use Rattle.gd_rules.specs.declared.diag.Diag.{Diag}
use Rattle.gd_command.specs.Judged.{Finds}
use Rattle.gd_command.specs.Check.{bytes_of}
use Rattle.gd_command.proofs.judge.read_all.Given as goal

abbrev pub invariant-loop-source : goal.invariant-loop-source
invariant-loop-source l = record {
  counted : l.file ≡ l.source-index;
  finds : Finds (bytes_of (take l.source-index l.sources)) l.faults.items;
  files : All (λ (diag : Diag). diag.pos.file < l.source-index) l.faults.items;
  trees : length l.trees.items + length l.faults.items ≡ l.source-index;
}
