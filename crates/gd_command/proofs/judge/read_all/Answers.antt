use Rattle.std.proofs.Common.{List, [], refl, sym, subst, rules}
use Rattle.gd_rules.specs.declared.diag.Diag.{Diag}
use Rattle.gd_command.specs.Judged.{Finds, no_file}
use Rattle.gd_command.proofs.JudgeLemmas.{none_in}
use Rattle.gd_command.proofs.judge.read_all.Goals as goal

pub loop-source-init : goal.loop-source-init
loop-source-init c = record {
  counted = refl;
  finds = subst (λ (list : List Diag). Finds [] list) (sym c.new-faults.ensures.items) no_file;
  files = none_in _ _ c.new-faults.ensures.items;
  trees = search rules;
}
