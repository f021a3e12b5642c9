use Rattle.std.proofs.Common.{rules, nat_eq, codes}
use Rattle.std.specs.List.{ends_with}
use Rattle.std.proofs.lemmas.List.Elements.{filter_from_retain}
use Rattle.gd_command.proofs.project.keep_scripts.Goals as goal

pub returns : goal.returns
returns c = filter_from_retain _ (λ path. ends_with nat_eq path (codes ".gd")) (λ p x b q r. search rules) _ _ _ c.retain.ensures.filtered
