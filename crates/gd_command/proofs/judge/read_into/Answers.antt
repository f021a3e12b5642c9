use Rattle.gd_command.proofs.JudgeLemmas.{fault_finds, tree_finds}
use Rattle.gd_command.proofs.judge.read_into.Goals as goal

pub returns-in_ok-push-in-Tree-clause-finds : goal.returns-in_ok-push-in-Tree-clause-finds
returns-in_ok-push-in-Tree-clause-finds c = λ sources is so. tree_finds sources _ _ c.args.file c.in_ok-tree.field-0 _ c.in-Tree.is c.in_ok-tree.ensures.finds is so

pub returns-in_ok-push-in-Fault-clause-finds : goal.returns-in_ok-push-in-Fault-clause-finds
returns-in_ok-push-in-Fault-clause-finds c = λ sources is so. fault_finds sources _ _ _ c.args.file c.in_ok-tree.field-0 _ c.in-Fault.is c.in_ok-push-in-Fault.ensures.items c.in_ok-tree.ensures.finds is so
