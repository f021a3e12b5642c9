use Rattle.std.proofs.Common.{◌≡◌, ◌++◌, map, drop}
use Rattle.std.specs.Prelude.{filter}
use Rattle.gd_signals.specs.Connections.{is_of}
use Rattle.gd_signals.specs.declared.connection.Connection.{Connection}
use Rattle.gd_signals.proofs.lists.targets_of.Given as goal

-- the targets so far and those of the connections that are left are all
abbrev pub invariant-loop-c : goal.invariant-loop-c
invariant-loop-c l =
    l.targets.items ++ map (λ (c : Connection). (c.to, c.one_shot)) (filter (is_of l.signal) (drop l.c-index l.all))
    ≡ map (λ (c : Connection). (c.to, c.one_shot)) (filter (is_of l.signal) l.all)
