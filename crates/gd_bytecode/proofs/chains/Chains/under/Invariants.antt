use Rattle.gd_bytecode.proofs.chains.Chains.under.Given as goal

abbrev pub decreases-loop-far : goal.decreases-loop-far
decreases-loop-far l = l.at
