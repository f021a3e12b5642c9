use Rattle.gd_bytecode.specs.Potential.{potential}
use Rattle.gd_bytecode.proofs.shapes.Shapes.of.Given as goal

abbrev pub decreases-loop-k : goal.decreases-loop-k
decreases-loop-k l = potential l.shapes
