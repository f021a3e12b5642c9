-- How much is left to do along the ways: what is to be followed now, and what may still have to be.
use Rattle.std.specs.Prelude.{ℕ, ◌+◌, ◌*◌, List, length, sum_by}
use Rattle.gd_bytecode.specs.declared.shapes.Mark.{Mark}
use Rattle.gd_bytecode.specs.declared.shapes.Shapes.{Shapes}
use Rattle.gd_bytecode.specs.Marks.{left}

abbrev pub potential_of : List ℕ → List Mark → ℕ
potential_of work marks = length work + 2 * sum_by left marks

abbrev pub potential : Shapes → ℕ
potential s = potential_of s.work.items s.marks.items
