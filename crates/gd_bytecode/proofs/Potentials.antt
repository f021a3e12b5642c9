-- What is left to do grows no more once a mark is raised and its instruction is to be followed.
use Rattle.std.proofs.Common.{◌<◌, ◌≤◌, ◌++◌, ◌∷◌, [], ℕ, List, length, get_or, set, arith, length-append}
use Rattle.std.proofs.lemmas.List.Sums.{sum_by-set}
use Rattle.gd_bytecode.specs.declared.shapes.Mark.{Mark}
use Rattle.gd_bytecode.specs.Marks.{left}
use Rattle.gd_bytecode.specs.Potential.{potential_of}

pub raised_lowers : (work : List ℕ) (marks : List Mark) (k : ℕ) (m d : Mark) → k < length marks → left m < left (get_or marks k d)
    → potential_of (work ++ k ∷ []) (set marks k m) ≤ potential_of work marks
raised_lowers work marks k m d lt less = omega (arith, length-append work (k ∷ []), sum_by-set left marks k m d lt)
