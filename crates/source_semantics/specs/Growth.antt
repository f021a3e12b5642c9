-- What more turns change of a run.
use Rattle.std.specs.Prelude.{◌≡◌, ◌≤◌, ℕ, List, ◌++◌}
use Rattle.gd_syntax.specs.declared.pos.Pos.{Pos}
use Rattle.store_semantics.specs.World.{Seen}
use Rattle.source_semantics.specs.Project.{Project}
use Rattle.source_semantics.specs.Running.{Ended, out_of_turns, run}

-- What one run saw and how it ended, and the same of another: they are the same, or the one ran out of turns and the
-- other saw more.
pub data GoesOn (one other : List Seen × Ended) : Type 0 where
  the_same : one ≡ other → GoesOn one other
  further : (more : List Seen) → one.1 ≡ out_of_turns → other.0 ≡ one.0 ++ more → GoesOn one other

-- a run that ends is the same with more turns, and one that runs out of turns goes on with more
abbrev pub MoreTurnsGoOn : Type 0
MoreTurnsGoOn = (p : Project) (main : ℕ) (pos : Pos) (turns more : ℕ) → turns ≤ more → GoesOn (run p main pos turns)
    (run p main pos more)
