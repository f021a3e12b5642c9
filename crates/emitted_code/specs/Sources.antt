-- What a program is made of.
use Rattle.std.specs.Prelude.{ℕ, List}
use Rattle.gd_syntax.specs.declared.pos.Pos.{Pos}
use Rattle.syntax_trees.specs.Expressions.{Text}
use Rattle.source_semantics.specs.Project.{Project}

-- A project with the paths of its files, and for each class the number of its file and the place of its name; and the
-- class whose instance a run makes.
pub record Source : Type 0 where
  pub project : Project
  pub paths : List Text
  pub file_of : ℕ → ℕ
  pub name_at : ℕ → Pos
  pub main : ℕ
