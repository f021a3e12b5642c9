-- How a statement goes on, and what leaving blocks gives up.
use Rattle.std.specs.Prelude.{List, [], ◌∷◌, ◌++◌}
use Rattle.gd_model.specs.Datum.{Datum}
use Rattle.source_semantics.specs.State.{Block, Run, Went, held_in, settled, went}

-- what is on its way out of the blocks of a loop
pub data Leaving : Type 0 where
  by_break : Leaving
  by_continue : Leaving

-- To the next statement; out to the loop, with the subjects of the statements and the locals of the blocks that are
-- left on the way; or out of the function with a result.
pub data Control : Type 0 where
  next : Control
  leave : Leaving → List Datum → List Datum → Control
  return : Datum → Control

abbrev pub inner_block : List Block → Block
inner_block [] = []
inner_block (b ∷ bs) = b

abbrev pub outer_blocks : List Block → List Block
outer_blocks [] = []
outer_blocks (b ∷ bs) = bs

abbrev pub opened : Run → Run
opened r = record r { blocks = [] ∷ r.blocks }

abbrev pub closed : Run → Run
closed r = record r { blocks = outer_blocks r.blocks }

-- The end of a block. Where it goes on behind it, its locals are given up together; where it is left, they are held on
-- the way.
abbrev pub close_block : List Datum → Control → Run → Went Control
close_block hand next r = went next (settled hand (closed r))
close_block hand (leave how subjects locals) r = went (leave how subjects (locals ++ held_in (inner_block r.blocks)))
    (closed r)
close_block hand (return v) r = went (return v) r

-- where the way out ends, the subjects that were left are given up together first, and then the locals together
abbrev pub left : List Datum → List Datum → List Datum → Run → Run
left hand subjects locals r = settled hand (settled (locals ++ hand) r)

-- the end of a statement with a subject: at its end the subject was given up; where it is left, it is held on the way
abbrev pub with_subject : List Datum → Control → Control
with_subject subject (leave how subjects locals) = leave how (subjects ++ subject) locals
with_subject subject other = other
