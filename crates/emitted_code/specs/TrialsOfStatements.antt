-- Statements tried. The texts of the projects stand in TrialsOfStatements of source_semantics.
use Rattle.std.specs.Prelude.{[], ◌∷◌}
use Rattle.gd_syntax.specs.declared.operator.Operator.TheVariants as op
use Rattle.source_semantics.specs.Project.{Project}
use Rattle.source_semantics.specs.TrialsOfStatements.{counting, hello, matching, on_null, three_times}
use Rattle.source_semantics.specs.Words.{array, binary, does, finds_print, index, number, print, test_alone}
use Rattle.emitted_code.specs.Trials.{RunsAlike, alone}

abbrev pub TextAlike : Type 0
TextAlike = RunsAlike (alone hello) 2

abbrev pub NoTurnAlike : Type 0
NoTurnAlike = RunsAlike (alone hello) 1

abbrev pub WhileAlike : Type 0
WhileAlike = RunsAlike (alone counting) 5

abbrev pub TurnsAlike : Type 0
TurnsAlike = RunsAlike (alone three_times) 4

abbrev pub ForAlike : Type 0
ForAlike = RunsAlike (alone three_times) 5

abbrev pub FaultAlike : Type 0
FaultAlike = RunsAlike (alone on_null) 9

-- ---- func test():
-- ----     print(6 * 7 - 2)

abbrev pub operating : Project
operating = test_alone
    (does 2 2 (print 2 2 (binary 2 14 op.Subtract (binary 2 10 op.Multiply (number 2 8 6) (number 2 12 7)) (number 2 16 2)
    ∷ []))
    ∷ [])
    (finds_print 2 2 ∷ [])

abbrev pub OperatorsAlike : Type 0
OperatorsAlike = RunsAlike (alone operating) 2

-- ---- func test():
-- ----     print([7, 9][1])

abbrev pub picking : Project
picking = test_alone
    (does 2 2 (print 2 2 (index 2 14 (array 2 8 (number 2 9 7 ∷ number 2 12 9 ∷ [])) (number 2 15 1) ∷ [])) ∷ [])
    (finds_print 2 2 ∷ [])

abbrev pub SubscriptAlike : Type 0
SubscriptAlike = RunsAlike (alone picking) 2

abbrev pub MatchAlike : Type 0
MatchAlike = RunsAlike (alone matching) 9
