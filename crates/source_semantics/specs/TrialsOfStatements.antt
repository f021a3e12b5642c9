-- Statements tried on small projects.
use Rattle.std.specs.Prelude.{◌≡◌, ℕ, true, List, [], ◌∷◌, None, Some, codes}
use Rattle.gd_model.specs.declared.fault.RunFault.TheVariants as fault_kind
use Rattle.gd_syntax.specs.declared.operator.Operator.TheVariants as op
use Rattle.store_semantics.specs.World.{freed, line}
use Rattle.syntax_trees.specs.Expressions.{expr, exprs, pairs}
use Rattle.syntax_trees.specs.Expressions as e
use Rattle.syntax_trees.specs.Patterns.{Pattern, entry_and, no_entries, pattern, patterns}
use Rattle.syntax_trees.specs.Patterns as p
use Rattle.syntax_trees.specs.Statements.{Stmts, branch_and, else_do, if_do, no_branches, stmts}
use Rattle.syntax_trees.specs.Statements as s
use Rattle.source_semantics.specs.Project.{Project}
use Rattle.source_semantics.specs.Running.{done, fault, out_of_turns, run}
use Rattle.source_semantics.specs.Words.{array, at, attr, binary, call_on, does, finds_print, local, named, number, print, sets, start, statement, string, test_alone, variable, word}

-- ---- func test():
-- ----     print("hi")

abbrev pub hello : Project
hello = test_alone (does 2 2 (print 2 2 (string 2 8 (codes "hi") ∷ [])) ∷ []) (finds_print 2 2 ∷ [])

-- the main instance goes when the run is over
abbrev pub PrintsText : Type 0
PrintsText = run hello 1 start 2 ≡ (line (codes "hi") ∷ freed 1 1 ∷ [], done)

-- making the instance and entering `test` use a turn each
abbrev pub NoTurnToEnter : Type 0
NoTurnToEnter = run hello 1 start 1 ≡ ([], out_of_turns)

-- ---- func test():
-- ----     var n = 0
-- ----     while n < 3:
-- ----         if n == 1:
-- ----             print("one")
-- ----         else:
-- ----             print(n)
-- ----         n += 1

abbrev pub counting : Project
counting = test_alone
    (local 2 2 (variable 2 6 8 (codes "n") (number 2 10 0))
    ∷ statement 3 2 (s.while (binary 3 10 op.Less (word 3 8 (codes "n")) (number 3 12 3)) (stmts
    (statement 4 3 (s.choice
    (if_do (binary 4 8 op.Equal (word 4 6 (codes "n")) (number 4 11 1))
    (stmts (does 5 4 (print 5 4 (string 5 10 (codes "one") ∷ [])) ∷ []))
    (else_do (stmts (does 7 4 (print 7 4 (word 7 10 (codes "n") ∷ [])) ∷ [])))))
    ∷ sets 8 3 5 (Some op.Add) (word 8 3 (codes "n")) (number 8 8 1) ∷ [])))
    ∷ [])
    (finds_print 5 4 ∷ finds_print 7 4 ∷ [])

abbrev pub CountsInWhile : Type 0
CountsInWhile = run counting 1 start 5 ≡ (
  line (codes "0") ∷ line (codes "one") ∷ line (codes "2") ∷ freed 1 1
      ∷ [],
  done,
)

-- ---- func test():
-- ----     for i in 3:
-- ----         print(i)

abbrev pub three_times : Project
three_times = test_alone
    (statement 2 2 (s.for (codes "i") (at 2 6) None (at 2 8) (number 2 11 3)
    (stmts (does 3 3 (print 3 3 (word 3 9 (codes "i") ∷ [])) ∷ []))) ∷ [])
    (finds_print 3 3 ∷ [])

abbrev pub TurnsRunOut : Type 0
TurnsRunOut = run three_times 1 start 4 ≡ (line (codes "0") ∷ line (codes "1") ∷ [], out_of_turns)

abbrev pub TurnsAreEnough : Type 0
TurnsAreEnough = run three_times 1 start 5 ≡ (
  line (codes "0") ∷ line (codes "1") ∷ line (codes "2") ∷ freed 1 1
      ∷ [],
  done,
)

-- ---- func test():
-- ----     var a
-- ----     print("first")
-- ----     print(a.b)

abbrev pub on_null : Project
on_null = test_alone
    (local 2 2 (named 2 6 (codes "a"))
    ∷ does 3 2 (print 3 2 (string 3 8 (codes "first") ∷ []))
    ∷ does 4 2 (print 4 2 (attr 4 10 (word 4 8 (codes "a")) (codes "b") ∷ []))
    ∷ [])
    (finds_print 3 2 ∷ finds_print 4 2 ∷ [])

-- a fault stands at its place, and frees nothing more
abbrev pub FaultsAtPlace : Type 0
FaultsAtPlace = run on_null 1 start 9 ≡ (line (codes "first") ∷ [], fault fault_kind.NullReceiver (at 4 10) None)

-- ---- func test():
-- ----     match [1, {"k": 2}]:
-- ----         [true, ..]:
-- ----             print("bool")
-- ----         [1, var d] when d.k == 3:
-- ----             print("three")
-- ----         [1, {"k": var k}]:
-- ----             print("k=", k)

abbrev pub first_true : Pattern
first_true = pattern (at 3 3) (p.items
    (patterns (pattern (at 3 4) (p.value (expr (at 3 4) (e.bool true))) ∷ pattern (at 3 10) p.rest ∷ [])))

abbrev pub one_and_any : Pattern
one_and_any = pattern (at 5 3)
    (p.items (patterns (pattern (at 5 4) (p.value (number 5 4 1)) ∷ pattern (at 5 11) (p.bind (codes "d")) ∷ [])))

abbrev pub one_and_entry : Pattern
one_and_entry = pattern (at 7 3) (p.items (patterns
    (pattern (at 7 4) (p.value (number 7 4 1))
    ∷ pattern (at 7 7) (p.entries (entry_and (string 7 8 (codes "k")) (pattern (at 7 17) (p.bind (codes "k")))
    no_entries) [])
    ∷ [])))

abbrev pub says : ℕ → ℕ → List e.Expr → Stmts
says y x arguments = stmts (does y x (print y x arguments) ∷ [])

abbrev pub matching : Project
matching = test_alone
    (statement 2 2 (s.match
    (array 2 8 (number 2 9 1 ∷ expr (at 2 12) (e.dict_lit (pairs ((string 2 13 (codes "k"), number 2 18 2) ∷ [])))
    ∷ []))
    (branch_and (first_true ∷ []) None (says 4 4 (string 4 10 (codes "bool") ∷ []))
    (branch_and (one_and_any ∷ [])
    (Some (binary 5 23 op.Equal (attr 5 21 (word 5 19 (codes "d")) (codes "k")) (number 5 26 3)))
    (says 6 4 (string 6 10 (codes "three") ∷ []))
    (branch_and (one_and_entry ∷ []) None (says 8 4 (string 8 10 (codes "k=") ∷ word 8 16 (codes "k") ∷ []))
    no_branches))))
    ∷ [])
    (finds_print 4 4 ∷ finds_print 6 4 ∷ finds_print 8 4 ∷ [])

abbrev pub TakesThird : Type 0
TakesThird = run matching 1 start 9 ≡ (line (codes "k=2") ∷ freed 1 1 ∷ [], done)

-- ---- func test():
-- ----     var a = [1]
-- ----     for x in a:
-- ----         print(x)
-- ----         if x < 3:
-- ----             a.append(x + 1)

abbrev pub growing : Project
growing = test_alone
    (local 2 2 (variable 2 6 8 (codes "a") (array 2 10 (number 2 11 1 ∷ [])))
    ∷ statement 3 2 (s.for (codes "x") (at 3 6) None (at 3 8) (word 3 11 (codes "a")) (stmts
    (does 4 3 (print 4 3 (word 4 9 (codes "x") ∷ []))
    ∷ statement 5 3 (s.choice (if_do (binary 5 8 op.Less (word 5 6 (codes "x")) (number 5 10 3)) (stmts
    (does 6 4 (call_on 6 6 (word 6 4 (codes "a")) (codes "append")
    (binary 6 15 op.Add (word 6 13 (codes "x")) (number 6 17 1) ∷ []))
    ∷ []))
    s.no_else))
    ∷ [])))
    ∷ [])
    (finds_print 4 3 ∷ [])

-- an array is gone over against its size at each turn
abbrev pub GoesOverGrowing : Type 0
GoesOverGrowing = run growing 1 start 9 ≡ (
  line (codes "1") ∷ line (codes "2") ∷ line (codes "3") ∷ freed 1 1
      ∷ [],
  done,
)
