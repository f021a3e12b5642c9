-- In which order things are done and tested, tried on small projects.
use Rattle.std.specs.Prelude.{◌≡◌, ℕ, false, List, [], ◌∷◌, None, Some, codes}
use Rattle.gd_members.specs.declared.Found.TheVariants as found
use Rattle.gd_model.specs.declared.fault.RunFault.TheVariants as fault_kind
use Rattle.gd_model.specs.declared.ty.Ty.TheVariants as ty
use Rattle.store_semantics.specs.World.{freed, line}
use Rattle.syntax_trees.specs.Declarations as d
use Rattle.syntax_trees.specs.Expressions.{Expr, Text, expr, pairs}
use Rattle.syntax_trees.specs.Expressions as e
use Rattle.syntax_trees.specs.Patterns.{Pattern, pattern, patterns}
use Rattle.syntax_trees.specs.Patterns as p
use Rattle.syntax_trees.specs.Statements.{Stmt, branch_and, no_branches, stmts}
use Rattle.syntax_trees.specs.Statements as s
use Rattle.source_semantics.specs.Project.{Project}
use Rattle.source_semantics.specs.Running.{done, fault, out_of_turns, run}
use Rattle.source_semantics.specs.Words.{array, at, by_place, call, call_on, class_of, declares, does, finds, finds_print, function, local, member, named, number, print, returns, script, start, statement, string, test_alone, untyped, variable, word}

abbrev pub says : ℕ → ℕ → Text → Stmt
says y x t = does y x (print y x (string y 20 t ∷ []))

-- ---- func test():
-- ----     for x: int in ["a"]:
-- ----         pass

abbrev pub typed_loop : Project
typed_loop = record (test_alone
    (statement 2 2 (s.for (codes "x") (at 2 6) None (at 2 13) (array 2 16 (string 2 17 (codes "a") ∷ []))
    (stmts (statement 3 3 s.pass ∷ []))) ∷ []) [])
    { place_type = by_place ty.Variant ((at 2 6, ty.Int) ∷ []) }

-- the turn comes before the test of the variable, which stands at its name
abbrev pub TurnComesFirst : Type 0
TurnComesFirst = (run typed_loop 1 start 2 ≡ ([], out_of_turns)) × (run typed_loop 1 start 3
    ≡ ([], fault fault_kind.ValueOfAnotherType (at 2 6) None))

-- ---- func test():
-- ----     for i in range(0, 3, 0):
-- ----         pass

abbrev pub no_step : Project
no_step = test_alone
    (statement 2 2 (s.for (codes "i") (at 2 6) None (at 2 8)
    (call 2 11 (codes "range") (number 2 17 0 ∷ number 2 20 3 ∷ number 2 23 0 ∷ []))
    (stmts (statement 3 3 s.pass ∷ []))) ∷ [])
    ((at 2 11, found.Builtin 5) ∷ [])

abbrev pub RangeFaultsAtName : Type 0
RangeFaultsAtName = run no_step 1 start 9 ≡ ([], fault fault_kind.ZeroDivisorOrStep (at 2 11) None)

-- ---- func test():
-- ----     var d = {[1]: print("later")}

abbrev pub no_key : Project
no_key = test_alone
    (local 2 2 (variable 2 6 8 (codes "d") (expr (at 2 10) (e.dict_lit (pairs
    ((array 2 11 (number 2 12 1 ∷ []), print 2 16 (string 2 22 (codes "later") ∷ [])) ∷ []))))) ∷ [])
    (finds_print 2 16 ∷ [])

-- a key that is none is found behind all parts of the literal
abbrev pub BadKeyComesLast : Type 0
BadKeyComesLast = run no_key 1 start 9 ≡ (line (codes "later") ∷ [], fault fault_kind.BadKey (at 2 10) None)

-- ---- func change(a):
-- ----     a.append(2)
-- ----     return false
-- ---- func test():
-- ----     var a = [1]
-- ----     match a:
-- ----         [1] when change(a): print("never")
-- ----         [1]: print("one")
-- ----         [1, 2]: print("two")

abbrev pub numbers : ℕ → List ℕ → Pattern
numbers y ns = pattern (at y 3) (p.items (patterns (values ns)))
  where
    values : List ℕ → List Pattern
    values [] = []
    values (n ∷ ns) = pattern (at y 4) (p.value (number y 4 n)) ∷ values ns

abbrev pub changing : Project
changing = script
    (function 1 6 (codes "change") (named 1 13 (codes "a") ∷ [])
    (does 2 2 (call_on 2 4 (word 2 2 (codes "a")) (codes "append") (number 2 11 2 ∷ []))
    ∷ returns 3 2 (expr (at 3 9) (e.bool false)) ∷ [])
    ∷ function 4 6 (codes "test") []
    (local 5 2 (variable 5 6 8 (codes "a") (array 5 10 (number 5 11 1 ∷ [])))
    ∷ statement 6 2 (s.match (word 6 8 (codes "a"))
    (branch_and (numbers 7 (1 ∷ []) ∷ []) (Some (call 7 12 (codes "change") (word 7 19 (codes "a") ∷ [])))
    (stmts (says 7 23 (codes "never") ∷ []))
    (branch_and (numbers 8 (1 ∷ []) ∷ []) None (stmts (says 8 8 (codes "one") ∷ []))
    (branch_and (numbers 9 (1 ∷ 2 ∷ []) ∷ []) None (stmts (says 9 11 (codes "two") ∷ []))
    no_branches))))
    ∷ [])
    ∷ [])
    (finds 7 12 1 0 ∷ finds_print 7 23 ∷ finds_print 8 8 ∷ finds_print 9 11 ∷ [])

-- a test of a pattern reads the subject as it is then, behind a guard that changed it
abbrev pub GuardChangesSubject : Type 0
GuardChangesSubject = run changing 1 start 9 ≡ (line (codes "two") ∷ freed 1 1 ∷ [], done)

-- ---- signal s
-- ---- func a():
-- ----     print("a")
-- ----     s.disconnect(b)
-- ---- func b():
-- ----     print("b")
-- ---- func test():
-- ----     s.connect(a)
-- ----     s.connect(b)
-- ----     s.emit()
-- ----     s.emit()

abbrev pub on_signal : ℕ → Text → List Expr → Stmt
on_signal y method arguments = does y 2 (call_on y 4 (word y 2 (codes "s")) method arguments)

abbrev pub disconnecting : Project
disconnecting = script
    (declares (d.signal (codes "s") (at 1 8) [])
    ∷ function 2 6 (codes "a") [] (says 3 2 (codes "a") ∷ on_signal 4 (codes "disconnect") (word 4 15 (codes "b") ∷ [])
    ∷ [])
    ∷ function 5 6 (codes "b") [] (says 6 2 (codes "b") ∷ [])
    ∷ function 7 6 (codes "test") []
    (on_signal 8 (codes "connect") (word 8 12 (codes "a") ∷ []) ∷ on_signal 9 (codes "connect")
    (word 9 12 (codes "b") ∷ [])
    ∷ on_signal 10 (codes "emit") [] ∷ on_signal 11 (codes "emit") [] ∷ [])
    ∷ [])
    (finds_print 3 2 ∷ finds 4 2 1 0 ∷ finds 4 15 1 2 ∷ finds_print 6 2 ∷ finds 8 2 1 0 ∷ finds 8 12 1 1 ∷ finds 9 2 1 0
    ∷ finds 9 12 1 2
    ∷ finds 10 2 1 0 ∷ finds 11 2 1 0 ∷ [])

-- an emission calls what was connected when it began
abbrev pub EmitsOldList : Type 0
EmitsOldList = run disconnecting 1 start 9 ≡ (
  line (codes "a") ∷ line (codes "b") ∷ line (codes "a") ∷ freed 1 1
      ∷ [],
  done,
)

-- ---- class A:
-- ----     var x = say("base")
-- ----     func say(t):
-- ----         print(t)
-- ----     func _init():
-- ----         print("init")
-- ---- class B extends A:
-- ----     var y = say("derived")
-- ---- func test():
-- ----     B.new()

abbrev pub making : Project
making = record (untyped
    (class_of (codes "main.gd") (function 9 6 (codes "test") []
    (does 10 2 (call_on 10 4 (word 10 2 (codes "B")) (codes "new") []) ∷ []) ∷ [])
    ∷ class_of (codes "A")
    (member (variable 2 6 8 (codes "x") (call 2 10 (codes "say") (string 2 14 (codes "base") ∷ [])))
    ∷ function 3 7 (codes "say") (named 3 11 (codes "t") ∷ []) (does 4 3 (print 4 3 (word 4 9 (codes "t") ∷ [])) ∷ [])
    ∷ function 5 7 (codes "_init") [] (says 6 3 (codes "init") ∷ []) ∷ [])
    ∷ record (class_of (codes "B")
    (member (variable 8 6 8 (codes "y") (call 8 10 (codes "say") (string 8 14 (codes "derived") ∷ []))) ∷ []))
    { base = 2 }
    ∷ [])
    (finds 2 10 2 1 ∷ finds_print 4 3 ∷ finds_print 6 3 ∷ finds 8 10 2 1 ∷ (at 10 2, found.Class 3) ∷ []))
    { typed = by_place ty.Variant ((at 10 2, ty.Meta 3) ∷ []) }

-- the initial values of the base come first, and then `_init`
abbrev pub BaseComesFirst : Type 0
BaseComesFirst = run making 1 start 9
    ≡ (line (codes "base") ∷ line (codes "derived") ∷ line (codes "init") ∷ freed 2 3 ∷ freed 1 1 ∷ [], done)
