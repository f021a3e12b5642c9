-- Calls, accessors and assignments tried on small projects.
use Rattle.std.specs.Prelude.{◌≡◌, [], ◌∷◌, None, Some, codes}
use Rattle.gd_members.specs.declared.Found.TheVariants as found
use Rattle.gd_model.specs.declared.fault.RunFault.TheVariants as fault_kind
use Rattle.gd_model.specs.declared.ty.Ty.TheVariants as ty
use Rattle.gd_syntax.specs.declared.operator.Operator.TheVariants as op
use Rattle.store_semantics.specs.World.{freed, line}
use Rattle.syntax_trees.specs.Declarations.{body}
use Rattle.syntax_trees.specs.Expressions.{expr, no_exprs}
use Rattle.syntax_trees.specs.Expressions as e
use Rattle.syntax_trees.specs.Statements.{stmts}
use Rattle.source_semantics.specs.Project.{Project}
use Rattle.source_semantics.specs.Running.{done, fault, out_of_turns, run}
use Rattle.source_semantics.specs.Words.{array, at, binary, by_place, call, call_on, class_of, does, finds, finds_print, function, index, member, named, number, print, returns, script, sets, start, string, untyped, variable, with_setter, word}

-- ---- func twice(n):
-- ----     return n * 2
-- ---- func test():
-- ----     print(twice(21))

abbrev pub doubling : Project
doubling = script
    (function 1 6 (codes "twice") (named 1 12 (codes "n") ∷ [])
    (returns 2 2 (binary 2 11 op.Multiply (word 2 9 (codes "n")) (number 2 13 2)) ∷ [])
    ∷ function 3 6 (codes "test") [] (does 4 2 (print 4 2 (call 4 8 (codes "twice") (number 4 14 21 ∷ []) ∷ [])) ∷ [])
    ∷ [])
    (finds_print 4 2 ∷ finds 4 8 1 0 ∷ [])

abbrev pub ReturnsTwice : Type 0
ReturnsTwice = run doubling 1 start 3 ≡ (line (codes "42") ∷ freed 1 1 ∷ [], done)

abbrev pub EachCallUsesTurn : Type 0
EachCallUsesTurn = run doubling 1 start 2 ≡ ([], out_of_turns)

-- ---- func sum(a, b = a + 1):
-- ----     return a + b
-- ---- func test():
-- ----     print(sum(1), " ", sum(1, 5))

abbrev pub summing : Project
summing = script
    (function 1 6 (codes "sum")
    (named 1 10 (codes "a") ∷ variable 1 13 15 (codes "b") (binary 1 19 op.Add (word 1 17 (codes "a")) (number 1 21 1))
    ∷ [])
    (returns 2 2 (binary 2 11 op.Add (word 2 9 (codes "a")) (word 2 13 (codes "b"))) ∷ [])
    ∷ function 3 6 (codes "test") []
    (does 4 2 (print 4 2 (call 4 8 (codes "sum") (number 4 12 1 ∷ []) ∷ string 4 16 (codes " ")
    ∷ call 4 21 (codes "sum") (number 4 25 1 ∷ number 4 28 5 ∷ []) ∷ [])) ∷ [])
    ∷ [])
    (finds_print 4 2 ∷ finds 4 8 1 0 ∷ finds 4 21 1 0 ∷ [])

-- a default value may name the parameters before it
abbrev pub TakesDefault : Type 0
TakesDefault = run summing 1 start 9 ≡ (line (codes "3 6") ∷ freed 1 1 ∷ [], done)

-- ---- func r():
-- ----     print("receiver")
-- ----     return self
-- ---- func a():
-- ----     print("first")
-- ---- func b():
-- ----     print("second")
-- ---- func f(x, y):
-- ----     print("called")
-- ---- func test():
-- ----     r().f(a(), b())

abbrev pub in_order : Project
in_order = script
    (function 1 6 (codes "r") [] (does 2 2 (print 2 2 (string 2 8 (codes "receiver") ∷ []))
    ∷ returns 3 2 (expr (at 3 9) e.me) ∷ [])
    ∷ function 4 6 (codes "a") [] (does 5 2 (print 5 2 (string 5 8 (codes "first") ∷ [])) ∷ [])
    ∷ function 6 6 (codes "b") [] (does 7 2 (print 7 2 (string 7 8 (codes "second") ∷ [])) ∷ [])
    ∷ function 8 6 (codes "f") (named 8 8 (codes "x") ∷ named 8 11 (codes "y") ∷ [])
    (does 9 2 (print 9 2 (string 9 8 (codes "called") ∷ [])) ∷ [])
    ∷ function 10 6 (codes "test") []
    (does 11 2 (call_on 11 6 (call 11 2 (codes "r") []) (codes "f") (call 11 8 (codes "a") []
    ∷ call 11 13 (codes "b") [] ∷ [])) ∷ [])
    ∷ [])
    (finds_print 2 2 ∷ finds_print 5 2 ∷ finds_print 7 2 ∷ finds_print 9 2 ∷ finds 11 2 1 0 ∷ finds 11 8 1 1
    ∷ finds 11 13 1 2 ∷ [])

abbrev pub ReceiverComesFirst : Type 0
ReceiverComesFirst = run in_order 1 start 9
    ≡ (
      line (codes "receiver") ∷ line (codes "first") ∷ line (codes "second") ∷ line (codes "called") ∷ freed 1 1
          ∷ [],
      done,
    )

-- ---- class A:
-- ----     func name():
-- ----         return "A"
-- ----     func say():
-- ----         print(name())
-- ---- class B extends A:
-- ----     func name():
-- ----         return "B" + super()
-- ---- func test():
-- ----     B.new().say()

abbrev pub overriding : Project
overriding = record (untyped
    (class_of (codes "main.gd")
    (function 9 6 (codes "test") []
    (does 10 2 (call_on 10 10 (call_on 10 4 (word 10 2 (codes "B")) (codes "new") []) (codes "say") []) ∷ []) ∷ [])
    ∷ class_of (codes "A")
    (function 2 7 (codes "name") [] (returns 3 3 (string 3 10 (codes "A")) ∷ [])
    ∷ function 4 7 (codes "say") [] (does 5 3 (print 5 3 (call 5 9 (codes "name") [] ∷ [])) ∷ []) ∷ [])
    ∷ record (class_of (codes "B")
    (function 7 7 (codes "name") []
    (returns 8 3 (binary 8 14 op.Add (string 8 10 (codes "B")) (expr (at 8 16) (e.super (at 8 16) None no_exprs))) ∷ [])
    ∷ []))
    { base = 2 }
    ∷ [])
    (finds_print 5 3 ∷ finds 5 9 2 0 ∷ finds 8 16 2 0 ∷ (at 10 2, found.Class 3) ∷ []))
    { typed = by_place ty.Variant ((at 10 2, ty.Meta 3) ∷ []) }

-- a bare call goes to the receiver's own class, and `super` to the base's function
abbrev pub CallsOverride : Type 0
CallsOverride = run overriding 1 start 9 ≡ (line (codes "BA") ∷ freed 2 3 ∷ freed 1 1 ∷ [], done)

-- ---- var hp: int = 5:
-- ----     set(v):
-- ----         hp = v * 2
-- ---- func test():
-- ----     hp = 4
-- ----     print(hp)

abbrev pub with_types : Project → Project
with_types p = record p {
  typed = by_place ty.Variant ((at 3 3, ty.Int) ∷ (at 5 2, ty.Int) ∷ (at 6 8, ty.Int) ∷ []);
  place_type = by_place ty.Variant ((at 1 5, ty.Int) ∷ []);
}

abbrev pub own_setter : Project
own_setter = with_types (script
    (with_setter (variable 1 5 13 (codes "hp") (number 1 15 5)) (body (Some (codes "v")) (stmts
    (sets 3 3 6 None (word 3 3 (codes "hp")) (binary 3 10 op.Multiply (word 3 8 (codes "v")) (number 3 12 2)) ∷ []))
    (at 2 2) 14)
    ∷ function 4 6 (codes "test") []
    (sets 5 2 5 None (word 5 2 (codes "hp")) (number 5 7 4) ∷ does 6 2 (print 6 2 (word 6 8 (codes "hp") ∷ [])) ∷ [])
    ∷ [])
    (finds 3 3 1 0 ∷ finds 5 2 1 0 ∷ finds_print 6 2 ∷ finds 6 8 1 0 ∷ []))

-- in its own setter a variable is set at once
abbrev pub SetsOnce : Type 0
SetsOnce = run own_setter 1 start 3 ≡ (line (codes "8") ∷ freed 1 1 ∷ [], done)

-- ---- var hp: int = 5:
-- ----     set(v):
-- ----         put(v)
-- ---- func put(v):
-- ----     hp = v
-- ---- func test():
-- ----     hp = 4
-- ----     print(hp)

abbrev pub setter_through_function : Project
setter_through_function = script
    (with_setter (variable 1 5 13 (codes "hp") (number 1 15 5))
    (body (Some (codes "v")) (stmts (does 3 3 (call 3 3 (codes "put") (word 3 7 (codes "v") ∷ [])) ∷ [])) (at 2 2) 11)
    ∷ function 4 6 (codes "put") (named 4 10 (codes "v") ∷ [])
    (sets 5 2 5 None (word 5 2 (codes "hp")) (word 5 7 (codes "v")) ∷ [])
    ∷ function 6 6 (codes "test") []
    (sets 7 2 5 None (word 7 2 (codes "hp")) (number 7 7 4) ∷ does 8 2 (print 8 2 (word 8 8 (codes "hp") ∷ [])) ∷ [])
    ∷ [])
    (finds 3 3 1 1 ∷ finds 5 2 1 0 ∷ finds 7 2 1 0 ∷ finds_print 8 2 ∷ finds 8 8 1 0 ∷ [])

-- a function that it calls goes through the setter again
abbrev pub SetsAgain : Type 0
SetsAgain = run setter_through_function 1 start 20 ≡ ([], out_of_turns)

abbrev pub SetsTooDeep : Type 0
SetsTooDeep = run setter_through_function 1 start 2000 ≡ ([], fault fault_kind.CallsTooDeep (at 3 3) None)

-- ---- var a = [1]
-- ---- func place():
-- ----     print("place")
-- ----     return 0
-- ---- func test():
-- ----     a[place()] = 1 / 0

abbrev pub faulty_value : Project
faulty_value = script
    (member (variable 1 5 7 (codes "a") (array 1 9 (number 1 10 1 ∷ [])))
    ∷ function 2 6 (codes "place") [] (does 3 2 (print 3 2 (string 3 8 (codes "place") ∷ []))
    ∷ returns 4 2 (number 4 9 0) ∷ [])
    ∷ function 5 6 (codes "test") []
    (sets 6 2 13 None (index 6 3 (word 6 2 (codes "a")) (call 6 4 (codes "place") []))
    (binary 6 17 op.Divide (number 6 15 1) (number 6 19 0)) ∷ [])
    ∷ [])
    (finds_print 3 2 ∷ finds 6 2 1 0 ∷ finds 6 4 1 1 ∷ [])

-- the target's parts are evaluated before the value
abbrev pub TargetComesFirst : Type 0
TargetComesFirst = run faulty_value 1 start 9
    ≡ (line (codes "place") ∷ [], fault fault_kind.ZeroDivisorOrStep (at 6 17) None)

-- ---- var a = [1]
-- ---- func one():
-- ----     print("one")
-- ----     return 1
-- ---- func test():
-- ----     a[0] += one()
-- ----     a[5] += one()

abbrev pub faulty_target : Project
faulty_target = script
    (member (variable 1 5 7 (codes "a") (array 1 9 (number 1 10 1 ∷ [])))
    ∷ function 2 6 (codes "one") [] (does 3 2 (print 3 2 (string 3 8 (codes "one") ∷ [])) ∷ returns 4 2 (number 4 9 1)
    ∷ [])
    ∷ function 5 6 (codes "test") []
    (sets 6 2 7 (Some op.Add) (index 6 3 (word 6 2 (codes "a")) (number 6 4 0)) (call 6 10 (codes "one") [])
    ∷ sets 7 2 7 (Some op.Add) (index 7 3 (word 7 2 (codes "a")) (number 7 4 5)) (call 7 10 (codes "one") []) ∷ [])
    ∷ [])
    (finds_print 3 2 ∷ finds 6 2 1 0 ∷ finds 6 10 1 1 ∷ finds 7 2 1 0 ∷ finds 7 10 1 1 ∷ [])

-- in a compound assignment the old value is read before the right side is evaluated
abbrev pub OldValueComesFirst : Type 0
OldValueComesFirst = run faulty_target 1 start 9 ≡ (line (codes "one") ∷ [], fault fault_kind.OutOfRange (at 7 3) None)
