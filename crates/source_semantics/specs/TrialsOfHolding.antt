-- How long values are held, tried on small projects. In each the class `N` is the second one, and what goes is seen.
use Rattle.std.specs.Prelude.{◌≡◌, ℕ, List, [], ◌∷◌, ◌++◌, None, codes}
use Rattle.gd_members.specs.declared.Found.{Found}
use Rattle.gd_members.specs.declared.Found.TheVariants as found
use Rattle.gd_model.specs.declared.ty.Ty.{Ty}
use Rattle.gd_model.specs.declared.ty.Ty.TheVariants as ty
use Rattle.gd_syntax.specs.declared.operator.Operator.TheVariants as op
use Rattle.gd_syntax.specs.declared.pos.Pos.{Pos}
use Rattle.store_semantics.specs.World.{freed, line}
use Rattle.syntax_trees.specs.Declarations.{Decl}
use Rattle.syntax_trees.specs.Declarations as d
use Rattle.syntax_trees.specs.Expressions.{Expr, expr, pairs}
use Rattle.syntax_trees.specs.Expressions as e
use Rattle.syntax_trees.specs.Statements.{Stmt, if_do, no_else, stmts}
use Rattle.syntax_trees.specs.Statements as s
use Rattle.source_semantics.specs.Project.{Project}
use Rattle.source_semantics.specs.Running.{done, run}
use Rattle.source_semantics.specs.Words.{at, binary, by_place, call, call_on, class_of, declares, does, finds, finds_print, function, local, named, number, print, returns, sets, start, statement, static_function, string, untyped, variable, word}

-- `N.new()`, whose `N` stands two columns before `new`
abbrev pub new_node : ℕ → ℕ → ℕ → Expr
new_node y x new = call_on y new (word y x (codes "N")) (codes "new") []

-- a line with this text on it
abbrev pub says : ℕ → ℕ → Expr → Stmt
says y x value = does y x (print y x (value ∷ []))

-- a main class and the class `N` with these declarations; the places of `N`, and what other names mean
abbrev pub with_class : List Decl → List Decl → List Pos → List (Pos × Found) → Project
with_class members node places names = record (untyped
    (class_of (codes "main.gd") members ∷ class_of (codes "N") node ∷ []) (classes places ++ names))
    { typed = by_place ty.Variant (metas places) }
  where
    classes : List Pos → List (Pos × Found)
    classes [] = []
    classes (p ∷ ps) = (p, found.Class 2) ∷ classes ps

    metas : List Pos → List (Pos × Ty)
    metas [] = []
    metas (p ∷ ps) = (p, ty.Meta 2) ∷ metas ps

-- the same of a function `test` alone, where `N` has no declarations
abbrev pub tested : List Stmt → List Pos → List (Pos × Found) → Project
tested body places names = with_class (function 3 6 (codes "test") [] body ∷ []) [] places names

-- ---- func test():
-- ----     print(N.new() == null)

abbrev pub compared : Project
compared = tested (says 4 2 (binary 4 16 op.Equal (new_node 4 8 10) (expr (at 4 19) e.null)) ∷ []) (at 4 8 ∷ [])
    (finds_print 4 2 ∷ [])

-- an operand goes when its operation has ended
abbrev pub FreesOperand : Type 0
FreesOperand = run compared 1 start 9 ≡ (freed 2 2 ∷ line (codes "false") ∷ freed 1 1 ∷ [], done)

-- ---- func test():
-- ----     if N.new():
-- ----         print("yes")

abbrev pub condition : Project
condition = tested
    (statement 4 2 (s.choice (if_do (new_node 4 5 7) (stmts (says 5 3 (string 5 9 (codes "yes")) ∷ [])) no_else)) ∷ [])
    (at 4 5 ∷ []) (finds_print 5 3 ∷ [])

-- a condition uses up its value at once
abbrev pub FreesCondition : Type 0
FreesCondition = run condition 1 start 9 ≡ (freed 2 2 ∷ line (codes "yes") ∷ freed 1 1 ∷ [], done)

-- ---- func test():
-- ----     var d = {"a": N.new(), "a": N.new()}
-- ----     print(d.size())

abbrev pub repeated : Project
repeated = tested
    (local 4 2 (variable 4 6 8 (codes "d") (expr (at 4 10) (e.dict_lit (pairs
    ((string 4 11 (codes "a"), new_node 4 16 18) ∷ (string 4 25 (codes "a"), new_node 4 30 32) ∷ [])))))
    ∷ says 5 2 (call_on 5 10 (word 5 8 (codes "d")) (codes "size") []) ∷ [])
    (at 4 16 ∷ at 4 30 ∷ []) (finds_print 5 2 ∷ [])

-- of a key that repeats the earlier value goes when the literal is made
abbrev pub FreesEarlierValue : Type 0
FreesEarlierValue = run repeated 1 start 9 ≡ (freed 2 2 ∷ line (codes "1") ∷ freed 3 2 ∷ freed 1 1 ∷ [], done)

-- ---- func f():
-- ----     for k in {1: N.new()}:
-- ----         var a = N.new()
-- ----         (`break` or `return N.new()`)
-- ---- func test():
-- ----     f()
-- ----     print("behind")

abbrev pub leaving : Stmt → Project
leaving way = with_class
    (function 3 6 (codes "f") []
    (statement 4 2 (s.for (codes "k") (at 4 6) None (at 4 8)
    (expr (at 4 11) (e.dict_lit (pairs ((number 4 12 1, new_node 4 15 17) ∷ [])))) (stmts
    (local 5 3 (variable 5 7 9 (codes "a") (new_node 5 11 13)) ∷ way ∷ []))) ∷ [])
    ∷ function 7 6 (codes "test") []
    (does 8 2 (call 8 2 (codes "f") []) ∷ says 9 2 (string 9 8 (codes "behind")) ∷ []) ∷ [])
    [] (at 4 15 ∷ at 5 11 ∷ at 6 10 ∷ []) (finds 8 2 1 0 ∷ finds_print 9 2 ∷ [])

-- where a loop is left its subject goes first, and then the locals
abbrev pub BreakFreesSubject : Type 0
BreakFreesSubject = run (leaving (statement 6 3 s.break)) 1 start 9
    ≡ (freed 2 2 ∷ freed 4 2 ∷ line (codes "behind") ∷ freed 1 1 ∷ [], done)

-- a return gives up subjects and locals together, and holds its result
abbrev pub ReturnFreesTogether : Type 0
ReturnFreesTogether = run (leaving (returns 6 3 (new_node 6 10 12))) 1 start 9
    ≡ (freed 4 2 ∷ freed 2 2 ∷ freed 5 2 ∷ line (codes "behind") ∷ freed 1 1 ∷ [], done)

-- ---- signal s
-- ---- func f(x):
-- ----     x = null
-- ----     print("in f")
-- ---- func test():
-- ----     (a call of f with `N.new()`)
-- ----     print("behind")

abbrev pub passing : List Stmt → List Pos → List (Pos × Found) → Project
passing calls places names = with_class
    (declares (d.signal (codes "s") (at 1 8) [])
    ∷ function 3 6 (codes "f") (named 3 8 (codes "x") ∷ [])
    (sets 4 2 4 None (word 4 2 (codes "x")) (expr (at 4 6) e.null) ∷ says 5 2 (string 5 8 (codes "in f")) ∷ [])
    ∷ function 6 6 (codes "test") [] (calls ++ says 9 2 (string 9 8 (codes "behind")) ∷ []) ∷ [])
    [] places (finds_print 5 2 ∷ finds_print 9 2 ∷ names)

-- a call passes its arguments on to the function that it enters, by name or through a Callable
abbrev pub CallPassesOn : Type 0
CallPassesOn =
    run (passing (does 7 2 (call 7 2 (codes "f") (new_node 7 4 6 ∷ [])) ∷ []) (at 7 4 ∷ []) (finds 7 2 1 1 ∷ [])) 1
    start 9
    ≡ (freed 2 2 ∷ line (codes "in f") ∷ line (codes "behind") ∷ freed 1 1 ∷ [], done)

abbrev pub CallablePassesOn : Type 0
CallablePassesOn =
    run (passing (does 7 2 (call_on 7 4 (word 7 2 (codes "f")) (codes "call") (new_node 7 9 11 ∷ [])) ∷ [])
    (at 7 9 ∷ []) (finds 7 2 1 1 ∷ [])) 1 start 9
    ≡ (freed 2 2 ∷ line (codes "in f") ∷ line (codes "behind") ∷ freed 1 1 ∷ [], done)

-- an emission holds its arguments to its end
abbrev pub EmitHolds : Type 0
EmitHolds =
    run (passing
    (does 7 2 (call_on 7 4 (word 7 2 (codes "s")) (codes "connect") (word 7 12 (codes "f") ∷ []))
    ∷ does 8 2 (call_on 8 4 (word 8 2 (codes "s")) (codes "emit") (new_node 8 9 11 ∷ [])) ∷ [])
    (at 8 9 ∷ []) (finds 7 2 1 0 ∷ finds 7 12 1 1 ∷ finds 8 2 1 0 ∷ [])) 1 start 9
    ≡ (line (codes "in f") ∷ freed 2 2 ∷ line (codes "behind") ∷ freed 1 1 ∷ [], done)

-- ---- class N:
-- ----     static func f():
-- ----         print("in f")
-- ---- func test():
-- ----     N.new().f()
-- ----     print("behind")

abbrev pub static_call : Project
static_call = with_class
    (function 4 6 (codes "test") []
    (does 5 2 (call_on 5 10 (new_node 5 2 4) (codes "f") []) ∷ says 6 2 (string 6 8 (codes "behind")) ∷ []) ∷ [])
    (static_function 2 14 (codes "f") [] (says 3 3 (string 3 9 (codes "in f")) ∷ []) ∷ [])
    (at 5 2 ∷ []) (finds_print 3 3 ∷ finds_print 6 2 ∷ [])

-- a static function that is called on an object holds it
abbrev pub StaticCallHolds : Type 0
StaticCallHolds = run static_call 1 start 9 ≡ (
  line (codes "in f") ∷ freed 2 2 ∷ line (codes "behind") ∷ freed 1 1
      ∷ [],
  done,
)
