-- What holds objects, statics, signals and constants, tried on small projects.
use Rattle.std.specs.Prelude.{◌≡◌, ℕ, ◌+◌, pos, true, List, [], ◌∷◌, None, codes}
use Rattle.gd_members.specs.declared.Found.{Found}
use Rattle.gd_members.specs.declared.Found.TheVariants as found
use Rattle.gd_model.specs.Datum as datum
use Rattle.gd_model.specs.Store as thing
use Rattle.gd_model.specs.declared.fault.RunFault.TheVariants as fault_kind
use Rattle.gd_model.specs.declared.ty.Ty.{Ty}
use Rattle.gd_model.specs.declared.ty.Ty.TheVariants as ty
use Rattle.gd_syntax.specs.declared.pos.Pos.{Pos}
use Rattle.store_semantics.specs.World.{freed, leaked, line}
use Rattle.syntax_trees.specs.Declarations as d
use Rattle.syntax_trees.specs.Expressions.{Expr, Text, expr, pairs}
use Rattle.syntax_trees.specs.Expressions as e
use Rattle.syntax_trees.specs.Statements.{Stmt, stmts}
use Rattle.syntax_trees.specs.Statements as s
use Rattle.source_semantics.specs.Project.{Class, Project}
use Rattle.source_semantics.specs.Running.{done, fault, out_of_turns, run}
use Rattle.source_semantics.specs.Words.{array, at, attr, by_place, call_on, class_of, declares, does, finds, finds_print, function, index, local, member, named, number, print, script, sets, start, statement, static_function, string, test_alone, untyped, variable, word}

-- ---- a class `N` beside the main one, as of two lines `class N:` and `var next: N = null`

abbrev pub node : Class
node = class_of (codes "N") (member (variable 2 6 14 (codes "next") (expr (at 2 16) e.null)) ∷ [])

-- `N.new()`: `N` at one place and `new` two columns behind it
abbrev pub new_node : ℕ → ℕ → ℕ → Expr
new_node y x new = call_on y new (word y x (codes "N")) (codes "new") []

-- the places at which the name `N` stands for that class
abbrev pub with_nodes : List Stmt → List Pos → Project
with_nodes body places = record (untyped
    (class_of (codes "main.gd") (function 3 6 (codes "test") [] body ∷ []) ∷ node ∷ []) (nodes places))
    { typed = by_place ty.Variant (metas places) }
  where
    nodes : List Pos → List (Pos × Found)
    nodes [] = finds_print 9 2 ∷ []
    nodes (p ∷ ps) = (p, found.Class 2) ∷ nodes ps

    metas : List Pos → List (Pos × Ty)
    metas [] = []
    metas (p ∷ ps) = (p, ty.Meta 2) ∷ metas ps

-- ---- func test():
-- ----     var a := N.new()
-- ----     a.next = N.new()
-- ----     var b := N.new()

abbrev pub chain : Project
chain = with_nodes
    (local 4 2 (variable 4 6 9 (codes "a") (new_node 4 11 13))
    ∷ sets 5 2 9 None (attr 5 4 (word 5 2 (codes "a")) (codes "next")) (new_node 5 11 13)
    ∷ local 6 2 (variable 6 6 9 (codes "b") (new_node 6 11 13)) ∷ [])
    (at 4 11 ∷ at 5 11 ∷ at 6 11 ∷ [])

-- what the locals held goes first, by serial number, and then what only that held
abbrev pub FreesInRounds : Type 0
FreesInRounds = run chain 1 start 9 ≡ (freed 2 2 ∷ freed 4 2 ∷ freed 3 2 ∷ freed 1 1 ∷ [], done)

-- ---- func test():
-- ----     var a := N.new()
-- ----     var b := N.new()
-- ----     a.next = b
-- ----     b.next = a

abbrev pub ring : Project
ring = with_nodes
    (local 4 2 (variable 4 6 9 (codes "a") (new_node 4 11 13))
    ∷ local 5 2 (variable 5 6 9 (codes "b") (new_node 5 11 13))
    ∷ sets 6 2 9 None (attr 6 4 (word 6 2 (codes "a")) (codes "next")) (word 6 11 (codes "b"))
    ∷ sets 7 2 9 None (attr 7 4 (word 7 2 (codes "b")) (codes "next")) (word 7 11 (codes "a")) ∷ [])
    (at 4 11 ∷ at 5 11 ∷ [])

abbrev pub RingLeaks : Type 0
RingLeaks = run ring 1 start 9 ≡ (freed 1 1 ∷ leaked 2 2 ∷ leaked 3 2 ∷ [], done)

-- ---- func test():
-- ----     for x in [N.new()]:
-- ----         var y = N.new()
-- ----         break
-- ----     print("behind")

abbrev pub breaking : Project
breaking = with_nodes
    (statement 4 2 (s.for (codes "x") (at 4 6) None (at 4 8) (array 4 11 (new_node 4 12 14 ∷ [])) (stmts
    (local 5 3 (variable 5 7 9 (codes "y") (new_node 5 11 13)) ∷ statement 6 3 s.break ∷ [])))
    ∷ does 9 2 (print 9 2 (string 9 8 (codes "behind") ∷ [])) ∷ [])
    (at 4 12 ∷ at 5 11 ∷ [])

-- a loop that is left gives up its subject, and then the variables of the blocks together
abbrev pub FreesAtBreak : Type 0
FreesAtBreak = run breaking 1 start 9 ≡ (freed 2 2 ∷ freed 4 2 ∷ line (codes "behind") ∷ freed 1 1 ∷ [], done)

-- ---- class L:
-- ----     func hit():
-- ----         print("hit")
-- ---- func test():
-- ----     var l = L.new()
-- ----     var c = l.hit
-- ----     l = null
-- ----     print(c.is_valid())
-- ----     c.call()

abbrev pub freed_target : Project
freed_target = record (untyped
    (class_of (codes "main.gd") (function 4 6 (codes "test") []
    (local 5 2 (variable 5 6 8 (codes "l") (call_on 5 12 (word 5 10 (codes "L")) (codes "new") []))
    ∷ local 6 2 (variable 6 6 8 (codes "c") (attr 6 12 (word 6 10 (codes "l")) (codes "hit")))
    ∷ sets 7 2 4 None (word 7 2 (codes "l")) (expr (at 7 6) e.null)
    ∷ does 8 2 (print 8 2 (call_on 8 10 (word 8 8 (codes "c")) (codes "is_valid") [] ∷ []))
    ∷ does 9 2 (call_on 9 4 (word 9 2 (codes "c")) (codes "call") []) ∷ []) ∷ [])
    ∷ class_of (codes "L") (function 2 7 (codes "hit") [] (does 3 3 (print 3 3 (string 3 9 (codes "hit") ∷ [])) ∷ [])
    ∷ [])
    ∷ [])
    (finds_print 3 3 ∷ (at 5 10, found.Class 2) ∷ finds_print 8 2 ∷ []))
    { typed = by_place ty.Variant ((at 5 10, ty.Meta 2) ∷ []) }

-- a Callable holds no object
abbrev pub CallsFreed : Type 0
CallsFreed = run freed_target 1 start 9
    ≡ (freed 2 2 ∷ line (codes "false") ∷ [], fault fault_kind.FreedTarget (at 9 4) None)

-- ---- static var n = 1
-- ---- static func _static_init():
-- ----     print(n)
-- ----     n = 2
-- ---- func test():
-- ----     print(n)

abbrev pub statics : Project
statics = script
    (member (record (variable 1 12 14 (codes "n") (number 1 16 1)) { is_static = true })
    ∷ static_function 2 13 (codes "_static_init") []
    (does 3 2 (print 3 2 (word 3 8 (codes "n") ∷ [])) ∷ sets 4 2 4 None (word 4 2 (codes "n")) (number 4 6 2) ∷ [])
    ∷ function 5 6 (codes "test") [] (does 6 2 (print 6 2 (word 6 8 (codes "n") ∷ [])) ∷ [])
    ∷ [])
    (finds_print 3 2 ∷ finds 3 8 1 0 ∷ finds 4 2 1 0 ∷ finds_print 6 2 ∷ finds 6 8 1 0 ∷ [])

abbrev pub StaticsComeFirst : Type 0
StaticsComeFirst = run statics 1 start 3 ≡ (line (codes "1") ∷ line (codes "2") ∷ freed 1 1 ∷ [], done)

-- `_static_init` uses a turn too
abbrev pub StaticInitUsesTurn : Type 0
StaticInitUsesTurn = run statics 1 start 2 ≡ (line (codes "1") ∷ [], out_of_turns)

-- ---- static var kept = N.new()
-- ---- func test():
-- ----     print("test")

abbrev pub static_object : Project
static_object = record (untyped
    (class_of (codes "main.gd")
    (member (record (variable 4 12 17 (codes "kept") (new_node 4 19 21)) { is_static = true })
    ∷ function 8 6 (codes "test") [] (does 9 2 (print 9 2 (string 9 8 (codes "test") ∷ [])) ∷ []) ∷ [])
    ∷ node ∷ [])
    ((at 4 19, found.Class 2) ∷ finds_print 9 2 ∷ []))
    { typed = by_place ty.Variant ((at 4 19, ty.Meta 2) ∷ []) }

-- the statics are given up behind the main instance
abbrev pub StaticsGoLast : Type 0
StaticsGoLast = run static_object 1 start 9 ≡ (line (codes "test") ∷ freed 2 1 ∷ freed 1 2 ∷ [], done)

-- ---- const K = [1]
-- ---- func test():
-- ----     K.append(2)

abbrev pub read_only : Project
read_only = record (script
    (declares (d.constant (variable 1 7 9 (codes "K") (array 1 11 (number 1 12 1 ∷ []))))
    ∷ function 2 6 (codes "test") []
    (does 3 2 (call_on 3 4 (word 3 2 (codes "K")) (codes "append") (number 3 11 2 ∷ [])) ∷ [])
    ∷ [])
    (finds 3 2 1 0 ∷ [])) {
      constant = by_place datum.null ((at 1 7, datum.array 1) ∷ []);
      things = thing.array (record { element = ty.Variant; fixed = true; items = datum.int (pos 1) ∷ [] }) ∷ [];
    }

abbrev pub ConstantIsReadOnly : Type 0
ConstantIsReadOnly = run read_only 1 start 9 ≡ ([], fault fault_kind.ReadOnly (at 3 4) None)

-- ---- func test():
-- ----     var d := {b = 1, a = 2}
-- ----     d.b = 3
-- ----     print(d, d.size(), {}, [null, "x", true])
-- ----     print(d["c"])

abbrev pub dictionary : Project
dictionary = test_alone
    (local 2 2 (variable 2 6 9 (codes "d") (expr (at 2 11) (e.dict_lit (pairs
    ((string 2 12 (codes "b"), number 2 16 1) ∷ (string 2 19 (codes "a"), number 2 23 2) ∷ [])))))
    ∷ sets 3 2 6 None (attr 3 4 (word 3 2 (codes "d")) (codes "b")) (number 3 8 3)
    ∷ does 4 2 (print 4 2 (word 4 8 (codes "d") ∷ call_on 4 13 (word 4 11 (codes "d")) (codes "size") []
    ∷ expr (at 4 21) (e.dict_lit (pairs []))
    ∷ array 4 25 (expr (at 4 26) e.null ∷ string 4 32 (codes "x") ∷ expr (at 4 37) (e.bool true) ∷ []) ∷ []))
    ∷ does 5 2 (print 5 2 (index 5 9 (word 5 8 (codes "d")) (string 5 10 (codes "c")) ∷ [])) ∷ [])
    (finds_print 4 2 ∷ finds_print 5 2 ∷ [])

abbrev pub KeepsPlaces : Type 0
KeepsPlaces = run dictionary 1 start 9
    ≡ (line (codes "{ \"b\": 3, \"a\": 2 }2{  }[<null>, \"x\", true]") ∷ [], fault fault_kind.NoSuchKey (at 5 9) None)

-- ---- class L:
-- ----     func hit(n):
-- ----         print("hit ", n)
-- ---- signal s(n: int)
-- ---- func later(n):
-- ----     print("later ", n)
-- ---- func once(n):
-- ----     print("once ", n)
-- ----     s.connect(later)
-- ---- func test():
-- ----     var l := L.new()
-- ----     s.connect(l.hit)
-- ----     print(s.connect(once, CONNECT_ONE_SHOT))
-- ----     print(s.connect(once, CONNECT_ONE_SHOT))
-- ----     l = null
-- ----     s.emit(1)
-- ----     s.emit(2)

abbrev pub prints_with : ℕ → ℕ → Text → Stmt
prints_with y x t = does y x (print y x (string y (x + 6) t ∷ word y 20 (codes "n") ∷ []))

abbrev pub connects_once : ℕ → Stmt
connects_once y = does y 2 (print y 2
    (call_on y 10 (word y 8 (codes "s")) (codes "connect") (word y 18 (codes "once")
    ∷ word y 24 (codes "CONNECT_ONE_SHOT") ∷ []) ∷ []))

abbrev pub emits : ℕ → ℕ → Stmt
emits y n = does y 2 (call_on y 4 (word y 2 (codes "s")) (codes "emit") (number y 9 n ∷ []))

abbrev pub signals : Project
signals = record (untyped
    (class_of (codes "main.gd")
    (declares (d.signal (codes "s") (at 4 8) (named 4 10 (codes "n") ∷ []))
    ∷ function 5 6 (codes "later") (named 5 12 (codes "n") ∷ []) (prints_with 6 2 (codes "later ") ∷ [])
    ∷ function 7 6 (codes "once") (named 7 11 (codes "n") ∷ [])
    (prints_with 8 2 (codes "once ")
    ∷ does 9 2 (call_on 9 4 (word 9 2 (codes "s")) (codes "connect") (word 9 12 (codes "later") ∷ [])) ∷ [])
    ∷ function 10 6 (codes "test") []
    (local 11 2 (variable 11 6 9 (codes "l") (call_on 11 13 (word 11 11 (codes "L")) (codes "new") []))
    ∷ does 12 2 (call_on 12 4 (word 12 2 (codes "s")) (codes "connect")
    (attr 12 14 (word 12 12 (codes "l")) (codes "hit") ∷ []))
    ∷ connects_once 13 ∷ connects_once 14
    ∷ sets 15 2 4 None (word 15 2 (codes "l")) (expr (at 15 6) e.null)
    ∷ emits 16 1 ∷ emits 17 2 ∷ []) ∷ [])
    ∷ class_of (codes "L") (function 2 7 (codes "hit") (named 2 11 (codes "n") ∷ []) (prints_with 3 3 (codes "hit ")
    ∷ []) ∷ [])
    ∷ [])
    (finds_print 3 3 ∷ finds_print 6 2 ∷ finds_print 8 2 ∷ finds 9 2 1 0 ∷ finds 9 12 1 1 ∷ (at 11 11, found.Class 2)
    ∷ finds 12 2 1 0 ∷ finds_print 13 2 ∷ finds 13 8 1 0 ∷ finds 13 18 1 2 ∷ (at 13 24, found.Builtin 1009)
    ∷ finds_print 14 2 ∷ finds 14 8 1 0 ∷ finds 14 18 1 2 ∷ (at 14 24, found.Builtin 1009) ∷ finds 16 2 1 0
    ∷ finds 17 2 1 0 ∷ []))
    { typed = by_place ty.Variant ((at 11 11, ty.Meta 2) ∷ []) }

-- the freed target is skipped, and what is connected meanwhile is called by the next emission
abbrev pub EmitsOnce : Type 0
EmitsOnce = run signals 1 start 9
    ≡ (
      line (codes "0") ∷ line (codes "31") ∷ freed 2 2 ∷ line (codes "once 1") ∷ line (codes "later 2") ∷ freed 1 1
          ∷ [],
      done,
    )
