-- A larger project tried: three scripts with an enum, accessors, signals, containers, formats and a `match`. Types are
-- left out, and the lines of the second script begin at 101, those of the third at 201.
use Rattle.std.specs.Prelude.{◌≡◌, ℕ, ◌+◌, pos, true, List, [], ◌∷◌, None, Some, codes}
use Rattle.gd_members.specs.declared.Found.TheVariants as found
use Rattle.gd_model.specs.Datum as datum
use Rattle.gd_model.specs.Datum.{Datum}
use Rattle.gd_model.specs.Store as thing
use Rattle.gd_model.specs.declared.ty.Ty.TheVariants as ty
use Rattle.gd_syntax.specs.declared.operator.Operator.TheVariants as op
use Rattle.store_semantics.specs.World.{freed, line}
use Rattle.syntax_trees.specs.Declarations.{body}
use Rattle.syntax_trees.specs.Declarations as d
use Rattle.syntax_trees.specs.Expressions.{Expr, Text, expr, pairs}
use Rattle.syntax_trees.specs.Expressions as e
use Rattle.syntax_trees.specs.Patterns.{Pattern, pattern}
use Rattle.syntax_trees.specs.Patterns as p
use Rattle.syntax_trees.specs.Statements.{Stmt, branch_and, if_do, no_branches, no_else, stmts}
use Rattle.syntax_trees.specs.Statements as s
use Rattle.source_semantics.specs.Project.{Class, Project}
use Rattle.source_semantics.specs.Running.{done, run}
use Rattle.source_semantics.specs.Words.{array, at, attr, binary, by_place, call, call_on, class_of, declares, does, finds, finds_print, function, index, local, member, named, number, print, returns, sets, start, statement, string, untyped, variable, with_setter, word}

-- ---- class_name Item
-- ---- enum Kind { TOOL, FOOD = 5, GEM }
-- ---- var title
-- ---- var kind
-- ---- var count = 1:
-- ----     set(v):
-- ----         count = maxi(v, 0)
-- ---- func _init(t, k, n = 1):
-- ----     title = t
-- ----     kind = k
-- ----     count = n
-- ---- func line():
-- ----     return "%-6s|%3d|%s" % [title, count, Kind.keys()[Kind.values().find(kind)]]

abbrev pub kind_name : Expr
kind_name = index 13 51 (call_on 13 45 (word 13 40 (codes "Kind")) (codes "keys") [])
    (call_on 13 66 (call_on 13 57 (word 13 52 (codes "Kind")) (codes "values") []) (codes "find")
    (word 13 71 (codes "kind") ∷ []))

abbrev pub item : Class
item = class_of (codes "Item")
    (declares (d.enum (Some (codes "Kind", at 2 6)) ((codes "TOOL", at 2 13, None) ∷ (codes "FOOD", at 2 19, None)
    ∷ (codes "GEM", at 2 29, None) ∷ []))
    ∷ member (named 3 5 (codes "title")) ∷ member (named 4 5 (codes "kind"))
    ∷ with_setter (variable 5 5 11 (codes "count") (number 5 13 1)) (body (Some (codes "v")) (stmts
    (sets 7 3 9 None (word 7 3 (codes "count")) (call 7 11 (codes "maxi") (word 7 16 (codes "v") ∷ number 7 19 0 ∷ []))
    ∷ [])) (at 6 2) 16)
    ∷ function 8 6 (codes "_init") (named 8 12 (codes "t") ∷ named 8 15 (codes "k") ∷ variable 8 18 20 (codes "n")
    (number 8 22 1) ∷ [])
    (sets 9 2 8 None (word 9 2 (codes "title")) (word 9 10 (codes "t"))
    ∷ sets 10 2 7 None (word 10 2 (codes "kind")) (word 10 9 (codes "k"))
    ∷ sets 11 2 8 None (word 11 2 (codes "count")) (word 11 10 (codes "n")) ∷ [])
    ∷ function 12 6 (codes "line") []
    (returns 13 2 (binary 13 23 op.Remainder (string 13 9 (codes "%-6s|%3d|%s"))
    (array 13 25 (word 13 26 (codes "title") ∷ word 13 33 (codes "count") ∷ kind_name ∷ []))) ∷ [])
    ∷ [])

-- ---- class_name Store
-- ---- signal changed(title, count)
-- ---- const MAX := 99
-- ---- var items = []
-- ---- var by_name := {}
-- ---- func add(title, kind, n := 1):
-- ----     if by_name.has(title):
-- ----         var old = by_name[title]
-- ----         old.count = mini(old.count + n, MAX)
-- ----         changed.emit(title, old.count)
-- ----         return old
-- ----     var made := Item.new(title, kind, n)
-- ----     items.append(made)
-- ----     by_name[title] = made
-- ----     changed.emit(title, made.count)
-- ----     return made
-- ---- func total():
-- ----     var sum := 0
-- ----     for item in items:
-- ----         sum += item.count
-- ----     return sum

abbrev pub title_at : ℕ → ℕ → Expr
title_at y x = word y x (codes "title")

-- `changed.emit(title, NAME.count)`
abbrev pub emits_changed : ℕ → ℕ → Text → Stmt
emits_changed y x name = does y x
    (call_on y 11 (word y x (codes "changed")) (codes "emit")
    (title_at y 16 ∷ attr y 30 (word y 23 name) (codes "count") ∷ []))

abbrev pub adds_count : List Stmt
adds_count =
    local 208 3 (variable 208 7 11 (codes "old") (index 208 20 (word 208 13 (codes "by_name")) (title_at 208 21)))
    ∷ sets 209 3 13 None (attr 209 7 (word 209 3 (codes "old")) (codes "count"))
    (call 209 15 (codes "mini") (binary 209 30 op.Add (attr 209 24 (word 209 20 (codes "old")) (codes "count"))
    (word 209 32 (codes "n"))
    ∷ word 209 35 (codes "MAX") ∷ []))
    ∷ emits_changed 210 3 (codes "old") ∷ returns 211 3 (word 211 10 (codes "old")) ∷ []

abbrev pub store : Class
store = class_of (codes "Store")
    (declares (d.signal (codes "changed") (at 202 8) (named 202 16 (codes "title") ∷ named 202 23 (codes "count") ∷ []))
    ∷ declares (d.constant (variable 203 7 11 (codes "MAX") (number 203 14 99)))
    ∷ member (variable 204 5 11 (codes "items") (array 204 13 []))
    ∷ member (variable 205 5 13 (codes "by_name") (expr (at 205 16) (e.dict_lit (pairs []))))
    ∷ function 206 6 (codes "add") (named 206 10 (codes "title") ∷ named 206 17 (codes "kind")
    ∷ variable 206 23 25 (codes "n") (number 206 28 1) ∷ [])
    (statement 207 2 (s.choice (if_do (call_on 207 13 (word 207 5 (codes "by_name")) (codes "has")
    (title_at 207 17 ∷ [])) (stmts adds_count) no_else))
    ∷ local 212 2 (variable 212 6 11 (codes "made") (call_on 212 19 (word 212 14 (codes "Item")) (codes "new")
    (title_at 212 23 ∷ word 212 30 (codes "kind") ∷ word 212 36 (codes "n") ∷ [])))
    ∷ does 213 2 (call_on 213 8 (word 213 2 (codes "items")) (codes "append") (word 213 15 (codes "made") ∷ []))
    ∷ sets 214 2 17 None (index 214 9 (word 214 2 (codes "by_name")) (title_at 214 10)) (word 214 19 (codes "made"))
    ∷ emits_changed 215 2 (codes "made") ∷ returns 216 2 (word 216 9 (codes "made")) ∷ [])
    ∷ function 217 6 (codes "total") []
    (local 218 2 (variable 218 6 10 (codes "sum") (number 218 13 0))
    ∷ statement 219 2 (s.for (codes "item") (at 219 6) None (at 219 11) (word 219 14 (codes "items")) (stmts
    (sets 220 3 7 (Some op.Add) (word 220 3 (codes "sum")) (attr 220 15 (word 220 10 (codes "item")) (codes "count"))
    ∷ [])))
    ∷ returns 221 2 (word 221 9 (codes "sum")) ∷ [])
    ∷ [])

-- ---- const StoreScript = preload("res://store.gd")
-- ---- var notes = []
-- ---- func _on_changed(title, count):
-- ----     notes.append("%s=%d" % [title, count])
-- ---- func test():
-- ----     var store := StoreScript.new()
-- ----     store.changed.connect(_on_changed)
-- ----     store.add("rope", Item.Kind.TOOL)
-- ----     store.add("bread", Item.Kind.FOOD, 12)
-- ----     store.add("rope", Item.Kind.TOOL, 150)
-- ----     for item in store.items:
-- ----         print(item.line())
-- ----     print(store.total(), " ", notes)
-- ----     match store.items.size():
-- ----         0: print("empty")
-- ----         2, 3: print("few")
-- ----         _: print("many")

abbrev pub kind_at : ℕ → Text → Expr
kind_at y name = attr y 30 (attr y 25 (word y 20 (codes "Item")) (codes "Kind")) name

abbrev pub adds : ℕ → Text → Text → List Expr → Stmt
adds y name kind count = does y 2 (call_on y 8 (word y 2 (codes "store")) (codes "add")
    (string y 12 name ∷ kind_at y kind ∷ count))

abbrev pub says : ℕ → ℕ → Text → s.Stmts
says y x text = stmts (does y x (print y x (string y (x + 6) text ∷ [])) ∷ [])

abbrev pub is_number : ℕ → ℕ → ℕ → Pattern
is_number y x n = pattern (at y x) (p.value (number y x n))

abbrev pub main : Class
main = class_of (codes "main.gd")
    (declares (d.constant (variable 102 7 19 (codes "StoreScript")
    (expr (at 102 21) (e.preload (codes "res://store.gd")))))
    ∷ member (variable 103 5 11 (codes "notes") (array 103 13 []))
    ∷ function 104 6 (codes "_on_changed") (named 104 18 (codes "title") ∷ named 104 25 (codes "count") ∷ [])
    (does 105 2 (call_on 105 8 (word 105 2 (codes "notes")) (codes "append")
    (binary 105 23 op.Remainder (string 105 15 (codes "%s=%d"))
    (array 105 25 (title_at 105 26 ∷ word 105 33 (codes "count") ∷ [])) ∷ [])) ∷ [])
    ∷ function 106 6 (codes "test") []
    (local 107 2 (variable 107 6 13 (codes "store") (call_on 107 27 (word 107 15 (codes "StoreScript"))
    (codes "new") []))
    ∷ does 108 2 (call_on 108 16 (attr 108 8 (word 108 2 (codes "store")) (codes "changed")) (codes "connect")
    (word 108 24 (codes "_on_changed") ∷ []))
    ∷ adds 109 (codes "rope") (codes "TOOL") []
    ∷ adds 110 (codes "bread") (codes "FOOD") (number 110 37 12 ∷ [])
    ∷ adds 111 (codes "rope") (codes "TOOL") (number 111 37 150 ∷ [])
    ∷ statement 112 2 (s.for (codes "item") (at 112 6) None (at 112 11)
    (attr 112 20 (word 112 14 (codes "store")) (codes "items")) (stmts
    (does 113 3 (print 113 3 (call_on 113 14 (word 113 9 (codes "item")) (codes "line") [] ∷ [])) ∷ [])))
    ∷ does 114 2 (print 114 2 (call_on 114 14 (word 114 8 (codes "store")) (codes "total") []
    ∷ string 114 23 (codes " ") ∷ word 114 28 (codes "notes") ∷ []))
    ∷ statement 115 2 (s.match (call_on 115 20 (attr 115 14 (word 115 8 (codes "store")) (codes "items"))
    (codes "size") [])
    (branch_and (is_number 116 3 0 ∷ []) None (says 116 6 (codes "empty"))
    (branch_and (is_number 117 3 2 ∷ is_number 117 6 3 ∷ []) None (says 117 9 (codes "few"))
    (branch_and (pattern (at 118 3) p.any ∷ []) None (says 118 6 (codes "many"))
    no_branches))))
    ∷ [])
    ∷ [])

-- the classes by their paths: Item, the main one, Store
abbrev pub shop : Project
shop = record (untyped (item ∷ main ∷ store ∷ [])
    (finds 7 3 1 3 ∷ (at 7 11, found.Builtin 12) ∷ finds 9 2 1 1 ∷ finds 10 2 1 2 ∷ finds 11 2 1 3
    ∷ finds 13 26 1 1 ∷ finds 13 33 1 3 ∷ finds 13 40 1 0 ∷ finds 13 52 1 0 ∷ finds 13 71 1 2
    ∷ finds 207 5 3 3 ∷ finds 208 13 3 3 ∷ (at 209 15, found.Builtin 11) ∷ finds 209 35 3 1 ∷ finds 210 3 3 0
    ∷ (at 212 14, found.Class 1) ∷ finds 213 2 3 2 ∷ finds 214 2 3 3 ∷ finds 215 2 3 0 ∷ finds 219 14 3 2
    ∷ finds 105 2 2 1 ∷ finds 107 15 2 0 ∷ finds 108 24 2 2
    ∷ (at 109 20, found.Class 1) ∷ finds 109 25 1 0 ∷ (at 110 20, found.Class 1) ∷ finds 110 25 1 0
    ∷ (at 111 20, found.Class 1) ∷ finds 111 25 1 0
    ∷ finds_print 113 3 ∷ finds_print 114 2 ∷ finds 114 28 2 1 ∷ finds_print 116 6 ∷ finds_print 117 9
    ∷ finds_print 118 6 ∷ [])) {
      typed = by_place ty.Variant ((at 212 14, ty.Meta 1) ∷ (at 107 15, ty.Meta 3) ∷ (at 109 20, ty.Meta 1)
          ∷ (at 110 20, ty.Meta 1) ∷ (at 111 20, ty.Meta 1) ∷ []);
      constant = by_place datum.null ((at 2 6, datum.dictionary 1) ∷ (at 203 7, datum.int (pos 99)) ∷ []);
      things = thing.dict (record {
        key_type = ty.Variant;
        value_type = ty.Variant;
        fixed = true;
        pairs = (datum.text (codes "TOOL"), datum.int (pos 0)) ∷ (datum.text (codes "FOOD"), datum.int (pos 5))
            ∷ (datum.text (codes "GEM"), datum.int (pos 6)) ∷ [];
      }) ∷ [];
    }

abbrev pub KeepsShop : Type 0
KeepsShop = run shop 2 start 99 ≡ (
  line (codes "rope  | 99|TOOL") ∷ line (codes "bread | 12|FOOD")
      ∷ line (codes "111 [\"rope=1\", \"bread=12\", \"rope=99\"]") ∷ line (codes "few")
      ∷ freed 4 3 ∷ freed 7 1 ∷ freed 9 1 ∷ freed 2 2 ∷ [],
  done,
)
