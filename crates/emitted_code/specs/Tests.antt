-- The tests of a `match`: those of each pattern in order, and where each leads. They are numbered as nodes: of each branch
-- the tests of its patterns, its guard where it has one, and its end; behind all branches stands the end without one.
use Rattle.std.specs.Prelude.{ℕ, suc, ◌+◌, nat_lt, nat_eq, Bool, true, false, not, ◌&&◌, ◌||◌, List, [], ◌∷◌, ◌++◌, length, map, Option, None, Some, is_some, unwrap_or, slice_get, bytes_eq, if◌then◌else◌}
use Rattle.std.specs.List.{flat_map}
use Rattle.gd_model.specs.Datum as v
use Rattle.gd_model.specs.Datum.{Datum}
use Rattle.gd_syntax.specs.declared.pos.Pos.{Pos}
use Rattle.syntax_trees.specs.Expressions.{Expr, Text, expr, place}
use Rattle.syntax_trees.specs.Expressions as e
use Rattle.syntax_trees.specs.Patterns.{Entries, Pattern, PatternKind, Patterns, entry_and, key_and, no_entries, no_patterns, pattern, pattern_and}
use Rattle.syntax_trees.specs.Patterns as p
use Rattle.syntax_trees.specs.Statements.{Branches, branch_and, no_branches}
use Rattle.source_semantics.specs.Matching.{entry_count, has_more, has_rest, is_rest, item_count}
use Rattle.source_semantics.specs.Words.{same_place}
use Rattle.emitted_code.specs.Locals.{keys}
use Rattle.emitted_code.specs.Tables.{same_int}

-- ---- keys: of those that are the same literal, the first stands for all

abbrev pub literal : Expr → Option Datum
literal (expr at e.null) = Some v.null
literal (expr at (e.bool b)) = Some (v.bool b)
literal (expr at (e.int n)) = Some (v.int n)
literal (expr at (e.str t)) = Some (v.text t)
literal (expr at kind) = None

abbrev pub same_bool : Bool → Bool → Bool
same_bool a b = if a then b else not b

abbrev pub same_literal : Datum → Option Datum → Bool
same_literal v.null (Some v.null) = true
same_literal (v.bool a) (Some (v.bool b)) = same_bool a b
same_literal (v.int m) (Some (v.int n)) = same_int m n
same_literal (v.text t) (Some (v.text u)) = bytes_eq t u
same_literal x y = false

abbrev pub all_keys : Branches → List Expr
all_keys no_branches = []
all_keys (branch_and patterns guard body more) = flat_map keys patterns ++ all_keys more

abbrev pub first_of : Datum → Expr → List Expr → Expr
first_of x k [] = k
first_of x k (y ∷ ys) = if same_literal x (literal y) then y else first_of x k ys

abbrev pub key_of : List Expr → Expr → Expr
key_of all k = by_literal all k (literal k)
  where
    by_literal : List Expr → Expr → Option Datum → Expr
    by_literal all k None = k
    by_literal all k (Some x) = first_of x k all

-- ---- a part of the subject: the steps that lead to it

pub data Part : Type 0 where
  element : ℕ → Part
  value_at : Expr → Part

abbrev pub same_part : Part → Part → Bool
same_part (element i) (element k) = nat_eq i k
same_part (value_at k) (value_at l) = same_place (place k) (place l)
same_part x y = false

abbrev pub same_way : List Part → List Part → Bool
same_way [] [] = true
same_way (x ∷ xs) (y ∷ ys) = same_part x y && same_way xs ys
same_way xs ys = false

-- ---- tests

pub data Test : Type 0 where
  -- whether the part is an array, or else a dictionary
  is_kind : List Part → Bool → Test
  -- whether that has this size, or at least this size
  has_size : List Part → Bool → ℕ → Bool → Test
  has_key : List Part → Expr → Test
  -- whether it is what the expression gives
  equals : List Part → Expr → Test
  -- nothing is tested: the part gets a name
  binds : List Part → Text → Pos → Test

-- An array pattern tests no size where any will do.
abbrev pub size_of_items : List Part → ℕ → Bool → List Test
size_of_items way n more = if more && nat_eq n 0 then [] else has_size way true n more ∷ []

abbrev pub size_of_entries : List Part → ℕ → Bool → List Test
size_of_entries way n more = if more then [] else has_size way false n false ∷ []

-- kind and size come first, and then the parts in order: for an entry its key and then its value
abbrev mutual
  pub tests : List Expr → List Part → Pattern → List Test
  tests all way (pattern at kind) = tests_of all way at kind

  pub tests_of : List Expr → List Part → Pos → PatternKind → List Test
  tests_of all way at (p.value x) = equals way x ∷ []
  tests_of all way at (p.bind name) = binds way name at ∷ []
  tests_of all way at (p.items xs) =
      is_kind way true ∷ size_of_items way (item_count xs) (has_rest xs) ++ item_tests all way 0 xs
  tests_of all way at (p.entries xs rests) =
      is_kind way false ∷ size_of_entries way (entry_count xs) (has_more rests) ++ entry_tests all way xs
  tests_of all way at kind = []

  pub item_tests : List Expr → List Part → ℕ → Patterns → List Test
  item_tests all way i no_patterns = []
  item_tests all way i (pattern_and x xs) = tests all (way ++ element i ∷ []) x ++ item_tests all way (suc i) xs

  pub entry_tests : List Expr → List Part → Entries → List Test
  entry_tests all way no_entries = []
  entry_tests all way (key_and k xs) = has_key way (key_of all k) ∷ entry_tests all way xs
  entry_tests all way (entry_and k x xs) =
      has_key way (key_of all k) ∷ tests all (way ++ value_at (key_of all k) ∷ []) x ++ entry_tests all way xs

-- ---- the patterns of all branches, each with the numbers of its first test and of the node behind the tests of its branch

pub record Alternative : Type 0 where
  pub branch : ℕ
  pub tests : List Test
  pub first : ℕ
  pub behind : ℕ

-- Behind a pattern that tests nothing the branch is taken, and no later one of it is tried.
abbrev pub tried : List Expr → Bool → List Pattern → List (List Test)
tried all is_taken [] = []
tried all is_taken (x ∷ xs) =
    let own : List Test = if is_taken then [] else tests all [] x in own ∷ tried all (nat_eq (length own) 0) xs

abbrev pub count_tests : List (List Test) → ℕ
count_tests [] = 0
count_tests (xs ∷ more) = length xs + count_tests more

abbrev pub placed : ℕ → ℕ → ℕ → List (List Test) → List Alternative
placed branch first behind [] = []
placed branch first behind (xs ∷ more) =
    record { branch = branch; tests = xs; first = first; behind = behind } ∷ placed branch (first + length xs) behind more

-- how many nodes a branch has behind its tests
abbrev pub ends_in : Option Expr → ℕ
ends_in guard = if is_some guard then 2 else 1

abbrev pub alternatives : List Expr → ℕ → ℕ → Branches → List Alternative
alternatives all branch first no_branches = []
alternatives all branch first (branch_and patterns guard body more) =
    let own : List (List Test) = tried all false patterns in
    let behind : ℕ = first + count_tests own in
    placed branch first behind own ++ alternatives all (suc branch) (behind + ends_in guard) more

-- the number of the last node, the end without a branch
abbrev pub last_node : List Expr → ℕ → Branches → ℕ
last_node all first no_branches = first
last_node all first (branch_and patterns guard body more) =
    last_node all (first + count_tests (tried all false patterns) + ends_in guard) more

-- the node behind so many tests of an alternative
abbrev pub entry : Alternative → ℕ → ℕ
entry x n = if nat_lt n (length x.tests) then x.first + n else x.behind

-- where a branch begins, or the last node where there is none
abbrev pub begins : ℕ → ℕ → List Alternative → ℕ
begins last branch [] = last
begins last branch (x ∷ xs) = if nat_eq x.branch branch then entry x 0 else begins last branch xs

-- ---- where a test leads that fails

-- The tests of kinds, sizes and keys that stand first in a pattern lead it. Where the next pattern begins with the same,
-- what they gave is known there: where the one that failed is among them, that pattern fails too, and else they are
-- passed over. From the first expression or name on nothing is known, since an expression may change what was tested.
abbrev pub is_leading : Test → Bool
is_leading (is_kind way array) = true
is_leading (has_size way array n more) = true
is_leading (has_key way k) = true
is_leading test = false

abbrev pub same_test : Test → Test → Bool
same_test (is_kind x a) (is_kind y b) = same_way x y && same_bool a b
same_test (has_size x a m more) (has_size y b n also) =
    same_way x y && (same_bool a b && (nat_eq m n && same_bool more also))
same_test (has_key x k) (has_key y l) = same_way x y && same_place (place k) (place l)
same_test x y = false

abbrev pub shared : List Test → List Test → ℕ
shared [] ys = 0
shared (x ∷ xs) [] = 0
shared (x ∷ xs) (y ∷ ys) = if same_test x y then suc (shared xs ys) else 0

abbrev pub number_at : List ℕ → ℕ → ℕ
number_at xs i = unwrap_or (slice_get xs i) 0

-- of the tests from a place on, by the next alternative, how many it shares, and where its own lead
abbrev pub failures_from : Alternative → ℕ → List ℕ → Bool → ℕ → List Test → List ℕ
failures_from next n known leads i [] = []
failures_from next n known leads i (x ∷ xs) =
    let leading : Bool = leads && is_leading x in
    (if leading then (if nat_lt i n then number_at known i else entry next n) else entry next 0)
    ∷ failures_from next n known leading (suc i) xs

abbrev pub first_list : List (List ℕ) → List ℕ
first_list [] = []
first_list (x ∷ xs) = x

abbrev pub failures_of : ℕ → Alternative → List Alternative → List (List ℕ) → List ℕ
failures_of last x [] known = map (λ t. last) x.tests
failures_of last x (next ∷ more) known =
    failures_from next (shared x.tests next.tests) (first_list known) true 0 x.tests

-- for each alternative where its tests lead
abbrev pub failures : ℕ → List Alternative → List (List ℕ)
failures last [] = []
failures last (x ∷ xs) = let later : List (List ℕ) = failures last xs in failures_of last x xs later ∷ later

-- ---- the nodes that test

-- A test with the number of its node and of those for yes and for no.
pub record Node : Type 0 where
  pub branch : ℕ
  pub test : Test
  pub number : ℕ
  pub if_so : ℕ
  pub if_not : ℕ

abbrev pub nodes_from : Alternative → ℕ → List Test → List ℕ → List Node
nodes_from x i [] others = []
nodes_from x i (t ∷ ts) [] = []
nodes_from x i (t ∷ ts) (other ∷ others) =
    record { branch = x.branch; test = t; number = x.first + i; if_so = entry x (suc i); if_not = other }
    ∷ nodes_from x (suc i) ts others

abbrev pub nodes : List Alternative → List (List ℕ) → List Node
nodes [] others = []
nodes (x ∷ xs) [] = []
nodes (x ∷ xs) (other ∷ others) = nodes_from x 0 x.tests other ++ nodes xs others
