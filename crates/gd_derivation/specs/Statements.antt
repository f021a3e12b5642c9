-- Which tokens are which statement, block, variable and annotation.
use Rattle.std.specs.Prelude.{◌≡◌, ◌≢◌, ℕ, Bool, true, false, List, [], ◌∷◌, ◌++◌, length, Option, Some, None, codes}
use Rattle.gd_syntax.specs.declared.pos.Pos.{Pos}
use Rattle.gd_syntax.specs.declared.token.Token.{Token}
use Rattle.gd_syntax.specs.declared.token.TokenKind.TheVariants as kind
use Rattle.gd_syntax.specs.declared.token.Keyword.TheVariants as word
use Rattle.gd_syntax.specs.declared.token.Mark.{Mark}
use Rattle.gd_syntax.specs.declared.token.Mark.TheVariants as mark
use Rattle.gd_syntax.specs.declared.operator.Operator.{Operator}
use Rattle.gd_syntax.specs.declared.operator.Operator.TheVariants as op
use Rattle.gd_syntax.specs.declared.tree.expr.Expr.{Expr}
use Rattle.gd_syntax.specs.declared.tree.expr.TypeName.{TypeName}
use Rattle.gd_syntax.specs.declared.tree.stmt.Note.{Note}
use Rattle.gd_syntax.specs.declared.tree.stmt.Stmt.{Stmt, roll-Stmt}
use Rattle.gd_syntax.specs.declared.tree.stmt.StmtKind.{StmtKind}
use Rattle.gd_syntax.specs.declared.tree.stmt.StmtKind.TheVariants as s
use Rattle.gd_syntax.specs.declared.tree.stmt.Branch.{Branch, roll-Branch}
use Rattle.gd_syntax.specs.declared.tree.stmt.Pattern.{Pattern}
use Rattle.gd_syntax.specs.declared.tree.stmt.VarDecl.{VarDecl, roll-VarDecl}
use Rattle.gd_derivation.specs.Tokens.{Text, word, mark, name, newline, indent, dedent, last_place}
use Rattle.gd_derivation.specs.Expressions.{Derives, whole, listed, type}
use Rattle.gd_derivation.specs.Patterns.{DerivesPattern, pattern}

-- ---- annotations

pub data IsNote : List Token → Note → Type 0 where
  bare : (p q : Pos) (t : Text) → IsNote (mark mark.At p ∷ name t q ∷ []) (record { pos = p; name = t; args = [] })
  with_arguments : (p q l r : Pos) (t : Text) (a : List Token) (xs : List Expr) → Derives (listed whole) a xs
      → IsNote (mark mark.At p ∷ name t q ∷ mark mark.LeftParen l ∷ a ++ mark mark.RightParen r ∷ [])
      (record { pos = p; name = t; args = xs })

-- {note}, each with a line end behind it or none
pub data AreNotes : List Token → List Note → Type 0 where
  none : AreNotes [] []
  one_more : (a b : List Token) (n : Note) (ns : List Note) → IsNote a n → AreNotes b ns → AreNotes (a ++ b) (n ∷ ns)
  on_its_line : (p : Pos) (a b : List Token) (n : Note) (ns : List Note) → IsNote a n → AreNotes b ns
      → AreNotes (a ++ newline p ∷ b) (n ∷ ns)

-- `t` may stand behind these annotations: a `(` behind an annotation's name begins its arguments, and no statement
pub data MayFollow : List Token → Token → Type 0 where
  no_annotation : (t : Token) → MayFollow [] t
  other : (a : List Token) (t : Token) → t.kind ≢ kind.Mark mark.LeftParen → MayFollow a t
  behind_line : (a : List Token) (p : Pos) (t : Token) → MayFollow (a ++ newline p ∷ []) t
  behind_arguments : (a : List Token) (p : Pos) (t : Token) → MayFollow (a ++ mark mark.RightParen p ∷ []) t

-- ---- variables

-- what stands after a name: a type, whether it is inferred, the place of `=`, the value, and the number of its tokens
pub record Init : Type 0 where
  pub typed : Option TypeName
  pub inferred : Bool
  pub equals : Option Pos
  pub value : Option Expr
  pub tokens : ℕ

pub data IsInit : List Token → Init → Type 0 where
  nothing : IsInit [] (record { typed = None; inferred = false; equals = None; value = None; tokens = 0 })
  typed : (c : Pos) (a : List Token) (t : TypeName) → Derives type a t
      → IsInit (mark mark.Colon c ∷ a) (record { typed = Some t; inferred = false; equals = None; value = None; tokens = 0 })
  valued : (q : Pos) (a : List Token) (x : Expr) → Derives whole a x
      → IsInit (mark mark.Equal q ∷ a)
      (record { typed = None; inferred = false; equals = Some q; value = Some x; tokens = length a })
  typed_and_valued : (c q : Pos) (a b : List Token) (t : TypeName) (x : Expr) → Derives type a t → Derives whole b x
      → IsInit (mark mark.Colon c ∷ a ++ mark mark.Equal q ∷ b)
      (record { typed = Some t; inferred = false; equals = Some q; value = Some x; tokens = length b })
  inferred : (c q : Pos) (a : List Token) (x : Expr) → Derives whole a x
      → IsInit (mark mark.Colon c ∷ mark mark.Equal q ∷ a)
      (record { typed = None; inferred = true; equals = Some q; value = Some x; tokens = length a })

-- after a variable's `:` the names `set` and `get` are no types
pub data HasNoAccessor : List Token → Type 0 where
  empty : HasNoAccessor []
  single : (t : Token) → HasNoAccessor (t ∷ [])
  by_first : (t u : Token) (ts : List Token) → t.kind ≢ kind.Mark mark.Colon → HasNoAccessor (t ∷ u ∷ ts)
  by_second : (t u : Token) (ts : List Token) → u.kind ≢ kind.Word (codes "set") → u.kind ≢ kind.Word (codes "get")
      → HasNoAccessor (t ∷ u ∷ ts)

abbrev pub declared : Text → Pos → Init → VarDecl
declared t p i = roll-VarDecl (record { name = t; pos = p; is_static = false; typed = i.typed; inferred = i.inferred; equals = i.equals; value = i.value; setter = None; getter = None })

-- NAME init, for a variable of a block, a constant and a parameter
pub data IsVariable : List Token → VarDecl → Type 0 where
  variable : (p : Pos) (t : Text) (a : List Token) (i : Init) → IsInit a i → HasNoAccessor a
      → IsVariable (name t p ∷ a) (declared t p i)

pub data IsConstant : List Token → VarDecl → Type 0 where
  constant : (p q : Pos) (t : Text) (a : List Token) (i : Init) → IsInit a i → i.equals ≡ Some q
      → IsConstant (name t p ∷ a) (declared t p i)

pub data IsParameter : List Token → VarDecl → Type 0 where
  parameter : (p : Pos) (t : Text) (a : List Token) (i : Init) → IsInit a i → IsParameter (name t p ∷ a) (declared t p i)

-- ---- statements that hold no block

pub data Assigns : Mark → Option Operator → Type 0 where
  plain : Assigns mark.Equal None
  add : Assigns mark.PlusEqual (Some op.Add)
  subtract : Assigns mark.MinusEqual (Some op.Subtract)
  multiply : Assigns mark.StarEqual (Some op.Multiply)
  divide : Assigns mark.SlashEqual (Some op.Divide)
  remainder : Assigns mark.PercentEqual (Some op.Remainder)
  power : Assigns mark.StarStarEqual (Some op.Power)
  shift_left : Assigns mark.ShiftLeftEqual (Some op.ShiftLeft)
  shift_right : Assigns mark.ShiftRightEqual (Some op.ShiftRight)
  bit_and : Assigns mark.AmpersandEqual (Some op.BitAnd)
  bit_or : Assigns mark.BarEqual (Some op.BitOr)
  bit_xor : Assigns mark.CaretEqual (Some op.BitXor)

-- a comma or nothing
pub data IsCommaOrNone : List Token → Type 0 where
  none : IsCommaOrNone []
  comma : (p : Pos) → IsCommaOrNone (mark mark.Comma p ∷ [])

pub data IsSimple : List Token → StmtKind → Type 0 where
  pass : (p : Pos) → IsSimple (word word.Pass p ∷ []) s.Pass
  break : (p : Pos) → IsSimple (word word.Break p ∷ []) s.Break
  continue : (p : Pos) → IsSimple (word word.Continue p ∷ []) s.Continue
  return : (p : Pos) → IsSimple (word word.Return p ∷ []) (s.Return None)
  return_value : (p : Pos) (a : List Token) (x : Expr) → Derives whole a x
      → IsSimple (word word.Return p ∷ a) (s.Return (Some x))
  local : (p : Pos) (a : List Token) (v : VarDecl) → IsVariable a v → IsSimple (word word.Var p ∷ a) (s.Local v)
  constant : (p : Pos) (a : List Token) (v : VarDecl) → IsConstant a v → IsSimple (word word.Const p ∷ a) (s.LocalConst v)
  assert : (p l r : Pos) (a c : List Token) (x : Expr) → Derives whole a x → IsCommaOrNone c
      → IsSimple (word word.Assert p ∷ mark mark.LeftParen l ∷ a ++ c ++ mark mark.RightParen r ∷ []) (s.Assert x None)
  assert_and_say : (p l m r : Pos) (a b c : List Token) (x y : Expr) → Derives whole a x → Derives whole b y → IsCommaOrNone c
      → IsSimple (word word.Assert p ∷ mark mark.LeftParen l ∷ a ++ mark mark.Comma m ∷ b ++ c ++ mark mark.RightParen r ∷ [])
      (s.Assert x (Some y))
  plain : (a : List Token) (x : Expr) → Derives whole a x → IsSimple a (s.Plain x)
  assign : (p : Pos) (m : Mark) (o : Option Operator) (a b : List Token) (x y : Expr) → Assigns m o
      → Derives whole a x → Derives whole b y → IsSimple (a ++ mark m p ∷ b) (s.Assign o p x y)

-- end = NL | ";" [NL]
pub data IsEnd : List Token → Type 0 where
  line : (p : Pos) → IsEnd (newline p ∷ [])
  semicolon : (p : Pos) → IsEnd (mark mark.Semicolon p ∷ [])
  semicolon_and_line : (p q : Pos) → IsEnd (mark mark.Semicolon p ∷ newline q ∷ [])

-- ---- statements and blocks

pub data Part : Type 0 where
  -- a block behind its `:`; statements of an indented one; simple statements on one line
  block : Part
  statements : Part
  line : Part
  statement : Part
  -- a statement without its annotations
  body : Part
  -- expr ":" block, and each such clause behind `elif`
  guarded : Part
  clauses : Part
  branch : Part
  branches : Part

abbrev pub Tree : Part → Type 0
Tree block = List Stmt
Tree statements = List Stmt
Tree line = List Stmt
Tree statement = Stmt
Tree body = StmtKind
Tree guarded = Expr × List Stmt
Tree clauses = List (Expr × List Stmt)
Tree branch = Branch
Tree branches = List Branch

-- a statement of the tokens `t ∷ ts`, behind its annotations
abbrev pub at : Token → List Token → List Note → StmtKind → Stmt
at t ts ns k = roll-Stmt (record { pos = t.pos; last = last_place t.pos ts; notes = ns; kind = k })

-- [":" type] of a loop's variable
pub data IsLoopType : List Token → Option TypeName → Type 0 where
  none : IsLoopType [] None
  typed : (p : Pos) (a : List Token) (t : TypeName) → Derives type a t → IsLoopType (mark mark.Colon p ∷ a) (Some t)

-- pat {"," pat}
pub data ArePatterns : List Token → List Pattern → Type 0 where
  only : (a : List Token) (x : Pattern) → DerivesPattern pattern a x → ArePatterns a (x ∷ [])
  more : (p : Pos) (a b : List Token) (x : Pattern) (xs : List Pattern) → DerivesPattern pattern a x → ArePatterns b xs
      → ArePatterns (a ++ mark mark.Comma p ∷ b) (x ∷ xs)

-- ["when" expr]
pub data IsGuard : List Token → Option Expr → Type 0 where
  none : IsGuard [] None
  guard : (p : Pos) (a : List Token) (x : Expr) → Derives whole a x → IsGuard (word word.When p ∷ a) (Some x)

pub data DerivesStatement : (x : Part) → List Token → Tree x → Type 0 where
  indented : (p q r : Pos) (a : List Token) (xs : List Stmt) → DerivesStatement statements a xs
      → DerivesStatement block (newline p ∷ indent q ∷ a ++ dedent r ∷ []) xs
  one_line : (p : Pos) (a : List Token) (xs : List Stmt) → DerivesStatement line a xs → DerivesStatement block (a ++ newline p ∷ []) xs
  one_line_and_semicolon : (p q : Pos) (a : List Token) (xs : List Stmt) → DerivesStatement line a xs
      → DerivesStatement block (a ++ mark mark.Semicolon q ∷ newline p ∷ []) xs
  last_in_line : (t : Token) (ts : List Token) (k : StmtKind) → IsSimple (t ∷ ts) k
      → DerivesStatement line (t ∷ ts) (at t ts [] k ∷ [])
  more_in_line : (p : Pos) (t : Token) (ts b : List Token) (k : StmtKind) (xs : List Stmt) → IsSimple (t ∷ ts) k
      → DerivesStatement line b xs → DerivesStatement line (t ∷ ts ++ mark mark.Semicolon p ∷ b) (at t ts [] k ∷ xs)
  last_statement : (a : List Token) (x : Stmt) → DerivesStatement statement a x → DerivesStatement statements a (x ∷ [])
  more_statements : (a b : List Token) (x : Stmt) (xs : List Stmt) → DerivesStatement statement a x
      → DerivesStatement statements b xs → DerivesStatement statements (a ++ b) (x ∷ xs)
  noted : (t : Token) (a ts : List Token) (ns : List Note) (k : StmtKind) → AreNotes a ns → MayFollow a t → DerivesStatement body (t ∷ ts) k
      → DerivesStatement statement (a ++ t ∷ ts) (at t ts ns k)
  simple : (a b : List Token) (k : StmtKind) → IsSimple a k → IsEnd b → DerivesStatement body (a ++ b) k
  is_if : (p : Pos) (a b : List Token) (x : Expr × List Stmt) (xs : List (Expr × List Stmt)) → DerivesStatement guarded a x
      → DerivesStatement clauses b xs → DerivesStatement body (word word.If p ∷ a ++ b) (s.If (x ∷ xs) None)
  is_if_else : (p q r : Pos) (a b c : List Token) (x : Expr × List Stmt) (xs : List (Expr × List Stmt)) (ys : List Stmt)
      → DerivesStatement guarded a x → DerivesStatement clauses b xs → DerivesStatement block c ys
      → DerivesStatement body (word word.If p ∷ a ++ b ++ word word.Else q ∷ mark mark.Colon r ∷ c) (s.If (x ∷ xs) (Some ys))
  is_while : (p : Pos) (a : List Token) (x : Expr × List Stmt) → DerivesStatement guarded a x
      → DerivesStatement body (word word.While p ∷ a) (s.While x.0 x.1)
  is_for : (p q r : Pos) (n : Text) (a b : List Token) (t : Option TypeName) (x : Expr × List Stmt) → IsLoopType a t
      → DerivesStatement guarded b x
      → DerivesStatement body (word word.For p ∷ name n q ∷ a ++ word word.In r ∷ b) (s.For n q t r x.0 x.1)
  is_match : (p c n i d : Pos) (a b : List Token) (x : Expr) (xs : List Branch) → Derives whole a x → DerivesStatement branches b xs
      → DerivesStatement body (word word.Match p ∷ a ++ mark mark.Colon c ∷ newline n ∷ indent i ∷ b ++ dedent d ∷ []) (s.Match x xs)
  is_guarded : (p : Pos) (a b : List Token) (x : Expr) (xs : List Stmt) → Derives whole a x → DerivesStatement block b xs
      → DerivesStatement guarded (a ++ mark mark.Colon p ∷ b) (x, xs)
  no_clauses : DerivesStatement clauses [] []
  more_clauses : (p : Pos) (a b : List Token) (x : Expr × List Stmt) (xs : List (Expr × List Stmt)) → DerivesStatement guarded a x
      → DerivesStatement clauses b xs → DerivesStatement clauses (word word.Elif p ∷ a ++ b) (x ∷ xs)
  is_branch : (p : Pos) (a b c : List Token) (xs : List Pattern) (g : Option Expr) (ys : List Stmt) → ArePatterns a xs → IsGuard b g
      → DerivesStatement block c ys
      → DerivesStatement branch (a ++ b ++ mark mark.Colon p ∷ c) (roll-Branch (record { patterns = xs; guard = g; body = ys }))
  last_branch : (a : List Token) (x : Branch) → DerivesStatement branch a x → DerivesStatement branches a (x ∷ [])
  more_branches : (a b : List Token) (x : Branch) (xs : List Branch) → DerivesStatement branch a x → DerivesStatement branches b xs
      → DerivesStatement branches (a ++ b) (x ∷ xs)
