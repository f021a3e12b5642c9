-- Which tokens are which expression or written type: a case for each form of the grammar
-- (docs/language.md, "Grammar"). It speaks of whole lists, and not of how they are found.
use Rattle.std.specs.Prelude.{ℕ, ℤ, suc, true, false, List, [], ◌∷◌, ◌++◌, Some, None}
use Rattle.gd_syntax.specs.declared.pos.Pos.{Pos}
use Rattle.gd_syntax.specs.declared.token.Token.{Token}
use Rattle.gd_syntax.specs.declared.token.TokenKind.{TokenKind}
use Rattle.gd_syntax.specs.declared.token.TokenKind.TheVariants.{Word, Number, Quoted}
use Rattle.gd_syntax.specs.declared.token.TokenKind.TheVariants as kind
use Rattle.gd_syntax.specs.declared.token.Keyword.TheVariants as word
use Rattle.gd_syntax.specs.declared.token.Mark.{Mark}
use Rattle.gd_syntax.specs.declared.token.Mark.TheVariants as mark
use Rattle.gd_syntax.specs.declared.operator.Operator.{Operator}
use Rattle.gd_syntax.specs.declared.operator.Operator.TheVariants as op
use Rattle.gd_syntax.specs.declared.tree.expr.Expr.{Expr, roll-Expr, out-Expr}
use Rattle.gd_syntax.specs.declared.tree.expr.ExprKind.{ExprKind, out-ExprKind}
use Rattle.gd_syntax.specs.declared.tree.expr.ExprKind.TheOpen.{ExprKind-F}
use Rattle.gd_syntax.specs.declared.tree.expr.ExprKind.TheVariants as e
use Rattle.gd_syntax.specs.declared.tree.expr.TypeName.{TypeName, roll-TypeName}
use Rattle.gd_derivation.specs.Tokens.{Text, word, mark, name, text}

abbrev pub expr : Pos → ExprKind → Expr
expr p k = roll-Expr (record { pos = p; kind = k })

-- ---- operators

-- the operators of two operands, with their levels of the table but for `**`, `in`, `not in`, `and` and `or`
pub data Binds : Mark → ℕ → Operator → Type 0 where
  multiply : Binds mark.Star 6 op.Multiply
  divide : Binds mark.Slash 6 op.Divide
  remainder : Binds mark.Percent 6 op.Remainder
  add : Binds mark.Plus 7 op.Add
  subtract : Binds mark.Minus 7 op.Subtract
  shift_left : Binds mark.ShiftLeft 8 op.ShiftLeft
  shift_right : Binds mark.ShiftRight 8 op.ShiftRight
  bit_and : Binds mark.Ampersand 9 op.BitAnd
  bit_xor : Binds mark.Caret 10 op.BitXor
  bit_or : Binds mark.Bar 11 op.BitOr
  equal : Binds mark.EqualEqual 12 op.Equal
  not_equal : Binds mark.BangEqual 12 op.NotEqual
  less : Binds mark.Less 12 op.Less
  less_equal : Binds mark.LessEqual 12 op.LessEqual
  greater : Binds mark.Greater 12 op.Greater
  greater_equal : Binds mark.GreaterEqual 12 op.GreaterEqual

-- the signs before an operand
pub data Signs : Mark → Operator → Type 0 where
  complement : Signs mark.Tilde op.Complement
  plus : Signs mark.Plus op.Plus
  negate : Signs mark.Minus op.Negate

-- the spellings of `not`, `and` and `or`
pub data IsNot : TokenKind → Type 0 where
  by_word : IsNot (kind.Keyword word.Not)
  by_mark : IsNot (kind.Mark mark.Bang)

pub data IsAnd : TokenKind → Type 0 where
  by_word : IsAnd (kind.Keyword word.And)
  by_mark : IsAnd (kind.Mark mark.AndAnd)

pub data IsOr : TokenKind → Type 0 where
  by_word : IsOr (kind.Keyword word.Or)
  by_mark : IsOr (kind.Mark mark.OrOr)

-- ---- parts

-- the parts of an expression
pub data Part : Type 0 where
  -- an expression of this level or a tighter one, with its first token's place, parentheses aside
  level : ℕ → Part
  -- the right operand of `**`
  exponent : Part
  -- any expression
  whole : Part
  -- a key and a value, in the form `key: value` or `NAME = value`
  pair : Part
  named_pair : Part
  -- what stands in list(x), and in [list(x)]
  list : Part → Part
  listed : Part → Part
  -- NAME {"." NAME}
  names : Part
  type : Part
  -- ["[" type ["," type] "]"]
  elements : Part

abbrev pub Tree : Part → Type 0
Tree (level _) = Expr × Pos
Tree exponent = Expr × Pos
Tree whole = Expr
Tree pair = Expr × Expr
Tree named_pair = Expr × Expr
Tree (list x) = List (Tree x)
Tree (listed x) = List (Tree x)
Tree names = List Text
Tree type = TypeName
Tree elements = List TypeName

-- where a call stands: at the name of what is called, or at its first token where it has none
abbrev pub call_place_by : ExprKind-F ExprKind Expr → Pos → Pos → Pos
call_place_by (ExprKind-F.Name _) own _ = own
call_place_by (ExprKind-F.Attr _ _) own _ = own
call_place_by _ _ first = first

abbrev pub call_place : Expr × Pos → Pos
call_place c = call_place_by (out-ExprKind (out-Expr c.0).kind) (out-Expr c.0).pos c.1

-- ---- derivations

pub data Derives : (x : Part) → List Token → Tree x → Type 0 where
  -- level 1
  is_null : (p : Pos) → Derives (level 1) (word word.Null p ∷ []) (expr p e.Null, p)
  is_true : (p : Pos) → Derives (level 1) (word word.True p ∷ []) (expr p (e.Bool true), p)
  is_false : (p : Pos) → Derives (level 1) (word word.False p ∷ []) (expr p (e.Bool false), p)
  is_number : (p : Pos) (n : ℤ) → Derives (level 1) (record { pos = p; kind = Number n } ∷ []) (expr p (e.Int n), p)
  is_string : (p : Pos) (t : Text) → Derives (level 1) (text t p ∷ []) (expr p (e.Str t), p)
  is_name : (p : Pos) (t : Text) → Derives (level 1) (name t p ∷ []) (expr p (e.Name t), p)
  is_self : (p : Pos) → Derives (level 1) (word word.SelfValue p ∷ []) (expr p e.Me, p)
  in_parentheses : (p q : Pos) (s : List Token) (x : Expr × Pos) → Derives (level 18) s x
      → Derives (level 1) (mark mark.LeftParen p ∷ s ++ mark mark.RightParen q ∷ []) x
  is_array : (p q : Pos) (s : List Token) (xs : List Expr) → Derives (listed whole) s xs
      → Derives (level 1) (mark mark.LeftBracket p ∷ s ++ mark mark.RightBracket q ∷ []) (expr p (e.ArrayLit xs), p)
  is_dictionary : (p q : Pos) (s : List Token) (xs : List (Expr × Expr)) → Derives (listed pair) s xs
      → Derives (level 1) (mark mark.LeftBrace p ∷ s ++ mark mark.RightBrace q ∷ []) (expr p (e.DictLit xs), p)
  is_named_dictionary : (p q : Pos) (s : List Token) (xs : List (Expr × Expr)) → Derives (list named_pair) s xs
      → Derives (level 1) (mark mark.LeftBrace p ∷ s ++ mark mark.RightBrace q ∷ []) (expr p (e.DictLit xs), p)
  is_super : (p q r : Pos) (s : List Token) (xs : List Expr) → Derives (listed whole) s xs
      → Derives (level 1) (word word.Super p ∷ mark mark.LeftParen q ∷ s ++ mark mark.RightParen r ∷ [])
      (expr p (e.Super p None xs), p)
  is_super_of : (p d n q r : Pos) (t : Text) (s : List Token) (xs : List Expr) → Derives (listed whole) s xs
      → Derives (level 1)
      (word word.Super p ∷ mark mark.Dot d ∷ name t n ∷ mark mark.LeftParen q ∷ s ++ mark mark.RightParen r ∷ [])
      (expr n (e.Super p (Some t) xs), p)
  is_preload : (p q r u : Pos) (t : Text)
      → Derives (level 1) (word word.Preload p ∷ mark mark.LeftParen q ∷ text t r ∷ mark mark.RightParen u ∷ [])
      (expr p (e.Preload t), p)
  -- each level holds the one before it, but for that of `not`
  tighter : (n : ℕ) (s : List Token) (x : Expr × Pos) → Derives (level n) s x → Derives (level (suc n)) s x
  -- level 2
  attribute : (p d : Pos) (t : Text) (s : List Token) (x : Expr × Pos) → Derives (level 2) s x
      → Derives (level 2) (s ++ mark mark.Dot d ∷ name t p ∷ []) (expr p (e.Attr x.0 t), x.1)
  subscript : (p q : Pos) (s t : List Token) (x : Expr × Pos) (i : Expr) → Derives (level 2) s x → Derives whole t i
      → Derives (level 2) (s ++ mark mark.LeftBracket p ∷ t ++ mark mark.RightBracket q ∷ []) (expr p (e.Index x.0 i), x.1)
  call : (p q : Pos) (s t : List Token) (x : Expr × Pos) (xs : List Expr) → Derives (level 2) s x → Derives (listed whole) t xs
      → Derives (level 2) (s ++ mark mark.LeftParen p ∷ t ++ mark mark.RightParen q ∷ [])
      (expr (call_place x) (e.Call x.0 xs), x.1)
  -- level 3
  test : (p : Pos) (s t : List Token) (x : Expr × Pos) (y : TypeName) → Derives (level 3) s x → Derives type t y
      → Derives (level 3) (s ++ word word.Is p ∷ t) (expr p (e.Test x.0 y false), x.1)
  test_not : (p q : Pos) (s t : List Token) (x : Expr × Pos) (y : TypeName) → Derives (level 3) s x → Derives type t y
      → Derives (level 3) (s ++ word word.Is p ∷ word word.Not q ∷ t) (expr p (e.Test x.0 y true), x.1)
  -- levels 4 and 5
  power : (p : Pos) (s t : List Token) (x y : Expr × Pos) → Derives (level 4) s x → Derives exponent t y
      → Derives (level 4) (s ++ mark mark.StarStar p ∷ t) (expr p (e.Binary op.Power x.0 y.0), x.1)
  plain_exponent : (s : List Token) (x : Expr × Pos) → Derives (level 3) s x → Derives exponent s x
  signed_exponent : (p : Pos) (m : Mark) (o : Operator) (s : List Token) (x : Expr × Pos) → Signs m o → Derives exponent s x
      → Derives exponent (mark m p ∷ s) (expr p (e.Unary o x.0), p)
  signed : (p : Pos) (m : Mark) (o : Operator) (s : List Token) (x : Expr × Pos) → Signs m o → Derives (level 5) s x
      → Derives (level 5) (mark m p ∷ s) (expr p (e.Unary o x.0), p)
  -- levels 6 to 13
  binary : (n : ℕ) (p : Pos) (m : Mark) (o : Operator) (s t : List Token) (x y : Expr × Pos) → Binds m (suc n) o
      → Derives (level (suc n)) s x → Derives (level n) t y
      → Derives (level (suc n)) (s ++ mark m p ∷ t) (expr p (e.Binary o x.0 y.0), x.1)
  member : (p : Pos) (s t : List Token) (x y : Expr × Pos) → Derives (level 13) s x → Derives (level 12) t y
      → Derives (level 13) (s ++ word word.In p ∷ t) (expr p (e.Binary op.In x.0 y.0), x.1)
  no_member : (p q : Pos) (s t : List Token) (x y : Expr × Pos) → Derives (level 13) s x → Derives (level 12) t y
      → Derives (level 13) (s ++ word word.Not p ∷ word word.In q ∷ t) (expr p (e.Binary op.NotIn x.0 y.0), x.1)
  -- levels 14 to 16
  negation : (p : Pos) (k : TokenKind) (s : List Token) (x : Expr × Pos) → IsNot k → Derives (level 14) s x
      → Derives (level 14) (record { pos = p; kind = k } ∷ s) (expr p (e.Unary op.Not x.0), p)
  conjunction : (p : Pos) (k : TokenKind) (s t : List Token) (x y : Expr × Pos) → IsAnd k
      → Derives (level 15) s x → Derives (level 14) t y
      → Derives (level 15) (s ++ record { pos = p; kind = k } ∷ t) (expr p (e.And x.0 y.0), x.1)
  disjunction : (p : Pos) (k : TokenKind) (s t : List Token) (x y : Expr × Pos) → IsOr k
      → Derives (level 16) s x → Derives (level 15) t y
      → Derives (level 16) (s ++ record { pos = p; kind = k } ∷ t) (expr p (e.Or x.0 y.0), x.1)
  -- levels 17 and 18
  choice : (p q : Pos) (s t u : List Token) (x c y : Expr × Pos)
      → Derives (level 16) s x → Derives (level 16) t c → Derives (level 17) u y
      → Derives (level 17) (s ++ word word.If p ∷ t ++ word word.Else q ∷ u) (expr p (e.Choose x.0 c.0 y.0), x.1)
  cast : (p : Pos) (s t : List Token) (x : Expr × Pos) (y : TypeName) → Derives (level 18) s x → Derives type t y
      → Derives (level 18) (s ++ word word.As p ∷ t) (expr p (e.Cast x.0 y), x.1)
  any : (s : List Token) (x : Expr × Pos) → Derives (level 18) s x → Derives whole s x.0
  -- pairs of a dictionary
  is_pair : (p : Pos) (s t : List Token) (x y : Expr) → Derives whole s x → Derives whole t y
      → Derives pair (s ++ mark mark.Colon p ∷ t) (x, y)
  is_named_pair : (p q : Pos) (k : Text) (t : List Token) (y : Expr) → Derives whole t y
      → Derives named_pair (name k p ∷ mark mark.Equal q ∷ t) (expr p (e.Str k), y)
  -- lists, where a comma may stand last
  only : (x : Part) (s : List Token) (y : Tree x) → Derives x s y → Derives (list x) s (y ∷ [])
  only_and_comma : (x : Part) (p : Pos) (s : List Token) (y : Tree x) → Derives x s y
      → Derives (list x) (s ++ mark mark.Comma p ∷ []) (y ∷ [])
  more : (x : Part) (p : Pos) (s t : List Token) (y : Tree x) (ys : List (Tree x)) → Derives x s y → Derives (list x) t ys
      → Derives (list x) (s ++ mark mark.Comma p ∷ t) (y ∷ ys)
  no_items : (x : Part) → Derives (listed x) [] []
  items : (x : Part) (s : List Token) (ys : List (Tree x)) → Derives (list x) s ys → Derives (listed x) s ys
  -- written types
  name_alone : (p : Pos) (t : Text) → Derives names (name t p ∷ []) (t ∷ [])
  name_behind : (p d : Pos) (t : Text) (s : List Token) (ts : List Text) → Derives names s ts
      → Derives names (name t p ∷ mark mark.Dot d ∷ s) (t ∷ ts)
  is_type : (p : Pos) (t : Text) (s u : List Token) (ts : List Text) (xs : List TypeName)
      → Derives names (name t p ∷ s) ts → Derives elements u xs
      → Derives type (name t p ∷ s ++ u) (roll-TypeName (record { pos = p; names = ts; is_void = false; elements = xs }))
  no_elements : Derives elements [] []
  one_element : (p q : Pos) (s : List Token) (x : TypeName) → Derives type s x
      → Derives elements (mark mark.LeftBracket p ∷ s ++ mark mark.RightBracket q ∷ []) (x ∷ [])
  two_elements : (p q r : Pos) (s t : List Token) (x y : TypeName) → Derives type s x → Derives type t y
      → Derives elements (mark mark.LeftBracket p ∷ s ++ mark mark.Comma q ∷ t ++ mark mark.RightBracket r ∷ []) (x ∷ y ∷ [])
