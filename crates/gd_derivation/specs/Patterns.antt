-- Which tokens are which pattern.
use Rattle.std.specs.Prelude.{◌≢◌, ℕ, ◌+◌, List, [], ◌∷◌, ◌++◌, Option, Some, None, length, map, codes}
use Rattle.gd_syntax.specs.declared.pos.Pos.{Pos}
use Rattle.gd_syntax.specs.declared.token.Token.{Token}
use Rattle.gd_syntax.specs.declared.token.TokenKind.TheVariants as kind
use Rattle.gd_syntax.specs.declared.token.Keyword.TheVariants as word
use Rattle.gd_syntax.specs.declared.token.Mark.TheVariants as mark
use Rattle.gd_syntax.specs.declared.tree.expr.Expr.{Expr}
use Rattle.gd_syntax.specs.declared.tree.stmt.Pattern.{Pattern, roll-Pattern}
use Rattle.gd_syntax.specs.declared.tree.stmt.PatternKind.{PatternKind}
use Rattle.gd_syntax.specs.declared.tree.stmt.PatternKind.TheVariants as p
use Rattle.gd_derivation.specs.Tokens.{Text, word, mark, name}
use Rattle.gd_derivation.specs.Expressions.{Derives, whole}

pub data Part : Type 0 where
  pattern : Part
  -- an item of an array pattern, and the items
  item : Part
  list : Part
  listed : Part
  -- an entry of a dictionary pattern, and the entries
  entry : Part
  entries : Part

-- the pairs of a dictionary pattern, and the position and place of each `..`
pub record Entries : Type 0 where
  pub pairs : List (Expr × Option Pattern)
  pub rests : List (ℕ × Pos)

-- these entries, and those after them
abbrev pub joined : Entries → Entries → Entries
joined a b = record { pairs = a.pairs ++ b.pairs; rests = a.rests ++ map (λ r. (r.0 + length a.pairs, r.1)) b.rests }

abbrev pub Tree : Part → Type 0
Tree pattern = Pattern
Tree item = Pattern
Tree list = List Pattern
Tree listed = List Pattern
Tree entry = Entries
Tree entries = Entries

abbrev pub at : Pos → PatternKind → Pattern
at q k = roll-Pattern (record { pos = q; kind = k })

-- the tokens of an expression that is a pattern: they are not `_` alone, and begin with no `[` and no `{`
pub data IsExpression : List Token → Type 0 where
  by_first : (t : Token) (ts : List Token) → t.kind ≢ kind.Mark mark.LeftBracket → t.kind ≢ kind.Mark mark.LeftBrace
      → t.kind ≢ kind.Word (codes "_") → IsExpression (t ∷ ts)
  by_more : (t u : Token) (ts : List Token) → t.kind ≢ kind.Mark mark.LeftBracket → t.kind ≢ kind.Mark mark.LeftBrace
      → IsExpression (t ∷ u ∷ ts)

pub data DerivesPattern : (x : Part) → List Token → Tree x → Type 0 where
  is_any : (q : Pos) → DerivesPattern pattern (name (codes "_") q ∷ []) (at q p.Any)
  is_binding : (v q : Pos) (t : Text) → DerivesPattern pattern (word word.Var v ∷ name t q ∷ []) (at q (p.Bind t))
  is_value : (t : Token) (ts : List Token) (x : Expr) → IsExpression (t ∷ ts) → Derives whole (t ∷ ts) x
      → DerivesPattern pattern (t ∷ ts) (at t.pos (p.Value x))
  is_array : (q r : Pos) (s : List Token) (xs : List Pattern) → DerivesPattern listed s xs
      → DerivesPattern pattern (mark mark.LeftBracket q ∷ s ++ mark mark.RightBracket r ∷ []) (at q (p.Items xs))
  is_dictionary : (q r : Pos) (s : List Token) (x : Entries) → DerivesPattern entries s x
      → DerivesPattern pattern (mark mark.LeftBrace q ∷ s ++ mark mark.RightBrace r ∷ []) (at q (p.Pairs x.pairs x.rests))
  -- the items of an array pattern, where a comma may stand last
  is_item : (s : List Token) (x : Pattern) → DerivesPattern pattern s x → DerivesPattern item s x
  is_rest : (q : Pos) → DerivesPattern item (mark mark.DotDot q ∷ []) (at q p.Rest)
  last_item : (s : List Token) (x : Pattern) → DerivesPattern item s x → DerivesPattern list s (x ∷ [])
  last_item_and_comma : (q : Pos) (s : List Token) (x : Pattern) → DerivesPattern item s x
      → DerivesPattern list (s ++ mark mark.Comma q ∷ []) (x ∷ [])
  more_items : (q : Pos) (s t : List Token) (x : Pattern) (xs : List Pattern) → DerivesPattern item s x → DerivesPattern list t xs
      → DerivesPattern list (s ++ mark mark.Comma q ∷ t) (x ∷ xs)
  no_items : DerivesPattern listed [] []
  items : (s : List Token) (xs : List Pattern) → DerivesPattern list s xs → DerivesPattern listed s xs
  -- the entries of a dictionary pattern, where a comma may stand last
  is_key : (s : List Token) (k : Expr) → Derives whole s k
      → DerivesPattern entry s (record { pairs = (k, None) ∷ []; rests = [] })
  is_pair : (q : Pos) (s t : List Token) (k : Expr) (x : Pattern) → Derives whole s k → DerivesPattern pattern t x
      → DerivesPattern entry (s ++ mark mark.Colon q ∷ t) (record { pairs = (k, Some x) ∷ []; rests = [] })
  is_open : (q : Pos) → DerivesPattern entry (mark mark.DotDot q ∷ []) (record { pairs = []; rests = (0, q) ∷ [] })
  no_entries : DerivesPattern entries [] (record { pairs = []; rests = [] })
  last_entry : (s : List Token) (x : Entries) → DerivesPattern entry s x → DerivesPattern entries s x
  more_entries : (q : Pos) (s t : List Token) (x y : Entries) → DerivesPattern entry s x → DerivesPattern entries t y
      → DerivesPattern entries (s ++ mark mark.Comma q ∷ t) (joined x y)
