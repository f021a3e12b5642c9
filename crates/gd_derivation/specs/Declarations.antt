-- Which tokens are which declaration, class and script.
use Rattle.std.specs.Prelude.{ℕ, ◌+◌, Bool, true, false, List, [], ◌∷◌, ◌++◌, length, Option, Some, None, codes}
use Rattle.gd_syntax.specs.declared.pos.Pos.{Pos}
use Rattle.gd_syntax.specs.declared.token.Token.{Token}
use Rattle.gd_syntax.specs.declared.token.TokenKind.TheVariants as kind
use Rattle.gd_syntax.specs.declared.token.Keyword.TheVariants as word
use Rattle.gd_syntax.specs.declared.token.Mark.TheVariants as mark
use Rattle.gd_syntax.specs.declared.tree.expr.Expr.{Expr}
use Rattle.gd_syntax.specs.declared.tree.expr.TypeName.{TypeName, roll-TypeName}
use Rattle.gd_syntax.specs.declared.tree.stmt.Note.{Note}
use Rattle.gd_syntax.specs.declared.tree.stmt.Stmt.{Stmt}
use Rattle.gd_syntax.specs.declared.tree.stmt.VarDecl.{VarDecl, roll-VarDecl}
use Rattle.gd_syntax.specs.declared.tree.stmt.Accessor.{Accessor}
use Rattle.gd_syntax.specs.declared.tree.stmt.Accessor.TheVariants.{Named, Body}
use Rattle.gd_syntax.specs.declared.tree.decl.BaseName.{BaseName}
use Rattle.gd_syntax.specs.declared.tree.decl.FuncDecl.{FuncDecl}
use Rattle.gd_syntax.specs.declared.tree.decl.Decl.{Decl, roll-Decl}
use Rattle.gd_syntax.specs.declared.tree.decl.DeclKind.{DeclKind}
use Rattle.gd_syntax.specs.declared.tree.decl.DeclKind.TheVariants as d
use Rattle.gd_syntax.specs.declared.tree.decl.ClassDecl.{ClassDecl, roll-ClassDecl}
use Rattle.gd_derivation.specs.Tokens.{Text, word, mark, name, text, newline, indent, dedent, last_place}
use Rattle.gd_derivation.specs.Expressions.{Derives, whole, type, names}
use Rattle.gd_derivation.specs.Statements.{Init, IsInit, HasNoAccessor, IsConstant, IsParameter, IsEnd, AreNotes, DerivesStatement, block}

-- ---- bases and the header of a file

pub data IsBase : List Token → BaseName → Type 0 where
  path : (p : Pos) (t : Text) → IsBase (text t p ∷ []) (record { pos = p; path = Some t; names = [] })
  path_and_names : (p q : Pos) (t : Text) (a : List Token) (ts : List Text) → Derives names a ts
      → IsBase (text t p ∷ mark mark.Dot q ∷ a) (record { pos = p; path = Some t; names = ts })
  by_names : (p : Pos) (t : Text) (a : List Token) (ts : List Text) → Derives names (name t p ∷ a) ts
      → IsBase (name t p ∷ a) (record { pos = p; path = None; names = ts })

-- the name of a file's class with its place, and its base
pub record Header : Type 0 where
  pub named : Option (Text × Pos)
  pub base : Option BaseName

pub data IsHeader : List Token → Header → Type 0 where
  none : IsHeader [] (record { named = None; base = None })
  name_alone : (p q : Pos) (t : Text) (a : List Token) → IsEnd a
      → IsHeader (word word.ClassName p ∷ name t q ∷ a) (record { named = Some (t, q); base = None })
  base_alone : (p : Pos) (a b : List Token) (x : BaseName) → IsBase a x → IsEnd b
      → IsHeader (word word.Extends p ∷ a ++ b) (record { named = None; base = Some x })
  on_one_line : (p q r : Pos) (t : Text) (a b : List Token) (x : BaseName) → IsBase a x → IsEnd b
      → IsHeader (word word.ClassName p ∷ name t q ∷ word word.Extends r ∷ a ++ b) (record { named = Some (t, q); base = Some x })
  name_first : (p q r : Pos) (t : Text) (a b c : List Token) (x : BaseName) → IsEnd a → IsBase b x → IsEnd c
      → IsHeader (word word.ClassName p ∷ name t q ∷ a ++ word word.Extends r ∷ b ++ c) (record { named = Some (t, q); base = Some x })
  base_first : (p q r : Pos) (t : Text) (a b c : List Token) (x : BaseName) → IsBase a x → IsEnd b → IsEnd c
      → IsHeader (word word.Extends p ∷ a ++ b ++ word word.ClassName r ∷ name t q ∷ c) (record { named = Some (t, q); base = Some x })

-- ---- accessors

pub record Accessors : Type 0 where
  pub setter : Option Accessor
  pub getter : Option Accessor

-- an accessor of its kind, "set" or "get"
pub data IsLink (kind : Text) : List Token → Accessor → Type 0 where
  link : (p q r : Pos) (t : Text) → IsLink kind (name kind p ∷ mark mark.Equal q ∷ name t r ∷ []) (Named t r)

pub data AreLines : List Token → Type 0 where
  none : AreLines []
  more : (p : Pos) (a : List Token) → AreLines a → AreLines (newline p ∷ a)

-- what may stand behind a link in a block of accessors
pub data IsBehind : List Token → Type 0 where
  lines : (a : List Token) → AreLines a → IsBehind a
  comma_and_lines : (p : Pos) (a : List Token) → AreLines a → IsBehind (mark mark.Comma p ∷ a)

pub data IsSetter : List Token → Accessor → Type 0 where
  linked : (a b : List Token) (x : Accessor) → IsLink (codes "set") a x → IsBehind b → IsSetter (a ++ b) x
  written : (p l q r c : Pos) (t : Text) (a : List Token) (xs : List Stmt) → DerivesStatement block a xs
      → IsSetter (name (codes "set") p ∷ mark mark.LeftParen l ∷ name t q ∷ mark mark.RightParen r ∷ mark mark.Colon c ∷ a)
      (Body (Some t) xs p (length a + 5))

pub data IsGetter : List Token → Accessor → Type 0 where
  linked : (a b : List Token) (x : Accessor) → IsLink (codes "get") a x → IsBehind b → IsGetter (a ++ b) x
  written : (p c : Pos) (a : List Token) (xs : List Stmt) → DerivesStatement block a xs
      → IsGetter (name (codes "get") p ∷ mark mark.Colon c ∷ a) (Body None xs p (length a + 2))

pub data AreAccessors : List Token → Accessors → Type 0 where
  link_of_set : (p : Pos) (a b : List Token) (x : Accessor) → IsLink (codes "set") a x → IsEnd b
      → AreAccessors (mark mark.Colon p ∷ a ++ b) (record { setter = Some x; getter = None })
  link_of_get : (p : Pos) (a b : List Token) (x : Accessor) → IsLink (codes "get") a x → IsEnd b
      → AreAccessors (mark mark.Colon p ∷ a ++ b) (record { setter = None; getter = Some x })
  links_from_set : (p q : Pos) (a b c : List Token) (x y : Accessor) → IsLink (codes "set") a x → IsLink (codes "get") b y → IsEnd c
      → AreAccessors (mark mark.Colon p ∷ a ++ mark mark.Comma q ∷ b ++ c) (record { setter = Some x; getter = Some y })
  links_from_get : (p q : Pos) (a b c : List Token) (x y : Accessor) → IsLink (codes "get") a x → IsLink (codes "set") b y → IsEnd c
      → AreAccessors (mark mark.Colon p ∷ a ++ mark mark.Comma q ∷ b ++ c) (record { setter = Some y; getter = Some x })
  block_of_set : (p n i r : Pos) (a : List Token) (x : Accessor) → IsSetter a x
      → AreAccessors (mark mark.Colon p ∷ newline n ∷ indent i ∷ a ++ dedent r ∷ []) (record { setter = Some x; getter = None })
  block_of_get : (p n i r : Pos) (a : List Token) (x : Accessor) → IsGetter a x
      → AreAccessors (mark mark.Colon p ∷ newline n ∷ indent i ∷ a ++ dedent r ∷ []) (record { setter = None; getter = Some x })
  block_from_set : (p n i r : Pos) (a b : List Token) (x y : Accessor) → IsSetter a x → IsGetter b y
      → AreAccessors (mark mark.Colon p ∷ newline n ∷ indent i ∷ a ++ b ++ dedent r ∷ []) (record { setter = Some x; getter = Some y })
  block_from_get : (p n i r : Pos) (a b : List Token) (x y : Accessor) → IsGetter a x → IsSetter b y
      → AreAccessors (mark mark.Colon p ∷ newline n ∷ indent i ∷ a ++ b ++ dedent r ∷ []) (record { setter = Some y; getter = Some x })

-- a variable of a class, behind `var`, and the number of tokens of its value
pub data IsMember (static : Bool) : List Token → VarDecl → ℕ → Type 0 where
  plain : (p : Pos) (t : Text) (a b : List Token) (i : Init) → IsInit a i → HasNoAccessor a → IsEnd b
      → IsMember static (name t p ∷ a ++ b)
      (roll-VarDecl (record { name = t; pos = p; is_static = static; typed = i.typed; inferred = i.inferred; equals = i.equals; value = i.value; setter = None; getter = None }))
      i.tokens
  accessed : (p : Pos) (t : Text) (a b : List Token) (i : Init) (x : Accessors) → IsInit a i → HasNoAccessor a → AreAccessors b x
      → IsMember static (name t p ∷ a ++ b)
      (roll-VarDecl (record { name = t; pos = p; is_static = static; typed = i.typed; inferred = i.inferred; equals = i.equals; value = i.value; setter = x.setter; getter = x.getter }))
      i.tokens

-- ---- functions, signals and enums

pub data AreParameters : List Token → List VarDecl → Type 0 where
  none : AreParameters [] []
  only : (a : List Token) (v : VarDecl) → IsParameter a v → AreParameters a (v ∷ [])
  more : (p : Pos) (a b : List Token) (v : VarDecl) (vs : List VarDecl) → IsParameter a v → AreParameters b vs
      → AreParameters (a ++ mark mark.Comma p ∷ b) (v ∷ vs)

pub data IsReturn : List Token → Option TypeName → Type 0 where
  none : IsReturn [] None
  void : (p q : Pos) → IsReturn (mark mark.Arrow p ∷ word word.Void q ∷ [])
      (Some (roll-TypeName (record { pos = q; names = []; is_void = true; elements = [] })))
  typed : (p : Pos) (a : List Token) (t : TypeName) → Derives type a t → IsReturn (mark mark.Arrow p ∷ a) (Some t)

-- from the word `func` on; `before` tokens of the function stand before it
pub data IsFunction (static : Bool) (before : ℕ) : List Token → FuncDecl → Type 0 where
  function : (p q l r c : Pos) (t : Text) (a b e : List Token) (vs : List VarDecl) (o : Option TypeName) (xs : List Stmt)
      → AreParameters a vs → IsReturn b o → DerivesStatement block e xs
      → IsFunction static before
      (word word.Func p ∷ name t q ∷ mark mark.LeftParen l ∷ a ++ mark mark.RightParen r ∷ b ++ mark mark.Colon c ∷ e)
      (record { name = t; pos = q; is_static = static; params = vs; result = o; body = xs; tokens = before + (length a + length b + length e + 5) })

pub data IsValue : List Token → Text × Pos × Option Expr → Type 0 where
  bare : (p : Pos) (t : Text) → IsValue (name t p ∷ []) (t, p, None)
  valued : (p q : Pos) (t : Text) (a : List Token) (x : Expr) → Derives whole a x
      → IsValue (name t p ∷ mark mark.Equal q ∷ a) (t, p, Some x)

-- list(NAME ["=" expr]), or nothing
pub data AreValues : List Token → List (Text × Pos × Option Expr) → Type 0 where
  none : AreValues [] []
  only : (a : List Token) (x : Text × Pos × Option Expr) → IsValue a x → AreValues a (x ∷ [])
  more : (p : Pos) (a b : List Token) (x : Text × Pos × Option Expr) (xs : List (Text × Pos × Option Expr)) → IsValue a x
      → AreValues b xs → AreValues (a ++ mark mark.Comma p ∷ b) (x ∷ xs)

-- a declaration that holds no block, without what ends it
pub data IsPlain : List Token → DeclKind → Type 0 where
  pass : (p : Pos) → IsPlain (word word.Pass p ∷ []) d.Nothing
  constant : (p : Pos) (a : List Token) (v : VarDecl) → IsConstant a v → IsPlain (word word.Const p ∷ a) (d.Const v)
  signal : (p q : Pos) (t : Text) → IsPlain (word word.Signal p ∷ name t q ∷ []) (d.Signal t q [])
  signal_of : (p q l r : Pos) (t : Text) (a : List Token) (vs : List VarDecl) → AreParameters a vs
      → IsPlain (word word.Signal p ∷ name t q ∷ mark mark.LeftParen l ∷ a ++ mark mark.RightParen r ∷ []) (d.Signal t q vs)
  enum : (p l r : Pos) (a : List Token) (xs : List (Text × Pos × Option Expr)) → AreValues a xs
      → IsPlain (word word.Enum p ∷ mark mark.LeftBrace l ∷ a ++ mark mark.RightBrace r ∷ []) (d.Enum None xs)
  named_enum : (p q l r : Pos) (t : Text) (a : List Token) (xs : List (Text × Pos × Option Expr)) → AreValues a xs
      → IsPlain (word word.Enum p ∷ name t q ∷ mark mark.LeftBrace l ∷ a ++ mark mark.RightBrace r ∷ []) (d.Enum (Some (t, q)) xs)

-- [extends base]
pub data IsExtends : List Token → Option BaseName → Type 0 where
  none : IsExtends [] None
  some : (p : Pos) (a : List Token) (x : BaseName) → IsBase a x → IsExtends (word word.Extends p ∷ a) (Some x)

-- ---- declarations and classes

pub data Part : Type 0 where
  -- a declaration with its annotations, and one without; each with the number of tokens of a variable's value
  declaration : Part
  body : Part
  -- {decl}
  members : Part
  -- what stands behind the head of a class
  class_body : Part

-- declarations, and the number of tokens of the initial values of their variables
pub record Members : Type 0 where
  pub members : List Decl
  pub initial : ℕ

abbrev pub Tree : Part → Type 0
Tree declaration = Decl × ℕ
Tree body = DeclKind × ℕ
Tree members = Members
Tree class_body = Members

abbrev pub at : Token → List Token → List Note → DeclKind → Decl
at t ts ns k = roll-Decl (record { pos = t.pos; last = last_place t.pos ts; notes = ns; kind = k })

pub data DerivesDeclaration : (x : Part) → List Token → Tree x → Type 0 where
  noted : (t : Token) (a ts : List Token) (ns : List Note) (x : DeclKind × ℕ) → AreNotes a ns → DerivesDeclaration body (t ∷ ts) x
      → DerivesDeclaration declaration (a ++ t ∷ ts) (at t ts ns x.0, x.1)
  is_plain : (a b : List Token) (k : DeclKind) → IsPlain a k → IsEnd b → DerivesDeclaration body (a ++ b) (k, 0)
  is_variable : (p : Pos) (a : List Token) (v : VarDecl) (n : ℕ) → IsMember false a v n
      → DerivesDeclaration body (word word.Var p ∷ a) (d.Var v, n)
  is_static_variable : (p q : Pos) (a : List Token) (v : VarDecl) (n : ℕ) → IsMember true a v n
      → DerivesDeclaration body (word word.Static p ∷ word word.Var q ∷ a) (d.Var v, n)
  is_function : (a : List Token) (f : FuncDecl) → IsFunction false 0 a f → DerivesDeclaration body a (d.Func f, 0)
  is_static_function : (p : Pos) (a : List Token) (f : FuncDecl) → IsFunction true 1 a f
      → DerivesDeclaration body (word word.Static p ∷ a) (d.Func f, 0)
  is_class : (p q c : Pos) (t : Text) (a b : List Token) (o : Option BaseName) (x : Members) → IsExtends a o
      → DerivesDeclaration class_body b x
      → DerivesDeclaration body (word word.Class p ∷ name t q ∷ a ++ mark mark.Colon c ∷ b)
      (d.Class (roll-ClassDecl (record { name = Some t; pos = q; base = o; members = x.members; initial_tokens = x.initial })), 0)
  indented : (n i r : Pos) (a b : List Token) (x : Decl × ℕ) (xs : Members) → DerivesDeclaration declaration a x
      → DerivesDeclaration members b xs
      → DerivesDeclaration class_body (newline n ∷ indent i ∷ a ++ b ++ dedent r ∷ [])
      (record { members = x.0 ∷ xs.members; initial = x.1 + xs.initial })
  only_pass : (p n : Pos) → DerivesDeclaration class_body (word word.Pass p ∷ newline n ∷ [])
      (record { members = at (word word.Pass p) [] [] d.Nothing ∷ []; initial = 0 })
  no_members : DerivesDeclaration members [] (record { members = []; initial = 0 })
  more_members : (a b : List Token) (x : Decl × ℕ) (xs : Members) → DerivesDeclaration declaration a x
      → DerivesDeclaration members b xs
      → DerivesDeclaration members (a ++ b) (record { members = x.0 ∷ xs.members; initial = x.1 + xs.initial })

-- ---- scripts

-- where the class of a file stands: at its name, or at the file's first place
abbrev pub class_place : ℕ → Option (Text × Pos) → Pos
class_place _ (Some n) = n.1
class_place file None = record { file = file; line = 1; column = 1 }

abbrev pub class_name : Option (Text × Pos) → Option Text
class_name (Some n) = Some n.0
class_name None = None

-- the tokens of this file are a script, and `tree` is its tree
pub data DerivesScript (file : ℕ) : List Token → ClassDecl → Type 0 where
  script : (p : Pos) (a b c : List Token) (h : Header) (x : Members) → AreLines a → IsHeader b h → DerivesDeclaration members c x
      → DerivesScript file (a ++ b ++ c ++ record { pos = p; kind = kind.End } ∷ [])
      (roll-ClassDecl (record { name = class_name h.named; pos = class_place file h.named; base = h.base; members = x.members; initial_tokens = x.initial }))
