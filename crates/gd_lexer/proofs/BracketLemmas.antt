-- Items by the role of a token.
use Rattle.std.proofs.Common.{◌≡◌, ℕ, Bool, true, false, cond, List, ◌∷◌, refl}
use Rattle.gd_syntax.specs.declared.token.TokenKind.{TokenKind}
use Rattle.gd_syntax.specs.declared.token.TokenKind.TheVariants as kinds
use Rattle.gd_lexis.specs.Lines.{is_opening, is_closing}
use Rattle.gd_lexis.specs.Items.{is_separator, counted, closed, ended}
use Rattle.gd_lexer.specs.Brackets.{items_by, items_after, role_of, role_by}

by_marks : (a b c : Bool) (items : List ℕ) → items_by (role_by a b c) items ≡ cond a (ended items) (cond b (0 ∷ counted items) (cond c (counted (closed items)) (counted items)))
by_marks true b c items = refl
by_marks false true c items = refl
by_marks false false true items = refl
by_marks false false false items = refl

pub items_by_kind : (kind : TokenKind) (items : List ℕ) → items_by (role_of kind) items ≡ items_after kind items
items_by_kind (kinds.Mark m) items = by_marks (is_separator m) (is_opening m) (is_closing m) items
items_by_kind (kinds.Word t) items = refl
items_by_kind (kinds.Keyword k) items = refl
items_by_kind (kinds.Number n) items = refl
items_by_kind (kinds.Quoted t) items = refl
items_by_kind kinds.Newline items = refl
items_by_kind kinds.Indent items = refl
items_by_kind kinds.Dedent items = refl
items_by_kind kinds.End items = refl
