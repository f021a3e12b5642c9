-- The bytes of a file's tokens and comments are the only ones.
use Rattle.std.proofs.Common.{◌≡◌, ℕ, ◌+◌, ◌<◌, List, [], ◌∷◌, ◌++◌, length, map, refl, ap, sym, ◌∙◌, subst, inl, inr, arith, append_assoc}
use Rattle.std.specs.Prelude.{◌⊎◌, All}
use Rattle.std.proofs.lemmas.Bool.{cases_order}
use Rattle.std.proofs.lemmas.List.{append_cancel_left}
use Rattle.std.proofs.lemmas.List.Elements.{All-head, All-tail}
use Rattle.gd_syntax.specs.declared.pos.Pos.{Pos}
use Rattle.gd_syntax.specs.declared.token.Token.{Token}
use Rattle.gd_syntax.specs.declared.token.TokenKind.{TokenKind}
use Rattle.gd_syntax.specs.declared.token.TokenKind.TheVariants as kinds
use Rattle.gd_lexis.specs.declared.glyph.Glyph.{Glyph}
use Rattle.gd_lexis.specs.declared.glyph.Glyph.TheVariants.{Char}
use Rattle.gd_lexis.specs.Chars.{place_behind}
use Rattle.gd_lexis.specs.Pieces.{Tok, Stands, IsCut}
use Rattle.gd_lexis.specs.Faults.{IsBefore}
use Rattle.gd_lexis.specs.Lexes.{Lexes}
use Rattle.gd_lexis.specs.Lexemes.{Extent, IsFileFrom, extent, size, comments_in, AreComments, Spells, IsSpelled}
use Rattle.gd_lexis.proofs.Cuts.{one_file, one_cut, one_piece, one_token_list}
use Rattle.gd_lexis.proofs.Places.{fronts_order}
use Rattle.gd_lexer.specs.declared.spelled.Lexeme.{Lexeme}
use Rattle.gd_lexer.specs.Spelled.{tokens_of, bytes_of, AreSpelled}

-- ---- files

first_same : (bytes : List ℕ) (a b : ℕ) (gs hs : List Glyph) → gs ≡ hs → IsFileFrom bytes a gs → IsFileFrom bytes b hs → a ≡ b
first_same bytes a b gs hs e h k = omega (arith, h.1, k.1, ap size e)

-- ---- comments

-- a file has at most one list of the bytes of its comments
pub one_comment_list : (bytes : List ℕ) (comments others : List Extent) → AreComments bytes comments → AreComments bytes others → comments ≡ others
one_comment_list bytes comments others h k =
    let glyphs : h.glyphs ≡ k.glyphs = one_file bytes h.glyphs k.glyphs h.file.0 k.file.0 in
    let first = first_same bytes h.first k.first h.glyphs k.glyphs glyphs h.file k.file in
    let P : List Glyph → Type 0 = λ gs. IsCut gs k.pieces [] in
    let pieces : h.pieces ≡ k.pieces = one_cut h.pieces k.pieces h.glyphs h.cut (subst P (sym glyphs) k.cut) in
    h.comments_are ∙ ap (comments_in h.first) pieces ∙ ap (λ n. comments_in n k.pieces) first ∙ sym k.comments_are

-- ---- tokens

same_front : (ls ms us vs : List Glyph) → ls ++ us ≡ ms ++ vs → length ls ≡ length ms → ls ≡ ms
same_front [] [] us vs e same = refl
same_front [] (b ∷ ms) us vs e same = absurd (omega arith)
same_front (a ∷ ls) [] us vs e same = absurd (omega arith)
same_front (a ∷ ls) (b ∷ ms) us vs e same =
    let tails : ls ++ us ≡ ms ++ vs = cc in
    let heads : a ≡ b = cc in
    ap (λ x. x ∷ ls) heads ∙ ap (λ t. b ∷ t) (same_front ls ms us vs tails (omega arith))

not_before : (p q : Pos) → p ≡ q → IsBefore p q → ⊥
not_before p q e h = let P : Pos → Type 0 = λ t. IsBefore t q in itself (subst P e h)
  where
    itself : IsBefore q q → ⊥
    itself (inl h) = omega arith
    itself (inr h) = omega (arith, h.1)

-- the place tells the front of a file behind which it is
one_front : (file : ℕ) (ls ms us vs : List Glyph) → ls ++ us ≡ ms ++ vs → place_behind file ls ≡ place_behind file ms → ls ≡ ms
one_front file ls ms us vs e same = by_length (cases_order (length ls) (length ms))
  where
    by_length : (length ls ≡ length ms) ⊎ ((length ls < length ms) ⊎ (length ms < length ls)) → ls ≡ ms
    by_length (inl h) = same_front ls ms us vs e h
    by_length (inr (inl h)) = absurd (not_before (place_behind file ls) (place_behind file ms) same (fronts_order file [] ls ms us vs e h))
    by_length (inr (inr h)) = absurd (not_before (place_behind file ms) (place_behind file ls) (sym same) (fronts_order file [] ms ls vs us (sym e) h))

-- of what spells a kind of token that has a text
abbrev SpellsText : TokenKind → List Glyph → List Glyph → Type 0
SpellsText kind text rest = (cs : List ℕ) × (text ≡ map Char cs) × Stands (Tok kind cs) rest

tok_text : (kind : TokenKind) (cs ds : List ℕ) → Tok kind cs ≡ Tok kind ds → cs ≡ ds
tok_text kind cs ds e = cc

same_text : (kind : TokenKind) (text other rest more : List Glyph) → text ++ rest ≡ other ++ more → SpellsText kind text rest → SpellsText kind other more → text ≡ other
same_text kind text other rest more e h k =
    let chars : map Char h.0 ++ rest ≡ map Char k.0 ++ more = ap (λ t. t ++ rest) (sym h.1) ∙ e ∙ ap (λ t. t ++ more) k.1 in
    h.1 ∙ ap (map Char) (tok_text kind h.0 k.0 (one_piece (Tok kind h.0) (Tok kind k.0) rest more chars h.2 k.2)) ∙ sym k.1

not_both : (text other rest more : List Glyph) → text ++ rest ≡ other ++ more → text ≡ Char 10 ∷ [] → other ≡ [] → more ≡ [] → ⊥
not_both text other rest more e f g n = no_glyph (sym (ap (λ t. t ++ rest) f) ∙ e ∙ ap (λ t. t ++ more) g ∙ n)
  where
    no_glyph : Char 10 ∷ rest ≡ [] → ⊥
    no_glyph e = cc

one_text : (kind : TokenKind) (text other rest more : List Glyph) → text ++ rest ≡ other ++ more → Spells kind text rest → Spells kind other more → text ≡ other
one_text (kinds.Word n) text other rest more e h k = same_text (kinds.Word n) text other rest more e h k
one_text (kinds.Keyword n) text other rest more e h k = same_text (kinds.Keyword n) text other rest more e h k
one_text (kinds.Number n) text other rest more e h k = same_text (kinds.Number n) text other rest more e h k
one_text (kinds.Quoted n) text other rest more e h k = same_text (kinds.Quoted n) text other rest more e h k
one_text (kinds.Mark n) text other rest more e h k = same_text (kinds.Mark n) text other rest more e h k
one_text kinds.Newline text other rest more e (inl h) (inl k) = h ∙ sym k
one_text kinds.Newline text other rest more e (inl h) (inr k) = absurd (not_both text other rest more e h k.0 k.1)
one_text kinds.Newline text other rest more e (inr h) (inl k) = absurd (not_both other text more rest (sym e) k h.0 h.1)
one_text kinds.Newline text other rest more e (inr h) (inr k) = h.0 ∙ sym k.0
one_text kinds.Indent text other rest more e h k = h ∙ sym k
one_text kinds.Dedent text other rest more e h k = h ∙ sym k
one_text kinds.End text other rest more e h k = h ∙ sym k

-- in the glyphs of a file a token has at most one pair of bytes
one_extent : (file first : ℕ) (glyphs : List Glyph) (token : Token) (bytes others : Extent) → IsSpelled file first glyphs token bytes → IsSpelled file first glyphs token others → bytes ≡ others
one_extent file first glyphs token bytes others h k =
    let split : h.before ++ (h.text ++ h.rest) ≡ k.before ++ (k.text ++ k.rest) = sym (append_assoc h.before h.text h.rest) ∙ sym h.split ∙ k.split ∙ append_assoc k.before k.text k.rest in
    let before : h.before ≡ k.before = one_front file h.before k.before (h.text ++ h.rest) (k.text ++ k.rest) split (sym h.place ∙ k.place) in
    let behind : h.text ++ h.rest ≡ k.text ++ k.rest = append_cancel_left k.before (h.text ++ h.rest) (k.text ++ k.rest) (ap (λ t. t ++ (h.text ++ h.rest)) (sym before) ∙ split) in
    let text : h.text ≡ k.text = one_text token.kind h.text k.text h.rest k.rest behind h.spells k.spells in
    h.bytes_are ∙ ap (λ b. extent (first + size b) h.text) before ∙ ap (extent (first + size k.before)) text ∙ sym k.bytes_are

same_lexeme : (l m : Lexeme) → l.token ≡ m.token → bytes_of l ≡ bytes_of m → l ≡ m
same_lexeme l m e f =
    let start = ap (λ (x : Extent). x.start) f in
    let end = ap (λ (x : Extent). x.end) f in
    rw (e, start, end) refl

abbrev Each : ℕ → ℕ → List Glyph → List Lexeme → Type 0
Each file first glyphs ls = All (λ (l : Lexeme). IsSpelled file first glyphs l.token (bytes_of l)) ls

each_same : (file first : ℕ) (glyphs : List Glyph) (ls ms : List Lexeme) → tokens_of ls ≡ tokens_of ms → Each file first glyphs ls → Each file first glyphs ms → ls ≡ ms
each_same file first glyphs [] [] e h k = refl
each_same file first glyphs [] (m ∷ ms) e h k = cc
each_same file first glyphs (l ∷ ls) [] e h k = cc
each_same file first glyphs (l ∷ ls) (m ∷ ms) e h k =
    let token : l.token ≡ m.token = cc in
    let tokens : tokens_of ls ≡ tokens_of ms = cc in
    let P : Lexeme → Type 0 = λ x. IsSpelled file first glyphs x.token (bytes_of x) in
    let Q : Token → Type 0 = λ t. IsSpelled file first glyphs t (bytes_of l) in
    let bytes = one_extent file first glyphs m.token (bytes_of l) (bytes_of m) (subst Q token (All-head P l ls h)) (All-head P m ms k) in
    ap (λ x. x ∷ ls) (same_lexeme l m token bytes) ∙ ap (λ t. m ∷ t) (each_same file first glyphs ls ms tokens (All-tail P l ls h) (All-tail P m ms k))

-- a file has at most one list of tokens with their bytes
pub one_lexeme_list : (file : ℕ) (bytes : List ℕ) (lexemes others : List Lexeme) → Lexes file bytes (tokens_of lexemes) → Lexes file bytes (tokens_of others)
    → AreSpelled file bytes lexemes → AreSpelled file bytes others → lexemes ≡ others
one_lexeme_list file bytes lexemes others t u h k =
    let glyphs : h.glyphs ≡ k.glyphs = one_file bytes h.glyphs k.glyphs h.file_is.0 k.file_is.0 in
    let first = first_same bytes h.first k.first h.glyphs k.glyphs glyphs h.file_is k.file_is in
    let P : ℕ → Type 0 = λ n. Each file n h.glyphs lexemes in
    let Q : List Glyph → Type 0 = λ gs. Each file k.first gs lexemes in
    each_same file k.first k.glyphs lexemes others (one_token_list file bytes (tokens_of lexemes) (tokens_of others) t u) (subst Q glyphs (subst P first h.each)) k.each
