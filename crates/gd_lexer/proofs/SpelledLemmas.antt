-- The bytes of the tokens and comments of a whole file.
use Rattle.std.proofs.Common.{◌≡◌, ℕ, List, [], ◌∷◌, length, map, take, ◌∙◌, ap, sym, subst}
use Rattle.std.specs.Prelude.{All}
use Rattle.std.proofs.lemmas.List.Elements.{All-nil, All-cons}
use Rattle.gd_syntax.specs.declared.token.Token.{Token}
use Rattle.gd_lexis.specs.declared.glyph.Glyph.{Glyph}
use Rattle.gd_lexis.specs.Lexemes.{IsSpelled, AreComments}
use Rattle.gd_lexer.specs.declared.found.Span.{Span}
use Rattle.gd_lexer.specs.declared.found.Whole.{Whole}
use Rattle.gd_lexer.specs.declared.spelled.Lexeme.{Lexeme}
use Rattle.gd_lexer.specs.declared.spelled.Comment.{Comment}
use Rattle.gd_lexer.specs.Noted.{extent_of, AreSpelledBy, AreFileNotes}
use Rattle.gd_lexer.specs.Spelled.{tokens_of, bytes_of, comments_of, AreSpelled}

each_spelled : (file first : ℕ) (all : List Glyph) (ls : List Lexeme) (ss : List Span) → AreSpelledBy file first all (tokens_of ls) ss
    → map bytes_of ls ≡ map extent_of (take (length (tokens_of ls)) ss) → All (λ (l : Lexeme). IsSpelled file first all l.token (bytes_of l)) ls
each_spelled file first all [] ss h e = All-nil (λ (l : Lexeme). IsSpelled file first all l.token (bytes_of l))
each_spelled file first all (l ∷ ls) [] h e = absurd h
each_spelled file first all (l ∷ ls) (s ∷ ss) h e =
    let same : bytes_of l ≡ extent_of s = cc in
    let rest : map bytes_of ls ≡ map extent_of (take (length (tokens_of ls)) ss) = cc in
    All-cons (λ (l : Lexeme). IsSpelled file first all l.token (bytes_of l)) l ls (subst (λ e. IsSpelled file first all l.token e) (sym same) h.0) (each_spelled file first all ls ss h.1 rest)

pub lexemes_spelled : (file : ℕ) (bytes : List ℕ) (w : Whole) (ls : List Lexeme) → tokens_of ls ≡ w.tokens.items → map bytes_of ls ≡ map extent_of (take (length w.tokens.items) w.spans.items)
    → AreFileNotes file bytes w → AreSpelled file bytes ls
lexemes_spelled file bytes w ls same spans h =
    let P : List Token → Type 0 = λ ts. AreSpelledBy file h.first h.all ts w.spans.items in
    record {
      glyphs = h.all;
      first = h.first;
      file_is = h.file_is;
      each = each_spelled file h.first h.all ls w.spans.items (subst P (sym same) h.noted.tokens) (spans ∙ ap (λ (ts : List Token). map extent_of (take (length ts) w.spans.items)) (sym same));
    }

pub comments_noted : (file : ℕ) (bytes : List ℕ) (w : Whole) (cs : List Comment) → comments_of cs ≡ map extent_of w.comments.items → AreFileNotes file bytes w → AreComments bytes (comments_of cs)
comments_noted file bytes w cs same h = record {
  glyphs = h.all;
  first = h.first;
  file = h.file_is;
  pieces = h.noted.comments.pieces;
  cut = h.noted.comments.cut;
  comments_are = same ∙ h.noted.comments.comments_are;
}
