-- The definitions hold of short files as they should.
use Rattle.gd_lexis.proofs.Lists.{cons_parts}
use Rattle.gd_lexis.specs.declared.glyph.Glyph.{Glyph}
use Rattle.std.proofs.Common.{◌≡◌, ◌≢◌, ℕ, ◌<◌, ◌≤◌, Bool, true, false, List, [], ◌∷◌, ◌++◌, map, refl, ap, sym, inl, inr, arith, nat_lt, ◌&&◌, append-nil, nat_le, length, subst, true≢false}
use Rattle.std.specs.Prelude.{◌⊎◌, All}
use Rattle.std.proofs.lemmas.List.Elements.{All-nil, All-cons, All-head, All-tail}
use Rattle.std.proofs.lemmas.Bool.{and_parts, ltb-true, leb-true}
use Rattle.std.proofs.lemmas.Str.{encode_ascii}
use Rattle.std.specs.Int.{IsInRange}
use lib.Utf8.{low_scalar, encode}
use Rattle.std.specs.Char.{digit_value}
use Rattle.unicode_ident.proofs.IdentLemmas.{is_xid_continue-ascii}
use Rattle.gd_syntax.specs.declared.token.Token.{Token}
use Rattle.gd_syntax.specs.declared.token.TokenKind.{TokenKind}
use Rattle.gd_syntax.specs.declared.token.TokenKind.TheVariants as kinds
use Rattle.gd_syntax.specs.declared.token.Mark.TheVariants as marks
use Rattle.gd_lexis.specs.declared.glyph.Glyph.TheVariants.{Char}
use Rattle.gd_lexis.specs.Chars.{Reads, begins_with_mark}
use Rattle.gd_lexis.specs.Words.{GoesOn, IsFloatName}
use Rattle.gd_lexis.specs.Strings.{Quote, IsEscape, WritesString, nothing, escape}
use Rattle.gd_lexis.specs.Pieces.{Piece, Blank, LineFeed, Comment, Tok, Writes, Stands}
use Rattle.gd_lexis.specs.Lexes.{IsWithin, Lexes}
use Rattle.gd_lexis.specs.Lines.{laid, lead}
use Rattle.gd_lexis.specs.Trials.{OneName, OneMark, OneString, OnePair, OneMarked, TwoBlocks, OneBracketed, OneComment}
use Rattle.gd_lexis.proofs.Cuts.{char_parts, glyph_not_empty}
use Rattle.gd_lexis.proofs.Heads.{lower_start}
use Rattle.gd_lexis.proofs.Indents.{IsIndented, IsOne}
use Rattle.gd_lexis.proofs.Numerals.{no_keyword}
use Rattle.gd_lexis.proofs.Short.{short_within, are_blocks, longest_at_end, letter_longest, mark_longest}

-- ASCII's bytes are read as themselves
pub read_ascii : (bs : List ℕ) → All (λ c. c < 128) bs → Reads bs (map Char bs)
read_ascii [] h = refl
read_ascii (c ∷ cs) h =
    let low : c < 128 = All-head (λ c. c < 128) c cs h in
    (low_scalar c (omega arith), (cs, ap (λ t. t ++ cs) (sym (encode_ascii c low)), read_ascii cs (All-tail (λ c. c < 128) c cs h)))

abbrev pub are_low : List ℕ → Bool
are_low [] = true
are_low (c ∷ cs) = nat_lt c 128 && are_low cs

pub low_bytes : (bs : List ℕ) → are_low bs ≡ true → All (λ c. c < 128) bs
low_bytes [] h = All-nil (λ c. c < 128)
low_bytes (c ∷ cs) h = let both = and_parts (nat_lt c 128) (are_low cs) h in All-cons (λ c. c < 128) c cs (ltb-true c 128 both.0) (low_bytes cs both.1)

letter_name : (c : ℕ) → IsInRange 97 122 c → Writes (kinds.Word (c ∷ [])) (c ∷ [])
letter_name c h = ((lower_start c h, All-nil GoesOn), refl, no_keyword (c ∷ []) refl)

first_code : (c d : ℕ) (cs ds : List ℕ) → c ∷ cs ≡ d ∷ ds → c ≡ d
first_code c d cs ds e = cc

no_float : (c : ℕ) → 91 ≤ c → IsFloatName (c ∷ []) → ⊥
no_float c h (inl e) = omega (arith, first_code c 80 [] (73 ∷ []) e)
no_float c h (inr (inl e)) = omega (arith, first_code c 84 [] (65 ∷ 85 ∷ []) e)
no_float c h (inr (inr (inl e))) = omega (arith, first_code c 73 [] (78 ∷ 70 ∷ []) e)
no_float c h (inr (inr (inr e))) = omega (arith, first_code c 78 [] (65 ∷ 78 ∷ []) e)

name_at_end : (c : ℕ) → IsInRange 97 122 c → Stands (Tok (kinds.Word (c ∷ [])) (c ∷ [])) []
name_at_end c h = (letter_name c h, longest_at_end (c ∷ []), (no_float c (omega arith), λ e b. glyph_not_empty (Char b.0) b.2.0 (sym b.2.1)))

-- ---- lines

abbrev are_short : List (List Piece) → Bool
are_short [] = true
are_short (line ∷ lines) = nat_le (length line) 32 && are_short lines

short_lines : (lines : List (List Piece)) → are_short lines ≡ true → All IsWithin lines
short_lines [] h = All-nil IsWithin
short_lines (line ∷ lines) h =
    let both = and_parts (nat_le (length line) 32) (are_short lines) h in
    All-cons IsWithin line lines (short_within line (leb-true (length line) 32 both.0)) (short_lines lines both.1)

with_no_blank : (line : List Piece) (lines : List (List Piece)) → lead line ≡ [] → All (IsIndented 9) lines → All (IsIndented 9) (line ∷ lines)
with_no_blank line lines e more = let P : List Piece → Type 0 = λ t. All (IsOne 9) t in All-cons (IsIndented 9) line lines (λ h. subst P (sym e) (All-nil (IsOne 9))) more

with_tab : (line : List Piece) (lines : List (List Piece)) → lead line ≡ Blank 9 ∷ [] → All (IsIndented 9) lines → All (IsIndented 9) (line ∷ lines)
with_tab line lines e more =
    let P : List Piece → Type 0 = λ t. All (IsOne 9) t in
    All-cons (IsIndented 9) line lines (λ h. subst P (sym e) (All-cons (IsOne 9) (Blank 9) [] (λ f. refl) (All-nil (IsOne 9)))) more

-- ---- files of one token

one_token : (kind : TokenKind) (text : List ℕ) (tokens : List Token) → are_low text ≡ true → begins_with_mark (map Char text) ≡ false → Stands (Tok kind text) []
    → tokens ≡ laid 0 [] [] ((Tok kind text ∷ []) ∷ []) → Lexes 0 text tokens
one_token kind text tokens low mark stands same = record {
  glyphs = map Char text;
  read = inr (read_ascii text (low_bytes text low), mark);
  pieces = Tok kind text ∷ [];
  cut = ([], sym (append-nil (map Char text)), stands, refl);
  within = All-cons IsWithin (Tok kind text ∷ []) [] (short_within (Tok kind text ∷ []) (omega arith)) (All-nil IsWithin);
  blocks = are_blocks ((Tok kind text ∷ []) ∷ []) ((λ h. (inl refl, omega arith)), tt);
  indented = inl (All-cons (IsIndented 32) (Tok kind text ∷ []) [] (λ h. All-nil (IsOne 32)) (All-nil (IsIndented 32)));
  tokens_are = same;
}

pub one_name : OneName
one_name = one_token (kinds.Word (97 ∷ [])) (97 ∷ []) _ refl refl (name_at_end 97 (omega arith)) refl

no_dot : (c : ℕ) (cs : List ℕ) → c ≢ 46 → c ∷ cs ≡ 46 ∷ [] → ⊥
no_dot c cs h e = h (first_code c 46 cs [] e)

pub one_mark : OneMark
one_mark = one_token (kinds.Mark marks.ShiftLeft) (60 ∷ 60 ∷ []) _ refl refl (refl, longest_at_end (60 ∷ 60 ∷ []), λ e b. no_dot 60 (60 ∷ []) (λ f. omega arith) e) refl

quote : Quote
quote = record { is_raw = false; mark = 34; count = 1 }

line_feed_escape : IsEscape (92 ∷ 110 ∷ []) (10 ∷ [])
line_feed_escape = inl (110, 10, refl, refl, refl)

string_writes : WritesString (34 ∷ 92 ∷ 110 ∷ 34 ∷ []) (10 ∷ [])
unfolding quote
string_writes = (quote, 92 ∷ 110 ∷ [], (inl refl, inl refl), refl, escape (92 ∷ 110 ∷ []) (10 ∷ []) [] [] refl line_feed_escape nothing)

pub one_string : OneString
one_string = one_token (kinds.Quoted (10 ∷ [])) (34 ∷ 92 ∷ 110 ∷ 34 ∷ []) _ refl refl
    (string_writes, longest_at_end (34 ∷ 92 ∷ 110 ∷ 34 ∷ []), λ q n e b. glyph_not_empty (Char q.mark) b.0 (sym b.1)) refl

-- ---- two surrogates

hex : (a b c d : ℕ) → digit_value a < 16 → digit_value b < 16 → digit_value c < 16 → digit_value d < 16 → All (λ x. digit_value x < 16) (a ∷ b ∷ c ∷ d ∷ [])
hex a b c d h k l m =
    let P : ℕ → Type 0 = λ x. digit_value x < 16 in
    All-cons P a (b ∷ c ∷ d ∷ []) h (All-cons P b (c ∷ d ∷ []) k (All-cons P c (d ∷ []) l (All-cons P d [] m (All-nil P))))

pair_escape : IsEscape (92 ∷ 117 ∷ 68 ∷ 56 ∷ 51 ∷ 68 ∷ 92 ∷ 117 ∷ 68 ∷ 69 ∷ 48 ∷ 48 ∷ []) (0x1F600 ∷ [])
pair_escape =
    inr (inr (inr (inr (
      68 ∷ 56 ∷ 51 ∷ 68 ∷ [],
      68 ∷ 69 ∷ 48 ∷ 48 ∷ [],
      0x3D,
      0x200,
      refl,
      (refl, hex 68 56 51 68 (omega arith) (omega arith) (omega arith) (omega arith), refl),
      (refl, hex 68 69 48 48 (omega arith) (omega arith) (omega arith) (omega arith), refl),
      omega arith,
      omega arith,
      refl,
    ))))

pair_writes : WritesString (34 ∷ 92 ∷ 117 ∷ 68 ∷ 56 ∷ 51 ∷ 68 ∷ 92 ∷ 117 ∷ 68 ∷ 69 ∷ 48 ∷ 48 ∷ 34 ∷ []) (0x1F600 ∷ [])
unfolding quote
pair_writes = (
  quote,
  92 ∷ 117 ∷ 68 ∷ 56 ∷ 51 ∷ 68 ∷ 92 ∷ 117 ∷ 68 ∷ 69 ∷ 48 ∷ 48 ∷ [],
  (inl refl, inl refl),
  refl,
  escape (92 ∷ 117 ∷ 68 ∷ 56 ∷ 51 ∷ 68 ∷ 92 ∷ 117 ∷ 68 ∷ 69 ∷ 48 ∷ 48 ∷ []) (0x1F600 ∷ []) [] [] refl pair_escape nothing,
)

pub one_pair : OnePair
one_pair = one_token (kinds.Quoted (0x1F600 ∷ [])) (34 ∷ 92 ∷ 117 ∷ 68 ∷ 56 ∷ 51 ∷ 68 ∷ 92 ∷ 117 ∷ 68 ∷ 69 ∷ 48 ∷ 48 ∷ 34 ∷ []) _ refl refl
    (pair_writes, longest_at_end (34 ∷ 92 ∷ 117 ∷ 68 ∷ 56 ∷ 51 ∷ 68 ∷ 92 ∷ 117 ∷ 68 ∷ 69 ∷ 48 ∷ 48 ∷ 34 ∷ []), λ q n e b. glyph_not_empty (Char q.mark) b.0 (sym b.1)) refl

-- ---- a byte order mark

pub one_marked : OneMarked
unfolding encode one_name one_token
one_marked = record {
  glyphs = Char 97 ∷ [];
  read = inl (refl, (97 ∷ [], refl, (refl, ([], refl, refl))));
  pieces = one_name.pieces;
  cut = one_name.cut;
  within = one_name.within;
  blocks = one_name.blocks;
  indented = one_name.indented;
  tokens_are = refl;
}

-- ---- blocks

no_quote_feed : (c : ℕ) (vs us : List Glyph) → (c ≡ 34) ⊎ (c ≡ 39) → Char 10 ∷ us ≡ Char c ∷ vs → ⊥
no_quote_feed c vs us h e = omega (arith, (char_parts 10 c us vs e).0)

letter_stands : (c : ℕ) (us : List Glyph) → IsInRange 97 122 c → Stands (Tok (kinds.Word (c ∷ [])) (c ∷ [])) (Char 10 ∷ us)
letter_stands c us h = (letter_name c h, letter_longest c 10 us (inr (inl h)) (is_xid_continue-ascii 10 (omega arith)) (omega arith) (omega arith), (no_float c (omega arith), λ e b. no_quote_feed b.0 b.2.0 us b.1 b.2.1))

pub two_blocks : TwoBlocks
two_blocks =
    let a = Tok (kinds.Word (97 ∷ [])) (97 ∷ []) in
    let b = Tok (kinds.Word (98 ∷ [])) (98 ∷ []) in
    let c = Tok (kinds.Word (99 ∷ [])) (99 ∷ []) in
    let d = Tok (kinds.Word (100 ∷ [])) (100 ∷ []) in
    let second : List Piece = Blank 9 ∷ b ∷ [] in
    let fourth : List Piece = Blank 9 ∷ d ∷ [] in
    record {
      glyphs = Char 97 ∷ Char 10 ∷ Char 9 ∷ Char 98 ∷ Char 10 ∷ Char 99 ∷ Char 10 ∷ Char 9 ∷ Char 100 ∷ [];
      read = inr (read_ascii (97 ∷ 10 ∷ 9 ∷ 98 ∷ 10 ∷ 99 ∷ 10 ∷ 9 ∷ 100 ∷ []) (low_bytes (97 ∷ 10 ∷ 9 ∷ 98 ∷ 10 ∷ 99 ∷ 10 ∷ 9 ∷ 100 ∷ []) refl), refl);
      pieces = a ∷ LineFeed ∷ Blank 9 ∷ b ∷ LineFeed ∷ c ∷ LineFeed ∷ Blank 9 ∷ d ∷ [];
      cut = (
        _,
        refl,
        letter_stands 97 _ (omega arith),
        (
          _,
          refl,
          tt,
          (
            _,
            refl,
            inr (inl refl),
            (
              _,
              refl,
              letter_stands 98 _ (omega arith),
              (
                _,
                refl,
                tt,
                (_, refl, letter_stands 99 _ (omega arith), (_, refl, tt, (_, refl, inr (inl refl), (_, refl, name_at_end 100 (omega arith), refl)))),
              ),
            ),
          ),
        ),
      );
      within = short_lines ((a ∷ []) ∷ second ∷ (c ∷ []) ∷ fourth ∷ []) refl;
      blocks = are_blocks ((a ∷ []) ∷ second ∷ (c ∷ []) ∷ fourth ∷ []) ((λ h. (inl refl, omega arith)), ((λ h. (inr refl, omega arith)), ((λ h. (inl refl, omega arith)), ((λ h. (inr refl, omega arith)), tt))));
      indented = inr (with_no_blank (a ∷ []) (second ∷ (c ∷ []) ∷ fourth ∷ []) refl (with_tab second ((c ∷ []) ∷ fourth ∷ []) refl
          (with_no_blank (c ∷ []) (fourth ∷ []) refl (with_tab fourth [] refl (All-nil (IsIndented 9))))));
      tokens_are = refl;
    }

-- ---- brackets over lines

pub one_bracketed : OneBracketed
one_bracketed =
    let opens = Tok (kinds.Mark marks.LeftParen) (40 ∷ []) in
    let closes = Tok (kinds.Mark marks.RightParen) (41 ∷ []) in
    let line : List Piece = opens ∷ LineFeed ∷ closes ∷ [] in
    record {
      glyphs = Char 40 ∷ Char 10 ∷ Char 41 ∷ [];
      read = inr (read_ascii (40 ∷ 10 ∷ 41 ∷ []) (low_bytes (40 ∷ 10 ∷ 41 ∷ []) refl), refl);
      pieces = line;
      cut = (
        _,
        refl,
        (refl, mark_longest 40 (Char 41 ∷ []) (omega arith), λ e b. no_dot 40 [] (λ f. omega arith) e),
        (_, refl, tt, (_, refl, (refl, longest_at_end (41 ∷ []), λ e b. no_dot 41 [] (λ f. omega arith) e), refl)),
      );
      within = short_lines (line ∷ []) refl;
      blocks = are_blocks (line ∷ []) ((λ h. (inl refl, omega arith)), tt);
      indented = inl (All-cons (IsIndented 32) line [] (λ h. All-nil (IsOne 32)) (All-nil (IsIndented 32)));
      tokens_are = refl;
    }

-- ---- a comment

return_last : (front back : List ℕ) → 13 ∷ [] ≡ front ++ 13 ∷ back → back ≡ []
return_last [] back e = sym (cons_parts 13 13 [] back e).1
return_last (c ∷ front) back e = absurd (nothing_behind front back (cons_parts 13 c [] (front ++ 13 ∷ back) e).1)
  where
    nothing_behind : (front back : List ℕ) → [] ≡ front ++ 13 ∷ back → ⊥
    nothing_behind [] back e = cc
    nothing_behind (c ∷ front) back e = cc

pub one_comment : OneComment
one_comment =
    let comment : List Piece = Comment (13 ∷ []) ∷ [] in
    record {
      glyphs = Char 35 ∷ Char 13 ∷ Char 10 ∷ [];
      read = inr (read_ascii (35 ∷ 13 ∷ 10 ∷ []) (low_bytes (35 ∷ 13 ∷ 10 ∷ []) refl), refl);
      pieces = Comment (13 ∷ []) ∷ LineFeed ∷ [];
      cut = (Char 10 ∷ [], refl, (All-cons (λ c. c ≢ 10) 13 [] (λ e. omega arith) (All-nil (λ c. c ≢ 10)), inr ([], refl), λ front back e. (return_last front back e, ([], refl))), ([], refl, tt, refl));
      within = short_lines (comment ∷ [] ∷ []) refl;
      blocks = are_blocks (comment ∷ [] ∷ []) ((λ h. absurd (true≢false (sym h))), ((λ h. absurd (true≢false (sym h))), tt));
      indented = inl (All-cons (IsIndented 32) comment ([] ∷ []) (λ h. absurd (true≢false (sym h))) (All-cons (IsIndented 32) [] [] (λ h. absurd (true≢false (sym h))) (All-nil (IsIndented 32))));
      tokens_are = refl;
    }
