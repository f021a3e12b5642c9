-- A file has at most four tokens for each byte, and End.
use Rattle.std.proofs.Common.{◌≡◌, ℕ, ◌+◌, ◌-◌, ◌*◌, ◌≤◌, Bool, true, false, cond, ◌==◌, ◌&&◌, List, [], ◌∷◌, ◌++◌, length, map, replicate, refl, ap, sym, ◌∙◌, arith, inl, inr, nat_lt, nat_le, if◌then◌else◌, length-append, true≢false}
use Rattle.std.specs.Prelude.{encode_utf8}
use Rattle.std.proofs.lemmas.List.{length-replicate}
use Rattle.std.proofs.lemmas.Str.{length-encode, len_utf8_bounds}
use Rattle.gd_syntax.specs.declared.pos.Pos.{Pos}
use Rattle.gd_syntax.specs.declared.token.Token.{Token}
use Rattle.gd_syntax.specs.declared.token.TokenKind.TheVariants as kinds
use Rattle.gd_lexis.specs.declared.glyph.Glyph.{Glyph}
use Rattle.gd_lexis.specs.declared.glyph.Glyph.TheVariants.{Char, Bad}
use Rattle.gd_lexis.specs.Chars.{Reads, IsFile, place_behind}
use Rattle.gd_lexis.specs.Pieces.{Piece, Blank, LineFeed, Join, Comment, Tok, text_of, IsCut}
use Rattle.gd_lexis.specs.Lines.{Parted, lines_of, is_line_end, is_logical, lead, level, depth, kept, innermost, blocks_behind, blocks_after, turn, token, texts, tokens_in, tokens_of_line, tokens_if_logical, last_tokens, laid}
use Rattle.gd_lexis.specs.Lexes.{Lexes}
use Rattle.gd_lexis.proofs.Cuts.{piece_begins}
use Rattle.gd_lexis.proofs.Bounds.{lines_behind, cut_line, with_piece}

-- ---- the tokens of a line

abbrev toks : List Piece → ℕ
toks [] = 0
toks (Tok kind text ∷ ps) = toks ps + 1
toks (p ∷ ps) = toks ps

in_line : (file : ℕ) (before : List Glyph) (ps : List Piece) → length (tokens_in file before ps) ≡ toks ps
in_line file before [] = refl
in_line file before (Tok kind text ∷ ps) = omega (arith, in_line file (before ++ text_of (Tok kind text)) ps)
in_line file before (Blank c ∷ ps) = in_line file (before ++ text_of (Blank c)) ps
in_line file before (LineFeed ∷ ps) = in_line file (before ++ text_of LineFeed) ps
in_line file before (Join end ∷ ps) = in_line file (before ++ text_of (Join end)) ps
in_line file before (Comment cs ∷ ps) = in_line file (before ++ text_of (Comment cs)) ps

some_token : (ps : List Piece) → is_logical ps ≡ true → 1 ≤ toks ps
some_token [] h = absurd (true≢false (sym h))
some_token (Tok kind text ∷ ps) h = omega arith
some_token (Blank c ∷ ps) h = some_token ps h
some_token (LineFeed ∷ ps) h = some_token ps h
some_token (Join end ∷ ps) h = some_token ps h
some_token (Comment cs ∷ ps) h = some_token ps h

-- ---- the tokens that blocks make

kept_by : (b : ℕ) (bs : List ℕ) (t : Bool) → length (cond t (b ∷ bs) bs) ≤ length bs + 1
kept_by b bs true = omega arith
kept_by b bs false = omega arith

kept_fewer : (d : ℕ) (bs : List ℕ) → length (kept d bs) ≤ length bs
kept_fewer d [] = omega arith
kept_fewer d (b ∷ bs) = omega (arith, kept_by b (kept d bs) (nat_le b d), kept_fewer d bs)

behind_by : (d : ℕ) (bs : List ℕ) (t : Bool) → length (if t then bs else bs ++ d ∷ []) ≤ length bs + 1
behind_by d bs true = omega arith
behind_by d bs false = omega (arith, length-append bs (d ∷ []))

indent_by : (at : Pos) (t : Bool) → length (if t then token at kinds.Indent ∷ [] else []) ≤ 1
indent_by at true = omega arith
indent_by at false = omega arith

turn_short : (at : Pos) (bs : List ℕ) (d : ℕ) → length (turn at bs d) + length (blocks_behind bs d) ≤ length bs + 2
turn_short at bs d =
    let opens = nat_lt (length (kept d bs)) (length (blocks_behind bs d)) in
    let dedents = replicate (length bs - length (kept d bs)) (token at kinds.Dedent) in
    omega (arith, length-append dedents (if opens then token at kinds.Indent ∷ [] else []), length-replicate (length bs - length (kept d bs)) (token at kinds.Dedent), indent_by at opens, kept_fewer d bs, behind_by d (kept d bs) (d == innermost (kept d bs)))

line_short : (file : ℕ) (before : List Glyph) (bs : List ℕ) (line : List Piece) (t : Bool) → is_logical line ≡ t
    → length (if t then tokens_of_line file before bs line else []) + length (if t then blocks_behind bs (depth line) else bs) ≤ length bs + 4 * toks line
line_short file before bs line true h =
    let at = place_behind file (before ++ texts (lead line)) in
    let turned = turn at bs (depth line) in
    let inner = tokens_in file before line in
    let end = token (place_behind file (before ++ texts line)) kinds.Newline ∷ [] in
    omega (arith, length-append (turned ++ inner) end, length-append turned inner, in_line file before line, turn_short at bs (depth line), some_token line h)
line_short file before bs line false h = omega arith

abbrev total : List (List Piece) → ℕ
total [] = 0
total (line ∷ lines) = toks line + total lines

last_short : (at : Pos) (bs : List ℕ) → length (last_tokens at bs) ≡ length bs + 1
last_short at bs = omega (arith, length-append (replicate (length bs) (token at kinds.Dedent)) (token at kinds.End ∷ []), length-replicate (length bs) (token at kinds.Dedent))

laid_short : (file : ℕ) (before : List Glyph) (bs : List ℕ) (lines : List (List Piece)) → length (laid file before bs lines) ≤ 4 * total lines + length bs + 1
laid_short file before bs [] = omega (arith, last_short (place_behind file before) bs)
laid_short file before bs (line ∷ []) =
    let at = place_behind file (before ++ texts line) in
    let here = tokens_if_logical file before bs line in
    let behind = blocks_after bs line in
    omega (arith, length-append here (last_tokens at behind), last_short at behind, line_short file before bs line (is_logical line) refl)
laid_short file before bs (line ∷ next ∷ lines) =
    let here = tokens_if_logical file before bs line in
    let behind = blocks_after bs line in
    let after : List Glyph = before ++ texts line ++ Char 10 ∷ [] in
    omega (arith, length-append here (laid file after behind (next ∷ lines)), line_short file before bs line (is_logical line) refl, laid_short file after behind (next ∷ lines))

-- ---- lines have the tokens of their pieces

total_append : (xs ys : List (List Piece)) → total (xs ++ ys) ≡ total xs + total ys
total_append [] ys = omega arith
total_append (x ∷ xs) ys = omega (arith, total_append xs ys)

toks_append : (xs ys : List Piece) → toks (xs ++ ys) ≡ toks xs + toks ys
toks_append [] ys = omega arith
toks_append (Tok kind text ∷ xs) ys = omega (arith, toks_append xs ys)
toks_append (Blank c ∷ xs) ys = toks_append xs ys
toks_append (LineFeed ∷ xs) ys = toks_append xs ys
toks_append (Join end ∷ xs) ys = toks_append xs ys
toks_append (Comment cs ∷ xs) ys = toks_append xs ys

abbrev one : Piece → ℕ
one p = toks (p ∷ [])

cons_toks : (p : Piece) (ps : List Piece) → toks (p ∷ ps) ≡ one p + toks ps
cons_toks p ps = toks_append (p ∷ []) ps

total_step : (t : Bool) (P : Parted) (p : Piece) (ps : List Piece) → total (lines_behind (cut_line P) ps) ≤ total (cut_line P).whole + toks (cut_line P).rest + toks ps
    → total (lines_behind (with_piece P p) ps) ≤ total P.whole + toks (with_piece P p).rest + toks ps
    → total (lines_behind (if t then cut_line P else with_piece P p) ps) ≤ total P.whole + toks P.rest + toks (p ∷ ps)
total_step true P p ps h k = omega (arith, total_append P.whole (P.rest ∷ []), cons_toks p ps)
total_step false P p ps h k = omega (arith, toks_append P.rest (p ∷ []), cons_toks p ps)

total_by : (P : Parted) (ps : List Piece) → total (lines_behind P ps) ≤ total P.whole + toks P.rest + toks ps
total_by P [] = omega (arith, total_append P.whole (P.rest ∷ []))
total_by P (p ∷ ps) = total_step (is_line_end p && (level P.rest == 0)) P p ps (total_by (cut_line P) ps) (total_by (with_piece P p) ps)

-- ---- a token has a glyph, and a glyph a byte

one_at_most : (p : Piece) → one p ≤ 1
one_at_most (Tok kind text) = omega arith
one_at_most (Blank c) = omega arith
one_at_most LineFeed = omega arith
one_at_most (Join end) = omega arith
one_at_most (Comment cs) = omega arith

toks_by_glyphs : (gs : List Glyph) (ps : List Piece) → IsCut gs ps [] → toks ps ≤ length gs
toks_by_glyphs gs [] h = omega arith
toks_by_glyphs gs (p ∷ ps) h =
    let b = piece_begins p h.0 h.2 in
    let sizes : length gs ≡ length (Char b.0 ∷ map Char b.1 ++ h.0) = ap length (h.1 ∙ ap (λ t. t ++ h.0) b.2) in
    omega (arith, sizes, length-append (map Char b.1) h.0, cons_toks p ps, one_at_most p, toks_by_glyphs h.0 ps h.3)

glyphs_by_bytes : (bs : List ℕ) (gs : List Glyph) → Reads bs gs → length gs ≤ length bs
glyphs_by_bytes bs [] h = omega arith
glyphs_by_bytes bs (Char c ∷ gs) h = omega (arith, ap length h.1.1, length-append (encode_utf8 c) h.1.0, length-encode c, len_utf8_bounds c, glyphs_by_bytes h.1.0 gs h.1.2)
glyphs_by_bytes bs (Bad b ∷ gs) h = omega (arith, ap length h.1.1, glyphs_by_bytes h.1.0 gs h.1.2)

file_glyphs : (bytes : List ℕ) (gs : List Glyph) → IsFile bytes gs → length gs ≤ length bytes
file_glyphs bytes gs (inl h) = omega (arith, glyphs_by_bytes bytes (Char 0xFEFF ∷ gs) h)
file_glyphs bytes gs (inr h) = glyphs_by_bytes bytes gs h.0

-- a file has at most four tokens for each byte, and End
pub token_bound : (file : ℕ) (bytes : List ℕ) (tokens : List Token) → Lexes file bytes tokens → length tokens ≤ 4 * length bytes + 1
token_bound file bytes tokens h =
    let count : length tokens ≡ length (laid file [] [] (lines_of h.pieces)) = ap length h.tokens_are in
    let empty : Parted = record { whole = []; rest = [] } in
    let few : total (lines_of h.pieces) ≤ 0 + 0 + toks h.pieces = total_by empty h.pieces in
    omega (arith, count, laid_short file [] [] (lines_of h.pieces), few, toks_by_glyphs h.glyphs h.pieces h.cut, file_glyphs bytes h.glyphs h.read)
