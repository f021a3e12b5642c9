-- What one piece more makes of the tokens.
use Rattle.std.proofs.Common.{◌≡◌, ℕ, Bool, true, false, List, [], ◌∷◌, ◌++◌, length, fold, filter, refl, ap, sym, ◌∙◌, append_assoc, append-nil, true≢false, if◌then◌else◌}
use Rattle.gd_syntax.specs.declared.token.Token.{Token}
use Rattle.gd_syntax.specs.declared.token.TokenKind.{TokenKind}
use Rattle.gd_lexis.specs.declared.glyph.Glyph.{Glyph}
use Rattle.gd_lexis.specs.declared.glyph.Glyph.TheVariants.{Char}
use Rattle.gd_lexis.specs.Chars.{place_behind}
use Rattle.gd_lexis.specs.Pieces.{Piece, Blank, LineFeed, Join, Comment, Tok, text_of}
use Rattle.gd_lexis.specs.Lines.{is_token, is_logical, is_indentation, lead, depth, level, texts, token, tokens_in, turn, tokens_of_line, tokens_if_logical, last_tokens, laid, lines_of, blocks_after, open_blocks, blocks_behind}
use Rattle.gd_lexer.specs.Begun.{whole, line, blocks, glyphs_of, laid_whole, begun_line, begun, newline_if}
use Rattle.gd_lexer.proofs.CutLemmas.{tokens_more}
use Rattle.gd_lexer.proofs.LineLemmas.{Stays, same_whole, longer_line, more_whole, empty_line, silent_logical, token_logical, token_lead, open_lead, lead_whole, glyphs_are}

silent_in : (file : ℕ) (before : List Glyph) (p : Piece) → is_token p ≡ false → tokens_in file before (p ∷ []) ≡ []
silent_in file before (Blank c) h = refl
silent_in file before LineFeed h = refl
silent_in file before (Join e) h = refl
silent_in file before (Comment cs) h = refl
silent_in file before (Tok k text) h = absurd (true≢false h)

silent_tokens : (file : ℕ) (before : List Glyph) (xs : List Piece) (p : Piece) → is_token p ≡ false → tokens_in file before (xs ++ p ∷ []) ≡ tokens_in file before xs
silent_tokens file before xs p h =
    tokens_more file before xs p ∙ ap (λ t. tokens_in file before xs ++ t) (silent_in file (before ++ texts xs) p h) ∙ append-nil (tokens_in file before xs)

no_tokens : (file : ℕ) (before : List Glyph) (xs : List Piece) → is_logical xs ≡ false → tokens_in file before xs ≡ []
no_tokens file before [] h = refl
no_tokens file before (Blank c ∷ xs) h = no_tokens file (before ++ text_of (Blank c)) xs h
no_tokens file before (LineFeed ∷ xs) h = no_tokens file (before ++ text_of LineFeed) xs h
no_tokens file before (Join e ∷ xs) h = no_tokens file (before ++ text_of (Join e)) xs h
no_tokens file before (Comment cs ∷ xs) h = no_tokens file (before ++ text_of (Comment cs)) xs h
no_tokens file before (Tok k text ∷ xs) h = absurd (true≢false h)

-- ---- the line that is read

abbrev line_turn : ℕ → List Glyph → List ℕ → List Piece → List Token
line_turn file before bs xs = turn (place_behind file (before ++ texts (lead xs))) bs (depth xs)

abbrev shown : ℕ → List Glyph → List ℕ → List Piece → List Token
shown file before bs xs = line_turn file before bs xs ++ tokens_in file before xs

begun_open : (file : ℕ) (before : List Glyph) (bs : List ℕ) (xs : List Piece) → is_logical xs ≡ true → begun_line file before bs xs ≡ shown file before bs xs
begun_open file before bs xs h = ap (λ b. if b then shown file before bs xs else []) h

begun_shut : (file : ℕ) (before : List Glyph) (bs : List ℕ) (xs : List Piece) → is_logical xs ≡ false → begun_line file before bs xs ≡ []
begun_shut file before bs xs h = ap (λ b. if b then shown file before bs xs else []) h

same_turn : (file : ℕ) (before : List Glyph) (bs : List ℕ) (xs ys : List Piece) → lead xs ≡ lead ys → line_turn file before bs xs ≡ line_turn file before bs ys
same_turn file before bs xs ys e = ap (λ (t : List Piece). turn (place_behind file (before ++ texts t)) bs (length (filter is_indentation t))) e

silent_by : (b : Bool) (file : ℕ) (before : List Glyph) (bs : List ℕ) (xs : List Piece) (p : Piece) → is_logical xs ≡ b → is_token p ≡ false → begun_line file before bs (xs ++ p ∷ []) ≡ begun_line file before bs xs
silent_by true file before bs xs p h k =
    begun_open file before bs (xs ++ p ∷ []) (silent_logical xs p k ∙ h) ∙ ap (λ t. t ++ tokens_in file before (xs ++ p ∷ [])) (same_turn file before bs (xs ++ p ∷ []) xs (open_lead xs p h))
    ∙ ap (λ t. line_turn file before bs xs ++ t) (silent_tokens file before xs p k) ∙ sym (begun_open file before bs xs h)
silent_by false file before bs xs p h k = begun_shut file before bs (xs ++ p ∷ []) (silent_logical xs p k ∙ h) ∙ sym (begun_shut file before bs xs h)

token_begun : (file : ℕ) (before : List Glyph) (bs : List ℕ) (xs : List Piece) (kind : TokenKind) (text : List ℕ)
    → begun_line file before bs (xs ++ Tok kind text ∷ []) ≡ (line_turn file before bs xs ++ tokens_in file before xs) ++ token (place_behind file (before ++ texts xs)) kind ∷ []
token_begun file before bs xs kind text =
    let p = Tok kind text in
    begun_open file before bs (xs ++ p ∷ []) (token_logical xs p refl) ∙ ap (λ t. t ++ tokens_in file before (xs ++ p ∷ [])) (same_turn file before bs (xs ++ p ∷ []) xs (token_lead xs p refl))
    ∙ ap (λ t. line_turn file before bs xs ++ t) (tokens_more file before xs p) ∙ sym (append_assoc (line_turn file before bs xs) (tokens_in file before xs) (tokens_in file (before ++ texts xs) (p ∷ [])))

-- ---- all tokens so far

-- a piece that is no token and ends no line
pub silent_begun : (file : ℕ) (ps : List Piece) (p : Piece) → Stays ps p → is_token p ≡ false → begun file (ps ++ p ∷ []) ≡ begun file ps
silent_begun file ps p h k =
    ap (λ w. laid_whole file [] [] w ++ begun_line file (glyphs_of w) (open_blocks w) (line (ps ++ p ∷ []))) (same_whole ps p h)
    ∙ ap (λ l. laid_whole file [] [] (whole ps) ++ begun_line file (glyphs_of (whole ps)) (blocks ps) l) (longer_line ps p h)
    ∙ ap (λ t. laid_whole file [] [] (whole ps) ++ t) (silent_by (is_logical (line ps)) file (glyphs_of (whole ps)) (blocks ps) (line ps) p refl k)

grown : (file : ℕ) (ps : List Piece) (kind : TokenKind) (text : List ℕ)
    → begun file (ps ++ Tok kind text ∷ [])
    ≡ laid_whole file [] [] (whole ps) ++ ((line_turn file (glyphs_of (whole ps)) (blocks ps) (line ps) ++ tokens_in file (glyphs_of (whole ps)) (line ps)) ++ token (place_behind file (texts ps)) kind ∷ [])
grown file ps kind text =
    let p = Tok kind text in
    ap (λ w. laid_whole file [] [] w ++ begun_line file (glyphs_of w) (open_blocks w) (line (ps ++ p ∷ []))) (same_whole ps p refl)
    ∙ ap (λ l. laid_whole file [] [] (whole ps) ++ begun_line file (glyphs_of (whole ps)) (blocks ps) l) (longer_line ps p refl)
    ∙ ap (λ t. laid_whole file [] [] (whole ps) ++ t) (token_begun file (glyphs_of (whole ps)) (blocks ps) (line ps) kind text)
    ∙ ap (λ g. laid_whole file [] [] (whole ps) ++ ((line_turn file (glyphs_of (whole ps)) (blocks ps) (line ps) ++ tokens_in file (glyphs_of (whole ps)) (line ps)) ++ token (place_behind file g) kind ∷ [])) (glyphs_are ps)

-- a token that is not the first of its line
pub later_begun : (file : ℕ) (ps : List Piece) (kind : TokenKind) (text : List ℕ) → is_logical (line ps) ≡ true
    → begun file (ps ++ Tok kind text ∷ []) ≡ begun file ps ++ token (place_behind file (texts ps)) kind ∷ []
later_begun file ps kind text h =
    let last : List Token = token (place_behind file (texts ps)) kind ∷ [] in
    let gs = glyphs_of (whole ps) in
    grown file ps kind text ∙ sym (append_assoc (laid_whole file [] [] (whole ps)) (shown file gs (blocks ps) (line ps)) last)
    ∙ ap (λ t. (laid_whole file [] [] (whole ps) ++ t) ++ last) (sym (begun_open file gs (blocks ps) (line ps) h))

-- the first token of its line
pub first_begun : (file : ℕ) (ps : List Piece) (kind : TokenKind) (text : List ℕ) → is_logical (line ps) ≡ false
    → begun file (ps ++ Tok kind text ∷ []) ≡ (begun file ps ++ turn (place_behind file (texts ps)) (blocks ps) (depth (line ps))) ++ token (place_behind file (texts ps)) kind ∷ []
first_begun file ps kind text h =
    let last : List Token = token (place_behind file (texts ps)) kind ∷ [] in
    let gs = glyphs_of (whole ps) in
    let old = laid_whole file [] [] (whole ps) in
    let alone : begun file ps ≡ old = ap (λ t. old ++ t) (begun_shut file gs (blocks ps) (line ps) h) ∙ append-nil old in
    let turned : line_turn file gs (blocks ps) (line ps) ≡ turn (place_behind file (texts ps)) (blocks ps) (depth (line ps)) =
    ap (λ t. turn (place_behind file (gs ++ texts t)) (blocks ps) (depth (line ps))) (lead_whole (line ps) h) ∙ ap (λ g. turn (place_behind file g) (blocks ps) (depth (line ps))) (glyphs_are ps) in
    grown file ps kind text
    ∙ ap (λ t. old ++ ((line_turn file gs (blocks ps) (line ps) ++ t) ++ last)) (no_tokens file gs (line ps) h)
    ∙ ap (λ t. old ++ (t ++ last)) (append-nil (line_turn file gs (blocks ps) (line ps)) ∙ turned)
    ∙ sym (append_assoc old (turn (place_behind file (texts ps)) (blocks ps) (depth (line ps))) last)
    ∙ ap (λ t. (t ++ turn (place_behind file (texts ps)) (blocks ps) (depth (line ps))) ++ last) (sym alone)

-- ---- whole lines

line_tokens : (b : Bool) (file : ℕ) (before : List Glyph) (bs : List ℕ) (xs : List Piece)
    → (if b then tokens_of_line file before bs xs else []) ≡ (if b then shown file before bs xs else []) ++ newline_if b (place_behind file (before ++ texts xs))
line_tokens true file before bs xs = refl
line_tokens false file before bs xs = refl

blocks_from : List ℕ → List (List Piece) → List ℕ
blocks_from bs lines = fold (λ cs l. if is_logical l then blocks_behind cs (depth l) else cs) bs lines

-- the glyphs behind a line
abbrev past : List Glyph → List Piece → List Glyph
past before l = before ++ texts l ++ Char 10 ∷ []

past_line : (before : List Glyph) (l : List Piece) (more : List Glyph) → past before l ++ more ≡ before ++ ((texts l ++ Char 10 ∷ []) ++ more)
past_line before l more = ap (λ g. g ++ more) (append_assoc before (texts l) (Char 10 ∷ [])) ∙ append_assoc before (texts l ++ Char 10 ∷ []) more

laid_more : (file : ℕ) (before : List Glyph) (bs : List ℕ) (lines : List (List Piece)) (xs : List Piece)
    → laid_whole file before bs (lines ++ xs ∷ []) ≡ laid_whole file before bs lines ++ tokens_if_logical file (before ++ glyphs_of lines) (blocks_from bs lines) xs
unfolding blocks_from
laid_more file before bs [] xs = append-nil (tokens_if_logical file before bs xs) ∙ ap (λ g. tokens_if_logical file g bs xs) (sym (append-nil before))
laid_more file before bs (l ∷ lines) xs =
    ap (λ t. tokens_if_logical file before bs l ++ t) (laid_more file (past before l) (blocks_after bs l) lines xs)
    ∙ sym (append_assoc (tokens_if_logical file before bs l) (laid_whole file (past before l) (blocks_after bs l) lines) (tokens_if_logical file (past before l ++ glyphs_of lines) (blocks_from (blocks_after bs l) lines) xs))
    ∙ ap (λ g. laid_whole file before bs (l ∷ lines) ++ tokens_if_logical file g (blocks_from (blocks_after bs l) lines) xs) (past_line before l (glyphs_of lines))

-- the line ends
pub feed_begun : (file : ℕ) (ps : List Piece) → level (line ps) ≡ 0 → begun file (ps ++ LineFeed ∷ []) ≡ begun file ps ++ newline_if (is_logical (line ps)) (place_behind file (texts ps))
unfolding blocks_from
feed_begun file ps h =
    let gs = glyphs_of (whole ps) in
    let old = laid_whole file [] [] (whole ps) in
    let now = begun_line file gs (blocks ps) (line ps) in
    let end = newline_if (is_logical (line ps)) (place_behind file (gs ++ texts (line ps))) in
    ap (λ l. laid_whole file [] [] (whole (ps ++ LineFeed ∷ [])) ++ begun_line file (glyphs_of (whole (ps ++ LineFeed ∷ []))) (blocks (ps ++ LineFeed ∷ [])) l) (empty_line ps h)
    ∙ append-nil (laid_whole file [] [] (whole (ps ++ LineFeed ∷ [])))
    ∙ ap (λ w. laid_whole file [] [] w) (more_whole ps h)
    ∙ laid_more file [] [] (whole ps) (line ps)
    ∙ ap (λ t. old ++ t) (line_tokens (is_logical (line ps)) file gs (blocks ps) (line ps))
    ∙ sym (append_assoc old now end)
    ∙ ap (λ g. (old ++ now) ++ newline_if (is_logical (line ps)) (place_behind file g)) (glyphs_are ps)

-- ---- the file's end

-- what a line that ends the file has, and what comes behind it
abbrev ending : ℕ → List Glyph → List Glyph → List ℕ → List Piece → List Token
ending file before behind bs xs = tokens_if_logical file before bs xs ++ last_tokens (place_behind file behind) (blocks_after bs xs)

behind_line : (file : ℕ) (before : List Glyph) (bs : List ℕ) (l : List Piece) (tail : List (List Piece)) (xs : List Piece) (more : List Token)
    → more ≡ laid_whole file (past before l) (blocks_after bs l) tail ++ ending file (past before l ++ glyphs_of tail) (past before l ++ (glyphs_of tail ++ texts xs)) (blocks_from (blocks_after bs l) tail) xs
    → tokens_if_logical file before bs l ++ more
    ≡ laid_whole file before bs (l ∷ tail) ++ ending file (before ++ glyphs_of (l ∷ tail)) (before ++ (glyphs_of (l ∷ tail) ++ texts xs)) (blocks_from bs (l ∷ tail)) xs
unfolding blocks_from
behind_line file before bs l tail xs more e =
    let one = texts l ++ Char 10 ∷ [] in
    let cs = blocks_from (blocks_after bs l) tail in
    let first = tokens_if_logical file before bs l in
    let rest = laid_whole file (past before l) (blocks_after bs l) tail in
    ap (λ t. first ++ t) e ∙ sym (append_assoc first rest (ending file (past before l ++ glyphs_of tail) (past before l ++ (glyphs_of tail ++ texts xs)) cs xs))
    ∙ ap (λ g. (first ++ rest) ++ ending file g (past before l ++ (glyphs_of tail ++ texts xs)) cs xs) (past_line before l (glyphs_of tail))
    ∙ ap (λ g. (first ++ rest) ++ ending file (before ++ (one ++ glyphs_of tail)) g cs xs) (past_line before l (glyphs_of tail ++ texts xs) ∙ ap (λ g. before ++ g) (sym (append_assoc one (glyphs_of tail) (texts xs))))

laid_last : (file : ℕ) (before : List Glyph) (bs : List ℕ) (lines : List (List Piece)) (xs : List Piece)
    → laid file before bs (lines ++ xs ∷ []) ≡ laid_whole file before bs lines ++ ending file (before ++ glyphs_of lines) (before ++ (glyphs_of lines ++ texts xs)) (blocks_from bs lines) xs
unfolding blocks_from
laid_last file before bs [] xs = ap (λ g. ending file g (before ++ texts xs) bs xs) (sym (append-nil before))
laid_last file before bs (l ∷ []) xs = behind_line file before bs l [] xs _ (laid_last file (past before l) (blocks_after bs l) [] xs)
laid_last file before bs (l ∷ m ∷ lines) xs = behind_line file before bs l (m ∷ lines) xs _ (laid_last file (past before l) (blocks_after bs l) (m ∷ lines) xs)

pub file_end : (file : ℕ) (ps : List Piece)
    → laid file [] [] (lines_of ps) ≡ begun file ps ++ (newline_if (is_logical (line ps)) (place_behind file (texts ps)) ++ last_tokens (place_behind file (texts ps)) (blocks_after (blocks ps) (line ps)))
unfolding blocks_from
file_end file ps =
    let gs = glyphs_of (whole ps) in
    let old = laid_whole file [] [] (whole ps) in
    let now = begun_line file gs (blocks ps) (line ps) in
    let end : List Glyph → List Token = λ g. newline_if (is_logical (line ps)) (place_behind file g) ++ last_tokens (place_behind file g) (blocks_after (blocks ps) (line ps)) in
    let last = last_tokens (place_behind file (gs ++ texts (line ps))) (blocks_after (blocks ps) (line ps)) in
    laid_last file [] [] (whole ps) (line ps)
    ∙ ap (λ t. old ++ (t ++ last)) (line_tokens (is_logical (line ps)) file gs (blocks ps) (line ps))
    ∙ ap (λ t. old ++ t) (append_assoc now (newline_if (is_logical (line ps)) (place_behind file (gs ++ texts (line ps)))) last)
    ∙ sym (append_assoc old now (end (gs ++ texts (line ps))))
    ∙ ap (λ g. (old ++ now) ++ end g) (glyphs_are ps)
