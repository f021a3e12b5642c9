-- Where a piece stands next, and the blocks keep their bounds, no rule on blocks and indentation is broken.
use Rattle.std.proofs.Common.{◌≡◌, ℕ, suc, ◌+◌, ◌-◌, ◌<◌, ◌≤◌, Bool, false, true, not, cond, ◌==◌, List, [], ◌∷◌, ◌++◌, length, fold, filter, take, refl, ap, sym, ◌∙◌, subst, arith, if◌then◌else◌, slice_index, nat_le, one-add, length-append}
use Rattle.std.specs.List.{prefix_len}
use Rattle.std.proofs.lemmas.Bool.{or_parts, or_right, ne_eqb, leb-true, le-leb}
use Rattle.std.proofs.lemmas.List.Sums.{fold-append}
use Rattle.gd_syntax.specs.declared.token.TokenKind.{TokenKind}
use Rattle.gd_rules.specs.declared.rule.Rule.TheVariants as rules
use Rattle.gd_lexis.specs.declared.glyph.Glyph.{Glyph}
use Rattle.gd_lexis.specs.Pieces.{Piece, Tok}
use Rattle.gd_lexis.specs.Lines.{parted, lines_of, is_token, is_logical, lead, is_indentation, depth, kept, innermost, blocks_behind, open_blocks}
use Rattle.gd_lexis.specs.Lexes.{AreBlocks, IsMatched}
use Rattle.gd_lexis.specs.Faults.{Breaks}
use Rattle.gd_lexis.proofs.Heads.{Front, TokenFront, token_front, token_front_of, token_code, token_code_no_gap}
use Rattle.gd_lexis.proofs.Bounds.{token_in_line}

-- ---- a line's first token

pub lead_cons : (q : Piece) (xs : List Piece) → is_token q ≡ false → lead (q ∷ xs) ≡ q ∷ lead xs
lead_cons q xs h =
    ap (λ b. take (cond (not b) (1 + prefix_len (λ p. not (is_token p)) xs) 0) (q ∷ xs)) h ∙ ap (λ n. take n (q ∷ xs)) (one-add (prefix_len (λ p. not (is_token p)) xs))

pub lead_same : (rest : List Piece) (kind : TokenKind) (text : List ℕ) (x : List Piece) → is_logical rest ≡ false → lead (rest ++ Tok kind text ∷ x) ≡ lead rest
lead_same [] kind text x h = refl
lead_same (q ∷ rest) kind text x h =
    let parts = or_parts (is_token q) (is_logical rest) h in
    lead_cons q (rest ++ Tok kind text ∷ x) parts.0 ∙ ap (λ t. q ∷ t) (lead_same rest kind text x parts.1) ∙ sym (lead_cons q rest parts.0)

pub has_token : (rest : List Piece) (kind : TokenKind) (text : List ℕ) (x : List Piece) → is_logical (rest ++ Tok kind text ∷ x) ≡ true
has_token [] kind text x = refl
has_token (q ∷ rest) kind text x = or_right (is_token q) (is_logical (rest ++ Tok kind text ∷ x)) (has_token rest kind text x)

-- what the blocks' bounds say at a line's first token
blocks_here : (before : List Piece) (kind : TokenKind) (text : List ℕ) (ps all : List Piece) → all ≡ before ++ Tok kind text ∷ ps → AreBlocks (lines_of all)
    → is_logical (parted before).rest ≡ false
    → IsMatched (open_blocks (parted before).whole) (depth (parted before).rest)
    × (length (blocks_behind (open_blocks (parted before).whole) (depth (parted before).rest)) ≤ 32)
blocks_here before kind text ps all e h first =
    let rest = (parted before).rest in
    let whole = (parted before).whole in
    let g = token_in_line before kind text ps in
    let line = rest ++ Tok kind text ∷ g.0 in
    let logical : is_logical line ≡ true = has_token rest kind text g.0 in
    let bounds = h whole line g.1 (ap lines_of e ∙ g.2) logical in
    let level : depth line ≡ depth rest = ap (λ t. length (filter is_indentation t)) (lead_same rest kind text g.0 first) in
    let P : ℕ → Type 0 = λ d. IsMatched (open_blocks whole) d in
    let opened : open_blocks (whole ++ line ∷ []) ≡ (if is_logical line then blocks_behind (open_blocks whole) (depth line) else open_blocks whole) =
    fold-append (λ blocks line. if is_logical line then blocks_behind blocks (depth line) else blocks) [] whole (line ∷ []) in
    let behind : open_blocks (whole ++ line ∷ []) ≡ blocks_behind (open_blocks whole) (depth rest) =
    opened ∙ ap (λ b. if b then blocks_behind (open_blocks whole) (depth line) else open_blocks whole) logical ∙ ap (blocks_behind (open_blocks whole)) level in
    let Q : ℕ → Type 0 = λ n. n ≤ 32 in
    (subst P level bounds.0, subst Q (ap length behind) bounds.1)

unmatched : (before : List Piece) (gs : List Glyph) (ps all : List Piece) → all ≡ before ++ ps → AreBlocks (lines_of all) → is_logical (parted before).rest ≡ false
    → (IsMatched (open_blocks (parted before).whole) (depth (parted before).rest) → ⊥) → TokenFront gs ps → ⊥
unmatched before gs ps all e h first none (token_front kind text more rest f g k longest clear) = none (blocks_here before kind text rest all (e ∙ ap (λ t. before ++ t) f) h first).0

pub unmatched_dedent : (before : List Piece) (gs ahead : List Glyph) (ps all : List Piece) → Front gs ps → all ≡ before ++ ps → AreBlocks (lines_of all)
    → Breaks rules.UnmatchedDedent before gs ahead → ⊥
unmatched_dedent before gs ahead ps all h e blocks k =
    let code = token_code gs k.1.1 in
    unmatched before gs ps all e blocks k.1.0 k.2 (token_front_of code.0 code.1 gs ps code.2 (token_code_no_gap code.0 code.3) h)

-- ---- the open blocks rise

abbrev pub Rising : ℕ → List ℕ → Type 0
Rising low [] = Unit {0}
Rising low (b ∷ bs) = (low ≤ b) × Rising b bs

abbrev pub top : ℕ → List ℕ → ℕ
top low [] = low
top low (b ∷ bs) = top b bs

lower : (low low' : ℕ) (bs : List ℕ) → low' ≤ low → Rising low bs → Rising low' bs
lower low low' [] h k = tt
lower low low' (b ∷ bs) h k = (omega (arith, k.0), k.1)

pub top_above : (low : ℕ) (bs : List ℕ) → Rising low bs → low ≤ top low bs
top_above low [] h = omega arith
top_above low (b ∷ bs) h = omega (arith, h.0, top_above b bs h.1)

kept_cons : (b : ℕ) (low d : ℕ) (bs : List ℕ) (t : Bool) → low ≤ b → Rising low (kept d bs) → Rising b (kept d bs) → Rising low (cond t (b ∷ kept d bs) (kept d bs))
kept_cons b low d bs true l h k = (l, k)
kept_cons b low d bs false l h k = h

pub kept_rising : (low d : ℕ) (bs : List ℕ) → Rising low bs → Rising low (kept d bs)
kept_rising low d [] h = tt
kept_rising low d (b ∷ bs) h =
    let more : Rising b (kept d bs) = kept_rising b d bs h.1 in
    kept_cons b low d bs (nat_le b d) h.0 (lower b low (kept d bs) h.0 more) more

top_cons : (b low d : ℕ) (bs : List ℕ) (t : Bool) → (t ≡ true → top b (kept d bs) ≤ d) → top low (kept d bs) ≤ d → top low (cond t (b ∷ kept d bs) (kept d bs)) ≤ d
top_cons b low d bs true h k = h refl
top_cons b low d bs false h k = k

pub kept_top : (low d : ℕ) (bs : List ℕ) → low ≤ d → top low (kept d bs) ≤ d
kept_top low d [] h = h
kept_top low d (b ∷ bs) h = top_cons b low d bs (nat_le b d) (λ e. kept_top b d bs (leb-true b d e)) (kept_top low d bs h)

pub push_rising : (low d : ℕ) (bs : List ℕ) → Rising low bs → top low bs ≤ d → Rising low (bs ++ d ∷ [])
push_rising low d [] h k = (k, tt)
push_rising low d (b ∷ bs) h k = (h.0, push_rising b d bs h.1 k)

pub either_rising : (t : Bool) (xs ys : List ℕ) → Rising 0 xs → Rising 0 ys → Rising 0 (if t then xs else ys)
either_rising true xs ys h k = h
either_rising false xs ys h k = k

behind_rising : (d : ℕ) (bs : List ℕ) → Rising 0 bs → Rising 0 (blocks_behind bs d)
behind_rising d bs h =
    let rising : Rising 0 (kept d bs) = kept_rising 0 d bs h in
    either_rising (d == innermost (kept d bs)) (kept d bs) (kept d bs ++ d ∷ []) rising (push_rising 0 d (kept d bs) rising (kept_top 0 d bs (omega arith)))

rising_by : (bs : List ℕ) (lines : List (List Piece)) → Rising 0 bs → Rising 0 (fold (λ blocks line. if is_logical line then blocks_behind blocks (depth line) else blocks) bs lines)
rising_by bs [] h = h
rising_by bs (line ∷ lines) h =
    rising_by (if is_logical line then blocks_behind bs (depth line) else bs) lines (either_rising (is_logical line) (blocks_behind bs (depth line)) bs (behind_rising (depth line) bs h) h)

pub blocks_rise : (lines : List (List Piece)) → Rising 0 (open_blocks lines)
blocks_rise lines = rising_by [] lines tt

-- the innermost open block is the last
last_step : (b c : ℕ) (cs : List ℕ) → slice_index (b ∷ c ∷ cs) (suc (suc (length cs)) - 1) ≡ slice_index (c ∷ cs) (suc (length cs) - 1)
last_step b c cs =
    let index : suc (suc (length cs)) - 1 ≡ suc (suc (length cs) - 1) = omega arith in
    ap (λ i. slice_index (b ∷ c ∷ cs) i) index

innermost_top : (b : ℕ) (bs : List ℕ) → innermost (b ∷ bs) ≡ top b bs
innermost_top b [] = refl
innermost_top b (c ∷ cs) = last_step b c cs ∙ innermost_top c cs

pub innermost_is : (bs : List ℕ) → innermost bs ≡ top 0 bs
innermost_is [] = refl
innermost_is (b ∷ bs) = innermost_top b bs

pub kept_all : (low d : ℕ) (bs : List ℕ) → Rising low bs → top low bs ≤ d → kept d bs ≡ bs
kept_all low d [] h k = refl
kept_all low d (b ∷ bs) h k =
    let fits : nat_le b d ≡ true = le-leb b d (omega (arith, top_above b bs h.1)) in
    ap (λ t. cond t (b ∷ kept d bs) (kept d bs)) fits ∙ ap (λ t. b ∷ t) (kept_all b d bs h.1 k)

deeper_block : (bs : List ℕ) (d : ℕ) → Rising 0 bs → innermost bs < d → length (blocks_behind bs d) ≡ length bs + 1
deeper_block bs d h k =
    let all : kept d bs ≡ bs = kept_all 0 d bs h (omega (arith, innermost_is bs)) in
    let apart : (d == innermost bs) ≡ false = ne_eqb d (innermost bs) (λ e. omega arith) in
    let opened : blocks_behind bs d ≡ bs ++ d ∷ [] =
    ap (λ t. if d == innermost t then t else t ++ d ∷ []) all ∙ ap (λ t. if t then bs else bs ++ d ∷ []) apart in
    ap length opened ∙ length-append bs (d ∷ [])

too_deep : (before : List Piece) (gs : List Glyph) (ps all : List Piece) → all ≡ before ++ ps → AreBlocks (lines_of all) → is_logical (parted before).rest ≡ false
    → innermost (open_blocks (parted before).whole) < depth (parted before).rest → 32 ≤ length (open_blocks (parted before).whole) → TokenFront gs ps → ⊥
too_deep before gs ps all e h first less many (token_front kind text more rest f g k longest clear) =
    let bounds = blocks_here before kind text rest all (e ∙ ap (λ t. before ++ t) f) h first in
    let opened = open_blocks (parted before).whole in
    let deeper = deeper_block opened (depth (parted before).rest) (blocks_rise (parted before).whole) less in
    omega (arith, bounds.1, deeper)

pub blocks_too_deep : (before : List Piece) (gs ahead : List Glyph) (ps all : List Piece) → Front gs ps → all ≡ before ++ ps → AreBlocks (lines_of all)
    → Breaks rules.BlocksTooDeep before gs ahead → ⊥
blocks_too_deep before gs ahead ps all h e blocks k =
    let code = token_code gs k.1.1 in
    too_deep before gs ps all e blocks k.1.0 k.2 k.3 (token_front_of code.0 code.1 gs ps code.2 (token_code_no_gap code.0 code.3) h)
