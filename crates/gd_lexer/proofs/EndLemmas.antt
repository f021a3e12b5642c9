-- What was read of a whole file.
use Rattle.std.proofs.Common.{◌≡◌, ℕ, zero, suc, ◌-◌, ◌≤◌, Bool, true, false, cond, ◌==◌, List, [], ◌∷◌, ◌++◌, length, replicate, filter, fold, refl, ap, sym, ◌∙◌, arith, subst, append_assoc, true≢false, if◌then◌else◌, inl, inr}
use Rattle.std.specs.Prelude.{◌⊎◌, All, Option, Some, None}
use Rattle.std.proofs.lemmas.List.{append_cancel_right}
use Rattle.std.proofs.lemmas.List.Elements.{All-nil, All-cons, All-head, All-tail}
use Rattle.gd_syntax.specs.declared.pos.Pos.{Pos}
use Rattle.gd_syntax.specs.declared.token.Token.{Token}
use Rattle.gd_syntax.specs.declared.token.TokenKind.TheVariants as kinds
use Rattle.gd_lexis.specs.declared.glyph.Glyph.{Glyph}
use Rattle.gd_lexis.specs.Chars.{place_behind, IsFile}
use Rattle.gd_lexis.specs.Pieces.{Piece, Blank, IsCut}
use Rattle.gd_lexis.specs.Lines.{lines_of, is_logical, is_indentation, lead, depth, token, kept, innermost, blocks_behind, blocks_after, open_blocks, last_tokens}
use Rattle.gd_lexis.specs.Lexes.{IsWithin, IndentBy, Lexes}
use Rattle.gd_lexis.proofs.Levels.{Rising, top, innermost_is, kept_rising, kept_top, push_rising, top_above}
use Rattle.gd_lexis.proofs.Indents.{all_front}
use Rattle.gd_lexer.specs.declared.lines.Blank.{Blank as Kind}
use Rattle.gd_lexer.specs.declared.lines.Blank.TheVariants.{Space, Tab}
use Rattle.gd_lexer.specs.declared.lines.Lead.{Lead}
use Rattle.gd_lexer.specs.declared.lines.Lines.{Lines}
use Rattle.gd_lexer.specs.Cursor.{Spot, IsAt}
use Rattle.gd_lexer.specs.Begun.{whole, line, blocks, begun, newline_if}
use Rattle.gd_lexer.specs.Blanks.{blanks, blanks_of, AreOf}
use Rattle.gd_lexer.specs.Lines.{new_lead}
use Rattle.gd_lexer.specs.Laid.{IsLaid, AreLaid}
use Rattle.gd_lexer.specs.Opening.{AreClosed}
use Rattle.gd_lexer.proofs.LineLemmas.{open_blocks_more}
use Rattle.gd_lexer.proofs.BegunLemmas.{file_end}
use Rattle.gd_lexer.proofs.BoundLemmas.{within_nil}
use Rattle.gd_lexer.proofs.BlockLemmas.{no_blocks}

-- ---- the start

pub laid_start : (file : ℕ) (s : Spot) (running : List ℕ) (l : Lines) (tokens : List Token) → IsAt file s.glyphs s → running ≡ 0 ∷ [] → l.is_open ≡ false → l.blocks ≡ [] → l.kind ≡ None → l.lead ≡ new_lead None
    → tokens ≡ [] → IsLaid file s.glyphs s running l tokens
laid_start file s running l tokens at is shut none kind lead e =
    let before : at.0 ≡ [] = append_cancel_right at.0 [] s.glyphs (sym at.1) in
    let P : Option Kind → Type 0 = λ k. AreOf k [] in
    let Q : Lead → Type 0 = λ t. AreOf t.kind [] in
    record {
      pieces = [];
      cut = refl;
      place = at.2 ∙ ap (place_behind file) before;
      running_are = is;
      lines_are = record {
        has_token = shut;
        level = ap (λ (t : Lead). t.level) lead;
        open_blocks = none;
        settled = subst P (sym kind) refl;
        kind = λ _. subst Q (sym lead) refl;
        mixed = rw (ap (λ (t : Lead). t.mixed) lead) tt;
      };
      tokens_are = e;
      within = All-cons IsWithin [] [] within_nil (All-nil IsWithin);
      matched = no_blocks;
    }

-- ---- by what the file is indented

abbrev IsOne : ℕ → Piece → Type 0
IsOne c p = is_indentation p ≡ true → p ≡ Blank c

one_by_test : (c : ℕ) (p : Piece) (ps : List Piece) (b : Bool) → is_indentation p ≡ b → All (λ q. q ≡ Blank c) (cond b (p ∷ filter is_indentation ps) (filter is_indentation ps))
    → (IsOne c p × All (λ q. q ≡ Blank c) (filter is_indentation ps))
one_by_test c p ps true e h = (λ _. All-head (λ q. q ≡ Blank c) p (filter is_indentation ps) h, All-tail (λ q. q ≡ Blank c) p (filter is_indentation ps) h)
one_by_test c p ps false e h = (λ i. absurd (true≢false (sym i ∙ e)), h)

each_one : (c : ℕ) (ps : List Piece) → All (λ q. q ≡ Blank c) (filter is_indentation ps) → All (IsOne c) ps
each_one c [] h = All-nil (IsOne c)
each_one c (p ∷ ps) h = let k = one_by_test c p ps (is_indentation p) refl h in All-cons (IsOne c) p ps k.0 (each_one c ps k.1)

all_back : {X : Type 0} (P : X → Type 0) (xs ys : List X) → All P (xs ++ ys) → All P ys
all_back P [] ys h = h
all_back P (x ∷ xs) ys h = all_back P xs ys (All-tail P x (xs ++ ys) h)

abbrev IsIndented : ℕ → List Piece → Type 0
IsIndented c line = is_logical line ≡ true → All (IsOne c) (lead line)

line_indented : (c : ℕ) (line : List Piece) → All (λ q. q ≡ Blank c) (if is_logical line then blanks line else []) → IsIndented c line
line_indented c line h logical =
    let P : Bool → Type 0 = λ b. All (λ q. q ≡ Blank c) (if b then blanks line else []) in
    each_one c (lead line) (subst P logical h)

indented : (c : ℕ) (lines : List (List Piece)) → All (λ q. q ≡ Blank c) (blanks_of lines) → IndentBy c lines
indented c [] h = All-nil (IsIndented c)
indented c (line ∷ lines) h =
    let these : List Piece = if is_logical line then blanks line else [] in
    All-cons (IsIndented c) line lines (line_indented c line (all_front (λ q. q ≡ Blank c) these (blanks_of lines) h)) (indented c lines (all_back (λ q. q ≡ Blank c) these (blanks_of lines) h))

one_kind : (kind : Option Kind) (lines : List (List Piece)) → AreOf kind (blanks_of lines) → IndentBy 32 lines ⊎ IndentBy 9 lines
one_kind None lines a = let P : List Piece → Type 0 = λ t. All (λ q. q ≡ Blank 32) t in inl (indented 32 lines (subst P (sym a) (All-nil (λ q. q ≡ Blank 32))))
one_kind (Some Space) lines a =
    let P : List Piece → Type 0 = λ t. All (λ q. q ≡ Blank 32) t in
    inl (indented 32 lines (subst P (sym a.1) (All-cons (λ q. q ≡ Blank 32) (Blank 32) a.0 refl a.2)))
one_kind (Some Tab) lines a =
    let P : List Piece → Type 0 = λ t. All (λ q. q ≡ Blank 9) t in
    inr (indented 9 lines (subst P (sym a.1) (All-cons (λ q. q ≡ Blank 9) (Blank 9) a.0 refl a.2)))

-- ---- the open blocks have levels above 0

abbrev opened : Bool → ℕ → List ℕ → List ℕ
opened b d ks = if b then ks else ks ++ d ∷ []

no_low : (ks : List ℕ) (d : ℕ) → Rising 1 ks → top 0 ks ≤ d → d ≡ 0 → ks ≡ []
no_low [] d h k e = refl
no_low (b ∷ ks) d h k e = let low : b ≤ d = omega (arith, top_above b ks h.1, k) in absurd (omega (arith, h.0))

above_cases : (d : ℕ) → (d ≡ 0) ⊎ (1 ≤ d)
above_cases zero = inl refl
above_cases (suc d) = inr (omega arith)

turn_rising : (d : ℕ) (ks : List ℕ) (b : Bool) → (d == innermost ks) ≡ b → Rising 1 ks → top 0 ks ≤ d → (d ≡ 0) ⊎ (1 ≤ d) → Rising 1 (opened b d ks)
turn_rising d ks true e h k low = h
turn_rising d ks false e h k (inl z) =
    let none : ks ≡ [] = no_low ks d h k z in
    let same : (d == innermost ks) ≡ true = ap (λ t. d == innermost t) none ∙ ap (λ n. n == 0) z in
    absurd (true≢false (sym same ∙ e))
turn_rising d ks false e h k (inr p) = push_rising 1 d ks h (high ks h k)
  where
    high : (ks : List ℕ) → Rising 1 ks → top 0 ks ≤ d → top 1 ks ≤ d
    high [] h k = p
    high (b ∷ ks) h k = k

lines_rising : (bs : List ℕ) (lines : List (List Piece)) → Rising 1 bs → Rising 1 (fold (λ cs l. if is_logical l then blocks_behind cs (depth l) else cs) bs lines)
lines_rising bs [] h = h
lines_rising bs (l ∷ lines) h =
    lines_rising (if is_logical l then blocks_behind bs (depth l) else bs) lines
    (either (is_logical l) (turn_rising (depth l) (kept (depth l) bs) (depth l == innermost (kept (depth l) bs)) refl (kept_rising 1 (depth l) bs h) (kept_top 0 (depth l) bs (omega arith)) (above_cases (depth l))))
  where
    either : (b : Bool) → Rising 1 (blocks_behind bs (depth l)) → Rising 1 (if b then blocks_behind bs (depth l) else bs)
    either true k = k
    either false k = h

rising_front : (low : ℕ) (bs more : List ℕ) → Rising low (bs ++ more) → Rising low bs
rising_front low [] more h = tt
rising_front low (b ∷ bs) more h = (h.0, rising_front b bs more h.1)

none_left : (lines : List (List Piece)) (bs left closed : List ℕ) → bs ≡ open_blocks lines → bs ≡ left ++ closed → innermost left ≤ 0 → left ≡ []
none_left lines bs left closed e f low =
    let P : List ℕ → Type 0 = λ t. Rising 1 t in
    let whole : Rising 1 (left ++ closed) = subst P (sym e ∙ f) (lines_rising [] lines tt) in
    no_low left 0 (rising_front 1 left closed whole) (omega (arith, innermost_is left)) refl

-- ---- the end

pub laid_end : (file : ℕ) (all : List Glyph) (s : Spot) (running : List ℕ) (l : Lines) (tokens ended closed out : List Token) (left : List ℕ) → s.glyphs ≡ [] → ended ≡ tokens ++ newline_if l.is_open s.pos
    → AreClosed 0 s.pos l.blocks left ended closed → innermost left ≤ 0 → out ≡ closed ++ token s.pos kinds.End ∷ [] → IsLaid file all s running l tokens → AreLaid file all out
laid_end file all s running l tokens ended closed out left e n c low pushed h =
    let ps = h.pieces in
    let P : List Glyph → Type 0 = λ g. IsCut all ps g in
    let dedent : Token = token s.pos kinds.Dedent in
    let end : List Token = token s.pos kinds.End ∷ [] in
    let open_are : l.blocks ≡ open_blocks (lines_of ps) = h.lines_are.open_blocks ∙ sym (open_blocks_more (whole ps) (line ps)) in
    let none : left ≡ [] = none_left (lines_of ps) l.blocks left c.front.0 open_are c.front.1 low in
    let count : length l.blocks - length left ≡ length l.blocks = ap (λ (t : List ℕ). length l.blocks - length t) none ∙ omega arith in
    let dedents : closed ≡ ended ++ replicate (length l.blocks) dedent = c.dedents ∙ ap (λ k. ended ++ replicate k dedent) count in
    let newline = newline_if (is_logical (line ps)) s.pos in
    let last : Pos → List ℕ → List Token = λ at bs. newline_if (is_logical (line ps)) at ++ last_tokens at bs in
    record {
      pieces = ps;
      cut = subst P e h.cut;
      within = h.within;
      matched = h.matched;
      indented = one_kind l.kind (lines_of ps) h.lines_are.settled;
      tokens_are =
          pushed ∙ ap (λ ts. ts ++ end) dedents ∙ append_assoc ended (replicate (length l.blocks) dedent) end ∙ ap (λ ts. ts ++ last_tokens s.pos l.blocks) n
          ∙ append_assoc tokens (newline_if l.is_open s.pos) (last_tokens s.pos l.blocks)
          ∙ ap (λ b. tokens ++ (newline_if b s.pos ++ last_tokens s.pos l.blocks)) h.lines_are.has_token
          ∙ ap (λ ts. ts ++ last s.pos l.blocks) h.tokens_are
          ∙ ap (λ bs. begun file ps ++ last s.pos bs) h.lines_are.open_blocks
          ∙ ap (λ at. begun file ps ++ last at (blocks_after (blocks ps) (line ps))) h.place
          ∙ sym (file_end file ps);
    }

pub file_laid : (file : ℕ) (bytes : List ℕ) (all : List Glyph) (tokens : List Token) → IsFile bytes all → AreLaid file all tokens → Lexes file bytes tokens
file_laid file bytes all tokens read h =
    record { glyphs = all; read = read; pieces = h.pieces; cut = h.cut; within = h.within; blocks = h.matched; indented = h.indented; tokens_are = h.tokens_are }
