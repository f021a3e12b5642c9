-- What was read of a file, behind one piece more.
use Rattle.std.proofs.Common.{◌≡◌, ℕ, ◌<◌, ◌≤◌, Bool, true, false, ◌==◌, ◌&&◌, nat_lt, List, [], ◌∷◌, ◌++◌, length, refl, ap, sym, ◌∙◌, arith, subst, append_assoc, if◌then◌else◌, inl, inr}
use Rattle.std.specs.Prelude.{◌⊎◌, All, None}
use Rattle.std.proofs.lemmas.Bool.{ltb-false, ne_eqb, ltb-true}
use Rattle.std.proofs.lemmas.List.{append_cancel_right}
use Rattle.std.proofs.lemmas.List.Elements.{All-nil, All-cons, All-append}
use Rattle.gd_syntax.specs.declared.pos.Pos.{Pos}
use Rattle.gd_syntax.specs.declared.token.Token.{Token}
use Rattle.gd_syntax.specs.declared.token.TokenKind.{TokenKind}
use Rattle.gd_lexis.specs.declared.glyph.Glyph.{Glyph}
use Rattle.gd_lexis.specs.declared.glyph.Glyph.TheVariants.{Char}
use Rattle.gd_lexis.specs.Chars.{place_behind}
use Rattle.gd_lexis.specs.Pieces.{Piece, Blank, LineFeed, Tok, text_of, Stands, IsCut}
use Rattle.gd_lexis.specs.Lines.{lines_of, is_token, is_line_end, is_logical, is_indentation, depth, level, texts, token, turn, blocks_after, blocks_behind}
use Rattle.gd_lexis.specs.Items.{items, ended}
use Rattle.gd_lexis.specs.Lexes.{IsWithin, AreBlocks, IsMatched}
use Rattle.gd_lexis.proofs.Bounds.{all_at}
use Rattle.gd_lexis.proofs.Indents.{all_front}
use Rattle.gd_lexer.specs.declared.lines.Blank.{Blank as Kind}
use Rattle.gd_lexer.specs.declared.lines.Lines.{Lines}
use Rattle.gd_lexer.specs.Cursor.{Spot}
use Rattle.gd_lexer.specs.Cut.{code_of}
use Rattle.gd_lexer.specs.Follows.{Follows}
use Rattle.gd_lexer.specs.Brackets.{FitsBy, items_after, role_of, ended_if}
use Rattle.gd_lexer.specs.Begun.{whole, line, blocks, begun, newline_if}
use Rattle.gd_lexer.specs.Blanks.{blanks}
use Rattle.gd_lexer.specs.Lines.{LeadBy, new_lead}
use Rattle.gd_lexer.specs.Laid.{AreLines, IsLaid}
use Rattle.gd_lexer.proofs.CutLemmas.{cut_more, cut_whole, texts_more}
use Rattle.gd_lexer.proofs.LineLemmas.{Stays, same_whole, longer_line, more_whole, empty_line, silent_logical, token_logical, silent_blanks, open_blanks, token_blanks}
use Rattle.gd_lexer.proofs.BegunLemmas.{silent_begun, later_begun, first_begun, feed_begun}
use Rattle.gd_lexer.proofs.BoundLemmas.{items_level, silent_items, token_items, shut_items, within_silent, within_token, within_nil}
use Rattle.gd_lexer.proofs.BlockLemmas.{IsTurn, blocks_put, blocks_same, blocks_new}
use Rattle.gd_lexer.proofs.LaidLemmas.{silent_lines, blank_lines, feed_lines, later_lines, first_lines}

-- ---- the cut and the place

pub record IsRead (file : ℕ) (all : List Glyph) (ps : List Piece) (s : Spot) : Type 0 where
  pub cut : IsCut all ps s.glyphs
  pub place : s.pos ≡ place_behind file (texts ps)

read_on : (file : ℕ) (all : List Glyph) (ps : List Piece) (s t : Spot) (p : Piece) → Follows s t → IsRead file all ps s → s.glyphs ≡ text_of p ++ t.glyphs → Stands p t.glyphs → IsRead file all (ps ++ p ∷ []) t
read_on file all ps s t p f r e stands =
    let before = cut_whole all ps s.glyphs r.cut in
    let at = f.place file all (texts ps, before, r.place) in
    let P : List Glyph → Type 0 = λ g. IsCut all ps g in
    let both : at.0 ++ t.glyphs ≡ (texts ps ++ text_of p) ++ t.glyphs = sym at.1 ∙ before ∙ ap (λ g. texts ps ++ g) e ∙ sym (append_assoc (texts ps) (text_of p) t.glyphs) in
    record {
      cut = cut_more all ps p t.glyphs (subst P e r.cut) stands;
      place = at.2 ∙ ap (place_behind file) (append_cancel_right _ _ t.glyphs both ∙ sym (texts_more ps p));
    }

-- ---- the bounds of lines

abbrev lines_with : List (List Piece) → List Piece → List (List Piece)
lines_with lines xs = lines ++ xs ∷ []

lines_grown : (ps : List Piece) (p : Piece) → Stays ps p → lines_of (ps ++ p ∷ []) ≡ lines_with (whole ps) (line ps ++ p ∷ [])
lines_grown ps p h = ap (λ w. lines_with w (line (ps ++ p ∷ []))) (same_whole ps p h) ∙ ap (λ x. lines_with (whole ps) x) (longer_line ps p h)

within_put : (lines : List (List Piece)) (xs ys : List Piece) → (IsWithin xs → IsWithin ys) → All IsWithin (lines_with lines xs) → All IsWithin (lines_with lines ys)
within_put lines xs ys f h =
    All-append IsWithin lines (ys ∷ []) (all_front IsWithin lines (xs ∷ []) h) (All-cons IsWithin ys [] (f (all_at IsWithin lines [] xs h)) (All-nil IsWithin))

-- a piece that ends no line, where the line with it keeps the bounds
abbrev Bounds : List (List Piece) → Type 0
Bounds lines = All IsWithin lines × AreBlocks lines

bounds_on : (ps : List Piece) (p : Piece) → Stays ps p → Bounds (lines_with (whole ps) (line ps ++ p ∷ [])) → Bounds (lines_of (ps ++ p ∷ []))
bounds_on ps p h b = subst Bounds (sym (lines_grown ps p h)) b

-- ---- a piece that is no token

-- the piece ends no line: it is no line end, or brackets are open
abbrev pub EndsNoLine : Piece → List ℕ → Type 0
EndsNoLine p running = (is_line_end p ≡ false) ⊎ (nat_lt 1 (length running) ≡ true)

and_not : (a b : Bool) → b ≡ false → (a && b) ≡ false
and_not true b h = h
and_not false b h = refl

stays : (ps : List Piece) (p : Piece) (running : List ℕ) → running ≡ items (line ps) → EndsNoLine p running → Stays ps p
stays ps p running e (inl h) = ap (λ b. b && (level (line ps) == 0)) h
stays ps p running e (inr h) =
    let deep : 1 < length running = ltb-true 1 (length running) h in
    let some : level (line ps) ≡ 0 → ⊥ = λ z. omega (arith, items_level (line ps), ap length e) in
    and_not (is_line_end p) (level (line ps) == 0) (ne_eqb (level (line ps)) 0 some)

-- the piece is no blank before the first token
abbrev pub IsNoLead : Piece → Lines → Type 0
IsNoLead p l = (is_indentation p ≡ false) ⊎ (l.is_open ≡ true)

blanks_kept : (file : ℕ) (ps : List Piece) (p : Piece) (l : Lines) → is_token p ≡ false → AreLines file ps l → IsNoLead p l → blanks (line ps ++ p ∷ []) ≡ blanks (line ps)
blanks_kept file ps p l k h (inl i) = silent_blanks (line ps) p k i
blanks_kept file ps p l k h (inr o) = open_blanks (line ps) p (sym h.has_token ∙ o)

silent_bounds : (ps : List Piece) (p : Piece) → Stays ps p → is_token p ≡ false → (is_logical (line ps) ≡ true → blanks (line ps ++ p ∷ []) ≡ blanks (line ps)) → Bounds (lines_of ps) → Bounds (lines_of (ps ++ p ∷ []))
silent_bounds ps p h k same b =
    bounds_on ps p h
    (within_put (whole ps) (line ps) (line ps ++ p ∷ []) (within_silent (line ps) p k) b.0, blocks_same (whole ps) (line ps) (line ps ++ p ∷ []) b.1 (silent_logical (line ps) p k) (λ o. ap length (same o)))

pub laid_silent : (file : ℕ) (all : List Glyph) (s t : Spot) (running : List ℕ) (l : Lines) (tokens : List Token) (p : Piece) → is_token p ≡ false → EndsNoLine p running → IsNoLead p l → Follows s t
    → s.glyphs ≡ text_of p ++ t.glyphs → Stands p t.glyphs → IsLaid file all s running l tokens → IsLaid file all t running l tokens
laid_silent file all s t running l tokens p k ends lead f e stands h =
    let ps = h.pieces in
    let st = stays ps p running h.running_are ends in
    let r = read_on file all ps s t p f (record { cut = h.cut; place = h.place }) e stands in
    let b = silent_bounds ps p st k (open_blanks (line ps) p) (h.within, h.matched) in
    record {
      pieces = ps ++ p ∷ [];
      cut = r.cut;
      place = r.place;
      running_are = h.running_are ∙ sym (silent_items (line ps) p k) ∙ ap items (sym (longer_line ps p st));
      lines_are = silent_lines file ps p l st k (blanks_kept file ps p l k h.lines_are lead) h.lines_are;
      tokens_are = h.tokens_are ∙ sym (silent_begun file ps p st k);
      within = b.0;
      matched = b.1;
    }

-- a blank before the first token
pub laid_blank : (file : ℕ) (all : List Glyph) (s t : Spot) (running : List ℕ) (old new : Lines) (tokens : List Token) (b : Kind) (pos : Pos) → old.is_open ≡ false → new.blocks ≡ old.blocks
    → new.is_open ≡ old.is_open → new.kind ≡ old.kind → LeadBy false b pos old.lead new.lead → pos ≡ s.pos → Follows s t → s.glyphs ≡ Char (code_of b) ∷ t.glyphs → Stands (Blank (code_of b)) t.glyphs
    → IsLaid file all s running old tokens → IsLaid file all t running new tokens
laid_blank file all s t running old new tokens b pos shut same kept kind by at f e stands h =
    let ps = h.pieces in
    let p = Blank (code_of b) in
    let r = read_on file all ps s t p f (record { cut = h.cut; place = h.place }) e stands in
    let bounds = silent_bounds ps p refl refl (open_blanks (line ps) p) (h.within, h.matched) in
    record {
      pieces = ps ++ p ∷ [];
      cut = r.cut;
      place = r.place;
      running_are = h.running_are ∙ sym (silent_items (line ps) p refl) ∙ ap items (sym (longer_line ps p refl));
      lines_are = blank_lines file ps b pos old new shut same kept kind by (at ∙ h.place) h.lines_are;
      tokens_are = h.tokens_are ∙ sym (silent_begun file ps p refl refl);
      within = bounds.0;
      matched = bounds.1;
    }

-- ---- the line ends

one_item : (is : List ℕ) → length is ≡ 1 → ended is ≡ 0 ∷ []
one_item [] e = refl
one_item (n ∷ []) e = refl
one_item (n ∷ m ∷ is) e = absurd (omega arith)

ended_items : (b : Bool) (xs : List Piece) (is new : List ℕ) → is_logical xs ≡ b → is ≡ items xs → length is ≡ 1 → new ≡ ended_if b is → new ≡ 0 ∷ []
ended_items true xs is new h e one f = f ∙ one_item is one
ended_items false xs is new h e one f = f ∙ e ∙ shut_items xs h

pub laid_feed : (file : ℕ) (all : List Glyph) (s t : Spot) (running ended : List ℕ) (old new : Lines) (tokens more : List Token) → nat_lt 1 (length running) ≡ false → ended ≡ ended_if old.is_open running
    → new.is_open ≡ false → new.blocks ≡ old.blocks → new.kind ≡ old.kind → new.lead ≡ new_lead old.kind → more ≡ tokens ++ newline_if old.is_open s.pos → Follows s t → s.glyphs ≡ Char 10 ∷ t.glyphs
    → IsLaid file all s running old tokens → IsLaid file all t ended new more
laid_feed file all s t running ended old new tokens more shallow is shut same kind lead pushed f e h =
    let ps = h.pieces in
    let few : length running ≤ 1 = ltb-false 1 (length running) shallow in
    let low : level (line ps) ≡ 0 = omega (arith, items_level (line ps), ap length h.running_are) in
    let one : length running ≡ 1 = omega (arith, items_level (line ps), ap length h.running_are) in
    let r = read_on file all ps s t LineFeed f (record { cut = h.cut; place = h.place }) e tt in
    let lines : lines_of (ps ++ LineFeed ∷ []) ≡ lines_with (lines_of ps) [] = ap (λ w. lines_with w (line (ps ++ LineFeed ∷ []))) (more_whole ps low) ∙ ap (λ x. lines_with (lines_of ps) x) (empty_line ps low) in
    let within : All IsWithin (lines_with (lines_of ps) []) = All-append IsWithin (lines_of ps) ([] ∷ []) h.within (All-cons IsWithin [] [] within_nil (All-nil IsWithin)) in
    let b = subst Bounds (sym lines) (within, blocks_new (lines_of ps) h.matched) in
    record {
      pieces = ps ++ LineFeed ∷ [];
      cut = r.cut;
      place = r.place;
      running_are = ended_items old.is_open (line ps) running ended (sym h.lines_are.has_token) h.running_are one is ∙ ap items (sym (empty_line ps low));
      lines_are = feed_lines file ps old new low shut same kind lead h.lines_are;
      tokens_are =
          pushed ∙ ap (λ ts. ts ++ newline_if old.is_open s.pos) h.tokens_are ∙ ap (λ o. begun file ps ++ newline_if o s.pos) h.lines_are.has_token
          ∙ ap (λ at. begun file ps ++ newline_if (is_logical (line ps)) at) h.place ∙ sym (feed_begun file ps low);
      within = b.0;
      matched = b.1;
    }

-- ---- a token

-- a token that is not the first of its line
pub laid_later : (file : ℕ) (all : List Glyph) (s t : Spot) (running behind : List ℕ) (l : Lines) (tokens more : List Token) (kind : TokenKind) (text : List ℕ) → l.is_open ≡ true
    → behind ≡ items_after kind running → FitsBy (role_of kind) running → more ≡ tokens ++ token s.pos kind ∷ [] → Follows s t → s.glyphs ≡ text_of (Tok kind text) ++ t.glyphs → Stands (Tok kind text) t.glyphs
    → IsLaid file all s running l tokens → IsLaid file all t behind l more
laid_later file all s t running behind l tokens more kind text token_there is room pushed f e stands h =
    let ps = h.pieces in
    let p = Tok kind text in
    let P : List ℕ → Type 0 = λ t. FitsBy (role_of kind) t in
    let logical : is_logical (line ps) ≡ true = sym h.lines_are.has_token ∙ token_there in
    let r = read_on file all ps s t p f (record { cut = h.cut; place = h.place }) e stands in
    let b =
    bounds_on ps p refl (
      within_put (whole ps) (line ps) (line ps ++ p ∷ []) (within_token (line ps) kind text (subst P h.running_are room)) h.within,
      blocks_same (whole ps) (line ps) (line ps ++ p ∷ []) h.matched (token_logical (line ps) p refl ∙ sym logical) (λ _. ap length (token_blanks (line ps) p refl)),
    ) in
    record {
      pieces = ps ++ p ∷ [];
      cut = r.cut;
      place = r.place;
      running_are = is ∙ ap (items_after kind) h.running_are ∙ sym (token_items (line ps) kind text) ∙ ap items (sym (longer_line ps p refl));
      lines_are = later_lines file ps kind text l token_there h.lines_are;
      tokens_are = pushed ∙ ap (λ ts. ts ++ token s.pos kind ∷ []) h.tokens_are ∙ ap (λ at. begun file ps ++ token at kind ∷ []) h.place ∙ sym (later_begun file ps kind text logical);
      within = b.0;
      matched = b.1;
    }

-- the first token of its line, with the blocks that it ends or begins
pub laid_first : (file : ℕ) (all : List Glyph) (s t : Spot) (running behind : List ℕ) (old new : Lines) (tokens turned more : List Token) (kind : TokenKind) (text : List ℕ) → old.is_open ≡ false
    → new.is_open ≡ true → new.lead ≡ old.lead → new.kind ≡ old.lead.kind → old.lead.mixed ≡ None → (IsTurn s.pos old.blocks old.lead.level new.blocks turned) → length new.blocks ≤ 32
    → behind ≡ items_after kind running → FitsBy (role_of kind) running → more ≡ (tokens ++ turned) ++ token s.pos kind ∷ [] → Follows s t → s.glyphs ≡ text_of (Tok kind text) ++ t.glyphs → Stands (Tok kind text) t.glyphs
    → IsLaid file all s running old tokens → IsLaid file all t behind new more
laid_first file all s t running behind old new tokens turned more kind text shut there lead same none turns few is room pushed f e stands h =
    let ps = h.pieces in
    let p = Tok kind text in
    let xs = line ps ++ p ∷ [] in
    let P : List ℕ → Type 0 = λ t. FitsBy (role_of kind) t in
    let Q : ℕ → Type 0 = λ n. n ≤ 32 in
    let R : ℕ → Type 0 = λ d. IsMatched (blocks ps) d in
    let S : List ℕ → Type 0 = λ bs. IsTurn s.pos bs old.lead.level new.blocks turned in
    let T : ℕ → Type 0 = λ d. IsTurn s.pos (blocks ps) d new.blocks turned in
    let shutline : is_logical (line ps) ≡ false = sym h.lines_are.has_token ∙ shut in
    let open_are : old.blocks ≡ blocks ps = h.lines_are.open_blocks ∙ ap (λ b. if b then blocks_behind (blocks ps) (depth (line ps)) else blocks ps) shutline in
    let turn_is : IsTurn s.pos (blocks ps) (depth (line ps)) new.blocks turned = subst T h.lines_are.level (subst S open_are turns) in
    let level : depth xs ≡ depth (line ps) = ap length (token_blanks (line ps) p refl) in
    let after : blocks_after (blocks ps) xs ≡ new.blocks = ap (λ b. if b then blocks_behind (blocks ps) (depth xs) else blocks ps) (token_logical (line ps) p refl) ∙ ap (blocks_behind (blocks ps)) level ∙ turn_is.behind in
    let r = read_on file all ps s t p f (record { cut = h.cut; place = h.place }) e stands in
    let b =
    bounds_on ps p refl (
      within_put (whole ps) (line ps) xs (within_token (line ps) kind text (subst P h.running_are room)) h.within,
      blocks_put (whole ps) (line ps) xs h.matched (λ _. (subst R (sym level) turn_is.matched, subst Q (ap length (sym after)) few)),
    ) in
    record {
      pieces = ps ++ p ∷ [];
      cut = r.cut;
      place = r.place;
      running_are = is ∙ ap (items_after kind) h.running_are ∙ sym (token_items (line ps) kind text) ∙ ap items (sym (longer_line ps p refl));
      lines_are = first_lines file ps kind text old new shut there lead same none (sym turn_is.behind) h.lines_are;
      tokens_are =
          pushed ∙ ap (λ ts. (ts ++ turned) ++ token s.pos kind ∷ []) h.tokens_are ∙ ap (λ ts. (begun file ps ++ ts) ++ token s.pos kind ∷ []) (sym turn_is.turned)
          ∙ ap (λ at. (begun file ps ++ turn at (blocks ps) (depth (line ps))) ++ token at kind ∷ []) h.place ∙ sym (first_begun file ps kind text shutline);
      within = b.0;
      matched = b.1;
    }
