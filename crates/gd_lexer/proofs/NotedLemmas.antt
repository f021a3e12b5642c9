-- What each step of the lexer notes of the bytes.
use Rattle.std.proofs.Common.{◌≡◌, ℕ, ◌+◌, Bool, true, false, inl, inr, List, [], ◌∷◌, ◌++◌, map, refl, ap, sym, ◌∙◌, arith, subst, append_assoc}
use Rattle.std.specs.Prelude.{None}
use Rattle.std.proofs.lemmas.List.{append-nil, map-append}
use Rattle.std.proofs.lemmas.List.Sums.{sum_by-append}
use Rattle.gd_syntax.specs.declared.pos.Pos.{Pos}
use Rattle.gd_syntax.specs.declared.token.Token.{Token}
use Rattle.gd_syntax.specs.declared.token.TokenKind.{TokenKind}
use Rattle.gd_syntax.specs.declared.token.TokenKind.TheVariants as kinds
use Rattle.gd_lexis.specs.declared.glyph.Glyph.{Glyph}
use Rattle.gd_lexis.specs.declared.glyph.Glyph.TheVariants.{Char}
use Rattle.gd_lexis.specs.Pieces.{Piece, Blank, LineFeed, Join, Comment, Tok, text_of, Stands, IsCut}
use Rattle.gd_lexis.specs.Lines.{texts, token}
use Rattle.gd_lexis.specs.Lexemes.{Extent, width, size, extent, comments_in, Spells, IsSpelled}
use Rattle.gd_lexer.specs.declared.found.Span.{Span}
use Rattle.gd_lexer.specs.declared.found.Whole.{Whole}
use Rattle.gd_lexer.specs.declared.lexer.Lexer.{Lexer}
use Rattle.gd_lexer.specs.declared.lines.Blank.{Blank as Kind}
use Rattle.gd_lexer.specs.declared.lines.Lead.{Lead}
use Rattle.gd_lexer.specs.Lines.{LeadBy}
use Rattle.gd_lexer.specs.Cursor.{Spot, IsAt}
use Rattle.gd_lexer.specs.Follows.{Follows}
use Rattle.gd_lexer.specs.Found.{FoundList}
use Rattle.gd_lexer.specs.Token.{IsToken}
use Rattle.gd_lexer.specs.Begun.{newline_if}
use Rattle.gd_lexer.specs.Noted.{extent_of, IsFrom, IsHere, AreNoted, AreSpelledBy, Notes, KeepsSpelled, KeepsNotes, IsNoted, span_if}
use Rattle.gd_lexer.proofs.CutLemmas.{cut_more, cut_whole}
use Rattle.gd_lexer.proofs.FollowsLemmas.{Follows-refl}

-- ---- one piece more

further : (at : ℕ) (p : Piece) (ps : List Piece) → at + size (text_of p) + size (texts ps) ≡ at + size (texts (p ∷ ps))
further at p ps = omega (arith, sum_by-append width (text_of p) (texts ps))

abbrev last_at : ℕ → List Piece → Piece → ℕ → List Extent
last_at at ps p n = comments_in at ps ++ comments_in n (p ∷ [])

pub comments_more : (at : ℕ) (ps : List Piece) (p : Piece) → comments_in at (ps ++ p ∷ []) ≡ comments_in at ps ++ comments_in (at + size (texts ps)) (p ∷ [])
comments_more at [] p = ap (λ n. comments_in n (p ∷ [])) (nothing at)
  where
    nothing : (n : ℕ) → n ≡ n + 0
    nothing n = omega arith
comments_more at (Blank c ∷ ps) p = comments_more (at + size (text_of (Blank c))) ps p ∙ ap (last_at (at + size (text_of (Blank c))) ps p) (further at (Blank c) ps)
comments_more at (LineFeed ∷ ps) p = comments_more (at + size (text_of LineFeed)) ps p ∙ ap (last_at (at + size (text_of LineFeed)) ps p) (further at LineFeed ps)
comments_more at (Join e ∷ ps) p = comments_more (at + size (text_of (Join e))) ps p ∙ ap (last_at (at + size (text_of (Join e))) ps p) (further at (Join e) ps)
comments_more at (Tok k t ∷ ps) p = comments_more (at + size (text_of (Tok k t))) ps p ∙ ap (last_at (at + size (text_of (Tok k t))) ps p) (further at (Tok k t) ps)
comments_more at (Comment cs ∷ ps) p =
    ap (λ t. extent at (text_of (Comment cs)) ∷ t)
    (comments_more (at + size (text_of (Comment cs))) ps p ∙ ap (last_at (at + size (text_of (Comment cs))) ps p) (further at (Comment cs) ps))

-- a spot behind some of the file's glyphs has their bytes before it
pub byte_at : (first : ℕ) (all before : List Glyph) (s : Spot) → all ≡ before ++ s.glyphs → IsFrom first all s → s.offset ≡ first + size before
byte_at first all before s split from = omega (arith, from, ap size split, sum_by-append width before s.glyphs)

noted_on : (first : ℕ) (all : List Glyph) (s t : Spot) (p : Piece) (old new : List Span) → IsFrom first all s → s.glyphs ≡ text_of p ++ t.glyphs → Stands p t.glyphs
    → map extent_of new ≡ map extent_of old ++ comments_in s.offset (p ∷ []) → AreNoted first all s.glyphs old → AreNoted first all t.glyphs new
noted_on first all s t p old new from e stands more h =
    let ps = h.pieces in
    let P : List Glyph → Type 0 = λ g. IsCut all ps g in
    let at = byte_at first all (texts ps) s (cut_whole all ps s.glyphs h.cut) from in
    record {
      pieces = ps ++ p ∷ [];
      cut = cut_more all ps p t.glyphs (subst P e h.cut) stands;
      comments_are = more ∙ ap (λ t. t ++ comments_in s.offset (p ∷ [])) h.comments_are ∙ ap (last_at first ps p) at ∙ sym (comments_more first ps p);
    }

-- ---- tokens that are spelled

pub spelled_push : (file first : ℕ) (all : List Glyph) (ts : List Token) (ss : List Span) (t : Token) (s : Span) → AreSpelledBy file first all ts ss → IsSpelled file first all t (extent_of s)
    → AreSpelledBy file first all (ts ++ t ∷ []) (ss ++ s ∷ [])
spelled_push file first all [] [] t s h k = (k, tt)
spelled_push file first all [] (r ∷ ss) t s h k = absurd h
spelled_push file first all (u ∷ ts) [] t s h k = absurd h
spelled_push file first all (u ∷ ts) (r ∷ ss) t s h k = (h.0, spelled_push file first all ts ss t s h.1 k)

-- the same, told in other words
pub spelled_same : (file first : ℕ) (all : List Glyph) (ts us : List Token) (ss rs : List Span) → us ≡ ts → rs ≡ ss → AreSpelledBy file first all ts ss → AreSpelledBy file first all us rs
spelled_same file first all ts us ss rs e f h =
    let P : List Token → Type 0 = λ t. AreSpelledBy file first all t rs in
    let Q : List Span → Type 0 = λ t. AreSpelledBy file first all ts t in
    subst P (sym e) (subst Q (sym f) h)

same_extent : (a b : ℕ) (e : Extent) → a ≡ e.start → b ≡ e.end → extent_of (record { start = a; end = b }) ≡ e
same_extent a b e f g = rw (f, g) refl

-- a token of no bytes
empty_spelled : (file first : ℕ) (all : List Glyph) (pos : Pos) (at : ℕ) (kind : TokenKind) → ((rest : List Glyph) → Spells kind [] rest) → IsHere file first all pos at
    → IsSpelled file first all (token pos kind) (extent_of (record { start = at; end = at }))
empty_spelled file first all pos at kind spells here = record {
  before = here.0;
  text = [];
  rest = here.1;
  split = here.2 ∙ ap (λ t. t ++ here.1) (sym (append-nil here.0));
  place = here.3;
  spells = spells here.1;
  bytes_are = same_extent at at (extent (first + size here.0) []) here.4 (omega (arith, here.4));
}

pub spelled_empty : (pos : Pos) (at : ℕ) (kind : TokenKind) (old new : FoundList) → ((rest : List Glyph) → Spells kind [] rest) → new.tokens ≡ old.tokens ++ token pos kind ∷ []
    → new.spans ≡ old.spans ++ record { start = at; end = at } ∷ [] → KeepsSpelled pos at old new
spelled_empty pos at kind old new spells e f file first all here h =
    let span : Span = record { start = at; end = at } in
    spelled_same file first all (old.tokens ++ token pos kind ∷ []) new.tokens (old.spans ++ span ∷ []) new.spans e f
    (spelled_push file first all old.tokens old.spans (token pos kind) span h (empty_spelled file first all pos at kind spells here))

pub spelled_on : (pos : Pos) (at : ℕ) (old a t d : FoundList) → KeepsSpelled pos at old a → t ≡ a → KeepsSpelled pos at t d → KeepsSpelled pos at old d
spelled_on pos at old a t d f e g file first all here h = g file first all here (subst (λ (l : FoundList). AreSpelledBy file first all l.tokens l.spans) (sym e) (f file first all here h))

-- a token at a spot, with its text
pub spelled_text : (file first : ℕ) (all text : List Glyph) (s t : Spot) (pos : Pos) (kind : TokenKind) (a b : ℕ) → IsAt file all s → IsFrom first all s → Follows s t → s.glyphs ≡ text ++ t.glyphs
    → Spells kind text t.glyphs → pos ≡ s.pos → a ≡ s.offset → b ≡ t.offset → IsSpelled file first all (token pos kind) (extent_of (record { start = a; end = b }))
spelled_text file first all text s t pos kind a b h from f e spells at start end =
    let byte = byte_at first all h.0 s h.1 from in
    let wide : t.offset ≡ s.offset + size text = omega (arith, f.bytes, ap size e, sum_by-append width text t.glyphs) in
    record {
      before = h.0;
      text = text;
      rest = t.glyphs;
      split = h.1 ∙ ap (λ g. h.0 ++ g) e ∙ sym (append_assoc h.0 text t.glyphs);
      place = at ∙ h.2;
      spells = spells;
      bytes_are = same_extent a b (extent (first + size h.0) text) (start ∙ byte) (end ∙ wide ∙ ap (λ n. n + size text) byte);
    }

pub here_at : (file first : ℕ) (all : List Glyph) (s : Spot) (pos : Pos) (at : ℕ) → IsAt file all s → IsFrom first all s → pos ≡ s.pos → at ≡ s.offset → IsHere file first all pos at
here_at file first all s pos at h from e f = (h.0, s.glyphs, h.1, e ∙ h.2, f ∙ byte_at first all h.0 s h.1 from)

pub token_spells : (kind : TokenKind) (cs : List ℕ) (rest : List Glyph) → Stands (Tok kind cs) rest → Spells kind (map Char cs) rest
token_spells (kinds.Word n) cs rest h = (cs, refl, h)
token_spells (kinds.Keyword k) cs rest h = (cs, refl, h)
token_spells (kinds.Number n) cs rest h = (cs, refl, h)
token_spells (kinds.Quoted t) cs rest h = (cs, refl, h)
token_spells (kinds.Mark m) cs rest h = (cs, refl, h)
token_spells kinds.Newline cs rest h = absurd h.0
token_spells kinds.Indent cs rest h = absurd h.0
token_spells kinds.Dedent cs rest h = absurd h.0
token_spells kinds.End cs rest h = absurd h.0

-- Newline, if the line has a token
pub spelled_newline : (file first : ℕ) (all : List Glyph) (b : Bool) (pos : Pos) (span : Span) (ts : List Token) (ss : List Span) → IsSpelled file first all (token pos kinds.Newline) (extent_of span)
    → AreSpelledBy file first all ts ss → AreSpelledBy file first all (ts ++ newline_if b pos) (ss ++ span_if b span)
spelled_newline file first all true pos span ts ss k h = spelled_push file first all ts ss (token pos kinds.Newline) span h k
spelled_newline file first all false pos span ts ss k h = spelled_same file first all ts (ts ++ []) ss (ss ++ []) (append-nil ts) (append-nil ss) h

-- ---- the steps

-- a piece that is noted, or nothing
pub noted_piece : (old new : Lexer) (p : Piece) → Follows old.cursor new.cursor → (new.lines.lead.hidden ≡ None → old.lines.lead.hidden ≡ None) → old.cursor.glyphs ≡ text_of p ++ new.cursor.glyphs
    → Stands p new.cursor.glyphs → map extent_of new.found.comments ≡ map extent_of old.found.comments ++ comments_in old.cursor.offset (p ∷ []) → new.found.tokens ≡ old.found.tokens → new.found.spans ≡ old.found.spans
    → KeepsNotes old new
noted_piece old new p f back e stands more same spans file first all h = record {
  at = f.place file all h.at;
  from = f.bytes ∙ h.from;
  tokens = spelled_same file first all old.found.tokens new.found.tokens old.found.spans new.found.spans same spans h.tokens;
  comments = λ none. noted_on first all old.cursor new.cursor p old.found.comments new.found.comments h.from e stands more (h.comments (back none));
}

silent : (old new : List Span) (noted : List Extent) → noted ≡ [] → new ≡ old → map extent_of new ≡ map extent_of old ++ noted
silent old new noted none same = ap (map extent_of) same ∙ sym (ap (λ t. map extent_of old ++ t) none ∙ append-nil (map extent_of old))

-- a piece that is no comment and no token
pub silent_piece : (old new : Lexer) (p : Piece) → Follows old.cursor new.cursor → (new.lines.lead.hidden ≡ None → old.lines.lead.hidden ≡ None) → old.cursor.glyphs ≡ text_of p ++ new.cursor.glyphs
    → Stands p new.cursor.glyphs → comments_in old.cursor.offset (p ∷ []) ≡ [] → new.found ≡ old.found → KeepsNotes old new
silent_piece old new p f back e stands none same =
    noted_piece old new p f back e stands (silent old.found.comments new.found.comments (comments_in old.cursor.offset (p ∷ [])) none (ap (λ (f : FoundList). f.comments) same)) (ap (λ (f : FoundList). f.tokens) same)
    (ap (λ (f : FoundList). f.spans) same)

-- a stray character is put off
pub stray_piece : (old new : Lexer) → Follows old.cursor new.cursor → (new.lines.lead.hidden ≡ None → ⊥) → new.found ≡ old.found → KeepsNotes old new
stray_piece old new f some same file first all h = record {
  at = f.place file all h.at;
  from = f.bytes ∙ h.from;
  tokens = spelled_same file first all old.found.tokens new.found.tokens old.found.spans new.found.spans (ap (λ (f : FoundList). f.tokens) same) (ap (λ (f : FoundList). f.spans) same) h.tokens;
  comments = λ none. absurd (some none);
}

-- a token, behind those that its line began with
pub token_piece : (old new : Lexer) (mid : FoundList) (kind : TokenKind) (pos : Pos) (at end : ℕ) → Follows old.cursor new.cursor → (new.lines.lead.hidden ≡ None → old.lines.lead.hidden ≡ None)
    → IsToken kind old.cursor.glyphs new.cursor.glyphs → new.found.comments ≡ old.found.comments → KeepsSpelled pos at old.found mid → new.found.tokens ≡ mid.tokens ++ token pos kind ∷ []
    → new.found.spans ≡ mid.spans ++ record { start = at; end = end } ∷ [] → pos ≡ old.cursor.pos → at ≡ old.cursor.offset → end ≡ new.cursor.offset → KeepsNotes old new
token_piece old new mid kind pos at end f back read same begun pushed span place start ends file first all h =
    let s : Span = record { start = at; end = end } in
    let cs = read.0 in
    let p = Tok kind cs in
    record {
      at = f.place file all h.at;
      from = f.bytes ∙ h.from;
      tokens =
          spelled_same file first all (mid.tokens ++ token pos kind ∷ []) new.found.tokens (mid.spans ++ s ∷ []) new.found.spans pushed span
          (spelled_push file first all mid.tokens mid.spans (token pos kind) s (begun file first all (here_at file first all old.cursor pos at h.at h.from place start) h.tokens)
          (spelled_text file first all (map Char cs) old.cursor new.cursor pos kind at end h.at h.from f read.1 (token_spells kind cs new.cursor.glyphs read.2) place start ends));
      comments = λ none. noted_on first all old.cursor new.cursor p old.found.comments new.found.comments h.from read.1 read.2 (silent old.found.comments new.found.comments [] refl same) (h.comments (back none));
    }

-- a line feed, with Newline if the line has a token
pub feed_piece : (old new : Lexer) (pos : Pos) (at end : ℕ) → Follows old.cursor new.cursor → (new.lines.lead.hidden ≡ None → old.lines.lead.hidden ≡ None) → old.cursor.glyphs ≡ Char 10 ∷ new.cursor.glyphs
    → new.found.comments ≡ old.found.comments → new.found.tokens ≡ old.found.tokens ++ newline_if old.lines.is_open pos → new.found.spans ≡ old.found.spans ++ span_if old.lines.is_open (record { start = at; end = end })
    → pos ≡ old.cursor.pos → at ≡ old.cursor.offset → end ≡ new.cursor.offset → KeepsNotes old new
feed_piece old new pos at end f back e same pushed spans place start ends file first all h =
    let s : Span = record { start = at; end = end } in
    record {
      at = f.place file all h.at;
      from = f.bytes ∙ h.from;
      tokens =
          spelled_same file first all (old.found.tokens ++ newline_if old.lines.is_open pos) new.found.tokens (old.found.spans ++ span_if old.lines.is_open s) new.found.spans pushed spans
          (spelled_newline file first all old.lines.is_open pos s old.found.tokens old.found.spans
          (spelled_text file first all (Char 10 ∷ []) old.cursor new.cursor pos kinds.Newline at end h.at h.from f e (inl refl) place start ends) h.tokens);
      comments = λ none. noted_on first all old.cursor new.cursor LineFeed old.found.comments new.found.comments h.from e tt (silent old.found.comments new.found.comments [] refl same) (h.comments (back none));
    }

-- the bytes of a comment, from its `#` on
pub comment_noted : (s t : Spot) (cs : List ℕ) (old new : List Span) (a b : ℕ) → Follows s t → s.glyphs ≡ text_of (Comment cs) ++ t.glyphs → a ≡ s.offset → b ≡ t.offset
    → new ≡ old ++ record { start = a; end = b } ∷ [] → map extent_of new ≡ map extent_of old ++ comments_in s.offset (Comment cs ∷ [])
comment_noted s t cs old new a b f e start end pushed =
    let text = text_of (Comment cs) in
    let wide : t.offset ≡ s.offset + size text = omega (arith, f.bytes, ap size e, sum_by-append width text t.glyphs) in
    let span : Span = record { start = a; end = b } in
    ap (map extent_of) pushed ∙ map-append extent_of old (span ∷ []) ∙ ap (λ x. map extent_of old ++ x ∷ []) (same_extent a b (extent s.offset text) start (end ∙ wide))

pub blank_hidden : (b : Bool) (kind : Kind) (pos : Pos) (old new : Lead) → LeadBy b kind pos old new → new.hidden ≡ None → old.hidden ≡ None
blank_hidden true kind pos old new by none = ap (λ (l : Lead). l.hidden) (sym by) ∙ none
blank_hidden false kind pos old new by none = sym by.3 ∙ none

-- ---- the start and the end

pub noted_start : (file : ℕ) (l : Lexer) → IsAt file l.cursor.glyphs l.cursor → l.found.tokens ≡ [] → l.found.spans ≡ [] → l.found.comments ≡ [] → Notes file l.cursor.offset l.cursor.glyphs l
noted_start file l at tokens spans comments = record {
  at = at;
  from = refl;
  tokens = spelled_same file l.cursor.offset l.cursor.glyphs [] l.found.tokens [] l.found.spans tokens spans tt;
  comments = λ _. record { pieces = []; cut = refl; comments_are = ap (map extent_of) comments };
}

-- Newline, if the last line has a token, Dedent for each open block, and End
pub noted_end : (old : Lexer) (mid closed : FoundList) (w : Whole) (pos : Pos) (at : ℕ) → pos ≡ old.cursor.pos → at ≡ old.cursor.offset → mid.tokens ≡ old.found.tokens ++ newline_if old.lines.is_open pos
    → mid.spans ≡ old.found.spans ++ span_if old.lines.is_open (record { start = at; end = at }) → KeepsSpelled pos at mid closed → w.tokens.items ≡ closed.tokens ++ token pos kinds.End ∷ []
    → w.spans.items ≡ closed.spans ++ record { start = at; end = at } ∷ [] → w.comments.items ≡ old.found.comments → old.lines.lead.hidden ≡ None → (file first : ℕ) (all : List Glyph) → Notes file first all old
    → old.cursor.glyphs ≡ [] → IsNoted file first all w
noted_end old mid closed w pos at place byte newline spans keeps pushed span same none file first all h empty =
    let s = old.cursor in
    let here = here_at file first all s pos at h.at h.from place byte in
    let none_left : Span = record { start = at; end = at } in
    let last = spelled_text file first all [] s s pos kinds.Newline at at h.at h.from (Follows-refl s) refl (inr (refl, empty)) place byte byte in
    let P : List Glyph → Type 0 = λ g. AreNoted first all g old.found.comments in
    let Q : List Span → Type 0 = λ t. AreNoted first all [] t in
    record {
      tokens =
          spelled_same file first all (closed.tokens ++ token pos kinds.End ∷ []) w.tokens.items (closed.spans ++ none_left ∷ []) w.spans.items pushed span
          (spelled_push file first all closed.tokens closed.spans (token pos kinds.End) none_left
          (keeps file first all here
          (spelled_same file first all (old.found.tokens ++ newline_if old.lines.is_open pos) mid.tokens (old.found.spans ++ span_if old.lines.is_open none_left) mid.spans newline spans
          (spelled_newline file first all old.lines.is_open pos none_left old.found.tokens old.found.spans last h.tokens)))
          (empty_spelled file first all pos at kinds.End (λ rest. refl) here));
      comments = subst Q (sym same) (subst P empty (h.comments none));
    }
