-- What is kept of a file says that no rule is broken before what is left of it.
use Rattle.std.proofs.Common.{◌≡◌, ℕ, Bool, true, false, cond, List, [], ◌∷◌, ◌++◌, filter, flat_map, refl, ap, sym, ◌∙◌, subst, inl, inr, append_assoc, append-nil}
use Rattle.std.specs.Prelude.{All, Option, Some, None, if◌then◌else◌}
use Rattle.std.proofs.lemmas.List.Elements.{All-head, All-tail, All-nil, All-cons, All-append, filter-append}
use Rattle.gd_syntax.specs.declared.pos.Pos.{Pos}
use Rattle.gd_syntax.specs.declared.token.Token.{Token}
use Rattle.gd_rules.specs.declared.rule.Rule.{Rule}
use Rattle.gd_rules.specs.declared.rule.Rule.TheVariants as rules
use Rattle.gd_lexis.specs.declared.glyph.Glyph.{Glyph}
use Rattle.gd_lexis.specs.Chars.{IsFile, place_behind}
use Rattle.gd_lexis.specs.Pieces.{Piece, Blank, IsCut}
use Rattle.gd_lexis.specs.Lines.{lines_of, is_logical, is_indentation, lead, texts}
use Rattle.gd_lexis.specs.Lexes.{IsWithin, AreBlocks, IndentBy}
use Rattle.gd_lexis.specs.Faults.{HasToken, IsIndentedBy, FirstFault}
use Rattle.gd_lexis.specs.Faultless.{IsFaultless, IsLedBy}
use Rattle.gd_lexis.proofs.Bodies.{not_both}
use Rattle.gd_lexis.proofs.Exits.{first_bad_byte, first_stray}
use Rattle.gd_lexis.proofs.Leads.{AreOther, first_mixed_blank}
use Rattle.gd_lexer.specs.declared.lines.Blank.{Blank as Kind}
use Rattle.gd_lexer.specs.declared.lines.Blank.TheVariants.{Space, Tab}
use Rattle.gd_lexer.specs.declared.lines.Lines.{Lines}
use Rattle.gd_lexer.specs.declared.lexer.Lexer.{Lexer}
use Rattle.gd_lexer.specs.declared.stop.Fault.{Fault}
use Rattle.gd_lexer.specs.Cursor.{Spot}
use Rattle.gd_lexer.specs.Cut.{code_of}
use Rattle.gd_lexer.specs.Begun.{whole, line}
use Rattle.gd_lexer.specs.Blanks.{blanks, blanks_of, blanks_so_far, AreOf, IsMixed}
use Rattle.gd_lexer.specs.Laid.{IsLaid}
use Rattle.gd_lexer.specs.FirstFaults.{Strays, IsPutOff}

-- ---- blanks of one kind

abbrev AreAll : ℕ → List Piece → Type 0
AreAll c ps = All (λ p. p ≡ Blank c) ps

all_front : {X : Type 0} (P : X → Type 0) (xs ys : List X) → All P (xs ++ ys) → All P xs
all_front P [] ys h = All-nil P
all_front P (x ∷ xs) ys h = All-cons P x xs (All-head P x (xs ++ ys) h) (all_front P xs ys (All-tail P x (xs ++ ys) h))

all_back : {X : Type 0} (P : X → Type 0) (xs ys : List X) → All P (xs ++ ys) → All P ys
all_back P [] ys h = h
all_back P (x ∷ xs) ys h = all_back P xs ys (All-tail P x (xs ++ ys) h)

kept_head : {X : Type 0} (P : X → Type 0) (x : X) (xs : List X) (b : Bool) → All P (cond b (x ∷ xs) xs) → b ≡ true → P x
kept_head P x xs true h e = All-head P x xs h
kept_head P x xs false h e = absurd (not_both false e refl)

kept_tail : {X : Type 0} (P : X → Type 0) (x : X) (xs : List X) (b : Bool) → All P (cond b (x ∷ xs) xs) → All P xs
kept_tail P x xs true h = All-tail P x xs h
kept_tail P x xs false h = h

-- what holds of all that a test keeps holds of all of which the test does
of_kept : {X : Type 0} (P : X → Type 0) (f : X → Bool) (xs : List X) → All P (filter f xs) → All (λ x. f x ≡ true → P x) xs
of_kept P f [] h = All-nil (λ x. f x ≡ true → P x)
of_kept P f (x ∷ xs) h = All-cons (λ x. f x ≡ true → P x) x xs (kept_head P x (filter f xs) (f x) h) (of_kept P f xs (kept_tail P x (filter f xs) (f x) h))

of_kind : (k : Option Kind) (ps : List Piece) → AreOf k ps → (c : ℕ) × AreAll c ps
of_kind None ps e = let P : List Piece → Type 0 = λ t. AreAll 32 t in (32, subst P (sym e) (All-nil (λ p. p ≡ Blank 32)))
of_kind (Some kind) ps h =
    let c = code_of kind in
    let P : List Piece → Type 0 = λ t. AreAll c t in
    (c, subst P (sym h.1) (All-cons (λ p. p ≡ Blank c) (Blank c) h.0 refl h.2))

line_led : (c : ℕ) (l : List Piece) → AreAll c (blanks l) → IsLedBy c l
line_led c l h = of_kept (λ p. p ≡ Blank c) is_indentation (lead l) h

logical_led : (c : ℕ) (l : List Piece) (t : Bool) → is_logical l ≡ t → AreAll c (if t then blanks l else []) → is_logical l ≡ true → IsLedBy c l
logical_led c l true e h logical = line_led c l h
logical_led c l false e h logical = absurd (not_both (is_logical l) logical e)

indented_by : (c : ℕ) (lines : List (List Piece)) → AreAll c (blanks_of lines) → IndentBy c lines
indented_by c [] h = All-nil (λ line. is_logical line ≡ true → IsLedBy c line)
indented_by c (l ∷ lines) h =
    let P : Piece → Type 0 = λ p. p ≡ Blank c in
    let front : List Piece = if is_logical l then blanks l else [] in
    All-cons (λ line. is_logical line ≡ true → IsLedBy c line) l lines (logical_led c l (is_logical l) refl (all_front P front (blanks_of lines) h)) (indented_by c lines (all_back P front (blanks_of lines) h))

-- the same with one line more, which may have no token yet
indented_more : (c : ℕ) (lines : List (List Piece)) (l : List Piece) → AreAll c (blanks_of lines) → (is_logical l ≡ true → IsLedBy c l) → IndentBy c (lines ++ l ∷ [])
indented_more c lines l h k =
    All-append (λ line. is_logical line ≡ true → IsLedBy c line) lines (l ∷ []) (indented_by c lines h) (All-cons (λ line. is_logical line ≡ true → IsLedBy c line) l [] k (All-nil (λ line. is_logical line ≡ true → IsLedBy c line)))

-- ---- no rule is broken before what is left

-- where the blanks of the line that is read are of one kind
pub faultless_here : (file : ℕ) (bytes : List ℕ) (all : List Glyph) (spot : Spot) (running : List ℕ) (lines : Lines) (tokens : List Token) → IsFile bytes all → (laid : IsLaid file all spot running lines tokens)
    → lines.lead.mixed ≡ None → IsFaultless bytes laid.pieces spot.glyphs
faultless_here file bytes all spot running lines tokens read laid one =
    let ps = laid.pieces in
    let kind = of_kind lines.lead.kind (blanks_so_far ps) (laid.lines_are.kind one) in
    let P : Piece → Type 0 = λ p. p ≡ Blank kind.0 in
    let led : IsLedBy kind.0 (line ps) = line_led kind.0 (line ps) (all_back P (blanks_of (whole ps)) (blanks (line ps)) kind.1) in
    record {
      glyphs = all;
      read = read;
      cut = laid.cut;
      within = laid.within;
      matched = laid.matched;
      blank = kind.0;
      indented = indented_more kind.0 (whole ps) (line ps) (all_front P (blanks_of (whole ps)) (blanks (line ps)) kind.1) (λ logical. led);
      led = λ token. led;
    }

-- where the line has no token from here on
pub faultless_ended : (file : ℕ) (bytes : List ℕ) (all : List Glyph) (spot : Spot) (running : List ℕ) (lines : Lines) (tokens : List Token) → IsFile bytes all → (laid : IsLaid file all spot running lines tokens)
    → (HasToken spot.glyphs → ⊥) → IsFaultless bytes laid.pieces spot.glyphs
faultless_ended file bytes all spot running lines tokens read laid none =
    let ps = laid.pieces in
    let kind = of_kind lines.kind (blanks_of (lines_of ps)) laid.lines_are.settled in
    record {
      glyphs = all;
      read = read;
      cut = laid.cut;
      within = laid.within;
      matched = laid.matched;
      blank = kind.0;
      indented = indented_by kind.0 (lines_of ps) kind.1;
      led = λ token. absurd (none token);
    }

-- ---- the first blank of the other kind

two_kinds : (k b : Kind) → (k ≡ b → ⊥) → AreOther (code_of b) (code_of k)
two_kinds Space Space h = absurd (h refl)
two_kinds Space Tab h = inl (refl, refl)
two_kinds Tab Space h = inr (refl, refl)
two_kinds Tab Tab h = absurd (h refl)

one_line : (l : List Piece) (lines : List (List Piece)) (b : Bool) → filter is_indentation (flat_map lead (cond b (l ∷ lines) lines)) ≡ (if b then blanks l else []) ++ filter is_indentation (flat_map lead lines)
one_line l lines true = filter-append is_indentation (lead l) (flat_map lead lines)
one_line l lines false = refl

cond_append : (b : Bool) (l : List Piece) (lines more : List (List Piece)) → cond b (l ∷ lines) lines ++ more ≡ cond b (l ∷ lines ++ more) (lines ++ more)
cond_append true l lines more = refl
cond_append false l lines more = refl

-- the blanks so far are those of which the definition takes the first
indentation_by : (lines : List (List Piece)) (l : List Piece) → filter is_indentation (flat_map lead (filter is_logical lines ++ l ∷ [])) ≡ blanks_of lines ++ blanks l
indentation_by [] l = ap (filter is_indentation) (append-nil (lead l))
indentation_by (x ∷ lines) l =
    ap (λ t. filter is_indentation (flat_map lead t)) (cond_append (is_logical x) x (filter is_logical lines) (l ∷ []))
    ∙ one_line x (filter is_logical lines ++ l ∷ []) (is_logical x) ∙ ap (λ t. (if is_logical x then blanks x else []) ++ t) (indentation_by lines l)
    ∙ sym (append_assoc (if is_logical x then blanks x else []) (blanks_of lines) (blanks l))

pub mixed_first : (file : ℕ) (bytes : List ℕ) (all : List Glyph) (pieces : List Piece) (rest : List Glyph) (f : Fault) → IsFile bytes all → IsCut all pieces rest → All IsWithin (lines_of pieces) → AreBlocks (lines_of pieces)
    → IsMixed file pieces f → HasToken rest → FirstFault file bytes f.pos f.rule
mixed_first file bytes all pieces rest f read cut within matched m token =
    let b = code_of m.blank in
    let o = code_of m.kind in
    let ps : List Piece = m.before ++ Blank b ∷ m.after in
    let C : List Piece → Type 0 = λ t. IsCut all t rest in
    let W : List Piece → Type 0 = λ t. All IsWithin (lines_of t) in
    let M : List Piece → Type 0 = λ t. AreBlocks (lines_of t) in
    let P : Piece → Type 0 = λ p. p ≡ Blank o in
    let A : List Piece → Type 0 = λ t. AreAll o t in
    let every : AreAll o (blanks_of (whole m.before) ++ blanks (line m.before)) = subst A (sym m.one.1) (All-cons P (Blank o) m.one.0 refl m.one.2) in
    let led : IsLedBy o (line m.before) = line_led o (line m.before) (all_back P (blanks_of (whole m.before)) (blanks (line m.before)) every) in
    let indented = indented_more o (whole m.before) (line m.before) (all_front P (blanks_of (whole m.before)) (blanks (line m.before)) every) (λ logical. led) in
    let by : IsIndentedBy o m.before = (m.one.0, indentation_by (whole m.before) (line m.before) ∙ m.one.1) in
    let found = first_mixed_blank file bytes all m.before m.after rest b o read (subst C m.split cut) (subst W m.split within) (subst M m.split matched) (ap whole (sym m.split) ∙ m.same_whole)
    (ap line (sym m.split) ∙ m.same_line) (ap (λ t. is_logical (line t)) (sym m.split) ∙ m.tokenless) (two_kinds m.kind m.blank m.other) indented led by token in
    let Q : Pos → Type 0 = λ p. FirstFault file bytes p rules.MixedIndentation in
    let R : Rule → Type 0 = λ r. FirstFault file bytes f.pos r in
    subst R (sym m.rule) (subst Q (sym m.at) found)

-- ---- a stray character that was put off

strays_first : (file : ℕ) (bytes : List ℕ) (pieces : List Piece) (rest : List Glyph) (rule : Rule) → IsFaultless bytes pieces rest → Strays rule rest → FirstFault file bytes (place_behind file (texts pieces)) rule
strays_first file bytes pieces rest rules.NotUtf8 h s = first_bad_byte file bytes pieces rest h (s.0, s.1, s.2, inl refl)
strays_first file bytes pieces rest rules.StrayCharacter h s = first_stray file bytes pieces rest h s
strays_first file bytes pieces rest _ h s = absurd s

pub stray_at : (file : ℕ) (bytes : List ℕ) (pieces : List Piece) (rest : List Glyph) (f : Fault) → IsFaultless bytes pieces rest → Strays f.rule rest → f.pos ≡ place_behind file (texts pieces) → FirstFault file bytes f.pos f.rule
stray_at file bytes pieces rest f h s e =
    let P : Pos → Type 0 = λ p. FirstFault file bytes p f.rule in
    subst P (sym e) (strays_first file bytes pieces rest f.rule h s)

pub put_off_first : (file : ℕ) (bytes : List ℕ) (all : List Glyph) (l : Lexer) (f : Fault) → IsFile bytes all → IsPutOff file all l f → (HasToken l.cursor.glyphs → ⊥) → FirstFault file bytes f.pos f.rule
put_off_first file bytes all l f read h none =
    let ps = h.pieces in
    let m = h.blank_is in
    let o = code_of m.kind in
    let P : Piece → Type 0 = λ p. p ≡ Blank o in
    let A : List Piece → Type 0 = λ t. AreAll o t in
    let every : AreAll o (blanks_of (whole m.before) ++ blanks (line m.before)) = subst A (sym m.one.1) (All-cons P (Blank o) m.one.0 refl m.one.2) in
    let before : AreAll o (blanks_of (whole ps)) = subst A (ap blanks_of (sym m.same_whole)) (all_front P (blanks_of (whole m.before)) (blanks (line m.before)) every) in
    stray_at file bytes ps h.rest f
    (record {
      glyphs = all;
      read = read;
      cut = h.cut;
      within = h.within;
      matched = h.matched;
      blank = o;
      indented = indented_more o (whole ps) (line ps) before (λ logical. absurd (not_both (is_logical (line ps)) logical m.tokenless));
      led = λ token. absurd (none (h.far.0 token));
    })
    h.strays h.at

-- behind the character a token comes in the line where one comes behind it
pub mixed_put_off : (file : ℕ) (bytes : List ℕ) (all : List Glyph) (l : Lexer) (f m : Fault) → IsFile bytes all → IsPutOff file all l f → l.lines.lead.mixed ≡ Some m → HasToken l.cursor.glyphs → FirstFault file bytes m.pos m.rule
mixed_put_off file bytes all l f m read h e token =
    let same : m ≡ h.blank = some_same m h.blank (sym e ∙ h.mixed) in
    let P : Fault → Type 0 = λ t. FirstFault file bytes t.pos t.rule in
    subst P (sym same) (mixed_first file bytes all h.pieces h.rest h.blank read h.cut h.within h.matched h.blank_is (h.far.1 token))
  where
    some_same : (x y : Fault) → Some x ≡ Some y → x ≡ y
    some_same x y e = cc
