-- Where a piece stands next, a string that begins there ends, and its backslashes begin escapes.
use Rattle.std.proofs.Common.{◌≡◌, ℕ, Bool, true, false, List, [], ◌∷◌, ◌++◌, map, refl, ap, sym, ◌∙◌, subst, inl, inr, arith, append_assoc, true≢false}
use Rattle.std.specs.Prelude.{◌⊎◌}
use Rattle.std.specs.Int.{IsInRange}
use Rattle.std.proofs.lemmas.List.{map-append}
use Rattle.gd_syntax.specs.declared.token.TokenKind.{TokenKind}
use Rattle.gd_syntax.specs.declared.token.TokenKind.TheVariants as kinds
use Rattle.gd_rules.specs.declared.rule.Rule.TheVariants as rules
use Rattle.gd_lexis.specs.declared.glyph.Glyph.{Glyph}
use Rattle.gd_lexis.specs.declared.glyph.Glyph.TheVariants.{Char}
use Rattle.gd_lexis.specs.Strings.{Quote, opening, closing, Body}
use Rattle.gd_lexis.specs.Pieces.{Piece, Writes, BeginsWith, BeginsBy, IsClear}
use Rattle.gd_lexis.specs.Faults.{Opens, Breaks}
use Rattle.gd_lexis.proofs.Bodies.{parts_of, one, three, IsMark, opened, Written, single, triple, written, no_mark}
use Rattle.gd_lexis.proofs.Tokens.{BeginsName, BeginsMark, token_begins, next, keyword_letters, two_letters}
use Rattle.gd_lexis.proofs.Cuts.{IsGap, char_parts}
use Rattle.gd_lexis.proofs.Heads.{Front, TokenFront, token_front, token_front_of, begins_at}
use Rattle.gd_lexis.proofs.Quotes.{inside_of}

-- ---- texts as glyphs

abbrev pub glyphs_opened : Bool → List Glyph → List Glyph
glyphs_opened true gs = Char 114 ∷ gs
glyphs_opened false gs = gs

pub opened_one : (r : Bool) (m : ℕ) (us : List Glyph) → map Char (opening (one r m)) ++ us ≡ glyphs_opened r (Char m ∷ us)
opened_one true m us = refl
opened_one false m us = refl

pub opened_three : (r : Bool) (m : ℕ) (us : List Glyph) → map Char (opening (three r m)) ++ us ≡ glyphs_opened r (Char m ∷ Char m ∷ Char m ∷ us)
opened_three true m us = refl
opened_three false m us = refl

pub joined_glyphs : (cs ds : List ℕ) (us : List Glyph) → map Char (cs ++ ds) ++ us ≡ map Char cs ++ (map Char ds ++ us)
joined_glyphs cs ds us = ap (λ t. t ++ us) (map-append Char cs ds) ∙ append_assoc (map Char cs) (map Char ds) us

text_opened : (r : Bool) (cs : List ℕ) (us : List Glyph) → map Char (opened r cs) ++ us ≡ glyphs_opened r (map Char cs ++ us)
text_opened true cs us = refl
text_opened false cs us = refl

pub same_glyphs : (r r' : Bool) (m n : ℕ) (us vs : List Glyph) → IsMark m → IsMark n → glyphs_opened r (Char m ∷ us) ≡ glyphs_opened r' (Char n ∷ vs) → (r ≡ r') × (m ≡ n) × (us ≡ vs)
same_glyphs true true m n us vs h k e = let same = char_parts m n us vs (char_parts 114 114 (Char m ∷ us) (Char n ∷ vs) e).1 in (refl, same.0, same.1)
same_glyphs true false m n us vs h k e = let same = (char_parts 114 n (Char m ∷ us) vs e).0 in absurd (omega arith)
same_glyphs false true m n us vs h k e = let same = (char_parts m 114 us (Char n ∷ vs) e).0 in absurd (omega arith)
same_glyphs false false m n us vs h k e = let same = char_parts m n us vs e in (refl, same.0, same.1)

-- ---- the string that stands here

abbrev pub Found : Quote → List Glyph → Type 0
Found q gs = (body : List ℕ) × (t : List ℕ) × (rest : List Glyph) × Body q body t × (gs ≡ map Char (opening q) ++ (map Char body ++ (map Char (closing q) ++ rest)))

pub single_glyphs : (r : Bool) (n : ℕ) (body text : List ℕ) (more : List Glyph) → text ≡ opened r (n ∷ body ++ n ∷ []) → map Char text ++ more ≡ glyphs_opened r (Char n ∷ map Char body ++ (Char n ∷ more))
single_glyphs r n body text more e =
    ap (λ t. map Char t ++ more) e ∙ text_opened r (n ∷ body ++ n ∷ []) more ∙ ap (λ t. glyphs_opened r (Char n ∷ t)) (joined_glyphs body (n ∷ []) more)

pub triple_glyphs : (r : Bool) (n : ℕ) (body text : List ℕ) (more : List Glyph) → text ≡ opened r (n ∷ n ∷ n ∷ body ++ n ∷ n ∷ n ∷ [])
    → map Char text ++ more ≡ glyphs_opened r (Char n ∷ Char n ∷ Char n ∷ map Char body ++ (Char n ∷ Char n ∷ Char n ∷ more))
triple_glyphs r n body text more e =
    ap (λ t. map Char t ++ more) e ∙ text_opened r (n ∷ n ∷ n ∷ body ++ n ∷ n ∷ n ∷ []) more
    ∙ ap (λ t. glyphs_opened r (Char n ∷ Char n ∷ Char n ∷ t)) (joined_glyphs body (n ∷ n ∷ n ∷ []) more)

-- where one mark opens a string and three do not
found_one : (r : Bool) (m : ℕ) (gs us more : List Glyph) (text t : List ℕ) → IsMark m → gs ≡ glyphs_opened r (Char m ∷ us) → (BeginsWith (opening (three r m)) gs → ⊥)
    → gs ≡ map Char text ++ more → Written text t → Found (one r m) gs
found_one r m gs us more text t h e alone f (single r' n body k g b) =
    let glyphs = f ∙ single_glyphs r' n body text more g in
    let same = same_glyphs r' r n m (map Char body ++ (Char n ∷ more)) us k h (sym glyphs ∙ e) in
    let quotes : one r' n ≡ one r m = ap (λ x. one x n) same.0 ∙ ap (λ x. one r x) same.1 in
    let P : Quote → Type 0 = λ q. Body q body t in
    let opens : gs ≡ map Char (opening (one r' n)) ++ (map Char body ++ (Char n ∷ more)) = glyphs ∙ sym (opened_one r' n (map Char body ++ (Char n ∷ more))) in
    (body, t, more, subst P quotes b, opens ∙ ap (λ q. map Char (opening q) ++ (map Char body ++ (map Char (closing q) ++ more))) quotes)
found_one r m gs us more text t h e alone f (triple r' n body k g b) =
    let tail : List Glyph = map Char body ++ (Char n ∷ Char n ∷ Char n ∷ more) in
    let glyphs = f ∙ triple_glyphs r' n body text more g in
    let same = same_glyphs r' r n m (Char n ∷ Char n ∷ tail) us k h (sym glyphs ∙ e) in
    let quotes : three r' n ≡ three r m = ap (λ x. three x n) same.0 ∙ ap (λ x. three r x) same.1 in
    absurd (alone (tail, glyphs ∙ sym (opened_three r' n tail) ∙ ap (λ q. map Char (opening q) ++ tail) quotes))

not_single : (r : Bool) (m n : ℕ) (us more : List Glyph) (body text t : List ℕ) → IsMark m → IsMark n → n ≡ m → map Char body ++ (Char n ∷ more) ≡ Char m ∷ Char m ∷ us
    → text ≡ opened r (n ∷ body ++ n ∷ []) → Body (one r n) body t → IsClear (kinds.Quoted t) text more → ⊥
not_single r m n us more [] text t h k same e f b clear =
    let behind = (char_parts n m more (Char m ∷ us) e).1 in
    clear (one r n) refl (f ∙ sym (opens r n)) (us, behind ∙ ap (λ x. Char x ∷ us) (sym same))
  where
    opens : (r : Bool) (n : ℕ) → opening (one r n) ++ n ∷ [] ≡ opened r (n ∷ n ∷ [])
    opens true n = refl
    opens false n = refl
not_single r m n us more (c ∷ cs) text t h k same e f b clear =
    no_mark r n c cs t k ((char_parts c m (map Char cs ++ (Char n ∷ more)) (Char m ∷ us) e).0 ∙ sym same) (parts_of (one r n) b)

found_three : (r : Bool) (m : ℕ) (gs us more : List Glyph) (text t : List ℕ) → IsMark m → gs ≡ glyphs_opened r (Char m ∷ Char m ∷ Char m ∷ us) → IsClear (kinds.Quoted t) text more
    → gs ≡ map Char text ++ more → Written text t → Found (three r m) gs
found_three r m gs us more text t h e clear f (single r' n body k g b) =
    let glyphs = f ∙ single_glyphs r' n body text more g in
    let same = same_glyphs r' r n m (map Char body ++ (Char n ∷ more)) (Char m ∷ Char m ∷ us) k h (sym glyphs ∙ e) in
    absurd (not_single r' m n us more body text t h k same.1 same.2 g b clear)
found_three r m gs us more text t h e clear f (triple r' n body k g b) =
    let tail : List Glyph = map Char body ++ (Char n ∷ Char n ∷ Char n ∷ more) in
    let glyphs = f ∙ triple_glyphs r' n body text more g in
    let same = same_glyphs r' r n m (Char n ∷ Char n ∷ tail) (Char m ∷ Char m ∷ us) k h (sym glyphs ∙ e) in
    let quotes : three r' n ≡ three r m = ap (λ x. three x n) same.0 ∙ ap (λ x. three r x) same.1 in
    let P : Quote → Type 0 = λ q. Body q body t in
    let opens : gs ≡ map Char (opening (three r' n)) ++ tail = glyphs ∙ sym (opened_three r' n tail) in
    (body, t, more, subst P quotes b, opens ∙ ap (λ q. map Char (opening q) ++ (map Char body ++ (map Char (closing q) ++ more))) quotes)

-- ---- the token there

-- at a quote stands a string
data QuotedFront (gs : List Glyph) : Type 0 where
  quoted_front : (text t : List ℕ) (more : List Glyph) → gs ≡ map Char text ++ more → Written text t → IsClear (kinds.Quoted t) text more → QuotedFront gs

at_quote : (kind : TokenKind) (text : List ℕ) (more us : List Glyph) (m : ℕ) → IsMark m → Writes kind text → IsClear kind text more → map Char text ++ more ≡ Char m ∷ us → QuotedFront (Char m ∷ us)
at_quote (kinds.Word name) text more us m h k clear e = let b = begins_at (kinds.Word name) text more us m k e in let d : BeginsName m b.0 = b.1 in absurd (omega arith)
at_quote (kinds.Keyword l) text more us m h k clear e = let b = begins_at (kinds.Keyword l) text more us m k e in let d : BeginsName m b.0 = b.1 in absurd (omega arith)
at_quote (kinds.Number n) text more us m h k clear e = let b = begins_at (kinds.Number n) text more us m k e in let d : IsInRange 48 57 m = b.1 in absurd (omega arith)
at_quote (kinds.Quoted t) text more us m h k clear e = quoted_front text t more (sym e) (written text t k) clear
at_quote (kinds.Mark i) text more us m h k clear e = let b = begins_at (kinds.Mark i) text more us m k e in let d : BeginsMark m = b.1 in absurd (omega arith)
at_quote _ text more us m h k clear e = absurd k

mark_no_gap : (m : ℕ) → IsMark m → IsGap m → ⊥
mark_no_gap m h g = omega arith

from_quote : (us : List Glyph) (ps : List Piece) (m : ℕ) → IsMark m → TokenFront (Char m ∷ us) ps → QuotedFront (Char m ∷ us)
from_quote us ps m h (token_front kind text more rest e f k longest clear) = at_quote kind text more us m h k clear (sym f)

quoted_here : (us : List Glyph) (ps : List Piece) (m : ℕ) → IsMark m → Front (Char m ∷ us) ps → QuotedFront (Char m ∷ us)
quoted_here us ps m h cut = from_quote us ps m h (token_front_of m us (Char m ∷ us) ps refl (mark_no_gap m h) cut)

-- at `r` before a quote stands no name: it would be `r`, or go on
r_alone : (m : ℕ) (us more : List Glyph) (text : List ℕ) → IsMark m → (c : ℕ) (tail : List ℕ) → text ≡ c ∷ tail → BeginsName c (next tail) → map Char text ++ more ≡ Char 114 ∷ Char m ∷ us
    → (text ≡ 114 ∷ [] → BeginsBy (λ c. (c ≡ 34) ⊎ (c ≡ 39)) more → ⊥) → ⊥
r_alone m us more text h c [] e k f clear =
    let heads = char_parts c 114 more (Char m ∷ us) (ap (λ t. map Char t ++ more) (sym e) ∙ f) in
    clear (e ∙ ap (λ x. x ∷ []) heads.0) (m, h, (us, heads.1))
r_alone m us more text h c (d ∷ tail) e k f clear =
    let heads = char_parts c 114 (Char d ∷ map Char tail ++ more) (Char m ∷ us) (ap (λ t. map Char t ++ more) (sym e) ∙ f) in
    let second : d ≡ m = (char_parts d m (map Char tail ++ more) us heads.1).0 in
    omega arith

at_raw : (kind : TokenKind) (text : List ℕ) (more us : List Glyph) (m : ℕ) → IsMark m → Writes kind text → IsClear kind text more
    → map Char text ++ more ≡ Char 114 ∷ Char m ∷ us → QuotedFront (Char 114 ∷ Char m ∷ us)
at_raw (kinds.Word name) text more us m h k clear e = let b = token_begins (kinds.Word name) text k in absurd (r_alone m us more text h b.0 b.1 b.2 b.3 e clear.1)
at_raw (kinds.Keyword l) text more us m h k clear e =
    let b = token_begins (kinds.Keyword l) text k in
    absurd (r_alone m us more text h b.0 b.1 b.2 b.3 e (λ same q. true≢false (sym (keyword_letters l) ∙ ap two_letters (sym k ∙ same))))
at_raw (kinds.Number n) text more us m h k clear e = let b = begins_at (kinds.Number n) text more (Char m ∷ us) 114 k e in let d : IsInRange 48 57 114 = b.1 in absurd (omega arith)
at_raw (kinds.Quoted t) text more us m h k clear e = quoted_front text t more (sym e) (written text t k) clear
at_raw (kinds.Mark i) text more us m h k clear e = let b = begins_at (kinds.Mark i) text more (Char m ∷ us) 114 k e in let d : BeginsMark 114 = b.1 in absurd (omega arith)
at_raw _ text more us m h k clear e = absurd k

r_no_gap : IsGap 114 → ⊥
r_no_gap g = omega arith

from_raw : (us : List Glyph) (ps : List Piece) (m : ℕ) → IsMark m → TokenFront (Char 114 ∷ Char m ∷ us) ps → QuotedFront (Char 114 ∷ Char m ∷ us)
from_raw us ps m h (token_front kind text more rest e f k longest clear) = at_raw kind text more us m h k clear (sym f)

raw_here : (us : List Glyph) (ps : List Piece) (m : ℕ) → IsMark m → Front (Char 114 ∷ Char m ∷ us) ps → QuotedFront (Char 114 ∷ Char m ∷ us)
raw_here us ps m h first = from_raw us ps m h (token_front_of 114 (Char m ∷ us) (Char 114 ∷ Char m ∷ us) ps refl r_no_gap first)

-- ---- the string that is opened here

string_one : (r : Bool) (m : ℕ) (us : List Glyph) → IsMark m → (BeginsWith (opening (three r m)) (glyphs_opened r (Char m ∷ us)) → ⊥) → QuotedFront (glyphs_opened r (Char m ∷ us))
    → Found (one r m) (glyphs_opened r (Char m ∷ us))
string_one r m us h alone (quoted_front text t more e w clear) = found_one r m (glyphs_opened r (Char m ∷ us)) us more text t h refl alone e w

string_three : (r : Bool) (m : ℕ) (us : List Glyph) → IsMark m → QuotedFront (glyphs_opened r (Char m ∷ Char m ∷ Char m ∷ us)) → Found (three r m) (glyphs_opened r (Char m ∷ Char m ∷ Char m ∷ us))
string_three r m us h (quoted_front text t more e w clear) = found_three r m (glyphs_opened r (Char m ∷ Char m ∷ Char m ∷ us)) us more text t h refl clear e w

here_one : (r : Bool) (m : ℕ) (us : List Glyph) (ps : List Piece) → IsMark m → (BeginsWith (opening (three r m)) (glyphs_opened r (Char m ∷ us)) → ⊥) → Front (glyphs_opened r (Char m ∷ us)) ps
    → Found (one r m) (glyphs_opened r (Char m ∷ us))
here_one true m us ps h alone first = string_one true m us h alone (raw_here us ps m h first)
here_one false m us ps h alone first = string_one false m us h alone (quoted_here us ps m h first)

here_three : (r : Bool) (m : ℕ) (us : List Glyph) (ps : List Piece) → IsMark m → Front (glyphs_opened r (Char m ∷ Char m ∷ Char m ∷ us)) ps
    → Found (three r m) (glyphs_opened r (Char m ∷ Char m ∷ Char m ∷ us))
here_three true m us ps h first = string_three true m us h (raw_here (Char m ∷ Char m ∷ us) ps m h first)
here_three false m us ps h first = string_three false m us h (quoted_here (Char m ∷ Char m ∷ us) ps m h first)

counted : (q : Quote) (n : ℕ) → q.count ≡ n → q ≡ record { is_raw = q.is_raw; mark = q.mark; count = n }
counted q n e = ap (λ n. record { is_raw = q.is_raw; mark = q.mark; count = n }) e

-- where a string is opened, and what is left is cut to its end, the string stands there
string_by : (q : Quote) (gs : List Glyph) (ps : List Piece) → IsMark q.mark → (q.count ≡ 1) ⊎ (q.count ≡ 3) → BeginsWith (opening q) gs
    → (q.count ≡ 1 → BeginsWith (opening (three q.is_raw q.mark)) gs → ⊥) → Front gs ps → Found q gs
string_by q gs ps h (inl e) begins alone cut =
    let same = counted q 1 e in
    let glyphs : gs ≡ glyphs_opened q.is_raw (Char q.mark ∷ begins.0) = begins.1 ∙ ap (λ t. map Char (opening t) ++ begins.0) same ∙ opened_one q.is_raw q.mark begins.0 in
    let P : List Glyph → Type 0 = λ t. BeginsWith (opening (three q.is_raw q.mark)) t → ⊥ in
    let R : List Glyph → Type 0 = λ t. Front t ps in
    let S : List Glyph → Type 0 = λ t. Found (one q.is_raw q.mark) t in
    let T : Quote → Type 0 = λ t. Found t gs in
    subst T (sym same) (subst S (sym glyphs) (here_one q.is_raw q.mark begins.0 ps h (subst P glyphs (alone e)) (subst R glyphs cut)))
string_by q gs ps h (inr e) begins alone cut =
    let same = counted q 3 e in
    let glyphs : gs ≡ glyphs_opened q.is_raw (Char q.mark ∷ Char q.mark ∷ Char q.mark ∷ begins.0) = begins.1 ∙ ap (λ t. map Char (opening t) ++ begins.0) same ∙ opened_three q.is_raw q.mark begins.0 in
    let R : List Glyph → Type 0 = λ t. Front t ps in
    let S : List Glyph → Type 0 = λ t. Found (three q.is_raw q.mark) t in
    let T : Quote → Type 0 = λ t. Found t gs in
    subst T (sym same) (subst S (sym glyphs) (here_three q.is_raw q.mark begins.0 ps h (subst R glyphs cut)))

pub string_here : (q : Quote) (gs : List Glyph) (ps : List Piece) → Opens q gs → Front gs ps → Found q gs
string_here q gs ps h cut = string_by q gs ps h.0.0 h.0.1 h.1 h.2 cut

pub unterminated_string : (before : List Piece) (gs ahead : List Glyph) (ps : List Piece) → Front gs ps → Breaks rules.UnterminatedString before gs ahead → ⊥
unterminated_string before gs ahead ps cut k =
    let q = k.1.0 in
    let f = string_here q gs ps k.1.1 cut in
    k.1.2 (map Char f.0) f.2 (k.1.1, f.4, inside_of q f.2 k.1.1.0 f.3)
