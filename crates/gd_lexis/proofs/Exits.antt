-- The first fault of a file, for each way in which its reading ends with one.
use Rattle.std.proofs.Common.{◌≡◌, ◌≢◌, ℕ, List, [], ◌∷◌, ◌++◌, map, refl, ap, sym, inl, inr, arith}
use Rattle.std.specs.Prelude.{All}
use Rattle.std.proofs.lemmas.Str.{digit_value_digit}
use Rattle.std.proofs.lemmas.List.Elements.{All-head, All-tail, All-nil, All-cons}
use Rattle.gd_syntax.specs.declared.token.Mark.TheVariants as marks
use Rattle.gd_rules.specs.declared.rule.Rule.{Rule}
use Rattle.gd_rules.specs.declared.rule.Rule.TheVariants as rules
use Rattle.gd_lexis.specs.declared.glyph.Glyph.{Glyph}
use Rattle.gd_lexis.specs.declared.glyph.Glyph.TheVariants.{Char, Bad}
use Rattle.gd_lexis.specs.Chars.{place_behind}
use Rattle.gd_lexis.specs.Strings.{Quote, opening}
use Rattle.gd_lexis.specs.Pieces.{Piece, BeginsWith, IsCut}
use Rattle.gd_lexis.specs.Lines.{texts}
use Rattle.gd_lexis.specs.Faults.{BeginsToken, IsWhole, IsStray, Breaks, FirstFault}
use Rattle.gd_lexis.specs.Faultless.{IsFaultless, IsFitting, IsReadable, IsStringFault, Clean}
use Rattle.gd_lexis.proofs.Heads.{front, word_start}
use Rattle.gd_lexis.proofs.Numerals.{stray_character, capital_starts}
use Rattle.gd_lexis.proofs.Bytes.{not_utf8}
use Rattle.gd_lexis.proofs.Slashes.{bad_escape}
use Rattle.gd_lexis.proofs.Bounds.{IsOpeningCode}
use Rattle.gd_lexis.proofs.Sites.{Next, IsQuoteCode, IsFloatCode, opens_code, opens_token, number_code, float_code, bracket_code}
use Rattle.gd_lexis.proofs.Later.{first_here, first_inside}
use Rattle.gd_lexis.proofs.Least.{one_or_more, same_code, at_token, at_fitting, at_closed, closed_by, from_eight, from_nine, from_eleven, from_twelve, at_readable, no_blocks_within, no_brackets_first, at_blank, at_stray, NoString}
use Rattle.gd_lexis.proofs.Insides.{comment_first, string_first}

-- the rule is the first fault of the file, where what is left begins
abbrev IsHere : ℕ → List ℕ → List Piece → Rule → Type 0
IsHere file bytes before rule = FirstFault file bytes (place_behind file (texts before)) rule

-- ---- before a token

pub first_bad_byte : (file : ℕ) (bytes : List ℕ) (before : List Piece) (gs : List Glyph) → IsFaultless bytes before gs → Breaks rules.NotUtf8 before gs [] → IsHere file bytes before rules.NotUtf8
first_bad_byte file bytes before gs h k = first_here file bytes before gs rules.NotUtf8 h k (λ other b. one_or_more other)

pub first_mixed : (file : ℕ) (bytes : List ℕ) (before : List Piece) (gs : List Glyph) → IsFaultless bytes before gs → Breaks rules.MixedIndentation before gs [] → IsHere file bytes before rules.MixedIndentation
first_mixed file bytes before gs h (z, first, token, inl k) = first_here file bytes before gs rules.MixedIndentation h (z, first, token, inl k) (λ other b. at_blank other 9 before gs k.1 b)
first_mixed file bytes before gs h (z, first, token, inr k) = first_here file bytes before gs rules.MixedIndentation h (z, first, token, inr k) (λ other b. at_blank other 32 before gs k.1 b)

pub first_stray : (file : ℕ) (bytes : List ℕ) (before : List Piece) (gs : List Glyph) → IsFaultless bytes before gs → IsStray gs → IsHere file bytes before rules.StrayCharacter
first_stray file bytes before gs h s = first_here file bytes before gs rules.StrayCharacter h (inl (refl, s)) (λ other b. at_stray other before gs s b)

-- ---- at a token

pub first_unmatched : (file : ℕ) (bytes : List ℕ) (before : List Piece) (gs : List Glyph) → IsFaultless bytes before gs → Breaks rules.UnmatchedDedent before gs [] → IsHere file bytes before rules.UnmatchedDedent
first_unmatched file bytes before gs h k = first_here file bytes before gs rules.UnmatchedDedent h k (λ other b. at_token other before gs k.1.1 b)

pub first_unterminated : (file : ℕ) (bytes : List ℕ) (before : List Piece) (gs : List Glyph) → IsFaultless bytes before gs → IsFitting before → Breaks rules.UnterminatedString before gs []
    → IsHere file bytes before rules.UnterminatedString
first_unterminated file bytes before gs h fits k = first_here file bytes before gs rules.UnterminatedString h k (λ other b. at_fitting other before gs (opens_token k.1.0 gs k.1.1) fits b)

not_quoted : (c : ℕ) (gs : List Glyph) → Next c gs → IsFloatCode c → NoString gs
not_quoted c gs n k q h =
    let code = opens_code q gs h in
    let same = same_code c code.0 gs n code.1 in
    let quote : IsQuoteCode code.0 = code.2 in
    omega arith

float_begins : (c : ℕ) (gs : List Glyph) → Next c gs → IsFloatCode c → BeginsToken gs
float_begins c gs n (inl e) = (c, inr (inr (marks.Dot, [], ap (λ x. x ∷ []) (sym e))), n)
float_begins c gs n (inr (inl h)) = (c, inr (inl (omega (arith, digit_value_digit c h))), n)
float_begins c gs n (inr (inr h)) = (c, inl (word_start c (capital_starts c h)), n)

pub first_float : (file : ℕ) (bytes : List ℕ) (before : List Piece) (gs : List Glyph) → IsFaultless bytes before gs → IsFitting before → Breaks rules.Float before gs [] → IsHere file bytes before rules.Float
first_float file bytes before gs h fits k =
    let code = float_code before gs [] k in
    let token = float_begins code.0 gs code.1 code.2 in
    first_here file bytes before gs rules.Float h k (λ other b. at_closed other before gs token fits (closed_by before gs (not_quoted code.0 gs code.1 code.2)) b)

pub first_too_large : (file : ℕ) (bytes : List ℕ) (before : List Piece) (gs : List Glyph) → IsFaultless bytes before gs → IsFitting before → (Breaks rules.Float before gs [] → ⊥)
    → Breaks rules.IntegerTooLarge before gs [] → IsHere file bytes before rules.IntegerTooLarge
first_too_large file bytes before gs h fits no_float k =
    let code = number_code k.1.0 k.1.1 gs k.1.2 in
    let token = float_begins code.0 gs code.1 (inr (inl code.2)) in
    let closed = closed_by before gs (not_quoted code.0 gs code.1 (inr (inl code.2))) in
    first_here file bytes before gs rules.IntegerTooLarge h k (λ other b. from_eight other before gs no_float (at_closed other before gs token fits closed b) b)

pub first_bad_number : (file : ℕ) (bytes : List ℕ) (before : List Piece) (gs : List Glyph) → IsFaultless bytes before gs → IsFitting before → (Breaks rules.Float before gs [] → ⊥)
    → (Breaks rules.IntegerTooLarge before gs [] → ⊥) → Breaks rules.BadNumber before gs [] → IsHere file bytes before rules.BadNumber
first_bad_number file bytes before gs h fits no_float small k =
    let code = number_code k.1.0 k.1.1 gs k.1.3 in
    let token = float_begins code.0 gs code.1 (inr (inl code.2)) in
    let closed = closed_by before gs (not_quoted code.0 gs code.1 (inr (inl code.2))) in
    first_here file bytes before gs rules.BadNumber h k (λ other b. from_nine other before gs small (from_eight other before gs no_float (at_closed other before gs token fits closed b) b) b)

pub first_deep_bracket : (file : ℕ) (bytes : List ℕ) (before : List Piece) (gs : List Glyph) → IsFaultless bytes before gs → IsFitting before → IsReadable gs → Breaks rules.BracketsTooDeep before gs []
    → IsHere file bytes before rules.BracketsTooDeep
first_deep_bracket file bytes before gs h fits r k = first_here file bytes before gs rules.BracketsTooDeep h k (λ other b. at_readable other before gs r fits b)

pub first_deep_block : (file : ℕ) (bytes : List ℕ) (before : List Piece) (gs : List Glyph) → IsFaultless bytes before gs → IsFitting before → IsReadable gs → Breaks rules.BlocksTooDeep before gs []
    → IsHere file bytes before rules.BlocksTooDeep
first_deep_block file bytes before gs h fits r k =
    first_here file bytes before gs rules.BlocksTooDeep h k (λ other b. from_eleven other before gs (no_brackets_first before gs k.1.0) (at_readable other before gs r fits b) b)

pub first_long_item : (file : ℕ) (bytes : List ℕ) (before : List Piece) (gs : List Glyph) → IsFaultless bytes before gs → IsFitting before → IsReadable gs → (Breaks rules.BracketsTooDeep before gs [] → ⊥)
    → Breaks rules.ItemTooLong before gs [] → IsHere file bytes before rules.ItemTooLong
first_long_item file bytes before gs h fits r room k =
    first_here file bytes before gs rules.ItemTooLong h k (λ other b. from_twelve other before gs (no_blocks_within before gs k) (from_eleven other before gs room (at_readable other before gs r fits b) b) b)

-- ---- in a comment

no_feeds : (cs : List ℕ) → All (λ c. (c ≢ 10) × (c ≢ 13)) cs → All (λ g. g ≢ Char 10) (map Char cs)
no_feeds [] h = All-nil (λ g. g ≢ Char 10)
no_feeds (c ∷ cs) h =
    All-cons (λ g. g ≢ Char 10) (Char c) (map Char cs) (λ e. (All-head (λ c. (c ≢ 10) × (c ≢ 13)) c cs h).0 (char_same c 10 e)) (no_feeds cs (All-tail (λ c. (c ≢ 10) × (c ≢ 13)) c cs h))
  where
    char_same : (c d : ℕ) → Char c ≡ Char d → c ≡ d
    char_same c d e = cc

pub first_bad_in_comment : (file : ℕ) (bytes : List ℕ) (before : List Piece) (cs : List ℕ) (gs us : List Glyph) (b : ℕ) → IsFaultless bytes before gs → All (λ c. (c ≢ 10) × (c ≢ 13)) cs
    → gs ≡ map Char (35 ∷ cs) ++ Bad b ∷ us → FirstFault file bytes (place_behind file (texts before ++ map Char (35 ∷ cs))) rules.NotUtf8
first_bad_in_comment file bytes before cs gs us b h clean e =
    let k : Breaks rules.NotUtf8 before gs (map Char (35 ∷ cs)) = (b, us, e, inr (inl (map Char cs, refl, no_feeds cs clean))) in
    first_inside file bytes before gs (map Char (35 ∷ cs)) rules.NotUtf8 h k (λ p ps end cut. not_utf8 before gs (map Char (35 ∷ cs)) (p ∷ ps) (front p cut.0 ps refl cut.1 cut.2) k)
    (λ other at c. comment_first rules.NotUtf8 other before cs gs us at (Bad b) clean e (b, refl) c)

pub first_return_in_comment : (file : ℕ) (bytes : List ℕ) (before : List Piece) (cs : List ℕ) (gs us : List Glyph) → IsFaultless bytes before gs → All (λ c. (c ≢ 10) × (c ≢ 13)) cs
    → gs ≡ map Char (35 ∷ cs) ++ Char 13 ∷ us → (BeginsWith (10 ∷ []) us → ⊥) → FirstFault file bytes (place_behind file (texts before ++ map Char (35 ∷ cs))) rules.StrayCharacter
first_return_in_comment file bytes before cs gs us h clean e lone =
    let k : Breaks rules.StrayCharacter before gs (map Char (35 ∷ cs)) = inr ((map Char cs, refl, no_feeds cs clean), (us, e, lone)) in
    first_inside file bytes before gs (map Char (35 ∷ cs)) rules.StrayCharacter h k (λ p ps end cut. stray_character before gs (map Char (35 ∷ cs)) (p ∷ ps) (front p cut.0 ps refl cut.1 cut.2) k)
    (λ other at c. comment_first rules.StrayCharacter other before cs gs us at (Char 13) clean e refl c)

-- ---- in a string

-- the string breaks no rule at its own place
no_bracket_here : (before : List Piece) (gs : List Glyph) (q : Quote) (body rest : List Glyph) → IsWhole q body rest gs → Breaks rules.BracketsTooDeep before gs [] → ⊥
no_bracket_here before gs q body rest w k =
    let a = opens_code q gs w.0 in
    let b = bracket_code before gs [] k in
    let same = same_code a.0 b.0 gs a.1 b.1 in
    let quote : IsQuoteCode a.0 = a.2 in
    let bracket : IsOpeningCode b.0 = b.2 in
    omega arith

none_here : (before : List Piece) (gs : List Glyph) → IsReadable gs → IsFitting before → (Breaks rules.BracketsTooDeep before gs [] → ⊥) → (Breaks rules.BlocksTooDeep before gs [] → ⊥)
    → (Breaks rules.ItemTooLong before gs [] → ⊥) → (other : Rule) → Breaks other before gs [] → ⊥
none_here before gs r fits low few short rules.BracketsTooDeep k = low k
none_here before gs r fits low few short rules.BlocksTooDeep k = few k
none_here before gs r fits low few short rules.ItemTooLong k = short k
none_here before gs r fits low few short rules.NotUtf8 k = omega (arith, at_readable rules.NotUtf8 before gs r fits k)
none_here before gs r fits low few short rules.MixedIndentation k = omega (arith, at_readable rules.MixedIndentation before gs r fits k)
none_here before gs r fits low few short rules.UnmatchedDedent k = omega (arith, at_readable rules.UnmatchedDedent before gs r fits k)
none_here before gs r fits low few short rules.UnterminatedString k = omega (arith, at_readable rules.UnterminatedString before gs r fits k)
none_here before gs r fits low few short rules.BadEscape k = omega (arith, at_readable rules.BadEscape before gs r fits k)
none_here before gs r fits low few short rules.StrayCharacter k = omega (arith, at_readable rules.StrayCharacter before gs r fits k)
none_here before gs r fits low few short rules.Float k = omega (arith, at_readable rules.Float before gs r fits k)
none_here before gs r fits low few short rules.IntegerTooLarge k = omega (arith, at_readable rules.IntegerTooLarge before gs r fits k)
none_here before gs r fits low few short rules.BadNumber k = omega (arith, at_readable rules.BadNumber before gs r fits k)
none_here before gs r fits low few short _ k = absurd k

no_piece : (rule : Rule) (before : List Piece) (gs at : List Glyph) (g : Glyph) → IsStringFault rule g → Breaks rule before gs at → (p : Piece) (ps : List Piece) (end : List Glyph) → IsCut gs (p ∷ ps) end → ⊥
no_piece rules.NotUtf8 before gs at g f k p ps end cut = not_utf8 before gs at (p ∷ ps) (front p cut.0 ps refl cut.1 cut.2) k
no_piece rules.BadEscape before gs at g f k p ps end cut = bad_escape before gs at (p ∷ ps) (front p cut.0 ps refl cut.1 cut.2) k
no_piece _ before gs at g f k p ps end cut = absurd f

pub first_in_string : (file : ℕ) (bytes : List ℕ) (before : List Piece) (rule : Rule) (q : Quote) (body rest start gs us : List Glyph) (g : Glyph) → IsFaultless bytes before gs → IsFitting before
    → (Breaks rules.BlocksTooDeep before gs [] → ⊥) → (Breaks rules.ItemTooLong before gs [] → ⊥) → IsWhole q body rest gs → Clean q start → gs ≡ (map Char (opening q) ++ start) ++ g ∷ us
    → IsStringFault rule g → Breaks rule before gs (map Char (opening q) ++ start) → FirstFault file bytes (place_behind file (texts before ++ (map Char (opening q) ++ start))) rule
first_in_string file bytes before rule q body rest start gs us g h fits few short w clean e fault k =
    let at = map Char (opening q) ++ start in
    let none = none_here before gs (inr (q, body, rest, w)) fits (no_bracket_here before gs q body rest w) few short in
    first_inside file bytes before gs at rule h k (no_piece rule before gs at g fault k) (λ other there c. string_first q body rest rule other before start gs us there g w none clean e fault c)
