-- The least rule that can be broken at some place, by what stands there.
use Rattle.std.proofs.Common.{◌≡◌, ℕ, ◌≤◌, true, false, List, [], ◌∷◌, ◌++◌, map, fold, refl, ap, sym, ◌∙◌, subst, inl, inr, arith, slice_index}
use Rattle.std.specs.Prelude.{◌⊎◌}
use Rattle.std.specs.Int.{IsInRange}
use Rattle.gd_rules.specs.declared.rule.Rule.{Rule}
use Rattle.gd_rules.specs.declared.rule.Rule.TheVariants as rules
use Rattle.gd_lexis.specs.declared.glyph.Glyph.{Glyph}
use Rattle.gd_lexis.specs.declared.glyph.Glyph.TheVariants.{Char, Bad}
use Rattle.gd_lexis.specs.Strings.{Quote, IsQuote, opening}
use Rattle.gd_lexis.specs.Pieces.{Piece, Blank, LineFeed, Join, Comment, Tok, BeginsWith}
use Rattle.gd_lexis.specs.Lines.{is_logical, level_behind}
use Rattle.gd_lexis.specs.Items.{items_behind, closed}
use Rattle.gd_lexis.specs.Faults.{Opens, IsWhole, IsStray, IsCounted, BeginsToken, Breaks, line, number}
use Rattle.gd_lexis.specs.Faultless.{IsFitting, IsReadable}
use Rattle.gd_lexis.proofs.Bodies.{three, not_both}
use Rattle.gd_lexis.proofs.Cuts.{IsGap, char_parts, glyph_not_empty}
use Rattle.gd_lexis.proofs.Heads.{front, token_code, token_code_no_gap, begins_token}
use Rattle.gd_lexis.proofs.Numerals.{char_bad, integer_too_large, bad_number, float}
use Rattle.gd_lexis.proofs.Wholes.{glyphs_opened, opened_one, opened_three, same_glyphs, unterminated_string}
use Rattle.gd_lexis.proofs.Sites.{Next, IsQuoteCode, opening_begins, opens_code, opens_token, number_code, float_code}

pub one_or_more : (other : Rule) → 1 ≤ number other
one_or_more rules.NotUtf8 = omega arith
one_or_more rules.MixedIndentation = omega arith
one_or_more rules.UnmatchedDedent = omega arith
one_or_more rules.UnterminatedString = omega arith
one_or_more rules.BadEscape = omega arith
one_or_more rules.StrayCharacter = omega arith
one_or_more rules.Float = omega arith
one_or_more rules.IntegerTooLarge = omega arith
one_or_more rules.BadNumber = omega arith
one_or_more rules.BracketsTooDeep = omega arith
one_or_more rules.BlocksTooDeep = omega arith
one_or_more rules.ItemTooLong = omega arith
one_or_more _ = omega arith

-- ---- what is broken elsewhere

no_bad_here : (c : ℕ) (gs more : List Glyph) (b : ℕ) → Next c gs → gs ≡ Bad b ∷ more → ⊥
no_bad_here c gs more b n e = char_bad c b n.0 more (sym n.1 ∙ e)

pub same_code : (c d : ℕ) (gs : List Glyph) → Next c gs → Next d gs → c ≡ d
same_code c d gs n m = (char_parts c d n.0 m.0 (sym n.1 ∙ m.1)).0

pub token_next : (gs : List Glyph) → BeginsToken gs → (c : ℕ) × Next c gs × (IsGap c → ⊥)
token_next gs h = let code = token_code gs h in (code.0, (code.1, code.2), token_code_no_gap code.0 code.3)

no_gap_here : (d : ℕ) (gs : List Glyph) → BeginsToken gs → Next d gs → IsGap d → ⊥
no_gap_here d gs h n g =
    let code = token_next gs h in
    let P : ℕ → Type 0 = IsGap in
    code.2 (subst P (same_code d code.0 gs n code.1) g)

-- what opens a string is not empty
pub no_string_end : (q : Quote) (start : List Glyph) → IsQuote q → [] ≡ map Char (opening q) ++ start → ⊥
no_string_end q start h e =
    let b = opening_begins q h in
    glyph_not_empty (Char b.0) (map Char b.1 ++ start) (ap (λ t. map Char t ++ start) (sym b.2) ∙ sym e)

-- ---- at a token

pub at_token : (other : Rule) (before : List Piece) (gs : List Glyph) → BeginsToken gs → Breaks other before gs [] → 3 ≤ number other
at_token rules.NotUtf8 before gs t k = let code = token_next gs t in absurd (no_bad_here code.0 gs k.1 k.0 code.1 k.2)
at_token rules.MixedIndentation before gs t (z, first, token, inl k) = absurd (no_gap_here 9 gs t k.1 (inr (inl refl)))
at_token rules.MixedIndentation before gs t (z, first, token, inr k) = absurd (no_gap_here 32 gs t k.1 (inl refl))
at_token _ before gs t k = omega arith

-- where the token matches the blocks
pub at_fitting : (other : Rule) (before : List Piece) (gs : List Glyph) → BeginsToken gs → IsFitting before → Breaks other before gs [] → 4 ≤ number other
at_fitting rules.NotUtf8 before gs t fits k = absurd (three_no_one (at_token rules.NotUtf8 before gs t k))
  where
    three_no_one : 3 ≤ 1 → ⊥
    three_no_one h = omega arith
at_fitting rules.MixedIndentation before gs t fits k = absurd (three_no_two (at_token rules.MixedIndentation before gs t k))
  where
    three_no_two : 3 ≤ 2 → ⊥
    three_no_two h = omega arith
at_fitting rules.UnmatchedDedent before gs t fits k = absurd (k.2 (fits k.1.0))
at_fitting _ before gs t fits k = omega arith

no_stray : (before : List Piece) (gs : List Glyph) → BeginsToken gs → Breaks rules.StrayCharacter before gs [] → ⊥
no_stray before gs t (inl k) = k.1.2 t
no_stray before gs t (inr k) = glyph_not_empty (Char 35) k.0.0 (sym k.0.1)

-- where no string that does not end begins either
pub at_closed : (other : Rule) (before : List Piece) (gs : List Glyph) → BeginsToken gs → IsFitting before → (Breaks rules.UnterminatedString before gs [] → ⊥) → Breaks other before gs [] → 7 ≤ number other
at_closed rules.NotUtf8 before gs t fits none k = absurd (low (at_token rules.NotUtf8 before gs t k))
  where
    low : 3 ≤ 1 → ⊥
    low h = omega arith
at_closed rules.MixedIndentation before gs t fits none k = absurd (low (at_token rules.MixedIndentation before gs t k))
  where
    low : 3 ≤ 2 → ⊥
    low h = omega arith
at_closed rules.UnmatchedDedent before gs t fits none k = absurd (k.2 (fits k.1.0))
at_closed rules.UnterminatedString before gs t fits none k = absurd (none k)
at_closed rules.BadEscape before gs t fits none k = absurd (no_string_end k.0 k.3 k.5.0.0 k.7)
at_closed rules.StrayCharacter before gs t fits none k = absurd (no_stray before gs t k)
at_closed _ before gs t fits none k = omega arith

abbrev Unbroken : Rule → List Piece → List Glyph → Type 0
Unbroken rule before gs = Breaks rule before gs [] → ⊥

abbrev pub NoString : List Glyph → Type 0
NoString gs = (q : Quote) → Opens q gs → ⊥

pub closed_by : (before : List Piece) (gs : List Glyph) → NoString gs → Unbroken rules.UnterminatedString before gs
closed_by before gs none k = none k.1.0 k.1.1

-- a rule from the seventh on is one of these
pub from_eight : (other : Rule) (before : List Piece) (gs : List Glyph) → Unbroken rules.Float before gs → 7 ≤ number other → Breaks other before gs [] → 8 ≤ number other
from_eight rules.Float before gs none h k = absurd (none k)
from_eight _ before gs none h k = omega arith

pub from_nine : (other : Rule) (before : List Piece) (gs : List Glyph) → Unbroken rules.IntegerTooLarge before gs → 8 ≤ number other → Breaks other before gs [] → 9 ≤ number other
from_nine rules.IntegerTooLarge before gs none h k = absurd (none k)
from_nine _ before gs none h k = omega arith

pub from_ten : (other : Rule) (before : List Piece) (gs : List Glyph) → Unbroken rules.BadNumber before gs → 9 ≤ number other → Breaks other before gs [] → 10 ≤ number other
from_ten rules.BadNumber before gs none h k = absurd (none k)
from_ten _ before gs none h k = omega arith

pub from_eleven : (other : Rule) (before : List Piece) (gs : List Glyph) → Unbroken rules.BracketsTooDeep before gs → 10 ≤ number other → Breaks other before gs [] → 11 ≤ number other
from_eleven rules.BracketsTooDeep before gs none h k = absurd (none k)
from_eleven _ before gs none h k = omega arith

pub from_twelve : (other : Rule) (before : List Piece) (gs : List Glyph) → Unbroken rules.BlocksTooDeep before gs → 11 ≤ number other → Breaks other before gs [] → 12 ≤ number other
from_twelve rules.BlocksTooDeep before gs none h k = absurd (none k)
from_twelve _ before gs none h k = omega arith

-- ---- a token or a whole string

abbrev Reads : List Glyph → Type 0
Reads gs = (q : Quote) × (body : List Glyph) × (rest : List Glyph) × IsWhole q body rest gs

one_opened : (q : Quote) (gs : List Glyph) → q.count ≡ 1 → BeginsWith (opening q) gs → (us : List Glyph) × (gs ≡ glyphs_opened q.is_raw (Char q.mark ∷ us))
one_opened q gs e b = (b.0, b.1 ∙ ap (λ n. map Char (opening (record { is_raw = q.is_raw; mark = q.mark; count = n })) ++ b.0) e ∙ opened_one q.is_raw q.mark b.0)

three_opened : (q : Quote) (gs : List Glyph) → q.count ≡ 3 → BeginsWith (opening q) gs → (us : List Glyph) × (gs ≡ glyphs_opened q.is_raw (Char q.mark ∷ us))
three_opened q gs e b =
    (Char q.mark ∷ Char q.mark ∷ b.0, b.1 ∙ ap (λ n. map Char (opening (record { is_raw = q.is_raw; mark = q.mark; count = n })) ++ b.0) e ∙ opened_three q.is_raw q.mark b.0)

opened_by : (q : Quote) (gs : List Glyph) → (q.count ≡ 1) ⊎ (q.count ≡ 3) → BeginsWith (opening q) gs → (us : List Glyph) × (gs ≡ glyphs_opened q.is_raw (Char q.mark ∷ us))
opened_by q gs (inl e) b = one_opened q gs e b
opened_by q gs (inr e) b = three_opened q gs e b

-- three quotes open no string of one
three_not_one : (q r : Quote) (gs : List Glyph) → q.is_raw ≡ r.is_raw → q.mark ≡ r.mark → r.count ≡ 3 → BeginsWith (opening r) gs → BeginsWith (opening (three q.is_raw q.mark)) gs
three_not_one q r gs e f g b = (
  b.0,
  b.1 ∙ ap (λ n. map Char (opening (record { is_raw = r.is_raw; mark = r.mark; count = n })) ++ b.0) g
      ∙ ap (λ x. map Char (opening (three x r.mark)) ++ b.0) (sym e) ∙ ap (λ x. map Char (opening (three q.is_raw x)) ++ b.0) (sym f),
)

same_count : (q r : Quote) (gs : List Glyph) → q.is_raw ≡ r.is_raw → q.mark ≡ r.mark → Opens q gs → Opens r gs → (q.count ≡ 1) ⊎ (q.count ≡ 3) → (r.count ≡ 1) ⊎ (r.count ≡ 3) → q.count ≡ r.count
same_count q r gs e f h k (inl m) (inl n) = m ∙ sym n
same_count q r gs e f h k (inl m) (inr n) = absurd (h.2 m (three_not_one q r gs e f n k.1))
same_count q r gs e f h k (inr m) (inl n) = absurd (k.2 n (three_not_one r q gs (sym e) (sym f) m h.1))
same_count q r gs e f h k (inr m) (inr n) = m ∙ sym n

-- a string is opened in one way
pub one_quote : (q r : Quote) (gs : List Glyph) → Opens q gs → Opens r gs → q ≡ r
one_quote q r gs h k =
    let us = opened_by q gs h.0.1 h.1 in
    let vs = opened_by r gs k.0.1 k.1 in
    let same = same_glyphs q.is_raw r.is_raw q.mark r.mark us.0 vs.0 h.0.0 k.0.0 (sym us.1 ∙ vs.1) in
    let count = same_count q r gs same.0 same.1 h k h.0.1 k.0.1 in
    ap (λ x. record { is_raw = x; mark = q.mark; count = q.count }) same.0 ∙ ap (λ x. record { is_raw = r.is_raw; mark = x; count = q.count }) same.1
    ∙ ap (λ x. record { is_raw = r.is_raw; mark = r.mark; count = x }) count

whole_closed : (before : List Piece) (gs : List Glyph) → Reads gs → Unbroken rules.UnterminatedString before gs
whole_closed before gs w k =
    let same = one_quote w.0 k.1.0 gs w.3.0 k.1.1 in
    let P : Quote → Type 0 = λ q. IsWhole q w.1 w.2 gs in
    k.1.2 w.1 w.2 (subst P same w.3)

no_quote_code : (c d : ℕ) (gs : List Glyph) → Next c gs → Next d gs → IsQuoteCode c → ((d ≡ 46) ⊎ (IsInRange 48 57 d ⊎ IsInRange 65 90 d)) → ⊥
no_quote_code c d gs n m h k = let same = same_code c d gs n m in omega arith

whole_no_float : (before : List Piece) (gs : List Glyph) → Reads gs → Unbroken rules.Float before gs
whole_no_float before gs w k = let a = opens_code w.0 gs w.3.0 in let b = float_code before gs [] k in no_quote_code a.0 b.0 gs a.1 b.1 a.2 b.2

whole_no_number : (gs : List Glyph) → Reads gs → (c : ℕ) × Next c gs × IsInRange 48 57 c → ⊥
whole_no_number gs w b = let a = opens_code w.0 gs w.3.0 in no_quote_code a.0 b.0 gs a.1 b.1 a.2 (inr (inl b.2))

pub readable_token : (gs : List Glyph) → IsReadable gs → BeginsToken gs
readable_token gs (inl r) = begins_token r.0 r.1 r.2 gs r.4.0 r.3
readable_token gs (inr w) = opens_token w.0 gs w.3.0

pub readable_closed : (before : List Piece) (gs : List Glyph) → IsReadable gs → Unbroken rules.UnterminatedString before gs
readable_closed before gs (inl r) k = unterminated_string before gs [] (Tok r.0 r.1 ∷ []) (front (Tok r.0 r.1) r.2 [] refl r.3 r.4) k
readable_closed before gs (inr w) k = whole_closed before gs w k

pub readable_no_float : (before : List Piece) (gs : List Glyph) → IsReadable gs → Unbroken rules.Float before gs
readable_no_float before gs (inl r) k = float before gs [] (Tok r.0 r.1 ∷ []) (front (Tok r.0 r.1) r.2 [] refl r.3 r.4) k
readable_no_float before gs (inr w) k = whole_no_float before gs w k

pub readable_small : (before : List Piece) (gs : List Glyph) → IsReadable gs → Unbroken rules.IntegerTooLarge before gs
readable_small before gs (inl r) k = integer_too_large before gs [] (Tok r.0 r.1 ∷ []) (front (Tok r.0 r.1) r.2 [] refl r.3 r.4) k
readable_small before gs (inr w) k = whole_no_number gs w (number_code k.1.0 k.1.1 gs k.1.2)

pub readable_good : (before : List Piece) (gs : List Glyph) → IsReadable gs → Unbroken rules.BadNumber before gs
readable_good before gs (inl r) k = bad_number before gs [] (Tok r.0 r.1 ∷ []) (front (Tok r.0 r.1) r.2 [] refl r.3 r.4) k
readable_good before gs (inr w) k = whole_no_number gs w (number_code k.1.0 k.1.1 gs k.1.3)

-- at a token with no fault of its own
pub at_readable : (other : Rule) (before : List Piece) (gs : List Glyph) → IsReadable gs → IsFitting before → Breaks other before gs [] → 10 ≤ number other
at_readable other before gs r fits k =
    from_ten other before gs (readable_good before gs r)
    (from_nine other before gs (readable_small before gs r)
    (from_eight other before gs (readable_no_float before gs r) (at_closed other before gs (readable_token gs r) fits (readable_closed before gs r) k) k) k) k

-- ---- a line without a token has no open brackets, and an empty item

pub idle_level : (n : ℕ) (ps : List Piece) → is_logical ps ≡ false → fold level_behind n ps ≡ n
idle_level n [] h = refl
idle_level n (Blank c ∷ ps) h = idle_level n ps h
idle_level n (LineFeed ∷ ps) h = idle_level n ps h
idle_level n (Join end ∷ ps) h = idle_level n ps h
idle_level n (Comment cs ∷ ps) h = idle_level n ps h
idle_level n (Tok kind text ∷ ps) h = absurd (not_both true refl h)

pub idle_items : (xs : List ℕ) (ps : List Piece) → is_logical ps ≡ false → fold items_behind xs ps ≡ xs
idle_items xs [] h = refl
idle_items xs (Blank c ∷ ps) h = idle_items xs ps h
idle_items xs (LineFeed ∷ ps) h = idle_items xs ps h
idle_items xs (Join end ∷ ps) h = idle_items xs ps h
idle_items xs (Comment cs ∷ ps) h = idle_items xs ps h
idle_items xs (Tok kind text ∷ ps) h = absurd (not_both true refl h)

pub no_brackets_first : (before : List Piece) (gs : List Glyph) → is_logical (line before) ≡ false → Unbroken rules.BracketsTooDeep before gs
no_brackets_first before gs first k = omega (arith, idle_level 0 (line before) first, k.1.3)

count_first : (before : List Piece) (gs : List Glyph) (n : ℕ) → is_logical (line before) ≡ false → IsCounted before gs n → n ≡ 0
count_first before gs n first (inl k) = k.5 ∙ ap (λ t. slice_index (closed t) 0) (idle_items (0 ∷ []) (line before) first)
count_first before gs n first (inr k) = k.1 ∙ ap (λ t. slice_index t 0) (idle_items (0 ∷ []) (line before) first)

pub no_blocks_within : (before : List Piece) (gs : List Glyph) → Breaks rules.ItemTooLong before gs [] → Unbroken rules.BlocksTooDeep before gs
no_blocks_within before gs k h = omega (arith, count_first before gs k.1.0 h.1.0 k.1.1, k.1.2)

-- ---- elsewhere

-- at a blank
pub at_blank : (other : Rule) (c : ℕ) (before : List Piece) (gs : List Glyph) → Next c gs → Breaks other before gs [] → 2 ≤ number other
at_blank rules.NotUtf8 c before gs n k = absurd (no_bad_here c gs k.1 k.0 n k.2)
at_blank _ c before gs n k = omega arith

-- at a stray character
pub at_stray : (other : Rule) (before : List Piece) (gs : List Glyph) → IsStray gs → Breaks other before gs [] → 6 ≤ number other
at_stray rules.NotUtf8 before gs s k = absurd (no_bad_here s.0 gs k.1 k.0 s.1 k.2)
at_stray rules.MixedIndentation before gs s (z, first, token, inl k) = absurd (s.4 (same_code s.0 9 gs s.1 k.1))
at_stray rules.MixedIndentation before gs s (z, first, token, inr k) = absurd (s.3 (same_code s.0 32 gs s.1 k.1))
at_stray rules.UnmatchedDedent before gs s k = absurd (s.2 k.1.1)
at_stray rules.UnterminatedString before gs s k = absurd (s.2 (opens_token k.1.0 gs k.1.1))
at_stray rules.BadEscape before gs s k = absurd (no_string_end k.0 k.3 k.5.0.0 k.7)
at_stray _ before gs s k = omega arith
