-- With which characters the rules are broken.
use Rattle.std.proofs.Common.{◌≡◌, ℕ, Bool, true, false, ◌==◌, ◌||◌, List, [], ◌∷◌, ◌++◌, map, refl, ap, sym, ◌∙◌, inl, inr, arith, pos, append_assoc, if◌then◌else◌}
use Rattle.std.specs.Prelude.{◌⊎◌}
use Rattle.std.specs.Int.{IsInRange}
use Rattle.std.proofs.lemmas.Bool.{or_left, or_right, eq-eqb}
use Rattle.unicode_ident.specs.Ident.{is_xid_start}
use Rattle.gd_syntax.specs.declared.token.TokenKind.TheVariants as kinds
use Rattle.gd_syntax.specs.declared.token.Mark.{Mark}
use Rattle.gd_rules.specs.declared.rule.Rule.{Rule}
use Rattle.gd_rules.specs.declared.rule.Rule.TheVariants as rules
use Rattle.gd_lexis.specs.declared.glyph.Glyph.{Glyph}
use Rattle.gd_lexis.specs.declared.glyph.Glyph.TheVariants.{Char, Bad}
use Rattle.gd_lexis.specs.Words.{mark_text, IsFloatName}
use Rattle.gd_lexis.specs.Strings.{Quote, IsQuote, opening, closing}
use Rattle.gd_lexis.specs.Pieces.{Piece, BeginsWith}
use Rattle.gd_lexis.specs.Faults.{Opens, IsNumber, BeginsToken, IsCounted, Breaks}
use Rattle.gd_lexis.proofs.Tokens.{token_begins, mark_from, mark_front}
use Rattle.gd_lexis.proofs.Quotes.{IsClosing, closings}
use Rattle.gd_lexis.proofs.Heads.{token_code, lower_start, word_start}
use Rattle.gd_lexis.proofs.Bounds.{IsOpeningCode, opening_code, opening_front}

-- this character comes next
abbrev pub Next : ℕ → List Glyph → Type 0
Next c gs = (vs : List Glyph) × (gs ≡ Char c ∷ vs)

-- a text with which the glyphs begin begins with this character
text_next : (text : List ℕ) (c : ℕ) (more : List ℕ) (gs : List Glyph) → text ≡ c ∷ more → BeginsWith text gs → Next c gs
text_next text c more gs e b = (map Char more ++ b.0, b.1 ∙ ap (λ t. map Char t ++ b.0) e)

-- ---- strings

abbrev pub IsQuoteCode : ℕ → Type 0
IsQuoteCode c = (c ≡ 34) ⊎ ((c ≡ 39) ⊎ (c ≡ 114))

closing_begins : (m : ℕ) (k : List ℕ) → IsClosing m k → (more : List ℕ) × (k ≡ m ∷ more)
closing_begins m k (inl e) = ([], e)
closing_begins m k (inr e) = (m ∷ m ∷ [], e)

mark_code : (m : ℕ) → (m ≡ 34) ⊎ (m ≡ 39) → IsQuoteCode m
mark_code m (inl e) = inl e
mark_code m (inr e) = inr (inl e)

pub opening_begins : (q : Quote) → IsQuote q → (c : ℕ) × (more : List ℕ) × (opening q ≡ c ∷ more) × IsQuoteCode c
opening_begins q h = by_kind q.is_raw refl
  where
    by_kind : (r : Bool) → q.is_raw ≡ r → (c : ℕ) × (more : List ℕ) × (opening q ≡ c ∷ more) × IsQuoteCode c
    by_kind true e = (114, closing q, ap (λ r. if r then 114 ∷ closing q else closing q) e, inr (inr refl))
    by_kind false e =
        let k = closing_begins q.mark (closing q) (closings q h) in
        (q.mark, k.0, ap (λ r. if r then 114 ∷ closing q else closing q) e ∙ k.1, mark_code q.mark h.0)

pub opens_code : (q : Quote) (gs : List Glyph) → Opens q gs → (c : ℕ) × Next c gs × IsQuoteCode c
opens_code q gs h = let b = opening_begins q h.0 in (b.0, text_next (opening q) b.0 b.1 gs b.2 h.1, b.3)

-- ---- numbers and floats

pub number_code : (text : List ℕ) (v : ℕ) (gs : List Glyph) → IsNumber text v gs → (c : ℕ) × Next c gs × IsInRange 48 57 c
number_code text v gs h =
    let b = token_begins (kinds.Number (pos v)) text (v, h.1, refl) in
    (b.0, text_next text b.0 b.1 gs b.2 h.0, b.3)

-- a dot, a digit or a capital
abbrev pub IsFloatCode : ℕ → Type 0
IsFloatCode c = (c ≡ 46) ⊎ (IsInRange 48 57 c ⊎ IsInRange 65 90 c)

pub float_begins : (name : List ℕ) → IsFloatName name → (c : ℕ) × (more : List ℕ) × (name ≡ c ∷ more) × IsInRange 65 90 c
float_begins name (inl e) = (80, 73 ∷ [], e, omega arith)
float_begins name (inr (inl e)) = (84, 65 ∷ 85 ∷ [], e, omega arith)
float_begins name (inr (inr (inl e))) = (73, 78 ∷ 70 ∷ [], e, omega arith)
float_begins name (inr (inr (inr e))) = (78, 65 ∷ 78 ∷ [], e, omega arith)

pub float_code : (before : List Piece) (gs ahead : List Glyph) → Breaks rules.Float before gs ahead → (c : ℕ) × Next c gs × IsFloatCode c
float_code before gs ahead (e, inl k) = let n = number_code k.0 k.1 gs k.3 in (n.0, n.1, inr (inl n.2))
float_code before gs ahead (e, inr (inl k)) = (46, (Char k.0 ∷ k.2.0, k.2.1), inl refl)
float_code before gs ahead (e, inr (inr k)) = let b = float_begins k.0 k.1 in (b.0, text_next k.0 b.0 b.1 gs b.2 k.2, inr (inr b.3))

-- ---- brackets

pub bracket_code : (before : List Piece) (gs ahead : List Glyph) → Breaks rules.BracketsTooDeep before gs ahead → (c : ℕ) × Next c gs × IsOpeningCode c
bracket_code before gs ahead k =
    let m = k.1.0 in
    let code = opening_code (mark_text m) (opening_front m ∙ k.1.2) in
    (code.0, text_next (mark_text m) code.0 code.1 gs code.2 k.1.1, code.3)

-- ---- tokens

pub mark_next : (m : Mark) (gs : List Glyph) → BeginsWith (mark_text m) gs → BeginsToken gs
mark_next m gs h =
    let b = mark_from (mark_text m) (mark_front m) in
    (b.0, inr (inr (m, b.1, b.2)), text_next (mark_text m) b.0 b.1 gs b.2 h)

pub counted_token : (before : List Piece) (gs : List Glyph) (n : ℕ) → IsCounted before gs n → BeginsToken gs
counted_token before gs n (inl k) = mark_next k.0 gs k.1
counted_token before gs n (inr k) = k.0.1

pub quote_start : (c : ℕ) → IsQuoteCode c → (((is_xid_start c || (c == 95)) || (c == 34)) || (c == 39)) ≡ true
quote_start c (inl h) = or_left ((is_xid_start c || (c == 95)) || (c == 34)) (c == 39) (or_right (is_xid_start c || (c == 95)) (c == 34) (eq-eqb c 34 h))
quote_start c (inr (inl h)) = or_right ((is_xid_start c || (c == 95)) || (c == 34)) (c == 39) (eq-eqb c 39 h)
quote_start c (inr (inr h)) = word_start c (lower_start c (omega arith))

pub opens_token : (q : Quote) (gs : List Glyph) → Opens q gs → BeginsToken gs
opens_token q gs h = let c = opens_code q gs h in (c.0, inl (quote_start c.0 c.2), c.1)

-- ---- each rule

abbrev pub Somewhere : List Glyph → Type 0
Somewhere gs = (g : Glyph) × (vs : List Glyph) × (gs ≡ g ∷ vs)

behind : (ahead more gs : List Glyph) (g : Glyph) → gs ≡ ahead ++ g ∷ more → Somewhere gs
behind [] more gs g e = (g, more, e)
behind (x ∷ ahead) more gs g e = (x, ahead ++ g ∷ more, e)

at_code : (c : ℕ) (gs : List Glyph) → Next c gs → Somewhere gs
at_code c gs h = (Char c, h.0, h.1)

at_token : (gs : List Glyph) → BeginsToken gs → Somewhere gs
at_token gs h = let c = token_code gs h in at_code c.0 gs (c.1, c.2)

-- a rule is broken where something is left
pub somewhere : (rule : Rule) (before : List Piece) (gs ahead : List Glyph) → Breaks rule before gs ahead → Somewhere gs
somewhere rules.NotUtf8 before gs ahead k = behind ahead k.1 gs (Bad k.0) k.2
somewhere rules.MixedIndentation before gs ahead (z, first, token, inl k) = at_code 9 gs k.1
somewhere rules.MixedIndentation before gs ahead (z, first, token, inr k) = at_code 32 gs k.1
somewhere rules.UnmatchedDedent before gs ahead k = at_token gs k.1.1
somewhere rules.UnterminatedString before gs ahead k = at_token gs (opens_token k.1.0 gs k.1.1)
somewhere rules.BadEscape before gs ahead k = at_token gs (opens_token k.0 gs k.5.0)
somewhere rules.StrayCharacter before gs ahead (inl k) = at_code k.1.0 gs k.1.1
somewhere rules.StrayCharacter before gs ahead (inr k) = behind ahead k.1.0 gs (Char 13) k.1.1
somewhere rules.Float before gs ahead k = let c = float_code before gs ahead k in at_code c.0 gs c.1
somewhere rules.IntegerTooLarge before gs ahead k = let c = number_code k.1.0 k.1.1 gs k.1.2 in at_code c.0 gs c.1
somewhere rules.BadNumber before gs ahead k = let c = number_code k.1.0 k.1.1 gs k.1.3 in at_code c.0 gs c.1
somewhere rules.BracketsTooDeep before gs ahead k = let c = bracket_code before gs ahead k in at_code c.0 gs c.1
somewhere rules.BlocksTooDeep before gs ahead k = at_token gs k.1.1
somewhere rules.ItemTooLong before gs ahead k = at_token gs (counted_token before gs k.1.0 k.1.1)
somewhere _ before gs ahead k = absurd k

-- a rule is broken behind a front of what is left
pub front_of_left : (rule : Rule) (before : List Piece) (gs ahead : List Glyph) → Breaks rule before gs ahead → (us : List Glyph) × (gs ≡ ahead ++ us)
front_of_left rules.NotUtf8 before gs ahead k = (Bad k.0 ∷ k.1, k.2)
front_of_left rules.MixedIndentation before gs ahead k = at_start gs ahead k.0
  where
    at_start : (gs ahead : List Glyph) → ahead ≡ [] → (us : List Glyph) × (gs ≡ ahead ++ us)
    at_start gs ahead e = (gs, ap (λ t. t ++ gs) (sym e))
front_of_left rules.UnmatchedDedent before gs ahead k = (gs, ap (λ t. t ++ gs) (sym k.0))
front_of_left rules.UnterminatedString before gs ahead k = (gs, ap (λ t. t ++ gs) (sym k.0))
front_of_left rules.BadEscape before gs ahead k = in_string k.0 k.1 k.2 k.3 k.4 k.5.1 k.7 k.8
  where
    in_string : (q : Quote) (body rest front back : List Glyph) → gs ≡ map Char (opening q) ++ (body ++ (map Char (closing q) ++ rest)) → ahead ≡ map Char (opening q) ++ front
        → body ++ (map Char (closing q) ++ rest) ≡ front ++ Char 92 ∷ back → (us : List Glyph) × (gs ≡ ahead ++ us)
    in_string q body rest front back e f g =
        (Char 92 ∷ back, e ∙ ap (λ t. map Char (opening q) ++ t) g ∙ sym (append_assoc (map Char (opening q)) front (Char 92 ∷ back)) ∙ ap (λ t. t ++ Char 92 ∷ back) (sym f))
front_of_left rules.StrayCharacter before gs ahead (inl k) = (gs, ap (λ t. t ++ gs) (sym k.0))
front_of_left rules.StrayCharacter before gs ahead (inr k) = (Char 13 ∷ k.1.0, k.1.1)
front_of_left rules.Float before gs ahead k = (gs, ap (λ t. t ++ gs) (sym k.0))
front_of_left rules.IntegerTooLarge before gs ahead k = (gs, ap (λ t. t ++ gs) (sym k.0))
front_of_left rules.BadNumber before gs ahead k = (gs, ap (λ t. t ++ gs) (sym k.0))
front_of_left rules.BracketsTooDeep before gs ahead k = (gs, ap (λ t. t ++ gs) (sym k.0))
front_of_left rules.BlocksTooDeep before gs ahead k = (gs, ap (λ t. t ++ gs) (sym k.0))
front_of_left rules.ItemTooLong before gs ahead k = (gs, ap (λ t. t ++ gs) (sym k.0))
front_of_left _ before gs ahead k = absurd k
