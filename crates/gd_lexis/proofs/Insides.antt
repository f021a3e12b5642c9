-- The first fault inside a comment, and inside a string.
use Rattle.std.proofs.Common.{◌≡◌, ◌≢◌, ℕ, ◌<◌, ◌≤◌, false, List, [], ◌∷◌, ◌++◌, length, map, refl, ap, sym, ◌∙◌, subst, inl, inr, arith, append_assoc, length-append}
use Rattle.std.specs.Prelude.{◌⊎◌, All}
use Rattle.std.proofs.lemmas.Bool.{cases_order}
use Rattle.std.proofs.lemmas.List.{append_cancel_left, length-map}
use Rattle.std.proofs.lemmas.List.Elements.{All-head, All-tail}
use Rattle.gd_rules.specs.declared.rule.Rule.{Rule}
use Rattle.gd_rules.specs.declared.rule.Rule.TheVariants as rules
use Rattle.gd_lexis.specs.declared.glyph.Glyph.{Glyph}
use Rattle.gd_lexis.specs.declared.glyph.Glyph.TheVariants.{Char, Bad}
use Rattle.gd_lexis.specs.Strings.{Quote, opening, IsEscape}
use Rattle.gd_lexis.specs.Pieces.{Piece, BeginsWith}
use Rattle.gd_lexis.specs.Faults.{BeginsToken, IsInComment, IsWhole, Parts, no_more as parts_end, itself as part_itself, whole_escape as part_escape, no_escape, Breaks, number}
use Rattle.gd_lexis.specs.Faultless.{IsCommentFault, IsStringFault, Clean, no_more, itself, whole_escape, in_raw}
use Rattle.gd_lexis.proofs.Lists.{same_parts}
use Rattle.gd_lexis.proofs.Escapes.{meant}
use Rattle.gd_lexis.proofs.Bodies.{not_both}
use Rattle.gd_lexis.proofs.Cuts.{IsGap, char_parts, comment_gap}
use Rattle.gd_lexis.proofs.Numerals.{char_bad}
use Rattle.gd_lexis.proofs.Bytes.{no_bad}
use Rattle.gd_lexis.proofs.Slashes.{longer, escapes_same}
use Rattle.gd_lexis.proofs.Bounds.{IsOpeningCode}
use Rattle.gd_lexis.proofs.Sites.{Next, opens_token, number_code, float_code, bracket_code, counted_token}
use Rattle.gd_lexis.proofs.Later.{IsNoLater}
use Rattle.gd_lexis.proofs.Least.{same_code, token_next, one_quote}

glyph_head : (g h : Glyph) (us vs : List Glyph) → g ∷ us ≡ h ∷ vs → g ≡ h
glyph_head g h us vs e = cc

glyph_tail : (g h : Glyph) (us vs : List Glyph) → g ∷ us ≡ h ∷ vs → us ≡ vs
glyph_tail g h us vs e = cc

char_same : (c d : ℕ) → Char c ≡ Char d → c ≡ d
char_same c d e = cc

bad_char : (b c : ℕ) → Bad b ≡ Char c → ⊥
bad_char b c e = cc

-- two fronts of one length have the same glyph behind them
same_behind : (ls ms us vs : List Glyph) (g h : Glyph) → ls ++ g ∷ us ≡ ms ++ h ∷ vs → length ls ≡ length ms → g ≡ h
same_behind ls ms us vs g h e same = glyph_head g h us vs (same_parts ls ms (g ∷ us) (h ∷ vs) same e).1

-- ---- in a comment

-- the only rules that are broken at a comment
data InComment (gs front : List Glyph) : Rule → Type 0 where
  bad : (b : ℕ) (more : List Glyph) → IsInComment front → gs ≡ front ++ Bad b ∷ more → InComment gs front rules.NotUtf8
  lone : (more : List Glyph) → IsInComment front → gs ≡ front ++ Char 13 ∷ more → InComment gs front rules.StrayCharacter

no_token_here : (gs : List Glyph) → Next 35 gs → BeginsToken gs → ⊥
no_token_here gs n t =
    let code = token_next gs t in
    let P : ℕ → Type 0 = IsGap in
    code.2 (subst P (same_code 35 code.0 gs n code.1) comment_gap)

no_digit_here : (gs : List Glyph) → Next 35 gs → (c : ℕ) × Next c gs × ((c ≡ 46) ⊎ (((48 ≤ c) × (c ≤ 57)) ⊎ ((65 ≤ c) × (c ≤ 90)))) → ⊥
no_digit_here gs n b = let same = same_code 35 b.0 gs n b.1 in let k = b.2 in omega arith

comment_breaks : (other : Rule) (before : List Piece) (gs at : List Glyph) → Next 35 gs → Breaks other before gs at → InComment gs at other
comment_breaks rules.NotUtf8 before gs at n (b, more, e, inl k) = absurd (char_bad 35 b n.0 more (sym n.1 ∙ e ∙ ap (λ t. t ++ Bad b ∷ more) k))
comment_breaks rules.NotUtf8 before gs at n (b, more, e, inr (inl k)) = bad b more k e
comment_breaks rules.NotUtf8 before gs at n (b, more, e, inr (inr k)) = absurd (no_token_here gs n (opens_token k.0 gs k.4.0))
comment_breaks rules.MixedIndentation before gs at n (z, first, token, inl k) = absurd (omega (arith, same_code 35 9 gs n k.1))
comment_breaks rules.MixedIndentation before gs at n (z, first, token, inr k) = absurd (omega (arith, same_code 35 32 gs n k.1))
comment_breaks rules.UnmatchedDedent before gs at n k = absurd (no_token_here gs n k.1.1)
comment_breaks rules.UnterminatedString before gs at n k = absurd (no_token_here gs n (opens_token k.1.0 gs k.1.1))
comment_breaks rules.BadEscape before gs at n k = absurd (no_token_here gs n (opens_token k.0 gs k.5.0))
comment_breaks rules.StrayCharacter before gs at n (inl k) = absurd (k.1.6 (same_code k.1.0 35 gs k.1.1 n))
comment_breaks rules.StrayCharacter before gs at n (inr k) = lone k.1.0 k.0 k.1.1
comment_breaks rules.Float before gs at n k = absurd (no_digit_here gs n (float_code before gs at k))
comment_breaks rules.IntegerTooLarge before gs at n k = let c = number_code k.1.0 k.1.1 gs k.1.2 in absurd (no_digit_here gs n (c.0, c.1, inr (inl c.2)))
comment_breaks rules.BadNumber before gs at n k = let c = number_code k.1.0 k.1.1 gs k.1.3 in absurd (no_digit_here gs n (c.0, c.1, inr (inl c.2)))
comment_breaks rules.BracketsTooDeep before gs at n k = absurd (no_bracket (bracket_code before gs at k))
  where
    no_bracket : (c : ℕ) × Next c gs × IsOpeningCode c → ⊥
    no_bracket b = let same = same_code 35 b.0 gs n b.1 in let k = b.2 in omega arith
comment_breaks rules.BlocksTooDeep before gs at n k = absurd (no_token_here gs n k.1.1)
comment_breaks rules.ItemTooLong before gs at n k = absurd (no_token_here gs n (counted_token before gs k.1.0 k.1.1))
comment_breaks _ before gs at n k = absurd k

-- no carriage return is among these characters
no_return : (cs : List ℕ) (us start more : List Glyph) → All (λ c. (c ≢ 10) × (c ≢ 13)) cs → map Char cs ++ us ≡ start ++ Char 13 ∷ more → length start < length cs → ⊥
no_return [] us start more h e less = omega arith
no_return (c ∷ cs) us [] more h e less = (All-head (λ c. (c ≢ 10) × (c ≢ 13)) c cs h).1 (char_parts c 13 (map Char cs ++ us) more e).0
no_return (c ∷ cs) us (g ∷ start) more h e less =
    no_return cs us start more (All-tail (λ c. (c ≢ 10) × (c ≢ 13)) c cs h) (glyph_tail (Char c) g (map Char cs ++ us) (start ++ Char 13 ∷ more) e) (omega arith)

fault_order : (rule : Rule) (ls ms us vs gs : List Glyph) (g : Glyph) (b : ℕ) → IsCommentFault rule g → gs ≡ ls ++ g ∷ us → gs ≡ ms ++ Bad b ∷ vs → length ls ≡ length ms → number rule ≤ 1
fault_order rules.NotUtf8 ls ms us vs gs g b h e f same = omega arith
fault_order rules.StrayCharacter ls ms us vs gs g b h e f same = absurd (bad_char b 13 (same_behind ms ls vs us (Bad b) g (sym f ∙ e) (sym same) ∙ h))
fault_order _ ls ms us vs gs g b h e f same = absurd h

least_six : (rule : Rule) (g : Glyph) → IsCommentFault rule g → number rule ≤ 6
least_six rules.NotUtf8 g h = omega arith
least_six rules.StrayCharacter g h = omega arith
least_six _ g h = absurd h

by_length : (rule other : Rule) (ahead at : List Glyph) → (length at < length ahead → ⊥) → (length ahead ≡ length at → number rule ≤ number other) → IsNoLater ahead rule at other
by_length rule other ahead at none least = cases (cases_order (length ahead) (length at))
  where
    cases : (length ahead ≡ length at) ⊎ ((length ahead < length at) ⊎ (length at < length ahead)) → IsNoLater ahead rule at other
    cases (inl h) = inr (h, least h)
    cases (inr (inl h)) = inl h
    cases (inr (inr h)) = absurd (none h)

-- what stands behind a front of a comment, without its `#`
behind_hash : (cs : List ℕ) (inner us vs gs at : List Glyph) (g h : Glyph) → gs ≡ map Char (35 ∷ cs) ++ g ∷ us → gs ≡ at ++ h ∷ vs → at ≡ Char 35 ∷ inner → map Char cs ++ g ∷ us ≡ inner ++ h ∷ vs
behind_hash cs inner us vs gs at g h e f k = glyph_tail (Char 35) (Char 35) (map Char cs ++ g ∷ us) (inner ++ h ∷ vs) (sym e ∙ f ∙ ap (λ t. t ++ h ∷ vs) k)

comment_order : (rule other : Rule) (cs : List ℕ) (gs us at : List Glyph) (g : Glyph) → All (λ c. (c ≢ 10) × (c ≢ 13)) cs → gs ≡ map Char (35 ∷ cs) ++ g ∷ us → IsCommentFault rule g
    → InComment gs at other → IsNoLater (map Char (35 ∷ cs)) rule at other
comment_order rule other cs gs us at g h e fault (bad b more k f) =
    let inner = behind_hash cs k.0 us more gs at g (Bad b) e f k.1 in
    let size : length at ≡ length (Char 35 ∷ k.0) = ap length k.1 in
    by_length rule rules.NotUtf8 (map Char (35 ∷ cs)) at
    (λ less. no_bad cs (g ∷ us) k.0 more b inner (omega (arith, size, length-map cs Char)))
    (λ same. fault_order rule (map Char (35 ∷ cs)) at us more gs g b fault e f same)
comment_order rule other cs gs us at g h e fault (lone more k f) =
    let inner = behind_hash cs k.0 us more gs at g (Char 13) e f k.1 in
    let size : length at ≡ length (Char 35 ∷ k.0) = ap length k.1 in
    by_length rule rules.StrayCharacter (map Char (35 ∷ cs)) at
    (λ less. no_return cs (g ∷ us) k.0 more h inner (omega (arith, size, length-map cs Char)))
    (λ same. least_six rule g fault)

-- the first fault in a comment comes before every other one there
pub comment_first : (rule other : Rule) (before : List Piece) (cs : List ℕ) (gs us at : List Glyph) (g : Glyph) → All (λ c. (c ≢ 10) × (c ≢ 13)) cs → gs ≡ map Char (35 ∷ cs) ++ g ∷ us
    → IsCommentFault rule g → Breaks other before gs at → IsNoLater (map Char (35 ∷ cs)) rule at other
comment_first rule other before cs gs us at g h e fault k =
    comment_order rule other cs gs us at g h e fault (comment_breaks other before gs at (map Char cs ++ g ∷ us, e) k)

-- ---- in a string

-- a front without faults is characters
clean_chars : (q : Quote) {start : List Glyph} → Clean q start → (cs : List ℕ) × (start ≡ map Char cs)
clean_chars q no_more = ([], refl)
clean_chars q (itself c gs n h) = let more = clean_chars q h in (c ∷ more.0, ap (λ t. Char c ∷ t) more.1)
clean_chars q (whole_escape e s gs r k h) = let more = clean_chars q h in (e ++ more.0, ap (λ t. map Char e ++ t) more.1 ∙ joined e more.0)
  where
    joined : (cs ds : List ℕ) → map Char cs ++ map Char ds ≡ map Char (cs ++ ds)
    joined [] ds = refl
    joined (c ∷ cs) ds = ap (λ t. Char c ∷ t) (joined cs ds)
clean_chars q (in_raw c gs r h) = let more = clean_chars q h in (c ∷ more.0, ap (λ t. Char c ∷ t) more.1)

no_bad_clean : (q : Quote) (ls us ms vs : List Glyph) (b : ℕ) → Clean q ls → ls ++ us ≡ ms ++ Bad b ∷ vs → length ms < length ls → ⊥
no_bad_clean q ls us ms vs b h e less =
    let cs = clean_chars q h in
    let size : length ls ≡ length (map Char cs.0) = ap length cs.1 in
    no_bad cs.0 us ms vs b (ap (λ t. t ++ us) (sym cs.1) ∙ e) (omega (arith, size, length-map cs.0 Char))

slash_char : (c : ℕ) (us vs : List Glyph) → c ≢ 92 → Char c ∷ us ≡ Char 92 ∷ vs → ⊥
slash_char c us vs n e = n (char_parts c 92 us vs e).0

-- an escape's glyphs begin with a backslash
escape_glyphs : (e s : List ℕ) (us : List Glyph) → IsEscape e s → (vs : List Glyph) × (map Char e ++ us ≡ Char 92 ∷ vs)
escape_glyphs e s us h = let m = meant e s h in (map Char (m.0 ∷ m.1) ++ us, ap (λ t. map Char t ++ us) m.2)

-- the parts of a front without faults are those of every other front: at no backslash of its begins no escape
clean_parts : (q : Quote) (us back : List Glyph) {ls ms : List Glyph} → Clean q ls → Parts (Char 92 ∷ back) ms → q.is_raw ≡ false → ls ++ us ≡ ms ++ Char 92 ∷ back
    → ((e s : List ℕ) → IsEscape e s → BeginsWith e (Char 92 ∷ back) → ⊥) → length ms < length ls → ⊥
clean_parts q us back no_more p r e none less = omega arith
clean_parts q us back (itself c gs n h) parts_end r e none less = slash_char c (gs ++ us) back n e
clean_parts q us back (itself c gs n h) (part_itself g ms m p) r e none less = clean_parts q us back h p r (glyph_tail (Char c) g (gs ++ us) (ms ++ Char 92 ∷ back) e) none (omega arith)
clean_parts q us back (itself c gs n h) (part_escape x s ms k p) r e none less =
    let x_glyphs = escape_glyphs x s (ms ++ Char 92 ∷ back) k in
    slash_char c (gs ++ us) x_glyphs.0 n (e ∙ append_assoc (map Char x) ms (Char 92 ∷ back) ∙ x_glyphs.1)
clean_parts q us back (itself c gs n h) (no_escape g ms k p) r e none less = slash_char c (gs ++ us) (g ∷ (ms ++ Char 92 ∷ back)) n e
clean_parts q us back (whole_escape x s gs f k h) parts_end r e none less = none x s k (gs ++ us, sym e ∙ append_assoc (map Char x) gs us)
clean_parts q us back (whole_escape x s gs f k h) (part_itself g ms m p) r e none less =
    let x_glyphs = escape_glyphs x s (gs ++ us) k in
    m (glyph_head g (Char 92) (ms ++ Char 92 ∷ back) x_glyphs.0 (sym e ∙ append_assoc (map Char x) gs us ∙ x_glyphs.1))
clean_parts q us back (whole_escape x s gs f k h) (part_escape y t ms l p) r e none less =
    let both : map Char x ++ (gs ++ us) ≡ map Char y ++ (ms ++ Char 92 ∷ back) = sym (append_assoc (map Char x) gs us) ∙ e ∙ append_assoc (map Char y) ms (Char 92 ∷ back) in
    let same : x ≡ y = escapes_same x y s t k l (longer x y (gs ++ us) (ms ++ Char 92 ∷ back) both) in
    let tails : gs ++ us ≡ ms ++ Char 92 ∷ back = append_cancel_left (map Char x) (gs ++ us) (ms ++ Char 92 ∷ back) (both ∙ ap (λ t. map Char t ++ (ms ++ Char 92 ∷ back)) (sym same)) in
    let size : length (map Char x) ≡ length (map Char y) = ap (λ t. length (map Char t)) same in
    clean_parts q us back h p r tails none (omega (arith, size, length-append (map Char x) gs, length-append (map Char y) ms))
clean_parts q us back (whole_escape x s gs f k h) (no_escape g ms l p) r e none less = l x s k (gs ++ us, sym e ∙ append_assoc (map Char x) gs us)
clean_parts q us back (in_raw c gs f h) p r e none less = not_both q.is_raw f r

string_one : (rule : Rule) (ls ms us vs : List Glyph) (g : Glyph) (b : ℕ) → IsStringFault rule g → ls ++ g ∷ us ≡ ms ++ Bad b ∷ vs → length ls ≡ length ms → number rule ≤ 1
string_one rules.NotUtf8 ls ms us vs g b h e same = omega arith
string_one rules.BadEscape ls ms us vs g b h e same = absurd (bad_char b 92 (sym (same_behind ls ms us vs g (Bad b) e same) ∙ h))
string_one _ ls ms us vs g b h e same = absurd h

string_five : (rule : Rule) (g : Glyph) → IsStringFault rule g → number rule ≤ 5
string_five rules.NotUtf8 g h = omega arith
string_five rules.BadEscape g h = omega arith
string_five _ g h = absurd h

-- the only rules that are broken inside a whole string, behind what opens it
data InString (q : Quote) (gs at : List Glyph) : Rule → Type 0 where
  bad_byte : (start more : List Glyph) (b : ℕ) → at ≡ map Char (opening q) ++ start → gs ≡ at ++ Bad b ∷ more → InString q gs at rules.NotUtf8
  bad_slash : (start back : List Glyph) → q.is_raw ≡ false → at ≡ map Char (opening q) ++ start → gs ≡ at ++ Char 92 ∷ back → Parts (Char 92 ∷ back) start
      → ((e s : List ℕ) → IsEscape e s → BeginsWith e (Char 92 ∷ back) → ⊥) → InString q gs at rules.BadEscape

no_comment_here : (gs at more : List Glyph) (g : Glyph) → BeginsToken gs → IsInComment at → gs ≡ at ++ g ∷ more → ⊥
no_comment_here gs at more g t k e = no_token_here gs (k.0 ++ g ∷ more, e ∙ ap (λ t. t ++ g ∷ more) k.1) t

slash_break : (q r : Quote) (gs at start back : List Glyph) → q ≡ r → q.is_raw ≡ false → at ≡ map Char (opening q) ++ start → gs ≡ at ++ Char 92 ∷ back → Parts (Char 92 ∷ back) start
    → ((e s : List ℕ) → IsEscape e s → BeginsWith e (Char 92 ∷ back) → ⊥) → InString r gs at rules.BadEscape
slash_break q r gs at start back same raw e f p none = bad_slash start back (ap (λ x. x.is_raw) (sym same) ∙ raw) (e ∙ ap (λ x. map Char (opening x) ++ start) same) f p none

string_breaks : (q : Quote) (body rest : List Glyph) (other : Rule) (before : List Piece) (gs at : List Glyph) → IsWhole q body rest gs → ((o : Rule) → Breaks o before gs [] → ⊥)
    → Breaks other before gs at → InString q gs at other
string_breaks q body rest rules.NotUtf8 before gs at w none (b, more, e, inl k) = let P : List Glyph → Type 0 = λ t. Breaks rules.NotUtf8 before gs t in absurd (none rules.NotUtf8 (subst P k (b, more, e, inl k)))
string_breaks q body rest rules.NotUtf8 before gs at w none (b, more, e, inr (inl k)) = absurd (no_comment_here gs at more (Bad b) (opens_token q gs w.0) k e)
string_breaks q body rest rules.NotUtf8 before gs at w none (b, more, e, inr (inr k)) =
    bad_byte k.3 more b (k.5 ∙ ap (λ x. map Char (opening x) ++ k.3) (one_quote k.0 q gs k.4.0 w.0)) e
string_breaks q body rest rules.MixedIndentation before gs at w none k = let P : List Glyph → Type 0 = λ t. Breaks rules.MixedIndentation before gs t in absurd (none rules.MixedIndentation (subst P k.0 k))
string_breaks q body rest rules.UnmatchedDedent before gs at w none k = let P : List Glyph → Type 0 = λ t. Breaks rules.UnmatchedDedent before gs t in absurd (none rules.UnmatchedDedent (subst P k.0 k))
string_breaks q body rest rules.UnterminatedString before gs at w none k = let P : List Glyph → Type 0 = λ t. Breaks rules.UnterminatedString before gs t in absurd (none rules.UnterminatedString (subst P k.0 k))
string_breaks q body rest rules.BadEscape before gs at w none k =
    let glyphs : gs ≡ at ++ Char 92 ∷ k.4 =
    k.5.1 ∙ ap (λ t. map Char (opening k.0) ++ t) k.8 ∙ sym (append_assoc (map Char (opening k.0)) k.3 (Char 92 ∷ k.4)) ∙ ap (λ t. t ++ Char 92 ∷ k.4) (sym k.7) in
    slash_break k.0 q gs at k.3 k.4 (one_quote k.0 q gs k.5.0 w.0) k.6 k.7 glyphs k.9 k.11
string_breaks q body rest rules.StrayCharacter before gs at w none (inl k) = absurd (k.1.2 (opens_token q gs w.0))
string_breaks q body rest rules.StrayCharacter before gs at w none (inr k) = absurd (no_comment_here gs at k.1.0 (Char 13) (opens_token q gs w.0) k.0 k.1.1)
string_breaks q body rest rules.Float before gs at w none k = let P : List Glyph → Type 0 = λ t. Breaks rules.Float before gs t in absurd (none rules.Float (subst P k.0 k))
string_breaks q body rest rules.IntegerTooLarge before gs at w none k = let P : List Glyph → Type 0 = λ t. Breaks rules.IntegerTooLarge before gs t in absurd (none rules.IntegerTooLarge (subst P k.0 k))
string_breaks q body rest rules.BadNumber before gs at w none k = let P : List Glyph → Type 0 = λ t. Breaks rules.BadNumber before gs t in absurd (none rules.BadNumber (subst P k.0 k))
string_breaks q body rest rules.BracketsTooDeep before gs at w none k = let P : List Glyph → Type 0 = λ t. Breaks rules.BracketsTooDeep before gs t in absurd (none rules.BracketsTooDeep (subst P k.0 k))
string_breaks q body rest rules.BlocksTooDeep before gs at w none k = let P : List Glyph → Type 0 = λ t. Breaks rules.BlocksTooDeep before gs t in absurd (none rules.BlocksTooDeep (subst P k.0 k))
string_breaks q body rest rules.ItemTooLong before gs at w none k = let P : List Glyph → Type 0 = λ t. Breaks rules.ItemTooLong before gs t in absurd (none rules.ItemTooLong (subst P k.0 k))
string_breaks q body rest _ before gs at w none k = absurd k

-- what stands behind two fronts of a string, without what opens it
behind_opening : (q : Quote) (start start' us vs gs at : List Glyph) (g h : Glyph) → gs ≡ (map Char (opening q) ++ start) ++ g ∷ us → gs ≡ at ++ h ∷ vs → at ≡ map Char (opening q) ++ start'
    → start ++ g ∷ us ≡ start' ++ h ∷ vs
behind_opening q start start' us vs gs at g h e f k =
    let o = map Char (opening q) in
    append_cancel_left o (start ++ g ∷ us) (start' ++ h ∷ vs) (sym (append_assoc o start (g ∷ us)) ∙ sym e ∙ f ∙ ap (λ t. t ++ h ∷ vs) k ∙ append_assoc o start' (h ∷ vs))

string_order : (q : Quote) (rule other : Rule) (start gs us at : List Glyph) (g : Glyph) → Clean q start → gs ≡ (map Char (opening q) ++ start) ++ g ∷ us → IsStringFault rule g → InString q gs at other
    → IsNoLater (map Char (opening q) ++ start) rule at other
string_order q rule other start gs us at g h e fault (bad_byte start' more b f k) =
    let o = map Char (opening q) in
    let inner = behind_opening q start start' us more gs at g (Bad b) e k f in
    let size : length at ≡ length (o ++ start') = ap length f in
    by_length rule rules.NotUtf8 (o ++ start) at
    (λ less. no_bad_clean q start (g ∷ us) start' more b h inner (omega (arith, size, length-append o start, length-append o start')))
    (λ same. string_one rule start start' us more g b fault inner (omega (arith, size, length-append o start, length-append o start')))
string_order q rule other start gs us at g h e fault (bad_slash start' back r f k p none) =
    let o = map Char (opening q) in
    let inner = behind_opening q start start' us back gs at g (Char 92) e k f in
    let size : length at ≡ length (o ++ start') = ap length f in
    by_length rule rules.BadEscape (o ++ start) at
    (λ less. clean_parts q (g ∷ us) back h p r inner none (omega (arith, size, length-append o start, length-append o start')))
    (λ same. string_five rule g fault)

-- the first fault in a string comes before every other one there, if none stands at its place
pub string_first : (q : Quote) (body rest : List Glyph) (rule other : Rule) (before : List Piece) (start gs us at : List Glyph) (g : Glyph) → IsWhole q body rest gs → ((o : Rule) → Breaks o before gs [] → ⊥)
    → Clean q start → gs ≡ (map Char (opening q) ++ start) ++ g ∷ us → IsStringFault rule g → Breaks other before gs at → IsNoLater (map Char (opening q) ++ start) rule at other
string_first q body rest rule other before start gs us at g w none h e fault k = string_order q rule other start gs us at g h e fault (string_breaks q body rest other before gs at w none k)
