-- The first fault of a raw string with a byte that is part of no character is that byte: its backslashes are no escapes.
use Rattle.std.proofs.Common.{◌≡◌, ℕ, ◌+◌, ◌/◌, ◌<◌, ◌≤◌, Bool, true, false, List, [], ◌∷◌, ◌++◌, map, refl, ap, sym, ◌∙◌, subst, inl, inr, arith, cond, ltb, true≢false}
use Rattle.std.specs.Int.{IsInRange}
use Rattle.std.specs.Str.{StartsWithNoChar}
use Rattle.std.proofs.lemmas.Bool.{ltb-true}
use lib.Utf8.{encode, scalar_cases}
use Rattle.gd_syntax.specs.declared.token.TokenKind.{TokenKind}
use Rattle.gd_syntax.specs.declared.token.TokenKind.TheVariants as kinds
use Rattle.gd_rules.specs.declared.rule.Rule.{Rule}
use Rattle.gd_rules.specs.declared.rule.Rule.TheVariants as rules
use Rattle.gd_lexis.specs.declared.glyph.Glyph.{Glyph}
use Rattle.gd_lexis.specs.declared.glyph.Glyph.TheVariants.{Char, Bad}
use Rattle.gd_lexis.specs.Chars.{IsFile, Reads, place_behind}
use Rattle.gd_lexis.specs.Words.{IsFloatName}
use Rattle.gd_lexis.specs.Strings.{Quote, IsQuote, opening}
use Rattle.gd_lexis.specs.Pieces.{Piece, Blank, LineFeed, Join, Comment, Tok, text_of, Writes, BeginsWith, IsClear, Stands, IsCut}
use Rattle.gd_lexis.specs.Lines.{texts}
use Rattle.gd_lexis.specs.Faults.{Breaks, IsBroken, number, BeginsToken, IsNumber, Inside, nothing as in_nothing, plain as in_plain, taken, Opens, IsWhole}
use Rattle.gd_lexis.specs.Trials.{OneRaw, place}
use Rattle.gd_lexis.proofs.Bodies.{one, three, IsMark, Written, single, triple, written}
use Rattle.gd_lexis.proofs.Tokens.{BeginsName, BeginsMark, token_begins, next, two_letters, keyword_letters}
use Rattle.gd_lexis.proofs.Digits.{number_first}
use Rattle.gd_lexis.proofs.Cuts.{char_parts, glyph_not_empty, one_file, blank_code}
use Rattle.gd_lexis.proofs.Heads.{begins_at, word_start, lower_start}
use Rattle.gd_lexis.proofs.Numerals.{char_bad}
use Rattle.gd_lexis.proofs.Wholes.{single_glyphs, triple_glyphs, glyphs_opened, opened_one, opened_three}

-- ---- the bytes

first_byte : (a b : ℕ) (xs ys : List ℕ) → a ∷ xs ≡ b ∷ ys → a ≡ b
first_byte a b xs ys e = cc

no_lead : (c : ℕ) (rest : List ℕ) (s t u : Bool) → ltb c 128 ≡ s → ltb c 2048 ≡ t → ltb c 65536 ≡ u → c < 1114112 → (xs ys zs : List ℕ)
    → 255 ∷ 34 ∷ [] ≡ cond s (c ∷ []) (cond t ((192 + c / 64) ∷ xs) (cond u ((224 + c / 4096) ∷ ys) ((240 + c / 262144) ∷ zs))) ++ rest → ⊥
no_lead c rest true t u h k l small xs ys zs e = omega (arith, ltb-true c 128 h, first_byte 255 c (34 ∷ []) rest e)
no_lead c rest false true u h k l small xs ys zs e = omega (arith, ltb-true c 2048 k, first_byte 255 (192 + c / 64) (34 ∷ []) (xs ++ rest) e)
no_lead c rest false false true h k l small xs ys zs e = omega (arith, ltb-true c 65536 l, first_byte 255 (224 + c / 4096) (34 ∷ []) (ys ++ rest) e)
no_lead c rest false false false h k l small xs ys zs e = omega (arith, first_byte 255 (240 + c / 262144) (34 ∷ []) (zs ++ rest) e)

no_char : StartsWithNoChar (255 ∷ 34 ∷ [])
unfolding encode
no_char c rest scalar e = no_lead c rest (ltb c 128) (ltb c 2048) (ltb c 65536) refl refl refl (omega (arith, scalar_cases c scalar)) _ _ _ e

abbrev glyphs : List Glyph
glyphs = Char 114 ∷ Char 34 ∷ Char 92 ∷ Char 113 ∷ Bad 255 ∷ Char 34 ∷ []

abbrev bytes : List ℕ
bytes = 114 ∷ 34 ∷ 92 ∷ 113 ∷ 255 ∷ 34 ∷ []

is_file : IsFile bytes glyphs
unfolding encode
is_file =
    let last : Reads (34 ∷ []) (Char 34 ∷ []) = (refl, ([], refl, refl)) in
    let bad : Reads (255 ∷ 34 ∷ []) (Bad 255 ∷ Char 34 ∷ []) = (no_char, (34 ∷ [], refl, last)) in
    let letter : Reads (113 ∷ 255 ∷ 34 ∷ []) (Char 113 ∷ Bad 255 ∷ Char 34 ∷ []) = (refl, (255 ∷ 34 ∷ [], refl, bad)) in
    let slash : Reads (92 ∷ 113 ∷ 255 ∷ 34 ∷ []) (Char 92 ∷ Char 113 ∷ Bad 255 ∷ Char 34 ∷ []) = (refl, (113 ∷ 255 ∷ 34 ∷ [], refl, letter)) in
    let quoted : Reads (34 ∷ 92 ∷ 113 ∷ 255 ∷ 34 ∷ []) (Char 34 ∷ Char 92 ∷ Char 113 ∷ Bad 255 ∷ Char 34 ∷ []) = (refl, (92 ∷ 113 ∷ 255 ∷ 34 ∷ [], refl, slash)) in
    inr ((refl, (34 ∷ 92 ∷ 113 ∷ 255 ∷ 34 ∷ [], refl, quoted)), refl)

-- ---- the string there

bad_char : (b c : ℕ) → Bad b ≡ Char c → ⊥
bad_char b c e = cc

bad_head : (b c : ℕ) (us vs : List Glyph) → Bad b ∷ us ≡ Char c ∷ vs → ⊥
bad_head b c us vs e = cc

tail_of : (g h : Glyph) (us vs : List Glyph) → g ∷ us ≡ h ∷ vs → us ≡ vs
tail_of g h us vs e = cc

inside : Inside (one true 34) (Char 34 ∷ []) (Char 92 ∷ Char 113 ∷ Bad 255 ∷ [])
inside = taken (Char 113) (Bad 255 ∷ []) (in_plain (Bad 255) [] (bad_char 255 92) (λ b. bad_head 255 34 (Char 34 ∷ []) b.0 b.1) in_nothing)

not_three : BeginsWith (opening (three true 34)) glyphs → ⊥
not_three b = omega (arith, (char_parts 92 34 (Char 113 ∷ Bad 255 ∷ Char 34 ∷ []) (Char 34 ∷ b.0) (tail_of (Char 34) (Char 34) _ _ (tail_of (Char 114) (Char 114) _ _ b.1))).0)

whole : IsWhole (one true 34) (Char 92 ∷ Char 113 ∷ Bad 255 ∷ []) [] glyphs
whole = (((inl refl, inl refl), (Char 92 ∷ Char 113 ∷ Bad 255 ∷ Char 34 ∷ [], refl), λ e. not_three), refl, inside)

broken : IsBroken 0 bytes rules.NotUtf8 (place 1 5)
broken = (
  glyphs,
  [],
  glyphs,
  Char 114 ∷ Char 34 ∷ Char 92 ∷ Char 113 ∷ [],
  is_file,
  refl,
  (255, Char 34 ∷ [], refl, inr (inr (one true 34, Char 92 ∷ Char 113 ∷ Bad 255 ∷ [], [], Char 92 ∷ Char 113 ∷ [], whole, refl, omega arith))),
  refl,
)

-- ---- no piece is cut off its front

second_bad : (body : List ℕ) (more : List Glyph) → Char 92 ∷ Char 113 ∷ Bad 255 ∷ Char 34 ∷ [] ≡ map Char body ++ (Char 34 ∷ more) → ⊥
second_bad [] more e = omega (arith, (char_parts 92 34 (Char 113 ∷ Bad 255 ∷ Char 34 ∷ []) more e).0)
second_bad (x ∷ []) more e = omega (arith, (char_parts 113 34 (Bad 255 ∷ Char 34 ∷ []) more (tail_of (Char 92) (Char x) _ _ e)).0)
second_bad (x ∷ y ∷ []) more e = bad_head 255 34 (Char 34 ∷ []) more (tail_of (Char 113) (Char y) _ _ (tail_of (Char 92) (Char x) _ _ e))
second_bad (x ∷ y ∷ z ∷ body) more e = bad_head 255 z (Char 34 ∷ []) (map Char body ++ (Char 34 ∷ more)) (tail_of (Char 113) (Char y) _ _ (tail_of (Char 92) (Char x) _ _ e))

no_string : (text t : List ℕ) (more : List Glyph) → glyphs ≡ map Char text ++ more → Written text t → ⊥
no_string text t more e (single false m body h f b) = omega (arith, (char_parts 114 m _ _ (e ∙ single_glyphs false m body text more f)).0)
no_string text t more e (single true m body h f b) =
    let behind = (char_parts 114 114 _ _ (e ∙ single_glyphs true m body text more f)).1 in
    let parts = char_parts 34 m (Char 92 ∷ Char 113 ∷ Bad 255 ∷ Char 34 ∷ []) (map Char body ++ (Char m ∷ more)) behind in
    second_bad body more (parts.1 ∙ ap (λ x. map Char body ++ (Char x ∷ more)) (sym parts.0))
no_string text t more e (triple false m body h f b) = omega (arith, (char_parts 114 m _ _ (e ∙ triple_glyphs false m body text more f)).0)
no_string text t more e (triple true m body h f b) =
    let behind = (char_parts 114 114 _ _ (e ∙ triple_glyphs true m body text more f)).1 in
    let next_mark = (char_parts 34 m _ _ behind).1 in
    omega (arith, (char_parts 92 m _ _ next_mark).0)

no_name : (text : List ℕ) (more : List Glyph) (c : ℕ) (tail : List ℕ) → text ≡ c ∷ tail → BeginsName c (next tail) → glyphs ≡ map Char text ++ more
    → (text ≡ 114 ∷ [] → (vs : List Glyph) → more ≡ Char 34 ∷ vs → ⊥) → ⊥
no_name text more c [] e h f alone =
    let parts = char_parts 114 c (Char 34 ∷ Char 92 ∷ Char 113 ∷ Bad 255 ∷ Char 34 ∷ []) more (f ∙ ap (λ t. map Char t ++ more) e) in
    alone (e ∙ ap (λ x. x ∷ []) (sym parts.0)) (Char 92 ∷ Char 113 ∷ Bad 255 ∷ Char 34 ∷ []) (sym parts.1)
no_name text more c (d ∷ tail) e h f alone =
    let behind = (char_parts 114 c _ _ (f ∙ ap (λ t. map Char t ++ more) e)).1 in
    let second = (char_parts 34 d (Char 92 ∷ Char 113 ∷ Bad 255 ∷ Char 34 ∷ []) (map Char tail ++ more) behind).0 in
    omega arith

no_token : (kind : TokenKind) (text : List ℕ) (more : List Glyph) → glyphs ≡ map Char text ++ more → Writes kind text → IsClear kind text more → ⊥
no_token (kinds.Word name) text more e h clear =
    let b = token_begins (kinds.Word name) text h in no_name text more b.0 b.1 b.2 b.3 e (λ alone vs f. clear.1 alone (34, inl refl, (vs, f)))
no_token (kinds.Keyword k) text more e h clear =
    let b = token_begins (kinds.Keyword k) text h in
    no_name text more b.0 b.1 b.2 b.3 e (λ alone vs f. true≢false (sym (keyword_letters k) ∙ ap two_letters (sym h ∙ alone)))
no_token (kinds.Number n) text more e h clear = let b = begins_at (kinds.Number n) text more _ 114 h (sym e) in let d : IsInRange 48 57 114 = b.1 in omega arith
no_token (kinds.Quoted t) text more e h clear = no_string text t more e (written text t h)
no_token (kinds.Mark m) text more e h clear = let b = begins_at (kinds.Mark m) text more _ 114 h (sym e) in let d : BeginsMark 114 = b.1 in omega arith
no_token _ text more e h clear = absurd h

no_piece : (p : Piece) (more : List Glyph) → glyphs ≡ text_of p ++ more → Stands p more → ⊥
no_piece (Blank d) more e s = omega (arith, (char_parts 114 d _ _ e).0, blank_code d more s)
no_piece LineFeed more e s = omega (arith, (char_parts 114 10 _ _ e).0)
no_piece (Join end) more e s = omega (arith, (char_parts 114 92 _ _ e).0)
no_piece (Comment cs) more e s = omega (arith, (char_parts 114 35 _ _ e).0)
no_piece (Tok kind text) more e s = no_token kind text more e s.0 s.2

-- ---- no rule is broken before the byte

bad_at : (ahead more : List Glyph) (b : ℕ) → glyphs ≡ ahead ++ Bad b ∷ more → place_behind 0 ahead ≡ place 1 5
bad_at [] more b e = absurd (char_bad 114 b _ more e)
bad_at (g ∷ []) more b e = absurd (char_bad 34 b _ more (tail_of (Char 114) g _ _ e))
bad_at (g ∷ h ∷ []) more b e = absurd (char_bad 92 b _ more (tail_of (Char 34) h _ _ (tail_of (Char 114) g _ _ e)))
bad_at (g ∷ h ∷ i ∷ []) more b e = absurd (char_bad 113 b _ more (tail_of (Char 92) i _ _ (tail_of (Char 34) h _ _ (tail_of (Char 114) g _ _ e))))
bad_at (g ∷ h ∷ i ∷ j ∷ []) more b e =
    let front : g ∷ h ∷ i ∷ j ∷ [] ≡ Char 114 ∷ Char 34 ∷ Char 92 ∷ Char 113 ∷ [] = four g h i j _ _ (sym e) in
    ap (place_behind 0) front
  where
    four : (g h i j : Glyph) (us vs : List Glyph) → g ∷ h ∷ i ∷ j ∷ us ≡ Char 114 ∷ Char 34 ∷ Char 92 ∷ Char 113 ∷ vs → g ∷ h ∷ i ∷ j ∷ [] ≡ Char 114 ∷ Char 34 ∷ Char 92 ∷ Char 113 ∷ []
    four g h i j us vs e = cc
bad_at (g ∷ h ∷ i ∷ j ∷ k ∷ ahead) more b e =
    absurd (last_char ahead (tail_of (Bad 255) k _ _ (tail_of (Char 113) j _ _ (tail_of (Char 92) i _ _ (tail_of (Char 34) h _ _ (tail_of (Char 114) g _ _ e))))))
  where
    last_char : (ahead : List Glyph) → Char 34 ∷ [] ≡ ahead ++ Bad b ∷ more → ⊥
    last_char [] e = char_bad 34 b [] more e
    last_char (x ∷ []) e = glyph_not_empty (Bad b) more (sym (tail_of (Char 34) x [] _ e))
    last_char (x ∷ y ∷ ahead) e = glyph_not_empty y (ahead ++ Bad b ∷ more) (sym (tail_of (Char 34) x [] _ e))

no_number : (text : List ℕ) (v : ℕ) → IsNumber text v glyphs → ⊥
no_number text v h =
    let b = number_first text v h.1 in
    omega (arith, b.3, (char_parts 114 b.0 _ _ (h.0.1 ∙ ap (λ t. map Char t ++ h.0.0) b.2)).0)

no_float : (name : List ℕ) → IsFloatName name → BeginsWith name glyphs → ⊥
no_float name (inl e) b = omega (arith, (char_parts 114 80 _ _ (b.1 ∙ ap (λ t. map Char t ++ b.0) e)).0)
no_float name (inr (inl e)) b = omega (arith, (char_parts 114 84 _ _ (b.1 ∙ ap (λ t. map Char t ++ b.0) e)).0)
no_float name (inr (inr (inl e))) b = omega (arith, (char_parts 114 73 _ _ (b.1 ∙ ap (λ t. map Char t ++ b.0) e)).0)
no_float name (inr (inr (inr e))) b = omega (arith, (char_parts 114 78 _ _ (b.1 ∙ ap (λ t. map Char t ++ b.0) e)).0)

-- which string is opened there
one_opened : (raw : Bool) (m : ℕ) (us : List Glyph) → IsMark m → glyphs ≡ glyphs_opened raw (Char m ∷ us) → (raw ≡ true) × (m ≡ 34) × (us ≡ Char 92 ∷ Char 113 ∷ Bad 255 ∷ Char 34 ∷ [])
one_opened true m us h e = let parts = char_parts 34 m _ us (char_parts 114 114 _ _ e).1 in (refl, sym parts.0, sym parts.1)
one_opened false m us h e = let code = (char_parts 114 m _ us e).0 in absurd (omega arith)

counted : (q : Quote) (n : ℕ) → q.count ≡ n → q ≡ record { is_raw = q.is_raw; mark = q.mark; count = n }
counted q n e = ap (λ n. record { is_raw = q.is_raw; mark = q.mark; count = n }) e

opened_is : (q : Quote) → IsQuote q → BeginsWith (opening q) glyphs → (q.is_raw ≡ true) × (q ≡ one true 34)
opened_is q (m, inl e) b =
    let same = counted q 1 e in
    let found = one_opened q.is_raw q.mark b.0 m (b.1 ∙ ap (λ t. map Char (opening t) ++ b.0) same ∙ opened_one q.is_raw q.mark b.0) in
    (found.0, same ∙ ap (λ x. one x q.mark) found.0 ∙ ap (λ x. one true x) found.1)
opened_is q (m, inr e) b =
    let same = counted q 3 e in
    let found = one_opened q.is_raw q.mark (Char q.mark ∷ Char q.mark ∷ b.0) m (b.1 ∙ ap (λ t. map Char (opening t) ++ b.0) same ∙ opened_three q.is_raw q.mark b.0) in
    absurd (omega (arith, found.1, (char_parts q.mark 92 _ _ found.2).0))

terminated : (q : Quote) → Opens q glyphs → ((body rest : List Glyph) → IsWhole q body rest glyphs → ⊥) → ⊥
terminated q opens h =
    let P : Quote → Type 0 = λ t. IsWhole t (Char 92 ∷ Char 113 ∷ Bad 255 ∷ []) [] glyphs in
    h (Char 92 ∷ Char 113 ∷ Bad 255 ∷ []) [] (subst P (sym (opened_is q opens.0 opens.1).1) whole)

begins_there : BeginsToken glyphs
begins_there = (114, inl (word_start 114 (lower_start 114 (omega arith))), (Char 34 ∷ Char 92 ∷ Char 113 ∷ Bad 255 ∷ Char 34 ∷ [], refl))

only_there : (other : Rule) (ahead : List Glyph) → Breaks other [] glyphs ahead → place_behind 0 ahead ≡ place 1 5
only_there rules.NotUtf8 ahead k = bad_at ahead k.1 k.0 k.2
only_there rules.MixedIndentation ahead (e, first, token, inl k) = absurd (omega (arith, (char_parts 114 9 _ _ k.1.1).0))
only_there rules.MixedIndentation ahead (e, first, token, inr k) = absurd (omega (arith, (char_parts 114 32 _ _ k.1.1).0))
only_there rules.UnmatchedDedent ahead k = absurd (k.2 (inl refl))
only_there rules.UnterminatedString ahead k = absurd (terminated k.1.0 k.1.1 k.1.2)
only_there rules.BadEscape ahead k = absurd (true≢false (sym (opened_is k.0 k.5.0.0 k.5.0.1).0 ∙ k.6))
only_there rules.StrayCharacter ahead (inl k) = absurd (k.1.2 begins_there)
only_there rules.StrayCharacter ahead (inr k) = absurd (omega (arith, (char_parts 114 35 _ _ (k.1.1 ∙ ap (λ t. t ++ Char 13 ∷ k.1.0) k.0.1)).0))
only_there rules.Float ahead (e, inl k) = absurd (no_number k.0 k.1 k.3)
only_there rules.Float ahead (e, inr (inl k)) = absurd (omega (arith, (char_parts 114 46 _ _ k.2.1).0))
only_there rules.Float ahead (e, inr (inr k)) = absurd (no_float k.0 k.1 k.2)
only_there rules.IntegerTooLarge ahead k = absurd (no_number k.1.0 k.1.1 k.1.2)
only_there rules.BadNumber ahead k = absurd (no_number k.1.0 k.1.1 k.1.3)
only_there rules.BracketsTooDeep ahead k = absurd (omega (arith, k.1.3))
only_there rules.BlocksTooDeep ahead k = absurd (omega (arith, k.3))
only_there rules.ItemTooLong ahead (e, (n, inl k, h)) = absurd (omega (arith, k.5))
only_there rules.ItemTooLong ahead (e, (n, inr k, h)) = absurd (omega (arith, k.1))
only_there _ ahead k = absurd k

at_least : (other : Rule) (before : List Piece) (gs ahead : List Glyph) → Breaks other before gs ahead → 1 ≤ number other
at_least rules.NotUtf8 before gs ahead k = omega arith
at_least rules.MixedIndentation before gs ahead k = omega arith
at_least rules.UnmatchedDedent before gs ahead k = omega arith
at_least rules.UnterminatedString before gs ahead k = omega arith
at_least rules.BadEscape before gs ahead k = omega arith
at_least rules.StrayCharacter before gs ahead k = omega arith
at_least rules.Float before gs ahead k = omega arith
at_least rules.IntegerTooLarge before gs ahead k = omega arith
at_least rules.BadNumber before gs ahead k = omega arith
at_least rules.BracketsTooDeep before gs ahead k = omega arith
at_least rules.BlocksTooDeep before gs ahead k = omega arith
at_least rules.ItemTooLong before gs ahead k = omega arith
at_least _ before gs ahead k = absurd k

there : (other : Rule) (hs gs ahead : List Glyph) (before : List Piece) → hs ≡ glyphs → IsCut hs before gs → Breaks other before gs ahead → place_behind 0 (texts before ++ ahead) ≡ place 1 5
there other hs gs ahead [] e cut k = let P : List Glyph → Type 0 = λ t. Breaks other [] t ahead in only_there other ahead (subst P (sym cut ∙ e) k)
there other hs gs ahead (p ∷ ps) e cut k = absurd (no_piece p cut.0 (sym e ∙ cut.1) cut.2)

pub one_raw : OneRaw
one_raw = record {
  broken = broken;
  first = λ other at k. inr (k.7 ∙ there other k.0 k.2 k.3 k.1 (one_file bytes k.0 glyphs k.4 is_file) k.5 k.6, at_least other k.1 k.2 k.3 k.6);
}
