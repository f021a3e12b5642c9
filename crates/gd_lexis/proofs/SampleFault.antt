-- The first fault of `1.5` is that it is a float, at its first character.
use Rattle.std.proofs.Common.{◌≡◌, ℕ, ◌+◌, ◌<◌, ◌≤◌, Bool, true, false, not, cond, List, [], ◌∷◌, ◌++◌, map, reverse, refl, ap, sym, ◌∙◌, subst, inl, inr, arith, count_by, if◌then◌else◌}
use Rattle.std.specs.Prelude.{◌⊎◌}
use Rattle.std.specs.List.{prefix_len}
use Rattle.std.proofs.lemmas.Bool.{cases_lt}
use Rattle.std.proofs.lemmas.List.{reverse-append}
use Rattle.std.proofs.lemmas.List.Sums.{fold-append}
use Rattle.gd_syntax.specs.declared.pos.Pos.{Pos}
use Rattle.gd_rules.specs.declared.rule.Rule.{Rule}
use Rattle.gd_rules.specs.declared.rule.Rule.TheVariants as rules
use Rattle.gd_lexis.specs.declared.glyph.Glyph.{Glyph}
use Rattle.gd_lexis.specs.declared.glyph.Glyph.TheVariants.{Char}
use Rattle.gd_lexis.specs.Chars.{IsFile, is_line_feed, place_behind}
use Rattle.gd_lexis.specs.Numbers.{WritesDecimal}
use Rattle.gd_lexis.specs.Strings.{Quote, IsQuote, opening, closing}
use Rattle.gd_lexis.specs.Pieces.{Piece, IsCut}
use Rattle.gd_lexis.specs.Lines.{texts}
use Rattle.gd_lexis.specs.Faults.{Breaks, IsBroken, IsBefore, number, BeginsToken}
use Rattle.gd_lexis.specs.Trials.{OneFloat, place}
use Rattle.gd_lexis.proofs.Cuts.{char_parts, glyph_not_empty, one_file, piece_begins}
use Rattle.gd_lexis.proofs.Numerals.{char_bad}
use Rattle.gd_lexis.proofs.Quotes.{IsClosing, closings}
use Rattle.gd_lexis.proofs.Short.{one_longest}
use Rattle.gd_lexis.proofs.Samples.{read_ascii, low_bytes}

-- ---- no place is before the first

last_split : (xs : List Glyph) → (xs ≡ []) ⊎ ((ys : List Glyph) × (e : Glyph) × (xs ≡ ys ++ e ∷ []))
last_split [] = inl refl
last_split (x ∷ xs) = elim (last_split xs) [ inl e ↦ inr ([], x, ap (λ t. x ∷ t) e) | inr h ↦ inr (x ∷ h.0, h.1, ap (λ t. x ∷ t) h.2) ]

counts : (line column : ℕ) → (0 < line) ⊎ (line ≤ 0) → (0 < line) ⊎ (0 < column) → IsBefore (place 1 1) (place (line + 1) (column + 1))
counts line column (inl h) k = inl (omega arith)
counts line column (inr h) (inl k) = inl (omega arith)
counts line column (inr h) (inr k) = inr (omega arith, omega arith)

abbrev stays : Glyph → Bool
stays g = not (is_line_feed g)

last_counts : (e : Glyph) (ys : List Glyph) (t : Bool) → is_line_feed e ≡ t → (0 < count_by is_line_feed (ys ++ e ∷ [])) ⊎ (0 < prefix_len stays (reverse (ys ++ e ∷ [])))
last_counts e ys true h =
    let more : count_by is_line_feed (ys ++ e ∷ []) ≡ count_by is_line_feed ys + cond (is_line_feed e) 1 0 = fold-append (λ n g. n + cond (is_line_feed g) 1 0) 0 ys (e ∷ []) in
    let one_more : count_by is_line_feed (ys ++ e ∷ []) ≡ count_by is_line_feed ys + 1 = more ∙ ap (λ b. count_by is_line_feed ys + cond b 1 0) h in
    inl (omega arith)
last_counts e ys false h =
    let turned : reverse (ys ++ e ∷ []) ≡ e ∷ reverse ys = reverse-append ys (e ∷ []) in
    let first : prefix_len stays (e ∷ reverse ys) ≡ 1 + prefix_len stays (reverse ys) = ap (λ b. cond (not b) (1 + prefix_len stays (reverse ys)) 0) h in
    inr (omega (arith, ap (prefix_len stays) turned, first))

behind_start : (xs ys : List Glyph) (e : Glyph) → xs ≡ ys ++ e ∷ [] → IsBefore (place 1 1) (place_behind 0 xs)
behind_start xs ys e h =
    let P : List Glyph → Type 0 = λ t. IsBefore (place 1 1) (place_behind 0 t) in
    let line = count_by is_line_feed (ys ++ e ∷ []) in
    subst P (sym h) (counts line (prefix_len stays (reverse (ys ++ e ∷ []))) (cases_lt 0 line) (last_counts e ys (is_line_feed e) refl))

-- ---- the float

is_file : IsFile (49 ∷ 46 ∷ 53 ∷ []) (Char 49 ∷ Char 46 ∷ Char 53 ∷ [])
is_file = inr (read_ascii (49 ∷ 46 ∷ 53 ∷ []) (low_bytes (49 ∷ 46 ∷ 53 ∷ []) refl), refl)

one_decimal : WritesDecimal (49 ∷ []) 1
one_decimal = (49 ∷ [], 1 ∷ [], refl, (omega arith, refl), refl)

broken : IsBroken 0 (49 ∷ 46 ∷ 53 ∷ []) rules.Float (place 1 1)
broken =
    let rest : List Glyph = Char 46 ∷ Char 53 ∷ [] in (
      Char 49 ∷ rest,
      [],
      Char 49 ∷ rest,
      [],
      is_file,
      refl,
      (refl, inl (49 ∷ [], 1, rest, ((rest, refl), inl one_decimal, one_longest 46 (Char 53 ∷ []) (omega arith) (omega arith)), one_decimal, refl, inl (Char 53 ∷ [], refl))),
      refl,
    )

-- ---- no rule before it is broken there

quote_code : (q : Quote) (k : List ℕ) (r : Bool) (c : ℕ) (us vs : List Glyph) → IsClosing q.mark k → map Char (if r then 114 ∷ k else k) ++ us ≡ Char c ∷ vs → (c ≡ 114) ⊎ (c ≡ q.mark)
quote_code q k true c us vs h e = inl (sym (char_parts 114 c (map Char k ++ us) vs e).0)
quote_code q k false c us vs (inl h) e = inr (sym (char_parts q.mark c us vs (ap (λ t. map Char t ++ us) (sym h) ∙ e)).0)
quote_code q k false c us vs (inr h) e = inr (sym (char_parts q.mark c (Char q.mark ∷ Char q.mark ∷ us) vs (ap (λ t. map Char t ++ us) (sym h) ∙ e)).0)

no_quote : (q : Quote) (us vs : List Glyph) → IsQuote q → map Char (opening q) ++ us ≡ Char 49 ∷ vs → ⊥
no_quote q us vs h e =
    let code = quote_code q (closing q) q.is_raw 49 us vs (closings q h) e in
    let mark = h.0 in
    omega arith

quote_stands : (q : Quote) (k : List ℕ) (r : Bool) (us : List Glyph) → IsClosing q.mark k → map Char (if r then 114 ∷ k else k) ++ us ≡ [] → ⊥
quote_stands q k true us h e = glyph_not_empty (Char 114) (map Char k ++ us) e
quote_stands q k false us (inl h) e = glyph_not_empty (Char q.mark) us (ap (λ t. map Char t ++ us) (sym h) ∙ e)
quote_stands q k false us (inr h) e = glyph_not_empty (Char q.mark) (Char q.mark ∷ Char q.mark ∷ us) (ap (λ t. map Char t ++ us) (sym h) ∙ e)

begins_there : (vs gs : List Glyph) → gs ≡ Char 49 ∷ vs → BeginsToken gs
begins_there vs gs e = (49, inr (inl (omega arith)), (vs, e))

least : (other : Rule) (vs gs : List Glyph) → gs ≡ Char 49 ∷ vs → Breaks other [] gs [] → 7 ≤ number other
least rules.NotUtf8 vs gs e k = absurd (char_bad 49 k.0 vs k.1 (sym e ∙ k.2))
least rules.MixedIndentation vs gs e (z, first, token, inl k) = omega (arith, (char_parts 49 9 vs k.1.0 (sym e ∙ k.1.1)).0)
least rules.MixedIndentation vs gs e (z, first, token, inr k) = omega (arith, (char_parts 49 32 vs k.1.0 (sym e ∙ k.1.1)).0)
least rules.UnmatchedDedent vs gs e k = absurd (k.2 (inl refl))
least rules.UnterminatedString vs gs e k = absurd (no_quote k.1.0 k.1.1.1.0 vs k.1.1.0 (sym k.1.1.1.1 ∙ e))
least rules.BadEscape vs gs e k = absurd (quote_stands k.0 (closing k.0) k.0.is_raw k.3 (closings k.0 k.5.0.0) (sym k.7))
least rules.StrayCharacter vs gs e (inl k) = absurd (k.1.2 (begins_there vs gs e))
least rules.StrayCharacter vs gs e (inr k) = absurd (glyph_not_empty (Char 35) k.0.0 (sym k.0.1))
least rules.Float vs gs e k = omega arith
least rules.IntegerTooLarge vs gs e k = omega arith
least rules.BadNumber vs gs e k = omega arith
least rules.BracketsTooDeep vs gs e k = omega arith
least rules.BlocksTooDeep vs gs e k = omega arith
least rules.ItemTooLong vs gs e k = omega arith
least _ vs gs e k = absurd k

at_start : (other : Rule) (vs glyphs gs ahead : List Glyph) (before : List Piece) → glyphs ≡ Char 49 ∷ vs → IsCut glyphs before gs → Breaks other before gs ahead → texts before ++ ahead ≡ [] → 7 ≤ number other
at_start other vs glyphs gs [] [] e cut k h = least other vs gs (sym cut ∙ e) k
at_start other vs glyphs gs (g ∷ ahead) [] e cut k h = absurd (glyph_not_empty g ahead h)
at_start other vs glyphs gs ahead (p ∷ ps) e cut k h =
    let b = piece_begins p cut.0 cut.2 in
    absurd (glyph_not_empty (Char b.0) ((map Char b.1 ++ texts ps) ++ ahead) (ap (λ t. (t ++ texts ps) ++ ahead) (sym b.2) ∙ h))

place_or_later : (other : Rule) (at : Pos) (vs glyphs gs ahead : List Glyph) (before : List Piece) → glyphs ≡ Char 49 ∷ vs → IsCut glyphs before gs → Breaks other before gs ahead
    → at ≡ place_behind 0 (texts before ++ ahead) → (texts before ++ ahead ≡ []) ⊎ ((ys : List Glyph) × (e : Glyph) × (texts before ++ ahead ≡ ys ++ e ∷ []))
    → IsBefore (place 1 1) at ⊎ ((at ≡ place 1 1) × (7 ≤ number other))
place_or_later other at vs glyphs gs ahead before e cut k f (inl h) = inr (f ∙ ap (place_behind 0) h, at_start other vs glyphs gs ahead before e cut k h)
place_or_later other at vs glyphs gs ahead before e cut k f (inr h) = let P : Pos → Type 0 = λ p. IsBefore (place 1 1) p in inl (subst P (sym f) (behind_start (texts before ++ ahead) h.0 h.1 h.2))

pub one_float : OneFloat
one_float = record {
  broken = broken;
  first = λ other at k. place_or_later other at (Char 46 ∷ Char 53 ∷ []) k.0 k.2 k.3 k.1 (one_file (49 ∷ 46 ∷ 53 ∷ []) k.0 (Char 49 ∷ Char 46 ∷ Char 53 ∷ []) k.4 is_file) k.5 k.6 k.7 (last_split (texts k.1 ++ k.3));
}
