-- The first blank of the other kind in a line is the first fault of the file, where a token comes in the line.
use Rattle.std.proofs.Common.{◌≡◌, ℕ, ◌≤◌, true, false, cond, List, [], ◌∷◌, ◌++◌, length, fold, refl, ap, sym, ◌∙◌, subst, inl, inr, arith, append_assoc, length-append}
use Rattle.std.specs.Prelude.{◌⊎◌, All}
use Rattle.std.proofs.lemmas.Bool.{eq-eqb}
use Rattle.std.proofs.lemmas.List.Elements.{All-head, All-tail, All-nil, All-cons}
use Rattle.std.proofs.lemmas.List.Sums.{fold-append}
use Rattle.gd_rules.specs.declared.rule.Rule.TheVariants as rules
use Rattle.gd_lexis.specs.declared.glyph.Glyph.{Glyph}
use Rattle.gd_lexis.specs.declared.glyph.Glyph.TheVariants.{Char}
use Rattle.gd_lexis.specs.Chars.{IsFile, place_behind}
use Rattle.gd_lexis.specs.Pieces.{Piece, Blank, LineFeed, Join, Comment, Tok, text_of, BeginsWith, Stands, IsCut}
use Rattle.gd_lexis.specs.Lines.{Parted, parted, parted_behind, lines_of, is_logical, level, level_behind, depth, open_blocks, texts}
use Rattle.gd_lexis.specs.Lexes.{IsWithin, AreBlocks, IndentBy, IsMatched}
use Rattle.gd_lexis.specs.Faults.{HasToken, joined, IsIndentedBy, FirstFault, line}
use Rattle.gd_lexis.specs.Faultless.{IsLedBy}
use Rattle.gd_lexis.proofs.Lists.{cons_parts}
use Rattle.gd_lexis.proofs.Bodies.{not_both}
use Rattle.gd_lexis.proofs.Bounds.{cut_line, with_piece, lines_behind, grown_length, grows}
use Rattle.gd_lexis.proofs.Least.{idle_level}
use Rattle.gd_lexis.proofs.Ahead.{none_at_end, none_at_feed, far_blank}
use Rattle.gd_lexis.proofs.Exits.{first_mixed}

-- ---- a cut parted

pub cut_parted : (ps qs : List Piece) (gs end : List Glyph) → IsCut gs (ps ++ qs) end → (mid : List Glyph) × IsCut gs ps mid × IsCut mid qs end
cut_parted [] qs gs end h = (gs, refl, h)
cut_parted (p ∷ ps) qs gs end h = let more = cut_parted ps qs h.0 end h.3 in (more.0, (h.0, h.1, h.2, more.1), more.2)

-- ---- pieces before a line's first token

abbrev IsLead : Piece → Type 0
IsLead (Blank c) = Unit {0}
IsLead (Join end) = Unit {0}
IsLead (Comment cs) = Unit {0}
IsLead _ = ⊥

-- a line feed would end the line
ended : (P : Parted) (ps : List Piece) → (fold parted_behind (cut_line P) ps).whole ≡ P.whole → ⊥
ended P ps e =
    let lines = lines_behind (cut_line P) ps in
    let sizes : length (fold parted_behind (cut_line P) ps).whole ≡ length P.whole = ap length e in
    omega (arith, sizes, grown_length (cut_line P) lines (grows (cut_line P) ps), length-append P.whole (P.rest ∷ []), length-append (fold parted_behind (cut_line P) ps).whole ((fold parted_behind (cut_line P) ps).rest ∷ []))

level_with : (xs : List Piece) (p : Piece) → level (xs ++ p ∷ []) ≡ level_behind (level xs) p
level_with xs p = fold-append level_behind 0 xs (p ∷ [])

no_feeds : (P : Parted) (ps : List Piece) → level P.rest ≡ 0 → is_logical ps ≡ false → (fold parted_behind P ps).whole ≡ P.whole → All IsLead ps
no_feeds P [] low none same = All-nil IsLead
no_feeds P (Blank c ∷ ps) low none same = All-cons IsLead (Blank c) ps tt (no_feeds (with_piece P (Blank c)) ps (level_with P.rest (Blank c) ∙ low) none same)
no_feeds P (LineFeed ∷ ps) low none same =
    let ends : parted_behind P LineFeed ≡ cut_line P = ap (λ b. cond b (cut_line P) (with_piece P LineFeed)) (eq-eqb (level P.rest) 0 low) in
    absurd (ended P ps (ap (λ s. (fold parted_behind s ps).whole) (sym ends) ∙ same))
no_feeds P (Join end ∷ ps) low none same = All-cons IsLead (Join end) ps tt (no_feeds (with_piece P (Join end)) ps (level_with P.rest (Join end) ∙ low) none same)
no_feeds P (Comment cs ∷ ps) low none same = All-cons IsLead (Comment cs) ps tt (no_feeds (with_piece P (Comment cs)) ps (level_with P.rest (Comment cs) ∙ low) none same)
no_feeds P (Tok kind text ∷ ps) low none same = absurd (not_both true refl none)

-- a token that comes behind such pieces comes behind what stands before them
blank_code : (c : ℕ) (us : List Glyph) → Stands (Blank c) us → (c ≡ 32) ⊎ ((c ≡ 9) ⊎ (c ≡ 13))
blank_code c us (inl e) = inl e
blank_code c us (inr (inl e)) = inr (inl e)
blank_code c us (inr (inr h)) = inr (inr h.0)

comment_ends : (us : List Glyph) → (us ≡ []) ⊎ BeginsWith (10 ∷ []) us → HasToken us → ⊥
comment_ends us (inl e) h = none_at_end h e
comment_ends us (inr b) h = let P : List Glyph → Type 0 = HasToken in none_at_feed b.0 (subst P b.1 h)

before_piece : (p : Piece) (us : List Glyph) → IsLead p → Stands p us → HasToken us → HasToken (text_of p ++ us)
before_piece (Blank c) us g s h = (far_blank c us (blank_code c us s)).1 h
before_piece (Join end) us g s h = joined end us s h
before_piece (Comment cs) us g s h = absurd (comment_ends us s.1 h)
before_piece _ us g s h = absurd g

token_back : (ps : List Piece) (gs end : List Glyph) → All IsLead ps → IsCut gs ps end → HasToken end → HasToken gs
token_back [] gs end g h t = let P : List Glyph → Type 0 = HasToken in subst P (sym h) t
token_back (p ∷ ps) gs end g h t =
    let P : List Glyph → Type 0 = HasToken in
    subst P (sym h.1) (before_piece p h.0 (All-head IsLead p ps g) h.2 (token_back ps h.0 end (All-tail IsLead p ps g) h.3 t))

-- ---- the bounds of a line's front

within_front : (xs ys : List Piece) → IsWithin (xs ++ ys) → IsWithin xs
within_front xs ys h front back e = h front (back ++ ys) (ap (λ t. t ++ ys) e ∙ append_assoc front back ys)

last_within : (whole : List (List Piece)) (xs ys : List Piece) → All IsWithin (whole ++ (xs ++ ys) ∷ []) → All IsWithin (whole ++ xs ∷ [])
last_within [] xs ys h = All-cons IsWithin xs [] (within_front xs ys (All-head IsWithin (xs ++ ys) [] h)) (All-nil IsWithin)
last_within (l ∷ whole) xs ys h = All-cons IsWithin l (whole ++ xs ∷ []) (All-head IsWithin l (whole ++ (xs ++ ys) ∷ []) h) (last_within whole xs ys (All-tail IsWithin l (whole ++ (xs ++ ys) ∷ []) h))

-- a list with one more is split at the last, or before it
data Split {X : Type 0} (xs front : List X) (y x : X) (back : List X) : Type 0 where
  last : y ≡ x → Split xs front y x back
  earlier : (more : List X) → xs ≡ front ++ x ∷ more → Split xs front y x back

cons_split : {X : Type 0} (z w : X) (xs front : List X) (y x : X) (back : List X) → z ≡ w → Split xs front y x back → Split (z ∷ xs) (w ∷ front) y x back
cons_split z w xs front y x back e (last h) = last h
cons_split z w xs front y x back e (earlier more h) = earlier more (ap (λ t. z ∷ t) h ∙ ap (λ v. v ∷ front ++ x ∷ more) e)

none_behind : {X : Type 0} (y x : X) (front back : List X) → [] ≡ front ++ x ∷ back → ⊥
none_behind y x [] back e = cc
none_behind y x (f ∷ front) back e = cc

split_of : {X : Type 0} (xs front : List X) (y x : X) (back : List X) → xs ++ y ∷ [] ≡ front ++ x ∷ back → Split xs front y x back
split_of [] [] y x back e = last (cons_parts y x [] back e).0
split_of [] (f ∷ front) y x back e = absurd (none_behind y x front back (cons_parts y f [] (front ++ x ∷ back) e).1)
split_of (z ∷ xs) [] y x back e = earlier xs (ap (λ v. v ∷ xs) (cons_parts z x (xs ++ y ∷ []) back e).0)
split_of (z ∷ xs) (f ∷ front) y x back e =
    let parts = cons_parts z f (xs ++ y ∷ []) (front ++ x ∷ back) e in
    cons_split z f xs front y x back parts.0 (split_of xs front y x back parts.1)

by_split : (whole : List (List Piece)) (xs ys : List Piece) (front : List (List Piece)) (x : List Piece) (back : List (List Piece)) → is_logical xs ≡ false → AreBlocks (whole ++ ys ∷ []) → is_logical x ≡ true
    → Split whole front xs x back → IsMatched (open_blocks front) (depth x) × (length (open_blocks (front ++ x ∷ [])) ≤ 32)
by_split whole xs ys front x back none h logical (last e) = absurd (not_both (is_logical x) logical (ap is_logical (sym e) ∙ none))
by_split whole xs ys front x back none h logical (earlier more e) = h front x (more ++ ys ∷ []) (ap (λ t. t ++ ys ∷ []) e ∙ append_assoc front (x ∷ more) (ys ∷ [])) logical

-- a last line without a token bears on no blocks
pub last_blocks : (whole : List (List Piece)) (xs ys : List Piece) → is_logical xs ≡ false → AreBlocks (whole ++ ys ∷ []) → AreBlocks (whole ++ xs ∷ [])
last_blocks whole xs ys none h front x back e logical = by_split whole xs ys front x back none h logical (split_of whole front xs x back e)

-- ---- the blank of the other kind

abbrev pub AreOther : ℕ → ℕ → Type 0
AreOther b o = ((b ≡ 9) × (o ≡ 32)) ⊎ ((b ≡ 32) × (o ≡ 9))

other_blank : (b o : ℕ) (before : List Piece) (us : List Glyph) → AreOther b o → IsIndentedBy o before → (IsIndentedBy 32 before × BeginsWith (9 ∷ []) (Char b ∷ us)) ⊎ (IsIndentedBy 9 before × BeginsWith (32 ∷ []) (Char b ∷ us))
other_blank b o before us (inl k) h = let P : ℕ → Type 0 = λ x. IsIndentedBy x before in inl (subst P k.1 h, (us, ap (λ x. Char x ∷ us) k.0))
other_blank b o before us (inr k) h = let P : ℕ → Type 0 = λ x. IsIndentedBy x before in inr (subst P k.1 h, (us, ap (λ x. Char x ∷ us) k.0))

blank_of : (b o : ℕ) → AreOther b o → (b ≡ 32) ⊎ ((b ≡ 9) ⊎ (b ≡ 13))
blank_of b o (inl k) = inr (inl k.0)
blank_of b o (inr k) = inl k.0

tokenless_front : (xs ys : List Piece) → is_logical (xs ++ ys) ≡ false → is_logical xs ≡ false
tokenless_front [] ys h = refl
tokenless_front (Blank c ∷ xs) ys h = tokenless_front xs ys h
tokenless_front (LineFeed ∷ xs) ys h = tokenless_front xs ys h
tokenless_front (Join end ∷ xs) ys h = tokenless_front xs ys h
tokenless_front (Comment cs ∷ xs) ys h = tokenless_front xs ys h
tokenless_front (Tok kind text ∷ xs) ys h = absurd (not_both true refl h)

tokenless_back : (xs ys : List Piece) → is_logical (xs ++ ys) ≡ false → is_logical ys ≡ false
tokenless_back [] ys h = h
tokenless_back (Blank c ∷ xs) ys h = tokenless_back xs ys h
tokenless_back (LineFeed ∷ xs) ys h = tokenless_back xs ys h
tokenless_back (Join end ∷ xs) ys h = tokenless_back xs ys h
tokenless_back (Comment cs ∷ xs) ys h = tokenless_back xs ys h
tokenless_back (Tok kind text ∷ xs) ys h = absurd (not_both true refl h)

-- the pieces behind the blank are of its line, and no tokens
lead_behind : (before after : List Piece) (b : ℕ) → (parted (before ++ Blank b ∷ after)).whole ≡ (parted before).whole → line (before ++ Blank b ∷ after) ≡ line before ++ Blank b ∷ after
    → is_logical (line (before ++ Blank b ∷ after)) ≡ false → All IsLead after
lead_behind before after b same_whole same_line none =
    let P = parted before in
    let state : parted (before ++ Blank b ∷ after) ≡ fold parted_behind (with_piece P (Blank b)) after = fold-append parted_behind (record { whole = []; rest = [] }) before (Blank b ∷ after) in
    let tokenless : is_logical (P.rest ++ Blank b ∷ after) ≡ false = ap is_logical (sym same_line) ∙ none in
    let low : level (P.rest ++ Blank b ∷ []) ≡ 0 = level_with P.rest (Blank b) ∙ idle_level 0 P.rest (tokenless_front P.rest (Blank b ∷ after) tokenless) in
    no_feeds (with_piece P (Blank b)) after low (tokenless_back P.rest (Blank b ∷ after) tokenless) (ap (λ s. s.whole) (sym state) ∙ same_whole)

pub first_mixed_blank : (file : ℕ) (bytes : List ℕ) (all : List Glyph) (before after : List Piece) (rest : List Glyph) (b o : ℕ) → IsFile bytes all → IsCut all (before ++ Blank b ∷ after) rest
    → All IsWithin (lines_of (before ++ Blank b ∷ after)) → AreBlocks (lines_of (before ++ Blank b ∷ after)) → (parted (before ++ Blank b ∷ after)).whole ≡ (parted before).whole
    → line (before ++ Blank b ∷ after) ≡ line before ++ Blank b ∷ after → is_logical (line (before ++ Blank b ∷ after)) ≡ false → AreOther b o → IndentBy o (lines_of before) → IsLedBy o (line before)
    → IsIndentedBy o before → HasToken rest → FirstFault file bytes (place_behind file (texts before)) rules.MixedIndentation
first_mixed_blank file bytes all before after rest b o read cut within matched same_whole same_line none other indented led by token =
    let parts = cut_parted before (Blank b ∷ after) all rest cut in
    let behind = parts.2 in
    let gs : List Glyph = Char b ∷ behind.0 in
    let C : List Glyph → Type 0 = λ t. IsCut all before t in
    let first : is_logical (line before) ≡ false = tokenless_front (line before) (Blank b ∷ after) (ap is_logical (sym same_line) ∙ none) in
    let W : List (List Piece) → Type 0 = λ t. All IsWithin t in
    let M : List (List Piece) → Type 0 = λ t. AreBlocks t in
    let lines : lines_of (before ++ Blank b ∷ after) ≡ (parted before).whole ++ (line before ++ Blank b ∷ after) ∷ [] = ap (λ w. w ++ line (before ++ Blank b ∷ after) ∷ []) same_whole ∙ ap (λ l. (parted before).whole ++ l ∷ []) same_line in
    let far : HasToken behind.0 = token_back after behind.0 rest (lead_behind before after b same_whole same_line none) behind.3 token in
    let ahead : HasToken gs = (far_blank b behind.0 (blank_of b o other)).1 far in
    first_mixed file bytes before gs
    (record {
      glyphs = all;
      read = read;
      cut = subst C behind.1 parts.1;
      within = last_within (parted before).whole (line before) (Blank b ∷ after) (subst W lines within);
      matched = last_blocks (parted before).whole (line before) (line before ++ Blank b ∷ after) first (subst M lines matched);
      blank = o;
      indented = indented;
      led = λ t. led;
    })
    (refl, first, ahead, other_blank b o before behind.0 other by)
