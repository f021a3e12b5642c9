-- Where a piece stands next, each backslash of a string that is not raw begins an escape.
use Rattle.std.proofs.Common.{Bool, true, ◌≡◌, ◌≢◌, ℕ, false, List, [], ◌∷◌, ◌++◌, map, refl, ap, sym, ◌∙◌, inl, inr, arith, append_assoc, append-nil, ◌<◌, ◌≤◌, length, length-append}
use Rattle.std.specs.Prelude.{◌⊎◌}
use Rattle.std.proofs.lemmas.List.{append_cancel_left}
use Rattle.gd_rules.specs.declared.rule.Rule.TheVariants as rules
use Rattle.gd_lexis.specs.declared.glyph.Glyph.{Glyph}
use Rattle.gd_lexis.specs.declared.glyph.Glyph.TheVariants.{Char}
use Rattle.gd_lexis.specs.Strings.{Quote, IsQuote, opening, closing, IsEscape, Body}
use Rattle.gd_lexis.specs.Pieces.{Piece, BeginsWith}
use Rattle.gd_lexis.specs.Faults.{Inside, nothing as in_nothing, plain as in_plain, taken, Parts, no_more, itself, whole_escape, no_escape, Breaks}
use Rattle.gd_lexis.proofs.Escapes.{meant, one_escape}
use Rattle.gd_lexis.proofs.Bodies.{Part, a_plain, a_line_end, an_escape, a_kept, a_kept_line_end, Parted, none, first, parts_of, not_both}
use Rattle.gd_lexis.proofs.Cuts.{char_parts}
use Rattle.gd_lexis.proofs.Quotes.{closing_head, closings, raw, raw_body}
use Rattle.gd_lexis.proofs.Heads.{Front}
use Rattle.gd_lexis.proofs.Wholes.{string_here, joined_glyphs}

-- what is left of a body: it stands at a part, or in a line end
data Going (q : Quote) (cs : List ℕ) : Type 0 where
  at : (t : List ℕ) → Body q cs t → Going q cs
  half : (ds t : List ℕ) → cs ≡ 10 ∷ ds → Body q ds t → Going q cs

-- what is left of the file from there on
abbrev pub Left : Quote → List ℕ → List Glyph → List Glyph
Left q cs more = map Char cs ++ (map Char (closing q) ++ more)

glyph_tail : (g h : Glyph) (us vs : List Glyph) → g ∷ us ≡ h ∷ vs → us ≡ vs
glyph_tail g h us vs e = cc

glyph_head : (g h : Glyph) (us vs : List Glyph) → g ∷ us ≡ h ∷ vs → g ≡ h
glyph_head g h us vs e = cc

left_by : (q : Quote) (cs front rest : List ℕ) (more : List Glyph) → cs ≡ front ++ rest → Left q cs more ≡ map Char front ++ Left q rest more
left_by q cs front rest more e = ap (λ t. Left q t more) e ∙ joined_glyphs front rest (map Char (closing q) ++ more)

mark_not : (q : Quote) (c : ℕ) (us more : List Glyph) → IsQuote q → c ≢ 34 → c ≢ 39 → map Char (closing q) ++ more ≡ Char c ∷ us → ⊥
mark_not q c us more (inl m, k) h i e = h (sym (closing_head q.mark c us more (closing q) (closings q (inl m, k)) e) ∙ m)
mark_not q c us more (inr m, k) h i e = i (sym (closing_head q.mark c us more (closing q) (closings q (inr m, k)) e) ∙ m)

-- ---- at a backslash an escape stands

data Slash (q : Quote) (cs : List ℕ) : Type 0 where
  slash : (e s rest t : List ℕ) → IsEscape e s → cs ≡ e ++ rest → Body q rest t → Slash q cs

slash_part : (q : Quote) (cs front rest s t : List ℕ) (us more : List Glyph) → q.is_raw ≡ false → cs ≡ front ++ rest → Part q rest front s → Body q rest t → Char 92 ∷ us ≡ map Char front ++ Left q rest more
    → Slash q cs
slash_part q cs front rest s t us more r e (a_plain c h k l) b f = absurd (h (sym (char_parts 92 c us (Left q rest more) f).0))
slash_part q cs front rest s t us more r e a_line_end b f = let code = (char_parts 92 13 us (Char 10 ∷ Left q rest more) f).0 in absurd (omega (arith, code))
slash_part q cs front rest s t us more r e (an_escape x y h k) b f = slash x y rest t k e b
slash_part q cs front rest s t us more r e (a_kept c h k) b f = absurd (not_both q.is_raw h r)
slash_part q cs front rest s t us more r e (a_kept_line_end h) b f = absurd (not_both q.is_raw h r)

slash_parted : (q : Quote) (cs t : List ℕ) (us more : List Glyph) → IsQuote q → q.is_raw ≡ false → Parted q cs t → Char 92 ∷ us ≡ Left q cs more → Slash q cs
slash_parted q cs t us more h r (none e f) g = absurd (mark_not q 92 us more h (omega arith) (omega arith) (sym (g ∙ ap (λ x. Left q x more) e)))
slash_parted q cs t us more h r (first front s rest u e f p b) g = slash_part q cs front rest s u us more r e p b (g ∙ left_by q cs front rest more e)

at_slash : (q : Quote) (cs : List ℕ) (us more : List Glyph) → IsQuote q → q.is_raw ≡ false → Going q cs → Char 92 ∷ us ≡ Left q cs more → Slash q cs
at_slash q cs us more h r (at t b) e = slash_parted q cs t us more h r (parts_of q b) e
at_slash q cs us more h r (half ds t f b) e = let code = (char_parts 92 10 us (Left q ds more) (e ∙ ap (λ x. Left q x more) f)).0 in absurd (omega (arith, code))

-- ---- at another glyph the body goes on behind it

abbrev Behind : Quote → List Glyph → List Glyph → Type 0
Behind q us more = (ds : List ℕ) × Going q ds × (us ≡ Left q ds more)

other_part : (q : Quote) (front rest s t : List ℕ) (g : Glyph) (us more : List Glyph) → q.is_raw ≡ false → g ≢ Char 92 → Part q rest front s → Body q rest t → g ∷ us ≡ map Char front ++ Left q rest more → Behind q us more
other_part q front rest s t g us more r n (a_plain c h k l) b f = (rest, at t b, glyph_tail g (Char c) us (Left q rest more) f)
other_part q front rest s t g us more r n a_line_end b f = (10 ∷ rest, half rest t refl b, glyph_tail g (Char 13) us (Char 10 ∷ Left q rest more) f)
other_part q front rest s t g us more r n (an_escape x y h k) b f =
    let m = meant x y k in
    absurd (n (glyph_head g (Char 92) us (map Char (m.0 ∷ m.1) ++ Left q rest more) (f ∙ ap (λ z. map Char z ++ Left q rest more) m.2)))
other_part q front rest s t g us more r n (a_kept c h k) b f = absurd (not_both q.is_raw h r)
other_part q front rest s t g us more r n (a_kept_line_end h) b f = absurd (not_both q.is_raw h r)

other_parted : (q : Quote) (cs t : List ℕ) (g : Glyph) (us more : List Glyph) → q.is_raw ≡ false → g ≢ Char 92 → (g ∷ us ≡ map Char (closing q) ++ more → ⊥) → Parted q cs t → g ∷ us ≡ Left q cs more → Behind q us more
other_parted q cs t g us more r n l (none e f) h = absurd (l (h ∙ ap (λ x. Left q x more) e))
other_parted q cs t g us more r n l (first front s rest u e f p b) h = other_part q front rest s u g us more r n p b (h ∙ left_by q cs front rest more e)

at_other : (q : Quote) (cs : List ℕ) (g : Glyph) (us more : List Glyph) → q.is_raw ≡ false → g ≢ Char 92 → (g ∷ us ≡ map Char (closing q) ++ more → ⊥) → Going q cs → g ∷ us ≡ Left q cs more → Behind q us more
at_other q cs g us more r n l (at t b) e = other_parted q cs t g us more r n l (parts_of q b) e
at_other q cs g us more r n l (half ds t f b) e = (ds, at t b, glyph_tail g (Char 10) us (Left q ds more) (e ∙ ap (λ x. Left q x more) f))

-- ---- one of two texts with which the same glyphs begin goes on with the other

pub longer : (e f : List ℕ) (us vs : List Glyph) → map Char e ++ us ≡ map Char f ++ vs → ((x : List ℕ) × (f ≡ e ++ x)) ⊎ ((x : List ℕ) × (e ≡ f ++ x))
longer [] f us vs h = inl (f, refl)
longer (c ∷ e) [] us vs h = inr (c ∷ e, refl)
longer (c ∷ e) (d ∷ f) us vs h =
    let heads = char_parts c d (map Char e ++ us) (map Char f ++ vs) h in
    let head : c ≡ d = heads.0 in
    again c d e f head (longer e f us vs heads.1)
  where
    again : (c d : ℕ) (e f : List ℕ) → c ≡ d → ((x : List ℕ) × (f ≡ e ++ x)) ⊎ ((x : List ℕ) × (e ≡ f ++ x)) → ((x : List ℕ) × (d ∷ f ≡ c ∷ e ++ x)) ⊎ ((x : List ℕ) × (c ∷ e ≡ d ∷ f ++ x))
    again c d e f same (inl h) = inl (h.0, ap (λ y. y ∷ f) (sym same) ∙ ap (λ t. c ∷ t) h.1)
    again c d e f same (inr h) = inr (h.0, ap (λ y. y ∷ e) same ∙ ap (λ t. d ∷ t) h.1)

pub escapes_same : (e f s t : List ℕ) → IsEscape e s → IsEscape f t → ((x : List ℕ) × (f ≡ e ++ x)) ⊎ ((x : List ℕ) × (e ≡ f ++ x)) → e ≡ f
escapes_same e f s t h k (inl x) = (one_escape e f s t x.0 [] h k (sym x.1 ∙ sym (append-nil f))).0
escapes_same e f s t h k (inr x) = (one_escape e f s t [] x.0 h k (append-nil e ∙ x.1)).0

-- ---- the walk

slash_ends : (q : Quote) (cs : List ℕ) (gs more : List Glyph) → gs ≡ Left q cs more → ((e s : List ℕ) → IsEscape e s → BeginsWith e gs → ⊥) → Slash q cs → ⊥
slash_ends q cs gs more e unescaped (slash x s rest t k f b) = unescaped x s k (Left q rest more, e ∙ left_by q cs x rest more f)

slash_on : (q : Quote) (e s cs : List ℕ) (us more : List Glyph) → IsEscape e s → map Char e ++ us ≡ Left q cs more → Slash q cs → Behind q us more
slash_on q e s cs us more h f (slash x y rest t k g b) =
    let glyphs : map Char e ++ us ≡ map Char x ++ Left q rest more = f ∙ left_by q cs x rest more g in
    let same : e ≡ x = escapes_same e x s y h k (longer e x us (Left q rest more) glyphs) in
    (rest, at t b, append_cancel_left (map Char e) us (Left q rest more) (glyphs ∙ ap (λ z. map Char z ++ Left q rest more) (sym same)))

-- the end does not stand before a backslash that more follows than the end
not_there : (q : Quote) (g : Glyph) (gs back more : List Glyph) → length (map Char (closing q) ++ more) < length (Char 92 ∷ back) → g ∷ (gs ++ Char 92 ∷ back) ≡ map Char (closing q) ++ more → ⊥
not_there q g gs back more less e =
    let sizes : length (g ∷ (gs ++ Char 92 ∷ back)) ≡ length (map Char (closing q) ++ more) = ap length e in
    omega (arith, sizes, length-append gs (Char 92 ∷ back))

clash : (q : Quote) (back more : List Glyph) (cs : List ℕ) {front : List Glyph} → IsQuote q → q.is_raw ≡ false → Parts (Char 92 ∷ back) front → Going q cs
    → front ++ Char 92 ∷ back ≡ Left q cs more → length (map Char (closing q) ++ more) < length (Char 92 ∷ back) → ((e s : List ℕ) → IsEscape e s → BeginsWith e (Char 92 ∷ back) → ⊥) → ⊥
clash q back more cs h r no_more k e less unescaped = slash_ends q cs (Char 92 ∷ back) more e unescaped (at_slash q cs back more h r k e)
clash q back more cs h r (itself g gs n i) k e less unescaped =
    let b = at_other q cs g (gs ++ Char 92 ∷ back) more r n (not_there q g gs back more less) k e in
    clash q back more b.0 h r i b.1 b.2 less unescaped
clash q back more cs h r (whole_escape x s gs l i) k e less unescaped =
    let m = meant x s l in
    let glyphs : map Char x ++ (gs ++ Char 92 ∷ back) ≡ Left q cs more = sym (append_assoc (map Char x) gs (Char 92 ∷ back)) ∙ e in
    let begun : Char 92 ∷ map Char (m.0 ∷ m.1) ++ (gs ++ Char 92 ∷ back) ≡ Left q cs more = ap (λ z. map Char z ++ (gs ++ Char 92 ∷ back)) (sym m.2) ∙ glyphs in
    let b = slash_on q x s cs (gs ++ Char 92 ∷ back) more l glyphs (at_slash q cs (map Char (m.0 ∷ m.1) ++ (gs ++ Char 92 ∷ back)) more h r k begun) in
    clash q back more b.0 h r i b.1 b.2 less unescaped
clash q back more cs h r (no_escape g gs l i) k e less unescaped =
    slash_ends q cs (Char 92 ∷ g ∷ (gs ++ Char 92 ∷ back)) more e l (at_slash q cs (g ∷ (gs ++ Char 92 ∷ back)) more h r k e)

-- ---- the ends of a whole string stand where the token's do

-- what is left of a raw body, by parts of one or two glyphs
raw_step : (q : Quote) (front rest s t : List ℕ) (g : Glyph) (us more : List Glyph) → q.is_raw ≡ true → g ≢ Char 92 → Part q rest front s → Body q rest t → g ∷ us ≡ map Char front ++ Left q rest more → Behind q us more
raw_step q front rest s t g us more r n (a_plain c h k l) b f = (rest, at t b, glyph_tail g (Char c) us (Left q rest more) f)
raw_step q front rest s t g us more r n a_line_end b f = (10 ∷ rest, half rest t refl b, glyph_tail g (Char 13) us (Char 10 ∷ Left q rest more) f)
raw_step q front rest s t g us more r n (an_escape x y h k) b f = absurd (not_both q.is_raw r h)
raw_step q front rest s t g us more r n (a_kept c h k) b f = absurd (n (glyph_head g (Char 92) us (Char c ∷ Left q rest more) f))
raw_step q front rest s t g us more r n (a_kept_line_end h) b f = absurd (n (glyph_head g (Char 92) us (Char 13 ∷ Char 10 ∷ Left q rest more) f))

raw_parted : (q : Quote) (cs t : List ℕ) (g : Glyph) (us more : List Glyph) → q.is_raw ≡ true → g ≢ Char 92 → (BeginsWith (closing q) (g ∷ us) → ⊥) → Parted q cs t → g ∷ us ≡ Left q cs more → Behind q us more
raw_parted q cs t g us more r n l (none e f) h = absurd (l (more, h ∙ ap (λ x. Left q x more) e))
raw_parted q cs t g us more r n l (first front s rest u e f p b) h = raw_step q front rest s u g us more r n p b (h ∙ left_by q cs front rest more e)

raw_other : (q : Quote) (cs : List ℕ) (g : Glyph) (us more : List Glyph) → q.is_raw ≡ true → g ≢ Char 92 → (BeginsWith (closing q) (g ∷ us) → ⊥) → Going q cs → g ∷ us ≡ Left q cs more → Behind q us more
raw_other q cs g us more r n l (at t b) e = raw_parted q cs t g us more r n l (parts_of q b) e
raw_other q cs g us more r n l (half ds t f b) e = (ds, at t b, glyph_tail g (Char 10) us (Left q ds more) (e ∙ ap (λ x. Left q x more) f))

raw_taken : (q : Quote) (front rest s t : List ℕ) (g : Glyph) (us more : List Glyph) → q.is_raw ≡ true → Part q rest front s → Body q rest t → Char 92 ∷ g ∷ us ≡ map Char front ++ Left q rest more → Behind q us more
raw_taken q front rest s t g us more r (a_plain c h k l) b f = absurd (h (sym (char_parts 92 c (g ∷ us) (Left q rest more) f).0))
raw_taken q front rest s t g us more r a_line_end b f = let code = (char_parts 92 13 (g ∷ us) (Char 10 ∷ Left q rest more) f).0 in absurd (omega (arith, code))
raw_taken q front rest s t g us more r (an_escape x y h k) b f = absurd (not_both q.is_raw r h)
raw_taken q front rest s t g us more r (a_kept c h k) b f = (rest, at t b, glyph_tail g (Char c) us (Left q rest more) (glyph_tail (Char 92) (Char 92) (g ∷ us) (Char c ∷ Left q rest more) f))
raw_taken q front rest s t g us more r (a_kept_line_end h) b f =
    (10 ∷ rest, half rest t refl b, glyph_tail g (Char 13) us (Char 10 ∷ Left q rest more) (glyph_tail (Char 92) (Char 92) (g ∷ us) (Char 13 ∷ Char 10 ∷ Left q rest more) f))

taken_parted : (q : Quote) (cs t : List ℕ) (g : Glyph) (us more : List Glyph) → IsQuote q → q.is_raw ≡ true → Parted q cs t → Char 92 ∷ g ∷ us ≡ Left q cs more → Behind q us more
taken_parted q cs t g us more h r (none e f) i = absurd (mark_not q 92 (g ∷ us) more h (omega arith) (omega arith) (sym (i ∙ ap (λ x. Left q x more) e)))
taken_parted q cs t g us more h r (first front s rest u e f p b) i = raw_taken q front rest s u g us more r p b (i ∙ left_by q cs front rest more e)

taken_on : (q : Quote) (cs : List ℕ) (g : Glyph) (us more : List Glyph) → IsQuote q → q.is_raw ≡ true → Going q cs → Char 92 ∷ g ∷ us ≡ Left q cs more → Behind q us more
taken_on q cs g us more h r (at t b) e = taken_parted q cs t g us more h r (parts_of q b) e
taken_on q cs g us more h r (half ds t f b) e = let code = (char_parts 92 10 (g ∷ us) (Left q ds more) (e ∙ ap (λ x. Left q x more) f)).0 in absurd (omega (arith, code))

-- no end stands inside, so what follows the token's end is no longer than what follows the string's
ends_no_later : (q : Quote) (end more : List Glyph) (cs : List ℕ) {body : List Glyph} → IsQuote q → q.is_raw ≡ true → Inside q end body → Going q cs → body ++ end ≡ Left q cs more
    → length (map Char (closing q) ++ more) ≤ length end
ends_no_later q end more cs h r in_nothing k e =
    let sizes : length end ≡ length (Left q cs more) = ap length e in
    omega (arith, sizes, length-append (map Char cs) (map Char (closing q) ++ more))
ends_no_later q end more cs h r (in_plain g gs n l i) k e = let b = raw_other q cs g (gs ++ end) more r n l k e in ends_no_later q end more b.0 h r i b.1 b.2
ends_no_later q end more cs h r (taken g gs i) k e = let b = taken_on q cs g (gs ++ end) more h r k e in ends_no_later q end more b.0 h r i b.1 b.2

-- what stands between the ends does not ask whether the string is raw
as_raw : (q : Quote) (end : List Glyph) {body : List Glyph} → Inside q end body → Inside (raw q) end body
as_raw q end in_nothing = in_nothing
as_raw q end (in_plain g gs n l i) = in_plain g gs n l (as_raw q end i)
as_raw q end (taken g gs i) = taken g gs (as_raw q end i)

-- no string that begins here ends later than the one that stands here
pub ends_first : (q : Quote) (body t : List ℕ) (more end inner : List Glyph) → IsQuote q → Body q body t → Inside q end inner → inner ++ end ≡ Left q body more
    → length (map Char (closing q) ++ more) ≤ length end
ends_first q body t more end inner h b i e = by_kind q.is_raw refl
  where
    by_kind : (r : Bool) → q.is_raw ≡ r → length (map Char (closing q) ++ more) ≤ length end
    by_kind true r = ends_no_later q end more body h r i (at t b) e
    by_kind false r = let raw_one = raw_body q h r b in ends_no_later (raw q) end more body h refl (as_raw q end i) (at raw_one.0 raw_one.1) e

shorter : (body front end back closed : List Glyph) → body ++ end ≡ front ++ Char 92 ∷ back → length front < length body → length closed ≤ length end → length closed < length (Char 92 ∷ back)
shorter body front end back closed e less most =
    let sizes : length (body ++ end) ≡ length (front ++ Char 92 ∷ back) = ap length e in
    omega (arith, sizes, length-append body end, length-append front (Char 92 ∷ back))

pub bad_escape : (before : List Piece) (gs ahead : List Glyph) (ps : List Piece) → Front gs ps → Breaks rules.BadEscape before gs ahead → ⊥
bad_escape before gs ahead ps cut k =
    let q = k.0 in
    let end = map Char (closing q) ++ k.2 in
    let f = string_here q gs ps k.5.0 cut in
    let same : k.1 ++ end ≡ Left q f.0 f.2 = append_cancel_left (map Char (opening q)) (k.1 ++ end) (Left q f.0 f.2) (sym k.5.1 ∙ f.4) in
    let most : length (map Char (closing q) ++ f.2) ≤ length end = ends_first q f.0 f.1 f.2 end k.1 k.5.0.0 f.3 k.5.2 same in
    clash q k.4 f.2 f.0 k.5.0.0 k.6 k.9 (at f.1 f.3) (sym k.8 ∙ same) (shorter k.1 k.3 end k.4 (map Char (closing q) ++ f.2) k.8 k.10 most) k.11
