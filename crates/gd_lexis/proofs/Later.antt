-- Where no rule is broken before some place, the first fault is the first of those from there on.
use Rattle.std.proofs.Common.{◌≡◌, ℕ, ◌≤◌, ◌<◌, List, [], ◌∷◌, ◌++◌, length, map, refl, ap, sym, ◌∙◌, subst, inl, inr, arith, append_assoc, append-nil, length-append}
use Rattle.std.specs.Prelude.{◌⊎◌}
use Rattle.gd_syntax.specs.declared.pos.Pos.{Pos}
use Rattle.gd_rules.specs.declared.rule.Rule.{Rule}
use Rattle.gd_lexis.specs.declared.glyph.Glyph.{Glyph}
use Rattle.gd_lexis.specs.declared.glyph.Glyph.TheVariants.{Char}
use Rattle.gd_lexis.specs.Chars.{place_behind}
use Rattle.gd_lexis.specs.Pieces.{Piece, text_of, IsCut}
use Rattle.gd_lexis.specs.Lines.{texts}
use Rattle.gd_lexis.specs.Faults.{Breaks, IsBroken, IsBefore, FirstFault, number}
use Rattle.gd_lexis.specs.Faultless.{IsFaultless}
use Rattle.gd_lexis.proofs.Lists.{same_parts}
use Rattle.gd_lexis.proofs.Places.{fronts_order, later}
use Rattle.gd_lexis.proofs.Cuts.{one_file, Compared, further, nearer, compare_cuts, cut_texts, piece_begins}
use Rattle.gd_lexis.proofs.Faultless.{unbroken}
use Rattle.gd_lexis.proofs.Sites.{front_of_left}

-- the texts of pieces, in order
texts_append : (ps qs : List Piece) → texts (ps ++ qs) ≡ texts ps ++ texts qs
texts_append [] qs = refl
texts_append (p ∷ ps) qs = ap (λ t. text_of p ++ t) (texts_append ps qs) ∙ sym (append_assoc (text_of p) (texts ps) (texts qs))

-- the rule is broken behind these further pieces, at this front of what is left then
pub record IsFurther (before : List Piece) (gs : List Glyph) (rule : Rule) (back : List Piece) (rest ahead : List Glyph) : Type 0 where
  pub cut : IsCut gs back rest
  pub broken : Breaks rule (before ++ back) rest ahead

-- every break of a rule stands at what is left or behind it
pub data Later (file : ℕ) (before : List Piece) (gs : List Glyph) (rule : Rule) (at : Pos) : Type 0 where
  later_at : (back : List Piece) (rest ahead : List Glyph) → IsFurther before gs rule back rest ahead → at ≡ place_behind file (texts before ++ (texts back ++ ahead)) → Later file before gs rule at

by_cuts : (file : ℕ) (bytes : List ℕ) (before other : List Piece) (gs rest ahead : List Glyph) (rule : Rule) (at : Pos) → IsFaultless bytes before gs → Breaks rule other rest ahead
    → at ≡ place_behind file (texts other ++ ahead) → Compared before other gs rest → Later file before gs rule at
by_cuts file bytes before other gs rest ahead rule at h k e (further back f cut) =
    let P : List Piece → Type 0 = λ t. Breaks rule t rest ahead in
    let place : texts other ++ ahead ≡ texts before ++ (texts back ++ ahead) = ap (λ t. t ++ ahead) (ap texts f ∙ texts_append before back) ∙ append_assoc (texts before) (texts back) ahead in
    later_at back rest ahead (record { cut = cut; broken = subst P f k }) (e ∙ ap (place_behind file) place)
by_cuts file bytes before other gs rest ahead rule at h k e (nearer p back f cut) =
    absurd (unbroken rule other rest ahead gs p back before h.blank cut f h.within h.matched h.indented h.led k)

pub nothing_before : (file : ℕ) (bytes : List ℕ) (before : List Piece) (gs : List Glyph) (rule : Rule) (at : Pos) → IsFaultless bytes before gs → IsBroken file bytes rule at → Later file before gs rule at
nothing_before file bytes before gs rule at h k =
    let glyphs : h.glyphs ≡ k.0 = one_file bytes h.glyphs k.0 h.read k.4 in
    let P : List Glyph → Type 0 = λ t. IsCut t before gs in
    by_cuts file bytes before k.1 gs k.2 k.3 rule at h k.6 k.7 (compare_cuts before k.1 k.0 gs k.2 (subst P glyphs h.cut) k.5)

-- ---- the first of those from here on

-- the front comes first, or both are one and the rule comes first
abbrev pub IsNoLater : List Glyph → Rule → List Glyph → Rule → Type 0
IsNoLater ahead rule front other = (length ahead < length front) ⊎ ((length ahead ≡ length front) × (number rule ≤ number other))

ordered : (file : ℕ) (xs ls ms us vs : List Glyph) (m n : ℕ) → ls ++ us ≡ ms ++ vs → (length ls < length ms) ⊎ ((length ls ≡ length ms) × (m ≤ n))
    → IsBefore (place_behind file (xs ++ ls)) (place_behind file (xs ++ ms)) ⊎ ((place_behind file (xs ++ ms) ≡ place_behind file (xs ++ ls)) × (m ≤ n))
ordered file xs ls ms us vs m n e (inl h) = inl (fronts_order file xs ls ms us vs e h)
ordered file xs ls ms us vs m n e (inr h) = inr (ap (λ t. place_behind file (xs ++ t)) (sym (same_parts ls ms us vs h.0 e).0), h.1)

first_by : (file : ℕ) (before : List Piece) (gs ahead : List Glyph) (rule other : Rule) (place : Pos) → Breaks rule before gs ahead
    → ((back : List Piece) (rest front : List Glyph) → IsFurther before gs other back rest front → IsNoLater ahead rule (texts back ++ front) other) → Later file before gs other place
    → IsBefore (place_behind file (texts before ++ ahead)) place ⊎ ((place ≡ place_behind file (texts before ++ ahead)) × (number rule ≤ number other))
first_by file before gs ahead rule other place k order (later_at back rest front h e) =
    let this = front_of_left rule before gs ahead k in
    let that = front_of_left other (before ++ back) rest front h.broken in
    let glyphs : ahead ++ this.0 ≡ (texts back ++ front) ++ that.0 =
    sym this.1 ∙ cut_texts back gs rest h.cut ∙ ap (λ t. texts back ++ t) that.1 ∙ sym (append_assoc (texts back) front that.0) in
    let at = place_behind file (texts before ++ ahead) in
    let P : Pos → Type 0 = λ p. IsBefore at p ⊎ ((p ≡ at) × (number rule ≤ number other)) in
    subst P (sym e) (ordered file (texts before) ahead (texts back ++ front) this.0 that.0 (number rule) (number other) glyphs (order back rest front h))

pub first_from : (file : ℕ) (bytes : List ℕ) (before : List Piece) (gs ahead : List Glyph) (rule : Rule) → IsFaultless bytes before gs → Breaks rule before gs ahead
    → ((other : Rule) (back : List Piece) (rest front : List Glyph) → IsFurther before gs other back rest front → IsNoLater ahead rule (texts back ++ front) other)
    → FirstFault file bytes (place_behind file (texts before ++ ahead)) rule
first_from file bytes before gs ahead rule h k order = record {
  broken = (h.glyphs, before, gs, ahead, h.read, h.cut, k, refl);
  first = λ other place b. first_by file before gs ahead rule other place k (order other) (nothing_before file bytes before gs other place h b);
}

-- ---- at what is left, with nothing ahead

long_text : (p : Piece) (us : List Glyph) → (c : ℕ) × (more : List ℕ) × (text_of p ≡ Char c ∷ map Char more) → 0 < length (text_of p)
long_text p us b = let size : length (text_of p) ≡ length (Char b.0 ∷ map Char b.1) = ap length b.2 in omega arith

no_later : (rule other : Rule) (before back : List Piece) (gs rest front : List Glyph) → ((o : Rule) → Breaks o before gs [] → number rule ≤ number o) → IsFurther before gs other back rest front
    → IsNoLater [] rule (texts back ++ front) other
no_later rule other before [] gs rest [] least h =
    let P : List Piece → Type 0 = λ t. Breaks other t rest [] in
    let Q : List Glyph → Type 0 = λ t. Breaks other before t [] in
    inr (refl, least other (subst Q (sym h.cut) (subst P (append-nil before) h.broken)))
no_later rule other before [] gs rest (g ∷ front) least h = inl (omega arith)
no_later rule other before (p ∷ back) gs rest front least h =
    inl (omega (arith, long_text p h.cut.0 (piece_begins p h.cut.0 h.cut.2), length-append (text_of p ++ texts back) front, length-append (text_of p) (texts back)))

-- the least rule that is broken at what is left is the first fault
pub first_here : (file : ℕ) (bytes : List ℕ) (before : List Piece) (gs : List Glyph) (rule : Rule) → IsFaultless bytes before gs → Breaks rule before gs []
    → ((other : Rule) → Breaks other before gs [] → number rule ≤ number other) → FirstFault file bytes (place_behind file (texts before)) rule
first_here file bytes before gs rule h k least =
    let P : List Glyph → Type 0 = λ t. FirstFault file bytes (place_behind file t) rule in
    subst P (append-nil (texts before)) (first_from file bytes before gs [] rule h k (λ other back rest front further_one. no_later rule other before back gs rest front least further_one))

-- ---- inside what is left, where no piece stands next

inside : (rule other : Rule) (before back : List Piece) (gs ahead rest front : List Glyph) → ((p : Piece) (ps : List Piece) (end : List Glyph) → IsCut gs (p ∷ ps) end → ⊥)
    → ((o : Rule) (at : List Glyph) → Breaks o before gs at → IsNoLater ahead rule at o) → IsFurther before gs other back rest front → IsNoLater ahead rule (texts back ++ front) other
inside rule other before [] gs ahead rest front none least h =
    let P : List Piece → Type 0 = λ t. Breaks other t rest front in
    let Q : List Glyph → Type 0 = λ t. Breaks other before t front in
    least other front (subst Q (sym h.cut) (subst P (append-nil before) h.broken))
inside rule other before (p ∷ back) gs ahead rest front none least h = absurd (none p back rest h.cut)

-- the first break inside what is left, and there the least rule, is the first fault
pub first_inside : (file : ℕ) (bytes : List ℕ) (before : List Piece) (gs ahead : List Glyph) (rule : Rule) → IsFaultless bytes before gs → Breaks rule before gs ahead
    → ((p : Piece) (ps : List Piece) (end : List Glyph) → IsCut gs (p ∷ ps) end → ⊥) → ((other : Rule) (front : List Glyph) → Breaks other before gs front → IsNoLater ahead rule front other)
    → FirstFault file bytes (place_behind file (texts before ++ ahead)) rule
first_inside file bytes before gs ahead rule h k none least =
    first_from file bytes before gs ahead rule h k (λ other back rest front further_one. inside rule other before back gs ahead rest front none least further_one)

-- ---- no rule is broken before what is left

there_or_later : (file : ℕ) (xs ys : List Glyph) (at : Pos) → at ≡ place_behind file (xs ++ ys) → (at ≡ place_behind file xs) ⊎ IsBefore (place_behind file xs) at
there_or_later file xs [] at e = inl (e ∙ ap (place_behind file) (append-nil xs))
there_or_later file xs (g ∷ ys) at e = let P : Pos → Type 0 = IsBefore (place_behind file xs) in inr (subst P (sym e) (later file xs g ys))

not_before : (file : ℕ) (before : List Piece) (gs : List Glyph) (rule : Rule) (at : Pos) → Later file before gs rule at
    → (at ≡ place_behind file (texts before)) ⊎ IsBefore (place_behind file (texts before)) at
not_before file before gs rule at (later_at back rest ahead h e) = there_or_later file (texts before) (texts back ++ ahead) at e

pub no_fault_before : (file : ℕ) (bytes : List ℕ) (before : List Piece) (gs : List Glyph) (rule : Rule) (at : Pos) → IsFaultless bytes before gs → IsBroken file bytes rule at
    → (at ≡ place_behind file (texts before)) ⊎ IsBefore (place_behind file (texts before)) at
no_fault_before file bytes before gs rule at h k = not_before file before gs rule at (nothing_before file bytes before gs rule at h k)
