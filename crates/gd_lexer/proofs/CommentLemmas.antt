-- The first fault in the text of a comment.
use Rattle.std.proofs.Common.{◌≡◌, ◌≢◌, ℕ, List, [], ◌∷◌, ◌++◌, map, drop, slice_get, refl, ap, sym, ◌∙◌, subst, append_assoc, append-nil, false, true≢false, arith}
use Rattle.std.specs.Prelude.{Some, All}
use Rattle.std.proofs.lemmas.List.Elements.{All-head, All-nil, All-cons}
use Rattle.gd_syntax.specs.declared.pos.Pos.{Pos}
use Rattle.gd_rules.specs.declared.rule.Rule.{Rule}
use Rattle.gd_rules.specs.declared.rule.Rule.TheVariants.{NotUtf8, StrayCharacter}
use Rattle.gd_lexis.specs.declared.glyph.Glyph.{Glyph}
use Rattle.gd_lexis.specs.declared.glyph.Glyph.TheVariants.{Char, Bad}
use Rattle.gd_lexis.specs.Chars.{place_behind}
use Rattle.gd_lexis.specs.Pieces.{BeginsWith}
use Rattle.gd_lexis.specs.Faultless.{IsCommentFault}
use Rattle.gd_lexer.specs.declared.stop.Fault.{Fault}
use Rattle.gd_lexer.specs.declared.stop.Stop.{Stop}
use Rattle.gd_lexer.specs.declared.stop.Stop.TheVariants as stops
use Rattle.gd_lexer.specs.Cursor.{Spot, advanced, sees}
use Rattle.gd_lexer.specs.Cut.{GoesOnComment}
use Rattle.gd_lexer.specs.Stops.{StandsAt}
use Rattle.gd_lexer.specs.FirstFaults.{IsInText, StopsInText}
use Rattle.gd_lexer.proofs.CutLemmas.{next_is}
use Rattle.gd_lexer.proofs.EscapeMeets.{goes_one, rest_of}
use Rattle.gd_lexer.proofs.MarkMeets.{head_seen}

-- ---- a fault at the next glyph

text_here : (s : Spot) (f : Fault) (g : Glyph) → Some g ≡ slice_get s.glyphs 0 → IsCommentFault f.rule g → (f.rule ≡ StrayCharacter → BeginsWith (10 ∷ []) (drop 1 s.glyphs) → ⊥) → f.pos ≡ s.pos → IsInText s f
text_here s f g e wrong lone at = record {
  text = [];
  clean = All-nil (λ c. (c ≢ 10) × (c ≢ 13));
  glyph = g;
  back = drop 1 s.glyphs;
  split = head_seen s.glyphs g (sym e);
  wrong = wrong;
  lone = lone;
  place = λ file before p. at ∙ p ∙ ap (place_behind file) (sym (append-nil before));
}

not_stray : NotUtf8 ≡ StrayCharacter → ⊥
not_stray e = cc

pub bad_in_text : (s : Spot) (b : ℕ) (pos : Pos) (stop : Stop) → Some (Bad b) ≡ slice_get s.glyphs 0 → pos ≡ s.pos → StandsAt pos NotUtf8 stop → StopsInText s stop
bad_in_text s b pos (stops.Fault f) e here at =
    let P : Rule → Type 0 = λ r. IsCommentFault r (Bad b) in
    text_here s f (Bad b) e (subst P (sym at.1) (b, refl)) (λ r k. not_stray (sym at.1 ∙ r)) (at.0 ∙ here)
bad_in_text s b pos stops.NoMemory e here at = tt

second_not : (gs : List Glyph) → sees 10 gs 1 ≡ false → BeginsWith (10 ∷ []) (drop 1 gs) → ⊥
second_not [] e b = let f = b.1 in cc
second_not (g ∷ gs) e b = let P : List Glyph → Type 0 = λ t. sees 10 (g ∷ t) 1 ≡ false in true≢false (subst P b.1 e)

pub return_in_text : (s : Spot) (pos : Pos) (stop : Stop) → Some (Char 13) ≡ slice_get s.glyphs 0 → sees 10 s.glyphs 1 ≡ false → pos ≡ s.pos → StandsAt pos StrayCharacter stop → StopsInText s stop
return_in_text s pos (stops.Fault f) e alone here at =
    let P : Rule → Type 0 = λ r. IsCommentFault r (Char 13) in
    text_here s f (Char 13) e (subst P (sym at.1) refl) (λ r k. second_not s.glyphs alone k) (at.0 ∙ here)
return_in_text s pos stops.NoMemory e alone here at = tt

-- ---- a character before it

no_feed : (rule : Rule) (g : Glyph) → IsCommentFault rule g → g ≡ Char 10 → ⊥
no_feed NotUtf8 g h e = bad_feed h.0 (sym h.1 ∙ e)
  where
    bad_feed : (b : ℕ) → Bad b ≡ Char 10 → ⊥
    bad_feed b e = cc
no_feed StrayCharacter g h e = return_feed (sym h ∙ e)
  where
    code : Glyph → ℕ
    code (Char c) = c
    code (Bad b) = b

    return_feed : Char 13 ≡ Char 10 → ⊥
    return_feed e = thirteen 13 10 (ap code e) refl refl
      where
        thirteen : (m n : ℕ) → m ≡ n → m ≡ 13 → n ≡ 10 → ⊥
        thirteen m n e f g = omega arith
no_feed _ g h e = absurd h

first_not : (text : List ℕ) (rule : Rule) (g : Glyph) (back gs : List Glyph) → All (λ c. (c ≢ 10) × (c ≢ 13)) text → IsCommentFault rule g → gs ≡ map Char text ++ g ∷ back → slice_get gs 0 ≡ Some (Char 10) → ⊥
first_not [] rule g back gs clean wrong e f = no_feed rule g wrong (some_same g (Char 10) (ap (λ t. slice_get t 0) (sym e) ∙ f))
  where
    some_same : (x y : Glyph) → Some x ≡ Some y → x ≡ y
    some_same x y e = cc
first_not (c ∷ text) rule g back gs clean wrong e f = (All-head (λ c. (c ≢ 10) × (c ≢ 13)) c text clean).0 (char_same c 10 (ap (λ t. slice_get t 0) (sym e) ∙ f))
  where
    char_same : (x y : ℕ) → Some (Char x) ≡ Some (Char y) → x ≡ y
    char_same x y e = cc

pub text_before : (s t : Spot) (f : Fault) → GoesOnComment s.glyphs → t ≡ advanced s → IsInText t f → IsInText s f
text_before s t f on e k =
    let rest : t.glyphs ≡ drop 1 s.glyphs = ap (λ u. u.glyphs) e ∙ rest_of s (Char on.0) (drop 1 s.glyphs) on.1 in
    let goes = goes_one s (Char on.0) (drop 1 s.glyphs) on.1 in
    record {
      text = on.0 ∷ k.text;
      clean = All-cons (λ c. (c ≢ 10) × (c ≢ 13)) on.0 k.text (on.2, λ r. first_not k.text f.rule k.glyph k.back t.glyphs k.clean k.wrong k.split (ap (λ u. slice_get u 0) rest ∙ sym (next_is s.glyphs) ∙ on.3 r)) k.clean;
      glyph = k.glyph;
      back = k.back;
      split = on.1 ∙ ap (λ u. Char on.0 ∷ u) (sym rest ∙ k.split);
      wrong = k.wrong;
      lone = k.lone;
      place = λ file before p. k.place file (before ++ Char on.0 ∷ []) (ap (λ (u : Spot). u.pos) e ∙ goes.place file before p) ∙ ap (place_behind file) (append_assoc before (Char on.0 ∷ []) (map Char k.text));
    }
