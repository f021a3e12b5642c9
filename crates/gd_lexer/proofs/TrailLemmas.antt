-- A stray character that was put off stays so, up to the end of its line.
use Rattle.std.proofs.Common.{◌≡◌, ℕ, Bool, true, false, nat_lt, List, [], ◌∷◌, drop, length, slice_get, refl, ap, sym, ◌∙◌, subst, inl, inr, true≢false}
use Rattle.std.specs.Prelude.{◌⊎◌, Option, Some, None, IfSome}
use Rattle.gd_syntax.specs.declared.pos.Pos.{Pos}
use Rattle.gd_rules.specs.declared.rule.Rule.{Rule}
use Rattle.gd_rules.specs.declared.rule.Rule.TheVariants as rules
use Rattle.gd_lexis.specs.declared.glyph.Glyph.{Glyph}
use Rattle.gd_lexis.specs.declared.glyph.Glyph.TheVariants.{Char}
use Rattle.gd_lexis.specs.Faults.{IsStray}
use Rattle.gd_lexis.specs.Faultless.{IsAsFar}
use Rattle.gd_lexis.proofs.Ahead.{far_further, far_blank, far_join, far_bad, far_stray}
use Rattle.gd_lexer.specs.declared.lines.Blank.{Blank}
use Rattle.gd_lexer.specs.declared.lines.Blank.TheVariants as blanks
use Rattle.gd_lexer.specs.declared.lines.Lead.{Lead}
use Rattle.gd_lexer.specs.declared.lexer.Lexer.{Lexer}
use Rattle.gd_lexer.specs.declared.stop.Fault.{Fault}
use Rattle.gd_lexer.specs.Cursor.{sees}
use Rattle.gd_lexer.specs.Cut.{code_of}
use Rattle.gd_lexer.specs.Begun.{line}
use Rattle.gd_lexer.specs.Blanks.{IsMixed}
use Rattle.gd_lexer.specs.Brackets.{items_of}
use Rattle.gd_lexer.specs.Lines.{MixedBy, LeadBy, is_of}
use Rattle.gd_lexer.specs.Laid.{Holds}
use Rattle.gd_lexer.specs.PutOff.{first_of}
use Rattle.gd_lexer.specs.FirstFaults.{Strays, IsPutOff, KeepsTrail}
use Rattle.gd_lexer.proofs.BoundLemmas.{shut_items}
use Rattle.gd_lexer.proofs.CutLemmas.{second_is, third_is}
use Rattle.gd_lexer.proofs.MarkMeets.{head_seen}

-- ---- what is kept of the line and the brackets

-- the new state keeps what was put off
pub record Carries (old new : Lexer) : Type 0 where
  pub mixed : (m : Fault) → old.lines.lead.mixed ≡ Some m → new.lines.lead.mixed ≡ Some m
  pub shut : old.lines.is_open ≡ false → new.lines.is_open ≡ false
  pub items_are : items_of new.brackets ≡ items_of old.brackets
  pub far : IsAsFar old.cursor.glyphs new.cursor.glyphs

carried : (file : ℕ) (all : List Glyph) (old new : Lexer) (f : Fault) → Carries old new → IsPutOff file all old f → IsPutOff file all new f
carried file all old new f c h = record {
  pieces = h.pieces;
  rest = h.rest;
  cut = h.cut;
  within = h.within;
  matched = h.matched;
  strays = h.strays;
  at = h.at;
  blank = h.blank;
  mixed = c.mixed h.blank h.mixed;
  blank_is = h.blank_is;
  shut = c.shut h.shut;
  idle = c.items_are ∙ h.idle;
  far = far_further h.rest old.cursor.glyphs new.cursor.glyphs h.far c.far;
}

by_option : (file : ℕ) (all : List Glyph) (old new : Lexer) (o : Option Fault) → Carries old new → IfSome o (IsPutOff file all old) → IfSome o (IsPutOff file all new)
by_option file all old new None c h = tt
by_option file all old new (Some f) c h = carried file all old new f c h

pub trail_on : (old new : Lexer) → new.lines.lead.hidden ≡ old.lines.lead.hidden → Carries old new → KeepsTrail old new
trail_on old new e c file all holds h =
    let P : Option Fault → Type 0 = λ o. IfSome o (IsPutOff file all new) in
    subst P (sym e) (by_option file all old new old.lines.lead.hidden c h)

pub trail_none : (old new : Lexer) → new.lines.lead.hidden ≡ None → KeepsTrail old new
trail_none old new e file all holds h = let P : Option Fault → Type 0 = λ o. IfSome o (IsPutOff file all new) in subst P (sym e) tt

-- ---- glyphs that are gone over

far_at : (gs hs is : List Glyph) → gs ≡ hs → IsAsFar hs is → IsAsFar gs is
far_at gs hs is e h = let P : List Glyph → Type 0 = λ t. IsAsFar t is in subst P (sym e) h

far_to : (gs hs is : List Glyph) → is ≡ hs → IsAsFar gs hs → IsAsFar gs is
far_to gs hs is e h = let P : List Glyph → Type 0 = λ t. IsAsFar gs t in subst P (sym e) h

pub one_far : (c : ℕ) (gs hs : List Glyph) → (c ≡ 32) ⊎ ((c ≡ 9) ⊎ (c ≡ 13)) → Some (Char c) ≡ slice_get gs 0 → hs ≡ drop 1 gs → IsAsFar gs hs
one_far c gs hs h e f = far_to gs (drop 1 gs) hs f (far_at gs (Char c ∷ drop 1 gs) (drop 1 gs) (head_seen gs (Char c) (sym e)) (far_blank c (drop 1 gs) h))

pub join_far : (gs hs : List Glyph) → Some (Char 92) ≡ slice_get gs 0 → sees 10 gs 1 ≡ true → hs ≡ drop 2 gs → IsAsFar gs hs
join_far gs hs e f g = far_to gs (drop 2 gs) hs g (far_at gs (Char 92 ∷ Char 10 ∷ drop 2 gs) (drop 2 gs) (second_is gs 92 10 e f) (far_join (10 ∷ []) (drop 2 gs) (inl refl)))

pub join_return_far : (gs hs : List Glyph) → Some (Char 92) ≡ slice_get gs 0 → sees 13 gs 1 ≡ true → sees 10 gs 2 ≡ true → hs ≡ drop 3 gs → IsAsFar gs hs
join_return_far gs hs e f k g = far_to gs (drop 3 gs) hs g (far_at gs (Char 92 ∷ Char 13 ∷ Char 10 ∷ drop 3 gs) (drop 3 gs) (third_is gs 92 13 10 e f k) (far_join (13 ∷ 10 ∷ []) (drop 3 gs) (inr refl)))

strays_far : (rule : Rule) (gs : List Glyph) → Strays rule gs → IsAsFar gs (drop 1 gs)
strays_far rules.NotUtf8 gs s =
    let P : List Glyph → Type 0 = λ t. IsAsFar t (drop 1 t) in
    subst P (sym s.2) (far_bad s.0 s.1)
strays_far rules.StrayCharacter gs s =
    let P : List Glyph → Type 0 = λ t. IsAsFar t (drop 1 t) in
    let Q : List Glyph → Type 0 = IsStray in
    subst P (sym s.1.1) (far_stray s.0 s.1.0 (subst Q s.1.1 s))
strays_far _ gs s = absurd s

-- ---- a blank

stays_mixed : (same : Bool) (pos : Pos) (old new : Option Fault) (m : Fault) → MixedBy same pos old new → old ≡ Some m → new ≡ Some m
stays_mixed same pos old new m h e = let P : Option Fault → Type 0 = λ o. MixedBy same pos o new in by_some same (subst P e h)
  where
    by_some : (b : Bool) → MixedBy b pos (Some m) new → new ≡ Some m
    by_some true k = k
    by_some false k = k

lead_mixed : (b : Bool) (blank : Blank) (pos : Pos) (old new : Lead) (m : Fault) → LeadBy b blank pos old new → old.mixed ≡ Some m → new.mixed ≡ Some m
lead_mixed true blank pos old new m h e = ap (λ (l : Lead). l.mixed) h ∙ e
lead_mixed false blank pos old new m h e = stays_mixed (is_of old.kind blank) pos old.mixed new.mixed m h.2 e

lead_hidden : (b : Bool) (blank : Blank) (pos : Pos) (old new : Lead) → LeadBy b blank pos old new → new.hidden ≡ old.hidden
lead_hidden true blank pos old new h = ap (λ (l : Lead). l.hidden) h
lead_hidden false blank pos old new h = h.3

blank_code : (b : Blank) → (code_of b ≡ 32) ⊎ ((code_of b ≡ 9) ⊎ (code_of b ≡ 13))
blank_code blanks.Space = inl refl
blank_code blanks.Tab = inr (inl refl)

pub blank_trail : (old new : Lexer) (blank : Blank) (pos : Pos) → LeadBy old.lines.is_open blank pos old.lines.lead new.lines.lead → new.lines.is_open ≡ old.lines.is_open → items_of new.brackets ≡ items_of old.brackets
    → Some (Char (code_of blank)) ≡ slice_get old.cursor.glyphs 0 → new.cursor.glyphs ≡ drop 1 old.cursor.glyphs → KeepsTrail old new
blank_trail old new blank pos lead opened items head rest =
    trail_on old new (lead_hidden old.lines.is_open blank pos old.lines.lead new.lines.lead lead)
    (record {
      mixed = λ m e. lead_mixed old.lines.is_open blank pos old.lines.lead new.lines.lead m lead e;
      shut = λ e. opened ∙ e;
      items_are = items;
      far = one_far (code_of blank) old.cursor.glyphs new.cursor.glyphs (blank_code blank) head rest;
    })

-- the lines and brackets are as before
pub same_trail : (old new : Lexer) → new.lines ≡ old.lines → new.brackets ≡ old.brackets → IsAsFar old.cursor.glyphs new.cursor.glyphs → KeepsTrail old new
same_trail old new lines brackets far =
    trail_on old new (ap (λ l. l.lead.hidden) lines) (record { mixed = λ m e. ap (λ l. l.lead.mixed) lines ∙ e; shut = λ e. ap (λ l. l.is_open) lines ∙ e; items_are = ap items_of brackets; far = far })

-- ---- a stray character

some_of : (o : Option Fault) → (o ≡ None → ⊥) → (m : Fault) × (o ≡ Some m)
some_of None h = absurd (h refl)
some_of (Some m) h = (m, refl)

-- it is put off
pub put_off : (file : ℕ) (all : List Glyph) (old new : Lexer) (f : Fault) → Holds file all old → old.lines.lead.hidden ≡ None → Strays f.rule old.cursor.glyphs → f.pos ≡ old.cursor.pos → (old.lines.lead.mixed ≡ None → ⊥) → old.lines.is_open ≡ false
    → new.lines.lead.mixed ≡ old.lines.lead.mixed → new.lines.is_open ≡ false → items_of new.brackets ≡ items_of old.brackets → new.cursor.glyphs ≡ drop 1 old.cursor.glyphs → IsPutOff file all new f
put_off file all old new f holds none strays at some shut same opened items rest =
    let laid = holds none in
    let m = some_of old.lines.lead.mixed some in
    let P : Option Fault → Type 0 = λ o. IfSome o (IsMixed file laid.pieces) in
    let idle : items_of old.brackets ≡ 0 ∷ [] = laid.running_are ∙ shut_items (line laid.pieces) (sym laid.lines_are.has_token ∙ shut) in
    record {
      pieces = laid.pieces;
      rest = old.cursor.glyphs;
      cut = laid.cut;
      within = laid.within;
      matched = laid.matched;
      strays = strays;
      at = at ∙ laid.place;
      blank = m.0;
      mixed = same ∙ m.1;
      blank_is = subst P m.1 laid.lines_are.mixed;
      shut = opened;
      idle = items ∙ idle;
      far = far_to old.cursor.glyphs (drop 1 old.cursor.glyphs) new.cursor.glyphs rest (strays_far f.rule old.cursor.glyphs strays);
    }

stray_by : (file : ℕ) (all : List Glyph) (old new : Lexer) (f : Fault) (o : Option Fault) → old.lines.lead.hidden ≡ o → new.lines.lead.hidden ≡ first_of o f → Carries old new → (old.lines.lead.hidden ≡ None → IsPutOff file all new f)
    → IfSome o (IsPutOff file all old) → IfSome (first_of o f) (IsPutOff file all new)
stray_by file all old new f None e k c make h = make e
stray_by file all old new f (Some g) e k c make h = carried file all old new g c h

pub stray_trail : (old new : Lexer) (f : Fault) → Strays f.rule old.cursor.glyphs → f.pos ≡ old.cursor.pos → new.lines.lead.hidden ≡ first_of old.lines.lead.hidden f → new.lines.lead.mixed ≡ old.lines.lead.mixed → (new.lines.lead.mixed ≡ None → ⊥)
    → new.lines.is_open ≡ false → new.lines.is_open ≡ old.lines.is_open → items_of new.brackets ≡ items_of old.brackets → new.cursor.glyphs ≡ drop 1 old.cursor.glyphs → KeepsTrail old new
stray_trail old new f strays at hidden mixed some shut opened items rest file all holds h =
    let far = far_to old.cursor.glyphs (drop 1 old.cursor.glyphs) new.cursor.glyphs rest (strays_far f.rule old.cursor.glyphs strays) in
    let c : Carries old new = record { mixed = λ m e. mixed ∙ e; shut = λ e. shut; items_are = items; far = far } in
    let P : Option Fault → Type 0 = λ o. IfSome o (IsPutOff file all new) in
    subst P (sym hidden)
    (stray_by file all old new f old.lines.lead.hidden refl hidden c (λ none. put_off file all old new f holds none strays at (λ e. some (mixed ∙ e)) (sym opened ∙ shut) mixed shut items rest) h)

-- ---- a line feed inside brackets

inside_by : (file : ℕ) (all : List Glyph) (old new : Lexer) (o : Option Fault) → nat_lt 1 (length (items_of old.brackets)) ≡ true → IfSome o (IsPutOff file all old) → IfSome o (IsPutOff file all new)
inside_by file all old new None e h = tt
inside_by file all old new (Some f) e h = absurd (true≢false (sym e ∙ ap (λ is. nat_lt 1 (length is)) h.idle))

-- nothing was put off there
pub inside_trail : (old new : Lexer) → new.lines.lead.hidden ≡ old.lines.lead.hidden → nat_lt 1 (length (items_of old.brackets)) ≡ true → KeepsTrail old new
inside_trail old new hidden e file all holds h =
    let P : Option Fault → Type 0 = λ o. IfSome o (IsPutOff file all new) in
    subst P (sym hidden) (inside_by file all old new old.lines.lead.hidden e h)
