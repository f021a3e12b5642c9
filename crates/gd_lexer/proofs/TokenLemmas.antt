-- Where a token stops reading, the fault is the first of the file.
use Rattle.std.proofs.Common.{◌≡◌, ℕ, ◌<◌, ◌≤◌, Bool, true, false, List, [], ◌∷◌, ◌++◌, length, slice_index, refl, ap, sym, ◌∙◌, subst, inl, inr, arith}
use Rattle.std.specs.Prelude.{Option, Some, None, IfSome}
use Rattle.gd_syntax.specs.declared.pos.Pos.{Pos}
use Rattle.gd_syntax.specs.declared.token.TokenKind.{TokenKind}
use Rattle.gd_syntax.specs.declared.token.TokenKind.TheVariants as kinds
use Rattle.gd_rules.specs.declared.rule.Rule.TheVariants as rules
use Rattle.gd_lexis.specs.declared.glyph.Glyph.{Glyph}
use Rattle.gd_lexis.specs.Lines.{kept, innermost}
use Rattle.gd_lexis.specs.Lexes.{IsMatched}
use Rattle.gd_lexis.specs.Faults.{BeginsToken}
use Rattle.gd_lexis.proofs.Levels.{Rising, kept_all, innermost_is}
use Rattle.gd_lexer.specs.declared.lexer.Lexer.{Lexer}
use Rattle.gd_lexer.specs.declared.stop.Fault.{Fault}
use Rattle.gd_lexer.specs.declared.stop.Stop.{Stop}
use Rattle.gd_lexer.specs.declared.stop.Stop.TheVariants as stops
use Rattle.gd_lexer.specs.Cursor.{Spot}
use Rattle.gd_lexer.specs.Stops.{StandsAt, IsFaultAt}
use Rattle.gd_lexer.specs.Brackets.{items_of, role_of, IsRefusal, FitsBy}
use Rattle.gd_lexer.specs.Laid.{IsKept}
use Rattle.gd_lexer.specs.Opening.{Opens, Deepens}
use Rattle.gd_lexer.specs.Token.{IsToken, IsQuoted, IsInner, IsInnerOf, IsFaultOf, ReadAs, as_token, as_string}
use Rattle.gd_lexer.specs.FirstFaults.{IsApart, Unopened, mixed, unmatched, no_memory, Undeepened, IsFirstOf, IsFirstFrom}
use Rattle.gd_lexer.proofs.FirstLemmas.{IsAtToken, mixed_at_token, unmatched_first, at_token, own_at, refused_at, deep_at, inner_at, few_at, short_at, readable}

-- ---- want of memory

pub want_first : (l : Lexer) (stop : Stop) → stop ≡ stops.NoMemory → IsFirstFrom l stop
want_first l stop e file bytes all read holds trails = let P : Stop → Type 0 = λ s. IsFirstOf file bytes s in subst P (sym e) tt

-- ---- before the token is read

rising_front : (low : ℕ) (bs more : List ℕ) → Rising low (bs ++ more) → Rising low bs
rising_front low [] more h = tt
rising_front low (b ∷ bs) more h = (h.0, rising_front b bs more h.1)

some_length : (xs ys : List ℕ) → length xs ≡ length (xs ++ ys) → xs ++ ys ≡ xs
some_length [] [] e = refl
some_length [] (y ∷ ys) e = absurd (omega arith)
some_length (x ∷ xs) ys e = ap (λ t. x ∷ t) (some_length xs ys (omega arith))

-- a level that is apart from the blocks matches none
apart_unmatched : (level : ℕ) (old bs : List ℕ) → IsApart level old → Rising 0 bs → bs ≡ old → IsMatched bs level → ⊥
apart_unmatched level old bs a rising e m =
    let P : List ℕ → Type 0 = λ t. Rising 0 t in
    let front : Rising 0 a.left = rising_front 0 a.left a.closed (subst P (e ∙ a.front) rising) in
    let all : kept level bs ≡ a.left = ap (kept level) e ∙ sym a.same ∙ kept_all 0 level a.left front (omega (arith, innermost_is a.left, a.low)) in
    by_match all m
  where
    by_match : kept level bs ≡ a.left → IsMatched bs level → ⊥
    by_match all (inl k) = a.other (sym (ap innermost all) ∙ k)
    by_match all (inr k) =
        let whole : old ≡ a.left = a.front ∙ some_length a.left a.closed (sym (ap length all) ∙ k ∙ ap length (e ∙ a.front)) in
        let same : innermost old ≡ innermost a.left = ap innermost whole in
        a.other (omega (arith, same, a.below, a.low))

stands_cause : (pos : Pos) (stop : Stop) → StandsAt pos rules.UnmatchedDedent stop → IsFaultAt pos rules.UnmatchedDedent (Unit {0}) stop
stands_cause pos (stops.Fault f) s = (s.0, s.1, tt)
stands_cause pos stops.NoMemory s = tt

pub unopened_first : (l : Lexer) (at : Pos) (stop : Stop) → BeginsToken l.cursor.glyphs → IsKept l → at ≡ l.cursor.pos → Unopened at l stop → IsFirstFrom l stop
unopened_first l at stop token kept e (mixed s) = mixed_at_token l stop token s
unopened_first l at stop token kept e (unmatched shut one apart s) =
    let P : Pos → Type 0 = λ p. StandsAt p rules.UnmatchedDedent stop in
    unmatched_first l stop token one (kept.put_off one) shut (λ bs rising same m. apart_unmatched l.lines.lead.level l.lines.blocks bs apart rising same m) (stands_cause l.cursor.pos stop (subst P e s))
unopened_first l at stop token kept e (no_memory s) = want_first l stop s

-- ---- the token that is read

quoted_kind : (kind : TokenKind) (s : Spot) → IsQuoted kind → (f : Fault) → IsInner s f.pos f.rule → ReadAs s.glyphs kind
quoted_kind (kinds.Quoted t) s q f i = as_string t i.string
quoted_kind _ s q f i = absurd q

by_inner : (kind : TokenKind) (s : Spot) (rest : List Glyph) (o : Option Fault) → (o ≡ None → IsToken kind s.glyphs rest) → IfSome o (IsInnerOf kind s) → ReadAs s.glyphs kind
by_inner kind s rest None is i = as_token kind rest (is refl)
by_inner kind s rest (Some f) is i = quoted_kind kind s i.0 f i.1

pub read_as : (kind : TokenKind) (s t : Spot) (rest : List Glyph) (o : Option Fault) → t ≡ s → (o ≡ None → IsToken kind t.glyphs rest) → IfSome o (IsInnerOf kind t) → ReadAs s.glyphs kind
read_as kind s t rest o e is i = let P : Spot → Type 0 = λ x. ReadAs x.glyphs kind in subst P e (by_inner kind t rest o is i)

-- the brackets are as before the line began
open_brackets : (b : Bool) (deeper : Option ℕ) (at : Pos) (old new : Lexer) → Opens b deeper at old new → items_of new.brackets ≡ items_of old.brackets
open_brackets true deeper at old new o = ap (λ (l : Lexer). items_of l.brackets) o.1
open_brackets false deeper at old new o = ap items_of o.0.brackets

pub own_first : (old new : Lexer) (deeper : Option ℕ) (at : Pos) (stop : Stop) → IsKept old → Opens old.lines.is_open deeper at old new → new.cursor ≡ old.cursor → at ≡ old.cursor.pos → IsFaultOf at new.cursor.glyphs stop → IsFirstFrom old stop
own_first old new deeper at stop kept o same e k file bytes all read holds trails =
    let t = at_token file bytes all old new deeper at read holds kept o in
    let P : Spot → Type 0 = λ s. IsFaultOf at s.glyphs stop in
    let Q : Pos → Type 0 = λ p. IsFaultOf p old.cursor.glyphs stop in
    own_at file bytes old stop t (subst Q e (subst P same k))

pub refused_first : (old new mid : Lexer) (deeper : Option ℕ) (at : Pos) (kind : TokenKind) (stop : Stop) → IsKept old → Opens old.lines.is_open deeper at old new → mid.brackets ≡ new.brackets → at ≡ old.cursor.pos → ReadAs old.cursor.glyphs kind
    → IsRefusal at (role_of kind) (items_of mid.brackets) stop → IsFirstFrom old stop
refused_first old new mid deeper at kind stop kept o same e r k file bytes all read holds trails =
    let t = at_token file bytes all old new deeper at read holds kept o in
    let P : List ℕ → Type 0 = λ is. IsRefusal at (role_of kind) is stop in
    let Q : Pos → Type 0 = λ p. IsRefusal p (role_of kind) (items_of old.brackets) stop in
    refused_at file bytes old kind stop t r (subst Q e (subst P (ap items_of same ∙ open_brackets old.lines.is_open deeper at old new o) k))

by_deeper : (file : ℕ) (bytes : List ℕ) (old new mid : Lexer) (b : Bool) (deeper : Option ℕ) (at : Pos) (kind : TokenKind) (stop : Stop) → old.lines.is_open ≡ b → Opens b deeper at old new → mid.lines ≡ new.lines → at ≡ old.cursor.pos → ReadAs old.cursor.glyphs kind
    → Undeepened deeper at mid stop → IsAtToken file bytes old → IsFirstOf file bytes stop
by_deeper file bytes old new mid true deeper at kind stop shut o same e r k t = let P : Option ℕ → Type 0 = λ d. Undeepened d at mid stop in absurd (subst P o.0 k)
by_deeper file bytes old new mid false None at kind stop shut o same e r k t = absurd k
by_deeper file bytes old new mid false (Some level) at kind stop shut o same e r k t =
    let blocks : mid.lines.blocks ≡ old.lines.blocks = ap (λ l. l.blocks) same ∙ o.1.2 in
    let P : List ℕ → Type 0 = λ bs. IsFaultAt at rules.BlocksTooDeep (32 ≤ length bs) stop in
    let Q : Pos → Type 0 = λ p. IsFaultAt p rules.BlocksTooDeep (32 ≤ length old.lines.blocks) stop in
    deep_at file bytes old level stop t (readable old.cursor.glyphs kind r) shut o.1.0 o.1.1 (subst Q e (subst P blocks k))

pub deep_first : (old new mid : Lexer) (deeper : Option ℕ) (at : Pos) (kind : TokenKind) (stop : Stop) → IsKept old → Opens old.lines.is_open deeper at old new → mid.lines ≡ new.lines → at ≡ old.cursor.pos → ReadAs old.cursor.glyphs kind
    → Undeepened deeper at mid stop → IsFirstFrom old stop
deep_first old new mid deeper at kind stop kept o same e r k file bytes all read holds trails =
    by_deeper file bytes old new mid old.lines.is_open deeper at kind stop refl o same e r k (at_token file bytes all old new deeper at read holds kept o)

-- ---- a fault inside the string that is read

room_behind : (b : Bool) (deeper : Option ℕ) (at : Pos) (old new mid end : Lexer) → Opens b deeper at old new → mid.lines ≡ new.lines → Deepens deeper at mid end → IfSome deeper (λ level. length old.lines.blocks < 32)
room_behind true deeper at old new mid end o same d = let P : Option ℕ → Type 0 = λ x. IfSome x (λ level. length old.lines.blocks < 32) in subst P (sym o.0) tt
room_behind false None at old new mid end o same d = tt
room_behind false (Some level) at old new mid end o same d = omega (arith, d.room, ap (λ l. length l.blocks) same, ap length o.1.2)

part_room : (kind : TokenKind) (is : List ℕ) → IsQuoted kind → FitsBy (role_of kind) is → slice_index is 0 < 100
part_room (kinds.Quoted t) is q h = h
part_room _ is q h = absurd q

pub some_inner : (kind : TokenKind) (s : Spot) (o : Option Fault) (f : Fault) → o ≡ Some f → IfSome o (IsInnerOf kind s) → IsInnerOf kind s f
some_inner kind s o f e h = let P : Option Fault → Type 0 = λ x. IfSome x (IsInnerOf kind s) in subst P e h

pub inner_first : (old new scanned mid end : Lexer) (deeper : Option ℕ) (at : Pos) (kind : TokenKind) (f : Fault) → IsKept old → Opens old.lines.is_open deeper at old new → new.cursor ≡ old.cursor → mid.lines ≡ new.lines → scanned.brackets ≡ new.brackets
    → FitsBy (role_of kind) (items_of scanned.brackets) → Deepens deeper at mid end → IsInnerOf kind new.cursor f → IsFirstFrom old (stops.Fault f)
inner_first old new scanned mid end deeper at kind f kept o cursor lines brackets fits d i file bytes all read holds trails =
    let t = at_token file bytes all old new deeper at read holds kept o in
    let P : Spot → Type 0 = λ s. IsInner s f.pos f.rule in
    let inner : IsInner old.cursor f.pos f.rule = subst P cursor i.1 in
    let Q : List ℕ → Type 0 = λ is. FitsBy (role_of kind) is in
    let room = part_room kind (items_of old.brackets) i.0 (subst Q (ap items_of brackets ∙ open_brackets old.lines.is_open deeper at old new o) fits) in
    inner_at file bytes old f t inner (few_at file bytes deeper at old new t o (room_behind old.lines.is_open deeper at old new mid end o lines d)) (short_at file bytes old t inner.string room)
