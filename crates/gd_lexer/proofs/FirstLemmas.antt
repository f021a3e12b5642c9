-- Where reading stops, the fault is the first of the file.
use Rattle.std.proofs.Common.{◌≡◌, ◌≢◌, ℕ, ℤ, ◌+◌, ◌-◌, ◌<◌, ◌≤◌, Bool, true, false, cond, List, [], ◌∷◌, ◌++◌, map, drop, length, slice_get, slice_index, refl, ap, sym, ◌∙◌, subst, inl, inr, arith, append_assoc, append-nil, true≢false}
use Rattle.std.specs.Prelude.{◌⊎◌, All, Option, Some, None, IfSome, Result, Ok, Err, IfErr}
use Rattle.gd_syntax.specs.declared.pos.Pos.{Pos}
use Rattle.gd_syntax.specs.declared.token.TokenKind.{TokenKind}
use Rattle.gd_syntax.specs.declared.token.TokenKind.TheVariants as kinds
use Rattle.gd_rules.specs.declared.rule.Rule.{Rule}
use Rattle.gd_rules.specs.declared.rule.Rule.TheVariants as rules
use Rattle.gd_lexis.specs.declared.glyph.Glyph.{Glyph}
use Rattle.gd_lexis.specs.declared.glyph.Glyph.TheVariants.{Char}
use Rattle.gd_lexis.specs.Chars.{IsFile, place_behind}
use Rattle.gd_lexis.specs.Pieces.{Piece, Tok, Writes, BeginsWith, IsLongest}
use Rattle.gd_lexis.specs.Lines.{is_logical, is_opening, is_closing, level, level_behind, depth, texts, kept, innermost, blocks_behind}
use Rattle.gd_lexis.specs.Lexes.{IsWithin, IsMatched}
use Rattle.gd_lexis.specs.Faults.{HasToken, here, BeginsToken, IsCounted, Breaks, FirstFault}
use Rattle.gd_lexis.specs.Faultless.{IsFaultless, IsFitting, IsReadable, IsCommentFault}
use Rattle.gd_lexis.proofs.Ahead.{none_at_end, none_at_comment, none_at_feed}
use Rattle.gd_lexis.proofs.Exits.{first_unmatched, first_unterminated, first_float, first_too_large, first_bad_number, first_deep_bracket, first_deep_block, first_long_item, first_bad_in_comment, first_return_in_comment, first_in_string}
use Rattle.gd_lexer.specs.declared.lines.Lines.{Lines}
use Rattle.gd_lexer.specs.declared.lexer.Lexer.{Lexer}
use Rattle.gd_lexer.specs.declared.stop.Fault.{Fault}
use Rattle.gd_lexer.specs.declared.stop.Stop.{Stop}
use Rattle.gd_lexer.specs.declared.stop.Stop.TheVariants as stops
use Rattle.gd_lexer.specs.Cursor.{Spot, advanced}
use Rattle.gd_lexer.proofs.EscapeMeets.{goes_one, rest_of}
use Rattle.gd_lexer.specs.Begun.{whole, line, blocks}
use Rattle.gd_lexer.specs.Brackets.{items_of, role_of, role_by, RefusedBy, IsRefusal}
use Rattle.gd_lexer.specs.Blanks.{IsMixed}
use Rattle.gd_lexer.specs.Stops.{IsFaultAt}
use Rattle.gd_lexis.proofs.Levels.{Rising, top, top_above, innermost_is, blocks_rise}
use Rattle.gd_lexer.specs.Laid.{IsLaid, IsKept, Holds, Reads}
use Rattle.gd_lexer.specs.Token.{IsString, ReadAs, as_token, as_string, IsInner, IsFaultOf, IsBrokenAt, IsLeastAt}
use Rattle.gd_lexer.specs.Opening.{Opens, Turns}
use Rattle.gd_lexer.proofs.BlockLemmas.{closing_turn, deeper_turn}
use Rattle.gd_lexis.proofs.Least.{readable_token, same_code}
use Rattle.gd_lexis.specs.Items.{items, is_separator, closed}
use Rattle.gd_syntax.specs.declared.token.Mark.{Mark}
use Rattle.gd_syntax.specs.declared.token.Mark.TheVariants as marks
use Rattle.gd_syntax.specs.declared.token.Keyword.{Keyword}
use Rattle.gd_lexis.specs.Words.{mark_text}
use Rattle.gd_lexis.proofs.Cuts.{one_token}
use Rattle.gd_lexis.proofs.Tokens.{BeginsMark, mark_from, mark_front}
use Rattle.gd_lexis.proofs.Bounds.{IsOpeningCode, bracket_kind, all_at}
use Rattle.gd_lexis.proofs.Sites.{Next, IsQuoteCode, opens_code, bracket_code}
use Rattle.gd_lexer.specs.declared.brackets.Role.TheVariants.{Part, Opening, Closing}
use Rattle.gd_lexer.proofs.BoundLemmas.{items_level}
use Rattle.std.proofs.lemmas.Bool.{cases_order}
use Rattle.gd_lexer.specs.PutOff.{StopsBy}
use Rattle.gd_lexer.specs.FirstFaults.{Strays, StopsInText, IsPutOff, KeepsTrail, IsFirstOf, IsFirstFrom}
use Rattle.gd_lexer.proofs.FaultlessLemmas.{faultless_here, faultless_ended, mixed_first, stray_at, put_off_first, mixed_put_off}
use Rattle.gd_lexer.proofs.MarkMeets.{head_seen}

-- ---- a fault that was put off, where the line ends

some_trail : (file : ℕ) (all : List Glyph) (l : Lexer) (o : Option Fault) (f : Fault) → o ≡ Some f → IfSome o (IsPutOff file all l) → IsPutOff file all l f
some_trail file all l o f e h = let P : Option Fault → Type 0 = λ t. IfSome t (IsPutOff file all l) in subst P e h

stop_first : (file : ℕ) (bytes : List ℕ) (f : Fault) (stop : Stop) → stop ≡ stops.Fault f → FirstFault file bytes f.pos f.rule → IsFirstOf file bytes stop
stop_first file bytes f stop e h = let P : Stop → Type 0 = λ s. IsFirstOf file bytes s in subst P (sym e) h

-- a fault by this rule at this place
pub fault_first : (file : ℕ) (bytes : List ℕ) (f : Fault) (pieces : List Piece) (rule : Rule) → f.pos ≡ place_behind file (texts pieces) → f.rule ≡ rule → FirstFault file bytes (place_behind file (texts pieces)) rule → FirstFault file bytes f.pos f.rule
fault_first file bytes f pieces rule e k h =
    let P : Pos → Type 0 = λ p. FirstFault file bytes p f.rule in
    let Q : Rule → Type 0 = λ r. FirstFault file bytes (place_behind file (texts pieces)) r in
    subst P (sym e) (subst Q (sym k) h)

hidden_first : (l : Lexer) (stop : Stop) → (HasToken l.cursor.glyphs → ⊥) → StopsBy l.lines.lead.hidden stop → IsFirstFrom l stop
hidden_first l stop none s file bytes all read holds trails =
    stop_first file bytes s.0 stop s.2 (put_off_first file bytes all l s.0 read (some_trail file all l l.lines.lead.hidden s.0 s.1 trails) none)

pub hidden_at_comment : (l : Lexer) (stop : Stop) → Some (Char 35) ≡ slice_get l.cursor.glyphs 0 → StopsBy l.lines.lead.hidden stop → IsFirstFrom l stop
hidden_at_comment l stop head s = hidden_first l stop (λ t. none_at_comment (drop 1 l.cursor.glyphs) t (head_seen l.cursor.glyphs (Char 35) (sym head))) s

pub hidden_at_feed : (l : Lexer) (stop : Stop) → Some (Char 10) ≡ slice_get l.cursor.glyphs 0 → StopsBy l.lines.lead.hidden stop → IsFirstFrom l stop
hidden_at_feed l stop head s =
    let P : List Glyph → Type 0 = HasToken in
    hidden_first l stop (λ t. none_at_feed (drop 1 l.cursor.glyphs) (subst P (head_seen l.cursor.glyphs (Char 10) (sym head)) t)) s

pub hidden_at_end : (l : Lexer) (stop : Stop) → l.cursor.glyphs ≡ [] → StopsBy l.lines.lead.hidden stop → IsFirstFrom l stop
hidden_at_end l stop e s = hidden_first l stop (λ t. none_at_end t e) s

-- ---- what was read before

pub first_since : (old mid : Lexer) (stop : Stop) → Reads old mid → KeepsTrail old mid → IsFirstFrom mid stop → IsFirstFrom old stop
first_since old mid stop reads keeps h file bytes all read holds trails = h file bytes all read (reads file all holds) (keeps file all holds trails)

pub first_at_end : {T : Type 0} (old mid : Lexer) (r : Result T Stop) → Reads old mid → KeepsTrail old mid → mid.cursor.glyphs ≡ [] → IfErr r (λ stop. mid.cursor.glyphs ≡ [] → IsFirstFrom mid stop) → IfErr r (IsFirstFrom old)
first_at_end old mid (Ok x) reads keeps end h = tt
first_at_end old mid (Err stop) reads keeps end h = first_since old mid stop reads keeps (h end)

-- ---- a stray character

pub stray_first : (l : Lexer) (f : Fault) (stop : Stop) → l.lines.lead.mixed ≡ None → l.lines.lead.hidden ≡ None → Strays f.rule l.cursor.glyphs → f.pos ≡ l.cursor.pos → stop ≡ stops.Fault f → IsFirstFrom l stop
stray_first l f stop one none strays at e file bytes all read holds trails =
    let laid = holds none in
    stop_first file bytes f stop e (stray_at file bytes laid.pieces l.cursor.glyphs f (faultless_here file bytes all l.cursor (items_of l.brackets) l.lines l.found.tokens read laid one) strays (at ∙ laid.place))

-- the same, as the code shows it: the line has a token, or no blank of the other kind
pub stray_stops : (l : Lexer) (f : Fault) (stop : Stop) → IsKept l → (stop ≡ stops.Fault f) × ((l.lines.is_open ≡ true) ⊎ (l.lines.lead.mixed ≡ None)) → Strays f.rule l.cursor.glyphs → f.pos ≡ l.cursor.pos → IsFirstFrom l stop
stray_stops l f stop kept (e, inl open_one) strays at = let one = kept.settled open_one in stray_first l f stop one (kept.put_off one) strays at e
stray_stops l f stop kept (e, inr one) strays at = stray_first l f stop one (kept.put_off one) strays at e

-- ---- in a comment

text_fault : (file : ℕ) (bytes : List ℕ) (pieces : List Piece) (gs : List Glyph) (rule : Rule) (text : List ℕ) (glyph : Glyph) (back : List Glyph) → IsFaultless bytes pieces gs → All (λ c. (c ≢ 10) × (c ≢ 13)) text
    → gs ≡ map Char (35 ∷ text) ++ glyph ∷ back → IsCommentFault rule glyph → (rule ≡ rules.StrayCharacter → BeginsWith (10 ∷ []) back → ⊥) → FirstFault file bytes (place_behind file (texts pieces ++ map Char (35 ∷ text))) rule
text_fault file bytes pieces gs rules.NotUtf8 text glyph back h clean e w lone = first_bad_in_comment file bytes pieces text gs back w.0 h clean (e ∙ ap (λ g. map Char (35 ∷ text) ++ g ∷ back) w.1)
text_fault file bytes pieces gs rules.StrayCharacter text glyph back h clean e w lone = first_return_in_comment file bytes pieces text gs back h clean (e ∙ ap (λ g. map Char (35 ∷ text) ++ g ∷ back) w) (lone refl)
text_fault file bytes pieces gs _ text glyph back h clean e w lone = absurd w

pub comment_first : (l : Lexer) (s : Spot) (stop : Stop) → Some (Char 35) ≡ slice_get l.cursor.glyphs 0 → l.lines.lead.hidden ≡ None → s.glyphs ≡ drop 1 l.cursor.glyphs
    → ((file : ℕ) (before : List Glyph) → l.cursor.pos ≡ place_behind file before → s.pos ≡ place_behind file (before ++ Char 35 ∷ [])) → StopsInText s stop → IsFirstFrom l stop
comment_first l s stops.NoMemory head none rest place k file bytes all read holds trails = tt
comment_first l s (stops.Fault f) head none rest place k file bytes all read holds trails =
    let laid = holds none in
    let gs = l.cursor.glyphs in
    let shown : gs ≡ Char 35 ∷ drop 1 gs = head_seen gs (Char 35) (sym head) in
    let ended = faultless_ended file bytes all l.cursor (items_of l.brackets) l.lines l.found.tokens read laid (λ t. none_at_comment (drop 1 gs) t shown) in
    let split : gs ≡ map Char (35 ∷ k.text) ++ k.glyph ∷ k.back = shown ∙ ap (λ t. Char 35 ∷ t) (sym rest ∙ k.split) in
    let at : f.pos ≡ place_behind file (texts laid.pieces ++ map Char (35 ∷ k.text)) =
    k.place file (texts laid.pieces ++ Char 35 ∷ []) (place file (texts laid.pieces) laid.place) ∙ ap (place_behind file) (append_assoc (texts laid.pieces) (Char 35 ∷ []) (map Char k.text)) in
    let P : Pos → Type 0 = λ p. FirstFault file bytes p f.rule in
    subst P (sym at) (text_fault file bytes laid.pieces gs f.rule k.text k.glyph k.back ended k.clean split k.wrong k.lone)

-- the same, as the code shows it
pub comment_stops : (l : Lexer) (s : Spot) (stop : Stop) → Some (Char 35) ≡ slice_get l.cursor.glyphs 0 → l.lines.lead.hidden ≡ None → s ≡ advanced l.cursor → StopsInText s stop → IsFirstFrom l stop
comment_stops l s stop head none e k =
    let gs = l.cursor.glyphs in
    let shown : gs ≡ Char 35 ∷ drop 1 gs = head_seen gs (Char 35) (sym head) in
    let goes = goes_one l.cursor (Char 35) (drop 1 gs) shown in
    comment_first l s stop head none (ap (λ (u : Spot). u.glyphs) e ∙ rest_of l.cursor (Char 35) (drop 1 gs) shown) (λ file before p. ap (λ (u : Spot). u.pos) e ∙ goes.place file before p) k

pub stops_by_lines : (old new : Lines) (stop : Stop) → new ≡ old → StopsBy new.lead.hidden stop → StopsBy old.lead.hidden stop
stops_by_lines old new stop e s = let P : Lines → Type 0 = λ l. StopsBy l.lead.hidden stop in subst P e s

-- ---- before a token

mixed_laid : (file : ℕ) (bytes : List ℕ) (all : List Glyph) (l : Lexer) (m : Fault) → IsFile bytes all → Holds file all l → IfSome l.lines.lead.hidden (IsPutOff file all l) → l.lines.lead.mixed ≡ Some m → HasToken l.cursor.glyphs
    → (o : Option Fault) → l.lines.lead.hidden ≡ o → FirstFault file bytes m.pos m.rule
mixed_laid file bytes all l m read holds trails e token None none =
    let laid = holds none in
    let P : Option Fault → Type 0 = λ t. IfSome t (IsMixed file laid.pieces) in
    mixed_first file bytes all laid.pieces l.cursor.glyphs m read laid.cut laid.within laid.matched (subst P e laid.lines_are.mixed) token
mixed_laid file bytes all l m read holds trails e token (Some f) some = mixed_put_off file bytes all l f m read (some_trail file all l l.lines.lead.hidden f some trails) e token

pub mixed_at_token : (l : Lexer) (stop : Stop) → BeginsToken l.cursor.glyphs → StopsBy l.lines.lead.mixed stop → IsFirstFrom l stop
mixed_at_token l stop token s file bytes all read holds trails =
    stop_first file bytes s.0 stop s.2 (mixed_laid file bytes all l s.0 read holds trails s.1 (here l.cursor.glyphs token) l.lines.lead.hidden refl)

-- the open blocks, where the line has no token yet
shut_blocks : (file : ℕ) (all : List Glyph) (l : Lexer) → (laid : IsLaid file all l.cursor (items_of l.brackets) l.lines l.found.tokens) → l.lines.is_open ≡ false
    → (is_logical (line laid.pieces) ≡ false) × (l.lines.blocks ≡ blocks laid.pieces)
shut_blocks file all l laid shut =
    let first : is_logical (line laid.pieces) ≡ false = sym laid.lines_are.has_token ∙ shut in
    (first, laid.lines_are.open_blocks ∙ blocks_by (is_logical (line laid.pieces)) first)
  where
    blocks_by : (b : Bool) → b ≡ false → cond b (blocks_behind (blocks laid.pieces) (depth (line laid.pieces))) (blocks laid.pieces) ≡ blocks laid.pieces
    blocks_by b e = ap (λ t. cond t (blocks_behind (blocks laid.pieces) (depth (line laid.pieces))) (blocks laid.pieces)) e

pub unmatched_first : (l : Lexer) (stop : Stop) → BeginsToken l.cursor.glyphs → l.lines.lead.mixed ≡ None → l.lines.lead.hidden ≡ None → l.lines.is_open ≡ false → ((bs : List ℕ) → Rising 0 bs → bs ≡ l.lines.blocks → IsMatched bs l.lines.lead.level → ⊥)
    → IsFaultAt l.cursor.pos rules.UnmatchedDedent (Unit {0}) stop → IsFirstFrom l stop
unmatched_first l stops.NoMemory token one none shut apart at file bytes all read holds trails = tt
unmatched_first l (stops.Fault f) token one none shut apart at file bytes all read holds trails =
    let laid = holds none in
    let ps = laid.pieces in
    let h = faultless_here file bytes all l.cursor (items_of l.brackets) l.lines l.found.tokens read laid one in
    let opened = shut_blocks file all l laid shut in
    let M : ℕ → Type 0 = λ d. IsMatched (blocks ps) d in
    let broken : Breaks rules.UnmatchedDedent ps l.cursor.glyphs [] = (refl, (opened.0, token), λ m. apart (blocks ps) (blocks_rise (whole ps)) (sym opened.1) (subst M (sym laid.lines_are.level) m)) in
    fault_first file bytes f ps rules.UnmatchedDedent (at.0 ∙ laid.place) at.1 (first_unmatched file bytes ps l.cursor.glyphs h broken)

-- ---- at a token

-- what is known where a token is read: its line's blanks are of one kind, and its level matches the blocks
pub record IsAtToken (file : ℕ) (bytes : List ℕ) (l : Lexer) : Type 0 where
  pub pieces : List Piece
  pub faultless : IsFaultless bytes pieces l.cursor.glyphs
  pub fits : IsFitting pieces
  pub place : l.cursor.pos ≡ place_behind file (texts pieces)
  pub running : items_of l.brackets ≡ items (line pieces)
  pub shut : is_logical (line pieces) ≡ l.lines.is_open
  pub level : depth (line pieces) ≡ l.lines.lead.level
  pub opened : l.lines.is_open ≡ false → blocks pieces ≡ l.lines.blocks

-- the level matches, where the line begins with this token
fits_none : (at : Pos) (old new : Lexer) (bs : List ℕ) → bs ≡ old.lines.blocks → Rising 0 bs → Turns None at old new → IsMatched bs old.lines.lead.level
fits_none at old new bs e rising t = (closing_turn at bs new.lines.blocks t.0.front.0 old.lines.lead.level rising (e ∙ t.0.front.1) (t.0.same ∙ ap (kept old.lines.lead.level) (sym e)) t.1).matched

fits_some : (level : ℕ) (at : Pos) (old new : Lexer) (bs : List ℕ) → bs ≡ old.lines.blocks → Rising 0 bs → Turns (Some level) at old new → IsMatched bs old.lines.lead.level
fits_some level at old new bs e rising t =
    let less : innermost bs < old.lines.lead.level = let P : ℕ → Type 0 = λ n. innermost bs < n in let Q : List ℕ → Type 0 = λ b. innermost b < level in subst P t.0 (subst Q (sym e) t.1) in
    (deeper_turn at bs old.lines.lead.level rising less).matched

fits_turn : (deeper : Option ℕ) (at : Pos) (old new : Lexer) (bs : List ℕ) → bs ≡ old.lines.blocks → Rising 0 bs → Turns deeper at old new → IsMatched bs old.lines.lead.level
fits_turn None at old new bs e rising t = fits_none at old new bs e rising t
fits_turn (Some level) at old new bs e rising t = fits_some level at old new bs e rising t

-- a line that has a token has blanks of one kind before it
one_open : (b : Bool) (deeper : Option ℕ) (at : Pos) (old new : Lexer) → old.lines.is_open ≡ b → IsKept old → Opens b deeper at old new → old.lines.lead.mixed ≡ None
one_open true deeper at old new e kept o = kept.settled e
one_open false deeper at old new e kept o = o.0.one

fits_open : (b : Bool) (deeper : Option ℕ) (at : Pos) (old new : Lexer) (pieces : List Piece) → old.lines.is_open ≡ b → is_logical (line pieces) ≡ old.lines.is_open → depth (line pieces) ≡ old.lines.lead.level
    → (old.lines.is_open ≡ false → blocks pieces ≡ old.lines.blocks) → Opens b deeper at old new → IsFitting pieces
fits_open true deeper at old new pieces e shut level opened o first = absurd (true≢false (sym (shut ∙ e) ∙ first))
fits_open false deeper at old new pieces e shut level opened o first =
    let P : ℕ → Type 0 = λ d. IsMatched (blocks pieces) d in
    subst P (sym level) (fits_turn deeper at old new (blocks pieces) (opened e) (blocks_rise (whole pieces)) o.1)

pub at_token : (file : ℕ) (bytes : List ℕ) (all : List Glyph) (old new : Lexer) (deeper : Option ℕ) (at : Pos) → IsFile bytes all → Holds file all old → IsKept old → Opens old.lines.is_open deeper at old new → IsAtToken file bytes old
at_token file bytes all old new deeper at read holds kept o =
    let one = one_open old.lines.is_open deeper at old new refl kept o in
    let laid = holds (kept.put_off one) in
    let shut : is_logical (line laid.pieces) ≡ old.lines.is_open = sym laid.lines_are.has_token in
    let opened : old.lines.is_open ≡ false → blocks laid.pieces ≡ old.lines.blocks = λ e. sym (shut_blocks file all old laid e).1 in
    record {
      pieces = laid.pieces;
      faultless = faultless_here file bytes all old.cursor (items_of old.brackets) old.lines old.found.tokens read laid one;
      fits = fits_open old.lines.is_open deeper at old new laid.pieces refl shut (sym laid.lines_are.level) opened o;
      place = laid.place;
      running = laid.running_are;
      shut = shut;
      level = sym laid.lines_are.level;
      opened = opened;
    }

-- the token's own fault
own_first : (file : ℕ) (bytes : List ℕ) (pieces : List Piece) (gs : List Glyph) (rule : Rule) → IsFaultless bytes pieces gs → IsFitting pieces → IsBrokenAt rule gs → IsLeastAt rule gs → FirstFault file bytes (place_behind file (texts pieces)) rule
own_first file bytes pieces gs rules.UnterminatedString h fits b least = first_unterminated file bytes pieces gs h fits (b pieces)
own_first file bytes pieces gs rules.Float h fits b least = first_float file bytes pieces gs h fits (b pieces)
own_first file bytes pieces gs rules.IntegerTooLarge h fits b least = first_too_large file bytes pieces gs h fits (least pieces) (b pieces)
own_first file bytes pieces gs rules.BadNumber h fits b least = first_bad_number file bytes pieces gs h fits (least.0 pieces) (least.1 pieces) (b pieces)
own_first file bytes pieces gs _ h fits b least = absurd least

pub own_at : (file : ℕ) (bytes : List ℕ) (l : Lexer) (stop : Stop) → IsAtToken file bytes l → IsFaultOf l.cursor.pos l.cursor.glyphs stop → IsFirstOf file bytes stop
own_at file bytes l stops.NoMemory t k = tt
own_at file bytes l (stops.Fault f) t k = fault_first file bytes f t.pieces f.rule (k.0 ∙ t.place) refl (own_first file bytes t.pieces l.cursor.glyphs f.rule t.faultless t.fits k.1 k.2)

-- a block too many
pub deep_at : (file : ℕ) (bytes : List ℕ) (l : Lexer) (level : ℕ) (stop : Stop) → IsAtToken file bytes l → IsReadable l.cursor.glyphs → l.lines.is_open ≡ false → level ≡ l.lines.lead.level → innermost l.lines.blocks < level
    → IsFaultAt l.cursor.pos rules.BlocksTooDeep (32 ≤ length l.lines.blocks) stop → IsFirstOf file bytes stop
deep_at file bytes l level stops.NoMemory t r shut e less k = tt
deep_at file bytes l level (stops.Fault f) t r shut e less k =
    let ps = t.pieces in
    let same : blocks ps ≡ l.lines.blocks = t.opened shut in
    let L : List ℕ → Type 0 = λ b. innermost b < level in
    let D : ℕ → Type 0 = λ d. innermost (blocks ps) < d in
    let N : List ℕ → Type 0 = λ b. 32 ≤ length b in
    let broken : Breaks rules.BlocksTooDeep ps l.cursor.glyphs [] = (refl, (t.shut ∙ shut, readable_token l.cursor.glyphs r), subst D (e ∙ sym t.level) (subst L (sym same) less), subst N (sym same) k.2) in
    fault_first file bytes f ps rules.BlocksTooDeep (k.0 ∙ t.place) k.1 (first_deep_block file bytes ps l.cursor.glyphs t.faultless t.fits r broken)

-- ---- brackets and items

pub readable : (gs : List Glyph) (kind : TokenKind) → ReadAs gs kind → IsReadable gs
readable gs k (as_token kind rest is) = inl (kind, is.0, rest, is.1, is.2)
readable gs k (as_string t s) = inr (s.quote, s.body, s.rest, s.whole)

no_mark_code : (c d : ℕ) (gs : List Glyph) → Next c gs → Next d gs → IsQuoteCode c → BeginsMark d → ⊥
no_mark_code c d gs n m h k = let same = same_code c d gs n m in omega arith

-- the mark that begins here is what is read
only_mark : (gs : List Glyph) (kind : TokenKind) (m : Mark) → ReadAs gs kind → BeginsWith (mark_text m) gs → IsLongest (mark_text m) gs → kind ≡ kinds.Mark m
only_mark gs k m (as_token kind rest is) b longest =
    let P : List Glyph → Type 0 = λ t. IsLongest (mark_text m) t in
    let same : Tok kind is.0 ≡ Tok (kinds.Mark m) (mark_text m) =
    one_token kind (kinds.Mark m) is.0 (mark_text m) rest b.0 is.2.0 refl is.2.1 (subst P b.1 longest) (sym is.1 ∙ b.1) (cases_order (length is.0) (length (mark_text m))) in
    cc
only_mark gs k m (as_string t s) b longest =
    let a = opens_code s.quote gs s.whole.0 in
    let begins = mark_from (mark_text m) (mark_front m) in
    absurd (no_mark_code a.0 begins.0 gs a.1 (map Char begins.1 ++ b.0, b.1 ∙ ap (λ t. map Char t ++ b.0) begins.2) a.2 begins.3)

opening_no_closing : (m : Mark) → is_opening m ≡ true → is_closing m ≡ false
opening_no_closing marks.LeftParen e = refl
opening_no_closing marks.LeftBracket e = refl
opening_no_closing marks.LeftBrace e = refl
opening_no_closing _ e = absurd (true≢false (sym e))

mark_same : (m n : Mark) → kinds.Mark m ≡ kinds.Mark n → m ≡ n
mark_same m n e = cc

-- a token that ends no item and is no closing bracket is one more of the running item
counts_on : (pieces : List Piece) (gs : List Glyph) (kind : TokenKind) → ReadAs gs kind → ((m : Mark) → kind ≡ kinds.Mark m → (is_separator m ≡ false) × (is_closing m ≡ false)) → IsCounted pieces gs (slice_index (items (line pieces)) 0)
counts_on pieces gs kind r tests = inr (((λ m b longest. tests m (only_mark gs kind m r b longest)), readable_token gs (readable gs kind r)), refl)

-- at most so many brackets are open
low_level : (bytes : List ℕ) (pieces : List Piece) (gs : List Glyph) → IsFaultless bytes pieces gs → level (line pieces) ≤ 32
low_level bytes pieces gs h =
    let last : IsWithin (line pieces) = all_at IsWithin (whole pieces) [] (line pieces) h.within in
    (last (line pieces) [] (sym (append-nil (line pieces)))).0

no_string_bracket : (pieces : List Piece) (gs : List Glyph) → IsString gs → Breaks rules.BracketsTooDeep pieces gs [] → ⊥
no_string_bracket pieces gs s k =
    let a = opens_code s.quote gs s.whole.0 in
    let b = bracket_code pieces gs [] k in
    let same = same_code a.0 b.0 gs a.1 b.1 in
    let quote : IsQuoteCode a.0 = a.2 in
    let bracket : IsOpeningCode b.0 = b.2 in
    omega arith

-- no bracket is too deep where the level behind what is read is not
no_deep : (pieces : List Piece) (gs : List Glyph) (kind : TokenKind) → ReadAs gs kind → ((text : List ℕ) → level_behind (level (line pieces)) (Tok kind text) ≤ 32) → Breaks rules.BracketsTooDeep pieces gs [] → ⊥
no_deep pieces gs k (as_token kind rest is) low b =
    let code = bracket_code pieces gs [] b in
    bracket_kind kind is.0 rest code.1.0 code.0 (level (line pieces)) code.2 is.2.0 (sym is.1 ∙ code.1.1) (low is.0) b.1.3
no_deep pieces gs k (as_string t s) low b = no_string_bracket pieces gs s b

long_first : (file : ℕ) (bytes : List ℕ) (pieces : List Piece) (gs : List Glyph) (kind : TokenKind) (n : ℕ) → IsFaultless bytes pieces gs → IsFitting pieces → ReadAs gs kind → ((text : List ℕ) → level_behind (level (line pieces)) (Tok kind text) ≤ 32)
    → IsCounted pieces gs n → 100 ≤ n → FirstFault file bytes (place_behind file (texts pieces)) rules.ItemTooLong
long_first file bytes pieces gs kind n h fits r low counted high = first_long_item file bytes pieces gs h fits (readable gs kind r) (no_deep pieces gs kind r low) (refl, (n, counted, high))

abbrev IsHere : ℕ → List ℕ → List Piece → Rule → Type 0
IsHere file bytes pieces rule = FirstFault file bytes (place_behind file (texts pieces)) rule

part_refused : (file : ℕ) (bytes : List ℕ) (pieces : List Piece) (gs : List Glyph) (kind : TokenKind) (rule : Rule) → IsFaultless bytes pieces gs → IsFitting pieces → ReadAs gs kind → ((text : List ℕ) → level_behind (level (line pieces)) (Tok kind text) ≤ 32)
    → ((m : Mark) → kind ≡ kinds.Mark m → (is_separator m ≡ false) × (is_closing m ≡ false)) → RefusedBy Part (items (line pieces)) rule → IsHere file bytes pieces rule
part_refused file bytes pieces gs kind rules.ItemTooLong h fits r low tests k = long_first file bytes pieces gs kind (slice_index (items (line pieces)) 0) h fits r low (counts_on pieces gs kind r tests) k
part_refused file bytes pieces gs kind _ h fits r low tests k = absurd k

mark_level : (n : ℕ) (m : Mark) (text : List ℕ) → is_opening m ≡ false → level_behind n (Tok (kinds.Mark m) text) ≤ n
mark_level n m text e = by_closing (is_closing m) (ap (λ b. cond b (n + 1) (cond (is_closing m) (n - 1) n)) e)
  where
    by_closing : (b : Bool) → level_behind n (Tok (kinds.Mark m) text) ≡ cond b (n - 1) n → level_behind n (Tok (kinds.Mark m) text) ≤ n
    by_closing true k = omega (arith, k)
    by_closing false k = omega (arith, k)

opened_level : (n : ℕ) (m : Mark) (text : List ℕ) → is_opening m ≡ true → level_behind n (Tok (kinds.Mark m) text) ≡ n + 1
opened_level n m text e = ap (λ b. cond b (n + 1) (cond (is_closing m) (n - 1) n)) e

opening_refused : (file : ℕ) (bytes : List ℕ) (pieces : List Piece) (gs : List Glyph) (m : Mark) (rule : Rule) → IsFaultless bytes pieces gs → IsFitting pieces → ReadAs gs (kinds.Mark m) → BeginsWith (mark_text m) gs → is_separator m ≡ false
    → is_opening m ≡ true → RefusedBy Opening (items (line pieces)) rule → IsHere file bytes pieces rule
opening_refused file bytes pieces gs m rules.BracketsTooDeep h fits r b sep opens k = first_deep_bracket file bytes pieces gs h fits (readable gs (kinds.Mark m) r) (refl, (m, b, opens, omega (arith, items_level (line pieces))))
opening_refused file bytes pieces gs m rules.ItemTooLong h fits r b sep opens k =
    long_first file bytes pieces gs (kinds.Mark m) (slice_index (items (line pieces)) 0) h fits r (λ text. omega (arith, opened_level (level (line pieces)) m text opens, items_level (line pieces), k.0))
    (counts_on pieces gs (kinds.Mark m) r (λ n e. let same : m ≡ n = mark_same m n e in (ap is_separator (sym same) ∙ sep, ap is_closing (sym same) ∙ opening_no_closing m opens))) k.1
opening_refused file bytes pieces gs m _ h fits r b sep opens k = absurd k

closing_refused : (file : ℕ) (bytes : List ℕ) (pieces : List Piece) (gs : List Glyph) (m : Mark) (rule : Rule) → IsFaultless bytes pieces gs → IsFitting pieces → ReadAs gs (kinds.Mark m) → BeginsWith (mark_text m) gs → IsLongest (mark_text m) gs
    → is_separator m ≡ false → is_opening m ≡ false → is_closing m ≡ true → RefusedBy Closing (items (line pieces)) rule → IsHere file bytes pieces rule
closing_refused file bytes pieces gs m rules.ItemTooLong h fits r b longest sep opens closes k =
    long_first file bytes pieces gs (kinds.Mark m) (slice_index (closed (items (line pieces))) 0) h fits r (λ text. omega (arith, mark_level (level (line pieces)) m text opens, low_level bytes pieces gs h)) (inl (m, b, longest, sep, closes, refl)) k
closing_refused file bytes pieces gs m _ h fits r b longest sep opens closes k = absurd k

mark_refused : (file : ℕ) (bytes : List ℕ) (pieces : List Piece) (gs : List Glyph) (m : Mark) (rule : Rule) (a b c : Bool) → IsFaultless bytes pieces gs → IsFitting pieces → ReadAs gs (kinds.Mark m) → BeginsWith (mark_text m) gs → IsLongest (mark_text m) gs
    → is_separator m ≡ a → is_opening m ≡ b → is_closing m ≡ c → RefusedBy (role_by a b c) (items (line pieces)) rule → IsHere file bytes pieces rule
mark_refused file bytes pieces gs m rule true b c h fits r begins longest ea eb ec k = absurd k
mark_refused file bytes pieces gs m rule false true c h fits r begins longest ea eb ec k = opening_refused file bytes pieces gs m rule h fits r begins ea eb k
mark_refused file bytes pieces gs m rule false false true h fits r begins longest ea eb ec k = closing_refused file bytes pieces gs m rule h fits r begins longest ea eb ec k
mark_refused file bytes pieces gs m rule false false false h fits r begins longest ea eb ec k =
    part_refused file bytes pieces gs (kinds.Mark m) rule h fits r (λ text. omega (arith, mark_level (level (line pieces)) m text eb, low_level bytes pieces gs h))
    (λ n e. let same : m ≡ n = mark_same m n e in (ap is_separator (sym same) ∙ ea, ap is_closing (sym same) ∙ ec)) k

-- the mark that is read begins here, and is the longest
mark_begins : (gs : List Glyph) (m : Mark) → ReadAs gs (kinds.Mark m) → BeginsWith (mark_text m) gs × IsLongest (mark_text m) gs
mark_begins gs m (as_token k rest is) =
    let P : List Glyph → Type 0 = λ t. IsLongest is.0 t in
    let Q : List ℕ → Type 0 = λ t. IsLongest t gs in
    ((rest, is.1 ∙ ap (λ t. map Char t ++ rest) is.2.0), subst Q is.2.0 (subst P (sym is.1) is.2.1))

-- the tokens that the layout makes are not read
abbrev IsLayout : TokenKind → Type 0
IsLayout kinds.Newline = Unit {0}
IsLayout kinds.Indent = Unit {0}
IsLayout kinds.Dedent = Unit {0}
IsLayout kinds.End = Unit {0}
IsLayout _ = ⊥

unwritten : (kind : TokenKind) (text : List ℕ) → IsLayout kind → Writes kind text → ⊥
unwritten kinds.Newline text h w = w
unwritten kinds.Indent text h w = w
unwritten kinds.Dedent text h w = w
unwritten kinds.End text h w = w
unwritten (kinds.Word x) text h w = h
unwritten (kinds.Keyword x) text h w = h
unwritten (kinds.Number x) text h w = h
unwritten (kinds.Quoted x) text h w = h
unwritten (kinds.Mark x) text h w = h

no_layout : (gs : List Glyph) (kind : TokenKind) → ReadAs gs kind → IsLayout kind → ⊥
no_layout gs k (as_token kind rest is) h = unwritten kind is.0 h is.2.0
no_layout gs k (as_string t s) h = h

refused_first : (file : ℕ) (bytes : List ℕ) (pieces : List Piece) (gs : List Glyph) (kind : TokenKind) (rule : Rule) → IsFaultless bytes pieces gs → IsFitting pieces → ReadAs gs kind → RefusedBy (role_of kind) (items (line pieces)) rule → IsHere file bytes pieces rule
refused_first file bytes pieces gs (kinds.Mark m) rule h fits r k =
    let begins = mark_begins gs m r in
    mark_refused file bytes pieces gs m rule (is_separator m) (is_opening m) (is_closing m) h fits r begins.0 begins.1 refl refl refl k
refused_first file bytes pieces gs (kinds.Word x) rule h fits r k = part_refused file bytes pieces gs (kinds.Word x) rule h fits r (λ text. low_level bytes pieces gs h) (λ m e. absurd (word_mark x m e)) k
  where
    word_mark : (x : List ℕ) (m : Mark) → kinds.Word x ≡ kinds.Mark m → ⊥
    word_mark x m e = cc
refused_first file bytes pieces gs (kinds.Keyword x) rule h fits r k = part_refused file bytes pieces gs (kinds.Keyword x) rule h fits r (λ text. low_level bytes pieces gs h) (λ m e. absurd (keyword_mark x m e)) k
  where
    keyword_mark : (x : Keyword) (m : Mark) → kinds.Keyword x ≡ kinds.Mark m → ⊥
    keyword_mark x m e = cc
refused_first file bytes pieces gs (kinds.Number x) rule h fits r k = part_refused file bytes pieces gs (kinds.Number x) rule h fits r (λ text. low_level bytes pieces gs h) (λ m e. absurd (number_mark x m e)) k
  where
    number_mark : (x : ℤ) (m : Mark) → kinds.Number x ≡ kinds.Mark m → ⊥
    number_mark x m e = cc
refused_first file bytes pieces gs (kinds.Quoted x) rule h fits r k = part_refused file bytes pieces gs (kinds.Quoted x) rule h fits r (λ text. low_level bytes pieces gs h) (λ m e. absurd (quoted_mark x m e)) k
  where
    quoted_mark : (x : List ℕ) (m : Mark) → kinds.Quoted x ≡ kinds.Mark m → ⊥
    quoted_mark x m e = cc
refused_first file bytes pieces gs kinds.Newline rule h fits r k = absurd (no_layout gs kinds.Newline r tt)
refused_first file bytes pieces gs kinds.Indent rule h fits r k = absurd (no_layout gs kinds.Indent r tt)
refused_first file bytes pieces gs kinds.Dedent rule h fits r k = absurd (no_layout gs kinds.Dedent r tt)
refused_first file bytes pieces gs kinds.End rule h fits r k = absurd (no_layout gs kinds.End r tt)

pub refused_at : (file : ℕ) (bytes : List ℕ) (l : Lexer) (kind : TokenKind) (stop : Stop) → IsAtToken file bytes l → ReadAs l.cursor.glyphs kind → IsRefusal l.cursor.pos (role_of kind) (items_of l.brackets) stop → IsFirstOf file bytes stop
refused_at file bytes l kind stops.NoMemory t r k = tt
refused_at file bytes l kind (stops.Fault f) t r k =
    let P : List ℕ → Type 0 = λ is. RefusedBy (role_of kind) is f.rule in
    fault_first file bytes f t.pieces f.rule (k.0 ∙ t.place) refl (refused_first file bytes t.pieces l.cursor.glyphs kind f.rule t.faultless t.fits r (subst P t.running k.1))

-- ---- inside a string

top_more : (low : ℕ) (xs ys : List ℕ) → Rising low (xs ++ ys) → top low xs ≤ top low (xs ++ ys)
top_more low [] ys h = top_above low ys h
top_more low (x ∷ xs) ys h = top_more x xs ys h.1

-- no block too many begins, where the block that the token begins has room, or none does
few_turn : (deeper : Option ℕ) (at : Pos) (old new : Lexer) (bs : List ℕ) → bs ≡ old.lines.blocks → Rising 0 bs → Turns deeper at old new → (IfSome deeper (λ level. length old.lines.blocks < 32)) → innermost bs < old.lines.lead.level → 32 ≤ length bs → ⊥
few_turn None at old new bs e rising t room less many =
    let split : bs ≡ new.lines.blocks ++ t.0.front.0 = e ∙ t.0.front.1 in
    let P : List ℕ → Type 0 = λ b. Rising 0 b in
    let tops : top 0 new.lines.blocks ≤ top 0 (new.lines.blocks ++ t.0.front.0) = top_more 0 new.lines.blocks t.0.front.0 (subst P split rising) in
    omega (arith, innermost_is bs, innermost_is new.lines.blocks, ap (top 0) split, tops, t.1, less)
few_turn (Some level) at old new bs e rising t room less many = omega (arith, ap length e, room, many)

few_open : (b : Bool) (deeper : Option ℕ) (at : Pos) (old new : Lexer) (pieces : List Piece) (gs : List Glyph) → old.lines.is_open ≡ b → is_logical (line pieces) ≡ old.lines.is_open → depth (line pieces) ≡ old.lines.lead.level
    → (old.lines.is_open ≡ false → blocks pieces ≡ old.lines.blocks) → Opens b deeper at old new → IfSome deeper (λ level. length old.lines.blocks < 32) → Breaks rules.BlocksTooDeep pieces gs [] → ⊥
few_open true deeper at old new pieces gs e shut level opened o room k = true≢false (sym (shut ∙ e) ∙ k.1.0)
few_open false deeper at old new pieces gs e shut level opened o room k =
    let P : ℕ → Type 0 = λ d. innermost (blocks pieces) < d in
    few_turn deeper at old new (blocks pieces) (opened e) (blocks_rise (whole pieces)) o.1 room (subst P level k.2) k.3

pub few_at : (file : ℕ) (bytes : List ℕ) (deeper : Option ℕ) (at : Pos) (old new : Lexer) → (t : IsAtToken file bytes old) → Opens old.lines.is_open deeper at old new → IfSome deeper (λ level. length old.lines.blocks < 32)
    → Breaks rules.BlocksTooDeep t.pieces old.cursor.glyphs [] → ⊥
few_at file bytes deeper at old new t o room k = few_open old.lines.is_open deeper at old new t.pieces old.cursor.glyphs refl t.shut t.level t.opened o room k

-- a string is one token more of the running item
pub short_at : (file : ℕ) (bytes : List ℕ) (l : Lexer) → (t : IsAtToken file bytes l) → IsString l.cursor.glyphs → slice_index (items_of l.brackets) 0 < 100 → Breaks rules.ItemTooLong t.pieces l.cursor.glyphs [] → ⊥
short_at file bytes l t s room k = by_count k.1.0 k.1.1 k.1.2
  where
    by_count : (n : ℕ) → IsCounted t.pieces l.cursor.glyphs n → 100 ≤ n → ⊥
    by_count n (inl c) high =
        let a = opens_code s.quote l.cursor.glyphs s.whole.0 in
        let begins = mark_from (mark_text c.0) (mark_front c.0) in
        no_mark_code a.0 begins.0 l.cursor.glyphs a.1 (map Char begins.1 ++ c.1.0, c.1.1 ∙ ap (λ x. map Char x ++ c.1.0) begins.2) a.2 begins.3
    by_count n (inr c) high = omega (arith, c.1, ap (λ x. slice_index x 0) t.running)

pub inner_at : (file : ℕ) (bytes : List ℕ) (l : Lexer) (f : Fault) → (t : IsAtToken file bytes l) → IsInner l.cursor f.pos f.rule → (Breaks rules.BlocksTooDeep t.pieces l.cursor.glyphs [] → ⊥)
    → (Breaks rules.ItemTooLong t.pieces l.cursor.glyphs [] → ⊥) → FirstFault file bytes f.pos f.rule
inner_at file bytes l f t i few short =
    let P : Pos → Type 0 = λ p. FirstFault file bytes p f.rule in
    subst P (sym (i.place file (texts t.pieces) t.place))
    (first_in_string file bytes t.pieces f.rule i.string.quote i.string.body i.string.rest i.front l.cursor.glyphs i.back i.glyph t.faultless t.fits few short i.string.whole i.clean i.split i.wrong (i.broken t.pieces))
