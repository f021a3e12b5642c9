-- What each step of the lexer keeps.
use Rattle.std.proofs.Common.{◌≡◌, ℕ, ◌-◌, ◌<◌, ◌≤◌, Bool, true, false, nat_lt, List, [], ◌∷◌, ◌++◌, length, replicate, drop, slice_get, refl, ap, sym, ◌∙◌, arith, subst, length-append, inl, inr}
use Rattle.std.specs.Prelude.{Option, Some, None}
use Rattle.gd_syntax.specs.declared.pos.Pos.{Pos}
use Rattle.gd_syntax.specs.declared.token.Token.{Token}
use Rattle.gd_syntax.specs.declared.token.TokenKind.{TokenKind}
use Rattle.gd_syntax.specs.declared.token.TokenKind.TheVariants as kinds
use Rattle.gd_lexis.specs.declared.glyph.Glyph.{Glyph}
use Rattle.gd_lexis.specs.declared.glyph.Glyph.TheVariants.{Char}
use Rattle.gd_lexis.specs.Pieces.{Blank, LineFeed, Join, Comment, Stands}
use Rattle.gd_lexis.specs.Lines.{lines_of, token, innermost, open_blocks}
use Rattle.gd_lexis.proofs.Levels.{Rising, blocks_rise}
use Rattle.gd_lexer.specs.declared.lines.Blank.{Blank as Kind}
use Rattle.gd_lexer.specs.declared.lines.Lead.{Lead}
use Rattle.gd_lexer.specs.declared.lines.Lines.{Lines}
use Rattle.gd_lexer.specs.declared.lexer.Lexer.{Lexer}
use Rattle.gd_lexer.specs.Cursor.{Spot, sees}
use Rattle.gd_lexer.specs.Cut.{code_of, IsCommentText}
use Rattle.gd_lexer.specs.Follows.{Follows}
use Rattle.gd_lexer.specs.Found.{FoundList}
use Rattle.gd_lexer.specs.Token.{IsToken}
use Rattle.gd_lexer.specs.Brackets.{FitsBy, items_of, items_after, role_of, ended_if}
use Rattle.gd_lexer.specs.Begun.{whole, line, newline_if}
use Rattle.gd_lexer.specs.Lines.{LeadBy, Keeps, KeepsLine, new_lead}
use Rattle.gd_lexer.specs.Laid.{IsLaid, AreLaid, Holds, IsKept}
use Rattle.gd_lexer.specs.Opening.{AreClosed, BeginsLine, Opens, Deepens, KeepsRest}
use Rattle.gd_lexer.proofs.MarkMeets.{head_seen}
use Rattle.gd_lexer.proofs.CutLemmas.{one_blank, a_blank, feed_next, second_is, third_is}
use Rattle.gd_lexer.proofs.LineLemmas.{open_blocks_more}
use Rattle.gd_lexer.proofs.BlockLemmas.{IsTurn, deeper_turn, closing_turn, few_blocks}
use Rattle.gd_lexer.proofs.EndLemmas.{laid_end}
use Rattle.gd_lexer.proofs.ReadLemmas.{laid_silent, laid_blank, laid_feed, laid_later, laid_first}

-- ---- pieces that are no tokens

same_lines : (old new : Lines) → new.kind ≡ old.kind → new.lead ≡ old.lead → new.is_open ≡ old.is_open → new.blocks ≡ old.blocks → new ≡ old
same_lines old new e f g h = rw (e, f, g, h) refl

blank_by : (b : Bool) (file : ℕ) (all : List Glyph) (s t : Spot) (running : List ℕ) (old new : Lines) (tokens : List Token) (kind : Kind) (pos : Pos) → old.is_open ≡ b → Keeps old new → new.kind ≡ old.kind
    → LeadBy b kind pos old.lead new.lead → new.lead.hidden ≡ None → pos ≡ s.pos → Follows s t → s.glyphs ≡ Char (code_of kind) ∷ t.glyphs → Stands (Blank (code_of kind)) t.glyphs
    → (old.lead.hidden ≡ None → IsLaid file all s running old tokens) → IsLaid file all t running new tokens
blank_by true file all s t running old new tokens kind pos token keeps same by none at f e stands h =
    let P : Lines → Type 0 = λ l. IsLaid file all t running l tokens in
    subst P (sym (same_lines old new same by keeps.1 keeps.0))
    (laid_silent file all s t running old tokens (Blank (code_of kind)) refl (inl refl) (inr token) f e stands (h (ap (λ (l : Lead). l.hidden) (sym by) ∙ none)))
blank_by false file all s t running old new tokens kind pos shut keeps same by none at f e stands h =
    laid_blank file all s t running old new tokens kind pos shut keeps.0 keeps.1 same by at f e stands (h (sym by.3 ∙ none))

pub blank_step : (file : ℕ) (all : List Glyph) (s t : Spot) (running : List ℕ) (old new : Lines) (tokens : List Token) (kind : Kind) (pos : Pos) → Keeps old new → new.kind ≡ old.kind
    → LeadBy old.is_open kind pos old.lead new.lead → new.lead.hidden ≡ None → pos ≡ s.pos → Follows s t → Some (Char (code_of kind)) ≡ slice_get s.glyphs 0 → t.glyphs ≡ drop 1 s.glyphs
    → (old.lead.hidden ≡ None → IsLaid file all s running old tokens) → IsLaid file all t running new tokens
blank_step file all s t running old new tokens kind pos keeps same by none at f head tail h =
    let one = one_blank (code_of kind) s t (a_blank kind t.glyphs) head tail in
    blank_by old.is_open file all s t running old new tokens kind pos refl keeps same by none at f one.0 one.1 h

pub return_step : (file : ℕ) (all : List Glyph) (s t : Spot) (running : List ℕ) (l : Lines) (tokens : List Token) → Follows s t → Some (Char 13) ≡ slice_get s.glyphs 0 → sees 10 s.glyphs 1 ≡ true
    → t.glyphs ≡ drop 1 s.glyphs → IsLaid file all s running l tokens → IsLaid file all t running l tokens
return_step file all s t running l tokens f head feed tail h =
    let one = one_blank 13 s t (inr (inr (refl, feed_next s t feed tail))) head tail in
    laid_silent file all s t running l tokens (Blank 13) refl (inl refl) (inl refl) f one.0 one.1 h

pub join_step : (file : ℕ) (all : List Glyph) (s t : Spot) (running : List ℕ) (l : Lines) (tokens : List Token) → Some (Char 92) ≡ slice_get s.glyphs 0 → sees 10 s.glyphs 1 ≡ true → t.glyphs ≡ drop 2 s.glyphs
    → Follows s t → IsLaid file all s running l tokens → IsLaid file all t running l tokens
join_step file all s t running l tokens head next tail f h =
    laid_silent file all s t running l tokens (Join (10 ∷ [])) refl (inl refl) (inl refl) f (second_is s.glyphs 92 10 head next ∙ ap (λ g. Char 92 ∷ Char 10 ∷ g) (sym tail)) (inl refl) h

pub join_return_step : (file : ℕ) (all : List Glyph) (s t : Spot) (running : List ℕ) (l : Lines) (tokens : List Token) → Some (Char 92) ≡ slice_get s.glyphs 0 → sees 13 s.glyphs 1 ≡ true → sees 10 s.glyphs 2 ≡ true
    → t.glyphs ≡ drop 3 s.glyphs → Follows s t → IsLaid file all s running l tokens → IsLaid file all t running l tokens
join_return_step file all s t running l tokens head next last tail f h =
    laid_silent file all s t running l tokens (Join (13 ∷ 10 ∷ [])) refl (inl refl) (inl refl) f (third_is s.glyphs 92 13 10 head next last ∙ ap (λ g. Char 92 ∷ Char 13 ∷ Char 10 ∷ g) (sym tail)) (inr refl) h

pub comment_step : (file : ℕ) (all : List Glyph) (s u t : Spot) (running : List ℕ) (l : Lines) (tokens : List Token) → Some (Char 35) ≡ slice_get s.glyphs 0 → u.glyphs ≡ drop 1 s.glyphs → Follows s t
    → IsCommentText u.glyphs t.glyphs → IsLaid file all s running l tokens → IsLaid file all t running l tokens
comment_step file all s u t running l tokens head tail f text h =
    laid_silent file all s t running l tokens (Comment text.0) refl (inl refl) (inl refl) f (head_seen s.glyphs (Char 35) (sym head) ∙ ap (λ g. Char 35 ∷ g) (sym tail ∙ text.1)) text.2 h

-- ---- line ends

pub feed_seen : (s t : Spot) → Some (Char 10) ≡ slice_get s.glyphs 0 → t.glyphs ≡ drop 1 s.glyphs → s.glyphs ≡ Char 10 ∷ t.glyphs
feed_seen s t head tail = head_seen s.glyphs (Char 10) (sym head) ∙ ap (λ g. Char 10 ∷ g) (sym tail)

pub inner_feed_step : (file : ℕ) (all : List Glyph) (s t : Spot) (running : List ℕ) (l : Lines) (tokens : List Token) → nat_lt 1 (length running) ≡ true → Some (Char 10) ≡ slice_get s.glyphs 0
    → t.glyphs ≡ drop 1 s.glyphs → Follows s t → IsLaid file all s running l tokens → IsLaid file all t running l tokens
inner_feed_step file all s t running l tokens deep head tail f h = laid_silent file all s t running l tokens LineFeed refl (inr deep) (inl refl) f (feed_seen s t head tail) tt h

pub feed_step : (file : ℕ) (all : List Glyph) (s t : Spot) (running ended : List ℕ) (old mid new : Lines) (tokens more : List Token) (pos : Pos) → pos ≡ s.pos → nat_lt 1 (length running) ≡ false
    → ended ≡ ended_if old.is_open running → mid ≡ old → new.is_open ≡ false → new.blocks ≡ mid.blocks → new.kind ≡ mid.kind → new.lead ≡ new_lead mid.kind → more ≡ tokens ++ newline_if old.is_open pos
    → Some (Char 10) ≡ slice_get s.glyphs 0 → t.glyphs ≡ drop 1 s.glyphs → Follows s t → IsLaid file all s running old tokens → IsLaid file all t ended new more
feed_step file all s t running ended old mid new tokens more pos at shallow is kept shut same kind lead pushed head tail f h =
    let P : Pos → Type 0 = λ p. more ≡ tokens ++ newline_if old.is_open p in
    laid_feed file all s t running ended old new tokens more shallow is shut (same ∙ ap (λ (l : Lines). l.blocks) kept) (kind ∙ ap (λ (l : Lines). l.kind) kept) (lead ∙ ap (λ (l : Lines). new_lead l.kind) kept) (subst P at pushed) f
    (feed_seen s t head tail) h

-- ---- tokens

-- the open blocks rise, and are few
blocks_kept : (file : ℕ) (all : List Glyph) (s : Spot) (running : List ℕ) (l : Lines) (tokens : List Token) → IsLaid file all s running l tokens → Rising 0 l.blocks × (length l.blocks ≤ 32)
blocks_kept file all s running l tokens h =
    let P : List ℕ → Type 0 = λ bs. Rising 0 bs × (length bs ≤ 32) in
    let are : l.blocks ≡ open_blocks (lines_of h.pieces) = h.lines_are.open_blocks ∙ sym (open_blocks_more (whole h.pieces) (line h.pieces)) in
    subst P (sym are) (blocks_rise (lines_of h.pieces), few_blocks (lines_of h.pieces) h.matched)

-- what was done when the token was read and counted
pub record IsTaken (kind : TokenKind) (a d : Lexer) : Type 0 where
  pub read : IsToken kind a.cursor.glyphs d.cursor.glyphs
  pub follows : Follows a.cursor d.cursor
  pub items_are : items_of d.brackets ≡ items_after kind (items_of a.brackets)
  pub room : FitsBy (role_of kind) (items_of a.brackets)
  pub found : d.found ≡ a.found
  pub lines : d.lines ≡ a.lines

later_step : (file : ℕ) (all : List Glyph) (old t : Lexer) (pos : Pos) (kind : TokenKind) (more : List Token) → old.lines.is_open ≡ true → pos ≡ old.cursor.pos → IsTaken kind old t
    → more ≡ t.found.tokens ++ token pos kind ∷ [] → t.lines.lead.hidden ≡ None → Holds file all old → IsLaid file all t.cursor (items_of t.brackets) t.lines more
later_step file all old t pos kind more there at taken pushed none holds =
    let P : Lines → Type 0 = λ l. IsLaid file all t.cursor (items_of t.brackets) l more in
    let words : more ≡ old.found.tokens ++ token old.cursor.pos kind ∷ [] = pushed ∙ ap (λ (f : FoundList). f.tokens ++ token pos kind ∷ []) taken.found ∙ ap (λ p. old.found.tokens ++ token p kind ∷ []) at in
    subst P (sym taken.lines)
    (laid_later file all old.cursor t.cursor (items_of old.brackets) (items_of t.brackets) old.lines old.found.tokens more kind taken.read.0 there taken.items_are taken.room words taken.follows taken.read.1 taken.read.2
    (holds (ap (λ (l : Lines). l.lead.hidden) (sym taken.lines) ∙ none)))

-- the token is the first of its line: before it was read its line began, and behind it the blocks had turned
first_step : (file : ℕ) (all : List Glyph) (old a d : Lexer) (pos : Pos) (kind : TokenKind) (turned more : List Token) → old.lines.is_open ≡ false → pos ≡ old.cursor.pos → BeginsLine old a → a.cursor ≡ old.cursor
    → IsToken kind a.cursor.glyphs d.cursor.glyphs → Follows a.cursor d.cursor → items_of d.brackets ≡ items_after kind (items_of a.brackets) → FitsBy (role_of kind) (items_of a.brackets) → KeepsLine a.lines d.lines
    → (Rising 0 old.lines.blocks → IsTurn pos old.lines.blocks old.lines.lead.level d.lines.blocks turned) → (length old.lines.blocks ≤ 32 → length d.lines.blocks ≤ 32)
    → more ≡ (old.found.tokens ++ turned) ++ token pos kind ∷ [] → d.lines.lead.hidden ≡ None → Holds file all old → IsLaid file all d.cursor (items_of d.brackets) d.lines more
first_step file all old a d pos kind turned more shut at begun same read follows is room keeps turns few pushed none holds =
    let lead = keeps.1 ∙ begun.lead in
    let h = holds (ap (λ (l : Lead). l.hidden) (sym lead) ∙ none) in
    let blocks = blocks_kept file all old.cursor (items_of old.brackets) old.lines old.found.tokens h in
    let P : Pos → Type 0 = λ p. IsTurn p old.lines.blocks old.lines.lead.level d.lines.blocks turned in
    let Q : Pos → Type 0 = λ p. more ≡ (old.found.tokens ++ turned) ++ token p kind ∷ [] in
    let R : Spot → Type 0 = λ s. Follows s d.cursor in
    let S : Spot → Type 0 = λ s. IsToken kind s.glyphs d.cursor.glyphs in
    let items_same = ap items_of begun.brackets in
    let T : List ℕ → Type 0 = λ is. FitsBy (role_of kind) is in
    let token_is = subst S same read in
    laid_first file all old.cursor d.cursor (items_of old.brackets) (items_of d.brackets) old.lines d.lines old.found.tokens turned more kind token_is.0 shut (keeps.0 ∙ begun.has_token) lead (keeps.2 ∙ begun.kind) begun.one
    (subst P at (turns blocks.0)) (few blocks.1) (is ∙ ap (items_after kind) items_same) (subst T items_same room) (subst Q at pushed) (subst R same follows) token_is.1 token_is.2 h

deeper_few : (bs cs : List ℕ) (d : ℕ) → length bs < 32 → cs ≡ bs ++ d ∷ [] → length cs ≤ 32
deeper_few bs cs d h e = omega (arith, ap length e, length-append bs (d ∷ []))

closed_few : (bs cs more : List ℕ) → bs ≡ cs ++ more → length bs ≤ 32 → length cs ≤ 32
closed_few bs cs more e h = omega (arith, ap length e, length-append cs more)

by_opening : (file : ℕ) (all : List Glyph) (o : Bool) (deeper : Option ℕ) (old a t d : Lexer) (pos : Pos) (kind : TokenKind) (more : List Token) → old.lines.is_open ≡ o → pos ≡ old.cursor.pos → Opens o deeper pos old a
    → a.cursor ≡ old.cursor → IsTaken kind a t → d.cursor ≡ t.cursor → Deepens deeper pos t d → more ≡ d.found.tokens ++ token pos kind ∷ [] → d.lines.lead.hidden ≡ None → Holds file all old
    → IsLaid file all d.cursor (items_of d.brackets) d.lines more
by_opening file all true deeper old a t d pos kind more there at opens same taken spot deepens pushed none holds =
    let P : Option ℕ → Type 0 = λ o. Deepens o pos t d in
    let still : d ≡ t = subst P opens.0 deepens in
    let Q : Lexer → Type 0 = λ x. IsTaken kind x t in
    let R : Lexer → Type 0 = λ x. IsLaid file all x.cursor (items_of x.brackets) x.lines more in
    subst R (sym still)
    (later_step file all old t pos kind more there at (subst Q opens.1 taken) (pushed ∙ ap (λ (x : Lexer). x.found.tokens ++ token pos kind ∷ []) still) (ap (λ (x : Lexer). x.lines.lead.hidden) (sym still) ∙ none) holds)
by_opening file all false (Some level) old a t d pos kind more shut at opens same taken spot deeper pushed none holds =
    let turns = opens.1 in
    let P : Spot → Type 0 = λ s. Follows a.cursor s in
    let Q : Spot → Type 0 = λ s. IsToken kind a.cursor.glyphs s.glyphs in
    let R : Lines → Type 0 = λ l. KeepsLine l d.lines in
    let open_are : t.lines.blocks ≡ old.lines.blocks = ap (λ (l : Lines). l.blocks) taken.lines ∙ turns.2 in
    let behind : d.lines.blocks ≡ old.lines.blocks ++ level ∷ [] = deeper.blocks ∙ ap (λ bs. bs ++ level ∷ []) open_are in
    let S : List ℕ → Type 0 = λ cs. IsTurn pos old.lines.blocks level cs (token pos kinds.Indent ∷ []) in
    let T : ℕ → Type 0 = λ n. IsTurn pos old.lines.blocks n d.lines.blocks (token pos kinds.Indent ∷ []) in
    let U : List ℕ → Type 0 = λ bs. length bs < 32 in
    first_step file all old a d pos kind (token pos kinds.Indent ∷ []) more shut at opens.0 same (subst Q (sym spot) taken.read) (subst P (sym spot) taken.follows) (ap items_of deeper.brackets ∙ taken.items_are) taken.room
    (subst R taken.lines deeper.line) (λ rises. subst T turns.0 (subst S (sym behind) (deeper_turn pos old.lines.blocks level rises turns.1)))
    (λ _. deeper_few old.lines.blocks d.lines.blocks level (subst U open_are deeper.room) behind)
    (pushed ∙ ap (λ ts. ts ++ token pos kind ∷ []) (deeper.indent ∙ ap (λ (f : FoundList). f.tokens ++ token pos kinds.Indent ∷ []) (taken.found ∙ turns.3))) none holds
by_opening file all false None old a t d pos kind more shut at opens same taken spot still pushed none holds =
    let closed = opens.1.0 in
    let dedents = replicate (length old.lines.blocks - length a.lines.blocks) (token pos kinds.Dedent) in
    let P : Spot → Type 0 = λ s. Follows a.cursor s in
    let Q : Spot → Type 0 = λ s. IsToken kind a.cursor.glyphs s.glyphs in
    let lines : d.lines ≡ a.lines = ap (λ (x : Lexer). x.lines) still ∙ taken.lines in
    let S : Lines → Type 0 = λ l. IsTurn pos old.lines.blocks old.lines.lead.level l.blocks dedents in
    let U : Lines → Type 0 = λ l. length l.blocks ≤ 32 in
    first_step file all old a d pos kind dedents more shut at opens.0 same (subst Q (sym spot) taken.read) (subst P (sym spot) taken.follows) (ap (λ (x : Lexer). items_of x.brackets) still ∙ taken.items_are) taken.room
    (ap (λ (l : Lines). l.is_open) lines, ap (λ (l : Lines). l.lead) lines, ap (λ (l : Lines). l.kind) lines)
    (λ rises. subst S (sym lines) (closing_turn pos old.lines.blocks a.lines.blocks closed.front.0 old.lines.lead.level rises closed.front.1 closed.same opens.1.1))
    (λ few. subst U (sym lines) (closed_few old.lines.blocks a.lines.blocks closed.front.0 closed.front.1 few))
    (pushed ∙ ap (λ (x : Lexer). x.found.tokens ++ token pos kind ∷ []) still ∙ ap (λ (f : FoundList). f.tokens ++ token pos kind ∷ []) taken.found ∙ ap (λ ts. ts ++ token pos kind ∷ []) closed.dedents) none holds

-- a token that was opened, read, counted and added
pub token_step : (file : ℕ) (all : List Glyph) (deeper : Option ℕ) (old a b t d : Lexer) (pos : Pos) (kind : TokenKind) (more : List Token) → pos ≡ old.cursor.pos → Opens old.lines.is_open deeper pos old a
    → a.cursor ≡ old.cursor → KeepsRest a b → Follows a.cursor b.cursor → IsToken kind a.cursor.glyphs b.cursor.glyphs → t.cursor ≡ b.cursor → t.found ≡ b.found → t.lines ≡ b.lines
    → items_of t.brackets ≡ items_after kind (items_of b.brackets) → FitsBy (role_of kind) (items_of b.brackets) → d.cursor ≡ t.cursor → Deepens deeper pos t d → more ≡ d.found.tokens ++ token pos kind ∷ []
    → d.lines.lead.hidden ≡ None → Holds file all old → IsLaid file all d.cursor (items_of d.brackets) d.lines more
token_step file all deeper old a b t d pos kind more at opens same keeps follows read spot found lines is room still deepens pushed none holds =
    let P : Spot → Type 0 = λ s. Follows a.cursor s in
    let Q : Spot → Type 0 = λ s. IsToken kind a.cursor.glyphs s.glyphs in
    let R : List ℕ → Type 0 = λ t. FitsBy (role_of kind) t in
    let items_same = ap items_of keeps.2 in
    by_opening file all old.lines.is_open deeper old a t d pos kind more refl at opens same (record {
      read = subst Q (sym spot) read;
      follows = subst P (sym spot) follows;
      items_are = is ∙ ap (items_after kind) items_same;
      room = subst R items_same room;
      found = found ∙ keeps.0;
      lines = lines ∙ keeps.1;
    }) still deepens pushed none holds

-- ---- the same, told in other words

pub laid_same : (file : ℕ) (all : List Glyph) (s : Spot) (running other : List ℕ) (l m : Lines) (tokens more : List Token) → other ≡ running → m ≡ l → more ≡ tokens → IsLaid file all s running l tokens
    → IsLaid file all s other m more
laid_same file all s running other l m tokens more e f g h =
    let P : List ℕ → Type 0 = λ t. IsLaid file all s t m more in
    let Q : Lines → Type 0 = λ t. IsLaid file all s running t more in
    let R : List Token → Type 0 = λ t. IsLaid file all s running l t in
    subst P (sym e) (subst Q (sym f) (subst R (sym g) h))

pub end_step : (file : ℕ) (all : List Glyph) (s : Spot) (running : List ℕ) (l : Lines) (tokens ended closed out : List Token) (bs left : List ℕ) (pos : Pos) → pos ≡ s.pos → s.glyphs ≡ [] → ended ≡ tokens ++ newline_if l.is_open pos
    → bs ≡ l.blocks → AreClosed 0 pos bs left ended closed → innermost left ≤ 0 → out ≡ closed ++ token pos kinds.End ∷ [] → IsLaid file all s running l tokens → AreLaid file all out
end_step file all s running l tokens ended closed out bs left pos at e n same c low pushed h =
    let P : Pos → Type 0 = λ p. ended ≡ tokens ++ newline_if l.is_open p in
    let Q : Pos → Type 0 = λ p. AreClosed 0 p l.blocks left ended closed in
    let R : List ℕ → Type 0 = λ t. AreClosed 0 pos t left ended closed in
    let S : Pos → Type 0 = λ p. out ≡ closed ++ token p kinds.End ∷ [] in
    laid_end file all s running l tokens ended closed out left e (subst P at n) (subst Q at (subst R same c)) low (subst S at pushed) h

-- ---- what is kept of the line's beginning

opened_lead : (o : Bool) (deeper : Option ℕ) (pos : Pos) (old a : Lexer) → old.lines.is_open ≡ o → Opens o deeper pos old a → IsKept old → (a.lines.lead ≡ old.lines.lead) × (old.lines.lead.mixed ≡ None)
opened_lead true deeper pos old a there opens h = (ap (λ (x : Lexer). x.lines.lead) opens.1, h.settled there)
opened_lead false deeper pos old a shut opens h = (opens.0.lead, opens.0.one)

deepened_lead : (deeper : Option ℕ) (pos : Pos) (t d : Lexer) → Deepens deeper pos t d → d.lines.lead ≡ t.lines.lead
deepened_lead None pos t d still = ap (λ (x : Lexer). x.lines.lead) still
deepened_lead (Some level) pos t d deeper = deeper.line.1

pub token_lead : (deeper : Option ℕ) (old a b t d : Lexer) (pos : Pos) → Opens old.lines.is_open deeper pos old a → KeepsRest a b → t.lines ≡ b.lines → Deepens deeper pos t d → IsKept old → d.lines.lead ≡ old.lines.lead
token_lead deeper old a b t d pos opens keeps lines deepens h =
    deepened_lead deeper pos t d deepens ∙ ap (λ (l : Lines). l.lead) (lines ∙ keeps.1) ∙ (opened_lead old.lines.is_open deeper pos old a refl opens h).0

pub token_kept : (deeper : Option ℕ) (old a b t d : Lexer) (pos : Pos) → Opens old.lines.is_open deeper pos old a → KeepsRest a b → t.lines ≡ b.lines → Deepens deeper pos t d → old.cursor.offset ≤ d.cursor.offset → IsKept old
    → IsKept d
token_kept deeper old a b t d pos opens keeps lines deepens further h =
    let was = opened_lead old.lines.is_open deeper pos old a refl opens h in
    let lead = token_lead deeper old a b t d pos opens keeps lines deepens h in
    let level : d.lines.lead.level ≡ old.lines.lead.level = ap (λ (l : Lead). l.level) lead in
    record {
      settled = λ _. ap (λ (l : Lead). l.mixed) lead ∙ was.1;
      put_off = λ _. ap (λ (l : Lead). l.hidden) lead ∙ h.put_off was.1;
      short = omega (arith, h.short);
    }
