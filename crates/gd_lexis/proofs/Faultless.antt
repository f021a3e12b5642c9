-- Where the pieces of a file's front keep all bounds, no rule is broken before what is left.
use Rattle.std.proofs.Common.{◌≡◌, ℕ, List, [], ◌∷◌, ◌++◌, refl, sym, ◌∙◌, subst, All}
use Rattle.std.specs.Prelude.{◌⊎◌}
use Rattle.std.proofs.Common.{inl, inr}
use Rattle.gd_syntax.specs.declared.token.Token.{Token}
use Rattle.gd_syntax.specs.declared.pos.Pos.{Pos}
use Rattle.gd_rules.specs.declared.rule.Rule.{Rule}
use Rattle.gd_rules.specs.declared.rule.Rule.TheVariants as rules
use Rattle.gd_lexis.specs.declared.glyph.Glyph.{Glyph}
use Rattle.gd_lexis.specs.Pieces.{Piece, IsCut}
use Rattle.gd_lexis.specs.Lines.{lines_of, parted}
use Rattle.gd_lexis.specs.Lexes.{Lexes, IsWithin, AreBlocks, IndentBy}
use Rattle.gd_lexis.specs.Faults.{HasToken, Breaks, IsBroken}
use Rattle.gd_lexis.specs.Faultless.{IsLedBy}
use Rattle.gd_lexis.proofs.Cuts.{one_file, cut_begins, glyph_not_empty}
use Rattle.gd_lexis.proofs.Heads.{front}
use Rattle.gd_lexis.proofs.Numerals.{stray_character, integer_too_large, bad_number, float}
use Rattle.gd_lexis.proofs.Bounds.{brackets_too_deep, item_too_long}
use Rattle.gd_lexis.proofs.Levels.{unmatched_dedent, blocks_too_deep}
use Rattle.gd_lexis.proofs.Indents.{mixed_indentation}
use Rattle.gd_lexis.proofs.Wholes.{unterminated_string}
use Rattle.gd_lexis.proofs.Slashes.{bad_escape}
use Rattle.gd_lexis.proofs.Bytes.{not_utf8}
use Rattle.gd_lexis.proofs.Sites.{Somewhere, somewhere}
use Rattle.gd_lexis.proofs.Ahead.{none_at_end}

-- where a piece stands next, and the pieces keep all bounds from it up to an end, no rule is broken there
pub unbroken : (rule : Rule) (before : List Piece) (gs ahead end : List Glyph) (p : Piece) (ps all : List Piece) (c : ℕ) → IsCut gs (p ∷ ps) end → all ≡ before ++ p ∷ ps
    → All IsWithin (lines_of all) → AreBlocks (lines_of all) → IndentBy c (lines_of all) → (HasToken end → IsLedBy c (parted all).rest) → Breaks rule before gs ahead → ⊥
unbroken rules.NotUtf8 before gs ahead end p ps all c cut e within blocks indented led h = not_utf8 before gs ahead (p ∷ ps) (front p cut.0 ps refl cut.1 cut.2) h
unbroken rules.MixedIndentation before gs ahead end p ps all c cut e within blocks indented led h = mixed_indentation c before gs ahead end p ps all cut e indented led h
unbroken rules.UnmatchedDedent before gs ahead end p ps all c cut e within blocks indented led h = unmatched_dedent before gs ahead (p ∷ ps) all (front p cut.0 ps refl cut.1 cut.2) e blocks h
unbroken rules.UnterminatedString before gs ahead end p ps all c cut e within blocks indented led h = unterminated_string before gs ahead (p ∷ ps) (front p cut.0 ps refl cut.1 cut.2) h
unbroken rules.BadEscape before gs ahead end p ps all c cut e within blocks indented led h = bad_escape before gs ahead (p ∷ ps) (front p cut.0 ps refl cut.1 cut.2) h
unbroken rules.StrayCharacter before gs ahead end p ps all c cut e within blocks indented led h = stray_character before gs ahead (p ∷ ps) (front p cut.0 ps refl cut.1 cut.2) h
unbroken rules.Float before gs ahead end p ps all c cut e within blocks indented led h = float before gs ahead (p ∷ ps) (front p cut.0 ps refl cut.1 cut.2) h
unbroken rules.IntegerTooLarge before gs ahead end p ps all c cut e within blocks indented led h = integer_too_large before gs ahead (p ∷ ps) (front p cut.0 ps refl cut.1 cut.2) h
unbroken rules.BadNumber before gs ahead end p ps all c cut e within blocks indented led h = bad_number before gs ahead (p ∷ ps) (front p cut.0 ps refl cut.1 cut.2) h
unbroken rules.BracketsTooDeep before gs ahead end p ps all c cut e within blocks indented led h = brackets_too_deep before gs ahead (p ∷ ps) all (front p cut.0 ps refl cut.1 cut.2) e within h
unbroken rules.BlocksTooDeep before gs ahead end p ps all c cut e within blocks indented led h = blocks_too_deep before gs ahead (p ∷ ps) all (front p cut.0 ps refl cut.1 cut.2) e blocks h
unbroken rules.ItemTooLong before gs ahead end p ps all c cut e within blocks indented led h = item_too_long before gs ahead (p ∷ ps) all (front p cut.0 ps refl cut.1 cut.2) e within h
unbroken _ before gs ahead end p ps all c cut e within blocks indented led h = absurd h

-- ---- a whole file

nothing_left : (gs : List Glyph) → gs ≡ [] → Somewhere gs → ⊥
nothing_left gs e h = glyph_not_empty h.0 h.1 (sym h.2 ∙ e)

unbroken_whole : (rule : Rule) (before : List Piece) (gs ahead : List Glyph) (ps all : List Piece) (c : ℕ) → IsCut gs ps [] → all ≡ before ++ ps
    → All IsWithin (lines_of all) → AreBlocks (lines_of all) → IndentBy c (lines_of all) → Breaks rule before gs ahead → ⊥
unbroken_whole rule before gs ahead [] all c cut e within blocks indented h = nothing_left gs cut (somewhere rule before gs ahead h)
unbroken_whole rule before gs ahead (p ∷ ps) all c cut e within blocks indented h =
    unbroken rule before gs ahead [] p ps all c cut e within blocks indented (λ t. absurd (none_at_end t refl)) h

by_either : (rule : Rule) (before : List Piece) (gs ahead : List Glyph) (ps all : List Piece) → IsCut gs ps [] → all ≡ before ++ ps
    → All IsWithin (lines_of all) → AreBlocks (lines_of all) → IndentBy 32 (lines_of all) ⊎ IndentBy 9 (lines_of all) → Breaks rule before gs ahead → ⊥
by_either rule before gs ahead ps all cut e within blocks (inl indented) h = unbroken_whole rule before gs ahead ps all 32 cut e within blocks indented h
by_either rule before gs ahead ps all cut e within blocks (inr indented) h = unbroken_whole rule before gs ahead ps all 9 cut e within blocks indented h

-- a file with tokens breaks no rule
pub no_fault_beside_tokens : (file : ℕ) (bytes : List ℕ) (tokens : List Token) (rule : Rule) (at : Pos) → Lexes file bytes tokens → IsBroken file bytes rule at → ⊥
no_fault_beside_tokens file bytes tokens rule at h k =
    let glyphs = one_file bytes k.0 h.glyphs k.4 h.read in
    let P : List Glyph → Type 0 = λ gs. IsCut gs h.pieces [] in
    let f = cut_begins k.1 h.pieces k.0 k.2 k.5 (subst P (sym glyphs) h.cut) in
    by_either rule k.1 k.2 k.3 f.0 h.pieces f.2 f.1 h.within h.blocks h.indented k.6
