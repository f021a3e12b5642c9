use Rattle.std.proofs.Common.{[], ◌∷◌, refl, sym, ap, ◌∙◌, inl, inr}
use Rattle.std.proofs.lemmas.Bool.{and_parts}
use Rattle.gd_lexer.specs.Brackets.{items_of}
use Rattle.gd_lexer.specs.Cursor.{sees}
use Rattle.gd_lexer.proofs.StepLemmas.{join_step, join_return_step}
use Rattle.gd_lexer.proofs.TrailLemmas.{same_trail, join_far, join_return_far}
use Rattle.gd_lexer.proofs.StrayLemmas.{slash_strays}
use Rattle.gd_lexis.specs.declared.glyph.Glyph.TheVariants.{Char}
use Rattle.gd_lexis.specs.Pieces.{Join}
use Rattle.gd_lexer.proofs.CutLemmas.{second_is, third_is}
use Rattle.gd_lexer.proofs.NotedLemmas.{silent_piece}
use Rattle.gd_lexer.proofs.lexer.Lexer.join.Goals as goal

pub returns-then-is_joined-clause-reads : goal.returns-then-is_joined-clause-reads
returns-then-is_joined-clause-reads c file all holds none =
    let old = c.args.self.now in
    join_step file all old.cursor c.advance_two.new.self (items_of old.brackets) old.lines old.found.tokens c.requires.head (sym c.sees_second-is_joined.ensures ∙ c.if-is_joined.true) c.advance_two.ensures.rest
    c.advance_two.ensures.follows (holds none)

pub returns-then-is_joined_behind_return-clause-reads : goal.returns-then-is_joined_behind_return-clause-reads
returns-then-is_joined_behind_return-clause-reads c file all holds none =
    let old = c.args.self.now in
    let gs = old.cursor.glyphs in
    let seen = and_parts (sees 13 gs 1) (sees 10 gs 2) (sym c.sees_line_end-is_joined_behind_return.ensures ∙ c.if-is_joined_behind_return.true) in
    join_return_step file all old.cursor c.advance_three.new.self (items_of old.brackets) old.lines old.found.tokens c.requires.head seen.0 seen.1 c.advance_three.ensures.rest c.advance_three.ensures.follows (holds none)

pub returns-then-is_joined-clause-trails : goal.returns-then-is_joined-clause-trails
returns-then-is_joined-clause-trails c =
    let old = c.args.self.now in
    same_trail old _ refl refl (join_far old.cursor.glyphs c.advance_two.new.self.glyphs c.requires.head (sym c.sees_second-is_joined.ensures ∙ c.if-is_joined.true) c.advance_two.ensures.rest)

pub returns-then-is_joined_behind_return-clause-trails : goal.returns-then-is_joined_behind_return-clause-trails
returns-then-is_joined_behind_return-clause-trails c =
    let old = c.args.self.now in
    let gs = old.cursor.glyphs in
    let seen = and_parts (sees 13 gs 1) (sees 10 gs 2) (sym c.sees_line_end-is_joined_behind_return.ensures ∙ c.if-is_joined_behind_return.true) in
    same_trail old _ refl refl (join_return_far gs c.advance_three.new.self.glyphs c.requires.head seen.0 seen.1 c.advance_three.ensures.rest)

pub stray-requires-clause-strays : goal.stray-requires-clause-strays
stray-requires-clause-strays c =
    slash_strays c.args.self.now.cursor.glyphs c.requires.head (sym c.sees_second-is_joined.ensures ∙ c.if-is_joined.false) (sym c.sees_line_end-is_joined_behind_return.ensures ∙ c.if-is_joined_behind_return.false)

pub returns-then-is_joined-clause-notes : goal.returns-then-is_joined-clause-notes
returns-then-is_joined-clause-notes c =
    let old = c.args.self.now in
    silent_piece old _ (Join (10 ∷ [])) c.advance_two.ensures.follows (λ none. none)
    (second_is old.cursor.glyphs 92 10 c.requires.head (sym c.sees_second-is_joined.ensures ∙ c.if-is_joined.true) ∙ ap (λ g. Char 92 ∷ Char 10 ∷ g) (sym c.advance_two.ensures.rest)) (inl refl) refl refl

pub returns-then-is_joined_behind_return-clause-notes : goal.returns-then-is_joined_behind_return-clause-notes
returns-then-is_joined_behind_return-clause-notes c =
    let old = c.args.self.now in
    let gs = old.cursor.glyphs in
    let seen = and_parts (sees 13 gs 1) (sees 10 gs 2) (sym c.sees_line_end-is_joined_behind_return.ensures ∙ c.if-is_joined_behind_return.true) in
    silent_piece old _ (Join (13 ∷ 10 ∷ [])) c.advance_three.ensures.follows (λ none. none)
    (third_is gs 92 13 10 c.requires.head seen.0 seen.1 ∙ ap (λ g. Char 92 ∷ Char 13 ∷ Char 10 ∷ g) (sym c.advance_three.ensures.rest)) (inr refl) refl refl
