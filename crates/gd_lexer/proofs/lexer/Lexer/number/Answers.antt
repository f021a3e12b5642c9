use Rattle.std.proofs.Common.{◌≡◌, ◌∙◌, sym, subst, List}
use Rattle.std.specs.Prelude.{ℕ, ◌<◌, ◌^◌, Result, ℤ, pos, Ok, Err}
use Rattle.std.proofs.Common.{arith}
use mir.Val.{SFits, to_z, of_z}
use mir.Syntax.{w64}
use Rattle.std.proofs.lemmas.Int.{to_z-of_z}
use Rattle.gd_syntax.specs.declared.token.TokenKind.TheVariants as kinds
use Rattle.gd_lexer.specs.Token.{IsToken}
use Rattle.gd_rules.specs.declared.rule.Rule.{Rule}
use Rattle.gd_lexis.specs.declared.glyph.Glyph.{Glyph}
use Rattle.gd_lexer.proofs.NumberMeets.{number_read, MeetsNumber}
use Rattle.gd_lexer.proofs.FaultMeets.{by_stop}
use Rattle.gd_lexer.proofs.lexer.Lexer.number.Goals as goal

met : (r s : Result ℤ Rule) (gs rest tail : List Glyph) → r ≡ s → rest ≡ tail → MeetsNumber s gs tail → MeetsNumber r gs rest
met r s gs rest tail e f h =
    let P : Result ℤ Rule → Type 0 = λ t. MeetsNumber t gs tail in
    let Q : List Glyph → Type 0 = λ t. MeetsNumber r gs t in
    subst Q (sym f) (subst P (sym e) h)

passed : (n : ℤ) (gs rest : List Glyph) → IsToken (kinds.Number n) gs rest → IsToken (kinds.Number (to_z w64 (of_z w64 n))) gs rest
passed n gs rest h =
    let small : h.2.0.0 < 2 ^ 63 = h.2.2.0 h.2.0.0 h.2.0.1 in
    let P : ℤ → Type 0 = λ z. SFits w64 z in
    let fits : SFits w64 n = subst P (sym h.2.0.2) (fits_pos h.2.0.0 small) in
    let Q : ℤ → Type 0 = λ z. IsToken (kinds.Number z) gs rest in
    subst Q (sym (to_z-of_z w64 n fits)) h
  where
    fits_pos : (v : ℕ) → v < 2 ^ 63 → SFits w64 (pos v)
    fits_pos v small = omega arith

pub returns-in-Ok-clause-token : goal.returns-in-Ok-clause-token
returns-in-Ok-clause-token c =
    λ _.
    passed c.in-Ok.value c.args.self.now.cursor.glyphs c.number.new.cursor.glyphs
    (met (Ok c.in-Ok.value) _ c.args.self.now.cursor.glyphs c.number.new.cursor.glyphs _ (sym c.in-Ok.is ∙ c.number.ensures.value) c.number.ensures.rest (number_read c.args.self.now.cursor.glyphs c.requires.starts))

pub returns-in-Err-clause-fault : goal.returns-in-Err-clause-fault
returns-in-Err-clause-fault c =
    let broken = met (Err c.in-Err.rule) _ c.args.self.now.cursor.glyphs c.number.new.cursor.glyphs _ (sym c.in-Err.is ∙ c.number.ensures.value) c.number.ensures.rest (number_read c.args.self.now.cursor.glyphs c.requires.starts) in
    by_stop c.in-Err.rule c.args.pos c.args.self.now.cursor.glyphs c.stop_at.result c.stop_at.ensures broken.0 broken.1
