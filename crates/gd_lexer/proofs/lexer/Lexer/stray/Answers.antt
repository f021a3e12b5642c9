use Rattle.std.proofs.lemmas.Result.{err_from_is_err_and}
use Rattle.std.proofs.Common.{◌∙◌, sym, subst, refl}
use Rattle.gd_rules.specs.declared.rule.Rule.{Rule}
use Rattle.gd_lexer.specs.FirstFaults.{Strays}
use Rattle.gd_lexer.proofs.FirstLemmas.{stray_stops}
use Rattle.gd_lexer.proofs.TrailLemmas.{stray_trail}
use Rattle.gd_lexer.proofs.NotedLemmas.{stray_piece}
use Rattle.gd_lexer.proofs.lexer.Lexer.stray.Goals as goal

pub returns-in_err-stray-clause-first : goal.returns-in_err-stray-clause-first
returns-in_err-stray-clause-first c =
    let old = c.args.self.now in
    let P : Rule → Type 0 = λ r. Strays r old.cursor.glyphs in
    let p = err_from_is_err_and c.from_residual.result c.from_residual.ensures.1 in
    rw (p.1, p.2) (stray_stops old c.fault_at.result _ c.requires.sound.kept c.in_err-stray.ensures.refused (subst P (sym c.fault_at.ensures.rule) c.requires.strays) (c.fault_at.ensures.pos ∙ c.pos.ensures.value))

pub returns-clause-trails : goal.returns-clause-trails
returns-clause-trails c =
    let old = c.args.self.now in
    let P : Rule → Type 0 = λ r. Strays r old.cursor.glyphs in
    stray_trail old _ c.fault_at.result (subst P (sym c.fault_at.ensures.rule) c.requires.strays) (c.fault_at.ensures.pos ∙ c.pos.ensures.value) c.in_ok-stray.ensures.put_off c.stray.ensures.blank
    c.in_ok-stray.ensures.mixed c.in_ok-stray.ensures.shut c.stray.ensures.keeps.1 refl c.advance.ensures.rest

pub returns-clause-notes : goal.returns-clause-notes
returns-clause-notes c = stray_piece c.args.self.now _ c.advance.ensures.follows c.in_ok-stray.ensures.hidden refl
