use Rattle.std.proofs.Common.{◌∙◌, ap, refl, subst}
use Rattle.std.proofs.lemmas.Result.{err_from_is_err_and}
use Rattle.gd_rules.specs.declared.rule.Rule.TheVariants.{UnterminatedString}
use Rattle.gd_lexer.specs.Escape.{reading_of, seen_fault, moved}
use Rattle.gd_lexer.specs.Quoted.{Steps, quote_of, opened}
use Rattle.gd_lexer.proofs.FaultMeets.{by_stop}
use Rattle.gd_lexer.proofs.StringToken.{opened_here, unterminated, quoted_token, quoted_inner}
use Rattle.gd_lexer.proofs.lexer.Lexer.quoted.Goals as goal

pub returns-in_err-is_ended-clause-fault : goal.returns-in_err-is_ended-clause-fault
returns-in_err-is_ended-clause-fault c = let p = err_from_is_err_and c.from_residual.result c.from_residual.ensures.1 in rw (p.1, p.2) tt

pub returns-then-not-is_ended-clause-fault : goal.returns-then-not-is_ended-clause-fault
returns-then-not-is_ended-clause-fault c =
    let s = c.args.self.now.cursor in
    let r = moved (opened s) (reading_of s c.clear.new.self) in
    let t = reading_of c.quoted.new.cursor c.quoted.new.body in
    by_stop UnterminatedString c.args.pos s.glyphs c.stop_at.result c.stop_at.ensures
    (unterminated s r t (opened_here s c.requires.starts) refl (subst (λ b. Steps (quote_of s) r b t) c.if-not-is_ended.true c.in_ok-is_ended.ensures.value)) tt

pub returns-in_err-text-clause-fault : goal.returns-in_err-text-clause-fault
returns-in_err-text-clause-fault c = let p = err_from_is_err_and c.from_residual-in_err-text.result c.from_residual-in_err-text.ensures.1 in rw (p.1, p.2) tt

pub returns-clause-token : goal.returns-clause-token
returns-clause-token c empty =
    let s = c.args.self.now.cursor in
    let r = moved (opened s) (reading_of s c.clear.new.self) in
    let t = reading_of c.quoted.new.cursor c.quoted.new.body in
    quoted_token s r t c.quoted.new.body.fault c.in_ok-text.text c.requires.starts refl c.clear.ensures.chars (ap seen_fault c.clear.ensures.fault)
    (subst (λ b. Steps (quote_of s) r b t) c.if-not-is_ended.false c.in_ok-is_ended.ensures.value) refl (c.in_ok-text.ensures ∙ c.as_slice.ensures.value) empty

pub returns-clause-inner : goal.returns-clause-inner
returns-clause-inner c =
    let s = c.args.self.now.cursor in
    let r = moved (opened s) (reading_of s c.clear.new.self) in
    let t = reading_of c.quoted.new.cursor c.quoted.new.body in
    quoted_inner s r t c.quoted.new.body.fault c.in_ok-text.text c.requires.starts refl (ap seen_fault c.clear.ensures.fault)
    (subst (λ b. Steps (quote_of s) r b t) c.if-not-is_ended.false c.in_ok-is_ended.ensures.value) refl
