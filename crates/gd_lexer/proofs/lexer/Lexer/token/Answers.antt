use Rattle.std.proofs.Common.{ap, sym, subst, arith, rules}
use Rattle.std.proofs.lemmas.Grind.{common_steps}
use Rattle.gd_lexer.proofs.StepLemmas.{token_step, token_lead, token_kept}
use Rattle.std.proofs.Common.{◌∙◌}
use Rattle.std.proofs.lemmas.Result.{err_from_is_err_and}
use Rattle.gd_lexer.proofs.StrayLemmas.{token_starts}
use Rattle.gd_lexer.proofs.TokenLemmas.{unopened_first, read_as, own_first, refused_first, deep_first, inner_first, some_inner}
use Rattle.gd_lexer.specs.declared.lines.Lead.{Lead}
use Rattle.gd_lexer.specs.Cursor.{Spot}
use Rattle.gd_lexer.specs.Follows.{Follows}
use Rattle.gd_lexer.specs.Token.{IsToken}
use Rattle.gd_lexer.specs.Found.{FoundList}
use Rattle.gd_lexer.proofs.NotedLemmas.{token_piece, spelled_on}
use Rattle.gd_lexer.proofs.lexer.Lexer.token.Goals as goal

pub returns-clause-sound : goal.returns-clause-sound
returns-clause-sound c =
    let kept =
    token_kept c.in_ok-deeper.deeper c.args.self.now c.open_line.new.self c.scan.new.self c.take.new.self c.deepen.new.self c.pos-pos.result c.in_ok-deeper.ensures.opens c.scan.ensures.keeps c.take.ensures.lines
    c.in_ok-deepen.ensures.deeper (grind (arith, common_steps)) c.requires.sound.kept in
    record {
      order = search rules;
      file = search rules;
      few = grind (arith, common_steps);
      kept = record { settled = kept.settled; put_off = kept.put_off; short = kept.short };
    }

pub returns-clause-reads : goal.returns-clause-reads
returns-clause-reads c file all holds none =
    token_step file all c.in_ok-deeper.deeper c.args.self.now c.open_line.new.self c.scan.new.self c.take.new.self c.deepen.new.self c.pos-pos.result c.in_ok-kind.kind c.push.new.self.tokens c.pos-pos.ensures.value
    c.in_ok-deeper.ensures.opens c.open_line.ensures.cursor c.scan.ensures.keeps c.scan.ensures.follows (c.in_ok-kind.ensures.token c.in_default.is) c.take.ensures.cursor c.take.ensures.found c.take.ensures.lines
    c.in_ok-take.ensures.items c.in_ok-take.ensures.room c.deepen.ensures.cursor c.in_ok-deepen.ensures.deeper c.in_ok-push.ensures.tokens none holds

pub returns-in_err-deeper-clause-first : goal.returns-in_err-deeper-clause-first
returns-in_err-deeper-clause-first c =
    let old = c.args.self.now in
    let p = err_from_is_err_and c.from_residual.result c.from_residual.ensures.1 in
    rw (p.1, p.2) (unopened_first old c.pos-pos.result _ (token_starts old.cursor.glyphs c.args.start c.requires.starts) c.requires.sound.kept c.pos-pos.ensures.value c.in_err-deeper.ensures.fault)

pub returns-in_err-kind-clause-first : goal.returns-in_err-kind-clause-first
returns-in_err-kind-clause-first c =
    let p = err_from_is_err_and c.from_residual-in_err-kind.result c.from_residual-in_err-kind.ensures.1 in
    rw (p.1, p.2)
    (own_first c.args.self.now c.open_line.new.self c.in_ok-deeper.deeper c.pos-pos.result _ c.requires.sound.kept c.in_ok-deeper.ensures.opens c.open_line.ensures.cursor c.pos-pos.ensures.value c.in_err-kind.ensures.fault)

pub returns-in_err-take-clause-first : goal.returns-in_err-take-clause-first
returns-in_err-take-clause-first c =
    let old = c.args.self.now in
    let new = c.open_line.new.self in
    let p = err_from_is_err_and c.from_residual-in_err-take.result c.from_residual-in_err-take.ensures.1 in
    let read = read_as c.in_ok-kind.kind old.cursor new.cursor c.scan.new.self.cursor.glyphs c.in_ok-kind.inner c.open_line.ensures.cursor c.in_ok-kind.ensures.token c.in_ok-kind.ensures.inner in
    rw (p.1, p.2)
    (refused_first old new c.scan.new.self c.in_ok-deeper.deeper c.pos-pos.result c.in_ok-kind.kind _ c.requires.sound.kept c.in_ok-deeper.ensures.opens c.scan.ensures.keeps.2 c.pos-pos.ensures.value read
    c.in_err-take.ensures.refused)

pub returns-in_err-deepen-clause-first : goal.returns-in_err-deepen-clause-first
returns-in_err-deepen-clause-first c =
    let old = c.args.self.now in
    let new = c.open_line.new.self in
    let p = err_from_is_err_and c.from_residual-in_err-deepen.result c.from_residual-in_err-deepen.ensures.1 in
    let read = read_as c.in_ok-kind.kind old.cursor new.cursor c.scan.new.self.cursor.glyphs c.in_ok-kind.inner c.open_line.ensures.cursor c.in_ok-kind.ensures.token c.in_ok-kind.ensures.inner in
    rw (p.1, p.2)
    (deep_first old new c.take.new.self c.in_ok-deeper.deeper c.pos-pos.result c.in_ok-kind.kind _ c.requires.sound.kept c.in_ok-deeper.ensures.opens (c.take.ensures.lines ∙ c.scan.ensures.keeps.1) c.pos-pos.ensures.value read
    c.in_err-deepen.ensures.fault)

pub returns-in-Some-clause-first : goal.returns-in-Some-clause-first
returns-in-Some-clause-first c =
    inner_first c.args.self.now c.open_line.new.self c.scan.new.self c.take.new.self c.deepen.new.self c.in_ok-deeper.deeper c.pos-pos.result c.in_ok-kind.kind c.in-Some.fault c.requires.sound.kept
    c.in_ok-deeper.ensures.opens c.open_line.ensures.cursor (c.take.ensures.lines ∙ c.scan.ensures.keeps.1) c.scan.ensures.keeps.2 c.in_ok-take.ensures.room c.in_ok-deepen.ensures.deeper
    (some_inner c.in_ok-kind.kind c.open_line.new.self.cursor c.in_ok-kind.inner c.in-Some.fault c.in-Some.is c.in_ok-kind.ensures.inner)

pub returns-clause-notes : goal.returns-clause-notes
returns-clause-notes c =
    let old = c.args.self.now in
    let a = c.open_line.new.self in
    let d = c.deepen.new.self in
    let spot = c.deepen.ensures.cursor ∙ c.take.ensures.cursor in
    let found = c.take.ensures.found ∙ c.scan.ensures.keeps.0 in
    let P : Spot → Type 0 = λ s. Follows s d.cursor in
    let Q : Spot → Type 0 = λ s. Follows a.cursor s in
    let R : Spot → Type 0 = λ s. IsToken c.in_ok-kind.kind s.glyphs d.cursor.glyphs in
    let S : Spot → Type 0 = λ s. IsToken c.in_ok-kind.kind a.cursor.glyphs s.glyphs in
    let lead = token_lead c.in_ok-deeper.deeper old a c.scan.new.self c.take.new.self d c.pos-pos.result c.in_ok-deeper.ensures.opens c.scan.ensures.keeps c.take.ensures.lines c.in_ok-deepen.ensures.deeper c.requires.sound.kept in
    token_piece old _ d.found c.in_ok-kind.kind c.pos-pos.result c.offset-at.result c.offset.result (subst P c.open_line.ensures.cursor (subst Q (sym spot) c.scan.ensures.follows))
    (λ none. ap (λ (l : Lead). l.hidden) (sym lead) ∙ none) (subst R c.open_line.ensures.cursor (subst S (sym spot) (c.in_ok-kind.ensures.token c.in_default.is)))
    (c.push.ensures.comments ∙ c.deepen.ensures.comments ∙ ap (λ (f : FoundList). f.comments) found ∙ c.open_line.ensures.comments)
    (spelled_on c.pos-pos.result c.offset-at.result old.found a.found c.take.new.self.found d.found c.in_ok-deeper.ensures.spelled found c.in_ok-deepen.ensures.spelled)
    c.in_ok-push.ensures.tokens c.in_ok-push.ensures.spans c.pos-pos.ensures.value c.offset-at.ensures.value c.offset.ensures.value
