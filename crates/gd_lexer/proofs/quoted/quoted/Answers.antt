use Rattle.std.proofs.Common.{◌≡◌, sym, ◌∙◌, subst, arith, Bool}
use Rattle.gd_lexer.specs.Cursor.{Spot}
use Rattle.gd_lexer.specs.declared.quoted.Quote.{Quote}
use Rattle.gd_lexer.specs.Escape.{Reading, reading_of, moved}
use Rattle.gd_lexer.specs.Quoted.{Steps, end, open_end}
use Rattle.gd_lexer.proofs.FollowsLemmas.{Follows-trans}
use Rattle.gd_lexer.proofs.QuotedLemmas.{step_more}
use Rattle.gd_lexer.proofs.quoted.quoted.Goals as goal

opened_at : (q p : Quote) (s t : Spot) (b : Bool) (r u : Reading) → q ≡ p → s ≡ t → Steps q (moved s u) b r → Steps p (moved t u) b r
opened_at q p s t b r u e f h =
    let P : Quote → Type 0 = λ v. Steps v (moved s u) b r in
    let Q : Spot → Type 0 = λ v. Steps p (moved v u) b r in
    subst Q f (subst P e h)

pub returns-then-close-clause-value : goal.returns-then-close-clause-value
returns-then-close-clause-value c =
    opened_at c.open-quote.result _ c.open-quote.new.cursor _ _ _ (reading_of c.args.cursor.now c.args.body.now) c.open-quote.ensures.quote c.open-quote.ensures.at
    (c.loop-glyph.invariant.steps _ _ (end (reading_of c.loop-glyph.cursor c.loop-glyph.body) c.close.new.cursor c.if-close.ensures.end))

pub loop-glyph-preserved : goal.loop-glyph-preserved
loop-glyph-preserved c = record {
  follows = Follows-trans _ _ _ c.loop-glyph.invariant.follows (Follows-trans _ _ _ c.close.ensures.follows c.in_ok-step.ensures.follows);
  few = omega (arith, c.loop-glyph.invariant.few, c.in_ok-step.ensures.few, c.close.ensures.follows.fewer);
  steps = λ b t h.
      c.loop-glyph.invariant.steps b t
      (step_more c.open-quote.result c.loop-glyph.cursor c.close.new.cursor c.step.new.cursor c.loop-glyph.body c.step.new.body c.in-Some.glyph
      (sym c.in-Some.is ∙ c.peek.ensures.value) c.if-close.ensures.more c.if-close.ensures.stays c.in_ok-step.ensures.value b t h);
}

pub returns-clause-value : goal.returns-clause-value
returns-clause-value c =
    opened_at c.open-quote.result _ c.open-quote.new.cursor _ _ _ (reading_of c.args.cursor.now c.args.body.now) c.open-quote.ensures.quote c.open-quote.ensures.at
    (c.loop-glyph.invariant.steps _ _ (open_end (reading_of c.loop-glyph.cursor c.loop-glyph.body) (sym c.peek.ensures.value ∙ c.in_default.is)))
