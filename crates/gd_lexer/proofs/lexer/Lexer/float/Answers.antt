use Rattle.gd_rules.specs.declared.rule.Rule.TheVariants.{Float}
use Rattle.gd_lexer.proofs.StartsLemmas.{float_read}
use Rattle.gd_lexer.proofs.FaultMeets.{by_stop}
use Rattle.gd_lexer.proofs.lexer.Lexer.float.Goals as goal

pub returns : goal.returns
returns c = by_stop Float c.args.pos c.args.self.now.cursor.glyphs c.stop_at.result c.stop_at.ensures (float_read c.args.self.now.cursor.glyphs c.requires.starts) tt
