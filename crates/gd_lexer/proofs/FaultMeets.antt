-- A stop is the fault of a rule that is broken there.
use Rattle.std.proofs.Common.{subst, sym, List}
use Rattle.gd_syntax.specs.declared.pos.Pos.{Pos}
use Rattle.gd_rules.specs.declared.rule.Rule.{Rule}
use Rattle.gd_lexis.specs.declared.glyph.Glyph.{Glyph}
use Rattle.gd_lexer.specs.declared.stop.Stop.{Stop}
use Rattle.gd_lexer.specs.declared.stop.Stop.TheVariants.{Fault, NoMemory}
use Rattle.gd_lexer.specs.Stops.{StandsAt}
use Rattle.gd_lexer.specs.Token.{IsBrokenAt, IsLeastAt, IsFaultOf}

pub by_stop : (rule : Rule) (pos : Pos) (gs : List Glyph) (s : Stop) → StandsAt pos rule s → IsBrokenAt rule gs → IsLeastAt rule gs → IsFaultOf pos gs s
by_stop rule pos gs (Fault f) at broken least =
    let P : Rule → Type 0 = λ r. IsBrokenAt r gs in
    let Q : Rule → Type 0 = λ r. IsLeastAt r gs in
    (at.0, subst P (sym at.1) broken, subst Q (sym at.1) least)
by_stop rule pos gs NoMemory at broken least = absurd at
