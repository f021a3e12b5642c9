-- What stays of lines, and what a blank changes.
use Rattle.std.specs.Prelude.{◌≡◌, ◌+◌, Bool, true, false, Option, Some, None}
use Rattle.gd_syntax.specs.declared.pos.Pos.{Pos}
use Rattle.gd_rules.specs.declared.rule.Rule.TheVariants.{MixedIndentation}
use Rattle.gd_lexer.specs.declared.lines.Blank.{Blank}
use Rattle.gd_lexer.specs.declared.lines.Blank.TheVariants.{Space, Tab}
use Rattle.gd_lexer.specs.declared.lines.Lead.{Lead}
use Rattle.gd_lexer.specs.declared.lines.Lines.{Lines}
use Rattle.gd_lexer.specs.declared.stop.Fault.{Fault}

-- the same blocks are open, and the line has a token if it had one
abbrev pub Keeps : Lines → Lines → Type 0
Keeps old new = (new.blocks ≡ old.blocks) × (new.is_open ≡ old.is_open)

-- all but the blocks stays
abbrev pub KeepsLine : Lines → Lines → Type 0
KeepsLine old new = (new.is_open ≡ old.is_open) × (new.lead ≡ old.lead) × (new.kind ≡ old.kind)

-- the beginning of a line in a file that is indented by this kind
abbrev pub new_lead : Option Blank → Lead
new_lead kind = record { level = 0; kind = kind; mixed = None; hidden = None }

abbrev pub is_same : Blank → Blank → Bool
is_same Space Space = true
is_same Tab Tab = true
is_same _ _ = false

-- the blank is of the kind, if there is one
abbrev pub is_of : Option Blank → Blank → Bool
is_of None blank = true
is_of (Some kind) blank = is_same kind blank

abbrev pub kind_behind : Option Blank → Blank → Option Blank
kind_behind None blank = Some blank
kind_behind (Some kind) blank = Some kind

-- the first blank of the other kind is a fault at its place
abbrev pub MixedBy : Bool → Pos → Option Fault → Option Fault → Type 0
MixedBy same pos (Some fault) new = new ≡ Some fault
MixedBy true pos None new = new ≡ None
MixedBy false pos None new = (fault : Fault) × (new ≡ Some fault) × (fault.pos ≡ pos) × (fault.rule ≡ MixedIndentation)

-- what a blank makes of a line's beginning, where the line has a token or not
abbrev pub LeadBy : Bool → Blank → Pos → Lead → Lead → Type 0
LeadBy true blank pos old new = new ≡ old
LeadBy false blank pos old new =
    (new.level ≡ old.level + 1) × (new.kind ≡ kind_behind old.kind blank) × MixedBy (is_of old.kind blank) pos old.mixed new.mixed × (new.hidden ≡ old.hidden)
