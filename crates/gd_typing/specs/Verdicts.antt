-- What an operation is judged to be: its type, and what holds at it.
use Rattle.std.specs.Prelude.{Bool, true, false, Option, None, Some}
use Rattle.gd_model.specs.declared.ty.Ty.{Ty}
use Rattle.gd_model.specs.declared.ty.Ty.TheVariants as ty
use Rattle.gd_rules.specs.declared.rule.Rule.{Rule}
use Rattle.gd_typing.specs.declared.verdict.Finding.{Finding}
use Rattle.gd_typing.specs.declared.verdict.Verdict.{Verdict}

-- nothing holds
abbrev pub nothing : Finding
nothing = record { rule = None; warning = None; is_marked = false }

-- an error rule is broken
abbrev pub breach : Rule → Finding
breach r = record { rule = Some r; warning = None; is_marked = false }

-- a mark stands there, if so
abbrev pub mark_if : Bool → Finding
mark_if b = record { rule = None; warning = None; is_marked = b }

-- one of the four warnings holds at which a mark stands too
abbrev pub unsafe : Rule → Finding
unsafe w = record { rule = None; warning = Some w; is_marked = true }

abbrev pub fine : Ty → Verdict
fine t = record { ty = t; finding = nothing }

-- a part is Bad
abbrev pub bad : Verdict
bad = fine ty.Bad

-- a rule is broken that makes the operation Bad
abbrev pub broken : Rule → Verdict
broken r = record { ty = ty.Bad; finding = breach r }

-- Variant, since no more is known, with a warning
abbrev pub unsafe_variant : Rule → Verdict
unsafe_variant w = record { ty = ty.Variant; finding = unsafe w }
