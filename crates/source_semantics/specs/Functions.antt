-- Calls of functions that are found: the tests of the arguments, and the entry.
use Rattle.std.specs.Prelude.{ℕ, Bool, true, ◌&&◌, nat_le, List, ◌∷◌, length, filter, is_none, Option, None, Some, if◌then◌else◌}
use Rattle.gd_model.specs.Datum.{Datum}
use Rattle.gd_model.specs.declared.fault.RunFault.TheVariants.{WrongNumberOfArguments}
use Rattle.gd_syntax.specs.declared.pos.Pos.{Pos}
use Rattle.value_semantics.specs.Kinds.{kind_of}
use Rattle.value_semantics.specs.Parameters.{takes}
use Rattle.source_semantics.specs.Meaning.{Code, Frame, Meaning, Parameter}
use Rattle.source_semantics.specs.Project.{Expected, Project, a_type, a_parameter, bases}
use Rattle.source_semantics.specs.State.{Run, Went, failed, store, tested, then_do, went}
use Rattle.source_semantics.specs.Types.{fits_type}

-- ---- the tests of arguments that the analysis foresaw, each at the first token of its argument, from left to right

abbrev pub meets : Project → Run → Expected → Datum → Bool
meets p r (a_type t) v = fits_type (bases p) (store r) t v
meets p r (a_parameter row) v = takes row (kind_of v)

abbrev pub foreseen : Project → List (Option (Pos × Expected)) → List Datum → Run → Went (Unit {0})
foreseen p (Some test ∷ tests) (v ∷ vs) r = then_do (tested test.0 (meets p r test.1 v) r) (λ _. foreseen p tests vs)
foreseen p (None ∷ tests) (v ∷ vs) r = foreseen p tests vs r
foreseen p _ _ r = went tt r

-- ---- the callee's own tests, at the place of the call

abbrev pub has_number : List Parameter → ℕ → Bool
has_number parameters count = nat_le (length (filter (λ (q : Parameter). is_none q.default) parameters)) count && nat_le
    count (length parameters)

abbrev pub all_fit : Project → Run → List Parameter → List Datum → Bool
all_fit p r (q ∷ qs) (v ∷ vs) = fits_type (bases p) (store r) q.takes v && all_fit p r qs vs
all_fit p r _ _ = true

-- The call of a function: another number of arguments, the tests that were foreseen, its own tests, and the entry.
-- `hand` is what is held beside receiver and arguments.
abbrev pub call : Project → Meaning → Frame → Pos → List (Option (Pos × Expected)) → Code → Option Datum → List Datum
    → List Datum → Run → Went Datum
call p m frame pos tests code receiver arguments hand r =
    if has_number code.parameters (length arguments) then
    then_do (foreseen p tests arguments r) (λ _ r. then_do (tested pos (all_fit p r code.parameters arguments) r)
    (λ _ r.
    m.enter (record { code = code; receiver = receiver; arguments = arguments; depth = frame.depth; pos = pos }) hand
    r))
    else failed WrongNumberOfArguments pos None r.world
