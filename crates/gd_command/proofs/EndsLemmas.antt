-- What a run writes, from its lines and its end.
use Rattle.std.proofs.Common.{◌≡◌, ℕ, List, [], ◌++◌, codes, Option, Result, Ok, Err, IfOk, IsErr, refl, sym, subst}
use Rattle.std.proofs.lemmas.Bool.{false≢true}
use Rattle.std.proofs.lemmas.List.{append-nil}
use Rattle.gd_model.specs.declared.fault.RunFault.{RunFault}
use Rattle.gd_model.specs.declared.outcome.Outcome.{Outcome}
use Rattle.gd_model.specs.declared.outcome.Outcome.TheVariants as outcomes
use Rattle.gd_syntax.specs.declared.pos.Pos.{Pos}
use Rattle.gd_command.specs.Answer.{WritesRun}
use Rattle.gd_command.specs.Ends.{IsRunText, PutsFault, WritesEnd, done, out_of_turns, faulted, fault_line}
use Rattle.gd_command.specs.Puts.{Grows, Puts}
use Rattle.gd_command.specs.declared.status.Status.{Status}
use Rattle.gd_command.specs.declared.status.Status.TheVariants as status
use Rattle.gd_command.proofs.PutsLemmas.{Appends-none, Appends-then, AppendsPrefix-grows, Grows-then}

pub ended_done : (E : Type 0) (old : Option (List ℕ)) (outcome : Outcome) → outcome ≡ outcomes.Done → WritesEnd {E = E} old outcome old (Ok status.Done)
ended_done E old outcome is =
    subst (λ (o : Outcome). WritesEnd {E = E} old o old (Ok status.Done)) (sym is)
    ([], Appends-none old, (refl, λ lines. subst (λ (text : List ℕ). IsRunText text status.Done) (sym (append-nil lines)) (done lines)))

turns : {E : Type 0} (old new : Option (List ℕ)) (r : Result Status E) → Puts old (codes "out of turns\n") new r
    → IfOk r (λ s. s ≡ status.OutOfTurns) → WritesEnd old outcomes.OutOfTurns new r
turns old new (Ok s) puts same =
    (codes "out of turns\n", puts, (same, λ lines. subst (λ (s : Status). IsRunText (lines ++ codes "out of turns\n") s) (sym same) (out_of_turns lines)))
turns old new (Err e) puts same = (codes "out of turns\n", puts, tt)

pub ended_turns : {E : Type 0} (old new : Option (List ℕ)) (outcome : Outcome) (r : Result Status E) → outcome ≡ outcomes.OutOfTurns
    → Puts old (codes "out of turns\n") new r → IfOk r (λ s. s ≡ status.OutOfTurns) → WritesEnd old outcome new r
ended_turns old new outcome r is puts same = subst (λ (o : Outcome). WritesEnd old o new r) (sym is) (turns old new r puts same)

fault : {E : Type 0} (old new : Option (List ℕ)) (code : RunFault) (pos : Pos) (message : Option (List ℕ)) (r : Result Status E)
    → PutsFault old code pos message new r → IfOk r (λ s. s ≡ status.RunError) → WritesEnd old (outcomes.Fault code pos message) new r
fault old new code pos message (Ok s) (path, puts) same = (
  fault_line path code pos message,
  puts,
  (
    same,
    λ lines. subst
        (λ (s : Status). IsRunText (lines ++ fault_line path code pos message) s) (sym same) (faulted lines path code pos message),
  ),
)
fault old new code pos message (Err e) (path, puts) same = (fault_line path code pos message, puts, tt)

pub ended_fault : {E : Type 0} (old new : Option (List ℕ)) (outcome : Outcome) (code : RunFault) (pos : Pos) (message : Option (List ℕ))
    (r : Result Status E) → outcome ≡ outcomes.Fault code pos message → PutsFault old code pos message new r
    → IfOk r (λ s. s ≡ status.RunError) → WritesEnd old outcome new r
ended_fault old new outcome code pos message r is puts same = subst (λ (o : Outcome). WritesEnd old o new r) (sym is)
    (fault old new code pos message r puts same)

-- a run that was cut short
pub run_err : {E : Type 0} (old new : Option (List ℕ)) (r : Result Status E) → IsErr r → Grows old new → WritesRun old new r
run_err old new (Ok s) is grows = absurd (false≢true is)
run_err old new (Err e) is grows = grows

-- a run's lines, and then its end
pub run_ended : {E : Type 0} (old mid new : Option (List ℕ)) (outcome : Outcome) (r : Result Status E) → Grows old mid
    → WritesEnd mid outcome new r → WritesRun old new r
run_ended old mid new outcome (Ok s) (lines, first) (line, whole, (same, text)) = (lines ++ line, text lines, Appends-then old mid new lines line first whole)
run_ended old mid new outcome (Err e) first (line, part, _) = Grows-then old mid new first (AppendsPrefix-grows mid new line part)
