-- In which order things are done and tested, tried. The texts of the projects stand in TrialsOfOrder of source_semantics.
use Rattle.source_semantics.specs.TrialsOfOrder.{changing, disconnecting, no_key, no_step, typed_loop}
use Rattle.emitted_code.specs.Trials.{RunsAlike, alone}

abbrev pub TurnFirstAlike : Type 0
TurnFirstAlike = RunsAlike (alone typed_loop) 2

abbrev pub TypeBehindAlike : Type 0
TypeBehindAlike = RunsAlike (alone typed_loop) 3

abbrev pub RangeAlike : Type 0
RangeAlike = RunsAlike (alone no_step) 9

abbrev pub KeyAlike : Type 0
KeyAlike = RunsAlike (alone no_key) 9

abbrev pub EmissionAlike : Type 0
EmissionAlike = RunsAlike (alone disconnecting) 9

abbrev pub GuardAlike : Type 0
GuardAlike = RunsAlike (alone changing) 9
