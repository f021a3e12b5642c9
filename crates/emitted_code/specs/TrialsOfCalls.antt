-- Calls, accessors and assignments tried. The texts of the projects stand in TrialsOfCalls of source_semantics.
use Rattle.source_semantics.specs.TrialsOfCalls.{doubling, faulty_target, faulty_value, in_order, overriding, own_setter, setter_through_function, summing}
use Rattle.emitted_code.specs.Trials.{RunsAlike, alone}

abbrev pub ResultAlike : Type 0
ResultAlike = RunsAlike (alone doubling) 3

abbrev pub CallTurnAlike : Type 0
CallTurnAlike = RunsAlike (alone doubling) 2

abbrev pub DefaultAlike : Type 0
DefaultAlike = RunsAlike (alone summing) 9

abbrev pub ReceiverAlike : Type 0
ReceiverAlike = RunsAlike (alone in_order) 9

abbrev pub OverrideAlike : Type 0
OverrideAlike = RunsAlike (alone overriding) 9

abbrev pub SetterAlike : Type 0
SetterAlike = RunsAlike (alone own_setter) 3

abbrev pub SetterTurnAlike : Type 0
SetterTurnAlike = RunsAlike (alone setter_through_function) 20

abbrev pub ValueAlike : Type 0
ValueAlike = RunsAlike (alone faulty_value) 9

abbrev pub TargetAlike : Type 0
TargetAlike = RunsAlike (alone faulty_target) 9
