-- What holds objects, statics, signals and constants, tried. The texts of the projects stand in TrialsOfObjects and TrialsOfHolding
-- of source_semantics.
use Rattle.source_semantics.specs.TrialsOfObjects.{breaking, chain, dictionary, freed_target, read_only, ring, signals, static_object, statics}
use Rattle.source_semantics.specs.TrialsOfHolding.{static_call}
use Rattle.emitted_code.specs.Trials.{RunsAlike, alone}

abbrev pub FreedAlike : Type 0
FreedAlike = RunsAlike (alone freed_target) 9

abbrev pub ReadOnlyAlike : Type 0
ReadOnlyAlike = RunsAlike (alone read_only) 9

abbrev pub SignalsAlike : Type 0
SignalsAlike = RunsAlike (alone signals) 9

abbrev pub StaticCallAlike : Type 0
StaticCallAlike = RunsAlike (alone static_call) 9

abbrev pub RoundsAlike : Type 0
RoundsAlike = RunsAlike (alone chain) 9

abbrev pub RingAlike : Type 0
RingAlike = RunsAlike (alone ring) 9

abbrev pub BreakAlike : Type 0
BreakAlike = RunsAlike (alone breaking) 9

abbrev pub StaticsAlike : Type 0
StaticsAlike = RunsAlike (alone statics) 3

abbrev pub StaticTurnAlike : Type 0
StaticTurnAlike = RunsAlike (alone statics) 2

abbrev pub StaticObjectAlike : Type 0
StaticObjectAlike = RunsAlike (alone static_object) 9

abbrev pub DictionaryAlike : Type 0
DictionaryAlike = RunsAlike (alone dictionary) 9
