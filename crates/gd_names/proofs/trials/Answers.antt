use Rattle.std.proofs.Common.{refl}
use lib.Utf8
use Rattle.gd_names.proofs.trials.Goals as goal

pub returns-clause-order : goal.returns-clause-order
unfolding lib.Utf8.encode
returns-clause-order c = refl

pub returns-clause-members : goal.returns-clause-members
unfolding lib.Utf8.encode
returns-clause-members c = refl

pub returns-clause-hides : goal.returns-clause-hides
unfolding lib.Utf8.encode
returns-clause-hides c = refl

pub returns-clause-circle : goal.returns-clause-circle
unfolding lib.Utf8.encode
returns-clause-circle c = refl

pub returns-clause-cut : goal.returns-clause-cut
unfolding lib.Utf8.encode
returns-clause-cut c = refl

pub returns-clause-constant : goal.returns-clause-constant
unfolding lib.Utf8.encode
returns-clause-constant c = refl

pub returns-clause-around : goal.returns-clause-around
unfolding lib.Utf8.encode
returns-clause-around c = refl

pub returns-clause-path : goal.returns-clause-path
unfolding lib.Utf8.encode
returns-clause-path c = refl

pub returns-clause-paths : goal.returns-clause-paths
unfolding lib.Utf8.encode
returns-clause-paths c = refl

pub returns-clause-faulty : goal.returns-clause-faulty
unfolding lib.Utf8.encode
returns-clause-faulty c = refl

pub returns-clause-instance : goal.returns-clause-instance
unfolding lib.Utf8.encode
returns-clause-instance c = refl

pub returns-clause-holds : goal.returns-clause-holds
unfolding lib.Utf8.encode
returns-clause-holds c = (refl, refl)
