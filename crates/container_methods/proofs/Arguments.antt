-- The arguments of a call that are whole.
use Rattle.std.proofs.Common.{◌≡◌, ℕ, ◌<◌, List, length, get_or, Option, refl}
use Rattle.std.proofs.lemmas.Option.{slice_get_read}
use Rattle.slot_arena.specs.declared.handle.Handle.{Handle}
use Rattle.gd_model.specs.declared.value.Value.{Value}
use Rattle.gd_model.specs.Store.{Names}
use Rattle.gd_model.specs.View.{ThingView}
use Rattle.gd_model.specs.Whole.{Whole, AllWhole}
use Rattle.gd_containers.proofs.AllWhole.{whole_at}

-- the argument at a place
pub whole_arg : (things : Handle → Option ThingView) (names : Names) (xs : List Value) (i : ℕ) (x : Value) → x ≡ get_or xs i x → i < length xs → AllWhole things names xs → Whole things names x
whole_arg things names xs i x e h all = whole_at things names xs i x (slice_get_read xs (length xs) i x refl h e) all
