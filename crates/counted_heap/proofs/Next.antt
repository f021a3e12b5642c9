-- One step of settling, of its parts.
use Rattle.std.proofs.Common.{◌≡◌, ℕ, ◌+◌, length, List, ◌∷◌, Option, Some, sym, ap, ◌∙◌, subst}
use Rattle.slot_arena.specs.declared.handle.Handle.{Handle}
use Rattle.slot_arena.specs.Slots.{find_at, handle_of, without}
use Rattle.gd_holding.specs.Holding.{IsCounted, CanGiveUp}
use Rattle.gd_holding.specs.Rounds.{HeapView, current_round, given_up, TakesNext}
use Rattle.counted_heap.specs.Heap.{TakesOut}
use Rattle.counted_heap.proofs.GiveUp.{can_settle, found_is}

module _ {T : Type 0} where
  -- what the thing that was taken out held can be given up
  pub can_settle_next : (handles : T → List Handle) (old begun out : HeapView T) (h : Handle) (value : T) → begun.things ≡ old.things → IsCounted handles old.things → TakesOut begun h value out → CanGiveUp out.things (handles value)
  can_settle_next handles old begun out h value things counted takes =
      let found : find_at old.things h ≡ Some takes.thing = ap (λ l. find_at l h) (sym things) ∙ takes.found in
      let can = can_settle handles old.things h takes.thing counted found in
      let left : out.things ≡ without old.things h = takes.things_are ∙ ap (λ l. without l h) things in
      subst (λ l. CanGiveUp l (handles value)) (sym left) (subst (λ (t : T). CanGiveUp (without old.things h) (handles t)) (sym takes.value_is) can)

  pub takes_next : (handles : T → List Handle) (class : T → Option ℕ) (old begun out new : HeapView T) (h : Handle) (value : T) (kind : Option ℕ) (calls : ℕ) → begun ≡ record { things = old.things; round = current_round old; made = old.made } → TakesOut begun h value out → new ≡ record { things = given_up out.things (handles value); round = out.round; made = out.made } → kind ≡ class value → calls ≡ 1 + length (handles value) → TakesNext handles class old h.serial kind calls new
  takes_next handles class old begun out new h value kind calls begins takes ends kind_is calls_are =
      let things : begun.things ≡ old.things = ap (λ (v : HeapView T). v.things) begins in
      let found : find_at old.things h ≡ Some takes.thing = ap (λ l. find_at l h) (sym things) ∙ takes.found in
      let is : handle_of takes.thing ≡ h = found_is h old.things takes.thing found in
      let serial : h.serial ≡ takes.thing.serial = ap (λ (x : Handle). x.serial) (sym is) in
      let round : begun.round ≡ current_round old = ap (λ (v : HeapView T). v.round) begins in
      let round_out : new.round ≡ out.round = ap (λ (v : HeapView T). v.round) ends in
      record {
        thing = takes.thing;
        found = ap (find_at old.things) is ∙ found;
        unheld = takes.unheld;
        first = sym round ∙ takes.first ∙ ap (λ (l : List ℕ). h.serial ∷ l) (sym round_out) ∙ ap (λ (s : ℕ). s ∷ new.round) serial;
        serial_is = serial;
        kind_is = kind_is ∙ ap class takes.value_is;
        things_are =
            ap (λ (v : HeapView T). v.things) ends
            ∙ ap (λ l. given_up l (handles value)) (takes.things_are ∙ ap (λ l. without l h) things)
            ∙ ap (λ (x : Handle). given_up (without old.things x) (handles value)) (sym is)
            ∙ ap (λ (t : T). given_up (without old.things (handle_of takes.thing)) (handles t)) takes.value_is;
        calls_are = calls_are ∙ ap (λ (t : T). 1 + length (handles t)) takes.value_is;
        made_stays = ap (λ (v : HeapView T). v.made) ends ∙ takes.made_stays ∙ ap (λ (v : HeapView T). v.made) begins;
      }
