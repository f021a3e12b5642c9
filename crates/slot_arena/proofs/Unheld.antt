-- A thing that nothing holds: how a handle finds it, and what is left without it.
use Rattle.std.proofs.Common.{◌≡◌, true, cond, eqb, ◌&&◌, List, Option, Some, None, get_or, set, refl, sym, ap, ◌∙◌}
use Rattle.std.specs.Option.{option_map}
use Rattle.std.proofs.lemmas.Bool.{ne_eqb, eq-eqb, and_left}
use Rattle.slot_arena.specs.declared.handle.Handle.{Handle}
use Rattle.slot_arena.specs.declared.slab_slots.Slot.{Slot}
use Rattle.slot_arena.specs.Slots.{Entry, is_unheld_at, unheld_at, without}
use Rattle.slot_arena.specs.SlabSlots.{entry, things_from, by_serial}
use Rattle.slot_arena.proofs.Things.{OnlyAt, chosen, find-things, without-things, without-none}

module _ {T : Type 0} where
  -- what a handle finds in the slot at its index, if nothing holds it
  abbrev pub reads_unheld : Handle → Option (Slot T) → Option (Entry T)
  reads_unheld h None = None
  reads_unheld h (Some slot) = cond (eqb slot.serial h.serial && eqb slot.count 0) (Some (entry h.index slot)) None

  is_unheld_at-only : (h : Handle) → OnlyAt {T = T} (is_unheld_at h) h.index
  is_unheld_at-only h e differs = and_left _ _ (and_left _ _ (ne_eqb e.index h.index differs))

  is_unheld_at-entry : (h : Handle) (slot : Slot T) → is_unheld_at h (entry h.index slot) ≡ (eqb slot.serial h.serial && eqb slot.count 0)
  is_unheld_at-entry h slot = ap (λ b. (b && eqb slot.serial h.serial) && eqb slot.count 0) (eq-eqb h.index h.index refl)

  is_reads : (h : Handle) (o : Option (Slot T)) → chosen (is_unheld_at h) h.index o ≡ reads_unheld h o
  is_reads h None = refl
  is_reads h (Some slot) = ap (λ b. cond b (Some (entry h.index slot)) None) (is_unheld_at-entry h slot)

  -- a handle finds a thing without holders where its slot has one
  pub unheld_seen : (h : Handle) (slots : List (Option (Slot T))) (seen : List (Entry T)) → by_serial (things_from 0 slots) ≡ seen → unheld_at seen h ≡ option_map (λ e. e.value) (reads_unheld h (get_or slots h.index None))
  unheld_seen h slots seen is =
      ap (λ l. unheld_at l h) (sym is)
      ∙ ap (option_map (λ e. e.value)) (find-things (is_unheld_at h) h.index slots (is_unheld_at-only h) ∙ is_reads h (get_or slots h.index None))

  -- without it, its slot is empty
  pub take_seen : (h : Handle) (slot : Slot T) (slots : List (Option (Slot T))) (seen : List (Entry T)) → by_serial (things_from 0 slots) ≡ seen → get_or slots h.index None ≡ Some slot → (eqb slot.serial h.serial && eqb slot.count 0) ≡ true → by_serial (things_from 0 (set slots h.index None)) ≡ without seen h
  take_seen h slot slots seen is found unheld =
      sym (without-things (is_unheld_at h) h.index slot slots (is_unheld_at-only h) found (is_unheld_at-entry h slot ∙ unheld))
      ∙ ap (λ l. without l h) is

  -- where there is none, all stay
  pub stay_seen : (h : Handle) (slots : List (Option (Slot T))) (seen : List (Entry T)) → by_serial (things_from 0 slots) ≡ seen → reads_unheld h (get_or slots h.index None) ≡ None → seen ≡ without seen h
  stay_seen h slots seen is none =
      sym is
      ∙ sym (without-none (is_unheld_at h) h.index slots (is_unheld_at-only h) (is_reads h (get_or slots h.index None) ∙ none))
      ∙ ap (λ l. without l h) is
