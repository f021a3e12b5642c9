-- How slots over a slab are seen: its things, sorted by serial number.
use Rattle.std.specs.Prelude.{ℕ, ◌≡◌, ◌+◌, ◌≤◌, nat_lt, List, [], ◌∷◌, Option, Some, None, if◌then◌else◌}
use Rattle.slab.specs.Slab.{Slab, get, slab_len}
use Rattle.slot_arena.specs.Slots.{Entry}
use Rattle.slot_arena.specs.declared.slab_slots.Slot.{Slot}

module _ {T : Type 0} where
  -- the thing of a slot at this index
  abbrev pub entry : ℕ → Slot T → Entry T
  entry index slot = record { index = index; serial = slot.serial; count = slot.count; value = slot.value }

  -- the things of these slots, where the first has this index
  abbrev pub things_from : ℕ → List (Option (Slot T)) → List (Entry T)
  things_from index [] = []
  things_from index (None ∷ rest) = things_from (index + 1) rest
  things_from index (Some slot ∷ rest) = entry index slot ∷ things_from (index + 1) rest

  -- a thing put before the first with a greater serial number
  abbrev pub insert_by_serial : Entry T → List (Entry T) → List (Entry T)
  insert_by_serial e [] = e ∷ []
  insert_by_serial e (x ∷ xs) =
      if nat_lt e.serial x.serial then e ∷ (x ∷ xs) else x ∷ insert_by_serial e xs

  -- things by rising serial number
  abbrev pub by_serial : List (Entry T) → List (Entry T)
  by_serial [] = []
  by_serial (e ∷ es) = insert_by_serial e (by_serial es)

  -- no serial number is above the last, no two slots have one, and there is room
  pub record IsSound (s : Slab (Slot T)) (last spare : ℕ) : Type 0 where
    pub below : (k : ℕ) (slot : Slot T) → get s k ≡ Some slot → slot.serial ≤ last
    pub distinct : (j k : ℕ) (a b : Slot T) → get s j ≡ Some a → get s k ≡ Some b → a.serial ≡ b.serial → j ≡ k
    pub room : slab_len s + spare ≤ s.capacity
