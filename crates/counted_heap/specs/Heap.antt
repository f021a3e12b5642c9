-- How a heap keeps what waits to be taken out.
use Rattle.std.specs.Prelude.{ℕ, ◌≡◌, ◌+◌, ◌<◌, ◌≤◌, ◌&&◌, ◌||◌, Bool, nat_eq, nat_le, if◌then◌else◌, Option, None, List, [], ◌∷◌, map, reverse, count_by, length, Some, ◌^◌}
use Rattle.std.specs.List.Sorted.{IsNonDecreasingBy}
use Rattle.slot_arena.specs.declared.handle.Handle.{Handle}
use Rattle.slot_arena.specs.Slots.{Entry, is_unheld_at, find_at, without}
use Rattle.gd_model.specs.declared.fault.RunFault.{RunFault}
use Rattle.gd_model.specs.declared.fault.RunFault.TheVariants.{TooManyThings}
use Rattle.gd_holding.specs.Rounds.{HeapView}

-- two handles are one
abbrev pub same_handle : Handle → Handle → Bool
same_handle h x = nat_eq x.index h.index && nat_eq x.serial h.serial

-- how often a handle stands in a list
abbrev pub times : Handle → List Handle → ℕ
times h xs = count_by (same_handle h) xs

-- each number is above n and above those before it
abbrev pub RisesFrom : ℕ → List ℕ → Type 0
RisesFrom n [] = Unit {0}
RisesFrom n (x ∷ xs) = (n < x) × RisesFrom x xs

-- no number is above n
abbrev pub UpTo : ℕ → List ℕ → Type 0
UpTo n [] = Unit {0}
UpTo n (x ∷ xs) = (x ≤ n) × UpTo n xs

module _ {T : Type 0} where
  abbrev pub serials : List (Entry T) → List ℕ
  serials es = map (λ e. e.serial) es

  -- nothing holds the thing
  abbrev pub has_none : Entry T → Bool
  has_none e = nat_eq e.count 0

  -- the fault of a heap that is asked for one more thing: as many are alive, or were made, as ever may be
  abbrev pub make_fault : HeapView T → Option RunFault
  make_fault heap =
      if nat_le 16777216 (length heap.things) || nat_le 9223372036854775807 heap.made then Some TooManyThings else None

  -- the rest of the running round stands in falling order; it and what waits for the next are the
  -- things that nothing holds; and each of the two lists has room for all things
  pub record IsSound (things : List (Entry T)) (last made : ℕ) (round waiting : List Handle) (round_room waiting_room : ℕ) : Type 0 where
    pub made_is : last ≡ made
    pub few : made < 2 ^ 63
    pub rising : RisesFrom 0 (serials things)
    pub up_to : UpTo made (serials things)
    pub falling : IsNonDecreasingBy (λ h. h.serial) (reverse round)
    pub unheld : (h : Handle) → times h round + times h waiting ≡ count_by (is_unheld_at h) things
    pub counted : length round + length waiting ≡ count_by has_none things
    pub room : length things ≤ round_room
    pub more_room : length things ≤ waiting_room

  -- the first thing of the running round, which nothing holds, is taken out
  pub record TakesOut (old : HeapView T) (h : Handle) (value : T) (new : HeapView T) : Type 0 where
    pub thing : Entry T
    pub found : find_at old.things h ≡ Some thing
    pub unheld : thing.count ≡ 0
    pub value_is : value ≡ thing.value
    pub first : old.round ≡ h.serial ∷ new.round
    pub things_are : new.things ≡ without old.things h
    pub made_stays : new.made ≡ old.made
