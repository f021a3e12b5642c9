-- How often a thing is held.
use Rattle.std.specs.Prelude.{ℕ, ◌≡◌, ◌+◌, ◌-◌, ◌<◌, ◌≤◌, ◌==◌, List, [], ◌∷◌, Option, Some, None, IsSome, sum_by, count_by, All, Contains, filter_map}
use Rattle.slot_arena.specs.declared.handle.Handle.{Handle}
use Rattle.slot_arena.specs.Slots.{Entry, find_at, count_at, with_count}

-- how often these handles name the thing with this serial number
abbrev pub occurrences : ℕ → List Handle → ℕ
occurrences serial hs = count_by (λ h. h.serial == serial) hs

-- the handles in these places
abbrev pub filled : List (Option Handle) → List Handle
filled places = filter_map (λ place. place) places

module _ {T : Type 0} where
  -- a handle names a thing that is held
  pub record IsHeld (es : List (Entry T)) (h : Handle) : Type 0 where
    pub count : ℕ
    pub found : count_at es h ≡ Some count
    pub held : 0 < count

  -- the things once one more holds what a value names, or one less
  abbrev pub kept : List (Entry T) → Option Handle → List (Entry T)
  kept es None = es
  kept es (Some h) = with_count (λ n. n + 1) es h

  abbrev pub dropped : List (Entry T) → Option Handle → List (Entry T)
  dropped es None = es
  dropped es (Some h) = with_count (λ n. n - 1) es h

module _ {T : Type 0} (handles : T → List Handle) where
  -- how often things name it
  abbrev pub held_in : List (Entry T) → ℕ → ℕ
  held_in es serial = sum_by (λ e. occurrences serial (handles e.value)) es

  -- the count of each thing is the number of its occurrences in things and in the caller's hand, and each handle in
  -- either names a thing that is alive
  pub record HeldBy (es : List (Entry T)) (hand : List Handle) : Type 0 where
    pub counts : All (λ e. e.count ≡ held_in es e.serial + occurrences e.serial hand) es
    pub alive : All (λ e. All (λ h. IsSome (find_at es h)) (handles e.value)) es
    pub hand_alive : All (λ h. IsSome (find_at es h)) hand

  -- each handle in a thing names one that is alive, and no count is below the number of
  -- occurrences in things
  pub record IsCounted (es : List (Entry T)) : Type 0 where
    pub alive : (e : Entry T) → Contains es e → (h : Handle) → Contains (handles e.value) h → IsSome (find_at es h)
    pub enough : (e : Entry T) → Contains es e → held_in es e.serial ≤ e.count

module _ {T : Type 0} where
  -- each of these handles can be given up in turn: it names a thing that is held
  abbrev pub CanGiveUp : List (Entry T) → List Handle → Type 0
  CanGiveUp es [] = Unit {0}
  CanGiveUp es (h ∷ hs) = IsHeld es h × CanGiveUp (with_count (λ n. n - 1) es h) hs

module _ {T : Type 0} (places : T → List (Option Handle)) where
  -- each thing's count is the number of its occurrences in the places of things and in the caller's hand
  abbrev pub AreCounted : List (Entry T) → List Handle → Type 0
  AreCounted es hand = HeldBy (λ t. filled (places t)) es hand
