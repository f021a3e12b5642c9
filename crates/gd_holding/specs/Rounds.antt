-- How unheld things are taken out, in rounds.
use Rattle.std.specs.Prelude.{ℕ, ◌≡◌, ◌+◌, ◌-◌, ◌==◌, List, [], ◌∷◌, Option, Some, length, map, filter, refl}
use Rattle.std.specs.Coded.{Coded, code_by, coded×, coded_ℕ, coded_list}
use Rattle.slot_arena.specs.declared.handle.Handle.{Handle}
use Rattle.slot_arena.specs.Slots.{Entry, entry_code, handle_of, find_at, with_count, without}

-- a heap: its things by rising serial number, the serial numbers of what is left of the running
-- round, and how many things were made
pub record HeapView (T : Type 0) : Type 0 where
  pub things : List (Entry T)
  pub round : List ℕ
  pub made : ℕ

abbrev pub heap_code : {T : Type 0} → Coded T → Coded (HeapView T)
heap_code {T} code =
    code_by
    (List (Entry T) × (List ℕ × ℕ))
    (coded× (coded_list (entry_code code)) (coded× (coded_list coded_ℕ) coded_ℕ))
    (λ a. (a.things, (a.round, a.made)))
    (λ p. record { things = p.0; round = p.1.0; made = p.1.1 })
    (λ _. refl)

module _ {T : Type 0} where
  -- the serial numbers of the things that nothing holds, rising
  abbrev pub unheld : List (Entry T) → List ℕ
  unheld es = map (λ e. e.serial) (filter (λ e. e.count == 0) es)

  -- what is left of the running round, or where nothing is left the next one
  abbrev pub round_after : List (Entry T) → List ℕ → List ℕ
  round_after es [] = unheld es
  round_after es (s ∷ rest) = s ∷ rest

  abbrev pub current_round : HeapView T → List ℕ
  current_round heap = round_after heap.things heap.round

  -- the things once these handles are given up: one off a count for each
  abbrev pub given_up : List (Entry T) → List Handle → List (Entry T)
  given_up es [] = es
  given_up es (h ∷ hs) = given_up (with_count (λ n. n - 1) es h) hs

  -- the heap takes out the first thing of the current round, which nothing holds, and gives up
  -- what that thing holds, by a call on the slots for itself and one for each that it holds
  pub record TakesNext (handles : T → List Handle) (class : T → Option ℕ) (old : HeapView T) (serial : ℕ) (kind : Option ℕ) (calls : ℕ) (new : HeapView T) : Type 0 where
    pub thing : Entry T
    pub found : find_at old.things (handle_of thing) ≡ Some thing
    pub unheld : thing.count ≡ 0
    pub first : current_round old ≡ thing.serial ∷ new.round
    pub serial_is : serial ≡ thing.serial
    pub kind_is : kind ≡ class thing.value
    pub things_are : new.things ≡ given_up (without old.things (handle_of thing)) (handles thing.value)
    pub calls_are : calls ≡ 1 + length (handles thing.value)
    pub made_stays : new.made ≡ old.made
