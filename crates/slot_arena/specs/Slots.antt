-- What contracts see of counted slots: the things that are alive, by rising serial number.
use Rattle.std.specs.Prelude.{ℕ, Bool, ◌&&◌, nat_eq, List, Option, map, filter, find, not, if◌then◌else◌, refl}
use Rattle.std.specs.Coded.{Coded, code_by, coded×, coded_ℕ, coded_list}
use Rattle.std.specs.Option.{option_map}
use Rattle.slot_arena.specs.declared.handle.Handle.{Handle}

-- a thing in its slot: where it lies, its serial number, how often it is held, and its value
pub record Entry (T : Type 0) : Type 0 where
  pub index : ℕ
  pub serial : ℕ
  pub count : ℕ
  pub value : T

-- an entry is stored as the tuple of its fields
abbrev pub entry_code : {T : Type 0} → Coded T → Coded (Entry T)
entry_code {T} code =
    code_by
    (ℕ × (ℕ × (ℕ × T)))
    (coded× coded_ℕ (coded× coded_ℕ (coded× coded_ℕ code)))
    (λ e. (e.index, (e.serial, (e.count, e.value))))
    (λ p. record { index = p.0; serial = p.1.0; count = p.1.1.0; value = p.1.1.1 })
    (λ _. refl)

-- an arena: the things that are alive, by rising serial number, how many more go in without
-- memory, and the greatest serial number so far
pub record Arena (T : Type 0) : Type 0 where
  pub things : List (Entry T)
  pub spare : ℕ
  pub last : ℕ

abbrev pub arena_code : {T : Type 0} → Coded T → Coded (Arena T)
arena_code {T} code =
    code_by
    (List (Entry T) × (ℕ × ℕ))
    (coded× (coded_list (entry_code code)) (coded× coded_ℕ coded_ℕ))
    (λ a. (a.things, (a.spare, a.last)))
    (λ p. record { things = p.0; spare = p.1.0; last = p.1.1 })
    (λ _. refl)

module _ {T : Type 0} where
  -- the handle of a thing
  abbrev pub handle_of : Entry T → Handle
  handle_of e = record { index = e.index; serial = e.serial }

  -- the handle names this thing
  abbrev pub is_at : Handle → Entry T → Bool
  is_at h e = nat_eq e.index h.index && nat_eq e.serial h.serial

  -- the handle names this thing, and nothing holds it
  abbrev pub is_unheld_at : Handle → Entry T → Bool
  is_unheld_at h e = is_at h e && nat_eq e.count 0

  -- the thing that a handle names
  abbrev pub find_at : List (Entry T) → Handle → Option (Entry T)
  find_at es h = find (is_at h) es

  -- its value, and its count
  abbrev pub value_at : List (Entry T) → Handle → Option T
  value_at es h = option_map (λ e. e.value) (find_at es h)

  abbrev pub count_at : List (Entry T) → Handle → Option ℕ
  count_at es h = option_map (λ e. e.count) (find_at es h)

  -- the things once this one's count, or its value, is changed
  abbrev pub with_count : (ℕ → ℕ) → List (Entry T) → Handle → List (Entry T)
  with_count change es h =
      map (λ e. if is_at h e then record e { count = change e.count } else e) es

  abbrev pub written_at : List (Entry T) → Handle → T → List (Entry T)
  written_at es h value =
      map (λ e. if is_at h e then record e { value = value } else e) es

  -- the value of this thing, if nothing holds it
  abbrev pub unheld_at : List (Entry T) → Handle → Option T
  unheld_at es h = option_map (λ e. e.value) (find (is_unheld_at h) es)

  -- the things without this one, if nothing holds it
  abbrev pub without : List (Entry T) → Handle → List (Entry T)
  without es h = filter (λ e. not (is_unheld_at h e)) es
