-- Connections: for each signal of each emitter a list of targets, in the order in which they were connected.
use Rattle.std.specs.Prelude.{ℕ, ℤ, Bool, ◌&&◌, ◌||◌, not, nat_eq, List, [], ◌++◌, ◌∷◌, Option, option_map, unwrap_or, map, filter, pos, if◌then◌else◌}
use Rattle.std.specs.List.{list_any}
use Rattle.std.specs.Map.{lookup}
use Rattle.std.specs.Ordering.{int_eq}
use Rattle.std.specs.Str.{bytes_eq}
use Rattle.slot_arena.specs.declared.handle.Handle.{Handle}
use Rattle.gd_model.specs.declared.value.Target.{Target}
use Rattle.gd_model.specs.Meant.{callee}
use Rattle.gd_model.specs.Same.{same_target}
use Rattle.gd_signals.specs.declared.connection.Connection.{Connection}

abbrev pub serial_of : Option Handle → Option ℕ
serial_of h = option_map (λ h. h.serial) h

-- the connections of each emitter, by its serial number
abbrev pub Emitters : Type 0
Emitters = List (ℕ × List Connection)

-- the connection is of this signal
abbrev pub is_of : List ℕ → Connection → Bool
is_of signal c = bytes_eq c.signal signal

-- two targets are one
abbrev pub is_one : Target → Target → Bool
is_one s t = same_target (callee s) (callee t)

-- it is of this signal, to this target
abbrev pub is_between : List ℕ → Target → Connection → Bool
is_between signal to c = is_of signal c && is_one c.to to

-- a target, and whether it goes with its first call
abbrev pub Link : Type 0
Link = Target × Bool

abbrev pub link : Connection → Link
link c = (c.to, c.one_shot)

-- the links of one signal among the connections of its emitter
abbrev pub links_of : List ℕ → List Connection → List Link
links_of signal all = map link (filter (is_of signal) all)

-- the connections of one emitter
abbrev pub of_emitter : Emitters → ℕ → List Connection
of_emitter emitters emitter = unwrap_or (lookup (nat_eq emitter) emitters) []

-- the list of one signal of one emitter
abbrev pub links : Emitters → ℕ → List ℕ → List Link
links emitters emitter signal = links_of signal (of_emitter emitters emitter)

-- a target is in a list
abbrev pub is_linked : Target → List Link → Bool
is_linked to list = list_any (λ l. is_one l.0 to) list

-- a list without a target
abbrev pub without : Target → List Link → List Link
without to list = filter (λ l. not (is_one l.0 to)) list

-- a call of `connect` adds to the list: its flags are 0 or 4, and the target is not yet in it
abbrev pub may_connect : List Link → Target → ℤ → Bool
may_connect list to flags = (int_eq flags (pos 0) || int_eq flags (pos 4)) && not (is_linked to list)

-- the list after that call
abbrev pub connected : List Link → Target → ℤ → List Link
connected list to flags = if may_connect list to flags then list ++ (to, int_eq flags (pos 4)) ∷ [] else list

-- the lists, where that of one signal of one emitter is changed and the others are as they were
abbrev pub changed_at : ℕ → List ℕ → (List Link → List Link) → Emitters → ℕ → List ℕ → List Link
changed_at emitter signal change emitters e s =
    if nat_eq emitter e && bytes_eq signal s then change (links emitters e s) else links emitters e s

-- the lists, where all of one emitter are empty and the others are as they were
abbrev pub forgotten : ℕ → Emitters → ℕ → List ℕ → List Link
forgotten emitter emitters e s = if nat_eq emitter e then [] else links emitters e s
