-- Which branch of a `match` is taken, and what it binds.
use Rattle.std.specs.Prelude.{ℕ, zero, suc, ◌+◌, Bool, true, false, ◌||◌, ◌==◌, nat_le, List, [], ◌∷◌, ◌++◌, length, slice_get, is_some, unwrap_or, Option, None, Some, Result, Ok, Err, if◌then◌else◌}
use Rattle.gd_model.specs.declared.fault.RunFault.{RunFault}
use Rattle.gd_model.specs.Datum as d
use Rattle.gd_model.specs.Datum.{Datum}
use Rattle.gd_model.specs.Store.{Store, array_at, dict_at, value_at}
use Rattle.value_semantics.specs.Answer.{and_then, in_form}
use Rattle.value_semantics.specs.Equality.{same}
use Rattle.value_semantics.specs.Operators.{truth}

-- a pattern: `_`, a binding, an expression, an array of patterns and a dictionary of keys with or without patterns of their values,
-- each of these two with whether `..` stands last; the keys are values, since they are constant
mutual
  pub data Pattern : Type 0 where
    any : Pattern
    bind : List ℕ → Pattern
    expression : Pattern
    elements : Bool → Patterns → Pattern
    entries : Bool → Entries → Pattern

  pub data Patterns : Type 0 where
    no_patterns : Patterns
    also : Pattern → Patterns → Patterns

  pub data Entries : Type 0 where
    no_entries : Entries
    has : Datum → Entries → Entries
    with : Datum → Pattern → Entries → Entries

abbrev pub pattern_count : Patterns → ℕ
pattern_count no_patterns = 0
pattern_count (also p ps) = suc (pattern_count ps)

abbrev pub entry_count : Entries → ℕ
entry_count no_entries = 0
entry_count (has k es) = suc (entry_count es)
entry_count (with k p es) = suc (entry_count es)

-- the store as it is, and what evaluating gives from here on: for each expression and guard that is still to be reached its
-- value and the store after it
pub record Reading : Type 0 where
  pub store : Store
  pub given : List (Datum × Store)

-- a part of the subject is read from the store each time it is looked at; what is not there then is null
abbrev pub Part : Type 0
Part = Store → Datum

abbrev pub element_in : Store → ℕ → Datum → Datum
element_in store i (d.array s) = unwrap_or (slice_get (array_at store s).items i) d.null
element_in store i v = d.null

abbrev pub entry_in : Store → Datum → Datum → Datum
entry_in store k (d.dictionary s) = unwrap_or (value_at (dict_at store s).pairs k) d.null
entry_in store k v = d.null

abbrev pub has_entry : Store → Datum → Datum → Bool
has_entry store k (d.dictionary s) = is_some (value_at (dict_at store s).pairs k)
has_entry store k v = false

-- as many as the pattern has, or at least as many where `..` stands last
abbrev pub fits_size : Bool → ℕ → ℕ → Bool
fits_size more wanted size = if more then nat_le wanted size else (size == wanted)

abbrev pub is_array_of : Store → Bool → ℕ → Datum → Bool
is_array_of store more wanted (d.array s) = fits_size more wanted (length (array_at store s).items)
is_array_of store more wanted v = false

-- with `..` a dictionary may be of any size
abbrev pub is_dict_of : Store → Bool → ℕ → Datum → Bool
is_dict_of store more wanted (d.dictionary s) = more || (length (dict_at store s).pairs == wanted)
is_dict_of store more wanted v = false

-- what trying a pattern gives: the bindings where it matches, and the reading after it, or the fault of a comparison
abbrev pub Tried : Type 0
Tried = Result (Option (List (List ℕ × Datum)) × Reading) RunFault

abbrev pub no_match : Reading → Tried
no_match r = Ok (None, r)

abbrev pub match_with : List (List ℕ × Datum) → Reading → Tried
match_with bindings r = Ok (Some bindings, r)

abbrev pub more_bindings : List (List ℕ × Datum) → Option (List (List ℕ × Datum)) × Reading → Option (List (List ℕ × Datum)) × Reading
more_bindings first (None, r) = (None, r)
more_bindings first (Some more, r) = (Some (first ++ more), r)

-- one pattern, and then the rest where it matches
abbrev pub and_rest : Tried → (Reading → Tried) → Tried
and_rest (Err f) rest = Err f
and_rest (Ok (None, r)) rest = Ok (None, r)
and_rest (Ok (Some first, r)) rest = in_form (more_bindings first) (rest r)

-- an expression is evaluated first, and then the subject is read; they match where they are of one kind and equal
abbrev pub compared : Part → Datum → Store → List (Datum × Store) → Tried
compared part v store given =
    in_form (λ yes. (if yes then Some [] else None, record { store = store; given = given })) (same store (part store) v)

abbrev pub try_expression : Part → Store → List (Datum × Store) → Tried
try_expression part store [] = no_match (record { store = store; given = [] })
try_expression part store (g ∷ given) = compared part g.0 g.1 given

unfoldable mutual
  -- a pattern on a part of the subject: kind and size first, then elements and entries in order
  pub tried : Pattern → Part → Reading → Tried
  tried any part r = match_with [] r
  tried (bind name) part r = match_with ((name, part r.store) ∷ []) r
  tried expression part r = try_expression part r.store r.given
  tried (elements more ps) part r =
      if is_array_of r.store more (pattern_count ps) (part r.store) then elements_tried ps 0 part r else no_match r
  tried (entries more es) part r =
      if is_dict_of r.store more (entry_count es) (part r.store) then entries_tried es part r else no_match r

  pub elements_tried : Patterns → ℕ → Part → Reading → Tried
  elements_tried no_patterns i part r = match_with [] r
  elements_tried (also p ps) i part r =
      and_rest (tried p (λ store. element_in store i (part store)) r) (elements_tried ps (suc i) part)

  -- for each entry its key, and then the pattern of its value
  pub entries_tried : Entries → Part → Reading → Tried
  entries_tried no_entries part r = match_with [] r
  entries_tried (has k es) part r = if has_entry r.store k (part r.store) then entries_tried es part r else no_match r
  entries_tried (with k p es) part r =
      if has_entry r.store k (part r.store)
      then and_rest (tried p (λ store. entry_in store k (part store)) r) (entries_tried es part)
      else no_match r

-- a branch: its patterns, and whether it has a guard
pub record Branch : Type 0 where
  pub patterns : Patterns
  pub guarded : Bool

-- the first of a branch's patterns that matches
abbrev pub or_next : Tried → (Reading → Tried) → Tried
or_next (Err f) next = Err f
or_next (Ok (None, r)) next = next r
or_next (Ok (Some bindings, r)) next = Ok (Some bindings, r)

abbrev pub first_match : Patterns → Datum → Reading → Tried
first_match no_patterns v r = no_match r
first_match (also p ps) v r = or_next (tried p (λ store. v) r) (first_match ps v)

-- a guard is evaluated once; where it is false the branch is not taken
abbrev pub guard : List (List ℕ × Datum) → Store → List (Datum × Store) → Tried
guard bindings store [] = no_match (record { store = store; given = [] })
guard bindings store (g ∷ given) =
    let after : Reading = record { store = g.1; given = given } in
    if truth g.1 g.0 then match_with bindings after else no_match after

abbrev pub guarded_match : Bool → Tried → Tried
guarded_match true (Ok (Some bindings, r)) = guard bindings r.store r.given
guarded_match _ t = t

-- the branch that is taken, by its place, with its bindings, and the reading after it; none where no branch is
abbrev pub Taken : Type 0
Taken = Result (Option (ℕ × List (List ℕ × Datum)) × Reading) RunFault

abbrev pub or_branch : ℕ → Tried → (Reading → Taken) → Taken
or_branch i (Err f) next = Err f
or_branch i (Ok (None, r)) next = next r
or_branch i (Ok (Some bindings, r)) next = Ok (Some (i, bindings), r)

abbrev pub taken_from : ℕ → List Branch → Datum → Reading → Taken
taken_from i [] v r = Ok (None, r)
taken_from i (b ∷ bs) v r = or_branch i (guarded_match b.guarded (first_match b.patterns v r)) (taken_from (suc i) bs v)

abbrev pub taken : List Branch → Datum → Reading → Taken
taken branches v r = taken_from 0 branches v r
