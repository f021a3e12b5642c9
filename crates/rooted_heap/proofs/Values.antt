-- What the calls on the stack leave of its soundness.
use Rattle.std.proofs.Common.{◌≡◌, ◌≢◌, ℕ, ◌+◌, ◌-◌, ◌^◌, ◌<◌, ◌≤◌, List, [], ◌∷◌, ◌++◌, length, map, take, get_or, Option, None, refl, sym, ap, ◌∙◌, subst, arith}
use Rattle.std.proofs.Math.ListN.{set}
use Rattle.std.proofs.Math.Seq.{take-set-lt}
use Rattle.std.specs.Prelude.{sum_by}
use Rattle.std.specs.List.{All}
use Rattle.std.specs.Option.{option_to_list, ForSome}
use Rattle.std.proofs.lemmas.List.{length-set, length-take-le, take-take, take-set, take_more_set, get_or-take, get_or_read, get_or-set_other}
use Rattle.std.proofs.lemmas.List.Elements.{All-get_or, All-push, All-set, All-take, All-same}
use Rattle.std.proofs.lemmas.List.Sums.{sum_by_push, sum_by-set, sum_by_more}
use Rattle.slot_arena.specs.declared.handle.Handle.{Handle}
use Rattle.slot_arena.specs.Slots.{Entry, count_at}
use Rattle.gd_model.specs.declared.value.Value.{Value}
use Rattle.gd_model.specs.declared.value.Value.TheVariants as v
use Rattle.gd_holding.specs.Handles.{value_handle}
use Rattle.gd_holding.specs.Holding.{occurrences, AreCounted, IsHeld}
use Rattle.gd_holding.specs.Rounds.{HeapView}
use Rattle.counted_heap.specs.declared.thing.Thing.{Thing}
use Rattle.counted_heap.specs.Thing.{thing_places}
use Rattle.rooted_heap.specs.Rooted.{RootedView, bare, handles, IsThere, AreHeld, IsSound}
use Rattle.rooted_heap.proofs.Counting.{holds}
use Rattle.rooted_heap.proofs.Holding.{held_apart, held_more, held_less, apart_held, count_below}

-- a value that names nothing is there
pub free_there : (things : List (Handle × Thing)) (names : List (List ℕ)) (x : Value) → value_handle x ≡ None → IsThere things names x
free_there things names v.Nil free = refl
free_there things names (v.Bool b) free = refl
free_there things names (v.Int n) free = refl
free_there things names (v.Str t) free = refl
free_there things names (v.Object h) free = absurd (cc)
free_there things names (v.Array h) free = absurd (cc)
free_there things names (v.Dict h) free = absurd (cc)
free_there things names (v.Callable t) free = refl
free_there things names (v.Signal s) free = refl

-- two views are one where their parts are
pub same_view : (a b : RootedView) → a.things ≡ b.things → a.round ≡ b.round → a.made ≡ b.made → a.names ≡ b.names → a.slots ≡ b.slots → a.values ≡ b.values → a ≡ b
same_view a b things round made names slots values =
    ap (λ (l : List (Handle × Thing)). record { things = l; round = a.round; made = a.made; names = a.names; slots = a.slots; values = a.values }) things
    ∙ ap (λ (l : List ℕ). record { things = b.things; round = l; made = a.made; names = a.names; slots = a.slots; values = a.values }) round
    ∙ ap (λ (n : ℕ). record { things = b.things; round = b.round; made = n; names = a.names; slots = a.slots; values = a.values }) made
    ∙ ap (λ (l : List (List ℕ)). record { things = b.things; round = b.round; made = b.made; names = l; slots = a.slots; values = a.values }) names
    ∙ ap (λ (n : ℕ). record { things = b.things; round = b.round; made = b.made; names = b.names; slots = n; values = a.values }) slots
    ∙ ap (λ (l : List Value). record { things = b.things; round = b.round; made = b.made; names = b.names; slots = b.slots; values = l }) values

-- the number of the values
pub count_is : {es : List (Entry Thing)} {names : List (List ℕ)} {slots : List Value} {top : ℕ} → IsSound es names slots top → length (take top slots) ≡ top
count_is {es} {names} {slots} {top} sound = length-take-le top slots sound.within

-- a value is there
pub there_at : {es : List (Entry Thing)} {names : List (List ℕ)} {slots : List Value} {top : ℕ} → IsSound es names slots top → (i : ℕ) → i < top → (x : Value) → x ≡ get_or slots i x → IsThere (map bare es) names x
there_at {es} {names} {slots} {top} sound i lt x is =
    subst (IsThere (map bare es) names) (get_or-take top slots i x lt ∙ sym is)
    (All-get_or (IsThere (map bare es) names) (take top slots) i x (omega (arith, count_is sound)) sound.held.whole.outside)

-- a value apart from all others
pub one_apart : {es : List (Entry Thing)} {names : List (List ℕ)} {slots : List Value} {top : ℕ} → IsSound es names slots top → (i : ℕ) → i < top → (x : Value) → x ≡ get_or slots i x → AreCounted thing_places es (option_to_list (value_handle x) ++ handles (set (take top slots) i v.Nil))
one_apart {es} {names} {slots} {top} sound i lt x is =
    let P = IsThere (map bare es) names in
    let at = get_or-take top slots i x lt ∙ sym is in
    held_apart x (set (take top slots) i v.Nil)
    (λ s. omega (arith, sum_by-set (holds s) (take top slots) i v.Nil x (omega (arith, count_is sound)), ap (holds s) at))
    (there_at sound i lt x is)
    (All-set P (take top slots) i v.Nil refl sound.held.whole.outside)
    sound.held

-- so it may be kept once more
pub held_at : {es : List (Entry Thing)} {names : List (List ℕ)} {slots : List Value} {top : ℕ} → IsSound es names slots top → (i : ℕ) → i < top → (x : Value) → x ≡ get_or slots i x → ForSome (value_handle x) (λ h. IsHeld es h)
held_at {es} {names} {slots} {top} sound i lt x is = apart_held x (set (take top slots) i v.Nil) (one_apart sound i lt x is)

pub below : {es : List (Entry Thing)} {names : List (List ℕ)} {slots : List Value} {top : ℕ} → IsSound es names slots top → top < 2 ^ 64 → (h : Handle) → ForSome (count_at es h) (λ n. n < 2 ^ 127)
below {es} {names} {slots} {top} sound short h = λ n is. let few : n < 2 ^ 120 = count_below (omega (arith, count_is sound, short)) sound.held h n is in omega arith

-- a value more
pub sound_pushed : {es es' : List (Entry Thing)} {names : List (List ℕ)} {slots : List Value} {top : ℕ} → IsSound es names slots top → top < length slots → (x : Value) → map bare es' ≡ map bare es → AreCounted thing_places es' (option_to_list (value_handle x) ++ handles (take top slots)) → IsThere (map bare es) names x → IsSound es' names (set slots top x) (top + 1)
sound_pushed {es} {es'} {names} {slots} {top} sound room x same counted there =
    let P = IsThere (map bare es) names in
    let grown = take_more_set slots top x room in
    record {
      within = omega (arith, length-set slots top x);
      held = subst (λ (l : List Value). AreHeld es' names l) (sym grown)
          (held_more x (take top slots ++ x ∷ []) same counted
          (λ s. omega (arith, sum_by_push (holds s) (take top slots) x))
          (All-push P (take top slots) x sound.held.whole.outside there)
          sound.held);
    }

-- a value more that names nothing
pub sound_pushed_free : {es : List (Entry Thing)} {names : List (List ℕ)} {slots : List Value} {top : ℕ} → IsSound es names slots top → top < length slots → (x : Value) → value_handle x ≡ None → IsSound es names (set slots top x) (top + 1)
sound_pushed_free {es} {names} {slots} {top} sound room x free =
    sound_pushed sound room x refl
    (subst (λ (o : Option Handle). AreCounted thing_places es (option_to_list o ++ handles (take top slots))) (sym free) sound.held.counted)
    (free_there (map bare es) names x free)

-- the last value apart from the others
pub last_apart : {es : List (Entry Thing)} {names : List (List ℕ)} {slots : List Value} {top : ℕ} → IsSound es names slots top → (i : ℕ) → top ≡ i + 1 → (x : Value) → x ≡ get_or slots i x → AreCounted thing_places es (option_to_list (value_handle x) ++ handles (take i slots))
last_apart {es} {names} {slots} {top} sound i is_top x is =
    let P = IsThere (map bare es) names in
    let whole : take i (take top slots) ≡ take i slots = take-take i top slots (omega arith) in
    held_apart x (take i slots)
    (λ s. omega (arith, sum_by_more (holds s) slots i x (omega (arith, sound.within)), ap (λ n. sum_by (holds s) (take n slots)) is_top, ap (holds s) is))
    (there_at sound i (omega arith) x is)
    (All-same P (take i slots) (take i (take top slots)) (sym whole) (All-take P i (take top slots) sound.held.whole.outside))
    sound.held

-- the last value is given up
pub sound_popped : {es es' : List (Entry Thing)} {names : List (List ℕ)} {slots : List Value} {top : ℕ} → IsSound es names slots top → (i : ℕ) → top ≡ i + 1 → map bare es' ≡ map bare es → AreCounted thing_places es' (handles (take i slots)) → (y : Value) → IsSound es' names (set slots i y) i
sound_popped {es} {es'} {names} {slots} {top} sound i is_top same counted y =
    let P = IsThere (map bare es) names in
    let whole : take i (take top slots) ≡ take i slots = take-take i top slots (omega arith) in
    record {
      within = omega (arith, length-set slots i y, sound.within);
      held = subst (λ (l : List Value). AreHeld es' names l) (sym (take-set slots i y))
          (held_less (take i slots) same counted
          (All-same P (take i slots) (take i (take top slots)) (sym whole) (All-take P i (take top slots) sound.held.whole.outside))
          sound.held);
    }

-- what a local gets: the last value, where another one stood
module _ {es : List (Entry Thing)} {names : List (List ℕ)} {slots : List Value} {top : ℕ} (sound : IsSound es names slots top) (i j : ℕ) (is_top : top ≡ j + 1) (lt : i < j) (x old y : Value) (is : x ≡ get_or slots j x) (old_is : old ≡ get_or (set slots j y) i old) where
  stored_parts : (s : ℕ) → holds s old + sum_by (holds s) (set (take j slots) i x) ≡ sum_by (holds s) (take top slots)
  stored_parts s =
      let apart : i ≢ j = omega arith in
      let was : get_or (take j slots) i old ≡ old = get_or-take j slots i old lt ∙ sym (get_or-set_other slots j i y old apart) ∙ sym old_is in
      omega (
        arith,
        sum_by-set (holds s) (take j slots) i x old (omega (arith, length-take-le j slots (omega (arith, sound.within)))),
        ap (holds s) was,
        sum_by_more (holds s) slots j x (omega (arith, sound.within)),
        ap (λ n. sum_by (holds s) (take n slots)) is_top,
        ap (holds s) is,
      )

  stored_there : All (IsThere (map bare es) names) (set (take j slots) i x)
  stored_there =
      let P = IsThere (map bare es) names in
      let whole : take j (take top slots) ≡ take j slots = take-take j top slots (omega arith) in
      All-set P (take j slots) i x (there_at sound j (omega arith) x is)
      (All-same P (take j slots) (take j (take top slots)) (sym whole) (All-take P j (take top slots) sound.held.whole.outside))

  pub stored_apart : AreCounted thing_places es (option_to_list (value_handle old) ++ handles (set (take j slots) i x))
  stored_apart =
      let apart : i ≢ j = omega arith in
      held_apart old (set (take j slots) i x) stored_parts
      (there_at sound i (omega arith) old (old_is ∙ get_or-set_other slots j i y old apart))
      stored_there
      sound.held

  pub sound_stored : {es' : List (Entry Thing)} → map bare es' ≡ map bare es → AreCounted thing_places es' (handles (set (take j slots) i x)) → IsSound es' names (set (set slots j y) i x) j
  sound_stored {es'} same counted =
      record {
        within = omega (arith, length-set slots j y, length-set (set slots j y) i x, sound.within);
        held = subst (λ (l : List Value). AreHeld es' names l) (sym (take-set-lt j (set slots j y) i x lt ∙ ap (λ (l : List Value). set l i x) (take-set slots j y)))
            (held_less (set (take j slots) i x) same counted stored_there sound.held);
      }

-- what contracts see of the parts
abbrev pub view_of : HeapView Thing → List (List ℕ) → List Value → ℕ → RootedView
view_of heap names slots top = record { things = map bare heap.things; round = heap.round; made = heap.made; names = names; slots = length slots; values = take top slots }

-- other values over the same things
pub next_view : (heap heap' : HeapView Thing) (names : List (List ℕ)) (slots slots' : List Value) (top top' : ℕ) (old : RootedView) → view_of heap names slots top ≡ old → map bare heap'.things ≡ map bare heap.things → heap'.round ≡ heap.round → heap'.made ≡ heap.made → length slots' ≡ length slots → (values : List Value) → take top' slots' ≡ values → view_of heap' names slots' top' ≡ record old { values = values }
next_view heap heap' names slots slots' top top' old is things round made long values now =
    same_view (view_of heap' names slots' top') (record old { values = values })
    (things ∙ ap (λ (w : RootedView). w.things) is)
    (round ∙ ap (λ (w : RootedView). w.round) is)
    (made ∙ ap (λ (w : RootedView). w.made) is)
    (ap (λ (w : RootedView). w.names) is)
    (long ∙ ap (λ (w : RootedView). w.slots) is)
    now

-- other things and values
pub new_view : (heap heap' : HeapView Thing) (names : List (List ℕ)) (slots slots' : List Value) (top top' : ℕ) (old : RootedView) → view_of heap names slots top ≡ old → (things : List (Handle × Thing)) (made : ℕ) (values : List Value) → map bare heap'.things ≡ things → heap'.round ≡ heap.round → heap'.made ≡ made → length slots' ≡ length slots → take top' slots' ≡ values → view_of heap' names slots' top' ≡ record old { things = things; made = made; values = values }
new_view heap heap' names slots slots' top top' old is things made values same round made' long now =
    same_view (view_of heap' names slots' top') (record old { things = things; made = made; values = values })
    same
    (round ∙ ap (λ (w : RootedView). w.round) is)
    made'
    (ap (λ (w : RootedView). w.names) is)
    (long ∙ ap (λ (w : RootedView). w.slots) is)
    now

-- there is room
pub room_left : (slots : List Value) {top : ℕ} (values : List Value) (n : ℕ) → take top slots ≡ values → length slots ≡ n → top ≤ length slots → length values < n → top < length slots
room_left slots {top} values n same all within lt = omega (arith, length-take-le top slots within, ap length same, all)

-- a place of the values is one of the slots
pub place_of : (slots : List Value) {top : ℕ} (values : List Value) (i : ℕ) → take top slots ≡ values → top ≤ length slots → i < length values → i < top
place_of slots {top} values i same within lt = omega (arith, length-take-le top slots within, ap length same)

-- what stands at a place
pub value_is : (slots : List Value) (top : ℕ) (values : List Value) (i : ℕ) (x d : Value) → take top slots ≡ values → top ≤ length slots → i < top → x ≡ get_or slots i x → x ≡ get_or values i d
value_is slots top values i x d same within lt is =
    get_or_read slots i x (omega arith) is d ∙ sym (get_or-take top slots i d lt) ∙ ap (λ (l : List Value). get_or l i d) same

pub pushed_values : (slots : List Value) (top : ℕ) (values : List Value) (x y : Value) → take top slots ≡ values → top < length slots → x ≡ y → take (top + 1) (set slots top x) ≡ values ++ y ∷ []
pushed_values slots top values x y same room is =
    take_more_set slots top x room ∙ ap (λ (l : List Value). l ++ x ∷ []) same ∙ ap (λ (z : Value). values ++ z ∷ []) is

pub popped_values : (slots : List Value) (top : ℕ) (values : List Value) (y : Value) → take top slots ≡ values → top ≤ length slots → take (top - 1) (set slots (top - 1) y) ≡ take (length values - 1) values
popped_values slots top values y same within =
    take-set slots (top - 1) y
    ∙ sym (take-take (top - 1) top slots (omega arith))
    ∙ ap (λ (l : List Value). take (top - 1) l) same
    ∙ ap (λ n. take (n - 1) values) (sym (length-take-le top slots within) ∙ ap length same)

pub stored_values : (slots : List Value) (top : ℕ) (values : List Value) (i : ℕ) (x y : Value) → take top slots ≡ values → top ≤ length slots → i < top - 1 → x ≡ get_or slots (top - 1) x → take (top - 1) (set (set slots (top - 1) y) i x) ≡ set (take (length values - 1) values) i (get_or values (length values - 1) v.Nil)
stored_values slots top values i x y same within lt is =
    let n : top ≡ length values = sym (length-take-le top slots within) ∙ ap length same in
    let last : x ≡ get_or values (length values - 1) v.Nil =
    value_is slots top values (top - 1) x v.Nil same within (omega arith) is ∙ ap (λ m. get_or values (m - 1) v.Nil) n in
    take-set-lt (top - 1) (set slots (top - 1) y) i x lt
    ∙ ap (λ (l : List Value). set l i x) (popped_values slots top values y same within)
    ∙ ap (λ (z : Value). set (take (length values - 1) values) i z) last

-- a value that names nothing takes the place of another
module _ {es : List (Entry Thing)} {names : List (List ℕ)} {slots : List Value} {top : ℕ} (sound : IsSound es names slots top) (i : ℕ) (lt : i < top) (old y : Value) (is : old ≡ get_or slots i old) (free : value_handle y ≡ None) where
  set_there : All (IsThere (map bare es) names) (set (take top slots) i y)
  set_there = All-set (IsThere (map bare es) names) (take top slots) i y (free_there (map bare es) names y free) sound.held.whole.outside

  pub set_apart : AreCounted thing_places es (option_to_list (value_handle old) ++ handles (set (take top slots) i y))
  set_apart =
      let at = get_or-take top slots i old lt ∙ sym is in
      let none : (s : ℕ) → holds s y ≡ 0 = λ s. ap (λ (o : Option Handle). occurrences s (option_to_list o)) free in
      held_apart old (set (take top slots) i y)
      (λ s. omega (arith, sum_by-set (holds s) (take top slots) i y old (omega (arith, count_is sound)), ap (holds s) at, none s))
      (there_at sound i lt old is)
      set_there
      sound.held

  pub sound_set : {es' : List (Entry Thing)} → map bare es' ≡ map bare es → AreCounted thing_places es' (handles (set (take top slots) i y)) → IsSound es' names (set slots i y) top
  sound_set {es'} same counted =
      record {
        within = omega (arith, length-set slots i y, sound.within);
        held = subst (λ (l : List Value). AreHeld es' names l) (sym (take-set-lt top slots i y lt))
            (held_less (set (take top slots) i y) same counted set_there sound.held);
      }
