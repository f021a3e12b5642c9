-- The count of each thing stays the number of its occurrences in things and in the caller's hand.
use Rattle.std.proofs.Common.{◌≡◌, ◌≢◌, ℕ, zero, suc, ◌+◌, ◌-◌, ◌<◌, ◌≤◌, Bool, true, false, not, cond, eqb, List, [], ◌∷◌, ◌++◌, length, map, Option, Some, None, IsSome, is_some, refl, sym, ap, ◌∙◌, inl, inr, subst, arith, Contains}
use Rattle.std.specs.Prelude.{filter, sum_by}
use Rattle.std.specs.List.{All, AllByRecursion}
use Rattle.std.specs.List.Sorted.{IsPermutation}
use Rattle.std.specs.Option.{option_map}
use Rattle.std.proofs.lemmas.Bool.{cond_both, cond-true, cond-false, cases_Bool, and_right, and_from, eq-eqb, ne_eqb}
use Rattle.std.proofs.lemmas.List.Elements.{All-from_recursion, recursion_from_All, All-nil, All-cons, All-head, All-tail, All-push, All-contains, All-append, Contains-append_left, Contains-append_right}
use Rattle.std.proofs.lemmas.List.Sorted.{All-permutation, sum_by-IsPermutation}
use Rattle.std.proofs.lemmas.List.Sums.{sum_by-cons, sum_by-append, sum_by_push, get_or-le-sum_by, count_by-le-length}
use Rattle.slot_arena.specs.declared.handle.Handle.{Handle}
use Rattle.slot_arena.specs.Slots.{Entry, is_at, is_unheld_at, handle_of, find_at, count_at, value_at, without, with_count, written_at}
use Rattle.gd_holding.specs.Holding.{occurrences, held_in, IsHeld, HeldBy, IsCounted}
use Rattle.gd_holding.specs.Rounds.{HeapView, given_up, unheld, TakesNext}
use Rattle.counted_heap.specs.Heap.{RisesFrom, UpTo, serials}
use Rattle.counted_heap.proofs.Split.{split, NoneAt, later_none, serial_at, without-split}
use Rattle.counted_heap.proofs.Changes.{one, found_from_count, serials-with_count, RisesFrom-filter}
use Rattle.counted_heap.proofs.GiveUp.{found-without, found_Contains, the_some, stands_once, occurrences-cons}

occurrences-append : (s : ℕ) (xs ys : List Handle) → occurrences s (xs ++ ys) ≡ occurrences s xs + occurrences s ys
occurrences-append s xs ys = sum_by-append (λ (h : Handle). cond (eqb h.serial s) 1 0) xs ys

-- what holds of each element that is there, by recursion
each_there : {X : Type 0} (P : X → Type 0) (xs : List X) → ((x : X) → Contains xs x → P x) → AllByRecursion P xs
each_there P [] each = tt
each_there P (x ∷ xs) each = (each x (0, omega arith, refl), each_there P xs (λ y there. each y (suc there.0, omega (arith, there.1), there.2)))

each : {X : Type 0} (P : X → Type 0) (xs : List X) → ((x : X) → Contains xs x → P x) → All P xs
each P xs all = All-from_recursion P xs (each_there P xs all)

positive_from : (n : ℕ) → eqb n 0 ≡ false → 0 < n
positive_from zero e = absurd (cc)
positive_from (suc n) e = omega arith

weaker : {X : Type 0} (P Q : X → Type 0) (xs : List X) → ((x : X) → P x → Q x) → AllByRecursion P xs → AllByRecursion Q xs
weaker P Q [] follows all = tt
weaker P Q (x ∷ xs) follows all = (follows x all.0, weaker P Q xs follows all.1)

filtered : {X : Type 0} (P : X → Type 0) (p : X → Bool) (xs : List X) → AllByRecursion P xs → AllByRecursion P (filter p xs)
filtered P p [] all = tt
filtered P p (x ∷ xs) all =
    cond_both (p x) (x ∷ filter p xs) (filter p xs) (AllByRecursion P) (λ _. (all.0, filtered P p xs all.1)) (λ _. filtered P p xs all.1)

all_left : {X : Type 0} (P : X → Type 0) (xs ys : List X) → All P (xs ++ ys) → All P xs
all_left P xs ys all = each P xs (λ x there. All-contains P (xs ++ ys) x all (Contains-append_left xs ys x there))

all_right : {X : Type 0} (P : X → Type 0) (xs ys : List X) → All P (xs ++ ys) → All P ys
all_right P xs ys all = each P ys (λ y there. All-contains P (xs ++ ys) y all (Contains-append_right xs ys y there))

another : (s : ℕ) (h : Handle) (hs : List Handle) → s ≢ h.serial → occurrences s (h ∷ hs) ≡ occurrences s hs
another s h hs apart = let zero_is = ap one (ne_eqb h.serial s (λ is. apart (sym is))) in omega (arith, occurrences-cons s h hs, zero_is)

itself : (h : Handle) (hs : List Handle) → occurrences h.serial (h ∷ hs) ≡ 1 + occurrences h.serial hs
itself h hs = let one_is = ap one (eq-eqb h.serial h.serial refl) in omega (arith, occurrences-cons h.serial h hs, one_is)

sum_zero : {X : Type 0} (f : X → ℕ) (xs : List X) → AllByRecursion (λ x. f x ≡ 0) xs → sum_by f xs ≡ 0
sum_zero f [] zeros = refl
sum_zero f (x ∷ xs) zeros = omega (arith, sum_by-cons f x xs, zeros.0, sum_zero f xs zeros.1)

module _ {T : Type 0} where
  -- a thing's values are the same with another count
  same_values : (Q : T → Type 0) (f : ℕ → ℕ) (es : List (Entry T)) (h : Handle) → AllByRecursion (λ (e : Entry T). Q e.value) es → AllByRecursion (λ (e : Entry T). Q e.value) (with_count f es h)
  same_values Q f [] h all = tt
  same_values Q f (x ∷ xs) h all =
      (cond_both (is_at h x) (record x { count = f x.count }) x (λ y. Q y.value) (λ _. all.0) (λ _. all.0), same_values Q f xs h all.1)

  -- another count leaves what a handle finds
  pub alive_changed : (f : ℕ → ℕ) (h other : Handle) (es : List (Entry T)) → IsSome (find_at es other) → IsSome (find_at (with_count f es h) other)
  alive_changed f h other [] alive = alive
  alive_changed f h other (x ∷ xs) alive =
      let x' = cond (is_at h x) (record x { count = f x.count }) x in
      let same : is_at other x' ≡ is_at other x = cond_both (is_at h x) (record x { count = f x.count }) x (λ y. is_at other y ≡ is_at other x) (λ _. refl) (λ _. refl) in
      elim (cases_Bool (is_at other x)) [
        | inl here ↦ ap is_some (cond-true (is_at other x') (Some x') (find_at (with_count f xs h) other) (same ∙ here))
        | inr there ↦
            let rest : IsSome (find_at xs other) = subst (λ o. IsSome o) (cond-false (is_at other x) (Some x) (find_at xs other) there) alive in
            subst (λ o. IsSome o) (sym (cond-false (is_at other x') (Some x') (find_at (with_count f xs h) other) (same ∙ there))) (alive_changed f h other xs rest)
      ]

  held_in-with_count : (handles : T → List Handle) (f : ℕ → ℕ) (es : List (Entry T)) (h : Handle) (s : ℕ) → held_in handles (with_count f es h) s ≡ held_in handles es s
  held_in-with_count handles f [] h s = refl
  held_in-with_count handles f (x ∷ xs) h s =
      let x' = cond (is_at h x) (record x { count = f x.count }) x in
      let names = λ (y : Entry T). occurrences s (handles y.value) in
      let same : names x' ≡ names x = cond_both (is_at h x) (record x { count = f x.count }) x (λ y. names y ≡ names x) (λ _. refl) (λ _. refl) in
      sum_by-cons names x' (with_count f xs h) ∙ ap (λ n. n + held_in handles (with_count f xs h) s) same
      ∙ ap (λ n. names x + n) (held_in-with_count handles f xs h s) ∙ sym (sum_by-cons names x xs)

  -- what is found stands later than what came before
  found_later : (h : Handle) (n : ℕ) (es : List (Entry T)) (e : Entry T) → RisesFrom n (serials es) → find_at es h ≡ Some e → n < h.serial
  found_later h n [] e rises found = absurd (cc)
  found_later h n (x ∷ xs) e rises found =
      cond_both (is_at h x) (Some x) (find_at xs h)
      (λ o. o ≡ Some e → n < h.serial)
      (λ here is. omega (arith, serial_at h x here, rises.0))
      (λ other is. omega (arith, found_later h x.serial xs e rises.1 is, rises.0))
      found

  -- the count of each is what a function of its serial number says
  Counts : (ℕ → ℕ) → List (Entry T) → Type 0
  Counts f es = AllByRecursion (λ (e : Entry T). e.count ≡ f e.serial) es

  counts_later : (g f f' : ℕ → ℕ) (h : Handle) (n : ℕ) (es : List (Entry T)) → h.serial ≤ n → RisesFrom n (serials es) → ((s : ℕ) → s ≢ h.serial → f' s ≡ f s) → AllByRecursion (λ (e : Entry T). e.count ≡ f e.serial) es → AllByRecursion (λ (e : Entry T). e.count ≡ f' e.serial) (with_count g es h)
  counts_later g f f' h n [] le rises same counts = tt
  counts_later g f f' h n (x ∷ xs) le rises same counts =
      let apart : x.serial ≢ h.serial = λ is. omega (arith, is, rises.0, le) in
      let no : is_at h x ≡ false = and_right (eqb x.index h.index) _ (ne_eqb x.serial h.serial apart) in
      let x' = cond (is_at h x) (record x { count = g x.count }) x in
      let is : x' ≡ x = cond-false (is_at h x) (record x { count = g x.count }) x no in (
        subst (λ (y : Entry T). y.count ≡ f' y.serial) (sym is) (counts.0 ∙ sym (same x.serial apart)),
        counts_later g f f' h x.serial xs (omega (arith, rises.0, le)) rises.1 same counts.1,
      )

  -- the count of one thing changes
  counts_changed : (g f f' : ℕ → ℕ) (h : Handle) (n : ℕ) (es : List (Entry T)) (e : Entry T) → RisesFrom n (serials es) → find_at es h ≡ Some e → ((s : ℕ) → s ≢ h.serial → f' s ≡ f s) → g (f h.serial) ≡ f' h.serial → AllByRecursion (λ (x : Entry T). x.count ≡ f x.serial) es → AllByRecursion (λ (x : Entry T). x.count ≡ f' x.serial) (with_count g es h)
  counts_changed g f f' h n [] e rises found same step counts = tt
  counts_changed g f f' h n (x ∷ xs) e rises found same step counts =
      let x' = cond (is_at h x) (record x { count = g x.count }) x in
      elim (cases_Bool (is_at h x)) [
        | inl here ↦
            let serial = serial_at h x here in
            let is : x' ≡ record x { count = g x.count } = cond-true (is_at h x) (record x { count = g x.count }) x here in (
              subst (λ (y : Entry T). y.count ≡ f' y.serial) (sym is) (ap g (counts.0 ∙ ap f serial) ∙ step ∙ ap f' (sym serial)),
              counts_later g f f' h x.serial xs (omega (arith, serial)) rises.1 same counts.1,
            )
        | inr other ↦
            let later : find_at xs h ≡ Some e = sym (cond-false (is_at h x) (Some x) (find_at xs h) other) ∙ found in
            let apart : x.serial ≢ h.serial = λ is. omega (arith, is, found_later h x.serial xs e rises.1 later) in
            let is : x' ≡ x = cond-false (is_at h x) (record x { count = g x.count }) x other in (
              subst (λ (y : Entry T). y.count ≡ f' y.serial) (sym is) (counts.0 ∙ sym (same x.serial apart)),
              counts_changed g f f' h x.serial xs e rises.1 later same step counts.1,
            )
      ]

module _ {T : Type 0} (handles : T → List Handle) where
  -- a thing's count changes with the hand
  held_changed : (g : ℕ → ℕ) (es : List (Entry T)) (h : Handle) (e : Entry T) (hand left : List Handle) → RisesFrom 0 (serials es) → find_at es h ≡ Some e → ((s : ℕ) → s ≢ h.serial → occurrences s left ≡ occurrences s hand) → g (held_in handles es h.serial + occurrences h.serial hand) ≡ held_in handles es h.serial + occurrences h.serial left → All (λ (x : Handle). IsSome (find_at es x)) left → HeldBy handles es hand → HeldBy handles (with_count g es h) left
  held_changed g es h e hand left rises found same step alive held =
      let new = with_count g es h in
      let f = λ (s : ℕ). held_in handles es s + occurrences s hand in
      let f' = λ (s : ℕ). held_in handles new s + occurrences s left in
      let stays = λ (s : ℕ). held_in-with_count handles g es h s in
      let P = λ (x : Entry T). x.count ≡ f x.serial in
      let P' = λ (x : Entry T). x.count ≡ f' x.serial in
      record {
        counts = All-from_recursion P' new
            (counts_changed g f f' h 0 es e rises found
            (λ s apart. omega (arith, stays s, same s apart))
            (step ∙ omega (arith, stays h.serial))
            (recursion_from_All P es held.counts));
        alive =
            let Q = λ (v : T). All (λ (x : Handle). IsSome (find_at new x)) (handles v) in
            All-from_recursion (λ (x : Entry T). Q x.value) new
            (same_values Q g es h (weaker _ _ es
            (λ x all. each _ (handles x.value) (λ y there. alive_changed g h y es (All-contains (λ (z : Handle). IsSome (find_at es z)) (handles x.value) y all there)))
            (recursion_from_All (λ (x : Entry T). All (λ (y : Handle). IsSome (find_at es y)) (handles x.value)) es held.alive)));
        hand_alive = each (λ (x : Handle). IsSome (find_at new x)) left (λ x there. alive_changed g h x es (All-contains (λ (y : Handle). IsSome (find_at es y)) left x alive there));
      }

  -- one more holds it
  pub held_kept : (es : List (Entry T)) (h : Handle) (hand : List Handle) → RisesFrom 0 (serials es) → IsSome (find_at es h) → HeldBy handles es hand → HeldBy handles (with_count (λ n. n + 1) es h) (h ∷ hand)
  held_kept es h hand rises alive held =
      let e = the_some (find_at es h) alive in
      held_changed (λ n. n + 1) es h e.0 hand (h ∷ hand) rises e.1 (λ s apart. another s h hand apart) (omega (arith, itself h hand))
      (All-cons (λ (x : Handle). IsSome (find_at es x)) h hand alive held.hand_alive) held

  -- one less holds it
  pub held_dropped : (es : List (Entry T)) (h : Handle) (hand : List Handle) → RisesFrom 0 (serials es) → HeldBy handles es (h ∷ hand) → HeldBy handles (with_count (λ n. n - 1) es h) hand
  held_dropped es h hand rises held =
      let alive = All-head (λ (x : Handle). IsSome (find_at es x)) h hand held.hand_alive in
      let e = the_some (find_at es h) alive in
      held_changed (λ n. n - 1) es h e.0 (h ∷ hand) hand rises e.1 (λ s apart. sym (another s h hand apart)) (omega (arith, itself h hand))
      (All-tail (λ (x : Handle). IsSome (find_at es x)) h hand held.hand_alive) held

  -- what a thing held is given up
  pub held_given_up : (hs : List Handle) (es : List (Entry T)) (hand : List Handle) → RisesFrom 0 (serials es) → HeldBy handles es (hs ++ hand) → HeldBy handles (given_up es hs) hand
  held_given_up [] es hand rises held = held
  held_given_up (h ∷ hs) es hand rises held =
      held_given_up hs (with_count (λ n. n - 1) es h) hand (subst (RisesFrom 0) (sym (serials-with_count (λ n. n - 1) es h)) rises)
      (held_dropped es h (hs ++ hand) rises held)

  -- a handle in a thing is counted
  in_thing : (es : List (Entry T)) (y : Entry T) (h : Handle) → Contains es y → Contains (handles y.value) h → 0 < held_in handles es h.serial
  in_thing es y h there names =
      let n = λ (x : Entry T). occurrences h.serial (handles x.value) in
      omega (arith, stands_once (handles y.value) h names, get_or-le-sum_by n es there.0 y there.1, ap n there.2)

  -- what is held is still found without an unheld thing
  alive_without : (es : List (Entry T)) (gone h : Handle) (hand : List Handle) → HeldBy handles es hand → 0 < held_in handles es h.serial + occurrences h.serial hand → IsSome (find_at es h) → IsSome (find_at (without es gone) h)
  alive_without es gone h hand held some alive =
      let x = the_some (find_at es h) alive in
      let there = found_Contains h es x.0 x.1 in
      let count = All-contains (λ (e : Entry T). e.count ≡ held_in handles es e.serial + occurrences e.serial hand) es x.0 held.counts there.0 in
      let same = ap (λ (s : ℕ). held_in handles es s + occurrences s hand) there.1 in
      ap is_some (found-without gone h es x.0 (omega (arith, count, same, some)) x.1)

  held_in-without : (es : List (Entry T)) (gone : Handle) (e : Entry T) (s : ℕ) → RisesFrom 0 (serials es) → find_at es gone ≡ Some e → e.count ≡ 0 → held_in handles es s ≡ held_in handles (without es gone) s + occurrences s (handles e.value)
  held_in-without es gone e s rises found none =
      let n = λ (x : Entry T). occurrences s (handles x.value) in
      let parts = split gone 0 es e rises found in
      let was = ap (sum_by n) parts.whole in
      let now = ap (sum_by n) (without-split gone es e parts none) in
      omega (arith, was, now, sum_by-append n parts.front (e ∷ parts.back), sum_by-append n parts.front parts.back, sum_by-cons n e parts.back)

  -- an unheld thing is taken out, and what it held passes into the hand
  pub held_without : (es : List (Entry T)) (gone : Handle) (e : Entry T) (hand : List Handle) → RisesFrom 0 (serials es) → find_at es gone ≡ Some e → e.count ≡ 0 → HeldBy handles es hand → HeldBy handles (without es gone) (handles e.value ++ hand)
  held_without es gone e hand rises found none held =
      let new = without es gone in
      let test = λ (x : Entry T). not (is_unheld_at gone x) in
      let left = handles e.value ++ hand in
      let P = λ (x : Entry T). x.count ≡ held_in handles es x.serial + occurrences x.serial hand in
      let P' = λ (x : Entry T). x.count ≡ held_in handles new x.serial + occurrences x.serial left in
      let alive = λ (x : Handle). IsSome (find_at es x) in
      let alive' = λ (x : Handle). IsSome (find_at new x) in
      let there = (found_Contains gone es e found).0 in
      let stays : (y : Entry T) → Contains es y → All alive' (handles y.value) = λ y in_es.
      each alive' (handles y.value) (λ h names. alive_without es gone h hand held (omega (arith, in_thing es y h in_es names))
      (All-contains alive (handles y.value) h (All-contains (λ (x : Entry T). All alive (handles x.value)) es y held.alive in_es) names)) in
      record {
        counts = All-from_recursion P' new (filtered P' test es (weaker P P' es
            (λ x is. omega (arith, is, held_in-without es gone e x.serial rises found none, occurrences-append x.serial (handles e.value) hand))
            (recursion_from_All P es held.counts)));
        alive =
            let Q = λ (x : Entry T). All alive' (handles x.value) in
            All-from_recursion Q new (filtered Q test es (each_there Q es stays));
        hand_alive = All-append alive' (handles e.value) hand (stays e there)
            (each alive' hand (λ h in_hand. alive_without es gone h hand held (omega (arith, stands_once hand h in_hand)) (All-contains alive hand h held.hand_alive in_hand)));
      }

  -- what settling leaves
  pub held_settled : (es : List (Entry T)) (e : Entry T) (hand : List Handle) → RisesFrom 0 (serials es) → find_at es (handle_of e) ≡ Some e → e.count ≡ 0 → HeldBy handles es hand → HeldBy handles (given_up (without es (handle_of e)) (handles e.value)) hand
  held_settled es e hand rises found none held =
      held_given_up (handles e.value) (without es (handle_of e)) hand (RisesFrom-filter (λ (x : Entry T). not (is_unheld_at (handle_of e) x)) 0 es rises)
      (held_without es (handle_of e) e hand rises found none held)

  pub held_next : (class : T → Option ℕ) (old new : HeapView T) (serial : ℕ) (kind : Option ℕ) (calls : ℕ) (hand : List Handle) → RisesFrom 0 (serials old.things) → TakesNext handles class old serial kind calls new → HeldBy handles old.things hand → HeldBy handles new.things hand
  held_next class old new serial kind calls hand rises takes held =
      subst (λ (es : List (Entry T)). HeldBy handles es hand) (sym takes.things_are) (held_settled old.things takes.thing hand rises takes.found takes.unheld held)

  -- a caller whose handles are counted can settle
  pub counted : (es : List (Entry T)) (hand : List Handle) → HeldBy handles es hand → IsCounted handles es
  counted es hand held = record {
    alive = λ e there h names. All-contains (λ (x : Handle). IsSome (find_at es x)) (handles e.value) h (All-contains (λ (x : Entry T). All (λ (y : Handle). IsSome (find_at es y)) (handles x.value)) es e held.alive there) names;
    enough = λ e there. omega (arith, All-contains (λ (x : Entry T). x.count ≡ held_in handles es x.serial + occurrences x.serial hand) es e held.counts there);
  }

  all_counted : (es : List (Entry T)) → unheld es ≡ [] → AllByRecursion (λ (e : Entry T). 0 < e.count) es
  all_counted [] none = tt
  all_counted (x ∷ xs) none =
      elim (cases_Bool (eqb x.count 0)) [
        | inl zero_is ↦
            let some : unheld (x ∷ xs) ≡ x.serial ∷ unheld xs = ap (map (λ (y : Entry T). y.serial)) (cond-true (eqb x.count 0) (x ∷ filter (λ (y : Entry T). eqb y.count 0) xs) (filter (λ (y : Entry T). eqb y.count 0) xs) zero_is) in
            absurd (cc)
        | inr other ↦
            let rest : unheld (x ∷ xs) ≡ unheld xs = ap (map (λ (y : Entry T). y.serial)) (cond-false (eqb x.count 0) (x ∷ filter (λ (y : Entry T). eqb y.count 0) xs) (filter (λ (y : Entry T). eqb y.count 0) xs) other) in
            (positive_from x.count other, all_counted xs (sym rest ∙ none))
      ]

  few_in : (es : List (Entry T)) (s : ℕ) → held_in handles es s ≤ sum_by (λ (e : Entry T). length (handles e.value)) es
  few_in [] s = omega arith
  few_in (x ∷ xs) s =
      omega (
        arith,
        few_in xs s,
        sum_by-cons (λ (e : Entry T). occurrences s (handles e.value)) x xs,
        sum_by-cons (λ (e : Entry T). length (handles e.value)) x xs,
        count_by-le-length (λ (h : Handle). eqb h.serial s) (handles x.value),
      )

  -- no count is above the number of handles
  pub few_holders : (es : List (Entry T)) (hand : List Handle) (h : Handle) (limit : ℕ) → HeldBy handles es hand → sum_by (λ (e : Entry T). length (handles e.value)) es + length hand < limit → (n : ℕ) → count_at es h ≡ Some n → n < limit
  few_holders es hand h limit held few n is =
      let x = found_from_count es h n is in
      let there = (found_Contains h es x.0 x.1).0 in
      let count = All-contains (λ (e : Entry T). e.count ≡ held_in handles es e.serial + occurrences e.serial hand) es x.0 held.counts there in
      omega (arith, count, x.2, few_in es x.0.serial, count_by-le-length (λ (y : Handle). eqb y.serial x.0.serial) hand, few)

  -- where nothing is unheld, each thing is held
  pub all_held : (es : List (Entry T)) (hand : List Handle) (e : Entry T) → HeldBy handles es hand → unheld es ≡ [] → Contains es e → 0 < held_in handles es e.serial + occurrences e.serial hand
  all_held es hand e held none there =
      let count = All-contains (λ (x : Entry T). x.count ≡ held_in handles es x.serial + occurrences x.serial hand) es e held.counts there in
      let some : 0 < e.count = All-contains (λ (x : Entry T). 0 < x.count) es e (All-from_recursion (λ (x : Entry T). 0 < x.count) es (all_counted es none)) there in
      omega (arith, count, some)

  -- what is in the hand is held
  pub in_hand : (es : List (Entry T)) (hand : List Handle) (h : Handle) → HeldBy handles es hand → Contains hand h → IsHeld es h
  in_hand es hand h held there =
      let x = the_some (find_at es h) (All-contains (λ (y : Handle). IsSome (find_at es y)) hand h held.hand_alive there) in
      let at = found_Contains h es x.0 x.1 in
      let count = All-contains (λ (e : Entry T). e.count ≡ held_in handles es e.serial + occurrences e.serial hand) es x.0 held.counts at.0 in
      let same = ap (λ (s : ℕ). occurrences s hand) at.1 in
      record { count = x.0.count; found = ap (option_map (λ (e : Entry T). e.count)) x.1; held = omega (arith, count, same, stands_once hand h there) }

  -- the hand in another order
  pub any_order : (es : List (Entry T)) (hand left : List Handle) → IsPermutation hand left → HeldBy handles es hand → HeldBy handles es left
  any_order es hand left moves held =
      let P = λ (x : Entry T). x.count ≡ held_in handles es x.serial + occurrences x.serial hand in
      let P' = λ (x : Entry T). x.count ≡ held_in handles es x.serial + occurrences x.serial left in
      record {
        counts = All-from_recursion P' es (weaker P P' es
            (λ x is. omega (arith, is, sum_by-IsPermutation (λ (h : Handle). cond (eqb h.serial x.serial) 1 0) hand left moves)) (recursion_from_All P es held.counts));
        alive = held.alive;
        hand_alive = All-permutation (λ (x : Handle). IsSome (find_at es x)) hand left moves held.hand_alive;
      }

module _ {T : Type 0} where
  up_to_found : (n : ℕ) (es : List (Entry T)) (h : Handle) (e : Entry T) → UpTo n (serials es) → find_at es h ≡ Some e → h.serial ≤ n
  up_to_found n [] h e up_to found = absurd (cc)
  up_to_found n (x ∷ xs) h e up_to found =
      cond_both (is_at h x) (Some x) (find_at xs h)
      (λ o. o ≡ Some e → h.serial ≤ n)
      (λ here is. omega (arith, serial_at h x here, up_to.0))
      (λ other is. up_to_found n xs h e up_to.1 is)
      found

  -- no handle of things that are alive has a greater serial number
  none_named : (n s : ℕ) (es : List (Entry T)) (hs : List Handle) → UpTo n (serials es) → n < s → AllByRecursion (λ (h : Handle). IsSome (find_at es h)) hs → occurrences s hs ≡ 0
  none_named n s es [] up_to lt alive = refl
  none_named n s es (h ∷ hs) up_to lt alive =
      let e = the_some (find_at es h) alive.0 in
      let le = up_to_found n es h e.0 up_to e.1 in
      let zero_is = ap one (ne_eqb h.serial s (λ is. omega (arith, is, le, lt))) in
      omega (arith, occurrences-cons s h hs, zero_is, none_named n s es hs up_to lt alive.1)

  found_more : (es : List (Entry T)) (e : Entry T) (h : Handle) → IsSome (find_at es h) → IsSome (find_at (es ++ e ∷ []) h)
  found_more [] e h alive = absurd (cc)
  found_more (x ∷ xs) e h alive =
      cond_both (is_at h x) (Some x) (find_at xs h)
      (λ o. IsSome o → IsSome (cond (is_at h x) (Some x) (find_at (xs ++ e ∷ []) h)))
      (λ here _. ap is_some (cond-true (is_at h x) (Some x) (find_at (xs ++ e ∷ []) h) here))
      (λ other some. subst (λ o. IsSome o) (sym (cond-false (is_at h x) (Some x) (find_at (xs ++ e ∷ []) h) other)) (found_more xs e h some))
      alive

  found_last : (es : List (Entry T)) (e : Entry T) (h : Handle) → is_at h e ≡ true → IsSome (find_at (es ++ e ∷ []) h)
  found_last [] e h here = ap is_some (cond-true (is_at h e) (Some e) None here)
  found_last (x ∷ xs) e h here =
      cond_both (is_at h x) (Some x) (find_at (xs ++ e ∷ []) h) (λ o. IsSome o) (λ _. refl) (λ _. found_last xs e h here)

  counts_old : (f f' : ℕ → ℕ) (n : ℕ) (es : List (Entry T)) → UpTo n (serials es) → ((s : ℕ) → s ≤ n → f s ≡ f' s) → AllByRecursion (λ (e : Entry T). e.count ≡ f e.serial) es → AllByRecursion (λ (e : Entry T). e.count ≡ f' e.serial) es
  counts_old f f' n [] up_to same counts = tt
  counts_old f f' n (x ∷ xs) up_to same counts = (counts.0 ∙ same x.serial up_to.0, counts_old f f' n xs up_to.1 same counts.1)

module _ {T : Type 0} (handles : T → List Handle) where
  -- a new thing, held once: what it holds passes out of the hand
  pub held_made : (es : List (Entry T)) (e : Entry T) (hand : List Handle) (n : ℕ) → UpTo n (serials es) → n < e.serial → e.count ≡ 1 → HeldBy handles es (handles e.value ++ hand) → HeldBy handles (es ++ e ∷ []) (handle_of e ∷ hand)
  held_made es e hand n up_to lt one_holds held =
      let new = es ++ e ∷ [] in
      let h = handle_of e in
      let alive = λ (x : Handle). IsSome (find_at es x) in
      let alive' = λ (x : Handle). IsSome (find_at new x) in
      let names = λ (s : ℕ). λ (x : Entry T). occurrences s (handles x.value) in
      let f = λ (s : ℕ). held_in handles es s + occurrences s (handles e.value ++ hand) in
      let f' = λ (s : ℕ). held_in handles new s + occurrences s (h ∷ hand) in
      let more = λ (s : ℕ). sum_by_push (names s) es e in
      let mine = all_left alive (handles e.value) hand held.hand_alive in
      let rest = all_right alive (handles e.value) hand held.hand_alive in
      let keeps : (hs : List Handle) → All alive hs → All alive' hs = λ hs all. each alive' hs (λ x there. found_more es e x (All-contains alive hs x all there)) in
      let same : (s : ℕ) → s ≤ n → f s ≡ f' s = λ s le.
      omega (arith, more s, occurrences-append s (handles e.value) hand, another s h hand (λ is. omega (arith, is, le, lt))) in
      let nothing : held_in handles es e.serial ≡ 0 =
      sum_zero (names e.serial) es (weaker (λ (x : Entry T). All alive (handles x.value)) (λ (x : Entry T). names e.serial x ≡ 0) es
      (λ x all. none_named n e.serial es (handles x.value) up_to lt (recursion_from_All alive (handles x.value) all))
      (recursion_from_All (λ (x : Entry T). All alive (handles x.value)) es held.alive)) in
      let none_mine = none_named n e.serial es (handles e.value) up_to lt (recursion_from_All alive (handles e.value) mine) in
      let none_rest = none_named n e.serial es hand up_to lt (recursion_from_All alive hand rest) in
      record {
        counts = All-push (λ (x : Entry T). x.count ≡ f' x.serial) es e
            (All-from_recursion (λ (x : Entry T). x.count ≡ f' x.serial) es (counts_old f f' n es up_to same (recursion_from_All (λ (x : Entry T). x.count ≡ f x.serial) es held.counts)))
            (omega (arith, one_holds, more e.serial, nothing, none_mine, none_rest, itself h hand));
        alive = All-push (λ (x : Entry T). All alive' (handles x.value)) es e
            (All-from_recursion (λ (x : Entry T). All alive' (handles x.value)) es (weaker (λ (x : Entry T). All alive (handles x.value)) (λ (x : Entry T). All alive' (handles x.value)) es
            (λ x all. keeps (handles x.value) all) (recursion_from_All (λ (x : Entry T). All alive (handles x.value)) es held.alive)))
            (keeps (handles e.value) mine);
        hand_alive = All-cons alive' h hand (found_last es e h (and_from _ _ (eq-eqb e.index e.index refl) (eq-eqb e.serial e.serial refl))) (keeps hand rest);
      }

module _ {T : Type 0} where
  written-none : (es : List (Entry T)) (h : Handle) (w : T) → NoneAt h es → written_at es h w ≡ es
  written-none [] h w none = refl
  written-none (x ∷ xs) h w none =
      ap (λ (y : Entry T). y ∷ written_at xs h w) (cond-false (is_at h x) (record x { value = w }) x none.0) ∙ ap (λ (l : List (Entry T)). x ∷ l) (written-none xs h w none.1)

  -- serial numbers and counts stay
  pub same_counts : (R : ℕ → ℕ → Type 0) (es : List (Entry T)) (h : Handle) (w : T) → AllByRecursion (λ (e : Entry T). R e.count e.serial) es → AllByRecursion (λ (e : Entry T). R e.count e.serial) (written_at es h w)
  same_counts R [] h w all = tt
  same_counts R (x ∷ xs) h w all =
      (cond_both (is_at h x) (record x { value = w }) x (λ y. R y.count y.serial) (λ _. all.0) (λ _. all.0), same_counts R xs h w all.1)

  pub written_values : (Q : T → Type 0) (es : List (Entry T)) (h : Handle) (w : T) → Q w → AllByRecursion (λ (e : Entry T). Q e.value) es → AllByRecursion (λ (e : Entry T). Q e.value) (written_at es h w)
  written_values Q [] h w this all = tt
  written_values Q (x ∷ xs) h w this all =
      (cond_both (is_at h x) (record x { value = w }) x (λ y. Q y.value) (λ _. this) (λ _. all.0), written_values Q xs h w this all.1)

  pub alive_written : (es : List (Entry T)) (h other : Handle) (w : T) → IsSome (find_at es other) → IsSome (find_at (written_at es h w) other)
  alive_written [] h other w alive = alive
  alive_written (x ∷ xs) h other w alive =
      let x' = cond (is_at h x) (record x { value = w }) x in
      let same : is_at other x' ≡ is_at other x = cond_both (is_at h x) (record x { value = w }) x (λ y. is_at other y ≡ is_at other x) (λ _. refl) (λ _. refl) in
      elim (cases_Bool (is_at other x)) [
        | inl here ↦ ap is_some (cond-true (is_at other x') (Some x') (find_at (written_at xs h w) other) (same ∙ here))
        | inr there ↦
            let rest : IsSome (find_at xs other) = subst (λ o. IsSome o) (cond-false (is_at other x) (Some x) (find_at xs other) there) alive in
            subst (λ o. IsSome o) (sym (cond-false (is_at other x') (Some x') (find_at (written_at xs h w) other) (same ∙ there))) (alive_written xs h other w rest)
      ]

module _ {T : Type 0} (handles : T → List Handle) where
  pub held_in-written : (n : ℕ) (es : List (Entry T)) (h : Handle) (e : Entry T) (w : T) (s : ℕ) → RisesFrom n (serials es) → find_at es h ≡ Some e → held_in handles (written_at es h w) s + occurrences s (handles e.value) ≡ held_in handles es s + occurrences s (handles w)
  held_in-written n [] h e w s rises found = absurd (cc)
  held_in-written n (x ∷ xs) h e w s rises found =
      let names = λ (y : Entry T). occurrences s (handles y.value) in
      let x' = cond (is_at h x) (record x { value = w }) x in
      elim (cases_Bool (is_at h x)) [
        | inl here ↦
            let first : Some x ≡ Some e = sym (cond-true (is_at h x) (Some x) (find_at xs h) here) ∙ found in
            let is : x ≡ e = cc in
            let rest = ap (sum_by names) (written-none xs h w (later_none h x.serial xs (omega (arith, serial_at h x here)) rises.1)) in
            let now = ap names (cond-true (is_at h x) (record x { value = w }) x here) in
            omega (arith, sum_by-cons names x xs, sum_by-cons names x' (written_at xs h w), rest, now, ap names is)
        | inr other ↦
            let later : find_at xs h ≡ Some e = sym (cond-false (is_at h x) (Some x) (find_at xs h) other) ∙ found in
            let now = ap names (cond-false (is_at h x) (record x { value = w }) x other) in
            omega (arith, sum_by-cons names x xs, sum_by-cons names x' (written_at xs h w), now, held_in-written x.serial xs h e w s rises.1 later)
      ]

  -- a thing is written, and handles pass between it and the hand
  pub held_written : (es : List (Entry T)) (h : Handle) (e : Entry T) (w : T) (hand left : List Handle) → RisesFrom 0 (serials es) → find_at es h ≡ Some e → IsPermutation (handles e.value ++ hand) (handles w ++ left) → HeldBy handles es hand → HeldBy handles (written_at es h w) left
  held_written es h e w hand left rises found moves held =
      let new = written_at es h w in
      let alive = λ (x : Handle). IsSome (find_at es x) in
      let alive' = λ (x : Handle). IsSome (find_at new x) in
      let P = λ (x : Entry T). x.count ≡ held_in handles es x.serial + occurrences x.serial hand in
      let P' = λ (x : Entry T). x.count ≡ held_in handles new x.serial + occurrences x.serial left in
      let there = (found_Contains h es e found).0 in
      let was = All-contains (λ (x : Entry T). All alive (handles x.value)) es e held.alive there in
      let all = All-permutation alive (handles e.value ++ hand) (handles w ++ left) moves (All-append alive (handles e.value) hand was held.hand_alive) in
      let keeps : (hs : List Handle) → All alive hs → All alive' hs = λ hs every. each alive' hs (λ x in_hs. alive_written es h x w (All-contains alive hs x every in_hs)) in
      record {
        counts = All-from_recursion P' new (same_counts (λ c s. c ≡ held_in handles new s + occurrences s left) es h w (weaker P P' es
            (λ x is. omega (
              arith,
              is,
              held_in-written 0 es h e w x.serial rises found,
              occurrences-append x.serial (handles e.value) hand,
              occurrences-append x.serial (handles w) left,
              sum_by-IsPermutation (λ (y : Handle). cond (eqb y.serial x.serial) 1 0) (handles e.value ++ hand) (handles w ++ left) moves,
            ))
            (recursion_from_All P es held.counts)));
        alive = All-from_recursion (λ (x : Entry T). All alive' (handles x.value)) new (written_values (λ v. All alive' (handles v)) es h w (keeps (handles w) (all_left alive (handles w) left all))
            (weaker (λ (x : Entry T). All alive (handles x.value)) (λ (x : Entry T). All alive' (handles x.value)) es (λ x every. keeps (handles x.value) every)
            (recursion_from_All (λ (x : Entry T). All alive (handles x.value)) es held.alive)));
        hand_alive = keeps left (all_right alive (handles w) left all);
      }

  value_found : (o : Option (Entry T)) (was : T) → option_map (λ (e : Entry T). e.value) o ≡ Some was → (e : Entry T) × (o ≡ Some e) × (e.value ≡ was)
  value_found None was is = absurd (cc)
  value_found (Some e) was is = (e, refl, cc)

  pub held_written_value : (es : List (Entry T)) (h : Handle) (was w : T) (hand left : List Handle) → RisesFrom 0 (serials es) → value_at es h ≡ Some was → IsPermutation (handles was ++ hand) (handles w ++ left) → HeldBy handles es hand → HeldBy handles (written_at es h w) left
  held_written_value es h was w hand left rises is moves held =
      let found = value_found (find_at es h) was is in
      held_written es h found.0 w hand left rises found.1 (subst (λ (t : T). IsPermutation (handles t ++ hand) (handles w ++ left)) (sym found.2) moves) held

  -- nothing is counted at first
  pub held_none : HeldBy handles [] []
  held_none = record { counts = All-nil _; alive = All-nil _; hand_alive = All-nil _ }
