-- A thing of the heap is changed: what it gets is counted first, and what has left it is given up then.
use Rattle.std.proofs.Common.{◌≡◌, ℕ, ◌+◌, ◌^◌, ◌<◌, ◌≤◌, List, [], ◌∷◌, ◌++◌, length, map, take, Option, Some, None, IsSome, refl, sym, ap, ◌∙◌, subst, arith}
use Rattle.std.proofs.Math.ListN.{set}
use Rattle.std.specs.Prelude.{sum_by}
use Rattle.std.specs.List.{All}
use Rattle.std.proofs.lemmas.Bool.{cond_both}
use Rattle.std.proofs.lemmas.List.{length-set, take_more_set}
use Rattle.std.proofs.lemmas.List.Elements.{All-append, All-push, All-head, All-tail}
use Rattle.std.proofs.lemmas.List.Sums.{sum_by-cons, sum_by-append, sum_by_push}
use Rattle.slot_arena.specs.declared.handle.Handle.{Handle}
use Rattle.slot_arena.specs.Slots.{Entry, is_at, find_at, value_at, written_at}
use Rattle.gd_model.specs.declared.value.Value.{Value}
use Rattle.gd_holding.specs.Handles.{value_handle}
use Rattle.gd_holding.specs.Holding.{filled, kept}
use Rattle.counted_heap.specs.declared.thing.Thing.{Thing}
use Rattle.counted_heap.specs.Thing.{thing_places}
use Rattle.counted_heap.specs.Heap.{RisesFrom, serials}
use Rattle.counted_heap.proofs.Holders.{alive_changed}
use Rattle.rooted_heap.specs.Rooted.{bare, contents, thing_at, IsThere, AreHeld, IsSound}
use Rattle.rooted_heap.specs.Keeping.{kept_all, CanKeep, given_all, CanGive}
use Rattle.rooted_heap.specs.Writing.{written_in}
use Rattle.rooted_heap.proofs.Counting.{holds}
use Rattle.rooted_heap.proofs.Dropping.{bare-given_all, can_give, given_are_held}
use Rattle.rooted_heap.proofs.Filled.{CanFill}
use Rattle.rooted_heap.proofs.Holding.{held_moved}
use Rattle.rooted_heap.proofs.Kept.{can_keep, kept_are_held, bare-kept_all, rises_kept}
use Rattle.rooted_heap.proofs.Seen.{thing_is_value}
use Rattle.rooted_heap.proofs.There.{all_bare}
use Rattle.rooted_heap.proofs.Values.{count_is}
use Rattle.rooted_heap.proofs.Written.{SameKind, held_written, value_has, bare-written}

pub rises_kept_all : (xs : List Value) (es : List (Entry Thing)) → RisesFrom 0 (serials es) → RisesFrom 0 (serials (kept_all es xs))
rises_kept_all [] es rises = rises
rises_kept_all (x ∷ xs) es rises = rises_kept_all xs (kept es (value_handle x)) (rises_kept es (value_handle x) rises)

serials-written : (es : List (Entry Thing)) (h : Handle) (w : Thing) → serials (written_at es h w) ≡ serials es
serials-written [] h w = refl
serials-written (e ∷ es) h w =
    ap (λ (n : ℕ). n ∷ serials (written_at es h w)) (cond_both (is_at h e) (record e { value = w }) e (λ x. x.serial ≡ e.serial) (λ _. refl) (λ _. refl))
    ∙ ap (λ (l : List ℕ). e.serial ∷ l) (serials-written es h w)

rises_written : (es : List (Entry Thing)) (h : Handle) (w : Thing) → RisesFrom 0 (serials es) → RisesFrom 0 (serials (written_at es h w))
rises_written es h w rises = subst (λ (l : List ℕ). RisesFrom 0 l) (sym (serials-written es h w)) rises

-- what is found once values are kept was there before
pub value_back : (xs : List Value) (es : List (Entry Thing)) (h : Handle) (t : Thing) → RisesFrom 0 (serials es) → value_at (kept_all es xs) h ≡ Some t → value_at es h ≡ Some t
value_back xs es h t rises is =
    sym (thing_is_value 0 es h rises)
    ∙ sym (ap (λ (bs : List (Handle × Thing)). thing_at bs h) (bare-kept_all xs es))
    ∙ thing_is_value 0 (kept_all es xs) h (rises_kept_all xs es rises)
    ∙ is

alive_kept : (es : List (Entry Thing)) (place : Option Handle) (h : Handle) → IsSome (find_at es h) → IsSome (find_at (kept es place) h)
alive_kept es None h alive = alive
alive_kept es (Some k) h alive = alive_changed (λ n. n + 1) k h es alive

pub alive_kept_all : (xs : List Value) (es : List (Entry Thing)) (h : Handle) → IsSome (find_at es h) → IsSome (find_at (kept_all es xs) h)
alive_kept_all [] es h alive = alive
alive_kept_all (x ∷ xs) es h alive = alive_kept_all xs (kept es (value_handle x)) h (alive_kept es (value_handle x) h alive)

pub sound_can_keep : {es : List (Entry Thing)} {names : List (List ℕ)} {slots : List Value} {top : ℕ} → IsSound es names slots top → top < 2 ^ 64 → RisesFrom 0 (serials es) → (xs : List Value) → CanFill es names (take top slots) xs → CanKeep es xs
sound_can_keep {es} {names} {slots} {top} sound short rises xs can = can_keep xs es names (take top slots) rises sound.held (omega (arith, count_is sound, short, can.few)) can.there can.some

-- a thing is to be changed, and may hold once more what it is to get
pub record Changing (es : List (Entry Thing)) (names : List (List ℕ)) (slots : List Value) (top : ℕ) (h : Handle) (was : Thing) (brought : List Value) : Type 0 where
  pub sound : IsSound es names slots top
  pub short : top < 2 ^ 64
  pub rises : RisesFrom 0 (serials es)
  pub found : value_at es h ≡ Some was
  pub can : CanFill es names (take top slots) brought

-- the thing gets what is brought; what leaves it is given up, but for the rest
pub record Turns (P : Value → Type 0) (was now : Thing) (brought gone rest : List Value) : Type 0 where
  pub kind : SameKind was now
  pub sums : (s : ℕ) → sum_by (holds s) (contents now) + (sum_by (holds s) gone + sum_by (holds s) rest) ≡ sum_by (holds s) (contents was) + sum_by (holds s) brought
  pub inside : All P (contents was) → All P brought → All P (contents now)
  pub outside : All P (contents was) → All P brought → All P gone
  pub left : All P (contents was) → All P brought → All P rest
  pub small : length (filled (thing_places now)) ≤ 2 ^ 66

module _ {es : List (Entry Thing)} {names : List (List ℕ)} {slots : List Value} {top : ℕ} {h : Handle} {was : Thing} {brought : List Value} (f : Changing es names slots top h was brought) where
  kept_held : AreHeld (kept_all es brought) names (brought ++ take top slots)
  kept_held = kept_are_held brought es names (take top slots) f.rises f.can.there f.sound.held

  value_kept : value_at (kept_all es brought) h ≡ Some was
  value_kept =
      sym (thing_is_value 0 (kept_all es brought) h (rises_kept_all brought es f.rises))
      ∙ ap (λ (bs : List (Handle × Thing)). thing_at bs h) (bare-kept_all brought es)
      ∙ thing_is_value 0 es h f.rises
      ∙ f.found

  inside_was : All (IsThere (map bare es) names) (contents was)
  inside_was =
      let P = IsThere (map bare es) names in
      value_has (λ (t : Thing). All P (contents t)) es h was (all_bare (λ (t : Handle × Thing). All P (contents t.1)) es f.sound.held.whole.inside) f.found

  pub small_was : length (filled (thing_places was)) ≤ 2 ^ 66
  small_was = value_has (λ (t : Thing). length (filled (thing_places t)) ≤ 2 ^ 66) es h was (all_bare (λ (t : Handle × Thing). length (filled (thing_places t.1)) ≤ 2 ^ 66) es f.sound.held.whole.small) f.found

  module _ (now : Thing) (gone rest : List Value) (turns : Turns (IsThere (map bare es) names) was now brought gone rest) where
    changed_held : AreHeld (written_at (kept_all es brought) h now) names (gone ++ (rest ++ take top slots))
    changed_held =
        let vs = take top slots in
        let P = IsThere (map bare es) names in
        let es1 = kept_all es brought in
        let rises = rises_kept_all brought es f.rises in
        let there = All-append P gone (rest ++ vs) (turns.outside inside_was f.can.there) (All-append P rest vs (turns.left inside_was f.can.there) f.sound.held.whole.outside) in
        held_written es1 h was now rises (rises_written es1 h now rises) value_kept turns.kind names (brought ++ vs) (gone ++ (rest ++ vs)) kept_held
        (λ s. omega (arith, turns.sums s, sum_by-append (holds s) brought vs, sum_by-append (holds s) gone (rest ++ vs), sum_by-append (holds s) rest vs))
        (subst (λ (bs : List (Handle × Thing)). All (IsThere bs names) (contents now)) (sym (bare-kept_all brought es)) (turns.inside inside_was f.can.there))
        (subst (λ (bs : List (Handle × Thing)). All (IsThere bs names) (gone ++ (rest ++ vs))) (sym (bare-kept_all brought es)) there)
        turns.small

    rises_changed : RisesFrom 0 (serials (written_at (kept_all es brought) h now))
    rises_changed = rises_written (kept_all es brought) h now (rises_kept_all brought es f.rises)

    pub gone_can_give : CanGive (written_at (kept_all es brought) h now) gone
    gone_can_give = can_give gone (written_at (kept_all es brought) h now) names (rest ++ take top slots) rises_changed changed_held

    left_held : AreHeld (given_all (written_at (kept_all es brought) h now) gone) names (rest ++ take top slots)
    left_held = given_are_held gone (written_at (kept_all es brought) h now) names (rest ++ take top slots) rises_changed changed_held

    pub changed_things : map bare (given_all (written_at (kept_all es brought) h now) gone) ≡ written_in (map bare es) h now
    changed_things =
        bare-given_all gone (written_at (kept_all es brought) h now)
        ∙ bare-written (kept_all es brought) h now
        ∙ ap (λ (bs : List (Handle × Thing)). written_in bs h now) (bare-kept_all brought es)

    -- where nothing is left over
    pub sound_changed : rest ≡ [] → IsSound (given_all (written_at (kept_all es brought) h now) gone) names slots top
    sound_changed none = record {
      within = f.sound.within;
      held = subst (λ (l : List Value). AreHeld (given_all (written_at (kept_all es brought) h now) gone) names (l ++ take top slots)) none left_held;
    }

    -- what is left over comes last
    pub sound_answered : (x : Value) → rest ≡ x ∷ [] → top < length slots → IsSound (given_all (written_at (kept_all es brought) h now) gone) names (set slots top x) (top + 1)
    sound_answered x one room =
        let new = given_all (written_at (kept_all es brought) h now) gone in
        let vs = take top slots in
        let P = IsThere (map bare new) names in
        let held : AreHeld new names (x ∷ vs) = subst (λ (l : List Value). AreHeld new names (l ++ vs)) one left_held in
        let there = held.whole.outside in
        record {
          within = omega (arith, length-set slots top x, room);
          held = subst (λ (l : List Value). AreHeld new names l) (sym (take_more_set slots top x room))
              (held_moved (vs ++ x ∷ [])
              (λ s. omega (arith, sum_by_push (holds s) vs x, sum_by-cons (holds s) x vs))
              (All-push P vs x (All-tail P x vs there) (All-head P x vs there))
              held);
        }
