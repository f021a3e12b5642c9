-- What the heap's calls leave of its facts.
use Rattle.std.proofs.Common.{◌≡◌, ℕ, ◌+◌, ◌^◌, ◌<◌, ◌≤◌, Bool, true, false, cond, eqb, ◌&&◌, List, [], ◌∷◌, ◌++◌, length, Option, Some, None, refl, sym, ap, ◌∙◌, subst, arith, length-append}
use Rattle.std.specs.Prelude.{filter, count_by}
use Rattle.std.specs.Option.{option_map}
use Rattle.std.proofs.lemmas.List.Sums.{count_by-le-length, sum_by_push}
use Rattle.std.proofs.lemmas.Bool.{cond_both, ne_eqb, and_right}
use Rattle.slot_arena.specs.declared.handle.Handle.{Handle}
use Rattle.slot_arena.specs.Slots.{Entry, is_at, is_unheld_at, find_at, count_at, with_count, without}
use Rattle.counted_heap.specs.Heap.{RisesFrom, UpTo, serials, same_handle, has_none, IsSound}
use Rattle.counted_heap.proofs.Split.{SplitAt, split, with_count-split, without-split, count-middle, count-both, is_at-same, times-push}

-- 1 where the test passes
abbrev pub one : Bool → ℕ
one b = cond b 1 0

pub held_test : (n : ℕ) → 0 < n → eqb n 0 ≡ false
held_test n lt = ne_eqb n 0 (λ same. omega (arith, lt, same))

RisesFrom-less : (m n : ℕ) (xs : List ℕ) → m ≤ n → RisesFrom n xs → RisesFrom m xs
RisesFrom-less m n [] le rises = tt
RisesFrom-less m n (x ∷ xs) le rises = (omega (arith, rises.0), rises.1)

module _ {T : Type 0} where
  -- counts do not change serial numbers
  pub serials-with_count : (f : ℕ → ℕ) (es : List (Entry T)) (h : Handle) → serials (with_count f es h) ≡ serials es
  serials-with_count f [] h = refl
  serials-with_count f (e ∷ es) h =
      ap (λ n. n ∷ serials (with_count f es h)) (cond_both (is_at h e) (record e { count = f e.count }) e (λ x. x.serial ≡ e.serial) (λ _. refl) (λ _. refl))
      ∙ ap (λ l. e.serial ∷ l) (serials-with_count f es h)

  pub length-with_count : (f : ℕ → ℕ) (es : List (Entry T)) (h : Handle) → length (with_count f es h) ≡ length es
  length-with_count f [] h = refl
  length-with_count f (e ∷ es) h = omega (arith, length-with_count f es h)

  -- a test passes nothing that is held
  abbrev pub OnlyUnheld : (Entry T → Bool) → Type 0
  OnlyUnheld p = (e : Entry T) → eqb e.count 0 ≡ false → p e ≡ false

  pub is_unheld_at-only : (h : Handle) → OnlyUnheld (is_unheld_at h)
  is_unheld_at-only h e held = and_right (is_at h e) _ held

  pub has_none-only : OnlyUnheld has_none
  has_none-only e held = held

  -- where it is held before and after, the unheld ones stay
  pub unheld-same : (p : Entry T → Bool) → OnlyUnheld p → (f : ℕ → ℕ) (h : Handle) (es : List (Entry T)) (e : Entry T) (s : SplitAt h es e) → 0 < e.count → 0 < f e.count → count_by p (with_count f es h) ≡ count_by p es
  unheld-same p only f h es e s was now =
      let e' : Entry T = record e { count = f e.count } in
      let zero_was = ap (λ (b : Bool). one b) (only e (held_test e.count was)) in
      let zero_now = ap (λ (b : Bool). one b) (only e' (held_test (f e.count) now)) in
      ap (count_by p) (with_count-split f h es e s)
      ∙ count-middle p s.front e' s.back
      ∙ ap (λ n. count_by p s.front + (n + count_by p s.back)) (zero_now ∙ sym zero_was)
      ∙ sym (count-middle p s.front e s.back)
      ∙ ap (count_by p) (sym s.whole)

  -- where its last holder goes, it is one more
  pub unheld-more : (p : Entry T → Bool) → OnlyUnheld p → (f : ℕ → ℕ) (h : Handle) (es : List (Entry T)) (e : Entry T) (s : SplitAt h es e) → 0 < e.count → count_by p (with_count f es h) ≡ count_by p es + cond (p (record e { count = f e.count })) 1 0
  unheld-more p only f h es e s was =
      let e' : Entry T = record e { count = f e.count } in
      let zero_was = ap (λ (b : Bool). one b) (only e (held_test e.count was)) in
      let now = ap (count_by p) (with_count-split f h es e s) ∙ count-middle p s.front e' s.back in
      let before = ap (count_by p) s.whole ∙ count-middle p s.front e s.back in
      omega (arith, now, before, zero_was)

  pub unheld_at-more : (other h : Handle) (e : Entry T) (n : ℕ) → is_at h e ≡ true → n ≡ 0 → is_unheld_at other (record e { count = n }) ≡ same_handle other h
  unheld_at-more other h e n here none =
      ap (λ m. is_at other e && eqb m 0) none
      ∙ and-true (is_at other e)
      ∙ is_at-same other h e here
    where
      and-true : (b : Bool) → (b && true) ≡ b
      and-true true = refl
      and-true false = refl

  -- where it is taken out, it is one less
  pub unheld-less : (p : Entry T → Bool) (h : Handle) (es : List (Entry T)) (e : Entry T) (s : SplitAt h es e) → e.count ≡ 0 → count_by p (without es h) + cond (p e) 1 0 ≡ count_by p es
  unheld-less p h es e s none =
      let now = ap (count_by p) (without-split h es e s none) ∙ count-both p s.front s.back in
      let before = ap (count_by p) s.whole ∙ count-middle p s.front e s.back in
      omega (arith, now, before)

  -- fewer are unheld than there are, where one is held
  pub unheld-few : (h : Handle) (es : List (Entry T)) (e : Entry T) (s : SplitAt h es e) → 0 < e.count → count_by has_none es < length es
  unheld-few h es e s was =
      let zero_was = ap (λ (b : Bool). one b) (held_test e.count was) in
      let before = ap (count_by has_none) s.whole ∙ count-middle has_none s.front e s.back in
      let long = ap length s.whole ∙ length-append s.front (e ∷ s.back) in
      omega (arith, zero_was, before, long, count-le s.front, count-le s.back)
    where
      count-le : (xs : List (Entry T)) → count_by has_none xs ≤ length xs
      count-le xs = count_by-le-length has_none xs

  -- the thing that a count tells of
  pub found_from_count : (es : List (Entry T)) (h : Handle) (n : ℕ) → count_at es h ≡ Some n → (e : Entry T) × (find_at es h ≡ Some e) × (e.count ≡ n)
  found_from_count es h n counted = of_option (find_at es h) refl counted
    where
      of_option : (o : Option (Entry T)) → find_at es h ≡ o → option_map (λ e. e.count) o ≡ Some n → (e : Entry T) × (find_at es h ≡ Some e) × (e.count ≡ n)
      of_option None is some = absurd (cc)
      of_option (Some e) is some = (e, is, cc)

  -- without some things the others still rise
  pub RisesFrom-filter : (p : Entry T → Bool) (n : ℕ) (es : List (Entry T)) → RisesFrom n (serials es) → RisesFrom n (serials (filter p es))
  RisesFrom-filter p n [] rises = tt
  RisesFrom-filter p n (e ∷ es) rises =
      let rest = RisesFrom-filter p e.serial es rises.1 in
      cond_both (p e) (e ∷ filter p es) (filter p es) (λ l. RisesFrom n (serials l))
      (λ _. (rises.0, rest))
      (λ _. RisesFrom-less n e.serial (serials (filter p es)) (omega (arith, rises.0)) rest)

  pub UpTo-filter : (p : Entry T → Bool) (n : ℕ) (es : List (Entry T)) → UpTo n (serials es) → UpTo n (serials (filter p es))
  UpTo-filter p n [] up = tt
  UpTo-filter p n (e ∷ es) up =
      cond_both (p e) (e ∷ filter p es) (filter p es) (λ l. UpTo n (serials l))
      (λ _. (up.0, UpTo-filter p n es up.1))
      (λ _. UpTo-filter p n es up.1)

  pub length-filter_le : (p : Entry T → Bool) (es : List (Entry T)) → length (filter p es) ≤ length es
  length-filter_le p [] = omega arith
  length-filter_le p (e ∷ es) =
      cond_both (p e) (e ∷ filter p es) (filter p es) (λ l. length l ≤ length (e ∷ es))
      (λ _. omega (arith, length-filter_le p es))
      (λ _. omega (arith, length-filter_le p es))

  -- a thing with a greater serial number goes to the end
  pub RisesFrom-push : (n made : ℕ) (es : List (Entry T)) (e : Entry T) → n ≤ made → made < e.serial → RisesFrom n (serials es) → UpTo made (serials es) → RisesFrom n (serials (es ++ e ∷ []))
  RisesFrom-push n made [] e le lt rises up = (omega arith, tt)
  RisesFrom-push n made (x ∷ xs) e le lt rises up = (rises.0, RisesFrom-push x.serial made xs e up.0 lt rises.1 up.1)

  pub UpTo-push : (made : ℕ) (es : List (Entry T)) (e : Entry T) → made ≤ e.serial → UpTo made (serials es) → UpTo e.serial (serials (es ++ e ∷ []))
  UpTo-push made [] e le up = (omega arith, tt)
  UpTo-push made (x ∷ xs) e le up = (omega (arith, up.0), UpTo-push made xs e le up.1)

  -- one more or one less of several holders
  pub sound_changed : {things : List (Entry T)} {last made : ℕ} {round waiting : List Handle} {a b : ℕ} → IsSound things last made round waiting a b → (f : ℕ → ℕ) (h : Handle) (e : Entry T) → find_at things h ≡ Some e → 0 < e.count → 0 < f e.count → IsSound (with_count f things h) last made round waiting a b
  sound_changed {things} {last} {made} {round} {waiting} sound f h e found was now =
      let s = split h 0 things e sound.rising found in
      record {
        made_is = sound.made_is;
        few = sound.few;
        rising = subst (RisesFrom 0) (sym (serials-with_count f things h)) sound.rising;
        up_to = subst (UpTo made) (sym (serials-with_count f things h)) sound.up_to;
        falling = sound.falling;
        unheld = λ other. sound.unheld other ∙ sym (unheld-same (is_unheld_at other) (is_unheld_at-only other) f h things e s was now);
        counted = sound.counted ∙ sym (unheld-same has_none has_none-only f h things e s was now);
        room = omega (arith, sound.room, length-with_count f things h);
        more_room = omega (arith, sound.more_room, length-with_count f things h);
      }

  -- the last holder goes
  pub sound_freed : {things : List (Entry T)} {last made : ℕ} {round waiting : List Handle} {a b : ℕ} → IsSound things last made round waiting a b → (f : ℕ → ℕ) (h : Handle) (e : Entry T) → find_at things h ≡ Some e → 0 < e.count → f e.count ≡ 0 → IsSound (with_count f things h) last made round (waiting ++ h ∷ []) a b
  sound_freed {things} {last} {made} {round} {waiting} sound f h e found was now =
      let s = split h 0 things e sound.rising found in
      record {
        made_is = sound.made_is;
        few = sound.few;
        rising = subst (RisesFrom 0) (sym (serials-with_count f things h)) sound.rising;
        up_to = subst (UpTo made) (sym (serials-with_count f things h)) sound.up_to;
        falling = sound.falling;
        unheld = λ other.
            let more = unheld-more (is_unheld_at other) (is_unheld_at-only other) f h things e s was in
            let is = ap one (unheld_at-more other h e (f e.count) s.here now) in
            omega (arith, sound.unheld other, more, is, times-push other waiting h);
        counted =
            let more = unheld-more has_none has_none-only f h things e s was in
            let is = ap (λ n. one (eqb n 0)) now in
            omega (arith, sound.counted, more, is, length-append waiting (h ∷ []));
        room = omega (arith, sound.room, length-with_count f things h);
        more_room = omega (arith, sound.more_room, length-with_count f things h);
      }

  -- there is room for one that waits
  pub sound_room : {things : List (Entry T)} {last made : ℕ} {round waiting : List Handle} {a b : ℕ} → IsSound things last made round waiting a b → (h : Handle) (e : Entry T) → find_at things h ≡ Some e → 0 < e.count → length waiting < b
  sound_room {things} sound h e found was =
      let s = split h 0 things e sound.rising found in
      omega (arith, unheld-few h things e s was, sound.counted, sound.more_room)

  -- a thing more
  pub sound_made : {things : List (Entry T)} {last made : ℕ} {round waiting : List Handle} {a b : ℕ} → IsSound things last made round waiting a b → (e : Entry T) → e.serial ≡ made + 1 → e.serial < 2 ^ 63 → e.count ≡ 1 → (c d : ℕ) → length things + 1 ≤ c → length things + 1 ≤ d → IsSound (things ++ e ∷ []) e.serial e.serial round waiting c d
  sound_made {things} {last} {made} {round} {waiting} sound e next few one_holder c d room more_room =
      let held = held_test e.count (omega (arith, one_holder)) in
      record {
        made_is = refl;
        few = few;
        rising = RisesFrom-push 0 made things e (omega arith) (omega (arith, next)) sound.rising sound.up_to;
        up_to = UpTo-push made things e (omega (arith, next)) sound.up_to;
        falling = sound.falling;
        unheld = λ other.
            let is = ap one (is_unheld_at-only other e held) in
            omega (arith, sound.unheld other, sum_by_push (λ x. cond (is_unheld_at other x) 1 0) things e, is);
        counted =
            let is = ap one held in
            omega (arith, sound.counted, sum_by_push (λ x. cond (has_none x) 1 0) things e, is);
        room = omega (arith, room, length-append things (e ∷ []));
        more_room = omega (arith, more_room, length-append things (e ∷ []));
      }

  -- more room
  pub sound_roomy : {things : List (Entry T)} {last made : ℕ} {round waiting : List Handle} {a b : ℕ} → IsSound things last made round waiting a b → (c d : ℕ) → a ≤ c → b ≤ d → IsSound things last made round waiting c d
  sound_roomy sound c d le le' =
      record {
        made_is = sound.made_is;
        few = sound.few;
        rising = sound.rising;
        up_to = sound.up_to;
        falling = sound.falling;
        unheld = sound.unheld;
        counted = sound.counted;
        room = omega (arith, sound.room);
        more_room = omega (arith, sound.more_room);
      }
