-- What a thing that is taken out held can be given up.
use Rattle.std.proofs.Common.{◌≡◌, ℕ, suc, ◌+◌, ◌-◌, ◌<◌, ◌≤◌, Bool, false, not, cond, eqb, List, [], ◌∷◌, length, Option, Some, None, IsSome, is_some, get_or, drop, refl, sym, ap, ◌∙◌, inl, inr, subst, arith, Contains}
use Rattle.std.specs.Prelude.{filter}
use Rattle.std.specs.Option.{option_map}
use Rattle.std.proofs.lemmas.Bool.{cond_both, cond-true, cond-false, cases_Bool, and_right, eq-eqb, not_from_false}
use Rattle.std.proofs.lemmas.List.{drop_more}
use Rattle.std.proofs.lemmas.List.Sums.{sum_by-cons, get_or-le-sum_by}
use Rattle.slot_arena.specs.declared.handle.Handle.{Handle}
use Rattle.slot_arena.specs.Slots.{Entry, is_at, is_unheld_at, handle_of, find_at, without, with_count}
use Rattle.gd_holding.specs.Holding.{occurrences, filled, IsCounted, CanGiveUp}
use Rattle.counted_heap.proofs.Split.{serial_at, index_at}
use Rattle.counted_heap.proofs.Changes.{one, held_test}

-- a place that holds a thing, and one that does not
pub place_some : (places : List (Option Handle)) (i : ℕ) (h : Handle) → i < length places → get_or places i None ≡ Some h → filled (drop i places) ≡ h ∷ filled (drop (i + 1) places)
place_some places i h lt is = ap filled (drop_more places i None lt ∙ ap (λ o. o ∷ drop (i + 1) places) is)

pub place_none : (places : List (Option Handle)) (i : ℕ) → i < length places → get_or places i None ≡ None → filled (drop i places) ≡ filled (drop (i + 1) places)
place_none places i lt is = ap filled (drop_more places i None lt ∙ ap (λ o. o ∷ drop (i + 1) places) is)

pub occurrences-cons : (s : ℕ) (h : Handle) (hs : List Handle) → occurrences s (h ∷ hs) ≡ one (eqb h.serial s) + occurrences s hs
occurrences-cons s h hs = sum_by-cons (λ (x : Handle). cond (eqb x.serial s) 1 0) h hs

pub the_some : {X : Type 0} (o : Option X) → IsSome o → (x : X) × (o ≡ Some x)
the_some None some = absurd (cc)
the_some (Some x) some = (x, refl)

pub stands_once : (hs : List Handle) (h : Handle) → Contains hs h → 0 < occurrences h.serial hs
stands_once hs h there =
    let mine = ap one (ap (λ (x : Handle). eqb x.serial h.serial) there.2 ∙ eq-eqb h.serial h.serial refl) in
    omega (arith, get_or-le-sum_by (λ (x : Handle). cond (eqb x.serial h.serial) 1 0) hs there.0 h there.1, mine)

module _ {T : Type 0} where
  -- no count is below the number of occurrences
  abbrev pub Enough : List Handle → List (Entry T) → Type 0
  Enough hs [] = Unit {0}
  Enough hs (e ∷ es) = (occurrences e.serial hs ≤ e.count) × Enough hs es

  -- each handle names a thing
  abbrev pub AllAlive : List Handle → List (Entry T) → Type 0
  AllAlive [] es = Unit {0}
  AllAlive (h ∷ hs) es = IsSome (find_at es h) × AllAlive hs es

  -- the thing that the first handle names is held
  positive : (h : Handle) (hs : List Handle) (es : List (Entry T)) (e : Entry T) → Enough (h ∷ hs) es → find_at es h ≡ Some e → 0 < e.count
  positive h hs [] e enough found = absurd (cc)
  positive h hs (x ∷ xs) e enough found =
      cond_both (is_at h x) (Some x) (find_at xs h)
      (λ o. o ≡ Some e → 0 < e.count)
      (λ here is.
      let same : x ≡ e = cc in
      let count_is = ap (λ (y : Entry T). y.count) same in
      let mine = ap one (eq-eqb h.serial x.serial (sym (serial_at h x here))) in
      omega (arith, enough.0, occurrences-cons x.serial h hs, mine, count_is))
      (λ other is. positive h hs xs e enough.1 is)
      found

  Enough-after : (h : Handle) (hs : List Handle) (es : List (Entry T)) → Enough (h ∷ hs) es → Enough hs (with_count (λ n. n - 1) es h)
  Enough-after h hs [] enough = tt
  Enough-after h hs (x ∷ xs) enough = (
    cond_both (is_at h x) (record x { count = x.count - 1 }) x (λ y. occurrences y.serial hs ≤ y.count)
        (λ here.
        let mine = ap one (eq-eqb h.serial x.serial (sym (serial_at h x here))) in
        omega (arith, enough.0, occurrences-cons x.serial h hs, mine))
        (λ _. omega (arith, enough.0, occurrences-cons x.serial h hs)),
    Enough-after h hs xs enough.1,
  )

  -- another count leaves what a handle finds
  alive-after : (h other : Handle) (es : List (Entry T)) → IsSome (find_at es other) → IsSome (find_at (with_count (λ n. n - 1) es h) other)
  alive-after h other [] alive = alive
  alive-after h other (x ∷ xs) alive =
      let x' = cond (is_at h x) (record x { count = x.count - 1 }) x in
      let same : is_at other x' ≡ is_at other x = cond_both (is_at h x) (record x { count = x.count - 1 }) x (λ y. is_at other y ≡ is_at other x) (λ _. refl) (λ _. refl) in
      elim (cases_Bool (is_at other x)) [
        | inl here ↦ ap is_some (cond-true (is_at other x') (Some x') (find_at (with_count (λ n. n - 1) xs h) other) (same ∙ here))
        | inr there ↦
            let rest : IsSome (find_at xs other) = subst (λ o. IsSome o) (cond-false (is_at other x) (Some x) (find_at xs other) there) alive in
            subst (λ o. IsSome o) (sym (cond-false (is_at other x') (Some x') (find_at (with_count (λ n. n - 1) xs h) other) (same ∙ there))) (alive-after h other xs rest)
      ]

  AllAlive-after : (h : Handle) (hs : List Handle) (es : List (Entry T)) → AllAlive hs es → AllAlive hs (with_count (λ n. n - 1) es h)
  AllAlive-after h [] es alive = tt
  AllAlive-after h (other ∷ hs) es alive = (alive-after h other es alive.0, AllAlive-after h hs es alive.1)

  can_give_up : (hs : List Handle) (es : List (Entry T)) → AllAlive hs es → Enough hs es → CanGiveUp es hs
  can_give_up [] es alive enough = tt
  can_give_up (h ∷ hs) es alive enough =
      let e = the_some (find_at es h) alive.0 in (
        record {
          count = e.0.count;
          found = ap (option_map (λ (x : Entry T). x.count)) e.1;
          held = positive h hs es e.0 enough e.1;
        },
        can_give_up hs (with_count (λ n. n - 1) es h) (AllAlive-after h hs es alive.1) (Enough-after h hs es enough),
      )

  Enough-filter : (p : Entry T → Bool) (hs : List Handle) (es : List (Entry T)) → Enough hs es → Enough hs (filter p es)
  Enough-filter p hs [] enough = tt
  Enough-filter p hs (e ∷ es) enough =
      cond_both (p e) (e ∷ filter p es) (filter p es) (Enough hs)
      (λ _. (enough.0, Enough-filter p hs es enough.1))
      (λ _. Enough-filter p hs es enough.1)

  -- a held thing is still found without an unheld one
  pub found-without : (gone h : Handle) (es : List (Entry T)) (e : Entry T) → 0 < e.count → find_at es h ≡ Some e → find_at (without es gone) h ≡ Some e
  found-without gone h [] e held found = absurd (cc)
  found-without gone h (x ∷ xs) e held found =
      elim (cases_Bool (is_at h x)) [
        | inl here ↦
            let is : Some x ≡ Some e = sym (cond-true (is_at h x) (Some x) (find_at xs h) here) ∙ found in
            let same : x ≡ e = cc in
            let count_is = ap (λ (y : Entry T). y.count) same in
            let stays : is_unheld_at gone x ≡ false = and_right (is_at gone x) _ (held_test x.count (omega (arith, held, count_is))) in
            ap (λ l. find_at l h) (cond-true (not (is_unheld_at gone x)) (x ∷ without xs gone) (without xs gone) (not_from_false _ stays))
            ∙ cond-true (is_at h x) (Some x) (find_at (without xs gone) h) here ∙ is
        | inr other ↦
            let later : find_at xs h ≡ Some e = sym (cond-false (is_at h x) (Some x) (find_at xs h) other) ∙ found in
            let rest = found-without gone h xs e held later in
            cond_both (not (is_unheld_at gone x)) (x ∷ without xs gone) (without xs gone) (λ l. find_at l h ≡ Some e)
            (λ _. cond-false (is_at h x) (Some x) (find_at (without xs gone) h) other ∙ rest)
            (λ _. rest)
      ]

  pub found_Contains : (h : Handle) (es : List (Entry T)) (e : Entry T) → find_at es h ≡ Some e → Contains es e × (e.serial ≡ h.serial)
  found_Contains h [] e found = absurd (cc)
  found_Contains h (x ∷ xs) e found =
      cond_both (is_at h x) (Some x) (find_at xs h)
      (λ o. o ≡ Some e → Contains (x ∷ xs) e × (e.serial ≡ h.serial))
      (λ here is.
      let same : x ≡ e = cc in
      ((0, omega arith, same), ap (λ (y : Entry T). y.serial) (sym same) ∙ serial_at h x here))
      (λ other is.
      let rest = found_Contains h xs e is in
      ((suc rest.0.0, omega (arith, rest.0.1), rest.0.2), rest.1))
      found

  Enough-from : (hs : List Handle) (es : List (Entry T)) → ((e : Entry T) → Contains es e → occurrences e.serial hs ≤ e.count) → Enough hs es
  Enough-from hs [] each = tt
  Enough-from hs (x ∷ xs) each =
      (each x (0, omega arith, refl), Enough-from hs xs (λ e there. each e (suc there.0, omega (arith, there.1), there.2)))

  AllAlive-from : (hs : List Handle) (es : List (Entry T)) (gone : Handle) → ((h : Handle) → Contains hs h → (e : Entry T) × (find_at es h ≡ Some e) × (0 < e.count)) → AllAlive hs (without es gone)
  AllAlive-from [] es gone each = tt
  AllAlive-from (h ∷ hs) es gone each =
      let e = each h (0, omega arith, refl) in
      (ap is_some (found-without gone h es e.0 e.2 e.1), AllAlive-from hs es gone (λ other there. each other (suc there.0, omega (arith, there.1), there.2)))

  -- what a thing without holders held can be given up once it is gone
  pub can_settle : (handles : T → List Handle) (es : List (Entry T)) (gone : Handle) (e : Entry T) → IsCounted handles es → find_at es gone ≡ Some e → CanGiveUp (without es gone) (handles e.value)
  can_settle handles es gone e counted found =
      let hs = handles e.value in
      let there = (found_Contains gone es e found).0 in
      let each : (x : Entry T) → Contains es x → occurrences x.serial hs ≤ x.count = λ x in_es.
      let all = get_or-le-sum_by (λ (y : Entry T). occurrences x.serial (handles y.value)) es there.0 e there.1 in
      let is = ap (λ (y : Entry T). occurrences x.serial (handles y.value)) there.2 in
      omega (arith, all, is, counted.enough x in_es) in
      can_give_up hs (without es gone)
      (AllAlive-from hs es gone (λ h in_hs.
      let x = the_some (find_at es h) (counted.alive e there h in_hs) in
      let is = found_Contains h es x.0 x.1 in
      let serial = ap (λ s. occurrences s hs) is.1 in
      (x.0, x.1, omega (arith, each x.0 is.0, stands_once hs h in_hs, serial))))
      (Enough-filter (λ x. not (is_unheld_at gone x)) hs es (Enough-from hs es each))

  -- a thing that is found has that handle
  pub found_is : (h : Handle) (es : List (Entry T)) (e : Entry T) → find_at es h ≡ Some e → handle_of e ≡ h
  found_is h [] e found = absurd (cc)
  found_is h (x ∷ xs) e found =
      cond_both (is_at h x) (Some x) (find_at xs h)
      (λ o. o ≡ Some e → handle_of e ≡ h)
      (λ here is.
      let same : x ≡ e = cc in
      ap handle_of (sym same)
      ∙ ap (λ (n : ℕ). record { index = n; serial = x.serial }) (index_at h x here)
      ∙ ap (λ (n : ℕ). record { index = h.index; serial = n }) (serial_at h x here))
      (λ other is. found_is h xs e is)
      found
