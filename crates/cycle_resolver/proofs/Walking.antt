-- What holds of a walk all the time, and that each step keeps it.
use Rattle.std.proofs.Common.{◌≡◌, ◌∙◌, ℕ, ◌+◌, ◌*◌, ◌<◌, ◌≤◌, ◌||◌, inl, inr, Bool, true, false, not, cond, List, [], ◌∷◌, ◌++◌, length, take, refl, sym, ap, subst, arith, append_assoc, length-append}
use Rattle.std.specs.Prelude.{slice_index_or}
use Rattle.std.specs.List.{All, AllPairs, Contains, count_by}
use Rattle.std.proofs.Math.ListN.{get_or, get_or-append}
use Rattle.std.proofs.Math.Seq.{get_or-append_seam, take-append_seam}
use Rattle.std.proofs.lemmas.Bool.{cases_lt, true≢false}
use Rattle.std.proofs.lemmas.List.{append-nil, take-append-le, take_all}
use Rattle.std.proofs.lemmas.List.Elements.{All-contains, All-more, All-nil, All-push, All-same, All-weaker, Contains-append_right, Contains-append_cases, Contains-push_cases, Contains-get_or}
use Rattle.std.proofs.lemmas.List.Quantifiers.{all_pairs_push}
use Rattle.gd_members.specs.declared.Item.{Item}
use Rattle.cycle_resolver.specs.declared.found.Order.{Order}
use Rattle.cycle_resolver.specs.declared.walk.Walk.{Walk}
use Rattle.cycle_resolver.specs.Needs.{Leads, LeadsToCycle, NeedsItself, directly, through}
use Rattle.cycle_resolver.specs.Order.{AreDistinct, FollowNeeds, Orders, same_item, times}
use Rattle.cycle_resolver.specs.Unfold.{IsOpen, Settled, give_up_item, type_item}
use Rattle.cycle_resolver.specs.Walk.{GivesUp, Meets, MeetsNone, Steps, closes, enters, follows, has_met, types}
use Rattle.cycle_resolver.proofs.Counts.{count-less, count-same, not-or, or-true}
use Rattle.cycle_resolver.proofs.Times.{found-times, not-found, same_item-apart, same_item-decides, same_item-or-not, same_item-refl, same-weight, times-append, times-found, times-push}
use Rattle.cycle_resolver.proofs.Ways.{Leads-then, LeadsToCycle-need, no-cycle}

-- the conditions of `order`
pub record AreGiven (needs : Item → List Item) (items : List Item) (begun : Settled) : Type 0 where
  pub distinct : AreDistinct items
  pub opened : All (IsOpen begun) items
  pub among : All (λ item. All (Contains items) (needs item)) items

-- how far a walk has come: what it met, the path, and the items that it settled
pub record IsWalk (needs : Item → List Item) (items : List Item) (begun now : Settled) (met : Item → Bool) (path sequence cyclic : List Item) : Type 0 where
  -- an item that was met stands in one of the lists, once, and no other item stands there
  pub once : (x : Item) → times x path + times x sequence + times x cyclic ≡ cond (met x) 1 0
  pub among : (x : Item) → met x ≡ true → Contains items x
  pub typed : now.typed ≡ begun.typed ++ sequence
  pub given_up : now.given_up ≡ begun.given_up ++ cyclic
  -- each item of the path leads to those behind it
  pub leads : AllPairs (Leads needs) path
  pub follow : FollowNeeds needs sequence
  pub acyclic : All (λ item. ¬ LeadsToCycle needs item) sequence
  pub to_cycle : All (LeadsToCycle needs) cyclic

AllPairs-front : (R : Item → Item → Type 0) (xs ys : List Item) → AllPairs R (xs ++ ys) → AllPairs R xs
AllPairs-front R xs ys h i j d below inside =
    let longer : j < length (xs ++ ys) = omega (arith, length-append xs ys) in
    let P : Item → Type 0 = λ a. R a (slice_index_or xs j d) in
    let Q : Item → Type 0 = λ b. R (slice_index_or (xs ++ ys) i d) b in
    subst P (get_or-append xs ys d i (omega arith)) (subst Q (get_or-append xs ys d j inside) (h i j d below longer))

-- each item before the last one of the path leads to it
leads-to-last : (R : Item → Item → Type 0) (xs : List Item) (y : Item) → AllPairs R (xs ++ y ∷ []) → (k : ℕ) (d : Item) → k < length xs → R (slice_index_or xs k d) y
leads-to-last R xs y h k d inside =
    let longer : length xs < length (xs ++ y ∷ []) = omega (arith, length-append xs (y ∷ [])) in
    let P : Item → Type 0 = λ a. R a y in
    let Q : Item → Type 0 = λ b. R (slice_index_or (xs ++ y ∷ []) k d) b in
    subst P (get_or-append xs (y ∷ []) d k inside) (subst Q (get_or-append_seam xs y [] d) (h k (length xs) d inside longer))

FollowNeeds-push : (needs : Item → List Item) (xs : List Item) (y : Item) → FollowNeeds needs xs → All (Contains xs) (needs y) → FollowNeeds needs (xs ++ y ∷ [])
FollowNeeds-push needs xs y h last k d inside =
    let whole = length-append xs (y ∷ []) in
    let Q : List Item → Item → Type 0 = λ front item. All (Contains front) (needs item) in
    elim (cases_lt k (length xs)) as (λ _. Q (take k (xs ++ y ∷ [])) (slice_index_or (xs ++ y ∷ []) k d)) [
      | inl before ↦
          let at : slice_index_or (xs ++ y ∷ []) k d ≡ slice_index_or xs k d = get_or-append xs (y ∷ []) d k before in
          let front : take k (xs ++ y ∷ []) ≡ take k xs = take-append-le k xs (y ∷ []) (omega arith) in
          rw (at, front) (h k d before)
      | inr past ↦
          let here : k ≡ length xs = omega arith in
          let at : slice_index_or (xs ++ y ∷ []) k d ≡ y = ap (λ n. slice_index_or (xs ++ y ∷ []) n d) here ∙ get_or-append_seam xs y [] d in
          let front : take k (xs ++ y ∷ []) ≡ xs = ap (λ n. take n (xs ++ y ∷ [])) here ∙ take-append_seam xs (y ∷ []) in
          rw (at, front) last
    ]

-- an item that stands in none of the lists of settled items is open
still-open : {needs : Item → List Item} {items : List Item} {begun now : Settled} {met : Item → Bool} {path sequence cyclic : List Item}
    → AreGiven needs items begun → IsWalk needs items begun now met path sequence cyclic → (x : Item) → Contains items x
    → ¬ Contains sequence x → ¬ Contains cyclic x → IsOpen now x
still-open {begun = begun} {now = now} {sequence = sequence} {cyclic = cyclic} given w x in_items not_typed not_given_up =
    let first = All-contains (IsOpen begun) _ x given.opened in_items in
    record {
      not_typed = λ h. let P : List Item → Type 0 = λ l. Contains l x in
          elim (Contains-append_cases begun.typed sequence x (subst P w.typed h)) as (λ _. ⊥) [ inl a ↦ first.not_typed a | inr b ↦ not_typed b ];
      not_given_up = λ h. let P : List Item → Type 0 = λ l. Contains l x in
          elim (Contains-append_cases begun.given_up cyclic x (subst P w.given_up h)) as (λ _. ⊥) [ inl a ↦ first.not_given_up a | inr b ↦ not_given_up b ];
    }

-- the item at the path's end is open
pub top-open : {needs : Item → List Item} {items : List Item} {begun now : Settled} {met : Item → Bool} {sequence cyclic : List Item} (lower : List Item) (top : Item)
    → AreGiven needs items begun → IsWalk needs items begun now met (lower ++ top ∷ []) sequence cyclic → IsOpen now top × Contains items top
top-open {items = items} {met = met} {sequence = sequence} {cyclic = cyclic} lower top given w =
    let whole = w.once top in
    let one = times-push top lower top in
    let same = same-weight (same_item-refl top) in
    let P : Bool → Type 0 = λ b. met top ≡ b → (times top sequence ≡ 0) × (times top cyclic ≡ 0) × (met top ≡ true) in
    let alone = elim (met top) as P [
      | true ↦ λ e. let n = same-weight e in (omega arith, omega arith, e)
      | false ↦ λ e. let n = same-weight e in absurd (omega arith)
    ] refl in
    let in_items = w.among top alone.2 in (
      still-open given w top in_items (λ h. let n = times-found top sequence h in let z = alone.0 in absurd (omega arith))
          (λ h. let n = times-found top cyclic h in let z = alone.1 in absurd (omega arith)),
      in_items,
    )

-- the item that was typed leads to no cycle
types-kept : {needs : Item → List Item} {items : List Item} {begun now : Settled} {met met' : Item → Bool} {sequence cyclic : List Item} (lower : List Item) (top : Item)
    → AreGiven needs items begun → IsWalk needs items begun now met (lower ++ top ∷ []) sequence cyclic
    → All (Contains now.typed) (needs top) → ((x : Item) → met' x ≡ met x)
    → IsWalk needs items begun (type_item now top) met' lower (sequence ++ top ∷ []) cyclic
types-kept {needs} {items} {begun} {now} {met} {met'} {sequence} {cyclic} lower top given w all same =
    let in_items = (top-open lower top given w).1 in
    let needed = All-contains (λ item. All (Contains items) (needs item)) items top given.among in_items in
    let before : All (Contains sequence) (needs top) = λ k d inside.
    let P : List Item → Type 0 = λ l. Contains l (slice_index_or (needs top) k d) in
    let fresh = All-contains (IsOpen begun) items _ given.opened (needed k d inside) in
    elim (Contains-append_cases begun.typed sequence _ (subst P w.typed (all k d inside))) as (λ _. Contains sequence (slice_index_or (needs top) k d)) [ inl a ↦ absurd (fresh.not_typed a) | inr b ↦ b ] in
    let none : All (λ item. ¬ LeadsToCycle needs item) (needs top) = λ k d inside. All-contains (λ item. ¬ LeadsToCycle needs item) sequence _ w.acyclic (before k d inside) in
    record {
      once = λ x. omega (arith, w.once x, times-push x lower top, times-push x sequence top, same-weight (same x));
      among = λ x h. w.among x (sym (same x) ∙ h);
      typed = ap (λ l. l ++ top ∷ []) w.typed ∙ append_assoc begun.typed sequence (top ∷ []);
      given_up = w.given_up;
      leads = AllPairs-front (Leads needs) lower (top ∷ []) w.leads;
      follow = FollowNeeds-push needs sequence top w.follow before;
      acyclic = All-push (λ item. ¬ LeadsToCycle needs item) sequence top w.acyclic (no-cycle needs top none);
      to_cycle = w.to_cycle;
    }

gives_up-kept : {needs : Item → List Item} {items : List Item} {begun now : Settled} {met met' : Item → Bool} {sequence cyclic : List Item} (lower : List Item) (top : Item)
    → IsWalk needs items begun now met (lower ++ top ∷ []) sequence cyclic
    → LeadsToCycle needs top → ((x : Item) → met' x ≡ met x)
    → IsWalk needs items begun (give_up_item now top) met' lower sequence (cyclic ++ top ∷ [])
gives_up-kept {needs} {items} {begun} {now} {met} {met'} {sequence} {cyclic} lower top w way same = record {
  once = λ x. omega (arith, w.once x, times-push x lower top, times-push x cyclic top, same-weight (same x));
  among = λ x h. w.among x (sym (same x) ∙ h);
  typed = w.typed;
  given_up = ap (λ l. l ++ top ∷ []) w.given_up ∙ append_assoc begun.given_up cyclic (top ∷ []);
  leads = AllPairs-front (Leads needs) lower (top ∷ []) w.leads;
  follow = w.follow;
  acyclic = w.acyclic;
  to_cycle = All-push (LeadsToCycle needs) cyclic top w.to_cycle way;
}

-- how often an item stands in lists of which it entered one
entered-once : (next x : Item) (met : Item → Bool) (n : ℕ) → n ≡ cond (met x) 1 0 → met next ≡ false → n + cond (same_item x next) 1 0 ≡ cond (same_item next x || met x) 1 0
entered-once next x met n whole unmet =
    elim (same_item-or-not x next) as (λ _. n + cond (same_item x next) 1 0 ≡ cond (same_item next x || met x) 1 0) [
      | inl e ↦
          let none : met x ≡ false = ap met e ∙ unmet in
          let zero : n ≡ 0 = whole ∙ same-weight none in
          let one : cond {A = ℕ} (same_item x next) 1 0 ≡ 1 = same-weight ((same_item-decides x next).1 e) in
          let now : cond {A = ℕ} (same_item next x || met x) 1 0 ≡ 1 = same-weight (ap (λ b. b || met x) ((same_item-decides next x).1 (sym e))) in
          omega arith
      | inr apart ↦
          let zero : cond {A = ℕ} (same_item x next) 1 0 ≡ 0 = same-weight apart in
          let other : same_item next x ≡ false = same_item-apart x next apart in
          let now : cond {A = ℕ} (same_item next x || met x) 1 0 ≡ cond (met x) 1 0 = same-weight (ap (λ b. b || met x) other) in
          omega arith
    ]

-- an item enters the path behind those that lead to it
enters-kept : {needs : Item → List Item} {items : List Item} {begun now : Settled} {met met' : Item → Bool} {sequence cyclic : List Item} (path : List Item) (next : Item)
    → IsWalk needs items begun now met path sequence cyclic
    → Contains items next → met next ≡ false → ((k : ℕ) (d : Item) → k < length path → Leads needs (slice_index_or path k d) next)
    → ((x : Item) → met' x ≡ (same_item next x || met x))
    → IsWalk needs items begun now met' (path ++ next ∷ []) sequence cyclic
enters-kept {needs} {items} {begun} {now} {met} {met'} {sequence} {cyclic} path next w in_items unmet ways same = record {
  once = λ x. omega (arith, entered-once next x met _ (w.once x) unmet, times-push x path next, same-weight (same x));
  among = λ x h.
      let P : Bool → Type 0 = λ b. (b || met x) ≡ true → Contains items x in
      let either : (same_item next x || met x) ≡ true = sym (same x) ∙ h in
      elim (same_item-or-not next x) as (λ _. Contains items x) [
        | inl e ↦ subst (Contains items) e in_items
        | inr other ↦ w.among x (ap (λ b. b || met x) (sym other) ∙ either)
      ];
  typed = w.typed;
  given_up = w.given_up;
  leads = all_pairs_push (Leads needs) path next w.leads ways;
  follow = w.follow;
  acyclic = w.acyclic;
  to_cycle = w.to_cycle;
}

-- where the path's last item needs one that was met and is open, it needs itself
closes-cycle : {needs : Item → List Item} {items : List Item} {begun now : Settled} {met : Item → Bool} {sequence cyclic : List Item} (lower : List Item) (top next : Item)
    → IsWalk needs items begun now met (lower ++ top ∷ []) sequence cyclic
    → Contains (needs top) next → met next ≡ true → IsOpen now next → NeedsItself needs top
closes-cycle {needs} {items} {begun} {now} {met} {sequence} {cyclic} lower top next w need is_met opened =
    let P : List Item → Type 0 = λ l. Contains l next in
    let not_typed : times next sequence ≡ 0 = not-found next sequence (λ h. opened.not_typed (subst P (sym w.typed) (Contains-append_right begun.typed sequence next h))) in
    let not_cyclic : times next cyclic ≡ 0 = not-found next cyclic (λ h. opened.not_given_up (subst P (sym w.given_up) (Contains-append_right begun.given_up cyclic next h))) in
    let on_path : Contains (lower ++ top ∷ []) next = found-times next (lower ++ top ∷ []) (omega (arith, w.once next, same-weight is_met)) in
    elim (Contains-push_cases lower top next on_path) as (λ _. NeedsItself needs top) [
      | inl below ↦
          let Q : Item → Type 0 = λ a. Leads needs a top in
          through top next top need (subst Q below.2 (leads-to-last (Leads needs) lower top w.leads below.0 next below.1))
      | inr here ↦ directly top top (subst (Contains (needs top)) (sym here) need)
    ]

given-up-cycle : {needs : Item → List Item} {items : List Item} {begun now : Settled} {met : Item → Bool} {sequence cyclic : List Item} (lower : List Item) (top next : Item)
    → AreGiven needs items begun → IsWalk needs items begun now met (lower ++ top ∷ []) sequence cyclic
    → Contains (needs top) next → Contains now.given_up next → LeadsToCycle needs top
given-up-cycle {needs} {items} {begun} {now} {met} {sequence} {cyclic} lower top next given w need gone =
    let in_items = (top-open lower top given w).1 in
    let next_in = All-contains (Contains items) (needs top) next (All-contains (λ item. All (Contains items) (needs item)) items top given.among in_items) need in
    let fresh = All-contains (IsOpen begun) items next given.opened next_in in
    let P : List Item → Type 0 = λ l. Contains l next in
    elim (Contains-append_cases begun.given_up cyclic next (subst P w.given_up gone)) as (λ _. LeadsToCycle needs top) [
      | inl a ↦ absurd (fresh.not_given_up a)
      | inr b ↦ LeadsToCycle-need need (All-contains (LeadsToCycle needs) cyclic next w.to_cycle b)
    ]

-- the walk as the code has it, with this path
abbrev pub IsWalkOf : (Item → List Item) → List Item → Settled → Settled → Walk → List Item → Type 0
IsWalkOf needs items begun now walk path = IsWalk needs items begun now (has_met walk) path walk.sequence.items walk.cyclic.items

-- the same walk, by lists that are equal
with-lists : {needs : Item → List Item} {items : List Item} {begun now now' : Settled} {met : Item → Bool} {path path' sequence sequence' cyclic cyclic' : List Item}
    → now' ≡ now → path' ≡ path → sequence' ≡ sequence → cyclic' ≡ cyclic
    → IsWalk needs items begun now met path sequence cyclic → IsWalk needs items begun now' met path' sequence' cyclic'
with-lists {needs} {items} {begun} {now} {now'} {met} {path} {path'} {sequence} {sequence'} {cyclic} {cyclic'} e f g h w =
    let P : Settled → Type 0 = λ a. IsWalk needs items begun a met path sequence cyclic in
    let Q : List Item → Type 0 = λ a. IsWalk needs items begun now' met a sequence cyclic in
    let R : List Item → Type 0 = λ a. IsWalk needs items begun now' met path' a cyclic in
    let S : List Item → Type 0 = λ a. IsWalk needs items begun now' met path' sequence' a in
    subst S (sym h) (subst R (sym g) (subst Q (sym f) (subst P (sym e) w)))

same-met : {needs : Item → List Item} {items : List Item} {begun now : Settled} {met met' : Item → Bool} {path sequence cyclic : List Item}
    → ((x : Item) → met' x ≡ met x) → IsWalk needs items begun now met path sequence cyclic → IsWalk needs items begun now met' path sequence cyclic
same-met same w = record {
  once = λ x. w.once x ∙ sym (same-weight (same x));
  among = λ x h. w.among x (sym (same x) ∙ h);
  typed = w.typed;
  given_up = w.given_up;
  leads = w.leads;
  follow = w.follow;
  acyclic = w.acyclic;
  to_cycle = w.to_cycle;
}

gives_up-walk : {needs : Item → List Item} {items : List Item} {begun now after : Settled} (old new : Walk) (top : Item)
    → IsWalkOf needs items begun now old (old.path.items ++ top ∷ []) → LeadsToCycle needs top → GivesUp top now after old new
    → IsWalkOf needs items begun after new new.path.items
gives_up-walk old new top w way g = with-lists g.settled g.path g.sequence g.cyclic (gives_up-kept old.path.items top w way g.meets)

-- each step keeps the walk
pub step-kept : {needs : Item → List Item} {items : List Item} {begun now after : Settled} (old new : Walk) (top : Item)
    → AreGiven needs items begun → IsWalkOf needs items begun now old (old.path.items ++ top ∷ []) → Steps needs top now after old new
    → IsWalkOf needs items begun after new new.path.items
step-kept old new top given w (types all settled same path sequence cyclic) =
    with-lists settled path sequence cyclic (types-kept old.path.items top given w all same)
step-kept {needs} {items} old new top given w (enters next need unmet settled meets path sequence cyclic) =
    let lower = old.path.items in
    let in_items = (top-open lower top given w).1 in
    let next_in = All-contains (Contains items) (needs top) next (All-contains (λ item. All (Contains items) (needs item)) items top given.among in_items) need in
    let to_top : All (λ a. Leads needs a next) lower = λ k d inside. Leads-then (leads-to-last (Leads needs) lower top w.leads k d inside) need in
    let ways = All-push (λ a. Leads needs a next) lower top to_top (directly top next need) in
    with-lists settled (path ∙ sym (append_assoc lower (top ∷ []) (next ∷ []))) sequence cyclic (enters-kept (lower ++ top ∷ []) next w next_in unmet ways meets)
step-kept old new top given w (closes next need is_met opened g) =
    let round = closes-cycle old.path.items top next w need is_met opened in
    gives_up-walk old new top w (top, round, round) g
step-kept old new top given w (follows next need gone g) = gives_up-walk old new top w (given-up-cycle old.path.items top next given w need gone) g

-- how many of the items are not met yet
abbrev pub unmet_count : List Item → Walk → ℕ
unmet_count items walk = count_by (λ item. not (has_met walk item)) items

-- each step leaves less to do: an item is met, or the path gets shorter
pub step-falls : {needs : Item → List Item} {items : List Item} {begun now after : Settled} (old new : Walk) (top : Item)
    → AreGiven needs items begun → IsWalkOf needs items begun now old (old.path.items ++ top ∷ []) → Steps needs top now after old new
    → 2 * unmet_count items new + length new.path.items < 2 * unmet_count items old + length (old.path.items ++ top ∷ [])
step-falls {items = items} old new top given w (types all settled same path sequence cyclic) =
    omega (arith, length-append old.path.items (top ∷ []), ap length path, count-same (λ x. not (has_met old x)) (λ x. not (has_met new x)) items (λ x. ap not (same x)))
step-falls {needs} {items} old new top given w (enters next need unmet settled meets path sequence cyclic) =
    let in_items = (top-open old.path.items top given w).1 in
    let next_in = All-contains (Contains items) (needs top) next (All-contains (λ item. All (Contains items) (needs item)) items top given.among in_items) need in
    let met_now : has_met new next ≡ true = meets next ∙ ap (λ b. b || has_met old next) (same_item-refl next) in
    let fewer = count-less (λ x. not (has_met old x)) (λ x. not (has_met new x)) next items (λ x h. not-or (same_item next x) (has_met old x) (ap not (sym (meets x)) ∙ h)) (ap not unmet) (ap not met_now) (times-found next items next_in) in
    omega (arith, length-append old.path.items (top ∷ []), ap length path, length-append old.path.items (top ∷ next ∷ []))
step-falls {items = items} old new top given w (closes next need is_met opened g) =
    omega (arith, length-append old.path.items (top ∷ []), ap length g.path, count-same (λ x. not (has_met old x)) (λ x. not (has_met new x)) items (λ x. ap not (g.meets x)))
step-falls {items = items} old new top given w (follows next need gone g) =
    omega (arith, length-append old.path.items (top ∷ []), ap length g.path, count-same (λ x. not (has_met old x)) (λ x. not (has_met new x)) items (λ x. ap not (g.meets x)))

-- an item that is met stays met
pub step-meets : {needs : Item → List Item} {now after : Settled} (old new : Walk) (top : Item) → Steps needs top now after old new
    → (x : Item) → has_met old x ≡ true → has_met new x ≡ true
step-meets old new top (types all settled same path sequence cyclic) x h = same x ∙ h
step-meets old new top (enters next need unmet settled meets path sequence cyclic) x h = meets x ∙ ap (λ b. same_item next x || b) h ∙ or-true (same_item next x)
step-meets old new top (closes next need is_met opened g) x h = g.meets x ∙ h
step-meets old new top (follows next need gone g) x h = g.meets x ∙ h

-- a walk that came to no item
pub begins : {needs : Item → List Item} {items : List Item} {begun : Settled} (walk : Walk) → walk.path.items ≡ [] → walk.sequence.items ≡ []
    → walk.cyclic.items ≡ [] → ((x : Item) → has_met walk x ≡ false) → IsWalkOf needs items begun begun walk walk.path.items
begins {needs} {items} {begun} walk path sequence cyclic none = with-lists refl path sequence cyclic (record {
  once = λ x. let z : times x [] ≡ 0 = refl in omega (arith, same-weight (none x));
  among = λ x h. absurd (true≢false (sym h ∙ none x));
  typed = sym (append-nil begun.typed);
  given_up = sym (append-nil begun.given_up);
  leads = λ i j d below inside. absurd (omega arith);
  follow = λ k d inside. absurd (omega arith);
  acyclic = All-nil (λ item. ¬ LeadsToCycle needs item);
  to_cycle = All-nil (LeadsToCycle needs);
})

-- where all items are met and the path is empty, the order is found
pub ends : {needs : Item → List Item} {items : List Item} {begun now : Settled} {met : Item → Bool} (order : Order)
    → AreGiven needs items begun → IsWalk needs items begun now met [] order.sequence order.cyclic → All (λ item. met item ≡ true) items
    → Orders needs items order
ends {needs} {items} {begun} {now} {met} order given w all = record {
  each = λ x.
      let parts = times-append x order.sequence order.cyclic in
      let z : times x [] ≡ 0 = refl in
      let P : Bool → Type 0 = λ b. met x ≡ b → times x (order.sequence ++ order.cyclic) ≡ times x items in
      elim (met x) as P [
        | true ↦ λ e. let n = times-found x items (w.among x e) in let m = given.distinct x in omega (arith, w.once x, same-weight e)
        | false ↦ λ e.
            let absent : times x items ≡ 0 = not-found x items (λ h. true≢false (sym (All-contains (λ item. met item ≡ true) items x all h) ∙ e)) in
            omega (arith, w.once x, same-weight e)
      ] refl;
  follow = w.follow;
  cyclic = w.to_cycle;
  acyclic = w.acyclic;
}

-- what the loops of `order` keep: the needs stay, the walk is one of these items, and the first of them are met
pub record IsUnderWay (needs needs' : Item → List Item) (items : List Item) (begun now : Settled) (walk : Walk) (count : ℕ) : Type 0 where
  pub fixed : needs' ≡ needs
  pub walks : IsWalkOf needs items begun now walk walk.path.items
  pub met : All (λ item. has_met walk item ≡ true) (take count items)

more-met : (items : List Item) (n : ℕ) (d item : Item) (old new : Walk) → ((x : Item) → has_met old x ≡ true → has_met new x ≡ true)
    → n < length items → slice_index_or items n d ≡ item → has_met new item ≡ true
    → All (λ x. has_met old x ≡ true) (take n items) → All (λ x. has_met new x ≡ true) (take (n + 1) items)
more-met items n d item old new keeps inside is now before =
    let P : Item → Type 0 = λ x. has_met new x ≡ true in
    All-more P items n d inside (All-weaker (λ x. has_met old x ≡ true) P keeps (take n items) before) (subst P (sym is) now)

-- an item that no walk came to begins a path
pub starts-new : {needs needs' : Item → List Item} {items : List Item} {begun now : Settled} (n : ℕ) (d item : Item) (old new : Walk)
    → IsUnderWay needs needs' items begun now old n → old.path.items ≡ [] → has_met old item ≡ false → Meets old new item
    → new.path.items ≡ old.path.items ++ item ∷ [] → new.sequence.items ≡ old.sequence.items → new.cyclic.items ≡ old.cyclic.items
    → n < length items → slice_index_or items n d ≡ item → IsUnderWay needs needs' items begun now new (n + 1)
starts-new {needs} {items = items} n d item old new h none unmet meets path sequence cyclic inside is =
    let ways : (k : ℕ) (d : Item) → k < length old.path.items → Leads needs (slice_index_or old.path.items k d) item =
    λ k d below. let e = ap length none in absurd (omega arith) in
    let met_now : has_met new item ≡ true = meets item ∙ ap (λ b. b || has_met old item) (same_item-refl item) in
    let at = subst (Contains items) is (Contains-get_or items n d inside) in
    record {
      fixed = h.fixed;
      walks = with-lists refl path sequence cyclic (enters-kept old.path.items item h.walks at unmet ways meets);
      met = more-met items n d item old new (λ x e. meets x ∙ ap (λ b. same_item item x || b) e ∙ or-true (same_item item x)) inside is met_now h.met;
    }

-- an item that the walk came to is settled
pub starts-none : {needs needs' : Item → List Item} {items : List Item} {begun now : Settled} (n : ℕ) (d item : Item) (old new : Walk)
    → IsUnderWay needs needs' items begun now old n → has_met old item ≡ true → MeetsNone old new
    → new.path.items ≡ old.path.items → new.sequence.items ≡ old.sequence.items → new.cyclic.items ≡ old.cyclic.items
    → n < length items → slice_index_or items n d ≡ item → IsUnderWay needs needs' items begun now new (n + 1)
starts-none {items = items} n d item old new h is_met same path sequence cyclic inside is = record {
  fixed = h.fixed;
  walks = with-lists refl path sequence cyclic (same-met same h.walks);
  met = more-met items n d item old new (λ x e. same x ∙ e) inside is (same _ ∙ is_met) h.met;
}

-- the same walk, however its path is laid down
pub same-way : {needs needs' : Item → List Item} {items : List Item} {begun now : Settled} {n : ℕ} (old new : Walk)
    → IsUnderWay needs needs' items begun now old n → MeetsNone old new
    → new.path.items ≡ old.path.items → new.sequence.items ≡ old.sequence.items → new.cyclic.items ≡ old.cyclic.items
    → IsUnderWay needs needs' items begun now new n
same-way {items = items} {n = n} old new h same path sequence cyclic = record {
  fixed = h.fixed;
  walks = with-lists refl path sequence cyclic (same-met same h.walks);
  met = All-weaker (λ x. has_met old x ≡ true) (λ x. has_met new x ≡ true) (λ x e. same x ∙ e) (take n items) h.met;
}

-- the top that was taken off the path
pub popped : {needs : Item → List Item} {items : List Item} {begun now : Settled} {met : Item → Bool} {path sequence cyclic : List Item} (lower : List Item) (top : Item)
    → path ≡ lower ++ top ∷ [] → IsWalk needs items begun now met path sequence cyclic → IsWalk needs items begun now met (lower ++ top ∷ []) sequence cyclic
popped lower top e w = with-lists refl (sym e) refl refl w

-- a step under way
pub under-step : {needs needs' needs'' : Item → List Item} {items : List Item} {begun now after : Settled} (n : ℕ) (old mid new : Walk) (top : Item)
    → AreGiven needs items begun → IsUnderWay needs needs' items begun now old n → old.path.items ≡ mid.path.items ++ top ∷ []
    → mid.sequence.items ≡ old.sequence.items → mid.cyclic.items ≡ old.cyclic.items → ((x : Item) → has_met mid x ≡ has_met old x)
    → needs'' ≡ needs' → Steps needs' top now after mid new
    → IsUnderWay needs needs'' items begun after new n
    × (2 * unmet_count items new + length new.path.items < 2 * unmet_count items old + length old.path.items)
under-step {needs} {needs'} {items = items} {now = now} {after = after} n old mid new top given h popped_is sequence cyclic same fixed step =
    let P : (Item → List Item) → Type 0 = λ f. Steps f top now after mid new in
    let s = subst P h.fixed step in
    let w = with-lists refl (sym popped_is) sequence cyclic (same-met same h.walks) in
    let less = step-falls mid new top given w s in (
      record {
        fixed = fixed ∙ h.fixed;
        walks = step-kept mid new top given w s;
        met = All-weaker (λ x. has_met old x ≡ true) (λ x. has_met new x ≡ true) (λ x e. step-meets mid new top s x (same x ∙ e)) (take n items) h.met;
      },
      omega (arith, count-same (λ x. not (has_met old x)) (λ x. not (has_met mid x)) items (λ x. ap not (same x)), ap length popped_is),
    )

-- where all items were gone through, the order is found
pub ends-at : {needs needs' : Item → List Item} {items : List Item} {begun now : Settled} {n : ℕ} (walk : Walk) (order : Order)
    → AreGiven needs items begun → IsUnderWay needs needs' items begun now walk n → walk.path.items ≡ [] → length items ≤ n
    → order.sequence ≡ walk.sequence.items → order.cyclic ≡ walk.cyclic.items → Orders needs items order
ends-at {items = items} {n = n} walk order given h path past sequence cyclic =
    let all = All-same (λ x. has_met walk x ≡ true) items (take n items) (sym (take_all n items past)) h.met in
    ends order given (with-lists refl (sym path) sequence cyclic h.walks) all
