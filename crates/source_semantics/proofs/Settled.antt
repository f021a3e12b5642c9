-- Settling: what it leaves, and what it asks.
use Rattle.std.proofs.Common.{◌≡◌, ℕ, zero, suc, ◌≤◌, ◌<◌, List, [], ◌∷◌, ◌++◌, ◌⊎◌, inl, inr, length, refl, ap, ◌∙◌, arith}
use Rattle.std.specs.Prelude.{Bool, true, false, not, ◌||◌, filter, ⊤}
use Rattle.std.specs.List.{flat_map, list_any}
use Rattle.std.proofs.Math.Nat.{le_refl}
use Rattle.std.proofs.Math.Path.{fun_ext}
use Rattle.std.proofs.lemmas.List.{append-nil}
use Rattle.gd_model.specs.Datum.{Datum}
use Rattle.gd_model.specs.Store.{Thing}
use Rattle.store_semantics.specs.Holding.{freed_of, holds, is_held, places, round, rounds}
use Rattle.store_semantics.specs.World.{World}
use Rattle.source_semantics.specs.Settling.{AllHeld, AllHeldOf, AsksAmong, LeavesHeld, MoreHeld, StaysSettled, among}

-- ---- tests over lists

abbrev AllTrue : {X : Type 0} → (X → Bool) → List X → Type 0
AllTrue test [] = ⊤
AllTrue test (x ∷ xs) = (test x ≡ true) × AllTrue test xs

filter_keeps : {X : Type 0} (test : X → Bool) (xs : List X) → AllTrue test xs → filter test xs ≡ xs
filter_keeps test [] h = refl
filter_keeps test (x ∷ xs) h = rw h.0 (ap (λ ys. x ∷ ys) (filter_keeps test xs h.1))

filter_drops : {X : Type 0} (test : X → Bool) (xs : List X) → AllTrue test xs → filter (λ x. not (test x)) xs ≡ []
filter_drops test [] h = refl
filter_drops test (x ∷ xs) h = rw h.0 (filter_drops test xs h.1)

-- a filter keeps all, or fewer
one_more : (a b : ℕ) → a < b → suc a < suc b
one_more a b h = omega arith

still_less : (a b : ℕ) → a < b → a < suc b
still_less a b h = omega arith

at_most : (a b : ℕ) → a ≤ b → a < suc b
at_most a b h = omega arith

all_or_fewer : {X : Type 0} (test : X → Bool) (xs : List X) → AllTrue test xs ⊎ (length (filter test xs) < length xs)
all_or_fewer test [] = inl tt
all_or_fewer test (x ∷ xs) = by_test (test x) refl (all_or_fewer test xs)
  where
    no_more : AllTrue test xs ⊎ (length (filter test xs) < length xs) → length (filter test xs) ≤ length xs
    no_more (inl a) = rw (filter_keeps test xs a) (le_refl (length xs))
    no_more (inr h) = less_is_at_most (length (filter test xs)) (length xs) h
      where
        less_is_at_most : (a b : ℕ) → a < b → a ≤ b
        less_is_at_most a b h = omega arith

    by_test : (b : Bool) → test x ≡ b → AllTrue test xs ⊎ (length (filter test xs) < length xs)
        → AllTrue test (x ∷ xs) ⊎ (length (filter test (x ∷ xs)) < length (x ∷ xs))
    by_test true e (inl a) = inl (e, a)
    by_test true e (inr h) = inr (rw e (one_more (length (filter test xs)) (length xs) h))
    by_test false e rest = inr (rw e (at_most (length (filter test xs)) (length xs) (no_more rest)))

-- ---- a world in which each thing is held

held_all : (w : World) (hand : List Datum) (xs : List (ℕ × Thing)) → AllHeldOf w hand xs
    → AllTrue (λ x. is_held w hand x.0) xs
held_all w hand [] h = tt
held_all w hand (x ∷ xs) h = (h.0, held_all w hand xs h.1)

all_held : (w : World) (hand : List Datum) (xs : List (ℕ × Thing)) → AllTrue (λ x. is_held w hand x.0) xs
    → AllHeldOf w hand xs
all_held w hand [] h = tt
all_held w hand (x ∷ xs) h = (h.0, all_held w hand xs h.1)

round_stays : (w : World) (hand : List Datum) → AllHeld w hand → round w hand ≡ w
round_stays w hand h =
    let a : AllTrue (λ x. is_held w hand x.0) w.things = held_all w hand w.things h in
    rw (filter_keeps (λ x. is_held w hand x.0) w.things a, filter_drops (λ x. is_held w hand x.0) w.things a)
    (ap (λ events. record w { events = events }) (append-nil w.events))

rounds_stay : (n : ℕ) (w : World) (hand : List Datum) → AllHeld w hand → rounds n w hand ≡ w
unfolding rounds
rounds_stay zero w hand h = refl
rounds_stay (suc n) w hand h = ap (λ v. rounds n v hand) (round_stays w hand h) ∙ rounds_stay n w hand h

pub stays_settled : StaysSettled
stays_settled w hand h = rounds_stay (length w.things) w hand h

-- ---- as many rounds as there are things

nothing_there : (w : World) (hand : List Datum) (xs : List (ℕ × Thing)) → length xs ≤ 0 → AllHeldOf w hand xs
nothing_there w hand [] h = tt
nothing_there w hand (x ∷ xs) h = absurd (too_many (length xs) h)
  where
    too_many : (a : ℕ) → suc a ≤ 0 → ⊥
    too_many a h = omega arith

fewer_left : (a b n : ℕ) → a < b → b ≤ suc n → a ≤ n
fewer_left a b n h k = omega arith

by_round : (n : ℕ) (w : World) (hand : List Datum) → length w.things ≤ suc n
    → (length (filter (λ x. is_held w hand x.0) w.things) ≤ n → AllHeld (rounds n (round w hand) hand) hand)
    → AllTrue (λ x. is_held w hand x.0) w.things ⊎
    (length (filter (λ x. is_held w hand x.0) w.things) < length w.things)
    → AllHeld (rounds n (round w hand) hand) hand
by_round n w hand h next (inl a) =
    let held : AllHeld w hand = all_held w hand w.things a in rw (round_stays w hand held, rounds_stay n w hand held)
    held
by_round n w hand h next (inr less) = next (fewer_left _ (length w.things) n less h)

rounds_leave : (n : ℕ) (w : World) (hand : List Datum) → length w.things ≤ n → AllHeld (rounds n w hand) hand
unfolding rounds
rounds_leave zero w hand h = nothing_there w hand w.things h
rounds_leave (suc n) w hand h =
    by_round n w hand h (λ k. rounds_leave n (round w hand) hand k) (all_or_fewer (λ x. is_held w hand x.0) w.things)

pub leaves_held : LeavesHeld
leaves_held w hand = rounds_leave (length w.things) w hand (le_refl (length w.things))

-- ---- what it asks of the values that the running code holds

any_behind : {X : Type 0} (test : X → Bool) (xs ys zs : List X) → list_any test ys ≡ list_any test zs
    → list_any test (xs ++ ys) ≡ list_any test (xs ++ zs)
any_behind test [] ys zs e = e
any_behind test (x ∷ xs) ys zs e = ap (λ b. test x || b) (any_behind test xs ys zs e)

held_alike : (w : World) (one other : List Datum) → ((s : ℕ) → among s one ≡ among s other) → (s : ℕ) → is_held w one s
    ≡ is_held w other s
held_alike w one other e s = any_behind (holds s) (places w) one other (e s)

abbrev round_by : World → (ℕ → Bool) → World
round_by w test = record w {
  things = filter (λ x. test x.0) w.things;
  events = w.events ++ flat_map freed_of (filter (λ x. not (test x.0)) w.things);
}

round_alike : (w : World) (one other : List Datum) → ((s : ℕ) → among s one ≡ among s other) → round w one
    ≡ round w other
round_alike w one other e = ap (round_by w) (fun_ext (held_alike w one other e))

rounds_alike : (n : ℕ) (w : World) (one other : List Datum) → ((s : ℕ) → among s one ≡ among s other) → rounds n w one
    ≡ rounds n w other
unfolding rounds
rounds_alike zero w one other e = refl
rounds_alike (suc n) w one other e =
    ap (λ v. rounds n v one) (round_alike w one other e) ∙ rounds_alike n (round w other) one other e

pub asks_among : AsksAmong
asks_among w one other e = rounds_alike (length w.things) w one other e

or_right : (a b c : Bool) → (b ≡ true → c ≡ true) → (a || b) ≡ true → (a || c) ≡ true
or_right true b c h e = refl
or_right false b c h e = h e

any_more : {X : Type 0} (test : X → Bool) (xs ys zs : List X) → (list_any test ys ≡ true → list_any test zs ≡ true)
    → list_any test (xs ++ ys) ≡ true → list_any test (xs ++ zs) ≡ true
any_more test [] ys zs h e = h e
any_more test (x ∷ xs) ys zs h e =
    or_right (test x) (list_any test (xs ++ ys)) (list_any test (xs ++ zs)) (any_more test xs ys zs h) e

pub more_held : MoreHeld
more_held w one other h a = each w.things a
  where
    each : (xs : List (ℕ × Thing)) → AllHeldOf w one xs → AllHeldOf w other xs
    each [] a = tt
    each (x ∷ xs) a = (any_more (holds x.0) (places w) one other (h x.0) a.0, each xs a.1)
