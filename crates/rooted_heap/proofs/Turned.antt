-- What a change of an array brings and leaves.
use Rattle.std.proofs.Common.{◌≡◌, ℕ, ◌+◌, ◌^◌, ◌<◌, ◌≤◌, List, [], ◌∷◌, length, reverse, insert, remove, get_or, slice_get, Option, refl, sym, ap, ◌∙◌, subst, arith}
use Rattle.std.specs.Prelude.{sum_by}
use Rattle.std.specs.List.{All}
use Rattle.std.specs.List.Sorted.{IsPermutation}
use Rattle.std.specs.Option.{option_to_list}
use Rattle.std.proofs.lemmas.List.{get_or_default}
use Rattle.std.proofs.lemmas.List.Elements.{All-nil, All-cons, All-head, All-tail, All-append, All-push, All-take, All-drop, All-get_or}
use Rattle.std.proofs.lemmas.List.Sorted.{IsPermutation-insert, IsPermutation-remove, IsPermutation-reverse, All-permutation, sum_by-IsPermutation}
use Rattle.std.proofs.lemmas.List.Sums.{sum_by-cons, sum_by-append, sum_by_push, sum_by-insert, sum_by-remove, sum_by-take-drop}
use Rattle.std.proofs.lemmas.Option.{slice_get-get_or, unwrap_or-slice_get}
use Rattle.gd_model.specs.declared.value.Value.{Value}
use Rattle.gd_model.specs.declared.value.Value.TheVariants as v
use Rattle.gd_holding.specs.Holding.{filled}
use Rattle.container_methods.specs.Arrays.{HasPlace, items_after, answer, gone}
use Rattle.container_methods.specs.declared.array_change.ArrayChange.{ArrayChange}
use Rattle.container_methods.specs.declared.array_change.ArrayChange.TheVariants.{Push, Insert, Remove, Take, Keep, Clear, Reverse, Extend, Replace, Cut}
use Rattle.counted_heap.specs.declared.thing.Thing.{Thing}
use Rattle.counted_heap.specs.declared.thing.Thing.TheVariants.{Object, Array, Dict}
use Rattle.counted_heap.specs.Thing.{thing_places}
use Rattle.rooted_heap.specs.Rooted.{contents}
use Rattle.rooted_heap.specs.Changing.{brought, Fits, with_change}
use Rattle.rooted_heap.proofs.Changed.{Turns}
use Rattle.rooted_heap.proofs.Counting.{holds, length-handles}
use Rattle.rooted_heap.proofs.There.{filled-contents}
use Rattle.rooted_heap.proofs.Written.{SameKind}

one_sum : (f : Value → ℕ) (x : Value) → sum_by f (x ∷ []) ≡ f x
one_sum f x = omega (arith, sum_by-cons f x [])

-- the answer of a change that gives none
none_sum : (s : ℕ) → sum_by (holds s) (v.Nil ∷ []) ≡ 0
none_sum s = omega (arith, one_sum (holds s) v.Nil)

gone_sum : (f : Value → ℕ) (xs : List Value) (i : ℕ) → i < length xs → sum_by f (option_to_list (slice_get xs i)) ≡ f (get_or xs i v.Nil)
gone_sum f xs i lt = ap (λ (o : Option Value). sum_by f (option_to_list o)) (slice_get-get_or xs i v.Nil lt) ∙ one_sum f (get_or xs i v.Nil)

array_sums : (s : ℕ) (change : ArrayChange) (xs : List Value) → HasPlace change (length xs) → sum_by (holds s) (items_after change xs) + (sum_by (holds s) (gone change xs) + sum_by (holds s) (answer change xs ∷ [])) ≡ sum_by (holds s) xs + sum_by (holds s) (brought change)
array_sums s (Push x) xs place = omega (arith, sum_by_push (holds s) xs x, none_sum s, one_sum (holds s) x)
array_sums s (Insert i x) xs place = omega (arith, sum_by-insert (holds s) xs i x, none_sum s, one_sum (holds s) x)
array_sums s (Remove i) xs place = omega (arith, sum_by-remove (holds s) xs i v.Nil place, gone_sum (holds s) xs i place, none_sum s)
array_sums s (Take i) xs place =
    let answered = ap (λ (x : Value). sum_by (holds s) (x ∷ [])) (unwrap_or-slice_get xs i v.Nil) in
    omega (arith, sum_by-remove (holds s) xs i v.Nil place, answered, one_sum (holds s) (get_or xs i v.Nil))
array_sums s Keep xs place = omega (arith, none_sum s)
array_sums s Clear xs place = omega (arith, none_sum s)
array_sums s Reverse xs place = omega (arith, none_sum s, sum_by-IsPermutation (holds s) xs (reverse xs) (IsPermutation-reverse xs))
array_sums s (Extend more) xs place = omega (arith, none_sum s, sum_by-append (holds s) xs more.items)
array_sums s (Replace new) xs place = omega (arith, none_sum s)
array_sums s (Cut i) xs place = omega (arith, none_sum s, sum_by-take-drop (holds s) xs i)

parted : (xs : List Value) (i : ℕ) → i < length xs → IsPermutation xs (get_or xs i v.Nil ∷ remove xs i)
parted xs i lt = IsPermutation-remove xs i (get_or xs i v.Nil) lt (get_or_default xs i v.Nil (get_or xs i v.Nil) lt)

array_inside : (P : Value → Type 0) (change : ArrayChange) (xs : List Value) → HasPlace change (length xs) → All P xs → All P (brought change) → All P (items_after change xs)
array_inside P (Push x) xs place all new = All-push P xs x all (All-head P x [] new)
array_inside P (Insert i x) xs place all new = All-permutation P (x ∷ xs) (insert xs i x) (IsPermutation-insert xs i x) (All-cons P x xs (All-head P x [] new) all)
array_inside P (Remove i) xs place all new = All-tail P (get_or xs i v.Nil) (remove xs i) (All-permutation P xs (get_or xs i v.Nil ∷ remove xs i) (parted xs i place) all)
array_inside P (Take i) xs place all new = All-tail P (get_or xs i v.Nil) (remove xs i) (All-permutation P xs (get_or xs i v.Nil ∷ remove xs i) (parted xs i place) all)
array_inside P Keep xs place all new = all
array_inside P Clear xs place all new = All-nil P
array_inside P Reverse xs place all new = All-permutation P xs (reverse xs) (IsPermutation-reverse xs) all
array_inside P (Extend more) xs place all new = All-append P xs more.items all new
array_inside P (Replace items) xs place all new = new
array_inside P (Cut i) xs place all new = All-take P i xs all

one_gone : (P : Value → Type 0) (xs : List Value) (i : ℕ) → i < length xs → All P xs → All P (option_to_list (slice_get xs i))
one_gone P xs i lt all =
    subst (λ (o : Option Value). All P (option_to_list o)) (sym (slice_get-get_or xs i v.Nil lt))
    (All-cons P (get_or xs i v.Nil) [] (All-get_or P xs i v.Nil lt all) (All-nil P))

array_outside : (P : Value → Type 0) (change : ArrayChange) (xs : List Value) → HasPlace change (length xs) → All P xs → All P (gone change xs)
array_outside P (Push x) xs place all = All-nil P
array_outside P (Insert i x) xs place all = All-nil P
array_outside P (Remove i) xs place all = one_gone P xs i place all
array_outside P (Take i) xs place all = All-nil P
array_outside P Keep xs place all = All-nil P
array_outside P Clear xs place all = all
array_outside P Reverse xs place all = All-nil P
array_outside P (Extend more) xs place all = All-nil P
array_outside P (Replace items) xs place all = all
array_outside P (Cut i) xs place all = All-drop P i xs all

array_answer : (P : Value → Type 0) (change : ArrayChange) (xs : List Value) → HasPlace change (length xs) → P v.Nil → All P xs → P (answer change xs)
array_answer P (Push x) xs place nil all = nil
array_answer P (Insert i x) xs place nil all = nil
array_answer P (Remove i) xs place nil all = nil
array_answer P (Take i) xs place nil all = subst P (sym (unwrap_or-slice_get xs i v.Nil)) (All-get_or P xs i v.Nil place all)
array_answer P Keep xs place nil all = nil
array_answer P Clear xs place nil all = nil
array_answer P Reverse xs place nil all = nil
array_answer P (Extend more) xs place nil all = nil
array_answer P (Replace items) xs place nil all = nil
array_answer P (Cut i) xs place nil all = nil

few_contents : (t : Thing) → length (contents t) ≤ 16777216 → length (filled (thing_places t)) ≤ 2 ^ 66
few_contents t few = omega (arith, ap length (filled-contents t), length-handles (contents t), few)

pub array_turns : (P : Value → Type 0) (change : ArrayChange) (was now : Thing) → P v.Nil → Fits change was → now ≡ with_change change was → length (contents now) ≤ 16777216 → Turns P was now (brought change) (gone change (contents was)) (answer change (contents was) ∷ [])
array_turns P change (Object class values) now nil fits is few = absurd fits
array_turns P change (Dict d) now nil fits is few = absurd fits
array_turns P change (Array a) now nil fits is few = record {
  kind = subst (λ (t : Thing). SameKind (Array a) t) (sym is) (record { class = refl; array = refl; dict = refl });
  sums = λ s. omega (arith, ap (λ (t : Thing). sum_by (holds s) (contents t)) is, array_sums s change a.items fits.1);
  inside = λ all new. subst (λ (t : Thing). All P (contents t)) (sym is) (array_inside P change a.items fits.1 all new);
  outside = λ all new. array_outside P change a.items fits.1 all;
  left = λ all new. All-cons P (answer change a.items) [] (array_answer P change a.items fits.1 nil all) (All-nil P);
  small = few_contents now few;
}

-- so few values are brought
place_few : (change : ArrayChange) (n : ℕ) → HasPlace change n → length (brought change) < 2 ^ 65
place_few (Push x) n place = omega arith
place_few (Insert i x) n place = omega arith
place_few (Remove i) n place = omega arith
place_few (Take i) n place = omega arith
place_few Keep n place = omega arith
place_few Clear n place = omega arith
place_few Reverse n place = omega arith
place_few (Extend more) n place = omega (arith, place)
place_few (Replace items) n place = omega (arith, place)
place_few (Cut i) n place = omega arith

pub brought_few : (change : ArrayChange) (t : Thing) → Fits change t → length (brought change) < 2 ^ 65
brought_few change (Object class values) fits = absurd fits
brought_few change (Array a) fits = place_few change (length a.items) fits.1
brought_few change (Dict d) fits = absurd fits
