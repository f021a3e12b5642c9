-- Arrays that are put together, within the limit and past it.
use Rattle.std.proofs.Common.{◌≡◌, ◌+◌, ◌<◌, ◌≤◌, Bool, true, false, nat_le, List, [], ◌++◌, length, map, Ok, Err, if◌then◌else◌, refl, ap, sym, ◌∙◌, arith}
use Rattle.std.proofs.lemmas.Bool.Decides.{nat_tests}
use Rattle.std.proofs.lemmas.List.{length-map, map-append, length-append}
use Rattle.gd_model.specs.declared.fault.RunFault.TheVariants.{TooLong}
use Rattle.gd_model.specs.declared.ty.Ty.{Ty}
use Rattle.gd_model.specs.declared.ty.Ty.TheVariants.{Variant}
use Rattle.gd_model.specs.declared.value.Value.{Value}
use Rattle.gd_model.specs.Meant.{datum, array_thing}
use Rattle.gd_model.specs.SameType.{same_type, same_type-Decides}
use Rattle.gd_model.specs.Store.{ArrayThing}
use Rattle.gd_model.specs.View.{ArrayView}
use Rattle.value_semantics.specs.Made.{array, array_made}
use Rattle.value_semantics.specs.Operators.{joined, joined_type}

pub one_type : (t u : Ty) → t ≡ u → joined_type t u ≡ t
one_type t u e = ap (λ b. if b then t else Variant) ((same_type-Decides t u).1 e)

other_type : (b : Bool) (t : Ty) → ¬ (b ≡ true) → (if b then t else Variant) ≡ Variant
other_type true t apart = absurd (apart refl)
other_type false t apart = refl

pub two_types : (t u : Ty) → ¬ (t ≡ u) → joined_type t u ≡ Variant
two_types t u apart = other_type (same_type t u) t (λ e. apart ((same_type-Decides t u).0 e))

-- what is in an array of the joined type once the elements of both are pushed
pub all_pushed : (x y made once all : ArrayView) (t u e : Ty) (xs ys : List Value) → t ≡ x.element → u ≡ y.element → e ≡ joined_type t u → made ≡ record { element = e; fixed = false; items = [] } → xs ≡ x.items → ys ≡ y.items → once ≡ record made { items = made.items ++ xs } → all ≡ record once { items = once.items ++ ys } → all ≡ record { element = joined_type x.element y.element; fixed = false; items = x.items ++ y.items }
all_pushed x y made once all t u e xs ys et eu ee em exs eys eo ea =
    ea
    ∙ (λ j. record (eo j) { items = (eo j).items ++ ys })
    ∙ (λ j. record (em j) { items = ((em j).items ++ xs) ++ ys })
    ∙ ap (λ (z : Ty). record { element = z; fixed = false; items = xs ++ ys }) (ee ∙ (λ j. joined_type (et j) (eu j)))
    ∙ (λ j. record { element = joined_type x.element y.element; fixed = false; items = exs j ++ eys j })

both_lengths : (x y : ArrayView) (a b : ArrayThing) → a ≡ array_thing x → b ≡ array_thing y → length (joined a b).items ≡ length x.items + length y.items
both_lengths x y a b ea eb =
    (λ j. length ((ea j).items ++ (eb j).items)) ∙ length-append (map datum x.items) (map datum y.items)
    ∙ (λ j. length-map x.items datum j + length-map y.items datum j)

pub joined_past : (x y : ArrayView) (a b : ArrayThing) → a ≡ array_thing x → b ≡ array_thing y → 16777216 < length x.items + length y.items → array_made (joined a b) ≡ Err TooLong
joined_past x y a b ea eb h =
    let n : length (joined a b).items ≡ length x.items + length y.items = both_lengths x y a b ea eb in
    let over : nat_le (length (joined a b).items) 16777216 ≡ false = grind (arith, nat_tests) in
    ap (λ w. if w then Ok (array (joined a b)) else Err TooLong) over

pub joined_within : (x y all : ArrayView) (a b : ArrayThing) → a ≡ array_thing x → b ≡ array_thing y → length x.items + length y.items ≤ 16777216 → all ≡ record { element = joined_type x.element y.element; fixed = false; items = x.items ++ y.items } → array_made (joined a b) ≡ Ok (array (array_thing all))
joined_within x y all a b ea eb h e =
    let n : length (joined a b).items ≡ length x.items + length y.items = both_lengths x y a b ea eb in
    let fits : nat_le (length (joined a b).items) 16777216 ≡ true = grind (arith, nat_tests) in
    let both : joined (array_thing x) (array_thing y) ≡ record { element = joined_type x.element y.element; fixed = false; items = map datum (x.items ++ y.items) } =
    ap (λ items. record { element = joined_type x.element y.element; fixed = false; items = items }) (sym (map-append datum x.items y.items)) in
    ap (λ w. if w then Ok (array (joined a b)) else Err TooLong) fits ∙ (λ j. Ok (array (joined (ea j) (eb j)))) ∙ ap (λ t. Ok (array t)) both ∙ ap (λ t. Ok (array (array_thing t))) (sym e)
