-- How the pairs of a dictionary are gone through place by place.
use Rattle.std.proofs.Common.{◌≡◌, ℕ, zero, suc, ◌+◌, Bool, true, false, List, [], ◌∷◌, ◌++◌, length, map, take, drop, get_or, slice_get, Option, Some, Result, Ok, Err, refl, ap, sym, subst, ◌∙◌, add-one, if◌then◌else◌, arith}
use Rattle.std.specs.List.{AllByRecursion, IsDistinct}
use Rattle.std.specs.Map.{keys_of}
use Rattle.std.proofs.Math.Seq.{drop-cons, take-suc}
use Rattle.std.proofs.lemmas.List.{map-append, take_all}
use Rattle.std.proofs.lemmas.Option.{get_or_from_slice_get, slice_get_within}
use Rattle.gd_model.specs.declared.fault.RunFault.{RunFault}
use Rattle.gd_model.specs.declared.key.Key.{Key}
use Rattle.gd_model.specs.declared.key.Key.TheVariants as k
use Rattle.gd_model.specs.declared.ty.Ty.TheVariants.{Variant}
use Rattle.gd_model.specs.declared.value.Value.{Value}
use Rattle.gd_model.specs.Datum.{Datum}
use Rattle.gd_model.specs.Key.{one_key, one_key-equiv}
use Rattle.gd_model.specs.KeyDatum.{key_datum}
use Rattle.gd_model.specs.Meant.{datum, pair_datum, array_thing, dict_thing}
use Rattle.gd_model.specs.View.{ArrayView, DictView, with_pair}
use Rattle.gd_model.specs.Whole.{key_value}
use Rattle.gd_containers.specs.Keys.{DistinctKeys}
use Rattle.value_semantics.specs.Answer.{and_then}
use Rattle.value_semantics.specs.Made.{Made, array, dict}
use Rattle.gd_model.specs.Store.{ArrayThing, DictThing}
use Rattle.value_semantics.specs.Methods.{keys_array, values_array, dict_copy, first_key}

-- the keys, and the values, as arrays of the code
abbrev pub keys_view : List (Key × Value) → ArrayView
keys_view ps = record { element = Variant; fixed = false; items = map (λ p. key_value p.0) ps }

abbrev pub values_view : List (Key × Value) → ArrayView
values_view ps = record { element = Variant; fixed = false; items = map (λ p. p.1) ps }

-- the value that a key is means what the key means
pub key_value-meant : (key : Key) → datum (key_value key) ≡ key_datum key
key_value-meant k.Nil = refl
key_value-meant (k.Bool b) = refl
key_value-meant (k.Int n) = refl
key_value-meant (k.Str t) = refl
key_value-meant (k.Object h) = refl

keys_meant : (ps : List (Key × Value)) → map (λ p. p.0) (map pair_datum ps) ≡ map datum (map (λ (p : Key × Value). key_value p.0) ps)
keys_meant [] = refl
keys_meant (p ∷ ps) = λ i. sym (key_value-meant p.0) i ∷ keys_meant ps i

values_meant : (ps : List (Key × Value)) → map (λ p. p.1) (map pair_datum ps) ≡ map datum (map (λ (p : Key × Value). p.1) ps)
values_meant [] = refl
values_meant (p ∷ ps) = λ i. datum p.1 ∷ values_meant ps i

-- the pairs up to and with that at place i
more_pairs : (ps : List (Key × Value)) (i : ℕ) (p : Key × Value) → slice_get ps i ≡ Some p → take (i + 1) ps ≡ take i ps ++ p ∷ []
more_pairs ps i p e =
    ap (λ n. take n ps) (add-one i) ∙ take-suc ps i p (slice_get_within ps i p e) ∙ ap (λ q. take i ps ++ q ∷ []) (get_or_from_slice_get ps i p p e)

pub keys_more : (ps : List (Key × Value)) (i : ℕ) (k : Key) (v w : Value) (a b : ArrayView) → Some (k, v) ≡ slice_get ps i → a ≡ keys_view (take i ps) → w ≡ key_value k → b ≡ record a { items = a.items ++ w ∷ [] } → b ≡ keys_view (take (i + 1) ps)
keys_more ps i k v w a b e ea ew eb =
    let items : map (λ (p : Key × Value). key_value p.0) (take i ps) ++ key_value k ∷ [] ≡ map (λ p. key_value p.0) (take (i + 1) ps) = sym (ap (λ qs. map (λ (p : Key × Value). key_value p.0) qs) (more_pairs ps i (k, v) (sym e)) ∙ map-append (λ (p : Key × Value). key_value p.0) (take i ps) ((k, v) ∷ [])) in
    eb ∙ (λ j. record (ea j) { items = (ea j).items ++ (ew j) ∷ [] }) ∙ ap (λ xs. record (keys_view (take i ps)) { items = xs }) items

pub values_more : (ps : List (Key × Value)) (i : ℕ) (k : Key) (v w : Value) (a b : ArrayView) → Some (k, v) ≡ slice_get ps i → a ≡ values_view (take i ps) → w ≡ v → b ≡ record a { items = a.items ++ w ∷ [] } → b ≡ values_view (take (i + 1) ps)
values_more ps i k v w a b e ea ew eb =
    let items : map (λ (p : Key × Value). p.1) (take i ps) ++ v ∷ [] ≡ map (λ p. p.1) (take (i + 1) ps) = sym (ap (λ qs. map (λ (p : Key × Value). p.1) qs) (more_pairs ps i (k, v) (sym e)) ∙ map-append (λ (p : Key × Value). p.1) (take i ps) ((k, v) ∷ [])) in
    eb ∙ (λ j. record (ea j) { items = (ea j).items ++ (ew j) ∷ [] }) ∙ ap (λ xs. record (values_view (take i ps)) { items = xs }) items

-- what a call is to give that makes an array, or a dictionary
abbrev array_wanted : ArrayThing → Result Made RunFault
array_wanted a = Ok (array a)

abbrev dict_wanted : DictThing → Result Made RunFault
dict_wanted d = Ok (dict d)

-- the array of all keys is what is meant, and so is that of all values
pub keys_given : (ps : List (Key × Value)) (a : ArrayView) → a ≡ keys_view ps → array_wanted (keys_array (map pair_datum ps)) ≡ array_wanted (array_thing a)
keys_given ps a e = (λ i. array_wanted (record { element = Variant; fixed = false; items = keys_meant ps i })) ∙ ap (λ b. array_wanted (array_thing b)) (sym e)

pub values_given : (ps : List (Key × Value)) (a : ArrayView) → a ≡ values_view ps → array_wanted (values_array (map pair_datum ps)) ≡ array_wanted (array_thing a)
values_given ps a e = (λ i. array_wanted (record { element = Variant; fixed = false; items = values_meant ps i })) ∙ ap (λ b. array_wanted (array_thing b)) (sym e)

-- the search from place i on
pub key_at : (test : Datum → Result Bool RunFault) (ps : List (Key × Value)) (i : ℕ) (k : Key) (v : Value) → Some (k, v) ≡ slice_get ps i → first_key test (map pair_datum (drop i ps)) ≡ and_then (test (datum v)) (λ yes. if yes then Ok (key_datum k) else first_key test (map pair_datum (drop (i + 1) ps)))
key_at test ps i k v e =
    let at : get_or ps i (k, v) ≡ (k, v) = get_or_from_slice_get ps i (k, v) (k, v) (sym e) in
    let cut : drop i ps ≡ (k, v) ∷ drop (i + 1) ps = drop-cons ps i (k, v) (slice_get_within ps i (k, v) (sym e)) ∙ (λ j. at j ∷ drop (sym (add-one i) j) ps) in
    ap (λ qs. first_key test (map pair_datum qs)) cut

one_of : (P : Key → Type 0) (ps : List (Key × Value)) (i : ℕ) (p : Key × Value) → slice_get ps i ≡ Some p → AllByRecursion P (keys_of ps) → P p.0
one_of P [] i p e h = cc
one_of P (q ∷ qs) zero p e h = let same : q ≡ p = cc in subst (λ (r : Key × Value). P r.0) same h.0
one_of P (q ∷ qs) (suc i) p e h = one_of P qs i p e h.1

put_behind : (ps : List (Key × Value)) (i : ℕ) (p : Key × Value) → DistinctKeys ps → slice_get ps i ≡ Some p → with_pair (take i ps) p.0 p.1 ≡ take (suc i) ps
unfolding IsDistinct
put_behind [] i p h e = cc
put_behind (q ∷ qs) zero p h e = let same : p ≡ q = cc in ap (λ (r : Key × Value). r ∷ []) same
put_behind (q ∷ qs) (suc i) p h e =
    let apart : one_key p.0 q.0 ≡ false = one_key-equiv.symm p.0 q.0 ∙ one_of (λ y. one_key q.0 y ≡ false) qs i p e h.0 in
    ap (λ b. if b then (q.0, p.1) ∷ take i qs else q ∷ with_pair (take i qs) p.0 p.1) apart ∙ ap (λ rs. q ∷ rs) (put_behind qs i p h.1 e)

-- the copy of a dictionary once one more pair is put
pub copy_more : (d all new : DictView) (i : ℕ) (k kk : Key) (v vv : Value) → DistinctKeys d.pairs → Some (k, v) ≡ slice_get d.pairs i → all ≡ record d { fixed = false; pairs = take i d.pairs } → kk ≡ k → vv ≡ v → new ≡ record all { pairs = with_pair all.pairs kk vv } → new ≡ record d { fixed = false; pairs = take (i + 1) d.pairs }
copy_more d all new i k kk v vv h e ea ek ev en =
    en ∙ (λ j. record (ea j) { pairs = with_pair (ea j).pairs (ek j) (ev j) })
    ∙ ap (λ ps. record d { fixed = false; pairs = ps }) (put_behind d.pairs i (k, v) h (sym e) ∙ ap (λ n. take n d.pairs) (sym (add-one i)))

pub copy_given : (d all : DictView) → all ≡ record d { fixed = false; pairs = d.pairs } → dict_wanted (dict_copy (dict_thing d)) ≡ dict_wanted (dict_thing all)
copy_given d all e = ap (λ m. dict_wanted (dict_thing m)) (sym e)
