-- Merging a dictionary into another.
use Rattle.std.proofs.Common.{◌≡◌, ℕ, suc, ◌+◌, ◌<◌, ◌≤◌, Bool, true, false, not, cond, ◌&&◌, ◌||◌, List, [], ◌∷◌, ◌++◌, length, map, drop, filter, get_or, slice_get, nat_lt, Option, None, Some, option_map, is_none, Ok, Err, refl, ap, sym, ◌∙◌, add-one, if◌then◌else◌, arith}
use Rattle.std.specs.List.{list_all, IsDistinct, AllByRecursion}
use Rattle.std.specs.Map.{keys_of}
use Rattle.std.proofs.Math.Seq.{drop-cons}
use Rattle.std.proofs.lemmas.Bool.{le-ltb, lt-leb, lt-ltb}
use Rattle.std.proofs.lemmas.List.{append-nil, length-map, drop_all}
use Rattle.std.proofs.lemmas.Option.{get_or_from_slice_get, slice_get_within}
use Rattle.gd_model.specs.declared.fault.RunFault.{RunFault}
use Rattle.gd_model.specs.declared.fault.RunFault.TheVariants.{ReadOnly, TooLong, ValueOfAnotherType}
use Rattle.gd_model.specs.declared.key.Key.{Key}
use Rattle.gd_model.specs.declared.value.Value.{Value}
use Rattle.gd_model.specs.declared.value.Value.TheVariants.{Nil}
use Rattle.gd_model.specs.Datum.{Datum}
use Rattle.gd_model.specs.Key.{one_key, one_key-equiv}
use Rattle.gd_model.specs.KeyDatum.{key_datum}
use Rattle.gd_model.specs.Meant.{datum, pair_datum, dict_thing}
use Rattle.gd_model.specs.Store as store
use Rattle.gd_model.specs.Store.{DictThing}
use Rattle.gd_model.specs.View.{DictView, value_at, with_pair}
use Rattle.gd_model.specs.Refusal.{refusal}
use Rattle.gd_containers.specs.declared.fault.ThingFault.{ThingFault}
use Rattle.gd_containers.specs.declared.fault.ThingFault.TheVariants.{Run, NoMemory}
use Rattle.gd_containers.specs.Answers.{RefusedBy, is_full, put_fault}
use Rattle.gd_containers.specs.Keys.{DistinctKeys}
use Rattle.gd_containers.proofs.Meanings.{value_at-meant}
use Rattle.store_semantics.specs.Subscripts.{unless}
use Rattle.store_semantics.specs.Writes.{Written, silent, merge, merging}
use Rattle.store_semantics.specs.Writes as spec
use Rattle.container_methods.specs.declared.dict_change.DictChange.{DictChange}
use Rattle.container_methods.specs.Dicts.{answer, both_fit, fresh_count, made, pairs_after, put_all, written}
use Rattle.container_methods.proofs.Pairs.{with_pair-meant}

-- the pairs from place i on
pub pairs_from : (ps : List (Key × Value)) (i : ℕ) (k : Key) (v : Value) → Some (k, v) ≡ slice_get ps i → drop i ps ≡ (k, v) ∷ drop (i + 1) ps
pairs_from ps i k v e =
    let at : get_or ps i (k, v) ≡ (k, v) = get_or_from_slice_get ps i (k, v) (k, v) (sym e) in
    drop-cons ps i (k, v) (slice_get_within ps i (k, v) (sym e)) ∙ (λ j. at j ∷ drop (sym (add-one i) j) ps)

twice : (b : Bool) → not (not b) ≡ b
twice true = refl
twice false = refl

module _ (over : Bool) (ps : List (Key × Value)) where
  abbrev put : Key × Value → Bool
  put p = over || is_none (value_at ps p.0)

  -- whether all pairs fit that are put
  module _ (fit : Key × Value → Bool) where
    fit_by : (b : Bool) (p : Key × Value) (others : List (Key × Value)) → list_all fit (cond b (p ∷ others) others) ≡ (not (b && not (fit p)) && list_all fit others)
    fit_by true p others = ap (λ c. c && list_all fit others) (sym (twice (fit p)))
    fit_by false p others = refl

    fit_at : (others : List (Key × Value)) (i : ℕ) (k : Key) (v : Value) → Some (k, v) ≡ slice_get others i → list_all fit (written over ps (drop i others)) ≡ (not (put (k, v) && not (fit (k, v))) && list_all fit (written over ps (drop (i + 1) others)))
    fit_at others i k v e =
        ap (λ qs. list_all fit (written over ps qs)) (pairs_from others i k v e) ∙ fit_by (put (k, v)) (k, v) (written over ps (drop (i + 1) others))

    pub fit_on : (others : List (Key × Value)) (i : ℕ) (k : Key) (v : Value) → Some (k, v) ≡ slice_get others i → (put (k, v) && not (fit (k, v))) ≡ false → list_all fit (written over ps (drop (i + 1) others)) ≡ list_all fit (written over ps (drop i others))
    fit_on others i k v e fits = sym (fit_at others i k v e ∙ ap (λ b. not b && list_all fit (written over ps (drop (i + 1) others))) fits)

    pub misfit_at : (others : List (Key × Value)) (i : ℕ) (k : Key) (v : Value) → Some (k, v) ≡ slice_get others i → (put (k, v) && not (fit (k, v))) ≡ true → list_all fit (written over ps (drop i others)) ≡ false
    misfit_at others i k v e misfits = fit_at others i k v e ∙ ap (λ b. not b && list_all fit (written over ps (drop (i + 1) others))) misfits

    pub fit_end : (others : List (Key × Value)) (i : ℕ) → length others ≤ i → list_all fit (written over ps (drop i others)) ≡ true
    fit_end others i h = ap (λ qs. list_all fit (written over ps qs)) (drop_all i others h)

  -- the pairs that are put
  chosen : (b : Bool) (p : Key × Value) (done others : List (Key × Value)) → (done ++ (if b then p ∷ [] else [])) ++ others ≡ done ++ cond b (p ∷ others) others
  chosen true p [] others = refl
  chosen false p [] others = refl
  chosen b p (q ∷ done) others = ap (λ qs. q ∷ qs) (chosen b p done others)

  pub chosen_on : (done new others : List (Key × Value)) (i : ℕ) (k : Key) (v : Value) (b : Bool) → Some (k, v) ≡ slice_get others i → b ≡ put (k, v) → new ≡ done ++ (if b then (k, v) ∷ [] else []) → new ++ written over ps (drop (i + 1) others) ≡ done ++ written over ps (drop i others)
  chosen_on done new others i k v b e is n =
      ap (λ qs. qs ++ written over ps (drop (i + 1) others)) n ∙ chosen b (k, v) done (written over ps (drop (i + 1) others))
      ∙ ap (λ c. done ++ cond c ((k, v) ∷ written over ps (drop (i + 1) others)) (written over ps (drop (i + 1) others))) is
      ∙ ap (λ qs. done ++ written over ps qs) (sym (pairs_from others i k v e))

  pub chosen_end : (done others : List (Key × Value)) (i : ℕ) → length others ≤ i → done ++ written over ps (drop i others) ≡ done
  chosen_end done others i h = ap (λ qs. done ++ written over ps qs) (drop_all i others h) ∙ append-nil done

-- how many keys are new
pub fresh_at : (ps others : List (Key × Value)) (i : ℕ) (k : Key) (v : Value) → Some (k, v) ≡ slice_get others i → fresh_count ps (drop i others) ≡ cond (is_none (value_at ps k)) 1 0 + fresh_count ps (drop (i + 1) others)
fresh_at ps others i k v e = ap (fresh_count ps) (pairs_from others i k v e)

pub fresh_end : (ps others : List (Key × Value)) (i : ℕ) → length others ≤ i → fresh_count ps (drop i others) ≡ 0
fresh_end ps others i h = ap (fresh_count ps) (drop_all i others h)

-- how many pairs there are once others are put
length_by : (b : Bool) (p : Key × Value) (x : Value) (ps qs : List (Key × Value)) (there : Bool) → length qs ≡ length ps + cond there 1 0 → length (if b then (p.0, x) ∷ ps else p ∷ qs) ≡ suc (length ps) + cond (cond b false there) 1 0
length_by true p x ps qs there e = omega arith
length_by false p x ps qs there e = omega arith

none_by : (b : Bool) (x : Value) (rest : Option Value) → is_none (cond b (Some x) rest) ≡ cond b false (is_none rest)
none_by true x rest = refl
none_by false x rest = refl

length-with_pair : (ps : List (Key × Value)) (k : Key) (x : Value) → length (with_pair ps k x) ≡ length ps + cond (is_none (value_at ps k)) 1 0
length-with_pair [] k x = refl
length-with_pair (p ∷ ps) k x =
    length_by (one_key k p.0) p x ps (with_pair ps k x) (is_none (value_at ps k)) (length-with_pair ps k x)
    ∙ ap (λ b. suc (length ps) + cond b 1 0) (sym (none_by (one_key k p.0) p.1 (value_at ps k)))

-- another key is there where it was
same_by : (b c : Bool) (p : Key × Value) (x : Value) (l : Key) (ps qs : List (Key × Value)) → one_key l p.0 ≡ c → is_none (value_at qs l) ≡ is_none (value_at ps l) → is_none (value_at (if b then (p.0, x) ∷ ps else p ∷ qs) l) ≡ cond c false (is_none (value_at ps l))
same_by true c p x l ps qs e h = none_by (one_key l p.0) x (value_at ps l) ∙ ap (λ d. cond d false (is_none (value_at ps l))) e
same_by false c p x l ps qs e h = none_by (one_key l p.0) p.1 (value_at qs l) ∙ (λ j. cond (e j) false (h j))

other_key : (ps : List (Key × Value)) (k l : Key) (x : Value) → one_key k l ≡ false → is_none (value_at (with_pair ps k x) l) ≡ is_none (value_at ps l)
other_key [] k l x apart = ap (λ b. is_none (cond b (Some x) None)) (one_key-equiv.symm l k ∙ apart)
other_key (p ∷ ps) k l x apart =
    same_by (one_key k p.0) (one_key l p.0) p x l ps (with_pair ps k x) refl (other_key ps k l x apart)
    ∙ sym (none_by (one_key l p.0) p.1 (value_at ps l))

still_fresh : (ps : List (Key × Value)) (k : Key) (x : Value) (new : List (Key × Value)) → AllByRecursion (λ l. one_key k l ≡ false) (keys_of new) → fresh_count (with_pair ps k x) new ≡ fresh_count ps new
still_fresh ps k x [] h = refl
still_fresh ps k x (q ∷ new) h = λ j. cond (other_key ps k q.0 x h.0 j) 1 0 + still_fresh ps k x new h.1 j

pub length-put_all : (ps new : List (Key × Value)) → DistinctKeys new → length (put_all ps new) ≡ length ps + fresh_count ps new
unfolding IsDistinct
length-put_all ps [] h = omega arith
length-put_all ps (q ∷ new) h =
    let rest : length (put_all (with_pair ps q.0 q.1) new) ≡ length (with_pair ps q.0 q.1) + fresh_count (with_pair ps q.0 q.1) new = length-put_all (with_pair ps q.0 q.1) new h.1 in
    let one = length-with_pair ps q.0 q.1 in
    let others = still_fresh ps q.0 q.1 new h.0 in
    omega arith

-- what is chosen has no key twice, and each new key of the others
all_by : (b : Bool) (P : Key → Type 0) (p : Key × Value) (qs : List (Key × Value)) → P p.0 → AllByRecursion P (keys_of qs) → AllByRecursion P (keys_of (cond b (p ∷ qs) qs))
all_by true P p qs h more = (h, more)
all_by false P p qs h more = more

all_chosen : (over : Bool) (ps : List (Key × Value)) (P : Key → Type 0) (others : List (Key × Value)) → AllByRecursion P (keys_of others) → AllByRecursion P (keys_of (written over ps others))
all_chosen over ps P [] h = tt
all_chosen over ps P (p ∷ others) h = all_by (over || is_none (value_at ps p.0)) P p (written over ps others) h.0 (all_chosen over ps P others h.1)

distinct_by : (b : Bool) (p : Key × Value) (qs : List (Key × Value)) → AllByRecursion (λ l. one_key p.0 l ≡ false) (keys_of qs) → DistinctKeys qs → DistinctKeys (cond b (p ∷ qs) qs)
unfolding IsDistinct
distinct_by true p qs h more = (h, more)
distinct_by false p qs h more = more

distinct_chosen : (over : Bool) (ps others : List (Key × Value)) → DistinctKeys others → DistinctKeys (written over ps others)
unfolding IsDistinct
distinct_chosen over ps [] h = h
distinct_chosen over ps (p ∷ others) h =
    distinct_by (over || is_none (value_at ps p.0)) p (written over ps others) (all_chosen over ps (λ l. one_key p.0 l ≡ false) others h.0) (distinct_chosen over ps others h.1)

count_chosen : (over new : Bool) (ps : List (Key × Value)) (p : Key × Value) (qs : List (Key × Value)) → is_none (value_at ps p.0) ≡ new → fresh_count ps (cond (over || new) (p ∷ qs) qs) ≡ cond new 1 0 + fresh_count ps qs
count_chosen true new ps p qs e = ap (λ b. cond b 1 0 + fresh_count ps qs) e
count_chosen false true ps p qs e = ap (λ b. cond b 1 0 + fresh_count ps qs) e
count_chosen false false ps p qs e = omega arith

fresh_chosen : (over : Bool) (ps others : List (Key × Value)) → fresh_count ps (written over ps others) ≡ fresh_count ps others
fresh_chosen over ps [] = refl
fresh_chosen over ps (p ∷ others) =
    count_chosen over (is_none (value_at ps p.0)) ps p (written over ps others) refl ∙ ap (λ n. cond (is_none (value_at ps p.0)) 1 0 + n) (fresh_chosen over ps others)

pub size_merged : (over : Bool) (ps others : List (Key × Value)) → DistinctKeys others → length (put_all ps (written over ps others)) ≡ length ps + fresh_count ps others
size_merged over ps others h = length-put_all ps (written over ps others) (distinct_chosen over ps others h) ∙ ap (λ n. length ps + n) (fresh_chosen over ps others)

-- the same as the language means it
missing : (o : Option Value) → is_none (option_map datum o) ≡ is_none o
missing None = refl
missing (Some w) = refl

chosen_meant : (b c : Bool) (p : Key × Value) (qs : List (Key × Value)) (zs : List (Datum × Datum)) → b ≡ c → zs ≡ map pair_datum qs → cond b (pair_datum p ∷ zs) zs ≡ map pair_datum (cond c (p ∷ qs) qs)
chosen_meant true true p qs zs e h = ap (λ ws. pair_datum p ∷ ws) h
chosen_meant false false p qs zs e h = h
chosen_meant true false p qs zs e h = cc
chosen_meant false true p qs zs e h = cc

written_meant : (over : Bool) (ps others : List (Key × Value)) → filter (λ p. over || is_none (store.value_at (map pair_datum ps) p.0)) (map pair_datum others) ≡ map pair_datum (written over ps others)
written_meant over ps [] = refl
written_meant over ps (p ∷ others) =
    chosen_meant (over || is_none (store.value_at (map pair_datum ps) (key_datum p.0))) (over || is_none (value_at ps p.0)) p (written over ps others) _
    (ap (λ b. over || b) (ap is_none (value_at-meant ps p.0) ∙ missing (value_at ps p.0))) (written_meant over ps others)

put_all-meant : (ps new : List (Key × Value)) → spec.put_all (map pair_datum ps) (map pair_datum new) ≡ map pair_datum (put_all ps new)
put_all-meant ps [] = refl
put_all-meant ps (q ∷ new) = ap (λ qs. spec.put_all qs (map pair_datum new)) (with_pair-meant ps q.0 q.1) ∙ put_all-meant (with_pair ps q.0 q.1) new

module _ (key_fits value_fits : Datum → Bool) where
  fits_meant : (qs : List (Key × Value)) → list_all (λ p. key_fits p.0 && value_fits p.1) (map pair_datum qs) ≡ list_all (both_fit key_fits value_fits) qs
  fits_meant [] = refl
  fits_meant (q ∷ qs) = ap (λ b. both_fit key_fits value_fits q && b) (fits_meant qs)

  module _ (m other : DictView) (over : Bool) where
    abbrev new : List (Key × Value)
    new = written over m.pairs other.pairs

    abbrev put_if : Bool → ℕ → List (Datum × Datum) → Written DictThing
    put_if fit size pairs = silent (unless ((not fit, ValueOfAnotherType) ∷ (nat_lt 16777216 size, TooLong) ∷ []) (record (dict_thing m) { pairs = pairs }))

    abbrev merged_by : List (Datum × Datum) → Written DictThing
    merged_by ws = put_if (list_all (λ p. key_fits p.0 && value_fits p.1) ws) (length (spec.put_all (map pair_datum m.pairs) ws)) (spec.put_all (map pair_datum m.pairs) ws)

    merge_is : DistinctKeys other.pairs → merge key_fits value_fits (dict_thing m) (dict_thing other) over ≡ put_if (list_all (both_fit key_fits value_fits) new) (length m.pairs + fresh_count m.pairs other.pairs) (map pair_datum (put_all m.pairs new))
    merge_is h =
        let size : length (map pair_datum (put_all m.pairs new)) ≡ length m.pairs + fresh_count m.pairs other.pairs = length-map (put_all m.pairs new) pair_datum ∙ size_merged over m.pairs other.pairs h in
        ap merged_by (written_meant over m.pairs other.pairs)
        ∙ (λ i. put_if (fits_meant new i) (length (put_all-meant m.pairs new i)) (put_all-meant m.pairs new i))
        ∙ ap (λ n. put_if (list_all (both_fit key_fits value_fits) new) n (map pair_datum (put_all m.pairs new))) size

    pub merge_unfit : DistinctKeys other.pairs → list_all (both_fit key_fits value_fits) new ≡ false → merge key_fits value_fits (dict_thing m) (dict_thing other) over ≡ Err ValueOfAnotherType
    merge_unfit h e = merge_is h ∙ ap (λ b. put_if b (length m.pairs + fresh_count m.pairs other.pairs) (map pair_datum (put_all m.pairs new))) e

    pub merge_full : DistinctKeys other.pairs → list_all (both_fit key_fits value_fits) new ≡ true → 16777216 < length m.pairs + fresh_count m.pairs other.pairs → merge key_fits value_fits (dict_thing m) (dict_thing other) over ≡ Err TooLong
    merge_full h e full =
        merge_is h ∙ (λ i. put_if (e i) (length m.pairs + fresh_count m.pairs other.pairs) (map pair_datum (put_all m.pairs new)))
        ∙ ap (λ b. silent (unless ((false, ValueOfAnotherType) ∷ (b, TooLong) ∷ []) (record (dict_thing m) { pairs = map pair_datum (put_all m.pairs new) }))) (lt-ltb 16777216 (length m.pairs + fresh_count m.pairs other.pairs) full)

    pub merge_given : (change : DictChange) → DistinctKeys other.pairs → list_all (both_fit key_fits value_fits) new ≡ true → length m.pairs + fresh_count m.pairs other.pairs ≤ 16777216 → pairs_after change m.pairs ≡ put_all m.pairs new → answer change m.pairs ≡ Nil → merge key_fits value_fits (dict_thing m) (dict_thing other) over ≡ Ok (made m change)
    merge_given change h e room is quiet =
        merge_is h ∙ (λ i. put_if (e i) (length m.pairs + fresh_count m.pairs other.pairs) (map pair_datum (put_all m.pairs new)))
        ∙ ap (λ b. silent (unless ((false, ValueOfAnotherType) ∷ (b, TooLong) ∷ []) (record (dict_thing m) { pairs = map pair_datum (put_all m.pairs new) }))) (le-ltb 16777216 (length m.pairs + fresh_count m.pairs other.pairs) room)
        ∙ (λ i. Ok (record (dict_thing m) { pairs = map pair_datum (sym is i) }, datum (sym quiet i)))

-- putting takes no pair away
grows_one : (n : ℕ) (b : Bool) → n ≤ n + cond b 1 0
grows_one n true = omega arith
grows_one n false = omega arith

grows : (ps new : List (Key × Value)) → length ps ≤ length (put_all ps new)
grows ps [] = omega arith
grows ps (q ∷ new) =
    let one = length-with_pair ps q.0 q.1 in
    let more = grows_one (length ps) (is_none (value_at ps q.0)) in
    let rest = grows (with_pair ps q.0 q.1) new in
    omega arith

room_by : (ps : List (Key × Value)) (n : ℕ) (b : Bool) → n ≡ length ps + cond b 1 0 → n ≤ 16777216 → (is_full ps && b) ≡ false
room_by ps n true e h = let below : length ps < 16777216 = omega arith in ap (λ b. b && true) (lt-leb 16777216 (length ps) below)
room_by ps n false e h = nothing (is_full ps)
  where
    nothing : (b : Bool) → (b && false) ≡ false
    nothing true = refl
    nothing false = refl

abbrev put_refusal : Bool → Bool → Option RunFault
put_refusal fixed full = refusal ((fixed, ReadOnly) ∷ (false, ValueOfAnotherType) ∷ (full, TooLong) ∷ [])

-- a pair that has room is refused only for want of memory
pub only_memory : (d : DictView) (k : Key) (x : Value) (rest : List (Key × Value)) (f : ThingFault) → d.fixed ≡ false → length (put_all (with_pair d.pairs k x) rest) ≤ 16777216 → RefusedBy {T = Option Value} (put_fault d k true) (Err f) → f ≡ NoMemory
only_memory d k x rest NoMemory writable room e = refl
only_memory d k x rest (Run g) writable room e =
    let one = length-with_pair d.pairs k x in
    let more = grows (with_pair d.pairs k x) rest in
    let free : (is_full d.pairs && is_none (value_at d.pairs k)) ≡ false = room_by d.pairs (length (with_pair d.pairs k x)) (is_none (value_at d.pairs k)) one (omega arith) in
    let none : None ≡ Some g = sym (λ i. put_refusal (writable i) (free i)) ∙ e in
    cc
