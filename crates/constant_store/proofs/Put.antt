-- The pairs of a dictionary as the language means them, and that they are held.
use Rattle.std.proofs.Common.{◌≡◌, ℕ, zero, suc, ◌+◌, slice_get, Bool, true, false, not, nat_le, List, [], ◌∷◌, ◌++◌, length, map, take, Option, None, Some, option_map, true≢false, Result, Ok, Err, if◌then◌else◌, refl, ap, sym, ◌∙◌, subst}
use Rattle.std.specs.Prelude.{◌&&◌, is_none}
use Rattle.std.proofs.lemmas.List.{length-map}
use Rattle.std.proofs.lemmas.Option.{slice_get-map, slice_get_within, get_or_from_slice_get}
use Rattle.std.proofs.lemmas.Bool.{and_from, and_parts}
use Rattle.gd_model.specs.declared.key.Key.{Key}
use Rattle.gd_model.specs.declared.key.Key.TheVariants as k
use Rattle.gd_model.specs.declared.fault.RunFault.{RunFault}
use Rattle.gd_model.specs.declared.fault.RunFault.TheVariants.{ReadOnly, ValueOfAnotherType, TooLong as RunTooLong}
use Rattle.gd_model.specs.declared.ty.Ty.{Ty}
use Rattle.gd_model.specs.declared.value.Value.{Value}
use Rattle.gd_model.specs.declared.value.Value.TheVariants as v
use Rattle.gd_model.specs.Datum.{Datum}
use Rattle.gd_model.specs.Key.{one_key}
use Rattle.gd_model.specs.KeyDatum.{key_datum}
use Rattle.gd_model.specs.Meant.{datum, pair_datum}
use Rattle.gd_model.specs.Same.{is_key, same_key}
use Rattle.gd_model.specs.Store.{with_pair, value_at}
use Rattle.gd_model.specs.Refusal.{refusal}
use Rattle.gd_model.specs.View as view
use Rattle.gd_model.specs.View.{DictView}
use Rattle.gd_containers.specs.Answers.{RefusedBy, is_full, put_fault}
use Rattle.gd_containers.specs.declared.fault.ThingFault.{ThingFault}
use Rattle.gd_containers.specs.declared.fault.ThingFault.TheVariants.{Run, NoMemory as Lack}
use Rattle.gd_containers.specs.Keys.{key_fault}
use Rattle.gd_containers.proofs.Meanings.{value_at-meant}
use Rattle.constant_store.specs.declared.literals.LiteralFault.{LiteralFault}
use Rattle.constant_store.specs.declared.literals.LiteralFault.TheVariants.{BadKey, Key as OfKey, Value as OfValue, TooLong}
use Rattle.constant_store.specs.declared.thing.ConstantThing.{ConstantThing}
use Rattle.constant_store.specs.Literals.{fits, tested, placed, is_full as full, with_more, with_all, unless, and_then, key_refusal, put_refusal, AnswersLiteral}
use Rattle.constant_store.proofs.Read.{map_more}
use Rattle.constant_store.specs.Things.{is_plain, is_held, all_data_held, pair_data, data_in}

put_here : (b : Bool) (e : Key × Value) (v : Value) (es rest : List (Key × Value)) (rest' : List (Datum × Datum)) → map pair_datum rest ≡ rest' → map pair_datum (if b then (e.0, v) ∷ es else e ∷ rest) ≡ (if b then (key_datum e.0, datum v) ∷ map pair_datum es else pair_datum e ∷ rest')
put_here true e v es rest rest' h = refl
put_here false e v es rest rest' h = ap (λ ps. pair_datum e ∷ ps) h

-- the pairs with one more mean the pairs with what that one means
pub with_pair-meant : (ps : List (Key × Value)) (k : Key) (v : Value) → map pair_datum (view.with_pair ps k v) ≡ with_pair (map pair_datum ps) (key_datum k) (datum v)
with_pair-meant [] k v = refl
with_pair-meant (e ∷ es) k v = put_here (one_key k e.0) e v es (view.with_pair es k v) (with_pair (map pair_datum es) (key_datum k) (datum v)) (with_pair-meant es k v)

module _ (things : List ConstantThing) where
  two_held : (p : Datum × Datum) (ps : List (Datum × Datum)) → is_held things p.0 ≡ true → is_held things p.1 ≡ true → all_data_held things (pair_data ps) ≡ true → all_data_held things (pair_data (p ∷ ps)) ≡ true
  two_held p ps k v more = and_from (is_held things p.0) (all_data_held things (p.1 ∷ pair_data ps)) k (and_from (is_held things p.1) (all_data_held things (pair_data ps)) v more)

  held_two : (p : Datum × Datum) (ps : List (Datum × Datum)) → all_data_held things (pair_data (p ∷ ps)) ≡ true → (is_held things p.0 ≡ true) × (is_held things p.1 ≡ true) × (all_data_held things (pair_data ps) ≡ true)
  held_two p ps h =
      let key = and_parts (is_held things p.0) (all_data_held things (p.1 ∷ pair_data ps)) h in
      let more = and_parts (is_held things p.1) (all_data_held things (pair_data ps)) key.1 in
      (key.0, more.0, more.1)

  put_held : (ps : List (Datum × Datum)) (k v : Datum) → is_held things k ≡ true → is_held things v ≡ true → all_data_held things (pair_data ps) ≡ true → all_data_held things (pair_data (with_pair ps k v)) ≡ true
  put_held [] k v hk hv h = two_held (k, v) [] hk hv refl
  put_held (e ∷ es) k v hk hv h =
      let parts = held_two e es h in
      elim (same_key k e.0) as (λ b. all_data_held things (pair_data (if b then (e.0, v) ∷ es else e ∷ with_pair es k v)) ≡ true)
      [ true ↦ two_held (e.0, v) es parts.0 hv parts.2 | false ↦ two_held e (with_pair es k v) parts.0 parts.1 (put_held es k v hk hv parts.2) ]

  -- the key and the value of the pair at a place
  pub pairs_at : (ps : List (Datum × Datum)) (i : ℕ) (p : Datum × Datum) → slice_get ps i ≡ Some p → all_data_held things (pair_data ps) ≡ true → (is_held things p.0 ≡ true) × (is_held things p.1 ≡ true)
  pairs_at [] i p e h = cc
  pairs_at (q ∷ qs) zero p e h =
      let same : q ≡ p = cc in
      let parts = held_two q qs h in
      subst (λ (r : Datum × Datum). (is_held things r.0 ≡ true) × (is_held things r.1 ≡ true)) same (parts.0, parts.1)
  pairs_at (q ∷ qs) (suc i) p e h = pairs_at qs i p e (held_two q qs h).2

  abbrev AllOk : Result (List (Datum × Datum)) LiteralFault → Type 0
  AllOk (Err f) = Unit {0}
  AllOk (Ok ps) = all_data_held things (pair_data ps) ≡ true

  unless_held : (tests : List (Bool × LiteralFault)) (ps : List (Datum × Datum)) → all_data_held things (pair_data ps) ≡ true → AllOk (unless tests ps)
  unless_held [] ps h = h
  unless_held (c ∷ rest) ps h = elim c.0 as (λ b. let r : Result (List (Datum × Datum)) LiteralFault = if b then Err c.1 else unless rest ps in AllOk r) [ true ↦ tt | false ↦ unless_held rest ps h ]

  passed_held : (tests : List (Bool × LiteralFault)) (k : Datum) (more : Datum → Result (List (Datum × Datum)) LiteralFault) → AllOk (more k) → AllOk (and_then (unless tests k) more)
  passed_held [] k more h = h
  passed_held (c ∷ rest) k more h = elim c.0 as (λ b. let r : Result Datum LiteralFault = if b then Err c.1 else unless rest k in AllOk (and_then r more)) [ true ↦ tt | false ↦ passed_held rest k more h ]

  tested_held : (key val : Ty) (i : ℕ) (p : Datum × Datum) (more : Datum → Result (List (Datum × Datum)) LiteralFault) → AllOk (more p.0) → AllOk (and_then (tested things key val i p) more)
  tested_held key val i p more h = passed_held ((not (is_key p.0), BadKey i) ∷ (not (fits things key p.0), OfKey i) ∷ (not (fits things val p.1), OfValue i) ∷ []) p.0 more h

  more_held : (key val : Ty) (i : ℕ) (old : List (Datum × Datum)) (p : Datum × Datum) → is_held things p.0 ≡ true → is_held things p.1 ≡ true → all_data_held things (pair_data old) ≡ true → AllOk (with_more things key val i old p)
  more_held key val i old p hk hv h = tested_held key val i p (λ k. placed old k p.1) (unless_held ((full old p.0, TooLong) ∷ []) (with_pair old p.0 p.1) (put_held old p.0 p.1 hk hv h))

  then_held : (r : Result (List (Datum × Datum)) LiteralFault) (more : List (Datum × Datum) → Result (List (Datum × Datum)) LiteralFault) → AllOk r → ((ps : List (Datum × Datum)) → all_data_held things (pair_data ps) ≡ true → AllOk (more ps)) → AllOk (and_then r more)
  then_held (Err f) more h each = tt
  then_held (Ok ps) more h each = each ps h

  all_kept : (key val : Ty) (i : ℕ) (ps old : List (Datum × Datum)) → all_data_held things (pair_data ps) ≡ true → all_data_held things (pair_data old) ≡ true → AllOk (with_all things key val i ps old)
  all_kept key val i [] old h k = k
  all_kept key val i (p ∷ ps) old h k =
      let parts = held_two p ps h in
      then_held (with_more things key val i old p) (with_all things key val (i + 1) ps) (more_held key val i old p parts.0 parts.1 k) (λ new held. all_kept key val (i + 1) ps new parts.2 held)

  pub all_held : (key val : Ty) (i : ℕ) (ps old : List (Datum × Datum)) → all_data_held things (pair_data ps) ≡ true → all_data_held things (pair_data old) ≡ true → (all : List (Datum × Datum)) → with_all things key val i ps old ≡ Ok all → all_data_held things (pair_data all) ≡ true
  all_held key val i ps old h k all e = subst AllOk e (all_kept key val i ps old h k)

-- a held key is none of an object
pub plain_key : (things : List ConstantThing) (key : Key) → is_held things (key_datum key) ≡ true → is_plain (key_datum key) ≡ true
plain_key things k.Nil h = h
plain_key things (k.Bool b) h = h
plain_key things (k.Int n) h = h
plain_key things (k.Str s) h = h
plain_key things (k.Object i) h = h

-- the key and the value of a pair of a dictionary
pub dict_pair_at : (things : List ConstantThing) (ps : List (Key × Value)) (i : ℕ) (k : Key) (x : Value) → Some (k, x) ≡ slice_get ps i → all_data_held things (pair_data (map pair_datum ps)) ≡ true → (is_plain (key_datum k) ≡ true) × (is_held things (datum x) ≡ true)
dict_pair_at things ps i k x e h =
    let both = pairs_at things (map pair_datum ps) i (key_datum k, datum x) (slice_get-map pair_datum ps i ∙ ap (option_map pair_datum) (sym e)) h in
    (plain_key things k both.0, both.1)

-- the pairs up to one more, in another form
pub pairs_more : {Y : Type 0} → (f : Key × Value → Y) (ps : List (Key × Value)) (i : ℕ) (k : Key) (x : Value) → Some (k, x) ≡ slice_get ps i → map f (take (i + 1) ps) ≡ map f (take i ps) ++ f (k, x) ∷ []
pairs_more f ps i k x e = map_more f ps i (k, x) (slice_get_within ps i (k, x) (sym e)) (sym (get_or_from_slice_get ps i (k, x) (k, x) (sym e)))

-- which values are keys
pub no_key : (x : Value) (f : RunFault) → key_fault x ≡ Some f → is_key (datum x) ≡ false
no_key v.Nil f e = cc
no_key (v.Bool b) f e = cc
no_key (v.Int n) f e = cc
no_key (v.Str s) f e = cc
no_key (v.Object h) f e = cc
no_key _ f e = refl

pub some_key : (x : Value) → key_fault x ≡ None → is_key (datum x) ≡ true
some_key (v.Array h) e = cc
some_key (v.Dict h) e = cc
some_key (v.Callable c) e = cc
some_key (v.Signal s) e = cc
some_key _ e = refl

unless_here : {A : Type 0} → (b : Bool) (f : LiteralFault) (rest : List (Bool × LiteralFault)) (given : A) → b ≡ true → unless ((b, f) ∷ rest) given ≡ Err f
unless_here true f rest given e = refl
unless_here false f rest given e = absurd (true≢false (sym e))

unless_past : {A : Type 0} → (b : Bool) (f : LiteralFault) (rest : List (Bool × LiteralFault)) (given : A) → b ≡ false → unless ((b, f) ∷ rest) given ≡ unless rest given
unless_past true f rest given e = absurd (true≢false e)
unless_past false f rest given e = refl

none_same : (o : Option Value) → is_none (option_map datum o) ≡ is_none o
none_same None = refl
none_same (Some x) = refl

-- whether there is no room for a key
pub full_same : (ps : List (Key × Value)) (k : Key) → full (map pair_datum ps) (key_datum k) ≡ (nat_le 16777216 (length ps) && is_none (view.value_at ps k))
full_same ps k i = nat_le 16777216 (length-map ps pair_datum i) && (ap is_none (value_at-meant ps k) ∙ none_same (view.value_at ps k)) i

last_refused : (b : Bool) (f : RunFault) → refusal ((b, RunTooLong) ∷ []) ≡ Some f → b ≡ true
last_refused true f e = refl
last_refused false f e = cc

last_taken : (b : Bool) → refusal ((b, RunTooLong) ∷ []) ≡ None → b ≡ false
last_taken false e = refl
last_taken true e = cc

pub full_refused : (d : DictView) (k : Key) (f : RunFault) → d.fixed ≡ false → put_fault d k true ≡ Some f → (is_full d.pairs && is_none (view.value_at d.pairs k)) ≡ true
full_refused d k f free e = last_refused (is_full d.pairs && is_none (view.value_at d.pairs k)) f (sym (ap (λ b. refusal ((b, ReadOnly) ∷ (false, ValueOfAnotherType) ∷ (is_full d.pairs && is_none (view.value_at d.pairs k), RunTooLong) ∷ [])) free) ∙ e)

pub room_found : (d : DictView) (k : Key) → d.fixed ≡ false → put_fault d k true ≡ None → (is_full d.pairs && is_none (view.value_at d.pairs k)) ≡ false
room_found d k free e = last_taken (is_full d.pairs && is_none (view.value_at d.pairs k)) (sym (ap (λ b. refusal ((b, ReadOnly) ∷ (false, ValueOfAnotherType) ∷ (is_full d.pairs && is_none (view.value_at d.pairs k), RunTooLong) ∷ [])) free) ∙ e)

-- a pair is put where there is room for it
pub placed_in : (d new : DictView) (k : Key) (x : Value) → d.fixed ≡ false → put_fault d k true ≡ None → new ≡ record d { pairs = view.with_pair d.pairs k x } → placed (map pair_datum d.pairs) (key_datum k) (datum x) ≡ Ok (map pair_datum new.pairs)
placed_in d new k x free e grown =
    let old = map pair_datum d.pairs in
    let meant : map pair_datum new.pairs ≡ with_pair old (key_datum k) (datum x) = ap (λ (n : DictView). map pair_datum n.pairs) grown ∙ with_pair-meant d.pairs k x in
    unless_past (full old (key_datum k)) TooLong [] (with_pair old (key_datum k) (datum x)) (full_same d.pairs k ∙ room_found d k free e) ∙ ap (λ ps. Ok ps) (sym meant)

pub placed_not : {B : Type 0} → (form : B → List (Datum × Datum)) (d : DictView) (k : Key) (x : Value) (f : ThingFault) → d.fixed ≡ false → RefusedBy {T = Option Value} (put_fault d k true) (Err f) → AnswersLiteral form (placed (map pair_datum d.pairs) (key_datum k) (datum x)) (Err (put_refusal f))
placed_not form d k x (Run f) free e =
    let old = map pair_datum d.pairs in
    unless_here (full old (key_datum k)) TooLong [] (with_pair old (key_datum k) (datum x)) (full_same d.pairs k ∙ full_refused d k f free e)
placed_not form d k x Lack free e = tt

-- the key that a value is
pub keyed : (x : Value) (k : Key) (i : ℕ) → key_fault x ≡ None → key_datum k ≡ datum x → unless ((not (is_key (datum x)), BadKey i) ∷ []) (datum x) ≡ Ok (key_datum k)
keyed x k i e meant = unless_past (not (is_key (datum x))) (BadKey i) [] (datum x) (ap not (some_key x e)) ∙ ap (λ d. Ok d) (sym meant)

pub keyed_not : (x : Value) (i : ℕ) (f : ThingFault) → RefusedBy {T = Key} (key_fault x) (Err f) → AnswersLiteral key_datum (unless ((not (is_key (datum x)), BadKey i) ∷ []) (datum x)) (Err (key_refusal i f))
keyed_not x i (Run f) e = unless_here (not (is_key (datum x))) (BadKey i) [] (datum x) (ap not (no_key x f e))
keyed_not x i Lack e = tt

-- of three tests, the first
first_fault : {A : Type 0} → (a b c : Bool) (f g h fault : LiteralFault) (x : A) → unless ((a, f) ∷ []) x ≡ Err fault → unless ((a, f) ∷ (b, g) ∷ (c, h) ∷ []) x ≡ Err fault
first_fault true b c f g h fault x e = e
first_fault false b c f g h fault x e = cc

first_passed : {A : Type 0} → (a b c : Bool) (f g h : LiteralFault) (x y : A) → unless ((a, f) ∷ []) x ≡ Ok y → (a ≡ false) × (x ≡ y)
first_passed true b c f g h x y e = cc
first_passed false b c f g h x y e = (refl, cc)

module _ (things : List ConstantThing) (key val : Ty) (i : ℕ) (p : Datum × Datum) where
  pub tested_no_key : (fault : LiteralFault) → unless ((not (is_key p.0), BadKey i) ∷ []) p.0 ≡ Err fault → tested things key val i p ≡ Err fault
  tested_no_key fault e = first_fault (not (is_key p.0)) (not (fits things key p.0)) (not (fits things val p.1)) (BadKey i) (OfKey i) (OfValue i) fault p.0 e

  past_key : (k : Datum) → unless ((not (is_key p.0), BadKey i) ∷ []) p.0 ≡ Ok k → tested things key val i p ≡ unless ((not (fits things key p.0), OfKey i) ∷ (not (fits things val p.1), OfValue i) ∷ []) p.0
  past_key k e = unless_past (not (is_key p.0)) (BadKey i) ((not (fits things key p.0), OfKey i) ∷ (not (fits things val p.1), OfValue i) ∷ []) p.0 (first_passed (not (is_key p.0)) false false (BadKey i) (OfKey i) (OfValue i) p.0 k e).0

  pub tested_other_key : (k : Datum) → unless ((not (is_key p.0), BadKey i) ∷ []) p.0 ≡ Ok k → false ≡ fits things key p.0 → tested things key val i p ≡ Err (OfKey i)
  tested_other_key k e f = past_key k e ∙ unless_here (not (fits things key p.0)) (OfKey i) ((not (fits things val p.1), OfValue i) ∷ []) p.0 (ap not (sym f))

  past_fit : (k : Datum) → unless ((not (is_key p.0), BadKey i) ∷ []) p.0 ≡ Ok k → true ≡ fits things key p.0 → tested things key val i p ≡ unless ((not (fits things val p.1), OfValue i) ∷ []) p.0
  past_fit k e f = past_key k e ∙ unless_past (not (fits things key p.0)) (OfKey i) ((not (fits things val p.1), OfValue i) ∷ []) p.0 (ap not (sym f))

  pub tested_other_value : (k : Datum) → unless ((not (is_key p.0), BadKey i) ∷ []) p.0 ≡ Ok k → true ≡ fits things key p.0 → false ≡ fits things val p.1 → tested things key val i p ≡ Err (OfValue i)
  tested_other_value k e f g = past_fit k e f ∙ unless_here (not (fits things val p.1)) (OfValue i) [] p.0 (ap not (sym g))

  pub tested_ok : (k : Datum) → unless ((not (is_key p.0), BadKey i) ∷ []) p.0 ≡ Ok k → true ≡ fits things key p.0 → true ≡ fits things val p.1 → tested things key val i p ≡ Ok k
  tested_ok k e f g =
      past_fit k e f ∙ unless_past (not (fits things val p.1)) (OfValue i) [] p.0 (ap not (sym g))
      ∙ ap (λ d. Ok d) (first_passed (not (is_key p.0)) false false (BadKey i) (OfKey i) (OfValue i) p.0 k e).1
