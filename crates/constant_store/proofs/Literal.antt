-- What array and dictionary literals make, step by step.
use Rattle.std.proofs.Common.{◌≡◌, ℕ, ℤ, ◌+◌, ◌<◌, ◌≤◌, Bool, true, false, not, List, [], ◌∷◌, ◌++◌, length, map, drop, get_or, nat_le, Option, None, Some, Result, Ok, Err, if◌then◌else◌, refl, ap, sym, ◌∙◌, subst, arith}
use Rattle.std.specs.List.{position_from}
use Rattle.std.proofs.lemmas.Bool.{le-leb, lt-leb}
use Rattle.std.proofs.lemmas.List.{length-map}
use Rattle.gd_model.specs.declared.ty.Ty.{Ty}
use Rattle.gd_model.specs.declared.value.Value.{Value}
use Rattle.gd_model.specs.Datum.{Datum}
use Rattle.gd_model.specs.Meant.{datum, dict_thing, pair_datum}
use Rattle.gd_model.specs.Store.{Thing, array, dict}
use Rattle.gd_model.specs.View.{DictView}
use Rattle.constant_store.specs.declared.literals.LiteralFault.{LiteralFault}
use Rattle.constant_store.specs.declared.literals.LiteralFault.TheVariants.{Element, BadKey, Key, Value as OfValue, TooLong, NoMemory}
use Rattle.constant_store.specs.declared.thing.ConstantThing.{ConstantThing}
use Rattle.constant_store.specs.Literals.{fits, tested, placed, with_more, with_all, and_then, dict_made, dictionary_made, or_misfit, array_made, AnswersLiteral, Makes, enum_pair}
use Rattle.constant_store.specs.Things.{all_pairs_held, all_data_held, data_in, pair_data, value_pair}
use Rattle.constant_store.proofs.Put.{all_held}
use Rattle.constant_store.proofs.Read.{cut_map, past_map}

-- a fault of the one is a fault of the other
pub literal_fault : {A B C D : Type 0} → (form : B → A) (form' : D → C) (want : Result A LiteralFault) (want' : Result C LiteralFault) (f : LiteralFault) → ((g : LiteralFault) → want ≡ Err g → want' ≡ Err g) → AnswersLiteral form want (Err f) → AnswersLiteral form' want' (Err f)
literal_fault form form' want want' (Element i) more h = more (Element i) h
literal_fault form form' want want' (BadKey i) more h = more (BadKey i) h
literal_fault form form' want want' (Key i) more h = more (Key i) h
literal_fault form form' want want' (OfValue i) more h = more (OfValue i) h
literal_fault form form' want want' TooLong more h = more TooLong h
literal_fault form form' want want' NoMemory more h = tt

-- a refused literal changes nothing
pub made_not : {B : Type 0} → (form : B → Thing) (old new : List ConstantThing) (want : Result Thing LiteralFault) (f : LiteralFault) → AnswersLiteral form want (Err f) → new ≡ old → Makes old new want (Err f)
made_not form old new want (Element i) h same = (h, same)
made_not form old new want (BadKey i) h same = (h, same)
made_not form old new want (Key i) h same = (h, same)
made_not form old new want (OfValue i) h same = (h, same)
made_not form old new want TooLong h same = (h, same)
made_not form old new want NoMemory h same = same

module _ (things : List ConstantThing) (key val : Ty) (ps : List (Value × Value)) where
  pub all_more : (i : ℕ) (p : Value × Value) (old new : List (Datum × Datum)) → i < length ps → p ≡ get_or ps i p → with_more things key val i old (value_pair p) ≡ Ok new → with_all things key val i (drop i (map value_pair ps)) old ≡ with_all things key val (i + 1) (drop (i + 1) (map value_pair ps)) new
  all_more i p old new within e put =
      ap (λ qs. with_all things key val i qs old) (cut_map value_pair ps i p within e)
      ∙ ap (λ r. and_then r (with_all things key val (i + 1) (drop (i + 1) (map value_pair ps)))) put

  pub all_fault : (i : ℕ) (p : Value × Value) (old : List (Datum × Datum)) (f : LiteralFault) → i < length ps → p ≡ get_or ps i p → with_more things key val i old (value_pair p) ≡ Err f → with_all things key val i (drop i (map value_pair ps)) old ≡ Err f
  all_fault i p old f within e put =
      ap (λ qs. with_all things key val i qs old) (cut_map value_pair ps i p within e)
      ∙ ap (λ r. and_then r (with_all things key val (i + 1) (drop (i + 1) (map value_pair ps)))) put

  pub all_end : (i : ℕ) (old : List (Datum × Datum)) → length ps ≤ i → with_all things key val i (drop i (map value_pair ps)) old ≡ Ok old
  all_end i old h = ap (λ qs. with_all things key val i qs old) (past_map value_pair ps i h)

  pub dict_fault : (f : LiteralFault) → with_all things key val 0 (map value_pair ps) [] ≡ Err f → dictionary_made things key val (map value_pair ps) ≡ Err f
  dict_fault f e = ap (λ r. and_then r (λ all. Ok (dict_made key val all))) e

  pub dict_done : (d new : DictView) → d ≡ record { key_type = key; value_type = val; fixed = false; pairs = d.pairs } → new ≡ record d { fixed = true } → with_all things key val 0 (map value_pair ps) [] ≡ Ok (map pair_datum d.pairs) → dictionary_made things key val (map value_pair ps) ≡ Ok (dict (dict_thing new))
  dict_done d new shape fixed e =
      let is : new ≡ record { key_type = key; value_type = val; fixed = true; pairs = d.pairs } = fixed ∙ ap (λ (x : DictView). record x { fixed = true }) shape in
      ap (λ r. and_then r (λ all. Ok (dict_made key val all))) e ∙ ap (λ (x : DictView). Ok (dict (dict_thing x))) (sym is)

  -- a dictionary under way has the types of the literal, and is not yet read-only
  abbrev pub Open : DictView → Type 0
  Open d = d ≡ record { key_type = key; value_type = val; fixed = false; pairs = d.pairs }

  -- putting the pairs from place i on gives what putting all of them gives
  abbrev pub Under : ℕ → DictView → Type 0
  Under i d = with_all things key val i (drop i (map value_pair ps)) (map pair_datum d.pairs) ≡ with_all things key val 0 (map value_pair ps) []

  pub still_open : (d new : DictView) → Open d → new ≡ record d { pairs = new.pairs } → Open new
  still_open d new shape types = types ∙ ap (λ (x : DictView). record x { pairs = new.pairs }) shape

  typed : (d : DictView) (i : ℕ) (p : Value × Value) → Open d → with_more things key val i (map pair_datum d.pairs) (value_pair p) ≡ with_more things d.key_type d.value_type i (map pair_datum d.pairs) (value_pair p)
  typed d i p shape =
      let keys : d.key_type ≡ key = ap (λ (x : DictView). x.key_type) shape in
      let values : d.value_type ≡ val = ap (λ (x : DictView). x.value_type) shape in
      λ j. with_more things (sym keys j) (sym values j) i (map pair_datum d.pairs) (value_pair p)

  pub put_more : (d new : DictView) (i : ℕ) (p : Value × Value) → i < length ps → p ≡ get_or ps i p → Open d → Under i d → with_more things d.key_type d.value_type i (map pair_datum d.pairs) (value_pair p) ≡ Ok (map pair_datum new.pairs) → Under (i + 1) new
  put_more d new i p within at shape rest e = sym (all_more i p (map pair_datum d.pairs) (map pair_datum new.pairs) within at (typed d i p shape ∙ e)) ∙ rest

  pub put_not : {B : Type 0} → (form : B → List (Datum × Datum)) (d : DictView) (i : ℕ) (p : Value × Value) (f : LiteralFault) → i < length ps → p ≡ get_or ps i p → Open d → Under i d → AnswersLiteral form (with_more things d.key_type d.value_type i (map pair_datum d.pairs) (value_pair p)) (Err f) → AnswersLiteral (λ (x : DictView). dict (dict_thing x)) (dictionary_made things key val (map value_pair ps)) (Err f)
  put_not form d i p f within at shape rest h =
      literal_fault form (λ (x : DictView). dict (dict_thing x)) (with_more things d.key_type d.value_type i (map pair_datum d.pairs) (value_pair p)) (dictionary_made things key val (map value_pair ps)) f
      (λ g e. dict_fault g (sym rest ∙ all_fault i p (map pair_datum d.pairs) g within at (typed d i p shape ∙ e))) h

  pub put_all : (d new : DictView) (i : ℕ) → length ps ≤ i → Open d → Under i d → new ≡ record d { fixed = true } → dictionary_made things key val (map value_pair ps) ≡ Ok (dict (dict_thing new))
  put_all d new i past shape rest fixed = dict_done d new shape fixed (sym rest ∙ all_end i (map pair_datum d.pairs) past)

  abbrev DictOk : Result Thing LiteralFault → Type 0
  DictOk (Err f) = Unit {0}
  DictOk (Ok t) = all_data_held things (data_in t) ≡ true

  all_ok : (r : Result (List (Datum × Datum)) LiteralFault) → ((all : List (Datum × Datum)) → r ≡ Ok all → all_data_held things (pair_data all) ≡ true) → DictOk (and_then r (λ all. Ok (dict_made key val all)))
  all_ok (Err f) h = tt
  all_ok (Ok all) h = h all refl

  pub dict_held : (t : Thing) → all_pairs_held things ps ≡ true → dictionary_made things key val (map value_pair ps) ≡ Ok t → all_data_held things (data_in t) ≡ true
  dict_held t h e = subst DictOk e (all_ok (with_all things key val 0 (map value_pair ps) []) (λ all made. all_held things key val 0 (map value_pair ps) [] h refl all made))

module _ (things : List ConstantThing) (element : Ty) (items : List Value) where
  pub misfit : (place : ℕ) → Some place ≡ position_from (λ d. not (fits things element d)) 0 (map datum items) → array_made things element (map datum items) ≡ Err (Element place)
  misfit place e = ap (λ o. or_misfit o element (map datum items)) (sym e)

  all_fit : None ≡ position_from (λ d. not (fits things element d)) 0 (map datum items) → array_made things element (map datum items) ≡ or_misfit None element (map datum items)
  all_fit e = ap (λ o. or_misfit o element (map datum items)) (sym e)

  abbrev limited : Bool → Result Thing LiteralFault
  limited b = if not b then Err TooLong else Ok (array (record { element = element; fixed = true; items = map datum items }))

  pub too_long : None ≡ position_from (λ d. not (fits things element d)) 0 (map datum items) → 16777216 < length items → array_made things element (map datum items) ≡ Err TooLong
  too_long e h =
      let past : 16777216 < length (map datum items) = omega (arith, length-map items datum) in
      all_fit e ∙ ap limited (lt-leb (length (map datum items)) 16777216 past)

  pub array_done : None ≡ position_from (λ d. not (fits things element d)) 0 (map datum items) → length items ≤ 16777216 → array_made things element (map datum items) ≡ Ok (array (record { element = element; fixed = true; items = map datum items }))
  array_done e h =
      let within : length (map datum items) ≤ 16777216 = omega (arith, length-map items datum) in
      all_fit e ∙ ap limited (le-leb (length (map datum items)) 16777216 within)

-- the pair of a literal: its key, and then its place
pub more_placed : {B : Type 0} → (form : B → List (Datum × Datum)) (things : List ConstantThing) (key val : Ty) (i : ℕ) (old : List (Datum × Datum)) (p : Datum × Datum) (k : Datum) (r : Result B LiteralFault) → tested things key val i p ≡ Ok k → AnswersLiteral form (placed old k p.1) r → AnswersLiteral form (with_more things key val i old p) r
more_placed form things key val i old p k r e h = subst (λ (w : Result (List (Datum × Datum)) LiteralFault). AnswersLiteral form w r) (sym (ap (λ t. and_then t (λ d. placed old d p.1)) e)) h

pub more_not : {B C : Type 0} → (form : B → Datum) (form' : C → List (Datum × Datum)) (things : List ConstantThing) (key val : Ty) (i : ℕ) (old : List (Datum × Datum)) (p : Datum × Datum) (f : LiteralFault) → AnswersLiteral form (tested things key val i p) (Err f) → AnswersLiteral form' (with_more things key val i old p) (Err f)
more_not form form' things key val i old p f h = literal_fault form form' (tested things key val i p) (with_more things key val i old p) f (λ g e. ap (λ t. and_then t (λ d. placed old d p.1)) e) h

-- names and ints are held
pub enum_held : (things : List ConstantThing) (ps : List (List ℕ × ℤ)) → all_data_held things (pair_data (map enum_pair ps)) ≡ true
enum_held things [] = refl
enum_held things (p ∷ ps) = enum_held things ps
