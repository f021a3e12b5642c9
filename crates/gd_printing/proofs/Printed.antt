-- How forms are put behind one another.
use Rattle.std.proofs.Common.{◌≡◌, ℕ, ◌+◌, ◌<◌, suc, List, [], ◌∷◌, ◌++◌, length, map, drop, get_or, slice_get, codes, None, Some, Result, Ok, Err, refl, ap, sym, subst, ◌∙◌, add-one, append_assoc, append-nil, length-append, arith}
use Rattle.std.proofs.Math.Seq.{drop-cons}
use Rattle.std.proofs.lemmas.Option.{get_or_from_slice_get, slice_get_within}
use Rattle.gd_model.specs.Datum.{Datum}
use Rattle.gd_model.specs.Store.{Store, Names, ArrayThing, DictThing}
use Rattle.gd_model.specs.declared.fault.RunFault.TheVariants.{TooLong}
use Rattle.gd_containers.specs.declared.fault.ThingFault.{ThingFault}
use Rattle.gd_containers.specs.declared.fault.ThingFault.TheVariants.{Run, NoMemory}
use Rattle.value_semantics.specs.Printed.{more_forms, all_forms, form_by, inside, array_form, pair_form, pairs_form, dict_form}
use Rattle.gd_printing.specs.Puts.{Puts}

-- what putting the rest answers is the answer of the whole
pub puts_moved : (rest whole out old new : List ℕ) (r : Result (Unit {0}) ThingFault) → out ++ rest ≡ old ++ whole → Puts rest out new r → Puts whole old new r
puts_moved rest whole out old new (Ok u) e h = h ∙ e
puts_moved rest whole out old new (Err NoMemory) e h = tt
puts_moved rest whole out old new (Err (Run TooLong)) e h = subst (λ (t : List ℕ). 16777216 < length t) e h
puts_moved rest whole out old new (Err (Run _)) e h = absurd h

-- the one form went to the end, and then the other
pub puts_then : (s t old mid new : List ℕ) (r : Result (Unit {0}) ThingFault) → mid ≡ old ++ s → Puts t mid new r → Puts (s ++ t) old new r
puts_then s t old mid new r e h = puts_moved t (s ++ t) mid old new r (ap (λ (m : List ℕ). m ++ t) e ∙ append_assoc old s t) h

-- where the one did not, neither did both
pub puts_stop : (s t old mid new : List ℕ) (f : ThingFault) → Puts s old mid (Err f) → Puts (s ++ t) old new (Err f)
puts_stop s t old mid new NoMemory h = tt
puts_stop s t old mid new (Run TooLong) h =
    let l : length (old ++ (s ++ t)) ≡ length (old ++ s) + length t = ap length (sym (append_assoc old s t)) ∙ length-append (old ++ s) t in
    omega arith
puts_stop s t old mid new (Run _) h = absurd h

-- the same form under another name
pub puts_as : (s t old new : List ℕ) (r : Result (Unit {0}) ThingFault) → s ≡ t → Puts s old new r → Puts t old new r
puts_as s t old new r e h = subst (λ (f : List ℕ). Puts f old new r) e h

-- forms of the elements of a list, each by its image
module _ {X Y : Type 0} (between : List ℕ) (image : X → Y) (form : Y → List ℕ) (xs : List X) where
  -- the forms from place i on: that at i behind the text between them, and then the others
  more_at : (i : ℕ) (x : X) → slice_get xs i ≡ Some x → more_forms between (map form (map image (drop i xs))) ≡ between ++ (form (image x) ++ more_forms between (map form (map image (drop (i + 1) xs))))
  more_at i x e =
      let within : i < length xs = slice_get_within xs i x e in
      let at : get_or xs i x ≡ x = get_or_from_slice_get xs i x x e in
      let here : more_forms between (map form (map image (drop i xs))) ≡ between ++ (form (image (get_or xs i x)) ++ more_forms between (map form (map image (drop (suc i) xs)))) = λ j. more_forms between (map form (map image (drop-cons xs i x within j))) in
      here ∙ (λ j. between ++ (form (image (at j)) ++ more_forms between (map form (map image (drop (sym (add-one i) j) xs)))))

  -- one more form was put
  pub more_next : (i : ℕ) (x : X) (out mid new : List ℕ) → slice_get xs i ≡ Some x → mid ≡ out ++ between → new ≡ mid ++ form (image x) → new ++ more_forms between (map form (map image (drop (i + 1) xs))) ≡ out ++ more_forms between (map form (map image (drop i xs)))
  more_next i x out mid new e comma put =
      let left = more_forms between (map form (map image (drop (i + 1) xs))) in
      ap (λ (t : List ℕ). t ++ left) put ∙ append_assoc mid (form (image x)) left
      ∙ ap (λ (t : List ℕ). t ++ (form (image x) ++ left)) comma ∙ append_assoc out between (form (image x) ++ left)
      ∙ ap (λ (t : List ℕ). out ++ t) (sym (more_at i x e))

  -- the text between did not go to the end
  pub more_no_comma : (i : ℕ) (x : X) (out new : List ℕ) (f : ThingFault) → slice_get xs i ≡ Some x → Puts between out new (Err f) → Puts (more_forms between (map form (map image (drop i xs)))) out new (Err f)
  more_no_comma i x out new f e h =
      puts_as _ _ out new (Err f) (sym (more_at i x e)) (puts_stop between (form (image x) ++ more_forms between (map form (map image (drop (i + 1) xs)))) out new new f h)

  -- the text between went to the end, but the form did not
  pub more_no_form : (i : ℕ) (x : X) (out mid new : List ℕ) (f : ThingFault) → slice_get xs i ≡ Some x → mid ≡ out ++ between → Puts (form (image x)) mid new (Err f) → Puts (more_forms between (map form (map image (drop i xs)))) out new (Err f)
  more_no_form i x out mid new f e comma h =
      let left = more_forms between (map form (map image (drop (i + 1) xs))) in
      puts_as _ _ out new (Err f) (sym (more_at i x e)) (puts_then between (form (image x) ++ left) out mid new (Err f) comma (puts_stop (form (image x)) left mid new new f h))

-- all forms: the first, and then the others
pub all_at : {X Y : Type 0} → (between : List ℕ) (image : X → Y) (form : Y → List ℕ) (xs : List X) (x : X) → slice_get xs 0 ≡ Some x → all_forms between (map form (map image xs)) ≡ form (image x) ++ more_forms between (map form (map image (drop 1 xs)))
all_at between image form [] x e = cc
all_at between image form (y ∷ ys) x e =
    let same : y ≡ x = cc in
    ap (λ z. form (image z) ++ more_forms between (map form (map image ys))) same

pub all_none : {X Y : Type 0} → (between : List ℕ) (image : X → Y) (form : Y → List ℕ) (xs : List X) (old : List ℕ) → None ≡ slice_get xs 0 → old ≡ old ++ all_forms between (map form (map image xs))
all_none between image form [] old e = sym (append-nil old)
all_none between image form (x ∷ xs) old e = cc

module _ (store : Store) (names : Names) where
  no_form_inside : (room : ℕ) → room ≡ 0 → inside store names room ≡ None
  unfolding inside
  no_form_inside room e = ap (λ n. inside store names n) e

  form_inside : (room left : ℕ) → room ≡ left + 1 → inside store names room ≡ Some (form_by store names (inside store names left))
  unfolding inside
  form_inside room left e = ap (λ n. inside store names n) (e ∙ add-one left)

  -- an array that may be printed
  pub array_open : (room left : ℕ) (a : ArrayThing) → room ≡ left + 1 → codes "[" ++ (all_forms (codes ", ") (map (form_by store names (inside store names left)) a.items) ++ codes "]") ≡ array_form (inside store names room) a
  array_open room left a e = ap (λ f. array_form f a) (sym (form_inside room left e))

  pub array_too_deep : (room : ℕ) (a : ArrayThing) → room ≡ 0 → codes "[...]" ≡ array_form (inside store names room) a
  array_too_deep room a e = ap (λ f. array_form f a) (sym (no_form_inside room e))

  pairs_open : (form : Datum → List ℕ) (ps : List (Datum × Datum)) → ¬ (length ps ≡ 0) → codes "{ " ++ (all_forms (codes ", ") (map (pair_form form) ps) ++ codes " }") ≡ pairs_form form ps
  pairs_open form [] ne = absurd (ne refl)
  pairs_open form (p ∷ ps) ne = refl

  pairs_none : (form : Datum → List ℕ) (ps : List (Datum × Datum)) → length ps ≡ 0 → codes "{  }" ≡ pairs_form form ps
  pairs_none form [] e = refl
  pairs_none form (p ∷ ps) e = cc

  -- a dictionary that may be printed
  pub dict_open : (room left : ℕ) (d : DictThing) → room ≡ left + 1 → ¬ (length d.pairs ≡ 0) → codes "{ " ++ (all_forms (codes ", ") (map (pair_form (form_by store names (inside store names left))) d.pairs) ++ codes " }") ≡ dict_form (inside store names room) d
  dict_open room left d e ne =
      pairs_open (form_by store names (inside store names left)) d.pairs ne ∙ ap (λ f. dict_form f d) (sym (form_inside room left e))

  pub dict_empty : (room left : ℕ) (d : DictThing) → room ≡ left + 1 → length d.pairs ≡ 0 → codes "{  }" ≡ dict_form (inside store names room) d
  dict_empty room left d e none =
      pairs_none (form_by store names (inside store names left)) d.pairs none ∙ ap (λ f. dict_form f d) (sym (form_inside room left e))

  pub dict_too_deep : (room : ℕ) (d : DictThing) → room ≡ 0 → codes "{...}" ≡ dict_form (inside store names room) d
  dict_too_deep room d e = ap (λ f. dict_form f d) (sym (no_form_inside room e))
