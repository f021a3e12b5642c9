-- The elements that were seen, as the ints or the Strings that they are.
use Rattle.std.proofs.Common.{◌≡◌, ℕ, ◌+◌, ◌<◌, ℤ, false, List, [], ◌∷◌, ◌++◌, length, map, take, get_or, None, Some, refl, ap, sym, ◌∙◌}
use Rattle.std.proofs.lemmas.List.{map-append, take_more}
use Rattle.gd_model.specs.declared.value.Value.{Value}
use Rattle.gd_model.specs.declared.value.Value.TheVariants as v
use Rattle.gd_model.specs.Meant.{datum}
use Rattle.store_semantics.specs.Writes.{is_int, is_text}
use Rattle.container_methods.specs.Arrays.{int_in, text_in}

-- one more element was seen
pub listed_on : {K : Type 0} → (form : K → Value) (items : List Value) (i : ℕ) (x : Value) (ks more : List K) (k : K) → i < length items → x ≡ get_or items i x → x ≡ form k → more ≡ ks ++ k ∷ [] → take i items ≡ map form ks → take (i + 1) items ≡ map form more
listed_on form items i x ks more k h at is m before =
    take_more items i x h ∙ (λ j. before j ++ sym at j ∷ []) ∙ (λ j. map form ks ++ is j ∷ []) ∙ sym (map-append form ks (k ∷ [])) ∙ ap (map form) (sym m)

pub int_value : (x : Value) (n : ℤ) → Some n ≡ int_in x → x ≡ v.Int n
int_value v.Nil n e = cc
int_value (v.Bool b) n e = cc
int_value (v.Int m) n e = let same : n ≡ m = cc in ap (λ k. v.Int k) (sym same)
int_value (v.Str t) n e = cc
int_value (v.Object h) n e = cc
int_value (v.Array h) n e = cc
int_value (v.Dict h) n e = cc
int_value (v.Callable t) n e = cc
int_value (v.Signal s) n e = cc

pub no_int : (x : Value) → None ≡ int_in x → is_int (datum x) ≡ false
no_int v.Nil e = refl
no_int (v.Bool b) e = refl
no_int (v.Int m) e = cc
no_int (v.Str t) e = refl
no_int (v.Object h) e = refl
no_int (v.Array h) e = refl
no_int (v.Dict h) e = refl
no_int (v.Callable t) e = refl
no_int (v.Signal s) e = refl

pub text_value : (x : Value) (t : List ℕ) → Some t ≡ text_in x → x ≡ v.Str t
text_value v.Nil t e = cc
text_value (v.Bool b) t e = cc
text_value (v.Int m) t e = cc
text_value (v.Str u) t e = let same : t ≡ u = cc in ap (λ k. v.Str k) (sym same)
text_value (v.Object h) t e = cc
text_value (v.Array h) t e = cc
text_value (v.Dict h) t e = cc
text_value (v.Callable c) t e = cc
text_value (v.Signal s) t e = cc

pub no_text : (x : Value) → None ≡ text_in x → is_text (datum x) ≡ false
no_text v.Nil e = refl
no_text (v.Bool b) e = refl
no_text (v.Int m) e = refl
no_text (v.Str u) e = cc
no_text (v.Object h) e = refl
no_text (v.Array h) e = refl
no_text (v.Dict h) e = refl
no_text (v.Callable c) e = refl
no_text (v.Signal s) e = refl
