-- When two keys of a dictionary are one key.
use Rattle.std.specs.Prelude.{◌≡◌, Bool, true, refl}
use Rattle.std.specs.Bool.{Decides, one_answer}
use Rattle.std.specs.Cmp.{IsEquivalence, booleans_Decides, signed_Decides, unsigned_Decides}
use Rattle.std.proofs.Common.{ap, subst, sym}
use Rattle.std.proofs.lemmas.Slice.Eq.{bytes_eq-Decides}
use Rattle.gd_model.specs.declared.key.Key.{Key}
use Rattle.gd_model.specs.declared.key.Key.TheVariants.{Nil, Bool as BoolKey, Int, Str, Object}
use Rattle.gd_model.specs.Datum.{Datum, bool, int, text, object}
use Rattle.gd_model.specs.KeyDatum.{key_datum}
use Rattle.gd_model.specs.Same.{same_key}

-- two keys of the code are one where they are one key of the language
abbrev pub one_key : Key → Key → Bool
one_key k l = same_key (key_datum k) (key_datum l)

own_key : (a : Key) → one_key a a ≡ true
own_key Nil = refl
own_key (BoolKey a) = (booleans_Decides a a).1 refl
own_key (Int a) = (signed_Decides a a).1 refl
own_key (Str a) = (bytes_eq-Decides a a).1 refl
own_key (Object h) = (unsigned_Decides h.serial h.serial).1 refl

one_datum : (a b : Key) → one_key a b ≡ true → key_datum a ≡ key_datum b
one_datum Nil Nil e = refl
one_datum (BoolKey a) (BoolKey b) e = ap bool ((booleans_Decides a b).0 e)
one_datum (Int a) (Int b) e = ap int ((signed_Decides a b).0 e)
one_datum (Str a) (Str b) e = ap text ((bytes_eq-Decides a b).0 e)
one_datum (Object h) (Object i) e = ap object ((unsigned_Decides h.serial i.serial).0 e)
one_datum _ _ e = cc

-- the test answers yes for keys that are one, and for no others
pub one_key-Decides : (a b : Key) → Decides (one_key a b) (key_datum a ≡ key_datum b)
one_key-Decides a b = (one_datum a b, λ e. subst (λ d. same_key (key_datum a) d ≡ true) e (own_key a))

-- a test that decides whether two values have one image is an equivalence
module _ {K J : Type 0} (image : K → J) (test : J → J → Bool) (decides : (x y : K) → Decides (test (image x) (image y)) (image x ≡ image y)) where
  decided_on : IsEquivalence (λ x y. test (image x) (image y))
  decided_on = record {
    refl = λ x. (decides x x).1 refl;
    symm = λ x y. one_answer (test (image x) (image y)) (test (image y) (image x)) (decides x y) (λ e. sym ((decides y x).0 e), λ e. (decides y x).1 (sym e));
    congr = λ x y z e. ap (λ w. test w (image z)) ((decides x y).0 e);
  }

pub one_key-equiv : IsEquivalence one_key
one_key-equiv = decided_on key_datum same_key one_key-Decides
