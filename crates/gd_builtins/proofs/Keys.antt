-- Which values are keys, and what a dictionary has at one.
use Rattle.std.proofs.Common.{◌≡◌, Bool, true, false, List, map, Option, None, Some, option_map, unwrap_or, is_some, Result, Ok, Err, refl, ap, sym, ◌∙◌, if◌then◌else◌}
use Rattle.std.specs.Borrow.{Bor}
use Rattle.std.specs.Option.{option_copied}
use Rattle.gd_model.specs.declared.fault.RunFault.{RunFault}
use Rattle.gd_model.specs.declared.fault.RunFault.TheVariants.{BadKey}
use Rattle.gd_model.specs.declared.key.Key.{Key}
use Rattle.gd_model.specs.declared.value.Value.{Value}
use Rattle.gd_model.specs.declared.value.Value.TheVariants as v
use Rattle.gd_model.specs.Datum.{Datum}
use Rattle.gd_model.specs.KeyDatum.{key_datum}
use Rattle.gd_model.specs.Meant.{datum, pair_datum, dict_thing}
use Rattle.gd_model.specs.Same.{is_key}
use Rattle.gd_model.specs.Store.{value_at}
use Rattle.gd_model.specs.View as view
use Rattle.gd_model.specs.View.{DictView}
use Rattle.gd_containers.specs.Keys.{key_fault}
use Rattle.gd_containers.proofs.Meanings.{value_at-meant}
use Rattle.value_semantics.specs.Made.{Made, value, bool_made}
use Rattle.value_semantics.specs.Methods.{with_key, value_or, has_key_gives}

key_taken : (k : Value) → key_fault k ≡ None → is_key (datum k) ≡ true
key_taken (v.Array h) e = cc
key_taken (v.Dict h) e = cc
key_taken (v.Callable t) e = cc
key_taken (v.Signal s) e = cc
key_taken v.Nil e = refl
key_taken (v.Bool b) e = refl
key_taken (v.Int n) e = refl
key_taken (v.Str t) e = refl
key_taken (v.Object h) e = refl

unwrapped : (o : Option Value) (other : Value) → unwrap_or (option_map datum o) (datum other) ≡ datum (unwrap_or o other)
unwrapped None other = refl
unwrapped (Some w) other = refl

there : (o : Option Value) → is_some (option_map datum o) ≡ is_some o
there None = refl
there (Some w) = refl

copied : (o : Option (Bor Value)) → is_some o ≡ is_some (option_copied o)
copied None = refl
copied (Some w) = refl

module _ (d : DictView) (k : Value) (key : Key) (found : Option Value) (none : key_fault k ≡ None) (meant : key_datum key ≡ datum k) (at : found ≡ view.value_at d.pairs key) where
  at_key : value_at (map pair_datum d.pairs) (datum k) ≡ option_map datum found
  at_key = ap (value_at (map pair_datum d.pairs)) (sym meant) ∙ value_at-meant d.pairs key ∙ ap (option_map datum) (sym at)

  with_it : {A : Type 0} → (given : A) → with_key (datum k) given ≡ Ok given
  with_it given = ap (λ b. if b then Ok given else Err BadKey) (key_taken k none)

  -- the value that is there, or the other one
  pub value_given : (other w : Value) → w ≡ unwrap_or found other → value_or (dict_thing d) (datum k, datum other) ≡ Ok (value (datum w))
  value_given other w e =
      with_it (value (unwrap_or (value_at (map pair_datum d.pairs) (datum k)) (datum other)))
      ∙ ap (λ o. Ok (value (unwrap_or o (datum other)))) at_key ∙ ap (λ x. Ok (value x)) (unwrapped found other ∙ ap datum (sym e))

  pub has_given : (o : Option (Bor Value)) (b : Bool) → option_copied o ≡ found → b ≡ is_some o → has_key_gives (dict_thing d) (datum k) ≡ Ok (bool_made b)
  has_given o b c e =
      with_it (bool_made (is_some (value_at (map pair_datum d.pairs) (datum k))))
      ∙ ap (λ o. Ok (bool_made (is_some o))) at_key ∙ ap (λ b. Ok (bool_made b)) (there found ∙ ap is_some (sym c) ∙ sym (copied o) ∙ sym e)
