-- Putting pairs in turn, from the end of a list that was turned.
use Rattle.std.proofs.Common.{◌≡◌, List, [], ◌∷◌, ◌++◌, reverse, Option, ap, sym, ◌∙◌, append_assoc}
use Rattle.std.proofs.lemmas.List.{reverse-append}
use Rattle.gd_model.specs.declared.key.Key.{Key}
use Rattle.gd_model.specs.declared.value.Value.{Value}
use Rattle.gd_model.specs.View.{value_at, with_pair}
use Rattle.container_methods.specs.Dicts.{put_all, replaced, replaced_by}

turned : (ps rest : List (Key × Value)) (p : Key × Value) → ps ≡ rest ++ p ∷ [] → reverse ps ≡ p ∷ reverse rest
turned ps rest p e = ap reverse e ∙ reverse-append rest (p ∷ [])

-- the last pair is put, and the others are left
module _ (d new_d ps rest : List (Key × Value)) (k : Key) (x : Value) (e : ps ≡ rest ++ (k, x) ∷ []) (n : new_d ≡ with_pair d k x) where
  pub put_on : put_all new_d (reverse rest) ≡ put_all d (reverse ps)
  put_on = ap (λ qs. put_all qs (reverse rest)) n ∙ ap (put_all d) (sym (turned ps rest (k, x) e))

  pub replaced_on : (old new : List (Key × Value)) (again : Key) (was : Option Value) → again ≡ k → was ≡ value_at d k → new ≡ old ++ replaced_by again was → new ++ replaced new_d (reverse rest) ≡ old ++ replaced d (reverse ps)
  replaced_on old new again was a w m =
      (λ i. m i ++ replaced (n i) (reverse rest))
      ∙ append_assoc old (replaced_by again was) (replaced (with_pair d k x) (reverse rest))
      ∙ (λ i. old ++ (replaced_by (a i) (w i) ++ replaced (with_pair d k x) (reverse rest)))
      ∙ ap (λ qs. old ++ replaced d qs) (sym (turned ps rest (k, x) e))
