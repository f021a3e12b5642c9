use Rattle.std.proofs.Common.{◌≡◌, ◌⊎◌, inl, inr, List, map, refl, ap, sym, subst, ◌∙◌}
use Rattle.gd_model.specs.Datum.{Datum}
use Rattle.gd_model.specs.Meant.{datum}
use Rattle.gd_model.specs.Store.{Store, Names}
use Rattle.gd_answers.specs.Answers.{exact}
use Rattle.gd_answers.proofs.Answer.{gives_exact}
use Rattle.value_semantics.specs.declared.builtin.Builtin.{Builtin}
use Rattle.value_semantics.specs.declared.builtin.Builtin.TheVariants as b
use Rattle.value_semantics.specs.Answer.{in_form}
use Rattle.value_semantics.specs.Builtins.{called}
use Rattle.value_semantics.specs.Functions.{ints_call}
use Rattle.value_semantics.specs.Made.{int_made}
use Rattle.gd_builtins.proofs.builtin.call_builtin.Goals as goal

module _ (store : Store) (names : Names) (builtin : Builtin) (args : List Datum) where
  abbrev IsOfInts : Builtin → Type 0
  IsOfInts x = called store names x args ≡ in_form int_made (ints_call x args)

  at : (x : Builtin) → IsOfInts x → builtin ≡ x → IsOfInts builtin
  at x h e = subst IsOfInts (sym e) h

  -- the functions of ints
  of_ints : (builtin ≡ b.Abs) ⊎ ((builtin ≡ b.Absi) ⊎ ((builtin ≡ b.Min) ⊎ ((builtin ≡ b.Max) ⊎ ((builtin ≡ b.Mini) ⊎ ((builtin ≡ b.Maxi) ⊎ ((builtin ≡ b.Clamp) ⊎ ((builtin ≡ b.Clampi) ⊎ ((builtin ≡ b.Sign) ⊎ ((builtin ≡ b.Signi) ⊎ ((builtin ≡ b.Posmod))))))))))) → IsOfInts builtin
  of_ints which =
      elim which [
        | inl e ↦ at b.Abs refl e
        | inr more ↦ elim more [
          | inl e ↦ at b.Absi refl e
          | inr more ↦ elim more [
            | inl e ↦ at b.Min refl e
            | inr more ↦ elim more [
              | inl e ↦ at b.Max refl e
              | inr more ↦ elim more [
                | inl e ↦ at b.Mini refl e
                | inr more ↦ elim more [
                  | inl e ↦ at b.Maxi refl e
                  | inr more ↦ elim more [
                    | inl e ↦ at b.Clamp refl e
                    | inr more ↦ elim more [
                      | inl e ↦ at b.Clampi refl e
                      | inr more ↦ elim more [
                        | inl e ↦ at b.Sign refl e
                        | inr more ↦ elim more [
                          | inl e ↦ at b.Signi refl e
                          | inr more ↦ at b.Posmod refl more
                        ]
                      ]
                    ]
                  ]
                ]
              ]
            ]
          ]
        ]
      ]

pub returns-in-Abs : goal.returns-in-Abs
returns-in-Abs g c =
    let store = g.K.Look.store c.args.look.now in
    let names = g.K.Look.names c.args.look.now in
    let args = map datum c.args.args.now in
    gives_exact (called store names c.args.builtin args) c.call_on_ints.result (c.call_on_ints.ensures ∙ ap exact (sym (of_ints store names c.args.builtin args c.in-Abs.is)))
