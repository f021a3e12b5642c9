-- The names of a class so far, as loops come to them.
use Rattle.std.proofs.Common.{◌≡◌, ◌<◌, ◌+◌, ℕ, suc, List, [], ◌∷◌, ◌++◌, length, map, drop, take, get_or, Option, Some, None, sym, ap, subst, ◌∙◌, append_assoc, add-one}
use Rattle.std.specs.Option.{option_or, IfNone}
use Rattle.std.proofs.Math.Seq.{drop-cons}
use Rattle.std.proofs.lemmas.List.{map-append, take_more}
use Rattle.gd_bytecode.specs.declared.program.ClassCode.{ClassCode}
use Rattle.gd_bytecode.specs.declared.program.Method.{Method}
use Rattle.gd_bytecode.specs.declared.program.VarCode.{VarCode}
use Rattle.gd_bytecode.specs.declared.field.ClassField.TheVariants as field
use Rattle.gd_bytecode.specs.declared.field.Field.{Field}
use Rattle.gd_bytecode.specs.declared.field.Field.TheVariants.{InClass}
use Rattle.gd_bytecode.specs.declared.numbers.Numbers.{Numbers}
use Rattle.gd_bytecode.specs.declared.program.Program.{Program}
use Rattle.gd_bytecode.specs.First.{first_in, within}
use Rattle.gd_bytecode.specs.ClassFields.{method_fault, method_names, name_fault, named_variable_fault, signal_fault, signal_names, variable_fault, variable_names}
use Rattle.gd_bytecode.specs.Numbering.{AreNumbers, HasNames, Names, ProgramOf, Set}

mapped_more : {X : Type 0} (f : X → ℕ) (xs : List X) (j : ℕ) (d : X) → j < length xs → map f (take (j + 1) xs) ≡ map f (take j xs) ++ f (get_or xs j d) ∷ []
mapped_more f xs j d lt = ap (map f) (take_more xs j d lt) ∙ map-append f (take j xs) (get_or xs j d ∷ [])

pub variable_names_more : (vs : List VarCode) (j : ℕ) (d : VarCode) → j < length vs
    → variable_names (take (j + 1) vs) ≡ variable_names (take j vs) ++ (get_or vs j d).name ∷ []
variable_names_more vs j d lt = mapped_more (λ v. v.name) vs j d lt

pub method_names_more : (c : ClassCode) (ms : List Method) (j : ℕ) (d : Method) → j < length ms
    → method_names c (take (j + 1) ms) ≡ method_names c (take j ms) ++ (get_or ms j d).name ∷ []
method_names_more c ms j d lt =
    ap (λ ns. variable_names c.variables ++ ns) (mapped_more (λ m. m.name) ms j d lt)
    ∙ sym (append_assoc (variable_names c.variables) (map (λ m. m.name) (take j ms)) ((get_or ms j d).name ∷ []))

pub signal_names_more : (c : ClassCode) (ss : List ℕ) (j d : ℕ) → j < length ss
    → signal_names c (take (j + 1) ss) ≡ signal_names c (take j ss) ++ get_or ss j d ∷ []
signal_names_more c ss j d lt =
    ap (λ ns. method_names c c.methods ++ ns) (take_more ss j d lt)
    ∙ sym (append_assoc (method_names c c.methods) (take j ss) (get_or ss j d ∷ []))

pub from_none : {X P : Type 0} (o : Option X) → o ≡ None → IfNone o P → P
from_none None e p = p
from_none (Some x) e p = absurd (cc)

-- an entry without a fault
pub none_or : {X : Type 0} (a b : Option X) → a ≡ None → b ≡ None → option_or a b ≡ None
none_or a b p q = ap (λ o. option_or o b) p ∙ q

pub first_step : {A F : Type 0} (f : ℕ → A → Option F) (xs : List A) (i : ℕ) (d : A) (whole : Option F) → i < length xs
    → f i (get_or xs i d) ≡ None → whole ≡ first_in f i (drop i xs) → whole ≡ first_in f (i + 1) (drop (i + 1) xs)
first_step f xs i d whole lt none inv =
    rw add-one (inv ∙ ap (first_in f i) (drop-cons xs i d lt) ∙ ap (λ o. option_or o (first_in f (suc i) (drop (suc i) xs))) none)

pub first_here : {A F : Type 0} (f : ℕ → A → Option F) (xs : List A) (i : ℕ) (d : A) (whole : Option F) (y : F) → i < length xs
    → f i (get_or xs i d) ≡ Some y → whole ≡ first_in f i (drop i xs) → Some y ≡ whole
first_here f xs i d whole y lt some inv =
    sym (inv ∙ ap (first_in f i) (drop-cons xs i d lt) ∙ ap (λ o. option_or o (first_in f (suc i) (drop (suc i) xs))) some)

or_some : {X : Type 0} (a b : Option X) (x : X) → a ≡ Some x → option_or a b ≡ Some x
or_some a b x p = ap (λ o. option_or o b) p

-- what is told of a name by the numbers
abbrev pub Tells : Numbers → Set ℕ → ℕ → Field → Option Field → Type 0
Tells s old n f fault = (p : ProgramOf) (earlier : Names) → AreNumbers p s → HasNames s old earlier → fault ≡ name_fault p earlier n f

abbrev pub Adds : Numbers → Set ℕ → Set ℕ → ℕ → Option Field → Type 0
Adds s old new n fault = (earlier : Names) → HasNames s old earlier → IfNone fault (HasNames s new (earlier ++ n ∷ []))

module _ (p : Program) (s : Numbers) (are : AreNumbers p s) (i : ℕ) (c : ClassCode) (old new : Set ℕ) (j : ℕ) (name other whole : Option Field) where
  pub variables_step : (vs : List VarCode) (d : VarCode) → vs ≡ c.variables → j < length vs → other ≡ variable_fault p i j (get_or vs j d) → other ≡ None
      → Tells s old (get_or vs j d).name (InClass i (field.Variable j)) name → Adds s old new (get_or vs j d).name name → name ≡ None
      → HasNames s old (variable_names (take j vs)) → whole ≡ first_in (named_variable_fault p i c) j (drop j vs)
      → HasNames s new (variable_names (take (j + 1) vs)) × (whole ≡ first_in (named_variable_fault p i c) (j + 1) (drop (j + 1) vs))
  variables_step vs d e lt is none tells adds right has rest =
      let v : VarCode = get_or vs j d in
      let f : Field = InClass i (field.Variable j) in (
        subst (λ ns. HasNames s new ns) (sym (variable_names_more vs j d lt)) (from_none name right (adds (variable_names (take j vs)) has)),
        first_step (named_variable_fault p i c) vs j d whole lt
            (ap (λ (ws : List VarCode). option_or (name_fault p (variable_names (take j ws)) v.name f) (variable_fault p i j v)) (sym e)
            ∙ none_or (name_fault p (variable_names (take j vs)) v.name f) (variable_fault p i j v)
            (sym (tells p (variable_names (take j vs)) are has) ∙ right) (sym is ∙ none)) rest,
      )

  pub methods_step : (ms : List Method) (d : Method) → ms ≡ c.methods → j < length ms
      → other ≡ within (get_or ms j d).function (length p.functions) (InClass i (field.MethodFunction j)) → other ≡ None
      → Tells s old (get_or ms j d).name (InClass i (field.Method j)) name → Adds s old new (get_or ms j d).name name → name ≡ None
      → HasNames s old (method_names c (take j ms)) → whole ≡ first_in (method_fault p i c) j (drop j ms)
      → HasNames s new (method_names c (take (j + 1) ms)) × (whole ≡ first_in (method_fault p i c) (j + 1) (drop (j + 1) ms))
  methods_step ms d e lt is none tells adds right has rest =
      let m : Method = get_or ms j d in
      let f : Field = InClass i (field.Method j) in
      let g : Option Field = within m.function (length p.functions) (InClass i (field.MethodFunction j)) in (
        subst (λ ns. HasNames s new ns) (sym (method_names_more c ms j d lt)) (from_none name right (adds (method_names c (take j ms)) has)),
        first_step (method_fault p i c) ms j d whole lt
            (ap (λ (ws : List Method). option_or (name_fault p (method_names c (take j ws)) m.name f) g) (sym e)
            ∙ none_or (name_fault p (method_names c (take j ms)) m.name f) g (sym (tells p (method_names c (take j ms)) are has) ∙ right) (sym is ∙ none)) rest,
      )

  pub methods_first : (ms : List Method) (d : Method) (y : Field) → ms ≡ c.methods → j < length ms
      → Tells s old (get_or ms j d).name (InClass i (field.Method j)) name → name ≡ Some y
      → HasNames s old (method_names c (take j ms)) → whole ≡ first_in (method_fault p i c) j (drop j ms) → Some y ≡ whole
  methods_first ms d y e lt tells wrong has rest =
      let m : Method = get_or ms j d in
      let f : Field = InClass i (field.Method j) in
      let g : Option Field = within m.function (length p.functions) (InClass i (field.MethodFunction j)) in
      first_here (method_fault p i c) ms j d whole y lt
      (ap (λ (ws : List Method). option_or (name_fault p (method_names c (take j ws)) m.name f) g) (sym e)
      ∙ or_some (name_fault p (method_names c (take j ms)) m.name f) g y (sym (tells p (method_names c (take j ms)) are has) ∙ wrong)) rest

  pub signals_step : (ss : List ℕ) → ss ≡ c.signals → j < length ss
      → Tells s old (get_or ss j 0) (InClass i (field.Signal j)) name → Adds s old new (get_or ss j 0) name → name ≡ None
      → HasNames s old (signal_names c (take j ss)) → whole ≡ first_in (signal_fault p i c) j (drop j ss)
      → HasNames s new (signal_names c (take (j + 1) ss)) × (whole ≡ first_in (signal_fault p i c) (j + 1) (drop (j + 1) ss))
  signals_step ss e lt tells adds right has rest =
      let f : Field = InClass i (field.Signal j) in (
        subst (λ ns. HasNames s new ns) (sym (signal_names_more c ss j 0 lt)) (from_none name right (adds (signal_names c (take j ss)) has)),
        first_step (signal_fault p i c) ss j 0 whole lt
            (ap (λ (ws : List ℕ). name_fault p (signal_names c (take j ws)) (get_or ss j 0) f) (sym e) ∙ sym (tells p (signal_names c (take j ss)) are has) ∙ right) rest,
      )

  pub signals_first : (ss : List ℕ) (y : Field) → ss ≡ c.signals → j < length ss
      → Tells s old (get_or ss j 0) (InClass i (field.Signal j)) name → name ≡ Some y
      → HasNames s old (signal_names c (take j ss)) → whole ≡ first_in (signal_fault p i c) j (drop j ss) → Some y ≡ whole
  signals_first ss y e lt tells wrong has rest =
      let f : Field = InClass i (field.Signal j) in
      first_here (signal_fault p i c) ss j 0 whole y lt
      (ap (λ (ws : List ℕ). name_fault p (signal_names c (take j ws)) (get_or ss j 0) f) (sym e) ∙ sym (tells p (signal_names c (take j ss)) are has) ∙ wrong) rest
