-- Numbers that equal entries share, as a loop gives them.
use Rattle.std.proofs.Common.{◌≡◌, ◌≤◌, ◌⊎◌, inl, inr, ℕ, zero, suc, Bool, true, false, cond, List, [], ◌∷◌, ◌++◌, length, Option, Some, None, refl, sym, ap, subst, ◌∙◌, arith, nat_eq}
use Rattle.std.specs.Prelude.{slice_get, is_some}
use Rattle.std.specs.Bool.{Decides}
use Rattle.std.specs.List.{AllByRecursion, IsDistinct, list_any}
use Rattle.std.proofs.lemmas.Bool.{eq-eqb, eqb-true}
use Rattle.indexmap.specs.IndexSet.{insert_key}
use Rattle.gd_bytecode.specs.Numbering.{Share}
use Rattle.gd_bytecode.specs.Tables.{both}

-- the number of each entry is the place of the key that it equals
abbrev pub Places : {X : Type 0} → List X → List X → List ℕ → Type 0
Places {X} keys xs ns = (i n : ℕ) (x : X) → slice_get ns i ≡ Some n → slice_get xs i ≡ Some x → slice_get keys n ≡ Some x

still_there : {X : Type 0} (xs ys : List X) (i : ℕ) (x : X) → slice_get xs i ≡ Some x → slice_get (xs ++ ys) i ≡ Some x
still_there [] ys i x e = absurd (cc)
still_there (y ∷ xs) ys zero x e = e
still_there (y ∷ xs) ys (suc i) x e = still_there xs ys i x e

last_or_before : {X : Type 0} (xs : List X) (y : X) (i : ℕ) (z : X) → slice_get (xs ++ y ∷ []) i ≡ Some z
    → (slice_get xs i ≡ Some z) ⊎ ((i ≡ length xs) × (z ≡ y))
last_or_before [] y zero z e = inr (refl, cc)
last_or_before [] y (suc i) z e = absurd (cc)
last_or_before (x ∷ xs) y zero z e = inl e
last_or_before (x ∷ xs) y (suc i) z e = elim (last_or_before xs y i z e) [ inl h ↦ inl h | inr h ↦ inr (ap suc h.0, h.1) ]

kept : {X : Type 0} (eq : X → X → Bool) (keys : List X) (k : X) (n : ℕ) (x : X) → slice_get keys n ≡ Some x → slice_get (insert_key eq keys k) n ≡ Some x
kept eq keys k n x e = by (list_any (eq k) keys)
  where
    by : (b : Bool) → slice_get (cond b keys (keys ++ k ∷ [])) n ≡ Some x
    by true = e
    by false = still_there keys (k ∷ []) n x e

pub places_more : {X : Type 0} (eq : X → X → Bool) (keys new xs : List X) (ns : List ℕ) (x : X) (r : ℕ) → new ≡ insert_key eq keys x
    → slice_get new r ≡ Some x → slice_get xs (length ns) ≡ Some x → Places keys xs ns → Places new xs (ns ++ r ∷ [])
places_more {X} eq keys new xs ns x r grown at here inv i n y number entry = elim (last_or_before ns r i n number) [
  | inl old ↦ let P : List X → Type 0 = λ ks. slice_get ks n ≡ Some y in subst P (sym grown) (kept eq keys x n y (inv i n y old entry))
  | inr e ↦ let there : slice_get xs i ≡ Some x = ap (slice_get xs) e.0 ∙ here in let one : x ≡ y = cc in let is : n ≡ r = e.1 in cc
]

never : {X : Type 0} (f : X → Bool) (ks : List X) (n : ℕ) (y : X) → AllByRecursion (λ z. f z ≡ false) ks → slice_get ks n ≡ Some y → f y ≡ false
never f [] n y all e = absurd (cc)
never f (k ∷ ks) zero y all e = let one : k ≡ y = cc in subst (λ z. f z ≡ false) one all.0
never f (k ∷ ks) (suc n) y all e = never f ks n y all.1 e

one_place : {X : Type 0} (eq : X → X → Bool) → ((x : X) → eq x x ≡ true) → (ks : List X) → IsDistinct eq ks → (m n : ℕ) (x : X)
    → slice_get ks m ≡ Some x → slice_get ks n ≡ Some x → m ≡ n
unfolding IsDistinct
one_place eq own [] d m n x p q = absurd (cc)
one_place eq own (k ∷ ks) d zero zero x p q = refl
one_place eq own (k ∷ ks) d zero (suc n) x p q =
    let one : k ≡ x = cc in let no : eq k x ≡ false = never (eq k) ks n x d.0 q in
    let yes : eq k x ≡ true = subst (λ z. eq k z ≡ true) one (own k) in absurd (cc)
one_place eq own (k ∷ ks) d (suc m) zero x p q =
    let one : k ≡ x = cc in let no : eq k x ≡ false = never (eq k) ks m x d.0 p in
    let yes : eq k x ≡ true = subst (λ z. eq k z ≡ true) one (own k) in absurd (cc)
one_place eq own (k ∷ ks) d (suc m) (suc n) x p q = ap suc (one_place eq own ks d.1 m n x p q)

pub there_both : {X Y : Type 0} (xs : List X) (ys : List Y) → length xs ≡ length ys → (i : ℕ) → is_some (slice_get xs i) ≡ is_some (slice_get ys i)
there_both [] [] e i = refl
there_both [] (y ∷ ys) e i = absurd (omega arith)
there_both (x ∷ xs) [] e i = absurd (omega arith)
there_both (x ∷ xs) (y ∷ ys) e zero = refl
there_both (x ∷ xs) (y ∷ ys) e (suc i) = there_both xs ys (omega arith) i

pub alike : (a b : Bool) → (a ≡ true → b ≡ true) → (b ≡ true → a ≡ true) → a ≡ b
alike true true f g = refl
alike true false f g = sym (f refl)
alike false true f g = g refl
alike false false f g = refl

module _ {X : Type 0} (eq : X → X → Bool) (same : (a b : X) → Decides (eq a b) (a ≡ b)) (keys : List X) (apart : IsDistinct eq keys) where
  abbrev Placed : Option ℕ → Option X → Type 0
  Placed a x = (m : ℕ) (u : X) → a ≡ Some m → x ≡ Some u → slice_get keys m ≡ Some u

  numbers : (m n : ℕ) (u v : X) → slice_get keys m ≡ Some u → slice_get keys n ≡ Some v → nat_eq m n ≡ eq u v
  numbers m n u v p q = alike (nat_eq m n) (eq u v)
      (λ e. let one : m ≡ n = eqb-true m n e in let s : u ≡ v = cc in (same u v).1 s)
      (λ e. let s : u ≡ v = (same u v).0 e in
      let one : m ≡ n = one_place eq (λ x. (same x x).1 refl) keys apart m n v (subst (λ w. slice_get keys m ≡ Some w) s p) q in eq-eqb m n one)

  two : (a b : Option ℕ) (x y : Option X) → is_some a ≡ is_some x → is_some b ≡ is_some y → Placed a x → Placed b y → both nat_eq a b ≡ both eq x y
  two None b None y e f g h = refl
  two None b (Some u) y e f g h = absurd (cc)
  two (Some m) b None y e f g h = absurd (cc)
  two (Some m) None (Some u) None e f g h = refl
  two (Some m) None (Some u) (Some v) e f g h = absurd (cc)
  two (Some m) (Some n) (Some u) None e f g h = absurd (cc)
  two (Some m) (Some n) (Some u) (Some v) e f g h = numbers m n u v (g m u refl refl) (h n v refl refl)

  pub shares : (xs : List X) (ns : List ℕ) → length ns ≡ length xs → Places keys xs ns
      → (i j : ℕ) → both nat_eq (slice_get ns i) (slice_get ns j) ≡ both eq (slice_get xs i) (slice_get xs j)
  shares xs ns count placed i j =
      two (slice_get ns i) (slice_get ns j) (slice_get xs i) (slice_get xs j) (there_both ns xs count i) (there_both ns xs count j) (placed i) (placed j)

-- one more entry
pub number_more : {X : Type 0} (eq : X → X → Bool) → ((a b : X) → Decides (eq a b) (a ≡ b)) → (keys new xs : List X) (ns more : List ℕ) (v : X) (r i : ℕ)
    → more ≡ ns ++ r ∷ [] → new ≡ insert_key eq keys v → ((k : X) × (slice_get new r ≡ Some k) × (eq v k ≡ true)) → slice_get xs i ≡ Some v → length ns ≡ i
    → Places keys xs ns → Places new xs more
number_more {X} eq same keys new xs ns more v r i pushed grown (k, at, one) entry count placed =
    let here : slice_get new r ≡ Some v = at ∙ ap (λ y. Some y) (sym ((same v k).0 one)) in
    let there : slice_get xs (length ns) ≡ Some v = ap (slice_get xs) count ∙ entry in
    subst (λ m. Places new xs m) (sym pushed) (places_more eq keys new xs ns v r grown here there placed)

pub places_none : {X : Type 0} (keys xs : List X) → Places keys xs []
places_none keys xs i n x number entry = absurd (cc)

pub all_numbered : {X : Type 0} (eq : X → X → Bool) → ((a b : X) → Decides (eq a b) (a ≡ b)) → (keys xs : List X) (ns : List ℕ) (i : ℕ) → length ns ≡ i
    → i ≤ length xs → length xs ≤ i → IsDistinct eq keys → Places keys xs ns → Share eq xs ns
all_numbered eq same keys xs ns i count few all apart placed =
    let number : length ns ≡ length xs = omega (arith, count, few, all) in
    record { count = number; same = shares eq same keys apart xs ns number placed }
