-- Sorting by insertion: a list in order is what sorting any list of its elements gives.
use Rattle.std.proofs.Common.{◌≡◌, ℕ, suc, ◌+◌, ◌<◌, ◌≤◌, Bool, true, false, ◌&&◌, List, [], ◌∷◌, length, get_or, refl, ap, sym, ◌∙◌, arith, if◌then◌else◌, sum_by, IsPermutation}
use Rattle.std.proofs.lemmas.List.Sorted.{sum_by-IsPermutation}
use Rattle.std.proofs.lemmas.List.Sums.{sum_by-cons}

-- an order: of two elements one comes first, and both do only where they are one
pub record IsOrder {K : Type 0} (le : K → K → Bool) : Type 0 where
  pub total : (x y : K) → le x y ≡ false → le y x ≡ true
  pub trans : (x y z : K) → le x y ≡ true → le y z ≡ true → le x z ≡ true
  pub exact : (x y : K) → le x y ≡ true → le y x ≡ true → x ≡ y

abbrev total : {K : Type 0} → (K → ℕ) → List K → ℕ
total f [] = 0
total f (x ∷ xs) = f x + total f xs

total-is : {K : Type 0} → (f : K → ℕ) (xs : List K) → total f xs ≡ sum_by f xs
total-is f [] = refl
total-is f (x ∷ xs) = ap (λ n. f x + n) (total-is f xs) ∙ sym (sum_by-cons f x xs)

and_right : (a b : Bool) → (a && b) ≡ true → b ≡ true
and_right true b e = e
and_right false b e = cc

module _ {K : Type 0} (le : K → K → Bool) where
  abbrev pub inserted : K → List K → List K
  inserted x [] = x ∷ []
  inserted x (y ∷ ys) = if le x y then x ∷ y ∷ ys else y ∷ inserted x ys

  abbrev pub in_order : List K → List K
  in_order [] = []
  in_order (x ∷ xs) = inserted x (in_order xs)

  -- the element comes before all of these, and each element before those behind it
  abbrev pub IsBelow : K → List K → Type 0
  IsBelow x [] = Unit {0}
  IsBelow x (y ∷ ys) = (le x y ≡ true) × IsBelow x ys

  abbrev pub Rises : List K → Type 0
  Rises [] = Unit {0}
  Rises (x ∷ xs) = IsBelow x xs × Rises xs

  -- 1 where the two are one
  abbrev pub one_of : K → K → ℕ
  one_of c y = if le c y && le y c then 1 else 0

  below_by : (b : Bool) (z x y : K) (ys : List K) → le z x ≡ true → IsBelow z (y ∷ ys) → IsBelow z (inserted x ys) → IsBelow z (if b then x ∷ y ∷ ys else y ∷ inserted x ys)
  below_by true z x y ys l h more = (l, h)
  below_by false z x y ys l h more = (h.0, more)

  below_more : (z x : K) (xs : List K) → le z x ≡ true → IsBelow z xs → IsBelow z (inserted x xs)
  below_more z x [] l h = (l, tt)
  below_more z x (y ∷ ys) l h = below_by (le x y) z x y ys l h (below_more z x ys l h.1)

  count_by_test : (f : K → ℕ) (b : Bool) (x y : K) (ys : List K) → total f (inserted x ys) ≡ f x + total f ys → total f (if b then x ∷ y ∷ ys else y ∷ inserted x ys) ≡ f x + (f y + total f ys)
  count_by_test f true x y ys e = refl
  count_by_test f false x y ys e = omega arith

  counts_more : (f : K → ℕ) (x : K) (xs : List K) → total f (inserted x xs) ≡ f x + total f xs
  counts_more f x [] = refl
  counts_more f x (y ∷ ys) = count_by_test f (le x y) x y ys (counts_more f x ys)

  counts : (f : K → ℕ) (xs : List K) → total f (in_order xs) ≡ total f xs
  counts f [] = refl
  counts f (x ∷ xs) = counts_more f x (in_order xs) ∙ ap (λ n. f x + n) (counts f xs)

  module _ (o : IsOrder le) where
    self_by : (x : K) (b : Bool) → le x x ≡ b → le x x ≡ true
    self_by x true e = e
    self_by x false e = o.total x x e

    self : (x : K) → le x x ≡ true
    self x = self_by x (le x x) refl

    own : (x : K) → one_of x x ≡ 1
    own x = ap (λ b. if b && b then 1 else 0) (self x)

    below_through : (x y : K) (ys : List K) → le x y ≡ true → IsBelow y ys → IsBelow x ys
    below_through x y [] l h = tt
    below_through x y (w ∷ ws) l h = (o.trans x y w l h.0, below_through x y ws l h.1)

    rises_by : (b : Bool) (x y : K) (ys : List K) → le x y ≡ b → Rises (y ∷ ys) → Rises (inserted x ys) → Rises (if b then x ∷ y ∷ ys else y ∷ inserted x ys)
    rises_by true x y ys e r more = ((e, below_through x y ys e r.0), r)
    rises_by false x y ys e r more = (below_more y x ys (o.total x y e) r.0, more)

    rises_more : (x : K) (xs : List K) → Rises xs → Rises (inserted x xs)
    rises_more x [] r = (tt, tt)
    rises_more x (y ∷ ys) r = rises_by (le x y) x y ys refl r (rises_more x ys r.1)

    rises : (xs : List K) → Rises (in_order xs)
    rises [] = tt
    rises (x ∷ xs) = rises_more x (in_order xs) (rises xs)

    lowest_by : (y x w : K) (ws : List K) (b : Bool) → (le x w && le w x) ≡ b → le y w ≡ true → 0 < (if b then 1 else 0) + total (one_of x) ws → (0 < total (one_of x) ws → le y x ≡ true) → le y x ≡ true
    lowest_by y x w ws true e l h more = o.trans y w x l (and_right (le x w) (le w x) e)
    lowest_by y x w ws false e l h more = more (omega arith)

    -- an element that is among these does not come before what is below them
    lowest : (y x : K) (ys : List K) → IsBelow y ys → 0 < total (one_of x) ys → le y x ≡ true
    lowest y x [] h some = absurd (omega arith)
    lowest y x (w ∷ ws) h some = lowest_by y x w ws (le x w && le w x) refl h.0 some (lowest y x ws h.1)

    -- two lists in order that have each element equally often are one
    same : (xs ys : List K) → Rises xs → Rises ys → ((c : K) → total (one_of c) xs ≡ total (one_of c) ys) → xs ≡ ys
    same [] [] r s h = refl
    same [] (y ∷ ys) r s h = let one = own y in let e : 0 ≡ one_of y y + total (one_of y) ys = h y in absurd (omega arith)
    same (x ∷ xs) [] r s h = let one = own x in let e : one_of x x + total (one_of x) xs ≡ 0 = h x in absurd (omega arith)
    same (x ∷ xs) (y ∷ ys) r s h =
        let own-x = own x in
        let own-y = own y in
        let at-x : one_of x x + total (one_of x) xs ≡ total (one_of x) (y ∷ ys) = h x in
        let at-y : total (one_of y) (x ∷ xs) ≡ one_of y y + total (one_of y) ys = h y in
        let down = lowest y x (y ∷ ys) (self y, s.0) (omega arith) in
        let up = lowest x y (x ∷ xs) (self x, r.0) (omega arith) in
        let e = o.exact x y up down in
        let tails : (c : K) → total (one_of c) xs ≡ total (one_of c) ys = λ c. tail_of c x y xs ys e (h c) in
        let rest = same xs ys r.1 s.1 tails in
        λ i. e i ∷ rest i
      where
        tail_of : (c x y : K) (xs ys : List K) → x ≡ y → one_of c x + total (one_of c) xs ≡ one_of c y + total (one_of c) ys → total (one_of c) xs ≡ total (one_of c) ys
        tail_of c x y xs ys e h = let same_one : one_of c x ≡ one_of c y = ap (one_of c) e in omega arith

    pub in_order-is : (xs ys : List K) → Rises ys → IsPermutation xs ys → in_order xs ≡ ys
    in_order-is xs ys r p = same (in_order xs) ys (rises xs) r (λ c. counts (one_of c) xs ∙ total-is (one_of c) xs ∙ sym (sum_by-IsPermutation (one_of c) xs ys p) ∙ sym (total-is (one_of c) ys))

  module _ (lt : K → K → Bool) (upto : (x y : K) → lt y x ≡ false → le x y ≡ true) where
    below_from : (y : K) (ys : List K) → ((j : ℕ) (d : K) → j < length ys → lt (get_or ys j d) y ≡ false) → IsBelow y ys
    below_from y [] h = tt
    below_from y (w ∷ ws) h = (upto y w (h 0 w (omega arith)), below_from y ws (λ j d l. h (suc j) d (omega arith)))

    -- a list in which no later element is less than an earlier one
    pub rises_from : (ys : List K) → ((i j : ℕ) (d : K) → i ≤ j → j < length ys → lt (get_or ys j d) (get_or ys i d) ≡ false) → Rises ys
    rises_from [] h = tt
    rises_from (y ∷ ys) h = (below_from y ys (λ j d l. h 0 (suc j) d (omega arith) (omega arith)), rises_from ys (λ i j d a b. h (suc i) (suc j) d (omega arith) (omega arith)))
