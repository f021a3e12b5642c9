-- What sorting means for ints and for Strings.
use Rattle.std.proofs.Common.{◌≡◌, ℕ, ◌<◌, Bool, true, false, not, ◌&&◌, ◌||◌, zero, suc, Ok, Err, List, [], ◌∷◌, length, map, get_or, ℤ, pos, negsuc, int_le, nat_le, nat_lt, cond, inl, inr, true≢false, refl, ap, sym, ◌∙◌, subst, arith, if◌then◌else◌, IsPermutation, IsSorted}
use Rattle.std.specs.Prelude.{Option, Some, IfSome}
use Rattle.std.proofs.lemmas.Bool.{cases_lt, le-leb, le-ltb, lt-leb, lt-ltb}
use Rattle.std.proofs.lemmas.Cmp.{upto, int_ranked, int_cmp_total, nat_list_cmp_total}
use Rattle.std.proofs.lemmas.Slice.Eq.{bytes_eq-Decides}
use Rattle.std.proofs.lemmas.List.Sorted.{sorted_far, ranks_by}
use Rattle.std.specs.List.{list_all}
use Rattle.std.specs.declared.cmp.Ordering.{Ordering}
use Rattle.std.specs.declared.cmp.Ordering.TheVariants.{Less, Equal, Greater}
use Rattle.std.specs.Cmp.{IsTotalOrder}
use Rattle.std.specs.Cmp.Lexicographic.{slice_cmp, texts_ties}
use Rattle.std.specs.Ordering.{nat_cmp, int_cmp, is_eq, is_gt, is_lt, ordering_reverse}
use Rattle.gd_model.specs.declared.fault.RunFault.TheVariants.{BadOperands}
use Rattle.gd_model.specs.declared.value.Value.{Value}
use Rattle.gd_model.specs.declared.value.Value.TheVariants as v
use Rattle.gd_model.specs.Datum as d
use Rattle.gd_model.specs.Datum.{Datum}
use Rattle.gd_model.specs.Meant.{datum}
use Rattle.store_semantics.specs.Writes.{comes_first, is_int, is_text, sorted_in, sorted}
use Rattle.container_methods.specs.Arrays.{sorted_items, order_if}
use Rattle.container_methods.proofs.Insertion.{IsOrder, inserted, in_order, in_order-is, rises_from}

other_way : (r s : Ordering) → r ≡ ordering_reverse s → not (is_gt r) ≡ false → not (is_gt s) ≡ true
other_way r Less e h = refl
other_way r Equal e h = refl
other_way r Greater e h = absurd (true≢false (sym (ap (λ t. not (is_gt t)) e) ∙ h))

both : (r s : Ordering) → r ≡ ordering_reverse s → not (is_gt r) ≡ true → not (is_gt s) ≡ true → r ≡ Equal
both r Less e h k = absurd (true≢false (sym h ∙ ap (λ t. not (is_gt t)) e))
both r Equal e h k = e
both r Greater e h k = cc

not_less : (r s : Ordering) → r ≡ ordering_reverse s → is_lt s ≡ false → not (is_gt r) ≡ true
not_less r Less e h = cc
not_less r Equal e h = ap (λ t. not (is_gt t)) e
not_less r Greater e h = ap (λ t. not (is_gt t)) e

no : (b : Bool) → not b ≡ true → b ≡ false
no true e = cc
no false e = refl

module _ {K : Type 0} {R : K → K → Ordering} (o : IsTotalOrder R) (ties : (x y : K) → R x y ≡ Equal → x ≡ y) where
  abbrev first : K → K → Bool
  first x y = not (is_gt (R x y))

  ordered : IsOrder first
  ordered = record {
    total = λ x y e. other_way (R x y) (R y x) (o.antisymm x y) e;
    trans = λ x y z e f. ap not (upto o x y z (no (is_gt (R x y)) e) (no (is_gt (R y z)) f));
    exact = λ x y e f. ties x y (both (R x y) (R y x) (o.antisymm x y) e f);
  }

  module _ (form : K → Datum) (agrees : (x y : K) → comes_first (form x) (form y) ≡ first x y) where
    put_by : (b c : Bool) (x y : K) (ys : List K) (zs : List Datum) → b ≡ c → zs ≡ map form (inserted first x ys) → (if b then form x ∷ form y ∷ map form ys else form y ∷ zs) ≡ map form (if c then x ∷ y ∷ ys else y ∷ inserted first x ys)
    put_by true true x y ys zs e h = refl
    put_by false false x y ys zs e h = ap (λ ws. form y ∷ ws) h
    put_by true false x y ys zs e h = cc
    put_by false true x y ys zs e h = cc

    sorted_in-map : (x : K) (ys : List K) → sorted_in (form x) (map form ys) ≡ map form (inserted first x ys)
    sorted_in-map x [] = refl
    sorted_in-map x (y ∷ ys) = put_by (comes_first (form x) (form y)) (first x y) x y ys _ (agrees x y) (sorted_in-map x ys)

    sorted-map : (xs : List K) → sorted (map form xs) ≡ map form (in_order first xs)
    sorted-map [] = refl
    sorted-map (x ∷ xs) = ap (sorted_in (form x)) (sorted-map xs) ∙ sorted_in-map x (in_order first xs)

    pub sorted_is : (xs ys : List K) → IsPermutation xs ys → IsSorted R ys → sorted (map form xs) ≡ map form ys
    sorted_is xs ys p s =
        sorted-map xs
        ∙ ap (map form) (in_order-is first ordered xs ys
        (rises_from first (λ x y. is_lt (R x y)) (λ x y e. not_less (R x y) (R y x) (o.antisymm x y) e) ys (λ i j e a b. sorted_far (λ x y. is_lt (R x y)) (ranks_by o (λ x. x)) ys s i j e a b)) p)

int_ties : (x y : ℤ) → int_cmp x y ≡ Equal → x ≡ y
int_ties x y e = int_ranked x y Equal (sym e)

nat_first : (a b : ℕ) → nat_le a b ≡ not (is_gt (cond (nat_lt a b) Less (cond (nat_lt b a) Greater Equal)))
nat_first a b =
    elim (cases_lt a b) [
      | inl lt ↦ le-leb a b (omega arith) ∙ ap (λ t. not (is_gt (cond t Less (cond (nat_lt b a) Greater Equal)))) (sym (lt-ltb a b lt))
      | inr ge ↦ elim (cases_lt b a) [
        | inl gt ↦ lt-leb a b gt ∙ (λ i. not (is_gt (cond (sym (le-ltb a b ge) i) Less (cond (sym (lt-ltb b a gt) i) Greater Equal))))
        | inr le ↦ le-leb a b le ∙ (λ i. not (is_gt (cond (sym (le-ltb a b ge) i) Less (cond (sym (le-ltb b a le) i) Greater Equal))))
      ]
    ]

int_first : (x y : ℤ) → int_le x y ≡ not (is_gt (int_cmp x y))
int_first (pos a) (pos b) = nat_first a b
int_first (pos a) (negsuc b) = refl
int_first (negsuc a) (pos b) = refl
int_first (negsuc a) (negsuc b) = nat_first b a

text_ties : (x y : List ℕ) → slice_cmp nat_cmp x y ≡ Equal → x ≡ y
text_ties x y e = (bytes_eq-Decides x y).0 (texts_ties x y ∙ ap is_eq e)

as_ints : (ns : List ℤ) → map datum (map (λ n. v.Int n) ns) ≡ map (λ n. d.int n) ns
as_ints [] = refl
as_ints (n ∷ ns) = ap (λ xs. d.int n ∷ xs) (as_ints ns)

as_texts : (ts : List (List ℕ)) → map datum (map (λ t. v.Str t) ts) ≡ map (λ t. d.text t) ts
as_texts [] = refl
as_texts (t ∷ ts) = ap (λ xs. d.text t ∷ xs) (as_texts ts)

-- the sorted ints, and the sorted Strings
pub ints_sorted : (all : List Value) (ns ms : List ℤ) → IsPermutation ns ms → IsSorted int_cmp ms → all ≡ map (λ n. v.Int n) ms → map datum all ≡ sorted (map (λ n. d.int n) ns)
ints_sorted all ns ms p s f = ap (map datum) f ∙ as_ints ms ∙ sym (sorted_is int_cmp_total int_ties (λ n. d.int n) int_first ns ms p s)

pub texts_sorted : (all : List Value) (ns ms : List (List ℕ)) → IsPermutation ns ms → IsSorted (slice_cmp nat_cmp) ms → all ≡ map (λ t. v.Str t) ms → map datum all ≡ sorted (map (λ t. d.text t) ns)
texts_sorted all ns ms p s f = ap (map datum) f ∙ as_texts ms ∙ sym (sorted_is nat_list_cmp_total text_ties (λ t. d.text t) (λ x y. refl) ns ms p s)

all_ints : (ns : List ℤ) → list_all is_int (map (λ n. d.int n) ns) ≡ true
all_ints [] = refl
all_ints (n ∷ ns) = all_ints ns

all_texts : (ts : List (List ℕ)) → list_all is_text (map (λ t. d.text t) ts) ≡ true
all_texts [] = refl
all_texts (t ∷ ts) = all_texts ts

no_matter : (b : Bool) → (b || true) ≡ true
no_matter true = refl
no_matter false = refl

-- what holds of the list that was found
pub found_so : {V : Type 0} → (o : Option V) (x : V) (P : V → Type 0) → o ≡ Some x → IfSome o P → P x
found_so o x P e h = subst (λ p. IfSome p P) e h

-- the elements in order where all are ints, and where all are Strings
pub ints_meant : (items all : List Value) (ns : List ℤ) → items ≡ map (λ n. v.Int n) ns → map datum all ≡ sorted (map (λ n. d.int n) ns) → sorted_items (map datum items) ≡ Ok (map datum all)
ints_meant items all ns e f =
    let at : map datum items ≡ map (λ n. d.int n) ns = ap (map datum) e ∙ as_ints ns in
    ap sorted_items at ∙ ap (λ b. order_if (b || list_all is_text (map (λ n. d.int n) ns)) (map (λ n. d.int n) ns)) (all_ints ns) ∙ ap (λ xs. Ok xs) (sym f)

pub texts_meant : (items all : List Value) (ts : List (List ℕ)) → items ≡ map (λ t. v.Str t) ts → map datum all ≡ sorted (map (λ t. d.text t) ts) → sorted_items (map datum items) ≡ Ok (map datum all)
texts_meant items all ts e f =
    let at : map datum items ≡ map (λ t. d.text t) ts = ap (map datum) e ∙ as_texts ts in
    ap sorted_items at ∙ ap (λ b. order_if b (map (λ t. d.text t) ts)) (ap (λ b. list_all is_int (map (λ t. d.text t) ts) || b) (all_texts ts) ∙ no_matter (list_all is_int (map (λ t. d.text t) ts))) ∙ ap (λ xs. Ok xs) (sym f)

-- the elements are of neither kind
pub not_sorted : (items : List Value) → list_all is_int (map datum items) ≡ false → list_all is_text (map datum items) ≡ false → sorted_items (map datum items) ≡ Err BadOperands
not_sorted items e f = λ i. order_if (e i || f i) (map datum items)

-- one element is not of the kind
pub fails_at : (p : Datum → Bool) (xs : List Value) (i : ℕ) (x : Value) → x ≡ get_or xs i x → i < length xs → p (datum x) ≡ false → list_all p (map datum xs) ≡ false
fails_at p [] i x e h n = absurd (omega arith)
fails_at p (y ∷ ys) zero x e h n = ap (λ b. b && list_all p (map datum ys)) (ap (λ z. p (datum z)) (sym e) ∙ n)
fails_at p (y ∷ ys) (suc i) x e h n = ap (λ b. p (datum y) && b) (fails_at p ys i x e (omega arith) n) ∙ nothing (p (datum y))
  where
    nothing : (b : Bool) → (b && false) ≡ false
    nothing true = refl
    nothing false = refl
