-- Values that are there are whole, since what lies in things is there too.
use Rattle.std.proofs.Common.{◌≡◌, ℕ, zero, suc, List, [], ◌∷◌, eqb, Option, Some, None, refl, sym, subst}
use Rattle.std.specs.Prelude.{find}
use Rattle.std.specs.List.{All, AllByRecursion}
use Rattle.std.proofs.lemmas.Bool.{cond_both}
use Rattle.std.proofs.lemmas.List.Elements.{All-head, All-tail, recursion_from_All}
use Rattle.slot_arena.specs.declared.handle.Handle.{Handle}
use Rattle.gd_model.specs.declared.value.Value.{Value}
use Rattle.gd_model.specs.declared.value.Value.TheVariants as v
use Rattle.gd_model.specs.Whole.{WholeFor, Whole, AllWhole, inside_of, lying_in}
use Rattle.counted_heap.specs.declared.thing.Thing.{Thing}
use Rattle.counted_heap.specs.declared.thing.Thing.TheVariants.{Object, Array, Dict}
use Rattle.std.specs.Prelude.{option_map}
use Rattle.rooted_heap.specs.declared.look.Things.{Things}
use Rattle.rooted_heap.specs.Lent.{things_in, behind, named_in}
use Rattle.rooted_heap.specs.Rooted.{has_serial, lying_at, thing_at, thing_view, seen, names_of, contents, IsThere, AreWhole}

weaker : {X : Type 0} (P Q : X → Type 0) (xs : List X) → ((x : X) → P x → Q x) → AllByRecursion P xs → AllByRecursion Q xs
weaker P Q [] follows all = tt
weaker P Q (x ∷ xs) follows all = (follows x all.0, weaker P Q xs follows all.1)

-- what all things have, the one behind a handle has
pub thing_has : (Q : Thing → Type 0) (things : List (Handle × Thing)) (h : Handle) (t : Thing) → All (λ (p : Handle × Thing). Q p.1) things → thing_at things h ≡ Some t → Q t
thing_has Q [] h t all is = absurd (cc)
thing_has Q (p ∷ ps) h t all is =
    cond_both (eqb p.0.serial h.serial) (Some p) (find (has_serial h.serial) ps)
    (λ o. lying_at h.index o ≡ Some t → Q t)
    (λ here found. cond_both (eqb p.0.index h.index) (Some p.1) None
    (λ o. o ≡ Some t → Q t)
    (λ _ same. let one : p.1 ≡ t = cc in subst Q one (All-head (λ (x : Handle × Thing). Q x.1) p ps all))
    (λ _ same. absurd (cc))
    found)
    (λ other found. thing_has Q ps h t (All-tail (λ (x : Handle × Thing). Q x.1) p ps all) found)
    is

module _ {things : List (Handle × Thing)} {names : List (List ℕ)} {values : List Value} (whole : AreWhole things names values) where
  lying_there : (h : Handle) → AllByRecursion (IsThere things names) (lying_in (seen things h))
  lying_there h = of_thing (thing_at things h) refl
    where
      of_thing : (o : Option Thing) → thing_at things h ≡ o → AllByRecursion (IsThere things names) (lying_in (option_map thing_view o))
      of_thing None is = tt
      of_thing (Some (Object class vs)) is = tt
      of_thing (Some (Array a)) is = recursion_from_All (IsThere things names) a.items (thing_has (λ t. All (IsThere things names) (contents t)) things h (Array a) whole.inside is)
      of_thing (Some (Dict d)) is = recursion_from_All (IsThere things names) (contents (Dict d)) (thing_has (λ t. All (IsThere things names) (contents t)) things h (Dict d) whole.inside is)

  inside_there : (x : Value) → AllByRecursion (IsThere things names) (inside_of (seen things) x)
  inside_there v.Nil = tt
  inside_there (v.Bool b) = tt
  inside_there (v.Int n) = tt
  inside_there (v.Str t) = tt
  inside_there (v.Object h) = tt
  inside_there (v.Array h) = lying_there h
  inside_there (v.Dict h) = lying_there h
  inside_there (v.Callable t) = tt
  inside_there (v.Signal s) = tt

  pub whole_for : (n : ℕ) (x : Value) → IsThere things names x → WholeFor (seen things) (names_of names) n x
  whole_for zero x there = tt
  whole_for (suc n) x there = (there, weaker (IsThere things names) (WholeFor (seen things) (names_of names) n) (inside_of (seen things) x) (λ y is. whole_for n y is) (inside_there x))

  pub all_whole : (left : List Value) → All (IsThere things names) left → AllWhole (seen things) (names_of names) left
  all_whole left there n = weaker (IsThere things names) (WholeFor (seen things) (names_of names) n) left (λ y is. whole_for n y is) (recursion_from_All (IsThere things names) left there)

-- so they are over the things that are lent
pub lent_whole : (lent : Things) (things : List (Handle × Thing)) (names : List (List ℕ)) (x : Value) → things_in lent ≡ things → lent.names.now ≡ names → Whole (seen things) (names_of names) x → Whole (behind lent) (named_in lent) x
lent_whole lent things names x same named whole =
    subst (λ (ns : List (List ℕ)). Whole (seen (things_in lent)) (names_of ns) x) (sym named)
    (subst (λ (bs : List (Handle × Thing)). Whole (seen bs) (names_of names) x) (sym same) whole)

pub all_lent_whole : (lent : Things) (things : List (Handle × Thing)) (names : List (List ℕ)) (xs : List Value) → things_in lent ≡ things → lent.names.now ≡ names → AllWhole (seen things) (names_of names) xs → AllWhole (behind lent) (named_in lent) xs
all_lent_whole lent things names xs same named whole =
    subst (λ (ns : List (List ℕ)). AllWhole (seen (things_in lent)) (names_of ns) xs) (sym named)
    (subst (λ (bs : List (Handle × Thing)). AllWhole (seen bs) (names_of names) xs) (sym same) whole)
