-- What an emitter's connections have of each signal, after each change of them.
use Rattle.std.proofs.Common.{◌≡◌, ℕ, Bool, true, false, not, cond, ◌&&◌, ◌||◌, List, [], ◌∷◌, ◌++◌, map, Option, Some, option_map, refl, sym, ap, ◌∙◌, nat_eq}
use Rattle.std.specs.Prelude.{filter, unwrap_or, Result, Ok, Err, OnErr}
use Rattle.std.specs.List.{list_any}
use Rattle.std.specs.Map.{lookup}
use Rattle.std.specs.Str.{bytes_eq}
use Rattle.std.proofs.lemmas.Bool.{cond_both, cond-true, cond-false, eqb-true}
use Rattle.std.proofs.lemmas.List.{append-nil, map-append}
use Rattle.std.proofs.lemmas.List.Elements.{filter-append}
use Rattle.std.proofs.lemmas.Map.Made.{lookup-map_values}
use Rattle.std.proofs.lemmas.Slice.Eq.{bytes_eq-Decides}
use Rattle.gd_model.specs.declared.value.Target.{Target}
use Rattle.gd_signals.specs.declared.connection.Connection.{Connection}
use Rattle.gd_signals.specs.Connections.{Emitters, Link, is_of, is_one, is_between, link, links_of, of_emitter, links, is_linked, without}

pub through : {A B : Type 0} (f : A → B) (b : Bool) (x y : A) → f (cond b x y) ≡ cond b (f x) (f y)
through f true x y = refl
through f false x y = refl

pub either : {A : Type 0} (b : Bool) (x : A) → cond b x x ≡ x
either true x = refl
either false x = refl

pub nested : {A : Type 0} (b d : Bool) (x y : A) → cond b (cond d x y) y ≡ cond (b && d) x y
nested true d x y = refl
nested false d x y = refl

-- what is taken where the test passes need agree only there
pub where_true : {A : Type 0} (b : Bool) (x y z : A) → (b ≡ true → x ≡ y) → cond b x z ≡ cond b y z
where_true true x y z same = same refl
where_true false x y z same = refl

pub on_err : {A E : Type 0} {P : Type 0} (r : Result A E) → P → OnErr r P
on_err (Ok x) p = tt
on_err (Err e) p = p

swap : {X : Type 0} (p q r : X → Bool) → ((x : X) → p x ≡ true → q x ≡ r x) → (l : List X) → filter p (filter q l) ≡ filter r (filter p l)
swap p q r agree [] = refl
swap p q r agree (x ∷ l) =
    cond_both (p x) (x ∷ filter p l) (filter p l) (λ k. filter p (filter q (x ∷ l)) ≡ filter r k)
    (λ here. cond_both (q x) (x ∷ filter q l) (filter q l) (λ k. filter p k ≡ filter r (x ∷ filter p l))
    (λ yes. cond-true (p x) (x ∷ filter p (filter q l)) (filter p (filter q l)) here ∙ ap (λ k. x ∷ k) (swap p q r agree l) ∙ sym (cond-true (r x) (x ∷ filter r (filter p l)) (filter r (filter p l)) (sym (agree x here) ∙ yes)))
    (λ no. swap p q r agree l ∙ sym (cond-false (r x) (x ∷ filter r (filter p l)) (filter r (filter p l)) (sym (agree x here) ∙ no))))
    (λ other. cond_both (q x) (x ∷ filter q l) (filter q l) (λ k. filter p k ≡ filter r (filter p l))
    (λ _. cond-false (p x) (x ∷ filter p (filter q l)) (filter p (filter q l)) other ∙ swap p q r agree l)
    (λ _. swap p q r agree l))

all_pass : {X : Type 0} (l : List X) → filter (λ _. true) l ≡ l
all_pass [] = refl
all_pass (x ∷ l) = ap (λ k. x ∷ k) (all_pass l)

filtered_map : {X Y : Type 0} (g : X → Y) (f : Y → Bool) (l : List X) → filter f (map g l) ≡ map g (filter (λ x. f (g x)) l)
filtered_map g f [] = refl
filtered_map g f (x ∷ l) =
    cond_both (f (g x)) (x ∷ filter (λ y. f (g y)) l) (filter (λ y. f (g y)) l) (λ k. filter f (map g (x ∷ l)) ≡ map g k)
    (λ yes. cond-true (f (g x)) (g x ∷ filter f (map g l)) (filter f (map g l)) yes ∙ ap (λ k. g x ∷ k) (filtered_map g f l))
    (λ no. cond-false (f (g x)) (g x ∷ filter f (map g l)) (filter f (map g l)) no ∙ filtered_map g f l)

-- a target is connected where it is in the list of the signal
pub any_linked : (signal : List ℕ) (to : Target) (l : List Connection) → list_any (is_between signal to) l ≡ is_linked to (links_of signal l)
any_linked signal to [] = refl
any_linked signal to (c ∷ l) =
    cond_both (is_of signal c) (c ∷ filter (is_of signal) l) (filter (is_of signal) l)
    (λ k. list_any (is_between signal to) (c ∷ l) ≡ is_linked to (map link k))
    (λ here. ap (λ (b : Bool). (b && is_one c.to to) || list_any (is_between signal to) l) here ∙ ap (λ (b : Bool). is_one c.to to || b) (any_linked signal to l))
    (λ other. ap (λ (b : Bool). (b && is_one c.to to) || list_any (is_between signal to) l) other ∙ any_linked signal to l)

-- a connection that is added comes last in the list of its signal
pub links_pushed : (s : List ℕ) (l : List Connection) (c : Connection) → links_of s (l ++ c ∷ []) ≡ cond (is_of s c) (links_of s l ++ link c ∷ []) (links_of s l)
links_pushed s l c =
    ap (map link) (filter-append (is_of s) l (c ∷ []))
    ∙ cond_both (is_of s c) (c ∷ []) [] (λ k. map link (filter (is_of s) l ++ k) ≡ cond (is_of s c) (links_of s l ++ link c ∷ []) (links_of s l))
    (λ here. map-append link (filter (is_of s) l) (c ∷ []) ∙ sym (cond-true (is_of s c) (links_of s l ++ link c ∷ []) (links_of s l) here))
    (λ other. ap (map link) (append-nil (filter (is_of s) l)) ∙ sym (cond-false (is_of s c) (links_of s l ++ link c ∷ []) (links_of s l) other))

not_and : (b o : Bool) → b ≡ false → not (b && o) ≡ true
not_and b o none = ap (λ (a : Bool). not (a && o)) none

-- a target that is removed goes from the list of its signal alone
pub links_removed : (signal s : List ℕ) (to : Target) (l : List Connection) → links_of s (filter (λ c. not (is_between signal to c)) l) ≡ cond (bytes_eq signal s) (without to (links_of s l)) (links_of s l)
links_removed signal s to l =
    cond_both (bytes_eq signal s) (without to (links_of s l)) (links_of s l)
    (λ k. links_of s (filter (λ c. not (is_between signal to c)) l) ≡ k)
    (λ here.
    let same = (bytes_eq-Decides signal s).0 here in
    ap (map link) (swap (is_of s) (λ c. not (is_between signal to c)) (λ c. not (is_one c.to to)) (λ c of. ap (λ (b : Bool). not (b && is_one c.to to)) (ap (λ n. is_of n c) same ∙ of)) l)
    ∙ sym (filtered_map link (λ k. not (is_one k.0 to)) (filter (is_of s) l)))
    (λ other.
    ap (map link) (swap (is_of s) (λ c. not (is_between signal to c)) (λ _. true) (λ c of. not_and (is_of signal c) (is_one c.to to) (apart c of other)) l ∙ all_pass (filter (is_of s) l)))
  where
    turned : (a b : Bool) → (a ≡ true → b ≡ true) → b ≡ false → a ≡ false
    turned false b follows none = refl
    turned true b follows none = sym (follows refl) ∙ none

    apart : (c : Connection) → is_of s c ≡ true → bytes_eq signal s ≡ false → is_of signal c ≡ false
    apart c of other =
        let is : c.signal ≡ s = (bytes_eq-Decides c.signal s).0 of in
        ap (λ n. bytes_eq n signal) is ∙ turned (bytes_eq s signal) (bytes_eq signal s) (λ yes. (bytes_eq-Decides signal s).1 (sym ((bytes_eq-Decides s signal).0 yes))) other

-- the connections of an emitter, among entries that hold them
pub seen : {X : Type 0} (es : List (ℕ × X)) (items : X → List Connection) (e : ℕ) → of_emitter (map (λ p. (p.0, items p.1)) es) e ≡ unwrap_or (option_map items (lookup (nat_eq e) es)) []
seen es items e = ap (λ o. unwrap_or o []) (lookup-map_values items (nat_eq e) es)

pub written : {X : Type 0} (es fs : List (ℕ × X)) (items : X → List Connection) (emitter : ℕ) (w : Option X) → ((q : ℕ) → lookup (nat_eq q) fs ≡ cond (nat_eq emitter q) w (lookup (nat_eq q) es)) → (e : ℕ)
    → of_emitter (map (λ p. (p.0, items p.1)) fs) e ≡ cond (nat_eq emitter e) (unwrap_or (option_map items w) []) (of_emitter (map (λ p. (p.0, items p.1)) es) e)
written es fs items emitter w updates e =
    seen fs items e
    ∙ ap (λ o. unwrap_or (option_map items o) []) (updates e)
    ∙ through (λ o. unwrap_or (option_map items o) []) (nat_eq emitter e) w (lookup (nat_eq e) es)
    ∙ ap (cond (nat_eq emitter e) (unwrap_or (option_map items w) [])) (sym (seen es items e))

-- those of one emitter are changed, and those of the others stay
pub changed : {X : Type 0} (es fs : List (ℕ × X)) (items : X → List Connection) (emitter : ℕ) (was : Option X) (now : X) (change : List Connection → List Connection) → lookup (nat_eq emitter) es ≡ was → ((q : ℕ) → lookup (nat_eq q) fs ≡ cond (nat_eq emitter q) (Some now) (lookup (nat_eq q) es)) → items now ≡ change (unwrap_or (option_map items was) []) → (e : ℕ)
    → of_emitter (map (λ p. (p.0, items p.1)) fs) e ≡ cond (nat_eq emitter e) (change (of_emitter (map (λ p. (p.0, items p.1)) es) e)) (of_emitter (map (λ p. (p.0, items p.1)) es) e)
changed es fs items emitter was now change found updates is e =
    written es fs items emitter (Some now) updates e
    ∙ where_true (nat_eq emitter e) (items now) (change (of_emitter (map (λ p. (p.0, items p.1)) es) e)) (of_emitter (map (λ p. (p.0, items p.1)) es) e)
    (λ here.
    let found_here = ap (λ n. lookup (nat_eq n) es) (sym (eqb-true emitter e here)) ∙ found in
    is ∙ ap change (sym (seen es items e ∙ ap (λ o. unwrap_or (option_map items o) []) found_here)))

-- one more connection of an emitter changes the list of its signal alone
pub links_added : (old new : Emitters) (emitter : ℕ) (signal : List ℕ) (c : Connection) (after : List Link → List Link) → ((e : ℕ) → of_emitter new e ≡ cond (nat_eq emitter e) (of_emitter old e ++ c ∷ []) (of_emitter old e)) → c.signal ≡ signal → after (links old emitter signal) ≡ links old emitter signal ++ link c ∷ [] → (e : ℕ) (s : List ℕ)
    → links new e s ≡ cond (nat_eq emitter e && bytes_eq signal s) (after (links old e s)) (links old e s)
links_added old new emitter signal c after added named is e s =
    ap (links_of s) (added e)
    ∙ through (links_of s) (nat_eq emitter e) (of_emitter old e ++ c ∷ []) (of_emitter old e)
    ∙ ap (λ l. cond (nat_eq emitter e) l (links old e s)) (links_pushed s (of_emitter old e) c ∙ ap (λ n. cond (bytes_eq n s) (links old e s ++ link c ∷ []) (links old e s)) named)
    ∙ nested (nat_eq emitter e) (bytes_eq signal s) (links old e s ++ link c ∷ []) (links old e s)
    ∙ where_true (nat_eq emitter e && bytes_eq signal s) (links old e s ++ link c ∷ []) (after (links old e s)) (links old e s)
    (λ here.
    let same_emitter = eqb-true emitter e (first (nat_eq emitter e) (bytes_eq signal s) here) in
    let same_signal = (bytes_eq-Decides signal s).0 (second (nat_eq emitter e) (bytes_eq signal s) here) in
    ap (λ x. links old x s ++ link c ∷ []) (sym same_emitter) ∙ ap (λ n. links old emitter n ++ link c ∷ []) (sym same_signal)
    ∙ sym is
    ∙ ap (λ n. after (links old emitter n)) same_signal ∙ ap (λ x. after (links old x s)) same_emitter)
  where
    first : (a b : Bool) → (a && b) ≡ true → a ≡ true
    first true b e = refl
    first false b e = e

    second : (a b : Bool) → (a && b) ≡ true → b ≡ true
    second true b e = e
    second false b e = absurd (cc)

-- a change that leaves the empty list leaves the lists, where the emitter has no connections
pub unlinked : (old : Emitters) (emitter : ℕ) (signal : List ℕ) (change : List Link → List Link) → change [] ≡ [] → of_emitter old emitter ≡ [] → (e : ℕ) (s : List ℕ)
    → links old e s ≡ cond (nat_eq emitter e && bytes_eq signal s) (change (links old e s)) (links old e s)
unlinked old emitter signal change stays none e s =
    let b = nat_eq emitter e && bytes_eq signal s in
    sym (where_true b (change (links old e s)) (links old e s) (links old e s)
    (λ here.
    let empty : links old e s ≡ [] = ap (links_of s) (ap (of_emitter old) (sym (eqb-true emitter e (first (nat_eq emitter e) (bytes_eq signal s) here))) ∙ none) in
    ap change empty ∙ stays ∙ sym empty)
    ∙ either b (links old e s))
  where
    first : (a b : Bool) → (a && b) ≡ true → a ≡ true
    first true b e = refl
    first false b e = e

-- a target that is removed from an emitter's connections goes from the list of its signal alone
pub links_dropped : (old new : Emitters) (emitter : ℕ) (signal : List ℕ) (to : Target) → ((e : ℕ) → of_emitter new e ≡ cond (nat_eq emitter e) (filter (λ c. not (is_between signal to c)) (of_emitter old e)) (of_emitter old e)) → (e : ℕ) (s : List ℕ)
    → links new e s ≡ cond (nat_eq emitter e && bytes_eq signal s) (without to (links old e s)) (links old e s)
links_dropped old new emitter signal to dropped e s =
    ap (links_of s) (dropped e)
    ∙ through (links_of s) (nat_eq emitter e) (filter (λ c. not (is_between signal to c)) (of_emitter old e)) (of_emitter old e)
    ∙ ap (λ l. cond (nat_eq emitter e) l (links old e s)) (links_removed signal s to (of_emitter old e))
    ∙ nested (nat_eq emitter e) (bytes_eq signal s) (without to (links old e s)) (links old e s)
