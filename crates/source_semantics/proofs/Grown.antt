-- What a computation does with more turns: the same where it ends, and where it runs out of turns the other goes on
-- from there.
use Rattle.std.proofs.Common.{◌≡◌, ℕ, zero, suc, ◌≤◌, List, [], ◌∷◌, ◌++◌, refl, ap, sym, ◌∙◌}
use Rattle.std.specs.Prelude.{Bool, true, false, Option, None, Result, Ok, Err, ⊤, if◌then◌else◌}
use Rattle.std.proofs.lemmas.List.{append-nil, append_assoc}
use Rattle.std.proofs.Math.Nat.{le_of_eq, le_refl, le_trans}
use Rattle.gd_model.specs.Datum.{Datum}
use Rattle.gd_model.specs.declared.fault.RunFault.{RunFault}
use Rattle.gd_syntax.specs.declared.pos.Pos.{Pos}
use Rattle.syntax_trees.specs.Expressions.{Text}
use Rattle.store_semantics.specs.World.{Seen, World}
use Rattle.store_semantics.specs.Holding.{round, rounds}
use Rattle.source_semantics.specs.State.{Block, Run, Went, at_place, failed, gives, if_so, locals_held, ran_out, read_at, settled, tested, then_do, went}

-- ---- worlds that see more

pub record Extends (v w : World) : Type 0 where
  pub seen : List Seen
  pub adds : w.events ≡ v.events ++ seen

pub extends_same : (v w : World) → w.events ≡ v.events → Extends v w
extends_same v w e = record { seen = []; adds = e ∙ sym (append-nil v.events) }

pub extends_self : (v : World) → Extends v v
extends_self v = extends_same v v refl

pub extends_then : {u v w : World} → Extends u v → Extends v w → Extends u w
extends_then {u} x y = record {
  seen = x.seen ++ y.seen;
  adds = y.adds ∙
      (ap (λ xs. xs ++ y.seen) x.adds ∙ append_assoc u.events x.seen y.seen);
}

pub rounds_extend : (n : ℕ) (w : World) (hand : List Datum) → Extends w (rounds n w hand)
unfolding rounds
rounds_extend zero w hand = extends_self w
rounds_extend (suc n) w hand = extends_then (record { seen = _; adds = refl }) (rounds_extend n (round w hand) hand)

-- ---- how a computation ended

abbrev pub world_of : {A : Type 0} → Went A → World
world_of (went x r) = r.world
world_of (failed f pos message w) = w
world_of (ran_out w) = w

abbrev pub with_turns : ℕ → Run → Run
with_turns t r = record r { turns = t }

-- so many turns at most, of the one and of the other
pub record Bound : Type 0 where
  pub left : ℕ
  pub right : ℕ

-- the one has no more turns than the other, and both keep to the bound
pub record Within (n : Bound) (a t : ℕ) : Type 0 where
  pub fewer : a ≤ t
  pub left : a ≤ n.left
  pub right : t ≤ n.right

abbrev pub Below : Bound → Bound → Type 0
Below m n = (m.left ≤ n.left) × (m.right ≤ n.right)

pub data Grown {A : Type 0} (n : Bound) (a b : Went A) : Type 0 where
  well : (x : A) (r : Run) (t : ℕ) → Within n r.turns t → a ≡ went x r → b ≡ went x (with_turns t r) → Grown n a b
  fault : (f : RunFault) (pos : Pos) (message : Option Text) (w : World) → a ≡ failed f pos message w → b
      ≡ failed f pos message w → Grown n a b
  out : (w : World) → a ≡ ran_out w → Extends w (world_of b) → Grown n a b

abbrev pub left_with : Run → ℕ → Bound
left_with r t = record { left = r.turns; right = t }

-- no turns come back
pub record Goes {A : Type 0} (n : Bound) (F G : Run → Went A) : Type 0 where
  pub keeps : (r : Run) → Extends r.world (world_of (G r))
  pub same : (r : Run) (t : ℕ) → Within n r.turns t → Grown (left_with r t) (F r) (G (with_turns t r))

-- ---- bounds

pub within_own : (r : Run) (t : ℕ) → r.turns ≤ t → Within (left_with r t) r.turns t
within_own r t h = record { fewer = h; left = le_refl r.turns; right = le_refl t }

pub within_more : (m n : Bound) (a t : ℕ) → Below m n → Within m a t → Within n a t
within_more m n a t h w = record { fewer = w.fewer; left = le_trans w.left h.0; right = le_trans w.right h.1 }

pub below_of : (n : Bound) (r : Run) (t : ℕ) → Within n r.turns t → Below (left_with r t) n
below_of n r t w = (w.left, w.right)

pub grown_more : {A : Type 0} {m n : Bound} {a b : Went A} → Below m n → Grown m a b → Grown n a b
grown_more {m = m} {n = n} h (well x r t w ea eb) = well x r t (within_more m n r.turns t h w) ea eb
grown_more h (fault f pos message w ea eb) = fault f pos message w ea eb
grown_more h (out w ea e) = out w ea e

pub goes_below : {A : Type 0} {m n : Bound} {F G : Run → Went A} → Below m n → Goes n F G → Goes m F G
goes_below {m = m} {n = n} h g = record {
  keeps = λ r. g.keeps r;
  same = λ r t w. g.same r t (within_more m n r.turns t h w);
}

-- ---- one after another

pub keeps_then : {A B : Type 0} (w : World) (b : Went A) (g : A → Run → Went B) → Extends w (world_of b)
    → ((x : A) (r : Run) → Extends r.world (world_of (g x r))) → Extends w (world_of (then_do b g))
keeps_then w (went x r) g e h = extends_then e (h x r)
keeps_then w (failed f pos message v) g e h = e
keeps_then w (ran_out v) g e h = e

grown_then : {A B : Type 0} (m n : Bound) (a b : Went A) (f g : A → Run → Went B) → Below m n → Grown m a b
    → ((x : A) → Goes n (f x) (g x))
    → Grown m (then_do a f) (then_do b g)
grown_then m n a b f g below (well x r t w ea eb) h =
    rw (ea, eb) (grown_more (below_of m r t w) ((h x).same r t (within_more m n r.turns t below w)))
grown_then m n a b f g below (fault k pos message w ea eb) h = fault k pos message w (rw ea refl) (rw eb refl)
grown_then m n a b f g below (out w ea e) h = out w (rw ea refl) (keeps_then w b g e (λ x r. (h x).keeps r))

pub goes_then : {A B : Type 0} {n : Bound} {F F' : Run → Went A} {G G' : A → Run → Went B} → Goes n F F'
    → ((x : A) → Goes n (G x) (G' x))
    → Goes n (λ r. then_do (F r) G) (λ r. then_do (F' r) G')
goes_then {n = n} {F = F} {F' = F'} {G = G} {G' = G'} a h = record {
  keeps = λ r. keeps_then r.world (F' r) G' (a.keeps r) (λ x s. (h x).keeps s);
  same = λ r t w. grown_then (left_with r t) n (F r) (F' (with_turns t r)) G G' (below_of n r t w) (a.same r t w) h;
}

-- ---- steps on runs that ask nothing of the turns

pub record Step (u : Run → Run) : Type 0 where
  pub alike : (r : Run) (t : ℕ) → u (with_turns t r) ≡ with_turns t (u r)
  pub turns : (r : Run) → (u r).turns ≡ r.turns
  pub extends : (r : Run) → Extends r.world (u r).world

pub step_self : Step (λ r. r)
step_self = record { alike = λ r t. refl; turns = λ r. refl; extends = λ r. extends_self r.world }

pub step_settled : (hand : List Datum) → Step (settled hand)
step_settled hand = record {
  alike = λ r t. refl;
  turns = λ r. refl;
  extends = λ r. rounds_extend _ r.world (hand ++ locals_held r);
}

-- one that changes the world or the blocks, by what they are
pub step_of : (w : World → List Block → World) (b : World → List Block → List Block)
    → ((v : World) (bs : List Block) → (w v bs).events ≡ v.events)
    → Step (λ r. record { world = w r.world r.blocks; blocks = b r.world r.blocks; turns = r.turns })
step_of w b same = record {
  alike = λ r t. refl;
  turns = λ r. refl;
  extends = λ r. extends_same r.world (w r.world r.blocks) (same r.world r.blocks);
}

pub step_then : {u v : Run → Run} → Step u → Step v → Step (λ r. v (u r))
step_then {u = u} {v = v} a b = record {
  alike = λ r t. ap v (a.alike r t) ∙ b.alike (u r) t;
  turns = λ r. b.turns (u r) ∙ a.turns r;
  extends = λ r. extends_then (a.extends r) (b.extends (u r));
}

-- ---- computations that ask nothing of the turns

pub goes_went : {A : Type 0} {n : Bound} {u : Run → Run} (x : Run → A) → ((r : Run) (t : ℕ) → x (with_turns t r) ≡ x r)
    → Step u
    → Goes n (λ r. went (x r) (u r)) (λ r. went (x r) (u r))
goes_went {u = u} x e s = record {
  keeps = λ r. s.extends r;
  same = λ r t w. well (x r) (u r) t (rw (s.turns r) (within_own r t w.fewer)) refl (rw (e r t, s.alike r t) refl);
}

pub goes_value : {A : Type 0} {n : Bound} {u : Run → Run} (x : A) → Step u → Goes n (λ r. went x (u r))
    (λ r. went x (u r))
goes_value x s = goes_went (λ r. x) (λ r t. refl) s

pub goes_gives : {n : Bound} (hand : List Datum) (v : Datum) → Goes n (gives hand v) (gives hand v)
goes_gives hand v = goes_value v (step_settled (v ∷ hand))

pub goes_failed : {A : Type 0} {n : Bound} (f : RunFault) (pos : Pos) (message : Option Text)
    → Goes {A = A} n (λ r. failed f pos message r.world) (λ r. failed f pos message r.world)
goes_failed f pos message = record {
  keeps = λ r. extends_self r.world;
  same = λ r t w. fault f pos message r.world refl refl;
}

-- what hangs on something that asks nothing of the turns
pub goes_by : {A D : Type 0} {n : Bound} {F G : D → Run → Went A} (h : Run → D)
    → ((r : Run) (t : ℕ) → h (with_turns t r) ≡ h r)
    → ((d : D) → Goes n (F d) (G d)) → Goes n (λ r. F (h r) r) (λ r. G (h r) r)
goes_by {n = n} {F = F} {G = G} h e k = record {
  keeps = λ r. (k (h r)).keeps r;
  same = λ r t w. rw (e r t) ((k (h r)).same r t w);
}

pub goes_after : {A : Type 0} {n : Bound} {u : Run → Run} {F G : Run → Went A} → Step u → Goes n F G
    → Goes n (λ r. F (u r)) (λ r. G (u r))
goes_after {n = n} {u = u} s g = record {
  keeps = λ r. extends_then (s.extends r) (g.keeps (u r));
  same = λ r t w. rw (s.alike r t) (grown_more (le_of_eq (s.turns r), le_refl t) (g.same (u r) t (rw (s.turns r) w)));
}

pub goes_if : {A : Type 0} {n : Bound} {F F' G G' : Run → Went A} (b : Bool) → Goes n F F' → Goes n G G'
    → Goes n (λ r. if b then F r else G r) (λ r. if b then F' r else G' r)
goes_if true f g = f
goes_if false f g = g

pub goes_if_so : {A : Type 0} {n : Bound} {F F' G G' : Run → Went A} (b : Bool) → Goes n F F' → Goes n G G'
    → Goes n (if_so b F G) (if_so b F' G')
goes_if_so true f g = f
goes_if_so false f g = g

pub goes_tested : {n : Bound} (pos : Pos) (b : Run → Bool) → ((r : Run) (t : ℕ) → b (with_turns t r) ≡ b r)
    → Goes n (λ r. tested pos (b r) r) (λ r. tested pos (b r) r)
goes_tested {n = n} pos b e = goes_by {F = by} {G = by} b e each
  where
    by : Bool → Run → Went (Unit {0})
    by c r = tested pos c r

    each : (c : Bool) → Goes n (by c) (by c)
    each true = goes_value tt step_self
    each false = goes_failed _ pos None

-- ---- operations on the world

abbrev pub Adds : {A : Type 0} → World → Result (A × World) RunFault → Type 0
Adds w (Ok p) = Extends w p.1
Adds w (Err f) = ⊤

grown_at_place : {A : Type 0} (n : Bound) (pos : Pos) (r : Run) (t : ℕ) (x : Result (A × World) RunFault)
    → Within n r.turns t
    → Grown (left_with r t) (at_place pos r x) (at_place pos (with_turns t r) x)
grown_at_place n pos r t (Ok p) w = well p.0 (record r { world = p.1 }) t (within_own r t w.fewer) refl refl
grown_at_place n pos r t (Err f) w = fault f pos None r.world refl refl

keeps_at_place : {A : Type 0} (pos : Pos) (r : Run) (x : Result (A × World) RunFault) → Adds r.world x
    → Extends r.world (world_of (at_place pos r x))
keeps_at_place pos r (Ok p) e = e
keeps_at_place pos r (Err f) e = extends_self r.world

pub goes_at_place : {A : Type 0} {n : Bound} (pos : Pos) (f : World → Result (A × World) RunFault)
    → ((w : World) → Adds w (f w))
    → Goes n (λ r. at_place pos r (f r.world)) (λ r. at_place pos r (f r.world))
goes_at_place {n = n} pos f e = record {
  keeps = λ r. keeps_at_place pos r (f r.world) (e r.world);
  same = λ r t w. grown_at_place n pos r t (f r.world) w;
}

pub goes_read_at : {A : Type 0} {n : Bound} (pos : Pos) (f : Run → Result A RunFault)
    → ((r : Run) (t : ℕ) → f (with_turns t r) ≡ f r)
    → Goes n (λ r. read_at pos r (f r)) (λ r. read_at pos r (f r))
goes_read_at {A = A} {n = n} pos f e = goes_by {F = by} {G = by} f e each
  where
    by : Result A RunFault → Run → Went A
    by x r = read_at pos r x

    each : (x : Result A RunFault) → Goes n (by x) (by x)
    each (Ok x) = goes_value x step_self
    each (Err f) = goes_failed f pos None
