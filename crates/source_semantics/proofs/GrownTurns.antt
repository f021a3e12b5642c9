-- Turns that are used, and loops with as much fuel as turns are left.
use Rattle.std.proofs.Common.{ℕ, zero, suc, pred, ◌≤◌, ◌<◌, refl, arith}
use Rattle.std.specs.Prelude.{Bool, true, false}
use Rattle.std.proofs.Math.Nat.{le_refl}
use Rattle.source_semantics.specs.State.{Run, Went, if_so, then_do}
use Rattle.source_semantics.specs.Statements.{use_turn}
use Rattle.source_semantics.proofs.Grown.{Below, Bound, Extends, Goes, Grown, Step, Within, below_of, extends_self, extends_then, grown_more, keeps_then, left_with, out, with_turns, within_own, world_of}

-- a computation that only adds to what is seen
pub record Keeps {A : Type 0} (G : Run → Went A) : Type 0 where
  pub adds : (r : Run) → Extends r.world (world_of (G r))

pub kept : {A : Type 0} {n : Bound} {F G : Run → Went A} → Goes n F G → Keeps G
kept g = record { adds = g.keeps }

pub keeps_both : {A B : Type 0} {F : Run → Went A} {G : A → Run → Went B} → Keeps F → ((x : A) → Keeps (G x))
    → Keeps (λ r. then_do (F r) G)
keeps_both {F = F} {G = G} f g = record { adds = λ r. keeps_then r.world (F r) G (f.adds r) (λ x s. (g x).adds s) }

pub keeps_if_so : {A : Type 0} {F G : Run → Went A} (b : Bool) → Keeps F → Keeps G → Keeps (if_so b F G)
keeps_if_so true f g = f
keeps_if_so false f g = g

pub keeps_after : {A : Type 0} {u : Run → Run} {F : Run → Went A} → Step u → Keeps F → Keeps (λ r. F (u r))
keeps_after {u = u} s f = record { adds = λ r. extends_then (s.extends r) (f.adds (u r)) }

pub keeps_by : {A D : Type 0} {G : D → Run → Went A} (h : Run → D) → ((d : D) → Keeps (G d)) → Keeps (λ r. G (h r) r)
keeps_by h k = record { adds = λ r. (k (h r)).adds r }

keeps_turn : {A : Type 0} (G : Run → Went A) → Keeps G → (s : Run) (t : ℕ) → Extends s.world (world_of (use_turn s G t))
keeps_turn G g s zero = extends_self s.world
keeps_turn G g s (suc t) = g.adds (record s { turns = t })

pub keeps_use_turn : {A : Type 0} {G : Run → Went A} → Keeps G → Keeps (λ r. use_turn r G r.turns)
keeps_use_turn {G = G} g = record { adds = λ r. keeps_turn G g r r.turns }

-- the bound when a turn is used
abbrev pub less : Bound → Bound
less n = record { left = pred n.left; right = pred n.right }

pred_below : (n : ℕ) → pred n ≤ n
pred_below n = omega arith

pub pred_less : (n a : ℕ) → 0 < n → n < suc a → pred n < a
pred_less n a h k = omega arith

le_pred : (a n : ℕ) → suc a ≤ n → a ≤ pred n
le_pred a n h = omega arith

le_of_suc : (a b : ℕ) → suc a ≤ suc b → a ≤ b
le_of_suc a b h = omega arith

le_suc : (a : ℕ) → a ≤ suc a
le_suc a = omega arith

positive : (a n : ℕ) → suc a ≤ n → 0 < n
positive a n h = omega arith

no_less : (a : ℕ) → suc a ≤ 0 → ⊥
no_less a h = omega arith

pub nothing_below : (n : ℕ) → n < 0 → ⊥
nothing_below n h = omega arith

pub less_below : (n : Bound) → Below (less n) n
less_below n = (pred_below n.left, pred_below n.right)

grown_use_turn : {A : Type 0} (n : Bound) (F G : Run → Went A) → Keeps G
    → (0 < n.left → 0 < n.right → Goes (less n) F G)
    → (r : Run) (a t : ℕ) → Within n a t → Grown (record { left = a; right = t }) (use_turn r F a)
    (use_turn (with_turns t r) G t)
grown_use_turn n F G k h r zero t w = out r.world refl (keeps_turn G k (with_turns t r) t)
grown_use_turn n F G k h r (suc a) zero w = absurd (no_less a w.fewer)
grown_use_turn n F G k h r (suc a) (suc b) w =
    grown_more (le_suc a, le_suc b) ((h (positive a n.left w.left) (positive b n.right w.right)).same
    (record r { turns = a }) b (record {
      fewer = le_of_suc a b w.fewer;
      left = le_pred a n.left w.left;
      right = le_pred b n.right w.right;
    }))

pub goes_use_turn : {A : Type 0} {n : Bound} {F G : Run → Went A} → Keeps G
    → (0 < n.left → 0 < n.right → Goes (less n) F G)
    → Goes n (λ r. use_turn r F r.turns) (λ r. use_turn r G r.turns)
goes_use_turn {n = n} {F = F} {G = G} k h = record {
  keeps = λ r. keeps_turn G k r r.turns;
  same = λ r t w. grown_use_turn n F G k h r r.turns t w;
}

-- loops begin with one more than the turns that are left
pub goes_by_fuel : {A : Type 0} {n : Bound} {F G : ℕ → Run → Went A} → ((b : ℕ) → Keeps (G b))
    → ((a b : ℕ) (m : Bound) → Below m n → m.left < a → m.right < b → Goes m (F a) (G b))
    → Goes n (λ r. F (suc r.turns) r) (λ r. G (suc r.turns) r)
goes_by_fuel {n = n} {F = F} {G = G} k h = record {
  keeps = λ r. (k (suc r.turns)).adds r;
  same = λ r t w. (h (suc r.turns) (suc t) (left_with r t) (below_of n r t w) (le_refl (suc r.turns))
      (le_refl (suc t))).same r t (within_own r t w.fewer);
}
