-- What may not be known yet: None stands for that.
use Rattle.std.specs.Prelude.{◌≡◌, Option, None, Some}

-- what follows from a part is known only where the part is
abbrev pub known_then : {A B : Type 0} → Option A → (A → Option B) → Option B
known_then None further = None
known_then (Some x) further = further x

-- what is known by the one is the same by the other
abbrev pub Stays : {A : Type 0} → Option A → Option A → Type 0
Stays {A} one other = (x : A) → one ≡ Some x → other ≡ Some x
