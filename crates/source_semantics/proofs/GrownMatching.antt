-- Matching with more turns.
use Rattle.std.proofs.Common.{ℕ, ◌+◌, List, [], ◌∷◌, refl}
use Rattle.std.specs.Prelude.{Bool, true, false, Option, None, Some}
use Rattle.gd_model.specs.Datum.{Datum}
use Rattle.gd_syntax.specs.declared.pos.Pos.{Pos}
use Rattle.syntax_trees.specs.Expressions.{Expr, first_token}
use Rattle.syntax_trees.specs.Patterns.{Entries, Pattern, PatternKind, Patterns, entry_and, key_and, no_entries, no_patterns, pattern, pattern_and}
use Rattle.syntax_trees.specs.Patterns as p
use Rattle.value_semantics.specs.Equality.{same}
use Rattle.store_semantics.specs.Matching.{Part, element_in, entry_in, has_entry, is_array_of, is_dict_of}
use Rattle.store_semantics.specs.World.{store_of}
use Rattle.source_semantics.specs.Matching.{and_then_match, entry_count, guarded, has_more, has_rest, is_rest, item_count, match_branch, match_entries, match_expression, match_first, match_items, match_key, match_kind, match_pattern}
use Rattle.source_semantics.specs.Meaning.{Frame}
use Rattle.source_semantics.specs.State.{Run, Went, declare_in, store}
use Rattle.source_semantics.proofs.Grown.{Goes, goes_after, goes_by, goes_if_so, goes_read_at, goes_then, goes_value, step_of, step_self, step_settled}
use Rattle.source_semantics.proofs.GrownExpressions.{goes_condition, goes_evaluate}
use Rattle.source_semantics.proofs.GrownPair.{Pair, left_of, right_of}

module _ (q : Pair) where
  goes_and_then_match : {F G : Run → Went Bool} {more other : Run → Went Bool} → Goes q.bound F G
      → Goes q.bound more other
      → Goes q.bound (λ r. and_then_match (F r) more) (λ r. and_then_match (G r) other)
  goes_and_then_match f m = goes_then f (λ yes. goes_if_so yes m (goes_value false step_self))

  goes_match_expression : (frame : Frame) (hand : List Datum) (part : Part) (x : Expr)
      → Goes q.bound (λ r. match_expression (left_of q frame) hand part r x)
      (λ r. match_expression (right_of q frame) hand part r x)
  goes_match_expression frame hand part x =
      goes_then (goes_evaluate q frame hand x) (λ v.
      goes_then (goes_read_at (first_token x) (λ r. same (store r) (part (store r)) v) (λ r t. refl))
      (λ yes. goes_value yes (step_settled hand)))

  goes_match_key : {F G : Run → Went Datum} (hand : List Datum) (part : Part) (more other : Datum → Run → Went Bool)
      → Goes q.bound F G
      → ((k : Datum) → Goes q.bound (more k) (other k))
      → Goes q.bound (λ r. match_key hand part (F r) more) (λ r. match_key hand part (G r) other)
  goes_match_key hand part more other f m =
      goes_then f (λ k. goes_by (λ r. has_entry (store r) k (part (store r))) (λ r t. refl) (λ b.
      goes_after (step_settled hand) (goes_if_so b (m k) (goes_value false step_self))))

  mutual
    unfolding match_pattern

    goes_match_pattern : (frame : Frame) (hand : List Datum) (part : Part) (x : Pattern)
        → Goes q.bound (λ r. match_pattern (left_of q frame) hand part r x)
        (λ r. match_pattern (right_of q frame) hand part r x)
    goes_match_pattern frame hand part (pattern pos kind) = goes_match_kind frame hand part pos kind

    goes_match_kind : (frame : Frame) (hand : List Datum) (part : Part) (pos : Pos) (x : PatternKind)
        → Goes q.bound (λ r. match_kind (left_of q frame) hand part r pos x)
        (λ r. match_kind (right_of q frame) hand part r pos x)
    goes_match_kind frame hand part pos (p.value x) = goes_match_expression frame hand part x
    goes_match_kind frame hand part pos p.any = goes_value true step_self
    goes_match_kind frame hand part pos (p.bind name) =
        goes_value true (step_of (λ w bs. w)
        (λ w bs. declare_in (record { name = name; at = pos; value = Some (part (store_of w)) }) bs) (λ w bs. refl))
    goes_match_kind frame hand part pos (p.items xs) =
        goes_by (λ r. is_array_of (store r) (has_rest xs) (item_count xs) (part (store r))) (λ r t. refl) (λ b.
        goes_if_so b (goes_match_items frame hand part 0 xs) (goes_value false step_self))
    goes_match_kind frame hand part pos (p.entries xs rests) =
        goes_by (λ r. is_dict_of (store r) (has_more rests) (entry_count xs) (part (store r))) (λ r t. refl) (λ b.
        goes_if_so b (goes_match_entries frame hand part xs) (goes_value false step_self))
    goes_match_kind frame hand part pos p.rest = goes_value true step_self

    goes_match_items : (frame : Frame) (hand : List Datum) (part : Part) (i : ℕ) (x : Patterns)
        → Goes q.bound (λ r. match_items (left_of q frame) hand part i r x)
        (λ r. match_items (right_of q frame) hand part i r x)
    goes_match_items frame hand part i no_patterns = goes_value true step_self
    goes_match_items frame hand part i (pattern_and x xs) =
        goes_if_so (is_rest x) (goes_match_items frame hand part i xs)
        (goes_and_then_match (goes_match_pattern frame hand (λ s. element_in s i (part s)) x)
        (goes_match_items frame hand part (i + 1) xs))

    goes_match_entries : (frame : Frame) (hand : List Datum) (part : Part) (x : Entries)
        → Goes q.bound (λ r. match_entries (left_of q frame) hand part r x)
        (λ r. match_entries (right_of q frame) hand part r x)
    goes_match_entries frame hand part no_entries = goes_value true step_self
    goes_match_entries frame hand part (key_and x xs) =
        goes_match_key hand part _ _ (goes_evaluate q frame hand x) (λ key. goes_match_entries frame hand part xs)
    goes_match_entries frame hand part (entry_and x y xs) =
        goes_match_key hand part _ _ (goes_evaluate q frame hand x) (λ key.
        goes_and_then_match (goes_match_pattern frame hand (λ s. entry_in s key (part s)) y)
        (goes_match_entries frame hand part xs))

  goes_match_first : (frame : Frame) (hand : List Datum) (subject : Datum) (xs : List Pattern)
      → Goes q.bound (λ r. match_first (left_of q frame) hand subject r xs)
      (λ r. match_first (right_of q frame) hand subject r xs)
  goes_match_first frame hand subject [] = goes_value false step_self
  goes_match_first frame hand subject (x ∷ xs) =
      goes_then (goes_match_pattern frame hand (λ s. subject) x) (λ yes.
      goes_if_so yes (goes_value true step_self) (goes_match_first frame hand subject xs))

  goes_guarded : (frame : Frame) (hand : List Datum) (x : Option Expr)
      → Goes q.bound (λ r. guarded (left_of q frame) hand r x) (λ r. guarded (right_of q frame) hand r x)
  goes_guarded frame hand None = goes_value true step_self
  goes_guarded frame hand (Some x) = goes_condition q frame hand x

  pub goes_match_branch : (frame : Frame) (hand : List Datum) (subject : Datum) (xs : List Pattern)
      (guard : Option Expr)
      → Goes q.bound (λ r. match_branch (left_of q frame) hand subject r xs guard)
      (λ r. match_branch (right_of q frame) hand subject r xs guard)
  goes_match_branch frame hand subject xs guard =
      goes_and_then_match (goes_match_first frame hand subject xs) (goes_guarded frame hand guard)
