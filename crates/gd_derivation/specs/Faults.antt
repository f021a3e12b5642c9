-- Where tokens that are no script go wrong.
use Rattle.std.specs.Prelude.{ℕ, suc, ◌<◌, List, ◌++◌, length, take}
use Rattle.gd_syntax.specs.declared.token.Token.{Token}
use Rattle.gd_syntax.specs.declared.tree.decl.ClassDecl.{ClassDecl}
use Rattle.gd_derivation.specs.Declarations.{DerivesScript}

-- some script begins with these tokens
abbrev pub Begins : ℕ → List Token → Type 0
Begins file tokens = (rest : List Token) × (tree : ClassDecl) × DerivesScript file (tokens ++ rest) tree

-- the `k`th token, counted from 0, is the first with which no script goes on
pub record IsFirstFault (file : ℕ) (tokens : List Token) (k : ℕ) : Type 0 where
  pub within : k < length tokens
  pub before : Begins file (take k tokens)
  pub no_further : ¬ Begins file (take (suc k) tokens)
