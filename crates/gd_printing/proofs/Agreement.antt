-- The function of formatting gives the texts of the relation.
use Rattle.std.proofs.Common.{◌≡◌, ℕ, List, Some}
use Rattle.gd_text.specs.declared.formatting.Arg.{Arg}
use Rattle.gd_text.specs.Format.{IsFormatted, formatted}
use Rattle.gd_text.proofs.Formatted.{agrees}

pub formatted_sound : (a : List ℕ) (args : List Arg) (t : List ℕ) → formatted a args ≡ Some t → IsFormatted a args t
formatted_sound a args t e = (agrees a args t).0 e

pub formatted_found : (a : List ℕ) (args : List Arg) (t : List ℕ) → IsFormatted a args t → formatted a args ≡ Some t
formatted_found a args t f = (agrees a args t).1 f
