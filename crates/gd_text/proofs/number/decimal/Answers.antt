use Rattle.std.proofs.Common.{◌≡◌, ℕ, ◌≤◌, ◌<◌, List, length, chars, IsUtf8, IsAscii, Some, Ok, Err, Result, IfOk, IsErrOf, sym, ap, ◌∙◌, subst, refl, arith, w64}
use Rattle.std.specs.Fmt.{signed_decimal}
use Rattle.std.proofs.lemmas.Int.{to_z-of_z}
use Rattle.std.proofs.lemmas.Str.{chars-IsAscii, IsUtf8-from_ascii}
use Rattle.gd_syntax.specs.declared.text.TextFault.{TextFault}
use Rattle.gd_syntax.specs.declared.text.TextFault.TheVariants.{NotUtf8, TooLong, OutOfRange, NoMemory}
use Rattle.gd_text.specs.Text.{Gives}
use Rattle.gd_text.proofs.number.decimal.Goals as goal

-- a short ASCII text is neither too long nor at fault
read_ascii : (r : Result (List ℕ) TextFault) (bs ds : List ℕ) → bs ≡ ds → IsAscii bs → length bs ≤ 40 → IfOk r (λ t. t ≡ chars bs) → (IsErrOf r NotUtf8 → IsUtf8 bs → ⊥) → (IsErrOf r TooLong → 16777216 < length (chars bs)) → (IsErrOf r OutOfRange → ⊥) → Gives (Some ds) r
read_ascii (Ok t) bs ds e ascii short text utf8 long range =
    let same : t ≡ bs = text ∙ chars-IsAscii bs ascii in
    let l : length t ≡ length bs = ap length same in
    (ap Some (sym (same ∙ e)), omega arith)
read_ascii (Err NotUtf8) bs ds e ascii short text utf8 long range = utf8 refl (IsUtf8-from_ascii bs ascii)
read_ascii (Err TooLong) bs ds e ascii short text utf8 long range =
    let l : 16777216 < length (chars bs) = long refl in
    let f : length (chars bs) ≡ length bs = ap length (chars-IsAscii bs ascii) in
    absurd (omega arith)
read_ascii (Err OutOfRange) bs ds e ascii short text utf8 long range = absurd (range refl)
read_ascii (Err NoMemory) bs ds e ascii short text utf8 long range = tt

pub returns : goal.returns
returns c =
    let bytes = c.as_bytes.ensures.value in
    let fault = c.from_utf8.ensures in
    read_ascii c.from_utf8.result c.as_bytes.result.now (signed_decimal c.args.n) (bytes ∙ c.format.ensures.text ∙ ap signed_decimal (to_z-of_z w64 c.args.n c.ranges.n))
    (subst IsAscii (sym bytes) c.format.ensures.ascii) (subst (λ (xs : List ℕ). length xs ≤ 40) (sym bytes) c.format.ensures.short) fault.text fault.not_utf8.0 (λ h. (fault.too_long.0 h).1) fault.in_range
