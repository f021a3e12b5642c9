use Rattle.std.proofs.Common.{◌≡◌, codes, decimal, arith, rules, sym, ap, ◌∙◌}
use Rattle.std.specs.String.{string_bytes}
use Rattle.gd_command.proofs.RunWordsLemmas.{is_text}
use Rattle.gd_command.proofs.WordsLemmas.{sample_of, sample_zero, two_words}
use Rattle.gd_command.proofs.words.read_sample.Goals as goal

pub returns-in-Some-eq0 : goal.returns-in-Some-eq0
returns-in-Some-eq0 c count sample =
    let two = two_words c.args.words.now _ _ c.in-len2.len_at_least c.in-len2.len_below c.sample-item.is c.number-item.is in
    let held = c.in-Some-eq0.ensures.0 ∙ ap decimal c.in-Some-eq0.field-0-test in
    let written : string_bytes c.number-item.result ≡ decimal 0 = sym c.as_str.ensures.value ∙ held in
    sample_zero _ _ _ count two written sample

pub returns-in_default-read_decimal : goal.returns-in_default-read_decimal
returns-in_default-read_decimal c =
    let found = c.in_default-read_decimal.ensures in
    let two = two_words c.args.words.now _ _ c.in-len2.len_at_least c.in-len2.len_below c.sample-item.is c.number-item.is in
    sample_of _ _ _ _ two (is_text _ (codes "sample") (search rules)) (sym c.as_str.ensures.value ∙ found.0) (omega arith) found.1
