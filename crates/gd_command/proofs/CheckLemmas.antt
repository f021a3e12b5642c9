-- What `check` of a project answers, from the paths that it lists and the files that it reads.
use Rattle.std.proofs.Common.{◌≡◌, ◌≤◌, ◌<◌, ◌+◌, ℕ, zero, suc, List, [], ◌∷◌, ◌++◌, length, take, drop, get_or, filter, codes, bytes_eq, false, cond, Option, Some, None, Result, Ok, Err, refl, sym, ap, subst, ◌∙◌, arith, All, IfSome, IfOk, length-append, inl, inr, Vec}
use Rattle.std.specs.List.{flat_map}
use Rattle.std.specs.Ordering.{nat_cmp, is_eq}
use Rattle.std.specs.declared.cmp.Ordering.TheVariants.{Less}
use Rattle.std.specs.Cmp.Lexicographic.{slice_cmp}
use Rattle.std.proofs.lemmas.Map.Text.{is_eq-slice_cmp}
use Rattle.std.proofs.lemmas.Map.Keys.{sorted_tail}
use Rattle.std.proofs.lemmas.Map.Views.{All-after_first}
use Rattle.std.specs.declared.alloc.Global.{Global}
use Rattle.std.proofs.lemmas.Bool.{cases_lt}
use Rattle.std.proofs.lemmas.Slice.Eq.{bytes_eq-Decides}
use Rattle.std.proofs.lemmas.List.{length-map, map-append, get_or-map, take_more, take_all, take-append-drop, length-take-le}
use Rattle.std.proofs.lemmas.List.Elements.{All-append, All-filter}
use Rattle.std.proofs.lemmas.List.Sums.{sum_by_more}
use Rattle.std.proofs.lemmas.Option.{slice_get_within, get_or_from_slice_get}
use Rattle.std.proofs.Math.Seq.{drop-cons}
use Rattle.gd_outside.specs.Files.{File, IsRising, paths_of, bytes_at, Reads, place_of}
use Rattle.gd_outside.specs.declared.shelf.FailedCall.{FailedCall}
use Rattle.gd_outside.specs.declared.shelf.FailedCall.TheVariants.{Read}
use Rattle.gd_outside.specs.declared.shelf.ShelfFault.{ShelfFault}
use Rattle.gd_outside.specs.declared.shelf.ShelfFault.TheVariants.{Failed}
use Rattle.gd_outside.specs.Shelf.{failed_after}
use Rattle.gd_syntax.specs.declared.token.Token.{Token}
use Rattle.gd_syntax.specs.declared.pos.Pos.{Pos}
use Rattle.gd_rules.specs.declared.diag.Diag.{Diag}
use Rattle.gd_rules.specs.declared.rule.Rule.{Rule}
use Rattle.gd_lexis.specs.Lexes.{Lexes}
use Rattle.gd_lexis.specs.Faults.{FirstFault}
use Rattle.gd_lexer.specs.Found.{AreWhole}
use Rattle.gd_lexer.specs.LexFaults.{IsFirstFault}
use Rattle.gd_lexer.specs.declared.fault.LexFault.{LexFault}
use Rattle.gd_lexer.specs.declared.fault.LexFault.TheVariants.{Fault}
use Rattle.gd_grammar.specs.Fault.{StandsAt}
use Rattle.gd_command.specs.Output.{scripts, sources_of, IsShort, total, CheckOutput, many_files, long_file, long_project, checked}
use Rattle.gd_command.specs.Judged.{CheckFinds, FileFinds, InFile, IsAtToken, fault_of, lexical, nothing, syntax}
use Rattle.gd_command.specs.Report.{ReportState, report_status, report_text}
use Rattle.gd_command.specs.declared.judge.Reading.{Reading}
use Rattle.gd_command.specs.declared.judge.Reading.TheVariants.{Tree}
use Rattle.gd_command.specs.declared.judge.Reading.TheVariants as reading
use Rattle.gd_command.specs.declared.words.CheckOptions.{CheckOptions}
use Rattle.gd_command.specs.Answer.{IsAnswer}
use Rattle.gd_command.specs.Call.{IsReached}
use Rattle.gd_command.specs.Check.{AreAt, AreRead, AddUp, Stops, Hinders, bytes_of}
use Rattle.gd_command.specs.declared.answer.Answer.TheVariants.{Checked}
use Rattle.gd_command.specs.declared.check.Unread.{Unread}
use Rattle.gd_command.specs.declared.check.Unread.TheVariants as unread
use Rattle.gd_command.specs.declared.status.Status.TheVariants as status
use Rattle.gd_command.proofs.RunLemmas.{is_script, filter-paths}

-- a file whose path is below another's is not at that path
apart : (a b : List ℕ) → slice_cmp nat_cmp a b ≡ Less → bytes_eq a b ≡ false
apart a b less = sym (is_eq-slice_cmp a b) ∙ ap is_eq less

-- where the paths rise, each file is the one at its path
pub are_at : (files : List File) → IsRising (paths_of files) → AreAt files files
are_at [] rising k d lt = absurd (omega arith)
are_at (f ∷ files) rising zero d lt = ap (λ b. cond b (Some f.1) (bytes_at files f.0)) ((bytes_eq-Decides f.0 f.0).1 refl)
are_at (f ∷ files) rising (suc k) d lt =
    let inside : k < length files = omega arith in
    let later = are_at files (sorted_tail (slice_cmp nat_cmp) f.0 (paths_of files) rising) k d inside in
    let above = All-after_first (slice_cmp nat_cmp) f.0 (paths_of files) rising k d.0 (omega (arith, length-map files (λ (file : File). file.0))) in
    let named = get_or-map (λ (file : File). file.0) files k d d.0 inside in
    ap (λ b. cond b (Some f.1) (bytes_at files (get_or files k d).0)) (apart f.0 (get_or files k d).0 (subst (λ (path : List ℕ). slice_cmp nat_cmp f.0 path ≡ Less) named above)) ∙ later

pub scripts_at : (files : List File) → IsRising (paths_of files) → AreAt files (scripts files)
scripts_at files rising = All-filter (λ (file : File). is_script file.0) (λ file. bytes_at files file.0 ≡ Some file.1) files (are_at files rising)

-- the file at place i is the one that was found at its path
found_at : (files read : List File) (paths : List (List ℕ)) (path bytes : List ℕ) (i : ℕ) → paths ≡ paths_of read → AreAt files read → i < length paths → path ≡ get_or paths i path → bytes_at files path ≡ Some bytes → get_or read i (path, bytes) ≡ (path, bytes)
found_at files read paths path bytes i are at lt is found =
    let inside : i < length read = omega (arith, ap length are, length-map read (λ (file : File). file.0)) in
    let named : (get_or read i (path, bytes)).0 ≡ path = sym (get_or-map (λ (file : File). file.0) read i (path, bytes) path inside) ∙ sym (ap (λ (ps : List (List ℕ)). get_or ps i path) are) ∙ sym is in
    let there : bytes_at files (get_or read i (path, bytes)).0 ≡ Some (get_or read i (path, bytes)).1 = at i (path, bytes) inside in
    let same : Some (get_or read i (path, bytes)).1 ≡ Some bytes = sym there ∙ ap (bytes_at files) named ∙ found in
    pair_is (get_or read i (path, bytes)) path bytes named same
  where
    pair_is : (file : File) (path bytes : List ℕ) → file.0 ≡ path → Some file.1 ≡ Some bytes → file ≡ (path, bytes)
    pair_is (p, b) path bytes named same = cc

all_one : (file : File) → IsShort file → All IsShort (file ∷ [])
all_one file short zero d lt = short
all_one file short (suc k) d lt = absurd (omega arith)

-- one more short file, which was kept where all are within the limit
add_up : (files read : List File) (paths : List (List ℕ)) (path : List ℕ) (source : Vec ℕ Global) (i before : ℕ) (kept more : List (Vec ℕ Global)) → paths ≡ paths_of read → AreAt files read → i < length paths → path ≡ get_or paths i path → bytes_at files path ≡ Some source.items → length source.items ≤ 1048576 → (before + length source.items ≤ 4194304 → more ≡ kept ++ (source ∷ [])) → AddUp read i before kept → AddUp read (i + 1) (before + length source.items) more
add_up files read paths path source i before kept more are at lt is found short added counted =
    let bytes = source.items in
    let inside : i < length read = omega (arith, ap length are, length-map read (λ (file : File). file.0)) in
    let file = found_at files read paths path bytes i are at lt is found in
    let front : take (i + 1) read ≡ take i read ++ ((path, bytes) ∷ []) = take_more read i (path, bytes) inside ∙ ap (λ f. take i read ++ (f ∷ [])) file in
    record {
      short = subst (All IsShort) (sym front) (All-append IsShort (take i read) ((path, bytes) ∷ []) counted.short (all_one (path, bytes) short));
      together = ap (λ n. n + length bytes) counted.together ∙ sym (sum_by_more (λ (f : File). length f.1) read i (path, bytes) inside ∙ ap (λ (f : File). total (take i read) + length f.1) file);
      sources = λ small.
          ap bytes_of (added small) ∙ map-append (λ (s : Vec ℕ Global). s.items) kept (source ∷ []) ∙ ap (λ list. list ++ (bytes ∷ [])) (counted.sources (omega arith)) ∙ sym (ap sources_of front ∙ map-append (λ (f : File). f.1) (take i read) ((path, bytes) ∷ []));
    }

-- over a shelf that tells its files

abbrev pub Counted : Option (List File) → List (List ℕ) → ℕ → ℕ → List (Vec ℕ Global) → Type 0
Counted told paths i bytes kept = IfSome told (λ files. (read : List File) → paths ≡ paths_of read → AreAt files read → AddUp read i bytes kept)

pub counted_start : (told : Option (List File)) (paths : List (List ℕ)) (kept : List (Vec ℕ Global)) → kept ≡ [] → Counted told paths 0 0 kept
counted_start None paths kept none = tt
counted_start (Some files) paths kept none = λ read are at. record { short = λ k d lt. absurd (omega arith); together = refl; sources = λ small. ap bytes_of none }

-- one more script was read
pub counted_more : (told now : Option (List File)) (paths : List (List ℕ)) (path : List ℕ) (i before after : ℕ) (source : Vec ℕ Global) (kept more : List (Vec ℕ Global)) → after ≡ before + length source.items → now ≡ told → i < length paths → path ≡ get_or paths i path → IfSome now (λ files. bytes_at files path ≡ Some source.items) → length source.items ≤ 1048576 → (after ≤ 4194304 → more ≡ kept ++ (source ∷ [])) → Counted told paths i before kept → Counted told paths (i + 1) after more
counted_more None now paths path i before after source kept more sum same lt is found short added counted = tt
counted_more (Some files) now paths path i before after source kept more sum same lt is found short added counted = λ read are at.
    let file : bytes_at files path ≡ Some source.items = subst (λ (o : Option (List File)). IfSome o (λ files. bytes_at files path ≡ Some source.items)) same found in
    subst (λ (n : ℕ). AddUp read (i + 1) n more) (sym sum) (add_up files read paths path source i before kept more are at lt is file short (λ small. added (omega (arith, sum))) (counted read are at))

-- the file at place i stands behind those before it
stands_at : (read : List File) (path bytes : List ℕ) (i : ℕ) → i < length read → get_or read i (path, bytes) ≡ (path, bytes) → read ≡ take i read ++ ((path, bytes) ∷ drop (suc i) read)
stands_at read path bytes i inside file = sym (take-append-drop i read) ∙ ap (λ rest. take i read ++ rest) (drop-cons read i (path, bytes) inside ∙ ap (λ f. f ∷ drop (suc i) read) file)

-- what kept a script from being read keeps all from it
stopped : (files read : List File) (paths : List (List ℕ)) (path : List ℕ) (i before : ℕ) (kept : List (Vec ℕ Global)) (failed : FailedCall) (why : Unread) → paths ≡ paths_of read → AreAt files read → i < length paths → path ≡ get_or paths i path → AddUp read i before kept → Hinders files failed path why → Stops files read failed why
stopped files read paths path i before kept failed (unread.Failed named) are at lt is counted (same, call) =
    let inside : i < length read = omega (arith, ap length are, length-map read (λ (file : File). file.0)) in
    let file = get_or read i (named, []) in
    let there : file.0 ≡ named = sym (get_or-map (λ (f : File). f.0) read i (named, []) named inside) ∙ sym (ap (λ (ps : List (List ℕ)). get_or ps i named) are) ∙ sym (same ∙ is ∙ ap (λ p. get_or paths i p) (sym same)) in (
      call ∙ ap (λ p. Read (place_of files p)) (sym same),
      take i read,
      file.1,
      drop (suc i) read,
      (sym (take-append-drop i read) ∙ ap (λ rest. take i read ++ rest) (drop-cons read i (named, []) inside ∙ ap (λ f. f ∷ drop (suc i) read) (pair_is file named there)), counted.short),
    )
  where
    pair_is : (file : File) (path : List ℕ) → file.0 ≡ path → file ≡ (path, file.1)
    pair_is (p, b) path named = ap (λ q. (q, b)) named
stopped files read paths path i before kept failed (unread.LongFile named) are at lt is counted (same, bytes, there, long) =
    let file = found_at files read paths path bytes i are at lt is there in
    let inside : i < length read = omega (arith, ap length are, length-map read (λ (file : File). file.0)) in
    (take i read, bytes, drop (suc i) read, (stands_at read path bytes i inside file ∙ ap (λ p. take i read ++ ((p, bytes) ∷ drop (suc i) read)) (sym same), counted.short), long)
stopped files read paths path i before kept failed unread.LongProject are at lt is counted why = absurd why
stopped files read paths path i before kept failed unread.NoMemory are at lt is counted why = tt

pub counted_stop : (told now : Option (List File)) (paths : List (List ℕ)) (path : List ℕ) (i before : ℕ) (kept : List (Vec ℕ Global)) (failed : FailedCall) (why : Unread) → now ≡ told → i < length paths → path ≡ get_or paths i path → IfSome now (λ files. Hinders files failed path why) → Counted told paths i before kept → IfSome told (λ files. (read : List File) → paths ≡ paths_of read → AreAt files read → Stops files read failed why)
counted_stop None now paths path i before kept failed why same lt is hinders counted = tt
counted_stop (Some files) now paths path i before kept failed why same lt is hinders counted = λ read are at.
    stopped files read paths path i before kept failed why are at lt is (counted read are at) (subst (λ (o : Option (List File)). IfSome o (λ files. Hinders files failed path why)) same hinders)

all_read : (read : List File) (paths : List (List ℕ)) (i : ℕ) → paths ≡ paths_of read → length paths ≤ i → take i read ≡ read
all_read read paths i are end = take_all i read (omega (arith, ap length are, length-map read (λ (file : File). file.0)))

-- all were read: they are within the limits, or too long together
pub counted_all : (told : Option (List File)) (paths : List (List ℕ)) (i bytes : ℕ) (kept : List (Vec ℕ Global)) → length paths ≤ 1024 → length paths ≤ i → bytes ≤ 4194304 → Counted told paths i bytes kept → IfSome told (λ files. (read : List File) → paths ≡ paths_of read → AreAt files read → AreRead read kept)
counted_all None paths i bytes kept few end small counted = tt
counted_all (Some files) paths i bytes kept few end small counted = λ read are at.
    let all = counted read are at in
    let whole = all_read read paths i are end in
    record {
      fits = record {
        few = omega (arith, ap length are, length-map read (λ (file : File). file.0));
        short = subst (All IsShort) whole all.short;
        small = omega (arith, all.together, ap total whole);
      };
      bytes = all.sources small ∙ ap sources_of whole;
    }

pub counted_long : (told : Option (List File)) (paths : List (List ℕ)) (i bytes : ℕ) (kept : List (Vec ℕ Global)) → length paths ≤ i → 4194304 < bytes → Counted told paths i bytes kept → IfSome told (λ files. (read : List File) → paths ≡ paths_of read → AreAt files read → All IsShort read × (4194304 < total read))
counted_long None paths i bytes kept end long counted = tt
counted_long (Some files) paths i bytes kept end long counted = λ read are at.
    let all = counted read are at in
    let whole = all_read read paths i are end in
    (subst (All IsShort) whole all.short, omega (arith, all.together, ap total whole))

-- what the paths and the files answer

kept_are : (files : List File) (paths kept : List (List ℕ)) → paths ≡ paths_of files → kept ≡ filter is_script paths → kept ≡ paths_of (scripts files)
kept_are files paths kept all is = is ∙ ap (filter is_script) all ∙ filter-paths files

pub told_many : (options : CheckOptions) (told : Option (List File)) (paths kept : List (List ℕ)) → IfSome told (λ files. paths ≡ paths_of files) → kept ≡ filter is_script paths → 1024 < length kept → IfSome told (λ files. CheckOutput options (scripts files) (codes "too large: files\n") status.TooLarge)
told_many options None paths kept all is many = tt
told_many options (Some files) paths kept all is many =
    many_files (omega (arith, ap length (kept_are files paths kept all is), length-map (scripts files) (λ (file : File). file.0)))

-- what stopped the reading of all scripts is what `check` answers
abbrev StopsAt : Option (List File) → List (List ℕ) → FailedCall → Unread → Type 0
StopsAt told kept failed why = IfSome told (λ files. (read : List File) → kept ≡ paths_of read → AreAt files read → Stops files read failed why)

few_scripts : (files : List File) (kept : List (List ℕ)) → kept ≡ paths_of (scripts files) → length kept ≤ 1024 → length (scripts files) ≤ 1024
few_scripts files kept are few = omega (arith, ap length are, length-map (scripts files) (λ (file : File). file.0))

pub told_failed : (told now : Option (List File)) (paths kept : List (List ℕ)) (failed : FailedCall) (path : List ℕ) (stop : Unread) → stop ≡ unread.Failed path → now ≡ told → IsRising paths → IfSome told (λ files. paths ≡ paths_of files) → kept ≡ filter is_script paths → length kept ≤ 1024 → StopsAt now kept failed stop → IfSome told (λ files. (failed ≡ Read (place_of files path)) × IsReached (scripts files) path)
told_failed None now paths kept failed path stop which same rising all is few why = tt
told_failed (Some files) now paths kept failed path stop which same rising all is few why =
    let are = kept_are files paths kept all is in
    let (call, before, bytes, after, (parts, short)) = subst (λ (o : Option (List File)). StopsAt o kept failed (unread.Failed path)) same (subst (λ (w : Unread). StopsAt now kept failed w) which why) (scripts files) are (scripts_at files (subst IsRising all rising)) in
    (call, record { few = few_scripts files kept are few; before = before; bytes = bytes; after = after; split = parts; short = short })

pub told_long_file : (options : CheckOptions) (told now : Option (List File)) (paths kept : List (List ℕ)) (failed : FailedCall) (path : List ℕ) (stop : Unread) → stop ≡ unread.LongFile path → now ≡ told → IsRising paths → IfSome told (λ files. paths ≡ paths_of files) → kept ≡ filter is_script paths → length kept ≤ 1024 → StopsAt now kept failed stop → IfSome told (λ files. CheckOutput options (scripts files) (codes "too large: file " ++ (path ++ (10 ∷ []))) status.TooLarge)
told_long_file options None now paths kept failed path stop which same rising all is few why = tt
told_long_file options (Some files) now paths kept failed path stop which same rising all is few why =
    let are = kept_are files paths kept all is in
    let (before, bytes, after, (parts, short), long) = subst (λ (o : Option (List File)). StopsAt o kept failed (unread.LongFile path)) same (subst (λ (w : Unread). StopsAt now kept failed w) which why) (scripts files) are (scripts_at files (subst IsRising all rising)) in
    long_file before after (path, bytes) (few_scripts files kept are few) parts short long

pub told_long_project : (options : CheckOptions) (told now : Option (List File)) (paths kept : List (List ℕ)) (failed : FailedCall) (stop : Unread) → stop ≡ unread.LongProject → now ≡ told → IsRising paths → IfSome told (λ files. paths ≡ paths_of files) → kept ≡ filter is_script paths → length kept ≤ 1024 → StopsAt now kept failed stop → IfSome told (λ files. CheckOutput options (scripts files) (codes "too large: project\n") status.TooLarge)
told_long_project options None now paths kept failed stop which same rising all is few why = tt
told_long_project options (Some files) now paths kept failed stop which same rising all is few why =
    let are = kept_are files paths kept all is in
    let long = subst (λ (o : Option (List File)). StopsAt o kept failed unread.LongProject) same (subst (λ (w : Unread). StopsAt now kept failed w) which why) (scripts files) are (scripts_at files (subst IsRising all rising)) in
    long_project (few_scripts files kept are few) long.0 long.1

pub told_checked : (options : CheckOptions) (told now : Option (List File)) (paths kept : List (List ℕ)) (sources : List (Vec ℕ Global)) (failed : FailedCall) (report : ReportState) → now ≡ told → IsRising paths → IfSome told (λ files. paths ≡ paths_of files) → kept ≡ filter is_script paths → IfSome now (λ files. (read : List File) → kept ≡ paths_of read → AreAt files read → AreRead read sources) → report.paths ≡ kept → CheckFinds options (bytes_of sources) report.diags report.marks → IfSome told (λ files. IsAnswer (CheckOutput options (scripts files)) (IsReached (scripts files)) files failed (Checked report))
told_checked options None now paths kept sources failed report same rising all is fits names finds = tt
told_checked options (Some files) now paths kept sources failed report same rising all is fits names finds =
    let are = kept_are files paths kept all is in
    let read = subst (λ (o : Option (List File)). IfSome o (λ files. (read : List File) → kept ≡ paths_of read → AreAt files read → AreRead read sources)) same fits (scripts files) are (scripts_at files (subst IsRising all rising)) in
    let found : CheckFinds options (sources_of (scripts files)) report.diags report.marks = subst (λ (list : List (List ℕ)). CheckFinds options list report.diags report.marks) read.bytes finds in
    subst (λ (list : List (List ℕ)). CheckOutput options (scripts files) (report_text (record { paths = list; diags = report.diags; marks = report.marks })) (report_status report.diags)) (sym (names ∙ are)) (checked report.diags report.marks read.fits found)

-- a whole file has a token
pub whole_has_token : (file : ℕ) (tokens : List Token) → AreWhole file tokens → 0 < length tokens
whole_has_token file tokens whole =
    let (front, pos, apart, is) = whole.ended in
    subst (λ (list : List Token). 0 < length list) (sym is) (has_last front _)
  where
    has_last : (front : List Token) (last : Token) → 0 < length (front ++ (last ∷ []))
    has_last front last = omega (arith, length-append front (last ∷ []))

-- where a fault stands in this file

pub of_first : (file : ℕ) (bytes : List ℕ) (pos : Pos) (rule : Rule) → FirstFault file bytes pos rule → pos.file ≡ file
of_first file bytes pos rule first =
    let (glyphs, before, gs, ahead, read, cut, breaks, place) = first.broken in
    ap (λ (p : Pos). p.file) place

pub of_token : (file : ℕ) (tokens : List Token) (k : ℕ) (pos : Pos) (rule : Rule) → AreWhole file tokens → StandsAt tokens k pos rule → pos.file ≡ file
of_token file tokens k pos rule whole stands =
    let token = stands.token in
    let inside : k < length tokens = slice_get_within tokens k token stands.there in
    let same : get_or tokens k token ≡ token = get_or_from_slice_get tokens k token token stands.there in
    ap (λ (p : Pos). p.file) stands.place ∙ subst (λ (t : Token). t.pos.file ≡ file) same ((whole.of_file k token inside).0)

-- what the parser finds among the tokens of a file

finds_at : (file : ℕ) (bytes : List ℕ) (tokens : List Token) (r : Reading) → Lexes file bytes tokens → IsAtToken tokens r → FileFinds file bytes (fault_of r)
finds_at file bytes tokens (Tree tree) lexes is = nothing tokens lexes
finds_at file bytes tokens (reading.Fault diag) lexes is = syntax diag tokens is.0 lexes is.1

pub parser_finds : {E : Type 0} (file : ℕ) (bytes : List ℕ) (tokens given : List Token) (r : Result Reading E) → given ≡ tokens → Lexes file bytes tokens → IfOk r (IsAtToken given) → IfOk r (λ x. FileFinds file bytes (fault_of x))
parser_finds file bytes tokens given (Err e) same lexes is = tt
parser_finds file bytes tokens given (Ok x) same lexes is = finds_at file bytes tokens x lexes (subst (λ (list : List Token). IsAtToken list x) same is)

in_file : (file : ℕ) (tokens : List Token) (r : Reading) → AreWhole file tokens → IsAtToken tokens r → InFile file r
in_file file tokens (Tree tree) whole is = tt
in_file file tokens (reading.Fault diag) whole is = of_token file tokens is.0 diag.pos diag.rule whole is.1

pub parser_in : {E : Type 0} (file : ℕ) (tokens given : List Token) (r : Result Reading E) → given ≡ tokens → AreWhole file tokens → IfOk r (IsAtToken given) → IfOk r (InFile file)
parser_in file tokens given (Err e) same whole is = tt
parser_in file tokens given (Ok x) same whole is = in_file file tokens x whole (subst (λ (list : List Token). IsAtToken list x) same is)

-- what the lexer refuses is the first lexical fault
pub lexical_of : (file : ℕ) (bytes : List ℕ) (answer : LexFault) (pos at : Pos) (rule broken : Rule) → answer ≡ Fault at broken → pos ≡ at → rule ≡ broken → IsFirstFault file bytes answer → FileFinds file bytes ((record { pos = pos; rule = rule }) ∷ [])
lexical_of file bytes answer pos at rule broken is place by first =
    let there : FirstFault file bytes at broken = subst (IsFirstFault file bytes) is first in
    lexical (record { pos = pos; rule = rule }) (subst (λ (p : Pos). FirstFault file bytes p rule) (sym place) (subst (λ (r : Rule). FirstFault file bytes at r) (sym by) there))

-- what was read of a file

pub found_source : (told : Option (List File)) (path found : List ℕ) → IfSome told (λ files. Reads files path 1048576 found) → length found ≤ 1048576 → IfSome told (λ files. bytes_at files path ≡ Some found)
found_source None path found reads short = tt
found_source (Some files) path found (bytes, at, is) short = at ∙ ap Some (sym (whole bytes found is short))
  where
    whole : (bytes found : List ℕ) → found ≡ take 1048577 bytes → length found ≤ 1048576 → found ≡ bytes
    whole bytes found is short = elim (cases_lt (length bytes) 1048577) [
      | inl less ↦ is ∙ take_all 1048577 bytes (omega arith)
      | inr more ↦ let long = ap length is ∙ length-take-le 1048577 bytes more in absurd (omega arith)
    ]

pub found_long : (told : Option (List File)) (path named : List ℕ) (found : List ℕ) (failed : FailedCall) → named ≡ path → IfSome told (λ files. Reads files path 1048576 found) → 1048576 < length found → IfSome told (λ files. Hinders files failed path (unread.LongFile named))
found_long None path named found failed same reads long = tt
found_long (Some files) path named found failed same (bytes, at, is) long =
    (same, bytes, at, omega (arith, ap length is, length-take bytes))
  where
    length-take : (bytes : List ℕ) → length (take 1048577 bytes) ≤ length bytes
    length-take bytes = elim (cases_lt (length bytes) 1048577) [
      | inl less ↦ omega (arith, ap length (take_all 1048577 bytes (omega arith)))
      | inr more ↦ omega (arith, length-take-le 1048577 bytes more)
    ]

pub found_none : {T : Type 0} (told : Option (List File)) (path named : List ℕ) (before failed : FailedCall) (r : Result T ShelfFault) → r ≡ Err Failed → named ≡ path → IfSome told (λ files. failed ≡ failed_after r before (Read (place_of files path))) → IfSome told (λ files. Hinders files failed path (unread.Failed named))
found_none None path named before failed r answer same call = tt
found_none (Some files) path named before failed r answer same call =
    (same, call ∙ ap (λ answered. failed_after answered before (Read (place_of files path))) answer)

-- where no memory is left nothing is said
pub free : (told : Option (List File)) → IfSome told (λ files. Unit {0})
free None = tt
free (Some files) = tt

pub free_of : (told : Option (List File)) (paths : List (List ℕ)) → IfSome told (λ files. (read : List File) → paths ≡ paths_of read → AreAt files read → Unit {0})
free_of None paths = tt
free_of (Some files) paths = λ read are at. tt

-- one more was kept
pub one_longer : {X : Type 0} (kept more : List X) (x : X) (n : ℕ) → more ≡ kept ++ (x ∷ []) → length kept ≡ n → length more ≡ n + 1
one_longer kept more x n added is = omega (arith, ap length added, length-append kept (x ∷ []))
