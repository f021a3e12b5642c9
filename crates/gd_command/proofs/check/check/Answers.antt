use Rattle.std.proofs.Common.{◌≡◌, ◌++◌, ◌∷◌, [], ℕ, List, Vec, IfSome, arith, codes, subst, sym, ◌∙◌}
use Rattle.std.specs.declared.alloc.Global.{Global}
use Rattle.gd_outside.specs.Files.{place_of}
use Rattle.gd_outside.specs.declared.shelf.FailedCall.TheVariants.{Read}
use Rattle.gd_command.specs.Output.{scripts, CheckOutput}
use Rattle.gd_command.specs.Call.{IsReached}
use Rattle.gd_command.specs.Judged.{CheckFinds}
use Rattle.gd_command.specs.declared.status.Status.TheVariants.{TooLarge}
use Rattle.gd_command.specs.Check.{bytes_of}
use Rattle.gd_command.proofs.CheckLemmas.{told_many, told_failed, told_long_file, told_long_project, told_checked}
use Rattle.gd_command.proofs.check.check.Goals as goal

pub returns-then-len-gt-MAX_FILES-clause-told : goal.returns-then-len-gt-MAX_FILES-clause-told
returns-then-len-gt-MAX_FILES-clause-told g c =
    told_many c.args.options (g.H.Shelf.files c.args.shelf.now) c.in-Ok.paths.items c.keep_scripts.new.paths.items c.in-Ok.ensures.all c.keep_scripts.ensures (omega (arith, c.len.ensures, c.keep_scripts.new.paths.ok.0))

pub returns-in-Ok-read_scripts-clause-told : goal.returns-in-Ok-read_scripts-clause-told
returns-in-Ok-read_scripts-clause-told g c =
    told_checked c.args.options (g.H.Shelf.files c.args.shelf.now) _ c.in-Ok.paths.items c.deref.result.now c.in-Ok-read_scripts.sources.items (g.H.Shelf.failed c.read_scripts.new.shelf) c.in_ok-judge-in-Ok-read_scripts.field-0 c.list.ensures.files c.in-Ok.ensures.rising c.in-Ok.ensures.all (c.deref.ensures.value ∙ c.keep_scripts.ensures) c.in-Ok-read_scripts.ensures.told (c.in_ok-judge-in-Ok-read_scripts.ensures.paths ∙ sym c.deref.ensures.value) (subst (λ (list : List (Vec ℕ Global)). CheckFinds c.args.options (bytes_of list) c.in_ok-judge-in-Ok-read_scripts.field-0.diags c.in_ok-judge-in-Ok-read_scripts.field-0.marks) c.deref-in-Ok-read_scripts.ensures.value c.in_ok-judge-in-Ok-read_scripts.ensures.finds)

pub returns-in-Err-Failed-read_scripts-clause-told : goal.returns-in-Err-Failed-read_scripts-clause-told
returns-in-Err-Failed-read_scripts-clause-told g c =
    subst (λ (path : List ℕ). IfSome (g.H.Shelf.files c.args.shelf.now) (λ files. (g.H.Shelf.failed c.read_scripts.new.shelf ≡ Read (place_of files path)) × IsReached (scripts files) path)) (sym c.in-Err-Failed-read_scripts.path-is) (told_failed (g.H.Shelf.files c.args.shelf.now) _ c.in-Ok.paths.items c.deref.result.now _ _ _ c.in-Err-Failed-read_scripts.field-0-is c.list.ensures.files c.in-Ok.ensures.rising c.in-Ok.ensures.all (c.deref.ensures.value ∙ c.keep_scripts.ensures) (omega arith) c.in-Err-Failed-read_scripts.ensures.told)

pub returns-in-Err-LongFile-clause-told : goal.returns-in-Err-LongFile-clause-told
returns-in-Err-LongFile-clause-told g c =
    subst (λ (path : List ℕ). IfSome (g.H.Shelf.files c.args.shelf.now) (λ files. CheckOutput c.args.options (scripts files) (codes "too large: file " ++ (path ++ (10 ∷ []))) TooLarge)) (sym c.in-Err-LongFile.path-is) (told_long_file c.args.options (g.H.Shelf.files c.args.shelf.now) _ c.in-Ok.paths.items c.deref.result.now _ _ _ c.in-Err-LongFile.field-0-is c.list.ensures.files c.in-Ok.ensures.rising c.in-Ok.ensures.all (c.deref.ensures.value ∙ c.keep_scripts.ensures) (omega arith) c.in-Err-LongFile.ensures.told)

pub returns-in-Err-LongProject-clause-told : goal.returns-in-Err-LongProject-clause-told
returns-in-Err-LongProject-clause-told g c =
    told_long_project c.args.options (g.H.Shelf.files c.args.shelf.now) _ c.in-Ok.paths.items c.deref.result.now _ _ c.in-Err-LongProject.field-0-is c.list.ensures.files c.in-Ok.ensures.rising c.in-Ok.ensures.all (c.deref.ensures.value ∙ c.keep_scripts.ensures) (omega arith) c.in-Err-LongProject.ensures.told
