use Rattle.std.proofs.Common.{◌≡◌, ◌≢◌, ◌++◌, ◌∷◌, [], ℕ, List, Vec, IfSome, IfOk, arith, codes, subst, sym, ◌∙◌}
use Rattle.std.specs.declared.alloc.Global.{Global}
use Rattle.gd_outside.specs.Files.{place_of}
use Rattle.gd_outside.specs.declared.shelf.FailedCall.TheVariants.{Read}
use Rattle.gd_command.specs.Output.{scripts, RunOutput, errors_alone}
use Rattle.gd_command.specs.Call.{IsReached}
use Rattle.gd_command.specs.Compiled.{IsRunAnswer}
use Rattle.gd_command.specs.declared.status.Status.TheVariants.{Done, TooLarge}
use Rattle.gd_command.specs.Check.{bytes_of}
use Rattle.gd_command.proofs.CheckLemmas.{told_many, told_failed, told_long_file, told_long_project}
use Rattle.gd_command.proofs.CompiledLemmas.{not_run, told_run}
use Rattle.gd_command.proofs.run.run.Goals as goal

passes_limits : TooLarge ≢ Done
passes_limits is = cc

pub returns-then-len-gt-MAX_FILES-clause-told : goal.returns-then-len-gt-MAX_FILES-clause-told
returns-then-len-gt-MAX_FILES-clause-told g c =
    not_run (g.H.Shelf.files c.args.shelf.now) c.args.main (codes "too large: files\n") TooLarge passes_limits
    (told_many errors_alone (g.H.Shelf.files c.args.shelf.now) c.in-Ok.paths.items c.keep_scripts.new.paths.items c.in-Ok.ensures.all c.keep_scripts.ensures (omega (arith, c.len.ensures, c.keep_scripts.new.paths.ok.0)))

pub returns-in-Ok-read_scripts-clause-told : goal.returns-in-Ok-read_scripts-clause-told
returns-in-Ok-read_scripts-clause-told g c =
    told_run (g.H.Shelf.files c.args.shelf.now) _ c.in-Ok.paths.items c.deref.result.now c.in-Ok-read_scripts.sources.items c.args.main
    (g.H.Shelf.failed c.read_scripts.new.shelf) c.run_sources.result c.list.ensures.files c.in-Ok.ensures.rising c.in-Ok.ensures.all
    (c.deref.ensures.value ∙ c.keep_scripts.ensures) c.in-Ok-read_scripts.ensures.told
    (subst (λ (list : List (Vec ℕ Global)). IfOk c.run_sources.result
    (IsRunAnswer c.deref.result.now (bytes_of list) c.args.main)) c.deref-in-Ok-read_scripts.ensures.value
    (subst (λ (list : List (List ℕ)). IfOk c.run_sources.result
    (IsRunAnswer list (bytes_of c.deref-in-Ok-read_scripts.result.now) c.args.main))
    (sym c.deref.ensures.value) c.run_sources.ensures))

pub returns-in-Err-Failed-read_scripts-clause-told : goal.returns-in-Err-Failed-read_scripts-clause-told
returns-in-Err-Failed-read_scripts-clause-told g c =
    subst (λ (path : List ℕ). IfSome (g.H.Shelf.files c.args.shelf.now)
    (λ files. (g.H.Shelf.failed c.read_scripts.new.shelf ≡ Read (place_of files path)) × IsReached (scripts files) path))
    (sym c.in-Err-Failed-read_scripts.path-is)
    (told_failed (g.H.Shelf.files c.args.shelf.now) _ c.in-Ok.paths.items c.deref.result.now _ _ _ c.in-Err-Failed-read_scripts.field-0-is c.list.ensures.files c.in-Ok.ensures.rising c.in-Ok.ensures.all (c.deref.ensures.value ∙ c.keep_scripts.ensures) (omega arith) c.in-Err-Failed-read_scripts.ensures.told)

pub returns-in-Err-LongFile-clause-told : goal.returns-in-Err-LongFile-clause-told
returns-in-Err-LongFile-clause-told g c =
    subst (λ (path : List ℕ). IfSome (g.H.Shelf.files c.args.shelf.now)
    (λ files. RunOutput (scripts files) c.args.main (codes "too large: file " ++ (path ++ (10 ∷ []))) TooLarge))
    (sym c.in-Err-LongFile.path-is)
    (not_run (g.H.Shelf.files c.args.shelf.now) c.args.main _ TooLarge passes_limits
    (told_long_file errors_alone (g.H.Shelf.files c.args.shelf.now) _ c.in-Ok.paths.items c.deref.result.now _ _ _ c.in-Err-LongFile.field-0-is c.list.ensures.files c.in-Ok.ensures.rising c.in-Ok.ensures.all (c.deref.ensures.value ∙ c.keep_scripts.ensures) (omega arith) c.in-Err-LongFile.ensures.told))

pub returns-in-Err-LongProject-clause-told : goal.returns-in-Err-LongProject-clause-told
returns-in-Err-LongProject-clause-told g c =
    not_run (g.H.Shelf.files c.args.shelf.now) c.args.main (codes "too large: project\n") TooLarge passes_limits
    (told_long_project errors_alone (g.H.Shelf.files c.args.shelf.now) _ c.in-Ok.paths.items c.deref.result.now _ _ c.in-Err-LongProject.field-0-is c.list.ensures.files c.in-Ok.ensures.rising c.in-Ok.ensures.all (c.deref.ensures.value ∙ c.keep_scripts.ensures) (omega arith) c.in-Err-LongProject.ensures.told)
