-- Which paths are those of scripts.
use Rattle.std.proofs.Common.{◌≡◌, ℕ, List, [], ◌∷◌, filter, nat_eq, codes, Bool, true, false, cond, refl, ap}
use Rattle.std.specs.List.{ends_with}
use Rattle.gd_outside.specs.Files.{File, paths_of}
use Rattle.gd_command.specs.Output.{scripts}

abbrev pub is_script : List ℕ → Bool
is_script path = ends_with nat_eq path (codes ".gd")

pub filter-paths : (files : List File) → filter is_script (paths_of files) ≡ paths_of (scripts files)
filter-paths [] = refl
filter-paths (f ∷ files) =
    elim (is_script f.0) as (λ b. cond b (f.0 ∷ filter is_script (paths_of files)) (filter is_script (paths_of files)) ≡ paths_of
    (cond b (f ∷ scripts files) (scripts files))) [
      | true ↦ ap (λ paths. f.0 ∷ paths) (filter-paths files)
      | false ↦ filter-paths files
    ]
