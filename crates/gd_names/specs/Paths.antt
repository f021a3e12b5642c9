-- The file that a path in `preload` or `extends` names.
use Rattle.std.specs.Prelude.{ℕ, ◌+◌, ◌-◌, ◌==◌, List, [], ◌∷◌, ◌++◌, length, take, drop, if◌then◌else◌, Option, None, Some, bytes_eq, codes, encode_utf8_all, nat_eq}
use Rattle.std.specs.List.{slice_split, starts_with}
use Rattle.std.specs.Option.{option_map_or}
use Rattle.gd_names.specs.Trees.{Text}

-- the parts of a path round each `/` (47)
abbrev pub parts_of : List ℕ → List (List ℕ)
parts_of bytes = slice_split (λ b. b == 47) bytes

-- the folder of a file: all parts of its path but the last
abbrev pub folder_of : List ℕ → List (List ℕ)
folder_of path = let parts = parts_of path in take (length parts - 1) parts

-- from the project's own folder no way leads up
abbrev pub up : List (List ℕ) → Option (List (List ℕ)) → Option (List (List ℕ))
up [] further = None
up (_ ∷ _) further = further

-- the folder, and then the parts one by one: `.` (46) stays, `..` goes up; none where that leaves the project
abbrev pub go : List (List ℕ) → List (List ℕ) → Option (List (List ℕ))
go at [] = Some at
go at (part ∷ parts) =
    if bytes_eq part (46 ∷ []) then go at parts
    else (if bytes_eq part (46 ∷ 46 ∷ []) then up at (go (take (length at - 1) at) parts) else go (at ++ part ∷ []) parts)

-- the path of these parts
abbrev pub path_of : List (List ℕ) → List ℕ
path_of [] = []
path_of (part ∷ []) = part
path_of (part ∷ more ∷ parts) = part ++ 47 ∷ path_of (more ∷ parts)

-- the parts that a path in a file leads to: from the project's folder behind `res://`, else from the file's folder
abbrev pub led_to : List ℕ → Text → Option (List (List ℕ))
led_to file text =
    let bytes = encode_utf8_all text in
    if starts_with nat_eq bytes (codes "res://") then go [] (parts_of (drop 6 bytes)) else go (folder_of file) (parts_of bytes)

abbrev pub place_from : ℕ → List (List ℕ) → List ℕ → Option ℕ
place_from place [] path = None
place_from place (other ∷ others) path = if bytes_eq other path then Some place else place_from (place + 1) others path

-- the place among the files of the one that a path in a file names
abbrev pub file_named : List (List ℕ) → List ℕ → Text → Option ℕ
file_named paths file text = option_map_or (λ parts. place_from 0 paths (path_of parts)) (led_to file text) None
