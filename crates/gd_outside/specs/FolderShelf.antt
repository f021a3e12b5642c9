-- What a shelf over a folder tells.
use Rattle.std.specs.Prelude.{ℕ}
use Rattle.gd_outside.specs.declared.folder_shelf.FolderShelf.{FolderShelf}

-- how often it failed
abbrev pub shelf_faults : {R : Type 0} → FolderShelf R → ℕ
shelf_faults shelf = shelf.faults
