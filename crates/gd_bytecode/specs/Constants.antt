-- The constants as a run makes them.
use Rattle.std.specs.Prelude.{ℕ, true, List, [], ◌∷◌, ◌++◌, map, slice_get, unwrap_or, Result, Ok, Err}
use Rattle.gd_model.specs.declared.fault.RunFault.{RunFault}
use Rattle.gd_model.specs.declared.ty.Ty.{Ty, out-Ty}
use Rattle.gd_model.specs.declared.ty.Ty.TheOpen as open_ty
use Rattle.gd_model.specs.declared.ty.Ty.TheOpen.{Ty-F}
use Rattle.gd_model.specs.declared.ty.Ty.TheVariants.{Variant}
use Rattle.gd_model.specs.Datum as d
use Rattle.gd_model.specs.Datum.{Datum}
use Rattle.value_semantics.specs.Made as m
use Rattle.value_semantics.specs.Made.{Made}
use Rattle.store_semantics.specs.World.{World, put}
use Rattle.gd_bytecode.specs.declared.program.ConstKind.{ConstKind}
use Rattle.gd_bytecode.specs.declared.program.ConstKind.TheVariants as kind
use Rattle.gd_bytecode.specs.declared.program.ConstThing.{ConstThing}
use Rattle.gd_bytecode.specs.declared.program.Operand.{Operand}
use Rattle.gd_bytecode.specs.declared.program.Program.{Program}
use Rattle.gd_bytecode.specs.declared.program.Tag.{Tag}
use Rattle.gd_bytecode.specs.declared.program.Tag.TheVariants as tag
use Rattle.gd_bytecode.specs.ConstFields.{tag_datum}
use Rattle.gd_bytecode.specs.Members.{type_at}

-- the value of an operand, constants being those made before
abbrev pub tag_value : Program → World → ℕ → Tag → Datum
tag_value p w n tag.Constant = unwrap_or (slice_get w.constants n) d.null
tag_value p w n t = tag_datum p n t

abbrev pub operand_value : Program → World → Operand → Datum
operand_value p w o = tag_value p w o.number o.tag

-- keys and values in turn
abbrev pub pairs_of : List Datum → List (Datum × Datum)
pairs_of (k ∷ v ∷ rest) = (k, v) ∷ pairs_of rest
pairs_of vs = []

abbrev pub dict_made : Ty → Ty → List Datum → Made
dict_made k v values = m.dict (record { key_type = k; value_type = v; fixed = true; pairs = pairs_of values })

-- a constant, by its kind and the shape of its type; it is read-only
abbrev pub thing_made : ConstKind → Ty-F Ty → Ty → List Datum → Made
thing_made kind.Array shape t values = m.array (record { element = t; fixed = true; items = values })
thing_made kind.DictOf (open_ty.DictOf k v) t values = dict_made k v values
thing_made k shape t values = dict_made Variant Variant values

-- what `put` gave joins the constants; a verified program has so few that all are made
abbrev pub joins : World → Result (Datum × World) RunFault → World
joins w (Err fault) = w
joins w (Ok q) = record q.1 { constants = q.1.constants ++ q.0 ∷ [] }

abbrev pub constant_made : Program → World → ConstThing → World
constant_made p w c =
    joins w (put w (thing_made c.kind (out-Ty (type_at p c.typed)) (type_at p c.typed) (map (operand_value p w) c.operands)))

abbrev pub constants_from : Program → List ConstThing → World → World
constants_from p [] w = w
constants_from p (c ∷ cs) w = constants_from p cs (constant_made p w c)

abbrev pub constants_made : Program → World → World
constants_made p w = constants_from p p.constants w
