-- Attributes and subscripts with more turns.
use Rattle.std.proofs.Common.{ℕ, List, refl}
use Rattle.std.specs.Prelude.{Option, None, Some, Result, Ok, Err}
use Rattle.gd_model.specs.Datum as d
use Rattle.gd_model.specs.Datum.{Datum}
use Rattle.gd_model.specs.Store.{Thing}
use Rattle.gd_model.specs.declared.fault.RunFault.{RunFault}
use Rattle.gd_syntax.specs.declared.pos.Pos.{Pos}
use Rattle.syntax_trees.specs.Expressions.{Text}
use Rattle.store_semantics.specs.Subscripts.{subscript}
use Rattle.store_semantics.specs.World.{write}
use Rattle.source_semantics.specs.Attributes.{class_of, getter, put_in_slot, read_attribute, read_by, read_index, read_of_object, read_static, read_variable, set_static, setter, static_value, store_variable, stored, type_of, with_value, write_attribute, write_by, write_entry, write_index, write_item, write_of_object, write_static, write_variable, written_thing}
use Rattle.source_semantics.specs.Meaning.{Code, Frame}
use Rattle.source_semantics.specs.Project as of_object
use Rattle.source_semantics.specs.Project.{Attribute, Project, Variable, attribute, bases, name_of, slot}
use Rattle.source_semantics.specs.State.{store, tested}
use Rattle.source_semantics.specs.Types.{fits_type}
use Rattle.source_semantics.proofs.Grown.{Goes, Step, extends_same, goes_by, goes_failed, goes_gives, goes_read_at, goes_tested, goes_then, goes_value, step_of, step_self, step_settled, step_then}
use Rattle.source_semantics.proofs.GrownPair.{Pair}

-- ---- variables of objects

step_in_slot : (s : ℕ) (value : Datum) (i : Option ℕ) → Step (λ r. put_in_slot r s value i)
step_in_slot s value None = step_self
step_in_slot s value (Some i) = record {
  alike = λ r t. refl;
  turns = λ r. refl;
  extends = λ r. extends_same r.world _ refl;
}

pub step_with_value : (p : Project) (s : ℕ) (name : Text) (value : Datum) → Step (λ r. with_value p r s name value)
step_with_value p s name value = record {
  alike = λ r t. (step_in_slot s value (slot p (class_of r s) name)).alike r t;
  turns = λ r. (step_in_slot s value (slot p (class_of r s) name)).turns r;
  extends = λ r. (step_in_slot s value (slot p (class_of r s) name)).extends r;
}

module _ (q : Pair) where
  goes_read_by : (frame : Frame) (pos : Pos) (hand : List Datum) (s : ℕ) (name : Text) (x : Option Code)
      → Goes q.bound (λ r. read_by q.project q.left frame pos hand r s name x)
      (λ r. read_by q.project q.right frame pos hand r s name x)
  goes_read_by frame pos hand s name None = goes_by (λ r. stored q.project r s name) (λ r t. refl)
      (λ v. goes_gives hand v)
  goes_read_by frame pos hand s name (Some code) = q.enters _ hand

  pub goes_read_variable : (frame : Frame) (pos : Pos) (hand : List Datum) (s : ℕ) (v : Variable)
      → Goes q.bound (λ r. read_variable q.project q.left frame pos hand r s v)
      (λ r. read_variable q.project q.right frame pos hand r s v)
  goes_read_variable frame pos hand s v = goes_read_by frame pos hand s (name_of v) (getter q.project v)

  pub goes_fits : (pos : Pos) (v : Variable) (value : Datum)
      → Goes q.bound (λ r. tested pos (fits_type (bases q.project) (store r) (type_of q.project v) value) r)
      (λ r. tested pos (fits_type (bases q.project) (store r) (type_of q.project v) value) r)
  goes_fits pos v value = goes_tested pos (λ r. fits_type (bases q.project) (store r) (type_of q.project v) value)
      (λ r t. refl)

  pub goes_store_variable : (pos : Pos) (hand : List Datum) (s : ℕ) (v : Variable) (value : Datum)
      → Goes q.bound (λ r. store_variable q.project pos hand r s v value)
      (λ r. store_variable q.project pos hand r s v value)
  goes_store_variable pos hand s v value =
      goes_then (goes_fits pos v value)
      (λ _. goes_value tt (step_then (step_with_value q.project s (name_of v) value) (step_settled hand)))

  goes_write_by : (frame : Frame) (pos : Pos) (hand : List Datum) (s : ℕ) (v : Variable) (value : Datum)
      (x : Option Code)
      → Goes q.bound (λ r. write_by q.project q.left frame pos hand r s v value x)
      (λ r. write_by q.project q.right frame pos hand r s v value x)
  goes_write_by frame pos hand s v value None = goes_store_variable pos hand s v value
  goes_write_by frame pos hand s v value (Some code) =
      goes_then (goes_fits pos v value) (λ _. goes_then (q.enters _ hand) (λ _. goes_value tt (step_settled hand)))

  pub goes_write_variable : (frame : Frame) (pos : Pos) (hand : List Datum) (s : ℕ) (v : Variable) (value : Datum)
      → Goes q.bound (λ r. write_variable q.project q.left frame pos hand r s v value)
      (λ r. write_variable q.project q.right frame pos hand r s v value)
  goes_write_variable frame pos hand s v value = goes_write_by frame pos hand s v value (setter q.project v)

  -- ---- static variables

  pub goes_read_static : (hand : List Datum) (v : Variable) → Goes q.bound (λ r. read_static hand r v)
      (λ r. read_static hand r v)
  goes_read_static hand v = goes_by (λ r. static_value v.class (name_of v) r.world.statics) (λ r t. refl)
      (λ x. goes_gives hand x)

  pub goes_write_static : (pos : Pos) (hand : List Datum) (v : Variable) (value : Datum)
      → Goes q.bound (λ r. write_static q.project pos hand r v value) (λ r. write_static q.project pos hand r v value)
  goes_write_static pos hand v value = goes_then (goes_fits pos v value) (λ _. goes_value tt (step_then
      (step_of (λ w bs. record w { statics = set_static v.class (name_of v) value w.statics }) (λ w bs. bs)
      (λ w bs. refl))
      (step_settled hand)))

  -- ---- attributes

  goes_read_of_object : (frame : Frame) (pos : Pos) (hand : List Datum) (s : ℕ) (name : Text) (x : Option Attribute)
      → Goes q.bound (λ r. read_of_object q.project q.left frame pos hand r s name x)
      (λ r. read_of_object q.project q.right frame pos hand r s name x)
  goes_read_of_object frame pos hand s name (Some (of_object.instance v)) = goes_read_variable frame pos hand s v
  goes_read_of_object frame pos hand s name (Some (of_object.static v)) = goes_read_static hand v
  goes_read_of_object frame pos hand s name (Some (of_object.function class f)) = goes_gives hand _
  goes_read_of_object frame pos hand s name (Some of_object.signal) = goes_gives hand _
  goes_read_of_object frame pos hand s name None = goes_failed _ pos None

  pub goes_read_attribute : (frame : Frame) (pos : Pos) (hand : List Datum) (v : Datum) (name : Text)
      → Goes q.bound (λ r. read_attribute q.project q.left frame pos hand r v name)
      (λ r. read_attribute q.project q.right frame pos hand r v name)
  goes_read_attribute frame pos hand (d.object s) name =
      goes_by (λ r. attribute q.project (class_of r s) name) (λ r t. refl)
      (λ x. goes_read_of_object frame pos hand s name x)
  goes_read_attribute frame pos hand (d.dictionary s) name =
      goes_then (goes_read_at pos (λ r. subscript (store r) (d.dictionary s) (d.text name)) (λ r t. refl))
      (λ v. goes_gives hand v)
  goes_read_attribute frame pos hand v name = goes_failed _ pos None

  goes_written_thing : (pos : Pos) (hand : List Datum) (s : ℕ) (x : Result Thing RunFault)
      → Goes q.bound (λ r. written_thing pos hand r s x) (λ r. written_thing pos hand r s x)
  goes_written_thing pos hand s (Err f) = goes_failed f pos None
  goes_written_thing pos hand s (Ok t) =
      goes_value tt (step_then (step_of (λ w bs. write w s t) (λ w bs. bs) (λ w bs. refl)) (step_settled hand))

  goes_write_entry : (pos : Pos) (hand : List Datum) (s : ℕ) (key value : Datum)
      → Goes q.bound (λ r. write_entry q.project pos hand r s key value)
      (λ r. write_entry q.project pos hand r s key value)
  goes_write_entry pos hand s key value = goes_by _ (λ r t. refl) (λ x. goes_written_thing pos hand s x)

  goes_write_item : (pos : Pos) (hand : List Datum) (s : ℕ) (index value : Datum)
      → Goes q.bound (λ r. write_item q.project pos hand r s index value)
      (λ r. write_item q.project pos hand r s index value)
  goes_write_item pos hand s index value = goes_by _ (λ r t. refl) (λ x. goes_written_thing pos hand s x)

  goes_write_of_object : (frame : Frame) (pos : Pos) (hand : List Datum) (s : ℕ) (value : Datum) (x : Option Attribute)
      → Goes q.bound (λ r. write_of_object q.project q.left frame pos hand r s value x)
      (λ r. write_of_object q.project q.right frame pos hand r s value x)
  goes_write_of_object frame pos hand s value (Some (of_object.instance v)) = goes_write_variable frame pos hand s v
      value
  goes_write_of_object frame pos hand s value (Some (of_object.static v)) = goes_write_static pos hand v value
  goes_write_of_object frame pos hand s value (Some (of_object.function class f)) = goes_failed _ pos None
  goes_write_of_object frame pos hand s value (Some of_object.signal) = goes_failed _ pos None
  goes_write_of_object frame pos hand s value None = goes_failed _ pos None

  pub goes_write_attribute : (frame : Frame) (pos : Pos) (hand : List Datum) (v : Datum) (name : Text) (value : Datum)
      → Goes q.bound (λ r. write_attribute q.project q.left frame pos hand r v name value)
      (λ r. write_attribute q.project q.right frame pos hand r v name value)
  goes_write_attribute frame pos hand (d.object s) name value =
      goes_by (λ r. attribute q.project (class_of r s) name) (λ r t. refl)
      (λ x. goes_write_of_object frame pos hand s value x)
  goes_write_attribute frame pos hand (d.dictionary s) name value = goes_write_entry pos hand s (d.text name) value
  goes_write_attribute frame pos hand v name value = goes_failed _ pos None

  -- ---- subscripts

  pub goes_read_index : (pos : Pos) (hand : List Datum) (base index : Datum)
      → Goes q.bound (λ r. read_index pos hand r base index) (λ r. read_index pos hand r base index)
  goes_read_index pos hand base index =
      goes_then (goes_read_at pos (λ r. subscript (store r) base index) (λ r t. refl)) (λ v. goes_gives hand v)

  pub goes_write_index : (pos : Pos) (hand : List Datum) (base index value : Datum)
      → Goes q.bound (λ r. write_index q.project pos hand r base index value)
      (λ r. write_index q.project pos hand r base index value)
  goes_write_index pos hand (d.array s) index value = goes_write_item pos hand s index value
  goes_write_index pos hand (d.dictionary s) index value = goes_write_entry pos hand s index value
  goes_write_index pos hand base index value = goes_failed _ pos None
