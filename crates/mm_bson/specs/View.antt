-- The tree that a value stands for, in memory or in place.
use Rattle.std.specs.Prelude.{List, [], ◌∷◌}
use Rattle.mm_bson.specs.declared.doc.Value.{Value}
use Rattle.mm_bson.specs.declared.doc.Value.TheVariants.{MinKey, Null, Int32, Int64, String, Document, Array, Binary, ObjectId, Boolean, Date, Timestamp, MaxKey}
use Rattle.mm_bson.specs.declared.doc.Element.{Element}
use Rattle.mm_bson.specs.declared.place.ValueRef.{ValueRef}
use Rattle.mm_bson.specs.declared.place.ValueRef.TheVariants as place
use Rattle.mm_bson.specs.Tree.{Tree, min_key, null, int32, int64, string, document, array, binary, object_id, boolean, date, timestamp, max_key, Elements, no_elements, element, Values, no_values, item}

abbrev pub tree : Value → Tree
tree (Int32 z) = int32 z
tree (Int64 z) = int64 z
tree (String s) = string s
tree (Document d) = document d
tree (Array vs) = array vs
tree (Binary k bytes) = binary k bytes
tree (ObjectId bytes) = object_id bytes
tree (Boolean b) = boolean b
tree (Date z) = date z
tree (Timestamp s i) = timestamp s i
tree MinKey = min_key
tree Null = null
tree MaxKey = max_key

abbrev pub elements_of : List Element → Elements
elements_of [] = no_elements
elements_of (e ∷ es) = element e.name (tree e.value) (elements_of es)

abbrev pub values_of : List Value → Values
values_of [] = no_values
values_of (v ∷ vs) = item (tree v) (values_of vs)

abbrev pub tree_in : ValueRef → Tree
tree_in (place.Int32 z) = int32 z
tree_in (place.Int64 z) = int64 z
tree_in (place.String s) = string s
tree_in (place.Document d) = document d
tree_in (place.Array vs) = array vs
tree_in (place.Binary k bytes) = binary k bytes.now
tree_in (place.ObjectId bytes) = object_id bytes
tree_in (place.Boolean b) = boolean b
tree_in (place.Date z) = date z
tree_in (place.Timestamp s i) = timestamp s i
tree_in place.MinKey = min_key
tree_in place.Null = null
tree_in place.MaxKey = max_key
