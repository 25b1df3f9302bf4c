-- What a draft in memory stands for.
use Rattle.std.specs.Prelude.{ℕ, suc, List, [], ◌∷◌, ◌&&◌, Option, Some, None, is_some, option_map, if◌then◌else◌}
use Rattle.std.specs.Borrow.{Bor}
use Rattle.std.specs.Str.{bytes_eq}
use Rattle.mm_bson.specs.Tree.{Tree, int32, int64, null, document, array, Elements, no_elements, element, Values, no_values, item}
use Rattle.mm_bson.specs.declared.doc.Value.{Value}
use Rattle.mm_bson.specs.Spelling.{HasNoZero}
use Rattle.mm_bson.specs.View.{tree}
use Rattle.mm_update.specs.declared.draft.Node.{Node}
use Rattle.mm_update.specs.declared.draft.Node.TheVariants.{Kept, Int32, Int64, Null, Document, Array}
use Rattle.mm_update.specs.declared.draft.Entry.{Entry}

-- the values that references lead to
abbrev pub values_at : List (Bor Value) → Values
values_at [] = no_values
values_at (v ∷ vs) = item (tree v.now) (values_at vs)

abbrev pub node_tree : Node → Tree
node_tree (Kept v) = tree v.now
node_tree (Int32 z) = int32 z
node_tree (Int64 z) = int64 z
node_tree Null = null
node_tree (Document d) = document d
node_tree (Array vs) = array (values_at vs.items)

-- an entry before others, or nothing where it was taken out
abbrev pub entry_on : List ℕ → Option Node → Elements → Elements
entry_on name None es = es
entry_on name (Some n) es = element name (node_tree n) es

abbrev pub drafted : List Entry → Elements
drafted [] = no_elements
drafted (e ∷ es) = entry_on e.name.now e.node (drafted es)

-- the elements of one entry
abbrev pub one_entry : Entry → Elements
one_entry e = entry_on e.name.now e.node no_elements

-- no name of a document has a zero byte
abbrev pub AreNames : Elements → Type 0
AreNames no_elements = Unit {0}
AreNames (element name t es) = HasNoZero name × AreNames es

-- the place of the first entry of the name
abbrev pub place_in : List ℕ → List Entry → Option ℕ
place_in name [] = None
place_in name (e ∷ es) = if is_some e.node && bytes_eq e.name.now name then Some 0 else option_map suc (place_in name es)

-- a document is made another one, and any other value stays
abbrev pub inside_document : (Elements → Elements) → Tree → Tree
inside_document inside (document es) = document (inside es)
inside_document inside t = t
