-- The changed document.
use Rattle.std.specs.Prelude.{Bool, true, false, Option, Some, None, Ok, Err, nat_le, nat_lt, length, ◌&&◌, if◌then◌else◌}
use Rattle.std.specs.Ordering.{is_eq}
use Rattle.std.specs.Str.{bytes_eq}
use Rattle.mm_update.specs.declared.fault.ChangeFault.TheVariants.{ChangesId, TooLong, TooDeep}
use Rattle.mm_bson.specs.Tree.{Tree, Elements, no_elements, element, append, depth}
use Rattle.mm_bson.specs.Path.{find}
use Rattle.mm_bson.specs.Order.{compare}
use Rattle.mm_bson.specs.Spelling.{spelling}
use Rattle.mm_update.specs.Paths.{id_name}
use Rattle.mm_update.specs.Edit.{Plan, replacement, edits}
use Rattle.mm_update.specs.Edited.{Outcome, and_then, all_edited}

-- ---- replacements

-- the value is equal to the old _id by the order of values
abbrev pub is_old_id : Option Tree → Tree → Bool
is_old_id None t = false
is_old_id (Some old) t = is_eq (compare t old)

-- no field _id but with the old value
abbrev pub keeps_id : Option Tree → Elements → Bool
keeps_id old no_elements = true
keeps_id old (element name t es) = (if bytes_eq name id_name then is_old_id old t else true) && keeps_id old es

abbrev pub id_field : Option Tree → Elements
id_field None = no_elements
id_field (Some t) = element id_name t no_elements

abbrev pub other_fields : Elements → Elements
other_fields no_elements = no_elements
other_fields (element name t es) = if bytes_eq name id_name then other_fields es else element name t (other_fields es)

-- the old _id, then the other fields
abbrev pub replaced : Elements → Elements → Outcome Elements
replaced new old = if keeps_id (find id_name old) new then Ok (append (id_field (find id_name old)) (other_fields new)) else Err ChangesId

-- ---- both

-- the finished document is one that may be stored: at most 16,777,216 bytes, then at most 100 levels
abbrev pub finished : Elements → Outcome Elements
finished es =
    if nat_le (length (spelling es)) 0x100_0000 then (if nat_lt (depth es) 100 then Ok es else Err TooDeep) else Err (TooLong (length (spelling es)))

abbrev pub carried_out : Plan → Elements → Outcome Elements
carried_out (replacement new) old = replaced new old
carried_out (edits es) old = all_edited es old

abbrev pub changed : Plan → Elements → Outcome Elements
changed p old = and_then finished (carried_out p old)
