-- Which commands there are: what names they may have, and with what an inserted document begins. Engines ask this of their callers; a script's
-- reader gives it.
use Rattle.std.specs.Prelude.{ℕ, Bool, true, false, List, Option, Some, None, ◌&&◌, ◌||◌, not, nat_le, nat_lt, ◌==◌, length, IsTrue, codes, take}
use Rattle.std.specs.List.{list_all}
use Rattle.std.specs.Str.{bytes_eq}
use Rattle.mm_bson.specs.Tree.{Elements, no_elements, element}
use Rattle.mm_bson.specs.Spelling.{spelling}
use Rattle.mm_model.specs.declared.command.Command.{Command}
use Rattle.mm_model.specs.declared.command.Command.TheVariants.{Insert, Find, Update, Remove, Create, Drop, EnsureIndex, DropIndex}
use Rattle.mm_model.specs.Database.{id_name}

-- an ASCII letter, a digit or an underscore
abbrev pub is_word : ℕ → Bool
is_word b = (nat_le 97 b && nat_le b 122) || (nat_le 65 b && nat_le b 90) || (nat_le 48 b && nat_le b 57) || (b == 95)

-- a collection's name: 1 to 60 letters, digits, underscores and dots, which don't begin with "system."
abbrev pub is_collection_name : List ℕ → Bool
is_collection_name name =
    nat_lt 0 (length name) && nat_le (length name) 60 && list_all (λ b. is_word b || (b == 46)) name && not (bytes_eq (take 7 name) (codes "system."))

-- an index's name: 1 to 40 letters, digits and underscores
abbrev pub is_index_name : List ℕ → Bool
is_index_name name = nat_lt 0 (length name) && nat_le (length name) 40 && list_all is_word name

abbrev pub begins_with_id : Elements → Bool
begins_with_id no_elements = false
begins_with_id (element name t es) = bytes_eq name id_name

abbrev pub is_index_or_none : Option (List ℕ) → Bool
is_index_or_none None = true
is_index_or_none (Some name) = is_index_name name

-- the names of a command
abbrev pub is_named : Command → Bool
is_named (Insert coll doc) = is_collection_name coll && begins_with_id doc
is_named (Find coll filter index) = is_collection_name coll && is_index_or_none index
is_named (Update coll filter change multi) = is_collection_name coll
is_named (Remove coll filter one) = is_collection_name coll
is_named (Create coll) = is_collection_name coll
is_named (Drop coll) = is_collection_name coll
is_named (EnsureIndex coll name spec unique) =
    is_collection_name coll && is_index_name name && not (bytes_eq name (codes "_id_")) && nat_le (length (spelling spec)) 65536
is_named (DropIndex coll name) = is_collection_name coll && is_index_name name

abbrev pub IsWellFormed : Command → Type 0
IsWellFormed command = IsTrue (is_named command)
