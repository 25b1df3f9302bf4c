-- What the keys of a collection's indexes ask of a document that is to be stored, and the first refusal in their order.
use Rattle.std.specs.Prelude.{ℕ, Bool, true, false, List, [], ◌∷◌, ◌++◌, Option, Some, None, ◌&&◌, ◌||◌, nat_lt, length, if◌then◌else◌, codes}
use Rattle.std.specs.List.{list_any}
use Rattle.std.specs.Ordering.{is_eq}
use Rattle.mm_bson.specs.Tree.{Tree, array, Elements, no_elements, element}
use Rattle.mm_bson.specs.Spelling.{spelling}
use Rattle.mm_keys.specs.Key.{key, keyed, key_len}
use Rattle.mm_keys.specs.KeyOrder.{key_compare}
use Rattle.mm_model.specs.declared.reply.Reply.{Reply}
use Rattle.mm_model.specs.declared.reply.Reply.TheVariants.{DocTooLarge, IdArray, ArrayKey, KeyTooLong, Duplicate}
use Rattle.mm_model.specs.Database.{Index, id_of, has_id}

-- the first refusal there is
abbrev pub or_else : Option Reply → Option Reply → Option Reply
or_else None later = later
or_else (Some r) later = Some r

-- the first that something in a list has
abbrev pub first_refusal : {X : Type 0} → (X → Option Reply) → List X → Option Reply
first_refusal refuse [] = None
first_refusal refuse (x ∷ xs) = or_else (refuse x) (first_refusal refuse xs)

-- a namespace, "db.coll", and the full name of an index of it
abbrev pub namespace : List ℕ → List ℕ → List ℕ
namespace db coll = db ++ codes "." ++ coll

abbrev pub full_name : List ℕ → Index → List ℕ
full_name ns index = ns ++ codes ".$" ++ index.name

abbrev pub is_array : Tree → Bool
is_array (array vs) = true
is_array _ = false

-- some path of the specification leads to an array
abbrev pub has_array : Elements → Elements → Bool
has_array d no_elements = false
has_array d (element path sign spec) = is_array (keyed path d) || has_array d spec

-- no key of the index: a keyed value is an array, or the key has more than 1024 bytes
abbrev pub no_key : List ℕ → Elements → Index → Option Reply
no_key ns d index =
    if has_array d index.spec then Some (ArrayKey (full_name ns index))
    else (if nat_lt 1024 (key_len d index.spec) then Some (KeyTooLong (full_name ns index) (key_len d index.spec)) else None)

-- two documents have equal keys
abbrev pub same_key : Elements → Elements → Elements → Bool
same_key spec a b = is_eq (key_compare spec (key a spec) (key b spec))

-- the index is unique and one of these documents has the key
abbrev pub taken_key : List ℕ → List Elements → Elements → Index → Option Reply
taken_key ns others d index =
    if index.unique && list_any (λ o. same_key index.spec o d) others then Some (Duplicate (full_name ns index) (key d index.spec)) else None

-- what the indexes say of a document beside these others: first every index has a key of it, then no key is taken
abbrev pub keys_refusal : List ℕ → List Index → List Elements → Elements → Option Reply
keys_refusal ns indexes others d = or_else (first_refusal (no_key ns d) indexes) (first_refusal (taken_key ns others d) indexes)

-- more bytes than a document may have
abbrev pub too_large : Elements → Option Reply
too_large d = if nat_lt 0x100_0000 (length (spelling d)) then Some (DocTooLarge (length (spelling d))) else None

abbrev pub array_id : Elements → Option Reply
array_id d = if is_array (id_of d) then Some IdArray else None

-- all but the document of this _id
abbrev pub without_id : Tree → List Elements → List Elements
without_id id [] = []
without_id id (d ∷ ds) = if has_id id d then without_id id ds else d ∷ without_id id ds
