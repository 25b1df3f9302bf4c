-- Worked examples: an insert without `_id`, and a find behind it; first faults of documents.
use Rattle.std.specs.Prelude.{◌≡◌, [], ◌∷◌, None, Ok, Err, codes}
use Rattle.mm_bson.specs.declared.fault.BsonFault.TheVariants.{BadLength, BadType, BadUtf8}
use Rattle.mm_bson.specs.Tree.{object_id, string, Elements, no_elements, element}
use Rattle.mm_bson.specs.Reading.{whole}
use Rattle.mm_model.specs.declared.command.Command.TheVariants.{Insert, Find}
use Rattle.mm_model.specs.declared.reply.Reply.TheVariants.{Done, Found}
use Rattle.mm_model.specs.Examples.{replies}
use Rattle.mm_script.specs.Documents.{made_id, with_id}

-- {"_id": ObjectId("53724e000000000001000001")}
abbrev pub first_made : Elements
first_made = element (codes "_id") (object_id (0x53 ∷ 0x72 ∷ 0x4e ∷ 0 ∷ 0 ∷ 0 ∷ 0 ∷ 0 ∷ 1 ∷ 0 ∷ 0 ∷ 1 ∷ [])) no_elements

-- what line 1 of session 1 puts in for {}, with the stamp 1400000000
abbrev pub MadeIdInFront : Type 0
MadeIdInFront = with_id (made_id 1_400_000_000 1 1) no_elements ≡ first_made

-- it is what a find without conditions gives then
abbrev pub MadeIdFound : Type 0
MadeIdFound = replies (Insert (codes "c") first_made ∷ Find (codes "c") no_elements None ∷ []) None ≡ Done 1 ∷ Found (first_made ∷ []) ∷ []

-- ---- first faults of documents

-- A byte 01 where a type is due, at offset 4. The last byte isn't 00 as it should be, but nobody looks so far.
abbrev pub NoType : Type 0
NoType = whole (6 ∷ 0 ∷ 0 ∷ 0 ∷ 1 ∷ 7 ∷ []) ≡ Err (BadType 4 1)

-- Why there have to be as many bytes: with one more behind them, the outermost length is wrong.
abbrev pub OneMore : Type 0
OneMore = whole (6 ∷ 0 ∷ 0 ∷ 0 ∷ 1 ∷ 7 ∷ 0 ∷ []) ≡ Err (BadLength 0)

-- The text c3 28 at offset 11 isn't UTF-8, by its second byte.
abbrev pub NoText : Type 0
NoText = whole (15 ∷ 0 ∷ 0 ∷ 0 ∷ 2 ∷ 97 ∷ 0 ∷ 3 ∷ 0 ∷ 0 ∷ 0 ∷ 0xc3 ∷ 0x28 ∷ 0 ∷ 0 ∷ []) ≡ Err (BadUtf8 11)

-- Why they have to agree up to the end of the field, and not only at the fault's offset: the text c3 a9 is {"a": "é"}.
abbrev pub OtherText : Type 0
OtherText = whole (15 ∷ 0 ∷ 0 ∷ 0 ∷ 2 ∷ 97 ∷ 0 ∷ 3 ∷ 0 ∷ 0 ∷ 0 ∷ 0xc3 ∷ 0xa9 ∷ 0 ∷ 0 ∷ []) ≡ Ok (element (codes "a") (string (0xc3 ∷ 0xa9 ∷ [])) no_elements)
