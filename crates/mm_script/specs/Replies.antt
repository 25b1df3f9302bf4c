-- The text of a reply. Names and paths stand in quotes, as strings of the notation; an index's full name stands plain.
use Rattle.std.specs.Prelude.{ℕ, List, ◌++◌, length, codes, flat_map}
use Rattle.std.specs.Fmt.{decimal}
use Rattle.mm_bson.specs.Tree.{Elements}
use Rattle.mm_notation.specs.Written.{written, written_string}
use Rattle.mm_model.specs.declared.reply.Reply.{Reply}
use Rattle.mm_model.specs.declared.reply.Reply.TheVariants.{Done, Found, DocTooLarge, DocTooDeep, IdArray, BadOperator, BadChange, ChangesId, NotNumber, IncOverflow, NoCollection, NoIndex, IdIndex, IndexDiffers, TooManyIndexes, ArrayKey, KeyTooLong, Duplicate, NsFull, NoSpace, OpTooLarge}

-- a document behind a space
abbrev pub document_text : Elements → List ℕ
document_text d = codes " " ++ written d

-- how many documents, and each of them
abbrev pub found_text : List Elements → List ℕ
found_text ds = codes "ok " ++ (decimal (length ds) ++ flat_map document_text ds)

-- a word and a number, and a word and a name
abbrev pub with_number : List ℕ → ℕ → List ℕ
with_number word n = word ++ decimal n

abbrev pub with_name : List ℕ → List ℕ → List ℕ
with_name word name = word ++ written_string name

abbrev pub reply_text : Reply → List ℕ
reply_text (Done n) = with_number (codes "ok ") n
reply_text (Found ds) = found_text ds
reply_text (DocTooLarge len) = with_number (codes "DocTooLarge ") len
reply_text DocTooDeep = codes "DocTooDeep"
reply_text IdArray = codes "IdArray"
reply_text (BadOperator name) = with_name (codes "BadOperator ") name
reply_text (BadChange name) = with_name (codes "BadChange ") name
reply_text ChangesId = codes "ChangesId"
reply_text (NotNumber path) = with_name (codes "NotNumber ") path
reply_text (IncOverflow path) = with_name (codes "IncOverflow ") path
reply_text (NoCollection name) = with_name (codes "NoCollection ") name
reply_text (NoIndex name) = with_name (codes "NoIndex ") name
reply_text IdIndex = codes "IdIndex"
reply_text (IndexDiffers name) = with_name (codes "IndexDiffers ") name
reply_text TooManyIndexes = codes "TooManyIndexes"
reply_text (ArrayKey index) = codes "ArrayKey " ++ index
reply_text (KeyTooLong index len) = codes "KeyTooLong " ++ (index ++ with_number (codes " ") len)
reply_text (Duplicate index key) = codes "E11000 duplicate key " ++ (index ++ document_text key)
reply_text NsFull = codes "NsFull"
reply_text NoSpace = codes "NoSpace"
reply_text (OpTooLarge weight) = with_number (codes "OpTooLarge ") weight
