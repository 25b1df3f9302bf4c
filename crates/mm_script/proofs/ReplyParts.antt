-- The text of a reply as its first word and what follows, and the reply that is made of its parts.
use Rattle.std.proofs.Common.{◌≡◌, ℕ, Bool, true, cond, List, [], ◌∷◌, ◌++◌, refl, sym, ap, ◌∙◌, length}
use Rattle.std.specs.Prelude.{codes, flat_map, nat_lt, ◌==◌, if◌then◌else◌}
use Rattle.std.specs.List.{list_all}
use Rattle.std.specs.Str.{bytes_eq}
use Rattle.std.specs.Fmt.{decimal}
use Rattle.mm_bson.specs.Tree.{Elements}
use Rattle.mm_model.specs.declared.reply.Reply.{Reply}
use Rattle.mm_model.specs.declared.reply.Reply.TheVariants.{Done, Found, DocTooLarge, DocTooDeep, IdArray, BadOperator, BadChange, ChangesId, NotNumber, IncOverflow, NoCollection, NoIndex, IdIndex, IndexDiffers, TooManyIndexes, ArrayKey, KeyTooLong, Duplicate, NsFull, NoSpace, OpTooLarge}
use Rattle.mm_notation.specs.Written.{written_string}
use Rattle.mm_script.specs.Replies.{document_text, reply_text}
use Rattle.mm_script.specs.Render.{is_inside, Suits}

abbrev pub word_of : Reply → List ℕ
word_of (Done n) = codes "ok"
word_of (Found ds) = codes "ok"
word_of (DocTooLarge len) = codes "DocTooLarge"
word_of DocTooDeep = codes "DocTooDeep"
word_of IdArray = codes "IdArray"
word_of (BadOperator name) = codes "BadOperator"
word_of (BadChange name) = codes "BadChange"
word_of ChangesId = codes "ChangesId"
word_of (NotNumber path) = codes "NotNumber"
word_of (IncOverflow path) = codes "IncOverflow"
word_of (NoCollection name) = codes "NoCollection"
word_of (NoIndex name) = codes "NoIndex"
word_of IdIndex = codes "IdIndex"
word_of (IndexDiffers name) = codes "IndexDiffers"
word_of TooManyIndexes = codes "TooManyIndexes"
word_of (ArrayKey index) = codes "ArrayKey"
word_of (KeyTooLong index len) = codes "KeyTooLong"
word_of (Duplicate index key) = codes "E11000"
word_of NsFull = codes "NsFull"
word_of NoSpace = codes "NoSpace"
word_of (OpTooLarge weight) = codes "OpTooLarge"

abbrev pub rest_of : Reply → List ℕ
rest_of (Done n) = 0x20 ∷ decimal n
rest_of (Found ds) = 0x20 ∷ (decimal (length ds) ++ flat_map document_text ds)
rest_of (DocTooLarge len) = 0x20 ∷ decimal len
rest_of DocTooDeep = []
rest_of IdArray = []
rest_of (BadOperator name) = 0x20 ∷ written_string name
rest_of (BadChange name) = 0x20 ∷ written_string name
rest_of ChangesId = []
rest_of (NotNumber path) = 0x20 ∷ written_string path
rest_of (IncOverflow path) = 0x20 ∷ written_string path
rest_of (NoCollection name) = 0x20 ∷ written_string name
rest_of (NoIndex name) = 0x20 ∷ written_string name
rest_of IdIndex = []
rest_of (IndexDiffers name) = 0x20 ∷ written_string name
rest_of TooManyIndexes = []
rest_of (ArrayKey index) = 0x20 ∷ index
rest_of (KeyTooLong index len) = 0x20 ∷ (index ++ 0x20 ∷ decimal len)
rest_of (Duplicate index key) = codes " duplicate key " ++ (index ++ document_text key)
rest_of NsFull = []
rest_of NoSpace = []
rest_of (OpTooLarge weight) = 0x20 ∷ decimal weight

pub text_parts : (r : Reply) → reply_text r ≡ word_of r ++ rest_of r
text_parts (Done n) = refl
text_parts (Found ds) = refl
text_parts (DocTooLarge len) = refl
text_parts DocTooDeep = refl
text_parts IdArray = refl
text_parts (BadOperator name) = refl
text_parts (BadChange name) = refl
text_parts ChangesId = refl
text_parts (NotNumber path) = refl
text_parts (IncOverflow path) = refl
text_parts (NoCollection name) = refl
text_parts (NoIndex name) = refl
text_parts IdIndex = refl
text_parts (IndexDiffers name) = refl
text_parts TooManyIndexes = refl
text_parts (ArrayKey index) = refl
text_parts (KeyTooLong index len) = refl
text_parts (Duplicate index key) = refl
text_parts NsFull = refl
text_parts NoSpace = refl
text_parts (OpTooLarge weight) = refl

pub word_inside : (r : Reply) → list_all is_inside (word_of r) ≡ true
word_inside (Done n) = refl
word_inside (Found ds) = refl
word_inside (DocTooLarge len) = refl
word_inside DocTooDeep = refl
word_inside IdArray = refl
word_inside (BadOperator name) = refl
word_inside (BadChange name) = refl
word_inside ChangesId = refl
word_inside (NotNumber path) = refl
word_inside (IncOverflow path) = refl
word_inside (NoCollection name) = refl
word_inside (NoIndex name) = refl
word_inside IdIndex = refl
word_inside (IndexDiffers name) = refl
word_inside TooManyIndexes = refl
word_inside (ArrayKey index) = refl
word_inside (KeyTooLong index len) = refl
word_inside (Duplicate index key) = refl
word_inside NsFull = refl
word_inside NoSpace = refl
word_inside (OpTooLarge weight) = refl

-- ---- kinds, by number

abbrev pub kind_of : Reply → ℕ
kind_of (Done n) = 0
kind_of (Found ds) = 1
kind_of (DocTooLarge len) = 2
kind_of DocTooDeep = 3
kind_of IdArray = 4
kind_of (BadOperator name) = 5
kind_of (BadChange name) = 6
kind_of ChangesId = 7
kind_of (NotNumber path) = 8
kind_of (IncOverflow path) = 9
kind_of (NoCollection name) = 10
kind_of (NoIndex name) = 11
kind_of IdIndex = 12
kind_of (IndexDiffers name) = 13
kind_of TooManyIndexes = 14
kind_of (ArrayKey index) = 15
kind_of (KeyTooLong index len) = 16
kind_of (Duplicate index key) = 17
kind_of NsFull = 18
kind_of NoSpace = 19
kind_of (OpTooLarge weight) = 20

abbrev pub word_kind : Bool → List ℕ → ℕ
word_kind find w =
    if bytes_eq w (codes "ok") then (if find then 1 else 0)
    else (if bytes_eq w (codes "DocTooLarge") then 2
    else (if bytes_eq w (codes "DocTooDeep") then 3
    else (if bytes_eq w (codes "IdArray") then 4
    else (if bytes_eq w (codes "BadOperator") then 5
    else (if bytes_eq w (codes "BadChange") then 6
    else (if bytes_eq w (codes "ChangesId") then 7
    else (if bytes_eq w (codes "NotNumber") then 8
    else (if bytes_eq w (codes "IncOverflow") then 9
    else (if bytes_eq w (codes "NoCollection") then 10
    else (if bytes_eq w (codes "NoIndex") then 11
    else (if bytes_eq w (codes "IdIndex") then 12
    else (if bytes_eq w (codes "IndexDiffers") then 13
    else (if bytes_eq w (codes "TooManyIndexes") then 14
    else (if bytes_eq w (codes "ArrayKey") then 15
    else (if bytes_eq w (codes "KeyTooLong") then 16
    else (if bytes_eq w (codes "E11000") then 17
    else (if bytes_eq w (codes "NsFull") then 18
    else (if bytes_eq w (codes "NoSpace") then 19
    else (if bytes_eq w (codes "OpTooLarge") then 20 else 99)))))))))))))))))))

pub kind_is : (find : Bool) (r : Reply) → Suits find r → word_kind find (word_of r) ≡ kind_of r
kind_is find (Done n) s = ap (λ (f : Bool). cond f 1 0) s
kind_is find (Found ds) s = ap (λ (f : Bool). cond f 1 0) s
kind_is find (DocTooLarge len) s = refl
kind_is find DocTooDeep s = refl
kind_is find IdArray s = refl
kind_is find (BadOperator name) s = refl
kind_is find (BadChange name) s = refl
kind_is find ChangesId s = refl
kind_is find (NotNumber path) s = refl
kind_is find (IncOverflow path) s = refl
kind_is find (NoCollection name) s = refl
kind_is find (NoIndex name) s = refl
kind_is find IdIndex s = refl
kind_is find (IndexDiffers name) s = refl
kind_is find TooManyIndexes s = refl
kind_is find (ArrayKey index) s = refl
kind_is find (KeyTooLong index len) s = refl
kind_is find (Duplicate index key) s = refl
kind_is find NsFull s = refl
kind_is find NoSpace s = refl
kind_is find (OpTooLarge weight) s = refl

pub kind_below : (r : Reply) → nat_lt (kind_of r) 21 ≡ true
kind_below (Done n) = refl
kind_below (Found ds) = refl
kind_below (DocTooLarge len) = refl
kind_below DocTooDeep = refl
kind_below IdArray = refl
kind_below (BadOperator name) = refl
kind_below (BadChange name) = refl
kind_below ChangesId = refl
kind_below (NotNumber path) = refl
kind_below (IncOverflow path) = refl
kind_below (NoCollection name) = refl
kind_below (NoIndex name) = refl
kind_below IdIndex = refl
kind_below (IndexDiffers name) = refl
kind_below TooManyIndexes = refl
kind_below (ArrayKey index) = refl
kind_below (KeyTooLong index len) = refl
kind_below (Duplicate index key) = refl
kind_below NsFull = refl
kind_below NoSpace = refl
kind_below (OpTooLarge weight) = refl

-- ---- what a reply is made of

abbrev pub number_of : Reply → ℕ
number_of (Done n) = n
number_of (DocTooLarge len) = len
number_of (KeyTooLong index len) = len
number_of (OpTooLarge weight) = weight
number_of _ = 0

abbrev pub name_of : Reply → List ℕ
name_of (BadOperator name) = name
name_of (BadChange name) = name
name_of (NotNumber path) = path
name_of (IncOverflow path) = path
name_of (NoCollection name) = name
name_of (NoIndex name) = name
name_of (IndexDiffers name) = name
name_of (ArrayKey index) = index
name_of (KeyTooLong index len) = index
name_of (Duplicate index key) = index
name_of _ = []

abbrev pub documents_of : Reply → List Elements
documents_of (Found ds) = ds
documents_of (Duplicate index key) = key ∷ []
documents_of _ = []

abbrev made_duplicate : List ℕ → List Elements → Reply
made_duplicate name [] = NsFull
made_duplicate name (d ∷ ds) = Duplicate name d

abbrev pub made : ℕ → ℕ → List ℕ → List Elements → Reply
made k n name ds =
    if k == 0 then Done n
    else (if k == 1 then Found ds
    else (if k == 2 then DocTooLarge n
    else (if k == 3 then DocTooDeep
    else (if k == 4 then IdArray
    else (if k == 5 then BadOperator name
    else (if k == 6 then BadChange name
    else (if k == 7 then ChangesId
    else (if k == 8 then NotNumber name
    else (if k == 9 then IncOverflow name
    else (if k == 10 then NoCollection name
    else (if k == 11 then NoIndex name
    else (if k == 12 then IdIndex
    else (if k == 13 then IndexDiffers name
    else (if k == 14 then TooManyIndexes
    else (if k == 15 then ArrayKey name
    else (if k == 16 then KeyTooLong name n
    else (if k == 17 then made_duplicate name ds
    else (if k == 18 then NsFull
    else (if k == 19 then NoSpace else OpTooLarge n)))))))))))))))))))

made_is : (r : Reply) → made (kind_of r) (number_of r) (name_of r) (documents_of r) ≡ r
made_is (Done n) = refl
made_is (Found ds) = refl
made_is (DocTooLarge len) = refl
made_is DocTooDeep = refl
made_is IdArray = refl
made_is (BadOperator name) = refl
made_is (BadChange name) = refl
made_is ChangesId = refl
made_is (NotNumber path) = refl
made_is (IncOverflow path) = refl
made_is (NoCollection name) = refl
made_is (NoIndex name) = refl
made_is IdIndex = refl
made_is (IndexDiffers name) = refl
made_is TooManyIndexes = refl
made_is (ArrayKey index) = refl
made_is (KeyTooLong index len) = refl
made_is (Duplicate index key) = refl
made_is NsFull = refl
made_is NoSpace = refl
made_is (OpTooLarge weight) = refl

-- a reply of this kind
pub of_kind : (r : Reply) (k : ℕ) → kind_of r ≡ k → r ≡ made k (number_of r) (name_of r) (documents_of r)
of_kind r k e = sym (made_is r) ∙ ap (λ (i : ℕ). made i (number_of r) (name_of r) (documents_of r)) e
