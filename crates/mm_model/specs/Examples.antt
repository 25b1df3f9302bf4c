-- Worked examples of `outcome`, each with the replies that the rules give.
use Rattle.std.specs.Prelude.{◌≡◌, ℕ, true, false, List, [], ◌∷◌, Option, None, pos, codes}
use Rattle.mm_bson.specs.Tree.{Tree, int32, int64, string, document, Elements, no_elements, element}
use Rattle.mm_model.specs.declared.command.Command.{Command}
use Rattle.mm_model.specs.declared.command.Command.TheVariants.{Insert, Find, Update, EnsureIndex}
use Rattle.mm_model.specs.declared.reply.Reply.{Reply}
use Rattle.mm_model.specs.declared.reply.Reply.TheVariants.{Done, Found, ChangesId, NotNumber, IncOverflow, Duplicate}
use Rattle.mm_model.specs.Database.{Collection}
use Rattle.mm_model.specs.Commands.{Outcome, refused, answered, done, outcome}

abbrev pub reply_of : Outcome → Reply
reply_of (refused r) = r
reply_of (answered r) = r
reply_of (done r c) = r

-- the collection that is there then
abbrev pub left_by : Option Collection → Outcome → Option Collection
left_by was (refused r) = was
left_by was (answered r) = was
left_by was (done r c) = c

-- the replies to commands on the collection test.c, one after the other
abbrev pub replies : List Command → Option Collection → List Reply
replies [] was = []
replies (c ∷ cs) was = reply_of (outcome (codes "test.c") c was) ∷ replies cs (left_by was (outcome (codes "test.c") c was))

abbrev pub field : List ℕ → Tree → Elements → Elements
field name t es = element name t es

abbrev pub number : ℕ → Tree
number n = int32 (pos n)

abbrev pub with_id : ℕ → Elements → Elements
with_id id es = element (codes "_id") (number id) es

-- {"_id": 5}, and then {"_id": NumberLong(5)}
abbrev pub OneIdOfTwoTypes : Type 0
OneIdOfTwoTypes =
    replies (Insert (codes "c") (with_id 5 no_elements) ∷ Insert (codes "c") (field (codes "_id") (int64 (pos 5)) no_elements) ∷ []) None
    ≡ Done 1 ∷ Duplicate (codes "test.c.$_id_") (field [] (int64 (pos 5)) no_elements) ∷ []

-- a unique index on u refuses the second 7 and takes 8
abbrev pub UniqueIndex : Type 0
UniqueIndex =
    replies
    (EnsureIndex (codes "c") (codes "u") (field (codes "u") (number 1) no_elements) true
    ∷ Insert (codes "c") (with_id 1 (field (codes "u") (number 7) no_elements))
    ∷ Insert (codes "c") (with_id 2 (field (codes "u") (number 7) no_elements))
    ∷ Insert (codes "c") (with_id 2 (field (codes "u") (number 8) no_elements))
    ∷ []) None
    ≡ Done 1 ∷ Done 1 ∷ Duplicate (codes "test.c.$u") (field [] (number 7) no_elements) ∷ Done 1 ∷ []

abbrev pub inc : List ℕ → Elements
inc path = field (codes "$inc") (document (field path (number 1) no_elements)) no_elements

-- $inc past int32 gives an int64, past int64 it is refused, and at the _id too
abbrev pub IncPastEnds : Type 0
IncPastEnds =
    let first = with_id 1 (field (codes "n") (number 2147483647) (field (codes "m") (int64 (pos 9223372036854775807)) no_elements)) in
    let second = with_id 1 (field (codes "n") (int64 (pos 2147483648)) (field (codes "m") (int64 (pos 9223372036854775807)) no_elements)) in
    replies
    (Insert (codes "c") first
    ∷ Update (codes "c") no_elements (inc (codes "n")) false
    ∷ Find (codes "c") no_elements None
    ∷ Update (codes "c") no_elements (inc (codes "m")) false
    ∷ Update (codes "c") no_elements (inc (codes "_id")) false
    ∷ []) None
    ≡ Done 1 ∷ Done 1 ∷ Found (second ∷ []) ∷ IncOverflow (codes "m") ∷ ChangesId ∷ []

-- an update of several documents of which the second is refused changes none
abbrev pub AllOrNone : Type 0
AllOrNone =
    let first = with_id 1 (field (codes "n") (number 1) no_elements) in
    let second = with_id 2 (field (codes "n") (string (codes "x")) no_elements) in
    replies
    (Insert (codes "c") second
    ∷ Insert (codes "c") first
    ∷ Update (codes "c") no_elements (inc (codes "n")) true
    ∷ Find (codes "c") no_elements None
    ∷ []) None
    ≡ Done 1 ∷ Done 1 ∷ NotNumber (codes "n") ∷ Found (first ∷ second ∷ []) ∷ []
