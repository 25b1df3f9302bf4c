-- The pairs of an index follow the documents of its collection: each of a document that comes or goes comes or goes, and no other.
use Rattle.std.specs.Prelude.{◌≡◌, ℕ, true, false, List, ◌∷◌, ◌++◌, ◌↔◌, IsSome}
use Rattle.std.specs.List.{AllByRecursion, list_any}
use Rattle.mm_bson.specs.Tree.{Elements}
use Rattle.mm_bson.specs.Spelling.{IsDocument, spelling}
use Rattle.mm_bson.specs.Walk.{document_in}
use Rattle.mm_keys.specs.Key.{key}
use Rattle.mm_links.specs.Links.{has, once}
use Rattle.mm_ranges.specs.Overlay.{Image}
use Rattle.mm_extents.specs.Changes.{IsLow}
use Rattle.mm_records.specs.Shape.{Shape}
use Rattle.mm_bucket.specs.Pairs.{IsKey}
use Rattle.mm_btree.specs.Lists.{ins, Sorted}
use Rattle.mm_btree.specs.Order.{item_lt, IsLacking, first_with}
use Rattle.mm_btree.specs.Removal.{without}
use Rattle.mm_model.specs.Database.{Index}
use Rattle.mm_model.specs.Keyed.{same_key}
use Rattle.mm_model.specs.Laws.{HasKeyFor, AllKeyed}
use Rattle.mm_check.specs.Standing.{HasShape}
use Rattle.mm_standing.specs.Documents.{Laid, IsLaid, places, documents}
use Rattle.mm_standing.specs.Indexes.{item_of, items}

-- each place is one that a data file may have
abbrev pub AreLow : List Laid → Type 0
AreLow ls = AllByRecursion (λ l. IsLow l.at) ls

-- So are those of the live records of a namespace, where the files have a shape.
abbrev pub LaidAreLow : Type 0
LaidAreLow = (d : List ℕ) (image : Image) (s : Shape) (name : List ℕ) (ls : List Laid) → HasShape d image s → AllByRecursion (IsLaid s name) ls → AreLow ls

-- Of places each of which stands once, one stands not among the others, and these stand once.
abbrev pub OnceApart : Type 0
OnceApart = (ls ms : List Laid) (l : Laid) → once (places (ls ++ l ∷ ms)) ≡ true → (has (places (ls ++ ms)) l.at ≡ false) × (once (places (ls ++ ms)) ≡ true)

-- A document more, wherever it stands in the list, is its pair more.
abbrev pub ItemsCome : Type 0
ItemsCome = (spec : Elements) (ls ms : List Laid) (l : Laid) → AreLow (ls ++ l ∷ ms) → has (places (ls ++ ms)) l.at ≡ false
    → items spec (ls ++ l ∷ ms) ≡ ins (item_lt spec) (item_of spec l) (items spec (ls ++ ms))

-- A document less is its pair less.
abbrev pub ItemsGo : Type 0
ItemsGo = (spec : Elements) (ls ms : List Laid) (l : Laid) → AreLow (ls ++ l ∷ ms) → has (places (ls ++ ms)) l.at ≡ false
    → without spec (item_of spec l) (items spec (ls ++ l ∷ ms)) ≡ items spec (ls ++ ms)

-- The pairs stand in the order of the index, where no place stands twice.
abbrev pub ItemsAreSorted : Type 0
ItemsAreSorted = (spec : Elements) (ls : List Laid) → AreLow ls → once (places ls) ≡ true → Sorted (item_lt spec) (items spec ls)

-- A document at another place than these has a pair that isn't among theirs.
abbrev pub ItemsLack : Type 0
ItemsLack = (spec : Elements) (ls : List Laid) (l : Laid) → IsLow l.at → AreLow ls → has (places ls) l.at ≡ false → IsLacking spec (item_of spec l) (items spec ls)

-- ---- keys

-- What a document has for an index is a key as buckets hold it.
abbrev pub KeysAreKeys : Type 0
KeysAreKeys = (index : Index) (d : Elements) → IsDocument d → HasKeyFor index d → IsKey (spelling (key d index.spec))

-- A pair with a document's key is there exactly where some document has the same key.
abbrev pub KeysAreTaken : Type 0
KeysAreTaken = (index : Index) (d : Elements) (ls : List Laid) → IsDocument d → HasKeyFor index d → AllByRecursion IsDocument (documents ls) → AllKeyed index (documents ls)
    → IsSome (first_with index.spec (document_in (spelling (key d index.spec))) (items index.spec ls)) ↔ (list_any (λ o. same_key index.spec o d) (documents ls) ≡ true)
