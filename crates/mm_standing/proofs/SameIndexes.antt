-- Two lists of indexes that the files have for one collection are one.
use Rattle.std.proofs.Common.{◌≡◌, ℕ, zero, suc, ◌<◌, pos, Bool, true, false, List, [], ◌∷◌, length, Option, Some, None, refl, sym, ◌∙◌, ap, subst, arith}
use Rattle.std.specs.Prelude.{codes, if◌then◌else◌, ◌&&◌, not, slice_index, slice_index_or}
use Rattle.std.specs.Str.{bytes_eq}
use Rattle.std.proofs.Math.Bool.{and-true}
use Rattle.std.proofs.lemmas.List.{ext_get_or}
use Rattle.mm_bson.specs.Tree.{Tree, string, boolean, document, Elements, no_elements, element}
use Rattle.mm_ranges.specs.Overlay.{Image}
use Rattle.mm_base.specs.declared.place.DiskLoc.{DiskLoc}
use Rattle.mm_links.specs.Links.{Place}
use Rattle.mm_extents.specs.Heap.{live, IsHeap}
use Rattle.mm_extents.specs.Files.{FilesStand}
use Rattle.mm_extents.specs.Changes.{loc, IsLow}
use Rattle.mm_extents.proofs.Spots.{low_file}
use Rattle.mm_extents.proofs.FileLaws.{low_place}
use Rattle.mm_records.specs.Shape.{Shape}
use Rattle.mm_records.specs.Map.{live_at}
use Rattle.mm_records.proofs.Owning.{lives}
use Rattle.mm_model.specs.Database.{Index, Collection, id_index}
use Rattle.mm_model.specs.Commands.{index_named}
use Rattle.mm_model.specs.Laws.{AreNamed, IsCollection}
use Rattle.mm_standing.specs.Documents.{Laid, Begins}
use Rattle.mm_standing.specs.Indexes.{record_of, HasIndexAt}
use Rattle.mm_standing.specs.Database.{index_at}
use Rattle.mm_standing.proofs.SameDocuments.{same_begin}

-- ---- what the record of an index says

-- the record says that the index is unique
abbrev said : Index → Bool
said index = index.unique && not (bytes_eq index.name id_index.name)

abbrev names : List ℕ → List ℕ → Elements
names ns name = element (codes "ns") (string ns) (element (codes "name") (string name) no_elements)

parts : (n m : List ℕ) (t u : Tree) (es fs : Elements) → element n t es ≡ element m u fs → (n ≡ m) × (t ≡ u) × (es ≡ fs)
parts n m t u es fs e = (cc, cc, cc)

one_document : (a b : Elements) → document a ≡ document b → a ≡ b
one_document a b e = cc

one_text : (a b : List ℕ) → string a ≡ string b → a ≡ b
one_text a b e = cc

one_some : {A : Type 0} (x y : A) → Some x ≡ Some y → x ≡ y
one_some x y e = cc

one_name : (ns n m : List ℕ) → names ns n ≡ names ns m → n ≡ m
one_name ns n m e = one_text n m (parts (codes "name") (codes "name") (string n) (string m) no_elements no_elements (parts (codes "ns") (codes "ns") (string ns) (string ns) _ _ e).2).1

other_words : codes "unique" ≡ codes "ns" → ⊥
other_words e = let t : 117 ≡ 110 = ap (λ (xs : List ℕ). slice_index xs 0) e in omega (arith, t)

one_tail : (b c : Bool) (ns n m : List ℕ) → (if b then element (codes "unique") (boolean true) (names ns n) else names ns n) ≡ (if c then element (codes "unique") (boolean true) (names ns m) else names ns m) → (b ≡ c) × (n ≡ m)
one_tail true true ns n m e = (refl, one_name ns n m (parts (codes "unique") (codes "unique") (boolean true) (boolean true) (names ns n) (names ns m) e).2)
one_tail true false ns n m e = absurd (other_words (parts (codes "unique") (codes "ns") (boolean true) (string ns) (names ns n) _ e).0)
one_tail false true ns n m e = absurd (other_words (sym (parts (codes "ns") (codes "unique") (string ns) (boolean true) _ (names ns m) e).0))
one_tail false false ns n m e = (refl, one_name ns n m e)

record SaysSame (a b : Index) : Type 0 where
  name : a.name ≡ b.name
  spec : a.spec ≡ b.spec
  unique : said a ≡ said b

says_same : (ns : List ℕ) (a b : Index) → record_of ns a ≡ record_of ns b → SaysSame a b
says_same ns a b e =
    let inner = parts (codes "key") (codes "key") (document a.spec) (document b.spec) _ _ (parts (codes "v") (codes "v") _ _ _ _ e).2 in
    let tail = one_tail (said a) (said b) ns a.name b.name inner.2 in
    record { name = tail.1; spec = one_document a.spec b.spec inner.1; unique = tail.0 }

said_other : (a : Index) → bytes_eq a.name id_index.name ≡ false → said a ≡ a.unique
said_other a e = ap (λ (t : Bool). a.unique && not t) e ∙ and-true a.unique

-- so two indexes of one record are one, but `_id_`
same_other : (ns : List ℕ) (a b : Index) → record_of ns a ≡ record_of ns b → bytes_eq a.name id_index.name ≡ false → a ≡ b
same_other ns a b e n =
    let s = says_same ns a b e in
    let m : bytes_eq b.name id_index.name ≡ false = ap (λ (x : List ℕ). bytes_eq x id_index.name) (sym s.name) ∙ n in
    let u : a.unique ≡ b.unique = sym (said_other a n) ∙ s.unique ∙ said_other b m in
    let name = s.name in let spec = s.spec in
    λ i. record { name = name i; spec = spec i; unique = u i }

-- ---- the names of a collection's indexes

none_if : (b : Bool) (x : Index) (o : Option Index) → (if b then Some x else o) ≡ None → (b ≡ false) × (o ≡ None)
none_if true x o e = absurd cc
none_if false x o e = (refl, e)

other_named : (name : List ℕ) (is : List Index) → index_named name is ≡ None → (i : ℕ) → i < length is → bytes_eq (slice_index_or is i id_index).name name ≡ false
other_named name [] n i lt = absurd (omega (arith, lt))
other_named name (x ∷ xs) n zero lt = (none_if (bytes_eq x.name name) x (index_named name xs) n).0
other_named name (x ∷ xs) n (suc i) lt = other_named name xs (none_if (bytes_eq x.name name) x (index_named name xs) n).1 i (omega (arith, lt))

-- behind position 0 none has the name `_id_`
other_at : (c : Collection) → IsCollection c → (i : ℕ) → suc i < length c.indexes → bytes_eq (index_at c (suc i)).name id_index.name ≡ false
other_at c is i lt =
    let first = is.first in
    let named : AreNamed (id_index ∷ is.others) = subst AreNamed first is.named in
    let few : suc i < suc (length is.others) = subst (λ (xs : List Index). suc i < length xs) first lt in
    ap (λ (xs : List Index). bytes_eq (slice_index_or xs (suc i) id_index).name id_index.name) first
    ∙ other_named id_index.name is.others named.0 i (omega (arith, few))

first_at : (c : Collection) → IsCollection c → index_at c 0 ≡ id_index
first_at c is = ap (λ (xs : List Index). slice_index_or xs 0 id_index) is.first

same_at : (ns : List ℕ) (a b : Collection) → IsCollection a → IsCollection b → (i : ℕ) → i < length a.indexes → record_of ns (index_at a i) ≡ record_of ns (index_at b i) → index_at a i ≡ index_at b i
same_at ns a b is js zero lt e = first_at a is ∙ sym (first_at b js)
same_at ns a b is js (suc i) lt e = same_other ns (index_at a (suc i)) (index_at b (suc i)) e (other_at a is i lt)

-- collections with as many indexes, of the same records, have the same
pub same_indexes : (ns : List ℕ) (a b : Collection) → IsCollection a → IsCollection b → length a.indexes ≡ length b.indexes
    → ((i : ℕ) → i < length a.indexes → record_of ns (index_at a i) ≡ record_of ns (index_at b i)) → a.indexes ≡ b.indexes
same_indexes ns a b is js len records = ext_get_or id_index a.indexes b.indexes len (λ i lt. same_at ns a b is js i lt (records i lt))

-- ---- the record that a pair names

one_place : (p q : Place) → IsLow p → IsLow q → loc p ≡ loc q → p ≡ q
one_place p q l m e =
    let a = low_file p l in let b = low_file q m in
    let f : pos p.0 ≡ pos q.0 = sym a.0 ∙ ap (λ (x : DiskLoc). x.file) e ∙ b.0 in
    let o : pos p.1 ≡ pos q.1 = sym a.1 ∙ ap (λ (x : DiskLoc). x.ofs) e ∙ b.1 in
    let file : p.0 ≡ q.0 = cc in
    let ofs : p.1 ≡ q.1 = cc in
    λ i. (file i, ofs i)

low_live : (image : Image) (s : Shape) (name : List ℕ) (p : Place) (room : List ℕ) → FilesStand image → IsHeap image s.heap → live_at s name p ≡ Some room → IsLow p
low_live image s name p room fs is e = let l = lives s name p room e in low_place image s.heap p (live l.h room) fs is l.here

-- one pair names one record, where two shapes have the same live records
module _ (image : Image) (s t : Shape) (files : FilesStand image) (is : IsHeap image s.heap) (js : IsHeap image t.heap) (indexes : List ℕ) (same : (p : Place) → live_at t indexes p ≡ live_at s indexes p) where
  pub same_record : (ns : List ℕ) (owner position : ℕ) (a b : Index) (ls ms : List Laid) → HasIndexAt image s indexes ns owner position a ls → HasIndexAt image t indexes ns owner position b ms → record_of ns a ≡ record_of ns b
  same_record ns owner position a b ls ms x y =
      let p = x.recorded in let q = y.recorded in
      let here : x.at ≡ y.at = one_place x.at y.at (low_live image s indexes x.at p.room files is p.live) (low_live image t indexes y.at q.room files js q.live) (sym x.info ∙ y.info) in
      let room : p.room ≡ q.room = one_some p.room q.room (sym p.live ∙ sym (same x.at) ∙ ap (live_at t indexes) here ∙ q.live) in
      same_begin q.room (record_of ns a) (record_of ns b) (subst (λ (z : List ℕ). Begins z (record_of ns a)) room p.begins) q.begins
