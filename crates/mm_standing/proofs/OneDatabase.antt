-- The files of a database have one database alone.
use Rattle.std.proofs.Common.{◌≡◌, ℕ, ◌<◌, pos, inl, inr, true, List, length, Option, Some, None, refl, sym, ◌∙◌, ap, subst, arith}
use Rattle.std.specs.Prelude.{if◌then◌else◌, ◌*◌, not, is_some}
use Rattle.std.specs.Option.{option_map}
use Rattle.std.proofs.lemmas.Bool.{false≢true}
use Rattle.mm_ranges.specs.declared.limits.TheConstants.{NS_FILE}
use Rattle.mm_links.proofs.LinkLaws.{both}
use Rattle.mm_extents.specs.Files.{FilesStand}
use Rattle.std.specs.Cmp.Lexicographic.{nat_list_cmp_total}
use Rattle.std.specs.FinMap.{get, same_map, nat_cmp-IsAntisymmetric, slice_cmp-IsAntisymmetric}
use Rattle.mm_ranges.specs.Overlay.{Image}
use Rattle.mm_links.specs.Links.{Place}
use Rattle.mm_extents.specs.Heap.{Cell}
use Rattle.mm_nstable.specs.Nodes.{node_at, details_in}
use Rattle.mm_records.specs.Constants.{is_name}
use Rattle.mm_records.specs.Shape.{Shape}
use Rattle.mm_records.specs.Stands.{ns_in}
use Rattle.mm_records.specs.Map.{live_at, extent_of, owner, live_room}
use Rattle.mm_model.specs.Database.{Index, Collection, Database}
use Rattle.mm_model.specs.Keyed.{namespace}
use Rattle.mm_model.specs.Laws.{AreRising, IsCollection}
use Rattle.mm_check.specs.NodeQuestions.{is_coll, has_form, indexes_name}
use Rattle.mm_check.specs.Standing.{HasShape}
use Rattle.mm_check.specs.Reports.{no_file}
use Rattle.mm_check.proofs.StandsShape.{one_shape}
use Rattle.mm_standing.specs.Indexes.{HasIndexAt}
use Rattle.mm_standing.specs.Database.{HasCollection, HasDatabase, IsNodeName, index_at}
use Rattle.mm_standing.specs.Laws.{OneDatabase, OneMap, StandsForOne}
use Rattle.mm_standing.proofs.Names.{coll_of_index, coll_of_node}
use Rattle.mm_standing.proofs.SameDocuments.{same_documents}
use Rattle.mm_standing.proofs.SameIndexes.{same_indexes, same_record}

-- shapes of which the same stands at each place have the same live records
same_live : (s t : Shape) → ((p : Place) → t.heap p ≡ s.heap p) → (name : List ℕ) (p : Place) → live_at t name p ≡ live_at s name p
same_live s t heap name p =
    ap (λ (c : Option Cell). if is_name (owner (t.heap (extent_of p c))) name then live_room c else None) (heap p)
    ∙ ap (λ (o : Option Cell). if is_name (owner o) name then live_room (s.heap p) else None) (heap (extent_of p (s.heap p)))

-- a collection has an index, whose name has a name's form
named_coll : (d : List ℕ) (image : Image) (db : Database) → HasDatabase d image db → (coll : List ℕ) (c : Collection) → get db coll ≡ Some c → is_coll coll ≡ true
named_coll d image db x coll c g =
    let first = (x.is_database coll c g).first in
    let some : 0 < length c.indexes = subst (λ (is : List Index). 0 < length is) (sym first) (omega arith) in
    let at = (x.collections coll c g).indexes 0 some in
    coll_of_index d coll (index_at c 0) (subst (λ (n : List ℕ). has_form d n ≡ true) at.is_node.named (x.points.nodes.forms at.node at.is_node.used))

-- a collection of the one is one of the other
there : (d : List ℕ) (image : Image) (a b : Database) → HasDatabase d image a → HasDatabase d image b → (coll : List ℕ) (c : Collection) → get a coll ≡ Some c → (e : Collection) × (get b coll ≡ Some e)
there d image a b x y coll c g =
    let n = (x.collections coll c g) in
    coll_of_node d b coll (named_coll d image a x coll c g) (subst (IsNodeName d b) n.is_node.named (y.nodes n.node n.is_node.used))

one_length : (m n : ℕ) → pos m ≡ pos n → m ≡ n
one_length m n e = cc

no_bytes : (o : Option (List ℕ)) (n : ℕ) → not (is_some o) ≡ true → option_map length o ≡ Some n → ⊥
no_bytes None n e f = cc
no_bytes (Some bytes) n e f = false≢true e

-- files that stand are there
no_files : (image : Image) → no_file image ≡ true → FilesStand image → ⊥
no_files image e f = no_bytes (get image NS_FILE) (f.names.0 * 1048576) (both (not (is_some (get image NS_FILE))) _ e).0 f.names.3

module _ (d : List ℕ) (image : Image) (s t : Shape) (x : HasShape d image s) (y : HasShape d image t) where
  live : (name : List ℕ) (p : Place) → live_at t name p ≡ live_at s name p
  live = same_live s t (one_shape d image s t x y).heap

  -- two collections of one name
  module _ (coll : List ℕ) (a b : Collection) (is : IsCollection a) (js : IsCollection b) (ha : HasCollection d image s coll a) (hb : HasCollection d image t coll b) where
    one_node : ha.node ≡ hb.node
    one_node = x.nodes.table.apart ha.node hb.node ha.is_node.used hb.is_node.used (ha.is_node.named ∙ sym hb.is_node.named)

    one_list : a.documents ≡ b.documents
    one_list =
        sym ha.documents
        ∙ same_documents s t (namespace d coll) (live (namespace d coll)) ha.laid hb.laid ha.holds hb.holds (subst AreRising (sym ha.documents) is.rising) (subst AreRising (sym hb.documents) js.rising)
        ∙ hb.documents

    as_many : length a.indexes ≡ length b.indexes
    as_many = one_length _ _ (sym ha.count ∙ ap (λ (k : ℕ). (details_in (node_at (ns_in image) k)).n_indexes) one_node ∙ hb.count)

    same_list : a.indexes ≡ b.indexes
    same_list = same_indexes (namespace d coll) a b is js as_many (λ i lt.
        same_record image s t x.stands.files x.stands.heap y.stands.heap (indexes_name d) (live (indexes_name d)) (namespace d coll) ha.node i (index_at a i) (index_at b i) ha.laid hb.laid (ha.indexes i lt)
        (subst (λ (k : ℕ). HasIndexAt image t (indexes_name d) (namespace d coll) k i (index_at b i) hb.laid) (sym one_node) (hb.indexes i (subst (λ (n : ℕ). i < n) as_many lt))))

    same_collection : a ≡ b
    same_collection = let ds = one_list in let is = same_list in λ i. record { documents = ds i; indexes = is i }

one_each : (d : List ℕ) (image : Image) (a b : Database) (x : HasDatabase d image a) (y : HasDatabase d image b) (coll : List ℕ) (o p : Option Collection) → get a coll ≡ o → get b coll ≡ p → o ≡ p
one_each d image a b x y coll None None e f = refl
one_each d image a b x y coll (Some c) None e f = absurd (let z = there d image a b x y coll c e in let n : None ≡ Some z.0 = sym f ∙ z.1 in cc)
one_each d image a b x y coll None (Some c) e f = absurd (let z = there d image b a y x coll c f in let n : None ≡ Some z.0 = sym e ∙ z.1 in cc)
one_each d image a b x y coll (Some c) (Some k) e f =
    ap (λ (z : Collection). Some z)
    (same_collection d image x.shape y.shape x.points y.points coll c k (x.is_database coll c e) (y.is_database coll k f) (x.collections coll c e) (y.collections coll k f))

pub one_database : OneDatabase
one_database d image a b x y coll = one_each d image a b x y coll (get a coll) (get b coll) refl refl

pub one_map : OneMap
one_map d image a b x y = same_map nat_list_cmp_total (slice_cmp-IsAntisymmetric nat_cmp-IsAntisymmetric) a b (one_database d image a b x y)

pub stands_for_one : StandsForOne
stands_for_one d image a b x y = elim x [
  | inl n ↦ elim y [
    | inl m ↦ n.1 ∙ sym m.1
    | inr h ↦ absurd (no_files image n.0 h.points.stands.files)
  ]
  | inr g ↦ elim y [
    | inl m ↦ absurd (no_files image m.0 g.points.stands.files)
    | inr h ↦ one_map d image a b g h
  ]
]
