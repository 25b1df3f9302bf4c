-- Another root is named in details.
use Rattle.std.proofs.Common.{◌≡◌, ◌≢◌, ℕ, zero, suc, pos, ◌<◌, [], ◌∷◌, get_or, inl, inr, true, Bool, cond, List, length, Some, refl, sym, ◌∙◌, ap, subst, arith}
use Rattle.std.proofs.lemmas.Int.{ints}
use Rattle.std.specs.Prelude.{◌<ℤ◌}
use Rattle.std.specs.FinMap.{get, insert, get-insert}
use Rattle.std.specs.Cmp.Lexicographic.{nat_list_cmp_total}
use Rattle.std.proofs.lemmas.Bool.{cases_Bool}
use Rattle.std.proofs.lemmas.List.{get_or-set_other, length-set}
use Rattle.mm_base.specs.declared.place.DiskLoc.{DiskLoc}
use Rattle.mm_base.specs.Places.{place_of}
use Rattle.mm_base.proofs.ListLaws.{length-list_of}
use Rattle.mm_ranges.specs.Overlay.{Image, bytes_at}
use Rattle.mm_frames.specs.Details.{details_of, details_bytes}
use Rattle.mm_frames.specs.IndexPair.{index_pair_of}
use Rattle.mm_frames.specs.declared.details.Details.{Details}
use Rattle.mm_frames.specs.declared.index_pair.IndexPair.{IndexPair}
use Rattle.mm_nstable.specs.Nodes.{SameNames, IsTable, node_at, details_in, is_used}
use Rattle.mm_nstable.specs.Table.{Held, table_of}
use Rattle.mm_nstable.proofs.Tables.{table_at}
use Rattle.mm_extents.specs.Changes.{len_of}
use Rattle.mm_records.specs.Constants.{HasConstants, is_name, no_pair}
use Rattle.mm_records.specs.Shape.{Shape}
use Rattle.mm_records.specs.Stands.{Stands, DetailsStand, IsNode, ns_in}
use Rattle.mm_records.specs.Map.{name_at}
use Rattle.mm_records.specs.InHand.{StandsWith}
use Rattle.mm_records.proofs.DetailsLong.{details_long}
use Rattle.mm_records.proofs.Freed.{name_is, name_own}
use Rattle.mm_records.proofs.PutBack.{in_hand, put_back}
use Rattle.mm_trees.specs.Roots.{pair_of, with_root, IsRootPut}

pub pairs_long : (node : List ℕ) → length (details_in node).indexes ≡ 10
unfolding details_in details_of
pairs_long node = length-list_of 16 10 index_pair_of _

lists_long : (node : List ℕ) → length (details_in node).deleted ≡ 19
unfolding details_in details_of
lists_long node = length-list_of 8 19 place_of _

-- details in which a pair names another root are as long
pub root_long : (node : List ℕ) (position : ℕ) (root : DiskLoc) → length (details_bytes (with_root (details_in node) position root)) ≡ 496
root_long node position root =
    let d = details_in node in
    let p : IndexPair = record (pair_of d position) { head = root } in
    details_long (with_root d position root) (lists_long node) (length-set d.indexes position p ∙ pairs_long node)

-- an element inside, whatever stands past the end
pub same_at : {X : Type 0} (xs : List X) (i : ℕ) (a b : X) → i < length xs → get_or xs i a ≡ get_or xs i b
same_at [] i a b lt = absurd (omega (arith, lt))
same_at (x ∷ xs) zero a b lt = refl
same_at (x ∷ xs) (suc i) a b lt = same_at xs i a b (omega (arith, lt))

-- the details stay right
module _ (s : Shape) (name : List ℕ) (d : Details) (position : ℕ) (root : DiskLoc) (low : pos position <ℤ d.n_indexes) where
  constants_stand : HasConstants name d → HasConstants name (with_root d position root)
  constants_stand c = record {
    few_indexes = c.few_indexes;
    no_indexes = c.no_indexes;
    spare_pairs = λ i past lt. get_or-set_other d.indexes position i (record (pair_of d position) { head = root }) no_pair (λ e. absurd (omega (arith, ints, low, past, e))) ∙ c.spare_pairs i past lt;
    is_capped = c.is_capped;
    max_docs = c.max_docs;
    padding = c.padding;
    system_flags = c.system_flags;
    cap_extent = c.cap_extent;
    cap_first_new_record = c.cap_first_new_record;
    data_file_version = c.data_file_version;
    index_file_version = c.index_file_version;
    multikey = c.multikey;
    extra_offset = c.extra_offset;
    index_builds = c.index_builds;
    user_flags = c.user_flags;
  }

  pub details_stand : DetailsStand s name d → DetailsStand s name (with_root d position root)
  details_stand x = record {
    first = x.first;
    last = x.last;
    heads = x.heads;
    nrecords = x.nrecords;
    datasize = x.datasize;
    last_size = x.last_size;
    constants = constants_stand x.constants;
  }

module _ (old new : Image) (owner position : ℕ) (root : DiskLoc) (d : Details) (read : d ≡ details_in (node_at (ns_in old) owner)) (is_table : IsTable (ns_in old)) (used : is_used (ns_in old) owner ≡ true)
    (lengths : (f : ℕ) → len_of new f ≡ len_of old f) (files : (f : ℕ) → f < 8 → bytes_at new f ≡ bytes_at old f)
    (table : table_of (ns_in new) ≡ insert (table_of (ns_in old)) (name_at old owner) (record { node = owner; details = with_root d position root })) (kept : IsTable (ns_in new)) (names : SameNames (ns_in old) (ns_in new)) where
  abbrev now : Held
  now = record { node = owner; details = with_root d position root }

  found : (m : List ℕ) → get (table_of (ns_in new)) m ≡ cond (is_name m (name_at old owner)) (Some now) (get (table_of (ns_in old)) m)
  found m = ap (λ t. get t m) table ∙ get-insert nat_list_cmp_total (table_of (ns_in old)) (name_at old owner) now m

  one : (x y : Held) → Some x ≡ Some y → x ≡ y
  one x y e = cc

  new_at : (k : ℕ) → is_used (ns_in old) k ≡ true → get (table_of (ns_in new)) (name_at old k) ≡ Some (record { node = k; details = details_in (node_at (ns_in new) k) })
  new_at k u = table_at (ns_in new) k (name_at old k) kept (names.used k ∙ u) (names.names k u)

  here_is : details_in (node_at (ns_in new) owner) ≡ with_root (details_in (node_at (ns_in old) owner)) position root
  here_is =
      let own = name_own (name_at old owner) (name_at old owner) refl in
      let e = sym (new_at owner used) ∙ found (name_at old owner) ∙ ap (λ (b : Bool). cond b (Some now) (get (table_of (ns_in old)) (name_at old owner))) own in
      ap (λ (h : Held). h.details) (one _ now e) ∙ ap (λ (x : Details). with_root x position root) read

  other_is : (k : ℕ) → is_used (ns_in old) k ≡ true → k ≢ owner → details_in (node_at (ns_in new) k) ≡ details_in (node_at (ns_in old) k)
  other_is k u ne = elim (cases_Bool (is_name (name_at old k) (name_at old owner))) [
    | inl y ↦ absurd (ne (is_table.apart k owner u used (name_is (name_at old k) (name_at old owner) y)))
    | inr n ↦
        let e = sym (new_at k u) ∙ found (name_at old k) ∙ ap (λ (b : Bool). cond b (Some now) (get (table_of (ns_in old)) (name_at old k))) n ∙ table_at (ns_in old) k (name_at old k) is_table u refl in
        ap (λ (h : Held). h.details) (one _ _ e)
  ]

  stands_again : (free : List ℕ) (s : Shape) → Stands old free s → IsNode old free owner → pos position <ℤ (details_in (node_at (ns_in old) owner)).n_indexes → Stands new free s
  stands_again free s st n low =
      let there = table_at (ns_in old) owner (name_at old owner) st.table n.used refl in
      let w = in_hand old free s owner (details_in (node_at (ns_in old) owner)) st n there in
      let w' : StandsWith old free s owner (with_root (details_in (node_at (ns_in old) owner)) position root) = record {
        files = w.files;
        table = w.table;
        heap = w.heap;
        tiled = w.tiled;
        extents = w.extents;
        owners = w.owners;
        records = w.records;
        lists = w.lists;
        is_node = w.is_node;
        own = details_stand s (name_at old owner) (details_in (node_at (ns_in old) owner)) position root low w.own;
        others = w.others;
        free_chain = w.free_chain;
      } in
      let z = subst (λ (x : Details). StandsWith old free s owner (with_root x position root)) (sym read) w' in
      put_back old free s owner (with_root d position root) z new lengths files table kept

  pub root_put : IsRootPut old new owner position root
  root_put = record { here = here_is; others = other_is; names = names; files = files; stands = stands_again }
