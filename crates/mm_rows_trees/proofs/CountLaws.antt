-- A collection's details count one index.
use Rattle.std.proofs.Common.{◌≡◌, ℕ, ℤ, pos, ◌<◌, true, false, Bool, cond, List, length, Some, refl, sym, ◌∙◌, ap, subst, arith}
use Rattle.std.proofs.lemmas.Int.{ints}
use Rattle.std.specs.Prelude.{◌≤ℤ◌}
use Rattle.std.specs.FinMap.{get, insert, get-insert}
use Rattle.std.specs.Cmp.Lexicographic.{nat_list_cmp_total}
use Rattle.mm_base.specs.Places.{place_of}
use Rattle.mm_base.proofs.ListLaws.{length-list_of}
use Rattle.mm_ranges.specs.Overlay.{Image, bytes_at}
use Rattle.mm_frames.specs.Details.{details_of, details_bytes}
use Rattle.mm_frames.specs.IndexPair.{index_pair_of}
use Rattle.mm_frames.specs.declared.details.Details.{Details}
use Rattle.mm_nstable.specs.Nodes.{SameNames, IsTable, node_at, details_in, is_used}
use Rattle.mm_nstable.specs.Table.{Held, table_of}
use Rattle.mm_nstable.proofs.Tables.{table_at}
use Rattle.mm_extents.specs.Changes.{len_of}
use Rattle.mm_records.specs.Constants.{HasConstants, is_collection}
use Rattle.mm_records.specs.Shape.{Shape}
use Rattle.mm_records.specs.Stands.{Stands, DetailsStand, IsNode, ns_in}
use Rattle.mm_records.specs.Map.{name_at}
use Rattle.mm_records.specs.InHand.{StandsWith}
use Rattle.mm_records.proofs.DetailsLong.{details_long}
use Rattle.mm_records.proofs.Freed.{name_own}
use Rattle.mm_records.proofs.PutBack.{in_hand, put_back}
use Rattle.mm_rows_trees.specs.Ready.{IsCounted}

abbrev pub with_one : Details → Details
with_one d = record d { n_indexes = pos 1 }

pairs_long : (node : List ℕ) → length (details_in node).indexes ≡ 10
unfolding details_in details_of
pairs_long node = length-list_of 16 10 index_pair_of _

lists_long : (node : List ℕ) → length (details_in node).deleted ≡ 19
unfolding details_in details_of
lists_long node = length-list_of 8 19 place_of _

pub one_long : (node : List ℕ) (d : Details) → d ≡ details_in node → length (details_bytes (with_one d)) ≡ 496
one_long node d e =
    details_long (with_one d) (ap (λ (x : Details). length x.deleted) e ∙ lists_long node) (ap (λ (x : Details). length x.indexes) e ∙ pairs_long node)

-- the details stay right
constants_stand : (name : List ℕ) (d : Details) → is_collection name ≡ true → d.n_indexes ≡ pos 0 → HasConstants name d → HasConstants name (with_one d)
constants_stand name d kind none c = record {
  few_indexes = (1, omega arith, refl);
  no_indexes = λ e. absurd (let z : true ≡ false = sym kind ∙ e in cc);
  spare_pairs = λ i past lt. c.spare_pairs i (subst (λ (z : ℤ). z ≤ℤ pos i) (sym none) (omega (arith, ints))) lt;
  is_capped = c.is_capped;
  max_docs = c.max_docs;
  padding = c.padding;
  system_flags = c.system_flags;
  cap_extent = c.cap_extent;
  cap_first_new_record = c.cap_first_new_record;
  data_file_version = c.data_file_version;
  index_file_version = c.index_file_version;
  multikey = c.multikey;
  extra_offset = c.extra_offset;
  index_builds = c.index_builds;
  user_flags = c.user_flags;
}

details_stand : (s : Shape) (name : List ℕ) (d : Details) → is_collection name ≡ true → d.n_indexes ≡ pos 0 → DetailsStand s name d → DetailsStand s name (with_one d)
details_stand s name d kind none x = record {
  first = x.first;
  last = x.last;
  heads = x.heads;
  nrecords = x.nrecords;
  datasize = x.datasize;
  last_size = x.last_size;
  constants = constants_stand name d kind none x.constants;
}

module _ (old new : Image) (owner : ℕ) (d : Details) (read : d ≡ details_in (node_at (ns_in old) owner)) (used : is_used (ns_in old) owner ≡ true) (kind : is_collection (name_at old owner) ≡ true) (none : d.n_indexes ≡ pos 0)
    (lengths : (f : ℕ) → len_of new f ≡ len_of old f) (files : (f : ℕ) → f < 8 → bytes_at new f ≡ bytes_at old f)
    (table : table_of (ns_in new) ≡ insert (table_of (ns_in old)) (name_at old owner) (record { node = owner; details = with_one d })) (kept : IsTable (ns_in new)) (names : SameNames (ns_in old) (ns_in new)) where
  abbrev now : Held
  now = record { node = owner; details = with_one d }

  one : (x y : Held) → Some x ≡ Some y → x ≡ y
  one x y e = cc

  here_is : details_in (node_at (ns_in new) owner) ≡ with_one d
  here_is =
      let there = table_at (ns_in new) owner (name_at old owner) kept (names.used owner ∙ used) (names.names owner used) in
      let own = name_own (name_at old owner) (name_at old owner) refl in
      let e = sym there ∙ ap (λ t. get t (name_at old owner)) table ∙ get-insert nat_list_cmp_total (table_of (ns_in old)) (name_at old owner) now (name_at old owner)
      ∙ ap (λ (b : Bool). cond b (Some now) (get (table_of (ns_in old)) (name_at old owner))) own in
      ap (λ (h : Held). h.details) (one _ now e)

  stands_again : (free : List ℕ) (s : Shape) → Stands old free s → IsNode old free owner → Stands new free s
  stands_again free s st n =
      let there = table_at (ns_in old) owner (name_at old owner) st.table n.used refl in
      let w = in_hand old free s owner (details_in (node_at (ns_in old) owner)) st n there in
      let own : DetailsStand s (name_at old owner) d = subst (λ (x : Details). DetailsStand s (name_at old owner) x) (sym read) w.own in
      let w' : StandsWith old free s owner (with_one d) = record {
        files = w.files;
        table = w.table;
        heap = w.heap;
        tiled = w.tiled;
        extents = w.extents;
        owners = w.owners;
        records = w.records;
        lists = w.lists;
        is_node = w.is_node;
        own = details_stand s (name_at old owner) d kind none own;
        others = w.others;
        free_chain = w.free_chain;
      } in
      put_back old free s owner (with_one d) w' new lengths files table kept

  pub is_counted : IsCounted old new owner
  is_counted = record { one = ap (λ (x : Details). x.n_indexes) here_is; names = names; stands = stands_again }
