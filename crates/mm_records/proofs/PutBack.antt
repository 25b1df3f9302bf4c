-- The files stand once the details in hand are written to their node.
use Rattle.std.proofs.Common.{◌≡◌, ◌≢◌, ℕ, ◌<◌, inl, inr, Bool, true, false, cond, List, Option, Some, refl, sym, ◌∙◌, ap, subst}
use Rattle.std.specs.Prelude.{if◌then◌else◌, nat_lt}
use Rattle.std.specs.FinMap.{get, insert, get-insert}
use Rattle.std.proofs.lemmas.Bool.{cases_Bool, false≢true}
use Rattle.std.proofs.lemmas.Bool.Decides.{nat_tests}
use Rattle.std.specs.Cmp.Lexicographic.{nat_list_cmp_total}
use Rattle.std.proofs.Common.{ℤ, None, arith}
use Rattle.mm_base.specs.Bytes.{part}
use Rattle.mm_ranges.specs.Overlay.{Image, bytes_at}
use Rattle.mm_frames.specs.Texts.{text_in}
use Rattle.mm_frames.specs.declared.details.Details.{Details}
use Rattle.mm_nstable.specs.Nodes.{node_at, details_in, IsTable}
use Rattle.mm_nstable.specs.Table.{Held, table_of}
use Rattle.mm_nstable.proofs.Tables.{table_at}
use Rattle.mm_extents.specs.Changes.{len_of}
use Rattle.mm_extents.specs.Files.{header_unused, unused_in}
use Rattle.mm_extents.specs.Tiling.{ground, IsTiled}
use Rattle.mm_extents.proofs.FileLaws.{files_kept}
use Rattle.mm_extents.proofs.Writes.{heap_same}
use Rattle.mm_records.specs.Constants.{is_name, constants_of, SameConstants}
use Rattle.mm_records.specs.Shape.{Shape}
use Rattle.mm_records.specs.Stands.{IsNode, HasNode, Stands, DetailsStand, ns_in}
use Rattle.mm_records.specs.Map.{name_at}
use Rattle.mm_records.specs.InHand.{StandsWith}
use Rattle.mm_records.proofs.ConstantLaws.{free_chain_stays, same_constants}
use Rattle.mm_records.proofs.Freed.{name_is, name_own}

module _ (image : Image) (free : List ℕ) (s : Shape) (node : ℕ) (d : Details) (st : StandsWith image free s node d) (new : Image)
    (lengths : (f : ℕ) → len_of new f ≡ len_of image f) (files : (f : ℕ) → f < 8 → bytes_at new f ≡ bytes_at image f)
    (table : table_of (ns_in new) ≡ insert (table_of (ns_in image)) (name_at image node) (record { node = node; details = d })) (kept : IsTable (ns_in new)) where
  abbrev own : List ℕ
  own = name_at image node

  abbrev now : Held
  now = record { node = node; details = d }

  there : get (table_of (ns_in image)) own ≡ Some (record { node = node; details = details_in (node_at (ns_in image) node) })
  there = table_at (ns_in image) node own st.table st.is_node.used refl

  found : (m : List ℕ) → get (table_of (ns_in new)) m ≡ cond (is_name m own) (Some now) (get (table_of (ns_in image)) m)
  found m = ap (λ t. get t m) table ∙ get-insert nat_list_cmp_total (table_of (ns_in image)) own now m

  one : (x y : Held) → Some x ≡ Some y → x ≡ y
  one x y e = cc

  counts : (m : List ℕ) (held : Held) → get (table_of (ns_in new)) m ≡ Some held → m ≢ free → DetailsStand s m held.details
  counts m held e nf = elim (cases_Bool (is_name m own)) [
    | inl y ↦
        let same : now ≡ held = one now held (sym (ap (λ (b : Bool). cond b (Some now) (get (table_of (ns_in image)) m)) y) ∙ sym (found m) ∙ e) in
        subst (λ (x : Held). DetailsStand s m x.details) same (subst (λ (n : List ℕ). DetailsStand s n d) (sym (name_is m own y)) st.own)
    | inr n ↦ st.others m held (sym (ap (λ (b : Bool). cond b (Some now) (get (table_of (ns_in image)) m)) n) ∙ sym (found m) ∙ e) nf (λ f. false≢true (sym n ∙ name_own m own f))
  ]

  node_stays : (m : List ℕ) (b : Bool) → is_name m own ≡ b → HasNode image m → HasNode new m
  node_stays m true y n = (now, found m ∙ ap (λ (b : Bool). cond b (Some now) (get (table_of (ns_in image)) m)) y)
  node_stays m false y n = (n.0, found m ∙ ap (λ (b : Bool). cond b (Some now) (get (table_of (ns_in image)) m)) y ∙ n.1)

  unused_same : (f : ℕ) → unused_in new f ≡ unused_in image f
  unused_same f = elim (cases_Bool (nat_lt f 8)) [
    | inl y ↦ ap (λ (b : Bool). if b then header_unused (part 0 8192 (bytes_at new f)) else None) y
        ∙ ap header_unused (ap (part 0 8192) (files f (grind (arith, nat_tests, y))))
        ∙ sym (ap (λ (b : Bool). if b then header_unused (part 0 8192 (bytes_at image f)) else None) y)
    | inr n ↦ ap (λ (b : Bool). if b then header_unused (part 0 8192 (bytes_at new f)) else None) n
        ∙ sym (ap (λ (b : Bool). if b then header_unused (part 0 8192 (bytes_at image f)) else None) n)
  ]

  pub put_back : Stands new free s
  put_back = record {
    files = files_kept image new lengths (λ f lt. ap (part 0 8192) (files f lt)) st.files;
    table = kept;
    heap = heap_same image new s.heap files st.heap;
    tiled = subst (λ (u : ℕ → Option ℤ). IsTiled (ground s.heap) u free) (λ i f. sym (unused_same f) i) st.tiled;
    extents = st.extents;
    owners = λ q g i. node_stays (text_in g.namespace) (is_name (text_in g.namespace) own) refl (st.owners q g i);
    records = st.records;
    lists = st.lists;
    counts = counts;
    free_chain = (
      st.free_chain.0,
      record { node = free_chain_stays (ns_in image) (ns_in new) free own st.free_chain.0 (record { node = node; details = details_in (node_at (ns_in image) node) }) now st.free_chain.1.node there st.is_node.isnt_free table; first = st.free_chain.1.first; last = st.free_chain.1.last },
    );
  }

  pub constants_again : ((held : Held) → get (table_of (ns_in image)) own ≡ Some held → constants_of held.details ≡ constants_of d) → SameConstants (ns_in image) (ns_in new)
  constants_again e = same_constants (ns_in image) (ns_in new) own (record { node = node; details = details_in (node_at (ns_in image) node) }) now there table refl (e _ there)

-- the files that stand, with a node's details read
pub in_hand : (image : Image) (free : List ℕ) (s : Shape) (node : ℕ) (d : Details) → Stands image free s → IsNode image free node → get (table_of (ns_in image)) (name_at image node) ≡ Some (record { node = node; details = d }) → StandsWith image free s node d
in_hand image free s node d st n there = record {
  files = st.files;
  table = st.table;
  heap = st.heap;
  tiled = st.tiled;
  extents = st.extents;
  owners = st.owners;
  records = st.records;
  lists = st.lists;
  is_node = n;
  own = st.counts (name_at image node) (record { node = node; details = d }) there n.isnt_free;
  others = λ m held e nf no. st.counts m held e nf;
  free_chain = st.free_chain;
}
