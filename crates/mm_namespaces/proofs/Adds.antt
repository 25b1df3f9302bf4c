-- The files stand with one more namespace, which has no extents.
use Rattle.std.proofs.Common.{◌≡◌, ◌≢◌, ℕ, ℤ, pos, ◌<◌, inl, inr, Bool, true, false, cond, List, [], ◌∷◌, length, Option, Some, None, refl, sym, ◌∙◌, ap, subst, arith}
use Rattle.std.specs.Prelude.{if◌then◌else◌, nat_lt, flat_map, sum_by}
use Rattle.std.specs.FinMap.{get, insert, get-insert}
use Rattle.std.proofs.lemmas.Bool.{cases_Bool}
use Rattle.std.proofs.lemmas.Bool.Decides.{nat_tests}
use Rattle.std.specs.Cmp.Lexicographic.{nat_list_cmp_total}
use Rattle.mm_base.specs.Bytes.{part}
use Rattle.mm_ranges.specs.Overlay.{Image, bytes_at}
use Rattle.mm_frames.specs.Texts.{text_in}
use Rattle.mm_frames.specs.declared.details.Details.{Details}
use Rattle.mm_nstable.specs.Nodes.{node_at, name_in, is_used, IsTable}
use Rattle.mm_nstable.specs.Table.{Held, table_of}
use Rattle.mm_nstable.specs.FreeChain.{IsFreeName, HasFreeChain}
use Rattle.mm_nstable.proofs.Tables.{table_at}
use Rattle.mm_links.specs.Links.{Place, has, first_of, last_of}
use Rattle.mm_links.proofs.LinkLaws.{same_own, has_here}
use Rattle.mm_extents.specs.Changes.{loc_or, len_of}
use Rattle.mm_extents.specs.Files.{header_unused, unused_in}
use Rattle.mm_extents.specs.Tiling.{ground, IsTiled}
use Rattle.mm_extents.proofs.FileLaws.{files_kept}
use Rattle.mm_extents.proofs.Writes.{heap_same}
use Rattle.mm_records.specs.Constants.{is_name}
use Rattle.mm_records.specs.Shape.{Shape}
use Rattle.mm_records.specs.Stands.{Stands, IsNode, HasNode, DetailsStand, ns_in, room_of, len_at}
use Rattle.mm_records.proofs.Freed.{name_is, name_own}
use Rattle.mm_records.proofs.ExtendSteps.{held_at}
use Rattle.mm_namespaces.specs.Fresh.{IsFresh}

one_held : (x y : Held) → Some x ≡ Some y → x ≡ y
one_held x y e = cc

-- the free chain has another name
pub free_other : (free : List ℕ) (image : Image) (s : Shape) → Stands image free s → (name : List ℕ) → (IsFreeName name → ⊥) → name ≢ free
free_other free image s st name isnt e = isnt (subst (λ (m : List ℕ). IsFreeName m) (sym e) st.free_chain.1.node.named)

module _ (image new : Image) (free : List ℕ) (s : Shape) (st : Stands image free s) (name : List ℕ) (node : ℕ) (d : Details) (absent : get (table_of (ns_in image)) name ≡ None) (fresh : IsFresh name d)
    (isnt : IsFreeName name → ⊥) (lengths : (f : ℕ) → len_of new f ≡ len_of image f) (files : (f : ℕ) → f < 8 → bytes_at new f ≡ bytes_at image f)
    (table : table_of (ns_in new) ≡ insert (table_of (ns_in image)) name (record { node = node; details = d })) (kept : IsTable (ns_in new)) where
  abbrev now : Held
  now = record { node = node; details = d }

  no_node : HasNode image name → ⊥
  no_node n = (let z : Some n.0 ≡ None = sym n.1 ∙ absent in cc)

  -- the namespace has neither extents nor blocks
  no_extents : s.extents name ≡ []
  no_extents = by (s.extents name) refl
    where
      by : (ps : List Place) → s.extents name ≡ ps → s.extents name ≡ []
      by [] e = e
      by (p ∷ ps) e =
          let t = st.extents.on_chain name p (ap (λ (xs : List Place). has xs p) e ∙ has_here p ps p (same_own p)) in
          absurd (no_node (subst (λ (m : List ℕ). HasNode image m) t.2 (st.owners p t.0 t.1)))

  no_lists : (i : ℕ) → s.lists name i ≡ []
  no_lists i = by (s.lists name i) refl
    where
      by : (ps : List Place) → s.lists name i ≡ ps → s.lists name i ≡ []
      by [] e = e
      by (p ∷ ps) e =
          let t = st.lists.on_list name i p (ap (λ (xs : List Place). has xs p) e ∙ has_here p ps p (same_own p)) in
          absurd (no_node (subst (λ (m : List ℕ). HasNode image m) t.of_extent.4 (st.owners (p.0, t.of_extent.0) t.of_extent.1 t.of_extent.3)))

  own : DetailsStand s name d
  own = record {
    first = fresh.first ∙ ap (λ (ps : List Place). loc_or (first_of ps)) (sym no_extents);
    last = fresh.last ∙ ap (λ (ps : List Place). loc_or (last_of ps)) (sym no_extents);
    heads = λ i lt. fresh.heads i lt ∙ ap (λ (ps : List Place). loc_or (first_of ps)) (sym (no_lists i));
    nrecords = fresh.nrecords ∙ ap (λ (ps : List Place). pos (length (flat_map s.records ps))) (sym no_extents);
    datasize = fresh.datasize ∙ ap (λ (ps : List Place). pos (sum_by (λ p. room_of (s.heap p)) (flat_map s.records ps))) (sym no_extents);
    last_size = fresh.last_size ∙ ap (λ (ps : List Place). len_at s.heap (last_of ps)) (sym no_extents);
    constants = fresh.constants;
  }

  found : (m : List ℕ) → get (table_of (ns_in new)) m ≡ cond (is_name m name) (Some now) (get (table_of (ns_in image)) m)
  found m = ap (λ t. get t m) table ∙ get-insert nat_list_cmp_total (table_of (ns_in image)) name now m

  found_own : get (table_of (ns_in new)) name ≡ Some now
  found_own = found name ∙ ap (λ (b : Bool). cond b (Some now) (get (table_of (ns_in image)) name)) (name_own name name refl)

  counts : (m : List ℕ) (held : Held) → get (table_of (ns_in new)) m ≡ Some held → m ≢ free → DetailsStand s m held.details
  counts m held e nf = elim (cases_Bool (is_name m name)) [
    | inl y ↦
        let same : now ≡ held = one_held now held (sym (ap (λ (b : Bool). cond b (Some now) (get (table_of (ns_in image)) m)) y) ∙ sym (found m) ∙ e) in
        subst (λ (x : Held). DetailsStand s m x.details) same (subst (λ (n : List ℕ). DetailsStand s n d) (sym (name_is m name y)) own)
    | inr n ↦ st.counts m held (sym (ap (λ (b : Bool). cond b (Some now) (get (table_of (ns_in image)) m)) n) ∙ sym (found m) ∙ e) nf
  ]

  node_stays : (m : List ℕ) (b : Bool) → is_name m name ≡ b → HasNode image m → HasNode new m
  node_stays m true y n = (now, found m ∙ ap (λ (b : Bool). cond b (Some now) (get (table_of (ns_in image)) m)) y)
  node_stays m false y n = (n.0, found m ∙ ap (λ (b : Bool). cond b (Some now) (get (table_of (ns_in image)) m)) y ∙ n.1)

  unused_same : (f : ℕ) → unused_in new f ≡ unused_in image f
  unused_same f = elim (cases_Bool (nat_lt f 8)) [
    | inl y ↦ ap (λ (b : Bool). if b then header_unused (part 0 8192 (bytes_at new f)) else None) y
        ∙ ap header_unused (ap (part 0 8192) (files f (grind (arith, nat_tests, y))))
        ∙ sym (ap (λ (b : Bool). if b then header_unused (part 0 8192 (bytes_at image f)) else None) y)
    | inr n ↦ ap (λ (b : Bool). if b then header_unused (part 0 8192 (bytes_at new f)) else None) n
        ∙ sym (ap (λ (b : Bool). if b then header_unused (part 0 8192 (bytes_at image f)) else None) n)
  ]

  free_new : HasFreeChain (ns_in new) free st.free_chain.0
  free_new = record {
    is = found free ∙ ap (λ (b : Bool). cond b (Some now) (get (table_of (ns_in image)) free)) apart ∙ st.free_chain.1.node.is;
    named = st.free_chain.1.node.named;
    only = λ m x g f. elim (cases_Bool (is_name m name)) [
      | inl y ↦ absurd (isnt (subst (λ (k : List ℕ). IsFreeName k) (name_is m name y) f))
      | inr n ↦ st.free_chain.1.node.only m x (sym (ap (λ (b : Bool). cond b (Some now) (get (table_of (ns_in image)) m)) n) ∙ sym (found m) ∙ g) f
    ];
  }
    where
      apart : is_name free name ≡ false
      apart = elim (cases_Bool (is_name free name)) [ inl y ↦ absurd (free_other free image s st name isnt (sym (name_is free name y))) | inr n ↦ n ]

  pub stands_added : Stands new free s
  stands_added = record {
    files = files_kept image new lengths (λ f lt. ap (part 0 8192) (files f lt)) st.files;
    table = kept;
    heap = heap_same image new s.heap files st.heap;
    tiled = subst (λ (u : ℕ → Option ℤ). IsTiled (ground s.heap) u free) (λ i f. sym (unused_same f) i) st.tiled;
    extents = st.extents;
    owners = λ q g i. node_stays (text_in g.namespace) (is_name (text_in g.namespace) name) refl (st.owners q g i);
    records = st.records;
    lists = st.lists;
    counts = counts;
    free_chain = (st.free_chain.0, record { node = free_new; first = st.free_chain.1.first; last = st.free_chain.1.last });
  }

-- the node of a name that was put in has that name
pub named_at : (bytes name : List ℕ) (node : ℕ) (d : Details) → IsTable bytes → get (table_of bytes) name ≡ Some (record { node = node; details = d }) → name_in (node_at bytes node) ≡ name
named_at bytes name node d t e =
    let u = held_at bytes name (record { node = node; details = d }) t e in
    let one = one_held (record { node = node; details = d }) _ (sym e ∙ table_at bytes u.k name t u.used u.named) in
    ap (λ (h : Held). name_in (node_at bytes h.node)) one ∙ u.named

pub put_there : (old new : List ℕ) (name : List ℕ) (node : ℕ) (d : Details) → table_of new ≡ insert (table_of old) name (record { node = node; details = d }) → get (table_of new) name ≡ Some (record { node = node; details = d })
put_there old new name node d e =
    let now : Held = record { node = node; details = d } in
    ap (λ t. get t name) e ∙ get-insert nat_list_cmp_total (table_of old) name now name ∙ ap (λ (b : Bool). cond b (Some now) (get (table_of old) name)) (name_own name name refl)

pub is_node_added : (new : Image) (free name : List ℕ) (node : ℕ) (d : Details) → IsTable (ns_in new) → is_used (ns_in new) node ≡ true → get (table_of (ns_in new)) name ≡ Some (record { node = node; details = d }) → name ≢ free → IsNode new free node
is_node_added new free name node d t used e ne = record { used = used; isnt_free = λ f. ne (sym (named_at (ns_in new) name node d t e) ∙ f) }
