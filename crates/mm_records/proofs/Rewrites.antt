-- A live record has another room of the same length.
use Rattle.std.proofs.Common.{◌≡◌, ℕ, ℤ, pos, ◌+◌, ◌≤◌, inl, inr, Bool, true, false, List, [], length, Option, Some, None, refl, sym, ◌∙◌, ap, subst}
use Rattle.std.specs.Prelude.{if◌then◌else◌, sum_by, nat_lt}
use Rattle.std.specs.Option.{option_map}
use Rattle.std.specs.FinMap.{get}
use Rattle.std.proofs.lemmas.Bool.{cases_Bool}
use Rattle.std.proofs.lemmas.List.{take-append-drop}
use Rattle.mm_base.specs.Bytes.{overwritten}
use Rattle.mm_ranges.specs.Overlay.{Image}
use Rattle.mm_frames.specs.Texts.{text_in}
use Rattle.mm_frames.specs.declared.details.Details.{Details}
use Rattle.mm_frames.specs.declared.rec_header.RecHeader.{RecHeader}
use Rattle.mm_nstable.specs.Nodes.{IsTable}
use Rattle.mm_nstable.specs.Table.{table_of}
use Rattle.mm_nstable.specs.FreeChain.{HasFreeChain}
use Rattle.mm_links.specs.Links.{Place, same, has, last_of, next_in}
use Rattle.mm_links.proofs.LinkLaws.{same_is, relinked}
use Rattle.mm_extents.specs.Heap.{Cell, extent, live, deleted, Heap, IsHeap}
use Rattle.mm_extents.specs.Changes.{loc_or, ofs_or, KeepsHeaders}
use Rattle.mm_extents.specs.Files.{header_unused, unused_in}
use Rattle.mm_extents.specs.Tiling.{Outline, a_block, outline, ground, IsTiled}
use Rattle.mm_extents.specs.Chains.{ext_next, ext_prev, ExtentsStand}
use Rattle.mm_extents.proofs.FileLaws.{files_kept}
use Rattle.mm_records.specs.Constants.{is_name}
use Rattle.mm_records.specs.Shape.{Shape, rec_next, rec_prev}
use Rattle.mm_records.specs.Stands.{RecordsStand, ListsStand, DetailsStand, Stands, IsRecord, IsDeleted, walk, room_of, ext_len, len_at}
use Rattle.mm_records.specs.Map.{ofs_of, extent_of, owner, live_room, live_at, IsRewritten}

some_same : {A : Type 0} (x y : A) → Some x ≡ Some y → x ≡ y
some_same x y e = cc

either_room : (b : Bool) (room room' : List ℕ) → (if b then Some room' else None) ≡ option_map (λ _. room') (if b then Some room else None)
either_room true room room' = refl
either_room false room room' = refl

module _ (s : Shape) (p : Place) (h : RecHeader) (room room' : List ℕ) (long : length room' ≡ length room) (here : s.heap p ≡ Some (live h room))
    (new : Heap) (now : new p ≡ Some (live h room')) (off : (q : Place) → same p q ≡ false → new q ≡ s.heap q) where
  abbrev pub young : Shape
  young = record s { heap = new }

  -- what is the same of both rooms is the same everywhere
  alike : {X : Type 0} (proj : Option Cell → X) → proj (Some (live h room')) ≡ proj (Some (live h room)) → (q : Place) → proj (new q) ≡ proj (s.heap q)
  alike {X} proj e q = elim (cases_Bool (same p q)) [
    | inl y ↦ ap (λ (r : Place). proj (new r)) (sym (same_is p q y)) ∙ ap proj now ∙ e ∙ sym (ap proj here) ∙ ap (λ (r : Place). proj (s.heap r)) (same_is p q y)
    | inr n ↦ ap proj (off q n)
  ]

  other : (q : Place) (c : Cell) → s.heap q ≡ Some c → (live h room ≡ c → ⊥) → new q ≡ Some c
  other q c e ne = elim (cases_Bool (same p q)) [
    | inl y ↦ absurd (ne (some_same (live h room) c (sym here ∙ ap s.heap (same_is p q y) ∙ e)))
    | inr n ↦ off q n ∙ e
  ]

  before : (q : Place) (c : Cell) → new q ≡ Some c → (live h room' ≡ c → ⊥) → s.heap q ≡ Some c
  before q c e ne = elim (cases_Bool (same p q)) [
    | inl y ↦ absurd (ne (some_same (live h room') c (sym now ∙ ap new (same_is p q y) ∙ e)))
    | inr n ↦ sym (off q n) ∙ e
  ]

  extents_again : ExtentsStand s.heap s.extents → ExtentsStand new s.extents
  extents_again es = record {
    linked = λ m. relinked loc_or (s.extents m) (λ q. ext_next (s.heap q)) (λ q. ext_prev (s.heap q)) (λ q. ext_next (new q)) (λ q. ext_prev (new q)) (es.linked m) (λ q _. alike ext_next refl q) (λ q _. alike ext_prev refl q);
    on_chain = λ m q i. let t = es.on_chain m q i in (t.0, other q (extent t.0) t.1 (λ f. cc), t.2);
    all = λ q g i. es.all q g (before q (extent g) i (λ f. cc));
  }

  headers : (q : Place) (g : RecHeader) (r : List ℕ) → same p q ≡ true → s.heap q ≡ Some (live g r) → h ≡ g
  headers q g r y e = let f : live h room ≡ live g r = some_same (live h room) (live g r) (sym here ∙ ap s.heap (same_is p q y) ∙ e) in cc

  headers' : (q : Place) (g : RecHeader) (r : List ℕ) → same p q ≡ true → new q ≡ Some (live g r) → h ≡ g
  headers' q g r y e = let f : live h room' ≡ live g r = some_same (live h room') (live g r) (sym now ∙ ap new (same_is p q y) ∙ e) in cc

  on_chain_again : {free : List ℕ} → RecordsStand free s → (e q : Place) → has (s.records e) q ≡ true → IsRecord new e q
  on_chain_again rs e q i =
      let r = rs.on_chain e q i in
      elim (cases_Bool (same p q)) [
        | inl y ↦ record { h = h; room = room'; there = ap new (sym (same_is p q y)) ∙ now; file = r.file; of_extent = ap (λ (x : RecHeader). x.extent_ofs) (headers q r.h r.room y r.there) ∙ r.of_extent }
        | inr n ↦ record { h = r.h; room = r.room; there = off q n ∙ r.there; file = r.file; of_extent = r.of_extent }
      ]

  all_again : {free : List ℕ} → RecordsStand free s → (q : Place) (g : RecHeader) (r : List ℕ) (b : ℕ) → new q ≡ Some (live g r) → g.extent_ofs ≡ pos b → has (s.records (q.0, b)) q ≡ true
  all_again rs q g r b i x = elim (cases_Bool (same p q)) [
    | inl y ↦ rs.all q h room b (ap s.heap (sym (same_is p q y)) ∙ here) (ap (λ (z : RecHeader). z.extent_ofs) (headers' q g r y i) ∙ x)
    | inr n ↦ rs.all q g r b (sym (off q n) ∙ i) x
  ]

  records_again : {free : List ℕ} → RecordsStand free s → RecordsStand free young
  records_again rs = record {
    linked = λ e. relinked ofs_or (s.records e) (λ q. rec_next (s.heap q)) (λ q. rec_prev (s.heap q)) (λ q. rec_next (new q)) (λ q. rec_prev (new q)) (rs.linked e) (λ q _. alike rec_next refl q) (λ q _. alike rec_prev refl q);
    on_chain = on_chain_again rs;
    all = all_again rs;
    ends = λ e g i nf. rs.ends e g (before e (extent g) i (λ f. cc)) nf;
  }

  deleted_again : (m : List ℕ) (i : ℕ) (o : Option Place) (q : Place) → IsDeleted s.heap m i o q → IsDeleted new m i o q
  deleted_again m i o q d = record {
    h = d.h;
    rest = d.rest;
    there = other q (deleted d.h d.rest) d.there (λ f. cc);
    names_next = d.names_next;
    right_list = d.right_list;
    of_extent = (d.of_extent.0, d.of_extent.1, d.of_extent.2, other (q.0, d.of_extent.0) (extent d.of_extent.1) d.of_extent.3 (λ f. cc), d.of_extent.4);
  }

  lists_again : ListsStand s → ListsStand young
  lists_again ls = record {
    no_twice = ls.no_twice;
    on_list = λ m i q x. deleted_again m i (next_in (s.lists m i) q) q (ls.on_list m i q x);
    all = λ q g r b xh i x k. ls.all q g r b xh (before q (deleted g r) i (λ f. cc)) x (before (q.0, b) (extent xh) k (λ f. cc));
  }

  len_again : (o : Option Place) → len_at new o ≡ len_at s.heap o
  len_again None = refl
  len_again (Some q) = alike ext_len refl q

  details_again : (name : List ℕ) (d : Details) → DetailsStand s name d → DetailsStand young name d
  details_again name d ds = record {
    first = ds.first;
    last = ds.last;
    heads = ds.heads;
    nrecords = ds.nrecords;
    datasize = ds.datasize ∙ (λ i. pos (sum_by (λ q. sym (alike room_of long q) i) (walk s name)));
    last_size = ds.last_size ∙ sym (len_again (last_of (s.extents name)));
    constants = ds.constants;
  }

  ground_again : (q : Place) → ground new q ≡ ground s.heap q
  ground_again q = alike (λ o. option_map outline o) (ap (λ (n : ℕ). Some (a_block h.extent_ofs h.length_with_headers (16 + n))) long) q

  pub stands_again : (image image' : Image) (free : List ℕ) → Stands image free s → KeepsHeaders image image' → IsHeap image' new → Stands image' free young
  stands_again image image' free st k is = record {
    files = files_kept image image' k.lengths (λ f _. k.headers f) st.files;
    table = subst (λ (ns : List ℕ). IsTable ns) (sym k.ns) st.table;
    heap = is;
    tiled = (let whole : (ground s.heap, unused_in image) ≡ (ground new, unused_in image') = λ i. (λ q. sym (ground_again q) i, λ f. unused f i) in
        subst (λ (x : (Place → Option Outline) × (ℕ → Option ℤ)). IsTiled x.0 x.1 free) whole st.tiled);
    extents = extents_again st.extents;
    owners = λ q g i. let t = st.owners q g (before q (extent g) i (λ f. cc)) in (t.0, ap (λ (ns : List ℕ). get (table_of ns) (text_in g.namespace)) k.ns ∙ t.1);
    records = records_again st.records;
    lists = lists_again st.lists;
    counts = λ name held e nf. details_again name held.details (st.counts name held (ap (λ (ns : List ℕ). get (table_of ns) name) (sym k.ns) ∙ e) nf);
    free_chain = (let f = st.free_chain in (f.0, record { node = subst (λ (ns : List ℕ). HasFreeChain ns free f.0) (sym k.ns) f.1.node; first = f.1.first; last = f.1.last }));
  }
    where
      unused : (f : ℕ) → unused_in image f ≡ unused_in image' f
      unused f = ap (λ (bytes : List ℕ). if nat_lt f 8 then header_unused bytes else None) (sym (k.headers f))

  -- the map
  abbrev home : Place
  home = (p.0, ofs_of h.extent_ofs)

  at_new : (m : List ℕ) → live_at young m p ≡ (if is_name (owner (s.heap home)) m then Some room' else None)
  at_new m =
      ap (λ (o : Option Cell). if is_name (owner (new (extent_of p o))) m then live_room o else None) now
      ∙ ap (λ (n : List ℕ). if is_name n m then Some room' else None) (alike owner refl home)

  at_old : (m : List ℕ) → live_at s m p ≡ (if is_name (owner (s.heap home)) m then Some room else None)
  at_old m = ap (λ (o : Option Cell). if is_name (owner (s.heap (extent_of p o))) m then live_room o else None) here

  pub rewritten : IsRewritten s young p room'
  rewritten = record {
    here = λ m. at_new m ∙ either_room (is_name (owner (s.heap home)) m) room room' ∙ ap (λ (o : Option (List ℕ)). option_map (λ _. room') o) (sym (at_old m));
    others = λ m q n.
        let names : owner (new (extent_of q (new q))) ≡ owner (s.heap (extent_of q (s.heap q))) = alike owner refl (extent_of q (new q)) ∙ ap (λ (c : Option Cell). owner (s.heap (extent_of q c))) (off q n) in
        λ i. if is_name (names i) m then live_room (off q n i) else None;
    extents = λ m. refl;
    records = λ e. refl;
    lists = λ m i. refl;
    layout = ground_again;
  }

pub overwritten_none : (k : ℕ) (room : List ℕ) → k ≤ length room → overwritten k [] room ≡ room
unfolding overwritten
overwritten_none k room le = take-append-drop k room
