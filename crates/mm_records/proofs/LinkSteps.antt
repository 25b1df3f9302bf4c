-- What linking a new extent asks for and gives, at what the code reads.
use Rattle.std.proofs.Common.{◌≡◌, ◌≢◌, ℕ, pos, ◌+◌, ◌-◌, ◌*◌, ◌<◌, ◌≤◌, inl, inr, true, false, List, length, Option, Some, None, refl, sym, ◌∙◌, ap, subst, arith}
use Rattle.std.specs.Prelude.{◌==◌, slice_index_or}
use Rattle.std.specs.Result.{IsErrOf}
use Rattle.std.proofs.Common.{Err}
use Rattle.std.specs.FinMap.{insert}
use Rattle.mm_base.specs.Places.{null}
use Rattle.mm_frames.specs.Details.{details_bytes}
use Rattle.mm_views.specs.State.{Drafting}
use Rattle.mm_nstable.specs.Nodes.{is_used, IsTable, SameNames}
use Rattle.mm_nstable.specs.Table.{Held, table_of}
use Rattle.mm_nstable.specs.Changes.{written_at}
use Rattle.std.specs.Option.{option_map}
use Rattle.std.proofs.lemmas.Bool.{cases_Bool}
use Rattle.mm_base.specs.Bytes.{part}
use Rattle.mm_base.specs.declared.place.DiskLoc.{DiskLoc}
use Rattle.mm_ranges.specs.Overlay.{Image, bytes_at}
use Rattle.mm_frames.specs.ExtentHeader.{extent_header_of}
use Rattle.mm_frames.specs.declared.extent_header.ExtentHeader.{ExtentHeader}
use Rattle.mm_frames.specs.declared.deleted_header.DeletedHeader.{DeletedHeader}
use Rattle.mm_frames.specs.declared.details.Details.{Details}
use Rattle.mm_frames.specs.declared.free_ends.FreeEnds.{FreeEnds}
use Rattle.mm_nstable.specs.FreeChain.{HasFreeChain, ends_of, with_ends}
use Rattle.mm_links.specs.Links.{Place, same, has, first_of, last_of}
use Rattle.mm_links.proofs.LinkLaws.{if_true, has_last}
use Rattle.mm_extents.specs.Heap.{Cell, extent, deleted, Heap, IsHeap, change}
use Rattle.mm_extents.specs.Changes.{loc, loc_or, IsLow, LowOr, len_of, KeepsHeaders, xnext_set, xprev_set, behind_of}
use Rattle.mm_extents.specs.Tiling.{outline}
use Rattle.mm_extents.specs.FreeExtents.{HasFree, header_made, whole_block, next_passed, ExtentOr, IsNewExtent, IsMadeOf}
use Rattle.mm_extents.proofs.FileLaws.{low_place, short_file}
use Rattle.mm_extents.proofs.Writes.{changed_there}
use Rattle.mm_records.specs.Constants.{constants_of}
use Rattle.mm_records.specs.Shape.{Shape, list_for}
use Rattle.mm_records.specs.Stands.{ns_in}
use Rattle.mm_records.specs.Map.{name_at}
use Rattle.mm_records.specs.InHand.{StandsWith}
use Rattle.mm_records.specs.Passing.{HasExtent}
use Rattle.mm_records.specs.Taking.{IsBlockAt}
use Rattle.mm_records.specs.Extending.{CanLink, linked_in, IsExtended}
use Rattle.mm_records.proofs.NodeWrites.{other_files, same_lengths}
use Rattle.mm_records.proofs.DetailsLong.{details_long}
use Rattle.mm_records.proofs.ExtendedStands.{new}
use Rattle.mm_records.proofs.ExtendSteps.{held_used, held_lists, own_details, stands_extended, is_extended}
use Rattle.mm_records.proofs.Extended.{Grows, t_kept}

-- an extent stays one, whatever its links
pub record IsSome (heap : Heap) (q : Place) : Type 0 where
  pub h : ExtentHeader
  pub is : heap q ≡ Some (extent h)

pub passed_extent : (o : Option Place) (z : DiskLoc) (H : Heap) (q : Place) (h : ExtentHeader) → H q ≡ Some (extent h) → IsSome (next_passed o z H) q
passed_extent None z H q h e = record { h = h; is = e }
passed_extent (Some x) z H q h e = elim (cases_Bool (same x q)) [
  | inl y ↦ record { h = record h { xnext = z }; is = if_true (same x q) (option_map (xnext_set z) (H q)) (H q) y ∙ ap (option_map (xnext_set z)) e }
  | inr n ↦ record { h = h; is = changed_there x q (xnext_set z) H n ∙ e }
]

deleted_kept : (x : Place) (g : Cell → Cell) (H : Heap) (q : Place) (h : DeletedHeader) (rest : List ℕ) → g (deleted h rest) ≡ deleted h rest → H q ≡ Some (deleted h rest) → change x g H q ≡ Some (deleted h rest)
deleted_kept x g H q h rest law e = elim (cases_Bool (same x q)) [
  | inl y ↦ if_true (same x q) (option_map g (H q)) (H q) y ∙ ap (option_map g) e ∙ ap (λ (c : Cell). Some c) law
  | inr n ↦ changed_there x q g H n ∙ e
]

pub passed_deleted : (o : Option Place) (z : DiskLoc) (H : Heap) (q : Place) (h : DeletedHeader) (rest : List ℕ) → H q ≡ Some (deleted h rest) → next_passed o z H q ≡ Some (deleted h rest)
passed_deleted None z H q h rest e = e
passed_deleted (Some x) z H q h rest e = deleted_kept x (xnext_set z) H q h rest refl e

pub xprev_deleted : (x : Place) (z : DiskLoc) (H : Heap) (q : Place) (h : DeletedHeader) (rest : List ℕ) → H q ≡ Some (deleted h rest) → change x (xprev_set z) H q ≡ Some (deleted h rest)
xprev_deleted x z H q h rest e = deleted_kept x (xprev_set z) H q h rest refl e

-- ---- the free extents, as the details of their node name them

pub frees_of : (image : Image) (free : List ℕ) (s : Shape) (node : ℕ) (d : Details) (st : StandsWith image free s node d) (ends : FreeEnds) → ends ≡ ends_of st.free_chain.0.details → HasFree image free s.heap (s.extents free) ends
frees_of image free s node d st ends e = record {
  files = st.files;
  shown = st.heap;
  tiled = st.tiled;
  linked = st.extents.linked free;
  on_chain = st.extents.on_chain free;
  first = ap (λ (x : FreeEnds). x.first) e ∙ st.free_chain.1.first;
  last = ap (λ (x : FreeEnds). x.last) e ∙ st.free_chain.1.last;
}

abbrev pub grows : (image : Image) (free : List ℕ) (s : Shape) (node : ℕ) (d : Details) (st : StandsWith image free s node d) (now : Image) (ends : FreeEnds) (name : List ℕ) (len : ℕ) (at : DiskLoc) → name ≡ name_at image node
    → IsMadeOf image now free s.heap (s.extents free) ends name len at → Grows image free s node d len
grows image free s node d st now ends name len at e m = record {
  st = st;
  t = m.0;
  e = m.1.0;
  n = m.1.1.0;
  chain = m.1.1.1.0;
  ends = ends;
  now = now;
  frees = m.1.1.1.1.1.0;
  fresh = subst (λ (x : List ℕ). IsNewExtent image s.heap m.0 (s.extents free) m.1.1.1.0 m.1.0 x len m.1.1.0) e m.1.1.1.1.1.1;
}

pub made_low : (old now : Image) (free : List ℕ) (heap : Heap) (chain : List Place) (ends : FreeEnds) (name : List ℕ) (len : ℕ) (at : DiskLoc) → IsMadeOf old now free heap chain ends name len at → (p : Place) × ((at ≡ loc p) × IsLow p)
made_low old now free heap chain ends name len at m =
    let f = m.1.1.1.1.1.0 in
    (m.1.0, (m.1.1.1.1.0, low_place now m.0 m.1.0 (extent (header_made m.1.0 name m.1.1.0)) f.files f.shown m.1.1.1.1.1.1.here))

module _ (image : Image) (free : List ℕ) (s : Shape) (node : ℕ) (d : Details) (len : ℕ) (g : Grows image free s node d len) where
  pub at_low : IsLow g.e
  at_low = low_place g.now g.t g.e (extent (header_made g.e (name_at image node) g.n)) g.frees.files g.frees.shown g.fresh.here

  whole : (u : ℕ) × ((n : ℕ) × ((pos g.n ≡ pos n) × ((4096 ≤ n) × (g.e.1 + n ≤ u))))
  whole =
      let h = header_made g.e (name_at image node) g.n in
      let w = g.frees.tiled.extents g.e.0 g.e.1 h.magic h.my_loc h.namespace h.len (ap (λ (o : Option Cell). option_map outline o) g.fresh.here) in
      (w.0, (w.2.0, (w.2.1.long, (w.2.1.some, w.2.1.inside))))

  pub page : 4096 ≤ g.n
  page = let same_len = whole.1.1.0 in let some = whole.1.1.1.0 in let n : g.n ≡ whole.1.0 = cc in omega (arith, some, n)

  -- its block lies inside its file
  pub n_short : g.n < 2147483648
  n_short =
      let i = g.frees.shown.inside (behind_of g.e 176) (deleted (whole_block g.e g.n) g.fresh.rest) g.fresh.block in
      let r = g.fresh.rest_long in
      let s' = short_file g.now g.frees.files g.e.0 (g.frees.shown.data_file g.e (extent (header_made g.e (name_at image node) g.n)) g.fresh.here) in
      omega (arith, i, r, s')

  module _ (i2 : Image) (is : IsHeap i2 g.t) (at : Place) (e : g.e ≡ at) where
    pub at_inside : at.1 + 176 ≤ length (bytes_at i2 at.0)
    at_inside = subst (λ (q : Place). q.1 + 176 ≤ length (bytes_at i2 q.0)) e (is.inside g.e (extent (header_made g.e (name_at image node) g.n)) g.fresh.here)

    pub at_len : (h : ExtentHeader) → h ≡ extent_header_of (part at.1 176 (bytes_at i2 at.0)) → h.len ≡ pos g.n
    at_len h f =
        let shown = is.shown g.e (extent (header_made g.e (name_at image node) g.n)) g.fresh.here in
        ap (λ (x : ExtentHeader). x.len) (f ∙ ap (λ (q : Place). extent_header_of (part q.1 176 (bytes_at i2 q.0))) (sym e) ∙ shown)

    last_there : (o : Option Place) → last_of (s.extents (name_at image node)) ≡ o → LowOr o × ExtentOr g.t o
    last_there None f = (tt, tt)
    last_there (Some x) f =
        let on = has_last (s.extents (name_at image node)) x f in
        let c = g.st.extents.on_chain (name_at image node) x on in
        let k = kept x on in (
          low_place image s.heap x (extent c.0) g.st.files g.st.heap c.1,
          record { h = c.0; is = k ∙ c.1 },
        )
      where
        kept : (x : Place) → has (s.extents (name_at image node)) x ≡ true → g.t x ≡ s.heap x
        kept x on = t_kept image free s node d len g (name_at image node) x g.st.is_node.isnt_free on

    pub last_low : LowOr (last_of (s.extents (name_at image node)))
    last_low = (last_there (last_of (s.extents (name_at image node))) refl).0

    pub last_extent : ExtentOr g.t (last_of (s.extents (name_at image node)))
    last_extent = (last_there (last_of (s.extents (name_at image node))) refl).1

    pub here_extent : HasExtent g.t at
    here_extent = record { h = header_made g.e (name_at image node) g.n; is = ap g.t (sym e) ∙ g.fresh.here }

    pub here_block : IsBlockAt g.t (behind_of at 176)
    here_block = record { h = whole_block g.e g.n; rest = g.fresh.rest; is = ap (λ (q : Place). g.t (behind_of q 176)) (sym e) ∙ g.fresh.block }

    pub can_link : CanLink i2 (last_of (s.extents (name_at image node))) at
    can_link = record { heap = g.t; is = is; low = last_low; there = last_extent; here = here_extent; block = here_block }

-- ---- the ends of the free chain are written

module _ (image : Image) (free : List ℕ) (held : Held) (t : IsTable (ns_in image)) (h : HasFreeChain (ns_in image) free held) (d d' : Drafting) (ns : ns_in d.image ≡ ns_in image) (ends : FreeEnds)
    (w : d' ≡ written_at (628 * held.node + 132) (details_bytes (with_ends ends held.details)) d) where
  pub ends_lengths : (f : ℕ) → len_of d'.image f ≡ len_of d.image f
  ends_lengths f = same_lengths d d' held.node (details_bytes (with_ends ends held.details)) (ap (λ (b : List ℕ). is_used b held.node) ns ∙ held_used (ns_in image) free held t h.is) (let l = held_lists (ns_in image) free held t h.is in details_long (with_ends ends held.details) l.deleted l.indexes) w f

  pub ends_files : (f : ℕ) → f < 8 → bytes_at d'.image f ≡ bytes_at d.image f
  ends_files f lt = other_files d d' (628 * held.node + 132) (details_bytes (with_ends ends held.details)) w f lt

-- ---- all steps

module _ (image : Image) (free : List ℕ) (s : Shape) (node : ℕ) (d : Details) (len : ℕ) (g : Grows image free s node d len)
    (i2 : Image) (lens : (f : ℕ) → len_of i2 f ≡ len_of g.now f) (files : (f : ℕ) → f < 8 → bytes_at i2 f ≡ bytes_at g.now f)
    (table : table_of (ns_in i2) ≡ insert (table_of (ns_in image)) free (record { node = g.st.free_chain.0.node; details = with_ends g.ends g.st.free_chain.0.details }))
    (names : SameNames (ns_in image) (ns_in i2)) (kept : IsTable (ns_in i2)) (at : Place) (here : g.e ≡ at) (i3 : Image) (k : KeepsHeaders i2 i3) where
  pub finished : (head : DiskLoc) (n list : ℕ) → n ≡ g.n → list ≡ list_for (g.n - 176) → head ≡ loc_or (first_of (s.lists (name_at image node) (list_for (g.n - 176))))
      → IsHeap i3 (linked_in (last_of (s.extents (name_at image node))) at head g.t) → (d' : Details)
      → (d.first_extent ≡ null → d'.first_extent ≡ loc at) → (d.first_extent ≢ null → d'.first_extent ≡ d.first_extent) → d'.last_extent ≡ loc at → d'.last_extent_size ≡ pos n
      → slice_index_or d'.deleted list null ≡ loc (behind_of at 176)
      → ((i : ℕ) → i < 19 → (i == list) ≡ false → slice_index_or d'.deleted i null ≡ slice_index_or d.deleted i null)
      → d'.nrecords ≡ d.nrecords → d'.datasize ≡ d.datasize → constants_of d' ≡ constants_of d
      → (t : Shape) × (StandsWith i3 free t node d' × ((e : Place) × ((m : ℕ) × IsExtended image s t free (name_at image node) len e m)))
  finished head n list en el eh heap d' alone first last size hd hds nr ds cs =
      let there : loc at ≡ loc g.e = ap loc (sym here) in
      let heap' : IsHeap i3 (linked_in (last_of (s.extents (name_at image node))) g.e (loc_or (first_of (s.lists (name_at image node) (list_for (g.n - 176))))) g.t) =
      subst (λ (w : Place × DiskLoc). IsHeap i3 (linked_in (last_of (s.extents (name_at image node))) w.0 w.1 g.t)) (λ i. (sym here i, eh i)) heap in
      let own = own_details image free s node d len g d' (λ z. alone z ∙ there) first (last ∙ there) (size ∙ ap (λ (m : ℕ). pos m) en)
      (ap (λ (i : ℕ). slice_index_or d'.deleted i null) (sym el) ∙ hd ∙ ap (λ (q : Place). loc (behind_of q 176)) (sym here))
      (λ i lt ne. hds i lt (ap (λ (j : ℕ). i == j) el ∙ ne)) nr ds cs in
      (new image free s node d len g, (stands_extended image free s node d len g i2 lens files table names kept i3 k heap' d' own, (g.e, (g.n, is_extended image free s node d len g))))

-- one fault, whatever else the result could be
pub same_fault : {T U E : Type 0} (a b : E) → IsErrOf {T = T} {E = E} (Err a) b → IsErrOf {T = U} {E = E} (Err a) b
same_fault {T} {U} {E} a b e = (let f : a ≡ b = one_fault a b e in ap (λ (x : E). Err x) f)
  where
    one_fault : (a b : E) → IsErrOf {T = T} {E = E} (Err a) b → a ≡ b
    one_fault a b e = cc
