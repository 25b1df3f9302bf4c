-- The files stand once a new extent is linked in and its namespace's details are in hand.
use Rattle.std.proofs.Common.{◌≡◌, ◌≢◌, ℕ, ℤ, pos, suc, zero, ◌-◌, ◌<◌, ◌⊎◌, inl, inr, Bool, true, false, cond, List, [], ◌∷◌, length, Option, Some, None, refl, sym, ◌∙◌, ap, subst, arith}
use Rattle.std.specs.Prelude.{◌&&◌, ◌==◌, if◌then◌else◌, nat_lt, slice_index_or, sum_by}
use Rattle.std.specs.FinMap.{get, insert, get-insert}
use Rattle.std.specs.Cmp.Lexicographic.{nat_list_cmp_total}
use Rattle.std.proofs.lemmas.Bool.{cases_Bool, cases_lt, eqb-true, false≢true}
use Rattle.std.proofs.lemmas.Bool.Decides.{nat_tests}
use Rattle.mm_base.specs.Bytes.{part}
use Rattle.mm_base.specs.Places.{null}
use Rattle.mm_ranges.specs.Overlay.{Image, bytes_at}
use Rattle.mm_base.specs.Places.{place_of}
use Rattle.mm_base.proofs.ListLaws.{length-list_of}
use Rattle.mm_frames.specs.Details.{details_of}
use Rattle.mm_frames.specs.IndexPair.{index_pair_of}
use Rattle.mm_frames.specs.Texts.{text_in}
use Rattle.mm_frames.specs.declared.extent_header.ExtentHeader.{ExtentHeader}
use Rattle.mm_frames.specs.declared.details.Details.{Details}
use Rattle.mm_nstable.specs.Nodes.{count_of, name_in, node_at, details_in, is_used, IsTable, SameNames}
use Rattle.mm_nstable.specs.Table.{Held, table_of}
use Rattle.mm_nstable.specs.FreeChain.{IsFreeName, HasFreeChain, with_ends}
use Rattle.mm_nstable.proofs.Tables.{used_parts, table_at, table_none}
use Rattle.mm_links.specs.Links.{Place, same, has, first_of, last_of, appended}
use Rattle.mm_links.proofs.LinkLaws.{same_is, if_true, if_false, has_first, has_last}
use Rattle.mm_links.proofs.Appending.{last_new}
use Rattle.mm_extents.specs.Heap.{extent, IsHeap}
use Rattle.mm_extents.specs.Changes.{loc, loc_or, len_of, KeepsHeaders, behind_of}
use Rattle.mm_extents.specs.Files.{header_unused, unused_in}
use Rattle.mm_extents.specs.Tiling.{Outline, ground, IsTiled}
use Rattle.mm_extents.proofs.FileLaws.{files_kept}
use Rattle.mm_records.specs.Constants.{is_name, constants_of}
use Rattle.mm_records.specs.Shape.{Shape, list_for}
use Rattle.mm_records.specs.Stands.{DetailsStand, HasNode, ns_in, ext_len, len_at, room_of, walk}
use Rattle.mm_records.specs.Map.{name_at}
use Rattle.mm_records.specs.InHand.{StandsWith}
use Rattle.mm_records.specs.Extending.{IsExtended}
use Rattle.mm_records.proofs.Freed.{name_is, name_own}
use Rattle.mm_records.proofs.ConstantLaws.{constants_stay}
use Rattle.mm_records.proofs.Continues.{unused_kept}
use Rattle.mm_records.proofs.Extended as x
use Rattle.mm_records.proofs.Extended.{Grows}
use Rattle.mm_records.proofs.ExtendedStands as y

one_held : (a b : Held) → Some a ≡ Some b → a ≡ b
one_held a b e = cc

-- what the map has is in a used node
pub record UsedNode (bytes q : List ℕ) : Type 0 where
  pub k : ℕ
  pub used : is_used bytes k ≡ true
  pub named : name_in (node_at bytes k) ≡ q

pub held_at : (bytes q : List ℕ) (held : Held) → IsTable bytes → get (table_of bytes) q ≡ Some held → UsedNode bytes q
held_at bytes q held t e = elim (look (count_of bytes)) [
  | inl none ↦ absurd (let gone = table_none bytes q (λ k u n. none k (used_parts bytes k u).there u n) in let z : Some held ≡ None = sym e ∙ gone in cc)
  | inr u ↦ u
]
  where
    Nothing : ℕ → Type 0
    Nothing n = (k : ℕ) → k < n → is_used bytes k ≡ true → name_in (node_at bytes k) ≡ q → ⊥

    look : (n : ℕ) → Nothing n ⊎ UsedNode bytes q
    look zero = inl (λ k lt u n. absurd (omega (arith, lt)))
    look (suc n) = elim (look n) [
      | inr u ↦ inr u
      | inl none ↦ elim (cases_Bool (is_used bytes n)) [
        | inr m ↦ inl (λ k lt u named. elim (cases_lt k n) [ inl less ↦ none k less u named | inr ge ↦ (let s : n ≡ k = omega (arith, lt, ge) in false≢true (sym m ∙ ap (is_used bytes) s ∙ u)) ])
        | inl u ↦ elim (cases_Bool (is_name (name_in (node_at bytes n)) q)) [
          | inl z ↦ inr (record { k = n; used = u; named = name_is (name_in (node_at bytes n)) q z })
          | inr z ↦ inl (λ k lt w named. elim (cases_lt k n) [ inl less ↦ none k less w named | inr ge ↦ (let s : n ≡ k = omega (arith, lt, ge) in false≢true (sym z ∙ name_own (name_in (node_at bytes n)) q (ap (λ (j : ℕ). name_in (node_at bytes j)) s ∙ named))) ])
        ]
      ]
    ]

pub held_used : (bytes q : List ℕ) (held : Held) → IsTable bytes → get (table_of bytes) q ≡ Some held → is_used bytes held.node ≡ true
held_used bytes q held t e =
    let u = held_at bytes q held t e in
    let one = one_held held (record { node = u.k; details = details_in (node_at bytes u.k) }) (sym e ∙ table_at bytes u.k q t u.used u.named) in
    ap (λ (h : Held). is_used bytes h.node) one ∙ u.used

-- the lists that such details have
pub record HasLists (d : Details) : Type 0 where
  pub deleted : length d.deleted ≡ 19
  pub indexes : length d.indexes ≡ 10

lists_of_node : (node : List ℕ) → HasLists (details_in node)
unfolding details_in details_of
lists_of_node node = record { deleted = length-list_of 8 19 place_of (part 16 152 (part 132 496 node)); indexes = length-list_of 16 10 index_pair_of (part 192 160 (part 132 496 node)) }

pub held_lists : (bytes q : List ℕ) (held : Held) → IsTable bytes → get (table_of bytes) q ≡ Some held → HasLists held.details
held_lists bytes q held t e =
    let u = held_at bytes q held t e in
    let one = one_held held (record { node = u.k; details = details_in (node_at bytes u.k) }) (sym e ∙ table_at bytes u.k q t u.used u.named) in
    subst (λ (h : Held). HasLists h.details) (sym one) (lists_of_node (node_at bytes u.k))

-- ---- the details

module _ (image : Image) (free : List ℕ) (s : Shape) (node : ℕ) (d : Details) (len : ℕ) (g : Grows image free s node d len) where
  abbrev name : List ℕ
  name = name_at image node

  abbrev e : Place
  e = g.e

  abbrev new : Shape
  new = y.new image free s node d len g

  own_chain : new.extents name ≡ appended (s.extents name) e
  own_chain = y.chain_own image free s node d len g name (y.names_apart image free s node d len g name free g.st.is_node.isnt_free) (name_own name name refl)

  other_head : (m : List ℕ) (i : ℕ) → (is_name m name && i == list_for (g.n - 176)) ≡ false → loc_or (first_of (s.lists m i)) ≡ loc_or (first_of (new.lists m i))
  other_head m i f = ap (λ (ps : List Place). loc_or (first_of ps)) (sym (if_false (is_name m name && i == list_for (g.n - 176)) (behind_of e 176 ∷ s.lists m i) (s.lists m i) f))

  own_test : (i : ℕ) → (is_name name name && i == list_for (g.n - 176)) ≡ (i == list_for (g.n - 176))
  own_test i = ap (λ (t : Bool). t && i == list_for (g.n - 176)) (name_own name name refl)

  front : (o : Option Place) → first_of (s.extents name) ≡ o → (d' : Details) → (d.first_extent ≡ null → d'.first_extent ≡ loc e) → (d.first_extent ≢ null → d'.first_extent ≡ d.first_extent) → d'.first_extent ≡ loc_or (first_of (appended (s.extents name) e))
  front None f d' alone kept = alone (g.st.own.first ∙ ap loc_or f) ∙ ap (λ (ps : List Place). loc_or (first_of (appended ps e))) (sym (none_first (s.extents name) f))
    where
      none_first : (ps : List Place) → first_of ps ≡ None → ps ≡ []
      none_first [] k = refl
      none_first (p ∷ ps) k = absurd cc
  front (Some p) f d' alone kept =
      kept (λ z. x.place_isnt_null image free s node d len g p (first_on p f) (sym (g.st.own.first ∙ ap loc_or f) ∙ z)) ∙ g.st.own.first ∙ ap loc_or (f ∙ sym (some_first (s.extents name) f))
    where
      some_first : (ps : List Place) → first_of ps ≡ Some p → first_of (appended ps e) ≡ Some p
      some_first [] k = absurd cc
      some_first (q ∷ ps) k = k

      first_on : (p : Place) → first_of (s.extents name) ≡ Some p → has (s.extents name) p ≡ true
      first_on p k = has_first (s.extents name) p k

  pub own_details : (d' : Details) → (d.first_extent ≡ null → d'.first_extent ≡ loc e) → (d.first_extent ≢ null → d'.first_extent ≡ d.first_extent) → d'.last_extent ≡ loc e → d'.last_extent_size ≡ pos g.n
      → slice_index_or d'.deleted (list_for (g.n - 176)) null ≡ loc (behind_of e 176)
      → ((i : ℕ) → i < 19 → (i == list_for (g.n - 176)) ≡ false → slice_index_or d'.deleted i null ≡ slice_index_or d.deleted i null)
      → d'.nrecords ≡ d.nrecords → d'.datasize ≡ d.datasize → constants_of d' ≡ constants_of d → DetailsStand new name d'
  own_details d' alone kept el es eh eo er ez ec = record {
    first = front (first_of (s.extents name)) refl d' alone kept ∙ ap (λ (ps : List Place). loc_or (first_of ps)) (sym own_chain);
    last = el ∙ ap loc_or (sym (last_new (s.extents name) e)) ∙ ap (λ (ps : List Place). loc_or (last_of ps)) (sym own_chain);
    heads = λ i lt. elim (cases_Bool (i == list_for (g.n - 176))) [
      | inl z ↦ ap (λ (j : ℕ). slice_index_or d'.deleted j null) (eqb-true i (list_for (g.n - 176)) z) ∙ eh
          ∙ sym (ap (λ (ps : List Place). loc_or (first_of ps)) (if_true (is_name name name && i == list_for (g.n - 176)) (behind_of e 176 ∷ s.lists name i) (s.lists name i) (own_test i ∙ z)))
      | inr z ↦ eo i lt z ∙ g.st.own.heads i lt ∙ other_head name i (own_test i ∙ z)
    ];
    nrecords = er ∙ g.st.own.nrecords ∙ ap (λ (ps : List Place). pos (length ps)) (sym (y.walk_own image free s node d len g));
    datasize = ez ∙ g.st.own.datasize ∙ ap (λ (n : ℕ). pos n) (sym (y.sum_stays image free s node d len g (walk s name)) ∙ ap (λ (ps : List Place). sum_by (λ q. room_of (new.heap q)) ps) (sym (y.walk_own image free s node d len g)));
    last_size = es ∙ sym (ap ext_len (x.u_here image free s node d len g)) ∙ sym (ap (len_at new.heap) (ap last_of own_chain ∙ last_new (s.extents name) e));
    constants = constants_stay name d d' ec g.st.own.constants;
  }

  pub other_details : (m : List ℕ) (z : Details) → (m ≡ free → ⊥) → (m ≡ name → ⊥) → DetailsStand s m z → DetailsStand new m z
  other_details m z nf ne ds = record {
    first = ds.first ∙ ap (λ (ps : List Place). loc_or (first_of ps)) (sym chain);
    last = ds.last ∙ ap (λ (ps : List Place). loc_or (last_of ps)) (sym chain);
    heads = λ i lt. ds.heads i lt ∙ other_head m i (ap (λ (t : Bool). t && i == list_for (g.n - 176)) apart);
    nrecords = ds.nrecords ∙ ap (λ (ps : List Place). pos (length ps)) (sym (y.walk_other image free s node d len g m nf ne));
    datasize = ds.datasize ∙ ap (λ (n : ℕ). pos n) (sym (y.sum_stays image free s node d len g (walk s m)) ∙ ap (λ (ps : List Place). sum_by (λ q. room_of (new.heap q)) ps) (sym (y.walk_other image free s node d len g m nf ne)));
    last_size = ds.last_size ∙ sizes (last_of (s.extents m)) refl ∙ ap (λ (ps : List Place). len_at new.heap (last_of ps)) (sym chain);
    constants = ds.constants;
  }
    where
      apart : is_name m name ≡ false
      apart = y.names_apart image free s node d len g m name ne

      chain : new.extents m ≡ s.extents m
      chain = y.chain_other image free s node d len g m (y.names_apart image free s node d len g m free nf) apart

      sizes : (o : Option Place) → last_of (s.extents m) ≡ o → len_at s.heap o ≡ len_at new.heap o
      sizes None f = refl
      sizes (Some q) f =
          let on = has_last (s.extents m) q f in
          let c = g.st.extents.on_chain m q on in
          let z = x.extent_stays image free s node d len g q c.0 (x.off_e image free s node d len g m q nf on) c.1 in
          ap ext_len c.1 ∙ sym z.len_is ∙ sym (ap ext_len z.is)

  -- ---- all of it

  abbrev held : Held
  held = g.st.free_chain.0

  abbrev now : Held
  now = record { node = held.node; details = with_ends g.ends held.details }

  module _ (i2 : Image) (lens : (f : ℕ) → len_of i2 f ≡ len_of g.now f) (files : (f : ℕ) → f < 8 → bytes_at i2 f ≡ bytes_at g.now f)
      (table : table_of (ns_in i2) ≡ insert (table_of (ns_in image)) free now) (names : SameNames (ns_in image) (ns_in i2)) (kept : IsTable (ns_in i2))
      (i3 : Image) (k : KeepsHeaders i2 i3) (heap : IsHeap i3 new.heap) (d' : Details) (own : DetailsStand new name d') where
    found : (m : List ℕ) → get (table_of (ns_in i2)) m ≡ cond (is_name m free) (Some now) (get (table_of (ns_in image)) m)
    found m = ap (λ t. get t m) table ∙ get-insert nat_list_cmp_total (table_of (ns_in image)) free now m

    found_other : (m : List ℕ) → m ≢ free → get (table_of (ns_in i2)) m ≡ get (table_of (ns_in image)) m
    found_other m ne = found m ∙ ap (λ (t : Bool). cond t (Some now) (get (table_of (ns_in image)) m)) (y.names_apart image free s node d len g m free ne)

    found_free : get (table_of (ns_in i2)) free ≡ Some now
    found_free = found free ∙ ap (λ (t : Bool). cond t (Some now) (get (table_of (ns_in image)) free)) (name_own free free refl)

    has_node : (m : List ℕ) → HasNode image m → HasNode i3 m
    has_node m n = let at = by (is_name m free) refl in (at.0, ap (λ (ns : List ℕ). get (table_of ns) m) k.ns ∙ at.1)
      where
        by : (t : Bool) → is_name m free ≡ t → (h : Held) × (get (table_of (ns_in i2)) m ≡ Some h)
        by true z = (now, found m ∙ ap (λ (t : Bool). cond t (Some now) (get (table_of (ns_in image)) m)) z)
        by false z = (n.0, found m ∙ ap (λ (t : Bool). cond t (Some now) (get (table_of (ns_in image)) m)) z ∙ n.1)

    own_node : HasNode image name
    own_node = (record { node = node; details = details_in (node_at (ns_in image) node) }, table_at (ns_in image) node name g.st.table g.st.is_node.used refl)

    name_same : name_at i3 node ≡ name
    name_same = ap (λ (ns : List ℕ). name_in (node_at ns node)) k.ns ∙ names.names node g.st.is_node.used

    unused_same : (f : ℕ) → unused_in i3 f ≡ unused_in g.now f
    unused_same f = unused_kept i2 i3 k f ∙ elim (cases_Bool (nat_lt f 8)) [
      | inl z ↦ ap (λ (t : Bool). if t then header_unused (part 0 8192 (bytes_at i2 f)) else None) z
          ∙ ap header_unused (ap (part 0 8192) (files f (grind (arith, nat_tests, z))))
          ∙ sym (ap (λ (t : Bool). if t then header_unused (part 0 8192 (bytes_at g.now f)) else None) z)
      | inr z ↦ ap (λ (t : Bool). if t then header_unused (part 0 8192 (bytes_at i2 f)) else None) z ∙ sym (ap (λ (t : Bool). if t then header_unused (part 0 8192 (bytes_at g.now f)) else None) z)
    ]

    tiled_now : IsTiled (ground new.heap) (unused_in i3) free
    tiled_now =
        let whole : (ground g.t, unused_in g.now) ≡ (ground new.heap, unused_in i3) = λ i. (λ q. sym (x.ground_t image free s node d len g q) i, λ f. sym (unused_same f) i) in
        subst (λ (z : (Place → Option Outline) × (ℕ → Option ℤ)). IsTiled z.0 z.1 free) whole g.frees.tiled

    owners_now : (q : Place) (h : ExtentHeader) → new.heap q ≡ Some (extent h) → HasNode i3 (text_in h.namespace)
    owners_now q h i = elim (cases_Bool (same e q)) [
      | inl z ↦
          let cells : Some (extent (x.new_header image free s node d len g)) ≡ Some (extent h) = sym (x.u_here image free s node d len g) ∙ ap new.heap (same_is e q z) ∙ i in
          let heads : x.new_header image free s node d len g ≡ h = cc in
          subst (λ (m : List ℕ). HasNode i3 m) (sym (x.named image free s node d len g) ∙ ap (λ (w : ExtentHeader). text_in w.namespace) heads) (has_node name own_node)
      | inr z ↦ let was = x.extent_was image free s node d len g q h z i in has_node (text_in h.namespace) (subst (λ (m : List ℕ). HasNode image m) (ap text_in was.name_is) (g.st.owners q was.h was.is))
    ]

    chain_now : HasFreeChain (ns_in i2) free now
    chain_now = record { is = found_free; named = g.st.free_chain.1.node.named; only = only }
      where
        only : (m : List ℕ) (other : Held) → get (table_of (ns_in i2)) m ≡ Some other → IsFreeName m → m ≡ free
        only m other f n = elim (cases_Bool (is_name m free)) [
          | inl z ↦ name_is m free z
          | inr z ↦ g.st.free_chain.1.node.only m other (sym (ap (λ (t : Bool). cond t (Some now) (get (table_of (ns_in image)) m)) z) ∙ sym (found m) ∙ f) n
        ]

    free_extents : new.extents free ≡ g.chain
    free_extents = y.chain_free image free s node d len g free (name_own free free refl)

    pub stands_extended : StandsWith i3 free new node d'
    stands_extended = record {
      files = files_kept g.now i3 (λ f. k.lengths f ∙ lens f) (λ f lt. k.headers f ∙ ap (part 0 8192) (files f lt)) g.frees.files;
      table = subst (λ (ns : List ℕ). IsTable ns) (sym k.ns) kept;
      heap = heap;
      tiled = tiled_now;
      extents = y.extents_stand image free s node d len g;
      owners = owners_now;
      records = y.records_stand image free s node d len g;
      lists = y.lists_stand image free s node d len g;
      is_node = record { used = ap (λ (ns : List ℕ). is_used ns node) k.ns ∙ names.used node ∙ g.st.is_node.used; isnt_free = λ f. g.st.is_node.isnt_free (sym name_same ∙ f) };
      own = subst (λ (m : List ℕ). DetailsStand new m d') (sym name_same) own;
      others = λ m h f nf ne. other_details m h.details nf (λ z. ne (z ∙ sym name_same)) (g.st.others m h (sym (found_other m nf) ∙ ap (λ (ns : List ℕ). get (table_of ns) m) (sym k.ns) ∙ f) nf (λ z. ne (z ∙ sym name_same)));
      free_chain = (
        now,
        record {
          node = subst (λ (ns : List ℕ). HasFreeChain ns free now) (sym k.ns) chain_now;
          first = g.frees.first ∙ ap (λ (ps : List Place). loc_or (first_of ps)) (sym free_extents);
          last = g.frees.last ∙ ap (λ (ps : List Place). loc_or (last_of ps)) (sym free_extents);
        },
      );
    }

  pub is_extended : IsExtended image s new free name len g.e g.n
  is_extended = record {
    chain = g.chain;
    placed = g.fresh.placed;
    long = g.fresh.long;
    header = x.new_header image free s node d len g;
    here = x.u_here image free s node d len g;
    len_is = refl;
    block = x.new_block image free s node d len g;
    room = g.fresh.rest;
    behind = x.u_behind image free s node d len g;
    room_long = y.room_long image free s node d len g;
    map = y.map_stays image free s node d len g;
    extents = λ m. refl;
    records = λ f. refl;
    lists = λ m i. refl;
    layout = x.ground_off image free s node d len g;
  }
