-- The files of a new database.
use Rattle.std.proofs.Common.{◌≡◌, ◌≢◌, ℕ, ◌*◌, ◌<◌, ◌≤◌, inl, inr, Bool, true, false, cond, List, [], length, Option, Some, None, refl, sym, ◌∙◌, ap, subst, arith}
use Rattle.std.specs.Prelude.{◌==◌, replicate, unwrap_or, count_by}
use Rattle.std.specs.Option.{option_map}
use Rattle.std.specs.FinMap.{get, insert, empty, get-insert, get-empty}
use Rattle.std.specs.Ordering.{nat_cmp}
use Rattle.std.specs.Cmp.Lexicographic.{slice_cmp, nat_list_cmp_total}
use Rattle.std.proofs.lemmas.Bool.{cases_Bool, false≢true, eq-eqb, eqb-true}
use Rattle.std.proofs.lemmas.Bool.Decides.{nat_tests}
use Rattle.std.proofs.lemmas.List.{length-replicate}
use Rattle.mm_base.specs.Places.{null}
use Rattle.mm_ranges.specs.Overlay.{Image, bytes_at}
use Rattle.mm_ranges.specs.declared.limits.TheConstants.{NS_FILE}
use Rattle.mm_frames.specs.declared.details.Details.{Details}
use Rattle.mm_nstable.specs.Nodes.{count_of, node_at, nodes_of, name_in, details_in, is_free, IsTable}
use Rattle.mm_nstable.specs.Table.{Held, table_of}
use Rattle.mm_nstable.specs.FreeChain.{IsFreeName, HasFreeChain}
use Rattle.mm_nstable.proofs.Tables.{used_from, table_at, some_free}
use Rattle.mm_nstable.proofs.Zeros.{zeros_are_table, zeros_are_empty}
use Rattle.mm_links.specs.Links.{Place, IsLinked}
use Rattle.mm_extents.specs.Changes.{len_of}
use Rattle.mm_extents.specs.Files.{FilesStand, HasNamesAlone, AreUnused}
use Rattle.mm_extents.proofs.Headers.{long_there}
use Rattle.mm_extents.proofs.MadeFiles.{get-made}
use Rattle.mm_records.specs.Constants.{is_name}
use Rattle.mm_records.specs.Shape.{Shape}
use Rattle.mm_records.specs.Stands.{Stands, ns_in}
use Rattle.mm_records.proofs.Freed.{name_is, name_own}
use Rattle.mm_namespaces.specs.Fresh.{IsFresh, HasNothing, IsNew}

one_held : (x y : Held) → Some x ≡ Some y → x ≡ y
one_held x y e = cc

-- ---- files without extents

abbrev no_extents : Shape
no_extents = record { heap = λ _. None; extents = λ _. []; records = λ _. []; lists = λ _ _. [] }

nothing : HasNothing no_extents
nothing = record { heap = λ p. refl; extents = λ m. refl; records = λ e. refl; lists = λ m i. refl }

unlinked_none : {A : Type 0} (of : Option Place → A) (next prev : Place → A) → IsLinked of [] next prev
unlinked_none of next prev = record { no_twice = refl; behind = λ p h. absurd (false≢true h); before = λ p q e. absurd cc; first = λ p e. absurd cc }

bare_stands : (image : Image) (free : List ℕ) → IsTable (ns_in image) → AreUnused image → ((name : List ℕ) (held : Held) → get (table_of (ns_in image)) name ≡ Some held → name ≢ free → IsFresh name held.details)
    → FilesStand image → (held : Held) → HasFreeChain (ns_in image) free held → held.details.first_extent ≡ null → held.details.last_extent ≡ null → Stands image free no_extents
bare_stands image free t u b fs held f first last = record {
  files = fs;
  table = t;
  heap = record { data_file = λ p c e. absurd cc; behind_header = λ p c e. absurd cc; inside = λ p c e. absurd cc; shown = λ p c e. absurd cc; apart = λ f x y c d e g lt. absurd cc };
  tiled = record { begins = λ file v e. inl (u file v e); extents = λ file at magic here name len e. absurd cc; apart = λ file a b magic magic' n here here' name name' len e e' lt. absurd cc; blocks = λ file at n ext len e. absurd cc };
  owners = λ p h e. absurd cc;
  extents = record { linked = λ name. unlinked_none _ _ _; on_chain = λ name p h. absurd (false≢true h); all = λ p h e. absurd cc };
  records = record { linked = λ e. unlinked_none _ _ _; on_chain = λ e p h. absurd (false≢true h); all = λ p h room a e x. absurd cc; ends = λ e h x nf. absurd cc };
  lists = record { no_twice = λ name i. refl; on_list = λ name i p h. absurd (false≢true h); all = λ p h rest a hh e x y. absurd cc };
  counts = λ name held e ne. let d = b name held e ne in record { first = d.first; last = d.last; heads = d.heads; nrecords = d.nrecords; datasize = d.datasize; last_size = d.last_size; constants = d.constants };
  free_chain = (held, record { node = f; first = first; last = last });
}

-- ---- `.ns` alone

pub names_alone : (old new : Image) (mib len : ℕ) → new ≡ insert old NS_FILE (replicate len 0) → len ≡ mib * 1048576 → 1 ≤ mib → mib ≤ 16 → ((f : ℕ) → get old f ≡ None) → HasNamesAlone new
names_alone old new mib len e is least most none = record {
  names = (mib, least, most, ap (λ (i : Image). len_of i NS_FILE) e ∙ ap (λ (o : Option (List ℕ)). option_map length o) (get-made old NS_FILE (replicate len 0) NS_FILE) ∙ ap (λ (n : ℕ). Some n) (length-replicate len 0 ∙ is));
  none = λ k lt. ap (λ (i : Image). len_of i k) e
      ∙ ap (λ (o : Option (List ℕ)). option_map length o) (get-made old NS_FILE (replicate len 0) k ∙ ap (λ (b : Bool). cond b (Some (replicate len 0)) (get old k)) (other k lt) ∙ none k);
}
  where
    other : (k : ℕ) → k < 8 → (k == NS_FILE) ≡ false
    other k lt = grind (arith, nat_tests)

pub names_zeros : (old new : Image) (len : ℕ) → new ≡ insert old NS_FILE (replicate len 0) → ns_in new ≡ replicate len 0
names_zeros old new len e = ap (λ (i : Image). bytes_at i NS_FILE) e ∙ ap (λ (o : Option (List ℕ)). unwrap_or o []) (get-made old NS_FILE (replicate len 0) NS_FILE)

pub alone_kept : (old new : Image) → HasNamesAlone old → ((f : ℕ) → len_of new f ≡ len_of old f) → HasNamesAlone new
alone_kept old new a lens = record { names = (a.names.0, a.names.1, a.names.2, lens NS_FILE ∙ a.names.3); none = λ k lt. lens k ∙ a.none k lt }

-- ---- free nodes

-- 1 MiB has two nodes and more
many_nodes : (bytes : List ℕ) (mib : ℕ) → 1 ≤ mib → length bytes ≡ mib * 1048576 → 1 < count_of bytes
many_nodes bytes mib least long = omega (arith, least, long)

table_zeros : (bytes : List ℕ) (len : ℕ) → bytes ≡ replicate len 0 → IsTable bytes
table_zeros bytes len z = subst (λ (b : List ℕ). IsTable b) (sym z) (zeros_are_table len)

pub absent_zeros : (bytes : List ℕ) (len : ℕ) (name : List ℕ) → bytes ≡ replicate len 0 → get (table_of bytes) name ≡ None
absent_zeros bytes len name z = ap (λ (b : List ℕ). get (table_of b) name) z ∙ ap (λ t. get t name) (zeros_are_empty len) ∙ get-empty (slice_cmp nat_cmp) name

free_zeros : (bytes : List ℕ) (len k : ℕ) → bytes ≡ replicate len 0 → k < count_of bytes → is_free (node_at bytes k) ≡ true
free_zeros bytes len k z lt = elim (cases_Bool (is_free (node_at bytes k))) [
  | inl y ↦ y
  | inr n ↦ absurd (
      let there = table_at bytes k (name_in (node_at bytes k)) (table_zeros bytes len z) (used_from bytes k lt n) refl in
      let none = absent_zeros bytes len (name_in (node_at bytes k)) z in
      let c : None ≡ Some (record { node = k; details = details_in (node_at bytes k) }) = sym none ∙ there in
      cc)
]

pub zeros_table : (image : Image) (len : ℕ) → ns_in image ≡ replicate len 0 → IsTable (ns_in image)
zeros_table image len z = table_zeros (ns_in image) len z

-- the bytes of `.ns` are as many as the file has
ns_long : (image : Image) (a : HasNamesAlone image) → length (ns_in image) ≡ a.names.0 * 1048576
ns_long image a = long_there image NS_FILE (a.names.0 * 1048576) a.names.3

-- `.ns` is as long as it was made
pub names_long : (i0 i1 i2 : Image) (len : ℕ) → ns_in i0 ≡ replicate len 0 → HasNamesAlone i0 → ((f : ℕ) → len_of i1 f ≡ len_of i0 f) → ((f : ℕ) → len_of i2 f ≡ len_of i1 f) → length (ns_in i2) ≡ len
names_long i0 i1 i2 len z a l1 l2 =
    let was = ns_long i0 a in
    let now = long_there i2 NS_FILE (a.names.0 * 1048576) (l2 NS_FILE ∙ l1 NS_FILE ∙ a.names.3) in
    let zeros = ap (λ (b : List ℕ). length b) z ∙ length-replicate len 0 in
    omega (arith, was, now, zeros)

pub zeros_room : (image : Image) (len : ℕ) → ns_in image ≡ replicate len 0 → HasNamesAlone image → count_by (λ n. is_free n) (nodes_of (ns_in image)) ≡ 0 → ⊥
zeros_room image len z a e =
    let many = many_nodes (ns_in image) a.names.0 a.names.1 (ns_long image a) in
    let there : 0 < count_of (ns_in image) = omega (arith, many) in
    some_free (ns_in image) 0 there (free_zeros (ns_in image) len 0 z there) e

-- a node is free once one is used
pub more_room : (old new : Image) (len node : ℕ) → ns_in old ≡ replicate len 0 → HasNamesAlone old → ((f : ℕ) → len_of new f ≡ len_of old f)
    → ((k : ℕ) → k < count_of (ns_in old) → k ≢ node → node_at (ns_in new) k ≡ node_at (ns_in old) k) → count_by (λ n. is_free n) (nodes_of (ns_in new)) ≡ 0 → ⊥
more_room old new len node z a lens others e = elim (cases_Bool (node == 0)) [
  | inl y ↦ at 1 (omega arith) (λ f. (let g = eqb-true node 0 y in omega (arith, f, g)))
  | inr n ↦ at 0 (omega arith) (λ f. false≢true (sym n ∙ eq-eqb node 0 (sym f)))
]
  where
    at : (k : ℕ) → k ≤ 1 → k ≢ node → ⊥
    at k le ne =
        let b = alone_kept old new a lens in
        let many = many_nodes (ns_in old) a.names.0 a.names.1 (ns_long old a) in
        let many' = many_nodes (ns_in new) b.names.0 b.names.1 (ns_long new b) in
        let lt : k < count_of (ns_in old) = omega (arith, many, le) in
        let lt' : k < count_of (ns_in new) = omega (arith, many', le) in
        some_free (ns_in new) k lt' (ap (λ (n : List ℕ). is_free n) (others k lt ne) ∙ free_zeros (ns_in old) len k z lt) e

-- ---- both names

two_names : (free indexes : List ℕ) → IsFreeName free → (IsFreeName indexes → ⊥) → is_name indexes free ≡ false
two_names free indexes named isnt = elim (cases_Bool (is_name indexes free)) [
  | inl y ↦ absurd (isnt (subst (λ (m : List ℕ). IsFreeName m) (sym (name_is indexes free y)) named))
  | inr n ↦ n
]

-- the second name isn't there after the first
pub second_absent : (old new free indexes : List ℕ) (a : Held) → (len : ℕ) → old ≡ replicate len 0 → table_of new ≡ insert (table_of old) free a → IsFreeName free → (IsFreeName indexes → ⊥) → get (table_of new) indexes ≡ None
second_absent old new free indexes a len z e named isnt =
    ap (λ t. get t indexes) e ∙ get-insert nat_list_cmp_total (table_of old) free a indexes ∙ ap (λ (b : Bool). cond b (Some a) (get (table_of old) indexes)) (two_names free indexes named isnt) ∙ absent_zeros old len indexes z

pub both_put : (b0 b1 b2 free indexes : List ℕ) (a b : Held) (len : ℕ) → b0 ≡ replicate len 0 → table_of b1 ≡ insert (table_of b0) free a → table_of b2 ≡ insert (table_of b1) indexes b → table_of b2 ≡ insert (insert empty free a) indexes b
both_put b0 b1 b2 free indexes a b len z e f = f ∙ ap (λ t. insert t indexes b) (e ∙ ap (λ t. insert t free a) (ap (λ (x : List ℕ). table_of x) z ∙ zeros_are_empty len))

module _ (image : Image) (free indexes : List ℕ) (a b : Held) (fa : IsFresh free a.details) (fb : IsFresh indexes b.details) (named : IsFreeName free) (isnt : IsFreeName indexes → ⊥)
    (table : table_of (ns_in image) ≡ insert (insert empty free a) indexes b) (kept : IsTable (ns_in image)) (files : FilesStand image) (unused : AreUnused image) where
  found : (m : List ℕ) → get (table_of (ns_in image)) m ≡ cond (is_name m indexes) (Some b) (cond (is_name m free) (Some a) None)
  found m =
      ap (λ t. get t m) table ∙ get-insert nat_list_cmp_total (insert empty free a) indexes b m
      ∙ ap (λ (o : Option Held). cond (is_name m indexes) (Some b) o) (get-insert nat_list_cmp_total empty free a m ∙ ap (λ (o : Option Held). cond (is_name m free) (Some a) o) (get-empty (slice_cmp nat_cmp) m))

  -- what a name has
  has_of : (m : List ℕ) (held : Held) (x y : Bool) → is_name m indexes ≡ x → is_name m free ≡ y → get (table_of (ns_in image)) m ≡ Some held → cond x (Some b) (cond y (Some a) None) ≡ Some held
  has_of m held x y e f g = sym (found m ∙ (λ i. cond (e i) (Some b) (cond (f i) (Some a) None))) ∙ g

  chain : HasFreeChain (ns_in image) free a
  chain = record {
    is = found free ∙ (λ i. cond (apart i) (Some b) (cond (name_own free free refl i) (Some a) None));
    named = named;
    only = λ m x g f. elim (cases_Bool (is_name m free)) [
      | inl y ↦ name_is m free y
      | inr n ↦ elim (cases_Bool (is_name m indexes)) [
        | inl y ↦ absurd (isnt (subst (λ (k : List ℕ). IsFreeName k) (name_is m indexes y) f))
        | inr k ↦ absurd (let z : None ≡ Some x = has_of m x false false k n g in cc)
      ]
    ];
  }
    where
      apart : is_name free indexes ≡ false
      apart = elim (cases_Bool (is_name free indexes)) [
        | inl y ↦ absurd (isnt (subst (λ (k : List ℕ). IsFreeName k) (name_is free indexes y) named))
        | inr n ↦ n
      ]

  bare : (m : List ℕ) (held : Held) → get (table_of (ns_in image)) m ≡ Some held → m ≢ free → IsFresh m held.details
  bare m held g ne = elim (cases_Bool (is_name m free)) [
    | inl y ↦ absurd (ne (name_is m free y))
    | inr n ↦ elim (cases_Bool (is_name m indexes)) [
      | inl y ↦
          let same : b ≡ held = one_held b held (has_of m held true false y n g) in
          subst (λ (h : Held). IsFresh m h.details) same (subst (λ (k : List ℕ). IsFresh k b.details) (sym (name_is m indexes y)) fb)
      | inr k ↦ absurd (let z : None ≡ Some held = has_of m held false false k n g in cc)
    ]
  ]

  pub is_new : IsNew image free
  is_new = (no_extents, (bare_stands image free kept unused bare files a chain fa.first fa.last, nothing))

-- ---- all steps

module _ (free indexes : List ℕ) (named : IsFreeName free) (isnt : IsFreeName indexes → ⊥) (len : ℕ) (i1 i2 i3 i4 : Image) (z : ns_in i1 ≡ replicate len 0) (n1 n2 : ℕ)
    (p1 : (d : Details) × (IsFresh free d × (table_of (ns_in i2) ≡ insert (table_of (ns_in i1)) free (record { node = n1; details = d }))))
    (p2 : (d : Details) × (IsFresh indexes d × (table_of (ns_in i3) ≡ insert (table_of (ns_in i2)) indexes (record { node = n2; details = d }))))
    (kept : IsTable (ns_in i3)) (ns : ns_in i4 ≡ ns_in i3) where
  abbrev pub held_1 : Held
  held_1 = record { node = n1; details = p1.0 }

  abbrev pub held_2 : Held
  held_2 = record { node = n2; details = p2.0 }

  pub setup_table : table_of (ns_in i4) ≡ insert (insert empty free (record { node = n1; details = p1.0 })) indexes (record { node = n2; details = p2.0 })
  setup_table = ap (λ (b : List ℕ). table_of b) ns ∙ both_put (ns_in i1) (ns_in i2) (ns_in i3) free indexes held_1 held_2 len z p1.1.1 p2.1.1

  pub setup_new : FilesStand i4 → AreUnused i4 → IsNew i4 free
  setup_new files unused = is_new i4 free indexes held_1 held_2 p1.1.0 p2.1.0 named isnt setup_table (subst (λ (b : List ℕ). IsTable b) (sym ns) kept) files unused
