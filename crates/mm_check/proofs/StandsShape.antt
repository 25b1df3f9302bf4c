-- Where files stand in some shape, it is the one that the walks find.
use Rattle.std.proofs.Common.{◌≡◌, ◌≢◌, ℕ, zero, suc, ℤ, pos, ◌+◌, ◌-◌, ◌≤◌, ◌<◌, ◌⊎◌, inl, inr, Bool, true, false, List, [], ◌∷◌, ◌++◌, length, map, take, drop, get_or, Option, Some, None, refl, sym, ◌∙◌, ap, subst, arith}
use Rattle.std.specs.Prelude.{flat_map}
use Rattle.std.specs.List.{range_with_len}
use Rattle.std.specs.Option.{option_map}
use Rattle.std.proofs.lemmas.List.{length-map}
use Rattle.std.proofs.lemmas.List.FromFn.{get_or-map-range_with_len}
use Rattle.std.proofs.lemmas.Bool.{cases_Bool, cases_lt, false≢true}
use Rattle.mm_base.specs.Bytes.{part}
use Rattle.mm_base.specs.declared.place.DiskLoc.{DiskLoc}
use Rattle.mm_ranges.specs.Overlay.{Image, bytes_at}
use Rattle.mm_frames.specs.Texts.{text_in}
use Rattle.mm_frames.specs.declared.extent_header.ExtentHeader.{ExtentHeader}
use Rattle.mm_frames.specs.declared.rec_header.RecHeader.{RecHeader}
use Rattle.mm_frames.specs.declared.deleted_header.DeletedHeader.{DeletedHeader}
use Rattle.mm_links.specs.Links.{Place, same, has}
use Rattle.mm_links.proofs.LinkLaws.{same_is, same_own, has_here, has_there}
use Rattle.mm_extents.specs.Heap.{Cell, extent, live, deleted}
use Rattle.mm_extents.specs.Tiling.{an_extent, a_block, outline, ground}
use Rattle.mm_records.specs.Constants.{is_name}
use Rattle.mm_records.specs.Shape.{Shape}
use Rattle.mm_records.proofs.Numbers.{list_low}
use Rattle.mm_records.proofs.Freed.{name_own}
use Rattle.mm_records.proofs.Owning.{extent_there}
use Rattle.mm_walk.specs.Walk.{AreWhole, seen_after}
use Rattle.mm_walk.proofs.WalkLaws.{all_whole_is_one}
use Rattle.mm_check.specs.BlockQuestions.{block_len}
use Rattle.mm_check.specs.NodeQuestions.{free_name}
use Rattle.mm_check.specs.Findings.{joined, nodes_in, name_of, Owner, owners_of, owners, file_chains, extent_chains, record_chains, list_chains, Clear3, Clear9}
use Rattle.mm_check.specs.FoundShape.{beside, found_heap, chain_named}
use Rattle.mm_check.specs.Standing.{HasShape, list_named, found_shape, IsSameShape}
use Rattle.mm_check.proofs.RecordLaws.{if_yes, if_no}
use Rattle.mm_check.proofs.Lookups.{beside_none, extent_found, record_found, block_found}
use Rattle.mm_check.proofs.NodeOwners.{Owns, Apart, node_owner, owners_apart, nodes_differ, owner_named, chain_own, chain_none}
use Rattle.mm_check.proofs.OwnedLists.{list_none, list_high}
use Rattle.mm_check.proofs.StandsChains.{all_found, three, in_all, own_header, chains_whole, on_node}
use Rattle.mm_check.proofs.StandsBlocks.{mapped_owner, owner_at, os_apart, extent_in, live_at, in_lists, six, seven}
use Rattle.mm_check.proofs.StandsClear.{live_long, deleted_long, live_found, deleted_found, nine}

no_true : (b : Bool) → (b ≡ true → ⊥) → b ≡ false
no_true true f = absurd (f refl)
no_true false f = refl

nil_of : (xs : List Place) → ((p : Place) → has xs p ≡ true → ⊥) → xs ≡ []
nil_of [] f = refl
nil_of (x ∷ xs) f = absurd (f x (has_here x xs x (same_own x)))

same_pos : (m n : ℕ) → pos m ≡ pos n → m ≡ n
same_pos m n e = cc

same_name : (m1 : ℕ) (d1 : DiskLoc) (n1 : List ℕ) (z1 : ℤ) (m2 : ℕ) (d2 : DiskLoc) (n2 : List ℕ) (z2 : ℤ) → Some (an_extent m1 d1 n1 z1) ≡ Some (an_extent m2 d2 n2 z2) → n1 ≡ n2
same_name m1 d1 n1 z1 m2 d2 n2 z2 f = cc

same_text : (h g : ExtentHeader) → Some (extent h) ≡ Some (extent g) → text_in h.namespace ≡ text_in g.namespace
same_text h g e = let f : h ≡ g = cc in ap (λ (x : ExtentHeader). text_in x.namespace) f

beside_map : (f : Place → List Place) (xs : List Place) (e : Place) → has xs e ≡ true → beside xs (map f xs) e ≡ f e
beside_map f [] e h = absurd (false≢true h)
beside_map f (x ∷ xs) e h = elim (cases_Bool (same x e)) [
  | inl y ↦ if_yes (same x e) (f x) (beside xs (map f xs) e) y ∙ ap f (same_is x e y)
  | inr n ↦ if_no (same x e) (f x) (beside xs (map f xs) e) n ∙ beside_map f xs e (sym (has_there x xs e n) ∙ h)
]

take_front : (n : ℕ) (xs ys : List (List Place)) → length xs ≡ n → take n (xs ++ ys) ≡ xs
take_front zero [] ys e = refl
take_front zero (x ∷ xs) ys e = absurd (omega (arith, e))
take_front (suc n) [] ys e = absurd (omega (arith, e))
take_front (suc n) (x ∷ xs) ys e = ap (λ (qs : List (List Place)). x ∷ qs) (take_front n xs ys (omega (arith, e)))

drop_front : (n : ℕ) (xs ys : List (List Place)) → length xs ≡ n → drop n (xs ++ ys) ≡ ys
drop_front zero [] ys e = refl
drop_front zero (x ∷ xs) ys e = absurd (omega (arith, e))
drop_front (suc n) [] ys e = absurd (omega (arith, e))
drop_front (suc n) (x ∷ xs) ys e = drop_front n xs ys (omega (arith, e))

module _ (d : List ℕ) (image : Image) (s : Shape) (st : HasShape d image s) where
  abbrev chain_of : ℕ → List Place
  chain_of k = s.extents (name_of image k)

  abbrev chains : List (List Place)
  chains = map (λ k. s.extents (name_of image k)) (nodes_in image)

  abbrev os : List Owner
  os = owners d image (map (λ k. s.extents (name_of image k)) (nodes_in image))

  abbrev es : List Place
  es = flat_map (λ o. o.extents) (owners d image (map (λ k. s.extents (name_of image k)) (nodes_in image)))

  abbrev records : List (List Place)
  records = map s.records (flat_map (λ o. o.extents) (owners d image (map (λ k. s.extents (name_of image k)) (nodes_in image))))

  abbrev lists_in : Owner → List (List Place)
  lists_in o = map (s.lists (name_of image o.node)) (range_with_len 0 19)

  abbrev blocks : List (List Place)
  blocks = flat_map (λ o. map (s.lists (name_of image o.node)) (range_with_len 0 19)) (owners d image (map (λ k. s.extents (name_of image k)) (nodes_in image)))

  abbrev all : List Place
  all = joined (all_found d image s st).pss

  abbrev heap : Place → Option Cell
  heap = found_heap image all (joined records) (joined blocks)

  -- ---- the extent of a block

  record Home (p : Place) (x : ℤ) : Type 0 where
    a : ℕ
    names : x ≡ pos a
    h : ExtentHeader
    is : s.heap (p.0, a) ≡ Some (extent h)
    isnt_free : text_in h.namespace ≢ free_name d

  home : (p : Place) (x y : ℤ) (n : ℕ) → ground s.heap p ≡ Some (a_block x y n) → Home p x
  home p x y n g =
      let t = st.stands.tiled.blocks p.0 p.1 n x y g in
      let k = t.1.1.of_extent in
      let u = extent_there (s.heap (p.0, t.0)) k.magic k.here k.name (pos t.1.0) k.is in
      let named : u.0.namespace ≡ k.name = same_name _ _ _ _ _ _ _ _ (sym (ap (λ (o : Option Cell). option_map outline o) u.1) ∙ k.is) in
      record { a = t.0; names = t.1.1.extent_place; h = u.0; is = u.1; isnt_free = λ f. k.isnt_free (ap text_in (sym named) ∙ f) }

  -- ---- what stands at a place

  isnt_extent : (p : Place) (o : Option Cell) → s.heap p ≡ o → ((h : ExtentHeader) → o ≡ Some (extent h) → ⊥) → has all p ≡ false
  isnt_extent p o e f = no_true _ (λ i. let t = (all_found d image s st).each p i in f t.0 (sym e ∙ t.1))

  isnt_live : (p : Place) (o : Option Cell) → s.heap p ≡ o → ((h : RecHeader) (room : List ℕ) → o ≡ Some (live h room) → ⊥) → has (joined records) p ≡ false
  isnt_live p o e f = no_true _ (λ i. let t = live_at d image s st es p i in f t.0 t.1 (sym e ∙ t.2))

  isnt_deleted : (p : Place) (o : Option Cell) → s.heap p ≡ o → ((h : DeletedHeader) (rest : List ℕ) → o ≡ Some (deleted h rest) → ⊥) → has (joined blocks) p ≡ false
  isnt_deleted p o e f = no_true _ (λ i. let t = in_lists d image s st os p i in let x = st.stands.lists.on_list (name_of image t.0.node) t.2 p t.3 in f x.h x.rest (sym e ∙ x.there))

  same_at : (p : Place) (o : Option Cell) → s.heap p ≡ o → heap p ≡ o
  same_at p None e =
      if_no _ _ _ (isnt_extent p None e (λ h f. cc)) ∙ if_no _ _ _ (isnt_live p None e (λ h r f. cc)) ∙ if_no _ _ _ (isnt_deleted p None e (λ h r f. cc))
  same_at p (Some (extent h)) e = extent_found image all (joined records) (joined blocks) p (in_all d image s st p h e) ∙ ap (λ (x : ExtentHeader). Some (extent x)) (own_header d image s st p h e)
  same_at p (Some (live h room)) e =
      let g : ground s.heap p ≡ Some (a_block h.extent_ofs h.length_with_headers (16 + length room)) = ap (λ (o : Option Cell). option_map outline o) e in
      let k = home p h.extent_ofs h.length_with_headers (16 + length room) g in
      let i = live_found d image s st (p.0, k.a) p h room (extent_in d image s st (p.0, k.a) k.h k.is k.isnt_free) refl k.names e in
      let z = st.stands.heap.shown p (live h room) e in
      let l = live_long d image s st p h room e in
      let m : block_len image p - 16 ≡ length room = omega (arith, l) in
      record_found image all (joined records) (joined blocks) p (isnt_extent p (Some (live h room)) e (λ x f. cc)) i
      ∙ (λ j. Some (live (z.0 j) ((ap (λ (n : ℕ). part (p.1 + 16) n (bytes_at image p.0)) m ∙ z.1) j)))
  same_at p (Some (deleted h rest)) e =
      let g : ground s.heap p ≡ Some (a_block h.extent_ofs h.length_with_headers (16 + length rest)) = ap (λ (o : Option Cell). option_map outline o) e in
      let k = home p h.extent_ofs h.length_with_headers (16 + length rest) g in
      let i = deleted_found d image s st (p.0, k.a) p h rest (extent_in d image s st (p.0, k.a) k.h k.is k.isnt_free) refl k.names e in
      let z = st.stands.heap.shown p (deleted h rest) e in
      let l = deleted_long d image s st p h rest e in
      let m : block_len image p - 16 ≡ length rest = omega (arith, l) in
      block_found image all (joined records) (joined blocks) p (isnt_extent p (Some (deleted h rest)) e (λ x f. cc)) (isnt_live p (Some (deleted h rest)) e (λ x r f. cc)) i
      ∙ (λ j. Some (deleted (z.0 j) ((ap (λ (n : ℕ). part (p.1 + 16) n (bytes_at image p.0)) m ∙ z.1) j)))

  -- ---- chains

  same_extents : (name : List ℕ) → chain_named image (owners_of (nodes_in image) chains) name ≡ s.extents name
  same_extents name = by (owner_named image (owners_of (nodes_in image) chains) name)
    where
      by : ((o : Owner) × Owns o (owners_of (nodes_in image) chains) × (name_of image o.node ≡ name)) ⊎ ((o : Owner) → Owns o (owners_of (nodes_in image) chains) → is_name (name_of image o.node) name ≡ false) → chain_named image (owners_of (nodes_in image) chains) name ≡ s.extents name
      by (inl t) =
          ap (chain_named image (owners_of (nodes_in image) chains)) (sym t.2) ∙ chain_own image (owners_of (nodes_in image) chains) t.0 (owners_apart image (nodes_in image) chains (nodes_differ image st.nodes.table.apart)) t.1
          ∙ mapped_owner chain_of (nodes_in image) t.0 t.1 ∙ ap s.extents t.2
      by (inr f) = chain_none image (owners_of (nodes_in image) chains) name f ∙ sym (nil_of (s.extents name) (λ p h.
          let x = st.stands.extents.on_chain name p h in
          let n = on_node d image s st p x.0 x.1 in
          let o = node_owner (nodes_in image) chains n.0 (sym (length-map (nodes_in image) chain_of)) n.1 in
          false≢true (sym (f o.0 o.1) ∙ name_own _ _ (ap (name_of image) o.2 ∙ n.2 ∙ x.2))))

  same_records : (e : Place) → beside es records e ≡ s.records e
  same_records e = elim (cases_Bool (has es e)) [
    | inl y ↦ beside_map s.records es e y
    | inr n ↦ beside_none es records e n ∙ sym (nil_of (s.records e) (λ p h.
        let x = st.stands.records.on_chain e p h in
        let k = home p x.h.extent_ofs x.h.length_with_headers (16 + length x.room) (ap (λ (o : Option Cell). option_map outline o) x.there) in
        let l : k.a ≡ e.1 = same_pos k.a e.1 (sym k.names ∙ x.of_extent) in
        let f = x.file in
        let at : (p.0, k.a) ≡ e = (λ j. (f j, l j)) in
        false≢true (sym n ∙ ap (has es) (sym at) ∙ extent_in d image s st (p.0, k.a) k.h k.is k.isnt_free)))
  ]

  -- ---- lists

  own_list : (xs : List Owner) (o : Owner) (i : ℕ) → Apart image xs → Owns o xs → i < 19 → list_named image xs (flat_map lists_in xs) (name_of image o.node) i ≡ s.lists (name_of image o.node) i
  own_list [] o i a own lt = absurd own
  own_list (x ∷ xs) o i a (inl e) lt =
      if_yes (is_name (name_of image x.node) (name_of image o.node)) (get_or (take 19 (lists_in x ++ flat_map lists_in xs)) i []) (list_named image xs (drop 19 (lists_in x ++ flat_map lists_in xs)) (name_of image o.node) i) (name_own _ _ (ap (λ (y : Owner). name_of image y.node) (sym e)))
      ∙ ap (λ (qs : List (List Place)). get_or qs i []) (take_front 19 (lists_in x) (flat_map lists_in xs) refl)
      ∙ get_or-map-range_with_len (s.lists (name_of image x.node)) 0 19 i i [] (omega (arith, lt)) (omega arith)
      ∙ ap (λ (y : Owner). s.lists (name_of image y.node) i) (sym e)
  own_list (x ∷ xs) o i a (inr j) lt =
      if_no (is_name (name_of image x.node) (name_of image o.node)) (get_or (take 19 (lists_in x ++ flat_map lists_in xs)) i []) (list_named image xs (drop 19 (lists_in x ++ flat_map lists_in xs)) (name_of image o.node) i) (a.0 o j)
      ∙ ap (λ (qs : List (List Place)). list_named image xs qs (name_of image o.node) i) (drop_front 19 (lists_in x) (flat_map lists_in xs) refl)
      ∙ own_list xs o i a.1 j lt

  same_lists : (name : List ℕ) (i : ℕ) → list_named image os blocks name i ≡ s.lists name i
  same_lists name i = by (cases_lt i 19) (owner_named image os name)
    where
      by : (i < 19) ⊎ (19 ≤ i) → ((o : Owner) × Owns o os × (name_of image o.node ≡ name)) ⊎ ((o : Owner) → Owns o os → is_name (name_of image o.node) name ≡ false) → list_named image os blocks name i ≡ s.lists name i
      by (inl lt) (inl t) = ap (λ (m : List ℕ). list_named image os blocks m i) (sym t.2) ∙ own_list os t.0 i (os_apart d image s st) t.1 lt ∙ ap (λ (m : List ℕ). s.lists m i) t.2
      by (inl lt) (inr f) = list_none image os blocks name i f ∙ sym (nil_of (s.lists name i) (λ p h.
          let x = st.stands.lists.on_list name i p h in
          let u = x.of_extent in
          let k = home p x.h.extent_ofs x.h.length_with_headers (16 + length x.rest) (ap (λ (o : Option Cell). option_map outline o) x.there) in
          let l : k.a ≡ u.0 = same_pos k.a u.0 (sym k.names ∙ u.2) in
          let same_h : Some (extent k.h) ≡ Some (extent u.1) = sym k.is ∙ ap (λ (n : ℕ). s.heap (p.0, n)) l ∙ u.3 in
          let o = owner_at d image s st (p.0, k.a) k.h k.is k.isnt_free in
          false≢true (sym (f o.0 o.1) ∙ name_own _ _ (o.2 ∙ same_text k.h u.1 same_h ∙ u.4))))
      by (inr ge) x = list_high image os blocks name i ge ∙ sym (nil_of (s.lists name i) (λ p h.
          let x = st.stands.lists.on_list name i p h in
          let low = list_low (16 + length x.rest) in let r = x.right_list in
          omega (arith, low, r, ge)))

  own_shape : IsSameShape s (found_shape d image (all_found d image s st).pss chains records blocks)
  own_shape = record { heap = λ p. same_at p (s.heap p) refl; extents = same_extents; records = same_records; lists = same_lists }

  -- ---- what the walks find is one

  pub shape_is_found : (found cs rs bs : List (List Place)) → Clear3 d image found → Clear9 d image cs rs bs → IsSameShape s (found_shape d image found cs rs bs)
  shape_is_found found cs rs bs x c =
      let mine = nine d image s st in
      let c5 = c.before.before.before.before in
      let f : (all_found d image s st).pss ≡ found = all_whole_is_one [] (file_chains image) (all_found d image s st).pss found (three d image s st).whole x.whole in
      let g : (all_found d image s st).pss ≡ c5.found = all_whole_is_one [] (file_chains image) (all_found d image s st).pss c5.found (three d image s st).whole c5.before.whole in
      let e1 : chains ≡ cs = all_whole_is_one [] (extent_chains image (joined c5.found)) chains cs (subst (λ (h : List (List Place)). AreWhole [] (extent_chains image (joined h)) chains) g (chains_whole d image s st)) c5.whole in
      let e2 : records ≡ rs = all_whole_is_one [] (record_chains image (owners d image cs)) records rs (subst (λ (h : List (List Place)). AreWhole [] (record_chains image (owners d image h)) records) e1 (six d image s st).whole) c.before.before.before.whole in
      let w = subst (λ (q : List (List Place)). AreWhole (seen_after [] q) (list_chains image (owners d image chains)) blocks) e2 (seven d image s st).whole in
      let e3 : blocks ≡ bs = all_whole_is_one (seen_after [] rs) (list_chains image (owners d image cs)) blocks bs (subst (λ (h : List (List Place)). AreWhole (seen_after [] rs) (list_chains image (owners d image h)) blocks) e1 w) c.before.before.whole in
      subst (λ (q : List (List Place)). IsSameShape s (found_shape d image q cs rs bs)) f
      (subst (λ (q : List (List Place)). IsSameShape s (found_shape d image (all_found d image s st).pss q rs bs)) e1
      (subst (λ (q : List (List Place)). IsSameShape s (found_shape d image (all_found d image s st).pss chains q bs)) e2
      (subst (λ (q : List (List Place)). IsSameShape s (found_shape d image (all_found d image s st).pss chains records q)) e3 own_shape)))

-- so the files have one shape alone
pub one_shape : (d : List ℕ) (image : Image) (s t : Shape) → HasShape d image s → HasShape d image t → IsSameShape s t
one_shape d image s t x y =
    let c = nine d image s x in
    let a = shape_is_found d image s x (all_found d image s x).pss _ _ _ (three d image s x) c in
    let b = shape_is_found d image t y (all_found d image s x).pss _ _ _ (three d image s x) c in
    record {
      heap = λ p. sym (b.heap p) ∙ a.heap p;
      extents = λ name. sym (b.extents name) ∙ a.extents name;
      records = λ e. sym (b.records e) ∙ a.records e;
      lists = λ name i. sym (b.lists name i) ∙ a.lists name i;
    }
