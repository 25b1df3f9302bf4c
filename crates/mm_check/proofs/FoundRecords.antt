-- The live records that phase 6 finds are as its law asks.
use Rattle.std.proofs.Common.{◌≡◌, ◌≢◌, ℕ, ℤ, pos, ◌+◌, ◌≤◌, inl, inr, Bool, true, false, List, [], ◌∷◌, ◌++◌, map, Option, Some, None, refl, sym, ◌∙◌, ap, subst, arith}
use Rattle.std.specs.Prelude.{◌&&◌, if◌then◌else◌, flat_map}
use Rattle.std.specs.Option.{option_map}
use Rattle.std.proofs.lemmas.Bool.{cases_Bool, false≢true}
use Rattle.mm_ranges.specs.Overlay.{Image}
use Rattle.mm_frames.specs.Texts.{text_in}
use Rattle.mm_frames.specs.declared.extent_header.ExtentHeader.{ExtentHeader}
use Rattle.mm_frames.specs.declared.rec_header.RecHeader.{RecHeader}
use Rattle.mm_links.specs.Links.{Place, same, has, once}
use Rattle.mm_links.proofs.LinkLaws.{both, same_is, has_there}
use Rattle.mm_extents.specs.Heap.{Heap, Cell, extent, live, deleted}
use Rattle.mm_extents.specs.Tiling.{an_extent, outline, ground}
use Rattle.mm_extents.specs.Files.{unused_in}
use Rattle.mm_records.specs.Constants.{is_name}
use Rattle.mm_records.proofs.Freed.{name_own, name_is}
use Rattle.mm_walk.specs.Walk.{Reading, IsWhole, AreWhole}
use Rattle.mm_check.specs.RecordChain.{rec_at, IsRecordAt, is_record, names_ofs, place_link, names_place, records_reading, RecordsFound}
use Rattle.mm_check.specs.ListChain.{del_at}
use Rattle.mm_check.specs.ExtentChain.{ext_at, ext_size, chain_reading}
use Rattle.mm_check.specs.NodeQuestions.{free_name, node_place}
use Rattle.mm_check.specs.Findings.{joined, nodes_in, field_of, name_of, details_at, Owner, owners_of, without_free, owners, extent_chains, Clear6}
use Rattle.mm_check.specs.FoundShape.{beside, room_at, found_heap}
use Rattle.mm_check.proofs.RecordLaws.{if_yes, if_no, record_of_test}
use Rattle.mm_check.proofs.PhaseBack.{has_either, once_append}
use Rattle.mm_check.proofs.ExtentLaws.{named_of_leads}
use Rattle.mm_check.proofs.Lookups.{beside_none, in_beside, beside_in, extent_found, record_found}
use Rattle.mm_check.proofs.Insides.{has_in, inside_owners, chained_there, extent_long}
use Rattle.mm_check.proofs.CheckLaws.{joined_once, read_of_leads, apart_of, once_right}
use Rattle.mm_check.proofs.FoundExtents.{extent_only, on_chains}
use Rattle.mm_check.proofs.FoundAreas.{areas_found}
use Rattle.mm_check.proofs.AreaLaws.{extents_apart}
use Rattle.mm_walk.proofs.WalkLaws.{once_left}

-- what was seen before the chain beside a place
abbrev pub seen_beside : List Place → List (List Place) → List Place → Place → List Place
seen_beside [] pss seen e = seen
seen_beside (x ∷ xs) [] seen e = seen
seen_beside (x ∷ xs) (ps ∷ pss) seen e = if same x e then seen else seen_beside xs pss (ps ++ seen) e

pub chain_beside : (reading : Place → Reading) (es : List Place) (pss : List (List Place)) (seen : List Place) (e : Place) → AreWhole seen (map reading es) pss → has es e ≡ true → IsWhole (reading e) (seen_beside es pss seen e) (beside es pss e)
chain_beside reading [] pss seen e a h = absurd (false≢true h)
chain_beside reading (x ∷ xs) [] seen e a h = absurd a
chain_beside reading (x ∷ xs) (ps ∷ pss) seen e a h = elim (cases_Bool (same x e)) [
  | inl y ↦
      let b : beside (x ∷ xs) (ps ∷ pss) e ≡ ps = if_yes (same x e) ps (beside xs pss e) y in
      let s : seen_beside (x ∷ xs) (ps ∷ pss) seen e ≡ seen = if_yes (same x e) seen (seen_beside xs pss (ps ++ seen) e) y in
      subst (λ (qs : List Place). IsWhole (reading e) (seen_beside (x ∷ xs) (ps ∷ pss) seen e) qs) (sym b) (subst (λ (qs : List Place). IsWhole (reading e) qs ps) (sym s) (subst (λ (z : Place). IsWhole (reading z) seen ps) (same_is x e y) a.0))
  | inr n ↦
      let b : beside (x ∷ xs) (ps ∷ pss) e ≡ beside xs pss e = if_no (same x e) ps (beside xs pss e) n in
      let s : seen_beside (x ∷ xs) (ps ∷ pss) seen e ≡ seen_beside xs pss (ps ++ seen) e = if_no (same x e) seen (seen_beside xs pss (ps ++ seen) e) n in
      subst (λ (qs : List Place). IsWhole (reading e) (seen_beside (x ∷ xs) (ps ∷ pss) seen e) qs) (sym b) (subst (λ (qs : List Place). IsWhole (reading e) qs (beside xs pss e)) (sym s) (chain_beside reading xs pss (ps ++ seen) e a.1 (sym (has_there x xs e n) ∙ h)))
]

-- ---- the extents of namespaces

module _ (d : List ℕ) (image : Image) (all : List Place) where
  abbrev reading : ℕ → Reading
  reading k = chain_reading image all (field_of image k) (node_place k) (details_at image k).first_extent (details_at image k).last_extent

  abbrev extents_of : List ℕ → List (List Place) → List Place
  extents_of ks pss = flat_map (λ o. o.extents) (without_free d image (owners_of ks pss))

  -- an extent on a chain whose name isn't that of the free chain is kept
  pub kept_extent : (ks : List ℕ) (pss : List (List Place)) (seen : List Place) (p : Place) → AreWhole seen (map reading ks) pss → has (joined pss) p ≡ true → is_name (text_in (ext_at image p).namespace) (free_name d) ≡ false → has (extents_of ks pss) p ≡ true
  kept_extent [] [] seen p a h n = absurd (false≢true h)
  kept_extent [] (ps ∷ pss) seen p a h n = absurd a
  kept_extent (k ∷ ks) [] seen p a h n = absurd a
  kept_extent (k ∷ ks) (ps ∷ pss) seen p a h n = elim (has_either ps (joined pss) p h) [
    | inl i ↦
        let x = named_of_leads image all (field_of image k) (node_place k) (details_at image k).first_extent (details_at image k).last_extent None _ ps p a.0.followed.leads i in
        let own : is_name (name_of image k) (free_name d) ≡ false = sym (ap (λ (field : List ℕ). is_name (text_in field) (free_name d)) x.named) ∙ n in
        ap (λ (os : List Owner). has (flat_map (λ o. o.extents) os) p) (if_no (is_name (name_of image k) (free_name d)) (without_free d image (owners_of ks pss)) (record { node = k; extents = ps } ∷ without_free d image (owners_of ks pss)) own)
        ∙ has_in ps (extents_of ks pss) p (inl i)
    | inr j ↦
        let t = kept_extent ks pss (ps ++ seen) p a.1 j n in
        elim (cases_Bool (is_name (name_of image k) (free_name d))) [
          | inl y ↦ ap (λ (os : List Owner). has (flat_map (λ o. o.extents) os) p) (if_yes (is_name (name_of image k) (free_name d)) (without_free d image (owners_of ks pss)) (record { node = k; extents = ps } ∷ without_free d image (owners_of ks pss)) y) ∙ t
          | inr m ↦ ap (λ (os : List Owner). has (flat_map (λ o. o.extents) os) p) (if_no (is_name (name_of image k) (free_name d)) (without_free d image (owners_of ks pss)) (record { node = k; extents = ps } ∷ without_free d image (owners_of ks pss)) m) ∙ has_in ps (extents_of ks pss) p (inr t)
        ]
  ]

  -- and its name isn't that
  pub kept_isnt_free : (ks : List ℕ) (pss : List (List Place)) (seen : List Place) (p : Place) → AreWhole seen (map reading ks) pss → has (extents_of ks pss) p ≡ true → text_in (ext_at image p).namespace ≢ free_name d
  kept_isnt_free [] pss seen p a h e = false≢true h
  kept_isnt_free (k ∷ ks) [] seen p a h e = a
  kept_isnt_free (k ∷ ks) (ps ∷ pss) seen p a h e = elim (cases_Bool (is_name (name_of image k) (free_name d))) [
    | inl y ↦ kept_isnt_free ks pss (ps ++ seen) p a.1 (sym (ap (λ (os : List Owner). has (flat_map (λ o. o.extents) os) p) (if_yes (is_name (name_of image k) (free_name d)) (without_free d image (owners_of ks pss)) (record { node = k; extents = ps } ∷ without_free d image (owners_of ks pss)) y)) ∙ h) e
    | inr m ↦ elim (has_either ps (extents_of ks pss) p (sym (ap (λ (os : List Owner). has (flat_map (λ o. o.extents) os) p) (if_no (is_name (name_of image k) (free_name d)) (without_free d image (owners_of ks pss)) (record { node = k; extents = ps } ∷ without_free d image (owners_of ks pss)) m)) ∙ h)) [
      | inl i ↦
          let x = named_of_leads image all (field_of image k) (node_place k) (details_at image k).first_extent (details_at image k).last_extent None _ ps p a.0.followed.leads i in
          false≢true (sym m ∙ name_own (name_of image k) (free_name d) (sym (ap text_in x.named) ∙ e))
      | inr j ↦ kept_isnt_free ks pss (ps ++ seen) p a.1 j e
    ]
  ]

  kept_joined : (ks : List ℕ) (pss : List (List Place)) (p : Place) → has (extents_of ks pss) p ≡ true → has (joined pss) p ≡ true
  kept_joined [] pss p h = absurd (false≢true h)
  kept_joined (k ∷ ks) [] p h = absurd (false≢true h)
  kept_joined (k ∷ ks) (ps ∷ pss) p h = elim (cases_Bool (is_name (name_of image k) (free_name d))) [
    | inl y ↦ has_in ps (joined pss) p (inr (kept_joined ks pss p (sym (ap (λ (os : List Owner). has (flat_map (λ o. o.extents) os) p) (if_yes (is_name (name_of image k) (free_name d)) (without_free d image (owners_of ks pss)) (record { node = k; extents = ps } ∷ without_free d image (owners_of ks pss)) y)) ∙ h)))
    | inr m ↦ elim (has_either ps (extents_of ks pss) p (sym (ap (λ (os : List Owner). has (flat_map (λ o. o.extents) os) p) (if_no (is_name (name_of image k) (free_name d)) (without_free d image (owners_of ks pss)) (record { node = k; extents = ps } ∷ without_free d image (owners_of ks pss)) m)) ∙ h)) [
      | inl i ↦ has_in ps (joined pss) p (inl i)
      | inr j ↦ has_in ps (joined pss) p (inr (kept_joined ks pss p j))
    ]
  ]

  pub kept_once : (ks : List ℕ) (pss : List (List Place)) → once (joined pss) ≡ true → once (extents_of ks pss) ≡ true
  kept_once [] pss o = refl
  kept_once (k ∷ ks) [] o = refl
  kept_once (k ∷ ks) (ps ∷ pss) o =
      let rest = kept_once ks pss (once_right ps (joined pss) o) in
      elim (cases_Bool (is_name (name_of image k) (free_name d))) [
        | inl y ↦ ap (λ (os : List Owner). once (flat_map (λ o. o.extents) os)) (if_yes (is_name (name_of image k) (free_name d)) (without_free d image (owners_of ks pss)) (record { node = k; extents = ps } ∷ without_free d image (owners_of ks pss)) y) ∙ rest
        | inr m ↦
            ap (λ (os : List Owner). once (flat_map (λ o. o.extents) os)) (if_no (is_name (name_of image k) (free_name d)) (without_free d image (owners_of ks pss)) (record { node = k; extents = ps } ∷ without_free d image (owners_of ks pss)) m)
            ∙ once_append ps (extents_of ks pss) (once_left ps (joined pss) o) rest (λ p i j. apart_of ps (joined pss) p o i (kept_joined ks pss p j))
      ]

-- ---- the records of the shape

same_extent : (h g : ExtentHeader) → Some (extent h) ≡ Some (extent g) → h ≡ g
same_extent h g e = cc

no_true : (b : Bool) → (b ≡ true → ⊥) → b ≡ false
no_true true f = absurd (f refl)
no_true false f = refl

module _ (d : List ℕ) (image : Image) (chains records : List (List Place)) (c : Clear6 d image chains records) (blks : List Place) where
  abbrev es : List Place
  es = flat_map (λ o. o.extents) (owners d image chains)

  abbrev heap : Heap
  heap = found_heap image (joined c.before.found) (joined records) blks

  pub es_once : once (flat_map (λ o. o.extents) (owners d image chains)) ≡ true
  es_once = kept_once d image (joined c.before.found) (nodes_in image) chains (joined_once [] (extent_chains image (joined c.before.found)) chains c.before.whole)

  -- an extent of the heap whose name isn't that of the free chain is one whose blocks are looked at
  pub in_es : (e : Place) (h : ExtentHeader) → found_heap image (joined c.before.found) (joined records) blks e ≡ Some (extent h) → text_in h.namespace ≢ free_name d → (has (flat_map (λ o. o.extents) (owners d image chains)) e ≡ true) × (h ≡ ext_at image e)
  in_es e h is isnt =
      let a = extent_only d image chains c.before (joined records) blks e h is in
      let own : h ≡ ext_at image e = same_extent h (ext_at image e) (sym is ∙ extent_found image (joined c.before.found) (joined records) blks e a) in (
        kept_extent d image (joined c.before.found) (nodes_in image) chains [] e c.before.whole (on_chains d image chains c.before (joined records) blks e a)
            (no_true _ (λ t. isnt (ap (λ (x : ExtentHeader). text_in x.namespace) own ∙ name_is _ _ t))),
        own,
      )

  right_at : (e p : Place) → has (beside (flat_map (λ o. o.extents) (owners d image chains)) records e) p ≡ true → (has (flat_map (λ o. o.extents) (owners d image chains)) e ≡ true) × IsRecordAt image e (ext_size image e) p
  right_at e p h = elim (cases_Bool (has (flat_map (λ o. o.extents) (owners d image chains)) e)) [
    | inl y ↦
        let w = chain_beside (λ x. records_reading image x (ext_size image x) (ext_at image x).first_record (ext_at image x).last_record) (flat_map (λ o. o.extents) (owners d image chains)) records [] e c.whole y in
        let t = read_of_leads (records_reading image e (ext_size image e) (ext_at image e).first_record (ext_at image e).last_record) None _ (beside (flat_map (λ o. o.extents) (owners d image chains)) records e) p w.followed.leads h in (
          y,
          elim (cases_Bool (is_record image e (ext_size image e) p && names_ofs (rec_at image p).prev_ofs t.0)) [
            | inl z ↦ record_of_test image e (ext_size image e) p (both _ _ z).0
            | inr n ↦ absurd (let f : None ≡ Some t.1 = sym (if_no _ _ _ n) ∙ t.2 in cc)
          ],
        )
    | inr n ↦ absurd (false≢true (sym (ap (λ (qs : List Place). has qs p) (beside_none (flat_map (λ o. o.extents) (owners d image chains)) records e n)) ∙ h))
  ]

  -- no record begins where an extent does
  pub isnt_extent : (e p : Place) → has (flat_map (λ o. o.extents) (owners d image chains)) e ≡ true → p.0 ≡ e.0 → e.1 + 176 ≤ p.1 → p.1 + 16 ≤ e.1 + ext_size image e → has (joined c.before.found) p ≡ false
  isnt_extent e p i file from to = no_true _ (λ h.
      let a = chained_there image (joined c.before.found) chains e c.before.whole (kept_joined d image (joined c.before.found) (nodes_in image) chains e i) in
      let x = ext_at image e in let y = ext_at image p in
      let long : x.len ≡ pos (ext_size image e) = extent_long d image c.before.found c.before.before e a in
      let g : ground heap (e.0, e.1) ≡ Some (an_extent x.magic x.my_loc x.namespace (pos (ext_size image e))) = ap (λ (o : Option Cell). option_map outline o) (extent_found image (joined c.before.found) (joined records) blks e a) ∙ ap (λ (z : ℤ). Some (an_extent x.magic x.my_loc x.namespace z)) long in
      let k : ground heap (e.0, p.1) ≡ Some (an_extent y.magic y.my_loc y.namespace y.len) = ap (λ (f : ℕ). ground heap (f, p.1)) (sym file) ∙ ap (λ (o : Option Cell). option_map outline o) (extent_found image (joined c.before.found) (joined records) blks p h) in
      let apart = extents_apart image heap (unused_in image) (areas_found d image chains c.before (joined records) blks) e.0 e.1 p.1 x.magic y.magic (ext_size image e) x.my_loc y.my_loc x.namespace y.namespace y.len g k (omega (arith, from)) in
      omega (arith, apart, from, to))

  pub records_found : RecordsFound image (free_name d) heap (beside (flat_map (λ o. o.extents) (owners d image chains)) records)
  records_found = record {
    len = ext_size image;
    reading = λ e. records_reading image e (ext_size image e) (ext_at image e).first_record (ext_at image e).last_record;
    seen = seen_beside (flat_map (λ o. o.extents) (owners d image chains)) records [];
    extents = λ e. elim (cases_Bool (has (flat_map (λ o. o.extents) (owners d image chains)) e)) [
      | inl y ↦ inr (record {
        h = ext_at image e;
        is = extent_found image (joined c.before.found) (joined records) blks e (chained_there image (joined c.before.found) chains e c.before.whole (kept_joined d image (joined c.before.found) (nodes_in image) chains e y));
        isnt_free = kept_isnt_free d image (joined c.before.found) (nodes_in image) chains [] e c.before.whole y;
        inside = (inside_owners d image chains c.before e y).whole;
      })
      | inr n ↦ inl (beside_none (flat_map (λ o. o.extents) (owners d image chains)) records e n)
    ];
    reads = λ e h is isnt.
        let t = in_es e h is isnt in (
          record {
            head = ap (λ (x : ExtentHeader). place_link image x.first_record) (sym t.1);
            read = λ o p. refl;
            closes = λ o. ap (λ (x : ExtentHeader). names_place x.last_record o) (sym t.1);
            home = refl;
            tail = refl;
          },
          (inside_owners d image chains c.before e t.0).whole,
        );
    whole = λ e h is isnt. chain_beside (λ x. records_reading image x (ext_size image x) (ext_at image x).first_record (ext_at image x).last_record) (flat_map (λ o. o.extents) (owners d image chains)) records [] e c.whole (in_es e h is isnt).0;
    room = room_at image;
    there = λ e p h.
        let r = right_at e p h in
        record_found image (joined c.before.found) (joined records) blks p (isnt_extent e p r.0 r.1.file r.1.from r.1.to) (beside_in (flat_map (λ o. o.extents) (owners d image chains)) records e p h);
    only = λ p h r e.
        let t = in_beside (λ x. records_reading image x (ext_size image x) (ext_at image x).first_record (ext_at image x).last_record) (flat_map (λ o. o.extents) (owners d image chains)) records [] p c.whole es_once (record_only p h r e) in
        (t.0, t.2);
  }
    where
      record_only : (p : Place) (h : RecHeader) (r : List ℕ) → found_heap image (joined c.before.found) (joined records) blks p ≡ Some (live h r) → has (joined records) p ≡ true
      record_only p h r e = elim (cases_Bool (has (joined c.before.found) p)) [
        | inl y ↦ absurd (let f : Some (extent (ext_at image p)) ≡ Some (live h r) = sym (if_yes _ _ _ y) ∙ e in cc)
        | inr n ↦ elim (cases_Bool (has (joined records) p)) [
          | inl y ↦ y
          | inr m ↦ elim (cases_Bool (has blks p)) [
            | inl y ↦ absurd (let f : Some (deleted (del_at image p) (room_at image p)) ≡ Some (live h r) = sym (if_no _ _ _ n ∙ if_no _ _ _ m ∙ if_yes _ _ _ y) ∙ e in cc)
            | inr x ↦ absurd (let f : None ≡ Some (live h r) = sym (if_no _ _ _ n ∙ if_no _ _ _ m ∙ if_no _ _ _ x) ∙ e in cc)
          ]
        ]
      ]
