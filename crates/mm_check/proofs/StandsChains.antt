-- Where files stand in some shape, phases 4 and 5 find nothing, and find the shape's chains of extents.
use Rattle.std.proofs.Common.{◌≡◌, ℕ, inl, inr, Bool, true, false, List, [], ◌∷◌, map, Some, None, refl, sym, ◌∙◌, ap, subst, arith}
use Rattle.std.proofs.lemmas.Bool.{cases_Bool, false≢true}
use Rattle.mm_ranges.specs.Overlay.{Image}
use Rattle.mm_frames.specs.Texts.{text_in}
use Rattle.mm_frames.specs.declared.details.Details.{Details}
use Rattle.mm_frames.specs.declared.extent_header.ExtentHeader.{ExtentHeader}
use Rattle.mm_nstable.specs.Nodes.{is_used}
use Rattle.mm_nstable.specs.Table.{Held}
use Rattle.mm_nstable.proofs.Tables.{table_at}
use Rattle.mm_links.specs.Links.{Place, has, once, first_of, last_of}
use Rattle.mm_links.proofs.LinkLaws.{has_here, has_more, same_own}
use Rattle.mm_extents.specs.Heap.{extent}
use Rattle.mm_extents.specs.Changes.{loc_or}
use Rattle.mm_records.specs.Constants.{is_name}
use Rattle.mm_records.specs.Shape.{Shape}
use Rattle.mm_records.specs.Stands.{ns_in}
use Rattle.mm_records.proofs.Freed.{name_own, name_is}
use Rattle.mm_walk.specs.Walk.{IsWhole, AreWhole, seen_after}
use Rattle.mm_walk.specs.Questions.{first_failing}
use Rattle.mm_check.specs.ExtentChain.{ext_at, chain_reading, lost_questions, asked}
use Rattle.mm_check.specs.NodeQuestions.{free_name, node_place}
use Rattle.mm_check.specs.Findings.{joined, nodes_in, name_of, details_at, Clear3, Clear5}
use Rattle.mm_check.specs.Phases.{node_chain}
use Rattle.mm_check.specs.Standing.{HasShape}
use Rattle.mm_check.proofs.PhaseBack.{has_either, once_append}
use Rattle.mm_check.proofs.FileQuestionLaws.{cons_failing, no_file_finding}
use Rattle.mm_check.proofs.NodeLaws.{no_node_finding}
use Rattle.mm_check.proofs.Insides.{has_in, inside_found}
use Rattle.mm_check.proofs.ExtentsBack.{chain_whole}
use Rattle.mm_check.proofs.FreeNames.{is_held}
use Rattle.mm_check.proofs.NodeOwners.{IsOne, Differs, nodes_differ, node_in, in_node}
use Rattle.mm_check.proofs.EachWhole.{EachWhole, whole_of_each, has_seen}
use Rattle.mm_check.proofs.StandsFiles.{AreFound, file_by_file, IsHere, is_here, ext_is}

no_true : (b : Bool) → (b ≡ true → ⊥) → b ≡ false
no_true true f = absurd (f refl)
no_true false f = refl

one_held : (x y : Held) → Some x ≡ Some y → x ≡ y
one_held x y e = cc

same_extent : (h g : ExtentHeader) → Some (extent h) ≡ Some (extent g) → h ≡ g
same_extent h g e = cc

none_lost_of : (all chained : List Place) → ((p : Place) → has all p ≡ true → has chained p ≡ true) → first_failing (lost_questions all chained) ≡ None
none_lost_of [] chained f = refl
none_lost_of (x ∷ xs) chained f = cons_failing (asked x (has chained x)) (lost_questions xs chained) (f x (has_here x xs x (same_own x))) (none_lost_of xs chained (λ p h. f p (has_more x xs p h)))

-- a place on the chain of one of these numbers
pub in_chains : (f : ℕ → List Place) (ks : List ℕ) (p : Place) → has (joined (map f ks)) p ≡ true → (k : ℕ) × IsOne k ks × (has (f k) p ≡ true)
in_chains f [] p h = absurd (false≢true h)
in_chains f (k ∷ ks) p h = elim (has_either (f k) (joined (map f ks)) p h) [
  | inl i ↦ (k, inl refl, i)
  | inr j ↦ let t = in_chains f ks p j in (t.0, inr t.1, t.2)
]

pub chain_in : (f : ℕ → List Place) (ks : List ℕ) (k : ℕ) (p : Place) → IsOne k ks → has (f k) p ≡ true → has (joined (map f ks)) p ≡ true
chain_in f [] k p i h = absurd i
chain_in f (x ∷ ks) k p (inl e) h = has_in (f x) (joined (map f ks)) p (inl (ap (λ (j : ℕ). has (f j) p) (sym e) ∙ h))
chain_in f (x ∷ ks) k p (inr j) h = has_in (f x) (joined (map f ks)) p (inr (chain_in f ks k p j h))

module _ (d : List ℕ) (image : Image) (s : Shape) (st : HasShape d image s) where
  pub all_found : AreFound image (free_name d) s.heap st.stands.files st.stands.heap st.stands.tiled 0 8 []
  all_found = file_by_file image (free_name d) s.heap st.stands.files st.stands.heap st.stands.tiled 0 8 [] (omega arith) refl (λ p h. absurd (false≢true h))

  abbrev found : List (List Place)
  found = all_found.pss

  abbrev all : List Place
  all = joined found

  pub three : Clear3 d image all_found.pss
  three = record { before = record { files = no_file_finding image st.stands.files; nodes = no_node_finding d (ns_in image) st.nodes }; whole = all_found.whole }

  pub in_all : (p : Place) (h : ExtentHeader) → s.heap p ≡ Some (extent h) → has (joined all_found.pss) p ≡ true
  in_all p h e = let low = st.stands.heap.data_file p (extent h) e in all_found.all p h e (omega arith) (omega (arith, low))

  pub own_header : (p : Place) (h : ExtentHeader) → s.heap p ≡ Some (extent h) → ext_at image p ≡ h
  own_header p h e = ext_is image (free_name d) s.heap st.stands.files st.stands.heap st.stands.tiled p h e

  pub here_at : (p : Place) (h : ExtentHeader) → s.heap p ≡ Some (extent h) → IsHere image (free_name d) s.heap st.stands.files st.stands.heap st.stands.tiled p h
  here_at p h e = is_here image (free_name d) s.heap st.stands.files st.stands.heap st.stands.tiled p h e

  -- ---- the ends of a node's chain

  abbrev chain_of : ℕ → List Place
  chain_of k = s.extents (name_of image k)

  pub ends_of : (k : ℕ) → is_used (ns_in image) k ≡ true → ((details_at image k).first_extent ≡ loc_or (first_of (s.extents (name_of image k)))) × ((details_at image k).last_extent ≡ loc_or (last_of (s.extents (name_of image k))))
  ends_of k u = elim (cases_Bool (is_name (name_of image k) (free_name d))) [
    | inl y ↦
        let free = st.stands.free_chain in
        let e = name_is (name_of image k) (free_name d) y in
        let is = one_held free.0 _ (sym free.1.node.is ∙ table_at (ns_in image) k (free_name d) st.nodes.table u e) in
        let own : free.0.details ≡ details_at image k = ap (λ (x : Held). x.details) is in (
          sym (ap (λ (x : Details). x.first_extent) own) ∙ free.1.first ∙ ap (λ (n : List ℕ). loc_or (first_of (s.extents n))) (sym e),
          sym (ap (λ (x : Details). x.last_extent) own) ∙ free.1.last ∙ ap (λ (n : List ℕ). loc_or (last_of (s.extents n))) (sym e),
        )
    | inr n ↦
        let held : Held = record { node = k; details = details_at image k } in
        let x = st.stands.counts (name_of image k) held (table_at (ns_in image) k (name_of image k) st.nodes.table u refl) (λ e. false≢true (sym n ∙ name_own _ _ e)) in
        (x.first, x.last)
  ]

  -- ---- phase 4

  pub names_of : (name : List ℕ) (p : Place) → has (s.extents name) p ≡ true → text_in (ext_at image p).namespace ≡ name
  names_of name p h = let t = st.stands.extents.on_chain name p h in ap (λ (x : ExtentHeader). text_in x.namespace) (own_header p t.0 t.1) ∙ t.2

  chains_apart : (ks : List ℕ) → Differs image ks → once (joined (map chain_of ks)) ≡ true
  chains_apart [] a = refl
  chains_apart (k ∷ ks) a =
      once_append (chain_of k) (joined (map chain_of ks)) (st.stands.extents.linked (name_of image k)).no_twice (chains_apart ks a.1)
      (λ p i j. let t = in_chains chain_of ks p j in false≢true (sym (a.0 t.0 t.1) ∙ name_own _ _ (sym (names_of (name_of image k) p i) ∙ names_of (name_of image t.0) p t.2)))

  each_chain : (ks : List ℕ) → ((k : ℕ) → IsOne k ks → is_used (ns_in image) k ≡ true) → EachWhole (map (node_chain image all) ks) (map chain_of ks)
  each_chain [] u = tt
  each_chain (k ∷ ks) u =
      let used = u k (inl refl) in
      let ends = ends_of k used in (
        λ before fresh. subst (λ (field : List ℕ). IsWhole (chain_reading image all field (node_place k) (details_at image k).first_extent (details_at image k).last_extent) before (chain_of k)) (sym (st.nodes.table.named k used).field)
            (chain_whole image s.heap s.extents st.stands.extents all (inside_found d image found three) (λ p h e. (in_all p h e, own_header p h e)) (λ p h e. (here_at p h e).named) (name_of image k) (node_place k) (details_at image k).first_extent (details_at image k).last_extent before ends.0 ends.1 fresh),
        each_chain ks (λ j i. u j (inr i)),
      )

  pub chains_whole : AreWhole [] (map (node_chain image (joined all_found.pss)) (nodes_in image)) (map (λ k. s.extents (name_of image k)) (nodes_in image))
  chains_whole =
      whole_of_each (map (node_chain image all) (nodes_in image)) (map chain_of (nodes_in image)) [] (each_chain (nodes_in image) (λ k i. in_node image k i))
      (chains_apart (nodes_in image) (nodes_differ image st.nodes.table.apart)) refl (λ p i j. false≢true j)

  -- ---- phase 5

  -- an extent is on the chain of a node that has its name
  pub on_node : (p : Place) (h : ExtentHeader) → s.heap p ≡ Some (extent h) → (k : ℕ) × IsOne k (nodes_in image) × (name_of image k ≡ text_in h.namespace) × (has (s.extents (name_of image k)) p ≡ true)
  on_node p h e =
      let n = st.stands.owners p h e in
      let x = is_held (ns_in image) (text_in h.namespace) n.0 st.nodes.table n.1 in
      (x.k, node_in image x.k x.used, x.named, ap (λ (m : List ℕ). has (s.extents m) p) x.named ∙ st.stands.extents.all p h e)

  pub five : Clear5 d image (map (λ k. s.extents (name_of image k)) (nodes_in image))
  five = record {
    found = all_found.pss;
    before = three;
    whole = chains_whole;
    none_lost = none_lost_of all (seen_after [] (map chain_of (nodes_in image))) (λ p h.
        let t = all_found.each p h in let n = on_node p t.0 t.1 in
        has_seen [] (map chain_of (nodes_in image)) p (inr (chain_in chain_of (nodes_in image) n.0 p n.1 n.3)));
  }
