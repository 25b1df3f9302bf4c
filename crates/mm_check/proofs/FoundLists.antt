-- The deleted lists that phase 7 finds are as its law asks.
use Rattle.std.proofs.Common.{◌≡◌, ℕ, pos, ◌≤◌, ◌<◌, ◌⊎◌, inl, inr, true, false, List, [], Some, None, refl, sym, ◌∙◌, ap, subst}
use Rattle.std.specs.Prelude.{slice_index_or}
use Rattle.std.proofs.lemmas.Bool.{cases_Bool, cases_lt}
use Rattle.mm_base.specs.Places.{null}
use Rattle.mm_ranges.specs.Overlay.{Image}
use Rattle.mm_frames.specs.declared.deleted_header.DeletedHeader.{DeletedHeader}
use Rattle.mm_links.specs.Links.{Place, has}
use Rattle.mm_extents.specs.Heap.{Heap, extent, live, deleted}
use Rattle.mm_extents.specs.Changes.{loc_or}
use Rattle.mm_extents.specs.Chains.{ExtentsStand}
use Rattle.mm_records.specs.Constants.{is_name}
use Rattle.mm_records.specs.Stands.{ns_in}
use Rattle.mm_walk.specs.Walk.{Reading, IsWhole, seen_after}
use Rattle.mm_walk.specs.Listed.{ReadsList}
use Rattle.mm_check.specs.RecordChain.{rec_at, place_link}
use Rattle.mm_check.specs.ListChain.{del_at, IsDeletedAt, list_reading, ListsFound}
use Rattle.mm_check.specs.ExtentChain.{ext_at, ext_size}
use Rattle.mm_check.specs.NodeQuestions.{node_place, NodesStand}
use Rattle.mm_check.specs.Findings.{joined, nodes_in, name_of, details_at, Owner, owners_of, owners, Clear8}
use Rattle.mm_check.specs.Phases.{list_chain}
use Rattle.mm_check.specs.FoundShape.{room_at, found_heap, chain_named}
use Rattle.mm_check.specs.Standing.{list_named}
use Rattle.mm_check.proofs.RecordLaws.{if_yes, if_no}
use Rattle.mm_check.proofs.ListTests.{AreOwn, reads_list}
use Rattle.mm_check.proofs.NodeLaws.{nodes_stand}
use Rattle.mm_check.proofs.Insides.{has_in, inside_found}
use Rattle.mm_check.proofs.FoundExtents.{extent_only, extents_found}
use Rattle.mm_check.proofs.ExtentsBack.{extents_stand}
use Rattle.mm_check.proofs.FoundBlocks.{del_len}
use Rattle.mm_check.proofs.FoundHeap.{block_of, room_long, deleted_there}
use Rattle.mm_check.proofs.NodeOwners.{Owns, Apart, owners_apart, nodes_differ, kept_apart, kept_owner, owner_named, chain_own}
use Rattle.mm_check.proofs.OwnedLists.{list_whole, list_none, list_high, in_list, on_list}

module _ (d : List ℕ) (image : Image) (chains records blocks : List (List Place)) (c : Clear8 d image chains records blocks) where
  abbrev all : List Place
  all = joined c.before.before.before.found

  abbrev heap : Heap
  heap = found_heap image all (joined records) (joined blocks)

  abbrev chain_of : List ℕ → List Place
  chain_of = chain_named image (owners_of (nodes_in image) chains)

  pub nodes : NodesStand d (ns_in image)
  nodes = nodes_stand d (ns_in image) c.before.before.before.before.before.nodes

  pub all_apart : Apart image (owners_of (nodes_in image) chains)
  all_apart = owners_apart image (nodes_in image) chains (nodes_differ image nodes.table.apart)

  pub some_apart : Apart image (owners d image chains)
  some_apart = kept_apart d image (owners_of (nodes_in image) chains) all_apart

  pub extents_are : ExtentsStand heap chain_of
  extents_are = extents_stand image heap chain_of (extents_found d image chains c.before.before.before (joined records) (joined blocks))

  own : (name : List ℕ) → AreOwn image heap (ext_size image) name (chain_of name)
  own name = record {
    named = λ e i. extents_are.on_chain name e i;
    all = λ e h is n. ap (λ (m : List ℕ). has (chain_of m) e) (sym n) ∙ extents_are.all e h is;
    sizes = λ e i. refl;
    low = λ e i.
        let x = extents_are.on_chain name e i in
        let k = inside_found d image c.before.before.before.found c.before.before.before.before e (extent_only d image chains c.before.before.before (joined records) (joined blocks) e x.0 x.1) in
        (k.data_file, k.whole, k.short);
  }

  abbrev IsFoundList : List ℕ → ℕ → Type 0
  IsFoundList name i = (r : Reading) × (seen : List Place) × ReadsList r loc_or (IsDeletedAt image heap (ext_size image) name i) (λ p. (del_at image p).next_deleted) (place_link image) × IsWhole r seen (list_named image (owners d image chains) blocks name i)

  -- a list without blocks
  empty_list : (name : List ℕ) (i : ℕ) → list_named image (owners d image chains) blocks name i ≡ [] → IsFoundList name i
  empty_list name i e = (
    list_reading image (chain_of name) i (0, 0) null,
    [],
    reads_list image heap (ext_size image) name (chain_of name) (own name) i (0, 0) null,
    subst (λ (qs : List Place). IsWhole (list_reading image (chain_of name) i (0, 0) null) [] qs) (sym e) (record { followed = record { leads = refl; fresh = refl }; closed = refl }),
  )

  -- list i of a node
  node_list : (name : List ℕ) (i : ℕ) (o : Owner) → Owns o (owners d image chains) → name_of image o.node ≡ name → i < 19 → IsFoundList name i
  node_list name i o is named lt =
      let w = list_whole image (owners d image chains) blocks (seen_after [] records) o i some_apart is lt c.before.whole in
      let e : chain_of name ≡ o.extents = ap chain_of (sym named) ∙ chain_own image (owners_of (nodes_in image) chains) o all_apart (kept_owner d image (owners_of (nodes_in image) chains) o is).0 in (
        list_chain image o i,
        w.0,
        reads_list image heap (ext_size image) name o.extents (subst (AreOwn image heap (ext_size image) name) e (own name)) i (node_place o.node) (slice_index_or (details_at image o.node).deleted i null),
        subst (λ (n : List ℕ). IsWhole (list_chain image o i) w.0 (list_named image (owners d image chains) blocks n i)) named w.1,
      )

  found_list : (name : List ℕ) (i : ℕ) → IsFoundList name i
  found_list name i = by (cases_lt i 19) (owner_named image (owners d image chains) name)
    where
      by : (i < 19) ⊎ (19 ≤ i) → ((o : Owner) × Owns o (owners d image chains) × (name_of image o.node ≡ name)) ⊎ ((o : Owner) → Owns o (owners d image chains) → is_name (name_of image o.node) name ≡ false) → IsFoundList name i
      by (inl lt) (inl t) = node_list name i t.0 t.1 t.2 lt
      by (inl lt) (inr f) = empty_list name i (list_none image (owners d image chains) blocks name i f)
      by (inr ge) x = empty_list name i (list_high image (owners d image chains) blocks name i ge)

  deleted_only : (p : Place) (h : DeletedHeader) (r : List ℕ) → heap p ≡ Some (deleted h r) → has (joined blocks) p ≡ true
  deleted_only p h r e = elim (cases_Bool (has all p)) [
    | inl y ↦ absurd (let f : Some (extent (ext_at image p)) ≡ Some (deleted h r) = sym (if_yes _ _ _ y) ∙ e in cc)
    | inr n ↦ elim (cases_Bool (has (joined records) p)) [
      | inl y ↦ absurd (let f : Some (live (rec_at image p) (room_at image p)) ≡ Some (deleted h r) = sym (if_no _ _ _ n ∙ if_yes _ _ _ y) ∙ e in cc)
      | inr m ↦ elim (cases_Bool (has (joined blocks) p)) [
        | inl y ↦ y
        | inr x ↦ absurd (let f : None ≡ Some (deleted h r) = sym (if_no _ _ _ n ∙ if_no _ _ _ m ∙ if_no _ _ _ x) ∙ e in cc)
      ]
    ]
  ]

  pub lists_found : ListsFound image heap (list_named image (owners d image chains) blocks)
  lists_found = record {
    len = ext_size image;
    reading = λ name i. (found_list name i).0;
    seen = λ name i. (found_list name i).1;
    reads = λ name i. (found_list name i).2;
    whole = λ name i. (found_list name i).3;
    rest = room_at image;
    there = λ name i p h.
        let j = in_list image (owners d image chains) blocks name i p h in
        let at = has_in (joined records) (joined blocks) p (inr j) in
        let b = block_of d image chains records blocks c p at in
        (deleted_there d image chains records blocks c p j, del_len image p ∙ b.long ∙ ap pos (sym (room_long d image chains records blocks c p at b).0));
    only = λ p h r e.
        let t = on_list image (owners d image chains) blocks (seen_after [] records) p some_apart c.before.whole (deleted_only p h r e) in
        (name_of image t.o.node, (t.i, t.on));
  }
