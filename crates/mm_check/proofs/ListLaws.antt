-- Where the lists of all namespaces are whole, the deleted blocks stand.
use Rattle.std.proofs.Common.{◌≡◌, ℕ, pos, ◌+◌, true, List, length, Some, sym, ◌∙◌, ap}
use Rattle.mm_frames.specs.Texts.{text_in}
use Rattle.mm_ranges.specs.Overlay.{Image}
use Rattle.mm_frames.specs.declared.deleted_header.DeletedHeader.{DeletedHeader}
use Rattle.mm_frames.specs.declared.extent_header.ExtentHeader.{ExtentHeader}
use Rattle.mm_links.specs.Links.{Place, has}
use Rattle.mm_extents.specs.Heap.{deleted, extent}
use Rattle.mm_extents.specs.Changes.{loc_or}
use Rattle.mm_records.specs.Shape.{Shape, list_for}
use Rattle.mm_records.specs.Stands.{ListsStand}
use Rattle.mm_walk.proofs.WalkLaws.{once_left}
use Rattle.mm_walk.proofs.Listed.{next_of_whole, right_of_whole}
use Rattle.mm_check.specs.RecordChain.{place_link}
use Rattle.mm_check.specs.ListChain.{del_at, IsDeletedAt, ListsFound}

same_deleted : (h g : DeletedHeader) (r q : List ℕ) → Some (deleted h r) ≡ Some (deleted g q) → (h ≡ g) × (r ≡ q)
same_deleted h g r q e = (cc, cc)

same_extent : (h g : ExtentHeader) → Some (extent h) ≡ Some (extent g) → h ≡ g
same_extent h g e = cc

same_pos : (m n : ℕ) → pos m ≡ pos n → m ≡ n
same_pos m n e = cc

module _ (image : Image) (s : Shape) (f : ListsFound image s.heap s.lists) where
  right_at : (name : List ℕ) (i : ℕ) (p : Place) → has (s.lists name i) p ≡ true → IsDeletedAt image s.heap f.len name i p
  right_at name i p h = right_of_whole (f.reading name i) loc_or (IsDeletedAt image s.heap f.len name i) (λ q. (del_at image q).next_deleted) (place_link image) (f.reads name i) (f.seen name i) (s.lists name i) (f.whole name i) p h

  pub lists_stand : ListsStand s
  lists_stand = record {
    no_twice = λ name i. once_left (s.lists name i) (f.seen name i) (f.whole name i).followed.fresh;
    on_list = λ name i p h.
        let r = right_at name i p h in
        let t = f.there name i p h in
        record {
          h = del_at image p;
          rest = f.rest p;
          there = t.0;
          names_next = next_of_whole (f.reading name i) loc_or (IsDeletedAt image s.heap f.len name i) (λ q. (del_at image q).next_deleted) (place_link image) (f.reads name i) (f.seen name i) (s.lists name i) (f.whole name i) p h;
          right_list = ap list_for (same_pos (16 + length (f.rest p)) r.n (sym t.1 ∙ r.long)) ∙ r.right_list;
          of_extent = (r.a, r.h, r.of_extent, r.is, r.named);
        };
    all = λ p h rest a hh e g x.
        let o = f.only p h rest e in
        let r = right_at o.0 o.1.0 p o.1.1 in
        let t = f.there o.0 o.1.0 p o.1.1 in
        let d = same_deleted h (del_at image p) rest (f.rest p) (sym e ∙ t.0) in
        let a_is : r.a ≡ a = same_pos r.a a (sym r.of_extent ∙ ap (λ (y : DeletedHeader). y.extent_ofs) (sym d.0) ∙ g) in
        let h_is : r.h ≡ hh = same_extent r.h hh (sym r.is ∙ ap (λ (n : ℕ). s.heap (p.0, n)) a_is ∙ x) in
        let name_is : o.0 ≡ text_in hh.namespace = sym r.named ∙ ap (λ (y : ExtentHeader). text_in y.namespace) h_is in
        let list_is : o.1.0 ≡ list_for (16 + length rest) = sym r.right_list ∙ ap list_for (same_pos r.n (16 + length rest) (sym r.long ∙ t.1 ∙ ap (λ (xs : List ℕ). pos (16 + length xs)) (sym d.1))) in
        (λ i. has (s.lists (sym name_is i) (sym list_is i)) p) ∙ o.1.1;
  }
