-- A child that has lost its last pair, and its neighbour: both steps as one.
use Rattle.std.proofs.lemmas.Bool.{false_from_ne_true}
use Rattle.std.proofs.lemmas.List.{append-nil}
use Rattle.std.proofs.Common.{◌≡◌, ℕ, true, false, List, [], ◌∷◌, ◌++◌, sym, subst}
use Rattle.mm_base.specs.declared.place.DiskLoc.{DiskLoc}
use Rattle.mm_btree.specs.Nodes.{Item, Buckets}
use Rattle.mm_btree.specs.Lists.{has, Distinct}
use Rattle.mm_btree.specs.Trees.{Sub, all_places, Stands, Moves, Became, Thinned, Beside}
use Rattle.mm_btree.proofs.ListLaws.{has-append, distinct-apart, distinct-left, distinct-join}
use Rattle.mm_btree.proofs.Frames.{stands_same, stands_some}
use Rattle.mm_btree.proofs.Moved.{moves_with, moves_trans}

pub beside : (m n : Buckets) (up : DiskLoc) (h : ℕ) (l c t : Sub) → Stands m up 1 h l → Distinct (l.places ++ c.places) → Thinned m n up h c t → Beside m n up h l c t
beside m n up h l c t s d k =
    let lc = distinct-apart l.places c.places d in
    let lt : (q : DiskLoc) → has q l.places ≡ true → has q t.places ≡ false = λ q e. false_from_ne_true (has q t.places) (λ f. stands_some m up 1 h l s q e (k.moved.fresh q (lc q e) f)) in
    record {
      stands = stands_same m n up 1 h l (λ q e. k.moved.others q (lc q e) (lt q e)) s;
      apart = distinct-join l.places t.places (distinct-left l.places c.places d) k.apart lt;
      moved = moves_with m n c.places t.places (l.places ++ c.places) (l.places ++ t.places) (λ q. has q l.places)
          (λ q. has-append q l.places c.places) (λ q. has-append q l.places t.places) k.moved;
    }

-- then they were joined: what has become of the two as they stood at first
pub joined_after : (m n o : Buckets) (up : DiskLoc) (h : ℕ) (l c t : Sub) (list : List Item) (roots : List DiskLoc) (between : List Item) (ds : List Sub) → Beside m n up h l c t
    → Became n o up h (l.places ++ t.places) list roots between ds → Became m o up h (all_places (l ∷ c ∷ [])) list roots between ds
joined_after m n o up h l c t list roots between ds b g = record {
  placed = g.placed;
  stand = g.stand;
  pairs = g.pairs;
  apart = g.apart;
  moved = subst (λ (xs : List DiskLoc). Moves m o (l.places ++ xs) (all_places ds)) (sym (append-nil c.places)) (moves_trans m n o (l.places ++ c.places) (l.places ++ t.places) (all_places ds) b.moved g.moved);
}
