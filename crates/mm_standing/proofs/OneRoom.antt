-- Files that stand in two shapes have the same records of each node in both.
use Rattle.std.proofs.Common.{◌≡◌, ℕ, pos, ◌+◌, List, length, Option, Some, None, refl, sym, ◌∙◌, ap, arith}
use Rattle.std.specs.Option.{option_map}
use Rattle.mm_base.specs.Bytes.{part}
use Rattle.mm_ranges.specs.Overlay.{Image, bytes_at}
use Rattle.mm_frames.specs.declared.rec_header.RecHeader.{RecHeader}
use Rattle.mm_links.specs.Links.{Place, has}
use Rattle.mm_extents.specs.Heap.{Cell, live}
use Rattle.mm_extents.specs.Tiling.{outline}
use Rattle.mm_records.specs.Shape.{Shape}
use Rattle.mm_records.specs.Stands.{Stands, IsNode}
use Rattle.mm_records.specs.Map.{live_at, name_at}
use Rattle.mm_records.proofs.Owning.{lives}
use Rattle.mm_trees.proofs.Live.{walk_is, on_walk, from_walk}

-- one name of free extents
pub one_free : (image : Image) (free free' : List ℕ) (s s' : Shape) → Stands image free s → Stands image free' s' → free' ≡ free
one_free image free free' s s' st st' = st.free_chain.1.node.only free' st'.free_chain.0 st'.free_chain.1.node.is st'.free_chain.1.node.named

same_long : (m n : ℕ) → pos (16 + m) ≡ pos (16 + n) → m ≡ n
same_long m n e = let f : 16 + m ≡ 16 + n = cc in omega (arith, f)

-- a record's header names its length
long : (image : Image) (free : List ℕ) (s : Shape) → Stands image free s → (p : Place) (h : RecHeader) (room : List ℕ) → s.heap p ≡ Some (live h room) → h.length_with_headers ≡ pos (16 + length room)
long image free s st p h room e = (st.tiled.blocks p.0 p.1 (16 + length room) h.extent_ofs h.length_with_headers (ap (λ (o : Option Cell). option_map outline o) e)).1.1.long

-- a record of the one shape is there in the other
missing : (image : Image) (free : List ℕ) (s s' : Shape) → Stands image free s → Stands image free s' → (node : ℕ) → IsNode image free node → (p : Place) (room : List ℕ)
    → live_at s (name_at image node) p ≡ Some room → live_at s' (name_at image node) p ≡ None → ⊥
missing image free s s' st st' node n p room e f =
    let w = from_walk image free s' st' node n p (ap (λ (xs : List Place). has xs p) (sym (walk_is image free s' st' node n) ∙ walk_is image free s st node n) ∙ on_walk image free s st node n p room e) in
    let z : None ≡ Some w.0 = sym f ∙ w.1 in
    cc

module _ (image : Image) (free : List ℕ) (s s' : Shape) (st : Stands image free s) (st' : Stands image free s') (node : ℕ) (n : IsNode image free node) where
  same_room : (p : Place) (room room' : List ℕ) → live_at s (name_at image node) p ≡ Some room → live_at s' (name_at image node) p ≡ Some room' → room ≡ room'
  same_room p room room' e f =
      let v = lives s (name_at image node) p room e in
      let w = lives s' (name_at image node) p room' f in
      let x = st.heap.shown p (live v.h room) v.here in
      let y = st'.heap.shown p (live w.h room') w.here in
      let l = same_long (length room) (length room') (sym (long image free s st p v.h room v.here) ∙ ap (λ (h : RecHeader). h.length_with_headers) (sym x.0 ∙ y.0) ∙ long image free s' st' p w.h room' w.here) in
      sym x.1 ∙ ap (λ (k : ℕ). part (p.1 + 16) k (bytes_at image p.0)) l ∙ y.1

  both : (p : Place) (r r' : Option (List ℕ)) → live_at s (name_at image node) p ≡ r → live_at s' (name_at image node) p ≡ r' → r ≡ r'
  both p None None e f = refl
  both p (Some room) (Some room') e f = ap (λ (x : List ℕ). Some x) (same_room p room room' e f)
  both p (Some room) None e f = absurd (missing image free s s' st st' node n p room e f)
  both p None (Some room') e f = absurd (missing image free s' s st' st node n p room' f e)

  pub one_room : (p : Place) → live_at s (name_at image node) p ≡ live_at s' (name_at image node) p
  one_room p = both p (live_at s (name_at image node) p) (live_at s' (name_at image node) p) refl refl
