-- A place is taken, in a block that was there or in a new extent.
use Rattle.std.proofs.Common.{◌≡◌, ℕ, ◌+◌, ◌-◌, ◌≤◌, inl, inr, Bool, true, List, ◌∷◌, length, Some, Result, Ok, Err, refl, sym, ◌∙◌, ap, arith}
use Rattle.std.specs.Prelude.{◌&&◌, ◌==◌, IfOk, OnOk}
use Rattle.std.specs.FinMap.{get}
use Rattle.std.proofs.lemmas.Bool.{eq-eqb}
use Rattle.mm_base.specs.declared.place.DiskLoc.{DiskLoc}
use Rattle.mm_frames.specs.declared.details.Details.{Details}
use Rattle.mm_nstable.specs.Nodes.{name_in, node_at, details_in, is_used, IsTable, SameNames}
use Rattle.mm_nstable.specs.Table.{Held, table_of}
use Rattle.mm_nstable.proofs.Tables.{table_at}
use Rattle.mm_links.specs.Links.{Place, has}
use Rattle.mm_links.proofs.LinkLaws.{if_true, has_here, same_own}
use Rattle.mm_ranges.specs.Overlay.{Image}
use Rattle.mm_extents.specs.Heap.{deleted}
use Rattle.mm_extents.specs.Changes.{IsLow, behind_of}
use Rattle.mm_extents.proofs.FileLaws.{low_place}
use Rattle.mm_extents.proofs.Walks.{has_middle}
use Rattle.mm_records.specs.Constants.{is_name, SameConstants}
use Rattle.mm_records.specs.Shape.{Shape, list_for}
use Rattle.mm_records.specs.Map.{name_at}
use Rattle.mm_records.specs.InHand.{StandsWith}
use Rattle.mm_records.specs.Searching.{NoBlock, IsChosen}
use Rattle.mm_records.specs.Adding.{IsAdded}
use Rattle.mm_records.specs.Extending.{IsExtended}
use Rattle.mm_records.specs.Asking.{extent_len}
use Rattle.mm_records.specs.Allocating.{IsAllocated}
use Rattle.mm_records.proofs.Freed.{name_own}
use Rattle.mm_records.proofs.AddLaws.{kept_least}
use Rattle.mm_records.proofs.ExtendSteps.{held_at}

pub alloc_found : (image : Image) (s t : Shape) (free name : List ℕ) (p : Place) (r list : ℕ) (before : DiskLoc) (payload : List ℕ) (b : IsChosen s name r list before p) → IsAdded s t name p r (16 + length b.rest) payload → IsAllocated image s t free name p r payload
alloc_found image s t free name p r list before payload b a =
    let long = a.long in
    let least = kept_least r (16 + length b.rest) b.long in
    record {
      fresh = a.fresh;
      room = a.room;
      here = a.here;
      front = a.front;
      enough = omega (arith, long, least);
      others = a.others;
      grown = s;
      is_grown = inl refl;
      list = list;
      before = before;
      chosen = b;
      added = a;
    }

pub alloc_new : (image : Image) (s m t : Shape) (free name : List ℕ) (e p : Place) (r n list : ℕ) (before : DiskLoc) (payload : List ℕ) → NoBlock s name r → IsExtended image s m free name (extent_len s name r) e n
    → (b : IsChosen m name r list before p) → IsAdded m t name p r (16 + length b.rest) payload → IsAllocated image s t free name p r payload
alloc_new image s m t free name e p r n list before payload none x b a =
    let long = a.long in
    let least = kept_least r (16 + length b.rest) b.long in
    record {
      fresh = λ k. sym (x.map k p) ∙ a.fresh k;
      room = a.room;
      here = a.here;
      front = a.front;
      enough = omega (arith, long, least);
      others = λ k q ne. a.others k q ne ∙ x.map k q;
      grown = m;
      is_grown = inr (none, (e, (n, x)));
      list = list;
      before = before;
      chosen = b;
      added = a;
    }

-- the new extent's block is long enough
pub some_block : (image : Image) (s m : Shape) (free name : List ℕ) (e : Place) (r n len : ℕ) → IsExtended image s m free name len e n → r + 176 ≤ len → NoBlock m name r → ⊥
some_block image s m free name e r n len x le none =
    let i = list_for (n - 176) in
    let test : (is_name name name && i == list_for (n - 176)) ≡ true = ap (λ (t : Bool). t && i == list_for (n - 176)) (name_own name name refl) ∙ eq-eqb i (list_for (n - 176)) refl in
    let list : m.lists name i ≡ behind_of e 176 ∷ s.lists name i = x.lists name i ∙ if_true (is_name name name && i == list_for (n - 176)) (behind_of e 176 ∷ s.lists name i) (s.lists name i) test in
    let on : has (m.lists name i) (behind_of e 176) ≡ true = ap (λ (ps : List Place). has ps (behind_of e 176)) list ∙ has_here (behind_of e 176) (s.lists name i) (behind_of e 176) (same_own (behind_of e 176)) in
    let few = none i (behind_of e 176) x.block x.room on x.behind in
    let long = x.long in
    let room = x.room_long in
    omega (arith, few, long, room, le)

-- constants that stay twice
pub same_twice : (a b c : List ℕ) → IsTable a → IsTable b → SameNames a b → SameConstants a b → SameConstants b c → SameConstants a c
same_twice a b c ta tb n x y = record {
  nodes = λ m h k e f. let g = mid m h e in x.nodes m h g.0 e g.1 ∙ y.nodes m g.0 k g.1 f;
  details = λ m h k e f. let g = mid m h e in x.details m h g.0 e g.1 ∙ y.details m g.0 k g.1 f;
}
  where
    mid : (m : List ℕ) (h : Held) → get (table_of a) m ≡ Some h → (g : Held) × (get (table_of b) m ≡ Some g)
    mid m h e =
        let u = held_at a m h ta e in
        (record { node = u.k; details = details_in (node_at b u.k) }, table_at b u.k m tb (n.used u.k ∙ u.used) (n.names u.k u.used ∙ u.named))

pub same_names_twice : (a b c : List ℕ) → SameNames a b → SameNames b c → SameNames a c
same_names_twice a b c x y = record { used = λ k. y.used k ∙ x.used k; names = λ k u. y.names k (x.used k ∙ u) ∙ x.names k u }

pub ok_both : {T E : Type 0} {P R : T → Type 0} {Q : Type 0} (r : Result T E) → IfOk r P → OnOk r Q → ((x : T) → P x → Q → R x) → IfOk r R
ok_both (Ok x) p q f = f x p q
ok_both (Err e) p q f = tt

-- ---- what the steps ask for

pub block_low : (image : Image) (free : List ℕ) (s : Shape) (node : ℕ) (d : Details) (r list : ℕ) (before : DiskLoc) (p : Place) → StandsWith image free s node d → IsChosen s (name_at image node) r list before p → IsLow p
block_low image free s node d r list before p st b = low_place image s.heap p (deleted b.h b.rest) st.files st.heap b.there

pub own_held : (ns : List ℕ) (node : ℕ) → IsTable ns → is_used ns node ≡ true → (held : Held) × (get (table_of ns) (name_in (node_at ns node)) ≡ Some held)
own_held ns node t used = (record { node = node; details = details_in (node_at ns node) }, table_at ns node (name_in (node_at ns node)) t used refl)

pub one_details : (a b : Held) → Some a ≡ Some b → a ≡ b
one_details a b e = cc

pub holds_of : {T E : Type 0} {P R : T → Type 0} (r : Result T E) → IfOk r P → ((x : T) → P x → R x) → IfOk r R
holds_of (Ok x) p f = f x p
holds_of (Err e) p f = tt

-- a block that was found is one
pub block_there : (s : Shape) (name : List ℕ) (r list : ℕ) (before : DiskLoc) (p : Place) → IsChosen s name r list before p → NoBlock s name r → ⊥
block_there s name r list before p b none =
    let on : has (s.lists name list) p ≡ true = ap (λ (ps : List Place). has ps p) b.is ∙ has_middle b.before p b.after in
    let few = none list p b.h b.rest on b.there in
    let long = b.long in
    omega (arith, few, long)
