-- A block that is long enough for several requests serves one after the other: what a request leaves of it serves the next.
use Rattle.std.proofs.Common.{◌≡◌, ℕ, ◌+◌, ◌-◌, ◌≤◌, inl, inr, Bool, true, false, List, [], ◌∷◌, ◌++◌, length, Option, Some, None, refl, sym, ◌∙◌, ap, subst, arith}
use Rattle.std.specs.Prelude.{◌&&◌, ◌==◌, not, nat_lt, if◌then◌else◌}
use Rattle.std.specs.Option.{option_map}
use Rattle.std.proofs.lemmas.Bool.{cases_Bool, false≢true}
use Rattle.std.proofs.lemmas.Bool.Decides.{nat_tests}
use Rattle.mm_ranges.specs.Overlay.{Image}
use Rattle.mm_frames.specs.declared.deleted_header.DeletedHeader.{DeletedHeader}
use Rattle.mm_base.specs.declared.place.DiskLoc.{DiskLoc}
use Rattle.mm_links.specs.Links.{Place, same, has, once, without}
use Rattle.mm_links.proofs.LinkLaws.{same_is, same_own, same_of, same_not, has_here, has_more, has_without, once_parts}
use Rattle.mm_extents.specs.Heap.{Cell, Heap, deleted}
use Rattle.mm_extents.specs.Changes.{behind_of}
use Rattle.mm_extents.specs.Tiling.{Outline, an_extent, a_block, outline, ground}
use Rattle.mm_records.specs.Constants.{is_name}
use Rattle.mm_records.specs.Shape.{Shape, list_for}
use Rattle.mm_records.specs.Stands.{ListsStand}
use Rattle.mm_records.specs.Map.{IsFreed, IsRewritten}
use Rattle.mm_records.specs.Searching.{NoBlock, IsChosen}
use Rattle.mm_records.specs.Asking.{extent_len}
use Rattle.mm_records.specs.Adding.{is_rest, IsAdded}
use Rattle.mm_records.specs.Extending.{IsExtended}
use Rattle.mm_records.specs.Allocating.{IsAllocated}
use Rattle.mm_records.specs.Serving.{HasBlock}
use Rattle.mm_records.proofs.Freed.{name_own}

-- how long a block is by its outline
abbrev block_len : Option Outline → ℕ
block_len None = 0
block_len (Some (an_extent magic here name len)) = 0
block_len (Some (a_block ext len n)) = n

deleted_len : (heap : Heap) (q : Place) (h : DeletedHeader) (rest : List ℕ) → heap q ≡ Some (deleted h rest) → block_len (ground heap q) ≡ 16 + length rest
deleted_len heap q h rest e = ap (λ (o : Option Cell). block_len (option_map outline o)) e

-- a block that stays on its list, with its length
kept_block : (s t : Shape) (m : List ℕ) (n : ℕ) → ListsStand t → (b : HasBlock s m n) → has (t.lists m b.list) b.at ≡ true → ground t.heap b.at ≡ ground s.heap b.at → HasBlock t m n
kept_block s t m n ls b on g =
    let d = ls.on_list m b.list b.at on in
    let long = sym (deleted_len t.heap b.at d.h d.rest d.there) ∙ ap block_len g ∙ deleted_len s.heap b.at b.h b.rest b.there in
    let was = b.long in
    record { list = b.list; at = b.at; on = on; h = d.h; rest = d.rest; there = d.there; long = omega (arith, long, was) }

pub shorter : (s : Shape) (m : List ℕ) (n k : ℕ) → k ≤ n → HasBlock s m n → HasBlock s m k
shorter s m n k le b = let l = b.long in record { list = b.list; at = b.at; on = b.on; h = b.h; rest = b.rest; there = b.there; long = omega (arith, l, le) }

-- freeing and rewriting leave each block
pub freed_serves : (s t : Shape) (name : List ℕ) (p : Place) (len : ℕ) → ListsStand t → IsFreed s t name p len → (m : List ℕ) (n : ℕ) → HasBlock s m n → HasBlock t m n
freed_serves s t name p len ls f m n b = kept_block s t m n ls b (ap (λ (xs : List Place). has xs b.at) (f.lists m b.list) ∙ stays (is_name m name && b.list == list_for len)) (f.layout b.at)
  where
    stays : (c : Bool) → has (if c then p ∷ s.lists m b.list else s.lists m b.list) b.at ≡ true
    stays true = has_more p (s.lists m b.list) b.at b.on
    stays false = b.on

pub rewritten_serves : (s t : Shape) (p : Place) (room : List ℕ) → ListsStand t → IsRewritten s t p room → (m : List ℕ) (n : ℕ) → HasBlock s m n → HasBlock t m n
rewritten_serves s t p room ls w m n b = kept_block s t m n ls b (ap (λ (xs : List Place). has xs b.at) (w.lists m b.list) ∙ b.on) (w.layout b.at)

-- ---- a block that is taken

module _ (s t : Shape) (name : List ℕ) (p : Place) (r n : ℕ) (payload : List ℕ) (ls : ListsStand t) (c : IsAdded s t name p r n payload) where
  abbrev q : Place
  q = behind_of p r

  abbrev lists_with : Bool → ℕ → List Place
  lists_with b i = if b then q ∷ without p (s.lists name i) else without p (s.lists name i)

  other_on : (i : ℕ) (b : Place) → same p b ≡ false → has (s.lists name i) b ≡ true → has (t.lists name i) b ≡ true
  other_on i b ne on = ap (λ (xs : List Place). has xs b) (c.lists name i) ∙ stays (is_rest name r n name i)
    where
      left : has (without p (s.lists name i)) b ≡ true
      left = has_without (s.lists name i) p b (same_not b p (λ e. false≢true (sym ne ∙ same_of p b (sym e)))) ∙ on

      stays : (k : Bool) → has (lists_with k i) b ≡ true
      stays true = has_more q (without p (s.lists name i)) b left
      stays false = left

  module _ (le : r + 32 ≤ n) where
    -- the rest heads the list of its length
    heads : t.lists name (list_for (n - r)) ≡ q ∷ without p (s.lists name (list_for (n - r)))
    heads = c.lists name (list_for (n - r)) ∙ ap (λ (k : Bool). lists_with k (list_for (n - r))) yes
      where
        long : nat_lt n (r + 32) ≡ false
        long = grind (arith, nat_tests, le)

        own : (list_for (n - r) == list_for (n - r)) ≡ true
        own = grind (arith, nat_tests)

        yes : is_rest name r n name (list_for (n - r)) ≡ true
        yes = (λ i. not (long i) && (name_own name name refl i && own i))

    rest_on : has (t.lists name (list_for (n - r))) q ≡ true
    rest_on = ap (λ (xs : List Place). has xs q) heads ∙ has_here q (without p (s.lists name (list_for (n - r)))) q (same_own q)

    one_list : (i j : ℕ) (b : Place) → has (t.lists name i) b ≡ true → has (t.lists name j) b ≡ true → i ≡ j
    one_list i j b on on' =
        let d = ls.on_list name i b on in
        let d' = ls.on_list name j b on' in
        sym d.right_list ∙ ap list_for (sym (deleted_len t.heap b d.h d.rest d.there) ∙ deleted_len t.heap b d'.h d'.rest d'.there) ∙ d'.right_list

    -- no other block of the namespace stood where the rest begins
    not_rest : (i : ℕ) (b : Place) → same p b ≡ false → has (s.lists name i) b ≡ true → same q b ≡ false
    not_rest i b ne on = same_not q b (λ e. twice e)
      where
        twice : q ≡ b → ⊥
        twice e =
            let j = list_for (n - r) in
            let at : i ≡ j = one_list i j b (other_on i b ne on) (subst (λ (x : Place). has (t.lists name j) x ≡ true) e rest_on) in
            let still : has (without p (s.lists name j)) b ≡ true = has_without (s.lists name j) p b (same_not b p (λ z. false≢true (sym ne ∙ same_of p b (sym z)))) ∙ subst (λ (k : ℕ). has (s.lists name k) b ≡ true) at on in
            let off = once_parts q (without p (s.lists name j)) (ap once (sym heads) ∙ ls.no_twice name j) in
            false≢true (sym off.0 ∙ subst (λ (x : Place). has (without p (s.lists name j)) x ≡ true) (sym e) still)

    rest_serves : (k : ℕ) → k ≤ n - r → HasBlock t name k
    rest_serves k few =
        let d = ls.on_list name (list_for (n - r)) q rest_on in
        let long : 16 + length d.rest ≡ n - r = sym (deleted_len t.heap q d.h d.rest d.there) ∙ ap block_len (c.parted le).behind in
        record { list = list_for (n - r); at = q; on = rest_on; h = d.h; rest = d.rest; there = d.there; long = omega (arith, long, few) }

  other_stays : (i : ℕ) (b : Place) → same p b ≡ false → has (s.lists name i) b ≡ true → ground t.heap b ≡ ground s.heap b
  other_stays i b ne on = elim (cases_Bool (nat_lt n (r + 32))) [
    | inl y ↦ c.whole (grind (arith, nat_tests, y)) b
    | inr m ↦ let le : r + 32 ≤ n = grind (arith, nat_tests, m) in (c.parted le).others b ne (not_rest le i b ne on)
  ]

  -- A block of as many bytes as are asked for now and later leaves a block for what comes later.
  pub added_serves : (h : DeletedHeader) (rest : List ℕ) → s.heap p ≡ Some (deleted h rest) → n ≡ 16 + length rest → (k : ℕ) → 32 ≤ k → HasBlock s name (r + k) → HasBlock t name k
  added_serves h rest there is k some b = elim (cases_Bool (same p b.at)) [
    | inl y ↦
        let long : 16 + length rest ≡ 16 + length b.rest = sym (deleted_len s.heap p h rest there) ∙ ap (λ (x : Place). block_len (ground s.heap x)) (same_is p b.at y) ∙ deleted_len s.heap b.at b.h b.rest b.there in
        let few = b.long in
        rest_serves (omega (arith, long, few, is, some)) k (omega (arith, long, few, is))
    | inr m ↦ shorter t name (r + k) k (omega arith) (kept_block s t name (r + k) ls b (other_on b.list b.at m b.on) (other_stays b.list b.at m b.on))
  ]

-- ---- taking a place

has_middle : (xs ys : List Place) (p : Place) → has (xs ++ p ∷ ys) p ≡ true
has_middle [] ys p = has_here p ys p (same_own p)
has_middle (x ∷ xs) ys p = has_more x (xs ++ p ∷ ys) p (has_middle xs ys p)

pub chosen_block : (s : Shape) (name : List ℕ) (r list : ℕ) (link : DiskLoc) (p : Place) → IsChosen s name r list link p → HasBlock s name r
chosen_block s name r list link p c = record {
  list = list;
  at = p;
  on = ap (λ (xs : List Place). has xs p) c.is ∙ has_middle c.before c.after p;
  h = c.h;
  rest = c.rest;
  there = c.there;
  long = c.long;
}

pub no_block : (s : Shape) (name : List ℕ) (r n : ℕ) → NoBlock s name r → r ≤ n → HasBlock s name n → ⊥
no_block s name r n none le b = (let l = b.long in let few = none b.list b.at b.h b.rest b.on b.there in omega (arith, l, few, le))

module _ (image : Image) (s t : Shape) (free name : List ℕ) (p : Place) (r : ℕ) (payload : List ℕ) (ls : ListsStand t) (x : IsAllocated image s t free name p r payload) (k : ℕ) (some : 32 ≤ k) where
  grown_serves : HasBlock x.grown name (r + k) → HasBlock t name k
  grown_serves b = added_serves x.grown t name p r (16 + length x.chosen.rest) payload ls x.added x.chosen.h x.chosen.rest x.chosen.there refl k some b

  -- Where a block of the namespace is long enough for this request and for those to come, no extent is added, and a block for those to come is left.
  pub alloc_serves : HasBlock s name (r + k) → HasBlock t name k
  alloc_serves b = elim x.is_grown [
    | inl e ↦ grown_serves (subst (λ (m : Shape). HasBlock m name (r + k)) (sym e) b)
    | inr g ↦ absurd (no_block s name r (r + k) g.0 (omega arith) b)
  ]

  -- Where none was long enough, the new extent leaves a block of what the request doesn't take of it.
  pub alloc_leaves : NoBlock s name r → r + k + 176 ≤ extent_len s name r → HasBlock t name k
  alloc_leaves none enough = elim x.is_grown [
    | inl e ↦ absurd (no_block s name r r none (omega arith) (subst (λ (m : Shape). HasBlock m name r) e (chosen_block x.grown name r x.list x.before p x.chosen)))
    | inr g ↦ grown_serves (fresh g.1.0 g.1.1.0 g.1.1.1)
  ]
    where
      fresh : (e : Place) (n : ℕ) → IsExtended image s x.grown free name (extent_len s name r) e n → HasBlock x.grown name (r + k)
      fresh e n y = record {
        list = list_for (n - 176);
        at = behind_of e 176;
        on = ap (λ (xs : List Place). has xs (behind_of e 176)) (y.lists name (list_for (n - 176)) ∙ ap (λ (b : Bool). if b then behind_of e 176 ∷ s.lists name (list_for (n - 176)) else s.lists name (list_for (n - 176))) own) ∙ has_here (behind_of e 176) (s.lists name (list_for (n - 176))) (behind_of e 176) (same_own (behind_of e 176));
        h = y.block;
        rest = y.room;
        there = y.behind;
        long = (let l = y.long in let m = y.room_long in omega (arith, l, m, enough));
      }
        where
          equal : (list_for (n - 176) == list_for (n - 176)) ≡ true
          equal = grind (arith, nat_tests)

          own : (is_name name name && list_for (n - 176) == list_for (n - 176)) ≡ true
          own = (λ i. name_own name name refl i && equal i)
