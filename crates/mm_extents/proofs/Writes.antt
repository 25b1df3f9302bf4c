-- Bytes written inside what stands at one place.
use Rattle.std.proofs.Common.{◌≡◌, ℕ, ◌+◌, ◌-◌, ◌<◌, ◌≤◌, ◌⊎◌, inl, inr, Bool, true, false, cond, List, [], ◌++◌, length, take, drop, Option, Some, None, refl, sym, ◌∙◌, ap, subst, arith, append_assoc}
use Rattle.std.proofs.lemmas.Bool.{cases_lt, cases_Bool, eqb-true, eq-eqb, false≢true}
use Rattle.std.proofs.lemmas.List.{append-nil, drop-drop}
use Rattle.std.specs.Prelude.{replicate, unwrap_or, ◌==◌, ◌&&◌}
use Rattle.std.specs.Option.{option_map}
use Rattle.std.specs.FinMap.{get}
use Rattle.mm_base.specs.Bytes.{part, overwritten}
use Rattle.mm_base.proofs.Parts.{length-overwritten, part_before, part_behind}
use Rattle.mm_ranges.specs.Bytes.{resized}
use Rattle.mm_ranges.specs.Bytes as ranges
use Rattle.mm_ranges.specs.Overlay.{Image, bytes_at, laid}
use Rattle.mm_ranges.proofs.Overlaying.{get-laid}
use Rattle.mm_frames.specs.ExtentHeader.{extent_header_of}
use Rattle.mm_frames.specs.RecHeader.{rec_header_of}
use Rattle.mm_frames.specs.DeletedHeader.{deleted_header_of}
use Rattle.mm_links.specs.Links.{Place, same}
use Rattle.mm_links.proofs.LinkLaws.{same_is, same_own, if_true, if_false}
use Rattle.mm_extents.specs.Changes.{len_of}
use Rattle.mm_extents.specs.Heap.{Cell, extent, live, deleted, size, Heap, Shows, IsHeap, change}

-- ---- files

same_overwritten : (at : ℕ) (bytes old : List ℕ) → at ≤ length old → ranges.overwritten at bytes old ≡ overwritten at bytes old
unfolding overwritten
same_overwritten at bytes old le =
    let none : at - length old ≡ 0 = omega arith in
    let front : resized at old ≡ take at old = ap (λ (n : ℕ). take at old ++ replicate n 0) none ∙ append-nil (take at old) in
    ap (λ (xs : List ℕ). xs ++ bytes ++ drop (at + length bytes) old) front ∙ append_assoc (take at old) bytes (drop (at + length bytes) old)
    ∙ ap (λ (xs : List ℕ). take at old ++ (bytes ++ xs)) (sym (drop-drop (length bytes) at old))

pub laid_here : (image : Image) (file at : ℕ) (bytes : List ℕ) → at ≤ length (bytes_at image file) → bytes_at (laid file at bytes image) file ≡ overwritten at bytes (bytes_at image file)
laid_here image file at bytes le =
    ap (λ (o : Option (List ℕ)). unwrap_or o []) (get-laid file at bytes image file ∙ ap (λ (b : Bool). cond b (Some (ranges.overwritten at bytes (bytes_at image file))) (get image file)) (eq-eqb file file refl))
    ∙ same_overwritten at bytes (bytes_at image file) le

pub laid_elsewhere : (image : Image) (file at g : ℕ) (bytes : List ℕ) → (g == file) ≡ false → bytes_at (laid file at bytes image) g ≡ bytes_at image g
laid_elsewhere image file at g bytes ne =
    ap (λ (o : Option (List ℕ)). unwrap_or o []) (get-laid file at bytes image g ∙ ap (λ (b : Bool). cond b (Some (ranges.overwritten at bytes (bytes_at image file))) (get image g)) ne)

-- no file becomes longer or shorter by what is written inside it
pub len_laid : (image : Image) (file at : ℕ) (bytes : List ℕ) (g : ℕ) → 0 < at + length bytes → at + length bytes ≤ length (bytes_at image file) → len_of (laid file at bytes image) g ≡ len_of image g
len_laid image file at bytes g some le = elim (cases_Bool (g == file)) [
  | inl y ↦ ap (λ (o : Option (List ℕ)). option_map length o) (get-laid file at bytes image g ∙ ap (λ (b : Bool). cond b (Some (ranges.overwritten at bytes (bytes_at image file))) (get image g)) y)
      ∙ known (get image file) refl ∙ ap (len_of image) (sym (eqb-true g file y))
  | inr n ↦ ap (λ (o : Option (List ℕ)). option_map length o) (get-laid file at bytes image g ∙ ap (λ (b : Bool). cond b (Some (ranges.overwritten at bytes (bytes_at image file))) (get image g)) n)
]
  where
    same_len : length (ranges.overwritten at bytes (bytes_at image file)) ≡ length (bytes_at image file)
    same_len = ap length (same_overwritten at bytes (bytes_at image file) (omega (arith, le))) ∙ length-overwritten at bytes (bytes_at image file) le

    known : (o : Option (List ℕ)) → get image file ≡ o → Some (length (ranges.overwritten at bytes (bytes_at image file))) ≡ len_of image file
    known None e = absurd (let z : length (bytes_at image file) ≡ 0 = ap (λ (o : Option (List ℕ)). length (unwrap_or o [])) e in omega (arith, z, some, le))
    known (Some b) e = ap (λ (n : ℕ). Some n) (same_len ∙ ap (λ (o : Option (List ℕ)). length (unwrap_or o [])) e) ∙ sym (ap (λ (o : Option (List ℕ)). option_map length o) e)

-- ---- cells

-- the parts of a cell are the same
abbrev pub SameParts : ℕ → ℕ → List ℕ → List ℕ → Type 0
SameParts at n old new = (q m : ℕ) → at ≤ q → q + m ≤ at + n → part q m new ≡ part q m old

pub shows_same : (c : Cell) (at : ℕ) (old new : List ℕ) → SameParts at (size c) old new → Shows old at c → Shows new at c
shows_same (extent h) at old new s e = ap extent_header_of (s at 176 (omega arith) (omega arith)) ∙ e
shows_same (live h room) at old new s e = (ap rec_header_of (s at 16 (omega arith) (omega arith)) ∙ e.0, s (at + 16) (length room) (omega arith) (omega arith) ∙ e.1)
shows_same (deleted h rest) at old new s e = (ap deleted_header_of (s at 16 (omega arith) (omega arith)) ∙ e.0, s (at + 16) (length rest) (omega arith) (omega arith) ∙ e.1)

pub changed_here : (p : Place) (g : Cell → Cell) (heap : Heap) (c : Cell) → heap p ≡ Some c → change p g heap p ≡ Some (g c)
changed_here p g heap c e = if_true (same p p) (option_map g (heap p)) (heap p) (same_own p) ∙ ap (option_map g) e

pub changed_there : (p q : Place) (g : Cell → Cell) (heap : Heap) → same p q ≡ false → change p g heap q ≡ heap q
changed_there p q g heap ne = if_false (same p q) (option_map g (heap q)) (heap q) ne

-- what was there before a change: the same at another place, and the one that was changed at its own
pub record Was (p : Place) (g : Cell → Cell) (heap : Heap) (q : Place) (d : Cell) : Type 0 where
  pub old : Cell
  pub there : heap q ≡ Some old
  pub is : ((q ≡ p) × (d ≡ g old)) ⊎ ((same p q ≡ false) × (d ≡ old))

pub was : (p : Place) (g : Cell → Cell) (heap : Heap) (q : Place) (d : Cell) → change p g heap q ≡ Some d → Was p g heap q d
was p g heap q d e = elim (cases_Bool (same p q)) [
  | inl y ↦ at_place (heap q) refl (sym (if_true (same p q) (option_map g (heap q)) (heap q) y) ∙ e) (sym (same_is p q y))
  | inr n ↦ record { old = d; there = sym (changed_there p q g heap n) ∙ e; is = inr (n, refl) }
]
  where
    at_place : (o : Option Cell) → heap q ≡ o → option_map g o ≡ Some d → q ≡ p → Was p g heap q d
    at_place None f e i = absurd cc
    at_place (Some c) f e i = record { old = c; there = f; is = inl (i, (let h : Some (g c) ≡ Some d = e in cc)) }

-- One cell is changed by bytes that lie inside it, and is as long as before.
pub heap_changed : (image : Image) (heap : Heap) (p : Place) (c : Cell) (g : Cell → Cell) (k : ℕ) (bytes : List ℕ)
    → IsHeap image heap → heap p ≡ Some c → size (g c) ≡ size c → k + length bytes ≤ size c
    → Shows (bytes_at (laid p.0 (p.1 + k) bytes image) p.0) p.1 (g c) → IsHeap (laid p.0 (p.1 + k) bytes image) (change p g heap)
heap_changed image heap p c g k bytes is here sizes fits shows =
    let room = is.inside p c here in
    let le : p.1 + k ≤ length (bytes_at image p.0) = omega arith in
    let new = laid p.0 (p.1 + k) bytes image in
    record {
      data_file = λ q d e. let w = was p g heap q d e in is.data_file q w.old w.there;
      behind_header = λ q d e. let w = was p g heap q d e in is.behind_header q w.old w.there;
      inside = λ q d e. inside q d (was p g heap q d e);
      shown = λ q d e. shown q d (was p g heap q d e);
      apart = λ f a b c1 d1 e1 e2 lt.
          let w1 = was p g heap (f, a) c1 e1 in let w2 = was p g heap (f, b) d1 e2 in
          let s1 = sized (f, a) c1 w1 in
          let old = is.apart f a b w1.old w2.old w1.there w2.there lt in
          omega (arith, s1, old);
    }
  where
    sized : (q : Place) (d : Cell) (w : Was p g heap q d) → size d ≡ size w.old
    sized q d w = elim (w.is) [
      | inl h ↦ let same_cell : w.old ≡ c = (let a : Some w.old ≡ Some c = sym w.there ∙ ap heap h.0 ∙ here in cc) in ap size h.1 ∙ ap (λ (x : Cell). size (g x)) same_cell ∙ sizes ∙ ap size (sym same_cell)
      | inr h ↦ ap size h.1
    ]

    long : (f : ℕ) → length (bytes_at (laid p.0 (p.1 + k) bytes image) f) ≡ length (bytes_at image f)
    long f = elim (cases_Bool (f == p.0)) [
      | inl y ↦ let r = is.inside p c here in
          ap (λ (x : ℕ). length (bytes_at (laid p.0 (p.1 + k) bytes image) x)) (eqb-true f p.0 y)
          ∙ ap length (laid_here image p.0 (p.1 + k) bytes (omega (arith, r, fits))) ∙ length-overwritten (p.1 + k) bytes (bytes_at image p.0) (omega (arith, r, fits))
          ∙ ap (λ (x : ℕ). length (bytes_at image x)) (sym (eqb-true f p.0 y))
      | inr n ↦ ap length (laid_elsewhere image p.0 (p.1 + k) f bytes n)
    ]

    inside : (q : Place) (d : Cell) → Was p g heap q d → q.1 + size d ≤ length (bytes_at (laid p.0 (p.1 + k) bytes image) q.0)
    inside q d w = let a = is.inside q w.old w.there in let b = long q.0 in let s = sized q d w in omega (arith, a, b, s)

    -- a place in another file, or one that lies before or behind the change
    apart_parts : (q : Place) (d : Cell) → heap q ≡ Some d → same p q ≡ false → SameParts q.1 (size d) (bytes_at image q.0) (bytes_at (laid p.0 (p.1 + k) bytes image) q.0)
    apart_parts q d e ne = elim (cases_Bool (q.0 == p.0)) [
      | inr n ↦ λ x m lo hi. ap (part x m) (laid_elsewhere image p.0 (p.1 + k) q.0 bytes n)
      | inl y ↦ λ x m lo hi.
          let file = eqb-true q.0 p.0 y in
          let r = is.inside p c here in
          let moved : bytes_at (laid p.0 (p.1 + k) bytes image) q.0 ≡ overwritten (p.1 + k) bytes (bytes_at image p.0) =
          ap (λ (f : ℕ). bytes_at (laid p.0 (p.1 + k) bytes image) f) file ∙ laid_here image p.0 (p.1 + k) bytes (omega (arith, r, fits)) in
          let e' : heap (p.0, q.1) ≡ Some d = ap (λ (f : ℕ). heap (f, q.1)) (sym file) ∙ e in
          ap (part x m) moved ∙ elim (cases_lt q.1 p.1) [
            | inl below ↦ let a = is.apart p.0 q.1 p.1 d c e' here below in part_before x m (p.1 + k) bytes (bytes_at image p.0) (omega (arith, a, hi)) (omega (arith, r, fits))
            | inr up ↦ elim (cases_lt p.1 q.1) [
              | inl above ↦ let a = is.apart p.0 p.1 q.1 c d here e' above in part_behind x m (p.1 + k) bytes (bytes_at image p.0) (omega (arith, a, lo, fits)) (omega (arith, r, fits))
              | inr down ↦ absurd (false≢true (sym ne ∙ both_eq (eq-eqb p.0 q.0 (sym file)) (eq-eqb p.1 q.1 (omega (arith, up, down)))))
            ]
          ] ∙ ap (λ (f : ℕ). part x m (bytes_at image f)) (sym file)
    ]
      where
        both_eq : (p.0 == q.0) ≡ true → (p.1 == q.1) ≡ true → same p q ≡ true
        both_eq a b = ap (λ (t : Bool). t && (p.1 == q.1)) a ∙ b

    shown : (q : Place) (d : Cell) → Was p g heap q d → Shows (bytes_at (laid p.0 (p.1 + k) bytes image) q.0) q.1 d
    shown q d w = elim (w.is) [
      | inl h ↦
          let same_cell : w.old ≡ c = (let a : Some w.old ≡ Some c = sym w.there ∙ ap heap h.0 ∙ here in cc) in
          subst (λ (x : Cell). Shows (bytes_at (laid p.0 (p.1 + k) bytes image) q.0) q.1 x) (sym (h.1 ∙ ap g same_cell))
          (subst (λ (x : Place). Shows (bytes_at (laid p.0 (p.1 + k) bytes image) x.0) x.1 (g c)) (sym h.0) shows)
      | inr h ↦ subst (λ (x : Cell). Shows (bytes_at (laid p.0 (p.1 + k) bytes image) q.0) q.1 x) (sym h.1)
          (shows_same w.old q.1 (bytes_at image q.0) (bytes_at (laid p.0 (p.1 + k) bytes image) q.0) (apart_parts q w.old w.there h.0) (is.shown q w.old w.there))
    ]

-- files whose data are the same
pub heap_same : (old new : Image) (heap : Heap) → ((f : ℕ) → f < 8 → bytes_at new f ≡ bytes_at old f) → IsHeap old heap → IsHeap new heap
heap_same old new heap same_files is = record {
  data_file = is.data_file;
  behind_header = is.behind_header;
  inside = λ p c e. let a = is.inside p c e in let b = ap length (same_files p.0 (is.data_file p c e)) in omega (arith, a, b);
  shown = λ p c e. subst (λ (xs : List ℕ). Shows xs p.1 c) (sym (same_files p.0 (is.data_file p c e))) (is.shown p c e);
  apart = is.apart;
}
