-- What the tests of the code come to.
use Rattle.std.proofs.Common.{◌≡◌, ℕ, ℤ, pos, negsuc, ◌+◌, ◌≤◌, Bool, true, false, List, Option, Some, None, refl, sym, ◌∙◌, ap, subst, nat_abs, int_lt}
use Rattle.std.specs.Prelude.{◌&&◌, ◌==◌, not, nat_le}
use Rattle.std.specs.Str.{bytes_eq}
use Rattle.std.proofs.lemmas.Bool.{false≢true}
use Rattle.std.proofs.lemmas.Bool.Decides.{same_from_decides}
use Rattle.std.proofs.lemmas.Slice.Eq.{bytes_eq-Decides}
use Rattle.mm_ranges.specs.Overlay.{Image}
use Rattle.mm_frames.specs.FileHeader.{file_header_bytes}
use Rattle.mm_frames.specs.declared.extent_header.ExtentHeader.{ExtentHeader}
use Rattle.mm_links.specs.Links.{Place, has}
use Rattle.mm_extents.specs.Files.{file_len, header_with}
use Rattle.mm_records.specs.Constants.{is_name}
use Rattle.mm_records.proofs.Freed.{name_own, name_is}
use Rattle.mm_walk.specs.declared.walk.Link.{Link}
use Rattle.mm_check.specs.RecordChain.{place_link, names_place}
use Rattle.mm_check.specs.ExtentChain.{ext_at, ext_size, is_named_extent, read_chained}
use Rattle.mm_check.specs.ListChain.{lies_in_own}
use Rattle.mm_check.specs.FileQuestions.{unused_of, is_header}
use Rattle.mm_check.proofs.RecordLaws.{if_yes, if_no, and_of, nat_le_of, eq_of}

pub bytes_name : (xs ys : List ℕ) → bytes_eq xs ys ≡ is_name xs ys
bytes_name xs ys = same_from_decides (bytes_eq xs ys) (is_name xs ys) (bytes_eq-Decides xs ys) (name_is xs ys, name_own xs ys)

of_not : (b : Bool) → not b ≡ true → b ≡ false
of_not true e = absurd (false≢true e)
of_not false e = refl

of_not_false : (b : Bool) → not b ≡ false → b ≡ true
of_not_false true e = refl
of_not_false false e = absurd (false≢true (sym e))

middle_false : (a b c : Bool) → b ≡ false → ((a && b) && c) ≡ false
middle_false true b c e = ap (λ (x : Bool). x && c) e
middle_false false b c e = refl

right_false : (a b : Bool) → b ≡ false → (a && b) ≡ false
right_false true b e = e
right_false false b e = refl

-- ---- extents of a node

module _ (image : Image) (all : List Place) (field : List ℕ) (before : Option Place) (p : Place) (h : ExtentHeader) (is : h ≡ ext_at image p) where
  pub wrong_name : (r : Bool) → r ≡ not (bytes_eq h.namespace field) → r ≡ true → None ≡ read_chained image all field before p
  wrong_name r e t =
      let n : is_name (ext_at image p).namespace field ≡ false = ap (λ (x : ExtentHeader). is_name x.namespace field) (sym is) ∙ sym (bytes_name h.namespace field) ∙ of_not _ (sym e ∙ t) in
      sym (if_no (is_named_extent image all field p && names_place (ext_at image p).xprev before) _ None (middle_false (has all p) (is_name (ext_at image p).namespace field) (names_place (ext_at image p).xprev before) n))

  pub wrong_prev : (r : Bool) → r ≡ names_place h.xprev before → r ≡ false → None ≡ read_chained image all field before p
  wrong_prev r e t =
      let n : names_place (ext_at image p).xprev before ≡ false = ap (λ (x : ExtentHeader). names_place x.xprev before) (sym is) ∙ sym e ∙ t in
      sym (if_no (is_named_extent image all field p && names_place (ext_at image p).xprev before) _ None (right_false (is_named_extent image all field p) (names_place (ext_at image p).xprev before) n))

  pub right_next : (r s : Bool) (l : Link) → has all p ≡ true → r ≡ not (bytes_eq h.namespace field) → r ≡ false → s ≡ names_place h.xprev before → s ≡ true → l ≡ place_link image h.xnext → Some l ≡ read_chained image all field before p
  right_next r s l there e f g t k =
      let n : is_name (ext_at image p).namespace field ≡ true = ap (λ (x : ExtentHeader). is_name x.namespace field) (sym is) ∙ sym (bytes_name h.namespace field) ∙ of_not_false _ (sym e ∙ f) in
      let m : names_place (ext_at image p).xprev before ≡ true = ap (λ (x : ExtentHeader). names_place x.xprev before) (sym is) ∙ sym g ∙ t in
      ap (λ (x : Link). Some x) (k ∙ ap (λ (x : ExtentHeader). place_link image x.xnext) is)
      ∙ sym (if_yes (is_named_extent image all field p && names_place (ext_at image p).xprev before) (Some (place_link image (ext_at image p).xnext)) None (and_of _ _ (and_of _ _ there n) m))

-- ---- the extent of a block

pub nonneg_abs : (z : ℤ) → int_lt z (pos 0) ≡ false → z ≡ pos (nat_abs z)
nonneg_abs (pos n) e = refl
nonneg_abs (negsuc n) e = absurd (false≢true (sym e))

pub own_none : (image : Image) (own : List Place) (p : Place) (z : ℤ) (a : ℕ) (r : Bool) → z ≡ pos a → r ≡ has own (p.0, a) → r ≡ false → false ≡ lies_in_own image own p z
own_none image own p z a r e h f = sym (ap (λ (x : ℤ). lies_in_own image own p x) e ∙ ap (λ (b : Bool). b && (nat_le (a + 176) p.1 && nat_le (p.1 + 16) (a + ext_size image (p.0, a)))) (sym h ∙ f))

pub own_is : (image : Image) (own : List Place) (p : Place) (z : ℤ) (a len : ℕ) (r : Bool) → z ≡ pos a → has own (p.0, a) ≡ true → len ≡ ext_size image (p.0, a) → r ≡ ((p.0 == p.0) && (nat_le (a + 176) p.1 && nat_le (p.1 + 16) (a + len))) → r ≡ lies_in_own image own p z
own_is image own p z a len r e h l f =
    f ∙ ap (λ (b : Bool). b && (nat_le (a + 176) p.1 && nat_le (p.1 + 16) (a + len))) (eq_of p.0 p.0 refl)
    ∙ ap (λ (n : ℕ). nat_le (a + 176) p.1 && nat_le (p.1 + 16) (a + n)) l
    ∙ sym (ap (λ (x : ℤ). lies_in_own image own p x) e ∙ ap (λ (b : Bool). b && (nat_le (a + 176) p.1 && nat_le (p.1 + 16) (a + ext_size image (p.0, a)))) h)

-- ---- a file's header

and_true : (a b : Bool) → b ≡ true → (a && b) ≡ a
and_true true b e = e
and_true false b e = refl

pub header_test : (k u : ℕ) (hd h frame : List ℕ) (r : Bool) → u ≡ unused_of hd → 8192 ≤ u → u ≤ file_len k → h ≡ hd → frame ≡ file_header_bytes (header_with k u) → r ≡ bytes_eq h frame → r ≡ is_header k hd
header_test k u hd h frame r e lo hi f g t =
    t ∙ (λ i. bytes_eq (f i) (g i)) ∙ bytes_name hd (file_header_bytes (header_with k u)) ∙ ap (λ (v : ℕ). is_name hd (file_header_bytes (header_with k v))) e
    ∙ sym (and_true (is_name hd (file_header_bytes (header_with k (unused_of hd)))) (nat_le 8192 (unused_of hd) && nat_le (unused_of hd) (file_len k))
    (subst (λ (v : ℕ). (nat_le 8192 v && nat_le v (file_len k)) ≡ true) e (and_of _ _ (nat_le_of 8192 u lo) (nat_le_of u (file_len k) hi))))
