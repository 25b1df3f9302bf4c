-- What a crash may leave of a file goes on to be so, call by call.
use Rattle.std.proofs.Common.{◌≡◌, inl, inr, ℕ, Bool, true, false, cond, ◌+◌, ◌<◌, max, min, List, [], ◌∷◌, ◌++◌, length, get_or, refl, sym, ◌∙◌, ap, subst, arith, length-append}
use mathlib.Core.Bool.{true≢false}
use Rattle.std.proofs.lemmas.Bool.{cases_eq}
use Rattle.std.proofs.lemmas.List.{get_or_append_left}
use Rattle.std.proofs.Math.Seq.{get_or-append_seam}
use Rattle.std.specs.Prelude.{◌&&◌, ◌||◌, nat_le, nat_lt}
use Rattle.mm_bytes.specs.Files.{overwritten, resized}
use Rattle.mm_bytes.proofs.Files.{get_or-resized, length-resized, get_or-overwritten, length-overwritten}
use Rattle.mm_outside.specs.Told.{Pending, IsTorn, is_in}

out_of_both : (a b : Bool) → (a || b) ≡ false → (a ≡ false) × (b ≡ false)
out_of_both true b e = absurd (true≢false e)
out_of_both false b e = (refl, e)

-- ---- a write

abbrev after_write : ℕ → ℕ → Pending → Pending
after_write at end p = record p { greatest = max p.greatest end; ranges = (at, end) ∷ p.ranges }

module _ (at : ℕ) (new : List ℕ) where
  put_in : (done : Bool) (bytes : List ℕ) (i : ℕ) → (nat_le at i && nat_lt i (at + length new)) ≡ false → get_or (cond done (overwritten at new bytes) bytes) i 0 ≡ get_or bytes i 0
  put_in true bytes i out = get_or-overwritten at new bytes i out
  put_in false bytes i out = refl

  -- what may have been left before may be left, whether or not it is written over
  pub torn_write : (done over : Bool) (bytes left : List ℕ) (p : Pending) → IsTorn bytes p left → IsTorn (cond done (overwritten at new bytes) bytes) (after_write at (at + length new) p) (cond over (overwritten at new left) left)
  torn_write done true bytes left p t =
      let sized = length-overwritten at new left in
      record {
        no_shorter = omega (arith, sized, t.no_shorter);
        no_longer = omega (arith, sized, t.no_longer);
        same = λ i lt out. let both = out_of_both _ _ out in get_or-overwritten at new left i both.0 ∙ t.same i lt both.1 ∙ sym (put_in done bytes i both.0);
      }
  torn_write done false bytes left p t = record {
    no_shorter = t.no_shorter;
    no_longer = omega (arith, t.no_longer);
    same = λ i lt out. let both = out_of_both _ _ out in t.same i lt both.1 ∙ sym (put_in done bytes i both.0);
  }

-- ---- another length

abbrev after_length : ℕ → Pending → Pending
after_length len p = record p { least = min p.least len; greatest = max p.greatest len }

cut : (len : ℕ) (done : Bool) (bytes : List ℕ) (i : ℕ) → i < len → get_or (cond done (resized len bytes) bytes) i 0 ≡ get_or bytes i 0
cut len true bytes i lt = get_or-resized len bytes i lt
cut len false bytes i lt = refl

pub torn_length : (len : ℕ) (done over : Bool) (bytes left : List ℕ) (p : Pending) → IsTorn bytes p left → IsTorn (cond done (resized len bytes) bytes) (after_length len p) (cond over (resized len left) left)
torn_length len done true bytes left p t =
    let sized = length-resized len left in
    record {
      no_shorter = omega (arith, sized);
      no_longer = omega (arith, sized);
      same = λ i lt out. get_or-resized len left i (omega (arith, lt)) ∙ t.same i (omega (arith, lt)) out ∙ sym (cut len done bytes i (omega (arith, lt)));
    }
torn_length len done false bytes left p t = record {
  no_shorter = omega (arith, t.no_shorter);
  no_longer = omega (arith, t.no_longer);
  same = λ i lt out. t.same i (omega (arith, lt)) out ∙ sym (cut len done bytes i (omega (arith, lt)));
}

pub torn_itself : (bytes : List ℕ) (ranges : List (ℕ × ℕ)) (unsure : Bool) → IsTorn bytes (record { least = length bytes; greatest = length bytes; ranges = ranges; is_unsure = unsure }) bytes
torn_itself bytes ranges unsure = record { no_shorter = omega arith; no_longer = omega arith; same = λ i lt out. refl }

-- ---- bytes that are drawn one after another

pub record DrawnTo (bytes : List ℕ) (at : ℕ) (now : List ℕ) (least : ℕ) (ranges : List (ℕ × ℕ)) : Type 0 where
  pub sized : length bytes ≡ at
  pub same : (i : ℕ) → i < at → i < least → is_in i ranges ≡ false → get_or bytes i 0 ≡ get_or now i 0

pub drawn_more : (bytes new : List ℕ) (b at : ℕ) (now : List ℕ) (least : ℕ) (ranges : List (ℕ × ℕ)) → length bytes ≡ at → new ≡ bytes ++ b ∷ [] → ((i : ℕ) → i < at → i < least → is_in i ranges ≡ false → get_or bytes i 0 ≡ get_or now i 0)
    → (at < least → is_in at ranges ≡ false → b ≡ get_or now at 0) → DrawnTo new (at + 1) now least ranges
drawn_more bytes new b at now least ranges size is same next = record {
  sized = ap length is ∙ length-append bytes (b ∷ []) ∙ ap (λ n. n + 1) size;
  same = λ i lt small out. elim (cases_eq i at) [
    | inl e ↦ ap (λ (l : List ℕ). get_or l i 0) is ∙ ap (λ n. get_or (bytes ++ b ∷ []) n 0) (e ∙ sym size) ∙ get_or-append_seam bytes b [] 0 ∙ next (subst (λ n. n < least) e small) (subst (λ n. is_in n ranges ≡ false) e out) ∙ ap (λ n. get_or now n 0) (sym e)
    | inr ne ↦ ap (λ (l : List ℕ). get_or l i 0) is ∙ get_or_append_left bytes (b ∷ []) 0 i (omega (arith, lt, ne, size)) ∙ same i (omega (arith, lt, ne)) small out
  ];
}
