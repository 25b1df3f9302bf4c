-- What a writer of a frame, or of a field of one, owes, from the laws of parts of bytes.
use Rattle.std.proofs.Common.{◌≡◌, ℕ, ◌+◌, ◌≤◌, List, length, sym, ap, ◌∙◌, arith}
use Rattle.mm_bytes.specs.Parts.{part, overwritten}
pub use Rattle.mm_bytes.proofs.Parts.{length-part, length-overwritten, part-overwritten, part_before, part_behind, part-part, part_front, overwritten_on, length_joined, part_first, part_second, part_left, part_right, part_whole, joined_parts, overwritten_whole, part_around}
use Rattle.mm_base.specs.Bytes.{Puts, PutsField}

-- what a writer of a frame owes, from what it wrote and the law of its spelling
pub puts : {X : Type 0} (n : ℕ) (bytes_of : X → List ℕ) (of : List ℕ → X) (at : ℕ) (x : X) (old new : List ℕ)
    → at ≤ length old → length (bytes_of x) ≡ n → of (bytes_of x) ≡ x → new ≡ overwritten at (bytes_of x) old → Puts n bytes_of of at x old new
puts n bytes_of of at x old new le len law is = record {
  long = len;
  spelled = is;
  again = ap (λ (b : List ℕ). of (part at n b)) is ∙ ap of (part-overwritten at n (bytes_of x) old le len) ∙ law;
  elsewhere = record {
    before = λ q m low. ap (part q m) is ∙ part_before q m at (bytes_of x) old low le;
    behind = λ q m high. ap (part q m) is ∙ part_behind q m at (bytes_of x) old (omega (arith, len)) le;
  };
}

-- a frame that was written, as a part of the bytes, and in an array of its own
pub puts_part : {X : Type 0} (n : ℕ) (bytes_of : X → List ℕ) (of : List ℕ → X) (at : ℕ) (x : X) (old new : List ℕ) → at ≤ length old → Puts n bytes_of of at x old new → part at n new ≡ bytes_of x
puts_part n bytes_of of at x old new le put = ap (part at n) put.spelled ∙ part-overwritten at n (bytes_of x) old le put.long

pub record Whole {X : Type 0} (bytes_of : X → List ℕ) (of : List ℕ → X) (x : X) (new : List ℕ) : Type 0 where
  pub spelled : new ≡ bytes_of x
  pub again : of new ≡ x

pub puts_whole : {X : Type 0} (n : ℕ) (bytes_of : X → List ℕ) (of : List ℕ → X) (x : X) (old new : List ℕ) → length old ≡ n → Puts n bytes_of of 0 x old new → Whole bytes_of of x new
puts_whole n bytes_of of x old new len put =
    let is : new ≡ bytes_of x = put.spelled ∙ overwritten_whole (bytes_of x) old (put.long ∙ sym len) in
    record { spelled = is; again = sym (ap of (part_whole n new (ap length is ∙ put.long))) ∙ put.again }

-- what a writer of one field owes, from what it wrote and the law of that field
pub puts_field : {X : Type 0} (n k : ℕ) (field : List ℕ) (of : List ℕ → X) (at : ℕ) (x : X) (old new : List ℕ)
    → k + length field ≤ n → at + n ≤ length old → of (overwritten k field (part at n old)) ≡ x → new ≡ overwritten (at + k) field old → PutsField n k field of at x old new
puts_field n k field of at x old new inside room law is = record {
  spelled = is;
  again = ap (λ (b : List ℕ). of (part at n b)) is ∙ ap of (part_around at n k field old inside room) ∙ law;
  elsewhere = record {
    before = λ q m low. ap (part q m) is ∙ part_before q m (at + k) field old low (omega arith);
    behind = λ q m high. ap (part q m) is ∙ part_behind q m (at + k) field old high (omega arith);
  };
}

-- for the proof of a writer, and of a caller with several frames in one buffer
pub ruleset parts = (length-part, length-overwritten, part-overwritten, part_before, part_behind, part_front, part-part, part_around)
