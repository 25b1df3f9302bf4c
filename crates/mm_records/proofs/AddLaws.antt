-- The steps of adding a record, put together.
use Rattle.std.proofs.Common.{◌≡◌, ℕ, ◌+◌, ◌-◌, ◌<◌, ◌≤◌, inl, inr, Bool, true, false, List, ◌∷◌, length, take, Option, Some, refl, sym, ◌∙◌, ap, arith}
use Rattle.std.specs.Prelude.{◌&&◌, ◌==◌, not, nat_lt, if◌then◌else◌}
use Rattle.std.specs.Option.{option_map}
use Rattle.std.proofs.lemmas.Bool.{cases_Bool}
use Rattle.std.proofs.lemmas.Bool.Decides.{nat_tests}
use Rattle.std.proofs.lemmas.List.{length-take-le, take_all}
use Rattle.mm_base.specs.Bytes.{part, overwritten}
use Rattle.mm_base.proofs.Parts.{length-overwritten, part-overwritten}
use Rattle.mm_links.specs.Links.{Place}
use Rattle.mm_extents.specs.Changes.{behind_of}
use Rattle.mm_records.specs.Constants.{is_name}
use Rattle.mm_records.specs.Shape.{Shape, list_for}
use Rattle.mm_records.specs.Map.{live_at, IsRewritten}
use Rattle.mm_records.specs.Taking.{IsTaken}
use Rattle.mm_records.specs.Shortening.{IsShortened}
use Rattle.mm_records.specs.Adding.{kept_of, is_rest, IsCut, IsAdded}

front_part : (n : ℕ) (xs : List ℕ) → take n xs ≡ part 0 n xs
unfolding part
front_part n xs = refl

pub kept_whole : (r n : ℕ) → n < r + 32 → kept_of r n ≡ n
kept_whole r n lt = let yes' : nat_lt n (r + 32) ≡ true = grind (arith, nat_tests) in ap (λ (b : Bool). if b then n else r) yes'

pub kept_front : (r n : ℕ) → r + 32 ≤ n → kept_of r n ≡ r
kept_front r n le = let no : nat_lt n (r + 32) ≡ false = grind (arith, nat_tests) in ap (λ (b : Bool). if b then n else r) no

-- a record that keeps all
pub cut_whole : (s : Shape) (name : List ℕ) (p : Place) (r : ℕ) (room : List ℕ) → live_at s name p ≡ Some room → 16 + length room < r + 32 → IsCut s s name p r room
cut_whole s name p r room lv lt = record {
  here = lv ∙ ap (λ (xs : List ℕ). Some xs) (sym (ap (λ (k : ℕ). take (k - 16) room) (kept_whole r (16 + length room) lt) ∙ take_all (16 + length room - 16) room (omega arith)));
  others = λ m q ne. refl;
  extents = λ m. refl;
  records = λ e. refl;
  lists = λ m i. sym (none m i);
  whole = λ _ q. refl;
  parted = λ le. absurd (omega (arith, lt, le));
}
  where
    none : (m : List ℕ) (i : ℕ) → (if is_rest name r (16 + length room) m i then behind_of p r ∷ s.lists m i else s.lists m i) ≡ s.lists m i
    none m i = let yes' : nat_lt (16 + length room) (r + 32) ≡ true = grind (arith, nat_tests) in
        ap (λ (b : Bool). if (not b && (is_name m name && i == list_for (16 + length room - r))) then behind_of p r ∷ s.lists m i else s.lists m i) yes'

-- one that was shortened
pub cut_short : (s t : Shape) (name : List ℕ) (p : Place) (r : ℕ) (room : List ℕ) → r + 32 ≤ 16 + length room → IsShortened s t name p r room → IsCut s t name p r room
cut_short s t name p r room le c = record {
  here = c.here ∙ ap (λ (k : ℕ). Some (take (k - 16) room)) (sym (kept_front r (16 + length room) le));
  others = c.others;
  extents = c.extents;
  records = c.records;
  lists = λ m i. c.lists m i ∙ (let no : nat_lt (16 + length room) (r + 32) ≡ false = grind (arith, nat_tests) in
      sym (ap (λ (b : Bool). if (not b && (is_name m name && i == list_for (16 + length room - r))) then behind_of p r ∷ s.lists m i else s.lists m i) no));
  whole = λ lt. absurd (omega (arith, le, lt));
  parted = λ _. c.parted;
}

-- how long the room of a cut record is
pub cut_long : (r : ℕ) (room : List ℕ) → 32 ≤ r → r ≤ 16 + length room → 16 + length (take (kept_of r (16 + length room) - 16) room) ≡ kept_of r (16 + length room)
cut_long r room front le = elim (cases_Bool (nat_lt (16 + length room) (r + 32))) [
  | inl y ↦
      let k : kept_of r (16 + length room) ≡ 16 + length room = ap (λ (b : Bool). if b then 16 + length room else r) y in
      let l = length-take-le (kept_of r (16 + length room) - 16) room (omega (arith, k)) in
      omega (arith, k, l)
  | inr n ↦
      let k : kept_of r (16 + length room) ≡ r = ap (λ (b : Bool). if b then 16 + length room else r) n in
      let l = length-take-le (kept_of r (16 + length room) - 16) room (omega (arith, k, le, front)) in
      omega (arith, k, l, front)
]

pub kept_least : (r n : ℕ) → r ≤ n → r ≤ kept_of r n
kept_least r n le = elim (cases_Bool (nat_lt n (r + 32))) [
  | inl y ↦ let k : kept_of r n ≡ n = ap (λ (b : Bool). if b then n else r) y in omega (arith, k, le)
  | inr m ↦ let k : kept_of r n ≡ r = ap (λ (b : Bool). if b then n else r) m in omega (arith, k)
]

-- taken, cut, and written to
pub added : (s s1 s2 t : Shape) (name : List ℕ) (p : Place) (r : ℕ) (rest payload : List ℕ) → 32 ≤ r → r ≤ 16 + length rest → length payload + 16 ≤ r
    → IsTaken s s1 name p rest → IsCut s1 s2 name p r rest → IsRewritten s2 t p (overwritten 0 payload (take (kept_of r (16 + length rest) - 16) rest))
    → IsAdded s t name p r (16 + length rest) payload
added s s1 s2 t name p r rest payload front long fits a b c =
    let k = kept_of r (16 + length rest) in
    let cut = cut_long r rest front long in
    let least = kept_least r (16 + length rest) long in
    let inside : 0 + length payload ≤ length (take (k - 16) rest) = omega (arith, cut, least, fits) in
    let same_long = length-overwritten 0 payload (take (k - 16) rest) inside in
    record {
      fresh = a.fresh;
      room = overwritten 0 payload (take (k - 16) rest);
      here = c.here name ∙ ap (λ (o : Option (List ℕ)). option_map (λ _. overwritten 0 payload (take (k - 16) rest)) o) b.here;
      front = front_part (length payload) (overwritten 0 payload (take (k - 16) rest)) ∙ part-overwritten 0 (length payload) payload (take (k - 16) rest) (omega arith) refl;
      long = omega (arith, same_long, cut);
      others = λ m q ne. c.others m q ne ∙ b.others m q ne ∙ a.others m q ne;
      of = a.of;
      of_name = a.of_name;
      extents = λ m. c.extents m ∙ b.extents m ∙ a.extents m;
      records = λ e. c.records e ∙ b.records e ∙ a.records e;
      lists = λ m i. c.lists m i ∙ b.lists m i ∙ ap (λ (xs : List Place). if is_rest name r (16 + length rest) m i then behind_of p r ∷ xs else xs) (a.lists m i);
      whole = λ lt q. c.layout q ∙ b.whole lt q ∙ a.layout q;
      parted = λ le.
          let x = b.parted le in
          record {
            ext = x.ext;
            len = x.len;
            was = sym (a.layout p) ∙ x.was;
            front = c.layout p ∙ x.front;
            behind = c.layout (behind_of p r) ∙ x.behind;
            others = λ q m n. c.layout q ∙ x.others q m n ∙ a.layout q;
          };
    }
