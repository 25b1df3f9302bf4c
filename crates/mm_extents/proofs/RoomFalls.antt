-- How the room of the files falls.
use Rattle.std.proofs.Common.{◌≡◌, ℕ, ℤ, pos, suc, zero, ◌+◌, ◌-◌, ◌*◌, ◌<◌, ◌≤◌, inl, inr, Bool, false, List, Option, Some, None, refl, sym, ◌∙◌, ap, arith}
use Rattle.std.specs.Prelude.{◌==◌, if◌then◌else◌, nat_lt}
use Rattle.std.proofs.lemmas.Bool.{cases_Bool, eqb-true, cases_lt}
use Rattle.std.proofs.lemmas.Bool.Decides.{nat_tests}
use Rattle.mm_base.specs.Bytes.{part}
use Rattle.mm_ranges.specs.Overlay.{Image, bytes_at}
use Rattle.mm_extents.specs.Changes.{len_of, KeepsHeaders}
use Rattle.mm_extents.specs.Files.{file_len, header_unused, unused_in}
use Rattle.mm_extents.specs.Rests.{IsLast}
use Rattle.mm_extents.specs.Room.{unused_rest, room_with, room_upto, room, LowersRoom}

pub room_is : (image : Image) → room image ≡ room_upto image 8
unfolding room
room_is image = refl

-- ---- one file

last_gives : (image : Image) (k n u : ℕ) → len_of image k ≡ Some n → unused_in image k ≡ Some (pos u) → room_upto image (suc k) ≡ file_len k - u
last_gives image k n u there known = ap (λ (o : Option ℕ). room_with k o (unused_in image k) (room_upto image k)) there ∙ ap (unused_rest k) known

absent_gives : (image : Image) (k : ℕ) → len_of image k ≡ None → room_upto image (suc k) ≡ (file_len k - 8192) + room_upto image k
absent_gives image k none = ap (λ (o : Option ℕ). room_with k o (unused_in image k) (room_upto image k)) none

-- ---- headers that stay

room_same : (old new : Image) → ((g : ℕ) → len_of new g ≡ len_of old g) → ((g : ℕ) → unused_in new g ≡ unused_in old g) → (n : ℕ) → room_upto new n ≡ room_upto old n
room_same old new l u zero = refl
room_same old new l u (suc k) = ap (λ (o : Option ℕ). room_with k o (unused_in new k) (room_upto new k)) (l k) ∙ ap (λ (z : Option ℤ). room_with k (len_of old k) z (room_upto new k)) (u k)
    ∙ ap (room_with k (len_of old k) (unused_in old k)) (room_same old new l u k)

pub room_stays : (old new : Image) → ((g : ℕ) → len_of new g ≡ len_of old g) → ((g : ℕ) → unused_in new g ≡ unused_in old g) → room new ≡ room old
room_stays old new l u = room_is new ∙ room_same old new l u 8 ∙ sym (room_is old)

pub unused_kept : (old new : Image) → KeepsHeaders old new → (g : ℕ) → unused_in new g ≡ unused_in old g
unused_kept old new k g = ap (λ (b : List ℕ). if nat_lt g 8 then header_unused b else None) (k.headers g)

pub room_kept : (old new : Image) → KeepsHeaders old new → room new ≡ room old
room_kept old new k = room_stays old new k.lengths (unused_kept old new k)

-- the data files stay
pub room_files : (old new : Image) → ((g : ℕ) → len_of new g ≡ len_of old g) → ((g : ℕ) → g < 8 → bytes_at new g ≡ bytes_at old g) → room new ≡ room old
room_files old new lens files = room_stays old new lens (λ g. elim (cases_lt g 8) [
  | inl lt ↦ ap (λ (b : List ℕ). if nat_lt g 8 then header_unused (part 0 8192 b) else None) (files g lt)
  | inr ge ↦ let no' : nat_lt g 8 ≡ false = grind (arith, nat_tests) in
      ap (λ (b : Bool). if b then header_unused (part 0 8192 (bytes_at new g)) else None) no' ∙ sym (ap (λ (b : Bool). if b then header_unused (part 0 8192 (bytes_at old g)) else None) no')
])

-- ---- bytes that are cut from an unused rest

module _ (old new : Image) (f u len : ℕ) (lens : (g : ℕ) → len_of new g ≡ len_of old g) (off : (g : ℕ) → (g == f) ≡ false → unused_in new g ≡ unused_in old g)
    (was : unused_in old f ≡ Some (pos u)) (now : unused_in new f ≡ Some (pos (u + len))) where
  cut_upto : (n : ℕ) → (room_upto old n ≤ room_upto new n + len) × (room_upto new n ≤ room_upto old n)
  cut_upto zero = (omega arith, omega arith)
  cut_upto (suc k) = by (cut_upto k) (len_of old k) refl
    where
      by : (room_upto old k ≤ room_upto new k + len) × (room_upto new k ≤ room_upto old k) → (o : Option ℕ) → len_of old k ≡ o → (room_upto old (suc k) ≤ room_upto new (suc k) + len) × (room_upto new (suc k) ≤ room_upto old (suc k))
      by i None e =
          let lo = i.0 in
          let hi = i.1 in
          let a = absent_gives old k e in
          let b = absent_gives new k (lens k ∙ e) in
          (omega (arith, a, b, lo), omega (arith, a, b, hi))
      by i (Some m) e = elim (cases_Bool (k == f)) [
        | inl y ↦
            let z = eqb-true k f y in
            let a = last_gives old k m u e (ap (unused_in old) z ∙ was) in
            let b = last_gives new k m (u + len) (lens k ∙ e) (ap (unused_in new) z ∙ now) in
            (omega (arith, a, b), omega (arith, a, b))
        | inr n ↦
            let a = ap (λ (o : Option ℕ). room_with k o (unused_in old k) (room_upto old k)) e in
            let b = ap (λ (o : Option ℕ). room_with k o (unused_in new k) (room_upto new k)) (lens k ∙ e) ∙ ap (unused_rest k) (off k n) in
            (omega (arith, a, b), omega (arith, a, b))
      ]

  pub cut_lowers : LowersRoom len old new
  cut_lowers = let a = room_is old in let b = room_is new in let i = cut_upto 8 in let lo = i.0 in let hi = i.1 in record { most = omega (arith, a, b, lo); no_rise = omega (arith, a, b, hi) }

-- ---- a file that is made

module _ (old new : Image) (k u : ℕ) (last : IsLast old k) (known : unused_in old k ≡ Some (pos u)) (next : IsLast new (k + 1)) (fresh : unused_in new (k + 1) ≡ Some (pos 8192)) where
  made_upto : (m : ℕ) → k + 2 ≤ m → m ≤ 8 → room_upto old m ≡ room_upto new m + (file_len k - u)
  made_upto zero ge le = absurd (omega (arith, ge))
  made_upto (suc m) ge le = elim (cases_lt (k + 1) m) [
    | inl lt ↦
        let i = made_upto m (omega (arith, lt)) (omega (arith, le)) in
        let a = absent_gives old m (last.none m (omega (arith, lt)) (omega (arith, le))) in
        let b = absent_gives new m (next.none m lt (omega (arith, le))) in
        omega (arith, a, b, i)
    | inr few ↦
        let is : m ≡ k + 1 = omega (arith, few, ge) in
        let one : m ≡ suc k = omega (arith, is) in
        let a = absent_gives old m (last.none m (omega (arith, is)) (omega (arith, le))) in
        let b = last_gives new m (file_len (k + 1)) 8192 (ap (len_of new) is ∙ next.there) (ap (unused_in new) is ∙ fresh) in
        let d = ap (room_upto old) one ∙ last_gives old k (file_len k) u last.there known in
        omega (arith, a, b, d)
  ]

  pub made_lowers : room old ≡ room new + (file_len k - u)
  made_lowers = let a = room_is old in let b = room_is new in let low = next.low in let i = made_upto 8 (omega (arith, low)) (omega arith) in omega (arith, a, b, i)

-- ---- files that were made and are too short

doubles : (k : ℕ) → k < 6 → file_len (suc k) ≡ 2 * file_len k
doubles zero lt = refl
doubles (suc zero) lt = refl
doubles (suc (suc zero)) lt = refl
doubles (suc (suc (suc zero))) lt = refl
doubles (suc (suc (suc (suc zero)))) lt = refl
doubles (suc (suc (suc (suc (suc zero))))) lt = refl
doubles (suc (suc (suc (suc (suc (suc k)))))) lt = absurd (omega (arith, lt))

-- The last file is that one now, and the room fell with those before it; as each but the first is twice as long as the one before it, they gave less than twice the length that was asked for.
pub record IsPassed (old now : Image) (file u len : ℕ) : Type 0 where
  pub unused : unused_in now file ≡ Some (pos u)
  pub few : file_len file < u + len
  pub fell : file ≤ 6 → room old + (file_len file - u) ≤ room now + 3 * len
  pub doubled : file ≤ 6 → room old + (file_len file - u) ≤ room now + (len + 2 * (file_len file - 8192))
  pub no_rise : room now ≤ room old

pub none_passed : (old : Image) (file u len : ℕ) → unused_in old file ≡ Some (pos u) → file_len file < u + len → IsPassed old old file u len
none_passed old file u len known few = record { unused = known; few = few; fell = λ le. omega (arith, few); doubled = λ le. omega (arith, few); no_rise = omega arith }

pub one_passed : (old mid new : Image) (file u len : ℕ) → IsPassed old mid file u len → room mid ≡ room new + (file_len file - u) → unused_in new (file + 1) ≡ Some (pos 8192) → 1048576 ≤ file_len file → file_len (file + 1) < 8192 + len → IsPassed old new (file + 1) 8192 len
one_passed old mid new file u len p is fresh least few =
    let up = p.no_rise in
    let twice : file + 1 ≤ 6 → room old + (file_len (file + 1) - 8192) ≤ room new + (len + 2 * (file_len (file + 1) - 8192)) = λ le.
    let d = p.doubled (omega (arith, le)) in
    let e : file_len (suc file) ≡ 2 * file_len file = doubles file (omega (arith, le)) in
    let s : file + 1 ≡ suc file = omega arith in
    let same = ap file_len s in
    omega (arith, d, e, same, is, least)
    in
    record {
      unused = fresh;
      few = few;
      fell = λ le. let d = twice le in omega (arith, d, few);
      doubled = twice;
      no_rise = omega (arith, up, is);
    }

pub passed_lowers : (old mid new : Image) (file u len : ℕ) → IsPassed old mid file u len → file ≤ 6 → room mid ≡ room new + (file_len file - u) → LowersRoom (3 * len) old new
passed_lowers old mid new file u len p le is = let f = p.fell le in let up = p.no_rise in record { most = omega (arith, f, is); no_rise = omega (arith, up, is) }

-- ---- one after the other

pub lowers_none : (old new : Image) (n : ℕ) → room new ≡ room old → LowersRoom n old new
lowers_none old new n e = record { most = omega (arith, e); no_rise = omega (arith, e) }

pub lowers_both : (a b c : Image) (n m k : ℕ) → LowersRoom n a b → LowersRoom m b c → n + m ≤ k → LowersRoom k a c
lowers_both a b c n m k x y le =
    let p = x.most in
    let q = y.most in
    let r = x.no_rise in
    let s = y.no_rise in
    record { most = omega (arith, p, q, le); no_rise = omega (arith, r, s) }
