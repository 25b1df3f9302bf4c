-- Laws of parts of bytes, and of bytes with a part written over.
use Rattle.std.proofs.Common.{◌≡◌, ℕ, ◌+◌, ◌-◌, ◌≤◌, List, [], ◌++◌, length, take, drop, refl, sym, ap, ◌∙◌, append_assoc, arith, length-append, length-drop}
use Rattle.std.proofs.lemmas.List.{take_at, drop_at, length-take, length-take-le, take-append-le, take-take, drop-take, drop-drop, drop-append-le, take_all, drop_all, take-append-drop, append-nil}
use Rattle.std.proofs.Math.Seq.{take-append-add}
use Rattle.mm_bytes.specs.Parts.{part, overwritten}

pub length-part : (at n : ℕ) (bytes : List ℕ) → at + n ≤ length bytes → length (part at n bytes) ≡ n
unfolding part
length-part at n bytes le = length-take-le n (drop at bytes) (omega (arith, length-drop at bytes))

pub length-overwritten : (at : ℕ) (new bytes : List ℕ) → at + length new ≤ length bytes → length (overwritten at new bytes) ≡ length bytes
unfolding overwritten
length-overwritten at new bytes le = omega (arith, length-append (take at bytes) (new ++ drop (length new) (drop at bytes)), length-append new (drop (length new) (drop at bytes)), length-drop (length new) (drop at bytes), length-drop at bytes, length-take at bytes)

-- what was written is there
pub part-overwritten : (at n : ℕ) (new bytes : List ℕ) → at ≤ length bytes → length new ≡ n → part at n (overwritten at new bytes) ≡ new
unfolding part overwritten
part-overwritten at n new bytes le len = ap (take n) (drop_at (take at bytes) (new ++ drop (length new) (drop at bytes)) at (length-take-le at bytes le)) ∙ take_at new (drop (length new) (drop at bytes)) n len

-- a part that lies before it is as it was
pub part_before : (at n p : ℕ) (new bytes : List ℕ) → at + n ≤ p → p ≤ length bytes → part at n (overwritten p new bytes) ≡ part at n bytes
unfolding part overwritten
part_before at n p new bytes before le =
    let rest = new ++ drop (length new) (drop p bytes) in
    let front : at + n ≤ length (take p bytes) = omega (arith, length-take p bytes) in
    sym (drop-take at n (take p bytes ++ rest)) ∙ ap (drop at) (take-append-le (at + n) (take p bytes) rest front ∙ take-take (at + n) p bytes before) ∙ drop-take at n bytes

-- what lies behind what was written
drop_behind : (at p : ℕ) (new bytes : List ℕ) → p + length new ≤ at → p ≤ length bytes → drop at (overwritten p new bytes) ≡ drop at bytes
unfolding overwritten
drop_behind at p new bytes behind le =
    let j = at - (p + length new) in
    let whole : at ≡ p + (length new + j) = omega arith in
    let rest = drop (length new) (drop p bytes) in
    let one : drop p (take p bytes ++ (new ++ rest)) ≡ new ++ rest = drop_at (take p bytes) (new ++ rest) p (length-take-le p bytes le) in
    let two : drop (length new) (new ++ rest) ≡ rest = drop_at new rest (length new) refl in
    ap (λ (k : ℕ). drop k (take p bytes ++ (new ++ rest))) whole
    ∙ sym (drop-drop (length new + j) p (take p bytes ++ (new ++ rest)))
    ∙ ap (drop (length new + j)) one
    ∙ sym (drop-drop j (length new) (new ++ rest))
    ∙ ap (drop j) two
    ∙ drop-drop j (length new) (drop p bytes)
    ∙ drop-drop (length new + j) p bytes
    ∙ ap (λ (k : ℕ). drop k bytes) (sym whole)

-- a part that lies behind it is as it was
pub part_behind : (at n p : ℕ) (new bytes : List ℕ) → p + length new ≤ at → p ≤ length bytes → part at n (overwritten p new bytes) ≡ part at n bytes
unfolding part
part_behind at n p new bytes behind le = ap (take n) (drop_behind at p new bytes behind le)

-- a part of a part
pub part-part : (k m at n : ℕ) (bytes : List ℕ) → k + m ≤ n → part k m (part at n bytes) ≡ part (at + k) m bytes
unfolding part
part-part k m at n bytes le =
    sym (drop-take k m (take n (drop at bytes))) ∙ ap (drop k) (take-take (k + m) n (drop at bytes) le) ∙ drop-take k m (drop at bytes) ∙ ap (take m) (drop-drop k at bytes)

pub part_front : (m at n : ℕ) (bytes : List ℕ) → m ≤ n → part 0 m (part at n bytes) ≡ part at m bytes
unfolding part
part_front m at n bytes le = take-take m n (drop at bytes) le

-- what is written right behind what was written
pub overwritten_on : (at k : ℕ) (first second bytes : List ℕ) → length first ≡ k → at + k ≤ length bytes → overwritten (at + k) second (overwritten at first bytes) ≡ overwritten at (first ++ second) bytes
unfolding overwritten
overwritten_on at k first second bytes len le =
    let rest = drop (length first) (drop at bytes) in
    let front : length (take at bytes ++ first) ≡ at + k = omega (arith, length-append (take at bytes) first, length-take at bytes) in
    let regrouped : take at bytes ++ (first ++ rest) ≡ (take at bytes ++ first) ++ rest = sym (append_assoc (take at bytes) first rest) in
    let taken : take (at + k) (take at bytes ++ (first ++ rest)) ≡ take at bytes ++ first = ap (take (at + k)) regrouped ∙ take_at (take at bytes ++ first) rest (at + k) front in
    let left : drop (at + k) (take at bytes ++ (first ++ rest)) ≡ rest = ap (drop (at + k)) regrouped ∙ drop_at (take at bytes ++ first) rest (at + k) front in
    let sum : length (first ++ second) ≡ length first + length second = length-append first second in
    let end : drop (length (first ++ second)) (drop at bytes) ≡ drop (length second) rest = ap (λ (j : ℕ). drop j (drop at bytes)) sum ∙ sym (drop-drop (length second) (length first) (drop at bytes)) in
    rw (taken, left, end) (append_assoc (take at bytes) first (second ++ drop (length second) rest) ∙ ap (λ (x : List ℕ). take at bytes ++ x) (sym (append_assoc first second (drop (length second) rest))))

pub length_joined : (xs ys : List ℕ) → length (xs ++ ys) ≡ length xs + length ys
length_joined xs ys = length-append xs ys

-- a part of joined bytes
pub part_first : (n : ℕ) (xs ys : List ℕ) → length xs ≡ n → part 0 n (xs ++ ys) ≡ xs
unfolding part
part_first n xs ys len = take_at xs ys n len

pub part_second : (k m n : ℕ) (xs ys : List ℕ) → length xs ≡ n → part (n + k) m (xs ++ ys) ≡ part k m ys
unfolding part
part_second k m n xs ys len = ap (take m) (sym (drop-drop k n (xs ++ ys)) ∙ ap (drop k) (drop_at xs ys n len))

-- a part of joined bytes that lies in the first ones, and the last ones themselves
pub part_left : (k m : ℕ) (xs ys : List ℕ) → k + m ≤ length xs → part k m (xs ++ ys) ≡ part k m xs
unfolding part
part_left k m xs ys le = sym (drop-take k m (xs ++ ys)) ∙ ap (drop k) (take-append-le (k + m) xs ys le) ∙ drop-take k m xs

pub part_right : (k m : ℕ) (xs ys : List ℕ) → length xs ≡ k → length ys ≡ m → part k m (xs ++ ys) ≡ ys
unfolding part
part_right k m xs ys at_k len = ap (take m) (drop_at xs ys k at_k) ∙ take_all m ys (omega (arith, len))

pub part_whole : (n : ℕ) (xs : List ℕ) → length xs ≡ n → part 0 n xs ≡ xs
unfolding part
part_whole n xs len = ap (part 0 n) (sym (append-nil xs)) ∙ part_first n xs [] len

-- two parts that stand one behind the other
pub joined_parts : (k m : ℕ) (xs : List ℕ) → length xs ≡ k + m → part 0 k xs ++ part k m xs ≡ xs
unfolding part
joined_parts k m xs len = ap (λ (ys : List ℕ). take k xs ++ ys) (take_all m (drop k xs) (omega (arith, len, length-drop k xs))) ∙ take-append-drop k xs

-- a frame that is written over a buffer of its length
pub overwritten_whole : (new bytes : List ℕ) → length new ≡ length bytes → overwritten 0 new bytes ≡ new
unfolding overwritten
overwritten_whole new bytes len = ap (λ (ys : List ℕ). new ++ ys) (drop_all (length new) bytes (omega (arith, len))) ∙ append-nil new

-- a write inside a part
pub part_around : (at n k : ℕ) (new bytes : List ℕ) → k + length new ≤ n → at + n ≤ length bytes → part at n (overwritten (at + k) new bytes) ≡ overwritten k new (part at n bytes)
unfolding part overwritten
part_around at n k new bytes inside le =
    let xs = drop at bytes in
    let len = length new in
    let i = n - (k + len) in
    let whole : n ≡ k + (len + i) = omega arith in
    let back : drop len (drop (at + k) bytes) ≡ drop len (drop k xs) = ap (drop len) (sym (drop-drop k at bytes)) in
    let rest = drop len (drop k xs) in
    let front : at ≤ length (take (at + k) bytes) = omega (arith, length-take (at + k) bytes) in
    let left : drop at (take (at + k) bytes ++ (new ++ rest)) ≡ take k xs ++ (new ++ rest) = drop-append-le at (take (at + k) bytes) (new ++ rest) front ∙ ap (λ (x : List ℕ). x ++ (new ++ rest)) (drop-take at k bytes) in
    let taken : length (take k xs) ≡ k = omega (arith, length-take k xs, length-drop at bytes) in
    let cut : take n (take k xs ++ (new ++ rest)) ≡ take k xs ++ (new ++ take i rest) =
    ap (λ (j : ℕ). take j (take k xs ++ (new ++ rest))) (whole ∙ ap (λ (j : ℕ). j + (len + i)) (sym taken))
    ∙ take-append-add (take k xs) (new ++ rest) (len + i)
    ∙ ap (λ (x : List ℕ). take k xs ++ x) (take-append-add new rest i) in
    let right : drop len (drop k (take n xs)) ≡ take i rest =
    ap (λ (j : ℕ). drop len (drop k (take j xs))) whole ∙ ap (drop len) (drop-take k (len + i) xs) ∙ drop-take len i (drop k xs) in
    ap (λ (x : List ℕ). take n (drop at (take (at + k) bytes ++ (new ++ x)))) back ∙ ap (take n) left ∙ cut
    ∙ sym (ap (λ (x : List ℕ). x ++ (new ++ drop len (drop k (take n xs)))) (take-take k n xs (omega arith)) ∙ ap (λ (x : List ℕ). take k xs ++ (new ++ x)) right)
