-- A list of values that was written is read.
use Rattle.std.proofs.Common.{◌≡◌, ℕ, suc, zero, ◌+◌, ◌*◌, ◌<◌, ◌≤◌, ◌⊎◌, inl, inr, map, List, [], ◌∷◌, ◌++◌, length, get_or, take, sym, ap, ◌∙◌, arith, length-append}
use Rattle.std.specs.List.{flat_map, range_with_len}
use Rattle.std.proofs.lemmas.Bool.{cases_lt}
use Rattle.std.proofs.lemmas.List.{flat_map_more, take_more, length-take, take-append-drop, get_or-set_other, length-set}
use Rattle.std.proofs.lemmas.Grind.{get_or-set_at}
use Rattle.std.specs.Prelude.{slice_set}
use Rattle.std.proofs.Math.ListN.{set}
use Rattle.std.proofs.Math.Nat.{mul-le-mul_left}
use Rattle.std.proofs.lemmas.List.FromFn.{fill_by_all, get_or-map-range_with_len, length-map-range_with_len}
use Rattle.mm_base.specs.Bytes.{part, overwritten}
use Rattle.mm_base.specs.Lists.{list_of, list_bytes}
use Rattle.mm_base.proofs.Parts.{part_first, part_second, part-part, part_before, part_behind, part-overwritten, overwritten_on}

pub length-list_bytes : {X : Type 0} (w : ℕ) (bytes_of : X → List ℕ) (xs : List X) → ((x : X) → length (bytes_of x) ≡ w) → length (list_bytes bytes_of xs) ≡ w * length xs
unfolding list_bytes
length-list_bytes w bytes_of [] len = omega arith
length-list_bytes w bytes_of (x ∷ xs) len = omega (arith, length-append (bytes_of x) (flat_map bytes_of xs), len x, length-list_bytes w bytes_of xs len)

-- the bytes of one of the values
part_of_list : {X : Type 0} (w : ℕ) (bytes_of : X → List ℕ) (xs : List X) (k : ℕ) (d : X) → ((x : X) → length (bytes_of x) ≡ w) → k < length xs → part (w * k) w (list_bytes bytes_of xs) ≡ bytes_of (get_or xs k d)
unfolding list_bytes
part_of_list w bytes_of [] k d len lt = absurd (omega arith)
part_of_list w bytes_of (x ∷ xs) zero d len lt = ap (λ (j : ℕ). part j w (bytes_of x ++ flat_map bytes_of xs)) (omega arith) ∙ part_first w (bytes_of x) (flat_map bytes_of xs) (len x)
part_of_list w bytes_of (x ∷ xs) (suc k) d len lt =
    ap (λ (j : ℕ). part j w (bytes_of x ++ flat_map bytes_of xs)) (omega arith) ∙ part_second (w * k) w w (bytes_of x) (flat_map bytes_of xs) (len x) ∙ part_of_list w bytes_of xs k d len (omega arith)

pub list_again : {X : Type 0} (w n : ℕ) (bytes_of : X → List ℕ) (of : List ℕ → X) (xs : List X) (d : X) → ((x : X) → length (bytes_of x) ≡ w) → length xs ≡ n
    → ((k : ℕ) → k < n → of (bytes_of (get_or xs k d)) ≡ get_or xs k d) → list_of w of n (list_bytes bytes_of xs) ≡ xs
unfolding list_of
list_again w n bytes_of of xs d len n-is law =
    sym (fill_by_all (λ i. of (part (w * i) w (list_bytes bytes_of xs))) xs n d n-is (λ k lt. sym (ap of (part_of_list w bytes_of xs k d len (omega arith)) ∙ law k lt)))

-- the end of a loop that reads
pub list_read : {X : Type 0} (w n : ℕ) (of : List ℕ → X) (at : ℕ) (bytes : List ℕ) (xs : List X) (d : X) → length xs ≡ n
    → ((k : ℕ) → k < n → get_or xs k d ≡ of (part (at + w * k) w bytes)) → xs ≡ list_of w of n (part at (w * n) bytes)
unfolding list_of
list_read w n of at bytes xs d len each =
    fill_by_all (λ i. of (part (w * i) w (part at (w * n) bytes))) xs n d len (λ k lt.
    let next : suc k ≤ n = omega arith in
    let inside : w * k + w ≤ w * n = omega (arith, mul-le-mul_left w next) in
    each k lt ∙ ap of (sym (part-part (w * k) w at (w * n) bytes inside)))

-- a loop that writes
pub list_written_none : {X : Type 0} (bytes_of : X → List ℕ) (at : ℕ) (bytes : List ℕ) → bytes ≡ overwritten at (list_bytes bytes_of []) bytes
unfolding list_bytes overwritten
list_written_none bytes_of at bytes = sym (take-append-drop at bytes)

pub list_written_more : {X : Type 0} (w : ℕ) (bytes_of : X → List ℕ) (at i : ℕ) (xs : List X) (d : X) (old now new : List ℕ) → ((x : X) → length (bytes_of x) ≡ w) → i < length xs → at + w * length xs ≤ length old
    → now ≡ overwritten at (list_bytes bytes_of (take i xs)) old → new ≡ overwritten (at + w * i) (bytes_of (get_or xs i d)) now → new ≡ overwritten at (list_bytes bytes_of (take (i + 1) xs)) old
unfolding list_bytes
list_written_more w bytes_of at i xs d old now new len lt room so_far step =
    let below : i ≤ length xs = omega arith in
    let inside : w * i ≤ w * length xs = mul-le-mul_left w below in
    let taken : length (take i xs) ≡ i = omega (arith, length-take i xs) in
    let front : length (list_bytes bytes_of (take i xs)) ≡ w * i = length-list_bytes w bytes_of (take i xs) len ∙ ap (λ (j : ℕ). w * j) taken in
    let joined : flat_map bytes_of (take i xs) ++ bytes_of (get_or xs i d) ≡ flat_map bytes_of (take (i + 1) xs) = flat_map_more bytes_of [] (take i xs) (get_or xs i d) ∙ ap (flat_map bytes_of) (sym (take_more xs i d lt)) in
    step ∙ ap (overwritten (at + w * i) (bytes_of (get_or xs i d))) so_far
    ∙ overwritten_on at (w * i) (flat_map bytes_of (take i xs)) (bytes_of (get_or xs i d)) old front (omega arith)
    ∙ ap (λ (x : List ℕ). overwritten at x old) joined

-- the k-th value, where the i-th one was written
value_before : {X : Type 0} (w i k : ℕ) (of : List ℕ → X) (new bytes : List ℕ) → k < i → w * i ≤ length bytes → of (part (w * k) w (overwritten (w * i) new bytes)) ≡ of (part (w * k) w bytes)
value_before w i k of new bytes before room =
    let next : suc k ≤ i = before in
    ap of (part_before (w * k) w (w * i) new bytes (omega (arith, mul-le-mul_left w next)) room)

value_behind : {X : Type 0} (w i k : ℕ) (of : List ℕ → X) (new bytes : List ℕ) → length new ≡ w → i < k → w * i ≤ length bytes → of (part (w * k) w (overwritten (w * i) new bytes)) ≡ of (part (w * k) w bytes)
value_behind w i k of new bytes len behind room =
    let next : suc i ≤ k = behind in
    ap of (part_behind (w * k) w (w * i) new bytes (omega (arith, mul-le-mul_left w next)) room)

value_set : {X : Type 0} (w n i : ℕ) (bytes_of : X → List ℕ) (of : List ℕ → X) (x : X) (bytes : List ℕ) (xs : List X) → length (bytes_of x) ≡ w → of (bytes_of x) ≡ x → length xs ≡ n → i < n → w * i ≤ length bytes
    → ((j : ℕ) → j < n → get_or xs j x ≡ of (part (w * j) w bytes)) → (k : ℕ) → k < n → (k < i) ⊎ (i ≤ k) → (i < k) ⊎ (k ≤ i)
    → get_or (set xs i x) k x ≡ of (part (w * k) w (overwritten (w * i) (bytes_of x) bytes))
value_set w n i bytes_of of x bytes xs len law count at_i room each k at_k (inl before) _ =
    get_or-set_other xs i k x x (omega arith) ∙ each k at_k ∙ sym (value_before w i k of (bytes_of x) bytes before room)
value_set w n i bytes_of of x bytes xs len law count at_i room each k at_k (inr _) (inl behind) =
    get_or-set_other xs i k x x (omega arith) ∙ each k at_k ∙ sym (value_behind w i k of (bytes_of x) bytes len behind room)
value_set w n i bytes_of of x bytes xs len law count at_i room each k at_k (inr up) (inr down) =
    get_or-set_at xs i k x x (omega arith) (omega arith)
    ∙ sym (ap (λ (j : ℕ). of (part (w * j) w (overwritten (w * i) (bytes_of x) bytes))) (omega arith) ∙ ap of (part-overwritten (w * i) w (bytes_of x) bytes room len) ∙ law)

-- one value of a list is written
pub list_set : {X : Type 0} (w n i : ℕ) (bytes_of : X → List ℕ) (of : List ℕ → X) (x : X) (bytes : List ℕ) → length (bytes_of x) ≡ w → of (bytes_of x) ≡ x → i < n → w * n ≤ length bytes
    → list_of w of n (overwritten (w * i) (bytes_of x) bytes) ≡ slice_set (list_of w of n bytes) i x
unfolding list_of
list_set w n i bytes_of of x bytes len law at_i room =
    let value = λ (j : ℕ). of (part (w * j) w bytes) in
    let xs = map value (range_with_len 0 n) in
    let count : length xs ≡ n = length-map-range_with_len value 0 n in
    let below : i ≤ n = omega arith in
    let inside : w * i ≤ length bytes = omega (arith, mul-le-mul_left w below) in
    let each = value_set w n i bytes_of of x bytes xs len law count at_i inside (λ j at_j. get_or-map-range_with_len value 0 n j j x at_j (omega arith)) in
    sym (fill_by_all (λ j. of (part (w * j) w (overwritten (w * i) (bytes_of x) bytes))) (set xs i x) n x (length-set xs i x ∙ count) (λ k at_k. each k at_k (cases_lt k i) (cases_lt i k)))

pub length-list_of : {X : Type 0} (w n : ℕ) (of : List ℕ → X) (bytes : List ℕ) → length (list_of w of n bytes) ≡ n
unfolding list_of
length-list_of w n of bytes = length-map-range_with_len (λ i. of (part (w * i) w bytes)) 0 n
