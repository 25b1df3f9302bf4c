-- What a durable side begins with.
use Rattle.std.proofs.Common.{◌≡◌, inl, inr, ℕ, zero, suc, ◌+◌, ◌^◌, ◌<◌, ◌≤◌, Bool, true, false, cond, ◌||◌, List, [], ◌∷◌, length, get_or, drop, map, count_by, refl, sym, ◌∙◌, ap, subst, arith, true≢false}
use Rattle.std.specs.declared.cmp.Ordering.{Ordering}
use Rattle.std.specs.declared.cmp.Ordering.TheVariants.{Less, Equal, Greater}
use Rattle.std.specs.Ordering.{nat_cmp, is_lt, is_eq, eq_by_cmp, ordering_reverse}
use Rattle.std.specs.Cmp.Lexicographic.{slice_cmp}
use Rattle.std.specs.List.Sorted.{IsPermutation, IsSorted}
use Rattle.std.proofs.lemmas.Cmp.{nat_list_cmp_total}
use Rattle.std.proofs.lemmas.List.{length-map, get_or-map}
use Rattle.std.proofs.lemmas.List.Sums.{sum_by-cons}
use Rattle.std.proofs.lemmas.List.Sorted.{ranks_by, sorted_far, length_permutation, sum_by-IsPermutation}
use Rattle.mm_outside.specs.Image.{name_cmp}
use Rattle.mm_outside.proofs.Places.{one_name, same_name}
use Rattle.mm_ranges.specs.declared.part.Closed.{Closed}
use Rattle.mm_crash.specs.Journal.{entries_of}
use Rattle.mm_crash.specs.Recovered.{Files}
use Rattle.mm_crash.specs.Rest.{new_story}
use Rattle.mm_crash.proofs.Overlay.{neither}
use Rattle.mm_journal.specs.Real.{disk_name}
use Rattle.mm_items.specs.Files.{AreLaid}
use Rattle.mm_items.specs.Given.{Taken, images_of}
use Rattle.mm_durable.specs.Names.{index_of, has_name, AreDatabases}
use Rattle.mm_durable.specs.Intake.{is_ours, by_name, lists, first_items, AllAfter, AreRising, AreSeated, IsIntake}
use Rattle.mm_durable.specs.Durable.{HasImages, ReadItems}
use Rattle.mm_durable.specs.declared.intake.Seat.{Seat}
use Rattle.mm_durable.specs.declared.intake.Intake.{Intake}
use Rattle.mm_durable.proofs.Taking.{has_at}
use Rattle.mm_durable.proofs.Sealed.{each_list, unseated, no_seats}

-- ---- how often a name stands in a list

abbrev count_of : List ℕ → List (List ℕ) → ℕ
count_of n names = count_by (λ (m : List ℕ). eq_by_cmp name_cmp m n) names

one_more : (n m : List ℕ) (names : List (List ℕ)) → count_of n (m ∷ names) ≡ cond (eq_by_cmp name_cmp m n) 1 0 + count_of n names
one_more n m names = sum_by-cons (λ (k : List ℕ). cond (eq_by_cmp name_cmp k n) 1 0) m names

count_is : (n m : List ℕ) (names : List (List ℕ)) (b : Bool) → eq_by_cmp name_cmp m n ≡ b → count_of n (m ∷ names) ≡ cond b 1 0 + count_of n names
count_is n m names b e = one_more n m names ∙ ap (λ (c : Bool). cond c 1 0 + count_of n names) e

none_count : (n : List ℕ) (names : List (List ℕ)) → has_name names n ≡ false → count_of n names ≡ 0
none_count n [] none = refl
none_count n (m ∷ names) none =
    let parts = neither (eq_by_cmp name_cmp m n) (has_name names n) none in
    omega (arith, count_is n m names false parts.0, none_count n names parts.1)

some_count : (n : List ℕ) (names : List (List ℕ)) → has_name names n ≡ true → 1 ≤ count_of n names
some_count n [] has = absurd (true≢false (sym has))
some_count n (m ∷ names) has = by (some_count n names) (eq_by_cmp name_cmp m n) refl has
  where
    by : (has_name names n ≡ true → 1 ≤ count_of n names) → (b : Bool) → eq_by_cmp name_cmp m n ≡ b → (b || has_name names n) ≡ true → 1 ≤ count_of n (m ∷ names)
    by rest true e is = omega (arith, count_is n m names true e)
    by rest false e is = omega (arith, count_is n m names false e, rest is)

same_names : (n : List ℕ) (a b : List (List ℕ)) → count_of n a ≡ count_of n b → has_name a n ≡ has_name b n
same_names n a b e = by (has_name a n) (has_name b n) refl refl
  where
    by : (x y : Bool) → has_name a n ≡ x → has_name b n ≡ y → has_name a n ≡ has_name b n
    by true true p q = p ∙ sym q
    by false false p q = p ∙ sym q
    by true false p q = absurd (omega (arith, e, some_count n a p, none_count n b q))
    by false true p q = absurd (omega (arith, e, some_count n b q, none_count n a p))

once : (names : List (List ℕ)) → AreDatabases names → (n : List ℕ) → count_of n names ≤ 1
once [] dbs n = omega arith
once (m ∷ names) dbs n = by (once names dbs.1.1 n) (eq_by_cmp name_cmp m n) refl
  where
    by : count_of n names ≤ 1 → (b : Bool) → eq_by_cmp name_cmp m n ≡ b → count_of n (m ∷ names) ≤ 1
    by rest true e = omega (arith, count_is n m names true e, none_count n names (ap (has_name names) (sym (one_name m n e)) ∙ dbs.1.0))
    by rest false e = omega (arith, count_is n m names false e, rest)

some_at : (n : List ℕ) (names : List (List ℕ)) (i : ℕ) → i < length names → eq_by_cmp name_cmp (get_or names i []) n ≡ true → 1 ≤ count_of n names
some_at n [] i lt e = absurd (omega (arith, lt))
some_at n (m ∷ names) zero lt e = omega (arith, count_is n m names true e)
some_at n (m ∷ names) (suc i) lt e = omega (arith, one_more n m names, some_at n names i (omega (arith, lt)) e)

twice : (n : List ℕ) (names : List (List ℕ)) (i j : ℕ) → i < j → j < length names → eq_by_cmp name_cmp (get_or names i []) n ≡ true → eq_by_cmp name_cmp (get_or names j []) n ≡ true → 2 ≤ count_of n names
twice n [] i j below lt e f = absurd (omega (arith, lt))
twice n (m ∷ names) i zero below lt e f = absurd (omega (arith, below))
twice n (m ∷ names) zero (suc j) below lt e f = omega (arith, count_is n m names true e, some_at n names j (omega (arith, lt)) f)
twice n (m ∷ names) (suc i) (suc j) below lt e f = omega (arith, one_more n m names, twice n names i j (omega (arith, below)) (omega (arith, lt)) e f)

-- ---- sorted names of which each is another rise

strict : (a b : List ℕ) → is_lt (slice_cmp nat_cmp b a) ≡ false → eq_by_cmp name_cmp a b ≡ false → is_lt (slice_cmp nat_cmp a b) ≡ true
strict a b no_less other = by (slice_cmp nat_cmp b a) no_less (nat_list_cmp_total.antisymm a b)
  where
    by : (o : Ordering) → is_lt o ≡ false → slice_cmp nat_cmp a b ≡ ordering_reverse o → is_lt (slice_cmp nat_cmp a b) ≡ true
    by Less less e = absurd (true≢false less)
    by Equal less e = absurd (true≢false (sym (ap is_eq e) ∙ other))
    by Greater less e = ap is_lt e

rise : (names : List (List ℕ)) → IsSorted (slice_cmp nat_cmp) names → ((n : List ℕ) → count_of n names ≤ 1) → (i j : ℕ) → i < j → j < length names → is_lt (slice_cmp nat_cmp (get_or names i []) (get_or names j [])) ≡ true
rise names up single i j below lt =
    let a = get_or names i [] in
    let b = get_or names j [] in
    let far : is_lt (slice_cmp nat_cmp b a) ≡ false = sorted_far (λ (x y : List ℕ). is_lt (slice_cmp nat_cmp x y)) (ranks_by nat_list_cmp_total (λ (x : List ℕ). x)) names up i j [] (omega (arith, below)) lt in
    strict a b far (not_one a b (λ e. omega (arith, single b, twice b names i j below lt e (same_name b))))
  where
    not_one : (a b : List ℕ) → (eq_by_cmp name_cmp a b ≡ true → ⊥) → eq_by_cmp name_cmp a b ≡ false
    not_one a b no_way = by (eq_by_cmp name_cmp a b) refl
      where
        by : (c : Bool) → eq_by_cmp name_cmp a b ≡ c → eq_by_cmp name_cmp a b ≡ false
        by true e = absurd (no_way e)
        by false e = e

after_all : (n : List ℕ) (names : List (List ℕ)) → ((j : ℕ) → j < length names → is_lt (slice_cmp nat_cmp n (get_or names j [])) ≡ true) → AllAfter n names
after_all n [] all = tt
after_all n (m ∷ names) all = (all zero (omega arith), after_all n names (λ j lt. all (suc j) (omega (arith, lt))))

rising_from : (names : List (List ℕ)) → ((i j : ℕ) → i < j → j < length names → is_lt (slice_cmp nat_cmp (get_or names i []) (get_or names j [])) ≡ true) → AreRising names
rising_from [] all = tt
rising_from (n ∷ names) all = (after_all n names (λ j lt. all zero (suc j) (omega arith) (omega (arith, lt))), rising_from names (λ i j below lt. all (suc i) (suc j) (omega (arith, below)) (omega (arith, lt))))

-- ---- a name's place

found : (names : List (List ℕ)) (n : List ℕ) → has_name names n ≡ true → (index_of names n < length names) × (get_or names (index_of names n) [] ≡ n)
found [] n has = absurd (true≢false (sym has))
found (m ∷ names) n has = by (found names n) (eq_by_cmp name_cmp m n) refl has
  where
    by : (has_name names n ≡ true → (index_of names n < length names) × (get_or names (index_of names n) [] ≡ n)) → (b : Bool) → eq_by_cmp name_cmp m n ≡ b → (b || has_name names n) ≡ true
        → (cond b 0 (1 + index_of names n) < length (m ∷ names)) × (get_or (m ∷ names) (cond b 0 (1 + index_of names n)) [] ≡ n)
    by rest true e is = (omega arith, one_name m n e)
    by rest false e is =
        let next : 1 + index_of names n ≡ suc (index_of names n) = omega arith in
        (omega (arith, (rest is).0), ap (λ (i : ℕ). get_or (m ∷ names) i []) next ∙ (rest is).1)

-- the search for it: the names before this place are others
miss_here : (x y : ℕ) → x ≡ 1 + y → 0 + x ≡ 0 + 1 + y
miss_here x y e = omega (arith, e)

miss_later : (i x y : ℕ) → i + x ≡ i + 1 + y → suc i + x ≡ suc i + 1 + y
miss_later i x y e = omega (arith, e)

hit_here : (x : ℕ) → x ≡ 0 → 0 + x ≡ 0
hit_here x e = omega (arith, e)

hit_later : (i x : ℕ) → i + x ≡ i → suc i + x ≡ suc i
hit_later i x e = omega (arith, e)

step_missed : (n m : List ℕ) → false ≡ eq_by_cmp name_cmp m n → (names : List (List ℕ)) (i : ℕ) → i < length names → m ≡ get_or names i m → i + index_of (drop i names) n ≡ i + 1 + index_of (drop (i + 1) names) n
step_missed n m other [] i lt at = absurd (omega (arith, lt))
step_missed n m other (k ∷ names) zero lt at =
    let here : eq_by_cmp name_cmp k n ≡ false = ap (λ (x : List ℕ). eq_by_cmp name_cmp x n) (sym at) ∙ sym other in
    let e : index_of (k ∷ names) n ≡ 1 + index_of names n = ap (λ (b : Bool). cond b 0 (1 + index_of names n)) here in
    miss_here (index_of (k ∷ names) n) (index_of names n) e
step_missed n m other (k ∷ names) (suc i) lt at =
    let next : suc (i + 1) ≡ suc i + 1 = omega arith in
    let rest = miss_later i (index_of (drop i names) n) (index_of (drop (i + 1) names) n) (step_missed n m other names i (omega (arith, lt)) at) in
    subst (λ (j : ℕ). suc i + index_of (drop i names) n ≡ suc i + 1 + index_of (drop j (k ∷ names)) n) next rest

pub missed : (names : List (List ℕ)) (n : List ℕ) (i : ℕ) (m : List ℕ) → i < length names → m ≡ get_or names i m → false ≡ eq_by_cmp name_cmp m n → index_of names n ≡ i + index_of (drop i names) n → index_of names n ≡ i + 1 + index_of (drop (i + 1) names) n
missed names n i m lt at other so = so ∙ step_missed n m other names i lt at

step_hit : (n m : List ℕ) → true ≡ eq_by_cmp name_cmp m n → (names : List (List ℕ)) (i : ℕ) → i < length names → m ≡ get_or names i m → i + index_of (drop i names) n ≡ i
step_hit n m own [] i lt at = absurd (omega (arith, lt))
step_hit n m own (k ∷ names) zero lt at =
    let here : eq_by_cmp name_cmp k n ≡ true = ap (λ (x : List ℕ). eq_by_cmp name_cmp x n) (sym at) ∙ sym own in
    let e : index_of (k ∷ names) n ≡ 0 = ap (λ (b : Bool). cond b 0 (1 + index_of names n)) here in
    hit_here (index_of (k ∷ names) n) e
step_hit n m own (k ∷ names) (suc i) lt at = hit_later i (index_of (drop i names) n) (step_hit n m own names i (omega (arith, lt)) at)

pub hit : (names : List (List ℕ)) (n : List ℕ) (i : ℕ) (m : List ℕ) → i < length names → m ≡ get_or names i m → true ≡ eq_by_cmp name_cmp m n → index_of names n ≡ i + index_of (drop i names) n → i ≡ index_of names n
hit names n i m lt at own so = sym (so ∙ step_hit n m own names i lt at)

step_past : (n : List ℕ) (names : List (List ℕ)) (i : ℕ) → length names ≤ i → i ≤ length names → i + index_of (drop i names) n ≡ i
step_past n [] zero past inside = refl
step_past n [] (suc i) past inside = absurd (omega (arith, inside))
step_past n (k ∷ names) zero past inside = absurd (omega (arith, past))
step_past n (k ∷ names) (suc i) past inside = hit_later i (index_of (drop i names) n) (step_past n names i (omega (arith, past)) (omega (arith, inside)))

pub all_missed : (names : List (List ℕ)) (n : List ℕ) (i : ℕ) → length names ≤ i → i ≤ length names → index_of names n ≡ i + index_of (drop i names) n → i ≡ index_of names n
all_missed names n i past inside so = sym (so ∙ step_past n names i past inside)

-- ---- the feeds of a run that begins

pub opens : (names : List (List ℕ)) → 0 < length names → length names ≤ 4 → AreDatabases names → (a : Intake) → IsPermutation names a.sorted.items → IsSorted (slice_cmp nat_cmp) a.sorted.items → a.ranks.items ≡ map (λ (n : List ℕ). index_of a.sorted.items n) names
    → length a.feeds.items ≡ length names → ((d : ℕ) → d < length names → length (get_or (lists a) d []) ≡ 1) → a.seats.items ≡ [] → IsIntake names 0 a
opens names some few dbs a permutation up ranks feeds first none =
    let sorted = a.sorted.items in
    let counts : (n : List ℕ) → count_of n sorted ≡ count_of n names = λ n. sum_by-IsPermutation (λ (m : List ℕ). cond (eq_by_cmp name_cmp m n) 1 0) names sorted permutation in
    let same : (n : List ℕ) → has_name sorted n ≡ has_name names n = λ n. same_names n sorted names (counts n) in
    let long : length sorted ≡ length names = length_permutation names sorted permutation in
    record {
      few = few;
      some = some;
      feeds = feeds;
      within = λ d lt. omega (arith, first d lt);
      rising = rising_from sorted (rise sorted up (λ n. omega (arith, counts n, once names dbs n)));
      same = same;
      count = long;
      ranks = ap length ranks ∙ length-map names (λ (n : List ℕ). index_of sorted n);
      ranked = λ d lt.
          let n = get_or names d [] in
          let at : get_or a.ranks.items d 0 ≡ index_of sorted n = ap (λ (l : List ℕ). get_or l d 0) ranks ∙ get_or-map (λ (k : List ℕ). index_of sorted k) names d [] 0 lt in
          let there = found sorted n (same n ∙ has_at names d lt) in
          (omega (arith, at, there.0, long), ap (λ (i : ℕ). get_or sorted i []) at ∙ there.1);
      seats = subst (λ (l : List Seat). AreSeated 0 (by_name names (lists a)) sorted l) (sym none) (unseated 0 (by_name names (lists a)) sorted (λ n has. each_list (λ (l : List Closed). length l ≡ 0 + 1) names (lists a) first n (sym (same n) ∙ has)));
      all_or_none = inl none;
      room = λ h. absurd (no_seats (length a.seats.items) (length sorted) (ap length none) (omega (arith, some, long)) h);
      entered = λ k lo hi. absurd (omega (arith, lo, hi));
    }

-- and before the first section the files read items 0
pub first_images : (names : List (List ℕ)) (items : Taken) (files : Files) (last : ℕ) → ReadItems files names items → HasImages names items (new_story files last)
first_images names items files last reads = record { laid = laid }
  where
    laid : (k : ℕ) → k ≤ 0 → AreLaid (is_ours names) disk_name files (entries_of disk_name (Rattle.std.proofs.Common.take k [])) (images_of (first_items (k + 1) items))
    laid zero le = record { once = λ q. tt; inside = λ q. tt; reads = λ n own f file. reads n own f file }
    laid (suc k) le = absurd (omega (arith, le))
