-- The journal's files are read one after another.
use Rattle.std.proofs.Common.{◌≡◌, ◌⊎◌, inl, inr, ℕ, zero, suc, Bool, true, false, ◌+◌, ◌-◌, ◌<◌, ◌≤◌, ◌^◌, List, [], ◌∷◌, ◌++◌, length, get_or, take, drop, map, Option, Some, None, refl, sym, ◌∙◌, ap, subst, arith, append_assoc, add-one, drop-cons}
use mathlib.Core.Bool.{true≢false}
use Rattle.std.specs.Prelude.{unwrap_or, IsSome, nat_lt}
use Rattle.std.specs.FinMap.{get}
use Rattle.std.proofs.lemmas.Bool.Decides.{nat_tests}
use Rattle.std.proofs.lemmas.List.{take_more, take_all, take-append-drop, append-nil, map-append}
use Rattle.mm_outside.specs.Image.{Image, bytes_at}
use Rattle.mm_section.specs.declared.section.Section.{Section}
use Rattle.mm_crash.specs.Journal.{AllCan, HasFile, HasRuns, Run, is_last, joined}
use Rattle.mm_crash.specs.Recovered.{journal_of}
use Rattle.mm_journal.proofs.Real.{the_format, the_names}
use Rattle.mm_recover.specs.Reading.{IsGapless, HasGap, TakesFile, HasFileFault, HasRunsTo, AreNumbers, numbers_of, AllRuns, HasFront, ReadsAs, HasFault, HasBadFront, IsForeign, TakesFrom, HasFaultFrom}
use Rattle.mm_recover.specs.declared.fault.Recover.{Recover}
use Rattle.mm_recover.specs.declared.fault.Recover.TheVariants.{DiskFault, NoMemory, BadHeader, JournalGap, BadLength}
use Rattle.mm_recover.proofs.ReadTo.{gapless_none}

-- ---- sections that have a spelling

can_both : (a b : List Section) → AllCan the_format a → AllCan the_format b → AllCan the_format (a ++ b)
can_both [] b x y = y
can_both (s ∷ a) b x y = (x.0, can_both a b x.1 y)

file_can : (n : ℕ) (last : Bool) (bytes : List ℕ) (new : List Section) → HasFile the_format n last (Some bytes) new → AllCan the_format new
file_can n last bytes new (inl run) = run.has.can
file_can n last bytes new (inr none) = subst (AllCan the_format) (sym none.1.0) tt

pub takes_can : (lsn : Option ℕ) (n : ℕ) (last : Bool) (bytes : List ℕ) (old all : List Section) → AllCan the_format old → TakesFile lsn n last bytes old all → AllCan the_format all
takes_can lsn n last bytes old all can t = subst (AllCan the_format) (sym t.is) (can_both old t.new can (file_can n last bytes t.new t.has))

-- ---- what a file reads

-- the bytes that were read are those of the file, where it is there
in_image : (o : Option (List ℕ)) (b : Bool) (bytes : List ℕ) → b ≡ true → Rattle.std.proofs.Common.cond b o None ≡ Some bytes → o ≡ Some bytes
in_image o true bytes e is = is
in_image o false bytes e is = absurd (true≢false (sym e))

journal_is : (image : Image) (n : ℕ) (bytes : List ℕ) → n < 2 ^ 32 → journal_of the_names image n ≡ Some bytes → get image (the_names.journal n) ≡ Some bytes
unfolding the_names
journal_is image n bytes lt is = in_image (get image (the_names.journal n)) (nat_lt n (2 ^ 32)) bytes (grind (arith, nat_tests)) is

pub read_is : (image : Image) (n : ℕ) (name read bytes : List ℕ) → n < 2 ^ 32 → name ≡ the_names.journal n → read ≡ bytes_at image name → journal_of the_names image n ≡ Some bytes → read ≡ bytes
read_is image n name read bytes lt named is has = is ∙ ap (λ (l : List ℕ). bytes_at image l) named ∙ ap (λ (o : Option (List ℕ)). unwrap_or o []) (journal_is image n bytes lt has)

-- ---- files one after another

numbers-append : (a b : List Run) → numbers_of (a ++ b) ≡ numbers_of a ++ numbers_of b
numbers-append a b = map-append (λ (run : Run). run.0) a b

joined-append : (a b : List Run) → joined (a ++ b) ≡ joined a ++ joined b
joined-append [] b = refl
joined-append (run ∷ a) b = ap (λ (l : List Section). run.1 ++ l) (joined-append a b) ∙ sym (append_assoc run.1 (joined a) (joined b))

runs-append : (left : ℕ → Option (List ℕ)) (a b : List Run) → AllRuns left a → AllRuns left b → AllRuns left (a ++ b)
runs-append left [] b x y = y
runs-append left (run ∷ a) b x y = (x.0, runs-append left a b x.1 y)

pub front_none : (lsn : Option ℕ) (left : ℕ → Option (List ℕ)) → HasFront lsn left [] []
front_none lsn left = record { runs = []; has = tt; numbers_are = refl; all = refl; gapless = gapless_none lsn }

pub front_next : (lsn : Option ℕ) (left : ℕ → Option (List ℕ)) (numbers : List ℕ) (k : ℕ) (bytes : List ℕ) (old all : List Section) → HasFront lsn left numbers old → left k ≡ Some bytes → TakesFile lsn k false bytes old all → HasFront lsn left (numbers ++ k ∷ []) all
front_next lsn left numbers k bytes old all f is t =
    let one : Run = (k, t.new) in
    let own : HasFile the_format k false (left k) t.new = subst (λ (o : Option (List ℕ)). HasFile the_format k false o t.new) (sym is) t.has in
    record {
      runs = f.runs ++ one ∷ [];
      has = runs-append left f.runs (one ∷ []) f.has (own, tt);
      numbers_are = numbers-append f.runs (one ∷ []) ∙ ap (λ (l : List ℕ). l ++ k ∷ []) f.numbers_are;
      all = joined-append f.runs (one ∷ []) ∙ ap (λ (l : List Section). l ++ (t.new ++ [])) f.all ∙ ap (λ (l : List Section). old ++ l) (append-nil t.new) ∙ sym t.is;
      gapless = t.gapless f.gapless;
    }

-- the numbers behind the first ones
behind : (left : ℕ → Option (List ℕ)) (n : ℕ) (numbers rest : List ℕ) (k : ℕ) → AreNumbers left n (numbers ++ k ∷ rest) → IsSome (left k) × (n ≤ k) × AreNumbers left (k + 1) rest
behind left n [] rest k are = (are.1.1.0, are.0, are.1.1.1)
behind left n (m ∷ numbers) rest k are = let later = behind left (m + 1) numbers rest k are.1.1.1 in (later.0, omega (arith, are.0, later.1), later.2)

pub is_there : (left : ℕ → Option (List ℕ)) (numbers rest : List ℕ) (k : ℕ) → AreNumbers left 0 (numbers ++ k ∷ rest) → (bytes : List ℕ) × (left k ≡ Some bytes)
is_there left numbers rest k are = some_is (left k) (behind left 0 numbers rest k are).0
  where
    some_is : (o : Option (List ℕ)) → IsSome o → (bytes : List ℕ) × (o ≡ Some bytes)
    some_is (Some bytes) is = (bytes, refl)
    some_is None is = absurd (true≢false (sym is))

-- the files below one of them
runs_to : (left : ℕ → Option (List ℕ)) (n : ℕ) (numbers rest : List ℕ) (k : ℕ) (runs : List Run) → numbers_of runs ≡ numbers → AllRuns left runs → AreNumbers left n (numbers ++ k ∷ rest) → HasRunsTo k left n runs
runs_to left n [] rest k [] e has are = are.1.0
runs_to left n (m ∷ numbers) rest k [] e has are = absurd cc
runs_to left n [] rest k (run ∷ runs) e has are = absurd cc
runs_to left n (m ∷ numbers) rest k (run ∷ runs) e has are =
    let same : run.0 ≡ m = ap (λ (l : List ℕ). get_or l 0 0) e in
    let tail : numbers_of runs ≡ numbers = ap (drop 1) e in
    let rest_are : AreNumbers left (run.0 + 1) (numbers ++ k ∷ rest) = subst (λ i. AreNumbers left (i + 1) (numbers ++ k ∷ rest)) (sym same) are.1.1.1 in
    (omega (arith, same, are.0), ((λ i le lt. are.1.0 i le (omega (arith, same, lt))), (has.0, runs_to left (run.0 + 1) numbers rest k runs tail has.1 rest_are)))

-- all of them, the last too
runs_all : (left : ℕ → Option (List ℕ)) (n : ℕ) (numbers : List ℕ) (k : ℕ) (sections : List Section) (runs : List Run) → numbers_of runs ≡ numbers → AllRuns left runs → AreNumbers left n (numbers ++ k ∷ []) → HasFile the_format k true (left k) sections → HasRuns the_format left n (runs ++ (k, sections) ∷ [])
runs_all left n [] k sections [] e has are own = (are.0, (are.1.0, (own, are.1.1.1)))
runs_all left n (m ∷ numbers) k sections [] e has are own = absurd cc
runs_all left n [] k sections (run ∷ runs) e has are own = absurd cc
runs_all left n (m ∷ numbers) k sections (run ∷ runs) e has are own =
    let same : run.0 ≡ m = ap (λ (l : List ℕ). get_or l 0 0) e in
    let tail : numbers_of runs ≡ numbers = ap (drop 1) e in
    let rest_are : AreNumbers left (run.0 + 1) (numbers ++ k ∷ []) = subst (λ i. AreNumbers left (i + 1) (numbers ++ k ∷ [])) (sym same) are.1.1.1 in
    let first : HasFile the_format run.0 (is_last (runs ++ (k, sections) ∷ [])) (left run.0) run.1 = subst (λ (b : Bool). HasFile the_format run.0 b (left run.0) run.1) (sym (not_last runs)) has.0 in
    (omega (arith, same, are.0), ((λ i le lt. are.1.0 i le (omega (arith, same, lt))), (first, runs_all left (run.0 + 1) numbers k sections runs tail has.1 rest_are own)))
  where
    not_last : (rs : List Run) → is_last (rs ++ (k, sections) ∷ []) ≡ false
    not_last [] = refl
    not_last (r ∷ rs) = refl

-- ---- the whole journal

pub reads_none : (lsn : Option ℕ) (left : ℕ → Option (List ℕ)) (numbers : List ℕ) → numbers ≡ [] → AreNumbers left 0 numbers → ReadsAs lsn left numbers []
reads_none lsn left numbers none are = record { runs = []; has = subst (AreNumbers left 0) none are; numbers_are = sym none; all = refl; gapless = gapless_none lsn }

pub reads_all : (lsn : Option ℕ) (left : ℕ → Option (List ℕ)) (numbers : List ℕ) (k : ℕ) (bytes : List ℕ) (old all : List Section) → AreNumbers left 0 (numbers ++ k ∷ []) → HasFront lsn left numbers old → left k ≡ Some bytes → TakesFile lsn k true bytes old all → ReadsAs lsn left (numbers ++ k ∷ []) all
reads_all lsn left numbers k bytes old all are f is t =
    let one : Run = (k, t.new) in
    let own : HasFile the_format k true (left k) t.new = subst (λ (o : Option (List ℕ)). HasFile the_format k true o t.new) (sym is) t.has in
    record {
      runs = f.runs ++ one ∷ [];
      has = runs_all left 0 numbers k t.new f.runs f.numbers_are f.has are own;
      numbers_are = numbers-append f.runs (one ∷ []) ∙ ap (λ (l : List ℕ). l ++ k ∷ []) f.numbers_are;
      all = joined-append f.runs (one ∷ []) ∙ ap (λ (l : List Section). l ++ (t.new ++ [])) f.all ∙ ap (λ (l : List Section). old ++ l) (append-nil t.new) ∙ sym t.is;
      gapless = t.gapless f.gapless;
    }

-- ---- the first fault

-- a later file is there, where this isn't the last
later_there : (left : ℕ → Option (List ℕ)) (numbers rest : List ℕ) (k : ℕ) → AreNumbers left 0 (numbers ++ k ∷ rest) → (rest ≡ [] → ⊥) → (m : ℕ) × (k < m) × IsSome (left m)
later_there left numbers [] k are some = absurd (some refl)
later_there left numbers (m ∷ rest) k are some = let next = (behind left 0 numbers (m ∷ rest) k are).2 in (m, omega (arith, next.0), next.1.1.0)

bad_header : (left : ℕ → Option (List ℕ)) (numbers rest : List ℕ) (k : ℕ) (last : Bool) (bytes : List ℕ) → AreNumbers left 0 (numbers ++ k ∷ rest) → (last ≡ false → rest ≡ [] → ⊥) → HasBadFront k last bytes
    → IsForeign k bytes ⊎ ((the_format.is_broken k bytes ≡ true) × ((m : ℕ) × (k < m) × IsSome (left m)))
bad_header left numbers rest k last bytes are some (inl foreign) = inl foreign
bad_header left numbers rest k last bytes are some (inr broken) = inr (broken.0, later_there left numbers rest k are (some broken.1))

pub first_fault : (lsn : Option ℕ) (left : ℕ → Option (List ℕ)) (numbers rest : List ℕ) (k : ℕ) (last : Bool) (bytes : List ℕ) (old : List Section) → AreNumbers left 0 (numbers ++ k ∷ rest) → (last ≡ false → rest ≡ [] → ⊥) → HasFront lsn left numbers old → left k ≡ Some bytes
    → (e : Recover) → HasFileFault lsn k last bytes old e → HasFault lsn left e
first_fault lsn left numbers rest k last bytes old are some f is NoMemory h = tt
first_fault lsn left numbers rest k last bytes old are some f is DiskFault h = tt
first_fault lsn left numbers rest k last bytes old are some f is (BadLength file len) h = h
first_fault lsn left numbers rest k last bytes old are some f is (BadHeader file) h = record {
  runs = f.runs;
  before = subst (λ i. HasRunsTo i left 0 f.runs) (sym h.0) (runs_to left 0 numbers rest k f.runs f.numbers_are f.has are);
  gapless = subst (IsGapless lsn) (sym f.all) f.gapless;
  bytes = bytes;
  is = subst (λ i. left i ≡ Some bytes) (sym h.0) is;
  bad = subst (λ i. IsForeign i bytes ⊎ ((the_format.is_broken i bytes ≡ true) × ((m : ℕ) × (i < m) × IsSome (left m)))) (sym h.0) (bad_header left numbers rest k last bytes are some h.1);
}
first_fault lsn left numbers rest k last bytes old are some f is (JournalGap expected found) h = record {
  runs = f.runs;
  n = k;
  before = runs_to left 0 numbers rest k f.runs f.numbers_are f.has are;
  gapless = subst (IsGapless lsn) (sym f.all) f.gapless;
  bytes = h.rest;
  is = is ∙ ap (λ (l : List ℕ). Some l) h.is;
  gap = subst (λ (l : List Section). HasGap lsn k h.rest l expected found) (sym f.all) h.gap;
}

-- ---- as the code has it

pub at_index : (numbers : List ℕ) (i : ℕ) → i < length numbers → numbers ≡ take i numbers ++ get_or numbers i 0 ∷ drop (i + 1) numbers
at_index numbers i lt =
    let next : drop i numbers ≡ get_or numbers i 0 ∷ drop (i + 1) numbers = rw add-one (drop-cons numbers i 0 lt) in
    sym (take-append-drop i numbers) ∙ ap (λ (l : List ℕ). take i numbers ++ l) next

pub not_last : (numbers : List ℕ) (i : ℕ) → i + 1 < length numbers → drop (i + 1) numbers ≡ [] → ⊥
not_last numbers i lt none = omega (arith, lt, ap length none, Rattle.std.proofs.lemmas.List.length-drop (i + 1) numbers)

pub fault_from : (lsn : Option ℕ) (left : ℕ → Option (List ℕ)) (numbers rest : List ℕ) (k : ℕ) (last : Bool) (old : List Section) → AreNumbers left 0 (numbers ++ k ∷ rest) → (last ≡ false → rest ≡ [] → ⊥) → HasFront lsn left numbers old → (e : Recover) → HasFaultFrom lsn left k last old e → HasFault lsn left e
fault_from lsn left numbers rest k last old are some f e (inl is) = subst (HasFault lsn left) (sym is) tt
fault_from lsn left numbers rest k last old are some f e (inr own) = let there = is_there left numbers rest k are in first_fault lsn left numbers rest k last there.0 old are some f there.1 e (own there.0 there.1)

module _ (lsn : Option ℕ) (left : ℕ → Option (List ℕ)) (numbers : List ℕ) (i : ℕ) (lt : i < length numbers) (are : AreNumbers left 0 numbers) where
  parted : AreNumbers left 0 (take i numbers ++ get_or numbers i 0 ∷ drop (i + 1) numbers)
  parted = subst (AreNumbers left 0) (at_index numbers i lt) are

  pub fault_at_index : (last : Bool) (old : List Section) → (last ≡ false → i + 1 < length numbers) → HasFront lsn left (take i numbers) old → (e : Recover) → HasFaultFrom lsn left (get_or numbers i 0) last old e → HasFault lsn left e
  fault_at_index last old more f = fault_from lsn left (take i numbers) (drop (i + 1) numbers) (get_or numbers i 0) last old parted (λ isnt. not_last numbers i (more isnt)) f

  pub front_at_index : (old all : List Section) → HasFront lsn left (take i numbers) old → TakesFrom lsn left (get_or numbers i 0) false old all → HasFront lsn left (take (i + 1) numbers) all
  front_at_index old all f takes =
      let there = is_there left (take i numbers) (drop (i + 1) numbers) (get_or numbers i 0) parted in
      subst (λ (l : List ℕ). HasFront lsn left l all) (sym (take_more numbers i 0 lt)) (front_next lsn left (take i numbers) (get_or numbers i 0) there.0 old all f there.1 (takes there.0 there.1))

  pub reads_at_last : (old all : List Section) → length numbers ≡ i + 1 → HasFront lsn left (take i numbers) old → TakesFrom lsn left (get_or numbers i 0) true old all → ReadsAs lsn left numbers all
  reads_at_last old all last f takes =
      let whole : numbers ≡ take i numbers ++ get_or numbers i 0 ∷ [] = at_index numbers i lt ∙ ap (λ (l : List ℕ). take i numbers ++ get_or numbers i 0 ∷ l) (Rattle.std.proofs.lemmas.List.drop_all (i + 1) numbers (omega (arith, last))) in
      let those : AreNumbers left 0 (take i numbers ++ get_or numbers i 0 ∷ []) = subst (AreNumbers left 0) whole are in
      let there = is_there left (take i numbers) [] (get_or numbers i 0) those in
      subst (λ (l : List ℕ). ReadsAs lsn left l all) (sym whole) (reads_all lsn left (take i numbers) (get_or numbers i 0) there.0 old all those f there.1 (takes there.0 there.1))

pub no_numbers : (l : List ℕ) → length l ≡ 0 → l ≡ []
no_numbers [] e = refl
no_numbers (x ∷ l) e = absurd (omega (arith, e))
