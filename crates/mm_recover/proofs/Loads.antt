-- A database's files are loaded one after another.
use Rattle.std.proofs.Common.{◌≡◌, ◌≢◌, inl, inr, ℕ, Bool, true, false, cond, ◌+◌, ◌<◌, ◌≤◌, List, [], length, Option, Some, None, refl, sym, ◌∙◌, ap, subst, arith}
use mathlib.Core.Bool.{true≢false}
use Rattle.std.specs.Prelude.{◌==◌, ◌||◌, nat_lt, replicate, unwrap_or, IsTrue, IfNone}
use Rattle.std.specs.Option.{option_map}
use Rattle.std.specs.Ordering.{nat_cmp}
use Rattle.std.specs.Cmp.{nat_cmp_total, unsigned_tied}
use Rattle.std.specs.FinMap.{get, insert, get-empty, get-insert}
use Rattle.std.proofs.lemmas.Bool.{cases_lt, eqb-true, eq-eqb, ne_eqb}
use Rattle.std.proofs.lemmas.Bool.Decides.{nat_tests}
use Rattle.std.proofs.lemmas.List.{length-replicate}
use Rattle.mm_bytes.specs.Files.{overwritten}
use Rattle.mm_bytes.proofs.Agree.{same_overwritten}
use Rattle.mm_bytes.proofs.Parts.{overwritten_whole}
use Rattle.mm_ranges.specs.Limits.{ns_file, is_file, most_of}
use Rattle.mm_ranges.specs.Overlay as numbered
use Rattle.mm_ranges.specs.Overlay.{laid, bytes_at}
use Rattle.mm_ranges.proofs.Overlaying.{get-laid}
use Rattle.mm_views.specs.State.{State, no_views}
use Rattle.mm_outside.specs.Image.{Image}
use Rattle.mm_outside.specs.declared.disk.Device.{Device}
use Rattle.mm_outside.specs.declared.disk.Device.TheVariants as device
use Rattle.mm_section.specs.declared.section.Section.{Section}
use Rattle.mm_section.specs.Spells.{is_db_name}
use Rattle.mm_crash.specs.Overlay.{over, size}
use Rattle.mm_crash.specs.Recovered.{Files, Recovers}
use Rattle.mm_crash.specs.Journal.{above, entries_of}
use Rattle.mm_crash.proofs.Overlay.{neither}
use Rattle.mm_journal.specs.Real.{disk_name}
use Rattle.mm_journal.proofs.Real.{the_format, the_names}
use Rattle.mm_recover.specs.declared.fault.Recover.{Recover}
use Rattle.mm_recover.specs.declared.fault.Recover.TheVariants.{DiskFault, NoMemory, BadHeader, JournalGap, BadLength}
use Rattle.mm_recover.specs.Faults.{fault_of}
use Rattle.mm_recover.specs.Recovering.{ReadsLog, IsFaultOf, laid_by}
use Rattle.mm_recover.specs.Overlaid.{Content, bytes_of, LaysOver}
use Rattle.mm_recover.specs.Loading.{Numbered, files_with, order_of, IsQuiet, TakesIn, IsTooLong, HasFirst, IsFirstTooLong, TellsTooLong, IsLoaded, IsFaultOfLoad}
use Rattle.mm_recover.proofs.Cleared.{data_name_is}
use Rattle.mm_recover.proofs.Replays.{matches}

-- ---- a file of the disk

pub none_there : (o : Option (List ℕ)) (len : Option ℕ) → len ≡ option_map length o → len ≡ None → None ≡ o
none_there None len is none = refl
none_there (Some x) len is none = absurd (let e : Some (length x) ≡ None = sym is ∙ none in cc)

pub some_there : (o : Option (List ℕ)) (len : Option ℕ) (n : ℕ) (bytes : List ℕ) → len ≡ option_map length o → len ≡ Some n → bytes ≡ unwrap_or o [] → Some bytes ≡ o
some_there None len n bytes is some are = absurd (let e : None ≡ Some n = sym is ∙ some in cc)
some_there (Some x) len n bytes is some are = ap (λ (l : List ℕ). Some l) are

-- ---- one file

most_by : (b : Bool) → cond b 16777216 67108864 ≤ 67108864
most_by true = omega arith
most_by false = omega arith

pub most_small : (file : ℕ) → most_of file ≤ 67108864
most_small file = most_by (file == ns_file)

-- both images got zeros, and then the file's bytes
pub takes_bytes : (file len : ℕ) (bytes : List ℕ) (old new : State) → len ≡ length bytes → length bytes ≤ most_of file
    → new.shared ≡ laid file 0 bytes (insert old.shared file (replicate len 0)) → TakesIn file (Some bytes) old new
takes_bytes file len bytes old new is le shared = record {
  its = λ none. ap (λ m. get m file) shared ∙ get-laid file 0 bytes zeroed file ∙ ap (λ b. cond b (Some (overwritten 0 bytes (bytes_at zeroed file))) (get zeroed file)) (eq-eqb file file refl) ∙ ap (λ (l : List ℕ). Some l) whole;
  others = λ other apart. ap (λ m. get m other) shared ∙ get-laid file 0 bytes zeroed other ∙ ap (λ b. cond b (Some (overwritten 0 bytes (bytes_at zeroed file))) (get zeroed other)) (not other apart)
      ∙ inserted other ∙ ap (λ b. cond b (Some (replicate len 0)) (get old.shared other)) (not other apart);
  short = le;
}
  where
    zeroed : numbered.Image
    zeroed = insert old.shared file (replicate len 0)

    not : (other : ℕ) → other ≢ file → (other == file) ≡ false
    not other apart = ne_eqb other file apart

    inserted : (q : ℕ) → get zeroed q ≡ cond (q == file) (Some (replicate len 0)) (get old.shared q)
    inserted q = get-insert nat_cmp_total old.shared file (replicate len 0) q ∙ ap (λ b. cond b (Some (replicate len 0)) (get old.shared q)) (unsigned_tied q file)

    zeros : bytes_at zeroed file ≡ replicate len 0
    zeros = ap (λ (o : Option (List ℕ)). unwrap_or o []) (inserted file ∙ ap (λ b. cond b (Some (replicate len 0)) (get old.shared file)) (eq-eqb file file refl))

    whole : overwritten 0 bytes (bytes_at zeroed file) ≡ bytes
    whole = ap (overwritten 0 bytes) zeros ∙ same_overwritten 0 bytes (replicate len 0) (omega arith) ∙ overwritten_whole bytes (replicate len 0) (sym is ∙ sym (length-replicate len 0))

-- no file
pub takes_none : (file : ℕ) (views : State) → TakesIn file None views views
takes_none file views = record { its = λ none. none; others = λ other apart. refl; short = omega arith }

pub takes_as : (file : ℕ) (a b : Option (List ℕ)) (old new : State) → a ≡ b → TakesIn file a old new → TakesIn file b old new
takes_as file a b old new e takes = subst (λ (o : Option (List ℕ)). TakesIn file o old new) e takes

-- ---- one file after others

order_by : (x y : Bool) (a b : ℕ) → (a == ns_file) ≡ x → (b == ns_file) ≡ y → cond x 0 (a + 1) ≡ cond y 0 (b + 1) → a ≡ b
order_by true true a b p q e = eqb-true a ns_file p ∙ sym (eqb-true b ns_file q)
order_by true false a b p q e = absurd (omega (arith, e))
order_by false true a b p q e = absurd (omega (arith, e))
order_by false false a b p q e = omega (arith, e)

one_order : (a b : ℕ) → order_of a ≡ order_of b → a ≡ b
one_order a b e = order_by (a == ns_file) (b == ns_file) a b refl refl e

module _ (files : Numbered) where
  pub first_none : (views : State) → views ≡ no_views → HasFirst files 0 views
  first_none views is = subst (HasFirst files 0) (sym is) (record {
    has = λ file isf lt. absurd (omega (arith, lt));
    short = λ file isf lt. absurd (omega (arith, lt));
    none = λ file le. get-empty nat_cmp file;
  })

  pub first_next : (place file : ℕ) (old new : State) → order_of file ≡ place → HasFirst files place old → TakesIn file (files file) old new → HasFirst files (place + 1) new
  first_next place file old new at first takes = record {
    has = λ q isf lt. elim (cases_lt (order_of q) place) [
      | inl less ↦ takes.others q (λ e. absurd (omega (arith, ap order_of e, at, less))) ∙ first.has q isf less
      | inr le ↦
          let same : q ≡ file = one_order q file (omega (arith, lt, le, at)) in
          subst (λ (n : ℕ). get new.shared n ≡ files n) (sym same) (takes.its (first.none file (omega (arith, at))))
    ];
    short = λ q isf lt. elim (cases_lt (order_of q) place) [
      | inl less ↦ first.short q isf less
      | inr le ↦
          let same : q ≡ file = one_order q file (omega (arith, lt, le, at)) in
          subst (λ (n : ℕ). size (files n) ≤ most_of n) (sym same) takes.short
    ];
    none = λ q le. takes.others q (λ e. absurd (omega (arith, ap order_of e, at, le))) ∙ first.none q (omega (arith, le));
  }

  pub first_long : (place file : ℕ) (views : State) → is_file file ≡ true → order_of file ≡ place → HasFirst files place views → (e : Recover) → IsTooLong file (files file) e → TellsTooLong files e
  first_long place file views isf at first NoMemory h = tt
  first_long place file views isf at first DiskFault h = tt
  first_long place file views isf at first (BadHeader n) h = absurd h
  first_long place file views isf at first (JournalGap expected found) h = absurd h
  first_long place file views isf at first (BadLength n len) h =
      subst (λ (q : ℕ). IsFirstTooLong files q len) (sym h.0) (record { is = isf; counted = h.1; long = h.2; before = λ other iso lt. first.short other iso (omega (arith, lt, at)) })

-- ---- all of them

under_by : (b : Bool) (n : ℕ) → (b ≡ false → n < 8) → cond b 0 (n + 1) < 9
under_by true n f = omega arith
under_by false n f = omega (arith, f refl)

under : (n : ℕ) → is_file n ≡ true → order_of n < 9
under n is = under_by (n == ns_file) n (λ e. let first : nat_lt n 8 ≡ true = either (nat_lt n 8) (n == ns_file) is e in grind (arith, nat_tests))
  where
    either : (a b : Bool) → (a || b) ≡ true → b ≡ false → a ≡ true
    either true b e f = refl
    either false b e f = absurd (true≢false (sym e ∙ f))

past : (n : ℕ) → is_file n ≡ false → 9 ≤ order_of n
past n is =
    let both = neither (nat_lt n 8) (n == ns_file) is in
    let small : nat_lt n 8 ≡ false = both.0 in
    let le : 8 ≤ n = grind (arith, nat_tests) in
    subst (λ (b : Bool). 9 ≤ cond b 0 (n + 1)) (sym both.1) (omega (arith, le))

module _ (image : Image) (name : List ℕ) (lsn : Option ℕ) (numbers : List ℕ) (sections : List Section) (log : ReadsLog image lsn numbers sections) where
  recovered_is : IsTrue (is_db_name name) → (recovered : Files) → Recovers the_format the_names image recovered → (file : ℕ) → files_with image lsn sections name file ≡ recovered (disk_name name file)
  recovered_is is recovered w file =
      let m = matches image recovered lsn numbers sections w log in
      let own = disk_name name file in
      ap (λ (o : Option ℕ). over (laid_by o sections) own (get image own)) (sym m.lsn_is) ∙ ap (λ (l : List Section). over (laid_by m.w.lsn l) own (get image own)) (sym m.sections_are) ∙ m.w.newer own (data_name_is name file is)

  pub is_loaded : (views : State) → IsTrue (is_db_name name) → HasFirst (files_with image lsn sections name) 9 views → IsLoaded image name views
  is_loaded views is first = record {
    lsn = lsn;
    numbers = numbers;
    sections = sections;
    log = log;
    files = λ file isf. first.has file isf (under file isf);
    short = λ file isf. first.short file isf (under file isf);
    others = λ file isnt. first.none file (past file isnt);
    whole = λ recovered w file isf. first.has file isf (under file isf) ∙ recovered_is is recovered w file;
  }

  pub fault_long : (e : Recover) → TellsTooLong (files_with image lsn sections name) e → IsFaultOfLoad image name e
  fault_long NoMemory h = tt
  fault_long DiskFault h = tt
  fault_long (BadHeader n) h = absurd h
  fault_long (JournalGap expected found) h = absurd h
  fault_long (BadLength n len) h = record { lsn = lsn; numbers = numbers; sections = sections; log = log; first = h }

-- the journal's own fault
pub fault_log : (image : Image) (name : List ℕ) (e : Recover) → IsFaultOf image e → IsFaultOfLoad image name e
fault_log image name NoMemory h = tt
fault_log image name DiskFault h = tt
fault_log image name (BadHeader n) h = h
fault_log image name (JournalGap expected found) h = h
fault_log image name (BadLength n len) h = absurd h

-- a fault of the disk, or want of memory
pub device_long : (file : ℕ) (content : Option (List ℕ)) (d : Device) → IsTooLong file content (fault_of d)
device_long file content device.Fault = tt
device_long file content device.NoMemory = tt

pub device_load : (image : Image) (name : List ℕ) (d : Device) → IsFaultOfLoad image name (fault_of d)
device_load image name device.Fault = tt
device_load image name device.NoMemory = tt

-- what was read of a file, with what the sections lay over it
pub laid_is : (image : Image) (lsn : Option ℕ) (sections ss : List Section) (u file : ℕ) (name read : List ℕ) (old new : Content) → u ≡ unwrap_or lsn 0 → ss ≡ sections → read ≡ disk_name name file → bytes_of old ≡ get image read
    → LaysOver (entries_of the_names.disk_name (above u ss)) (disk_name name file) old new → bytes_of new ≡ files_with image lsn sections name file
laid_is image lsn sections ss u file name read old new number are named is lays =
    let own = disk_name name file in
    lays ∙ ap (over (entries_of the_names.disk_name (above u ss)) own) (is ∙ ap (get image) named)
    ∙ ap (λ (n : ℕ). over (entries_of the_names.disk_name (above n ss)) own (get image own)) number
    ∙ ap (λ (l : List Section). over (entries_of the_names.disk_name (above (unwrap_or lsn 0) l)) own (get image own)) are

-- zeros were put in
pub zeros_there : (file len : ℕ) (image new : numbered.Image) → new ≡ insert image file (replicate len 0) → get new file ≡ Some (replicate len 0)
zeros_there file len image new is = ap (λ (m : numbered.Image). get m file) is ∙ get-insert nat_cmp_total image file (replicate len 0) file ∙ ap (λ b. cond b (Some (replicate len 0)) (get image file)) (unsigned_tied file file ∙ eq-eqb file file refl)

pub none_is : (o : Option ℕ) (P : Type 0) → IfNone o P → ((x : ℕ) → o ≡ Some x → ⊥) → P
none_is None P h f = h
none_is (Some x) P h f = absurd (f x refl)

-- ---- the files 0 to 7

pub small_file : (n : ℕ) → n < 8 → is_file n ≡ true
small_file n lt = let first : nat_lt n 8 ≡ true = grind (arith, nat_tests) in ap (λ (b : Bool). b || (n == ns_file)) first

pub small_order : (n : ℕ) → n < 8 → order_of n ≡ n + 1
small_order n lt = ap (λ (b : Bool). cond b 0 (n + 1)) (ne_eqb n ns_file (λ e. absurd (omega (arith, e, lt))))

pub quiet_none : (views : State) → views ≡ no_views → IsQuiet views
quiet_none views is = subst IsQuiet (sym is) (record { same = refl; made = refl; opened = refl; closed = refl })

-- zeros and then the bytes were put into both images
pub same_bytes : (file len : ℕ) (bytes : List ℕ) (old new : State) → new.shared ≡ laid file 0 bytes (insert old.shared file (replicate len 0)) → new.private ≡ laid file 0 bytes (insert old.private file (replicate len 0))
    → old.private ≡ old.shared → new.private ≡ new.shared
same_bytes file len bytes old new shared private one = private ∙ ap (λ (m : numbered.Image). laid file 0 bytes (insert m file (replicate len 0))) one ∙ sym shared
