-- What stands at the front of a journal's file.
use Rattle.std.proofs.Common.{◌≡◌, inl, inr, ℕ, Bool, true, ◌+◌, ◌-◌, ◌≤◌, List, [], ◌++◌, length, drop, Option, Result, Ok, Err, refl, sym, ◌∙◌, ap, subst, arith, length-append}
use Rattle.std.specs.Prelude.{IfOk, IfErr, OnOk}
use Rattle.std.proofs.lemmas.List.{append-nil}
use Rattle.mm_frames.specs.JournalHeader.{journal_header_bytes, header_kind}
use Rattle.mm_frames.specs.declared.journal_header.HeaderKind.TheVariants.{Ours, Foreign, Broken}
use Rattle.mm_frames.proofs.HeaderKinds.{ours_begins}
use Rattle.mm_section.specs.declared.section.Section.{Section}
use Rattle.mm_journal.specs.Real.{is_broken_kind}
use Rattle.mm_journal.proofs.Real.{the_format, length-header, begins}
use Rattle.mm_recover.specs.Reading.{IsForeign, HasMore, HasGap, TakesFile, EndsAtGap, HasFileFault}
use Rattle.mm_recover.specs.declared.fault.Recover.{Recover}
use Rattle.mm_recover.specs.declared.fault.Recover.TheVariants.{DiskFault, NoMemory, BadHeader, JournalGap, BadLength}

header_is : (n : ℕ) → the_format.header n ≡ journal_header_bytes (n + 1)
unfolding the_format
header_is n = refl

broken_is : (n : ℕ) (bytes : List ℕ) → the_format.is_broken n bytes ≡ is_broken_kind (header_kind (n + 1) bytes)
unfolding the_format
broken_is n bytes = refl

pub ours_is : (n : ℕ) (bytes : List ℕ) → header_kind (n + 1) bytes ≡ Ours → bytes ≡ the_format.header n ++ drop 8192 bytes
ours_is n bytes is = ours_begins (n + 1) bytes is ∙ ap (λ (l : List ℕ). l ++ drop 8192 bytes) (sym (header_is n))

pub ours_long : (n : ℕ) (bytes : List ℕ) → header_kind (n + 1) bytes ≡ Ours → 8192 ≤ length bytes
ours_long n bytes is = omega (arith, ap length (ours_begins (n + 1) bytes is), length-append (journal_header_bytes (n + 1)) (drop 8192 bytes), length-header (n + 1))

pub broken_so : (n : ℕ) (bytes : List ℕ) → header_kind (n + 1) bytes ≡ Broken → the_format.is_broken n bytes ≡ true
broken_so n bytes is = broken_is n bytes ∙ ap is_broken_kind is

two_kinds : Foreign ≡ Ours → ⊥
two_kinds is = absurd cc

pub foreign_so : (n : ℕ) (bytes : List ℕ) → header_kind (n + 1) bytes ≡ Foreign → IsForeign n bytes
foreign_so n bytes is = (
  (λ ours. two_kinds (sym is ∙ ap (header_kind (n + 1)) (ours.is ∙ ap (λ (l : List ℕ). l ++ ours.rest) (header_is n)) ∙ begins (n + 1) ours.rest)),
  broken_is n bytes ∙ ap is_broken_kind is,
)

-- the last file may have no header
pub takes_none : (lsn : Option ℕ) (n : ℕ) (last : Bool) (bytes : List ℕ) (old : List Section) → last ≡ true → the_format.is_broken n bytes ≡ true → TakesFile lsn n last bytes old old
takes_none lsn n last bytes old is broken = record { new = []; is = sym (append-nil old); has = inr (is, (refl, broken)); gapless = λ g. g }

pub takes_more : (lsn : Option ℕ) (n : ℕ) (last : Bool) (bytes behind : List ℕ) (old all : List Section) → header_kind (n + 1) bytes ≡ Ours → behind ≡ drop 8192 bytes → HasMore lsn (n + 1 - 1) behind old all → TakesFile lsn n last bytes old all
takes_more lsn n last bytes behind old all ours is more =
    let at : n + 1 - 1 ≡ n = omega arith in
    let h : HasMore lsn n (drop 8192 bytes) old all = subst (λ m. HasMore lsn m (drop 8192 bytes) old all) at (subst (λ (l : List ℕ). HasMore lsn (n + 1 - 1) l old all) is more) in
    record { new = h.new; is = h.is; has = inl (record { ours = record { rest = drop 8192 bytes; is = ours_is n bytes ours }; has = h.has }); gapless = h.gapless }

pub gap_behind : (lsn : Option ℕ) (n : ℕ) (last : Bool) (bytes behind : List ℕ) (old : List Section) → header_kind (n + 1) bytes ≡ Ours → behind ≡ drop 8192 bytes → (e : Recover) → EndsAtGap lsn (n + 1 - 1) behind old e → HasFileFault lsn n last bytes old e
gap_behind lsn n last bytes behind old ours is NoMemory h = tt
gap_behind lsn n last bytes behind old ours is DiskFault h = h
gap_behind lsn n last bytes behind old ours is (BadHeader file) h = absurd h
gap_behind lsn n last bytes behind old ours is (BadLength file len) h = h
gap_behind lsn n last bytes behind old ours is (JournalGap expected found) h =
    let at : n + 1 - 1 ≡ n = omega arith in
    record {
      rest = drop 8192 bytes;
      is = ours_is n bytes ours;
      gap = subst (λ m. HasGap lsn m (drop 8192 bytes) old expected found) at (subst (λ (l : List ℕ). HasGap lsn (n + 1 - 1) l old expected found) is h);
    }

pub err_weaker : {T E : Type 0} (r : Result T E) (P Q : E → Type 0) → ((e : E) → P e → Q e) → IfErr r P → IfErr r Q
err_weaker (Ok x) P Q f h = tt
err_weaker (Err e) P Q f h = f e h

-- two facts of a value give a third
pub ok_two : {T E : Type 0} (r : Result T E) (P Q R : T → Type 0) → ((x : T) → P x → Q x → R x) → IfOk r P → IfOk r Q → IfOk r R
ok_two (Ok x) P Q R f h k = f x h k
ok_two (Err e) P Q R f h k = tt

-- a fact of the success, and facts of its value
pub on_and : {T E : Type 0} (r : Result T E) (M : Type 0) (P Q R : T → Type 0) → ((x : T) → M → P x → Q x → R x) → OnOk r M → IfOk r P → IfOk r Q → IfOk r R
on_and (Ok x) M P Q R f m h k = f x m h k
on_and (Err e) M P Q R f m h k = tt
