-- The trace of a file goes on by one call.
use Rattle.std.proofs.Common.{◌≡◌, ℕ, Bool, true, false, cond, ◌+◌, max, min, List, ◌∷◌, length, Option, Some, refl, sym, ◌∙◌, ap, subst}
use Rattle.std.specs.Option.{option_map}
use Rattle.mm_bytes.specs.Files.{overwritten, resized}
use Rattle.mm_outside.specs.Crash.{file_after}
use Rattle.mm_outside.specs.Told.{Change, Pending, IsTorn, pending_by, Writes, Resizes}
use Rattle.mm_memdisk.specs.declared.traced.Contents.{Contents}
use Rattle.mm_memdisk.specs.declared.traced.Unsettled.{Unsettled}
use Rattle.mm_memdisk.specs.declared.traced.Traced.{Traced}
use Rattle.mm_memdisk.specs.Traced.{Traces, StepsBy, pending_in, MayHave, RangeAdded, LengthAdded}
use Rattle.mm_memdisk.proofs.Torn.{torn_write, torn_length}

abbrev bytes_of : Option Contents → Option (List ℕ)
bytes_of o = option_map (λ (c : Contents). c.read.items) o

torn_as : (a x : List ℕ) (p q : Pending) (b y : List ℕ) → a ≡ x → p ≡ q → b ≡ y → IsTorn x q y → IsTorn a p b
torn_as a x p q b y e f g t = subst (λ (l : List ℕ). IsTorn l p b) (sym e) (subst (λ (r : Pending). IsTorn x r b) (sym f) (subst (λ (l : List ℕ). IsTorn x q l) (sym g) t))

-- from the trace of a file that is there, or that isn't
by_trace : (change : Change) (done : Bool) (old new : Traced) (o : Option Contents) → old.contents ≡ o
    → (MayHave o (pending_in old.pending) → Traces (cond done (file_after change (bytes_of o)) (bytes_of o)) (pending_by change done (bytes_of o) (pending_in old.pending)) new)
    → StepsBy change done old new
by_trace change done old new o is h file q tr =
    let t : MayHave o (pending_in old.pending) = subst (λ (c : Option Contents). MayHave c (pending_in old.pending)) is tr.torn in
    let f : bytes_of o ≡ file = sym (ap bytes_of is) ∙ tr.file in
    subst (λ (g : Option (List ℕ)). Traces (cond done (file_after change g) g) (pending_by change done g q) new) f
    (subst (λ (r : Pending). Traces (cond done (file_after change (bytes_of o)) (bytes_of o)) (pending_by change done (bytes_of o) r) new) tr.pending (h t))

some_cond : (done : Bool) (a b : List ℕ) → cond done (Some a) (Some b) ≡ Some (cond done a b)
some_cond true a b = refl
some_cond false a b = refl

range_is : (old new : Unsettled) (at end : ℕ) → RangeAdded old at end new → pending_in new ≡ record (pending_in old) { greatest = max old.greatest end; ranges = (at, end) ∷ old.ranges.items }
range_is old new at end r = let a = r.least in let b = r.greatest in let c = r.ranges in let d = r.unsure in cc

length_is : (old new : Unsettled) (len : ℕ) → LengthAdded old len new → pending_in new ≡ record (pending_in old) { least = min old.least len; greatest = max old.greatest len }
length_is old new len r = let a = r.least in let b = r.greatest in let c = r.ranges in let d = r.unsure in cc

-- of one that is there
pub wrote_some : (at : ℕ) (bytes : List ℕ) (done : Bool) (old : Traced) (was now : Contents) (u : Unsettled) → old.contents ≡ Some was
    → now.read.items ≡ cond done (overwritten at bytes was.read.items) was.read.items → now.synced.items ≡ was.synced.items → now.written.items ≡ overwritten at bytes was.written.items → RangeAdded old.pending at (at + length bytes) u
    → StepsBy (Writes at bytes) done old (record { contents = Some now; pending = u })
wrote_some at bytes done old was now u is a b c r = by_trace (Writes at bytes) done old _ (Some was) is (λ t. record {
  file = ap Some a ∙ sym (some_cond done _ _);
  pending = range_is old.pending u at (at + length bytes) r;
  torn = (
    torn_as _ _ _ _ _ _ a (range_is old.pending u at (at + length bytes) r) a (torn_write at bytes done done was.read.items was.read.items (pending_in old.pending) t.0),
    (
      torn_as _ _ _ _ _ _ a (range_is old.pending u at (at + length bytes) r) b (torn_write at bytes done false was.read.items was.synced.items (pending_in old.pending) t.1.0),
      torn_as _ _ _ _ _ _ a (range_is old.pending u at (at + length bytes) r) c (torn_write at bytes done true was.read.items was.written.items (pending_in old.pending) t.1.1),
    ),
  );
})

pub sized_some : (len : ℕ) (done : Bool) (old : Traced) (was now : Contents) (u : Unsettled) → old.contents ≡ Some was
    → now.read.items ≡ cond done (resized len was.read.items) was.read.items → now.synced.items ≡ was.synced.items → now.written.items ≡ resized len was.written.items → LengthAdded old.pending len u
    → StepsBy (Resizes len) done old (record { contents = Some now; pending = u })
sized_some len done old was now u is a b c r = by_trace (Resizes len) done old _ (Some was) is (λ t. record {
  file = ap Some a ∙ sym (some_cond done _ _);
  pending = length_is old.pending u len r;
  torn = (
    torn_as _ _ _ _ _ _ a (length_is old.pending u len r) a (torn_length len done done was.read.items was.read.items (pending_in old.pending) t.0),
    (
      torn_as _ _ _ _ _ _ a (length_is old.pending u len r) b (torn_length len done false was.read.items was.synced.items (pending_in old.pending) t.1.0),
      torn_as _ _ _ _ _ _ a (length_is old.pending u len r) c (torn_length len done true was.read.items was.written.items (pending_in old.pending) t.1.1),
    ),
  );
})
