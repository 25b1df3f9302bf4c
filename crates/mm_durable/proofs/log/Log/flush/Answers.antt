use Rattle.std.proofs.Common.{◌≡◌, refl, ◌-◌, ◌+◌, ◌<◌, ◌≤◌, length, ◌∙◌, ap, arith, get_or, ℕ, List, [], take, drop}
use Rattle.mm_section.specs.declared.section.Section.{Section}
use Rattle.mm_recover.proofs.LayAsks.{some_as, made_as}
use Rattle.mm_durable.specs.Log.{IsSound, synced}
use Rattle.mm_durable.specs.Own.{own_of_sections}
use Rattle.mm_durable.specs.declared.log.Log.{Log}
use Rattle.mm_durable.proofs.Steps.{on_err_holds, leaving}
use Rattle.mm_durable.proofs.Marks.{idle}
use Rattle.mm_durable.proofs.Flushes.{at_place, slice, slice_named, flushing_safe, flushes}
use Rattle.mm_durable.specs.Flushed.{flushed_bytes}
use Rattle.mm_durable.proofs.Counted.{sections_small, slice_can, slice_few, none_left, asks_none, flushed_before, flushed_farther}
use Rattle.mm_durable.proofs.log.Log.flush.Goals as goal

-- how many are flushed, and the database's name
flushed_is : (old : Log) → IsSound old → (d from : ℕ) → d < length old.names.items → from ≡ get_or old.flushed.items d from → from ≡ get_or old.flushed.items d 0
flushed_is old sound d from lt is = is ∙ at_place old.flushed.items d from 0 (omega (arith, lt, sound.each))

name_is : (names : List (List ℕ)) (d : ℕ) (bytes name : List ℕ) → d < length names → bytes ≡ name → name ≡ get_or names d name → bytes ≡ get_or names d []
name_is names d bytes name lt e is = e ∙ is ∙ at_place names d name [] lt

entries_as : (sections : List Section) (bytes name : List ℕ) → bytes ≡ name → own_of_sections bytes sections ≡ own_of_sections name sections
entries_as sections bytes name e = ap (λ (n : List ℕ). own_of_sections n sections) e

later : (upto last from : ℕ) → last + from < upto → from ≤ upto - last
later upto last from lt = omega (arith, lt)

no_later : (old : Log) (upto : ℕ) → upto ≤ old.last + synced old → upto - old.last ≤ synced old
no_later old upto le = omega (arith, le)

pub returns-then-upto-self-clause-kept : goal.returns-then-upto-self-clause-kept
returns-then-upto-self-clause-kept g c = idle c.args.self.now c.requires.sound _

pub flush_sections-requires : goal.flush_sections-requires
flush_sections-requires g c =
    let old = c.args.self.now in
    let from = c.index-from.result.now in
    record {
      small = sections_small c.bytes.result.now _ (slice_can old c.requires.sound (c.args.upto - old.last) from c.deref.result.now c.deref.ensures.value) (slice_few old c.requires.sound (c.args.upto - old.last) from c.deref.result.now c.deref.ensures.value);
      named = slice_named old c.requires.sound c.args.db c.requires.db (c.args.upto - old.last) c.index-from.result.now (flushed_is old c.requires.sound c.args.db c.index-from.result.now c.requires.db c.index-from.ensures) (later c.args.upto old.last c.index-from.result.now c.if-upto-self.false)
          (no_later old c.args.upto c.requires.synced) c.deref.result.now c.deref.ensures.value;
    }

pub returns-in_err-written-clause-left : goal.returns-in_err-written-clause-left
returns-in_err-written-clause-left g c =
    let old = c.args.self.now in
    let from = c.index-from.result.now in
    let k = c.args.upto - old.last in
    let is = flushed_is old c.requires.sound c.args.db from c.requires.db c.index-from.ensures in
    let le = later c.args.upto old.last from c.if-upto-self.false in
    let to = no_later old c.args.upto c.requires.synced in
    let part = slice old c.requires.sound c.args.db c.requires.db k from is le to c.deref.result.now c.deref.ensures.value in
    let named = name_is old.names.items c.args.db c.bytes.result.now c.index.result.now c.requires.db c.bytes.ensures.is c.index.ensures in
    on_err_holds c.from_residual.result _ (leaving old _ _ _ (some_as _ _ _ _ (entries_as part c.bytes.result.now _ named) c.flush_sections.ensures.cut) (flushing_safe old c.requires.sound c.args.db c.requires.db k from is le to c.deref.result.now c.deref.ensures.value))

pub returns-clause-kept : goal.returns-clause-kept
returns-clause-kept g c =
    let old = c.args.self.now in
    let from = c.index-from.result.now in
    let k = c.args.upto - old.last in
    let is = flushed_is old c.requires.sound c.args.db from c.requires.db c.index-from.ensures in
    let le = later c.args.upto old.last from c.if-upto-self.false in
    let to = no_later old c.args.upto c.requires.synced in
    let part = slice old c.requires.sound c.args.db c.requires.db k from is le to c.deref.result.now c.deref.ensures.value in
    let named = name_is old.names.items c.args.db c.bytes.result.now c.index.result.now c.requires.db c.bytes.ensures.is c.index.ensures in
    flushes old c.requires.sound c.args.db c.requires.db k from is le to c.deref.result.now c.deref.ensures.value _ (record { names = refl; last = refl }) refl refl refl refl refl refl refl _ _ (made_as _ _ _ _ (entries_as part c.bytes.result.now _ named) c.in_ok-written.ensures.made)

pub returns-then-upto-self-clause-bytes : goal.returns-then-upto-self-clause-bytes
returns-then-upto-self-clause-bytes g c =
    let old = c.args.self.now in
    let is = flushed_is old c.requires.sound c.args.db c.index-from.result.now c.requires.db c.index-from.ensures in
    none_left (get_or old.names.items c.args.db []) old.sections.items (get_or old.flushed.items c.args.db 0) old.dropped c.args.upto old.last (omega (arith, is, c.if-upto-self.true))

pub returns-clause-bytes : goal.returns-clause-bytes
returns-clause-bytes g c =
    let old = c.args.self.now in
    let from = c.index-from.result.now in
    let is = flushed_is old c.requires.sound c.args.db from c.requires.db c.index-from.ensures in
    let named = name_is old.names.items c.args.db c.bytes.result.now c.index.result.now c.requires.db c.bytes.ensures.is c.index.ensures in
    c.in_ok-written.ensures.bytes
    ∙ ap (λ (n : List ℕ). flushed_bytes n (take (c.args.upto - old.last - old.dropped - (from - old.dropped)) (drop (from - old.dropped) c.deref.result.now))) named
    ∙ ap (λ (l : List Section). flushed_bytes (get_or old.names.items c.args.db []) (take (c.args.upto - old.last - old.dropped - (from - old.dropped)) (drop (from - old.dropped) l))) c.deref.ensures.value
    ∙ ap (λ (n : ℕ). flushed_bytes (get_or old.names.items c.args.db []) (take (c.args.upto - old.last - old.dropped - (n - old.dropped)) (drop (n - old.dropped) old.sections.items))) is

pub returns-then-upto-self-clause-counts : goal.returns-then-upto-self-clause-counts
returns-then-upto-self-clause-counts g c =
    let old = c.args.self.now in
    let is = flushed_is old c.requires.sound c.args.db c.index-from.result.now c.requires.db c.index-from.ensures in
    flushed_before old c.args.db c.args.upto (omega (arith, is, c.if-upto-self.true))

pub returns-clause-counts : goal.returns-clause-counts
returns-clause-counts g c =
    let old = c.args.self.now in
    let is = flushed_is old c.requires.sound c.args.db c.index-from.result.now c.requires.db c.index-from.ensures in
    flushed_farther old c.requires.sound c.args.db c.requires.db c.args.upto (omega (arith, is, c.if-upto-self.false)) _ refl refl refl refl

pub returns-then-upto-self-clause-made : goal.returns-then-upto-self-clause-made
returns-then-upto-self-clause-made g c =
    let old = c.args.self.now in
    let is = flushed_is old c.requires.sound c.args.db c.index-from.result.now c.requires.db c.index-from.ensures in
    asks_none old c.args.db c.args.upto (omega (arith, is, c.if-upto-self.true)) _

pub returns-clause-made : goal.returns-clause-made
returns-clause-made g c =
    let old = c.args.self.now in
    let from = c.index-from.result.now in
    let is = flushed_is old c.requires.sound c.args.db from c.requires.db c.index-from.ensures in
    let named = name_is old.names.items c.args.db c.bytes.result.now c.index.result.now c.requires.db c.bytes.ensures.is c.index.ensures in
    made_as _ _ _ _
    (ap (λ (n : List ℕ). own_of_sections n (take (c.args.upto - old.last - old.dropped - (from - old.dropped)) (drop (from - old.dropped) c.deref.result.now))) named
    ∙ ap (λ (l : List Section). own_of_sections (get_or old.names.items c.args.db []) (take (c.args.upto - old.last - old.dropped - (from - old.dropped)) (drop (from - old.dropped) l))) c.deref.ensures.value
    ∙ ap (λ (n : ℕ). own_of_sections (get_or old.names.items c.args.db []) (take (c.args.upto - old.last - old.dropped - (n - old.dropped)) (drop (n - old.dropped) old.sections.items))) is)
    c.in_ok-written.ensures.made
