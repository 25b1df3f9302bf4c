use Rattle.std.proofs.Common.{◌-◌, ◌++◌, List, length, drop, take, ◌∙◌, refl, ap}
use Rattle.std.proofs.lemmas.List.{take_at}
use Rattle.mm_section.specs.declared.section.Section.{Section}
use Rattle.mm_durable.proofs.Gone.{rest_kept, may_go, goes, still_sound, still_kept}
use Rattle.mm_durable.proofs.log.Log.let_go.Goals as goal

pub returns-clause-sound : goal.returns-clause-sound
returns-clause-sound c =
    let old = c.args.self.now in
    let xs = old.sections.items in
    let k = old.floor - old.dropped in
    still_sound old _ c.requires (record {
      journal = refl;
      names = refl;
      last = refl;
      sections = rest_kept xs c.rotate_left.«new».self c.truncate.«new».self.items k (length c.as_slice.result.now - k) (may_go old c.requires) (c.rotate_left.ensures.after ∙ ap (λ (l : List Section). drop k l ++ take k l) c.as_mut_slice.ensures.value)
          (ap (λ (l : List Section). length l - k) c.as_slice.ensures.value) (c.truncate.ensures.items ∙ ap (take (length c.as_slice.result.now - k)) (take_at c.rotate_left.«new».self (drop (length c.rotate_left.«new».self) xs) old.sections.len (c.rotate_left.ensures.len ∙ c.as_mut_slice.ensures.len)));
      dropped = refl;
      receipts = refl;
      flushed = refl;
      floor = refl;
      mark = refl;
      space = c.truncate.ensures.capacity;
    })

pub returns-clause-gone : goal.returns-clause-gone
returns-clause-gone c =
    let old = c.args.self.now in
    let xs = old.sections.items in
    let k = old.floor - old.dropped in
    goes old _ c.requires (record {
      journal = refl;
      names = refl;
      last = refl;
      sections = rest_kept xs c.rotate_left.«new».self c.truncate.«new».self.items k (length c.as_slice.result.now - k) (may_go old c.requires) (c.rotate_left.ensures.after ∙ ap (λ (l : List Section). drop k l ++ take k l) c.as_mut_slice.ensures.value)
          (ap (λ (l : List Section). length l - k) c.as_slice.ensures.value) (c.truncate.ensures.items ∙ ap (take (length c.as_slice.result.now - k)) (take_at c.rotate_left.«new».self (drop (length c.rotate_left.«new».self) xs) old.sections.len (c.rotate_left.ensures.len ∙ c.as_mut_slice.ensures.len)));
      dropped = refl;
      receipts = refl;
      flushed = refl;
      floor = refl;
      mark = refl;
      space = c.truncate.ensures.capacity;
    })

pub returns-clause-counts : goal.returns-clause-counts
returns-clause-counts c = record { receipts_kept = refl; flushed_kept = refl; floor_kept = refl; mark_kept = refl }

pub returns-clause-kept : goal.returns-clause-kept
returns-clause-kept c =
    let old = c.args.self.now in
    let xs = old.sections.items in
    let k = old.floor - old.dropped in
    still_kept old _ c.requires (record {
      journal = refl;
      names = refl;
      last = refl;
      sections = rest_kept xs c.rotate_left.«new».self c.truncate.«new».self.items k (length c.as_slice.result.now - k) (may_go old c.requires) (c.rotate_left.ensures.after ∙ ap (λ (l : List Section). drop k l ++ take k l) c.as_mut_slice.ensures.value)
          (ap (λ (l : List Section). length l - k) c.as_slice.ensures.value) (c.truncate.ensures.items ∙ ap (take (length c.as_slice.result.now - k)) (take_at c.rotate_left.«new».self (drop (length c.rotate_left.«new».self) xs) old.sections.len (c.rotate_left.ensures.len ∙ c.as_mut_slice.ensures.len)));
      dropped = refl;
      receipts = refl;
      flushed = refl;
      floor = refl;
      mark = refl;
      space = c.truncate.ensures.capacity;
    })
