use Rattle.std.proofs.Common.{◌≡◌, ℕ, ◌<◌, inl, inr, length, sym, subst, arith, rules}
use Rattle.std.specs.Prelude.{slice_index_or}
use Rattle.std.proofs.lemmas.Bool.{cases_lt}
use Rattle.std.proofs.lemmas.List.{get_or_default}
use Rattle.mm_base.specs.Places.{null}
use Rattle.mm_base.specs.declared.place.DiskLoc.{DiskLoc}
use Rattle.mm_links.specs.Links.{Place}
use Rattle.mm_extents.proofs.Spots.{none_of}
use Rattle.mm_records.specs.Map.{name_at}
use Rattle.mm_records.specs.Searching.{IsList, AllShorter, IsChosen}
use Rattle.mm_records.proofs.Lists.{is_list, none_fits, chosen, no_block}
use Rattle.mm_records.proofs.search.find_block.Goals as goal

pub loop-list-init : goal.loop-list-init
loop-list-init c = let e = c.list_of-list.ensures.is in (omega (arith, e), λ free s st i from below. absurd (omega (arith, e, from, below)))

pub first_fit-requires : goal.first_fit-requires
first_fit-requires c =
    let low : c.loop-list.list < 19 = c.loop-list-test.true in
    let e : slice_index_or c.args.counts.now.deleted c.loop-list.list c.index-counts-list.result ≡ slice_index_or c.args.counts.now.deleted c.loop-list.list null = get_or_default c.args.counts.now.deleted c.loop-list.list c.index-counts-list.result null (let nineteen : length c.args.counts.now.deleted ≡ 19 = search rules in omega (arith, low, nineteen)) in
    let l = is_list c.args.draft.now.image c.requires.0 c.requires.1.0 c.args.node c.args.counts.now c.requires.1.1 c.loop-list.list low in
    (c.requires.1.0.lists (name_at c.args.draft.now.image c.args.node) c.loop-list.list, subst (λ (x : DiskLoc). IsList c.args.draft.now.image (c.requires.1.0.lists (name_at c.args.draft.now.image c.args.node) c.loop-list.list) x) (sym e) l)

pub returns-in-Some-clause-some : goal.returns-in-Some-clause-some
returns-in-Some-clause-some c = λ free s st.
    let low : c.loop-list.list < 19 = c.loop-list-test.true in
    let p : Place = (c.in-Some.block.at.file, c.in-Some.block.at.ofs) in
    let e : slice_index_or c.args.counts.now.deleted c.loop-list.list c.index-counts-list.result ≡ slice_index_or c.args.counts.now.deleted c.loop-list.list null = get_or_default c.args.counts.now.deleted c.loop-list.list c.index-counts-list.result null (let nineteen : length c.args.counts.now.deleted ≡ 19 = search rules in omega (arith, low, nineteen)) in
    let l = is_list c.args.draft.now.image free s c.args.node c.args.counts.now st c.loop-list.list low in
    let l' = subst (λ (x : DiskLoc). IsList c.args.draft.now.image (s.lists (name_at c.args.draft.now.image c.args.node) c.loop-list.list) x) (sym e) l in
    let fit = c.in-Some.ensures.some (s.lists (name_at c.args.draft.now.image c.args.node) c.loop-list.list) l' in
    subst (λ (i : ℕ). IsChosen s (name_at c.args.draft.now.image c.args.node) c.args.room i c.in-Some.block.before p) (sym c.in-Some.ensures.same)
    (chosen c.args.draft.now.image free s c.args.node c.args.counts.now st c.loop-list.list c.args.room c.in-Some.block.before p low c.loop-list.invariant.0 (λ j. c.loop-list.invariant.1 free s st j) fit)

pub loop-list-preserved : goal.loop-list-preserved
loop-list-preserved c =
    let from = c.loop-list.invariant.0 in (
      omega (arith, from),
      λ free s st i most below.
          let low : c.loop-list.list < 19 = c.loop-list-test.true in
          let e : slice_index_or c.args.counts.now.deleted c.loop-list.list c.index-counts-list.result ≡ slice_index_or c.args.counts.now.deleted c.loop-list.list null = get_or_default c.args.counts.now.deleted c.loop-list.list c.index-counts-list.result null (let nineteen : length c.args.counts.now.deleted ≡ 19 = search rules in omega (arith, low, nineteen)) in
          let l = is_list c.args.draft.now.image free s c.args.node c.args.counts.now st c.loop-list.list low in
          let l' = subst (λ (x : DiskLoc). IsList c.args.draft.now.image (s.lists (name_at c.args.draft.now.image c.args.node) c.loop-list.list) x) (sym e) l in
          let none = none_of _ c.first_fit.result c.first_fit.ensures.none (λ x f. c.in_default.not-Some x f) in
          elim (cases_lt i c.loop-list.list) [
            | inl old ↦ c.loop-list.invariant.1 free s st i most old
            | inr here ↦ subst (λ (j : ℕ). AllShorter s.heap c.args.room (s.lists (name_at c.args.draft.now.image c.args.node) j)) (let same : c.loop-list.list ≡ i = omega (arith, here, below) in same)
                (none_fits c.args.draft.now.image free s c.args.node c.args.counts.now st c.loop-list.list c.args.room (none (s.lists (name_at c.args.draft.now.image c.args.node) c.loop-list.list) l'))
          ],
    )

pub returns-clause-none : goal.returns-clause-none
returns-clause-none c = λ free s st.
    let past = c.loop-list-test.false in
    no_block c.args.draft.now.image free s c.args.node c.args.counts.now st c.args.room (λ j from below. c.loop-list.invariant.1 free s st j from (omega (arith, past, below)))
