use Rattle.std.proofs.Common.{◌≡◌, ℕ, false, List, map, length, sym, ap, ◌∙◌, arith}
use Rattle.std.specs.Prelude.{not}
use Rattle.mm_update.specs.Paths.{overlaps_any, AreInOrder, IsPlace, IsFree}
use Rattle.mm_update.proofs.Ordered.{mapped_length, mapped_insert, place_within, in_order_put, none_overlaps, any_put}
use Rattle.mm_update.proofs.Commons.{most_put}
use Rattle.mm_update.proofs.apart.Apart.put.Goals as goal

pub insert-requires : goal.insert-requires
insert-requires c =
    let paths = c.as_slice.result.now in
    let k = c.place_of-place.result in
    let le = place_within c.args.path.now k (map (λ t. t.now) paths) c.place_of-place.ensures in
    let same = mapped_length (λ t. t.now) paths in
    omega (arith, c.as_slice.ensures.len, ap length c.as_slice.ensures.value)

pub invariant_of-self-2 : goal.invariant_of-self-2
invariant_of-self-2 c =
    let paths = c.self.inside.paths.items in
    let ps : List (List ℕ) = map (λ t. t.now) paths in
    let k = c.place_of-place.result in
    let q = c.args.path.now in
    let order : AreInOrder ps = c.self.invariant in
    let place : IsPlace k ps q = rw c.as_slice.ensures.value at c.place_of-place.ensures in
    let free : IsFree q k ps = rw c.as_slice-2.ensures.value at (c.overlaps_at.ensures.none c.if-overlaps_at.false) in
    rw (c.in_ok-insert.ensures.items, mapped_insert (λ t. t.now) k c.args.path paths) (in_order_put q k ps order place free.0 free.1)

pub returns-clause-answer : goal.returns-clause-answer
returns-clause-answer c =
    let ps : List (List ℕ) = map (λ t. t.now) c.self.inside.paths.items in
    let k = c.place_of-place.result in
    let q = c.args.path.now in
    let order : AreInOrder ps = c.self.invariant in
    let place : IsPlace k ps q = rw c.as_slice.ensures.value at c.place_of-place.ensures in
    let free : IsFree q k ps = rw c.as_slice-2.ensures.value at (c.overlaps_at.ensures.none c.if-overlaps_at.false) in
    let none : overlaps_any c.args.self.now q ≡ false = ap (λ (all : List (List ℕ)). overlaps_any all q) (sym c.self.view_is) ∙ none_overlaps q k ps order place free.0 free.1 in
    sym (ap not none)

pub returns-clause-one_more : goal.returns-clause-one_more
returns-clause-one_more c = λ is q.
    let paths = c.self.inside.paths.items in
    let ps : List (List ℕ) = map (λ t. t.now) paths in
    let k = c.place_of-place.result in
    let view : c.args.self.now ≡ ps = sym c.self.view_is in
    rw (c.in_ok-insert.ensures.items, mapped_insert (λ t. t.now) k c.args.path paths, view) (any_put c.args.path.now k ps q)

pub returns-clause-common : goal.returns-clause-common
returns-clause-common c = λ is ms.
    let paths = c.self.inside.paths.items in
    let ps : List (List ℕ) = map (λ t. t.now) paths in
    let k = c.place_of-place.result in
    let view : c.args.self.now ≡ ps = sym c.self.view_is in
    rw (c.in_ok-insert.ensures.items, mapped_insert (λ t. t.now) k c.args.path paths, view) (most_put c.args.path.now k ps ms)
