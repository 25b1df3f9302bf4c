use Rattle.std.proofs.Common.{◌≡◌, ℕ, false, List, sym, ◌∙◌, ap, subst, arith}
use Rattle.std.proofs.lemmas.Result.{IfOk-weaker}
use Rattle.mm_views.specs.State.{Drafting}
use Rattle.mm_records.specs.Shape.{Shape}
use Rattle.mm_btree.specs.Nodes.{Item, Buckets}
use Rattle.mm_btree.specs.Trees.{Sub}
use Rattle.mm_btree.specs.Order.{item_lt}
use Rattle.mm_btree.specs.Changes.{IsTree}
use Rattle.mm_trees.specs.Buckets.{Holds, Goes, IsFull, bucket_in}
use Rattle.mm_btree.specs.Costs.{remove_asks, remove_weighs}
use Rattle.mm_trees.specs.Costs.{most_places}
use Rattle.mm_trees.specs.Kept.{Kept, bucket_of, start_of}
use Rattle.mm_trees.specs.Changes.{IsTaken, IsThere}
use Rattle.mm_trees.proofs.Lent.{few_asked, weight_by, goes_few, scarce_few, full_from, taken_seen, taken_whole}
use Rattle.mm_trees.proofs.lending.take_pair.Goals as goal

pub new-store-requires : goal.new-store-requires
new-store-requires c = subst (λ (y : Drafting). (free : List ℕ) × ((s : Shape) × Holds y.image free s c.args.node)) (sym c.replace-lent.ensures.value) c.requires.holds

pub take_out-result-requires-clause-tree : goal.take_out-result-requires-clause-tree
take_out-result-requires-clause-tree c =
    let d = c.args.draft.now in
    let node = c.args.node in
    let spec = c.args.spec.now in
    let root = c.args.root in
    let x : Item = record { key = c.args.key.now; rec = c.args.rec } in
    let made : c.new-store.result ≡ record { draft = d; node = node; broken = false; start = d; asked = 0 } = c.new-store.ensures ∙ ap (λ (y : Drafting). record { draft = y; node = node; broken = false; start = y; asked = 0 }) c.replace-lent.ensures.value in
    let same : bucket_of c.new-store.result ≡ bucket_in d.image node = ap bucket_of made in
    subst (λ (m : Buckets). (h : ℕ) × ((s : Sub) × IsTree (item_lt spec) m root h s)) (sym same) c.requires.tree

pub returns-clause-out : goal.returns-clause-out
returns-clause-out c =
    let d = c.args.draft.now in
    let node = c.args.node in
    let spec = c.args.spec.now in
    let root = c.args.root in
    let x : Item = record { key = c.args.key.now; rec = c.args.rec } in
    let made : c.new-store.result ≡ record { draft = d; node = node; broken = false; start = d; asked = 0 } = c.new-store.ensures ∙ ap (λ (y : Drafting). record { draft = y; node = node; broken = false; start = y; asked = 0 }) c.replace-lent.ensures.value in
    let same : bucket_of c.new-store.result ≡ bucket_in d.image node = ap bucket_of made in
    let k = c.take_out-result.new.store in
    let stays : start_of k ≡ start_of (record { draft = d; node = node; broken = false; start = d; asked = 0 }) = c.take_out-result.ensures.stays ∙ ap start_of made in
    IfOk-weaker c.take_out-result.result _ _ (λ r f after e.
    subst (λ (n : Drafting). IsTaken spec (bucket_in d.image node) (bucket_in n.image node) root x after) (sym c.into_draft.ensures.draft)
    (taken_seen d node k false stays spec root after x (subst (λ (m : Buckets). IsTaken spec m (bucket_of k) root x after) same (f after e)))) c.take_out-result.ensures.out

pub returns-clause-goes : goal.returns-clause-goes
returns-clause-goes c =
    let d = c.args.draft.now in
    let node = c.args.node in
    let spec = c.args.spec.now in
    let root = c.args.root in
    let x : Item = record { key = c.args.key.now; rec = c.args.rec } in
    let made : c.new-store.result ≡ record { draft = d; node = node; broken = false; start = d; asked = 0 } = c.new-store.ensures ∙ ap (λ (y : Drafting). record { draft = y; node = node; broken = false; start = y; asked = 0 }) c.replace-lent.ensures.value in
    let same : bucket_of c.new-store.result ≡ bucket_in d.image node = ap bucket_of made in
    let k = c.take_out-result.new.store in
    let stays : start_of k ≡ start_of (record { draft = d; node = node; broken = false; start = d; asked = 0 }) = c.take_out-result.ensures.stays ∙ ap start_of made in
    let t = c.requires.tree in
    let r = c.requires.holds in
    let few = few_asked d node k false stays spec root c.new-store.result made remove_asks c.take_out-result.ensures.asked r.0 r.1.0 r.1.1 t.0 t.1.0 t.1.1 (λ n le. omega (arith, le)) in
    IfOk-weaker c.take_out-result.result _ _ (λ r f after e.
    let whole = taken_whole d node k false stays spec root after x t.0 t.1.0 t.1.1 (subst (λ (m : Buckets). IsTaken spec m (bucket_of k) root x after) same (f after e)) in
    subst (λ (n : Drafting). Goes d.image n.image node most_places) (sym c.into_draft.ensures.draft) (goes_few d node k false stays c.into_draft.ensures.kept whole few)) c.take_out-result.ensures.out

pub returns-clause-there : goal.returns-clause-there
returns-clause-there c =
    let d = c.args.draft.now in
    let node = c.args.node in
    let spec = c.args.spec.now in
    let root = c.args.root in
    let x : Item = record { key = c.args.key.now; rec = c.args.rec } in
    let made : c.new-store.result ≡ record { draft = d; node = node; broken = false; start = d; asked = 0 } = c.new-store.ensures ∙ ap (λ (y : Drafting). record { draft = y; node = node; broken = false; start = y; asked = 0 }) c.replace-lent.ensures.value in
    let same : bucket_of c.new-store.result ≡ bucket_in d.image node = ap bucket_of made in
    IfOk-weaker c.take_out-result.result _ _ (λ r f. subst (λ (m : Buckets). IsThere spec m root x r) same f) c.take_out-result.ensures.there

pub returns-clause-kept : goal.returns-clause-kept
returns-clause-kept c =
    let d = c.args.draft.now in
    let node = c.args.node in
    let spec = c.args.spec.now in
    let root = c.args.root in
    let x : Item = record { key = c.args.key.now; rec = c.args.rec } in
    let made : c.new-store.result ≡ record { draft = d; node = node; broken = false; start = d; asked = 0 } = c.new-store.ensures ∙ ap (λ (y : Drafting). record { draft = y; node = node; broken = false; start = y; asked = 0 }) c.replace-lent.ensures.value in
    let same : bucket_of c.new-store.result ≡ bucket_in d.image node = ap bucket_of made in
    IfOk-weaker c.take_out-result.result _ _ (λ r f e. c.into_draft.ensures.draft ∙ ap (λ (y : Kept). y.draft) (f e ∙ made)) c.take_out-result.ensures.kept

pub returns-clause-full : goal.returns-clause-full
returns-clause-full c = λ e.
    let d = c.args.draft.now in
    let node = c.args.node in
    let spec = c.args.spec.now in
    let root = c.args.root in
    let x : Item = record { key = c.args.key.now; rec = c.args.rec } in
    let made : c.new-store.result ≡ record { draft = d; node = node; broken = false; start = d; asked = 0 } = c.new-store.ensures ∙ ap (λ (y : Drafting). record { draft = y; node = node; broken = false; start = y; asked = 0 }) c.replace-lent.ensures.value in
    let same : bucket_of c.new-store.result ≡ bucket_in d.image node = ap bucket_of made in
    let k = c.take_out-result.new.store in
    let stays : start_of k ≡ start_of (record { draft = d; node = node; broken = false; start = d; asked = 0 }) = c.take_out-result.ensures.stays ∙ ap start_of made in
    subst (λ (n : Drafting). IsFull d.image n.image node) (sym c.into_draft.ensures.draft) (full_from d node k false stays (c.take_out-result.ensures.full e))

pub returns-clause-scarce : goal.returns-clause-scarce
returns-clause-scarce c = λ e.
    let d = c.args.draft.now in
    let node = c.args.node in
    let spec = c.args.spec.now in
    let root = c.args.root in
    let made : c.new-store.result ≡ record { draft = d; node = node; broken = false; start = d; asked = 0 } = c.new-store.ensures ∙ ap (λ (y : Drafting). record { draft = y; node = node; broken = false; start = y; asked = 0 }) c.replace-lent.ensures.value in
    let k = c.take_out-result.new.store in
    let stays : start_of k ≡ start_of (record { draft = d; node = node; broken = false; start = d; asked = 0 }) = c.take_out-result.ensures.stays ∙ ap start_of made in
    let t = c.requires.tree in
    let r = c.requires.holds in
    let few = few_asked d node k false stays spec root c.new-store.result made remove_asks c.take_out-result.ensures.asked r.0 r.1.0 r.1.1 t.0 t.1.0 t.1.1 (λ n le. omega (arith, le)) in
    scarce_few d node k false stays (c.take_out-result.ensures.full e) few

pub returns-clause-weight : goal.returns-clause-weight
returns-clause-weight c =
    let d = c.args.draft.now in
    let node = c.args.node in
    let spec = c.args.spec.now in
    let root = c.args.root in
    let made : c.new-store.result ≡ record { draft = d; node = node; broken = false; start = d; asked = 0 } = c.new-store.ensures ∙ ap (λ (y : Drafting). record { draft = y; node = node; broken = false; start = y; asked = 0 }) c.replace-lent.ensures.value in
    let k = c.take_out-result.new.store in
    let stays : start_of k ≡ start_of (record { draft = d; node = node; broken = false; start = d; asked = 0 }) = c.take_out-result.ensures.stays ∙ ap start_of made in
    weight_by d node k false stays spec root c.new-store.result made remove_weighs c.take_out-result.ensures.weight c.into_draft.result c.into_draft.ensures.draft
