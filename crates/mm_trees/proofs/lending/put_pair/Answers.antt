use Rattle.std.proofs.Common.{◌≡◌, ℕ, false, List, sym, ◌∙◌, ap, subst, arith}
use Rattle.std.proofs.lemmas.Result.{IfOk-weaker, on_ok_weaker}
use Rattle.mm_views.specs.State.{Drafting}
use Rattle.mm_records.specs.Shape.{Shape}
use Rattle.mm_btree.specs.Nodes.{Item, Buckets}
use Rattle.mm_btree.specs.Trees.{Sub}
use Rattle.mm_btree.specs.Order.{item_lt, IsLacking}
use Rattle.mm_btree.specs.Changes.{IsTree}
use Rattle.mm_trees.specs.Buckets.{Holds, Goes, IsFull, bucket_in}
use Rattle.mm_btree.specs.Costs.{insert_asks, insert_weighs}
use Rattle.mm_trees.specs.Costs.{most_places}
use Rattle.mm_trees.specs.Kept.{Kept, bucket_of, start_of}
use Rattle.mm_trees.specs.Changes.{IsPutIn, IsTwice, IsntTwice}
use Rattle.mm_trees.proofs.Lent.{on_of, few_asked, weight_by, goes_few, scarce_few, full_from, put_seen, put_whole}
use Rattle.mm_trees.proofs.lending.put_pair.Goals as goal

pub new-store-requires : goal.new-store-requires
new-store-requires c = subst (λ (y : Drafting). (free : List ℕ) × ((s : Shape) × Holds y.image free s c.args.node)) (sym c.replace-lent.ensures.value) c.requires.holds

pub put_in-result-requires-clause-tree : goal.put_in-result-requires-clause-tree
put_in-result-requires-clause-tree c =
    let d = c.args.draft.now in
    let node = c.args.node in
    let spec = c.args.spec.now in
    let root = c.args.root in
    let x : Item = record { key = c.args.key.now; rec = c.args.rec } in
    let made : c.new-store.result ≡ record { draft = d; node = node; broken = false; start = d; asked = 0 } = c.new-store.ensures ∙ ap (λ (y : Drafting). record { draft = y; node = node; broken = false; start = y; asked = 0 }) c.replace-lent.ensures.value in
    let same : bucket_of c.new-store.result ≡ bucket_in d.image node = ap bucket_of made in
    subst (λ (m : Buckets). (h : ℕ) × ((s : Sub) × (IsTree (item_lt spec) m root h s × IsLacking spec x s.pairs))) (sym same) c.requires.tree

pub returns-clause-ok : goal.returns-clause-ok
returns-clause-ok c =
    let d = c.args.draft.now in
    let node = c.args.node in
    let spec = c.args.spec.now in
    let root = c.args.root in
    let x : Item = record { key = c.args.key.now; rec = c.args.rec } in
    let made : c.new-store.result ≡ record { draft = d; node = node; broken = false; start = d; asked = 0 } = c.new-store.ensures ∙ ap (λ (y : Drafting). record { draft = y; node = node; broken = false; start = y; asked = 0 }) c.replace-lent.ensures.value in
    let same : bucket_of c.new-store.result ≡ bucket_in d.image node = ap bucket_of made in
    let k = c.put_in-result.new.store in
    let stays : start_of k ≡ start_of (record { draft = d; node = node; broken = false; start = d; asked = 0 }) = c.put_in-result.ensures.stays ∙ ap start_of made in
    IfOk-weaker c.put_in-result.result _ _ (λ r f.
    subst (λ (n : Drafting). IsPutIn spec (bucket_in d.image node) (bucket_in n.image node) root x r) (sym c.into_draft.ensures.draft)
    (put_seen d node k false stays spec root x r (subst (λ (m : Buckets). IsPutIn spec m (bucket_of k) root x r) same f))) c.put_in-result.ensures.ok

pub returns-clause-goes : goal.returns-clause-goes
returns-clause-goes c =
    let d = c.args.draft.now in
    let node = c.args.node in
    let spec = c.args.spec.now in
    let root = c.args.root in
    let x : Item = record { key = c.args.key.now; rec = c.args.rec } in
    let made : c.new-store.result ≡ record { draft = d; node = node; broken = false; start = d; asked = 0 } = c.new-store.ensures ∙ ap (λ (y : Drafting). record { draft = y; node = node; broken = false; start = y; asked = 0 }) c.replace-lent.ensures.value in
    let same : bucket_of c.new-store.result ≡ bucket_in d.image node = ap bucket_of made in
    let k = c.put_in-result.new.store in
    let stays : start_of k ≡ start_of (record { draft = d; node = node; broken = false; start = d; asked = 0 }) = c.put_in-result.ensures.stays ∙ ap start_of made in
    let t = c.requires.tree in
    let r = c.requires.holds in
    let few = few_asked d node k false stays spec root c.new-store.result made insert_asks c.put_in-result.ensures.asked r.0 r.1.0 r.1.1 t.0 t.1.0 t.1.1.0 (λ n le. omega (arith, le)) in
    on_of c.put_in-result.result _ _ (λ r f.
    let whole = put_whole d node k false stays spec root x r t.0 t.1.0 t.1.1.0 t.1.1.1 (subst (λ (m : Buckets). IsPutIn spec m (bucket_of k) root x r) same f) in
    subst (λ (n : Drafting). Goes d.image n.image node most_places) (sym c.into_draft.ensures.draft) (goes_few d node k false stays c.into_draft.ensures.kept whole few)) c.put_in-result.ensures.ok

pub returns-clause-alone : goal.returns-clause-alone
returns-clause-alone c =
    let d = c.args.draft.now in
    let node = c.args.node in
    let spec = c.args.spec.now in
    let root = c.args.root in
    let x : Item = record { key = c.args.key.now; rec = c.args.rec } in
    let made : c.new-store.result ≡ record { draft = d; node = node; broken = false; start = d; asked = 0 } = c.new-store.ensures ∙ ap (λ (y : Drafting). record { draft = y; node = node; broken = false; start = y; asked = 0 }) c.replace-lent.ensures.value in
    let same : bucket_of c.new-store.result ≡ bucket_in d.image node = ap bucket_of made in
    on_ok_weaker c.put_in-result.result (λ f. subst (λ (m : Buckets). IsntTwice spec m root c.args.key.now c.args.unique) same f) c.put_in-result.ensures.alone

pub returns-clause-duplicate : goal.returns-clause-duplicate
returns-clause-duplicate c = λ e.
    let d = c.args.draft.now in
    let node = c.args.node in
    let spec = c.args.spec.now in
    let root = c.args.root in
    let x : Item = record { key = c.args.key.now; rec = c.args.rec } in
    let made : c.new-store.result ≡ record { draft = d; node = node; broken = false; start = d; asked = 0 } = c.new-store.ensures ∙ ap (λ (y : Drafting). record { draft = y; node = node; broken = false; start = y; asked = 0 }) c.replace-lent.ensures.value in
    let same : bucket_of c.new-store.result ≡ bucket_in d.image node = ap bucket_of made in
    subst (λ (m : Buckets). IsTwice spec m root c.args.key.now c.args.unique) same (c.put_in-result.ensures.duplicate e)

pub returns-clause-kept : goal.returns-clause-kept
returns-clause-kept c = λ e.
    let d = c.args.draft.now in
    let node = c.args.node in
    let spec = c.args.spec.now in
    let root = c.args.root in
    let x : Item = record { key = c.args.key.now; rec = c.args.rec } in
    let made : c.new-store.result ≡ record { draft = d; node = node; broken = false; start = d; asked = 0 } = c.new-store.ensures ∙ ap (λ (y : Drafting). record { draft = y; node = node; broken = false; start = y; asked = 0 }) c.replace-lent.ensures.value in
    let same : bucket_of c.new-store.result ≡ bucket_in d.image node = ap bucket_of made in
    c.into_draft.ensures.draft ∙ ap (λ (y : Kept). y.draft) (c.put_in-result.ensures.kept e ∙ made)

pub returns-clause-full : goal.returns-clause-full
returns-clause-full c = λ e.
    let d = c.args.draft.now in
    let node = c.args.node in
    let spec = c.args.spec.now in
    let root = c.args.root in
    let x : Item = record { key = c.args.key.now; rec = c.args.rec } in
    let made : c.new-store.result ≡ record { draft = d; node = node; broken = false; start = d; asked = 0 } = c.new-store.ensures ∙ ap (λ (y : Drafting). record { draft = y; node = node; broken = false; start = y; asked = 0 }) c.replace-lent.ensures.value in
    let same : bucket_of c.new-store.result ≡ bucket_in d.image node = ap bucket_of made in
    let k = c.put_in-result.new.store in
    let stays : start_of k ≡ start_of (record { draft = d; node = node; broken = false; start = d; asked = 0 }) = c.put_in-result.ensures.stays ∙ ap start_of made in
    subst (λ (n : Drafting). IsFull d.image n.image node) (sym c.into_draft.ensures.draft) (full_from d node k false stays (c.put_in-result.ensures.full e))

pub returns-clause-scarce : goal.returns-clause-scarce
returns-clause-scarce c = λ e.
    let d = c.args.draft.now in
    let node = c.args.node in
    let spec = c.args.spec.now in
    let root = c.args.root in
    let made : c.new-store.result ≡ record { draft = d; node = node; broken = false; start = d; asked = 0 } = c.new-store.ensures ∙ ap (λ (y : Drafting). record { draft = y; node = node; broken = false; start = y; asked = 0 }) c.replace-lent.ensures.value in
    let k = c.put_in-result.new.store in
    let stays : start_of k ≡ start_of (record { draft = d; node = node; broken = false; start = d; asked = 0 }) = c.put_in-result.ensures.stays ∙ ap start_of made in
    let t = c.requires.tree in
    let r = c.requires.holds in
    let few = few_asked d node k false stays spec root c.new-store.result made insert_asks c.put_in-result.ensures.asked r.0 r.1.0 r.1.1 t.0 t.1.0 t.1.1.0 (λ n le. omega (arith, le)) in
    scarce_few d node k false stays (c.put_in-result.ensures.full e) few

pub returns-clause-weight : goal.returns-clause-weight
returns-clause-weight c =
    let d = c.args.draft.now in
    let node = c.args.node in
    let spec = c.args.spec.now in
    let root = c.args.root in
    let made : c.new-store.result ≡ record { draft = d; node = node; broken = false; start = d; asked = 0 } = c.new-store.ensures ∙ ap (λ (y : Drafting). record { draft = y; node = node; broken = false; start = y; asked = 0 }) c.replace-lent.ensures.value in
    let k = c.put_in-result.new.store in
    let stays : start_of k ≡ start_of (record { draft = d; node = node; broken = false; start = d; asked = 0 }) = c.put_in-result.ensures.stays ∙ ap start_of made in
    weight_by d node k false stays spec root c.new-store.result made insert_weighs c.put_in-result.ensures.weight c.into_draft.result c.into_draft.ensures.draft
