use Rattle.std.proofs.Common.{◌≡◌, ℕ, List, Option, Err, IsSome, sym, ap, subst, arith}
use Rattle.mm_base.specs.declared.place.DiskLoc.{DiskLoc}
use Rattle.mm_bson.specs.Spelling.{spelling}
use Rattle.mm_bson.specs.Walk.{document_in}
use Rattle.mm_bucket.specs.Pairs.{IsKey}
use Rattle.mm_btree.specs.Nodes.{Item}
use Rattle.mm_btree.specs.Lists.{ins}
use Rattle.mm_btree.specs.Order.{item_lt, IsLacking, first_with}
use Rattle.mm_btree.specs.declared.fault.TreeFault.TheVariants.{Duplicate, NoSpace}
use Rattle.mm_trees.specs.Buckets.{bucket_in}
use Rattle.mm_trees.specs.Costs.{most_places}
use Rattle.mm_trees.specs.Indexes.{HasIndex}
use Rattle.mm_trees.specs.Changes.{IsPutIn}
use Rattle.mm_trees.proofs.Changing.{goes_beside, goes_put, owner_used, table_after, tree_at, lacking_at, put_none, put_some}
use Rattle.mm_trees.proofs.Faults.{handed_on, no_space, no_duplicate}
use Rattle.mm_trees.proofs.tree.Tree.insert.Goals as goal

pub root_of-root-requires-clause-used : goal.root_of-root-requires-clause-used
root_of-root-requires-clause-used c = c.requires.index.1.0.owner_is.used

pub root_of-root-requires-clause-inside : goal.root_of-root-requires-clause-inside
root_of-root-requires-clause-inside c = c.requires.index.1.0.inside

pub put_pair-requires-clause-key : goal.put_pair-requires-clause-key
put_pair-requires-clause-key c = subst IsKey (sym c.bytes-bytes.ensures.spelled) c.requires.key

pub put_pair-requires-clause-holds : goal.put_pair-requires-clause-holds
put_pair-requires-clause-holds c = let i = c.requires.index.1.0 in (i.free, (i.shape, i.holds))

pub put_pair-requires-clause-tree : goal.put_pair-requires-clause-tree
put_pair-requires-clause-tree c =
    let old = c.args.draft.now.image in
    let node = c.args.self.now.store.node in
    let owner = c.args.self.now.owner in
    let position = c.args.self.now.position in
    let spec = c.args.self.now.spec in
    let root = c.root_of-root.result in
    let is = c.root_of-root.ensures in
    let key = c.bytes-bytes.result.now in
    let spelled : key ≡ spelling c.args.key.now = c.bytes-bytes.ensures.spelled in
    let x : Item = record { key = key; rec = c.args.rec } in
    let i = c.requires.index.1.0 in
    let pairs = c.requires.index.0 in
    let l = c.requires.index.1.1 in
    (i.height, (i.s, (tree_at old node owner position spec root is x pairs i, lacking_at old node owner position spec root is x pairs i (subst (λ (k : List ℕ). IsLacking spec (record { key = k; rec = c.args.rec }) pairs) (sym spelled) l))))

pub put_root-requires-clause-table : goal.put_root-requires-clause-table
put_root-requires-clause-table c = let i = c.requires.index.1.0 in table_after c.args.draft.now.image c.put_pair.new.draft.image c.args.self.now.store.node most_places i.free i.shape i.holds c.in_ok-put_pair.ensures.goes

pub put_root-requires-clause-used : goal.put_root-requires-clause-used
put_root-requires-clause-used c = let i = c.requires.index.1.0 in owner_used c.args.draft.now.image c.put_pair.new.draft.image c.args.self.now.store.node c.args.self.now.owner most_places i.free i.shape i.holds i.owner_is.used c.in_ok-put_pair.ensures.goes

pub put_root-requires-clause-inside : goal.put_root-requires-clause-inside
put_root-requires-clause-inside c = c.requires.index.1.0.inside

pub returns-in-None-clause-ok : goal.returns-in-None-clause-ok
returns-in-None-clause-ok c = λ pairs i l.
    let old = c.args.draft.now.image in
    let node = c.args.self.now.store.node in
    let owner = c.args.self.now.owner in
    let position = c.args.self.now.position in
    let spec = c.args.self.now.spec in
    let root = c.root_of-root.result in
    let is = c.root_of-root.ensures in
    let key = c.bytes-bytes.result.now in
    let spelled : key ≡ spelling c.args.key.now = c.bytes-bytes.ensures.spelled in
    let x : Item = record { key = key; rec = c.args.rec } in
    let new = c.put_pair.new.draft.image in
    let e = c.in_ok-put_pair.ensures in
    let f = subst (λ (r : Option DiskLoc). IsPutIn spec (bucket_in old node) (bucket_in new node) root x r) c.in-None.is e.ok in
    subst (λ (k : List ℕ). HasIndex new node owner position spec (ins (item_lt spec) (record { key = k; rec = c.args.rec }) pairs)) spelled
    (put_none old node owner position spec root is x new most_places e.goes f pairs i (subst (λ (k : List ℕ). IsLacking spec (record { key = k; rec = c.args.rec }) pairs) (sym spelled) l))

pub returns-in_ok-put_root-in-Some-clause-ok : goal.returns-in_ok-put_root-in-Some-clause-ok
returns-in_ok-put_root-in-Some-clause-ok c = λ pairs i l.
    let old = c.args.draft.now.image in
    let node = c.args.self.now.store.node in
    let owner = c.args.self.now.owner in
    let position = c.args.self.now.position in
    let spec = c.args.self.now.spec in
    let root = c.root_of-root.result in
    let is = c.root_of-root.ensures in
    let key = c.bytes-bytes.result.now in
    let spelled : key ≡ spelling c.args.key.now = c.bytes-bytes.ensures.spelled in
    let x : Item = record { key = key; rec = c.args.rec } in
    let mid = c.put_pair.new.draft.image in
    let new = c.put_root.new.draft.image in
    let e = c.in_ok-put_pair.ensures in
    let f = subst (λ (r : Option DiskLoc). IsPutIn spec (bucket_in old node) (bucket_in mid node) root x r) c.in-Some.is e.ok in
    subst (λ (k : List ℕ). HasIndex new node owner position spec (ins (item_lt spec) (record { key = k; rec = c.args.rec }) pairs)) spelled
    (put_some old node owner position spec root is x mid new c.in-Some.top most_places e.goes f c.in_ok-put_root-in-Some.ensures.put pairs i (subst (λ (k : List ℕ). IsLacking spec (record { key = k; rec = c.args.rec }) pairs) (sym spelled) l))

pub returns-in-None-clause-beside : goal.returns-in-None-clause-beside
returns-in-None-clause-beside c =
    goes_beside c.args.draft.now.image c.put_pair.new.draft.image c.args.self.now.store.node c.args.self.now.owner c.args.self.now.position most_places c.in_ok-put_pair.ensures.goes

pub returns-in_ok-put_root-in-Some-clause-beside : goal.returns-in_ok-put_root-in-Some-clause-beside
returns-in_ok-put_root-in-Some-clause-beside c =
    goes_put c.args.draft.now.image c.put_pair.new.draft.image c.put_root.new.draft.image c.args.self.now.store.node c.args.self.now.owner c.args.self.now.position most_places c.in-Some.top c.in_ok-put_pair.ensures.goes c.in_ok-put_root-in-Some.ensures.put c.requires.index.1.0.inside

pub returns-in-None-clause-alone : goal.returns-in-None-clause-alone
returns-in-None-clause-alone c = λ pairs i u y.
    let old = c.args.draft.now.image in
    let node = c.args.self.now.store.node in
    let owner = c.args.self.now.owner in
    let position = c.args.self.now.position in
    let spec = c.args.self.now.spec in
    let root = c.root_of-root.result in
    let is = c.root_of-root.ensures in
    let key = c.bytes-bytes.result.now in
    let spelled : key ≡ spelling c.args.key.now = c.bytes-bytes.ensures.spelled in
    let x : Item = record { key = key; rec = c.args.rec } in
    c.in_ok-put_pair.ensures.alone i.height i.s (tree_at old node owner position spec root is x pairs i) u
    (subst (λ (ps : List Item). IsSome (first_with spec (document_in key) ps)) (sym i.listed) (subst (λ (k : List ℕ). IsSome (first_with spec (document_in k) pairs)) (sym spelled) y))

pub returns-in_ok-put_root-in-Some-clause-alone : goal.returns-in_ok-put_root-in-Some-clause-alone
returns-in_ok-put_root-in-Some-clause-alone c = λ pairs i u y.
    let old = c.args.draft.now.image in
    let node = c.args.self.now.store.node in
    let owner = c.args.self.now.owner in
    let position = c.args.self.now.position in
    let spec = c.args.self.now.spec in
    let root = c.root_of-root.result in
    let is = c.root_of-root.ensures in
    let key = c.bytes-bytes.result.now in
    let spelled : key ≡ spelling c.args.key.now = c.bytes-bytes.ensures.spelled in
    let x : Item = record { key = key; rec = c.args.rec } in
    c.in_ok-put_pair.ensures.alone i.height i.s (tree_at old node owner position spec root is x pairs i) u
    (subst (λ (ps : List Item). IsSome (first_with spec (document_in key) ps)) (sym i.listed) (subst (λ (k : List ℕ). IsSome (first_with spec (document_in k) pairs)) (sym spelled) y))

pub returns-in_err-put_pair-clause-duplicate : goal.returns-in_err-put_pair-clause-duplicate
returns-in_err-put_pair-clause-duplicate c = λ e pairs i.
    let old = c.args.draft.now.image in
    let node = c.args.self.now.store.node in
    let owner = c.args.self.now.owner in
    let position = c.args.self.now.position in
    let spec = c.args.self.now.spec in
    let root = c.root_of-root.result in
    let is = c.root_of-root.ensures in
    let key = c.bytes-bytes.result.now in
    let spelled : key ≡ spelling c.args.key.now = c.bytes-bytes.ensures.spelled in
    let x : Item = record { key = key; rec = c.args.rec } in
    let t = c.in_err-put_pair.ensures.duplicate (ap Err (handed_on c.from_residual.result c.in_err-put_pair.field-0.0 Duplicate c.from_residual.ensures.1 e)) i.height i.s (tree_at old node owner position spec root is x pairs i) in
    (t.0, subst (λ (k : List ℕ). IsSome (first_with spec (document_in k) pairs)) spelled (subst (λ (ps : List Item). IsSome (first_with spec (document_in key) ps)) i.listed t.1))

pub returns-in_err-put_pair-clause-kept : goal.returns-in_err-put_pair-clause-kept
returns-in_err-put_pair-clause-kept c = λ e. c.in_err-put_pair.ensures.kept (ap Err (handed_on c.from_residual.result c.in_err-put_pair.field-0.0 Duplicate c.from_residual.ensures.1 e))

pub returns-in_err-put_pair-clause-full : goal.returns-in_err-put_pair-clause-full
returns-in_err-put_pair-clause-full c = λ e. c.in_err-put_pair.ensures.full (ap Err (handed_on c.from_residual.result c.in_err-put_pair.field-0.0 NoSpace c.from_residual.ensures.1 e))

pub returns-in_err-put_root-in-Some-clause-duplicate : goal.returns-in_err-put_root-in-Some-clause-duplicate
returns-in_err-put_root-in-Some-clause-duplicate c = λ e. absurd (no_duplicate c.from_residual-in_err-put_root-in-Some.result c.from_residual-in_err-put_root-in-Some.ensures.1 e)

pub returns-in_err-put_root-in-Some-clause-kept : goal.returns-in_err-put_root-in-Some-clause-kept
returns-in_err-put_root-in-Some-clause-kept c = λ e. absurd (no_duplicate c.from_residual-in_err-put_root-in-Some.result c.from_residual-in_err-put_root-in-Some.ensures.1 e)

pub returns-in_err-put_root-in-Some-clause-full : goal.returns-in_err-put_root-in-Some-clause-full
returns-in_err-put_root-in-Some-clause-full c = λ e. absurd (no_space c.from_residual-in_err-put_root-in-Some.result c.from_residual-in_err-put_root-in-Some.ensures.1 e)

pub returns-in_err-put_pair-clause-scarce : goal.returns-in_err-put_pair-clause-scarce
returns-in_err-put_pair-clause-scarce c = λ e. c.in_err-put_pair.ensures.scarce (ap Err (handed_on c.from_residual.result c.in_err-put_pair.field-0.0 NoSpace c.from_residual.ensures.1 e))

pub returns-in_err-put_root-in-Some-clause-scarce : goal.returns-in_err-put_root-in-Some-clause-scarce
returns-in_err-put_root-in-Some-clause-scarce c = λ e. absurd (no_space c.from_residual-in_err-put_root-in-Some.result c.from_residual-in_err-put_root-in-Some.ensures.1 e)

pub returns-in_err-put_pair-clause-weight : goal.returns-in_err-put_pair-clause-weight
returns-in_err-put_pair-clause-weight c = λ pairs i.
    let old = c.args.draft.now.image in
    let node = c.args.self.now.store.node in
    let owner = c.args.self.now.owner in
    let position = c.args.self.now.position in
    let spec = c.args.self.now.spec in
    let root = c.root_of-root.result in
    let is = c.root_of-root.ensures in
    let x : Item = record { key = c.bytes-bytes.result.now; rec = c.args.rec } in
    let w = c.put_pair.ensures.weight i.height i.s (tree_at old node owner position spec root is x pairs i) in
    omega (arith, w)

pub returns-in-None-clause-weight : goal.returns-in-None-clause-weight
returns-in-None-clause-weight c = λ pairs i.
    let old = c.args.draft.now.image in
    let node = c.args.self.now.store.node in
    let owner = c.args.self.now.owner in
    let position = c.args.self.now.position in
    let spec = c.args.self.now.spec in
    let root = c.root_of-root.result in
    let is = c.root_of-root.ensures in
    let x : Item = record { key = c.bytes-bytes.result.now; rec = c.args.rec } in
    let w = c.put_pair.ensures.weight i.height i.s (tree_at old node owner position spec root is x pairs i) in
    omega (arith, w)

pub returns-in_ok-put_root-in-Some-clause-weight : goal.returns-in_ok-put_root-in-Some-clause-weight
returns-in_ok-put_root-in-Some-clause-weight c = λ pairs i.
    let old = c.args.draft.now.image in
    let node = c.args.self.now.store.node in
    let owner = c.args.self.now.owner in
    let position = c.args.self.now.position in
    let spec = c.args.self.now.spec in
    let root = c.root_of-root.result in
    let is = c.root_of-root.ensures in
    let x : Item = record { key = c.bytes-bytes.result.now; rec = c.args.rec } in
    let w = c.put_pair.ensures.weight i.height i.s (tree_at old node owner position spec root is x pairs i) in
    let r = c.put_root.ensures.weight in
    omega (arith, w, r)

pub returns-in_err-put_root-in-Some-clause-weight : goal.returns-in_err-put_root-in-Some-clause-weight
returns-in_err-put_root-in-Some-clause-weight c = λ pairs i.
    let old = c.args.draft.now.image in
    let node = c.args.self.now.store.node in
    let owner = c.args.self.now.owner in
    let position = c.args.self.now.position in
    let spec = c.args.self.now.spec in
    let root = c.root_of-root.result in
    let is = c.root_of-root.ensures in
    let x : Item = record { key = c.bytes-bytes.result.now; rec = c.args.rec } in
    let w = c.put_pair.ensures.weight i.height i.s (tree_at old node owner position spec root is x pairs i) in
    let r = c.put_root.ensures.weight in
    omega (arith, w, r)
