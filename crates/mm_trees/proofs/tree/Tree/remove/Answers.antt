use Rattle.std.proofs.Common.{◌≡◌, ℕ, List, Err, refl, sym, ◌∙◌, ap, subst, arith}
use Rattle.mm_bson.specs.Spelling.{spelling}
use Rattle.mm_bucket.specs.Pairs.{IsKey}
use Rattle.mm_btree.specs.Nodes.{Item}
use Rattle.mm_btree.specs.Order.{IsLacking}
use Rattle.mm_btree.specs.Removal.{without}
use Rattle.mm_btree.specs.declared.fault.TreeFault.TheVariants.{Duplicate, NoSpace}
use Rattle.mm_trees.specs.Costs.{most_places}
use Rattle.mm_trees.specs.Indexes.{HasIndex}
use Rattle.mm_trees.proofs.Changing.{goes_put, owner_used, table_after, tree_at, taken_out}
use Rattle.mm_trees.proofs.Faults.{handed_on, no_space, no_duplicate}
use Rattle.mm_trees.proofs.tree.Tree.remove.Goals as goal

pub root_of-root-requires-clause-used : goal.root_of-root-requires-clause-used
root_of-root-requires-clause-used c = c.requires.index.1.owner_is.used

pub root_of-root-requires-clause-inside : goal.root_of-root-requires-clause-inside
root_of-root-requires-clause-inside c = c.requires.index.1.inside

pub take_pair-requires-clause-key : goal.take_pair-requires-clause-key
take_pair-requires-clause-key c = subst IsKey (sym c.bytes-bytes.ensures.spelled) c.requires.key

pub take_pair-requires-clause-holds : goal.take_pair-requires-clause-holds
take_pair-requires-clause-holds c = let i = c.requires.index.1 in (i.free, (i.shape, i.holds))

pub take_pair-requires-clause-tree : goal.take_pair-requires-clause-tree
take_pair-requires-clause-tree c =
    let old = c.args.draft.now.image in
    let node = c.args.self.now.store.node in
    let owner = c.args.self.now.owner in
    let position = c.args.self.now.position in
    let spec = c.args.self.now.spec in
    let root = c.root_of-root.result in
    let is = c.root_of-root.ensures in
    let key = c.bytes-bytes.result.now in
    let spelled : key ≡ spelling c.args.key.now = c.bytes-bytes.ensures.spelled in
    let x : Item = record { key = key; rec = c.args.rec } in
    let i = c.requires.index.1 in
    (i.height, (i.s, tree_at old node owner position spec root is x c.requires.index.0 i))

pub put_root-requires-clause-table : goal.put_root-requires-clause-table
put_root-requires-clause-table c = let i = c.requires.index.1 in table_after c.args.draft.now.image c.take_pair.new.draft.image c.args.self.now.store.node most_places i.free i.shape i.holds (c.in_ok-take_pair.ensures.goes c.in-Some.top c.in-Some.is)

pub put_root-requires-clause-used : goal.put_root-requires-clause-used
put_root-requires-clause-used c = let i = c.requires.index.1 in owner_used c.args.draft.now.image c.take_pair.new.draft.image c.args.self.now.store.node c.args.self.now.owner most_places i.free i.shape i.holds i.owner_is.used (c.in_ok-take_pair.ensures.goes c.in-Some.top c.in-Some.is)

pub put_root-requires-clause-inside : goal.put_root-requires-clause-inside
put_root-requires-clause-inside c = c.requires.index.1.inside

pub returns-in_ok-put_root-in-Some-clause-out : goal.returns-in_ok-put_root-in-Some-clause-out
returns-in_ok-put_root-in-Some-clause-out c = λ _ pairs i.
    let old = c.args.draft.now.image in
    let node = c.args.self.now.store.node in
    let owner = c.args.self.now.owner in
    let position = c.args.self.now.position in
    let spec = c.args.self.now.spec in
    let root = c.root_of-root.result in
    let is = c.root_of-root.ensures in
    let key = c.bytes-bytes.result.now in
    let spelled : key ≡ spelling c.args.key.now = c.bytes-bytes.ensures.spelled in
    let x : Item = record { key = key; rec = c.args.rec } in
    let mid = c.take_pair.new.draft.image in
    let new = c.put_root.new.draft.image in
    let e = c.in_ok-take_pair.ensures in
    subst (λ (k : List ℕ). HasIndex new node owner position spec (without spec (record { key = k; rec = c.args.rec }) pairs)) spelled
    (taken_out old node owner position spec root is x mid new c.in-Some.top most_places (e.goes c.in-Some.top c.in-Some.is) (e.out c.in-Some.top c.in-Some.is) c.in_ok-put_root-in-Some.ensures.put pairs i)

pub returns-in_ok-put_root-in-Some-clause-beside : goal.returns-in_ok-put_root-in-Some-clause-beside
returns-in_ok-put_root-in-Some-clause-beside c = λ _.
    goes_put c.args.draft.now.image c.take_pair.new.draft.image c.put_root.new.draft.image c.args.self.now.store.node c.args.self.now.owner c.args.self.now.position most_places c.in-Some.top (c.in_ok-take_pair.ensures.goes c.in-Some.top c.in-Some.is) c.in_ok-put_root-in-Some.ensures.put c.requires.index.1.inside

pub returns-in-None-clause-there : goal.returns-in-None-clause-there
returns-in-None-clause-there c = λ pairs i.
    let old = c.args.draft.now.image in
    let node = c.args.self.now.store.node in
    let owner = c.args.self.now.owner in
    let position = c.args.self.now.position in
    let spec = c.args.self.now.spec in
    let root = c.root_of-root.result in
    let is = c.root_of-root.ensures in
    let key = c.bytes-bytes.result.now in
    let spelled : key ≡ spelling c.args.key.now = c.bytes-bytes.ensures.spelled in
    let x : Item = record { key = key; rec = c.args.rec } in
    let t = c.in_ok-take_pair.ensures.there i.height i.s (tree_at old node owner position spec root is x pairs i) in
    (λ _. subst (λ (k : List ℕ). IsLacking spec (record { key = k; rec = c.args.rec }) pairs) spelled (subst (IsLacking spec x) i.listed (t.0 c.in-None.is)), λ _. refl)

pub returns-in_ok-put_root-in-Some-clause-there : goal.returns-in_ok-put_root-in-Some-clause-there
returns-in_ok-put_root-in-Some-clause-there c = λ pairs i.
    let old = c.args.draft.now.image in
    let node = c.args.self.now.store.node in
    let owner = c.args.self.now.owner in
    let position = c.args.self.now.position in
    let spec = c.args.self.now.spec in
    let root = c.root_of-root.result in
    let is = c.root_of-root.ensures in
    let key = c.bytes-bytes.result.now in
    let spelled : key ≡ spelling c.args.key.now = c.bytes-bytes.ensures.spelled in
    let x : Item = record { key = key; rec = c.args.rec } in
    let t = c.in_ok-take_pair.ensures.there i.height i.s (tree_at old node owner position spec root is x pairs i) in
    (λ e. absurd cc, λ l. absurd (let e = sym c.in-Some.is ∙ t.1 (subst (IsLacking spec x) (sym i.listed) (subst (λ (k : List ℕ). IsLacking spec (record { key = k; rec = c.args.rec }) pairs) (sym spelled) l)) in cc))

pub returns-in-None-clause-kept : goal.returns-in-None-clause-kept
returns-in-None-clause-kept c = λ _. c.in_ok-take_pair.ensures.kept c.in-None.is

pub returns-in_ok-put_root-in-Some-clause-kept : goal.returns-in_ok-put_root-in-Some-clause-kept
returns-in_ok-put_root-in-Some-clause-kept c = λ e. absurd cc

pub returns-in-None-clause-out : goal.returns-in-None-clause-out
returns-in-None-clause-out c = λ e. absurd cc

pub returns-in-None-clause-beside : goal.returns-in-None-clause-beside
returns-in-None-clause-beside c = λ e. absurd cc

pub returns-in_err-take_pair-clause-full : goal.returns-in_err-take_pair-clause-full
returns-in_err-take_pair-clause-full c = λ e. c.in_err-take_pair.ensures.full (ap Err (handed_on c.from_residual.result c.in_err-take_pair.field-0.0 NoSpace c.from_residual.ensures.1 e))

pub returns-in_err-take_pair-clause-other : goal.returns-in_err-take_pair-clause-other
returns-in_err-take_pair-clause-other c = λ e. c.in_err-take_pair.ensures.other (ap Err (handed_on c.from_residual.result c.in_err-take_pair.field-0.0 Duplicate c.from_residual.ensures.1 e))

pub returns-in_err-put_root-in-Some-clause-full : goal.returns-in_err-put_root-in-Some-clause-full
returns-in_err-put_root-in-Some-clause-full c = λ e. absurd (no_space c.from_residual-in_err-put_root-in-Some.result c.from_residual-in_err-put_root-in-Some.ensures.1 e)

pub returns-in_err-put_root-in-Some-clause-other : goal.returns-in_err-put_root-in-Some-clause-other
returns-in_err-put_root-in-Some-clause-other c = λ e. no_duplicate c.from_residual-in_err-put_root-in-Some.result c.from_residual-in_err-put_root-in-Some.ensures.1 e

pub returns-in_err-take_pair-clause-scarce : goal.returns-in_err-take_pair-clause-scarce
returns-in_err-take_pair-clause-scarce c = λ e. c.in_err-take_pair.ensures.scarce (ap Err (handed_on c.from_residual.result c.in_err-take_pair.field-0.0 NoSpace c.from_residual.ensures.1 e))

pub returns-in_err-put_root-in-Some-clause-scarce : goal.returns-in_err-put_root-in-Some-clause-scarce
returns-in_err-put_root-in-Some-clause-scarce c = λ e. absurd (no_space c.from_residual-in_err-put_root-in-Some.result c.from_residual-in_err-put_root-in-Some.ensures.1 e)

pub returns-in_err-take_pair-clause-weight : goal.returns-in_err-take_pair-clause-weight
returns-in_err-take_pair-clause-weight c = λ pairs i.
    let old = c.args.draft.now.image in
    let node = c.args.self.now.store.node in
    let owner = c.args.self.now.owner in
    let position = c.args.self.now.position in
    let spec = c.args.self.now.spec in
    let root = c.root_of-root.result in
    let is = c.root_of-root.ensures in
    let x : Item = record { key = c.bytes-bytes.result.now; rec = c.args.rec } in
    let w = c.take_pair.ensures.weight i.height i.s (tree_at old node owner position spec root is x pairs i) in
    omega (arith, w)

pub returns-in-None-clause-weight : goal.returns-in-None-clause-weight
returns-in-None-clause-weight c = λ pairs i.
    let old = c.args.draft.now.image in
    let node = c.args.self.now.store.node in
    let owner = c.args.self.now.owner in
    let position = c.args.self.now.position in
    let spec = c.args.self.now.spec in
    let root = c.root_of-root.result in
    let is = c.root_of-root.ensures in
    let x : Item = record { key = c.bytes-bytes.result.now; rec = c.args.rec } in
    let w = c.take_pair.ensures.weight i.height i.s (tree_at old node owner position spec root is x pairs i) in
    omega (arith, w)

pub returns-in_ok-put_root-in-Some-clause-weight : goal.returns-in_ok-put_root-in-Some-clause-weight
returns-in_ok-put_root-in-Some-clause-weight c = λ pairs i.
    let old = c.args.draft.now.image in
    let node = c.args.self.now.store.node in
    let owner = c.args.self.now.owner in
    let position = c.args.self.now.position in
    let spec = c.args.self.now.spec in
    let root = c.root_of-root.result in
    let is = c.root_of-root.ensures in
    let x : Item = record { key = c.bytes-bytes.result.now; rec = c.args.rec } in
    let w = c.take_pair.ensures.weight i.height i.s (tree_at old node owner position spec root is x pairs i) in
    let r = c.put_root.ensures.weight in
    omega (arith, w, r)

pub returns-in_err-put_root-in-Some-clause-weight : goal.returns-in_err-put_root-in-Some-clause-weight
returns-in_err-put_root-in-Some-clause-weight c = λ pairs i.
    let old = c.args.draft.now.image in
    let node = c.args.self.now.store.node in
    let owner = c.args.self.now.owner in
    let position = c.args.self.now.position in
    let spec = c.args.self.now.spec in
    let root = c.root_of-root.result in
    let is = c.root_of-root.ensures in
    let x : Item = record { key = c.bytes-bytes.result.now; rec = c.args.rec } in
    let w = c.take_pair.ensures.weight i.height i.s (tree_at old node owner position spec root is x pairs i) in
    let r = c.put_root.ensures.weight in
    omega (arith, w, r)
