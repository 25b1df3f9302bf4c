use Rattle.std.proofs.Common.{sym, ◌∙◌}
use Rattle.std.proofs.lemmas.Bool.{false≢true}
use Rattle.mm_links.specs.Links.{next_in}
use Rattle.mm_extents.proofs.ChainLaws.{low, inside, names_next, next_low, none_is, some_is}
use Rattle.mm_extents.proofs.chains.next_extent.Goals as goal

pub spot_of-requires : goal.spot_of-requires
spot_of-requires c =
    let o = c.requires.1.1.1.1 in
    (c.requires.1.1.1.0, (o.is, low c.args.draft.now.image c.requires.0 c.requires.1.0 c.requires.1.1.0 c.requires.1.1.1.0 c.args.at o))

pub read_extent-requires : goal.read_extent-requires
read_extent-requires c =
    let o = c.requires.1.1.1.1 in
    let l = low c.args.draft.now.image c.requires.0 c.requires.1.0 c.requires.1.1.0 c.requires.1.1.1.0 c.args.at o in
    inside c.args.draft.now.image c.requires.0 c.requires.1.0 c.requires.1.1.0 c.requires.1.1.1.0 c.args.at o (c.spot_of.result.file, c.spot_of.result.ofs) (c.spot_of.ensures c.requires.1.1.1.0 o.is l)

pub returns-then-is_null : goal.returns-then-is_null
returns-then-is_null c = λ heap extents name p o.
    let image = c.args.draft.now.image in
    let l = low image heap extents name p c.args.at o in
    let e = names_next image heap extents name p c.args.at o (c.spot_of.result.file, c.spot_of.result.ofs) c.read_extent.result (c.spot_of.ensures p o.is l) c.read_extent.ensures in
    none_is c.read_extent.result.xnext (next_in (extents name) p) e (next_low image heap extents name p c.args.at o) (c.is_null.ensures.0 c.if-is_null.true)

pub returns-else-is_null : goal.returns-else-is_null
returns-else-is_null c = λ heap extents name p o.
    let image = c.args.draft.now.image in
    let l = low image heap extents name p c.args.at o in
    let e = names_next image heap extents name p c.args.at o (c.spot_of.result.file, c.spot_of.result.ofs) c.read_extent.result (c.spot_of.ensures p o.is l) c.read_extent.ensures in
    some_is c.read_extent.result.xnext (next_in (extents name) p) e (λ z. false≢true (sym c.if-is_null.false ∙ c.is_null.ensures.1 z))
