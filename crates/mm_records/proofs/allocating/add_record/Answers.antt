use Rattle.std.proofs.Common.{◌∙◌, ◌*◌, ap, sym}
use Rattle.std.proofs.lemmas.Result.{on_ok_weaker}
use Rattle.mm_records.specs.Constants.{constants_of}
use Rattle.mm_records.specs.Stands.{ns_in}
use Rattle.mm_nstable.specs.Table.{Held}
use Rattle.mm_records.specs.Map.{name_at}
use Rattle.mm_links.specs.Links.{Place}
use Rattle.mm_records.proofs.FreeSteps.{used_there}
use Rattle.mm_records.proofs.PutBack.{in_hand}
use Rattle.mm_records.proofs.Allocs.{alloc_found, ok_both, one_details, block_there, holds_of}
use Rattle.mm_extents.proofs.RoomFalls.{lowers_none}
use Rattle.mm_records.specs.Asking.{extent_len}
use Rattle.mm_records.proofs.Lefts.{left_stands, left_fit}
use Rattle.mm_records.proofs.allocating.add_record.Goals as goal

pub details-counts-requires : goal.details-counts-requires
details-counts-requires c = used_there (ns_in c.args.draft.now.image) c.args.node c.requires.stands.1.1.1.used

pub find_block-requires : goal.find_block-requires
find_block-requires c =
    let s = c.requires.stands in
    (s.0, (s.1.0, in_hand c.args.draft.now.image s.0 s.1.0 c.args.node c.details-counts.result s.1.1.0 s.1.1.1 (c.details-counts.ensures.table s.1.1.0.table s.1.1.1.used)))

pub put_found-requires-clause-chosen : goal.put_found-requires-clause-chosen
put_found-requires-clause-chosen c =
    let s = c.requires.stands in
    let st = in_hand c.args.draft.now.image s.0 s.1.0 c.args.node c.details-counts.result s.1.1.0 s.1.1.1 (c.details-counts.ensures.table s.1.1.0.table s.1.1.1.used) in
    (s.0, (s.1.0, (st, c.in-Some.ensures.some s.0 s.1.0 st)))

pub put_new-requires-clause-stands : goal.put_new-requires-clause-stands
put_new-requires-clause-stands c =
    let s = c.requires.stands in
    (s.0, (s.1.0, in_hand c.args.draft.now.image s.0 s.1.0 c.args.node c.details-counts.result s.1.1.0 s.1.1.1 (c.details-counts.ensures.table s.1.1.0.table s.1.1.1.used)))

pub returns-in-Some-clause-ok : goal.returns-in-Some-clause-ok
returns-in-Some-clause-ok c = ok_both c.put_found.result c.put_found.ensures.at c.put_found.ensures.ok (λ at is f free s stands node.
    let st = in_hand c.args.draft.now.image free s c.args.node c.details-counts.result stands node (c.details-counts.ensures.table stands.table node.used) in
    let p : Place = (c.in-Some.block.at.file, c.in-Some.block.at.ofs) in
    let b = c.in-Some.ensures.some free s st in
    let t = f free s st b in
    (t.0, (t.1.0, (p, (is, alloc_found c.args.draft.now.image s t.0 free (name_at c.args.draft.now.image c.args.node) p c.args.len c.in-Some.block.list c.in-Some.block.before c.args.payload.now b t.1.1)))))

pub returns-in-Some-clause-full : goal.returns-in-Some-clause-full
returns-in-Some-clause-full c = λ e. absurd (c.put_found.ensures.memory e)

pub returns-in-Some-clause-space : goal.returns-in-Some-clause-space
returns-in-Some-clause-space c = on_ok_weaker c.put_found.result (λ n free s stands node none.
    let st = in_hand c.args.draft.now.image free s c.args.node c.details-counts.result stands node (c.details-counts.ensures.table stands.table node.used) in
    block_there s (name_at c.args.draft.now.image c.args.node) c.args.len c.in-Some.block.list c.in-Some.block.before (c.in-Some.block.at.file, c.in-Some.block.at.ofs) (c.in-Some.ensures.some free s st) none.no_block) c.put_found.ensures.names

pub returns-in-Some-clause-constants : goal.returns-in-Some-clause-constants
returns-in-Some-clause-constants c =
    let s = c.requires.stands in
    on_ok_weaker c.put_found.result (λ f. f (λ held g. ap (λ (h : Held). constants_of h.details) (one_details held _ (sym g ∙ c.details-counts.ensures.table s.1.1.0.table s.1.1.1.used)))) c.put_found.ensures.constants

pub returns-in-None-clause-ok : goal.returns-in-None-clause-ok
returns-in-None-clause-ok c = holds_of c.put_new.result c.put_new.ensures.ok (λ at f free s stands node.
    let st = in_hand c.args.draft.now.image free s c.args.node c.details-counts.result stands node (c.details-counts.ensures.table stands.table node.used) in
    f free s st (c.in-None.ensures.none free s st))

pub returns-in-None-clause-full : goal.returns-in-None-clause-full
returns-in-None-clause-full c = λ e free s stands node.
    let st = in_hand c.args.draft.now.image free s c.args.node c.details-counts.result stands node (c.details-counts.ensures.table stands.table node.used) in
    c.put_new.ensures.full e free s st (c.in-None.ensures.none free s st)

pub returns-in-None-clause-space : goal.returns-in-None-clause-space
returns-in-None-clause-space c = on_ok_weaker c.put_new.result (λ f free s stands node none.
    f free s (in_hand c.args.draft.now.image free s c.args.node c.details-counts.result stands node (c.details-counts.ensures.table stands.table node.used)) none) c.put_new.ensures.space

pub returns-in-None-clause-constants : goal.returns-in-None-clause-constants
returns-in-None-clause-constants c =
    let s = c.requires.stands in
    on_ok_weaker c.put_new.result (λ f. f (λ held g. ap (λ (h : Held). constants_of h.details) (one_details held _ (sym g ∙ c.details-counts.ensures.table s.1.1.0.table s.1.1.1.used)))) c.put_new.ensures.constants

pub returns-in-Some-clause-room : goal.returns-in-Some-clause-room
returns-in-Some-clause-room c = on_ok_weaker c.put_found.result (λ e free s stands node. record {
  nothing = λ b. e;
  most = lowers_none c.args.draft.now.image c.put_found.«new».draft.image (4 * extent_len s (name_at c.args.draft.now.image c.args.node) c.args.len) e;
}) c.put_found.ensures.files

pub returns-in-None-clause-room : goal.returns-in-None-clause-room
returns-in-None-clause-room c = on_ok_weaker c.put_new.result (λ f free s stands node.
    let st = in_hand c.args.draft.now.image free s c.args.node c.details-counts.result stands node (c.details-counts.ensures.table stands.table node.used) in
    record { nothing = λ b. absurd (b (c.in-None.ensures.none free s st)); most = f free s st }) c.put_new.ensures.room

pub returns-in-Some-clause-left : goal.returns-in-Some-clause-left
returns-in-Some-clause-left c = λ e. absurd (c.put_found.ensures.memory e)

pub returns-in-None-clause-left : goal.returns-in-None-clause-left
returns-in-None-clause-left c = λ e free s stands node.
    let st = in_hand c.args.draft.now.image free s c.args.node c.details-counts.result stands node (c.details-counts.ensures.table stands.table node.used) in
    let name = name_at c.args.draft.now.image c.args.node in
    let l = c.put_new.ensures.left e free s st in (
      left_stands c.args.draft.now.image c.put_new.«new».draft.image free s (extent_len s name c.args.len) stands l,
      left_fit c.args.draft.now.image c.put_new.«new».draft.image free s name c.args.len (c.put_new.ensures.full e free s st (c.in-None.ensures.none free s st)) l,
    )
