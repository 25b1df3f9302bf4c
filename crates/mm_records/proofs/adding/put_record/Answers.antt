use Rattle.std.proofs.Common.{◌≡◌, ◌∙◌, ℕ, ◌+◌, ◌-◌, List, length, take, Some, sym, ap, subst, arith}
use Rattle.std.proofs.lemmas.Result.{on_ok_weaker}
use Rattle.std.specs.FinMap.{get}
use Rattle.mm_links.specs.Links.{Place}
use Rattle.mm_extents.proofs.Fields.{keeps_both}
use Rattle.mm_extents.proofs.RoomFalls.{room_kept}
use Rattle.mm_nstable.specs.Nodes.{name_in, node_at, SameNames}
use Rattle.mm_nstable.specs.Table.{table_of}
use Rattle.mm_records.specs.Constants.{constants_of, SameConstants}
use Rattle.mm_records.specs.Stands.{ns_in}
use Rattle.mm_records.specs.Map.{name_at, live_at}
use Rattle.mm_records.specs.Adding.{kept_of, IsCut}
use Rattle.mm_records.proofs.AddLaws.{cut_long, kept_least, added}
use Rattle.mm_records.proofs.adding.put_record.Goals as goal

pub take_block-requires : goal.take_block-requires
take_block-requires c = (c.requires.chosen.0, (c.requires.chosen.1.0, (c.args.len, c.requires.chosen.1.1)))

pub cut-requires-clause-live : goal.cut-requires-clause-live
cut-requires-clause-live c =
    let b = c.requires.chosen.1.1.1 in
    let t = c.in_ok-take_block.ensures.ok c.requires.chosen.0 c.requires.chosen.1.0 c.args.len c.requires.chosen.1.1.0 b in
    let name : name_at c.take_block.«new».draft.image c.args.node ≡ name_at c.args.draft.now.image c.args.node = ap (λ (ns : List ℕ). name_in (node_at ns c.args.node)) c.in_ok-take_block.ensures.kept.ns in
    (c.requires.chosen.0, (t.0, (b.rest, (t.1.0, (subst (λ (n : List ℕ). live_at t.0 n (c.args.block.at.file, c.args.block.at.ofs) ≡ Some b.rest) (sym name) t.1.1.here, b.long)))))

pub put_payload-requires : goal.put_payload-requires
put_payload-requires c =
    let b = c.requires.chosen.1.1.1 in
    let t = c.in_ok-take_block.ensures.ok c.requires.chosen.0 c.requires.chosen.1.0 c.args.len c.requires.chosen.1.1.0 b in
    let name : name_at c.take_block.«new».draft.image c.args.node ≡ name_at c.args.draft.now.image c.args.node = ap (λ (ns : List ℕ). name_in (node_at ns c.args.node)) c.in_ok-take_block.ensures.kept.ns in
    let name2 : name_at c.cut.«new».draft.image c.args.node ≡ name_at c.take_block.«new».draft.image c.args.node = ap (λ (ns : List ℕ). name_in (node_at ns c.args.node)) c.in_ok-cut.ensures.kept.ns in
    let u = c.in_ok-cut.ensures.ok c.requires.chosen.0 t.0 b.rest t.1.0 (subst (λ (n : List ℕ). live_at t.0 n (c.args.block.at.file, c.args.block.at.ofs) ≡ Some b.rest) (sym name) t.1.1.here) b.long in
    let long = cut_long c.args.len b.rest c.requires.front b.long in
    let least = kept_least c.args.len (16 + length b.rest) b.long in
    let fits = c.requires.fits in
    (c.requires.chosen.0, (u.0, (take (kept_of c.args.len (16 + length b.rest) - 16) b.rest, (u.1.0, (subst (λ (n : List ℕ). live_at u.0 n (c.args.block.at.file, c.args.block.at.ofs) ≡ Some (take (kept_of c.args.len (16 + length b.rest) - 16) b.rest)) (sym name2) u.1.1.here, omega (arith, long, least, fits))))))

pub returns-clause-ok : goal.returns-clause-ok
returns-clause-ok c = on_ok_weaker c.put_payload.result (λ f free s st b.
    let p : Place = (c.args.block.at.file, c.args.block.at.ofs) in
    let t = c.in_ok-take_block.ensures.ok free s c.args.len st b in
    let name : name_at c.take_block.«new».draft.image c.args.node ≡ name_at c.args.draft.now.image c.args.node = ap (λ (ns : List ℕ). name_in (node_at ns c.args.node)) c.in_ok-take_block.ensures.kept.ns in
    let name2 : name_at c.cut.«new».draft.image c.args.node ≡ name_at c.take_block.«new».draft.image c.args.node = ap (λ (ns : List ℕ). name_in (node_at ns c.args.node)) c.in_ok-cut.ensures.kept.ns in
    let u = c.in_ok-cut.ensures.ok free t.0 b.rest t.1.0 (subst (λ (n : List ℕ). live_at t.0 n p ≡ Some b.rest) (sym name) t.1.1.here) b.long in
    let long = cut_long c.args.len b.rest c.requires.front b.long in
    let least = kept_least c.args.len (16 + length b.rest) b.long in
    let fits = c.requires.fits in
    let w = f free u.0 (take (kept_of c.args.len (16 + length b.rest) - 16) b.rest) u.1.0 (subst (λ (n : List ℕ). live_at u.0 n p ≡ Some (take (kept_of c.args.len (16 + length b.rest) - 16) b.rest)) (sym name2) u.1.1.here) (omega (arith, long, least, fits)) in
    (w.0, (w.1.0, added s t.0 u.0 w.0 (name_at c.args.draft.now.image c.args.node) p c.args.len b.rest c.args.payload.now c.requires.front b.long fits t.1.1 (subst (λ (n : List ℕ). IsCut t.0 u.0 n p c.args.len b.rest) name u.1.1) (w.1.1)))) c.put_payload.ensures.ok

pub returns-clause-constants : goal.returns-clause-constants
returns-clause-constants c =
    let both : ns_in c.cut.«new».draft.image ≡ ns_in c.args.draft.now.image = c.in_ok-cut.ensures.kept.ns ∙ c.in_ok-take_block.ensures.kept.ns in
    let fields : constants_of c.cut.«new».counts ≡ constants_of c.args.counts = c.in_ok-cut.ensures.constants ∙ c.in_ok-take_block.ensures.constants in
    on_ok_weaker c.put_payload.result (λ f e. subst (λ (ns : List ℕ). SameConstants ns (ns_in c.put_payload.«new».draft.image)) both
    (f (λ held g. e held (ap (λ (ns : List ℕ). get (table_of ns) (name_in (node_at ns c.args.node))) (sym both) ∙ g) ∙ sym fields))) c.put_payload.ensures.constants

pub returns-clause-names : goal.returns-clause-names
returns-clause-names c =
    let both : ns_in c.cut.«new».draft.image ≡ ns_in c.args.draft.now.image = c.in_ok-cut.ensures.kept.ns ∙ c.in_ok-take_block.ensures.kept.ns in
    on_ok_weaker c.put_payload.result (λ f. subst (λ (ns : List ℕ). SameNames ns (ns_in c.put_payload.«new».draft.image)) both f) c.put_payload.ensures.names

pub returns-clause-files : goal.returns-clause-files
returns-clause-files c = on_ok_weaker c.put_payload.result (λ e. e
    ∙ room_kept c.args.draft.now.image c.cut.«new».draft.image (keeps_both c.args.draft.now.image c.take_block.«new».draft.image c.cut.«new».draft.image c.in_ok-take_block.ensures.kept c.in_ok-cut.ensures.kept)) c.put_payload.ensures.files
