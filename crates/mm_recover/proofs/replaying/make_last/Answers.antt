use Rattle.std.proofs.Common.{map, string_bytes, refl}
use Rattle.std.proofs.lemmas.Result.{on_ok_weaker}
use Rattle.mm_jfiles.proofs.Asking.{some_then, some_first, made_then}
use Rattle.mm_recover.specs.Closing.{close_asks}
use Rattle.mm_recover.proofs.EachAsk.{made_by, some_by}
use Rattle.mm_recover.proofs.Replayed.{laying, parted}
use Rattle.mm_recover.proofs.replaying.make_last.Goals as goal

pub returns-in_err-lay_newer-clause-cut : goal.returns-in_err-lay_newer-clause-cut
returns-in_err-lay_newer-clause-cut g c =
    let log = c.args.log.now in
    let names = map string_bytes c.args.names.now in
    some_by _ _ _ _ (parted log.lsn log.numbers.items log.sections.items names c.unwrap_or.result c.args.last c.deref.result.now log.numbers.items c.unwrap_or.ensures c.deref.ensures.value refl c.requires.last)
    (some_first (laying c.unwrap_or.result c.deref.result.now) (close_asks names c.args.last log.numbers.items) _ _ c.lay_newer.ensures.cut)

pub returns-clause-made : goal.returns-clause-made
returns-clause-made g c =
    let log = c.args.log.now in
    let names = map string_bytes c.args.names.now in
    on_ok_weaker c.close.result
    (λ made. made_by _ _ _ _ (parted log.lsn log.numbers.items log.sections.items names c.unwrap_or.result c.args.last c.deref.result.now c.deref-2.result.now c.unwrap_or.ensures c.deref.ensures.value c.deref-2.ensures.value c.requires.last)
    (made_then (laying c.unwrap_or.result c.deref.result.now) (close_asks names c.args.last c.deref-2.result.now) _ _ _ c.in_ok-lay_newer.ensures.made made)) c.close.ensures.made

pub returns-clause-cut : goal.returns-clause-cut
returns-clause-cut g c =
    let log = c.args.log.now in
    let names = map string_bytes c.args.names.now in
    some_by _ _ _ _ (parted log.lsn log.numbers.items log.sections.items names c.unwrap_or.result c.args.last c.deref.result.now c.deref-2.result.now c.unwrap_or.ensures c.deref.ensures.value c.deref-2.ensures.value c.requires.last)
    (some_then (laying c.unwrap_or.result c.deref.result.now) (close_asks names c.args.last c.deref-2.result.now) _ _ _ c.in_ok-lay_newer.ensures.made c.close.ensures.cut)
