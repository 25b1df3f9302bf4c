use Rattle.mm_bucket.specs.Pairs.{Contents}
use Rattle.mm_bucket.proofs.Heading.{headed, header_is}
use Rattle.mm_bucket.proofs.bucket.put_head.Goals as goal

pub returns : goal.returns
returns c = λ ps b.
    let x : Contents = record { parent = c.args.parent; pairs = ps; next = c.args.next } in
    headed c.args.bytes.now _ c.args.count c.args.begin x _ (header_is c.args.count c.args.begin c.args.parent c.args.next ps b.many b.laid.begins c.requires.room) c.put_bucket_header.ensures b
