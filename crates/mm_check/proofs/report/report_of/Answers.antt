use Rattle.std.proofs.Common.{refl}
use Rattle.mm_check.proofs.ReportLaws.{documents_told}
use Rattle.mm_check.proofs.report.report_of.Goals as goal

pub returns : goal.returns
returns c =
    let r = c.requires in
    record {
      chains = r.chains;
      records = r.records;
      blocks = r.blocks;
      clear = r.clear;
      files = c.file_count.ensures;
      collections = c.collection_count.ensures;
      documents = documents_told c.args.name.now c.args.views.now.private r.chains r.records r.blocks c.told_count.result r.clear c.told_count.ensures;
      indexes = refl;
      buckets = refl;
    }
