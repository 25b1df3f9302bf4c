use Rattle.std.proofs.Common.{sym, ap, ◌∙◌}
use Rattle.std.proofs.lemmas.Bool.{false≢true}
use Rattle.mm_frames.specs.declared.extent_header.ExtentHeader.{ExtentHeader}
use Rattle.mm_main.proofs.HeaderSteps.{has_extent_header, extent_header_fields, constants_of}
use Rattle.mm_main.proofs.headers.extent_of.Goals as goal

pub returns-then-not-has_constants-clause-none : goal.returns-then-not-has_constants-clause-none
returns-then-not-has_constants-clause-none c = λ collection first last opened.
    false≢true (sym c.if-not-has_constants.true ∙ c.has_constants.ensures.1 (constants_of collection first last _ (extent_header_fields c.args.file.now collection first last _ c.read_extent_header-header.ensures opened.extent)))

pub returns-in_default-clause-none : goal.returns-in_default-clause-none
returns-in_default-clause-none c = λ collection first last opened.
    c.in_default.ensures.none collection opened.name (ap (λ (h : ExtentHeader). h.namespace) (extent_header_fields c.args.file.now collection first last _ c.read_extent_header-header.ensures opened.extent))

pub returns-clause-some : goal.returns-clause-some
returns-clause-some c =
    let found = c.in-Some.ensures.some in (
      found.0,
      found.2,
      record {
        size = c.requires.size;
        header = c.requires.header;
        name = found.1;
        extent = has_extent_header c.args.file.now found.0 _ c.read_extent_header-header.ensures (c.has_constants.ensures.0 c.if-not-has_constants.false) found.3;
      },
    )
