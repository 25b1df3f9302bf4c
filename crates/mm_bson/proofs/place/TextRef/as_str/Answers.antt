use Rattle.std.proofs.Common.{ap, ◌∙◌}
use Rattle.std.specs.Str.{is_utf8}
use Rattle.std.proofs.lemmas.Str.{IsUtf8-from_is_utf8}
use Rattle.mm_bson.proofs.place.TextRef.as_str.Goals as goal

pub from_utf8_unchecked-requires : goal.from_utf8_unchecked-requires
from_utf8_unchecked-requires c = IsUtf8-from_is_utf8 c.as_bytes-bytes.result.now (ap is_utf8 c.as_bytes-bytes.ensures.bytes ∙ c.as_bytes-bytes.ensures.utf8)
